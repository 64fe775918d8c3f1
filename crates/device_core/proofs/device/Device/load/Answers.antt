-- What the store starts with is what the device starts with.
use Rattle.std.proofs.lemmas.Result.{err_from_is_err_and}
use Rattle.device_core.proofs.Steps.{as_started}
use Rattle.device_core.proofs.device.Device.load.Goals as goal

pub returns-in_err-load-clause-known : goal.returns-in_err-load-clause-known
returns-in_err-load-clause-known g c =
    let p = err_from_is_err_and c.from_residual.result c.from_residual.ensures.1 in rw (← c.self.view_is) (λ settings room starts. rw (p.1, p.2) (c.in_err-load.ensures.known settings room starts))

pub returns-in_err-load-clause-left : goal.returns-in_err-load-clause-left
returns-in_err-load-clause-left g c =
    let p = err_from_is_err_and c.from_residual.result c.from_residual.ensures.1 in rw (← c.self.view_is) (λ left. rw (p.1, p.2) (c.in_err-load.ensures.left left))

pub returns-in_err-load-clause-blank : goal.returns-in_err-load-clause-blank
returns-in_err-load-clause-blank g c = rw (← c.self.view_is) c.in_err-load.ensures.blank

pub returns-in_err-load-clause-foreign : goal.returns-in_err-load-clause-foreign
returns-in_err-load-clause-foreign g c =
    let p = err_from_is_err_and c.from_residual.result c.from_residual.ensures.1 in rw (← c.self.view_is) (rw (p.1, p.2) c.in_err-load.ensures.foreign)

pub returns-in_err-load-clause-reliable : goal.returns-in_err-load-clause-reliable
returns-in_err-load-clause-reliable g c =
    let p = err_from_is_err_and c.from_residual.result c.from_residual.ensures.1 in rw (← c.self.view_is) (λ reliable. rw (p.1, p.2) (c.in_err-load.ensures.reliable reliable))

pub returns-clause-starts : goal.returns-clause-starts
returns-clause-starts g c = rw (← c.self.view_is) (rw c.forget.ensures c.in_ok-load.ensures.starts)

pub returns-clause-blank : goal.returns-clause-blank
returns-clause-blank g c = rw (← c.self.view_is) c.in_ok-load.ensures.blank

pub returns-clause-strange : goal.returns-clause-strange
returns-clause-strange g c = rw (← c.self.view_is) c.in_ok-load.ensures.strange

pub returns-clause-known : goal.returns-clause-known
returns-clause-known g c = rw (← c.self.view_is) (λ settings room starts.
    let known = c.in_ok-load.ensures.known settings room starts in
    rw c.forget.ensures (as_started c.self.inside.given c.load.new.self.values settings room c.in_ok-load.ensures.running c.in_ok-load.ensures.fresh.0 c.in_ok-load.ensures.fresh.1 known.0 known.1))
