-- Cyclic data is accepted in silence, or nothing changes.
use Rattle.std.proofs.Common.{◌-◌, ℕ, List, ap, drop, subst, take, arith}
use Rattle.arrayvec.specs.ArrayVec.{ArrayVec}
use Rattle.device_frames.specs.declared.event.Event.TheVariants.{Frame}
use Rattle.device_frames.specs.declared.note.Note.TheVariants.{Done}
use Rattle.device_station.specs.port.State.{State}
use Rattle.device_station.specs.port.Steps.{Takes}
use Rattle.device_station.specs.port.Pace.{caught_up}
use Rattle.device_station.proofs.PortStages.{is_free}
use Rattle.device_station.proofs.ServedBarring.{nothing_waits}
use Rattle.device_station.proofs.ServedComposed.{cyclic_paced, silent_answers}
use Rattle.device_station.proofs.ServedPacing.{resting_of}
use Rattle.device_station.proofs.ServedTicking.{at}
use Rattle.device_station.proofs.port.served.Port.take_cyclic.Goals as goal

pub invariant_of-self : goal.invariant_of-self
invariant_of-self c =
    let all = c.self.inside in
    cyclic_paced c.hear_cyclic.result all.rest all.limit all.port c.hear_cyclic.new.self all.services (drop all.frames_past all.own.frames) (record { items = c.at_most.result.now }) c.hear_cyclic.ensures.taken
    (is_free c.hear_cyclic.new.self c.hear_cyclic.ensures.free).frames c.hear_cyclic.ensures.left c.self.invariant

pub returns-clause-taken : goal.returns-clause-taken
returns-clause-taken c = λ is.
    let all = c.self.inside in
    let laws = c.quiet_units_are_ticks.ensures in
    let frames = drop all.frames_past all.own.frames in
    let bytes : ArrayVec ℕ = record { items = take 1519 c.args.octets.now } in
    let new = c.hear_cyclic.new.self in
    let free = is_free new c.hear_cyclic.ensures.free in
    let takes : Takes all.port (Frame bytes) Done new = subst (λ (b : List ℕ). Takes all.port (Frame (record { items = b })) Done new) c.at_most.ensures.value (c.hear_cyclic.ensures.taken is) in
    let fetched = (resting_of all.rest all.limit all.port.device.live.values all.services frames (omega (arith, c.if-self-eq0.false)) c.self.invariant).fetched in
    rw (← c.self.view_is) (
      silent_answers laws.count laws.news c.conflicts_are_noticed.ensures c.only_conflicts_are_counted.ensures all.rest all.limit all.serves all.port new all.services frames bytes
          (omega (arith, c.if-self-eq0.false)) c.self.invariant (c.is_steady.ensures.open c.if-not-is_steady.false) takes free.frames,
      nothing_waits new.calls new.frames frames free.calls free.frames fetched,
    )

pub returns-clause-left : goal.returns-clause-left
returns-clause-left c = λ is.
    let all = c.self.inside in
    rw (← c.self.view_is) (ap (λ (p : State). at all.serves p (caught_up (all.limit - all.rest) all.services) (drop all.frames_past all.own.frames)) (c.hear_cyclic.ensures.left is))

pub returns-clause-closed : goal.returns-clause-closed
returns-clause-closed c = λ is. rw (← c.self.view_is) (c.is_steady.ensures.closed c.if-not-is_steady.false)
