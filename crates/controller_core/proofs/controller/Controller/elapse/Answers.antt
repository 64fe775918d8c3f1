-- A leap: units with which nothing is due, and then one more.
use Rattle.std.proofs.Common.{◌≡◌, ◌-◌, suc, refl, sym, ap, ◌∙◌, arith}
use Rattle.controller_core.specs.stored.State.{Controlling}
use Rattle.controller_core.proofs.Leaping.{leap_ends, leap_frames, leap_last, leap_state}
use Rattle.controller_core.proofs.ExchangeBegins.{ticks_begin}
use Rattle.controller_core.proofs.controller.Controller.elapse.Goals as goal

pub returns-then-units-eq0-clause-state : goal.returns-then-units-eq0-clause-state
returns-then-units-eq0-clause-state c = rw c.if-units-eq0.true refl

pub returns-then-units-eq0-clause-frames : goal.returns-then-units-eq0-clause-frames
returns-then-units-eq0-clause-frames c = rw (c.if-units-eq0.true, c.clear.ensures) refl

pub returns-then-units-eq0-clause-last : goal.returns-then-units-eq0-clause-last
returns-then-units-eq0-clause-last c before earlier = absurd (omega (arith, c.if-units-eq0.true, earlier))

pub returns-then-units-eq0-clause-ends : goal.returns-then-units-eq0-clause-ends
returns-then-units-eq0-clause-ends c before earlier = absurd (omega (arith, c.if-units-eq0.true, earlier))

pub returns-then-units-eq0-clause-exchanging : goal.returns-then-units-eq0-clause-exchanging
returns-then-units-eq0-clause-exchanging c e = e

pub returns-clause-state : goal.returns-clause-state
returns-clause-state c =
    let count : c.args.units ≡ suc (c.args.units - 1) = omega arith in
    leap_state c.args.self.now c.leap.new.self c.tick.new.self c.args.units (c.args.units - 1) count c.leap.ensures.state c.tick.ensures.state

pub returns-clause-frames : goal.returns-clause-frames
returns-clause-frames c =
    let count : c.args.units ≡ suc (c.args.units - 1) = omega arith in
    leap_frames c.args.self.now c.leap.new.self _ c.args.units (c.args.units - 1) count c.leap.ensures.state c.leap.ensures.none c.tick.ensures.frames

pub returns-clause-last : goal.returns-clause-last
returns-clause-last c =
    let count : c.args.units ≡ suc (c.args.units - 1) = omega arith in
    leap_last c.args.self.now c.args.units (c.args.units - 1) count c.leap.ensures.none

pub returns-clause-ends : goal.returns-clause-ends
returns-clause-ends c =
    let count : c.args.units ≡ suc (c.args.units - 1) = omega arith in
    leap_ends c.args.self.now c.args.units (c.args.units - 1) count c.leap.ensures.phase

pub returns-clause-exchanging : goal.returns-clause-exchanging
returns-clause-exchanging c e =
    ticks_begin c.args.units c.args.self.now (sym (ap (λ (n : Controlling). n.live.phase) (returns-clause-state c)) ∙ e)
