-- More units pass, or the rest of them remains.
use Rattle.std.proofs.Common.{◌≡◌, ◌+◌, ◌-◌, ℕ, Bool, true, false, refl, sym, ap, subst, ◌∙◌, arith}
use Rattle.controller_core.specs.stored.State.{Controlling}
use Rattle.controller_abi.specs.State.{is_over, is_stopped}
use Rattle.controller_abi.specs.Steps.{Ticks}
use Rattle.controller_abi.proofs.Leaps.{free_of, idle_of, ticks_on}
use Rattle.controller_abi.proofs.port.Port.pass_by_leaps.Goals as goal

pub loop-left-init : goal.loop-left-init
loop-left-init c =
    let none : 0 ≡ c.args.units - c.args.units = omega arith in
    let was = c.is_over-was_over.ensures ∙ ap is_over c.state.ensures ∙ ap (λ (controller : Controlling). is_over controller.live.phase) c.controller.ensures in
    record {
      few = omega arith;
      ticks = subst (λ (n : ℕ). Ticks c.is_over-was_over.result n c.args.self.now c.args.self.now) none refl;
      free = subst (λ (over : Bool). is_stopped over c.args.self.now ≡ false) (sym was) (free_of c.args.self.now c.requires);
    }

pub leap_on-left-requires : goal.leap_on-left-requires
leap_on-left-requires c = record { idle = idle_of c.loop-left.self _ c.loop-left.invariant.free; some = omega arith }

pub loop-left-preserved : goal.loop-left-preserved
loop-left-preserved c =
    let few = c.leap_on-left.ensures.few in
    let count : c.leap_on-left.result + (c.args.units - c.loop-left.left) ≡ c.args.units - (c.loop-left.left - c.leap_on-left.result) = omega (arith, few, c.loop-left.invariant.few) in
    record {
      few = omega (arith, c.loop-left.invariant.few);
      ticks = subst (λ (n : ℕ). Ticks c.is_over-was_over.result n c.args.self.now c.leap_on-left.new.self) count
          (ticks_on _ (c.args.units - c.loop-left.left) c.leap_on-left.result c.args.self.now c.loop-left.self c.leap_on-left.new.self c.loop-left.invariant.ticks
          (c.leap_on-left.ensures.ticks _ c.loop-left.invariant.free));
      free = sym c.if-is_stopped.ensures;
    }

-- All units passed.
pub returns-then-left-eq0 : goal.returns-then-left-eq0
returns-then-left-eq0 c =
    let was = c.is_over-was_over.ensures ∙ ap is_over c.state.ensures ∙ ap (λ (controller : Controlling). is_over controller.live.phase) c.controller.ensures in
    let few = c.leap_on-left.ensures.few in
    let none : c.loop-left.left - c.leap_on-left.result ≡ 0 = c.if-left-eq0.true in
    let count : c.leap_on-left.result + (c.args.units - c.loop-left.left) ≡ c.args.units - 0 = omega (arith, few, none, c.loop-left.invariant.few) in
    record {
      few = omega arith;
      ticks = subst (λ (over : Bool). Ticks over (c.args.units - 0) c.args.self.now c.leap_on-left.new.self) was
          (subst (λ (n : ℕ). Ticks c.is_over-was_over.result n c.args.self.now c.leap_on-left.new.self) count
          (ticks_on _ (c.args.units - c.loop-left.left) c.leap_on-left.result c.args.self.now c.loop-left.self c.leap_on-left.new.self c.loop-left.invariant.ticks
          (c.leap_on-left.ensures.ticks _ c.loop-left.invariant.free)));
      stops = λ left. absurd (left refl);
    }

-- All units passed except those that remain.
pub returns-then-is_stopped : goal.returns-then-is_stopped
returns-then-is_stopped c =
    let was = c.is_over-was_over.ensures ∙ ap is_over c.state.ensures ∙ ap (λ (controller : Controlling). is_over controller.live.phase) c.controller.ensures in
    let few = c.leap_on-left.ensures.few in
    let left : ℕ = c.loop-left.left - c.leap_on-left.result in
    let count : c.leap_on-left.result + (c.args.units - c.loop-left.left) ≡ c.args.units - left = omega (arith, few, c.loop-left.invariant.few) in
    record {
      few = omega (arith, c.loop-left.invariant.few);
      ticks = subst (λ (over : Bool). Ticks over (c.args.units - left) c.args.self.now c.leap_on-left.new.self) was
          (subst (λ (n : ℕ). Ticks c.is_over-was_over.result n c.args.self.now c.leap_on-left.new.self) count
          (ticks_on _ (c.args.units - c.loop-left.left) c.leap_on-left.result c.args.self.now c.loop-left.self c.leap_on-left.new.self c.loop-left.invariant.ticks
          (c.leap_on-left.ensures.ticks _ c.loop-left.invariant.free)));
      stops = λ _. subst (λ over. is_stopped over c.leap_on-left.new.self ≡ true) was (sym c.if-is_stopped.ensures);
    }
