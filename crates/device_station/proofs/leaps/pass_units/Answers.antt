-- The services by their own leap.
use Rattle.std.proofs.Common.{◌≡◌, ◌-◌, ℕ, refl, List, [], map, sym, ap, subst, ◌∙◌}
use Rattle.std.specs.Prelude.{◌≤◌}
use Rattle.arrayvec.specs.ArrayVec.{ArrayVec}
use Rattle.frame_codec.specs.Outbox.{boxed}
use Rattle.pn_values.specs.declared.settings.Settings.{Settings}
use Rattle.device_station.specs.Leaps.{due_at, services_due}
use Rattle.device_station.specs.Serving.{observed, ticked}
use Rattle.device_station.proofs.Leaping.{due_of_parts, lost_follows, one_before, ticks_follow, within, within_at}
use Rattle.device_station.proofs.leaps.pass_units.Goals as goal

pub returns-then-is_lost : goal.returns-then-is_lost
returns-then-is_lost c = λ identity values lost running.
    let none : boxed c.clear.new.self ≡ [] = ap (λ (xs : List (ArrayVec ℕ)). map (λ (f : ArrayVec ℕ). f.items) xs) c.clear.ensures in
    lost_follows identity values c.args.units (c.args.units - 1) c.args.services.now (boxed c.clear.new.self) (one_before c.args.units c.requires.some) (lost ∙ c.if-is_lost.true) none

pub pass-requires : goal.pass-requires
pass-requires c =
    within_at (c.args.units - 1) c.args.is_lost c.args.running.now c.args.services.now c.if-is_lost.false
    (subst (λ (n : ℕ). n ≤ due_at c.args.is_lost c.args.running.now c.args.services.now) (one_before c.args.units c.requires.some) c.requires.due)

pub returns : goal.returns
returns c = λ identity values lost running.
    let count = one_before c.args.units c.requires.some in
    let there = lost ∙ c.if-is_lost.false in
    let due = due_of_parts c.args.units values c.args.services.now c.args.is_lost c.args.running.now lost running c.requires.due in
    let seen = (within (c.args.units - 1) values c.args.services.now there (subst (λ (n : ℕ). n ≤ services_due values c.args.services.now) count due)).1 in
    let silent : boxed c.clear.new.self ≡ [] = ap (λ (xs : List (ArrayVec ℕ)). map (λ (f : ArrayVec ℕ). f.items) xs) c.clear.ensures in
    ticks_follow identity values c.args.units (c.args.units - 1) c.args.services.now c.observe.new.self (boxed c.tick.new.outbox) count there seen c.pass.ensures.none c.pass.ensures.same
    (c.observe.ensures ∙ (ap (λ (r : Settings). observed c.tick.new.self r) (sym running) ∙ ap (λ s. observed s values.running) (c.tick.ensures.state ∙ ap ticked c.pass.ensures.state)))
    (c.tick.ensures.frames ∙ rw (silent, c.pass.ensures.state) refl)
