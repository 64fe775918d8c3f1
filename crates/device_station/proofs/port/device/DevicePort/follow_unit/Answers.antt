-- The outbox of the device is empty before and after.
use Rattle.std.proofs.Common.{◌≡◌, ◌≤◌, ◌∙◌, ℕ, List, [], drop, map, sym, ap, subst, arith}
use Rattle.arrayvec.specs.ArrayVec.{ArrayVec}
use Rattle.frame_codec.specs.Outbox.{boxed}
use Rattle.device_station.specs.Leaps.{services_due}
use Rattle.device_station.specs.recorded.Record.{recalled}
use Rattle.device_station.specs.port.State.{IsSteady, State}
use Rattle.device_station.specs.contracts.port.device.DevicePort.{the_view}
use Rattle.device_station.proofs.port.device.DevicePort.follow_unit.Goals as goal

abbrev with_frames : State → List (List ℕ) → State
with_frames port frames = record port { frames = frames }

pub returns-clause-same : goal.returns-clause-same
returns-clause-same c =
    let port = c.self.inside in
    let none : boxed c.clear.new.self ≡ [] = ap (λ (xs : List (ArrayVec ℕ)). map (λ (f : ArrayVec ℕ). f.items) xs) c.clear.ensures in
    let free = subst (λ (p : State). p.frames ≡ []) (sym c.self.view_is) c.requires.free in
    ap (with_frames (the_view port)) (none ∙ sym free) ∙ c.self.view_is

pub invariant_of-self : goal.invariant_of-self
invariant_of-self c =
    let port = c.self.inside in
    let none : boxed c.clear.new.self ≡ [] = ap (λ (xs : List (ArrayVec ℕ)). map (λ (f : ArrayVec ℕ). f.items) xs) c.clear.ensures in
    let free = subst (λ (p : State). p.frames ≡ []) (sym c.self.view_is) c.requires.free in (
      c.self.invariant.0,
      omega arith,
      subst (λ (f : List (List ℕ)). IsSteady port.stage port.device.live.values.has_failed (drop port.calls_past (recalled port.device.flash)) f) (free ∙ sym none) c.self.invariant.2,
      c.self.invariant.3,
    )

pub follow_unit-requires : goal.follow_unit-requires
follow_unit-requires c = subst (λ (p : State). 1 ≤ services_due p.device.live.values c.args.services.now) (sym c.self.view_is) c.requires.due

pub returns-clause-ticks : goal.returns-clause-ticks
returns-clause-ticks c = rw (← c.self.view_is) c.follow_unit.ensures
