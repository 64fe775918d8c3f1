-- A start, or a foreign chip.
use Rattle.std.proofs.Common.{◌≡◌, ℕ, None, Option, refl, sym, ap, subst, ◌∙◌, arith}
use Rattle.std.specs.Prelude.{drop, length}
use Rattle.device_station.specs.declared.port.stage.Stage.{Stage}
use Rattle.device_station.specs.declared.port.stage.Stage.TheVariants.{Booted, Made}
use Rattle.device_station.specs.recorded.Record.{calls_in, recalled}
use Rattle.device_station.specs.port.State.{IsSteady, past_start}
use Rattle.relations.specs.declared.steady.Steady.{Steady}
use Rattle.device_station.proofs.PortLeaps.{unknown}
use Rattle.device_station.proofs.PortStages.{early_of, made_of, foreign_alone}
use Rattle.device_station.proofs.port.device.DevicePort.start.Goals as goal

pub returns-in-Ok : goal.returns-in-Ok
returns-in-Ok c =
    let port = c.self.inside in
    let early : past_start port.stage ≡ None = subst (λ p. past_start p.stage ≡ None) (sym c.self.view_is) c.requires in
    let steady = made_of port.stage _ _ _ (early_of port.stage early) c.self.invariant.2 in
    let same = c.load.ensures.calls.1 tt in
    rw (← c.self.view_is) (
      early,
      record {
        stage = refl;
        leaves = record { flash = same; station = c.load.ensures.station; idle = (ap (λ r. drop port.calls_past (calls_in r)) same ∙ steady.1, steady.2) };
        starts = c.in-Ok.ensures.starts;
        fresh = c.in-Ok.ensures.fresh;
        known = λ settings room is. c.in-Ok.ensures.known settings room is;
      },
    )

pub returns-in-Err : goal.returns-in-Err
returns-in-Err c =
    let port = c.self.inside in
    let early : past_start port.stage ≡ None = subst (λ p. past_start p.stage ≡ None) (sym c.self.view_is) c.requires in
    let made = early_of port.stage early in
    let steady = made_of port.stage _ _ _ made c.self.invariant.2 in
    let same = c.load.ensures.calls.1 tt in
    let foreign = (c.in-Err.ensures.reliable tt).1 in
    rw (← c.self.view_is) (rw early (
      refl,
      record {
        stage = made;
        leaves = record { flash = same; station = c.load.ensures.station; idle = (ap (λ r. drop port.calls_past (calls_in r)) same ∙ steady.1, steady.2) };
        foreign = c.in-Err.ensures.foreign foreign;
        not_left = λ left. foreign_alone _ foreign (c.in-Err.ensures.left left);
      },
    ))

-- A port that was only made does not know what is due.
pub invariant_of-self-in-Err : goal.invariant_of-self-in-Err
invariant_of-self-in-Err c =
    let port = c.self.inside in
    let early : past_start port.stage ≡ None = subst (λ p. past_start p.stage ≡ None) (sym c.self.view_is) c.requires in
    let made = early_of port.stage early in
    let steady = made_of port.stage _ _ _ made c.self.invariant.2 in
    let same = c.load.ensures.calls.1 tt in (
      omega (arith, c.self.invariant.0, ap (λ r. length (calls_in r)) same),
      c.self.invariant.1,
      rw made (c.in-Err.ensures.refused, ap (λ r. drop port.calls_past (calls_in r)) same ∙ steady.1, steady.2),
      unknown _ _ port.stage _ (ap (λ (s : Steady). s.inputs) c.unknown-self-inside.ensures),
    )
