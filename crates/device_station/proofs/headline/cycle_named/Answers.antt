-- A start, a run of the station, and a start on what its device left.
use Rattle.std.proofs.Common.{◌≡◌, [], refl, sym, ap, subst, ◌∙◌, inl, inr}
use Rattle.std.specs.Prelude.{flat_map}
use Rattle.std.proofs.lemmas.Result.{IfErr-weaker, IfOk-weaker, err_from_is_err_and}
use Rattle.settings_journal.specs.Image.{LeftByDevice}
use Rattle.settings_journal.specs.declared.journal.BootFault.{BootFault}
use Rattle.settings_journal.specs.declared.journal.BootFault.TheVariants.{FlashFault, Foreign}
use Rattle.device_core.specs.State.{station_named}
use Rattle.device_core.specs.Cycle.{RefusesAfter, Restarts}
use Rattle.device_station.specs.State.{State as Whole, of_device}
use Rattle.device_station.specs.Runs.{IsStationRefused, StationRestarts}
use Rattle.device_station.proofs.Cycles.{begins_from, device_runs, refused_cycled, refused_first, restarts_cycled}
use Rattle.device_station.proofs.headline.cycle_named.Goals as goal

pub returns-clause-headline : goal.returns-clause-headline
returns-clause-headline g c = λ left first room starts.
    let begun : Whole g.row.F.Denot = record { device = c.in_ok-device.device; services = c.services_of-services.result } in
    let here = c.in_ok-device.ensures in
    let begins = begins_from g.F.Flash (station_named c.args.identity c.args.real c.args.options c.args.named) c.args.flash c.in_ok-device.device here.station here.known here.fresh here.starts here.same here.cause here.calls in
    IfOk-weaker c.restart.result
    (λ again. Restarts g.F.Flash _ (station_named c.args.identity c.args.real c.args.options c.args.named) c.args.flash first room c.run.ensures.heard [] (flat_map of_device c.run.ensures.turns) again.device)
    (λ again. StationRestarts g.F.Flash _ (station_named c.args.identity c.args.real c.args.options c.args.named) c.args.flash first room c.args.events.now _ _ again)
    (λ again alone. restarts_cycled g.F.Flash _ (station_named c.args.identity c.args.real c.args.options c.args.named) c.args.flash first room c.in_ok-device.device begun c.run.new.self _ _ _
    refl c.services_of-services.ensures begins c.run.ensures again alone)
    (c.restart.ensures.headline (station_named c.args.identity c.args.real c.args.options c.args.named) c.args.flash first room c.in_ok-device.device c.run.ensures.heard [] (flat_map of_device c.run.ensures.turns) left starts begins
    (device_runs g.F.Flash c.in_ok-device.device begun c.run.new.self _ _ _ refl c.run.ensures))

pub returns-clause-fresh : goal.returns-clause-fresh
returns-clause-fresh g c =
    c.restart.ensures.fresh (station_named c.args.identity c.args.real c.args.options c.args.named)
    (c.run.ensures.alone.runs.same ∙ c.in_ok-device.ensures.station)

pub returns-clause-left : goal.returns-clause-left
returns-clause-left g c = λ left.
    c.restart.ensures.left (c.run.ensures.alone.runs.stretch.safe.left
    (subst LeftByDevice (sym c.in_ok-device.ensures.same) left))

pub returns-in_err-device-clause-refused : goal.returns-in_err-device-clause-refused
returns-in_err-device-clause-refused g c =
    let p = err_from_is_err_and c.from_residual.result c.from_residual.ensures.1 in
    rw (p.1, p.2) (inl (
      refl,
      refused_first g.F.Flash c.args.flash _ _ c.in_err-device.ensures.cause c.in_err-device.ensures.same c.in_err-device.ensures.calls c.in_err-device.ensures.foreign,
    ))

pub returns-in_err-device-clause-left : goal.returns-in_err-device-clause-left
returns-in_err-device-clause-left g c = λ left.
    let p = err_from_is_err_and c.from_residual.result c.from_residual.ensures.1 in rw (p.1, p.2) (c.in_err-device.ensures.left left)

-- A device whose flash does not fail starts on what a device left.
pub returns-in_err-device-clause-reliable : goal.returns-in_err-device-clause-reliable
returns-in_err-device-clause-reliable g c = λ reliable powers left.
    let failed = c.in_err-device.ensures.left left in
    let foreign = (c.in_err-device.ensures.reliable reliable).1 in
    let e : ◌≡◌ {A = BootFault} FlashFault Foreign = sym failed ∙ foreign in cc

pub returns-clause-refused : goal.returns-clause-refused
returns-clause-refused g c =
    let begun : Whole g.row.F.Denot = record { device = c.in_ok-device.device; services = c.services_of-services.result } in
    let here = c.in_ok-device.ensures in
    let begins = begins_from g.F.Flash (station_named c.args.identity c.args.real c.args.options c.args.named) c.args.flash c.in_ok-device.device here.station here.known here.fresh here.starts here.same here.cause here.calls in
    IfErr-weaker c.restart.result
    (λ refused. RefusesAfter g.F.Flash _ (station_named c.args.identity c.args.real c.args.options c.args.named) c.args.flash c.run.ensures.heard [] (flat_map of_device c.run.ensures.turns) refused.0 refused.1)
    (λ refused. IsStationRefused g.F.Flash _ (station_named c.args.identity c.args.real c.args.options c.args.named) c.args.flash c.args.events.now _ _ refused.0 refused.1)
    (λ refused alone. inr (refused_cycled g.F.Flash _ (station_named c.args.identity c.args.real c.args.options c.args.named) c.args.flash c.in_ok-device.device begun c.run.new.self _ _ _
    refl c.services_of-services.ensures begins c.run.ensures refused.0 refused.1 alone))
    (c.restart.ensures.refused (station_named c.args.identity c.args.real c.args.options c.args.named) c.args.flash c.in_ok-device.device c.run.ensures.heard [] (flat_map of_device c.run.ensures.turns) begins
    (device_runs g.F.Flash c.in_ok-device.device begun c.run.new.self _ _ _ refl c.run.ensures))

pub returns-clause-reliable : goal.returns-clause-reliable
returns-clause-reliable g c = λ reliable powers left.
    let fine = ap (λ l. l.values.has_failed) c.in_ok-device.ensures.fresh in
    let still = c.run.ensures.alone.reliable (c.in_ok-device.ensures.reliable reliable) fine in
    c.restart.ensures.reliable still.0 powers (c.run.ensures.alone.runs.stretch.safe.left (subst LeftByDevice (sym c.in_ok-device.ensures.same) left))
