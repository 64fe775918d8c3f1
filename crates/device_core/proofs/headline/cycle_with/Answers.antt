-- A start, a run, and a start on what they left.
use Rattle.std.proofs.Common.{◌≡◌, false, refl, sym, ap, subst, ◌∙◌, inl, inr}
use Rattle.std.proofs.lemmas.Result.{IfErr-weaker, err_from_is_err_and}
use Rattle.settings_journal.specs.Image.{LeftByDevice}
use Rattle.settings_journal.specs.declared.journal.BootFault.{BootFault}
use Rattle.settings_journal.specs.declared.journal.BootFault.TheVariants.{FlashFault, Foreign}
use Rattle.device_core.specs.State.{station_with}
use Rattle.device_core.specs.Cycle.{IsRefused, IsStartedFrom, RefusesAfter}
use Rattle.device_core.proofs.Restarts.{refuses_from}
use Rattle.device_core.proofs.headline.cycle_with.Goals as goal

pub returns-clause-headline : goal.returns-clause-headline
returns-clause-headline g c = λ left first room starts.
    let here = c.in_ok-device.ensures in
    let begins : IsStartedFrom g.F.Flash (station_with c.args.identity c.args.real c.args.options) c.args.flash c.in_ok-device.device = record {
      station_is = here.station;
      known = here.known;
      fresh = here.fresh;
      starts = here.starts;
      image_is = here.same;
      failures_are = here.cause;
      none_asked = here.calls;
    } in
    c.restart.ensures.headline (station_with c.args.identity c.args.real c.args.options) c.args.flash first room c.in_ok-device.device c.args.events.now _ _ left starts begins c.run.ensures.runs

pub returns-clause-fresh : goal.returns-clause-fresh
returns-clause-fresh g c = c.restart.ensures.fresh (station_with c.args.identity c.args.real c.args.options) (c.run.ensures.runs.same ∙ c.in_ok-device.ensures.station)

pub returns-clause-left : goal.returns-clause-left
returns-clause-left g c = λ left.
    c.restart.ensures.left (c.run.ensures.runs.stretch.safe.left (subst LeftByDevice (sym c.in_ok-device.ensures.same) left))

pub returns-in_err-device-clause-refused : goal.returns-in_err-device-clause-refused
returns-in_err-device-clause-refused g c =
    let p = err_from_is_err_and c.from_residual.result c.from_residual.ensures.1 in
    rw (p.1, p.2) (inl (
      refl,
      refuses_from g.F.Flash c.args.flash _ _ c.in_err-device.ensures.cause c.in_err-device.ensures.same c.in_err-device.ensures.calls c.in_err-device.ensures.foreign,
    ))

pub returns-in_err-device-clause-left : goal.returns-in_err-device-clause-left
returns-in_err-device-clause-left g c = λ left.
    let p = err_from_is_err_and c.from_residual.result c.from_residual.ensures.1 in rw (p.1, p.2) (c.in_err-device.ensures.left left)

-- A device whose flash does not fail starts on what a device left.
pub returns-in_err-device-clause-reliable : goal.returns-in_err-device-clause-reliable
returns-in_err-device-clause-reliable g c = λ reliable powers left.
    let failed = c.in_err-device.ensures.left left in
    let foreign = (c.in_err-device.ensures.reliable reliable).1 in
    let e : ◌≡◌ {A = BootFault} FlashFault Foreign = sym failed ∙ foreign in cc

pub returns-clause-refused : goal.returns-clause-refused
returns-clause-refused g c =
    let here = c.in_ok-device.ensures in
    let begins : IsStartedFrom g.F.Flash (station_with c.args.identity c.args.real c.args.options) c.args.flash c.in_ok-device.device = record {
      station_is = here.station;
      known = here.known;
      fresh = here.fresh;
      starts = here.starts;
      image_is = here.same;
      failures_are = here.cause;
      none_asked = here.calls;
    } in
    IfErr-weaker c.restart.result
    (λ refused. RefusesAfter g.F.Flash _ (station_with c.args.identity c.args.real c.args.options) c.args.flash c.args.events.now _ _ refused.0 refused.1)
    (λ refused. IsRefused g.F.Flash _ (station_with c.args.identity c.args.real c.args.options) c.args.flash c.args.events.now _ _ refused.0 refused.1)
    (λ refused after. inr after)
    (c.restart.ensures.refused (station_with c.args.identity c.args.real c.args.options) c.args.flash c.in_ok-device.device c.args.events.now _ _ begins c.run.ensures.runs)

pub returns-clause-reliable : goal.returns-clause-reliable
returns-clause-reliable g c = λ reliable powers left.
    let fine : c.in_ok-device.device.live.values.has_failed ≡ false = ap (λ l. l.values.has_failed) c.in_ok-device.ensures.fresh in
    let still = c.run.ensures.reliable (c.in_ok-device.ensures.reliable reliable) fine in
    c.restart.ensures.reliable still.0 powers (c.run.ensures.runs.stretch.safe.left (subst LeftByDevice (sym c.in_ok-device.ensures.same) left))
