use Rattle.std.proofs.Common.{◌≡◌, ◌∙◌, refl, subst, sym, ap}
use Rattle.pn_values.specs.demo.Demo.{demo_real}
use Rattle.settings_journal.specs.Image.{LeftByDevice, IsForeign, StartsWith}
use Rattle.device_core.specs.Cycle.{started}
use Rattle.script_session.specs.declared.power.Power.TheVariants.{On}
use Rattle.script_session.specs.Power.{IsOver, Runs}
use Rattle.script_session.specs.Said.{demo_started}
use Rattle.script_session.proofs.Begins.{begun_runs}
use Rattle.script_session.proofs.power.Power.start.Goals as goal

-- What is loaded is what the device starts with.
pub returns-in-Ok-clause-stored : goal.returns-in-Ok-clause-stored
returns-in-Ok-clause-stored c settings room reliable left starts =
    let made = c.unstarted_named-device.ensures.flash in
    let given : c.unstarted_named-device.result.station.real ≡ demo_real =
    ap (λ s. s.real) c.unstarted_named-device.ensures.station ∙ c.demo_modules-modules.ensures in
    let live = (rw made at c.in-Ok.ensures.known) settings room starts ∙ ap (λ r. started r settings room) given in
    subst (Runs (demo_started c.args.options c.args.serves settings room)) (sym c.begin.ensures)
    (begun_runs c.args.options c.args.serves settings room c.load.new.self
    (c.in-Ok.ensures.station
    ∙ rw (c.demo_identity-identity.ensures, c.demo_modules-modules.ensures, c.records.ensures) at c.unstarted_named-device.ensures.station)
    live ((rw made at c.in-Ok.ensures.reliable) reliable).0 (subst LeftByDevice (sym (rw made at c.in-Ok.ensures.same)) left))

pub returns-in-Ok-clause-blank : goal.returns-in-Ok-clause-blank
returns-in-Ok-clause-blank c reliable blank =
    let at_first = (rw c.unstarted_named-device.ensures.flash at c.in-Ok.ensures.blank) blank in
    returns-in-Ok-clause-stored c _ _ reliable at_first.0 at_first.1

pub returns-in-Err-clause-back : goal.returns-in-Err-clause-back
returns-in-Err-clause-back c =
    let made = c.unstarted_named-device.ensures.flash in
    let same = rw made at c.in-Err.ensures.same in
    rw c.into_flash.ensures (
      rw made at c.in-Err.ensures.cause,
      λ foreign. subst IsForeign (sym same) ((rw made at c.in-Err.ensures.foreign) foreign),
      (same, ap (λ chip. chip.armed) (rw made at c.in-Err.ensures.calls)),
    )

pub returns-in-Ok-clause-back : goal.returns-in-Ok-clause-back
returns-in-Ok-clause-back c =
    let made = c.unstarted_named-device.ensures.flash in
    let given : c.unstarted_named-device.result.station.real ≡ demo_real =
    ap (λ s. s.real) c.unstarted_named-device.ensures.station ∙ c.demo_modules-modules.ensures in
    let same = rw made at c.in-Ok.ensures.same in
    subst (λ demo. IsOver c.args.options c.args.serves c.args.flash (On demo)) (sym c.begin.ensures) (
      c.in-Ok.ensures.station
          ∙ rw (c.demo_identity-identity.ensures, c.demo_modules-modules.ensures, c.records.ensures) at c.unstarted_named-device.ensures.station,
      c.in-Ok.ensures.fresh ∙ ap (λ r. started r c.load.new.self.live.values.stored c.load.new.self.live.values.room) given,
      refl,
      subst (λ image. StartsWith image c.load.new.self.live.values.stored c.load.new.self.live.values.room) (sym same) (rw made at c.in-Ok.ensures.starts),
      (same, ap (λ chip. chip.armed) (rw made at c.in-Ok.ensures.calls)),
    )
