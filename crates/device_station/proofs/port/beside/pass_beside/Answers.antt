-- The unit with which something is due of the services, or units before it.
use Rattle.std.proofs.Common.{◌≡◌, ◌∙◌, None, Bool, ap, subst, sym, arith}
use Rattle.device_core.specs.State as device
use Rattle.device_core.specs.State.{Station}
use Rattle.device_station.specs.declared.recorded.flash.RecordedFlash.{RecordedFlash}
use Rattle.pn_values.specs.declared.settings.Settings.{Settings}
use Rattle.settings_journal.specs.settings_store.State.{Values}
use Rattle.device_station.specs.Leaps.{NoNewsBeside, NoneSendsBeside, beside_ticks, due_at, services_due}
use Rattle.device_station.specs.port.Pace.{TicksBeside}
use Rattle.device_station.specs.port.State.{State, barred}
use Rattle.device_station.specs.port.Steps.{Ticks}
use Rattle.device_station.proofs.PortOwn.{quiet_beside}
use Rattle.device_station.proofs.PortStages.{is_free}
use Rattle.device_station.proofs.ServedTicking.{ticks_kept}
use Rattle.device_station.proofs.port.beside.pass_beside.Goals as goal

pub follow_unit-requires-clause-free : goal.follow_unit-requires-clause-free
follow_unit-requires-clause-free c = (is_free c.args.port.now c.requires.free).frames

pub follow_unit-requires-clause-due : goal.follow_unit-requires-clause-due
follow_unit-requires-clause-due c =
    let state = c.args.services.now in
    let values = c.args.port.now.device.live.values in
    let lost = c.is_lost.ensures ∙ ap (λ device. device.live.values.is_lost) c.device-device.ensures in
    let running = c.running.ensures ∙ ap (λ device. device.live.values.running) c.device-device.ensures in
    let due : c.services_due-due.result ≡ services_due values state =
    c.services_due-due.ensures.value ∙ (ap (λ (b : Bool). due_at b c.running.result.now state) lost ∙ ap (λ (r : Settings). due_at values.is_lost r state) running) in
    omega (arith, due, c.services_due-due.ensures.some)

pub pass_alone-requires-clause-free : goal.pass_alone-requires-clause-free
pass_alone-requires-clause-free c = subst (λ (p : State). barred p ≡ None) (sym c.follow_unit.ensures.same) c.requires.free

pub returns-then-due-eq1-clause-ticks : goal.returns-then-due-eq1-clause-ticks
returns-then-due-eq1-clause-ticks c =
    subst (λ (p : State). Ticks c.pass_alone.result p c.pass_alone.new.port) c.follow_unit.ensures.same c.pass_alone.ensures.ticks

pub returns-then-due-eq1-clause-beside : goal.returns-then-due-eq1-clause-beside
returns-then-due-eq1-clause-beside c =
    let old = c.args.port.now in
    let new = c.pass_alone.new.port in
    let state = c.args.services.now in
    let after = c.follow_unit.new.services in
    let sent = c.follow_unit.new.own.frames in
    let one : c.pass_alone.result ≡ 1 = omega (arith, c.pass_alone.ensures.some, c.pass_alone.ensures.most) in
    let ticks = subst (λ (p : State). Ticks c.pass_alone.result p new) c.follow_unit.ensures.same c.pass_alone.ensures.ticks in
    let kept = ticks_kept c.pass_alone.result old new ticks in
    subst (λ n. TicksBeside n new.device.station.identity new.device.live.values state after sent) (sym one)
    (subst (λ (v : Values). TicksBeside 1 new.device.station.identity v state after sent) (sym kept.1)
    (subst (λ (s : Station). TicksBeside 1 s.identity old.device.live.values state after sent) (sym kept.0) c.follow_unit.ensures.ticks))

pub pass_alone-passed-requires-clause-some : goal.pass_alone-passed-requires-clause-some
pass_alone-passed-requires-clause-some c =
    omega (arith, c.min.ensures, c.requires.some, c.services_due-due.ensures.some, c.if-due-eq1.false)

pub follow_quiet_units-requires : goal.follow_quiet_units-requires
follow_quiet_units-requires c =
    let state = c.args.services.now in
    let old = c.args.port.now in
    let values = old.device.live.values in
    let kept = ticks_kept c.pass_alone-passed.result old c.pass_alone-passed.new.port c.pass_alone-passed.ensures.ticks in
    let lost = c.is_lost.ensures ∙ ap (λ device. device.live.values.is_lost) c.device-device.ensures in
    let running = c.running.ensures ∙ ap (λ device. device.live.values.running) c.device-device.ensures in
    let before : c.services_due-due.result ≡ services_due values state =
    c.services_due-due.ensures.value ∙ (ap (λ (b : Bool). due_at b c.running.result.now state) lost ∙ ap (λ (r : Settings). due_at values.is_lost r state) running) in
    let after : services_due c.device.result.now.live.values state ≡ services_due values state =
    ap (λ device. services_due device.live.values state) c.device.ensures ∙ ap (λ (v : Values). services_due v state) kept.1 in
    omega (arith, c.pass_alone-passed.ensures.most, c.min.ensures, c.services_due-due.ensures.some, before, after)

pub returns-clause-most : goal.returns-clause-most
returns-clause-most c = omega (arith, c.pass_alone-passed.ensures.most, c.min.ensures)

pub returns-clause-beside : goal.returns-clause-beside
returns-clause-beside c =
    let state = c.args.services.now in
    let new = c.pass_alone-passed.new.port in
    let units = c.pass_alone-passed.result in
    let after = c.follow_quiet_units.new.services in
    quiet_beside units new.device.station.identity new.device.live.values state after c.clear.new.self.frames c.pass_alone-passed.ensures.some c.clear.ensures.frames
    (c.follow_quiet_units.ensures.state ∙ ap (λ (d : device.State (RecordedFlash 4096)). beside_ticks d.station.identity d.live.values units state) c.device.ensures)
    (subst (λ (d : device.State (RecordedFlash 4096)). NoneSendsBeside units d.station.identity d.live.values state) c.device.ensures c.follow_quiet_units.ensures.none)
    (subst (λ (d : device.State (RecordedFlash 4096)). NoNewsBeside units d.station.identity d.live.values state) c.device.ensures c.follow_quiet_units.ensures.quiet)
