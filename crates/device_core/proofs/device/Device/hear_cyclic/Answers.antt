-- What happens to a cyclic frame.
use Rattle.std.proofs.Common.{◌≡◌, refl}
use Rattle.relations.specs.Exchanged.{receiving}
use Rattle.relations.specs.Phases.{updated}
use Rattle.device_core.specs.Handled.{handled_received}
use Rattle.device_core.specs.Machine.{end_of}
use Rattle.device_core.proofs.Exchanged.{cyclic_leaves}
use Rattle.device_core.proofs.device.Device.hear_cyclic.Goals as goal

pub returns-clause-state : goal.returns-clause-state
returns-clause-state g c =
    let old = c.args.self.now in
    rw (cyclic_leaves old.station old.live c.args.source c.args.frame_id c.args.body.now) (rw (← c.self.view_is) (rw c.receive-received.ensures.state refl))

pub returns-clause-note : goal.returns-clause-note
returns-clause-note g c =
    let old = c.args.self.now in
    let said : c.note_of.result ≡ (end_of old.station old.live (handled_received old.live c.receive-received.result (updated (receiving c.args.source c.args.frame_id c.args.body.now old.live.rest.link) old.live.rest.link))).note =
    c.note_of.ensures old.station old.live _ in
    rw (← c.self.view_is) (rw (← c.receive-received.ensures.received) (rw (← c.self.view_is) at said))

pub returns-clause-steady : goal.returns-clause-steady
returns-clause-steady g c steady is =
    let old = rw (← c.self.view_is) at is in
    record { relation = c.receive-received.ensures.steady steady old.relation; unasked = old.unasked; dark = old.dark }
