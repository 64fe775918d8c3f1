-- A unit of time: first of the relation, and then of what is asked.
use Rattle.std.proofs.Common.{length, refl, ◌∙◌}
use Rattle.std.proofs.lemmas.List.{map-append}
use Rattle.device_frames.specs.Sent.{bytes_of}
use Rattle.device_core.specs.Handled.{counted_sent, unit_rest, unit_sent}
use Rattle.device_core.proofs.Counting.{count_sent}
use Rattle.device_core.proofs.Sendable.{all_sendable}
use Rattle.device_core.proofs.device.Device.tick.Goals as goal

pub returns-clause-state : goal.returns-clause-state
returns-clause-state g c =
    let old = c.args.self.now in
    let sent = unit_sent old.live in
    let address = old.live.values.running.suite.address in
    let count = count_sent (bytes_of old.station.identity) c.pass_unit_of_relation.new.outbox.items sent c.pass_unit_of_relation.ensures.frames in
    rw (c.pass_unit_of_relation.ensures.state, count) at c.count_asked.ensures.state

pub returns-clause-frames : goal.returns-clause-frames
returns-clause-frames g c =
    let old = c.args.self.now in
    let sent = unit_sent old.live in
    let address = old.live.values.running.suite.address in
    let f = bytes_of old.station.identity in
    let count = count_sent f c.pass_unit_of_relation.new.outbox.items sent c.pass_unit_of_relation.ensures.frames in
    let frames = rw (c.pass_unit_of_relation.ensures.state, count, c.pass_unit_of_relation.ensures.frames) at c.count_asked.ensures.frames in
    frames ∙ rw (map-append f sent (counted_sent old.station address (length sent) (unit_rest old.live))) refl

pub returns-clause-sendable : goal.returns-clause-sendable
returns-clause-sendable g c =
    let old = c.args.self.now in
    let sent = unit_sent old.live in
    let address = old.live.values.running.suite.address in
    let count = count_sent (bytes_of old.station.identity) c.pass_unit_of_relation.new.outbox.items sent c.pass_unit_of_relation.ensures.frames in
    all_sendable old.station.identity sent (counted_sent old.station address (length sent) (unit_rest old.live)) c.pass_unit_of_relation.ensures.sendable
    (rw (c.pass_unit_of_relation.ensures.state, count) at c.count_asked.ensures.sendable)
