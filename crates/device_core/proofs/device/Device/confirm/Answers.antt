-- The response, and after it the alarm of the next change.
use Rattle.std.proofs.Common.{sym}
use Rattle.std.proofs.lemmas.List.{map-append}
use Rattle.relations.specs.Diagnosed.{report_one, reporting}
use Rattle.relations.specs.Phases.{updated}
use Rattle.relations.specs.RelationState.{flow_of}
use Rattle.device_frames.specs.Relation.{low_alarms_of, low_replies_of, where_due}
use Rattle.device_frames.specs.Sent.{bytes_of}
use Rattle.device_core.proofs.Sendable.{all_sendable}
use Rattle.device_core.proofs.device.Device.confirm.Goals as goal

pub returns-clause-frames : goal.returns-clause-frames
returns-clause-frames g c =
    let link = c.self.inside.relation in
    let next = updated (reporting link) link in
    let f = bytes_of c.self.inside.identity in
    rw (← c.self.view_is)
    (rw (c.send_low_alarm.ensures.frames, c.report_next-is_sent.ensures.sent, c.report_next-is_sent.ensures.state, c.send_low_reply.ensures.frames, c.requires)
    (sym (map-append f (low_replies_of c.args.taken (flow_of link)) (where_due (report_one link) (low_alarms_of (flow_of next))))))

pub returns-clause-sendable : goal.returns-clause-sendable
returns-clause-sendable g c =
    rw (← c.self.view_is)
    (all_sendable c.self.inside.identity _ _ c.send_low_reply.ensures.sendable
    (rw (c.report_next-is_sent.ensures.sent, c.report_next-is_sent.ensures.state) at c.send_low_alarm.ensures.sendable))
