-- This follows from the laws of the crates below.
use Rattle.std.proofs.Common.{◌∙◌, ap, arith}
use Rattle.pn_alarms.specs.declared.pdu.PduType.{PduType}
use Rattle.diagnosis.specs.declared.reports.priority.Priority.{Priority}
use Rattle.pn_alarms.specs.Format.{frame_id_of}
use Rattle.diagnosis.specs.reports.Priority.{priority_of}
use Rattle.diagnosis.specs.declared.reports.priority.Priority.TheVariants.{High, Low}
use Rattle.diagnosis.specs.reports.Report.{low_pdu, low_report, ours}
use Rattle.controller_messages.specs.Heard.{Alarms}
use Rattle.end_laws.specs.hearing.Hearing.{mine_hears}
use Rattle.pn_alarms.specs.declared.message.Notice.TheVariants as notice
use Rattle.pn_alarms.specs.declared.pdu.PduType.TheVariants as pdu
use Rattle.pn_alarms.specs.Carried.{alarm_pdu}
use Rattle.diagnosis.specs.Sendable.{empty_pdu}
use Rattle.end_laws.proofs.HearingExchanges.{low_few, pdu_at_controller}
use Rattle.end_laws.proofs.hearing.alarms.alarms_are_heard.Goals as goal

pub returns-clause-alarm : goal.returns-clause-alarm
returns-clause-alarm c =
    λ mine identity route header alarm is way kind good whole.
    pdu_at_controller c.frames_are_read.ensures.real_time c.pdus_are_read.ensures.long mine route.partner identity.mac route.alarm_tag High pdu.Data (alarm_pdu header alarm) header (notice.Data header.send_number (ours alarm))
    way.partner is way.alarm_tag (omega (arith, c.alarms_are_read.ensures.long alarm, whole.few)) (λ more. c.alarms_are_read.ensures.read header alarm more kind good whole)

pub returns-clause-ack : goal.returns-clause-ack
returns-clause-ack c =
    λ mine identity route header is way kind good.
    pdu_at_controller c.frames_are_read.ensures.real_time c.pdus_are_read.ensures.long mine route.partner identity.mac route.alarm_tag High header.kind (empty_pdu header) header (notice.Ack header.ack_number)
    way.partner is way.alarm_tag (omega arith) (λ more. c.replies_are_read.ensures.controller_ack header more kind good)
    ∙ ap (λ (p : Priority). mine_hears mine route.partner (Alarms identity.mac p header (notice.Ack header.ack_number))) (ap (λ (k : PduType). priority_of (frame_id_of k)) kind)

pub returns-clause-nack : goal.returns-clause-nack
returns-clause-nack c =
    λ mine identity route header is way kind good.
    pdu_at_controller c.frames_are_read.ensures.real_time c.pdus_are_read.ensures.long mine route.partner identity.mac route.alarm_tag High header.kind (empty_pdu header) header notice.Nack
    way.partner is way.alarm_tag (omega arith) (λ more. c.replies_are_read.ensures.controller_nack header more kind good)
    ∙ ap (λ (p : Priority). mine_hears mine route.partner (Alarms identity.mac p header notice.Nack)) (ap (λ (k : PduType). priority_of (frame_id_of k)) kind)

pub returns-clause-low : goal.returns-clause-low
returns-clause-low c =
    λ mine identity route tag header alarm is way small kind good whole.
    pdu_at_controller c.frames_are_read.ensures.real_time c.pdus_are_read.ensures.long mine route.partner identity.mac tag Low pdu.Data (low_pdu header alarm) header (notice.Data header.send_number (low_report alarm))
    way.partner is small (low_few c.alarms_are_read.ensures.bare_long c.alarms_are_read.ensures.low_long alarm whole.few) (λ more. c.alarms_are_read.ensures.any header alarm more kind good whole)

pub returns-clause-low_ack : goal.returns-clause-low_ack
returns-clause-low_ack c =
    λ mine identity route tag header is way small kind good.
    pdu_at_controller c.frames_are_read.ensures.real_time c.pdus_are_read.ensures.long mine route.partner identity.mac tag Low header.kind (empty_pdu header) header (notice.Ack header.ack_number)
    way.partner is small (omega arith) (λ more. c.replies_are_read.ensures.controller_ack header more kind good)

pub returns-clause-low_nack : goal.returns-clause-low_nack
returns-clause-low_nack c =
    λ mine identity route tag header is way small kind good.
    pdu_at_controller c.frames_are_read.ensures.real_time c.pdus_are_read.ensures.long mine route.partner identity.mac tag Low header.kind (empty_pdu header) header notice.Nack
    way.partner is small (omega arith) (λ more. c.replies_are_read.ensures.controller_nack header more kind good)
