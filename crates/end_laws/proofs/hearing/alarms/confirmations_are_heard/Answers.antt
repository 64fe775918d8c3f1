-- This follows from the laws of the crates below.
use Rattle.std.proofs.Common.{◌∙◌, inl, ap, arith}
use Rattle.pn_alarms.specs.declared.message.Notice.TheVariants as notice
use Rattle.diagnosis.specs.declared.reports.priority.Priority.{Priority}
use Rattle.diagnosis.specs.declared.reports.priority.Priority.TheVariants.{High, Low}
use Rattle.diagnosis.specs.reports.Priority.{frame_id_at, priority_of}
use Rattle.diagnosis.specs.Sendable.{ack_pdu, empty_pdu, low_ack_pdu}
use Rattle.plans.specs.Connect.{alarm_block}
use Rattle.device_frames.specs.Heard.{Heard, heard_reply}
use Rattle.controller_messages.specs.Sent.{tag_of}
use Rattle.end_laws.specs.hearing.Hearing.{own_hears}
use Rattle.end_laws.proofs.HearingExchanges.{data_as, low_at_device, nack_as, pdu_at_device, pdu_unheard, reply_under, tag_small}
use Rattle.end_laws.proofs.HearingLow.{low_long, low_unread}
use Rattle.end_laws.proofs.hearing.alarms.confirmations_are_heard.Goals as goal

pub returns-clause-confirms : goal.returns-clause-confirms
returns-clause-confirms c =
    λ identity setup route header ack is way kind good whole.
    pdu_at_device c.frames_are_read.ensures.real_time c.pdus_are_read.ensures.long identity route.partner setup.plan.controller.mac route.alarm_tag High header.kind (ack_pdu header ack) header (notice.Data header.send_number ack)
    way.partner is.mac way.alarm_tag (omega (arith, c.acks_are_read.ensures.long ack)) (λ more. c.acks_are_read.ensures.read header ack more kind good whole)
    ∙ ap (λ (h : Heard). own_hears identity route.partner h) (data_as (priority_of (frame_id_at High header.kind)) setup.plan.controller.mac header header.send_number ack)

pub returns-clause-low : goal.returns-clause-low
returns-clause-low c =
    λ identity setup route header ack is way kind good whole.
    low_at_device c.frames_are_read.ensures.real_time c.pdus_are_read.ensures.long identity route.partner setup.plan.controller.mac alarm_block.tag_header_low Low header.kind (low_ack_pdu header ack) header (notice.Data header.send_number ack)
    way.partner is.mac (omega arith) (omega (arith, low_long ack)) (λ more. low_unread c.pdus_are_read.ensures.read header ack more kind good)
    (λ more. c.acks_are_read.ensures.low header ack more kind good whole)

pub returns-clause-unheard : goal.returns-clause-unheard
returns-clause-unheard c =
    λ mine setup route header ack is way kind other.
    pdu_unheard c.frames_are_read.ensures.real_time c.pdus_are_read.ensures.long mine route.partner setup.plan.controller.mac alarm_block.tag_header_low Low header.kind (low_ack_pdu header ack)
    way.partner is.mac (omega arith) (omega (arith, low_long ack)) other

pub returns-clause-ack : goal.returns-clause-ack
returns-clause-ack c =
    λ identity setup route priority header is way kind good.
    pdu_at_device c.frames_are_read.ensures.real_time c.pdus_are_read.ensures.long identity route.partner setup.plan.controller.mac (tag_of route priority) priority header.kind (empty_pdu header) header (notice.Ack header.ack_number)
    way.partner is.mac (tag_small route priority way) (omega arith) (λ more. c.replies_are_read.ensures.device_ack header more kind good)
    ∙ ap (λ (p : Priority). own_hears identity route.partner (heard_reply setup.plan.controller.mac p header (notice.Ack header.ack_number))) (reply_under priority header.kind (inl kind))

pub returns-clause-nack : goal.returns-clause-nack
returns-clause-nack c =
    λ identity setup route priority header is way kind good.
    pdu_at_device c.frames_are_read.ensures.real_time c.pdus_are_read.ensures.long identity route.partner setup.plan.controller.mac (tag_of route priority) priority header.kind (empty_pdu header) header notice.Nack
    way.partner is.mac (tag_small route priority way) (omega arith) (λ more. c.replies_are_read.ensures.device_nack header more kind good)
    ∙ ap (λ (h : Heard). own_hears identity route.partner h) (nack_as (priority_of (frame_id_at priority header.kind)) setup.plan.controller.mac header)
