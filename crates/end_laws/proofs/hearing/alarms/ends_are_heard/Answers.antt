-- This follows from the laws of the crates below.
use Rattle.std.proofs.Common.{arith}
use Rattle.pn_alarms.specs.Abort.{status_of}
use Rattle.pn_alarms.specs.declared.message.Notice.TheVariants as notice
use Rattle.pn_alarms.specs.declared.pdu.PduType.TheVariants as pdu
use Rattle.diagnosis.specs.declared.reports.priority.Priority.TheVariants.{High}
use Rattle.plans.specs.Connect.{alarm_block}
use Rattle.relations.specs.Farewells.{said_by}
use Rattle.controller_messages.specs.Sent.{end_pdu}
use Rattle.end_laws.proofs.HearingExchanges.{pdu_at_controller, pdu_at_device}
use Rattle.end_laws.proofs.hearing.alarms.ends_are_heard.Goals as goal

pub returns-clause-device : goal.returns-clause-device
returns-clause-device c =
    λ identity setup route header reason is way good.
    pdu_at_device c.frames_are_read.ensures.real_time c.pdus_are_read.ensures.long identity route.partner setup.plan.controller.mac alarm_block.tag_header_low High pdu.Error (end_pdu header reason) (end_pdu header reason).header (notice.Abort (status_of reason))
    way.partner is.mac (omega arith) (omega arith)
    (λ more. c.ends_are_read.ensures.device reason header.destination header.source header.send_number header.ack_number more
    (record { destination = good.destination; source = good.source; send_number = good.send_number; ack_number = good.ack_number }))

pub returns-clause-controller : goal.returns-clause-controller
returns-clause-controller c =
    λ mine identity farewell is mac tagged good.
    pdu_at_controller c.frames_are_read.ensures.real_time c.pdus_are_read.ensures.long mine farewell.initiator identity.mac farewell.tag High pdu.Error (said_by farewell) (said_by farewell).header (notice.Abort (status_of farewell.reason))
    mac is tagged (omega arith)
    (λ more. c.ends_are_read.ensures.controller farewell.reason farewell.reference farewell.endpoint farewell.send_number farewell.ack_number more good)
