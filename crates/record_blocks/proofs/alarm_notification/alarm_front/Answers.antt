-- The two parts followed by the data are the octets that are written.
use Rattle.std.proofs.Common.{refl}
use Rattle.wire.specs.blocks.Fields.{number_bytes}
use Rattle.record_blocks.specs.AlarmNotification.{alarm_notification, alarm_place, alarm_subject}
use Rattle.record_blocks.proofs.alarm_notification.alarm_front.Goals as goal

pub returns-clause-items : goal.returns-clause-items
unfolding alarm_notification alarm_place alarm_subject number_bytes
returns-clause-items c = rw c.join.ensures (rw c.place_octets.ensures.items (rw c.subject_octets.ensures.items refl))

pub returns-clause-fits : goal.returns-clause-fits
unfolding alarm_notification
returns-clause-fits c = ((c.place_octets.ensures.fits, c.subject_octets.ensures.fits), tt)
