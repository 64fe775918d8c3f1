-- The formats of the blocks are sound.
use Rattle.std.proofs.Common.{refl}
use Rattle.wire.specs.Codec.{IsSound, IsSoundWhole}
use Rattle.wire.proofs.Joined.{then_by_sound, seen_sound}
use Rattle.wire.proofs.Wholes.{everything_sound, ends_by_sound, seen_whole_sound}
use Rattle.wire.proofs.BlocksSound.{numeral_sound, octets_sound, blank_sound, fixed_sound}
use Rattle.record_blocks.specs.Im0.{im0, im0_order, im0_revision}
use Rattle.record_blocks.specs.Im1.{im1}
use Rattle.record_blocks.specs.Im2.{im2}
use Rattle.record_blocks.specs.Im3.{im3}
use Rattle.record_blocks.specs.Im4.{im4}
use Rattle.record_blocks.specs.RecordHeader.{record_header}
use Rattle.record_blocks.specs.ReadRecord.{iod_read_req, iod_read_res}
use Rattle.record_blocks.specs.WriteRecord.{iod_write_req, iod_write_res}
use Rattle.record_blocks.specs.AlarmAck.{alarm_ack}
use Rattle.record_blocks.specs.AlarmNotification.{alarm_notification, alarm_place, alarm_subject}

im0_order_sound : IsSound im0_order
unfolding im0_order
im0_order_sound = seen_sound _ _ _ (λ _. refl) (then_by_sound _ _ (numeral_sound 2) (λ _. then_by_sound _ _ (octets_sound 20) (λ _. octets_sound 16)))

im0_revision_sound : IsSound im0_revision
unfolding im0_revision
im0_revision_sound = seen_sound _ _ _ (λ _. refl) (then_by_sound _ _ (numeral_sound 2) (λ _. then_by_sound _ _ (octets_sound 4)
    (λ _. then_by_sound _ _ (fixed_sound 9 0) (λ _. then_by_sound _ _ (numeral_sound 2) (λ _. then_by_sound _ _ (numeral_sound 2)
    (λ _. then_by_sound _ _ (fixed_sound 12 0x0101) (λ _. fixed_sound 13 0x001E)))))))

pub im0_sound : IsSound im0
unfolding im0
im0_sound = seen_sound _ _ _ (λ _. refl) (then_by_sound _ _ im0_order_sound (λ _. im0_revision_sound))

pub im1_sound : IsSound im1
unfolding im1
im1_sound = seen_sound _ _ _ (λ _. refl) (then_by_sound _ _ (octets_sound 32) (λ _. octets_sound 22))

pub im2_sound : IsSound im2
unfolding im2
im2_sound = seen_sound _ _ _ (λ _. refl) (octets_sound 16)

pub im3_sound : IsSound im3
unfolding im3
im3_sound = seen_sound _ _ _ (λ _. refl) (octets_sound 54)

pub im4_sound : IsSound im4
unfolding im4
im4_sound = seen_sound _ _ _ (λ _. refl) (octets_sound 54)

record_header_sound : IsSound record_header
unfolding record_header
record_header_sound = seen_sound _ _ _ (λ _. refl) (then_by_sound _ _ (numeral_sound 2) (λ _. then_by_sound _ _ (octets_sound 16)
    (λ _. then_by_sound _ _ (numeral_sound 4) (λ _. then_by_sound _ _ (numeral_sound 2) (λ _. then_by_sound _ _ (numeral_sound 2)
    (λ _. then_by_sound _ _ (blank_sound 2) (λ _. then_by_sound _ _ (numeral_sound 2) (λ _. numeral_sound 4))))))))

pub iod_read_req_sound : IsSound iod_read_req
unfolding iod_read_req
iod_read_req_sound = seen_sound _ _ _ (λ _. refl) (then_by_sound _ _ record_header_sound (λ _. then_by_sound _ _ (octets_sound 16) (λ _. blank_sound 8)))

pub iod_read_res_sound : IsSound iod_read_res
unfolding iod_read_res
iod_read_res_sound = seen_sound _ _ _ (λ _. refl) (then_by_sound _ _ record_header_sound
    (λ _. then_by_sound _ _ (numeral_sound 2) (λ _. then_by_sound _ _ (numeral_sound 2) (λ _. blank_sound 20))))

pub iod_write_req_sound : IsSound iod_write_req
unfolding iod_write_req
iod_write_req_sound = seen_sound _ _ _ (λ _. refl) (then_by_sound _ _ record_header_sound (λ _. blank_sound 24))

pub iod_write_res_sound : IsSound iod_write_res
unfolding iod_write_res
iod_write_res_sound = seen_sound _ _ _ (λ _. refl) (then_by_sound _ _ record_header_sound
    (λ _. then_by_sound _ _ (numeral_sound 2) (λ _. then_by_sound _ _ (numeral_sound 2) (λ _. then_by_sound _ _ (numeral_sound 4) (λ _. blank_sound 16)))))

pub alarm_ack_sound : IsSound alarm_ack
unfolding alarm_ack
alarm_ack_sound = seen_sound _ _ _ (λ _. refl) (then_by_sound _ _ (numeral_sound 2) (λ _. then_by_sound _ _ (numeral_sound 4)
    (λ _. then_by_sound _ _ (numeral_sound 2) (λ _. then_by_sound _ _ (numeral_sound 2) (λ _. then_by_sound _ _ (numeral_sound 2)
    (λ _. numeral_sound 4))))))

alarm_place_sound : IsSound alarm_place
unfolding alarm_place
alarm_place_sound = seen_sound _ _ _ (λ _. refl) (then_by_sound _ _ (numeral_sound 2) (λ _. then_by_sound _ _ (numeral_sound 4)
    (λ _. then_by_sound _ _ (numeral_sound 2) (λ _. numeral_sound 2))))

alarm_subject_sound : IsSound alarm_subject
unfolding alarm_subject
alarm_subject_sound = seen_sound _ _ _ (λ _. refl) (then_by_sound _ _ (numeral_sound 4) (λ _. then_by_sound _ _ (numeral_sound 4)
    (λ _. then_by_sound _ _ (numeral_sound 2) (λ _. fixed_sound 11 1))))

pub alarm_notification_sound : IsSoundWhole alarm_notification
unfolding alarm_notification
alarm_notification_sound = seen_whole_sound _ _ _ (λ _. refl) (ends_by_sound _ _ (then_by_sound _ _ alarm_place_sound (λ _. alarm_subject_sound)) (λ _. everything_sound))
