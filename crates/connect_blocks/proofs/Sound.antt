-- The formats of the blocks are sound.
use Rattle.std.proofs.Common.{◌≡◌, ℕ, List, Option, Some, None, refl}
use Rattle.wire.specs.Codec.{IsSound}
use Rattle.wire.proofs.Joined.{then_by_sound, seen_sound}
use Rattle.wire.proofs.Handled.{checked_sound, named_sound}
use Rattle.wire.proofs.Counts.{bounded_sound, counted_sound}
use Rattle.wire.specs.declared.blocks.fault.BlockFault.TheVariants.{Count, Field}
use Rattle.connect_blocks.specs.declared.control.ControlBlock.{ControlBlock}
use Rattle.wire.specs.blocks.Fields.{two, four, mac}
use Rattle.wire.proofs.BlocksSound.{numeral_sound, octets_sound, blank_sound, ranged_sound, fixed_sound, fixed_one_sound, fixed_four_sound, unchecked_two_sound, mac_sound}
use Rattle.connect_blocks.specs.declared.io_object.IoObject.{IoObject}
use Rattle.connect_blocks.specs.declared.iocr.IocrType.{IocrType}
use Rattle.connect_blocks.specs.declared.iocr.IocrType.TheVariants.{Input, Output}
use Rattle.connect_blocks.specs.declared.iocr.RtClass.{RtClass}
use Rattle.connect_blocks.specs.declared.iocr.RtClass.TheVariants.{Class1, Class2}
use Rattle.connect_blocks.specs.Objects.{io_object, next_object, io_objects}
use Rattle.connect_blocks.specs.Iocr.{iocr_type_of, number_of_iocr, iocr_type, rt_class_of, number_of_class, rt_class, is_frame_id, frame_id, iocr_head, iocr_times, iocr_places, iocr_block_req, iocr_block_res}
use Rattle.connect_blocks.specs.ArBlock.{is_some_uuid, ar_uuid, is_unicast, initiator_mac, station_name, ar_block_req, ar_block_res}
use Rattle.connect_blocks.specs.AlarmCr.{alarm_cr_block_req, alarm_cr_block_res}
use Rattle.connect_blocks.specs.Control.{is_command, command, control}
use Rattle.connect_blocks.specs.PlugControl.{plug_control}

pub command_sound : (wanted : Option ℕ) → IsSound (command wanted)
unfolding command
command_sound wanted = checked_sound (is_command wanted) (Field 8) _ (numeral_sound 2)

pub control_sound : (wanted : Option ℕ) → IsSound (control wanted)
unfolding control
control_sound wanted = seen_sound _ _ _ (λ _. refl) (then_by_sound _ _ (blank_sound 2) (λ _. then_by_sound _ _ (octets_sound 16)
    (λ _. then_by_sound _ _ (numeral_sound 2) (λ _. then_by_sound _ _ (blank_sound 2) (λ _. then_by_sound _ _ (command_sound wanted) (λ _. numeral_sound 2))))))

-- A control block takes the same number of octets for every wanted command.
pub control_sized : (wanted : Option ℕ) (value : ControlBlock) → (control wanted).size value ≡ (control None).size value
unfolding control command
control_sized wanted value = refl

-- ---- ARBlockReq and ARBlockRes

ar_uuid_sound : IsSound ar_uuid
unfolding ar_uuid
ar_uuid_sound = checked_sound is_some_uuid (Field 5) _ (octets_sound 16)

initiator_mac_sound : IsSound initiator_mac
unfolding initiator_mac
initiator_mac_sound = checked_sound is_unicast (Field 7) mac mac_sound

station_name_sound : IsSound station_name
unfolding station_name
station_name_sound = seen_sound _ _ _ (λ _. refl) (then_by_sound _ _ (ranged_sound 12 0 240) (λ size. octets_sound size))

pub ar_block_req_sound : IsSound ar_block_req
unfolding ar_block_req
ar_block_req_sound = seen_sound _ _ _ (λ _. refl) (then_by_sound _ _ (fixed_sound 4 1) (λ _. then_by_sound _ _ ar_uuid_sound
    (λ _. then_by_sound _ _ (numeral_sound 2) (λ _. then_by_sound _ _ initiator_mac_sound (λ _. then_by_sound _ _ (octets_sound 16)
    (λ _. then_by_sound _ _ (numeral_sound 4) (λ _. then_by_sound _ _ (ranged_sound 10 1 1000)
    (λ _. then_by_sound _ _ (numeral_sound 2) (λ _. station_name_sound)))))))))

pub ar_block_res_sound : IsSound ar_block_res
unfolding ar_block_res
ar_block_res_sound = seen_sound _ _ _ (λ _. refl) (then_by_sound _ _ (unchecked_two_sound 1) (λ _. then_by_sound _ _ (octets_sound 16)
    (λ _. then_by_sound _ _ (numeral_sound 2) (λ _. then_by_sound _ _ mac_sound (λ _. unchecked_two_sound 0x8892)))))

-- ---- AlarmCRBlockReq and AlarmCRBlockRes

pub alarm_cr_block_req_sound : IsSound alarm_cr_block_req
unfolding alarm_cr_block_req
alarm_cr_block_req_sound = seen_sound _ _ _ (λ _. refl) (then_by_sound _ _ (fixed_sound 4 1)
    (λ _. then_by_sound _ _ (fixed_sound 5 0x8892) (λ _. then_by_sound _ _ (numeral_sound 4)
    (λ _. then_by_sound _ _ (ranged_sound 7 1 65535) (λ _. then_by_sound _ _ (ranged_sound 8 1 15)
    (λ _. then_by_sound _ _ (numeral_sound 2) (λ _. then_by_sound _ _ (ranged_sound 10 200 1432)
    (λ _. then_by_sound _ _ (numeral_sound 2) (λ _. numeral_sound 2)))))))))

pub alarm_cr_block_res_sound : IsSound alarm_cr_block_res
unfolding alarm_cr_block_res
alarm_cr_block_res_sound = seen_sound _ _ _ (λ _. refl) (then_by_sound _ _ (unchecked_two_sound 1)
    (λ _. then_by_sound _ _ (fixed_sound 5 1) (λ _. fixed_sound 6 200)))

-- ---- IOCRBlockReq and IOCRBlockRes

pub io_object_sound : IsSound io_object
unfolding io_object
io_object_sound = seen_sound _ _ _ (λ _. refl) (then_by_sound _ _ (numeral_sound 2) (λ _. then_by_sound _ _ (numeral_sound 2) (λ _. numeral_sound 2)))

next_object_sound : (before : List IoObject) → IsSound (next_object before)
unfolding next_object
next_object_sound before = bounded_sound (λ _. io_object) (λ _. io_object_sound) 256 Count before

io_objects_sound : IsSound io_objects
unfolding io_objects
io_objects_sound = counted_sound next_object next_object_sound two (numeral_sound 2)

iocr_type_sound : IsSound iocr_type
unfolding iocr_type
iocr_type_sound = named_sound iocr_type_of number_of_iocr (Field 4) two back (numeral_sound 2)
  where
    back : (kind : IocrType) → iocr_type_of (number_of_iocr kind) ≡ Some kind
    back Input = refl
    back Output = refl

rt_class_sound : IsSound rt_class
unfolding rt_class
rt_class_sound = named_sound rt_class_of number_of_class (Field 7) four back (numeral_sound 4)
  where
    back : (class : RtClass) → rt_class_of (number_of_class class) ≡ Some class
    back Class1 = refl
    back Class2 = refl

frame_id_sound : (kind : IocrType) → IsSound (frame_id kind)
unfolding frame_id
frame_id_sound kind = checked_sound (is_frame_id kind) (Field 9) two (numeral_sound 2)

iocr_head_sound : IsSound iocr_head
unfolding iocr_head
iocr_head_sound = seen_sound _ _ _ (λ _. refl) (then_by_sound _ _ iocr_type_sound (λ kind. then_by_sound _ _ (numeral_sound 2)
    (λ _. then_by_sound _ _ (fixed_sound 6 0x8892) (λ _. then_by_sound _ _ rt_class_sound (λ _. then_by_sound _ _ (ranged_sound 8 40 1440)
    (λ _. frame_id_sound kind))))))

iocr_times_sound : IsSound iocr_times
unfolding iocr_times
iocr_times_sound = seen_sound _ _ _ (λ _. refl) (then_by_sound _ _ (ranged_sound 10 1 128) (λ _. then_by_sound _ _ (ranged_sound 11 1 512)
    (λ _. then_by_sound _ _ (numeral_sound 2) (λ _. then_by_sound _ _ (numeral_sound 2) (λ _. then_by_sound _ _ (numeral_sound 4)
    (λ _. then_by_sound _ _ (numeral_sound 2) (λ _. ranged_sound 16 1 7680)))))))

iocr_places_sound : IsSound iocr_places
unfolding iocr_places
iocr_places_sound = seen_sound _ _ _ (λ _. refl) (then_by_sound _ _ (numeral_sound 2) (λ _. then_by_sound _ _ mac_sound
    (λ _. then_by_sound _ _ (fixed_sound 19 1) (λ _. then_by_sound _ _ (fixed_four_sound 20 0) (λ _. then_by_sound _ _ io_objects_sound (λ _. io_objects_sound))))))

pub iocr_block_req_sound : IsSound iocr_block_req
unfolding iocr_block_req
iocr_block_req_sound = seen_sound _ _ _ (λ _. refl) (then_by_sound _ _ iocr_head_sound (λ _. then_by_sound _ _ iocr_times_sound (λ _. iocr_places_sound)))

pub iocr_block_res_sound : IsSound iocr_block_res
unfolding iocr_block_res
iocr_block_res_sound = seen_sound _ _ _ (λ _. refl) (then_by_sound _ _ (numeral_sound 2) (λ _. then_by_sound _ _ (numeral_sound 2) (λ _. numeral_sound 2)))

-- ---- PrmEnd and ApplicationReady after a plug

pub plug_control_sound : (kind : ℕ) → IsSound (plug_control kind)
unfolding plug_control
plug_control_sound kind = seen_sound _ _ _ (λ _. refl) (then_by_sound _ _ (fixed_sound 0 kind) (λ _. then_by_sound _ _ (fixed_sound 1 28)
    (λ _. then_by_sound _ _ (fixed_one_sound 2 1) (λ _. then_by_sound _ _ (fixed_one_sound 3 0) (λ _. then_by_sound _ _ (blank_sound 2)
    (λ _. then_by_sound _ _ (octets_sound 16) (λ _. then_by_sound _ _ (numeral_sound 2) (λ _. then_by_sound _ _ (numeral_sound 2)
    (λ _. then_by_sound _ _ (numeral_sound 2) (λ _. numeral_sound 2))))))))))
