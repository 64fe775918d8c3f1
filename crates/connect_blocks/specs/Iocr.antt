-- IOCRBlockReq and IOCRBlockRes (IEC 61158-6-10, 5.2.4.3 and 5.2.4.4).
use Rattle.std.specs.Prelude.{◌≡◌, ◌%◌, ◌==◌, ◌≤◌, ◌||◌, ℕ, Bool, true, Option, Some, None, if◌then◌else◌}
use Rattle.wire.specs.Codec.{Codec}
use Rattle.frame_codec.specs.FrameId.{is_cyclic}
use Rattle.wire.specs.Formats.{◌⨾◌, then_by, seen}
use Rattle.wire.specs.Checks.{checked, named}
use Rattle.wire.specs.declared.blocks.fault.BlockFault.{BlockFault}
use Rattle.wire.specs.declared.blocks.fault.BlockFault.TheVariants.{Field}
use Rattle.wire.specs.blocks.Fields.{two, four, ranged, fixed, fixed_four, mac}
use Rattle.connect_blocks.specs.declared.iocr.IocrType.{IocrType}
use Rattle.connect_blocks.specs.declared.iocr.IocrType.TheVariants.{Input, Output}
use Rattle.connect_blocks.specs.declared.iocr.RtClass.{RtClass}
use Rattle.connect_blocks.specs.declared.iocr.RtClass.TheVariants.{Class1, Class2}
use Rattle.connect_blocks.specs.declared.iocr.IocrBlockReq.{IocrBlockReq}
use Rattle.connect_blocks.specs.declared.iocr.IocrHead.{IocrHead}
use Rattle.connect_blocks.specs.declared.iocr.IocrTimes.{IocrTimes}
use Rattle.connect_blocks.specs.declared.iocr.IocrPlaces.{IocrPlaces}
use Rattle.connect_blocks.specs.declared.iocr.IocrBlockRes.{IocrBlockRes}
use Rattle.connect_blocks.specs.Objects.{io_objects}

-- ---- fields

-- IOCRType, field 4.
abbrev pub iocr_type_of : ℕ → Option IocrType
iocr_type_of number = if number == 1 then Some Input else (if number == 2 then Some Output else None)

-- IOCRType: 1 of inputs, 2 of outputs.
abbrev pub number_of_iocr : IocrType → ℕ
number_of_iocr Input = 1
number_of_iocr Output = 2

-- The format of IOCRType.
unfoldable pub iocr_type : Codec BlockFault IocrType
iocr_type = named iocr_type_of number_of_iocr (Field 4) two

-- The class in the low four bits of IOCRProperties, field 7.
abbrev pub rt_class_of : ℕ → Option RtClass
rt_class_of number = if number % 16 == 1 then Some Class1 else (if number % 16 == 2 then Some Class2 else None)

-- RTClass: 1 or 2.
abbrev pub number_of_class : RtClass → ℕ
number_of_class Class1 = 1
number_of_class Class2 = 2

-- The format of RTClass.
unfoldable pub rt_class : Codec BlockFault RtClass
rt_class = named rt_class_of number_of_class (Field 7) four

-- Whether a FrameID is one of cyclic frames, or 0xFFFF for an output, which leaves the choice to the device.
abbrev pub is_frame_id : IocrType → ℕ → Bool
is_frame_id Input id = is_cyclic id
is_frame_id Output id = is_cyclic id || id == 0xFFFF

-- A FrameID, field 9.
unfoldable pub frame_id : IocrType → Codec BlockFault ℕ
frame_id kind = checked (is_frame_id kind) (Field 9) two

-- ---- the blocks

-- The fields from IOCRType to FrameID.
unfoldable pub iocr_head : Codec BlockFault IocrHead
iocr_head = seen
    (λ x. record { iocr_type = x.0; iocr_reference = x.1.0; iocr_properties = x.1.1.1.0; data_length = x.1.1.1.1.0; frame_id = x.1.1.1.1.1 })
    (λ head. (head.iocr_type, (head.iocr_reference, (tt, (head.iocr_properties, (head.data_length, head.frame_id))))))
    (then_by iocr_type (λ kind. two ⨾ fixed 6 0x8892 ⨾ rt_class ⨾ ranged 8 40 1440 ⨾ frame_id kind))

-- The fields from SendClockFactor to DataHoldFactor.
unfoldable pub iocr_times : Codec BlockFault IocrTimes
iocr_times = seen
    (λ x. record {
      send_clock_factor = x.0;
      reduction_ratio = x.1.0;
      phase = x.1.1.0;
      sequence = x.1.1.1.0;
      frame_send_offset = x.1.1.1.1.0;
      watchdog_factor = x.1.1.1.1.1.0;
      data_hold_factor = x.1.1.1.1.1.1;
    })
    (λ times. (
      times.send_clock_factor,
      (times.reduction_ratio, (times.phase, (times.sequence, (times.frame_send_offset, (times.watchdog_factor, times.data_hold_factor))))),
    ))
    (ranged 10 1 128 ⨾ ranged 11 1 512 ⨾ two ⨾ two ⨾ four ⨾ two ⨾ ranged 16 1 7680)

-- The fields from IOCRTagHeader to the IOCS, with one API, 0.
unfoldable pub iocr_places : Codec BlockFault IocrPlaces
iocr_places = seen
    (λ x. record { iocr_tag_header = x.0; iocr_multicast_mac_add = x.1.0; io_data_objects = x.1.1.1.1.0; iocs = x.1.1.1.1.1 })
    (λ places. (places.iocr_tag_header, (places.iocr_multicast_mac_add, (tt, (tt, (places.io_data_objects, places.iocs))))))
    (two ⨾ mac ⨾ fixed 19 1 ⨾ fixed_four 20 0 ⨾ io_objects ⨾ io_objects)

-- All fields of an IOCRBlockReq.
unfoldable pub iocr_block_req : Codec BlockFault IocrBlockReq
iocr_block_req = seen
    (λ x. record {
      iocr_type = x.0.iocr_type;
      iocr_reference = x.0.iocr_reference;
      iocr_properties = x.0.iocr_properties;
      data_length = x.0.data_length;
      frame_id = x.0.frame_id;
      send_clock_factor = x.1.0.send_clock_factor;
      reduction_ratio = x.1.0.reduction_ratio;
      phase = x.1.0.phase;
      sequence = x.1.0.sequence;
      frame_send_offset = x.1.0.frame_send_offset;
      watchdog_factor = x.1.0.watchdog_factor;
      data_hold_factor = x.1.0.data_hold_factor;
      iocr_tag_header = x.1.1.iocr_tag_header;
      iocr_multicast_mac_add = x.1.1.iocr_multicast_mac_add;
      io_data_objects = x.1.1.io_data_objects;
      iocs = x.1.1.iocs;
    })
    (λ block. (
      record {
        iocr_type = block.iocr_type;
        iocr_reference = block.iocr_reference;
        iocr_properties = block.iocr_properties;
        data_length = block.data_length;
        frame_id = block.frame_id;
      },
      (
        record {
          send_clock_factor = block.send_clock_factor;
          reduction_ratio = block.reduction_ratio;
          phase = block.phase;
          sequence = block.sequence;
          frame_send_offset = block.frame_send_offset;
          watchdog_factor = block.watchdog_factor;
          data_hold_factor = block.data_hold_factor;
        },
        record {
          iocr_tag_header = block.iocr_tag_header;
          iocr_multicast_mac_add = block.iocr_multicast_mac_add;
          io_data_objects = block.io_data_objects;
          iocs = block.iocs;
        },
      ),
    ))
    (iocr_head ⨾ iocr_times ⨾ iocr_places)

-- The fields of an IOCRBlockReq are accepted.
pub record IsIocrBlockReq (block : IocrBlockReq) : Type 0 where
  pub data_least : 40 ≤ block.data_length
  pub data_greatest : block.data_length ≤ 1440
  pub id : is_frame_id block.iocr_type block.frame_id ≡ true
  pub clock_least : 1 ≤ block.send_clock_factor
  pub clock_greatest : block.send_clock_factor ≤ 128
  pub ratio_least : 1 ≤ block.reduction_ratio
  pub ratio_greatest : block.reduction_ratio ≤ 512
  pub hold_least : 1 ≤ block.data_hold_factor
  pub hold_greatest : block.data_hold_factor ≤ 7680

-- The fields of an IOCRBlockRes: IOCRType, IOCRReference, FrameID.
unfoldable pub iocr_block_res : Codec BlockFault IocrBlockRes
iocr_block_res = seen (λ x. record { iocr_type = x.0; iocr_reference = x.1.0; frame_id = x.1.1 })
    (λ block. (block.iocr_type, (block.iocr_reference, block.frame_id))) (two ⨾ two ⨾ two)
