-- The block that octets are: BlockType, BlockLength, and what BlockLength counts (IEC 61158-6-10, 5.2.1).
use Rattle.std.specs.Prelude.{◌≡◌, ◌+◌, ℕ, List, [], Option, Some, None, Result, Ok}
use Rattle.wire.specs.Codec.{Codec, Whole}
use Rattle.wire.specs.Formats.{number, then_by, seen, framed}
use Rattle.wire.specs.Whole.{refused}
use Rattle.wire.specs.Checks.{variant}
use Rattle.wire.specs.declared.blocks.fault.BlockFault.{BlockFault}
use Rattle.wire.specs.declared.blocks.fault.BlockFault.TheVariants.{Truncated, Kind}
use Rattle.wire.specs.blocks.Fields.{body, open_body}
use Rattle.connect_blocks.specs.declared.ar_block.ArBlockReq.{ArBlockReq}
use Rattle.connect_blocks.specs.declared.ar_block.ArBlockRes.{ArBlockRes}
use Rattle.connect_blocks.specs.declared.iocr.IocrBlockReq.{IocrBlockReq}
use Rattle.connect_blocks.specs.declared.iocr.IocrBlockRes.{IocrBlockRes}
use Rattle.connect_blocks.specs.declared.alarm_cr.AlarmCrBlockReq.{AlarmCrBlockReq}
use Rattle.connect_blocks.specs.declared.alarm_cr.AlarmCrBlockRes.{AlarmCrBlockRes}
use Rattle.connect_blocks.specs.declared.expected.ExpectedSubmoduleBlockReq.{ExpectedSubmoduleBlockReq}
use Rattle.connect_blocks.specs.declared.module_diff.ModuleDiffBlock.{ModuleDiffBlock}
use Rattle.connect_blocks.specs.declared.control.ControlBlock.{ControlBlock}
use Rattle.record_blocks.specs.declared.read_record.IodReadReq.{IodReadReq}
use Rattle.record_blocks.specs.declared.read_record.IodReadRes.{IodReadRes}
use Rattle.record_blocks.specs.declared.write_record.IodWriteReq.{IodWriteReq}
use Rattle.record_blocks.specs.declared.write_record.IodWriteRes.{IodWriteRes}
use Rattle.record_blocks.specs.declared.im0.Im0.{Im0}
use Rattle.record_blocks.specs.declared.im1.Im1.{Im1}
use Rattle.record_blocks.specs.declared.im2.Im2.{Im2}
use Rattle.record_blocks.specs.declared.im3.Im3.{Im3}
use Rattle.record_blocks.specs.declared.im4.Im4.{Im4}
use Rattle.record_blocks.specs.declared.filter_data.ImFilterData.{ImFilterData}
use Rattle.record_blocks.specs.declared.alarm_notification.AlarmNotification.{AlarmNotification}
use Rattle.record_blocks.specs.declared.alarm_ack.AlarmAck.{AlarmAck}
use Rattle.connect_blocks.specs.ArBlock.{ar_block_req, ar_block_res, IsArBlockReq}
use Rattle.connect_blocks.specs.Iocr.{iocr_block_req, iocr_block_res, IsIocrBlockReq}
use Rattle.connect_blocks.specs.AlarmCr.{alarm_cr_block_req, alarm_cr_block_res, IsAlarmCrBlockReq}
use Rattle.connect_blocks.specs.Expected.{expected, IsExpectedSubmoduleBlockReq}
use Rattle.connect_blocks.specs.ModuleDiff.{module_diff, IsModuleDiff}
use Rattle.connect_blocks.specs.Control.{control}
use Rattle.record_blocks.specs.ReadRecord.{iod_read_req, iod_read_res}
use Rattle.record_blocks.specs.WriteRecord.{iod_write_req, iod_write_res}
use Rattle.record_blocks.specs.Im0.{im0}
use Rattle.record_blocks.specs.Im1.{im1}
use Rattle.record_blocks.specs.Im2.{im2}
use Rattle.record_blocks.specs.Im3.{im3}
use Rattle.record_blocks.specs.Im4.{im4}
use Rattle.record_blocks.specs.FilterData.{filter_data, IsFilterData}
use Rattle.record_blocks.specs.AlarmNotification.{alarm_notification}
use Rattle.record_blocks.specs.AlarmAck.{alarm_ack}
use Rattle.block_codec.specs.declared.block_type.BlockType.{BlockType}
use Rattle.block_codec.specs.declared.block_type.BlockType.TheVariants as kind
use Rattle.block_codec.specs.declared.block.Block.{Block}
use Rattle.block_codec.specs.declared.block.Block.TheVariants as is
use Rattle.block_codec.specs.Kinds.{number_of, type_of}

-- The type of a block.
abbrev pub kind_of : Block → BlockType
kind_of (is.ArBlockReq value) = kind.ArBlockReq
kind_of (is.ArBlockRes value) = kind.ArBlockRes
kind_of (is.IocrBlockReq value) = kind.IocrBlockReq
kind_of (is.IocrBlockRes value) = kind.IocrBlockRes
kind_of (is.AlarmCrBlockReq value) = kind.AlarmCrBlockReq
kind_of (is.AlarmCrBlockRes value) = kind.AlarmCrBlockRes
kind_of (is.ExpectedSubmoduleBlockReq value) = kind.ExpectedSubmoduleBlockReq
kind_of (is.ModuleDiffBlock value) = kind.ModuleDiffBlock
kind_of (is.PrmEnd value) = kind.PrmEnd
kind_of (is.PrmEndRes value) = kind.PrmEndRes
kind_of (is.ApplicationReady value) = kind.ApplicationReady
kind_of (is.ApplicationReadyRes value) = kind.ApplicationReadyRes
kind_of (is.Release value) = kind.Release
kind_of (is.ReleaseRes value) = kind.ReleaseRes
kind_of (is.IodReadReq value) = kind.IodReadReq
kind_of (is.IodReadRes value) = kind.IodReadRes
kind_of (is.IodWriteReq value) = kind.IodWriteReq
kind_of (is.IodWriteRes value) = kind.IodWriteRes
kind_of (is.Im0 value) = kind.Im0
kind_of (is.Im1 value) = kind.Im1
kind_of (is.Im2 value) = kind.Im2
kind_of (is.Im3 value) = kind.Im3
kind_of (is.Im4 value) = kind.Im4
kind_of (is.ImFilterDataSubmodule value) = kind.ImFilterDataSubmodule
kind_of (is.ImFilterDataDevice value) = kind.ImFilterDataDevice
kind_of (is.AlarmNotification value) = kind.AlarmNotification
kind_of (is.AlarmAck value) = kind.AlarmAck

-- ---- the fields of a block of a kind

-- The ARBlockReq that a block is, if it is one.
abbrev pub in_ar_block_req : Block → Option ArBlockReq
in_ar_block_req (is.ArBlockReq value) = Some value
in_ar_block_req _ = None

-- The ARBlockRes that a block is, if it is one.
abbrev pub in_ar_block_res : Block → Option ArBlockRes
in_ar_block_res (is.ArBlockRes value) = Some value
in_ar_block_res _ = None

-- The IOCRBlockReq that a block is, if it is one.
abbrev pub in_iocr_block_req : Block → Option IocrBlockReq
in_iocr_block_req (is.IocrBlockReq value) = Some value
in_iocr_block_req _ = None

-- The IOCRBlockRes that a block is, if it is one.
abbrev pub in_iocr_block_res : Block → Option IocrBlockRes
in_iocr_block_res (is.IocrBlockRes value) = Some value
in_iocr_block_res _ = None

-- The AlarmCRBlockReq that a block is, if it is one.
abbrev pub in_alarm_cr_block_req : Block → Option AlarmCrBlockReq
in_alarm_cr_block_req (is.AlarmCrBlockReq value) = Some value
in_alarm_cr_block_req _ = None

-- The AlarmCRBlockRes that a block is, if it is one.
abbrev pub in_alarm_cr_block_res : Block → Option AlarmCrBlockRes
in_alarm_cr_block_res (is.AlarmCrBlockRes value) = Some value
in_alarm_cr_block_res _ = None

-- The ExpectedSubmoduleBlockReq that a block is, if it is one.
abbrev pub in_expected_submodule_block_req : Block → Option ExpectedSubmoduleBlockReq
in_expected_submodule_block_req (is.ExpectedSubmoduleBlockReq value) = Some value
in_expected_submodule_block_req _ = None

-- The ModuleDiffBlock that a block is, if it is one.
abbrev pub in_module_diff_block : Block → Option ModuleDiffBlock
in_module_diff_block (is.ModuleDiffBlock value) = Some value
in_module_diff_block _ = None

-- The ControlBlockConnect of PrmEnd that a block is, if it is one.
abbrev pub in_prm_end : Block → Option ControlBlock
in_prm_end (is.PrmEnd value) = Some value
in_prm_end _ = None

-- The response to PrmEnd that a block is, if it is one.
abbrev pub in_prm_end_res : Block → Option ControlBlock
in_prm_end_res (is.PrmEndRes value) = Some value
in_prm_end_res _ = None

-- The ControlBlockConnect of ApplicationReady that a block is, if it is one.
abbrev pub in_application_ready : Block → Option ControlBlock
in_application_ready (is.ApplicationReady value) = Some value
in_application_ready _ = None

-- The response to ApplicationReady that a block is, if it is one.
abbrev pub in_application_ready_res : Block → Option ControlBlock
in_application_ready_res (is.ApplicationReadyRes value) = Some value
in_application_ready_res _ = None

-- The ReleaseBlock that a block is, if it is one.
abbrev pub in_release : Block → Option ControlBlock
in_release (is.Release value) = Some value
in_release _ = None

-- The response to Release that a block is, if it is one.
abbrev pub in_release_res : Block → Option ControlBlock
in_release_res (is.ReleaseRes value) = Some value
in_release_res _ = None

-- The IODReadReqHeader that a block is, if it is one.
abbrev pub in_iod_read_req : Block → Option IodReadReq
in_iod_read_req (is.IodReadReq value) = Some value
in_iod_read_req _ = None

-- The IODReadResHeader that a block is, if it is one.
abbrev pub in_iod_read_res : Block → Option IodReadRes
in_iod_read_res (is.IodReadRes value) = Some value
in_iod_read_res _ = None

-- The IODWriteReqHeader that a block is, if it is one.
abbrev pub in_iod_write_req : Block → Option IodWriteReq
in_iod_write_req (is.IodWriteReq value) = Some value
in_iod_write_req _ = None

-- The IODWriteResHeader that a block is, if it is one.
abbrev pub in_iod_write_res : Block → Option IodWriteRes
in_iod_write_res (is.IodWriteRes value) = Some value
in_iod_write_res _ = None

-- The I&M0 that a block is, if it is one.
abbrev pub in_im0 : Block → Option Im0
in_im0 (is.Im0 value) = Some value
in_im0 _ = None

-- The I&M1 that a block is, if it is one.
abbrev pub in_im1 : Block → Option Im1
in_im1 (is.Im1 value) = Some value
in_im1 _ = None

-- The I&M2 that a block is, if it is one.
abbrev pub in_im2 : Block → Option Im2
in_im2 (is.Im2 value) = Some value
in_im2 _ = None

-- The I&M3 that a block is, if it is one.
abbrev pub in_im3 : Block → Option Im3
in_im3 (is.Im3 value) = Some value
in_im3 _ = None

-- The I&M4 that a block is, if it is one.
abbrev pub in_im4 : Block → Option Im4
in_im4 (is.Im4 value) = Some value
in_im4 _ = None

-- The I&M0FilterDataSubmodule that a block is, if it is one.
abbrev pub in_im_filter_data_submodule : Block → Option ImFilterData
in_im_filter_data_submodule (is.ImFilterDataSubmodule value) = Some value
in_im_filter_data_submodule _ = None

-- The I&M0FilterDataDevice that a block is, if it is one.
abbrev pub in_im_filter_data_device : Block → Option ImFilterData
in_im_filter_data_device (is.ImFilterDataDevice value) = Some value
in_im_filter_data_device _ = None

-- The AlarmNotification of high priority that a block is, if it is one.
abbrev pub in_alarm_notification : Block → Option AlarmNotification
in_alarm_notification (is.AlarmNotification value) = Some value
in_alarm_notification _ = None

-- The AlarmAck of high priority that a block is, if it is one.
abbrev pub in_alarm_ack : Block → Option AlarmAck
in_alarm_ack (is.AlarmAck value) = Some value
in_alarm_ack _ = None

-- What BlockLength counts, for a block of this type.
unfoldable pub fields_of : BlockType → Whole BlockFault Block
fields_of kind.ArBlockReq = variant is.ArBlockReq in_ar_block_req (body ar_block_req)
fields_of kind.ArBlockRes = variant is.ArBlockRes in_ar_block_res (body ar_block_res)
fields_of kind.IocrBlockReq = variant is.IocrBlockReq in_iocr_block_req (body iocr_block_req)
fields_of kind.IocrBlockRes = variant is.IocrBlockRes in_iocr_block_res (body iocr_block_res)
fields_of kind.AlarmCrBlockReq = variant is.AlarmCrBlockReq in_alarm_cr_block_req (body alarm_cr_block_req)
fields_of kind.AlarmCrBlockRes = variant is.AlarmCrBlockRes in_alarm_cr_block_res (body alarm_cr_block_res)
fields_of kind.ExpectedSubmoduleBlockReq = variant is.ExpectedSubmoduleBlockReq in_expected_submodule_block_req (body expected)
fields_of kind.ModuleDiffBlock = variant is.ModuleDiffBlock in_module_diff_block (body module_diff)
fields_of kind.PrmEnd = variant is.PrmEnd in_prm_end (body (control None))
fields_of kind.PrmEndRes = variant is.PrmEndRes in_prm_end_res (body (control (Some 8)))
fields_of kind.ApplicationReady = variant is.ApplicationReady in_application_ready (body (control (Some 2)))
fields_of kind.ApplicationReadyRes = variant is.ApplicationReadyRes in_application_ready_res (body (control (Some 8)))
fields_of kind.Release = variant is.Release in_release (body (control None))
fields_of kind.ReleaseRes = variant is.ReleaseRes in_release_res (body (control (Some 8)))
fields_of kind.IodReadReq = variant is.IodReadReq in_iod_read_req (body iod_read_req)
fields_of kind.IodReadRes = variant is.IodReadRes in_iod_read_res (body iod_read_res)
fields_of kind.IodWriteReq = variant is.IodWriteReq in_iod_write_req (body iod_write_req)
fields_of kind.IodWriteRes = variant is.IodWriteRes in_iod_write_res (body iod_write_res)
fields_of kind.Im0 = variant is.Im0 in_im0 (body im0)
fields_of kind.Im1 = variant is.Im1 in_im1 (body im1)
fields_of kind.Im2 = variant is.Im2 in_im2 (body im2)
fields_of kind.Im3 = variant is.Im3 in_im3 (body im3)
fields_of kind.Im4 = variant is.Im4 in_im4 (body im4)
fields_of kind.ImFilterDataSubmodule = variant is.ImFilterDataSubmodule in_im_filter_data_submodule (body filter_data)
fields_of kind.ImFilterDataDevice = variant is.ImFilterDataDevice in_im_filter_data_device (body filter_data)
fields_of kind.AlarmNotification = variant is.AlarmNotification in_alarm_notification (open_body alarm_notification)
fields_of kind.AlarmAck = variant is.AlarmAck in_alarm_ack (body alarm_ack)

-- What BlockLength counts, if the type is known.
unfoldable pub body_of : Option BlockType → Whole BlockFault Block
body_of (Some kind) = fields_of kind
body_of None = refused Kind

-- The format of a block.
unfoldable pub block : Codec BlockFault Block
block = seen (λ x. x.1) (λ value. (number_of (kind_of value), value))
    (then_by (number Truncated 2) (λ kind. framed (number Truncated 2) Truncated (body_of (type_of kind))))

-- These octets are the octets of this block, followed by the rest.
unfoldable pub IsBlock : List ℕ → Block → List ℕ → Type 0
IsBlock bytes value rest = block.Spells bytes value rest

-- The block at the start of octets and the rest, or the first fault.
unfoldable pub block_of : List ℕ → Result (Block × List ℕ) BlockFault
block_of bytes = block.read bytes

-- This block as the result of reading, and the rest.
abbrev pub front : Block → List ℕ → Result (Block × List ℕ) BlockFault
front value rest = Ok (value, rest)

-- ---- what is written

-- The checked fields of a block are accepted.
abbrev pub IsAccepted : Block → Type 0
IsAccepted (is.ArBlockReq value) = IsArBlockReq value
IsAccepted (is.IocrBlockReq value) = IsIocrBlockReq value
IsAccepted (is.AlarmCrBlockReq value) = IsAlarmCrBlockReq value
IsAccepted (is.ExpectedSubmoduleBlockReq value) = IsExpectedSubmoduleBlockReq value
IsAccepted (is.ModuleDiffBlock value) = IsModuleDiff value
IsAccepted (is.PrmEndRes value) = value.control_command ≡ 8
IsAccepted (is.ApplicationReady value) = value.control_command ≡ 2
IsAccepted (is.ApplicationReadyRes value) = value.control_command ≡ 8
IsAccepted (is.ReleaseRes value) = value.control_command ≡ 8
IsAccepted (is.ImFilterDataSubmodule value) = IsFilterData value
IsAccepted (is.ImFilterDataDevice value) = IsFilterData value
IsAccepted _ = Unit {0}

-- The number of octets of a block.
unfoldable pub block_size : Block → ℕ
block_size value = 4 + (fields_of (kind_of value)).size value

-- The octets of a block.
unfoldable pub block_bytes : Block → List ℕ
block_bytes value = block.write value []
