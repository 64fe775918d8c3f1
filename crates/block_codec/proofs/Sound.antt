-- The formats of blocks are sound.
use Rattle.std.proofs.Common.{◌≡◌, ℕ, Bool, true, false, cond, List, ◌++◌, length, drop, nat_lt, Option, Some, None, Ok, Err, ◌<◌, ◌^◌, lit<, refl, sym, ap, subst, ◌∙◌, append_assoc}
use Rattle.std.proofs.lemmas.List.{append-nil}
use Rattle.wire.specs.Codec.{IsSound, IsSoundWhole, IsOnward}
use Rattle.wire.specs.Formats.{big_bytes, big_number, number}
use Rattle.wire.proofs.Fields.{number_in_front, number_sound, number_onward}
use Rattle.wire.proofs.Joined.{then_by_sound, then_by_onward, seen_sound, seen_onward, framed_sound, framed_onward}
use Rattle.wire.proofs.Wholes.{refused_sound}
use Rattle.wire.proofs.Handled.{variant_sound}
use Rattle.wire.specs.declared.blocks.fault.BlockFault.TheVariants.{Truncated, Kind}
use Rattle.wire.proofs.BlocksSound.{body_sound, open_body_sound}
use Rattle.connect_blocks.specs.declared.ar_block.ArBlockReq.{ArBlockReq}
use Rattle.connect_blocks.specs.declared.ar_block.ArBlockRes.{ArBlockRes}
use Rattle.connect_blocks.specs.declared.iocr.IocrBlockReq.{IocrBlockReq}
use Rattle.connect_blocks.specs.declared.iocr.IocrBlockRes.{IocrBlockRes}
use Rattle.connect_blocks.specs.declared.alarm_cr.AlarmCrBlockReq.{AlarmCrBlockReq}
use Rattle.connect_blocks.specs.declared.alarm_cr.AlarmCrBlockRes.{AlarmCrBlockRes}
use Rattle.connect_blocks.specs.declared.expected.ExpectedSubmoduleBlockReq.{ExpectedSubmoduleBlockReq}
use Rattle.connect_blocks.specs.declared.module_diff.ModuleDiffBlock.{ModuleDiffBlock}
use Rattle.connect_blocks.specs.declared.control.ControlBlock.{ControlBlock}
use Rattle.record_blocks.specs.declared.read_record.IodReadReq.{IodReadReq}
use Rattle.record_blocks.specs.declared.read_record.IodReadRes.{IodReadRes}
use Rattle.record_blocks.specs.declared.write_record.IodWriteReq.{IodWriteReq}
use Rattle.record_blocks.specs.declared.write_record.IodWriteRes.{IodWriteRes}
use Rattle.record_blocks.specs.declared.im0.Im0.{Im0}
use Rattle.record_blocks.specs.declared.im1.Im1.{Im1}
use Rattle.record_blocks.specs.declared.im2.Im2.{Im2}
use Rattle.record_blocks.specs.declared.im3.Im3.{Im3}
use Rattle.record_blocks.specs.declared.im4.Im4.{Im4}
use Rattle.record_blocks.specs.declared.filter_data.ImFilterData.{ImFilterData}
use Rattle.record_blocks.specs.declared.alarm_notification.AlarmNotification.{AlarmNotification}
use Rattle.record_blocks.specs.declared.alarm_ack.AlarmAck.{AlarmAck}
use Rattle.connect_blocks.proofs.Sound.{ar_block_req_sound, ar_block_res_sound, iocr_block_req_sound, iocr_block_res_sound, alarm_cr_block_req_sound, alarm_cr_block_res_sound, control_sound}
use Rattle.connect_blocks.proofs.Wanted.{expected_sound}
use Rattle.connect_blocks.proofs.Diff.{module_diff_sound}
use Rattle.record_blocks.proofs.Sound.{iod_read_req_sound, iod_read_res_sound, iod_write_req_sound, iod_write_res_sound, im0_sound, im1_sound, im2_sound, im3_sound, im4_sound, alarm_notification_sound, alarm_ack_sound}
use Rattle.record_blocks.proofs.Filter.{filter_data_sound}
use Rattle.block_codec.specs.declared.block_type.BlockType.{BlockType}
use Rattle.block_codec.specs.declared.block_type.BlockType.TheVariants as kind
use Rattle.block_codec.specs.declared.block.Block.{Block}
use Rattle.block_codec.specs.declared.block.Block.TheVariants as is
use Rattle.block_codec.specs.Kinds.{number_of, type_of}
use Rattle.block_codec.specs.Block.{kind_of, in_ar_block_req, in_ar_block_res, in_iocr_block_req, in_iocr_block_res, in_alarm_cr_block_req, in_alarm_cr_block_res, in_expected_submodule_block_req, in_module_diff_block, in_prm_end, in_prm_end_res, in_application_ready, in_application_ready_res, in_release, in_release_res, in_iod_read_req, in_iod_read_res, in_iod_write_req, in_iod_write_res, in_im0, in_im1, in_im2, in_im3, in_im4, in_im_filter_data_submodule, in_im_filter_data_device, in_alarm_notification, in_alarm_ack, fields_of, body_of, block, IsBlock, block_of, block_bytes}

-- ---- a block of a kind is made of its fields

is_ar_block_req : (value : Block) (inner : ArBlockReq) → in_ar_block_req value ≡ Some inner → is.ArBlockReq inner ≡ value
is_ar_block_req (is.ArBlockReq x) inner e = cc
is_ar_block_req _ inner e = absurd cc

is_ar_block_res : (value : Block) (inner : ArBlockRes) → in_ar_block_res value ≡ Some inner → is.ArBlockRes inner ≡ value
is_ar_block_res (is.ArBlockRes x) inner e = cc
is_ar_block_res _ inner e = absurd cc

is_iocr_block_req : (value : Block) (inner : IocrBlockReq) → in_iocr_block_req value ≡ Some inner → is.IocrBlockReq inner ≡ value
is_iocr_block_req (is.IocrBlockReq x) inner e = cc
is_iocr_block_req _ inner e = absurd cc

is_iocr_block_res : (value : Block) (inner : IocrBlockRes) → in_iocr_block_res value ≡ Some inner → is.IocrBlockRes inner ≡ value
is_iocr_block_res (is.IocrBlockRes x) inner e = cc
is_iocr_block_res _ inner e = absurd cc

is_alarm_cr_block_req : (value : Block) (inner : AlarmCrBlockReq) → in_alarm_cr_block_req value ≡ Some inner → is.AlarmCrBlockReq inner ≡ value
is_alarm_cr_block_req (is.AlarmCrBlockReq x) inner e = cc
is_alarm_cr_block_req _ inner e = absurd cc

is_alarm_cr_block_res : (value : Block) (inner : AlarmCrBlockRes) → in_alarm_cr_block_res value ≡ Some inner → is.AlarmCrBlockRes inner ≡ value
is_alarm_cr_block_res (is.AlarmCrBlockRes x) inner e = cc
is_alarm_cr_block_res _ inner e = absurd cc

is_expected_submodule_block_req : (value : Block) (inner : ExpectedSubmoduleBlockReq) → in_expected_submodule_block_req value ≡ Some inner → is.ExpectedSubmoduleBlockReq inner ≡ value
is_expected_submodule_block_req (is.ExpectedSubmoduleBlockReq x) inner e = cc
is_expected_submodule_block_req _ inner e = absurd cc

is_module_diff_block : (value : Block) (inner : ModuleDiffBlock) → in_module_diff_block value ≡ Some inner → is.ModuleDiffBlock inner ≡ value
is_module_diff_block (is.ModuleDiffBlock x) inner e = cc
is_module_diff_block _ inner e = absurd cc

is_prm_end : (value : Block) (inner : ControlBlock) → in_prm_end value ≡ Some inner → is.PrmEnd inner ≡ value
is_prm_end (is.PrmEnd x) inner e = cc
is_prm_end _ inner e = absurd cc

is_prm_end_res : (value : Block) (inner : ControlBlock) → in_prm_end_res value ≡ Some inner → is.PrmEndRes inner ≡ value
is_prm_end_res (is.PrmEndRes x) inner e = cc
is_prm_end_res _ inner e = absurd cc

is_application_ready : (value : Block) (inner : ControlBlock) → in_application_ready value ≡ Some inner → is.ApplicationReady inner ≡ value
is_application_ready (is.ApplicationReady x) inner e = cc
is_application_ready _ inner e = absurd cc

is_application_ready_res : (value : Block) (inner : ControlBlock) → in_application_ready_res value ≡ Some inner → is.ApplicationReadyRes inner ≡ value
is_application_ready_res (is.ApplicationReadyRes x) inner e = cc
is_application_ready_res _ inner e = absurd cc

is_release : (value : Block) (inner : ControlBlock) → in_release value ≡ Some inner → is.Release inner ≡ value
is_release (is.Release x) inner e = cc
is_release _ inner e = absurd cc

is_release_res : (value : Block) (inner : ControlBlock) → in_release_res value ≡ Some inner → is.ReleaseRes inner ≡ value
is_release_res (is.ReleaseRes x) inner e = cc
is_release_res _ inner e = absurd cc

is_iod_read_req : (value : Block) (inner : IodReadReq) → in_iod_read_req value ≡ Some inner → is.IodReadReq inner ≡ value
is_iod_read_req (is.IodReadReq x) inner e = cc
is_iod_read_req _ inner e = absurd cc

is_iod_read_res : (value : Block) (inner : IodReadRes) → in_iod_read_res value ≡ Some inner → is.IodReadRes inner ≡ value
is_iod_read_res (is.IodReadRes x) inner e = cc
is_iod_read_res _ inner e = absurd cc

is_iod_write_req : (value : Block) (inner : IodWriteReq) → in_iod_write_req value ≡ Some inner → is.IodWriteReq inner ≡ value
is_iod_write_req (is.IodWriteReq x) inner e = cc
is_iod_write_req _ inner e = absurd cc

is_iod_write_res : (value : Block) (inner : IodWriteRes) → in_iod_write_res value ≡ Some inner → is.IodWriteRes inner ≡ value
is_iod_write_res (is.IodWriteRes x) inner e = cc
is_iod_write_res _ inner e = absurd cc

is_im0 : (value : Block) (inner : Im0) → in_im0 value ≡ Some inner → is.Im0 inner ≡ value
is_im0 (is.Im0 x) inner e = cc
is_im0 _ inner e = absurd cc

is_im1 : (value : Block) (inner : Im1) → in_im1 value ≡ Some inner → is.Im1 inner ≡ value
is_im1 (is.Im1 x) inner e = cc
is_im1 _ inner e = absurd cc

is_im2 : (value : Block) (inner : Im2) → in_im2 value ≡ Some inner → is.Im2 inner ≡ value
is_im2 (is.Im2 x) inner e = cc
is_im2 _ inner e = absurd cc

is_im3 : (value : Block) (inner : Im3) → in_im3 value ≡ Some inner → is.Im3 inner ≡ value
is_im3 (is.Im3 x) inner e = cc
is_im3 _ inner e = absurd cc

is_im4 : (value : Block) (inner : Im4) → in_im4 value ≡ Some inner → is.Im4 inner ≡ value
is_im4 (is.Im4 x) inner e = cc
is_im4 _ inner e = absurd cc

is_im_filter_data_submodule : (value : Block) (inner : ImFilterData) → in_im_filter_data_submodule value ≡ Some inner → is.ImFilterDataSubmodule inner ≡ value
is_im_filter_data_submodule (is.ImFilterDataSubmodule x) inner e = cc
is_im_filter_data_submodule _ inner e = absurd cc

is_im_filter_data_device : (value : Block) (inner : ImFilterData) → in_im_filter_data_device value ≡ Some inner → is.ImFilterDataDevice inner ≡ value
is_im_filter_data_device (is.ImFilterDataDevice x) inner e = cc
is_im_filter_data_device _ inner e = absurd cc

is_alarm_notification : (value : Block) (inner : AlarmNotification) → in_alarm_notification value ≡ Some inner → is.AlarmNotification inner ≡ value
is_alarm_notification (is.AlarmNotification x) inner e = cc
is_alarm_notification _ inner e = absurd cc

is_alarm_ack : (value : Block) (inner : AlarmAck) → in_alarm_ack value ≡ Some inner → is.AlarmAck inner ≡ value
is_alarm_ack (is.AlarmAck x) inner e = cc
is_alarm_ack _ inner e = absurd cc

-- ---- blocks

fields_sound : (k : BlockType) → IsSoundWhole (fields_of k)
unfolding fields_of
fields_sound kind.ArBlockReq = variant_sound is.ArBlockReq in_ar_block_req _ is_ar_block_req (body_sound _ ar_block_req_sound)
fields_sound kind.ArBlockRes = variant_sound is.ArBlockRes in_ar_block_res _ is_ar_block_res (body_sound _ ar_block_res_sound)
fields_sound kind.IocrBlockReq = variant_sound is.IocrBlockReq in_iocr_block_req _ is_iocr_block_req (body_sound _ iocr_block_req_sound)
fields_sound kind.IocrBlockRes = variant_sound is.IocrBlockRes in_iocr_block_res _ is_iocr_block_res (body_sound _ iocr_block_res_sound)
fields_sound kind.AlarmCrBlockReq = variant_sound is.AlarmCrBlockReq in_alarm_cr_block_req _ is_alarm_cr_block_req (body_sound _ alarm_cr_block_req_sound)
fields_sound kind.AlarmCrBlockRes = variant_sound is.AlarmCrBlockRes in_alarm_cr_block_res _ is_alarm_cr_block_res (body_sound _ alarm_cr_block_res_sound)
fields_sound kind.ExpectedSubmoduleBlockReq = variant_sound is.ExpectedSubmoduleBlockReq in_expected_submodule_block_req _ is_expected_submodule_block_req (body_sound _ expected_sound)
fields_sound kind.ModuleDiffBlock = variant_sound is.ModuleDiffBlock in_module_diff_block _ is_module_diff_block (body_sound _ module_diff_sound)
fields_sound kind.PrmEnd = variant_sound is.PrmEnd in_prm_end _ is_prm_end (body_sound _ (control_sound None))
fields_sound kind.PrmEndRes = variant_sound is.PrmEndRes in_prm_end_res _ is_prm_end_res (body_sound _ (control_sound (Some 8)))
fields_sound kind.ApplicationReady = variant_sound is.ApplicationReady in_application_ready _ is_application_ready (body_sound _ (control_sound (Some 2)))
fields_sound kind.ApplicationReadyRes = variant_sound is.ApplicationReadyRes in_application_ready_res _ is_application_ready_res (body_sound _ (control_sound (Some 8)))
fields_sound kind.Release = variant_sound is.Release in_release _ is_release (body_sound _ (control_sound None))
fields_sound kind.ReleaseRes = variant_sound is.ReleaseRes in_release_res _ is_release_res (body_sound _ (control_sound (Some 8)))
fields_sound kind.IodReadReq = variant_sound is.IodReadReq in_iod_read_req _ is_iod_read_req (body_sound _ iod_read_req_sound)
fields_sound kind.IodReadRes = variant_sound is.IodReadRes in_iod_read_res _ is_iod_read_res (body_sound _ iod_read_res_sound)
fields_sound kind.IodWriteReq = variant_sound is.IodWriteReq in_iod_write_req _ is_iod_write_req (body_sound _ iod_write_req_sound)
fields_sound kind.IodWriteRes = variant_sound is.IodWriteRes in_iod_write_res _ is_iod_write_res (body_sound _ iod_write_res_sound)
fields_sound kind.Im0 = variant_sound is.Im0 in_im0 _ is_im0 (body_sound _ im0_sound)
fields_sound kind.Im1 = variant_sound is.Im1 in_im1 _ is_im1 (body_sound _ im1_sound)
fields_sound kind.Im2 = variant_sound is.Im2 in_im2 _ is_im2 (body_sound _ im2_sound)
fields_sound kind.Im3 = variant_sound is.Im3 in_im3 _ is_im3 (body_sound _ im3_sound)
fields_sound kind.Im4 = variant_sound is.Im4 in_im4 _ is_im4 (body_sound _ im4_sound)
fields_sound kind.ImFilterDataSubmodule = variant_sound is.ImFilterDataSubmodule in_im_filter_data_submodule _ is_im_filter_data_submodule (body_sound _ filter_data_sound)
fields_sound kind.ImFilterDataDevice = variant_sound is.ImFilterDataDevice in_im_filter_data_device _ is_im_filter_data_device (body_sound _ filter_data_sound)
fields_sound kind.AlarmNotification = variant_sound is.AlarmNotification in_alarm_notification _ is_alarm_notification (open_body_sound _ alarm_notification_sound)
fields_sound kind.AlarmAck = variant_sound is.AlarmAck in_alarm_ack _ is_alarm_ack (body_sound _ alarm_ack_sound)

pub body_of_sound : (k : Option BlockType) → IsSoundWhole (body_of k)
unfolding body_of
body_of_sound (Some k) = fields_sound k
body_of_sound None = refused_sound Kind

pub block_sound : IsSound block
unfolding block
block_sound = seen_sound _ _ _ (λ _. refl) (then_by_sound _ _ (number_sound Truncated 2)
    (λ k. framed_sound _ Truncated _ (number_sound Truncated 2) (body_of_sound (type_of k))))

block_onward : IsOnward block
unfolding block
block_onward = seen_onward _ (λ value. (number_of (kind_of value), value)) _ (then_by_onward _ _ (number_onward Truncated 2)
    (λ k. framed_onward _ Truncated (body_of (type_of k)) (number_onward Truncated 2)))

-- The type with the number of a type is that type.
pub type_of_number : (k : BlockType) → type_of (number_of k) ≡ Some k
unfolding type_of number_of
type_of_number kind.ArBlockReq = refl
type_of_number kind.ArBlockRes = refl
type_of_number kind.IocrBlockReq = refl
type_of_number kind.IocrBlockRes = refl
type_of_number kind.AlarmCrBlockReq = refl
type_of_number kind.AlarmCrBlockRes = refl
type_of_number kind.ExpectedSubmoduleBlockReq = refl
type_of_number kind.ModuleDiffBlock = refl
type_of_number kind.PrmEnd = refl
type_of_number kind.PrmEndRes = refl
type_of_number kind.ApplicationReady = refl
type_of_number kind.ApplicationReadyRes = refl
type_of_number kind.Release = refl
type_of_number kind.ReleaseRes = refl
type_of_number kind.IodReadReq = refl
type_of_number kind.IodReadRes = refl
type_of_number kind.IodWriteReq = refl
type_of_number kind.IodWriteRes = refl
type_of_number kind.Im0 = refl
type_of_number kind.Im1 = refl
type_of_number kind.Im2 = refl
type_of_number kind.Im3 = refl
type_of_number kind.Im4 = refl
type_of_number kind.ImFilterDataSubmodule = refl
type_of_number kind.ImFilterDataDevice = refl
type_of_number kind.AlarmNotification = refl
type_of_number kind.AlarmAck = refl

-- Octets that are read as a block are the octets of that block.
pub block_takes : (bytes : List ℕ) (value : Block) (rest : List ℕ) → block_of bytes ≡ Ok (value, rest) → IsBlock bytes value rest
unfolding block_of IsBlock
block_takes bytes value rest e = block_sound.takes bytes value rest e

-- Octets of a block are read as that block.
pub block_again : (bytes : List ℕ) (value : Block) (rest : List ℕ) → IsBlock bytes value rest → block_of bytes ≡ Ok (value, rest)
unfolding block_of IsBlock
block_again bytes value rest s = block_sound.again bytes value rest s

-- Octets of a block stay so with more octets after them.
pub block_behind : (bytes : List ℕ) (value : Block) (rest more : List ℕ) → IsBlock bytes value rest → IsBlock (bytes ++ more) value (rest ++ more)
unfolding IsBlock
block_behind bytes value rest more s = block_onward.onward bytes value rest more s

-- The number of a type fits two octets.
number_short : (k : BlockType) → number_of k < 256 ^ 2
unfolding number_of
number_short kind.ArBlockReq = lit< tt
number_short kind.ArBlockRes = lit< tt
number_short kind.IocrBlockReq = lit< tt
number_short kind.IocrBlockRes = lit< tt
number_short kind.AlarmCrBlockReq = lit< tt
number_short kind.AlarmCrBlockRes = lit< tt
number_short kind.ExpectedSubmoduleBlockReq = lit< tt
number_short kind.ModuleDiffBlock = lit< tt
number_short kind.PrmEnd = lit< tt
number_short kind.PrmEndRes = lit< tt
number_short kind.ApplicationReady = lit< tt
number_short kind.ApplicationReadyRes = lit< tt
number_short kind.Release = lit< tt
number_short kind.ReleaseRes = lit< tt
number_short kind.IodReadReq = lit< tt
number_short kind.IodReadRes = lit< tt
number_short kind.IodWriteReq = lit< tt
number_short kind.IodWriteRes = lit< tt
number_short kind.Im0 = lit< tt
number_short kind.Im1 = lit< tt
number_short kind.Im2 = lit< tt
number_short kind.Im3 = lit< tt
number_short kind.Im4 = lit< tt
number_short kind.ImFilterDataSubmodule = lit< tt
number_short kind.ImFilterDataDevice = lit< tt
number_short kind.AlarmNotification = lit< tt
number_short kind.AlarmAck = lit< tt

-- A block whose fields fit can be written.
fits : (value : Block) → (fields_of (kind_of value)).size value < 65536 → (fields_of (kind_of value)).Fits value → block.Fits value
unfolding block body_of
fits value short inner =
    rw (type_of_number (kind_of value)) (number_short (kind_of value), (short, inner))

-- The octets of a block, followed by any octets.
written_local : (value : Block) (rest : List ℕ) → block.write value rest ≡ block_bytes value ++ rest
unfolding block_bytes
written_local value rest = block_sound.local value rest

-- What is written is the octets of the block, with any octets after it.
pub block_written : (value : Block) (rest : List ℕ) → (fields_of (kind_of value)).size value < 65536 → (fields_of (kind_of value)).Fits value → IsBlock (block_bytes value ++ rest) value rest
unfolding IsBlock
block_written value rest short inner =
    subst (λ (bytes : List ℕ). block.Spells bytes value rest) (written_local value rest) (block_sound.written value rest (fits value short inner))

-- The octets of a block are its header and what BlockLength counts.
pub block_parts : (value : Block) → block_bytes value ≡ big_bytes 2 (number_of (kind_of value)) ++ (big_bytes 2 ((fields_of (kind_of value)).size value) ++ (fields_of (kind_of value)).write value)
unfolding block_bytes block body_of
block_parts value =
    rw (type_of_number (kind_of value)) (ap (λ (xs : List ℕ). big_bytes 2 (number_of (kind_of value)) ++ (big_bytes 2 ((fields_of (kind_of value)).size value) ++ xs)) (append-nil ((fields_of (kind_of value)).write value)))

-- The number that is read at the start is the number there.
pub front_number : (bytes : List ℕ) (value : ℕ) (rest : List ℕ) → (number Truncated 2).read bytes ≡ Ok (value, rest) → value ≡ big_number 2 bytes
front_number bytes value rest e = number_in_front Truncated 2 bytes value rest e

-- Octets that are appended one after the other.
pub joined : (old a b new header lengths inside : List ℕ) → a ≡ old ++ header → b ≡ a ++ lengths → new ≡ b ++ inside → new ≡ old ++ (header ++ (lengths ++ inside))
joined old a b new header lengths inside x y z =
    z ∙ ap (λ (xs : List ℕ). xs ++ inside) (y ∙ ap (λ (xs : List ℕ). xs ++ lengths) x)
    ∙ append_assoc (old ++ header) lengths inside ∙ append_assoc old header (lengths ++ inside)
