-- The fields of a block that is read are accepted.
use Rattle.std.proofs.Common.{◌≡◌, ℕ, List, Option, Some, None, Ok, subst}
use Rattle.connect_blocks.proofs.Accepted.{ar_block_req_accepted, alarm_cr_block_req_accepted, iocr_block_req_accepted, control_accepted}
use Rattle.connect_blocks.proofs.Handled.{expected_accepted}
use Rattle.connect_blocks.proofs.Diff.{module_diff_accepted}
use Rattle.record_blocks.proofs.Filter.{filter_data_accepted}
use Rattle.block_codec.specs.declared.block_type.BlockType.{BlockType}
use Rattle.block_codec.specs.declared.block_type.BlockType.TheVariants as kind
use Rattle.block_codec.specs.declared.block.Block.{Block}
use Rattle.block_codec.specs.Kinds.{type_of}
use Rattle.block_codec.specs.Block.{IsAccepted, IsBlock, block, body_of, fields_of}
use Rattle.block_codec.proofs.Sound.{body_of_sound}

fields_accepted : (k : BlockType) (inside : List ℕ) (value : Block) → (fields_of k).Spells inside value → IsAccepted value
unfolding fields_of
fields_accepted kind.ArBlockReq inside value s = subst (λ (x : Block). IsAccepted x) s.1 (ar_block_req_accepted inside s.0 s.2)
fields_accepted kind.IocrBlockReq inside value s = subst (λ (x : Block). IsAccepted x) s.1 (iocr_block_req_accepted inside s.0 s.2)
fields_accepted kind.AlarmCrBlockReq inside value s = subst (λ (x : Block). IsAccepted x) s.1 (alarm_cr_block_req_accepted inside s.0 s.2)
fields_accepted kind.ExpectedSubmoduleBlockReq inside value s = subst (λ (x : Block). IsAccepted x) s.1 (expected_accepted inside s.0 s.2)
fields_accepted kind.ModuleDiffBlock inside value s = subst (λ (x : Block). IsAccepted x) s.1 (module_diff_accepted inside s.0 s.2)
fields_accepted kind.PrmEndRes inside value s = subst (λ (x : Block). IsAccepted x) s.1 (control_accepted 8 inside s.0 s.2)
fields_accepted kind.ApplicationReady inside value s = subst (λ (x : Block). IsAccepted x) s.1 (control_accepted 2 inside s.0 s.2)
fields_accepted kind.ApplicationReadyRes inside value s = subst (λ (x : Block). IsAccepted x) s.1 (control_accepted 8 inside s.0 s.2)
fields_accepted kind.ReleaseRes inside value s = subst (λ (x : Block). IsAccepted x) s.1 (control_accepted 8 inside s.0 s.2)
fields_accepted kind.ImFilterDataSubmodule inside value s = subst (λ (x : Block). IsAccepted x) s.1 (filter_data_accepted inside s.0 s.2)
fields_accepted kind.ImFilterDataDevice inside value s = subst (λ (x : Block). IsAccepted x) s.1 (filter_data_accepted inside s.0 s.2)
fields_accepted _ inside value s = subst (λ (x : Block). IsAccepted x) s.1 tt

body_accepted : (k : Option BlockType) (inside : List ℕ) (value : Block) → (body_of k).Spells inside value → IsAccepted value
unfolding body_of
body_accepted (Some k) inside value s = fields_accepted k inside value s
body_accepted None inside value s = absurd s

-- Octets of a block are those of one whose fields are accepted.
pub block_accepted : (bytes : List ℕ) (value : Block) (rest : List ℕ) → IsBlock bytes value rest → IsAccepted value
unfolding IsBlock block
block_accepted bytes value rest s = subst (λ (x : Block). IsAccepted x) s.1 (body_accepted (type_of s.0.0) s.2.2.0 s.0.1 s.2.2.4)

-- Octets that are read as what BlockLength counts give a block whose fields are accepted.
pub body_read_accepted : (k : Option BlockType) (inside : List ℕ) (value : Block) → (body_of k).read inside ≡ Ok value → IsAccepted value
body_read_accepted k inside value e = body_accepted k inside value ((body_of_sound k).takes inside value e)
