-- The length of a Connect.
use Rattle.std.proofs.Common.{◌≡◌, inl, inr, ℕ, ◌+◌, ◌-◌, ◌≤◌, true, List, [], ◌∷◌, length, nat_le, Some, None, is_some, refl, arith}
use Rattle.std.proofs.lemmas.Bool.{cases_Bool, leb-true}
use Rattle.wire.specs.blocks.Fields.{body, version}
use Rattle.connect_blocks.specs.ArBlock.{ar_block_req, ar_uuid, initiator_mac}
use Rattle.connect_blocks.specs.declared.iocr.IocrType.TheVariants.{Input, Output}
use Rattle.block_codec.specs.declared.block.Block.{Block}
use Rattle.block_codec.specs.declared.block.Block.TheVariants as is
use Rattle.block_codec.specs.Block.{block_size, fields_of}
use Rattle.plans.specs.declared.parts.Parts.{Parts}
use Rattle.plans.specs.Connect.{alarm_block, ar_block, blocks_of, does_connect_fit, expected_blocks, iocr_block, left_behind, size_of, some_uuid}

-- if there are too few octets, none remain after any blocks
none_left : (blocks : List Block) → left_behind None blocks ≡ None
none_left [] = refl
none_left (block ∷ blocks) = none_left blocks

-- octets remain if the blocks are not longer than they were
pub left_fits : (left : ℕ) (blocks : List Block) → is_some (left_behind (Some left) blocks) ≡ nat_le (size_of blocks) left
left_fits left [] = grind arith
left_fits left (block ∷ blocks) =
    elim (cases_Bool (nat_le (block_size block) left)) [
      | inl t ↦ let rest = left_fits (left - block_size block) blocks in rw t (grind (arith, rest, t))
      | inr f ↦ let none = none_left blocks in rw (f, none) (grind (arith, f))
    ]

-- the length of the ARBlockReq depends only on the length of the ARUUID
ar_size : (parts : Parts) (ar : List ℕ) → length ar ≡ 16 → block_size (is.ArBlockReq (ar_block parts ar)) ≡ block_size (is.ArBlockReq (ar_block parts some_uuid))
unfolding block_size fields_of body version ar_block_req ar_uuid initiator_mac
ar_size parts ar sixteen = rw sixteen refl

not_above : (n most : ℕ) → nat_le n most ≡ true → n ≤ most
not_above n most h = leb-true n most h

with_other : (one other rest most : ℕ) → one ≡ other → other + rest ≤ most → one + rest ≤ most
with_other one other rest most same below = omega (arith, same, below)

-- so the Connect of a plan fits with any ARUUID
pub connect_room : (parts : Parts) (ar : List ℕ) → length ar ≡ 16 → does_connect_fit parts ≡ true
    → block_size (is.ArBlockReq (ar_block parts ar))
    + (block_size (is.IocrBlockReq (iocr_block parts Input))
    + (block_size (is.IocrBlockReq (iocr_block parts Output))
    + (block_size (is.AlarmCrBlockReq alarm_block) + size_of (expected_blocks parts.real.modules.items)))) ≤ 1372
connect_room parts ar sixteen fits = with_other _ _ _ _ (ar_size parts ar sixteen) (not_above (size_of (blocks_of parts some_uuid)) 1372 fits)
