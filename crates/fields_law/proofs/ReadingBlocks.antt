-- Blocks with their header, read at their places.
use Rattle.std.proofs.Common.{◌≡◌, ◌+◌, ◌<◌, ◌++◌, ℕ, List, [], ◌∷◌, drop, length, take, refl, ap, ◌∙◌, arith}
use Rattle.byteorder.specs.Endian.{big_bytes}
use Rattle.byteorder.specs.Numbers.{big_number-reads_back}
use Rattle.block_codec.specs.declared.block.Block.{Block}
use Rattle.block_codec.specs.Block.{block_bytes, block_size, fields_of, kind_of}
use Rattle.end_laws.specs.log_data.Reading.{number_at}
use Rattle.fields_law.specs.Blocks.{after_block, first_block}
use Rattle.fields_law.specs.Port.{IsBlock}
use Rattle.fields_law.proofs.ReadingPlaces.{at_place, front_of}

-- BlockType, BlockLength, the version 1.0, and what follows it
abbrev pub with_size : ℕ → ℕ → List ℕ → List ℕ
with_size type size inside = big_bytes 2 type ++ (big_bytes 2 size ++ (1 ∷ 0 ∷ inside))

-- the same, with the BlockLength that counts it
abbrev pub headed : ℕ → List ℕ → List ℕ
headed type inside = with_size type (2 + length inside) inside

-- the header alone
abbrev pub header : ℕ → List ℕ → List ℕ
header type inside = with_size type (2 + length inside) []

pub headed_long : (type : ℕ) (inside : List ℕ) → length (headed type inside) ≡ 6 + length inside
headed_long type inside = omega arith

pub block_is : (type : ℕ) (inside : List ℕ) → type < 65536 → length inside < 65000 → IsBlock (headed type inside) type
block_is type inside fits few =
    let size : number_at 2 2 (headed type inside) ≡ 2 + length inside = big_number-reads_back 2 (2 + length inside) [] (omega (arith, few)) in
    record {
      kind = big_number-reads_back 2 type [] fits;
      size = ap (λ (n : ℕ). n + 4) size ∙ omega arith;
      version = refl;
    }

-- the BlockLength that is written
abbrev pub size_in : Block → ℕ
size_in block = (fields_of (kind_of block)).size block

-- the law of block_codec on lengths
abbrev pub AreLong : Type 0
AreLong = (block : Block) → length (block_bytes block) ≡ block_size block

-- it counts what follows it
pub headed_is : AreLong → (block : Block) (type : ℕ) (inside : List ℕ) → block_bytes block ≡ with_size type (size_in block) inside
    → block_bytes block ≡ headed type inside
unfolding block_size
headed_is long block type inside made =
    let all : length (block_bytes block) ≡ 4 + size_in block = long block in
    let here : length (block_bytes block) ≡ length (with_size type (size_in block) inside) = ap length made in
    let size : size_in block ≡ 2 + length inside = omega (arith, all, here) in
    made ∙ ap (λ (n : ℕ). with_size type n inside) size

-- a block before other octets: it is the first one, and they follow it
module _ (type : ℕ) (inside rest octets : List ℕ) (made : octets ≡ headed type inside) (few : length inside < 65000) where
  size_there : 4 + number_at 2 2 (octets ++ rest) ≡ length octets
  size_there =
      let back : number_at 2 2 (octets ++ rest) ≡ 2 + length inside =
      ap (λ (xs : List ℕ). number_at 2 2 (xs ++ rest)) made ∙ big_number-reads_back 2 (2 + length inside) [] (omega (arith, few)) in
      let long : length octets ≡ 6 + length inside = ap length made ∙ headed_long type inside in
      omega (arith, back, long)

  pub first_is : first_block (octets ++ rest) ≡ octets
  first_is = ap (λ (n : ℕ). take n (octets ++ rest)) size_there ∙ front_of octets rest

  pub after_is : after_block (octets ++ rest) ≡ rest
  after_is =
      ap (λ (n : ℕ). drop n (octets ++ rest)) size_there
      ∙ at_place (octets ++ rest) rest (octets ∷ []) (length octets) refl (omega arith)
