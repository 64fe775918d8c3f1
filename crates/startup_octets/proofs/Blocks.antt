-- The blocks that a controller writes, read at fixed places.
use Rattle.std.proofs.Common.{◌≡◌, ◌<◌, ◌+◌, ◌*◌, ◌/◌, ℕ, zero, suc, List, [], ◌∷◌, ◌++◌, length, take, drop, replicate, nat_lt, Some, refl, sym, ap, subst, ◌∙◌, arith, append_assoc}
use Rattle.std.proofs.lemmas.Bool.{cond-true, lt-ltb}
use Rattle.std.proofs.lemmas.List.{append-nil}
use Rattle.byteorder.specs.Endian.{big_bytes}
use Rattle.wire.specs.blocks.Fields.{body, number_bytes, octet_bytes, open_body, version, zeros}
use Rattle.connect_blocks.specs.ArBlock.{ar_block_req, ar_uuid}
use Rattle.connect_blocks.specs.Control.{command, control}
use Rattle.connect_blocks.specs.declared.ar_block.ArBlockReq.{ArBlockReq}
use Rattle.connect_blocks.specs.declared.control.ControlBlock.{ControlBlock}
use Rattle.record_blocks.specs.RecordHeader.{record_header}
use Rattle.record_blocks.specs.WriteRecord.{iod_write_req}
use Rattle.record_blocks.specs.declared.write_record.IodWriteReq.{IodWriteReq}
use Rattle.block_codec.specs.declared.block.Block.{Block}
use Rattle.block_codec.specs.declared.block.Block.TheVariants as is
use Rattle.block_codec.specs.Kinds.{number_of as kind_number}
use Rattle.block_codec.specs.Block.{block_bytes, fields_of, kind_of}
use Rattle.block_codec.proofs.Sound.{block_parts}
use Rattle.octets_law.specs.Octets.{number, part}
use Rattle.octets_law.proofs.CallPlaces.{skip}
use Rattle.octets_law.proofs.SetFrames.{number_front, take_front}
use Rattle.startup_octets.specs.StartUp.{Written, parameter_in, parameters_in}

-- The octets of a block: its type, its length, and what that counts.
abbrev octets_for : Block → List ℕ
octets_for value = big_bytes 2 (kind_number (kind_of value)) ++ (big_bytes 2 ((fields_of (kind_of value)).size value) ++ (fields_of (kind_of value)).write value)

-- Its type, and the ARUUID after two octets of its own.
pub record IsBlockOf (type : ℕ) (relation octets : List ℕ) : Type 0 where
  pub type_is : number 0 2 octets ≡ type
  pub relation_is : part 8 16 octets ≡ relation

pub sixteen : (octets rest : List ℕ) → length octets ≡ 16 → take 16 (octets ++ rest) ≡ octets
sixteen octets rest is = subst (λ n. take n (octets ++ rest) ≡ octets) is (take_front octets rest)

prm_end_for : (value : ControlBlock) (rest : List ℕ) → length value.ar_uuid ≡ 16 → IsBlockOf 0x0110 value.ar_uuid (octets_for (is.PrmEnd value) ++ rest)
unfolding kind_number fields_of body version control command number_bytes octet_bytes zeros
prm_end_for value rest wide = record { type_is = refl; relation_is = ap (take 16) (append_assoc value.ar_uuid _ rest) ∙ sixteen value.ar_uuid _ wide }

pub prm_end_read : (value : ControlBlock) → length value.ar_uuid ≡ 16 → IsBlockOf 0x0110 value.ar_uuid (block_bytes (is.PrmEnd value))
prm_end_read value wide =
    subst (λ l. IsBlockOf 0x0110 value.ar_uuid l) (append-nil (octets_for (is.PrmEnd value)) ∙ sym (block_parts (is.PrmEnd value))) (prm_end_for value [] wide)

ready_for : (value : ControlBlock) (rest : List ℕ) → length value.ar_uuid ≡ 16 → IsBlockOf 0x0112 value.ar_uuid (octets_for (is.ApplicationReady value) ++ rest)
unfolding kind_number fields_of body version control command number_bytes octet_bytes zeros
ready_for value rest wide = record { type_is = refl; relation_is = ap (take 16) (append_assoc value.ar_uuid _ rest) ∙ sixteen value.ar_uuid _ wide }

pub ready_read : (value : ControlBlock) → length value.ar_uuid ≡ 16 → IsBlockOf 0x0112 value.ar_uuid (block_bytes (is.ApplicationReady value))
ready_read value wide =
    subst (λ l. IsBlockOf 0x0112 value.ar_uuid l) (append-nil (octets_for (is.ApplicationReady value)) ∙ sym (block_parts (is.ApplicationReady value))) (ready_for value [] wide)

connect_for : (value : ArBlockReq) (rest : List ℕ) → length value.ar_uuid ≡ 16 → IsBlockOf 0x0101 value.ar_uuid (octets_for (is.ArBlockReq value) ++ rest)
unfolding kind_number fields_of body open_body version ar_block_req ar_uuid number_bytes octet_bytes zeros
connect_for value rest wide = record { type_is = refl; relation_is = ap (take 16) (append_assoc value.ar_uuid _ rest) ∙ sixteen value.ar_uuid _ wide }

pub connect_read : (value : ArBlockReq) (rest : List ℕ) → length value.ar_uuid ≡ 16 → IsBlockOf 0x0101 value.ar_uuid (block_bytes (is.ArBlockReq value) ++ rest)
connect_read value rest wide = subst (λ l. IsBlockOf 0x0101 value.ar_uuid (l ++ rest)) (sym (block_parts (is.ArBlockReq value))) (connect_for value rest wide)

none_behind : (n : ℕ) → drop {A = ℕ} n [] ≡ []
none_behind zero = refl
none_behind (suc n) = refl

no_more : (n : ℕ) → 0 + n ≡ n
no_more n = omega arith

one_more : (n m : ℕ) → suc n + m ≡ suc (n + m)
one_more n m = omega arith

drop_more : (n m : ℕ) (octets : List ℕ) → drop (n + m) octets ≡ drop m (drop n octets)
drop_more zero m octets = ap (λ k. drop k octets) (no_more m)
drop_more (suc n) m [] = ap (λ k. drop k []) (one_more n m) ∙ sym (none_behind m)
drop_more (suc n) m (first ∷ octets) = ap (λ k. drop k (first ∷ octets)) (one_more n m) ∙ drop_more n m octets

-- ---- the header of a Write

-- What is read of a header: its type, its ARUUID, the place of its record, and what follows it.
pub record IsWriteHeader (asked : IodWriteReq) (octets rest : List ℕ) : Type 0 where
  pub block : IsBlockOf 0x0008 asked.header.ar_uuid octets
  pub slot : number 28 2 octets ≡ asked.header.slot_number
  pub subslot : number 30 2 octets ≡ asked.header.subslot_number
  pub index : number 34 2 octets ≡ asked.header.index
  pub count : number 36 4 octets ≡ asked.header.record_data_length
  pub behind : (n : ℕ) → drop (64 + n) octets ≡ drop n rest

-- What follows the fields of a header, one after another.
abbrev behind_count : List ℕ → List ℕ
behind_count rest = replicate 24 0 ++ rest

abbrev behind_index : IodWriteReq → List ℕ → List ℕ
behind_index asked rest = big_bytes 4 asked.header.record_data_length ++ behind_count rest

abbrev behind_subslot : IodWriteReq → List ℕ → List ℕ
behind_subslot asked rest = 0 ∷ 0 ∷ (big_bytes 2 asked.header.index ++ behind_index asked rest)

abbrev behind_slot : IodWriteReq → List ℕ → List ℕ
behind_slot asked rest = big_bytes 2 asked.header.subslot_number ++ behind_subslot asked rest

write_for : (asked : IodWriteReq) (rest : List ℕ) → length asked.header.ar_uuid ≡ 16 → asked.header.slot_number < 65536 → asked.header.subslot_number < 65536
    → asked.header.index < 65536 → asked.header.record_data_length < 4294967296 → IsWriteHeader asked (octets_for (is.IodWriteReq asked) ++ rest) rest
unfolding kind_number fields_of body version iod_write_req record_header number_bytes octet_bytes zeros
write_for asked rest wide slot subslot index count =
    let uuid : List ℕ = asked.header.ar_uuid in
    record {
      block = record { type_is = refl; relation_is = ap (take 16) (append_assoc uuid _ rest) ∙ sixteen uuid _ wide };
      slot = ap (number 20 2) (append_assoc uuid _ rest) ∙ ap (number 0 2) (skip 4 16 uuid _ wide) ∙ number_front 2 asked.header.slot_number (behind_slot asked rest) (omega (arith, slot));
      subslot = ap (number 22 2) (append_assoc uuid _ rest) ∙ ap (number 0 2) (skip 6 16 uuid _ wide) ∙ number_front 2 asked.header.subslot_number (behind_subslot asked rest) (omega (arith, subslot));
      index = ap (number 26 2) (append_assoc uuid _ rest) ∙ ap (number 0 2) (skip 10 16 uuid _ wide) ∙ number_front 2 asked.header.index (behind_index asked rest) (omega (arith, index));
      count = ap (number 28 4) (append_assoc uuid _ rest) ∙ ap (number 0 4) (skip 12 16 uuid _ wide) ∙ number_front 4 asked.header.record_data_length (behind_count rest) (omega (arith, count));
      behind = λ n. drop_more 64 n (octets_for (is.IodWriteReq asked) ++ rest) ∙ ap (drop n) (ap (drop 56) (append_assoc uuid _ rest) ∙ skip 40 16 uuid _ wide);
    }

pub write_read : (asked : IodWriteReq) (rest : List ℕ) → length asked.header.ar_uuid ≡ 16 → asked.header.slot_number < 65536 → asked.header.subslot_number < 65536
    → asked.header.index < 65536 → asked.header.record_data_length < 4294967296 → IsWriteHeader asked (block_bytes (is.IodWriteReq asked) ++ rest) rest
write_read asked rest wide slot subslot index count =
    subst (λ l. IsWriteHeader asked (l ++ rest) rest) (sym (block_parts (is.IodWriteReq asked))) (write_for asked rest wide slot subslot index count)

-- ---- parameter records

-- The record of a header with octets after it.
abbrev pub written_in : IodWriteReq → List ℕ → Written
written_in asked octets = record { slot = asked.header.slot_number; subslot = asked.header.subslot_number; index = asked.header.index; octets = octets }

abbrev written_at : ℕ → ℕ → ℕ → List ℕ → Written
written_at slot subslot index octets = record { slot = slot; subslot = subslot; index = index; octets = octets }

same_written : (a b c d e f : ℕ) (one other : List ℕ) → a ≡ d → b ≡ e → c ≡ f → one ≡ other
    → Some (written_at a b c one) ≡ Some (written_at d e f other)
same_written a b c d e f one other p q r s = cc

pub parameter_read : (asked : IodWriteReq) (octets value rest : List ℕ) → IsWriteHeader asked octets (value ++ rest) → asked.header.index < 0x8000
    → asked.header.record_data_length ≡ length value → parameter_in octets ≡ Some (written_in asked value)
parameter_read asked octets value rest it small count =
    cond-true (nat_lt (number 34 2 octets) 0x8000) _ _ (ap (λ n. nat_lt n 0x8000) it.index ∙ lt-ltb asked.header.index 0x8000 small)
    ∙ same_written _ _ _ _ _ _ _ _ it.slot it.subslot it.index
    (ap (λ n. take n (drop 64 octets)) (it.count ∙ count) ∙ ap (take (length value)) (it.behind 0) ∙ take_front value rest)

-- The first of several records, and those after it.
parameters_for : (most : ℕ) (asked : IodWriteReq) (rest : List ℕ) →
    parameters_in (suc most) (octets_for (is.IodWriteReq asked) ++ rest)
    ≡ parameter_in (octets_for (is.IodWriteReq asked) ++ rest)
    ∷ parameters_in most (drop (64 + (number 36 4 (octets_for (is.IodWriteReq asked) ++ rest) + 3) / 4 * 4) (octets_for (is.IodWriteReq asked) ++ rest))
unfolding kind_number
parameters_for most asked rest = refl

pub parameters_step : (most : ℕ) (asked : IodWriteReq) (rest : List ℕ) →
    parameters_in (suc most) (block_bytes (is.IodWriteReq asked) ++ rest)
    ≡ parameter_in (block_bytes (is.IodWriteReq asked) ++ rest)
    ∷ parameters_in most (drop (64 + (number 36 4 (block_bytes (is.IodWriteReq asked) ++ rest) + 3) / 4 * 4) (block_bytes (is.IodWriteReq asked) ++ rest))
parameters_step most asked rest =
    subst (λ l. parameters_in (suc most) (l ++ rest)
    ≡ parameter_in (l ++ rest) ∷ parameters_in most (drop (64 + (number 36 4 (l ++ rest) + 3) / 4 * 4) (l ++ rest)))
    (sym (block_parts (is.IodWriteReq asked))) (parameters_for most asked rest)
