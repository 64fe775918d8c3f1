-- A Write of a record that the device has: it is judged well, and the record is kept.
use Rattle.std.proofs.Common.{◌≡◌, ◌<◌, ◌≤◌, ◌==◌, ◌&&◌, ◌||◌, ◌++◌, ℕ, Bool, true, false, not, cond, List, [], ◌∷◌}
use Rattle.std.proofs.Common.{length, take, Option, Some, None, is_some, Result, Ok, Err, refl, ap, ◌∙◌, arith}
use Rattle.std.specs.Prelude.{nat_le, nat_lt}
use Rattle.std.specs.List.{list_any}
use Rattle.std.specs.Option.{option_or}
use Rattle.std.proofs.lemmas.Bool.{cond-false, eq-eqb, le-leb, ltb-true, ne_eqb}
use Rattle.std.proofs.lemmas.Cmp.{nat_list_eq_equiv}
use Rattle.std.proofs.lemmas.List.{length-append}
use Rattle.wire.specs.Codec.{◌>>=◌}
use Rattle.wire.specs.Checks.{or_fault}
use Rattle.wire.specs.Formats.{big_number}
use Rattle.wire.specs.declared.blocks.fault.BlockFault.{BlockFault}
use Rattle.pn_values.specs.declared.real.Real.{Real}
use Rattle.pn_values.specs.declared.real.RealModule.{RealModule}
use Rattle.pn_values.specs.declared.real.RealSubmodule.{RealSubmodule}
use Rattle.record_blocks.specs.declared.write_record.IodWriteReq.{IodWriteReq}
use Rattle.block_codec.specs.declared.block.Block.{Block}
use Rattle.block_codec.specs.declared.block.Block.TheVariants as is
use Rattle.block_codec.specs.declared.block_type.BlockType.TheVariants as kind
use Rattle.block_codec.specs.Kinds.{number_of}
use Rattle.block_codec.specs.Block.{block, block_bytes, block_of, block_size, front, in_iod_write_req}
use Rattle.im_records.specs.declared.record.Record.{Record}
use Rattle.im_records.specs.Indices.{is_anywhere, is_read_only, is_text, record_with}
use Rattle.im_records.specs.Records.{has_subslot, is_device, is_real}
use Rattle.im_records.specs.Writable.{is_writable}
use Rattle.records.specs.declared.status.call_fault.CallFault.{CallFault}
use Rattle.records.specs.declared.status.call_fault.CallFault.TheVariants as fault
use Rattle.records.specs.calls.Handled.{Judgement, handled as in_order}
use Rattle.records.specs.calls.Naming.{in_relation, is_relation}
use Rattle.records.specs.calls.Single.{formed, single_of}
use Rattle.records.specs.reads.Handled.{placed}
use Rattle.records.specs.reads.Parameters.{length_in, parameter_length, submodule_length}
use Rattle.records.specs.declared.writes.taken.TakenRecord.{TakenRecord}
use Rattle.records.specs.declared.writes.write.Effect.{Effect}
use Rattle.records.specs.declared.writes.write.Effect.TheVariants.{Keeps}
use Rattle.records.specs.declared.writes.write.Write.{Write}
use Rattle.records.specs.declared.writes.writing.Writing.{Writing}
use Rattle.records.specs.declared.writes.writing.Writing.TheVariants.{One, Each}
use Rattle.records.specs.writes.Asked.{handled_writing, several_of, writing_of}
use Rattle.records.specs.writes.Handled.{effect_of, handled_request, is_known, is_length, kept, stored, targeted, written}
use Rattle.records.specs.writes.Several.{is_several}
use Rattle.rounds_law.proofs.Choices.{both_true}

-- ---- checks in order

-- A check that does not fail leaves it to the others.
pub passes : {A : Type 0} (failed : Bool) (why : CallFault) (others : List Judgement) (otherwise : Result A CallFault) → failed ≡ false
    → in_order ((failed, why) ∷ others) otherwise ≡ in_order others otherwise
passes failed why others otherwise e = ap (λ (b : Bool). cond b (Err why) (in_order others otherwise)) e

pub one_true : (a b : Bool) → b ≡ true → (a || b) ≡ true
one_true true b e = refl
one_true false b e = e

-- A number is not below a smaller or equal one.
pub not_below : (a b : ℕ) → b ≤ a → nat_lt a b ≡ false
not_below a b most = by_test (nat_lt a b) refl
  where
    by_test : (c : Bool) → nat_lt a b ≡ c → c ≡ false
    by_test true e = let below = ltb-true a b e in absurd (omega (arith, below, most))
    by_test false e = refl

pub take_whole : (octets : List ℕ) → take (length octets) octets ≡ octets
take_whole [] = refl
take_whole (octet ∷ octets) = ap (λ (more : List ℕ). octet ∷ more) (take_whole octets)

-- ---- a submodule that has the record is plugged

abbrev has_part : ℕ → List RealSubmodule → Bool
has_part subslot parts = list_any (λ (part : RealSubmodule). part.subslot == subslot) parts

submodule_is : (subslot index size : ℕ) (parts : List RealSubmodule) → submodule_length subslot index parts ≡ Some size → has_part subslot parts ≡ true
submodule_is subslot index size [] e = absurd cc
submodule_is subslot index size (part ∷ parts) e = by_subslot (part.subslot == subslot) (submodule_is subslot index size parts) e
  where
    by_subslot : (b : Bool) → (submodule_length subslot index parts ≡ Some size → has_part subslot parts ≡ true)
        → cond b (option_or (length_in index part.parameters.items) (submodule_length subslot index parts)) (submodule_length subslot index parts) ≡ Some size
        → (b || has_part subslot parts) ≡ true
    by_subslot true others f = refl
    by_subslot false others f = others f

abbrev is_plugged : ℕ → ℕ → List RealModule → Bool
is_plugged slot subslot modules = list_any (λ (entry : RealModule). entry.slot == slot && has_subslot subslot entry) modules

module_is : (slot subslot index size : ℕ) (modules : List RealModule) → parameter_length modules slot subslot index ≡ Some size
    → is_plugged slot subslot modules ≡ true
module_is slot subslot index size [] e = absurd cc
module_is slot subslot index size (entry ∷ modules) e =
    by_slot (entry.slot == slot) (module_is slot subslot index size modules) (submodule_length subslot index entry.submodules.items) refl e
  where
    by_slot : (b : Bool) → (parameter_length modules slot subslot index ≡ Some size → is_plugged slot subslot modules ≡ true)
        → (o : Option ℕ) → submodule_length subslot index entry.submodules.items ≡ o
        → cond b (option_or o (parameter_length modules slot subslot index)) (parameter_length modules slot subslot index) ≡ Some size
        → ((b && has_subslot subslot entry) || is_plugged slot subslot modules) ≡ true
    by_slot true others (Some some) is f = ap (λ (b : Bool). b || is_plugged slot subslot modules) (submodule_is subslot index some entry.submodules.items is)
    by_slot true others None is f = one_true (has_subslot subslot entry) (is_plugged slot subslot modules) (others f)
    by_slot false others o is f = others f

-- ---- an index of the manufacturer

differs : (index number : ℕ) → index < number → (index == number) ≡ false
differs index number below = ne_eqb index number (λ same. omega (arith, below, same))

none_below : (index : ℕ) → index < 0x8000 → record_with index ≡ None
unfolding record_with
none_below index below =
    let not_0 : (index == 0xAFF0) ≡ false = differs index 0xAFF0 (omega (arith, below)) in
    let not_1 : (index == 0xAFF1) ≡ false = differs index 0xAFF1 (omega (arith, below)) in
    let not_2 : (index == 0xAFF2) ≡ false = differs index 0xAFF2 (omega (arith, below)) in
    let not_3 : (index == 0xAFF3) ≡ false = differs index 0xAFF3 (omega (arith, below)) in
    let not_4 : (index == 0xAFF4) ≡ false = differs index 0xAFF4 (omega (arith, below)) in
    let not_filter : (index == 0xF840) ≡ false = differs index 0xF840 (omega (arith, below)) in
    let not_diff : (index == 0xE002) ≡ false = differs index 0xE002 (omega (arith, below)) in
    rw (not_0, not_1, not_2, not_3, not_4, not_filter, not_diff) refl

-- ---- one record

-- The header of the Write of a record of this relation.
abbrev pub asked_for : List ℕ → ℕ → ℕ → ℕ → ℕ → List ℕ → IodWriteReq
asked_for ar sequence slot subslot index octets = record {
  header = record {
    seq_number = sequence;
    ar_uuid = ar;
    api = 0;
    slot_number = slot;
    subslot_number = subslot;
    index = index;
    record_data_length = length octets;
  };
}

-- The record, as a device keeps it.
abbrev pub kept_as : ℕ → ℕ → ℕ → List ℕ → TakenRecord
kept_as slot subslot index octets = record { slot = slot; subslot = subslot; index = index; value = record { items = octets } }

pub own_relation : (ar : List ℕ) → in_relation (Some ar) ar ≡ Ok tt
unfolding in_relation
own_relation ar = passes (not (is_relation (Some ar) ar)) fault.UnknownRelation [] (Ok tt) (ap not (nat_list_eq_equiv.refl ar))

module _ (real : Real) (ar : List ℕ) (sequence slot subslot index : ℕ) (octets : List ℕ) (below : index < 0x8000)
    (there : parameter_length real.modules.items slot subslot index ≡ Some (length octets)) (short : length octets ≤ 64) where
  abbrev asked : IodWriteReq
  asked = asked_for ar sequence slot subslot index octets

  abbrev found : Effect
  found = Keeps (kept_as slot subslot index octets)

  abbrev wanted : Option ℕ
  wanted = parameter_length real.modules.items slot subslot index

  unnamed : record_with index ≡ None
  unnamed = none_below index below

  same_length : is_length wanted (length octets) ≡ true
  same_length =
      ap (λ (size : Option ℕ). is_length size (length octets)) there
      ∙ both_true (length octets == length octets) (nat_le (length octets) 64) (eq-eqb (length octets) (length octets) refl) (le-leb (length octets) 64 short)

  effect_is : effect_of real asked octets ≡ Some found
  effect_is =
      cond-false (is_writable index slot subslot) (stored index octets) (kept real asked octets)
      (ap (λ (one : Option Record). is_text one && is_device slot subslot) unnamed)
      ∙ ap (λ (b : Bool). let o : Option Effect = cond b (Some found) None in o) same_length

  known : is_known real asked ≡ true
  known =
      ap (λ (one : Option Record). is_read_only one || (is_text one && is_device slot subslot) || is_some wanted) unnamed
      ∙ ap (λ (size : Option ℕ). is_some size) there

  written_is : written real asked octets ≡ Ok found
  unfolding written
  written_is =
      let last : Result Effect CallFault = or_fault fault.WriteLength (effect_of real asked (take (length octets) octets)) in
      let access : List Judgement = (is_read_only (record_with index), fault.Access) ∷ (nat_lt (length octets) (length octets), fault.WriteLength) ∷ [] in
      passes (not (is_known real asked)) fault.Index access last (ap not known)
      ∙ passes (is_read_only (record_with index)) fault.Access ((nat_lt (length octets) (length octets), fault.WriteLength) ∷ []) last (ap is_read_only unnamed)
      ∙ passes (nat_lt (length octets) (length octets)) fault.WriteLength [] last (not_below (length octets) (length octets) (omega arith))
      ∙ ap (λ (all : List ℕ). or_fault fault.WriteLength (effect_of real asked all)) (take_whole octets)
      ∙ ap (λ (o : Option Effect). or_fault fault.WriteLength o) effect_is

  placed_is : placed real 0 slot subslot index ≡ Ok tt
  unfolding placed
  placed_is =
      passes (not (is_anywhere (record_with index) || is_real real slot subslot)) fault.Place [] (Ok tt)
      (ap not (one_true (is_anywhere (record_with index)) (is_real real slot subslot) (module_is slot subslot index (length octets) real.modules.items there)))

  targeted_is : targeted (Some ar) real asked ≡ Ok tt
  unfolding targeted
  targeted_is = ap (λ (r : Result (Unit {0}) CallFault). r >>= λ _. placed real 0 slot subslot index) (own_relation ar) ∙ placed_is

  -- The record is judged well.
  pub request_is : handled_request (Some ar) real asked octets ≡ Ok (record { request = asked; effect = found })
  unfolding handled_request
  request_is =
      ap (λ (r : Result (Unit {0}) CallFault). r >>= λ _. written real asked octets >>= λ effect. Ok (record { request = asked; effect = effect })) targeted_is
      ∙ ap (λ (r : Result Effect CallFault). let w : Result Write CallFault = r >>= λ effect. Ok (record { request = asked; effect = effect }) in w) written_is

  alone : is_several asked ≡ false
  alone = ap (λ (b : Bool). b && (0 == 0xFFFFFFFF && (slot == 0xFFFF && subslot == 0xFFFF))) (differs index 0xE040 (omega (arith, below)))

  -- It is the one record of its Write.
  pub one_is : handled_writing (Some ar) real asked octets ≡ Ok (One (record { request = asked; effect = found }))
  one_is =
      cond-false (is_several asked) (several_of (Some ar) asked octets >>= λ entries. Ok (Each asked entries))
      (handled_request (Some ar) real asked octets >>= λ write. Ok (One write)) alone
      ∙ ap (λ (r : Result Write CallFault). let w : Result Writing CallFault = r >>= λ write. Ok (One write) in w) request_is

-- ---- the block of a Write

size_least : (value : Block) → 4 ≤ block_size value
unfolding block_size
size_least value = omega arith

type_is : (request : IodWriteReq) (rest : List ℕ) → (big_number 2 (block_bytes (is.IodWriteReq request) ++ rest) == number_of kind.IodWriteReq) ≡ true
unfolding block_bytes block number_of
type_is request rest = refl

module _ (long : (value : Block) → length (block_bytes value) ≡ block_size value) where
  pub single_is : (asked : IodWriteReq) (rest : List ℕ) → block_of (block_bytes (is.IodWriteReq asked) ++ rest) ≡ front (is.IodWriteReq asked) rest
      → single_of kind.IodWriteReq (block_bytes (is.IodWriteReq asked) ++ rest) ≡ Ok (is.IodWriteReq asked, rest)
  unfolding single_of
  single_is asked rest read =
      let value = is.IodWriteReq asked in
      let blocks = block_bytes value ++ rest in
      let last : Result (Block × List ℕ) CallFault = formed (block_of blocks) in
      let type : List Judgement = (not (big_number 2 blocks == number_of kind.IodWriteReq), fault.BlockType) ∷ [] in
      let size = length-append (block_bytes value) rest in
      passes (length blocks == 0) fault.BlockMissing ((nat_lt (length blocks) 4, fault.BlockHeader) ∷ type) last
      (ne_eqb (length blocks) 0 (λ same. omega (arith, same, size, long value, size_least value)))
      ∙ passes (nat_lt (length blocks) 4) fault.BlockHeader type last (not_below (length blocks) 4 (omega (arith, size, long value, size_least value)))
      ∙ passes (not (big_number 2 blocks == number_of kind.IodWriteReq)) fault.BlockType [] last (ap not (type_is asked rest))
      ∙ ap (λ (r : Result (Block × List ℕ) BlockFault). formed r) read

  -- What its header asks for decides.
  pub writing_is : (standing : Option (List ℕ)) (real : Real) (asked : IodWriteReq) (rest : List ℕ)
      → block_of (block_bytes (is.IodWriteReq asked) ++ rest) ≡ front (is.IodWriteReq asked) rest
      → writing_of standing real (block_bytes (is.IodWriteReq asked) ++ rest) ≡ handled_writing standing real asked rest
  unfolding writing_of
  writing_is standing real asked rest read =
      ap (λ (r : Result (Block × List ℕ) CallFault).
      r >>= λ x. or_fault fault.BlockForm (in_iod_write_req x.0) >>= λ request. handled_writing standing real request x.1)
      (single_is asked rest read)
