-- A list of records that the device has: the device reads it and judges each record well.
use Rattle.std.proofs.Common.{◌≡◌, ◌<◌, ◌≤◌, ◌+◌, ◌-◌, ◌*◌, ◌/◌, ℕ, zero, suc, Bool, true, false, cond, List, [], ◌∷◌, ◌++◌, length}
use Rattle.std.proofs.Common.{take, drop, map, replicate, Option, Some, None, is_some, Result, Ok, Err, refl, sym, ap, subst, ◌∙◌, append_assoc, arith}
use Rattle.std.specs.Prelude.{if◌then◌else◌, nat_lt, slice_get, unwrap_or}
use Rattle.std.specs.List.{AllByRecursion}
use Rattle.std.proofs.lemmas.List.{drop_at, length-append, take_at}
use Rattle.wire.specs.Codec.{◌>>=◌}
use Rattle.wire.specs.Checks.{or_fault}
use Rattle.wire.specs.blocks.Fields.{body, version}
use Rattle.wire.specs.declared.blocks.fault.BlockFault.{BlockFault}
use Rattle.pn_values.specs.declared.real.Real.{Real}
use Rattle.rpc_core.specs.declared.response.Status.{Status}
use Rattle.record_blocks.specs.RecordHeader.{record_header}
use Rattle.record_blocks.specs.WriteRecord.{iod_write_req, iod_write_res}
use Rattle.record_blocks.specs.declared.write_record.IodWriteReq.{IodWriteReq}
use Rattle.block_codec.specs.declared.block.Block.{Block}
use Rattle.block_codec.specs.declared.block.Block.TheVariants as is
use Rattle.block_codec.specs.Block.{block, block_bytes, block_of, block_size, fields_of, front}
use Rattle.block_codec.specs.Writable.{CanBeWritten, IsRecord}
use Rattle.records.specs.declared.status.call_fault.CallFault.{CallFault}
use Rattle.records.specs.declared.status.call_fault.CallFault.TheVariants as fault
use Rattle.records.specs.declared.status.operation.Operation.TheVariants.{Write as writes}
use Rattle.records.specs.status.Status.{done}
use Rattle.records.specs.reads.Parameters.{parameter_length}
use Rattle.records.specs.declared.writes.write.Effect.TheVariants.{Keeps}
use Rattle.records.specs.declared.writes.write.Write.{Write}
use Rattle.records.specs.declared.writes.writing.Writing.{Writing}
use Rattle.records.specs.declared.writes.writing.Writing.TheVariants.{Each}
use Rattle.records.specs.writes.Answer.{answer_of, header_of, outcome_of, outcomes_of}
use Rattle.records.specs.writes.Asked.{handled_writing, several_of}
use Rattle.records.specs.writes.Entry.{Entry}
use Rattle.records.specs.writes.Handled.{handled_request}
use Rattle.records.specs.writes.Several.{entries_in, entries_then, entry_in, entry_of, is_list, is_then, list_behind, list_of as list_in, padded}
use Rattle.asked_records.specs.Answers.{unanswered_status}
use Rattle.asked_records.specs.Judging.{asked_name}
use Rattle.asked_records.specs.Names.{named_at}
use Rattle.asked_records.specs.declared.names.RecordName.{RecordName}
use Rattle.asked_records.specs.declared.status.Unanswered.TheVariants.{InList}
use Rattle.plans.specs.declared.parts.PlanRecord.{PlanRecord}
use Rattle.device_core.specs.Several.{Judged, judged_each, with_status}
use Rattle.controller_messages.specs.declared.setup.Setup.{Setup}
use Rattle.controller_messages.specs.Requests.{entries_bytes, entry_bytes, list_blocks, list_of, padding_of, write_blocks, write_of, writing_blocks}
use Rattle.both_ends.specs.startup.View.{taken_for}
use Rattle.rounds_law.proofs.WriteJudged.{not_below, own_relation, request_is, take_whole}

-- ---- lists

pub each_take : {A : Type 0} (P : A → Type 0) (n : ℕ) (xs : List A) → AllByRecursion P xs → AllByRecursion P (take n xs)
each_take P zero [] all = tt
each_take P zero (x ∷ xs) all = tt
each_take P (suc n) [] all = tt
each_take P (suc n) (x ∷ xs) all = (all.0, each_take P n xs all.1)

pub each_drop : {A : Type 0} (P : A → Type 0) (n : ℕ) (xs : List A) → AllByRecursion P xs → AllByRecursion P (drop n xs)
each_drop P zero [] all = tt
each_drop P zero (x ∷ xs) all = all
each_drop P (suc n) [] all = tt
each_drop P (suc n) (x ∷ xs) all = each_drop P n xs all.1

pub take_few : {A : Type 0} (n : ℕ) (xs : List A) → length (take n xs) ≤ n
take_few zero [] = omega arith
take_few zero (x ∷ xs) = omega arith
take_few (suc n) [] = omega arith
take_few (suc n) (x ∷ xs) = omega (arith, take_few n xs)

take_long : {A : Type 0} (n : ℕ) (xs : List A) → n ≤ length xs → length (take n xs) ≡ n
take_long zero [] enough = refl
take_long zero (x ∷ xs) enough = refl
take_long (suc n) [] enough = absurd (omega (arith, enough))
take_long (suc n) (x ∷ xs) enough = omega (arith, take_long n xs (omega (arith, enough)))

padded_is : (size : ℕ) → size + length (padding_of size) ≡ padded size
padded_is size =
    let zeros : List ℕ = replicate 3 0 in
    let enough : (size + 3) / 4 * 4 - size ≤ 3 = omega arith in
    omega (arith, take_long ((size + 3) / 4 * 4 - size) zeros enough)

-- ---- a record that is kept

-- A record that the device has: it can be written, and the device checks it so.
pub record IsFit (real : Real) (entry : PlanRecord) : Type 0 where
  pub below : entry.index < 0x8000
  pub slot : entry.slot < 65536
  pub subslot : entry.subslot < 65536
  pub short : length entry.data.items ≤ 64
  pub there : parameter_length real.modules.items entry.slot entry.subslot entry.index ≡ Some (length entry.data.items)

-- ---- the law by which a block that is written is read

abbrev pub AreBlocksRead : Type 0
AreBlocksRead = (block : Block) (rest : List ℕ) → CanBeWritten block → block_of (block_bytes block ++ rest) ≡ front block rest

abbrev pub AreBlocksLong : Type 0
AreBlocksLong = (block : Block) → length (block_bytes block) ≡ block_size block

nothing_read : entry_of [] ≡ None
unfolding entry_of block_of block
nothing_read = refl

none_some : (x : Entry × List ℕ) → None ≡ Some x → ⊥
none_some x e = absurd cc

list_step : (fuel : ℕ) (octets : List ℕ) (x : Entry × List ℕ) → entry_of octets ≡ Some x → is_list (suc fuel) octets ≡ is_list fuel x.1
unfolding is_list
list_step fuel [] x e = absurd (none_some x (sym nothing_read ∙ e))
list_step fuel (octet ∷ octets) x e = ap (λ (o : Option (Entry × List ℕ)). is_then o (λ behind. is_list fuel behind)) e

list_end : (fuel : ℕ) → is_list fuel [] ≡ true
unfolding is_list
list_end zero = refl
list_end (suc fuel) = refl

entries_step : (fuel : ℕ) (octets : List ℕ) (x : Entry × List ℕ) → entry_of octets ≡ Some x → entries_in (suc fuel) octets ≡ x.0 ∷ entries_in fuel x.1
unfolding entries_in
entries_step fuel octets x e = ap (λ (o : Option (Entry × List ℕ)). entries_then o (λ behind. entries_in fuel behind)) e

entries_end : (fuel : ℕ) → entries_in fuel [] ≡ []
unfolding entries_in
entries_end zero = refl
entries_end (suc fuel) = ap (λ (o : Option (Entry × List ℕ)). entries_then o (λ behind. entries_in fuel behind)) nothing_read

-- ---- sizes

request_size : (request : IodWriteReq) → length request.header.ar_uuid ≡ 16 → block_size (is.IodWriteReq request) ≡ 64
unfolding block_size fields_of body version iod_write_req record_header
request_size request wide = omega (arith, wide)

response_size : (request : IodWriteReq) (status : Status) → length request.header.ar_uuid ≡ 16 → block_size (is.IodWriteRes (header_of request status)) ≡ 64
unfolding block_size fields_of body version iod_write_res record_header
response_size request status wide = omega (arith, wide)

-- ---- a list

-- The entries of a list, as a device reads them, and what it judges of each.
abbrev pub listed : Setup → ℕ → List PlanRecord → List Entry
listed setup number entries = map (λ (entry : PlanRecord). (write_of setup number entry, entry.data.items)) entries

abbrev pub judged_well : Setup → ℕ → List PlanRecord → List Judged
judged_well setup number entries =
    map (λ (entry : PlanRecord). (write_of setup number entry, Ok (record { request = write_of setup number entry; effect = Keeps (taken_for entry) }))) entries

-- The header of a list.
abbrev pub header_for : Setup → ℕ → List PlanRecord → IodWriteReq
header_for setup number entries = list_of setup number (length (entries_bytes setup number entries))

-- The response to a list whose records were all written.
abbrev pub all_done : Setup → ℕ → List PlanRecord → List (IodWriteReq × Status)
all_done setup number entries = map (λ (entry : PlanRecord). (write_of setup number entry, done)) entries

abbrev pub list_response : Setup → ℕ → List PlanRecord → List ℕ
list_response setup number entries = answer_of (header_for setup number entries) ++ outcomes_of (all_done setup number entries)

-- Records that the device has.
abbrev pub AreFit : Real → List PlanRecord → Type 0
AreFit real entries = AllByRecursion (IsFit real) entries

pub found_fit : (real : Real) (entries : List PlanRecord) (place : ℕ) → AreFit real entries → (entry : PlanRecord) → slice_get entries place ≡ Some entry
    → IsFit real entry
found_fit real [] place fits entry found = absurd cc
found_fit real (first ∷ entries) zero fits entry found = subst (IsFit real) (ap (λ (o : Option PlanRecord). unwrap_or o first) found) fits.0
found_fit real (first ∷ entries) (suc place) fits entry found = found_fit real entries place fits.1 entry found

-- A parameter record is not one that the application answers.
pub entry_unnamed : (setup : Setup) (number : ℕ) (real : Real) (named : List RecordName) (entry : PlanRecord) → IsFit real entry
    → asked_name real named (write_of setup number entry).header ≡ None
entry_unnamed setup number real named entry fit =
    ap (λ (size : Option ℕ). let o : Option RecordName = if is_some size then None else named_at entry.slot entry.subslot entry.index named in o) fit.there

-- ---- numbers that no Write has

slice_none : (entries : List PlanRecord) (place : ℕ) → length entries ≤ place → slice_get entries place ≡ None
slice_none [] place few = refl
slice_none (entry ∷ entries) zero few = absurd (omega (arith, few))
slice_none (entry ∷ entries) (suc place) few = slice_none entries place (omega (arith, few))

drop_all : (n : ℕ) (entries : List PlanRecord) → length entries ≤ n → drop n entries ≡ []
drop_all zero [] few = refl
drop_all zero (entry ∷ entries) few = absurd (omega (arith, few))
drop_all (suc n) [] few = refl
drop_all (suc n) (entry ∷ entries) few = drop_all n entries (omega (arith, few))

pub none_written : (setup : Setup) (number : ℕ) → length setup.plan.records.items ≤ number → writing_blocks setup number ≡ []
none_written setup number few = by_kind setup.plan.multiple_write
  where
    records : List PlanRecord
    records = setup.plan.records.items

    by_kind : (several : Bool)
        → cond several (list_blocks setup number (take (cond several 10 1) (drop (cond several (number * 10) number) records)))
        (write_blocks setup number (slice_get records number)) ≡ []
    by_kind true = ap (λ (l : List PlanRecord). list_blocks setup number (take 10 l)) (drop_all (number * 10) records (omega (arith, few)))
    by_kind false = ap (λ (o : Option PlanRecord). write_blocks setup number o) (slice_none records number few)

-- ---- what is written and read

module _ (read : AreBlocksRead) (long : AreBlocksLong) (setup : Setup) (wide : length setup.ar ≡ 16) (number : ℕ) (small : number + 1 < 65536)
    (real : Real) where
  pub sized : (entry : PlanRecord) → IsFit real entry → IsRecord (write_of setup number entry).header
  sized entry fit = record {
    seq_number = small;
    ar_uuid = wide;
    api = omega arith;
    slot_number = fit.slot;
    subslot_number = fit.subslot;
    index = omega (arith, fit.below);
    record_data_length = omega (arith, fit.short);
  }

  pub one_can : (entry : PlanRecord) → IsFit real entry → CanBeWritten (is.IodWriteReq (write_of setup number entry))
  one_can entry fit = record { header = sized entry fit }

  -- ---- the device reads the list

  entry_read : (entry : PlanRecord) (rest : List ℕ) → IsFit real entry → entry_of (entry_bytes setup number entry ++ rest)
      ≡ Some ((write_of setup number entry, entry.data.items), rest)
  unfolding entry_of
  entry_read entry rest fit =
      let octets = entry.data.items in
      let size = length octets in
      let padding = padding_of size in
      let front_is = block_bytes (is.IodWriteReq (write_of setup number entry)) in
      let behind = octets ++ (padding ++ rest) in
      let shape : (front_is ++ octets ++ padding) ++ rest ≡ front_is ++ behind =
      append_assoc (front_is ++ octets) padding rest ∙ append_assoc front_is octets (padding ++ rest) in
      let all_there : nat_lt (length behind) size ≡ false = not_below (length behind) size (omega (arith, length-append octets (padding ++ rest))) in
      let taken : take size behind ≡ octets = take_at octets (padding ++ rest) size refl in
      let left : drop (padded size) behind ≡ rest =
      ap (λ (xs : List ℕ). drop (padded size) xs) (sym (append_assoc octets padding rest))
      ∙ drop_at (octets ++ padding) rest (padded size) (length-append octets padding ∙ padded_is size) in
      ap (λ (xs : List ℕ). entry_in (block_of xs)) shape
      ∙ (ap (λ (found : Result (Block × List ℕ) BlockFault). entry_in found) (read (is.IodWriteReq (write_of setup number entry)) behind (one_can entry fit))
      ∙ (ap (λ (b : Bool). let o : Option (Entry × List ℕ) =
      cond b None (Some ((write_of setup number entry, take size behind), drop (padded size) behind)) in o) all_there
      ∙ (ap (λ (xs : List ℕ). let o : Option (Entry × List ℕ) = Some ((write_of setup number entry, xs), drop (padded size) behind) in o) taken
      ∙ ap (λ (xs : List ℕ). let o : Option (Entry × List ℕ) = Some ((write_of setup number entry, octets), xs) in o) left)))

  is_whole : (entries : List PlanRecord) (fuel : ℕ) → length entries ≤ fuel → AreFit real entries → is_list fuel (entries_bytes setup number entries) ≡ true
  is_whole [] fuel few fit = list_end fuel
  is_whole (entry ∷ entries) zero few fit = absurd (omega (arith, few))
  is_whole (entry ∷ entries) (suc fuel) few fit =
      list_step fuel (entries_bytes setup number (entry ∷ entries))
      ((write_of setup number entry, entry.data.items), entries_bytes setup number entries) (entry_read entry (entries_bytes setup number entries) fit.0)
      ∙ is_whole entries fuel (omega (arith, few)) fit.1

  entries_are : (entries : List PlanRecord) (fuel : ℕ) → length entries ≤ fuel → AreFit real entries
      → entries_in fuel (entries_bytes setup number entries) ≡ listed setup number entries
  entries_are [] fuel few fit = entries_end fuel
  entries_are (entry ∷ entries) zero few fit = absurd (omega (arith, few))
  entries_are (entry ∷ entries) (suc fuel) few fit =
      entries_step fuel (entries_bytes setup number (entry ∷ entries))
      ((write_of setup number entry, entry.data.items), entries_bytes setup number entries) (entry_read entry (entries_bytes setup number entries) fit.0)
      ∙ ap (λ (others : List Entry). (write_of setup number entry, entry.data.items) ∷ others) (entries_are entries fuel (omega (arith, few)) fit.1)

  list_there : (entries : List PlanRecord) → length entries ≤ 10 → AreFit real entries
      → list_behind (header_for setup number entries) (entries_bytes setup number entries) ≡ Some (listed setup number entries)
  list_there entries few fit =
      let octets = entries_bytes setup number entries in
      ap (λ (b : Bool). let o : Option (List Entry) = cond b None (list_in (take (length octets) octets)) in o)
      (not_below (length octets) (length octets) (omega arith))
      ∙ (ap (λ (all : List ℕ). list_in all) (take_whole octets)
      ∙ (ap (λ (b : Bool). let o : Option (List Entry) = cond b (Some (entries_in 16 octets)) None in o) (is_whole entries 16 (omega (arith, few)) fit)
      ∙ ap (λ (found : List Entry). Some found) (entries_are entries 16 (omega (arith, few)) fit)))

  several_is : (entries : List PlanRecord) → length entries ≤ 10 → AreFit real entries
      → several_of (Some setup.ar) (header_for setup number entries) (entries_bytes setup number entries) ≡ Ok (listed setup number entries)
  unfolding several_of
  several_is entries few fit =
      ap (λ (r : Result (Unit {0}) CallFault).
      r >>= λ _. or_fault fault.WriteLength (list_behind (header_for setup number entries) (entries_bytes setup number entries))) (own_relation setup.ar)
      ∙ ap (λ (o : Option (List Entry)). or_fault fault.WriteLength o) (list_there entries few fit)

  pub each_is : (entries : List PlanRecord) → length entries ≤ 10 → AreFit real entries
      → handled_writing (Some setup.ar) real (header_for setup number entries) (entries_bytes setup number entries)
      ≡ Ok (Each (header_for setup number entries) (listed setup number entries))
  each_is entries few fit =
      ap (λ (r : Result (List Entry) CallFault). let w : Result Writing CallFault = r >>= λ found. Ok (Each (header_for setup number entries) found) in w)
      (several_is entries few fit)

  -- ---- each record is judged well

  pub judged_is : (named : List RecordName) (entries : List PlanRecord) → AreFit real entries
      → judged_each named (Some setup.ar) real (listed setup number entries) ≡ judged_well setup number entries
  judged_is named [] fit = refl
  judged_is named (entry ∷ entries) fit =
      let asked = write_of setup number entry in
      let one : Result Write CallFault = Ok (record { request = asked; effect = Keeps (taken_for entry) }) in
      let others = judged_each named (Some setup.ar) real (listed setup number entries) in
      ap (λ (name : Option RecordName). let r : Result Write Status = if is_some name then Err (unanswered_status writes InList)
      else with_status (handled_request (Some setup.ar) real asked entry.data.items) in (asked, r) ∷ others) (entry_unnamed setup number real named entry fit.0)
      ∙ (ap (λ (r : Result Write CallFault). (asked, with_status r) ∷ others)
      (request_is real setup.ar (number + 1) entry.slot entry.subslot entry.index entry.data.items fit.0.below fit.0.there fit.0.short)
      ∙ ap (λ (more : List Judged). (asked, with_status one) ∷ more) (judged_is named entries fit.1))

  octets_few : (entries : List PlanRecord) → AreFit real entries → length (entries_bytes setup number entries) ≤ 132 * length entries
  octets_few [] fit = omega arith
  octets_few (entry ∷ entries) fit =
      let zeros : List ℕ = replicate 3 0 in
      omega (
        arith,
        length-append (entry_bytes setup number entry) (entries_bytes setup number entries),
        length-append (write_blocks setup number (Some entry)) (padding_of (length entry.data.items)),
        length-append (block_bytes (is.IodWriteReq (write_of setup number entry))) entry.data.items,
        long (is.IodWriteReq (write_of setup number entry)),
        request_size (write_of setup number entry) wide,
        take_few ((length entry.data.items + 3) / 4 * 4 - length entry.data.items) zeros,
        fit.0.short,
        octets_few entries fit.1,
      )

  pub list_sized : (entries : List PlanRecord) → length entries ≤ 10 → AreFit real entries → IsRecord (header_for setup number entries).header
  list_sized entries few fit = record {
    seq_number = small;
    ar_uuid = wide;
    api = omega arith;
    slot_number = omega arith;
    subslot_number = omega arith;
    index = omega arith;
    record_data_length = omega (arith, few, octets_few entries fit);
  }

  outcome_long : (request : IodWriteReq) → length request.header.ar_uuid ≡ 16 → length (outcome_of request done) ≡ 64
  unfolding outcome_of
  outcome_long request named = long (is.IodWriteRes (header_of request done)) ∙ response_size request done named

  outcomes_long : (entries : List PlanRecord) → length (outcomes_of (all_done setup number entries)) ≡ 64 * length entries
  outcomes_long [] = refl
  outcomes_long (entry ∷ entries) =
      omega (
        arith,
        length-append (outcome_of (write_of setup number entry) done) (outcomes_of (all_done setup number entries)),
        outcome_long (write_of setup number entry) wide,
        outcomes_long entries,
      )

  pub one_few : (entry : PlanRecord) → length (answer_of (write_of setup number entry)) ≤ 1372
  unfolding answer_of
  one_few entry = omega (arith, outcome_long (write_of setup number entry) wide)

  pub list_few : (entries : List PlanRecord) → length entries ≤ 10 → length (list_response setup number entries) ≤ 1372
  unfolding answer_of
  list_few entries few =
      omega (
        arith,
        few,
        length-append (outcome_of (header_for setup number entries) done) (outcomes_of (all_done setup number entries)),
        outcome_long (header_for setup number entries) wide,
        outcomes_long entries,
      )
