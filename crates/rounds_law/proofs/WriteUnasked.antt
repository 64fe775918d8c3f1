-- A Write of the plan asks the application nothing: its records are parameter records of what is plugged, and no record of the application has
-- the index of a list.
use Rattle.std.proofs.Common.{◌≡◌, ◌≤◌, ◌<◌, ◌+◌, ◌*◌, ◌==◌, ◌&&◌, ◌++◌, ℕ, Bool, true, false, cond, List, [], ◌∷◌, length, take, drop}
use Rattle.std.proofs.Common.{Option, Some, None, Result, Ok, Err, refl, ap, ◌∙◌, arith}
use Rattle.std.specs.Prelude.{if◌then◌else◌, slice_get}
use Rattle.std.specs.List.{AllByRecursion, find}
use Rattle.std.specs.Option.{option_map}
use Rattle.std.proofs.lemmas.Bool.{ne_eqb}
use Rattle.pn_values.specs.declared.real.Real.{Real}
use Rattle.wire.specs.Codec.{◌>>=◌}
use Rattle.wire.specs.Checks.{or_fault}
use Rattle.frame_codec.specs.declared.udp.Caller.{Caller}
use Rattle.rpc_core.specs.Call.{Asked as Call}
use Rattle.block_codec.specs.declared.block.Block.{Block}
use Rattle.block_codec.specs.declared.block.Block.TheVariants as is
use Rattle.block_codec.specs.Block.{block_bytes, block_of, front, in_iod_write_req}
use Rattle.record_blocks.specs.declared.write_record.IodWriteReq.{IodWriteReq}
use Rattle.records.specs.declared.status.call_fault.CallFault.{CallFault}
use Rattle.records.specs.declared.status.call_fault.CallFault.TheVariants as fault
use Rattle.records.specs.calls.Naming.{in_relation}
use Rattle.records.specs.calls.Single.{single_of}
use Rattle.records.specs.reads.Handled.{has_parameter}
use Rattle.asked_records.specs.Judging.{asked_name, asked_write, write_found}
use Rattle.asked_records.specs.Names.{is_named, last_index, named_at}
use Rattle.asked_records.specs.declared.names.RecordName.{RecordName}
use Rattle.asked_records.specs.declared.question.Request.TheVariants as request
use Rattle.plans.specs.declared.parts.PlanRecord.{PlanRecord}
use Rattle.device_core.specs.Asking.{Asking, asking_write, question_of, write_within}
use Rattle.controller_messages.specs.declared.setup.Setup.{Setup}
use Rattle.controller_messages.specs.Requests.{entries_bytes, list_blocks, write_blocks, write_of, writing_blocks}
use Rattle.rounds_law.proofs.Choices.{and_false}
use Rattle.rounds_law.proofs.WriteJudged.{single_is}
use Rattle.rounds_law.proofs.WriteListed.{AreBlocksLong, AreBlocksRead, AreFit, IsFit, each_drop, each_take, entry_unnamed, found_fit, header_for}
use Rattle.rounds_law.proofs.WriteListed.{list_sized, none_written, one_can, take_few}

-- ---- what is named

-- The records that the application answers have indices below 0x8000.
abbrev pub AreNames : List RecordName → Type 0
AreNames named = AllByRecursion (λ name. name.index ≤ last_index) named

-- None of them is a list.
other_index : (index : ℕ) → index ≤ last_index → (index == 0xE040) ≡ false
other_index index few = ne_eqb index 0xE040 (λ same. omega (arith, few, same))

no_list : (slot subslot : ℕ) (name : RecordName) → name.index ≤ last_index → is_named slot subslot 0xE040 name ≡ false
no_list slot subslot name few =
    ap (λ (b : Bool). name.slot == slot && (name.subslot == subslot && b)) (other_index name.index few)
    ∙ (ap (λ (b : Bool). name.slot == slot && b) (and_false (name.subslot == subslot)) ∙ and_false (name.slot == slot))

list_unnamed : (slot subslot : ℕ) (named : List RecordName) → AreNames named → named_at slot subslot 0xE040 named ≡ None
list_unnamed slot subslot [] few = refl
list_unnamed slot subslot (name ∷ named) few =
    ap (λ (b : Bool). let o : Option RecordName = if b then Some name else find (is_named slot subslot 0xE040) named in o) (no_list slot subslot name few.0)
    ∙ list_unnamed slot subslot named few.1

either_none : (parameter : Bool) (found : Option RecordName) → found ≡ None → (let o : Option RecordName = if parameter then None else found in o) ≡ None
either_none true found e = refl
either_none false found e = e

-- ---- what is asked

module _ (real : Real) (named : List RecordName) (caller : Caller) (call : Call) where
  unfound : (asked : IodWriteReq) (octets : List ℕ) → asked_name real named asked.header ≡ None → asked_write real named asked octets ≡ Ok None
  unfolding asked_write
  unfound asked octets none = ap (λ (o : Option RecordName). write_found real asked octets o) none

  abbrev asks : Result (IodWriteReq × List ℕ) CallFault → Result (Option Asking) CallFault
  asks within = asking_write real named caller call within

  asked_none : (asked : IodWriteReq) (octets : List ℕ) → asked_name real named asked.header ≡ None → (relation : Result (Unit {0}) CallFault)
      → asks (relation >>= λ _. Ok (asked, octets)) ≡ Ok None
  asked_none asked octets none (Ok it) =
      ap (λ (r : Result (Option RecordName) CallFault). let a : Result (Option Asking) CallFault = r >>= λ found.
      Ok (option_map (λ name. (question_of caller call (request.Write asked) name, take asked.header.record_data_length octets)) found) in a)
      (unfound asked octets none)
  asked_none asked octets none (Err why) = refl

  module _ (long : AreBlocksLong) (standing : Option (List ℕ)) where
    within_is : (asked : IodWriteReq) (rest : List ℕ) → block_of (block_bytes (is.IodWriteReq asked) ++ rest) ≡ front (is.IodWriteReq asked) rest
        → write_within standing (block_bytes (is.IodWriteReq asked) ++ rest) ≡ (in_relation standing asked.header.ar_uuid >>= λ _. Ok (asked, rest))
    unfolding write_within
    within_is asked rest read =
        ap (λ (r : Result (Block × List ℕ) CallFault).
        r >>= λ x. or_fault fault.BlockForm (in_iod_write_req x.0) >>= λ write. in_relation standing write.header.ar_uuid >>= λ _. Ok (write, x.1))
        (single_is long asked rest read)

    pub block_asks : (asked : IodWriteReq) (rest : List ℕ) → block_of (block_bytes (is.IodWriteReq asked) ++ rest) ≡ front (is.IodWriteReq asked) rest
        → asked_name real named asked.header ≡ None → asks (write_within standing (block_bytes (is.IodWriteReq asked) ++ rest)) ≡ Ok None
    block_asks asked rest read none = ap asks (within_is asked rest read) ∙ asked_none asked rest none (in_relation standing asked.header.ar_uuid)

  pub empty_asks : (standing : Option (List ℕ)) → asks (write_within standing []) ≡ Ok None
  unfolding write_within single_of
  empty_asks standing = refl

-- ---- the Writes of a plan

module _ (read : AreBlocksRead) (long : AreBlocksLong) (setup : Setup) (wide : length setup.ar ≡ 16) (number : ℕ) (small : number + 1 < 65536)
    (real : Real) (named : List RecordName) (names : AreNames named) (caller : Caller) (call : Call) (standing : Option (List ℕ)) where
  -- The call with these blocks asks nothing.
  abbrev Unasked : List ℕ → Type 0
  Unasked blocks = asking_write real named caller call (write_within standing blocks) ≡ Ok None

  one_unasked : (found : Option PlanRecord) → ((entry : PlanRecord) → found ≡ Some entry → IsFit real entry) → Unasked (write_blocks setup number found)
  one_unasked None fits = empty_asks real named caller call standing
  one_unasked (Some entry) fits =
      let fit = fits entry refl in
      let asked = write_of setup number entry in
      block_asks real named caller call long standing asked entry.data.items
      (read (is.IodWriteReq asked) entry.data.items (one_can read long setup wide number small real entry fit))
      (entry_unnamed setup number real named entry fit)

  list_unasked : (entries : List PlanRecord) → length entries ≤ 10 → AreFit real entries → Unasked (list_blocks setup number entries)
  list_unasked [] ten fits = empty_asks real named caller call standing
  list_unasked (entry ∷ entries) ten fits =
      let header = header_for setup number (entry ∷ entries) in
      let octets = entries_bytes setup number (entry ∷ entries) in
      block_asks real named caller call long standing header octets
      (read (is.IodWriteReq header) octets (record { header = list_sized read long setup wide number small real (entry ∷ entries) ten fits }))
      (either_none (has_parameter real header.header.slot_number header.header.subslot_number header.header.index) _
      (list_unnamed header.header.slot_number header.header.subslot_number named names))

  pub write_unasked : AreFit real setup.plan.records.items → Unasked (writing_blocks setup number)
  write_unasked fits = by_kind setup.plan.multiple_write refl
    where
      records : List PlanRecord
      records = setup.plan.records.items

      by_kind : (several : Bool) → setup.plan.multiple_write ≡ several
          → Unasked (cond several (list_blocks setup number (take (cond several 10 1) (drop (cond several (number * 10) number) records)))
          (write_blocks setup number (slice_get records number)))
      by_kind true is =
          list_unasked (take 10 (drop (number * 10) records)) (take_few 10 (drop (number * 10) records))
          (each_take (IsFit real) 10 (drop (number * 10) records) (each_drop (IsFit real) (number * 10) records fits))
      by_kind false is = one_unasked (slice_get records number) (found_fit real records number fits)

-- A call with no blocks asks nothing either: there is no Write with this number.
pub none_unasked : (setup : Setup) (number : ℕ) (real : Real) (named : List RecordName) (caller : Caller) (call : Call) (standing : Option (List ℕ))
    → length setup.plan.records.items ≤ number → asking_write real named caller call (write_within standing (writing_blocks setup number)) ≡ Ok None
none_unasked setup number real named caller call standing few =
    ap (λ (blocks : List ℕ). asking_write real named caller call (write_within standing blocks)) (none_written setup number few)
    ∙ empty_asks real named caller call standing
