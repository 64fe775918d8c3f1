-- The Writes of a plan at a device with any relation, or none: they are refused, or their records are parameter records.
use Rattle.std.proofs.Common.{◌≡◌, ◌⊎◌, inl, inr, ◌≤◌, ◌<◌, ◌+◌, ◌*◌, ℕ, Bool, true, false, not, cond, List, [], ◌∷◌, length, take, drop}
use Rattle.std.proofs.Common.{Option, Some, None, Result, Ok, Err, refl, sym, ap, subst, ◌∙◌, arith}
use Rattle.std.specs.Prelude.{nat_lt, slice_get}
use Rattle.std.specs.Cmp.Lexicographic.{same_text}
use Rattle.std.proofs.lemmas.Bool.{ltb-true}
use Rattle.std.proofs.lemmas.Bool.Decides.{nat_tests}
use Rattle.wire.specs.Codec.{◌>>=◌}
use Rattle.wire.specs.Checks.{or_fault}
use Rattle.pn_values.specs.declared.real.Real.{Real}
use Rattle.record_blocks.specs.declared.write_record.IodWriteReq.{IodWriteReq}
use Rattle.block_codec.specs.declared.block.Block.TheVariants as is
use Rattle.records.specs.declared.status.call_fault.CallFault.{CallFault}
use Rattle.records.specs.declared.status.call_fault.CallFault.TheVariants as fault
use Rattle.records.specs.calls.Handled.{handled as in_order}
use Rattle.records.specs.calls.Naming.{in_relation, is_relation}
use Rattle.records.specs.calls.Single.{single_of}
use Rattle.records.specs.declared.writes.taken.TakenRecord.{TakenRecord}
use Rattle.records.specs.declared.writes.write.Effect.TheVariants.{Keeps}
use Rattle.records.specs.declared.writes.write.Write.{Write}
use Rattle.records.specs.declared.writes.writing.Writing.{Writing}
use Rattle.records.specs.declared.writes.writing.Writing.TheVariants.{One, Each}
use Rattle.records.specs.writes.Asked.{handled_writing, several_of, writing_of}
use Rattle.records.specs.writes.Entry.{Entry}
use Rattle.records.specs.writes.Handled.{handled_request, targeted, written}
use Rattle.records.specs.writes.Several.{is_several, list_behind}
use Rattle.records.specs.reads.Handled.{placed}
use Rattle.plans.specs.declared.parts.PlanRecord.{PlanRecord}
use Rattle.device_core.specs.Asking.{asking_write, write_within}
use Rattle.device_core.specs.Several.{judged_each, texts_in}
use Rattle.asked_records.specs.declared.names.RecordName.{RecordName}
use Rattle.frame_codec.specs.declared.udp.Caller.{Caller}
use Rattle.rpc_core.specs.Call.{Asked as Call}
use Rattle.controller_messages.specs.declared.setup.Setup.{Setup}
use Rattle.controller_messages.specs.Requests.{entries_bytes, list_blocks, write_blocks, write_of, writing_blocks}
use Rattle.rounds_law.proofs.WriteJudged.{one_is, writing_is}
use Rattle.rounds_law.proofs.WriteListed.{AreBlocksLong, AreBlocksRead, AreFit, IsFit, each_drop, each_is, each_take, found_fit, header_for, judged_is}
use Rattle.rounds_law.proofs.WriteListed.{judged_well, list_sized, listed, none_written, one_can, take_few}
use Rattle.rounds_law.proofs.WriteUnasked.{AreNames, none_unasked, write_unasked}

-- A Write that is refused, or keeps its record; of several records, none is an I&M text.
abbrev pub IsQuiet : List RecordName → Option (List ℕ) → Real → Result Writing CallFault → Type 0
IsQuiet named standing real (Err fault) = Unit {0}
IsQuiet named standing real (Ok (One write)) = (parameter : TakenRecord) × (write.effect ≡ Keeps parameter)
IsQuiet named standing real (Ok (Each header entries)) = texts_in (judged_each named standing real entries) ≡ []

no_text : (setup : Setup) (number : ℕ) (entries : List PlanRecord) → texts_in (judged_well setup number entries) ≡ []
no_text setup number [] = refl
no_text setup number (entry ∷ entries) = no_text setup number entries

-- ---- of another relation

-- A check that is passed.
abbrev done : Result (Unit {0}) CallFault
done = Ok tt

-- It is its relation, or it is refused.
pub named_or : (standing : Option (List ℕ)) (ar : List ℕ) → (standing ≡ Some ar) ⊎ (in_relation standing ar ≡ Err fault.UnknownRelation)
unfolding in_relation
named_or None ar = inr refl
named_or (Some other) ar = by_test (is_relation (Some other) ar) refl
  where
    by_test : (same : Bool) → is_relation (Some other) ar ≡ same
        → (Some other ≡ Some ar) ⊎ (in_order ((not same, fault.UnknownRelation) ∷ []) done ≡ Err fault.UnknownRelation)
    by_test true e = inl (ap (λ (uuid : List ℕ). Some uuid) (same_text other ar (sym e)))
    by_test false e = inr refl

-- a request that names no relation is refused
request_refused : (standing : Option (List ℕ)) (real : Real) (request : IodWriteReq) (behind : List ℕ)
    → in_relation standing request.header.ar_uuid ≡ Err fault.UnknownRelation
    → handled_request standing real request behind ≡ Err fault.UnknownRelation
unfolding handled_request targeted
request_refused standing real request behind unnamed =
    ap (λ (r : Result (Unit {0}) CallFault).
    (r >>= λ _. placed real request.header.api request.header.slot_number request.header.subslot_number request.header.index)
    >>= λ _. written real request behind >>= λ effect. Ok (record { request = request; effect = effect })) unnamed

several_refused : (standing : Option (List ℕ)) (request : IodWriteReq) (behind : List ℕ)
    → in_relation standing request.header.ar_uuid ≡ Err fault.UnknownRelation
    → several_of standing request behind ≡ Err fault.UnknownRelation
unfolding several_of
several_refused standing request behind unnamed =
    ap (λ (r : Result (Unit {0}) CallFault). r >>= λ _. or_fault fault.WriteLength (list_behind request behind)) unnamed

pub writing_refused : (standing : Option (List ℕ)) (real : Real) (request : IodWriteReq) (behind : List ℕ)
    → in_relation standing request.header.ar_uuid ≡ Err fault.UnknownRelation
    → handled_writing standing real request behind ≡ Err fault.UnknownRelation
writing_refused standing real request behind unnamed = by_kind (is_several request)
  where
    by_kind : (several : Bool) → cond several (several_of standing request behind >>= λ entries. Ok (Each request entries))
        (handled_request standing real request behind >>= λ write. Ok (One write)) ≡ Err fault.UnknownRelation
    by_kind true = ap (λ (r : Result (List Entry) CallFault). let w : Result Writing CallFault = r >>= λ entries. Ok (Each request entries) in w)
        (several_refused standing request behind unnamed)
    by_kind false = ap (λ (r : Result Write CallFault). let w : Result Writing CallFault = r >>= λ write. Ok (One write) in w)
        (request_refused standing real request behind unnamed)

-- ---- nothing is written

pub nothing_written : (standing : Option (List ℕ)) (real : Real) → writing_of standing real [] ≡ Err fault.BlockMissing
unfolding writing_of single_of
nothing_written standing real = refl

-- ---- the Writes of a plan

module _ (read : AreBlocksRead) (long : AreBlocksLong) (setup : Setup) (wide : length setup.ar ≡ 16) (number : ℕ) (small : number + 1 < 65536) (real : Real)
    (names : List RecordName) (standing : Option (List ℕ)) where
  one_quiet : (found : Option PlanRecord) → ((entry : PlanRecord) → found ≡ Some entry → IsFit real entry)
      → IsQuiet names standing real (writing_of standing real (write_blocks setup number found))
  one_quiet None fits = subst (IsQuiet names standing real) (sym (nothing_written standing real)) tt
  one_quiet (Some entry) fits =
      let fit = fits entry refl in
      let asked = write_of setup number entry in
      let read_so = writing_is long standing real asked entry.data.items (read (is.IodWriteReq asked) entry.data.items
      (one_can read long setup wide number small real entry fit)) in
      by_name asked read_so fit (named_or standing setup.ar)
    where
      by_name : (asked : IodWriteReq) → writing_of standing real (write_blocks setup number (Some entry))
          ≡ handled_writing standing real (write_of setup number entry) entry.data.items
          → IsFit real entry → (standing ≡ Some setup.ar) ⊎ (in_relation standing setup.ar ≡ Err fault.UnknownRelation)
          → IsQuiet names standing real (writing_of standing real (write_blocks setup number (Some entry)))
      by_name asked is fit (inl named) =
          subst (IsQuiet names standing real)
          (sym (is ∙ (ap (λ (s : Option (List ℕ)). handled_writing s real (write_of setup number entry) entry.data.items) named
          ∙ one_is real setup.ar (number + 1) entry.slot entry.subslot entry.index entry.data.items fit.below fit.there fit.short)))
          (_, refl)
      by_name asked is fit (inr unnamed) =
          subst (IsQuiet names standing real) (sym (is ∙ writing_refused standing real (write_of setup number entry) entry.data.items unnamed)) tt

  list_quiet : (entries : List PlanRecord) → length entries ≤ 10 → AreFit real entries
      → IsQuiet names standing real (writing_of standing real (list_blocks setup number entries))
  list_quiet [] ten fits = subst (IsQuiet names standing real) (sym (nothing_written standing real)) tt
  list_quiet (entry ∷ entries) ten fits =
      let header = header_for setup number (entry ∷ entries) in
      let octets = entries_bytes setup number (entry ∷ entries) in
      let sized = list_sized read long setup wide number small real (entry ∷ entries) ten fits in
      by_name (writing_is long standing real header octets (read (is.IodWriteReq header) octets (record { header = sized }))) (named_or standing setup.ar)
    where
      by_name : writing_of standing real (list_blocks setup number (entry ∷ entries))
          ≡ handled_writing standing real (header_for setup number (entry ∷ entries)) (entries_bytes setup number (entry ∷ entries))
          → (standing ≡ Some setup.ar) ⊎ (in_relation standing setup.ar ≡ Err fault.UnknownRelation)
          → IsQuiet names standing real (writing_of standing real (list_blocks setup number (entry ∷ entries)))
      by_name is (inl named) =
          let header = header_for setup number (entry ∷ entries) in
          let octets = entries_bytes setup number (entry ∷ entries) in
          subst (IsQuiet names standing real)
          (sym (is ∙ (ap (λ (s : Option (List ℕ)). handled_writing s real header octets) named
          ∙ each_is read long setup wide number small real (entry ∷ entries) ten fits)))
          (ap (λ (s : Option (List ℕ)). texts_in (judged_each names s real (listed setup number (entry ∷ entries)))) named
          ∙ (ap texts_in (judged_is read long setup wide number small real names (entry ∷ entries) fits) ∙ no_text setup number (entry ∷ entries)))
      by_name is (inr unnamed) =
          subst (IsQuiet names standing real)
          (sym (is ∙ writing_refused standing real (header_for setup number (entry ∷ entries)) (entries_bytes setup number (entry ∷ entries)) unnamed)) tt

  pub writes_quiet : AreFit real setup.plan.records.items → IsQuiet names standing real (writing_of standing real (writing_blocks setup number))
  writes_quiet fits = by_kind setup.plan.multiple_write refl
    where
      records : List PlanRecord
      records = setup.plan.records.items

      by_kind : (several : Bool) → setup.plan.multiple_write ≡ several
          → IsQuiet names standing real (writing_of standing real
          (cond several (list_blocks setup number (take (cond several 10 1) (drop (cond several (number * 10) number) records)))
          (write_blocks setup number (slice_get records number))))
      by_kind true is =
          list_quiet (take 10 (drop (number * 10) records)) (take_few 10 (drop (number * 10) records))
          (each_take (IsFit real) 10 (drop (number * 10) records) (each_drop (IsFit real) (number * 10) records fits))
      by_kind false is = one_quiet (slice_get records number) (found_fit real records number fits)

not_small : (number : ℕ) → nat_lt (number + 1) 65536 ≡ false → 32 ≤ number
not_small number e = grind (arith, nat_tests, e)

pub all_quiet : AreBlocksRead → AreBlocksLong → (setup : Setup) → length setup.ar ≡ 16 → length setup.plan.records.items ≤ 32 → (real : Real)
    → AreFit real setup.plan.records.items → (names : List RecordName) (number : ℕ) (standing : Option (List ℕ))
    → IsQuiet names standing real (writing_of standing real (writing_blocks setup number))
all_quiet read long setup wide few real fits names number standing = by_size (nat_lt (number + 1) 65536) refl
  where
    by_size : (small : Bool) → nat_lt (number + 1) 65536 ≡ small → IsQuiet names standing real (writing_of standing real (writing_blocks setup number))
    by_size true e = writes_quiet read long setup wide number (ltb-true (number + 1) 65536 e) real names standing fits
    by_size false e =
        subst (λ (blocks : List ℕ). IsQuiet names standing real (writing_of standing real blocks))
        (sym (none_written setup number (omega (arith, few, not_small number e))))
        (subst (IsQuiet names standing real) (sym (nothing_written standing real)) tt)

-- None of them asks the application anything.
pub all_unasked : AreBlocksRead → AreBlocksLong → (setup : Setup) → length setup.ar ≡ 16 → length setup.plan.records.items ≤ 32 → (real : Real)
    → AreFit real setup.plan.records.items → (names : List RecordName) → AreNames names
    → (number : ℕ) (standing : Option (List ℕ)) (caller : Caller) (call : Call)
    → asking_write real names caller call (write_within standing (writing_blocks setup number)) ≡ Ok None
all_unasked read long setup wide few real fits names are number standing caller call = by_size (nat_lt (number + 1) 65536) refl
  where
    by_size : (small : Bool) → nat_lt (number + 1) 65536 ≡ small
        → asking_write real names caller call (write_within standing (writing_blocks setup number)) ≡ Ok None
    by_size true e = write_unasked read long setup wide number (ltb-true (number + 1) 65536 e) real names are caller call standing fits
    by_size false e = none_unasked setup number real names caller call standing (omega (arith, few, not_small number e))
