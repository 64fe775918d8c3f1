-- The several records of one Write of a start-up: those that the relation accepts are some of them, in order, and all if
-- the response says so.
use Rattle.std.specs.List.{AllByRecursion}
use Rattle.std.specs.Prelude.{is_some}
use Rattle.std.proofs.Common.{◌≡◌, ◌⊎◌, inl, inr, ℕ, Bool, true, false, cond, List, [], ◌∷◌, ◌++◌, Option, Some, None, Result, Ok, Err, refl, sym, ap, subst, ◌∙◌, append_assoc, arith}
use Rattle.std.proofs.lemmas.Bool.{false≢true}
use Rattle.std.proofs.lemmas.List.{append-nil}
use Rattle.wire.specs.Checks.{or_fault}
use Rattle.wire.specs.Codec.{◌>>=◌}
use Rattle.pn_values.specs.declared.real.Real.{Real}
use Rattle.pn_values.specs.declared.set_item.BlockError.{BlockError}
use Rattle.rpc_core.specs.Response.{is_done}
use Rattle.rpc_core.specs.Sendable.{IsStatus}
use Rattle.rpc_core.specs.declared.response.Status.{Status}
use Rattle.asked_records.specs.Answers.{unanswered_status}
use Rattle.asked_records.specs.Judging.{asked_name}
use Rattle.asked_records.specs.declared.names.RecordName.{RecordName}
use Rattle.asked_records.specs.declared.status.Unanswered.TheVariants.{InList}
use Rattle.block_codec.specs.declared.block_type.BlockType.TheVariants as kind
use Rattle.block_codec.specs.Block.{in_iod_write_req}
use Rattle.record_blocks.specs.declared.write_record.IodWriteReq.{IodWriteReq}
use Rattle.records.specs.declared.status.call_fault.CallFault.{CallFault}
use Rattle.records.specs.declared.status.call_fault.CallFault.TheVariants as fault
use Rattle.records.specs.declared.status.operation.Operation.{Operation}
use Rattle.records.specs.declared.status.operation.Operation.TheVariants as operation
use Rattle.records.specs.status.Status.{status_of}
use Rattle.records.specs.calls.Single.{single_of}
use Rattle.records.specs.calls.Naming.{in_relation}
use Rattle.records.specs.declared.writes.taken.TakenRecord.{TakenRecord}
use Rattle.records.specs.declared.writes.write.Effect.{Effect}
use Rattle.records.specs.declared.writes.write.Effect.TheVariants.{Stores, Keeps}
use Rattle.records.specs.declared.writes.write.Write.{Write}
use Rattle.records.specs.declared.writes.writing.Writing.{Writing}
use Rattle.records.specs.declared.writes.writing.Writing.TheVariants.{One, Each}
use Rattle.records.specs.writes.Asked.{handled_writing, several_of, writing_of}
use Rattle.records.specs.writes.Entry.{Entry}
use Rattle.records.specs.writes.Handled.{handled_request}
use Rattle.records.specs.writes.Several.{is_several, list_behind}
use Rattle.relations.specs.Passed.{PassedOn}
use Rattle.relations.specs.RelationState.{RelationState, passes_on}
use Rattle.relations.specs.Phases.{Records, keeping, taking, updated, with_records}
use Rattle.device_core.specs.Handled.{kept_answer, outcome_of}
use Rattle.device_core.specs.Several.{Judged, judged_each, judged_entry, with_status}
use Rattle.device_core.specs.Machine.{effect_outcome, first_answer, link_behind, one_answers, one_link, one_status, statuses_of}
use Rattle.end_laws.specs.both.Steps.{IsPart}
use Rattle.end_laws.specs.device.Small.{AreDone, AreKeeping, AreOutcomesOf}
use Rattle.end_laws.proofs.BothEach.{part_more}
use Rattle.end_laws.proofs.DeviceOwing.{IsPlainIn, bind_ok, keeping_plain, kept_plain, outcome_sized, request_plain, status_sized, stored_plain}
use Rattle.end_laws.proofs.DeviceWalk.{holding, keeping_is}

-- ---- without a relation no list is accepted

one_each : (write : Write) (header : IodWriteReq) (entries : List Entry) → ◌≡◌ {A = Result Writing CallFault} (Ok (One write)) (Ok (Each header entries)) → ⊥
one_each write header entries e = absurd cc

unrelated : (uuid : List ℕ) (nothing : Unit {0}) → in_relation None uuid ≡ Ok nothing → ⊥
unfolding in_relation
unrelated uuid nothing e = absurd cc

none_several : (request : IodWriteReq) (behind : List ℕ) (entries : List Entry) → several_of None request behind ≡ Ok entries → ⊥
unfolding several_of
none_several request behind entries e =
    let first = bind_ok (in_relation None request.header.ar_uuid) (λ _. or_fault fault.WriteLength (list_behind request behind)) entries e in
    unrelated request.header.ar_uuid first.0 first.1

none_writing : (real : Real) (request : IodWriteReq) (behind : List ℕ) (header : IodWriteReq) (entries : List Entry) → handled_writing None real request behind ≡ Ok (Each header entries) → ⊥
none_writing real request behind header entries e = by_test (is_several request) e
  where
    by_test : (b : Bool) → cond b (several_of None request behind >>= λ found. Ok (Each request found)) (handled_request None real request behind >>= λ write. Ok (One write)) ≡ Ok (Each header entries) → ⊥
    by_test true f =
        let there = bind_ok (several_of None request behind) (λ found. Ok (Each request found)) (Each header entries) f in
        none_several request behind there.0 there.1
    by_test false f =
        let there = bind_ok (handled_request None real request behind) (λ write. Ok (One write)) (Each header entries) f in
        one_each there.0 header entries there.2

pub none_listed : (real : Real) (blocks : List ℕ) (header : IodWriteReq) (entries : List Entry) → writing_of None real blocks ≡ Ok (Each header entries) → ⊥
unfolding writing_of
none_listed real blocks header entries e =
    let one = bind_ok (single_of kind.IodWriteReq blocks) (λ x. or_fault fault.BlockForm (in_iod_write_req x.0) >>= λ request. handled_writing None real request x.1) (Each header entries) e in
    let two = bind_ok (or_fault fault.BlockForm (in_iod_write_req one.0.0)) (λ request. handled_writing None real request one.0.1) (Each header entries) one.2 in
    none_writing real two.0 one.0.1 header entries two.2

-- ---- the outcomes of the records

-- a record that is refused, is refused with a status of four octets
abbrev IsSizedIn : Result Write Status → Type 0
IsSizedIn (Ok write) = Unit {0}
IsSizedIn (Err status) = IsStatus status

effect_plain : (header : IodWriteReq) (effect : Effect) (answers : List BlockError) (link : Option RelationState)
    → IsPlainIn (effect_outcome header effect answers link)
effect_plain header (Stores value) answers link = stored_plain header (first_answer answers)
effect_plain header (Keeps value) answers link = kept_plain header (keeping value link) (keeping_plain value link)

one_sized : (header : IodWriteReq) (one : Result Write Status) (answers : List BlockError) (link : Option RelationState) → IsSizedIn one
    → IsStatus (one_status header one answers link)
one_sized header (Err status) answers link sized = sized
one_sized header (Ok write) answers link sized =
    outcome_sized operation.Write (effect_outcome header write.effect answers link) (effect_plain header write.effect answers link)

with_sized : (judged : Result Write CallFault) → IsPlainIn judged → IsSizedIn (with_status judged)
with_sized (Ok write) plain = tt
with_sized (Err why) plain = status_sized operation.Write why plain

entry_sized : (named : List RecordName) (standing : Option (List ℕ)) (real : Real) (entry : Entry) → IsSizedIn (judged_entry named standing real entry)
entry_sized named standing real entry = by_name (is_some (asked_name real named entry.0.header))
  where
    by_name : (b : Bool) → IsSizedIn (cond b (Err (unanswered_status operation.Write InList)) (with_status (handled_request standing real entry.0 entry.1)))
    by_name true = record { code = omega arith; decode = omega arith; code1 = omega arith; code2 = omega arith }
    by_name false = with_sized (handled_request standing real entry.0 entry.1) (request_plain standing real entry.0 entry.1)

pub outcomes_are : (named : List RecordName) (standing : Option (List ℕ)) (real : Real) (entries : List Entry) (answers : List BlockError)
    (link : Option RelationState)
    → AreOutcomesOf entries (statuses_of (judged_each named standing real entries) answers link)
outcomes_are named standing real [] answers link = tt
outcomes_are named standing real (entry ∷ entries) answers link =
    let one = judged_entry named standing real entry in (
      refl,
      one_sized entry.0 one answers link (entry_sized named standing real entry),
      outcomes_are named standing real entries (one_answers one answers) (one_link one link),
    )

-- ---- what the relation accepts

-- some of these records, in order; all, if each outcome is positive and they are kept; and none, if they are passed on
pub record TakesOf (judged : List Judged) (group : List TakenRecord) (answers : List BlockError) (link : RelationState) : Type 0 where
  pub values : List TakenRecord
  pub passed : PassedOn
  pub becomes : link_behind judged (Some link) ≡ Some (holding (link.taken ++ values) passed link)
  pub part : IsPart values group
  pub whole : passes_on link ≡ false → AreDone (statuses_of judged answers (Some link)) → values ≡ group
  pub none : passes_on link ≡ true → values ≡ []

-- a record that is refused is not done
abbrev IsUndoneIn : Result Write Status → Type 0
IsUndoneIn (Ok write) = Unit {0}
IsUndoneIn (Err status) = is_done status ≡ false

-- each of them
abbrev pub AreUndone : List Judged → Type 0
AreUndone judged = AllByRecursion (λ (one : Judged). IsUndoneIn one.1) judged

not_both : (b : Bool) → b ≡ false → b ≡ true → ⊥
not_both true is other = cc is
not_both false is other = cc other

module _ (refusals_are_not_done : (operation_is : Operation) (why : CallFault) → is_done (status_of operation_is why) ≡ false) where
  module _ (header : IodWriteReq) (others : List Judged) (value : TakenRecord) (values : List TakenRecord)
      (later : (answers : List BlockError) (next : RelationState) → TakesOf others values answers next) where
    refused_take : (status : Status) → is_done status ≡ false → (answers : List BlockError) (link : RelationState)
        → TakesOf ((header, Err status) ∷ others) (value ∷ values) answers link
    refused_take status undone answers link =
        let there = later answers link in
        record {
          values = there.values;
          passed = there.passed;
          becomes = there.becomes;
          part = part_more there.values value values there.part;
          whole = λ keeps done. absurd (false≢true (sym undone ∙ done.0));
          none = there.none;
        }

    keeps_one : (write : Write) (answers : List BlockError) (link : RelationState) → TakesOf ((header, Ok (record write { effect = Keeps value })) ∷ others) (value ∷ values) answers link
    keeps_one write answers link = by_keeping (keeping value (Some link)) refl
      where
        by_kind : (more : Records) → keeping value (Some link) ≡ Ok more
            → ((passes_on link ≡ false) × (more.taken ≡ link.taken ++ value ∷ [])) ⊎ ((passes_on link ≡ true) × (more.taken ≡ link.taken))
            → TakesOf ((header, Ok (record write { effect = Keeps value })) ∷ others) (value ∷ values) answers link
        by_kind more is (inl kept) =
            let there = later answers (with_records more link) in
            let all : more.taken ++ there.values ≡ link.taken ++ (value ∷ there.values) =
            ap (λ (records : List TakenRecord). records ++ there.values) kept.1 ∙ append_assoc link.taken (value ∷ []) there.values in
            record {
              values = value ∷ there.values;
              passed = there.passed;
              becomes = ap (λ (k : Result Records CallFault). link_behind others (updated (taking k) (Some link))) is ∙ (there.becomes ∙ ap (λ (records : List TakenRecord). Some (holding records there.passed link)) all);
              part = inl (refl, there.part);
              whole = λ keeps done.
                  let rest = subst (λ (k : Result Records CallFault). AreDone (statuses_of others answers (updated (taking k) (Some link)))) is done.1 in
                  ap (λ (more : List TakenRecord). value ∷ more) (there.whole keeps rest);
              none = λ passes. absurd (not_both (passes_on link) kept.0 passes);
            }
        by_kind more is (inr passed) =
            let there = later answers (with_records more link) in
            record {
              values = there.values;
              passed = there.passed;
              becomes = ap (λ (k : Result Records CallFault). link_behind others (updated (taking k) (Some link))) is ∙ (there.becomes ∙ ap (λ (records : List TakenRecord). Some (holding (records ++ there.values) there.passed link)) passed.1);
              part = part_more there.values value values there.part;
              whole = λ keeps done. absurd (not_both (passes_on link) keeps passed.0);
              none = there.none;
            }

        by_keeping : (kept : Result Records CallFault) → keeping value (Some link) ≡ kept
            → TakesOf ((header, Ok (record write { effect = Keeps value })) ∷ others) (value ∷ values) answers link
        by_keeping (Err why) is =
            let there = later answers link in
            record {
              values = there.values;
              passed = there.passed;
              becomes = ap (λ (k : Result Records CallFault). link_behind others (updated (taking k) (Some link))) is ∙ there.becomes;
              part = part_more there.values value values there.part;
              whole = λ keeps done.
                  let no = ap (λ (k : Result Records CallFault). is_done (outcome_of operation.Write (kept_answer header k)).0) is in
                  absurd (false≢true (sym (refusals_are_not_done operation.Write why) ∙ (sym no ∙ done.0)));
              none = there.none;
            }
        by_keeping (Ok more) is = by_kind more is (keeping_is value link more is)

    one_take : (one : Result Write Status) → IsUndoneIn one → ((write : Write) → one ≡ Ok write → write.effect ≡ Keeps value)
        → (answers : List BlockError) (link : RelationState)
        → TakesOf ((header, one) ∷ others) (value ∷ values) answers link
    one_take (Err status) undone keeps answers link = refused_take status undone answers link
    one_take (Ok write) undone keeps answers link =
        subst (λ (effect : Effect). TakesOf ((header, Ok (record write { effect = effect })) ∷ others) (value ∷ values) answers link) (sym (keeps write refl)) (keeps_one write answers link)

  pub keeps_take : (judged : List Judged) (group : List TakenRecord) → AreUndone judged → AreKeeping judged group
      → (answers : List BlockError) (link : RelationState)
      → TakesOf judged group answers link
  keeps_take [] [] undone keeps answers link = record {
    values = [];
    passed = link.passed;
    becomes = ap (λ (taken : List TakenRecord). Some (holding taken link.passed link)) (sym (append-nil link.taken));
    part = refl;
    whole = λ keeps done. refl;
    none = λ passes. refl;
  }
  keeps_take [] (value ∷ values) undone keeps answers link = absurd keeps
  keeps_take (one ∷ others) [] undone keeps answers link = absurd keeps
  keeps_take (one ∷ others) (value ∷ values) undone keeps answers link =
      one_take one.0 others value values (keeps_take others values undone.1 keeps.1) one.1 undone.0 keeps.0 answers link

  -- so it is of the records of each list
  with_undone : (judged : Result Write CallFault) → IsUndoneIn (with_status judged)
  with_undone (Ok write) = tt
  with_undone (Err why) = refusals_are_not_done operation.Write why

  entry_undone : (named : List RecordName) (standing : Option (List ℕ)) (real : Real) (entry : Entry) → IsUndoneIn (judged_entry named standing real entry)
  entry_undone named standing real entry = by_name (is_some (asked_name real named entry.0.header))
    where
      by_name : (b : Bool) → IsUndoneIn (cond b (Err (unanswered_status operation.Write InList)) (with_status (handled_request standing real entry.0 entry.1)))
      by_name true = refl
      by_name false = with_undone (handled_request standing real entry.0 entry.1)

  pub each_undone : (named : List RecordName) (standing : Option (List ℕ)) (real : Real) (entries : List Entry)
      → AreUndone (judged_each named standing real entries)
  each_undone named standing real [] = tt
  each_undone named standing real (entry ∷ entries) = (entry_undone named standing real entry, each_undone named standing real entries)
