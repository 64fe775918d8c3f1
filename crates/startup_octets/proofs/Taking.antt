-- The records that a device accepts of a Write are those whose statuses in its answer are 0.
use Rattle.std.proofs.Common.{◌≡◌, ◌==◌, ◌&&◌, ℕ, Bool, true, false, cond, List, [], ◌∷◌, ◌++◌, length, map, zip, filter_map, nat_lt, is_some, Option, Some, None, Result, Ok, Err, if◌then◌else◌, refl, sym, ap, subst, ◌∙◌, arith, append_assoc}
use Rattle.std.proofs.lemmas.Bool.{cond-false}
use Rattle.std.proofs.lemmas.Bool.Decides.{nat_tests}
use Rattle.std.proofs.lemmas.List.{append-nil}
use Rattle.pn_values.specs.declared.set_item.BlockError.{BlockError}
use Rattle.rpc_core.specs.declared.response.Status.{Status}
use Rattle.rpc_core.specs.Response.{is_done}
use Rattle.record_blocks.specs.declared.write_record.IodWriteReq.{IodWriteReq}
use Rattle.records.specs.declared.status.call_fault.CallFault.{CallFault}
use Rattle.records.specs.declared.status.call_fault.CallFault.TheVariants.{TooManyRecords, UnknownRelation}
use Rattle.records.specs.declared.status.operation.Operation.{Operation}
use Rattle.records.specs.declared.status.operation.Operation.TheVariants.{Write as Writing}
use Rattle.records.specs.declared.writes.taken.TakenRecord.{TakenRecord}
use Rattle.records.specs.declared.writes.write.Effect.{Effect}
use Rattle.records.specs.declared.writes.write.Effect.TheVariants.{Keeps}
use Rattle.records.specs.declared.writes.write.Write.{Write}
use Rattle.records.specs.status.Status.{status_of}
use Rattle.records.specs.writes.Answer.{number_of}
use Rattle.records.specs.writes.Taken.{keep_of}
use Rattle.relations.specs.declared.options.DeviceOptions.{DeviceOptions}
use Rattle.relations.specs.declared.phase.Phase.TheVariants.{Started}
use Rattle.relations.specs.Phases.{Records, kept_in, keeping, taking, updated, with_records}
use Rattle.relations.specs.RelationState.{RelationState, passes_on, passes_on_in}
use Rattle.device_core.specs.Several.{Judged, judged_each, with_status}
use Rattle.asked_records.specs.Answers.{unanswered_status}
use Rattle.asked_records.specs.Judging.{asked_name}
use Rattle.asked_records.specs.declared.names.RecordName.{RecordName}
use Rattle.asked_records.specs.declared.status.Unanswered.TheVariants.{InList}
use Rattle.pn_values.specs.declared.real.Real.{Real}
use Rattle.records.specs.writes.Entry.{Entry}
use Rattle.records.specs.writes.Handled.{handled_request}
use Rattle.device_core.specs.Handled.{kept_answer, outcome_of}
use Rattle.device_core.specs.Machine.{effect_answers, effect_link, effect_outcome, link_behind, one_answers, one_link, one_status, statuses_of}
use Rattle.end_laws.specs.device.Small.{AreKeeping}
use Rattle.octets_law.proofs.WriteMarks.{numbers}
use Rattle.startup_octets.specs.StartUp.{Written}
use Rattle.startup_octets.proofs.Exact.{written_of}

-- The records whose status is 0.
abbrev pub granted_in : List (Option Written × ℕ) → List Written
granted_in pairs = filter_map (λ (one : Option Written × ℕ). if one.1 == 0 then one.0 else None) pairs

-- ---- statuses

number_zero : (s : Status) → number_of s ≡ 0 → is_done s ≡ true
number_zero s e =
    let code2 : s.code2 ≡ 0 = omega (arith, e) in
    let code1 : s.code1 ≡ 0 = omega (arith, e) in
    let decode : s.decode ≡ 0 = omega (arith, e) in
    let code : s.code ≡ 0 = omega (arith, e) in
    rw (code, decode, code1, code2) refl

equal : (n m : ℕ) → (n == m) ≡ true → n ≡ m
equal n m is = grind (arith, nat_tests)

pub no_zero : (s : Status) → is_done s ≡ false → (number_of s == 0) ≡ false
no_zero s undone = by_test (number_of s == 0) refl
  where
    by_test : (b : Bool) → (number_of s == 0) ≡ b → b ≡ false
    by_test true is = let d = number_zero s (equal (number_of s) 0 is) in absurd (let e = sym d ∙ undone in cc)
    by_test false is = refl

-- The law by which no fault has the status of success.
abbrev pub AreNotDone : Type 0
AreNotDone = (which : Operation) (fault : CallFault) → is_done (status_of which fault) ≡ false

granted_one : (one : Option Written) (n : ℕ) (behind : List (Option Written × ℕ)) (b : Bool) → (n == 0) ≡ b
    → granted_in ((one, n) ∷ behind) ≡ granted_in ((if b then one else None, 0) ∷ behind)
granted_one one n behind true is = ap (λ (c : Bool). granted_in ((if c then one else None, 0) ∷ behind)) is
granted_one one n behind false is = ap (λ (c : Bool). granted_in ((if c then one else None, 0) ∷ behind)) is

pub granted_no : (one : Option Written) (n : ℕ) (behind : List (Option Written × ℕ)) → (n == 0) ≡ false → granted_in ((one, n) ∷ behind) ≡ granted_in behind
granted_no one n behind is = granted_one one n behind false is

pub granted_none : (n : ℕ) (behind : List (Option Written × ℕ)) → granted_in ((None, n) ∷ behind) ≡ granted_in behind
granted_none n behind = by_test (n == 0) refl
  where
    by_test : (b : Bool) → (n == 0) ≡ b → granted_in ((None, n) ∷ behind) ≡ granted_in behind
    by_test true is = granted_one None n behind true is
    by_test false is = granted_one None n behind false is

-- ---- one record

-- A relation whose parameters are written, if there is one.
abbrev pub IsStarted : Option RelationState → Type 0
IsStarted None = Unit {0}
IsStarted (Some link) = link.phase ≡ Started

-- The relation is there as before, and accepted these records more.
abbrev pub IsGrown : Option RelationState → Option RelationState → List TakenRecord → Type 0
IsGrown None after now = (after ≡ None) × (now ≡ [])
IsGrown (Some link) after now =
    (next : RelationState) × (after ≡ Some next) × (next.phase ≡ link.phase) × (next.request ≡ link.request) × (next.taken ≡ link.taken ++ now)

pub same_grown : (link : Option RelationState) → IsGrown link link []
same_grown None = (refl, refl)
same_grown (Some link) = (link, refl, refl, refl, sym (append-nil link.taken))

not_passed : (options : DeviceOptions) → passes_on_in options Started ≡ false
not_passed options = by_option options.records_passed_on
  where
    by_option : (b : Bool) → b && false ≡ false
    by_option true = refl
    by_option false = refl

same_records : (one other : Records) → ◌≡◌ {A = Result Records CallFault} (Ok one) (Ok other) → one ≡ other
same_records one other e = cc

kept_records : (value : TakenRecord) (taken : List TakenRecord) (records : Records) (link : RelationState) → kept_in link.passed (keep_of value taken) ≡ Ok records → records.taken ≡ taken ++ value ∷ []
unfolding keep_of
kept_records value taken records link e = by_room (nat_lt (length taken) 64) e
  where
    by_room : (b : Bool) → kept_in link.passed (cond b (Ok (taken ++ value ∷ [])) (Err TooManyRecords)) ≡ Ok records → records.taken ≡ taken ++ value ∷ []
    by_room true f = ap (λ (r : Records). r.taken) (sym (same_records (record { taken = taken ++ value ∷ []; passed = link.passed }) records f))
    by_room false f = absurd cc

-- A record that is kept is after the others.
pub keeping_more : (value : TakenRecord) (link : RelationState) (records : Records) → link.phase ≡ Started → keeping value (Some link) ≡ Ok records → records.taken ≡ link.taken ++ value ∷ []
keeping_more value link records started e =
    kept_records value link.taken records link
    (sym (cond-false (passes_on link) _ _ (ap (passes_on_in link.options) started ∙ not_passed link.options)) ∙ e)

-- ---- several records

-- None of these records is refused with the status of success.
abbrev pub AreRefused : List Judged → Type 0
AreRefused [] = Unit {0}
AreRefused (one ∷ judged) = ((status : Status) → one.1 ≡ Err status → is_done status ≡ false) × AreRefused judged

same_status : (one other : Status) → ◌≡◌ {A = Result Write Status} (Err one) (Err other) → one ≡ other
same_status one other e = cc

-- So it is of each list that a device judges.
pub all_refused : AreNotDone → (named : List RecordName) (standing : Option (List ℕ)) (real : Real) (entries : List Entry)
    → AreRefused (judged_each named standing real entries)
all_refused law named standing real [] = tt
all_refused law named standing real (entry ∷ entries) =
    (by_name (is_some (asked_name real named entry.0.header)), all_refused law named standing real entries)
  where
    undone : (one status : Status) → ◌≡◌ {A = Result Write Status} (Err one) (Err status) → is_done one ≡ false → is_done status ≡ false
    undone one status e is = subst (λ (s : Status). is_done s ≡ false) (same_status one status e) is

    by_read : (read : Result Write CallFault) (status : Status) → with_status read ≡ Err status → is_done status ≡ false
    by_read (Ok write) status e = absurd cc
    by_read (Err fault) status e = undone (status_of Writing fault) status e (law Writing fault)

    by_name : (b : Bool) (status : Status)
        → (if b then Err (unanswered_status Writing InList) else with_status (handled_request standing real entry.0 entry.1)) ≡ Err status
        → is_done status ≡ false
    by_name true status e = undone (unanswered_status Writing InList) status e refl
    by_name false status e = by_read (handled_request standing real entry.0 entry.1) status e

module _ (law : AreNotDone) where
  -- The records that are accepted, which are those with status 0.
  pub record IsEach (judged : List Judged) (values : List TakenRecord) (answers : List BlockError) (link : Option RelationState) : Type 0 where
    pub now : List TakenRecord
    pub grown : IsGrown link (link_behind judged link) now
    pub granted : granted_in (zip (map (λ value. Some (written_of value)) values) (numbers (statuses_of judged answers link))) ≡ map written_of now

  -- One that is refused, and those after it.
  refused_each : (one : Judged) (judged : List Judged) (value : TakenRecord) (values : List TakenRecord) (answers : List BlockError)
      (link : Option RelationState) (status : Status) → one_status one.0 one.1 answers link ≡ status → is_done status ≡ false
      → one_link one.1 link ≡ link → IsEach judged values (one_answers one.1 answers) link → IsEach (one ∷ judged) (value ∷ values) answers link
  refused_each one judged value values answers link status is undone same rest = record {
    now = rest.now;
    grown = subst (λ (l : Option RelationState). IsGrown link (link_behind judged l) rest.now) (sym same) rest.grown;
    granted =
        granted_no (Some (written_of value)) _
        (zip (map (λ value. Some (written_of value)) values) (numbers (statuses_of judged (one_answers one.1 answers) (one_link one.1 link))))
        (ap (λ (s : Status). number_of s == 0) is ∙ no_zero status undone)
        ∙ ap (λ (l : Option RelationState).
        granted_in (zip (map (λ value. Some (written_of value)) values) (numbers (statuses_of judged (one_answers one.1 answers) l)))) same
        ∙ rest.granted;
  }

  -- One that is accepted.
  accepted_each : (header : IodWriteReq) (write : Write) (judged : List Judged) (value : TakenRecord) (values : List TakenRecord) (answers : List BlockError) (link : RelationState) (records : Records)
      → write.effect ≡ Keeps value → link.phase ≡ Started → keeping value (Some link) ≡ Ok records
      → IsEach judged values answers (Some (with_records records link)) → IsEach ((header, Ok write) ∷ judged) (value ∷ values) answers (Some link)
  accepted_each header write judged value values answers link records effect started kept rest =
      let taken : records.taken ≡ link.taken ++ value ∷ [] = keeping_more value link records started kept in
      let answers_are : one_answers (Ok write) answers ≡ answers = ap (λ (e : Effect). effect_answers e answers) effect in
      let link_is : one_link (Ok write) (Some link) ≡ Some (with_records records link) =
      ap (λ (e : Effect). effect_link e (Some link)) effect ∙ ap (λ (k : Result Records CallFault). updated (taking k) (Some link)) kept in
      let outcome : one_status header (Ok write) answers (Some link) ≡ (outcome_of Writing (kept_answer header (Ok records))).0 =
      ap (λ (e : Effect). (outcome_of Writing (effect_outcome header e answers (Some link))).0) effect
      ∙ ap (λ (k : Result Records CallFault). (outcome_of Writing (kept_answer header k)).0) kept in
      record {
        now = value ∷ rest.now;
        grown = subst (λ (l : Option RelationState). IsGrown (Some link) (link_behind judged l) (value ∷ rest.now)) (sym link_is)
            (rest.grown.0, rest.grown.1, rest.grown.2, rest.grown.3, rest.grown.4 ∙ ap (λ l. l ++ rest.now) taken ∙ append_assoc link.taken (value ∷ []) rest.now);
        granted =
            ap (λ (s : Status). granted_in ((Some (written_of value), number_of s)
            ∷ zip (map (λ value. Some (written_of value)) values) (numbers (statuses_of judged (one_answers (Ok write) answers) (one_link (Ok write) (Some link)))))) outcome
            ∙ ap (λ l. written_of value ∷ l)
            (ap (λ (a : List BlockError). granted_in (zip (map (λ value. Some (written_of value)) values) (numbers (statuses_of judged a (one_link (Ok write) (Some link)))))) answers_are
            ∙ ap (λ (l : Option RelationState). granted_in (zip (map (λ value. Some (written_of value)) values) (numbers (statuses_of judged answers l)))) link_is
            ∙ rest.granted);
      }

  pub each_taken : (judged : List Judged) (values : List TakenRecord) (answers : List BlockError) (link : Option RelationState)
      → AreKeeping judged values → AreRefused judged → IsStarted link → IsEach judged values answers link
  each_taken [] [] answers link keeps undone started = record { now = []; grown = same_grown link; granted = refl }
  each_taken [] (value ∷ values) answers link keeps undone started = absurd keeps
  each_taken (one ∷ judged) [] answers link keeps undone started = absurd keeps
  each_taken ((header, Err status) ∷ judged) (value ∷ values) answers link keeps undone started =
      refused_each (header, Err status) judged value values answers link status refl (undone.0 status refl) refl
      (each_taken judged values answers link keeps.1 undone.1 started)
  each_taken ((header, Ok write) ∷ judged) (value ∷ values) answers None keeps undone started =
      let effect : write.effect ≡ Keeps value = keeps.0 write refl in
      refused_each (header, Ok write) judged value values answers None (status_of Writing UnknownRelation)
      (ap (λ (e : Effect). (outcome_of Writing (effect_outcome header e answers None)).0) effect) (law Writing UnknownRelation)
      (ap (λ (e : Effect). effect_link e None) effect)
      (each_taken judged values (one_answers (Ok write) answers) None keeps.1 undone.1 tt)
  each_taken ((header, Ok write) ∷ judged) (value ∷ values) answers (Some link) keeps undone started =
      by_kept (λ again link started. each_taken judged values again link keeps.1 undone.1 started) (keeping value (Some link)) refl
    where
      effect : write.effect ≡ Keeps value
      effect = keeps.0 write refl

      by_kept : ((again : List BlockError) (link : Option RelationState) → IsStarted link → IsEach judged values again link)
          → (kept : Result Records CallFault) → keeping value (Some link) ≡ kept → IsEach ((header, Ok write) ∷ judged) (value ∷ values) answers (Some link)
      by_kept later (Ok records) is =
          accepted_each header write judged value values answers link records effect started is (later answers (Some (with_records records link)) started)
      by_kept later (Err fault) is =
          refused_each (header, Ok write) judged value values answers (Some link) (status_of Writing fault)
          (ap (λ (e : Effect). (outcome_of Writing (effect_outcome header e answers (Some link))).0) effect
          ∙ ap (λ (k : Result Records CallFault). (outcome_of Writing (kept_answer header k)).0) is) (law Writing fault)
          (ap (λ (e : Effect). effect_link e (Some link)) effect ∙ ap (λ (k : Result Records CallFault). updated (taking k) (Some link)) is)
          (later (one_answers (Ok write) answers) (Some link) started)
