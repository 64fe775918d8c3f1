-- What is asked of the application of a device: what becomes of it with each event, and what a call asks.
use Rattle.std.proofs.Common.{◌≡◌, inl, inr, ap, ◌+◌, ℕ, Bool, true, false, cond, List, [], take, Option, Some, None, option_map, Result, Ok, Err, refl, sym, subst, not, ◌∙◌}
use Rattle.std.specs.Prelude.{◌&&◌, ◌==◌, if◌then◌else◌, nat_eq}
use Rattle.std.specs.Cmp.Lexicographic.{pointwise, other_text, same_text}
use Rattle.std.proofs.lemmas.Bool.{false≢true}
use Rattle.wire.specs.Checks.{or_fault}
use Rattle.wire.specs.Codec.{◌>>=◌}
use Rattle.pn_values.specs.declared.real.Real.{Real}
use Rattle.module_diff.specs.declared.changes.Affected.{Affected}
use Rattle.frame_codec.specs.declared.udp.Caller.{Caller}
use Rattle.block_codec.specs.declared.block_type.BlockType.TheVariants as kind
use Rattle.block_codec.specs.Block.{in_iod_write_req}
use Rattle.record_blocks.specs.declared.read_record.IodReadReq.{IodReadReq}
use Rattle.record_blocks.specs.declared.write_record.IodWriteReq.{IodWriteReq}
use Rattle.rpc_core.specs.Call.{Asked as Call}
use Rattle.records.specs.calls.Naming.{in_relation, is_relation}
use Rattle.records.specs.calls.Single.{single_of}
use Rattle.records.specs.declared.status.call_fault.CallFault.{CallFault}
use Rattle.records.specs.declared.status.call_fault.CallFault.TheVariants as fault
use Rattle.records.specs.declared.status.operation.Operation.{Operation}
use Rattle.records.specs.declared.status.operation.Operation.TheVariants as operation
use Rattle.records.specs.declared.writes.taken.TakenRecord.{TakenRecord}
use Rattle.records.specs.reads.Handled.{request_of}
use Rattle.records.specs.reads.Within.{request_within}
use Rattle.connects.specs.requests.Request.{Request}
use Rattle.asked_records.specs.Answers.{Gives, fault_of, is_refusal, judged, judged_with, question_unless}
use Rattle.asked_records.specs.Asked.{AskedState, Standing, asks_of, displaced_by, dropped_at, gives_way, is_affected, is_of, is_over, later_with, limit, over_with, question_in, settled, ticked as asked_ticked, waits}
use Rattle.asked_records.specs.Judging.{asked_read, asked_write}
use Rattle.asked_records.specs.Questions.{header_of, is_implicit, is_of_relation, operation_of as operation_asked}
use Rattle.asked_records.specs.declared.answering.AnswerFault.{AnswerFault}
use Rattle.asked_records.specs.declared.names.RecordName.{RecordName}
use Rattle.asked_records.specs.declared.question.Question.{Question}
use Rattle.asked_records.specs.declared.question.Request.{Request as Wanted}
use Rattle.asked_records.specs.declared.question.Request.TheVariants as wanted
use Rattle.relations.specs.declared.options.DeviceOptions.{DeviceOptions}
use Rattle.relations.specs.Phases.{Named, Unmoved, updated}
use Rattle.relations.specs.RelationState.{RelationState, uuid_of}
use Rattle.device_core.specs.Asking.{Asking, answered_link, asked_later, asking_read, asking_write, is_full, is_kept, late_in, left_asked, question_of, source_of, write_within}
use Rattle.device_frames.specs.Heard.{Heard}
use Rattle.end_laws.specs.both.Small as small
use Rattle.end_laws.specs.both.Steps.{IsSameOrNone}
use Rattle.end_laws.specs.device.Orderly.{IsOrderlyIn}
use Rattle.end_laws.specs.device.Owed.{IsAskedLater, IsAskedOf}
use Rattle.end_laws.specs.device.Small.{link_of}
use Rattle.end_laws.specs.device.Turn.{standing_of}
use Rattle.end_laws.proofs.DeviceOwing.{bind_ok}

none_some : {A : Type 0} (x : A) → None ≡ Some x → ⊥
none_some x e = cc

some_is : {A : Type 0} (x y : A) → Some x ≡ Some y → x ≡ y
some_is x y e = cc

-- ---- what is asked stays, or nothing is asked any more

abbrev pub IsStill : AskedState → AskedState → Type 0
IsStill before after = IsSameOrNone (question_in before) (question_in after)

pub still_later : (heard : Heard) (before after : AskedState) → IsStill before after → IsAskedLater heard before after
still_later heard before after (inl same) = λ question e. inl (sym same ∙ e)
still_later heard before after (inr none) = λ question e. absurd (none_some question (sym none ∙ e))

pub still_then : (before later after : AskedState) → IsStill before later → IsStill later after → IsStill before after
still_then before later after (inl same) (inl other) = inl (other ∙ same)
still_then before later after (inr none) (inl other) = inr (other ∙ none)
still_then before later after one (inr none) = inr none

-- what is still asked was asked before
pub still_was : (before after : AskedState) (question : Question) → IsStill before after → question_in after ≡ Some question
    → question_in before ≡ Some question
still_was before after question (inl same) e = sym same ∙ e
still_was before after question (inr none) e = absurd (none_some question (sym none ∙ e))

-- ---- by whom it was asked

-- a relation with the same ARUUID, if there is one
pub still_related : (link next : Option RelationState) (before after : AskedState) → uuid_of next ≡ uuid_of link → IsStill before after
    → IsAskedOf link before → IsAskedOf next after
still_related link next before after same still related =
    λ question e. let there = related question (still_was before after question still e) in (there.0, same ∙ there.1, there.2)

pub nothing_related : (link : Option RelationState) (asked : AskedState) → question_in asked ≡ None → IsAskedOf link asked
nothing_related link asked none = λ question e. absurd (none_some question (sym none ∙ e))

-- without a relation nothing is asked, so a relation that begins asks nothing
pub unrelated_asks : (link : Option RelationState) (asked : AskedState) → IsAskedOf None asked → IsAskedOf link asked
unrelated_asks link asked related = λ question e. let there = related question e in absurd (none_some there.0 there.1)

-- the ARUUID of a relation, by what a start-up sees of it
pub uuid_small : (link : Option RelationState)
    → uuid_of link ≡ option_map (λ (l : small.RelationState TakenRecord Request). l.request.ar.uuid) (option_map link_of link)
uuid_small None = refl
uuid_small (Some link) = refl

pub same_uuid : (link next : Option RelationState) → option_map link_of next ≡ option_map link_of link → uuid_of next ≡ uuid_of link
same_uuid link next same =
    uuid_small next ∙ (ap (λ (o : Option (small.RelationState TakenRecord Request)). option_map
    (λ (l : small.RelationState TakenRecord Request). l.request.ar.uuid) o) same ∙ sym (uuid_small link))

-- ---- a relation ends

pub left_still : (uuid : Option (List ℕ)) (asked : AskedState) → IsStill asked (left_asked uuid asked)
left_still None asked = inl refl
left_still (Some uuid) asked = by_own (is_of uuid asked)
  where
    by_own : (b : Bool) → IsStill asked (cond b (settled asked) asked)
    by_own true = inr refl
    by_own false = inl refl

left_nothing : (uuid : Option (List ℕ)) (asked : AskedState) → question_in asked ≡ None → question_in (left_asked uuid asked) ≡ None
left_nothing uuid asked none = by_still (left_still uuid asked)
  where
    by_still : IsStill asked (left_asked uuid asked) → question_in (left_asked uuid asked) ≡ None
    by_still (inl same) = same ∙ none
    by_still (inr other) = other

-- what it asked is dropped
pub left_none : (link : Option RelationState) (asked : AskedState) → IsAskedOf link asked → question_in (left_asked (uuid_of link) asked) ≡ None
left_none link asked related = by_standing asked.standing refl
  where
    by_standing : (standing : Option Standing) → asked.standing ≡ standing → question_in (left_asked (uuid_of link) asked) ≡ None
    by_standing None is = left_nothing (uuid_of link) asked (ap (λ (s : Option Standing). option_map (λ (t : Standing). t.question) s) is)
    by_standing (Some standing) is =
        let there = related standing.question (ap (λ (s : Option Standing). option_map (λ (t : Standing). t.question) s) is) in
        ap (λ (u : Option (List ℕ)). question_in (left_asked u asked)) there.1
        ∙ ap (λ (b : Bool). question_in (cond b (settled asked) asked)) (ap (asks_of there.0) is ∙ there.2)

-- ---- pulls

pub dropped_still : (affected : Affected) (asked : AskedState) → IsStill asked (dropped_at affected asked)
dropped_still affected asked = by_place (is_affected affected asked)
  where
    by_place : (b : Bool) → IsStill asked (cond b (settled asked) asked)
    by_place true = inr refl
    by_place false = inl refl

-- ---- a unit of time

abbrev asked_by : Option Standing → Option Question
asked_by standing = option_map (λ (s : Standing). s.question) standing

later_so : (standing : Option Standing) → IsSameOrNone (asked_by standing) (asked_by (later_with standing))
later_so None = inl refl
later_so (Some standing) = by_over (standing.waited + 1 == limit)
  where
    by_over : (b : Bool) → IsSameOrNone (Some standing.question) (asked_by (cond b None (Some (waits 1 standing))))
    by_over true = inr refl
    by_over false = inl refl

pub later_still : (count : ℕ) (asked : AskedState) → IsStill asked (asked_later count asked)
later_still count asked = by_room (is_over asked && is_full count)
  where
    by_room : (b : Bool) → IsStill asked (cond b asked (asked_ticked asked))
    by_room true = inl refl
    by_room false = later_so asked.standing

-- a call that is refused with this unit was asked, and is not asked any more
over_none : (standing : Option Standing) → over_with standing ≡ true → asked_by (later_with standing) ≡ None
over_none None over = refl
over_none (Some standing) over = ap (λ (b : Bool). asked_by (cond b None (Some (waits 1 standing)))) over

pub late_asked : (count : ℕ) (asked : AskedState) (question : Question) → late_in count asked ≡ Some question
    → (question_in asked ≡ Some question) × (question_in (asked_later count asked) ≡ None)
late_asked count asked question late = by_over (is_over asked) (is_full count) refl refl late
  where
    by_over : (over full : Bool) → is_over asked ≡ over → is_full count ≡ full → cond (over && not full) (question_in asked) None ≡ Some question
        → (question_in asked ≡ Some question) × (question_in (asked_later count asked) ≡ None)
    by_over true true o f e = absurd (none_some question e)
    by_over true false o f e = (
      e,
      ap (λ (b : Bool). question_in (cond (b && is_full count) asked (asked_ticked asked))) o
          ∙ (ap (λ (b : Bool). question_in (cond b asked (asked_ticked asked))) f ∙ over_none asked.standing o),
    )
    by_over false full o f e = absurd (none_some question e)

-- ---- the application answers

err_ok : {A B : Type 0} (why : B) (value : A) → ◌≡◌ {A = Result A B} (Err why) (Ok value) → ⊥
err_ok why value e = absurd cc

same_ok : {A B : Type 0} (x y : A) → ◌≡◌ {A = Result A B} (Ok x) (Ok y) → x ≡ y
same_ok x y e = cc

unless_is : (question found : Question) (why : Option AnswerFault) → question_unless question why ≡ Ok found → question ≡ found
unless_is question found None e = same_ok question found e
unless_is question found (Some why) e = absurd (err_ok why found e)

pub judged_is : (number : ℕ) (given : Gives) (asked : AskedState) (question : Question) → judged number given asked ≡ Ok question
    → question_in asked ≡ Some question
judged_is number given asked question e = by_standing asked.standing e
  where
    by_number : (standing : Standing) (b : Bool) (why : AnswerFault)
        → cond b (question_unless standing.question (fault_of standing.question given)) (Err why) ≡ Ok question
        → Some standing.question ≡ Some question
    by_number standing true why f = ap (λ (q : Question). let o : Option Question = Some q in o)
        (unless_is standing.question question (fault_of standing.question given) f)
    by_number standing false why f = absurd (err_ok why question f)

    by_standing : (standing : Option Standing) → judged_with asked.last number given standing ≡ Ok question → asked_by standing ≡ Some question
    by_standing None f = absurd cc
    by_standing (Some standing) f = by_number standing (number == asked.last) _ f

-- ---- which answers are stored

-- an answer that is not stored is one to a Read Implicit
pub unstored_is : (options : DeviceOptions) (request : Wanted) → is_kept options (operation_asked request) ≡ false
    → (is_implicit request ≡ true) × (options.reads_not_kept ≡ true)
unstored_is options (wanted.Read request) e = absurd (false≢true (sym e))
unstored_is options (wanted.ReadImplicit request) e = (refl, by_option options.reads_not_kept e)
  where
    by_option : (b : Bool) → not b ≡ false → b ≡ true
    by_option true f = refl
    by_option false f = absurd (false≢true (sym f))
unstored_is options (wanted.Write request) e = absurd (false≢true (sym e))

-- that to a call of the relation is stored
pub related_stored : (options : DeviceOptions) (uuid : List ℕ) (request : Wanted) (which : Operation) → operation_asked request ≡ which
    → is_of_relation uuid request ≡ true → is_kept options which ≡ true
related_stored options uuid (wanted.Read request) which e own = ap (is_kept options) (sym e)
related_stored options uuid (wanted.ReadImplicit request) which e own = absurd (false≢true own)
related_stored options uuid (wanted.Write request) which e own = ap (is_kept options) (sym e)

-- ---- a question that gives way

-- it is a Read Implicit that is asked
pub displaced_is : (own_first : Bool) (question : Question) (asked : AskedState) (other : Question) → displaced_by own_first question asked ≡ Some other
    → (own_first ≡ true) × (question_in asked ≡ Some other) × (is_implicit other.request ≡ true)
displaced_is false question asked other e = absurd (none_some other e)
displaced_is true question asked other e = by_standing asked.standing refl e
  where
    by_way : (standing : Standing) (b c : Bool) → is_implicit standing.question.request ≡ c → cond (b && c) (Some standing.question) None ≡ Some other
        → (standing.question ≡ other) × (is_implicit standing.question.request ≡ true)
    by_way standing true true is f = (some_is standing.question other f, is)
    by_way standing true false is f = absurd (none_some other f)
    by_way standing false c is f = absurd (none_some other f)

    by_standing : (standing : Option Standing) → asked.standing ≡ standing → gives_way question standing ≡ Some other
        → (true ≡ true) × (question_in asked ≡ Some other) × (is_implicit other.request ≡ true)
    by_standing None is f = absurd (none_some other f)
    by_standing (Some standing) is f =
        let there = by_way standing (not (is_implicit question.request)) (is_implicit standing.question.request) refl f in (
          refl,
          ap (λ (s : Option Standing). option_map (λ (t : Standing). t.question) s) is ∙ ap (λ (q : Question). let o : Option Question = Some q in o) there.0,
          ap (λ (q : Question). is_implicit q.request) (sym there.0) ∙ there.1,
        )

-- ---- the relation after an answer

-- the relation after it is the same, but for its activity timer
module _ (question : Question) (given : Gives) where
  abbrev moved : Bool → Option RelationState → Option RelationState
  moved b link = updated (if b then Named (source_of question) else Unmoved) link

  moved_link : (b : Bool) (link : Option RelationState) → option_map link_of (moved b link) ≡ option_map link_of link
  moved_link true None = refl
  moved_link true (Some link) = refl
  moved_link false None = refl
  moved_link false (Some link) = refl

  moved_standing : (b : Bool) (link : Option RelationState) → option_map standing_of (moved b link) ≡ option_map standing_of link
  moved_standing true None = refl
  moved_standing true (Some link) = refl
  moved_standing false None = refl
  moved_standing false (Some link) = refl

  moved_orderly : (b : Bool) (link : Option RelationState) → IsOrderlyIn link → IsOrderlyIn (moved b link)
  moved_orderly true None orderly = tt
  moved_orderly true (Some link) orderly = orderly
  moved_orderly false None orderly = tt
  moved_orderly false (Some link) orderly = orderly

  abbrev names : Option RelationState → Bool
  names link = is_relation (uuid_of link) (header_of question.request).ar_uuid && not (is_refusal given)

  pub answered_small : (link : Option RelationState) → option_map link_of (answered_link question given link) ≡ option_map link_of link
  answered_small link = moved_link (names link) link

  pub answered_same : (link : Option RelationState) → option_map standing_of (answered_link question given link) ≡ option_map standing_of link
  answered_same link = moved_standing (names link) link

  pub answered_orderly : (link : Option RelationState) → IsOrderlyIn link → IsOrderlyIn (answered_link question given link)
  answered_orderly link orderly = moved_orderly (names link) link orderly

-- ---- what a call asks

first_is : {A B : Type 0} (x : A) (y : B) (z : A × B) → ◌≡◌ {A = Result (A × B) CallFault} (Ok (x, y)) (Ok z) → x ≡ z.0
first_is {A = A} {B = B} x y z e = ap (λ (pair : A × B). pair.0) (same_ok (x, y) z e)

-- It is for a record of the application, and was called with this operation, in the relation that exists.
pub record IsAskedBy (standing : Option (List ℕ)) (caller : Caller) (call : Call) (which : Operation) (asking : Asking) : Type 0 where
  pub wanted : Wanted
  pub name : RecordName
  pub of_call : asking.0 ≡ question_of caller call wanted name
  pub operation_is : operation_asked wanted ≡ which
  pub uuid : List ℕ
  pub in_one : standing ≡ Some uuid
  pub own : is_of_relation uuid wanted ≡ true

asks_nothing : (asking : Asking) → ◌≡◌ {A = Result (Option Asking) CallFault} (Ok None) (Ok (Some asking)) → ⊥
asks_nothing asking e = absurd cc

-- the relation that exists is named
named_is : (standing : Option (List ℕ)) (uuid : List ℕ) (nothing : Unit {0}) → in_relation standing uuid ≡ Ok nothing
    → (own : List ℕ) × (standing ≡ Some own) × (pointwise nat_eq uuid own ≡ true)
unfolding in_relation
named_is None uuid nothing e = absurd cc
named_is (Some own) uuid nothing e = by_name (pointwise nat_eq own uuid) refl e
  where
    again : (b : Bool) → pointwise nat_eq uuid own ≡ b → own ≡ uuid → b ≡ true
    again true f same = refl
    again false f same = absurd (other_text uuid own (sym f) (sym same))

    by_name : (b : Bool) → pointwise nat_eq own uuid ≡ b → ◌≡◌ {A = Result (Unit {0}) CallFault} (cond (not b) (Err fault.UnknownRelation) (Ok tt)) (Ok nothing)
        → (u : List ℕ) × (Some own ≡ Some u) × (pointwise nat_eq uuid u ≡ true)
    by_name true f g = (own, refl, again (pointwise nat_eq uuid own) refl (same_text own uuid (sym f)))
    by_name false f g = absurd cc

module _ (real : Real) (named : List RecordName) (standing : Option (List ℕ)) (caller : Caller) (call : Call) (asking : Asking) where
  -- a record that was found is asked under its name
  found_as : (request : Wanted) (octets : List ℕ) (found : Option RecordName) (which : Operation)
      → ◌≡◌ {A = Result (Option Asking) CallFault} (Ok (option_map (λ (name : RecordName). (question_of caller call request name, octets)) found))
      (Ok (Some asking))
      → operation_asked request ≡ which → (own : List ℕ) × (standing ≡ Some own) × (is_of_relation own request ≡ true)
      → IsAskedBy standing caller call which asking
  found_as request octets None which e operation_is related = absurd (asks_nothing asking e)
  found_as request octets (Some name) which e operation_is related = record {
    wanted = request;
    name = name;
    of_call = ap (λ (x : Asking). x.0) (sym (some_is _ asking (same_ok _ (Some asking) e)));
    operation_is = operation_is;
    uuid = related.0;
    in_one = related.1;
    own = related.2;
  }

  pub read_asks : (blocks : List ℕ) (read : Result IodReadReq CallFault) → request_within standing blocks ≡ read
      → asking_read real named wanted.Read caller call read ≡ Ok (Some asking)
      → IsAskedBy standing caller call operation.Read asking
  unfolding request_within
  read_asks blocks (Err why) is e = absurd (asks_nothing asking e)
  read_asks blocks (Ok read) is e =
      let first = bind_ok (request_of blocks) (λ request. in_relation standing request.header.ar_uuid >>= λ _. Ok request) read is in
      let second = bind_ok (in_relation standing first.0.header.ar_uuid) (λ _. Ok first.0) read first.2 in
      let same : first.0 ≡ read = same_ok first.0 read second.2 in
      let there = bind_ok (asked_read real named read)
      (λ (found : Option RecordName). Ok (option_map (λ (name : RecordName). (question_of caller call (wanted.Read read) name, [])) found)) (Some asking) e in
      let related = named_is standing first.0.header.ar_uuid second.0 second.1 in
      found_as (wanted.Read read) [] there.0 operation.Read there.2 refl
      (related.0, related.1, ap (λ (r : IodReadReq). pointwise nat_eq r.header.ar_uuid related.0) (sym same) ∙ related.2)

  pub write_asks : (blocks : List ℕ) (write : Result (IodWriteReq × List ℕ) CallFault) → write_within standing blocks ≡ write
      → asking_write real named caller call write ≡ Ok (Some asking)
      → IsAskedBy standing caller call operation.Write asking
  unfolding write_within
  write_asks blocks (Err why) is e = absurd (asks_nothing asking e)
  write_asks blocks (Ok x) is e =
      let first = bind_ok (single_of kind.IodWriteReq blocks)
      (λ y. or_fault fault.BlockForm (in_iod_write_req y.0) >>= λ write. in_relation standing write.header.ar_uuid >>= λ _. Ok (write, y.1)) x is in
      let second = bind_ok (or_fault fault.BlockForm (in_iod_write_req first.0.0))
      (λ write. in_relation standing write.header.ar_uuid >>= λ _. Ok (write, first.0.1)) x first.2 in
      let third = bind_ok (in_relation standing second.0.header.ar_uuid) (λ _. Ok (second.0, first.0.1)) x second.2 in
      let same : second.0 ≡ x.0 = first_is second.0 first.0.1 x third.2 in
      let there = bind_ok (asked_write real named x.0 x.1)
      (λ (found : Option RecordName). Ok (option_map (λ (name : RecordName).
      (question_of caller call (wanted.Write x.0) name, take x.0.header.record_data_length x.1)) found))
      (Some asking) e in
      let related = named_is standing second.0.header.ar_uuid third.0 third.1 in
      found_as (wanted.Write x.0) (take x.0.header.record_data_length x.1) there.0 operation.Write there.2 refl
      (related.0, related.1, subst (λ (w : IodWriteReq). is_of_relation related.0 (wanted.Write w) ≡ true) same related.2)
