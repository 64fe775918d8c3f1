-- A turn of a device that has not ended the parameters of a relation yet.
use Rattle.std.proofs.Common.{◌≡◌, ◌⊎◌, inl, inr, ◌==◌, ◌&&◌, ◌+◌, ℕ, suc, Bool, true, false, nat_eq, List, [], ◌∷◌, ◌++◌, length, take, drop, map, zip, flat_map, Option, Some, None, option_map, Result, Ok, Err, if◌then◌else◌, refl, sym, ap, subst, ◌∙◌, arith}
use Rattle.std.proofs.lemmas.Bool.{and_from, cond-false, cond-true, cond_both}
use Rattle.std.proofs.lemmas.Bool.Decides.{nat_tests}
use Rattle.std.proofs.lemmas.List.{append-nil, map-append}
use Rattle.std.specs.Cmp.Lexicographic.{pointwise}
use Rattle.std.specs.List.{AllByRecursion, list_any}
use Rattle.std.specs.Prelude.{◌||◌, unwrap_or}
use Rattle.pn_values.specs.declared.mac.Mac.{Mac}
use Rattle.frame_codec.specs.declared.udp.Caller.{Caller}
use Rattle.frame_codec.specs.Sendable.{IsMac}
use Rattle.rpc_core.specs.Cache.{Kept, kept_of}
use Rattle.rpc_core.specs.Call.{Asked as Called}
use Rattle.rpc_core.specs.Response.{answer_to}
use Rattle.block_codec.specs.declared.block.Block.{Block}
use Rattle.block_codec.specs.Block.{block_bytes, block_size}
use Rattle.records.specs.declared.status.call_fault.CallFault.{CallFault}
use Rattle.records.specs.declared.status.operation.Operation.{Operation}
use Rattle.records.specs.declared.status.operation.Operation.TheVariants as operation
use Rattle.records.specs.declared.writes.taken.TakenRecord.{TakenRecord}
use Rattle.records.specs.status.Operation.{operation_of}
use Rattle.records.specs.status.Status.{status_of}
use Rattle.records.specs.writes.Answer.{number_of}
use Rattle.records.specs.writes.Asked.{writing_of}
use Rattle.relations.specs.declared.phase.Partner.{Partner}
use Rattle.relations.specs.declared.phase.Phase.{Phase}
use Rattle.relations.specs.declared.phase.Phase.TheVariants.{Awaiting, Exchanging, Preparing, Started}
use Rattle.relations.specs.Phases.{parameterized_from, phase_behind, restarted}
use Rattle.relations.specs.RelationState.{RelationState, uuid_of}
use Rattle.device_frames.specs.Heard.{Calls, Heard, Reported}
use Rattle.device_frames.specs.Sendable.{AreSendable}
use Rattle.device_frames.specs.Sent.{Sent, IdentifyAnswer, GetAnswer, SetAnswer, ArpReply, CallAnswer, Again, ReadyCall, PlugReadyCall, Ends, Exchanges, bytes_of}
use Rattle.asked_records.specs.Asked.{question_in}
use Rattle.asked_records.specs.declared.question.Question.{Question}
use Rattle.device_core.specs.State.{Live, Rest, Station}
use Rattle.device_core.specs.Handled.{answer_from, outcome_of}
use Rattle.controller_messages.specs.declared.setup.Setup.{Setup}
use Rattle.controller_messages.specs.Requests.{control_of, group_of, writing_blocks}
use Rattle.plans.specs.Connect.{ar_block}
use Rattle.end_laws.specs.both.Small as small
use Rattle.end_laws.specs.device.Does.{Connected, Does, Following, IsEffect, IsKeptOr, IsOther, IsRestarted, Parameterized, Plugging, Readying, Serves, readied_from}
use Rattle.end_laws.specs.device.Orderly.{IsOrderlyIn}
use Rattle.end_laws.specs.device.Small.{IsPlanned, IsPlannedAs, IsPlannedWrite, IsWritingOf, asked_by, heard_as, link_of, number_in, phase_in, written_by}
use Rattle.both_ends.specs.startup.View.{is_planned, rules_of, taken_for}
use Rattle.both_ends.proofs.StartupHeard.{IsKnownHeard, known_activity}
use Rattle.octets_law.specs.Octets.{Asking, Call, Nothing, Set, args_of, called, in_order, number, part, statuses, statuses_in}
use Rattle.octets_law.proofs.AnswerPlaces.{answer_statuses}
use Rattle.octets_law.proofs.CallPlaces.{name_for}
use Rattle.startup_octets.specs.StartUp.{Grants, IsIn, Turn, Written, asking_at, confirmed_by, is_granted, is_granted_of, is_of, names_at, parameters_by, repeats, sent_by}
use Rattle.startup_octets.proofs.Blocks.{IsBlockOf, connect_read, prm_end_read}
use Rattle.startup_octets.proofs.CallsIn.{IsCallIn, holds}
use Rattle.startup_octets.proofs.Exact.{IsExact, IsOfPlan, exact_of, planned_exact, written_of}
use Rattle.startup_octets.proofs.PlugEnds.{IsPlugEnd}
use Rattle.startup_octets.proofs.Frames.{IsNoAnswer, message_silent, messages_silent}
use Rattle.startup_octets.proofs.Lists.{IsBegun, IsTakenAt, begun_more, begun_now}
use Rattle.startup_octets.proofs.Taking.{AreNotDone, IsGrown, IsStarted, granted_in, granted_no, no_zero, same_grown}
use Rattle.startup_octets.proofs.Writes.{AreBlocksRead, IsFit, IsMeant, IsWriteEffect, write_adds}

-- ---- small facts

abbrev code : Operation → ℕ
code operation.Connect = 0
code operation.Release = 1
code operation.Read = 2
code operation.Write = 3
code operation.Control = 4
code operation.ReadImplicit = 5

equal : (n m : ℕ) → (n == m) ≡ true → n ≡ m
equal n m is = grind (arith, nat_tests)

same_operation : (one other : Operation) → Some one ≡ Some other → one ≡ other
same_operation one other e = cc

-- The number of an operation.
operation_number : (n : ℕ) (which : Operation) → operation_of n ≡ Some which → n ≡ code which
unfolding operation_of
operation_number n which =
    cond_both (n == 0) _ _ P (λ is e. at operation.Connect (equal n 0 is) e)
    (λ _. cond_both (n == 1) _ _ P (λ is e. at operation.Release (equal n 1 is) e)
    (λ _. cond_both (n == 2) _ _ P (λ is e. at operation.Read (equal n 2 is) e)
    (λ _. cond_both (n == 3) _ _ P (λ is e. at operation.Write (equal n 3 is) e)
    (λ _. cond_both (n == 4) _ _ P (λ is e. at operation.Control (equal n 4 is) e)
    (λ _. cond_both (n == 5) _ _ P (λ is e. at operation.ReadImplicit (equal n 5 is) e) (λ _ e. absurd cc))))))
  where
    P : Option Operation → Type 0
    P o = o ≡ Some which → n ≡ code which

    at : (one : Operation) → n ≡ code one → Some one ≡ Some which → n ≡ code which
    at one is e = is ∙ ap code (same_operation one which e)

abbrev no_status : List ℕ
no_status = []

zip_none : (records : List (Option Written)) → zip records no_status ≡ []
zip_none [] = refl
zip_none (one ∷ records) = refl

itself : (n : ℕ) → nat_eq n n ≡ true
itself n = grind (arith, nat_tests)

pub same_octets : (one : List ℕ) → pointwise nat_eq one one ≡ true
same_octets [] = refl
same_octets (a ∷ one) = and_from (nat_eq a a) (pointwise nat_eq one one) (itself a) (same_octets one)

-- Nothing is confirmed where no frame answers.
pub confirmed_none : (relation : List ℕ) (asking : Asking) (sent : List (List ℕ)) → ((call : List ℕ) → flat_map (statuses call) sent ≡ []) → confirmed_by relation asking sent ≡ []
confirmed_none relation (Call call) sent none =
    cond_both (is_of 3 0x0008 relation call) _ _ (λ (l : List Written). l ≡ []) (λ _. ap granted_in (ap (zip (parameters_by (args_of call))) (none call) ∙ zip_none (parameters_by (args_of call)))) (λ _. refl)
confirmed_none relation (Set frame) sent none = refl
confirmed_none relation Nothing sent none = refl

-- ---- an answer to a call

-- One frame answers the call, with these statuses; the others do not.
pub record IsAnsweredSo (call : List ℕ) (sent : List (List ℕ)) (status : ℕ) (more : List ℕ) : Type 0 where
  pub first : List ℕ
  pub others : List (List ℕ)
  pub parts : sent ≡ first ∷ others
  pub answers : statuses call first ≡ status ∷ more
  pub silent : AllByRecursion (λ frame. statuses call frame ≡ []) others

all_silent : (call : List ℕ) (frames : List (List ℕ)) → AllByRecursion (λ frame. statuses call frame ≡ []) frames → flat_map (statuses call) frames ≡ []
all_silent call [] all = refl
all_silent call (frame ∷ frames) all = ap (λ l. l ++ flat_map (statuses call) frames) all.0 ∙ all_silent call frames all.1

pub first_silent : (call : List ℕ) (frames : List (List ℕ)) → AllByRecursion (λ frame. statuses call frame ≡ []) frames → flat_map (λ frame. take 1 (statuses call frame)) frames ≡ []
first_silent call [] all = refl
first_silent call (frame ∷ frames) all = ap (λ l. take 1 l ++ flat_map (λ frame. take 1 (statuses call frame)) frames) all.0 ∙ first_silent call frames all.1

statuses_so : (call : List ℕ) (sent : List (List ℕ)) (status : ℕ) (more : List ℕ) → IsAnsweredSo call sent status more → flat_map (statuses call) sent ≡ status ∷ more
statuses_so call sent status more it =
    ap (flat_map (statuses call)) it.parts ∙ ap (λ l. l ++ flat_map (statuses call) it.others) it.answers
    ∙ ap (λ l. status ∷ (more ++ l)) (all_silent call it.others it.silent) ∙ ap (λ l. status ∷ l) (append-nil more)

granted_so : (call : List ℕ) (sent : List (List ℕ)) (more : List ℕ) → IsAnsweredSo call sent 0 more → is_granted call sent ≡ true
granted_so call sent more it =
    ap (λ l. pointwise nat_eq l (0 ∷ [])) (ap (flat_map (λ frame. take 1 (statuses call frame))) it.parts
    ∙ ap (λ l. take 1 l ++ flat_map (λ frame. take 1 (statuses call frame)) it.others) it.answers
    ∙ ap (λ l. 0 ∷ l) (first_silent call it.others it.silent))

-- What is confirmed of a Write that is answered with these statuses.
confirmed_so : (relation call : List ℕ) (sent : List (List ℕ)) (status : ℕ) (more : List ℕ) → IsAnsweredSo call sent status more → is_of 3 0x0008 relation call ≡ true
    → confirmed_by relation (Call call) sent ≡ granted_in (zip (parameters_by (args_of call)) (status ∷ more))
confirmed_so relation call sent status more it is =
    cond-true (is_of 3 0x0008 relation call) _ _ is ∙ ap (λ l. granted_in (zip (parameters_by (args_of call)) l)) (statuses_so call sent status more it)

refused_so : (relation call : List ℕ) (sent : List (List ℕ)) (status : ℕ) → IsAnsweredSo call sent status [] → (status == 0) ≡ false → confirmed_by relation (Call call) sent ≡ []
refused_so relation call sent status it other =
    cond_both (is_of 3 0x0008 relation call) _ _ (λ (l : List Written). l ≡ [])
    (λ _. ap (λ l. granted_in (zip (parameters_by (args_of call)) l)) (statuses_so call sent status [] it) ∙ by_records (parameters_by (args_of call))) (λ _. refl)
  where
    by_records : (records : List (Option Written)) → granted_in (zip records (status ∷ [])) ≡ []
    by_records [] = refl
    by_records (one ∷ records) = granted_no one status (zip records []) other ∙ ap granted_in (zip_none records)

other_call : (relation call : List ℕ) (sent : List (List ℕ)) (n : ℕ) → in_order 68 2 call ≡ n → (n == 3) ≡ false → confirmed_by relation (Call call) sent ≡ []
other_call relation call sent n is other =
    cond-false (is_of 3 0x0008 relation call) _ _ (ap (λ b. b && (number 0 2 (args_of call) == 0x0008 && pointwise nat_eq (part 8 16 (args_of call)) relation))
    (ap (λ m. m == 3) is ∙ other))

-- Whether the call is one of this operation, by its blocks.
pub of_call : (relation call blocks : List ℕ) (op type : ℕ) → in_order 68 2 call ≡ op → args_of call ≡ blocks → IsBlockOf type relation blocks → is_of op type relation call ≡ true
of_call relation call blocks op type operated args it =
    and_from (in_order 68 2 call == op) _ (holds _ op operated)
    (and_from (number 0 2 (args_of call) == type) _ (holds _ type (ap (number 0 2) args ∙ it.type_is))
    (ap (λ l. pointwise nat_eq l relation) (ap (part 8 16) args ∙ it.relation_is) ∙ same_octets relation))

-- ---- a turn

-- The relation is not there, or its parameters are written: the Connect was granted, and these records were accepted.
abbrev pub IsEarly : Mac → List ℕ → List Turn → Option RelationState → Type 0
IsEarly mac relation turns None = Unit {0}
IsEarly mac relation turns (Some link) = (link.phase ≡ Started) × IsBegun mac relation turns (map written_of link.taken)

-- The parameters end with this turn.
pub record IsEnding (mac : Mac) (relation : List ℕ) (turns : List Turn) (turn : Turn) (after : Option RelationState) : Type 0 where
  pub link : RelationState
  pub is : after ≡ Some link
  pub waits : phase_in link.phase ≡ small.Awaiting
  pub begun : IsBegun mac relation turns (map written_of link.taken)
  pub grants : Grants mac 4 0x0110 relation turn

started_early : (mac : Mac) (relation : List ℕ) (turns : List Turn) (link : Option RelationState) → IsEarly mac relation turns link → IsStarted link
started_early mac relation turns None early = tt
started_early mac relation turns (Some link) early = early.0

pub early_grown : (mac : Mac) (relation : List ℕ) (turns : List Turn) (turn : Turn) (before after : Option RelationState) (now : List TakenRecord) → IsEarly mac relation turns before
    → IsGrown before after now → IsTakenAt mac relation turns turn (map written_of now) → IsEarly mac relation (turns ++ turn ∷ []) after
early_grown mac relation turns turn None after now early grown at = subst (IsEarly mac relation (turns ++ turn ∷ [])) (sym grown.0) tt
early_grown mac relation turns turn (Some link) after now early grown at =
    subst (IsEarly mac relation (turns ++ turn ∷ [])) (sym grown.1) (
      grown.2 ∙ early.0,
      subst (λ (l : List Written). IsBegun mac relation (turns ++ turn ∷ []) l) (sym (map-append written_of link.taken now) ∙ ap (map written_of) (sym grown.4))
          (begun_more mac relation turns turn (map written_of link.taken) (map written_of now) early.1 at),
    )

pub early_same : (mac : Mac) (relation : List ℕ) (turns : List Turn) (turn : Turn) (link : Option RelationState) → IsEarly mac relation turns link → IsTakenAt mac relation turns turn []
    → IsEarly mac relation (turns ++ turn ∷ []) link
early_same mac relation turns turn link early at = early_grown mac relation turns turn link link [] early (same_grown link) at

-- The relation as a start-up sees it is the same, or it has ended.
started_in : (phase other : Phase) → phase_in other ≡ phase_in phase → phase ≡ Started → other ≡ Started
started_in phase Started same is = refl
started_in phase Preparing same is = let e = same ∙ ap phase_in is in absurd cc
started_in phase Awaiting same is = let e = same ∙ ap phase_in is in absurd cc
started_in phase Exchanging same is = let e = same ∙ ap phase_in is in absurd cc

some_small : (one other : RelationState) → Some (link_of one) ≡ Some (link_of other) → link_of one ≡ link_of other
some_small one other e = cc

pub early_seen : (mac : Mac) (relation : List ℕ) (turns : List Turn) (turn : Turn) (before after : Option RelationState) → IsEarly mac relation turns before
    → (option_map link_of after ≡ option_map link_of before) ⊎ (option_map link_of after ≡ None) → IsTakenAt mac relation turns turn [] → IsEarly mac relation (turns ++ turn ∷ []) after
early_seen mac relation turns turn before None early seen at = tt
early_seen mac relation turns turn before (Some next) early (inr gone) at = absurd cc
early_seen mac relation turns turn None (Some next) early (inl same) at = absurd cc
early_seen mac relation turns turn (Some link) (Some next) early (inl same) at =
    let e = some_small next link same in
    let taken : next.taken ≡ link.taken = ap (λ (l : small.RelationState TakenRecord _). l.taken) e in
    let begun = (early_same mac relation turns turn (Some link) early at).1 in (
      started_in link.phase next.phase (ap (λ (l : small.RelationState TakenRecord _). l.phase) e) early.0,
      subst (λ (l : List TakenRecord). IsBegun mac relation (turns ++ turn ∷ []) (map written_of l)) (sym taken) begun,
    )

-- It forgets none of its records while its parameters are written.
early_kept : (mac : Mac) (relation : List ℕ) (turns : List Turn) (turn : Turn) (before after : Option RelationState) → IsEarly mac relation turns before
    → IsOrderlyIn before → IsKeptOr before after → IsTakenAt mac relation turns turn [] → IsEarly mac relation (turns ++ turn ∷ []) after
early_kept mac relation turns turn before after early orderly (inl same) at = early_seen mac relation turns turn before after early (inl same) at
early_kept mac relation turns turn before after early orderly (inr (inl gone)) at = early_seen mac relation turns turn before after early (inr gone) at
early_kept mac relation turns turn before after early orderly (inr (inr forgets)) at =
    let begun = subst (IsEarly mac relation turns) forgets.was early in
    let exchanges = forgets.exchanges (subst IsOrderlyIn forgets.was orderly) in
    absurd (let e = sym begun.0 ∙ exchanges in cc)

restarted_grown : (source : Partner) (link : Option RelationState) → IsGrown link (option_map (restarted source) link) []
restarted_grown source None = (refl, refl)
restarted_grown source (Some link) = (restarted source link, refl, refl, refl, sym (append-nil link.taken))

-- ---- a turn

no_answers : (live : Live) (after : Option RelationState) (messages : List Sent) → AllByRecursion (IsOther live after) messages → AllByRecursion IsNoAnswer messages
no_answers live after [] all = tt
no_answers live after (message ∷ messages) all = (one_other message all.0, no_answers live after messages all.1)
  where
    one_other : (message : Sent) → IsOther live after message → IsNoAnswer message
    one_other (CallAnswer caller address answer) other = other
    one_other (Again frame) other = other
    one_other (IdentifyAnswer asker running xid) other = tt
    one_other (GetAnswer asker running alias request) other = tt
    one_other (SetAnswer asker request answers) other = tt
    one_other (ArpReply asker address target) other = tt
    one_other (ReadyCall address ready) other = tt
    one_other (PlugReadyCall address ready) other = tt
    one_other (Ends farewell) other = tt
    one_other (Exchanges route frame) other = tt

module _ (undone : AreNotDone) (blocks_read : AreBlocksRead) (long : (block : Block) → length (block_bytes block) ≡ block_size block) (setup : Setup) (station : Station) (fit : IsFit setup)
    (own : IsMac station.identity.mac) (live : Live) (heard : Heard) (rest : Rest) (sent : List Sent) (turns : List Turn) (turn : Turn) (at : turn.at_device ≡ true)
    (frames : turn.sent ≡ map (bytes_of station.identity) sent) (sendable : AreSendable station.identity sent) where
  abbrev mac : Mac
  mac = station.identity.mac

  abbrev relation : List ℕ
  relation = setup.ar

  -- What the turn accepts.
  taken_by : (now : List Written) → now ≡ confirmed_by relation (asking_at mac turn) turn.sent → IsTakenAt mac relation turns turn now
  taken_by now is = inl (is ∙ ap (λ b. confirmed_by relation (asking_at mac turn) (if b then turn.sent else [])) (sym at))

  taken_none : AllByRecursion IsNoAnswer sent → IsTakenAt mac relation turns turn []
  taken_none silent =
      taken_by [] (sym (confirmed_none relation (asking_at mac turn) turn.sent
      (λ asked. ap (flat_map (statuses asked)) frames ∙ messages_silent station.identity asked sent own sendable silent)))

  abbrev IsNext : Type 0
  IsNext = IsEarly mac relation (turns ++ turn ∷ []) rest.link ⊎ IsEnding mac relation turns turn rest.link

  -- ---- a call that is answered

  readied_silent : (asked : List ℕ) (address : List ℕ) (ready : Option Following) → AreSendable station.identity (readied_from address ready)
      → AllByRecursion (λ frame. statuses asked frame ≡ []) (map (bytes_of station.identity) (readied_from address ready))
  readied_silent asked address None can = tt
  readied_silent asked address (Some (Readying ready)) can = (message_silent station.identity asked (ReadyCall address ready) own can.0 tt, tt)
  readied_silent asked address (Some (Plugging ready)) can = (message_silent station.identity asked (PlugReadyCall address ready) own can.0 tt, tt)

  answered_so : (it : Serves station live heard rest sent) (call : IsCallIn mac turn.came it.call)
      → IsAnsweredSo call.octets turn.sent (number_of (outcome_of it.which it.outcome).0) (statuses_in 16 (drop 64 (outcome_of it.which it.outcome).1))
  answered_so it call =
      let address : List ℕ = live.values.running.suite.address in
      let came = outcome_of it.which it.outcome in
      let can = subst (AreSendable station.identity) it.sends sendable in
      record {
        first = bytes_of station.identity (answer_from address it.caller it.call it.which it.outcome);
        others = map (bytes_of station.identity) (readied_from address it.ready);
        parts = frames ∙ ap (map (bytes_of station.identity)) it.sends;
        answers = answer_statuses station.identity it.caller address (answer_to it.call came.0 came.1) call.octets can.0 call.read.name;
        silent = readied_silent call.octets address it.ready can.1;
      }

  module _ (early : IsEarly mac relation turns live.rest.link) (orderly : IsOrderlyIn live.rest.link) (caller : Caller) (address : List ℕ) (asked : Called) (is_heard : heard ≡ Reported caller address (Calls asked))
      (call : IsCallIn mac turn.came asked) (blocks : List ℕ) (counted : asked.blocks ≡ Some blocks)
      (came : (sequence : ℕ) (ask : small.Ask) → heard_as (is_planned setup) heard ≡ small.Call sequence ask → IsIn turn.came (sent_by false turns))
      (no_access : (sequence : ℕ) → heard_as (is_planned setup) heard ≡ small.Call sequence small.Accesses → ⊥)
      (planned : operation_of asked.header.operation ≡ Some operation.Write → is_planned setup asked.header.sequence blocks ≡ true
      → IsPlannedWrite (rules_of setup station) station.named live.rest.real blocks) where
    asking_is : asking_at mac turn ≡ Call call.octets
    asking_is = call.asks

    args_are : args_of call.octets ≡ blocks
    args_are = call.read.blocks blocks counted

    heard_is : (which : Operation) → operation_of asked.header.operation ≡ Some which → heard_as (is_planned setup) heard ≡ asked_by (is_planned setup) asked.header.sequence blocks (Some which)
    heard_is which asks =
        ap (heard_as (is_planned setup)) is_heard
        ∙ ap (λ (l : Option (List ℕ)). asked_by (is_planned setup) asked.header.sequence (unwrap_or l []) (operation_of asked.header.operation)) counted
        ∙ ap (asked_by (is_planned setup) asked.header.sequence blocks) asks

    of_it : (which : Operation) → operation_of asked.header.operation ≡ Some which → (type : ℕ) → IsBlockOf type relation blocks → is_of (code which) type relation call.octets ≡ true
    of_it which asks type block = of_call relation call.octets blocks (code which) type (call.read.operation ∙ operation_number asked.header.operation which asks) args_are block

    grants_it : (which : Operation) → operation_of asked.header.operation ≡ Some which → (type : ℕ) → IsBlockOf type relation blocks → (more : List ℕ) → IsAnsweredSo call.octets turn.sent 0 more
        → Grants mac (code which) type relation turn
    grants_it which asks type block more answered =
        (at, ap (λ a. is_granted_of (code which) type relation a turn.sent) asking_is ∙ and_from _ _ (of_it which asks type block) (granted_so call.octets turn.sent more answered))

    refused : (status : ℕ) → IsAnsweredSo call.octets turn.sent status [] → (status == 0) ≡ false → IsTakenAt mac relation turns turn []
    refused status answered other = taken_by [] (sym (ap (λ a. confirmed_by relation a turn.sent) asking_is ∙ refused_so relation call.octets turn.sent status answered other))

    other_operation : (which : Operation) → operation_of asked.header.operation ≡ Some which → (code which == 3) ≡ false → IsTakenAt mac relation turns turn []
    other_operation which asks other =
        taken_by [] (sym (ap (λ a. confirmed_by relation a turn.sent) asking_is
        ∙ other_call relation call.octets turn.sent (code which) (call.read.operation ∙ operation_number asked.header.operation which asks) other))

    -- The Writes of the plan, and what they ask for.
    meant_writes : operation_of asked.header.operation ≡ Some operation.Write → (plan : IsOfPlan setup blocks) → is_planned setup asked.header.sequence blocks ≡ true
        → IsMeant undone blocks_read long setup station live.rest.real fit plan.number plan.listed live.rest.link (writing_blocks setup plan.number)
    meant_writes asks plan is writing e =
        subst (λ (n : ℕ). IsWritingOf (rules_of setup station) station.named live.rest.real (uuid_of live.rest.link) (suc n) (map taken_for (group_of setup.plan n)) writing)
        plan.numbered
        ((planned asks is).keeps (uuid_of live.rest.link) writing (ap (writing_of (uuid_of live.rest.link) live.rest.real) plan.is ∙ e))

    written : (octets : List ℕ) → operation_of asked.header.operation ≡ Some operation.Write → IsAnsweredSo call.octets turn.sent 0 (statuses_in 16 (drop 64 octets))
        → IsWriteEffect station.named live.rest.real blocks octets live.rest.link rest.link → (b : Bool) → is_planned setup asked.header.sequence blocks ≡ b → IsEarly mac relation (turns ++ turn ∷ []) rest.link
    written octets asks answered effect false is =
        absurd (no_access asked.header.sequence (heard_is operation.Write asks ∙ ap (λ (b : Bool). written_by b asked.header.sequence (number_in blocks)) is))
    written octets asks answered effect true is =
        let plan = planned_exact setup asked.header.sequence blocks is in
        let adds = write_adds undone blocks_read long setup station live.rest.real fit plan.number plan.listed octets live.rest.link rest.link (started_early mac relation turns live.rest.link early)
        (meant_writes asks plan is) (subst (λ (l : List ℕ). IsWriteEffect station.named live.rest.real l octets live.rest.link rest.link) plan.is effect) in
        early_grown mac relation turns turn live.rest.link rest.link adds.now early adds.grown
        (taken_by (map written_of adds.now) (sym (ap (λ a. confirmed_by relation a turn.sent) asking_is
        ∙ confirmed_so relation call.octets turn.sent 0 (statuses_in 16 (drop 64 octets)) answered
        (of_it operation.Write asks 0x0008 (subst (IsBlockOf 0x0008 relation) (sym plan.is) adds.block))
        ∙ ap (λ l. granted_in (zip (parameters_by l) (0 ∷ statuses_in 16 (drop 64 octets)))) (args_are ∙ plan.is)
        ∙ adds.granted)))

    awaits_behind : (by_application : Bool) → phase_in (phase_behind by_application) ≡ small.Awaiting
    awaits_behind true = refl
    awaits_behind false = refl

    ended : operation_of asked.header.operation ≡ Some operation.Control → IsExact setup asked.header.sequence operation.Control blocks → (more : List ℕ) → IsAnsweredSo call.octets turn.sent 0 more
        → Parameterized live.rest.link rest.link → IsEnding mac relation turns turn rest.link
    ended asks exact more answered it =
        let begun = subst (IsEarly mac relation turns) it.was early in
        record {
          link = restarted it.source (parameterized_from it.by_application it.link);
          is = it.becomes;
          waits = awaits_behind it.by_application;
          begun = begun.1;
          grants = grants_it operation.Control asks 0x0110 (subst (IsBlockOf 0x0110 relation) (sym exact) (prm_end_read (control_of setup 1) fit.named)) more answered;
        }

    connected : operation_of asked.header.operation ≡ Some operation.Connect → IsExact setup asked.header.sequence operation.Connect blocks → (octets : List ℕ) → (more : List ℕ)
        → IsAnsweredSo call.octets turn.sent 0 more → Connected station live.rest.real caller blocks octets live.rest.link rest.link → IsEarly mac relation (turns ++ turn ∷ []) rest.link
    connected asks exact octets more answered it =
        subst (IsEarly mac relation (turns ++ turn ∷ [])) (sym it.made) (
          refl,
          begun_now mac relation turns turn
              (grants_it operation.Connect asks 0x0101 (subst (IsBlockOf 0x0101 relation) (sym exact) (connect_read (ar_block setup.plan setup.ar) _ fit.named)) more answered)
              (came asked.header.sequence small.Connects (heard_is operation.Connect asks)),
        )

    restarts : (which : Operation) → operation_of asked.header.operation ≡ Some which → (code which == 3) ≡ false → IsRestarted live.rest.link rest.link
        → IsEarly mac relation (turns ++ turn ∷ []) rest.link
    restarts which asks other it =
        early_grown mac relation turns turn live.rest.link rest.link [] early (subst (λ (a : Option RelationState). IsGrown live.rest.link a []) (sym it.1) (restarted_grown it.0 live.rest.link))
        (other_operation which asks other)

    -- By the outcome and the operation.
    by_outcome : (outcome : Result (List ℕ) CallFault) (which : Operation) → operation_of asked.header.operation ≡ Some which → IsExact setup asked.header.sequence which blocks
        → IsAnsweredSo call.octets turn.sent (number_of (outcome_of which outcome).0) (statuses_in 16 (drop 64 (outcome_of which outcome).1))
        → IsEffect station live.rest.real caller blocks outcome which live.rest.link rest.link → IsNext
    by_outcome (Err fault) which asks exact answered effect =
        inl (subst (IsEarly mac relation (turns ++ turn ∷ [])) (sym effect)
        (early_same mac relation turns turn live.rest.link early (refused (number_of (status_of which fault)) answered (no_zero (status_of which fault) (undone which fault)))))
    by_outcome (Ok octets) operation.Connect asks exact answered effect = inl (connected asks exact octets _ answered effect)
    by_outcome (Ok octets) operation.Write asks exact answered effect = inl (written octets asks answered effect (is_planned setup asked.header.sequence blocks) refl)
    by_outcome (Ok octets) operation.Control asks exact answered (inl effect) = inr (ended asks exact _ answered effect)
    by_outcome (Ok octets) operation.Control asks exact answered (inr effect) =
        let begun = subst (IsEarly mac relation turns) effect.was early in
        let exchanges = effect.exchanges (subst IsOrderlyIn effect.was orderly) in
        absurd (let e = sym begun.0 ∙ exchanges in cc)
    by_outcome (Ok octets) operation.Release asks exact answered effect = inl (subst (IsEarly mac relation (turns ++ turn ∷ [])) (sym effect.gone) tt)
    by_outcome (Ok octets) operation.Read asks exact answered effect = inl (restarts operation.Read asks refl effect)
    by_outcome (Ok octets) operation.ReadImplicit asks exact answered effect = absurd effect

  -- ---- any turn

  same_octets_are : (one other : List ℕ) → one ≡ other → pointwise nat_eq one other ≡ true
  same_octets_are one other is = subst (λ l. pointwise nat_eq one l ≡ true) is (same_octets one)

  or_first : (b c : Bool) → b ≡ true → b || c ≡ true
  or_first b c is = ap (λ x. x || c) is

  some_blocks : (one other : List ℕ) → Some one ≡ Some other → one ≡ other
  some_blocks one other e = cc

  is_asked : (question : Question) → ◌≡◌ {A = Option Question} None (Some question) → ⊥
  is_asked question e = cc

  pub device_turn : IsEarly mac relation turns live.rest.link → IsOrderlyIn live.rest.link → IsKnownHeard setup heard → IsPlanned (rules_of setup station) setup.activity station.named live.rest.real heard
      → ((caller : Caller) (address : List ℕ) (call : Called) → heard ≡ Reported caller address (Calls call) → IsCallIn mac turn.came call)
      → ((sequence : ℕ) (ask : small.Ask) → heard_as (is_planned setup) heard ≡ small.Call sequence ask → IsIn turn.came (sent_by false turns))
      → ((sequence : ℕ) → heard_as (is_planned setup) heard ≡ small.Call sequence small.Accesses → ⊥)
      → ((caller : Caller) (address : List ℕ) (call : Called) → heard ≡ Reported caller address (Calls call) → IsPlugEnd setup call → ⊥)
      → question_in live.rest.asked ≡ None
      → ((kept : Kept) → kept_of setup.activity live.rest.calls ≡ Some kept → list_any (pointwise nat_eq (name_for setup.activity kept.sequence)) (names_at mac turns) ≡ true)
      → Does station live heard rest sent → IsNext
  device_turn early orderly known planned flat came no_access no_end unasked named (inl it) =
      inl (subst (λ (r : Rest). IsEarly mac relation (turns ++ turn ∷ []) r.link) (sym it.same)
      (early_same mac relation turns turn live.rest.link early (taken_none (subst (AllByRecursion IsNoAnswer) (sym it.silent) tt))))
  device_turn early orderly known planned flat came no_access no_end unasked named (inr (inl it)) =
      inl (early_kept mac relation turns turn live.rest.link rest.link early orderly it.link (taken_none (no_answers live rest.link sent it.others)))
  device_turn early orderly known planned flat came no_access no_end unasked named (inr (inr (inl it))) =
      let begun = subst (IsEarly mac relation turns) it.was early in
      absurd (let e = sym begun.0 ∙ it.awaits in cc)
  device_turn early orderly known planned flat came no_access no_end unasked named (inr (inr (inr (inl it)))) =
      let call = flat it.caller it.address it.call it.is in
      let activity : it.call.header.activity ≡ setup.activity = known_activity setup it.caller it.call (subst (λ (h : Heard). IsKnownHeard setup h) it.is known) in
      let name : called call.octets ≡ name_for setup.activity it.kept.sequence =
      call.read.name ∙ ap (λ a. name_for a it.call.header.sequence) activity ∙ ap (name_for setup.activity) (sym it.number) in
      let there = named it.kept (ap (λ a. kept_of a live.rest.calls) (sym activity) ∙ it.there) in
      inl (subst (λ (r : Rest). IsEarly mac relation (turns ++ turn ∷ []) r.link) (sym it.same)
      (early_same mac relation turns turn live.rest.link early
      (inr (
        ap (λ a. repeats a (names_at mac turns)) call.asks
            ∙ or_first (list_any (pointwise nat_eq (called call.octets)) (names_at mac turns)) false (ap (λ n. list_any (pointwise nat_eq n) (names_at mac turns)) name ∙ there),
        refl,
      ))))
  device_turn early orderly known planned flat came no_access no_end unasked named (inr (inr (inr (inr (inl it))))) =
      let call = flat it.caller it.address it.call it.is in
      let plan = subst (λ (h : Heard). IsPlanned (rules_of setup station) setup.activity station.named live.rest.real h) it.is planned in
      let same : plan.blocks ≡ it.blocks = some_blocks plan.blocks it.blocks (sym plan.counted ∙ it.counted) in
      by_outcome early orderly it.caller it.address it.call it.is call it.blocks it.counted came no_access
      (λ asks is. subst (IsPlannedAs (rules_of setup station) station.named live.rest.real it.call.header.sequence it.blocks) asks
      (subst (λ (l : List ℕ). IsPlannedAs (rules_of setup station) station.named live.rest.real it.call.header.sequence l (operation_of it.call.header.operation)) same plan.asks) is)
      it.outcome it.which it.asks
      (exact_of setup it.caller it.call (subst (λ (h : Heard). IsKnownHeard setup h) it.is known) (no_end it.caller it.address it.call it.is) it.which it.asks it.blocks it.counted)
      (answered_so it call) it.effect
  device_turn early orderly known planned flat came no_access no_end unasked named (inr (inr (inr (inr (inr (inl it)))))) =
      inl (subst (λ (r : Rest). IsEarly mac relation (turns ++ turn ∷ []) r.link) (sym it.becomes)
      (early_same mac relation turns turn live.rest.link early (taken_none (subst (AllByRecursion IsNoAnswer) (sym it.silent) tt))))
  device_turn early orderly known planned flat came no_access no_end unasked named (inr (inr (inr (inr (inr (inr (inl it))))))) =
      absurd (is_asked it.other (sym unasked ∙ it.busy))
  device_turn early orderly known planned flat came no_access no_end unasked named (inr (inr (inr (inr (inr (inr (inr (inl it)))))))) =
      absurd (is_asked it.question (sym unasked ∙ it.asked))
  device_turn early orderly known planned flat came no_access no_end unasked named (inr (inr (inr (inr (inr (inr (inr (inr it)))))))) =
      absurd (is_asked it.question (sym unasked ∙ it.asked))
