-- Each turn of a device, as far as a start-up is concerned: drawn from what the turn does.
use Rattle.std.proofs.Common.{◌≡◌, ◌⊎◌, inl, inr, ◌<◌, ◌==◌, ℕ, suc, Bool, true, false, cond, List, [], ◌∷◌, ◌++◌, map, take, Option, Some, None, option_map, Result, Ok, Err, refl, sym, ap, subst, ◌∙◌, append-nil, arith}
use Rattle.std.proofs.lemmas.List.{map-append}
use Rattle.std.specs.Prelude.{◌&&◌, nat_lt, nat_eq, unwrap_or}
use Rattle.std.specs.List.{AllByRecursion}
use Rattle.std.specs.Cmp.Lexicographic.{pointwise, other_text}
use Rattle.std.proofs.lemmas.Bool.{false≢true, eq-eqb, ltb-true, ltb-false}
use Rattle.frame_codec.specs.declared.udp.Caller.{Caller}
use Rattle.rpc_core.specs.Cache.{Kept as Answer, new, again, old, kept_of, reported_by, looked, without, kept_more}
use Rattle.rpc_core.specs.Call.{Asked as Call}
use Rattle.rpc_core.specs.Response.{answer_to, is_done}
use Rattle.rpc_core.specs.declared.header.CallHeader.{CallHeader}
use Rattle.records.specs.declared.status.call_fault.CallFault.{CallFault}
use Rattle.records.specs.declared.status.operation.Operation.{Operation}
use Rattle.records.specs.declared.status.operation.Operation.TheVariants as operation
use Rattle.records.specs.status.Operation.{operation_of}
use Rattle.records.specs.status.Status.{status_of}
use Rattle.connects.specs.requests.Request.{Request}
use Rattle.records.specs.declared.writes.taken.TakenRecord.{TakenRecord}
use Rattle.records.specs.declared.writes.write.Effect.TheVariants.{Stores, Keeps}
use Rattle.records.specs.declared.writes.writing.Writing.TheVariants.{One, Each}
use Rattle.record_blocks.specs.declared.write_record.IodWriteReq.{IodWriteReq}
use Rattle.asked_records.specs.Answers.{unanswered_status}
use Rattle.asked_records.specs.Asked.{AskedState, question_in}
use Rattle.asked_records.specs.Judging.{asked_name, asked_write, write_found}
use Rattle.asked_records.specs.Questions.{call_of, is_implicit, operation_of as operation_asked}
use Rattle.asked_records.specs.declared.names.RecordName.{RecordName}
use Rattle.asked_records.specs.declared.question.Question.{Question}
use Rattle.asked_records.specs.declared.question.Request.{Request as Wanted}
use Rattle.asked_records.specs.declared.question.Request.TheVariants as wanted
use Rattle.asked_records.specs.declared.status.Unanswered.TheVariants.{Busy}
use Rattle.relations.specs.declared.ready.Ready.{Ready}
use Rattle.relations.specs.declared.phase.Partner.{Partner}
use Rattle.relations.specs.declared.phase.Phase.{Phase}
use Rattle.relations.specs.declared.phase.Phase.TheVariants.{Started, Preparing, Awaiting, Exchanging}
use Rattle.relations.specs.Passed.{PassedOn}
use Rattle.relations.specs.RelationState.{RelationState, is_exchanging, passes_on, uuid_of}
use Rattle.pn_values.specs.declared.im_value.ImValue.{ImValue}
use Rattle.device_frames.specs.Heard.{Heard, Reported, Calls}
use Rattle.device_frames.specs.Sent.{Sent, CallAnswer, Again, Exchanges, ReadyCall, PlugReadyCall, bytes_of}
use Rattle.settings_journal.specs.settings_store.Machine.{Outcome}
use Rattle.device_core.specs.State.{Station, Rest, Live}
use Rattle.device_core.specs.Machine.{handled_step, heard_step, statuses_of}
use Rattle.device_core.specs.Several.{judged_each}
use Rattle.device_core.specs.Asking.{Asking, asking_of, asking_write, kept_reply, question_of, reply_to, write_within}
use Rattle.device_core.specs.Handled.{outcome_of, answer_from, kept_for}
use Rattle.end_laws.specs.both.Small as small
use Rattle.end_laws.specs.both.Small.{Rules, ToDevice, reply_of}
use Rattle.end_laws.specs.both.Steps.{IsNew, IsSameOrNone, Carries, Comes, ComesBy, Succeeds, Written as SmallWritten, Forgets, GoesBy as SmallGoesBy, PassesOn, TakesAny, TakesRecords, SaysAtMost, IsReady, IsDull, DeviceSteps}
use Rattle.relations.specs.Phases.{Named, parameterized_from, restarted, updated}
use Rattle.end_laws.specs.device.Small.{AreDone, IsAskedOwn, Planned, asked_in, phase_in, link_of, kept_in, small_of, written_by, asked_by, heard_as, number_in, IsPlannedAs, IsPlannedCall, IsPlanned, IsHeardAs, IsWritingOf}
use Rattle.end_laws.specs.device.Does.{AreReadied, Confirms, Declines, Does, busy_answer, Following, GoesBy, IsEffect, IsExchange, IsKeptOr, IsOther, IsReadied, IsUncalled, Plugging, Questions, Readying, Repeats, Replies, Rests, Serves, Stored, Written, WrittenEach, readied_from, with_more}
use Rattle.end_laws.specs.device.Orderly.{IsOrderlyIn}
use Rattle.end_laws.specs.device.Owed.{IsAskedLater, IsAsking}
use Rattle.end_laws.proofs.BothKept.{carries_some}
use Rattle.end_laws.proofs.DeviceLists.{TakesOf, each_undone, keeps_take, none_listed, outcomes_are}
use Rattle.end_laws.proofs.DeviceOwing.{bind_ok, same_request}
use Rattle.end_laws.proofs.DeviceWalk.{keeping_is}

some_is : {A : Type 0} (x y : A) → Some x ≡ Some y → x ≡ y
some_is x y e = cc

each_parts : (P : Sent → Type 0) (sent more : List Sent) → AllByRecursion P (sent ++ more) → AllByRecursion P sent × AllByRecursion P more
each_parts P [] more all = (tt, all)
each_parts P (message ∷ sent) more all = let there = each_parts P sent more all.1 in ((all.0, there.0), there.1)

-- ---- the response that is stored

new_is : (sequence : ℕ) (kept : Option Answer) → reported_by sequence kept ≡ new → IsNew sequence (option_map kept_in kept)
new_is sequence None e = tt
new_is sequence (Some kept) e = by_same (sequence == kept.sequence) refl e
  where
    by_order : (b : Bool) → nat_lt sequence kept.sequence ≡ b → (sequence == kept.sequence) ≡ false → cond b old new ≡ new → kept.sequence < sequence
    by_order true f g h = absurd cc
    by_order false f g h = by_both (nat_lt kept.sequence sequence) refl
      where
        by_both : (b : Bool) → nat_lt kept.sequence sequence ≡ b → kept.sequence < sequence
        by_both true t = ltb-true kept.sequence sequence t
        by_both false t = absurd (false≢true (sym g ∙ eq-eqb sequence kept.sequence (omega (arith, ltb-false kept.sequence sequence t, ltb-false sequence kept.sequence f))))

    by_same : (b : Bool) → (sequence == kept.sequence) ≡ b → cond b (again kept.frame) (cond (nat_lt sequence kept.sequence) old new) ≡ new → kept.sequence < sequence
    by_same true f g = absurd cc
    by_same false f g = by_order (nat_lt sequence kept.sequence) refl f g

-- the response of an activity is the one that was stored last
kept_last : (activity : List ℕ) (kept : Answer) (calls : List Answer) → kept.activity ≡ activity → kept_of activity (kept_more 4 kept calls) ≡ Some kept
kept_last activity kept calls own = by_name (pointwise nat_eq kept.activity activity) refl
  where
    by_name : (b : Bool) → pointwise nat_eq kept.activity activity ≡ b → cond b (Some kept) (kept_of activity (take 3 (without kept.activity calls))) ≡ Some kept
    by_name true e = refl
    by_name false e = absurd (other_text kept.activity activity (sym e) own)

-- the law of statuses, from the crate below
abbrev pub RefusalsAreNotDone : Type 0
RefusalsAreNotDone = (operation : Operation) (fault : CallFault) → is_done (status_of operation fault) ≡ false

-- ---- the calls of a start-up

-- the request of a Write, by whether it is one of the start-up
abbrev written_ask : Bool → ℕ → small.Ask
written_ask true number = small.Writes number
written_ask false number = small.Accesses

written_call : (b : Bool) (sequence number : ℕ) → written_by b sequence number ≡ small.Call sequence (written_ask b number)
written_call true sequence number = refl
written_call false sequence number = refl

-- the request of a call, if it is one of the start-up or of the application
abbrev ask_of : Planned → ℕ → List ℕ → Option Operation → small.Ask
ask_of planned sequence blocks (Some operation.Connect) = small.Connects
ask_of planned sequence blocks (Some operation.Write) = written_ask (planned sequence blocks) (number_in blocks)
ask_of planned sequence blocks (Some operation.Control) = small.Parameterized
ask_of planned sequence blocks (Some operation.Read) = small.Accesses
ask_of planned sequence blocks _ = small.Releases

-- ---- turns

module _ (refusals_are_not_done : RefusalsAreNotDone) (rules : Rules TakenRecord Request) (activity : List ℕ) (station : Station) (live : Live)
    (orderly : IsOrderlyIn live.rest.link)
    (own : IsAskedOwn activity live.rest.asked) where
  abbrev small_in : Rest → small.Device TakenRecord Request
  small_in rest = record { kept = option_map kept_in (kept_of activity rest.calls); link = option_map link_of rest.link; asked = asked_in rest.asked }

  abbrev AreHeard : List Sent → Type 0
  AreHeard sent = AllByRecursion (IsHeardAs rules station.identity) sent

  abbrev frames_of : List Sent → List (List ℕ)
  frames_of sent = map (bytes_of station.identity) sent

  -- a step, which hears this
  abbrev Goes : ToDevice → Rest → List Sent → Type 0
  Goes heard after sent = DeviceSteps rules heard (small_in live.rest) (small_in after) (frames_of sent)

  rests_steps : (heard : ToDevice) → Goes heard live.rest []
  rests_steps (small.Call sequence ask) = inr (inr (inl (refl, refl)))
  rests_steps small.Confirms = inr (record { keeps = refl; link = inl refl; sent = tt; asked = inl refl })
  rests_steps small.Idle = inl (record { keeps = refl; link = inl refl; sent = tt; asked = inl refl })

  -- ---- what is asked

  -- the sequence number of what is asked
  abbrev number_of : Option Question → Option ℕ
  number_of question = option_map (λ (q : Question). q.header.sequence) question

  still_asked : (before after : AskedState) → IsSameOrNone (question_in before) (question_in after) → IsSameOrNone (asked_in before) (asked_in after)
  still_asked before after (inl same) = inl (ap number_of same)
  still_asked before after (inr none) = inr (ap number_of none)

  -- ---- messages

  one_ready : (after : Rest) (address : List ℕ) (ready : Ready) → IsReadied live after.link ready → IsHeardAs rules station.identity (ReadyCall address ready)
      → IsReady rules (small_in after) (bytes_of station.identity (ReadyCall address ready))
  one_ready after address ready readied heard = record {
    to_device = heard.0;
    to_controller = heard.1;
    link = link_of readied.1.link;
    has = ap (λ (l : Option RelationState). option_map link_of l) readied.1.is;
    awaits = ap phase_in readied.1.awaits;
  }

  -- a step that hears at most nothing hears nothing
  hears_nothing : (frame : List ℕ) → SaysAtMost rules small.Nothing frame → rules.to_controller frame ≡ small.Nothing
  hears_nothing frame (inl nothing) = nothing
  hears_nothing frame (inr nothing) = nothing

  one_other : (after : Rest) (message : Sent) → IsOther live after.link message → IsHeardAs rules station.identity message
      → IsDull rules (bytes_of station.identity message) ⊎ IsReady rules (small_in after) (bytes_of station.identity message)
  one_other after (CallAnswer caller address answer) other heard = absurd other
  one_other after (Again frame) other heard = absurd other
  one_other after (ReadyCall address ready) other heard = inr (one_ready after address ready other heard)
  one_other after message other heard = inl (heard.0, hears_nothing (bytes_of station.identity message) heard.1)

  all_other : (after : Rest) (sent : List Sent) → AllByRecursion (IsOther live after.link) sent → AreHeard sent
      → AllByRecursion (λ frame. IsDull rules frame ⊎ IsReady rules (small_in after) frame) (frames_of sent)
  all_other after [] others heard = tt
  all_other after (message ∷ sent) others heard = (one_other after message others.0 heard.0, all_other after sent others.1 heard.1)

  -- frames of the exchange say nothing of a start-up
  one_dull : (message : Sent) → IsExchange message → IsHeardAs rules station.identity message → IsDull rules (bytes_of station.identity message)
  one_dull (Exchanges route frame) exchange heard =
      (heard.0, hears_nothing (bytes_of station.identity (Exchanges route frame)) heard.1)
  one_dull message exchange heard = absurd exchange

  all_dull : (sent : List Sent) → AllByRecursion IsExchange sent → AreHeard sent → AllByRecursion (IsDull rules) (frames_of sent)
  all_dull [] exchange heard = tt
  all_dull (message ∷ sent) exchange heard = (one_dull message exchange.0 heard.0, all_dull sent exchange.1 heard.1)

  all_ready : (after : Rest) (address : List ℕ) (ready : Option Following) → AreReadied live after.link ready → AreHeard (readied_from address ready)
      → AllByRecursion (λ frame. IsDull rules frame ⊎ IsReady rules (small_in after) frame) (frames_of (readied_from address ready))
  all_ready after address None readied heard = tt
  all_ready after address (Some (Readying ready)) readied heard = (inr (one_ready after address ready readied heard.0), tt)
  all_ready after address (Some (Plugging ready)) readied heard =
      (inl (heard.0.0, hears_nothing (bytes_of station.identity (PlugReadyCall address ready)) heard.0.1), tt)

  -- a relation that is kept or forgets records, as a start-up sees it
  link_small : (before after : Option RelationState) → IsOrderlyIn before → IsKeptOr before after
      → (option_map link_of after ≡ option_map link_of before) ⊎ ((option_map link_of after ≡ None) ⊎ Forgets (option_map link_of before) (option_map link_of after))
  link_small before after own (inl same) = inl same
  link_small before after own (inr (inl none)) = inr (inl none)
  link_small before after own (inr (inr it)) = inr (inr (record {
    link = link_of it.link;
    was = ap (λ (l : Option RelationState). option_map link_of l) it.was;
    exchanges = ap phase_in (it.exchanges (subst (λ (l : Option RelationState). IsOrderlyIn l) it.was own));
    values = it.values;
    part = it.part;
    becomes = it.becomes;
  }))

  -- what a response says, by the outcome of the call
  abbrev reply_by : Operation → Result (List ℕ) CallFault → small.Reply
  reply_by which outcome = record { done = is_done (outcome_of which outcome).0; blocks = (outcome_of which outcome).1 }

  module _ (heard : Heard) (planned : IsPlanned rules activity station.named live.rest.real heard) (after : Rest) (sent : List Sent) (all : AreHeard sent) where
    -- ---- calls

    planned_call : (caller : Caller) (address : List ℕ) (call : Call) → heard ≡ Reported caller address (Calls call)
        → IsPlannedCall rules activity station.named live.rest.real call
    planned_call caller address call is = subst (λ (h : Heard). IsPlanned rules activity station.named live.rest.real h) is planned

    call_heard : (sequence : ℕ) (blocks : List ℕ) (which : Option Operation) → IsPlannedAs rules station.named live.rest.real sequence blocks which
        → asked_by rules.is_planned sequence blocks which ≡ small.Call sequence (ask_of rules.is_planned sequence blocks which)
    call_heard sequence blocks (Some operation.ReadImplicit) plan = absurd plan
    call_heard sequence blocks None plan = absurd plan
    call_heard sequence blocks (Some operation.Write) plan = written_call (rules.is_planned sequence blocks) sequence (number_in blocks)
    call_heard sequence blocks (Some operation.Connect) plan = refl
    call_heard sequence blocks (Some operation.Control) plan = refl
    call_heard sequence blocks (Some operation.Read) plan = refl
    call_heard sequence blocks (Some operation.Release) plan = refl

    -- a step that hears a call
    hears_call : (caller : Caller) (address : List ℕ) (call : Call) (blocks : List ℕ) → heard ≡ Reported caller address (Calls call) → call.blocks ≡ Some blocks
        → Goes (small.Call call.header.sequence (ask_of rules.is_planned call.header.sequence blocks (operation_of call.header.operation))) after sent → Goes (heard_as rules.is_planned heard) after sent
    hears_call caller address call blocks is counted goes =
        let plan = planned_call caller address call is in
        let same : plan.blocks ≡ blocks = some_is plan.blocks blocks (sym plan.counted ∙ counted) in
        let asks : IsPlannedAs rules station.named live.rest.real call.header.sequence blocks (operation_of call.header.operation) =
        subst (λ (b : List ℕ). IsPlannedAs rules station.named live.rest.real call.header.sequence b (operation_of call.header.operation)) same plan.asks in
        let now : heard_as rules.is_planned heard ≡ asked_by rules.is_planned call.header.sequence blocks (operation_of call.header.operation) =
        ap (heard_as rules.is_planned) is ∙ ap (λ (b : Option (List ℕ)). asked_by rules.is_planned call.header.sequence (unwrap_or b []) (operation_of call.header.operation)) counted in
        subst (λ (h : ToDevice). Goes h after sent) (sym (now ∙ call_heard call.header.sequence blocks (operation_of call.header.operation) asks)) goes

    same_kept : (x y : TakenRecord) → Keeps x ≡ Keeps y → x ≡ y
    same_kept x y e = cc

    -- after PrmEnd, a start-up awaits the response to ApplicationReady
    parameterized_small : (source : Partner) (link : RelationState) (by_application : Bool)
        → option_map link_of (Some (restarted source (parameterized_from by_application link))) ≡ Some (record (link_of link) { phase = small.Awaiting })
    parameterized_small source link true = refl
    parameterized_small source link false = refl

    -- a call that names the relation changes nothing of a start-up
    restarted_small : (source : Partner) (link : Option RelationState) → option_map link_of (option_map (restarted source) link) ≡ option_map link_of link
    restarted_small source None = refl
    restarted_small source (Some link) = refl

    -- records are passed on only while data is exchanged
    exchanging_small : (only : Bool) (phase : Phase) → (only && is_exchanging phase) ≡ true → phase_in phase ≡ small.Exchanging
    exchanging_small true Exchanging passes = refl
    exchanging_small true Started passes = cc passes
    exchanging_small true Preparing passes = cc passes
    exchanging_small true Awaiting passes = cc passes
    exchanging_small false phase passes = cc passes

    passes_small : (link : RelationState) → passes_on link ≡ true → (link_of link).phase ≡ small.Exchanging
    passes_small link passes = exchanging_small link.options.records_passed_on link.phase passes

    -- the records of several that a relation accepts
    takes_more : (source : Partner) (passed : PassedOn) (values : List TakenRecord) (link : Option RelationState)
        → Carries rules small.Accesses (option_map link_of link) (option_map link_of (option_map (with_more source passed values) link))
    takes_more source passed values None = inl refl
    takes_more source passed values (Some link) = inr (record { link = link_of link; values = values; was = refl; becomes = refl })

    stores_none : (value : ImValue) (planned : TakenRecord) → Stores value ≡ Keeps planned → ⊥
    stores_none value planned e = absurd cc

    -- a Write that succeeds, whatever its response says of its records
    written_so : (granted : Bool) (number : ℕ) (before now : Option (small.RelationState TakenRecord Request)) → Carries rules (small.Writes number) before now
        → SmallWritten rules granted number before now
    written_so true number before now carries = carries
    written_so false number before now carries = carries_some rules number before now carries

    -- a relation that has accepted these records, as a start-up sees it
    abbrev taking_now : RelationState → List TakenRecord → Option (small.RelationState TakenRecord Request)
    taking_now link taken = Some (record (link_of link) { taken = taken })

    -- the records of a Write of the start-up
    each_comes : (before now : Option RelationState) (number : ℕ) (blocks octets : List ℕ)
        (it : WrittenEach station.named live.rest.real blocks octets before now)
        → IsWritingOf rules station.named live.rest.real (uuid_of before) (suc number) (rules.group number) (Each it.header it.entries)
        → SmallWritten rules (rules.grants (suc number) octets) number (option_map link_of before) (option_map link_of now)
    each_comes None now number blocks octets it keeps = absurd (none_listed live.rest.real blocks it.header it.entries it.judged)
    each_comes (Some link) now number blocks octets it keeps = by_granted (rules.grants (suc number) octets) refl
      where
        takes : TakesOf (judged_each station.named (uuid_of (Some link)) live.rest.real it.entries) (rules.group number) it.answers link
        takes = keeps_take refusals_are_not_done (judged_each station.named (uuid_of (Some link)) live.rest.real it.entries) (rules.group number)
            (each_undone refusals_are_not_done station.named (uuid_of (Some link)) live.rest.real it.entries) keeps.0 it.answers link

        behind : option_map link_of now ≡ taking_now link (link.taken ++ takes.values)
        behind = ap (λ (l : Option RelationState). option_map link_of l) (it.carried ∙ ap (updated (Named it.source)) takes.becomes)

        -- they are kept, or passed on
        by_option : (b : Bool) → passes_on link ≡ b
            → AreDone (statuses_of (judged_each station.named (uuid_of (Some link)) live.rest.real it.entries) it.answers (Some link))
            → TakesRecords rules number (Some (link_of link)) (option_map link_of now) ⊎ PassesOn (Some (link_of link)) (option_map link_of now)
        by_option false keeps done =
            let all = takes.whole keeps done in
            inl (record { link = link_of link; was = refl; becomes = behind ∙ ap (λ (values : List TakenRecord). taking_now link (link.taken ++ values)) all })
        by_option true passes done =
            let none = takes.none passes in
            inr (record {
              link = link_of link;
              was = refl;
              exchanges = passes_small link passes;
              same = behind ∙ (ap (λ (values : List TakenRecord). taking_now link (link.taken ++ values)) none ∙ ap (taking_now link) (append-nil link.taken));
            })

        by_granted : (b : Bool) → rules.grants (suc number) octets ≡ b → SmallWritten rules b number (Some (link_of link)) (option_map link_of now)
        by_granted true f =
            let judged = judged_each station.named (uuid_of (Some link)) live.rest.real it.entries in
            let says = sym (ap (λ (o : List ℕ). rules.grants (suc number) o) it.tells) ∙ f in
            let done = keeps.1 (statuses_of judged it.answers (Some link))
            (outcomes_are station.named (uuid_of (Some link)) live.rest.real it.entries it.answers (Some link)) says in
            by_option (passes_on link) refl done
        by_granted false f = inr (record { link = link_of link; values = takes.values; was = refl; part = takes.part; becomes = behind })

    -- a record of the start-up is kept, or passed on while data is exchanged
    written_carries : (before now : Option RelationState) (number : ℕ) (blocks : List ℕ) (it : Written live.rest.real blocks before now) → it.value ∷ [] ≡ rules.group number
        → Carries rules (small.Writes number) (option_map link_of before) (option_map link_of now)
    written_carries before now number blocks it values = by_kind (keeping_is it.value it.link it.more it.kept)
      where
        was : option_map link_of before ≡ Some (link_of it.link)
        was = ap (λ (l : Option RelationState). option_map link_of l) it.was

        behind : option_map link_of now ≡ taking_now it.link it.more.taken
        behind = ap (λ (l : Option RelationState). option_map link_of l) it.becomes

        by_kind : ((passes_on it.link ≡ false) × (it.more.taken ≡ it.link.taken ++ it.value ∷ [])) ⊎ ((passes_on it.link ≡ true) × (it.more.taken ≡ it.link.taken))
            → TakesRecords rules number (option_map link_of before) (option_map link_of now) ⊎ PassesOn (option_map link_of before) (option_map link_of now)
        by_kind (inl kept) = inl (record {
          link = link_of it.link;
          was = was;
          becomes = behind ∙ (ap (taking_now it.link) kept.1 ∙ ap (λ (more : List TakenRecord). taking_now it.link (it.link.taken ++ more)) values);
        })
        by_kind (inr passed) = inr (record {
          link = link_of it.link;
          was = was;
          exchanges = passes_small it.link passed.0;
          same = behind ∙ (ap (taking_now it.link) passed.1 ∙ sym was);
        })

    -- any other record is kept or passed on too
    written_accesses : (before now : Option RelationState) (blocks : List ℕ) (it : Written live.rest.real blocks before now)
        → Carries rules small.Accesses (option_map link_of before) (option_map link_of now)
    written_accesses before now blocks it = by_kind (keeping_is it.value it.link it.more it.kept)
      where
        was : option_map link_of before ≡ Some (link_of it.link)
        was = ap (λ (l : Option RelationState). option_map link_of l) it.was

        behind : option_map link_of now ≡ taking_now it.link it.more.taken
        behind = ap (λ (l : Option RelationState). option_map link_of l) it.becomes

        by_kind : ((passes_on it.link ≡ false) × (it.more.taken ≡ it.link.taken ++ it.value ∷ [])) ⊎ ((passes_on it.link ≡ true) × (it.more.taken ≡ it.link.taken))
            → (option_map link_of now ≡ option_map link_of before) ⊎ TakesAny (option_map link_of before) (option_map link_of now)
        by_kind (inl kept) = inr (record { link = link_of it.link; values = it.value ∷ []; was = was; becomes = behind ∙ ap (taking_now it.link) kept.1 })
        by_kind (inr passed) = inl (behind ∙ (ap (taking_now it.link) passed.1 ∙ sym was))

    -- what a Write does, which is one of the start-up or not
    writes : (sequence : ℕ) (blocks octets : List ℕ) (b : Bool) → rules.is_planned sequence blocks ≡ b
        → IsPlannedAs rules station.named live.rest.real sequence blocks (Some operation.Write)
        → Written live.rest.real blocks live.rest.link after.link
        ⊎ (Stored live.rest.real blocks live.rest.link after.link ⊎ WrittenEach station.named live.rest.real blocks octets live.rest.link after.link)
        → Succeeds rules octets (written_ask b (number_in blocks)) (option_map link_of live.rest.link) (option_map link_of after.link)
    writes sequence blocks octets true e asks (inl it) =
        let number = number_in blocks in
        let keeps = (asks e).keeps (uuid_of live.rest.link) (One it.write) it.judged in
        let values : it.value ∷ [] ≡ rules.group number =
        ap (λ (v : TakenRecord). v ∷ []) (same_kept it.value keeps.0 (sym it.keeps ∙ keeps.2)) ∙ sym keeps.1 in
        written_so (rules.grants (suc number) octets) number (option_map link_of live.rest.link) (option_map link_of after.link)
        (written_carries live.rest.link after.link number blocks it values)
    writes sequence blocks octets true e asks (inr (inl it)) =
        let keeps = (asks e).keeps (uuid_of live.rest.link) (One it.write) it.judged in
        absurd (stores_none it.value keeps.0 (sym it.stores ∙ keeps.2))
    writes sequence blocks octets true e asks (inr (inr it)) =
        each_comes live.rest.link after.link (number_in blocks) blocks octets it ((asks e).keeps (uuid_of live.rest.link) (Each it.header it.entries) it.judged)
    writes sequence blocks octets false e asks (inl it) = written_accesses live.rest.link after.link blocks it
    writes sequence blocks octets false e asks (inr (inl it)) =
        inl (ap (λ (l : Option RelationState). option_map link_of l) it.same.1 ∙ restarted_small it.same.0 live.rest.link)
    writes sequence blocks octets false e asks (inr (inr it)) =
        subst (λ (l : Option RelationState). Carries rules small.Accesses (option_map link_of live.rest.link) (option_map link_of l)) (sym it.becomes)
        (takes_more it.source it.passed it.values live.rest.link)

    -- what a call does to the relation, as the small machine does it
    comes : (caller : Caller) (sequence : ℕ) (blocks : List ℕ) (outcome : Result (List ℕ) CallFault) (which : Operation)
        → IsPlannedAs rules station.named live.rest.real sequence blocks (Some which)
        → IsEffect station live.rest.real caller blocks outcome which live.rest.link after.link
        → Comes rules (reply_by which outcome) (ask_of rules.is_planned sequence blocks (Some which)) (option_map link_of live.rest.link) (option_map link_of after.link)
    comes caller sequence blocks (Err why) which plan same =
        subst (λ (b : Bool). ComesBy rules b (outcome_of which (Err why)).1 (ask_of rules.is_planned sequence blocks (Some which)) (option_map link_of live.rest.link)
        (option_map link_of after.link)) (sym (refusals_are_not_done which why)) (ap (λ (l : Option RelationState). option_map link_of l) same)
    comes caller sequence blocks (Ok octets) operation.Connect plan it =
        ap (λ (l : Option RelationState). option_map link_of l) it.made
        ∙ ap (λ (r : Request). Some (record { phase = small.Started; request = r; taken = [] }))
        (same_request (uuid_of live.rest.link) blocks it.request rules.request it.read plan)
    comes caller sequence blocks (Ok octets) operation.Write plan it =
        writes sequence blocks octets (rules.is_planned sequence blocks) refl plan it
    comes caller sequence blocks (Ok octets) operation.Control plan (inl it) = inl (record {
      link = link_of it.link;
      was = ap (λ (l : Option RelationState). option_map link_of l) it.was;
      started = ap phase_in it.started;
      becomes = ap (λ (l : Option RelationState). option_map link_of l) it.becomes ∙ parameterized_small it.source it.link it.by_application;
    })
    comes caller sequence blocks (Ok octets) operation.Control plan (inr it) = inr (record {
      link = link_of it.link;
      was = ap (λ (l : Option RelationState). option_map link_of l) it.was;
      exchanges = ap phase_in (it.exchanges (subst (λ (l : Option RelationState). IsOrderlyIn l) it.was orderly));
      same = ap (λ (l : Option RelationState). option_map link_of l) it.becomes ∙ sym (ap (λ (l : Option RelationState). option_map link_of l) it.was);
    })
    comes caller sequence blocks (Ok octets) operation.Release plan it = ap (λ (l : Option RelationState). option_map link_of l) it.gone
    comes caller sequence blocks (Ok octets) operation.Read plan it =
        inl (ap (λ (l : Option RelationState). option_map link_of l) it.1 ∙ restarted_small it.0 live.rest.link)
    comes caller sequence blocks (Ok octets) operation.ReadImplicit plan it = absurd plan

    module _ (it : Serves station live heard after sent) where
      abbrev sequence : ℕ
      sequence = it.call.header.sequence

      abbrev from : List ℕ
      from = live.values.running.suite.address

      abbrev answer : Sent
      answer = answer_from from it.caller it.call it.which it.outcome

      plan : IsPlannedCall rules activity station.named live.rest.real it.call
      plan = planned_call it.caller it.address it.call it.is

      asks : IsPlannedAs rules station.named live.rest.real sequence it.blocks (Some it.which)
      asks = subst (λ (o : Option Operation). IsPlannedAs rules station.named live.rest.real sequence it.blocks o) it.asks
          (subst (λ (b : List ℕ). IsPlannedAs rules station.named live.rest.real sequence b (operation_of it.call.header.operation))
          (some_is plan.blocks it.blocks (sym plan.counted ∙ it.counted)) plan.asks)

      all_heard : AreHeard (answer ∷ readied_from from it.ready)
      all_heard = subst (λ (messages : List Sent). AreHeard messages) it.sends all

      serves : Goes (heard_as rules.is_planned heard) after sent
      serves = hears_call it.caller it.address it.call it.blocks it.is it.counted (inl (record {
        new = new_is sequence (kept_of activity live.rest.calls) (sym (ap (λ (a : List ℕ). looked a sequence live.rest.calls) plan.own) ∙ it.fresh);
        reply = reply_by it.which it.outcome;
        frame = bytes_of station.identity answer;
        keeps = ap (λ (k : Option Answer). option_map kept_in k) (ap (λ (c : List Answer). kept_of activity c) it.keeps ∙ kept_last activity (kept_for station.identity it.call answer) live.rest.calls plan.own);
        does = subst (λ (o : Option Operation). Comes rules (reply_by it.which it.outcome) (ask_of rules.is_planned sequence it.blocks o) (option_map link_of live.rest.link) (option_map link_of after.link)) (sym it.asks)
            (comes it.caller sequence it.blocks it.outcome it.which asks it.effect);
        to_device = all_heard.0.0;
        to_controller = all_heard.0.1;
        others = frames_of (readied_from from it.ready);
        sent = ap frames_of it.sends;
        readies = all_ready after from it.ready it.readied all_heard.1;
        asked = still_asked live.rest.asked after.asked it.asked;
      }))

    repeats : Repeats live heard after sent → Goes (heard_as rules.is_planned heard) after sent
    repeats it = hears_call it.caller it.address it.call (planned_call it.caller it.address it.call it.is).blocks it.is (planned_call it.caller it.address it.call it.is).counted (inr (inl (record {
      kept = kept_in it.kept;
      has = ap (λ (k : Option Answer). option_map kept_in k) (ap (λ (a : List ℕ). kept_of a live.rest.calls) (sym (planned_call it.caller it.address it.call it.is).own) ∙ it.there);
      same = it.number;
      unchanged = ap small_in it.same;
      sent = ap frames_of it.sends;
    })))

    -- ---- without a call

    rests : Rests live after sent → Goes (heard_as rules.is_planned heard) after sent
    rests it = subst (λ (r : Rest). Goes (heard_as rules.is_planned heard) r sent) (sym it.same) (subst (λ (s : List Sent). Goes (heard_as rules.is_planned heard) live.rest s) (sym it.silent) (rests_steps (heard_as rules.is_planned heard)))

    -- what is no call
    goes_at : (h : ToDevice) → IsUncalled h → SmallGoesBy rules (small_in live.rest) (small_in after) (frames_of sent) → Goes h after sent
    goes_at (small.Call sequence ask) uncalled goes = absurd uncalled
    goes_at small.Confirms uncalled goes = inr goes
    goes_at small.Idle uncalled goes = inl goes

    goes_by : GoesBy live heard after sent → Goes (heard_as rules.is_planned heard) after sent
    goes_by it = goes_at (heard_as rules.is_planned heard) (it.uncalled rules.is_planned) (record {
      keeps = ap (λ (c : List Answer). option_map kept_in (kept_of activity c)) it.calls;
      link = link_small live.rest.link after.link orderly it.link;
      sent = all_other after sent it.others all;
      asked = still_asked live.rest.asked after.asked it.asked;
    })

    confirms : Confirms live heard after sent → Goes (heard_as rules.is_planned heard) after sent
    confirms it = subst (λ (h : ToDevice). Goes h after sent) (sym (it.confirms rules.is_planned)) (inl (record {
      link = link_of it.link;
      was = ap (λ (l : Option RelationState). option_map link_of l) it.was;
      awaits = ap phase_in it.awaits;
      values = it.values;
      part = it.part;
      becomes = ap small_in it.becomes ∙ ap (λ (l : small.RelationState TakenRecord Request). let d : small.Device TakenRecord Request = record (small_in live.rest) { link = Some l } in d) it.exchanges;
      dull = all_dull sent it.others all;
    }))

    -- ---- what is asked of the application

    asks_nothing : (asking : Asking) → ◌≡◌ {A = Result (Option Asking) CallFault} (Ok None) (Ok (Some asking)) → ⊥
    asks_nothing asking e = absurd cc

    -- no Write of the start-up is asked
    found_none : (request : IodWriteReq) (octets : List ℕ) (found : Option RecordName) → asked_name live.rest.real station.named request.header ≡ None
        → asked_write live.rest.real station.named request octets ≡ Ok found → found ≡ None
    unfolding asked_write
    found_none request octets found none e =
        same_found found (subst (λ (n : Option RecordName). write_found live.rest.real request octets n ≡ Ok found) none e)
      where
        same_found : (x : Option RecordName) → ◌≡◌ {A = Result (Option RecordName) CallFault} (Ok None) (Ok x) → x ≡ None
        same_found x f = cc

    -- what a Write asks for this record, if it is one of the application
    abbrev asking_for : Caller → Call → IodWriteReq × List ℕ → Option RecordName → Result (Option Asking) CallFault
    asking_for caller call x found =
        Ok (option_map (λ (name : RecordName). (question_of caller call (wanted.Write x.0) name, take x.0.header.record_data_length x.1)) found)

    never_asked : (caller : Caller) (call : Call) (asking : Asking) (read : Result (IodWriteReq × List ℕ) CallFault)
        → ((write : IodWriteReq × List ℕ) → read ≡ Ok write → asked_name live.rest.real station.named write.0.header ≡ None)
        → asking_write live.rest.real station.named caller call read ≡ Ok (Some asking) → ⊥
    never_asked caller call asking (Err why) unasked e = asks_nothing asking e
    never_asked caller call asking (Ok x) unasked e =
        let there = bind_ok (asked_write live.rest.real station.named x.0 x.1) (asking_for caller call x) (Some asking) e in
        let none = found_none x.0 x.1 there.0 (unasked x refl) there.1 in
        asks_nothing asking (subst (λ (found : Option RecordName). asking_for caller call x found ≡ Ok (Some asking)) none there.2)

    -- only a call of the controller's application is asked
    asks_access : (caller : Caller) (call : Call) (number : ℕ) (blocks : List ℕ) (asking : Asking) (which : Operation)
        → IsPlannedAs rules station.named live.rest.real number blocks (Some which)
        → asking_of live.rest.real station.named (uuid_of live.rest.link) caller call blocks which ≡ Ok (Some asking)
        → ask_of rules.is_planned number blocks (Some which) ≡ small.Accesses
    asks_access caller call number blocks asking operation.Connect own_plan e = absurd (asks_nothing asking e)
    asks_access caller call number blocks asking operation.Release own_plan e = absurd (asks_nothing asking e)
    asks_access caller call number blocks asking operation.Control own_plan e = absurd (asks_nothing asking e)
    asks_access caller call number blocks asking operation.Read own_plan e = refl
    asks_access caller call number blocks asking operation.ReadImplicit own_plan e = absurd own_plan
    asks_access caller call number blocks asking operation.Write own_plan e = by_plan (rules.is_planned number blocks) refl
      where
        by_plan : (b : Bool) → rules.is_planned number blocks ≡ b → written_ask b (number_in blocks) ≡ small.Accesses
        by_plan false is = refl
        by_plan true is =
            absurd (never_asked caller call asking (write_within (uuid_of live.rest.link) blocks) ((own_plan is).unasked (uuid_of live.rest.link)) e)

    -- a call with these blocks that is heard
    plan_of : (caller : Caller) (address : List ℕ) (call : Call) (blocks : List ℕ) (which : Operation) → heard ≡ Reported caller address (Calls call)
        → call.blocks ≡ Some blocks
        → operation_of call.header.operation ≡ Some which → IsPlannedAs rules station.named live.rest.real call.header.sequence blocks (Some which)
    plan_of caller address call blocks which is counted operation_is =
        let plan = planned_call caller address call is in
        subst (λ (o : Option Operation). IsPlannedAs rules station.named live.rest.real call.header.sequence blocks o) operation_is
        (subst (λ (b : List ℕ). IsPlannedAs rules station.named live.rest.real call.header.sequence b (operation_of call.header.operation))
        (some_is plan.blocks blocks (sym plan.counted ∙ counted)) plan.asks)

    -- a call that was not answered is new
    fresh_new : (call : Call) → call.header.activity ≡ activity → looked call.header.activity call.header.sequence live.rest.calls ≡ new
        → IsNew call.header.sequence (option_map kept_in (kept_of activity live.rest.calls))
    fresh_new call is fresh =
        new_is call.header.sequence (kept_of activity live.rest.calls) (sym (ap (λ (a : List ℕ). looked a call.header.sequence live.rest.calls) is) ∙ fresh)

    questions : Questions station live heard after sent → Goes (heard_as rules.is_planned heard) after sent
    questions it =
        let one = it.new_call in
        let call = one.call in
        let own_call = planned_call one.caller one.address call one.is in
        let same : it.asking.0.header.sequence ≡ call.header.sequence = ap (λ (q : Question). q.header.sequence) one.of_call in
        let plan = plan_of one.caller one.address call one.blocks one.which one.is one.counted one.operation_is in
        hears_call one.caller one.address call one.blocks one.is one.counted (inr (inr (inr (record {
          accesses = ap (λ (o : Option Operation). ask_of rules.is_planned call.header.sequence one.blocks o) one.operation_is
              ∙ asks_access one.caller call call.header.sequence one.blocks it.asking one.which plan one.asks;
          new = fresh_new call own_call.own one.fresh;
          free = ap number_of it.free;
          becomes = ap small_in it.becomes
              ∙ ap (λ (s : ℕ). let d : small.Device TakenRecord Request = record (small_in live.rest) { asked = Some s } in d) same;
          silent = ap frames_of it.silent;
        }))))

    declines : Declines station live heard after sent → Goes (heard_as rules.is_planned heard) after sent
    declines it =
        let one = it.new_call in
        let call = one.call in
        let own_call = planned_call one.caller one.address call one.is in
        let message = busy_answer live one.caller call one.which in
        let all_heard : AreHeard (message ∷ []) = subst (λ (messages : List Sent). AreHeard messages) it.sends all in
        let reply : small.Reply = record { done = is_done (unanswered_status one.which Busy); blocks = [] } in
        hears_call one.caller one.address call one.blocks one.is one.counted (inl (record {
          new = fresh_new call own_call.own one.fresh;
          reply = reply;
          frame = bytes_of station.identity message;
          keeps = ap (λ (r : Rest). option_map kept_in (kept_of activity r.calls)) it.becomes
              ∙ ap (λ (k : Option Answer). option_map kept_in k) (kept_last activity (kept_for station.identity call message) live.rest.calls own_call.own);
          does = subst (λ (b : Bool). ComesBy rules b [] (ask_of rules.is_planned call.header.sequence one.blocks (operation_of call.header.operation))
              (option_map link_of live.rest.link) (option_map link_of after.link)) (sym it.undone) (ap (λ (r : Rest). option_map link_of r.link) it.becomes);
          to_device = all_heard.0.0;
          to_controller = all_heard.0.1;
          others = [];
          sent = ap frames_of it.sends;
          readies = tt;
          asked = inl (ap (λ (r : Rest). asked_in r.asked) it.becomes);
        }))

    replies : Replies true station live heard after sent → Goes (heard_as rules.is_planned heard) after sent
    replies it =
        let question = it.question in
        let message = reply_to live.values.running.suite.address question it.status it.blocks in
        let parts = each_parts (IsHeardAs rules station.identity) it.first (message ∷ []) (subst (λ (messages : List Sent). AreHeard messages) it.sends all) in
        let sequence = question.header.sequence in
        let of_activity = (own question it.asked).0 in
        subst (λ (h : ToDevice). Goes h after sent) (sym (it.idle rules.is_planned)) (inr (record {
          sequence = sequence;
          asked = ap number_of it.asked;
          settled = ap number_of it.settled;
          new = new_is sequence (kept_of activity live.rest.calls) (sym (ap (λ (a : List ℕ). looked a sequence live.rest.calls) of_activity) ∙ it.fresh);
          reply = reply_of (answer_to (call_of question) it.status it.blocks);
          frame = bytes_of station.identity message;
          keeps = ap (λ (c : List Answer). option_map kept_in (kept_of activity c)) it.keeps
              ∙ ap (λ (k : Option Answer). option_map kept_in k)
              (kept_last activity (kept_reply station.identity question message) live.rest.calls of_activity);
          link = link_small live.rest.link after.link orderly it.link;
          to_device = parts.1.0.0;
          to_controller = parts.1.0.1;
          others = frames_of it.first;
          dull = all_other after it.first it.others parts.0;
          sent = ap frames_of it.sends ∙ map-append (bytes_of station.identity) it.first (message ∷ []);
        }))

    pub turn_goes : Does station live heard after sent → DeviceSteps rules (heard_as rules.is_planned heard) (small_in live.rest) (small_in after) (frames_of sent)
    turn_goes (inl it) = rests it
    turn_goes (inr (inl it)) = goes_by it
    turn_goes (inr (inr (inl it))) = confirms it
    turn_goes (inr (inr (inr (inl it)))) = repeats it
    turn_goes (inr (inr (inr (inr (inl it))))) = serves it
    turn_goes (inr (inr (inr (inr (inr (inl it)))))) = questions it
    turn_goes (inr (inr (inr (inr (inr (inr (inl it))))))) = declines it
    turn_goes (inr (inr (inr (inr (inr (inr (inr (inl it)))))))) = replies it
    turn_goes (inr (inr (inr (inr (inr (inr (inr (inr it)))))))) = absurd (false≢true (sym (own it.question it.asked).1 ∙ it.implicit))

-- what is asked is a call of this activity, also after a turn
own_later : (rules : Rules TakenRecord Request) (activity : List ℕ) (station : Station) (live : Live) (heard : Heard) (after : AskedState)
    → IsPlanned rules activity station.named live.rest.real heard → IsAskedLater heard live.rest.asked after → IsAskedOwn activity live.rest.asked
    → IsAskedOwn activity after
own_later rules activity station live heard after planned later own = λ question e. by_later question (later question e)
  where
    -- no Read Implicit is one of the start-up or of the application
    planned_plain : (sequence : ℕ) (blocks : List ℕ) (request : Wanted)
        → IsPlannedAs rules station.named live.rest.real sequence blocks (Some (operation_asked request)) → is_implicit request ≡ false
    planned_plain sequence blocks (wanted.Read request) plan = refl
    planned_plain sequence blocks (wanted.ReadImplicit request) plan = absurd plan
    planned_plain sequence blocks (wanted.Write request) plan = refl

    by_later : (question : Question) → (question_in live.rest.asked ≡ Some question) ⊎ IsAsking heard question
        → (question.header.activity ≡ activity) × (is_implicit question.request ≡ false)
    by_later question (inl was) = own question was
    by_later question (inr asks) =
        let plan : IsPlannedCall rules activity station.named live.rest.real asks.call = subst
        (λ (h : Heard). IsPlanned rules activity station.named live.rest.real h) asks.is planned in
        let asks_is : IsPlannedAs rules station.named live.rest.real asks.call.header.sequence plan.blocks (Some (operation_asked question.request)) = subst
        (λ (o : Option Operation). IsPlannedAs rules station.named live.rest.real asks.call.header.sequence plan.blocks o) asks.asks plan.asks in
        (ap (λ (h : CallHeader). h.activity) asks.header ∙ plan.own, planned_plain asks.call.header.sequence plan.blocks question.request asks_is)

pub step_own : (rules : Rules TakenRecord Request) (activity : List ℕ) (outcomes : List Outcome) (station : Station) (live : Live) (heard : Heard)
    → IsPlanned rules activity station.named live.rest.real heard → IsAskedLater heard live.rest.asked (heard_step outcomes station live heard).live.rest.asked
    → IsAskedOwn activity live.rest.asked → IsAskedOwn activity (heard_step outcomes station live heard).live.rest.asked
step_own rules activity outcomes station live heard planned later own =
    own_later rules activity station live heard (heard_step outcomes station live heard).live.rest.asked planned later own

pub step_goes : RefusalsAreNotDone → (rules : Rules TakenRecord Request) (activity : List ℕ) (outcomes : List Outcome) (station : Station) (live : Live) (heard : Heard)
    → IsOrderlyIn live.rest.link → IsAskedOwn activity live.rest.asked
    → Does station live heard (heard_step outcomes station live heard).live.rest (heard_step outcomes station live heard).sent
    → IsPlanned rules activity station.named live.rest.real heard
    → AllByRecursion (IsHeardAs rules station.identity) (heard_step outcomes station live heard).sent
    → DeviceSteps rules (heard_as rules.is_planned heard) (small_of activity live) (small_of activity (heard_step outcomes station live heard).live) (heard_step outcomes station live heard).frames
unfolding heard_step handled_step
step_goes refusals_are_not_done rules activity outcomes station live heard orderly own does planned sent =
    turn_goes refusals_are_not_done rules activity station live orderly own heard planned _ _ sent does
