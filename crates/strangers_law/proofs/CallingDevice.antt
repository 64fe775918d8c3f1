-- What a device does at a call of others: it changes nothing but the stored answers.
use Rattle.std.proofs.Common.{◌≡◌, ◌==◌, ◌&&◌, ◌||◌, ◌⊎◌, inl, inr, ℕ, Bool, true, false, not, List, [], drop, Option, Some, None, Result, Ok, Err, refl, sym, ap, subst, ◌∙◌}
use Rattle.std.proofs.lemmas.Bool.{cond_both, cond-false}
use Rattle.frame_codec.specs.declared.udp.Caller.{Caller}
use Rattle.wire.specs.Codec.{◌>>=◌}
use Rattle.rpc_core.specs.Call.{Asked as Call}
use Rattle.rpc_core.specs.declared.header.CallHeader.{CallHeader}
use Rattle.rpc_core.specs.Cache.{Kept, Reported as Looked, again, behind_reported, kept_more, looked, new as fresh, old as late}
use Rattle.pn_values.specs.declared.real.Real.{Real}
use Rattle.connect_blocks.specs.declared.control.ControlBlock.{ControlBlock}
use Rattle.connect_blocks.specs.declared.plug_control.PlugControlBlock.{PlugControlBlock}
use Rattle.records.specs.declared.status.call_fault.CallFault.{CallFault}
use Rattle.records.specs.declared.status.operation.Operation.{Operation}
use Rattle.records.specs.declared.status.operation.Operation.TheVariants.{Connect, Release, Read, Write, Control, ReadImplicit}
use Rattle.records.specs.declared.writes.writing.Writing.{Writing}
use Rattle.records.specs.status.Operation.{operation_of}
use Rattle.records.specs.calls.Naming.{is_relation}
use Rattle.records.specs.reads.Within.{names_relation}
use Rattle.records.specs.writes.Asked.{writing_of}
use Rattle.block_codec.specs.declared.block.Block.TheVariants as answers
use Rattle.block_codec.specs.Block.{block_bytes}
use Rattle.relations.specs.Calls.{done_of, prm_end_of, release_answer, release_of}
use Rattle.relations.specs.Phases.{Handled as Moving, Ended, Named, Parameterized, answered, updated}
use Rattle.relations.specs.Plugging.{ended_by, is_plug_control, plug_end_in}
use Rattle.relations.specs.RelationState.{RelationState, uuid_of}
use Rattle.relations.specs.declared.phase.Partner.{Partner}
use Rattle.device_records.specs.Reading.{implicit_read, relation_read}
use Rattle.device_records.specs.declared.log_data.entry.LogEntry.{LogEntry}
use Rattle.device_frames.specs.Heard.{Heard, Unreadable, Elsewhere, Resolves, Reported, Said, Calls, Responds, Garbled}
use Rattle.device_frames.specs.Sent.{Sent}
use Rattle.asked_records.specs.Answers.{unanswered_status}
use Rattle.asked_records.specs.Asked.{AskedState, asks, is_repeat}
use Rattle.asked_records.specs.Questions.{operation_of as operation_asked}
use Rattle.asked_records.specs.declared.names.RecordName.{RecordName}
use Rattle.asked_records.specs.declared.question.Question.{Question}
use Rattle.asked_records.specs.declared.status.Unanswered.TheVariants.{Busy}
use Rattle.device_core.specs.Asking.{Asking, asking_of, calls_after, is_kept, kept_if, kept_reply, left_asked, looked_if, released_by, reply_to}
use Rattle.device_core.specs.State.{Live, Rest, Station}
use Rattle.device_core.specs.Handled.{Handled, Refuses, Sets, Writes, WritesEach, Moves, handled, handled_asked, handled_asking, handled_blocks, handled_call, handled_looked, handled_own, handled_question, handled_said, handled_unanswered, handled_write, implicitly, is_request, is_running, known_of, partner_of}
use Rattle.device_core.specs.Log.{release_log}
use Rattle.device_core.specs.Modules.{calling_after}
use Rattle.octets_law.specs.Headline.{is_stored}
use Rattle.octets_law.specs.Octets.{activity_of, part}
use Rattle.octets_law.proofs.Operations.{IsOfOperation, asking_has, kept_is}
use Rattle.octets_law.proofs.Questions.{IsOwn as HasHeader, asking_own, no_names}
use Rattle.strangers_law.specs.Calling.{is_among, operation_in}
use Rattle.strangers_law.proofs.AskedBy.{asks_apart, displaces_none}
use Rattle.strangers_law.proofs.CallingHeard.{IsCallHeard}
use Rattle.strangers_law.proofs.Harmless.{IsHarmless, Names}
use Rattle.strangers_law.proofs.Unnamed.{no_plug_end, no_prm_end, no_read, no_release, no_write, no_writing, unnamed as unnamed_uuid, unnamed_read}

-- ---- what it leaves

-- The first block of a call does not have the ARUUID of the relation, if there is one.
abbrev pub IsApart : Option RelationState → List ℕ → Type 0
IsApart None blocks = Unit {0}
IsApart (Some link) blocks = Names link blocks ≡ false

-- So no ARUUID at its place is that of the relation.
apart_uuid : (link : Option RelationState) (blocks : List ℕ) → IsApart link blocks → (uuid : List ℕ) → part 8 16 blocks ≡ uuid
    → is_relation (uuid_of link) uuid ≡ false
apart_uuid None blocks other uuid at = refl
apart_uuid (Some link) blocks other uuid at = unnamed_uuid link blocks uuid other at

-- One more answer of these activities is stored, or none.
abbrev pub IsStored : List (List ℕ) → Rest → Rest → Type 0
IsStored others old new = (new ≡ old) ⊎ ((one : Kept) × (is_among one.activity others ≡ true) × (new ≡ record old { calls = kept_more 4 one old.calls }))

-- Or the application is asked, if the station names records.
abbrev pub IsStoredOrAsked : List RecordName → List (List ℕ) → Rest → Rest → Type 0
IsStoredOrAsked named others old new = IsStored others old new ⊎ ((named ≡ [] → ⊥) × (asked : AskedState) × (new ≡ record old { asked = asked }))

-- An outcome that asks nothing of the settings, and changes nothing but the stored answers and what is asked of the application.
abbrev pub Leaves : List RecordName → List (List ℕ) → Live → Handled → Type 0
Leaves named others live (Refuses note) = Unit {0}
Leaves named others live (Sets asker request in_operation) = ⊥
Leaves named others live (Writes caller address call header value) = ⊥
Leaves named others live (WritesEach caller address call header judged) = ⊥
Leaves named others live (Moves rest sent) = IsStoredOrAsked named others live.rest rest

-- A rest with these stored answers, this relation and this log, of whose application this is asked.
abbrev pub with_parts : Rest → List Kept → Option RelationState → List LogEntry → AskedState → Rest
with_parts rest calls link log asked = record rest { calls = calls; link = link; log = log; asked = asked }

-- The relation, the log and what is asked are as they were.
as_was : (rest : Rest) (calls : List Kept) (link : Option RelationState) (log : List LogEntry) (asked : AskedState) → link ≡ rest.link → log ≡ rest.log
    → asked ≡ rest.asked → with_parts rest calls link log asked ≡ record rest { calls = calls }
as_was rest calls link log asked links logs same =
    ap (λ l. with_parts rest calls l log asked) links ∙ ap (λ l. with_parts rest calls rest.link l asked) logs
    ∙ ap (with_parts rest calls rest.link rest.log) same

-- ---- the operations, with a relation and without one

release_logs : (link : Option RelationState) (blocks : List ℕ) → IsApart link blocks → (time : ℕ) (log : List LogEntry)
    → release_log (uuid_of link) (release_answer link blocks) time log ≡ log
release_logs None blocks other time log = by_result (release_of None blocks)
  where
    by_result : (r : Result ControlBlock CallFault)
        → release_log (uuid_of None) (r >>= λ block. Ok (block_bytes (answers.ReleaseRes (done_of block)))) time log ≡ log
    by_result (Ok block) = refl
    by_result (Err why) = refl
release_logs (Some link) blocks other time log = by_result (release_of (Some link) blocks) refl
  where
    by_result : (r : Result ControlBlock CallFault) → release_of (Some link) blocks ≡ r
        → release_log (uuid_of (Some link)) (r >>= λ block. Ok (block_bytes (answers.ReleaseRes (done_of block)))) time log ≡ log
    by_result (Ok block) is = absurd (no_release link blocks block other is)
    by_result (Err why) is = refl

release_asked : (link : Option RelationState) (blocks : List ℕ) → IsApart link blocks → (asked : AskedState)
    → left_asked (released_by (release_answer link blocks) (uuid_of link)) asked ≡ asked
release_asked None blocks other asked = by_result (release_of None blocks)
  where
    by_result : (r : Result ControlBlock CallFault)
        → left_asked (released_by (r >>= λ block. Ok (block_bytes (answers.ReleaseRes (done_of block)))) (uuid_of None)) asked ≡ asked
    by_result (Ok block) = refl
    by_result (Err why) = refl
release_asked (Some link) blocks other asked = by_result (release_of (Some link) blocks) refl
  where
    by_result : (r : Result ControlBlock CallFault) → release_of (Some link) blocks ≡ r
        → left_asked (released_by (r >>= λ block. Ok (block_bytes (answers.ReleaseRes (done_of block)))) (uuid_of (Some link))) asked ≡ asked
    by_result (Ok block) is = absurd (no_release link blocks block other is)
    by_result (Err why) is = refl

release_stays : (link : Option RelationState) (blocks : List ℕ) → IsApart link blocks → updated (answered Ended (release_of link blocks)) link ≡ link
release_stays None blocks other = by_result (release_of None blocks)
  where
    by_result : (r : Result ControlBlock CallFault) → updated (answered Ended r) None ≡ None
    by_result (Ok block) = refl
    by_result (Err why) = refl
release_stays (Some link) blocks other = by_result (release_of (Some link) blocks) refl
  where
    by_result : (r : Result ControlBlock CallFault) → release_of (Some link) blocks ≡ r → updated (answered Ended r) (Some link) ≡ Some link
    by_result (Ok block) is = absurd (no_release link blocks block other is)
    by_result (Err why) is = refl

prm_end_stays : (partner : Partner) (by_application : Bool) (link : Option RelationState) (blocks : List ℕ) → IsApart link blocks
    → updated (answered (Named partner) (prm_end_of link blocks)) (updated (answered (Parameterized by_application) (prm_end_of link blocks)) link) ≡ link
prm_end_stays partner by_application None blocks other = by_result (prm_end_of None blocks)
  where
    by_result : (r : Result ControlBlock CallFault) → updated (answered (Named partner) r) (updated (answered (Parameterized by_application) r) None) ≡ None
    by_result (Ok block) = refl
    by_result (Err why) = refl
prm_end_stays partner by_application (Some link) blocks other = rw (no_prm_end link blocks other).is refl

plug_end_stays : (partner : Partner) (by_application : Bool) (link : Option RelationState) (blocks : List ℕ) → IsApart link blocks
    → calling_after (plug_end_in blocks link) (updated (answered (Named partner) (plug_end_in blocks link)) (ended_by by_application (plug_end_in blocks link) link)) ≡ link
plug_end_stays partner by_application None blocks other = by_result (plug_end_in blocks None)
  where
    by_result : (r : Result PlugControlBlock CallFault) → calling_after r (updated (answered (Named partner) r) (ended_by by_application r None)) ≡ None
    by_result (Ok block) = refl
    by_result (Err why) = refl
plug_end_stays partner by_application (Some link) blocks other = rw (no_plug_end link blocks other).is refl

implicit_stays : (partner : Partner) (link : Option RelationState) (blocks : List ℕ) (r : Result (List ℕ) CallFault) → IsApart link blocks
    → updated (answered (implicitly partner link blocks) r) link ≡ link
implicit_stays partner None blocks (Ok octets) other =
    cond_both (names_relation (uuid_of None) blocks) _ _ (λ (m : Moving). updated m None ≡ None) (λ _. refl) (λ _. refl)
implicit_stays partner (Some link) blocks (Ok octets) other =
    ap (λ (m : Moving). updated m (Some link)) (cond-false (names_relation (uuid_of (Some link)) blocks) _ _ (unnamed_read link blocks other))
implicit_stays partner link blocks (Err why) other = refl

no_writes : (real : Real) (link : Option RelationState) (blocks : List ℕ) (writing : Writing) → IsApart link blocks
    → writing_of (uuid_of link) real blocks ≡ Ok writing → ⊥
no_writes real None blocks writing other e = no_writing (uuid_of None) real blocks writing (λ uuid at. refl) e
no_writes real (Some link) blocks writing other e = no_write link real blocks writing other e

not_connect : (number : ℕ) → (number == 0) ≡ false → operation_of number ≡ Some Connect → ⊥
unfolding operation_of
not_connect number other =
    cond_both (number == 0) _ _ (λ (o : Option Operation). o ≡ Some Connect → ⊥) (λ is e. unlike (number == 0) is other)
    (λ _. cond_both (number == 1) _ _ (λ (o : Option Operation). o ≡ Some Connect → ⊥) (λ _ e. absurd cc)
    (λ _. cond_both (number == 2) _ _ (λ (o : Option Operation). o ≡ Some Connect → ⊥) (λ _ e. absurd cc)
    (λ _. cond_both (number == 3) _ _ (λ (o : Option Operation). o ≡ Some Connect → ⊥) (λ _ e. absurd cc)
    (λ _. cond_both (number == 4) _ _ (λ (o : Option Operation). o ≡ Some Connect → ⊥) (λ _ e. absurd cc)
    (λ _. cond_both (number == 5) _ _ (λ (o : Option Operation). o ≡ Some Connect → ⊥) (λ _ e. absurd cc) (λ _ e. absurd cc))))))
  where
    unlike : (b : Bool) → b ≡ true → b ≡ false → ⊥
    unlike true is other = absurd cc
    unlike false is other = absurd cc

-- What is heard belongs to no relation.
abbrev pub IsForeign : Option RelationState → Heard → Type 0
IsForeign None heard = Unit {0}
IsForeign (Some link) heard = IsHarmless link heard

module _ (others : List (List ℕ)) (station : Station) (live : Live) where
  abbrev Left : Handled → Type 0
  Left what = Leaves station.named others live what

  module _ (caller : Caller) (call : Call)
      (among : (which : Operation) → operation_of call.header.operation ≡ Some which → is_kept station.options which ≡ true
      → is_among call.header.activity others ≡ true) where
    -- What is stored of an answer, while the relation and the log are as they were.
    stored : (which : Operation) → operation_of call.header.operation ≡ Some which → (one : Kept) (link : Option RelationState) (log : List LogEntry)
        (asked : AskedState) → one.activity ≡ call.header.activity → link ≡ live.rest.link → log ≡ live.rest.log → asked ≡ live.rest.asked
        → IsStoredOrAsked station.named others live.rest (with_parts live.rest (kept_if (is_kept station.options which) one live.rest.calls) link log asked)
    stored which has one link log asked is links logs same = by_kept (is_kept station.options which) (among which has)
      where
        by_kept : (kept : Bool) → (kept ≡ true → is_among call.header.activity others ≡ true)
            → IsStoredOrAsked station.named others live.rest (with_parts live.rest (kept_if kept one live.rest.calls) link log asked)
        by_kept true told =
            inl (inr (one, subst (λ a. is_among a others ≡ true) (sym is) (told refl), as_was live.rest (kept_more 4 one live.rest.calls) link log asked links logs same))
        by_kept false told = inl (inl (as_was live.rest live.rest.calls link log asked links logs same))

    new_left : (blocks : List ℕ) (operation : Operation) → IsApart live.rest.link blocks → (operation ≡ Connect → ⊥)
        → operation_of call.header.operation ≡ Some operation → Left (handled_own station live caller call blocks operation)
    new_left blocks Connect other none has = absurd (none refl)
    new_left blocks Release other none has =
        stored Release has _ _ _ _ refl (release_stays live.rest.link blocks other) (release_logs live.rest.link blocks other live.rest.units live.rest.log)
        (release_asked live.rest.link blocks other live.rest.asked)
    new_left blocks Read other none has =
        stored Read has _ _ _ _ refl (by_link live.rest.link refl other read refl) refl refl
      where
        read : Result (List ℕ) CallFault
        read = relation_read (known_of station live) station.identity live.rest.real live.values.running blocks

        by_link : (link : Option RelationState) → live.rest.link ≡ link → IsApart link blocks → (r : Result (List ℕ) CallFault)
            → read ≡ r → updated (answered (Named (partner_of caller)) r) link ≡ link
        by_link None is other (Ok octets) e = refl
        by_link (Some link) is other (Ok octets) e =
            absurd (no_read (known_of station live) station.identity live.rest.real live.values.running link blocks octets is other e)
        by_link link is other (Err why) e = refl
    new_left blocks Write other none has = by_result (writing_of (uuid_of live.rest.link) live.rest.real blocks) refl
      where
        by_result : (r : Result Writing CallFault) → writing_of (uuid_of live.rest.link) live.rest.real blocks ≡ r
            → Left (handled_write station live caller call r)
        by_result (Ok writing) is = absurd (no_writes live.rest.real live.rest.link blocks writing other is)
        by_result (Err why) is = stored Write has _ _ _ _ refl refl refl refl
    new_left blocks Control other none has =
        cond_both (is_plug_control blocks live.rest.link) _ _ Left
        (λ _. stored Control has _ _ _ _ refl (plug_end_stays (partner_of caller) station.options.ready_by_application live.rest.link blocks other) refl refl)
        (λ _. stored Control has _ _ _ _ refl (prm_end_stays (partner_of caller) station.options.ready_by_application live.rest.link blocks other) refl refl)
    new_left blocks ReadImplicit other none has =
        stored ReadImplicit has _ _ _ _ refl (implicit_stays (partner_of caller) live.rest.link blocks read other) refl refl
      where
        read : Result (List ℕ) CallFault
        read = implicit_read (known_of station live) station.identity live.rest.real live.values.running blocks

    -- A call for a record of the application is asked, or refused since another one is asked.
    busy_left : (kept : Bool) → (kept ≡ true → is_among call.header.activity others ≡ true) → (question : Question) (answer : Sent)
        → question.header ≡ call.header
        → IsStoredOrAsked station.named others live.rest (record live.rest { calls = calls_after kept station.identity question answer live.rest.calls })
    busy_left false told question answer same = inl (inl refl)
    busy_left true told question answer same = by_found (looked question.header.activity question.header.sequence live.rest.calls)
      where
        one : Kept
        one = kept_reply station.identity question answer

        by_found : (found : Looked) → IsStoredOrAsked station.named others live.rest (record live.rest { calls = behind_reported 4 one live.rest.calls found })
        by_found fresh =
            inl (inr (one, subst (λ (h : CallHeader). is_among h.activity others ≡ true) (sym same) (told refl), refl))
        by_found (again frame) = inl (inl refl)
        by_found late = inl (inl refl)

    question_left : (question : Question) (asked : Option AskedState) (which : Operation) → question.header ≡ call.header
        → operation_asked question.request ≡ which → operation_of call.header.operation ≡ Some which → (station.named ≡ [] → ⊥)
        → Left (handled_question station live question None asked)
    question_left question (Some asked) which same kind has named = inr (named, asked, refl)
    question_left question None which same kind has named =
        busy_left (is_kept station.options (operation_asked question.request))
        (λ kept. among which has (ap (is_kept station.options) (sym kind) ∙ kept)) question
        (reply_to live.values.running.suite.address question (unanswered_status (operation_asked question.request) Busy) []) same

    asking_left : (blocks : List ℕ) (operation : Operation) (asking : Result (Option Asking) CallFault)
        → asking_of live.rest.real station.named (uuid_of live.rest.link) caller call blocks operation ≡ asking
        → HasHeader live.rest.real station.named (uuid_of live.rest.link) caller call asking
        → IsOfOperation live.rest.real station.named (uuid_of live.rest.link) caller call operation asking
        → IsApart live.rest.link blocks → (operation ≡ Connect → ⊥)
        → operation_of call.header.operation ≡ Some operation → Left (handled_asking station live caller call blocks operation asking)
    asking_left blocks operation (Ok None) is own kind other none has = new_left blocks operation other none has
    asking_left blocks operation (Ok (Some asking)) is own kind other none has =
        let implicit = (asks_apart live.rest.real station.named (uuid_of live.rest.link) caller call blocks (apart_uuid live.rest.link blocks other) operation
        asking is).1 in
        subst (λ displaced. Left (handled_asked station live asking displaced))
        (sym (displaces_none station.options.asks_own_first asking.0 live.rest.asked implicit))
        (question_left asking.0 (asks asking.0 asking.1 live.rest.asked) operation own kind has
        (λ empty. no_names live.rest.real (uuid_of live.rest.link) caller call blocks operation asking
        (subst (λ n. asking_of live.rest.real n (uuid_of live.rest.link) caller call blocks operation ≡ Ok (Some asking)) empty is)))
    asking_left blocks operation (Err why) is own kind other none has = stored operation has _ _ _ _ refl refl refl refl

    unanswered_left : (blocks : List ℕ) (operation : Operation) → IsApart live.rest.link blocks → (operation ≡ Connect → ⊥)
        → operation_of call.header.operation ≡ Some operation → Left (handled_unanswered station live caller call blocks operation)
    unanswered_left blocks operation other none has =
        cond_both (is_repeat call.header.activity call.header.sequence live.rest.asked) _ _ Left (λ _. inl (inl refl))
        (λ _. asking_left blocks operation (asking_of live.rest.real station.named (uuid_of live.rest.link) caller call blocks operation) refl
        (asking_own live.rest.real station.named (uuid_of live.rest.link) caller call blocks operation)
        (asking_has live.rest.real station.named (uuid_of live.rest.link) caller call blocks operation) other none has)

    looked_left : (blocks : List ℕ) (operation : Operation) (found : Looked) → IsApart live.rest.link blocks → (operation ≡ Connect → ⊥)
        → operation_of call.header.operation ≡ Some operation → Left (handled_looked station live caller call blocks operation found)
    looked_left blocks operation fresh other none has = unanswered_left blocks operation other none has
    looked_left blocks operation (again frame) other none has = inl (inl refl)
    looked_left blocks operation late other none has = tt

    blocks_left : (operation : Operation) (blocks : Option (List ℕ)) → call.blocks ≡ blocks
        → ((some : List ℕ) → call.blocks ≡ Some some → IsApart live.rest.link some)
        → (operation ≡ Connect → ⊥) → operation_of call.header.operation ≡ Some operation → Left (handled_blocks station live caller call operation blocks)
    blocks_left Connect None is other none has = absurd (none refl)
    blocks_left Release None is other none has = inl (inl refl)
    blocks_left Read None is other none has = inl (inl refl)
    blocks_left Write None is other none has = inl (inl refl)
    blocks_left Control None is other none has = inl (inl refl)
    blocks_left ReadImplicit None is other none has = inl (inl refl)
    blocks_left operation (Some blocks) is other none has =
        looked_left blocks operation (looked_if (is_kept station.options operation) call.header.activity call.header.sequence live.rest.calls)
        (other blocks is) none has

    call_left : (operation : Option Operation) → ((some : List ℕ) → call.blocks ≡ Some some → IsApart live.rest.link some) → (operation ≡ Some Connect → ⊥)
        → operation_of call.header.operation ≡ operation → Left (handled_call station live caller call operation)
    call_left None other none has = tt
    call_left (Some operation) other none has = blocks_left operation call.blocks refl other (λ e. none (ap Some e)) has

  module _ (frame : List ℕ) (among : (is_among (activity_of (drop 42 frame)) others || not (is_stored station.options (drop 42 frame))) ≡ true)
      (none : (operation_in (drop 42 frame) == 0) ≡ false) where
    -- If its answer is stored, its activity is one of these.
    stored_among : (call : Call) → activity_of (drop 42 frame) ≡ call.header.activity → operation_in (drop 42 frame) ≡ call.header.operation
        → (which : Operation) → operation_of call.header.operation ≡ Some which → is_kept station.options which ≡ true
        → is_among call.header.activity others ≡ true
    stored_among call activity operation which has kept =
        let is : is_stored station.options (drop 42 frame) ≡ true =
        ap (λ n. not (station.options.reads_not_kept && n == 5)) operation ∙ kept_is station.options call.header.operation which has ∙ kept in
        subst (λ a. is_among a others ≡ true) activity
        (either (is_among (activity_of (drop 42 frame)) others) (is_stored station.options (drop 42 frame)) is among)
      where
        either : (one other : Bool) → other ≡ true → (one || not other) ≡ true → one ≡ true
        either true other is told = refl
        either false true is told = absurd cc
        either false false is told = absurd cc

    unnamed : (caller : Caller) (address : List ℕ) (call : Call) (link : Option RelationState) → IsForeign link (Reported caller address (Calls call))
        → (some : List ℕ) → call.blocks ≡ Some some → IsApart link some
    unnamed caller address call None other some is = tt
    unnamed caller address call (Some link) other some is = other some is

    said_left : (caller : Caller) (address : List ℕ) (said : Said) → IsCallHeard frame (Reported caller address said)
        → IsForeign live.rest.link (Reported caller address said)
        → Left (handled_said station live caller said)
    said_left caller address (Calls call) hears other =
        call_left caller call (stored_among call hears.0 hears.1) (operation_of call.header.operation)
        (unnamed caller address call live.rest.link other) (not_connect call.header.operation (subst (λ n. (n == 0) ≡ false) hears.1 none)) refl
    said_left caller address (Responds response) hears other = absurd hears
    said_left caller address Garbled hears other = tt

    pub left : (heard : Heard) → IsCallHeard frame heard → IsForeign live.rest.link heard → Left (handled station live heard)
    left (Reported caller address said) hears other =
        cond_both (is_running live.values.running address) _ _ Left (λ _. said_left caller address said hears other) (λ _. tt)
    left (Resolves asker packet) hears other =
        cond_both (is_request packet.operation && is_running live.values.running packet.target.address) _ _ Left (λ _. inl (inl refl)) (λ _. tt)
    left Unreadable hears other = tt
    left Elsewhere hears other = tt
    left heard hears other = absurd hears
