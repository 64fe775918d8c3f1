-- At a Read Implicit at most one frame is sent.
use Rattle.std.proofs.Common.{◌≡◌, ◌≤◌, ◌&&◌, ℕ, Bool, true, false, nat_eq, List, [], ◌∷◌, length, Option, Some, None, Result, Ok, Err, refl, sym, ap, subst, ◌∙◌, arith}
use Rattle.std.proofs.lemmas.Bool.{cond-true, cond_both}
use Rattle.std.specs.Cmp.Lexicographic.{pointwise}
use Rattle.flash_model.specs.declared.flash.Flash.{Ghosts as Flash}
use Rattle.pn_values.specs.IpSuite.{is_zero}
use Rattle.frame_codec.specs.Frame.{frame_of}
use Rattle.frame_codec.specs.declared.udp.Caller.{Caller}
use Rattle.rpc_core.specs.Cache.{Reported as Looked, new, again, old}
use Rattle.rpc_core.specs.Call.{Asked as Called}
use Rattle.rpc_core.specs.Response.{response_of}
use Rattle.records.specs.declared.status.call_fault.CallFault.{CallFault}
use Rattle.records.specs.declared.status.operation.Operation.{Operation}
use Rattle.records.specs.declared.status.operation.Operation.TheVariants.{ReadImplicit}
use Rattle.records.specs.status.Operation.{operation_of}
use Rattle.relations.specs.RelationState.{uuid_of}
use Rattle.asked_records.specs.Asked.{AskedState, is_repeat}
use Rattle.asked_records.specs.declared.question.Question.{Question}
use Rattle.asked_records.specs.declared.status.Unanswered.TheVariants.{Busy}
use Rattle.settings_journal.specs.settings_store.Machine.{Outcome}
use Rattle.device_frames.specs.declared.event.Event.{Event}
use Rattle.device_frames.specs.declared.event.Event.TheVariants.{Frame, Call as Joined, Tick, Neighbour, Application}
use Rattle.device_frames.specs.declared.note.Note.{Note}
use Rattle.device_frames.specs.Heard.{Calls, Heard, Reported, heard_content, heard_frame, heard_of, is_own, said_by, said_first}
use Rattle.device_frames.specs.Relation.{where_due}
use Rattle.device_frames.specs.Sent.{Sent}
use Rattle.device_core.specs.Asking.{Asking, asking_of, refused_sent}
use Rattle.device_core.specs.State.{Live, Rest, State, Station}
use Rattle.device_core.specs.Steps.{Steps}
use Rattle.device_core.specs.Handled.{Handled, Moves, Refuses, handled, handled_asking, handled_blocks, handled_call, handled_looked, handled_question, is_running}
use Rattle.device_core.specs.Machine.{handled_step, heard_step}
use Rattle.octets_law.specs.Octets.{args_of, in_order, part}
use Rattle.octets_law.specs.Owed.{IsFor, is_whole_call}
use Rattle.octets_law.proofs.CallWhole.{both, call_whole}
use Rattle.octets_law.proofs.DatagramWhole.{datagram_whole}
use Rattle.end_laws.proofs.CyclicAccepting.{same_octets}
use Rattle.answers_law.specs.Device.{IsReadImplicit}

module _ (outcomes : List Outcome) (station : Station) (live : Live) where
  -- At most one frame is sent.
  abbrev Few : Handled → Type 0
  Few what = length (handled_step outcomes station live what).frames ≤ 1

  refused_few : (why : Note) → Few (Refuses why)
  unfolding handled_step
  refused_few why = omega arith

  none_few : (rest : Rest) → Few (Moves rest [])
  unfolding handled_step
  none_few rest = omega arith

  one_few : (rest : Rest) (sent : Sent) → Few (Moves rest (sent ∷ []))
  unfolding handled_step
  one_few rest sent = omega arith

  due_few : (rest : Rest) (due : Bool) (sent : Sent) → Few (Moves rest (where_due due (sent ∷ [])))
  due_few rest true sent = one_few rest sent
  due_few rest false sent = none_few rest

  displaced_few : (rest : Rest) (displaced : Option Question) → Few (Moves rest (refused_sent station.options live.values.running.suite.address Busy displaced live.rest.calls))
  displaced_few rest None = none_few rest
  displaced_few rest (Some other) =
      cond_both (is_zero live.values.running.suite.address) _ _ (λ (l : List Sent). Few (Moves rest l)) (λ _. none_few rest) (λ _. due_few rest _ _)

  question_few : (question : Question) (displaced : Option Question) (asked : Option AskedState) → Few (handled_question station live question displaced asked)
  question_few question displaced (Some asked) = displaced_few _ displaced
  question_few question displaced None = due_few _ _ _

  module _ (caller : Caller) (call : Called) (blocks : List ℕ) where
    asking_few : (asking : Result (Option Asking) CallFault) → Few (handled_asking station live caller call blocks ReadImplicit asking)
    asking_few (Ok None) = one_few _ _
    asking_few (Ok (Some asking)) = question_few asking.0 _ _
    asking_few (Err why) = one_few _ _

    looked_few : (found : Looked) → Few (handled_looked station live caller call blocks ReadImplicit found)
    looked_few new = cond_both (is_repeat call.header.activity call.header.sequence live.rest.asked) _ _ Few (λ _. none_few live.rest)
        (λ _. asking_few (asking_of live.rest.real station.named (uuid_of live.rest.link) caller call blocks ReadImplicit))
    looked_few (again frame) = one_few _ _
    looked_few old = refused_few _

    reported_few : (address : List ℕ) → operation_of call.header.operation ≡ Some ReadImplicit → call.blocks ≡ Some blocks
        → Few (handled station live (Reported caller address (Calls call)))
    reported_few address operation counted =
        cond_both (is_running live.values.running address) _ _ Few
        (λ _. subst (λ (o : Option Operation). Few (handled_call station live caller call o)) (sym operation)
        (subst (λ (b : Option (List ℕ)). Few (handled_blocks station live caller call ReadImplicit b)) (sym counted) (looked_few _)))
        (λ _. refused_few _)

  -- The call that is heard is the whole one.
  call_few : (octets : List ℕ) (caller : Caller) (to : List ℕ) → is_whole_call octets ≡ true → in_order 68 2 octets ≡ 5
      → length (heard_step outcomes station live (Reported caller to (said_by octets))).frames ≤ 1
  unfolding heard_step operation_of said_by
  call_few octets caller to whole operation =
      let it = call_whole octets whole in
      let reads : operation_of it.call.header.operation ≡ Some ReadImplicit = ap operation_of (sym it.placed.operation ∙ operation) in
      let said : Reported caller to (said_by octets) ≡ Reported caller to (Calls it.call) = ap (λ r. Reported caller to (said_first r (response_of octets))) it.read in
      subst (λ (h : Heard). Few (handled station live h)) (sym said) (reported_few caller it.call (args_of octets) to reads it.blocks)

  event_few : (event : Event) (octets : List ℕ) → IsFor station.identity.mac live.values.running.suite.address event octets → is_whole_call octets ≡ true → in_order 68 2 octets ≡ 5
      → length (heard_step outcomes station live (heard_of station.identity event)).frames ≤ 1
  unfolding heard_of
  event_few (Joined caller to octets) call (at, called) whole operation =
      subst (λ (l : List ℕ). length (heard_step outcomes station live (Reported caller to (said_by l))).frames ≤ 1) called (call_few call caller to whole operation)
  event_few (Frame frame) call (own, at, is, body) whole operation =
      let it = datagram_whole frame.items is in
      let mine : is_own station.identity it.meaning.destination ≡ true =
      ap (λ (l : List ℕ). pointwise nat_eq l station.identity.mac.octets) (it.destination ∙ own) ∙ same_octets station.identity.mac.octets in
      let caller : Caller = record { mac = it.meaning.source; endpoint = record { address = it.source; port = it.port } } in
      let heard : heard_frame station.identity (frame_of frame.items) ≡ Reported caller (part 30 4 frame.items) (said_by call) =
      ap (heard_frame station.identity) it.read
      ∙ ap (heard_content station.identity it.meaning.destination it.meaning.source) it.content
      ∙ cond-true (is_own station.identity it.meaning.destination && true) _ _ (both _ _ mine refl)
      ∙ ap (λ l. Reported caller (part 30 4 frame.items) (said_by l)) (sym body) in
      subst (λ (h : Heard). length (heard_step outcomes station live h).frames ≤ 1) (sym heard) (call_few call caller (part 30 4 frame.items) whole operation)
  event_few Tick call for whole operation = absurd for
  event_few (Application local) call for whole operation = absurd for
  event_few (Neighbour neighbour) call for whole operation = absurd for

-- The step of a Read Implicit.
pub implicit_at : {F : Type 0} {S : ℕ} (as_flash : Flash F S) (before after : State F) (event : Event) (sent : List (List ℕ)) (said : Note)
    → Steps as_flash before (heard_of before.station.identity event) sent said after → (call : List ℕ)
    → IsReadImplicit before.station.identity.mac before.live.values.running.suite.address event call → length sent ≤ 1
implicit_at as_flash before after event sent said step call it =
    subst (λ (l : List (List ℕ)). length l ≤ 1) (sym step.frames) (event_few step.outcomes before.station before.live event call it.for it.whole it.operation)
