-- What stays true of the places of a controller and of its request after a plug, with each thing that a turn does.
use Rattle.std.proofs.Common.{◌≡◌, ◌⊎◌, inl, inr, ◌<◌, ◌≤◌, ◌==◌, ◌&&◌, ◌+◌, ◌++◌, ◌%◌, ℕ, Bool, true, false, cond, List, [], ◌∷◌, length, Option, Some, None}
use Rattle.std.proofs.Common.{refl, sym, ap, subst, ◌∙◌, append_assoc, arith}
use Rattle.std.specs.Prelude.{if◌then◌else◌}
use Rattle.std.specs.List.{AllByRecursion, list_any}
use Rattle.std.proofs.lemmas.Bool.{and_from, and_parts, eq-eqb, eqb-true, false≢true}
use Rattle.std.proofs.lemmas.List.{length-append}
use Rattle.pn_values.specs.declared.mac.Mac.{Mac}
use Rattle.frame_codec.specs.declared.udp.Caller.{Caller}
use Rattle.rpc_core.specs.Call.{Asked as Call}
use Rattle.rpc_core.specs.Response.{Answered as Response, is_done}
use Rattle.connect_blocks.specs.declared.control.ControlBlock.{ControlBlock}
use Rattle.connect_blocks.specs.declared.plug_control.PlugControlBlock.{PlugControlBlock}
use Rattle.record_blocks.specs.declared.alarm_notification.AlarmNotification.{AlarmNotification}
use Rattle.plans.specs.declared.parts.Parts.{Parts}
use Rattle.plan_places.specs.declared.place.PlaceState.{PlaceState}
use Rattle.plan_places.specs.declared.place.PlaceState.TheVariants.{There, Differs, Gone, Wrong, Plugged, Writing, Ending, Ready, Refused}
use Rattle.plan_places.specs.declared.report.PlaceReport.{PlaceReport}
use Rattle.plan_places.specs.declared.report.PlaceReport.TheVariants as reports
use Rattle.plan_places.specs.declared.report.Plug.{Plug}
use Rattle.plan_places.specs.Listed.{is_listed_in}
use Rattle.plan_places.specs.Places.{has_turn, has_turn_at, is_about, is_at, is_awaited, is_told, next_waiting, opened, reported_state}
use Rattle.plan_places.specs.Places.{told_by, with_state}
use Rattle.controller_messages.specs.declared.plug_request.PlugRequest.{PlugRequest}
use Rattle.controller_messages.specs.declared.plug_request.PlugStep.{PlugStep}
use Rattle.controller_messages.specs.declared.plug_request.PlugStep.TheVariants.{Record, PrmEnd}
use Rattle.controller_messages.specs.declared.request.Request.TheVariants as asks
use Rattle.controller_messages.specs.declared.setup.Setup.{Setup}
use Rattle.controller_messages.specs.PlugRequests.{is_plug_answer, is_plug_ready, plug_answer}
use Rattle.controller_messages.specs.Sent.{Sent, Requests, Accesses, Parametrizes, Agrees, Cycles, Confirms, Replies, Ends, ready_answer}
use Rattle.controller_core.specs.stored.State.{Live}
use Rattle.controller_core.specs.Machine.{is_end_of, state_of_step, step_from}
use Rattle.end_laws.specs.turns.Beside.{first_asked}
use Rattle.plug_ends.specs.Told.{AreNumberedFrom, LastPlug, concerns, is_about_any, report_in}
use Rattle.plug_ends.proofs.AskedWords.{IsRecord, IsStateOf, WasPlug}
use Rattle.plug_ends.proofs.AskedLists.{last_back, last_more, last_now, last_number, last_was, none_was, plug_is, plug_number, was_few, was_more}
use Rattle.plug_ends.proofs.AskedPlaces.{AreBy, States, awaited_by, first_by, ready_by, ready_there, set_by, set_there, states_after, states_first, states_ready}
use Rattle.plug_ends.proofs.AskedPlaces.{states_with, told_as, told_there, turn_by, waits_by}
use Rattle.plug_ends.proofs.AskedTurns.{ArePlain, Closed, IsPlain, View, asked_view, next_request, over_view, ready_view, unplugged_by, view_of, viewed}

-- ---- what is known

-- The parameters of the plug with this number ended here: what has still to be asked here belongs to a later plug.
pub record Ended (alarms : List AlarmNotification) (plug : Option PlugRequest) (states : States) (slot subslot number : ℕ) : Type 0 where
  pub was : WasPlug slot subslot number alarms
  pub plugged : (later : ℕ) → states slot subslot ≡ Plugged later → number < later
  pub writing : (later : ℕ) → states slot subslot ≡ Writing later → number < later
  pub request : (r : PlugRequest) → plug ≡ Some r → r.slot ≡ slot → r.subslot ≡ subslot → IsRecord r.step → number < r.number

-- The ApplicationReady of the plug with this number was confirmed here.
pub record Done (alarms : List AlarmNotification) (v : View) (states : States) (slot subslot number : ℕ) : Type 0 where
  pub was : WasPlug slot subslot number alarms
  pub ready : v.stands ≡ true → LastPlug slot subslot number alarms → states slot subslot ≡ Ready number
  pub there : v.stands ≡ true → list_any (is_at slot subslot) v.places.places ≡ true

-- The places are in these states, which belong to the last plugs; the request belongs to a plug.
pub record Base (alarms : List AlarmNotification) (v : View) (states : States) : Type 0 where
  pub by : AreBy states v.places.places
  pub told : (slot subslot : ℕ) → IsStateOf alarms slot subslot (states slot subslot)
  pub request : (r : PlugRequest) → v.plug ≡ Some r → WasPlug r.slot r.subslot r.number alarms
  pub turn : (r : PlugRequest) → v.plug ≡ Some r → has_turn (states r.slot r.subslot) ≡ true
      → states r.slot r.subslot ≡ state_of_step r.step r.number
  pub ending : (r : PlugRequest) → v.plug ≡ Some r → r.step ≡ PrmEnd → Ended alarms v.plug states r.slot r.subslot r.number

-- ---- what a turn does

-- The turn of a place begins.
pub record Begins (plan : Parts) (after : Option PlugRequest) : Type 0 where
  pub request : PlugRequest
  pub is : after ≡ Some request
  pub first : request.step ≡ step_from plan request.slot request.subslot 0

-- A record is granted, or the plan goes on without it, and the next step of the same place is asked.
pub record Follows (setup : Setup) (IsResponse : Response → Type 0) (before after : Option PlugRequest) : Type 0 where
  pub request : PlugRequest
  pub was : before ≡ Some request
  pub number : ℕ
  pub step : request.step ≡ Record number
  pub response : Response
  pub hears : IsResponse response
  pub answers : is_plug_answer setup request response.header.activity response.header.sequence ≡ true
  pub positive : (is_done response.status ≡ true) ⊎ (setup.plan.continue_on_refused_record ≡ true)
  pub next : PlugRequest
  pub is : after ≡ Some next
  pub slot : next.slot ≡ request.slot
  pub subslot : next.subslot ≡ request.subslot
  pub same : next.number ≡ request.number
  pub from : next.step ≡ step_from setup.plan request.slot request.subslot (number + 1)

abbrev pub StepsBy : Setup → (Response → Type 0) → Option PlugRequest → Option PlugRequest → Type 0
StepsBy setup IsResponse before after = (after ≡ before) ⊎ ((after ≡ None) ⊎ (Begins setup.plan after ⊎ Follows setup IsResponse before after))

-- An answer to the ApplicationReady of a plug.
pub record IsConfirming (setup : Setup) (alarms : List AlarmNotification) (v : View) (states : States) (answer : Response) : Type 0 where
  pub call : Call
  pub block : PlugControlBlock
  pub is : answer ≡ plug_answer call block
  pub right : is_plug_ready setup block ≡ true
  pub slot : ℕ
  pub subslot : ℕ
  pub done : Done alarms v states slot subslot block.alarm_sequence_number

-- An answer to that of the start-up.
pub record IsOfStart (answer : Response) : Type 0 where
  pub call : Call
  pub block : ControlBlock
  pub is : answer ≡ ready_answer call block

-- A message that is sent.
abbrev pub IsSaid : Setup → List AlarmNotification → View → States → Sent → Type 0
IsSaid setup alarms v states (Parametrizes device request) = (v.plug ≡ Some request) × (device ≡ v.device)
IsSaid setup alarms v states (Agrees caller answer) = IsOfStart answer ⊎ IsConfirming setup alarms v states answer
IsSaid setup alarms v states (Requests device request) = Unit {0}
IsSaid setup alarms v states (Accesses device request octets) = Unit {0}
IsSaid setup alarms v states (Cycles route shown counter) = Unit {0}
IsSaid setup alarms v states (Confirms route priority header ack) = Unit {0}
IsSaid setup alarms v states (Replies route priority header) = Unit {0}
IsSaid setup alarms v states (Ends route header reason) = Unit {0}

-- One of these.
pub record IsIn {A : Type 0} (x : A) (xs : List A) : Type 0 where
  pub front : List A
  pub rest : List A
  pub are : xs ≡ front ++ x ∷ rest

-- ---- choices

some_is : {A : Type 0} (x y : A) → Some x ≡ Some y → x ≡ y
some_is x y e = cc

none_some : {A : Type 0} {x : A} → ◌≡◌ {A = Option A} None (Some x) → ⊥
none_some e = absurd cc

all_more : {A : Type 0} (P : A → Type 0) (xs ys : List A) → AllByRecursion P xs → AllByRecursion P ys → AllByRecursion P (xs ++ ys)
all_more P [] ys one other = other
all_more P (x ∷ xs) ys one other = (one.0, all_more P xs ys one.1 other)

all_as : {A : Type 0} (P Q : A → Type 0) → ((x : A) → P x → Q x) → (xs : List A) → AllByRecursion P xs → AllByRecursion Q xs
all_as P Q to [] all = tt
all_as P Q to (x ∷ xs) all = (to x all.0, all_as P Q to xs all.1)

plain_said : (setup : Setup) (alarms : List AlarmNotification) (v : View) (states : States) (message : Sent) → IsPlain message → IsSaid setup alarms v states message
plain_said setup alarms v states (Parametrizes device request) plain = absurd plain
plain_said setup alarms v states (Agrees caller answer) plain = inl (record { call = plain.0; block = plain.1; is = plain.2 })
plain_said setup alarms v states (Requests device request) plain = tt
plain_said setup alarms v states (Accesses device request octets) plain = tt
plain_said setup alarms v states (Cycles route shown counter) plain = tt
plain_said setup alarms v states (Confirms route priority header ack) plain = tt
plain_said setup alarms v states (Replies route priority header) plain = tt
plain_said setup alarms v states (Ends route header reason) plain = tt

all_plain : (setup : Setup) (alarms : List AlarmNotification) (v : View) (states : States) (sent : List Sent) → ArePlain sent → AllByRecursion (IsSaid setup alarms v states) sent
all_plain setup alarms v states sent plain = all_as IsPlain (IsSaid setup alarms v states) (plain_said setup alarms v states) sent plain

module _ {A : Type 0} (x : A) where
  in_front : (xs more : List A) → IsIn x xs → IsIn x (more ++ xs)
  in_front xs more is = record {
    front = more ++ is.front;
    rest = is.rest;
    are = ap (λ (l : List A). more ++ l) is.are ∙ sym (append_assoc more is.front (x ∷ is.rest));
  }

  in_back : (xs more : List A) → IsIn x xs → IsIn x (xs ++ more)
  in_back xs more is = record {
    front = is.front;
    rest = is.rest ++ more;
    are = ap (λ (l : List A). l ++ more) is.are ∙ append_assoc is.front (x ∷ is.rest) more;
  }

  in_last : (xs : List A) → IsIn x (xs ++ x ∷ [])
  in_last xs = record { front = xs; rest = []; are = refl }

-- a state of a place that is asked
step_told : (step : PlugStep) (number : ℕ) (alarms : List AlarmNotification) (slot subslot : ℕ) → LastPlug slot subslot number alarms
    → IsStateOf alarms slot subslot (state_of_step step number)
step_told (Record which) number alarms slot subslot last = last
step_told PrmEnd number alarms slot subslot last = last

told_step : (step : PlugStep) (number : ℕ) (alarms : List AlarmNotification) (slot subslot : ℕ)
    → IsStateOf alarms slot subslot (state_of_step step number) → LastPlug slot subslot number alarms
told_step (Record which) number alarms slot subslot last = last
told_step PrmEnd number alarms slot subslot last = last

step_unplugged : (step : PlugStep) (number later : ℕ) → state_of_step step number ≡ Plugged later → ⊥
step_unplugged (Record which) number later e = absurd cc
step_unplugged PrmEnd number later e = absurd cc

step_writing : (step : PlugStep) (number later : ℕ) → state_of_step step number ≡ Writing later → number ≡ later
step_writing (Record which) number later e = cc
step_writing PrmEnd number later e = absurd cc

end_unwritten : (step : PlugStep) (number later : ℕ) → step ≡ PrmEnd → state_of_step step number ≡ Writing later → ⊥
end_unwritten (Record which) number later f e = absurd cc
end_unwritten PrmEnd number later f e = absurd cc

end_no_record : (step : PlugStep) → step ≡ PrmEnd → IsRecord step → ⊥
end_no_record step f is = both is.number (sym is.is ∙ f)
  where
    both : (n : ℕ) → Record n ≡ PrmEnd → ⊥
    both n e = absurd cc

turn_unready : (state : PlaceState) (number : ℕ) → has_turn state ≡ true → state ≡ Ready number → ⊥
turn_unready state number e f = none number (sym (ap (λ (s : PlaceState). has_turn s) f) ∙ e)
  where
    none : (n : ℕ) → has_turn (Ready n) ≡ true → ⊥
    none n g = absurd cc

plugged_unready : (later number : ℕ) → Plugged later ≡ Ready number → ⊥
plugged_unready later number e = absurd cc

-- a state in one place, and in the others
set_case : (states : States) (slot subslot : ℕ) (state : PlaceState) (at below : ℕ) (Q : PlaceState → Type 0) → (at ≡ slot → below ≡ subslot → Q state)
    → Q (states at below) → Q (states_with slot subslot state states at below)
set_case states slot subslot state at below Q here other = by_test (at == slot && below == subslot) refl
  where
    by_test : (b : Bool) → (at == slot && below == subslot) ≡ b → Q (cond b state (states at below))
    by_test true e =
        let both = and_parts (at == slot) (below == subslot) e in
        here (eqb-true at slot both.0) (eqb-true below subslot both.1)
    by_test false e = other

set_here : (states : States) (slot subslot : ℕ) (state : PlaceState) → states_with slot subslot state states slot subslot ≡ state
set_here states slot subslot state =
    ap (λ (b : Bool). cond b state (states slot subslot))
    (and_from (slot == slot) (subslot == subslot) (eq-eqb slot slot refl) (eq-eqb subslot subslot refl))

-- what is true at one place is true at the same one
along : (P : ℕ → ℕ → Type 0) (slot subslot at below : ℕ) → at ≡ slot → below ≡ subslot → P at below → P slot subslot
along P slot subslot at below one other is = subst (λ (n : ℕ). P slot n) other (subst (λ (n : ℕ). P n below) one is)

-- ---- a step is asked of a place

module _ (all : List AlarmNotification) (v : View) (states : States) (base : Base all v states) (request : PlugRequest)
    (last : LastPlug request.slot request.subslot request.number all)
    (unready : (number : ℕ) → states request.slot request.subslot ≡ Ready number → ⊥)
    (upper : (number : ℕ) → Ended all v.plug states request.slot request.subslot number → IsRecord request.step → number < request.number) where
  abbrev state : PlaceState
  state = state_of_step request.step request.number

  abbrev now : States
  now = states_with request.slot request.subslot (state_of_step request.step request.number) states

  is_written : (later : ℕ) → state_of_step request.step request.number ≡ Writing later → IsRecord request.step
  is_written later e = by_step request.step refl
    where
      by_step : (step : PlugStep) → request.step ≡ step → IsRecord request.step
      by_step (Record which) f = record { number = which; is = f }
      by_step PrmEnd f = absurd (end_unwritten request.step request.number later f e)

  asked_ended : (at below number : ℕ) → Ended all v.plug states at below number → Ended all (Some request) now at below number
  asked_ended at below number ended = record {
    was = ended.was;
    plugged = set_case states request.slot request.subslot state at below (λ (s : PlaceState). (later : ℕ) → s ≡ Plugged later → number < later)
        (λ one other later f. absurd (step_unplugged request.step request.number later f)) ended.plugged;
    writing = set_case states request.slot request.subslot state at below (λ (s : PlaceState). (later : ℕ) → s ≡ Writing later → number < later)
        (λ one other later f. subst (λ (n : ℕ). number < n) (step_writing request.step request.number later f)
        (upper number (along (λ s ss. Ended all v.plug states s ss number) request.slot request.subslot at below one other ended) (is_written later f)))
        ended.writing;
    request = λ r e one other is. subst (λ (q : PlugRequest). number < q.number) (some_is request r e)
        (upper number (along (λ s ss. Ended all v.plug states s ss number) request.slot request.subslot at below
        (sym (ap (λ (q : PlugRequest). q.slot) (some_is request r e) ∙ one)) (sym (ap (λ (q : PlugRequest). q.subslot) (some_is request r e) ∙ other)) ended)
        (subst (λ (q : PlugRequest). IsRecord q.step) (sym (some_is request r e)) is));
  }

  asked_done : (at below number : ℕ) → Done all v states at below number
      → Done all (asked_view request.slot request.subslot request.number request v) now at below number
  asked_done at below number done = record {
    was = done.was;
    ready = set_case states request.slot request.subslot state at below (λ (s : PlaceState). v.stands ≡ true → LastPlug at below number all → s ≡ Ready number)
        (λ one other up plug. absurd (unready number
        (along (λ s ss. states s ss ≡ Ready number) request.slot request.subslot at below one other (done.ready up plug)))) done.ready;
    there = λ up. set_there at below request.slot request.subslot state v.places (done.there up);
  }

  asked_base : Base all (asked_view request.slot request.subslot request.number request v) now
  asked_base = record {
    by = set_by states request.slot request.subslot state v.places base.by;
    told = λ at below. set_case states request.slot request.subslot state at below (λ (s : PlaceState). IsStateOf all at below s)
        (λ one other. step_told request.step request.number all at below
        (along (λ s ss. LastPlug s ss request.number all) at below request.slot request.subslot (sym one) (sym other) last))
        (base.told at below);
    request = λ r e. subst (λ (q : PlugRequest). WasPlug q.slot q.subslot q.number all) (some_is request r e)
        (last_was request.slot request.subslot request.number all last);
    turn = λ r e turn. subst (λ (q : PlugRequest). now q.slot q.subslot ≡ state_of_step q.step q.number) (some_is request r e)
        (set_here states request.slot request.subslot state);
    ending = λ r e is. subst (λ (q : PlugRequest). Ended all (Some request) now q.slot q.subslot q.number) (some_is request r e)
        (ends (ap (λ (q : PlugRequest). q.step) (some_is request r e) ∙ is));
  }
    where
      ends : request.step ≡ PrmEnd → Ended all (Some request) now request.slot request.subslot request.number
      ends is = record {
        was = last_was request.slot request.subslot request.number all last;
        plugged = λ later f. absurd (step_unplugged request.step request.number later (sym (set_here states request.slot request.subslot state) ∙ f));
        writing = λ later f. absurd (end_unwritten request.step request.number later is (sym (set_here states request.slot request.subslot state) ∙ f));
        request = λ r e one other record_is. absurd (end_no_record request.step is
            (subst (λ (q : PlugRequest). IsRecord q.step) (sym (some_is request r e)) record_is));
      }

-- ---- a place is refused

module _ (all : List AlarmNotification) (v : View) (states : States) (base : Base all v states) (slot subslot : ℕ)
    (turn : has_turn (states slot subslot) ≡ true) where
  abbrev refused : States
  refused = states_with slot subslot Refused states

  abbrev after_refused : View
  after_refused = viewed None (with_state slot subslot Refused v.places) v.stands v.device

  refused_ended : (at below number : ℕ) → Ended all v.plug states at below number → Ended all None refused at below number
  refused_ended at below number ended = record {
    was = ended.was;
    plugged = set_case states slot subslot Refused at below (λ (s : PlaceState). (later : ℕ) → s ≡ Plugged later → number < later)
        (λ one other later f. absurd (unplugged later f)) ended.plugged;
    writing = set_case states slot subslot Refused at below (λ (s : PlaceState). (later : ℕ) → s ≡ Writing later → number < later)
        (λ one other later f. absurd (unwritten later f)) ended.writing;
    request = λ r e one other is. absurd (none_some e);
  }
    where
      unplugged : (later : ℕ) → Refused ≡ Plugged later → ⊥
      unplugged later f = absurd cc

      unwritten : (later : ℕ) → Refused ≡ Writing later → ⊥
      unwritten later f = absurd cc

  refused_done : (at below number : ℕ) → Done all v states at below number → Done all after_refused refused at below number
  refused_done at below number done = record {
    was = done.was;
    ready = set_case states slot subslot Refused at below (λ (s : PlaceState). v.stands ≡ true → LastPlug at below number all → s ≡ Ready number)
        (λ one other up plug. absurd (turn_unready (states slot subslot) number turn
        (along (λ s ss. states s ss ≡ Ready number) slot subslot at below one other (done.ready up plug)))) done.ready;
    there = λ up. set_there at below slot subslot Refused v.places (done.there up);
  }

  refused_base : Base all after_refused refused
  refused_base = record {
    by = set_by states slot subslot Refused v.places base.by;
    told = λ at below. set_case states slot subslot Refused at below (λ (s : PlaceState). IsStateOf all at below s) (λ one other. tt) (base.told at below);
    request = λ r e. absurd (none_some e);
    turn = λ r e. absurd (none_some e);
    ending = λ r e. absurd (none_some e);
  }

-- ---- an ApplicationReady comes

told_last : (number : ℕ) (state : PlaceState) (alarms : List AlarmNotification) (slot subslot : ℕ) → is_told number state ≡ true
    → IsStateOf alarms slot subslot state → LastPlug slot subslot number alarms
told_last number There alarms slot subslot e is = absurd cc
told_last number Differs alarms slot subslot e is = absurd cc
told_last number Gone alarms slot subslot e is = absurd cc
told_last number Wrong alarms slot subslot e is = absurd cc
told_last number (Plugged of) alarms slot subslot e is = absurd cc
told_last number (Writing of) alarms slot subslot e is = absurd cc
told_last number (Ending of) alarms slot subslot e is = subst (λ (n : ℕ). LastPlug slot subslot n alarms) (eqb-true of number e) is
told_last number (Ready of) alarms slot subslot e is = subst (λ (n : ℕ). LastPlug slot subslot n alarms) (eqb-true of number e) is
told_last number Refused alarms slot subslot e is = absurd cc

unplug_some : (b : Bool) (plug : Option PlugRequest) (r : PlugRequest) → unplugged_by b plug ≡ Some r → plug ≡ Some r
unplug_some true plug r e = absurd (none_some e)
unplug_some false plug r e = e

ready_case : (states : States) (number at below : ℕ) (Q : PlaceState → Type 0) → (is_told number (states at below) ≡ true → Q (Ready number))
    → Q (states at below) → Q (states_ready number states at below)
ready_case states number at below Q here other = by_test (is_told number (states at below)) refl
  where
    by_test : (b : Bool) → is_told number (states at below) ≡ b → Q (cond b (Ready number) (states at below))
    by_test true e = here e
    by_test false e = other

module _ (all : List AlarmNotification) (v : View) (states : States) (base : Base all v states) (number : ℕ) where
  abbrev readied_now : States
  readied_now = states_ready number states

  ready_ended : (at below of : ℕ) → Ended all v.plug states at below of → Ended all (ready_view number v).plug readied_now at below of
  ready_ended at below of ended = record {
    was = ended.was;
    plugged = ready_case states number at below (λ (s : PlaceState). (later : ℕ) → s ≡ Plugged later → of < later)
        (λ e later f. absurd (unplugged later f)) ended.plugged;
    writing = ready_case states number at below (λ (s : PlaceState). (later : ℕ) → s ≡ Writing later → of < later)
        (λ e later f. absurd (unwritten later f)) ended.writing;
    request = λ r e. ended.request r (unplug_some (is_end_of number v.plug) v.plug r e);
  }
    where
      unplugged : (later : ℕ) → Ready number ≡ Plugged later → ⊥
      unplugged later f = absurd cc

      unwritten : (later : ℕ) → Ready number ≡ Writing later → ⊥
      unwritten later f = absurd cc

  ready_done : (at below of : ℕ) → Done all v states at below of → Done all (ready_view number v) readied_now at below of
  ready_done at below of done = record {
    was = done.was;
    ready = λ up plug. ready_case states number at below (λ (s : PlaceState). s ≡ Ready of)
        (λ e. ap (λ (n : ℕ). Ready n) (sym (eqb-true of number (sym (ap (λ (s : PlaceState). is_told number s) (done.ready up plug)) ∙ e))))
        (done.ready up plug);
    there = λ up. ready_there at below number v.places (done.there up);
  }

  ready_base : Base all (ready_view number v) readied_now
  ready_base = record {
    by = ready_by states number v.places base.by;
    told = λ at below. ready_case states number at below (λ (s : PlaceState). IsStateOf all at below s)
        (λ e. told_last number (states at below) all at below e (base.told at below)) (base.told at below);
    request = λ r e. base.request r (was r e);
    turn = λ r e. ready_case states number r.slot r.subslot (λ (s : PlaceState). has_turn s ≡ true → s ≡ state_of_step r.step r.number)
        (λ told turn. absurd (no_turn turn)) (base.turn r (was r e));
    ending = λ r e is. ready_ended r.slot r.subslot r.number (base.ending r (was r e) is);
  }
    where
      was : (r : PlugRequest) → (ready_view number v).plug ≡ Some r → v.plug ≡ Some r
      was r e = unplug_some (is_end_of number v.plug) v.plug r e

      no_turn : has_turn (Ready number) ≡ true → ⊥
      no_turn e = absurd cc

-- ---- an alarm is accepted

after_case : (states : States) (alarm : AlarmNotification) (at below : ℕ) (Q : PlaceState → Type 0) → (concerns at below alarm ≡ false → Q (states at below))
    → ((report : PlaceReport) → report_in alarm ≡ Some report → is_about report (record { slot = at; subslot = below; state = There }) ≡ true
    → Q (reported_state report))
    → Q (states_after (report_in alarm) states at below)
after_case states alarm at below Q other here = by_report (report_in alarm) refl
  where
    by_report : (found : Option PlaceReport) → report_in alarm ≡ found → Q (states_after found states at below)
    by_report None e = other (ap (λ (o : Option PlaceReport). is_about_any at below o) e)
    by_report (Some report) e = by_test (is_about report (record { slot = at; subslot = below; state = There })) refl
      where
        by_test : (b : Bool) → is_about report (record { slot = at; subslot = below; state = There }) ≡ b → Q (cond b (reported_state report) (states at below))
        by_test true f = here report e f
        by_test false f = other (ap (λ (o : Option PlaceReport). is_about_any at below o) e ∙ f)

module _ (alarms : List AlarmNotification) (v : View) (states : States) (base : Base alarms v states) (alarm : AlarmNotification)
    (numbered : alarm.alarm_specifier % 0x800 ≡ length alarms) where
  abbrev alarms_now : List AlarmNotification
  alarms_now = alarms ++ alarm ∷ []

  abbrev told_now : States
  told_now = states_after (report_in alarm) states

  abbrev after_told : View
  after_told = viewed v.plug (told_by (report_in alarm) v.places) v.stands v.device

  plug_count : (plug : Plug) → report_in alarm ≡ Some (reports.Plugged plug) → plug.number ≡ length alarms
  plug_count plug e = plug_number alarm plug e ∙ numbered

  told_is : (at below : ℕ) (report : PlaceReport) → report_in alarm ≡ Some report → is_about report (record { slot = at; subslot = below; state = There }) ≡ true
      → IsStateOf alarms_now at below (reported_state report)
  told_is at below (reports.Pulled affected) e f = tt
  told_is at below (reports.PluggedWrong plug) e f = tt
  told_is at below (reports.Plugged plug) e f =
      let both = and_parts (at == plug.slot) (below == plug.subslot) f in
      subst (λ (n : ℕ). LastPlug at below n alarms_now) (sym (plug_count plug e))
      (last_now at below alarms alarm (plug_is alarm plug at below e (eqb-true at plug.slot both.0) (eqb-true below plug.subslot both.1)))

  more_told : (at below : ℕ) (state : PlaceState) → concerns at below alarm ≡ false → IsStateOf alarms at below state → IsStateOf alarms_now at below state
  more_told at below There e is = tt
  more_told at below Differs e is = tt
  more_told at below Gone e is = tt
  more_told at below Wrong e is = tt
  more_told at below (Plugged number) e is = last_more at below number alarms alarm e is
  more_told at below (Writing number) e is = last_more at below number alarms alarm e is
  more_told at below (Ending number) e is = last_more at below number alarms alarm e is
  more_told at below (Ready number) e is = last_more at below number alarms alarm e is
  more_told at below Refused e is = tt

  reported_later : (report : PlaceReport) → report_in alarm ≡ Some report → (number later : ℕ) → number < length alarms
      → reported_state report ≡ Plugged later → number < later
  reported_later (reports.Pulled affected) e number later few f = absurd cc
  reported_later (reports.PluggedWrong plug) e number later few f = absurd cc
  reported_later (reports.Plugged plug) e number later few f =
      subst (λ (n : ℕ). number < n) (sym (plug_count plug e) ∙ same plug.number later f) few
    where
      same : (n m : ℕ) → Plugged n ≡ Plugged m → n ≡ m
      same n m g = cc

  reported_unwritten : (report : PlaceReport) (later : ℕ) → reported_state report ≡ Writing later → ⊥
  reported_unwritten (reports.Pulled affected) later f = absurd cc
  reported_unwritten (reports.PluggedWrong plug) later f = absurd cc
  reported_unwritten (reports.Plugged plug) later f = absurd cc

  reported_no_turn : (report : PlaceReport) → has_turn (reported_state report) ≡ true → ⊥
  reported_no_turn (reports.Pulled affected) f = absurd cc
  reported_no_turn (reports.PluggedWrong plug) f = absurd cc
  reported_no_turn (reports.Plugged plug) f = absurd cc

  told_ended : (at below number : ℕ) → Ended alarms v.plug states at below number → Ended alarms_now v.plug told_now at below number
  told_ended at below number ended = record {
    was = was_more at below number alarms (alarm ∷ []) ended.was;
    plugged = after_case states alarm at below (λ (s : PlaceState). (later : ℕ) → s ≡ Plugged later → number < later) (λ apart. ended.plugged)
        (λ report e f later g. reported_later report e number later (was_few at below number alarms ended.was) g);
    writing = after_case states alarm at below (λ (s : PlaceState). (later : ℕ) → s ≡ Writing later → number < later) (λ apart. ended.writing)
        (λ report e f later g. absurd (reported_unwritten report later g));
    request = ended.request;
  }

  told_done : (at below number : ℕ) → Done alarms v states at below number → Done alarms_now after_told told_now at below number
  told_done at below number done = record {
    was = was_more at below number alarms (alarm ∷ []) done.was;
    ready = λ up plug.
        let both = last_back at below number alarms alarm done.was plug in
        after_case states alarm at below (λ (s : PlaceState). s ≡ Ready number) (λ apart. done.ready up both.0)
        (λ report e f. absurd (false≢true (sym both.1 ∙ (ap (λ (o : Option PlaceReport). is_about_any at below o) e ∙ f))));
    there = λ up. told_there at below (report_in alarm) v.places (done.there up);
  }

  told_base : Base alarms_now after_told told_now
  told_base = record {
    by = told_as states (report_in alarm) v.places base.by;
    told = λ at below. after_case states alarm at below (λ (s : PlaceState). IsStateOf alarms_now at below s)
        (λ apart. more_told at below (states at below) apart (base.told at below)) (λ report e f. told_is at below report e f);
    request = λ r e. was_more r.slot r.subslot r.number alarms (alarm ∷ []) (base.request r e);
    turn = λ r e. after_case states alarm r.slot r.subslot (λ (s : PlaceState). has_turn s ≡ true → s ≡ state_of_step r.step r.number)
        (λ apart. base.turn r e) (λ report found f turn. absurd (reported_no_turn report turn));
    ending = λ r e is. told_ended r.slot r.subslot r.number (base.ending r e is);
  }

-- ---- a relation begins

module _ (plan : Parts) (alarms : List AlarmNotification) (none : alarms ≡ []) (v : View) (states : States) (base : Base alarms v states)
    (blocks : List ℕ) (stands : Bool) where
  abbrev after_opened : View
  after_opened = viewed v.plug (opened plan 400 blocks) stands v.device

  first_told : (at below : ℕ) → IsStateOf alarms at below (states_first 400 blocks at below)
  first_told at below = by_test (is_listed_in 400 blocks at below)
    where
      by_test : (b : Bool) → IsStateOf alarms at below (if b then Differs else There)
      by_test true = tt
      by_test false = tt

  first_no_turn : (at below : ℕ) → has_turn (states_first 400 blocks at below) ≡ true → ⊥
  first_no_turn at below e = by_test (is_listed_in 400 blocks at below) e
    where
      by_test : (b : Bool) → has_turn (if b then Differs else There) ≡ true → ⊥
      by_test true f = absurd cc
      by_test false f = absurd cc

  opened_base : Base alarms after_opened (states_first 400 blocks)
  opened_base = record {
    by = first_by 400 blocks plan.real.modules.items;
    told = first_told;
    request = base.request;
    turn = λ r e turn. absurd (first_no_turn r.slot r.subslot turn);
    ending = λ r e is. absurd (none_was r.slot r.subslot r.number alarms none (base.request r e));
  }

-- ---- all together

-- With these alarms this is seen of the controller, and it sent these messages.
pub record Reached (setup : Setup) (live : Live) (alarms : List AlarmNotification) (states0 : States) (IsResponse : Response → Type 0)
    (all : List AlarmNotification) (v : View) (sent : List Sent) : Type 0 where
  pub states : States
  pub base : Base all v states
  pub ends : (at below number : ℕ) → Ended alarms live.access.plug states0 at below number → Ended all v.plug states at below number
  pub dones : (at below number : ℕ) → Done alarms (view_of live) states0 at below number → Done all v states at below number
  pub said : AllByRecursion (IsSaid setup all v states) sent
  pub steps : StepsBy setup IsResponse live.access.plug v.plug
  pub sends : (r : PlugRequest) → v.plug ≡ Some r → (live.access.plug ≡ Some r) ⊎ IsIn (Parametrizes v.device r) sent
  pub device : (v.device ≡ live.device) ⊎ (live.access.plug ≡ None)

-- the alarms are numbered, and not too many
abbrev pub AreFew : List AlarmNotification → Type 0
AreFew all = AreNumberedFrom 0 all × (length all ≤ 2048)

few_before : (alarms : List AlarmNotification) (alarm : AlarmNotification) → length (alarms ++ alarm ∷ []) ≤ 2048 → length alarms < 2048
few_before alarms alarm le = by_length (length alarms) (length (alarms ++ alarm ∷ [])) (length-append alarms (alarm ∷ [])) le
  where
    by_length : (n m : ℕ) → m ≡ n + 1 → m ≤ 2048 → n < 2048
    by_length n m e f = omega (arith, e)

module _ (setup : Setup) (live : Live) (alarms : List AlarmNotification) (states : States) (IsResponse : Response → Type 0)
    (base : Base alarms (view_of live) states) (unbegun : live.asked ≡ Some asks.Connect → alarms ≡ []) where
  abbrev P : List AlarmNotification → View → List Sent → Type 0
  P all v sent = Reached setup live alarms states IsResponse all v sent

  start_so : P alarms (view_of live) []
  start_so = record {
    states = states;
    base = base;
    ends = λ at below number ended. ended;
    dones = λ at below number done. done;
    said = tt;
    steps = inl refl;
    sends = λ r e. inl e;
    device = inl refl;
  }

  front_so : (all : List AlarmNotification) (v : View) (sent more : List Sent) → ArePlain more → P all v sent → P all v (more ++ sent)
  front_so all v sent more plain p = record {
    states = p.states;
    base = p.base;
    ends = p.ends;
    dones = p.dones;
    said = all_more (IsSaid setup all v p.states) more sent (all_plain setup all v p.states more plain) p.said;
    steps = p.steps;
    sends = λ r e. by_sends r (p.sends r e);
    device = p.device;
  }
    where
      by_sends : (r : PlugRequest) → (live.access.plug ≡ Some r) ⊎ IsIn (Parametrizes v.device r) sent
          → (live.access.plug ≡ Some r) ⊎ IsIn (Parametrizes v.device r) (more ++ sent)
      by_sends r (inl was) = inl was
      by_sends r (inr is) = inr (in_front (Parametrizes v.device r) sent more is)

  back_so : (all : List AlarmNotification) (v : View) (sent more : List Sent) → ArePlain more → P all v sent → P all v (sent ++ more)
  back_so all v sent more plain p = record {
    states = p.states;
    base = p.base;
    ends = p.ends;
    dones = p.dones;
    said = all_more (IsSaid setup all v p.states) sent more p.said (all_plain setup all v p.states more plain);
    steps = p.steps;
    sends = λ r e. by_sends r (p.sends r e);
    device = p.device;
  }
    where
      by_sends : (r : PlugRequest) → (live.access.plug ≡ Some r) ⊎ IsIn (Parametrizes v.device r) sent
          → (live.access.plug ≡ Some r) ⊎ IsIn (Parametrizes v.device r) (sent ++ more)
      by_sends r (inl was) = inl was
      by_sends r (inr is) = inr (in_back (Parametrizes v.device r) sent more is)

  found_so : (source : Mac) → live.access.plug ≡ None → P alarms (viewed live.access.plug live.places live.stands source) []
  found_so source none = record {
    states = states;
    base = record { by = base.by; told = base.told; request = base.request; turn = base.turn; ending = base.ending };
    ends = λ at below number ended. ended;
    dones = λ at below number done. record { was = done.was; ready = done.ready; there = done.there };
    said = tt;
    steps = inl refl;
    sends = λ r e. inl e;
    device = inr none;
  }

  unplugged_ended : (at below number : ℕ) → Ended alarms live.access.plug states at below number → Ended alarms None states at below number
  unplugged_ended at below number ended =
      record { was = ended.was; plugged = ended.plugged; writing = ended.writing; request = λ r e one other is. absurd (none_some e) }

  over_so : P alarms (over_view (view_of live)) []
  over_so = record {
    states = states;
    base = record {
      by = tt;
      told = base.told;
      request = λ r e. absurd (none_some e);
      turn = λ r e. absurd (none_some e);
      ending = λ r e. absurd (none_some e);
    };
    ends = unplugged_ended;
    dones = λ at below number done. record { was = done.was; ready = λ up. absurd (false≢true up); there = λ up. absurd (false≢true up) };
    said = tt;
    steps = inr (inl refl);
    sends = λ r e. absurd (none_some e);
    device = inl refl;
  }

  relates_so : (blocks : List ℕ) (stands : Bool) → live.asked ≡ Some asks.Connect
      → P alarms (viewed live.access.plug (opened setup.plan 400 blocks) stands live.device) []
  relates_so blocks stands e = record {
    states = states_first 400 blocks;
    base = opened_base setup.plan alarms (unbegun e) (view_of live) states base blocks stands;
    ends = λ at below number ended. absurd (none_was at below number alarms (unbegun e) ended.was);
    dones = λ at below number done. absurd (none_was at below number alarms (unbegun e) done.was);
    said = tt;
    steps = inl refl;
    sends = λ r f. inl f;
    device = inl refl;
  }

  again_so : (request : PlugRequest) → live.access.plug ≡ Some request → P alarms (view_of live) (Parametrizes live.device request ∷ [])
  again_so request was = record {
    states = states;
    base = base;
    ends = λ at below number ended. ended;
    dones = λ at below number done. done;
    said = ((was, refl), tt);
    steps = inl refl;
    sends = λ r e. inl e;
    device = inl refl;
  }

  ends_so : (request : PlugRequest) → live.access.plug ≡ Some request → P alarms (viewed None live.places live.stands live.device) []
  ends_so request was = record {
    states = states;
    base = record {
      by = base.by;
      told = base.told;
      request = λ r e. absurd (none_some e);
      turn = λ r e. absurd (none_some e);
      ending = λ r e. absurd (none_some e);
    };
    ends = unplugged_ended;
    dones = λ at below number done. record { was = done.was; ready = done.ready; there = done.there };
    said = tt;
    steps = inr (inl refl);
    sends = λ r e. absurd (none_some e);
    device = inl refl;
  }

  refuses_so : (request : PlugRequest) → live.access.plug ≡ Some request → has_turn_at request.slot request.subslot live.places ≡ true
      → P alarms (viewed None (with_state request.slot request.subslot Refused live.places) live.stands live.device) []
  refuses_so request was turn =
      let here = turn_by states live.places request.slot request.subslot base.by turn in
      record {
        states = states_with request.slot request.subslot Refused states;
        base = refused_base alarms (view_of live) states base request.slot request.subslot here;
        ends = refused_ended alarms (view_of live) states base request.slot request.subslot here;
        dones = refused_done alarms (view_of live) states base request.slot request.subslot here;
        said = tt;
        steps = inr (inl refl);
        sends = λ r e. absurd (none_some e);
        device = inl refl;
      }

  next_so : (request : PlugRequest) (number sequence : ℕ) (response : Response) → live.access.plug ≡ Some request → request.step ≡ Record number
      → IsResponse response → is_plug_answer setup request response.header.activity response.header.sequence ≡ true
      → (is_done response.status ≡ true) ⊎ (setup.plan.continue_on_refused_record ≡ true)
      → has_turn_at request.slot request.subslot live.places ≡ true
      → P alarms (asked_view request.slot request.subslot request.number (next_request setup sequence request number) (view_of live))
      (Parametrizes live.device (next_request setup sequence request number) ∷ [])
  next_so request number sequence response was is hears answers granted turn =
      let next = next_request setup sequence request number in
      let here = turn_by states live.places request.slot request.subslot base.by turn in
      let at : states request.slot request.subslot ≡ state_of_step request.step request.number = base.turn request was here in
      let last : LastPlug request.slot request.subslot request.number alarms =
      told_step request.step request.number alarms request.slot request.subslot
      (subst (λ (s : PlaceState). IsStateOf alarms request.slot request.subslot s) at (base.told request.slot request.subslot)) in
      let unready : (n : ℕ) → states request.slot request.subslot ≡ Ready n → ⊥ =
      (λ n e. turn_unready (states request.slot request.subslot) n here e) in
      let upper : (n : ℕ) → Ended alarms live.access.plug states request.slot request.subslot n → IsRecord next.step → n < request.number =
      (λ n ended record_is. ended.request request was refl refl (record { number = number; is = is })) in
      record {
        states = states_with request.slot request.subslot (state_of_step next.step request.number) states;
        base = asked_base alarms (view_of live) states base next last unready upper;
        ends = asked_ended alarms (view_of live) states base next last unready upper;
        dones = asked_done alarms (view_of live) states base next last unready upper;
        said = ((refl, refl), tt);
        steps = inr (inr (inr (record {
          request = request;
          was = was;
          number = number;
          step = is;
          response = response;
          hears = hears;
          answers = answers;
          positive = granted;
          next = next;
          is = refl;
          slot = refl;
          subslot = refl;
          same = refl;
          from = refl;
        })));
        sends = λ r e. inr (subst (λ (q : PlugRequest). IsIn (Parametrizes live.device q) (Parametrizes live.device next ∷ [])) (some_is next r e)
            (in_last (Parametrizes live.device next) []));
        device = inl refl;
      }

  begins_so : (all : List AlarmNotification) (v : View) (sent : List Sent) (plug : Plug) (sequence : ℕ) → v.plug ≡ None
      → next_waiting v.places ≡ Some plug → P all v sent
      → P all (asked_view plug.slot plug.subslot plug.number (first_asked setup sequence plug) v)
      (sent ++ Parametrizes v.device (first_asked setup sequence plug) ∷ [])
  begins_so all v sent plug sequence none waits p =
      let first = first_asked setup sequence plug in
      let at : p.states plug.slot plug.subslot ≡ Plugged plug.number = waits_by p.states v.places plug p.base.by waits in
      let last : LastPlug plug.slot plug.subslot plug.number all =
      subst (λ (s : PlaceState). IsStateOf all plug.slot plug.subslot s) at (p.base.told plug.slot plug.subslot) in
      let unready : (n : ℕ) → p.states plug.slot plug.subslot ≡ Ready n → ⊥ = (λ n e. plugged_unready plug.number n (sym at ∙ e)) in
      let upper : (n : ℕ) → Ended all v.plug p.states plug.slot plug.subslot n → IsRecord first.step → n < plug.number =
      (λ n ended record_is. ended.plugged plug.number at) in
      record {
        states = states_with plug.slot plug.subslot (state_of_step first.step plug.number) p.states;
        base = asked_base all v p.states p.base first last unready upper;
        ends = λ s ss n ended. asked_ended all v p.states p.base first last unready upper s ss n (p.ends s ss n ended);
        dones = λ s ss n done. asked_done all v p.states p.base first last unready upper s ss n (p.dones s ss n done);
        said = all_more (IsSaid setup all (asked_view plug.slot plug.subslot plug.number first v)
            (states_with plug.slot plug.subslot (state_of_step first.step plug.number) p.states)) sent (Parametrizes v.device first ∷ [])
            (all_as (IsSaid setup all v p.states) (IsSaid setup all (asked_view plug.slot plug.subslot plug.number first v)
            (states_with plug.slot plug.subslot (state_of_step first.step plug.number) p.states))
            (still last unready upper) sent p.said) ((refl, refl), tt);
        steps = inr (inr (inl (record { request = first; is = refl; first = refl })));
        sends = λ r e. inr (subst (λ (q : PlugRequest). IsIn (Parametrizes v.device q) (sent ++ Parametrizes v.device first ∷ [])) (some_is first r e)
            (in_last (Parametrizes v.device first) sent));
        device = p.device;
      }
    where
      still : LastPlug plug.slot plug.subslot plug.number all → ((n : ℕ) → p.states plug.slot plug.subslot ≡ Ready n → ⊥)
          → ((n : ℕ) → Ended all v.plug p.states plug.slot plug.subslot n → IsRecord (first_asked setup sequence plug).step → n < plug.number)
          → (message : Sent) → IsSaid setup all v p.states message
          → IsSaid setup all (asked_view plug.slot plug.subslot plug.number (first_asked setup sequence plug) v)
          (states_with plug.slot plug.subslot (state_of_step (first_asked setup sequence plug).step plug.number) p.states) message
      still last unready upper (Parametrizes device request) said = absurd (none_some (sym none ∙ said.0))
      still last unready upper (Agrees caller answer) (inl start) = inl start
      still last unready upper (Agrees caller answer) (inr confirms) = inr (record {
        call = confirms.call;
        block = confirms.block;
        is = confirms.is;
        right = confirms.right;
        slot = confirms.slot;
        subslot = confirms.subslot;
        done = asked_done all v p.states p.base (first_asked setup sequence plug) last unready upper confirms.slot confirms.subslot
            confirms.block.alarm_sequence_number confirms.done;
      })
      still last unready upper (Requests device request) said = tt
      still last unready upper (Accesses device request octets) said = tt
      still last unready upper (Cycles route shown counter) said = tt
      still last unready upper (Confirms route priority header ack) said = tt
      still last unready upper (Replies route priority header) said = tt
      still last unready upper (Ends route header reason) said = tt

  ready_so : (caller : Caller) (call : Call) (block : PlugControlBlock) → is_plug_ready setup block ≡ true
      → is_awaited block.alarm_sequence_number live.places ≡ true
      → P alarms (ready_view block.alarm_sequence_number (view_of live)) (Agrees caller (plug_answer call block) ∷ [])
  ready_so caller call block right e =
      let number = block.alarm_sequence_number in
      let awaited = awaited_by states number live.places.places base.by e in
      let last : LastPlug awaited.slot awaited.subslot number alarms =
      told_last number (states awaited.slot awaited.subslot) alarms awaited.slot awaited.subslot awaited.told (base.told awaited.slot awaited.subslot) in
      record {
        states = states_ready number states;
        base = ready_base alarms (view_of live) states base number;
        ends = ready_ended alarms (view_of live) states base number;
        dones = ready_done alarms (view_of live) states base number;
        said = (
          inr (record {
            call = call;
            block = block;
            is = refl;
            right = right;
            slot = awaited.slot;
            subslot = awaited.subslot;
            done = record {
              was = last_was awaited.slot awaited.subslot number alarms last;
              ready = λ up plug. ap (λ (b : Bool). cond b (Ready number) (states awaited.slot awaited.subslot)) awaited.told;
              there = λ up. ready_there awaited.slot awaited.subslot number live.places awaited.there;
            };
          }),
          tt,
        );
        steps = by_end (is_end_of number live.access.plug);
        sends = λ r f. inl (unplug_some (is_end_of number live.access.plug) live.access.plug r f);
        device = inl refl;
      }
    where
      by_end : (b : Bool) → StepsBy setup IsResponse live.access.plug (unplugged_by b live.access.plug)
      by_end true = inr (inl refl)
      by_end false = inl refl

  alarm_so : (alarm : AlarmNotification) → live.stands ≡ true → AreFew (alarms ++ alarm ∷ [])
      → P (alarms ++ alarm ∷ []) (viewed live.access.plug (told_by (report_in alarm) live.places) live.stands live.device) []
  alarm_so alarm up few =
      let numbered = last_number alarms alarm few.0 (few_before alarms alarm few.1) in
      record {
        states = states_after (report_in alarm) states;
        base = told_base alarms (view_of live) states base alarm numbered;
        ends = told_ended alarms (view_of live) states base alarm numbered;
        dones = told_done alarms (view_of live) states base alarm numbered;
        said = tt;
        steps = inl refl;
        sends = λ r e. inl e;
        device = inl refl;
      }

  pub reached_closed : Closed setup live alarms AreFew IsResponse P
  reached_closed = record {
    start = start_so;
    front = front_so;
    back = back_so;
    found = found_so;
    over = over_so;
    relates = relates_so;
    again = again_so;
    ends = ends_so;
    refuses = refuses_so;
    next = next_so;
    begins = begins_so;
    ready = ready_so;
    alarm = alarm_so;
  }
