-- Over any run of worlds, a call that is new for the device is the one that its controller makes.
use Rattle.std.proofs.Common.{◌≡◌, ◌⊎◌, inl, inr, ◌++◌, ℕ, zero, suc, Bool, true, false, List, [], ◌∷◌, map, Option, Some, None, option_map, refl}
use Rattle.std.proofs.Common.{sym, ap, subst, ◌∙◌}
use Rattle.std.specs.Prelude.{slice_get}
use Rattle.std.specs.List.{AllByRecursion}
use Rattle.settings_journal.specs.settings_store.Machine.{Outcome}
use Rattle.pn_values.specs.declared.identity.Identity.{Identity}
use Rattle.pn_values.specs.declared.mac.Mac.{Mac}
use Rattle.frame_codec.specs.Frame.{frame_bytes}
use Rattle.frame_codec.specs.Meaning.{RealTime}
use Rattle.frame_codec.specs.Sendable.{IsMac, IsTag, carrying}
use Rattle.records.specs.declared.status.operation.Operation.{Operation}
use Rattle.records.specs.declared.status.operation.Operation.TheVariants as operation
use Rattle.records.specs.status.Operation.{operation_of}
use Rattle.connects.specs.requests.Request.{Request}
use Rattle.records.specs.declared.writes.taken.TakenRecord.{TakenRecord}
use Rattle.device_frames.specs.Heard.{Heard, heard_of}
use Rattle.device_core.specs.State.{Live, Station}
use Rattle.device_core.specs.Machine.{heard_step}
use Rattle.controller_messages.specs.declared.plug_request.PlugRequest.{PlugRequest}
use Rattle.controller_messages.specs.declared.plug_request.PlugStep.{PlugStep}
use Rattle.controller_messages.specs.declared.plug_request.PlugStep.TheVariants as plug_step
use Rattle.controller_messages.specs.declared.request.Request.TheVariants as asks
use Rattle.controller_messages.specs.declared.setup.Setup.{Setup}
use Rattle.controller_messages.specs.Heard.{heard_of as heard_by}
use Rattle.controller_messages.specs.PlugRequests.{plug_blocks, plug_operation}
use Rattle.controller_messages.specs.Requests.{write_count}
use Rattle.controller_messages.specs.Sent.{Sent, Requests, Accesses, Parametrizes, Agrees, Cycles, Confirms, Replies, Ends, bytes_of}
use Rattle.controller_core.specs.declared.stored.event.Event.{Event}
use Rattle.controller_core.specs.declared.stored.state.Cause.{Cause}
use Rattle.controller_core.specs.declared.stored.state.State.{State}
use Rattle.controller_core.specs.declared.stored.state.State.TheVariants.{Looking, Addressing, Connecting, Writing, Ending, Waiting, Exchanging, Ended}
use Rattle.controller_core.specs.stored.State.{Controlling, Live as ControllerLive, with_live}
use Rattle.controller_core.specs.Machine.{Turn, after_turn, first as first_live, flow_later, fresh_with, step_of, turn_due, turn_of}
use Rattle.network_world.specs.World.{is_ended}
use Rattle.end_laws.specs.hearing.Hearing.{IsUncalled, IsUnreported, comes}
use Rattle.end_laws.specs.both.Small as small
use Rattle.end_laws.specs.both.Small.{Ask, Reply, Rules, ToController, ToDevice}
use Rattle.end_laws.specs.both.Steps.{CallsWhile, DeviceSteps, SaysToDevice}
use Rattle.end_laws.specs.controller.Small.{GoesOn, IsSteady, asked_by, said_by, said_in, said_to, small_of}
use Rattle.end_laws.specs.device.Orderly.{IsOrderlyIn}
use Rattle.end_laws.specs.device.Small.{IsAskedOwn, IsHeardAs, IsPlanned, IsPlannedAs, IsPlannedCall, Planned, heard_as, kept_in, written_by}
use Rattle.end_laws.specs.device.Small as device
use Rattle.end_laws.specs.turns.Beside.{MayBegin, MayFollow, flow_begun}
use Rattle.end_laws.specs.turns.Ended.{KeepsItsCause}
use Rattle.end_laws.specs.turns.Runs.{IsReached, behind_all}
use Rattle.end_laws.specs.turns.Turns.{IsTurn, came_by}
use Rattle.both_ends.specs.startup.View.{IsSaidAs, is_planned, rules_of, says_to_device}
use Rattle.plug_ends.proofs.CallsTurns.{Goes, IsAlone, IsAsked, IsOver, IsPlain, IsUncounted, IsUnrefused, Waits, event_turns, false_true, none_some}
use Rattle.plug_ends.proofs.CallsTurns.{number_in, present_of, same_waits, sent_waits, some_same}
use Rattle.plug_ends.proofs.CallsFrames.{Covers, Holds, IsSaidNow, IsSettled, controller_holds, covers_old}
use Rattle.plug_ends.proofs.CallsAlone.{event_alone}

-- ---- the laws of the crates below

pub record CallsSo : Type 0 where
  pub goes_on : (setup : Setup) (live : ControllerLive) (one : Event) → IsSteady setup.plan live
      → GoesOn setup.plan (said_in setup (heard_by setup.plan.controller) one) live (turn_of setup live one)
  pub begins : (setup : Setup) → IsSteady setup.plan (first_live setup.plan)
  pub frames_are : (old : Controlling) (one : Event) → (step_of old one).frames ≡ map (bytes_of old.setup) (turn_of old.setup old.live one).sent
  pub kinds : (setup : Setup) (live : ControllerLive) (one : Event) → IsTurn setup live (came_by setup one) (turn_of setup live one)
  pub follows : (setup : Setup) (could : Bool) (turn : Turn) → MayFollow setup turn (after_turn setup could turn)
  pub due_so : (setup : Setup) (is_due : Bool) (live : ControllerLive) → MayBegin setup live (turn_due setup is_due live)
  pub flows : (setup : Setup) (live : ControllerLive) → MayBegin setup (flow_later live) (flow_begun setup live)
  pub cause : KeepsItsCause
  pub device_on : (rules : Rules TakenRecord Request) (activity : List ℕ) (outcomes : List Outcome) (station : Station) (live : Live) (heard : Heard)
      → IsOrderlyIn live.rest.link → IsAskedOwn activity live.rest.asked → IsPlanned rules activity station.named live.rest.real heard
      → AllByRecursion (IsHeardAs rules station.identity) (heard_step outcomes station live heard).sent
      → DeviceSteps rules (heard_as rules.is_planned heard) (device.small_of activity live)
      (device.small_of activity (heard_step outcomes station live heard).live) (heard_step outcomes station live heard).frames
  pub orderly : (rules : Rules TakenRecord Request) (activity : List ℕ) (outcomes : List Outcome) (station : Station) (live : Live) (heard : Heard)
      → IsPlanned rules activity station.named live.rest.real heard → IsOrderlyIn live.rest.link
      → IsOrderlyIn (heard_step outcomes station live heard).live.rest.link
  pub own : (rules : Rules TakenRecord Request) (activity : List ℕ) (outcomes : List Outcome) (station : Station) (live : Live) (heard : Heard)
      → IsPlanned rules activity station.named live.rest.real heard → IsAskedOwn activity live.rest.asked
      → IsAskedOwn activity (heard_step outcomes station live heard).live.rest.asked
  pub unreported : (identity : Identity) (destination source : Mac) (tag : Option ℕ) (frame_id : ℕ) (body : List ℕ) → IsMac destination → IsMac source
      → IsTag tag
      → IsUnreported (heard_of identity (comes (frame_bytes (carrying destination source tag (RealTime frame_id body)))))
  pub uncalled : (mine : _) (destination source : Mac) (tag : Option ℕ) (frame_id : ℕ) (body : List ℕ) → IsMac destination → IsMac source → IsTag tag
      → IsUncalled (heard_by mine (frame_bytes (carrying destination source tag (RealTime frame_id body))))

-- ---- lists

pub all_at : {A : Type 0} (P : A → Type 0) (xs : List A) → AllByRecursion P xs → (number : ℕ) (x : A) → slice_get xs number ≡ Some x → P x
all_at P [] all number x e = absurd (none_some x e)
all_at P (y ∷ xs) all zero x e = subst P (some_same y x e) all.0
all_at P (y ∷ xs) all (suc number) x e = all_at P xs all.1 number x e

pub all_map : {A B : Type 0} (P : A → Type 0) (Q : B → Type 0) (f : A → B) → ((x : A) → P x → Q (f x)) → (xs : List A) → AllByRecursion P xs
    → AllByRecursion Q (map f xs)
all_map P Q f to [] all = tt
all_map P Q f to (x ∷ xs) all = (to x all.0, all_map P Q f to xs all.1)

pub all_both : {A : Type 0} (P R : A → Type 0) → (xs : List A) → AllByRecursion P xs → AllByRecursion R xs → AllByRecursion (λ x. P x × R x) xs
all_both P R [] one other = tt
all_both P R (x ∷ xs) one other = ((one.0, other.0), all_both P R xs one.1 other.1)

-- ---- a message of the controller

call_number_same : (one other : ℕ) (ask asked : Ask) → small.Call one ask ≡ small.Call other asked → one ≡ other
call_number_same one other ask asked e = cc

call_ask_same : (one other : ℕ) (ask asked : Ask) → small.Call one ask ≡ small.Call other asked → ask ≡ asked
call_ask_same one other ask asked e = cc

pub idle_no_call : (sequence : ℕ) (ask : Ask) → small.Idle ≡ small.Call sequence ask → ⊥
idle_no_call sequence ask e = absurd cc

confirms_no_call : (sequence : ℕ) (ask : Ask) → small.Confirms ≡ small.Call sequence ask → ⊥
confirms_no_call sequence ask e = absurd cc

-- a call has its number, whatever it asks
written_number : (b : Bool) (number write sequence : ℕ) (ask : Ask) → written_by b number write ≡ small.Call sequence ask → sequence ≡ number
written_number true number write sequence ask e = call_number_same _ _ _ _ (sym e)
written_number false number write sequence ask e = call_number_same _ _ _ _ (sym e)

asked_number : (planned : Planned) (number : ℕ) (blocks : List ℕ) (which : Option Operation) (sequence : ℕ) (ask : Ask)
    → device.asked_by planned number blocks which ≡ small.Call sequence ask → sequence ≡ number
asked_number planned number blocks (Some operation.Connect) sequence ask e = call_number_same _ _ _ _ (sym e)
asked_number planned number blocks (Some operation.Write) sequence ask e = written_number (planned number blocks) number _ sequence ask e
asked_number planned number blocks (Some operation.Control) sequence ask e = call_number_same _ _ _ _ (sym e)
asked_number planned number blocks (Some operation.Release) sequence ask e = call_number_same _ _ _ _ (sym e)
asked_number planned number blocks (Some operation.Read) sequence ask e = call_number_same _ _ _ _ (sym e)
asked_number planned number blocks (Some operation.ReadImplicit) sequence ask e = absurd (idle_no_call sequence ask e)
asked_number planned number blocks None sequence ask e = absurd (idle_no_call sequence ask e)

module _ (setup : Setup) where
  abbrev Says : Sent → ℕ → Ask → Type 0
  Says message sequence ask = says_to_device setup message ≡ small.Call sequence ask

  pub number_said : (message : Sent) (sequence : ℕ) (ask : Ask) → Says message sequence ask → sequence ≡ number_in setup.plan message
  number_said (Requests to asks.Identify) sequence ask e = absurd (idle_no_call sequence ask e)
  number_said (Requests to asks.Address) sequence ask e = absurd (idle_no_call sequence ask e)
  number_said (Requests to asks.Connect) sequence ask e = call_number_same _ _ _ _ (sym e)
  number_said (Requests to (asks.Write number)) sequence ask e = call_number_same _ _ _ _ (sym e)
  number_said (Requests to asks.PrmEnd) sequence ask e = call_number_same _ _ _ _ (sym e)
  number_said (Requests to (asks.WriteAfter number tries)) sequence ask e = call_number_same _ _ _ _ (sym e)
  number_said (Requests to (asks.PrmEndAfter tries)) sequence ask e = call_number_same _ _ _ _ (sym e)
  number_said (Requests to (asks.Release number)) sequence ask e = call_number_same _ _ _ _ (sym e)
  number_said (Accesses to request octets) sequence ask e = asked_number (is_planned setup) request.sequence _ _ sequence ask e
  number_said (Parametrizes to request) sequence ask e = asked_number (is_planned setup) request.sequence _ _ sequence ask e
  number_said (Agrees caller answer) sequence ask e = absurd (confirms_no_call sequence ask e)
  number_said (Cycles route shown counter) sequence ask e = absurd (idle_no_call sequence ask e)
  number_said (Confirms route priority header ack) sequence ask e = absurd (idle_no_call sequence ask e)
  number_said (Replies route priority header) sequence ask e = absurd (idle_no_call sequence ask e)
  number_said (Ends route header reason) sequence ask e = absurd (idle_no_call sequence ask e)

  -- PrmEnd is a Control
  ends_said : (request : PlugRequest) (step : PlugStep) → step ≡ plug_step.PrmEnd → (sequence : ℕ) (ask : Ask)
      → device.asked_by (is_planned setup) request.sequence (plug_blocks setup request step) (operation_of (plug_operation step)) ≡ small.Call sequence ask
      → ask ≡ small.Parameterized
  unfolding operation_of
  ends_said request plug_step.PrmEnd e sequence ask said = call_ask_same _ _ _ _ (sym said)
  ends_said request (plug_step.Record number) e sequence ask said = absurd (record_end number e)
    where
      record_end : (n : ℕ) → plug_step.Record n ≡ plug_step.PrmEnd → ⊥
      record_end n f = absurd cc

  uncounted_said : (message : Sent) → IsUncounted message → (sequence : ℕ) (ask : Ask) → Says message sequence ask → ask ≡ small.Parameterized
  uncounted_said (Requests to asks.Identify) is sequence ask e = absurd (idle_no_call sequence ask e)
  uncounted_said (Requests to asks.Address) is sequence ask e = absurd (idle_no_call sequence ask e)
  uncounted_said (Requests to asks.Connect) is sequence ask e = absurd is
  uncounted_said (Requests to (asks.Write number)) is sequence ask e = absurd is
  uncounted_said (Requests to asks.PrmEnd) is sequence ask e = call_ask_same _ _ _ _ (sym e)
  uncounted_said (Requests to (asks.WriteAfter number tries)) is sequence ask e = absurd is
  uncounted_said (Requests to (asks.PrmEndAfter tries)) is sequence ask e = call_ask_same _ _ _ _ (sym e)
  uncounted_said (Requests to (asks.Release number)) is sequence ask e = absurd is
  uncounted_said (Parametrizes to request) is sequence ask e = ends_said request request.step is sequence ask e
  uncounted_said (Accesses to request octets) is sequence ask e = absurd is
  uncounted_said (Agrees caller answer) is sequence ask e = absurd is
  uncounted_said (Cycles route shown counter) is sequence ask e = absurd is
  uncounted_said (Confirms route priority header ack) is sequence ask e = absurd is
  uncounted_said (Replies route priority header) is sequence ask e = absurd is
  uncounted_said (Ends route header reason) is sequence ask e = absurd is

  pub plain_said : (message : Sent) → IsPlain message → (sequence : ℕ) (ask : Ask) → Says message sequence ask → ⊥
  plain_said (Requests to request) is sequence ask e = is
  plain_said (Accesses to request octets) is sequence ask e = is
  plain_said (Parametrizes to request) is sequence ask e = is
  plain_said (Agrees caller answer) is sequence ask e = confirms_no_call sequence ask e
  plain_said (Cycles route shown counter) is sequence ask e = idle_no_call sequence ask e
  plain_said (Confirms route priority header ack) is sequence ask e = idle_no_call sequence ask e
  plain_said (Replies route priority header) is sequence ask e = idle_no_call sequence ask e
  plain_said (Ends route header reason) is sequence ask e = idle_no_call sequence ask e

  -- after its end the controller calls to end the relation only
  releases_alone : (sequence : ℕ) (ask : Ask) → CallsWhile (write_count setup.plan) small.Ended sequence ask → ask ≡ small.Releases
  releases_alone sequence ask (inl releases) = releases
  releases_alone sequence ask (inr (inl calling)) = absurd (ended_asks calling.stage calling.tries calling.calls)
    where
      ended_asks : (stage tries : ℕ) → small.Ended ≡ small.Asking stage tries → ⊥
      ended_asks stage tries e = absurd cc
  releases_alone sequence ask (inr (inr accesses)) = absurd (ended_exchanges accesses.1)
    where
      ended_exchanges : small.Ended ≡ small.Exchanges → ⊥
      ended_exchanges e = absurd cc

  access_released : (sequence : ℕ) → CallsWhile (write_count setup.plan) small.Ended sequence small.Accesses → ⊥
  access_released sequence may = not_releases (releases_alone sequence small.Accesses may)
    where
      not_releases : small.Accesses ≡ small.Releases → ⊥
      not_releases e = absurd cc

  abbrev MaySay : ToDevice → Type 0
  MaySay says = SaysToDevice (write_count setup.plan) small.Ended says

  pub ended_said : (message : Sent) → MaySay (said_by setup.plan message) → (sequence : ℕ) (ask : Ask) → Says message sequence ask → ask ≡ small.Releases
  ended_said (Requests to request) may sequence ask e = releases_alone sequence ask (subst (λ (says : ToDevice). MaySay says) e may)
  ended_said (Accesses to request octets) may sequence ask e = absurd (access_released request.sequence may)
  ended_said (Parametrizes to request) may sequence ask e = absurd (access_released request.sequence may)
  ended_said (Agrees caller answer) may sequence ask e = absurd (confirms_no_call sequence ask e)
  ended_said (Cycles route shown counter) may sequence ask e = absurd (idle_no_call sequence ask e)
  ended_said (Confirms route priority header ack) may sequence ask e = absurd (idle_no_call sequence ask e)
  ended_said (Replies route priority header) may sequence ask e = absurd (idle_no_call sequence ask e)
  ended_said (Ends route header reason) may sequence ask e = absurd (idle_no_call sequence ask e)

  module _ (station : Station) where
    abbrev rules : Rules TakenRecord Request
    rules = rules_of setup station

    -- the device hears in its octets what the message says, or no call
    pub heard_said : (message : Sent) → IsSaidAs setup station message → (sequence : ℕ) (ask : Ask)
        → rules.to_device (bytes_of setup message) ≡ small.Call sequence ask → Says message sequence ask
    heard_said message said sequence ask e = by_case said.1
      where
        by_case : (rules.to_device (bytes_of setup message) ≡ says_to_device setup message) ⊎ (rules.to_device (bytes_of setup message) ≡ small.Idle)
            → Says message sequence ask
        by_case (inl same) = sym same ∙ e
        by_case (inr idle) = absurd (idle_no_call sequence ask (sym idle ∙ e))

    ended_now : (last : Option (List ℕ)) (over : Bool) → over ≡ true → (message : Sent) → IsSaidAs setup station message × MaySay (said_by setup.plan message)
        → IsSaidNow rules last over (bytes_of setup message)
    ended_now last over is_over message both = record {
      nothing = both.0.0;
      calls = λ sequence ask e. inr (ended_said message both.1 sequence ask (heard_said message both.0 sequence ask e), is_over);
    }

    plain_now : (last : Option (List ℕ)) (over : Bool) (message : Sent) → IsSaidAs setup station message × IsPlain message
        → IsSaidNow rules last over (bytes_of setup message)
    plain_now last over message both = record {
      nothing = both.0.0;
      calls = λ sequence ask e. absurd
          (plain_said message both.1 sequence ask (heard_said message both.0 sequence ask e));
    }

    asked_now : (after : ControllerLive) (over : Bool) (message : Sent) → IsSaidAs setup station message × IsAsked after message
        → IsSaidNow rules (option_map (bytes_of setup) (present_of after)) over (bytes_of setup message)
    asked_now after over message both = by_asked both.1
      where
        by_asked : IsAsked after message → IsSaidNow rules (option_map (bytes_of setup) (present_of after)) over (bytes_of setup message)
        by_asked (inl is) = record { nothing = both.0.0; calls = λ sequence ask e. inl (ap (λ (m : Option Sent). option_map (bytes_of setup) m) is) }
        by_asked (inr plain) = plain_now (option_map (bytes_of setup) (present_of after)) over message (both.0, plain)

-- ---- both ends

abbrev pub kept_for : Setup → Live → Option small.Kept
kept_for setup live = (device.small_of setup.activity live).kept

-- The last call of the controller is the one that waits, and its octets say what it is; or it is over, and no call was sent since: a call that is
-- refused as busy is tried again with the end of the second.
abbrev pub IsTied : Controlling → Station → Option (List ℕ) → Type 0
IsTied c station last = (last ≡ None) ⊎ ((last ≡ option_map (bytes_of c.setup) (present_of c.live)) × Waits (IsSaidAs c.setup station) c.live)

-- The last call of the controller: while it has not ended it is the one that waits, or it is over.
pub record Held (c : Controlling) (station : Station) (live : Live) (sent : List (List ℕ)) : Type 0 where
  pub last : Option (List ℕ)
  pub holds : Holds (rules_of c.setup station) (kept_for c.setup live) last (is_ended c.live.phase) sent
  pub tie : is_ended c.live.phase ≡ false → IsTied c station last
  pub steady : IsSteady c.setup.plan c.live
  pub alone : IsAlone c.live
  pub reached : IsReached c
  pub orderly : IsOrderlyIn live.rest.link
  pub own : IsAskedOwn c.setup.activity live.rest.asked

pub controller_is : (old : Controlling) (one : Event) → (step_of old one).controller ≡ with_live old (turn_of old.setup old.live one).live
unfolding step_of
controller_is old one = refl

-- ---- the end is kept

behind_one : (events : List Event) (one : Event) (c : Controlling) → behind_all (events ++ one ∷ []) c ≡ (step_of (behind_all events c) one).controller
behind_one [] one c = refl
behind_one (event ∷ events) one c = behind_one events one (step_of c event).controller

reached_on : (c : Controlling) (one : Event) → IsReached c → IsReached (step_of c one).controller
reached_on c one reached = record {
  plan = reached.plan;
  ar = reached.ar;
  activity = reached.activity;
  options = reached.options;
  events = reached.events ++ one ∷ [];
  made = ap (λ (old : Controlling). (step_of old one).controller) reached.made
      ∙ sym (behind_one reached.events one (fresh_with reached.plan reached.ar reached.activity reached.options));
}

ended_by : (phase : State) → is_ended phase ≡ true → (cause : Cause) × (phase ≡ Ended cause)
ended_by (Ended cause) e = (cause, refl)
ended_by Looking e = absurd (false_true e)
ended_by Addressing e = absurd (false_true e)
ended_by Connecting e = absurd (false_true e)
ended_by Writing e = absurd (false_true e)
ended_by Ending e = absurd (false_true e)
ended_by Waiting e = absurd (false_true e)
ended_by Exchanging e = absurd (false_true e)

module _ (so : CallsSo) where
  pub ended_on : (c : Controlling) (one : Event) → IsReached c → is_ended c.live.phase ≡ true → is_ended (turn_of c.setup c.live one).live.phase ≡ true
  ended_on c one reached e =
      let found = ended_by c.live.phase e in
      let after = so.cause c found.0 (one ∷ []) (record { reached = reached; phase = found.1 }) in
      ap (λ (old : Controlling). is_ended old.live.phase) (sym (controller_is c one)) ∙ ap (λ (phase : State). is_ended phase) after.phase

  pub small_ended : (plan : _) (live : ControllerLive) → is_ended live.phase ≡ true → small_of plan live ≡ small.Ended
  small_ended plan live e =
      let found = ended_by live.phase e in
      ap (λ (phase : State). Rattle.end_laws.specs.controller.Small.state_of plan phase live.asked) found.1

  -- ---- a step of the controller

  module _ (c : Controlling) (station : Station) (live : Live) (sent : List (List ℕ)) (held : Held c station live sent) (one : Event)
      (meant : AllByRecursion (IsSaidAs c.setup station) (turn_of c.setup c.live one).sent)
      (answers : (number : ℕ) (reply : Reply) → said_in c.setup (heard_by c.setup.plan.controller) one ≡ small.Answers number reply
      → Covers number (kept_for c.setup live))
      (unrefused : IsUnrefused c.setup one) where
    abbrev setup_is : Setup
    setup_is = c.setup

    abbrev turn : Turn
    turn = turn_of c.setup c.live one

    abbrev after : Controlling
    after = with_live c turn.live

    abbrev heard : ToController
    heard = said_in c.setup (heard_by c.setup.plan.controller) one

    on : GoesOn c.setup.plan heard c.live turn
    on = so.goes_on c.setup c.live one held.steady

    reached_after : IsReached after
    reached_after = subst (λ (old : Controlling). IsReached old) (controller_is c one) (reached_on c one held.reached)

    abbrev frames : List (List ℕ)
    frames = map (bytes_of c.setup) turn.sent

    abbrev kept : Option small.Kept
    kept = kept_for c.setup live

    make : (last : Option (List ℕ)) → Holds (rules_of c.setup station) kept last (is_ended turn.live.phase) (sent ++ frames)
        → (is_ended turn.live.phase ≡ false → IsTied after station last) → Held after station live (sent ++ frames)
    make last holds tie = record {
      last = last;
      holds = holds;
      tie = tie;
      steady = on.in_step;
      alone = event_alone c.setup (so.follows c.setup) (so.flows c.setup) c.live one (so.kinds c.setup c.live one) held.alone;
      reached = reached_after;
      orderly = held.orderly;
      own = held.own;
    }

    not_both : (b : Bool) → b ≡ true → b ≡ false → ⊥
    not_both b e f = false_true (sym f ∙ e)

    -- the controller has ended
    over_held : is_ended turn.live.phase ≡ true → Held after station live (sent ++ frames)
    over_held is_over =
        make held.last
        (controller_holds (rules_of c.setup station) kept held.last held.last (is_ended c.live.phase) (is_ended turn.live.phase) (λ e. is_over)
        (λ frame e. inl e) sent frames held.holds
        (all_map (λ m. IsSaidAs c.setup station m × MaySay c.setup (said_by c.setup.plan m))
        (IsSaidNow (rules_of c.setup station) held.last (is_ended turn.live.phase)) (bytes_of c.setup)
        (ended_now c.setup station held.last (is_ended turn.live.phase) is_over) turn.sent
        (all_both (IsSaidAs c.setup station) (λ m. MaySay c.setup (said_by c.setup.plan m)) turn.sent meant
        (subst (λ (now : small.Controller). AllByRecursion (λ m. SaysToDevice (write_count c.setup.plan) now (said_by c.setup.plan m)) turn.sent)
        (small_ended c.setup.plan turn.live is_over) on.says))))
        (λ e. absurd (not_both _ is_over e))

    -- the same call waits, or it is over
    module _ (going : is_ended c.live.phase ≡ false) where
      some_frame : (message : Option Sent) (frame : List ℕ) → option_map (bytes_of c.setup) message ≡ Some frame
          → (m : Sent) × (message ≡ Some m) × (bytes_of c.setup m ≡ frame)
      some_frame None frame e = absurd (none_some frame e)
      some_frame (Some m) frame e = (m, refl, some_same _ _ e)

      abbrev IsCall : Type 0
      IsCall = (held.last ≡ option_map (bytes_of c.setup) (present_of c.live)) × Waits (IsSaidAs c.setup station) c.live

      over_settled : IsCall → (frame : List ℕ) → held.last ≡ Some frame → IsOver c.setup.plan heard (present_of c.live)
          → IsSettled (rules_of c.setup station) kept frame
      over_settled tied frame is_last over sequence ask e is_new =
          let found = some_frame (present_of c.live) frame (sym tied.0 ∙ is_last) in
          let m = found.0 in
          let says = heard_said c.setup station m (tied.1 m found.1) sequence ask
          (ap (λ (f : List ℕ). (rules_of c.setup station).to_device f) found.2 ∙ e) in
          by_over m says (subst (λ (message : Option Sent). IsOver c.setup.plan heard message) found.1 over)
        where
          by_over : (m : Sent) → Says c.setup m sequence ask → IsOver c.setup.plan heard (Some m) → ask ≡ small.Parameterized
          by_over m says (inl uncounted) = uncounted_said c.setup m uncounted sequence ask says
          by_over m says (inr answered) =
              absurd (covers_old sequence kept
              (subst (λ (n : ℕ). Covers n kept) (sym (number_said c.setup m sequence ask says))
              (answers (number_in c.setup.plan m) answered.reply answered.is)) is_new)

      abbrev LeadsTo : Option (List ℕ) → Type 0
      LeadsTo last = (frame : List ℕ) → held.last ≡ Some frame → (last ≡ Some frame) ⊎ IsSettled (rules_of c.setup station) kept frame

      with_last : (last : Option (List ℕ)) → LeadsTo last
          → AllByRecursion (IsSaidNow (rules_of c.setup station) last (is_ended turn.live.phase)) frames
          → (is_ended turn.live.phase ≡ false → IsTied after station last) → Held after station live (sent ++ frames)
      with_last last leads says tie =
          make last
          (controller_holds (rules_of c.setup station) kept held.last last (is_ended c.live.phase) (is_ended turn.live.phase)
          (λ e. absurd (not_both _ e going)) leads sent frames held.holds says) tie

      abbrev now : Option (List ℕ)
      now = option_map (bytes_of c.setup) (present_of turn.live)

      -- no request is sent
      plain_says : (last : Option (List ℕ)) → AllByRecursion IsPlain turn.sent
          → AllByRecursion (IsSaidNow (rules_of c.setup station) last (is_ended turn.live.phase)) frames
      plain_says last plain =
          all_map (λ m. IsSaidAs c.setup station m × IsPlain m) (IsSaidNow (rules_of c.setup station) last (is_ended turn.live.phase)) (bytes_of c.setup)
          (plain_now c.setup station last (is_ended turn.live.phase)) turn.sent (all_both (IsSaidAs c.setup station) IsPlain turn.sent meant plain)

      unsent : held.last ≡ None → LeadsTo None
      unsent none frame is_last = absurd (none_some frame (sym none ∙ is_last))

      call_over : IsCall → IsOver c.setup.plan heard (present_of c.live) → LeadsTo None
      call_over tied over frame is_last = inr (over_settled tied frame is_last over)

      call_same : IsCall → present_of turn.live ≡ present_of c.live → LeadsTo now
      call_same tied same frame is_last = inl (ap (λ (m : Option Sent). option_map (bytes_of c.setup) m) same ∙ (sym tied.0 ∙ is_last))

      goes_held : Goes c.setup.plan heard c.live turn → Held after station live (sent ++ frames)
      goes_held goes = by_sent (sent_waits (IsSaidAs c.setup station) turn.live turn.sent goes.1 meant)
        where
          leads : IsTied c station held.last → LeadsTo now
          leads (inl none) frame is_last = absurd (none_some frame (sym none ∙ is_last))
          leads (inr tied) frame is_last = by_goes goes.0
            where
              by_goes : (present_of turn.live ≡ present_of c.live) ⊎ IsOver c.setup.plan heard (present_of c.live)
                  → (now ≡ Some frame) ⊎ IsSettled (rules_of c.setup station) kept frame
              by_goes (inl same) = call_same tied same frame is_last
              by_goes (inr over) = inr (over_settled tied frame is_last over)

          by_plain : AllByRecursion IsPlain turn.sent → IsTied c station held.last → (present_of turn.live ≡ present_of c.live) ⊎ IsOver c.setup.plan heard (present_of c.live)
              → Held after station live (sent ++ frames)
          by_plain plain (inl none) same = with_last None (unsent none) (plain_says None plain) (λ e. inl refl)
          by_plain plain (inr tied) (inl same) =
              with_last now (call_same tied same) (plain_says now plain)
              (λ e. inr (refl, same_waits (IsSaidAs c.setup station) c.live turn.live same tied.1))
          by_plain plain (inr tied) (inr over) = with_last None (call_over tied over) (plain_says None plain) (λ e. inl refl)

          by_sent : AllByRecursion IsPlain turn.sent ⊎ Waits (IsSaidAs c.setup station) turn.live → Held after station live (sent ++ frames)
          by_sent (inl plain) = by_plain plain (held.tie going) goes.0
          by_sent (inr waits) =
              with_last now (leads (held.tie going))
              (all_map (λ m. IsSaidAs c.setup station m × IsAsked turn.live m) (IsSaidNow (rules_of c.setup station) now (is_ended turn.live.phase))
              (bytes_of c.setup)
              (asked_now c.setup station turn.live (is_ended turn.live.phase)) turn.sent
              (all_both (IsSaidAs c.setup station) (IsAsked turn.live) turn.sent meant goes.1))
              (λ e. inr (refl, waits))

    pub controller_held : Held after station live (sent ++ frames)
    controller_held = by_ended (is_ended c.live.phase) refl
      where
        by_so : is_ended c.live.phase ≡ false → (is_ended turn.live.phase ≡ true) ⊎ Goes c.setup.plan heard c.live turn
            → Held after station live (sent ++ frames)
        by_so going (inl is_over) = over_held is_over
        by_so going (inr goes) = goes_held going goes

        by_ended : (b : Bool) → is_ended c.live.phase ≡ b → Held after station live (sent ++ frames)
        by_ended true e = over_held (ended_on c one held.reached e)
        by_ended false e =
            by_so e (event_turns c.setup heard c.live held.steady held.alone (so.follows c.setup)
            (so.due_so c.setup) one refl unrefused on.in_step).so
