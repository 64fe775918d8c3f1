-- The turn of a place that begins after an event or with a unit, and what the answer to a request after a plug changes.
use Rattle.std.proofs.Common.{◌≡◌, inl, inr, ◌+◌, ◌&&◌, ◌||◌, ◌++◌, ℕ, Bool, true, false, not, Option, Some, None, refl, sym, ap, subst, ◌∙◌}
use Rattle.std.specs.Prelude.{if◌then◌else◌, is_some}
use Rattle.std.proofs.lemmas.Bool.{and_parts, false≢true}
use Rattle.rpc_core.specs.declared.response.Status.{Status}
use Rattle.rpc_core.specs.Response.{is_done}
use Rattle.pn_alarms.specs.Sending.{due}
use Rattle.plan_places.specs.declared.report.Plug.{Plug}
use Rattle.plan_places.specs.declared.place.PlaceState.TheVariants as known
use Rattle.plan_places.specs.Places.{has_turn_at, next_waiting, with_state}
use Rattle.controller_messages.specs.declared.plug_request.PlugRequest.{PlugRequest}
use Rattle.controller_messages.specs.declared.plug_request.PlugStep.{PlugStep}
use Rattle.controller_messages.specs.declared.plug_request.PlugStep.TheVariants.{Record, PrmEnd}
use Rattle.controller_messages.specs.declared.refusal.Refusal.{Refusal}
use Rattle.controller_messages.specs.declared.setup.Setup.{Setup}
use Rattle.controller_messages.specs.Access.{Accessing, call_number, is_free, plugged, unplugged}
use Rattle.controller_core.specs.declared.stored.state.State.{State}
use Rattle.controller_core.specs.declared.stored.state.State.TheVariants.{Exchanging}
use Rattle.controller_core.specs.stored.State.{Live}
use Rattle.controller_core.specs.Machine.{Turn, after_turn, begun_by, begun_turn, brought, can_begin, exchange_later, flow_later, flowed, gone_on, is_again, is_exchanging, later, noted, plug_asked, plug_finished, plug_passed_by, plug_refused, plug_replied, plugs_of, refused_place, requests_of, stays, step_from, turn_due, where_due}
use Rattle.end_laws.specs.turns.Beside.{IsBegun, IsBeside, IsFollowed, MayBegin, MayFollow, first_asked, flow_begun}
use Rattle.end_laws.specs.turns.Turns.{IsStepped}

-- ---- what is in the way of a turn

pub exchanging_is : (phase : State) → is_exchanging phase ≡ true → phase ≡ Exchanging
exchanging_is Exchanging e = refl
exchanging_is phase e = absurd cc

pub none_is : {A : Type 0} (waiting : Option A) → not (is_some waiting) ≡ true → waiting ≡ None
none_is None e = refl
none_is (Some request) e = absurd cc

some_is : (next : Option Plug) → is_some next ≡ true → (plug : Plug) × (next ≡ Some plug)
some_is (Some plug) e = (plug, refl)
some_is None e = absurd (false≢true e)

or_true : (b : Bool) → (b || true) ≡ true
or_true true = refl
or_true false = refl

-- Nothing is in the way of the next place.
record IsFree (live : Live) : Type 0 where
  stands : live.stands ≡ true
  phase : live.phase ≡ Exchanging
  waiting : live.access.waiting ≡ None
  plug : live.access.plug ≡ None
  next : Plug
  is_next : next_waiting live.places ≡ Some next

free : (live : Live) → can_begin live ≡ true → IsFree live
free live e =
    let one = and_parts live.stands (is_exchanging live.phase && (is_free live.access && is_some (next_waiting live.places))) e in
    let two = and_parts (is_exchanging live.phase) (is_free live.access && is_some (next_waiting live.places)) one.1 in
    let three = and_parts (is_free live.access) (is_some (next_waiting live.places)) two.1 in
    let four = and_parts (not (is_some live.access.waiting)) (not (is_some live.access.plug)) three.0 in
    let next = some_is (next_waiting live.places) three.1 in
    record {
      stands = one.0;
      phase = exchanging_is live.phase two.0;
      waiting = none_is live.access.waiting four.0;
      plug = none_is live.access.plug four.1;
      next = next.0;
      is_next = next.1;
    }

-- ---- a turn begins

-- The first request of this place is made.
abbrev asked_now : Setup → Live → Plug → Live
asked_now setup live plug = plug_asked setup plug.slot plug.subslot plug.number (step_from setup.plan plug.slot plug.subslot 0) live

asked_begun : (setup : Setup) (live : Live) (is : IsFree live) → IsBegun setup live (asked_now setup live is.next)
asked_begun setup live is = record {
  stands = is.stands;
  phase = is.phase;
  waiting = is.waiting;
  plug = is.plug;
  next = is.next;
  is_next = is.is_next;
  request = first_asked setup (call_number setup.plan live.access.calls) is.next;
  request_is = refl;
  numbered = refl;
  beside = refl;
  waited = refl;
  access = refl;
  places = refl;
}

begun_is : (setup : Setup) (live : Live) (is : IsFree live) → can_begin live ≡ true → begun_turn setup live ≡ asked_now setup live is.next
begun_is setup live is can =
    ap (λ (b : Bool). if b then begun_by setup (next_waiting live.places) live else live) can
    ∙ ap (λ (o : Option Plug). begun_by setup o live) is.is_next

-- After an event that changes nothing none begins.
or_not : (b : Bool) → (b || not b) ≡ true
or_not true = refl
or_not false = refl

pub stays_alone : (setup : Setup) (live : Live) → after_turn setup (can_begin live) (stays live) ≡ stays live
stays_alone setup live =
    let next = begun_turn setup live in
    let begun : Turn = record { live = next; sent = plugs_of next } in
    ap (λ (b : Bool). if b then stays live else begun) (or_not (can_begin live))

-- The request that the turn begins with is sent after the messages of an event.
abbrev sent_with : Turn → Live → Turn
sent_with turn next = record { live = next; sent = turn.sent ++ plugs_of next }

asked_followed : (setup : Setup) (turn : Turn) (is : IsFree turn.live) → IsFollowed setup turn (sent_with turn (asked_now setup turn.live is.next))
unfolding asked_begun
asked_followed setup turn is = record { begun = asked_begun setup turn.live is; sent = refl }

followed_by : (setup : Setup) (could : Bool) (turn : Turn) (b c : Bool) → (could || not (can_begin turn.live)) ≡ b → can_begin turn.live ≡ c
    → MayFollow setup turn (if b then turn else sent_with turn (begun_turn setup turn.live))
followed_by setup could turn true c e f = inl refl
followed_by setup could turn false true e f =
    let is = free turn.live f in
    subst (λ (l : Live). MayFollow setup turn (sent_with turn l)) (sym (begun_is setup turn.live is f))
    (inr (asked_followed setup turn is))
followed_by setup could turn false false e f = absurd (false≢true (sym e ∙ (ap (λ (b : Bool). could || not b) f ∙ or_true could)))

pub follows : (setup : Setup) (could : Bool) (turn : Turn) → MayFollow setup turn (after_turn setup could turn)
follows setup could turn = followed_by setup could turn (could || not (can_begin turn.live)) (can_begin turn.live) refl refl

begun_by_way : (setup : Setup) (live : Live) (b : Bool) → can_begin live ≡ b → MayBegin setup live (if b then begun_by setup (next_waiting live.places) live else live)
begun_by_way setup live true e =
    let is = free live e in
    subst (λ (o : Option Plug). MayBegin setup live (begun_by setup o live)) (sym is.is_next) (inr (asked_begun setup live is))
begun_by_way setup live false e = inl refl

pub begins : (setup : Setup) (is_due : Bool) (live : Live) → MayBegin setup live (turn_due setup is_due live)
begins setup false live = inl refl
begins setup true live = begun_by_way setup live (can_begin live) refl

-- The same, and the exchange a unit later.
flow_asked : (setup : Setup) (live : Live) (is : IsFree live) → IsBegun setup (exchange_later live) (exchange_later (asked_now setup live is.next))
flow_asked setup live is = record {
  stands = is.stands;
  phase = is.phase;
  waiting = is.waiting;
  plug = is.plug;
  next = is.next;
  is_next = is.is_next;
  request = first_asked setup (call_number setup.plan live.access.calls) is.next;
  request_is = refl;
  numbered = refl;
  beside = refl;
  waited = refl;
  access = refl;
  places = refl;
}

flow_by_way : (setup : Setup) (live : Live) (b : Bool) → can_begin live ≡ b
    → MayBegin setup (exchange_later live) (exchange_later (if b then begun_by setup (next_waiting live.places) live else live))
flow_by_way setup live true e =
    let is = free live e in
    subst (λ (o : Option Plug). MayBegin setup (exchange_later live) (exchange_later (begun_by setup o live))) (sym is.is_next) (inr (flow_asked setup live is))
flow_by_way setup live false e = inl refl

flow_begins : (setup : Setup) (is_due : Bool) (live : Live) → MayBegin setup (exchange_later live) (exchange_later (turn_due setup is_due live))
flow_begins setup false live = inl refl
flow_begins setup true live = flow_by_way setup live (can_begin live) refl

pub flows : (setup : Setup) (live : Live) → MayBegin setup (flow_later live) (flow_begun setup live)
flows setup live = flow_begins setup (is_again live) (later live)

-- ---- a unit

-- Either way these alone may differ.
pub begun_beside : (setup : Setup) (before after : Live) → MayBegin setup before after → IsBeside before after
begun_beside setup before after (inl same) = subst (λ (l : Live). IsBeside before l) (sym same) refl
begun_beside setup before after (inr begun) = begun.beside

-- A unit after which this is the state without the exchange.
abbrev pub unit_with : Live → Live → Turn
unit_with live next =
    if live.stands then flowed (exchange_later next) (due live.alarms.sending) (due live.low_alarms.sending) (is_again live) (brought live) (brought live).ending
    else record { live = next; sent = where_due (is_again live) (requests_of live.device live.asked) }

-- The state after the timer of the request and the turn that may begin with it.
abbrev pub unit_begun : Setup → Live → Live
unit_begun setup live = turn_due setup (is_again live) (later live)

pub gone_is : (setup : Setup) (live : Live) → gone_on (unit_begun setup live) (is_again live) ≡ unit_with live (unit_begun setup live)
gone_is setup live =
    subst (λ (l : Live). gone_on l (is_again live) ≡ unit_with live l)
    (sym (begun_beside setup (later live) (unit_begun setup live) (begins setup (is_again live) (later live)))) refl

-- Without a relation nothing begins.
pub idle_is : (setup : Setup) (live : Live) → live.stands ≡ false → unit_begun setup live ≡ later live
idle_is setup live down = by_way (begins setup (is_again live) (later live))
  where
    by_way : MayBegin setup (later live) (unit_begun setup live) → unit_begun setup live ≡ later live
    by_way (inl same) = same
    by_way (inr begun) = absurd (false≢true (sym down ∙ begun.stands))

-- Nothing begins while no data is exchanged.
pub still_is : (setup : Setup) (live : Live) → (live.phase ≡ Exchanging → ⊥) → unit_begun setup live ≡ later live
still_is setup live other = by_way (begins setup (is_again live) (later live))
  where
    by_way : MayBegin setup (later live) (unit_begun setup live) → unit_begun setup live ≡ later live
    by_way (inl same) = same
    by_way (inr begun) = absurd (other begun.phase)

-- ---- the answer to a request after a plug

-- These alone may differ: the last refusal, the timer of the request, the places, and the requests beside the exchange.
abbrev pub IsPlugStep : Live → Live → Type 0
IsPlugStep before after =
    after ≡ record before { refusal = after.refusal; refused_record = after.refused_record; waited = after.waited; places = after.places; access = after.access }

step_if : (live : Live) (b : Bool) {x y : Live} → IsPlugStep live x → IsPlugStep live y → IsPlugStep live (if b then x else y)
step_if live true one other = one
step_if live false one other = other

step_on : (live next after : Live) → IsPlugStep live next → IsPlugStep next after → IsPlugStep live after
step_on live next after one other =
    other
    ∙ ap (λ (l : Live). record l { refusal = after.refusal; refused_record = after.refused_record; waited = after.waited; places = after.places; access = after.access }) one

module _ (setup : Setup) (live : Live) where
  passed_step : (now : Live) (request : PlugRequest) (step : PlugStep) → IsPlugStep now (plug_passed_by setup now request step)
  passed_step now request (Record number) = step_if now (has_turn_at request.slot request.subslot now.places) refl refl
  passed_step now request PrmEnd = refl

  refused_step : (request : PlugRequest) (now : Live) → IsPlugStep now (refused_place request now)
  refused_step request now = step_if now (has_turn_at request.slot request.subslot now.places) refl refl

  plug_refused_step : (now : Live) (status : Status) (request : PlugRequest) (step : PlugStep) → IsPlugStep now (plug_refused setup now status request step)
  plug_refused_step now status request (Record number) =
      let denied = noted status number now in
      step_if now setup.plan.continue_on_refused_record
      (step_on now denied (plug_passed_by setup denied request request.step) refl (passed_step denied request request.step))
      (step_on now denied (refused_place request denied) refl (refused_step request denied))
  plug_refused_step now status request PrmEnd =
      let denied : Live = record now { refusal = Some status } in
      step_on now denied (refused_place request denied) refl (refused_step request denied)

  -- a response of the device
  pub replied_step : (status : Status) (request : PlugRequest) → IsPlugStep live (plug_replied setup live status request)
  replied_step status request =
      let now = plug_finished live in
      step_on live now (plug_replied setup live status request) refl
      (step_if now (is_done status) (passed_step now request request.step) (plug_refused_step now status request request.step))

  -- a reject or a fault
  abbrev pub rejected_now : Refusal → PlugRequest → Live
  rejected_now refusal request = refused_place request (record (plug_finished live) { refusal = Some refusal.status })

  pub rejected_step : (refusal : Refusal) (request : PlugRequest) → IsPlugStep live (rejected_now refusal request)
  rejected_step refusal request =
      let now : Live = record (plug_finished live) { refusal = Some refusal.status } in
      step_on live now (rejected_now refusal request) refl (refused_step request now)

  -- ---- the request that is made next

  stepped_if : (b : Bool) (x y : Live) → IsStepped setup live x.access → IsStepped setup live y.access → IsStepped setup live (if b then x else y).access
  stepped_if true x y one other = one
  stepped_if false x y one other = other

  unplugged_if : (b : Bool) (x y : Live) → x.access ≡ unplugged live.access → y.access ≡ unplugged live.access → (if b then x else y).access ≡ unplugged live.access
  unplugged_if true x y one other = one
  unplugged_if false x y one other = other

  -- the request after the one with this record
  abbrev asked_next : Live → PlugRequest → ℕ → PlugRequest
  asked_next now request number = record {
    sequence = call_number setup.plan now.access.calls;
    slot = request.slot;
    subslot = request.subslot;
    number = request.number;
    step = step_from setup.plan request.slot request.subslot (number + 1);
  }

  passed_asks : (now : Live) → now.access ≡ unplugged live.access → (request : PlugRequest) (step : PlugStep) → IsStepped setup live (plug_passed_by setup now request step).access
  passed_asks now e request (Record number) =
      stepped_if (has_turn_at request.slot request.subslot now.places)
      (plug_asked setup request.slot request.subslot request.number (step_from setup.plan request.slot request.subslot (number + 1)) now) now
      (inr (asked_next now request number, ap (λ (a : Accessing). call_number setup.plan a.calls) e, ap (plugged (asked_next now request number)) e)) (inl e)
  passed_asks now e request PrmEnd = inl e

  refused_asks : (now : Live) → now.access ≡ unplugged live.access → (request : PlugRequest) → (refused_place request now).access ≡ unplugged live.access
  refused_asks now e request =
      unplugged_if (has_turn_at request.slot request.subslot now.places)
      (record now { places = with_state request.slot request.subslot known.Refused now.places }) now e e

  plug_refused_asks : (status : Status) (request : PlugRequest) (step : PlugStep) → IsStepped setup live (plug_refused setup (plug_finished live) status request step).access
  plug_refused_asks status request (Record number) =
      let denied = noted status number (plug_finished live) in
      stepped_if setup.plan.continue_on_refused_record (plug_passed_by setup denied request request.step) (refused_place request denied)
      (passed_asks denied refl request request.step) (inl (refused_asks denied refl request))
  plug_refused_asks status request PrmEnd = inl (refused_asks (record (plug_finished live) { refusal = Some status }) refl request)

  pub replied_asks : (status : Status) (request : PlugRequest) → IsStepped setup live (plug_replied setup live status request).access
  replied_asks status request =
      stepped_if (is_done status) (plug_passed_by setup (plug_finished live) request request.step)
      (plug_refused setup (plug_finished live) status request request.step)
      (passed_asks (plug_finished live) refl request request.step) (plug_refused_asks status request request.step)

  pub rejected_asks : (refusal : Refusal) (request : PlugRequest) → (rejected_now refusal request).access ≡ unplugged live.access
  rejected_asks refusal request = refused_asks (record (plug_finished live) { refusal = Some refusal.status }) refl request

  -- The request of the application is left as it is.
  pub stepped_waiting : (access : Accessing) → IsStepped setup live access → access.waiting ≡ live.access.waiting
  stepped_waiting access (inl same) = ap (λ (a : Accessing). a.waiting) same
  stepped_waiting access (inr next) = ap (λ (a : Accessing). a.waiting) next.2

  pub stepped_octets : (access : Accessing) → IsStepped setup live access → access.octets ≡ live.access.octets
  stepped_octets access (inl same) = ap (λ (a : Accessing). a.octets) same
  stepped_octets access (inr next) = ap (λ (a : Accessing). a.octets) next.2
