-- Any events at which the controller of a relation is silent.
use Rattle.std.proofs.Common.{◌≡◌, ◌⊎◌, ◌≤◌, ◌+◌, ◌||◌, inl, inr, ℕ, suc, Bool, true, false, length, Ok, List, [], ◌∷◌, map}
use Rattle.std.proofs.Common.{Option, Some, None, refl, sym, ap, subst, ◌∙◌, if◌then◌else◌, arith}
use Rattle.std.specs.List.{AllByRecursion, list_any}
use Rattle.flash_model.specs.declared.flash.Flash.{Ghosts as Flash}
use Rattle.settings_journal.specs.settings_store.Machine.{Outcome}
use Rattle.connects.specs.requests.Request.{Request}
use Rattle.cyclic_data.specs.declared.exchange.route.Route.{Route}
use Rattle.pn_alarms.specs.declared.abort.Abort.TheVariants.{Other}
use Rattle.relations.specs.RelationState.{RelationState}
use Rattle.device_frames.specs.declared.event.Event.{Event}
use Rattle.device_frames.specs.declared.event.Event.TheVariants.{Frame, Call as Joined, Tick, Neighbour, Application}
use Rattle.arrayvec.specs.ArrayVec.{ArrayVec}
use Rattle.pn_values.specs.declared.identity.Identity.{Identity}
use Rattle.frame_codec.specs.declared.udp.Caller.{Caller}
use Rattle.rpc_core.specs.Call.{Asked as Call}
use Rattle.records.specs.calls.Naming.{is_relation}
use Rattle.asked_records.specs.Asked.{AskedState}
use Rattle.asked_records.specs.Questions.{header_of}
use Rattle.relations.specs.RelationState.{uuid_of}
use Rattle.device_frames.specs.declared.local.Local.{Local}
use Rattle.device_frames.specs.Heard.{Applied, Calls, Reported, Ticks, heard_of}
use Rattle.device_frames.specs.Sent.{Sent, bytes_of}
use Rattle.device_core.specs.Asking.{asking_of}
use Rattle.device_frames.specs.declared.note.Note.{Note}
use Rattle.device_core.specs.State.{Live, State, Station}
use Rattle.device_core.specs.Steps.{Steps}
use Rattle.device_core.specs.Machine.{Stepped, first_step, handled_step, heard_step, later_steps, run_of, step_of}
use Rattle.octets_law.specs.Octets.{untagged}
use Rattle.strangers_law.specs.Device.{IsStrange, is_unit, marks_of, units_in}
use Rattle.strangers_law.specs.Silence.{AreLate, AreSilent, AreTimed, AreUnplugged, CountsDown, EndsAmong, EndsWith, IsSilent, IsUnasked, IsUnaskedIn}
use Rattle.strangers_law.specs.Silence.{IsStill, IsTimed, SaysEnd, is_event_of, is_received, limit_in, remaining, silence_limit}
use Rattle.strangers_law.specs.Strange.{Marks, belongs}
use Rattle.strangers_law.proofs.Clocks.{Goes, IsBeside, IsOn, IsOver, Lasts, applied_goes, beside_goes, clock_remaining, clock_timed}
use Rattle.strangers_law.proofs.Clocks.{free_applied, free_beside, free_tick, remains_most, remains_one, tick_goes}
use Rattle.octets_law.proofs.Asked.{step_such}
use Rattle.strangers_law.proofs.AskedBy.{asks_unnamed}
use Rattle.strangers_law.proofs.Floods.{strange_left}
use Rattle.strangers_law.proofs.Harmless.{IsHarmless, IsUnnamed}
use Rattle.strangers_law.proofs.Hearing.{strange_harmless}
use Rattle.strangers_law.proofs.Resets.{reset_beside}

-- ---- one event

-- A relation after an event that does not end it.
record IsKept (link : RelationState) (units : ℕ) (now : Option RelationState) : Type 0 where
  next : RelationState
  is : now ≡ Some next
  request : next.request ≡ link.request
  route : next.flow.cyclic.route ≡ link.flow.cyclic.route
  endpoint : next.flow.endpoint ≡ link.flow.endpoint
  timed : IsTimed next
  left : remaining next + units ≡ remaining link

abbrev Moves : Station → AskedState → RelationState → Event → Stepped → Type 0
Moves station asked link event step = EndsWith station asked link event step ⊎ IsKept link (units_in (event ∷ [])) step.live.rest.link

abbrev marks_by : Request → Route → ℕ → Marks
marks_by request route endpoint = record {
  uuid = request.ar.uuid;
  provider = route.partner.octets;
  frame_id = route.taken_id;
  notifier = request.ar.initiator.octets;
  their_endpoint = request.alarm.reference;
  own_endpoint = endpoint;
}

kept_marks : (link next : RelationState) → next.request ≡ link.request → next.flow.cyclic.route ≡ link.flow.cyclic.route → next.flow.endpoint ≡ link.flow.endpoint
    → marks_of next ≡ marks_of link
kept_marks link next request route endpoint = ap (λ r. marks_by r next.flow.cyclic.route next.flow.endpoint) request
    ∙ ap (λ r. marks_by link.request r next.flow.endpoint) route ∙ ap (marks_by link.request link.flow.cyclic.route) endpoint

units_none : (event : Event) → is_unit event ≡ false → units_in (event ∷ []) ≡ 0
units_none event none = ap (λ (b : Bool). let n : ℕ = if b then suc (units_in []) else units_in [] in n) none

none_more : (n : ℕ) → n + 0 ≡ n
none_more n = omega arith

same_unasked : (link next : RelationState) → next.request ≡ link.request → (asked : AskedState) → IsUnasked link asked → IsUnasked next asked
same_unasked link next same asked unasked =
    λ question is. ap (λ (r : Request). is_relation (Some r.ar.uuid) (header_of question.request).ar_uuid) same ∙ unasked question is

few_frames : (identity : Identity) (sent : List Sent) → length sent ≤ 1 → length (map (bytes_of identity) sent) ≤ 1
few_frames identity [] few = omega arith
few_frames identity (one ∷ []) few = omega arith
few_frames identity (one ∷ two ∷ sent) few = absurd (omega (arith, few))

-- The frames of a step are those of its messages.
frames_are : (outcomes : List Outcome) (station : Station) (live : Live) (event : Event)
    → (step_of outcomes station live event).frames ≡ map (bytes_of station.identity) (step_of outcomes station live event).sent
unfolding heard_step handled_step
frames_are outcomes station live event = refl

module _ (outcomes : List Outcome) (station : Station) (live : Live) (link : RelationState) (exists : live.rest.link ≡ Some link) (timed : IsTimed link) where
  abbrev step : Event → Stepped
  step event = step_of outcomes station live event

  -- The relation is the same.
  same_moves : (event : Event) → is_unit event ≡ false → (step event).live.rest.link ≡ Some link → Moves station live.rest.asked link event (step event)
  same_moves event none is = inr (record {
    next = link;
    is = is;
    request = refl;
    route = refl;
    endpoint = refl;
    timed = timed;
    left = ap (λ n. remaining link + n) (units_none event none) ∙ none_more (remaining link);
  })

  no_tick : (event : Event) (others : List (List ℕ)) → is_unit event ≡ false → event ≡ Tick → AreLate live.rest.asked others
  no_tick event others none is = absurd (let e = ap is_unit is in cc)

  goes_moves : (event : Event) → is_unit event ≡ false → Goes link (step event).live.rest.link (step event).sent
      → Moves station live.rest.asked link event (step event)
  goes_moves event none goes = by_after (step event).live.rest.link refl
    where
      by_after : (after : Option RelationState) → (step event).live.rest.link ≡ after → Moves station live.rest.asked link event (step event)
      by_after None is =
          let said = goes.says is in
          inl (record {
            none = is;
            reason = Other;
            cause = inl refl;
            others = map (bytes_of station.identity) said.others;
            says = frames_are outcomes station live event ∙ ap (map (bytes_of station.identity)) said.says;
            alone = no_tick event _ none;
          })
      by_after (Some next) is =
          let same = subst (Lasts link) is goes.lasts in
          inr (record {
            next = next;
            is = is;
            request = ap (λ c. c.request) same;
            route = ap (λ c. c.times.route) same;
            endpoint = ap (λ c. c.times.endpoint) same;
            timed = clock_timed link next same timed;
            left = ap (λ n. remaining next + n) (units_none event none) ∙ none_more (remaining next) ∙ clock_remaining link next same;
          })

  beside_moves : (event : Event) → is_unit event ≡ false → IsBeside (heard_of station.identity event) → Moves station live.rest.asked link event (step event)
  beside_moves event none beside = goes_moves event none (beside_goes outcomes station live link (heard_of station.identity event) exists beside)

  unit_moves : Moves station live.rest.asked link Tick (step Tick)
  unfolding heard_of
  unit_moves = by_unit (tick_goes outcomes station live link exists timed)
    where
      by_unit : IsOver live.rest.asked link (heard_step outcomes station live Ticks).live.rest.link (heard_step outcomes station live Ticks).sent
          ⊎ IsOn link (heard_step outcomes station live Ticks).live.rest.link → Moves station live.rest.asked link Tick (step Tick)
      by_unit (inl over) = inl (record {
        none = over.none;
        reason = over.reason;
        cause = over.cause;
        others = map (bytes_of station.identity) over.others;
        says = frames_are outcomes station live Tick ∙ ap (map (bytes_of station.identity)) over.says;
        alone = λ _. (few_frames station.identity over.others over.few, λ not_over. ap (map (bytes_of station.identity)) (over.late not_over));
      })
      by_unit (inr on) = inr (record {
        next = on.next;
        is = on.is;
        request = on.passed.request;
        route = on.passed.route;
        endpoint = on.passed.endpoint;
        timed = on.passed.timed;
        left = on.passed.left;
      })

  strange_moves : (event : Event) → is_unit event ≡ false → IsStrange station link event → Moves station live.rest.asked link event (step event)
  strange_moves event none strange = same_moves event none ((strange_left outcomes station live link event exists strange).link ∙ exists)

  moves : (event : Event) → IsUnasked link live.rest.asked → IsSilent station link event → Moves station live.rest.asked link event (step event)
  unfolding heard_of
  moves (Frame bytes) unasked silent = by_own (belongs station.identity.mac.octets (marks_of link) (untagged bytes.items)) refl
    where
      by_own : (own : Bool) → belongs station.identity.mac.octets (marks_of link) (untagged bytes.items) ≡ own
          → Moves station live.rest.asked link (Frame bytes) (step (Frame bytes))
      by_own false is = strange_moves (Frame bytes) refl is
      by_own true is = beside_moves (Frame bytes) refl (reset_beside station.identity station.identity.mac.octets (marks_of link) bytes.items silent is)
  moves (Joined caller address octets) unasked silent = strange_moves (Joined caller address octets) refl silent
  moves Tick unasked silent = unit_moves
  moves (Application said) unasked silent = goes_moves (Application said) refl (applied_goes outcomes station live link said exists unasked)
  moves (Neighbour neighbour) unasked silent = beside_moves (Neighbour neighbour) refl tt

  -- ---- what is asked

  -- A call that comes while the controller is silent does not name the relation.
  silent_unnamed : (event : Event) → IsSilent station link event → (caller : Caller) (address : List ℕ) (call : Call)
      → heard_of station.identity event ≡ Reported caller address (Calls call) → IsUnnamed link call
  unfolding heard_of
  silent_unnamed (Frame bytes) silent caller address call is = by_own (belongs station.identity.mac.octets (marks_of link) (untagged bytes.items)) refl
    where
      by_own : (own : Bool) → belongs station.identity.mac.octets (marks_of link) (untagged bytes.items) ≡ own → IsUnnamed link call
      by_own false other = subst (IsHarmless link) is (strange_harmless station.identity link (Frame bytes) other)
      by_own true own = absurd (subst IsBeside is (reset_beside station.identity station.identity.mac.octets (marks_of link) bytes.items silent own))
  silent_unnamed (Joined from to octets) silent caller address call is =
      subst (IsHarmless link) is (strange_harmless station.identity link (Joined from to octets) silent)
  silent_unnamed Tick silent caller address call is = absurd cc
  silent_unnamed (Application said) silent caller address call is = absurd cc
  silent_unnamed (Neighbour neighbour) silent caller address call is = absurd cc

  -- So the application is asked no call that names it.
  stays_unasked : (event : Event) → IsUnasked link live.rest.asked → IsSilent station link event → IsUnasked link (step event).live.rest.asked
  stays_unasked event unasked silent =
      step_such (λ question. is_relation (Some link.request.ar.uuid) (header_of question.request).ar_uuid ≡ false) outcomes station live
      (heard_of station.identity event)
      (λ caller address call blocks operation asking heard there which asks.
      asks_unnamed live.rest.real station.named link caller call blocks (silent_unnamed event silent caller address call heard blocks there) operation asking
      (subst (λ l. asking_of live.rest.real station.named (uuid_of l) caller call blocks operation ≡ Ok (Some asking)) exists asks)) unasked

-- ---- any events

units_more : (event : Event) (events : List Event) → units_in (event ∷ events) ≡ units_in events + units_in (event ∷ [])
units_more event events = by_unit (is_unit event)
  where
    by_unit : (b : Bool)
        → (let n : ℕ = if b then suc (units_in events) else units_in events in n) ≡ units_in events +
        (let n : ℕ = if b then suc (units_in []) else units_in [] in n)
    by_unit true = omega arith
    by_unit false = omega arith

added : (a b c k n m : ℕ) → a + k ≡ b → b + n ≡ c → m ≡ k + n → a + m ≡ c
added a b c k n m one other sum = omega arith

module _ (station : Station) where
  abbrev AreSilentBy : Marks → List Event → Type 0
  AreSilentBy marks events = AllByRecursion (λ event. is_event_of station.identity.mac.octets marks event ≡ false) events

  abbrev Counted : List (List Outcome) → Live → RelationState → List Event → Type 0
  Counted outcomes live link events =
      EndsAmong outcomes station live link events ⊎ IsStill link (units_in events) (run_of outcomes station live events).live.rest.link

  -- One event, and then the others.
  then_counted : (outcomes : List (List Outcome)) (event : Event) (events : List Event) (live : Live) (link : RelationState)
      → AreSilentBy (marks_of link) events → IsUnasked link (step_of (first_step outcomes) station live event).live.rest.asked
      → Moves station live.rest.asked link event (step_of (first_step outcomes) station live event)
      → ((next : RelationState) → (step_of (first_step outcomes) station live event).live.rest.link ≡ Some next → IsTimed next
      → IsUnasked next (step_of (first_step outcomes) station live event).live.rest.asked → AreSilentBy (marks_of next) events
      → Counted (later_steps outcomes) (step_of (first_step outcomes) station live event).live next events)
      → Counted outcomes live link (event ∷ events)
  then_counted outcomes event events live link silent unasked (inl ends) others = inl (inl ends)
  then_counted outcomes event events live link silent unasked (inr kept) others =
      by_rest (others kept.next kept.is kept.timed (same_unasked link kept.next kept.request
      (step_of (first_step outcomes) station live event).live.rest.asked unasked)
      (subst (λ m. AreSilentBy m events) (sym (kept_marks link kept.next kept.request kept.route kept.endpoint)) silent))
    where
      by_rest : Counted (later_steps outcomes) (step_of (first_step outcomes) station live event).live kept.next events
          → Counted outcomes live link (event ∷ events)
      by_rest (inl among) = inl (inr (record { next = kept.next; is = kept.is; request = kept.request; left = kept.left }, among))
      by_rest (inr still) = inr (record {
        next = still.next;
        is = still.is;
        request = still.request ∙ kept.request;
        left = added _ _ _ _ _ _ still.left kept.left (units_more event events);
      })

  counted : (outcomes : List (List Outcome)) (events : List Event) (live : Live) (link : RelationState) → live.rest.link ≡ Some link → IsTimed link
      → IsUnasked link live.rest.asked → AreSilentBy (marks_of link) events → Counted outcomes live link events
  counted outcomes [] live link exists timed unasked silent = inr (record { next = link; is = exists; request = refl; left = none_more (remaining link) })
  counted outcomes (event ∷ events) live link exists timed unasked silent =
      then_counted outcomes event events live link silent.1 (stays_unasked (first_step outcomes) station live link exists timed event unasked silent.0)
      (moves (first_step outcomes) station live link exists timed event unasked silent.0)
      (λ next is later now others. counted (later_steps outcomes) events (step_of (first_step outcomes) station live event).live next is later now others)

pub counts_down : CountsDown
counts_down station live link outcomes events exists timed unasked silent = counted station outcomes events live link exists timed unasked silent

-- ---- the limit

too_many : (left units all limit : ℕ) → 1 ≤ left → left + units ≡ all → all ≤ limit → limit ≤ units → ⊥
too_many left units all limit one sum most many = omega arith

pub ends_in_time : (station : Station) (live : Live) (link : RelationState) (outcomes : List (List Outcome)) (events : List Event)
    → live.rest.link ≡ Some link → IsTimed link → IsUnasked link live.rest.asked → AreSilent station link events → silence_limit link ≤ units_in events
    → EndsAmong outcomes station live link events
ends_in_time station live link outcomes events exists timed unasked silent many =
    by_count (counts_down station live link outcomes events exists timed unasked silent)
  where
    by_count : EndsAmong outcomes station live link events ⊎ IsStill link (units_in events) (run_of outcomes station live events).live.rest.link
        → EndsAmong outcomes station live link events
    by_count (inl among) = among
    by_count (inr still) = absurd (too_many _ _ _ _ (remains_one still.next) still.left (remains_most link) many)

either_none : (a b : Bool) → a || b ≡ false → (a ≡ false) × (b ≡ false)
either_none false false is = (refl, refl)
either_none true b is = absurd cc
either_none false true is = absurd cc

none_of : (f : Event → Bool) (events : List Event) → list_any f events ≡ false → AllByRecursion (λ event. f event ≡ false) events
none_of f [] is = tt
none_of f (event ∷ events) is = let parts = either_none (f event) (list_any f events) is in (parts.0, none_of f events parts.1)

pub ends_or_hears : (station : Station) (live : Live) (link : RelationState) (outcomes : List (List Outcome)) (events : List Event)
    → live.rest.link ≡ Some link → IsTimed link → IsUnasked link live.rest.asked → silence_limit link ≤ units_in events
    → EndsAmong outcomes station live link events ⊎ (list_any (is_event_of station.identity.mac.octets (marks_of link)) events ≡ true)
ends_or_hears station live link outcomes events exists timed unasked many =
    by_any (list_any (is_event_of station.identity.mac.octets (marks_of link)) events) refl
  where
    by_any : (b : Bool) → list_any (is_event_of station.identity.mac.octets (marks_of link)) events ≡ b
        → EndsAmong outcomes station live link events ⊎ (list_any (is_event_of station.identity.mac.octets (marks_of link)) events ≡ true)
    by_any true is = inr is
    by_any false is = inl (ends_in_time station live link outcomes events exists timed unasked
        (none_of (is_event_of station.identity.mac.octets (marks_of link)) events is) many)

-- ---- the cable is pulled

-- What is heard of an event that is not received.
quiet_heard : (station : Station) (event : Event) → is_received event ≡ false
    → (heard_of station.identity event ≡ Ticks) ⊎ (IsBeside (heard_of station.identity event)
    ⊎ ((said : Local (ArrayVec ℕ)) × (heard_of station.identity event ≡ Applied said)))
unfolding heard_of
quiet_heard station Tick none = inl refl
quiet_heard station (Application said) none = inr (inr (_, refl))
quiet_heard station (Neighbour neighbour) none = inr (inl tt)
quiet_heard station event none = absurd cc

free_stays : (outcomes : List Outcome) (station : Station) (live : Live) (event : Event) → is_received event ≡ false → live.rest.link ≡ None
    → (step_of outcomes station live event).live.rest.link ≡ None
free_stays outcomes station live event none is = by_heard (quiet_heard station event none)
  where
    by_heard : (heard_of station.identity event ≡ Ticks) ⊎ (IsBeside (heard_of station.identity event)
        ⊎ ((said : Local (ArrayVec ℕ)) × (heard_of station.identity event ≡ Applied said)))
        → (heard_step outcomes station live (heard_of station.identity event)).live.rest.link ≡ None
    by_heard (inl ticks) = subst (λ h. (heard_step outcomes station live h).live.rest.link ≡ None) (sym ticks) (free_tick outcomes station live is)
    by_heard (inr (inl beside)) = free_beside outcomes station live (heard_of station.identity event) beside is
    by_heard (inr (inr (said, applied))) =
        subst (λ h. (heard_step outcomes station live h).live.rest.link ≡ None) (sym applied) (free_applied outcomes station live said is)

free_run : (station : Station) (outcomes : List (List Outcome)) (events : List Event) (live : Live) → AreUnplugged events → live.rest.link ≡ None
    → (run_of outcomes station live events).live.rest.link ≡ None
free_run station outcomes [] live none is = is
free_run station outcomes (event ∷ events) live none is =
    free_run station (later_steps outcomes) events (step_of (first_step outcomes) station live event).live none.1
    (free_stays (first_step outcomes) station live event none.0 is)

ended_run : (station : Station) (outcomes : List (List Outcome)) (events : List Event) (live : Live) (link : RelationState) → AreUnplugged events
    → EndsAmong outcomes station live link events
    → (run_of outcomes station live events).live.rest.link ≡ None
ended_run station outcomes [] live link none among = absurd among
ended_run station outcomes (event ∷ events) live link none (inl ends) =
    free_run station (later_steps outcomes) events (step_of (first_step outcomes) station live event).live none.1 ends.none
ended_run station outcomes (event ∷ events) live link none (inr (still, among)) =
    ended_run station (later_steps outcomes) events (step_of (first_step outcomes) station live event).live still.next none.1 among

unplugged_silent : (station : Station) (link : RelationState) (events : List Event) → AreUnplugged events → AreSilent station link events
unplugged_silent station link [] none = tt
unplugged_silent station link (event ∷ events) none = (by_event event none.0, unplugged_silent station link events none.1)
  where
    by_event : (one : Event) → is_received one ≡ false → IsSilent station link one
    by_event (Frame bytes) none = absurd cc
    by_event (Joined caller address octets) none = absurd cc
    by_event Tick none = refl
    by_event (Application local) none = refl
    by_event (Neighbour neighbour) none = refl

pub ends_unplugged : (station : Station) (live : Live) (outcomes : List (List Outcome)) (events : List Event)
    → AreTimed live.rest.link → IsUnaskedIn live.rest.link live.rest.asked → AreUnplugged events → limit_in live.rest.link ≤ units_in events
    → (run_of outcomes station live events).live.rest.link ≡ None
ends_unplugged station live outcomes events timed unasked none many = by_link live.rest.link refl
  where
    by_link : (now : Option RelationState) → live.rest.link ≡ now → (run_of outcomes station live events).live.rest.link ≡ None
    by_link None is = free_run station outcomes events live none is
    by_link (Some link) is =
        ended_run station outcomes events live link none (ends_in_time station live link outcomes events is (subst AreTimed is timed)
        (subst (λ l. IsUnaskedIn l live.rest.asked) is unasked)
        (unplugged_silent station link events none)
        (subst (λ l. limit_in l ≤ units_in events) is many))

-- ---- a unit at a device

none_some : {A : Type 0} {P : Type 0} (x : A) (now : Option A) → now ≡ None → now ≡ Some x → P
none_some x now none some = absurd (never (sym none ∙ some))
  where
    never : None ≡ Some x → ⊥
    never e = cc

never_none : (left all : ℕ) → 1 ≤ left → left + 1 ≡ all → all ≡ 1 → ⊥
never_none left all one sum last = omega arith

-- What a unit makes of a relation.
pub record UnitPasses (station : Station) (asked : AskedState) (link : RelationState) (now : Option RelationState) (sent : List (List ℕ)) : Type 0 where
  pub left : (now ≡ None) ⊎ IsStill link 1 now
  pub ends : remaining link ≡ 1 → now ≡ None
  pub says : now ≡ None → SaysEnd station asked link sent

of_unit : (station : Station) (asked : AskedState) (link : RelationState) (step : Stepped) → Moves station asked link Tick step
    → UnitPasses station asked link step.live.rest.link step.frames
of_unit station asked link step (inl over) = record {
  left = inl over.none;
  ends = λ _. over.none;
  says = λ _. record {
    reason = over.reason;
    cause = over.cause;
    others = over.others;
    late = over.alone refl;
    says = over.says;
  };
}
of_unit station asked link step (inr kept) = record {
  left = inr (record { next = kept.next; is = kept.is; request = kept.request; left = kept.left });
  ends = λ last. absurd (never_none _ _ (remains_one kept.next) kept.left last);
  says = λ none. none_some kept.next step.live.rest.link none kept.is;
}

pub unit_passes : {F : Type 0} {S : ℕ} (as_flash : Flash F S) (old new : State F) (link : RelationState) (sent : List (List ℕ)) (said : Note)
    → Steps as_flash old (heard_of old.station.identity Tick) sent said new → old.live.rest.link ≡ Some link → IsTimed link
    → UnitPasses old.station old.live.rest.asked link new.live.rest.link sent
unit_passes as_flash old new link sent said steps exists timed =
    subst (λ (l : Live). UnitPasses old.station old.live.rest.asked link l.rest.link sent) (sym steps.live)
    (subst (λ (l : List (List ℕ)). UnitPasses old.station old.live.rest.asked link (step_of steps.outcomes old.station old.live Tick).live.rest.link l)
    (sym steps.frames)
    (of_unit old.station old.live.rest.asked link (step_of steps.outcomes old.station old.live Tick)
    (unit_moves steps.outcomes old.station old.live link exists timed)))
