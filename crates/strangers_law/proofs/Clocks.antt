-- What an event does to the clocks of a relation.
use Rattle.std.proofs.Common.{◌≡◌, ◌⊎◌, ◌≤◌, ◌+◌, ◌*◌, ◌==◌, ◌++◌, ◌&&◌, inl, inr, ℕ, min, max, nat_le, Bool, true, false, not, length, List, [], ◌∷◌, Result, Ok, Err}
use Rattle.std.proofs.Common.{Option, Some, None, refl, sym, ap, subst, ◌∙◌, if◌then◌else◌, arith}
use Rattle.std.proofs.lemmas.Bool.Decides.{nat_tests}
use Rattle.pn_values.specs.declared.mac.Mac.{Mac}
use Rattle.pn_values.specs.declared.set_item.BlockError.{BlockError}
use Rattle.frame_codec.specs.declared.arp.Arp.{Arp}
use Rattle.dcp_core.specs.declared.request.Service.{Service}
use Rattle.dcp_core.specs.declared.request.Service.TheVariants as service
use Rattle.dcp_core.specs.Request.{Asked}
use Rattle.dcp_core.specs.Identify.{matches}
use Rattle.dcp_core.specs.Set.{plan_of}
use Rattle.connects.specs.requests.Request.{Request}
use Rattle.pn_alarms.specs.declared.abort.Abort.{Abort}
use Rattle.pn_alarms.specs.declared.abort.Abort.TheVariants.{Activity, DataHold, Other}
use Rattle.pn_alarms.specs.declared.repeats.Due.{Due as AlarmDue}
use Rattle.pn_alarms.specs.declared.repeats.Due.TheVariants.{Nothing, Again, Spent}
use Rattle.cyclic_data.specs.declared.exchange.route.Route.{Route}
use Rattle.cyclic_data.specs.Timing.{Hearing, held_on}
use Rattle.cyclic_data.specs.exchange.Cyclic.{Cyclic}
use Rattle.cyclic_data.specs.exchange.Units.{ending_by, is_silent, tick_by}
use Rattle.relations.specs.declared.phase.Phase.{Phase}
use Rattle.relations.specs.exchange.Flow.{Flow}
use Rattle.relations.specs.exchange.Units.{alarm_due, tick_of}
use Rattle.relations.specs.Farewells.{farewell_of}
use Rattle.relations.specs.Phases.{passing, passing_by, updated}
use Rattle.relations.specs.RelationState.{RelationState}
use Rattle.relations.specs.Timers.{due_by, ending_of, is_over, is_timed, limit_of, unit_later}
use Rattle.device_frames.specs.Heard.{Heard, Ticks, Unreadable, Elsewhere, Asks, Resolves}
use Rattle.device_frames.specs.Heard.{Met, Applied}
use Rattle.device_frames.specs.Relation.{due_frames}
use Rattle.device_frames.specs.Sent.{Sent, ArpReply, Ends, IdentifyAnswer, SetAnswer}
use Rattle.device_frames.specs.declared.note.Note.{Note}
use Rattle.device_frames.specs.declared.note.Note.TheVariants as note
use Rattle.settings_journal.specs.settings_store.Machine.{Outcome, carried}
use Rattle.device_core.specs.State.{Live, Station, alias_in, counter_of, units_after}
use Rattle.device_core.specs.Handled.{Handled, Refuses, Moves, handled}
use Rattle.device_core.specs.Handled.{handled_request, is_request, is_running}
use Rattle.device_core.specs.Machine.{farewells_at, finished, handled_step, heard_step, items_in, link_after, resets}
use Rattle.device_core.specs.Local.{IsLinkOf, IsPhaseOf, IsRelationOf}
use Rattle.std.proofs.lemmas.Bool.{cond_both}
use Rattle.arrayvec.specs.ArrayVec.{ArrayVec}
use Rattle.pn_values.specs.IpSuite.{is_zero}
use Rattle.relations.specs.declared.options.DeviceOptions.{DeviceOptions}
use Rattle.rpc_core.specs.Cache.{Kept}
use Rattle.records.specs.calls.Naming.{is_relation}
use Rattle.asked_records.specs.Answers.{Gives, is_refusal, judged}
use Rattle.asked_records.specs.Asked.{AskedState, is_of, is_over as is_late, question_in}
use Rattle.asked_records.specs.Questions.{header_of, operation_of}
use Rattle.asked_records.specs.declared.status.Unanswered.TheVariants.{Late}
use Rattle.asked_records.specs.declared.answering.AnswerFault.{AnswerFault}
use Rattle.asked_records.specs.declared.question.Question.{Question}
use Rattle.relations.specs.Phases.{Handled as Moving, Named, Unmoved}
use Rattle.relations.specs.RelationState.{uuid_of}
use Rattle.relations.specs.Timers.{due_of}
use Rattle.device_frames.specs.declared.local.Local.{Local}
use Rattle.device_frames.specs.Relation.{where_due}
use Rattle.device_core.specs.Asking.{answered_link, ended_by, is_full, is_kept, is_new, late_in, late_sent, left_asked, looked_if, question_replies, refused_reply, source_of}
use Rattle.device_core.specs.Handled.{counted_sent, handled_judged, handled_local, unit_rest, unit_sent}
use Rattle.octets_law.proofs.Asked.{judged_goes as judged_asked}
use Rattle.octets_law.proofs.Locals.{by_local}
use Rattle.strangers_law.specs.Silence.{IsDue, IsTimed, IsUnasked, hold_of, left_of, remaining, silence_limit}

-- ---- numbers

timed_count : (limit passed : ℕ) → nat_le limit (passed + 1) ≡ false → left_of limit (passed + 1) + 1 ≡ left_of limit passed
timed_count limit passed is = grind (arith, nat_tests)

hold_count : (limit passed : ℕ) → (min limit (passed + 1) == limit) ≡ false → left_of limit (min limit (passed + 1)) + 1 ≡ left_of limit passed
hold_count limit passed is = grind (arith, nat_tests)

timed_last : (limit passed : ℕ) → nat_le limit (passed + 1) ≡ true → left_of limit passed ≡ 1
timed_last limit passed is = grind (arith, nat_tests)

hold_last : (limit passed : ℕ) → (min limit (passed + 1) == limit) ≡ true → left_of limit passed ≡ 1
hold_last limit passed is = grind (arith, nat_tests)

left_one : (limit passed : ℕ) → 1 ≤ left_of limit passed
left_one limit passed = omega arith

left_most : (limit passed : ℕ) → left_of limit passed ≤ max 1 limit
left_most limit passed = omega arith

-- At least one unit remains, and at most the limit.
pub remains_one : (link : RelationState) → 1 ≤ remaining link
remains_one link = by_timed (is_timed link.phase)
  where
    by_timed : (b : Bool) → 1 ≤ (if b then left_of (limit_of link) link.inactive else left_of (hold_of link.request) link.flow.cyclic.hearing.held)
    by_timed true = left_one (limit_of link) link.inactive
    by_timed false = left_one (hold_of link.request) link.flow.cyclic.hearing.held

pub remains_most : (link : RelationState) → remaining link ≤ silence_limit link
remains_most link = by_timed (is_timed link.phase)
  where
    by_timed : (b : Bool) → (if b then left_of (limit_of link) link.inactive else left_of (hold_of link.request) link.flow.cyclic.hearing.held)
        ≤ max 1 (if b then limit_of link else hold_of link.request)
    by_timed true = left_most (limit_of link) link.inactive
    by_timed false = left_most (hold_of link.request) link.flow.cyclic.hearing.held

-- ---- clocks

-- What the exchange of a relation says of its clocks, and of the frames by which it is known.
pub record Times : Type 0 where
  pub route : Route
  pub begun : Bool
  pub hearing : Hearing
  pub endpoint : ℕ

abbrev pub times_of : Flow → Times
times_of flow = record { route = flow.cyclic.route; begun = flow.cyclic.begun; hearing = flow.cyclic.hearing; endpoint = flow.endpoint }

-- And what a relation says of them.
pub record Clock : Type 0 where
  pub request : Request
  pub timed : Bool
  pub inactive : ℕ
  pub times : Times

abbrev pub clock_of : RelationState → Clock
clock_of link = record { request = link.request; timed = is_timed link.phase; inactive = link.inactive; times = times_of link.flow }

abbrev pub remaining_by : Clock → ℕ
remaining_by clock = if clock.timed then left_of (clock.request.ar.timeout_factor * 3200) clock.inactive else left_of
    (hold_of clock.request) clock.times.hearing.held

pub record IsTimedBy (clock : Clock) : Type 0 where
  pub runs : clock.timed ≡ false → clock.times.begun ≡ true
  pub limit : clock.times.hearing.limit ≡ hold_of clock.request

pub clock_remaining : (link next : RelationState) → clock_of next ≡ clock_of link → remaining next ≡ remaining link
clock_remaining link next same = ap remaining_by same

pub clock_timed : (link next : RelationState) → clock_of next ≡ clock_of link → IsTimed link → IsTimed next
clock_timed link next same timed =
    let so : IsTimedBy (clock_of next) = subst IsTimedBy (sym same) (record { runs = timed.runs; limit = timed.limit })
    in record { runs = so.runs; limit = so.limit }

-- ---- an event that is no unit

-- The relation has ended, or its clocks are the same.
abbrev pub Lasts : RelationState → Option RelationState → Type 0
Lasts link None = Unit {0}
Lasts link (Some next) = clock_of next ≡ clock_of link

-- What is heard of the device itself, but for a unit and for its application: what its neighbour says. And a DCP request or an ARP packet of anybody.
abbrev pub IsBeside : Heard → Type 0
IsBeside (Asks source request) = Unit {0}
IsBeside (Met peer) = Unit {0}
IsBeside (Resolves asker packet) = Unit {0}
IsBeside Unreadable = Unit {0}
IsBeside Elsewhere = Unit {0}
IsBeside heard = ⊥

-- With an event that ends it, the ERR of the relation is sent first.
pub record IsSaid (link : RelationState) (sent : List Sent) : Type 0 where
  pub others : List Sent
  pub says : sent ≡ Ends (farewell_of Other link) ∷ others

-- A relation lasts with an event, or ends and says so.
pub record Goes (link : RelationState) (after : Option RelationState) (sent : List Sent) : Type 0 where
  pub lasts : Lasts link after
  pub says : after ≡ None → IsSaid link sent

no_none : {A : Type 0} {P : Type 0} (x : A) → Some x ≡ None → P
no_none x e = absurd (never e)
  where
    never : Some x ≡ None → ⊥
    never e = cc

module _ (station : Station) (before : Live) (link : RelationState) where
  abbrev related : Live
  related = record before { rest = record before.rest { link = Some link } }

  abbrev Done : Handled → Type 0
  Done what = (answers : List BlockError) → let end = finished station.identity related.rest what answers in Goes link end.rest.link end.sent

  stands : (next : RelationState) (sent : List Sent) → clock_of next ≡ clock_of link → Goes link (Some next) sent
  stands next sent same = record { lasts = same; says = λ none. no_none next none }

  refuses : (why : Note) → Done (Refuses why)
  refuses why = λ answers. stands link [] refl

  -- ---- a DCP request

  sets : (ends : Bool) (others : List Sent) → Goes link (link_after ends (Some link)) (farewells_at ends (Some link) ++ others)
  sets true others = record { lasts = tt; says = λ none. record { others = others; says = refl } }
  sets false others = stands link others refl

  requests : (asker : Mac) (which : Service) (request : Asked) → Done (handled_request station related asker which request)
  requests asker service.Identify request = by_match (matches station.identity related.values.running (alias_in related.rest.peer) request)
    where
      by_match : (b : Bool) → Done (if b then Moves related.rest (IdentifyAnswer asker related.values.running request.xid ∷ []) else Refuses note.Filter)
      by_match true = λ answers. stands link _ refl
      by_match false = refuses note.Filter
  requests asker service.Get request = λ answers. stands link _ refl
  requests asker service.Set request = λ answers. sets (resets (plan_of true request) answers) (SetAnswer asker request answers ∷ [])

  resolves : (asker : Mac) (packet : Arp) (b : Bool)
      → Done (if b then Moves related.rest (ArpReply asker related.values.running.suite.address packet.sender ∷ []) else Refuses note.NotMine)
  resolves asker packet true = λ answers. stands link _ refl
  resolves asker packet false = refuses note.NotMine

  -- ---- what the application says

  phase_timed : (before after : Phase) → IsPhaseOf before after → is_timed after ≡ is_timed before
  phase_timed before after (inl same) = ap is_timed same
  phase_timed before after (inr (was, is)) = ap is_timed is ∙ sym (ap is_timed was)

  pub same_clock : (next : RelationState) → IsLinkOf link next → clock_of next ≡ clock_of link
  same_clock next same =
      let timed : is_timed next.phase ≡ is_timed link.phase = phase_timed link.phase next.phase same.phase in
      rw (same.request, same.inactive, timed, same.flow.route, same.flow.begun, same.flow.hearing, same.flow.endpoint) refl

  local_goes : (after : Option RelationState) (sent : List Sent) → IsRelationOf (Some link) after → Goes link after sent
  local_goes None sent same = absurd same
  local_goes (Some next) sent same = stands next sent (same_clock next same)

  goes : (heard : Heard) → IsBeside heard → Done (handled station related heard)
  goes (Asks asker request) beside = requests asker request.service request
  goes (Met peer) beside = λ answers. stands link [] refl
  goes (Resolves asker packet) beside = resolves asker packet (is_request packet.operation && is_running related.values.running packet.target.address)
  goes Unreadable beside = refuses note.Fault
  goes Elsewhere beside = refuses note.NotMine
  goes heard beside = absurd beside

  -- An answer to a call that does not name the relation leaves it as it is.
  judged_goes : (given : Gives) (judged : Result Question AnswerFault)
      → ((question : Question) → judged ≡ Ok question → is_relation (Some link.request.ar.uuid) (header_of question.request).ar_uuid ≡ false)
      → Done (handled_judged station related given judged)
  judged_goes given (Ok question) unnamed = λ answers.
      let is : answered_link question given (Some link) ≡ Some link =
      ap (λ b. updated (if b && not (is_refusal given) then Named (source_of question) else Unmoved) (Some link)) (unnamed question refl) in
      subst (λ l. Goes link l (finished station.identity related.rest (handled_judged station related given (Ok question)) answers).sent) (sym is)
      (stands link _ refl)
  judged_goes given (Err why) unnamed = refuses note.Refused

  applies : IsUnasked link before.rest.asked → (said : Local (ArrayVec ℕ)) → Done (handled_local station related said)
  applies unasked said =
      by_local station related Done said (λ made what it answers. local_goes _ _ (it.link answers)) (λ number given.
      judged_goes given (judged number given before.rest.asked) (λ question is. unasked question
      (judged_asked number before.rest.asked.last given before.rest.asked.standing question is)))

step_of_applied : (outcomes : List Outcome) (station : Station) (live : Live) (link : RelationState) (said : Local (ArrayVec ℕ))
    → IsUnasked link live.rest.asked
    → let step = heard_step outcomes station (record live { rest = record live.rest { link = Some link } })
    (Applied said) in Goes link step.live.rest.link step.sent
unfolding heard_step handled_step
step_of_applied outcomes station live link said unasked =
    applies station live link unasked said (carried outcomes live.values (items_in (handled station
    (record live { rest = record live.rest { link = Some link } }) (Applied said)))).answers

step_of_link : (outcomes : List Outcome) (station : Station) (live : Live) (link : RelationState) (heard : Heard) → IsBeside heard
    → let step = heard_step outcomes station (record live { rest = record live.rest { link = Some link } }) heard in Goes link step.live.rest.link step.sent
unfolding heard_step handled_step
step_of_link outcomes station live link heard beside =
    goes station live link heard beside (carried outcomes live.values (items_in (handled station
    (record live { rest = record live.rest { link = Some link } }) heard))).answers

same_live : (live : Live) (link : RelationState) → live.rest.link ≡ Some link → record live { rest = record live.rest { link = Some link } } ≡ live
same_live live link is = sym (ap (λ (l : Option RelationState). record live { rest = record live.rest { link = l } }) is)

pub beside_goes : (outcomes : List Outcome) (station : Station) (live : Live) (link : RelationState) (heard : Heard) → live.rest.link ≡ Some link
    → IsBeside heard
    → Goes link (heard_step outcomes station live heard).live.rest.link (heard_step outcomes station live heard).sent
beside_goes outcomes station live link heard is beside =
    subst (λ (l : Live). let step = heard_step outcomes station l heard in Goes link step.live.rest.link step.sent) (same_live live link is)
    (step_of_link outcomes station live link heard beside)

-- What the application says, while it is asked no call that names the relation.
pub applied_goes : (outcomes : List Outcome) (station : Station) (live : Live) (link : RelationState) (said : Local (ArrayVec ℕ)) → live.rest.link ≡ Some link
    → IsUnasked link live.rest.asked
    → Goes link (heard_step outcomes station live (Applied said)).live.rest.link (heard_step outcomes station live (Applied said)).sent
applied_goes outcomes station live link said is unasked =
    subst (λ (l : Live). let step = heard_step outcomes station l (Applied said) in Goes link step.live.rest.link step.sent) (same_live live link is)
    (step_of_applied outcomes station live link said unasked)

-- ---- a unit

-- With a unit the relation ends, and of it the ERR alone is sent; or it is one unit nearer to its end.
pub record IsPassed (link next : RelationState) : Type 0 where
  pub request : next.request ≡ link.request
  pub route : next.flow.cyclic.route ≡ link.flow.cyclic.route
  pub endpoint : next.flow.endpoint ≡ link.flow.endpoint
  pub timed : IsTimed next
  pub left : remaining next + 1 ≡ remaining link

pub record IsOver (asked : AskedState) (link : RelationState) (after : Option RelationState) (sent : List Sent) : Type 0 where
  pub none : after ≡ None
  pub reason : Abort
  pub cause : IsDue link reason
  pub others : List Sent
  pub few : length others ≤ 1
  pub late : is_late asked ≡ false → others ≡ []
  pub says : sent ≡ Ends (farewell_of reason link) ∷ others

pub record IsOn (link : RelationState) (after : Option RelationState) : Type 0 where
  pub next : RelationState
  pub is : after ≡ Some next
  pub passed : IsPassed link next

-- The clock that runs has not run out if nothing ends the relation.
timed_ends : (link : RelationState) → (timed over : Bool) (other : Option Abort) → timed ≡ true
    → (if timed then (if over then Some Activity else None) else other) ≡ None → over ≡ false
timed_ends link true true other is none = absurd cc
timed_ends link true false other is none = refl
timed_ends link false over other is none = absurd cc

exchange_ends : (timed over : Bool) (other : Option Abort) → timed ≡ false → (if timed then (if over then Some Activity else None) else other) ≡ None
    → other ≡ None
exchange_ends true over other is none = absurd cc
exchange_ends false over other is none = none

tick_ends : (cyclic : Cyclic) (alarm : AlarmDue) (ending : Option Abort) → (tick_by cyclic alarm ending).ending ≡ None → ending ≡ None
tick_ends cyclic alarm (Some why) none = absurd cc
tick_ends cyclic alarm None none = refl

silent_ends : (silent : Bool) (other : Option Abort) → (if silent then Some DataHold else other) ≡ None → silent ≡ false
silent_ends true other none = absurd cc
silent_ends false other none = refl

second_of : (a b : Bool) → a ≡ true → a && b ≡ false → b ≡ false
second_of true b is none = none
second_of false b is none = absurd cc

-- A clock that ends it has run out.
over_ends : (over : Bool) (why : Abort) → (if over then Some Activity else None) ≡ Some why → over ≡ true
over_ends true why is = refl
over_ends false why is = absurd cc

tick_same : (cyclic : Cyclic) (alarm : AlarmDue) (ending : Option Abort) → (tick_by cyclic alarm ending).ending ≡ ending
tick_same cyclic alarm (Some why) = refl
tick_same cyclic alarm None = refl

alarm_ends : (alarm : AlarmDue) (why : Abort) → ending_by alarm ≡ Some why → why ≡ Other
alarm_ends Nothing why is = absurd cc
alarm_ends Again why is = absurd cc
alarm_ends Spent why is = same why is
  where
    same : (why : Abort) → Some Other ≡ Some why → why ≡ Other
    same why is = cc

second_is : (a b : Bool) → a && b ≡ true → b ≡ true
second_is true b is = is
second_is false b is = absurd cc

due_now : (link : RelationState) (why : Abort) → IsTimed link → ending_of link ≡ Some why → IsDue link why
due_now link why timed is = by_timed (is_timed link.phase) refl
  where
    by_silent : (silent : Bool) → is_silent link.flow.cyclic ≡ silent → is_timed link.phase ≡ false
        → (if silent then Some DataHold else ending_by (alarm_due link.flow)) ≡ Some why → IsDue link why
    by_silent true silent phase ends = inr (ap (λ (b : Bool). let n : ℕ = if b then left_of (limit_of link) link.inactive else left_of
        (hold_of link.request) link.flow.cyclic.hearing.held in n) phase
        ∙ subst (λ n. left_of n link.flow.cyclic.hearing.held ≡ 1) timed.limit
        (hold_last link.flow.cyclic.hearing.limit link.flow.cyclic.hearing.held (second_is link.flow.cyclic.begun _ silent)))
    by_silent false silent phase ends = inl (alarm_ends (alarm_due link.flow) why ends)

    by_timed : (b : Bool) → is_timed link.phase ≡ b → IsDue link why
    by_timed true phase =
        let over : is_over link ≡ true =
        over_ends (is_over link) why (subst (λ (b : Bool). (if b then (if is_over link then Some Activity else None) else (tick_of link.flow).ending)
        ≡ Some why) phase is) in
        inr (ap (λ (b : Bool). let n : ℕ = if b then left_of (limit_of link) link.inactive else left_of (hold_of link.request) link.flow.cyclic.hearing.held
        in n) phase
        ∙ timed_last (limit_of link) link.inactive over)
    by_timed false phase =
        let ends : (tick_of link.flow).ending ≡ Some why =
        subst (λ (b : Bool). (if b then (if is_over link then Some Activity else None) else (tick_of link.flow).ending) ≡ Some why) phase is in
        by_silent (is_silent link.flow.cyclic) refl phase (sym (tick_same link.flow.cyclic (alarm_due link.flow) _) ∙ ends)

module _ (link : RelationState) (timed : IsTimed link) (none : ending_of link ≡ None) where
  pub later_timed : IsTimed (unit_later link)
  later_timed = record {
    runs = timed.runs;
    limit = by_begun link.flow.cyclic.begun;
  }
    where
      by_begun : (b : Bool) → (let h : Hearing = if b then held_on link.flow.cyclic.hearing else link.flow.cyclic.hearing in h.limit) ≡ hold_of link.request
      by_begun true = timed.limit
      by_begun false = timed.limit

  -- The limit of the data hold time may be spelled as that of the request.
  left_timed : (b : Bool) → is_timed link.phase ≡ b → remaining (unit_later link) + 1 ≡ remaining link
  left_timed true is =
      let over : nat_le (limit_of link) (link.inactive + 1) ≡ false = timed_ends link (is_timed link.phase) (is_over link) _ is none in
      subst (λ (b : Bool). (if b then left_of (limit_of link) (if b then link.inactive + 1 else link.inactive) else left_of (hold_of link.request)
      (unit_later link).flow.cyclic.hearing.held) + 1
      ≡ (if b then left_of (limit_of link) link.inactive else left_of (hold_of link.request) link.flow.cyclic.hearing.held)) (sym is)
      (timed_count (limit_of link) link.inactive over)
  left_timed false is =
      let begun : link.flow.cyclic.begun ≡ true = timed.runs is in
      let silent : is_silent link.flow.cyclic ≡ false =
      silent_ends (is_silent link.flow.cyclic) _ (tick_ends link.flow.cyclic (alarm_due link.flow) _
      (exchange_ends (is_timed link.phase) (is_over link) _ is none)) in
      let held : (min link.flow.cyclic.hearing.limit (link.flow.cyclic.hearing.held + 1) == link.flow.cyclic.hearing.limit) ≡ false =
      second_of link.flow.cyclic.begun _ begun silent in
      let count : left_of (hold_of link.request) (min link.flow.cyclic.hearing.limit (link.flow.cyclic.hearing.held + 1)) + 1
      ≡ left_of (hold_of link.request) link.flow.cyclic.hearing.held =
      subst (λ n. left_of n (min link.flow.cyclic.hearing.limit (link.flow.cyclic.hearing.held + 1)) + 1 ≡ left_of n link.flow.cyclic.hearing.held) timed.limit
      (hold_count link.flow.cyclic.hearing.limit link.flow.cyclic.hearing.held held) in
      let later : (unit_later link).flow.cyclic.hearing.held ≡ min link.flow.cyclic.hearing.limit (link.flow.cyclic.hearing.held + 1) =
      ap (λ (b : Bool). let h : Hearing = if b then held_on link.flow.cyclic.hearing else link.flow.cyclic.hearing in h.held) begun in
      subst (λ (b : Bool). (if b then left_of (limit_of link) (if b then link.inactive + 1 else link.inactive) else left_of (hold_of link.request)
      (unit_later link).flow.cyclic.hearing.held) + 1
      ≡ (if b then left_of (limit_of link) link.inactive else left_of (hold_of link.request) link.flow.cyclic.hearing.held)) (sym is)
      (subst (λ n. left_of (hold_of link.request) n + 1 ≡ left_of (hold_of link.request) link.flow.cyclic.hearing.held) (sym later) count)

  passes : IsPassed link (unit_later link)
  passes = record { request = refl; route = refl; endpoint = refl; timed = later_timed; left = left_timed (is_timed link.phase) refl }

-- At most one call is refused with a unit, and none if none is over.
late_few : (options : DeviceOptions) (address : List ℕ) (late : Option Question) (calls : List Kept) → length (late_sent options address late calls) ≤ 1
late_few options address None calls = omega arith
late_few options address (Some question) calls = by_address (is_zero address)
  where
    by_due : (due : Bool) → length (where_due due (refused_reply address Late question ∷ [])) ≤ 1
    by_due true = omega arith
    by_due false = omega arith

    by_address : (none : Bool)
        → length (if none then [] else question_replies (is_kept options (operation_of question.request)) question (refused_reply address Late question) calls) ≤ 1
    by_address true = omega arith
    by_address false =
        by_due (is_new (looked_if (is_kept options (operation_of question.request)) question.header.activity question.header.sequence calls))

over_left : (uuid : Option (List ℕ)) (asked : AskedState) → is_late asked ≡ false → is_late (left_asked uuid asked) ≡ false
over_left None asked not_over = not_over
over_left (Some uuid) asked not_over = cond_both (is_of uuid asked) _ _ (λ (s : AskedState). is_late s ≡ false) (λ _. refl) (λ _. not_over)

late_none : (options : DeviceOptions) (address : List ℕ) (count : ℕ) (asked : AskedState) (calls : List Kept) → is_late asked ≡ false
    → late_sent options address (late_in count asked) calls ≡ []
late_none options address count asked calls not_over =
    ap (λ b. late_sent options address (if b && not (is_full count) then question_in asked else None) calls) not_over

tick_of_link : (outcomes : List Outcome) (station : Station) (live : Live) (link : RelationState) → IsTimed link
    → let step = heard_step outcomes station (record live { rest = record live.rest { link = Some link } }) Ticks in
    IsOver live.rest.asked link step.live.rest.link step.sent ⊎ IsOn link step.live.rest.link
unfolding heard_step handled_step
tick_of_link outcomes station live link timed = by_ending (ending_of link) refl
  where
    related : Live
    related = record live { rest = record live.rest { link = Some link } }

    address : List ℕ
    address = live.values.running.suite.address

    late : List Sent
    late = counted_sent station address (length (unit_sent related)) (unit_rest related)

    by_ending : (ending : Option Abort) → ending_of link ≡ ending
        → IsOver live.rest.asked link (updated (passing_by (ending_of link)) (Some link))
        (due_frames address (counter_of (units_after 1 live.rest.units)) (due_by link (ending_of link))
        (updated (passing_by (ending_of link)) (Some link)) ++ late)
        ⊎ IsOn link (updated (passing_by (ending_of link)) (Some link))
    by_ending (Some why) is = inl (record {
      none = ap (λ e. updated (passing_by e) (Some link)) is;
      reason = why;
      cause = due_now link why timed is;
      others = late;
      few = late_few station.options address (late_in (length (unit_sent related)) (unit_rest related).asked) live.rest.calls;
      late = λ not_over. late_none station.options address (length (unit_sent related)) (unit_rest related).asked live.rest.calls
          (over_left (ended_by (due_of (Some link)).farewell) live.rest.asked not_over);
      says = ap (λ e. due_frames address (counter_of (units_after 1 live.rest.units)) (due_by link e) (updated (passing_by e) (Some link)) ++ late) is;
    })
    by_ending None is = inr (record { next = unit_later link; is = ap (λ e. updated (passing_by e) (Some link)) is; passed = passes link timed is })

pub tick_goes : (outcomes : List Outcome) (station : Station) (live : Live) (link : RelationState) → live.rest.link ≡ Some link → IsTimed link
    → IsOver live.rest.asked link (heard_step outcomes station live Ticks).live.rest.link (heard_step outcomes station live Ticks).sent
    ⊎ IsOn link (heard_step outcomes station live Ticks).live.rest.link
tick_goes outcomes station live link is timed =
    subst
    (λ (l : Live). let step = heard_step outcomes station l Ticks in IsOver l.rest.asked link step.live.rest.link step.sent ⊎ IsOn link step.live.rest.link)
    (same_live live link is)
    (tick_of_link outcomes station live link timed)

-- ---- a device without a relation

module _ (station : Station) (before : Live) where
  abbrev free : Live
  free = record before { rest = record before.rest { link = None } }

  abbrev StaysFree : Handled → Type 0
  StaysFree what = (answers : List BlockError) → (finished station.identity free.rest what answers).rest.link ≡ None

  none_after : (ends : Bool) → link_after ends None ≡ None
  none_after true = refl
  none_after false = refl

  request_free : (asker : Mac) (which : Service) (request : Asked) → StaysFree (handled_request station free asker which request)
  request_free asker service.Identify request = by_match (matches station.identity free.values.running (alias_in free.rest.peer) request)
    where
      by_match : (b : Bool) → StaysFree (if b then Moves free.rest (IdentifyAnswer asker free.values.running request.xid ∷ []) else Refuses note.Filter)
      by_match true = λ answers. refl
      by_match false = λ answers. refl
  request_free asker service.Get request = λ answers. refl
  request_free asker service.Set request = λ answers. none_after (resets (plan_of false request) answers)

  resolves_free : (asker : Mac) (packet : Arp) (b : Bool)
      → StaysFree (if b then Moves free.rest (ArpReply asker free.values.running.suite.address packet.sender ∷ []) else Refuses note.NotMine)
  resolves_free asker packet true = λ answers. refl
  resolves_free asker packet false = λ answers. refl

  beside_free : (heard : Heard) → IsBeside heard → StaysFree (handled station free heard)
  beside_free (Asks asker request) beside = request_free asker request.service request
  beside_free (Resolves asker packet) beside = resolves_free asker packet (is_request packet.operation && is_running free.values.running packet.target.address)
  beside_free (Met peer) beside = λ answers. refl
  beside_free Unreadable beside = λ answers. refl
  beside_free Elsewhere beside = λ answers. refl
  beside_free heard beside = absurd beside

  judged_free : (given : Gives) (judged : Result Question AnswerFault) → StaysFree (handled_judged station free given judged)
  judged_free given (Ok question) = λ answers.
      cond_both (is_relation (uuid_of None) (header_of question.request).ar_uuid && not (is_refusal given)) (Named (source_of question)) Unmoved
      (λ (m : Moving). updated m None ≡ None) (λ _. refl) (λ _. refl)
  judged_free given (Err why) = λ answers. refl

  applies_free : (said : Local (ArrayVec ℕ)) → StaysFree (handled_local station free said)
  applies_free said =
      by_local station free StaysFree said (λ made what it answers. it.link answers) (λ number given. judged_free given (judged number given before.rest.asked))

free_live : (live : Live) → live.rest.link ≡ None → record live { rest = record live.rest { link = None } } ≡ live
free_live live is = sym (ap (λ (l : Option RelationState). record live { rest = record live.rest { link = l } }) is)

step_of_free : (outcomes : List Outcome) (station : Station) (live : Live) (heard : Heard) → IsBeside heard
    → (heard_step outcomes station (record live { rest = record live.rest { link = None } }) heard).live.rest.link ≡ None
unfolding heard_step handled_step
step_of_free outcomes station live heard beside =
    beside_free station live heard beside (carried outcomes live.values (items_in
    (handled station (record live { rest = record live.rest { link = None } }) heard))).answers

step_of_applied_free : (outcomes : List Outcome) (station : Station) (live : Live) (said : Local (ArrayVec ℕ))
    → (heard_step outcomes station (record live { rest = record live.rest { link = None } }) (Applied said)).live.rest.link ≡ None
unfolding heard_step handled_step
step_of_applied_free outcomes station live said =
    applies_free station live said (carried outcomes live.values (items_in
    (handled station (record live { rest = record live.rest { link = None } }) (Applied said)))).answers

pub free_applied : (outcomes : List Outcome) (station : Station) (live : Live) (said : Local (ArrayVec ℕ)) → live.rest.link ≡ None
    → (heard_step outcomes station live (Applied said)).live.rest.link ≡ None
free_applied outcomes station live said is =
    subst (λ (l : Live). (heard_step outcomes station l (Applied said)).live.rest.link ≡ None) (free_live live is)
    (step_of_applied_free outcomes station live said)

pub free_beside : (outcomes : List Outcome) (station : Station) (live : Live) (heard : Heard) → IsBeside heard → live.rest.link ≡ None
    → (heard_step outcomes station live heard).live.rest.link ≡ None
free_beside outcomes station live heard beside is =
    subst (λ (l : Live). (heard_step outcomes station l heard).live.rest.link ≡ None) (free_live live is) (step_of_free outcomes station live heard beside)

pub free_tick : (outcomes : List Outcome) (station : Station) (live : Live) → live.rest.link ≡ None
    → (heard_step outcomes station live Ticks).live.rest.link ≡ None
unfolding heard_step handled_step
free_tick outcomes station live is = ap (λ (l : Option RelationState). updated (passing l) l) is
