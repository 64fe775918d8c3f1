-- Units of time, one by one.
use Rattle.std.proofs.Common.{◌≡◌, ◌+◌, ◌*◌, ◌%◌, ◌<◌, ◌≤◌, ◌==◌, ℕ, zero, suc, true, false, nat_le, refl, ap, ◌∙◌, arith, add-one, Option, Some, None, if◌then◌else◌}
use Rattle.std.proofs.lemmas.Bool.Decides.{nat_tests}
use Rattle.connects.specs.requests.Request.{Request}
use Rattle.relations.specs.declared.phase.Phase.{Phase}
use Rattle.relations.specs.declared.phase.Phase.TheVariants.{Started, Preparing, Awaiting, Exchanging}
use Rattle.pn_alarms.specs.declared.abort.Abort.{Abort}
use Rattle.pn_alarms.specs.declared.abort.Abort.TheVariants.{Activity}
use Rattle.pn_alarms.specs.Numbers.{send_number, ack_number}
use Rattle.relations.specs.declared.farewell.Farewell.{Farewell}
use Rattle.relations.specs.RelationState.{RelationState, phase_of, is_awaiting}
use Rattle.relations.specs.Farewells.{farewell_of}
use Rattle.relations.specs.Timers.{is_timed, ending_of, is_again, limit_of, waited_later, inactive_later, unit_later, due_by, due_of}
use Rattle.relations.specs.Phases.{updated, passing_by}
use Rattle.relations.specs.Runs.{unit_over, units_over, StandsUntil, EndsAt, IsDueEachSecond}

-- A relation that heard nothing for this many units: it is the same except for its timers.
pub record IsLater (link : RelationState) (units : ℕ) (later : RelationState) : Type 0 where
  pub phase : later.phase ≡ link.phase
  pub request : later.request ≡ link.request
  pub inactive : later.inactive ≡ units
  pub waited : is_awaiting link.phase ≡ true → link.waited ≡ 0 → later.waited ≡ units % 32000
  pub last : later.flow.alarms.sender.sending.last ≡ link.flow.alarms.sender.sending.last
  pub seen : later.flow.alarms.seen ≡ link.flow.alarms.seen
  pub endpoint : later.flow.endpoint ≡ link.flow.endpoint

pub record Stands (link : RelationState) (units : ℕ) : Type 0 where
  pub later : RelationState
  pub is : units_over units (Some link) ≡ Some later
  pub same : IsLater link units later

-- ---- one unit

timed_where : (phase : Phase) → is_awaiting phase ≡ true → is_timed phase ≡ true
timed_where Started h = refl
timed_where Preparing h = refl
timed_where Awaiting h = refl
timed_where Exchanging h = cc

le_true : (a b : ℕ) → a ≤ b → nat_le a b ≡ true
le_true a b h = grind (arith, nat_tests)

le_false : (a b : ℕ) → b < a → nat_le a b ≡ false
le_false a b h = grind (arith, nat_tests)

ends_where : (link : RelationState) → is_timed link.phase ≡ true → limit_of link ≤ link.inactive + 1 → ending_of link ≡ Some Activity
ends_where link timed h = rw timed (rw (le_true (limit_of link) (link.inactive + 1) h) refl)

stays_where : (link : RelationState) → is_timed link.phase ≡ true → link.inactive + 1 < limit_of link → ending_of link ≡ None
stays_where link timed h = rw timed (rw (le_false (limit_of link) (link.inactive + 1) h) refl)

pub updated_on : (ending : Option Abort) (link : RelationState) → ending ≡ None → updated (passing_by ending) (Some link) ≡ Some (unit_later link)
updated_on (Some reason) link h = cc
updated_on None link h = refl

pub updated_off : (ending : Option Abort) (reason : Abort) (link : RelationState) → ending ≡ Some reason → updated (passing_by ending) (Some link) ≡ None
updated_off (Some other) reason link h = refl
updated_off None reason link h = cc

due_on : (ending : Option Abort) (link : RelationState) → ending ≡ None → (due_by link ending).is_ready ≡ is_again link
due_on ending link h = ap (λ (e : Option Abort). (due_by link e).is_ready) h

pub due_off : (ending : Option Abort) (reason : Abort) (link : RelationState) → ending ≡ Some reason → (due_by link ending).farewell ≡ Some (farewell_of reason link)
due_off ending reason link h = ap (λ (e : Option Abort). (due_by link e).farewell) h

-- The ERR depends on the request, on the last data that was sent and the last that was accepted, and on the endpoint of the device.
abbrev farewell_at : Abort → Request → Option ℕ → Option ℕ → ℕ → Farewell
farewell_at reason request last seen endpoint = record {
  uuid = request.ar.uuid;
  initiator = request.ar.initiator;
  tag = request.alarm.tag_low;
  reference = request.alarm.reference;
  endpoint = endpoint;
  send_number = send_number last;
  ack_number = ack_number seen;
  reason = reason;
}

pub same_farewell : (reason : Abort) (link later : RelationState) → later.request ≡ link.request
    → later.flow.alarms.sender.sending.last ≡ link.flow.alarms.sender.sending.last → later.flow.alarms.seen ≡ link.flow.alarms.seen
    → later.flow.endpoint ≡ link.flow.endpoint → farewell_of reason later ≡ farewell_of reason link
same_farewell reason link later request last seen endpoint =
    ap (λ (r : Request). farewell_at reason r later.flow.alarms.sender.sending.last later.flow.alarms.seen later.flow.endpoint) request
    ∙ (ap (λ (n : Option ℕ). farewell_at reason link.request n later.flow.alarms.seen later.flow.endpoint) last
    ∙ (ap (λ (n : Option ℕ). farewell_at reason link.request link.flow.alarms.sender.sending.last n later.flow.endpoint) seen
    ∙ ap (λ (n : ℕ). farewell_at reason link.request link.flow.alarms.sender.sending.last link.flow.alarms.seen n) endpoint))

-- ApplicationReady has waited for this many units.
wraps : (waited units : ℕ) → waited ≡ units % 32000 → (if (waited + 1 == 32000) then 0 else waited + 1) ≡ (units + 1) % 32000
wraps waited units h = grind (arith, nat_tests)

pub again_with : (waited units : ℕ) → waited ≡ units % 32000 → (waited + 1 == 32000) ≡ ((units + 1) % 32000 == 0)
again_with waited units h = grind (arith, nat_tests)

pub waited_next : (link : RelationState) (units : ℕ) → is_awaiting link.phase ≡ true → link.waited ≡ units % 32000 → waited_later link ≡ (units + 1) % 32000
waited_next link units waits h = rw waits (wraps link.waited units h)

inactive_next : (link : RelationState) → is_timed link.phase ≡ true → inactive_later link ≡ link.inactive + 1
inactive_next link timed = rw timed

-- ---- many

limit_same : (link later : RelationState) → later.request ≡ link.request → limit_of later ≡ limit_of link
limit_same link later h = ap (λ (r : Request). r.ar.timeout_factor * 3200) h

later_next : (link : RelationState) (units : ℕ) (later : RelationState) → is_timed link.phase ≡ true → IsLater link units later → IsLater link (suc units) (unit_later later)
later_next link units later timed same = record {
  phase = same.phase;
  request = same.request;
  inactive = inactive_next later (ap is_timed same.phase ∙ timed) ∙ (ap (λ (n : ℕ). n + 1) same.inactive ∙ add-one units);
  waited = λ waits fresh. waited_next later units (ap is_awaiting same.phase ∙ waits) (same.waited waits fresh) ∙ ap (λ (n : ℕ). n % 32000) (add-one units);
  last = same.last;
  seen = same.seen;
  endpoint = same.endpoint;
}

pub stands : (link : RelationState) (units : ℕ) → is_timed link.phase ≡ true → link.inactive ≡ 0 → units < limit_of link → Stands link units
stands link zero timed fresh below =
    record { later = link; is = refl; same = record { phase = refl; request = refl; inactive = fresh; waited = λ _ w. w; last = refl; seen = refl; endpoint = refl } }
stands link (suc units) timed fresh below =
    let before = stands link units timed fresh (omega arith) in
    let limit = limit_same link before.later before.same.request in
    let on : before.later.inactive + 1 < limit_of before.later = omega (arith, limit, before.same.inactive, below) in
    let timed' : is_timed before.later.phase ≡ true = ap is_timed before.same.phase ∙ timed in
    record {
      later = unit_later before.later;
      is = ap unit_over before.is ∙ updated_on (ending_of before.later) before.later (stays_where before.later timed' on);
      same = later_next link units before.later timed before.same;
    }

pub stands_until : StandsUntil
stands_until link units timed fresh below =
    let so = stands link units timed fresh below in ap phase_of so.is ∙ ap (λ (p : Phase). Some p) so.same.phase

pub ends_at : EndsAt
ends_at link units timed fresh last =
    let so = stands link units timed fresh (omega arith) in
    let limit = limit_same link so.later so.same.request in
    let end : limit_of so.later ≤ so.later.inactive + 1 = omega (arith, limit, so.same.inactive, last) in
    let over = ends_where so.later (ap is_timed so.same.phase ∙ timed) end in (
      ap unit_over so.is ∙ updated_off (ending_of so.later) Activity so.later over,
      ap (λ (l : Option RelationState). (due_of l).farewell) so.is
          ∙ (due_off (ending_of so.later) Activity so.later over ∙ ap (λ (f : Farewell). Some f) (same_farewell Activity link so.later so.same.request so.same.last so.same.seen so.same.endpoint)),
    )

pub is_due_each_second : IsDueEachSecond
is_due_each_second link units waits fresh new below =
    let so = stands link units (timed_where link.phase waits) fresh (omega arith) in
    let limit = limit_same link so.later so.same.request in
    let on : so.later.inactive + 1 < limit_of so.later = omega (arith, limit, so.same.inactive, below) in
    let still : is_awaiting so.later.phase ≡ true = ap is_awaiting so.same.phase ∙ waits in
    ap (λ (l : Option RelationState). (due_of l).is_ready) so.is
    ∙ (due_on (ending_of so.later) so.later (stays_where so.later (timed_where so.later.phase still) on)
    ∙ rw still (again_with so.later.waited units (so.same.waited waits new)))
