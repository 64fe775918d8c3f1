-- Relations over many units of time.
use Rattle.std.specs.Prelude.{◌≡◌, ◌+◌, ◌%◌, ◌==◌, ◌<◌, ◌⊎◌, ℕ, Bool, zero, suc, true, false, not, List, [], ◌∷◌, Option, Some, None}
use Rattle.pn_alarms.specs.declared.abort.Abort.{Abort}
use Rattle.pn_alarms.specs.declared.abort.Abort.TheVariants.{Activity, DataHold, Other}
use Rattle.pn_alarms.specs.Sending.{Sending}
use Rattle.relations.specs.exchange.Flow.{Flow}
use Rattle.relations.specs.declared.phase.Phase.TheVariants.{Started, Preparing, Awaiting, Exchanging}
use Rattle.relations.specs.declared.phase.Partner.{Partner}
use Rattle.relations.specs.RelationState.{RelationState, phase_of, is_awaiting, is_from}
use Rattle.relations.specs.Farewells.{farewell_of}
use Rattle.relations.specs.Timers.{due_of, is_again, is_timed, limit_of}
use Rattle.relations.specs.Phases.{Handled, Made, Parameterized, Prepared, Confirmed, Named, Took, Exchanged, Reported, Passed, Ended, Unmoved, updated, passing}

-- The relation one unit later, and several units later, without other events.
abbrev pub unit_over : Option RelationState → Option RelationState
unit_over link = updated (passing link) link

-- The relation after this number of units in which nothing else happens.
abbrev pub units_over : ℕ → Option RelationState → Option RelationState
units_over zero link = link
units_over (suc units) link = unit_over (units_over units link)

-- A relation whose activity timer starts now exists for one unit less than the timer has, in its current phase.
abbrev pub StandsUntil : Type 0
StandsUntil = (link : RelationState) (units : ℕ) → is_timed link.phase ≡ true → link.inactive ≡ 0 → units < limit_of link
    → phase_of (units_over units (Some link)) ≡ Some link.phase

-- The last unit of the activity timer ends it with ERR.
abbrev pub EndsAt : Type 0
EndsAt = (link : RelationState) (units : ℕ) → is_timed link.phase ≡ true → link.inactive ≡ 0 → units + 1 ≡ limit_of link
    → (units_over (suc units) (Some link) ≡ None) × ((due_of (units_over units (Some link))).farewell ≡ Some (farewell_of Activity link))

-- While a relation waits for the answer to ApplicationReady, the call is due again with each 32,000th unit, and with no
-- other unit, as long as the activity timer is not over.
abbrev pub IsDueEachSecond : Type 0
IsDueEachSecond = (link : RelationState) (units : ℕ) → is_awaiting link.phase ≡ true → link.inactive ≡ 0 → link.waited ≡ 0 → units + 1 < limit_of link
    → (due_of (units_over units (Some link))).is_ready ≡ ((units + 1) % 32000 == 0)

-- ---- any events while it waits

-- The events that leave a relation in its phase: a unit that ends nothing, a call that is answered or refused, a record
-- that is written, a frame.
abbrev pub leaves_waiting : Handled → Bool
leaves_waiting (Made request partner rows options starting) = false
leaves_waiting (Parameterized by_application) = false
leaves_waiting Prepared = false
leaves_waiting Confirmed = false
leaves_waiting (Named source) = true
leaves_waiting (Took records) = true
leaves_waiting (Exchanged flow) = true
leaves_waiting (Reported flow taken plugs) = true
leaves_waiting Passed = true
leaves_waiting Ended = false
leaves_waiting Unmoved = true

-- Each of the events leaves it in its phase.
abbrev pub AreWaiting : List Handled → Type 0
AreWaiting [] = Unit {0}
AreWaiting (handled ∷ more) = (leaves_waiting handled ≡ true) × AreWaiting more

-- The relation after the events in order, and how many of them are units.
abbrev pub all_updated : List Handled → Option RelationState → Option RelationState
all_updated [] link = link
all_updated (handled ∷ more) link = all_updated more (updated handled link)

-- 1 if a step is a unit of time, else 0.
abbrev pub units_in : Handled → ℕ
units_in Passed = 1
units_in handled = 0

-- The number of units in these steps.
abbrev pub units_of : List Handled → ℕ
units_of [] = 0
units_of (handled ∷ more) = units_in handled + units_of more

-- While a relation waits for the answer to ApplicationReady, the call is due again with each 32,000th unit since it was
-- sent, and with no other unit, for any calls and frames between.
abbrev pub IsDueWhateverComes : Type 0
IsDueWhateverComes = (link now : RelationState) (events : List Handled) → is_awaiting link.phase ≡ true → link.waited ≡ 0 → AreWaiting events
    → all_updated events (Some link) ≡ Some now → is_again now ≡ ((units_of events + 1) % 32000 == 0)

-- ---- who holds a relation

-- The events that are no call of this station and that leave the activity timer running: a call of another station that is
-- answered, PrmEnd included, a record that is written, a frame, a unit.
abbrev pub leaves_timer : Partner → Handled → Bool
leaves_timer own (Made request partner rows options starting) = false
leaves_timer own (Parameterized by_application) = true
leaves_timer own Prepared = true
leaves_timer own Confirmed = false
leaves_timer own (Named source) = not (is_from source own)
leaves_timer own (Took records) = true
leaves_timer own (Exchanged flow) = true
leaves_timer own (Reported flow taken plugs) = true
leaves_timer own Passed = true
leaves_timer own Ended = false
leaves_timer own Unmoved = true

-- None of these steps is a sign of life of this controller.
abbrev pub AreOfOthers : Partner → List Handled → Type 0
AreOfOthers own [] = Unit {0}
AreOfOthers own (handled ∷ more) = (leaves_timer own handled ≡ true) × AreOfOthers own more

-- With the option that a relation is held by its own controller alone, the activity timer has run for each unit of time,
-- whatever other stations call.
abbrev pub IsHeldByItsOwn : Type 0
IsHeldByItsOwn = (link now : RelationState) (events : List Handled) → link.options.only_own_controller ≡ true → is_timed link.phase ≡ true
    → AreOfOthers link.partner events → all_updated events (Some link) ≡ Some now → now.inactive ≡ link.inactive + units_of events

-- ---- while data is exchanged

-- A relation exists for this many units, in its current phase, and the next unit ends it with the ERR for this reason.
abbrev pub EndsBehind : ℕ → Abort → RelationState → Type 0
EndsBehind units reason link =
    (phase_of (units_over units (Some link)) ≡ Some link.phase)
    × ((units_over (suc units) (Some link) ≡ None) × ((due_of (units_over units (Some link))).farewell ≡ Some (farewell_of reason link)))

-- An alarm that waits for its ACK, if there is one, is not given up within this many units.
abbrev pub IsPatientFor : ℕ → Sending → Type 0
IsPatientFor units sending = (waited : ℕ) → sending.waiting ≡ Some waited → waited + units < sending.limit

-- No alarm of either priority is given up within this many units.
abbrev pub ArePatientFor : ℕ → Flow → Type 0
ArePatientFor units flow = IsPatientFor units flow.alarms.sender.sending × IsPatientFor units flow.low.alarms.sender.sending

-- An alarm waits for its ACK, and is given up with the unit after this many units.
abbrev pub GivesUpBehind : ℕ → Sending → Type 0
GivesUpBehind units sending = (waited : ℕ) × ((sending.waiting ≡ Some waited) × (waited + (units + 1) ≡ sending.limit))

-- If data is exchanged and nothing is received, a relation ends with the last unit of its data hold time, unless an
-- alarm is given up before. It also does if an alarm would be given up with that same unit.
abbrev pub IsHeldFor : Type 0
IsHeldFor = (link : RelationState) (units : ℕ) → link.phase ≡ Exchanging → link.flow.cyclic.begun ≡ true → link.flow.cyclic.hearing.held + (units + 1) ≡ link.flow.cyclic.hearing.limit
    → ArePatientFor units link.flow → EndsBehind units DataHold link

-- It ends with the unit with which a waiting alarm of either priority is given up, if none is given up before, and unless the
-- data hold time is over by then.
abbrev pub IsGivenUp : Type 0
IsGivenUp = (link : RelationState) (units : ℕ) → link.phase ≡ Exchanging → link.flow.cyclic.begun ≡ true → link.flow.cyclic.hearing.held + (units + 1) < link.flow.cyclic.hearing.limit
    → ArePatientFor units link.flow → GivesUpBehind units link.flow.alarms.sender.sending ⊎ GivesUpBehind units link.flow.low.alarms.sender.sending
    → EndsBehind units Other link

-- ---- from phase to phase

-- Only an accepted PrmEnd moves a relation from Started on: to Awaiting, or to Preparing if the application says when it is
-- ready.
abbrev pub IsByPrmEnd : Type 0
IsByPrmEnd = (handled : Handled) (link : Option RelationState) → phase_of link ≡ Some Started
    → (phase_of (updated handled link) ≡ Some Awaiting → handled ≡ Parameterized false)
    × (phase_of (updated handled link) ≡ Some Preparing → handled ≡ Parameterized true)

-- Only the application moves a relation from Preparing to Awaiting. An accepted PrmEnd would too, but it is refused there.
abbrev pub IsByApplication : Type 0
IsByApplication = (handled : Handled) (link : Option RelationState) → phase_of link ≡ Some Preparing → phase_of (updated handled link) ≡ Some Awaiting
    → (handled ≡ Prepared) ⊎ (handled ≡ Parameterized false)

-- Only the answer that confirms ApplicationReady moves a relation from Awaiting to Exchanging.
abbrev pub IsByReady : Type 0
IsByReady = (handled : Handled) (link : Option RelationState) → phase_of link ≡ Some Awaiting → phase_of (updated handled link) ≡ Some Exchanging → handled ≡ Confirmed
