-- Units of time while only the timers of an exchange run.
use Rattle.std.proofs.Common.{◌≡◌, ◌≢◌, ◌+◌, ◌-◌, ◌%◌, ◌<◌, ◌≤◌, ◌==◌, ◌++◌, ℕ, zero, suc, true, false, List, [], length, map, refl, sym, ap, ◌∙◌, arith, Option, Some, None, is_some, option_map, if◌then◌else◌}
use Rattle.std.specs.Prelude.{min}
use Rattle.std.proofs.lemmas.Bool.{false≢true, ne_eqb}
use Rattle.std.proofs.lemmas.List.{append-nil}
use Rattle.pn_alarms.specs.Leaps.{after, never}
use Rattle.pn_values.specs.declared.identity.Identity.{Identity}
use Rattle.asked_records.specs.Asked.{AskedState, NeverOver, Standing, due_in, due_with, is_over, later_with, over_with, question_in, ticked as asked_ticked}
use Rattle.asked_records.specs.declared.question.Question.{Question}
use Rattle.relations.specs.declared.steady.Steady.{Steady}
use Rattle.relations.specs.declared.farewell.Farewell.{Farewell}
use Rattle.relations.specs.Leaps.{NothingDueFor, due_within}
use Rattle.relations.specs.RelationState.{RelationState, flow_of}
use Rattle.relations.specs.Runs.{units_over}
use Rattle.relations.specs.Steady.{IsSteady, inputs_alone, steady_in, unknown}
use Rattle.relations.specs.Timers.{Due, due_of}
use Rattle.device_frames.specs.declared.event.Event.TheVariants.{Tick}
use Rattle.device_frames.specs.Relation.{due_frames, inputs_of}
use Rattle.device_frames.specs.Sent.{Sent, bytes_of}
use Rattle.device_core.specs.Asking.{ended_by, late_in, late_sent, left_asked}
use Rattle.device_core.specs.Handled.{unit_rest, unit_sent}
use Rattle.device_core.specs.Leaps.{Leapt, OnlyTheLastSends, lamp_off_in, live_due_in, ticks_of}
use Rattle.device_core.specs.Machine.{step_of}
use Rattle.device_core.specs.State.{Live, Station, counter_of, units_after}
use Rattle.device_core.specs.Steady.{IsSteadyAt, steady_at, steady_beside}
use Rattle.device_core.proofs.Leaping.{and_tick, counter_next, later_next, leap_last, live_later, none_late, none_sends, sent_with, tick_frames, ticks_later, with_lamp_and_units}

-- ---- nothing is asked

abbrev with_standing : AskedState → Option Standing → AskedState
with_standing asked standing = record asked { standing = standing }

unasked_rests : (asked : AskedState) (units : ℕ) → asked.standing ≡ None → after asked_ticked units asked ≡ asked
unasked_rests asked zero none = refl
unasked_rests asked (suc units) none = ap asked_ticked (unasked_rests asked units none) ∙ ap (with_standing asked) (ap later_with none ∙ sym none)

pub never_over : (asked : AskedState) (units : ℕ) → asked.standing ≡ None → NeverOver units asked
never_over asked units none before earlier = ap is_over (unasked_rests asked before none) ∙ ap over_with none

-- ---- what is due

inputs_few : (steady : Steady) (link : Option RelationState) → IsSteady steady link → steady.inputs ≤ never
inputs_few steady None is = let inputs : steady.inputs ≡ never = ap (λ (s : Steady). s.inputs) is.runs in omega (arith, inputs)
inputs_few steady (Some link) is = let few = is.runs.few in omega (arith, few)

pub steady_due : (steady : Steady) (live : Live) → IsSteadyAt steady live → due_within live.rest.link ≡ steady.inputs → live_due_in live ≡ steady.inputs
steady_due steady live is due =
    let few = inputs_few steady live.rest.link is.relation in
    let dark : lamp_off_in live.rest.lamp ≡ never = ap lamp_off_in is.dark in
    let unasked : due_in live.rest.asked ≡ never = ap due_with is.unasked in
    omega (arith, few, dark, unasked, due)

-- ---- units with which nothing is due

-- Only the relation and CycleCounter move.
pub steady_later : (live : Live) (units : ℕ) → live.rest.lamp ≡ 0 → live.rest.asked.standing ≡ None
    → live_later units live ≡ with_lamp_and_units live live.rest.lamp (units_over units live.rest.link) (units_after units live.rest.units) live.rest.asked
steady_later live units dark unasked =
    let lamp : live.rest.lamp - units ≡ live.rest.lamp = omega (arith, dark) in
    let link = units_over units live.rest.link in
    let counted = units_after units live.rest.units in
    ap (λ (n : ℕ). with_lamp_and_units live n link counted (after asked_ticked units live.rest.asked)) lamp
    ∙ ap (with_lamp_and_units live live.rest.lamp link counted) (unasked_rests live.rest.asked units unasked)

-- ---- the unit that brings inputs

-- What a unit sends with which the relation does not end, and nothing asked is refused.
sends_only : (station : Station) (live : Live) → (due_of live.rest.link).farewell ≡ None → is_over live.rest.asked ≡ false
    → (step_of [] station live Tick).frames ≡ map (bytes_of station.identity) (unit_sent live)
sends_only station live none going =
    let address = live.values.running.suite.address in
    let calls = live.rest.calls in
    let sent = unit_sent live in
    let f : List Sent → List (List ℕ) = λ late. map (bytes_of station.identity) (sent ++ late) in
    tick_frames station live
    ∙ (ap (λ (l : Option Farewell). f (late_sent station.options address (late_in (length sent) (left_asked (ended_by l) live.rest.asked)) calls)) none
    ∙ (ap (λ (q : Option Question). f (late_sent station.options address q calls)) (none_late (length sent) live.rest.asked going)
    ∙ ap (map (bytes_of station.identity)) (append-nil sent)))

inputs_sent : (live : Live) (units : ℕ) → due_of (units_over units live.rest.link) ≡ inputs_alone
    → unit_sent (live_later units live) ≡ inputs_of (counter_of (units_after (suc units) live.rest.units)) (flow_of (units_over (suc units) live.rest.link))
inputs_sent live units due =
    let link = units_over (suc units) live.rest.link in
    ap (λ (d : Due). due_frames live.values.running.suite.address (counter_of (units_after 1 (units_after units live.rest.units))) d link) due
    ∙ ap (λ (n : ℕ). inputs_of (counter_of n) (flow_of link)) (counter_next live.rest.units units)

sends_next : (station : Station) (live : Live) (units : ℕ) → live.rest.units < 18446744073709551616 → NothingDueFor units live.rest.link → live.rest.asked.standing ≡ None
    → due_of (units_over units live.rest.link) ≡ inputs_alone
    → ticks_of (suc units) station live ≡ sent_with (live_later (suc units) live)
    (map (bytes_of station.identity) (inputs_of (counter_of (units_after (suc units) live.rest.units)) (flow_of (units_over (suc units) live.rest.link))))
sends_next station live units fits none unasked due =
    let later = live_later units live in
    let going = never_over live.rest.asked (suc units) unasked units (omega arith) in
    let stays = ap (λ (d : Due). d.farewell) due in
    ap (and_tick station) (ticks_later station live units fits none (never_over live.rest.asked units unasked))
    ∙ (ap (λ (l : Live). sent_with l (step_of [] station later Tick).frames) (later_next station live units stays going)
    ∙ (ap (sent_with (live_later (suc units) live)) (sends_only station later stays going)
    ∙ ap (λ (sent : List Sent). sent_with (live_later (suc units) live) (map (bytes_of station.identity) sent)) (inputs_sent live units due)))

pub sends : (station : Station) (live : Live) (units : ℕ) → 0 < units → live.rest.units < 18446744073709551616 → NothingDueFor (units - 1) live.rest.link → live.rest.asked.standing ≡ None
    → due_of (units_over (units - 1) live.rest.link) ≡ inputs_alone
    → ticks_of units station live ≡ sent_with (live_later units live)
    (map (bytes_of station.identity) (inputs_of (counter_of (units_after units live.rest.units)) (flow_of (units_over units live.rest.link))))
sends station live zero some fits none unasked due = absurd (omega (arith, some))
sends station live (suc units) some fits none unasked due =
    let one : suc units - 1 ≡ units = omega arith in
    sends_next station live units fits (rw one at none) unasked (rw one at due)

pub only_the_last : (station : Station) (live : Live) (units : ℕ) → 0 < units → live.rest.units < 18446744073709551616 → NothingDueFor (units - 1) live.rest.link
    → live.rest.asked.standing ≡ None → OnlyTheLastSends units station live
only_the_last station live units some fits none unasked =
    leap_last station live units (units - 1) (omega (arith, some)) (none_sends station live (units - 1) fits none (never_over live.rest.asked (units - 1) unasked))

-- A relation sends one frame.
pub one_frame : (identity : Identity) (counter : ℕ) (link : Option RelationState) → is_some link ≡ true → length (map (bytes_of identity) (inputs_of counter (flow_of link))) ≡ 1
one_frame identity counter None stands = absurd (false≢true stands)
one_frame identity counter (Some link) stands = refl

-- ---- what is known

pub lit : (steady : Steady) (live : Live) → live.rest.lamp ≢ 0 → steady ≡ unknown → steady ≡ steady_at live
lit steady live on is = is ∙ sym (rw (ne_eqb live.rest.lamp 0 on) refl)

steady_dark : (live : Live) → live.rest.lamp ≡ 0 → steady_at live ≡ steady_beside live.rest.asked.standing live.rest.link
steady_dark live dark = ap (λ (n : ℕ). if n == 0 then steady_beside live.rest.asked.standing live.rest.link else unknown) dark

beside_one : (standing : Option Standing) (link : Option RelationState) (question : Question) → option_map (λ (s : Standing). s.question) standing ≡ Some question → steady_beside standing link ≡ unknown
beside_one None link question is = cc is
beside_one (Some standing) link question is = refl

pub asked_waits : (steady : Steady) (live : Live) (question : Question) → live.rest.lamp ≡ 0 → question_in live.rest.asked ≡ Some question → steady ≡ unknown → steady ≡ steady_at live
asked_waits steady live question dark asked is =
    is ∙ sym (steady_dark live dark ∙ beside_one live.rest.asked.standing live.rest.link question asked)

none_standing : (standing : Option Standing) → option_map (λ (s : Standing). s.question) standing ≡ None → standing ≡ None
none_standing None is = refl
none_standing (Some standing) is = cc is

pub none_asked : (asked : AskedState) → question_in asked ≡ None → asked.standing ≡ None
none_asked asked is = none_standing asked.standing is

pub rests : (steady : Steady) (lamp : ℕ) (standing : Option Standing) (link : Option RelationState) → lamp ≡ 0 → standing ≡ None → steady ≡ steady_in link
    → steady ≡ (if lamp == 0 then steady_beside standing link else unknown)
rests steady lamp standing link dark unasked is =
    is ∙ sym (ap (λ (n : ℕ). if n == 0 then steady_beside standing link else unknown) dark ∙ ap (λ (s : Option Standing). steady_beside s link) unasked)

pub not_known : (steady : Steady) → steady ≡ unknown → 0 < steady.inputs → ⊥
not_known steady is some = let none : steady.inputs ≡ 0 = ap (λ (s : Steady). s.inputs) is in omega (arith, none, some)
