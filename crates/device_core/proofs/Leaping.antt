-- Several units of time at once, and as many Tick events.
use Rattle.std.proofs.Common.{◌≡◌, ◌+◌, ◌-◌, ◌%◌, ◌<◌, ◌≤◌, ◌++◌, ◌&&◌, ℕ, zero, suc, Bool, false, cond, not, List, [], ◌∷◌, length, map, sum, refl, sym, ap, ◌∙◌, arith, append_assoc, Option, None}
use Rattle.std.specs.Prelude.{min}
use Rattle.std.proofs.lemmas.Bool.{ne_eqb}
use Rattle.std.proofs.lemmas.List.{append-nil}
use Rattle.std.proofs.lemmas.List.Sums.{sum_by-cons}
use Rattle.std.proofs.Math.Nat.{mod-add-mod, mod-eq_of_lt}
use Rattle.pn_alarms.specs.Leaps.{after}
use Rattle.rpc_core.specs.Cache.{Kept}
use Rattle.asked_records.specs.Asked.{AskedState, NeverOver, is_over, question_in, ticked as asked_ticked}
use Rattle.asked_records.specs.declared.question.Question.{Question}
use Rattle.device_records.specs.declared.log_data.entry.LogEntry.{LogEntry}
use Rattle.relations.specs.declared.farewell.Farewell.{Farewell}
use Rattle.relations.specs.Leaps.{NothingDueFor}
use Rattle.relations.specs.Phases.{passing, updated}
use Rattle.relations.specs.RelationState.{RelationState}
use Rattle.relations.specs.Runs.{units_over}
use Rattle.relations.specs.Timers.{Due, due_of, nothing}
use Rattle.device_frames.specs.declared.event.Event.TheVariants.{Tick}
use Rattle.device_frames.specs.Heard.{heard_of}
use Rattle.device_frames.specs.Relation.{due_frames}
use Rattle.device_frames.specs.Sent.{Sent, bytes_of}
use Rattle.device_core.specs.Behind.{behind, frames_of}
use Rattle.device_core.specs.Asking.{asked_later, ended_by, is_full, late_calls, late_in, late_sent, left_asked}
use Rattle.device_core.specs.Handled.{ticked, unit_rest, unit_sent}
use Rattle.device_core.specs.Log.{err_log}
use Rattle.device_core.specs.Leaps.{lamp_off_in, LeapsAreTicks, NoneSends, OnlyTheLastSends, Leapt, and_then, then_leap, ticks_of}
use Rattle.device_core.specs.Machine.{end_of, handled_step, heard_step, step_of}
use Rattle.device_core.specs.State.{Live, Rest, State, Station, counter_of, units_after}

pub below_right : (number one other : ℕ) → number < min one other → number < other
below_right number one other below = omega (arith, below)

pub below_left : (number one other : ℕ) → number < min one other → number < one
below_left number one other below = omega (arith, below)

-- The smaller of two numbers that come nearer by at most these units.
pub both_nearer : (one other later last units : ℕ) → one ≤ later + units → other ≤ last + units → min one other ≤ min later last + units
both_nearer one other later last units first second = omega (arith, first, second)

shows_still : (lamp : ℕ) → 0 < lamp → lamp_off_in lamp ≡ lamp
shows_still lamp some = rw (ne_eqb lamp 0 (λ off. omega (arith, off, some))) refl

-- The lamp and the relation after some units with which nothing is due.
pub due_nearer : (lamp old new units : ℕ) → units < min (lamp_off_in lamp) old → old ≤ new + units
    → min (lamp_off_in lamp) old ≤ min (lamp_off_in (lamp - units)) new + units
due_nearer zero old new units below nearer =
    let off : zero - units ≡ zero = omega arith in
    rw off (omega (arith, nearer))
due_nearer (suc lamp) old new units below nearer =
    let on = shows_still (suc lamp) (omega arith) in
    let inside : units < suc lamp = omega (arith, below, on) in
    let shows : suc lamp - units ≡ suc (lamp - units) = omega (arith, inside) in
    let still = shows_still (suc (lamp - units)) (omega arith) in
    rw shows (omega (arith, below, nearer, on, still))

-- ---- one Tick event

tick_live : (station : Station) (live : Live) → (step_of [] station live Tick).live ≡ record { values = live.values; rest = (end_of station live (ticked station live)).rest }
unfolding heard_of heard_step handled_step
tick_live station live = refl

pub tick_frames : (station : Station) (live : Live) → (step_of [] station live Tick).frames ≡ map (bytes_of station.identity) (end_of station live (ticked station live)).sent
unfolding heard_of heard_step handled_step
tick_frames station live = refl

-- With a unit with which nothing is due of the relation, it sends nothing, and does not drop what is asked.
unit_nothing : (live : Live) → due_of live.rest.link ≡ nothing → unit_sent live ≡ []
unit_nothing live none =
    ap (λ (d : Due). due_frames live.values.running.suite.address (counter_of (units_after 1 live.rest.units)) d (updated (passing live.rest.link) live.rest.link)) none

asked_still : (live : Live) → due_of live.rest.link ≡ nothing → (unit_rest live).asked ≡ live.rest.asked
asked_still live none = ap (λ (d : Due). left_asked (ended_by d.farewell) live.rest.asked) none

-- A call that has time left is not refused, and waits a unit more.
pub none_late : (count : ℕ) (asked : AskedState) → is_over asked ≡ false → late_in count asked ≡ None
none_late count asked going = ap (λ (b : Bool). cond (b && not (is_full count)) (question_in asked) None) going

pub waits_on : (count : ℕ) (asked : AskedState) → is_over asked ≡ false → asked_later count asked ≡ asked_ticked asked
waits_on count asked going = ap (λ (b : Bool). cond (b && is_full count) asked (asked_ticked asked)) going

-- If nothing is due, no frame is sent.
none_sent : (station : Station) (live : Live) → due_of live.rest.link ≡ nothing → is_over live.rest.asked ≡ false → (step_of [] station live Tick).frames ≡ []
none_sent station live none going =
    let address = live.values.running.suite.address in
    let calls = live.rest.calls in
    let f = map (bytes_of station.identity) in
    tick_frames station live
    ∙ (ap (λ (s : List Sent). f (s ++ late_sent station.options address (late_in (length s) (unit_rest live).asked) calls)) (unit_nothing live none)
    ∙ (ap (λ (a : AskedState). f (late_sent station.options address (late_in 0 a) calls)) (asked_still live none)
    ∙ ap (λ (q : Option Question). f (late_sent station.options address q calls)) (none_late 0 live.rest.asked going)))

-- ---- units with which nothing is due

abbrev pub with_counts : Rest → ℕ → Option RelationState → ℕ → AskedState → Rest
with_counts rest lamp link units asked = record rest { lamp = lamp; link = link; units = units; asked = asked }

abbrev pub rest_later : ℕ → Rest → Rest
rest_later units rest = with_counts rest (rest.lamp - units) (units_over units rest.link) ((rest.units + units) % 18446744073709551616) (after asked_ticked units rest.asked)

abbrev pub live_later : ℕ → Live → Live
live_later units live = record { values = live.values; rest = rest_later units live.rest }

abbrev pub with_lamp_and_units : Live → ℕ → Option RelationState → ℕ → AskedState → Live
with_lamp_and_units live lamp link units asked = record { values = live.values; rest = with_counts live.rest lamp link units asked }

pub counter_next : (counter units : ℕ) → ((counter + units) % 18446744073709551616 + 1) % 18446744073709551616 ≡ (counter + suc units) % 18446744073709551616
counter_next counter units =
    let one : counter + units + 1 ≡ counter + suc units = omega arith in
    mod-add-mod (counter + units) 18446744073709551616 1 ∙ ap (λ (n : ℕ). n % 18446744073709551616) one

-- The rest after a unit with which the relation does not end.
tick_next : (station : Station) (live : Live) → (due_of live.rest.link).farewell ≡ None → is_over live.rest.asked ≡ false
    → (step_of [] station live Tick).live
    ≡ with_lamp_and_units live (live.rest.lamp - 1) (updated (passing live.rest.link) live.rest.link) (units_after 1 live.rest.units) (asked_ticked live.rest.asked)
tick_next station live none going =
    let address = live.values.running.suite.address in
    let link = updated (passing live.rest.link) live.rest.link in
    let one = units_after 1 live.rest.units in
    let made : List LogEntry → AskedState → List Kept → Live = λ log asked calls. record { values = live.values; rest = record (with_counts live.rest (live.rest.lamp - 1) link one asked) { log = log; calls = calls } } in
    let kept = late_calls station.options station.identity address in
    tick_live station live
    ∙ (ap (λ (f : Option Farewell). made (err_log f one live.rest.log) (asked_later (length (unit_sent live)) (left_asked (ended_by f) live.rest.asked))
    (kept (late_in (length (unit_sent live)) (left_asked (ended_by f) live.rest.asked)) live.rest.calls)) none
    ∙ (ap (λ (a : AskedState). made live.rest.log a (kept (late_in (length (unit_sent live)) live.rest.asked) live.rest.calls)) (waits_on (length (unit_sent live)) live.rest.asked going)
    ∙ ap (λ (q : Option Question). made live.rest.log (asked_ticked live.rest.asked) (kept q live.rest.calls)) (none_late (length (unit_sent live)) live.rest.asked going)))

pub later_next : (station : Station) (live : Live) (units : ℕ) → (due_of (units_over units live.rest.link)).farewell ≡ None → is_over (after asked_ticked units live.rest.asked) ≡ false
    → (step_of [] station (live_later units live) Tick).live ≡ live_later (suc units) live
later_next station live units none going =
    let lamp : live.rest.lamp - units - 1 ≡ live.rest.lamp - suc units = omega arith in
    let link = units_over (suc units) live.rest.link in
    let asked = after asked_ticked (suc units) live.rest.asked in
    tick_next station (live_later units live) none going
    ∙ (ap (λ (n : ℕ). with_lamp_and_units live n link (((live.rest.units + units) % 18446744073709551616 + 1) % 18446744073709551616) asked) lamp
    ∙ ap (λ (n : ℕ). with_lamp_and_units live (live.rest.lamp - suc units) link n asked) (counter_next live.rest.units units))

later_none : (live : Live) → live.rest.units < 18446744073709551616 → live ≡ live_later 0 live
later_none live fits =
    let lamp : live.rest.lamp ≡ live.rest.lamp - 0 = omega arith in
    let same : live.rest.units + 0 ≡ live.rest.units = omega arith in
    let counter : live.rest.units ≡ (live.rest.units + 0) % 18446744073709551616 = sym (ap (λ (n : ℕ). n % 18446744073709551616) same ∙ mod-eq_of_lt fits) in
    ap (λ (n : ℕ). with_lamp_and_units live n live.rest.link live.rest.units live.rest.asked) lamp
    ∙ ap (λ (n : ℕ). with_lamp_and_units live (live.rest.lamp - 0) live.rest.link n live.rest.asked) counter

abbrev pub sent_with : Live → List (List ℕ) → Leapt
sent_with live frames = record { live = live; frames = frames }

abbrev pub and_tick : Station → Leapt → Leapt
and_tick station before = and_then before (step_of [] station before.live Tick)

pub ticks_later : (station : Station) (live : Live) (units : ℕ) → live.rest.units < 18446744073709551616 → NothingDueFor units live.rest.link → NeverOver units live.rest.asked → ticks_of units station live ≡ sent_with (live_later units live) []
ticks_later station live zero fits none going = ap (λ (l : Live). sent_with l []) (later_none live fits)
ticks_later station live (suc units) fits none going =
    let later = live_later units live in
    ap (and_tick station) (ticks_later station live units fits (λ before earlier. none before (omega (arith, earlier))) (λ before earlier. going before (omega (arith, earlier))))
    ∙ (ap (λ (l : Live). sent_with l (step_of [] station later Tick).frames) (later_next station live units (ap (λ (d : Due). d.farewell) (none units (omega arith))) (going units (omega arith)))
    ∙ ap (sent_with (live_later (suc units) live)) (none_sent station later (none units (omega arith)) (going units (omega arith))))

pub ticks_live : (station : Station) (live : Live) (units : ℕ) → live.rest.units < 18446744073709551616 → NothingDueFor units live.rest.link → NeverOver units live.rest.asked → (ticks_of units station live).live ≡ live_later units live
ticks_live station live units fits none going = ap (λ (s : Leapt). s.live) (ticks_later station live units fits none going)

pub none_sends : (station : Station) (live : Live) (units : ℕ) → live.rest.units < 18446744073709551616 → NothingDueFor units live.rest.link → NeverOver units live.rest.asked → NoneSends units station live
none_sends station live units fits none going before earlier =
    ap (λ (s : Leapt). s.frames) (ticks_later station live before fits (λ first sooner. none first (omega (arith, earlier, sooner))) (λ first sooner. going first (omega (arith, earlier, sooner))))

-- ---- a leap: units with which nothing is due, and then one Tick event

abbrev with_live : {F : Type 0} → State F → Live → State F
with_live device live = record device { live = live }

pub leap_device : {F : Type 0} (old mid new : State F) (units before : ℕ) → units ≡ suc before → mid ≡ with_live old (ticks_of before old.station old.live).live
    → new ≡ behind mid (ticked mid.station mid.live) → new ≡ with_live old (ticks_of units old.station old.live).live
leap_device {F} old mid new units before count is ticks =
    let live = (ticks_of before old.station old.live).live in
    ticks ∙ (ap (λ (m : State F). behind m (ticked m.station m.live)) is
    ∙ (ap (with_live old) (sym (tick_live old.station live)) ∙ ap (λ (n : ℕ). with_live old (ticks_of n old.station old.live).live) (sym count)))

pub leap_frames : {F : Type 0} (old mid : State F) (frames : List (List ℕ)) (units before : ℕ) → units ≡ suc before → mid ≡ with_live old (ticks_of before old.station old.live).live
    → NoneSends before old.station old.live → frames ≡ frames_of mid (ticked mid.station mid.live) → frames ≡ (ticks_of units old.station old.live).frames
leap_frames {F} old mid frames units before count is none ticks =
    let sent = ticks_of before old.station old.live in
    let last : frames ≡ (step_of [] old.station sent.live Tick).frames = ticks ∙ (ap (λ (m : State F). frames_of m (ticked m.station m.live)) is ∙ sym (tick_frames old.station sent.live)) in
    last ∙ (ap (λ (f : List (List ℕ)). f ++ (step_of [] old.station sent.live Tick).frames) (sym (none before (omega arith)))
    ∙ ap (λ (n : ℕ). (ticks_of n old.station old.live).frames) (sym count))

pub leap_last : (station : Station) (live : Live) (units before : ℕ) → units ≡ suc before → NoneSends before station live → OnlyTheLastSends units station live
leap_last station live units before count none first earlier = none first (omega (arith, count, earlier))

-- The same with one unit fewer before.
pub leap_device_to : {F : Type 0} (old mid new : State F) (units : ℕ) → 0 < units → mid ≡ with_live old (ticks_of (units - 1) old.station old.live).live
    → new ≡ behind mid (ticked mid.station mid.live) → new ≡ with_live old (ticks_of units old.station old.live).live
leap_device_to old mid new units some is ticks = leap_device old mid new units (units - 1) (omega (arith, some)) is ticks

pub leap_frames_to : {F : Type 0} (old mid : State F) (frames : List (List ℕ)) (units : ℕ) → 0 < units → mid ≡ with_live old (ticks_of (units - 1) old.station old.live).live
    → NoneSends (units - 1) old.station old.live → frames ≡ frames_of mid (ticked mid.station mid.live) → frames ≡ (ticks_of units old.station old.live).frames
leap_frames_to old mid frames units some is none ticks = leap_frames old mid frames units (units - 1) (omega (arith, some)) is none ticks

pub leap_last_to : (station : Station) (live : Live) (units : ℕ) → 0 < units → NoneSends (units - 1) station live → OnlyTheLastSends units station live
leap_last_to station live units some none = leap_last station live units (units - 1) (omega (arith, some)) none

-- ---- leaps one after another

ticks_more : (station : Station) (live : Live) (units more : ℕ) → ticks_of (units + more) station live ≡ then_leap (ticks_of units station live) (ticks_of more station (ticks_of units station live).live)
ticks_more station live units zero =
    let sent = ticks_of units station live in
    let none : units + 0 ≡ units = omega arith in
    ap (λ (n : ℕ). ticks_of n station live) none ∙ ap (sent_with sent.live) (sym (append-nil sent.frames))
ticks_more station live units (suc more) =
    let sent = ticks_of units station live in
    let next = ticks_of more station sent.live in
    let one : units + suc more ≡ suc (units + more) = omega arith in
    ap (λ (n : ℕ). ticks_of n station live) one
    ∙ (ap (and_tick station) (ticks_more station live units more)
    ∙ ap (sent_with (step_of [] station next.live Tick).live) (append_assoc sent.frames next.frames (step_of [] station next.live Tick).frames))

pub leaps_are_ticks : LeapsAreTicks
leaps_are_ticks station live [] = refl
leaps_are_ticks station live (units ∷ leaps) =
    ap (then_leap (ticks_of units station live)) (leaps_are_ticks station (ticks_of units station live).live leaps)
    ∙ (sym (ticks_more station live units (sum leaps)) ∙ ap (λ (n : ℕ). ticks_of n station live) (sym (sum_by-cons (λ (x : ℕ). x) units leaps)))
