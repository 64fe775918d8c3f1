-- Several units of time at once, and as many Tick events.
use Rattle.std.proofs.Common.{◌≡◌, ◌+◌, ◌-◌, ◌%◌, ◌<◌, ◌==◌, ◌&&◌, ◌||◌, ◌++◌, not, ℕ, zero, suc, Bool, true, false, List, [], ◌∷◌, map, sum, refl, sym, ap, ◌∙◌, arith, append_assoc, Option, Some, None, if◌then◌else◌}
use Rattle.std.specs.Prelude.{min, is_some}
use Rattle.std.proofs.lemmas.Bool.{eqb-true, ne_eqb}
use Rattle.std.proofs.lemmas.Bool.Decides.{nat_tests}
use Rattle.std.proofs.lemmas.List.{append-nil}
use Rattle.std.proofs.lemmas.List.Sums.{sum_by-cons}
use Rattle.std.proofs.Math.Nat.{mod-add-mod, mod-eq_of_lt}
use Rattle.pn_values.specs.declared.mac.Mac.{Mac}
use Rattle.cyclic_data.specs.Timing.{is_due}
use Rattle.pn_alarms.specs.declared.repeats.Due.{Due}
use Rattle.pn_alarms.specs.declared.repeats.Due.TheVariants.{Nothing}
use Rattle.pn_alarms.specs.declared.abort.Abort.TheVariants.{DataHold}
use Rattle.pn_alarms.specs.Controller.{controller_later}
use Rattle.pn_alarms.specs.Ends.{ControllerEnd}
use Rattle.pn_alarms.specs.Leaps.{NothingDue, ack_due, after, data_due_in, never}
use Rattle.pn_alarms.specs.Sending.{due, either_due}
use Rattle.cyclic_data.specs.exchange.Cyclic.{Cyclic}
use Rattle.cyclic_data.specs.exchange.Leaps.{IsQuietFor, cyclic_due_in}
use Rattle.cyclic_data.specs.exchange.Units.{Brought, cyclic_later, ending_by, is_silent, tick_by, tick_of}
use Rattle.controller_messages.specs.declared.plug_request.PlugRequest.{PlugRequest}
use Rattle.controller_messages.specs.declared.record_request.RecordRequest.{RecordRequest}
use Rattle.controller_messages.specs.declared.request.Request.{Request}
use Rattle.controller_messages.specs.declared.setup.Setup.{Setup}
use Rattle.controller_messages.specs.Access.{is_free}
use Rattle.controller_messages.specs.Sent.{Sent, bytes_of}
use Rattle.plan_places.specs.Places.{next_waiting}
use Rattle.controller_core.specs.declared.stored.state.Cause.TheVariants.{NoProgress}
use Rattle.controller_core.specs.declared.stored.event.Event.TheVariants.{Tick}
use Rattle.controller_core.specs.Leaps.{LeapsAreTicks, NoneEnds, NoneSends, OnlyTheLastEnds, OnlyTheLastSends, access_due_in, and_then, exchange_due_in, patience_due_in, request_due_in, ticks_of}
use Rattle.controller_core.specs.Machine.{Stepped, Turn, accesses_by, begun_by, can_begin, exchange_later, flowed, gone_on, is_again, is_exchanging, is_spent, later, pending_by, pending_of, plugs_by, quit, requests_of, step_of, stepped, ticked, turn_due, where_due}
use Rattle.controller_core.specs.stored.State.{Controlling, Live, is_limited, with_live}

pub below_left : (number one other : ℕ) → number < min one other → number < one
below_left number one other below = omega (arith, below)

pub below_right : (number one other : ℕ) → number < min one other → number < other
below_right number one other below = omega (arith, below)

-- The Bool says whether the relation is established.
due_by : (b : Bool) (due number : ℕ) → b ≡ true → number < (if b then due else never) → number < due
due_by true due number stands below = below
due_by false due number stands below = absurd cc

pub exchange_below : (live : Live) (number : ℕ) → live.stands ≡ true → number < exchange_due_in live
    → number < min (access_due_in live) (min (min (cyclic_due_in live.cyclic) (data_due_in live.alarms.sending)) (data_due_in live.low_alarms.sending))
exchange_below live number stands below =
    due_by live.stands (min (access_due_in live) (min (min (cyclic_due_in live.cyclic) (data_due_in live.alarms.sending)) (data_due_in live.low_alarms.sending))) number stands below

-- ---- one Tick event

tick_is : (controlling : Controlling) → step_of controlling Tick ≡ stepped controlling (ticked controlling.setup controlling.live)
unfolding step_of
tick_is controlling = refl

-- ---- what the relation brings

abbrev only_cyclic : Bool → Brought
only_cyclic is_cyclic = record { ending = None; is_alarm = false; is_cyclic = is_cyclic }

tick_nothing : (cyclic : Cyclic) (alarm : Due) → is_silent cyclic ≡ false → is_due cyclic.sending ≡ false → alarm ≡ Nothing → tick_of cyclic alarm ≡ only_cyclic false
tick_nothing cyclic alarm heard frame none =
    ap (tick_of cyclic) none
    ∙ (ap (λ (b : Bool). tick_by cyclic Nothing (if b then Some DataHold else ending_by Nothing)) heard ∙ ap only_cyclic frame)

-- What one unit brings, with what is due of the alarms of each priority.
abbrev BringsNothing : Cyclic → Due → Due → Type 0
BringsNothing cyclic high low = (tick_of cyclic (either_due high low) ≡ only_cyclic false) × (high ≡ Nothing) × (low ≡ Nothing)

-- Each of the next units brings nothing of a relation that is established.
unfoldable pub BringNothing : ℕ → Cyclic → ControllerEnd → ControllerEnd → Type 0
BringNothing units cyclic high low =
    (before : ℕ) → before < units
    → BringsNothing (after cyclic_later before cyclic) (due (after controller_later before high).sending) (due (after controller_later before low).sending)

both_nothing : (high low : Due) → high ≡ Nothing → low ≡ Nothing → either_due high low ≡ Nothing
both_nothing high low one other = rw (one, other) refl

pub brings_nothing : (cyclic : Cyclic) (high low : ControllerEnd) (units : ℕ) → IsQuietFor units cyclic → NothingDue ack_due controller_later units high
    → NothingDue ack_due controller_later units low → BringNothing units cyclic high low
unfolding BringNothing
brings_nothing cyclic high low units quiet none none_low before earlier =
    let heard = quiet before earlier in
    let one = due (after controller_later before high).sending in
    let other = due (after controller_later before low).sending in (
      tick_nothing (after cyclic_later before cyclic) (either_due one other) heard.0 heard.1 (both_nothing one other (none before earlier) (none_low before earlier)),
      none before earlier,
      none_low before earlier,
    )

-- ---- the request

idle : (is_due : Bool) → where_due is_due [] ≡ []
idle true = refl
idle false = refl

not_again : (waited units : ℕ) → suc units < 32000 - waited → ((waited + units) % 32000 + 1 == 32000) ≡ false
not_again waited units before =
    let small : waited + units < 32000 = omega (arith, before) in
    let same : (waited + units) % 32000 ≡ waited + units = mod-eq_of_lt small in
    ne_eqb ((waited + units) % 32000 + 1) 32000 (λ e. omega (arith, e, same, before))

no_request : (device : Mac) (asked : Option Request) (waited units : ℕ) → suc units < (if is_some asked then 32000 - waited else never)
    → where_due ((waited + units) % 32000 + 1 == 32000) (requests_of device asked) ≡ []
no_request device None waited units before = idle ((waited + units) % 32000 + 1 == 32000)
no_request device (Some request) waited units before = ap (λ (b : Bool). where_due b (requests_of device (Some request))) (not_again waited units before)

-- The request beside the exchange: that after a plug, or else that of the application.
abbrev beside_by : Mac → List ℕ → Option PlugRequest → Option RecordRequest → List Sent
beside_by device octets plug waiting = if is_some plug then plugs_by device plug else accesses_by device octets waiting

abbrev is_free_by : Option PlugRequest → Option RecordRequest → Bool
is_free_by plug waiting = not (is_some waiting) && not (is_some plug)

no_beside : (device : Mac) (octets : List ℕ) (plug : Option PlugRequest) (waiting : Option RecordRequest) (begins : Bool) (waited units : ℕ)
    → suc units < (if not (is_free_by plug waiting) || begins then 32000 - waited else never)
    → where_due ((waited + units) % 32000 + 1 == 32000) (beside_by device octets plug waiting) ≡ []
no_beside device octets None None begins waited units before = idle ((waited + units) % 32000 + 1 == 32000)
no_beside device octets None (Some request) begins waited units before =
    ap (λ (b : Bool). where_due b (accesses_by device octets (Some request))) (not_again waited units before)
no_beside device octets (Some request) None begins waited units before =
    ap (λ (b : Bool). where_due b (plugs_by device (Some request))) (not_again waited units before)
no_beside device octets (Some request) (Some other) begins waited units before =
    ap (λ (b : Bool). where_due b (plugs_by device (Some request))) (not_again waited units before)

-- ---- the turn of a place

turn_by : (setup : Setup) (is_due : Bool) (live : Live) → can_begin live ≡ false → turn_due setup is_due live ≡ live
turn_by setup true live none = ap (λ (b : Bool). let l : Live = if b then begun_by setup (next_waiting live.places) live else live in l) none
turn_by setup false live none = refl

no_turn_by : (setup : Setup) (live : Live) (is_busy begins : Bool) (waited units : ℕ) → can_begin live ≡ begins
    → suc units < (if is_busy || begins then 32000 - waited else never) → turn_due setup ((waited + units) % 32000 + 1 == 32000) live ≡ live
no_turn_by setup live is_busy false waited units none before = turn_by setup ((waited + units) % 32000 + 1 == 32000) live none
no_turn_by setup live true true waited units some before = ap (λ (b : Bool). turn_due setup b live) (not_again waited units before)
no_turn_by setup live false true waited units some before = ap (λ (b : Bool). turn_due setup b live) (not_again waited units before)

no_relation : (live : Live) → live.stands ≡ false → can_begin live ≡ false
no_relation live stands = ap (λ (b : Bool). b && (is_exchanging live.phase && (is_free live.access && is_some (next_waiting live.places)))) stands

no_pending : (live : Live) (asked : Option Request) (units : ℕ) → suc units < (if is_some asked then 32000 - live.waited else never) → suc units < access_due_in live
    → where_due ((live.waited + units) % 32000 + 1 == 32000) (pending_by live asked) ≡ []
no_pending live None units before sooner = no_beside live.device live.access.octets live.access.plug live.access.waiting (can_begin live) live.waited units sooner
no_pending live (Some request) units before sooner = no_request live.device (Some request) live.waited units before

wraps : (waited units : ℕ) → waited ≡ units % 32000 → (if (waited + 1 == 32000) then 0 else waited + 1) ≡ (units + 1) % 32000
wraps waited units h = grind (arith, nat_tests)

waited_next : (waited units : ℕ) → (if ((waited + units) % 32000 + 1 == 32000) then 0 else (waited + units) % 32000 + 1) ≡ (waited + suc units) % 32000
waited_next waited units =
    let one : waited + units + 1 ≡ waited + suc units = omega arith in
    wraps ((waited + units) % 32000) (waited + units) refl ∙ ap (λ (n : ℕ). n % 32000) one

counter_next : (counter units : ℕ) → ((counter + units) % 65536 + 1) % 65536 ≡ (counter + suc units) % 65536
counter_next counter units =
    let one : counter + units + 1 ≡ counter + suc units = omega arith in
    mod-add-mod (counter + units) 65536 1 ∙ ap (λ (n : ℕ). n % 65536) one

none_later : (number limit : ℕ) → number < limit → number ≡ (number + 0) % limit
none_later number limit below =
    let same : number + 0 ≡ number = omega arith in
    sym (ap (λ (n : ℕ). n % limit) same ∙ mod-eq_of_lt below)

-- ---- the patience

left_next : (left units : ℕ) → left - units - 1 ≡ left - suc units
left_next left units = omega arith

none_left : (left : ℕ) → left ≡ left - 0
none_left left = omega arith

lasts_by : (left units : ℕ) (is_none : Bool) → (left == 0) ≡ is_none → suc units < (if is_none then never else left) → (left - units == 1) ≡ false
lasts_by left units true e before =
    let none : left ≡ 0 = eqb-true left 0 e in
    ne_eqb (left - units) 1 (λ one. omega (arith, none, one))
lasts_by left units false e before = ne_eqb (left - units) 1 (λ one. omega (arith, before, one))

both_false : (limited : Bool) → (limited && false) ≡ false
both_false true = refl
both_false false = refl

lasts : (live : Live) (units : ℕ) → suc units < patience_due_in live → (is_limited live.phase && live.left - units == 1) ≡ false
lasts live units before = ap (λ (b : Bool). is_limited live.phase && b) (lasts_by live.left units (live.left == 0) refl before) ∙ both_false (is_limited live.phase)

-- A unit with which the patience does not end.
goes_on : (setup : Setup) (live : Live) → is_spent live ≡ false → turn_due setup (is_again live) (later live) ≡ later live
    → ticked setup live ≡ gone_on (later live) (is_again live)
goes_on setup live unspent none =
    ap (λ (b : Bool). if b then quit setup NoProgress (later live) live.phase else gone_on (turn_due setup (is_again live) (later live)) (is_again live)) unspent
    ∙ ap (λ (l : Live). gone_on l (is_again live)) none

-- ---- units with which nothing is due, if the relation is not established

abbrev with_counts : Live → ℕ → ℕ → ℕ → Live
with_counts live waited left units = record live { waited = waited; left = left; units = units }

abbrev pub off_later : ℕ → Live → Live
off_later units live = with_counts live ((live.waited + units) % 32000) (live.left - units) ((live.units + units) % 65536)

abbrev turn_with : Live → List Sent → Turn
turn_with live sent = record { live = live; sent = sent }

gone_off : (live : Live) (is_request : Bool) → live.stands ≡ false → gone_on live is_request ≡ turn_with live (where_due is_request (requests_of live.device live.asked))
gone_off live is_request stands = rw stands refl

off_next : (live : Live) (units : ℕ) → later (off_later units live) ≡ off_later (suc units) live
off_next live units =
    ap (λ (w : ℕ). with_counts live w (live.left - units - 1) (((live.units + units) % 65536 + 1) % 65536)) (waited_next live.waited units)
    ∙ (ap (λ (l : ℕ). with_counts live ((live.waited + suc units) % 32000) l (((live.units + units) % 65536 + 1) % 65536)) (left_next live.left units)
    ∙ ap (with_counts live ((live.waited + suc units) % 32000) (live.left - suc units)) (counter_next live.units units))

off_turn : (setup : Setup) (live : Live) (units : ℕ) → live.stands ≡ false → suc units < patience_due_in live → suc units < request_due_in live
    → ticked setup (off_later units live) ≡ turn_with (off_later (suc units) live) []
off_turn setup live units stands lasting before =
    goes_on setup (off_later units live) (lasts live units lasting)
    (turn_by setup (is_again (off_later units live)) (later (off_later units live)) (no_relation (later (off_later units live)) stands))
    ∙ (gone_off (later (off_later units live)) (is_again (off_later units live)) stands
    ∙ (ap (turn_with (later (off_later units live))) (no_request live.device live.asked live.waited units before)
    ∙ ap (λ (l : Live). turn_with l []) (off_next live units)))

-- ---- the same if it is established

abbrev with_exchange : Live → ℕ → ℕ → ℕ → Cyclic → ControllerEnd → ControllerEnd → Live
with_exchange live waited left units cyclic high low = record live { waited = waited; left = left; units = units; cyclic = cyclic; alarms = high; low_alarms = low }

abbrev pub on_later : ℕ → Live → Live
on_later units live =
    with_exchange live ((live.waited + units) % 32000) (live.left - units) ((live.units + units) % 65536) (after cyclic_later units live.cyclic) (after controller_later units live.alarms)
    (after controller_later units live.low_alarms)

gone_there : (live : Live) (is_request : Bool) → live.stands ≡ true → BringsNothing live.cyclic (due live.alarms.sending) (due live.low_alarms.sending)
    → gone_on live is_request ≡ turn_with (exchange_later live) (where_due is_request (pending_of live) ++ [])
gone_there live is_request stands (none, no_high, no_low) =
    let high = due live.alarms.sending in
    let low = due live.low_alarms.sending in
    let moved : gone_on live is_request ≡ flowed (exchange_later live) high low is_request (tick_of live.cyclic (either_due high low)) (tick_of live.cyclic (either_due high low)).ending = rw stands refl in
    moved
    ∙ (ap (λ (b : Brought). flowed (exchange_later live) high low is_request b b.ending) none
    ∙ (ap (λ (d : Due). flowed (exchange_later live) d low is_request (only_cyclic false) None) no_high
    ∙ ap (λ (d : Due). flowed (exchange_later live) Nothing d is_request (only_cyclic false) None) no_low))

on_next : (live : Live) (units : ℕ) → exchange_later (later (on_later units live)) ≡ on_later (suc units) live
on_next live units =
    let cyclic = after cyclic_later (suc units) live.cyclic in
    let high = after controller_later (suc units) live.alarms in
    let low = after controller_later (suc units) live.low_alarms in
    ap (λ (w : ℕ). with_exchange live w (live.left - units - 1) (((live.units + units) % 65536 + 1) % 65536) cyclic high low) (waited_next live.waited units)
    ∙ (ap (λ (l : ℕ). with_exchange live ((live.waited + suc units) % 32000) l (((live.units + units) % 65536 + 1) % 65536) cyclic high low) (left_next live.left units)
    ∙ ap (λ (u : ℕ). with_exchange live ((live.waited + suc units) % 32000) (live.left - suc units) u cyclic high low) (counter_next live.units units))

on_turn : (setup : Setup) (live : Live) (units : ℕ) → live.stands ≡ true → suc units < patience_due_in live → suc units < request_due_in live → suc units < access_due_in live
    → BringsNothing (after cyclic_later units live.cyclic) (due (after controller_later units live.alarms).sending) (due (after controller_later units live.low_alarms).sending)
    → ticked setup (on_later units live) ≡ turn_with (on_later (suc units) live) []
on_turn setup live units stands lasting before sooner none =
    let next = exchange_later (later (on_later units live)) in
    goes_on setup (on_later units live) (lasts live units lasting)
    (no_turn_by setup (later (on_later units live)) (not (is_free live.access)) (can_begin live) live.waited units refl sooner)
    ∙ (gone_there (later (on_later units live)) (is_again (on_later units live)) stands none
    ∙ (ap (λ (s : List Sent). turn_with next (s ++ [])) (no_pending live live.asked units before sooner)
    ∙ ap (λ (l : Live). turn_with l []) (on_next live units)))

-- ---- many units

abbrev sent_with : Controlling → List (List ℕ) → Stepped
sent_with controlling frames = record { controller = controlling; frames = frames }

abbrev and_tick : Stepped → Stepped
and_tick before = and_then before (step_of before.controller Tick)

-- One more unit that sends nothing.
one_more : (controlling : Controlling) (live next : Live) → ticked controlling.setup live ≡ turn_with next [] → and_tick (sent_with (with_live controlling live) []) ≡ sent_with (with_live controlling next) []
one_more controlling live next turn =
    ap (and_then (sent_with (with_live controlling live) [])) (tick_is (with_live controlling live))
    ∙ ap (λ (t : Turn). and_then (sent_with (with_live controlling live) []) (stepped (with_live controlling live) t)) turn

off_ticks : (controlling : Controlling) (units : ℕ) → controlling.live.stands ≡ false → controlling.live.waited < 32000 → controlling.live.units < 65536
    → units < patience_due_in controlling.live → units < request_due_in controlling.live → ticks_of units controlling ≡ sent_with (with_live controlling (off_later units controlling.live)) []
off_ticks controlling zero stands few fits lasting below =
    ap (λ (w : ℕ). sent_with (with_live controlling (with_counts controlling.live w controlling.live.left controlling.live.units)) []) (none_later controlling.live.waited 32000 few)
    ∙ (ap (λ (l : ℕ). sent_with (with_live controlling (with_counts controlling.live ((controlling.live.waited + 0) % 32000) l controlling.live.units)) []) (none_left controlling.live.left)
    ∙ ap (λ (u : ℕ). sent_with (with_live controlling (with_counts controlling.live ((controlling.live.waited + 0) % 32000) (controlling.live.left - 0) u)) []) (none_later controlling.live.units 65536 fits))
off_ticks controlling (suc units) stands few fits lasting below =
    ap and_tick (off_ticks controlling units stands few fits (omega (arith, lasting)) (omega (arith, below)))
    ∙ one_more controlling (off_later units controlling.live) (off_later (suc units) controlling.live) (off_turn controlling.setup controlling.live units stands lasting below)

on_ticks : (controlling : Controlling) (units : ℕ) → controlling.live.stands ≡ true → controlling.live.waited < 32000 → controlling.live.units < 65536
    → units < patience_due_in controlling.live → units < request_due_in controlling.live → units < access_due_in controlling.live → BringNothing units controlling.live.cyclic controlling.live.alarms controlling.live.low_alarms
    → ticks_of units controlling ≡ sent_with (with_live controlling (on_later units controlling.live)) []
unfolding BringNothing
on_ticks controlling zero stands few fits lasting below sooner none =
    let live = controlling.live in
    ap (λ (w : ℕ). sent_with (with_live controlling (with_exchange live w live.left live.units live.cyclic live.alarms live.low_alarms)) []) (none_later live.waited 32000 few)
    ∙ (ap (λ (l : ℕ). sent_with (with_live controlling (with_exchange live ((live.waited + 0) % 32000) l live.units live.cyclic live.alarms live.low_alarms)) []) (none_left live.left)
    ∙ ap (λ (u : ℕ). sent_with (with_live controlling (with_exchange live ((live.waited + 0) % 32000) (live.left - 0) u live.cyclic live.alarms live.low_alarms)) []) (none_later live.units 65536 fits))
on_ticks controlling (suc units) stands few fits lasting below sooner none =
    ap and_tick (on_ticks controlling units stands few fits (omega (arith, lasting)) (omega (arith, below)) (omega (arith, sooner)) (λ before earlier. none before (omega (arith, earlier))))
    ∙ one_more controlling (on_later units controlling.live) (on_later (suc units) controlling.live) (on_turn controlling.setup controlling.live units stands lasting below sooner (none units (omega arith)))

pub off_state : (controlling : Controlling) (units : ℕ) → controlling.live.stands ≡ false → controlling.live.waited < 32000 → controlling.live.units < 65536
    → units < patience_due_in controlling.live → units < request_due_in controlling.live → (ticks_of units controlling).controller ≡ with_live controlling (off_later units controlling.live)
off_state controlling units stands few fits lasting below = ap (λ (s : Stepped). s.controller) (off_ticks controlling units stands few fits lasting below)

pub off_sends : (controlling : Controlling) (units : ℕ) → controlling.live.stands ≡ false → controlling.live.waited < 32000 → controlling.live.units < 65536
    → units < patience_due_in controlling.live → units < request_due_in controlling.live → NoneSends units controlling
off_sends controlling units stands few fits lasting below before earlier =
    ap (λ (s : Stepped). s.frames) (off_ticks controlling before stands few fits (omega (arith, lasting, earlier)) (omega (arith, below, earlier)))

pub off_ends : (controlling : Controlling) (units : ℕ) → controlling.live.stands ≡ false → controlling.live.waited < 32000 → controlling.live.units < 65536
    → units < patience_due_in controlling.live → units < request_due_in controlling.live → NoneEnds units controlling
off_ends controlling units stands few fits lasting below before earlier =
    ap (λ (s : Stepped). s.controller.live.phase) (off_ticks controlling before stands few fits (omega (arith, lasting, earlier)) (omega (arith, below, earlier)))

pub on_state : (controlling : Controlling) (units : ℕ) → controlling.live.stands ≡ true → controlling.live.waited < 32000 → controlling.live.units < 65536
    → units < patience_due_in controlling.live → units < request_due_in controlling.live → units < access_due_in controlling.live → BringNothing units controlling.live.cyclic controlling.live.alarms controlling.live.low_alarms
    → (ticks_of units controlling).controller ≡ with_live controlling (on_later units controlling.live)
on_state controlling units stands few fits lasting below sooner none = ap (λ (s : Stepped). s.controller) (on_ticks controlling units stands few fits lasting below sooner none)

pub on_sends : (controlling : Controlling) (units : ℕ) → controlling.live.stands ≡ true → controlling.live.waited < 32000 → controlling.live.units < 65536
    → units < patience_due_in controlling.live → units < request_due_in controlling.live → units < access_due_in controlling.live → BringNothing units controlling.live.cyclic controlling.live.alarms controlling.live.low_alarms → NoneSends units controlling
unfolding BringNothing
on_sends controlling units stands few fits lasting below sooner none before earlier =
    ap (λ (s : Stepped). s.frames)
    (on_ticks controlling before stands few fits (omega (arith, lasting, earlier)) (omega (arith, below, earlier)) (omega (arith, sooner, earlier)) (λ first first_below. none first (omega (arith, earlier, first_below))))

pub on_ends : (controlling : Controlling) (units : ℕ) → controlling.live.stands ≡ true → controlling.live.waited < 32000 → controlling.live.units < 65536
    → units < patience_due_in controlling.live → units < request_due_in controlling.live → units < access_due_in controlling.live → BringNothing units controlling.live.cyclic controlling.live.alarms controlling.live.low_alarms → NoneEnds units controlling
unfolding BringNothing
on_ends controlling units stands few fits lasting below sooner none before earlier =
    ap (λ (s : Stepped). s.controller.live.phase)
    (on_ticks controlling before stands few fits (omega (arith, lasting, earlier)) (omega (arith, below, earlier)) (omega (arith, sooner, earlier)) (λ first first_below. none first (omega (arith, earlier, first_below))))

-- ---- a leap: units with which nothing is due, and then one Tick event

pub leap_state : (old mid new : Controlling) (units before : ℕ) → units ≡ suc before → mid ≡ (ticks_of before old).controller → new ≡ with_live mid (ticked mid.setup mid.live).live
    → new ≡ (ticks_of units old).controller
leap_state old mid new units before count is ticks =
    let first = ticks_of before old in
    ticks ∙ (ap (λ (m : Controlling). with_live m (ticked m.setup m.live).live) is
    ∙ (sym (ap (λ (s : Stepped). s.controller) (tick_is first.controller)) ∙ ap (λ (n : ℕ). (ticks_of n old).controller) (sym count)))

pub leap_frames : (old mid : Controlling) (frames : List (List ℕ)) (units before : ℕ) → units ≡ suc before → mid ≡ (ticks_of before old).controller → NoneSends before old
    → frames ≡ map (bytes_of mid.setup) (ticked mid.setup mid.live).sent → frames ≡ (ticks_of units old).frames
leap_frames old mid frames units before count is none ticks =
    let first = ticks_of before old in
    let last : frames ≡ (step_of first.controller Tick).frames =
    ticks ∙ (ap (λ (m : Controlling). map (bytes_of m.setup) (ticked m.setup m.live).sent) is ∙ sym (ap (λ (s : Stepped). s.frames) (tick_is first.controller))) in
    last ∙ (ap (λ (f : List (List ℕ)). f ++ (step_of first.controller Tick).frames) (sym (none before (omega arith)))
    ∙ ap (λ (n : ℕ). (ticks_of n old).frames) (sym count))

pub leap_last : (controlling : Controlling) (units before : ℕ) → units ≡ suc before → NoneSends before controlling → OnlyTheLastSends units controlling
leap_last controlling units before count none first earlier = none first (omega (arith, count, earlier))

pub leap_ends : (controlling : Controlling) (units before : ℕ) → units ≡ suc before → NoneEnds before controlling → OnlyTheLastEnds units controlling
leap_ends controlling units before count none first earlier = none first (omega (arith, count, earlier))

-- ---- leaps one after another

ticks_more : (controlling : Controlling) (units more : ℕ) → ticks_of (units + more) controlling ≡ and_then (ticks_of units controlling) (ticks_of more (ticks_of units controlling).controller)
ticks_more controlling units zero =
    let first = ticks_of units controlling in
    let none : units + 0 ≡ units = omega arith in
    ap (λ (n : ℕ). ticks_of n controlling) none ∙ ap (sent_with first.controller) (sym (append-nil first.frames))
ticks_more controlling units (suc more) =
    let first = ticks_of units controlling in
    let next = ticks_of more first.controller in
    let one : units + suc more ≡ suc (units + more) = omega arith in
    ap (λ (n : ℕ). ticks_of n controlling) one
    ∙ (ap and_tick (ticks_more controlling units more)
    ∙ ap (sent_with (step_of next.controller Tick).controller) (append_assoc first.frames next.frames (step_of next.controller Tick).frames))

pub leaps_are_ticks : LeapsAreTicks
leaps_are_ticks controlling [] = refl
leaps_are_ticks controlling (units ∷ leaps) =
    ap (and_then (ticks_of units controlling)) (leaps_are_ticks (ticks_of units controlling).controller leaps)
    ∙ (sym (ticks_more controlling units (sum leaps)) ∙ ap (λ (n : ℕ). ticks_of n controlling) (sym (sum_by-cons (λ (x : ℕ). x) units leaps)))
