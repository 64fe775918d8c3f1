-- Units of time that are counted for services, and what is due then.
use Rattle.std.proofs.Common.{◌≡◌, ◌+◌, ◌-◌, ◌<◌, ◌≤◌, ℕ, zero, suc, Bool, true, false, List, [], Option, Some, None, refl, sym, ap, subst, ◌∙◌, arith, inl, inr}
use Rattle.std.specs.Prelude.{if◌then◌else◌, is_some}
use Rattle.settings_journal.specs.settings_store.State.{Values}
use Rattle.services.specs.Leaps.{never}
use Rattle.device_core.specs.Leaps.{live_due_in}
use Rattle.device_core.specs.State.{Live}
use Rattle.device_station.specs.Leaps.{QuietUnitsAreTicks, QuietUnitsBringNoNews, QuietUnitsCount, QuietUnitsCountDown, services_due}
use Rattle.device_station.specs.Serving.{Serving, due_in, knows, serving_ticks, ticked}
use Rattle.device_station.specs.declared.port.refusal.Refusal.{Refusal}
use Rattle.device_station.specs.port.State.{State, has_some}
use Rattle.device_station.specs.port.Steps.{Ticks}
use Rattle.device_station.specs.port.Pace.{AreCalm, Calm, HasNoNews, IsBehind, IsPaced, Resting, caught_up, soonest}
use Rattle.device_station.specs.port.Served.{due_with}
use Rattle.device_station.specs.port.ServedSteps.{RestsFor, TicksBoth}
use Rattle.device_station.proofs.ServedTicking.{at, ticks_alone, ticks_quiet}

pub serving_more : (more ticks : ℕ) (state : Serving) → serving_ticks more (serving_ticks ticks state) ≡ serving_ticks (ticks + more) state
serving_more zero ticks state = let none : ticks ≡ ticks + zero = omega arith in ap (λ (n : ℕ). serving_ticks n state) none
serving_more (suc more) ticks state =
    let one : suc (ticks + more) ≡ ticks + suc more = omega arith in
    ap ticked (serving_more more ticks state) ∙ ap (λ (n : ℕ). serving_ticks n state) one

-- ---- services that have nothing to see or to tell

-- What is due of them is what is due of them alone.
pub calm_due : (limit : ℕ) (values : Values) (state : Serving) → Calm limit values state → services_due values state ≡ due_in state
calm_due limit values state calm =
    ap (λ (b : Bool). if b then never else (if knows state values.running then due_in state else 1)) calm.power
    ∙ ap (λ (b : Bool). if b then due_in state else 1) calm.seen

-- Before the limit, they have none after some ticks either, and what is due of them is not sooner than the rest.
pub calm_later : QuietUnitsCount → QuietUnitsBringNoNews → (limit behind : ℕ) (values : Values) (state : Serving) → Calm limit values state → behind < limit
    → (limit ≤ behind + services_due values (serving_ticks behind state)) × ((serving_ticks behind state).has_news ≡ false)
calm_later counts news limit behind values state calm inside =
    let due = calm_due limit values state calm in
    let more = counts values behind state calm.power (omega (arith, due, calm.due, inside)) in (
      omega (arith, due, calm.due, more),
      news behind state (omega (arith, calm.due, inside)) ∙ calm.told,
    )

-- They may learn of units that are counted.
pub calm_behind : (rest limit : ℕ) (values : Values) (services : Option Serving) → 0 < rest → rest ≤ limit → AreCalm limit values services → IsBehind (limit - rest) services
calm_behind rest limit values None some inside calm = tt
calm_behind rest limit values (Some state) some inside calm = inr (omega (arith, some, inside, calm.due))

-- If the rest is known, it is this.
pub resting_of : (rest limit : ℕ) (values : Values) (services : Option Serving) (frames : List (List ℕ)) → 0 < rest → IsPaced rest limit values services frames
    → Resting rest limit values services frames
resting_of rest limit values services frames some (inl none) = absurd (omega (arith, some, none.0))
resting_of rest limit values services frames some (inr resting) = resting

-- The device knows its neighbour.
pub calm_news : QuietUnitsCount → QuietUnitsBringNoNews → (rest limit : ℕ) (values : Values) (services : Option Serving) → 0 < rest → rest ≤ limit → AreCalm limit values services
    → HasNoNews (caught_up (limit - rest) services)
calm_news counts news rest limit values None some inside calm = tt
calm_news counts news rest limit values (Some state) some inside calm = (calm_later counts news limit (limit - rest) values state calm (omega (arith, some, inside))).1

-- The services have no part in fewer units than the rest.
pub calm_rests : QuietUnitsCount → QuietUnitsBringNoNews → (units rest limit : ℕ) (values : Values) (services : Option Serving) → units < rest → rest ≤ limit → AreCalm limit values services
    → RestsFor units (caught_up (limit - rest) services) values
calm_rests counts news units rest limit values None few inside calm = tt
calm_rests counts news units rest limit values (Some state) few inside calm =
    let later = calm_later counts news limit (limit - rest) values state calm (omega (arith, few, inside)) in
    (calm.power, later.1, omega (arith, few, inside, later.0))

-- ---- units of time

-- Units in which the services have no part are ticks of theirs, in which they send nothing.
pub rests_both : QuietUnitsAreTicks → QuietUnitsBringNoNews → (units : ℕ) (serves : Bool) (old new : State) (services : Option Serving) → RestsFor units services old.device.live.values
    → Ticks units old new → TicksBoth units (at serves old services []) (at serves new (caught_up units services) [])
rests_both quiet news units serves old new None rests ticks = ticks_alone units serves old new ticks
rests_both quiet news units serves old new (Some state) rests ticks =
    let identity = old.device.station.identity in
    let values = old.device.live.values in
    let own = quiet identity values units state rests.0 rests.2 in
    subst (λ (s : Serving). TicksBoth units (at serves old (Some state) []) (at serves new (Some s) [])) own.0
    (ticks_quiet units serves old new state ticks own.1
    (λ before sooner.
    let part = quiet identity values before state rests.0 (omega (arith, sooner, rests.2)) in
    ap (λ (s : Serving). s.has_news) part.0 ∙ news before state part.2)
    rests.1)

-- Counted further, the services are as after these units.
pub caught_more : (units rest limit : ℕ) (services : Option Serving) → units ≤ rest → rest ≤ limit → caught_up units (caught_up (limit - rest) services) ≡ caught_up (limit - (rest - units)) services
caught_more units rest limit None few inside = refl
caught_more units rest limit (Some state) few inside =
    let sum : (limit - rest) + units ≡ limit - (rest - units) = omega (arith, few, inside) in
    ap (λ (s : Serving). let o : Option Serving = Some s in o) (serving_more units (limit - rest) state ∙ ap (λ (n : ℕ). serving_ticks n state) sum)

pub calm_both : QuietUnitsAreTicks → QuietUnitsCount → QuietUnitsBringNoNews → (units rest limit : ℕ) (serves : Bool) (old new : State) (services : Option Serving) → units < rest → rest ≤ limit
    → AreCalm limit old.device.live.values services → Ticks units old new
    → TicksBoth units (at serves old (caught_up (limit - rest) services) []) (at serves new (caught_up (limit - (rest - units)) services) [])
calm_both quiet counts news units rest limit serves old new services few inside calm ticks =
    let none = calm_rests counts news units rest limit old.device.live.values services few inside calm in
    subst (λ (o : Option Serving). TicksBoth units (at serves old (caught_up (limit - rest) services) []) (at serves new o []))
    (caught_more units rest limit services (omega (arith, few)) inside)
    (rests_both quiet news units serves old new (caught_up (limit - rest) services) none ticks)

-- What is due of the services is the rest.
calm_rest : QuietUnitsCount → QuietUnitsCountDown → QuietUnitsBringNoNews → (rest limit : ℕ) (values : Values) (state : Serving) → 0 < rest → rest ≤ limit → Calm limit values state
    → services_due values (serving_ticks (limit - rest) state) ≡ rest
calm_rest counts down news rest limit values state some inside calm =
    let due = calm_due limit values state calm in
    let later = (calm_later counts news limit (limit - rest) values state calm (omega (arith, some, inside))).0 in
    let less = down values (limit - rest) state calm.power (omega (arith, due, calm.due, some, inside)) (omega (arith, due, calm.due, calm.few)) in
    omega (arith, due, calm.due, later, less, inside)

-- So what is due of both is what is due of the device, or the rest.
pub due_soonest : QuietUnitsCount → QuietUnitsCountDown → QuietUnitsBringNoNews → (due rest limit : ℕ) (live : Live) (services : Option Serving) → due ≡ live_due_in live → 0 < rest → rest ≤ limit
    → AreCalm limit live.values services → soonest due rest services ≡ due_with (caught_up (limit - rest) services) live
due_soonest counts down news due rest limit live None is some inside calm = is
due_soonest counts down news due rest limit live (Some state) is some inside calm =
    let own = calm_rest counts down news rest limit live.values state some inside calm in
    omega (arith, is, own)

-- So fewer units than the rest, and than are due of the device, are fewer than are due of both.
pub few_soonest : (units due rest : ℕ) (services : Option Serving) → units < due → units < rest → units < soonest due rest services
few_soonest units due rest None few inside = few
few_soonest units due rest (Some state) few inside = omega (arith, few, inside)

-- ---- services that learn of units

pub caught_zero : (behind : ℕ) (services : Option Serving) → behind ≡ 0 → services ≡ caught_up behind services
caught_zero behind None none = refl
caught_zero behind (Some state) none = ap (λ (n : ℕ). let o : Option Serving = Some (serving_ticks n state) in o) (sym none)

-- ---- frames of theirs that remain

pub some_paced : (rest limit : ℕ) (values : Values) (services : Option Serving) (frames after : List (List ℕ)) → has_some frames ≡ true → IsPaced rest limit values services frames → IsPaced rest limit values services after
some_paced rest limit values services frames after some (inl none) = inl none
some_paced rest limit values services frames after some (inr resting) = cc (sym (ap has_some resting.fetched) ∙ some)

-- ---- what is due of the services is known again

pub renewed : (rest : ℕ) (values : Values) (services : Option Serving) (frames : List (List ℕ)) → frames ≡ [] → (0 < rest → AreCalm rest values services) → IsPaced rest rest values services frames
renewed zero values services frames fetched calm = inl (refl, refl)
renewed (suc rest) values services frames fetched calm = inr (record { some = omega arith; inside = omega arith; fetched = fetched; calm = calm (omega arith) })

pub none_of : (why : Option Refusal) → is_some why ≡ false → why ≡ None
none_of None none = refl
none_of (Some refusal) none = cc none
