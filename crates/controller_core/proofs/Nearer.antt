-- What is due comes nearer by at most one with each unit.
use Rattle.std.proofs.Common.{◌≡◌, ◌+◌, ◌-◌, ◌%◌, ◌≤◌, ◌<◌, ◌==◌, ◌||◌, not, ℕ, zero, suc, Bool, true, false, Option, Some, None, if◌then◌else◌, refl, sym, ap, ◌∙◌, arith, inl, inr}
use Rattle.std.specs.Prelude.{max, min, is_some}
use Rattle.std.proofs.lemmas.Bool.{cases_lt, eqb-true, true≢false}
use Rattle.std.proofs.Math.Nat.{mod-add-mod, mod-eq_of_lt}
use Rattle.cyclic_data.specs.Leaps.{over_in}
use Rattle.cyclic_data.specs.Timing.{Hearing, held_on, is_due}
use Rattle.pn_alarms.specs.Controller.{controller_later}
use Rattle.pn_alarms.specs.Ends.{ControllerEnd}
use Rattle.pn_alarms.specs.Leaps.{after, data_due_in, never, waiting_due_in}
use Rattle.pn_alarms.specs.Sending.{waiting_behind}
use Rattle.pn_alarms.specs.Sending as alarm
use Rattle.cyclic_data.specs.exchange.Cyclic.{Cyclic}
use Rattle.cyclic_data.specs.exchange.Leaps.{cyclic_due_in}
use Rattle.cyclic_data.specs.exchange.Units.{cyclic_later}
use Rattle.controller_messages.specs.Access.{is_free}
use Rattle.controller_core.specs.Leaps.{access_due_in, live_due_in, patience_due_in}
use Rattle.controller_core.specs.Machine.{can_begin}
use Rattle.controller_core.proofs.Leaping.{off_later, on_later}
use Rattle.controller_core.specs.stored.State.{Live}

-- So it comes nearer by at most that many with several.
counts : {A : Type 0} (due : A → ℕ) (step : A → A) → ((state : A) → due state ≤ 1 + due (step state)) → (units : ℕ) (state : A) → due state ≤ units + due (after step units state)
counts due step one zero state = omega arith
counts due step one (suc units) state = omega (arith, counts due step one units state, one (after step units state))

-- ---- cyclic data

frame_by : (interval elapsed : ℕ) (is_due : Bool) → interval - elapsed ≤ 1 + (interval - (if is_due then 0 else elapsed + 1))
frame_by interval elapsed true = omega arith
frame_by interval elapsed false = omega arith

held_by : (limit held : ℕ) → max 1 (limit - held) ≤ 1 + max 1 (limit - min limit (held + 1))
held_by limit held = omega arith

silent_by : (hearing : Hearing) (begun : Bool)
    → (if begun then over_in hearing else never) ≤ 1 + (if begun then over_in (if begun then held_on hearing else hearing) else never)
silent_by hearing true = held_by hearing.limit hearing.held
silent_by hearing false = omega arith

cyclic_nearer : (cyclic : Cyclic) → cyclic_due_in cyclic ≤ 1 + cyclic_due_in (cyclic_later cyclic)
cyclic_nearer cyclic =
    let one = frame_by cyclic.sending.interval cyclic.sending.elapsed (is_due cyclic.sending) in
    let other = silent_by cyclic.hearing cyclic.begun in
    omega (arith, one, other)

-- ---- alarms

interval_by : (waited interval : ℕ) → interval - waited % interval ≤ 1 + (interval - (waited + 1) % interval)
interval_by waited interval = elim (cases_lt (waited % interval + 1) interval) [
  | inl below ↦
      let next : (waited + 1) % interval ≡ waited % interval + 1 = sym (mod-add-mod waited interval 1) ∙ mod-eq_of_lt below in
      omega (arith, below, next)
  | inr above ↦ omega (arith, above)
]

given_up_by : (s : alarm.Sending) (waited : ℕ) (b : Bool) → (waited + 1 == s.limit) ≡ b → waiting_due_in s (Some waited) ≤ 1 + waiting_due_in s (if b then None else Some (waited + 1))
given_up_by s waited true is =
    let last : waited + 1 ≡ s.limit = eqb-true (waited + 1) s.limit is in
    omega (arith, last)
given_up_by s waited false is = omega (arith, interval_by waited s.interval)

waiting_nearer : (s : alarm.Sending) (waiting : Option ℕ) → waiting_due_in s waiting ≤ 1 + waiting_due_in s (waiting_behind s waiting)
waiting_nearer s None = omega arith
waiting_nearer s (Some waited) = given_up_by s waited (waited + 1 == s.limit) refl

alarm_nearer : (end : ControllerEnd) → data_due_in end.sending ≤ 1 + data_due_in (controller_later end).sending
alarm_nearer end = waiting_nearer end.sending end.sending.waiting

-- ---- requests, and the patience

request_by : (is_there : Bool) (waited units : ℕ) → (if is_there then 32000 - waited else never) ≤ units + (if is_there then 32000 - (waited + units) % 32000 else never)
request_by false waited units = omega arith
request_by true waited units = elim (cases_lt (waited + units) 32000) [
  | inl below ↦
      let next : (waited + units) % 32000 ≡ waited + units = mod-eq_of_lt below in
      omega (arith, below, next)
  | inr above ↦ omega (arith, above)
]

patience_by : (left units : ℕ) (is_none is_over : Bool) → (left == 0) ≡ is_none → (left - units == 0) ≡ is_over → units < (if is_none then never else left)
    → (if is_none then never else left) ≤ units + (if is_over then never else left - units)
patience_by left units true true none over few = omega arith
patience_by left units true false none over few =
    let zero : left ≡ 0 = eqb-true left 0 none in
    let gone : left - units ≡ 0 = omega (arith, zero) in
    let same : (left - units == 0) ≡ true = ap (λ (n : ℕ). n == 0) gone in
    absurd (true≢false (sym same ∙ over))
patience_by left units false true none over few =
    let last : left - units ≡ 0 = eqb-true (left - units) 0 over in
    omega (arith, last, few)
patience_by left units false false none over few = omega arith

patience_nearer : (left units : ℕ) → units < (if left == 0 then never else left) → (if left == 0 then never else left) ≤ units + (if left - units == 0 then never else left - units)
patience_nearer left units few = patience_by left units (left == 0) (left - units == 0) refl refl few

-- ---- all of it

exchange_by : (stands : Bool) (due later units : ℕ) → due ≤ units + later → (if stands then due else never) ≤ units + (if stands then later else never)
exchange_by true due later units nearer = nearer
exchange_by false due later units nearer = omega arith

pub on_nearer : (live : Live) (units : ℕ) → units < patience_due_in live → live_due_in live ≤ units + live_due_in (on_later units live)
on_nearer live units few =
    let patience = patience_nearer live.left units few in
    let request = request_by (is_some live.asked) live.waited units in
    let access = request_by (not (is_free live.access) || can_begin live) live.waited units in
    let cyclic = counts cyclic_due_in cyclic_later cyclic_nearer units live.cyclic in
    let high = counts (λ (end : ControllerEnd). data_due_in end.sending) controller_later alarm_nearer units live.alarms in
    let low = counts (λ (end : ControllerEnd). data_due_in end.sending) controller_later alarm_nearer units live.low_alarms in
    let exchange = exchange_by live.stands
    (min (access_due_in live) (min (min (cyclic_due_in live.cyclic) (data_due_in live.alarms.sending)) (data_due_in live.low_alarms.sending)))
    (min (access_due_in (on_later units live)) (min (min (cyclic_due_in (after cyclic_later units live.cyclic)) (data_due_in (after controller_later units live.alarms).sending)) (data_due_in (after controller_later units live.low_alarms).sending)))
    units (omega (arith, access, cyclic, high, low)) in
    omega (arith, patience, request, exchange)

never_by : (stands : Bool) (due later units : ℕ) → stands ≡ false → (if stands then due else never) ≤ units + (if stands then later else never)
never_by stands due later units none = rw none (omega arith)

pub off_nearer : (live : Live) (units : ℕ) → live.stands ≡ false → units < patience_due_in live → live_due_in live ≤ units + live_due_in (off_later units live)
off_nearer live units stands few =
    let patience = patience_nearer live.left units few in
    let request = request_by (is_some live.asked) live.waited units in
    let exchange = never_by live.stands
    (min (access_due_in live) (min (min (cyclic_due_in live.cyclic) (data_due_in live.alarms.sending)) (data_due_in live.low_alarms.sending)))
    (min (access_due_in (off_later units live)) (min (min (cyclic_due_in live.cyclic) (data_due_in live.alarms.sending)) (data_due_in live.low_alarms.sending)))
    units stands in
    omega (arith, patience, request, exchange)
