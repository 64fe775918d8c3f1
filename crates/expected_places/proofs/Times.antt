-- Several units of time at once, before the next one with which the active call is sent again.
use Rattle.std.proofs.Common.{◌≡◌, ◌+◌, ◌<◌, ◌≤◌, ℕ, zero, suc, Bool, false, Option, Some, None, refl, ap, ◌∙◌, arith, if◌then◌else◌}
use Rattle.std.proofs.lemmas.Bool.{ne_eqb}
use Rattle.expected_places.specs.declared.calls.PlugCall.{PlugCall}
use Rattle.expected_places.specs.Calls.{NoneAgain, PlugQueue, again_in, again_with, counted, counted_by, is_again, passed_by}

-- The same calls, with this active one, which has waited for this many units.
abbrev with_standing : PlugQueue → Option PlugCall → ℕ → PlugQueue
with_standing queue standing waited = record { waiting = queue.waiting; standing = standing; sequence = queue.sequence; waited = waited }

not_again : (queue : PlugQueue) (standing : Option PlugCall) (waited units : ℕ) → suc units < again_with (with_standing queue standing waited) standing
    → is_again (passed_by units (with_standing queue standing waited)) ≡ false
not_again queue None waited units below = refl
not_again queue (Some call) waited units below = ne_eqb (waited + units + 1) 32000 (λ e. omega (arith, e, below))

one_more : (queue : PlugQueue) (standing : Option PlugCall) (waited units : ℕ) → suc units < again_with (with_standing queue standing waited) standing
    → counted (passed_by units (with_standing queue standing waited)) ≡ passed_by (suc units) (with_standing queue standing waited)
one_more queue None waited units below = refl
one_more queue (Some call) waited units below =
    let next : waited + units + 1 ≡ waited + suc units = omega arith in
    ap (λ (b : Bool). with_standing queue (Some call) (if b then 0 else waited + units + 1)) (not_again queue (Some call) waited units below)
    ∙ ap (with_standing queue (Some call)) next

none_passed : (queue : PlugQueue) (standing : Option PlugCall) (waited : ℕ)
    → with_standing queue standing waited ≡ passed_by 0 (with_standing queue standing waited)
none_passed queue None waited = refl
none_passed queue (Some call) waited =
    let same : waited ≡ waited + 0 = omega arith in
    ap (with_standing queue (Some call)) same

-- Units of which none is due are that many ticks.
pub counted_is : (queue : PlugQueue) (units : ℕ) → units < again_in queue → counted_by units queue ≡ passed_by units queue
counted_is queue zero below = none_passed queue queue.standing queue.waited
counted_is queue (suc units) below =
    ap counted (counted_is queue units (omega (arith, below))) ∙ one_more queue queue.standing queue.waited units below

pub none_again : (queue : PlugQueue) (units : ℕ) → units < again_in queue → NoneAgain units queue
none_again queue units below before earlier =
    ap is_again (counted_is queue before (omega (arith, below, earlier))) ∙ not_again queue queue.standing queue.waited before (omega (arith, below, earlier))

nearer_with : (queue : PlugQueue) (standing : Option PlugCall) (waited units : ℕ)
    → again_with (with_standing queue standing waited) standing ≤ again_in (passed_by units (with_standing queue standing waited)) + units
nearer_with queue None waited units = omega arith
nearer_with queue (Some call) waited units = omega arith

-- What is due comes nearer by these units, and by no more.
pub nearer : (queue : PlugQueue) (units : ℕ) → again_in queue ≤ again_in (passed_by units queue) + units
nearer queue units = nearer_with queue queue.standing queue.waited units
