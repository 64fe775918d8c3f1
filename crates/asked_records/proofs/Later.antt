-- Several units of time at once, before the one with which the call is refused.
use Rattle.std.proofs.Common.{◌≡◌, ◌+◌, ◌<◌, ◌≤◌, ℕ, zero, suc, false, refl, ap, ◌∙◌, arith, Option, Some, None}
use Rattle.std.specs.Prelude.{option_map}
use Rattle.std.proofs.lemmas.Bool.{ne_eqb}
use Rattle.pn_alarms.specs.Leaps.{after}
use Rattle.asked_records.specs.Asked.{AskedState, NeverOver, Standing, due_in, due_with, is_over, later_with, limit, over_with, ticked, waits}

-- A state this many units later.
abbrev pub later : ℕ → AskedState → AskedState
later units state = record state { standing = option_map (waits units) state.standing }

abbrev with_standing : AskedState → Option Standing → AskedState
with_standing state standing = record state { standing = standing }

-- Before that unit, it is not the next one.
not_over : (standing : Option Standing) (units : ℕ) → suc units < due_with standing → over_with (option_map (waits units) standing) ≡ false
not_over None units before = refl
not_over (Some standing) units before = ne_eqb (standing.waited + units + 1) limit (λ e. omega (arith, e, before))

-- One unit more.
one_more : (standing : Option Standing) (units : ℕ) → suc units < due_with standing →
    later_with (option_map (waits units) standing) ≡ option_map (waits (suc units)) standing
one_more None units before = refl
one_more (Some standing) units before =
    rw (not_over (Some standing) units before)
    (ap (λ (n : ℕ). let o : Option Standing = Some (record standing { waited = n }) in o) (omega arith))

none_later : (standing : Option Standing) → standing ≡ option_map (waits 0) standing
none_later None = refl
none_later (Some standing) = ap (λ (n : ℕ). let o : Option Standing = Some (record standing { waited = n }) in o) (omega arith)

-- ---- many units, one by one

pub later_after : (state : AskedState) (units : ℕ) → units < due_in state → after ticked units state ≡ later units state
later_after state zero before = ap (with_standing state) (none_later state.standing)
later_after state (suc units) before =
    ap ticked (later_after state units (omega (arith, before))) ∙ ap (with_standing state) (one_more state.standing units before)

due_nearer : (standing : Option Standing) (units : ℕ) → units < due_with standing → due_with standing ≤ due_with (option_map (waits units) standing) + units
due_nearer None units before = omega arith
due_nearer (Some standing) units before = omega (arith, before)

pub nearer_by : (state : AskedState) (units : ℕ) → units < due_in state → due_in state ≤ due_in (later units state) + units
nearer_by state units before = due_nearer state.standing units before

pub never_over : (state : AskedState) (units : ℕ) → units < due_in state → NeverOver units state
never_over state units below before earlier =
    ap is_over (later_after state before (omega (arith, below, earlier))) ∙ not_over state.standing before (omega (arith, below, earlier))
