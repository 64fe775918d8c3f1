-- Several ticks at once, and as many ticks one by one.
use Rattle.std.proofs.Common.{◌≡◌, ◌+◌, ◌-◌, ◌≤◌, ◌<◌, ◌||◌, ℕ, zero, suc, Bool, true, false, Option, Some, None, refl, sym, ap, ◌∙◌, arith}
use Rattle.std.specs.Prelude.{max, nat_le, if◌then◌else◌}
use Rattle.std.proofs.lemmas.Bool.Decides.{nat_tests}
use Rattle.lldp.specs.State.{State, Known, is_sending, is_over, older, ticked}
use Rattle.lldp.specs.Leaps.{NoneActs, acts, due_in, known_later, later, sooner, ticks_of}

abbrev with_counts : State → ℕ → Option Known → State
with_counts state next known = record state { next = next; known = known }

same_known : (known : Option Known) → known_later 0 known ≡ known
same_known None = refl
same_known (Some known) = let same : known.left - 0 ≡ known.left = omega arith in ap (λ (n : ℕ). Some (record known { left = n })) same

later_none : (state : State) → later 0 state ≡ state
later_none state =
    let same : state.next - 0 ≡ state.next = omega arith in
    ap (λ (n : ℕ). with_counts state n (known_later 0 state.known)) same ∙ ap (with_counts state state.next) (same_known state.known)

-- ---- before the tick that is due

not_over : (ticks most : ℕ) (known : Option Known) → ticks + 1 < sooner known most → is_over (known_later ticks known) ≡ false
not_over ticks most None few = refl
not_over ticks most (Some known) few = let more : 1 < known.left - ticks = omega (arith, few) in grind (arith, nat_tests)

older_later : (ticks most : ℕ) (known : Option Known) → ticks + 1 < sooner known most → older (known_later ticks known) ≡ known_later (suc ticks) known
older_later ticks most None few = refl
older_later ticks most (Some known) few =
    let more : nat_le (known.left - ticks) 1 ≡ false = not_over ticks most (Some known) few in
    let one : known.left - ticks - 1 ≡ known.left - suc ticks = omega arith in
    ap (λ (b : Bool). if b then None else Some (record known { left = known.left - ticks - 1 })) more ∙ ap (λ (n : ℕ). Some (record known { left = n })) one

few_ticks : (ticks most : ℕ) (known : Option Known) → ticks + 1 < sooner known most → ticks + 1 < most
few_ticks ticks most None few = few
few_ticks ticks most (Some known) few = omega (arith, few)

not_sending : (ticks : ℕ) (state : State) → ticks + 1 < due_in state → is_sending (later ticks state) ≡ false
not_sending ticks state few =
    let more : ticks + 1 < max state.next 1 = few_ticks ticks (max state.next 1) state.known few in
    let some : 1 < state.next - ticks = omega (arith, more) in
    grind (arith, nat_tests)

later_next : (ticks : ℕ) (state : State) → ticks + 1 < due_in state → ticked (later ticks state) ≡ later (suc ticks) state
later_next ticks state few =
    let one : state.next - ticks - 1 ≡ state.next - suc ticks = omega arith in
    ap (λ (b : Bool). with_counts state (if b then 160000 else state.next - ticks - 1) (older (known_later ticks state.known))) (not_sending ticks state few)
    ∙ (ap (with_counts state (state.next - ticks - 1)) (older_later ticks (max state.next 1) state.known few)
    ∙ ap (λ (n : ℕ). with_counts state n (known_later (suc ticks) state.known)) one)

pub ticks_later : (ticks : ℕ) (state : State) → ticks < due_in state → ticks_of ticks state ≡ later ticks state
ticks_later zero state few = sym (later_none state)
ticks_later (suc ticks) state few = ap ticked (ticks_later ticks state (omega (arith, few))) ∙ later_next ticks state (omega (arith, few))

none_or : (one other : Bool) → one ≡ false → other ≡ false → (one || other) ≡ false
none_or one other e f = rw (e, f) refl

-- no tick before the one that is due sends or forgets
pub none_acts : (ticks : ℕ) (state : State) → ticks < due_in state → NoneActs ticks state
none_acts ticks state few before earlier =
    let soon : before + 1 < due_in state = omega (arith, few, earlier) in
    ap acts (ticks_later before state (omega (arith, soon)))
    ∙ none_or (is_sending (later before state)) (is_over (known_later before state.known)) (not_sending before state soon) (not_over before (max state.next 1) state.known soon)

-- ---- the tick that is due

some_due : (known : Option Known) (next : ℕ) → 0 < sooner known (max next 1)
some_due None next = omega arith
some_due (Some known) next = omega arith

acts_by : (known : Option Known) (next : ℕ) → (nat_le (next - (sooner known (max next 1) - 1)) 1 || is_over (known_later (sooner known (max next 1) - 1) known)) ≡ true
acts_by None next = let few : next - (max next 1 - 1) ≤ 1 = omega arith in grind (arith, nat_tests)
acts_by (Some known) next = grind (arith, nat_tests)

pub due_acts : (state : State) → acts (ticks_of (due_in state - 1) state) ≡ true
due_acts state =
    let some = some_due state.known state.next in
    ap acts (ticks_later (due_in state - 1) state (omega (arith, some))) ∙ acts_by state.known state.next
