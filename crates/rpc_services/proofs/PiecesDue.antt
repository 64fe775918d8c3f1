-- What is due: the next tick that drops a call.
use Rattle.std.proofs.Common.{◌≡◌, ◌≢◌, ◌-◌, ◌≤◌, ◌<◌, ◌==◌, ◌&&◌, ◌⊎◌, inl, inr, ℕ, Bool, true, false, List, [], ◌∷◌, map, drop, refl, sym, ap, ◌∙◌, arith}
use Rattle.std.specs.Prelude.{min, nat_lt, if◌then◌else◌}
use Rattle.std.proofs.lemmas.Bool.{cases_lt, eqb-true}
use Rattle.std.proofs.lemmas.Bool.Decides.{nat_tests}
use Rattle.rpc_core.specs.declared.call_headers.call.Head.{Head}
use Rattle.rpc_services.specs.pieces.Piece.{is_same}
use Rattle.rpc_services.specs.pieces.State.{State, Unfinished, holds, is_live, older}
use Rattle.rpc_services.specs.pieces.Leaps.{due_in, soonest, ticks_of}
use Rattle.rpc_services.proofs.PiecesLeaping.{ticks_later}

-- what is due is not later than the latest
one_of : (b : Bool) (one other most : ℕ) → one ≤ most → other ≤ most → (if b then one else other) ≤ most
one_of true one other most first second = first
one_of false one other most first second = second

least : (never : ℕ) (us : List Unfinished) → soonest never us ≤ never
least never [] = omega arith
least never (u ∷ us) =
    let sooner = least (min never u.left) us in
    one_of (u.left == 0) (soonest never us) (soonest (min never u.left) us) never (least never us) (omega (arith, sooner))

-- ---- before that tick

live_kept : (ticks : ℕ) (u : Unfinished) → (u.left ≡ 0) ⊎ (ticks < u.left) → nat_lt 0 (u.left - ticks) ≡ nat_lt 0 u.left
live_kept ticks u (inl none) =
    let after : nat_lt 0 (u.left - ticks) ≡ false = grind (arith, nat_tests) in
    let before : nat_lt 0 u.left ≡ false = grind (arith, nat_tests) in
    after ∙ sym before
live_kept ticks u (inr few) =
    let after : nat_lt 0 (u.left - ticks) ≡ true = grind (arith, nat_tests) in
    let before : nat_lt 0 u.left ≡ true = grind (arith, nat_tests) in
    after ∙ sym before

one_kept : (ticks : ℕ) (h : Head) (u : Unfinished) (others before : List Bool) → (u.left ≡ 0) ⊎ (ticks < u.left) → others ≡ before
    → holds h (older ticks u) ∷ others ≡ holds h u ∷ before
one_kept ticks h u others before left same =
    ap (λ (b : Bool). (b && is_same h u.head) ∷ others) (live_kept ticks u left) ∙ ap (λ (bs : List Bool). holds h u ∷ bs) same

abbrev Kept : ℕ → Head → List Unfinished → Type 0
Kept ticks h us = map (holds h) (map (older ticks) us) ≡ map (holds h) us

more_kept : (ticks never : ℕ) (h : Head) (u : Unfinished) (us : List Unfinished) → (ticks < soonest never us → Kept ticks h us) → (ticks < soonest (min never u.left) us → Kept ticks h us)
    → (b : Bool) → (u.left == 0) ≡ b → ticks < (if b then soonest never us else soonest (min never u.left) us) → Kept ticks h (u ∷ us)
more_kept ticks never h u us one other true e few = one_kept ticks h u _ _ (inl (eqb-true _ _ e)) (one few)
more_kept ticks never h u us one other false e few =
    let most = least (min never u.left) us in
    one_kept ticks h u _ _ (inr (omega (arith, few, most))) (other few)

all_kept : (ticks never : ℕ) (h : Head) (us : List Unfinished) → ticks < soonest never us → Kept ticks h us
all_kept ticks never h [] few = refl
all_kept ticks never h (u ∷ us) few =
    more_kept ticks never h u us (λ sooner. all_kept ticks never h us sooner) (λ sooner. all_kept ticks (min never u.left) h us sooner) (u.left == 0) refl few

pub kept : (state : State) (ticks : ℕ) (h : Head) → ticks < due_in state → map (holds h) (ticks_of ticks state).calls ≡ map (holds h) state.calls
kept state ticks h few = ap (λ (s : State). map (holds h) s.calls) (ticks_later ticks state) ∙ all_kept ticks 4294967295 h state.calls few

-- ---- with that tick

abbrev first_of : List Bool → Bool
first_of [] = false
first_of (b ∷ bs) = b

-- this one is dropped then
last_one : (due : ℕ) (u : Unfinished) (us : List Unfinished) → due ≡ u.left → (u.left == 0) ≡ false → map is_live (map (older due) (u ∷ us)) ≢ map is_live (u ∷ us)
last_one due u us now some same =
    let was : nat_lt 0 u.left ≡ true = grind (arith, nat_tests) in
    let over : nat_lt 0 (u.left - due) ≡ false = grind (arith, nat_tests) in
    let both : nat_lt 0 (u.left - due) ≡ nat_lt 0 u.left = ap first_of same in
    let wrong : ◌≡◌ {A = Bool} false true = sym over ∙ (both ∙ was) in cc

-- places of which one is dropped
abbrev Drops : ℕ → List Unfinished → Type 0
Drops due us = map is_live (map (older due) us) ≢ map is_live us

more_dropped : (due never : ℕ) (u : Unfinished) (us : List Unfinished) → due < never
    → (due ≡ soonest never us → Drops due us) → (due ≡ soonest (min never u.left) us → due < min never u.left → Drops due us)
    → (b : Bool) → (u.left == 0) ≡ b → due ≡ (if b then soonest never us else soonest (min never u.left) us) → Drops due (u ∷ us)
more_dropped due never u us few one other true e is = λ same. one is (ap (drop 1) same)
more_dropped due never u us few one other false e is = λ same. elim (cases_lt due (min never u.left)) [
  | inl below ↦ other is below (ap (drop 1) same)
  | inr above ↦
      let most = least (min never u.left) us in
      last_one due u us (omega (arith, is, most, above, few)) e same
]

some_dropped : (due never : ℕ) (us : List Unfinished) → due ≡ soonest never us → due < never → Drops due us
some_dropped due never [] is few = λ same. absurd (omega (arith, is, few))
some_dropped due never (u ∷ us) is few =
    more_dropped due never u us few (λ e. some_dropped due never us e few) (λ e below. some_dropped due (min never u.left) us e below) (u.left == 0) refl is

pub dropped : (state : State) → due_in state < 4294967295 → map is_live (ticks_of (due_in state) state).calls ≢ map is_live state.calls
dropped state few same =
    some_dropped (due_in state) 4294967295 state.calls refl few (sym (ap (λ (s : State). map is_live s.calls) (ticks_later (due_in state) state)) ∙ same)
