-- Several ticks at once, and as many ticks one by one.
use Rattle.std.proofs.Common.{◌≡◌, ◌+◌, ◌-◌, ◌≤◌, ◌<◌, ℕ, zero, suc, List, [], ◌∷◌, ◌++◌, length, map, take, drop, get_or, set, refl, sym, ap, subst, ◌∙◌, arith}
use Rattle.std.specs.List.{All}
use Rattle.std.proofs.lemmas.List.Elements.{All-map}
use Rattle.rpc_services.specs.declared.pieces.piece.Kind.{Kind}
use Rattle.rpc_services.specs.pieces.State.{State, Unfinished, older, ticked}
use Rattle.rpc_services.specs.pieces.Leaps.{later, ticks_of}

-- a place whose call is dropped after this many ticks
abbrev with_left : Unfinished → ℕ → Unfinished
with_left u left = record u { left = left }

none_older : (us : List Unfinished) → map (older 0) us ≡ us
none_older [] = refl
none_older (u ∷ us) =
    let same : u.left - 0 ≡ u.left = omega arith in
    ap (λ (n : ℕ). with_left u n ∷ map (older 0) us) same ∙ ap (λ (vs : List Unfinished). u ∷ vs) (none_older us)

once_more : (ticks : ℕ) (us : List Unfinished) → map (older 1) (map (older ticks) us) ≡ map (older (suc ticks)) us
once_more ticks [] = refl
once_more ticks (u ∷ us) =
    let same : u.left - ticks - 1 ≡ u.left - suc ticks = omega arith in
    ap (λ (n : ℕ). with_left u n ∷ map (older 1) (map (older ticks) us)) same ∙ ap (λ (vs : List Unfinished). with_left u (u.left - suc ticks) ∷ vs) (once_more ticks us)

-- that many ticks, one by one
pub ticks_later : (ticks : ℕ) (state : State) → ticks_of ticks state ≡ later ticks state
ticks_later zero state = ap (λ (us : List Unfinished). record state { calls = us }) (sym (none_older state.calls))
ticks_later (suc ticks) state = ap ticked (ticks_later ticks state) ∙ ap (λ (us : List Unfinished). record state { calls = us }) (once_more ticks state.calls)

-- where nothing is unfinished, a tick changes nothing
pub idle : (us : List Unfinished) → All (λ u. u.left ≤ 0) us → map (older 1) us ≡ us
idle [] none = refl
idle (u ∷ us) none =
    let over : u.left ≤ 0 = none 0 u (omega arith) in
    let same : u.left - 1 ≡ u.left = omega (arith, over) in
    ap (λ (n : ℕ). with_left u n ∷ map (older 1) us) same ∙ ap (λ (vs : List Unfinished). u ∷ vs) (idle us (λ k d few. none (suc k) d (omega (arith, few))))

pub idle_state : (state : State) (kind : Kind) (us : List Unfinished) (ages : List ℕ) → state ≡ record { kind = kind; calls = us; ages = ages } → All (λ u. u.left ≤ 0) us → state ≡ ticked state
idle_state state kind us ages e none = rw e (ap (λ (vs : List Unfinished). record { kind = kind; calls = vs; ages = ages }) (sym (idle us none)))

-- each call is dropped after at most this many ticks, and becomes older
pub less_left : (ticks most rest : ℕ) (us vs : List Unfinished) → rest ≡ most - ticks → vs ≡ map (older ticks) us → All (λ u. u.left ≤ most) us → All (λ u. u.left ≤ rest) vs
less_left ticks most rest us vs e f few =
    subst (λ (ws : List Unfinished). All (λ (u : Unfinished). u.left ≤ rest) ws) (sym f)
    (All-map (λ (u : Unfinished). u.left ≤ rest) (older ticks) us (λ k d there. let one = few k d there in omega (arith, one, e)))

-- ---- one place after another

-- the places so far are older
abbrev Aged : ℕ → ℕ → List Unfinished → List Unfinished
Aged ticks i us = map (older ticks) (take i us) ++ drop i us

aged_next : (ticks i : ℕ) (us : List Unfinished) (d : Unfinished) → i < length us → set (Aged ticks i us) i (older ticks (get_or (Aged ticks i us) i d)) ≡ Aged ticks (suc i) us
aged_next ticks i [] d few = absurd (omega (arith, few))
aged_next ticks zero (u ∷ us) d few = refl
aged_next ticks (suc i) (u ∷ us) d few = ap (λ (vs : List Unfinished). older ticks u ∷ vs) (aged_next ticks i us d (omega (arith, few)))

pub one_aged : (ticks i : ℕ) (us vs : List Unfinished) (d new : Unfinished) → i < length us → vs ≡ Aged ticks i us → new ≡ older ticks (get_or vs i d) → set vs i new ≡ Aged ticks (i + 1) us
one_aged ticks i us vs d new few e f =
    let next : suc i ≡ i + 1 = omega arith in
    ap (set vs i) f ∙ (ap (λ (ws : List Unfinished). set ws i (older ticks (get_or ws i d))) e ∙ (aged_next ticks i us d few ∙ ap (λ (k : ℕ). Aged ticks k us) next))
