-- Which call makes room.
use Rattle.std.proofs.Common.{◌≡◌, ◌≢◌, ◌+◌, ◌<◌, ◌≤◌, ℕ, zero, suc, Bool, true, false, List, [], ◌∷◌, length, map, get_or, Some, refl, sym, ap, ◌∙◌, arith}
use Rattle.std.specs.Prelude.{nat_lt, if◌then◌else◌}
use Rattle.std.specs.List.{All, list_any}
use Rattle.std.proofs.lemmas.Bool.{ltb-true, ltb-false}
use Rattle.std.proofs.lemmas.List.{get_or-map, get_or-set_other, get_or-set_same, length-map}
use Rattle.std.proofs.lemmas.List.Folds.{list_any_at}
use Rattle.rpc_core.specs.declared.call_headers.call.Head.{Head}
use Rattle.rpc_services.specs.pieces.Piece.{Piece}
use Rattle.rpc_services.specs.pieces.State.{State, Unfinished, after_piece, at_place, begun_at, blank, is_live, is_of, is_unfinished, oldest, oldest_from, older_than, place_in, place_of, starts, turn_of}
use Rattle.rpc_services.proofs.PiecesPlaces.{not_found}

-- ---- the greatest turn

-- the turn of each place
abbrev turn_at : List ℕ → List Unfinished → ℕ → ℕ
turn_at ages us k = turn_of (get_or us k blank) (get_or ages k 0)

-- places from an index on, of which these are the turns
abbrev AreTurns : List ℕ → (ℕ → ℕ) → ℕ → List Unfinished → Type 0
AreTurns ages turns index us = (j : ℕ) → j < length us → turns (index + j) ≡ turn_of (get_or us j blank) (get_or ages (index + j) 0)

-- no turn so far is greater
abbrev AreFew : (ℕ → ℕ) → ℕ → ℕ → Type 0
AreFew turns index most = (k : ℕ) → k < index → turns k ≤ most

abbrev IsGreatest : (ℕ → ℕ) → ℕ → ℕ → Type 0
IsGreatest turns size place = (k : ℕ) → k < size → turns k ≤ turns place

one_more : (turns : ℕ → ℕ) (index most turn : ℕ) → AreFew turns index most → turns index ≡ turn → most ≤ turn → AreFew turns (index + 1) turn
one_more turns index most turn few is less k there = by (nat_lt k index) refl
  where
    by : (b : Bool) → nat_lt k index ≡ b → turns k ≤ turn
    by true e = let one = few k (ltb-true _ _ e) in omega (arith, one, less)
    by false e =
        let above = ltb-false _ _ e in
        let same : k ≡ index = omega (arith, above, there) in
        let value : turns k ≡ turn = ap turns same ∙ is in
        omega (arith, value)

same_most : (turns : ℕ → ℕ) (index most turn : ℕ) → AreFew turns index most → turns index ≡ turn → turn ≤ most → AreFew turns (index + 1) most
same_most turns index most turn few is less k there = by (nat_lt k index) refl
  where
    by : (b : Bool) → nat_lt k index ≡ b → turns k ≤ most
    by true e = few k (ltb-true _ _ e)
    by false e =
        let above = ltb-false _ _ e in
        let same : k ≡ index = omega (arith, above, there) in
        let value : turns k ≡ turn = ap turns same ∙ is in
        omega (arith, value, less)

behind : (ages : List ℕ) (turns : ℕ → ℕ) (index : ℕ) (u : Unfinished) (us : List Unfinished) → AreTurns ages turns index (u ∷ us) → AreTurns ages turns (index + 1) us
behind ages turns index u us are j there =
    let next : index + 1 + j ≡ index + suc j = omega arith in
    ap turns next ∙ are (suc j) (omega (arith, there)) ∙ ap (λ (n : ℕ). turn_of (get_or us j blank) (get_or ages n 0)) (sym next)

first_turn : (ages : List ℕ) (turns : ℕ → ℕ) (index : ℕ) (u : Unfinished) (us : List Unfinished) → AreTurns ages turns index (u ∷ us) → turns index ≡ turn_of u (get_or ages index 0)
first_turn ages turns index u us are =
    let next : index ≡ index + 0 = omega arith in
    ap turns next ∙ are 0 (omega arith) ∙ ap (λ (n : ℕ). turn_of u (get_or ages n 0)) (sym next)

either_place : (turns : ℕ → ℕ) (k : ℕ) (b : Bool) (one other : ℕ) → (b ≡ true → turns k ≤ turns one) → (b ≡ false → turns k ≤ turns other) → turns k ≤ turns (if b then one else other)
either_place turns k true one other first second = first refl
either_place turns k false one other first second = second refl

greatest : (ages : List ℕ) (turns : ℕ → ℕ) (place most index : ℕ) (us : List Unfinished) → AreTurns ages turns index us → AreFew turns index most → most ≤ turns place
    → IsGreatest turns (index + length us) (oldest_from place most index ages us)
greatest ages turns place most index [] are few here k there = let one = few k (omega (arith, there)) in omega (arith, one, here)
greatest ages turns place most index (u ∷ us) are few here k there =
    let turn : ℕ = turn_of u (get_or ages index 0) in
    let is : turns index ≡ turn = first_turn ages turns index u us are in
    let rest = behind ages turns index u us are in
    either_place turns k (nat_lt most turn) (oldest_from index turn (index + 1) ages us) (oldest_from place most (index + 1) ages us)
    (λ e. let less = ltb-true _ _ e in greatest ages turns index turn (index + 1) us rest (one_more turns index most turn few is (omega (arith, less))) (omega (arith, is)) k (omega (arith, there)))
    (λ e. let less = ltb-false _ _ e in greatest ages turns place most (index + 1) us rest (same_most turns index most turn few is (omega (arith, less))) here k (omega (arith, there)))

oldest_greatest : (ages : List ℕ) (us : List Unfinished) → IsGreatest (turn_at ages us) (length us) (oldest ages us)
oldest_greatest ages us k there =
    greatest ages (turn_at ages us) 0 0 0 us (λ j few. turns_from j) (λ j none. absurd (omega (arith, none))) (omega arith) k (omega (arith, there))
  where
    turns_from : (j : ℕ) → turn_at ages us (0 + j) ≡ turn_of (get_or us j blank) (get_or ages (0 + j) 0)
    turns_from j = let same : 0 + j ≡ j = omega arith in ap (λ (n : ℕ). turn_of (get_or us n blank) (get_or ages (0 + j) 0)) same

-- ---- what makes room

few_at : (ages : List ℕ) (k : ℕ) → All (λ age. age ≤ 3) ages → get_or ages k 0 ≤ 3
few_at [] k few = omega arith
few_at (age ∷ ages) zero few = few 0 0 (omega arith)
few_at (age ∷ ages) (suc k) few = few_at ages k (λ j d there. few (suc j) d (omega (arith, there)))

-- the turn of an unfinished call is its age, and that of any other place is greater than 3
turn_unfinished : (u : Unfinished) (age : ℕ) → is_unfinished u ≡ true → turn_of u age ≡ age
turn_unfinished u age e = rw e refl

turn_few : (u : Unfinished) (age : ℕ) → turn_of u age ≤ 3 → is_unfinished u ≡ true
turn_few u age few = by (is_unfinished u) (is_live u) few
  where
    by : (a b : Bool) → (if a then age else if b then age + 4 else age + 8) ≤ 3 → a ≡ true
    by true b less = refl
    by false true less = absurd (omega (arith, less))
    by false false less = absurd (omega (arith, less))

none_of : (h : Head) (us : List Unfinished) → list_any (is_of h) us ≡ false → (k : ℕ) → k < length us → is_of h (get_or us k blank) ≡ false
none_of h us e k there = by (is_of h (get_or us k blank)) refl
  where
    by : (b : Bool) → is_of h (get_or us k blank) ≡ b → b ≡ false
    by true f = let some = list_any_at (is_of h) us k blank there f in absurd cc
    by false f = refl

module _ (state : State) (h : Head) (few : All (λ age. age ≤ 3) state.ages) (none : list_any (is_of h) state.calls ≡ false)
    (chosen : is_unfinished (get_or state.calls (place_of h state.ages state.calls) blank) ≡ true) where
  abbrev place : ℕ
  place = place_of h state.ages state.calls

  is_oldest : oldest state.ages state.calls ≡ place
  is_oldest = not_found h state.ages state.calls (none_of h state.calls none)

  turn_is : turn_at state.ages state.calls (oldest state.ages state.calls) ≡ get_or state.ages place 0
  turn_is = ap (turn_at state.ages state.calls) is_oldest ∙ turn_unfinished (get_or state.calls place blank) (get_or state.ages place 0) chosen

  most : (k : ℕ) → k < length state.calls → turn_at state.ages state.calls k ≤ get_or state.ages place 0
  most k there = let one = oldest_greatest state.ages state.calls k there in omega (arith, one, turn_is)

  unfinished_at : (k : ℕ) → k < length state.calls → is_unfinished (get_or state.calls k blank) ≡ true
  unfinished_at k there =
      let one = most k there in
      let less = few_at state.ages place few in
      turn_few (get_or state.calls k blank) (get_or state.ages k 0) (omega (arith, one, less))

same_default : {A : Type 0} (us : List A) (k : ℕ) (d e : A) → k < length us → get_or us k d ≡ get_or us k e
same_default [] k d e there = absurd (omega (arith, there))
same_default (u ∷ us) zero d e there = refl
same_default (u ∷ us) (suc k) d e there = same_default us k d e (omega (arith, there))

pub finished : (state : State) (h : Head) → All (λ age. age ≤ 3) state.ages → list_any (is_of h) state.calls ≡ false
    → is_unfinished (get_or state.calls (place_of h state.ages state.calls) blank) ≡ true → All (λ u. is_unfinished u ≡ true) state.calls
finished state h few none chosen k d there =
    ap is_unfinished (same_default state.calls k d blank there) ∙ unfinished_at state h few none chosen k there

pub order : (state : State) (h : Head) (at : ℕ) → All (λ age. age ≤ 3) state.ages → list_any (is_of h) state.calls ≡ false
    → is_unfinished (get_or state.calls (place_of h state.ages state.calls) blank) ≡ true → at < length state.calls
    → get_or state.ages at 0 ≤ get_or state.ages (place_of h state.ages state.calls) 0
order state h at few none chosen there =
    let one = most state h few none chosen at there in
    let is = turn_unfinished (get_or state.calls at blank) (get_or state.ages at 0) (unfinished_at state h few none chosen at there) in
    omega (arith, one, is)

-- ---- what begins

begins_so : (state : State) (p : Piece) → starts (at_place state p) p ≡ true → (after_piece state (Some p)).ages ≡ begun_at (place_in state p) state.ages
begins_so state p e = rw e refl

pub youngest : (state : State) (p : Piece) → starts (at_place state p) p ≡ true → place_in state p < length state.ages
    → get_or (after_piece state (Some p)).ages (place_in state p) 0 ≡ 0
youngest state p e there =
    let place = place_in state p in
    let passed = map (older_than (get_or state.ages place 0)) state.ages in
    let long : length passed ≡ length state.ages = length-map state.ages (older_than (get_or state.ages place 0)) in
    ap (λ (xs : List ℕ). get_or xs place 0) (begins_so state p e) ∙ get_or-set_same passed place 0 0 (omega (arith, long, there))

pub others : (state : State) (p : Piece) (at : ℕ) → starts (at_place state p) p ≡ true → at ≢ place_in state p → at < length state.ages
    → get_or (after_piece state (Some p)).ages at 0 ≡ older_than (get_or state.ages (place_in state p) 0) (get_or state.ages at 0)
others state p at e other there =
    let place = place_in state p in
    let passed = map (older_than (get_or state.ages place 0)) state.ages in
    ap (λ (xs : List ℕ). get_or xs at 0) (begins_so state p e) ∙ get_or-set_other passed place at 0 0 other ∙ get_or-map (older_than (get_or state.ages place 0)) state.ages at 0 0 there
