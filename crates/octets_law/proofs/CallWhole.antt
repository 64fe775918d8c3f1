-- Octets that are a whole call are read as one.
use Rattle.std.proofs.Common.{◌≡◌, ◌≤◌, ◌==◌, ◌&&◌, ◌+◌, ◌/◌, ◌%◌, ℕ, zero, suc, Bool, true, List, [], ◌∷◌, ◌++◌, length, take, drop, Option, Some, None, Ok, nat_eq, nat_le, nat_lt, if◌then◌else◌, refl, sym, ap, subst, ◌∙◌, arith, length-drop}
use Rattle.std.proofs.lemmas.List.{length-take-le}
use Rattle.std.proofs.lemmas.Bool.{and_parts, cond_both, cond-true, cond-false}
use Rattle.std.proofs.lemmas.Bool.Decides.{nat_tests}
use Rattle.byteorder.specs.Endian.{big_number, little_number}
use Rattle.byteorder.specs.Numbers.{big_from-take, little_from-take}
use Rattle.rpc_core.specs.Body.{body, counts}
use Rattle.rpc_core.specs.Fields.{any, one, ordered, uuid}
use Rattle.rpc_core.specs.declared.interface.Interface.TheVariants.{Device}
use Rattle.rpc_core.specs.Call.{Asked as Called, IsCall, call, call_of}
use Rattle.rpc_core.specs.Header.{extent, head, names, opening, order_of, turn}
use Rattle.rpc_core.specs.Interface.{interface_uuid}
use Rattle.rpc_core.specs.Pdu.{cut_off, pdu}
use Rattle.rpc_core.proofs.Sound.{call_again}
use Rattle.std.specs.Cmp.Lexicographic.{pointwise}
use Rattle.octets_law.specs.Octets.{args_of, in_order, number}
use Rattle.octets_law.specs.Owed.{identifier, is_whole_call}
use Rattle.octets_law.proofs.CallReads.{name_in, value_in}
use Rattle.octets_law.proofs.CallPlaces.{IsCallRead, call_placed}

pub below : (n m : ℕ) → nat_le n m ≡ true → n ≤ m
below n m is = grind (arith, nat_tests)

-- ---- fields, cut out

pub split : (n : ℕ) (l : List ℕ) → l ≡ take n l ++ drop n l
split zero l = refl
split (suc n) [] = refl
split (suc n) (x ∷ l) = ap (λ k. x ∷ k) (split n l)

none_left : (n : ℕ) → ◌≡◌ {A = List ℕ} (drop n []) []
none_left zero = refl
none_left (suc n) = refl

pub further : (o w k : ℕ) (l : List ℕ) → o + w ≡ k → drop w (drop o l) ≡ drop k l
further zero w k l e = ap (λ n. drop n l) (sym (omega arith) ∙ e)
further (suc o) w k [] e = none_left w ∙ sym (none_left k)
further (suc o) w k (x ∷ l) e =
    let on : suc (o + w) ≡ k = omega (arith, e) in
    further o w (o + w) l refl ∙ ap (λ n. drop n (x ∷ l)) on

-- n octets at a place, before those that follow them.
pub record IsCut (bytes : List ℕ) (o w k : ℕ) : Type 0 where
  pub wide : length (take w (drop o bytes)) ≡ w
  pub is : drop o bytes ≡ take w (drop o bytes) ++ drop k bytes

pub cut : (bytes : List ℕ) (o w k : ℕ) → o + w ≡ k → k ≤ length bytes → IsCut bytes o w k
cut bytes o w k e few = record {
  wide = length-take-le w (drop o bytes) (omega (arith, e, few, length-drop o bytes));
  is = split w (drop o bytes) ∙ ap (λ l. take w (drop o bytes) ++ l) (further o w k bytes e);
}

-- A number is that of the octets which it counts.
pub big_taken : (n : ℕ) (l : List ℕ) → big_number n (take n l) ≡ big_number n l
big_taken n l = big_from-take 0 n n l (omega arith)

little_taken : (n : ℕ) (l : List ℕ) → little_number n (take n l) ≡ little_number n l
little_taken n l = little_from-take 0 n n l (omega arith)

pub value_taken : (representation size : ℕ) (l : List ℕ) → value_in representation size (take size l) ≡ value_in representation size l
value_taken representation size l =
    ap (λ n. if representation / 16 == 1 then n else big_number size (take size l)) (little_taken size l)
    ∙ ap (λ n. if representation / 16 == 1 then little_number size l else n) (big_taken size l)

-- n octets at a place, of those before another place.
pub window : (o w n : ℕ) (l : List ℕ) → o + w ≤ n → take w (drop o (take n l)) ≡ take w (drop o l)
window zero zero n l few = refl
window zero (suc w) zero l few = absurd (omega (arith, few))
window zero (suc w) (suc n) [] few = refl
window zero (suc w) (suc n) (x ∷ l) few = ap (λ k. x ∷ k) (window zero w n l (omega (arith, few)))
window (suc o) w zero l few = absurd (omega (arith, few))
window (suc o) w (suc n) [] few = refl
window (suc o) w (suc n) (x ∷ l) few = window o w n l (omega (arith, few))

value_window : (representation size o n : ℕ) (l : List ℕ) → o + size ≤ n → value_in representation size (drop o (take n l)) ≡ value_in representation size (drop o l)
value_window representation size o n l few =
    sym (value_taken representation size (drop o (take n l))) ∙ ap (value_in representation size) (window o size n l few) ∙ value_taken representation size (drop o l)

-- ---- fields at their places, spelled

module _ (l : List ℕ) (r : ℕ) where
  field_at : (o w k : ℕ) → o + w ≡ k → k ≤ length l → (ordered (order_of r) w).Spells (drop o l) (value_in r w (drop o l)) (drop k l)
  unfolding ordered
  field_at o w k on few =
      let here = cut l o w k on few in
      cond_both (r / 16 == 1) _ _ (λ order. (ordered order w).Spells (drop o l) (value_in r w (drop o l)) (drop k l))
      (λ little. (take w (drop o l), here.wide, here.is, cond-true _ _ _ little ∙ sym (little_taken w (drop o l))))
      (λ big. (take w (drop o l), here.wide, here.is, cond-false _ _ _ big ∙ sym (big_taken w (drop o l))))

  name_at : (o k : ℕ) → o + 16 ≡ k → k ≤ length l → (uuid (order_of r)).Spells (drop o l) (name_in r (take 16 (drop o l))) (drop k l)
  unfolding uuid
  name_at o k on few =
      let here = cut l o 16 k on few in
      cond_both (r / 16 == 1) _ _ (λ order. (uuid order).Spells (drop o l) (name_in r (take 16 (drop o l))) (drop k l))
      (λ little. (take 16 (drop o l), sym (cond-true _ _ _ little), (here.wide, here.is)))
      (λ big. subst (λ v. (length v ≡ 16) × (drop o l ≡ v ++ drop k l)) (sym (cond-false _ _ _ big)) (here.wide, here.is))

  one_at : (o k : ℕ) → o + 1 ≡ k → k ≤ length l → one.Spells (drop o l) (number o 1 l) (drop k l)
  one_at o k on few = let here = cut l o 1 k on few in (take 1 (drop o l), here.wide, here.is, sym (big_taken 1 (drop o l)))

  any_at : (written : List ℕ) (o w k : ℕ) → o + w ≡ k → k ≤ length l → (any w written).Spells (drop o l) tt (drop k l)
  any_at written o w k on few = let here = cut l o w k on few in (take w (drop o l), refl, (here.wide, here.is))

-- ---- the body

-- Its blocks, if their counts are right.
abbrev blocks_at : ℕ → List ℕ → Option (List ℕ)
blocks_at r l =
    if (value_in r 4 (drop 12 l) == 0) && (value_in r 4 (drop 4 l) == value_in r 4 (drop 16 l)) && nat_le (value_in r 4 (drop 4 l)) (length (drop 20 l))
    then Some (take (value_in r 4 (drop 4 l)) (drop 20 l)) else None

body_spelled : (r : ℕ) (l : List ℕ) → 20 ≤ length l
    → (body (ordered (order_of r) 4) (order_of r)).Spells l (value_in r 4 l, record { maximum = value_in r 4 (drop 8 l); blocks = blocks_at r l })
unfolding body counts
body_spelled r l few =
    let at = λ (o k : ℕ) (on : o + 4 ≡ k) (inside : k ≤ 20). field_at l r o 4 k on (omega (arith, few, inside)) in (
      ((value_in r 4 l, _), drop 20 l),
      refl,
      (
        drop 20 l,
        (
          drop 4 l,
          at 0 4 refl (omega arith),
          (
            (value_in r 4 (drop 4 l), (value_in r 4 (drop 8 l), (value_in r 4 (drop 12 l), value_in r 4 (drop 16 l)))),
            refl,
            (drop 8 l, at 4 8 refl (omega arith), (drop 12 l, at 8 12 refl (omega arith), (drop 16 l, at 12 16 refl (omega arith), at 16 20 refl (omega arith)))),
          ),
        ),
        refl,
      ),
    )

-- ---- a call

-- What is known of octets that are a whole call.
pub record IsWholeCall (l : List ℕ) : Type 0 where
  pub call : Called
  pub read : call_of Device l ≡ Ok call
  pub placed : IsCallRead l call
  pub blocks : call.blocks ≡ Some (args_of l)
  pub activity : call.header.activity ≡ identifier 40 l
  pub sequence : call.header.sequence ≡ in_order 64 4 l

-- The tests of a whole call, one by one.
record Tests (l : List ℕ) : Type 0 where
  version : (number 0 1 l == 4) ≡ true
  kind : (number 1 1 l == 0) ≡ true
  flag : (number 2 1 l / 4 % 2 == 0) ≡ true
  order : nat_lt (number 4 1 l / 16) 2 ≡ true
  server : pointwise nat_eq (identifier 24 l) (interface_uuid Device) ≡ true
  fragment : (in_order 76 2 l == 0) ≡ true
  authentication : (number 78 1 l == 0) ≡ true
  long : nat_le (80 + in_order 74 2 l) (length l) ≡ true
  sized : nat_le (20 + in_order 84 4 l) (in_order 74 2 l) ≡ true
  offset : (in_order 92 4 l == 0) ≡ true
  counted : (in_order 84 4 l == in_order 96 4 l) ≡ true

tests_of : (l : List ℕ) → is_whole_call l ≡ true → Tests l
tests_of l whole =
    let a = and_parts _ _ whole in
    let b = and_parts _ _ a.0 in
    let c = and_parts _ _ b.0 in
    let d = and_parts _ _ c.0 in
    let e = and_parts _ _ d.0 in
    let f = and_parts _ _ e.0 in
    let g = and_parts _ _ f.0 in
    let h = and_parts _ _ g.0 in
    let i = and_parts _ _ h.0 in
    let j = and_parts _ _ i.0 in
    record { version = j.0; kind = j.1; flag = i.1; order = h.1; server = g.1; fragment = f.1; authentication = e.1; long = d.1; sized = c.1; offset = b.1; counted = a.1 }

pub both : (a b : Bool) → a ≡ true → b ≡ true → (a && b) ≡ true
both a b one other = rw (one, other) refl

pub fits : (n m : ℕ) → n ≤ m → nat_le n m ≡ true
fits n m few = grind (arith, nat_tests, few)

-- Octets that pass them are a call with its blocks.
pub call_whole : (l : List ℕ) → is_whole_call l ≡ true → IsWholeCall l
unfolding IsCall call pdu cut_off head opening names turn extent
call_whole l whole =
    let t = tests_of l whole in
    let r : ℕ = number 4 1 l in
    let size : ℕ = in_order 74 2 l in
    let inside : List ℕ = take size (drop 80 l) in
    let long : 80 + size ≤ length l = below _ _ t.long in
    let least : 20 + in_order 84 4 l ≤ size = below _ _ t.sized in
    let wide : length inside ≡ size = length-take-le size (drop 80 l) (omega (arith, long, length-drop 80 l)) in
    let few : (k : ℕ) → k ≤ 80 → k ≤ length l = λ k small. omega (arith, long, small) in
    let one = λ (o k : ℕ) (on : o + 1 ≡ k) (small : k ≤ 80). one_at l r o k on (few k small) in
    let name = λ (o k : ℕ) (on : o + 16 ≡ k) (small : k ≤ 80). name_at l r o k on (few k small) in
    let field = λ (o w k : ℕ) (on : o + w ≡ k) (small : k ≤ 80). field_at l r o w k on (few k small) in
    let skipped = λ (written : List ℕ) (o w k : ℕ) (on : o + w ≡ k) (small : k ≤ 80). any_at l r written o w k on (few k small) in
    let opens : opening.Spells l (record { version = number 0 1 l; packet_type = number 1 1 l; flags = number 2 1 l; representation = number 4 1 l }) (drop 8 l) = (
      (number 0 1 l, (number 1 1 l, (number 2 1 l, (tt, (number 4 1 l, tt))))),
      refl,
      (
        drop 1 l,
        one 0 1 refl (omega arith),
        (
          drop 2 l,
          one 1 2 refl (omega arith),
          (
            drop 3 l,
            one 2 3 refl (omega arith),
            (
              drop 4 l,
              skipped (0 ∷ []) 3 1 4 refl (omega arith),
              (drop 5 l, one 4 5 refl (omega arith), skipped (0 ∷ 0 ∷ 0 ∷ []) 5 3 8 refl (omega arith)),
            ),
          ),
        ),
      ),
    ) in
    let named : (names (order_of r)).Spells (drop 8 l) (record { object = name_in r (take 16 (drop 8 l)); interface = name_in r (take 16 (drop 24 l)); activity = name_in r (take 16 (drop 40 l)) }) (drop 56 l) =
    ((_, (_, _)), refl, (drop 24 l, name 8 24 refl (omega arith), (drop 40 l, name 24 40 refl (omega arith), name 40 56 refl (omega arith)))) in
    let turns : (turn (order_of r)).Spells (drop 56 l) (record { sequence = value_in r 4 (drop 64 l); operation = value_in r 2 (drop 68 l) }) (drop 70 l) =
    ((tt, (_, _)), refl, (drop 64 l, skipped (0 ∷ 0 ∷ 0 ∷ 0 ∷ 0 ∷ 0 ∷ 0 ∷ 1 ∷ []) 56 8 64 refl (omega arith), (drop 68 l, field 64 4 68 refl (omega arith), field 68 2 70 refl (omega arith)))) in
    let ends : (extent (order_of r)).Spells (drop 70 l) (record { length = size; fragment = in_order 76 2 l; authentication = number 78 1 l }) (drop 80 l) = (
      (tt, (size, (in_order 76 2 l, (number 78 1 l, tt)))),
      refl,
      (
        drop 74 l,
        skipped (255 ∷ 255 ∷ 255 ∷ 255 ∷ []) 70 4 74 refl (omega arith),
        (
          drop 76 l,
          field 74 2 76 refl (omega arith),
          (drop 78 l, field 76 2 78 refl (omega arith), (drop 79 l, one 78 79 refl (omega arith), skipped (0 ∷ []) 79 1 80 refl (omega arith))),
        ),
      ),
    ) in
    let headed : head.Spells l (record {
      opening = record { version = number 0 1 l; packet_type = number 1 1 l; flags = number 2 1 l; representation = number 4 1 l };
      names = record { object = name_in r (take 16 (drop 8 l)); interface = name_in r (take 16 (drop 24 l)); activity = name_in r (take 16 (drop 40 l)) };
      turn = record { sequence = value_in r 4 (drop 64 l); operation = value_in r 2 (drop 68 l) };
      extent = record { length = size; fragment = in_order 76 2 l; authentication = number 78 1 l };
    }) (drop 80 l) = ((_, (_, (_, _))), refl, (drop 8 l, opens, (drop 56 l, named, (drop 70 l, turns, ends)))) in
    let apart : drop 80 l ≡ inside ++ drop size (drop 80 l) = split size (drop 80 l) in
    let carried = body_spelled r inside (omega (arith, wide, least)) in
    let spells : IsCall Device l _ = (
      drop size (drop 80 l),
      (
        _,
        refl,
        (
          inside,
          (
            t.server,
            (
              both _ _ t.flag t.fragment,
              (
                t.order,
                (
                  both _ _ (both _ _ t.version t.kind) t.authentication,
                  (drop 80 l, (fits 20 size (omega (arith, least)), headed), (wide, apart)),
                ),
              ),
            ),
          ),
          carried,
        ),
      ),
    ) in
    let placed = call_placed Device l _ spells in
    let at = λ (o k : ℕ) (on : 80 + o ≡ k) (inner : o + 4 ≤ 20). value_window r 4 o size (drop 80 l) (omega (arith, inner, least)) ∙ ap (value_in r 4) (further 80 o k l on) in
    let offset : (value_in r 4 (drop 12 inside) == 0) ≡ true = ap (λ n. n == 0) (at 12 92 refl (omega arith)) ∙ t.offset in
    let counted : (value_in r 4 (drop 4 inside) == value_in r 4 (drop 16 inside)) ≡ true =
    ap (λ n. n == value_in r 4 (drop 16 inside)) (at 4 84 refl (omega arith)) ∙ ap (λ n. in_order 84 4 l == n) (at 16 96 refl (omega arith)) ∙ t.counted in
    let there : nat_le (value_in r 4 (drop 4 inside)) (length (drop 20 inside)) ≡ true =
    fits _ _ (omega (arith, at 4 84 refl (omega arith), least, wide, length-drop 20 inside)) in
    let given : blocks_at r inside ≡ Some (take (value_in r 4 (drop 4 inside)) (drop 20 inside)) = cond-true _ _ _ (both _ _ (both _ _ offset counted) there) in
    record {
      call = _;
      read = call_again Device l _ spells;
      placed = placed;
      activity = refl;
      sequence = refl;
      blocks = given ∙ ap Some (sym (placed.blocks (take (value_in r 4 (drop 4 inside)) (drop 20 inside)) given));
    }
