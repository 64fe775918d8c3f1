-- The contents of the cache and their slots.
use Rattle.std.proofs.Common.{◌≡◌, ◌≢◌, ℕ, zero, suc, ◌+◌, ◌-◌, ◌<◌, ◌≤◌, true, false, List, [], ◌∷◌, length, take, get_or, set, Option, Some, None, refl, sym, ap, subst, ◌∙◌, arith}
use Rattle.std.specs.Prelude.{IfSome, IfNone}
use Rattle.std.specs.List.{remove, insert}
use Rattle.std.proofs.lemmas.List.{get_or-set_same, get_or-set_other, length-map, take_all, take-map}
use Rattle.rpc_core.specs.declared.cache.Slot.{Slot}
use Rattle.rpc_core.specs.Cache.{Kept, is_of, kept_of, without}
use Rattle.rpc_core.specs.Slots.{blank, kept_in, kept_at, shown, IsFree, IsTidy}

-- ---- indices without duplicates

free_removed : (place : ℕ) (order : List ℕ) (p : ℕ) → IsFree place order → IsFree place (remove order p)
free_removed place [] zero free = tt
free_removed place [] (suc p) free = tt
free_removed place (other ∷ others) zero free = free.1
free_removed place (other ∷ others) (suc p) free = (free.0, free_removed place others p free.1)

apart : (place : ℕ) (order : List ℕ) (p : ℕ) → p < length order → IsFree place order → get_or order p 0 ≢ place
apart place [] p below free = absurd (omega (arith, below))
apart place (other ∷ others) zero below free = λ e. free.0 (sym e)
apart place (other ∷ others) (suc p) below free = apart place others p (omega (arith, below)) free.1

wider : (bound more : ℕ) (order : List ℕ) → bound ≤ more → IsTidy bound order → IsTidy more order
wider bound more [] le tidy = tt
wider bound more (place ∷ places) le tidy = (omega (arith, tidy.0), tidy.1, wider bound more places le tidy.2)

-- what is removed is free, and the rest has no duplicates
pub updated : (bound : ℕ) (order : List ℕ) (p : ℕ) → p < length order → IsTidy bound order → IsTidy bound (get_or order p 0 ∷ remove order p)
updated bound [] p below tidy = absurd (omega (arith, below))
updated bound (place ∷ places) zero below tidy = tidy
updated bound (place ∷ places) (suc p) below tidy =
    let rest = updated bound places p (omega (arith, below)) tidy.2 in
    (rest.0, (apart place places p (omega (arith, below)) tidy.1, rest.1), (tidy.0, free_removed place places p tidy.1, rest.2))

-- an index at the bound is free
free_above : (bound : ℕ) (order : List ℕ) → IsTidy bound order → IsFree bound order
free_above bound [] tidy = tt
free_above bound (place ∷ places) tidy = (λ e. omega (arith, tidy.0, e), free_above bound places tidy.2)

pub one_more : (bound : ℕ) (order : List ℕ) → IsTidy bound order → IsTidy (bound + 1) (bound ∷ order)
one_more bound order tidy = (omega arith, free_above bound order tidy, wider bound (bound + 1) order (omega arith) tidy)

pub removed_length : (order : List ℕ) (p : ℕ) → p < length order → length (remove order p) + 1 ≡ length order
removed_length [] p below = absurd (omega (arith, below))
removed_length (place ∷ places) zero below = omega arith
removed_length (place ∷ places) (suc p) below = omega (arith, removed_length places p (omega (arith, below)))

-- each index in the order is below the bound
pub tidy_below : (bound : ℕ) (order : List ℕ) (k : ℕ) → k < length order → IsTidy bound order → get_or order k 0 < bound
tidy_below bound [] k below tidy = absurd (omega (arith, below))
tidy_below bound (place ∷ places) zero below tidy = tidy.0
tidy_below bound (place ∷ places) (suc k) below tidy = tidy_below bound places k (omega (arith, below)) tidy.2

-- ---- the responses in the slots

-- writing another slot does not change the responses in these slots
pub shown_after : (slots : List Slot) (place : ℕ) (slot : Slot) (order : List ℕ) → IsFree place order → shown (set slots place slot) order ≡ shown slots order
shown_after slots place slot [] free = refl
shown_after slots place slot (other ∷ others) free =
    let same : get_or (set slots place slot) other blank ≡ get_or slots other blank = get_or-set_other slots place other slot blank (λ e. free.0 (sym e)) in
    ap (λ (s : Slot). kept_in s ∷ shown (set slots place slot) others) same ∙ ap (λ (ks : List Kept). kept_at slots other ∷ ks) (shown_after slots place slot others free.1)

module _ (activity : List ℕ) (slots : List Slot) where
  -- the first response of an activity is removed
  pub without_at : (order : List ℕ) (p : ℕ) → p < length order → ((k : ℕ) → k < p → is_of activity (kept_at slots (get_or order k 0)) ≡ false)
      → is_of activity (kept_at slots (get_or order p 0)) ≡ true → without activity (shown slots order) ≡ shown slots (remove order p)
  without_at [] p below before there = absurd (omega (arith, below))
  without_at (place ∷ places) zero below before there = rw there refl
  without_at (place ∷ places) (suc p) below before there =
      rw (before 0 (omega arith)) (ap (λ (ks : List Kept). kept_at slots place ∷ ks) (without_at places p (omega (arith, below)) (λ k less. before (suc k) (omega (arith, less))) there))

  -- there is no response of an activity
  pub without_none : (order : List ℕ) → ((k : ℕ) → k < length order → is_of activity (kept_at slots (get_or order k 0)) ≡ false) → without activity (shown slots order) ≡ shown slots order
  without_none [] none = refl
  without_none (place ∷ places) none =
      rw (none 0 (omega arith)) (ap (λ (ks : List Kept). kept_at slots place ∷ ks) (without_none places (λ k less. none (suc k) (omega (arith, less)))))

-- the responses that stay, if one of the activity was found and if none was
pub found_stays : (most : ℕ) (activity : List ℕ) (slots : List Slot) (order : List ℕ) (p : ℕ) → length order ≤ most → p < length order
    → ((k : ℕ) → k < p → is_of activity (kept_at slots (get_or order k 0)) ≡ false) → is_of activity (kept_at slots (get_or order p 0)) ≡ true
    → shown slots (remove order p) ≡ take (most - 1) (without activity (shown slots order))
found_stays most activity slots order p room below before there =
    let gone = without_at activity slots order p below before there in
    let long : length (shown slots (remove order p)) ≤ most - 1 = omega (arith, length-map (remove order p) (kept_at slots), removed_length order p below, room) in
    sym (ap (λ (ks : List Kept). take (most - 1) ks) gone ∙ take_all (most - 1) (shown slots (remove order p)) long)

pub none_stays : (most : ℕ) (activity : List ℕ) (slots : List Slot) (order : List ℕ)
    → ((k : ℕ) → k < length order → is_of activity (kept_at slots (get_or order k 0)) ≡ false)
    → shown slots (take (most - 1) order) ≡ take (most - 1) (without activity (shown slots order))
none_stays most activity slots order none =
    sym (ap (λ (ks : List Kept). take (most - 1) ks) (without_none activity slots order none) ∙ take-map (kept_at slots) (most - 1) order)

-- a response is written into a free slot, which becomes the newest
pub written : (slots : List Slot) (place : ℕ) (slot : Slot) (order : List ℕ) (kept : Kept) (stays : List Kept) → place < length slots → kept_in slot ≡ kept → IsFree place order
    → shown slots order ≡ stays → shown (set slots place slot) (place ∷ order) ≡ kept ∷ stays
written slots place slot order kept stays below is free same =
    ap (λ (s : Slot). kept_in s ∷ shown (set slots place slot) order) (get_or-set_same slots place slot blank below)
    ∙ ap (λ (k : Kept). k ∷ shown (set slots place slot) order) is
    ∙ ap (λ (ks : List Kept). kept ∷ ks) (shown_after slots place slot order free ∙ same)

-- ---- what the code does

-- a slot is removed from the order
pub taken : (bound : ℕ) (order after : List ℕ) (p place : ℕ) → p < length order → IsTidy bound order → after ≡ remove order p → place ≡ get_or order p 0
    → length after + 1 ≡ bound → IsTidy (length after + 1) (place ∷ after)
taken bound order after p place below tidy rest is long =
    let all : IsTidy bound (place ∷ after) = rw (rest, is) (updated bound order p below tidy) in
    subst (λ (b : ℕ). IsTidy b (place ∷ after)) (sym long) all

-- each index in the order is that of a slot
pub places_below : (most : ℕ) (slots : List Slot) (order seen : List ℕ) → seen ≡ order → length slots ≡ most → length order ≤ most → IsTidy (length order) order
    → (k : ℕ) → k < length seen → get_or seen k 0 < length slots
places_below most slots order seen same size room tidy k below =
    let inside : k < length order = subst (λ (xs : List ℕ). k < length xs) same below in
    subst (λ (xs : List ℕ). get_or xs k 0 < length slots) (sym same) (omega (arith, tidy_below (length order) order k inside tidy, size, room))

-- the responses that stay
pub stays : (most : ℕ) (activity : List ℕ) (slots : List Slot) (order after : List ℕ) (place : Option ℕ) → length order ≤ most
    → IfSome place (λ p. (k : ℕ) → k < p → is_of activity (kept_at slots (get_or order k 0)) ≡ false) → IfSome place (λ p. p < length order)
    → IfSome place (λ p. is_of activity (kept_at slots (get_or order p 0)) ≡ true)
    → IfNone place ((k : ℕ) → k < length order → is_of activity (kept_at slots (get_or order k 0)) ≡ false)
    → IfSome place (λ p. after ≡ remove order p) → IfNone place (after ≡ take (most - 1) order)
    → shown slots after ≡ take (most - 1) (without activity (shown slots order))
stays most activity slots order after (Some p) room before below there none found other =
    ap (λ (xs : List ℕ). shown slots xs) found ∙ found_stays most activity slots order p room below before there
stays most activity slots order after None room before below there none found other =
    ap (λ (xs : List ℕ). shown slots xs) other ∙ none_stays most activity slots order none

pub insert_first : (place : ℕ) (order : List ℕ) → insert order 0 place ≡ place ∷ order
insert_first place [] = refl
insert_first place (other ∷ others) = refl

-- ---- what is found

kept_of_at : (activity : List ℕ) (slots : List Slot) (order : List ℕ) (p : ℕ) → p < length order → ((k : ℕ) → k < p → is_of activity (kept_at slots (get_or order k 0)) ≡ false)
    → is_of activity (kept_at slots (get_or order p 0)) ≡ true → kept_of activity (shown slots order) ≡ Some (kept_at slots (get_or order p 0))
kept_of_at activity slots [] p below before there = absurd (omega (arith, below))
kept_of_at activity slots (place ∷ places) zero below before there = rw there refl
kept_of_at activity slots (place ∷ places) (suc p) below before there =
    rw (before 0 (omega arith)) (kept_of_at activity slots places p (omega (arith, below)) (λ k less. before (suc k) (omega (arith, less))) there)

kept_of_none : (activity : List ℕ) (slots : List Slot) (order : List ℕ) → ((k : ℕ) → k < length order → is_of activity (kept_at slots (get_or order k 0)) ≡ false)
    → kept_of activity (shown slots order) ≡ None
kept_of_none activity slots [] none = refl
kept_of_none activity slots (place ∷ places) none =
    rw (none 0 (omega arith)) (kept_of_none activity slots places (λ k less. none (suc k) (omega (arith, less))))

-- no response is found
pub look_none : (activity octets : List ℕ) (slots : List Slot) (order seen : List ℕ) (cache : List Kept) → octets ≡ activity → seen ≡ order → shown slots order ≡ cache
    → ((k : ℕ) → k < length seen → is_of octets (kept_at slots (get_or seen k 0)) ≡ false) → kept_of activity cache ≡ None
look_none activity octets slots order seen cache same all is none =
    subst (λ (a : List ℕ). kept_of a cache ≡ None) same (subst (λ (ks : List Kept). kept_of octets ks ≡ None) (ap (λ (xs : List ℕ). shown slots xs) all ∙ is)
    (kept_of_none octets slots seen none))

-- a response is found, in this slot
pub look_some : (activity octets : List ℕ) (slots : List Slot) (order seen : List ℕ) (cache : List Kept) (p : ℕ) (slot : Slot) → octets ≡ activity → seen ≡ order
    → shown slots order ≡ cache → p < length seen → ((k : ℕ) → k < p → is_of octets (kept_at slots (get_or seen k 0)) ≡ false)
    → is_of octets (kept_at slots (get_or seen p 0)) ≡ true → get_or slots (get_or seen p 0) blank ≡ slot → kept_of activity cache ≡ Some (kept_in slot)
look_some activity octets slots order seen cache p slot same all is below before there read =
    subst (λ (a : List ℕ). kept_of a cache ≡ Some (kept_in slot)) same (subst (λ (ks : List Kept). kept_of octets ks ≡ Some (kept_in slot)) (ap (λ (xs : List ℕ). shown slots xs) all ∙ is)
    (kept_of_at octets slots seen p below before there ∙ ap (λ (s : Slot). Some (kept_in s)) read))

-- the default value does not matter for an index that exists
any_default : (slots : List Slot) (place : ℕ) (one other : Slot) → place < length slots → get_or slots place one ≡ get_or slots place other
any_default [] place one other below = absurd (omega (arith, below))
any_default (slot ∷ slots) zero one other below = refl
any_default (slot ∷ slots) (suc place) one other below = any_default slots place one other (omega (arith, below))

-- a response is found, in the slot that is read
pub look_read : (most : ℕ) (activity octets : List ℕ) (slots : List Slot) (order seen again_seen : List ℕ) (cache : List Kept) (p : ℕ) (default : Slot) → octets ≡ activity
    → seen ≡ order → again_seen ≡ order → shown slots order ≡ cache → length slots ≡ most → length order ≤ most → IsTidy (length order) order → p < length seen
    → ((k : ℕ) → k < p → is_of octets (kept_at slots (get_or seen k 0)) ≡ false) → is_of octets (kept_at slots (get_or seen p 0)) ≡ true
    → kept_of activity cache ≡ Some (kept_in (get_or slots (get_or again_seen p 0) default))
look_read most activity octets slots order seen again_seen cache p default same all once_more is size room tidy below before there =
    let place : get_or seen p 0 ≡ get_or again_seen p 0 = ap (λ (xs : List ℕ). get_or xs p 0) (all ∙ sym once_more) in
    look_some activity octets slots order seen cache p (get_or slots (get_or again_seen p 0) default) same all is below before there
    (any_default slots (get_or seen p 0) blank default (places_below most slots order seen all size room tidy p below) ∙ ap (λ (n : ℕ). get_or slots n default) place)

-- a response is stored
pub kept_written : (slots : List Slot) (place : ℕ) (slot : Slot) (order after : List ℕ) (kept : Kept) (others : List Kept) → place < length slots → kept_in slot ≡ kept
    → IsFree place order → shown slots order ≡ others → after ≡ insert order 0 place → shown (set slots place slot) after ≡ kept ∷ others
kept_written slots place slot order after kept others below is free same all =
    ap (λ (xs : List ℕ). shown (set slots place slot) xs) (all ∙ insert_first place order) ∙ written slots place slot order kept others below is free same
