-- Whether no two entries name the same slot.
use Rattle.std.proofs.Common.{if◌then◌else◌, ◌≡◌, ◌==◌, ◌&&◌, ◌+◌, ◌≤◌, ℕ, suc, refl, ap, Bool, true, false, List, [], ◌∷◌, arith}
use Rattle.std.specs.List.{list_all}
use Rattle.std.proofs.lemmas.Bool.Decides.{nat_tests}
use Rattle.catalogue.specs.Slots.{Slot}
use Rattle.configurator.specs.Allowed.{are_once, uses_of}

is_itself : (n : ℕ) → (n == n) ≡ true
is_itself n = grind (arith, nat_tests)

-- the first entry of a list names its slot
first_use : (entry : Slot) (entries : List Slot) → uses_of entry.slot (entry ∷ entries) ≡ suc (uses_of entry.slot entries)
first_use entry entries = ap (λ (b : Bool). if b then suc (uses_of entry.slot entries) else uses_of entry.slot entries) (is_itself entry.slot)

-- if at most one entry names each slot, no two name the same
pub all_once : (slots : List Slot) → ((slot : ℕ) → uses_of slot slots ≤ 1) → are_once slots ≡ true
all_once slots few = each slots (λ slot. omega arith)
  where
    one : (n m k : ℕ) → n ≤ 1 → m ≡ suc k → m ≤ n → (n == 1) ≡ true
    one n m k few is part = grind (arith, nat_tests, few, is, part)

    both : (a b : Bool) → a ≡ true → b ≡ true → (a && b) ≡ true
    both a b e f = rw e f

    less : (b : Bool) (n m : ℕ) → (if b then suc n else n) ≤ m → n ≤ m
    less true n m part = omega (arith, part)
    less false n m part = part

    each : (entries : List Slot) → ((slot : ℕ) → uses_of slot entries ≤ uses_of slot slots) → list_all (λ entry. uses_of entry.slot slots == 1) entries ≡ true
    each [] part = refl
    each (entry ∷ entries) part =
        both _ _ (one (uses_of entry.slot slots) (uses_of entry.slot (entry ∷ entries)) (uses_of entry.slot entries) (few entry.slot) (first_use entry entries) (part entry.slot))
        (each entries (λ slot. less (entry.slot == slot) (uses_of slot entries) (uses_of slot slots) (part slot)))

-- a slot is in the set or not, and no entry remains
pub at_most_once : (b : Bool) (n m : ℕ) → n ≡ (if b then 1 else 0) + m → m ≡ 0 → n ≤ 1
at_most_once true n m is none = omega (arith, is, none)
at_most_once false n m is none = omega (arith, is, none)
