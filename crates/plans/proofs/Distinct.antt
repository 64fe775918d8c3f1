-- The submodules of modules that are in order are in different subslots.
use Rattle.std.proofs.Common.{◌≡◌, ℕ, ◌<◌, ◌==◌, false, List, [], ◌∷◌, ◌++◌, map, arith}
use Rattle.std.specs.List.{AllByRecursion}
use Rattle.std.proofs.lemmas.Bool.{and_parts, eqb-true, false_from_ne_true}
use Rattle.pn_values.specs.declared.real.RealModule.{RealModule}
use Rattle.pn_values.specs.declared.real.RealSubmodule.{RealSubmodule}
use Rattle.cyclic_data.specs.declared.place.ExpectedData.{ExpectedData}
use Rattle.cyclic_data.specs.Places.{is_at}
use Rattle.plans.specs.Parts.{AreOrdered, IsRising, data_in_slot, data_of, io_data_of, slots_of, subslots_of}

-- ---- lists

pub all_both : {A : Type 0} (P : A → Type 0) (xs ys : List A) → AllByRecursion P xs → AllByRecursion P ys → AllByRecursion P (xs ++ ys)
all_both P [] ys one other = other
all_both P (x ∷ xs) ys one other = (one.0, all_both P xs ys one.1 other)

pub all_mapped : {A B : Type 0} (P : B → Type 0) (f : A → B) (xs : List A) → AllByRecursion (λ x. P (f x)) xs → AllByRecursion P (map f xs)
all_mapped P f [] all = tt
all_mapped P f (x ∷ xs) all = (all.0, all_mapped P f xs all.1)

pub all_of_mapped : {A B : Type 0} (P : B → Type 0) (f : A → B) (xs : List A) → AllByRecursion P (map f xs) → AllByRecursion (λ x. P (f x)) xs
all_of_mapped P f [] all = tt
all_of_mapped P f (x ∷ xs) all = (all.0, all_of_mapped P f xs all.1)

pub all_so : {A : Type 0} (P Q : A → Type 0) (xs : List A) → ((x : A) → P x → Q x) → AllByRecursion P xs → AllByRecursion Q xs
all_so P Q [] step all = tt
all_so P Q (x ∷ xs) step all = (step x all.0, all_so P Q xs step all.1)

pub all_also : {A : Type 0} (P Q R : A → Type 0) (xs : List A) → ((x : A) → P x → Q x → R x) → AllByRecursion P xs → AllByRecursion Q xs → AllByRecursion R xs
all_also P Q R [] step one other = tt
all_also P Q R (x ∷ xs) step one other = (step x one.0 other.0, all_also P Q R xs step one.1 other.1)

-- ---- apart

-- a submodule is in another subslot than this one
abbrev pub IsElsewhere : ExpectedData → ExpectedData → Type 0
IsElsewhere one other = is_at other.slot other.subslot one ≡ false

-- each is in another subslot than all before it
abbrev pub AreElsewhere : List ExpectedData → Type 0
AreElsewhere [] = Unit {0}
AreElsewhere (sub ∷ subs) = AllByRecursion (IsElsewhere sub) subs × AreElsewhere subs

other_slot : (one other : ExpectedData) → one.slot < other.slot → IsElsewhere one other
other_slot one other below = false_from_ne_true (is_at other.slot other.subslot one) (λ t.
    let e = eqb-true one.slot other.slot (and_parts (one.slot == other.slot) (one.subslot == other.subslot) t).0 in
    absurd (omega (arith, e, below)))

other_subslot : (one other : ExpectedData) → one.subslot < other.subslot → IsElsewhere one other
other_subslot one other below = false_from_ne_true (is_at other.slot other.subslot one) (λ t.
    let e = eqb-true one.subslot other.subslot (and_parts (one.slot == other.slot) (one.subslot == other.subslot) t).1 in
    absurd (omega (arith, e, below)))

-- the submodules in a slot, and those of later slots after them
in_slot : (slot : ℕ) (parts : List RealSubmodule) (behind : List ExpectedData) → IsRising (map (λ part. part.subslot) parts)
    → AllByRecursion (λ other. slot < other.slot) behind → AreElsewhere behind → AreElsewhere (data_in_slot slot parts ++ behind)
in_slot slot [] behind rising later apart = apart
in_slot slot (part ∷ parts) behind rising later apart =
    let one : ExpectedData = record { slot = slot; subslot = part.subslot; io_data = io_data_of part } in (
      all_both (IsElsewhere one) (data_in_slot slot parts) behind
          (all_mapped (IsElsewhere one) _ parts
          (all_so (λ (p : RealSubmodule). part.subslot < p.subslot) (λ (p : RealSubmodule). IsElsewhere one (record { slot = slot; subslot = p.subslot; io_data = io_data_of p })) parts
          (λ p below. other_subslot one (record { slot = slot; subslot = p.subslot; io_data = io_data_of p }) below)
          (all_of_mapped (λ (n : ℕ). part.subslot < n) (λ (p : RealSubmodule). p.subslot) parts rising.0)))
          (all_so (λ (other : ExpectedData). slot < other.slot) (IsElsewhere one) behind (λ other below. other_slot one other below) later),
      in_slot slot parts behind rising.1 later apart,
    )

-- all submodules of modules in later slots are in later slots
later_slots : (slot : ℕ) (modules : List RealModule) → AllByRecursion (λ other. slot < other) (slots_of modules) → AllByRecursion (λ other. slot < other.slot) (data_of modules)
later_slots slot [] later = tt
later_slots slot (entry ∷ modules) later =
    all_both (λ (other : ExpectedData). slot < other.slot) (data_in_slot entry.slot entry.submodules.items) (data_of modules)
    (all_mapped (λ (other : ExpectedData). slot < other.slot) _ entry.submodules.items (each entry.submodules.items))
    (later_slots slot modules later.1)
  where
    each : (parts : List RealSubmodule) → AllByRecursion (λ (_ : RealSubmodule). slot < entry.slot) parts
    each [] = tt
    each (part ∷ parts) = (later.0, each parts)

apart_in : (modules : List RealModule) → IsRising (slots_of modules) → AllByRecursion (λ entry. IsRising (subslots_of entry)) modules → AreElsewhere (data_of modules)
apart_in [] slots subslots = tt
apart_in (entry ∷ modules) slots subslots =
    in_slot entry.slot entry.submodules.items (data_of modules) subslots.0 (later_slots entry.slot modules slots.0) (apart_in modules slots.1 subslots.1)

pub apart : (modules : List RealModule) → AreOrdered modules → AreElsewhere (data_of modules)
apart modules ordered = apart_in modules ordered.slots ordered.subslots
