-- Each step of a place has a text; and when there is nothing to show.
use Rattle.std.proofs.Common.{◌≡◌, ◌≢◌, ◌⊎◌, inl, inr, ◌++◌, ℕ, Bool, true, false, List, [], ◌∷◌, length, refl, arith}
use Rattle.std.specs.Prelude.{if◌then◌else◌}
use Rattle.catalogue.specs.declared.keys.fault.Step.{Step}
use Rattle.catalogue.specs.declared.keys.fault.Step.TheVariants.{At, Entry}
use Rattle.configurator.specs.declared.fault.PlanFault.{PlanFault}
use Rattle.configurator.specs.declared.fault.PlanFault.TheVariants.{OutOfMemory}
use Rattle.configurator.specs.declared.place.Refusal.{Refusal}
use Rattle.configurator.specs.Planned.{IsRefusedAt}
use Rattle.plan_abi.specs.Places.{HasNone, is_memory, shown, spelled_behind, told_at, told_of}

some_shown : (step : Step) (rest : List ℕ) → shown step ++ rest ≡ [] → ⊥
unfolding shown
some_shown (At key) rest e = cc
some_shown (Entry index) rest e = cc

-- a place without a text has no steps
pub nothing_spelled : (steps : List Step) (room : List ℕ) → spelled_behind steps ≡ [] → 2 ≡ told_at steps room
nothing_spelled [] room e = refl
nothing_spelled (step ∷ steps) room e = absurd (some_shown step (spelled_behind steps) e)

none_at : (steps : List Step) (room : List ℕ) → told_at steps room ≡ 2 → (steps ≡ []) ⊎ (room ≡ [])
none_at [] room e = inl refl
none_at (step ∷ steps) [] e = inr refl
none_at (step ∷ steps) (octet ∷ octets) e = absurd cc

known_by : (b : Bool) (fault : PlanFault) → is_memory fault ≡ b → b ≡ false → fault ≢ OutOfMemory
known_by b fault is known same = cc

-- nothing is shown if the fault has no place or the room no octet, and there was enough memory
pub none_told : (refusal : Refusal) (room : List ℕ) → told_of refusal room ≡ 2 → (refusal.fault ≢ OutOfMemory × (refusal.place.items ≡ [])) ⊎ (room ≡ [])
none_told refusal room e = by (is_memory refusal.fault) refl e
  where
    by_place : is_memory refusal.fault ≡ false → (refusal.place.items ≡ []) ⊎ (room ≡ []) → (refusal.fault ≢ OutOfMemory × (refusal.place.items ≡ [])) ⊎ (room ≡ [])
    by_place known (inl none) = inl (known_by (is_memory refusal.fault) refusal.fault refl known, none)
    by_place known (inr none) = inr none

    by : (b : Bool) → is_memory refusal.fault ≡ b → (if b then 0 else told_at refusal.place.items room) ≡ 2
        → (refusal.fault ≢ OutOfMemory × (refusal.place.items ≡ [])) ⊎ (room ≡ [])
    by true is e = absurd cc
    by false is e = by_place is (none_at refusal.place.items room e)

pub has_none : (text room : List ℕ) (refusal : Refusal) → IsRefusedAt text refusal → told_of refusal room ≡ 2 → HasNone text room
has_none text room refusal refused e = by (none_told refusal room e)
  where
    by : (refusal.fault ≢ OutOfMemory × (refusal.place.items ≡ [])) ⊎ (room ≡ []) → HasNone text room
    by (inl none) = inr (inl (refusal, refused, none.0, none.1))
    by (inr none) = inr (inr none)

pub no_items : (xs : List ℕ) → length xs ≡ 0 → xs ≡ []
no_items [] e = refl
no_items (x ∷ xs) e = absurd (omega (arith, e))
