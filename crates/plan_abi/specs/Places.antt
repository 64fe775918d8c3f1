-- The place of a fault, as it is reported to a host.
use Rattle.std.specs.Prelude.{◌≡◌, ◌≢◌, ◌⊎◌, ◌+◌, ◌-◌, ◌++◌, ℕ, Bool, true, false, codes, decimal, min, List, [], ◌∷◌, length, take, drop, flat_map, if◌then◌else◌}
use Rattle.plans.specs.declared.parts.Parts.{Parts}
use Rattle.catalogue.specs.declared.keys.fault.Step.{Step}
use Rattle.catalogue.specs.declared.keys.fault.Step.TheVariants.{At, Entry}
use Rattle.catalogue.specs.keys.Keys.{name_of}
use Rattle.configurator.specs.declared.fault.PlanFault.{PlanFault}
use Rattle.configurator.specs.declared.fault.PlanFault.TheVariants.{OutOfMemory}
use Rattle.configurator.specs.declared.place.Refusal.{Refusal}
use Rattle.configurator.specs.Planned.{IsPlanOf, IsRefusedAt}

-- a step: a dot and a key, or the number of an entry in brackets
unfoldable pub shown : Step → List ℕ
shown (At key) = codes "." ++ name_of key
shown (Entry index) = codes "[" ++ decimal index ++ codes "]"

-- the steps, one after another
abbrev pub spelled_behind : List Step → List ℕ
spelled_behind steps = flat_map shown steps

-- without the dot before the first key: `Project.Slots[1].Slot`
abbrev pub spelled : List Step → List ℕ
spelled steps = drop 1 (spelled_behind steps)

-- a text at the start of a room, as much as fits, a zero after it, and then what was in the room
abbrev pub ended : List ℕ → List ℕ → List ℕ
ended text room =
    let count = min (length text) (length room - 1) in
    take count text ++ 0 ∷ drop (count + 1) room

-- Whether memory ended.
abbrev pub is_memory : PlanFault → Bool
is_memory OutOfMemory = true
is_memory fault = false

-- What comes of writing a place: 2 if it has no steps or the room no octet, else 1.
abbrev pub told_at : List Step → List ℕ → ℕ
told_at [] room = 2
told_at (step ∷ steps) [] = 2
told_at (step ∷ steps) (octet ∷ octets) = 1

-- What comes of writing the place of a refusal: 0 for want of memory.
abbrev pub told_of : Refusal → List ℕ → ℕ
told_of refusal room = if is_memory refusal.fault then 0 else told_at refusal.place.items room

-- 1: the room has the text of the place; any other answer: the room is as it was.
pub record IsTold (answer : ℕ) (place : List Step) (before after : List ℕ) : Type 0 where
  pub shown : answer ≡ 1 → after ≡ ended (spelled place) before
  pub kept : answer ≢ 1 → after ≡ before
  pub long : length after ≡ length before

-- There is nothing to show of a text in a room: the text has a plan, its first fault has no place, or the room has no octet.
abbrev pub HasNone : List ℕ → List ℕ → Type 0
HasNone text room =
    ((parts : Parts) × IsPlanOf text parts)
    ⊎ (((refusal : Refusal) × IsRefusedAt text refusal × (refusal.fault ≢ OutOfMemory) × (refusal.place.items ≡ []))
    ⊎ (room ≡ []))

-- a room has the place of the first fault of a text
pub record IsReported (text before after : List ℕ) : Type 0 where
  pub refusal : Refusal
  pub refused : IsRefusedAt text refusal
  pub known : refusal.fault ≢ OutOfMemory
  pub written : after ≡ ended (spelled refusal.place.items) before
