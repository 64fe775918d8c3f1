-- Marks on the octets of a frame.
use Rattle.std.specs.Prelude.{◌≡◌, ◌≤◌, ◌<◌, ◌+◌, ℕ, Bool, true, false, List, get_or}

-- One of these octets is marked.
abbrev pub IsTaken : List Bool → ℕ → ℕ → Type 0
IsTaken marked start size = (k : ℕ) × (start ≤ k) × (k < start + size) × (get_or marked k false ≡ true)

-- None of these octets is marked.
abbrev pub IsFree : List Bool → ℕ → ℕ → Type 0
IsFree marked start size = (k : ℕ) → start ≤ k → k < start + size → get_or marked k false ≡ false

-- These octets are marked too, and all others are as they were.
pub record IsMarkedWith (old new : List Bool) (start size : ℕ) : Type 0 where
  pub inside : (k : ℕ) → start ≤ k → k < start + size → get_or new k false ≡ true
  pub below : (k : ℕ) → k < start → get_or new k false ≡ get_or old k false
  pub above : (k : ℕ) → start + size ≤ k → get_or new k false ≡ get_or old k false
