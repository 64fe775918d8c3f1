-- What writing a base or a slot leaves.
use Rattle.std.specs.Prelude.{◌≡◌, ◌≢◌, ◌<◌, ◌⊎◌, ℕ, List, length, take}
use Rattle.flash_model.specs.Image.{erased}
use Rattle.settings_journal.specs.Head.{head_of, gate_of, Rises}
use Rattle.settings_journal.specs.Slot.{slot_at, slot_gate, HasEntry}
use Rattle.settings_journal.specs.Image.{slots_of}

-- the base is stored, the gate is open, and each slot is blank
pub record IsBase (sector base : List ℕ) : Type 0 where
  pub holds : take 437 (head_of sector) ≡ base
  pub gate : gate_of (head_of sector) ≡ 0
  pub blank : (number : ℕ) → number < slots_of sector → slot_at sector number ≡ erased 256

-- All that the write of a base can leave, whichever of its calls failed: bits that rose, from an interrupted erase; a
-- gate that is not open; the base.
abbrev pub MayLeave : List ℕ → List ℕ → List ℕ → Type 0
MayLeave old base new = Rises (head_of old) (head_of new) ⊎ ((gate_of (head_of new) ≢ 0) ⊎ IsBase new base)

-- a write into one slot leaves the head and the other slots unchanged
pub record KeepsOthers (number : ℕ) (old new : List ℕ) : Type 0 where
  pub length : length new ≡ length old
  pub head : head_of new ≡ head_of old
  pub others : (k : ℕ) → k ≢ number → slot_at new k ≡ slot_at old k

-- All that a write into a slot can leave, whichever of its calls failed: a gate that is not open; the entry.
abbrev pub MayLeaveSlot : List ℕ → List ℕ → Type 0
MayLeaveSlot entry slot = (slot_gate slot ≢ 0) ⊎ HasEntry slot entry
