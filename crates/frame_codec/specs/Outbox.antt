-- What a box of frames holds.
use Rattle.std.specs.Prelude.{ℕ, List, map}
use Rattle.arrayvec.specs.ArrayVec.{ArrayVec as Items}

-- the octets of each frame in it, in order
abbrev pub boxed : Items (Items ℕ) → List (List ℕ)
boxed outbox = map (λ (frame : Items ℕ). frame.items) outbox.items
