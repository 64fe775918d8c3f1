-- All frames that were ever sent.
use Rattle.std.specs.Prelude.{ℕ, List, map}
use Rattle.arrayvec.specs.ArrayVec.{ArrayVec}

-- the octets of frames
abbrev pub octets_of : List (ArrayVec ℕ) → List (List ℕ)
octets_of frames = map (λ frame. frame.items) frames

-- the frames, and how many more there is room for
pub record Sent : Type 0 where
  pub frames : List (List ℕ)
  pub room : ℕ
