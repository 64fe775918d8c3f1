-- Runs: moves, and the point after each of them.
use Rattle.std.specs.Prelude.{List, [], ◌∷◌}
use Rattle.end_laws.specs.both.Small.{Move}

module _ {W : Type 0} where
  -- each move is a step from the point after the move before it
  abbrev pub AreSteps : (W → Move → W → Type 0) → W → List (Move × W) → Type 0
  AreSteps Steps first [] = Unit {0}
  AreSteps Steps first (one ∷ run) = Steps first one.0 one.1 × AreSteps Steps one.1 run

  -- the last point of a run
  abbrev pub end_of : W → List (Move × W) → W
  end_of first [] = first
  end_of first (one ∷ run) = end_of one.1 run
