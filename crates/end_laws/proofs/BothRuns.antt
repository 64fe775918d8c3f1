-- Runs grow by one move at a time.
use Rattle.std.proofs.Common.{◌≡◌, List, [], ◌∷◌, ◌++◌, refl, sym, ap, subst, ◌∙◌, append_assoc, append-nil}
use Rattle.end_laws.specs.both.Small.{Move}
use Rattle.end_laws.specs.both.Runs.{AreSteps, end_of}

module _ {W : Type 0} where
  pub last_more : (first : W) (run : List (Move × W)) (one : Move × W) → end_of first (run ++ one ∷ []) ≡ one.1
  last_more first [] one = refl
  last_more first (other ∷ run) one = last_more other.1 run one

  -- a point of a run is a point of the longer run
  pub later_on : (run before later : List (Move × W)) (point one : Move × W) → run ≡ before ++ point ∷ later → run ++ one ∷ [] ≡ before ++ point ∷ (later ++ one ∷ [])
  later_on run before later point one all = ap (λ (xs : List (Move × W)). xs ++ one ∷ []) all ∙ append_assoc before (point ∷ later) (one ∷ [])

  -- an invariant that each step keeps holds of every longer run
  module _ (Steps : W → Move → W → Type 0) (first : W) (Holds : List (Move × W) → W → Type 0)
      (more : (run : List (Move × W)) (one : Move × W) → Holds run (end_of first run) → Steps (end_of first run) one.0 one.1 → Holds (run ++ one ∷ []) one.1) where
    on : (run others : List (Move × W)) → Holds run (end_of first run) → AreSteps Steps (end_of first run) others → Holds (run ++ others) (end_of first (run ++ others))
    on run [] holds steps = subst (λ (xs : List (Move × W)). Holds xs (end_of first xs)) (sym (append-nil run)) holds
    on run (one ∷ others) holds steps =
        subst (λ (xs : List (Move × W)). Holds xs (end_of first xs)) (append_assoc run (one ∷ []) others)
        (on (run ++ one ∷ []) others
        (subst (λ (w : W). Holds (run ++ one ∷ []) w) (sym (last_more first run one)) (more run one holds steps.0))
        (subst (λ (w : W). AreSteps Steps w others) (sym (last_more first run one)) steps.1))

    pub holds_behind_run : (run : List (Move × W)) → Holds [] first → AreSteps Steps first run → Holds run (end_of first run)
    holds_behind_run run holds steps = on [] run holds steps
