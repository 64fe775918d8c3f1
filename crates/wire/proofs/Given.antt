-- From what a reader of the code returns to what it found.
use Rattle.std.proofs.Common.{◌≡◌, Result, Ok, Err, subst}
use Rattle.std.specs.Prelude.{IfOk}
use Rattle.wire.specs.Codec.{Gives}

module _ {X Y F : Type 0} (view : X → Y) where
  -- what holds of every value that can be read holds of what the reader found
  pub found : (P : Y → Type 0) (result : Result X F) (read : Result Y F) → ((value : Y) → read ≡ Ok value → P value) → Gives view result read → IfOk result (λ x. P (view x))
  found P (Ok x) read holds given = holds (view x) given
  found P (Err fault) read holds given = tt

  -- a reader finds what can be read
  pub only : (result : Result X F) (read : Result Y F) (value : Y) → read ≡ Ok value → Gives view result read → Gives view result (Ok value)
  only result read value e given = subst (λ (r : Result Y F). Gives view result r) e given
