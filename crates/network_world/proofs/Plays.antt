-- One more move is played.
use Rattle.std.proofs.Common.{ℕ, List, [], ◌∷◌, ◌++◌, refl, subst}
use Rattle.flash_model.specs.declared.flash.Flash.{Ghosts as Flash}
use Rattle.network_world.specs.declared.moves.Move.{Move}
use Rattle.network_world.specs.World.{World, Happens, Played}

module _ {F : Type 0} {S : ℕ} (as_flash : Flash F S) where
  pub play_on : (before : World F) (moves : List Move) (between : World F) (one : Move) (after : World F)
      → Played as_flash before moves between → Happens as_flash between one after
      → Played as_flash before (moves ++ one ∷ []) after
  play_on before [] between one after played happens =
      (after, subst (λ (w : World F). Happens as_flash w one after) played happens, refl)
  play_on before (first ∷ moves) between one after played happens =
      (played.0, played.1, play_on played.0 moves between one after played.2 happens)
