-- What can be written is read back.
use Rattle.std.proofs.Common.{◌≡◌, ◌<◌, List, ℕ, [], ◌∷◌, ◌++◌, refl, sym, ap, ◌∙◌, append_assoc}
use Rattle.std.specs.List.{AllByRecursion}
use Rattle.std.proofs.lemmas.List.{append-nil}
use Rattle.block_codec.specs.declared.block.Block.{Block}
use Rattle.block_codec.specs.Block.{block_bytes, block_of, fields_of, front, kind_of}
use Rattle.block_codec.specs.Writable.{AreRead, CanBeWritten, octets_of}
use Rattle.block_codec.proofs.Fits.{block_fits}

-- what fits its format is read back: a clause of the format
abbrev pub FittingIsRead : Type 0
FittingIsRead = (block : Block) (rest : List ℕ) → (fields_of (kind_of block)).size block < 65536 → (fields_of (kind_of block)).Fits block → block_of (block_bytes block ++ rest) ≡ front block rest

pub read : FittingIsRead → (value : Block) (rest : List ℕ) → CanBeWritten value → block_of (block_bytes value ++ rest) ≡ front value rest
read reads value rest is = let fits = block_fits value is in reads value rest fits.0 fits.1

pub alone : FittingIsRead → (value : Block) → CanBeWritten value → block_of (block_bytes value) ≡ front value []
alone reads value is = ap block_of (sym (append-nil (block_bytes value))) ∙ read reads value [] is

pub each : FittingIsRead → (blocks : List Block) (rest : List ℕ) → AllByRecursion CanBeWritten blocks → AreRead (octets_of blocks ++ rest) blocks rest
each reads [] rest is = refl
each reads (value ∷ blocks) rest is = (
  octets_of blocks ++ rest,
  ap block_of (append_assoc (block_bytes value) (octets_of blocks) rest) ∙ read reads value (octets_of blocks ++ rest) is.0,
  each reads blocks rest is.1,
)
