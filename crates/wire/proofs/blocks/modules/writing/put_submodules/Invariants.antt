-- The entries written so far, and the remaining ones, for which there is room.
use Rattle.std.proofs.Common.{◌≡◌, ◌+◌, ◌++◌, ℕ, List, drop}
use Rattle.std.specs.List.{AllByRecursion}
use Rattle.arrayvec.specs.ArrayVec.{array_vec_len}
use Rattle.wire.specs.blocks.modules.Lists.{submodules_bytes, submodules_size}
use Rattle.wire.proofs.blocks.modules.writing.put_submodules.Given as goal

abbrev pub invariant-loop-submodule : goal.invariant-loop-submodule
invariant-loop-submodule g l = let item = g.S.Entry.format in record {
  items : (tail : List ℕ) → l.out.items ++ submodules_bytes item (drop l.submodule-index l.submodules) tail ≡ l.initial.out.items ++ submodules_bytes item l.submodules tail;
  room : array_vec_len l.out + submodules_size item (drop l.submodule-index l.submodules) ≡ array_vec_len l.initial.out + submodules_size item l.submodules;
  fits : AllByRecursion g.S.Entry.fits (drop l.submodule-index l.submodules) → AllByRecursion g.S.Entry.fits l.submodules;
}
