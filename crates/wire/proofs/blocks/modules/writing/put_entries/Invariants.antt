-- The entries written so far, and the remaining ones, for which there is room.
use Rattle.std.proofs.Common.{◌≡◌, ◌+◌, ◌++◌, ℕ, List, drop}
use Rattle.arrayvec.specs.ArrayVec.{array_vec_len}
use Rattle.wire.specs.Nested.{FitsNested}
use Rattle.wire.specs.blocks.modules.Lists.{modules_bytes, modules_size}
use Rattle.wire.proofs.blocks.modules.writing.put_entries.Given as goal

abbrev pub invariant-loop-entry : goal.invariant-loop-entry
invariant-loop-entry g l =
    let bytes = modules_bytes g.M.Entry.format g.M.Module.own g.S.Entry.format in
    let size = modules_size g.M.Entry.format g.M.Module.own g.S.Entry.format in
    let Fit = FitsNested g.M.Entry.fits g.M.Module.own g.S.Entry.fits in record {
      items : (tail : List ℕ) → l.out.items ++ bytes (drop l.entry-index l.modules) l.left tail ≡ l.initial.out.items ++ bytes l.modules l.submodules tail;
      room : array_vec_len l.out + size (drop l.entry-index l.modules) l.left ≡ array_vec_len l.initial.out + size l.modules l.submodules;
      fits : Fit (drop l.entry-index l.modules) l.left → Fit l.modules l.submodules;
    }
