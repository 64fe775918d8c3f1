-- The octets counted so far, and those of the remaining entries.
use Rattle.std.proofs.Common.{◌≡◌, ◌+◌, ◌*◌, ◌≤◌, length, drop}
use Rattle.wire.specs.blocks.modules.Lists.{modules_size}
use Rattle.wire.proofs.blocks.modules.writing.entries_len.Given as goal

abbrev pub invariant-loop-entry : goal.invariant-loop-entry
invariant-loop-entry g l = let sizes = modules_size g.M.Entry.format g.M.Module.own g.S.Entry.format in record {
  size : l.size + sizes (drop l.entry-index l.modules) l.left ≡ sizes l.modules l.submodules;
  few : l.size + 255 * length l.left ≤ 255 * l.entry-index + 255 * length l.submodules;
  left : length l.left ≤ length l.submodules;
}
