-- The octets counted so far, and those of the remaining entries.
use Rattle.std.proofs.Common.{◌≡◌, ◌+◌, ◌*◌, ◌≤◌, drop}
use Rattle.wire.specs.blocks.modules.Lists.{submodules_size}
use Rattle.wire.proofs.blocks.modules.writing.submodules_len.Given as goal

abbrev pub invariant-loop-submodule : goal.invariant-loop-submodule
invariant-loop-submodule g l = record {
  size : l.size + submodules_size g.S.Entry.format (drop l.submodule-index l.submodules) ≡ submodules_size g.S.Entry.format l.submodules;
  few : l.size ≤ 255 * l.submodule-index;
}
