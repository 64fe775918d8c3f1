-- The submodules read so far, and those still to be read.
use Rattle.std.proofs.Common.{◌≡◌, ◌≤◌, ◌-◌, length}
use Rattle.wire.specs.blocks.modules.Lists.{submodules_read}
use Rattle.wire.proofs.blocks.modules.reading.submodules_at.Given as goal

abbrev pub invariant-loop-turn : goal.invariant-loop-turn
invariant-loop-turn g l = record {
  read : submodules_read g.S.Entry.format l.start (l.count - l.turn) l.submodules.items l.rest ≡ submodules_read g.S.Entry.format l.start l.count l.initial.submodules.items l.initial.rest;
  start : l.start ≤ length l.submodules.items;
}
