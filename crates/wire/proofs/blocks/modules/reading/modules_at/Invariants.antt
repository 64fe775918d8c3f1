-- The modules read so far, and those still to be read.
use Rattle.std.proofs.Common.{◌≡◌, ◌-◌}
use Rattle.wire.specs.blocks.modules.Lists.{modules_read}
use Rattle.wire.proofs.blocks.modules.reading.modules_at.Given as goal

abbrev pub invariant-loop-turn : goal.invariant-loop-turn
invariant-loop-turn g l = modules_read g.M.Entry.format g.M.Module.own g.S.Entry.format (l.count - l.turn) l.modules.items l.submodules.items l.rest
    ≡ modules_read g.M.Entry.format g.M.Module.own g.S.Entry.format l.count l.initial.modules.items l.initial.submodules.items l.initial.rest
