use Rattle.std.proofs.Common.{rules, sym, ◌∙◌, arith}
use Rattle.wire.proofs.BlocksModulesTaken.{submodules_fail}
use Rattle.wire.proofs.blocks.modules.reading.submodules_at.Goals as goal

pub returns-in_err-entry : goal.returns-in_err-entry
returns-in_err-entry g c =
    let e = sym c.loop-turn.invariant.read ∙ submodules_fail g.S.Entry.format _ _ _ _ _ (omega arith) c.in_err-entry.ensures.read in search rules
