use Rattle.std.proofs.Common.{rules, sym, ◌∙◌, arith}
use Rattle.wire.proofs.BlocksModulesTaken.{modules_fail, modules_fail_inside}
use Rattle.wire.proofs.blocks.modules.reading.modules_at.Goals as goal

pub returns-in_err-entry : goal.returns-in_err-entry
returns-in_err-entry g c =
    let e = sym c.loop-turn.invariant ∙ modules_fail g.M.Entry.format g.M.Module.own g.S.Entry.format _ _ _ _ _ (omega arith) c.in_err-entry.ensures.read in search rules

pub returns-in_err-rest : goal.returns-in_err-rest
returns-in_err-rest g c =
    let inside = rw c.number_of_submodules.ensures at c.in_err-rest.ensures in
    let e = sym c.loop-turn.invariant ∙ modules_fail_inside g.M.Entry.format g.M.Module.own g.S.Entry.format _ _ _ _ _ _ _ (omega arith) c.in_ok-entry.ensures.read inside in
    search rules
