use Rattle.std.proofs.Common.{arith}
use Rattle.wire.proofs.BlocksModulesWritten.{modules_sized}
use Rattle.wire.proofs.blocks.modules.writing.lists_len.Goals as goal

pub returns : goal.returns
returns g c =
    let sized = modules_sized g.M.Entry.format g.M.Module.own g.S.Entry.format g.met.M.Entry.alike g.met.S.Entry.alike in grind (arith, sized)
