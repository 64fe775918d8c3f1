use Rattle.std.proofs.Common.{arith}
use Rattle.wire.proofs.BlocksModulesWritten.{modules_sized, modules_written}
use Rattle.wire.proofs.blocks.modules.writing.put_lists.Goals as goal

pub append_u16-requires : goal.append_u16-requires
append_u16-requires g c =
    let sized = modules_sized g.M.Entry.format g.M.Module.own g.S.Entry.format g.met.M.Entry.alike g.met.S.Entry.alike in grind (arith, sized)

pub put_entries-requires : goal.put_entries-requires
put_entries-requires g c =
    let sized = modules_sized g.M.Entry.format g.M.Module.own g.S.Entry.format g.met.M.Entry.alike g.met.S.Entry.alike in grind (arith, sized)

pub returns-clause-items : goal.returns-clause-items
returns-clause-items g c tail =
    let written = modules_written g.M.Entry.format g.M.Module.own g.S.Entry.format g.met.M.Entry.alike g.met.S.Entry.alike in grind (arith, written)

pub returns-clause-len : goal.returns-clause-len
returns-clause-len g c =
    let sized = modules_sized g.M.Entry.format g.M.Module.own g.S.Entry.format g.met.M.Entry.alike g.met.S.Entry.alike in grind (arith, sized)
