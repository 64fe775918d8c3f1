-- The rows that are listed for one module.
use Rattle.std.proofs.Common.{List, [], ◌∷◌, ◌++◌, ◌||◌, Bool, not, cond, nat_lt, ap, ◌∙◌}
use Rattle.connect_blocks.specs.declared.module_diff.DiffModule.{DiffModule}
use Rattle.connect_blocks.specs.declared.module_diff.DiffSubmodule.{DiffSubmodule}
use Rattle.module_diff.specs.Diff.{Wanted}
use Rattle.module_diff.proofs.Listed.{one_module, one_list}
use Rattle.module_diff.proofs.differing.push_module.Goals as goal

pub returns-clause-modules : goal.returns-clause-modules
returns-clause-modules c =
    let w : Wanted = record { entry = c.args.entry.now; submodules = c.args.own.now } in
    c.push_where.ensures.items
    ∙ ap (λ (rows : List DiffModule). c.args.modules.now.items ++ rows)
    (ap (λ (b : Bool). cond b (c.row_with.result ∷ []) []) c.is_listed.ensures
    ∙ (ap (λ (row : DiffModule). cond (not c.is_ident-proper.result || nat_lt 0 c.push_submodules-listed.result) (row ∷ []) []) c.row_with.ensures
    ∙ one_module c.args.real.now.modules.items w c.module_ident-ident.result c.is_ident-proper.result c.push_submodules-listed.result
    c.module_ident-ident.ensures c.is_ident-proper.ensures c.push_submodules-listed.ensures.count))

pub returns-clause-submodules : goal.returns-clause-submodules
returns-clause-submodules c =
    c.push_submodules-listed.ensures.rows
    ∙ ap (λ (rows : List DiffSubmodule). c.args.submodules.now.items ++ rows)
    (one_list c.args.real.now.modules.items (record { entry = c.args.entry.now; submodules = c.args.own.now }) c.module_ident-ident.result c.is_ident-proper.result
    c.module_ident-ident.ensures c.is_ident-proper.ensures)
