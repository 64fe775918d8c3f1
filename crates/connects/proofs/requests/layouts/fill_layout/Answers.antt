-- The layout in its place, or its first fault.
use Rattle.std.proofs.Common.{sym, ◌∙◌, ap, Ok, Err}
use Rattle.cyclic_data.specs.Layout.{Table}
use Rattle.records.specs.declared.status.call_fault.CallFault.{CallFault}
use Rattle.connects.proofs.RequestsHandled.{layout_faulty, layout_good}
use Rattle.connects.proofs.requests.layouts.fill_layout.Goals as goal

pub returns-in-Ok : goal.returns-in-Ok
returns-in-Ok c = layout_good _ _ _ _ c.in-Ok.ensures.valid ∙ ap (λ (table : Table). Ok table) (sym c.in-Ok.ensures.value)

pub returns-in-Err : goal.returns-in-Err
returns-in-Err c = layout_faulty _ _ _ _ c.in-Err.fault c.in-Err.ensures.fault ∙ ap (λ (fault : CallFault). Err fault) (sym c.fault_of.ensures)
