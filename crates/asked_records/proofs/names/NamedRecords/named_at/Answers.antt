-- The record that is found is one of a list without a fault.
use Rattle.std.proofs.Common.{[]}
use Rattle.asked_records.proofs.Valid.{found_valid}
use Rattle.asked_records.proofs.names.NamedRecords.named_at.Goals as goal

pub returns-clause-valid : goal.returns-clause-valid
returns-clause-valid c =
    rw (c.find_name.ensures, c.as_slice.ensures.value) (found_valid c.args.slot c.args.subslot c.args.index [] c.self.inside.names.items c.self.invariant)
