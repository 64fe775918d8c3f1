-- The proof uses the ErrorCode of each operation.
use Rattle.records.proofs.StatusStatuses.{not_done}
use Rattle.records.proofs.status.law.refusals_are_not_done.Goals as goal

pub returns : goal.returns
returns c = not_done
