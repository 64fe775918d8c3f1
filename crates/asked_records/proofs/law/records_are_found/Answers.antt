use Rattle.asked_records.proofs.Valid.{each_found}
use Rattle.asked_records.proofs.law.records_are_found.Goals as goal

pub returns : goal.returns
returns c names accepted = each_found names accepted
