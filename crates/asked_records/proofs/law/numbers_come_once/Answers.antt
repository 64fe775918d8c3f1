use Rattle.asked_records.proofs.Runs.{numbers_differ}
use Rattle.asked_records.proofs.law.numbers_come_once.Goals as goal

pub returns : goal.returns
returns c last more some most one few same = numbers_differ last more some most one few same
