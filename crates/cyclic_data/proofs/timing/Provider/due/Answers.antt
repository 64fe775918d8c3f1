-- A unit in which no frame is due.
use Rattle.std.proofs.Common.{arith}
use Rattle.cyclic_data.proofs.Units.{not_due_from}
use Rattle.cyclic_data.proofs.timing.Provider.due.Goals as goal

pub returns-else-self-clause-exactly : goal.returns-else-self-clause-exactly
returns-else-self-clause-exactly c = not_due_from c.self.inside.interval c.self.inside.elapsed c.args.self.now c.self.view_is (omega arith)
