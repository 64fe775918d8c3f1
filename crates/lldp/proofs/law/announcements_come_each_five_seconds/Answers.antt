-- By induction over the events.
use Rattle.lldp.proofs.Runs.{each_interval}
use Rattle.lldp.proofs.law.announcements_come_each_five_seconds.Goals as goal

pub returns-clause-next : goal.returns-clause-next
returns-clause-next c = each_interval
