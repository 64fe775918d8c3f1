use Rattle.end_laws.proofs.TurnsAgain.{asks_each_second}
use Rattle.end_laws.proofs.turns.law.requests_are_repeated.Goals as goal

pub returns : goal.returns
returns c = record { each = asks_each_second }
