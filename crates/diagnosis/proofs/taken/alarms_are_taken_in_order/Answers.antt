use Rattle.std.proofs.Common.{refl}
use Rattle.diagnosis.specs.World.{behind_all, start}
use Rattle.diagnosis.proofs.Moves.{ordered, lacking, complete}
use Rattle.diagnosis.proofs.taken.alarms_are_taken_in_order.Goals as goal

pub returns-clause-prefix : goal.returns-clause-prefix
returns-clause-prefix c = λ factor retries moves few. ordered factor retries moves (behind_all moves (start factor retries)) refl few

pub returns-clause-last : goal.returns-clause-last
returns-clause-last c = λ factor retries moves few. lacking factor retries moves (behind_all moves (start factor retries)) refl few

pub returns-clause-all : goal.returns-clause-all
returns-clause-all c = λ factor retries moves few none. complete factor retries moves (behind_all moves (start factor retries)) refl few none
