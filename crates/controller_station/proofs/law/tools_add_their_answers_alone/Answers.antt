-- By the kind of the event, and by what is answered.
use Rattle.controller_station.proofs.Told.{sends_or_tells, untouched, without_identity}
use Rattle.controller_station.proofs.law.tools_add_their_answers_alone.Goals as goal

pub returns-clause-tools : goal.returns-clause-tools
returns-clause-tools c = sends_or_tells

pub returns-clause-untouched : goal.returns-clause-untouched
returns-clause-untouched c = untouched

pub returns-clause-without : goal.returns-clause-without
returns-clause-without c = without_identity
