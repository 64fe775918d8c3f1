-- The proofs are those of the laws.
use Rattle.expected_places.proofs.Released.{only_confirmed, touched_by}
use Rattle.expected_places.proofs.law.only_a_confirmation_releases.Goals as goal

pub returns-clause-touches : goal.returns-clause-touches
returns-clause-touches c = touched_by

pub returns-clause-releases : goal.returns-clause-releases
returns-clause-releases c = only_confirmed
