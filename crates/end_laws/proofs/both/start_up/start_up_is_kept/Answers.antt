use Rattle.end_laws.proofs.BothLaw.{was_handed, was_exchanging, is_made, is_part}
use Rattle.end_laws.proofs.both.start_up.start_up_is_kept.Goals as goal

pub returns-clause-controller : goal.returns-clause-controller
returns-clause-controller g c = λ rules first run begins steps exchanges. was_handed rules first run begins steps exchanges

pub returns-clause-device : goal.returns-clause-device
returns-clause-device g c = λ rules first run begins steps link is exchanges. was_exchanging rules first run begins steps link is exchanges

pub returns-clause-relation : goal.returns-clause-relation
returns-clause-relation g c = λ rules first run begins steps link is. is_made rules first run begins steps link is

pub returns-clause-part : goal.returns-clause-part
returns-clause-part g c = λ rules first run begins steps link is. is_part rules first run begins steps link is
