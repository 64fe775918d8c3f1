-- What is written is read again.
use Rattle.cyclic_data.proofs.Cyclic.{written_again}
use Rattle.cyclic_data.proofs.tail.put_cyclic.Goals as goal

pub returns-clause-again : goal.returns-clause-again
returns-clause-again g c = λ rest. written_again c.args.octets.now c.args.tail c.octets.ensures.fits rest
