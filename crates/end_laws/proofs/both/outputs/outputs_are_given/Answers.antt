use Rattle.end_laws.proofs.BothGiven.{are_as_given}
use Rattle.end_laws.proofs.both.outputs.outputs_are_given.Goals as goal

pub returns : goal.returns
returns g c = λ rules first run none steps. are_as_given rules first run none steps
