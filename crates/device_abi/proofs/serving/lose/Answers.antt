-- Power is lost, or nothing is.
use Rattle.device_abi.proofs.serving.lose.Goals as goal

pub returns : goal.returns
returns c = (c.lose.result, c.lose.ensures, c.done.ensures)
