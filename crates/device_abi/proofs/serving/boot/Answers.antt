-- It started, or not.
use Rattle.device_abi.proofs.serving.boot.Goals as goal

pub returns : goal.returns
returns c = (c.boot.result, c.boot.ensures, c.done.ensures)
