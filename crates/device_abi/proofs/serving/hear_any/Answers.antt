-- It is handled, or refused.
use Rattle.device_abi.proofs.serving.hear_any.Goals as goal

pub returns : goal.returns
returns c = (c.hear-outcome.result, c.hear-outcome.ensures, c.noted.ensures.answer, c.noted.ensures.reported)
