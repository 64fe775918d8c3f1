-- It is handled, or refused by the port.
use Rattle.device_abi.proofs.serving.provider_state.Goals as goal

pub returns : goal.returns
returns c = (c.provider_state-outcome.result, c.provider_state-outcome.ensures, c.noted.ensures.answer, c.noted.ensures.reported)
