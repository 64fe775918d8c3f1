use Rattle.device_core.proofs.Applied.{local_is}
use Rattle.device_core.proofs.law.application_is_local.Goals as goal

pub returns : goal.returns
returns c = local_is
