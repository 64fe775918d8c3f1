use Rattle.both_ends.proofs.StartupFromText.{text_parameters}
use Rattle.both_ends.proofs.startup.texts.plans_have_parameters.Goals as goal

pub returns : goal.returns
returns c = text_parameters
