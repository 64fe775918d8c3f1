use Rattle.device_core.proofs.RealKept.{real_is_behind}
use Rattle.device_core.proofs.law.only_pulls_and_plugs_change_modules.Goals as goal

pub returns : goal.returns
returns c = real_is_behind
