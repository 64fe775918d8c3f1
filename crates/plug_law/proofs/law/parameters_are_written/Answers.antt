use Rattle.std.proofs.Common.{refl}
use Rattle.controller_core.specs.Machine.{first}
use Rattle.plug_law.proofs.Runs.{written_so}
use Rattle.plug_law.proofs.Accepted.{plugged_so}
use Rattle.plug_law.proofs.law.parameters_are_written.Goals as goal

pub returns-clause-written : goal.returns-clause-written
returns-clause-written c = λ setup events request strict is. written_so setup strict (first setup.plan) events request refl is

pub returns-clause-plugged : goal.returns-clause-plugged
returns-clause-plugged c = λ setup events request is. plugged_so setup (first setup.plan) events request (tt, tt) is
