-- This follows from the definition of a step.
use Rattle.std.proofs.Common.{refl}
use Rattle.controller_core.specs.Machine.{step_of}
use Rattle.end_laws.proofs.sending.law.frames_are_messages.Goals as goal

pub returns : goal.returns
unfolding step_of
returns c = λ old event. refl
