-- What a stranger says leaves the relation.
use Rattle.strangers_law.proofs.Floods.{runs_as_alone, step_left, step_silent}
use Rattle.strangers_law.proofs.device.strangers_leave_a_device.Goals as goal

pub returns-clause-left : goal.returns-clause-left
returns-clause-left g c = λ old new link event sent said steps exists strange. step_left g.F.Flash old new link event sent said steps exists strange

pub returns-clause-silent : goal.returns-clause-silent
returns-clause-silent g c = λ old new link event sent said steps exists strange.
    step_silent g.F.Flash old new link event sent said c.frames_are_read.ensures.real_time c.frames_are_read.ensures.arp c.frames_are_read.ensures.udp c.responses_are_read.ensures.read
    steps exists strange

pub returns-clause-alone : goal.returns-clause-alone
returns-clause-alone g c = runs_as_alone
