-- A frame by what it tells.
use Rattle.std.proofs.Common.{ap, ◌∙◌}
use Rattle.lldp.specs.State.{State}
use Rattle.lldp.proofs.Hearing.{dropped, forgotten, learnt, other}
use Rattle.lldp.proofs.machine.Neighbours.hear.Goals as goal

pub returns-clause-dropped : goal.returns-clause-dropped
returns-clause-dropped c = λ e. c.handle.ensures.state ∙ dropped c.args.self.now c.args.bytes.now e

pub returns-clause-learnt : goal.returns-clause-learnt
returns-clause-learnt c = λ told seconds e f. ap (λ (s : State). s.known) (c.handle.ensures.state) ∙ learnt c.args.self.now c.args.bytes.now told seconds e f

pub returns-clause-forgotten : goal.returns-clause-forgotten
returns-clause-forgotten c = λ told e f is. ap (λ (s : State). s.known) (c.handle.ensures.state) ∙ forgotten c.args.self.now c.args.bytes.now told e f is

pub returns-clause-other : goal.returns-clause-other
returns-clause-other c = λ told e f is. c.handle.ensures.state ∙ other c.args.self.now c.args.bytes.now told e f is
