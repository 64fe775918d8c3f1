use Rattle.end_laws.proofs.CyclicDevice.{accepts_at, holds_at, leaves_at, runs_at}
use Rattle.end_laws.proofs.CyclicInputs.{sends_at}
use Rattle.end_laws.proofs.cyclic.device.cyclic_device.Goals as goal

pub returns-clause-accepts : goal.returns-clause-accepts
returns-clause-accepts g c = λ link frame exists is able. (accepts_at _ _ _ c.args.event.now _ _ c.step.ensures.steps link exists frame is able).live

pub returns-clause-silent : goal.returns-clause-silent
returns-clause-silent g c = λ link frame exists is able. (accepts_at _ _ _ c.args.event.now _ _ c.step.ensures.steps link exists frame is able).silent

pub returns-clause-leaves : goal.returns-clause-leaves
returns-clause-leaves g c = λ link next exists becomes none. leaves_at _ _ _ c.args.event.now _ _ c.step.ensures.steps link exists next becomes none

pub returns-clause-holds : goal.returns-clause-holds
returns-clause-holds g c = λ link next exists becomes exchanging none. holds_at _ _ _ c.args.event.now _ _ c.step.ensures.steps link exists next becomes exchanging none

pub returns-clause-sends : goal.returns-clause-sends
returns-clause-sends g c = λ link exists is.
    sends_at c.frames_are_read.ensures.real_time _ _ _ c.args.event.now _ _ c.step.ensures.steps link exists is

pub returns-clause-runs : goal.returns-clause-runs
returns-clause-runs g c = λ link next exists becomes. runs_at _ _ _ c.args.event.now _ _ c.step.ensures.steps link exists next becomes
