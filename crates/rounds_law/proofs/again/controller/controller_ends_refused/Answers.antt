use Rattle.rounds_law.proofs.again.controller.controller_ends_refused.Goals as goal
use Rattle.rounds_law.proofs.AbandonedController.{connect_denied, connect_informs}
use Rattle.rounds_law.proofs.AgainAlone.{alone_unit}
use Rattle.rounds_law.proofs.AgainRefused.{ended_unit, refused, unset}

pub returns-clause-denied : goal.returns-clause-denied
returns-clause-denied c = connect_denied c.args.setup.now c.args.identity.now c.stations_are_real.ensures.setup c.stations_are_real.ensures.device
    c.responses_are_heard.ensures.controller

pub returns-clause-informed : goal.returns-clause-informed
returns-clause-informed c = connect_informs c.args.setup.now c.args.identity.now c.stations_are_real.ensures.setup c.stations_are_real.ensures.device
    c.responses_are_heard.ensures.controller

pub returns-clause-refused : goal.returns-clause-refused
returns-clause-refused c = refused c.args.setup.now c.args.identity.now c.stations_are_real.ensures.setup c.stations_are_real.ensures.device
    c.responses_are_heard.ensures.controller c.answers_are_heard.ensures.set

pub returns-clause-unset : goal.returns-clause-unset
returns-clause-unset c = unset c.args.setup.now c.args.identity.now c.stations_are_real.ensures.setup c.stations_are_real.ensures.device
    c.responses_are_heard.ensures.controller c.answers_are_heard.ensures.set

pub returns-clause-unit : goal.returns-clause-unit
returns-clause-unit c = λ why controller ended. ended_unit c.args.setup.now why controller ended

pub returns-clause-alone : goal.returns-clause-alone
returns-clause-alone c = λ serial controller left is. alone_unit c.args.setup.now serial c.args.identity.now.mac left controller is
