use Rattle.rounds_law.proofs.AbandonedController.{denied_heard, released_heard, releasing_unit, tried_heard, unit_passed}
use Rattle.rounds_law.proofs.ControllerCallingAsks.{count_few}
use Rattle.rounds_law.proofs.again.abandoned.controller_ends_halfway.Goals as goal

pub returns-clause-few : goal.returns-clause-few
returns-clause-few c = count_few c.args.setup.now.plan c.stations_are_real.ensures.setup.plan

pub returns-clause-denied : goal.returns-clause-denied
returns-clause-denied c = denied_heard c.args.setup.now c.args.identity.now c.stations_are_real.ensures.setup c.stations_are_real.ensures.device
    c.responses_are_heard.ensures.controller

pub returns-clause-tried : goal.returns-clause-tried
returns-clause-tried c = tried_heard c.args.setup.now c.args.identity.now c.stations_are_real.ensures.setup c.stations_are_real.ensures.device
    c.responses_are_heard.ensures.controller

pub returns-clause-unit : goal.returns-clause-unit
returns-clause-unit c = unit_passed c.args.setup.now c.args.identity.now c.stations_are_real.ensures.setup c.stations_are_real.ensures.device
    c.responses_are_heard.ensures.controller

pub returns-clause-released : goal.returns-clause-released
returns-clause-released c = released_heard c.args.setup.now c.args.identity.now c.stations_are_real.ensures.setup c.stations_are_real.ensures.device
    c.responses_are_heard.ensures.controller

pub returns-clause-releasing : goal.returns-clause-releasing
returns-clause-releasing c = releasing_unit c.args.setup.now c.args.identity.now
