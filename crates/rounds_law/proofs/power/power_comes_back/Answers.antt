-- By the law of a deserted controller.
use Rattle.rounds_law.proofs.PowerBack.{deserted}
use Rattle.rounds_law.specs.Power.{powered}
use Rattle.rounds_law.proofs.power.power_comes_back.Goals as goal

pub returns-clause-deserts : goal.returns-clause-deserts
returns-clause-deserts g c = λ left plant device can is.
    deserted g.F.Flash c.args.setup.now c.args.next.now c.args.identity.now left plant device can is

pub returns-clause-back : goal.returns-clause-back
returns-clause-back g c = λ first second starts pause left long plant device can is.
    c.both_ends_come_back.ensures.deserted first second starts pause left long (powered device plant)
    (deserted g.F.Flash c.args.setup.now c.args.next.now c.args.identity.now left plant device can is)
