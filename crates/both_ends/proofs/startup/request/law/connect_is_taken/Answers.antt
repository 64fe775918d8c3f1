-- Each block of the Connect is read as it was written.
use Rattle.std.proofs.lemmas.Nat.{mul-le}
use Rattle.both_ends.specs.startup.request.Request.{request_for}
use Rattle.plans.specs.Connect.{connect_of}
use Rattle.both_ends.proofs.StartupRequestOwn.{taken_of_own}
use Rattle.both_ends.proofs.startup.request.law.connect_is_taken.Goals as goal

pub returns-clause-read : goal.returns-clause-read
returns-clause-read c = λ some. c.requests_are_read.ensures.read c.args.plan.now c.args.ar.now c.real-modules.ensures.valid (c.connect-octets.ensures.read some)

pub returns-clause-same : goal.returns-clause-same
returns-clause-same c = c.requests_are_read.ensures.same c.args.plan.now c.args.ar.now c.real-modules.ensures.valid

pub returns-clause-within : goal.returns-clause-within
returns-clause-within c = λ smallest some least.
    c.intervals_are_kept.ensures.same smallest (connect_of c.args.plan.now c.args.ar.now) (request_for c.args.plan.now c.args.ar.now) (returns-clause-read c some) least least

pub returns-clause-own : goal.returns-clause-own
returns-clause-own c = λ options some least.
    taken_of_own options c.args.plan.now.controller.mac (connect_of c.args.plan.now c.args.ar.now) (request_for c.args.plan.now c.args.ar.now)
    (c.requests_are_read.ensures.initiator c.args.plan.now c.args.ar.now (c.connect-octets.ensures.read some))
    (returns-clause-within c options.smallest_interval some least)

pub returns-clause-least : goal.returns-clause-least
returns-clause-least c =
    let good = c.real-modules.ensures.valid.good in
    mul-le 1 1 c.args.plan.now.times.send_clock_factor c.args.plan.now.times.reduction_ratio good.clock_least good.ratio_least
