-- What the services do beside the step of the port, if there are any.
use Rattle.std.proofs.Common.{Option, Some, ap, subst}
use Rattle.device_station.specs.Beside.{Beside}
use Rattle.device_station.specs.Serving.{Serving}
use Rattle.device_station.specs.port.ServedSteps.{IsNoticed}
use Rattle.device_station.proofs.port.beside.follow.Goals as goal

pub follow_of-requires-clause-known : goal.follow_of-requires-clause-known
follow_of-requires-clause-known c = subst (λ (o : Option Serving). IsNoticed c.args.port.now o c.args.octets.now c.args.note) c.in-Some.is c.requires.known

pub returns-in-Some-clause-beside : goal.returns-in-Some-clause-beside
returns-in-Some-clause-beside c =
    let does = c.follow_of.ensures.beside in
    rw c.in-Some.is (ap (λ (b : Beside). let o : Option Serving = Some b.services in o) does, ap (λ (b : Beside). b.sent) does, ap (λ (b : Beside). b.note) does)

pub returns-in-Some-clause-gives : goal.returns-in-Some-clause-gives
returns-in-Some-clause-gives c = rw c.in-Some.is c.follow_of.ensures.gives
