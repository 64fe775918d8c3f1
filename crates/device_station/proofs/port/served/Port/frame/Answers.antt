-- It is cyclic data, or any other frame.
use Rattle.std.proofs.Common.{subst, take}
use Rattle.device_frames.specs.declared.event.Event.TheVariants.{Frame}
use Rattle.device_station.specs.port.Served.{Served}
use Rattle.device_station.specs.port.ServedSteps.{AnswersBoth}
use Rattle.device_station.proofs.port.served.Port.frame.Goals as goal

pub returns-then-take_cyclic : goal.returns-then-take_cyclic
returns-then-take_cyclic c = c.take_cyclic.ensures.taken c.if-take_cyclic.true

pub returns : goal.returns
returns c =
    subst (λ (s : Served). AnswersBoth s (Frame (record { items = take 1519 c.args.octets.now })) c.hear.result c.hear.new.self) (c.take_cyclic.ensures.left c.if-take_cyclic.false) c.hear.ensures
