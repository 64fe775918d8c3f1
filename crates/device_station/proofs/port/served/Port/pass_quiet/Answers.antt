-- Units pass that surely bring nothing, or as far as it is found that they do.
use Rattle.std.proofs.Common.{subst, refl, arith}
use Rattle.device_station.specs.port.Served.{Served}
use Rattle.device_station.specs.port.ServedSteps.{QuietOrNot}
use Rattle.device_station.proofs.port.served.Port.pass_quiet.Goals as goal

pub returns-in-Some : goal.returns-in-Some
returns-in-Some c =
    let glides = c.in-Some.ensures in (
      glides.0,
      record {
        few = omega arith;
        ticks = glides.1.ticks;
        none = λ some. omega (arith, glides.4);
        free = glides.5;
        stops = λ some. absurd (some refl);
      },
    )

pub returns-in-None : goal.returns-in-None
returns-in-None c =
    subst (λ (s : Served). QuietOrNot s c.args.units c.pass_some.result c.pass_some.new.self) c.in-None.ensures c.pass_some.ensures
