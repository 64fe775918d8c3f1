use Rattle.std.proofs.Common.{rules, sym}
use Rattle.configurator.proofs.Alike.{handled_alike}
use Rattle.configurator.proofs.allowed.are_allowed.Goals as goal

pub returns : goal.returns
returns c =
    let alike = handled_alike c.args.catalogue.now c.in_ok-known.known c.in_ok-known.ensures in
    rw (sym alike) (search rules)
