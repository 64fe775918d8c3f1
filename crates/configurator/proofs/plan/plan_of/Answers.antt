use Rattle.std.proofs.Common.{rules}
use Rattle.configurator.proofs.Dotted.{none_of}
use Rattle.configurator.proofs.plan.plan_of.Goals as goal

pub returns-in-None-addresses_of : goal.returns-in-None-addresses_of
returns-in-None-addresses_of c = (search rules, none_of c.args.catalogue.now.project _ c.addresses_of.result (search rules) (search rules) c.addresses_of.ensures.none)
