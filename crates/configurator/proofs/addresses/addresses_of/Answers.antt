use Rattle.std.proofs.Common.{rules}
use Rattle.configurator.proofs.Dotted.{if_none, no_mac}
use Rattle.configurator.proofs.addresses.addresses_of.Goals as goal

pub returns-in_err-mac-clause-none : goal.returns-in_err-mac-clause-none
returns-in_err-mac-clause-none c = if_none _ _ (no_mac c.args.project.now _ (search rules) c.in_err-mac.ensures.none)
