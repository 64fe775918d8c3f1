use Rattle.std.proofs.Common.{rules}
use Rattle.configurator.proofs.Dotted.{host_is, if_none, no_host}
use Rattle.configurator.proofs.addresses.host_of.Goals as goal

pub returns-in_err-address-clause-none : goal.returns-in_err-address-clause-none
returns-in_err-address-clause-none c = if_none _ _ (no_host c.args.controller.now _ (search rules) c.in_err-address.ensures.none)

pub returns-else-is_host-clause-none : goal.returns-else-is_host-clause-none
returns-else-is_host-clause-none c = λ address given.
    let host = host_is c.args.controller.now _ _ (search rules) c.in_ok-address.ensures.some address given in
    search rules
