use Rattle.std.proofs.Common.{rules}
use Rattle.configurator.proofs.Dotted.{if_none, no_address, no_gateway, no_mask, no_suite}
use Rattle.configurator.proofs.addresses.suite_of.Goals as goal

pub returns-in_err-address-clause-none : goal.returns-in_err-address-clause-none
returns-in_err-address-clause-none c = if_none _ _ (no_address c.args.station.now _ (search rules) c.in_err-address.ensures.none)

pub returns-in_err-mask-clause-none : goal.returns-in_err-mask-clause-none
returns-in_err-mask-clause-none c = if_none _ _ (no_mask c.args.station.now _ (search rules) c.in_err-mask.ensures.none)

pub returns-in_err-gateway-clause-none : goal.returns-in_err-gateway-clause-none
returns-in_err-gateway-clause-none c = if_none _ _ (no_gateway c.args.station.now _ (search rules) c.in_err-gateway.ensures.none)

pub returns-clause-none : goal.returns-clause-none
returns-clause-none c =
    no_suite c.args.station.now c.as_str.result.now c.as_str-2.result.now c.as_str-3.result.now _ _ _ (search rules) (search rules) (search rules)
    c.in_ok-address.ensures.some c.in_ok-mask.ensures.some c.in_ok-gateway.ensures.some c.new.result c.new.ensures.valid
