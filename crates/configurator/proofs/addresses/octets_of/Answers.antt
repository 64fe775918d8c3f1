use Rattle.std.proofs.Common.{subst, sym, List, ℕ}
use Rattle.std.specs.Net.Grammar.{IsDotted}
use Rattle.configurator.proofs.Dotted.{address_of}
use Rattle.configurator.proofs.addresses.octets_of.Goals as goal

pub returns-in-Err-clause-none : goal.returns-in-Err-clause-none
returns-in-Err-clause-none c = λ octets given. c.in-Err.ensures (address_of octets) (subst (λ (t : List ℕ). IsDotted t octets) (sym c.as_bytes.ensures.value) given)
