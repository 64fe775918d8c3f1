-- The test agrees with the definition.
use Rattle.std.proofs.lemmas.Bool.Decides.{same_from_decides}
use Rattle.std.specs.Prelude.{is_some}
use Rattle.pn_values.proofs.Suites.{Decides-suite}
use Rattle.pn_values.proofs.ip_suite.IpSuite.new.Goals as goal

pub returns-clause-test : goal.returns-clause-test
returns-clause-test c =
    same_from_decides (is_some c.suite_of.result) _ c.suite_of.ensures.valid (Decides-suite (record { address = c.args.address; mask = c.args.mask; gateway = c.args.gateway }))
