-- The iterator chain tests whether all octets are zero.
use Rattle.std.proofs.Common.{◌≡◌, true, eqb, rules, tests, refl, sym, ◌∙◌}
use Rattle.std.specs.List.{list_all}
use Rattle.std.proofs.lemmas.Iterator.{YieldsList-from_slice}
use Rattle.std.proofs.lemmas.Iterator.Search.{all_from_yields_List}
use Rattle.dcp_core.proofs.identify.info_of.Goals as goal

pub returns-then-all : goal.returns-then-all
returns-then-all c =
    let all = all_from_yields_List (λ octet. eqb octet 0) _ _ c.all.result c.all.ensures.ran (YieldsList-from_slice c.args.octets.now cc) (λ x b q k. search (rules, tests)) in
    let yes : list_all (λ octet. eqb octet 0) c.args.octets.now ≡ true = sym all ∙ c.if-all.true in
    rw yes refl
