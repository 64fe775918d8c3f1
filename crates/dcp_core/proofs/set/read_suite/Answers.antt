-- The check of the suite agrees with its test in the definition.
use Rattle.std.proofs.Common.{◌≡◌, ℕ, List, length, take, drop, refl, sym, ap, ◌∙◌, subst, arith}
use Rattle.std.specs.Prelude.{◌==◌, ◌&&◌, ◌↔◌, Option, IsSome, IfSome, IsTrue, is_some}
use Rattle.std.proofs.lemmas.Grind.{common_steps}
use Rattle.std.proofs.lemmas.List.{drop-drop}
use Rattle.pn_values.specs.IpSuite.{Suite, is_suite}
use Rattle.dcp_core.specs.Set.{suite_in}
use Rattle.dcp_core.proofs.set.read_suite.Goals as goal

-- the parts are those of the twelve bytes
parts_are : (value address rest mask rest2 gateway : List ℕ) → address ≡ take 4 value → rest ≡ drop 4 value → mask ≡ take 4 rest
    → rest2 ≡ drop 4 rest → gateway ≡ take 4 rest2 → record { address = address; mask = mask; gateway = gateway } ≡ suite_in value
parts_are value address rest mask rest2 gateway a r m s g =
    let third : gateway ≡ take 4 (drop 8 value) = g ∙ ap (λ (xs : List ℕ). take 4 xs) (s ∙ ap (λ (xs : List ℕ). drop 4 xs) r ∙ drop-drop 4 4 value) in
    let second : mask ≡ take 4 (drop 4 value) = m ∙ ap (λ (xs : List ℕ). take 4 xs) r in
    λ i. record { address = a i; mask = second i; gateway = third i }

-- whether the parts are a valid suite
valid_from : {X : Type 0} (option : Option X) (value : List ℕ) (parts : Suite) → length value ≡ 12 → parts ≡ suite_in value
    → is_some option ≡ is_suite parts → IsSome option ↔ IsTrue ((length value == 12) && is_suite (suite_in value))
valid_from option value parts long same test =
    let all : ((length value == 12) && is_suite (suite_in value)) ≡ is_suite (suite_in value) = rw long refl in
    let answer : is_some option ≡ ((length value == 12) && is_suite (suite_in value)) = test ∙ ap is_suite same ∙ sym all in
    (λ some. sym answer ∙ some, λ yes. answer ∙ yes)

pub returns-clause-valid : goal.returns-clause-valid
returns-clause-valid c =
    let first = c.in_ok-address.ensures.cases in
    let second = c.in_ok-mask.ensures.cases in
    let third = c.in_ok-gateway.ensures.cases in
    let same = parts_are c.args.value.now _ _ _ _ _ first.0 first.1 second.0 second.1 third.0 in
    valid_from c.new.result c.args.value.now _ (grind (arith, common_steps)) same c.new.ensures.test

pub returns-clause-value : goal.returns-clause-value
returns-clause-value c =
    let first = c.in_ok-address.ensures.cases in
    let second = c.in_ok-mask.ensures.cases in
    let third = c.in_ok-gateway.ensures.cases in
    let same = parts_are c.args.value.now _ _ _ _ _ first.0 first.1 second.0 second.1 third.0 in
    subst (λ (parts : Suite). IfSome c.new.result (λ suite. suite ≡ parts)) same c.new.ensures.value
