-- A word that does not spell a UUID.
use Rattle.std.proofs.Common.{◌≡◌, true, false, List, ℕ, IfOk, IsOk, Option, Some, None, Result, Ok, Err, refl}
use Rattle.std.specs.Result.{result_ok}

none : (found : Option (List ℕ)) → false ≡ true → None ≡ found
none found contrary = cc

pub unparsed : (found : Option (List ℕ)) → ((identifier : List ℕ) → found ≡ Some identifier → false ≡ true) → None ≡ found
unparsed None fails = refl
unparsed (Some identifier) fails = none (Some identifier) (fails identifier refl)

-- What was read, if it was: the identifier that the word spells, or none.
pub parsed_or_none : {E : Type 0} (came : Result (List ℕ) E) (found : Option (List ℕ)) → IfOk came (λ identifier. Some identifier ≡ found)
    → ((identifier : List ℕ) × (found ≡ Some identifier) → IsOk came) → result_ok came ≡ found
parsed_or_none (Ok identifier) found is from = is
parsed_or_none (Err fault) found is from = unparsed found (λ identifier spells. from (identifier, spells))
