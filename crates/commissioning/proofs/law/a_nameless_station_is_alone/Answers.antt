-- By induction over the answers.
use Rattle.std.proofs.Common.{◌≡◌, ◌≢◌, ℕ, List, [], ◌∷◌, Option, Some, None}
use Rattle.std.specs.Prelude.{take, option_map}
use Rattle.commissioning.specs.Place.{AreFrom, Nobody, One, after_all, last_told}
use Rattle.commissioning.proofs.Alone.{alone}
use Rattle.commissioning.proofs.law.a_nameless_station_is_alone.Goals as goal

all_from : (answers : List (List ℕ × Option (List ℕ))) (mac : List ℕ) → after_all Nobody answers ≡ One mac (Some []) → (answers ≢ []) × AreFrom mac answers × (last_told None answers ≡ Some [])
all_from [] mac e = absurd cc
all_from (answer ∷ answers) mac e =
    let rest = alone answers answer.0 mac (option_map (take 240) answer.1) (Some []) e in
    (λ none. cc none, (rest.0, rest.1), rest.2)

pub returns : goal.returns
returns c = all_from
