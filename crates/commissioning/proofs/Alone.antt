-- A station that is found alone is the only one that answered.
use Rattle.std.proofs.Common.{◌≡◌, ℕ, Bool, true, false, List, [], ◌∷◌, Option, refl, sym, ◌∙◌}
use Rattle.std.specs.Prelude.{nat_eq, take, option_map, if◌then◌else◌}
use Rattle.std.specs.Cmp.Lexicographic.{pointwise, same_text}
use Rattle.commissioning.specs.Place.{AreFrom, One, Several, after_all, last_told}

-- Of two stations no answer makes one.
several : (answers : List (List ℕ × Option (List ℕ))) (first other mac : List ℕ) (last : Option (List ℕ)) → after_all (Several first other) answers ≡ One mac last → ⊥
several [] first other mac last e = cc e
several (answer ∷ answers) first other mac last e = several answers first other mac last e

-- What holds after an answer of a station that is alone.
by_same : (same : Bool) (first other : List ℕ) (told : Option (List ℕ)) (answers : List (List ℕ × Option (List ℕ))) (mac : List ℕ) (last : Option (List ℕ))
    → pointwise nat_eq first other ≡ same → after_all (if same then One other told else Several first other) answers ≡ One mac last
    → (after_all (One other told) answers ≡ One mac last → (other ≡ mac) × AreFrom mac answers × (last_told told answers ≡ last))
    → (first ≡ mac) × (other ≡ mac × AreFrom mac answers) × (last_told told answers ≡ last)
by_same true first other told answers mac last same e rest =
    let alone = rest e in
    (same_text first other (sym same) ∙ alone.0, (alone.0, alone.1), alone.2)
by_same false first other told answers mac last same e rest = absurd (several answers first other mac last e)

-- A station that is alone after answers was alone before them, and each came from it.
pub alone : (answers : List (List ℕ × Option (List ℕ))) (first mac : List ℕ) (name last : Option (List ℕ)) → after_all (One first name) answers ≡ One mac last
    → (first ≡ mac) × AreFrom mac answers × (last_told name answers ≡ last)
alone [] first mac name last e = (cc e, tt, cc e)
alone (answer ∷ answers) first mac name last e =
    by_same (pointwise nat_eq first answer.0) first answer.0 (option_map (take 240) answer.1) answers mac last refl e
    (alone answers answer.0 mac (option_map (take 240) answer.1) last)
