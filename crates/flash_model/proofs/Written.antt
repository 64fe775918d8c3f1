-- A loop that writes each item of a list in turn.
use Rattle.std.proofs.Common.{◌≡◌, ◌+◌, ◌<◌, ◌≤◌, ◌∙◌, ℕ, List, [], ◌∷◌, ◌++◌, length, take, drop, set, get_or, sym, ap, arith, rules}
use Rattle.std.proofs.lemmas.List.{places, length-take-le, take_all, drop_all, append-nil, append_assoc, drop_more, take_more, set_at}

-- the list so far: new before this index, and old from there on
abbrev pub written : List ℕ → List ℕ → ℕ → List ℕ
written done old place = take place done ++ drop place old

pub get_or-written : (done old : List ℕ) (place : ℕ) → length done ≡ length old → place < length old → get_or (written done old place) place 0 ≡ get_or old place 0
get_or-written done old place e h = search (rules, places)

written_more : (done old : List ℕ) (place byte : ℕ) → length done ≡ length old → place < length old → byte ≡ get_or done place 0 →
    set (written done old place) place byte ≡ written done old (place + 1)
written_more done old place byte e h b =
    let front : length (take place done) ≡ place = length-take-le place done (omega arith) in
    let rest = drop (place + 1) old in
    ap (λ r. set (take place done ++ r) place byte) (drop_more old place 0 h)
    ∙ set_at (take place done) (get_or old place 0) rest byte place front
    ∙ sym (append_assoc (take place done) (byte ∷ []) rest)
    ∙ ap (λ f. f ++ rest) (ap (λ x. take place done ++ x ∷ []) b ∙ sym (take_more done place 0 (omega arith)))

pub written_all : (done old now : List ℕ) (place : ℕ) → now ≡ written done old place → length done ≡ length old → length old ≤ place → now ≡ done
written_all done old now place w e h =
    let short : length done ≤ place = omega arith in
    w ∙ ap (λ f. f ++ drop place old) (take_all place done short) ∙ ap (λ r. done ++ r) (drop_all place old h) ∙ append-nil done

-- one more item, made from the old one
pub written_step : (done old now : List ℕ) (place : ℕ) (make : ℕ → ℕ) → now ≡ written done old place → length done ≡ length old → place < length old →
    get_or done place 0 ≡ make (get_or old place 0) → set now place (make (get_or now place 0)) ≡ written done old (place + 1)
written_step done old now place make w e h b =
    let was : get_or now place 0 ≡ get_or old place 0 = ap (λ s. get_or s place 0) w ∙ get_or-written done old place e h in
    ap (λ s. set s place (make (get_or now place 0))) w
    ∙ written_more done old place (make (get_or now place 0)) e h (ap make was ∙ sym b)
