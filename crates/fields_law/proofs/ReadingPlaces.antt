-- What is at a place of octets that are written part by part.
use Rattle.std.proofs.Common.{◌≡◌, ◌+◌, ◌^◌, ◌<◌, ◌++◌, ℕ, suc, Bool, true, false, List, [], ◌∷◌, drop, length, take, refl, sym, ap, ◌∙◌, append_assoc, arith}
use Rattle.std.proofs.lemmas.List.{drop-drop, length-append}
use Rattle.byteorder.specs.Endian.{big_bytes, big_number, little_bytes, little_number}
use Rattle.byteorder.specs.Numbers.{big_number-reads_back, little_number-reads_back}
use Rattle.rpc_core.specs.call_headers.Call.{in_order}
use Rattle.end_laws.specs.log_data.Reading.{number_at, octets_at}
use Rattle.fields_law.specs.Places.{ordered_at}

-- ---- parts, one after another

abbrev pub joined : List (List ℕ) → List ℕ → List ℕ
joined [] rest = rest
joined (part ∷ parts) rest = part ++ joined parts rest

abbrev pub total : List (List ℕ) → ℕ
total [] = 0
total (part ∷ parts) = length part + total parts

-- a place after some octets
pub past : (front rest : List ℕ) (more : ℕ) → drop (length front + more) (front ++ rest) ≡ drop more rest
past [] rest more = ap (λ (k : ℕ). drop k rest) (omega arith)
past (x ∷ xs) rest more =
    let step : suc (length xs) + more ≡ suc (length xs + more) = omega arith in
    ap (λ (k : ℕ). drop k (x ∷ (xs ++ rest))) step ∙ past xs rest more

after_parts : (parts : List (List ℕ)) (rest : List ℕ) → drop (total parts) (joined parts rest) ≡ rest
after_parts [] rest = refl
after_parts (part ∷ parts) rest = past part (joined parts rest) (total parts) ∙ after_parts parts rest

-- what follows the parts before a place
pub at_place : (whole rest : List ℕ) (parts : List (List ℕ)) (place : ℕ) → whole ≡ joined parts rest → total parts ≡ place → drop place whole ≡ rest
at_place whole rest parts place is long = ap (λ (k : ℕ). drop k whole) (sym long) ∙ ap (drop (total parts)) is ∙ after_parts parts rest

-- parts that are written as a chain of `++`
abbrev pub chained : List ℕ → List (List ℕ) → List ℕ
chained front [] = front
chained front (part ∷ parts) = chained (front ++ part) parts

pub spread : (front : List ℕ) (parts : List (List ℕ)) (rest : List ℕ) → chained front parts ++ rest ≡ front ++ joined parts rest
spread front [] rest = refl
spread front (part ∷ parts) rest = spread (front ++ part) parts rest ∙ append_assoc front part (joined parts rest)

-- a place after another one
pub beyond : (whole body rest : List ℕ) (front more : ℕ) → drop front whole ≡ body → drop more body ≡ rest → drop (front + more) whole ≡ rest
beyond whole body rest front more is then_is = sym (drop-drop more front whole) ∙ ap (drop more) is ∙ then_is

-- how long they are
pub joined_long : (parts : List (List ℕ)) (rest : List ℕ) → length (joined parts rest) ≡ total parts + length rest
joined_long [] rest = omega arith
joined_long (part ∷ parts) rest =
    let first = length-append part (joined parts rest) in
    let others = joined_long parts rest in
    omega (arith, first, others)

-- octets after them
pub joined_onto : (parts : List (List ℕ)) (rest more : List ℕ) → joined parts rest ++ more ≡ joined parts (rest ++ more)
joined_onto [] rest more = refl
joined_onto (part ∷ parts) rest more = append_assoc part (joined parts rest) more ∙ ap (λ (xs : List ℕ). part ++ xs) (joined_onto parts rest more)

-- the first part
pub front_of : (front rest : List ℕ) → take (length front) (front ++ rest) ≡ front
front_of [] rest = refl
front_of (x ∷ xs) rest = ap (λ (ys : List ℕ). x ∷ ys) (front_of xs rest)

-- ---- fields

-- a number, the highest octet first
pub number_is : {whole : List ℕ} (rest : List ℕ) (parts : List (List ℕ)) (place size value : ℕ) → whole ≡ joined parts (big_bytes size value ++ rest)
    → total parts ≡ place
    → value < 256 ^ size → number_at place size whole ≡ value
number_is {whole} rest parts place size value is long fits =
    ap (big_number size) (at_place whole (big_bytes size value ++ rest) parts place is long) ∙ big_number-reads_back size value rest fits

-- octets
pub octets_are : {whole : List ℕ} (rest : List ℕ) (parts : List (List ℕ)) (place size : ℕ) (octets : List ℕ) → whole ≡ joined parts (octets ++ rest)
    → total parts ≡ place
    → length octets ≡ size → octets_at place size whole ≡ octets
octets_are {whole} rest parts place size octets is long sized =
    ap (take size) (at_place whole (octets ++ rest) parts place is long) ∙ ap (λ (k : ℕ). take k (octets ++ rest)) (sym sized) ∙ front_of octets rest

-- a number in either byte order
abbrev pub ordered_bytes : Bool → ℕ → ℕ → List ℕ
ordered_bytes true size value = little_bytes size value
ordered_bytes false size value = big_bytes size value

pub written : (little : Bool) (size value : ℕ) (rest : List ℕ) → (in_order little size).write value rest ≡ ordered_bytes little size value ++ rest
unfolding in_order
written true size value rest = refl
written false size value rest = refl

pub ordered_back : (little : Bool) (whole rest : List ℕ) (place size value : ℕ) → drop place whole ≡ ordered_bytes little size value ++ rest
    → value < 256 ^ size
    → ordered_at little place size whole ≡ value
ordered_back true whole rest place size value is fits = ap (little_number size) is ∙ little_number-reads_back size value rest fits
ordered_back false whole rest place size value is fits = ap (big_number size) is ∙ big_number-reads_back size value rest fits

pub ordered_is : {whole : List ℕ} (rest : List ℕ) (little : Bool) (parts : List (List ℕ)) (place size value : ℕ)
    → whole ≡ joined parts (ordered_bytes little size value ++ rest)
    → total parts ≡ place → value < 256 ^ size → ordered_at little place size whole ≡ value
ordered_is {whole} rest little parts place size value is long fits =
    ordered_back little whole rest place size value (at_place whole (ordered_bytes little size value ++ rest) parts place is long) fits

-- the length of a number of two octets, and of four
pub two_long : (little : Bool) (value : ℕ) → length (ordered_bytes little 2 value) ≡ 2
two_long true value = refl
two_long false value = refl

pub four_long : (little : Bool) (value : ℕ) → length (ordered_bytes little 4 value) ≡ 4
four_long true value = refl
four_long false value = refl
