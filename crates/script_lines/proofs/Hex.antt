-- Hex digits, read and written in place.
use Rattle.std.proofs.Common.{◌≡◌, ℕ, zero, suc, ◌+◌, ◌-◌, ◌*◌, ◌/◌, ◌%◌, ◌<◌, ◌==◌, ◌&&◌, nat_lt, Bool, true, false, List, length, take, drop, slice_index, slice_index_or, if◌then◌else◌, Option, Some, None, is_some, Result, Ok, Err, IsErr, inl, inr, refl, arith, ap, sym, ◌∙◌}
use Rattle.std.proofs.lemmas.Bool.{and_parts, cases_lt, eqb-true}
use Rattle.std.proofs.lemmas.Bool.Decides.{nat_tests}
use Rattle.std.proofs.lemmas.List.{drop-drop}
use Rattle.std.proofs.lemmas.List.Elements.{All-get_or, All-more}
use Rattle.std.specs.List.{AllPass}
use Rattle.std.specs.Char.{is_ascii_hexdigit}
use Rattle.std.specs.Int.{w16, from_le_bytes}
use Rattle.std.specs.Simd.{first_chunks}
use Rattle.hex.specs.Hex.{decode_of, digit_or_error, hex_digit_value, is_hex_digit, lower_digits, pair_value, value_at}
use Rattle.hex.specs.declared.error.FromHexError.{FromHexError}
use Rattle.hex.proofs.HexLemmas.{decode_of-ok}
use Rattle.hex.proofs.Pairs.{drop-pair}
use Rattle.script_lines.specs.Line.{bytes_of, if_decoded}

-- Digits that were decoded.
pub bytes_decoded : (digits bytes : List ℕ) → 0 < length digits → decode_of digits ≡ Ok bytes → Some bytes ≡ bytes_of digits
bytes_decoded digits bytes some e =
    let same : Some bytes ≡ if_decoded (decode_of digits) = sym (ap if_decoded e) in
    grind (arith, nat_tests)

-- A pair of valid digits is read.
pub pair_read : (first second i high low : ℕ) → hex_digit_value first ≡ Some high → hex_digit_value second ≡ Some low → pair_value first second i ≡ Ok (high * 16 + low)
pair_read first second i high low is_high is_low =
    let a : value_at first i ≡ Ok high = ap (digit_or_error first i) is_high in
    let b : value_at second (i + 1) ≡ Ok low = ap (digit_or_error second (i + 1)) is_low in
    rw (a, b) refl

-- The test of the digits before a place: whether they are hex digits.
pub record AreTested (digits : List ℕ) (are : Bool) (place : ℕ) : Type 0 where
  pub good : are ≡ true → AllPass is_hex_digit (take place digits)
  pub bad : AllPass is_hex_digit digits → are ≡ true

-- The fact that a byte is a hex digit.
abbrev digit_holds : ℕ → Type 0
digit_holds c = is_hex_digit c ≡ true

-- The two tests of a digit agree.
same_test : (digit : ℕ) → is_ascii_hexdigit digit ≡ is_hex_digit digit
same_test digit = grind (arith, nat_tests)

-- The test after one more digit.
pub tested_on : (digits : List ℕ) (are is : Bool) (place : ℕ) → place < length digits → is ≡ is_ascii_hexdigit (slice_index digits place) → AreTested digits are place
    → AreTested digits (are && is) (place + 1)
tested_on digits are is place fits tested was =
    let same : is ≡ is_hex_digit (slice_index digits place) = tested ∙ same_test (slice_index digits place) in
    record {
      good = λ e.
          let parts = and_parts are is e in
          All-more digit_holds digits place 0 fits (was.good parts.0) (sym same ∙ parts.1);
      bad = λ all.
          let before = was.bad all in
          let here : is ≡ true = same ∙ All-get_or digit_holds digits place 0 fits all in
          rw (before, here) refl;
    }

-- If decoding fails, a byte is not a hex digit.
refused_of : (digits : List ℕ) (result : Result (List ℕ) FromHexError) → decode_of digits ≡ result → (AllPass is_hex_digit digits → false ≡ true) → IsErr (decode_of digits)
refused_of digits (Ok bytes) is not = let no = not (decode_of-ok digits bytes is).1 in cc no
refused_of digits (Err fault) is not = rw is refl

pub refused : (digits : List ℕ) → (AllPass is_hex_digit digits → false ≡ true) → IsErr (decode_of digits)
refused digits not = refused_of digits (decode_of digits) refl not

-- ---- two digits loaded at once

-- The pair of digits with an index.
chunk_at : (k place : ℕ) (digits : List ℕ) (d : List ℕ) → place < k → slice_index_or (first_chunks 2 k digits) place d ≡ take 2 (drop (2 * place) digits)
chunk_at zero place digits d below = absurd (omega arith)
chunk_at (suc k) zero digits d below = refl
chunk_at (suc k) (suc place) digits d below =
    let further : 2 * suc place ≡ 2 + 2 * place = omega arith in
    chunk_at k place (drop 2 digits) d (omega arith) ∙ ap (take 2) (rw further (drop-drop (2 * place) 2 digits))

-- The number that is loaded for a pair.
pub loaded : (k place : ℕ) (digits : List ℕ) (d : List ℕ) → place < k → 2 * place + 1 < length digits
    → from_le_bytes w16 (slice_index_or (first_chunks 2 k digits) place d) ≡ slice_index digits (2 * place) + 256 * slice_index digits (2 * place + 1)
loaded k place digits d below fits =
    let e = chunk_at k place digits d below ∙ ap (take 2) (drop-pair digits place fits) in
    rw e (omega arith)

-- The number that is loaded for a pair of the digits.
pub pair_of : (digits : List ℕ) (pairs : List (List ℕ)) (k place pair : ℕ) (d : List ℕ) → pairs ≡ first_chunks 2 k digits → place < k → 2 * place + 1 < length digits
    → pair ≡ from_le_bytes w16 (slice_index_or pairs place d) → pair ≡ slice_index digits (2 * place) + 256 * slice_index digits (2 * place + 1)
pair_of digits pairs k place pair d same below fits is = is ∙ ap (λ p. from_le_bytes w16 (slice_index_or p place d)) same ∙ loaded k place digits d below fits

some_of : (o : Option ℕ) → is_some o ≡ true → (v : ℕ) × (o ≡ Some v)
some_of (Some v) is = (v, refl)
some_of None is = cc is

small_value : (digit value : ℕ) → hex_digit_value digit ≡ Some value → value < 16
small_value digit value is = grind (arith, nat_tests)

small_digit : (digit value : ℕ) → hex_digit_value digit ≡ Some value → digit < 256
small_digit digit value is = grind (arith, nat_tests)

-- The byte that a loaded pair gives.
pub record IsJoined (digits : List ℕ) (place byte : ℕ) : Type 0 where
  pub value : pair_value (slice_index digits (2 * place)) (slice_index digits (2 * place + 1)) (2 * place) ≡ Ok byte
  pub small : byte < 256

-- The value of a digit.
value_is : (digit value : ℕ) → hex_digit_value digit ≡ Some value → digit % 16 + 9 * (digit / 64) ≡ value
value_is digit value is = grind (arith, nat_tests)

-- The values of two digits, each in an octet of its own.
pub values_are : (pair first second : ℕ) → pair < 65536 → hex_digit_value (pair % 256) ≡ Some first → hex_digit_value (pair / 256) ≡ Some second
    → pair % 16 + pair / 256 % 16 * 256 + 9 * (pair / 64 % 4 + pair / 16384 * 256) ≡ first + 256 * second
values_are pair first second few is_first is_second =
    omega (arith, few, value_is (pair % 256) first is_first, value_is (pair / 256) second is_second)

-- Sixteen times the first of two values, plus the second.
upper : (both product first second : ℕ) → first < 16 → second < 16 → both ≡ first + 256 * second → product ≡ (both * 4097) % 65536 → product / 256 ≡ first * 16 + second
upper both product first second below_first below_second is by = omega (arith, below_first, below_second, is, by)

pub joined : (digits : List ℕ) (place pair both product : ℕ) → 2 * place + 1 < length digits → AllPass is_hex_digit digits
    → pair ≡ slice_index digits (2 * place) + 256 * slice_index digits (2 * place + 1)
    → ((high low : ℕ) → hex_digit_value (pair % 256) ≡ Some high → hex_digit_value (pair / 256) ≡ Some low → both ≡ high + 256 * low)
    → product ≡ (both * 4097) % 65536
    → IsJoined digits place (product / 256)
joined digits place pair both product fits all is are by =
    let first = slice_index digits (2 * place) in
    let second = slice_index digits (2 * place + 1) in
    let a = some_of (hex_digit_value first) (All-get_or digit_holds digits (2 * place) 0 (omega arith) all) in
    let b = some_of (hex_digit_value second) (All-get_or digit_holds digits (2 * place + 1) 0 fits all) in
    let below_a = small_digit first a.0 a.1 in
    let below_b = small_digit second b.0 b.1 in
    let is_first : pair % 256 ≡ first = omega (arith, is, below_a, below_b) in
    let is_second : pair / 256 ≡ second = omega (arith, is, below_a, below_b) in
    let values = are a.0 b.0 (ap hex_digit_value is_first ∙ a.1) (ap hex_digit_value is_second ∙ b.1) in
    let byte = upper both product a.0 b.0 (small_value first a.0 a.1) (small_value second b.0 b.1) values by in
    record {
      value = rw byte (pair_read first second (2 * place) a.0 b.0 a.1 b.1);
      small = omega (arith, byte, small_value first a.0 a.1, small_value second b.0 b.1);
    }

-- ---- digits that are written

-- The code of a digit.
abbrev pub code_of : ℕ → ℕ
code_of value = if nat_lt value 10 then value + 48 else value - 10 + 97

are_codes : ℕ → Bool
are_codes zero = true
are_codes (suc n) = (slice_index lower_digits n == code_of n) && are_codes n

code_below : (n value : ℕ) → are_codes n ≡ true → value < n → slice_index lower_digits value ≡ code_of value
unfolding are_codes
code_below zero value are below = absurd (omega arith)
code_below (suc n) value are below =
    let parts = and_parts (slice_index lower_digits n == code_of n) (are_codes n) are in
    elim (cases_lt value n) [
      | inl further ↦ code_below n value parts.1 further
      | inr top ↦
          let e : value ≡ n = omega arith in
          rw e (eqb-true (slice_index lower_digits n) (code_of n) parts.0)
    ]

pub code_is : (value : ℕ) → value < 16 → slice_index lower_digits value ≡ code_of value
unfolding are_codes
code_is value below = code_below 16 value refl below
