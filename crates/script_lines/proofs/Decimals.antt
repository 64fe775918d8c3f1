-- Decimal digits, read from the first one on.
use Rattle.std.proofs.Common.{◌≡◌, ℕ, ◌+◌, ◌-◌, ◌*◌, ◌<◌, List, [], ◌∷◌, if◌then◌else◌, Some, None, true, false, suc, arith, refl}
use Rattle.std.proofs.Common.{length, drop, get_or, ap, ◌∙◌}
use Rattle.std.proofs.Math.Seq.{drop-cons}
use Rattle.std.proofs.lemmas.Bool.Decides.{nat_tests}
use Rattle.script_lines.specs.Numbers.{is_digit, digits_from, at_most}

not_most : (most number : ℕ) → most < number → at_most most (Some number) ≡ None
not_most most number h = grind (arith, nat_tests)

-- A number that is too great stays too great.
pub too_great : (most number : ℕ) (digits : List ℕ) → most < number → at_most most (digits_from number digits) ≡ None
too_great most number [] h = not_most most number h
too_great most number (digit ∷ digits) h = (elim (is_digit digit) as (λ b. at_most most (if b then digits_from (number * 10 + (digit - 48)) digits else None) ≡ None) [
  | true ↦ too_great most (number * 10 + (digit - 48)) digits (omega arith)
  | false ↦ refl
])

-- A digit that makes the number too great.
pub past_most : (most number i : ℕ) (digits : List ℕ) → i < length digits → is_digit (get_or digits i 0) ≡ true → most < number * 10 + (get_or digits i 0 - 48) → at_most most (digits_from number (drop i digits)) ≡ None
past_most most number i digits within digit past =
    let rest = drop (suc i) digits in
    let value = number * 10 + (get_or digits i 0 - 48) in
    ap (λ ds. at_most most (digits_from number ds)) (drop-cons digits i 0 within)
    ∙ ap (λ b. at_most most (if b then digits_from value rest else None)) digit
    ∙ too_great most value rest past
