-- Bytes are cut at a separator, and a text is cut into lines.
use Rattle.std.proofs.Common.{◌≡◌, ◌≢◌, ℕ, ◌+◌, ◌-◌, ◌==◌, ◌<◌, ◌≤◌, Bool, true, false, List, [], ◌∷◌, Some, None, length, take, drop, arith, cond, refl, ap, sym, ◌∙◌, not}
use Rattle.std.specs.List.{slice_split, onto_first, position, position_or_len, join_with_byte}
use Rattle.std.specs.Str.Lines.{lines, lines_of_parts, strip_carriage_return}
use Rattle.std.proofs.lemmas.List.Splits.{slice_split_first, length-slice_split, join_with_byte-slice_split}
use Rattle.std.proofs.lemmas.List.{take_rest}
use Rattle.std.proofs.lemmas.Bool.Decides.{nat_tests}
use Rattle.std.proofs.lemmas.Option.{cond_some}

-- Bytes without the separator are one part.
whole_part : (p : ℕ → Bool) (xs : List ℕ) → length xs ≤ position_or_len p xs → slice_split p xs ≡ xs ∷ []
whole_part p [] h = refl
whole_part p (x ∷ xs) h =
    (elim (p x) as (λ b. length (x ∷ xs) ≤ cond (not b) (1 + position_or_len p xs) 0 → cond b ([] ∷ slice_split p xs) (onto_first x (slice_split p xs)) ≡ (x ∷ xs) ∷ []) [
      | true ↦ λ h. absurd (omega arith)
      | false ↦ λ h. let ih = whole_part p xs (omega arith) in rw ih refl
    ]) h

nowhere : (c : ℕ) (xs : List ℕ) → position (λ b. b == c) xs ≡ None → length xs ≤ position_or_len (λ b. b == c) xs
nowhere c xs e = grind (arith, nat_tests)

pub cut_none : (c : ℕ) (xs : List ℕ) → position (λ b. b == c) xs ≡ None → slice_split (λ b. b == c) xs ≡ xs ∷ []
cut_none c xs e = whole_part (λ b. b == c) xs (nowhere c xs e)

pub cut_some : (c place : ℕ) (xs : List ℕ) → position (λ b. b == c) xs ≡ Some place → slice_split (λ b. b == c) xs ≡ take place xs ∷ slice_split (λ b. b == c) (take (length xs - (place + 1)) (drop (place + 1) xs))
cut_some c place xs e =
    let h = cond_some _ _ _ e in
    let within : position_or_len (λ b. b == c) xs < length xs = grind (arith, nat_tests, h.0) in
    rw (take_rest xs (place + 1)) (rw h.1 at (slice_split_first (λ b. b == c) xs 0 within))

split_parts : (parts : List (List ℕ)) → 0 < length parts → (first : List ℕ) × (more : List (List ℕ)) × (parts ≡ first ∷ more)
split_parts [] h = absurd (omega arith)
split_parts (first ∷ more) h = (first, more, refl)

-- There is a first part.
pub some_part : (p : ℕ → Bool) (xs : List ℕ) → (first : List ℕ) × (more : List (List ℕ)) × (slice_split p xs ≡ first ∷ more)
some_part p xs = split_parts (slice_split p xs) (omega (arith, length-slice_split p xs))

lines_of_more : (line : List ℕ) (parts : List (List ℕ)) → 0 < length parts → lines_of_parts (line ∷ parts) ≡ strip_carriage_return line ∷ lines_of_parts parts
lines_of_more line [] h = absurd (omega arith)
lines_of_more line (next ∷ more) h = refl

-- A line that ends with a line feed.
pub line_of_more : (bytes line rest : List ℕ) → slice_split (λ b. b == 10) bytes ≡ line ∷ slice_split (λ b. b == 10) rest → lines bytes ≡ strip_carriage_return line ∷ lines rest
line_of_more bytes line rest e =
    ap lines_of_parts e ∙ lines_of_more line (slice_split (λ b. b == 10) rest) (omega (arith, length-slice_split (λ b. b == 10) rest))

lines_of_some : (line : List ℕ) → 0 < length line → lines_of_parts (line ∷ []) ≡ line ∷ []
lines_of_some line some = grind (arith, nat_tests)

some_bytes : (bytes : List ℕ) → bytes ≢ [] → 0 < length bytes
some_bytes [] some = absurd (some refl)
some_bytes (byte ∷ bytes) some = omega arith

-- A last line without a line feed.
pub line_of_last : (bytes line : List ℕ) → bytes ≢ [] → slice_split (λ b. b == 10) bytes ≡ line ∷ [] → lines bytes ≡ line ∷ []
line_of_last bytes line some e =
    let same : line ≡ bytes = sym (ap (join_with_byte 10) e) ∙ join_with_byte-slice_split 10 bytes in
    ap lines_of_parts e ∙ lines_of_some line (some_bytes line (λ none. some (sym same ∙ none)))
