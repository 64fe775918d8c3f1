-- The number of octets that remain after a field was read.
use Rattle.std.proofs.Common.{◌≡◌, ◌+◌, ℕ, List, ◌++◌, length, Ok, ap, ◌∙◌, arith}
use Rattle.std.proofs.lemmas.List.{length-append}
use Rattle.wire.specs.blocks.Fields.{number_at, fixed, version}
use Rattle.wire.proofs.BlocksSound.{numeral_sound, fixed_sound, version_sound}

-- The octets that remain after a number.
pub number_left : (size : ℕ) (bytes : List ℕ) (value : ℕ) (rest : List ℕ) → number_at size bytes ≡ Ok (value, rest) → length bytes ≡ size + length rest
number_left size bytes value rest e =
    let s = (numeral_sound size).takes bytes value rest e in
    omega (arith, ap (λ (xs : List ℕ). length xs) s.2, length-append s.0 rest, s.1)

-- The octets that remain after a number with one accepted value.
pub fixed_left : (field value : ℕ) (bytes rest : List ℕ) → (fixed field value).read bytes ≡ Ok (tt, rest) → length bytes ≡ 2 + length rest
fixed_left field value bytes rest e =
    let s = (fixed_sound field value).takes bytes tt rest e in
    let n = s.2.1 in
    omega (arith, ap (λ (xs : List ℕ). length xs) n.2, length-append n.0 rest, n.1)

-- The octets that remain after the version.
pub version_left : (bytes rest : List ℕ) → version.read bytes ≡ Ok (tt, rest) → length bytes ≡ 2 + length rest
unfolding version
version_left bytes rest e =
    let s = version_sound.takes bytes tt rest e in
    let high = s.2.1.1 in
    let low = s.2.2.1 in
    omega (
      arith,
      ap (λ (xs : List ℕ). length xs) high.2,
      length-append high.0 s.2.0,
      high.1,
      ap (λ (xs : List ℕ). length xs) low.2,
      length-append low.0 rest,
      low.1,
    )
