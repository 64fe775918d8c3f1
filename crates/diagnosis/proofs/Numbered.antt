-- The numbers of data: the first 32,769 are all different.
use Rattle.std.proofs.Common.{◌≡◌, ℕ, zero, suc, ◌≤◌, ◌%◌, Option, Some, None, refl, arith}
use Rattle.pn_alarms.specs.Numbers.{next_number}

-- the number of each data, from the first one on
abbrev pub number_of : ℕ → ℕ
number_of zero = 0xFFFF
number_of (suc n) = n % 0x8000

-- the number of the last of n data
abbrev pub last_of : ℕ → Option ℕ
last_of zero = None
last_of (suc n) = Some (number_of n)

-- the number after n data
pub next_is : (n : ℕ) → next_number (last_of n) ≡ number_of n
next_is zero = refl
next_is (suc zero) = refl
next_is (suc (suc n)) = omega arith

pub same_number : (i j : ℕ) → i ≤ 32768 → j ≤ 32768 → number_of i ≡ number_of j → i ≡ j
same_number zero zero a b e = refl
same_number zero (suc j) a b e = absurd (omega arith)
same_number (suc i) zero a b e = absurd (omega arith)
same_number (suc i) (suc j) a b e = omega arith
