-- The numbers that a device gives its relations.
use Rattle.std.proofs.Common.{◌<◌, ◌+◌, ℕ, Option, Some, None, arith}
use Rattle.std.proofs.Math.Nat.{mod-lt}
use Rattle.relations.specs.Numbers.{number_of}

-- They are below 14,336.
pub number_few : (numbers_from : Option ℕ) (made : ℕ) → number_of numbers_from made < 14336
number_few None made = omega arith
number_few (Some first) made = mod-lt (first + made) (omega arith)
