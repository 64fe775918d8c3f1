-- The zero mask is 2 ^ 32 minus 2 ^ 32.
use Rattle.std.proofs.Common.{inl, refl, lit≤}
use Rattle.pn_values.proofs.ip_suite.IpSuite.zero.Goals as goal

pub invariant_of-result : goal.invariant_of-result
invariant_of-result c = ((32, lit≤ tt, refl), inl refl)
