-- Nothing is remembered of what is due.
use Rattle.std.proofs.Common.{refl, inl}
use Rattle.controller_abi.proofs.port.Port.take.Goals as goal

pub invariant_of-self : goal.invariant_of-self
invariant_of-self c = inl refl
