-- Chains of readings of which one fails.
use Rattle.std.proofs.Common.{◌≡◌, ◌⊎◌, inl, inr, refl, Result, Err}
use Rattle.catalogue.specs.declared.keys.fault.CatalogueFault.TheVariants.{OutOfMemory}
use Rattle.catalogue.specs.declared.keys.fault.PlacedFault.{PlacedFault}
use Rattle.catalogue.specs.keys.Reader.{◌>>=◌, Reads}

failed : {A B C : Type 0} (view : A → C) (fault : PlacedFault) (read : Result B PlacedFault) (next : B → Result C PlacedFault) → (fault.fault ≡ OutOfMemory) ⊎ (read ≡ Err fault) → Reads view (Err fault) (read >>= next)
failed view fault read next (inl memory) = inl memory
failed view fault read next (inr fails) = inr (rw fails refl)

-- the fault of the reading that fails is that of the chain
pub fails : {A B C : Type 0} (view : A → C) (fault : PlacedFault) (read : Result B PlacedFault) (next : B → Result C PlacedFault) (result : Result A PlacedFault) → result ≡ Err fault → (fault.fault ≡ OutOfMemory) ⊎ (read ≡ Err fault) → Reads view result (read >>= next)
fails view fault read next result is given = rw is (failed view fault read next given)
