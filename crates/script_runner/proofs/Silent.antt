-- What is known of a writer for any reader.
use Rattle.std.proofs.Common.{ℕ, List, Option, Result, Ok, Err, IfErr, subst, sym}
use Rattle.script_runner.specs.declared.fault.RunFault.{RunFault}
use Rattle.script_runner.specs.declared.fault.RunFault.TheVariants.{Read, Write, Line, OutOfMemory, Config, EndlessInput}
use Rattle.script_runner.specs.Output.{Puts}
use Rattle.script_runner.specs.Reported.{IsPlayFault, IsSilent}
use Rattle.script_runner.proofs.Known.{same_keeps}

-- Nothing was written.
pub silent_same : (old : Option (List ℕ)) (fault : RunFault) → IsSilent old old (Err fault)
silent_same old Read = same_keeps old
silent_same old Write = tt
silent_same old (Line n) = tt
silent_same old OutOfMemory = tt
silent_same old (Config n) = tt
silent_same old EndlessInput = same_keeps old

-- A text was written, or a prefix of it.
pub silent_put : (old new : Option (List ℕ)) (text : List ℕ) (result : Result (Unit {0}) RunFault) → Puts old new text result → IsSilent old new result
silent_put old new text (Ok done) puts = tt
silent_put old new text (Err fault) puts = subst (λ fault. IsSilent old new (Err fault)) (sym puts.0) tt

-- A script was run.
pub silent_played : (old new : Option (List ℕ)) (result : Result (Unit {0}) RunFault) → IfErr result IsPlayFault → IsSilent old new result
silent_played old new (Ok done) faults = tt
silent_played old new (Err Read) faults = absurd faults
silent_played old new (Err Write) faults = tt
silent_played old new (Err (Line n)) faults = tt
silent_played old new (Err OutOfMemory) faults = tt
silent_played old new (Err (Config n)) faults = tt
silent_played old new (Err EndlessInput) faults = absurd faults
