-- Checks in a fixed order.
use Rattle.std.specs.Prelude.{Bool, List, [], ◌∷◌, Result, Err, if◌then◌else◌}
use Rattle.records.specs.declared.status.call_fault.CallFault.{CallFault}

-- A check: whether it fails, and the fault of the call if it does.
abbrev pub Judgement : Type 0
Judgement = Bool × CallFault

-- The fault of the first check that fails, or the other result if none fails.
abbrev pub handled : {A : Type 0} → List Judgement → Result A CallFault → Result A CallFault
handled [] otherwise = otherwise
handled (judgement ∷ others) otherwise = if judgement.0 then Err judgement.1 else handled others otherwise
