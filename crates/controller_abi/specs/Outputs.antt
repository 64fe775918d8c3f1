-- The outputs of the submodules of a plan, and why an operation is refused.
use Rattle.std.specs.Prelude.{◌==◌, nat_le, ℕ, Bool, true, false, if◌then◌else◌, List, [], ◌∷◌, Option, Some, None}
use Rattle.pn_values.specs.declared.real.RealModule.{RealModule}
use Rattle.pn_values.specs.declared.real.RealSubmodule.{RealSubmodule}

-- The number of octets of the output of a submodule of one module.
abbrev pub output_of : ℕ → List RealSubmodule → Option ℕ
output_of subslot [] = None
output_of subslot (part ∷ others) = if part.subslot == subslot then Some part.output else output_of subslot others

-- The number of octets of the output of a submodule of these modules.
abbrev pub output_at : ℕ → ℕ → List RealModule → Option ℕ
output_at slot subslot [] = None
output_at slot subslot (plugged ∷ others) =
    if plugged.slot == slot then output_of subslot plugged.submodules.items else output_at slot subslot others

-- Why a value of this size is not set as an output of this length: 9, there is no output; 8, it has another length.
abbrev pub why_not_fit : ℕ → ℕ → Option ℕ
why_not_fit output size = if output == 0 then Some 9 else (if output == size then None else Some 8)

-- Why the status of an output is not set, if it is not set: 7, frames of the step before remain; 9, the plan has no
-- submodule with an output there.
abbrev pub why_not_rated : Bool → Option ℕ → Option ℕ
why_not_rated true output = Some 7
why_not_rated false None = Some 9
why_not_rated false (Some output) = if output == 0 then Some 9 else None

-- Why no value of this size is set, if it is not set: 7, frames of the step before remain; 9, the plan has no submodule
-- with an output there; 8, its output has another length.
abbrev pub why_not_set : Bool → Option ℕ → ℕ → Option ℕ
why_not_set true output size = Some 7
why_not_set false None size = Some 9
why_not_set false (Some output) size = why_not_fit output size

-- Why no record is read, if it is not read: 7, frames of the step before remain; 26, no data is exchanged, or another
-- request waits for its answer.
abbrev pub why_not_read : Bool → Bool → Option ℕ
why_not_read true can = Some 7
why_not_read false true = None
why_not_read false false = Some 26

-- Why no record of this size is written, if it is not: as for a read; 8 if it is longer than a call can carry.
abbrev pub why_not_written : Bool → Bool → ℕ → Option ℕ
why_not_written true can size = Some 7
why_not_written false can size = if nat_le size 1308 then why_not_read false can else Some 8
