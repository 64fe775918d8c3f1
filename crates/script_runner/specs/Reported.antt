-- What a run writes, by its result.
use Rattle.std.specs.Prelude.{◌≡◌, ◌<◌, ◌≤◌, ◌⊎◌, ℕ, true, false, List, ◌++◌, length, Option, Result, Ok, Err}
use Rattle.std.specs.Io.KnownBytes.{Appends, Keeps}
use Rattle.std.specs.Str.Lines.{lines}
use Rattle.script_runner.specs.declared.fault.RunFault.{RunFault}
use Rattle.script_runner.specs.declared.fault.RunFault.TheVariants.{Read, Write, Line, OutOfMemory, Config, EndlessInput}
use Rattle.script_runner.specs.Output.{AppendsFront, AppendsLess}
use Rattle.configurator.specs.declared.fault.PlanFault.{PlanFault}
use Rattle.plans.specs.declared.parts.Parts.{Parts}
use Rattle.configurator.specs.Planned.{IsRefused}
use Rattle.script_runner.specs.Fault.{fault_of}
use Rattle.script_runner.specs.Script.{AllDone, ArePlansOf, Refused, Unplanned, output_of, end_of, has_order}

-- A catalogue has no plan, for the fault with this number.
abbrev pub IsUnplanned : List ℕ → RunFault → Type 0
IsUnplanned catalogue fault = (plan : PlanFault) × IsRefused catalogue plan × (fault ≡ fault_of plan)

-- A run ends at a catalogue that has no plan, for the fault with this number.
pub record EndsWithoutPlan (plans : List ℕ → Option Parts) (input : List ℕ) (n : ℕ) : Type 0 where
  pub catalogue : List ℕ
  pub ended : end_of plans input ≡ Unplanned catalogue
  pub unplanned : IsUnplanned catalogue (Config n)

-- The outcome of a script up to its first line that orders a failure of the flash. At the end, if there is no such line,
-- all of its output is written. At a line that is refused, or a catalogue without a plan, the output of the lines before
-- it is written. If a write failed, less than the output is written. If memory was refused, a prefix of it is written.
abbrev pub Plays : (List ℕ → Option Parts) → Option (List ℕ) → Option (List ℕ) → List ℕ → Result (Unit {0}) RunFault → Type 0
Plays plans old new input (Ok done) = Appends old new (output_of plans input) × (end_of plans input ≡ AllDone) × (has_order (lines input) ≡ false)
Plays plans old new input (Err (Line n)) = Appends old new (output_of plans input) × (end_of plans input ≡ Refused n)
Plays plans old new input (Err (Config n)) = Appends old new (output_of plans input) × EndsWithoutPlan plans input n
Plays plans old new input (Err Write) = AppendsLess old new (output_of plans input)
Plays plans old new input (Err OutOfMemory) = AppendsFront old new (output_of plans input)
Plays plans old new input (Err Read) = ⊥
Plays plans old new input (Err EndlessInput) = ⊥

-- A line orders a failure of the flash and no line before it is refused: all that the lines before it print is written,
-- and possibly more.
pub record PlaysOn (plans : List ℕ → Option Parts) (old new : Option (List ℕ)) (input : List ℕ) : Type 0 where
  pub ordered : has_order (lines input) ≡ true
  pub unended : end_of plans input ≡ AllDone
  pub more : List ℕ
  pub appended : Appends old new (output_of plans input ++ more)

-- The outcome of a script that was read whole.
abbrev pub IsPlayed : (List ℕ → Option Parts) → Option (List ℕ) → Option (List ℕ) → List ℕ → Result (Unit {0}) RunFault → Type 0
IsPlayed plans old new input result = Plays plans old new input result ⊎ PlaysOn plans old new input

-- The longest script.
abbrev pub limit : ℕ
limit = 16777216

-- For a script that is the reader's bytes: one that is too long gives EndlessInput unless a read fails or memory is
-- refused, and no other script gives it. After Read and EndlessInput nothing is written.
abbrev pub IsWhole : Option (List ℕ) → Option (List ℕ) → List ℕ → Result (Unit {0}) RunFault → Type 0
IsWhole old new input (Err Read) = Keeps old new
IsWhole old new input (Err EndlessInput) = Keeps old new × (limit < length input)
IsWhole old new input (Err OutOfMemory) = Unit {0}
IsWhole old new input (Ok done) = length input ≤ limit
IsWhole old new input (Err (Line n)) = length input ≤ limit
IsWhole old new input (Err (Config n)) = length input ≤ limit
IsWhole old new input (Err Write) = length input ≤ limit

-- For a script that is the reader's bytes: what is written of its output.
abbrev pub IsReported : (List ℕ → Option Parts) → Option (List ℕ) → Option (List ℕ) → List ℕ → Result (Unit {0}) RunFault → Type 0
IsReported plans old new input (Err Read) = Keeps old new
IsReported plans old new input (Err EndlessInput) = Keeps old new
IsReported plans old new input (Err OutOfMemory) = IsPlayed plans old new input (Err OutOfMemory)
IsReported plans old new input (Ok done) = IsPlayed plans old new input (Ok done)
IsReported plans old new input (Err (Line n)) = IsPlayed plans old new input (Err (Line n))
IsReported plans old new input (Err (Config n)) = IsPlayed plans old new input (Err (Config n))
IsReported plans old new input (Err Write) = IsPlayed plans old new input (Err Write)

-- For any reader: after Read and EndlessInput nothing is written.
abbrev pub IsSilent : Option (List ℕ) → Option (List ℕ) → Result (Unit {0}) RunFault → Type 0
IsSilent old new (Err Read) = Keeps old new
IsSilent old new (Err EndlessInput) = Keeps old new
IsSilent old new (Err OutOfMemory) = Unit {0}
IsSilent old new (Ok done) = Unit {0}
IsSilent old new (Err (Line n)) = Unit {0}
IsSilent old new (Err (Config n)) = Unit {0}
IsSilent old new (Err Write) = Unit {0}

-- What is written of the output of a script, with the plans of its catalogues: each has the plan that the configurator
-- gives, and none if it is refused.
abbrev pub IsReportedByPlans : Option (List ℕ) → Option (List ℕ) → List ℕ → Result (Unit {0}) RunFault → Type 0
IsReportedByPlans old new input result = (plans : List ℕ → Option Parts) → ArePlansOf plans input → IsReported plans old new input result

-- A fault of a script that was read.
abbrev pub IsPlayFault : RunFault → Type 0
IsPlayFault Read = ⊥
IsPlayFault Write = Unit {0}
IsPlayFault (Line n) = Unit {0}
IsPlayFault (Config n) = Unit {0}
IsPlayFault OutOfMemory = Unit {0}
IsPlayFault EndlessInput = ⊥
