use Rattle.std.proofs.Common.{◌≡◌, inl, inr, ℕ, List, Option, Some, None, Result, Ok, Err, IfSome, subst, sym, ◌∙◌}
use Rattle.std.proofs.lemmas.Result.{err_from_is_err_and}
use Rattle.std.specs.Io.KnownBytes.{Keeps}
use Rattle.configurator.specs.declared.fault.PlanFault.{PlanFault}
use Rattle.configurator.specs.declared.fault.PlanFault.TheVariants as plan
use Rattle.script_runner.specs.declared.fault.RunFault.{RunFault}
use Rattle.script_runner.specs.declared.fault.RunFault.TheVariants.{Read, Write, Line, OutOfMemory, Config, EndlessInput}
use Rattle.script_runner.specs.Fault.{fault_of}
use Rattle.script_runner.specs.Output.{Puts}
use Rattle.script_runner.specs.Planned.{HasText, HasNoText, IsPlanned}
use Rattle.script_runner.proofs.Known.{same_keeps}
use Rattle.script_runner.proofs.Silent.{silent_same, silent_put}
use Rattle.script_runner.proofs.plan.plan_text.Goals as goal

-- The lines of the plan are written, or a prefix of them. The lists are the bytes read, the text of the catalogue, its
-- lines, and the text handed to the writer.
planned_by_put : (remaining old new : Option (List ℕ)) (read input text shown : List ℕ) (result : Result (Unit {0}) RunFault)
    → IfSome remaining (λ bytes. read ≡ bytes) → input ≡ read → shown ≡ text → HasText input text → Puts old new shown result
    → IfSome remaining (λ bytes. IsPlanned old new bytes result)
planned_by_put None old new read input text shown result all whole same has puts = tt
planned_by_put (Some bytes) old new read input text shown (Ok done) all whole same has puts =
    (shown, subst (λ lines. HasText bytes lines) (sym same) (subst (λ bytes. HasText bytes text) (whole ∙ all) has), puts)
planned_by_put (Some bytes) old new read input text shown (Err fault) all whole same has puts =
    subst (λ fault. IsPlanned old new bytes (Err fault)) (sym puts.0)
    (shown, subst (λ lines. HasText bytes lines) (sym same) (subst (λ bytes. HasText bytes text) (whole ∙ all) has), puts.1)

-- The fault of a catalogue is not the fault of a write or of a line.
no_write : (found : PlanFault) → Write ≡ fault_of found → ⊥
no_write plan.OutOfMemory e = cc
no_write plan.Json e = cc
no_write plan.MissingKey e = cc
no_write plan.WrongKind e = cc
no_write plan.Number e = cc
no_write plan.NotAllowedInSlot e = cc
no_write plan.TooManySlots e = cc
no_write plan.FrameTooLong e = cc
no_write plan.ConnectTooLong e = cc
no_write plan.Name e = cc
no_write plan.Address e = cc

no_line : (n : ℕ) (found : PlanFault) → Line n ≡ fault_of found → ⊥
no_line n plan.OutOfMemory e = cc
no_line n plan.Json e = cc
no_line n plan.MissingKey e = cc
no_line n plan.WrongKind e = cc
no_line n plan.Number e = cc
no_line n plan.NotAllowedInSlot e = cc
no_line n plan.TooManySlots e = cc
no_line n plan.FrameTooLong e = cc
no_line n plan.ConnectTooLong e = cc
no_line n plan.Name e = cc
no_line n plan.Address e = cc

-- There is no plan, and nothing is written.
planned_by_none : (old new : Option (List ℕ)) (input : List ℕ) (fault : RunFault) → HasNoText input fault → Keeps old new
    → IsPlanned old new input (Err fault)
planned_by_none old new input Read none keeps = keeps
planned_by_none old new input Write (inl e) keeps = absurd cc
planned_by_none old new input Write (inr found) keeps = absurd (no_write found.0 found.2)
planned_by_none old new input (Line n) (inl e) keeps = absurd cc
planned_by_none old new input (Line n) (inr found) keeps = absurd (no_line n found.0 found.2)
planned_by_none old new input OutOfMemory none keeps = keeps
planned_by_none old new input (Config n) none keeps = (none, keeps)
planned_by_none old new input EndlessInput none keeps = keeps

planned_by_fault : (remaining old : Option (List ℕ)) (read input : List ℕ) (fault : RunFault)
    → IfSome remaining (λ bytes. read ≡ bytes) → input ≡ read → HasNoText input fault
    → IfSome remaining (λ bytes. IsPlanned old old bytes (Err fault))
planned_by_fault None old read input fault all whole none = tt
planned_by_fault (Some bytes) old read input fault all whole none =
    planned_by_none old old bytes fault (subst (λ bytes. HasNoText bytes fault) (whole ∙ all) none) (same_keeps old)

pub returns-clause-planned : goal.returns-clause-planned
returns-clause-planned g c =
    planned_by_put _ _ _ c.in_ok-input.input.items _ c.in_ok-text.text.items _ _ c.in_ok-input.ensures.all c.as_slice.ensures.value c.as_slice-2.ensures.value c.in_ok-text.ensures.text c.put.ensures

pub returns-in_err-text-clause-planned : goal.returns-in_err-text-clause-planned
returns-in_err-text-clause-planned g c =
    let p = err_from_is_err_and c.from_residual-in_err-text.result c.from_residual-in_err-text.ensures.1 in
    rw (p.1, p.2) (planned_by_fault _ _ c.in_ok-input.input.items _ _ c.in_ok-input.ensures.all c.as_slice.ensures.value c.in_err-text.ensures.fault)

pub returns-clause-silent : goal.returns-clause-silent
returns-clause-silent g c = silent_put _ _ _ _ c.put.ensures

pub returns-in_err-input-clause-silent : goal.returns-in_err-input-clause-silent
returns-in_err-input-clause-silent g c =
    let p = err_from_is_err_and c.from_residual.result c.from_residual.ensures.1 in
    rw (p.1, p.2) (silent_same _ _)

pub returns-in_err-text-clause-silent : goal.returns-in_err-text-clause-silent
returns-in_err-text-clause-silent g c =
    let p = err_from_is_err_and c.from_residual-in_err-text.result c.from_residual-in_err-text.ensures.1 in
    rw (p.1, p.2) (silent_same _ _)
