use Rattle.std.proofs.Common.{◌≡◌, ◌⊎◌, inl, inr, ℕ, List, Option, Some, None, Result, Ok, Err, IfSome, IfErr, subst, sym, ◌∙◌}
use Rattle.std.proofs.lemmas.Result.{err_from_is_err_and}
use Rattle.plans.specs.declared.parts.Parts.{Parts}
use Rattle.script_runner.specs.declared.fault.RunFault.{RunFault}
use Rattle.script_runner.specs.declared.fault.RunFault.TheVariants.{Read, Write, Line, OutOfMemory, Config, EndlessInput}
use Rattle.script_runner.specs.Script.{ArePlansOf, output_of}
use Rattle.script_runner.specs.Reported.{IsPlayed, IsPlayFault, IsReported, IsReportedByPlans}
use Rattle.script_runner.proofs.Known.{none_front, same_keeps}
use Rattle.script_runner.proofs.Silent.{silent_same, silent_played}
use Rattle.script_runner.proofs.whole.run.Goals as goal

-- A script that was run was read.
reported_of : (plans : List ℕ → Option Parts) (old new : Option (List ℕ)) (input : List ℕ) (result : Result (Unit {0}) RunFault)
    → IfErr result IsPlayFault → IsPlayed plans old new input result → IsReported plans old new input result
reported_of plans old new input (Ok done) faults played = played
reported_of plans old new input (Err Read) faults played = absurd faults
reported_of plans old new input (Err Write) faults played = played
reported_of plans old new input (Err (Line n)) faults played = played
reported_of plans old new input (Err OutOfMemory) faults played = played
reported_of plans old new input (Err (Config n)) faults played = played
reported_of plans old new input (Err EndlessInput) faults played = absurd faults

-- The bytes that were read are those of the reader.
reported_by_play : (remaining old new : Option (List ℕ)) (read input : List ℕ) (result : Result (Unit {0}) RunFault)
    → IfSome remaining (λ bytes. read ≡ bytes) → input ≡ read → IfErr result IsPlayFault
    → ((plans : List ℕ → Option Parts) → ArePlansOf plans input → IsPlayed plans old new input result)
    → IfSome remaining (λ bytes. IsReportedByPlans old new bytes result)
reported_by_play None old new read input result all whole faults played = tt
reported_by_play (Some bytes) old new read input result all whole faults played = λ plans are.
    reported_of plans old new bytes result faults
    (subst (λ bytes. IsPlayed plans old new bytes result) (whole ∙ all) (played plans (subst (ArePlansOf plans) (sym (whole ∙ all)) are)))

-- No script was run.
reported_by_fault : (remaining old : Option (List ℕ)) (fault : RunFault) → (fault ≡ Read) ⊎ (fault ≡ OutOfMemory) ⊎ (fault ≡ EndlessInput)
    → IfSome remaining (λ bytes. IsReportedByPlans old old bytes (Err fault))
reported_by_fault None old fault cause = tt
reported_by_fault (Some bytes) old fault (inl read) = subst (λ fault. IsReportedByPlans old old bytes (Err fault)) (sym read) (λ plans are. same_keeps old)
reported_by_fault (Some bytes) old fault (inr (inl memory)) = subst (λ fault. IsReportedByPlans old old bytes (Err fault)) (sym memory) (λ plans are. inl (none_front old (output_of plans bytes)))
reported_by_fault (Some bytes) old fault (inr (inr endless)) = subst (λ fault. IsReportedByPlans old old bytes (Err fault)) (sym endless) (λ plans are. same_keeps old)

pub returns-clause-reported : goal.returns-clause-reported
returns-clause-reported g c =
    reported_by_play _ _ _ c.in_ok-input.input.items _ _ c.in_ok-input.ensures.all c.as_slice.ensures.value c.play.ensures.faults c.play.ensures.played

pub returns-clause-silent : goal.returns-clause-silent
returns-clause-silent g c = silent_played _ _ _ c.play.ensures.faults

pub returns-in_err-input-clause-reported : goal.returns-in_err-input-clause-reported
returns-in_err-input-clause-reported g c =
    let p = err_from_is_err_and c.from_residual.result c.from_residual.ensures.1 in
    rw (p.1, p.2) (reported_by_fault _ _ _ c.in_err-input.ensures.faults)

pub returns-in_err-input-clause-silent : goal.returns-in_err-input-clause-silent
returns-in_err-input-clause-silent g c =
    let p = err_from_is_err_and c.from_residual.result c.from_residual.ensures.1 in
    rw (p.1, p.2) (silent_same _ _)
