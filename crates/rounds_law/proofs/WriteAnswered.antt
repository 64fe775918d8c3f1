-- The controller reads in the response to a list that all its records were written.
use Rattle.std.proofs.Common.{◌≡◌, ◌<◌, ◌≤◌, ◌+◌, ℕ, List, [], ◌∷◌, ◌++◌, length, Option, Some, refl, ap, ◌∙◌, arith}
use Rattle.pn_values.specs.declared.real.Real.{Real}
use Rattle.rpc_core.specs.declared.response.Status.{Status}
use Rattle.record_blocks.specs.declared.write_record.IodWriteReq.{IodWriteReq}
use Rattle.block_codec.specs.declared.block.Block.TheVariants as is
use Rattle.block_codec.specs.Writable.{IsRecord}
use Rattle.records.specs.status.Status.{done}
use Rattle.records.specs.writes.Answer.{answer_of, header_of, outcome_of, outcomes_of}
use Rattle.plans.specs.declared.parts.PlanRecord.{PlanRecord}
use Rattle.controller_messages.specs.declared.setup.Setup.{Setup}
use Rattle.controller_messages.specs.Requests.{write_of}
use Rattle.controller_core.specs.declared.start_up.outcomes.Outcomes.TheVariants.{AllWritten}
use Rattle.controller_core.specs.start_up.Outcomes.{outcome_at, outcome_in, outcomes_behind, outcomes_by, outcomes_from}
use Rattle.rounds_law.proofs.WriteListed.{AreBlocksLong, AreBlocksRead, AreFit, all_done, header_for, list_response, list_sized, sized}

module _ (read : AreBlocksRead) (long : AreBlocksLong) (setup : Setup) (wide : length setup.ar ≡ 16) (number : ℕ) (small : number + 1 < 65536)
    (real : Real) where
  outcome_read : (request : IodWriteReq) (rest : List ℕ) → IsRecord request.header → outcome_at (outcome_of request done ++ rest) ≡ Some (done, rest)
  unfolding outcome_at outcome_of
  outcome_read request rest good =
      ap outcome_in (read (is.IodWriteRes (header_of request done)) rest (record {
        header = good;
        additional_value_1 = omega arith;
        additional_value_2 = omega arith;
        pnio_status = omega arith;
      }))

  outcomes_are : (entries : List PlanRecord) (place : ℕ) → AreFit real entries
      → outcomes_from (length entries) place (outcomes_of (all_done setup number entries)) ≡ AllWritten
  unfolding outcomes_from
  outcomes_are [] place fit = refl
  outcomes_are (entry ∷ entries) place fit =
      ap (λ (x : Option (Status × List ℕ)). outcomes_by x place (λ behind. outcomes_from (length entries) (place + 1) behind))
      (outcome_read (write_of setup number entry) (outcomes_of (all_done setup number entries)) (sized read long setup wide number small real entry fit.0))
      ∙ outcomes_are entries (place + 1) fit.1

  pub list_written : (entries : List PlanRecord) → length entries ≤ 10 → AreFit real entries
      → outcomes_behind (outcome_at (list_response setup number entries)) (length entries) ≡ AllWritten
  unfolding answer_of
  list_written entries few fit =
      ap (λ (x : Option (Status × List ℕ)). outcomes_behind x (length entries))
      (outcome_read (header_for setup number entries) (outcomes_of (all_done setup number entries))
      (list_sized read long setup wide number small real entries few fit))
      ∙ outcomes_are entries 0 fit
