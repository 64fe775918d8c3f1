-- A device that asks its application nothing is never busy: no fault of a call has this status.
use Rattle.std.proofs.Common.{◌≡◌, ◌&&◌, ℕ, Bool, true, false, refl, ap, ◌∙◌}
use Rattle.std.specs.Prelude.{nat_lt}
use Rattle.rpc_core.specs.declared.response.Status.{Status}
use Rattle.plans.specs.declared.parts.Parts.{Parts}
use Rattle.records.specs.declared.status.operation.Operation.{Operation}
use Rattle.records.specs.declared.status.call_fault.CallFault.{CallFault}
use Rattle.records.specs.declared.status.call_fault.CallFault.TheVariants as fault
use Rattle.records.specs.status.Status.{status_of}
use Rattle.controller_core.specs.start_up.Answers.{is_busy, is_tried}

pub never_busy : (operation : Operation) (refusal : CallFault) → is_busy (status_of operation refusal) ≡ false
unfolding status_of
never_busy operation (fault.ArField field) = refl
never_busy operation refusal = refl

-- A call is not tried again if the response does not say that the device is busy.
pub untried : (plan : Parts) (status : Status) (tries : ℕ) → is_busy status ≡ false → is_tried plan status tries ≡ false
untried plan status tries ready = ap (λ (b : Bool). plan.persistent_start && (b && nat_lt tries 65535)) ready ∙ by_key plan.persistent_start
  where
    by_key : (key : Bool) → (key && false) ≡ false
    by_key true = refl
    by_key false = refl
