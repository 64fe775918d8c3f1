-- What does not change when the next units of a steady exchange bring something.
use Rattle.std.proofs.Common.{◌≡◌, ◌≤◌, Some, refl, ap, ◌∙◌, arith}
use Rattle.pn_alarms.specs.Ends.{DeviceEnd}
use Rattle.cyclic_data.specs.exchange.Cyclic.{Cyclic}
use Rattle.cyclic_data.specs.exchange.Leaps.{silent_in}
use Rattle.diagnosis.specs.alarms.Alarms.{Low}
use Rattle.relations.specs.declared.steady.Steady.{Steady}
use Rattle.relations.specs.exchange.Flow.{Flow}
use Rattle.relations.specs.Phases.{with_flow}
use Rattle.relations.specs.RelationState.{RelationState}
use Rattle.relations.specs.Steady.{IsSteady}

-- An end of cyclic data whose frames are due as before, and whose data hold time is not over earlier.
pub record KeepsCyclic (old new : Cyclic) : Type 0 where
  pub sending : new.sending ≡ old.sending
  pub silent : silent_in old ≤ silent_in new

-- An exchange with such an end, and the same alarms.
pub record KeepsFlow (old new : Flow) : Type 0 where
  pub alarms : new.alarms ≡ old.alarms
  pub low : new.low ≡ old.low
  pub cyclic : KeepsCyclic old.cyclic new.cyclic

pub still : (cyclic : Cyclic) → KeepsCyclic cyclic cyclic
still cyclic = record { sending = refl; silent = omega arith }

pub stays : (steady : Steady) (link : RelationState) (new : Flow) → KeepsFlow link.flow new → IsSteady steady (Some link) → IsSteady steady (Some (with_flow new link))
stays steady link new kept old =
    let runs = old.runs in
    let held = runs.held in
    let silent = kept.cyclic.silent in
    record {
      first = old.first;
      runs = record {
        exchanging = runs.exchanging;
        calm = record {
          closed = ap (λ (e : DeviceEnd). e.sender.standing) kept.alarms ∙ runs.calm.closed;
          high = ap (λ (e : DeviceEnd). e.sender.sending.waiting) kept.alarms ∙ runs.calm.high;
          low = ap (λ (low : Low). low.alarms.sender.sending.waiting) kept.low ∙ runs.calm.low;
        };
        answered = runs.answered;
        inputs = rw kept.cyclic.sending runs.inputs;
        few = runs.few;
        held = omega (arith, held, silent);
      };
    }
