-- What a relation reports of the diagnoses of a device.
use Rattle.std.specs.Prelude.{ℕ, Bool, false, List, Option, Some, None, is_some}
use Rattle.pn_values.specs.declared.real.RealModule.{RealModule}
use Rattle.diagnosis.specs.declared.diagnosis.Change.{Change}
use Rattle.diagnosis.specs.declared.diagnosis.Diagnosis.{Diagnosis}
use Rattle.pn_alarms.specs.declared.device.PduFate.{PduFate}
use Rattle.pn_alarms.specs.declared.device.PduFate.TheVariants.{Ignored}
use Rattle.pn_alarms.specs.Device.{heard_as}
use Rattle.pn_alarms.specs.Message.{ToDevice}
use Rattle.diagnosis.specs.Queue.{is_next}
use Rattle.diagnosis.specs.alarms.Own.{is_own}
use Rattle.relations.specs.exchange.Diagnosis.{begins_with_one, behind_low, diagnosed, diagnoses_begun, is_diagnosed, is_full, next_reported}
use Rattle.relations.specs.RelationState.{RelationState}
use Rattle.relations.specs.exchange.Flow.{Flow}
use Rattle.relations.specs.Phases.{Handled, Exchanged, Reported, Unmoved}
use Rattle.relations.specs.Plugging.{first_sent, plugs_after, taken_after}

-- The exchange became this. If an alarm of low priority was first sent with it, what follows from that alarm follows.
abbrev pub sent_as : Bool → Flow → RelationState → Handled
sent_as is_sent flow link =
    let sent = first_sent is_sent flow.low in
    Reported flow (taken_after sent link.plugs.places link.taken) (plugs_after sent flow.low.waiting link.plugs)

-- Data exchange begins, and these diagnoses exist; whether an alarm of low priority must be sent.
abbrev pub beginning : List RealModule → List Diagnosis → Option RelationState → Handled
beginning real diagnoses None = Unmoved
beginning real diagnoses (Some link) = sent_as (begins_with_one real diagnoses link.flow) (diagnoses_begun real diagnoses link.flow) link

-- Whether an alarm of a diagnosis is sent when data exchange begins.
abbrev pub begin_one : List RealModule → List Diagnosis → Option RelationState → Bool
begin_one real diagnoses None = false
begin_one real diagnoses (Some link) = begins_with_one real diagnoses link.flow

-- What a change of diagnosis does to the relation, after which these exist.
abbrev pub diagnosing : List RealModule → Change → List Diagnosis → Option RelationState → Handled
diagnosing real change diagnoses None = Unmoved
diagnosing real change diagnoses (Some link) =
    sent_as (is_diagnosed real change diagnoses link.flow) (diagnosed real change diagnoses link.flow) link

-- Whether the alarm of a change is sent at once.
abbrev pub diagnose_one : List RealModule → Change → List Diagnosis → Option RelationState → Bool
diagnose_one real change diagnoses None = false
diagnose_one real change diagnoses (Some link) = is_diagnosed real change diagnoses link.flow

-- And of the next change that waits.
abbrev pub reporting : Option RelationState → Handled
reporting None = Unmoved
reporting (Some link) = sent_as (is_next link.flow.low) (next_reported link.flow) link

-- Whether a change that waits can be reported now.
abbrev pub report_one : Option RelationState → Bool
report_one None = false
report_one (Some link) = is_next link.flow.low

-- Whether no further change can wait, and whether an alarm of low priority was sent.
abbrev pub is_full_in : Option RelationState → Bool
is_full_in None = false
is_full_in (Some link) = is_full link.flow

-- Whether the relation has sent data of low priority.
abbrev pub has_sent_low : Option RelationState → Bool
has_sent_low None = false
has_sent_low (Some link) = is_some link.flow.low.alarms.sender.sending.last

-- What happens to a PDU of low priority of the partner, and to the relation.
abbrev pub heard_low : ToDevice → Option RelationState → PduFate
heard_low message None = Ignored
heard_low message (Some link) = heard_as link.flow.low.alarms message

-- What a PDU of low priority does to the relation.
abbrev pub hearing_low : ToDevice → Option RelationState → Handled
hearing_low message None = Unmoved
hearing_low message (Some link) = Exchanged (behind_low link.flow message)

-- Whether a submodule belongs to the relation.
abbrev pub owns_in : Option RelationState → ℕ → ℕ → Bool
owns_in None slot subslot = false
owns_in (Some link) slot subslot = is_own link.flow.low.places slot subslot
