-- The alarms of low priority of a device: changes of diagnosis (IEC 61158-6-10, 4.8 and 5.2.5).
use Rattle.std.specs.Prelude.{◌&&◌, Bool, List}
use Rattle.pn_values.specs.declared.real.RealModule.{RealModule}
use Rattle.diagnosis.specs.declared.diagnosis.Change.{Change}
use Rattle.diagnosis.specs.declared.diagnosis.Diagnosis.{Diagnosis}
use Rattle.pn_alarms.specs.declared.pdu.Header.{Header}
use Rattle.pn_alarms.specs.declared.pdu.PduType.{PduType}
use Rattle.pn_alarms.specs.Device.{header_now}
use Rattle.pn_alarms.specs.Message.{ToDevice}
use Rattle.diagnosis.specs.alarms.Alarms.{Low, behind, is_full as is_low_full}
use Rattle.diagnosis.specs.Queue.{after_next, begun, changed, is_next, is_sent}
use Rattle.relations.specs.exchange.Flow.{Flow}

-- The exchange with these alarms of low priority.
abbrev pub with_low : Flow → Low → Flow
with_low flow low = record flow { low = low }

-- Data exchange begins, and these diagnoses exist. The state after it, and whether an alarm must be sent.
abbrev pub diagnoses_begun : List RealModule → List Diagnosis → Flow → Flow
diagnoses_begun real diagnoses flow = with_low flow (after_next (begun real diagnoses flow.low))

-- Whether an alarm of a diagnosis is sent when data exchange begins.
abbrev pub begins_with_one : List RealModule → List Diagnosis → Flow → Bool
begins_with_one real diagnoses flow = is_next (begun real diagnoses flow.low)

-- The exchange after a change of diagnosis, after which these exist.
abbrev pub diagnosed : List RealModule → Change → List Diagnosis → Flow → Flow
diagnosed real change diagnoses flow = with_low flow (changed real flow.cyclic.begun change diagnoses flow.low)

-- Whether the alarm of a change is sent at once.
abbrev pub is_diagnosed : List RealModule → Change → List Diagnosis → Flow → Bool
is_diagnosed real change diagnoses flow = is_sent real flow.cyclic.begun change diagnoses flow.low

-- And of the next change that waits.
abbrev pub next_reported : Flow → Flow
next_reported flow = with_low flow (after_next flow.low)

-- Whether no further change can wait: it waits only while data is exchanged.
abbrev pub is_full : Flow → Bool
is_full flow = flow.cyclic.begun && is_low_full flow.low

-- The state after a PDU of low priority.
abbrev pub behind_low : Flow → ToDevice → Flow
behind_low flow message = with_low flow (behind message flow.low)

-- The header of a PDU of low priority that is sent now.
abbrev pub low_header_of : Flow → PduType → Header
low_header_of flow kind = header_now flow.low.alarms kind flow.cyclic.route.reference flow.endpoint
