-- What a relation exchanges: cyclic frames, inputs, alarms, and the PDUs of its partner.
use Rattle.std.specs.Prelude.{ℕ, Bool, List, length, replicate, Option, Some, None, option_map, if◌then◌else◌}
use Rattle.pn_values.specs.declared.mac.Mac.{Mac}
use Rattle.pn_values.specs.declared.real.RealModule.{RealModule}
use Rattle.pn_alarms.specs.declared.device.PduFate.{PduFate}
use Rattle.pn_alarms.specs.declared.device.PduFate.TheVariants.{Data, Done, Ignored, Aborted}
use Rattle.pn_alarms.specs.Message.{ToDevice}
use Rattle.pn_alarms.specs.Device.{heard_as}
use Rattle.cyclic_data.specs.declared.exchange.exchange.ProviderStatus.{ProviderStatus}
use Rattle.cyclic_data.specs.exchange.Process.{provider_at}
use Rattle.cyclic_data.specs.declared.exchange.received.Received.{Received}
use Rattle.cyclic_data.specs.declared.exchange.received.Received.TheVariants.{Foreign, Short, Stale, Taken}
use Rattle.expected_places.specs.Machine.{is_touched_at}
use Rattle.relations.specs.exchange.Flow.{Flow}
use Rattle.relations.specs.exchange.Received.{behind_frame, received_as}
use Rattle.relations.specs.exchange.Process.{given_at, output_at, rated_at, turned}
use Rattle.relations.specs.exchange.Notices.{behind_message, raised_at}
use Rattle.relations.specs.RelationState.{RelationState}
use Rattle.relations.specs.Phases.{Handled, Ended, Exchanged, Unmoved}

-- What happens to a cyclic frame, and to the relation.
abbrev pub received_by : Mac → ℕ → List ℕ → Option RelationState → Received
received_by source frame_id body None = Foreign
received_by source frame_id body (Some link) = received_as link.flow source frame_id body

-- What a cyclic frame does to the relation, by what was received: only an accepted one changes it.
abbrev pub receiving_as : Received → Flow → Handled
receiving_as Foreign flow = Unmoved
receiving_as Short flow = Unmoved
receiving_as Stale flow = Unmoved
receiving_as Taken flow = Exchanged flow

-- What a cyclic frame does to the relation.
abbrev pub receiving : Mac → ℕ → List ℕ → Option RelationState → Handled
receiving source frame_id body None = Unmoved
receiving source frame_id body (Some link) =
    receiving_as (received_as link.flow source frame_id body) (behind_frame link.flow source frame_id body)

-- The exchange became this, or is unchanged.
abbrev pub becoming : Option Flow → Handled
becoming (Some flow) = Exchanged flow
becoming None = Unmoved

-- The exchange after an input is given, and after an alarm is raised, if it may be.
abbrev pub given_to : ℕ → ℕ → List ℕ → Option RelationState → Option Flow
given_to slot subslot value None = None
given_to slot subslot value (Some link) = given_at link.flow slot subslot value

-- The exchange after the application says that the inputs of a submodule are good or bad.
abbrev pub rating : ℕ → ℕ → Bool → Option RelationState → Handled
rating slot subslot is_good None = Unmoved
rating slot subslot is_good (Some link) = Exchanged (rated_at link.flow slot subslot is_good)

-- The exchange after the application says that it runs or is stopped.
abbrev pub turning : Bool → Option RelationState → Handled
turning is_running None = Unmoved
turning is_running (Some link) = Exchanged (turned link.flow is_running)

-- The exchange after an alarm is raised, if it may be raised.
abbrev pub raised_to : List RealModule → ℕ → ℕ → List ℕ → Option RelationState → Option Flow
raised_to real slot subslot octets None = None
raised_to real slot subslot octets (Some link) = raised_at link.flow real slot subslot octets

-- Zeros of a touched place: the controller's values are for what was plugged there before, or not for it yet.
abbrev pub shown_as : Bool → List ℕ → List ℕ
shown_as is_touched value = if is_touched then replicate (length value) 0 else value

-- The output of a submodule, if it has a place.
abbrev pub output_in : ℕ → ℕ → Option RelationState → Option (List ℕ)
output_in slot subslot None = None
output_in slot subslot (Some link) = option_map (shown_as (is_touched_at slot subslot link.plugs)) (output_at link.flow slot subslot)

-- What the controller says of the output of a submodule in its last accepted frame.
abbrev pub provider_in : ℕ → ℕ → Option RelationState → Option ProviderStatus
provider_in slot subslot None = None
provider_in slot subslot (Some link) = provider_at link.flow.cyclic slot subslot

-- What happens to a PDU of the partner, and to the relation, which ERR ends.
abbrev pub heard_by : ToDevice → Option RelationState → PduFate
heard_by message None = Ignored
heard_by message (Some link) = heard_as link.flow.alarms message

-- What an alarm PDU of high priority does, by its outcome: it is accepted, dropped, or ends the relation.
abbrev pub hearing_as : PduFate → Flow → Handled
hearing_as (Data taken) flow = Exchanged flow
hearing_as Done flow = Exchanged flow
hearing_as Ignored flow = Unmoved
hearing_as (Aborted status) flow = Ended

-- What an alarm PDU of high priority does to the relation.
abbrev pub hearing : ToDevice → Option RelationState → Handled
hearing message None = Unmoved
hearing message (Some link) = hearing_as (heard_as link.flow.alarms message) (behind_message link.flow message)
