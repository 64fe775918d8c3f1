-- The alarms of a device (IEC 61158-6-10, 4.8 and 5.2.5).
use Rattle.std.specs.Prelude.{◌&&◌, ℕ, Bool, nat_le, List, length, Option, Some, None, is_none, if◌then◌else◌}
use Rattle.pn_values.specs.declared.real.RealModule.{RealModule}
use Rattle.module_diff.specs.Plugged.{module_ident, submodule_ident}
use Rattle.pn_alarms.specs.Message.{ToDevice}
use Rattle.pn_alarms.specs.declared.pdu.Header.{Header}
use Rattle.pn_alarms.specs.declared.pdu.PduType.{PduType}
use Rattle.pn_alarms.specs.Device.{end_behind, end_with, header_now}
use Rattle.pn_alarms.specs.Sender.{notice_of}
use Rattle.relations.specs.exchange.Flow.{Flow}

-- Whether an alarm with these octets may be raised: data is exchanged, there are at most 32 octets, and no alarm is
-- active.
abbrev pub may_raise : Flow → List ℕ → Bool
may_raise flow octets = flow.cyclic.begun && (nat_le (length octets) 32 && is_none flow.alarms.sender.standing)

-- The state after an alarm of a subslot, if it may be raised and a submodule is plugged there; otherwise no state.
abbrev pub raised_by : Flow → ℕ → ℕ → List ℕ → Option ℕ → Option ℕ → Option Flow
raised_by flow slot subslot octets (Some ident) (Some part) =
    if may_raise flow octets
    then Some (record flow { alarms = end_with flow.alarms (notice_of flow.alarms.sender.specifier slot subslot ident part octets) })
    else None
raised_by flow slot subslot octets (Some ident) None = None
raised_by flow slot subslot octets None part = None

-- The exchange after a process alarm of a submodule is raised, with the ident numbers of what is plugged there.
abbrev pub raised_at : Flow → List RealModule → ℕ → ℕ → List ℕ → Option Flow
raised_at flow real slot subslot octets = raised_by flow slot subslot octets (module_ident real slot) (submodule_ident real slot subslot)

-- The state after a PDU of the partner.
abbrev pub behind_message : Flow → ToDevice → Flow
behind_message flow message = record flow { alarms = end_behind flow.alarms message }

-- The header of a PDU that is sent now, from the endpoint of the device to that of the partner.
abbrev pub header_of : Flow → PduType → Header
header_of flow kind = header_now flow.alarms kind flow.cyclic.route.reference flow.endpoint
