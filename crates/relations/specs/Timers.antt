-- What a unit of time, 31.25 microseconds, does to a relation.
use Rattle.std.specs.Prelude.{◌≡◌, ◌⊎◌, ◌==◌, ◌+◌, ◌*◌, ◌&&◌, ℕ, Bool, true, false, nat_le, not, Option, Some, None, is_none, option_map, if◌then◌else◌}
use Rattle.relations.specs.declared.phase.Phase.{Phase}
use Rattle.relations.specs.declared.phase.Phase.TheVariants.{Started, Preparing, Awaiting, Exchanging}
use Rattle.relations.specs.exchange.Units.{flow_later, repeated_in, repeated_of, tick_of}
use Rattle.relations.specs.declared.exchange.cyclic.Repeated.{Repeated}
use Rattle.pn_alarms.specs.declared.abort.Abort.{Abort}
use Rattle.pn_alarms.specs.declared.abort.Abort.TheVariants.{Activity, DataHold, Other}
use Rattle.cyclic_data.specs.Timing.{held_on}
use Rattle.relations.specs.declared.farewell.Farewell.{Farewell}
use Rattle.relations.specs.declared.time.Elapsed.{Elapsed}
use Rattle.expected_places.specs.Calls.{counted, is_again as is_call_again}
use Rattle.expected_places.specs.Machine.{PlugState}
use Rattle.relations.specs.RelationState.{RelationState, is_awaiting}
use Rattle.relations.specs.Farewells.{farewell_of}

-- The activity timer runs until data is exchanged.
abbrev pub is_timed : Phase → Bool
is_timed Started = true
is_timed Preparing = true
is_timed Awaiting = true
is_timed Exchanging = false

-- The activity timer has CMInitiatorActivityTimeoutFactor times 100 ms, which are 3,200 units each.
abbrev pub limit_of : RelationState → ℕ
limit_of link = link.request.ar.timeout_factor * 3200

-- Whether the activity timer is over with the next unit.
abbrev pub is_over : RelationState → Bool
is_over link = nat_le (limit_of link) (link.inactive + 1)

-- Why the relation ends with the next unit, if it does: the activity timer is over, or, once data is exchanged, the
-- exchange ends it.
abbrev pub ending_of : RelationState → Option Abort
ending_of link = if is_timed link.phase then (if is_over link then Some Activity else None) else (tick_of link.flow).ending

-- The phase in which a timeout ends a relation: the activity timer only before data is exchanged, data hold and an
-- alarm without an ACK only while data is exchanged.
abbrev pub EndsIn : Abort → Option Phase → Type 0
EndsIn Activity phase = (phase ≡ Some Started) ⊎ ((phase ≡ Some Preparing) ⊎ (phase ≡ Some Awaiting))
EndsIn DataHold phase = phase ≡ Some Exchanging
EndsIn Other phase = phase ≡ Some Exchanging

-- Whether the data hold time is over with the next unit, if data is exchanged.
abbrev pub is_unheard : RelationState → Bool
is_unheard link = (held_on link.flow.cyclic.hearing).held == link.flow.cyclic.hearing.limit

-- ApplicationReady is sent again each second, 32,000 units, until it is answered.
abbrev pub is_again : RelationState → Bool
is_again link = is_awaiting link.phase && (link.waited + 1 == 32000)

-- The ApplicationReady of a plug is sent again each second too. It is counted while data is exchanged.
abbrev pub is_plug_again : RelationState → Bool
is_plug_again link = not (is_timed link.phase) && is_call_again link.plugs.calls

-- The calls of plugs after a unit of time.
abbrev pub plugs_later : RelationState → PlugState
plugs_later link = if is_timed link.phase then link.plugs else record link.plugs { calls = counted link.plugs.calls }

-- The state after a unit of time.
abbrev pub inactive_later : RelationState → ℕ
inactive_later link = if is_timed link.phase then link.inactive + 1 else link.inactive

-- How long the device has waited for the answer to ApplicationReady, a unit later; 0 when it is sent again.
abbrev pub waited_later : RelationState → ℕ
waited_later link = if is_again link then 0 else (if is_awaiting link.phase then link.waited + 1 else link.waited)

-- The relation after a unit of time with which it does not end.
abbrev pub unit_later : RelationState → RelationState
unit_later link =
    record link { inactive = inactive_later link; waited = waited_later link; plugs = plugs_later link; flow = flow_later link.flow }

-- What is due with a unit.
pub record Due : Type 0 where
  pub farewell : Option Farewell
  pub is_alarm : Bool
  pub is_low : Bool
  pub is_ready : Bool
  pub is_plug_ready : Bool
  pub is_cyclic : Bool

-- What a unit brings: if a timeout ends the relation, nothing more is done. Otherwise the active alarm may be due
-- again, then that of low priority, then ApplicationReady or that of a plug, and then a frame of inputs.
abbrev pub due_by : RelationState → Option Abort → Due
due_by link (Some reason) = record { farewell = Some (farewell_of reason link); is_alarm = false; is_low = false; is_ready = false; is_plug_ready = false; is_cyclic = false }
due_by link None =
    record {
      farewell = None;
      is_alarm = (tick_of link.flow).is_alarm && (repeated_of link.flow).high;
      is_low = (tick_of link.flow).is_alarm && (repeated_of link.flow).low;
      is_ready = is_again link;
      is_plug_ready = is_plug_again link;
      is_cyclic = (tick_of link.flow).is_cyclic;
    }

-- What is due with the next unit in this relation.
abbrev pub due_in : RelationState → Due
due_in link = due_by link (ending_of link)

-- Nothing is due.
abbrev pub nothing : Due
nothing = record { farewell = None; is_alarm = false; is_low = false; is_ready = false; is_plug_ready = false; is_cyclic = false }

-- What is due with the next unit, nothing without a relation.
abbrev pub due_of : Option RelationState → Due
due_of None = nothing
due_of (Some link) = due_in link

-- The ERR of a relation that must end for this reason, if it must.
abbrev pub farewell_for : Option Abort → Option RelationState → Option Farewell
farewell_for (Some reason) link = option_map (farewell_of reason) link
farewell_for None link = None

-- Which alarms a relation sends again after the unit that passed last.
abbrev pub repeated_by : Option RelationState → Repeated
repeated_by None = record { high = false; low = false }
repeated_by (Some link) = repeated_in link.flow

-- What is due after a unit that brought this, for the relation that exists then.
abbrev pub due_behind : Elapsed → Option RelationState → Due
due_behind elapsed link = record {
  farewell = farewell_for elapsed.tick.ending link;
  is_alarm = elapsed.tick.is_alarm && (repeated_by link).high;
  is_low = elapsed.tick.is_alarm && (repeated_by link).low;
  is_ready = elapsed.is_ready;
  is_plug_ready = elapsed.is_plug_ready;
  is_cyclic = elapsed.tick.is_cyclic;
}

-- Whether nothing is due.
abbrev pub brings_nothing : Elapsed → Bool
brings_nothing elapsed = is_none elapsed.tick.ending && (not elapsed.tick.is_alarm && (not elapsed.is_ready && (not elapsed.is_plug_ready && not elapsed.tick.is_cyclic)))

-- Whether only inputs are due.
abbrev pub brings_inputs : Elapsed → Bool
brings_inputs elapsed = is_none elapsed.tick.ending && (not elapsed.tick.is_alarm && (not elapsed.is_ready && (not elapsed.is_plug_ready && elapsed.tick.is_cyclic)))

-- The relation after it has ended for this reason, if it must end.
abbrev pub left_behind : Option Abort → Option RelationState → Option RelationState
left_behind (Some reason) link = None
left_behind None link = link
