-- While only the timers of an exchange run (IEC 61158-6-10, 4.7): that of the inputs, and the data hold time.
use Rattle.std.specs.Prelude.{◌≡◌, ◌&&◌, ◌<◌, ◌≤◌, Bool, false, true, not, is_some, nat_lt, if◌then◌else◌, Option, Some, None}
use Rattle.pn_alarms.specs.Leaps.{never}
use Rattle.cyclic_data.specs.Leaps.{frame_due_in}
use Rattle.cyclic_data.specs.exchange.Leaps.{silent_in}
use Rattle.expected_places.specs.Machine.{PlugState}
use Rattle.relations.specs.declared.phase.Phase.{Phase}
use Rattle.relations.specs.declared.phase.Phase.TheVariants.{Exchanging}
use Rattle.relations.specs.declared.steady.Steady.{Steady}
use Rattle.relations.specs.exchange.Calm.{IsCalm, is_calm}
use Rattle.relations.specs.exchange.Flow.{Flow}
use Rattle.relations.specs.RelationState.{RelationState}
use Rattle.relations.specs.Timers.{Due, is_timed}

-- ---- what may be known

-- Data is exchanged, its alarms have nothing to do, and no ApplicationReady of a plug waits for its answer. Inputs are due in this
-- many units, and the data hold time is not over in fewer than these.
pub record Runs (steady : Steady) (link : RelationState) : Type 0 where
  pub exchanging : link.phase ≡ Exchanging
  pub calm : IsCalm link.flow
  pub answered : link.plugs.calls.standing ≡ None
  pub inputs : steady.inputs ≡ frame_due_in link.flow.cyclic.sending
  pub few : steady.inputs < never
  pub held : steady.held ≤ silent_in link.flow.cyclic

-- Nothing is ever due.
abbrev pub never_due : Steady
never_due = record { inputs = never; held = never }

-- Or there is no relation, and nothing is ever due.
abbrev pub RunsIn : Steady → Option RelationState → Type 0
RunsIn steady None = steady ≡ never_due
RunsIn steady (Some link) = Runs steady link

-- Nothing is due of a relation before its inputs.
pub record IsSteady (steady : Steady) (link : Option RelationState) : Type 0 where
  pub first : steady.inputs ≤ steady.held
  pub runs : RunsIn steady link

-- ---- what is known

-- Nothing is.
abbrev pub unknown : Steady
unknown = record { inputs = 0; held = 0 }

-- What is known of an exchange whose alarms have nothing to do: nothing if the data hold time may be over before its inputs are due.
abbrev pub steady_of : Flow → Steady
steady_of flow =
    if nat_lt (silent_in flow.cyclic) (frame_due_in flow.cyclic.sending)
    then unknown
    else record { inputs = frame_due_in flow.cyclic.sending; held = silent_in flow.cyclic }

-- Whether only the timers of the exchange run of a relation: data is exchanged, no ApplicationReady of a plug waits for its answer,
-- and the alarms have nothing to do.
abbrev pub is_alone : Phase → PlugState → Flow → Bool
is_alone phase plugs flow = not (is_timed phase) && (not (is_some plugs.calls.standing) && is_calm flow)

-- What is known of an exchange, by whether only its timers run.
abbrev pub known_if : Bool → Flow → Steady
known_if alone flow = if alone then steady_of flow else unknown

-- What is known of a relation, or without one.
abbrev pub steady_in : Option RelationState → Steady
steady_in None = never_due
steady_in (Some link) = known_if (is_alone link.phase link.plugs link.flow) link.flow

-- Only inputs are due.
abbrev pub inputs_alone : Due
inputs_alone = record { farewell = None; is_alarm = false; is_low = false; is_ready = false; is_plug_ready = false; is_cyclic = true }
