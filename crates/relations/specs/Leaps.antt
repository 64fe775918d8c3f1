-- Several units of time at once, before the next one that brings something to a relation.
use Rattle.std.specs.Prelude.{◌≡◌, ◌<◌, ◌+◌, ◌-◌, ◌&&◌, ℕ, Bool, false, max, min, not, Option, Some, None, if◌then◌else◌}
use Rattle.pn_alarms.specs.Leaps.{never}
use Rattle.relations.specs.declared.phase.Phase.{Phase}
use Rattle.relations.specs.exchange.Leaps.{flow_due_in}
use Rattle.relations.specs.RelationState.{RelationState, is_awaiting}
use Rattle.expected_places.specs.Calls.{again_in, counted_by, is_again as is_call_again}
use Rattle.expected_places.specs.Machine.{PlugState}
use Rattle.relations.specs.Timers.{due_of, is_timed, limit_of, nothing}
use Rattle.relations.specs.Runs.{units_over}

-- The number of units up to and including the next one with which the activity timer, which has this limit and has run for so
-- many units, is over. It runs until data is exchanged.
abbrev pub inactive_in : Phase → ℕ → ℕ → ℕ
inactive_in phase limit inactive = if is_timed phase then max 1 (limit - inactive) else never

-- The number of units up to and including the next one with which ApplicationReady, which has waited for that many units, is
-- sent again.
abbrev pub ready_in : Phase → ℕ → ℕ
ready_in phase waited = if is_awaiting phase then 32000 - waited else never

-- The same of the ApplicationReady of a plug, which has a timer while data is exchanged.
abbrev pub plug_again_in : Phase → PlugState → ℕ
plug_again_in phase plugs = if is_timed phase then never else again_in plugs.calls

-- The units of both timers, several units later, before either is over.
abbrev pub inactive_by : Phase → ℕ → ℕ → ℕ
inactive_by phase units inactive = if is_timed phase then inactive + units else inactive

-- How long the device has waited for the answer to ApplicationReady, this many units later.
abbrev pub waited_by : Phase → ℕ → ℕ → ℕ
waited_by phase units waited = if is_awaiting phase then waited + units else waited

-- The calls of plugs, several units later, before that time is over.
abbrev pub plugs_by : Phase → ℕ → PlugState → PlugState
plugs_by phase units plugs = if is_timed phase then plugs else record plugs { calls = counted_by units plugs.calls }

-- The ApplicationReady of a plug is due again with the next unit.
abbrev pub is_plug_due : Phase → PlugState → Bool
is_plug_due phase plugs = not (is_timed phase) && is_call_again plugs.calls

-- It is due again with none of the next units.
abbrev pub NoPlugDueFor : ℕ → Phase → PlugState → Type 0
NoPlugDueFor units phase plugs = (before : ℕ) → before < units → is_plug_due phase (plugs_by phase before plugs) ≡ false

-- The number of units up to and including the next one that brings something to a relation: a frame of inputs, an alarm, an
-- ApplicationReady or that of a plug is sent again, an alarm is given up, or a timeout ends the relation.
abbrev pub link_due_in : RelationState → ℕ
link_due_in link =
    min (flow_due_in link.flow)
    (min (plug_again_in link.phase link.plugs) (min (inactive_in link.phase (limit_of link) link.inactive) (ready_in link.phase link.waited)))

-- The number of units up to and including the next one that brings something to the relation; without one no unit does.
abbrev pub due_within : Option RelationState → ℕ
due_within None = never
due_within (Some link) = link_due_in link

-- Nothing is due with any of the next units.
abbrev pub NothingDueFor : ℕ → Option RelationState → Type 0
NothingDueFor units link = (before : ℕ) → before < units → due_of (units_over before link) ≡ nothing
