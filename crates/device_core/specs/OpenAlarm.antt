-- The process alarm of a device that the controller has not confirmed.
use Rattle.std.specs.Prelude.{Bool, false, Option, Some, None, is_some}
use Rattle.relations.specs.RelationState.{RelationState}

-- Whether a process alarm of the application relation is open: it was raised, and its AlarmAck has not come.
abbrev pub has_open_alarm : Option RelationState → Bool
has_open_alarm None = false
has_open_alarm (Some link) = is_some link.flow.alarms.sender.standing
