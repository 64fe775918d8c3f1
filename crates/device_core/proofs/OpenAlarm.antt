-- The open alarm of the relation is that of its exchange.
use Rattle.std.proofs.Common.{◌≡◌, ◌∙◌, Bool, false, refl, ap}
use Rattle.std.specs.Prelude.{Option, Some, None, is_some, option_map}
use Rattle.relations.specs.exchange.Flow.{Flow}
use Rattle.relations.specs.exchange.Frames.{alarm_frame}
use Rattle.relations.specs.RelationState.{RelationState, flow_of}
use Rattle.device_core.specs.OpenAlarm.{has_open_alarm}

-- A value that is mapped is there as before.
mapped : {A B : Type 0} (f : A → B) (o : Option A) → is_some (option_map f o) ≡ is_some o
mapped f None = refl
mapped f (Some x) = refl

-- Whether an alarm of an exchange is open.
abbrev is_open : Option Flow → Bool
is_open None = false
is_open (Some flow) = is_some flow.alarms.sender.standing

pub open_in : (link : Option RelationState) (flow : Flow) (sent : Bool) → Some flow ≡ flow_of link → sent ≡ is_some (alarm_frame flow) → sent ≡ has_open_alarm link
open_in None flow sent is at = cc
open_in (Some link) flow sent is at = at ∙ (mapped _ flow.alarms.sender.standing ∙ ap is_open is)

pub none_open : (link : Option RelationState) → None ≡ flow_of link → false ≡ has_open_alarm link
none_open None is = refl
none_open (Some link) is = cc
