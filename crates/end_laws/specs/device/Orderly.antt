-- What holds of each relation of a device, from the answer to its Connect on.
use Rattle.std.specs.Prelude.{◌≡◌, ◌<◌, ℕ, Bool, false, List, map, Option, Some, None, is_some}
use Rattle.expected_places.specs.declared.calls.PlugCall.{PlugCall}
use Rattle.expected_places.specs.declared.place.ExpectedPlace.{ExpectedPlace}
use Rattle.expected_places.specs.Calls.{PlugQueue}
use Rattle.relations.specs.RelationState.{RelationState, is_exchanging}

-- Whether data is exchanged by the phase, whether it is by the exchange, whether an alarm of low priority was sent, and whether that of
-- a plug was: none of the others before data is exchanged.
abbrev pub IsEarly : (exchanges begun sent told : Bool) → Type 0
IsEarly exchanges begun sent told = exchanges ≡ false → (begun ≡ false) × (sent ≡ false) × (told ≡ false)

-- The number of the active call ApplicationReady of a plug, if there is one, has four octets.
abbrev pub IsNumberedCall : Option PlugCall → Type 0
IsNumberedCall None = Unit {0}
IsNumberedCall (Some call) = call.sequence < 4294967296

-- So has the number of the last one that was sent.
abbrev pub AreNumbered : PlugQueue → Type 0
AreNumbered calls = (calls.sequence < 4294967296) × IsNumberedCall calls.standing

-- Before data is exchanged no alarm of low priority was sent, and the numbers of calls have their size.
abbrev pub IsOrderly : RelationState → Type 0
IsOrderly link =
    IsEarly (is_exchanging link.phase) link.flow.cyclic.begun (is_some link.flow.low.alarms.sender.sending.last) link.plugs.has_told
    × AreNumbered link.plugs.calls

-- It holds of the relation, if there is one.
abbrev pub IsOrderlyIn : Option RelationState → Type 0
IsOrderlyIn None = Unit {0}
IsOrderlyIn (Some link) = IsOrderly link

-- The slot and the subslot of each of these places.
abbrev pub keys_of : List ExpectedPlace → List (ℕ × ℕ)
keys_of places = map (λ (place : ExpectedPlace). (place.slot, place.subslot)) places
