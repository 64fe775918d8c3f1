-- What a device hears of strangers.
use Rattle.std.proofs.Common.{◌≡◌, ℕ, Bool, true, false, nat_eq, List, Some}
use Rattle.std.specs.Cmp.Lexicographic.{pointwise}
use Rattle.std.specs.List.{AllByRecursion}
use Rattle.pn_values.specs.declared.set_item.SetItem.{SetItem}
use Rattle.pn_values.specs.declared.set_item.SetItem.TheVariants.{Ask, Signal, Answer}
use Rattle.dcp_core.specs.declared.request.Service.TheVariants as service
use Rattle.dcp_core.specs.Set.{plan_of}
use Rattle.rpc_core.specs.Call.{Asked as Call}
use Rattle.cyclic_data.specs.exchange.Received.{is_of_partner}
use Rattle.relations.specs.RelationState.{RelationState, is_alarm_of}
use Rattle.device_frames.specs.Heard.{Heard, Unreadable, Elsewhere, Asks, Resolves, Reported, Cyclic, Alarms, LowReplies, LowConfirms, Calls, Responds, Garbled}
use Rattle.octets_law.specs.Octets.{part}

-- An item of a Set that asks nothing of the settings.
abbrev pub IsQuiet : SetItem → Type 0
IsQuiet (Ask command) = ⊥
IsQuiet Signal = Unit {0}
IsQuiet (Answer answer) = Unit {0}

-- Whether the first block of a call has the ARUUID of the relation.
abbrev pub Names : RelationState → List ℕ → Bool
Names link blocks = pointwise nat_eq link.request.ar.uuid (part 8 16 blocks)

-- What a call would have to name.
abbrev pub IsUnnamed : RelationState → Call → Type 0
IsUnnamed link call = (blocks : List ℕ) → call.blocks ≡ Some blocks → Names link blocks ≡ false

-- A Set that asks nothing of the settings while a relation exists; a call that does not name the relation, and a response to another call;
-- a cyclic frame and an alarm frame that are not of the partner; anything else from the network.
abbrev pub IsHarmless : RelationState → Heard → Type 0
IsHarmless link (Asks source request) = request.service ≡ service.Set → AllByRecursion IsQuiet (plan_of true request)
IsHarmless link (Resolves asker packet) = Unit {0}
IsHarmless link (Reported caller address (Calls call)) = IsUnnamed link call
IsHarmless link (Reported caller address (Responds response)) = pointwise nat_eq response.header.activity link.request.ar.uuid ≡ false
IsHarmless link (Reported caller address Garbled) = Unit {0}
IsHarmless link (Cyclic source frame_id body) = is_of_partner link.flow.cyclic.route source frame_id ≡ false
IsHarmless link (Alarms source header told) = is_alarm_of source header.destination header.source (Some link) ≡ false
IsHarmless link (LowReplies source header told) = is_alarm_of source header.destination header.source (Some link) ≡ false
IsHarmless link (LowConfirms source header told) = is_alarm_of source header.destination header.source (Some link) ≡ false
IsHarmless link Unreadable = Unit {0}
IsHarmless link Elsewhere = Unit {0}
IsHarmless link heard = ⊥
