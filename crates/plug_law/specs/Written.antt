-- What a device granted to a controller after plugs, and what the plan asks for.
use Rattle.std.specs.Prelude.{◌≡◌, ◌+◌, ◌&&◌, ◌++◌, ℕ, List, [], ◌∷◌, map, take, Option, Some, None, if◌then◌else◌}
use Rattle.rpc_core.specs.Response.{Answered as Response, is_done}
use Rattle.plans.specs.declared.parts.Parts.{Parts}
use Rattle.plans.specs.declared.parts.PlanRecord.{PlanRecord}
use Rattle.plan_places.specs.Records.{is_record_of}
use Rattle.controller_messages.specs.declared.plug_request.PlugRequest.{PlugRequest}
use Rattle.controller_messages.specs.declared.plug_request.PlugStep.{PlugStep}
use Rattle.controller_messages.specs.declared.plug_request.PlugStep.TheVariants.{Record, PrmEnd}
use Rattle.controller_messages.specs.declared.request.Request.{Request}
use Rattle.controller_messages.specs.declared.setup.Setup.{Setup}
use Rattle.controller_messages.specs.Heard.{Heard, Responds, heard_of}
use Rattle.controller_messages.specs.PlugRequests.{is_plug_answer}
use Rattle.controller_core.specs.declared.stored.event.Event.{Event}
use Rattle.controller_core.specs.declared.stored.event.Event.TheVariants.{Frame}
use Rattle.controller_core.specs.stored.State.{Live}
use Rattle.controller_core.specs.Machine.{turn_of}

-- ---- what the plan asks for

-- The numbers of the records for a submodule, in order, if the first of all has this number.
abbrev pub numbers_at : ℕ → ℕ → ℕ → List PlanRecord → List ℕ
numbers_at slot subslot number [] = []
numbers_at slot subslot number (entry ∷ entries) =
    if is_record_of slot subslot entry then number ∷ numbers_at slot subslot (number + 1) entries else numbers_at slot subslot (number + 1) entries

-- What is asked of a place after the plug with a number: one of its records, or PrmEnd.
pub record PlaceStep : Type 0 where
  pub slot : ℕ
  pub subslot : ℕ
  pub number : ℕ
  pub step : PlugStep

-- What a request asks.
abbrev pub step_in : PlugRequest → PlaceStep
step_in request = record { slot = request.slot; subslot = request.subslot; number = request.number; step = request.step }

-- The Writes of these records, for the plug of a request.
abbrev pub writes_for : PlugRequest → List ℕ → List PlaceStep
writes_for request numbers =
    map (λ (number : ℕ). let one : PlaceStep = record { slot = request.slot; subslot = request.subslot; number = request.number; step = Record number } in one) numbers

-- The numbers of the plan's records for a submodule that come before this step: those before this record, or all before PrmEnd.
abbrev pub numbers_before : Parts → ℕ → ℕ → PlugStep → List ℕ
numbers_before plan slot subslot (Record number) = numbers_at slot subslot 0 (take number plan.records.items)
numbers_before plan slot subslot PrmEnd = numbers_at slot subslot 0 plan.records.items

-- ---- what was granted

-- The request after a plug that waits, if this is the positive response to it.
abbrev pub granted_by : Setup → Response → Option Request → Option PlugRequest → List PlugRequest
granted_by setup response None (Some request) =
    if is_plug_answer setup request response.header.activity response.header.sequence && is_done response.status then request ∷ [] else []
granted_by setup response asked plug = []

-- What is heard grants it.
abbrev pub granted_in : Setup → Live → Heard → List PlugRequest
granted_in setup live (Responds response) = granted_by setup response live.asked live.access.plug
granted_in setup live heard = []

-- An event grants it.
abbrev pub granted_with : Setup → Live → Event → List PlugRequest
granted_with setup live (Frame bytes) = granted_in setup live (heard_of setup.plan.controller bytes.items)
granted_with setup live event = []

-- All requests after plugs that are granted with these events, one after the other.
abbrev pub granted_over : Setup → Live → List Event → List PlugRequest
granted_over setup live [] = []
granted_over setup live (event ∷ events) = granted_with setup live event ++ granted_over setup (turn_of setup live event).live events

-- The controller after these events.
abbrev pub after_events : Setup → Live → List Event → Live
after_events setup live [] = live
after_events setup live (event ∷ events) = after_events setup (turn_of setup live event).live events

-- The last ones of a list are these.
abbrev pub EndWith : List PlaceStep → List PlaceStep → Type 0
EndWith all last = (front : List PlaceStep) × (all ≡ front ++ last)
