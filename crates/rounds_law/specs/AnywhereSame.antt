-- Whether both ends exchange data in the same relation: what the relation of an earlier start can leave, and from when on it cannot.
use Rattle.std.specs.Prelude.{◌≡◌, ◌<◌, ◌+◌, ◌⊎◌, ℕ, true, false, List, Option, Some, None}
use Rattle.std.specs.List.{AllByRecursion}
use Rattle.rpc_core.specs.Cache.{Kept, kept_of}
use Rattle.rpc_core.specs.Response.{is_done}
use Rattle.connects.specs.answers.Connect.{Chosen}
use Rattle.relations.specs.Numbers.{endpoint_of}
use Rattle.relations.specs.RelationState.{RelationState}
use Rattle.device_core.specs.State.{Live}
use Rattle.controller_messages.specs.declared.request.Request.TheVariants as asks
use Rattle.controller_messages.specs.declared.setup.Setup.{Setup}
use Rattle.controller_messages.specs.Heard.{Heard, Responds, heard_of}
use Rattle.controller_core.specs.start_up.Answers.{is_answer}
use Rattle.end_laws.specs.turns.Turns.{chosen_in}
use Rattle.rounds_law.specs.Rounds.{Net}

-- This FrameID of outputs and this endpoint of alarms are those of one number that a device gives a relation.
pub record AreOfNumber (frame_id endpoint : ℕ) : Type 0 where
  pub number : ℕ
  pub few : number < 14336
  pub outputs : frame_id ≡ 0xC000 + number
  pub alarms : endpoint ≡ endpoint_of number

-- If the device has a relation with this controller, it is that of this start: it has its ARUUID, and a number.
abbrev pub IsOfStart : Setup → Option RelationState → Type 0
IsOfStart setup None = Unit {0}
IsOfStart setup (Some link) = link.flow.cyclic.route.partner ≡ setup.plan.controller.mac
    → (link.request.ar.uuid ≡ setup.ar) × AreOfNumber link.flow.cyclic.route.taken_id link.flow.endpoint

-- If the controller hears a positive response to its Connect, this holds of what the device chose in it.
abbrev pub Chooses : Setup → (Chosen → Type 0) → Heard → Type 0
Chooses setup Holds (Responds response) = is_answer setup asks.Connect response.header ≡ true → is_done response.status ≡ true
    → (chosen : Chosen) → chosen_in response.blocks ≡ Some chosen → Holds chosen
Chooses setup Holds heard = Unit {0}

-- If these octets are a positive response to the Connect of this controller, this holds of what the device chose in it.
abbrev pub ChoosesIn : Setup → (Chosen → Type 0) → List ℕ → Type 0
ChoosesIn setup Holds octets = Chooses setup Holds (heard_of setup.plan.controller octets)

-- This holds of what the device chose in the answer to this controller's Connect that it has stored.
abbrev pub StoresChosen : Setup → (Chosen → Type 0) → Live → Type 0
StoresChosen setup Holds live = (kept : Kept) → kept_of setup.activity live.rest.calls ≡ Some kept → ChoosesIn setup Holds kept.frame

-- The device chose the numbers of a relation.
abbrev pub IsNumberChosen : Chosen → Type 0
IsNumberChosen chosen = AreOfNumber chosen.frame_id chosen.reference

-- It chose nothing: there is no positive response.
abbrev pub IsNoneChosen : Chosen → Type 0
IsNoneChosen chosen = ⊥

-- The controller has no relation, and gets none by what was sent so far: no positive response to its Connect is stored or under way.
pub record IsUnrelated {F : Type 0} (setup : Setup) (net : Net F) : Type 0 where
  pub unestablished : net.controller.live.stands ≡ false
  pub stored : StoresChosen setup IsNoneChosen net.device.live
  pub under_way : AllByRecursion (ChoosesIn setup IsNoneChosen) net.to_controller

-- No relation of an earlier start is in the way: the device has none with this controller but that of this start, or the controller has no
-- relation, and gets none by what was sent so far. One is in the way if the device lost its power and then accepted a late Connect of an
-- earlier start, while its controller has the relation of this start. The FrameID and the endpoint that the controller has, or may still hear
-- of, are those of one number.
pub record IsOfThisStart {F : Type 0} (setup : Setup) (net : Net F) : Type 0 where
  pub route : net.controller.live.stands ≡ true → AreOfNumber net.controller.live.cyclic.route.sent_id net.controller.live.cyclic.route.reference
  pub stored : StoresChosen setup IsNumberChosen net.device.live
  pub under_way : AllByRecursion (ChoosesIn setup IsNumberChosen) net.to_controller
  pub relation : IsOfStart setup net.device.live.rest.link ⊎ IsUnrelated setup net
