-- Both ends of a network, as far as a start-up is concerned.
use Rattle.std.specs.Prelude.{◌≡◌, ◌⊎◌, ◌&&◌, ℕ, Bool, nat_eq, nat_lt, List, map, slice_get, Some}
use Rattle.std.specs.List.{AllByRecursion}
use Rattle.std.specs.Option.{option_map}
use Rattle.lldp.specs.Views.{peer_as}
use Rattle.std.specs.Cmp.Lexicographic.{pointwise}
use Rattle.settings_journal.specs.settings_store.Machine.{Outcome}
use Rattle.connects.specs.requests.Request.{Request}
use Rattle.records.specs.declared.writes.taken.TakenRecord.{TakenRecord}
use Rattle.plans.specs.declared.parts.PlanRecord.{PlanRecord}
use Rattle.both_ends.specs.startup.request.Request.{request_for}
use Rattle.device_frames.specs.declared.event.Event.TheVariants.{Frame}
use Rattle.device_frames.specs.Heard.{Calls, Heard, Ticks, Applied, Met, heard_of}
use Rattle.device_frames.specs.Sendable.{AreSendable}
use Rattle.device_core.specs.State.{Station}
use Rattle.device_core.specs.Machine.{heard_step}
use Rattle.controller_messages.specs.declared.setup.Setup.{Setup}
use Rattle.controller_messages.specs.Heard.{heard_of as heard_by}
use Rattle.controller_messages.specs.PlugRequests.{plug_call}
use Rattle.controller_messages.specs.RecordRequests.{record_call}
use Rattle.controller_messages.specs.Requests.{group_of, write_count, writing_blocks}
use Rattle.controller_messages.specs.Sent.{Sent, Accesses, Parametrizes, bytes_of}
use Rattle.controller_core.specs.declared.stored.event.Event.{Event}
use Rattle.controller_core.specs.declared.stored.event.Event.TheVariants as controller
use Rattle.controller_core.specs.Machine.{turn_of}
use Rattle.network_world.specs.declared.moves.End.TheVariants.{Device, Controller}
use Rattle.network_world.specs.declared.moves.Move.{Move}
use Rattle.network_world.specs.declared.moves.Move.TheVariants as move
use Rattle.network_world.specs.World.{World}
use Rattle.end_laws.specs.both.Small as small
use Rattle.end_laws.specs.both.Small.{Rules, ToDevice}
use Rattle.end_laws.specs.both.Steps.{records_of}
use Rattle.end_laws.specs.controller.Small.{said_by, said_to, says_written, small_of}
use Rattle.end_laws.specs.device.Small.{IsHeardAs, IsPlanned, heard_as, number_in, said_to as device_said}
use Rattle.end_laws.specs.device.Small as device

-- ---- the start-up of a plan

-- a record of the plan, as a device stores it
abbrev pub taken_for : PlanRecord → TakenRecord
taken_for entry = record { slot = entry.slot; subslot = entry.subslot; index = entry.index; value = record { items = entry.data.items } }

-- Whether the blocks of a call are those of the Write of the plan with this number. Its sequence number is larger: by one, if no call was
-- tried again before.
abbrev pub is_write : Setup → ℕ → List ℕ → ℕ → Bool
is_write setup sequence blocks number =
    nat_lt number (write_count setup.plan) && (pointwise nat_eq blocks (writing_blocks setup number) && nat_lt number sequence)

-- whether a Write with a sequence number and blocks is one of the plan
abbrev pub is_planned : Setup → ℕ → List ℕ → Bool
is_planned setup sequence blocks = is_write setup sequence blocks (number_in blocks)

-- the request of the plan's Connect, its Writes and the records of each, whether the blocks of a response say that these were
-- written, whether the plan goes on after a record that was refused, and what each end hears in octets
abbrev pub rules_of : Setup → Station → Rules TakenRecord Request
rules_of setup station = record {
  request = request_for setup.plan setup.ar;
  count = write_count setup.plan;
  group = λ number. map taken_for (group_of setup.plan number);
  is_planned = is_planned setup;
  grants = says_written setup.plan;
  skips = setup.plan.continue_on_refused_record;
  to_device = λ octets. heard_as (is_planned setup) (heard_of station.identity (Frame (record { items = octets })));
  to_controller = λ octets. said_to setup (heard_by setup.plan.controller octets);
}

-- the records of these rules are those of the plan, in their order
abbrev pub AreThePlans : Setup → Station → Type 0
AreThePlans setup station = records_of (rules_of setup station) ≡ map taken_for setup.plan.records.items

-- a world, as a start-up sees it
abbrev pub view_of : {F : Type 0} → World F → small.World TakenRecord Request
view_of world = record {
  device = device.small_of world.controller.setup.activity world.device.live;
  controller = small_of world.controller.setup.plan world.controller.live;
  sent = world.sent;
}

-- a move, as a start-up sees it
abbrev pub move_of : Move → small.Move
move_of (move.Deliver Device number) = small.ComesToDevice number
move_of (move.Deliver Controller number) = small.ComesToController number
move_of (move.Tick Device) = small.AtDevice
move_of (move.Tick Controller) = small.AtController
move_of (move.Application local) = small.AtDevice
move_of (move.Neighbour neighbour) = small.AtDevice
move_of (move.Give slot subslot value) = small.AtController
move_of (move.OutputStatus slot subslot is_good) = small.AtController
move_of (move.Read slot subslot index) = small.AtController
move_of (move.Write slot subslot index octets) = small.AtController
move_of move.Stop = small.AtController

-- ---- what is heard as it is meant

-- The device hears this. If it is a call, it is one of the plan. Each message that the device then sends is heard as it
-- is meant, if it can be sent, whatever its flash does.
pub record IsMeantAtDevice {F : Type 0} (world : World F) (heard : Heard) : Type 0 where
  pub planned : IsPlanned (rules_of world.controller.setup world.device.station) world.controller.setup.activity world.device.station.named
      world.device.live.rest.real heard
  pub sent : (outcomes : List Outcome) → AreSendable world.device.station.identity (heard_step outcomes world.device.station world.device.live heard).sent
      → AllByRecursion (IsHeardAs (rules_of world.controller.setup world.device.station) world.device.station.identity)
      (heard_step outcomes world.device.station world.device.live heard).sent

-- what a message of the controller says to the device: a request of the application, or one after a plug, the call that it is
abbrev pub says_to_device : Setup → Sent → ToDevice
says_to_device setup (Accesses device request octets) = device_said (is_planned setup) (Calls (record_call setup request octets))
says_to_device setup (Parametrizes device request) = device_said (is_planned setup) (Calls (plug_call setup request))
says_to_device setup message = said_by setup.plan message

-- a message of the controller: the controller hears nothing of a start-up in it, and the device hears what it says, or
-- nothing
abbrev pub IsSaidAs : Setup → Station → Sent → Type 0
IsSaidAs setup station message =
    ((rules_of setup station).to_controller (bytes_of setup message) ≡ small.Nothing)
    × (((rules_of setup station).to_device (bytes_of setup message) ≡ says_to_device setup message)
    ⊎ ((rules_of setup station).to_device (bytes_of setup message) ≡ small.Idle))

-- the controller handles this event: each message that it then sends is heard as it is meant
abbrev pub IsMeantAtController : {F : Type 0} → World F → Event → Type 0
IsMeantAtController world event =
    AllByRecursion (IsSaidAs world.controller.setup world.device.station) (turn_of world.controller.setup world.controller.live event).sent

-- a move, in a world: everything that is delivered and sent then is heard as it is meant
abbrev pub IsMeant : {F : Type 0} → World F → Move → Type 0
IsMeant world (move.Deliver Device number) =
    (octets : List ℕ) → slice_get world.sent number ≡ Some octets → IsMeantAtDevice world (heard_of world.device.station.identity (Frame (record { items = octets })))
IsMeant world (move.Deliver Controller number) =
    (octets : List ℕ) → slice_get world.sent number ≡ Some octets → IsMeantAtController world (controller.Frame (record { items = octets }))
IsMeant world (move.Tick Device) = IsMeantAtDevice world Ticks
IsMeant world (move.Tick Controller) = IsMeantAtController world controller.Tick
IsMeant world (move.Application local) = IsMeantAtDevice world (Applied local)
IsMeant world (move.Neighbour neighbour) = IsMeantAtDevice world (Met (option_map peer_as neighbour))
IsMeant world (move.Give slot subslot value) = IsMeantAtController world (controller.Give slot subslot value)
IsMeant world (move.OutputStatus slot subslot is_good) = IsMeantAtController world (controller.Status slot subslot is_good)
IsMeant world (move.Read slot subslot index) = IsMeantAtController world (controller.Read slot subslot index)
IsMeant world (move.Write slot subslot index octets) = IsMeantAtController world (controller.Write slot subslot index octets)
IsMeant world move.Stop = IsMeantAtController world controller.Stop
