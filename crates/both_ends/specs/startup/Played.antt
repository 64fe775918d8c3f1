-- Moves that were played, with the world after each of them.
use Rattle.std.specs.Prelude.{◌≡◌, ◌≤◌, ◌<◌, ℕ, true, List, [], ◌∷◌, map, None}
use Rattle.std.specs.List.{AllByRecursion}
use Rattle.pn_values.specs.declared.identity.Identity.{Identity}
use Rattle.flash_model.specs.declared.flash.Flash.{Ghosts as Flash}
use Rattle.controller_core.specs.Machine.{first as first_live, opening_of}
use Rattle.connect_blocks.specs.ArBlock.{is_some_uuid}
use Rattle.rpc_core.specs.Cache.{kept_of}
use Rattle.asked_records.specs.Asked.{question_in}
use Rattle.asked_records.specs.Names.{last_index, named_at}
use Rattle.asked_records.specs.declared.names.RecordName.{RecordName}
use Rattle.plans.specs.declared.parts.PlanRecord.{PlanRecord}
use Rattle.controller_messages.specs.declared.setup.Setup.{Setup}
use Rattle.network_world.specs.declared.moves.Move.{Move}
use Rattle.network_world.specs.World.{AreMade, World, last_world}
use Rattle.end_laws.specs.both.Small as small
use Rattle.connects.specs.requests.Request.{Request}
use Rattle.records.specs.declared.writes.taken.TakenRecord.{TakenRecord}
use Rattle.both_ends.specs.startup.View.{IsMeant, move_of, view_of}

module _ {F : Type 0} where
  -- everything that is delivered and sent with each move of a run is heard as it is meant
  abbrev pub AreMeant : World F → List (Move × World F) → Type 0
  AreMeant before [] = Unit {0}
  AreMeant before (one ∷ run) = IsMeant before one.0 × AreMeant one.1 run

  -- the moves of a run
  abbrev pub moves_of : List (Move × World F) → List Move
  moves_of run = map (λ one. one.0) run

  -- a run, as a start-up sees it
  abbrev pub viewed : List (Move × World F) → List (small.Move × small.World TakenRecord Request)
  viewed run = map (λ one. (move_of one.0, view_of one.1)) run

-- the index of a parameter record is manufacturer-specific (IEC 61158-6-10, 5.2.3.22)
abbrev pub IsParameter : PlanRecord → Type 0
IsParameter entry = entry.index < 0x8000

-- a record's slot and subslot have 16 bits
abbrev pub IsPlaced : PlanRecord → Type 0
IsPlaced entry = (entry.slot < 65536) × (entry.subslot < 65536)

-- the slot and the subslot of each record have 16 bits
abbrev pub ArePlaced : List PlanRecord → Type 0
ArePlaced records = AllByRecursion IsPlaced records

-- the application answers no record with the slot, the subslot and the index of this one
abbrev pub IsUnnamed : List RecordName → PlanRecord → Type 0
IsUnnamed named entry = named_at entry.slot entry.subslot entry.index named ≡ None

-- No record of the plan is one that the application of the station answers. The indices of those are at most 0x7FFF, as each
-- station checks: so a Write that carries a list is not of one of them.
pub record AreUnnamed (named : List RecordName) (planned : List PlanRecord) : Type 0 where
  pub indices : AllByRecursion (λ name. name.index ≤ last_index) named
  pub records : AllByRecursion (IsUnnamed named) planned

-- A world at the start: the controller was just made from this set-up, and has sent only its opening frame. The device
-- of this identity has no relation, asks its application nothing, and has stored no answer to a call of the activity of this
-- controller. Its application answers no record of the plan. It may have stored answers to calls of other activities, and all else
-- that earlier relations leave: the log, the units since its start, its settings, the statuses that its application gave, its
-- neighbour and the diagnoses that exist.
pub record Begins {F : Type 0} (setup : Setup) (identity : Identity) (world : World F) : Type 0 where
  pub of_setup : world.controller.setup ≡ setup
  pub of_device : world.device.station.identity ≡ identity
  pub made : world.controller.live ≡ first_live setup.plan
  pub opened : world.sent ≡ opening_of world.controller ∷ []
  pub uncalled : kept_of setup.activity world.device.live.rest.calls ≡ None
  pub unrelated : world.device.live.rest.link ≡ None
  pub unasked : question_in world.device.live.rest.asked ≡ None
  pub unnamed : AreUnnamed world.device.station.named setup.plan.records.items

-- The premises about a set-up and a device: their MAC addresses differ, the ARUUID is not zero, and the plan's records
-- are parameter records.
pub record CanMeet (setup : Setup) (identity : Identity) : Type 0 where
  pub apart : identity.mac ≡ setup.plan.controller.mac → ⊥
  pub named : is_some_uuid setup.ar ≡ true
  pub records : AllByRecursion IsParameter setup.plan.records.items

-- Moves that were played, as a run.
pub record IsRunOf {F : Type 0} {S : ℕ} (as_flash : Flash F S) (before : World F) (moves : List Move) (after : World F) : Type 0 where
  pub run : List (Move × World F)
  pub are : moves_of run ≡ moves
  pub made : AreMade as_flash before run
  pub last : last_world before run ≡ after
