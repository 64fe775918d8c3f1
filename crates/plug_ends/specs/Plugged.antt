-- What both ends of a network know of the records of a submodule after a plug.
use Rattle.std.specs.Prelude.{◌≡◌, ◌<◌, ◌++◌, false, ℕ, List, map, Some}
use Rattle.std.specs.List.{AllByRecursion, filter}
use Rattle.records.specs.declared.writes.taken.TakenRecord.{TakenRecord}
use Rattle.plans.specs.declared.parts.PlanRecord.{PlanRecord}
use Rattle.plan_places.specs.declared.place.PlaceState.TheVariants.{Ready}
use Rattle.plan_places.specs.Places.{Told, state_at}
use Rattle.plan_places.specs.Records.{is_record_of}
use Rattle.relations.specs.RelationState.{RelationState, passes_on}
use Rattle.controller_messages.specs.declared.plug_request.PlugRequest.{PlugRequest}
use Rattle.controller_messages.specs.declared.plug_request.PlugStep.TheVariants.{PrmEnd}
use Rattle.controller_messages.specs.declared.record_request.RecordRequest.{RecordRequest}
use Rattle.controller_messages.specs.declared.record_request.RecordService.TheVariants.{Write}
use Rattle.network_world.specs.declared.moves.Move.{Move}
use Rattle.network_world.specs.World.{World}
use Rattle.both_ends.specs.startup.View.{taken_for}

-- The last ones of a list are these.
abbrev pub EndsWith : {A : Type 0} → List A → List A → Type 0
EndsWith {A} all last = (front : List A) × (all ≡ front ++ last)

-- Those of these records that are for a submodule, in order, as a device stores them.
abbrev pub records_at : ℕ → ℕ → List PlanRecord → List TakenRecord
records_at slot subslot records = map taken_for (filter (is_record_of slot subslot) records)

-- The request of a controller's application is a Write of a record of this submodule.
pub record WritesAt (slot subslot : ℕ) (request : RecordRequest) : Type 0 where
  pub writes : request.service ≡ Write
  pub slot_is : request.slot ≡ slot
  pub subslot_is : request.subslot ≡ subslot

-- It is not: it is a Read, or for another submodule. Its slot, subslot and index have 16 bits.
pub record IsElsewhere (slot subslot : ℕ) (request : RecordRequest) : Type 0 where
  pub slot_sized : request.slot < 65536
  pub subslot_sized : request.subslot < 65536
  pub index_sized : request.index < 65536
  pub other : WritesAt slot subslot request → ⊥

-- Nothing but the plan's records is written at a submodule: the device keeps what its relation accepts and passes none of it on to its
-- application, and no request of the controller's application waits that writes a record there. No PrmEnd after a plug has the last
-- number for calls.
pub record IsUndisturbed {F : Type 0} (slot subslot : ℕ) (world : World F) : Type 0 where
  pub keeps : (link : RelationState) → world.device.live.rest.link ≡ Some link → passes_on link ≡ false
  pub unwritten : (request : RecordRequest) → world.controller.live.access.waiting ≡ Some request → IsElsewhere slot subslot request
  pub unwrapped : (request : PlugRequest) → world.controller.live.access.plug ≡ Some request → request.step ≡ PrmEnd → request.sequence < 4294967295

-- So it is after each move of a run.
abbrev pub AreUndisturbed : {F : Type 0} → ℕ → ℕ → List (Move × World F) → Type 0
AreUndisturbed slot subslot run = AllByRecursion (λ one. IsUndisturbed slot subslot one.1) run

-- The controller says of a submodule that it is there again after a plug.
abbrev pub IsReadyAt : ℕ → ℕ → Told → Type 0
IsReadyAt slot subslot places = (number : ℕ) × (state_at slot subslot places ≡ Some (Ready number))
