-- What a device makes of a place of its relation after a plug: how far the place is, and the records that were accepted there.
use Rattle.std.specs.Prelude.{◌≡◌, ℕ, List, Option, Some, None, option_map, Ok}
use Rattle.std.specs.List.{filter}
use Rattle.settings_journal.specs.settings_store.Machine.{Outcome}
use Rattle.frame_codec.specs.declared.udp.Caller.{Caller}
use Rattle.rpc_core.specs.Call.{Asked as Call}
use Rattle.rpc_core.specs.Response.{Answered}
use Rattle.connect_blocks.specs.declared.plug_control.PlugControlBlock.{PlugControlBlock}
use Rattle.records.specs.declared.status.operation.Operation.TheVariants.{Connect}
use Rattle.records.specs.declared.writes.taken.TakenRecord.{TakenRecord}
use Rattle.records.specs.status.Operation.{operation_of}
use Rattle.records.specs.writes.Taken.{is_at}
use Rattle.expected_places.specs.declared.place.ExpectedPlace.{ExpectedPlace}
use Rattle.expected_places.specs.declared.place.Step.{Step}
use Rattle.expected_places.specs.declared.place.Step.TheVariants.{Told, Ended}
use Rattle.expected_places.specs.Places.{place_at}
use Rattle.relations.specs.declared.plugging.PlugAnswer.TheVariants.{Confirmed}
use Rattle.relations.specs.Plugging.{plug_answer_in, plug_end_in}
use Rattle.relations.specs.RelationState.{RelationState}
use Rattle.device_frames.specs.declared.event.Event.{Event}
use Rattle.device_frames.specs.Heard.{Calls, Heard, Reported, Responds, heard_of}
use Rattle.device_core.specs.Machine.{run_of, step_of}
use Rattle.device_core.specs.State.{Live, Station}

-- How far the place in a slot and subslot is, if the relation has one there.
abbrev pub step_at : ℕ → ℕ → List ExpectedPlace → Option Step
step_at slot subslot places = option_map (λ (place : ExpectedPlace). place.step) (place_at slot subslot places)

-- So it is in a relation.
abbrev pub step_in : ℕ → ℕ → RelationState → Option Step
step_in slot subslot link = step_at slot subslot link.plugs.places

-- The records that were accepted at a place, in their order.
abbrev pub taken_at : ℕ → ℕ → List TakenRecord → List TakenRecord
taken_at slot subslot taken = filter (is_at slot subslot) taken

-- A Connect is heard.
pub record IsConnect (heard : Heard) : Type 0 where
  pub caller : Caller
  pub address : List ℕ
  pub call : Call
  pub is : heard ≡ Reported caller address (Calls call)
  pub connects : operation_of call.header.operation ≡ Some Connect

-- The relation of a device over one step, after any others, of which the first found no relation. It goes on, and no Connect is heard.
pub record GoesOn (heard : Heard) (link next : RelationState) : Type 0 where
  pub station : Station
  pub first : Live
  pub none : first.rest.link ≡ None
  pub outcomes : List (List Outcome)
  pub events : List Event
  pub now : List Outcome
  pub event : Event
  pub is : heard ≡ heard_of station.identity event
  pub before : (run_of outcomes station first events).live.rest.link ≡ Some link
  pub after : (step_of now station (run_of outcomes station first events).live event).live.rest.link ≡ Some next
  pub other : IsConnect heard → ⊥

-- The controller ends the parameters of a place: its alarm had the number that the PrmEnd has, and its records stay.
pub record IsEndedBy (slot subslot number : ℕ) (heard : Heard) (link next : RelationState) : Type 0 where
  pub caller : Caller
  pub address : List ℕ
  pub call : Call
  pub blocks : List ℕ
  pub block : PlugControlBlock
  pub is : heard ≡ Reported caller address (Calls call)
  pub counted : call.blocks ≡ Some blocks
  pub read : plug_end_in blocks (Some link) ≡ Ok block
  pub number_is : block.alarm_sequence_number ≡ number
  pub was : step_in slot subslot link ≡ Some (Told number)
  pub kept : taken_at slot subslot next.taken ≡ taken_at slot subslot link.taken

-- The controller confirms the ApplicationReady of a place: its parameters had ended, and its records stay.
pub record IsReleasedBy (slot subslot : ℕ) (heard : Heard) (link next : RelationState) : Type 0 where
  pub caller : Caller
  pub address : List ℕ
  pub response : Answered
  pub is : heard ≡ Reported caller address (Responds response)
  pub confirms : plug_answer_in response (Some link) ≡ Confirmed
  pub number : ℕ
  pub was : step_in slot subslot link ≡ Some (Ended number)
  pub kept : taken_at slot subslot next.taken ≡ taken_at slot subslot link.taken
