-- The calls of a controller that its device has not carried out.
use Rattle.std.specs.Prelude.{◌≡◌, ◌≤◌, ℕ, List, ◌∷◌, [], map, slice_get, Some}
use Rattle.frame_codec.specs.declared.udp.Caller.{Caller}
use Rattle.rpc_core.specs.Cache.{Kept, kept_of, looked, new}
use Rattle.rpc_core.specs.Call.{Asked as Call}
use Rattle.records.specs.declared.status.operation.Operation.TheVariants.{Control, Release}
use Rattle.records.specs.status.Operation.{operation_of}
use Rattle.device_frames.specs.declared.event.Event.TheVariants.{Frame}
use Rattle.device_frames.specs.Heard.{Calls, Reported, heard_of}
use Rattle.controller_messages.specs.Heard.{Refuses, heard_of as heard_by}
use Rattle.controller_messages.specs.declared.refusal.Refusal.{Refusal}
use Rattle.controller_messages.specs.Sent.{bytes_of}
use Rattle.controller_core.specs.Machine.{pending_of}
use Rattle.network_world.specs.World.{World}

-- A frame that either end sent.
pub record WasSent {F : Type 0} (world : World F) (frame : List ℕ) : Type 0 where
  pub number : ℕ
  pub is : slice_get world.sent number ≡ Some frame

-- The device hears a call in this frame that is new to it: later than the last call of its activity that it answered.
pub record IsNewCall {F : Type 0} (world : World F) (frame : List ℕ) : Type 0 where
  pub caller : Caller
  pub address : List ℕ
  pub call : Call
  pub is : heard_of world.device.station.identity (Frame (record { items = frame })) ≡ Reported caller address (Calls call)
  pub new_call : looked call.header.activity call.header.sequence world.device.live.rest.calls ≡ new

-- It is the call that the controller makes now, octet for octet.
abbrev pub IsPresent : {F : Type 0} → World F → List ℕ → Type 0
IsPresent world frame = map (bytes_of world.controller.setup) (pending_of world.controller.live) ≡ frame ∷ []

-- The call ends parameters: those of the start-up, or those of a place after a plug.
abbrev pub EndsParameters : Call → Type 0
EndsParameters call = operation_of call.header.operation ≡ Some Control

-- The call ends the relation.
abbrev pub EndsRelation : Call → Type 0
EndsRelation call = operation_of call.header.operation ≡ Some Release

-- The controller hears no reject and no fault in a frame that either end sent.
abbrev pub IsUnrefused : {F : Type 0} → World F → Type 0
IsUnrefused world = (frame : List ℕ) (refusal : Refusal) → WasSent world frame
    → heard_by world.controller.setup.plan.controller frame ≡ Refuses refusal → ⊥

-- Among these responses, which a device has stored, is that to the call of an activity with this number, or to a later one.
pub record HasAnswered (activity : List ℕ) (sequence : ℕ) (calls : List Kept) : Type 0 where
  pub kept : Kept
  pub is : kept_of activity calls ≡ Some kept
  pub later : sequence ≤ kept.sequence
