-- What a device accepts of the parameters of a place after its plug.
use Rattle.std.specs.Prelude.{◌≡◌, ◌++◌, ℕ, true, List, [], ◌∷◌, slice_get, Option, Some, option_map}
use Rattle.frame_codec.specs.declared.udp.Caller.{Caller}
use Rattle.rpc_core.specs.Response.{is_done}
use Rattle.records.specs.declared.writes.taken.TakenRecord.{TakenRecord}
use Rattle.plans.specs.declared.parts.PlanRecord.{PlanRecord}
use Rattle.relations.specs.RelationState.{RelationState}
use Rattle.device_frames.specs.Heard.{Calls, Heard, Reported}
use Rattle.device_frames.specs.Sent.{CallAnswer, Sent}
use Rattle.controller_messages.specs.declared.plug_request.PlugRequest.{PlugRequest}
use Rattle.controller_messages.specs.declared.plug_request.PlugStep.TheVariants.{Record}
use Rattle.controller_messages.specs.declared.setup.Setup.{Setup}
use Rattle.controller_messages.specs.PlugRequests.{plug_call}
use Rattle.both_ends.specs.startup.Played.{IsParameter, IsPlaced}

-- The request after a plug is the Write of this record of the plan, at the record's own place.
pub record IsWriteOf (setup : Setup) (request : PlugRequest) (entry : PlanRecord) : Type 0 where
  pub number : ℕ
  pub step : request.step ≡ Record number
  pub is : slice_get setup.plan.records.items number ≡ Some entry
  pub slot : request.slot ≡ entry.slot
  pub subslot : request.subslot ≡ entry.subslot
  pub placed : IsPlaced entry
  pub parameter : IsParameter entry

-- A device hears the call of a request after a plug, from any station.
abbrev pub hears_plug : Setup → Caller → List ℕ → PlugRequest → Heard
hears_plug setup caller address request = Reported caller address (Calls (plug_call setup request))

-- The records that a relation has accepted, if there is one.
abbrev pub taken_in : Option RelationState → Option (List TakenRecord)
taken_in link = option_map (λ (l : RelationState). l.taken) link

-- The relation has accepted one more record, after its others.
pub record TakesOne (value : TakenRecord) (before after : Option RelationState) : Type 0 where
  pub link : RelationState
  pub was : before ≡ Some link
  pub becomes : taken_in after ≡ Some (link.taken ++ value ∷ [])

-- A positive response that was not sent before.
abbrev pub IsPositive : Sent → Type 0
IsPositive (CallAnswer caller address answer) = is_done answer.status ≡ true
IsPositive message = ⊥
