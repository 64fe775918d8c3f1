-- Where the messages of a device come from: a response from a call that it hears, or from the one that is asked of its application,
-- ApplicationReady, also that of a plug, from its relation.
use Rattle.std.specs.Prelude.{◌≡◌, ◌⊎◌, ◌<◌, List, ℕ, true, Option, Some}
use Rattle.frame_codec.specs.declared.udp.Caller.{Caller}
use Rattle.rpc_core.specs.Cache.{Kept, kept_of}
use Rattle.rpc_core.specs.Call.{Asked as Call}
use Rattle.rpc_core.specs.Response.{Answered as Response}
use Rattle.rpc_core.specs.Sendable.{IsStatus}
use Rattle.records.specs.status.Operation.{operation_of}
use Rattle.asked_records.specs.Asked.{AskedState, question_in}
use Rattle.asked_records.specs.Questions.{is_of_relation, operation_of as operation_asked}
use Rattle.asked_records.specs.declared.question.Question.{Question}
use Rattle.expected_places.specs.declared.calls.PlugCall.{PlugCall}
use Rattle.relations.specs.declared.plugging.PlugReady.{PlugReady}
use Rattle.relations.specs.declared.ready.Ready.{Ready}
use Rattle.relations.specs.Plugging.{ready_for}
use Rattle.relations.specs.RelationState.{RelationState, uuid_of}
use Rattle.relations.specs.Ready.{ready_of}
use Rattle.device_frames.specs.Heard.{Heard, Reported, Calls}
use Rattle.device_frames.specs.Sent.{Sent, IdentifyAnswer, GetAnswer, SetAnswer, ArpReply, CallAnswer, Again, ReadyCall, PlugReadyCall, Ends, Exchanges}
use Rattle.device_core.specs.State.{Live}
use Rattle.end_laws.specs.device.Orderly.{AreNumbered, IsOrderlyIn}

-- a response to this caller: to a call that it made, whose header it repeats, with a status of four octets
pub record IsAnswering (heard : Heard) (caller : Caller) (answer : Response) : Type 0 where
  pub address : List ℕ
  pub call : Call
  pub is : heard ≡ Reported caller address (Calls call)
  pub header : answer.header ≡ call.header
  pub maximum : answer.maximum_count ≡ call.args_maximum
  pub status : IsStatus answer.status

-- a response to this caller: to the call that is asked of the application, whose header it repeats; the status may be the application's
pub record IsReplying (live : Live) (caller : Caller) (answer : Response) : Type 0 where
  pub question : Question
  pub is : question_in live.rest.asked ≡ Some question
  pub own : caller ≡ question.caller
  pub header : answer.header ≡ question.header
  pub maximum : answer.maximum_count ≡ question.args_maximum

-- what is asked of the application is a call that is heard: a Read, a Write or a Read Implicit of the same caller, with its header
pub record IsAsking (heard : Heard) (question : Question) : Type 0 where
  pub address : List ℕ
  pub call : Call
  pub is : heard ≡ Reported question.caller address (Calls call)
  pub header : question.header ≡ call.header
  pub maximum : question.args_maximum ≡ call.args_maximum
  pub asks : operation_of call.header.operation ≡ Some (operation_asked question.request)

-- What is asked of the application after a turn was asked before it, or is a call that is heard.
abbrev pub IsAskedLater : Heard → AskedState → AskedState → Type 0
IsAskedLater heard before after =
    (question : Question) → question_in after ≡ Some question → (question_in before ≡ Some question) ⊎ IsAsking heard question

-- what is asked of the application was asked by the relation that exists
abbrev pub IsAskedOf : Option RelationState → AskedState → Type 0
IsAskedOf link asked = (question : Question) → question_in asked ≡ Some question
    → (uuid : List ℕ) × (uuid_of link ≡ Some uuid) × (is_of_relation uuid question.request ≡ true)

-- the frame of the response that is stored for the activity of a call that was heard
pub record IsOfKept (heard : Heard) (live : Live) (frame : List ℕ) : Type 0 where
  pub caller : Caller
  pub address : List ℕ
  pub call : Call
  pub is : heard ≡ Reported caller address (Calls call)
  pub kept : Kept
  pub there : kept_of call.header.activity live.rest.calls ≡ Some kept
  pub same : kept.frame ≡ frame

-- ApplicationReady of this relation, to any station
pub record IsOfRelation (relation : Option RelationState) (ready : Ready) : Type 0 where
  pub link : RelationState
  pub is : relation ≡ Some link
  pub header : ready.header ≡ (ready_of link).header
  pub block : ready.block ≡ (ready_of link).block

-- ApplicationReady for a plug in this relation, to any station. If the relation is in order, its number has four octets.
pub record IsOfPlug (relation : Option RelationState) (ready : PlugReady) : Type 0 where
  pub link : RelationState
  pub is : relation ≡ Some link
  pub call : PlugCall
  pub header : ready.header ≡ (ready_for link call).header
  pub block : ready.block ≡ (ready_for link call).block
  pub sequence : IsOrderlyIn relation → call.sequence < 4294967296
  pub numbered : AreNumbered link.plugs.calls → call.sequence < 4294967296

-- where a message comes from, if it is a response or a call
abbrev pub IsOwed : Heard → Live → Sent → Type 0
IsOwed heard live (CallAnswer caller address answer) = IsAnswering heard caller answer ⊎ IsReplying live caller answer
IsOwed heard live (Again frame) = IsOfKept heard live frame
IsOwed heard live (ReadyCall address ready) = IsOfRelation live.rest.link ready
IsOwed heard live (PlugReadyCall address ready) = IsOfPlug live.rest.link ready
IsOwed heard live (IdentifyAnswer asker running xid) = Unit {0}
IsOwed heard live (GetAnswer asker running alias request) = Unit {0}
IsOwed heard live (SetAnswer asker request answers) = Unit {0}
IsOwed heard live (ArpReply asker address target) = Unit {0}
IsOwed heard live (Ends farewell) = Unit {0}
IsOwed heard live (Exchanges route frame) = Unit {0}
