-- An answer belongs to its request: by the activity and the number of its call, or, by DCP, by its service and its Xid.
use Rattle.std.specs.Prelude.{◌≡◌, ◌≢◌, ◌⊎◌, ◌+◌, ◌<◌, ℕ, List, [], option_map, Option, Some, None}
use Rattle.std.specs.List.{AllByRecursion}
use Rattle.dcp_core.specs.Request.{Asked}
use Rattle.dcp_core.specs.Response.{Answered}
use Rattle.rpc_core.specs.declared.header.CallHeader.{CallHeader}
use Rattle.plans.specs.declared.parts.Parts.{Parts}
use Rattle.controller_messages.specs.declared.plug_request.PlugRequest.{PlugRequest}
use Rattle.controller_messages.specs.declared.record_request.RecordRequest.{RecordRequest}
use Rattle.controller_messages.specs.declared.setup.Setup.{Setup}
use Rattle.controller_messages.specs.declared.request.Request.{Request}
use Rattle.controller_messages.specs.declared.request.Request.TheVariants as asks
use Rattle.controller_messages.specs.Access.{call_number}
use Rattle.controller_messages.specs.Heard.{Heard, Answers, Responds, Refuses, heard_of}
use Rattle.controller_messages.specs.PlugRequests.{plug_header}
use Rattle.controller_messages.specs.RecordRequests.{record_header}
use Rattle.controller_messages.specs.Requests.{address_asked, header_of, identify_asked, write_count}
use Rattle.controller_messages.specs.Sent.{Sent, Requests, Accesses, Parametrizes}
use Rattle.controller_core.specs.declared.stored.event.Event.{Event}
use Rattle.controller_core.specs.declared.stored.event.Event.TheVariants.{Frame}
use Rattle.controller_core.specs.declared.stored.state.State.{State}
use Rattle.controller_core.specs.declared.stored.state.State.TheVariants.{Looking, Addressing}
use Rattle.controller_core.specs.start_up.Requests.{next_sequence}
use Rattle.controller_core.specs.stored.State.{Controlling, Live}
use Rattle.controller_core.specs.Machine.{step_of, turn_of}
use Rattle.end_laws.specs.turns.Runs.{IsReached}

-- ---- what waits for an answer

-- The call of a request of the start-up, or of a Release, by its header. The requests by DCP are no calls.
abbrev pub call_by : Setup → Request → Option CallHeader
call_by setup asks.Identify = None
call_by setup asks.Address = None
call_by setup request = Some (header_of setup request)

-- The call beside the exchange that waits for its answer: after a plug, or else the one with which the application reads or writes a
-- record.
abbrev pub waiting_beside : Setup → Option PlugRequest → Option RecordRequest → Option CallHeader
waiting_beside setup (Some request) waiting = Some (plug_header setup request)
waiting_beside setup None waiting = option_map (λ request. record_header setup request) waiting

-- The call that waits for its answer: of the start-up or the Release, or else the one beside the exchange.
abbrev pub waiting_by : Setup → Option Request → Option PlugRequest → Option RecordRequest → Option CallHeader
waiting_by setup (Some request) plug waiting = call_by setup request
waiting_by setup None plug waiting = waiting_beside setup plug waiting

-- The header of the call of a controller that waits for its response, if one waits.
abbrev pub waiting_in : Setup → Live → Option CallHeader
waiting_in setup live = waiting_by setup live.asked live.access.plug live.access.waiting

-- The request by DCP that waits for its answer: the Identify while it looks for its station, and then the Set of the address.
abbrev pub waiting_dcp : Parts → State → Option Asked
waiting_dcp plan Looking = Some (identify_asked plan)
waiting_dcp plan Addressing = Some (address_asked plan)
waiting_dcp plan phase = None

-- ---- what belongs to another request

-- It has another activity or another number than this call. If no call waits, it belongs to another one.
abbrev pub IsOfAnotherCall : Option CallHeader → List ℕ → ℕ → Type 0
IsOfAnotherCall None activity sequence = Unit {0}
IsOfAnotherCall (Some header) activity sequence = (header.activity ≢ activity) ⊎ (header.sequence ≢ sequence)

-- It has another service or another Xid than this request by DCP.
abbrev pub IsOfAnotherRequest : Option Asked → Answered → Type 0
IsOfAnotherRequest None answer = Unit {0}
IsOfAnotherRequest (Some request) answer = (request.service ≢ answer.service) ⊎ (request.xid ≢ answer.xid)

-- A response, a reject or fault, or an answer by DCP that belongs to another request than the one that waits.
abbrev pub BelongsToAnother : Setup → Live → Heard → Type 0
BelongsToAnother setup live (Responds response) = IsOfAnotherCall (waiting_in setup live) response.header.activity response.header.sequence
BelongsToAnother setup live (Refuses refusal) = IsOfAnotherCall (waiting_in setup live) refusal.activity refusal.sequence
BelongsToAnother setup live (Answers source answer) = IsOfAnotherRequest (waiting_dcp setup.plan live.phase) answer
BelongsToAnother setup live heard = ⊥

-- ---- what is sent

-- A message that is a call is the one that waits after it is sent.
abbrev pub IsTheWaiting : Setup → Live → Sent → Type 0
IsTheWaiting setup after (Requests device request) = waiting_in setup after ≡ call_by setup request
IsTheWaiting setup after (Accesses device request octets) = waiting_in setup after ≡ Some (record_header setup request)
IsTheWaiting setup after (Parametrizes device request) = waiting_in setup after ≡ Some (plug_header setup request)
IsTheWaiting setup after message = Unit {0}

-- ---- numbers

-- A call of the start-up.
abbrev pub IsOfStartUp : Parts → Request → Type 0
IsOfStartUp plan asks.Connect = Unit {0}
IsOfStartUp plan (asks.Write number) = number < write_count plan
IsOfStartUp plan asks.PrmEnd = Unit {0}
IsOfStartUp plan request = ⊥

-- A call of the start-up, also one that is made again after it was refused as busy.
abbrev pub IsStarting : Request → Type 0
IsStarting asks.Connect = Unit {0}
IsStarting (asks.Write number) = Unit {0}
IsStarting asks.PrmEnd = Unit {0}
IsStarting (asks.WriteAfter number tries) = Unit {0}
IsStarting (asks.PrmEndAfter tries) = Unit {0}
IsStarting request = ⊥

-- ---- the law

-- In any state: a frame with an answer that belongs to another request changes nothing, and nothing is sent.
abbrev pub DropsAnswersToOthers : Type 0
DropsAnswersToOthers = (controller : Controlling) (octets : List ℕ)
    → BelongsToAnother controller.setup controller.live (heard_of controller.setup.plan.controller octets)
    → step_of controller (Frame (record { items = octets })) ≡ record { controller = controller; frames = [] }

-- Each call that is sent is the one that waits from then on, of any controller with any event.
abbrev pub WaitsForWhatIsSent : Type 0
WaitsForWhatIsSent = (controller : Controlling) (event : Event) → IsReached controller
    → AllByRecursion (IsTheWaiting controller.setup (turn_of controller.setup controller.live event).live) (turn_of controller.setup controller.live event).sent

-- Two calls of a start-up with the same number are the same call.
abbrev pub AreNumberedApart : Type 0
AreNumberedApart = (setup : Setup) (one other : Request) → IsOfStartUp setup.plan one → IsOfStartUp setup.plan other
    → (header_of setup one).sequence ≡ (header_of setup other).sequence → one ≡ other

-- The calls of the application and those after a plug have greater numbers than those of the start-up, each a greater one than those
-- before it, and the Release has a greater one than the call that was active, as long as the number of calls is below 2^32.
abbrev pub AreNumberedLater : Type 0
AreNumberedLater = (setup : Setup) (request : Request) (fewer calls : ℕ) → IsOfStartUp setup.plan request → write_count setup.plan + 2 + calls < 4294967296
    → ((header_of setup request).sequence < call_number setup.plan calls)
    × (fewer < calls → call_number setup.plan fewer < call_number setup.plan calls)
    × ((header_of setup request).sequence < next_sequence setup.plan calls (Some request))
    × (next_sequence setup.plan calls None ≡ call_number setup.plan calls)

-- After a call of the start-up, the request that is active is the same one, or its call has the next number: that of the call which
-- follows, of the same call again after it was refused as busy, and of the Release. So two different calls of a start-up never have
-- the same number.
abbrev pub AreNumberedInOrder : Type 0
AreNumberedInOrder = (controller : Controlling) (event : Event) → IsReached controller → write_count controller.setup.plan < 65536
    → (request next : Request) → IsStarting request → controller.live.asked ≡ Some request
    → (turn_of controller.setup controller.live event).live.asked ≡ Some next
    → (next ≡ request) ⊎ ((header_of controller.setup next).sequence ≡ (header_of controller.setup request).sequence + 1)
