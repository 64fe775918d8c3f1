-- A controller as a small machine, and what it says and hears of a start-up.
use Rattle.std.specs.Prelude.{◌≡◌, ◌⊎◌, ◌<◌, ℕ, zero, suc, Bool, true, nat_eq, nat_lt, List, Option, Some, None, if◌then◌else◌}
use Rattle.std.specs.List.{AllByRecursion}
use Rattle.std.specs.Cmp.Lexicographic.{pointwise}
use Rattle.connect_blocks.specs.declared.control.ControlBlock.{ControlBlock}
use Rattle.plans.specs.declared.parts.Parts.{Parts}
use Rattle.controller_messages.specs.declared.setup.Setup.{Setup}
use Rattle.controller_messages.specs.declared.request.Request.{Request}
use Rattle.controller_messages.specs.declared.request.Request.TheVariants as asks
use Rattle.controller_messages.specs.Heard.{Heard, Nothing, Answers, Responds, Refuses, Calls, Cyclic, Alarms}
use Rattle.controller_messages.specs.Requests.{sequence_of, write_count}
use Rattle.controller_messages.specs.Sent.{Sent, Requests, Accesses, Parametrizes, Agrees, Cycles, Confirms, Replies, Ends}
use Rattle.controller_core.specs.declared.stored.state.State.{State}
use Rattle.controller_core.specs.declared.stored.state.State.TheVariants.{Looking, Addressing, Connecting, Writing, Ending, Waiting, Exchanging, Ended}
use Rattle.controller_core.specs.declared.stored.event.Event.{Event}
use Rattle.controller_core.specs.declared.stored.event.Event.TheVariants.{Frame, Tick, Give, Status, Read, Write, Stop}
use Rattle.controller_core.specs.stored.State.{Live}
use Rattle.controller_core.specs.start_up.Answers.{is_ready}
use Rattle.controller_core.specs.start_up.Outcomes.{are_written}
use Rattle.controller_core.specs.start_up.Requests.{end_after, first_try, tries_before, write_after}
use Rattle.controller_core.specs.Machine.{Turn}
use Rattle.controller_core.specs.start_up.Answers.{ready_in}
use Rattle.end_laws.specs.both.Small as small
use Rattle.end_laws.specs.both.Small.{Controller, ToController, ToDevice, reply_of}
use Rattle.end_laws.specs.both.Steps.{Moves, SaysToDevice}

-- ---- its state

-- the controller makes the call of the pending request
abbrev pub asking_of : Parts → Option Request → Controller
asking_of plan (Some request) = small.Asking (sequence_of plan (first_try request)) (tries_before request)
asking_of plan None = small.Ended

-- the state of a controller, as a start-up sees it
abbrev pub state_of : Parts → State → Option Request → Controller
state_of plan Looking asked = small.Seeking
state_of plan Addressing asked = small.Seeking
state_of plan Connecting asked = asking_of plan asked
state_of plan Writing asked = asking_of plan asked
state_of plan Ending asked = asking_of plan asked
state_of plan Waiting asked = small.Waiting
state_of plan Exchanging asked = small.Exchanges
state_of plan (Ended cause) asked = small.Ended

-- a controller, as a start-up sees it
abbrev pub small_of : Parts → Live → Controller
small_of plan live = state_of plan live.phase live.asked

-- in each state the pending request is the one that belongs to it
abbrev pub IsInStep : Parts → State → Option Request → Type 0
IsInStep plan Looking asked = asked ≡ Some asks.Identify
IsInStep plan Addressing asked = asked ≡ Some asks.Address
IsInStep plan Connecting asked = asked ≡ Some asks.Connect
IsInStep plan Writing asked = (number : ℕ) × (tries : Option ℕ) × (number < write_count plan) × (asked ≡ Some (write_after number tries))
IsInStep plan Ending asked = (tries : Option ℕ) × (asked ≡ Some (end_after tries))
IsInStep plan Waiting asked = asked ≡ None
IsInStep plan Exchanging asked = asked ≡ None
IsInStep plan (Ended cause) asked = (asked ≡ None) ⊎ ((sequence : ℕ) × (asked ≡ Some (asks.Release sequence)))

-- a request of the application, or after a plug, waits only while data is exchanged
abbrev pub MayWait : {A : Type 0} → State → Option A → Type 0
MayWait Exchanging waiting = Unit {0}
MayWait phase waiting = waiting ≡ None

-- how many calls were refused as busy before the pending request, if there is one
abbrev pub tries_in : Option Request → ℕ
tries_in (Some request) = tries_before request
tries_in None = 0

-- until data is exchanged, the calls that are counted are those that were refused as busy
abbrev pub IsCounted : State → Option Request → ℕ → Type 0
IsCounted Waiting asked calls = calls < 65536
IsCounted Exchanging asked calls = Unit {0}
IsCounted (Ended cause) asked calls = Unit {0}
IsCounted phase asked calls = (calls ≡ tries_in asked) × (calls < 65536)

-- what is active in each state belongs to it
pub record IsSteady (plan : Parts) (live : Live) : Type 0 where
  pub asked : IsInStep plan live.phase live.asked
  pub waiting : MayWait live.phase live.access.waiting
  pub plug : MayWait live.phase live.access.plug
  pub calls : IsCounted live.phase live.asked live.access.calls

-- ---- what it hears

-- ApplicationReady of its relation, if this block is one
abbrev pub readied_by : Setup → Option ControlBlock → ToController
readied_by setup (Some block) = if is_ready setup block then small.Readies else small.Nothing
readied_by setup None = small.Nothing

-- Whether the blocks of a positive response to the call of a stage say that each record was written: those of the
-- response to a Write, whose number is one less.
abbrev pub says_written : Parts → ℕ → List ℕ → Bool
says_written plan zero blocks = true
says_written plan (suc number) blocks = if nat_lt number (write_count plan) then are_written plan number blocks else true

-- a response of its activity, and ApplicationReady of its relation; everything else says nothing of a start-up
abbrev pub said_to : Setup → Heard → ToController
said_to setup (Responds response) =
    if pointwise nat_eq response.header.activity setup.activity then small.Answers response.header.sequence (reply_of response) else small.Nothing
said_to setup (Refuses refusal) = small.Nothing
said_to setup (Calls caller call) = readied_by setup (ready_in call)
said_to setup Nothing = small.Nothing
said_to setup (Answers source answer) = small.Nothing
said_to setup (Cyclic source frame_id body) = small.Nothing
said_to setup (Alarms source under header notice) = small.Nothing

-- ---- what it says

-- a request as the call that it is
abbrev pub asked_by : Parts → Request → ToDevice
asked_by plan asks.Identify = small.Idle
asked_by plan asks.Address = small.Idle
asked_by plan asks.Connect = small.Call (sequence_of plan asks.Connect) small.Connects
asked_by plan (asks.Write number) = small.Call (sequence_of plan (asks.Write number)) (small.Writes number)
asked_by plan asks.PrmEnd = small.Call (sequence_of plan asks.PrmEnd) small.Parameterized
asked_by plan (asks.Release sequence) = small.Call (sequence_of plan (asks.Release sequence)) small.Releases
asked_by plan (asks.WriteAfter number tries) = small.Call (sequence_of plan (asks.WriteAfter number tries)) (small.Writes number)
asked_by plan (asks.PrmEndAfter tries) = small.Call (sequence_of plan (asks.PrmEndAfter tries)) small.Parameterized

-- a request as the call that it is, and the response to ApplicationReady; the calls after a plug are no calls of the start-up
abbrev pub said_by : Parts → Sent → ToDevice
said_by plan (Requests device request) = asked_by plan request
said_by plan (Accesses device request octets) = small.Call request.sequence small.Accesses
said_by plan (Parametrizes device request) = small.Call request.sequence small.Accesses
said_by plan (Agrees caller answer) = small.Confirms
said_by plan (Cycles route shown counter) = small.Idle
said_by plan (Confirms route priority header ack) = small.Idle
said_by plan (Replies route priority header) = small.Idle
said_by plan (Ends route header reason) = small.Idle

-- ---- a step

-- The small step of a turn that hears this: the state moves, and each message says to the device what it may say then.
pub record GoesOn (plan : Parts) (heard : ToController) (live : Live) (turn : Turn) : Type 0 where
  pub in_step : IsSteady plan turn.live
  pub moves : Moves (says_written plan) plan.continue_on_refused_record (write_count plan) heard (small_of plan live) (small_of plan turn.live)
  pub says : AllByRecursion (λ message. SaysToDevice (write_count plan) (small_of plan turn.live) (said_by plan message)) turn.sent

-- what an event says, given what is heard of a frame
abbrev pub said_in : Setup → (List ℕ → Heard) → Event → ToController
said_in setup heard (Frame bytes) = said_to setup (heard bytes.items)
said_in setup heard Tick = small.Nothing
said_in setup heard (Give slot subslot value) = small.Nothing
said_in setup heard (Status slot subslot is_good) = small.Nothing
said_in setup heard (Read slot subslot index) = small.Nothing
said_in setup heard (Write slot subslot index octets) = small.Nothing
said_in setup heard Stop = small.Nothing
