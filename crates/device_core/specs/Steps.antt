-- What a step and a run do, for any behaviour of the flash.
use Rattle.std.specs.Prelude.{◌≡◌, ◌≤◌, ◌+◌, length, ℕ, true, false, Some, List, [], ◌∷◌, ◌++◌, if◌then◌else◌}
use Rattle.flash_model.specs.declared.flash.Flash.{Ghosts as Flash}
use Rattle.pn_values.specs.declared.mac.Mac.{Mac}
use Rattle.pn_values.specs.declared.identity.Identity.{Identity}
use Rattle.pn_values.specs.declared.settings.Settings.{Settings}
use Rattle.settings_journal.specs.settings_store.Machine.{Outcome}
use Rattle.settings_journal.specs.settings_store.Carries.{OneByOne, Stretch, Continues}
use Rattle.dcp_core.specs.declared.request.Service.TheVariants.{Identify}
use Rattle.dcp_core.specs.Request.{Asked}
use Rattle.rpc_core.specs.Call.{Asked as Called}
use Rattle.rpc_core.specs.Cache.{Kept, behind_calls}
use Rattle.records.specs.declared.status.operation.Operation.{Operation}
use Rattle.records.specs.status.Operation.{operation_of}
use Rattle.dcp_core.specs.Identify.{matches, identify_bytes}
use Rattle.device_frames.specs.declared.event.Event.{Event}
use Rattle.device_frames.specs.declared.note.Note.{Note}
use Rattle.device_frames.specs.declared.note.Note.TheVariants.{Done, Filter}
use Rattle.frame_codec.specs.declared.udp.Caller.{Caller}
use Rattle.device_core.specs.State.{Station, State, Live, alias_in, store_of}
use Rattle.device_frames.specs.Sent.{answer_frame}
use Rattle.device_frames.specs.Sendable.{AreSendable}
use Rattle.device_frames.specs.Heard.{Heard, Asks, Reported, Calls, heard_of}
use Rattle.device_core.specs.Asking.{is_kept}
use Rattle.device_core.specs.Handled.{is_running}
use Rattle.device_core.specs.Machine.{Stepped, items_of, heard_step, step_of, first_step, later_steps, run_of}
use Rattle.device_core.specs.Faults.{StepGoesOn}

-- The event is carried out, for some outcomes, chosen by the flash, of the calls that store. The state, the frames and
-- the note are those of the step. There are no outcomes if no commit failed, each has its cause in its own item, what
-- happened to the settings is a stretch of a cycle and continues any, and for any behaviour of the flash the device
-- goes on. Each message that is sent can be sent: it fits a frame, and so is read as what is written. At most 16 things are
-- asked of the settings.
pub record Steps {F : Type 0} {S : ℕ} (as_flash : Flash F S) (old : State F) (heard : Heard) (sent : List (List ℕ)) (said : Note) (new : State F) : Type 0 where
  pub outcomes : List Outcome
  pub same : new.station ≡ old.station
  pub live : new.live ≡ (heard_step outcomes old.station old.live heard).live
  pub frames : sent ≡ (heard_step outcomes old.station old.live heard).frames
  pub sendable : AreSendable old.station.identity (heard_step outcomes old.station old.live heard).sent
  pub note : said ≡ (heard_step outcomes old.station old.live heard).note
  pub inactive : new.live.values.has_failed ≡ old.live.values.has_failed → outcomes ≡ []
  pub few : length (items_of old.station old.live heard) ≤ 16
  pub placed : OneByOne as_flash outcomes (store_of old) (items_of old.station old.live heard) (store_of new)
  pub stretch : Stretch as_flash (store_of old) (heard_step outcomes old.station old.live heard).accepted (store_of new)
  pub continues : Continues as_flash (store_of old) (heard_step outcomes old.station old.live heard).accepted (store_of new)
  pub goes_on : StepGoesOn old.station old.live heard sent said new.live

-- A flash that never fails stays so, and over it no commit fails that did not fail before.
abbrev pub StaysReliable : {F : Type 0} {S : ℕ} → Flash F S → State F → State F → Type 0
StaysReliable as_flash old new =
    as_flash.is_reliable old.flash → as_flash.is_reliable new.flash × (new.live.values.has_failed ≡ old.live.values.has_failed)

-- An Identify request changes nothing. If it matches, it is answered, only with the identity and the running settings. What
-- it asks for is compared with these, and with the name by the place while a neighbour is known.
pub record Identifies {F : Type 0} (old : State F) (asker : Mac) (request : Asked) (sent : List (List ℕ)) (said : Note) (new : State F) : Type 0 where
  pub unchanged : new ≡ old
  pub answered : matches old.station.identity old.live.values.running (alias_in old.live.rest.peer) request ≡ true →
      (said ≡ Done) × (sent ≡ answer_frame old.station.identity asker 65279 (identify_bytes old.station.identity old.live.values.running request.xid) ∷ [])
  pub filtered : matches old.station.identity old.live.values.running (alias_in old.live.rest.peer) request ≡ false → (said ≡ Filter) × (sent ≡ [])

-- The step of an Identify request: nothing changes, and if it matches the identity and these settings it is answered,
-- only with them; otherwise it is not answered. What it asks for is compared with these, and with the name by the place
-- while a neighbour is known, which is never so at a device that has just started.
pub record IsIdentified (identity : Identity) (settings : Settings) (live : Live) (asker : Mac) (request : Asked) (step : Stepped) : Type 0 where
  pub unchanged : step.live ≡ live
  pub none_accepted : step.accepted ≡ []
  pub answered : matches identity settings (alias_in live.rest.peer) request ≡ true →
      (step.note ≡ Done) × (step.frames ≡ answer_frame identity asker 65279 (identify_bytes identity settings request.xid) ∷ [])
  pub filtered : matches identity settings (alias_in live.rest.peer) request ≡ false → (step.note ≡ Filter) × (step.frames ≡ [])

-- Identify is answered only with the identity and these settings. This holds for each event that is an Identify
-- request, from any station, for any behaviour of the flash.
abbrev pub AnswersBy : Station → Settings → Live → Type 0
AnswersBy station settings live = (outcomes : List Outcome) (event : Event) (asker : Mac) (request : Asked)
    → heard_of station.identity event ≡ Asks asker request → request.service ≡ Identify
    → IsIdentified station.identity settings live asker request (step_of outcomes station live event)

-- A call that is handled was received: to the running address, of an operation of a device whose answers are stored, with the right
-- lengths of its blocks.
pub record IsServed (station : Station) (live : Live) (heard : Heard) (call : Called) : Type 0 where
  pub caller : Caller
  pub address : List ℕ
  pub blocks : List ℕ
  pub is : heard ≡ Reported caller address (Calls call)
  pub runs : is_running live.values.running address ≡ true
  pub operation : Operation
  pub served : operation_of call.header.operation ≡ Some operation
  pub stored : is_kept station.options operation ≡ true
  pub counted : call.blocks ≡ Some blocks

-- The stored frame of a call is sent, and nothing changes.
pub record IsAgain {F : Type 0} (old : State F) (frame : List ℕ) (sent : List (List ℕ)) (said : Note) (new : State F) : Type 0 where
  pub unchanged : new ≡ old
  pub same : sent ≡ frame ∷ []
  pub done : said ≡ Done

-- What a run hands on of a step: its frames, unless power is lost.
pub record HandsOn {F : Type 0} {S : ℕ} (as_flash : Flash F S) (old : State F) (heard : Heard) (before now : List (List ℕ)) (new : State F) : Type 0 where
  pub sent : List (List ℕ)
  pub said : Note
  pub steps : Steps as_flash old heard sent said new
  pub handed_on : now ≡ before ++ (if new.live.values.is_lost then [] else sent)

-- The events one by one: each starts from the state that the events before it made, its items begin with the flash that the
-- event before it left, and each message that it sends can be sent.
abbrev pub EventByEvent : {F : Type 0} {S : ℕ} → Flash F S → List (List Outcome) → Station → F → Live → List Event → F → Type 0
EventByEvent as_flash outcomes station old live [] new = new ≡ old
EventByEvent {F} as_flash outcomes station old live (event ∷ events) new =
    let next = (step_of (first_step outcomes) station live event).live in
    (between : F) × OneByOne as_flash (first_step outcomes) (record { flash = old; values = live.values })
    (items_of station live (heard_of station.identity event)) (record { flash = between; values = next.values })
    × AreSendable station.identity (step_of (first_step outcomes) station live event).sent
    × EventByEvent as_flash (later_steps outcomes) station between next events new

-- Steps one after another, for some outcomes of each, none if no commit failed, each with its cause in its own item of
-- its own event. What happened to the settings is a stretch of a cycle. `before` and `now` are what the sink has
-- accepted; once power is lost it accepts no more.
pub record Runs {F : Type 0} {S : ℕ} (as_flash : Flash F S) (old : State F) (events : List Event) (before now : List (List ℕ)) (new : State F) : Type 0 where
  pub outcomes : List (List Outcome)
  pub same : new.station ≡ old.station
  pub live : new.live ≡ (run_of outcomes old.station old.live events).live
  pub frames : now ≡ before ++ (run_of outcomes old.station old.live events).frames
  pub inactive : new.live.values.has_failed ≡ old.live.values.has_failed → outcomes ≡ []
  pub placed : EventByEvent as_flash outcomes old.station old.flash old.live events new.flash
  pub stretch : Stretch as_flash (store_of old) (run_of outcomes old.station old.live events).accepted (store_of new)
  pub after_loss : old.live.values.is_lost ≡ true → now ≡ before

-- The step if no flash call fails.
pub record IsExactStep {F : Type 0} (old : State F) (event : Event) (sent : List (List ℕ)) (said : Note) (new : State F) : Type 0 where
  pub same : new.station ≡ old.station
  pub live : new.live ≡ (step_of [] old.station old.live event).live
  pub frames : sent ≡ (step_of [] old.station old.live event).frames
  pub note : said ≡ (step_of [] old.station old.live event).note

-- The step of an event that asks nothing of the settings and sends nothing: the flash and the settings stay as they are.
pub record IsQuietStep {F : Type 0} (old : State F) (event : Event) (said : Note) (new : State F) : Type 0 where
  pub exact : IsExactStep old event [] said new
  pub none : (step_of [] old.station old.live event).accepted ≡ []
  pub flash : new.flash ≡ old.flash
  pub values : new.live.values ≡ old.live.values

-- The run if no flash call fails.
pub record IsExactRun {F : Type 0} (old : State F) (events : List Event) (before now : List (List ℕ)) (new : State F) : Type 0 where
  pub same : new.station ≡ old.station
  pub live : new.live ≡ (run_of [] old.station old.live events).live
  pub frames : now ≡ before ++ (run_of [] old.station old.live events).frames

-- The stored answers are what some calls, in order, make of those stored before: a new call stores its answer, and one
-- that is repeated or outdated stores nothing.
abbrev pub IsBehindCalls : List Kept → List Kept → Type 0
IsBehindCalls before now = (calls : List Kept) × (now ≡ behind_calls 4 calls before)

-- If no commit fails, each accepted command used one of the remaining commits, and nothing else did: a flash has room
-- for as many more as its start reads.
abbrev pub TakesRoom : {F : Type 0} → State F → List Event → State F → Type 0
TakesRoom old events new = new.live.values.room + length (run_of [] old.station old.live events).accepted ≡ old.live.values.room
