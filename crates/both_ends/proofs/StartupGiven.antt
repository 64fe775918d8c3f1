-- The laws of the crates below.
use Rattle.std.specs.Prelude.{◌≡◌, ◌++◌, ℕ, List, length, map, Option, Some, None}
use Rattle.std.specs.List.{AllByRecursion}
use Rattle.pn_values.specs.declared.identity.Identity.{Identity}
use Rattle.pn_values.specs.declared.mac.Mac.{Mac}
use Rattle.wire.specs.Codec.{IsSoundWhole}
use Rattle.frame_codec.specs.declared.arp.Holder.{Holder}
use Rattle.frame_codec.specs.declared.udp.Caller.{Caller}
use Rattle.frame_codec.specs.Frame.{frame_bytes, layers}
use Rattle.frame_codec.specs.Meaning.{RealTime}
use Rattle.rpc_core.specs.declared.interface.Interface.TheVariants.{Controller as controllers, Device as devices}
use Rattle.rpc_core.specs.Call.{Asked as Call}
use Rattle.rpc_core.specs.Interface.{interface_uuid}
use Rattle.rpc_core.specs.Response.{Answered as Response}
use Rattle.rpc_core.specs.Sendable.{CanBeAnswered, CanBeCalled, IsHeader, IsUuid}
use Rattle.block_codec.specs.declared.block.Block.{Block}
use Rattle.block_codec.specs.Block.{block_bytes, block_of, block_size, front}
use Rattle.block_codec.specs.Writable.{CanBeWritten}
use Rattle.connects.specs.requests.Request.{Request}
use Rattle.records.specs.declared.writes.taken.TakenRecord.{TakenRecord}
use Rattle.plans.specs.declared.parts.Controller.{Controller}
use Rattle.plans.specs.declared.parts.Parts.{Parts}
use Rattle.relations.specs.declared.plugging.PlugReady.{PlugReady}
use Rattle.relations.specs.declared.ready.Ready.{Ready}
use Rattle.settings_journal.specs.settings_store.Machine.{Outcome}
use Rattle.device_frames.specs.Heard.{Calls, Garbled, Heard, Resolves, Responds, heard_of as device_hears}
use Rattle.device_frames.specs.Sent.{ArpReply, bytes_of as device_bytes, plug_ready_frame, ready_frame, response_frame}
use Rattle.device_core.specs.State.{Live, Station}
use Rattle.device_core.specs.Machine.{heard_step}
use Rattle.frame_codec.specs.declared.arp.ArpOperation.TheVariants.{Reply}
use Rattle.controller_messages.specs.declared.request.Request.{Request as Asking}
use Rattle.controller_messages.specs.declared.setup.Setup.{Setup}
use Rattle.controller_messages.specs.Heard.{Calls as Called, Nothing, Responds as Responded, heard_of as controller_hears}
use Rattle.controller_messages.specs.declared.plug_request.PlugRequest.{PlugRequest}
use Rattle.controller_messages.specs.declared.record_request.RecordRequest.{RecordRequest}
use Rattle.controller_messages.specs.PlugRequests.{plug_call}
use Rattle.controller_messages.specs.RecordRequests.{record_call}
use Rattle.controller_messages.specs.Requests.{call_for}
use Rattle.controller_messages.specs.Sent.{answer_frame, call_frame, calls_at, bytes_of as controller_bytes}
use Rattle.controller_core.specs.declared.stored.event.Event.{Event}
use Rattle.controller_core.specs.Machine.{first, step_of, turn_of}
use Rattle.controller_core.specs.start_up.Answers.{ready_in}
use Rattle.controller_core.specs.stored.State.{Controlling, Live as ControllerLive}
use Rattle.frame_codec.specs.Sendable.{IsHolder, IsMac, IsTag, carrying}
use Rattle.end_laws.specs.hearing.Hearing.{IsUncalled, IsUnreported, all_hears, comes, mine_reported, own_reported}
use Rattle.end_laws.specs.hearing.Stations.{IsAddress, IsCalled, IsCaller, IsDevice, IsNumbered, IsPlugCall, IsRecordCall, IsSetup, plug_ready_call, ready_call}
use Rattle.end_laws.specs.sending.Addressed.{IsAimed, IsAimedAt, IsEventFrom}
use Rattle.end_laws.specs.both.Small as small
use Rattle.end_laws.specs.both.Small.{RelationState, Move, Rules, World}
use Rattle.end_laws.specs.both.StartUp.{Begins, IsRun, last_of}
use Rattle.end_laws.specs.both.Steps.{DeviceSteps}
use Rattle.end_laws.specs.controller.Small.{GoesOn, IsSteady, said_in, small_of as small_controller}
use Rattle.end_laws.specs.device.Orderly.{IsOrderlyIn}
use Rattle.end_laws.specs.device.Owed.{IsAskedLater, IsOwed}
use Rattle.end_laws.specs.device.Small.{IsAskedOwn, IsHeardAs, IsPlanned, heard_as, small_of}

-- the laws of frames, and of what is heard of them
pub record HeardSo : Type 0 where
  pub sound : IsSoundWhole layers
  pub unreported : (identity : Identity) (destination source : Mac) (tag : Option ℕ) (frame_id : ℕ) (body : List ℕ) → IsMac destination → IsMac source → IsTag tag
      → IsUnreported (device_hears identity (comes (frame_bytes (carrying destination source tag (RealTime frame_id body)))))
  pub uncalled : (mine : Controller) (destination source : Mac) (tag : Option ℕ) (frame_id : ℕ) (body : List ℕ) → IsMac destination → IsMac source → IsTag tag
      → IsUncalled (controller_hears mine (frame_bytes (carrying destination source tag (RealTime frame_id body))))
  pub packet_at_controller : (mine : Controller) (identity : Identity) (asker : Mac) (address : List ℕ) (target : Holder)
      → IsDevice identity → IsMac asker → IsAddress address → IsHolder target
      → controller_hears mine (device_bytes identity (ArpReply asker address target)) ≡ Nothing
  pub packet_at_device : (other identity : Identity) (asker : Mac) (address : List ℕ) (target : Holder)
      → IsDevice identity → IsMac asker → IsAddress address → IsHolder target
      → device_hears other (comes (device_bytes identity (ArpReply asker address target)))
      ≡ all_hears other asker (Resolves identity.mac (record { operation = Reply; sender = record { mac = identity.mac; address = address }; target = target }))
  pub call_can : (setup : Setup) (request : Asking) → IsSetup setup → IsCalled request → IsNumbered request → CanBeCalled devices (call_for setup request)
  pub record_can : (setup : Setup) (request : RecordRequest) (octets : List ℕ) → IsSetup setup → IsRecordCall request octets → CanBeCalled devices (record_call setup request octets)
  pub plug_call_can : (setup : Setup) (request : PlugRequest) → IsSetup setup → IsPlugCall request → CanBeCalled devices (plug_call setup request)
  pub ready_can : (ready : Ready) → IsHeader ready.header → ready.header.interface ≡ interface_uuid controllers → IsUuid ready.block.ar_uuid
      → CanBeCalled controllers (ready_call ready)
  pub call_at_device : (identity : Identity) (setup : Setup) (to : Mac) (call : Call) → IsSetup setup → IsMac to → CanBeCalled devices call
      → device_hears identity (comes (call_frame setup to call))
      ≡ own_reported identity setup.plan.controller.mac to (calls_at setup.plan.controller.address) (calls_at setup.plan.station.suite.address) (Calls call)
  pub call_at_controller : (mine : Controller) (setup : Setup) (to : Mac) (call : Call) → IsSetup setup → IsMac to → CanBeCalled devices call
      → controller_hears mine (call_frame setup to call) ≡ Nothing
  pub response_at_controller : (mine : Controller) (identity : Identity) (caller : Caller) (address : List ℕ) (answer : Response)
      → IsDevice identity → IsCaller caller → IsAddress address → CanBeAnswered answer
      → controller_hears mine (response_frame identity caller address answer) ≡ mine_reported mine caller.mac caller.endpoint (Responded answer)
  pub response_at_device : (other identity : Identity) (caller : Caller) (address : List ℕ) (answer : Response)
      → IsDevice identity → IsCaller caller → IsAddress address → CanBeAnswered answer
      → device_hears other (comes (response_frame identity caller address answer)) ≡ own_reported other identity.mac caller.mac (calls_at address) caller.endpoint (Responds answer)
  pub ready_at_controller : (mine : Controller) (identity : Identity) (address : List ℕ) (ready : Ready)
      → IsDevice identity → IsMac ready.partner.mac → IsAddress ready.partner.address → IsAddress address → CanBeCalled controllers (ready_call ready)
      → controller_hears mine (ready_frame identity address ready)
      ≡ mine_reported mine ready.partner.mac (calls_at ready.partner.address) (Called (record { mac = identity.mac; endpoint = calls_at address }) (ready_call ready))
  pub ready_at_device : (other identity : Identity) (address : List ℕ) (ready : Ready)
      → IsDevice identity → IsMac ready.partner.mac → IsAddress ready.partner.address → IsAddress address → CanBeCalled controllers (ready_call ready)
      → device_hears other (comes (ready_frame identity address ready))
      ≡ own_reported other identity.mac ready.partner.mac (calls_at address) (calls_at ready.partner.address) Garbled
  pub plug_can : (ready : PlugReady) → IsHeader ready.header → ready.header.interface ≡ interface_uuid controllers → IsUuid ready.block.ar_uuid
      → CanBeCalled controllers (plug_ready_call ready)
  pub plug_at_controller : (mine : Controller) (identity : Identity) (address : List ℕ) (ready : PlugReady)
      → IsDevice identity → IsMac ready.partner.mac → IsAddress ready.partner.address → IsAddress address → CanBeCalled controllers (plug_ready_call ready)
      → controller_hears mine (plug_ready_frame identity address ready)
      ≡ mine_reported mine ready.partner.mac (calls_at ready.partner.address) (Called (record { mac = identity.mac; endpoint = calls_at address }) (plug_ready_call ready))
  pub plug_at_device : (other identity : Identity) (address : List ℕ) (ready : PlugReady)
      → IsDevice identity → IsMac ready.partner.mac → IsAddress ready.partner.address → IsAddress address → CanBeCalled controllers (plug_ready_call ready)
      → device_hears other (comes (plug_ready_frame identity address ready))
      ≡ own_reported other identity.mac ready.partner.mac (calls_at address) (calls_at ready.partner.address) Garbled
  pub plug_other : (ready : PlugReady) → ready_in (plug_ready_call ready) ≡ None
  pub agreed_at_device : (identity : Identity) (setup : Setup) (caller : Caller) (answer : Response) → IsSetup setup → IsCaller caller → CanBeAnswered answer
      → device_hears identity (comes (answer_frame setup caller answer))
      ≡ own_reported identity setup.plan.controller.mac caller.mac (calls_at setup.plan.controller.address) caller.endpoint (Responds answer)
  pub agreed_at_controller : (mine : Controller) (setup : Setup) (caller : Caller) (answer : Response) → IsSetup setup → IsCaller caller → CanBeAnswered answer
      → controller_hears mine (answer_frame setup caller answer) ≡ mine_reported mine caller.mac caller.endpoint (Responded answer)
  pub block_read : (block : Block) (rest : List ℕ) → CanBeWritten block → block_of (block_bytes block ++ rest) ≡ front block rest
  pub block_long : (block : Block) → length (block_bytes block) ≡ block_size block

-- the laws of the machines of both ends
pub record GoesSo : Type 0 where
  pub aimed_first : (setup : Setup) → IsSetup setup → IsAimed (first setup.plan)
  pub aimed : (mac : Mac) (setup : Setup) (live : ControllerLive) (event : Event) → IsSetup setup → IsAimed live → IsEventFrom mac setup event
      → IsAimed (turn_of setup live event).live × AllByRecursion (IsAimedAt mac) (turn_of setup live event).sent
  pub begins : (plan : Parts) → IsSteady plan (first plan) × (small_controller plan (first plan) ≡ small.Seeking)
  pub controller_on : (setup : Setup) (live : ControllerLive) (event : Event) → IsSteady setup.plan live
      → GoesOn setup.plan (said_in setup (controller_hears setup.plan.controller) event) live (turn_of setup live event)
  pub frames_are : (old : Controlling) (event : Event) → (step_of old event).frames ≡ map (controller_bytes old.setup) (turn_of old.setup old.live event).sent
  pub device_on : (rules : Rules TakenRecord Request) (activity : List ℕ) (outcomes : List Outcome) (station : Station) (live : Live) (heard : Heard)
      → IsOrderlyIn live.rest.link → IsAskedOwn activity live.rest.asked → IsPlanned rules activity station.named live.rest.real heard
      → AllByRecursion (IsHeardAs rules station.identity) (heard_step outcomes station live heard).sent
      → DeviceSteps rules (heard_as rules.is_planned heard) (small_of activity live) (small_of activity (heard_step outcomes station live heard).live) (heard_step outcomes station live heard).frames
  pub orderly : (rules : Rules TakenRecord Request) (activity : List ℕ) (outcomes : List Outcome) (station : Station) (live : Live) (heard : Heard)
      → IsPlanned rules activity station.named live.rest.real heard → IsOrderlyIn live.rest.link → IsOrderlyIn (heard_step outcomes station live heard).live.rest.link
  pub asked : (rules : Rules TakenRecord Request) (activity : List ℕ) (outcomes : List Outcome) (station : Station) (live : Live) (heard : Heard)
      → IsPlanned rules activity station.named live.rest.real heard
      → IsAskedLater heard live.rest.asked (heard_step outcomes station live heard).live.rest.asked
  pub owed : (rules : Rules TakenRecord Request) (activity : List ℕ) (outcomes : List Outcome) (station : Station) (live : Live) (heard : Heard)
      → IsPlanned rules activity station.named live.rest.real heard
      → AllByRecursion (IsOwed heard live) (heard_step outcomes station live heard).sent
  pub relation : (rules : Rules TakenRecord Request) (from : World TakenRecord Request) (run : List (Move × World TakenRecord Request)) → Begins rules from → IsRun rules from run
      → (link : RelationState TakenRecord Request) → (last_of from run).device.link ≡ Some link → link.request ≡ rules.request
