-- Calls and responses, from one end to the other.
use Rattle.std.proofs.Common.{◌≡◌, ◌≤◌, ◌<◌, ℕ, List, [], length, None, Result, Ok, Err, refl, ◌∙◌, arith}
use Rattle.pn_values.specs.declared.identity.Identity.{Identity}
use Rattle.pn_values.specs.declared.mac.Mac.{Mac}
use Rattle.frame_codec.specs.declared.udp.Caller.{Caller}
use Rattle.frame_codec.specs.declared.udp.Endpoint.{Endpoint}
use Rattle.std.specs.Prelude.{IsErr}
use Rattle.std.proofs.lemmas.Bool.{false≢true}
use Rattle.frame_codec.specs.declared.fault.FrameFault.{FrameFault}
use Rattle.frame_codec.specs.Frame.{frame_of}
use Rattle.frame_codec.specs.Meaning.{Meaning, UdpDatagram}
use Rattle.rpc_core.specs.declared.interface.Interface.TheVariants.{Controller as controllers, Device as devices}
use Rattle.rpc_core.specs.Call.{Asked as Call, call_bytes}
use Rattle.rpc_core.specs.Response.{Answered, response_bytes}
use Rattle.cyclic_data.specs.exchange.Frames.{plain_frame}
use Rattle.plans.specs.declared.parts.Controller.{Controller}
use Rattle.relations.specs.declared.phase.Partner.{Partner}
use Rattle.relations.specs.declared.plugging.PlugReady.{PlugReady}
use Rattle.relations.specs.declared.ready.Ready.{Ready}
use Rattle.rpc_core.specs.declared.header.CallHeader.{CallHeader}
use Rattle.block_codec.specs.declared.block.Block.TheVariants as is_block
use Rattle.block_codec.specs.Block.{block_bytes}
use Rattle.connect_blocks.specs.PlugControl.{plug_control}
use Rattle.device_frames.specs.Heard.{Calls, Garbled, Responds, Unreadable, heard_frame, heard_of as device_hears}
use Rattle.device_frames.specs.Sent.{call_frame as device_call, plug_ready_frame, ready_frame, response_frame}
use Rattle.controller_messages.specs.declared.setup.Setup.{Setup}
use Rattle.controller_messages.specs.Heard.{Calls as Called, Nothing, Responds as Responded, heard_of as controller_hears, heard_read}
use Rattle.controller_messages.specs.Sent.{answer_frame, call_frame, calls_at}
use Rattle.frame_codec.specs.Sendable.{CanBeSent, IsEndpoint, IsMac, carrying}
use Rattle.rpc_core.specs.Sendable.{CanBeAnswered, CanBeCalled, IsHeader}
use Rattle.end_laws.specs.hearing.Hearing.{comes, mine_reported, own_reported}
use Rattle.end_laws.specs.hearing.Stations.{IsAddress, IsCaller, IsDevice, IsSetup, own_call, plug_ready_call, ready_call}
use Rattle.end_laws.proofs.HearingGiven.{CallsAreNoRefusals, CallsAreNoResponses, CallsAreRead, CallsAreShort, ControllerIsMeant, DatagramsAreRead, DeviceIsMeant, LongDatagramsAreLost, ResponsesAreLong, ResponsesAreNoCalls, ResponsesAreRead, ResponsesAreShort}
use Rattle.end_laws.proofs.HearingDevice.{call_said, ready_said, response_said, reported_heard}
use Rattle.end_laws.proofs.HearingController.{body_heard, call_is, nothing_reported, other_is, response_is}

-- ---- datagrams that can be sent

at_port : (address : List ℕ) → IsAddress address → IsEndpoint (calls_at address)
at_port address is = (is, omega arith)

sent : (destination source : Mac) (from to : Endpoint) (body : List ℕ) → IsMac destination → IsMac source → IsEndpoint from → IsEndpoint to → length body ≤ 1472
    → CanBeSent (carrying destination source None (UdpDatagram from to body))
sent destination source from to body one other first second few = record { destination = one; source = other; tag = tt; content = (first, second, few) }

-- ---- calls of the controller

module _ (datagrams : DatagramsAreRead) (reads : CallsAreRead) (short : CallsAreShort) where
  call_sent : (setup : Setup) (to : Mac) (call : Call) → IsSetup setup → IsMac to → CanBeCalled devices call
      → CanBeSent (carrying to setup.plan.controller.mac None (UdpDatagram (calls_at setup.plan.controller.address) (calls_at setup.plan.station.suite.address) (call_bytes devices call)))
  call_sent setup to call is mac can = sent to _ _ _ _ mac is.mac (at_port _ is.address) (at_port _ is.station) (short devices call can)

  pub call_at_device : (identity : Identity) (setup : Setup) (to : Mac) (call : Call) → IsSetup setup → IsMac to → CanBeCalled devices call
      → device_hears identity (comes (call_frame setup to call))
      ≡ own_reported identity setup.plan.controller.mac to (calls_at setup.plan.controller.address) (calls_at setup.plan.station.suite.address) (Calls call)
  call_at_device identity setup to call is mac can =
      reported_heard datagrams identity to setup.plan.controller.mac (calls_at setup.plan.controller.address) (calls_at setup.plan.station.suite.address) (call_bytes devices call) (Calls call)
      (call_sent setup to call is mac can) (call_said reads call can)

  pub call_at_controller : CallsAreNoResponses → CallsAreNoRefusals → DeviceIsMeant → (mine : Controller) (setup : Setup) (to : Mac) (call : Call) → IsSetup setup → IsMac to → CanBeCalled devices call
      → controller_hears mine (call_frame setup to call) ≡ Nothing
  call_at_controller differ unrefused meant mine setup to call is mac can =
      body_heard datagrams mine to setup.plan.controller.mac (calls_at setup.plan.controller.address) (calls_at setup.plan.station.suite.address) (call_bytes devices call) Nothing
      (call_sent setup to call is mac can) (other_is reads differ unrefused meant _ call can)
      ∙ nothing_reported mine to (calls_at setup.plan.station.suite.address)

  -- ---- calls of a device

  module _ (identity : Identity) (address : List ℕ) (partner : Partner) (header : CallHeader) (blocks : List ℕ) (is : IsDevice identity) (mac : IsMac partner.mac)
      (to : IsAddress partner.address) (from : IsAddress address) (can : CanBeCalled controllers (own_call header blocks)) where
    own_sent : CanBeSent (carrying partner.mac identity.mac None (UdpDatagram (calls_at address) (calls_at partner.address) (call_bytes controllers (own_call header blocks))))
    own_sent = sent _ _ _ _ _ mac is (at_port _ from) (at_port _ to) (short controllers (own_call header blocks) can)

    own_at_controller : (mine : Controller)
        → controller_hears mine (device_call identity address partner header blocks)
        ≡ mine_reported mine partner.mac (calls_at partner.address) (Called (record { mac = identity.mac; endpoint = calls_at address }) (own_call header blocks))
    own_at_controller mine =
        body_heard datagrams mine partner.mac identity.mac (calls_at address) (calls_at partner.address) (call_bytes controllers (own_call header blocks)) _
        own_sent (call_is reads _ (own_call header blocks) can)

    own_at_device : CallsAreNoResponses → ControllerIsMeant → (other : Identity)
        → device_hears other (comes (device_call identity address partner header blocks))
        ≡ own_reported other identity.mac partner.mac (calls_at address) (calls_at partner.address) Garbled
    own_at_device differ meant other =
        reported_heard datagrams other partner.mac identity.mac (calls_at address) (calls_at partner.address) (call_bytes controllers (own_call header blocks)) Garbled
        own_sent (ready_said reads differ meant (own_call header blocks) can)

  -- ---- ApplicationReady, and that of a plug

  pub ready_at_controller : (mine : Controller) (identity : Identity) (address : List ℕ) (ready : Ready)
      → IsDevice identity → IsMac ready.partner.mac → IsAddress ready.partner.address → IsAddress address → CanBeCalled controllers (ready_call ready)
      → controller_hears mine (ready_frame identity address ready)
      ≡ mine_reported mine ready.partner.mac (calls_at ready.partner.address) (Called (record { mac = identity.mac; endpoint = calls_at address }) (ready_call ready))
  ready_at_controller mine identity address ready is mac to from can =
      own_at_controller identity address ready.partner ready.header (block_bytes (is_block.ApplicationReady ready.block)) is mac to from can mine

  pub plug_at_controller : (mine : Controller) (identity : Identity) (address : List ℕ) (ready : PlugReady)
      → IsDevice identity → IsMac ready.partner.mac → IsAddress ready.partner.address → IsAddress address → CanBeCalled controllers (plug_ready_call ready)
      → controller_hears mine (plug_ready_frame identity address ready)
      ≡ mine_reported mine ready.partner.mac (calls_at ready.partner.address) (Called (record { mac = identity.mac; endpoint = calls_at address }) (plug_ready_call ready))
  plug_at_controller mine identity address ready is mac to from can =
      own_at_controller identity address ready.partner ready.header ((plug_control 0x0113).write ready.block []) is mac to from can mine

  pub ready_at_device : CallsAreNoResponses → ControllerIsMeant → (other identity : Identity) (address : List ℕ) (ready : Ready)
      → IsDevice identity → IsMac ready.partner.mac → IsAddress ready.partner.address → IsAddress address → CanBeCalled controllers (ready_call ready)
      → device_hears other (comes (ready_frame identity address ready))
      ≡ own_reported other identity.mac ready.partner.mac (calls_at address) (calls_at ready.partner.address) Garbled
  ready_at_device differ meant other identity address ready is mac to from can =
      own_at_device identity address ready.partner ready.header (block_bytes (is_block.ApplicationReady ready.block)) is mac to from can differ meant other

  pub plug_at_device : CallsAreNoResponses → ControllerIsMeant → (other identity : Identity) (address : List ℕ) (ready : PlugReady)
      → IsDevice identity → IsMac ready.partner.mac → IsAddress ready.partner.address → IsAddress address → CanBeCalled controllers (plug_ready_call ready)
      → device_hears other (comes (plug_ready_frame identity address ready))
      ≡ own_reported other identity.mac ready.partner.mac (calls_at address) (calls_at ready.partner.address) Garbled
  plug_at_device differ meant other identity address ready is mac to from can =
      own_at_device identity address ready.partner ready.header ((plug_control 0x0113).write ready.block []) is mac to from can differ meant other

-- ---- responses of either end

module _ (datagrams : DatagramsAreRead) (reads : ResponsesAreRead) (short : ResponsesAreShort) (differ : ResponsesAreNoCalls) where
  response_sent : (source : Mac) (address : List ℕ) (caller : Caller) (answer : Answered) → IsMac source → IsAddress address → IsCaller caller → CanBeAnswered answer
      → CanBeSent (carrying caller.mac source None (UdpDatagram (calls_at address) caller.endpoint (response_bytes answer)))
  response_sent source address caller answer one from is can = sent _ _ _ _ _ is.mac one (at_port _ from) is.endpoint (short answer can)

  at_controller : (mine : Controller) (source : Mac) (address : List ℕ) (caller : Caller) (answer : Answered) → IsMac source → IsAddress address → IsCaller caller → CanBeAnswered answer
      → controller_hears mine (plain_frame source caller.mac (UdpDatagram (calls_at address) caller.endpoint (response_bytes answer)))
      ≡ mine_reported mine caller.mac caller.endpoint (Responded answer)
  at_controller mine source address caller answer one from is can =
      body_heard datagrams mine caller.mac source (calls_at address) caller.endpoint (response_bytes answer) (Responded answer)
      (response_sent source address caller answer one from is can) (response_is reads differ _ answer can)

  at_device : (identity : Identity) (source : Mac) (address : List ℕ) (caller : Caller) (answer : Answered) → IsMac source → IsAddress address → IsCaller caller → CanBeAnswered answer
      → device_hears identity (comes (plain_frame source caller.mac (UdpDatagram (calls_at address) caller.endpoint (response_bytes answer))))
      ≡ own_reported identity source caller.mac (calls_at address) caller.endpoint (Responds answer)
  at_device identity source address caller answer one from is can =
      reported_heard datagrams identity caller.mac source (calls_at address) caller.endpoint (response_bytes answer) (Responds answer)
      (response_sent source address caller answer one from is can) (response_said reads differ answer can)

  pub response_at_controller : (mine : Controller) (identity : Identity) (caller : Caller) (address : List ℕ) (answer : Answered)
      → IsDevice identity → IsCaller caller → IsAddress address → CanBeAnswered answer
      → controller_hears mine (response_frame identity caller address answer) ≡ mine_reported mine caller.mac caller.endpoint (Responded answer)
  response_at_controller mine identity caller address answer is caller_is from can = at_controller mine identity.mac address caller answer is from caller_is can

  pub response_at_device : (other identity : Identity) (caller : Caller) (address : List ℕ) (answer : Answered)
      → IsDevice identity → IsCaller caller → IsAddress address → CanBeAnswered answer
      → device_hears other (comes (response_frame identity caller address answer)) ≡ own_reported other identity.mac caller.mac (calls_at address) caller.endpoint (Responds answer)
  response_at_device other identity caller address answer is caller_is from can = at_device other identity.mac address caller answer is from caller_is can

  pub answer_at_device : (identity : Identity) (setup : Setup) (caller : Caller) (answer : Answered) → IsSetup setup → IsCaller caller → CanBeAnswered answer
      → device_hears identity (comes (answer_frame setup caller answer))
      ≡ own_reported identity setup.plan.controller.mac caller.mac (calls_at setup.plan.controller.address) caller.endpoint (Responds answer)
  answer_at_device identity setup caller answer is caller_is can = at_device identity setup.plan.controller.mac setup.plan.controller.address caller answer is.mac is.address caller_is can

  pub answer_at_controller : (mine : Controller) (setup : Setup) (caller : Caller) (answer : Answered) → IsSetup setup → IsCaller caller → CanBeAnswered answer
      → controller_hears mine (answer_frame setup caller answer) ≡ mine_reported mine caller.mac caller.endpoint (Responded answer)
  answer_at_controller mine setup caller answer is caller_is can = at_controller mine setup.plan.controller.mac setup.plan.controller.address caller answer is.mac is.address caller_is can

-- ---- what does not fit

unread_at : (identity : Identity) (read : Result Meaning FrameFault) → IsErr read → heard_frame identity read ≡ Unreadable
unread_at identity (Ok meaning) none = absurd (false≢true none)
unread_at identity (Err fault) none = refl

lost_at : (mine : Controller) (read : Result Meaning FrameFault) → IsErr read → heard_read mine read ≡ Nothing
lost_at mine (Ok meaning) none = absurd (false≢true none)
lost_at mine (Err fault) none = refl

module _ (lost : LongDatagramsAreLost) (sized : ResponsesAreLong) where
  refused : (identity : Identity) (caller : Caller) (address : List ℕ) (answer : Answered)
      → IsDevice identity → IsCaller caller → IsAddress address → IsHeader answer.header → 1372 < length answer.blocks → IsErr (frame_of (response_frame identity caller address answer))
  refused identity caller address answer is caller_is from header many =
      lost caller.mac identity.mac None (calls_at address) caller.endpoint (response_bytes answer) caller_is.mac is tt from caller_is.endpoint.0 (omega (arith, sized answer header, many))

  pub response_lost : (mine : Controller) (identity : Identity) (caller : Caller) (address : List ℕ) (answer : Answered)
      → IsDevice identity → IsCaller caller → IsAddress address → IsHeader answer.header → 1372 < length answer.blocks
      → controller_hears mine (response_frame identity caller address answer) ≡ Nothing
  unfolding controller_hears
  response_lost mine identity caller address answer is caller_is from header many = lost_at mine _ (refused identity caller address answer is caller_is from header many)

  pub response_unread : (other identity : Identity) (caller : Caller) (address : List ℕ) (answer : Answered)
      → IsDevice identity → IsCaller caller → IsAddress address → IsHeader answer.header → 1372 < length answer.blocks
      → device_hears other (comes (response_frame identity caller address answer)) ≡ Unreadable
  unfolding device_hears
  response_unread other identity caller address answer is caller_is from header many = unread_at other _ (refused identity caller address answer is caller_is from header many)
