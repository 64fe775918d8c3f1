-- Which stations and messages exist: each field has its size.
use Rattle.std.specs.Prelude.{◌≡◌, ◌≤◌, ◌<◌, ℕ, true, List, [], length, Some, ⊤}
use Rattle.pn_values.specs.declared.identity.Identity.{Identity}
use Rattle.frame_codec.specs.declared.udp.Caller.{Caller}
use Rattle.frame_codec.specs.FrameId.{is_cyclic}
use Rattle.rpc_core.specs.declared.header.CallHeader.{CallHeader}
use Rattle.rpc_core.specs.Call.{Asked as Call}
use Rattle.connect_blocks.specs.PlugControl.{plug_control}
use Rattle.block_codec.specs.declared.block.Block.TheVariants as is
use Rattle.block_codec.specs.Block.{block_bytes}
use Rattle.cyclic_data.specs.declared.exchange.route.Route.{Route}
use Rattle.plans.specs.Plan.{IsPlan}
use Rattle.relations.specs.declared.plugging.PlugReady.{PlugReady}
use Rattle.relations.specs.declared.ready.Ready.{Ready}
use Rattle.controller_messages.specs.declared.plug_request.PlugRequest.{PlugRequest}
use Rattle.controller_messages.specs.declared.record_request.RecordRequest.{RecordRequest}
use Rattle.controller_messages.specs.declared.request.Request.{Request}
use Rattle.controller_messages.specs.declared.request.Request.TheVariants as asks
use Rattle.controller_messages.specs.declared.setup.Setup.{Setup}
use Rattle.frame_codec.specs.Sendable.{IsEndpoint, IsMac}
use Rattle.rpc_core.specs.Sendable.{IsUuid}

-- an IPv4 address
abbrev pub IsAddress : List ℕ → Type 0
IsAddress octets = length octets ≡ 4

-- a controller's set-up: its plan is valid, and its addresses and identifiers have their sizes
pub record IsSetup (setup : Setup) : Type 0 where
  pub plan : IsPlan setup.plan
  pub mac : IsMac setup.plan.controller.mac
  pub address : IsAddress setup.plan.controller.address
  pub station : IsAddress setup.plan.station.suite.address
  pub mask : IsAddress setup.plan.station.suite.mask
  pub gateway : IsAddress setup.plan.station.suite.gateway
  pub ar : IsUuid setup.ar
  pub activity : IsUuid setup.activity

-- a device: its MAC address has its size
abbrev pub IsDevice : Identity → Type 0
IsDevice identity = IsMac identity.mac

-- a caller: its addresses and its port have their sizes
pub record IsCaller (caller : Caller) : Type 0 where
  pub mac : IsMac caller.mac
  pub endpoint : IsEndpoint caller.endpoint

-- a request whose record number can be written
abbrev pub IsNumbered : Request → Type 0
IsNumbered asks.Identify = ⊤
IsNumbered asks.Address = ⊤
IsNumbered asks.Connect = ⊤
IsNumbered (asks.Write number) = number < 65536
IsNumbered asks.PrmEnd = ⊤
IsNumbered (asks.Release sequence) = sequence < 4294967296
IsNumbered (asks.WriteAfter number tries) = (number < 65536) × (tries < 65536)
IsNumbered (asks.PrmEndAfter tries) = tries < 65536

-- a request of the application whose call can be written: its number has four octets, and a call has room for its record
abbrev pub IsRecordCall : RecordRequest → List ℕ → Type 0
IsRecordCall request octets = (request.sequence < 4294967296) × (length octets ≤ 1308)

-- a request after a plug whose call can be written: its number has four octets, and its block fits
abbrev pub IsPlugCall : PlugRequest → Type 0
IsPlugCall request = request.sequence < 4294967296

-- a request that is made by a call
abbrev pub IsCalled : Request → Type 0
IsCalled asks.Identify = ⊥
IsCalled asks.Address = ⊥
IsCalled asks.Connect = ⊤
IsCalled (asks.Write number) = ⊤
IsCalled asks.PrmEnd = ⊤
IsCalled (asks.Release sequence) = ⊤
IsCalled (asks.WriteAfter number tries) = ⊤
IsCalled (asks.PrmEndAfter tries) = ⊤

-- the frames of a relation go to a partner, under a cyclic FrameID and with tags of two octets
pub record IsRoute (route : Route) : Type 0 where
  pub partner : IsMac route.partner
  pub cyclic : is_cyclic route.sent_id ≡ true
  pub tag : route.sent_tag < 65536
  pub alarm_tag : route.alarm_tag < 65536

-- the call of a device with these blocks
abbrev pub own_call : CallHeader → List ℕ → Call
own_call header blocks = record { header = header; args_maximum = 1372; blocks = Some blocks }

-- The call of an ApplicationReady.
abbrev pub ready_call : Ready → Call
ready_call ready = own_call ready.header (block_bytes (is.ApplicationReady ready.block))

-- That of a plug.
abbrev pub plug_ready_call : PlugReady → Call
plug_ready_call ready = own_call ready.header ((plug_control 0x0113).write ready.block [])
