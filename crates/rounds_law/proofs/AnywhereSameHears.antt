-- What a device hears of its controller, as the law of its turns needs it: each call is one of the controller's start-up, and nothing comes
-- from the application of the device.
use Rattle.std.proofs.Common.{◌≡◌, ◌⊎◌, inl, inr, false, [], Option, Some, None, Ok, refl, sym, ap, subst, ◌∙◌, List}
use Rattle.pn_values.specs.declared.real.Real.{Real}
use Rattle.frame_codec.specs.declared.udp.Caller.{Caller}
use Rattle.rpc_core.specs.Call.{Asked as Call}
use Rattle.records.specs.declared.status.operation.Operation.{Operation}
use Rattle.records.specs.declared.status.operation.Operation.TheVariants.{Connect, Control, Release, Write}
use Rattle.records.specs.declared.writes.taken.TakenRecord.{TakenRecord}
use Rattle.records.specs.status.Operation.{operation_of}
use Rattle.connects.specs.requests.Handled.{request_of}
use Rattle.connects.specs.requests.Request.{Request as Asked}
use Rattle.pn_alarms.specs.declared.pdu.Header.{Header}
use Rattle.pn_alarms.specs.declared.pdu.PduType.{PduType}
use Rattle.pn_alarms.specs.declared.pdu.PduType.TheVariants as pdu
use Rattle.diagnosis.specs.declared.reports.priority.Priority.{Priority}
use Rattle.diagnosis.specs.declared.reports.priority.Priority.TheVariants.{High, Low}
use Rattle.plans.specs.Connect.{connect_of}
use Rattle.device_frames.specs.Heard.{Calls, Applied, Heard, Reported, Ticks}
use Rattle.asked_records.specs.declared.names.RecordName.{RecordName}
use Rattle.controller_messages.specs.declared.plug_request.PlugRequest.{PlugRequest}
use Rattle.controller_messages.specs.declared.plug_request.PlugStep.{PlugStep}
use Rattle.controller_messages.specs.declared.plug_request.PlugStep.TheVariants.{PrmEnd, Record}
use Rattle.controller_messages.specs.declared.request.Request.{Request}
use Rattle.controller_messages.specs.declared.request.Request.TheVariants as asks
use Rattle.controller_messages.specs.declared.setup.Setup.{Setup}
use Rattle.controller_messages.specs.PlugRequests.{plug_blocks, plug_call, plug_operation}
use Rattle.controller_messages.specs.Requests.{blocks_of, call_for}
use Rattle.controller_messages.specs.Sent.{Sent, Requests, Accesses, Parametrizes, Agrees, Cycles, Confirms, Replies, Ends}
use Rattle.end_laws.specs.both.Small as small
use Rattle.end_laws.specs.both.Small.{Rules}
use Rattle.end_laws.specs.device.Small.{IsPlanned, IsPlannedAs, IsPlannedCall}
use Rattle.end_laws.specs.hearing.Stations.{IsCalled}
use Rattle.both_ends.specs.startup.answer.Answer.{caller_of}
use Rattle.both_ends.specs.startup.request.Request.{request_for}
use Rattle.rounds_law.specs.AnywhereFrames.{HasWay, IsOfPlug}
use Rattle.rounds_law.proofs.AnywhereDeviceHears.{IsHeardAs, message_said, replied_said, request_said}
use Rattle.rounds_law.proofs.DeviceCallingConnected.{is_connect}

-- ---- operations

pub is_release : operation_of 1 ≡ Some Release
unfolding operation_of
is_release = refl

pub is_write : operation_of 3 ≡ Some Write
unfolding operation_of
is_write = refl

pub is_control : operation_of 4 ≡ Some Control
unfolding operation_of
is_control = refl

-- What is asked for with a request that is a call.
abbrev pub which_of : Request → Operation
which_of (asks.Write number) = Write
which_of (asks.WriteAfter number tries) = Write
which_of asks.PrmEnd = Control
which_of (asks.PrmEndAfter tries) = Control
which_of (asks.Release sequence) = Release
which_of request = Connect

pub which_is : (setup : Setup) (request : Request) → IsCalled request → operation_of (call_for setup request).header.operation ≡ Some (which_of request)
which_is setup asks.Identify called = absurd called
which_is setup asks.Address called = absurd called
which_is setup asks.Connect called = is_connect
which_is setup (asks.Write number) called = is_write
which_is setup (asks.WriteAfter number tries) called = is_write
which_is setup asks.PrmEnd called = is_control
which_is setup (asks.PrmEndAfter tries) called = is_control
which_is setup (asks.Release sequence) called = is_release

-- What is asked for with a request after a plug.
abbrev pub plug_which : PlugStep → Operation
plug_which (Record number) = Write
plug_which PrmEnd = Control

plug_which_is : (step : PlugStep) → operation_of (plug_operation step) ≡ Some (plug_which step)
plug_which_is (Record number) = is_write
plug_which_is PrmEnd = is_control

-- ---- what is heard

-- A call of this controller: its Connect, a Write, its PrmEnd or a Release.
pub record IsOwnCall (setup : Setup) (caller : Caller) (call : Call) : Type 0 where
  pub by : caller ≡ caller_of setup.plan.controller
  pub request : Request
  pub called : IsCalled request
  pub is : call ≡ call_for setup request

-- A call of this controller after a plug: a Write, or the PrmEnd of a place.
pub record IsPlugCall (setup : Setup) (caller : Caller) (call : Call) : Type 0 where
  pub by : caller ≡ caller_of setup.plan.controller
  pub request : PlugRequest
  pub of : IsOfPlug setup request
  pub is : call ≡ plug_call setup request

-- It is no other call.
pub plug_asks : (setup : Setup) (caller : Caller) (call : Call) → (plug : IsPlugCall setup caller call)
    → operation_of call.header.operation ≡ Some (plug_which plug.request.step)
plug_asks setup caller call plug = ap (λ (c : Call). operation_of c.header.operation) plug.is ∙ plug_which_is plug.request.step

-- Each call is one, and nothing comes from an application.
abbrev pub IsOwnHeard : Setup → Heard → Type 0
IsOwnHeard setup (Reported caller address (Calls call)) = IsOwnCall setup caller call ⊎ IsPlugCall setup caller call
IsOwnHeard setup (Applied local) = ⊥
IsOwnHeard setup heard = Unit {0}

-- What the law of turns needs of the start: what the Connect asks for. It is not asked about Writes.
abbrev pub rules_for : Setup → Rules TakenRecord Asked
rules_for setup = record {
  request = request_for setup.plan setup.ar;
  count = 0;
  group = λ number. [];
  is_planned = λ sequence blocks. false;
  grants = λ sequence blocks. false;
  skips = false;
  to_device = λ octets. small.Idle;
  to_controller = λ octets. small.Nothing;
}

module _ (setup : Setup) (named : List RecordName) (real : Real)
    (read : request_of None (connect_of setup.plan setup.ar) ≡ Ok (request_for setup.plan setup.ar)) where
  abbrev Planned : Heard → Type 0
  Planned heard = IsPlanned (rules_for setup) setup.activity named real heard

  -- Both.
  abbrev pub IsKnown : Heard → Type 0
  IsKnown heard = Planned heard × IsOwnHeard setup heard

  abbrev PlannedAs : Request → Option Operation → Type 0
  PlannedAs request which = IsPlannedAs (rules_for setup) named real (call_for setup request).header.sequence (blocks_of setup request) which

  call_planned : (request : Request) → IsCalled request → PlannedAs request (Some (which_of request))
      → IsPlannedCall (rules_for setup) setup.activity named real (call_for setup request)
  call_planned request called plans = record {
    own = refl;
    blocks = blocks_of setup request;
    counted = refl;
    asks = subst (PlannedAs request) (sym (which_is setup request called)) plans;
  }

  abbrev IsOwnSaid : Call → Type 0
  IsOwnSaid call = IsOwnCall setup (caller_of setup.plan.controller) call ⊎ IsPlugCall setup (caller_of setup.plan.controller) call

  own_call : (request : Request) → IsCalled request → IsOwnSaid (call_for setup request)
  own_call request called = inl (record { by = refl; request = request; called = called; is = refl })

  abbrev PlugPlannedAs : PlugRequest → Option Operation → Type 0
  PlugPlannedAs request which = IsPlannedAs (rules_for setup) named real request.sequence (plug_blocks setup request request.step) which

  plug_plans : (request : PlugRequest) (step : PlugStep) → PlugPlannedAs request (Some (plug_which step))
  plug_plans request (Record number) = λ planned. absurd cc
  plug_plans request PrmEnd = tt

  plug_planned : (request : PlugRequest) → IsPlannedCall (rules_for setup) setup.activity named real (plug_call setup request)
  plug_planned request = record {
    own = refl;
    blocks = plug_blocks setup request request.step;
    counted = refl;
    asks = subst (PlugPlannedAs request) (sym (plug_which_is request.step)) (plug_plans request request.step);
  }

  plug_known : (request : PlugRequest) → IsOfPlug setup request → IsKnown (Reported (caller_of setup.plan.controller) setup.plan.station.suite.address (Calls (plug_call setup request)))
  plug_known request of = (plug_planned request, inr (record { by = refl; request = request; of = of; is = refl }))

  request_known : (request : Request) → IsKnown (request_said setup request)
  request_known asks.Identify = (tt, tt)
  request_known asks.Address = (tt, tt)
  request_known asks.Connect = (call_planned asks.Connect tt read, own_call asks.Connect tt)
  request_known (asks.Write number) = (call_planned (asks.Write number) tt (λ planned. absurd cc), own_call (asks.Write number) tt)
  request_known (asks.WriteAfter number tries) = (call_planned (asks.WriteAfter number tries) tt (λ planned. absurd cc), own_call (asks.WriteAfter number tries) tt)
  request_known asks.PrmEnd = (call_planned asks.PrmEnd tt tt, own_call asks.PrmEnd tt)
  request_known (asks.PrmEndAfter tries) = (call_planned (asks.PrmEndAfter tries) tt tt, own_call (asks.PrmEndAfter tries) tt)
  request_known (asks.Release sequence) = (call_planned (asks.Release sequence) tt tt, own_call (asks.Release sequence) tt)

  reply_known : (priority : Priority) (header : Header) (kind : PduType) → IsKnown (replied_said setup priority header kind)
  reply_known High header pdu.Ack = (tt, tt)
  reply_known Low header pdu.Ack = (tt, tt)
  reply_known priority header pdu.Nack = (tt, tt)
  reply_known priority header pdu.Data = (tt, tt)
  reply_known priority header pdu.Error = (tt, tt)

  said_known : (message : Sent) → HasWay setup message → IsKnown (message_said setup message)
  said_known (Requests device request) way = request_known request
  said_known (Accesses device request octets) way = absurd way
  said_known (Parametrizes device request) way = plug_known request way
  said_known (Agrees caller answer) way = (tt, tt)
  said_known (Cycles route shown counter) way = (tt, tt)
  said_known (Confirms route High header ack) way = (tt, tt)
  said_known (Confirms route Low header ack) way = (tt, tt)
  said_known (Replies route priority header) way = reply_known priority header header.kind
  said_known (Ends route header reason) way = (tt, tt)

  -- A message of the controller, for this device or another one, and a unit.
  pub message_known : (heard : Heard) (message : Sent) → HasWay setup message → IsHeardAs heard (message_said setup message) → IsKnown heard
  message_known heard message way (inl is) = subst IsKnown (sym is) (said_known message way)
  message_known heard message way (inr is) = subst IsKnown (sym is) (tt, tt)

  pub unit_known : IsKnown Ticks
  unit_known = (tt, tt)
