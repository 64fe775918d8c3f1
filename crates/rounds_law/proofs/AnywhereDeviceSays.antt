-- What a controller hears of the messages of a device is fit.
use Rattle.std.proofs.Common.{◌≡◌, ◌==◌, ◌&&◌, ℕ, nat_eq, Bool, true, false, List, [], ◌∷◌, map, Option, Some, None, sym, subst, arith}
use Rattle.std.specs.Prelude.{if◌then◌else◌}
use Rattle.std.specs.List.{AllByRecursion}
use Rattle.std.specs.Cmp.Lexicographic.{pointwise}
use Rattle.pn_values.specs.declared.identity.Identity.{Identity}
use Rattle.pn_values.specs.declared.mac.Mac.{Mac}
use Rattle.frame_codec.specs.declared.udp.Caller.{Caller}
use Rattle.frame_codec.specs.declared.udp.Endpoint.{Endpoint}
use Rattle.frame_codec.specs.Calls.{calls_at}
use Rattle.frame_codec.specs.Frame.{frame_bytes}
use Rattle.frame_codec.specs.Meaning.{RealTime}
use Rattle.frame_codec.specs.Sendable.{CanBeSent, IsMac, IsTag, carrying}
use Rattle.rpc_core.specs.declared.interface.Interface.TheVariants.{Controller as controllers}
use Rattle.rpc_core.specs.Interface.{interface_uuid}
use Rattle.rpc_core.specs.Response.{Answered}
use Rattle.rpc_core.specs.Sendable.{CanBeAnswered, CanBeCalled, IsHeader, IsUuid}
use Rattle.relations.specs.declared.plugging.PlugReady.{PlugReady}
use Rattle.relations.specs.declared.ready.Ready.{Ready}
use Rattle.plans.specs.declared.parts.Controller.{Controller}
use Rattle.device_frames.specs.Sendable.{AreSendable, IsSendable}
use Rattle.device_frames.specs.Sent.{Sent, IdentifyAnswer, GetAnswer, SetAnswer, ArpReply, CallAnswer, Again, ReadyCall, PlugReadyCall, Ends, Exchanges}
use Rattle.device_frames.specs.Sent.{bytes_of, plug_ready_frame, ready_frame, response_frame}
use Rattle.controller_messages.specs.declared.setup.Setup.{Setup}
use Rattle.controller_messages.specs.Heard.{Calls, Heard, Nothing, Responds, heard_of}
use Rattle.end_laws.specs.hearing.Hearing.{IsUncalled, mine_reported}
use Rattle.end_laws.specs.hearing.Stations.{IsAddress, IsCaller, IsDevice, IsSetup, plug_ready_call, ready_call}
use Rattle.rounds_law.specs.Anywhere.{ChoosesWell, IsFit, IsNoData}

-- ---- the laws of the crates below

pub record SaysLaws : Type 0 where
  pub alone : (mine : Controller) (destination source : Mac) (tag : Option ℕ) (frame_id : ℕ) (body : List ℕ) → IsMac destination → IsMac source → IsTag tag
      → IsUncalled (heard_of mine (frame_bytes (carrying destination source tag (RealTime frame_id body))))
  pub response : (mine : Controller) (identity : Identity) (caller : Caller) (address : List ℕ) (answer : Answered)
      → IsDevice identity → IsCaller caller → IsAddress address → CanBeAnswered answer
      → heard_of mine (response_frame identity caller address answer) ≡ mine_reported mine caller.mac caller.endpoint (Responds answer)
  pub ready : (mine : Controller) (identity : Identity) (address : List ℕ) (ready : Ready)
      → IsDevice identity → IsMac ready.partner.mac → IsAddress ready.partner.address → IsAddress address → CanBeCalled controllers (ready_call ready)
      → heard_of mine (ready_frame identity address ready)
      ≡ mine_reported mine ready.partner.mac (calls_at ready.partner.address)
      (Calls (record { mac = identity.mac; endpoint = calls_at address }) (ready_call ready))
  pub ready_can : (ready : Ready) → IsHeader ready.header → ready.header.interface ≡ interface_uuid controllers
      → IsUuid ready.block.ar_uuid → CanBeCalled controllers (ready_call ready)
  pub plug : (mine : Controller) (identity : Identity) (address : List ℕ) (ready : PlugReady)
      → IsDevice identity → IsMac ready.partner.mac → IsAddress ready.partner.address → IsAddress address → CanBeCalled controllers (plug_ready_call ready)
      → heard_of mine (plug_ready_frame identity address ready)
      ≡ mine_reported mine ready.partner.mac (calls_at ready.partner.address)
      (Calls (record { mac = identity.mac; endpoint = calls_at address }) (plug_ready_call ready))
  pub plug_can : (ready : PlugReady) → IsHeader ready.header → ready.header.interface ≡ interface_uuid controllers
      → IsUuid ready.block.ar_uuid → CanBeCalled controllers (plug_ready_call ready)

-- ---- what is heard

uncalled_fit : (setup : Setup) (heard : Heard) → IsUncalled heard → IsFit setup heard
uncalled_fit setup (Responds response) is = absurd is
uncalled_fit setup (Calls caller call) is = absurd is
uncalled_fit setup heard is = tt

reported_fit : (setup : Setup) (destination : Mac) (to : Endpoint) (heard : Heard) → IsFit setup heard
    → IsFit setup (mine_reported setup.plan.controller destination to heard)
reported_fit setup destination to heard fit =
    outer (pointwise nat_eq destination.octets setup.plan.controller.mac.octets)
    (pointwise nat_eq to.address setup.plan.controller.address && to.port == 34964)
  where
    outer : (own mine : Bool) → IsFit setup (if own then (if mine then heard else Nothing) else Nothing)
    outer true true = fit
    outer true false = tt
    outer false mine = tt

reported_no_data : (setup : Setup) (destination : Mac) (to : Endpoint) (answer : Answered)
    → IsNoData (mine_reported setup.plan.controller destination to (Responds answer))
reported_no_data setup destination to answer =
    outer (pointwise nat_eq destination.octets setup.plan.controller.mac.octets)
    (pointwise nat_eq to.address setup.plan.controller.address && to.port == 34964)
  where
    outer : (own mine : Bool) → IsNoData (if own then (if mine then Responds answer else Nothing) else Nothing)
    outer true true = tt
    outer true false = tt
    outer false mine = tt

-- ---- each message

-- ApplicationReady whose identifiers have their sizes.
pub record IsSizedReady (ready : Ready) : Type 0 where
  pub header : IsHeader ready.header
  pub interface : ready.header.interface ≡ interface_uuid controllers
  pub uuid : IsUuid ready.block.ar_uuid

-- The same of ApplicationReady for a plug.
pub record IsSizedPlug (ready : PlugReady) : Type 0 where
  pub header : IsHeader ready.header
  pub interface : ready.header.interface ≡ interface_uuid controllers
  pub uuid : IsUuid ready.block.ar_uuid

-- A message that is fit, also a response to another station.
abbrev pub IsFitting : Setup → Sent → Type 0
IsFitting setup (IdentifyAnswer asker running xid) = Unit {0}
IsFitting setup (GetAnswer asker running alias request) = Unit {0}
IsFitting setup (SetAnswer asker request answers) = Unit {0}
IsFitting setup (ArpReply asker address target) = ⊥
IsFitting setup (CallAnswer caller address answer) = IsFit setup (Responds answer)
IsFitting setup (Again frame) = ChoosesWell setup frame
IsFitting setup (ReadyCall address ready) = IsSizedReady ready
IsFitting setup (PlugReadyCall address ready) = IsSizedPlug ready
IsFitting setup (Ends farewell) = Unit {0}
IsFitting setup (Exchanges route frame) = Unit {0}

-- If it is an ApplicationReady of a plug, its fields have their sizes.
abbrev pub IsSizedIfPlug : Sent → Type 0
IsSizedIfPlug (PlugReadyCall address ready) = IsSizedPlug ready
IsSizedIfPlug message = Unit {0}

-- So do those of messages that are fit.
fit_sized : (setup : Setup) (message : Sent) → IsFitting setup message → IsSizedIfPlug message
fit_sized setup (PlugReadyCall address ready) fits = fits
fit_sized setup message fits = tt

pub all_sized : (setup : Setup) (sent : List Sent) → AllByRecursion (IsFitting setup) sent → AllByRecursion IsSizedIfPlug sent
all_sized setup [] fits = tt
all_sized setup (message ∷ sent) fits = (fit_sized setup message fits.0, all_sized setup sent fits.1)

module _ (laws : SaysLaws) (setup : Setup) (identity : Identity) (good : IsSetup setup) (device : IsDevice identity) where
  data_fit : (destination : Mac) (tag : Option ℕ) (frame_id : ℕ) (body : List ℕ) → CanBeSent (carrying destination identity.mac tag (RealTime frame_id body))
      → ChoosesWell setup (frame_bytes (carrying destination identity.mac tag (RealTime frame_id body)))
  data_fit destination tag frame_id body can =
      uncalled_fit setup (heard_of setup.plan.controller (frame_bytes (carrying destination identity.mac tag (RealTime frame_id body))))
      (laws.alone setup.plan.controller destination identity.mac tag frame_id body can.destination can.source can.tag)

  answer_fit : (caller : Caller) (address : List ℕ) (answer : Answered) → IsFit setup (Responds answer)
      → IsSendable identity (CallAnswer caller address answer) → ChoosesWell setup (response_frame identity caller address answer)
  answer_fit caller address answer fit can =
      let called : IsCaller caller = record { mac = can.0.destination; endpoint = can.0.content.1 } in
      subst (IsFit setup) (sym (laws.response setup.plan.controller identity caller address answer device called can.0.content.0.0 can.1))
      (reported_fit setup caller.mac caller.endpoint (Responds answer) fit)

  -- It is no cyclic frame.
  pub answer_no_data : (caller : Caller) (address : List ℕ) (answer : Answered) → IsSendable identity (CallAnswer caller address answer)
      → IsNoData (heard_of setup.plan.controller (response_frame identity caller address answer))
  answer_no_data caller address answer can =
      let called : IsCaller caller = record { mac = can.0.destination; endpoint = can.0.content.1 } in
      subst IsNoData (sym (laws.response setup.plan.controller identity caller address answer device called can.0.content.0.0 can.1))
      (reported_no_data setup caller.mac caller.endpoint answer)

  ready_fit : (address : List ℕ) (ready : Ready) → IsSizedReady ready → IsSendable identity (ReadyCall address ready)
      → ChoosesWell setup (ready_frame identity address ready)
  ready_fit address ready sized can =
      subst (IsFit setup) (sym (laws.ready setup.plan.controller identity address ready device can.destination can.content.1.0 can.content.0.0
      (laws.ready_can ready sized.header sized.interface sized.uuid)))
      (reported_fit setup ready.partner.mac (calls_at ready.partner.address)
      (Calls (record { mac = identity.mac; endpoint = calls_at address }) (ready_call ready))
      (record { mac = device; endpoint = (can.content.0.0, omega arith) }, sized.header, omega arith))

  plug_fit : (address : List ℕ) (ready : PlugReady) → IsSizedPlug ready → IsSendable identity (PlugReadyCall address ready)
      → ChoosesWell setup (plug_ready_frame identity address ready)
  plug_fit address ready sized can =
      subst (IsFit setup) (sym (laws.plug setup.plan.controller identity address ready device can.destination can.content.1.0 can.content.0.0
      (laws.plug_can ready sized.header sized.interface sized.uuid)))
      (reported_fit setup ready.partner.mac (calls_at ready.partner.address)
      (Calls (record { mac = identity.mac; endpoint = calls_at address }) (plug_ready_call ready))
      (record { mac = device; endpoint = (can.content.0.0, omega arith) }, sized.header, omega arith))

  pub message_fit : (message : Sent) → IsFitting setup message → IsSendable identity message → ChoosesWell setup (bytes_of identity message)
  message_fit (IdentifyAnswer asker running xid) fits can = data_fit asker None _ _ can
  message_fit (GetAnswer asker running alias request) fits can = data_fit asker None _ _ can
  message_fit (SetAnswer asker request answers) fits can = data_fit asker None _ _ can
  message_fit (ArpReply asker address target) fits can = absurd fits
  message_fit (CallAnswer caller address answer) fits can = answer_fit caller address answer fits can
  message_fit (Again frame) fits can = fits
  message_fit (ReadyCall address ready) fits can = ready_fit address ready fits can
  message_fit (PlugReadyCall address ready) fits can = plug_fit address ready fits can
  message_fit (Ends farewell) fits can = data_fit farewell.initiator (Some farewell.tag) _ _ can
  message_fit (Exchanges route frame) fits can = data_fit route.partner (Some _) _ _ can

  pub all_fit : (sent : List Sent) → AllByRecursion (IsFitting setup) sent → AreSendable identity sent
      → AllByRecursion (ChoosesWell setup) (map (bytes_of identity) sent)
  all_fit [] fits can = tt
  all_fit (message ∷ sent) fits can = (message_fit message fits.0 can.0, all_fit sent fits.1 can.1)
