-- What a controller hears of the messages of a device: what a positive response to its Connect chooses.
use Rattle.std.proofs.Common.{◌≡◌, ◌==◌, ◌&&◌, ℕ, nat_eq, Bool, true, false, List, [], ◌∷◌, map, Option, Some, None, sym, subst}
use Rattle.std.specs.Prelude.{if◌then◌else◌}
use Rattle.std.specs.List.{AllByRecursion}
use Rattle.std.specs.Cmp.Lexicographic.{pointwise}
use Rattle.pn_values.specs.declared.identity.Identity.{Identity}
use Rattle.pn_values.specs.declared.mac.Mac.{Mac}
use Rattle.frame_codec.specs.declared.arp.Holder.{Holder}
use Rattle.frame_codec.specs.declared.udp.Caller.{Caller}
use Rattle.frame_codec.specs.declared.udp.Endpoint.{Endpoint}
use Rattle.frame_codec.specs.Calls.{calls_at}
use Rattle.frame_codec.specs.Frame.{frame_bytes}
use Rattle.frame_codec.specs.Meaning.{RealTime}
use Rattle.frame_codec.specs.Sendable.{CanBeSent, IsHolder, IsMac, carrying}
use Rattle.rpc_core.specs.Response.{Answered}
use Rattle.connects.specs.answers.Connect.{Chosen}
use Rattle.relations.specs.declared.plugging.PlugReady.{PlugReady}
use Rattle.relations.specs.declared.ready.Ready.{Ready}
use Rattle.plans.specs.declared.parts.Controller.{Controller}
use Rattle.device_frames.specs.Sendable.{AreSendable, IsSendable}
use Rattle.device_frames.specs.Sent.{Sent, IdentifyAnswer, GetAnswer, SetAnswer, ArpReply, CallAnswer, Again, ReadyCall, PlugReadyCall, Ends, Exchanges}
use Rattle.device_frames.specs.Sent.{bytes_of, plug_ready_frame, ready_frame, response_frame}
use Rattle.controller_messages.specs.declared.setup.Setup.{Setup}
use Rattle.controller_messages.specs.Heard.{Calls, Heard, Nothing, Responds, heard_of}
use Rattle.end_laws.specs.hearing.Hearing.{IsUncalled, mine_reported}
use Rattle.end_laws.specs.hearing.Stations.{IsAddress, IsCaller, IsDevice, IsSetup, plug_ready_call, ready_call}
use Rattle.rounds_law.specs.AnywhereSame.{Chooses, ChoosesIn}
use Rattle.rounds_law.proofs.AnywhereDeviceSays.{IsSizedPlug, IsSizedReady, SaysLaws}

-- A controller hears nothing of an ARP packet: a clause of a function below.
abbrev pub PacketsAreNothing : Type 0
PacketsAreNothing = (mine : Controller) (identity : Identity) (asker : Mac) (address : List ℕ) (target : Holder)
    → IsDevice identity → IsMac asker → IsAddress address → IsHolder target → heard_of mine (bytes_of identity (ArpReply asker address target)) ≡ Nothing

-- ---- what is heard

uncalled_chooses : (setup : Setup) (Holds : Chosen → Type 0) (heard : Heard) → IsUncalled heard → Chooses setup Holds heard
uncalled_chooses setup Holds (Responds response) is = absurd is
uncalled_chooses setup Holds heard is = tt

reported_chooses : (setup : Setup) (Holds : Chosen → Type 0) (destination : Mac) (to : Endpoint) (heard : Heard) → Chooses setup Holds heard
    → Chooses setup Holds (mine_reported setup.plan.controller destination to heard)
reported_chooses setup Holds destination to heard fit =
    outer (pointwise nat_eq destination.octets setup.plan.controller.mac.octets)
    (pointwise nat_eq to.address setup.plan.controller.address && to.port == 34964)
  where
    outer : (own mine : Bool) → Chooses setup Holds (if own then (if mine then heard else Nothing) else Nothing)
    outer true true = fit
    outer true false = tt
    outer false mine = tt

-- ---- each message

-- A response that chooses so, and an ApplicationReady, also that of a plug, of sizes that are read.
abbrev pub IsSaying : Setup → (Chosen → Type 0) → Sent → Type 0
IsSaying setup Holds (CallAnswer caller address answer) = Chooses setup Holds (Responds answer)
IsSaying setup Holds (Again frame) = ChoosesIn setup Holds frame
IsSaying setup Holds (ReadyCall address ready) = IsSizedReady ready
IsSaying setup Holds (PlugReadyCall address ready) = IsSizedPlug ready
IsSaying setup Holds message = Unit {0}

module _ (laws : SaysLaws) (packets : PacketsAreNothing) (setup : Setup) (Holds : Chosen → Type 0) (identity : Identity) (good : IsSetup setup)
    (device : IsDevice identity) where
  data_says : (destination : Mac) (tag : Option ℕ) (frame_id : ℕ) (body : List ℕ) → CanBeSent (carrying destination identity.mac tag (RealTime frame_id body))
      → ChoosesIn setup Holds (frame_bytes (carrying destination identity.mac tag (RealTime frame_id body)))
  data_says destination tag frame_id body can =
      uncalled_chooses setup Holds (heard_of setup.plan.controller (frame_bytes (carrying destination identity.mac tag (RealTime frame_id body))))
      (laws.alone setup.plan.controller destination identity.mac tag frame_id body can.destination can.source can.tag)

  answer_says : (caller : Caller) (address : List ℕ) (answer : Answered) → Chooses setup Holds (Responds answer)
      → IsSendable identity (CallAnswer caller address answer) → ChoosesIn setup Holds (response_frame identity caller address answer)
  answer_says caller address answer fit can =
      let called : IsCaller caller = record { mac = can.0.destination; endpoint = can.0.content.1 } in
      subst (Chooses setup Holds) (sym (laws.response setup.plan.controller identity caller address answer device called can.0.content.0.0 can.1))
      (reported_chooses setup Holds caller.mac caller.endpoint (Responds answer) fit)

  ready_says : (address : List ℕ) (ready : Ready) → IsSizedReady ready → IsSendable identity (ReadyCall address ready)
      → ChoosesIn setup Holds (ready_frame identity address ready)
  ready_says address ready sized can =
      subst (Chooses setup Holds) (sym (laws.ready setup.plan.controller identity address ready device can.destination can.content.1.0 can.content.0.0
      (laws.ready_can ready sized.header sized.interface sized.uuid)))
      (reported_chooses setup Holds ready.partner.mac (calls_at ready.partner.address)
      (Calls (record { mac = identity.mac; endpoint = calls_at address }) (ready_call ready)) tt)

  plug_says : (address : List ℕ) (ready : PlugReady) → IsSizedPlug ready → IsSendable identity (PlugReadyCall address ready)
      → ChoosesIn setup Holds (plug_ready_frame identity address ready)
  plug_says address ready sized can =
      subst (Chooses setup Holds) (sym (laws.plug setup.plan.controller identity address ready device can.destination can.content.1.0 can.content.0.0
      (laws.plug_can ready sized.header sized.interface sized.uuid)))
      (reported_chooses setup Holds ready.partner.mac (calls_at ready.partner.address)
      (Calls (record { mac = identity.mac; endpoint = calls_at address }) (plug_ready_call ready)) tt)

  pub message_says : (message : Sent) → IsSaying setup Holds message → IsSendable identity message → ChoosesIn setup Holds (bytes_of identity message)
  message_says (IdentifyAnswer asker running xid) says can = data_says asker None _ _ can
  message_says (GetAnswer asker running alias request) says can = data_says asker None _ _ can
  message_says (SetAnswer asker request answers) says can = data_says asker None _ _ can
  message_says (ArpReply asker address target) says can =
      subst (Chooses setup Holds) (sym (packets setup.plan.controller identity asker address target device can.destination can.content.0.1 can.content.1)) tt
  message_says (CallAnswer caller address answer) says can = answer_says caller address answer says can
  message_says (Again frame) says can = says
  message_says (ReadyCall address ready) says can = ready_says address ready says can
  message_says (PlugReadyCall address ready) says can = plug_says address ready says can
  message_says (Ends farewell) says can = data_says farewell.initiator (Some farewell.tag) _ _ can
  message_says (Exchanges route frame) says can = data_says route.partner (Some _) _ _ can

  pub all_say : (sent : List Sent) → AllByRecursion (IsSaying setup Holds) sent → AreSendable identity sent
      → AllByRecursion (ChoosesIn setup Holds) (map (bytes_of identity) sent)
  all_say [] says can = tt
  all_say (message ∷ sent) says can = (message_says message says.0 can.0, all_say sent says.1 can.1)
