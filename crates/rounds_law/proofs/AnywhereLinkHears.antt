-- What a device hears in the messages of a controller that exchanges data.
use Rattle.std.proofs.Common.{◌≡◌, ◌⊎◌, inl, inr, ◌&&◌, ℕ, Bool, true, false, List, refl, sym, ap, subst}
use Rattle.std.specs.Prelude.{if◌then◌else◌}
use Rattle.pn_values.specs.declared.identity.Identity.{Identity}
use Rattle.pn_values.specs.declared.mac.Mac.{Mac}
use Rattle.frame_codec.specs.declared.udp.Caller.{Caller}
use Rattle.rpc_core.specs.Response.{Answered}
use Rattle.pn_alarms.specs.declared.message.Notice.TheVariants as notice
use Rattle.pn_alarms.specs.declared.pdu.Header.{Header}
use Rattle.pn_alarms.specs.declared.pdu.PduType.TheVariants as pdu
use Rattle.diagnosis.specs.declared.reports.priority.Priority.{Priority}
use Rattle.diagnosis.specs.declared.reports.priority.Priority.TheVariants.{High, Low}
use Rattle.cyclic_data.specs.Status.{in_order}
use Rattle.cyclic_data.specs.declared.exchange.route.Route.{Route}
use Rattle.device_frames.specs.Heard.{Said, Calls, Garbled, Responds, heard_of, heard_reply, is_own}
use Rattle.device_frames.specs.Heard.{Heard, Elsewhere, Reported, Cyclic, Alarms, LowReplies, LowConfirms}
use Rattle.controller_messages.specs.declared.setup.Setup.{Setup}
use Rattle.controller_messages.specs.Sent.{Sent, Accesses, Parametrizes, Agrees, Confirms, Cycles, Ends, Replies, Requests, bytes_of as controller_bytes}
use Rattle.end_laws.specs.hearing.Hearing.{comes, own_hears}
use Rattle.end_laws.specs.hearing.Stations.{IsSetup}
use Rattle.end_laws.specs.sending.Messages.{CanBeSent}
use Rattle.rounds_law.proofs.AnywhereLinkLaws.{ExchangeLaws}
use Rattle.rounds_law.proofs.AnywhereParts.{HasWay, IsOwn}

-- What is sent in an exchange under this route, but for the calls after a plug.
abbrev pub IsNoPlug : Route → Sent → Type 0
IsNoPlug route (Requests device request) = ⊥
IsNoPlug route (Accesses device request octets) = ⊥
IsNoPlug route (Parametrizes device request) = ⊥
IsNoPlug route (Agrees caller answer) = Unit {0}
IsNoPlug route (Cycles way shown counter) = way ≡ route
IsNoPlug route (Confirms way priority header ack) = Unit {0}
IsNoPlug route (Replies way priority header) = Unit {0}
IsNoPlug route (Ends way header reason) = Unit {0}

-- No call.
abbrev pub IsNoCall : Said → Type 0
IsNoCall (Calls call) = ⊥
IsNoCall (Responds response) = Unit {0}
IsNoCall Garbled = Unit {0}

-- What belongs to an exchange. A cyclic frame is one of the controller, under the FrameID of this route.
abbrev pub IsOfData : Setup → Route → Heard → Type 0
IsOfData setup route Elsewhere = Unit {0}
IsOfData setup route (Reported caller address said) = IsNoCall said
IsOfData setup route (Cyclic source frame_id body) = (source ≡ setup.plan.controller.mac) × (frame_id ≡ route.sent_id)
IsOfData setup route (Alarms source header message) = Unit {0}
IsOfData setup route (LowReplies source header message) = Unit {0}
IsOfData setup route (LowConfirms source header message) = Unit {0}
IsOfData setup route heard = ⊥

-- It is so whether the frame is for this device or not.
own_so : (setup : Setup) (route : Route) (heard : Heard) → IsOfData setup route heard → (own : Bool) → IsOfData setup route (if own then heard else Elsewhere)
own_so setup route heard is true = is
own_so setup route heard is false = tt

reported_so : (setup : Setup) (route : Route) (caller : Caller) (address : List ℕ) (response : Answered) (own port : Bool)
    → IsOfData setup route (if own && port then Reported caller address (Responds response) else Elsewhere)
reported_so setup route caller address response true true = tt
reported_so setup route caller address response true false = tt
reported_so setup route caller address response false port = tt

reply_so : (setup : Setup) (route : Route) (source : Mac) (priority : Priority) (header : Header) (number : ℕ)
    → IsOfData setup route (heard_reply source priority header (notice.Ack number))
reply_so setup route source High header number = tt
reply_so setup route source Low header number = tt

module _ (setup : Setup) (laws : ExchangeLaws setup) (good : IsSetup setup) (identity : Identity) (route : Route) where
  -- What was heard by a law, for this destination.
  heard_so : (octets : List ℕ) (destination : Mac) (heard : Heard) → heard_of identity (comes octets) ≡ own_hears identity destination heard
      → IsOfData setup route heard → IsOfData setup route (heard_of identity (comes octets))
  heard_so octets destination heard hears is = subst (IsOfData setup route) (sym hears) (own_so setup route heard is (is_own identity destination))

  -- A device with the address of the controller, which sends inputs as it sends outputs.
  abbrev as_device : Identity
  as_device = record identity { mac = setup.plan.controller.mac }

  message_so : (message : Sent) → CanBeSent setup message → HasWay setup message → IsNoPlug route message
      → IsOfData setup route (heard_of identity (comes (controller_bytes setup message)))
  message_so (Requests device request) can way is = absurd is
  message_so (Accesses device request octets) can way is = absurd is
  message_so (Parametrizes device request) can way is = absurd is
  message_so (Agrees caller answer) can way is =
      subst (IsOfData setup route) (sym (laws.agrees identity caller answer can.0 can.1))
      (reported_so setup route _ caller.endpoint.address answer (is_own identity caller.mac) _)
  message_so (Cycles sent shown counter) can way is =
      heard_so (controller_bytes setup (Cycles sent shown counter)) sent.partner _ (laws.cycles identity as_device sent in_order shown counter good.mac way can.1)
      (refl, ap (λ (r : Route). r.sent_id) is)
  message_so (Confirms sent High header ack) can way is =
      heard_so (controller_bytes setup (Confirms sent High header ack)) sent.partner _ (laws.confirms identity sent header ack way can.1 can.2 can.3) tt
  message_so (Confirms sent Low header ack) can way is =
      heard_so (controller_bytes setup (Confirms sent Low header ack)) sent.partner _ (laws.confirms_low identity sent header ack way can.1 can.2 can.3) tt
  message_so (Replies sent priority header) can way is = by_kind can.1
    where
      by_kind : (header.kind ≡ pdu.Ack) ⊎ (header.kind ≡ pdu.Nack)
          → IsOfData setup route (heard_of identity (comes (controller_bytes setup (Replies sent priority header))))
      by_kind (inl ack) =
          heard_so (controller_bytes setup (Replies sent priority header)) sent.partner _ (laws.acks identity sent priority header way ack can.2)
          (reply_so setup route setup.plan.controller.mac priority header header.ack_number)
      by_kind (inr nack) =
          heard_so (controller_bytes setup (Replies sent priority header)) sent.partner _ (laws.nacks identity sent priority header way nack can.2) tt
  message_so (Ends sent header reason) can way is =
      heard_so (controller_bytes setup (Ends sent header reason)) sent.partner _ (laws.ends identity sent header reason way can.1) tt

  pub own_is_of_data : (octets : List ℕ) → IsOwn setup (IsNoPlug route) octets → IsOfData setup route (heard_of identity (comes octets))
  own_is_of_data octets own =
      subst (λ (xs : List ℕ). IsOfData setup route (heard_of identity (comes xs))) (sym own.frame) (message_so own.message own.sendable own.way own.is)
