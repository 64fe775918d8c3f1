-- The octets of a frame that brings outputs, at fixed places.
use Rattle.std.proofs.Common.{◌≡◌, ◌+◌, ◌≤◌, ◌==◌, ◌&&◌, ◌||◌, ℕ, Bool, true, false, cond, nat_lt, nat_eq, List, length, take, drop, Option, Some, None, Result, Ok, Err, refl, ap, ◌∙◌, arith}
use Rattle.std.proofs.lemmas.Bool.{and_parts, cond_both, ltb-false}
use Rattle.std.specs.Cmp.Lexicographic.{pointwise}
use Rattle.wire.specs.Codec.{◌>>=◌}
use Rattle.pn_values.specs.declared.identity.Identity.{Identity}
use Rattle.pn_values.specs.declared.mac.Mac.{Mac}
use Rattle.frame_codec.specs.declared.fault.FrameFault.{FrameFault}
use Rattle.frame_codec.specs.Frame.{frame_of}
use Rattle.frame_codec.specs.FrameId.{is_alarm, is_cyclic}
use Rattle.frame_codec.specs.Meaning.{Content, Meaning, RealTime, ArpPacket, UdpDatagram}
use Rattle.frame_codec.specs.Calls.{call_port}
use Rattle.frame_codec.proofs.Frames.{frame_takes}
use Rattle.dcp_core.specs.declared.request.DcpFault.{DcpFault}
use Rattle.dcp_core.specs.Request.{Asked}
use Rattle.dcp_core.specs.Reading.{request_of}
use Rattle.cyclic_data.specs.declared.tail.CyclicTail.{CyclicTail}
use Rattle.cyclic_data.specs.declared.tail.ShortFrame.{ShortFrame}
use Rattle.cyclic_data.specs.Tail.{cyclic_frame, cyclic_of, cyclic_tail, short}
use Rattle.pn_alarms.specs.Message.{message_of}
use Rattle.relations.specs.declared.options.DeviceOptions.{DeviceOptions}
use Rattle.relations.specs.Numbers.{is_own_id}
use Rattle.device_frames.specs.declared.event.Event.TheVariants.{Frame}
use Rattle.device_frames.specs.Heard.{Heard, Cyclic, Elsewhere, Reported, Resolves, broadcast, heard_alarm, heard_content, heard_frame, heard_of, heard_request, is_own, is_taken, said_by}
use Rattle.controller_messages.specs.declared.setup.Setup.{Setup}
use Rattle.both_ends.specs.exchange.Shown.{brought_in, is_output, octets_in, zeros_for}
use Rattle.both_ends.proofs.ExchangeHeardAlarm.{alarm_holds}
use Rattle.octets_law.specs.Octets.{number, untagged}
use Rattle.octets_law.proofs.Bare.{bare_of}
use Rattle.octets_law.proofs.FrameSteps.{frame_timely}
use Rattle.octets_law.proofs.SetHeard.{IsTimely}

-- ---- the octets at the front of a body

abbrev read_if : ℕ → List ℕ → Bool → Result (List ℕ × List ℕ) ShortFrame
read_if n body b = cond b (Err short) (Ok (take n body, drop n body))

abbrev tail_behind : List ℕ → Result (CyclicTail × List ℕ) ShortFrame → Result ((List ℕ × CyclicTail) × List ℕ) ShortFrame
tail_behind octets read = read >>= λ y. Ok ((octets, y.0), y.1)

abbrev first_of : Result ((List ℕ × CyclicTail) × List ℕ) ShortFrame → Result (List ℕ × CyclicTail) ShortFrame
first_of read = read >>= λ x. Ok x.0

same_some : (one other : List ℕ) → ◌≡◌ {A = Option (List ℕ)} (Some one) (Some other) → one ≡ other
same_some one other e = cc

-- The octets of the data are the first ones of a body that is long enough.
pub record IsFront (n : ℕ) (body octets : List ℕ) : Type 0 where
  pub long : n ≤ length body
  pub are : take n body ≡ octets

by_tail : (n : ℕ) (body octets : List ℕ) → n ≤ length body → (read : Result (CyclicTail × List ℕ) ShortFrame)
    → octets_in (first_of (tail_behind (take n body) read)) ≡ Some octets → IsFront n body octets
by_tail n body octets long (Ok y) e = record { long = long; are = same_some (take n body) octets e }
by_tail n body octets long (Err fault) e = absurd cc

by_length : (n : ℕ) (body octets : List ℕ) (b : Bool) → nat_lt (length body) n ≡ b → octets_in (first_of (read_if n body b >>= λ x. tail_behind x.0 (cyclic_tail.read x.1))) ≡ Some octets → IsFront n body octets
by_length n body octets true is e = absurd cc
by_length n body octets false is e = by_tail n body octets (ltb-false (length body) n is) (cyclic_tail.read (drop n body)) e

pub front_of : (n : ℕ) (body octets : List ℕ) → octets_in (cyclic_of n body) ≡ Some octets → IsFront n body octets
unfolding cyclic_frame
front_of n body octets e = by_length n body octets (nat_lt (length body) n) refl e

-- ---- a frame that brings outputs

-- The frame without its tag: its EtherType, its FrameID, and the data of outputs from 16 on.
pub record IsCarrier (options : DeviceOptions) (n : ℕ) (frame octets : List ℕ) : Type 0 where
  pub ether_type : number 12 2 (untagged frame) ≡ 0x8892
  pub frame_id : is_own_id options (number 14 2 (untagged frame)) ≡ true
  pub body : List ℕ
  pub behind : (k : ℕ) → drop (16 + k) (untagged frame) ≡ drop k body
  pub front : IsFront n body octets

module _ (options : DeviceOptions) (setup : Setup) (identity : Identity) (octets : List ℕ) where
  abbrev IsBrought : Heard → Type 0
  IsBrought heard = brought_in options setup heard ≡ Some octets

  abbrev n : ℕ
  n = (zeros_for setup).data_length

  -- What is brought is brought by cyclic data.
  abbrev IsByCyclic : Mac → ℕ → List ℕ → Heard → Type 0
  IsByCyclic source id body heard = IsBrought heard → IsBrought (Cyclic source id body)

  request_none : (source : Mac) (read : Result Asked DcpFault) → IsBrought (heard_request source read) → ⊥
  request_none source (Ok request) e = cc
  request_none source (Err fault) e = cc

  alarm_none : (source : Mac) (id : ℕ) (body : List ℕ) → IsBrought (heard_alarm source id body (message_of body)) → ⊥
  alarm_none source id body =
      alarm_holds (λ heard. IsBrought heard → ⊥) (λ source header message e. cc) (λ source header message e. cc) (λ source header message e. cc) (λ e. cc)
      source id body (message_of body)

  real_time_brings : (destination source : Mac) (id : ℕ) (body : List ℕ) → IsByCyclic source id body (heard_content identity destination source (RealTime id body))
  real_time_brings destination source id body =
      cond_both (is_taken identity destination id) _ _ (IsByCyclic source id body) (λ _ e. absurd (request_none source (request_of id body) e))
      (λ _. cond_both (is_own identity destination && is_alarm id) _ _ (IsByCyclic source id body) (λ _ e. absurd (alarm_none source id body e))
      (λ _. cond_both (is_own identity destination && is_cyclic id) _ _ (IsByCyclic source id body) (λ _ e. e) (λ _ e. absurd cc)))

  arp_none : (b : Bool) (heard : Heard) → IsBrought (cond b heard Elsewhere) → (IsBrought heard → ⊥) → ⊥
  arp_none true heard e none = none e
  arp_none false heard e none = cc

  cyclic_brings : (source : Mac) (id : ℕ) (body : List ℕ) (b : Bool) → is_output options setup source id ≡ b
      → ◌≡◌ {A = Option (List ℕ)} (cond b (octets_in (cyclic_of n body)) None) (Some octets) → (is_own_id options id ≡ true) × IsFront n body octets
  cyclic_brings source id body true is e =
      ((and_parts (pointwise nat_eq source.octets setup.plan.controller.mac.octets) (is_own_id options id) is).1, front_of n body octets e)
  cyclic_brings source id body false is e = absurd cc

  carrier_of : (frame : List ℕ) (id : ℕ) (body : List ℕ) → IsTimely (untagged frame) id body → (is_own_id options id ≡ true) × IsFront n body octets → IsCarrier options n frame octets
  carrier_of frame id body it is = record {
    ether_type = it.ether_type;
    frame_id = ap (λ (n : ℕ). is_own_id options n) it.id ∙ is.0;
    body = body;
    behind = λ k. let place : 16 + k ≡ 6 + (6 + (2 + (2 + k))) = omega arith in ap (λ (m : ℕ). drop m (untagged frame)) place ∙ it.behind k;
    front = is.1;
  }

  by_content : (frame : List ℕ) (meaning : Meaning) → frame_of frame ≡ Ok meaning → (content : Content) → meaning.content ≡ content
      → IsBrought (heard_content identity meaning.destination meaning.source content) → IsCarrier options n frame octets
  by_content frame meaning read (RealTime id body) is e =
      carrier_of frame id body (frame_timely frame meaning id body (bare_of frame meaning (frame_takes frame meaning read).spelled) is)
      (cyclic_brings meaning.source id body (is_output options setup meaning.source id) refl (real_time_brings meaning.destination meaning.source id body e))
  by_content frame meaning read (ArpPacket packet) is e =
      absurd (arp_none (is_own identity meaning.destination || pointwise nat_eq meaning.destination.octets broadcast) (Resolves meaning.source packet) e (λ e. cc))
  by_content frame meaning read (UdpDatagram from to body) is e =
      absurd (arp_none (is_own identity meaning.destination && to.port == call_port) (Reported (record { mac = meaning.source; endpoint = from }) to.address (said_by body)) e (λ e. cc))

  by_frame : (frame : List ℕ) (read : Result Meaning FrameFault) → frame_of frame ≡ read → IsBrought (heard_frame identity read) → IsCarrier options n frame octets
  by_frame frame (Ok meaning) is e = by_content frame meaning is meaning.content refl e
  by_frame frame (Err fault) is e = absurd cc

  -- A frame that brings octets of outputs has these octets.
  pub carrier : (frame : List ℕ) → IsBrought (heard_of identity (Frame (record { items = frame }))) → IsCarrier options n frame octets
  unfolding heard_of
  carrier frame e = by_frame frame (frame_of frame) refl e
