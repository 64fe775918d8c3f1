-- Which messages of a controller are frames of cyclic data, by their octets, and what these carry.
use Rattle.std.proofs.Common.{◌≡◌, ◌≤◌, ◌<◌, ◌++◌, ◌==◌, ℕ, Bool, true, false, cond, List, [], ◌∷◌, length, map, take, Some, refl, sym, ap, ◌∙◌, append_assoc, arith}
use Rattle.std.specs.List.{AllByRecursion}
use Rattle.std.proofs.Math.Seq.{take-append_seam}
use Rattle.std.proofs.lemmas.Bool.{and_from, and_parts, eq-eqb, eqb-true}
use Rattle.std.proofs.lemmas.List.FromFn.{length-map-range_with_len}
use Rattle.pn_values.specs.declared.mac.Mac.{Mac}
use Rattle.frame_codec.specs.FrameId.{is_cyclic}
use Rattle.frame_codec.specs.Meaning.{RealTime}
use Rattle.frame_codec.specs.Frame.{padding_of}
use Rattle.frame_codec.specs.Sendable.{CanBeSent, IsMac, carrying}
use Rattle.pn_alarms.specs.declared.pdu.PduType.{PduType}
use Rattle.pn_alarms.specs.declared.pdu.PduType.TheVariants as pdu
use Rattle.pn_alarms.specs.Format.{frame_id_of}
use Rattle.diagnosis.specs.declared.reports.priority.Priority.{Priority}
use Rattle.diagnosis.specs.declared.reports.priority.Priority.TheVariants.{High, Low}
use Rattle.diagnosis.specs.reports.Priority.{frame_id_at}
use Rattle.cyclic_data.specs.declared.exchange.route.Route.{Route}
use Rattle.cyclic_data.specs.declared.tail.CyclicTail.{CyclicTail}
use Rattle.cyclic_data.specs.Image.{Shown, octet_at as image_octet, octets_of}
use Rattle.cyclic_data.specs.Status.{in_order}
use Rattle.cyclic_data.specs.Tail.{cyclic_bytes, cyclic_frame, cyclic_tail}
use Rattle.cyclic_data.specs.exchange.Frames.{body_at, tail_at}
use Rattle.controller_messages.specs.declared.request.Request.{Request}
use Rattle.controller_messages.specs.declared.request.Request.TheVariants as asks
use Rattle.controller_messages.specs.declared.setup.Setup.{Setup}
use Rattle.controller_messages.specs.Sent.{Sent, Requests, Accesses, Parametrizes, Agrees, Cycles, Confirms, Replies, Ends, bytes_of, identify_multicast}
use Rattle.field_words.specs.Cyclic.{IsCyclic, counter_in, data_in, frame_id_in, is_cyclic_id}
use Rattle.field_words.specs.Octets.{type_place, word_at}
use Rattle.end_laws.proofs.HearingChoices.{cyclic_small}
use Rattle.end_laws.proofs.HearingGiven.{DataIsRead}
use Rattle.end_laws.proofs.SendingSizes.{body_few}
use Rattle.end_laws.proofs.CyclicPlaces.{IsRead, read_is_there}
use Rattle.end_laws.proofs.CyclicSending.{datagram_alone, meaning_by, plain_alone, provided, tagged_alone}
use Rattle.both_ends.proofs.ExchangeOutputsBrings.{IsAddressed, IsWay}
use Rattle.exchange_law.specs.Interval.{cyclic_in, is_cyclic_frame}

-- ---- frames that are none

no_frame : (frame : List ℕ) → (IsCyclic frame → ⊥) → is_cyclic_frame frame ≡ false
no_frame frame none = by_test (is_cyclic_frame frame) refl
  where
    by_test : (b : Bool) → is_cyclic_frame frame ≡ b → b ≡ false
    by_test false is = refl
    by_test true is =
        let parts = and_parts (word_at (type_place frame) frame == 0x8892) (is_cyclic_id (frame_id_in frame)) is in
        absurd (none (record { type = eqb-true (word_at (type_place frame) frame) 0x8892 parts.0; id = parts.1 }))

multicast_six : length identify_multicast.octets ≡ 6
unfolding identify_multicast
multicast_six = refl

alarm_apart : (priority : Priority) (kind : PduType) → is_cyclic (frame_id_at priority kind) ≡ false
alarm_apart Low kind = refl
alarm_apart High pdu.Data = refl
alarm_apart High pdu.Nack = refl
alarm_apart High pdu.Ack = refl
alarm_apart High pdu.Error = refl

alarm_small : (priority : Priority) (kind : PduType) → frame_id_at priority kind < 65536
alarm_small Low kind = omega arith
alarm_small High pdu.Data = omega arith
alarm_small High pdu.Nack = omega arith
alarm_small High pdu.Ack = omega arith
alarm_small High pdu.Error = omega arith

-- A message that is no frame of outputs.
abbrev pub IsOther : Sent → Type 0
IsOther (Cycles route shown counter) = ⊥
IsOther message = Unit {0}

octets_length : (shown : Shown) → length (octets_of shown) ≡ shown.data_length
unfolding octets_of
octets_length shown = length-map-range_with_len (image_octet shown.cells) 0 shown.data_length

body_front : (octets : List ℕ) (tail : CyclicTail) (padding : List ℕ) → take (length octets) (cyclic_bytes octets tail [] ++ padding) ≡ octets
unfolding cyclic_frame
body_front octets tail padding =
    ap (λ (l : List ℕ). take (length octets) l) (append_assoc octets (cyclic_tail.write tail []) padding)
    ∙ take-append_seam octets (cyclic_tail.write tail [] ++ padding)

module _ (setup : Setup) (six : IsMac setup.plan.controller.mac) where
  abbrev own : Mac
  own = setup.plan.controller.mac

  request_none : (device : Mac) (request : Request) → IsMac device → IsCyclic (bytes_of setup (Requests device request)) → ⊥
  request_none device asks.Identify one cyclic = plain_alone identify_multicast own multicast_six six 0xFEFE _ (omega arith) refl cyclic
  request_none device asks.Address one cyclic = plain_alone device own one six 0xFEFD _ (omega arith) refl cyclic
  request_none device asks.Connect one cyclic = datagram_alone device own one six _ _ _ cyclic
  request_none device (asks.Write number) one cyclic = datagram_alone device own one six _ _ _ cyclic
  request_none device (asks.WriteAfter number tries) one cyclic = datagram_alone device own one six _ _ _ cyclic
  request_none device asks.PrmEnd one cyclic = datagram_alone device own one six _ _ _ cyclic
  request_none device (asks.PrmEndAfter tries) one cyclic = datagram_alone device own one six _ _ _ cyclic
  request_none device (asks.Release sequence) one cyclic = datagram_alone device own one six _ _ _ cyclic

  other_none : (message : Sent) → IsOther message → IsAddressed message → IsCyclic (bytes_of setup message) → ⊥
  other_none (Requests device request) other one cyclic = request_none device request one cyclic
  other_none (Accesses device request octets) other one cyclic = datagram_alone device own one six _ _ _ cyclic
  other_none (Parametrizes device request) other one cyclic = datagram_alone device own one six _ _ _ cyclic
  other_none (Agrees caller answer) other one cyclic = datagram_alone caller.mac own one six _ _ _ cyclic
  other_none (Cycles route shown counter) other way cyclic = other
  other_none (Confirms route priority header ack) other way cyclic =
      tagged_alone route.partner own way.partner six _ (frame_id_at priority header.kind) _ (alarm_small priority header.kind) (alarm_apart priority header.kind) cyclic
  other_none (Replies route priority header) other way cyclic =
      tagged_alone route.partner own way.partner six _ (frame_id_at priority header.kind) _ (alarm_small priority header.kind) (alarm_apart priority header.kind) cyclic
  other_none (Ends route header reason) other way cyclic =
      tagged_alone route.partner own way.partner six _ (frame_id_of pdu.Error) _ (alarm_small High pdu.Error) (alarm_apart High pdu.Error) cyclic

  -- ---- lists of messages

  abbrev pub frames_of : List Sent → List (List ℕ)
  frames_of sent = map (bytes_of setup) sent

  -- Messages that are no frames of outputs, before others.
  pub last_in : (first last : List Sent) → AllByRecursion IsOther first → AllByRecursion IsAddressed first → cyclic_in (frames_of (first ++ last)) ≡ cyclic_in (frames_of last)
  last_in [] last others to = refl
  last_in (message ∷ first) last others to =
      ap (λ (b : Bool). cond b (bytes_of setup message ∷ cyclic_in (frames_of (first ++ last))) (cyclic_in (frames_of (first ++ last))))
      (no_frame (bytes_of setup message) (other_none message others.0 to.0))
      ∙ last_in first last others.1 to.1

  pub none_in : (sent : List Sent) → AllByRecursion IsOther sent → AllByRecursion IsAddressed sent → cyclic_in (frames_of sent) ≡ []
  none_in [] others to = refl
  none_in (message ∷ sent) others to =
      ap (λ (b : Bool). cond b (bytes_of setup message ∷ cyclic_in (frames_of sent)) (cyclic_in (frames_of sent)))
      (no_frame (bytes_of setup message) (other_none message others.0 to.0))
      ∙ none_in sent others.1 to.1

  -- ---- a frame of outputs

  module _ (data_read : DataIsRead) (route : Route) (shown : Shown) (counter : ℕ) (way : IsWay route) (id : is_cyclic_id route.sent_id ≡ true) (few : shown.data_length ≤ 1440)
      (small : counter < 65536) where
    abbrev frame : List ℕ
    frame = bytes_of setup (Cycles route shown counter)

    abbrev body : List ℕ
    body = body_at in_order shown counter ++ padding_of (meaning_by own route in_order shown counter)

    id_few : route.sent_id < 65536
    id_few = let least = cyclic_small route.sent_id id in omega (arith, least)

    can : CanBeSent (meaning_by own route in_order shown counter)
    can = record { destination = way.partner; source = six; tag = way.sent_tag; content = (id_few, body_few shown counter few) }

    it : IsRead frame (carrying route.partner own (Some route.sent_tag) (RealTime route.sent_id body)) route.sent_id body
    it = read_is_there frame (carrying route.partner own (Some route.sent_tag) (RealTime route.sent_id body)) route.sent_id body
        (data_read route.partner own (Some route.sent_tag) route.sent_id (body_at in_order shown counter) can) refl

    pub is_one : is_cyclic_frame frame ≡ true
    is_one =
        and_from (word_at (type_place frame) frame == 0x8892) (is_cyclic_id (frame_id_in frame)) (eq-eqb (word_at (type_place frame) frame) 0x8892 it.type)
        (ap is_cyclic_id it.frame_id ∙ id)

    pub data_is : data_in shown.data_length frame ≡ octets_of shown
    data_is =
        ap (λ (l : List ℕ). take shown.data_length l) it.rest
        ∙ (ap (λ (n : ℕ). take n body) (sym (octets_length shown))
        ∙ body_front (octets_of shown) (tail_at in_order counter) (padding_of (meaning_by own route in_order shown counter)))

    pub counter_is : counter_in shown.data_length frame ≡ counter
    counter_is = (provided data_read own route in_order shown counter can small).counter
