-- What a device hears of the frames that are for it, and of those that are not.
use Rattle.std.proofs.Common.{◌≡◌, ◌⊎◌, inl, inr, ◌+◌, ◌≤◌, ◌==◌, ◌&&◌, ◌||◌, ℕ, Bool, true, false, nat_eq, List, length, take, drop, Some, Result, Ok, Err, refl, sym, ap, subst, ◌∙◌, arith}
use Rattle.std.proofs.lemmas.Bool.{and_parts, cond-false, cond-true, cond_both, eqb-true, or_cases, or_from, or_left, or_right}
use Rattle.std.proofs.lemmas.List.{length-drop}
use Rattle.std.specs.Cmp.Lexicographic.{pointwise}
use Rattle.pn_values.specs.declared.mac.Mac.{Mac}
use Rattle.pn_values.specs.declared.identity.Identity.{Identity}
use Rattle.frame_codec.specs.declared.arp.Arp.{Arp}
use Rattle.frame_codec.specs.declared.fault.FrameFault.{FrameFault}
use Rattle.frame_codec.specs.declared.udp.Caller.{Caller}
use Rattle.frame_codec.specs.Calls.{call_port}
use Rattle.frame_codec.specs.FrameId.{is_alarm, is_cyclic}
use Rattle.frame_codec.specs.Frame.{content_under, datagram, frame_of}
use Rattle.frame_codec.specs.Meaning.{ArpPacket, Content, Meaning, RealTime, UdpDatagram}
use Rattle.dcp_core.specs.declared.request.DcpFault.{DcpFault}
use Rattle.dcp_core.specs.declared.request.Service.{Service}
use Rattle.dcp_core.specs.declared.request.Service.TheVariants.{Get, Set, Identify}
use Rattle.dcp_core.specs.Format.{frame_id_of, id_of}
use Rattle.dcp_core.specs.Reading.{request_of}
use Rattle.dcp_core.specs.Request.{Asked}
use Rattle.device_frames.specs.Heard.{Asks, Elsewhere, Heard, Reported, Resolves, Said, Unreadable, broadcast, heard_content, heard_frame, heard_request, identify_multicast, is_own, is_taken, said_by}
use Rattle.octets_law.proofs.Datagrams.{kind_under}
use Rattle.octets_law.proofs.EventSteps.{arp_type, datagram_type}
use Rattle.field_words.specs.Octets.{octet_at, part_at, type_place, word_at}
use Rattle.end_laws.proofs.CyclicAccepting.{octets_same}
use Rattle.end_laws.proofs.CyclicPlaces.{mac_of, read_is_there, there_is_read}
use Rattle.answers_law.specs.Requests.{Block, IsRequest, broadcast_address, data_in, frame_id_in, identify_address, packet, pdu}
use Rattle.answers_law.proofs.Tests.{differ, no_false, test_same}
use Rattle.answers_law.proofs.Opened.{open_again, open_takes}
use Rattle.answers_law.proofs.Packets.{IsPacket, arp_there, target_there}
use Rattle.answers_law.proofs.Pdus.{IsFor, asked_at, listed, pdu_again, pdu_takes}

-- ---- which requests reach a device

-- A request of a service with this destination is one that the device accepts.
abbrev pub Reaches : Identity → List ℕ → Service → Type 0
Reaches identity to Get = to ≡ identity.mac.octets
Reaches identity to Set = to ≡ identity.mac.octets
Reaches identity to Identify = (to ≡ identity.mac.octets) ⊎ (to ≡ identify_address)

taken_by : (identity : Identity) (to : Mac) (service : Service) → Reaches identity to.octets service → is_taken identity to (frame_id_of service) ≡ true
taken_by identity to Get is = or_left (is_own identity to) _ (test_same to.octets identity.mac.octets is)
taken_by identity to Set is = or_left (is_own identity to) _ (test_same to.octets identity.mac.octets is)
taken_by identity to Identify (inl is) = or_left (is_own identity to) _ (test_same to.octets identity.mac.octets is)
taken_by identity to Identify (inr is) = or_right (is_own identity to) _ (test_same to.octets identify_address is)

or_none : (a : Bool) → (a || false) ≡ true → a ≡ true
or_none true is = refl
or_none false is = is

reached_by : (identity : Identity) (to : Mac) (service : Service) → is_taken identity to (frame_id_of service) ≡ true → Reaches identity to.octets service
reached_by identity to Get is = octets_same to.octets identity.mac.octets (or_none (is_own identity to) is)
reached_by identity to Set is = octets_same to.octets identity.mac.octets (or_none (is_own identity to) is)
reached_by identity to Identify is = elim (or_cases (is_own identity to) (pointwise nat_eq to.octets identify_multicast) is) [
  | inl own ↦ inl (octets_same to.octets identity.mac.octets own)
  | inr group ↦ inr (octets_same to.octets identify_address group)
]

none_taken : (first own second cast : Bool) → own ≡ false → cast ≡ false → ((first && own) || (second && (own || cast))) ≡ false
none_taken first own second cast a b = rw (a, b) (both_none first second)
  where
    both_none : (first second : Bool) → ((first && false) || (second && (false || false))) ≡ false
    both_none true true = refl
    both_none true false = refl
    both_none false true = refl
    both_none false false = refl

no_own : (own other : Bool) → own ≡ false → (own && other) ≡ false
no_own own other is = ap (λ (b : Bool). b && other) is

-- A FrameID that is not one of alarms.
no_alarm_id : (id : ℕ) → (id ≡ 0xFC01 → ⊥) → (id ≡ 0xFE01 → ⊥) → is_alarm id ≡ true → ⊥
no_alarm_id id high low is = elim (or_cases (id == 0xFC01) (id == 0xFE01) is) [
  | inl e ↦ high (eqb-true id 0xFC01 e)
  | inr e ↦ low (eqb-true id 0xFE01 e)
]

module _ (identity : Identity) (frame : List ℕ) where
  abbrev pub source_of : Mac
  source_of = mac_of (part_at 6 6 frame)

  -- ---- requests of DCP

  -- A request that is there is heard.
  pub request_heard : (service : Service) (blocks : List Block) → IsRequest (frame_id_of service) (id_of service) frame → Reaches identity (take 6 frame) service
      → listed service (data_in frame) ≡ Some blocks
      → heard_frame identity (frame_of frame) ≡ Asks source_of (asked_at (frame_id_of service) (pdu frame) service blocks)
  request_heard service blocks is to there =
      let destination = mac_of (take 6 frame) in
      let id = frame_id_of service in
      let cut = length-drop (type_place frame + 4) frame in
      let opened = there_is_read frame is.ether_type (omega (arith, is.whole, cut)) is.short in
      let for : IsFor service id (octet_at 0 (pdu frame)) (octet_at 1 (pdu frame)) = record { frame_is = refl; id_is = is.service_id; type_is = is.service_type } in
      ap (λ (r : Result Meaning FrameFault). heard_frame identity r) opened.is
      ∙ (ap (λ (n : ℕ). heard_content identity destination source_of (RealTime n (pdu frame))) is.frame_id
      ∙ (cond-true (is_taken identity destination id) _ _ (taken_by identity destination service to)
      ∙ ap (λ (r : Result Asked DcpFault). heard_request source_of r) (pdu_again id (pdu frame) service blocks for is.whole there)))

  module _ (Holds : Heard → Type 0) (unreadable : Holds Unreadable) (elsewhere : Holds Elsewhere) where
    -- What holds of each request that is there holds of a frame of DCP.
    module _ (type : word_at (type_place frame) frame ≡ 0x8892) (no_cyclic : is_cyclic (frame_id_in frame) ≡ false)
        (no_high : frame_id_in frame ≡ 0xFC01 → ⊥) (no_low : frame_id_in frame ≡ 0xFE01 → ⊥)
        (asks : (source : Mac) (request : Asked) (service : Service) (blocks : List Block) → request.service ≡ service → IsRequest (frame_id_of service) (id_of service) frame
        → Reaches identity (take 6 frame) service → listed service (data_in frame) ≡ Some blocks → request ≡ asked_at (frame_id_of service) (pdu frame) service blocks
        → Holds (Asks source request)) where
      by_request : (meaning : Meaning) (id : ℕ) (body : List ℕ) → frame_id_in frame ≡ id → pdu frame ≡ body → take 6 frame ≡ meaning.destination.octets
          → length frame ≤ type_place frame + 1502 → is_taken identity meaning.destination id ≡ true → (read : Result Asked DcpFault) → request_of id body ≡ read
          → Holds (heard_request meaning.source read)
      by_request meaning id body is_id is_body to short taken (Err fault) read = unreadable
      by_request meaning id body is_id is_body to short taken (Ok asked) read =
          let it = pdu_takes id body asked read in
          let service = it.service in
          let reaches : Reaches identity meaning.destination.octets service =
          reached_by identity meaning.destination service (ap (λ (n : ℕ). is_taken identity meaning.destination n) (sym it.for.frame_is) ∙ taken) in
          let there : IsRequest (frame_id_of service) (id_of service) frame = record {
            ether_type = type;
            frame_id = is_id ∙ it.for.frame_is;
            service_id = ap (λ (l : List ℕ). octet_at 0 l) is_body ∙ it.for.id_is;
            service_type = ap (λ (l : List ℕ). octet_at 1 l) is_body ∙ it.for.type_is;
            whole = subst (λ (l : List ℕ). 10 + word_at 8 l ≤ length l) (sym is_body) it.long;
            short = short;
          } in
          asks meaning.source asked service it.blocks (ap (λ (a : Asked). a.service) it.is) there (subst (λ (l : List ℕ). Reaches identity l service) (sym to) reaches)
          (ap (λ (l : List ℕ). listed service (part_at 10 (word_at 8 l) l)) is_body ∙ it.there)
          (it.is ∙ (ap (λ (n : ℕ). asked_at n body service it.blocks) it.for.frame_is ∙ ap (λ (l : List ℕ). asked_at (frame_id_of service) l service it.blocks) (sym is_body)))

      by_content : (meaning : Meaning) → frame_of frame ≡ Ok meaning → (content : Content) → meaning.content ≡ content
          → Holds (heard_content identity meaning.destination meaning.source content)
      by_content meaning read (RealTime id body) is =
          let it = read_is_there frame meaning id body read is in
          let same : frame_id_in frame ≡ id = it.frame_id in
          cond_both (is_taken identity meaning.destination id) _ _ Holds (λ taken. by_request meaning id body same it.rest it.destination it.short taken (request_of id body) refl)
          (λ _. cond_both (is_own identity meaning.destination && is_alarm id) _ _ Holds
          (λ alarm. absurd (no_alarm_id id (λ e. no_high (same ∙ e)) (λ e. no_low (same ∙ e)) (and_parts (is_own identity meaning.destination) (is_alarm id) alarm).1))
          (λ _. cond_both (is_own identity meaning.destination && is_cyclic id) _ _ Holds
          (λ cyclic. absurd (no_false (sym no_cyclic ∙ (ap is_cyclic same ∙ (and_parts (is_own identity meaning.destination) (is_cyclic id) cyclic).1)))) (λ _. elsewhere)))
      by_content meaning read (ArpPacket packet) is =
          let it = open_takes frame meaning read in
          let other = arp_type (word_at (type_place frame) frame) (drop (type_place frame + 2) frame) meaning.content packet is (kind_under (word_at (type_place frame) frame) (drop (type_place frame + 2) frame) meaning.content it.content) in
          absurd (omega (arith, type, other))
      by_content meaning read (UdpDatagram from to body) is =
          let it = open_takes frame meaning read in
          let other = datagram_type (word_at (type_place frame) frame) (drop (type_place frame + 2) frame) meaning.content from to body is (kind_under (word_at (type_place frame) frame) (drop (type_place frame + 2) frame) meaning.content it.content) in
          absurd (let e = other.0 in omega (arith, type, e))

      by_frame : (found : Result Meaning FrameFault) → frame_of frame ≡ found → Holds (heard_frame identity found)
      by_frame (Ok meaning) is = by_content meaning is meaning.content refl
      by_frame (Err fault) is = unreadable

      pub dcp_holds : Holds (heard_frame identity (frame_of frame))
      dcp_holds = by_frame (frame_of frame) refl

    -- What holds of each packet of ARP that is there.
    module _ (type : word_at (type_place frame) frame ≡ 0x0806)
        (resolves : (source : Mac) (asked : Arp) → IsPacket (packet frame) asked → (take 6 frame ≡ identity.mac.octets) ⊎ (take 6 frame ≡ broadcast_address)
        → length frame ≤ type_place frame + 1502 → Holds (Resolves source asked)) where
      arp_content : (meaning : Meaning) → frame_of frame ≡ Ok meaning → (content : Content) → meaning.content ≡ content
          → Holds (heard_content identity meaning.destination meaning.source content)
      arp_content meaning read (RealTime id body) is =
          let it = read_is_there frame meaning id body read is in
          absurd (let e = it.type in omega (arith, type, e))
      arp_content meaning read (ArpPacket asked) is =
          let it = open_takes frame meaning read in
          let there = arp_there (packet frame) asked
          (subst (λ (n : ℕ). (content_under n).Spells (packet frame) (ArpPacket asked)) type (subst (λ (c : Content). (content_under (word_at (type_place frame) frame)).Spells (packet frame) c) is it.content)) in
          cond_both (is_own identity meaning.destination || pointwise nat_eq meaning.destination.octets broadcast) _ _ Holds
          (λ goes. resolves meaning.source asked there (elim (or_cases (is_own identity meaning.destination) (pointwise nat_eq meaning.destination.octets broadcast) goes) [
            | inl own ↦ inl (it.destination ∙ octets_same meaning.destination.octets identity.mac.octets own)
            | inr all ↦ inr (it.destination ∙ octets_same meaning.destination.octets broadcast_address all)
          ]) it.short) (λ _. elsewhere)
      arp_content meaning read (UdpDatagram from to body) is =
          let it = open_takes frame meaning read in
          let other = datagram_type (word_at (type_place frame) frame) (packet frame) meaning.content from to body is (kind_under (word_at (type_place frame) frame) (packet frame) meaning.content it.content) in
          absurd (let e = other.0 in omega (arith, type, e))

      arp_frame : (found : Result Meaning FrameFault) → frame_of frame ≡ found → Holds (heard_frame identity found)
      arp_frame (Ok meaning) is = arp_content meaning is meaning.content refl
      arp_frame (Err fault) is = unreadable

      pub arp_holds : Holds (heard_frame identity (frame_of frame))
      arp_holds = arp_frame (frame_of frame) refl

    -- What holds of each datagram to the address that is at its place.
    module _ (type : word_at (type_place frame) frame ≡ 0x0800)
        (reports : (caller : Caller) (address : List ℕ) (said : Said) → part_at 16 4 (packet frame) ≡ address → Holds (Reported caller address said)) where
      ip_content : (meaning : Meaning) → frame_of frame ≡ Ok meaning → (content : Content) → meaning.content ≡ content
          → Holds (heard_content identity meaning.destination meaning.source content)
      ip_content meaning read (RealTime id body) is =
          let it = read_is_there frame meaning id body read is in
          absurd (let e = it.type in omega (arith, type, e))
      ip_content meaning read (ArpPacket asked) is =
          let it = open_takes frame meaning read in
          let other = arp_type (word_at (type_place frame) frame) (packet frame) meaning.content asked is (kind_under (word_at (type_place frame) frame) (packet frame) meaning.content it.content) in
          absurd (omega (arith, type, other))
      ip_content meaning read (UdpDatagram from to body) is =
          let it = open_takes frame meaning read in
          let spelled = datagram_type (word_at (type_place frame) frame) (packet frame) meaning.content from to body is (kind_under (word_at (type_place frame) frame) (packet frame) meaning.content it.content) in
          cond_both (is_own identity meaning.destination && to.port == call_port) _ _ Holds
          (λ _. reports (record { mac = meaning.source; endpoint = from }) to.address (said_by body)
          (target_there (packet frame) from to body (subst (λ (c : Content). datagram.Spells (packet frame) c) is spelled.1))) (λ _. elsewhere)

      ip_frame : (found : Result Meaning FrameFault) → frame_of frame ≡ found → Holds (heard_frame identity found)
      ip_frame (Ok meaning) is = ip_content meaning is meaning.content refl
      ip_frame (Err fault) is = unreadable

      pub ip_holds : Holds (heard_frame identity (frame_of frame))
      ip_holds = ip_frame (frame_of frame) refl

    -- What holds of a frame with another EtherType.
    module _ (no_real_time : word_at (type_place frame) frame ≡ 0x8892 → ⊥) (no_arp : word_at (type_place frame) frame ≡ 0x0806 → ⊥)
        (no_internet : word_at (type_place frame) frame ≡ 0x0800 → ⊥) where
      unknown_content : (meaning : Meaning) → frame_of frame ≡ Ok meaning → (content : Content) → meaning.content ≡ content
          → Holds (heard_content identity meaning.destination meaning.source content)
      unknown_content meaning read (RealTime id body) is = absurd (no_real_time (read_is_there frame meaning id body read is).type)
      unknown_content meaning read (ArpPacket asked) is =
          let it = open_takes frame meaning read in
          absurd (no_arp (arp_type (word_at (type_place frame) frame) (packet frame) meaning.content asked is (kind_under (word_at (type_place frame) frame) (packet frame) meaning.content it.content)))
      unknown_content meaning read (UdpDatagram from to body) is =
          let it = open_takes frame meaning read in
          absurd (no_internet (datagram_type (word_at (type_place frame) frame) (packet frame) meaning.content from to body is (kind_under (word_at (type_place frame) frame) (packet frame) meaning.content it.content)).0)

      unknown_frame : (found : Result Meaning FrameFault) → frame_of frame ≡ found → Holds (heard_frame identity found)
      unknown_frame (Ok meaning) is = unknown_content meaning is meaning.content refl
      unknown_frame (Err fault) is = unreadable

      pub unknown_holds : Holds (heard_frame identity (frame_of frame))
      unknown_holds = unknown_frame (frame_of frame) refl

    -- What holds of a frame to other stations.
    module _ (other : take 6 frame ≡ identity.mac.octets → ⊥) (group : take 6 frame ≡ identify_address → ⊥) (all : take 6 frame ≡ broadcast_address → ⊥) where
      none_content : (meaning : Meaning) → frame_of frame ≡ Ok meaning → (content : Content) → Holds (heard_content identity meaning.destination meaning.source content)
      none_content meaning read content = by_case content
        where
          to : take 6 frame ≡ meaning.destination.octets
          to = (open_takes frame meaning read).destination

          own : is_own identity meaning.destination ≡ false
          own = differ meaning.destination.octets identity.mac.octets (λ e. other (to ∙ e))

          cast : pointwise nat_eq meaning.destination.octets identify_multicast ≡ false
          cast = differ meaning.destination.octets identify_address (λ e. group (to ∙ e))

          wide : pointwise nat_eq meaning.destination.octets broadcast ≡ false
          wide = differ meaning.destination.octets broadcast_address (λ e. all (to ∙ e))

          is_none : (heard : Heard) → heard ≡ Elsewhere → Holds heard
          is_none heard is = subst Holds (sym is) elsewhere

          by_case : (content : Content) → Holds (heard_content identity meaning.destination meaning.source content)
          by_case (RealTime id body) = is_none _ (cond-false (is_taken identity meaning.destination id) _ _
              (none_taken (id == 65277) (is_own identity meaning.destination) (id == 65278) (pointwise nat_eq meaning.destination.octets identify_multicast) own cast)
              ∙ (cond-false (is_own identity meaning.destination && is_alarm id) _ _ (no_own (is_own identity meaning.destination) (is_alarm id) own)
              ∙ cond-false (is_own identity meaning.destination && is_cyclic id) _ _ (no_own (is_own identity meaning.destination) (is_cyclic id) own)))
          by_case (ArpPacket asked) = is_none _ (cond-false (is_own identity meaning.destination || pointwise nat_eq meaning.destination.octets broadcast) _ _
              (or_from (is_own identity meaning.destination) (pointwise nat_eq meaning.destination.octets broadcast) own wide))
          by_case (UdpDatagram from to body) = is_none _ (cond-false (is_own identity meaning.destination && to.port == call_port) _ _
              (no_own (is_own identity meaning.destination) (to.port == call_port) own))

      none_frame : (found : Result Meaning FrameFault) → frame_of frame ≡ found → Holds (heard_frame identity found)
      none_frame (Ok meaning) is = none_content meaning is meaning.content
      none_frame (Err fault) is = unreadable

      pub none_holds : Holds (heard_frame identity (frame_of frame))
      none_holds = none_frame (frame_of frame) refl

  -- ---- a packet of ARP that is there is heard

  pub packet_heard : (asked : Arp) → word_at (type_place frame) frame ≡ 0x0806 → 28 ≤ length (packet frame) → length frame ≤ type_place frame + 1502
      → (content_under 0x0806).Spells (packet frame) (ArpPacket asked) → (take 6 frame ≡ identity.mac.octets) ⊎ (take 6 frame ≡ broadcast_address)
      → heard_frame identity (frame_of frame) ≡ Resolves source_of asked
  packet_heard asked type whole short spelled to =
      let cut = length-drop (type_place frame + 2) frame in
      let opened = open_again frame (ArpPacket asked) (omega (arith, whole, cut)) short (subst (λ (n : ℕ). (content_under n).Spells (packet frame) (ArpPacket asked)) (sym type) spelled) in
      let destination = mac_of (take 6 frame) in
      ap (λ (r : Result Meaning FrameFault). heard_frame identity r) opened.is
      ∙ cond-true (is_own identity destination || pointwise nat_eq destination.octets broadcast) _ _ (goes to)
    where
      goes : (take 6 frame ≡ identity.mac.octets) ⊎ (take 6 frame ≡ broadcast_address)
          → (is_own identity (mac_of (take 6 frame)) || pointwise nat_eq (take 6 frame) broadcast) ≡ true
      goes (inl own) = or_left (is_own identity (mac_of (take 6 frame))) _ (test_same (take 6 frame) identity.mac.octets own)
      goes (inr all) = or_right (is_own identity (mac_of (take 6 frame))) _ (test_same (take 6 frame) broadcast_address all)
