-- A step of a device answers what it must, and is silent to all else.
use Rattle.std.proofs.Common.{◌≡◌, ◌⊎◌, ◌+◌, ◌<◌, ◌≤◌, ◌==◌, ◌&&◌, ℕ, true, false, not, nat_eq, nat_lt, List, [], ◌∷◌, length, take, get_or, Option, Some, None, refl, sym, ap, subst, ◌∙◌, arith}
use Rattle.std.proofs.lemmas.Bool.{and_from, and_left, and_parts, eqb-true, lt-ltb, ltb-true}
use Rattle.std.specs.Cmp.Lexicographic.{pointwise}
use Rattle.std.specs.List.{list_all}
use Rattle.arrayvec.specs.ArrayVec.{ArrayVec}
use Rattle.flash_model.specs.declared.flash.Flash.{Ghosts as Flash}
use Rattle.pn_values.specs.IpSuite.{is_zero}
use Rattle.pn_values.specs.declared.mac.Mac.{Mac}
use Rattle.frame_codec.specs.Arp.{operation_of}
use Rattle.frame_codec.specs.Frame.{frame_of}
use Rattle.frame_codec.specs.declared.arp.Arp.{Arp}
use Rattle.frame_codec.specs.declared.arp.ArpOperation.{ArpOperation}
use Rattle.frame_codec.specs.declared.arp.ArpOperation.TheVariants.{Reply}
use Rattle.dcp_core.specs.declared.request.Service.{Service}
use Rattle.dcp_core.specs.declared.request.Service.TheVariants.{Get, Set, Identify}
use Rattle.dcp_core.specs.Format.{frame_id_of, id_of}
use Rattle.dcp_core.specs.Request.{Asked}
use Rattle.device_frames.specs.declared.event.Event.{Event}
use Rattle.device_frames.specs.declared.event.Event.TheVariants.{Frame}
use Rattle.device_frames.specs.declared.note.Note.{Note}
use Rattle.device_frames.specs.Heard.{Asks, Elsewhere, Heard, Resolves, Unreadable, heard_frame, heard_of}
use Rattle.device_frames.specs.Sendable.{AreSendable}
use Rattle.device_core.specs.State.{State}
use Rattle.device_core.specs.Handled.{is_request, is_running}
use Rattle.device_core.specs.Machine.{heard_step}
use Rattle.device_core.specs.Steps.{Steps}
use Rattle.field_words.specs.Octets.{type_place, word_at}
use Rattle.end_laws.proofs.CyclicAccepting.{octets_same}
use Rattle.answers_law.specs.Requests.{Block, IsElsewhere, IsGet, IsIdentify, IsOfOther, IsRequest, IsResolve, IsSet, IsOtherThan, IsUnasked, Profinet, Resolution, Station, Unknown, broadcast_address, data_in, fits, packet, pdu}
use Rattle.answers_law.specs.Answers.{get_answer, identify_answer, resolve_answer}
use Rattle.answers_law.specs.Device.{AnswersSet, AreOctets, station_at}
use Rattle.answers_law.proofs.Tests.{by_test, differ, no_false, some_same, test_same}
use Rattle.answers_law.proofs.Heard.{Reaches, arp_holds, dcp_holds, ip_holds, none_holds, packet_heard, request_heard, unknown_holds}
use Rattle.answers_law.proofs.Packets.{IsPacket, arp_there, asking}
use Rattle.answers_law.proofs.Pdus.{asked_at, listed}
use Rattle.answers_law.proofs.Sends.{elsewhere_silent, get_sent, identify_sent, identify_silent, reported_silent, resolve_sent, resolve_silent, sent_at, set_sent, unreadable_silent}

asks_of : (operation : ArpOperation) (n : ℕ) → operation_of n ≡ Some operation → is_request operation ≡ true → n ≡ 1
asks_of operation n is asks = by_test (n == 1) (λ e. eqb-true n 1 e) (λ a. by_test (n == 2)
    (λ b. absurd (no_false (ap is_request (some_same _ _ (two_is a b ∙ is)) ∙ asks))) (λ b. absurd (let e = none_is a b ∙ is in cc)))
  where
    two_is : (n == 1) ≡ false → (n == 2) ≡ true → (let o : Option ArpOperation = Some Reply in o) ≡ operation_of n
    two_is a b = rw (a, b) refl

    none_is : (n == 1) ≡ false → (n == 2) ≡ false → (let o : Option ArpOperation = None in o) ≡ operation_of n
    none_is a b = rw (a, b) refl

module _ {F : Type 0} {S : ℕ} (as_flash : Flash F S) (old new : State F) (event : Event) (sent : List (List ℕ)) (said : Note)
    (steps : Steps as_flash old (heard_of old.station.identity event) sent said new) (bytes : ArrayVec ℕ) (is : event ≡ Frame bytes) where
  abbrev frame : List ℕ
  frame = bytes.items

  abbrev has : Station
  has = station_at old.station old.live

  abbrev Gone : Heard → Type 0
  Gone heard = sent_at steps.outcomes old.station old.live heard ≡ []

  heard_is : heard_of old.station.identity event ≡ heard_frame old.station.identity (frame_of frame)
  unfolding heard_of
  heard_is = ap (λ (e : Event). heard_of old.station.identity e) is

  sent_is : sent ≡ sent_at steps.outcomes old.station old.live (heard_frame old.station.identity (frame_of frame))
  sent_is = steps.frames ∙ ap (λ (h : Heard). sent_at steps.outcomes old.station old.live h) heard_is

  silent : Gone (heard_frame old.station.identity (frame_of frame)) → sent ≡ []
  silent gone = sent_is ∙ gone

  unreadable : Gone Unreadable
  unreadable = unreadable_silent steps.outcomes old.station old.live

  elsewhere : Gone Elsewhere
  elsewhere = elsewhere_silent steps.outcomes old.station old.live

  -- ---- silence

  pub elsewhere_at : IsElsewhere has frame → sent ≡ []
  elsewhere_at it = silent (none_holds old.station.identity frame Gone unreadable elsewhere it.other it.group it.all)

  pub of_other_at : IsOfOther has frame → sent ≡ []
  of_other_at it = silent (ip_holds old.station.identity frame Gone unreadable elsewhere it.ether_type (λ caller address what at.
      reported_silent steps.outcomes old.station old.live caller address what
      (and_left (pointwise nat_eq address old.live.values.running.suite.address) _ (differ address old.live.values.running.suite.address (λ e. it.target (at ∙ e))))))

  module _ (it : IsUnasked has frame) where
    dcp_gone : (source : Mac) (request : Asked) (service : Service) (blocks : List Block) → request.service ≡ service → IsRequest (frame_id_of service) (id_of service) frame
        → Reaches old.station.identity (take 6 frame) service → listed service (data_in frame) ≡ Some blocks → request ≡ asked_at (frame_id_of service) (pdu frame) service blocks
        → Gone (Asks source request)
    dcp_gone source request Get blocks same there to found are = absurd (it.get blocks (record { is = there; to = to; there = found }))
    dcp_gone source request Set blocks same there to found are = absurd (it.set blocks (record { is = there; to = to; there = found }))
    dcp_gone source request Identify blocks same there to found are =
        subst (λ (r : Asked). Gone (Asks source r)) (sym are) (identify_silent steps.outcomes old.station old.live frame 0xFEFE blocks source
        (by_test (nat_lt 0 (length blocks) && list_all (fits has) blocks) (λ fit.
        let parts = and_parts (nat_lt 0 (length blocks)) (list_all (fits has) blocks) fit in
        absurd (it.identify (record { is = there; to = to; blocks = blocks; there = found; some = ltb-true 0 (length blocks) parts.0; fit = parts.1 }))) (λ fails. fails)))

    arp_gone : (type : word_at (type_place frame) frame ≡ 0x0806) (source : Mac) (asked : Arp) → IsPacket (packet frame) asked → (take 6 frame ≡ has.mac) ⊎ (take 6 frame ≡ broadcast_address)
        → length frame ≤ type_place frame + 1502 → Gone (Resolves source asked)
    arp_gone type source asked there to short = resolve_silent steps.outcomes old.station old.live frame source asked (by_test (is_request asked.operation && is_running old.live.values.running asked.target.address) (λ fit.
        let parts = and_parts (is_request asked.operation) (is_running old.live.values.running asked.target.address) fit in
        let runs = and_parts (pointwise nat_eq asked.target.address has.address) (not (is_zero asked.target.address)) parts.1 in
        let target = octets_same asked.target.address has.address runs.0 in
        absurd (it.resolve (record {
          to = to;
          ether_type = type;
          hardware = there.hardware;
          protocol = there.protocol;
          hardware_size = there.hardware_size;
          protocol_size = there.protocol_size;
          operation = asks_of asked.operation (word_at 6 (packet frame)) there.number parts.0;
          target = there.target ∙ target;
          real = λ zero. no_false (sym (ap not (test_same asked.target.address (0 ∷ 0 ∷ 0 ∷ 0 ∷ []) (target ∙ zero))) ∙ runs.1);
          whole = there.long;
          short = short;
        }))) (λ fails. fails))

    by_type : IsOtherThan frame → Gone (heard_frame old.station.identity (frame_of frame))
    by_type (Profinet type cyclic high low) = dcp_holds old.station.identity frame Gone unreadable elsewhere type cyclic high low dcp_gone
    by_type (Resolution type) = arp_holds old.station.identity frame Gone unreadable elsewhere type (arp_gone type)
    by_type (Unknown real_time arp internet) = unknown_holds old.station.identity frame Gone unreadable elsewhere real_time arp internet

    pub unasked_at : sent ≡ []
    unasked_at = silent (by_type it.type)

  -- ---- answers

  heard_as : (heard : Heard) → heard_frame old.station.identity (frame_of frame) ≡ heard → sent ≡ sent_at steps.outcomes old.station old.live heard
  heard_as heard same = sent_is ∙ ap (λ (h : Heard). sent_at steps.outcomes old.station old.live h) same

  module _ (octets : AreOctets event) where
    small : (k : ℕ) → get_or frame k 0 < 256
    small = subst AreOctets is octets

    ten : (id service : ℕ) → IsRequest id service frame → 10 ≤ length (pdu frame)
    ten id service there = let whole = there.whole in omega (arith, whole)

    pub identify_at : IsIdentify has frame → sent ≡ identify_answer has frame ∷ []
    identify_at it =
        heard_as _ (request_heard old.station.identity frame Identify it.blocks it.is it.to it.there)
        ∙ identify_sent steps.outcomes old.station old.live frame 0xFEFE it.blocks small (ten 0xFEFE 5 it.is) (and_from _ _ (lt-ltb 0 (length it.blocks) it.some) it.fit)

    pub get_at : (pairs : List Block) → IsGet has pairs frame → sent ≡ get_answer has pairs frame ∷ []
    get_at pairs it =
        heard_as _ (request_heard old.station.identity frame Get pairs it.is it.to it.there)
        ∙ get_sent steps.outcomes old.station old.live frame 0xFEFD pairs small (ten 0xFEFD 3 it.is)

    pub set_at : (blocks : List Block) → IsSet has blocks frame → AnswersSet has blocks frame sent
    set_at blocks it =
        let heard = request_heard old.station.identity frame Set blocks it.is it.to it.there in
        subst (AnswersSet has blocks frame) (sym (heard_as _ heard))
        (set_sent steps.outcomes old.station old.live frame 0xFEFD blocks small (ten 0xFEFD 4 it.is)
        (subst (λ (h : Heard). AreSendable old.station.identity (heard_step steps.outcomes old.station old.live h).sent) (heard_is ∙ heard) steps.sendable))

  pub resolve_at : IsResolve has frame → sent ≡ resolve_answer has frame ∷ []
  resolve_at it =
      let asks = asking (packet frame) it.whole it.hardware it.protocol it.hardware_size it.protocol_size it.operation in
      let there = arp_there (packet frame) asks.packet asks.spelled in
      let target : asks.packet.target.address ≡ has.address = sym there.target ∙ it.target in
      heard_as _ (packet_heard old.station.identity frame asks.packet it.ether_type it.whole it.short asks.spelled it.to)
      ∙ resolve_sent steps.outcomes old.station old.live frame asks.packet there
      (and_from _ _ (ap is_request asks.requests)
      (and_from _ _ (test_same asks.packet.target.address has.address target)
      (ap not (differ asks.packet.target.address (0 ∷ 0 ∷ 0 ∷ 0 ∷ []) (λ zero. it.real (sym target ∙ zero))))))
