-- The answer to an Identify request, read at fixed places.
use Rattle.std.proofs.Common.{◌≡◌, ◌≤◌, ◌<◌, ◌==◌, ◌&&◌, ◌+◌, ℕ, true, false, List, [], ◌∷◌, ◌++◌, filter_map, length, map, drop, Some, None, Result, Ok, Err, if◌then◌else◌, refl, sym, ap, subst, ◌∙◌, arith, append_assoc}
use Rattle.std.proofs.lemmas.List.{append-nil}
use Rattle.std.proofs.lemmas.Bool.{and_parts, cond_both}
use Rattle.std.specs.Int.{w16, to_be_bytes}
use Rattle.std.specs.List.{AllByRecursion, list_all}
use Rattle.byteorder.specs.Endian.{big_bytes, big_number}
use Rattle.pn_values.specs.declared.mac.Mac.{Mac}
use Rattle.pn_values.specs.declared.identity.Identity.{Identity}
use Rattle.pn_values.specs.declared.settings.Settings.{Settings}
use Rattle.frame_codec.specs.Frame.{frame_of, padding_of}
use Rattle.frame_codec.specs.declared.fault.FrameFault.{FrameFault}
use Rattle.frame_codec.specs.Meaning.{ArpPacket, Content, Meaning, RealTime, UdpDatagram}
use Rattle.frame_codec.specs.Sendable.{carrying}
use Rattle.frame_codec.specs.FrameId.{is_alarm, is_cyclic}
use Rattle.frame_codec.proofs.Frames.{frame_takes}
use Rattle.dcp_core.specs.Bytes.{answer_bytes, block_bytes}
use Rattle.dcp_core.specs.Identify.{identify_bytes, known_options, matches, suite_bytes, suite_info}
use Rattle.dcp_core.specs.declared.kind.Kind.{Kind}
use Rattle.dcp_core.specs.declared.kind.Kind.TheVariants.{DeviceId, DeviceInstance, DeviceOptions, DeviceRole, IpSuite, NameOfStation, StationType}
use Rattle.dcp_core.specs.declared.request.DcpFault.{DcpFault}
use Rattle.dcp_core.specs.declared.request.Service.{Service}
use Rattle.dcp_core.specs.declared.request.Service.TheVariants as service
use Rattle.dcp_core.specs.Reading.{request_of}
use Rattle.dcp_core.specs.Request.{Asked}
use Rattle.dcp_core.proofs.Sound.{request_takes}
use Rattle.settings_journal.specs.settings_store.Machine.{Outcome}
use Rattle.device_frames.specs.declared.event.Event.{Event}
use Rattle.device_frames.specs.declared.event.Event.TheVariants.{Frame}
use Rattle.device_frames.specs.declared.note.Note.{Note}
use Rattle.device_frames.specs.Heard.{Asks, Elsewhere, Heard, Unreadable, heard_content, heard_frame, heard_of, heard_request, is_own, is_taken}
use Rattle.device_frames.specs.Sendable.{AreSendable, IsSendable}
use Rattle.device_frames.specs.Sent.{IdentifyAnswer, bytes_of}
use Rattle.device_core.specs.State.{Live, Station, alias_in}
use Rattle.device_core.specs.Handled.{Handled, Refuses, handled, handled_request}
use Rattle.device_core.specs.Machine.{Stepped, first_step, handed, handled_step, heard_step, step_of}
use Rattle.octets_law.specs.Octets.{blocks_in, dcp_blocks, is_dcp, number, part, untagged}
use Rattle.octets_law.specs.Headline.{IsIdentified, Tells, Told}
use Rattle.octets_law.specs.Turns.{AreSent, told_of}
use Rattle.octets_law.proofs.Bare.{IsBare, bare_of}
use Rattle.octets_law.proofs.Blocks.{code_of, spelled, spelled_read}
use Rattle.octets_law.proofs.CallReads.{tested}
use Rattle.octets_law.proofs.Called.{all_answered}
use Rattle.octets_law.proofs.Datagrams.{kind_under}
use Rattle.octets_law.proofs.EventSteps.{arp_type, datagram_type, frame_type}
use Rattle.octets_law.proofs.FrameSteps.{dcp_id, frame_timely}
use Rattle.octets_law.proofs.SetFrames.{number_front, plain_octets, six, take_front}
use Rattle.octets_law.proofs.SetHeard.{IsTimely, KindOf, set_read}

-- ---- the frame

abbrev answer_octets : List ℕ → List ℕ → ℕ → List ℕ → List ℕ → List ℕ
answer_octets destination source xid blocks padding =
    (destination ++ (source ++ (0x88 ∷ 0x92 ∷ (0xFE ∷ 0xFF ∷ answer_bytes 5 xid blocks)))) ++ padding

length_read : (destination source : List ℕ) (xid : ℕ) (blocks padding : List ℕ) → length destination ≡ 6 → length source ≡ 6 → length blocks < 65536
    → number 24 2 (answer_octets destination source xid blocks padding) ≡ length blocks
length_read destination source xid blocks padding d s small =
    six (λ d. number 24 2 (answer_octets d source xid blocks padding) ≡ length blocks) destination d (λ a b c e f g.
    six (λ s. number 24 2 (answer_octets (a ∷ b ∷ c ∷ e ∷ f ∷ g ∷ []) s xid blocks padding) ≡ length blocks) source s (λ h i j k l m.
    ap (big_number 2) (append_assoc (big_bytes 2 (length blocks)) blocks padding) ∙ number_front 2 (length blocks) (blocks ++ padding) small))

blocks_read : (destination source : List ℕ) (xid : ℕ) (blocks padding : List ℕ) → length destination ≡ 6 → length source ≡ 6 → length blocks < 65536
    → part 26 (number 24 2 (answer_octets destination source xid blocks padding)) (answer_octets destination source xid blocks padding) ≡ blocks
blocks_read destination source xid blocks padding d s small =
    ap (λ n. part 26 n (answer_octets destination source xid blocks padding)) (length_read destination source xid blocks padding d s small)
    ∙ six (λ d. part 26 (length blocks) (answer_octets d source xid blocks padding) ≡ blocks) destination d (λ a b c e f g.
    six (λ s. part 26 (length blocks) (answer_octets (a ∷ b ∷ c ∷ e ∷ f ∷ g ∷ []) s xid blocks padding) ≡ blocks) source s (λ h i j k l m.
    take_front blocks padding))

-- ---- its blocks

abbrev told_by : Identity → Settings → List (Kind × List ℕ)
told_by identity settings =
    (StationType, 0 ∷ 0 ∷ identity.station_type.items) ∷ (NameOfStation, 0 ∷ 0 ∷ settings.name)
    ∷ (DeviceId, 0 ∷ 0 ∷ (to_be_bytes w16 identity.vendor_id ++ to_be_bytes w16 identity.device_id)) ∷ (DeviceRole, 0 ∷ 0 ∷ 1 ∷ 0 ∷ []) ∷ (DeviceOptions, 0 ∷ 0 ∷ known_options)
    ∷ (DeviceInstance, 0 ∷ 0 ∷ to_be_bytes w16 identity.instance) ∷ (IpSuite, suite_info (suite_bytes settings.suite) ++ suite_bytes settings.suite) ∷ []

seven : (a b c d e f g : List ℕ) → a ++ b ++ c ++ d ++ e ++ f ++ g ≡ a ++ (b ++ (c ++ (d ++ (e ++ (f ++ (g ++ []))))))
seven a b c d e f g =
    append_assoc (a ++ b ++ c ++ d ++ e) f g ∙ append_assoc (a ++ b ++ c ++ d) e (f ++ g) ∙ append_assoc (a ++ b ++ c) d (e ++ (f ++ g)) ∙ append_assoc (a ++ b) c (d ++ (e ++ (f ++ g)))
    ∙ append_assoc a b (c ++ (d ++ (e ++ (f ++ g)))) ∙ ap (λ l. a ++ (b ++ (c ++ (d ++ (e ++ (f ++ l)))))) (sym (append-nil g))

answer_is : (identity : Identity) (settings : Settings) (xid : ℕ) → identify_bytes identity settings xid ≡ answer_bytes 5 xid (spelled (told_by identity settings))
unfolding identify_bytes
answer_is identity settings xid =
    ap (answer_bytes 5 xid) (seven (block_bytes StationType (0 ∷ 0 ∷ identity.station_type.items)) (block_bytes NameOfStation (0 ∷ 0 ∷ settings.name))
    (block_bytes DeviceId (0 ∷ 0 ∷ (to_be_bytes w16 identity.vendor_id ++ to_be_bytes w16 identity.device_id))) (block_bytes DeviceRole (0 ∷ 0 ∷ 1 ∷ 0 ∷ []))
    (block_bytes DeviceOptions (0 ∷ 0 ∷ known_options)) (block_bytes DeviceInstance (0 ∷ 0 ∷ to_be_bytes w16 identity.instance))
    (block_bytes IpSuite (suite_info (suite_bytes settings.suite) ++ suite_bytes settings.suite)))

two_off : (octets value : List ℕ) → drop 2 (suite_info octets ++ value) ≡ value
two_off octets value = cond_both (list_all (λ octet. octet == 0) octets) (0 ∷ 0 ∷ []) (0 ∷ 1 ∷ []) (λ info. drop 2 (info ++ value) ≡ value) (λ _. refl) (λ _. refl)

ten : (xid : ℕ) (blocks : List ℕ) → length (answer_bytes 5 xid blocks) ≡ 10 + length blocks
ten xid blocks = omega arith

-- The answer tells the settings.
answer_tells : (identity : Identity) (asker : Mac) (settings : Settings) (xid : ℕ) → IsSendable identity (IdentifyAnswer asker settings xid)
    → Tells settings (bytes_of identity (IdentifyAnswer asker settings xid))
answer_tells identity asker settings xid can =
    let blocks : List (Kind × List ℕ) = told_by identity settings in
    let body : List ℕ = identify_bytes identity settings xid in
    let padding : List ℕ = padding_of (carrying asker identity.mac None (RealTime 65279 body)) in
    let long : length body ≤ 1498 = can.content.1 in
    let sized : length body ≡ 10 + length (spelled blocks) = ap length (answer_is identity settings xid) ∙ ten xid (spelled blocks) in
    let small : length (spelled blocks) < 65536 = omega arith in
    let octets : bytes_of identity (IdentifyAnswer asker settings xid) ≡ answer_octets asker.octets identity.mac.octets xid (spelled blocks) padding =
    plain_octets identity.mac asker 65279 body ∙ ap (λ l. (asker.octets ++ (identity.mac.octets ++ (0x88 ∷ 0x92 ∷ (0xFE ∷ 0xFF ∷ l)))) ++ padding) (answer_is identity settings xid) in
    let read : dcp_blocks (bytes_of identity (IdentifyAnswer asker settings xid)) ≡ map (λ (block : Kind × List ℕ). (code_of block.0, block.1)) blocks =
    ap dcp_blocks octets ∙ ap (blocks_in 16) (blocks_read asker.octets identity.mac.octets xid (spelled blocks) padding can.destination can.source small)
    ∙ spelled_read 16 blocks (omega arith) small in (
      ap (filter_map (λ (block : ℕ × List ℕ). if block.0 == 0x0202 then Some (drop 2 block.1) else None)) read,
      ap (filter_map (λ (block : ℕ × List ℕ). if block.0 == 0x0102 then Some (drop 2 block.1) else None)) read
          ∙ ap (λ l. l ∷ []) (two_off (suite_bytes settings.suite) (suite_bytes settings.suite)),
    )

-- ---- the step

module _ (outcomes : List Outcome) (station : Station) (live : Live) where
  abbrev AreTold : Handled → Type 0
  AreTold what = AllByRecursion (Tells live.values.running) (handled_step outcomes station live what).frames

  none_told : (why : Note) → AreTold (Refuses why)
  unfolding handled_step
  none_told why = tt

  one_told : (source : Mac) (request : Asked) → AreSendable station.identity (handled_step outcomes station live (handled_request station live source service.Identify request)).sent
      → AreTold (handled_request station live source service.Identify request)
  unfolding handled_step
  one_told source request =
      cond_both (matches station.identity live.values.running (alias_in live.rest.peer) request) _ _
      (λ (what : Handled). AreSendable station.identity (handled_step outcomes station live what).sent → AreTold what)
      (λ _ can. (answer_tells station.identity source live.values.running request.xid can.0, tt)) (λ _ can. tt)

  module _ (bytes : List ℕ) (can : AreSendable station.identity (step_of outcomes station live (Frame (record { items = bytes }))).sent) (asks : is_dcp 0xFEFE 5 0 (untagged bytes) ≡ true) where
    abbrev event : Event
    event = Frame (record { items = bytes })

    abbrev Goal : Type 0
    Goal = AllByRecursion (Tells live.values.running) (step_of outcomes station live event).frames

    by_outcome : (what : Handled) → handled station live (heard_of station.identity event) ≡ what → (AreSendable station.identity (handled_step outcomes station live what).sent → AreTold what) → Goal
    unfolding heard_step
    by_outcome what is told =
        subst AreTold (sym is) (told (subst (λ what. AreSendable station.identity (handled_step outcomes station live what).sent) is can))

    silent : (heard : Heard) → heard_of station.identity event ≡ heard → (why : Note) → handled station live heard ≡ Refuses why → Goal
    silent heard is why what = by_outcome (Refuses why) (ap (handled station live) is ∙ what) (λ _. none_told why)

    ids : (number 14 2 (untagged bytes) ≡ 0xFEFE) × (number 16 1 (untagged bytes) ≡ 5)
    ids = dcp_id 0xFEFE 5 0 (untagged bytes) asks

    by_type : number 12 2 (untagged bytes) ≡ 0x8892
    by_type = tested _ 0x8892 (and_parts _ _ (and_parts _ _ (and_parts _ _ asks).0).0).0

    by_service : (source : Mac) (id : ℕ) (body : List ℕ) (request : Asked) → IsTimely (untagged bytes) id body → heard_of station.identity event ≡ Asks source request
        → (s : Service) → request.service ≡ s → KindOf id (untagged bytes) s request → Goal
    by_service source id body request it heard service.Get is kind = absurd (let e = ids.1 in let k = kind in omega arith)
    by_service source id body request it heard service.Set is kind = absurd (let e = ids.0 in let k = kind.0 in let i = it.id in omega arith)
    by_service source id body request it heard service.Identify is kind =
        by_outcome (handled_request station live source service.Identify request)
        (ap (handled station live) heard ∙ ap (λ s. handled_request station live source s request) is) (one_told source request)

    by_request : (source : Mac) (id : ℕ) (body : List ℕ) → IsTimely (untagged bytes) id body → (read : Result Asked DcpFault) → request_of id body ≡ read
        → heard_of station.identity event ≡ heard_request source read → Goal
    by_request source id body it (Err fault) is heard = silent Unreadable heard _ refl
    by_request source id body it (Ok request) is heard =
        by_service source id body request it heard request.service refl (set_read (untagged bytes) body id request it (request_takes id body request is))

    by_time : (destination source : Mac) (id : ℕ) (body : List ℕ) → id ≡ 0xFEFE → IsTimely (untagged bytes) id body
        → heard_of station.identity event ≡ heard_content station.identity destination source (RealTime id body) → Goal
    by_time destination source id body is it heard =
        (cond_both (is_taken station.identity destination id) _ _ (λ h. heard_of station.identity event ≡ h → Goal) (λ _ heard. by_request source id body it (request_of id body) refl heard)
        (λ _. cond_both (is_own station.identity destination && is_alarm id) _ _ (λ h. heard_of station.identity event ≡ h → Goal)
        (λ alarm _. absurd (let e : false ≡ true = sym (ap is_alarm is) ∙ (and_parts (is_own station.identity destination) (is_alarm id) alarm).1 in cc))
        (λ _. cond_both (is_own station.identity destination && is_cyclic id) _ _ (λ h. heard_of station.identity event ≡ h → Goal)
        (λ cyclic _. absurd (let e : false ≡ true = sym (ap is_cyclic is) ∙ (and_parts (is_own station.identity destination) (is_cyclic id) cyclic).1 in cc))
        (λ _ heard. silent Elsewhere heard _ refl)))) heard

    by_content : (meaning : Meaning) (bare : IsBare bytes meaning) (content : Content) → meaning.content ≡ content
        → heard_of station.identity event ≡ heard_content station.identity meaning.destination meaning.source content → Goal
    by_content meaning bare (RealTime id body) is heard =
        let it = frame_timely bytes meaning id body bare is in
        by_time meaning.destination meaning.source id body (sym it.id ∙ ids.0) it heard
    by_content meaning bare (ArpPacket packet) is heard =
        absurd (let e = by_type in let t = frame_type bytes meaning bare
        ∙ arp_type (big_number 2 bare.type) bare.rest meaning.content packet is (kind_under (big_number 2 bare.type) bare.rest meaning.content bare.content) in omega arith)
    by_content meaning bare (UdpDatagram from to body) is heard =
        absurd (let e = by_type in let t = frame_type bytes meaning bare
        ∙ (datagram_type (big_number 2 bare.type) bare.rest meaning.content from to body is (kind_under (big_number 2 bare.type) bare.rest meaning.content bare.content)).0 in omega arith)

    by_frame : (read : Result Meaning FrameFault) → frame_of bytes ≡ read → heard_of station.identity event ≡ heard_frame station.identity read → Goal
    by_frame (Err fault) is heard = silent Unreadable heard _ refl
    by_frame (Ok meaning) is heard = by_content meaning (bare_of bytes meaning (frame_takes bytes meaning is).spelled) meaning.content refl heard

    -- What is sent at an Identify request tells the running settings.
    pub identify_told : Goal
    unfolding heard_of
    identify_told = by_frame (frame_of bytes) refl refl

-- ---- the first event of a run

same_event : (one other : Told) (front behind : List Told) → one ∷ front ≡ other ∷ behind → one ≡ other
same_event one other front behind e = cc

-- What is sent at it, if it is an Identify request, tells the running settings.
pub first_identified : (outcomes : List (List Outcome)) (station : Station) (live : Live) (events : List Event) → live.values.is_lost ≡ false → AreSent outcomes station live events
    → (octets : List ℕ) (sent : List (List ℕ)) (later : List Told) → told_of outcomes station live events ≡ (Frame (record { items = octets }), sent) ∷ later
    → IsIdentified live.values.running octets sent
first_identified outcomes station live [] power sendable octets sent later is = absurd cc
first_identified outcomes station live (event ∷ events) power sendable octets sent later is =
    let first = same_event _ _ _ _ is in
    let came : event ≡ Frame (record { items = octets }) = ap (λ (told : Told). told.0) first in
    let gone : handed (step_of (first_step outcomes) station live event) ≡ sent = ap (λ (told : Told). told.1) first in
    let same : handed (step_of (first_step outcomes) station live (Frame (record { items = octets }))) ≡ sent = ap (λ e. handed (step_of (first_step outcomes) station live e)) (sym came) ∙ gone in (
      λ asks.
          subst (AllByRecursion (Tells live.values.running)) same
          (handed_told (step_of (first_step outcomes) station live (Frame (record { items = octets }))) live
          (identify_told (first_step outcomes) station live octets (subst (λ e. AreSendable station.identity (step_of (first_step outcomes) station live e).sent) came sendable.0) asks)),
      λ asks. ap length (sym same) ∙ all_answered (first_step outcomes) station live octets power asks,
    )
  where
    handed_told : (step : Stepped) (live : Live) → AllByRecursion (Tells live.values.running) step.frames → AllByRecursion (Tells live.values.running) (handed step)
    handed_told step live all = cond_both step.live.values.is_lost _ _ (AllByRecursion (Tells live.values.running)) (λ _. tt) (λ _. all)
