-- What a device sends at what it hears.
use Rattle.std.proofs.Common.{◌≡◌, inl, inr, ◌+◌, ◌<◌, ◌≤◌, ◌==◌, ◌&&◌, ℕ, suc, Bool, true, false, nat_lt, List, [], ◌∷◌, ◌++◌, length, map, zip, take, drop, get_or, flat_map, Option, Some, None, is_some, refl, sym, ap, ap₂, subst, ◌∙◌, arith}
use Rattle.std.proofs.lemmas.Bool.{cond-false, cond-true, cond_both}
use Rattle.std.proofs.lemmas.List.{get_or-drop, length-drop}
use Rattle.std.specs.Int.{w32, to_be_bytes}
use Rattle.std.specs.List.{list_all}
use Rattle.byteorder.specs.Endian.{big_number}
use Rattle.pn_values.specs.declared.mac.Mac.{Mac}
use Rattle.pn_values.specs.declared.set_item.SetItem.{SetItem}
use Rattle.pn_values.specs.declared.set_item.SetItem.TheVariants.{Ask, Signal, Answer}
use Rattle.pn_values.specs.declared.set_item.BlockError.{BlockError}
use Rattle.frame_codec.specs.declared.arp.Arp.{Arp}
use Rattle.frame_codec.specs.declared.udp.Caller.{Caller}
use Rattle.dcp_core.specs.declared.request.Service.TheVariants.{Get, Set, Identify}
use Rattle.dcp_core.specs.Bytes.{answer_bytes, error_number}
use Rattle.dcp_core.specs.Get.{get_bytes}
use Rattle.dcp_core.specs.Identify.{matches}
use Rattle.dcp_core.specs.Request.{Asked, AskedBlock}
use Rattle.dcp_core.specs.Set.{item_of, plan_of, set_bytes}
use Rattle.pn_alarms.specs.Format.{pdu_bytes}
use Rattle.relations.specs.declared.farewell.Farewell.{Farewell}
use Rattle.relations.specs.Farewells.{said_by}
use Rattle.settings_journal.specs.settings_store.State.{Values}
use Rattle.settings_journal.specs.settings_store.Machine.{Outcome, Pass, Fault, Carried, accepted, carried, first_of, rest_of}
use Rattle.device_frames.specs.declared.note.Note.{Note}
use Rattle.device_frames.specs.Heard.{Asks, Elsewhere, Heard, Reported, Resolves, Said, Unreadable}
use Rattle.device_frames.specs.Relation.{farewells_in}
use Rattle.device_frames.specs.Sendable.{AreSendable}
use Rattle.device_frames.specs.Sent.{Ends, Sent, SetAnswer, answer_frame, bytes_of}
use Rattle.device_core.specs.State.{Live, Rest, Station as Fixed, alias_in}
use Rattle.device_core.specs.Handled.{Handled, Moves, Refuses, handled, is_request, is_running}
use Rattle.device_core.specs.Machine.{farewell_at, handled_step, heard_step, resets}
use Rattle.field_words.specs.Octets.{part_at, type_place}
use Rattle.end_laws.proofs.CyclicPlaces.{tagged_id}
use Rattle.answers_law.specs.Requests.{Block, Station, fits, packet, pdu, xid_in}
use Rattle.answers_law.specs.Answers.{answer_octets, first_pairs, get_answer, identify_answer, identity_blocks, outcome_octets, padded, pair_answer, resolve_answer, set_answer}
use Rattle.answers_law.specs.Device.{AnswersSet, station_at}
use Rattle.answers_law.proofs.Heard.{source_of}
use Rattle.answers_law.proofs.Listed.{errors_many, matched, outcomes_are, pairs_given}
use Rattle.answers_law.proofs.Lists.{asked_of}
use Rattle.answers_law.proofs.Packets.{IsPacket}
use Rattle.answers_law.proofs.Pdus.{asked_at, two_is}
use Rattle.answers_law.proofs.Spelled.{arp_frame, get_set_frame, identify_frame, identity_given, xid_back}

-- ---- each item of a Set has an answer

answers_many : (outcomes : List Outcome) (values : Values) (items : List SetItem) → length (carried outcomes values items).answers ≡ length items
answers_many outcomes values [] = refl
answers_many outcomes values (Signal ∷ items) = ap suc (answers_many (rest_of outcomes) values items)
answers_many outcomes values (Answer answer ∷ items) = ap suc (answers_many (rest_of outcomes) values items)
answers_many outcomes values (Ask command ∷ items) =
    cond_both values.has_failed _ _ (λ (one : Carried). length (one.answers ++ (carried (rest_of outcomes) one.values items).answers) ≡ suc (length items))
    (λ _. ap suc (answers_many (rest_of outcomes) values items))
    (λ _. cond_both (values.room == 0) _ _ (λ (one : Carried). length (one.answers ++ (carried (rest_of outcomes) one.values items).answers) ≡ suc (length items))
    (λ _. ap suc (answers_many (rest_of outcomes) values items))
    (λ _. by_outcome (λ v. answers_many (rest_of outcomes) v items) (first_of outcomes)))
  where
    by_outcome : ((v : Values) → length (carried (rest_of outcomes) v items).answers ≡ length items) → (outcome : Outcome) → length ((accepted outcome values command).answers ++ (carried (rest_of outcomes) (accepted outcome values command).values items).answers) ≡ suc (length items)
    by_outcome again Pass = ap suc (again (accepted Pass values command).values)
    by_outcome again (Fault is_lost) = ap suc (again (accepted (Fault is_lost) values command).values)

items_many : (in_operation : Bool) (blocks : List Block)
    → length (map (λ (block : AskedBlock). item_of in_operation block.kind block.contents) (map asked_of blocks)) ≡ length blocks
items_many in_operation [] = refl
items_many in_operation (block ∷ blocks) = ap suc (items_many in_operation blocks)

-- ---- Xid

-- The Xid that is written is the one that was read.
xid_repeated : (id : ℕ) (frame : List ℕ) → ((k : ℕ) → get_or frame k 0 < 256) → 10 ≤ length (pdu frame) → to_be_bytes w32 (big_number 4 (drop 1 (drop 1 (pdu frame)))) ≡ xid_in frame
xid_repeated id frame small long =
    let a = length-drop 1 (pdu frame) in
    let b = length-drop 1 (drop 1 (pdu frame)) in
    let small_pdu : (k : ℕ) → get_or (pdu frame) k 0 < 256 = λ k. subst (λ (n : ℕ). n < 256) (sym (get_or-drop (type_place frame + 4) frame k 0)) (small (type_place frame + 4 + k)) in
    let small_one : (k : ℕ) → get_or (drop 1 (pdu frame)) k 0 < 256 = λ k. subst (λ (n : ℕ). n < 256) (sym (get_or-drop 1 (pdu frame) k 0)) (small_pdu (1 + k)) in
    let small_two : (k : ℕ) → get_or (drop 1 (drop 1 (pdu frame))) k 0 < 256 = λ k. subst (λ (n : ℕ). n < 256) (sym (get_or-drop 1 (drop 1 (pdu frame)) k 0)) (small_one (1 + k)) in
    xid_back (drop 1 (drop 1 (pdu frame))) (omega (arith, long, a, b)) small_two ∙ ap (λ (l : List ℕ). take 4 l) (two_is id (pdu frame))

-- ---- a step

module _ (outcomes : List Outcome) (station : Fixed) (live : Live) where
  abbrev pub sent_at : Heard → List (List ℕ)
  sent_at heard = (heard_step outcomes station live heard).frames

  abbrev has : Station
  has = station_at station live

  -- Nothing is sent at what is refused.
  pub refused : (heard : Heard) (why : Note) → handled station live heard ≡ Refuses why → sent_at heard ≡ []
  unfolding heard_step handled_step
  refused heard why is = ap (λ (what : Handled). (handled_step outcomes station live what).frames) is

  moved : (heard : Heard) (rest : Rest) (sent : List Sent) → handled station live heard ≡ Moves rest sent → sent_at heard ≡ map (bytes_of station.identity) sent
  unfolding heard_step handled_step
  moved heard rest sent is = ap (λ (what : Handled). (handled_step outcomes station live what).frames) is

  module _ (frame : List ℕ) where
    abbrev asker : Mac
    asker = source_of station.identity frame

    -- ---- Identify

    module _ (id : ℕ) (blocks : List Block) where
      abbrev identify : Asked
      identify = asked_at id (pdu frame) Identify blocks

      matched_is : matches station.identity live.values.running (alias_in live.rest.peer) identify ≡ (nat_lt 0 (length blocks) && list_all (fits has) blocks)
      matched_is = matched station.identity live.values.running (alias_in live.rest.peer) identify blocks refl

      pub identify_silent : (source : Mac) → (nat_lt 0 (length blocks) && list_all (fits has) blocks) ≡ false → sent_at (Asks source identify) ≡ []
      identify_silent source fails =
          refused (Asks source identify) _ (cond-false (matches station.identity live.values.running (alias_in live.rest.peer) identify) _ _ (matched_is ∙ fails))

      pub identify_sent : ((k : ℕ) → get_or frame k 0 < 256) → 10 ≤ length (pdu frame) → (nat_lt 0 (length blocks) && list_all (fits has) blocks) ≡ true
          → sent_at (Asks asker identify) ≡ identify_answer has frame ∷ []
      identify_sent small long fit =
          moved (Asks asker identify) _ _ (cond-true (matches station.identity live.values.running (alias_in live.rest.peer) identify) _ _ (matched_is ∙ fit))
          ∙ ap (λ (l : List ℕ). l ∷ [])
          (ap (λ (l : List ℕ). answer_frame station.identity asker 65279 l) (identity_given station.identity live.values.running (alias_in live.rest.peer) identify.xid)
          ∙ (identify_frame station.identity asker 5 identify.xid (identity_blocks has)
          ∙ ap (λ (x : List ℕ). answer_octets (part_at 6 6 frame) station.identity.mac.octets 0xFF 5 x (identity_blocks has)) (xid_repeated id frame small long)))

    -- ---- Get

    module _ (id : ℕ) (pairs : List Block) where
      abbrev get : Asked
      get = asked_at id (pdu frame) Get pairs

      given : get_bytes station.identity live.values.running (alias_in live.rest.peer) get ≡ answer_bytes 3 get.xid (flat_map (pair_answer has) (first_pairs [] pairs))
      unfolding get_bytes
      given = ap (answer_bytes 3 get.xid) (pairs_given station.identity live.values.running (alias_in live.rest.peer) get pairs refl)

      pub get_sent : ((k : ℕ) → get_or frame k 0 < 256) → 10 ≤ length (pdu frame) → sent_at (Asks asker get) ≡ get_answer has pairs frame ∷ []
      get_sent small long =
          moved (Asks asker get) _ _ refl
          ∙ ap (λ (l : List ℕ). l ∷ [])
          (ap (λ (l : List ℕ). answer_frame station.identity asker 65277 l) given
          ∙ (get_set_frame station.identity asker 3 get.xid (flat_map (pair_answer has) (first_pairs [] pairs))
          ∙ ap (λ (x : List ℕ). answer_octets (part_at 6 6 frame) station.identity.mac.octets 0xFD 3 x (flat_map (pair_answer has) (first_pairs [] pairs))) (xid_repeated id frame small long)))

    -- ---- Set

    module _ (id : ℕ) (blocks : List Block) where
      abbrev set : Asked
      set = asked_at id (pdu frame) Set blocks

      abbrev in_operation : Bool
      in_operation = is_some live.rest.link

      abbrev answers : List BlockError
      answers = (carried outcomes live.values (plan_of in_operation set)).answers

      abbrev errors : List ℕ
      errors = map error_number answers

      each : length errors ≡ length blocks
      unfolding plan_of
      each = errors_many answers ∙ (answers_many outcomes live.values (plan_of in_operation set) ∙ items_many in_operation blocks)

      outcome : set_bytes set answers ≡ answer_bytes 4 set.xid (flat_map (λ (one : Block × ℕ). outcome_octets one.0 one.1) (zip blocks errors))
      unfolding set_bytes
      outcome = ap (answer_bytes 4 set.xid) (outcomes_are blocks answers)

      answer_is : ((k : ℕ) → get_or frame k 0 < 256) → 10 ≤ length (pdu frame) → bytes_of station.identity (SetAnswer asker set answers) ≡ set_answer has blocks errors frame
      answer_is small long =
          ap (λ (l : List ℕ). answer_frame station.identity asker 65277 l) outcome
          ∙ (get_set_frame station.identity asker 4 set.xid (flat_map (λ (one : Block × ℕ). outcome_octets one.0 one.1) (zip blocks errors))
          ∙ ap (λ (x : List ℕ). answer_octets (part_at 6 6 frame) station.identity.mac.octets 0xFD 4 x (flat_map (λ (one : Block × ℕ). outcome_octets one.0 one.1) (zip blocks errors))) (xid_repeated id frame small long))

      abbrev ended_by_set : Option Farewell
      ended_by_set = farewell_at (resets (plan_of in_operation set) answers) live.rest.link

      set_frames : sent_at (Asks asker set) ≡ map (bytes_of station.identity) (farewells_in ended_by_set ++ SetAnswer asker set answers ∷ [])
      unfolding heard_step handled_step
      set_frames = refl

      by_farewell : (farewell : Option Farewell) → AreSendable station.identity (farewells_in farewell ++ SetAnswer asker set answers ∷ [])
          → bytes_of station.identity (SetAnswer asker set answers) ≡ set_answer has blocks errors frame
          → AnswersSet has blocks frame (map (bytes_of station.identity) (farewells_in farewell ++ SetAnswer asker set answers ∷ []))
      by_farewell None can is = record {
        errors = errors;
        each = each;
        ended = [];
        at_most_one = inl refl;
        is = ap (λ (l : List ℕ). l ∷ []) is;
      }
      by_farewell (Some farewell) can is = record {
        errors = errors;
        each = each;
        ended = bytes_of station.identity (Ends farewell) ∷ [];
        at_most_one = inr (
          bytes_of station.identity (Ends farewell),
          refl,
          tagged_id farewell.initiator station.identity.mac can.0.destination can.0.source farewell.tag 0xFE01 (pdu_bytes (said_by farewell)) (omega arith),
        );
        is = ap (λ (l : List ℕ). bytes_of station.identity (Ends farewell) ∷ l ∷ []) is;
      }

      sendable_set : AreSendable station.identity (heard_step outcomes station live (Asks asker set)).sent → AreSendable station.identity (farewells_in ended_by_set ++ SetAnswer asker set answers ∷ [])
      unfolding heard_step handled_step
      sendable_set can = can

      pub set_sent : ((k : ℕ) → get_or frame k 0 < 256) → 10 ≤ length (pdu frame) → AreSendable station.identity (heard_step outcomes station live (Asks asker set)).sent
          → AnswersSet has blocks frame (sent_at (Asks asker set))
      set_sent small long can =
          subst (AnswersSet has blocks frame) (sym set_frames) (by_farewell ended_by_set (sendable_set can) (answer_is small long))

    -- ---- ARP

    pub resolve_silent : (source : Mac) (asked : Arp) → (is_request asked.operation && is_running live.values.running asked.target.address) ≡ false → sent_at (Resolves source asked) ≡ []
    resolve_silent source asked fails = refused (Resolves source asked) _ (cond-false (is_request asked.operation && is_running live.values.running asked.target.address) _ _ fails)

    pub resolve_sent : (asked : Arp) → IsPacket (packet frame) asked → (is_request asked.operation && is_running live.values.running asked.target.address) ≡ true
        → sent_at (Resolves asker asked) ≡ resolve_answer has frame ∷ []
    resolve_sent asked it asks =
        moved (Resolves asker asked) _ _ (cond-true (is_request asked.operation && is_running live.values.running asked.target.address) _ _ asks)
        ∙ ap (λ (l : List ℕ). l ∷ [])
        (arp_frame station.identity asker live.values.running.suite.address asked.sender
        ∙ ap₂ (λ (m a : List ℕ). padded (part_at 6 6 frame ++ (station.identity.mac.octets ++ (0x08 ∷ 0x06 ∷ 0 ∷ 1 ∷ 0x08 ∷ 0 ∷ 6 ∷ 4 ∷ 0 ∷ 2 ∷ (station.identity.mac.octets ++ (live.values.running.suite.address ++ (m ++ a)))))))
        (sym it.sender_mac) (sym it.sender))

  -- ---- IPv4

  pub reported_silent : (caller : Caller) (address : List ℕ) (said : Said) → is_running live.values.running address ≡ false → sent_at (Reported caller address said) ≡ []
  reported_silent caller address said fails = refused (Reported caller address said) _ (cond-false (is_running live.values.running address) _ _ fails)

  pub unreadable_silent : sent_at Unreadable ≡ []
  unreadable_silent = refused Unreadable _ refl

  pub elsewhere_silent : sent_at Elsewhere ≡ []
  elsewhere_silent = refused Elsewhere _ refl
