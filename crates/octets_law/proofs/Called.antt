-- An Identify request of all stations is answered.
use Rattle.std.proofs.Common.{◌≡◌, ◌≤◌, ◌<◌, ◌==◌, ◌&&◌, ℕ, Bool, true, false, nat_eq, nat_le, List, [], ◌∷◌, ◌++◌, length, take, drop, Option, Ok, refl, sym, ap, subst, ◌∙◌, arith}
use Rattle.std.proofs.lemmas.List.{take-append-drop}
use Rattle.std.proofs.lemmas.Bool.{and_parts, cond-false, cond-true, or_right}
use Rattle.std.specs.Cmp.Lexicographic.{pointwise}
use Rattle.byteorder.specs.Endian.{big_number}
use Rattle.pn_values.specs.declared.mac.Mac.{Mac}
use Rattle.pn_values.specs.declared.identity.Identity.{Identity}
use Rattle.pn_values.specs.declared.settings.Settings.{Settings}
use Rattle.frame_codec.specs.Frame.{frame_of, layers, longest}
use Rattle.frame_codec.specs.Meaning.{Meaning, RealTime}
use Rattle.frame_codec.proofs.Frames.{frame_again}
use Rattle.dcp_core.specs.declared.kind.Kind.TheVariants as kinds
use Rattle.dcp_core.specs.declared.request.Service.TheVariants.{Identify}
use Rattle.dcp_core.specs.Format.{block, block_of, blocks_of, data_of, header_and_data, kind, request}
use Rattle.dcp_core.specs.Identify.{matches}
use Rattle.dcp_core.specs.Reading.{IsRequest}
use Rattle.dcp_core.specs.Request.{Asked}
use Rattle.dcp_core.proofs.Sound.{request_again}
use Rattle.settings_journal.specs.settings_store.Machine.{Outcome}
use Rattle.device_frames.specs.declared.event.Event.TheVariants.{Frame}
use Rattle.device_frames.specs.Heard.{Asks, heard_content, heard_frame, heard_of, heard_request, is_own, is_taken}
use Rattle.device_frames.specs.Sent.{IdentifyAnswer}
use Rattle.device_core.specs.State.{Live, Station, alias_in}
use Rattle.device_core.specs.Handled.{Moves, handled}
use Rattle.device_core.specs.Machine.{handed, handled_step, heard_step, step_of}
use Rattle.octets_law.specs.Octets.{is_dcp, number, part, untagged}
use Rattle.octets_law.specs.Headline.{is_for_all}
use Rattle.octets_law.proofs.CallPlaces.{skip}
use Rattle.octets_law.proofs.CallReads.{below, tested}
use Rattle.octets_law.proofs.Repeats.{same_octets}
use Rattle.octets_law.proofs.SetHeard.{one_front}
use Rattle.octets_law.proofs.WholeSet.{IsLaid, framed, laid_behind, laid_id, laid_length, laid_to, split}

abbrev asked_for : List ℕ → Asked
asked_for xid = record { service = Identify; xid = big_number 4 xid; blocks = record { kind = kinds.All; contents = [] } ∷ [] }

four_long : 0 < length {A = ℕ} (255 ∷ 255 ∷ 0 ∷ 0 ∷ [])
four_long = omega arith

-- Octets after a FrameID that are such a request.
identify_spelled : (first second xid delay rest : List ℕ) → length first ≡ 1 → length second ≡ 1 → length xid ≡ 4 → length delay ≡ 2
    → big_number 1 first ≡ 5 → big_number 1 second ≡ 0 → IsRequest 0xFEFE (first ++ (second ++ (xid ++ (delay ++ (0 ∷ 4 ∷ 255 ∷ 255 ∷ 0 ∷ 0 ∷ rest))))) (asked_for xid)
unfolding IsRequest request header_and_data data_of blocks_of block_of block kind
identify_spelled first second xid delay rest l m n o five none = (
  rest,
  (
    ((5, (0, (big_number 4 xid, tt))), (Identify, (asked_for xid).blocks)),
    refl,
    (
      0 ∷ 4 ∷ 255 ∷ 255 ∷ 0 ∷ 0 ∷ rest,
      (
        second ++ (xid ++ (delay ++ (0 ∷ 4 ∷ 255 ∷ 255 ∷ 0 ∷ 0 ∷ rest))),
        (first, l, refl, sym five),
        (
          xid ++ (delay ++ (0 ∷ 4 ∷ 255 ∷ 255 ∷ 0 ∷ 0 ∷ rest)),
          (second, m, refl, sym none),
          (delay ++ (0 ∷ 4 ∷ 255 ∷ 255 ∷ 0 ∷ 0 ∷ rest), (xid, n, refl, refl), (big_number 2 delay, refl, (delay, o, refl, refl))),
        ),
      ),
      (
        255 ∷ 255 ∷ 0 ∷ 0 ∷ [],
        255 ∷ 255 ∷ 0 ∷ 0 ∷ rest,
        (0 ∷ 4 ∷ [], refl, refl, refl),
        refl,
        (
          (asked_for xid).blocks,
          refl,
          (
            (
              four_long,
              [],
              (
                (record { kind = kinds.All; contents = [] }, tt),
                refl,
                (
                  [],
                  (
                    (kinds.All, []),
                    refl,
                    (
                      0 ∷ 0 ∷ [],
                      ((255, 255), refl, (255 ∷ 0 ∷ 0 ∷ [], (255 ∷ [], refl, refl, refl), (255 ∷ [], refl, refl, refl))),
                      ([], [], (0 ∷ 0 ∷ [], refl, refl, refl), refl, refl),
                    ),
                  ),
                  refl,
                ),
              ),
              refl,
            ),
            omega arith,
          ),
        ),
      ),
    ),
  ),
)

frame_asked : (identity : Identity) (bytes : List ℕ) (meaning : Meaning) (id : ℕ) (body : List ℕ) (asked : Asked) → layers.Spells bytes meaning → length bytes ≤ longest meaning.tag
    → meaning.content ≡ RealTime id body → id ≡ 0xFEFE → is_taken identity meaning.destination 0xFEFE ≡ true → IsRequest 0xFEFE body asked
    → heard_of identity (Frame (record { items = bytes })) ≡ Asks meaning.source asked
unfolding heard_of
frame_asked identity bytes meaning id body asked spelled short content is taken asks =
    let read : frame_of bytes ≡ Ok meaning = frame_again bytes meaning (record { spelled = spelled; short = short }) in
    ap (heard_frame identity) read ∙ ap (heard_content identity meaning.destination meaning.source) (content ∙ ap (λ n. RealTime n body) is)
    ∙ cond-true (is_taken identity meaning.destination 0xFEFE) _ _ taken ∙ ap (heard_request meaning.source) (request_again 0xFEFE body asked asks)

-- Such a request, as it is heard.
record IsAskedAll (identity : Identity) (bytes : List ℕ) : Type 0 where
  source : Mac
  xid : List ℕ
  is : heard_of identity (Frame (record { items = bytes })) ≡ Asks source (asked_for xid)

module _ (identity : Identity) (bytes octets to from type id body : List ℕ) (laid : IsLaid octets to from type id body) (tag : Option ℕ)
    (spelled : layers.Spells bytes (record { destination = record { octets = to }; source = record { octets = from }; tag = tag; content = RealTime (big_number 2 id) body }))
    (short : length bytes ≤ longest tag) (asks : is_dcp 0xFEFE 5 0 octets ≡ true) (long : 30 ≤ length octets)
    (group : pointwise nat_eq (take 6 octets) (0x01 ∷ 0x0E ∷ 0xCF ∷ 0 ∷ 0 ∷ 0 ∷ []) ≡ true) (all : pointwise nat_eq (part 24 6 octets) (0 ∷ 4 ∷ 0xFF ∷ 0xFF ∷ 0 ∷ 0 ∷ []) ≡ true) where
  laid_asked : IsAskedAll identity bytes
  laid_asked =
      let three = and_parts (number 12 2 octets == 0x8892 && number 14 2 octets == 0xFEFE && number 16 1 octets == 5) (number 17 1 octets == 0) asks in
      let two = and_parts (number 12 2 octets == 0x8892 && number 14 2 octets == 0xFEFE) (number 16 1 octets == 5) three.0 in
      let one = and_parts (number 12 2 octets == 0x8892) (number 14 2 octets == 0xFEFE) two.0 in
      let size = laid_length octets to from type id body laid in
      let a = split 1 body (omega arith) in
      let ac = a.counted in
      let b = split 1 a.rest (omega arith) in
      let bc = b.counted in
      let c = split 4 b.rest (omega arith) in
      let third = c.counted in
      let d = split 2 c.rest (omega arith) in
      let at = laid_behind octets to from type id body laid in
      let at_second : drop 1 body ≡ a.rest = ap (drop 1) a.is ∙ skip 0 1 a.front a.rest a.wide in
      let at_size : drop 8 body ≡ d.rest =
      ap (drop 8) a.is ∙ skip 7 1 a.front a.rest a.wide ∙ ap (drop 7) b.is ∙ skip 6 1 b.front b.rest b.wide ∙ ap (drop 6) c.is ∙ skip 2 4 c.front c.rest c.wide ∙ ap (drop 2) d.is
      ∙ skip 0 2 d.front d.rest d.wide in
      let first : big_number 1 a.front ≡ 5 = sym (ap (big_number 1) (at 0 ∙ a.is) ∙ one_front a.front a.rest a.wide) ∙ tested _ 5 two.1 in
      let second : big_number 1 b.front ≡ 0 = sym (ap (big_number 1) (at 1 ∙ at_second ∙ b.is) ∙ one_front b.front b.rest b.wide) ∙ tested _ 0 three.1 in
      let six : take 6 d.rest ≡ 0 ∷ 4 ∷ 0xFF ∷ 0xFF ∷ 0 ∷ 0 ∷ [] = sym (ap (take 6) (at 8 ∙ at_size)) ∙ same_octets (part 24 6 octets) _ all in
      let end : d.rest ≡ 0 ∷ 4 ∷ 0xFF ∷ 0xFF ∷ 0 ∷ 0 ∷ drop 6 d.rest = sym (take-append-drop 6 d.rest) ∙ ap (λ l. l ++ drop 6 d.rest) six in
      let behind : body ≡ a.front ++ (b.front ++ (c.front ++ (d.front ++ (0 ∷ 4 ∷ 0xFF ∷ 0xFF ∷ 0 ∷ 0 ∷ drop 6 d.rest)))) =
      a.is ∙ ap (λ l. a.front ++ l) (b.is ∙ ap (λ l. b.front ++ l) (c.is ∙ ap (λ l. c.front ++ l) (d.is ∙ ap (λ l. d.front ++ l) end))) in
      let asked : IsRequest 0xFEFE body (asked_for c.front) = subst (λ l. IsRequest 0xFEFE l (asked_for c.front)) (sym behind)
      (identify_spelled a.front b.front c.front d.front (drop 6 d.rest) a.wide b.wide c.wide d.wide first second) in
      let frame_id : big_number 2 id ≡ 0xFEFE = sym (laid_id octets to from type id body laid) ∙ tested _ 0xFEFE one.1 in
      let taken : is_taken identity (record { octets = to }) 0xFEFE ≡ true = or_right (is_own identity (record { octets = to })) _
      (ap (λ l. pointwise nat_eq l (0x01 ∷ 0x0E ∷ 0xCF ∷ 0 ∷ 0 ∷ 0 ∷ [])) (sym (laid_to octets to from type id body laid)) ∙ group) in
      record {
        source = record { octets = from };
        xid = c.front;
        is = frame_asked identity bytes (record { destination = record { octets = to }; source = record { octets = from }; tag = tag; content = RealTime (big_number 2 id) body })
            (big_number 2 id) body (asked_for c.front) spelled short refl frame_id taken asked;
      }

all_asked : (identity : Identity) (bytes : List ℕ) → is_for_all (untagged bytes) ≡ true → IsAskedAll identity bytes
all_asked identity bytes asks =
    let frame : List ℕ = untagged bytes in
    let to_all : Bool = pointwise nat_eq (take 6 frame) (0x01 ∷ 0x0E ∷ 0xCF ∷ 0 ∷ 0 ∷ 0 ∷ []) in
    let of_all : Bool = pointwise nat_eq (part 24 6 frame) (0 ∷ 4 ∷ 0xFF ∷ 0xFF ∷ 0 ∷ 0 ∷ []) in
    let four = and_parts (is_dcp 0xFEFE 5 0 frame && nat_le 30 (length frame) && nat_le (length frame) 1514 && to_all) of_all asks in
    let three = and_parts (is_dcp 0xFEFE 5 0 frame && nat_le 30 (length frame) && nat_le (length frame) 1514) to_all four.0 in
    let two = and_parts (is_dcp 0xFEFE 5 0 frame && nat_le 30 (length frame)) (nat_le (length frame) 1514) three.0 in
    let one = and_parts (is_dcp 0xFEFE 5 0 frame) (nat_le 30 (length frame)) two.0 in
    let type_is : number 12 2 frame ≡ 0x8892 = tested _ 0x8892 (and_parts _ _ (and_parts _ _ (and_parts _ _ one.0).0).0).0 in
    let long : 30 ≤ length frame = below 30 (length frame) one.1 in
    let it = framed bytes type_is (below _ 1514 two.1) (more_than (length frame) long) in
    laid_asked identity bytes frame it.to it.from it.type it.id it.body it.laid it.tag it.spelled it.short one.0 long three.1 four.1
  where
    more_than : (n : ℕ) → 30 ≤ n → 16 ≤ n
    more_than n few = omega arith

all_match : (identity : Identity) (settings : Settings) (alias : Option (List ℕ)) (xid : List ℕ) → matches identity settings alias (asked_for xid) ≡ true
unfolding matches
all_match identity settings alias xid = refl

-- One frame is sent and handed on.
pub all_answered : (outcomes : List Outcome) (station : Station) (live : Live) (bytes : List ℕ) → live.values.is_lost ≡ false → is_for_all (untagged bytes) ≡ true
    → length (handed (step_of outcomes station live (Frame (record { items = bytes })))) ≡ 1
unfolding heard_step handled_step
all_answered outcomes station live bytes power asks =
    let it = all_asked station.identity bytes asks in
    let what : handled station live (heard_of station.identity (Frame (record { items = bytes }))) ≡ Moves live.rest (IdentifyAnswer it.source live.values.running (asked_for it.xid).xid ∷ []) =
    ap (handled station live) it.is ∙ cond-true _ _ _ (all_match station.identity live.values.running (alias_in live.rest.peer) it.xid) in
    ap (λ what. length (handed (handled_step outcomes station live what))) what ∙ ap length (cond-false _ _ _ power)
