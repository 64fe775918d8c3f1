-- A Set that is whole is read.
use Rattle.std.proofs.Common.{◌≡◌, ◌≤◌, ◌<◌, ◌==◌, ◌&&◌, ◌+◌, ◌*◌, ◌/◌, ◌%◌, ℕ, zero, suc, Bool, true, false, nat_eq, nat_le, List, [], ◌∷◌, ◌++◌, length, take, drop, Option, Some, None, Ok, refl, sym, ap, subst, ◌∙◌, arith}
use Rattle.std.proofs.lemmas.List.{drop-drop, length-append, length-drop, length-take, length-take-le, take-append-drop}
use Rattle.std.proofs.lemmas.Bool.{and_parts, cond-false, cond-true, or_left}
use Rattle.std.specs.Cmp.Lexicographic.{pointwise}
use Rattle.byteorder.specs.Endian.{big_number}
use Rattle.wire.specs.Filled.{SpellAll}
use Rattle.pn_values.specs.declared.mac.Mac.{Mac}
use Rattle.pn_values.specs.declared.identity.Identity.{Identity}
use Rattle.frame_codec.specs.Frame.{ethernet, frame_of, layers, longest, mac, real_time, tag_and_type}
use Rattle.frame_codec.specs.Meaning.{Meaning, RealTime}
use Rattle.frame_codec.proofs.Frames.{frame_again}
use Rattle.dcp_core.specs.declared.request.Service.TheVariants.{Set as SetService}
use Rattle.dcp_core.specs.Format.{block, block_of, blocks_of, data_of, header_and_data, kind, request}
use Rattle.dcp_core.specs.Kinds.{kind_of}
use Rattle.dcp_core.specs.Reading.{IsRequest}
use Rattle.dcp_core.specs.Request.{Asked, AskedBlock}
use Rattle.dcp_core.proofs.Sound.{request_again}
use Rattle.device_frames.specs.declared.event.Event.TheVariants.{Frame}
use Rattle.device_frames.specs.Heard.{Asks, heard_content, heard_frame, heard_of, heard_request, is_own, is_taken}
use Rattle.octets_law.specs.Octets.{are_whole, is_dcp, is_whole, number, part, untagged}
use Rattle.octets_law.proofs.Bare.{tagged}
use Rattle.octets_law.proofs.CallPlaces.{skip}
use Rattle.octets_law.proofs.CallReads.{below, tested}
use Rattle.octets_law.proofs.SetFrames.{take_front}
use Rattle.octets_law.proofs.SetHeard.{IsSetRead, IsTimely, one_front, set_read, timely, two_ahead}

-- ---- the blocks

-- The octets are these blocks.
pub record AreSpelled (most : ℕ) (octets : List ℕ) : Type 0 where
  pub blocks : List AskedBlock
  pub spelled : SpellAll (block_of SetService) octets blocks
  pub few : length blocks ≤ most

even_size : (n : ℕ) → n + n % 2 ≡ (n + 1) / 2 * 2
even_size n = omega arith

some_length : (first : ℕ) (behind : List ℕ) → 0 < length (first ∷ behind)
some_length first behind = omega arith

one_block : (a b c d : ℕ) (behind : List ℕ) → 2 ≤ number 2 2 (a ∷ b ∷ c ∷ d ∷ behind) → number 2 2 (a ∷ b ∷ c ∷ d ∷ behind) ≤ length behind
    → (block_of SetService).Spells (a ∷ b ∷ c ∷ d ∷ behind) (record { kind = kind_of (big_number 1 (a ∷ [])) (big_number 1 (b ∷ [])); contents = take (number 2 2 (a ∷ b ∷ c ∷ d ∷ behind)) behind })
    (drop (4 + (number 2 2 (a ∷ b ∷ c ∷ d ∷ behind) + 1) / 2 * 2) (a ∷ b ∷ c ∷ d ∷ behind))
unfolding block_of block kind
one_block a b c d behind least there =
    let size : ℕ = number 2 2 (a ∷ b ∷ c ∷ d ∷ behind) in
    let contents : List ℕ = take size behind in
    let wide : length contents ≡ size = length-take-le size behind there in
    let asked : AskedBlock = record { kind = kind_of (big_number 1 (a ∷ [])) (big_number 1 (b ∷ [])); contents = contents } in (
      (asked, tt),
      refl,
      (
        drop size behind,
        (
          (asked.kind, contents),
          refl,
          (
            c ∷ d ∷ behind,
            ((big_number 1 (a ∷ []), big_number 1 (b ∷ [])), refl, (b ∷ c ∷ d ∷ behind, (a ∷ [], refl, refl, refl), (b ∷ [], refl, refl, refl))),
            (contents, behind, (c ∷ d ∷ [], refl, refl, wide), sym (take-append-drop size behind), (refl, subst (λ n. 2 ≤ n) (sym wide) least)),
          ),
        ),
        skip ((size + 1) / 2 * 2) 4 (a ∷ b ∷ c ∷ d ∷ []) behind refl ∙ ap (λ n. drop n behind) (sym (even_size size)) ∙ sym (ap (λ n. drop (n % 2) (drop size behind)) wide ∙ drop-drop (size % 2) size behind),
      ),
    )

short_no : (first : ℕ) (behind : List ℕ) (most : ℕ) → length (first ∷ behind) < 4 → are_whole (suc most) (first ∷ behind) ≡ true → ⊥
short_no first behind most short whole =
    let size : ℕ = number 2 2 (first ∷ behind) in
    let tests = and_parts (nat_le 2 size && nat_le (4 + size) (length (first ∷ behind))) (are_whole most (drop (4 + (size + 1) / 2 * 2) (first ∷ behind))) whole in
    let there = below (4 + size) (length (first ∷ behind)) (and_parts (nat_le 2 size) (nat_le (4 + size) (length (first ∷ behind))) tests.0).1 in
    omega arith

-- Octets that are whole are blocks.
pub whole_blocks : (most : ℕ) (octets : List ℕ) → are_whole most octets ≡ true → AreSpelled most octets
whole_blocks most [] whole = record { blocks = []; spelled = refl; few = omega arith }
whole_blocks zero (first ∷ behind) whole = absurd cc
whole_blocks (suc most) (a ∷ b ∷ c ∷ d ∷ behind) whole =
    let size : ℕ = number 2 2 (a ∷ b ∷ c ∷ d ∷ behind) in
    let tests = and_parts (nat_le 2 size && nat_le (4 + size) (length (a ∷ b ∷ c ∷ d ∷ behind))) (are_whole most (drop (4 + (size + 1) / 2 * 2) (a ∷ b ∷ c ∷ d ∷ behind))) whole in
    let sizes = and_parts (nat_le 2 size) (nat_le (4 + size) (length (a ∷ b ∷ c ∷ d ∷ behind))) tests.0 in
    let least = below 2 size sizes.0 in
    let there = below (4 + size) (length (a ∷ b ∷ c ∷ d ∷ behind)) sizes.1 in
    let others = whole_blocks most (drop (4 + (size + 1) / 2 * 2) (a ∷ b ∷ c ∷ d ∷ behind)) tests.1 in
    record {
      blocks = record { kind = kind_of (big_number 1 (a ∷ [])) (big_number 1 (b ∷ [])); contents = take size behind } ∷ others.blocks;
      spelled = (some_length a (b ∷ c ∷ d ∷ behind), drop (4 + (size + 1) / 2 * 2) (a ∷ b ∷ c ∷ d ∷ behind), one_block a b c d behind least (omega arith), others.spelled);
      few = let f = others.few in omega arith;
    }
whole_blocks (suc most) (a ∷ b ∷ c ∷ []) whole = absurd (short_no a (b ∷ c ∷ []) most (omega arith) whole)
whole_blocks (suc most) (a ∷ b ∷ []) whole = absurd (short_no a (b ∷ []) most (omega arith) whole)
whole_blocks (suc most) (a ∷ []) whole = absurd (short_no a [] most (omega arith) whole)

-- ---- the request

-- Octets after a FrameID that are a Set of these blocks.
request_spelled : (first second xid delay size inside rest : List ℕ) → length first ≡ 1 → length second ≡ 1 → length xid ≡ 4 → length delay ≡ 2 → length size ≡ 2
    → big_number 1 first ≡ 4 → big_number 1 second ≡ 0 → big_number 2 size ≡ length inside → (whole : AreSpelled 16 inside)
    → IsRequest 0xFEFD (first ++ (second ++ (xid ++ (delay ++ (size ++ (inside ++ rest)))))) (record { service = SetService; xid = big_number 4 xid; blocks = whole.blocks })
unfolding IsRequest request header_and_data data_of blocks_of
request_spelled first second xid delay size inside rest l m n o p four none sized whole = (
  rest,
  (
    ((4, (0, (big_number 4 xid, tt))), (SetService, whole.blocks)),
    refl,
    (
      size ++ (inside ++ rest),
      (
        second ++ (xid ++ (delay ++ (size ++ (inside ++ rest)))),
        (first, l, refl, sym four),
        (
          xid ++ (delay ++ (size ++ (inside ++ rest))),
          (second, m, refl, sym none),
          (delay ++ (size ++ (inside ++ rest)), (xid, n, refl, refl), (big_number 2 delay, refl, (delay, o, refl, refl))),
        ),
      ),
      (inside, inside ++ rest, (size, p, refl, sym sized), refl, (whole.blocks, refl, (whole.spelled, whole.few))),
    ),
  ),
)

-- ---- the frame

-- Without a tag.
plain_spelled : (to from type id body : List ℕ) → length to ≡ 6 → length from ≡ 6 → length type ≡ 2 → length id ≡ 2 → big_number 2 type ≡ 0x8892
    → layers.Spells (to ++ (from ++ (type ++ (id ++ body))))
    (record { destination = record { octets = to }; source = record { octets = from }; tag = None; content = RealTime (big_number 2 id) body })
unfolding layers ethernet mac tag_and_type real_time
plain_spelled to from type id body t f two i is = (
  (record { destination = record { octets = to }; source = record { octets = from }; tag = None; ether_type = 0x8892 }, RealTime (big_number 2 id) body),
  refl,
  (
    id ++ body,
    (
      (record { octets = to }, (record { octets = from }, (None, 0x8892))),
      refl,
      (
        from ++ (type ++ (id ++ body)),
        (to, refl, (t, refl)),
        (type ++ (id ++ body), (from, refl, (f, refl)), ((0x8892, None), refl, (id ++ body, (type, two, refl, sym is), (refl, refl)))),
      ),
    ),
    ((big_number 2 id, body), refl, (body, (id, i, refl, refl), refl)),
  ),
)

-- With one.
tagged_spelled : (to from first tag type id body : List ℕ) → length to ≡ 6 → length from ≡ 6 → length first ≡ 2 → length tag ≡ 2 → length type ≡ 2 → length id ≡ 2
    → big_number 2 first ≡ 0x8100 → big_number 2 type ≡ 0x8892
    → layers.Spells (to ++ (from ++ (first ++ (tag ++ (type ++ (id ++ body))))))
    (record { destination = record { octets = to }; source = record { octets = from }; tag = Some (big_number 2 tag); content = RealTime (big_number 2 id) body })
unfolding layers ethernet mac tag_and_type real_time
tagged_spelled to from first tag type id body t f one g two i vlan is = (
  (record { destination = record { octets = to }; source = record { octets = from }; tag = Some (big_number 2 tag); ether_type = 0x8892 }, RealTime (big_number 2 id) body),
  refl,
  (
    id ++ body,
    (
      (record { octets = to }, (record { octets = from }, (Some (big_number 2 tag), 0x8892))),
      refl,
      (
        from ++ (first ++ (tag ++ (type ++ (id ++ body)))),
        (to, refl, (t, refl)),
        (
          first ++ (tag ++ (type ++ (id ++ body))),
          (from, refl, (f, refl)),
          (
            (0x8100, Some (big_number 2 tag, 0x8892)),
            refl,
            (
              tag ++ (type ++ (id ++ body)),
              (first, one, refl, sym vlan),
              ((big_number 2 tag, 0x8892), refl, (type ++ (id ++ body), (tag, g, refl, refl), (type, two, refl, sym is))),
            ),
          ),
        ),
      ),
    ),
    ((big_number 2 id, body), refl, (body, (id, i, refl, refl), refl)),
  ),
)

-- A frame is heard as a Set, which is read of these octets.
pub record IsHeard (identity : Identity) (bytes octets : List ℕ) : Type 0 where
  pub source : Mac
  pub request : Asked
  pub is : heard_of identity (Frame (record { items = bytes })) ≡ Asks source request
  pub sets : request.service ≡ SetService
  pub read : IsSetRead octets request

frame_heard : (identity : Identity) (bytes octets : List ℕ) (meaning : Meaning) (id : ℕ) (body : List ℕ) (request : Asked) → layers.Spells bytes meaning → length bytes ≤ longest meaning.tag
    → meaning.content ≡ RealTime id body → id ≡ 0xFEFD → pointwise nat_eq meaning.destination.octets identity.mac.octets ≡ true → IsRequest 0xFEFD body request → request.service ≡ SetService
    → IsSetRead octets request → IsHeard identity bytes octets
unfolding heard_of
frame_heard identity bytes octets meaning id body request spelled short content is own asks sets set =
    let read : frame_of bytes ≡ Ok meaning = frame_again bytes meaning (record { spelled = spelled; short = short }) in
    let taken : is_taken identity meaning.destination 0xFEFD ≡ true = or_left (is_own identity meaning.destination) _ own in
    record {
      source = meaning.source;
      request = request;
      is = ap (heard_frame identity) read ∙ ap (heard_content identity meaning.destination meaning.source) (content ∙ ap (λ n. RealTime n body) is)
          ∙ cond-true (is_taken identity meaning.destination 0xFEFD) _ _ taken ∙ ap (heard_request meaning.source) (request_again 0xFEFD body request asks);
      sets = sets;
      read = set;
    }

-- ---- a Set

-- Octets in two parts.
pub record IsSplit (n : ℕ) (octets : List ℕ) : Type 0 where
  pub front : List ℕ
  pub rest : List ℕ
  pub wide : length front ≡ n
  pub is : octets ≡ front ++ rest
  pub counted : length octets ≡ n + length rest

pub split : (n : ℕ) (octets : List ℕ) → n ≤ length octets → IsSplit n octets
split n octets few =
    let wide : length (take n octets) ≡ n = length-take-le n octets few in
    record {
      front = take n octets;
      rest = drop n octets;
      wide = wide;
      is = sym (take-append-drop n octets);
      counted = ap length (sym (take-append-drop n octets)) ∙ length-append (take n octets) (drop n octets) ∙ ap (λ m. m + length (drop n octets)) wide;
    }

-- What is after the stations, the EtherType and the FrameID of a frame.
pub record IsLaid (octets to from type id body : List ℕ) : Type 0 where
  pub is : octets ≡ to ++ (from ++ (type ++ (id ++ body)))
  pub to_wide : length to ≡ 6
  pub from_wide : length from ≡ 6
  pub type_wide : length type ≡ 2
  pub id_wide : length id ≡ 2

pub laid_behind : (octets to from type id body : List ℕ) → IsLaid octets to from type id body → (k : ℕ) → drop (6 + (6 + (2 + (2 + k)))) octets ≡ drop k body
laid_behind octets to from type id body it k =
    ap (drop (6 + (6 + (2 + (2 + k))))) it.is ∙ skip (6 + (2 + (2 + k))) 6 to _ it.to_wide ∙ skip (2 + (2 + k)) 6 from _ it.from_wide ∙ skip (2 + k) 2 type _ it.type_wide
    ∙ skip k 2 id body it.id_wide

laid_type : (octets to from type id body : List ℕ) → IsLaid octets to from type id body → number 12 2 octets ≡ big_number 2 type
laid_type octets to from type id body it =
    ap (number 12 2) it.is ∙ ap (big_number 2) (skip 6 6 to _ it.to_wide ∙ skip 0 6 from _ it.from_wide) ∙ two_ahead type (id ++ body) it.type_wide

pub laid_id : (octets to from type id body : List ℕ) → IsLaid octets to from type id body → number 14 2 octets ≡ big_number 2 id
laid_id octets to from type id body it =
    ap (number 14 2) it.is ∙ ap (big_number 2) (skip 8 6 to _ it.to_wide ∙ skip 2 6 from _ it.from_wide ∙ skip 0 2 type _ it.type_wide) ∙ two_ahead id body it.id_wide

pub laid_length : (octets to from type id body : List ℕ) → IsLaid octets to from type id body → length octets ≡ 16 + length body
laid_length octets to from type id body it =
    let a = ap length it.is in let b = length-append to (from ++ (type ++ (id ++ body))) in let c = length-append from (type ++ (id ++ body)) in
    let d = length-append type (id ++ body) in let e = length-append id body in
    let p = it.to_wide in let q = it.from_wide in let r = it.type_wide in let s = it.id_wide in omega arith

pub laid_to : (octets to from type id body : List ℕ) → IsLaid octets to from type id body → take 6 octets ≡ to
laid_to octets to from type id body it = ap (take 6) it.is ∙ subst (λ n. take n (to ++ (from ++ (type ++ (id ++ body)))) ≡ to) it.to_wide (take_front to _)

module _ (identity : Identity) (bytes octets to from type id body : List ℕ) (laid : IsLaid octets to from type id body) (tag : Option ℕ)
    (spelled : layers.Spells bytes (record { destination = record { octets = to }; source = record { octets = from }; tag = tag; content = RealTime (big_number 2 id) body }))
    (short : length bytes ≤ longest tag) (own : pointwise nat_eq (take 6 octets) identity.mac.octets ≡ true)
    (asks : is_dcp 0xFEFD 4 0 octets ≡ true) (whole : is_whole octets ≡ true) where
  abbrev size : ℕ
  size = number 24 2 octets

  -- The octets of a whole Set are heard as one.
  laid_heard : IsHeard identity bytes octets
  laid_heard =
      let three = and_parts (number 12 2 octets == 0x8892 && number 14 2 octets == 0xFEFD && number 16 1 octets == 4) (number 17 1 octets == 0) asks in
      let two = and_parts (number 12 2 octets == 0x8892 && number 14 2 octets == 0xFEFD) (number 16 1 octets == 4) three.0 in
      let one = and_parts (number 12 2 octets == 0x8892) (number 14 2 octets == 0xFEFD) two.0 in
      let framed = and_parts (nat_le (length octets) 1514 && nat_le (26 + size) (length octets)) (are_whole 16 (part 26 size octets)) whole in
      let there = below (26 + size) (length octets) (and_parts (nat_le (length octets) 1514) (nat_le (26 + size) (length octets)) framed.0).1 in
      let long = laid_length octets to from type id body laid in
      let a = split 1 body (omega arith) in
      let ac = a.counted in
      let b = split 1 a.rest (omega arith) in
      let bc = b.counted in
      let c = split 4 b.rest (omega arith) in
      let third = c.counted in
      let d = split 2 c.rest (omega arith) in
      let dc = d.counted in
      let e = split 2 d.rest (omega arith) in
      let ec = e.counted in
      let f = split size e.rest (omega arith) in
      let behind : body ≡ a.front ++ (b.front ++ (c.front ++ (d.front ++ (e.front ++ (f.front ++ f.rest))))) =
      a.is ∙ ap (λ l. a.front ++ l) (b.is ∙ ap (λ l. b.front ++ l) (c.is ∙ ap (λ l. c.front ++ l) (d.is ∙ ap (λ l. d.front ++ l) (e.is ∙ ap (λ l. e.front ++ l) f.is)))) in
      let at = laid_behind octets to from type id body laid in
      let at_second : drop 1 body ≡ a.rest = ap (drop 1) a.is ∙ skip 0 1 a.front a.rest a.wide in
      let at_third : (k : ℕ) → drop (1 + (1 + k)) body ≡ drop k b.rest =
      λ k. ap (drop (1 + (1 + k))) a.is ∙ skip (1 + k) 1 a.front a.rest a.wide ∙ ap (drop (1 + k)) b.is ∙ skip k 1 b.front b.rest b.wide in
      let at_size : drop 8 body ≡ d.rest = at_third 6 ∙ ap (drop 6) c.is ∙ skip 2 4 c.front c.rest c.wide ∙ ap (drop 2) d.is ∙ skip 0 2 d.front d.rest d.wide in
      let at_blocks : drop 10 body ≡ e.rest =
      at_third 8 ∙ ap (drop 8) c.is ∙ skip 4 4 c.front c.rest c.wide ∙ ap (drop 4) d.is ∙ skip 2 2 d.front d.rest d.wide ∙ ap (drop 2) e.is ∙ skip 0 2 e.front e.rest e.wide in
      let first : big_number 1 a.front ≡ 4 = sym (ap (big_number 1) (at 0 ∙ a.is) ∙ one_front a.front a.rest a.wide) ∙ tested _ 4 two.1 in
      let second : big_number 1 b.front ≡ 0 = sym (ap (big_number 1) (at 1 ∙ at_second ∙ b.is) ∙ one_front b.front b.rest b.wide) ∙ tested _ 0 three.1 in
      let sized : big_number 2 e.front ≡ length f.front = sym (ap (big_number 2) (at 8 ∙ at_size ∙ e.is) ∙ two_ahead e.front e.rest e.wide) ∙ sym f.wide in
      let blocks : AreSpelled 16 f.front =
      whole_blocks 16 f.front (subst (λ l. are_whole 16 l ≡ true) (ap (take size) (at 10 ∙ at_blocks ∙ f.is) ∙ ap (λ n. take n (f.front ++ f.rest)) (sym f.wide) ∙ take_front f.front f.rest) framed.1) in
      let request : Asked = record { service = SetService; xid = big_number 4 c.front; blocks = blocks.blocks } in
      let asked : IsRequest 0xFEFD body request = subst (λ l. IsRequest 0xFEFD l request) (sym behind)
      (request_spelled a.front b.front c.front d.front e.front f.front f.rest a.wide b.wide c.wide d.wide e.wide first second sized blocks) in
      let frame_id : big_number 2 id ≡ 0xFEFD = sym (laid_id octets to from type id body laid) ∙ tested _ 0xFEFD one.1 in
      let ether : big_number 2 type ≡ 0x8892 = sym (laid_type octets to from type id body laid) ∙ tested _ 0x8892 one.0 in
      let timed : IsTimely octets 0xFEFD body = subst (λ l. IsTimely l 0xFEFD body) (sym laid.is)
      (timely to from type id body 0xFEFD laid.to_wide laid.from_wide laid.type_wide laid.id_wide ether (sym frame_id)) in
      let read = set_read octets body 0xFEFD request timed asked in
      frame_heard identity bytes octets (record { destination = record { octets = to }; source = record { octets = from }; tag = tag; content = RealTime (big_number 2 id) body })
      (big_number 2 id) body request spelled short refl frame_id
      (ap (λ l. pointwise nat_eq l identity.mac.octets) (sym (laid_to octets to from type id body laid)) ∙ own) asked refl read.1

-- A frame of real time, in its parts.
pub record IsFramed (bytes octets : List ℕ) : Type 0 where
  pub to : List ℕ
  pub from : List ℕ
  pub type : List ℕ
  pub id : List ℕ
  pub body : List ℕ
  pub laid : IsLaid octets to from type id body
  pub tag : Option ℕ
  pub spelled : layers.Spells bytes (record { destination = record { octets = to }; source = record { octets = from }; tag = tag; content = RealTime (big_number 2 id) body })
  pub short : length bytes ≤ longest tag

four_more : (n a b v t c body u : ℕ) → n ≡ 6 + a → a ≡ 6 + b → b ≡ 2 + v → v ≡ 2 + t → t ≡ 2 + c → c ≡ 2 + body → u ≡ 16 + body → u ≤ 1514 → n ≤ 1518
four_more n a b v t c body u e f g h i j k l = omega arith

plain_framed : (bytes : List ℕ) → untagged bytes ≡ bytes → number 12 2 (untagged bytes) ≡ 0x8892 → length bytes ≤ 1514 → 16 ≤ length bytes → IsFramed bytes (untagged bytes)
plain_framed bytes same type_is most least =
    let a = split 6 bytes (omega arith) in
    let ac = a.counted in
    let b = split 6 a.rest (omega arith) in
    let bc = b.counted in
    let c = split 2 b.rest (omega arith) in
    let cd = c.counted in
    let d = split 2 c.rest (omega arith) in
    let is : bytes ≡ a.front ++ (b.front ++ (c.front ++ (d.front ++ d.rest))) = a.is ∙ ap (λ l. a.front ++ l) (b.is ∙ ap (λ l. b.front ++ l) (c.is ∙ ap (λ l. c.front ++ l) d.is)) in
    let laid : IsLaid (untagged bytes) a.front b.front c.front d.front d.rest = record { is = same ∙ is; to_wide = a.wide; from_wide = b.wide; type_wide = c.wide; id_wide = d.wide } in
    let ether : big_number 2 c.front ≡ 0x8892 = sym (laid_type (untagged bytes) a.front b.front c.front d.front d.rest laid) ∙ type_is in
    record {
      to = a.front;
      from = b.front;
      type = c.front;
      id = d.front;
      body = d.rest;
      laid = laid;
      tag = None;
      spelled = subst (λ l. layers.Spells l (record { destination = record { octets = a.front }; source = record { octets = b.front }; tag = None; content = RealTime (big_number 2 d.front) d.rest })) (sym is)
          (plain_spelled a.front b.front c.front d.front d.rest a.wide b.wide c.wide d.wide ether);
      short = most;
    }

tagged_framed : (bytes : List ℕ) → (number 12 2 bytes == 0x8100) ≡ true → number 12 2 (untagged bytes) ≡ 0x8892 → length (untagged bytes) ≤ 1514 → 20 ≤ length bytes → IsFramed bytes (untagged bytes)
tagged_framed bytes vlan type_is most least =
    let a = split 6 bytes (omega arith) in
    let ac = a.counted in
    let b = split 6 a.rest (omega arith) in
    let bc = b.counted in
    let v = split 2 b.rest (omega arith) in
    let vc = v.counted in
    let t = split 2 v.rest (omega arith) in
    let tc = t.counted in
    let c = split 2 t.rest (omega arith) in
    let cd = c.counted in
    let d = split 2 c.rest (omega arith) in
    let is : bytes ≡ a.front ++ (b.front ++ (v.front ++ (t.front ++ (c.front ++ (d.front ++ d.rest))))) =
    a.is ∙ ap (λ l. a.front ++ l) (b.is ∙ ap (λ l. b.front ++ l) (v.is ∙ ap (λ l. v.front ++ l) (t.is ∙ ap (λ l. t.front ++ l) (c.is ∙ ap (λ l. c.front ++ l) d.is)))) in
    let first : number 12 2 bytes ≡ big_number 2 v.front =
    ap (number 12 2) (a.is ∙ ap (λ l. a.front ++ l) (b.is ∙ ap (λ l. b.front ++ l) v.is)) ∙ ap (big_number 2) (skip 6 6 a.front _ a.wide ∙ skip 0 6 b.front _ b.wide) ∙ two_ahead v.front v.rest v.wide in
    let bare : untagged bytes ≡ a.front ++ (b.front ++ (c.front ++ (d.front ++ d.rest))) =
    ap untagged is ∙ tagged a.front b.front v.front t.front c.front (d.front ++ d.rest) a.wide b.wide v.wide t.wide (ap (λ n. n == 0x8100) (sym first) ∙ vlan) in
    let laid : IsLaid (untagged bytes) a.front b.front c.front d.front d.rest = record { is = bare; to_wide = a.wide; from_wide = b.wide; type_wide = c.wide; id_wide = d.wide } in
    let ether : big_number 2 c.front ≡ 0x8892 = sym (laid_type (untagged bytes) a.front b.front c.front d.front d.rest laid) ∙ type_is in
    record {
      to = a.front;
      from = b.front;
      type = c.front;
      id = d.front;
      body = d.rest;
      laid = laid;
      tag = Some (big_number 2 t.front);
      spelled = subst (λ l. layers.Spells l (record { destination = record { octets = a.front }; source = record { octets = b.front }; tag = Some (big_number 2 t.front); content = RealTime (big_number 2 d.front) d.rest }))
          (sym is) (tagged_spelled a.front b.front v.front t.front c.front d.front d.rest a.wide b.wide v.wide t.wide c.wide d.wide (sym first ∙ tested _ 0x8100 vlan) ether);
      short = four_more (length bytes) (length a.rest) (length b.rest) (length v.rest) (length t.rest) (length c.rest) (length d.rest) (length (untagged bytes))
          a.counted b.counted v.counted t.counted c.counted d.counted (laid_length (untagged bytes) a.front b.front c.front d.front d.rest laid) most;
    }

enough : (bytes : List ℕ) → length (untagged bytes) ≡ length (take 12 bytes) + length (drop 16 bytes) → 16 ≤ length (untagged bytes) → 20 ≤ length bytes
enough bytes long least = omega (arith, length-take 12 bytes, length-drop 16 bytes)

-- A frame of real time is one in these parts.
pub framed : (bytes : List ℕ) → number 12 2 (untagged bytes) ≡ 0x8892 → length (untagged bytes) ≤ 1514 → 16 ≤ length (untagged bytes) → IsFramed bytes (untagged bytes)
framed bytes type_is most least = by_tag (number 12 2 bytes == 0x8100) refl
  where
    by_tag : (b : Bool) → (number 12 2 bytes == 0x8100) ≡ b → IsFramed bytes (untagged bytes)
    by_tag false plain =
        let same : untagged bytes ≡ bytes = cond-false _ _ _ plain in
        plain_framed bytes same type_is (subst (λ l. length l ≤ 1514) same most) (subst (λ l. 16 ≤ length l) same least)
    by_tag true vlan =
        tagged_framed bytes vlan type_is most (enough bytes (ap length (cond-true _ _ _ vlan) ∙ length-append (take 12 bytes) (drop 16 bytes)) least)

-- A whole Set to this device is heard as one.
pub whole_heard : (identity : Identity) (bytes : List ℕ) → pointwise nat_eq (take 6 (untagged bytes)) identity.mac.octets ≡ true
    → is_dcp 0xFEFD 4 0 (untagged bytes) ≡ true → is_whole (untagged bytes) ≡ true → IsHeard identity bytes (untagged bytes)
whole_heard identity bytes own asks whole =
    let type_is : number 12 2 (untagged bytes) ≡ 0x8892 = tested _ 0x8892 (and_parts _ _ (and_parts _ _ (and_parts _ _ asks).0).0).0 in
    let sized = and_parts (nat_le (length (untagged bytes)) 1514 && nat_le (26 + number 24 2 (untagged bytes)) (length (untagged bytes))) _ whole in
    let both = and_parts (nat_le (length (untagged bytes)) 1514) (nat_le (26 + number 24 2 (untagged bytes)) (length (untagged bytes))) sized.0 in
    let it = framed bytes type_is (below _ 1514 both.0) (least_of (number 24 2 (untagged bytes)) (length (untagged bytes)) (below _ _ both.1)) in
    laid_heard identity bytes (untagged bytes) it.to it.from it.type it.id it.body it.laid it.tag it.spelled it.short own asks whole
  where
    least_of : (n m : ℕ) → 26 + n ≤ m → 16 ≤ m
    least_of n m few = omega arith
