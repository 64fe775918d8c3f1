-- A frame of real time, read at fixed places: what the format reads is there, and what is there is read.
use Rattle.std.proofs.Common.{◌≡◌, ◌+◌, ◌*◌, ◌≤◌, ◌<◌, ◌==◌, ℕ, Bool, true, false, List, [], ◌∷◌, ◌++◌, length, take, drop, get_or, Option, Some, None, Ok, refl, sym, ap, subst, ◌∙◌, append_assoc, arith}
use Rattle.std.proofs.lemmas.Bool.{cond-false, cond-true, eqb-true}
use Rattle.std.proofs.lemmas.List.{drop-drop, drop_at, get_or-drop, length-append, length-drop, length-take-le, take-append-drop, take_at}
use Rattle.byteorder.specs.Endian.{big_bytes, big_number}
use Rattle.byteorder.specs.Numbers.{big_number-reads_back, length-bytes_high_first}
use Rattle.pn_values.specs.declared.mac.Mac.{Mac}
use Rattle.wire.specs.Formats.{number as field, when, ◌⨾◌}
use Rattle.wire.specs.Whole.{pick, refused}
use Rattle.frame_codec.specs.declared.fault.FrameFault.TheVariants.{EtherType, Tag, TooShort}
use Rattle.frame_codec.specs.Meaning.{ArpPacket, Content, Meaning, RealTime, UdpDatagram}
use Rattle.frame_codec.specs.declared.udp.Endpoint.{Endpoint}
use Rattle.frame_codec.specs.Frame.{IsFrame, arp, content_under, datagram, ethernet, frame_bytes, frame_of, layers, longest, mac, padding_of, real_time, tag_and_type, tag_and_type_of, type_of}
use Rattle.frame_codec.specs.Sendable.{carrying}
use Rattle.frame_codec.proofs.Frames.{frame_again, frame_takes}
use Rattle.field_words.specs.Octets.{octet_at, part_at, type_place, word_at}

-- ---- octets and numbers of a list in parts

-- The octets after a front.
pub octet_behind : (front behind : List ℕ) (size place : ℕ) → length front ≡ size → octet_at (size + place) (front ++ behind) ≡ octet_at place behind
octet_behind front behind size place is =
    sym (get_or-drop size (front ++ behind) place 0) ∙ ap (λ (l : List ℕ). get_or l place 0) (drop_at front behind size is)

pub word_behind : (front behind : List ℕ) (size place : ℕ) → length front ≡ size → word_at (size + place) (front ++ behind) ≡ word_at place behind
word_behind front behind size place is =
    let next : size + place + 1 ≡ size + (place + 1) = omega arith in
    ap (λ (n : ℕ). n * 256 + octet_at (size + place + 1) (front ++ behind)) (octet_behind front behind size place is)
    ∙ (ap (λ (n : ℕ). octet_at place behind * 256 + octet_at n (front ++ behind)) next
    ∙ ap (λ (n : ℕ). octet_at place behind * 256 + n) (octet_behind front behind size (place + 1) is))

-- The number at the front of a list, as a format reads it.
pub two_read : (octets : List ℕ) → 2 ≤ length octets → word_at 0 octets ≡ big_number 2 octets
two_read (a ∷ b ∷ octets) long = omega arith
two_read (a ∷ []) long = absurd (omega arith)
two_read [] long = absurd (omega arith)

-- A number that is written.
pub word_written : (x : ℕ) (rest : List ℕ) → x < 65536 → word_at 0 (big_bytes 2 x ++ rest) ≡ x
word_written x rest few =
    let long : 2 ≤ length (big_bytes 2 x ++ rest) = omega (arith, length-append (big_bytes 2 x) rest, length-bytes_high_first 2 x) in
    two_read (big_bytes 2 x ++ rest) long ∙ big_number-reads_back 2 x rest few

-- A number in two octets.
pub two_front : (front behind : List ℕ) → length front ≡ 2 → word_at 0 (front ++ behind) ≡ big_number 2 front
two_front (a ∷ b ∷ []) behind is = omega arith
two_front (a ∷ b ∷ c ∷ front) behind is = absurd (omega arith)
two_front (a ∷ []) behind is = absurd (omega arith)
two_front [] behind is = absurd (omega arith)

pub word_dropped : (size place : ℕ) (octets : List ℕ) → word_at place (drop size octets) ≡ word_at (size + place) octets
word_dropped size place octets =
    let next : size + (place + 1) ≡ size + place + 1 = omega arith in
    ap (λ (n : ℕ). n * 256 + octet_at (place + 1) (drop size octets)) (get_or-drop size octets place 0)
    ∙ ap (λ (n : ℕ). octet_at (size + place) octets * 256 + n) (get_or-drop size octets (place + 1) 0 ∙ ap (λ (n : ℕ). octet_at n octets) next)

-- ---- what is read is there

-- A frame of real time with this meaning, at its places.
pub record IsRead (frame : List ℕ) (meaning : Meaning) (id : ℕ) (body : List ℕ) : Type 0 where
  pub destination : take 6 frame ≡ meaning.destination.octets
  pub source : part_at 6 6 frame ≡ meaning.source.octets
  pub type : word_at (type_place frame) frame ≡ 0x8892
  pub frame_id : word_at (type_place frame + 2) frame ≡ id
  pub rest : drop (type_place frame + 4) frame ≡ body
  pub long : type_place frame + 4 + length body ≡ length frame
  pub short : length frame ≤ type_place frame + 1502

-- Real-time data under an EtherType: the FrameID, and the octets after it.
record IsData (ether_type : ℕ) (octets : List ℕ) (id : ℕ) (body : List ℕ) : Type 0 where
  type : ether_type ≡ 0x8892
  front : List ℕ
  two : length front ≡ 2
  is : octets ≡ front ++ body
  id_is : id ≡ big_number 2 front

data_under : (ether_type : ℕ) (octets : List ℕ) (id : ℕ) (body : List ℕ) → (content_under ether_type).Spells octets (RealTime id body) → IsData ether_type octets id body
unfolding real_time arp datagram
data_under ether_type octets id body = by_tag (ether_type == 0x8100) (ether_type == 0x8892) refl (ether_type == 0x0806) (ether_type == 0x0800)
  where
    same_id : (a b : ℕ) (one other : List ℕ) → RealTime a one ≡ RealTime b other → a ≡ b
    same_id a b one other e = cc

    same_body : (a b : ℕ) (one other : List ℕ) → RealTime a one ≡ RealTime b other → one ≡ other
    same_body a b one other e = cc

    by_tag : (tag profinet : Bool) → (ether_type == 0x8892) ≡ profinet → (resolution internet : Bool)
        → (pick tag (refused Tag) (pick profinet real_time (pick resolution arp (pick internet datagram (refused EtherType))))).Spells octets (RealTime id body) → IsData ether_type octets id body
    by_tag true profinet e resolution internet spells = absurd spells
    by_tag false true e resolution internet spells =
        let spelled = spells.2 in
        record {
          type = eqb-true ether_type 0x8892 e;
          front = spelled.1.0;
          two = spelled.1.1;
          is = spelled.1.2 ∙ ap (λ (l : List ℕ). spelled.1.0 ++ l) (spelled.2 ∙ same_body _ _ _ _ spells.1);
          id_is = sym (same_id _ _ _ _ spells.1) ∙ spelled.1.3;
        }
    by_tag false false e true internet spells = absurd (let f = spells.1 in cc)
    by_tag false false e false true spells = absurd (let f = spells.1 in cc)
    by_tag false false e false false spells = absurd spells

-- The addresses, and what follows them.
pub record IsFront (frame : List ℕ) (to from behind : List ℕ) : Type 0 where
  pub to_six : length to ≡ 6
  pub from_six : length from ≡ 6
  pub is : frame ≡ to ++ (from ++ behind)

module _ (frame to from behind : List ℕ) (front : IsFront frame to from behind) where
  front_to : take 6 frame ≡ to
  front_to = ap (λ (l : List ℕ). take 6 l) front.is ∙ take_at to (from ++ behind) 6 front.to_six

  front_from : part_at 6 6 frame ≡ from
  front_from =
      ap (λ (l : List ℕ). take 6 (drop 6 l)) front.is ∙ (ap (λ (l : List ℕ). take 6 l) (drop_at to (from ++ behind) 6 front.to_six) ∙ take_at from behind 6 front.from_six)

  front_behind : drop 12 frame ≡ behind
  front_behind =
      sym (drop-drop 6 6 frame) ∙ (ap (λ (l : List ℕ). drop 6 (drop 6 l)) front.is ∙ (ap (λ (l : List ℕ). drop 6 l) (drop_at to (from ++ behind) 6 front.to_six)
      ∙ drop_at from behind 6 front.from_six))

  pub front_word : (place : ℕ) → word_at (12 + place) frame ≡ word_at place behind
  front_word place = sym (word_dropped 12 place frame) ∙ ap (λ (l : List ℕ). word_at place l) front_behind

  front_length : length frame ≡ 12 + length behind
  front_length =
      let e : length frame ≡ length (to ++ (from ++ behind)) = ap (λ (l : List ℕ). length l) front.is in
      omega (arith, e, length-append to (from ++ behind), length-append from behind, front.to_six, front.from_six)

-- A frame without a tag, and one with a tag.
pub plain_place : (frame : List ℕ) (n : ℕ) → word_at 12 frame ≡ n → (n == 0x8100) ≡ false → type_place frame ≡ 12
plain_place frame n is other = cond-false (word_at 12 frame == 0x8100) 16 12 (ap (λ (m : ℕ). m == 0x8100) is ∙ other)

pub tagged_place : (frame : List ℕ) (n : ℕ) → word_at 12 frame ≡ n → (n == 0x8100) ≡ true → type_place frame ≡ 16
tagged_place frame n is tag = cond-true (word_at 12 frame == 0x8100) 16 12 (ap (λ (m : ℕ). m == 0x8100) is ∙ tag)

-- The places after an EtherType that is at this place.
module _ (frame : List ℕ) (meaning : Meaning) (id : ℕ) (body : List ℕ) (place : ℕ) (is : type_place frame ≡ place) where
  read_at : take 6 frame ≡ meaning.destination.octets → part_at 6 6 frame ≡ meaning.source.octets → word_at place frame ≡ 0x8892 → word_at (place + 2) frame ≡ id
      → drop (place + 4) frame ≡ body → place + 4 + length body ≡ length frame → length frame ≤ place + 1502 → IsRead frame meaning id body
  read_at to from type number behind long short = record {
    destination = to;
    source = from;
    type = ap (λ (n : ℕ). word_at n frame) is ∙ type;
    frame_id = ap (λ (n : ℕ). word_at (n + 2) frame) is ∙ number;
    rest = ap (λ (n : ℕ). drop (n + 4) frame) is ∙ behind;
    long = ap (λ (n : ℕ). n + 4 + length body) is ∙ long;
    short = omega (arith, is, short);
  }

-- What follows the addresses, up to the content: the first two octets, and a tag with the EtherType after it if these say so.
module _ (frame to from behind : List ℕ) (front : IsFront frame to from behind) (meaning : Meaning) (id : ℕ) (body : List ℕ)
    (same_to : to ≡ meaning.destination.octets) (same_from : from ≡ meaning.source.octets) (short : length frame ≤ longest meaning.tag) where
  as_plain : (first octets : List ℕ) → length first ≡ 2 → behind ≡ first ++ octets → (big_number 2 first == 0x8100) ≡ false → meaning.tag ≡ None
      → IsData (big_number 2 first) octets id body → IsRead frame meaning id body
  as_plain first octets two is other tag carried =
      let word : word_at 12 frame ≡ big_number 2 first =
      front_word frame to from behind front 0 ∙ (ap (λ (l : List ℕ). word_at 0 l) is ∙ two_front first octets two) in
      let number : word_at 14 frame ≡ id =
      front_word frame to from behind front 2 ∙ (ap (λ (l : List ℕ). word_at 2 l) is ∙ (word_behind first octets 2 0 two
      ∙ (ap (λ (l : List ℕ). word_at 0 l) carried.is ∙ (two_front carried.front body carried.two ∙ sym carried.id_is)))) in
      let rest : drop 16 frame ≡ body =
      sym (drop-drop 4 12 frame) ∙ (ap (λ (l : List ℕ). drop 4 l) (front_behind frame to from behind front) ∙ (sym (drop-drop 2 2 behind)
      ∙ (ap (λ (l : List ℕ). drop 2 (drop 2 l)) is ∙ (ap (λ (l : List ℕ). drop 2 l) (drop_at first octets 2 two ∙ carried.is) ∙ drop_at carried.front body 2 carried.two)))) in
      let one : length behind ≡ length (first ++ octets) = ap (λ (l : List ℕ). length l) is in
      let other_one : length octets ≡ length (carried.front ++ body) = ap (λ (l : List ℕ). length l) carried.is in
      let most : longest meaning.tag ≡ 1514 = ap longest tag in
      read_at frame meaning id body 12 (plain_place frame _ word other) (front_to frame to from behind front ∙ same_to) (front_from frame to from behind front ∙ same_from)
      (word ∙ carried.type) number rest
      (omega (arith, front_length frame to from behind front, one, length-append first octets, two, other_one, length-append carried.front body, carried.two))
      (omega (arith, short, most))

  as_tagged : (first word_of_tag type octets : List ℕ) → length first ≡ 2 → length word_of_tag ≡ 2 → length type ≡ 2
      → behind ≡ first ++ (word_of_tag ++ (type ++ octets)) → (big_number 2 first == 0x8100) ≡ true → (n : ℕ) → meaning.tag ≡ Some n
      → IsData (big_number 2 type) octets id body → IsRead frame meaning id body
  as_tagged first word_of_tag type octets two two_tag two_type is tagged n tag carried =
      let word : word_at 12 frame ≡ big_number 2 first =
      front_word frame to from behind front 0 ∙ (ap (λ (l : List ℕ). word_at 0 l) is ∙ two_front first (word_of_tag ++ (type ++ octets)) two) in
      let typed : word_at 16 frame ≡ big_number 2 type =
      front_word frame to from behind front 4 ∙ (ap (λ (l : List ℕ). word_at 4 l) is ∙ (word_behind first (word_of_tag ++ (type ++ octets)) 2 2 two
      ∙ (word_behind word_of_tag (type ++ octets) 2 0 two_tag ∙ two_front type octets two_type))) in
      let number : word_at 18 frame ≡ id =
      front_word frame to from behind front 6 ∙ (ap (λ (l : List ℕ). word_at 6 l) is ∙ (word_behind first (word_of_tag ++ (type ++ octets)) 2 4 two
      ∙ (word_behind word_of_tag (type ++ octets) 2 2 two_tag ∙ (word_behind type octets 2 0 two_type
      ∙ (ap (λ (l : List ℕ). word_at 0 l) carried.is ∙ (two_front carried.front body carried.two ∙ sym carried.id_is)))))) in
      let rest : drop 20 frame ≡ body =
      sym (drop-drop 8 12 frame) ∙ (ap (λ (l : List ℕ). drop 8 l) (front_behind frame to from behind front ∙ is) ∙ (sym (drop-drop 6 2 (first ++ (word_of_tag ++ (type ++ octets))))
      ∙ (ap (λ (l : List ℕ). drop 6 l) (drop_at first (word_of_tag ++ (type ++ octets)) 2 two) ∙ (sym (drop-drop 4 2 (word_of_tag ++ (type ++ octets)))
      ∙ (ap (λ (l : List ℕ). drop 4 l) (drop_at word_of_tag (type ++ octets) 2 two_tag) ∙ (sym (drop-drop 2 2 (type ++ octets))
      ∙ (ap (λ (l : List ℕ). drop 2 l) (drop_at type octets 2 two_type ∙ carried.is) ∙ drop_at carried.front body 2 carried.two))))))) in
      let one : length behind ≡ length (first ++ (word_of_tag ++ (type ++ octets))) = ap (λ (l : List ℕ). length l) is in
      let other_one : length octets ≡ length (carried.front ++ body) = ap (λ (l : List ℕ). length l) carried.is in
      let most : longest meaning.tag ≡ 1518 = ap longest tag in
      read_at frame meaning id body 16 (tagged_place frame _ word tagged) (front_to frame to from behind front ∙ same_to) (front_from frame to from behind front ∙ same_from)
      (typed ∙ carried.type) number rest
      (omega (
        arith,
        front_length frame to from behind front,
        one,
        length-append first (word_of_tag ++ (type ++ octets)),
        length-append word_of_tag (type ++ octets),
        length-append type octets,
        two,
        two_tag,
        two_type,
        other_one,
        length-append carried.front body,
        carried.two,
      ))
      (omega (arith, short, most))

  -- By the first two octets.
  typed_as : (first octets : List ℕ) (tagging : Option (ℕ × ℕ)) (mid : List ℕ) → length first ≡ 2 → behind ≡ first ++ mid → (b : Bool) → (big_number 2 first == 0x8100) ≡ b
      → (when b (field TooShort 2 ⨾ field TooShort 2)).Spells mid tagging octets → (tag : Option ℕ) → meaning.tag ≡ tag → (ether_type : ℕ)
      → (tag, ether_type) ≡ (tag_and_type_of (big_number 2 first, tagging)) → (content_under ether_type).Spells octets (RealTime id body) → IsRead frame meaning id body
  typed_as first octets tagging mid two is false other spells tag is_tag ether_type same spelled =
      let none : tagging ≡ None = spells.0 in
      let parts : (tag, ether_type) ≡ (let p : Option ℕ × ℕ = (None, big_number 2 first) in p) =
      same ∙ ap (λ (x : Option (ℕ × ℕ)). tag_and_type_of (big_number 2 first, x)) none in
      as_plain first octets two (is ∙ ap (λ (l : List ℕ). first ++ l) spells.1) other (is_tag ∙ ap (λ (p : Option ℕ × ℕ). p.0) parts)
      (data_under (big_number 2 first) octets id body
      (subst (λ (n : ℕ). (content_under n).Spells octets (RealTime id body)) (ap (λ (p : Option ℕ × ℕ). p.1) parts) spelled))
  typed_as first octets tagging mid two is true tagged spells tag is_tag ether_type same spelled =
      let word = spells.2.1 in
      let last = spells.2.2 in
      let parts : (tag, ether_type) ≡ (let p : Option ℕ × ℕ = (Some spells.0.0, spells.0.1) in p) =
      same ∙ ap (λ (x : Option (ℕ × ℕ)). tag_and_type_of (big_number 2 first, x)) (sym spells.1) in
      as_tagged first word.0 last.0 octets two word.1 last.1
      (is ∙ ap (λ (l : List ℕ). first ++ l) (word.2 ∙ ap (λ (l : List ℕ). word.0 ++ l) last.2)) tagged spells.0.0 (is_tag ∙ ap (λ (p : Option ℕ × ℕ). p.0) parts)
      (data_under (big_number 2 last.0) octets id body
      (subst (λ (n : ℕ). (content_under n).Spells octets (RealTime id body)) (ap (λ (p : Option ℕ × ℕ). p.1) parts ∙ last.3) spelled))

-- A frame of real time that is read is there.
pub read_is_there : (frame : List ℕ) (meaning : Meaning) (id : ℕ) (body : List ℕ) → frame_of frame ≡ Ok meaning → meaning.content ≡ RealTime id body → IsRead frame meaning id body
unfolding layers ethernet mac tag_and_type
read_is_there frame meaning id body read content =
    let whole = frame_takes frame meaning read in
    let spells = whole.spelled in
    let head = spells.2.1 in
    let to = head.2.1 in
    let from = head.2.2.1 in
    let tag = head.2.2.2 in
    let first = tag.2.1 in
    typed_as frame to.0 from.0 head.2.2.0 (record { to_six = to.2.0; from_six = from.2.0; is = to.2.1 ∙ ap (λ (l : List ℕ). to.0 ++ l) from.2.1 }) meaning id body
    (ap (λ (m : Mac). m.octets) to.1 ∙ (ap (λ h. h.destination.octets) head.1 ∙ ap (λ (m : Meaning). m.destination.octets) spells.1))
    (ap (λ (m : Mac). m.octets) from.1 ∙ (ap (λ h. h.source.octets) head.1 ∙ ap (λ (m : Meaning). m.source.octets) spells.1))
    whole.short first.0 spells.2.0 tag.0.1 tag.2.0 first.1 first.2 (big_number 2 first.0 == 0x8100) refl
    (subst (λ (n : ℕ). (when (n == 0x8100) (field TooShort 2 ⨾ field TooShort 2)).Spells tag.2.0 tag.0.1 spells.2.0) first.3 tag.2.2)
    spells.0.0.tag (sym (ap (λ (m : Meaning). m.tag) spells.1)) spells.0.0.ether_type
    (sym (tag.1 ∙ ap (λ h. let p : Option ℕ × ℕ = (h.tag, h.ether_type) in p) head.1)
    ∙ ap (λ (n : ℕ). tag_and_type_of (n, tag.0.1)) first.3)
    (subst (λ (c : Content). (content_under spells.0.0.ether_type).Spells spells.2.0 c) (ap (λ (m : Meaning). m.content) spells.1 ∙ content) spells.2.2)

-- ---- what is there is read

-- The address with these octets.
abbrev pub mac_of : List ℕ → Mac
mac_of octets = record { octets = octets }

six_cut : (octets : List ℕ) → 6 ≤ length octets → mac.Spells octets (mac_of (take 6 octets)) (drop 6 octets)
unfolding mac
six_cut octets long = (take 6 octets, refl, (length-take-le 6 octets long, sym (take-append-drop 6 octets)))

two_cut : (octets : List ℕ) (n : ℕ) → 2 ≤ length octets → word_at 0 octets ≡ n → (field TooShort 2).Spells octets n (drop 2 octets)
two_cut octets n long is =
    let two = length-take-le 2 octets long in
    let parts = take-append-drop 2 octets in
    (take 2 octets, two, sym parts, sym is ∙ (ap (λ (l : List ℕ). word_at 0 l) (sym parts) ∙ two_front (take 2 octets) (drop 2 octets) two))

data_there : (octets : List ℕ) → 2 ≤ length octets → (content_under 0x8892).Spells octets (RealTime (word_at 0 octets) (drop 2 octets))
unfolding real_time
data_there octets long = ((word_at 0 octets, drop 2 octets), refl, (drop 2 octets, two_cut octets (word_at 0 octets) long refl, refl))

-- What the format of frames reads of a frame of real time.
abbrev pub meaning_at : List ℕ → Option ℕ → ℕ → Meaning
meaning_at frame tag place = carrying (mac_of (take 6 frame)) (mac_of (part_at 6 6 frame)) tag (RealTime (word_at (place + 2) frame) (drop (place + 4) frame))

plain_there : (frame : List ℕ) → word_at 12 frame ≡ 0x8892 → 16 ≤ length frame → length frame ≤ 1514 → frame_of frame ≡ Ok (meaning_at frame None 12)
unfolding layers ethernet tag_and_type
plain_there frame type long short =
    let one : List ℕ = drop 6 frame in
    let two : List ℕ = drop 6 one in
    let rest : List ℕ = drop 2 two in
    let a = length-drop 6 frame in
    let b = length-drop 6 one in
    let c = length-drop 2 two in
    let word : word_at 0 two ≡ 0x8892 = ap (λ (l : List ℕ). word_at 0 l) (drop-drop 6 6 frame) ∙ (word_dropped 12 0 frame ∙ type) in
    let meaning : Meaning = carrying (mac_of (take 6 frame)) (mac_of (take 6 one)) None (RealTime (word_at 0 rest) (drop 2 rest)) in
    let is : IsFrame frame meaning = record {
      spelled = (
        (record { destination = mac_of (take 6 frame); source = mac_of (take 6 one); tag = None; ether_type = 0x8892 }, RealTime (word_at 0 rest) (drop 2 rest)),
        refl,
        (
          rest,
          (
            (mac_of (take 6 frame), (mac_of (take 6 one), (None, 0x8892))),
            refl,
            (one, six_cut frame (omega (arith, long)), (two, six_cut one (omega (arith, long, a)), ((0x8892, None), refl, (rest, two_cut two 0x8892 (omega (arith, long, a, b)) word, (refl, refl))))),
          ),
          data_there rest (omega (arith, long, a, b, c)),
        ),
      );
      short = short;
    } in
    let place : rest ≡ drop 14 frame = ap (λ (l : List ℕ). drop 2 l) (drop-drop 6 6 frame) ∙ drop-drop 2 12 frame in
    subst (λ (m : Meaning). frame_of frame ≡ Ok m)
    (ap (λ (l : List ℕ). carrying (mac_of (take 6 frame)) (mac_of (take 6 one)) None (RealTime (word_at 0 l) (drop 2 l))) place
    ∙ (ap (λ (n : ℕ). carrying (mac_of (take 6 frame)) (mac_of (take 6 one)) None (RealTime n (drop 2 (drop 14 frame)))) (word_dropped 14 0 frame)
    ∙ ap (λ (l : List ℕ). carrying (mac_of (take 6 frame)) (mac_of (take 6 one)) None (RealTime (word_at 14 frame) l)) (drop-drop 2 14 frame)))
    (frame_again frame meaning is)

tagged_there : (frame : List ℕ) → word_at 12 frame ≡ 0x8100 → word_at 16 frame ≡ 0x8892 → 20 ≤ length frame → length frame ≤ 1518
    → frame_of frame ≡ Ok (meaning_at frame (Some (word_at 14 frame)) 16)
unfolding layers ethernet tag_and_type
tagged_there frame tag type long short =
    let one : List ℕ = drop 6 frame in
    let two : List ℕ = drop 6 one in
    let three : List ℕ = drop 2 two in
    let four : List ℕ = drop 2 three in
    let rest : List ℕ = drop 2 four in
    let a = length-drop 6 frame in
    let b = length-drop 6 one in
    let c = length-drop 2 two in
    let d = length-drop 2 three in
    let e = length-drop 2 four in
    let at_two : two ≡ drop 12 frame = drop-drop 6 6 frame in
    let at_three : three ≡ drop 14 frame = ap (λ (l : List ℕ). drop 2 l) at_two ∙ drop-drop 2 12 frame in
    let at_four : four ≡ drop 16 frame = ap (λ (l : List ℕ). drop 2 l) at_three ∙ drop-drop 2 14 frame in
    let at_rest : rest ≡ drop 18 frame = ap (λ (l : List ℕ). drop 2 l) at_four ∙ drop-drop 2 16 frame in
    let first : word_at 0 two ≡ 0x8100 = ap (λ (l : List ℕ). word_at 0 l) at_two ∙ (word_dropped 12 0 frame ∙ tag) in
    let word : word_at 0 three ≡ word_at 14 frame = ap (λ (l : List ℕ). word_at 0 l) at_three ∙ word_dropped 14 0 frame in
    let last : word_at 0 four ≡ 0x8892 = ap (λ (l : List ℕ). word_at 0 l) at_four ∙ (word_dropped 16 0 frame ∙ type) in
    let number : Option ℕ = Some (word_at 14 frame) in
    let meaning : Meaning = carrying (mac_of (take 6 frame)) (mac_of (take 6 one)) number (RealTime (word_at 0 rest) (drop 2 rest)) in
    let is : IsFrame frame meaning = record {
      spelled = (
        (record { destination = mac_of (take 6 frame); source = mac_of (take 6 one); tag = number; ether_type = 0x8892 }, RealTime (word_at 0 rest) (drop 2 rest)),
        refl,
        (
          rest,
          (
            (mac_of (take 6 frame), (mac_of (take 6 one), (number, 0x8892))),
            refl,
            (
              one,
              six_cut frame (omega (arith, long)),
              (
                two,
                six_cut one (omega (arith, long, a)),
                (
                  (0x8100, Some (word_at 14 frame, 0x8892)),
                  refl,
                  (
                    three,
                    two_cut two 0x8100 (omega (arith, long, a, b)) first,
                    (
                      (word_at 14 frame, 0x8892),
                      refl,
                      (four, two_cut three (word_at 14 frame) (omega (arith, long, a, b, c)) word, two_cut four 0x8892 (omega (arith, long, a, b, c, d)) last),
                    ),
                  ),
                ),
              ),
            ),
          ),
          data_there rest (omega (arith, long, a, b, c, d, e)),
        ),
      );
      short = short;
    } in
    subst (λ (m : Meaning). frame_of frame ≡ Ok m)
    (ap (λ (l : List ℕ). carrying (mac_of (take 6 frame)) (mac_of (take 6 one)) number (RealTime (word_at 0 l) (drop 2 l))) at_rest
    ∙ (ap (λ (n : ℕ). carrying (mac_of (take 6 frame)) (mac_of (take 6 one)) number (RealTime n (drop 2 (drop 18 frame)))) (word_dropped 18 0 frame)
    ∙ ap (λ (l : List ℕ). carrying (mac_of (take 6 frame)) (mac_of (take 6 one)) number (RealTime (word_at 18 frame) l)) (drop-drop 2 18 frame)))
    (frame_again frame meaning is)

-- A frame of real time is read.
pub record IsOpened (frame : List ℕ) : Type 0 where
  pub tag : Option ℕ
  pub is : frame_of frame ≡ Ok (meaning_at frame tag (type_place frame))

pub there_is_read : (frame : List ℕ) → word_at (type_place frame) frame ≡ 0x8892 → type_place frame + 4 ≤ length frame → length frame ≤ type_place frame + 1502 → IsOpened frame
there_is_read frame type long short = by_tag (word_at 12 frame == 0x8100) refl
  where
    by_tag : (b : Bool) → (word_at 12 frame == 0x8100) ≡ b → IsOpened frame
    by_tag true is =
        let place = tagged_place frame (word_at 12 frame) refl is in
        record {
          tag = Some (word_at 14 frame);
          is = tagged_there frame (eqb-true (word_at 12 frame) 0x8100 is) (ap (λ (n : ℕ). word_at n frame) (sym place) ∙ type) (omega (arith, long, place)) (omega (arith, short, place))
              ∙ ap (λ (n : ℕ). Ok (meaning_at frame (Some (word_at 14 frame)) n)) (sym place);
        }
    by_tag false is =
        let place = plain_place frame (word_at 12 frame) refl is in
        record {
          tag = None;
          is = plain_there frame (ap (λ (n : ℕ). word_at n frame) (sym place) ∙ type) (omega (arith, long, place)) (omega (arith, short, place))
              ∙ ap (λ (n : ℕ). Ok (meaning_at frame None n)) (sym place);
        }

-- ---- what is written is there

written_plain : (to from : Mac) (content : Content) → layers.write (carrying to from None content)
    ≡ to.octets ++ (from.octets ++ (big_bytes 2 (type_of content) ++ (content_under (type_of content)).write content))
unfolding layers ethernet mac tag_and_type
written_plain to from (RealTime id body) = refl
written_plain to from (ArpPacket packet) = refl
written_plain to from (UdpDatagram source destination body) = refl

written_tagged : (to from : Mac) (tag : ℕ) (content : Content) → layers.write (carrying to from (Some tag) content)
    ≡ to.octets ++ (from.octets ++ (big_bytes 2 0x8100 ++ (big_bytes 2 tag ++ (big_bytes 2 (type_of content) ++ (content_under (type_of content)).write content))))
unfolding layers ethernet mac tag_and_type
written_tagged to from tag content = refl

written_data : (id : ℕ) (body : List ℕ) → (content_under 0x8892).write (RealTime id body) ≡ big_bytes 2 id ++ body
unfolding real_time
written_data id body = refl

-- The addresses of a frame with more octets after it.
with_front : (octets to from behind more : List ℕ) → length to ≡ 6 → length from ≡ 6 → octets ≡ to ++ (from ++ behind) → IsFront (octets ++ more) to from (behind ++ more)
with_front octets to from behind more t f is = record {
  to_six = t;
  from_six = f;
  is = ap (λ (l : List ℕ). l ++ more) is ∙ (append_assoc to (from ++ behind) more ∙ ap (λ (l : List ℕ). to ++ l) (append_assoc from behind more));
}

-- The EtherType of a frame without a tag, and its FrameID if it carries real-time data.
module _ (to from : Mac) (t : length to.octets ≡ 6) (f : length from.octets ≡ 6) where
  plain_front : (content : Content) → IsFront (frame_bytes (carrying to from None content)) to.octets from.octets
      ((big_bytes 2 (type_of content) ++ (content_under (type_of content)).write content) ++ padding_of (carrying to from None content))
  unfolding frame_bytes
  plain_front content = with_front (layers.write (carrying to from None content)) to.octets from.octets _ (padding_of (carrying to from None content)) t f (written_plain to from content)

  plain_word : (content : Content) → type_of content < 65536 → word_at 12 (frame_bytes (carrying to from None content)) ≡ type_of content
  plain_word content few =
      front_word (frame_bytes (carrying to from None content)) to.octets from.octets _ (plain_front content) 0
      ∙ (ap (λ (l : List ℕ). word_at 0 l) (append_assoc (big_bytes 2 (type_of content)) ((content_under (type_of content)).write content) (padding_of (carrying to from None content)))
      ∙ word_written (type_of content) ((content_under (type_of content)).write content ++ padding_of (carrying to from None content)) few)

  pub datagram_type : (source destination : Endpoint) (body : List ℕ)
      → word_at (type_place (frame_bytes (carrying to from None (UdpDatagram source destination body)))) (frame_bytes (carrying to from None (UdpDatagram source destination body))) ≡ 0x0800
  datagram_type source destination body =
      let word = plain_word (UdpDatagram source destination body) (omega arith) in
      ap (λ (n : ℕ). word_at n (frame_bytes (carrying to from None (UdpDatagram source destination body)))) (plain_place (frame_bytes (carrying to from None (UdpDatagram source destination body))) 0x0800 word refl) ∙ word

  pub plain_id : (id : ℕ) (body : List ℕ) → id < 65536
      → word_at (type_place (frame_bytes (carrying to from None (RealTime id body))) + 2) (frame_bytes (carrying to from None (RealTime id body))) ≡ id
  plain_id id body few =
      let content = RealTime id body in
      let more = padding_of (carrying to from None content) in
      let word = plain_word content (omega arith) in
      ap (λ (n : ℕ). word_at (n + 2) (frame_bytes (carrying to from None content))) (plain_place (frame_bytes (carrying to from None content)) 0x8892 word refl)
      ∙ (front_word (frame_bytes (carrying to from None content)) to.octets from.octets _ (plain_front content) 2
      ∙ (ap (λ (l : List ℕ). word_at 2 l) (append_assoc (big_bytes 2 0x8892) ((content_under 0x8892).write content) more)
      ∙ (word_behind (big_bytes 2 0x8892) ((content_under 0x8892).write content ++ more) 2 0 (length-bytes_high_first 2 0x8892)
      ∙ (ap (λ (l : List ℕ). word_at 0 (l ++ more)) (written_data id body) ∙ (ap (λ (l : List ℕ). word_at 0 l) (append_assoc (big_bytes 2 id) body more) ∙ word_written id (body ++ more) few)))))

  tagged_front : (tag : ℕ) (content : Content) → IsFront (frame_bytes (carrying to from (Some tag) content)) to.octets from.octets
      ((big_bytes 2 0x8100 ++ (big_bytes 2 tag ++ (big_bytes 2 (type_of content) ++ (content_under (type_of content)).write content))) ++ padding_of (carrying to from (Some tag) content))
  unfolding frame_bytes
  tagged_front tag content =
      with_front (layers.write (carrying to from (Some tag) content)) to.octets from.octets _ (padding_of (carrying to from (Some tag) content)) t f (written_tagged to from tag content)

  pub tagged_id : (tag id : ℕ) (body : List ℕ) → id < 65536
      → word_at (type_place (frame_bytes (carrying to from (Some tag) (RealTime id body))) + 2) (frame_bytes (carrying to from (Some tag) (RealTime id body))) ≡ id
  tagged_id tag id body few =
      let content = RealTime id body in
      let more = padding_of (carrying to from (Some tag) content) in
      let front = tagged_front tag content in
      let written = (content_under 0x8892).write content in
      let third = big_bytes 2 0x8892 ++ written in
      let second = big_bytes 2 tag ++ third in
      let word : word_at 12 (frame_bytes (carrying to from (Some tag) content)) ≡ 0x8100 =
      front_word (frame_bytes (carrying to from (Some tag) content)) to.octets from.octets _ front 0
      ∙ (ap (λ (l : List ℕ). word_at 0 l) (append_assoc (big_bytes 2 0x8100) second more) ∙ word_written 0x8100 (second ++ more) (omega arith)) in
      ap (λ (n : ℕ). word_at (n + 2) (frame_bytes (carrying to from (Some tag) content))) (tagged_place (frame_bytes (carrying to from (Some tag) content)) 0x8100 word refl)
      ∙ (front_word (frame_bytes (carrying to from (Some tag) content)) to.octets from.octets _ front 6
      ∙ (ap (λ (l : List ℕ). word_at 6 l) (append_assoc (big_bytes 2 0x8100) second more)
      ∙ (word_behind (big_bytes 2 0x8100) (second ++ more) 2 4 (length-bytes_high_first 2 0x8100)
      ∙ (ap (λ (l : List ℕ). word_at 4 l) (append_assoc (big_bytes 2 tag) third more)
      ∙ (word_behind (big_bytes 2 tag) (third ++ more) 2 2 (length-bytes_high_first 2 tag)
      ∙ (ap (λ (l : List ℕ). word_at 2 l) (append_assoc (big_bytes 2 0x8892) written more)
      ∙ (word_behind (big_bytes 2 0x8892) (written ++ more) 2 0 (length-bytes_high_first 2 0x8892)
      ∙ (ap (λ (l : List ℕ). word_at 0 (l ++ more)) (written_data id body)
      ∙ (ap (λ (l : List ℕ). word_at 0 l) (append_assoc (big_bytes 2 id) body more) ∙ word_written id (body ++ more) few)))))))))
