-- A frame of Ethernet, read at fixed places: what the format reads is there, and what is there is read, whatever it carries.
use Rattle.std.proofs.Common.{◌≡◌, ◌+◌, ◌≤◌, ◌==◌, ℕ, Bool, true, false, List, ◌++◌, length, take, drop, Option, Some, None, Ok, refl, sym, ap, subst, ◌∙◌, arith}
use Rattle.std.proofs.lemmas.Bool.{eqb-true}
use Rattle.std.proofs.lemmas.List.{drop-drop, drop_at, length-append, length-drop, length-take-le, take-append-drop, take_at}
use Rattle.byteorder.specs.Endian.{big_number}
use Rattle.pn_values.specs.declared.mac.Mac.{Mac}
use Rattle.wire.specs.Formats.{number as field, when, ◌⨾◌}
use Rattle.frame_codec.specs.declared.fault.FrameFault.TheVariants.{TooShort}
use Rattle.frame_codec.specs.Meaning.{Content, Meaning}
use Rattle.frame_codec.specs.Frame.{content_under, ethernet, frame_of, layers, longest, mac, tag_and_type, tag_and_type_of}
use Rattle.frame_codec.specs.Sendable.{carrying}
use Rattle.frame_codec.proofs.Frames.{frame_again, frame_takes}
use Rattle.field_words.specs.Octets.{part_at, type_place, word_at}
use Rattle.end_laws.proofs.CyclicPlaces.{IsFront, front_word, mac_of, plain_place, tagged_place, two_front, word_behind, word_dropped}

-- ---- what is read is there

-- A frame with this meaning, at its places.
pub record IsOpen (frame : List ℕ) (meaning : Meaning) : Type 0 where
  pub destination : take 6 frame ≡ meaning.destination.octets
  pub source : part_at 6 6 frame ≡ meaning.source.octets
  pub content : (content_under (word_at (type_place frame) frame)).Spells (drop (type_place frame + 2) frame) meaning.content
  pub long : type_place frame + 2 ≤ length frame
  pub short : length frame ≤ type_place frame + 1502

module _ (frame to from behind : List ℕ) (front : IsFront frame to from behind) (meaning : Meaning)
    (same_to : to ≡ meaning.destination.octets) (same_from : from ≡ meaning.source.octets) (short : length frame ≤ longest meaning.tag) where
  front_to : take 6 frame ≡ meaning.destination.octets
  front_to = ap (λ (l : List ℕ). take 6 l) front.is ∙ (take_at to (from ++ behind) 6 front.to_six ∙ same_to)

  front_from : part_at 6 6 frame ≡ meaning.source.octets
  front_from =
      ap (λ (l : List ℕ). take 6 (drop 6 l)) front.is
      ∙ (ap (λ (l : List ℕ). take 6 l) (drop_at to (from ++ behind) 6 front.to_six) ∙ (take_at from behind 6 front.from_six ∙ same_from))

  front_behind : drop 12 frame ≡ behind
  front_behind =
      sym (drop-drop 6 6 frame) ∙ (ap (λ (l : List ℕ). drop 6 (drop 6 l)) front.is ∙ (ap (λ (l : List ℕ). drop 6 l) (drop_at to (from ++ behind) 6 front.to_six)
      ∙ drop_at from behind 6 front.from_six))

  front_length : length frame ≡ 12 + length behind
  front_length =
      let e : length frame ≡ length (to ++ (from ++ behind)) = ap (λ (l : List ℕ). length l) front.is in
      omega (arith, e, length-append to (from ++ behind), length-append from behind, front.to_six, front.from_six)

  open_at : (place type : ℕ) (octets : List ℕ) → type_place frame ≡ place → word_at place frame ≡ type → drop (place + 2) frame ≡ octets
      → (content_under type).Spells octets meaning.content → place + 2 ≤ length frame → length frame ≤ place + 1502 → IsOpen frame meaning
  open_at place type octets is word rest spells long most = record {
    destination = front_to;
    source = front_from;
    content = subst (λ (n : ℕ). (content_under (word_at n frame)).Spells (drop (n + 2) frame) meaning.content) (sym is)
        (subst (λ (n : ℕ). (content_under n).Spells (drop (place + 2) frame) meaning.content) (sym word)
        (subst (λ (l : List ℕ). (content_under type).Spells l meaning.content) (sym rest) spells));
    long = omega (arith, is, long);
    short = omega (arith, is, most);
  }

  as_plain : (first octets : List ℕ) → length first ≡ 2 → behind ≡ first ++ octets → (big_number 2 first == 0x8100) ≡ false → meaning.tag ≡ None
      → (content_under (big_number 2 first)).Spells octets meaning.content → IsOpen frame meaning
  as_plain first octets two is other tag spells =
      let word : word_at 12 frame ≡ big_number 2 first =
      front_word frame to from behind front 0 ∙ (ap (λ (l : List ℕ). word_at 0 l) is ∙ two_front first octets two) in
      let rest : drop 14 frame ≡ octets =
      sym (drop-drop 2 12 frame) ∙ (ap (λ (l : List ℕ). drop 2 l) (front_behind ∙ is) ∙ drop_at first octets 2 two) in
      let one : length behind ≡ length (first ++ octets) = ap (λ (l : List ℕ). length l) is in
      let most : longest meaning.tag ≡ 1514 = ap longest tag in
      open_at 12 (big_number 2 first) octets (plain_place frame _ word other) word rest spells
      (omega (arith, front_length, one, length-append first octets, two)) (omega (arith, short, most))

  as_tagged : (first word_of_tag type octets : List ℕ) → length first ≡ 2 → length word_of_tag ≡ 2 → length type ≡ 2
      → behind ≡ first ++ (word_of_tag ++ (type ++ octets)) → (big_number 2 first == 0x8100) ≡ true → (n : ℕ) → meaning.tag ≡ Some n
      → (content_under (big_number 2 type)).Spells octets meaning.content → IsOpen frame meaning
  as_tagged first word_of_tag type octets two two_tag two_type is tagged n tag spells =
      let word : word_at 12 frame ≡ big_number 2 first =
      front_word frame to from behind front 0 ∙ (ap (λ (l : List ℕ). word_at 0 l) is ∙ two_front first (word_of_tag ++ (type ++ octets)) two) in
      let typed : word_at 16 frame ≡ big_number 2 type =
      front_word frame to from behind front 4 ∙ (ap (λ (l : List ℕ). word_at 4 l) is ∙ (word_behind first (word_of_tag ++ (type ++ octets)) 2 2 two
      ∙ (word_behind word_of_tag (type ++ octets) 2 0 two_tag ∙ two_front type octets two_type))) in
      let rest : drop 18 frame ≡ octets =
      sym (drop-drop 6 12 frame) ∙ (ap (λ (l : List ℕ). drop 6 l) (front_behind ∙ is) ∙ (sym (drop-drop 4 2 (first ++ (word_of_tag ++ (type ++ octets))))
      ∙ (ap (λ (l : List ℕ). drop 4 l) (drop_at first (word_of_tag ++ (type ++ octets)) 2 two) ∙ (sym (drop-drop 2 2 (word_of_tag ++ (type ++ octets)))
      ∙ (ap (λ (l : List ℕ). drop 2 l) (drop_at word_of_tag (type ++ octets) 2 two_tag) ∙ drop_at type octets 2 two_type))))) in
      let one : length behind ≡ length (first ++ (word_of_tag ++ (type ++ octets))) = ap (λ (l : List ℕ). length l) is in
      let most : longest meaning.tag ≡ 1518 = ap longest tag in
      open_at 16 (big_number 2 type) octets (tagged_place frame _ word tagged) typed rest spells
      (omega (
        arith,
        front_length,
        one,
        length-append first (word_of_tag ++ (type ++ octets)),
        length-append word_of_tag (type ++ octets),
        length-append type octets,
        two,
        two_tag,
        two_type,
      ))
      (omega (arith, short, most))

  -- By the first two octets.
  typed_as : (first octets : List ℕ) (tagging : Option (ℕ × ℕ)) (mid : List ℕ) → length first ≡ 2 → behind ≡ first ++ mid → (b : Bool) → (big_number 2 first == 0x8100) ≡ b
      → (when b (field TooShort 2 ⨾ field TooShort 2)).Spells mid tagging octets → (tag : Option ℕ) → meaning.tag ≡ tag → (ether_type : ℕ)
      → (tag, ether_type) ≡ (tag_and_type_of (big_number 2 first, tagging)) → (content_under ether_type).Spells octets meaning.content → IsOpen frame meaning
  typed_as first octets tagging mid two is false other spells tag is_tag ether_type same spelled =
      let none : tagging ≡ None = spells.0 in
      let parts : (tag, ether_type) ≡ (let p : Option ℕ × ℕ = (None, big_number 2 first) in p) =
      same ∙ ap (λ (x : Option (ℕ × ℕ)). tag_and_type_of (big_number 2 first, x)) none in
      as_plain first octets two (is ∙ ap (λ (l : List ℕ). first ++ l) spells.1) other (is_tag ∙ ap (λ (p : Option ℕ × ℕ). p.0) parts)
      (subst (λ (n : ℕ). (content_under n).Spells octets meaning.content) (ap (λ (p : Option ℕ × ℕ). p.1) parts) spelled)
  typed_as first octets tagging mid two is true tagged spells tag is_tag ether_type same spelled =
      let word = spells.2.1 in
      let last = spells.2.2 in
      let parts : (tag, ether_type) ≡ (let p : Option ℕ × ℕ = (Some spells.0.0, spells.0.1) in p) =
      same ∙ ap (λ (x : Option (ℕ × ℕ)). tag_and_type_of (big_number 2 first, x)) (sym spells.1) in
      as_tagged first word.0 last.0 octets two word.1 last.1
      (is ∙ ap (λ (l : List ℕ). first ++ l) (word.2 ∙ ap (λ (l : List ℕ). word.0 ++ l) last.2)) tagged spells.0.0 (is_tag ∙ ap (λ (p : Option ℕ × ℕ). p.0) parts)
      (subst (λ (n : ℕ). (content_under n).Spells octets meaning.content) (ap (λ (p : Option ℕ × ℕ). p.1) parts ∙ last.3) spelled)

-- A frame that is read is there.
pub open_takes : (frame : List ℕ) (meaning : Meaning) → frame_of frame ≡ Ok meaning → IsOpen frame meaning
unfolding layers ethernet mac tag_and_type
open_takes frame meaning read =
    let whole = frame_takes frame meaning read in
    let spells = whole.spelled in
    let head = spells.2.1 in
    let to = head.2.1 in
    let from = head.2.2.1 in
    let tag = head.2.2.2 in
    let first = tag.2.1 in
    typed_as frame to.0 from.0 head.2.2.0 (record { to_six = to.2.0; from_six = from.2.0; is = to.2.1 ∙ ap (λ (l : List ℕ). to.0 ++ l) from.2.1 }) meaning
    (ap (λ (m : Mac). m.octets) to.1 ∙ (ap (λ h. h.destination.octets) head.1 ∙ ap (λ (m : Meaning). m.destination.octets) spells.1))
    (ap (λ (m : Mac). m.octets) from.1 ∙ (ap (λ h. h.source.octets) head.1 ∙ ap (λ (m : Meaning). m.source.octets) spells.1))
    whole.short first.0 spells.2.0 tag.0.1 tag.2.0 first.1 first.2 (big_number 2 first.0 == 0x8100) refl
    (subst (λ (n : ℕ). (when (n == 0x8100) (field TooShort 2 ⨾ field TooShort 2)).Spells tag.2.0 tag.0.1 spells.2.0) first.3 tag.2.2)
    spells.0.0.tag (sym (ap (λ (m : Meaning). m.tag) spells.1)) spells.0.0.ether_type
    (sym (tag.1 ∙ ap (λ h. let p : Option ℕ × ℕ = (h.tag, h.ether_type) in p) head.1)
    ∙ ap (λ (n : ℕ). tag_and_type_of (n, tag.0.1)) first.3)
    (subst (λ (c : Content). (content_under spells.0.0.ether_type).Spells spells.2.0 c) (ap (λ (m : Meaning). m.content) spells.1) spells.2.2)

-- ---- what is there is read

six_cut : (octets : List ℕ) → 6 ≤ length octets → mac.Spells octets (mac_of (take 6 octets)) (drop 6 octets)
unfolding mac
six_cut octets long = (take 6 octets, refl, (length-take-le 6 octets long, sym (take-append-drop 6 octets)))

two_cut : (octets : List ℕ) (n : ℕ) → 2 ≤ length octets → word_at 0 octets ≡ n → (field TooShort 2).Spells octets n (drop 2 octets)
two_cut octets n long is =
    let two = length-take-le 2 octets long in
    let parts = take-append-drop 2 octets in
    (take 2 octets, two, sym parts, sym is ∙ (ap (λ (l : List ℕ). word_at 0 l) (sym parts) ∙ two_front (take 2 octets) (drop 2 octets) two))

-- What the format of frames reads, with this tag and this content.
abbrev pub meaning_of : List ℕ → Option ℕ → Content → Meaning
meaning_of frame tag content = carrying (mac_of (take 6 frame)) (mac_of (part_at 6 6 frame)) tag content

untagged_when : (b : Bool) (rest : List ℕ) → b ≡ false → (when b (field TooShort 2 ⨾ field TooShort 2)).Spells rest None rest
untagged_when false rest is = (refl, refl)
untagged_when true rest is = absurd (let e = is in cc)

plain_there : (frame : List ℕ) (content : Content) → (word_at 12 frame == 0x8100) ≡ false → 14 ≤ length frame → length frame ≤ 1514
    → (content_under (word_at 12 frame)).Spells (drop 14 frame) content → frame_of frame ≡ Ok (meaning_of frame None content)
unfolding layers ethernet tag_and_type
plain_there frame content other long short spells =
    let one : List ℕ = drop 6 frame in
    let two : List ℕ = drop 6 one in
    let rest : List ℕ = drop 2 two in
    let a = length-drop 6 frame in
    let b = length-drop 6 one in
    let type : ℕ = word_at 12 frame in
    let word : word_at 0 two ≡ type = ap (λ (l : List ℕ). word_at 0 l) (drop-drop 6 6 frame) ∙ word_dropped 12 0 frame in
    let place : rest ≡ drop 14 frame = ap (λ (l : List ℕ). drop 2 l) (drop-drop 6 6 frame) ∙ drop-drop 2 12 frame in
    frame_again frame (meaning_of frame None content) (record {
      spelled = (
        (record { destination = mac_of (take 6 frame); source = mac_of (take 6 one); tag = None; ether_type = type }, content),
        refl,
        (
          rest,
          (
            (mac_of (take 6 frame), (mac_of (take 6 one), (None, type))),
            refl,
            (one, six_cut frame (omega (arith, long)), (two, six_cut one (omega (arith, long, a)), ((type, None), refl, (rest, two_cut two type (omega (arith, long, a, b)) word, untagged_when (type == 0x8100) rest other)))),
          ),
          subst (λ (l : List ℕ). (content_under type).Spells l content) (sym place) spells,
        ),
      );
      short = short;
    })

tagged_there : (frame : List ℕ) (content : Content) → word_at 12 frame ≡ 0x8100 → 18 ≤ length frame → length frame ≤ 1518
    → (content_under (word_at 16 frame)).Spells (drop 18 frame) content → frame_of frame ≡ Ok (meaning_of frame (Some (word_at 14 frame)) content)
unfolding layers ethernet tag_and_type
tagged_there frame content tag long short spells =
    let one : List ℕ = drop 6 frame in
    let two : List ℕ = drop 6 one in
    let three : List ℕ = drop 2 two in
    let four : List ℕ = drop 2 three in
    let rest : List ℕ = drop 2 four in
    let a = length-drop 6 frame in
    let b = length-drop 6 one in
    let c = length-drop 2 two in
    let d = length-drop 2 three in
    let at_two : two ≡ drop 12 frame = drop-drop 6 6 frame in
    let at_three : three ≡ drop 14 frame = ap (λ (l : List ℕ). drop 2 l) at_two ∙ drop-drop 2 12 frame in
    let at_four : four ≡ drop 16 frame = ap (λ (l : List ℕ). drop 2 l) at_three ∙ drop-drop 2 14 frame in
    let at_rest : rest ≡ drop 18 frame = ap (λ (l : List ℕ). drop 2 l) at_four ∙ drop-drop 2 16 frame in
    let type : ℕ = word_at 16 frame in
    let first : word_at 0 two ≡ 0x8100 = ap (λ (l : List ℕ). word_at 0 l) at_two ∙ (word_dropped 12 0 frame ∙ tag) in
    let word : word_at 0 three ≡ word_at 14 frame = ap (λ (l : List ℕ). word_at 0 l) at_three ∙ word_dropped 14 0 frame in
    let last : word_at 0 four ≡ type = ap (λ (l : List ℕ). word_at 0 l) at_four ∙ word_dropped 16 0 frame in
    let number : Option ℕ = Some (word_at 14 frame) in
    frame_again frame (meaning_of frame number content) (record {
      spelled = (
        (record { destination = mac_of (take 6 frame); source = mac_of (take 6 one); tag = number; ether_type = type }, content),
        refl,
        (
          rest,
          (
            (mac_of (take 6 frame), (mac_of (take 6 one), (number, type))),
            refl,
            (
              one,
              six_cut frame (omega (arith, long)),
              (
                two,
                six_cut one (omega (arith, long, a)),
                (
                  (0x8100, Some (word_at 14 frame, type)),
                  refl,
                  (
                    three,
                    two_cut two 0x8100 (omega (arith, long, a, b)) first,
                    (
                      (word_at 14 frame, type),
                      refl,
                      (four, two_cut three (word_at 14 frame) (omega (arith, long, a, b, c)) word, two_cut four type (omega (arith, long, a, b, c, d)) last),
                    ),
                  ),
                ),
              ),
            ),
          ),
          subst (λ (l : List ℕ). (content_under type).Spells l content) (sym at_rest) spells,
        ),
      );
      short = short;
    })

-- A frame with this content is read.
pub record IsRead (frame : List ℕ) (content : Content) : Type 0 where
  pub tag : Option ℕ
  pub is : frame_of frame ≡ Ok (meaning_of frame tag content)

pub open_again : (frame : List ℕ) (content : Content) → type_place frame + 2 ≤ length frame → length frame ≤ type_place frame + 1502
    → (content_under (word_at (type_place frame) frame)).Spells (drop (type_place frame + 2) frame) content → IsRead frame content
open_again frame content long short spells = by_tag (word_at 12 frame == 0x8100) refl
  where
    at : (place : ℕ) → type_place frame ≡ place → (content_under (word_at place frame)).Spells (drop (place + 2) frame) content
    at place is = subst (λ (n : ℕ). (content_under (word_at n frame)).Spells (drop (n + 2) frame) content) is spells

    by_tag : (b : Bool) → (word_at 12 frame == 0x8100) ≡ b → IsRead frame content
    by_tag true is =
        let place = tagged_place frame (word_at 12 frame) refl is in
        record {
          tag = Some (word_at 14 frame);
          is = tagged_there frame content (eqb-true (word_at 12 frame) 0x8100 is) (omega (arith, long, place)) (omega (arith, short, place)) (at 16 place);
        }
    by_tag false is =
        let place = plain_place frame (word_at 12 frame) refl is in
        record {
          tag = None;
          is = plain_there frame content is (omega (arith, long, place)) (omega (arith, short, place)) (at 12 place);
        }
