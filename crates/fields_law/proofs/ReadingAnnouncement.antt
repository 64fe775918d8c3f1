-- The announcement of a station, read at its places.
use Rattle.std.proofs.Common.{◌≡◌, ◌+◌, ◌-◌, ◌*◌, ◌%◌, ◌==◌, ◌<◌, ◌++◌, ℕ, Bool, true, false, List, [], ◌∷◌, drop, length, map, take, replicate, Option, Some, None, refl, sym, ap, ◌∙◌, subst, append_assoc, if◌then◌else◌, arith}
use Rattle.std.specs.List.{AllByRecursion}
use Rattle.std.proofs.lemmas.List.{append-nil, length-append, length-replicate}
use Rattle.byteorder.specs.Endian.{big_bytes}
use Rattle.byteorder.specs.Numbers.{big_number-reads_back}
use Rattle.pn_values.specs.IpSuite.{is_zero}
use Rattle.frame_codec.specs.Frame.{mac, tag_and_type}
use Rattle.lldp.specs.declared.station.Link.{Link}
use Rattle.lldp.specs.Announcement.{IsSayable, Station, address_tlvs, announced, announcement, chassis_of, header_of, link_tlvs, port_name, port_status}
use Rattle.lldp.specs.Frame.{link as frame_head, nearest}
use Rattle.lldp.specs.Message.{message, write_tlvs}
use Rattle.lldp.specs.Tlv.{Id, Tlv, chassis_mac, id, id_octets, lifetime, tlv, tlv_of, typed}
use Rattle.fields_law.specs.Announcement.{AreTlvs, IsAnnouncement, address_told, chassis_id, link_told, told_by}
use Rattle.fields_law.proofs.ReadingPlaces.{at_place, front_of, joined, joined_onto, number_is, octets_are}

-- ---- TLVs

-- the octets of a TLV before others
abbrev tlv_bytes : ℕ × List ℕ → List ℕ → List ℕ
tlv_bytes one rest = big_bytes 2 (one.0 * 512 + length one.1) ++ (one.1 ++ rest)

abbrev tlvs_bytes : List (ℕ × List ℕ) → List ℕ → List ℕ
tlvs_bytes [] rest = 0 ∷ 0 ∷ rest
tlvs_bytes (one ∷ more) rest = tlv_bytes one (tlvs_bytes more rest)

tlvs_onto : (all : List (ℕ × List ℕ)) (rest : List ℕ) → tlvs_bytes all [] ++ rest ≡ tlvs_bytes all rest
tlvs_onto [] rest = refl
tlvs_onto (one ∷ more) rest =
    ap (λ (xs : List ℕ). big_bytes 2 (one.0 * 512 + length one.1) ++ xs) (append_assoc one.1 (tlvs_bytes more []) rest)
    ∙ ap (λ (xs : List ℕ). tlv_bytes one xs) (tlvs_onto more rest)

abbrev IsShortTlv : ℕ × List ℕ → Type 0
IsShortTlv one = (one.0 < 128) × (length one.1 < 512)

tlvs_read : (all : List (ℕ × List ℕ)) (rest : List ℕ) → AllByRecursion IsShortTlv all → AreTlvs (tlvs_bytes all rest) all
tlvs_read [] rest fits = refl
tlvs_read (one ∷ more) rest fits =
    let kind = fits.0.0 in
    let few = fits.0.1 in
    let others = tlvs_bytes more rest in
    let after : drop (2 + length one.1) (tlvs_bytes (one ∷ more) rest) ≡ others =
    at_place (tlvs_bytes (one ∷ more) rest) others (big_bytes 2 (one.0 * 512 + length one.1) ∷ one.1 ∷ []) (2 + length one.1) refl (omega arith) in (
      big_number-reads_back 2 (one.0 * 512 + length one.1) [] (omega (arith, kind, few)),
      front_of one.1 others,
      subst (λ (xs : List ℕ). AreTlvs xs more) (sym after) (tlvs_read more rest fits.1),
    )

-- ---- what is written

abbrev tlv_from : ℕ × List ℕ → Tlv
tlv_from one = tlv_of one.0 one.1

one_written : (one : ℕ × List ℕ) (rest : List ℕ) → tlv.write (tlv_from one) [] ++ rest ≡ tlv_bytes one rest
unfolding tlv
one_written one rest =
    let same : length one.1 + one.0 * 512 ≡ one.0 * 512 + length one.1 = omega arith in
    ap (λ (n : ℕ). big_bytes 2 n ++ ((one.1 ++ []) ++ rest)) same
    ∙ ap (λ (xs : List ℕ). big_bytes 2 (one.0 * 512 + length one.1) ++ (xs ++ rest)) (append-nil one.1)

others_written : (all : List (ℕ × List ℕ)) → write_tlvs (map tlv_from all) ++ 0 ∷ 0 ∷ [] ≡ tlvs_bytes all []
others_written [] = refl
others_written (one ∷ more) =
    append_assoc (tlv.write (tlv_from one) []) (write_tlvs (map tlv_from more)) (0 ∷ 0 ∷ [])
    ∙ one_written one (write_tlvs (map tlv_from more) ++ 0 ∷ 0 ∷ [])
    ∙ ap (λ (xs : List ℕ). tlv_bytes one xs) (others_written more)

-- the link and the address
link_is : (link : Option Link) (more : List (ℕ × List ℕ)) → link_tlvs link ++ map tlv_from more ≡ map tlv_from (link_told link ++ more)
link_is None more = refl
link_is (Some link) more = refl

address_is : (none : Bool) (address : List ℕ)
    → (if none then [] else tlv_of 8 (5 ∷ 1 ∷ (address ++ 2 ∷ 0 ∷ 0 ∷ 0 ∷ 1 ∷ 0 ∷ [])) ∷ []) ≡ map tlv_from (address_told none address)
address_is true address = refl
address_is false address = refl

module _ (station : Station) (sayable : IsSayable station) where
  -- what follows the first three
  abbrev others : List (ℕ × List ℕ)
  others =
      (127, 0x00 ∷ 0x0E ∷ 0xCF ∷ 2 ∷ 0 ∷ 0 ∷ 0 ∷ 0 ∷ []) ∷ (127, 0x00 ∷ 0x0E ∷ 0xCF ∷ 5 ∷ station.mac.octets)
      ∷ (link_told station.link ++ address_told (is_zero station.address) station.address)

  chassis_told : chassis_mac.write station.mac ≡ 0x00 ∷ 0x0E ∷ 0xCF ∷ 5 ∷ station.mac.octets
  unfolding chassis_mac
  chassis_told = ap (λ (xs : List ℕ). 0x00 ∷ 0x0E ∷ 0xCF ∷ 5 ∷ xs) (append-nil station.mac.octets)

  more_is : (announced station).more ≡ map tlv_from others
  more_is =
      ap (λ (xs : List ℕ). port_status ∷ tlv_of 127 xs ∷ (link_tlvs station.link ++ address_tlvs station.address)) chassis_told
      ∙ ap (λ (xs : List Tlv). tlv_from (127, 0x00 ∷ 0x0E ∷ 0xCF ∷ 2 ∷ 0 ∷ 0 ∷ 0 ∷ 0 ∷ [])
      ∷ tlv_from (127, 0x00 ∷ 0x0E ∷ 0xCF ∷ 5 ∷ station.mac.octets) ∷ xs)
      (ap (λ (ts : List Tlv). link_tlvs station.link ++ ts) (address_is (is_zero station.address) station.address)
      ∙ link_is station.link (address_told (is_zero station.address) station.address))

  -- an identifier
  abbrev id_told : Id → List ℕ
  id_told one = one.subtype ∷ one.octets

  id_written : (kind : ℕ) (one : Id) (rest : List ℕ) → one.subtype < 256 → (id kind).write one rest ≡ tlv_bytes (kind, id_told one) rest
  unfolding id id_octets typed
  id_written kind one rest few =
      let size : (1 + length one.octets) + kind * 512 ≡ kind * 512 + length (id_told one) = omega arith in
      let low : one.subtype % 256 ≡ one.subtype = omega (arith, few) in
      ap (λ (n : ℕ). big_bytes 2 n ++ ((big_bytes 1 one.subtype ++ one.octets) ++ rest)) size
      ∙ ap (λ (n : ℕ). big_bytes 2 (kind * 512 + length (id_told one)) ++ (n ∷ (one.octets ++ rest))) low

  chassis_by : (none : Bool)
      → id_told (if none then record { subtype = 4; octets = station.mac.octets } else record { subtype = 7; octets = station.name })
      ≡ (if none then 4 ∷ station.mac.octets else 7 ∷ station.name)
  chassis_by true = refl
  chassis_by false = refl

  subtype_few : (none : Bool) (one other : Id) → one.subtype < 256 → other.subtype < 256 → (if none then one else other).subtype < 256
  subtype_few true one other first second = first
  subtype_few false one other first second = second

  abbrev own_chassis : Id
  own_chassis = chassis_of station

  abbrev own_port : Id
  own_port = record { subtype = 7; octets = port_name }

  chassis_few : own_chassis.subtype < 256
  chassis_few =
      subtype_few (length station.name == 0) (record { subtype = 4; octets = station.mac.octets }) (record { subtype = 7; octets = station.name })
      (omega arith) (omega arith)

  lifetime_is : (rest : List ℕ) → lifetime.write 20 rest ≡ tlv_bytes (3, 0 ∷ 20 ∷ []) rest
  unfolding lifetime typed
  lifetime_is rest = refl

  abbrev after_lifetime : List Tlv → List ℕ
  after_lifetime more = write_tlvs more ++ 0 ∷ 0 ∷ []

  message_written : message.write (announced station)
      ≡ (id 1).write own_chassis ((id 2).write own_port (lifetime.write 20 (after_lifetime (announced station).more)))
  unfolding message
  message_written = refl

  message_is : message.write (announced station) ≡ tlvs_bytes (told_by station) []
  message_is =
      message_written
      ∙ id_written 1 own_chassis ((id 2).write own_port (lifetime.write 20 (after_lifetime (announced station).more))) chassis_few
      ∙ ap (λ (told : List ℕ). tlv_bytes (1, told) ((id 2).write own_port (lifetime.write 20 (after_lifetime (announced station).more))))
      (chassis_by (length station.name == 0))
      ∙ ap (λ (xs : List ℕ). tlv_bytes (1, chassis_id station) xs)
      (id_written 2 own_port (lifetime.write 20 (after_lifetime (announced station).more)) (omega arith)
      ∙ ap (λ (xs : List ℕ). tlv_bytes (2, id_told own_port) xs)
      (lifetime_is (after_lifetime (announced station).more)
      ∙ ap (λ (xs : List ℕ). tlv_bytes (3, 0 ∷ 20 ∷ []) xs) (ap after_lifetime more_is ∙ others_written others)))

  -- ---- the frame

  abbrev head_parts : List (List ℕ)
  head_parts = nearest ∷ station.mac.octets ∷ (0x88 ∷ 0xCC ∷ []) ∷ []

  abbrev unpadded : List ℕ
  unpadded = frame_head.write (header_of station.mac) (message.write (announced station))

  abbrev padding : List ℕ
  padding = replicate (60 - length unpadded) 0

  unpadded_is : unpadded ≡ joined head_parts (message.write (announced station))
  unfolding frame_head mac tag_and_type
  unpadded_is = refl

  whole_is : unpadded ++ padding ≡ joined head_parts (tlvs_bytes (told_by station) padding)
  whole_is =
      ap (λ (xs : List ℕ). xs ++ padding) (unpadded_is ∙ ap (λ (xs : List ℕ). joined head_parts xs) message_is)
      ∙ joined_onto head_parts (tlvs_bytes (told_by station) []) padding
      ∙ ap (λ (xs : List ℕ). joined head_parts xs) (tlvs_onto (told_by station) padding)

  address_few : length (5 ∷ 1 ∷ (station.address ++ 2 ∷ 0 ∷ 0 ∷ 0 ∷ 1 ∷ 0 ∷ [])) < 512
  address_few =
      let long = length-append station.address (2 ∷ 0 ∷ 0 ∷ 0 ∷ 1 ∷ 0 ∷ []) in
      let four = sayable.address in
      omega (arith, long, four)

  others_short : (link : Option Link) (none : Bool) → AllByRecursion IsShortTlv (link_told link ++ address_told none station.address)
  others_short None true = tt
  others_short None false = ((omega arith, address_few), tt)
  others_short (Some link) true = ((omega arith, omega arith), tt)
  others_short (Some link) false = ((omega arith, omega arith), ((omega arith, address_few), tt))

  chassis_short : (none : Bool) → length (if none then 4 ∷ station.mac.octets else 7 ∷ station.name) < 512
  chassis_short true = let six = sayable.mac in omega (arith, six)
  chassis_short false = let few = sayable.name in omega (arith, few)

  all_short : AllByRecursion IsShortTlv (told_by station)
  all_short =
      let six = sayable.mac in (
        (omega arith, chassis_short (length station.name == 0)),
        (
          (omega arith, omega arith),
          (
            (omega arith, omega arith),
            ((omega arith, omega arith), ((omega arith, omega (arith, six)), others_short station.link (is_zero station.address))),
          ),
        ),
      )

  there : IsAnnouncement (unpadded ++ padding) station
  there =
      let six = sayable.mac in
      let a = length-append unpadded padding in
      let b = length-replicate {A = ℕ} (60 - length unpadded) 0 in
      record {
        destination = octets_are _ [] 0 6 nearest whole_is refl refl;
        source = octets_are _ (take 1 head_parts) 6 6 station.mac.octets whole_is refl six;
        type_is = number_is _ (take 2 head_parts) 12 2 0x88CC whole_is (omega (arith, six)) (omega arith);
        tlvs =
            subst (λ (xs : List ℕ). AreTlvs xs (told_by station))
            (sym (at_place (unpadded ++ padding) (tlvs_bytes (told_by station) padding) head_parts 14 whole_is (omega (arith, six))))
            (tlvs_read (told_by station) padding all_short);
        long = omega (arith, a, b);
      }

  pub announcement_is : IsAnnouncement (announcement station) station
  unfolding announcement
  announcement_is = there
