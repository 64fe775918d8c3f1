-- A request of DCP after its FrameID: what the format reads is there at fixed places, and what is there is read.
use Rattle.std.proofs.Common.{◌≡◌, ◌+◌, ◌≤◌, ◌==◌, ◌&&◌, ℕ, true, List, [], ◌∷◌, ◌++◌, length, map, take, drop, Option, Some, None, Result, Ok, Err, refl, sym, ap, subst, ◌∙◌, arith}
use Rattle.std.proofs.lemmas.Bool.{and_parts, cond_both, eqb-true, le-ltb}
use Rattle.std.proofs.lemmas.List.{drop-drop, length-append, length-drop}
use Rattle.byteorder.specs.Endian.{big_number}
use Rattle.wire.specs.Codec.{◌>>=◌}
use Rattle.wire.specs.Whole.{everything}
use Rattle.dcp_core.specs.declared.request.DcpFault.{DcpFault}
use Rattle.dcp_core.specs.declared.request.DcpFault.TheVariants as fault
use Rattle.dcp_core.specs.declared.request.Service.{Service}
use Rattle.dcp_core.specs.declared.request.Service.TheVariants.{Get, Set, Identify}
use Rattle.dcp_core.specs.Format.{at_least, block_of, blocks_of, data_of, frame_id_of, header_and_data, id_of, is_for, request, service_of}
use Rattle.dcp_core.specs.Reading.{request_of}
use Rattle.dcp_core.specs.Request.{Asked, AskedBlock}
use Rattle.dcp_core.proofs.Sound.{request_takes}
use Rattle.octets_law.proofs.CallPlaces.{skip}
use Rattle.octets_law.proofs.SetHeard.{asked_parts, two_ahead}
use Rattle.field_words.specs.Octets.{octet_at, part_at, word_at}
use Rattle.end_laws.proofs.CyclicAccepting.{one_read}
use Rattle.end_laws.proofs.CyclicPlaces.{two_read, word_dropped}
use Rattle.answers_law.specs.Requests.{Block, blocks_at, pairs_at}
use Rattle.answers_law.proofs.Tests.{no_ok, ok_same}
use Rattle.answers_law.proofs.Lists.{any_judged, as_read, asked_of, blocks_read, least_judged, pairs_read}

-- ---- the data of a service

-- The blocks or pairs of a service, at their places.
abbrev pub listed : Service → List ℕ → Option (List Block)
listed Get octets = pairs_at 16 octets
listed Set octets = blocks_at 2 16 octets
listed Identify octets = blocks_at 0 16 octets

blocks_are : (service : Service) (octets : List ℕ) → (blocks_of service).read octets ≡ as_read (listed service octets)
unfolding blocks_of block_of
blocks_are Get octets = pairs_read 16 octets
blocks_are Set octets = blocks_read (at_least fault.Block 2) 2 least_judged 16 octets
blocks_are Identify octets = blocks_read everything 0 any_judged 16 octets

-- The data with its service.
abbrev with_service : Service → Option (List Block) → Result (Service × List AskedBlock) DcpFault
with_service service (Some blocks) = Ok (service, map asked_of blocks)
with_service service None = Err fault.Block

served_as : (service : Service) (found : Option (List Block)) → (as_read found >>= λ blocks. Ok (service, blocks)) ≡ with_service service found
served_as service (Some blocks) = refl
served_as service None = refl

data_is : (service : Service) (octets : List ℕ) → (data_of (Ok service)).read octets ≡ with_service service (listed service octets)
unfolding data_of
data_is service octets =
    ap (λ (r : Result (List AskedBlock) DcpFault). r >>= λ blocks. Ok (service, blocks)) (blocks_are service octets) ∙ served_as service (listed service octets)

data_none : (why : DcpFault) (octets : List ℕ) → (data_of (Err why)).read octets ≡ Err why
unfolding data_of
data_none why octets = refl

-- ---- which service it is

-- FrameID, ServiceID and ServiceType are those of a request for this service.
pub record IsFor (service : Service) (frame_id id type : ℕ) : Type 0 where
  pub frame_is : frame_id ≡ frame_id_of service
  pub id_is : id ≡ id_of service
  pub type_is : type ≡ 0

module _ (frame_id id type : ℕ) where
  parts_of : (service : Service) → is_for service frame_id id type ≡ true → IsFor service frame_id id type
  parts_of service is =
      let one = and_parts (frame_id == frame_id_of service && id == id_of service) (type == 0) is in
      let two = and_parts (frame_id == frame_id_of service) (id == id_of service) one.0 in
      record { frame_is = eqb-true frame_id (frame_id_of service) two.0; id_is = eqb-true id (id_of service) two.1; type_is = eqb-true type 0 one.1 }

  found_as : (wanted service : Service) → is_for service frame_id id type ≡ true → (let r : Result Service DcpFault = Ok service in r) ≡ Ok wanted → IsFor wanted frame_id id type
  found_as wanted service is same = subst (λ (s : Service). IsFor s frame_id id type) (ok_same service wanted same) (parts_of service is)

  service_found : (wanted : Service) → service_of frame_id id type ≡ Ok wanted → IsFor wanted frame_id id type
  service_found wanted =
      cond_both (is_for Get frame_id id type) _ _ (λ (s : Result Service DcpFault). s ≡ Ok wanted → IsFor wanted frame_id id type) (λ is. found_as wanted Get is)
      (λ _. cond_both (is_for Set frame_id id type) _ _ (λ (s : Result Service DcpFault). s ≡ Ok wanted → IsFor wanted frame_id id type) (λ is. found_as wanted Set is)
      (λ _. cond_both (is_for Identify frame_id id type) _ _ (λ (s : Result Service DcpFault). s ≡ Ok wanted → IsFor wanted frame_id id type) (λ is. found_as wanted Identify is)
      (λ _ same. absurd (no_ok wanted fault.Service same))))

  service_is : (service : Service) → IsFor service frame_id id type → service_of frame_id id type ≡ Ok service
  service_is service it =
      ap (λ (n : ℕ). service_of n id type) it.frame_is ∙ (ap (λ (n : ℕ). service_of (frame_id_of service) n type) it.id_is
      ∙ (ap (λ (n : ℕ). service_of (frame_id_of service) (id_of service) n) it.type_is ∙ at service))
    where
      at : (service : Service) → service_of (frame_id_of service) (id_of service) 0 ≡ Ok service
      at Get = refl
      at Set = refl
      at Identify = refl

-- ---- the header

-- What the format reads with this data.
abbrev asked_as : ℕ → Result (Service × List AskedBlock) DcpFault → Result Asked DcpFault
asked_as xid (Ok found) = Ok (record { service = found.0; xid = xid; blocks = found.1 })
asked_as xid (Err why) = Err why

module _ (id : ℕ) (body : List ℕ) where
  abbrev one : List ℕ
  one = drop 1 body

  abbrev two : List ℕ
  two = drop 1 one

  abbrev three : List ℕ
  three = drop 4 two

  abbrev four : List ℕ
  four = drop 2 three

  abbrev rest : List ℕ
  rest = drop 2 four

  abbrev size : ℕ
  size = big_number 2 four

  request_found : 10 ≤ length body → size ≤ length rest → (found : Result (Service × List AskedBlock) DcpFault)
      → (data_of (service_of id (big_number 1 body) (big_number 1 one))).read (take size rest) ≡ found → request_of id body ≡ asked_as (big_number 4 two) found
  unfolding request_of request header_and_data
  request_found long there (Ok found) is =
      let a = length-drop 1 body in
      let b = length-drop 1 one in
      let c = length-drop 4 two in
      let d = length-drop 2 three in
      rw (
        le-ltb (length body) 1 (omega (arith, long)),
        le-ltb (length one) 1 (omega (arith, long, a)),
        le-ltb (length two) 4 (omega (arith, long, a, b)),
        le-ltb (length three) 2 (omega (arith, long, a, b, c)),
        le-ltb (length four) 2 (omega (arith, long, a, b, c, d)),
        le-ltb (length rest) size there,
        is,
      ) refl
  request_found long there (Err why) is =
      let a = length-drop 1 body in
      let b = length-drop 1 one in
      let c = length-drop 4 two in
      let d = length-drop 2 three in
      rw (
        le-ltb (length body) 1 (omega (arith, long)),
        le-ltb (length one) 1 (omega (arith, long, a)),
        le-ltb (length two) 4 (omega (arith, long, a, b)),
        le-ltb (length three) 2 (omega (arith, long, a, b, c)),
        le-ltb (length four) 2 (omega (arith, long, a, b, c, d)),
        le-ltb (length rest) size there,
        is,
      ) refl

  -- the same places, counted from the front
  pub two_is : two ≡ drop 2 body
  two_is = drop-drop 1 1 body

  four_is : four ≡ drop 8 body
  four_is = ap (λ (l : List ℕ). drop 2 (drop 4 l)) two_is ∙ (ap (λ (l : List ℕ). drop 2 l) (drop-drop 4 2 body) ∙ drop-drop 2 6 body)

  rest_is : rest ≡ drop 10 body
  rest_is = ap (λ (l : List ℕ). drop 2 l) four_is ∙ drop-drop 2 8 body

  size_word : 10 ≤ length body → size ≡ word_at 8 body
  size_word long =
      let a = length-drop 8 body in
      ap (λ (l : List ℕ). big_number 2 l) four_is ∙ (sym (two_read (drop 8 body) (omega (arith, long, a))) ∙ word_dropped 8 0 body)

  first_behind : (l : List ℕ) → octet_at 0 (drop 1 l) ≡ octet_at 1 l
  first_behind [] = refl
  first_behind (x ∷ []) = refl
  first_behind (x ∷ y ∷ l) = refl

  -- What is read, by the data at its place.
  request_is : 10 + word_at 8 body ≤ length body
      → request_of id body ≡ asked_as (big_number 4 two) ((data_of (service_of id (octet_at 0 body) (octet_at 1 body))).read (part_at 10 (word_at 8 body) body))
  request_is there =
      let long : 10 ≤ length body = omega (arith, there) in
      let a = length-drop 1 body in
      let r = length-drop 10 body in
      let s = size_word long in
      let fits : size ≤ length rest = omega (arith, s, there, r, ap (λ (l : List ℕ). length l) rest_is) in
      let first : big_number 1 body ≡ octet_at 0 body = one_read body (omega (arith, long)) in
      let second : big_number 1 one ≡ octet_at 1 body = one_read one (omega (arith, long, a)) ∙ first_behind body in
      request_found long fits _ refl
      ∙ (ap (λ (n : ℕ). asked_as (big_number 4 two) ((data_of (service_of id n (big_number 1 one))).read (take size rest))) first
      ∙ (ap (λ (n : ℕ). asked_as (big_number 4 two) ((data_of (service_of id (octet_at 0 body) n)).read (take size rest))) second
      ∙ (ap (λ (n : ℕ). asked_as (big_number 4 two) ((data_of (service_of id (octet_at 0 body) (octet_at 1 body))).read (take n rest))) s
      ∙ ap (λ (l : List ℕ). asked_as (big_number 4 two) ((data_of (service_of id (octet_at 0 body) (octet_at 1 body))).read (take (word_at 8 body) l))) rest_is)))

  -- All octets of a request that is read are there.
  request_long : (asked : Asked) → request_of id body ≡ Ok asked → 10 + word_at 8 body ≤ length body
  request_long asked read =
      let parts = asked_parts id body asked (request_takes id body asked read) in
      let behind : drop 8 body ≡ parts.size ++ (parts.inside ++ parts.rest) =
      ap (λ (l : List ℕ). drop 8 l) parts.is ∙ skip 7 1 parts.first _ parts.one ∙ skip 6 1 parts.second _ parts.two ∙ skip 2 4 parts.xid _ parts.xid_wide ∙ skip 0 2 parts.delay _ parts.delay_wide in
      let e : length body ≡ length (parts.first ++ (parts.second ++ (parts.xid ++ (parts.delay ++ (parts.size ++ (parts.inside ++ parts.rest)))))) = ap (λ (l : List ℕ). length l) parts.is in
      let a = length-append parts.first (parts.second ++ (parts.xid ++ (parts.delay ++ (parts.size ++ (parts.inside ++ parts.rest))))) in
      let b = length-append parts.second (parts.xid ++ (parts.delay ++ (parts.size ++ (parts.inside ++ parts.rest)))) in
      let c = length-append parts.xid (parts.delay ++ (parts.size ++ (parts.inside ++ parts.rest))) in
      let d = length-append parts.delay (parts.size ++ (parts.inside ++ parts.rest)) in
      let f = length-append parts.size (parts.inside ++ parts.rest) in
      let g = length-append parts.inside parts.rest in
      let h = length-drop 8 body in
      let p = parts.one in
      let q = parts.two in
      let r = parts.xid_wide in
      let s = parts.delay_wide in
      let t = parts.size_wide in
      let long : 10 ≤ length body = omega (arith, e, a, b, c, d, f, g, p, q, r, s, t) in
      let sized : word_at 8 body ≡ length parts.inside =
      sym (size_word long) ∙ (ap (λ (l : List ℕ). big_number 2 l) (four_is ∙ behind) ∙ (two_ahead parts.size _ parts.size_wide ∙ sym parts.size_is)) in
      omega (arith, sized, e, a, b, c, d, f, g, p, q, r, s, t)

  -- The request that these octets are, of this service and with these blocks.
  abbrev pub asked_at : Service → List Block → Asked
  asked_at service blocks = record { service = service; xid = big_number 4 two; blocks = map asked_of blocks }

  -- A request that is read is there.
  pub record IsPdu (asked : Asked) : Type 0 where
    pub service : Service
    pub for : IsFor service id (octet_at 0 body) (octet_at 1 body)
    pub long : 10 + word_at 8 body ≤ length body
    pub blocks : List Block
    pub there : listed service (part_at 10 (word_at 8 body) body) ≡ Some blocks
    pub is : asked ≡ asked_at service blocks

  pub pdu_takes : (asked : Asked) → request_of id body ≡ Ok asked → IsPdu asked
  pdu_takes asked read = by_service (service_of id (octet_at 0 body) (octet_at 1 body)) refl
    where
      octets : List ℕ
      octets = part_at 10 (word_at 8 body) body

      long : 10 + word_at 8 body ≤ length body
      long = request_long asked read

      at : (found : Result (Service × List AskedBlock) DcpFault) → (data_of (service_of id (octet_at 0 body) (octet_at 1 body))).read octets ≡ found
          → asked_as (big_number 4 two) found ≡ Ok asked
      at found is = ap (λ (r : Result (Service × List AskedBlock) DcpFault). asked_as (big_number 4 two) r) (sym is) ∙ (sym (request_is long) ∙ read)

      by_list : (service : Service) → service_of id (octet_at 0 body) (octet_at 1 body) ≡ Ok service → (found : Option (List Block)) → listed service octets ≡ found
          → asked_as (big_number 4 two) (with_service service found) ≡ Ok asked → IsPdu asked
      by_list service found (Some blocks) there is = record {
        service = service;
        for = service_found id (octet_at 0 body) (octet_at 1 body) service found;
        long = long;
        blocks = blocks;
        there = there;
        is = sym (ok_same (asked_at service blocks) asked is);
      }
      by_list service found None there is = absurd (no_ok asked fault.Block is)

      by_service : (found : Result Service DcpFault) → service_of id (octet_at 0 body) (octet_at 1 body) ≡ found → IsPdu asked
      by_service (Ok service) is =
          by_list service is (listed service octets) refl
          (at (with_service service (listed service octets)) (ap (λ (s : Result Service DcpFault). (data_of s).read octets) is ∙ data_is service octets))
      by_service (Err why) is =
          absurd (no_ok asked why (at (Err why) (ap (λ (s : Result Service DcpFault). (data_of s).read octets) is ∙ data_none why octets)))

  -- What is there is read.
  pub pdu_again : (service : Service) (blocks : List Block) → IsFor service id (octet_at 0 body) (octet_at 1 body) → 10 + word_at 8 body ≤ length body
      → listed service (part_at 10 (word_at 8 body) body) ≡ Some blocks → request_of id body ≡ Ok (asked_at service blocks)
  pdu_again service blocks for long there =
      let octets = part_at 10 (word_at 8 body) body in
      request_is long
      ∙ ap (λ (r : Result (Service × List AskedBlock) DcpFault). asked_as (big_number 4 two) r)
      (ap (λ (s : Result Service DcpFault). (data_of s).read octets) (service_is id (octet_at 0 body) (octet_at 1 body) service for)
      ∙ (data_is service octets ∙ ap (with_service service) there))
