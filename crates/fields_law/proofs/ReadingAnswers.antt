-- The acknowledgement of fragments and the answers of the endpoint mapper, read at their places.
use Rattle.std.proofs.Common.{◌≡◌, ◌+◌, ◌-◌, ◌/◌, ◌%◌, ◌^◌, ◌<◌, ◌++◌, ℕ, Bool, true, false, List, [], ◌∷◌, drop, length, take, replicate, nat_lt, refl, reverse, ltb-true, slice_index, sym, ap, ◌∙◌, subst, if◌then◌else◌, arith}
use Rattle.std.proofs.lemmas.List.{length-append, length-replicate}
use Rattle.byteorder.specs.Endian.{big_bytes, big_number}
use Rattle.byteorder.specs.Numbers.{big_number-reads_back, little_number-reads_back}
use Rattle.pn_values.specs.declared.identity.Identity.{Identity}
use Rattle.rpc_core.specs.declared.call_headers.call.Head.{Head}
use Rattle.rpc_core.specs.call_headers.Call.{head, in_order}
use Rattle.rpc_services.specs.pieces.Piece.{Piece}
use Rattle.rpc_services.specs.pieces.State.{fack_bytes, fack_head}
use Rattle.rpc_services.specs.endpoint_mapper.Entry.{counts, ended, entry, floors, found, freed, long, object_of, sent_object, told_handle, tower}
use Rattle.rpc_services.specs.declared.endpoint_mapper.lookup.Lookup.{Lookup}
use Rattle.rpc_services.specs.endpoint_mapper.Annotation.{annotation, digit, in_five, in_three, software_text, type_text}
use Rattle.rpc_services.specs.endpoint_mapper.Lookup.{gets_entry}
use Rattle.rpc_services.specs.endpoint_mapper.Mapper.{lookup_bytes, low_first, response}
use Rattle.fields_law.specs.Acknowledgement.{IsFack}
use Rattle.fields_law.specs.Mapper.{IsAnnotation, IsEnd, IsEndAnswer, IsEntry, IsEntryAnswer, IsFreed, IsFreedAnswer, IsIdentity, IsTower, decimal, object_uuid}
use Rattle.fields_law.specs.Packet.{IsAnswer, IsCall, is_little_endian}
use Rattle.fields_law.specs.Places.{ordered_at, uuid_at}
use Rattle.fields_law.proofs.ReadingPacket.{answer_is, body_is, header_and, parts_in}
use Rattle.fields_law.proofs.ReadingPlaces.{at_place, beyond, four_long, joined, joined_long, number_is, octets_are, ordered_back, ordered_bytes, ordered_is, spread, total, two_long}

-- ---- fack

module _ (p : Piece) (number : ℕ) where
  abbrev little : Bool
  little = is_little_endian p.head

  abbrev body_parts : Bool → List (List ℕ)
  body_parts order = (0 ∷ 0 ∷ []) ∷ ordered_bytes order 2 4 ∷ ordered_bytes order 4 1472 ∷ ordered_bytes order 4 1472 ∷ ordered_bytes order 2
      p.serial ∷ ordered_bytes order 2 0 ∷ []

  abbrev front : List ℕ
  front = head.write (fack_head p.head number) []

  abbrev body_in : Bool → List ℕ
  body_in order = 0 ∷ 0 ∷ (in_order order 2).write 4 []

  abbrev made_in : Bool → List ℕ
  made_in order = front ++ body_in order ++ (in_order order 4).write 1472 [] ++ (in_order order 4).write 1472 [] ++ (in_order order 2).write p.serial []
      ++ (in_order order 2).write 0 []

  spread_by : (order : Bool) → made_in order ≡ front ++ joined (body_in order ∷ (in_order order 4).write 1472 [] ∷ (in_order order 4).write 1472 []
      ∷ (in_order order 2).write p.serial [] ∷ []) ((in_order order 2).write 0 [])
  spread_by order = spread front (body_in order ∷ (in_order order 4).write 1472 [] ∷ (in_order order 4).write 1472 [] ∷ (in_order order 2).write
      p.serial [] ∷ [])
      ((in_order order 2).write 0 [])

  body_by : (order : Bool) → joined (body_in order ∷ (in_order order 4).write 1472 [] ∷ (in_order order 4).write 1472 [] ∷ (in_order order 2).write
      p.serial [] ∷ [])
      ((in_order order 2).write 0 []) ≡ joined (body_parts order) []
  unfolding in_order
  body_by true = refl
  body_by false = refl

  made : fack_bytes p number ≡ joined (parts_in p.head 9 8 16 number [] little) (joined (body_parts little) [])
  made = spread_by little ∙ ap (λ (xs : List ℕ). front ++ xs) (body_by little) ∙ header_and p.head 9 8 16 number [] (joined (body_parts little) [])

  body_long : length (joined (body_parts little) []) ≡ 16
  body_long =
      let l = joined_long (body_parts little) [] in
      let a = two_long little 4 in
      let b = four_long little 1472 in
      let c = two_long little p.serial in
      let d = two_long little 0 in
      omega (arith, l, a, b, c, d)

  module _ (is : IsCall p.head) (number_fits : number < 65536) (serial_fits : p.serial < 65536) where
    abbrev body : List ℕ
    body = joined (body_parts little) []

    after : drop 80 (fack_bytes p number) ≡ body
    after = body_is p.head 9 8 16 number body (fack_bytes p number) made is (omega arith) (omega arith) (omega arith) number_fits body_long

    -- a number of the body
    in_body : (rest : List ℕ) (count place size value : ℕ) → body ≡ joined (take count (body_parts little)) (ordered_bytes little size value ++ rest)
        → total (take count (body_parts little)) ≡ place → value < 256 ^ size → ordered_at little (80 + place) size (fack_bytes p number) ≡ value
    in_body rest count place size value made_of long fits =
        ordered_back little (fack_bytes p number) rest (80 + place) size value
        (beyond (fack_bytes p number) body (ordered_bytes little size value ++ rest) 80 place after
        (at_place body (ordered_bytes little size value ++ rest) (take count (body_parts little)) place made_of long))
        fits

    pub fack_is : IsFack (fack_bytes p number) p.head number p.serial
    fack_is =
        let a = two_long little 4 in
        let b = four_long little 1472 in
        let c = two_long little p.serial in
        record {
          header = answer_is p.head 9 8 16 number body (fack_bytes p number) made is (omega arith) (omega arith) (omega arith) number_fits body_long;
          vers = ap (big_number 1) after;
          window_size = in_body _ 1 2 2 4 refl refl (omega arith);
          max_tsdu = in_body _ 2 4 4 1472 refl (omega (arith, a)) (omega arith);
          max_frag_size = in_body _ 3 8 4 1472 refl (omega (arith, a, b)) (omega arith);
          serial_num = in_body _ 4 12 2 p.serial refl (omega (arith, a, b)) serial_fits;
          selack_len = in_body _ 5 14 2 0 refl (omega (arith, a, b, c)) (omega arith);
        }

-- ---- the endpoint mapper

-- a response with a body
module _ (call : Head) (size : ℕ) (body : List ℕ) (is : IsCall call) (fits : size < 65536) (long : length body ≡ size) where
  response_made : response call size body ≡ joined (parts_in call 2 10 size 0 [] (is_little_endian call)) body
  response_made = header_and call 2 10 size 0 [] body

  pub response_is : IsAnswer (response call size body) call 2 10 size 0
  response_is = answer_is call 2 10 size 0 body (response call size body) response_made is (omega arith) (omega arith) fits (omega arith) long

  pub response_body : drop 80 (response call size body) ≡ body
  response_body = body_is call 2 10 size 0 body (response call size body) response_made is (omega arith) (omega arith) fits (omega arith) long

-- the handle is freed
freed_by : (little : Bool) → (IsFreed little (freed little)) × (length (freed little) ≡ 24)
unfolding freed in_order
freed_by true = (record { handle = refl; status = refl }, refl)
freed_by false = (record { handle = refl; status = refl }, refl)

pub freed_is : (call : Head) → IsCall call → IsFreedAnswer (response call 24 (freed (low_first call))) call
freed_is call is =
    let by = freed_by (low_first call) in
    let body = response_body call 24 (freed (low_first call)) is (omega arith) by.1 in
    (response_is call 24 (freed (low_first call)) is (omega arith) by.1, subst (IsFreed (is_little_endian call)) (sym body) by.0)

-- there is no entry
ended_long : (little : Bool) (most : ℕ) → length (ended little most) ≡ 40
unfolding ended counts in_order
ended_long true most = refl
ended_long false most = refl

ended_by : (little : Bool) (most : ℕ) → most < 256 ^ 4 → IsEnd little (ended little most) most
unfolding ended counts in_order
ended_by true most fits = record {
  handle = refl;
  num_ents = refl;
  maximum = little_number-reads_back 4 most (drop 28 (ended true most)) fits;
  offset = refl;
  count = refl;
  status = refl;
}
ended_by false most fits = record {
  handle = refl;
  num_ents = refl;
  maximum = big_number-reads_back 4 most (drop 28 (ended false most)) fits;
  offset = refl;
  count = refl;
  status = refl;
}

module _ (identity : Identity) (address : List ℕ) (call : Head) (asked : Lookup) (is : IsCall call) (fits : asked.most < 256 ^ 4) where
  pub end_is : gets_entry asked ≡ false → IsEndAnswer (lookup_bytes identity address call asked) call asked.most
  end_is none =
      let long = ended_long (low_first call) asked.most in
      let body = response_body call 40 (ended (low_first call) asked.most) is (omega arith) long in
      let chosen : lookup_bytes identity address call asked ≡ response call 40 (ended (low_first call) asked.most) =
      ap (λ (b : Bool). if b then response call 216 (found (low_first call) identity address asked.most) else response call 40
      (ended (low_first call) asked.most)) none in
      subst (λ (xs : List ℕ). IsEndAnswer xs call asked.most) (sym chosen) (
        response_is call 40 (ended (low_first call) asked.most) is (omega arith) long,
        subst (λ (xs : List ℕ). IsEnd (is_little_endian call) xs asked.most) (sym body) (ended_by (low_first call) asked.most fits),
      )

-- ---- the annotation

-- the digit of a unit
digit_is : (unit n : ℕ) → (n < unit → 0 ≡ n / unit % 10) → digit unit n - 48 ≡ n / unit % 10
digit_is unit n none = by_test (nat_lt n unit) refl
  where
    by_test : (test : Bool) → nat_lt n unit ≡ test → (if test then 32 else 48 + n / unit % 10) - 48 ≡ n / unit % 10
    by_test true e = none (ltb-true n unit e)
    by_test false e = omega arith

three_back : (n : ℕ) → n < 256 → decimal 0 (in_three n) ≡ n
three_back n few =
    let a = digit_is 100 n (λ small. omega (arith, small)) in
    let b = digit_is 10 n (λ small. omega (arith, small)) in
    omega (arith, a, b, few)

five_back : (n : ℕ) → n < 65536 → decimal 0 (in_five n) ≡ n
five_back n few =
    let a = digit_is 10000 n (λ small. omega (arith, small)) in
    let b = digit_is 1000 n (λ small. omega (arith, small)) in
    let c = digit_is 100 n (λ small. omega (arith, small)) in
    let d = digit_is 10 n (λ small. omega (arith, small)) in
    omega (arith, a, b, c, d, few)

module _ (identity : Identity) (rest : List ℕ) (is : IsIdentity identity) where
  abbrev revision : List ℕ
  revision = identity.software_revision

  abbrev text_parts : List (List ℕ)
  text_parts =
      type_text identity ∷ (32 ∷ []) ∷ identity.order_id ∷ (32 ∷ []) ∷ in_five identity.hardware_revision ∷ (32 ∷ []) ∷ big_bytes 1 (slice_index revision 0)
      ∷ in_three (slice_index revision 1) ∷ in_three (slice_index revision 2) ∷ in_three (slice_index revision 3) ∷ (0 ∷ []) ∷ []

  abbrev first_texts : ℕ → List (List ℕ)
  first_texts count = take count text_parts

  prefix_is : slice_index revision 0 ≡ slice_index revision 0 % 256
  prefix_is = omega (arith, is.prefix)

  text_made : annotation identity ++ rest ≡ joined text_parts rest
  unfolding annotation
  text_made =
      spread (type_text identity) ((32 ∷ []) ∷ identity.order_id ∷ (32 ∷ []) ∷ in_five identity.hardware_revision ∷ (32 ∷ []) ∷ software_text
      revision ∷ (0 ∷ []) ∷ []) rest
      ∙ ap (λ (n : ℕ). joined (type_text identity ∷ (32 ∷ []) ∷ identity.order_id ∷ (32 ∷ []) ∷ in_five identity.hardware_revision ∷ (32 ∷ []) ∷ (n ∷ [])
      ∷ in_three (slice_index revision 1) ∷ in_three (slice_index revision 2) ∷ in_three (slice_index revision 3) ∷ (0 ∷ []) ∷ []) rest) prefix_is

  type_long : length (type_text identity) ≡ 25
  type_long =
      let a = length-append identity.station_type.items (replicate (25 - length identity.station_type.items) 32) in
      let b = length-replicate {A = ℕ} (25 - length identity.station_type.items) 32 in
      omega (arith, a, b, is.device_type)

  pub text_is : IsAnnotation (annotation identity ++ rest) identity
  text_is =
      let a = type_long in
      let b = is.order_id in
      record {
        device_type = octets_are _ (first_texts 0) 0 25 (type_text identity) text_made refl a;
        order_id = octets_are _ (first_texts 2) 26 20 identity.order_id text_made (omega (arith, a)) b;
        hardware_revision =
            ap (decimal 0) (octets_are _ (first_texts 4) 47 5 (in_five identity.hardware_revision) text_made (omega (arith, a, b)) refl)
            ∙ five_back identity.hardware_revision is.hardware_revision;
        prefix = number_is _ (first_texts 6) 53 1 (slice_index revision 0) text_made (omega (arith, a, b)) is.prefix;
        functional_enhancement =
            ap (decimal 0) (octets_are _ (first_texts 7) 54 3 (in_three (slice_index revision 1)) text_made (omega (arith, a, b)) refl)
            ∙ three_back (slice_index revision 1) is.functional_enhancement;
        bug_fix =
            ap (decimal 0) (octets_are _ (first_texts 8) 57 3 (in_three (slice_index revision 2)) text_made (omega (arith, a, b)) refl)
            ∙ three_back (slice_index revision 2) is.bug_fix;
        internal_change =
            ap (decimal 0) (octets_are _ (first_texts 9) 60 3 (in_three (slice_index revision 3)) text_made (omega (arith, a, b)) refl)
            ∙ three_back (slice_index revision 3) is.internal_change;
        spaces = (
          number_is _ (first_texts 1) 25 1 32 text_made (omega (arith, a)) (omega arith),
          number_is _ (first_texts 3) 46 1 32 text_made (omega (arith, a, b)) (omega arith),
          number_is _ (first_texts 5) 52 1 32 text_made (omega (arith, a, b)) (omega arith),
        );
        end = number_is _ (first_texts 10) 63 1 0 text_made (omega (arith, a, b)) (omega arith);
      }

  pub text_long : length (annotation identity) ≡ 64
  unfolding annotation
  text_long =
      let long = ap length (spread (type_text identity) ((32 ∷ []) ∷ identity.order_id ∷ (32 ∷ []) ∷ in_five identity.hardware_revision ∷ (32 ∷ []) ∷
      software_text revision ∷ []) (0 ∷ [])) in
      let whole = joined_long (type_text identity ∷ (32 ∷ []) ∷ identity.order_id ∷ (32 ∷ []) ∷ in_five identity.hardware_revision ∷ (32 ∷ []) ∷
      software_text revision ∷ []) (0 ∷ []) in
      let a = type_long in
      let b = is.order_id in
      omega (arith, long, whole, a, b)

-- ---- the tower

tower_of : (address more : List ℕ) → length address ≡ 4 → IsTower (floors ++ (address ++ more)) address
tower_of address more long = record {
  floors = refl;
  interface = record { left = refl; protocol = refl; uuid_of = refl; major = refl; right = refl; minor = refl };
  syntax_of = record { left = refl; protocol = refl; uuid_of = refl; major = refl; right = refl; minor = refl };
  rpc = record { left = refl; protocol = refl; right = refl };
  rpc_minor = refl;
  udp = record { left = refl; protocol = refl; right = refl };
  port = refl;
  ip = record { left = refl; protocol = refl; right = refl };
  address_of = octets_are {whole = floors ++ (address ++ more)} more (floors ∷ []) 71 4 address refl refl long;
}

-- ---- the entry

-- an identifier at a place, by what is there
abbrev printed : List ℕ → List ℕ → List ℕ → List ℕ → List ℕ
printed first second third last = reverse (take 4 first) ++ reverse (take 2 second) ++ reverse (take 2 third) ++ take 8 last

object_back : (little : Bool) (identity : Identity) (whole rest : List ℕ) (place : ℕ) → drop place whole ≡ sent_object little identity ++ rest
    → uuid_at little place whole ≡ object_uuid identity
unfolding object_of
object_back true identity whole rest place is =
    let second = beyond whole (sent_object true identity ++ rest) (drop 4 (sent_object true identity ++ rest)) place 4 is refl in
    let third = beyond whole (sent_object true identity ++ rest) (drop 6 (sent_object true identity ++ rest)) place 6 is refl in
    let last = beyond whole (sent_object true identity ++ rest) (drop 8 (sent_object true identity ++ rest)) place 8 is refl in
    λ i. printed (is i) (second i) (third i) (last i)
object_back false identity whole rest place is = ap (take 16) is

object_long : (little : Bool) (identity : Identity) → length (sent_object little identity) ≡ 16
unfolding object_of
object_long true identity = refl
object_long false identity = refl

module _ (identity : Identity) (address : List ℕ) (most : ℕ) where
  abbrev entry_parts : Bool → List (List ℕ)
  entry_parts little =
      ordered_bytes little 4 0 ∷ sent_object little identity ∷ ordered_bytes little 4 1 ∷ ordered_bytes little 4 most ∷ ordered_bytes little 4 0
      ∷ ordered_bytes little 4 1 ∷ sent_object little identity ∷ ordered_bytes little 4 3 ∷ ordered_bytes little 4 0 ∷ ordered_bytes little 4 64
      ∷ annotation identity ∷ ordered_bytes little 4 75 ∷ ordered_bytes little 4 75 ∷ floors ∷ address ∷ (0 ∷ []) ∷ ordered_bytes little 4 0 ∷ []

  -- the three levels of chains
  abbrev with_entry : Bool → List ℕ → List ℕ
  with_entry little rest = told_handle little identity ++ (counts little 1 most ++ rest)

  abbrev with_text : Bool → List ℕ → List ℕ
  with_text little rest = with_entry little (sent_object little identity
      ++ (long little 3 ++ (long little 0 ++ (long little 64 ++ (annotation identity ++ rest)))))

  abbrev with_tower : Bool → List ℕ
  with_tower little = with_text little (long little 75 ++ (long little 75 ++ (floors ++ (address ++ (0 ∷ long little 0)))))

  chain : (little : Bool) → found little identity address most ≡ with_tower little
  unfolding found entry tower
  chain little =
      spread (told_handle little identity) (counts little 1 most ∷ entry little identity ∷ tower little address ∷ []) (long little 0)
      ∙ ap (with_entry little) (spread (sent_object little identity) (long little 3 ∷ long little 0 ∷ long little 64 ∷ annotation identity ∷ [])
      (tower little address ++ long little 0))
      ∙ ap (with_text little) (spread (long little 75) (long little 75 ∷ floors ∷ address ∷ (0 ∷ []) ∷ []) (long little 0))

  tower_by : (little : Bool) → with_tower little ≡ joined (entry_parts little) []
  unfolding counts in_order object_of
  tower_by true = refl
  tower_by false = refl

  entry_made : (little : Bool) → found little identity address most ≡ joined (entry_parts little) []
  entry_made little = chain little ∙ tower_by little

  module _ (little : Bool) (is : IsIdentity identity) (address_long : length address ≡ 4) (fits : most < 256 ^ 4) where
    abbrev first_parts : ℕ → List (List ℕ)
    first_parts count = take count (entry_parts little)

    abbrev whole : List ℕ
    whole = found little identity address most

    entry_is_made : whole ≡ joined (entry_parts little) []
    entry_is_made = entry_made little

    -- all numbers are of four octets
    four : (value : ℕ) → length (ordered_bytes little 4 value) ≡ 4
    four value = four_long little value

    at_counts : total (first_parts 2) ≡ 20
    at_counts = let a = four 0 in let b = object_long little identity in omega (arith, a, b)

    at_object : total (first_parts 6) ≡ 36
    at_object = let a = four 1 in let b = four most in let c = four 0 in let d = at_counts in omega (arith, a, b, c, d)

    at_referent : total (first_parts 7) ≡ 52
    at_referent = let a = object_long little identity in let b = at_object in omega (arith, a, b)

    at_text : total (first_parts 10) ≡ 64
    at_text = let a = four 3 in let b = four 0 in let c = four 64 in let d = at_referent in omega (arith, a, b, c, d)

    at_tower : total (first_parts 11) ≡ 128
    at_tower = let a = text_long identity [] is in let b = at_text in omega (arith, a, b)

    at_floors : total (first_parts 13) ≡ 136
    at_floors = let a = four 75 in let b = at_tower in omega (arith, a, b)

    at_status : total (first_parts 16) ≡ 212
    at_status = let a = at_floors in omega (arith, a, address_long)

    pub found_long : length whole ≡ 216
    found_long =
        let a = ap length entry_is_made in
        let b = joined_long (entry_parts little) [] in
        let c = at_status in
        let d = four 0 in
        omega (arith, a, b, c, d)

    abbrev after_floors : List ℕ
    after_floors = 0 ∷ (ordered_bytes little 4 0 ++ [])

    abbrev after_text : List ℕ
    after_text = joined (drop 11 (entry_parts little)) []

    text_there : drop 64 whole ≡ annotation identity ++ after_text
    text_there = at_place whole (annotation identity ++ after_text) (first_parts 10) 64 entry_is_made at_text

    tower_there : drop 136 whole ≡ floors ++ (address ++ after_floors)
    tower_there = at_place whole (floors ++ (address ++ after_floors)) (first_parts 13) 136 entry_is_made at_floors

    handle_there : drop 4 whole ≡ sent_object little identity ++ joined (drop 2 (entry_parts little)) []
    handle_there = at_place whole (sent_object little identity ++ joined (drop 2 (entry_parts little)) []) (first_parts 1) 4 entry_is_made
        (let a = four 0 in omega (arith, a))

    object_there : drop 36 whole ≡ sent_object little identity ++ joined (drop 7 (entry_parts little)) []
    object_there = at_place whole (sent_object little identity ++ joined (drop 7 (entry_parts little)) []) (first_parts 6) 36 entry_is_made at_object

    pub entry_of : IsEntry little whole identity address most
    entry_of =
        let c = at_counts in
        let r = at_referent in
        let t = at_tower in
        let one = four 1 in
        let maximum = four most in
        let zeros = four 0 in
        let three = four 3 in
        let whole_tower = four 75 in
        record {
          attributes = ordered_is _ little (first_parts 0) 0 4 0 entry_is_made refl (omega arith);
          handle = object_back little identity whole (joined (drop 2 (entry_parts little)) []) 4 handle_there;
          num_ents = ordered_is _ little (first_parts 2) 20 4 1 entry_is_made c (omega arith);
          maximum = ordered_is _ little (first_parts 3) 24 4 most entry_is_made (omega (arith, c, one)) fits;
          offset = ordered_is _ little (first_parts 4) 28 4 0 entry_is_made (omega (arith, c, one, maximum)) (omega arith);
          count = ordered_is _ little (first_parts 5) 32 4 1 entry_is_made (omega (arith, c, one, maximum, zeros)) (omega arith);
          object = object_back little identity whole (joined (drop 7 (entry_parts little)) []) 36 object_there;
          referent = ordered_is _ little (first_parts 7) 52 4 3 entry_is_made r (omega arith);
          annotation_offset = ordered_is _ little (first_parts 8) 56 4 0 entry_is_made (omega (arith, r, three)) (omega arith);
          annotation_length = ordered_is _ little (first_parts 9) 60 4 64 entry_is_made (omega (arith, r, three, zeros)) (omega arith);
          annotation_of = subst (λ (xs : List ℕ). IsAnnotation xs identity) (sym text_there) (text_is identity after_text is);
          tower_maximum = ordered_is _ little (first_parts 11) 128 4 75 entry_is_made t (omega arith);
          tower_length = ordered_is _ little (first_parts 12) 132 4 75 entry_is_made (omega (arith, t, whole_tower)) (omega arith);
          tower_of = subst (λ (xs : List ℕ). IsTower xs address) (sym tower_there) (tower_of address after_floors address_long);
          status = ordered_is _ little (first_parts 16) 212 4 0 entry_is_made at_status (omega arith);
        }

module _ (identity : Identity) (address : List ℕ) (call : Head) (asked : Lookup) (own : IsIdentity identity) (address_long : length address ≡ 4)
    (is : IsCall call)
    (fits : asked.most < 256 ^ 4) where
  pub entry_is : gets_entry asked ≡ true → IsEntryAnswer (lookup_bytes identity address call asked) call identity address asked.most
  entry_is some =
      let long = found_long identity address asked.most (low_first call) own address_long fits in
      let body = response_body call 216 (found (low_first call) identity address asked.most) is (omega arith) long in
      let chosen : lookup_bytes identity address call asked ≡ response call 216 (found (low_first call) identity address asked.most) =
      ap (λ (b : Bool). if b then response call 216 (found (low_first call) identity address asked.most) else response call 40
      (ended (low_first call) asked.most)) some in
      subst (λ (xs : List ℕ). IsEntryAnswer xs call identity address asked.most) (sym chosen) (
        response_is call 216 (found (low_first call) identity address asked.most) is (omega arith) long,
        subst (λ (xs : List ℕ). IsEntry (is_little_endian call) xs identity address asked.most) (sym body)
            (entry_of identity address asked.most (low_first call) own address_long fits),
      )
