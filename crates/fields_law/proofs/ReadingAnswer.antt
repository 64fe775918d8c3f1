-- The answer to a Connect, read at its places.
use Rattle.std.proofs.Common.{◌≡◌, ◌+◌, ◌<◌, ◌++◌, ℕ, Bool, true, false, List, [], ◌∷◌, drop, length, take, refl, sym, ap, ◌∙◌, subst, if◌then◌else◌, arith}
use Rattle.std.proofs.lemmas.List.{append-nil}
use Rattle.byteorder.specs.Endian.{big_bytes}
use Rattle.byteorder.specs.Numbers.{big_number-reads_back}
use Rattle.pn_values.specs.declared.identity.Identity.{Identity}
use Rattle.wire.specs.blocks.Fields.{body, number_bytes, octet_bytes, version}
use Rattle.connect_blocks.specs.declared.ar_block.ArBlockRes.{ArBlockRes}
use Rattle.connect_blocks.specs.declared.iocr.RtClass.{RtClass}
use Rattle.connect_blocks.specs.declared.iocr.RtClass.TheVariants.{Class1, Class2}
use Rattle.connect_blocks.specs.ArBlock.{ar_block_res}
use Rattle.connect_blocks.specs.Iocr.{iocr_block_res}
use Rattle.block_codec.specs.declared.block.Block.TheVariants as is
use Rattle.block_codec.specs.Block.{block, block_bytes, body_of, fields_of}
use Rattle.block_codec.specs.Kinds.{number_of, type_of}
use Rattle.connects.specs.declared.requests.parts.Iocr.{Iocr}
use Rattle.connects.specs.answers.AlarmRelation.{alarm_relation}
use Rattle.connects.specs.requests.Request.{Request, chosen_id}
use Rattle.relations.specs.Connect.{alarm_answer, ar_answer, connect_blocks, input_answer, iocr_answer, output_answer}
use Rattle.relations.specs.Numbers.{endpoint_of, output_id}
use Rattle.end_laws.specs.log_data.Reading.{octets_at}
use Rattle.fields_law.specs.Answer.{IsAlarmAnswer, IsConnectAnswer, IsCyclicAnswer, IsRelationAnswer, IsSizedAnswer, first_id, outputs_id}
use Rattle.fields_law.proofs.ReadingBlocks.{AreLong, block_is, headed, headed_is, header, size_in, with_size}
use Rattle.fields_law.proofs.ReadingPlaces.{at_place, joined, joined_long, number_is, octets_are, spread}

-- ---- ARBlockRes

module _ (long : AreLong) (identity : Identity) (request : Request) (number : ℕ) (sized : IsSizedAnswer request identity.mac number) where
  abbrev answered : ArBlockRes
  answered = record { ar_uuid = request.ar.uuid; session_key = request.ar.session_key; cm_responder_mac_add = identity.mac }

  abbrev ar_parts : List (List ℕ)
  ar_parts = big_bytes 2 1 ∷ request.ar.uuid ∷ big_bytes 2 request.ar.session_key ∷ identity.mac.octets ∷ big_bytes 2 0x8892 ∷ []

  abbrev ar_inside : List ℕ
  ar_inside = joined ar_parts []

  ar_written : ar_answer identity request ≡ with_size 0x8101 (size_in (is.ArBlockRes answered)) ar_inside
  unfolding block_bytes block body_of fields_of number_of type_of body version ar_block_res number_bytes octet_bytes
  ar_written = ap (λ (xs : List ℕ). big_bytes 2 0x8101 ++ (big_bytes 2 (size_in (is.ArBlockRes answered)) ++ xs)) (append-nil (1 ∷ 0 ∷ ar_inside))

  ar_made : ar_answer identity request ≡ headed 0x8101 ar_inside
  ar_made = headed_is long (is.ArBlockRes answered) 0x8101 ar_inside ar_written

  ar_inside_long : length ar_inside ≡ 28
  ar_inside_long =
      let all = joined_long ar_parts [] in
      let a = sized.ar_uuid in
      let b = sized.mac in
      omega (arith, all, a, b)

  ar_long : length (ar_answer identity request) ≡ 34
  ar_long =
      let made = ap length ar_made in
      let l = ar_inside_long in
      omega (arith, made, l)

  ar_whole : headed 0x8101 ar_inside ≡ joined (header 0x8101 ar_inside ∷ ar_parts) []
  ar_whole = refl

  abbrev ar_first : ℕ → List (List ℕ)
  ar_first count = take count (header 0x8101 ar_inside ∷ ar_parts)

  ar_is : IsRelationAnswer (headed 0x8101 ar_inside) request identity.mac
  ar_is =
      let a = sized.ar_uuid in
      let b = sized.mac in
      let l = ar_inside_long in
      record {
        block = block_is 0x8101 ar_inside (omega arith) (omega (arith, l));
        ar_type = number_is _ (ar_first 1) 6 2 1 ar_whole refl (omega arith);
        ar_uuid = octets_are _ (ar_first 2) 8 16 request.ar.uuid ar_whole refl a;
        session_key = number_is _ (ar_first 3) 24 2 request.ar.session_key ar_whole (omega (arith, a)) sized.session_key;
        mac = octets_are _ (ar_first 4) 26 6 identity.mac.octets ar_whole (omega (arith, a)) b;
        port = number_is _ (ar_first 5) 32 2 0x8892 ar_whole (omega (arith, a, b)) (omega arith);
      }

  ar_read : IsRelationAnswer (ar_answer identity request) request identity.mac
  ar_read = subst (λ (xs : List ℕ). IsRelationAnswer xs request identity.mac) (sym ar_made) ar_is

  -- ---- IOCRBlockRes and AlarmCRBlockRes

  abbrev iocr_whole : ℕ → Iocr → ℕ → List ℕ
  iocr_whole type asked frame_id = with_size 0x8102 8 (big_bytes 2 type ++ (big_bytes 2 asked.reference ++ big_bytes 2 frame_id))

  iocr_made : (type : ℕ) (asked : Iocr) (frame_id : ℕ) → iocr_answer type asked frame_id ≡ iocr_whole type asked frame_id
  unfolding block_bytes block body_of fields_of number_of type_of body version iocr_block_res number_bytes
  iocr_made type asked frame_id = refl

  iocr_read : (type : ℕ) (asked : Iocr) (frame_id : ℕ) → type < 65536 → asked.reference < 65536 → frame_id < 65536
      → IsCyclicAnswer (iocr_answer type asked frame_id) type asked frame_id
  iocr_read type asked frame_id type_fits reference_fits id_fits =
      subst (λ (xs : List ℕ). IsCyclicAnswer xs type asked frame_id) (sym (iocr_made type asked frame_id)) (record {
        block = record { kind = refl; size = refl; version = refl };
        type_is = big_number-reads_back 2 type [] type_fits;
        reference = big_number-reads_back 2 asked.reference [] reference_fits;
        id_is = big_number-reads_back 2 frame_id [] id_fits;
      })

  iocr_long : (type : ℕ) (asked : Iocr) (frame_id : ℕ) → length (iocr_answer type asked frame_id) ≡ 12
  iocr_long type asked frame_id = ap length (iocr_made type asked frame_id)

  abbrev alarm_whole : ℕ → List ℕ
  alarm_whole endpoint = with_size 0x8103 8 (big_bytes 2 1 ++ (big_bytes 2 endpoint ++ big_bytes 2 200))

  alarm_made : alarm_answer number ≡ alarm_whole (endpoint_of number)
  unfolding alarm_relation number_bytes
  alarm_made = refl

  alarm_read : IsAlarmAnswer (alarm_answer number) (number + 1)
  alarm_read =
      let fits = sized.number_fits in
      let same : endpoint_of number ≡ number + 1 = omega arith in
      subst (λ (xs : List ℕ). IsAlarmAnswer xs (number + 1)) (sym (alarm_made ∙ ap alarm_whole same)) (record {
        block = record { kind = refl; size = refl; version = refl };
        type_is = refl;
        reference = big_number-reads_back 2 (number + 1) [] (omega (arith, fits));
        data_length = refl;
      })

  alarm_long : length (alarm_answer number) ≡ 12
  alarm_long = ap length alarm_made

  -- ---- the whole answer

  chosen_is : (class : RtClass) → (chosen_id class ≡ first_id class) × (first_id class + number < 65536)
  chosen_is Class1 = let fits = sized.number_fits in (refl, omega (arith, fits))
  chosen_is Class2 = let fits = sized.number_fits in (refl, omega (arith, fits))

  id_by : (chooses : Bool) → ((if chooses then chosen_id request.output.class + number else request.output.frame_id)
      ≡ (if chooses then first_id request.output.class + number else request.output.frame_id))
      × ((if chooses then first_id request.output.class + number else request.output.frame_id) < 65536)
  id_by true = (ap (λ (n : ℕ). n + number) (chosen_is request.output.class).0, (chosen_is request.output.class).1)
  id_by false = (refl, sized.output_id)

  input_read : IsCyclicAnswer (input_answer request) 1 request.input request.input.frame_id
  input_read = iocr_read 1 request.input request.input.frame_id (omega arith) sized.input_reference sized.input_id

  output_read : IsCyclicAnswer (output_answer number request) 2 request.output (outputs_id number request.output)
  output_read =
      let id = id_by request.output.device_chooses in
      subst (λ (n : ℕ). IsCyclicAnswer (iocr_answer 2 request.output n) 2 request.output (outputs_id number request.output)) (sym id.0)
      (iocr_read 2 request.output (outputs_id number request.output) (omega arith) sized.output_reference id.1)

  module _ (differing : List ℕ) where
    -- the answer, with the two IOCRBlockRes in an order
    abbrev whole_in : Bool → List ℕ
    whole_in first =
        ar_answer identity request ++ (if first then input_answer request ++ output_answer number request else output_answer number request ++ input_answer request)
        ++ alarm_answer number ++ differing

    abbrev blocks_in : Bool → List (List ℕ)
    blocks_in true = ar_answer identity request ∷ input_answer request ∷ output_answer number request ∷ alarm_answer number ∷ []
    blocks_in false = ar_answer identity request ∷ output_answer number request ∷ input_answer request ∷ alarm_answer number ∷ []

    made_in : (first : Bool) → whole_in first ≡ joined (blocks_in first) differing
    made_in true =
        spread (ar_answer identity request) ((input_answer request ++ output_answer number request) ∷ alarm_answer number ∷ []) differing
        ∙ ap (λ (xs : List ℕ). ar_answer identity request ++ xs)
        (spread (input_answer request) (output_answer number request ∷ []) (alarm_answer number ++ differing))
    made_in false =
        spread (ar_answer identity request) ((output_answer number request ++ input_answer request) ∷ alarm_answer number ∷ []) differing
        ∙ ap (λ (xs : List ℕ). ar_answer identity request ++ xs)
        (spread (output_answer number request) (input_answer request ∷ []) (alarm_answer number ++ differing))

    abbrev ReadIn : Bool → Type 0
    ReadIn first =
        IsRelationAnswer (octets_at 0 34 (whole_in first)) request identity.mac
        × IsCyclicAnswer (octets_at (if first then 34 else 46) 12 (whole_in first)) 1 request.input request.input.frame_id
        × IsCyclicAnswer (octets_at (if first then 46 else 34) 12 (whole_in first)) 2 request.output (outputs_id number request.output)
        × IsAlarmAnswer (octets_at 58 12 (whole_in first)) (number + 1)
        × (drop 70 (whole_in first) ≡ differing)

    relation_in : (first : Bool) → octets_at 0 34 (whole_in first) ≡ ar_answer identity request
    relation_in true = octets_are _ [] 0 34 (ar_answer identity request) (made_in true) refl ar_long
    relation_in false = octets_are _ [] 0 34 (ar_answer identity request) (made_in false) refl ar_long

    alarms_in : (first : Bool) → octets_at 58 12 (whole_in first) ≡ alarm_answer number
    alarms_in true =
        let a = ar_long in
        let b = iocr_long 1 request.input request.input.frame_id in
        let c = iocr_long 2 request.output (output_id number request.output) in
        octets_are _ (take 3 (blocks_in true)) 58 12 (alarm_answer number) (made_in true) (omega (arith, a, b, c)) alarm_long
    alarms_in false =
        let a = ar_long in
        let b = iocr_long 1 request.input request.input.frame_id in
        let c = iocr_long 2 request.output (output_id number request.output) in
        octets_are _ (take 3 (blocks_in false)) 58 12 (alarm_answer number) (made_in false) (omega (arith, a, b, c)) alarm_long

    rest_in : (first : Bool) → drop 70 (whole_in first) ≡ differing
    rest_in true =
        let a = ar_long in
        let b = iocr_long 1 request.input request.input.frame_id in
        let c = iocr_long 2 request.output (output_id number request.output) in
        let d = alarm_long in
        at_place (whole_in true) differing (blocks_in true) 70 (made_in true) (omega (arith, a, b, c, d))
    rest_in false =
        let a = ar_long in
        let b = iocr_long 1 request.input request.input.frame_id in
        let c = iocr_long 2 request.output (output_id number request.output) in
        let d = alarm_long in
        at_place (whole_in false) differing (blocks_in false) 70 (made_in false) (omega (arith, a, b, c, d))

    inputs_in : (first : Bool) → octets_at (if first then 34 else 46) 12 (whole_in first) ≡ input_answer request
    inputs_in true =
        let a = ar_long in
        octets_are _ (take 1 (blocks_in true)) 34 12 (input_answer request) (made_in true) (omega (arith, a))
        (iocr_long 1 request.input request.input.frame_id)
    inputs_in false =
        let a = ar_long in
        let c = iocr_long 2 request.output (output_id number request.output) in
        octets_are _ (take 2 (blocks_in false)) 46 12 (input_answer request) (made_in false) (omega (arith, a, c))
        (iocr_long 1 request.input request.input.frame_id)

    outputs_in : (first : Bool) → octets_at (if first then 46 else 34) 12 (whole_in first) ≡ output_answer number request
    outputs_in true =
        let a = ar_long in
        let b = iocr_long 1 request.input request.input.frame_id in
        octets_are _ (take 2 (blocks_in true)) 46 12 (output_answer number request) (made_in true) (omega (arith, a, b))
        (iocr_long 2 request.output (output_id number request.output))
    outputs_in false =
        let a = ar_long in
        octets_are _ (take 1 (blocks_in false)) 34 12 (output_answer number request) (made_in false) (omega (arith, a))
        (iocr_long 2 request.output (output_id number request.output))

    read_in : (first : Bool) → ReadIn first
    read_in first = (
      subst (λ (xs : List ℕ). IsRelationAnswer xs request identity.mac) (sym (relation_in first)) ar_read,
      subst (λ (xs : List ℕ). IsCyclicAnswer xs 1 request.input request.input.frame_id) (sym (inputs_in first)) input_read,
      subst (λ (xs : List ℕ). IsCyclicAnswer xs 2 request.output (outputs_id number request.output)) (sym (outputs_in first)) output_read,
      subst (λ (xs : List ℕ). IsAlarmAnswer xs (number + 1)) (sym (alarms_in first)) alarm_read,
      rest_in first,
    )

    pub answer_is : IsConnectAnswer (connect_blocks identity number request differing) request identity.mac number differing
    unfolding connect_blocks
    answer_is =
        let all = read_in request.input_first in
        record { relation = all.0; inputs = all.1; outputs = all.2; alarms = all.3; differing_is = all.4 }
