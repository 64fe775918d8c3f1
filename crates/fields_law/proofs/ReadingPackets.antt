-- Requests and responses of RPC, read at their places.
use Rattle.std.proofs.Common.{◌≡◌, ◌+◌, ◌^◌, ◌%◌, ◌<◌, ◌≤◌, ◌++◌, ℕ, List, [], ◌∷◌, drop, length, take, Option, Some, refl, sym, ap, ◌∙◌, subst, arith}
use Rattle.std.proofs.lemmas.List.{append-nil}
use Rattle.byteorder.specs.Endian.{big_bytes, big_number}
use Rattle.byteorder.specs.Numbers.{big_number-reads_back}
use Rattle.rpc_core.specs.declared.header.CallHeader.{CallHeader}
use Rattle.rpc_core.specs.declared.interface.Interface.{Interface}
use Rattle.rpc_core.specs.Body.{body, counts, status}
use Rattle.rpc_core.specs.Call.{Asked, call, call_bytes}
use Rattle.rpc_core.specs.Fields.{ordered, uuid}
use Rattle.rpc_core.specs.Header.{extent, head, names, opening, turn}
use Rattle.rpc_core.specs.Pdu.{cut_off, pdu}
use Rattle.rpc_core.specs.Response.{Answered, response, response_bytes}
use Rattle.rpc_core.specs.Sendable.{IsHeader, IsStatus}
use Rattle.end_laws.specs.log_data.Reading.{number_at, octets_at}
use Rattle.fields_law.specs.Calls.{IsPacket, IsRequestPacket, IsResponsePacket}
use Rattle.fields_law.proofs.ReadingPlaces.{at_place, beyond, joined, number_is, octets_are, total}

module _ (asked : CallHeader) (type flags size : ℕ) (after : List ℕ) where
  abbrev packet_parts : List (List ℕ)
  packet_parts =
      big_bytes 1 4 ∷ big_bytes 1 type ∷ (big_bytes 1 flags ++ 0 ∷ []) ∷ (0 ∷ 0 ∷ 0 ∷ []) ∷ (0 ∷ []) ∷ asked.object ∷ asked.interface ∷ asked.activity
      ∷ (0 ∷ 0 ∷ 0 ∷ 0 ∷ []) ∷ (0 ∷ 0 ∷ 0 ∷ 1 ∷ []) ∷ big_bytes 4 asked.sequence ∷ big_bytes 2 asked.operation ∷ (255 ∷ 255 ∷ []) ∷ (255 ∷ 255 ∷ [])
      ∷ big_bytes 2 size ∷ big_bytes 2 0 ∷ big_bytes 1 0 ∷ (0 ∷ []) ∷ []

  abbrev packet_whole : List ℕ
  packet_whole = joined packet_parts after

  abbrev packet_first : ℕ → List (List ℕ)
  packet_first count = take count packet_parts

  packet_made : packet_whole ≡ joined packet_parts after
  packet_made = refl

  module _ (sized : IsHeader asked) (type_fits : type < 256) (flags_fit : flags < 256) (size_fits : size < 65536) where
    packet_flags : octets_at 2 2 packet_whole ≡ flags ∷ 0 ∷ []
    packet_flags =
        let low : flags % 256 ≡ flags = omega (arith, flags_fit) in
        octets_are _ (packet_first 2) 2 2 (big_bytes 1 flags ++ 0 ∷ []) packet_made refl refl ∙ ap (λ (n : ℕ). n ∷ 0 ∷ []) low

    pub packet_is : IsPacket packet_whole asked type flags size
    packet_is =
        let a = sized.object in
        let b = sized.interface in
        let c = sized.activity in
        record {
          rpc_vers = number_is _ (packet_first 0) 0 1 4 packet_made refl (omega arith);
          ptype = number_is _ (packet_first 1) 1 1 type packet_made refl type_fits;
          flags = packet_flags;
          drep = octets_are _ (packet_first 3) 4 3 (0 ∷ 0 ∷ 0 ∷ []) packet_made refl refl;
          serial_hi = number_is _ (packet_first 4) 7 1 0 packet_made refl (omega arith);
          object = octets_are _ (packet_first 5) 8 16 asked.object packet_made refl a;
          if_id = octets_are _ (packet_first 6) 24 16 asked.interface packet_made (omega (arith, a)) b;
          act_id = octets_are _ (packet_first 7) 40 16 asked.activity packet_made (omega (arith, a, b)) c;
          server_boot = number_is _ (packet_first 8) 56 4 0 packet_made (omega (arith, a, b, c)) (omega arith);
          if_vers = number_is _ (packet_first 9) 60 4 1 packet_made (omega (arith, a, b, c)) (omega arith);
          seqnum = number_is _ (packet_first 10) 64 4 asked.sequence packet_made (omega (arith, a, b, c)) sized.sequence;
          opnum = number_is _ (packet_first 11) 68 2 asked.operation packet_made (omega (arith, a, b, c)) sized.operation;
          ihint = number_is _ (packet_first 12) 70 2 0xFFFF packet_made (omega (arith, a, b, c)) (omega arith);
          ahint = number_is _ (packet_first 13) 72 2 0xFFFF packet_made (omega (arith, a, b, c)) (omega arith);
          len = number_is _ (packet_first 14) 74 2 size packet_made (omega (arith, a, b, c)) size_fits;
          fragnum = number_is _ (packet_first 15) 76 2 0 packet_made (omega (arith, a, b, c)) (omega arith);
          auth_proto = number_is _ (packet_first 16) 78 1 0 packet_made (omega (arith, a, b, c)) (omega arith);
          serial_lo = number_is _ (packet_first 17) 79 1 0 packet_made (omega (arith, a, b, c)) (omega arith);
        }

    packet_long : total packet_parts ≡ 80
    packet_long =
        let a = sized.object in
        let b = sized.interface in
        let c = sized.activity in
        omega (arith, a, b, c)

    -- a number of the body, after these parts of it
    pub body_number : (parts : List (List ℕ)) (rest : List ℕ) (place size_of value : ℕ) → after ≡ joined parts (big_bytes size_of value ++ rest)
        → total parts ≡ place → value < 256 ^ size_of → number_at (80 + place) size_of packet_whole ≡ value
    body_number parts rest place size_of value made long fits =
        let whole : drop (80 + place) packet_whole ≡ big_bytes size_of value ++ rest =
        beyond packet_whole after (big_bytes size_of value ++ rest) 80 place (at_place packet_whole after packet_parts 80 packet_made packet_long)
        (at_place after (big_bytes size_of value ++ rest) parts place made long) in
        ap (big_number size_of) whole ∙ big_number-reads_back size_of value rest fits

    -- what follows the parts of the body
    pub body_after : (parts : List (List ℕ)) (rest : List ℕ) (place : ℕ) → after ≡ joined parts rest → total parts ≡ place
        → drop (80 + place) packet_whole ≡ rest
    body_after parts rest place made long =
        beyond packet_whole after rest 80 place (at_place packet_whole after packet_parts 80 packet_made packet_long) (at_place after rest parts place made long)

-- ---- a request

module _ (interface : Interface) (asked : Asked) (blocks : List ℕ) where
  -- the request with these blocks
  abbrev with_blocks : Asked
  with_blocks = record asked { blocks = Some blocks }

  abbrev args_parts : List (List ℕ)
  args_parts =
      big_bytes 4 asked.args_maximum ∷ big_bytes 4 (length blocks) ∷ big_bytes 4 asked.args_maximum ∷ big_bytes 4 0 ∷ big_bytes 4 (length blocks) ∷ []

  abbrev args_bytes : List ℕ
  args_bytes = joined args_parts blocks

  args_made : args_bytes ≡ joined args_parts blocks
  args_made = refl

  abbrev request_parts : List (List ℕ)
  request_parts = packet_parts asked.header 0 0x20 (20 + length blocks) args_bytes

  request_spelled : call_bytes interface with_blocks ≡ joined request_parts (args_bytes ++ [])
  unfolding call_bytes call pdu cut_off head opening names turn extent ordered uuid body counts
  request_spelled = refl

  request_made : call_bytes interface with_blocks ≡ packet_whole asked.header 0 0x20 (20 + length blocks) args_bytes
  request_made = request_spelled ∙ ap (λ (xs : List ℕ). joined request_parts xs) (append-nil args_bytes)

  module _ (sized : IsHeader asked.header) (maximum : asked.args_maximum < 256 ^ 4) (few : length blocks ≤ 1372) where
    zero_fits : 0 < 256
    zero_fits = omega arith

    flag_fits : 0x20 < 256
    flag_fits = omega arith

    size_fits : 20 + length blocks < 65536
    size_fits = omega (arith, few)

    blocks_fit : length blocks < 256 ^ 4
    blocks_fit = omega (arith, few)

    request_there : IsRequestPacket (packet_whole asked.header 0 0x20 (20 + length blocks) args_bytes) asked blocks
    request_there = record {
      packet = packet_is asked.header 0 0x20 (20 + length blocks) args_bytes sized zero_fits flag_fits size_fits;
      args_maximum =
          body_number asked.header 0 0x20 (20 + length blocks) args_bytes sized zero_fits flag_fits size_fits [] _ 0 4 asked.args_maximum args_made refl
          maximum;
      args_length =
          body_number asked.header 0 0x20 (20 + length blocks) args_bytes sized zero_fits flag_fits size_fits (take 1 args_parts) _ 4 4 (length blocks)
          args_made refl
          blocks_fit;
      maximum_count =
          body_number asked.header 0 0x20 (20 + length blocks) args_bytes sized zero_fits flag_fits size_fits (take 2 args_parts) _ 8 4
          asked.args_maximum args_made refl
          maximum;
      offset =
          body_number asked.header 0 0x20 (20 + length blocks) args_bytes sized zero_fits flag_fits size_fits (take 3 args_parts) _ 12 4 0 args_made refl
          (omega arith);
      actual_count =
          body_number asked.header 0 0x20 (20 + length blocks) args_bytes sized zero_fits flag_fits size_fits (take 4 args_parts) _ 16 4 (length blocks)
          args_made refl
          blocks_fit;
      blocks_are = body_after asked.header 0 0x20 (20 + length blocks) args_bytes sized zero_fits flag_fits size_fits args_parts blocks 20 args_made refl;
    }

    request_with : IsRequestPacket (call_bytes interface with_blocks) asked blocks
    request_with = subst (λ (xs : List ℕ). IsRequestPacket xs asked blocks) (sym request_made) request_there

    pub request_is : asked.blocks ≡ Some blocks → IsRequestPacket (call_bytes interface asked) asked blocks
    request_is there =
        subst (λ (found : Option (List ℕ)). IsRequestPacket (call_bytes interface (record asked { blocks = found })) asked blocks) (sym there) request_with

-- ---- a response

module _ (answer : Answered) where
  abbrev answer_parts : List (List ℕ)
  answer_parts =
      big_bytes 1 answer.status.code ∷ big_bytes 1 answer.status.decode ∷ big_bytes 1 answer.status.code1 ∷ big_bytes 1 answer.status.code2
      ∷ big_bytes 4 (length answer.blocks) ∷ big_bytes 4 answer.maximum_count ∷ big_bytes 4 0 ∷ big_bytes 4 (length answer.blocks) ∷ []

  abbrev answer_bytes : List ℕ
  answer_bytes = joined answer_parts answer.blocks

  answer_made : answer_bytes ≡ joined answer_parts answer.blocks
  answer_made = refl

  abbrev response_parts : List (List ℕ)
  response_parts = packet_parts answer.header 2 0x0A (20 + length answer.blocks) answer_bytes

  response_spelled : response_bytes answer ≡ joined response_parts (answer_bytes ++ [])
  unfolding response_bytes response pdu cut_off head opening names turn extent ordered uuid body counts status
  response_spelled = refl

  response_made : response_bytes answer ≡ packet_whole answer.header 2 0x0A (20 + length answer.blocks) answer_bytes
  response_made = response_spelled ∙ ap (λ (xs : List ℕ). joined response_parts xs) (append-nil answer_bytes)

  module _ (sized : IsHeader answer.header) (told : IsStatus answer.status) (maximum : answer.maximum_count < 256 ^ 4) (few : length answer.blocks ≤ 1372) where
    two_fits : 2 < 256
    two_fits = omega arith

    ten_fits : 0x0A < 256
    ten_fits = omega arith

    length_fits : 20 + length answer.blocks < 65536
    length_fits = omega (arith, few)

    count_fits : length answer.blocks < 256 ^ 4
    count_fits = omega (arith, few)

    -- a number of the body
    number_there : (parts : List (List ℕ)) (rest : List ℕ) (place size_of value : ℕ) → answer_bytes ≡ joined parts (big_bytes size_of value ++ rest)
        → total parts ≡ place → value < 256 ^ size_of
        → number_at (80 + place) size_of (packet_whole answer.header 2 0x0A (20 + length answer.blocks) answer_bytes) ≡ value
    number_there parts rest place size_of value made long fits =
        body_number answer.header 2 0x0A (20 + length answer.blocks) answer_bytes sized two_fits ten_fits length_fits parts rest place size_of value made
        long fits

    response_there : IsResponsePacket (packet_whole answer.header 2 0x0A (20 + length answer.blocks) answer_bytes) answer
    response_there = record {
      packet = packet_is answer.header 2 0x0A (20 + length answer.blocks) answer_bytes sized two_fits ten_fits length_fits;
      error_code = number_there [] _ 0 1 answer.status.code answer_made refl told.code;
      error_decode = number_there (take 1 answer_parts) _ 1 1 answer.status.decode answer_made refl told.decode;
      error_code_1 = number_there (take 2 answer_parts) _ 2 1 answer.status.code1 answer_made refl told.code1;
      error_code_2 = number_there (take 3 answer_parts) _ 3 1 answer.status.code2 answer_made refl told.code2;
      args_length = number_there (take 4 answer_parts) _ 4 4 (length answer.blocks) answer_made refl count_fits;
      maximum_count = number_there (take 5 answer_parts) _ 8 4 answer.maximum_count answer_made refl maximum;
      offset = number_there (take 6 answer_parts) _ 12 4 0 answer_made refl (omega arith);
      actual_count = number_there (take 7 answer_parts) _ 16 4 (length answer.blocks) answer_made refl count_fits;
      blocks_are =
          body_after answer.header 2 0x0A (20 + length answer.blocks) answer_bytes sized two_fits ten_fits length_fits answer_parts answer.blocks 20
          answer_made refl;
    }

    pub response_is : IsResponsePacket (response_bytes answer) answer
    response_is = subst (λ (xs : List ℕ). IsResponsePacket xs answer) (sym response_made) response_there
