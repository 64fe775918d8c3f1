-- The PDUs that a device answers, read at their places.
use Rattle.std.proofs.Common.{◌≡◌, ◌*◌, ◌/◌, ◌%◌, ◌==◌, ◌^◌, ◌<◌, ◌++◌, ℕ, zero, suc, Bool, true, false, List, [], ◌∷◌, drop, length, take, refl, ap, ◌∙◌, if◌then◌else◌, arith}
use Rattle.std.proofs.lemmas.List.{append-nil}
use Rattle.byteorder.specs.Endian.{big_bytes}
use Rattle.rpc_core.specs.declared.call_headers.call.Head.{Head}
use Rattle.rpc_core.specs.call_headers.Call.{extent, head, in_order, names, opening, turn}
use Rattle.rpc_core.specs.call_headers.Unserved.{answer_bytes, status_of}
use Rattle.rpc_core.specs.declared.call_headers.unserved.Rejection.{Rejection}
use Rattle.rpc_core.specs.declared.call_headers.unserved.Rejection.TheVariants.{Operation, Interface}
use Rattle.rpc_core.specs.declared.call_headers.unserved.Refusal.TheVariants.{NoCall, Reject}
use Rattle.end_laws.specs.log_data.Reading.{octets_at}
use Rattle.fields_law.specs.Packet.{IsAnswer, IsCall, IsNoCall, IsReject, is_little_endian, reject_status}
use Rattle.fields_law.proofs.ReadingPlaces.{at_place, four_long, joined, joined_long, joined_onto, number_is, octets_are, ordered_back, ordered_bytes, ordered_is, total, two_long, written}

-- ---- the header

-- the header of an answer
abbrev pub answering : Head → ℕ → ℕ → ℕ → ℕ → Head
answering call ptype flags len fragnum = record {
  opening = record { packet_type = ptype; flags = flags; representation = call.opening.representation / 16 * 16 };
  names = call.names;
  turn = call.turn;
  extent = record { length = len; fragment = fragnum; authentication = 0 };
}

module _ (call : Head) (ptype flags len fragnum : ℕ) (rest : List ℕ) where
  abbrev little : Bool
  little = is_little_endian call

  abbrev drep : ℕ
  drep = call.opening.representation / 16 * 16

  -- the byte order of the answer is that of the call
  same_order : drep / 16 ≡ call.opening.representation / 16
  same_order = omega arith

  -- the parts of the header
  abbrev pub parts_in : Bool → List (List ℕ)
  parts_in order =
      big_bytes 1 4 ∷ big_bytes 1 ptype ∷ (big_bytes 1 flags ++ 0 ∷ []) ∷ (big_bytes 1 drep ++ 0 ∷ 0 ∷ []) ∷ (0 ∷ []) ∷ call.names.object
      ∷ call.names.interface ∷ call.names.activity ∷ (0 ∷ 0 ∷ 0 ∷ 0 ∷ []) ∷ call.turn.version ∷ call.turn.sequence
      ∷ ordered_bytes order 2 call.turn.operation ∷ (255 ∷ 255 ∷ []) ∷ (255 ∷ 255 ∷ []) ∷ ordered_bytes order 2 len ∷ ordered_bytes order 2 fragnum
      ∷ big_bytes 1 0 ∷ (0 ∷ []) ∷ []

  abbrev made_in : Bool → List ℕ
  made_in order =
      big_bytes 1 4 ++ (big_bytes 1 ptype ++ (big_bytes 1 flags ++ (0 ∷ (big_bytes 1 drep ++ (0 ∷ 0 ∷ 0 ∷ (call.names.object ++ (call.names.interface
      ++ (call.names.activity ++ (0 ∷ 0 ∷ 0 ∷ 0 ∷ (call.turn.version ++ (call.turn.sequence ++ ((in_order order 2).write call.turn.operation
      (255 ∷ 255 ∷ 255 ∷ 255 ∷ (in_order order 2).write len ((in_order order 2).write fragnum (big_bytes 1 0 ++ (0 ∷ rest))))))))))))))))

  by_order : (order : Bool) → made_in order ≡ joined (parts_in order) rest
  unfolding in_order
  by_order true = refl
  by_order false = refl

  made_is : head.write (answering call ptype flags len fragnum) rest ≡ made_in (drep / 16 == 1)
  unfolding head opening names turn extent
  made_is = refl

  pub header_is : head.write (answering call ptype flags len fragnum) rest ≡ joined (parts_in little) rest
  header_is = made_is ∙ ap (λ (n : ℕ). made_in (n == 1)) same_order ∙ by_order little

  -- the same, with what follows it written after it
  pub header_and : (more : List ℕ) → head.write (answering call ptype flags len fragnum) rest ++ more ≡ joined (parts_in little) (rest ++ more)
  header_and more = ap (λ (xs : List ℕ). xs ++ more) header_is ∙ joined_onto (parts_in little) rest more

  -- the first of them
  abbrev first : ℕ → List (List ℕ)
  first count = take count (parts_in little)

  drep_is : (half : ℕ) → half < 2 → half * 16 % 256 ≡ (if half == 1 then 16 else 0)
  drep_is zero few = refl
  drep_is (suc zero) few = refl
  drep_is (suc (suc n)) few = omega (arith, few)

  module _ (whole : List ℕ) (made : whole ≡ joined (parts_in little) rest) (is : IsCall call)
      (ptype_fits : ptype < 256) (flags_fit : flags < 256) (len_fits : len < 65536) (fragnum_fits : fragnum < 65536) (long : length rest ≡ len) where
    operation_long : length (ordered_bytes little 2 call.turn.operation) ≡ 2
    operation_long = two_long little call.turn.operation

    len_long : length (ordered_bytes little 2 len) ≡ 2
    len_long = two_long little len

    fragnum_long : length (ordered_bytes little 2 fragnum) ≡ 2
    fragnum_long = two_long little fragnum

    before_interface : total (first 6) ≡ 24
    before_interface = omega (arith, is.object)

    before_activity : total (first 7) ≡ 40
    before_activity = omega (arith, before_interface, is.interface)

    before_boot : total (first 8) ≡ 56
    before_boot = omega (arith, before_activity, is.activity)

    before_sequence : total (first 10) ≡ 64
    before_sequence = omega (arith, before_boot, is.version)

    before_operation : total (first 11) ≡ 68
    before_operation = omega (arith, before_sequence, is.sequence)

    before_hints : total (first 12) ≡ 70
    before_hints = omega (arith, before_operation, operation_long)

    before_fragnum : total (first 15) ≡ 76
    before_fragnum = omega (arith, before_hints, len_long)

    before_rest : total (first 18) ≡ 80
    before_rest = omega (arith, before_fragnum, fragnum_long)

    flags_are : octets_at 2 2 whole ≡ flags ∷ 0 ∷ []
    flags_are =
        let low : flags % 256 ≡ flags = omega (arith, flags_fit) in
        octets_are _ (first 2) 2 2 (big_bytes 1 flags ++ 0 ∷ []) made refl refl ∙ ap (λ (n : ℕ). n ∷ 0 ∷ []) low

    order_is : octets_at 4 3 whole ≡ (if little then 0x10 else 0x00) ∷ 0 ∷ 0 ∷ []
    order_is =
        let few : call.opening.representation / 16 < 2 = omega (arith, is.representation) in
        octets_are _ (first 3) 4 3 (big_bytes 1 drep ++ 0 ∷ 0 ∷ []) made refl refl
        ∙ ap (λ (n : ℕ). n ∷ 0 ∷ 0 ∷ []) (drep_is (call.opening.representation / 16) few)

    -- what follows it
    pub body_is : drop 80 whole ≡ rest
    body_is = at_place whole rest (parts_in little) 80 made before_rest

    pub answer_is : IsAnswer whole call ptype flags len fragnum
    answer_is = record {
      rpc_vers = number_is _ (first 0) 0 1 4 made refl (omega arith);
      ptype = number_is _ (first 1) 1 1 ptype made refl ptype_fits;
      flags = flags_are;
      drep = order_is;
      serial_hi = number_is _ (first 4) 7 1 0 made refl (omega arith);
      object = octets_are _ (first 5) 8 16 call.names.object made refl is.object;
      if_id = octets_are _ (first 6) 24 16 call.names.interface made before_interface is.interface;
      act_id = octets_are _ (first 7) 40 16 call.names.activity made before_activity is.activity;
      server_boot = number_is _ (first 8) 56 4 0 made before_boot (omega arith);
      if_vers = octets_are _ (first 9) 60 4 call.turn.version made (omega (arith, before_boot)) is.version;
      seqnum = octets_are _ (first 10) 64 4 call.turn.sequence made before_sequence is.sequence;
      opnum = ordered_is _ little (first 11) 68 2 call.turn.operation made before_operation is.operation;
      ihint = number_is _ (first 12) 70 2 0xFFFF made before_hints (omega arith);
      ahint = number_is _ (first 13) 72 2 0xFFFF made (omega (arith, before_hints)) (omega arith);
      len = ordered_is _ little (first 14) 74 2 len made (omega (arith, before_hints)) len_fits;
      fragnum = ordered_is _ little (first 15) 76 2 fragnum made before_fragnum fragnum_fits;
      auth_proto = number_is _ (first 16) 78 1 0 made (omega (arith, before_fragnum, fragnum_long)) (omega arith);
      serial_lo = number_is _ (first 17) 79 1 0 made (omega (arith, before_fragnum, fragnum_long)) (omega arith);
      size =
          let l = joined_long (parts_in little) rest in
          let b = before_rest in
          ap length made ∙ omega (arith, l, b, long);
    }

-- ---- nocall and reject

pub no_call_is : (call : Head) → IsCall call → IsNoCall (answer_bytes call NoCall) call
unfolding answer_bytes
no_call_is call is = answer_is call 5 8 0 0 [] (answer_bytes call NoCall) (header_is call 5 8 0 0 []) is (omega arith) (omega arith) (omega arith)
    (omega arith) refl

status_of_is : (rejection : Rejection) → (reject_status rejection < 256 ^ 4) × (status_of rejection ≡ reject_status rejection)
status_of_is Operation = (omega arith, refl)
status_of_is Interface = (omega arith, refl)

module _ (call : Head) (rejection : Rejection) (is : IsCall call) where
  abbrev status : List ℕ
  status = ordered_bytes (is_little_endian call) 4 (reject_status rejection)

  reject_made : answer_bytes call (Reject rejection) ≡ head.write (answering call 6 8 4 0) [] ++ (status ++ [])
  unfolding answer_bytes
  reject_made =
      ap (λ (xs : List ℕ). head.write (answering call 6 8 4 0) [] ++ xs) (written (is_little_endian call) 4 (status_of rejection) [])
      ∙ ap (λ (n : ℕ). head.write (answering call 6 8 4 0) [] ++ (ordered_bytes (is_little_endian call) 4 n ++ [])) (status_of_is rejection).1

  made : answer_bytes call (Reject rejection) ≡ joined (parts_in call 6 8 4 0 [] (is_little_endian call)) (status ++ [])
  made = reject_made ∙ header_and call 6 8 4 0 [] (status ++ [])

  status_long : length (status ++ []) ≡ 4
  status_long = ap length (append-nil status) ∙ four_long (is_little_endian call) (reject_status rejection)

  after_header : drop 80 (answer_bytes call (Reject rejection)) ≡ status ++ []
  after_header = body_is call 6 8 4 0 (status ++ []) (answer_bytes call (Reject rejection)) made is (omega arith) (omega arith) (omega arith)
      (omega arith) status_long

  pub reject_is : IsReject (answer_bytes call (Reject rejection)) call rejection
  reject_is = record {
    header = answer_is call 6 8 4 0 (status ++ []) (answer_bytes call (Reject rejection)) made is (omega arith) (omega arith) (omega arith)
        (omega arith) status_long;
    status = ordered_back (is_little_endian call) (answer_bytes call (Reject rejection)) [] 80 4 (reject_status rejection) after_header
        (status_of_is rejection).0;
  }
