-- What the octets of a written record ask for: an I&M text, or nothing.
use Rattle.std.proofs.Common.{◌≡◌, ◌==◌, ◌&&◌, ◌+◌, ◌-◌, ◌*◌, ℕ, zero, suc, Bool, true, false, not, List, [], ◌∷◌, length, drop, take, nat_eq, Option, Some, None, Result, Ok, Err, if◌then◌else◌, refl, sym, ap, ◌∙◌, arith}
use Rattle.std.proofs.lemmas.Bool.{and_parts, cond_both}
use Rattle.std.specs.Cmp.Lexicographic.{pointwise}
use Rattle.wire.specs.Codec.{◌>>=◌}
use Rattle.pn_values.specs.declared.real.Real.{Real}
use Rattle.pn_values.specs.declared.im_value.ImValue.{ImValue}
use Rattle.pn_values.specs.declared.im_value.ImValue.TheVariants.{Im1, Im2, Im3, Im4}
use Rattle.pn_values.specs.declared.command.Command.{Command}
use Rattle.pn_values.specs.declared.command.Command.TheVariants.{SetName, SetIp, SetIm, ResetApplication, ResetCommunication, ResetAll}
use Rattle.im_records.specs.declared.fault.RecordFault.{RecordFault}
use Rattle.im_records.specs.declared.record.Record.{Record}
use Rattle.im_records.specs.Indices.{is_text, record_with}
use Rattle.im_records.specs.Writable.{is_writable}
use Rattle.im_records.specs.Writes.{command_in, command_of, header_of, text_of}
use Rattle.record_blocks.specs.declared.write_record.IodWriteReq.{IodWriteReq}
use Rattle.records.specs.declared.writes.write.Effect.{Effect}
use Rattle.records.specs.declared.writes.write.Effect.TheVariants.{Stores, Keeps}
use Rattle.records.specs.declared.writes.taken.TakenRecord.{TakenRecord}
use Rattle.records.specs.reads.Parameters.{parameter_length}
use Rattle.records.specs.writes.Handled.{effect_of, is_length, kept, stored, text_in as text_asked}
use Rattle.octets_law.specs.Octets.{number, text_in}
use Rattle.octets_law.proofs.CallReads.{tested}
use Rattle.octets_law.proofs.WriteMarks.{IsTaken}
use Rattle.octets_law.proofs.WriteReads.{IsHeaderRead}

abbrev pub text_at : ℕ → List ℕ → Option Command
text_at index text =
    if index == 0xAFF1 then Some (SetIm (Im1 text))
    else if index == 0xAFF2 then Some (SetIm (Im2 text))
    else if index == 0xAFF3 then Some (SetIm (Im3 text))
    else if index == 0xAFF4 then Some (SetIm (Im4 text))
    else None

abbrev pub text_for : ℕ → ℕ → List ℕ → Option Command
text_for slots index text = if not (slots == 1) then None else text_at index text

text_as : (bytes : List ℕ) (request : IodWriteReq) (rest : List ℕ) → IsHeaderRead bytes request rest
    → text_in bytes ≡ text_for (request.header.slot_number * 65536 + request.header.subslot_number) request.header.index (take (request.header.record_data_length - 6) (drop 6 rest))
text_as bytes request rest it =
    let text : ℕ → List ℕ = λ n. take (n - 6) (drop 70 bytes) in
    ap (λ n. text_for n (number 34 2 bytes) (text (number 36 4 bytes))) it.slots
    ∙ ap (λ i. text_for (request.header.slot_number * 65536 + request.header.subslot_number) i (text (number 36 4 bytes))) it.index
    ∙ ap (λ n. text_for (request.header.slot_number * 65536 + request.header.subslot_number) request.header.index (text n)) it.count
    ∙ ap (λ l. text_for (request.header.slot_number * 65536 + request.header.subslot_number) request.header.index (take (request.header.record_data_length - 6) l)) (it.behind 6)

-- ---- a record that is no text

not_text : (index m : ℕ) → (index == m) ≡ true → is_text (record_with m) ≡ true → is_text (record_with index) ≡ false → ⊥
not_text index m is text not = let e = tested index m is in absurd cc

none_text : (index : ℕ) (text : List ℕ) → is_text (record_with index) ≡ false → text_at index text ≡ None
unfolding record_with
none_text index text un =
    cond_both (index == 0xAFF1) _ _ (λ (r : Option Command). r ≡ None) (λ is. absurd (not_text index 0xAFF1 is refl un))
    (λ _. cond_both (index == 0xAFF2) _ _ (λ (r : Option Command). r ≡ None) (λ is. absurd (not_text index 0xAFF2 is refl un))
    (λ _. cond_both (index == 0xAFF3) _ _ (λ (r : Option Command). r ≡ None) (λ is. absurd (not_text index 0xAFF3 is refl un))
    (λ _. cond_both (index == 0xAFF4) _ _ (λ (r : Option Command). r ≡ None) (λ is. absurd (not_text index 0xAFF4 is refl un)) (λ _. refl))))

same_test : (n m : ℕ) → n ≡ m → (m == m) ≡ true → (n == m) ≡ true
same_test n m is test = ap (λ k. k == m) is ∙ test

left_false : (one other : Bool) → (one && other) ≡ false → other ≡ true → one ≡ false
left_false true true is holds = is
left_false true false is holds = absurd cc
left_false false other is holds = refl

none_written : (slot subslot index : ℕ) (text : List ℕ) → is_writable index slot subslot ≡ false → text_for (slot * 65536 + subslot) index text ≡ None
none_written slot subslot index text un = by_place (slot * 65536 + subslot == 1) refl
  where
    by_place : (b : Bool) → (slot * 65536 + subslot == 1) ≡ b → (if not b then None else text_at index text) ≡ None
    by_place false is = refl
    by_place true is =
        let e = tested (slot * 65536 + subslot) 1 is in
        let here : (slot == 0 && subslot == 1) ≡ true = both_true (slot == 0) (subslot == 1) (same_test slot 0 (omega arith) refl) (same_test subslot 1 (omega arith) refl) in
        none_text index text (left_false (is_text (record_with index)) (slot == 0 && subslot == 1) un here)
      where
        both_true : (one other : Bool) → one ≡ true → other ≡ true → (one && other) ≡ true
        both_true one other a b = cc

-- ---- a text

same_value : (one other : ImValue) → ◌≡◌ {A = Option Effect} (Some (Stores one)) (Some (Stores other)) → ◌≡◌ {A = Option Command} (Some (SetIm one)) (Some (SetIm other))
same_value one other e = cc

stored_value : (size : ℕ) (header octets : List ℕ) (make : List ℕ → ImValue) (value : ImValue)
    → text_asked (text_of size header octets >>= λ text. Ok (SetIm (make text))) ≡ Some (Stores value) → ◌≡◌ {A = Option Command} (Some (SetIm (make (drop 6 octets)))) (Some (SetIm value))
unfolding text_of
stored_value size header octets make value =
    cond_both (length octets == 6 + size) _ _ P
    (λ _. cond_both (pointwise nat_eq (take 6 octets) header) _ _ P (λ _ e. same_value _ _ e) (λ _ e. absurd cc)) (λ _ e. absurd cc)
  where
    P : Result (List ℕ) RecordFault → Type 0
    P r = text_asked (r >>= λ text. Ok (SetIm (make text))) ≡ Some (Stores value) → ◌≡◌ {A = Option Command} (Some (SetIm (make (drop 6 octets)))) (Some (SetIm value))

stored_text : (index : ℕ) (octets : List ℕ) (value : ImValue) → stored index octets ≡ Some (Stores value) → text_at index (drop 6 octets) ≡ Some (SetIm value)
unfolding command_of record_with
stored_text index octets value =
    cond_both (index == 0xAFF0) _ _ P (λ _ e. absurd cc)
    (λ _. cond_both (index == 0xAFF1) _ _ P (λ is e. at 0xAFF1 is ∙ stored_value 54 (header_of 0x21 54) octets Im1 value e)
    (λ _. cond_both (index == 0xAFF2) _ _ P (λ is e. at 0xAFF2 is ∙ stored_value 16 (header_of 0x22 16) octets Im2 value e)
    (λ _. cond_both (index == 0xAFF3) _ _ P (λ is e. at 0xAFF3 is ∙ stored_value 54 (header_of 0x23 54) octets Im3 value e)
    (λ _. cond_both (index == 0xAFF4) _ _ P (λ is e. at 0xAFF4 is ∙ stored_value 54 (header_of 0x24 54) octets Im4 value e)
    (λ _. cond_both (index == 0xF840) _ _ P (λ _ e. absurd cc)
    (λ _. cond_both (index == 0xE002) _ _ P (λ _ e. absurd cc) (λ _ e. absurd cc)))))))
  where
    P : Option Record → Type 0
    P r = text_asked (command_in r octets) ≡ Some (Stores value) → text_at index (drop 6 octets) ≡ Some (SetIm value)

    at : (m : ℕ) → (index == m) ≡ true → text_at index (drop 6 octets) ≡ text_at m (drop 6 octets)
    at m is = ap (λ i. text_at i (drop 6 octets)) (tested index m is)

drop_taken : (m n : ℕ) (octets : List ℕ) → drop m (take n octets) ≡ take (n - m) (drop m octets)
drop_taken zero n octets = ap (λ k. take k octets) (less_none n)
  where
    less_none : (n : ℕ) → n ≡ n - 0
    less_none n = omega arith
drop_taken (suc m) zero octets = ap (λ k. take k (drop (suc m) octets)) (none_less m)
  where
    none_less : (m : ℕ) → 0 ≡ 0 - suc m
    none_less m = omega arith
drop_taken (suc m) (suc n) [] = none_taken (suc n - suc m)
  where
    none_taken : (k : ℕ) → [] ≡ take {A = ℕ} k []
    none_taken zero = refl
    none_taken (suc k) = refl
drop_taken (suc m) (suc n) (x ∷ octets) = drop_taken m n octets ∙ ap (λ k. take k (drop m octets)) (both_less n m)
  where
    both_less : (n m : ℕ) → n - m ≡ suc n - suc m
    both_less n m = omega arith

no_kept : (came : Result Command RecordFault) (parameter : TakenRecord) → text_asked came ≡ Some (Keeps parameter) → ⊥
no_kept (Ok (SetIm value)) parameter e = absurd cc
no_kept (Ok (SetName permanent name)) parameter e = absurd cc
no_kept (Ok (SetIp permanent suite)) parameter e = absurd cc
no_kept (Ok ResetApplication) parameter e = absurd cc
no_kept (Ok ResetCommunication) parameter e = absurd cc
no_kept (Ok ResetAll) parameter e = absurd cc
no_kept (Err why) parameter e = absurd cc

no_stored : (real : Real) (request : IodWriteReq) (octets : List ℕ) (value : ImValue) → kept real request octets ≡ Some (Stores value) → ⊥
no_stored real request octets value =
    cond_both (is_length (parameter_length real.modules.items request.header.slot_number request.header.subslot_number request.header.index) (length octets)) _ _
    (λ (r : Option Effect). r ≡ Some (Stores value) → ⊥) (λ _ e. absurd cc) (λ _ e. absurd cc)

-- A record is read as what its Write asks for.
pub text_read : (real : Real) (bytes : List ℕ) (request : IodWriteReq) (rest : List ℕ) (effect : Effect) → IsHeaderRead bytes request rest
    → effect_of real request (take request.header.record_data_length rest) ≡ Some effect → IsTaken effect (text_in bytes)
text_read real bytes request rest (Keeps parameter) it =
    cond_both (is_writable request.header.index request.header.slot_number request.header.subslot_number) _ _ (λ (r : Option Effect). r ≡ Some (Keeps parameter) → text_in bytes ≡ None)
    (λ _ e. absurd (no_kept (command_of request.header.index (take request.header.record_data_length rest)) parameter e))
    (λ un _. text_as bytes request rest it ∙ none_written request.header.slot_number request.header.subslot_number request.header.index _ un)
text_read real bytes request rest (Stores value) it =
    cond_both (is_writable request.header.index request.header.slot_number request.header.subslot_number) _ _ (λ (r : Option Effect). r ≡ Some (Stores value) → text_in bytes ≡ Some (SetIm value))
    (λ is e. text_as bytes request rest it
    ∙ ap (λ n. text_for n request.header.index (take (request.header.record_data_length - 6) (drop 6 rest))) (here (and_parts (is_text (record_with request.header.index)) _ is).1)
    ∙ ap (λ l. text_at request.header.index l) (sym (drop_taken 6 request.header.record_data_length rest))
    ∙ stored_text request.header.index (take request.header.record_data_length rest) value e)
    (λ _ e. absurd (no_stored real request (take request.header.record_data_length rest) value e))
  where
    here : (request.header.slot_number == 0 && request.header.subslot_number == 1) ≡ true → request.header.slot_number * 65536 + request.header.subslot_number ≡ 1
    here both =
        let parts = and_parts (request.header.slot_number == 0) _ both in
        let one = tested request.header.slot_number 0 parts.0 in
        let two = tested request.header.subslot_number 1 parts.1 in
        omega arith
