-- The formats of an alarm that a controller takes, and of the AlarmAck of low priority, are sound.
use Rattle.std.proofs.Common.{◌≡◌, ◌==◌, ◌+◌, ◌<◌, ℕ, suc, Bool, true, false, List, [], ◌∷◌, ◌++◌, length, Option, Some, None, Result, Ok, Err, refl, sym, ap, subst, ◌∙◌, arith}
use Rattle.std.specs.Prelude.{IfOk, if◌then◌else◌}
use Rattle.std.proofs.lemmas.Bool.{ne_eqb}
use Rattle.std.proofs.lemmas.List.{length-append}
use Rattle.wire.specs.Codec.{IsSound, IsSoundWhole, ◌>>=◌}
use Rattle.wire.specs.Formats.{number}
use Rattle.wire.specs.Whole.{loose}
use Rattle.wire.proofs.Fields.{bind_ok, number_sound, ok_is}
use Rattle.wire.proofs.Handled.{fixed_sound, named_sound}
use Rattle.wire.proofs.Joined.{framed_sound, seen_sound, then_by_sound}
use Rattle.wire.proofs.Wholes.{ends_by_sound, everything_sound, loose_sound, seen_whole_sound}
use Rattle.wire.specs.declared.blocks.fault.BlockFault.{BlockFault}
use Rattle.wire.specs.declared.blocks.fault.BlockFault.TheVariants.{Truncated, Kind}
use Rattle.wire.specs.blocks.Fields.{number_bytes, open_body, version}
use Rattle.wire.proofs.BlocksSound.{body_sound, numeral_sound, open_body_sound}
use Rattle.record_blocks.specs.declared.alarm_ack.AlarmAck.{AlarmAck}
use Rattle.record_blocks.specs.declared.alarm_notification.AlarmNotification.{AlarmNotification}
use Rattle.record_blocks.specs.AlarmAck.{alarm_ack}
use Rattle.record_blocks.specs.AlarmNotification.{alarm_notification, alarm_place, alarm_subject}
use Rattle.block_codec.specs.declared.block.Block.TheVariants as is
use Rattle.block_codec.specs.Block.{block, block_bytes, body_of, fields_of}
use Rattle.block_codec.specs.Kinds.{number_of, type_of}
use Rattle.pn_alarms.specs.declared.fault.AlarmFault.{AlarmFault}
use Rattle.pn_alarms.specs.declared.fault.AlarmFault.TheVariants as fault
use Rattle.diagnosis.specs.declared.reports.priority.Priority.{Priority}
use Rattle.diagnosis.specs.declared.reports.priority.Priority.TheVariants.{High, Low}
use Rattle.diagnosis.specs.declared.reports.report.Report.{Report}
use Rattle.diagnosis.specs.reports.Priority.{block_type_of, priority_of_block}
use Rattle.diagnosis.specs.reports.Report.{IsLowAck, IsReport, blamed, block_priority, front, low_ack, low_ack_of, ours, payload, payload_bytes, payload_fits, payload_size, report, report_fields, report_of, spells_payload, structured}

front_sound : IsSound front
unfolding front
front_sound = seen_sound _ _ _ (λ _. refl) (then_by_sound _ _ (numeral_sound 2) (λ _. then_by_sound _ _ (numeral_sound 4)
    (λ _. then_by_sound _ _ (numeral_sound 2) (λ _. then_by_sound _ _ (numeral_sound 2) (λ _. then_by_sound _ _ (numeral_sound 4)
    (λ _. then_by_sound _ _ (numeral_sound 4) (λ _. numeral_sound 2)))))))

-- ---- UserStructureIdentifier and data

structured_sound : IsSoundWhole structured
structured_sound = ends_by_sound _ _ (numeral_sound 2) (λ _. everything_sound)

abbrev payload_read : Bool → List ℕ → Result (Option ℕ × List ℕ) BlockFault
payload_read is_empty bytes = if is_empty then Ok (None, bytes) else structured.read bytes >>= λ x. Ok (Some x.0, x.1)

not_empty : (first : ℕ) (rest : List ℕ) → (length (first ∷ rest) == 0) ≡ false
not_empty first rest = ne_eqb (length (first ∷ rest)) 0 (λ e. omega (arith, e))

payload_taken : (bytes : List ℕ) (value : Option ℕ × List ℕ) → payload.read bytes ≡ Ok value → spells_payload bytes value.0 value.1
unfolding payload
payload_taken [] value e = subst (λ (v : Option ℕ × List ℕ). spells_payload [] v.0 v.1) (ok_is {F = BlockFault} (None, []) value e) (refl, refl)
payload_taken (first ∷ rest) value e =
    let some : payload_read false (first ∷ rest) ≡ Ok value = sym (ap (λ (b : Bool). payload_read b (first ∷ rest)) (not_empty first rest)) ∙ e in
    let a = bind_ok (structured.read (first ∷ rest)) (λ x. Ok (Some x.0, x.1)) value some in
    subst (λ (v : Option ℕ × List ℕ). spells_payload (first ∷ rest) v.0 v.1) (ok_is {F = BlockFault} (Some a.0.0, a.0.1) value a.2)
    (structured_sound.takes (first ∷ rest) a.0 a.1)

some_long : (bytes octets : List ℕ) (user_structure : ℕ) → structured.Spells bytes (user_structure, octets) → (length bytes == 0) ≡ false
some_long [] octets user_structure (mid, (first, long, e, v), same) =
    let none = ap (λ (xs : List ℕ). length xs) e in
    absurd (omega (arith, none, length-append first mid, long))
some_long (first ∷ rest) octets user_structure s = not_empty first rest

payload_again : (bytes : List ℕ) (user_structure : Option ℕ) (octets : List ℕ) → spells_payload bytes user_structure octets → payload.read bytes ≡ Ok (user_structure, octets)
unfolding payload
payload_again bytes None octets s = rw (s.0, s.1) refl
payload_again bytes (Some user_structure) octets s = rw (some_long bytes octets user_structure s, structured_sound.again bytes (user_structure, octets) s) refl

payload_written : (user_structure : Option ℕ) (octets : List ℕ) → payload_fits user_structure octets → spells_payload (payload_bytes user_structure octets) user_structure octets
payload_written None octets none = (none, none)
payload_written (Some user_structure) octets fits = structured_sound.written (user_structure, octets) fits

payload_sized : (user_structure : Option ℕ) (octets : List ℕ) → length (payload_bytes user_structure octets) ≡ payload_size user_structure octets
payload_sized None octets = refl
payload_sized (Some user_structure) octets = structured_sound.sized (user_structure, octets)

payload_sound : IsSoundWhole payload
unfolding payload
payload_sound = record {
  takes = payload_taken;
  again = λ bytes value s. payload_again bytes value.0 value.1 s;
  written = λ value fits. payload_written value.0 value.1 fits;
  sized = λ value. payload_sized value.0 value.1;
}

-- ---- the block

report_fields_sound : IsSoundWhole report_fields
unfolding report_fields
report_fields_sound = seen_whole_sound _ _ _ (λ _. refl) (ends_by_sound _ _ front_sound (λ _. payload_sound))

priority_is : (priority : Priority) → priority_of_block (block_type_of priority) ≡ Some priority
priority_is High = refl
priority_is Low = refl

block_priority_sound : IsSound block_priority
unfolding block_priority
block_priority_sound = named_sound priority_of_block block_type_of Kind _ priority_is (number_sound Truncated 2)

pub report_sound : IsSound report
unfolding report
report_sound = seen_sound _ _ _ (λ _. refl) (then_by_sound _ _ block_priority_sound
    (λ _. framed_sound _ _ _ (number_sound Truncated 2) (open_body_sound report_fields report_fields_sound)))

alarm_ack_sound : IsSound alarm_ack
unfolding alarm_ack
alarm_ack_sound = seen_sound _ _ _ (λ _. refl) (then_by_sound _ _ (numeral_sound 2) (λ _. then_by_sound _ _ (numeral_sound 4)
    (λ _. then_by_sound _ _ (numeral_sound 2) (λ _. then_by_sound _ _ (numeral_sound 2) (λ _. then_by_sound _ _ (numeral_sound 2)
    (λ _. numeral_sound 4))))))

pub low_ack_sound : IsSound low_ack
unfolding low_ack
low_ack_sound = seen_sound _ _ _ (λ _. refl) (then_by_sound _ _ (fixed_sound Kind 2 0x8002)
    (λ _. framed_sound _ _ _ (number_sound Truncated 2) (body_sound alarm_ack alarm_ack_sound)))

-- ---- reading

-- A property of the value, if there is one.
pub of_ok : {A F : Type 0} (P : A → Type 0) (result : Result A F) → ((value : A) → result ≡ Ok value → P value) → IfOk result P
of_ok P (Ok value) holds = holds value refl
of_ok P (Err reason) holds = tt

blamed_ok : {A : Type 0} (read : Result A BlockFault) (value : A) → blamed read ≡ Ok value → read ≡ Ok value
blamed_ok (Ok found) value e = cc
blamed_ok (Err reason) value e = absurd cc

pub report_takes : (bytes : List ℕ) (meaning : Report) → report_of bytes ≡ Ok meaning → IsReport bytes meaning
unfolding report_of IsReport
report_takes bytes meaning e = (loose_sound report report_sound).takes bytes meaning (blamed_ok ((loose report).read bytes) meaning e)

pub report_again : (bytes : List ℕ) (meaning : Report) → IsReport bytes meaning → report_of bytes ≡ Ok meaning
unfolding report_of IsReport
report_again bytes meaning s = ap (λ (r : Result Report BlockFault). blamed r) ((loose_sound report report_sound).again bytes meaning s)

pub low_ack_takes : (bytes : List ℕ) (meaning : AlarmAck) → low_ack_of bytes ≡ Ok meaning → IsLowAck bytes meaning
unfolding low_ack_of IsLowAck
low_ack_takes bytes meaning e = (loose_sound low_ack low_ack_sound).takes bytes meaning (blamed_ok ((loose low_ack).read bytes) meaning e)

pub low_ack_again : (bytes : List ℕ) (meaning : AlarmAck) → IsLowAck bytes meaning → low_ack_of bytes ≡ Ok meaning
unfolding low_ack_of IsLowAck
low_ack_again bytes meaning s = ap (λ (r : Result AlarmAck BlockFault). blamed r) ((loose_sound low_ack low_ack_sound).again bytes meaning s)

-- ---- writing

pub report_read : (meaning : Report) (rest : List ℕ) → report.Fits meaning → report_of (report.write meaning rest) ≡ Ok meaning
unfolding report_of
report_read meaning rest fits =
    ap (λ (r : Result Report BlockFault). blamed r) ((loose_sound report report_sound).again (report.write meaning rest) meaning (rest, report_sound.written meaning rest fits))

pub low_ack_read : (ack : AlarmAck) (rest : List ℕ) → low_ack.Fits ack → low_ack.read (low_ack.write ack rest) ≡ Ok (ack, rest)
low_ack_read ack rest fits = low_ack_sound.again (low_ack.write ack rest) ack rest (low_ack_sound.written ack rest fits)

-- ---- the alarm of this product's device

abbrev with_length : AlarmNotification → ℕ → List ℕ
with_length alarm size =
    (number {F = BlockFault} Truncated 2).write 1 ((number {F = BlockFault} Truncated 2).write size ((open_body report_fields).write (alarm, Some 1) ++ []))

ours_size : (alarm : AlarmNotification) → (open_body alarm_notification).size alarm ≡ (open_body report_fields).size (alarm, Some 1)
unfolding open_body version alarm_notification alarm_place alarm_subject report_fields front payload
ours_size alarm = omega arith

ours_written : (alarm : AlarmNotification) → block_bytes (is.AlarmNotification alarm) ≡ with_length alarm ((open_body alarm_notification).size alarm)
unfolding block_bytes block body_of fields_of number_of type_of open_body version alarm_notification alarm_place alarm_subject number_bytes report_fields front payload
ours_written alarm = refl

ours_spelled : (alarm : AlarmNotification) → report.write (ours alarm) [] ≡ with_length alarm ((open_body report_fields).size (alarm, Some 1))
unfolding report block_priority
ours_spelled alarm = refl

ours_alike : (alarm : AlarmNotification) → block_bytes (is.AlarmNotification alarm) ≡ report.write (ours alarm) []
ours_alike alarm = ours_written alarm ∙ (ap (with_length alarm) (ours_size alarm) ∙ sym (ours_spelled alarm))

pub ours_read : (alarm : AlarmNotification) → report.Fits (ours alarm) → report_of (block_bytes (is.AlarmNotification alarm)) ≡ Ok (ours alarm)
ours_read alarm fits = ap report_of (ours_alike alarm) ∙ report_read (ours alarm) [] fits
