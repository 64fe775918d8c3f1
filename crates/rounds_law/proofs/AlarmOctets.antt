-- Of each number of an alarm only its lowest octets are sent.
use Rattle.std.proofs.Common.{◌≡◌, ◌==◌, ◌≤◌, ◌/◌, ◌%◌, ℕ, Bool, true, false, List, [], ◌∷◌, ◌++◌, length, Option, Some, None, refl, sym, ap, ◌∙◌, arith}
use Rattle.std.specs.Prelude.{if◌then◌else◌}
use Rattle.pn_values.specs.declared.identity.Identity.{Identity}
use Rattle.wire.specs.Formats.{big_bytes}
use Rattle.wire.specs.blocks.Fields.{number_bytes, open_body, version}
use Rattle.record_blocks.specs.declared.alarm_notification.AlarmNotification.{AlarmNotification}
use Rattle.block_codec.specs.Writable.{IsAlarm}
use Rattle.pn_alarms.specs.Format.{pdu_bytes}
use Rattle.pn_alarms.specs.declared.pdu.Header.{Header}
use Rattle.pn_alarms.specs.declared.pdu.PduType.TheVariants.{Data}
use Rattle.cyclic_data.specs.declared.exchange.route.Route.{Route}
use Rattle.diagnosis.specs.declared.reports.priority.Priority.TheVariants.{Low}
use Rattle.diagnosis.specs.declared.reports.report.Report.{Report}
use Rattle.diagnosis.specs.reports.Priority.{block_type_of, frame_id_at}
use Rattle.diagnosis.specs.reports.Report.{bare, block_priority, diagnosed, front, low_report, payload, payload_bytes, report, report_fields}
use Rattle.frame_codec.specs.Meaning.{RealTime}
use Rattle.relations.specs.exchange.Frames.{Reports}
use Rattle.device_frames.specs.Sent.{Exchanges, alarm_frame, bytes_of}

-- The alarm with the octets that are sent of its numbers.
abbrev pub lowered : AlarmNotification → AlarmNotification
lowered alarm = record {
  alarm_type = alarm.alarm_type % 65536;
  api = alarm.api % 4294967296;
  slot_number = alarm.slot_number % 65536;
  subslot_number = alarm.subslot_number % 65536;
  module_ident_number = alarm.module_ident_number % 4294967296;
  submodule_ident_number = alarm.submodule_ident_number % 4294967296;
  alarm_specifier = alarm.alarm_specifier % 65536;
  alarm_data = alarm.alarm_data;
}

-- Its fields have their sizes.
pub lowered_good : (alarm : AlarmNotification) → length alarm.alarm_data ≤ 1458 → IsAlarm (lowered alarm)
lowered_good alarm few = record {
  alarm_type = omega arith;
  api = omega arith;
  slot_number = omega arith;
  subslot_number = omega arith;
  module_ident_number = omega arith;
  submodule_ident_number = omega arith;
  alarm_specifier = omega arith;
  few = few;
}

-- ---- one number

pub two_low : (x : ℕ) → big_bytes 2 (x % 65536) ≡ big_bytes 2 x
two_low x =
    let high : x % 65536 / 256 % 256 ≡ x / 256 % 256 = omega arith in
    let low : x % 65536 % 256 ≡ x % 256 = omega arith in
    ap (λ (b : ℕ). b ∷ x % 65536 % 256 ∷ []) high ∙ ap (λ (b : ℕ). x / 256 % 256 ∷ b ∷ []) low

four_low : (x : ℕ) → big_bytes 4 (x % 4294967296) ≡ big_bytes 4 x
four_low x =
    let a : x % 4294967296 / 16777216 % 256 ≡ x / 16777216 % 256 = omega arith in
    let b : x % 4294967296 / 65536 % 256 ≡ x / 65536 % 256 = omega arith in
    let c : x % 4294967296 / 256 % 256 ≡ x / 256 % 256 = omega arith in
    let d : x % 4294967296 % 256 ≡ x % 256 = omega arith in
    let y = x % 4294967296 in
    ap (λ (n : ℕ). n ∷ y / 65536 % 256 ∷ y / 256 % 256 ∷ y % 256 ∷ []) a
    ∙ (ap (λ (n : ℕ). x / 16777216 % 256 ∷ n ∷ y / 256 % 256 ∷ y % 256 ∷ []) b
    ∙ (ap (λ (n : ℕ). x / 16777216 % 256 ∷ x / 65536 % 256 ∷ n ∷ y % 256 ∷ []) c
    ∙ ap (λ (n : ℕ). x / 16777216 % 256 ∷ x / 65536 % 256 ∷ x / 256 % 256 ∷ n ∷ []) d))

-- ---- all of an alarm

-- The octets of an alarm, given those of its numbers.
abbrev with_octets : (head kind api slot subslot whole part specifier tail : List ℕ) → List ℕ
with_octets head kind api slot subslot whole part specifier tail =
    head ++ (kind ++ (api ++ (slot ++ (subslot ++ (whole ++ (part ++ (specifier ++ tail)))))))

-- BlockType, BlockLength and version.
abbrev head : Option ℕ → AlarmNotification → List ℕ
head user alarm = big_bytes 2 (block_type_of Low) ++ (big_bytes 2 ((open_body report_fields).size (alarm, user)) ++ (1 ∷ 0 ∷ []))

-- An alarm of low priority with this UserStructureIdentifier, or none.
abbrev of_low : Option ℕ → AlarmNotification → Report
of_low user alarm = record { priority = Low; notification = alarm; user_structure = user }

octets_are : (user : Option ℕ) (alarm : AlarmNotification) → report.write (of_low user alarm) []
    ≡ with_octets (head user alarm) (big_bytes 2 alarm.alarm_type) (big_bytes 4 alarm.api) (big_bytes 2 alarm.slot_number) (big_bytes 2 alarm.subslot_number)
    (big_bytes 4 alarm.module_ident_number) (big_bytes 4 alarm.submodule_ident_number) (big_bytes 2 alarm.alarm_specifier)
    (payload_bytes user alarm.alarm_data ++ [])
unfolding report report_fields front block_priority open_body number_bytes version payload
octets_are user alarm = refl

numbers_low : (head tail : List ℕ) (t s u p a m n : ℕ)
    → with_octets head (big_bytes 2 (t % 65536)) (big_bytes 4 (a % 4294967296)) (big_bytes 2 (s % 65536)) (big_bytes 2 (u % 65536))
    (big_bytes 4 (m % 4294967296)) (big_bytes 4 (n % 4294967296)) (big_bytes 2 (p % 65536)) tail
    ≡ with_octets head (big_bytes 2 t) (big_bytes 4 a) (big_bytes 2 s) (big_bytes 2 u) (big_bytes 4 m) (big_bytes 4 n) (big_bytes 2 p) tail
numbers_low head tail t s u p a m n =
    ap (λ (xs : List ℕ). with_octets head xs (big_bytes 4 (a % 4294967296)) (big_bytes 2 (s % 65536)) (big_bytes 2 (u % 65536))
    (big_bytes 4 (m % 4294967296)) (big_bytes 4 (n % 4294967296)) (big_bytes 2 (p % 65536)) tail) (two_low t)
    ∙ (ap (λ (xs : List ℕ). with_octets head (big_bytes 2 t) xs (big_bytes 2 (s % 65536)) (big_bytes 2 (u % 65536))
    (big_bytes 4 (m % 4294967296)) (big_bytes 4 (n % 4294967296)) (big_bytes 2 (p % 65536)) tail) (four_low a)
    ∙ (ap (λ (xs : List ℕ). with_octets head (big_bytes 2 t) (big_bytes 4 a) xs (big_bytes 2 (u % 65536))
    (big_bytes 4 (m % 4294967296)) (big_bytes 4 (n % 4294967296)) (big_bytes 2 (p % 65536)) tail) (two_low s)
    ∙ (ap (λ (xs : List ℕ). with_octets head (big_bytes 2 t) (big_bytes 4 a) (big_bytes 2 s) xs
    (big_bytes 4 (m % 4294967296)) (big_bytes 4 (n % 4294967296)) (big_bytes 2 (p % 65536)) tail) (two_low u)
    ∙ (ap (λ (xs : List ℕ). with_octets head (big_bytes 2 t) (big_bytes 4 a) (big_bytes 2 s) (big_bytes 2 u)
    xs (big_bytes 4 (n % 4294967296)) (big_bytes 2 (p % 65536)) tail) (four_low m)
    ∙ (ap (λ (xs : List ℕ). with_octets head (big_bytes 2 t) (big_bytes 4 a) (big_bytes 2 s) (big_bytes 2 u)
    (big_bytes 4 m) xs (big_bytes 2 (p % 65536)) tail) (four_low n)
    ∙ ap (λ (xs : List ℕ). with_octets head (big_bytes 2 t) (big_bytes 4 a) (big_bytes 2 s) (big_bytes 2 u)
    (big_bytes 4 m) (big_bytes 4 n) xs tail) (two_low p))))))

heads_same : (user : Option ℕ) (alarm : AlarmNotification) → head user (lowered alarm) ≡ head user alarm
unfolding report_fields front open_body payload version
heads_same user alarm = refl

written_same : (user : Option ℕ) (alarm : AlarmNotification) → report.write (of_low user (lowered alarm)) [] ≡ report.write (of_low user alarm) []
written_same user alarm =
    octets_are user (lowered alarm)
    ∙ (ap (λ (xs : List ℕ). with_octets xs (big_bytes 2 (alarm.alarm_type % 65536)) (big_bytes 4 (alarm.api % 4294967296))
    (big_bytes 2 (alarm.slot_number % 65536)) (big_bytes 2 (alarm.subslot_number % 65536)) (big_bytes 4 (alarm.module_ident_number % 4294967296))
    (big_bytes 4 (alarm.submodule_ident_number % 4294967296)) (big_bytes 2 (alarm.alarm_specifier % 65536)) (payload_bytes user alarm.alarm_data ++ []))
    (heads_same user alarm)
    ∙ (numbers_low (head user alarm) (payload_bytes user alarm.alarm_data ++ []) alarm.alarm_type alarm.slot_number alarm.subslot_number
    alarm.alarm_specifier alarm.api alarm.module_ident_number alarm.submodule_ident_number
    ∙ sym (octets_are user alarm)))

-- ---- the frame

-- An alarm without data has no UserStructureIdentifier.
report_same : (alarm : AlarmNotification) → report.write (low_report (lowered alarm)) [] ≡ report.write (low_report alarm) []
report_same alarm = by_data (length alarm.alarm_data == 0)
  where
    by_data : (none : Bool) → report.write (if none then bare (lowered alarm) else diagnosed (lowered alarm)) []
        ≡ report.write (if none then bare alarm else diagnosed alarm) []
    by_data true = written_same None alarm
    by_data false = written_same (Some 0x8000) alarm

-- The frame is the same.
pub frame_same : (identity : Identity) (route : Route) (tag : ℕ) (header : Header) (alarm : AlarmNotification)
    → bytes_of identity (Exchanges route (Reports tag header (lowered alarm))) ≡ bytes_of identity (Exchanges route (Reports tag header alarm))
frame_same identity route tag header alarm =
    ap (λ (body : List ℕ). alarm_frame identity route.partner tag (RealTime (frame_id_at Low Data) (pdu_bytes (record { header = header; body = body }))))
    (report_same alarm)
