-- PDUs are read back.
use Rattle.std.proofs.Common.{◌≡◌, ◌==◌, ◌≤◌, ◌<◌, ◌^◌, ℕ, Bool, true, List, [], ◌++◌, length, Result, Ok, refl, sym, ap, subst, ◌∙◌, inl, inr, arith}
use Rattle.std.specs.Prelude.{if◌then◌else◌}
use Rattle.record_blocks.specs.declared.alarm_ack.AlarmAck.{AlarmAck}
use Rattle.record_blocks.specs.declared.alarm_notification.AlarmNotification.{AlarmNotification}
use Rattle.pn_alarms.specs.declared.abort.Abort.{Abort}
use Rattle.pn_alarms.specs.declared.fault.AlarmFault.{AlarmFault}
use Rattle.pn_alarms.specs.declared.message.Notice.{Notice}
use Rattle.pn_alarms.specs.declared.message.Notice.TheVariants as notice
use Rattle.pn_alarms.specs.declared.pdu.Header.{Header}
use Rattle.pn_alarms.specs.declared.pdu.PduType.{PduType}
use Rattle.pn_alarms.specs.declared.pdu.PduType.TheVariants as pdu
use Rattle.pn_alarms.specs.Abort.{abort_of, status_of}
use Rattle.pn_alarms.specs.Carried.{ack_of, alarm_pdu}
use Rattle.std.proofs.lemmas.Bool.{cases_Bool, eqb-true, le-leb}
use Rattle.std.proofs.lemmas.List.{nil_from_length}
use Rattle.wire.specs.Codec.{◌>>=◌}
use Rattle.pn_alarms.specs.Format.{Said, flags_of, header, is_long, kind, pdu_bytes, pdu_of}
use Rattle.pn_alarms.specs.Message.{message_of, notice_in, notice_of}
use Rattle.diagnosis.specs.reports.Message.{alarm_of, low_message_of}
use Rattle.diagnosis.specs.declared.reports.report.Report.{Report}
use Rattle.diagnosis.specs.reports.Report.{bare, bare_pdu, diagnosed, diagnosis_pdu, low_ack_of, low_pdu, low_report, ours, report, report_of}
use Rattle.block_codec.specs.Writable.{IsAck, IsAlarm}
use Rattle.diagnosis.specs.Sendable.{CanBeSaid, IsHeader, ack_pdu, empty_pdu, low_ack_pdu}
use Rattle.diagnosis.proofs.Blocks.{BlocksAreLong, BlocksAreRead, LowAcksAreRead, OursIsRead, ReportsAreRead, ack_long, ack_read, alarm_long, alarm_read, bare_long, bare_read, diagnosed_long, diagnosed_read, low_long, low_read}

-- ---- any PDU

kind_fits : (type : PduType) → kind.Fits type
unfolding kind
kind_fits pdu.Data = omega arith
kind_fits pdu.Nack = omega arith
kind_fits pdu.Ack = omega arith
kind_fits pdu.Error = omega arith

flags_fit : (type : PduType) → flags_of type < 256 ^ 1
flags_fit pdu.Data = omega arith
flags_fit pdu.Nack = omega arith
flags_fit pdu.Ack = omega arith
flags_fit pdu.Error = omega arith

header_fits : (value : Header) → IsHeader value → header.Fits value
unfolding header
header_fits value is = (
  omega (arith, is.destination),
  (omega (arith, is.source), (kind_fits value.kind, (flags_fit value.kind, (omega (arith, is.send_number), omega (arith, is.ack_number))))),
)

-- a PDU that fits the format is read back: a clause of the format
abbrev pub FittingIsRead : Type 0
FittingIsRead = (said : Said) (more : List ℕ) → header.Fits said.header → is_long said.header.kind (length said.body) ≡ true → length said.body < 65536 → pdu_of (pdu_bytes said ++ more) ≡ Ok said

pub pdu_read : FittingIsRead → (said : Said) (more : List ℕ) → CanBeSaid said → pdu_of (pdu_bytes said ++ more) ≡ Ok said
pdu_read fitting said more is = fitting said more (header_fits said.header is.header) is.long (omega (arith, is.few))

-- ---- the contents of a PDU

-- what a PDU of a kind says to a station
says : {B : Type 0} (fitting : FittingIsRead) (block : List ℕ → Result B AlarmFault) (said : Said) (more : List ℕ) (type : PduType) (reported : Notice B)
    → CanBeSaid said → said.header.kind ≡ type → notice_in block type said ≡ Ok reported → notice_of block (pdu_bytes said ++ more) ≡ Ok (said.header, reported)
says {B = B} fitting block said more type reported is same e =
    ap (λ (r : Result Said AlarmFault). r >>= (λ (s : Said). notice_in block s.header.kind s >>= λ (n : Notice B). Ok (s.header, n))) (pdu_read fitting said more is)
    ∙ ap (λ (k : PduType). notice_in block k said >>= λ (n : Notice B). Ok (said.header, n)) same
    ∙ ap (λ (r : Result (Notice B) AlarmFault). r >>= λ (n : Notice B). Ok (said.header, n)) e

any_long : (type : PduType) (size : ℕ) → 4 ≤ size → is_long type size ≡ true
any_long pdu.Data size many = refl
any_long pdu.Nack size many = refl
any_long pdu.Ack size many = refl
any_long pdu.Error size many = le-leb 4 size many

pub ack_said : FittingIsRead → BlocksAreRead → BlocksAreLong → (value : Header) (ack : AlarmAck) (more : List ℕ) → value.kind ≡ pdu.Data → IsHeader value → IsAck ack
    → message_of (pdu_bytes (ack_pdu value ack) ++ more) ≡ Ok (value, notice.Data value.send_number ack)
ack_said fitting reads sized value ack more same is good =
    let can : CanBeSaid (ack_pdu value ack) = record { header = is; long = any_long value.kind (length (ack_pdu value ack).body) (omega (arith, ack_long sized ack)); few = omega (arith, ack_long sized ack) } in
    says fitting ack_of (ack_pdu value ack) more pdu.Data (notice.Data value.send_number ack) can same (rw (ack_read reads ack good) refl)

pub alarm_said : FittingIsRead → OursIsRead → BlocksAreLong → (value : Header) (alarm : AlarmNotification) (more : List ℕ) → value.kind ≡ pdu.Data → IsHeader value → IsAlarm alarm
    → alarm_of (pdu_bytes (alarm_pdu value alarm) ++ more) ≡ Ok (value, notice.Data value.send_number (ours alarm))
alarm_said fitting reads sized value alarm more same is good =
    let can : CanBeSaid (alarm_pdu value alarm) =
    record { header = is; long = any_long value.kind (length (alarm_pdu value alarm).body) (omega (arith, alarm_long sized alarm)); few = omega (arith, alarm_long sized alarm, good.few) } in
    says fitting report_of (alarm_pdu value alarm) more pdu.Data (notice.Data value.send_number (ours alarm)) can same (rw (alarm_read reads alarm good) refl)

-- The same of low priority.
pub diagnosis_said : FittingIsRead → ReportsAreRead → (value : Header) (alarm : AlarmNotification) (more : List ℕ) → value.kind ≡ pdu.Data → IsHeader value → IsAlarm alarm
    → alarm_of (pdu_bytes (diagnosis_pdu value alarm) ++ more) ≡ Ok (value, notice.Data value.send_number (diagnosed alarm))
diagnosis_said fitting reads value alarm more same is good =
    let can : CanBeSaid (diagnosis_pdu value alarm) =
    record { header = is; long = any_long value.kind (length (diagnosis_pdu value alarm).body) (omega (arith, diagnosed_long alarm)); few = omega (arith, diagnosed_long alarm, good.few) } in
    says fitting report_of (diagnosis_pdu value alarm) more pdu.Data (notice.Data value.send_number (diagnosed alarm)) can same (rw (diagnosed_read reads alarm good) refl)

-- A pull or a plug.
pub bare_said : FittingIsRead → ReportsAreRead → (value : Header) (alarm : AlarmNotification) (more : List ℕ) → value.kind ≡ pdu.Data
    → IsHeader value → IsAlarm alarm → alarm.alarm_data ≡ []
    → alarm_of (pdu_bytes (bare_pdu value alarm) ++ more) ≡ Ok (value, notice.Data value.send_number (bare alarm))
bare_said fitting reads value alarm more same is good none =
    let long = bare_long alarm in
    let can : CanBeSaid (bare_pdu value alarm) = record {
      header = is;
      long = any_long value.kind (length (bare_pdu value alarm).body) (omega (arith, long));
      few = omega (arith, long, good.few);
    } in
    says fitting report_of (bare_pdu value alarm) more pdu.Data (notice.Data value.send_number (bare alarm)) can same
    (rw (bare_read reads alarm none good) refl)

-- Data that carries such an alarm.
abbrev carrying : Header → Report → Said
carrying value alarm = record { header = value; body = report.write alarm [] }

-- Any alarm of low priority of this product.
pub low_said : FittingIsRead → ReportsAreRead → (value : Header) (alarm : AlarmNotification) (more : List ℕ) → value.kind ≡ pdu.Data
    → IsHeader value → IsAlarm alarm
    → alarm_of (pdu_bytes (low_pdu value alarm) ++ more) ≡ Ok (value, notice.Data value.send_number (low_report alarm))
low_said fitting reads value alarm more same is good =
    let of : Report → Type 0 = λ (said : Report). alarm_of (pdu_bytes (carrying value said) ++ more) ≡ Ok (value, notice.Data value.send_number said) in
    elim (cases_Bool (length alarm.alarm_data == 0)) [
      | inl t ↦ subst of (sym (ap (λ (b : Bool). if b then bare alarm else diagnosed alarm) t))
          (bare_said fitting reads value alarm more same is good (nil_from_length alarm.alarm_data (eqb-true (length alarm.alarm_data) 0 t)))
      | inr t ↦ subst of (sym (ap (λ (b : Bool). if b then bare alarm else diagnosed alarm) t))
          (diagnosis_said fitting reads value alarm more same is good)
    ]

pub low_ack_said : FittingIsRead → LowAcksAreRead → (value : Header) (ack : AlarmAck) (more : List ℕ) → value.kind ≡ pdu.Data → IsHeader value → IsAck ack
    → low_message_of (pdu_bytes (low_ack_pdu value ack) ++ more) ≡ Ok (value, notice.Data value.send_number ack)
low_ack_said fitting reads value ack more same is good =
    let can : CanBeSaid (low_ack_pdu value ack) =
    record { header = is; long = any_long value.kind (length (low_ack_pdu value ack).body) (omega (arith, low_long ack)); few = omega (arith, low_long ack) } in
    says fitting low_ack_of (low_ack_pdu value ack) more pdu.Data (notice.Data value.send_number ack) can same (rw (low_read reads ack good) refl)

-- a PDU without a body
empty_is : (value : Header) (type : PduType) → value.kind ≡ type → is_long type 0 ≡ true → IsHeader value → CanBeSaid (empty_pdu value)
empty_is value type same long is = record { header = is; long = rw same long; few = omega arith }

pub ack_replied : {B : Type 0} (fitting : FittingIsRead) (block : List ℕ → Result B AlarmFault) (value : Header) (more : List ℕ) → value.kind ≡ pdu.Ack → IsHeader value
    → notice_of block (pdu_bytes (empty_pdu value) ++ more) ≡ Ok (value, notice.Ack value.ack_number)
ack_replied fitting block value more same is = says fitting block (empty_pdu value) more pdu.Ack (notice.Ack value.ack_number) (empty_is value pdu.Ack same refl is) same refl

pub nack_replied : {B : Type 0} (fitting : FittingIsRead) (block : List ℕ → Result B AlarmFault) (value : Header) (more : List ℕ) → value.kind ≡ pdu.Nack → IsHeader value
    → notice_of block (pdu_bytes (empty_pdu value) ++ more) ≡ Ok (value, notice.Nack)
nack_replied fitting block value more same is = says fitting block (empty_pdu value) more pdu.Nack notice.Nack (empty_is value pdu.Nack same refl is) same refl

pub end_said : {B : Type 0} (fitting : FittingIsRead) (block : List ℕ → Result B AlarmFault) (reason : Abort) (destination source send_number ack_number : ℕ) (more : List ℕ)
    → IsHeader (abort_of reason destination source send_number ack_number).header
    → notice_of block (pdu_bytes (abort_of reason destination source send_number ack_number) ++ more) ≡ Ok ((abort_of reason destination source send_number ack_number).header, notice.Abort (status_of reason))
end_said fitting block reason destination source send_number ack_number more is =
    says fitting block (abort_of reason destination source send_number ack_number) more pdu.Error (notice.Abort (status_of reason)) (record { header = is; long = refl; few = omega arith }) refl refl
