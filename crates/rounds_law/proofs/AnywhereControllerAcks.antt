-- An AlarmAck of any content is sent as one whose fields have their sizes: only the lowest octets of a field are sent.
use Rattle.std.proofs.Common.{◌≡◌, ◌%◌, ◌/◌, ◌++◌, ◌∷◌, [], ℕ, List, refl, sym, ap, ◌∙◌, arith}
use Rattle.std.proofs.Math.Nat.{mod-lt}
use Rattle.wire.specs.Formats.{big_bytes}
use Rattle.wire.specs.blocks.Fields.{body, number_bytes, version}
use Rattle.record_blocks.specs.declared.alarm_ack.AlarmAck.{AlarmAck}
use Rattle.record_blocks.specs.AlarmAck.{alarm_ack}
use Rattle.block_codec.specs.declared.block.Block.TheVariants as is
use Rattle.block_codec.specs.Kinds.{number_of, type_of}
use Rattle.block_codec.specs.Block.{block, block_bytes, body_of, fields_of}
use Rattle.block_codec.specs.Writable.{IsAck}
use Rattle.diagnosis.specs.declared.reports.priority.Priority.{Priority}
use Rattle.diagnosis.specs.declared.reports.priority.Priority.TheVariants.{High, Low}
use Rattle.diagnosis.specs.reports.Report.{ack_bytes, low_ack}
use Rattle.pn_alarms.specs.declared.pdu.Header.{Header}
use Rattle.cyclic_data.specs.declared.exchange.route.Route.{Route}
use Rattle.controller_messages.specs.declared.setup.Setup.{Setup}
use Rattle.controller_messages.specs.Sent.{Confirms, alarm_frame, bytes_of}

-- What is sent of it.
abbrev pub cut : AlarmAck → AlarmAck
cut ack = record {
  alarm_type = ack.alarm_type % 65536;
  api = ack.api % 4294967296;
  slot_number = ack.slot_number % 65536;
  subslot_number = ack.subslot_number % 65536;
  alarm_specifier = ack.alarm_specifier % 65536;
  pnio_status = ack.pnio_status % 4294967296;
}

pub cut_fits : (ack : AlarmAck) → IsAck (cut ack)
cut_fits ack = record {
  alarm_type = mod-lt ack.alarm_type (omega arith);
  api = mod-lt ack.api (omega arith);
  slot_number = mod-lt ack.slot_number (omega arith);
  subslot_number = mod-lt ack.subslot_number (omega arith);
  alarm_specifier = mod-lt ack.alarm_specifier (omega arith);
  pnio_status = mod-lt ack.pnio_status (omega arith);
}

-- ---- the octets of a field

two_bytes : (n : ℕ) → big_bytes 2 (n % 65536) ≡ big_bytes 2 n
two_bytes n =
    let one : n % 65536 / 256 % 256 ≡ n / 256 % 256 = omega arith in
    let other : n % 65536 % 256 ≡ n % 256 = omega arith in
    ap (λ (x : ℕ). x ∷ n % 65536 % 256 ∷ []) one ∙ ap (λ (x : ℕ). n / 256 % 256 ∷ x ∷ []) other

four_bytes : (n : ℕ) → big_bytes 4 (n % 4294967296) ≡ big_bytes 4 n
four_bytes n =
    let m = n % 4294967296 in
    let one : n % 4294967296 / 16777216 % 256 ≡ n / 16777216 % 256 = omega arith in
    let two : n % 4294967296 / 65536 % 256 ≡ n / 65536 % 256 = omega arith in
    let three : n % 4294967296 / 256 % 256 ≡ n / 256 % 256 = omega arith in
    let four : n % 4294967296 % 256 ≡ n % 256 = omega arith in
    ap (λ (x : ℕ). x ∷ m / 65536 % 256 ∷ m / 256 % 256 ∷ m % 256 ∷ []) one
    ∙ (ap (λ (x : ℕ). n / 16777216 % 256 ∷ x ∷ m / 256 % 256 ∷ m % 256 ∷ []) two
    ∙ (ap (λ (x : ℕ). n / 16777216 % 256 ∷ n / 65536 % 256 ∷ x ∷ m % 256 ∷ []) three
    ∙ ap (λ (x : ℕ). n / 16777216 % 256 ∷ n / 65536 % 256 ∷ n / 256 % 256 ∷ x ∷ []) four))

two_cut : (n : ℕ) (rest : List ℕ) → number_bytes 2 (n % 65536) rest ≡ number_bytes 2 n rest
unfolding number_bytes
two_cut n rest = ap (λ (octets : List ℕ). octets ++ rest) (two_bytes n)

four_cut : (n : ℕ) (rest : List ℕ) → number_bytes 4 (n % 4294967296) rest ≡ number_bytes 4 n rest
unfolding number_bytes
four_cut n rest = ap (λ (octets : List ℕ). octets ++ rest) (four_bytes n)

-- ---- the octets of an AlarmAck

fields_cut : (ack : AlarmAck) (rest : List ℕ) → alarm_ack.write (cut ack) rest ≡ alarm_ack.write ack rest
unfolding alarm_ack
fields_cut ack rest =
    two_cut ack.alarm_type _ ∙ ap (number_bytes 2 ack.alarm_type) (four_cut ack.api _ ∙ ap (number_bytes 4 ack.api) (two_cut ack.slot_number _
    ∙ ap (number_bytes 2 ack.slot_number) (two_cut ack.subslot_number _ ∙ ap (number_bytes 2 ack.subslot_number) (two_cut ack.alarm_specifier _
    ∙ ap (number_bytes 2 ack.alarm_specifier) (four_cut ack.pnio_status rest)))))

body_cut : (ack : AlarmAck) → (body alarm_ack).write (cut ack) ≡ (body alarm_ack).write ack
unfolding body
body_cut ack = ap (version.write tt) (fields_cut ack [])

size_cut : (ack : AlarmAck) → (body alarm_ack).size (cut ack) ≡ (body alarm_ack).size ack
unfolding body alarm_ack
size_cut ack = refl

-- BlockLength and what it counts.
abbrev counted : ℕ → List ℕ → List ℕ
counted size octets = big_bytes 2 size ++ (octets ++ [])

counted_cut : (ack : AlarmAck) → counted ((body alarm_ack).size (cut ack)) ((body alarm_ack).write (cut ack))
    ≡ counted ((body alarm_ack).size ack) ((body alarm_ack).write ack)
counted_cut ack = ap (λ (n : ℕ). counted n ((body alarm_ack).write (cut ack))) (size_cut ack) ∙ ap (counted ((body alarm_ack).size ack)) (body_cut ack)

high_cut : (ack : AlarmAck) → block_bytes (is.AlarmAck (cut ack)) ≡ block_bytes (is.AlarmAck ack)
unfolding block_bytes block body_of fields_of number_of type_of
high_cut ack = ap (λ (octets : List ℕ). big_bytes 2 0x8001 ++ octets) (counted_cut ack)

low_cut : (ack : AlarmAck) → low_ack.write (cut ack) [] ≡ low_ack.write ack []
unfolding low_ack
low_cut ack = ap (λ (octets : List ℕ). big_bytes 2 0x8002 ++ octets) (counted_cut ack)

octets_cut : (priority : Priority) (ack : AlarmAck) → ack_bytes priority (cut ack) ≡ ack_bytes priority ack
octets_cut High ack = high_cut ack
octets_cut Low ack = low_cut ack

pub sent_cut : (setup : Setup) (route : Route) (priority : Priority) (header : Header) (ack : AlarmAck)
    → bytes_of setup (Confirms route priority header ack) ≡ bytes_of setup (Confirms route priority header (cut ack))
sent_cut setup route priority header ack =
    ap (λ (octets : List ℕ). alarm_frame setup route priority (record { header = header; body = octets })) (sym (octets_cut priority ack))
