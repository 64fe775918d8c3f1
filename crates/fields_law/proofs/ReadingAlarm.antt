-- Alarms, read at their places.
use Rattle.std.proofs.Common.{◌≡◌, ◌+◌, ◌^◌, ◌<◌, ◌≤◌, ◌++◌, ℕ, Bool, true, false, List, [], ◌∷◌, length, refl, sym, ap, ◌∙◌, subst, if◌then◌else◌, arith}
use Rattle.std.proofs.lemmas.List.{append-nil}
use Rattle.byteorder.specs.Endian.{big_bytes}
use Rattle.byteorder.specs.Numbers.{big_number-reads_back}
use Rattle.wire.specs.blocks.Fields.{body, number_bytes, open_body, version}
use Rattle.record_blocks.specs.declared.alarm_ack.AlarmAck.{AlarmAck}
use Rattle.record_blocks.specs.AlarmAck.{alarm_ack}
use Rattle.record_blocks.specs.AlarmNotification.{alarm_notification, alarm_place, alarm_subject}
use Rattle.block_codec.specs.declared.block.Block.TheVariants as is
use Rattle.block_codec.specs.Block.{block, block_bytes, body_of as block_body, fields_of}
use Rattle.block_codec.specs.Kinds.{number_of, type_of}
use Rattle.block_codec.specs.Writable.{IsAck}
use Rattle.pn_alarms.specs.declared.pdu.Header.{Header}
use Rattle.pn_alarms.specs.declared.pdu.PduType.{PduType}
use Rattle.pn_alarms.specs.declared.pdu.PduType.TheVariants.{Data, Nack, Ack, Error}
use Rattle.pn_alarms.specs.Format.{flags_of, header as pdu_header, kind as pdu_kind, octet_of, pdu as pdu_format, pdu_bytes}
use Rattle.pn_alarms.specs.Sender.{notice_of}
use Rattle.diagnosis.specs.Queue.{alarm_of, kind_type}
use Rattle.diagnosis.specs.Sendable.{IsHeader}
use Rattle.diagnosis.specs.declared.diagnosis.Change.{Change}
use Rattle.diagnosis.specs.declared.module_change.ModuleChange.{ModuleChange}
use Rattle.diagnosis.specs.declared.module_change.ModuleChangeKind.{ModuleChangeKind}
use Rattle.diagnosis.specs.declared.module_change.ModuleChangeKind.TheVariants.{Pull, PullModule, Plug, PlugWrong}
use Rattle.diagnosis.specs.declared.queue.LowChange.{LowChange}
use Rattle.diagnosis.specs.declared.queue.LowChange.TheVariants as change_of
use Rattle.diagnosis.specs.declared.queue.QueuedAlarm.{QueuedAlarm}
use Rattle.diagnosis.specs.declared.reports.priority.Priority.{Priority}
use Rattle.diagnosis.specs.declared.reports.priority.Priority.TheVariants.{High, Low}
use Rattle.diagnosis.specs.reports.Priority.{frame_id_at}
use Rattle.diagnosis.specs.reports.Report.{block_priority, front, low_ack, payload, report, report_fields}
use Rattle.relations.specs.exchange.Frames.{Notifies, Reports, body_of}
use Rattle.controller_messages.specs.Sent.{ack_pdu}
use Rattle.fields_law.specs.Alarm.{IsAlarmAck, IsCarried, IsDiagnosisAlarm, IsModuleAlarm, IsPdu, IsProcessAlarm, IsSizedChange, IsSizedPlug, IsSizedQueued, ack_type, add_flags, alarm_id, change_specifier, change_type, pdu_type}

-- ---- PDUs

type_read : (kind : PduType) → (octet_of kind ≡ pdu_type kind) × (octet_of kind < 256)
type_read Data = (refl, omega arith)
type_read Nack = (refl, omega arith)
type_read Ack = (refl, omega arith)
type_read Error = (refl, omega arith)

flags_read : (kind : PduType) → (flags_of kind ≡ add_flags kind) × (flags_of kind < 256)
flags_read Data = (refl, omega arith)
flags_read Nack = (refl, omega arith)
flags_read Ack = (refl, omega arith)
flags_read Error = (refl, omega arith)

pub id_read : (priority : Priority) (kind : PduType) → frame_id_at priority kind ≡ alarm_id priority kind
id_read High Data = refl
id_read High Nack = refl
id_read High Ack = refl
id_read High Error = refl
id_read Low kind = refl

-- the octets of a PDU: its header, VarPartLen, and the body
abbrev pdu_whole : Header → ℕ → List ℕ → List ℕ
pdu_whole header size body =
    big_bytes 2 header.destination
    ++ (big_bytes 2 header.source ++ (big_bytes 1 (octet_of header.kind) ++ (big_bytes 1 (flags_of header.kind) ++ (big_bytes 2 header.send_number
    ++ (big_bytes 2 header.ack_number ++ (big_bytes 2 size ++ body))))))

pdu_made : (header : Header) (inside : List ℕ) → pdu_bytes (record { header = header; body = inside }) ≡ pdu_whole header (length inside) inside
unfolding pdu_bytes pdu_format pdu_header pdu_kind
pdu_made header inside = ap (λ (xs : List ℕ). pdu_whole header (length inside) xs) (append-nil inside)

pdu_is : (header : Header) (size : ℕ) (inside : List ℕ) → IsHeader header → size < 65536 → length inside ≡ size
    → IsPdu (pdu_whole header size inside) header size
pdu_is header size inside fits few long = record {
  destination = big_number-reads_back 2 header.destination [] fits.destination;
  source = big_number-reads_back 2 header.source [] fits.source;
  type_is = big_number-reads_back 1 (octet_of header.kind) [] (type_read header.kind).1 ∙ (type_read header.kind).0;
  flags = big_number-reads_back 1 (flags_of header.kind) [] (flags_read header.kind).1 ∙ (flags_read header.kind).0;
  send_number = big_number-reads_back 2 header.send_number [] fits.send_number;
  ack_number = big_number-reads_back 2 header.ack_number [] fits.ack_number;
  var_part = big_number-reads_back 2 size [] few;
  end = omega (arith, long);
}

-- a PDU without data
pub reply_is : (header : Header) → IsHeader header → IsPdu (pdu_bytes (record { header = header; body = [] })) header 0
reply_is header fits = subst (λ (xs : List ℕ). IsPdu xs header 0) (sym (pdu_made header [])) (pdu_is header 0 [] fits (omega arith) refl)

-- ---- the numbers of a change

specifier_read : (sequence : ℕ) (at_submodule in_relation : Bool) → sequence < 2 ^ 11 → change_specifier sequence at_submodule in_relation < 65536
specifier_read sequence true true few = omega (arith, few)
specifier_read sequence true false few = omega (arith, few)
specifier_read sequence false true few = omega (arith, few)
specifier_read sequence false false few = omega (arith, few)

properties_read : (appears : Bool) → (if appears then 2 ^ 11 else 2 ^ 12) < 65536
properties_read true = omega arith
properties_read false = omega arith

appears_read : (appears : Bool) → (if appears then 1 else 12) < 65536
appears_read true = omega arith
appears_read false = omega arith

type_of_change : (kind : ModuleChangeKind) → (kind_type kind ≡ change_type kind) × (kind_type kind < 65536)
type_of_change Pull = (refl, omega arith)
type_of_change PullModule = (refl, omega arith)
type_of_change Plug = (refl, omega arith)
type_of_change PlugWrong = (refl, omega arith)

-- the block of an alarm up to AlarmSpecifier
abbrev notified : ℕ → ℕ → ℕ → ℕ → ℕ → ℕ → ℕ → ℕ → List ℕ → List ℕ
notified block_type size alarm_type slot subslot module_ident submodule_ident specifier rest =
    big_bytes 2 block_type
    ++ (big_bytes 2 size ++ (1 ∷ 0 ∷ (big_bytes 2 alarm_type ++ (big_bytes 4 0 ++ (big_bytes 2 slot ++ (big_bytes 2 subslot ++ (big_bytes 4 module_ident
    ++ (big_bytes 4 submodule_ident ++ (big_bytes 2 specifier ++ rest)))))))))

-- ---- a change of diagnosis, a pull or a plug

module _ (tag : ℕ) (header : Header) (alarm : QueuedAlarm) (sequence : ℕ) (fits : IsHeader header) (sized : IsSizedQueued alarm sequence) where
  abbrev specifier : ℕ
  specifier = change_specifier sequence alarm.is_any_at_submodule alarm.is_any_in_relation

  specifier_fits : specifier < 65536
  specifier_fits = specifier_read sequence alarm.is_any_at_submodule alarm.is_any_in_relation sized.sequence_fits

  -- the alarm of another change, with all else as it is
  abbrev with_change : LowChange → QueuedAlarm
  with_change one = record alarm { change = one }

  -- what follows the FrameID
  abbrev sent_for : LowChange → List ℕ
  sent_for one = body_of (Reports tag header (alarm_of sequence (with_change one)))

  abbrev diagnosis_inside : Change → List ℕ
  diagnosis_inside change =
      notified 0x0002 30 (if change.appears then 1 else 12) change.diagnosis.slot change.diagnosis.subslot alarm.module_ident_number
      alarm.submodule_ident_number specifier
      (big_bytes 2 0x8000 ++ (big_bytes 2 change.diagnosis.channel ++ (big_bytes 2 (if change.appears then 2 ^ 11 else 2 ^ 12)
      ++ big_bytes 2 change.diagnosis.error)))

  diagnosis_made : (change : Change) → sent_for (change_of.Diagnosis change) ≡ pdu_whole header 34 (diagnosis_inside change)
  unfolding report block_priority open_body version report_fields front payload number_bytes
  diagnosis_made change = pdu_made header (diagnosis_inside change)

  diagnosis_there : (change : Change) → IsSizedChange change → IsDiagnosisAlarm (sent_for (change_of.Diagnosis change)) header change alarm sequence
  diagnosis_there change change_sized =
      subst (λ (xs : List ℕ). IsDiagnosisAlarm xs header change alarm sequence) (sym (diagnosis_made change)) (record {
        pdu = pdu_is header 34 (diagnosis_inside change) fits (omega arith) refl;
        block = record { kind = refl; length_is = refl; version = refl };
        notification = record {
          type_is = big_number-reads_back 2 (if change.appears then 1 else 12) [] (appears_read change.appears);
          api = refl;
          slot_is = big_number-reads_back 2 change.diagnosis.slot [] change_sized.slot;
          subslot_is = big_number-reads_back 2 change.diagnosis.subslot [] change_sized.subslot;
          module_is = big_number-reads_back 4 alarm.module_ident_number [] sized.module_ident;
          submodule_is = big_number-reads_back 4 alarm.submodule_ident_number [] sized.submodule_ident;
          specifier_is = big_number-reads_back 2 specifier [] specifier_fits;
        };
        structure = refl;
        channel = big_number-reads_back 2 change.diagnosis.channel [] change_sized.channel;
        properties = big_number-reads_back 2 (if change.appears then 2 ^ 11 else 2 ^ 12) [] (properties_read change.appears);
        error = big_number-reads_back 2 change.diagnosis.error [] change_sized.error;
      })

  pub diagnosis_alarm : (change : Change) → IsSizedChange change → alarm.change ≡ change_of.Diagnosis change
      → IsDiagnosisAlarm (body_of (Reports tag header (alarm_of sequence alarm))) header change alarm sequence
  diagnosis_alarm change change_sized is_it =
      subst (λ (one : LowChange). IsDiagnosisAlarm (sent_for one) header change alarm sequence) (sym is_it) (diagnosis_there change change_sized)

  abbrev module_inside : ModuleChange → List ℕ
  module_inside made =
      notified 0x0002 22 (kind_type made.kind) made.slot made.subslot alarm.module_ident_number alarm.submodule_ident_number specifier []

  module_made : (made : ModuleChange) → sent_for (change_of.Module made) ≡ pdu_whole header 26 (module_inside made)
  unfolding report block_priority open_body version report_fields front payload number_bytes
  module_made made = pdu_made header (module_inside made)

  module_there : (made : ModuleChange) → IsSizedPlug made → IsModuleAlarm (sent_for (change_of.Module made)) header made alarm sequence
  module_there made made_sized =
      subst (λ (xs : List ℕ). IsModuleAlarm xs header made alarm sequence) (sym (module_made made)) (record {
        pdu = pdu_is header 26 (module_inside made) fits (omega arith) refl;
        block = record { kind = refl; length_is = refl; version = refl };
        notification = record {
          type_is = big_number-reads_back 2 (kind_type made.kind) [] (type_of_change made.kind).1 ∙ (type_of_change made.kind).0;
          api = refl;
          slot_is = big_number-reads_back 2 made.slot [] made_sized.slot;
          subslot_is = big_number-reads_back 2 made.subslot [] made_sized.subslot;
          module_is = big_number-reads_back 4 alarm.module_ident_number [] sized.module_ident;
          submodule_is = big_number-reads_back 4 alarm.submodule_ident_number [] sized.submodule_ident;
          specifier_is = big_number-reads_back 2 specifier [] specifier_fits;
        };
      })

  pub module_alarm : (made : ModuleChange) → IsSizedPlug made → alarm.change ≡ change_of.Module made
      → IsModuleAlarm (body_of (Reports tag header (alarm_of sequence alarm))) header made alarm sequence
  module_alarm made made_sized is_it =
      subst (λ (one : LowChange). IsModuleAlarm (sent_for one) header made alarm sequence) (sym is_it) (module_there made made_sized)

-- ---- AlarmAck

module _ (header : Header) (ack : AlarmAck) (fits : IsHeader header) (sized : IsAck ack) where
  abbrev ack_inside : ℕ → List ℕ
  ack_inside type =
      big_bytes 2 type
      ++ (big_bytes 2 18 ++ (1 ∷ 0 ∷ (big_bytes 2 ack.alarm_type ++ (big_bytes 4 ack.api ++ (big_bytes 2 ack.slot_number ++ (big_bytes 2 ack.subslot_number
      ++ (big_bytes 2 ack.alarm_specifier ++ big_bytes 4 ack.pnio_status)))))))

  ack_made : (priority : Priority) → pdu_bytes (ack_pdu priority header ack) ≡ pdu_whole header 22 (ack_inside (ack_type priority))
  unfolding block_bytes block block_body fields_of number_of type_of body version alarm_ack number_bytes low_ack
  ack_made High = pdu_made header (ack_inside 0x8001)
  ack_made Low = pdu_made header (ack_inside 0x8002)

  ack_carried : (priority : Priority) → IsCarried (pdu_whole header 22 (ack_inside (ack_type priority))) (ack_type priority) 18
  ack_carried High = record { kind = refl; length_is = refl; version = refl }
  ack_carried Low = record { kind = refl; length_is = refl; version = refl }

  pub ack_is : (priority : Priority) → IsAlarmAck (pdu_bytes (ack_pdu priority header ack)) header priority ack
  ack_is priority =
      subst (λ (xs : List ℕ). IsAlarmAck xs header priority ack) (sym (ack_made priority)) (record {
        pdu = pdu_is header 22 (ack_inside (ack_type priority)) fits (omega arith) refl;
        block = ack_carried priority;
        alarm_type = big_number-reads_back 2 ack.alarm_type [] sized.alarm_type;
        api = big_number-reads_back 4 ack.api [] sized.api;
        slot = big_number-reads_back 2 ack.slot_number [] sized.slot_number;
        subslot = big_number-reads_back 2 ack.subslot_number [] sized.subslot_number;
        specifier = big_number-reads_back 2 ack.alarm_specifier [] sized.alarm_specifier;
        status = big_number-reads_back 4 ack.pnio_status [] sized.pnio_status;
      })

-- ---- a process alarm

module _ (header : Header) (specifier slot subslot module_ident submodule_ident : ℕ) (data_is : List ℕ) (fits : IsHeader header)
    (specifier_fits : specifier < 65536) (slot_fits : slot < 65536) (subslot_fits : subslot < 65536) (module_fits : module_ident < 256 ^ 4)
    (submodule_fits : submodule_ident < 256 ^ 4) (few : length data_is ≤ 1458) where
  abbrev process_with : ℕ → List ℕ
  process_with size = notified 0x0001 size 2 slot subslot module_ident submodule_ident specifier (big_bytes 2 1 ++ data_is)

  process_block : block_bytes (is.AlarmNotification (notice_of specifier slot subslot module_ident submodule_ident data_is)) ≡ process_with (24 + length data_is)
  unfolding block_bytes block block_body fields_of number_of type_of open_body version alarm_notification alarm_place alarm_subject number_bytes
  process_block =
      let size : (open_body alarm_notification).size (notice_of specifier slot subslot module_ident submodule_ident data_is) ≡ 24 + length data_is = omega arith in
      ap (λ (xs : List ℕ).
      notified 0x0001 ((open_body alarm_notification).size (notice_of specifier slot subslot module_ident submodule_ident data_is)) 2 slot subslot
      module_ident submodule_ident specifier (big_bytes 2 1 ++ xs)) (append-nil data_is)
      ∙ ap process_with size

  process_made : body_of (Notifies header (notice_of specifier slot subslot module_ident submodule_ident data_is))
      ≡ pdu_whole header (28 + length data_is) (process_with (24 + length data_is))
  process_made =
      let size : length (process_with (24 + length data_is)) ≡ 28 + length data_is = omega arith in
      ap (λ (xs : List ℕ). pdu_bytes (record { header = header; body = xs })) process_block
      ∙ pdu_made header (process_with (24 + length data_is))
      ∙ ap (λ (n : ℕ). pdu_whole header n (process_with (24 + length data_is))) size

  pub process_is : IsProcessAlarm (body_of (Notifies header (notice_of specifier slot subslot module_ident submodule_ident data_is))) header slot
      subslot module_ident submodule_ident specifier data_is
  process_is =
      subst (λ (xs : List ℕ). IsProcessAlarm xs header slot subslot module_ident submodule_ident specifier data_is) (sym process_made) (record {
        pdu = pdu_is header (28 + length data_is) (process_with (24 + length data_is)) fits (omega (arith, few)) (omega arith);
        block = record { kind = refl; length_is = big_number-reads_back 2 (24 + length data_is) [] (omega (arith, few)); version = refl };
        notification = record {
          type_is = refl;
          api = refl;
          slot_is = big_number-reads_back 2 slot [] slot_fits;
          subslot_is = big_number-reads_back 2 subslot [] subslot_fits;
          module_is = big_number-reads_back 4 module_ident [] module_fits;
          submodule_is = big_number-reads_back 4 submodule_ident [] submodule_fits;
          specifier_is = big_number-reads_back 2 specifier [] specifier_fits;
        };
        structure = refl;
        data_there = refl;
      })
