-- AlarmNotification (IEC 61158-6-10, 5.2.5).
use Rattle.wire.specs.Codec.{Codec, Whole}
use Rattle.wire.specs.Formats.{◌⨾◌, seen}
use Rattle.wire.specs.Whole.{everything, ends_by, seen_whole}
use Rattle.wire.specs.declared.blocks.fault.BlockFault.{BlockFault}
use Rattle.wire.specs.blocks.Fields.{two, four, fixed}
use Rattle.record_blocks.specs.declared.alarm_notification.AlarmNotification.{AlarmNotification}
use Rattle.record_blocks.specs.declared.alarm_notification.AlarmPlace.{AlarmPlace}
use Rattle.record_blocks.specs.declared.alarm_notification.AlarmSubject.{AlarmSubject}

-- The fields from AlarmType to SubslotNumber.
unfoldable pub alarm_place : Codec BlockFault AlarmPlace
alarm_place = seen
    (λ x. record { alarm_type = x.0; api = x.1.0; slot_number = x.1.1.0; subslot_number = x.1.1.1 })
    (λ place. (place.alarm_type, (place.api, (place.slot_number, place.subslot_number))))
    (two ⨾ four ⨾ two ⨾ two)

-- The fields from ModuleIdentNumber to UserStructureIdentifier, which is 1.
unfoldable pub alarm_subject : Codec BlockFault AlarmSubject
alarm_subject = seen
    (λ x. record { module_ident_number = x.0; submodule_ident_number = x.1.0; alarm_specifier = x.1.1.0 })
    (λ subject. (subject.module_ident_number, (subject.submodule_ident_number, (subject.alarm_specifier, tt))))
    (four ⨾ four ⨾ two ⨾ fixed 11 1)

-- The fields of an AlarmNotification, and its data to the end.
unfoldable pub alarm_notification : Whole BlockFault AlarmNotification
alarm_notification = seen_whole
    (λ x. record {
      alarm_type = x.0.0.alarm_type;
      api = x.0.0.api;
      slot_number = x.0.0.slot_number;
      subslot_number = x.0.0.subslot_number;
      module_ident_number = x.0.1.module_ident_number;
      submodule_ident_number = x.0.1.submodule_ident_number;
      alarm_specifier = x.0.1.alarm_specifier;
      alarm_data = x.1;
    })
    (λ block. (
      (
        record { alarm_type = block.alarm_type; api = block.api; slot_number = block.slot_number; subslot_number = block.subslot_number },
        record {
          module_ident_number = block.module_ident_number;
          submodule_ident_number = block.submodule_ident_number;
          alarm_specifier = block.alarm_specifier;
        },
      ),
      block.alarm_data,
    ))
    (ends_by (alarm_place ⨾ alarm_subject) (λ _. everything))
