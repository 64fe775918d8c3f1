-- What an alarm reports of a channel (IEC 61158-6-10, 5.2.5).
use Rattle.std.specs.Prelude.{◌==◌, ◌&&◌, ◌||◌, ◌/◌, ◌%◌, ℕ, Bool, false, List, length, Option, Some, None, Result, Ok, Err, if◌then◌else◌}
use Rattle.std.specs.Option.{option_map}
use Rattle.wire.specs.Codec.{Codec}
use Rattle.wire.specs.Formats.{◌⨾◌, seen}
use Rattle.wire.specs.declared.blocks.fault.BlockFault.{BlockFault}
use Rattle.wire.specs.blocks.Fields.{two}
use Rattle.record_blocks.specs.declared.alarm_notification.AlarmNotification.{AlarmNotification}
use Rattle.diagnosis.specs.declared.reports.report.Report.{Report}
use Rattle.diagnosis.specs.declared.reported.channel.Channel.{Channel}
use Rattle.diagnosis.specs.declared.reported.channel.ChannelReport.{ChannelReport}
use Rattle.diagnosis.specs.declared.reported.channel.Specifier.{Specifier}
use Rattle.diagnosis.specs.declared.reported.channel.Specifier.TheVariants.{AllDisappear, Appears, Disappears, OthersRemain}

-- ChannelNumber, ChannelProperties and ChannelErrorType.
unfoldable pub channel : Codec BlockFault Channel
channel = seen
    (λ x. record { number = x.0; properties = x.1.0; error = x.1.1 })
    (λ c. (c.number, (c.properties, c.error)))
    (two ⨾ two ⨾ two)

-- Octets that are one ChannelDiagnosis, and nothing else.
abbrev pub channel_by : Result (Channel × List ℕ) BlockFault → Option Channel
channel_by (Ok x) = if length x.1 == 0 then Some x.0 else None
channel_by (Err fault) = None

-- Specifier is in bits 11 and 12 of ChannelProperties.
abbrev pub specifier_in : ℕ → Specifier
specifier_in properties =
    if properties / 0x800 % 4 == 0 then AllDisappear
    else if properties / 0x800 % 4 == 1 then Appears
    else if properties / 0x800 % 4 == 2 then Disappears
    else OthersRemain

-- What is reported of a channel of the alarm's submodule.
abbrev pub report_of : AlarmNotification → Channel → ChannelReport
report_of alarm channel = record {
  diagnosis = record { slot = alarm.slot_number; subslot = alarm.subslot_number; channel = channel.number; error = channel.error };
  specifier = specifier_in channel.properties;
}

-- AlarmType is Diagnosis or Diagnosis disappears, and UserStructureIdentifier is that of ChannelDiagnosis.
abbrev pub is_channel_structure : Option ℕ → Bool
is_channel_structure (Some structure) = structure == 0x8000
is_channel_structure None = false

-- Whether an alarm reports a channel diagnosis: AlarmType diagnosis appears (1) or disappears (12), with ChannelDiagnosis.
abbrev pub is_channel_diagnosis : Report → Bool
is_channel_diagnosis report =
    (report.notification.alarm_type == 1 || report.notification.alarm_type == 0x000C) && is_channel_structure report.user_structure

-- What an alarm reports of the channel that was found in its octets, if one was found.
abbrev pub report_by : AlarmNotification → Option Channel → Option ChannelReport
report_by alarm found = option_map (report_of alarm) found

-- What an alarm reports of a channel, if it does.
abbrev pub channel_report : Report → Option ChannelReport
channel_report report =
    if is_channel_diagnosis report then report_by report.notification (channel_by (channel.read report.notification.alarm_data)) else None
