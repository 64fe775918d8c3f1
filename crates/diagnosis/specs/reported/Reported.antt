-- The diagnoses that exist at a device, as a controller knows them from its alarms (IEC 61158-6-10, 5.2.6).
use Rattle.std.specs.Prelude.{◌==◌, ◌&&◌, ◌+◌, ◌++◌, ℕ, Bool, not, nat_lt, min, List, [], ◌∷◌, length, Option, Some, None, if◌then◌else◌}
use Rattle.std.specs.List.{filter}
use Rattle.module_diff.specs.declared.changes.Affected.{Affected}
use Rattle.diagnosis.specs.Existing.{exists, is_at, is_same, others, remaining}
use Rattle.diagnosis.specs.declared.diagnosis.Diagnosis.{Diagnosis}
use Rattle.diagnosis.specs.declared.reports.report.Report.{Report}
use Rattle.diagnosis.specs.reported.Channel.{channel_report}
use Rattle.diagnosis.specs.reported.Pulled.{pulled_by}
use Rattle.diagnosis.specs.declared.reported.channel.ChannelReport.{ChannelReport}
use Rattle.diagnosis.specs.declared.reported.channel.Specifier.{Specifier}
use Rattle.diagnosis.specs.declared.reported.channel.Specifier.TheVariants.{AllDisappear, Appears, Disappears, OthersRemain}

-- The diagnoses that exist, in the order in which they appeared, and how many appeared for which there was no room.
pub record Reported : Type 0 where
  pub existing : List Diagnosis
  pub left_out : ℕ

-- Nothing was reported.
abbrev pub nothing_reported : Reported
nothing_reported = record { existing = []; left_out = 0 }

-- A diagnosis appears: it is the last one of the list. One that exists already stays where it is; one more than 256 is
-- counted.
abbrev pub with_diagnosis : Diagnosis → Reported → Reported
with_diagnosis diagnosis reported =
    if exists diagnosis reported.existing then reported
    else if nat_lt (length reported.existing) 256 then record reported { existing = reported.existing ++ diagnosis ∷ [] }
    else record reported { left_out = min (reported.left_out + 1) 4294967295 }

-- Whether a diagnosis is this one, or any of its channel.
abbrev pub is_of_channel : Diagnosis → Diagnosis → Bool
is_of_channel one other = is_at one.slot one.subslot other && one.channel == other.channel

-- Whether a diagnosis disappears with another one: all of its channel, or only the same one.
abbrev pub is_gone : Bool → Diagnosis → Diagnosis → Bool
is_gone whole_channel one other = if whole_channel then is_of_channel one other else is_same one other

-- A diagnosis disappears.
abbrev pub without_diagnosis : Diagnosis → Reported → Reported
without_diagnosis diagnosis reported = record reported { existing = others diagnosis reported.existing }

-- All diagnoses of a channel disappear.
abbrev pub others_than_channel : Diagnosis → List Diagnosis → List Diagnosis
others_than_channel diagnosis diagnoses = filter (λ other. not (is_of_channel diagnosis other)) diagnoses

-- The list without the diagnoses of this channel.
abbrev pub without_channel : Diagnosis → Reported → Reported
without_channel diagnosis reported = record reported { existing = others_than_channel diagnosis reported.existing }

-- What exists after a report of a channel.
abbrev pub after_specifier : Specifier → Diagnosis → Reported → Reported
after_specifier AllDisappear diagnosis reported = without_channel diagnosis reported
after_specifier Appears diagnosis reported = with_diagnosis diagnosis reported
after_specifier Disappears diagnosis reported = without_diagnosis diagnosis reported
after_specifier OthersRemain diagnosis reported = without_diagnosis diagnosis reported

-- The list after the report of a channel, by its specifier.
abbrev pub after_channel : ChannelReport → Reported → Reported
after_channel report reported = after_specifier report.specifier report.diagnosis reported

-- What exists after an alarm. An alarm that reports nothing of a channel changes nothing.
abbrev pub after_found : Option ChannelReport → Reported → Reported
after_found (Some report) reported = after_channel report reported
after_found None reported = reported

-- The diagnoses of what was pulled disappear with it, as they do at the device.
abbrev pub after_pull : Option Affected → Reported → Reported
after_pull (Some gone) reported = record reported { existing = remaining gone reported.existing }
after_pull None reported = reported

-- The list of a controller after an alarm that it accepted.
abbrev pub after_report : Report → Reported → Reported
after_report report reported = after_pull (pulled_by report) (after_found (channel_report report) reported)
