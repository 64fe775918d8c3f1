-- The device on which scripts run.
use Rattle.std.specs.Prelude.{Bool, true, false, List, [], ◌∷◌}
use Rattle.pn_values.specs.demo.Demo.{demo, demo_real}
use Rattle.relations.specs.Options.{default_options}
use Rattle.asked_records.specs.declared.names.RecordName.{RecordName}
use Rattle.device_core.specs.State.{Station as Device}
use Rattle.script_session.specs.declared.demo.DemoOptions.{DemoOptions}

-- The record with index 0x2000 of the first module: up to 1,308 octets, which are read and written.
abbrev pub long_record : RecordName
long_record = record { slot = 1; subslot = 1; index = 8192; greatest_length = 1308; is_readable = true; is_writable = true }

-- The record with index 0x2000 of the second module: up to 4 octets, which are only read.
abbrev pub short_record : RecordName
short_record = record { slot = 2; subslot = 1; index = 8192; greatest_length = 4; is_readable = true; is_writable = false }

-- The records that the application of the demo device answers: none, or these two.
abbrev pub demo_named : Bool → List RecordName
demo_named false = []
demo_named true = long_record ∷ short_record ∷ []

-- All options have their defaults, and the application answers no records.
abbrev pub default_choices : DemoOptions
default_choices = record { device = default_options; answers_records = false }

-- The demo station, with these options.
abbrev pub demo_device : DemoOptions → Device
demo_device options = record { identity = demo; real = demo_real; options = options.device; named = demo_named options.answers_records }

-- Whether there are records that the application answers.
abbrev pub has_names : List RecordName → Bool
has_names [] = false
has_names (name ∷ names) = true

-- The options of such a station.
abbrev pub options_of : Device → DemoOptions
options_of station = record { device = station.options; answers_records = has_names station.named }
