-- What a contract sees of a device.
use Rattle.std.specs.Prelude.{◌+◌, ◌%◌, ℕ, Bool, true, List, [], Option, None}
use Rattle.std.specs.Option.{option_map}
use Rattle.pn_values.specs.declared.identity.Identity.{Identity}
use Rattle.pn_values.specs.declared.real.Real.{Real}
use Rattle.settings_journal.specs.settings_store.State as store
use Rattle.settings_journal.specs.settings_store.State.{Values}
use Rattle.rpc_core.specs.Cache.{Kept}
use Rattle.diagnosis.specs.declared.diagnosis.Diagnosis.{Diagnosis}
use Rattle.lldp.specs.Peer.{Peer, alias_of}
use Rattle.asked_records.specs.Asked.{AskedState, not_asked}
use Rattle.asked_records.specs.declared.names.RecordName.{RecordName}
use Rattle.device_records.specs.declared.log_data.entry.LogEntry.{LogEntry}
use Rattle.relations.specs.declared.options.DeviceOptions.{DeviceOptions}
use Rattle.relations.specs.Options.{default_options}
use Rattle.relations.specs.declared.exchange.statuses.InputStatus.{InputStatus}
use Rattle.relations.specs.RelationState.{RelationState}

-- The fixed properties of a device: its identity, the modules that it was given, its options, and the records that its
-- application answers.
pub record Station : Type 0 where
  pub identity : Identity
  pub real : Real
  pub options : DeviceOptions
  pub named : List RecordName

-- A device with these options, whose application answers these records.
abbrev pub station_named : Identity → Real → DeviceOptions → List RecordName → Station
station_named identity real options named = record { identity = identity; real = real; options = options; named = named }

-- A device with these options, whose application answers no records.
abbrev pub station_with : Identity → Real → DeviceOptions → Station
station_with identity real options = station_named identity real options []

-- A device with all options at their defaults.
abbrev pub plain : Identity → Real → Station
plain identity real = station_with identity real default_options

-- The state that a device has besides its settings, and loses with its power: the number of units for which the lamp
-- still flashes, the answers to the last calls, newest first, its application relation, if there is one, the units since
-- its start, modulo 2^64, whether its application runs, the statuses that the application gave to its inputs, the log, its neighbour, if one is known,
-- the diagnoses that exist, how many relations it had since its start, modulo 14,336, the modules that are plugged now, and
-- what is asked of the application.
pub record Rest : Type 0 where
  pub lamp : ℕ
  pub calls : List Kept
  pub link : Option RelationState
  pub units : ℕ
  pub is_running : Bool
  pub statuses : List InputStatus
  pub log : List LogEntry
  pub peer : Option Peer
  pub diagnoses : List Diagnosis
  pub made : ℕ
  pub real : Real
  pub asked : AskedState

-- The units one unit later, and several units later.
abbrev pub units_after : ℕ → ℕ → ℕ
units_after more units = (units + more) % 18446744073709551616

-- CycleCounter: the units, modulo 65,536.
abbrev pub counter_of : ℕ → ℕ
counter_of units = units % 65536

-- The rest as a device starts: the lamp is off, no answer is kept, there is no relation, the application runs and gave no status, the
-- log is empty, no neighbour is known, no diagnosis exists, it had no relation, the given modules are plugged, and nothing is
-- asked.
abbrev pub at_start : Real → Rest
at_start given =
    record { lamp = 0; calls = []; link = None; units = 0; is_running = true; statuses = []; log = []; peer = None; diagnoses = []; made = 0; real = given; asked = not_asked }

-- The name of the station by its place (AliasName), while it knows its neighbour.
abbrev pub alias_in : Option Peer → Option (List ℕ)
alias_in peer = option_map alias_of peer

-- The state that changes from event to event: the settings, and the rest.
pub record Live : Type 0 where
  pub values : Values
  pub rest : Rest

-- The flash, the fixed properties, and the state that changes.
pub record State (F : Type 0) : Type 0 where
  pub flash : F
  pub station : Station
  pub live : Live

-- The state of its store: the flash, and the values over it.
abbrev pub store_of : {F : Type 0} → State F → store.State F
store_of device = record { flash = device.flash; values = device.live.values }

-- A device in which only the rest has changed.
abbrev pub with_rest : {F : Type 0} → State F → Rest → State F
with_rest device rest = record device { live = record { values = device.live.values; rest = rest } }
