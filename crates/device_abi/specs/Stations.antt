-- The fixed properties of a device, as a host writes them.
use Rattle.std.specs.Prelude.{◌&&◌, ◌==◌, ◌%◌, ℕ, Bool, true, nat_le, not, if◌then◌else◌, List, [], ◌∷◌, take, map, slice_index, Option, Some, None, is_ok}
use Rattle.std.specs.List.{list_all, list_any}
use Rattle.pn_values.specs.declared.real.Real.{Real}
use Rattle.pn_values.specs.declared.identity.Identity.{Identity}
use Rattle.device_core.specs.State as device
use Rattle.relations.specs.declared.options.DeviceOptions.{DeviceOptions}
use Rattle.c_layout.specs.declared.plugged.Module.{Module}
use Rattle.c_layout.specs.declared.plugged.Submodule.{Submodule}
use Rattle.c_layout.specs.Modules.{are_parameters, is_module, module_of, parameters_in, submodules_in}
use Rattle.asked_records.specs.Names.{named_of}
use Rattle.asked_records.specs.declared.names.RecordName.{RecordName}
use Rattle.device_abi.specs.declared.c_station.Record.{Record}
use Rattle.device_abi.specs.declared.c_station.Station.{Station}

-- The modules that are counted.
abbrev pub modules_in : Station → List Module
modules_in station = take station.module_count station.modules

-- ---- whether each part is in its range

-- No count is greater than its list can hold.
abbrev pub has_room : Station → Bool
has_room station =
    nat_le station.station_type_length 25 && (nat_le station.module_count 16 && (list_all is_module (modules_in station) && nat_le station.record_count 16))

-- The MAC address is that of one station: its first octet is even.
abbrev pub is_single : Station → Bool
is_single station = slice_index station.mac 0 % 2 == 0

-- A module is in this slot.
abbrev pub has_slot : ℕ → List Module → Bool
has_slot slot modules = list_any (λ entry. entry.slot == slot) modules

-- The slots are from 0 to 15, each once.
abbrev pub are_slots : List Module → Bool
are_slots [] = true
are_slots (entry ∷ others) = (nat_le entry.slot 15 && not (has_slot entry.slot others)) && are_slots others

-- A submodule is in this subslot.
abbrev pub has_subslot : ℕ → List Submodule → Bool
has_subslot subslot submodules = list_any (λ part. part.subslot == subslot) submodules

-- A subslot is from 1 to 36,863.
abbrev pub is_subslot : ℕ → Bool
is_subslot subslot = nat_le 1 subslot && nat_le subslot 36863

-- The subslots of a module are in their range, each once.
abbrev pub are_subslots : List Submodule → Bool
are_subslots [] = true
are_subslots (part ∷ others) = (is_subslot part.subslot && not (has_subslot part.subslot others)) && are_subslots others

-- Whether the subslots of a module differ and are in their range.
abbrev pub is_parted : Module → Bool
is_parted plugged = are_subslots (submodules_in plugged)

-- A cyclic frame can carry the data of a submodule: at most 1,440 octets, one of which is its IOPS.
abbrev pub fits : Submodule → Bool
fits part = nat_le part.input 1439 && nat_le part.output 1439

-- Whether the data of each submodule fits one frame.
abbrev pub is_carried : Module → Bool
is_carried plugged = list_all fits (submodules_in plugged)

-- The parameter records of a submodule are in their ranges, each with an index of its own.
abbrev pub has_parameters : Submodule → Bool
has_parameters part = are_parameters (parameters_in part)

-- Whether the parameter records of each submodule are in their ranges.
abbrev pub is_described : Module → Bool
is_described plugged = list_all has_parameters (submodules_in plugged)

-- The smallest interval is one that a Connect may have: at most 65,536 units.
abbrev pub has_interval : Station → Bool
has_interval station = nat_le station.smallest_interval 65536

-- A record that C describes.
abbrev pub name_of : Record → RecordName
name_of written = record {
  slot = written.slot;
  subslot = written.subslot;
  index = written.index;
  greatest_length = written.greatest_length;
  is_readable = not (written.is_readable == 0);
  is_writable = not (written.is_writable == 0);
}

-- The records that the application answers: those that are counted.
abbrev pub names_of : Station → List RecordName
names_of station = map name_of (take station.record_count station.records)

-- Each of them is in its ranges, and no other one has its place and index.
abbrev pub has_names : Station → Bool
has_names station = is_ok (named_of (names_of station))

-- ---- why no device is made from a station

-- The first fault of a station; 0 if it has none: 4, a count is greater than its list can hold; 18, the MAC address is
-- that of a group; 19, slots; 20, subslots; 21, data that no cyclic frame can carry; 22, parameter records; 23, the
-- smallest interval; 46, records that the application answers.
abbrev pub fault_of : Station → ℕ
fault_of station =
    if not (has_room station) then 4 else
    (if not (is_single station) then 18 else
    (if not (are_slots (modules_in station)) then 19 else
    (if not (list_all is_parted (modules_in station)) then 20 else
    (if not (list_all is_carried (modules_in station)) then 21 else
    (if not (list_all is_described (modules_in station)) then 22 else
    (if not (has_interval station) then 23 else
    (if not (has_names station) then 46 else 0)))))))

-- Whether a station that C wrote has no fault.
abbrev pub is_station : Station → Bool
is_station station = fault_of station == 0

-- ---- the values

-- The identity that C wrote.
abbrev pub identity_of : Station → Identity
identity_of station = record {
  mac = record { octets = station.mac };
  station_type = record { items = take station.station_type_length station.station_type };
  vendor_id = station.vendor_id;
  device_id = station.device_id;
  instance = station.instance;
  order_id = station.order_id;
  serial_number = station.serial_number;
  hardware_revision = station.hardware_revision;
  software_revision = station.software_revision;
  profile_id = station.profile_id;
  profile_specific_type = station.profile_specific_type;
}

-- The modules that C wrote.
abbrev pub real_of : Station → Real
real_of station = record { modules = record { items = map module_of (modules_in station) } }

-- From which number on the numbers of relations go round, if they do.
abbrev pub numbers_of : Station → Option ℕ
numbers_of station = if station.numbers_go_round == 0 then None else Some (station.first_number % 65536)

-- What the application decides: a number that is not 0 is yes.
abbrev pub options_of : Station → DeviceOptions
options_of station = record {
  smallest_interval = station.smallest_interval;
  inputs_begin_bad = not (station.inputs_begin_bad == 0);
  ready_by_application = not (station.ready_by_application == 0);
  only_own_controller = not (station.only_own_controller == 0);
  records_passed_on = not (station.records_passed_on == 0);
  numbers_from = numbers_of station;
  reads_not_kept = not (station.reads_not_kept == 0);
  asks_own_first = not (station.asks_own_first == 0);
}

-- The identity, the modules that are plugged, the options, and the records that the application answers.
abbrev pub station_of : Station → device.Station
station_of station = device.station_named (identity_of station) (real_of station) (options_of station) (names_of station)
