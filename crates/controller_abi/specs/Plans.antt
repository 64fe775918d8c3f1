-- The plan of a station, as a host writes it.
use Rattle.std.specs.Prelude.{◌≡◌, ◌&&◌, ◌||◌, ◌+◌, ◌%◌, ◌==◌, ◌≤◌, ℕ, Bool, true, false, nat_le, nat_lt, not, if◌then◌else◌, Option, Some, None, is_some, Result, Ok, Err, List, [], ◌∷◌, take, map, slice_index}
use Rattle.std.specs.List.{AllByRecursion, list_all, list_any}
use Rattle.uuid.specs.Parts.{is_nil_bytes}
use Rattle.pn_values.specs.IpSuite.{Suite, is_host, is_suite}
use Rattle.station_names.specs.Valid.{is_station_name}
use Rattle.plans.specs.Identity.{OwnIdentity, is_station_type}
use Rattle.plans.specs.Plan.{plan_of}
use Rattle.plans.specs.declared.parts.Parts.{Parts}
use Rattle.plans.specs.declared.parts.PlanRecord.{PlanRecord}
use Rattle.plans.specs.declared.plan.TooLong.{TooLong}
use Rattle.plans.specs.declared.plan.TooLong.TheVariants.{Frame, Connect}
use Rattle.controller_messages.specs.declared.setup.ControllerOptions.{ControllerOptions}
use Rattle.c_layout.specs.declared.plugged.Module.{Module}
use Rattle.c_layout.specs.declared.plugged.Parameter.{Parameter}
use Rattle.c_layout.specs.declared.plugged.Submodule.{Submodule}
use Rattle.c_layout.specs.Modules.{are_parameters, is_module, module_of, parameters_in, submodules_in}
use Rattle.controller_abi.specs.declared.plan.WrittenIdentity.{WrittenIdentity}
use Rattle.controller_abi.specs.declared.plan.WrittenPlan.{WrittenPlan}
use Rattle.controller_abi.specs.declared.plan.WrittenRecord.{WrittenRecord}

-- ---- lists in which only the counted items are valid

-- The name of the station in a plan that C wrote.
abbrev pub name_in : WrittenPlan → List ℕ
name_in written = take written.name_length written.name

-- The name of the controller.
abbrev pub controller_name_in : WrittenPlan → List ℕ
controller_name_in written = take written.controller_name_length written.controller_name

-- The modules that are used.
abbrev pub modules_in : WrittenPlan → List Module
modules_in written = take written.module_count written.modules

-- The records that are used.
abbrev pub records_in : WrittenPlan → List WrittenRecord
records_in written = take written.record_count written.records

-- ---- whether each part is in its range

-- The IP suite of the station.
abbrev pub suite_in : WrittenPlan → Suite
suite_in written = record { address = written.address; mask = written.mask; gateway = written.gateway }

-- No count is greater than its list can hold.
abbrev pub has_room : WrittenPlan → Bool
has_room written =
    nat_le written.module_count 16 && (list_all is_module (modules_in written) && nat_le written.record_count 32)

-- Whether SendClockFactor, ReductionRatio and DataHoldFactor are in their ranges.
abbrev pub are_times : WrittenPlan → Bool
are_times written =
    (nat_le 1 written.send_clock_factor && nat_le written.send_clock_factor 128)
    && ((nat_le 1 written.reduction_ratio && nat_le written.reduction_ratio 512)
    && (nat_le 1 written.data_hold_factor && nat_le written.data_hold_factor 7680))

-- Each number is greater than the one before it, and the first is at least this.
abbrev pub is_rising : ℕ → List ℕ → Bool
is_rising least [] = true
is_rising least (number ∷ numbers) = nat_le least number && is_rising (number + 1) numbers

-- A submodule: its subslot is at most 36,863, and its parameter records are valid.
abbrev pub is_part : Submodule → Bool
is_part part = nat_le part.subslot 36863 && are_parameters (parameters_in part)

-- A module: its number is not 0, and its submodules are valid, in the order of their subslots from 1 on.
abbrev pub is_sound : Module → Bool
is_sound plugged =
    nat_le 1 plugged.ident
    && (is_rising 1 (map (λ part. part.subslot) (submodules_in plugged)) && list_all is_part (submodules_in plugged))

-- A submodule accepts a record: it has its subslot, and a parameter record of its index and its length.
abbrev pub is_item : WrittenRecord → Parameter → Bool
is_item entry item = item.index == entry.index && item.length == entry.length

-- Whether a submodule has a parameter record with the index and the length of this one.
abbrev pub does_part_take : WrittenRecord → Submodule → Bool
does_part_take entry part = part.subslot == entry.subslot && list_any (is_item entry) (parameters_in part)

-- A submodule of a module does.
abbrev pub does_take : WrittenRecord → Module → Bool
does_take entry plugged = plugged.slot == entry.slot && list_any (does_part_take entry) (submodules_in plugged)

-- A record: a submodule of one of these modules accepts it, and it has at most 64 octets.
abbrev pub is_record : List Module → WrittenRecord → Bool
is_record modules entry = nat_le entry.length 64 && list_any (does_take entry) modules

-- What the controller says of itself to tools: nothing if its type of station is not one of 1 to 25 printable octets.
abbrev pub own_of : WrittenIdentity → Option OwnIdentity
own_of identity =
    let octets = take identity.station_type_length identity.station_type in
    if is_station_type octets
    then Some (record { vendor_id = identity.vendor_id; device_id = identity.device_id; station_type = octets }) else None

-- Whether the controller is no DCP station, or has a type of station.
abbrev pub is_told : WrittenIdentity → Bool
is_told identity = identity.station_type_length == 0 || is_some (own_of identity)

-- What the controller says of itself, times, modules and records.
abbrev pub are_numbers : WrittenPlan → Bool
are_numbers written =
    is_told written.identity
    && (are_times written && (list_all is_sound (modules_in written) && list_all (is_record (modules_in written)) (records_in written)))

-- Whether octets of this length are a station name.
abbrev pub is_name : ℕ → List ℕ → Bool
is_name length octets = nat_le length 240 && is_station_name (take length octets)

-- Whether both names are station names.
abbrev pub are_named : WrittenPlan → Bool
are_named written =
    is_name written.name_length written.name && is_name written.controller_name_length written.controller_name

-- An IP suite of the station, a MAC address of one station, and a host address.
abbrev pub are_addresses : WrittenPlan → Bool
are_addresses written =
    is_suite (suite_in written)
    && ((slice_index written.controller_mac 0 % 2 == 0) && is_host (slice_index written.controller_address 0))

-- The access point in slot 0, and the modules after it in the order of their slots.
abbrev pub are_ordered : List Module → Bool
are_ordered [] = false
are_ordered (plugged ∷ others) = plugged.slot == 0 && is_rising 1 (map (λ entry. entry.slot) others)

-- Modules in order, and no record for the access point.
abbrev pub are_placed : WrittenPlan → Bool
are_placed written = are_ordered (modules_in written) && list_all (λ entry. not (entry.slot == 0)) (records_in written)

-- Slots from 0 to 15.
abbrev pub are_low : WrittenPlan → Bool
are_low written = list_all (λ entry. nat_le entry.slot 15) (modules_in written)

-- All of these.
abbrev pub is_written : WrittenPlan → Bool
is_written written =
    has_room written
    && (are_numbers written && (are_named written && (are_addresses written && (are_placed written && are_low written))))

-- ---- the plan

-- A record of the plan.
abbrev pub record_of : WrittenRecord → PlanRecord
record_of entry = record { slot = entry.slot; subslot = entry.subslot; index = entry.index; «data» = record { items = take entry.length entry.octets } }

-- The options of the controller.
abbrev pub options_in : WrittenPlan → ControllerOptions
options_in written = record { patience = written.patience; waiting_patience = written.waiting_patience }

-- The plan that C wrote.
abbrev pub parts_of : WrittenPlan → Parts
parts_of written = record {
  station = record { name = name_in written; suite = suite_in written; vendor_id = written.vendor_id; device_id = written.device_id };
  controller = record { name = controller_name_in written; mac = record { octets = written.controller_mac }; address = written.controller_address };
  times = record {
    send_clock_factor = written.send_clock_factor;
    reduction_ratio = written.reduction_ratio;
    data_hold_factor = written.data_hold_factor;
  };
  real = record { modules = record { items = map module_of (modules_in written) } };
  records = record { items = map record_of (records_in written) };
  continue_on_refused_record = not (written.continue_on_refused_record == 0);
  release_on_refused_record = not (written.release_on_refused_record == 0);
  multiple_write = not (written.multiple_write == 0);
  parameters_after_plug = not (written.parameters_after_plug == 0);
  persistent_start = not (written.persistent_start == 0);
  identity = own_of written.identity;
}

-- ---- the same, in the form in which it is used

-- A record has at most 64 octets.
abbrev pub IsShort : WrittenRecord → Type 0
IsShort entry = entry.length ≤ 64

-- What a plan must be that C writes: names, counts, times, modules and records are in their ranges.
pub record IsWritten (written : WrittenPlan) : Type 0 where
  pub few_octets : written.name_length ≤ 240
  pub named : is_station_name (name_in written) ≡ true
  pub few_controller_octets : written.controller_name_length ≤ 240
  pub controlled : is_station_name (controller_name_in written) ≡ true
  pub addressed : is_suite (suite_in written) ≡ true
  pub few_modules : written.module_count ≤ 16
  pub small_modules : list_all is_module (modules_in written) ≡ true
  pub few_records : written.record_count ≤ 32
  pub short_records : AllByRecursion IsShort (records_in written)

-- ---- why no controller is made

-- A cyclic frame or the Connect is too long.
abbrev pub fault_of_length : {T : Type 0} → Result T TooLong → ℕ
fault_of_length (Ok plan) = 0
fault_of_length (Err Frame) = 39
fault_of_length (Err Connect) = 40

-- The number of what is too long, if anything is.
abbrev pub length_number : Option TooLong → ℕ
length_number None = 0
length_number (Some Frame) = 39
length_number (Some Connect) = 40

-- The first fault of a plan, with the number that a catalogue with this fault has, 32 and the number of the fault; 0 if
-- it has none. After lists that are too long the faults are checked in the order of those of a catalogue.
abbrev pub fault_of : WrittenPlan → ℕ
fault_of written =
    if not (has_room written) then 38 else
    (if not (are_numbers written) then 36 else
    (if not (are_named written) then 41 else
    (if not (are_addresses written) then 42 else
    (if not (are_placed written) then 37 else
    (if not (are_low written) then 38 else fault_of_length (plan_of (parts_of written)))))))

-- Whether a plan that C wrote has no fault.
abbrev pub is_plan : WrittenPlan → Bool
is_plan written = fault_of written == 0

-- Why no controller is made: another version or size of an operation than the library's, too little memory, an invalid
-- plan, or an ARUUID that is zero.
abbrev pub why_not_made : ℕ → ℕ → ℕ → WrittenPlan → List ℕ → ℕ
why_not_made size abi op_size written ar =
    if not (abi == 11 && op_size == 1680) then 2 else
    (if nat_lt size 40960 then 3 else (if not (is_plan written) then 16 else (if is_nil_bytes ar then 16 else 0)))
