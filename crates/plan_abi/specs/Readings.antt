-- What is returned to a host that asks for the plan of a catalogue.
use Rattle.std.specs.Prelude.{◌≡◌, ◌+◌, ◌++◌, ℕ, List, [], ◌∷◌, length, map, drop, min, nat_le, replicate, Option, Some, None, Ok, if◌then◌else◌}
use Rattle.pn_values.specs.declared.real.ParameterRecord.{ParameterRecord}
use Rattle.pn_values.specs.declared.real.RealModule.{RealModule}
use Rattle.pn_values.specs.declared.real.RealSubmodule.{RealSubmodule}
use Rattle.plans.specs.Identity.{OwnIdentity}
use Rattle.plans.specs.declared.parts.Parts.{Parts}
use Rattle.plans.specs.declared.parts.PlanRecord.{PlanRecord}
use Rattle.catalogue.specs.Catalogues.{Catalogue, Found}
use Rattle.configurator.specs.declared.fault.PlanFault.{PlanFault}
use Rattle.configurator.specs.Fault.{number_of}
use Rattle.configurator.specs.Planned.{IsRefused, Handled}
use Rattle.c_layout.specs.declared.plugged.Module.{Module}
use Rattle.c_layout.specs.declared.plugged.Parameter.{Parameter}
use Rattle.c_layout.specs.declared.plugged.Submodule.{Submodule}
use Rattle.controller_abi.specs.declared.plan.WrittenIdentity.{WrittenIdentity}
use Rattle.controller_abi.specs.declared.plan.WrittenPlan.{WrittenPlan}
use Rattle.controller_abi.specs.declared.plan.WrittenRecord.{WrittenRecord}
use Rattle.controller_abi.specs.Plans.{parts_of}

-- the number is that of a fault for which the text is refused: 32 and the number of the fault
pub record IsFault (text : List ℕ) (answer : ℕ) : Type 0 where
  pub fault : PlanFault
  pub refused : IsRefused text fault
  pub number : answer ≡ 32 + number_of fault

-- ---- modules and records in the host's memory

-- items at the start of a room, and then what was there
abbrev pub over : {A : Type 0} → List A → List A → List A
over room items = items ++ drop (length items) room

-- A parameter record as C sees it.
abbrev pub written_parameter : ParameterRecord → Parameter
written_parameter entry = record { index = entry.index; length = entry.length }

-- An unused one.
abbrev pub no_parameter : Parameter
no_parameter = record { index = 0; length = 0 }

-- Two unused ones.
abbrev pub no_parameters : List Parameter
no_parameters = no_parameter ∷ no_parameter ∷ []

-- A submodule as C sees it.
abbrev pub written_submodule : RealSubmodule → Submodule
written_submodule entry = record {
  ident = entry.ident;
  subslot = entry.subslot;
  input = entry.input;
  output = entry.output;
  parameter_count = length entry.parameters.items;
  parameters = over no_parameters (map written_parameter entry.parameters.items);
}

-- An unused one.
abbrev pub no_submodule : Submodule
no_submodule = record { ident = 0; subslot = 0; input = 0; output = 0; parameter_count = 0; parameters = no_parameters }

-- Four unused ones.
abbrev pub no_submodules : List Submodule
no_submodules = no_submodule ∷ no_submodule ∷ no_submodule ∷ no_submodule ∷ []

-- A module as C sees it.
abbrev pub written_module : RealModule → Module
written_module entry = record {
  ident = entry.ident;
  slot = entry.slot;
  submodule_count = length entry.submodules.items;
  submodules = over no_submodules (map written_submodule entry.submodules.items);
}

-- An unused one.
abbrev pub no_module : Module
no_module = record { ident = 0; slot = 0; submodule_count = 0; submodules = no_submodules }

-- A record of the plan as C sees it.
abbrev pub written_record : PlanRecord → WrittenRecord
written_record entry = record {
  slot = entry.slot;
  subslot = entry.subslot;
  index = entry.index;
  length = length entry.«data».items;
  octets = over (replicate 64 0) entry.«data».items;
}

-- An unused one.
abbrev pub no_record : WrittenRecord
no_record = record { slot = 0; subslot = 0; index = 0; length = 0; octets = replicate 64 0 }

-- What a controller without a DCP station says of itself.
abbrev pub no_identity : WrittenIdentity
no_identity = record { vendor_id = 0; device_id = 0; station_type_length = 0; station_type = replicate 28 0 }

-- What a controller says of itself to tools, as C sees it.
abbrev pub written_identity : Option OwnIdentity → WrittenIdentity
written_identity (Some own) = record {
  vendor_id = own.vendor_id;
  device_id = own.device_id;
  station_type_length = length own.station_type;
  station_type = over (replicate 28 0) own.station_type;
}
written_identity None = no_identity

-- ---- a whole plan

-- a plan that is all zero
pub record IsBlank (written : WrittenPlan) : Type 0 where
  pub name : written.name ≡ replicate 240 0
  pub controller_name : written.controller_name ≡ replicate 240 0
  pub name_length : written.name_length ≡ 0
  pub controller_name_length : written.controller_name_length ≡ 0
  pub address : written.address ≡ replicate 4 0
  pub mask : written.mask ≡ replicate 4 0
  pub gateway : written.gateway ≡ replicate 4 0
  pub controller_address : written.controller_address ≡ replicate 4 0
  pub controller_mac : written.controller_mac ≡ replicate 6 0
  pub vendor_id : written.vendor_id ≡ 0
  pub device_id : written.device_id ≡ 0
  pub send_clock_factor : written.send_clock_factor ≡ 0
  pub reduction_ratio : written.reduction_ratio ≡ 0
  pub data_hold_factor : written.data_hold_factor ≡ 0
  pub station_type_length : written.station_type_length ≡ 0
  pub station_type : written.station_type ≡ replicate 28 0
  pub module_count : written.module_count ≡ 0
  pub record_count : written.record_count ≡ 0
  pub modules : written.modules ≡ replicate 16 no_module
  pub records : written.records ≡ replicate 32 no_record
  pub continue_on_refused_record : written.continue_on_refused_record ≡ 0
  pub multiple_write : written.multiple_write ≡ 0
  pub release_on_refused_record : written.release_on_refused_record ≡ 0
  pub patience : written.patience ≡ 0
  pub waiting_patience : written.waiting_patience ≡ 0
  pub parameters_after_plug : written.parameters_after_plug ≡ 0
  pub persistent_start : written.persistent_start ≡ 0
  pub identity : written.identity ≡ no_identity

-- the octets of a type of station: none if it has more than 28
abbrev pub type_of : List ℕ → List ℕ
type_of octets = if nat_le (length octets) 28 then octets else []

-- a plan of these parts and this type of station: each place that a list does not use is zero
pub record IsFilled (parts : Parts) (station_type : List ℕ) (written : WrittenPlan) : Type 0 where
  pub whole : parts_of written ≡ parts
  pub name : written.name ≡ over (replicate 240 0) parts.station.name
  pub controller_name : written.controller_name ≡ over (replicate 240 0) parts.controller.name
  pub name_length : written.name_length ≡ length parts.station.name
  pub controller_name_length : written.controller_name_length ≡ length parts.controller.name
  pub station_type_length : written.station_type_length ≡ min (length station_type) 4294967295
  pub octets : written.station_type ≡ over (replicate 28 0) (type_of station_type)
  pub module_count : written.module_count ≡ length parts.real.modules.items
  pub record_count : written.record_count ≡ length parts.records.items
  pub modules : written.modules ≡ over (replicate 16 no_module) (map written_module parts.real.modules.items)
  pub records : written.records ≡ over (replicate 32 no_record) (map written_record parts.records.items)
  pub continue_on_refused_record : written.continue_on_refused_record ≡ (if parts.continue_on_refused_record then 1 else 0)
  pub multiple_write : written.multiple_write ≡ (if parts.multiple_write then 1 else 0)
  pub release_on_refused_record : written.release_on_refused_record ≡ (if parts.release_on_refused_record then 1 else 0)
  pub patience : written.patience ≡ 0
  pub waiting_patience : written.waiting_patience ≡ 0
  pub parameters_after_plug : written.parameters_after_plug ≡ (if parts.parameters_after_plug then 1 else 0)
  pub persistent_start : written.persistent_start ≡ (if parts.persistent_start then 1 else 0)
  pub identity : written.identity ≡ written_identity parts.identity

-- what was written is the plan of the text's catalogue, with its type of station
pub record IsWritten (text : List ℕ) (written : WrittenPlan) : Type 0 where
  pub found : Catalogue
  pub reading : Found text found
  pub handled : Handled found (Ok (parts_of written))
  pub filled : IsFilled (parts_of written) found.access_point.station_type written
