-- The plan of a catalogue, and of a text.
use Rattle.std.specs.Prelude.{◌≡◌, ◌⊎◌, ℕ, List, map, true, false, Result, Ok, Err}
use Rattle.std.specs.List.{flat_map}
use Rattle.plans.specs.declared.parts.Parts.{Parts}
use Rattle.plans.specs.declared.parts.PlanRecord.{PlanRecord}
use Rattle.plans.specs.declared.plan.TooLong.TheVariants as long
use Rattle.plans.specs.Plan.{plan_of}
use Rattle.catalogue.specs.declared.keys.fault.PlacedFault.{PlacedFault}
use Rattle.catalogue.specs.Slots.{Record, Slot}
use Rattle.catalogue.specs.Catalogues.{Catalogue, Found, Refuses}
use Rattle.configurator.specs.declared.addresses.Addresses.{Addresses}
use Rattle.configurator.specs.declared.fault.PlanFault.{PlanFault}
use Rattle.configurator.specs.declared.fault.PlanFault.TheVariants.{NotAllowedInSlot, TooManySlots, FrameTooLong, ConnectTooLong, Name, Address, OutOfMemory}
use Rattle.configurator.specs.declared.place.Refusal.{Refusal}
use Rattle.configurator.specs.Fault.{of_catalogue}
use Rattle.configurator.specs.Places.{place_of}
use Rattle.configurator.specs.Addresses.{AreAddresses, AreNamed}
use Rattle.configurator.specs.Allowed.{are_allowed}
use Rattle.configurator.specs.Few.{are_few}
use Rattle.configurator.specs.Standing.{plugged}

-- a record that is written to a slot
abbrev pub record_at : ℕ → Record → PlanRecord
record_at slot item = record { slot = slot; subslot = item.subslot; index = item.index; «data» = record { items = item.octets } }

-- all records, in the order of the text
abbrev pub records_of : List Slot → List PlanRecord
records_of slots = flat_map (λ entry. map (record_at entry.slot) entry.records) slots

-- the parts of which a plan is made
abbrev pub parts_of : Catalogue → Addresses → Parts
parts_of found addresses = record {
  station = record {
    name = found.project.station.name;
    suite = addresses.suite;
    vendor_id = found.identity.vendor_id;
    device_id = found.identity.device_id;
  };
  controller = record { name = found.project.controller.name; mac = addresses.mac; address = addresses.address };
  times = record {
    send_clock_factor = found.project.send_clock_factor;
    reduction_ratio = found.project.reduction_ratio;
    data_hold_factor = found.project.data_hold_factor;
  };
  real = record { modules = record { items = plugged found } };
  records = record { items = records_of found.project.slots };
  continue_on_refused_record = found.project.continue_on_refused_record;
  release_on_refused_record = found.project.release_on_refused_record;
  multiple_write = found.access_point.multiple_write;
  parameters_after_plug = found.project.parameters_after_plug;
  persistent_start = found.project.persistent_start;
  identity = found.project.controller.identity;
}

-- ---- the whole catalogue

-- names and addresses are valid
pub record IsAddressed (found : Catalogue) : Type 0 where
  pub named : AreNamed found.project
  pub addresses : Addresses
  pub addressed : AreAddresses found.project addresses

-- the parts are those of a catalogue whose names and addresses are valid, whose modules may be in their slots, and which is within the limits
pub record ArePartsOf (found : Catalogue) (parts : Parts) : Type 0 where
  pub addressed : IsAddressed found
  pub allowed : are_allowed found ≡ true
  pub few : are_few found ≡ true
  pub made : parts ≡ parts_of found addressed.addresses

-- the plan of a catalogue, or its first fault: an invalid name, an invalid address, a module that is not allowed in its slot, too many slots,
-- submodules or records, a frame or the Connect too long; or there was not enough memory
abbrev pub Handled : Catalogue → Result Parts PlanFault → Type 0
Handled found (Ok parts) = ArePartsOf found parts × (plan_of parts ≡ Ok parts)
Handled found (Err Name) = ¬ AreNamed found.project
Handled found (Err Address) = AreNamed found.project × ((addresses : Addresses) → ¬ AreAddresses found.project addresses)
Handled found (Err NotAllowedInSlot) = IsAddressed found × (are_allowed found ≡ false)
Handled found (Err TooManySlots) = IsAddressed found × (are_allowed found ≡ true) × (are_few found ≡ false)
Handled found (Err FrameTooLong) = (parts : Parts) × ArePartsOf found parts × (plan_of parts ≡ Err long.Frame)
Handled found (Err ConnectTooLong) = (parts : Parts) × ArePartsOf found parts × (plan_of parts ≡ Err long.Connect)
Handled found (Err OutOfMemory) = Unit {0}
Handled found (Err fault) = ⊥

-- a text is a catalogue with this plan
abbrev pub IsPlanOf : List ℕ → Parts → Type 0
IsPlanOf text parts = (found : Catalogue) × Found text found × Handled found (Ok parts)

-- a text is refused while it is read; or it is a catalogue, and this is the first fault of the whole
abbrev pub IsRefused : List ℕ → PlanFault → Type 0
IsRefused text fault =
    ((found : PlacedFault) × Refuses text found × (fault ≡ of_catalogue found.fault))
    ⊎ ((found : Catalogue) × Found text found × Handled found (Err fault))

-- the same, with the place of the fault
abbrev pub IsRefusedAt : List ℕ → Refusal → Type 0
IsRefusedAt text refusal =
    ((found : PlacedFault) × Refuses text found × (refusal.fault ≡ of_catalogue found.fault) × (refusal.place ≡ found.place))
    ⊎ ((found : Catalogue) × Found text found × Handled found (Err refusal.fault) × (refusal.place.items ≡ place_of found refusal.fault))
