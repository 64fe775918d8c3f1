-- The device access point: what the device is, and which modules may be in which slots.
use Rattle.std.specs.Prelude.{ℕ, Bool, List, [], Result, Ok}
use Rattle.serde_json.specs.Data.{Items}
use Rattle.catalogue.specs.declared.keys.fault.PlacedFault.{PlacedFault}
use Rattle.catalogue.specs.declared.keys.fault.Step.TheVariants.{At}
use Rattle.catalogue.specs.declared.keys.key.Key.{Key}
use Rattle.catalogue.specs.declared.keys.key.Key.TheVariants as key
use Rattle.catalogue.specs.keys.Placed.{bare, behind}
use Rattle.catalogue.specs.keys.Reader.{◌>>=◌, Reader, each, flag_at, items_of, whole, number, number_at, text_at, list_at}
use Rattle.catalogue.specs.Submodules.{Submodule, submodule}

-- The slots in which a module may be.
pub record Reference : Type 0 where
  pub target : List ℕ
  pub allowed_in : List ℕ
  pub fixed_in : List ℕ

-- The device access point: the module in slot 0, and what the device is.
pub record AccessPoint : Type 0 where
  pub ident : ℕ
  pub physical_slots : List ℕ
  pub station_type : List ℕ
  pub least_interval : ℕ
  pub submodules : List Submodule
  pub references : List Reference
  pub multiple_write : Bool

-- slot numbers: an entry that is not a whole number is reported before one that is out of its range
abbrev pub slots_in : Items → Result (List ℕ) PlacedFault
slots_in trees = each (λ _ tree. bare (whole tree)) [] trees >>= λ _. each (λ _ tree. bare (number 0 32767 tree)) [] trees

-- the slot numbers at a key
unfoldable pub slots_at : Key → Reader (List ℕ)
slots_at key tree = items_of key tree >>= λ trees. behind (At key) (slots_in trees)

-- the slots in which a module may be
unfoldable pub reference : Reader Reference
reference tree =
    text_at key.ModuleItemTarget tree >>= λ target.
    list_at key.AllowedInSlots (λ _ entry. bare (whole entry)) tree >>= λ allowed_in.
    list_at key.FixedInSlots (λ _ entry. bare (whole entry)) tree >>= λ fixed_in.
    Ok (record { target = target; allowed_in = allowed_in; fixed_in = fixed_in })

-- a device access point
unfoldable pub access_point : Reader AccessPoint
access_point tree =
    number_at key.ModuleIdentNumber 1 4294967295 tree >>= λ ident.
    slots_at key.PhysicalSlots tree >>= λ physical_slots.
    text_at key.StationType tree >>= λ station_type.
    number_at key.MinDeviceInterval 1 65536 tree >>= λ least_interval.
    list_at key.VirtualSubmoduleItem submodule tree >>= λ submodules.
    list_at key.ModuleItemRef (λ _ entry. reference entry) tree >>= λ references.
    flag_at key.MultipleWriteSupported tree >>= λ multiple_write.
    Ok (record {
      ident = ident;
      physical_slots = physical_slots;
      station_type = station_type;
      least_interval = least_interval;
      submodules = submodules;
      references = references;
      multiple_write = multiple_write;
    })
