-- The whole catalogue.
use Rattle.std.specs.Prelude.{◌≡◌, ◌⊎◌, ℕ, List, Some, Ok, Err, IsUtf8}
use Rattle.serde_json.specs.Data.{Data}
use Rattle.serde_json.specs.Read.{read}
use Rattle.catalogue.specs.declared.keys.fault.CatalogueFault.TheVariants.{Json, OutOfMemory}
use Rattle.catalogue.specs.declared.keys.fault.PlacedFault.{PlacedFault}
use Rattle.catalogue.specs.declared.keys.fault.Step.TheVariants.{At}
use Rattle.catalogue.specs.declared.keys.key.Key.TheVariants as key
use Rattle.catalogue.specs.declared.catalogue.DeviceIdentity.{DeviceIdentity}
use Rattle.catalogue.specs.keys.Placed.{behind, here}
use Rattle.catalogue.specs.keys.Reader.{◌>>=◌, Reader, member, number_at, list_at}
use Rattle.catalogue.specs.AccessPoints.{AccessPoint, access_point}
use Rattle.catalogue.specs.Modules.{Module, module_item}
use Rattle.catalogue.specs.Projects.{Project, project}

-- A catalogue: a device, the modules that it can have, and the project that is configured with it.
pub record Catalogue : Type 0 where
  pub identity : DeviceIdentity
  pub access_point : AccessPoint
  pub modules : List Module
  pub project : Project

-- VendorID and DeviceID
unfoldable pub identity : Reader DeviceIdentity
identity tree =
    number_at key.VendorId 0 65535 tree >>= λ vendor_id.
    number_at key.DeviceId 0 65535 tree >>= λ device_id.
    Ok (record { vendor_id = vendor_id; device_id = device_id })

-- the objects at their keys
unfoldable pub identity_in : Reader DeviceIdentity
identity_in tree = member key.DeviceIdentity tree >>= λ entry. behind (At key.DeviceIdentity) (identity entry)

-- The device access point of a catalogue, or the fault.
unfoldable pub access_point_in : Reader AccessPoint
access_point_in tree = member key.DeviceAccessPointItem tree >>= λ entry. behind (At key.DeviceAccessPointItem) (access_point entry)

-- The project of a catalogue, or the fault.
unfoldable pub project_in : ℕ → List Module → Reader Project
project_in least_interval modules tree = member key.Project tree >>= λ entry. behind (At key.Project) (project least_interval modules entry)

-- a catalogue, in the order of its keys
unfoldable pub catalogue : Reader Catalogue
catalogue tree =
    identity_in tree >>= λ identity.
    access_point_in tree >>= λ access_point.
    list_at key.ModuleItem module_item tree >>= λ modules.
    project_in access_point.least_interval modules tree >>= λ project.
    Ok (record { identity = identity; access_point = access_point; modules = modules; project = project })

-- a text is JSON, and this tree is its value
abbrev pub IsReading : List ℕ → Data → Type 0
IsReading text tree = IsUtf8 text × (read text ≡ Some tree)

-- a text is JSON, and its value is this catalogue
abbrev pub Found : List ℕ → Catalogue → Type 0
Found text found = (tree : Data) × IsReading text tree × (catalogue tree ≡ Ok found)

-- there was not enough memory; or the text is not JSON, and only then is the fault Json; or it is JSON, and its value has this first fault at
-- this place
abbrev pub Refuses : List ℕ → PlacedFault → Type 0
Refuses text found =
    (found.fault ≡ OutOfMemory)
    ⊎ (((found ≡ here Json) × ((tree : Data) → ¬ IsReading text tree))
    ⊎ ((tree : Data) × IsReading text tree × (catalogue tree ≡ Err found)))
