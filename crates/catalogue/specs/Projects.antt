-- The project: what a controller wants of a station.
use Rattle.std.specs.Prelude.{◌*◌, ℕ, Bool, List, Option, Some, None, Result, Ok, Err, nat_lt, if◌then◌else◌}
use Rattle.serde_json.specs.Data.{Data}
use Rattle.serde_json.specs.Find.{get}
use Rattle.plans.specs.Identity.{OwnIdentity, is_station_type}
use Rattle.catalogue.specs.declared.keys.fault.PlacedFault.{PlacedFault}
use Rattle.catalogue.specs.declared.keys.fault.CatalogueFault.TheVariants.{Number}
use Rattle.catalogue.specs.declared.keys.fault.Step.TheVariants.{At}
use Rattle.catalogue.specs.declared.keys.key.Key.TheVariants as key
use Rattle.catalogue.specs.keys.Keys.{name_of}
use Rattle.catalogue.specs.keys.Placed.{at_key, behind}
use Rattle.catalogue.specs.keys.Reader.{◌>>=◌, Reader, member, flag_at, number_at, text_at, list_at}
use Rattle.catalogue.specs.Modules.{Module}
use Rattle.catalogue.specs.Slots.{Slot, slot_item}

-- The station's name and IP suite, as the catalogue's texts.
pub record Station : Type 0 where
  pub name : List ℕ
  pub address : List ℕ
  pub mask : List ℕ
  pub gateway : List ℕ

-- The controller, as the catalogue's texts, and what it says of itself to tools.
pub record Controller : Type 0 where
  pub name : List ℕ
  pub mac : List ℕ
  pub address : List ℕ
  pub identity : Option OwnIdentity

-- A project.
pub record Project : Type 0 where
  pub station : Station
  pub controller : Controller
  pub send_clock_factor : ℕ
  pub reduction_ratio : ℕ
  pub data_hold_factor : ℕ
  pub slots : List Slot
  pub continue_on_refused_record : Bool
  pub release_on_refused_record : Bool
  pub parameters_after_plug : Bool
  pub persistent_start : Bool

-- the station's name and IP suite
unfoldable pub station : Reader Station
station tree =
    text_at key.NameOfStation tree >>= λ name.
    text_at key.IpAddress tree >>= λ address.
    text_at key.SubnetMask tree >>= λ mask.
    text_at key.Gateway tree >>= λ gateway.
    Ok (record { name = name; address = address; mask = mask; gateway = gateway })

-- VendorID, DeviceID and a type of station, if that is one
abbrev pub told_as : ℕ → ℕ → List ℕ → Result OwnIdentity PlacedFault
told_as vendor_id device_id station_type =
    if is_station_type station_type
    then Ok (record { vendor_id = vendor_id; device_id = device_id; station_type = station_type })
    else Err (at_key key.StationType Number)

-- the type of station that makes an identity with these numbers
unfoldable pub typed : ℕ → ℕ → Reader OwnIdentity
typed vendor_id device_id tree = text_at key.StationType tree >>= told_as vendor_id device_id

-- what the controller says of itself to tools
unfoldable pub told : Reader OwnIdentity
told tree =
    number_at key.VendorId 0 65535 tree >>= λ vendor_id.
    number_at key.DeviceId 0 65535 tree >>= λ device_id.
    typed vendor_id device_id tree

-- what is said in the object that is at a key, if one is
abbrev pub told_within : Option Data → Result (Option OwnIdentity) PlacedFault
told_within None = Ok None
told_within (Some entry) = behind (At key.Identity) (told entry) >>= λ own. Ok (Some own)

-- what the controller says of itself to tools, if it says anything
unfoldable pub told_in : Reader (Option OwnIdentity)
told_in tree = told_within (get (name_of key.Identity) tree)

-- the controller
unfoldable pub controller : Reader Controller
controller tree =
    text_at key.NameOfStation tree >>= λ name.
    text_at key.Mac tree >>= λ mac.
    text_at key.IpAddress tree >>= λ address.
    told_in tree >>= λ identity.
    Ok (record { name = name; mac = mac; address = address; identity = identity })

-- the controller of a project
unfoldable pub controller_in : Reader Controller
controller_in tree = member key.Controller tree >>= λ entry. behind (At key.Controller) (controller entry)

-- a ReductionRatio, if its interval is not shorter than the device's shortest
abbrev pub kept_by : ℕ → ℕ → ℕ → Result ℕ PlacedFault
kept_by send_clock least_interval ratio = if nat_lt (send_clock * ratio) least_interval then Err (at_key key.ReductionRatio Number) else Ok ratio

-- the ReductionRatio
unfoldable pub reduction : ℕ → ℕ → Reader ℕ
reduction send_clock least_interval tree = number_at key.ReductionRatio 1 512 tree >>= kept_by send_clock least_interval

-- a project, of a device with this shortest interval and these modules
unfoldable pub project : ℕ → List Module → Reader Project
project least_interval modules tree =
    station tree >>= λ station.
    controller_in tree >>= λ controller.
    number_at key.SendClockFactor 1 128 tree >>= λ send_clock_factor.
    reduction send_clock_factor least_interval tree >>= λ reduction_ratio.
    number_at key.DataHoldFactor 1 7680 tree >>= λ data_hold_factor.
    list_at key.Slots (λ _ entry. slot_item modules entry) tree >>= λ slots.
    flag_at key.ContinueOnRefusedRecord tree >>= λ continue_on_refused_record.
    flag_at key.ReleaseOnRefusedRecord tree >>= λ release_on_refused_record.
    flag_at key.ParametersAfterPlug tree >>= λ parameters_after_plug.
    flag_at key.PersistentStart tree >>= λ persistent_start.
    Ok (record {
      station = station;
      controller = controller;
      send_clock_factor = send_clock_factor;
      reduction_ratio = reduction_ratio;
      data_hold_factor = data_hold_factor;
      slots = slots;
      continue_on_refused_record = continue_on_refused_record;
      release_on_refused_record = release_on_refused_record;
      parameters_after_plug = parameters_after_plug;
      persistent_start = persistent_start;
    })
