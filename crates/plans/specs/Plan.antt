-- The plan of a station.
use Rattle.std.specs.Prelude.{◌≡◌, ◌≤◌, ◌&&◌, Bool, true, not, List, length, nat_le, Option, Some, None, Result, Ok, Err, if◌then◌else◌}
use Rattle.std.specs.List.{AllByRecursion}
use Rattle.connect_blocks.specs.declared.iocr.IocrType.TheVariants.{Input, Output}
use Rattle.plans.specs.declared.parts.Parts.{Parts}
use Rattle.plans.specs.declared.parts.PlanRecord.{PlanRecord}
use Rattle.plans.specs.declared.plan.TooLong.{TooLong}
use Rattle.plans.specs.declared.plan.TooLong.TheVariants.{Frame, Connect}
use Rattle.plans.specs.Packed.{frame_octets}
use Rattle.plans.specs.Parts.{AreParts, data_of}
use Rattle.plans.specs.Connect.{does_connect_fit}

-- the data of the frames of each direction has at most 1,440 octets
abbrev pub do_frames_fit : Parts → Bool
do_frames_fit parts =
    nat_le (frame_octets Input (data_of parts.real.modules.items)) 1440 && nat_le (frame_octets Output (data_of parts.real.modules.items)) 1440

-- each record has at most 64 octets
abbrev pub AreShort : List PlanRecord → Type 0
AreShort records = AllByRecursion (λ entry. length entry.data.items ≤ 64) records

-- a plan: each part is in its range, there are at most 16 modules with 64 submodules and at most 32 records, and neither the frames nor the
-- Connect are too long
pub record IsPlan (parts : Parts) : Type 0 where
  pub good : AreParts parts
  pub few_modules : length parts.real.modules.items ≤ 16
  pub few_submodules : length (data_of parts.real.modules.items) ≤ 64
  pub few_records : length parts.records.items ≤ 32
  pub short_records : AreShort parts.records.items
  pub input : frame_octets Input (data_of parts.real.modules.items) ≤ 1440
  pub output : frame_octets Output (data_of parts.real.modules.items) ≤ 1440
  pub connect : does_connect_fit parts ≡ true

-- the plan of parts, or what is too long: Frame is checked before Connect
abbrev pub plan_of : Parts → Result Parts TooLong
plan_of parts =
    if not (do_frames_fit parts) then Err Frame
    else if not (does_connect_fit parts) then Err Connect
    else Ok parts

-- what is too long, if there is no plan
abbrev pub long_of : {T : Type 0} → Result T TooLong → Option TooLong
long_of (Ok plan) = None
long_of (Err fault) = Some fault
