-- The numbers that a device gives itself in a relation: the FrameID of outputs, where its Connect leaves the choice to the device, and
-- the endpoint of its alarms. By the options they are always the first ones, or those of a number that goes round from relation to
-- relation, so that no late frame of an earlier relation is one of the next.
use Rattle.std.specs.Prelude.{◌≡◌, ◌+◌, ◌%◌, ◌==◌, ◌<◌, ◌&&◌, nat_le, ℕ, suc, Bool, Option, Some, None, if◌then◌else◌}
use Rattle.connects.specs.declared.requests.parts.Iocr.{Iocr}
use Rattle.connects.specs.requests.Request.{chosen_id}
use Rattle.relations.specs.declared.options.DeviceOptions.{DeviceOptions}

-- The number of a relation, below 14,336: 0, or by how many relations the device had before it, counted from this one.
abbrev pub number_of : Option ℕ → ℕ → ℕ
number_of None made = 0
number_of (Some first) made = (first + made) % 14336

-- How many relations a device had, after one more: modulo 14,336.
abbrev pub made_after : ℕ → ℕ
made_after made = suc made % 14336

-- The FrameID of outputs: that which is asked for, or the one of this number in its class (0xC000 to 0xF7FF, 0x8000 to 0xB7FF).
abbrev pub output_id : ℕ → Iocr → ℕ
output_id number iocr = if iocr.device_chooses then chosen_id iocr.class + number else iocr.frame_id

-- A number that a device with these options may give a relation.
pub record IsNumber (options : DeviceOptions) (number : ℕ) : Type 0 where
  pub few : number < 14336
  pub fixed : options.numbers_from ≡ None → number ≡ 0

-- Whether this is a FrameID of outputs that a device with these options chooses in class 1: 0xC000, or any of 0xC000 to 0xF7FF if its
-- numbers go round.
abbrev pub is_id_from : Option ℕ → ℕ → Bool
is_id_from None frame_id = frame_id == 0xC000
is_id_from (Some first) frame_id = nat_le 0xC000 frame_id && nat_le frame_id 0xF7FF

-- Whether a FrameID is one that this device chooses.
abbrev pub is_own_id : DeviceOptions → ℕ → Bool
is_own_id options frame_id = is_id_from options.numbers_from frame_id

-- The endpoint of the alarms of the device: its LocalAlarmReference, 1 to 14,336.
abbrev pub endpoint_of : ℕ → ℕ
endpoint_of number = suc number
