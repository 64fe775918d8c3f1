-- The FrameIDs of cyclic frames and of alarms.
use Rattle.std.specs.Prelude.{◌==◌, ◌&&◌, ◌||◌, ℕ, Bool, nat_le}

-- a FrameID of a cyclic frame: class 2, 0x8000 to 0xBBFF, or class 1, 0xC000 to 0xF7FF (IEC 61158-6-10, 4.7)
abbrev pub is_cyclic : ℕ → Bool
is_cyclic frame_id = (nat_le 0x8000 frame_id && nat_le frame_id 0xBBFF) || (nat_le 0xC000 frame_id && nat_le frame_id 0xF7FF)

-- a FrameID of an alarm, of high or low priority (IEC 61158-6-10, 4.7)
abbrev pub is_alarm : ℕ → Bool
is_alarm frame_id = frame_id == 0xFC01 || frame_id == 0xFE01
