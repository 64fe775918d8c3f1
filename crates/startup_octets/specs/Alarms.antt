-- The process alarms of a device and its controller, read from the octets of frames (IEC 61158-6-10, 4.8 and 5.2.5). Each frame
-- is read at fixed places, without its VLAN tag.
use Rattle.std.specs.Prelude.{◌≡◌, ◌≤◌, ◌+◌, ◌-◌, ◌==◌, ◌&&◌, ◌++◌, ℕ, Bool, List, [], ◌∷◌, length, map, flat_map, if◌then◌else◌, Option, Some, None}
use Rattle.std.specs.List.{list_any}
use Rattle.record_blocks.specs.declared.alarm_notification.AlarmNotification.{AlarmNotification}
use Rattle.diagnosis.specs.World.{IsPrefixOf}
use Rattle.device_frames.specs.declared.local.Local.TheVariants as local
use Rattle.network_world.specs.declared.moves.End.TheVariants.{Controller}
use Rattle.network_world.specs.declared.moves.Move.{Move}
use Rattle.network_world.specs.declared.moves.Move.TheVariants as move
use Rattle.octets_law.specs.Octets.{number, part, untagged}
use Rattle.startup_octets.specs.Log.{Entry}

-- Whether a frame is data of high priority with a block of this type: EtherType 12, FrameID 14, PDUType 20, BlockType 28.
abbrev pub carries : ℕ → List ℕ → Bool
carries type frame = number 12 2 frame == 0x8892 && (number 14 2 frame == 0xFC01 && (number 20 1 frame == 0x11 && number 28 2 frame == type))

-- Whether one of these frames is.
abbrev pub any_carries : ℕ → List (List ℕ) → Bool
any_carries type frames = list_any (λ frame. carries type (untagged frame)) frames

-- The alarm in a frame: BlockLength 30, AlarmType 34, API 36, slot 40, subslot 42, ModuleIdentNumber 44, SubmoduleIdentNumber 48,
-- AlarmSpecifier 52, and the data after the UserStructureIdentifier, from 56 on.
abbrev pub alarm_in : List ℕ → AlarmNotification
alarm_in frame = record {
  alarm_type = number 34 2 frame;
  api = number 36 4 frame;
  slot_number = number 40 2 frame;
  subslot_number = number 42 2 frame;
  module_ident_number = number 44 4 frame;
  submodule_ident_number = number 48 4 frame;
  alarm_specifier = number 52 2 frame;
  alarm_data = part 56 (number 30 2 frame - 24) frame;
}

-- ---- what the ends did

-- What an application raises: an alarm of this type and API, of the submodule in this slot and subslot, with these octets.
pub record Raise : Type 0 where
  pub alarm_type : ℕ
  pub api : ℕ
  pub slot : ℕ
  pub subslot : ℕ
  pub octets : List ℕ

-- What the application of the device raised, by the AlarmNotification that the device made of it.
abbrev pub raise_of : AlarmNotification → Raise
raise_of alarm = record {
  alarm_type = alarm.alarm_type;
  api = alarm.api;
  slot = alarm.slot_number;
  subslot = alarm.subslot_number;
  octets = alarm.alarm_data;
}

-- The application of the device raised a process alarm (AlarmType 2, API 0), and the device sent an alarm (block type 0x0001).
abbrev pub raised_by : Option Move → List (List ℕ) → List Raise
raised_by (Some (move.Application (local.Alarm slot subslot octets))) sent =
    if any_carries 0x0001 sent then record { alarm_type = 2; api = 0; slot = slot; subslot = subslot; octets = octets.items } ∷ [] else []
raised_by _ sent = []

-- A frame came to the controller, which sent an AlarmAck (block type 0x8001): it accepted the alarm in that frame.
abbrev pub accepted_by : Option Move → List ℕ → List (List ℕ) → List AlarmNotification
accepted_by (Some (move.Deliver Controller number)) came sent = if any_carries 0x8001 sent then alarm_in (untagged came) ∷ [] else []
accepted_by _ came sent = []

-- All of them, in order.
abbrev pub raises_in : List Entry → List Raise
raises_in entries = flat_map (λ (entry : Entry). raised_by entry.said entry.turn.sent) entries

-- The alarms that the controller accepted in these turns, in order.
abbrev pub acceptances_in : List Entry → List AlarmNotification
acceptances_in entries = flat_map (λ (entry : Entry). accepted_by entry.said entry.turn.came entry.turn.sent) entries

-- ---- the law

-- The last element of a list.
abbrev pub last_in : {A : Type 0} → List A → Option A
last_in [] = None
last_in (one ∷ []) = Some one
last_in (one ∷ next ∷ others) = last_in (next ∷ others)

-- If at most 32,768 alarms are raised, the accepted ones are a prefix of these: in order, each once, with their octets; and at most
-- the last one is missing. After each entry the controller shows the alarm that it accepted last.
pub record AreAlarmsTaken (entries : List Entry) : Type 0 where
  pub front : length (raises_in entries) ≤ 32768 → IsPrefixOf (map raise_of (acceptances_in entries)) (raises_in entries)
  pub last : length (raises_in entries) ≤ 32768 → length (raises_in entries) ≤ length (acceptances_in entries) + 1
  pub shown : (before after : List Entry) (entry : Entry) → entries ≡ before ++ entry ∷ after
      → entry.alarm ≡ last_in (acceptances_in (before ++ entry ∷ []))
