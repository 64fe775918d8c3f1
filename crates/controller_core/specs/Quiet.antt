-- Events that send nothing.
use Rattle.std.specs.Prelude.{◌≡◌, ℕ, true, List, [], Ok}
use Rattle.frame_codec.specs.Frame.{frame_of}
use Rattle.frame_codec.specs.FrameId.{is_cyclic}
use Rattle.frame_codec.specs.Meaning.{Meaning, RealTime}
use Rattle.controller_core.specs.declared.stored.event.Event.{Event}
use Rattle.controller_core.specs.Machine.{Stepped, step_of}
use Rattle.controller_core.specs.stored.State.{Controlling}

-- A step that ends in this controller, and sends nothing.
abbrev pub silently : Controlling → Stepped
silently controller = record { controller = controller; frames = [] }

-- The step of this event is one.
abbrev pub IsSilentStep : Controlling → Event → Controlling → Type 0
IsSilentStep old event new = step_of old event ≡ silently new

-- These octets are a cyclic frame of EtherType 0x8892.
pub record IsRealTime (octets : List ℕ) : Type 0 where
  pub meaning : Meaning
  pub frame_id : ℕ
  pub body : List ℕ
  pub read : frame_of octets ≡ Ok meaning
  pub content : meaning.content ≡ RealTime frame_id body
  pub cyclic : is_cyclic frame_id ≡ true
