-- The frames of cyclic data and of alarms, at both ends.
use Rattle.std.specs.Prelude.{ℕ, List, [], Some, None}
use Rattle.pn_values.specs.declared.mac.Mac.{Mac}
use Rattle.frame_codec.specs.Meaning.{Content, RealTime}
use Rattle.frame_codec.specs.Frame.{frame_bytes}
use Rattle.cyclic_data.specs.declared.status.StationState.{StationState}
use Rattle.cyclic_data.specs.Status.{data_status_of, in_order}
use Rattle.cyclic_data.specs.declared.tail.CyclicTail.{CyclicTail}
use Rattle.cyclic_data.specs.Image.{Shown, octets_of}
use Rattle.cyclic_data.specs.Tail.{cyclic_bytes}
use Rattle.cyclic_data.specs.declared.exchange.route.Route.{Route}

-- A frame from one station to another without a tag, and one with a tag.
abbrev pub plain_frame : Mac → Mac → Content → List ℕ
plain_frame source destination content = frame_bytes (record { destination = destination; source = source; tag = None; content = content })

-- The octets of a frame with a VLAN tag.
abbrev pub tagged_frame : Mac → Mac → ℕ → Content → List ℕ
tagged_frame source destination tag content =
    frame_bytes (record { destination = destination; source = source; tag = Some tag; content = content })

-- The fields after the data, of a provider in this state: its DataStatus, and TransferStatus 0.
abbrev pub tail_at : StationState → ℕ → CyclicTail
tail_at state counter = record {
  counter = counter;
  data_status = record { 0 = data_status_of state };
  transfer_status = 0;
}

-- The tail of a cyclic frame with this CycleCounter, with DataStatus 0x35: run, valid, primary, no problem.
abbrev pub running_at : ℕ → CyclicTail
running_at counter = tail_at in_order counter

-- The octets that follow the FrameID of a cyclic frame at this CycleCounter.
abbrev pub body_at : StationState → Shown → ℕ → List ℕ
body_at state shown counter = cyclic_bytes (octets_of shown) (tail_at state counter) []

-- A cyclic frame from this station to its partner.
abbrev pub frame_at : Mac → Route → StationState → Shown → ℕ → List ℕ
frame_at source route state shown counter =
    tagged_frame source route.partner route.sent_tag (RealTime route.sent_id (body_at state shown counter))

-- The octets after the FrameID of a cyclic frame of a station that runs and has no problem.
abbrev pub cyclic_body : Shown → ℕ → List ℕ
cyclic_body shown counter = body_at in_order shown counter

-- The octets of a cyclic frame of an end that runs and has no problem.
abbrev pub cyclic_frame : Mac → Route → Shown → ℕ → List ℕ
cyclic_frame source route shown counter = frame_at source route in_order shown counter
