-- The cyclic frames of a device: which one it accepts, what it shows then, and what it sends.
use Rattle.std.specs.Prelude.{◌≡◌, ◌+◌, ◌%◌, ℕ, Bool, true, List, Some, min}
use Rattle.relations.specs.declared.phase.Phase.TheVariants.{Exchanging}
use Rattle.relations.specs.RelationState.{RelationState}
use Rattle.device_frames.specs.declared.event.Event.{Event}
use Rattle.device_frames.specs.declared.event.Event.TheVariants.{Application, Frame, Tick}
use Rattle.device_frames.specs.declared.local.Local.TheVariants.{ProviderState}
use Rattle.device_core.specs.State.{Live, Station}
use Rattle.field_words.specs.Cyclic.{Consumer, IsAcceptable, Provider}
use Rattle.end_laws.specs.cyclic.Ends.{accepted_by, consumer_of}

-- What a device knows of the frames of outputs in its relation.
abbrev pub consumer_at : Station → RelationState → Consumer
consumer_at station link = consumer_of station.identity.mac.octets link.flow.cyclic

-- An event that is no acceptable frame.
abbrev pub IsNoAcceptable : Station → RelationState → Event → Type 0
IsNoAcceptable station link (Frame frame) = IsAcceptable (consumer_at station link) frame.items → ⊥
IsNoAcceptable station link event = Unit {0}

-- A relation after it accepted a frame: its cyclic data is that of the frame, and all else is as before.
abbrev pub accepted_at : List ℕ → RelationState → RelationState
accepted_at frame link = record link { flow = record link.flow { cyclic = accepted_by frame link.flow.cyclic } }

-- A device with this relation.
abbrev pub linked : RelationState → Live → Live
linked link live = record live { rest = record live.rest { link = Some link } }

-- Data is exchanged.
abbrev pub IsExchanging : RelationState → Type 0
IsExchanging link = (link.phase ≡ Exchanging) × (link.flow.cyclic.begun ≡ true)

-- The units since the last accepted frame, after an event that is no acceptable frame: a unit is counted, up to the data hold time.
abbrev pub held_then : Event → ℕ → ℕ → ℕ
held_then Tick limit held = min limit (held + 1)
held_then event limit held = held

-- Whether the application of the device runs, after an event: as it says with it, or as before.
abbrev pub running_after : Event → Bool → Bool
running_after (Application (ProviderState is_running)) was = is_running
running_after event was = was

-- What a device says with its frames of inputs: whether its application runs, and whether a submodule of the relation has a diagnosis.
abbrev pub provider_at : Station → RelationState → Provider
provider_at station link = record {
  own = station.identity.mac.octets;
  partner = link.flow.cyclic.route.partner.octets;
  frame_id = link.flow.cyclic.route.sent_id;
  size = link.flow.cyclic.shown.data_length;
  runs = link.flow.is_running;
  has_problem = link.flow.low.has_problem;
}

-- CycleCounter of a frame that is sent with a unit: the units since the start of the device, modulo 65,536 (IEC 61158-6-10, 4.7.2.1.2).
abbrev pub cycle_at : Live → ℕ
cycle_at live = (live.rest.units + 1) % 65536
