-- The cyclic frames of a controller: which one it accepts, what it shows then, and what it sends.
use Rattle.std.specs.Prelude.{◌≡◌, ◌<◌, ◌≤◌, ◌+◌, ◌%◌, ℕ, true, false, List, length}
use Rattle.controller_core.specs.declared.stored.event.Event.{Event}
use Rattle.controller_core.specs.declared.stored.event.Event.TheVariants.{Frame}
use Rattle.controller_core.specs.stored.State.{Controlling}
use Rattle.field_words.specs.Cyclic.{Consumer, IsAcceptable, Provider}
use Rattle.end_laws.specs.cyclic.Ends.{accepted_by, consumer_of}

-- What a controller knows of the frames of inputs in its relation.
abbrev pub consumer_in : Controlling → Consumer
consumer_in controlling = consumer_of controlling.setup.plan.controller.mac.octets controlling.live.cyclic

-- An event that is no acceptable frame.
abbrev pub IsNoneFor : Controlling → Event → Type 0
IsNoneFor controlling (Frame frame) = IsAcceptable (consumer_in controlling) frame.items → ⊥
IsNoneFor controlling event = Unit {0}

-- A controller after it accepted a frame: its cyclic data is that of the frame, and all else is as before.
abbrev pub accepted_in : List ℕ → Controlling → Controlling
accepted_in frame controlling = record controlling { live = record controlling.live { cyclic = accepted_by frame controlling.live.cyclic } }

-- The addresses, the FrameID and the tag of its frames have their sizes, and the data fits a frame.
pub record IsSized (controlling : Controlling) : Type 0 where
  pub own : length controlling.setup.plan.controller.mac.octets ≡ 6
  pub device : length controlling.live.device.octets ≡ 6
  pub partner : length controlling.live.cyclic.route.partner.octets ≡ 6
  pub sent_id : controlling.live.cyclic.route.sent_id < 65536
  pub sent_tag : controlling.live.cyclic.route.sent_tag < 65536
  pub few : controlling.live.cyclic.shown.data_length ≤ 1440

-- What a controller says with its frames of outputs: it runs, and has no problem.
abbrev pub provider_in : Controlling → Provider
provider_in controlling = record {
  own = controlling.setup.plan.controller.mac.octets;
  partner = controlling.live.cyclic.route.partner.octets;
  frame_id = controlling.live.cyclic.route.sent_id;
  size = controlling.live.cyclic.shown.data_length;
  runs = true;
  has_problem = false;
}

-- CycleCounter of a frame that is sent with a unit: the units since the controller was made, modulo 65,536 (IEC 61158-6-10, 4.7.2.1.2).
abbrev pub cycle_in : Controlling → ℕ
cycle_in controlling = (controlling.live.units + 1) % 65536
