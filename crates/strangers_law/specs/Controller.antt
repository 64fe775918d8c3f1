-- A controller and the frames of strangers.
use Rattle.std.specs.Prelude.{◌≡◌, ◌⊎◌, ◌==◌, ◌&&◌, ◌||◌, ℕ, Bool, false, List, [], ◌∷◌, ◌++◌, take, drop}
use Rattle.plans.specs.Numbers.{alarm_endpoint}
use Rattle.controller_core.specs.declared.stored.event.Event.{Event}
use Rattle.controller_core.specs.declared.stored.event.Event.TheVariants.{Frame}
use Rattle.controller_core.specs.declared.stored.state.State.{State}
use Rattle.controller_core.specs.declared.stored.state.State.TheVariants.{Looking, Addressing}
use Rattle.controller_core.specs.stored.State.{Controlling}
use Rattle.controller_core.specs.Machine.{step_of}
use Rattle.octets_law.specs.Octets.{activity_of, number, untagged}
use Rattle.strangers_law.specs.Strange.{Marks, is_alarm_of, is_call_of, is_cyclic_of, is_datagram, same}

-- By what its relation is known in frames to a controller.
abbrev pub marks_at : Controlling → Marks
marks_at controlling =
    let route = controlling.live.cyclic.route in
    record {
      uuid = controlling.setup.ar;
      provider = route.partner.octets;
      frame_id = route.taken_id;
      notifier = route.partner.octets;
      their_endpoint = route.reference;
      own_endpoint = alarm_endpoint;
    }

-- A DCP answer that a controller waits for (IEC 61158-6-10, 4.3): FrameID 14, ServiceID 16, Xid 18. While it looks for its station that is
-- the answer to an Identify with Xid 1, and while it sets the address the answer to a Set with Xid 2.
abbrev pub is_dcp_answer : ℕ → ℕ → ℕ → List ℕ → Bool
is_dcp_answer id service xid frame = number 12 2 frame == 0x8892 && number 14 2 frame == id && number 16 1 frame == service && number 18 4 frame == xid

-- Whether a frame is the answer of DCP that a controller waits for in its state: to Identify, or to the Set of the address.
abbrev pub is_awaited : State → List ℕ → Bool
is_awaited Looking frame = is_dcp_answer 0xFEFF 5 1 frame
is_awaited Addressing frame = is_dcp_answer 0xFEFD 4 2 frame
is_awaited phase frame = false

-- What is said to it in a datagram: a call of its relation, or a packet with the activity of its own calls, as each response and each
-- refusal of them has.
abbrev pub is_said_to : Controlling → List ℕ → Bool
is_said_to controlling call = is_call_of (marks_at controlling) call || same (activity_of call) controlling.setup.activity

-- A frame to the controller that is one of these.
abbrev pub belongs_to : Controlling → List ℕ → Bool
belongs_to controlling frame =
    same (take 6 frame) controlling.setup.plan.controller.mac.octets
    && (is_awaited controlling.live.phase frame || is_cyclic_of (marks_at controlling) frame || is_alarm_of (marks_at controlling) frame
    || (is_datagram frame && is_said_to controlling (drop 42 frame)))

-- The frame of a stranger.
abbrev pub IsStrangeTo : Controlling → Event → Type 0
IsStrangeTo controlling (Frame frame) = belongs_to controlling (untagged frame.items) ≡ false
IsStrangeTo controlling event = ⊥

-- It changes nothing at all, and nothing is sent.
abbrev pub LeavesControllers : Type 0
LeavesControllers = (controlling : Controlling) (event : Event) → IsStrangeTo controlling event → step_of controlling event ≡ record { controller = controlling; frames = [] }

-- ---- a flood

-- A controller after some events, and the frames that it sends at them, in order.
abbrev pub after_events : Controlling → List Event → Controlling
after_events controlling [] = controlling
after_events controlling (event ∷ events) = after_events (step_of controlling event).controller events

-- The frames that a controller sends at these events.
abbrev pub sent_at : Controlling → List Event → List (List ℕ)
sent_at controlling [] = []
sent_at controlling (event ∷ events) = (step_of controlling event).frames ++ sent_at (step_of controlling event).controller events

-- The second list is the first one without some frames, each of which is one of a stranger when it comes.
abbrev pub IsWithout : Controlling → List Event → List Event → Type 0
IsWithout controlling [] few = few ≡ []
IsWithout controlling (event ∷ events) few =
    (IsStrangeTo controlling event × IsWithout controlling events few)
    ⊎ ((fewer : List Event) × (few ≡ event ∷ fewer) × IsWithout (step_of controlling event).controller events fewer)

-- For any events, any frames of strangers among them: the controller, and what it sends, are those without these frames.
abbrev pub AreAsWithout : Type 0
AreAsWithout = (controlling : Controlling) (events few : List Event) → IsWithout controlling events few
    → (after_events controlling events ≡ after_events controlling few) × (sent_at controlling events ≡ sent_at controlling few)
