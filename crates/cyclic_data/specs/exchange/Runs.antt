-- One end over many events.
use Rattle.std.specs.Prelude.{◌≡◌, ◌+◌, ◌%◌, ◌==◌, ◌<◌, ℕ, Bool, true, false, nat_le, List, [], ◌∷◌, replicate, Option, Some, None, is_some, unwrap_or, Result, Ok, Err, if◌then◌else◌}
use Rattle.pn_values.specs.declared.mac.Mac.{Mac}
use Rattle.cyclic_data.specs.declared.tail.CyclicTail.{CyclicTail}
use Rattle.cyclic_data.specs.declared.tail.ShortFrame.{ShortFrame}
use Rattle.cyclic_data.specs.Image.{Shown, with_frame}
use Rattle.cyclic_data.specs.Tail.{cyclic_of}
use Rattle.cyclic_data.specs.Timing.{is_due}
use Rattle.cyclic_data.specs.exchange.Cyclic.{Cyclic}
use Rattle.cyclic_data.specs.exchange.Opening.{begun_of, ended_of}
use Rattle.cyclic_data.specs.exchange.Units.{cyclic_later, is_silent}
use Rattle.cyclic_data.specs.exchange.Received.{behind_frame, is_new, is_of_partner}
use Rattle.cyclic_data.specs.exchange.Process.{given_at, provided_at, stated_at}

-- What happens to an end that was opened: each call that changes it, and the calls that change nothing here.
pub data Event : Type 0 where
  Begins : Event
  Ends : Event
  Passes : Event
  Comes : (source : Mac) → (frame_id : ℕ) → (body : List ℕ) → Event
  Gives : (slot : ℕ) → (subslot : ℕ) → (value : List ℕ) → Event
  Provides : (slot : ℕ) → (subslot : ℕ) → (value : List ℕ) → Event
  States : (slot : ℕ) → (subslot : ℕ) → (status : ℕ) → Event
  Rests : Event

-- The state after an event, and after several events in order.
abbrev pub behind : Event → Cyclic → Cyclic
behind Begins cyclic = begun_of cyclic
behind Ends cyclic = ended_of cyclic
behind Passes cyclic = cyclic_later cyclic
behind (Comes source frame_id body) cyclic = behind_frame cyclic source frame_id body
behind (Gives slot subslot value) cyclic = unwrap_or (given_at cyclic slot subslot value) cyclic
behind (Provides slot subslot value) cyclic = unwrap_or (provided_at cyclic slot subslot value) cyclic
behind (States slot subslot status) cyclic = stated_at cyclic slot subslot status
behind Rests cyclic = cyclic

-- The exchange after these events.
abbrev pub behind_all : List Event → Cyclic → Cyclic
behind_all [] cyclic = cyclic
behind_all (event ∷ events) cyclic = behind_all events (behind event cyclic)

-- How many units passed.
abbrev pub units_of : Event → ℕ
units_of Begins = 0
units_of Ends = 0
units_of Passes = 1
units_of (Comes source frame_id body) = 0
units_of (Gives slot subslot value) = 0
units_of (Provides slot subslot value) = 0
units_of (States slot subslot status) = 0
units_of Rests = 0

-- How many of these events are units of time.
abbrev pub units_in : List Event → ℕ
units_in [] = 0
units_in (event ∷ events) = units_of event + units_in events

-- The octets of the frame that is accepted, and of the last accepted frame. The end of the exchange counts as a frame
-- of zeros.
abbrev pub taken_in : Cyclic → Result (List ℕ × CyclicTail) ShortFrame → Option (List ℕ)
taken_in cyclic (Ok x) = if is_new cyclic x.1 then Some x.0 else None
taken_in cyclic (Err short) = None

-- The data that an event makes the exchange show, if it does: of an accepted frame, or zeros at its end.
abbrev pub taken_with : Event → Cyclic → Option (List ℕ)
taken_with Begins cyclic = None
taken_with Ends cyclic = Some (replicate cyclic.taken.data_length 0)
taken_with Passes cyclic = None
taken_with (Comes source frame_id body) cyclic =
    if is_of_partner cyclic.route source frame_id then taken_in cyclic (cyclic_of cyclic.taken.data_length body) else None
taken_with (Gives slot subslot value) cyclic = None
taken_with (Provides slot subslot value) cyclic = None
taken_with (States slot subslot status) cyclic = None
taken_with Rests cyclic = None

-- The later of two values, if there is one.
abbrev pub later_one : Option (List ℕ) → Option (List ℕ) → Option (List ℕ)
later_one (Some later) earlier = Some later
later_one None earlier = earlier

-- The data that the exchange shows last in these events, if they bring any.
abbrev pub last_taken : List Event → Cyclic → Option (List ℕ)
last_taken [] cyclic = None
last_taken (event ∷ events) cyclic = later_one (last_taken events (behind event cyclic)) (taken_with event cyclic)

-- What these octets hold at each place, or the previous content if there are none.
abbrev pub held_in : Shown → Option (List ℕ) → Shown
held_in shown (Some octets) = with_frame octets shown
held_in shown None = shown

-- Whether the data hold time restarts or stops with an event.
abbrev pub is_renewal : Event → Cyclic → Bool
is_renewal Begins cyclic = true
is_renewal Ends cyclic = true
is_renewal Passes cyclic = false
is_renewal (Comes source frame_id body) cyclic = is_some (taken_with (Comes source frame_id body) cyclic)
is_renewal (Gives slot subslot value) cyclic = false
is_renewal (Provides slot subslot value) cyclic = false
is_renewal (States slot subslot status) cyclic = false
is_renewal Rests cyclic = false

-- None of these events restarts the data hold time.
abbrev pub AreNoRenewals : List Event → Cyclic → Type 0
AreNoRenewals [] cyclic = Unit {0}
AreNoRenewals (event ∷ events) cyclic = (is_renewal event cyclic ≡ false) × AreNoRenewals events (behind event cyclic)

-- For any events, a frame is due with each unit whose number, counted from the opening, is a multiple of the interval,
-- and with no other unit.
abbrev pub IsDueEachInterval : Type 0
IsDueEachInterval = (cyclic : Cyclic) (events : List Event) → cyclic.sending.elapsed ≡ 0 → 0 < cyclic.sending.interval
    → is_due (behind_all events cyclic).sending ≡ ((units_in events + 1) % cyclic.sending.interval == 0)

-- For any events, the content of each place is that of the last accepted frame, and is unchanged if no frame was
-- accepted.
abbrev pub AreOfTheLast : Type 0
AreOfTheLast = (events : List Event) (cyclic : Cyclic) → (behind_all events cyclic).taken ≡ held_in cyclic.taken (last_taken events cyclic)

-- While data is exchanged, and counted from its start, the data hold time is over from the unit on that completes it,
-- and not before, unless meanwhile a frame is accepted, or the exchange begins again or ends.
abbrev pub IsHeldSoLong : Type 0
IsHeldSoLong = (events : List Event) (cyclic : Cyclic) → cyclic.begun ≡ true → cyclic.hearing.held ≡ 0 → AreNoRenewals events cyclic
    → is_silent (behind_all events cyclic) ≡ nat_le cyclic.hearing.limit (units_in events + 1)
