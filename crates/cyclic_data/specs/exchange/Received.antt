-- Which cyclic frames are accepted (IEC 61158-6-10, 4.7).
use Rattle.std.specs.Prelude.{◌==◌, ◌&&◌, ℕ, Bool, nat_eq, List, Result, Ok, Err, if◌then◌else◌}
use Rattle.std.specs.Cmp.Lexicographic.{pointwise}
use Rattle.pn_values.specs.declared.mac.Mac.{Mac}
use Rattle.cyclic_data.specs.declared.tail.CyclicTail.{CyclicTail}
use Rattle.cyclic_data.specs.declared.tail.ShortFrame.{ShortFrame}
use Rattle.cyclic_data.specs.Image.{with_frame}
use Rattle.cyclic_data.specs.Tail.{cyclic_of}
use Rattle.cyclic_data.specs.Timing.{heard, is_taken}
use Rattle.cyclic_data.specs.declared.exchange.route.Route.{Route}
use Rattle.cyclic_data.specs.declared.exchange.received.Received.{Received}
use Rattle.cyclic_data.specs.declared.exchange.received.Received.TheVariants.{Foreign, Short, Stale, Taken}
use Rattle.cyclic_data.specs.exchange.Cyclic.{Cyclic}

-- Whether a frame with this source and this FrameID carries the data that this end receives.
abbrev pub is_of_partner : Route → Mac → ℕ → Bool
is_of_partner route source frame_id = pointwise nat_eq source.octets route.partner.octets && frame_id == route.taken_id

-- Whether it is accepted, by the fields after its data.
abbrev pub is_new : Cyclic → CyclicTail → Bool
is_new cyclic tail = is_taken cyclic.hearing.last tail.counter tail.data_status.0 tail.transfer_status

-- What happens to a frame that was read or is too short, and to one that is from the partner or is not.
abbrev pub received_in : Cyclic → Result (List ℕ × CyclicTail) ShortFrame → Received
received_in cyclic (Ok x) = if is_new cyclic x.1 then Taken else Stale
received_in cyclic (Err short) = Short

-- What a cyclic frame is to an exchange: accepted, too short, not newer, or not of its partner and FrameID.
abbrev pub received_as : Cyclic → Mac → ℕ → List ℕ → Received
received_as cyclic source frame_id body =
    if is_of_partner cyclic.route source frame_id then received_in cyclic (cyclic_of cyclic.taken.data_length body) else Foreign

-- The state after a frame. An accepted frame replaces the values and the DataStatus that are read, and the data hold time
-- restarts. Any other frame changes nothing.
abbrev pub taken_from : Cyclic → List ℕ → CyclicTail → Cyclic
taken_from cyclic octets tail = record cyclic {
  hearing = heard cyclic.hearing tail.counter tail.data_status.0 tail.transfer_status;
  taken = with_frame octets cyclic.taken;
  data_status = tail.data_status.0;
}

-- The exchange after the data of a frame was read.
abbrev pub behind_read : Cyclic → Result (List ℕ × CyclicTail) ShortFrame → Cyclic
behind_read cyclic (Ok x) = if is_new cyclic x.1 then taken_from cyclic x.0 x.1 else cyclic
behind_read cyclic (Err short) = cyclic

-- The exchange after a cyclic frame.
abbrev pub behind_frame : Cyclic → Mac → ℕ → List ℕ → Cyclic
behind_frame cyclic source frame_id body =
    if is_of_partner cyclic.route source frame_id then behind_read cyclic (cyclic_of cyclic.taken.data_length body) else cyclic
