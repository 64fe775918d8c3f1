-- Events that send nothing, and after which nothing is due earlier: cyclic frames, and outputs that are set.
use Rattle.std.proofs.Common.{◌≡◌, ◌≤◌, ℕ, Bool, true, false, List, Result, Ok, Err, if◌then◌else◌, refl, arith}
use Rattle.std.specs.Prelude.{min, nat_eq}
use Rattle.std.specs.Cmp.Lexicographic.{pointwise}
use Rattle.pn_values.specs.declared.mac.Mac.{Mac}
use Rattle.frame_codec.specs.FrameId.{is_cyclic}
use Rattle.frame_codec.specs.Frame.{frame_of}
use Rattle.frame_codec.specs.Meaning.{Meaning, RealTime}
use Rattle.cyclic_data.specs.declared.tail.CyclicTail.{CyclicTail}
use Rattle.cyclic_data.specs.declared.tail.ShortFrame.{ShortFrame}
use Rattle.cyclic_data.specs.Leaps.{over_in}
use Rattle.cyclic_data.specs.Tail.{cyclic_of}
use Rattle.cyclic_data.specs.Timing.{Hearing, heard, is_taken}
use Rattle.cyclic_data.specs.exchange.Cyclic.{Cyclic}
use Rattle.cyclic_data.specs.exchange.Leaps.{cyclic_due_in}
use Rattle.cyclic_data.specs.exchange.Received.{behind_frame, behind_read, is_new, is_of_partner, taken_from}
use Rattle.pn_alarms.specs.Leaps.{data_due_in, never}
use Rattle.controller_messages.specs.Heard.{heard_of, heard_real_time}
use Rattle.controller_core.specs.declared.stored.event.Event.TheVariants.{Frame}
use Rattle.controller_core.specs.Leaps.{access_due_in, live_due_in}
use Rattle.controller_core.specs.Machine.{come, given, step_of}
use Rattle.controller_core.specs.Quiet.{silently}
use Rattle.controller_core.specs.stored.State.{Controlling, Live, with_live}

-- ---- cyclic frames

-- A cyclic frame to the controller is read, and nothing is sent.
pub cyclic_steps : (old : Controlling) (octets : List ℕ) (meaning : Meaning) (frame_id : ℕ) (body : List ℕ) → frame_of octets ≡ Ok meaning → meaning.content ≡ RealTime frame_id body
    → pointwise nat_eq meaning.destination.octets old.setup.plan.controller.mac.octets ≡ true → is_cyclic frame_id ≡ true
    → step_of old (Frame (record { items = octets })) ≡ silently (with_live old (come old.live meaning.source frame_id body))
unfolding step_of heard_of heard_real_time
cyclic_steps old octets meaning frame_id body read content own cyclic = rw (read, content, own, cyclic) refl

-- It puts off the end of the data hold time, if it is accepted.
heard_later : (hearing : Hearing) (last : Hearing) (b : Bool) → last.held ≡ 0 → last.limit ≡ hearing.limit → over_in hearing ≤ over_in (if b then last else hearing)
heard_later hearing last true none same = omega (arith, none, same)
heard_later hearing last false none same = omega arith

if_later : (b : Bool) (due later : ℕ) → due ≤ later → (if b then due else never) ≤ (if b then later else never)
if_later true due later puts_off = puts_off
if_later false due later puts_off = omega arith

taken_later : (cyclic : Cyclic) (octets : List ℕ) (tail : CyclicTail) (b : Bool) → cyclic_due_in cyclic ≤ cyclic_due_in (if b then taken_from cyclic octets tail else cyclic)
taken_later cyclic octets tail true =
    let hearing = heard cyclic.hearing tail.counter tail.data_status.0 tail.transfer_status in
    let held = heard_later cyclic.hearing _ (is_taken cyclic.hearing.last tail.counter tail.data_status.0 tail.transfer_status) refl refl in
    let silent = if_later cyclic.begun (over_in cyclic.hearing) (over_in hearing) held in
    omega (arith, silent)
taken_later cyclic octets tail false = omega arith

read_later : (cyclic : Cyclic) (read : Result (List ℕ × CyclicTail) ShortFrame) → cyclic_due_in cyclic ≤ cyclic_due_in (behind_read cyclic read)
read_later cyclic (Ok x) = taken_later cyclic x.0 x.1 (is_new cyclic x.1)
read_later cyclic (Err short) = omega arith

partner_later : (cyclic next : Cyclic) (b : Bool) → cyclic_due_in cyclic ≤ cyclic_due_in next → cyclic_due_in cyclic ≤ cyclic_due_in (if b then next else cyclic)
partner_later cyclic next true later = later
partner_later cyclic next false later = omega arith

frame_later : (cyclic : Cyclic) (source : Mac) (frame_id : ℕ) (body : List ℕ) → cyclic_due_in cyclic ≤ cyclic_due_in (behind_frame cyclic source frame_id body)
frame_later cyclic source frame_id body =
    partner_later cyclic _ (is_of_partner cyclic.route source frame_id) (read_later cyclic (cyclic_of cyclic.taken.data_length body))

live_later : (live : Live) (next : Cyclic) (b : Bool) → cyclic_due_in live.cyclic ≤ cyclic_due_in next → live_due_in live ≤ live_due_in (if b then record live { cyclic = next } else live)
live_later live next true later =
    let high = data_due_in live.alarms.sending in
    let low = data_due_in live.low_alarms.sending in
    let exchange = if_later live.stands (min (access_due_in live) (min (min (cyclic_due_in live.cyclic) high) low)) (min (access_due_in live) (min (min (cyclic_due_in next) high) low))
    (omega (arith, later)) in
    omega (arith, exchange)
live_later live next false later = omega arith

pub come_later : (live : Live) (source : Mac) (frame_id : ℕ) (body : List ℕ) → live_due_in live ≤ live_due_in (come live source frame_id body)
come_later live source frame_id body = live_later live _ live.stands (frame_later live.cyclic source frame_id body)

-- ---- outputs

-- An output changes nothing that is due.
pub given_due : (live : Live) (slot subslot : ℕ) (value : List ℕ) → live_due_in (given live slot subslot value) ≡ live_due_in live
given_due live slot subslot value = refl
