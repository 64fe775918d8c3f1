-- Over any list of moves, the accepted alarms are a prefix of those raised, and lack at most the last one.
use Rattle.std.proofs.Common.{◌≡◌, ℕ, ◌≤◌, ◌+◌, ◌++◌, Bool, true, false, cond, ltb, List, [], ◌∷◌, length, Option, Some, None, refl, sym, ap, subst, ◌∙◌, append-nil, arith}
use Rattle.std.specs.Prelude.{slice_get}
use Rattle.std.proofs.lemmas.Bool.{ltb-true}
use Rattle.std.proofs.lemmas.List.{length-append}
use Rattle.record_blocks.specs.declared.alarm_ack.AlarmAck.{AlarmAck}
use Rattle.record_blocks.specs.declared.alarm_notification.AlarmNotification.{AlarmNotification}
use Rattle.pn_alarms.specs.declared.receiver.Taken.{Taken}
use Rattle.pn_alarms.specs.declared.receiver.Taken.TheVariants.{New, Again, Refused}
use Rattle.diagnosis.specs.World.{Move}
use Rattle.diagnosis.specs.World.{Raise, Confirm, DeviceTick, ControllerTick, AlarmComes, ConfirmComes, AckComesToDevice, AckComesToController}
use Rattle.pn_alarms.specs.Numbers.{send_number, is_last}
use Rattle.pn_alarms.specs.Sending.{Sending, due, rested}
use Rattle.pn_alarms.specs.Alarming.{Alarming}
use Rattle.pn_alarms.specs.Sender.{is_end}
use Rattle.pn_alarms.specs.Receiver.{taken_as}
use Rattle.pn_alarms.specs.Device.{sender_after, end_behind}
use Rattle.pn_alarms.specs.Controller.{confirmed, with_ack}
use Rattle.pn_alarms.specs.declared.message.Notice.TheVariants as message
use Rattle.diagnosis.specs.Line.{with_sent, more_taken}
use Rattle.diagnosis.specs.World.{World, start, after_raise, after_device_tick, after_controller_tick, after_alarm, after_confirms, happens, behind_all, IsPrefixOf}
use Rattle.diagnosis.proofs.Lines.{IsLine, IsLast, line_starts, few_taken, line_sends, line_ticks, same_sent, same_taken, line_comes, more_is_more}

-- how many alarms are unconfirmed
abbrev standing_count : Option AlarmNotification → ℕ
standing_count None = 0
standing_count (Some alarm) = 1

-- the invariant of both ends
pub record IsWorld (w : World) : Type 0 where
  pub alarms : IsLine w.device.sender.sending.last w.controller.seen w.alarms
  pub confirms : IsLine w.controller.sending.last w.device.seen w.confirms
  -- what is repeated is the last that was sent
  pub standing : IsLast w.alarms.sent w.device.sender.standing
  pub confirming : IsLast w.confirms.sent w.controller.confirming
  -- at most as many AlarmAcks were sent as alarms were accepted, and each alarm but an unconfirmed one was ended by an
  -- accepted AlarmAck
  pub few : length w.confirms.sent ≤ length w.alarms.taken
  pub settled : length w.alarms.sent ≤ length w.confirms.taken + standing_count w.device.sender.standing

-- a step: the number of raised alarms does not fall, and the invariant is kept
abbrev Step : World → World → Type 0
Step w v = (length w.alarms.sent ≤ length v.alarms.sent) × (length w.alarms.sent ≤ 32768 → IsWorld w → IsWorld v)

-- ---- the last number stays the same

last_acked : (s : Sending) (b : Bool) → (cond b (rested s) s).last ≡ s.last
last_acked s true = refl
last_acked s false = refl

-- an AlarmAck keeps the number, and ends the unconfirmed alarm or nothing
record IsLeft (before after : Alarming) : Type 0 where
  number : after.sending.last ≡ before.sending.last
  standing : (sent : List AlarmNotification) → IsLast sent before.standing → IsLast sent after.standing

ended_as : (a : Alarming) (b : Bool) → IsLeft a (cond b (record { sending = rested a.sending; specifier = a.specifier; standing = None }) a)
ended_as a true = record { number = refl; standing = λ sent there. tt }
ended_as a false = record { number = refl; standing = λ sent there. there }

left_by : (a : Alarming) (ack : AlarmAck) (t : Taken) → IsLeft a (sender_after a ack t)
left_by a ack New = ended_as a (is_end ack a.standing)
left_by a ack Again = record { number = refl; standing = λ sent there. there }
left_by a ack Refused = record { number = refl; standing = λ sent there. there }

one_stands : (o : Option AlarmNotification) → standing_count o ≤ 1
one_stands None = omega arith
one_stands (Some alarm) = omega arith

-- one more AlarmAck was accepted, or the unconfirmed alarm stays
settled_by : (a : Alarming) (ack : AlarmAck) (t : Taken) (taken : List AlarmAck) (raised : ℕ) → raised ≤ length taken + standing_count a.standing
    → raised ≤ length (more_taken taken ack t) + standing_count (sender_after a ack t).standing
settled_by a ack New taken raised so_far = omega (arith, so_far, one_stands a.standing, length-append taken (ack ∷ []))
settled_by a ack Again taken raised so_far = so_far
settled_by a ack Refused taken raised so_far = so_far

-- ---- each move

raise_step : (w : World) (alarm : AlarmNotification) (o : Option AlarmNotification) → w.device.sender.standing ≡ o → Step w (after_raise w alarm o)
raise_step w alarm None none = (
  omega (arith, length-append w.alarms.sent (alarm ∷ [])),
  λ few i. record {
    alarms = line_sends w.device.sender.sending.last w.controller.seen w.alarms alarm i.alarms;
    confirms = i.confirms;
    standing = (w.alarms.sent, refl);
    confirming = i.confirming;
    few = i.few;
    settled = omega (arith, i.settled, ap standing_count none, length-append w.alarms.sent (alarm ∷ []));
  },
)
raise_step w alarm (Some standing) there = (omega arith, λ few i. i)

confirm_as : (w : World) (ack : AlarmAck) (b : Bool) → ltb (length w.confirms.sent) (length w.alarms.taken) ≡ b
    → Step w (cond b (record w {
      controller = confirmed w.controller ack;
      confirms = with_sent w.confirms (send_number (confirmed w.controller ack).sending.last) ack;
    }) w)
confirm_as w ack true more = (
  omega arith,
  λ few i. record {
    alarms = i.alarms;
    confirms = line_sends w.controller.sending.last w.device.seen w.confirms ack i.confirms;
    standing = i.standing;
    confirming = (w.confirms.sent, refl);
    few = omega (arith, ltb-true _ _ more, length-append w.confirms.sent (ack ∷ []));
    settled = i.settled;
  },
)
confirm_as w ack false more = (omega arith, λ few i. i)

device_tick_step : (w : World) → Step w (after_device_tick w)
device_tick_step w =
    let number = send_number w.device.sender.sending.last in
    let sent_is = same_sent w.alarms number w.device.sender.standing (due w.device.sender.sending) in
    let taken_is = same_taken w.alarms number w.device.sender.standing (due w.device.sender.sending) in (
      omega (arith, ap length sent_is),
      λ few i. record {
        alarms = line_ticks w.device.sender.sending.last w.controller.seen w.alarms w.device.sender.standing (due w.device.sender.sending) i.standing i.alarms;
        confirms = i.confirms;
        standing = subst (λ (xs : List AlarmNotification). IsLast xs w.device.sender.standing) (sym sent_is) i.standing;
        confirming = i.confirming;
        few = omega (arith, i.few, ap length taken_is);
        settled = omega (arith, i.settled, ap length sent_is);
      },
    )

controller_tick_step : (w : World) → Step w (after_controller_tick w)
controller_tick_step w =
    let number = send_number w.controller.sending.last in
    let sent_is = same_sent w.confirms number w.controller.confirming (due w.controller.sending) in
    let taken_is = same_taken w.confirms number w.controller.confirming (due w.controller.sending) in (
      omega arith,
      λ few i. record {
        alarms = i.alarms;
        confirms = line_ticks w.controller.sending.last w.device.seen w.confirms w.controller.confirming (due w.controller.sending) i.confirming i.confirms;
        standing = i.standing;
        confirming = subst (λ (xs : List AlarmAck). IsLast xs w.controller.confirming) (sym sent_is) i.confirming;
        few = omega (arith, i.few, ap length sent_is);
        settled = omega (arith, i.settled, ap length taken_is);
      },
    )

alarm_step : (w : World) (k : ℕ) (o : Option (ℕ × AlarmNotification)) → slice_get w.alarms.pdus k ≡ o → Step w (after_alarm w o)
alarm_step w k None none = (omega arith, λ few i. i)
alarm_step w k (Some pdu) there = (
  omega arith,
  λ few i. record {
    alarms = line_comes w.device.sender.sending.last w.controller.seen w.alarms k pdu there few i.alarms;
    confirms = i.confirms;
    standing = i.standing;
    confirming = i.confirming;
    few = omega (arith, i.few, more_is_more w.alarms.taken pdu.1 (taken_as w.controller.seen pdu.0));
    settled = i.settled;
  },
)

confirms_step : (w : World) (k : ℕ) (o : Option (ℕ × AlarmAck)) → slice_get w.confirms.pdus k ≡ o → Step w (after_confirms w o)
confirms_step w k None none = (omega arith, λ few i. i)
confirms_step w k (Some pdu) there =
    let t = taken_as w.device.seen pdu.0 in
    let left = left_by w.device.sender pdu.1 t in (
      omega arith,
      λ few i. record {
        alarms = subst (λ (last : Option ℕ). IsLine last w.controller.seen w.alarms) (sym left.number) i.alarms;
        confirms = line_comes w.controller.sending.last w.device.seen w.confirms k pdu there (omega (arith, few, i.few, few_taken _ _ _ i.alarms)) i.confirms;
        standing = left.standing w.alarms.sent i.standing;
        confirming = i.confirming;
        few = i.few;
        settled = settled_by w.device.sender pdu.1 t w.confirms.taken (length w.alarms.sent) i.settled;
      },
    )

ack_to_device_step : (w : World) (number : ℕ) → Step w (record w { device = end_behind w.device (message.Ack number) })
ack_to_device_step w number = (
  omega arith,
  λ few i. record {
    alarms = subst (λ (last : Option ℕ). IsLine last w.controller.seen w.alarms) (sym (last_acked w.device.sender.sending (is_last w.device.sender.sending.last number))) i.alarms;
    confirms = i.confirms;
    standing = i.standing;
    confirming = i.confirming;
    few = i.few;
    settled = i.settled;
  },
)

ack_to_controller_step : (w : World) (number : ℕ) → Step w (record w { controller = with_ack w.controller number })
ack_to_controller_step w number = (
  omega arith,
  λ few i. record {
    alarms = i.alarms;
    confirms = subst (λ (last : Option ℕ). IsLine last w.device.seen w.confirms) (sym (last_acked w.controller.sending (is_last w.controller.sending.last number))) i.confirms;
    standing = i.standing;
    confirming = i.confirming;
    few = i.few;
    settled = i.settled;
  },
)

step : (w : World) (move : Move) → Step w (happens w move)
step w (Raise alarm) = raise_step w alarm w.device.sender.standing refl
step w (Confirm ack) = confirm_as w ack (ltb (length w.confirms.sent) (length w.alarms.taken)) refl
step w DeviceTick = device_tick_step w
step w ControllerTick = controller_tick_step w
step w (AlarmComes k) = alarm_step w k (slice_get w.alarms.pdus k) refl
step w (ConfirmComes k) = confirms_step w k (slice_get w.confirms.pdus k) refl
step w (AckComesToDevice number) = ack_to_device_step w number
step w (AckComesToController number) = ack_to_controller_step w number

-- ---- any list of moves

starts : (factor retries : ℕ) → IsWorld (start factor retries)
starts factor retries = record { alarms = line_starts; confirms = line_starts; standing = tt; confirming = tt; few = omega arith; settled = omega arith }

runs : (moves : List Move) (w : World) → (length w.alarms.sent ≤ length (behind_all moves w).alarms.sent)
    × (length (behind_all moves w).alarms.sent ≤ 32768 → IsWorld w → IsWorld (behind_all moves w))
runs [] w = (omega arith, λ few i. i)
runs (move ∷ moves) w =
    let one = step w move in
    let others = runs moves (happens w move) in (
      omega (arith, one.0, others.0),
      λ few i. others.1 few (one.1 (omega (arith, few, one.0, others.0)) i),
    )

-- at most the last alarm is missing
lacks_one : (w : World) → IsWorld w → length w.alarms.sent ≤ length w.alarms.taken + 1
lacks_one w i = omega (arith, i.settled, i.few, few_taken _ _ _ i.confirms, one_stands w.device.sender.standing)

all_of : {A : Type 0} (taken rest sent : List A) → taken ++ rest ≡ sent → length sent ≤ length taken → taken ≡ sent
all_of taken [] sent e few = sym (append-nil taken) ∙ e
all_of taken (x ∷ rest) sent e few = absurd (omega (arith, few, ap length (sym e), length-append taken (x ∷ rest)))

-- none is missing if none is unconfirmed
lacks_none : (w : World) → IsWorld w → w.device.sender.standing ≡ None → w.alarms.taken ≡ w.alarms.sent
lacks_none w i none =
    all_of w.alarms.taken i.alarms.rest w.alarms.sent i.alarms.begins (omega (arith, i.settled, i.few, few_taken _ _ _ i.confirms, ap standing_count none))

-- the same for a world after any moves
pub ordered : (factor retries : ℕ) (moves : List Move) (w : World) → w ≡ behind_all moves (start factor retries) → length w.alarms.sent ≤ 32768 → IsPrefixOf w.alarms.taken w.alarms.sent
ordered factor retries moves w e few =
    let i = subst IsWorld (sym e) ((runs moves (start factor retries)).1 (subst (λ (v : World). length v.alarms.sent ≤ 32768) e few) (starts factor retries)) in
    (i.alarms.rest, i.alarms.begins)

pub lacking : (factor retries : ℕ) (moves : List Move) (w : World) → w ≡ behind_all moves (start factor retries) → length w.alarms.sent ≤ 32768 → length w.alarms.sent ≤ length w.alarms.taken + 1
lacking factor retries moves w e few =
    lacks_one w (subst IsWorld (sym e) ((runs moves (start factor retries)).1 (subst (λ (v : World). length v.alarms.sent ≤ 32768) e few) (starts factor retries)))

pub complete : (factor retries : ℕ) (moves : List Move) (w : World) → w ≡ behind_all moves (start factor retries) → length w.alarms.sent ≤ 32768 → w.device.sender.standing ≡ None
    → w.alarms.taken ≡ w.alarms.sent
complete factor retries moves w e few =
    lacks_none w (subst IsWorld (sym e) ((runs moves (start factor retries)).1 (subst (λ (v : World). length v.alarms.sent ≤ 32768) e few) (starts factor retries)))
