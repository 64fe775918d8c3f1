-- The alarms of one priority of a controller and of a device's end are those of an exchange: each move makes some moves of it.
use Rattle.std.proofs.Common.{◌≡◌, inl, inr, ◌<◌, ◌≤◌, ◌+◌, ◌++◌, ℕ, zero, suc, Bool, true, false, List, [], ◌∷◌, length, Option, Some, None, refl, sym, ap, subst, ◌∙◌, arith}
use Rattle.std.specs.Prelude.{if◌then◌else◌, nat_lt, slice_get}
use Rattle.std.specs.List.{AllByRecursion}
use Rattle.std.proofs.lemmas.Bool.Decides.{nat_tests}
use Rattle.std.proofs.lemmas.List.{length-append}
use Rattle.pn_values.specs.declared.mac.Mac.{Mac}
use Rattle.record_blocks.specs.declared.alarm_ack.AlarmAck.{AlarmAck}
use Rattle.record_blocks.specs.declared.alarm_notification.AlarmNotification.{AlarmNotification}
use Rattle.pn_alarms.specs.declared.abort.Abort.{Abort}
use Rattle.pn_alarms.specs.declared.message.Notice.TheVariants as notice
use Rattle.pn_alarms.specs.declared.pdu.Header.{Header}
use Rattle.diagnosis.specs.declared.reports.priority.Priority.{Priority}
use Rattle.diagnosis.specs.declared.reports.priority.Priority.TheVariants.{High, Low}
use Rattle.diagnosis.specs.declared.reports.report.Report.{Report}
use Rattle.pn_alarms.specs.declared.receiver.Taken.{Taken}
use Rattle.pn_alarms.specs.declared.receiver.Taken.TheVariants.{New, Again, Refused}
use Rattle.pn_alarms.specs.declared.repeats.Due.{Due}
use Rattle.pn_alarms.specs.declared.repeats.Due.TheVariants as due_is
use Rattle.pn_alarms.specs.Controller.{confirmed, controller_later, with_data}
use Rattle.pn_alarms.specs.Ends.{ControllerEnd}
use Rattle.pn_alarms.specs.Device.{end_behind}
use Rattle.pn_alarms.specs.Numbers.{send_number}
use Rattle.pn_alarms.specs.Receiver.{taken_as}
use Rattle.pn_alarms.specs.Sending.{due, either_due}
use Rattle.pn_alarms.specs.Sending.{is_again as is_again_due}
use Rattle.cyclic_data.specs.exchange.Units.{ending_of, tick_by}
use Rattle.diagnosis.specs.World.{Move as Happening}
use Rattle.diagnosis.specs.World as happening
use Rattle.diagnosis.specs.Taken.{AreAllTaken as AreAllExchanged, AreTakenInOrder as AreExchangedInOrder, LackAtMostTheLast as LackAtMostOne}
use Rattle.diagnosis.specs.Line.{Line, empty, more_taken, with_come, with_sent}
use Rattle.diagnosis.specs.World.{IsPrefixOf, World, after_alarm, after_confirm, after_confirms, after_raise, behind_all, happens, line_after}
use Rattle.diagnosis.specs.World.{start as nothing_happened}
use Rattle.plan_places.specs.Places.{Told}
use Rattle.controller_messages.specs.declared.record_request.RecordService.TheVariants as service
use Rattle.controller_messages.specs.declared.setup.Setup.{Setup}
use Rattle.controller_messages.specs.Heard.{Heard, Alarms}
use Rattle.controller_messages.specs.Access.{Accessing}
use Rattle.controller_messages.specs.Sent.{Sent, Confirms, Parametrizes}
use Rattle.controller_core.specs.stored.Alarms.{ack_of, kept_alarm}
use Rattle.controller_core.specs.Machine.{Turn, acked_under, acks_in, acks_of, after_turn, alarmed, behind_ack, behind_data, brought, can_begin, due_frames, end_of, flow_later, flowed, given, gone_on, is_again, is_spent, later, noticed, outputs_of, over, pending_by, quit, rated, requested, requests_of, stays, stopped, taken, turned, where_due, written}
use Rattle.controller_core.specs.declared.stored.state.Cause.TheVariants.{NoProgress}
use Rattle.controller_core.specs.declared.stored.state.State.{State}
use Rattle.controller_core.specs.declared.stored.state.State.TheVariants.{Looking, Addressing, Ended}
use Rattle.controller_core.specs.stored.Cause.{cause_of}
use Rattle.controller_core.specs.stored.State.{Live}
use Rattle.end_laws.specs.turns.Alarms.{AreAllTaken, AreTakenInOrder, LackAtMostTheLast, Move, Relation, Raises, PassesAtDevice, ComesToDevice, AckComesToDevice, AlarmComes, Hears, PassesAtController, Gives, GivesStatus, Reads, Writes, Stops, ShowsTheLast, acked_at_device, alarm_comes, behind, behind_one, comes_to_device, hears, is_looked_at, is_priority, last_of, passed_at_device, raised_by, report_as, shown_of, start, turns}
use Rattle.end_laws.specs.turns.Beside.{IsBegun, IsBeside, MayFollow, flow_begun}
use Rattle.end_laws.specs.turns.Turns as came
use Rattle.end_laws.proofs.TurnsBeside.{begins as begins_so, begun_beside, flows, follows, gone_is, unit_begun}
use Rattle.end_laws.proofs.TurnsInactive.{IsInactive, IsInactiveAt, IsNoAck, IsOneOf, IsThere, at_priority, inactive_stays, no_acks_there, outputs_no_ack, pending_no_ack, requests_no_ack, turn_inactive}

-- ---- lists

-- What is at a position of one list is at that position of another.
abbrev Extends : {A : Type 0} → List A → List A → Type 0
Extends {A = A} xs ys = (k : ℕ) (x : A) → slice_get xs k ≡ Some x → slice_get ys k ≡ Some x

unchanged : {A : Type 0} (xs : List A) → Extends xs xs
unchanged xs k x e = e

one_more : {A : Type 0} (xs : List A) (y : A) → Extends xs (xs ++ y ∷ [])
one_more [] y k x e = absurd cc
one_more (z ∷ zs) y zero x e = e
one_more (z ∷ zs) y (suc k) x e = one_more zs y k x e

at_end : {A : Type 0} (xs : List A) (y : A) → slice_get (xs ++ y ∷ []) (length xs) ≡ Some y
at_end [] y = refl
at_end (z ∷ zs) y = at_end zs y

all_at : {X : Type 0} (P : X → Type 0) (xs : List X) (k : ℕ) (x : X) → AllByRecursion P xs → slice_get xs k ≡ Some x → P x
all_at P [] k x all e = absurd cc
all_at P (y ∷ ys) zero x all e = let same : y ≡ x = cc in subst P same all.0
all_at P (y ∷ ys) (suc k) x all e = all_at P ys k x all.1 e

all_behind : {X : Type 0} (P : X → Type 0) (xs ys : List X) → AllByRecursion P xs → AllByRecursion P ys → AllByRecursion P (xs ++ ys)
all_behind P [] ys all more = more
all_behind P (x ∷ xs) ys all more = (all.0, all_behind P xs ys all.1 more)

more_behind : {X : Type 0} (P : X → Type 0) (xs ys zs : List X) → AllByRecursion P (xs ++ ys) → AllByRecursion P zs → AllByRecursion P (xs ++ (ys ++ zs))
more_behind P [] ys zs all more = all_behind P ys zs all more
more_behind P (x ∷ xs) ys zs all more = (all.0, more_behind P xs ys zs all.1 more)

last_is : (alarms : List AlarmNotification) (alarm : AlarmNotification) → last_of (alarms ++ alarm ∷ []) ≡ Some (kept_alarm alarm)
last_is [] alarm = refl
last_is (one ∷ []) alarm = refl
last_is (one ∷ next ∷ alarms) alarm = last_is (next ∷ alarms) alarm

less_is : (a b : ℕ) → a < b → nat_lt a b ≡ true
less_is a b h = grind (arith, nat_tests)

-- ---- messages that are there are kept

module _ (priority : Priority) (pdus more : List (ℕ × AlarmAck)) (p : Extends pdus more) where
  one_of_stays : (is : Bool) (header : Header) (ack : AlarmAck) → IsOneOf is pdus header ack → IsOneOf is more header ack
  one_of_stays true header ack there = (there.0, p there.0 (header.send_number, ack) there.1)
  one_of_stays false header ack there = tt

  stays_there : (message : Sent) → IsThere priority pdus message → IsThere priority more message
  stays_there (Confirms route other header ack) there = one_of_stays (is_priority priority other) header ack there
  stays_there message there = tt

  all_stay : (messages : List Sent) → AllByRecursion (IsThere priority pdus) messages → AllByRecursion (IsThere priority more) messages
  all_stay [] all = tt
  all_stay (message ∷ messages) all = (stays_there message all.0, all_stay messages all.1)

-- ---- the ends of a priority

-- data that is accepted
new_end : (priority : Priority) (live : Live) (number : ℕ) (alarm : AlarmNotification)
    → end_of (taken (behind_data live priority number) (report_as priority alarm) New).live priority ≡ confirmed (with_data (end_of live priority) number) (ack_of alarm)
new_end High live number alarm = refl
new_end Low live number alarm = refl

new_shown : (priority : Priority) (live : Live) (number : ℕ) (alarm : AlarmNotification)
    → shown_of priority (taken (behind_data live priority number) (report_as priority alarm) New).live ≡ Some (kept_alarm alarm)
new_shown High live number alarm = refl
new_shown Low live number alarm = refl

new_sent : (priority : Priority) (live : Live) (number : ℕ) (alarm : AlarmNotification) (pdus : List (ℕ × AlarmAck)) (k : ℕ)
    → slice_get pdus k ≡ Some (send_number (confirmed (with_data (end_of live priority) number) (ack_of alarm)).sending.last, ack_of alarm)
    → AllByRecursion (IsThere priority pdus) (taken (behind_data live priority number) (report_as priority alarm) New).sent
new_sent High live number alarm pdus k there = (tt, ((k, there), tt))
new_sent Low live number alarm pdus k there = (tt, ((k, there), tt))

-- data that is not
old_end : (priority : Priority) (live : Live) (number : ℕ) → end_of (behind_data live priority number) priority ≡ with_data (end_of live priority) number
old_end High live number = refl
old_end Low live number = refl

old_shown : (priority : Priority) (live : Live) (number : ℕ) → shown_of priority (behind_data live priority number) ≡ shown_of priority live
old_shown High live number = refl
old_shown Low live number = refl

-- data of the other priority
other_inactive : (priority other : Priority) → is_priority priority other ≡ false → (live : Live) (number : ℕ) (alarm : AlarmNotification) (structure : Option ℕ) (as_what : Taken)
    → IsInactiveAt priority live (taken (behind_data live other number) (record { priority = other; notification = alarm; user_structure = structure }) as_what)
other_inactive High High e live number alarm structure as_what = absurd cc
other_inactive Low Low e live number alarm structure as_what = absurd cc
other_inactive High Low e live number alarm structure New = record { end = refl; shown = refl; sent = λ pdus. (tt, (tt, tt)) }
other_inactive High Low e live number alarm structure Again = record { end = refl; shown = refl; sent = λ pdus. (tt, tt) }
other_inactive High Low e live number alarm structure Refused = record { end = refl; shown = refl; sent = λ pdus. (tt, tt) }
other_inactive Low High e live number alarm structure New = record { end = refl; shown = refl; sent = λ pdus. (tt, (tt, tt)) }
other_inactive Low High e live number alarm structure Again = record { end = refl; shown = refl; sent = λ pdus. (tt, tt) }
other_inactive Low High e live number alarm structure Refused = record { end = refl; shown = refl; sent = λ pdus. (tt, tt) }

-- what a turn of a place changes does not concern alarms
beside_end : (priority : Priority) (before after : Live) → IsBeside before after → end_of after priority ≡ end_of before priority
beside_end High before after is = ap (λ (l : Live). l.alarms) is
beside_end Low before after is = ap (λ (l : Live). l.low_alarms) is

beside_shown : (priority : Priority) (before after : Live) → IsBeside before after → shown_of priority after ≡ shown_of priority before
beside_shown High before after is = ap (λ (l : Live). l.alarm) is
beside_shown Low before after is = ap (λ (l : Live). l.low_alarm) is

-- a unit, with which a turn of a place may begin
abbrev flow_with : Live → ℕ → Told → Accessing → Live
flow_with live waited places access = record (flow_later live) { waited = waited; places = places; access = access }

later_end : (priority : Priority) (live : Live) (waited : ℕ) (places : Told) (access : Accessing)
    → end_of (flow_with live waited places access) priority ≡ controller_later (end_of live priority)
later_end High live waited places access = refl
later_end Low live waited places access = refl

later_shown : (priority : Priority) (live : Live) (waited : ℕ) (places : Told) (access : Accessing)
    → shown_of priority (flow_with live waited places access) ≡ shown_of priority live
later_shown High live waited places access = refl
later_shown Low live waited places access = refl

broken_end : (priority : Priority) (live : Live) (waited : ℕ) (places : Told) (access : Accessing) (reason : Abort)
    → end_of (over (cause_of reason) (flow_with live waited places access)) priority ≡ controller_later (end_of live priority)
broken_end High live waited places access reason = refl
broken_end Low live waited places access reason = refl

broken_shown : (priority : Priority) (live : Live) (waited : ℕ) (places : Told) (access : Accessing) (reason : Abort)
    → shown_of priority (over (cause_of reason) (flow_with live waited places access)) ≡ shown_of priority live
broken_shown High live waited places access reason = refl
broken_shown Low live waited places access reason = refl

idle_at : (priority : Priority) (live next : Live) (sent : List Sent) → IsBeside (later live) next → AllByRecursion IsNoAck sent
    → IsInactiveAt priority live (record { live = next; sent = sent })
idle_at priority live next sent is none = at_priority priority live (record { live = next; sent = sent }) (record {
  high = ap (λ (l : Live). l.alarms) is;
  low = ap (λ (l : Live). l.low_alarms) is;
  alarm = ap (λ (l : Live). l.alarm) is;
  low_alarm = ap (λ (l : Live). l.low_alarm) is;
  sent = none;
})

abbrev due_at : Priority → Due → Due → Due
due_at High high low = high
due_at Low high low = low

same_due : (priority : Priority) (live : Live) → due (end_of live priority).sending ≡ due_at priority (due live.alarms.sending) (due live.low_alarms.sending)
same_due High live = refl
same_due Low live = refl

-- the AlarmAck that is sent again
own_again : (priority : Priority) (pdus : List (ℕ × AlarmAck)) (live : Live) (ack : AlarmAck)
    → AllByRecursion (IsThere priority (pdus ++ (send_number (end_of live priority).sending.last, ack) ∷ [])) (acks_in live priority (Some ack))
own_again High pdus live ack = ((length pdus, at_end pdus (send_number live.alarms.sending.last, ack)), tt)
own_again Low pdus live ack = ((length pdus, at_end pdus (send_number live.low_alarms.sending.last, ack)), tt)

own_part : (priority : Priority) (line : Line AlarmAck) (live : Live) (ack : Option AlarmAck) (due_now : Due)
    → AllByRecursion (IsThere priority (line_after line (send_number (end_of live priority).sending.last) ack due_now).pdus) (where_due (is_again_due due_now) (acks_in live priority ack))
own_part priority line live ack due_is.Nothing = tt
own_part priority line live None due_is.Again = tt
own_part priority line live (Some ack) due_is.Again = own_again priority line.pdus live ack
own_part priority line live ack due_is.Spent = tt

other_part : (priority other : Priority) → is_priority priority other ≡ false → (pdus : List (ℕ × AlarmAck)) (live : Live) (ack : Option AlarmAck) (is : Bool)
    → AllByRecursion (IsThere priority pdus) (where_due is (acks_in live other ack))
other_part High High e pdus live ack is = absurd cc
other_part Low Low e pdus live ack is = absurd cc
other_part priority other e pdus live ack false = tt
other_part priority other e pdus live None true = tt
other_part High Low e pdus live (Some ack) true = (tt, tt)
other_part Low High e pdus live (Some ack) true = (tt, tt)

-- the AlarmAcks after a unit
record AreAcks (priority : Priority) (pdus : List (ℕ × AlarmAck)) (next : Live) (high low : Due) : Type 0 where
  of_high : AllByRecursion (IsThere priority pdus) (where_due (is_again_due high) (acks_of next High))
  of_low : AllByRecursion (IsThere priority pdus) (where_due (is_again_due low) (acks_of next Low))

abbrev line_later : Priority → Line AlarmAck → Live → Due → Line AlarmAck
line_later priority line live due_now = line_after line (send_number (end_of live priority).sending.last) (end_of live priority).confirming due_now

acks_there : (priority : Priority) (line : Line AlarmAck) (live : Live) (waited : ℕ) (places : Told) (access : Accessing) (high low : Due)
    → AreAcks priority (line_later priority line live (due_at priority high low)).pdus (flow_with live waited places access) high low
acks_there High line live waited places access high low =
    let next = flow_with live waited places access in
    record {
      of_high = own_part High line next live.alarms.confirming high;
      of_low = other_part High Low refl (line_later High line live high).pdus next live.low_alarms.confirming (is_again_due low);
    }
acks_there Low line live waited places access high low =
    let next = flow_with live waited places access in
    record {
      of_high = other_part Low High refl (line_later Low line live low).pdus next live.alarms.confirming (is_again_due high);
      of_low = own_part Low line next live.low_alarms.confirming low;
    }

-- ---- what a unit makes of what was sent

lines_extend : (line : Line AlarmAck) (number : ℕ) (ack : Option AlarmAck) (due_now : Due) → Extends line.pdus (line_after line number ack due_now).pdus
lines_extend line number ack due_is.Nothing = unchanged line.pdus
lines_extend line number None due_is.Again = unchanged line.pdus
lines_extend line number (Some ack) due_is.Again = one_more line.pdus (number, ack)
lines_extend line number ack due_is.Spent = unchanged line.pdus

lines_same : {A : Type 0} (line : Line A) (number : ℕ) (value : Option A) (due_now : Due) → (line_after line number value due_now).sent ≡ line.sent
lines_same line number value due_is.Nothing = refl
lines_same line number None due_is.Again = refl
lines_same line number (Some value) due_is.Again = refl
lines_same line number value due_is.Spent = refl

pub lines_taken : {A : Type 0} (line : Line A) (number : ℕ) (value : Option A) (due_now : Due) → (line_after line number value due_now).taken ≡ line.taken
lines_taken line number value due_is.Nothing = refl
lines_taken line number None due_is.Again = refl
lines_taken line number (Some value) due_is.Again = refl
lines_taken line number value due_is.Spent = refl

-- ---- the world of an exchange

module _ (priority : Priority) where
  abbrev world_of : Relation → Line AlarmAck → World
  world_of r confirms = record { device = r.device; controller = end_of r.live priority; alarms = r.alarms; confirms = confirms }

  -- Some moves of an exchange lead to this state, with these AlarmAcks.
  pub record IsPlayed (r : Relation) : Type 0 where
    pub confirms : Line AlarmAck
    pub moves : List Happening
    pub made : behind_all moves (nothing_happened 1 3) ≡ world_of r confirms
    pub reported : AllByRecursion (IsThere priority confirms.pdus) r.reported
    pub same : length confirms.sent ≡ length r.alarms.taken
    pub shown : shown_of priority r.live ≡ last_of r.alarms.taken

  runs_on : (moves more : List Happening) (w : World) → behind_all (moves ++ more) w ≡ behind_all more (behind_all moves w)
  runs_on [] more w = refl
  runs_on (move ∷ moves) more w = runs_on moves more (happens w move)

  goes_on : (r : Relation) (p : IsPlayed r) (more : List Happening) (next : Relation) (confirms : Line AlarmAck) → behind_all more (world_of r p.confirms) ≡ world_of next confirms
      → AllByRecursion (IsThere priority confirms.pdus) next.reported → length confirms.sent ≡ length next.alarms.taken
      → shown_of priority next.live ≡ last_of next.alarms.taken → IsPlayed next
  goes_on r p more next confirms e reported same shown = record {
    confirms = confirms;
    moves = p.moves ++ more;
    made = runs_on p.moves more (nothing_happened 1 3) ∙ (ap (behind_all more) p.made ∙ e);
    reported = reported;
    same = same;
    shown = shown;
  }

  -- A turn that does not concern alarms of this priority.
  inactive_on : (r : Relation) (turn : Turn) → IsPlayed r → IsInactiveAt priority r.live turn → IsPlayed (turns r turn)
  inactive_on r turn p q = record {
    confirms = p.confirms;
    moves = p.moves;
    made = p.made ∙ ap (λ (end : ControllerEnd). record (world_of r p.confirms) { controller = end }) (sym q.end);
    reported = all_behind (IsThere priority p.confirms.pdus) r.reported turn.sent p.reported (q.sent p.confirms.pdus);
    same = p.same;
    shown = q.shown ∙ p.shown;
  }

  -- The turn of a place that begins after a turn does not concern alarms.
  begun_on : (setup : Setup) (r : Relation) (alarms : Line AlarmNotification) (turn after : Turn) (begun : IsBegun setup turn.live after.live)
      → after.sent ≡ turn.sent ++ Parametrizes turn.live.device begun.request ∷ []
      → IsPlayed (record (turns r turn) { alarms = alarms }) → IsPlayed (record (turns r after) { alarms = alarms })
  begun_on setup r alarms turn after begun sent p = record {
    confirms = p.confirms;
    moves = p.moves;
    made = p.made
        ∙ ap (λ (end : ControllerEnd). record (world_of (record (turns r turn) { alarms = alarms }) p.confirms) { controller = end })
        (sym (beside_end priority turn.live after.live begun.beside));
    reported = subst (λ (messages : List Sent). AllByRecursion (IsThere priority p.confirms.pdus) (r.reported ++ messages)) (sym sent)
        (more_behind (IsThere priority p.confirms.pdus) r.reported turn.sent (Parametrizes turn.live.device begun.request ∷ []) p.reported (tt, tt));
    same = p.same;
    shown = beside_shown priority turn.live after.live begun.beside ∙ p.shown;
  }

  follows_on : (setup : Setup) (r : Relation) (alarms : Line AlarmNotification) (turn after : Turn) → MayFollow setup turn after
      → IsPlayed (record (turns r turn) { alarms = alarms }) → IsPlayed (record (turns r after) { alarms = alarms })
  follows_on setup r alarms turn after (inl e) p = subst (λ (t : Turn). IsPlayed (record (turns r t) { alarms = alarms })) (sym e) p
  follows_on setup r alarms turn after (inr followed) p = begun_on setup r alarms turn after followed.begun followed.sent p

  after_on : (setup : Setup) (r : Relation) (turn : Turn) → IsPlayed (turns r turn) → IsPlayed (turns r (after_turn setup (can_begin r.live) turn))
  after_on setup r turn p = follows_on setup r r.alarms turn (after_turn setup (can_begin r.live) turn) (follows setup (can_begin r.live) turn) p

  stays_on : (r : Relation) → IsPlayed r → IsPlayed (turns r (stays r.live))
  stays_on r p = inactive_on r (stays r.live) p (at_priority priority r.live (stays r.live) (inactive_stays r.live))

  -- ---- at the device

  raise_on : (r : Relation) (p : IsPlayed r) (alarm : AlarmNotification) (standing : Option AlarmNotification)
      → happens (world_of r p.confirms) (happening.Raise alarm) ≡ after_raise (world_of r p.confirms) alarm standing
      → IsPlayed (raised_by r alarm standing)
  raise_on r p alarm None e = goes_on r p (happening.Raise alarm ∷ []) (raised_by r alarm None) p.confirms e p.reported p.same p.shown
  raise_on r p alarm (Some notification) e = p

  device_passes : (r : Relation) → IsPlayed r → IsPlayed (passed_at_device r)
  device_passes r p =
      let taken_is = lines_taken r.alarms (send_number r.device.sender.sending.last) r.device.sender.standing (due r.device.sender.sending) in
      goes_on r p (happening.DeviceTick ∷ []) (passed_at_device r) p.confirms refl p.reported
      (p.same ∙ ap length (sym taken_is)) (p.shown ∙ ap last_of (sym taken_is))

  ack_passes : (r : Relation) (number : ℕ) → IsPlayed r → IsPlayed (acked_at_device r number)
  ack_passes r number p = goes_on r p (happening.AckComesToDevice number ∷ []) (acked_at_device r number) p.confirms refl p.reported p.same p.shown

  confirms_on : (r : Relation) (p : IsPlayed r) (header : Header) (ack : AlarmAck) (is : Bool) → IsOneOf is p.confirms.pdus header ack
      → IsPlayed (if is then record r { device = end_behind r.device (notice.Data header.send_number ack) } else r)
  confirms_on r p header ack true there =
      goes_on r p (happening.ConfirmComes there.0 ∷ []) (record r { device = end_behind r.device (notice.Data header.send_number ack) })
      (with_come p.confirms r.device.seen (header.send_number, ack))
      (ap (after_confirms (world_of r p.confirms)) there.1) p.reported p.same p.shown
  confirms_on r p header ack false there = p

  message_on : (r : Relation) (p : IsPlayed r) (message : Sent) → IsThere priority p.confirms.pdus message → IsPlayed (comes_to_device priority r (Some message))
  message_on r p (Confirms route other header ack) there = confirms_on r p header ack (is_priority priority other) there
  message_on r p message there = p

  comes_on : (r : Relation) (p : IsPlayed r) (place : ℕ) (message : Option Sent) → slice_get r.reported place ≡ message → IsPlayed (comes_to_device priority r message)
  comes_on r p place None e = p
  comes_on r p place (Some message) e =
      message_on r p message (all_at (IsThere priority p.confirms.pdus) r.reported place message p.reported e)

  -- ---- an alarm arrives at the controller

  abbrev taken_now : Relation → ℕ → AlarmNotification → Taken → Relation
  taken_now r number alarm as_what = record (turns r (taken (behind_data r.live priority number) (report_as priority alarm) as_what)) {
    alarms = record r.alarms { taken = more_taken r.alarms.taken alarm as_what };
  }

  abbrev arrived : Relation → Line AlarmAck → ℕ → AlarmNotification → Taken → World
  arrived r confirms number alarm as_what = record (world_of r confirms) {
    controller = with_data (end_of r.live priority) number;
    alarms = record r.alarms { taken = more_taken r.alarms.taken alarm as_what };
  }

  confirm_now : (w : World) (ack : AlarmAck) → length w.confirms.sent < length w.alarms.taken
      → after_confirm w ack ≡ record w {
        controller = confirmed w.controller ack;
        confirms = with_sent w.confirms (send_number (confirmed w.controller ack).sending.last) ack;
      }
  confirm_now w ack more =
      ap (λ (is : Bool). if is then record w {
        controller = confirmed w.controller ack;
        confirms = with_sent w.confirms (send_number (confirmed w.controller ack).sending.last) ack;
      } else w) (less_is (length w.confirms.sent) (length w.alarms.taken) more)

  one_longer : {A : Type 0} (xs : List A) (x : A) → length (xs ++ x ∷ []) ≡ suc (length xs)
  one_longer xs x = omega (arith, length-append xs (x ∷ []))

  -- it is no new one
  old_on : (r : Relation) (p : IsPlayed r) (place number : ℕ) (alarm : AlarmNotification) (sent : List Sent)
      → happens (world_of r p.confirms) (happening.AlarmComes place) ≡ arrived r p.confirms number alarm Again → AllByRecursion IsNoAck sent
      → IsPlayed (turns r (record { live = behind_data r.live priority number; sent = sent }))
  old_on r p place number alarm sent e none =
      goes_on r p (happening.AlarmComes place ∷ []) (turns r (record { live = behind_data r.live priority number; sent = sent })) p.confirms
      (e ∙ ap (λ (end : ControllerEnd). record (world_of r p.confirms) { controller = end }) (sym (old_end priority r.live number)))
      (all_behind (IsThere priority p.confirms.pdus) r.reported sent p.reported (no_acks_there priority p.confirms.pdus sent none))
      p.same (old_shown priority r.live number ∙ p.shown)

  takes_on : (r : Relation) (p : IsPlayed r) (place number : ℕ) (alarm : AlarmNotification) (as_what : Taken)
      → happens (world_of r p.confirms) (happening.AlarmComes place) ≡ arrived r p.confirms number alarm as_what
      → IsPlayed (taken_now r number alarm as_what)
  takes_on r p place number alarm New e =
      let ack = ack_of alarm in
      let now = arrived r p.confirms number alarm New in
      let sent_as = send_number (confirmed (with_data (end_of r.live priority) number) ack).sending.last in
      let confirms = with_sent p.confirms sent_as ack in
      let turn = taken (behind_data r.live priority number) (report_as priority alarm) New in
      let longer = one_longer r.alarms.taken alarm in
      goes_on r p (happening.AlarmComes place ∷ happening.Confirm ack ∷ []) (taken_now r number alarm New) confirms
      (ap (λ (w : World). after_confirm w ack) e
      ∙ (confirm_now now ack (omega (arith, longer, p.same))
      ∙ ap (λ (end : ControllerEnd). record now { controller = end; confirms = confirms }) (sym (new_end priority r.live number alarm))))
      (all_behind (IsThere priority confirms.pdus) r.reported turn.sent
      (all_stay priority p.confirms.pdus confirms.pdus (one_more p.confirms.pdus (sent_as, ack)) r.reported p.reported)
      (new_sent priority r.live number alarm confirms.pdus (length p.confirms.pdus) (at_end p.confirms.pdus (sent_as, ack))))
      (omega (arith, longer, one_longer p.confirms.sent ack, p.same))
      (new_shown priority r.live number alarm ∙ sym (last_is r.alarms.taken alarm))
  takes_on r p place number alarm Again e = old_on r p place number alarm _ e (tt, tt)
  takes_on r p place number alarm Refused e = old_on r p place number alarm _ e (tt, tt)

  -- It is handled, or not.
  looks_on : (r : Relation) (p : IsPlayed r) (under : Priority) (place : ℕ) (data_is : ℕ × AlarmNotification) (is : Bool) → slice_get r.alarms.pdus place ≡ Some data_is
      → IsPlayed (record (turns r (if is then noticed r.live under (notice.Data data_is.0 (report_as priority data_is.1)) else stays r.live)) {
        alarms = if is then with_come r.alarms (end_of r.live priority).seen data_is else r.alarms;
      })
  looks_on r p under place data_is true there =
      takes_on r p place data_is.0 data_is.1 (taken_as (end_of r.live priority).seen data_is.0)
      (ap (after_alarm (world_of r p.confirms)) there)
  looks_on r p under place data_is false there = stays_on r p

  alarm_on : (setup : Setup) (r : Relation) (p : IsPlayed r) (source : Mac) (under : Priority) (header : Header) (place : ℕ) (data_is : Option (ℕ × AlarmNotification))
      → slice_get r.alarms.pdus place ≡ data_is → IsPlayed (alarm_comes priority setup r source under header data_is)
  alarm_on setup r p source under header place None there = p
  alarm_on setup r p source under header place (Some data_is) there =
      let turn = alarmed r.live source under header (notice.Data data_is.0 (report_as priority data_is.1)) in
      follows_on setup r (if is_looked_at r source header then with_come r.alarms (end_of r.live priority).seen data_is else r.alarms)
      turn (after_turn setup (can_begin r.live) turn) (follows setup (can_begin r.live) turn)
      (looks_on r p under place data_is (is_looked_at r source header) there)

  -- ---- an ACK arrives at the controller, or anything else

  other_data : (r : Relation) (p : IsPlayed r) (under : Priority) (number : ℕ) (report : Report) (is : Bool) → is_priority priority report.priority ≡ false
      → IsPlayed (turns r (if is then noticed r.live under (notice.Data number report) else stays r.live))
  other_data r p under number report true e =
      inactive_on r (noticed r.live under (notice.Data number report)) p
      (other_inactive priority report.priority e r.live number report.notification report.user_structure (taken_as (end_of r.live report.priority).seen number))
  other_data r p under number report false e = stays_on r p

  data_on : (setup : Setup) (r : Relation) (p : IsPlayed r) (source : Mac) (under : Priority) (header : Header) (number : ℕ) (report : Report) (is : Bool)
      → is_priority priority report.priority ≡ is
      → IsPlayed (if is then r else turns r (turned setup r.live (Alarms source under header (notice.Data number report))))
  data_on setup r p source under header number report true e = p
  data_on setup r p source under header number report false e =
      after_on setup r (alarmed r.live source under header (notice.Data number report)) (other_data r p under number report (is_looked_at r source header) e)

  passes_on : (r : Relation) (p : IsPlayed r) (number : ℕ) (live : Live) → end_of live priority ≡ end_of (behind_ack r.live priority number) priority
      → end_of (behind_ack r.live priority number) priority ≡ (happens (world_of r p.confirms) (happening.AckComesToController number)).controller
      → shown_of priority live ≡ shown_of priority r.live → IsPlayed (turns r (stays live))
  passes_on r p number live e f shown =
      goes_on r p (happening.AckComesToController number ∷ []) (turns r (stays live)) p.confirms
      (ap (λ (end : ControllerEnd). record (world_of r p.confirms) { controller = end }) (sym (e ∙ f)))
      (all_behind (IsThere priority p.confirms.pdus) r.reported [] p.reported tt) p.same (shown ∙ p.shown)

acked_on : (priority other : Priority) (r : Relation) (p : IsPlayed priority r) (number : ℕ) → IsPlayed priority (turns r (stays (behind_ack r.live other number)))
acked_on High High r p number = passes_on High r p number (behind_ack r.live High number) refl refl refl
acked_on Low Low r p number = passes_on Low r p number (behind_ack r.live Low number) refl refl refl
acked_on High Low r p number = inactive_on High r (stays (behind_ack r.live Low number)) p (record { end = refl; shown = refl; sent = λ pdus. tt })
acked_on Low High r p number = inactive_on Low r (stays (behind_ack r.live High number)) p (record { end = refl; shown = refl; sent = λ pdus. tt })

module _ (priority : Priority) where
  ack_on : (r : Relation) (p : IsPlayed priority r) (under : Priority) (number : ℕ) (is : Bool)
      → IsPlayed priority (turns r (if is then noticed r.live under (notice.Ack number) else stays r.live))
  ack_on r p under number true = acked_on priority (acked_under r.live under) r p number
  ack_on r p under number false = stays_on priority r p

  hears_on : (setup : Setup) (r : Relation) (p : IsPlayed priority r) (heard : Heard) → IsPlayed priority (hears priority setup r heard)
  hears_on setup r p (Alarms source under header (notice.Data number report)) =
      data_on priority setup r p source under header number report (is_priority priority report.priority) refl
  hears_on setup r p (Alarms source under header (notice.Ack number)) =
      after_on priority setup r (alarmed r.live source under header (notice.Ack number)) (ack_on r p under number (is_looked_at r source header))
  hears_on setup r p heard =
      inactive_on priority r (turned setup r.live heard) p (at_priority priority r.live (turned setup r.live heard) (turn_inactive setup r.live (came.Hears heard) tt))

  -- ---- a unit passes at the controller

  -- `high` is due of the alarms of high priority, `low` of those of low priority, and `either` of any.
  flows_on : (r : Relation) (p : IsPlayed priority r) (waited : ℕ) (places : Told) (access : Accessing) (is_request : Bool) (high low either : Due) (reason : Option Abort)
      → happens (world_of priority r p.confirms) happening.ControllerTick ≡ record (world_of priority r p.confirms) {
        controller = controller_later (end_of r.live priority);
        confirms = line_later priority p.confirms r.live (due_at priority high low);
      }
      → IsPlayed priority (turns r (flowed (flow_with r.live waited places access) high low is_request (tick_by r.live.cyclic either reason) reason))
  flows_on r p waited places access is_request high low either (Some reason) e =
      let line = line_later priority p.confirms r.live (due_at priority high low) in
      let turn = flowed (flow_with r.live waited places access) high low is_request (tick_by r.live.cyclic either (Some reason)) (Some reason) in
      goes_on priority r p (happening.ControllerTick ∷ []) (turns r turn) line
      (e ∙ ap (λ (end : ControllerEnd). record (world_of priority r p.confirms) { controller = end; confirms = line }) (sym (broken_end priority r.live waited places access reason)))
      (all_behind (IsThere priority line.pdus) r.reported turn.sent
      (all_stay priority p.confirms.pdus line.pdus
      (lines_extend p.confirms (send_number (end_of r.live priority).sending.last) (end_of r.live priority).confirming (due_at priority high low)) r.reported p.reported)
      (tt, tt))
      (ap length (lines_same p.confirms (send_number (end_of r.live priority).sending.last) (end_of r.live priority).confirming (due_at priority high low)) ∙ p.same)
      (broken_shown priority r.live waited places access reason ∙ p.shown)
  flows_on r p waited places access is_request high low either None e =
      let line = line_later priority p.confirms r.live (due_at priority high low) in
      let live = flow_with r.live waited places access in
      let tick = tick_by r.live.cyclic either None in
      let There = IsThere priority line.pdus in
      let acks = acks_there priority p.confirms r.live waited places access high low in
      let high_acks = where_due (is_again_due high) (acks_of live High) in
      let low_acks = where_due (is_again_due low) (acks_of live Low) in
      let request = where_due is_request (pending_by live live.asked) in
      let outputs = where_due tick.is_cyclic (outputs_of live) in
      goes_on priority r p (happening.ControllerTick ∷ []) (turns r (flowed live high low is_request tick None)) line
      (e ∙ ap (λ (end : ControllerEnd). record (world_of priority r p.confirms) { controller = end; confirms = line }) (sym (later_end priority r.live waited places access)))
      (all_behind There r.reported (due_frames live (is_again_due high) (is_again_due low) is_request tick.is_cyclic)
      (all_stay priority p.confirms.pdus line.pdus
      (lines_extend p.confirms (send_number (end_of r.live priority).sending.last) (end_of r.live priority).confirming (due_at priority high low)) r.reported p.reported)
      (all_behind There high_acks (low_acks ++ (request ++ outputs)) acks.of_high
      (all_behind There low_acks (request ++ outputs) acks.of_low
      (all_behind There request outputs
      (no_acks_there priority line.pdus request (pending_no_ack live live.asked is_request))
      (no_acks_there priority line.pdus outputs (outputs_no_ack live tick.is_cyclic))))))
      (ap length (lines_same p.confirms (send_number (end_of r.live priority).sending.last) (end_of r.live priority).confirming (due_at priority high low)) ∙ p.same)
      (later_shown priority r.live waited places access ∙ p.shown)

  -- The reason of a tick is the one from which it was made.
  reason_is : (r : Relation) (either : Due) (reason : Option Abort) → (tick_by r.live.cyclic either reason).ending ≡ reason
  reason_is r either (Some reason) = refl
  reason_is r either None = refl

  stands_on : (setup : Setup) (r : Relation) (p : IsPlayed priority r) (is : Bool)
      → IsPlayed priority (turns r (if is then flowed (flow_begun setup r.live) (due r.live.alarms.sending) (due r.live.low_alarms.sending) (is_again r.live) (brought r.live) (brought r.live).ending
      else record { live = unit_begun setup r.live; sent = where_due (is_again r.live) (requests_of r.live.device r.live.asked) }))
  stands_on setup r p true =
      let high = due r.live.alarms.sending in
      let low = due r.live.low_alarms.sending in
      let either = either_due high low in
      let reason = ending_of r.live.cyclic either in
      let next = flow_begun setup r.live in
      subst (λ (o : Option Abort). IsPlayed priority (turns r (flowed next high low (is_again r.live) (tick_by r.live.cyclic either reason) o))) (sym (reason_is r either reason))
      (subst (λ (l : Live). IsPlayed priority (turns r (flowed l high low (is_again r.live) (tick_by r.live.cyclic either reason) reason)))
      (sym (begun_beside setup (flow_later r.live) next (flows setup r.live)))
      (flows_on r p next.waited next.places next.access (is_again r.live) high low either reason
      (ap (λ (due_now : Due). record (world_of priority r p.confirms) { controller = controller_later (end_of r.live priority); confirms = line_later priority p.confirms r.live due_now })
      (same_due priority r.live))))
  stands_on setup r p false =
      let next = unit_begun setup r.live in
      inactive_on priority r (record { live = next; sent = where_due (is_again r.live) (requests_of r.live.device r.live.asked) }) p
      (idle_at priority r.live next (where_due (is_again r.live) (requests_of r.live.device r.live.asked))
      (begun_beside setup (later r.live) next (begins_so setup (is_again r.live) (later r.live))) (requests_no_ack r.live.device r.live.asked (is_again r.live)))

  plain_on : (r : Relation) (turn : Turn) → IsPlayed priority r → IsInactive r.live turn → IsPlayed priority (turns r turn)
  plain_on r turn p is = inactive_on priority r turn p (at_priority priority r.live turn is)

  -- The patience of the phase ends with a unit, in this phase; or it does not.
  quit_inactive : (setup : Setup) (live : Live) (phase : State) → IsInactive live (quit setup NoProgress (later live) phase)
  quit_inactive setup live Looking = record { high = refl; low = refl; alarm = refl; low_alarm = refl; sent = tt }
  quit_inactive setup live Addressing = record { high = refl; low = refl; alarm = refl; low_alarm = refl; sent = tt }
  quit_inactive setup live (Ended cause) = record { high = refl; low = refl; alarm = refl; low_alarm = refl; sent = tt }
  quit_inactive setup live phase = record { high = refl; low = refl; alarm = refl; low_alarm = refl; sent = (tt, tt) }

  spent_on : (setup : Setup) (r : Relation) (p : IsPlayed priority r) (is : Bool) (phase : State)
      → IsPlayed priority (turns r (if is then quit setup NoProgress (later r.live) phase else gone_on (unit_begun setup r.live) (is_again r.live)))
  spent_on setup r p true phase = plain_on r (quit setup NoProgress (later r.live) phase) p (quit_inactive setup r.live phase)
  spent_on setup r p false phase = subst (λ (t : Turn). IsPlayed priority (turns r t)) (sym (gone_is setup r.live)) (stands_on setup r p r.live.stands)

  -- ---- any moves

  one_on : (setup : Setup) (r : Relation) (move : Move) → IsPlayed priority r → IsPlayed priority (behind_one priority setup r move)
  one_on setup r (Raises alarm) p = raise_on priority r p alarm r.device.sender.standing refl
  one_on setup r PassesAtDevice p = device_passes priority r p
  one_on setup r (ComesToDevice place) p = comes_on priority r p place (slice_get r.reported place) refl
  one_on setup r (AckComesToDevice number) p = ack_passes priority r number p
  one_on setup r (AlarmComes source under header place) p = alarm_on priority setup r p source under header place (slice_get r.alarms.pdus place) refl
  one_on setup r (Hears heard) p = hears_on setup r p heard
  one_on setup r PassesAtController p = spent_on setup r p (is_spent r.live) r.live.phase
  one_on setup r (Gives slot subslot value) p =
      plain_on r (stays (given r.live slot subslot value)) p (record { high = refl; low = refl; alarm = refl; low_alarm = refl; sent = tt })
  one_on setup r (GivesStatus slot subslot is_good) p =
      plain_on r (stays (rated r.live slot subslot is_good)) p (record { high = refl; low = refl; alarm = refl; low_alarm = refl; sent = tt })
  one_on setup r (Reads slot subslot index) p =
      plain_on r (requested setup r.live service.Read slot subslot index []) p (turn_inactive setup r.live (came.AsksRead slot subslot index) tt)
  one_on setup r (Writes slot subslot index octets) p =
      plain_on r (written setup r.live slot subslot index octets) p (turn_inactive setup r.live (came.AsksWrite slot subslot index octets) tt)
  one_on setup r Stops p = plain_on r (stopped setup r.live r.live.phase) p (turn_inactive setup r.live came.Halts tt)

  all_on : (setup : Setup) (moves : List Move) (r : Relation) → IsPlayed priority r → IsPlayed priority (behind priority setup moves r)
  all_on setup [] r p = p
  all_on setup (move ∷ moves) r p = all_on setup moves (behind_one priority setup r move) (one_on setup r move p)

begins : (priority : Priority) (setup : Setup) → IsPlayed priority (start setup)
begins High setup = record { confirms = empty; moves = []; made = refl; reported = tt; same = refl; shown = refl }
begins Low setup = record { confirms = empty; moves = []; made = refl; reported = tt; same = refl; shown = refl }

played : (priority : Priority) (setup : Setup) (moves : List Move) → IsPlayed priority (behind priority setup moves (start setup))
played priority setup moves = all_on priority setup moves (start setup) (begins priority setup)

-- ---- the law

pub are_taken_in_order : AreExchangedInOrder → AreTakenInOrder
are_taken_in_order law priority setup moves few =
    let p = played priority setup moves in
    subst (λ (w : World). length w.alarms.sent ≤ 32768 → IsPrefixOf w.alarms.taken w.alarms.sent) p.made (law 1 3 p.moves) few

pub lack_at_most_the_last : LackAtMostOne → LackAtMostTheLast
lack_at_most_the_last law priority setup moves few =
    let p = played priority setup moves in
    subst (λ (w : World). length w.alarms.sent ≤ 32768 → length w.alarms.sent ≤ length w.alarms.taken + 1) p.made (law 1 3 p.moves) few

pub are_all_taken : AreAllExchanged → AreAllTaken
are_all_taken law priority setup moves few none =
    let p = played priority setup moves in
    subst (λ (w : World). length w.alarms.sent ≤ 32768 → w.device.sender.standing ≡ None → w.alarms.taken ≡ w.alarms.sent) p.made (law 1 3 p.moves) few none

pub shows_the_last : ShowsTheLast
shows_the_last priority setup moves = (played priority setup moves).shown
