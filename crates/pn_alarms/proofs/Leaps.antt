-- Several units of time at once, before the next one with which something is due of the alarms.
use Rattle.std.proofs.Common.{◌≡◌, ◌+◌, ◌-◌, ◌%◌, ◌<◌, ◌==◌, ℕ, zero, suc, false, refl, sym, ap, ◌∙◌, arith, Option, Some, None}
use Rattle.std.specs.Prelude.{min, option_map}
use Rattle.std.proofs.Math.Nat.{mod-add-mod, mod-eq_of_lt}
use Rattle.std.proofs.lemmas.Bool.{ne_eqb}
use Rattle.pn_alarms.specs.declared.repeats.Due.TheVariants.{Nothing}
use Rattle.pn_alarms.specs.Alarming.{Alarming}
use Rattle.pn_alarms.specs.Controller.{controller_later}
use Rattle.pn_alarms.specs.Device.{end_later}
use Rattle.pn_alarms.specs.Ends.{ControllerEnd, DeviceEnd}
use Rattle.pn_alarms.specs.Leaps.{NothingDue, ack_due, after, alarm_due, data_due_in, data_later, device_due, waiting_due_in, waiting_later}
use Rattle.pn_alarms.specs.Sender.{later}
use Rattle.pn_alarms.specs.Sending.{Sending, due, due_behind, ticked, waiting_behind}

-- A remainder that grows and stays below the divisor.
remainder_more : (number divisor more : ℕ) → number % divisor + more < divisor → (number + more) % divisor ≡ number % divisor + more
remainder_more number divisor more below = sym (mod-add-mod number divisor more) ∙ mod-eq_of_lt below

-- Before the next unit with which something is due, the data is not given up, and no interval ends.
not_given_up : (s : Sending) (waited units : ℕ) → suc units < waiting_due_in s (Some waited) → (waited + units + 1 == s.limit) ≡ false
not_given_up s waited units before = ne_eqb (waited + units + 1) s.limit (λ e. omega (arith, e, before))

not_sent_again : (s : Sending) (waited units : ℕ) → suc units < waiting_due_in s (Some waited) → ((waited + units + 1) % s.interval == 0) ≡ false
not_sent_again s waited units before =
    let inside : waited % s.interval + (units + 1) < s.interval = omega (arith, before) in
    let joined : waited + units + 1 ≡ waited + (units + 1) = omega arith in
    let is : (waited + units + 1) % s.interval ≡ waited % s.interval + (units + 1) =
    ap (λ (n : ℕ). n % s.interval) joined ∙ remainder_more waited s.interval (units + 1) inside in
    ne_eqb ((waited + units + 1) % s.interval) 0 (λ e. omega (arith, e, is))

waiting_nothing : (s : Sending) (waiting : Option ℕ) (units : ℕ) → suc units < waiting_due_in s waiting → due_behind (data_later units s) (waiting_later units waiting) ≡ Nothing
waiting_nothing s None units before = refl
waiting_nothing s (Some waited) units before = rw (not_given_up s waited units before) (rw (not_sent_again s waited units before) refl)

waiting_next : (s : Sending) (waiting : Option ℕ) (units : ℕ) → suc units < waiting_due_in s waiting → waiting_behind (data_later units s) (waiting_later units waiting) ≡ waiting_later (suc units) waiting
waiting_next s None units before = refl
waiting_next s (Some waited) units before =
    rw (not_given_up s waited units before) (ap (λ (n : ℕ). let o : Option ℕ = Some n in o) (omega arith))

none_later : (waiting : Option ℕ) → waiting ≡ waiting_later 0 waiting
none_later None = refl
none_later (Some waited) = ap (λ (n : ℕ). let o : Option ℕ = Some n in o) (omega arith)

-- ---- many units, one by one

abbrev with_waiting : Sending → Option ℕ → Sending
with_waiting s waiting = record { interval = s.interval; limit = s.limit; last = s.last; waiting = waiting }

pub ticked_after : (s : Sending) (units : ℕ) → units < data_due_in s → after ticked units s ≡ data_later units s
ticked_after s zero before = ap (with_waiting s) (none_later s.waiting)
ticked_after s (suc units) before =
    ap ticked (ticked_after s units (omega (arith, before))) ∙ ap (with_waiting s) (waiting_next s s.waiting units before)

pub nothing_due : (s : Sending) (units : ℕ) → units < data_due_in s → NothingDue due ticked units s
nothing_due s units below before earlier =
    ap due (ticked_after s before (omega (arith, below, earlier))) ∙ waiting_nothing s s.waiting before (omega (arith, below, earlier))

-- ---- the sender, and both ends

pub later_after : (a : Alarming) (units : ℕ) → after later units a ≡ record { sending = after ticked units a.sending; specifier = a.specifier; standing = a.standing }
later_after a zero = refl
later_after a (suc units) = ap later (later_after a units)

pub end_after : (e : DeviceEnd) (units : ℕ) → after end_later units e ≡ record { sender = after later units e.sender; seen = e.seen }
end_after e zero = refl
end_after e (suc units) = ap end_later (end_after e units)

pub controller_after : (c : ControllerEnd) (units : ℕ) → after controller_later units c ≡ record { sending = after ticked units c.sending; confirming = c.confirming; seen = c.seen }
controller_after c zero = refl
controller_after c (suc units) = ap controller_later (controller_after c units)

pub sender_nothing : (a : Alarming) (units : ℕ) → NothingDue due ticked units a.sending → NothingDue alarm_due later units a
sender_nothing a units nothing before earlier = ap alarm_due (later_after a before) ∙ nothing before earlier

pub end_nothing : (e : DeviceEnd) (units : ℕ) → NothingDue alarm_due later units e.sender → NothingDue device_due end_later units e
end_nothing e units nothing before earlier = ap device_due (end_after e before) ∙ nothing before earlier

pub controller_nothing : (c : ControllerEnd) (units : ℕ) → NothingDue due ticked units c.sending → NothingDue ack_due controller_later units c
controller_nothing c units nothing before earlier = ap ack_due (controller_after c before) ∙ nothing before earlier
