-- What a unit of time and a cyclic frame do to the parts of a controller's state.
use Rattle.std.proofs.Common.{◌≡◌, ◌+◌, ◌%◌, ◌==◌, ◌&&◌, ◌≤◌, ◌<◌, ℕ, suc, Bool, true, false, List, Option}
use Rattle.std.proofs.Common.{Some, None, Result, Ok, Err, if◌then◌else◌, refl, sym, ap, subst, ◌∙◌, arith}
use Rattle.std.specs.Prelude.{min}
use Rattle.std.proofs.lemmas.Bool.{ne_eqb}
use Rattle.pn_values.specs.declared.mac.Mac.{Mac}
use Rattle.pn_alarms.specs.declared.abort.Abort.{Abort}
use Rattle.pn_alarms.specs.declared.abort.Abort.TheVariants.{DataHold}
use Rattle.pn_alarms.specs.declared.repeats.Due.{Due}
use Rattle.pn_alarms.specs.declared.repeats.Due.TheVariants.{Nothing, Again, Spent}
use Rattle.pn_alarms.specs.Sending.{Sending, due_behind, either_due, is_again, waiting_behind}
use Rattle.cyclic_data.specs.declared.tail.CyclicTail.{CyclicTail}
use Rattle.cyclic_data.specs.declared.tail.ShortFrame.{ShortFrame}
use Rattle.cyclic_data.specs.Tail.{cyclic_of}
use Rattle.cyclic_data.specs.Timing.{Hearing, held_on, is_due, is_taken}
use Rattle.cyclic_data.specs.exchange.Cyclic.{Cyclic}
use Rattle.cyclic_data.specs.exchange.Received.{behind_frame, behind_read, is_new, is_of_partner, taken_from}
use Rattle.cyclic_data.specs.exchange.Units.{Brought, ending_by, is_silent, tick_by, tick_of}
use Rattle.rounds_law.specs.Path.{WaitsFew}

-- ---- alarms

early : (s : Sending) (units age : ℕ) → units ≤ age → age < 3000 → 3200 ≤ s.limit → (units + 1 == s.limit) ≡ false
early s units age few young long = ne_eqb (units + 1) s.limit (λ same. omega (arith, few, young, long, same))

not_spent : (is_again : Bool) → ending_by (if is_again then Again else Nothing) ≡ None
not_spent true = refl
not_spent false = refl

-- Data that waits for its ACK is not given up so soon.
pub kept_by : (s : Sending) (waiting : Option ℕ) (age : ℕ) → WaitsFew age waiting → age < 3000 → 3200 ≤ s.limit → ending_by (due_behind s waiting) ≡ None
kept_by s None age few young long = refl
kept_by s (Some units) age few young long =
    ap (λ (b : Bool). ending_by (if b then Spent else (if (units + 1) % s.interval == 0 then Again else Nothing))) (early s units age few young long)
    ∙ not_spent ((units + 1) % s.interval == 0)

-- It waits a unit longer.
pub waits_on : (s : Sending) (waiting : Option ℕ) (age : ℕ) → WaitsFew age waiting → age < 3000 → 3200 ≤ s.limit → WaitsFew (suc age) (waiting_behind s waiting)
waits_on s None age few young long = tt
waits_on s (Some units) age few young long =
    subst (λ (b : Bool). WaitsFew (suc age) (if b then None else Some (units + 1))) (sym (early s units age few young long)) (omega (arith, few))

pub either_kept : (high low : Due) → ending_by high ≡ None → ending_by low ≡ None → ending_by (either_due high low) ≡ None
either_kept high Nothing one other = one
either_kept Spent Again one other = absurd cc
either_kept Again Again one other = refl
either_kept Nothing Again one other = refl
either_kept high Spent one other = absurd cc

-- ---- the data hold time

unheld_by : (begun : Bool) (held limit : ℕ) → held + 2 ≤ limit → (begun && (min limit (held + 1) == limit)) ≡ false
unheld_by true held limit more = ne_eqb (min limit (held + 1)) limit (λ same. omega (arith, more, same))
unheld_by false held limit more = refl

-- It is not over yet.
pub unheld : (cyclic : Cyclic) (age limit : ℕ) → age + 2 ≤ limit → cyclic.hearing.held ≤ age → cyclic.hearing.limit ≡ limit → is_silent cyclic ≡ false
unheld cyclic age limit more few is = unheld_by cyclic.begun cyclic.hearing.held cyclic.hearing.limit (omega (arith, more, few, is))

-- It does not run before data is exchanged.
pub unbegun_heard : (cyclic : Cyclic) → cyclic.begun ≡ false → is_silent cyclic ≡ false
unbegun_heard cyclic none = ap (λ (b : Bool). b && ((held_on cyclic.hearing).held == cyclic.hearing.limit)) none

pub limit_later : (begun : Bool) (hearing : Hearing) → (if begun then held_on hearing else hearing).limit ≡ hearing.limit
limit_later true hearing = refl
limit_later false hearing = refl

pub held_later : (begun : Bool) (hearing : Hearing) (age : ℕ) → hearing.held ≤ age → (if begun then held_on hearing else hearing).held ≤ suc age
held_later true hearing age few = omega (arith, few)
held_later false hearing age few = omega (arith, few)

-- ---- what a unit brings

abbrev pub brings_these : Bool → Bool → Brought
brings_these is_alarm is_cyclic = record { ending = None; is_alarm = is_alarm; is_cyclic = is_cyclic }

-- If nothing ends the relation.
pub brings : (cyclic : Cyclic) (alarm : Due) → is_silent cyclic ≡ false → ending_by alarm ≡ None
    → tick_of cyclic alarm ≡ brings_these (is_again alarm) (is_due cyclic.sending)
brings cyclic alarm heard none =
    ap (λ (b : Bool). tick_by cyclic alarm (if b then Some DataHold else ending_by alarm)) heard ∙ ap (λ (e : Option Abort). tick_by cyclic alarm e) none

-- ---- a cyclic frame

-- The data hold time may start again, and the rest of what counts here is the same.
pub record IsHeardOn (before after : Cyclic) : Type 0 where
  pub route : after.route ≡ before.route
  pub begun : after.begun ≡ before.begun
  pub limit : after.hearing.limit ≡ before.hearing.limit
  pub held : after.hearing.held ≤ before.hearing.held

pub as_before : (cyclic : Cyclic) → IsHeardOn cyclic cyclic
as_before cyclic = record { route = refl; begun = refl; limit = refl; held = omega arith }

abbrev started_again : Hearing → ℕ → Bool → Hearing
started_again hearing counter is = if is then record { last = Some counter; held = 0; limit = hearing.limit } else hearing

limit_again : (hearing : Hearing) (counter : ℕ) (is : Bool) → (started_again hearing counter is).limit ≡ hearing.limit
limit_again hearing counter true = refl
limit_again hearing counter false = refl

held_again : (hearing : Hearing) (counter : ℕ) (is : Bool) → (started_again hearing counter is).held ≤ hearing.held
held_again hearing counter true = omega arith
held_again hearing counter false = omega arith

taken_on : (cyclic : Cyclic) (octets : List ℕ) (tail : CyclicTail) → IsHeardOn cyclic (taken_from cyclic octets tail)
taken_on cyclic octets tail =
    let is = is_taken cyclic.hearing.last tail.counter tail.data_status.0 tail.transfer_status in
    record { route = refl; begun = refl; limit = limit_again cyclic.hearing tail.counter is; held = held_again cyclic.hearing tail.counter is }

either_on : (cyclic one other : Cyclic) (is : Bool) → IsHeardOn cyclic one → IsHeardOn cyclic other → IsHeardOn cyclic (if is then one else other)
either_on cyclic one other true first second = first
either_on cyclic one other false first second = second

read_on : (cyclic : Cyclic) (read : Result (List ℕ × CyclicTail) ShortFrame) → IsHeardOn cyclic (behind_read cyclic read)
read_on cyclic (Ok x) = either_on cyclic (taken_from cyclic x.0 x.1) cyclic (is_new cyclic x.1) (taken_on cyclic x.0 x.1) (as_before cyclic)
read_on cyclic (Err short) = as_before cyclic

pub frame_on : (cyclic : Cyclic) (source : Mac) (frame_id : ℕ) (body : List ℕ) → IsHeardOn cyclic (behind_frame cyclic source frame_id body)
frame_on cyclic source frame_id body =
    let read = cyclic_of cyclic.taken.data_length body in
    either_on cyclic (behind_read cyclic read) cyclic (is_of_partner cyclic.route source frame_id) (read_on cyclic read) (as_before cyclic)
