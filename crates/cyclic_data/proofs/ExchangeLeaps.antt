-- Several units of time at once, before the next one with which something is due of one end.
use Rattle.std.proofs.Common.{◌≡◌, ◌+◌, ◌-◌, ◌<◌, ◌≤◌, ◌==◌, ◌&&◌, ℕ, zero, suc, Bool, true, false, Some, None, refl, sym, ap, subst, ◌∙◌, arith, if◌then◌else◌}
use Rattle.std.specs.Prelude.{min, max}
use Rattle.std.proofs.lemmas.Bool.{ne_eqb}
use Rattle.std.proofs.lemmas.Bool.Decides.{nat_tests}
use Rattle.cyclic_data.specs.Leaps.{frame_due_in, held_for, over_in, units_later}
use Rattle.cyclic_data.specs.Timing.{Hearing, Sending, held_on, is_due, unit_later}
use Rattle.pn_alarms.specs.declared.abort.Abort.TheVariants.{DataHold}
use Rattle.pn_alarms.specs.declared.repeats.Due.TheVariants.{Nothing}
use Rattle.pn_alarms.specs.Leaps.{after, never}
use Rattle.cyclic_data.specs.exchange.Cyclic.{Cyclic}
use Rattle.cyclic_data.specs.exchange.Leaps.{IsQuiet, IsQuietFor, cyclic_due_in, frame_alone, silent_in}
use Rattle.cyclic_data.specs.exchange.Units.{Brought, cyclic_later, tick_by, tick_of}

pub below_both : (number one other : ℕ) → number < min one other → (number < one) × (number < other)
below_both number one other below = (omega (arith, below), omega (arith, below))

-- ---- frames

frame_nothing : (sending : Sending) (units : ℕ) → suc units < frame_due_in sending → is_due (units_later units sending) ≡ false
frame_nothing sending units before = ne_eqb (sending.elapsed + units + 1) sending.interval (λ e. omega (arith, e, before))

abbrev with_elapsed : Sending → ℕ → Sending
with_elapsed sending elapsed = record { interval = sending.interval; elapsed = elapsed }

frame_next : (sending : Sending) (units : ℕ) → suc units < frame_due_in sending → unit_later (units_later units sending) ≡ units_later (suc units) sending
frame_next sending units before =
    let one : sending.elapsed + units + 1 ≡ sending.elapsed + suc units = omega arith in
    ap (λ (b : Bool). with_elapsed sending (if b then 0 else sending.elapsed + units + 1)) (frame_nothing sending units before) ∙ ap (with_elapsed sending) one

frame_none : (sending : Sending) → sending ≡ units_later 0 sending
frame_none sending = let none : sending.elapsed ≡ sending.elapsed + 0 = omega arith in ap (with_elapsed sending) none

-- ---- the data hold time

held_below : (limit held : ℕ) → held < limit → (min limit held == limit) ≡ false
held_below limit held below = ne_eqb (min limit held) limit (λ e. omega (arith, e, below))

not_over : (limit held units : ℕ) → suc units < max 1 (limit - held) → held + units + 1 < limit
not_over limit held units before = omega (arith, before)

abbrev with_held : Hearing → ℕ → Hearing
with_held hearing held = record { last = hearing.last; held = held; limit = hearing.limit }

held_next : (hearing : Hearing) (units : ℕ) → suc units < over_in hearing → held_on (held_for units hearing) ≡ held_for (suc units) hearing
held_next hearing units before =
    let below = not_over hearing.limit hearing.held units before in
    let one : min hearing.limit (hearing.held + units + 1) ≡ hearing.held + suc units = omega (arith, below) in
    ap (with_held hearing) one

-- The watchdog runs or not.
abbrev hearing_by : Bool → ℕ → Hearing → Hearing
hearing_by begun units hearing = if begun then held_for units hearing else hearing

hearing_next : (begun : Bool) (hearing : Hearing) (units : ℕ) → suc units < (if begun then over_in hearing else never)
    → (if begun then held_on (hearing_by begun units hearing) else hearing_by begun units hearing) ≡ hearing_by begun (suc units) hearing
hearing_next true hearing units before = held_next hearing units before
hearing_next false hearing units before = refl

silent_nothing : (begun : Bool) (hearing : Hearing) (units : ℕ) → suc units < (if begun then over_in hearing else never)
    → (begun && ((held_on (hearing_by begun units hearing)).held == (hearing_by begun units hearing).limit)) ≡ false
silent_nothing true hearing units before = held_below hearing.limit (hearing.held + units + 1) (not_over hearing.limit hearing.held units before)
silent_nothing false hearing units before = refl

hearing_none : (begun : Bool) (hearing : Hearing) → hearing ≡ hearing_by begun 0 hearing
hearing_none true hearing = let none : hearing.held ≡ hearing.held + 0 = omega arith in ap (with_held hearing) none
hearing_none false hearing = refl

-- ---- one end

abbrev with_timers : Cyclic → Sending → Hearing → Cyclic
with_timers cyclic sending hearing = record cyclic { sending = sending; hearing = hearing }

-- The end after several units with which nothing is due: it is the same except for its timers.
abbrev later_by : ℕ → Cyclic → Cyclic
later_by units cyclic = with_timers cyclic (units_later units cyclic.sending) (hearing_by cyclic.begun units cyclic.hearing)

later_next : (cyclic : Cyclic) (units : ℕ) → suc units < cyclic_due_in cyclic → cyclic_later (later_by units cyclic) ≡ later_by (suc units) cyclic
later_next cyclic units before =
    let both = below_both (suc units) _ _ before in
    ap (λ (s : Sending). with_timers cyclic s (if cyclic.begun then held_on (hearing_by cyclic.begun units cyclic.hearing) else hearing_by cyclic.begun units cyclic.hearing))
    (frame_next cyclic.sending units both.0)
    ∙ ap (with_timers cyclic (units_later (suc units) cyclic.sending)) (hearing_next cyclic.begun cyclic.hearing units both.1)

pub later_after : (cyclic : Cyclic) (units : ℕ) → units < cyclic_due_in cyclic → after cyclic_later units cyclic ≡ later_by units cyclic
later_after cyclic zero before =
    ap (λ (s : Sending). with_timers cyclic s cyclic.hearing) (frame_none cyclic.sending)
    ∙ ap (with_timers cyclic (units_later 0 cyclic.sending)) (hearing_none cyclic.begun cyclic.hearing)
later_after cyclic (suc units) before = ap cyclic_later (later_after cyclic units (omega (arith, before))) ∙ later_next cyclic units before

quiet_at : (cyclic : Cyclic) (units : ℕ) → suc units < cyclic_due_in cyclic → IsQuiet (later_by units cyclic)
quiet_at cyclic units before =
    let both = below_both (suc units) _ _ before in
    (silent_nothing cyclic.begun cyclic.hearing units both.1, frame_nothing cyclic.sending units both.0)

pub quiet_for : (cyclic : Cyclic) (units : ℕ) → units < cyclic_due_in cyclic → IsQuietFor units cyclic
quiet_for cyclic units below before earlier =
    subst IsQuiet (sym (later_after cyclic before (omega (arith, below, earlier)))) (quiet_at cyclic before (omega (arith, below, earlier)))

-- What is due comes nearer by these units, and the end of the data hold time by no more.
pub frame_nearer : (sending : Sending) (units : ℕ) → units < frame_due_in sending → frame_due_in sending ≡ frame_due_in (units_later units sending) + units
frame_nearer sending units below = omega (arith, below)

pub silent_later : (begun : Bool) (hearing : Hearing) (units : ℕ)
    → (if begun then over_in hearing else never) ≤ (if begun then over_in (hearing_by begun units hearing) else never) + units
silent_later true hearing units = omega arith
silent_later false hearing units = omega arith

-- ---- up to the next unit with which a frame is due

frame_reached : (sending : Sending) (units : ℕ) → suc units ≡ frame_due_in sending → is_due (units_later units sending) ≡ true
frame_reached sending units due =
    let reached : sending.elapsed + units + 1 ≡ sending.interval = omega (arith, due) in
    grind (arith, nat_tests)

frame_sent : (sending : Sending) (units : ℕ) → suc units ≡ frame_due_in sending → unit_later (units_later units sending) ≡ with_elapsed sending 0
frame_sent sending units due = ap (λ (b : Bool). with_elapsed sending (if b then 0 else sending.elapsed + units + 1)) (frame_reached sending units due)

-- The end after the units up to the next frame: its interval begins again.
abbrev sent_by : ℕ → Cyclic → Cyclic
sent_by units cyclic = with_timers cyclic (with_elapsed cyclic.sending 0) (hearing_by cyclic.begun units cyclic.hearing)

sent_next : (cyclic : Cyclic) (units : ℕ) → suc units ≡ frame_due_in cyclic.sending → suc units < silent_in cyclic → after cyclic_later (suc units) cyclic ≡ sent_by (suc units) cyclic
sent_next cyclic units due held =
    ap cyclic_later (later_after cyclic units (omega (arith, due, held)))
    ∙ (ap (λ (s : Sending). with_timers cyclic s (if cyclic.begun then held_on (hearing_by cyclic.begun units cyclic.hearing) else hearing_by cyclic.begun units cyclic.hearing))
    (frame_sent cyclic.sending units due)
    ∙ ap (with_timers cyclic (with_elapsed cyclic.sending 0)) (hearing_next cyclic.begun cyclic.hearing units held))

pub sent_after : (cyclic : Cyclic) (units : ℕ) → 0 < units → units ≡ frame_due_in cyclic.sending → units < silent_in cyclic → after cyclic_later units cyclic ≡ sent_by units cyclic
sent_after cyclic zero some due held = absurd (omega (arith, some))
sent_after cyclic (suc units) some due held = sent_next cyclic units due held

last_next : (cyclic : Cyclic) (units : ℕ) → suc units ≡ frame_due_in cyclic.sending → suc units < silent_in cyclic → tick_of (after cyclic_later units cyclic) Nothing ≡ frame_alone
last_next cyclic units due held =
    let later = later_by units cyclic in
    ap (λ (c : Cyclic). tick_of c Nothing) (later_after cyclic units (omega (arith, due, held)))
    ∙ (ap (λ (b : Bool). tick_by later Nothing (if b then Some DataHold else None)) (silent_nothing cyclic.begun cyclic.hearing units held)
    ∙ ap (λ (b : Bool). let brought : Brought = record { ending = None; is_alarm = false; is_cyclic = b } in brought) (frame_reached cyclic.sending units due))

pub last_sends : (cyclic : Cyclic) (units : ℕ) → 0 < units → units ≡ frame_due_in cyclic.sending → units < silent_in cyclic → tick_of (after cyclic_later (units - 1) cyclic) Nothing ≡ frame_alone
last_sends cyclic zero some due held = absurd (omega (arith, some))
last_sends cyclic (suc units) some due held =
    let one : suc units - 1 ≡ units = omega arith in
    rw one (last_next cyclic units due held)

pub quiet_before : (cyclic : Cyclic) (units : ℕ) → 0 < units → units ≡ frame_due_in cyclic.sending → units < silent_in cyclic → IsQuietFor (units - 1) cyclic
quiet_before cyclic units some due held = quiet_for cyclic (units - 1) (omega (arith, some, due, held))
