-- What became of the open alarm, from whether it is open before and after.
use Rattle.std.proofs.Common.{◌≡◌, ◌∙◌, ℕ, Bool, true, false, Option, None, refl, sym, ap, subst}
use Rattle.std.specs.Prelude.{Result, Ok, Err}
use Rattle.device_frames.specs.declared.event.Event.{Event}
use Rattle.device_frames.specs.declared.note.Note.{Note}
use Rattle.device_frames.specs.Heard.{heard_of}
use Rattle.c_layout.specs.declared.op.Op.{Op}
use Rattle.device_station.specs.declared.port.device.Passed.{Passed}
use Rattle.device_station.specs.declared.port.refusal.Refusal.{Refusal}
use Rattle.device_station.specs.port.Served.{Served, due_both, waiting_both}
use Rattle.device_station.specs.port.ServedSteps.{AnswersBoth, PassesBothOrNot}
use Rattle.device_abi.specs.declared.confirmation.Confirmation.{Confirmation}
use Rattle.device_abi.specs.declared.confirmation.Confirmation.TheVariants.{Nothing, Acknowledged, GivenUp}
use Rattle.device_abi.specs.Confirmed.{confirmation, is_open, over_by, status_by, with_confirmation}
use Rattle.device_abi.specs.Serves.{IsEvent, IsEventWith, IsTick, IsTickWith, answer_of, noted, with_passed}

-- Nothing, if none was open before.
none_before : (was after : Bool) (status : Option ℕ) → was ≡ false → Nothing ≡ confirmation was after status
none_before false after status is = refl
none_before true after status is = cc

-- Nothing, if one is open afterwards.
one_after : (was after : Bool) (status : Option ℕ) → after ≡ true → Nothing ≡ confirmation was after status
one_after true true status is = refl
one_after false true status is = refl
one_after true false status is = cc
one_after false false status is = cc

-- Otherwise it is over.
is_over : (was after : Bool) (status : Option ℕ) → was ≡ true → after ≡ false → over_by status ≡ confirmation was after status
is_over true false status was is = refl
is_over true true status was is = cc
is_over false after status was is = cc

never : {A : Type 0} → true ≡ false → A
never is = cc

-- What is reported last counts.
told_last : (became : Confirmation) (asked : Op) → with_confirmation became (with_confirmation Nothing asked) ≡ with_confirmation became asked
told_last Nothing asked = refl
told_last (Acknowledged status) asked = refl
told_last GivenUp asked = refl

-- ---- frames

-- A frame while no alarm is open before, or while it is open afterwards.
pub heard_without : (old : Served) (event : Event) (asked : Op) (answer : ℕ) (new : Served) (reported : Op) → is_open old ≡ false → IsEventWith Nothing old event asked answer new reported
    → IsEvent old event asked answer new reported
heard_without old event asked answer new reported is =
    subst (λ (c : Confirmation). IsEventWith c old event asked answer new reported) (none_before (is_open old) (is_open new) (status_by (heard_of old.port.device.station.identity event)) is)

pub heard_still : (old : Served) (event : Event) (asked : Op) (answer : ℕ) (new : Served) (reported : Op) → is_open new ≡ true → IsEventWith Nothing old event asked answer new reported
    → IsEvent old event asked answer new reported
heard_still old event asked answer new reported is =
    subst (λ (c : Confirmation). IsEventWith c old event asked answer new reported) (one_after (is_open old) (is_open new) (status_by (heard_of old.port.device.station.identity event)) is)

-- The same with what became of it, which is reported after the event. A refused event leaves it open.
heard_by : (result : Result Note Refusal) (became : Confirmation) (old : Served) (event : Event) (asked : Op) (answer : ℕ) (new : Served) (middle reported : Op)
    → is_open old ≡ true → is_open new ≡ false → AnswersBoth old event result new → answer ≡ answer_of result → middle ≡ noted result Nothing new asked
    → reported ≡ with_confirmation became middle → IsEventWith became old event asked answer new reported
heard_by (Ok note) became old event asked answer new middle reported was is answers done told last =
    (Ok note, answers, done, last ∙ (ap (with_confirmation became) told ∙ told_last became _))
heard_by (Err refusal) became old event asked answer new middle reported was is answers done told last = never (sym was ∙ (sym (ap is_open answers.1) ∙ is))

pub heard_over : (status : Option ℕ) (old : Served) (event : Event) (asked : Op) (answer : ℕ) (new : Served) (middle reported : Op) → is_open old ≡ true → is_open new ≡ false
    → status ≡ status_by (heard_of old.port.device.station.identity event) → IsEventWith Nothing old event asked answer new middle
    → reported ≡ with_confirmation (over_by status) middle → IsEvent old event asked answer new reported
heard_over status old event asked answer new middle reported was is at given last =
    subst (λ (c : Confirmation). IsEventWith c old event asked answer new reported) (ap over_by at ∙ is_over (is_open old) (is_open new) _ was is)
    (heard_by given.0 (over_by status) old event asked answer new middle reported was is given.1 given.2 given.3 last)

-- ---- units of time

pub passed_without : (old : Served) (asked : Op) (answer : ℕ) (new : Served) (reported : Op) → is_open old ≡ false → IsTickWith Nothing old asked answer new reported
    → IsTick old asked answer new reported
passed_without old asked answer new reported is =
    subst (λ (c : Confirmation). IsTickWith c old asked answer new reported) (none_before (is_open old) (is_open new) None is)

pub passed_still : (old : Served) (asked : Op) (answer : ℕ) (new : Served) (reported : Op) → is_open new ≡ true → IsTickWith Nothing old asked answer new reported
    → IsTick old asked answer new reported
passed_still old asked answer new reported is =
    subst (λ (c : Confirmation). IsTickWith c old asked answer new reported) (one_after (is_open old) (is_open new) None is)

passed_by : (result : Result Passed Refusal) (old : Served) (asked : Op) (answer : ℕ) (new : Served) (middle reported : Op) → is_open old ≡ true → is_open new ≡ false
    → PassesBothOrNot old asked.units result new → answer ≡ answer_of result → middle ≡ with_passed result Nothing new asked → reported ≡ with_confirmation GivenUp middle
    → IsTickWith GivenUp old asked answer new reported
passed_by (Ok passed) old asked answer new middle reported was is passes done told last =
    (Ok passed, passes, done, last ∙ (ap (with_confirmation GivenUp) told ∙ told_last GivenUp (record asked { units = passed.left; due = due_both new; note = 0; work = waiting_both new })))
passed_by (Err refusal) old asked answer new middle reported was is passes done told last = never (sym was ∙ (sym (ap is_open passes.1) ∙ is))

pub passed_over : (old : Served) (asked : Op) (answer : ℕ) (new : Served) (middle reported : Op) → is_open old ≡ true → is_open new ≡ false
    → IsTickWith Nothing old asked answer new middle → reported ≡ with_confirmation GivenUp middle → IsTick old asked answer new reported
passed_over old asked answer new middle reported was is given last =
    subst (λ (c : Confirmation). IsTickWith c old asked answer new reported) (is_over (is_open old) (is_open new) None was is)
    (passed_by given.0 old asked answer new middle reported was is given.1 given.2 given.3 last)
