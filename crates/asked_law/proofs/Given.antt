-- The step in which an answer is accepted.
use Rattle.std.proofs.Common.{◌≡◌, ◌⊎◌, inl, inr, ◌==◌, ◌≤◌, ℕ, Bool, true, false, cond, List, [], ◌∷◌, length, Option, Some, None, option_map, Result, Ok, Err, is_err, refl, sym, ap, subst, arith, eqb-true, true≢false}
use Rattle.std.proofs.lemmas.Bool.{cond_both}
use Rattle.std.specs.List.{AllByRecursion}
use Rattle.arrayvec.specs.ArrayVec.{ArrayVec}
use Rattle.pn_values.specs.IpSuite.{is_zero}
use Rattle.asked_records.specs.Questions.{operation_of}
use Rattle.settings_journal.specs.settings_store.Machine.{Outcome}
use Rattle.asked_records.specs.Answers.{Gives, gives_octets, gives_done, gives_refusal, answer_blocks, answer_status, fault_of, judged, judged_with, question_unless}
use Rattle.asked_records.specs.Asked.{AskedState, Standing, question_in}
use Rattle.asked_records.specs.Runs.{number_if}
use Rattle.asked_records.specs.declared.answering.AnswerFault.{AnswerFault}
use Rattle.asked_records.specs.declared.answering.AnswerFault.TheVariants as fault
use Rattle.asked_records.specs.declared.question.Question.{Question}
use Rattle.device_frames.specs.declared.local.Local.{Local}
use Rattle.device_frames.specs.declared.local.Local.TheVariants as local
use Rattle.device_frames.specs.Heard.{Heard, Applied, Ticks, Unreadable, Elsewhere, Asks, Resolves, Reported, Cyclic, Alarms, LowReplies, LowConfirms, Met}
use Rattle.device_frames.specs.Relation.{where_due}
use Rattle.device_frames.specs.Sent.{Sent}
use Rattle.device_core.specs.Asking.{is_kept, is_new, looked_if, reply_to}
use Rattle.device_core.specs.Handled.{Handled, handled, handled_judged}
use Rattle.device_core.specs.Local.{IsReplyTo}
use Rattle.device_core.specs.Machine.{handled_step, heard_step}
use Rattle.device_core.specs.State.{Live, Station}
use Rattle.asked_law.specs.Once.{IsGivenTo, Step, accepted_with}

-- ---- which answers are accepted

-- An answer is accepted for the call that is asked, under its number.
pub record IsAccepted (asked : AskedState) (number : ℕ) (given : Gives) : Type 0 where
  pub question : Question
  pub judgement : judged number given asked ≡ Ok question
  pub is : question_in asked ≡ Some question
  pub numbered : asked.last ≡ number

unless_is : (standing question : Question) (it : Option AnswerFault) → question_unless standing it ≡ Ok question → standing ≡ question
unless_is standing question None e = cc
unless_is standing question (Some it) e = absurd (true≢false (ap is_err e))

accepted_is : (last number : ℕ) (given : Gives) (standing : Option Standing) (question : Question) → judged_with last number given standing ≡ Ok question
    → (option_map (λ standing. standing.question) standing ≡ Some question) × (last ≡ number)
accepted_is last number given None question e = absurd (true≢false (ap is_err e))
accepted_is last number given (Some standing) question e = by_number (number == last) refl e
  where
    by_number : (test : Bool) → (number == last) ≡ test →
        cond test (question_unless standing.question (fault_of standing.question given)) (Err fault.NotAsked) ≡ Ok question →
        (Some standing.question ≡ Some question) × (last ≡ number)
    by_number true is e =
        (ap (λ (q : Question). Some q) (unless_is standing.question question (fault_of standing.question given) e), sym (eqb-true number last is))
    by_number false is e = absurd (true≢false (ap is_err e))

-- No answer is accepted, or one.
pub number_is : (asked : AskedState) (number : ℕ) (given : Gives)
    → (number_if number (judged number given asked) ≡ []) ⊎ ((number_if number (judged number given asked) ≡ number ∷ []) × IsAccepted asked number given)
number_is asked number given = by_judgement (judged number given asked) refl
  where
    by_judgement : (judgement : Result Question AnswerFault) → judged number given asked ≡ judgement
        → (number_if number judgement ≡ []) ⊎ ((number_if number judgement ≡ number ∷ []) × IsAccepted asked number given)
    by_judgement (Err it) e = inl refl
    by_judgement (Ok question) e =
        let is = accepted_is asked.last number given asked.standing question e in
        inr (refl, record { question = question; judgement = e; is = is.0; numbered = is.1 })

-- ---- what is sent

reply_one : (is_due : Bool) (reply : Sent) → length (where_due is_due (reply ∷ [])) ≤ 1
reply_one true reply = omega arith
reply_one false reply = omega arith

reply_sends : (is_due : Bool) (question : Question) (reply : Sent) → IsReplyTo question reply → AllByRecursion (IsReplyTo question) (where_due is_due (reply ∷ []))
reply_sends true question reply is = (is, tt)
reply_sends false question reply is = tt

-- The step of an answer that is accepted.
pub record Settles (station : Station) (live : Live) (outcomes : List Outcome) (question : Question) (what : Handled) : Type 0 where
  pub settles : (handled_step outcomes station live what).live.rest.asked.standing ≡ None
  pub one : length (handled_step outcomes station live what).sent ≤ 1
  pub sends : AllByRecursion (IsReplyTo question) (handled_step outcomes station live what).sent

judged_settles : (station : Station) (live : Live) (outcomes : List Outcome) (given : Gives) (question : Question)
    → Settles station live outcomes question (handled_judged station live given (Ok question))
unfolding handled_step
judged_settles station live outcomes given question =
    let reply = reply_to live.values.running.suite.address question (answer_status question.request given) (answer_blocks question.request given) in
    let is_due = is_new (looked_if (is_kept station.options (operation_of question.request)) question.header.activity question.header.sequence live.rest.calls) in
    let none = is_zero live.values.running.suite.address in
    record {
      settles = refl;
      one = cond_both none [] (where_due is_due (reply ∷ [])) (λ (sent : List Sent). length sent ≤ 1) (λ _. omega arith) (λ _. reply_one is_due reply);
      sends = cond_both none [] (where_due is_due (reply ∷ [])) (λ (sent : List Sent). AllByRecursion (IsReplyTo question) sent) (λ _. tt)
          (λ _. reply_sends is_due question reply (refl, refl));
    }

accepted_settles : (station : Station) (live : Live) (outcomes : List Outcome) (number : ℕ) (given : Gives) (accepted : IsAccepted live.rest.asked number given)
    → Settles station live outcomes accepted.question (handled_judged station live given (judged number given live.rest.asked))
accepted_settles station live outcomes number given accepted =
    subst (λ (judgement : Result Question AnswerFault). Settles station live outcomes accepted.question (handled_judged station live given judgement))
    (sym accepted.judgement) (judged_settles station live outcomes given accepted.question)

given_to_call : (station : Station) (live : Live) (outcomes : List Outcome) (said : Local (ArrayVec ℕ)) (number : ℕ) (given : Gives)
    → handled_judged station live given (judged number given live.rest.asked) ≡ handled station live (Applied said) → IsAccepted live.rest.asked number given
    → IsGivenTo station live (record { heard = Applied said; outcomes = outcomes }) number
unfolding heard_step
given_to_call station live outcomes said number given is accepted =
    let done = subst (λ (what : Handled). Settles station live outcomes accepted.question what) is
    (accepted_settles station live outcomes number given accepted) in
    record { question = accepted.question; asked = accepted.is; numbered = accepted.numbered; settles = done.settles; one = done.one; sends = done.sends }

-- ---- the answer that is heard

-- No answer is accepted with what is heard, or one, which goes to the call that is asked.
abbrev pub Accepts : Station → Live → Step → Type 0
Accepts station live step =
    (accepted_with live step.heard ≡ []) ⊎ ((number : ℕ) × (accepted_with live step.heard ≡ number ∷ []) × IsGivenTo station live step number)

answer_accepts : (station : Station) (live : Live) (outcomes : List Outcome) (said : Local (ArrayVec ℕ)) (number : ℕ) (given : Gives)
    → handled_judged station live given (judged number given live.rest.asked) ≡ handled station live (Applied said)
    → (number_if number (judged number given live.rest.asked) ≡ []) ⊎ ((number_if number (judged number given live.rest.asked) ≡ number ∷ []) × IsAccepted live.rest.asked number given)
    → (number_if number (judged number given live.rest.asked) ≡ [])
    ⊎ ((other : ℕ) × (number_if number (judged number given live.rest.asked) ≡ other ∷ [])
    × IsGivenTo station live (record { heard = Applied said; outcomes = outcomes }) other)
answer_accepts station live outcomes said number given is (inl none) = inl none
answer_accepts station live outcomes said number given is (inr one) = inr (number, one.0, given_to_call station live outcomes said number given is one.1)

local_accepts : (station : Station) (live : Live) (outcomes : List Outcome) (said : Local (ArrayVec ℕ))
    → Accepts station live (record { heard = Applied said; outcomes = outcomes })
local_accepts station live outcomes (local.Answer number octets) =
    answer_accepts station live outcomes (local.Answer number octets) number (gives_octets octets.items) refl
    (number_is live.rest.asked number (gives_octets octets.items))
local_accepts station live outcomes (local.Written number) =
    answer_accepts station live outcomes (local.Written number) number gives_done refl (number_is live.rest.asked number gives_done)
local_accepts station live outcomes (local.Refuse number code1 code2) =
    answer_accepts station live outcomes (local.Refuse number code1 code2) number (gives_refusal code1 code2) refl
    (number_is live.rest.asked number (gives_refusal code1 code2))
local_accepts station live outcomes (local.Input slot subslot value) = inl refl
local_accepts station live outcomes (local.Alarm slot subslot octets) = inl refl
local_accepts station live outcomes (local.Status slot subslot is_good) = inl refl
local_accepts station live outcomes (local.Diagnosis slot subslot channel error appears) = inl refl
local_accepts station live outcomes (local.Pull slot subslot) = inl refl
local_accepts station live outcomes (local.PullModule slot) = inl refl
local_accepts station live outcomes (local.Plug slot ident part) = inl refl
local_accepts station live outcomes (local.ReadyAt slot subslot) = inl refl
local_accepts station live outcomes local.Ready = inl refl
local_accepts station live outcomes (local.ProviderState is_running) = inl refl

pub step_accepts : (station : Station) (live : Live) (outcomes : List Outcome) (heard : Heard) → Accepts station live (record { heard = heard; outcomes = outcomes })
step_accepts station live outcomes (Applied said) = local_accepts station live outcomes said
step_accepts station live outcomes Ticks = inl refl
step_accepts station live outcomes Unreadable = inl refl
step_accepts station live outcomes Elsewhere = inl refl
step_accepts station live outcomes (Asks asker request) = inl refl
step_accepts station live outcomes (Resolves asker packet) = inl refl
step_accepts station live outcomes (Reported caller address said) = inl refl
step_accepts station live outcomes (Cyclic source frame_id body) = inl refl
step_accepts station live outcomes (Alarms source header message) = inl refl
step_accepts station live outcomes (LowReplies source header message) = inl refl
step_accepts station live outcomes (LowConfirms source header message) = inl refl
step_accepts station live outcomes (Met peer) = inl refl
