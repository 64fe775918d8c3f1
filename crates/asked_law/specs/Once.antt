-- Answers of the application over a run of a device: which are accepted, and the call to which each of them goes.
use Rattle.std.specs.Prelude.{◌≡◌, ◌≤◌, ◌⊎◌, ◌++◌, ℕ, List, [], ◌∷◌, length, Option, Some, None}
use Rattle.std.specs.List.{AllByRecursion}
use Rattle.arrayvec.specs.ArrayVec.{ArrayVec}
use Rattle.settings_journal.specs.settings_store.Machine.{Outcome}
use Rattle.rpc_core.specs.Call.{Asked as Call}
use Rattle.asked_records.specs.Answers.{Gives, gives_octets, gives_done, gives_refusal, judged}
use Rattle.asked_records.specs.Asked.{AskedState, question_in}
use Rattle.asked_records.specs.Runs.{number_if}
use Rattle.asked_records.specs.declared.question.Question.{Question}
use Rattle.device_frames.specs.declared.local.Local.{Local}
use Rattle.device_frames.specs.declared.local.Local.TheVariants as local
use Rattle.device_frames.specs.Heard.{Heard, Applied, Reported, Calls}
use Rattle.device_core.specs.Local.{IsReplyTo}
use Rattle.device_core.specs.Machine.{heard_step}
use Rattle.device_core.specs.State.{Live, Station}

-- ---- steps

-- What a device hears, and the outcome of each call that stores a command.
pub record Step : Type 0 where
  pub heard : Heard
  pub outcomes : List Outcome

-- The device after a step.
abbrev pub after_step : Station → Live → Step → Live
after_step station live step = (heard_step step.outcomes station live step.heard).live

-- The device after some steps.
abbrev pub after_steps : Station → Live → List Step → Live
after_steps station live [] = live
after_steps station live (step ∷ steps) = after_steps station (after_step station live step) steps

-- ---- answers

-- An answer: the number of a question, and what is given.
pub record Answer : Type 0 where
  pub number : ℕ
  pub given : Gives

-- An answer that gives this.
abbrev pub answer_with : ℕ → Gives → Answer
answer_with number given = record { number = number; given = given }

-- The answer that the application says, if it is one.
abbrev pub answer_by : Local (ArrayVec ℕ) → Option Answer
answer_by (local.Input slot subslot value) = None
answer_by (local.Alarm slot subslot octets) = None
answer_by (local.Status slot subslot is_good) = None
answer_by (local.Diagnosis slot subslot channel error appears) = None
answer_by (local.Pull slot subslot) = None
answer_by (local.PullModule slot) = None
answer_by (local.Plug slot ident part) = None
answer_by (local.ReadyAt slot subslot) = None
answer_by local.Ready = None
answer_by (local.ProviderState is_running) = None
answer_by (local.Answer number octets) = Some (answer_with number (gives_octets octets.items))
answer_by (local.Written number) = Some (answer_with number gives_done)
answer_by (local.Refuse number code1 code2) = Some (answer_with number (gives_refusal code1 code2))

-- The answer that is heard, if it is one.
abbrev pub answer_in : Heard → Option Answer
answer_in (Applied said) = answer_by said
answer_in heard = None

-- The number of an answer, if it is accepted.
abbrev pub number_of : AskedState → Option Answer → List ℕ
number_of asked None = []
number_of asked (Some answer) = number_if answer.number (judged answer.number answer.given asked)

-- The number of the answer that is heard, if it is accepted.
abbrev pub accepted_with : Live → Heard → List ℕ
accepted_with live heard = number_of live.rest.asked (answer_in heard)

-- The numbers of all answers that are accepted in some steps, in order.
abbrev pub accepted_over : Station → Live → List Step → List ℕ
accepted_over station live [] = []
accepted_over station live (step ∷ steps) = accepted_with live step.heard ++ accepted_over station (after_step station live step) steps

-- ---- the call to which an answer goes

-- The answer under this number goes to the call that is asked. That call has this number, it is asked no longer, and at most one frame is
-- sent, the response to it.
pub record IsGivenTo (station : Station) (live : Live) (step : Step) (number : ℕ) : Type 0 where
  pub question : Question
  pub asked : question_in live.rest.asked ≡ Some question
  pub numbered : live.rest.asked.last ≡ number
  pub settles : (after_step station live step).rest.asked.standing ≡ None
  pub one : length (heard_step step.outcomes station live step.heard).sent ≤ 1
  pub sends : AllByRecursion (IsReplyTo question) (heard_step step.outcomes station live step.heard).sent

-- The device hears the call that is asked.
pub record IsHeardCall (heard : Heard) (question : Question) : Type 0 where
  pub address : List ℕ
  pub call : Call
  pub is : heard ≡ Reported question.caller address (Calls call)
  pub header : question.header ≡ call.header
  pub maximum : question.args_maximum ≡ call.args_maximum

-- The device hears the call in one of these steps.
abbrev pub WasHeard : List Step → Question → Type 0
WasHeard [] question = ⊥
WasHeard (step ∷ steps) question = IsHeardCall step.heard question ⊎ WasHeard steps question

-- The call was asked before these steps, or the device heard it in one of them.
abbrev pub WasAsked : Live → List Step → Question → Type 0
WasAsked live steps question = (question_in live.rest.asked ≡ Some question) ⊎ WasHeard steps question
