-- The laws of the crates below that say what a controller does, as the steps of a controller in any state use them.
use Rattle.std.proofs.Common.{◌≡◌, ◌&&◌, ◌<◌, ℕ, Bool, true, nat_eq, List, [], ◌∷◌, ◌++◌, length, refl, sym, ap, subst, ◌∙◌}
use Rattle.std.specs.Cmp.Lexicographic.{pointwise, same_text}
use Rattle.std.proofs.lemmas.Bool.{and_parts}
use Rattle.rpc_core.specs.Call.{Asked as Call}
use Rattle.rpc_core.specs.Sendable.{CanBeAnswered, IsHeader, IsUuid}
use Rattle.connect_blocks.specs.declared.control.ControlBlock.{ControlBlock}
use Rattle.connect_blocks.specs.declared.plug_control.PlugControlBlock.{PlugControlBlock}
use Rattle.plans.specs.declared.parts.Parts.{Parts}
use Rattle.controller_messages.specs.declared.setup.ControllerOptions.{ControllerOptions}
use Rattle.controller_messages.specs.declared.setup.Setup.{Setup}
use Rattle.controller_messages.specs.Heard.{heard_of}
use Rattle.controller_messages.specs.PlugRequests.{plug_answer}
use Rattle.controller_messages.specs.Sent.{ready_answer}
use Rattle.controller_core.specs.declared.stored.event.Event.{Event}
use Rattle.controller_core.specs.stored.State.{Controlling, Live}
use Rattle.controller_core.specs.Machine.{first, fresh_with, step_of, turn_of}
use Rattle.end_laws.specs.both.Small.{Seeking}
use Rattle.end_laws.specs.controller.Small.{GoesOn, IsSteady, said_in, small_of}
use Rattle.end_laws.specs.turns.Ended.{CountsUnits, DropsWhatComes, KeepsItsCause}
use Rattle.end_laws.specs.turns.Patience.{HasTimeLeft}
use Rattle.end_laws.specs.turns.Runs.{IsReached, behind_all}
use Rattle.end_laws.specs.turns.Turns.{IsTurn, came_by}

-- Each turn of a controller is of a kind.
abbrev pub TurnsAreOfAKind : Type 0
TurnsAreOfAKind = (setup : Setup) (live : Live) (event : Event) → IsTurn setup live (came_by setup event) (turn_of setup live event)

-- What is active in the first state of a controller belongs to that state.
abbrev pub BeginsSteady : Type 0
BeginsSteady = (plan : Parts) → IsSteady plan (first plan) × (small_of plan (first plan) ≡ Seeking)

-- So it does after any event.
abbrev pub StaysSteady : Type 0
StaysSteady = (setup : Setup) (live : Live) (event : Event) → IsSteady setup.plan live
    → GoesOn setup.plan (said_in setup (heard_of setup.plan.controller) event) live (turn_of setup live event)

-- The response to ApplicationReady can be sent.
abbrev pub AnswersCanBeSent : Type 0
AnswersCanBeSent = (call : Call) (block : ControlBlock) → IsHeader call.header → call.args_maximum < 4294967296 → IsUuid block.ar_uuid
    → CanBeAnswered (ready_answer call block)

-- So can that of a plug.
abbrev pub PlugAnswersCanBeSent : Type 0
PlugAnswersCanBeSent = (call : Call) (block : PlugControlBlock) → IsHeader call.header → call.args_maximum < 4294967296 → IsUuid block.ar_uuid
    → CanBeAnswered (plug_answer call block)

-- The clauses of the functions below.
pub record ControllerLaws : Type 0 where
  pub kinds : TurnsAreOfAKind
  pub begins : BeginsSteady
  pub goes_on : StaysSteady
  pub can_answer : AnswersCanBeSent
  pub can_answer_plug : PlugAnswersCanBeSent
  pub left : HasTimeLeft
  pub cause : KeepsItsCause
  pub dropped : DropsWhatComes
  pub units : CountsUnits

-- ---- any events

runs_on : (events more : List Event) (controller : Controlling) → behind_all (events ++ more) controller ≡ behind_all more (behind_all events controller)
runs_on [] more controller = refl
runs_on (event ∷ events) more controller = runs_on events more (step_of controller event).controller

-- A run goes on.
pub reached_on : (controller : Controlling) (event : Event) → IsReached controller → IsReached (step_of controller event).controller
reached_on controller event r = record {
  plan = r.plan;
  ar = r.ar;
  activity = r.activity;
  options = r.options;
  events = r.events ++ event ∷ [];
  made = ap (λ (c : Controlling). (step_of c event).controller) r.made
      ∙ sym (runs_on r.events (event ∷ []) (fresh_with r.plan r.ar r.activity r.options));
}

-- The session key and the ARUUID of a block are those of the relation: its ARUUID has their length.
pub named_so : (block ar : List ℕ) (session : Bool) → (pointwise nat_eq block ar && session) ≡ true → length ar ≡ 16 → length block ≡ 16
named_so block ar session e sixteen =
    let parts = and_parts (pointwise nat_eq block ar) session e in
    ap length (same_text block ar (sym parts.0)) ∙ sixteen

module _ (laws : ControllerLaws) where
  steady_on : (controller : Controlling) (event : Event) → IsSteady controller.setup.plan controller.live
      → IsSteady (step_of controller event).controller.setup.plan (step_of controller event).controller.live
  unfolding step_of
  steady_on controller event steady = (laws.goes_on controller.setup controller.live event steady).in_step

  steady_all : (events : List Event) (controller : Controlling) → IsSteady controller.setup.plan controller.live
      → IsSteady (behind_all events controller).setup.plan (behind_all events controller).live
  steady_all [] controller steady = steady
  steady_all (event ∷ events) controller steady = steady_all events (step_of controller event).controller (steady_on controller event steady)

  first_steady : (plan : Parts) (ar activity : List ℕ) (options : ControllerOptions) → IsSteady plan (fresh_with plan ar activity options).live
  first_steady plan ar activity options = (laws.begins plan).0

  -- What is active in each state of a controller belongs to that state.
  pub reached_steady : (controller : Controlling) → IsReached controller → IsSteady controller.setup.plan controller.live
  reached_steady controller r =
      subst (λ (c : Controlling). IsSteady c.setup.plan c.live) (sym r.made)
      (steady_all r.events (fresh_with r.plan r.ar r.activity r.options) (first_steady r.plan r.ar r.activity r.options))
