-- After the loss of a frame: a device that waits for the response to ApplicationReady sends it again each second.
use Rattle.std.specs.Prelude.{◌≡◌, ◌+◌, ◌==◌, ◌++◌, ℕ, suc, nat_eq, Bool, List, [], ◌∷◌, Some, if◌then◌else◌}
use Rattle.std.specs.List.{AllByRecursion}
use Rattle.std.specs.Cmp.Lexicographic.{pointwise}
use Rattle.pn_values.specs.declared.identity.Identity.{Identity}
use Rattle.relations.specs.declared.phase.Phase.TheVariants.{Awaiting}
use Rattle.relations.specs.RelationState.{RelationState}
use Rattle.device_core.specs.State.{Live}
use Rattle.device_core.specs.Handled.{partner_of}
use Rattle.device_core.specs.Machine.{Stepped}
use Rattle.controller_messages.specs.declared.setup.Setup.{Setup}
use Rattle.both_ends.specs.startup.request.Request.{request_for}
use Rattle.both_ends.specs.startup.answer.Answer.{caller_of}
use Rattle.rounds_law.specs.Path.{AsksNothing, IsCalm, IsInputs, readied_frame, HasNumber}

-- The device has the plan's relation, of this number, and waits for the response to ApplicationReady, which it last sent this many units ago. The activity
-- timer has run for this many units. No alarm waits for its ACK, and nothing is asked of its application.
pub record Awaits (setup : Setup) (serial : ℕ) (waited : ℕ) (inactive : ℕ) (live : Live) : Type 0 where
  pub link : RelationState
  pub has : live.rest.link ≡ Some link
  pub in_phase : link.phase ≡ Awaiting
  pub request : link.request ≡ request_for setup.plan setup.ar
  pub partner : link.partner ≡ partner_of (caller_of setup.plan.controller)
  pub calm : IsCalm link.flow
  pub numbered : HasNumber setup serial link.flow
  pub waits : link.waited ≡ waited
  pub runs : link.inactive ≡ inactive
  pub unasked : AsksNothing live

-- Whether the next unit completes a second since then.
abbrev pub completes : ℕ → Bool
completes waited = waited + 1 == 32000

-- The units after the next unit: if it completes a second, the count begins again.
abbrev pub counts_on : ℕ → ℕ
counts_on waited = if completes waited then 0 else waited + 1

-- What is sent with a unit: ApplicationReady if the unit completes a second, and no other unit sends it; then a frame of inputs, if
-- one is due. The device still waits.
pub record AsksInTime (setup : Setup) (serial : ℕ) (identity : Identity) (waited : ℕ) (inactive : ℕ) (live : Live) (step : Stepped) : Type 0 where
  pub inputs : List (List ℕ)
  pub are_inputs : AllByRecursion (IsInputs setup identity) inputs
  pub frames : step.frames ≡ (if completes waited then readied_frame setup identity ∷ [] else []) ++ inputs
  pub values : step.live.values ≡ live.values
  pub awaits : Awaits setup serial (counts_on waited) (inactive + 1) step.live

-- How often these octets occur in a list of frames.
abbrev pub count_of : List ℕ → List (List ℕ) → ℕ
count_of octets [] = 0
count_of octets (frame ∷ frames) = if pointwise nat_eq frame octets then suc (count_of octets frames) else count_of octets frames
