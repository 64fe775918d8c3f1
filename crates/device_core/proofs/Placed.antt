-- Events one by one, and one more.
use Rattle.std.proofs.Common.{ℕ, List, [], ◌∷◌, ◌++◌, refl, subst}
use Rattle.flash_model.specs.declared.flash.Flash.{Ghosts as Flash}
use Rattle.settings_journal.specs.settings_store.Machine.{Outcome}
use Rattle.settings_journal.specs.settings_store.Carries.{OneByOne}
use Rattle.device_frames.specs.declared.event.Event.{Event}
use Rattle.device_core.specs.State.{Station, Live}
use Rattle.device_frames.specs.Heard.{heard_of}
use Rattle.device_frames.specs.Sendable.{AreSendable}
use Rattle.device_core.specs.Machine.{items_of, first_step, later_steps, step_of, run_of}
use Rattle.device_core.specs.Steps.{EventByEvent}
use Rattle.device_core.proofs.Machine.{snoc, joined}

-- The items of one event, in this state, and the messages that it sends.
abbrev pub IsPlaced : {F : Type 0} {S : ℕ} → Flash F S → List Outcome → Station → F → Live → Event → F → Type 0
IsPlaced as_flash outcomes station old live event new =
    OneByOne as_flash outcomes (record { flash = old; values = live.values }) (items_of station live (heard_of station.identity event))
    (record { flash = new; values = (step_of outcomes station live event).live.values })
    × AreSendable station.identity (step_of outcomes station live event).sent

-- With no outcome given for any.
placed_quietly : {F : Type 0} {S : ℕ} (as_flash : Flash F S) (station : Station) (old mid new : F) (live : Live) (events : List Event) (event : Event)
    → EventByEvent as_flash [] station old live events mid → IsPlaced as_flash [] station mid (run_of [] station live events).live event new
    → EventByEvent as_flash [] station old live (events ++ event ∷ []) new
placed_quietly as_flash station old mid new live [] event run step =
    let here = subst (λ f. IsPlaced as_flash [] station f live event new) run step in
    (new, here.0, here.1, refl)
placed_quietly as_flash station old mid new live (first ∷ events) event run step =
    (run.0, run.1, run.2, placed_quietly as_flash station run.0 mid new (step_of [] station live first).live events event run.3 step)

-- With outcomes for each.
placed_snoc : {F : Type 0} {S : ℕ} (as_flash : Flash F S) (front : List (List Outcome)) (last : List Outcome) (station : Station) (old mid new : F) (live : Live) (events : List Event) (event : Event)
    → EventByEvent as_flash front station old live events mid → IsPlaced as_flash last station mid (run_of front station live events).live event new
    → EventByEvent as_flash (snoc front events last) station old live (events ++ event ∷ []) new
unfolding snoc
placed_snoc as_flash front last station old mid new live [] event run step =
    let here = subst (λ f. IsPlaced as_flash last station f live event new) run step in
    (new, here.0, here.1, refl)
placed_snoc as_flash front last station old mid new live (first ∷ events) event run step =
    (run.0, run.1, run.2, placed_snoc as_flash (later_steps front) last station run.0 mid new (step_of (first_step front) station live first).live events event run.3 step)

pub placed_more : {F : Type 0} {S : ℕ} (as_flash : Flash F S) (front : List (List Outcome)) (last : List Outcome) (station : Station) (old mid new : F) (live : Live) (events : List Event) (event : Event)
    → EventByEvent as_flash front station old live events mid → IsPlaced as_flash last station mid (run_of front station live events).live event new
    → EventByEvent as_flash (joined front events last) station old live (events ++ event ∷ []) new
unfolding joined
placed_more as_flash [] [] station old mid new live events event run step = placed_quietly as_flash station old mid new live events event run step
placed_more as_flash [] (outcome ∷ outcomes) station old mid new live events event run step =
    placed_snoc as_flash [] (outcome ∷ outcomes) station old mid new live events event run step
placed_more as_flash (one ∷ front) last station old mid new live events event run step = placed_snoc as_flash (one ∷ front) last station old mid new live events event run step
