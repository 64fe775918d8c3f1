-- What one step and runs of steps do.
use Rattle.std.proofs.Common.{◌≡◌, Bool, true, false, List, [], ◌∷◌, ◌++◌, map, refl, ap, ◌∙◌, append_assoc}
use Rattle.std.proofs.lemmas.List.{append-nil}
use Rattle.settings_journal.specs.settings_store.Machine.{Outcome}
use Rattle.device_frames.specs.declared.event.Event.{Event}
use Rattle.device_core.specs.State.{Station, Live}
use Rattle.device_frames.specs.Heard.{Heard}
use Rattle.device_frames.specs.Sent.{bytes_of}
use Rattle.device_core.specs.Handled.{Handled, Refuses, Sets, Writes, WritesEach, Moves, handled}
use Rattle.device_core.specs.Machine.{Stepped, Ran, items_in, items_of, finished, handled_step, heard_step, step_of, handed, first_step, later_steps, then_run, run_of}

-- Whether the outcome is a Set or a Write of an I&M text, which are the only ones that ask something of the settings.
abbrev pub is_asking : Handled → Bool
is_asking (Refuses why) = false
is_asking (Sets asker request in_operation) = true
is_asking (Writes caller address call header value) = true
is_asking (WritesEach caller address call header judged) = true
is_asking (Moves rest sent) = false

-- The result of any other outcome: nothing is asked of the settings.
unfoldable pub inactive_step : Station → Live → Handled → Stepped
inactive_step station live what =
    let end = finished station.identity live.rest what [] in
    record { live = record { values = live.values; rest = end.rest }; sent = end.sent; frames = map (bytes_of station.identity) end.sent; note = end.note; accepted = [] }

handled_inactive : (outcomes : List Outcome) (station : Station) (live : Live) (what : Handled) → is_asking what ≡ false → handled_step outcomes station live what ≡ inactive_step station live what
unfolding handled_step inactive_step
handled_inactive outcomes station live (Refuses why) none = refl
handled_inactive outcomes station live (Sets asker request in_operation) none = cc
handled_inactive outcomes station live (Writes caller address call header value) none = cc
handled_inactive outcomes station live (WritesEach caller address call header judged) none = cc
handled_inactive outcomes station live (Moves rest sent) none = refl

pub is_inactive : (outcomes : List Outcome) (station : Station) (live : Live) (heard : Heard) → is_asking (handled station live heard) ≡ false
    → heard_step outcomes station live heard ≡ inactive_step station live (handled station live heard)
unfolding heard_step
is_inactive outcomes station live heard none = handled_inactive outcomes station live (handled station live heard) none

no_items : (what : Handled) → is_asking what ≡ false → items_in what ≡ []
no_items (Refuses why) none = refl
no_items (Sets asker request in_operation) none = cc
no_items (Writes caller address call header value) none = cc
no_items (WritesEach caller address call header judged) none = cc
no_items (Moves rest sent) none = refl

pub nothing_asked : (station : Station) (live : Live) (heard : Heard) → is_asking (handled station live heard) ≡ false → items_of station live heard ≡ []
nothing_asked station live heard none = no_items (handled station live heard) none

-- A step by its outcome.
pub handled_as : (outcomes : List Outcome) (station : Station) (live : Live) (heard : Heard) (what : Handled) → handled station live heard ≡ what
    → heard_step outcomes station live heard ≡ handled_step outcomes station live what
unfolding heard_step
handled_as outcomes station live heard what is = ap (handled_step outcomes station live) is

-- A run, and then a step.
unfoldable pub then_step : Ran → Stepped → Ran
then_step ran step = record { live = step.live; frames = ran.frames ++ handed step; accepted = ran.accepted ++ step.accepted }

-- The outcomes of some events, and those of one more.
unfoldable pub snoc : List (List Outcome) → List Event → List Outcome → List (List Outcome)
snoc front [] last = last ∷ []
snoc front (event ∷ events) last = first_step front ∷ snoc (later_steps front) events last

-- The same, and an empty list if no event has an outcome.
unfoldable pub joined : List (List Outcome) → List Event → List Outcome → List (List Outcome)
joined [] events [] = []
joined [] events (outcome ∷ outcomes) = snoc [] events (outcome ∷ outcomes)
joined (one ∷ front) events last = snoc (one ∷ front) events last

pub joined_inactive : (front : List (List Outcome)) (events : List Event) (last : List Outcome) → front ≡ [] → last ≡ [] → joined front events last ≡ []
unfolding joined
joined_inactive [] events [] _ _ = refl
joined_inactive [] events (outcome ∷ outcomes) _ none = cc
joined_inactive (one ∷ front) events last none _ = cc

run_inactive : (station : Station) (live : Live) (events : List Event) (event : Event)
    → run_of [] station live (events ++ event ∷ []) ≡ then_step (run_of [] station live events) (step_of [] station (run_of [] station live events).live event)
unfolding then_step
run_inactive station live [] event = simp append-nil
run_inactive station live (one ∷ events) event =
    ap (then_run (step_of [] station live one)) (run_inactive station (step_of [] station live one).live events event) ∙ simp append_assoc

run_snoc : (front : List (List Outcome)) (last : List Outcome) (station : Station) (live : Live) (events : List Event) (event : Event)
    → run_of (snoc front events last) station live (events ++ event ∷ []) ≡ then_step (run_of front station live events) (step_of last station (run_of front station live events).live event)
unfolding then_step snoc
run_snoc front last station live [] event = simp append-nil
run_snoc front last station live (one ∷ events) event =
    ap (then_run (step_of (first_step front) station live one)) (run_snoc (later_steps front) last station (step_of (first_step front) station live one).live events event) ∙ simp append_assoc

pub run_joined : (front : List (List Outcome)) (last : List Outcome) (station : Station) (live : Live) (events : List Event) (event : Event)
    → run_of (joined front events last) station live (events ++ event ∷ []) ≡ then_step (run_of front station live events) (step_of last station (run_of front station live events).live event)
unfolding joined
run_joined [] [] station live events event = run_inactive station live events event
run_joined [] (outcome ∷ outcomes) station live events event = run_snoc [] (outcome ∷ outcomes) station live events event
run_joined (one ∷ front) last station live events event = run_snoc (one ∷ front) last station live events event
