-- A run of a station, step by step.
use Rattle.std.proofs.Common.{◌≡◌, ◌<◌, ℕ, Bool, true, false, Option, Some, None, List, [], ◌∷◌, ◌++◌, refl, sym, ap, subst, ◌∙◌}
use Rattle.std.specs.Prelude.{flat_map, if◌then◌else◌}
use Rattle.std.proofs.lemmas.List.{append-nil, append_assoc, flat_map_more}
use Rattle.flash_model.specs.declared.flash.Flash.{Ghosts as Flash}
use Rattle.device_frames.specs.declared.event.Event.{Event}
use Rattle.device_frames.specs.declared.note.Note.{Note}
use Rattle.device_frames.specs.declared.note.Note.TheVariants.{Done}
use Rattle.device_frames.specs.Heard.{heard_of}
use Rattle.device_core.specs.State as device
use Rattle.device_core.specs.Faults.{RunGoesOn}
use Rattle.device_core.specs.Steps.{HandsOn, IsBehindCalls, IsExactRun, Runs, TakesRoom}
use Rattle.device_station.specs.State.{State, Frames, handed_on, in_order, of_device}
use Rattle.device_station.specs.Serving.{news_in}
use Rattle.device_station.specs.Beside.{joined_beside}
use Rattle.device_station.specs.Steps.{Gives, StationSteps, Tells, TellsIf}
use Rattle.device_station.specs.Runs.{DeviceRuns, StationHandsOn, StepByStep, StationRuns, call_in, call_of, news_of}

module _ {F : Type 0} {S : ℕ} (as_flash : Flash F S) where
  -- the steps so far, and one more
  steps_more : (old mid new : State F) (events heard : List Event) (event : Event) (turns : List Frames) (before now : List (List ℕ))
      → StepByStep as_flash old events heard turns mid → (on : StationHandsOn as_flash mid event before now new)
      → StepByStep as_flash old (events ++ event ∷ []) (heard ++ (news_of mid.services ++ event ∷ (call_in on.steps ++ []))) (turns ++ handed_on new.device.live.values.is_lost on.sent ∷ []) new
  steps_more old mid new [] heard event turns before now run on = (
    on.between,
    on.sent,
    on.said,
    new,
    [],
    [],
    subst (λ (s : State F). Tells as_flash s on.between) run.2 on.tells,
    on.steps,
    ap (λ (h : List Event). h ++ (news_of mid.services ++ event ∷ (call_in on.steps ++ []))) run.0
        ∙ ap (λ (s : State F). news_of s.services ++ event ∷ (call_in on.steps ++ [])) run.2,
    ap (λ (t : List Frames). t ++ handed_on new.device.live.values.is_lost on.sent ∷ []) run.1,
    (refl, refl, refl),
  )
  steps_more old mid new (one ∷ events) heard event turns before now run on =
      let turn = handed_on new.device.live.values.is_lost on.sent in
      let tail = news_of mid.services ++ event ∷ (call_in on.steps ++ []) in (
        run.0,
        run.1,
        run.2,
        run.3,
        run.4 ++ tail,
        run.5 ++ turn ∷ [],
        run.6,
        run.7,
        ap (λ (h : List Event). h ++ tail) run.8
            ∙ (append_assoc (news_of old.services) (one ∷ (call_in run.7 ++ run.4)) tail
            ∙ ap (λ (h : List Event). news_of old.services ++ one ∷ h) (append_assoc (call_in run.7) run.4 tail)),
        ap (λ (t : List Frames). t ++ turn ∷ []) run.9,
        steps_more run.3 mid new events run.4 event run.5 before now run.10 on,
      )

  -- the device's frames of a turn
  turn_of_device : (is_lost : Bool) (frames : Frames) → (if is_lost then [] else frames.device) ≡ of_device (handed_on is_lost frames)
  turn_of_device true frames = refl
  turn_of_device false frames = refl

  -- what the laws of the device's runs say
  pub record Laws : Type 0 where
    pub goes_on : (old between new : device.State F) (events : List Event) (event : Event) (before taken now : List (List ℕ)) → Runs as_flash old events before taken between
        → HandsOn as_flash between (heard_of between.station.identity event) taken now new → Runs as_flash old (events ++ event ∷ []) before now new
    pub all_go_on : (old between new : device.State F) (events : List Event) (event : Event) (before taken now : List (List ℕ)) → between.station ≡ old.station
        → (between.live.values.is_lost ≡ false → RunGoesOn old events before taken between)
        → HandsOn as_flash between (heard_of between.station.identity event) taken now new → new.live.values.is_lost ≡ false → RunGoesOn old (events ++ event ∷ []) before now new
    pub exact : (old new : device.State F) (events : List Event) (before now : List (List ℕ)) → Runs as_flash old events before now new
        → as_flash.failures new.flash ≡ as_flash.failures old.flash → as_flash.failures old.flash < 18446744073709551615 → IsExactRun old events before now new
    pub fine : (old new : device.State F) (events : List Event) (before now : List (List ℕ)) → Runs as_flash old events before now new
        → new.live.values.has_failed ≡ false → IsExactRun old events before now new
    pub calls : (old new : device.State F) (events : List Event) (before now : List (List ℕ)) → Runs as_flash old events before now new
        → IsBehindCalls old.live.rest.calls new.live.rest.calls
    pub room : (old new : device.State F) (events : List Event) (before now : List (List ℕ)) → Runs as_flash old events before now new
        → new.live.values.has_failed ≡ false → TakesRoom old events new

  -- a flash that never fails stays so
  abbrev StaysFine : device.State F → device.State F → Type 0
  StaysFine old new = as_flash.is_reliable old.flash → old.live.values.has_failed ≡ false → as_flash.is_reliable new.flash × (new.live.values.has_failed ≡ false)

  -- all that is known of a run
  all_of : Laws → (old new : device.State F) (events : List Event) (now : List (List ℕ)) → Runs as_flash old events [] now new
      → (new.live.values.is_lost ≡ false → RunGoesOn old events [] now new) → StaysFine old new → DeviceRuns as_flash old events [] now new
  all_of laws old new events now runs goes_on fine = record {
    runs = runs;
    exact = laws.exact old new events [] now runs;
    reliable = λ reliable unfailed. let still = fine reliable unfailed in (still.0, still.1, laws.fine old new events [] now runs still.1);
    goes_on = goes_on;
    calls = laws.calls old new events [] now runs;
    room = laws.room old new events [] now runs;
  }

  -- one more event of the device alone
  alone_more : Laws → (old between new : device.State F) (events : List Event) (event : Event) (taken now : List (List ℕ)) → DeviceRuns as_flash old events [] taken between
      → HandsOn as_flash between (heard_of between.station.identity event) taken now new → StaysFine between new → DeviceRuns as_flash old (events ++ event ∷ []) [] now new
  alone_more laws old between new events event taken now run on fine =
      all_of laws old new (events ++ event ∷ []) now
      (laws.goes_on old between new events event [] taken now run.runs on)
      (laws.all_go_on old between new events event [] taken now run.runs.same run.goes_on on)
      (λ reliable unfailed. let was = run.reliable reliable unfailed in fine was.0 was.1)

  -- nothing is handed on of a step that sends nothing
  nothing_on : (is_lost : Bool) (taken : List (List ℕ)) → taken ≡ taken ++ (if is_lost then [] else [])
  nothing_on true taken = sym (append-nil taken)
  nothing_on false taken = sym (append-nil taken)

  -- the neighbour is reported to the device alone, or not
  told_more : Laws → (b : Bool) (old : device.State F) (mid new : State F) (events : List Event) (taken : List (List ℕ)) → DeviceRuns as_flash old events [] taken mid.device
      → TellsIf as_flash b mid new → DeviceRuns as_flash old (events ++ (if b then news_in mid.services ∷ [] else [])) [] taken new.device
  told_more laws true old mid new events taken run tells =
      alone_more laws old mid.device new.device events (news_in mid.services) taken taken run
      (record { sent = []; said = Done; steps = tells.0.steps; handed_on = nothing_on new.device.live.values.is_lost taken })
      (λ reliable unfailed. let now = tells.0.reliable reliable unfailed in (now.0, now.1))
  told_more laws false old mid new events taken run tells =
      subst (λ (s : State F). DeviceRuns as_flash old (events ++ []) [] taken s.device) (sym tells)
      (subst (λ (es : List Event). DeviceRuns as_flash old es [] taken mid.device) (sym (append-nil events)) run)

  -- the frames of a device's step that are handed on
  abbrev sent_on : device.State F → List (List ℕ) → List (List ℕ)
  sent_on new sent = if new.live.values.is_lost then [] else sent

  -- the device alone makes the step of the event
  first_more : Laws → (old : device.State F) (on new : State F) (events : List Event) (event : Event) (frames : Frames) (said : Note) (taken : List (List ℕ))
      → (steps : StationSteps as_flash on event frames said new) → DeviceRuns as_flash old events [] taken on.device
      → DeviceRuns as_flash old (events ++ event ∷ []) [] (taken ++ sent_on steps.middle steps.first) steps.middle
  first_more laws old on new events event frames said taken steps run =
      alone_more laws old on.device steps.middle events event taken (taken ++ sent_on steps.middle steps.first) run
      (record { sent = steps.first; said = steps.note; steps = steps.alone.steps; handed_on = refl })
      (λ reliable unfailed. let now = steps.alone.reliable reliable unfailed in (now.0, now.1))

  -- the device alone is given the call, or not
  given_more : Laws → (joined : Option Event) (old middle new : device.State F) (events : List Event) (taken first sent : List (List ℕ)) → Gives as_flash joined middle first sent new
      → DeviceRuns as_flash old events [] (taken ++ sent_on middle first) middle → DeviceRuns as_flash old (events ++ call_of joined) [] (taken ++ sent_on new sent) new
  given_more laws None old middle new events taken first sent gives run =
      subst (λ (d : device.State F). DeviceRuns as_flash old (events ++ []) [] (taken ++ sent_on d sent) d) (sym gives.0)
      (subst (λ (f : List (List ℕ)). DeviceRuns as_flash old (events ++ []) [] (taken ++ sent_on middle f) middle) (sym gives.1)
      (subst (λ (es : List Event). DeviceRuns as_flash old es [] (taken ++ sent_on middle first) middle) (sym (append-nil events)) run))
  given_more laws (Some call) old middle new events taken first sent gives run =
      let none = ap (λ (f : List (List ℕ)). taken ++ sent_on middle f) gives.0 ∙ sym (nothing_on middle.live.values.is_lost taken) in
      alone_more laws old middle new events call taken (taken ++ sent_on new sent)
      (subst (λ (f : List (List ℕ)). DeviceRuns as_flash old events [] f middle) none run)
      (record { sent = sent; said = gives.1; steps = gives.2.steps; handed_on = refl })
      (λ reliable unfailed. let now = gives.2.reliable reliable unfailed in (now.0, now.1))

  -- what the device heard in a step
  heard_is : (heard news : List Event) (event : Event) (calls : List Event) → ((heard ++ news) ++ event ∷ []) ++ calls ≡ heard ++ (news ++ event ∷ (calls ++ []))
  heard_is heard news event calls =
      append_assoc (heard ++ news) (event ∷ []) calls
      ∙ (append_assoc heard news (event ∷ calls) ∙ ap (λ (c : List Event). heard ++ (news ++ event ∷ c)) (sym (append-nil calls)))

  pub run_none : Laws → (old : State F) (taken : List (List ℕ)) → Runs as_flash old.device [] [] [] old.device → RunGoesOn old.device [] [] [] old.device → StationRuns as_flash old [] taken taken old
  run_none laws old taken runs goes_on = record {
    heard = [];
    turns = [];
    steps = (refl, refl, refl);
    alone = all_of laws old.device old.device [] [] runs (λ _. goes_on) (λ reliable unfailed. (reliable, unfailed));
    handed = sym (append-nil taken);
  }

  pub run_more : Laws → (old mid new : State F) (events : List Event) (event : Event) (before between now : List (List ℕ))
      → StationRuns as_flash old events before between mid → StationHandsOn as_flash mid event between now new → StationRuns as_flash old (events ++ event ∷ []) before now new
  run_more laws old mid new events event before between now run on =
      let turn = handed_on new.device.live.values.is_lost on.sent in
      let taken = flat_map of_device run.turns in
      let news = news_of mid.services in
      let calls = call_in on.steps in
      let joined = joined_beside on.between.services on.steps.middle.live.values on.steps.note event in
      let told = told_more laws mid.services.has_news old.device mid on.between run.heard taken run.alone on.tells in
      let first = first_more laws old.device on.between new (run.heard ++ news) event on.sent on.said taken on.steps told in
      let whole = given_more laws joined old.device on.steps.middle new.device ((run.heard ++ news) ++ event ∷ []) taken on.steps.first on.sent.device on.steps.gives first in
      let heard = run.heard ++ (news ++ event ∷ (calls ++ [])) in
      record {
        heard = heard;
        turns = run.turns ++ turn ∷ [];
        steps = steps_more old mid new events run.heard event run.turns between now run.steps on;
        alone = subst (λ (f : List (List ℕ)). DeviceRuns as_flash old.device heard [] f new.device)
            (ap (λ (f : List (List ℕ)). taken ++ f) (turn_of_device new.device.live.values.is_lost on.sent) ∙ flat_map_more of_device [] run.turns turn)
            (subst (λ (es : List Event). DeviceRuns as_flash old.device es [] (taken ++ sent_on new.device on.sent.device) new.device) (heard_is run.heard news event calls) whole);
        handed = on.handed ∙ ap (λ (t : List (List ℕ)). t ++ in_order turn) run.handed ∙ flat_map_more in_order before run.turns turn;
      }
