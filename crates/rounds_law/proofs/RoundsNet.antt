-- One more frame arrives at either end.
use Rattle.std.proofs.Common.{◌≡◌, ℕ, List, [], ◌∷◌, ◌++◌, map, refl, sym, ap, subst, ◌∙◌}
use Rattle.std.proofs.lemmas.List.{append-nil, append_assoc}
use Rattle.flash_model.specs.declared.flash.Flash.{Ghosts as Flash}
use Rattle.device_frames.specs.declared.event.Event.TheVariants.{Frame}
use Rattle.device_frames.specs.Heard.{Heard, Ticks, heard_of}
use Rattle.device_core.specs.State.{State}
use Rattle.controller_core.specs.stored.State.{Controlling}
use Rattle.controller_core.specs.Machine.{step_of}
use Rattle.controller_core.specs.declared.stored.event.Event.TheVariants as event
use Rattle.device_core.specs.Steps.{Steps}
use Rattle.device_frames.specs.declared.note.Note.{Note}
use Rattle.rounds_law.specs.Rounds.{Adds, Goes, HearsAll, IsReliable, Net, Round, Takes, hears_all}

module _ {F : Type 0} {S : ℕ} (as_flash : Flash F S) where
  pub hears_more : (before : State F) (frames sent : List (List ℕ)) (between : State F) (octets : List ℕ) (more : List (List ℕ)) (after : State F)
      → HearsAll as_flash before frames sent between → Goes as_flash between (heard_of between.station.identity (Frame (record { items = octets }))) more after
      → HearsAll as_flash before (frames ++ octets ∷ []) (sent ++ more) after
  hears_more before [] sent between octets more after hears goes = (
    after,
    more,
    [],
    subst (λ (s : State F). Goes as_flash s (heard_of s.station.identity (Frame (record { items = octets }))) more after) hears.0 goes,
    (refl, refl),
    ap (λ (fs : List (List ℕ)). fs ++ more) hears.1 ∙ sym (append-nil more),
  )
  hears_more before (first ∷ frames) sent between octets more after hears goes = (
    hears.0,
    hears.1,
    hears.2 ++ more,
    hears.3,
    hears_more hears.0 frames hears.2 between octets more after hears.4 goes,
    ap (λ (fs : List (List ℕ)). fs ++ more) hears.5 ∙ append_assoc hears.1 hears.2 more,
  )

  -- what was sent before both
  pub takes_more : (before : State F) (frames sent : List (List ℕ)) (between : State F) (so_far : List (List ℕ))
      (octets : List ℕ) (after : State F) (all : List (List ℕ))
      → Takes as_flash before frames sent between so_far
      → Adds as_flash between (heard_of between.station.identity (Frame (record { items = octets }))) so_far after all
      → Takes as_flash before (frames ++ octets ∷ []) sent after all
  takes_more before frames sent between so_far octets after all takes adds = record {
    answers = takes.answers ++ adds.frames;
    hears = hears_more before frames takes.answers between octets adds.frames after takes.hears adds.goes;
    appended = adds.appended ∙ (ap (λ (fs : List (List ℕ)). fs ++ adds.frames) takes.appended ∙ append_assoc sent takes.answers adds.frames);
    reliable = adds.reliable;
  }

-- Two lists of frames at a controller.
pub record Both (before : Controlling) (frames more : List (List ℕ)) : Type 0 where
  pub controller : (hears_all before (frames ++ more)).controller ≡ (hears_all (hears_all before frames).controller more).controller
  pub sent : (hears_all before (frames ++ more)).frames ≡ (hears_all before frames).frames ++ (hears_all (hears_all before frames).controller more).frames

pub both : (before : Controlling) (frames more : List (List ℕ)) → Both before frames more
both before [] more = record { controller = refl; sent = refl }
both before (octets ∷ frames) more =
    let step = step_of before (event.Frame (record { items = octets })) in
    let later = both step.controller frames more in
    record {
      controller = later.controller;
      sent = ap (λ (fs : List (List ℕ)). step.frames ++ fs) later.sent
          ∙ sym (append_assoc step.frames (hears_all step.controller frames).frames (hears_all (hears_all step.controller frames).controller more).frames);
    }

-- one more item of a list
pub map_more : {A : Type 0} (items : List A) (item : A) (f : A → List ℕ) → map f (items ++ item ∷ []) ≡ map f items ++ f item ∷ []
map_more [] item f = refl
map_more (first ∷ items) item f = ap (λ (fs : List (List ℕ)). f first ∷ fs) (map_more items item f)

-- One more frame at a controller, which appends what it sends.
pub record More (before : Controlling) (frames sent : List (List ℕ)) (after : Controlling) (all : List (List ℕ)) : Type 0 where
  pub controller : after ≡ (hears_all before frames).controller
  pub appended : all ≡ sent ++ (hears_all before frames).frames

pub all_more : (before : Controlling) (frames : List (List ℕ)) (octets : List ℕ) (between after : Controlling) (sent so_far all : List (List ℕ))
    → between ≡ (hears_all before frames).controller → so_far ≡ sent ++ (hears_all before frames).frames
    → after ≡ (step_of between (event.Frame (record { items = octets }))).controller
    → all ≡ so_far ++ (step_of between (event.Frame (record { items = octets }))).frames
    → More before (frames ++ octets ∷ []) sent after all
all_more before frames octets between after sent so_far all state frames_are steps sends =
    let here = (hears_all before frames).controller in
    let step = step_of here (event.Frame (record { items = octets })) in
    let two = both before frames (octets ∷ []) in
    record {
      controller = steps ∙ (ap (λ (c : Controlling). (step_of c (event.Frame (record { items = octets }))).controller) state ∙ sym two.controller);
      appended = sends ∙ (ap (λ (fs : List (List ℕ)). fs ++ (step_of between (event.Frame (record { items = octets }))).frames) frames_are
          ∙ (append_assoc sent (hears_all before frames).frames (step_of between (event.Frame (record { items = octets }))).frames
          ∙ ap (λ (fs : List (List ℕ)). sent ++ fs)
          (ap (λ (c : Controlling). (hears_all before frames).frames ++ (step_of c (event.Frame (record { items = octets }))).frames) state
          ∙ (ap (λ (fs : List (List ℕ)). (hears_all before frames).frames ++ fs) (sym (append-nil step.frames)) ∙ sym two.sent))));
    }

module _ {F : Type 0} {S : ℕ} (as_flash : Flash F S) where
  -- a step of a device whose flash never fails
  pub added : (before : State F) (heard : Heard) (sent frames : List (List ℕ)) (note : Note) (after : State F) (all : List (List ℕ))
      → IsReliable as_flash before
      → Steps as_flash before heard frames note after → IsReliable as_flash after → all ≡ sent ++ frames → Adds as_flash before heard sent after all
  added before heard sent frames note after all reliable steps stays appended = record {
    frames = frames;
    goes = record { note = note; steps = steps; unfailed = stays.unfailed ∙ sym reliable.unfailed };
    appended = appended;
    reliable = stays;
  }

  pub takes_none : (before : State F) (sent : List (List ℕ)) → IsReliable as_flash before → Takes as_flash before [] sent before sent
  takes_none before sent reliable = record { answers = []; hears = (refl, refl); appended = sym (append-nil sent); reliable = reliable }

  -- the parts of a round
  pub round_of : (before : Net F) (device later : State F) (unsent answers none sent more all silent inputs : List (List ℕ)) (first second third : Controlling)
      → unsent ≡ [] → Takes as_flash before.device before.to_device unsent device answers
      → none ≡ [] → More before.controller before.to_controller none first sent → More first answers sent second more
      → silent ≡ [] → Adds as_flash device Ticks silent later inputs
      → third ≡ (step_of second event.Tick).controller → all ≡ more ++ (step_of second event.Tick).frames
      → Round as_flash before (record { device = later; controller = third; to_device = all; to_controller = inputs }) × IsReliable as_flash later
  round_of before device later unsent answers none sent more all silent inputs first second third unsent_is takes none_is one two silent_is adds state sends =
      let answered : answers ≡ takes.answers = takes.appended ∙ ap (λ (fs : List (List ℕ)). fs ++ takes.answers) unsent_is in
      let here = (hears_all before.controller before.to_controller).controller in
      let joined = both before.controller before.to_controller takes.answers in
      let heard = hears_all before.controller (before.to_controller ++ takes.answers) in
      let at : second ≡ heard.controller =
      two.controller ∙ (ap (λ (c : Controlling). (hears_all c answers).controller) one.controller
      ∙ (ap (λ (fs : List (List ℕ)). (hears_all here fs).controller) answered ∙ sym joined.controller)) in
      let has_sent : sent ≡ (hears_all before.controller before.to_controller).frames =
      one.appended ∙ ap (λ (fs : List (List ℕ)). fs ++ (hears_all before.controller before.to_controller).frames) none_is in
      let frames : more ≡ heard.frames =
      two.appended ∙ (ap (λ (fs : List (List ℕ)). fs ++ (hears_all first answers).frames) has_sent
      ∙ (ap (λ (c : Controlling). (hears_all before.controller before.to_controller).frames ++ (hears_all c answers).frames) one.controller
      ∙ (ap (λ (fs : List (List ℕ)). (hears_all before.controller before.to_controller).frames ++ (hears_all here fs).frames) answered ∙ sym joined.sent))) in
      let put : inputs ≡ adds.frames = adds.appended ∙ ap (λ (fs : List (List ℕ)). fs ++ adds.frames) silent_is in (
        record {
          device = device;
          answers = takes.answers;
          arrives = takes.hears;
          unit = subst (λ (fs : List (List ℕ)). Goes as_flash device Ticks fs later) (sym put) adds.goes;
          controller = state ∙ ap (λ (c : Controlling). (step_of c event.Tick).controller) at;
          to_device = sends ∙ (ap (λ (fs : List (List ℕ)). fs ++ (step_of second event.Tick).frames) frames
              ∙ ap (λ (c : Controlling). heard.frames ++ (step_of c event.Tick).frames) at);
        },
        adds.reliable,
      )
