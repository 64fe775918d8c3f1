-- Frames that arrive one after another, at either end.
use Rattle.std.proofs.Common.{◌≡◌, ℕ, List, [], ◌∷◌, ◌++◌, refl, sym, ap, subst, ◌∙◌}
use Rattle.std.proofs.lemmas.List.{append-nil}
use Rattle.std.specs.List.{AllByRecursion}
use Rattle.flash_model.specs.declared.flash.Flash.{Ghosts as Flash}
use Rattle.settings_journal.specs.settings_store.Machine.{Outcome}
use Rattle.device_frames.specs.declared.event.Event.TheVariants.{Frame}
use Rattle.device_frames.specs.Heard.{Heard, heard_of}
use Rattle.device_frames.specs.Sendable.{AreSendable}
use Rattle.device_core.specs.State.{Live, State, Station}
use Rattle.device_core.specs.Machine.{heard_step}
use Rattle.controller_core.specs.stored.State.{Controlling}
use Rattle.rounds_law.specs.Path.{controller_step, device_step}
use Rattle.rounds_law.specs.Rounds.{Goes, HearsAll, Net, Round, hears_all}

-- ---- the device

-- A device of this station after an event, if no call of its flash failed.
pub record Went {F : Type 0} (station : Station) (live : Live) (heard : Heard) (frames : List (List ℕ)) (after : State F) : Type 0 where
  pub of_station : after.station ≡ station
  pub state : after.live ≡ (heard_step [] station live heard).live
  pub sent : frames ≡ (heard_step [] station live heard).frames
  pub sendable : AreSendable station.identity (heard_step [] station live heard).sent

module _ {F : Type 0} {S : ℕ} (as_flash : Flash F S) where
  pub went : (before : State F) (heard : Heard) (frames : List (List ℕ)) (after : State F) → Goes as_flash before heard frames after
      → Went before.station before.live heard frames after
  went before heard frames after goes =
      let steps = goes.steps in
      let none : steps.outcomes ≡ [] = steps.inactive goes.unfailed in
      record {
        of_station = steps.same;
        state = subst (λ (o : List Outcome). after.live ≡ (heard_step o before.station before.live heard).live) none steps.live;
        sent = subst (λ (o : List Outcome). frames ≡ (heard_step o before.station before.live heard).frames) none steps.frames;
        sendable = subst (λ (o : List Outcome). AreSendable before.station.identity (heard_step o before.station before.live heard).sent) none steps.sendable;
      }

  -- after a frame
  pub went_on : (before : State F) (station : Station) (octets : List ℕ) (frames : List (List ℕ)) (after : State F) → before.station ≡ station
      → Goes as_flash before (heard_of before.station.identity (Frame (record { items = octets }))) frames after
      → Went station before.live (heard_of station.identity (Frame (record { items = octets }))) frames after
  went_on before station octets frames after same goes =
      subst (λ (s : Station). Went s before.live (heard_of s.identity (Frame (record { items = octets }))) frames after) same
      (went before (heard_of before.station.identity (Frame (record { items = octets }))) frames after goes)

  -- after a unit, or another event
  pub went_at : (before : State F) (station : Station) (heard : Heard) (frames : List (List ℕ)) (after : State F) → before.station ≡ station
      → Goes as_flash before heard frames after → Went station before.live heard frames after
  went_at before station heard frames after same goes =
      subst (λ (s : Station). Went s before.live heard frames after) same (went before heard frames after goes)

-- After some frames: what was sent, the station, and what is true of the state.
pub record Arrived {F : Type 0} (station : Station) (Is : Live → Type 0) (frames all : List (List ℕ)) (after : State F) : Type 0 where
  pub sent : all ≡ frames
  pub of_station : after.station ≡ station
  pub is : Is after.live

module _ {F : Type 0} {S : ℕ} (as_flash : Flash F S) (station : Station) (Is : Live → Type 0) (Of : List ℕ → Type 0)
    (keeps : (live : Live) (octets : List ℕ) → Of octets → Is live → ((device_step [] station live octets).frames ≡ [])
    × Is (device_step [] station live octets).live) where
  -- frames that change nothing
  pub arrive : (before : State F) (frames sent : List (List ℕ)) (after : State F) → before.station ≡ station → AllByRecursion Of frames → Is before.live
      → HearsAll as_flash before frames sent after → Arrived station Is [] sent after
  arrive before [] sent after same all is hears = record {
    sent = hears.1;
    of_station = ap (λ (s : State F). s.station) hears.0 ∙ same;
    is = subst (λ (s : State F). Is s.live) (sym hears.0) is;
  }
  arrive before (octets ∷ frames) sent after same all is hears =
      let first = went_on as_flash before station octets hears.1 hears.0 same hears.3 in
      let kept = keeps before.live octets all.0 is in
      let more = arrive hears.0 frames hears.2 after first.of_station all.1 (subst Is (sym first.state) kept.1) hears.4 in
      record {
        sent = hears.5 ∙ (ap (λ (fs : List (List ℕ)). fs ++ hears.2) (first.sent ∙ kept.0) ∙ more.sent);
        of_station = more.of_station;
        is = more.is;
      }

  -- one frame, and then such frames
  pub arrive_first : (before : State F) (octets : List ℕ) (frames sent : List (List ℕ)) (after : State F) → before.station ≡ station
      → (AreSendable station.identity (heard_step [] station before.live (heard_of station.identity (Frame (record { items = octets })))).sent
      → Is (device_step [] station before.live octets).live)
      → AllByRecursion Of frames → HearsAll as_flash before (octets ∷ frames) sent after
      → Arrived station Is (device_step [] station before.live octets).frames sent after
      × AreSendable station.identity (heard_step [] station before.live (heard_of station.identity (Frame (record { items = octets })))).sent
  arrive_first before octets frames sent after same is all hears =
      let first = went_on as_flash before station octets hears.1 hears.0 same hears.3 in
      let more = arrive hears.0 frames hears.2 after first.of_station all (subst Is (sym first.state) (is first.sendable)) hears.4 in (
        record {
          sent = hears.5 ∙ (ap (λ (fs : List (List ℕ)). hears.1 ++ fs) more.sent ∙ (append-nil hears.1 ∙ first.sent));
          of_station = more.of_station;
          is = more.is;
        },
        first.sendable,
      )

-- ---- the controller

-- Frames that are kept: the controller after them, which sent nothing.
pub record Kept (Is : Controlling → Type 0) (before : Controlling) (frames more : List (List ℕ)) : Type 0 where
  pub between : Controlling
  pub is : Is between
  pub goes_on : hears_all before (frames ++ more) ≡ hears_all between more

module _ (Is : Controlling → Type 0) (Of : List ℕ → Type 0)
    (keeps : (controller : Controlling) (octets : List ℕ) → Of octets → Is controller → ((controller_step controller octets).frames ≡ [])
    × Is (controller_step controller octets).controller) where
  pub keep : (before : Controlling) (frames more : List (List ℕ)) → AllByRecursion Of frames → Is before → Kept Is before frames more
  keep before [] more all is = record { between = before; is = is; goes_on = refl }
  keep before (octets ∷ frames) more all is =
      let kept = keeps before octets all.0 is in
      let later = keep (controller_step before octets).controller frames more all.1 kept.1 in
      let rest = hears_all (controller_step before octets).controller (frames ++ more) in
      record {
        between = later.between;
        is = later.is;
        goes_on = ap (λ (fs : List (List ℕ)). record { controller = rest.controller; frames = fs ++ rest.frames }) kept.0 ∙ later.goes_on;
      }

module _ (Is : Controlling → Type 0) (Of : List ℕ → Type 0)
    (keeps : (controller : Controlling) (octets : List ℕ) → Of octets → Is controller → Is (controller_step controller octets).controller) where
  pub keep_state : (before : Controlling) (frames : List (List ℕ)) → AllByRecursion Of frames → Is before → Is (hears_all before frames).controller
  keep_state before [] all is = is
  keep_state before (octets ∷ frames) all is = keep_state (controller_step before octets).controller frames all.1 (keeps before octets all.0 is)

-- one frame
pub hears_one : (controller : Controlling) (octets : List ℕ) → hears_all controller (octets ∷ []) ≡ controller_step controller octets
hears_one controller octets =
    ap (λ (fs : List (List ℕ)). record { controller = (controller_step controller octets).controller; frames = fs })
    (append-nil (controller_step controller octets).frames)

-- ---- what arrives in a round

-- The frames that are under way to the device arrive.
pub arrives_as : {F : Type 0} {S : ℕ} (as_flash : Flash F S) (net next : Net F) (round : Round as_flash net next) (frames : List (List ℕ))
    → net.to_device ≡ frames → HearsAll as_flash net.device frames round.answers round.device
arrives_as as_flash net next round frames is =
    subst (λ (fs : List (List ℕ)). HearsAll as_flash net.device fs round.answers round.device) is round.arrives

-- Nothing comes after the first frame.
pub never : (Is : Live → Type 0) (station : Station) (live : Live) (octets : List ℕ) → ⊥ → Is live
    → ((device_step [] station live octets).frames ≡ []) × Is (device_step [] station live octets).live
never Is station live octets nothing is = absurd nothing
