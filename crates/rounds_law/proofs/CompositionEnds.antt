-- What a round does at each end, one end at a time.
use Rattle.std.proofs.Common.{◌≡◌, ◌≤◌, ◌<◌, ℕ, suc, true, false, Option, Some, None, List, [], ◌∷◌, ◌++◌, refl, sym, ap, subst, ◌∙◌, arith}
use Rattle.std.specs.List.{AllByRecursion}
use Rattle.flash_model.specs.declared.flash.Flash.{Ghosts as Flash}
use Rattle.pn_values.specs.declared.identity.Identity.{Identity}
use Rattle.records.specs.declared.writes.taken.TakenRecord.{TakenRecord}
use Rattle.relations.specs.declared.phase.Phase.{Phase}
use Rattle.relations.specs.Timers.{is_timed}
use Rattle.device_frames.specs.Heard.{Ticks}
use Rattle.device_core.specs.State.{Live, State, Station}
use Rattle.settings_journal.specs.settings_store.State.{Values}
use Rattle.controller_messages.specs.declared.setup.Setup.{Setup}
use Rattle.controller_messages.specs.declared.request.Request.{Request}
use Rattle.controller_core.specs.declared.stored.event.Event.TheVariants.{Tick}
use Rattle.controller_core.specs.declared.stored.state.State.{State as Phases}
use Rattle.controller_core.specs.stored.State.{Controlling, is_limited}
use Rattle.controller_core.specs.Machine.{Stepped, first as first_live, step_of}
use Rattle.rounds_law.specs.Path.{Asks, AsksNext, HasRelation, IsAddressed, IsFree, IsIgnored, IsInputs, IsNamed, IsOutputs, IsSearching, device_step}
use Rattle.rounds_law.specs.Path.{request_to}
use Rattle.rounds_law.specs.Rounds.{Goes, Net, Round, hears_all}
use Rattle.rounds_law.specs.Start.{CanBeAddressed}
use Rattle.rounds_law.proofs.CompositionLaws.{Laws}
use Rattle.rounds_law.proofs.CompositionLists.{Kept, keep, went_at}

-- ---- the device

-- the settings decide these
pub named_by : (setup : Setup) (before after : Live) → after.values ≡ before.values → IsNamed setup before → IsNamed setup after
named_by setup before after same named = record { name = ap (λ (v : Values). v.running.name) same ∙ named.name }

pub addressed_by : (setup : Setup) (before after : Live) → after.values ≡ before.values → IsAddressed setup before → IsAddressed setup after
addressed_by setup before after same addressed = record { suite = ap (λ (v : Values). v.running.suite) same ∙ addressed.suite }

pub can_by : (before after : Live) → after.values ≡ before.values → CanBeAddressed before → CanBeAddressed after
can_by before after same can = record {
  unfailed = ap (λ (v : Values). v.has_failed) same ∙ can.unfailed;
  room = subst (λ (v : Values). 1 ≤ v.room) (sym same) can.room;
}

-- It has a relation and the plan's IP suite.
pub record IsRelated (setup : Setup) (serial : ℕ) (phase : Phase) (taken : List TakenRecord) (last : ℕ) (age : ℕ) (live : Live) : Type 0 where
  pub related : HasRelation setup serial phase taken last age live
  pub addressed : IsAddressed setup live

-- After a unit without a relation.
pub record FreePassed {F : Type 0} (setup : Setup) (station : Station) (before : Live) (frames : List (List ℕ)) (after : State F) : Type 0 where
  pub none : frames ≡ []
  pub of_station : after.station ≡ station
  pub values : after.live.values ≡ before.values
  pub free : IsFree setup after.live

-- After a unit with a relation.
pub record RelatedPassed {F : Type 0} (setup : Setup) (serial : ℕ) (identity : Identity) (station : Station) (phase : Phase) (taken : List TakenRecord)
    (last age : ℕ) (frames : List (List ℕ)) (after : State F) : Type 0 where
  pub inputs : AllByRecursion (IsInputs setup identity) frames
  pub of_station : after.station ≡ station
  pub is : IsRelated setup serial phase taken last age after.live

module _ {F : Type 0} {S : ℕ} (as_flash : Flash F S) (setup : Setup) (identity : Identity) (laws : Laws setup identity) where
  pub free_unit : (before : State F) (station : Station) (frames : List (List ℕ)) (after : State F)
      → before.station ≡ station → Goes as_flash before Ticks frames after
      → IsFree setup before.live → FreePassed setup station before.live frames after
  free_unit before station frames after same goes free =
      let w = went_at as_flash before station Ticks frames after same goes in
      let law = laws.device_free [] station before.live free in
      record {
        none = w.sent ∙ law.0;
        of_station = w.of_station;
        values = ap (λ (live : Live). live.values) w.state ∙ law.1;
        free = subst (λ (live : Live). IsFree setup live) (sym w.state) law.2;
      }

  pub related_unit : (serial : ℕ) (before : State F) (station : Station) (frames : List (List ℕ)) (after : State F) → before.station ≡ station → station.identity ≡ identity
      → Goes as_flash before Ticks frames after → (phase : Phase) (taken : List TakenRecord) (last age : ℕ) → is_timed phase ≡ true → age < 31000
      → IsRelated setup serial phase taken last age before.live → RelatedPassed setup serial identity station phase taken last (suc age) frames after
  related_unit serial before station frames after same own goes phase taken last age timed young is =
      let w = went_at as_flash before station Ticks frames after same goes in
      let law = laws.device_unit serial [] station before.live phase taken last age own timed young is.related in
      record {
        inputs = subst (λ (fs : List (List ℕ)). AllByRecursion (IsInputs setup identity) fs) (sym w.sent) law.0;
        of_station = w.of_station;
        is = record {
          related = subst (λ (live : Live). HasRelation setup serial phase taken last (suc age) live) (sym w.state) law.2;
          addressed = addressed_by setup before.live after.live (ap (λ (live : Live). live.values) w.state ∙ law.1) is.addressed;
        };
      }

  -- frames of outputs leave a relation
  pub related_outputs : (serial : ℕ) (station : Station) → station.identity ≡ identity
      → (phase : Phase) (taken : List TakenRecord) (last age : ℕ) (live : Live) (octets : List ℕ)
      → IsOutputs setup (Some serial) identity.mac octets → IsRelated setup serial phase taken last age live
      → ((device_step [] station live octets).frames ≡ []) × IsRelated setup serial phase taken last age (device_step [] station live octets).live
  related_outputs serial station own phase taken last age live octets outputs is =
      let law = laws.device_outputs serial [] station live phase taken last age octets own outputs is.related in
      (law.0, record { related = law.2; addressed = addressed_by setup live (device_step [] station live octets).live law.1 is.addressed })

-- ---- the controller

-- What the controller is, and sends, after the unit of a round.
pub record Passed {F : Type 0} (heard : Stepped) (after : Net F) : Type 0 where
  pub controller : after.controller ≡ (step_of heard.controller Tick).controller
  pub to_device : after.to_device ≡ heard.frames ++ (step_of heard.controller Tick).frames

module _ {F : Type 0} {S : ℕ} (as_flash : Flash F S) where
  pub passed : (before after : Net F) (round : Round as_flash before after) (answers : List (List ℕ)) (heard : Stepped) → round.answers ≡ answers
      → hears_all before.controller (before.to_controller ++ answers) ≡ heard → Passed heard after
  passed before after round answers heard answered is =
      let so : hears_all before.controller (before.to_controller ++ round.answers) ≡ heard
      = ap (λ (fs : List (List ℕ)). hears_all before.controller (before.to_controller ++ fs)) answered ∙ is in
      subst (λ (h : Stepped). Passed h after) so (record { controller = round.controller; to_device = round.to_device })

-- It waits for the answer to a request that is under way, with outputs after it.
pub record Asked (setup : Setup) (identity : Identity) (phase : Phases) (request : Request) (stands : Option ℕ) (spare : ℕ)
    (controller : Controlling) (to_device : List (List ℕ)) : Type 0 where
  pub asks : Asks setup identity.mac phase request stands spare controller
  pub outputs : List (List ℕ)
  pub under_way : to_device ≡ request_to setup identity request ∷ outputs
  pub are : AllByRecursion (IsOutputs setup stands identity.mac) outputs
  pub unsent : stands ≡ None → outputs ≡ []

module _ {F : Type 0} (setup : Setup) (identity : Identity) (laws : Laws setup identity) where
  pub asked_after : (heard : Stepped) (after : Net F) (phase : Phases) (request : Request) (stands : Option ℕ) (spare : ℕ) → is_limited phase ≡ true
      → Passed heard after → AsksNext setup identity phase request stands (suc spare) heard
      → Asked setup identity phase request stands spare after.controller after.to_device
  asked_after heard after phase request stands spare limited u next =
      let law = laws.controller_unit heard.controller phase request stands spare limited next.asks in
      record {
        asks = subst (λ (c : Controlling). Asks setup identity.mac phase request stands spare c) (sym u.controller) law.1;
        outputs = (step_of heard.controller Tick).frames;
        under_way = u.to_device ∙ ap (λ (fs : List (List ℕ)). fs ++ (step_of heard.controller Tick).frames) next.frames;
        are = law.0;
        unsent = λ early. laws.controller_unsent heard.controller phase request spare limited
            (subst (λ (b : Option ℕ). Asks setup identity.mac phase request b (suc spare) heard.controller) early next.asks);
      }

-- a controller that was just made looks for its station
pub searching_first : (setup : Setup) (controller : Controlling) → controller.setup ≡ setup → controller.live ≡ first_live setup.plan
    → IsSearching setup controller
searching_first setup controller of_setup made = record {
  of_setup = of_setup;
  in_phase = ap (λ l. l.phase) made;
  asked = ap (λ l. l.asked) made;
  of_device = refl;
  unestablished = ap (λ l. l.stands) made;
  high = ap (λ l. l.alarms.sending.waiting) made;
  low = ap (λ l. l.low_alarms.sending.waiting) made;
  low_limit = subst (λ l. 3200 ≤ l.low_alarms.sending.limit) (sym made) (omega arith);
  alone = (ap (λ l. l.access.waiting) made, ap (λ l. l.access.plug) made);
  unbegun = ap (λ l. l.cyclic.begun) made;
  limit = ap (λ l. l.cyclic.hearing.limit) made;
}

-- frames that a controller without a relation ignores
pub ignore : (setup : Setup) (Is : Controlling → Type 0)
    → ((controller : Controlling) → Is controller → (controller.setup ≡ setup) × (controller.live.stands ≡ false))
    → (before : Controlling) (frames more : List (List ℕ)) → AllByRecursion (IsIgnored setup) frames → Is before → Kept Is before frames more
ignore setup Is early before frames more all is = keep Is (IsIgnored setup) (λ controller octets ignored at.
    let so = ignored controller (early controller at).0 (early controller at).1 in
    (ap (λ (s : Stepped). s.frames) so, subst (λ (s : Stepped). Is s.controller) (sym so) at)) before frames more all is
