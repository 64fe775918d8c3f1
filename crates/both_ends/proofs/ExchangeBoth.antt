-- A world that is begun and played meets all laws of both ends.
use Rattle.std.proofs.Common.{◌≡◌, ◌<◌, ◌≤◌, ◌+◌, ℕ, zero, suc, true, false, List, [], ◌∷◌, length, take, Some, None, Result, Ok, Err, refl, sym, ap, subst, ◌∙◌}
use Rattle.std.specs.Prelude.{OnErr, OnOk}
use Rattle.std.specs.List.{AllByRecursion}
use Rattle.flash_model.specs.declared.flash.Flash.{Ghosts as Flash}
use Rattle.pn_values.specs.declared.identity.Identity.{Identity}
use Rattle.rpc_core.specs.Cache.{kept_of}
use Rattle.asked_records.specs.Asked.{question_in}
use Rattle.both_ends.specs.startup.request.Request.{request_for}
use Rattle.relations.specs.Exchanged.{output_in}
use Rattle.relations.specs.RelationState.{RelationState, is_exchanging}
use Rattle.relations.specs.declared.phase.Phase.TheVariants.{Exchanging as in_exchange}
use Rattle.device_core.specs.State.{State}
use Rattle.controller_messages.specs.declared.setup.Setup.{Setup}
use Rattle.controller_core.specs.declared.stored.state.State.TheVariants.{Exchanging}
use Rattle.diagnosis.specs.declared.reports.priority.Priority.TheVariants.{High, Low}
use Rattle.end_laws.specs.turns.Alarms.{last_of}
use Rattle.diagnosis.specs.World.{IsPrefixOf}
use Rattle.network_world.specs.declared.moves.Move.{Move}
use Rattle.network_world.specs.World.{AreMade, last_world, Played, World}
use Rattle.end_laws.specs.both.StartUp.{WasExchanging, WasHanded}
use Rattle.both_ends.specs.startup.Played.{Begins, CanMeet, IsRunOf, moves_of, viewed}
use Rattle.both_ends.specs.startup.View.{rules_of, view_of}
use Rattle.both_ends.specs.exchange.Given.{AreOfOneFrame, zero_for}
use Rattle.both_ends.specs.exchange.Shown.{has_accepted}
use Rattle.both_ends.specs.exchange.Sized.{AreSizedModules, NoneIsAtZero}
use Rattle.both_ends.specs.exchange.Over.{IsOneOfTheLastTwo, raised_over, reported_over, taken_over}
use Rattle.both_ends.specs.exchange.Told.{AreKnown, AreSizedMoves, IsSizedMove, IsTold, known_at}
use Rattle.both_ends.specs.exchange.Together.{IsBegunAndCut, IsBegunAndPlayed}

-- what follows from the case of success follows for any result
pub on_good : {A E : Type 0} (P Q : Type 0) (result : Result A E) → (P → Q) → OnOk result P → OnOk result Q
on_good P Q (Ok value) so holds = so holds
on_good P Q (Err error) so holds = holds

pub on_bad : {A E : Type 0} (P Q : Type 0) (result : Result A E) → (P → Q) → OnErr result P → OnErr result Q
on_bad P Q (Ok value) so holds = holds
on_bad P Q (Err error) so holds = so holds

-- the laws of both ends
pub record Laws {F : Type 0} {S : ℕ} (as_flash : Flash F S) (setup : Setup) (identity : Identity) : Type 0 where
  pub run : (before after : World F) (moves : List Move) → Played as_flash before moves after → IsRunOf as_flash before moves after
  pub handed : CanMeet setup identity → (first : World F) (run : List (Move × World F)) → Begins setup identity first → AreMade as_flash first run
      → (last_world first run).controller.live.phase ≡ Exchanging → WasHanded (rules_of first.controller.setup first.device.station) (view_of first) (viewed run)
  pub exchanging : CanMeet setup identity → (first : World F) (run : List (Move × World F)) → Begins setup identity first → AreMade as_flash first run
      → (link : RelationState) → (last_world first run).device.live.rest.link ≡ Some link → link.phase ≡ in_exchange → WasExchanging (viewed run)
  pub relation : CanMeet setup identity → (first : World F) (run : List (Move × World F)) → Begins setup identity first → AreMade as_flash first run
      → (link : RelationState) → (last_world first run).device.live.rest.link ≡ Some link → link.request ≡ request_for setup.plan setup.ar
  pub zeros : CanMeet setup identity → (first : World F) (run : List (Move × World F)) → Begins setup identity first → AreMade as_flash first run
      → (link : RelationState) → (last_world first run).device.live.rest.link ≡ Some link → has_accepted link ≡ false
      → (slot subslot : ℕ) → output_in slot subslot (Some link) ≡ zero_for setup slot subslot
  pub values : CanMeet setup identity → (first : World F) (run : List (Move × World F)) → Begins setup identity first → AreMade as_flash first run
      → (link : RelationState) → (last_world first run).device.live.rest.link ≡ Some link → has_accepted link ≡ true → AreOfOneFrame setup identity first run link
  pub front : CanMeet setup identity → (first : World F) (run : List (Move × World F)) → Begins setup identity first → AreMade as_flash first run
      → AreSizedModules first.device.live.rest.real.modules.items → AreSizedMoves run → length (raised_over first run) ≤ 32768 → IsPrefixOf (taken_over High first run) (raised_over first run)
  pub lacks : CanMeet setup identity → (first : World F) (run : List (Move × World F)) → Begins setup identity first → AreMade as_flash first run
      → AreSizedModules first.device.live.rest.real.modules.items → AreSizedMoves run → length (raised_over first run) ≤ 32768 → length (raised_over first run) ≤ length (taken_over High first run) + 1
  pub shown : CanMeet setup identity → (first : World F) (run : List (Move × World F)) → Begins setup identity first → AreMade as_flash first run
      → AreSizedModules first.device.live.rest.real.modules.items → AreSizedMoves run → (last_world first run).controller.live.alarm ≡ last_of (taken_over High first run)
  pub alarm : CanMeet setup identity → (first : World F) (run : List (Move × World F)) → Begins setup identity first → AreMade as_flash first run
      → AreSizedModules first.device.live.rest.real.modules.items → AreSizedMoves run → length (raised_over first run) ≤ 32768
      → IsOneOfTheLastTwo (raised_over first run) (last_world first run).controller.live.alarm
  pub reports : CanMeet setup identity → (first : World F) (run : List (Move × World F)) → Begins setup identity first → AreMade as_flash first run
      → AreSizedModules first.device.live.rest.real.modules.items → AreSizedMoves run → length (reported_over first run) ≤ 32768 → IsPrefixOf (taken_over Low first run) (reported_over first run)
  pub reported_last : CanMeet setup identity → (first : World F) (run : List (Move × World F)) → Begins setup identity first → AreMade as_flash first run
      → AreSizedModules first.device.live.rest.real.modules.items → AreSizedMoves run → length (reported_over first run) ≤ 32768 → length (reported_over first run) ≤ length (taken_over Low first run) + 1
  pub told : CanMeet setup identity → (first : World F) (run : List (Move × World F)) → Begins setup identity first → AreMade as_flash first run
      → AreSizedModules first.device.live.rest.real.modules.items → AreSizedMoves run → AreKnown first.device.live.rest.diagnoses
      → (link : RelationState) → (last_world first run).device.live.rest.link ≡ Some link → is_exchanging link.phase ≡ true
      → IsTold link.flow.low (last_world first run).device.live.rest.diagnoses (reported_over first run)
  pub list : CanMeet setup identity → (first : World F) (run : List (Move × World F)) → Begins setup identity first → AreMade as_flash first run
      → AreSizedModules first.device.live.rest.real.modules.items → AreSizedMoves run → AreKnown first.device.live.rest.diagnoses
      → NoneIsAtZero first.device.live.rest.real.modules.items → length (reported_over first run) ≤ 32768 → (link : RelationState) → (last_world first run).device.live.rest.link ≡ Some link → is_exchanging link.phase ≡ true
      → link.flow.low.alarms.sender.standing ≡ None → link.flow.low.waiting ≡ [] → (last_world first run).controller.live.stands ≡ true
      → (last_world first run).controller.live.diagnosis ≡ known_at link.flow.low (last_world first run).device.live.rest.diagnoses
  pub known : CanMeet setup identity → (first : World F) (run : List (Move × World F)) → Begins setup identity first → AreMade as_flash first run
      → AreSizedModules first.device.live.rest.real.modules.items → AreSizedMoves run → AreKnown first.device.live.rest.diagnoses
      → AreKnown (last_world first run).device.live.rest.diagnoses
  pub plugged : CanMeet setup identity → (first : World F) (run : List (Move × World F)) → Begins setup identity first → AreMade as_flash first run
      → AreSizedModules first.device.live.rest.real.modules.items → AreSizedMoves run → AreKnown first.device.live.rest.diagnoses
      → NoneIsAtZero first.device.live.rest.real.modules.items → NoneIsAtZero (last_world first run).device.live.rest.real.modules.items
  pub station : CanMeet setup identity → (first : World F) (run : List (Move × World F)) → Begins setup identity first → AreMade as_flash first run
      → (last_world first run).device.station ≡ first.device.station
  pub unasked : CanMeet setup identity → (first : World F) (run : List (Move × World F)) → Begins setup identity first → AreMade as_flash first run
      → (last_world first run).device.live.rest.link ≡ None → question_in (last_world first run).device.live.rest.asked ≡ None
  pub others : CanMeet setup identity → (first : World F) (run : List (Move × World F)) → Begins setup identity first → AreMade as_flash first run
      → (activity : List ℕ) → (setup.activity ≡ activity → ⊥) → kept_of activity first.device.live.rest.calls ≡ None
      → kept_of activity (last_world first run).device.live.rest.calls ≡ None

-- the moves of a run have their sizes
sized_run : {F : Type 0} (run : List (Move × World F)) → AllByRecursion IsSizedMove (moves_of run) → AreSizedMoves run
sized_run [] all = tt
sized_run (one ∷ run) all = (all.0, sized_run run all.1)

sized_take : (count : ℕ) (moves : List Move) → AllByRecursion IsSizedMove moves → AllByRecursion IsSizedMove (take count moves)
sized_take zero moves all = tt
sized_take (suc count) [] all = tt
sized_take (suc count) (one ∷ moves) all = (all.0, sized_take count moves all.1)

module _ {F : Type 0} {S : ℕ} (as_flash : Flash F S) (setup : Setup) (identity : Identity) (laws : Laws as_flash setup identity) (meets : CanMeet setup identity)
    (device : State F) (known : device.station.identity ≡ identity) (sized : AreSizedModules device.live.rest.real.modules.items)
    (first : World F) (begins : Begins setup device.station.identity first) (of_device : first.device ≡ device) where
  begun : Begins setup identity first
  begun = subst (λ (i : Identity). Begins setup i first) known begins

  real : AreSizedModules first.device.live.rest.real.modules.items
  real = subst (λ (d : State F). AreSizedModules d.live.rest.real.modules.items) (sym of_device) sized

  known_first : AreKnown device.live.rest.diagnoses → AreKnown first.device.live.rest.diagnoses
  known_first are = subst (λ (d : State F). AreKnown d.live.rest.diagnoses) (sym of_device) are

  none_first : NoneIsAtZero device.live.rest.real.modules.items → NoneIsAtZero first.device.live.rest.real.modules.items
  none_first none = subst (λ (d : State F). NoneIsAtZero d.live.rest.real.modules.items) (sym of_device) none

  pub played_so : (moves : List Move) (last : World F) → AllByRecursion IsSizedMove moves → Played as_flash first moves last → IsBegunAndPlayed as_flash setup device moves last
  played_so moves last sizes played =
      let of = laws.run first last moves played in
      let run = of.run in
      let made = of.made in
      let moves_sized = sized_run run (subst (λ (all : List Move). AllByRecursion IsSizedMove all) (sym of.are) sizes) in
      subst (λ (w : World F). IsBegunAndPlayed as_flash setup device moves w) of.last (record {
        first = first;
        begins = begins;
        of_device = of_device;
        run = run;
        are = of.are;
        made = made;
        ends = refl;
        handed = laws.handed meets first run begun made;
        exchanging = laws.exchanging meets first run begun made;
        relation = laws.relation meets first run begun made;
        zeros = laws.zeros meets first run begun made;
        values = λ link is some. subst (λ (i : Identity). AreOfOneFrame setup i first run link) (sym known) (laws.values meets first run begun made link is some);
        front = laws.front meets first run begun made real moves_sized;
        lacks = laws.lacks meets first run begun made real moves_sized;
        shown = laws.shown meets first run begun made real moves_sized;
        alarm = laws.alarm meets first run begun made real moves_sized;
        reports = laws.reports meets first run begun made real moves_sized;
        reported_last = laws.reported_last meets first run begun made real moves_sized;
        told = λ are. laws.told meets first run begun made real moves_sized (known_first are);
        list = λ are none. laws.list meets first run begun made real moves_sized (known_first are) (none_first none);
        station = laws.station meets first run begun made ∙ ap (λ (d : State F). d.station) of_device;
        unasked = laws.unasked meets first run begun made;
        others = λ activity other none. laws.others meets first run begun made activity other (ap (λ (d : State F). kept_of activity d.live.rest.calls) of_device ∙ none);
        known = λ are. laws.known meets first run begun made real moves_sized (known_first are);
        plugged = λ are none. laws.plugged meets first run begun made real moves_sized (known_first are) (none_first none);
      })

  pub cut_so : (moves : List Move) (last : World F) → AllByRecursion IsSizedMove moves → ((count : ℕ) × (count < length moves) × Played as_flash first (take count moves) last) → IsBegunAndCut as_flash setup device moves last
  cut_so moves last sizes cut = record { count = cut.0; before = cut.1; played = played_so (take cut.0 moves) last (sized_take cut.0 moves sizes) cut.2 }
