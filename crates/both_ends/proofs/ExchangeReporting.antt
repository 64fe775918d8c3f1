-- Over any run of worlds, the changes that the device reported, and those that wait, lead to its diagnoses.
use Rattle.std.proofs.Common.{◌≡◌, ◌++◌, ◌<◌, ◌≤◌, ℕ, Bool, true, false, List, [], ◌∷◌, length, map, Option, Some, None, option_map, refl, sym, ap, subst, ◌∙◌, append-nil, append_assoc}
use Rattle.std.specs.Prelude.{slice_get}
use Rattle.lldp.specs.Views.{peer_as}
use Rattle.flash_model.specs.declared.flash.Flash.{Ghosts as Flash}
use Rattle.pn_values.specs.declared.identity.Identity.{Identity}
use Rattle.record_blocks.specs.declared.alarm_notification.AlarmNotification.{AlarmNotification}
use Rattle.diagnosis.specs.declared.diagnosis.Change.{Change}
use Rattle.diagnosis.specs.declared.queue.LowChange.{LowChange}
use Rattle.diagnosis.specs.declared.queue.QueuedAlarm.{QueuedAlarm}
use Rattle.diagnosis.specs.alarms.Own.{is_own}
use Rattle.diagnosis.specs.reported.Followed.{at_places}
use Rattle.diagnosis.specs.reported.Reported.{nothing_reported}
use Rattle.relations.specs.RelationState.{RelationState, is_exchanging}
use Rattle.diagnosis.specs.declared.reports.priority.Priority.TheVariants.{Low as low_priority}
use Rattle.device_frames.specs.declared.event.Event.TheVariants.{Frame}
use Rattle.device_frames.specs.declared.local.Local.TheVariants as local
use Rattle.device_frames.specs.Heard.{Heard, Ticks, Applied, Met, heard_of}
use Rattle.device_core.specs.State.{State, Live}
use Rattle.device_core.specs.Machine.{heard_step}
use Rattle.controller_messages.specs.declared.setup.Setup.{Setup}
use Rattle.network_world.specs.declared.moves.End.TheVariants.{Device, Controller}
use Rattle.network_world.specs.declared.moves.Move.{Move}
use Rattle.network_world.specs.declared.moves.Move.TheVariants as move
use Rattle.network_world.specs.World.{AreMade, AtDevice, Comes, Delivers, Happens, is_skipped, last_world, World}
use Rattle.end_laws.specs.both.Small as small
use Rattle.end_laws.specs.device.Small.{heard_as}
use Rattle.end_laws.specs.device.Turn.{change_heard}
use Rattle.end_laws.specs.hearing.Stations.{IsSetup}
use Rattle.end_laws.specs.turns.Alarms.{AreAllTaken, ListsWhatIsReported, after_reports}
use Rattle.both_ends.specs.startup.Played.{AreMeant, Begins, CanMeet}
use Rattle.both_ends.specs.startup.View.{IsMeant, IsMeantAtDevice, is_planned, rules_of}
use Rattle.both_ends.specs.exchange.Sized.{AreSizedModules, NoneIsAtZero}
use Rattle.both_ends.specs.exchange.Over.{reported_by, reported_over, reported_with, taken_over, taken_with}
use Rattle.both_ends.specs.exchange.Told.{AreKnown, AreSizedMoves, IsSizedMove, IsTold, change_in, known_at}
use Rattle.both_ends.proofs.ExchangeEarly.{IsEarlyFrame}
use Rattle.both_ends.proofs.ExchangeFollows.{IsIn, kept_at}
use Rattle.both_ends.proofs.ExchangeKnown.{ElsewhereSo}
use Rattle.both_ends.proofs.ExchangeKnows.{Knows, knows_on}
use Rattle.both_ends.proofs.ExchangeSteps.{FollowsSo, LeadsIf, all_listed, told_on}
use Rattle.both_ends.proofs.ExchangeLaw.{DeviceSo, FollowsAt, IsOfFrame, alone_so, delivered_device, early_at, first_follows, follows_so, in_at, lacks_none, lists, low_all, makes_so, modules_in, of_frame, one_follows, turn_at}
use Rattle.both_ends.proofs.ExchangeLists.{none_some}
use Rattle.both_ends.proofs.ExchangeLowTied.{reported_same}
use Rattle.both_ends.proofs.ExchangeMade.{stated_made}
use Rattle.both_ends.proofs.ExchangeMessages.{HearsSo}

-- ---- a move

-- the error of a change is that of the event
error_is : (slot subslot channel error : ℕ) (appears : Bool) (change : Change) → Applied (local.Diagnosis slot subslot channel error appears) ≡ change_heard change → change.diagnosis.error ≡ error
error_is slot subslot channel error appears change e = cc

abbrev IsSmall : Heard → Type 0
IsSmall heard = (change : Change) → heard ≡ change_heard change → change.diagnosis.error < 65536

framed_small : (heard : Heard) → IsOfFrame heard → IsSmall heard
framed_small heard is change e = absurd (subst (λ (h : Heard). IsOfFrame h) e is)

module _ {F : Type 0} where
  abbrev pub KnowsAt : Type 0 → World F → List AlarmNotification → Type 0
  KnowsAt Apart w raised = Knows Apart w.device.live.rest.real.modules.items w.device.live.rest.link w.device.live.rest.diagnoses raised

  module _ (so : DeviceSo) (hears : HearsSo) (elsewhere : ElsewhereSo) (Apart : Type 0) {S : ℕ} (as_flash : Flash F S) (before after : World F) (raised taken : List AlarmNotification)
      (follows : FollowsAt low_priority before raised taken) (knows : KnowsAt Apart before raised) where
    -- nothing happens at the device
    rests_knows : after.device ≡ before.device → KnowsAt Apart after (raised ++ reported_with before after)
    rests_knows same =
        subst (λ (d : State F). Knows Apart d.live.rest.real.modules.items d.live.rest.link d.live.rest.diagnoses (raised ++ reported_by before.device.live.rest.link d.live.rest.link)) (sym same)
        (subst (λ (xs : List AlarmNotification). KnowsAt Apart before xs) (sym (ap (λ (xs : List AlarmNotification). raised ++ xs) (reported_same before.device.live.rest.link before.device.live.rest.link refl) ∙ append-nil raised)) knows)

    -- the device hears something
    hears_knows : (heard : Heard) → IsSmall heard → ((sequence : ℕ) → heard_as (is_planned before.controller.setup) heard ≡ small.Call sequence small.Connects → sequence ≡ 0)
        → ((sequence : ℕ) → heard_as (is_planned before.controller.setup) heard ≡ small.Call sequence small.Accesses → kept_at before.controller.setup before.device.live ≡ None → ⊥)
        → AtDevice as_flash before heard after → IsMeantAtDevice before heard → KnowsAt Apart after (raised ++ reported_with before after)
    hears_knows heard is_small first late made meant =
        let live = before.device.live in
        let station = before.device.station in
        let outcomes = made.hears.steps.outcomes in
        let step = heard_step outcomes station live heard in
        let link = step.live.rest.link in
        let turn = turn_at low_priority so hears as_flash before after raised taken follows heard outcomes meant in
        let acts = so.turns (rules_of before.controller.setup station) before.controller.setup.activity outcomes station live heard meant.planned in
        subst (λ (l : Live). Knows Apart l.rest.real.modules.items l.rest.link l.rest.diagnoses (raised ++ reported_by live.rest.link l.rest.link)) (sym made.hears.steps.live)
        (knows_on so.keys elsewhere Apart live.rest.real.modules.items live.rest.link live.rest.diagnoses raised knows live.rest.calls heard link step.live.rest.real.modules.items step.live.rest.diagnoses step.sent is_small
        (λ makes. (
          alone_so low_priority so hears as_flash before after raised taken follows heard first late made meant link step.sent makes,
          follows.unraised (makes_so low_priority so hears as_flash before after raised taken follows heard first late made meant link step.sent makes).0,
          stated_made station live heard step.live.rest step.sent (alone_so low_priority so hears as_flash before after raised taken follows heard first late made meant link step.sent makes) acts.does,
        )) turn (modules_in station live heard step.live.rest step.sent acts) acts.diagnoses)

    idle_knows : (heard : Heard) → IsSmall heard → heard_as (is_planned before.controller.setup) heard ≡ small.Idle
        → AtDevice as_flash before heard after → IsMeantAtDevice before heard → KnowsAt Apart after (raised ++ reported_with before after)
    idle_knows heard is_small idle made meant =
        hears_knows heard is_small (λ sequence e. absurd (idle_connect sequence (sym idle ∙ e))) (λ sequence e none. absurd (idle_access sequence (sym idle ∙ e))) made meant
      where
        idle_connect : (sequence : ℕ) → small.Idle ≡ small.Call sequence small.Connects → ⊥
        idle_connect sequence e = absurd cc

        idle_access : (sequence : ℕ) → small.Idle ≡ small.Call sequence small.Accesses → ⊥
        idle_access sequence e = absurd cc

    comes_knows : (octets : List ℕ) (skipped : Bool) → IsIn low_priority before.controller.setup before.device.station.identity follows.relation octets
        → (kept_at before.controller.setup before.device.live ≡ None → IsEarlyFrame before.controller.setup before.device.station octets)
        → IsMeantAtDevice before (heard_of before.device.station.identity (Frame (record { items = octets }))) → Comes as_flash skipped before Device octets after
        → KnowsAt Apart after (raised ++ reported_with before after)
    comes_knows octets true is early meant comes = rests_knows (ap (λ (w : World F). w.device) comes)
    comes_knows octets false is early meant comes =
        let heard = heard_of before.device.station.identity (Frame (record { items = octets })) in
        hears_knows heard (framed_small heard (of_frame before.device.station.identity octets)) is.first (λ sequence e unkept. (early unkept).0 sequence e) comes meant

    delivered_knows : (octets : Option (List ℕ))
        → ((frame : List ℕ) → octets ≡ Some frame → IsIn low_priority before.controller.setup before.device.station.identity follows.relation frame)
        → ((frame : List ℕ) → octets ≡ Some frame → kept_at before.controller.setup before.device.live ≡ None → IsEarlyFrame before.controller.setup before.device.station frame)
        → ((frame : List ℕ) → octets ≡ Some frame → IsMeantAtDevice before (heard_of before.device.station.identity (Frame (record { items = frame }))))
        → Delivers as_flash octets before Device after → KnowsAt Apart after (raised ++ reported_with before after)
    delivered_knows None is early meant comes = rests_knows (ap (λ (w : World F). w.device) comes)
    delivered_knows (Some octets) is early meant comes = comes_knows octets (is_skipped before.device before.controller Device octets) (is octets refl) (early octets refl) (meant octets refl) comes

    away_knows : (octets : Option (List ℕ)) → Delivers as_flash octets before Controller after → KnowsAt Apart after (raised ++ reported_with before after)
    away_knows octets comes = rests_knows (delivered_device low_priority so hears as_flash before after raised taken follows octets comes)

    one_knows : (one : Move) → Happens as_flash before one after → IsMeant before one → IsSizedMove one → KnowsAt Apart after (raised ++ reported_with before after)
    one_knows (move.Deliver Device number) happens meant sized =
        delivered_knows (slice_get before.sent number) (λ frame there. in_at low_priority so hears as_flash before after raised taken follows number frame there)
        (λ frame there. early_at low_priority so hears as_flash before after raised taken follows number frame there) meant happens
    one_knows (move.Deliver Controller number) happens meant sized = away_knows (slice_get before.sent number) happens
    one_knows (move.Tick Device) happens meant sized = idle_knows Ticks (λ change e. absurd cc) refl happens meant
    one_knows (move.Application (local.Diagnosis slot subslot channel error appears)) happens meant sized =
        idle_knows (Applied (local.Diagnosis slot subslot channel error appears))
        (λ change e. subst (λ (n : ℕ). n < 65536) (sym (error_is slot subslot channel error appears change e)) sized) refl happens meant
    one_knows (move.Application other) happens meant sized = idle_knows (Applied other) (λ change e. absurd cc) refl happens meant
    one_knows (move.Neighbour neighbour) happens meant sized = idle_knows (Met (option_map peer_as neighbour)) (λ change e. absurd cc) refl happens meant
    one_knows other happens meant sized = rests_knows (ap (λ (w : World F). w.device) happens)

  -- ---- any run

  record Reporting (Apart : Type 0) (w : World F) (raised taken : List AlarmNotification) : Type 0 where
    pub follows : FollowsAt low_priority w raised taken
    pub knows : KnowsAt Apart w raised

  run_reports : DeviceSo → HearsSo → ElsewhereSo → (Apart : Type 0) {S : ℕ} (as_flash : Flash F S) (w : World F) (raised taken : List AlarmNotification) → Reporting Apart w raised taken
      → (run : List (Move × World F)) → AreMade as_flash w run → AreMeant w run → AreSizedMoves run → Reporting Apart (last_world w run) (raised ++ reported_over w run) (taken ++ taken_over low_priority w run)
  run_reports so hears elsewhere Apart as_flash w raised taken is [] made meant sized =
      subst (λ (xs : List AlarmNotification). Reporting Apart w xs (taken ++ [])) (sym (append-nil raised))
      (subst (λ (xs : List AlarmNotification). Reporting Apart w raised xs) (sym (append-nil taken)) is)
  run_reports so hears elsewhere Apart as_flash w raised taken is (one ∷ run) made meant sized =
      let now = reported_with w one.1 in
      let next : Reporting Apart one.1 (raised ++ now) (taken ++ taken_with low_priority w one.0) = record {
        follows = one_follows low_priority so hears as_flash w one.1 raised taken is.follows one.0 made.0 meant.0 sized.0;
        knows = one_knows so hears elsewhere Apart as_flash w one.1 raised taken is.follows is.knows one.0 made.0 meant.0 sized.0;
      } in
      let all = run_reports so hears elsewhere Apart as_flash one.1 (raised ++ now) (taken ++ taken_with low_priority w one.0) next run made.1 meant.1 sized.1 in
      subst (λ (xs : List AlarmNotification). Reporting Apart (last_world one.1 run) xs (taken ++ (taken_with low_priority w one.0 ++ taken_over low_priority one.1 run))) (append_assoc raised now (reported_over one.1 run))
      (subst (λ (xs : List AlarmNotification). Reporting Apart (last_world one.1 run) ((raised ++ now) ++ reported_over one.1 run) xs) (append_assoc taken (taken_with low_priority w one.0) (taken_over low_priority one.1 run)) all)

  -- ---- from the start

  first_knows : (setup : Setup) (identity : Identity) (first : World F) → Begins setup identity first → AreKnown first.device.live.rest.diagnoses
      → KnowsAt (NoneIsAtZero first.device.live.rest.real.modules.items) first []
  first_knows setup identity first begins known = record {
    known = known;
    none = λ none. none;
    begins = λ l is. absurd (none_some l first.device.live.rest.link begins.unrelated is);
    stated = λ l is. absurd (none_some l first.device.live.rest.link begins.unrelated is);
    before = λ l is off. absurd (none_some l first.device.live.rest.link begins.unrelated is);
    told = λ l is on. absurd (none_some l first.device.live.rest.link begins.unrelated is);
  }

  module _ (so : DeviceSo) (hears : HearsSo) (setup : Setup) (identity : Identity) (good : IsSetup setup) (can : CanMeet setup identity) {S : ℕ} (as_flash : Flash F S)
      (first : World F) (run : List (Move × World F)) (begins : Begins setup identity first) (real : AreSizedModules first.device.live.rest.real.modules.items)
      (made : AreMade as_flash first run) (sized : AreSizedMoves run) (meant : AreMeant first run) where
    pub low_so : FollowsAt low_priority (last_world first run) (reported_over first run) (taken_over low_priority first run)
    low_so =
        subst (λ (xs : List AlarmNotification). FollowsAt low_priority (last_world first run) xs (taken_over low_priority first run)) (low_all first run)
        (follows_so low_priority so hears setup identity good can as_flash first run begins real made sized meant)

    abbrev Apart : Type 0
    Apart = NoneIsAtZero first.device.live.rest.real.modules.items

    reporting_so : ElsewhereSo → AreKnown first.device.live.rest.diagnoses → Reporting Apart (last_world first run) (reported_over first run) (taken_over low_priority first run)
    reporting_so elsewhere known =
        run_reports so hears elsewhere Apart as_flash first [] [] (record {
          follows = first_follows low_priority so hears setup identity good can first begins real;
          knows = first_knows setup identity first begins known;
        }) run made meant sized

    -- the diagnoses appeared one after the other
    pub known_so : ElsewhereSo → AreKnown first.device.live.rest.diagnoses → AreKnown (last_world first run).device.live.rest.diagnoses
    known_so elsewhere known = (reporting_so elsewhere known).knows.known

    -- nothing is plugged in a subslot 0
    pub plugged_so : ElsewhereSo → AreKnown first.device.live.rest.diagnoses → NoneIsAtZero first.device.live.rest.real.modules.items
        → NoneIsAtZero (last_world first run).device.live.rest.real.modules.items
    plugged_so elsewhere known apart = (reporting_so elsewhere known).knows.none apart

    -- where data is exchanged, what was reported and what waits lead to the diagnoses
    pub told_so : ElsewhereSo → AreKnown first.device.live.rest.diagnoses → (link : RelationState) → (last_world first run).device.live.rest.link ≡ Some link → is_exchanging link.phase ≡ true
        → IsTold link.flow.low (last_world first run).device.live.rest.diagnoses (reported_over first run)
    told_so elsewhere known link is on =
        told_on Apart link.flow.low (last_world first run).device.live.rest.diagnoses (reported_over first run) ((reporting_so elsewhere known).knows.told link is on)

    -- where none is unacknowledged and none waits, the list of the controller is that of the device
    pub list_so : ElsewhereSo → FollowsSo → AreAllTaken → ListsWhatIsReported → AreKnown first.device.live.rest.diagnoses → NoneIsAtZero first.device.live.rest.real.modules.items
        → length (reported_over first run) ≤ 32768 → (link : RelationState) → (last_world first run).device.live.rest.link ≡ Some link → is_exchanging link.phase ≡ true → link.flow.low.alarms.sender.standing ≡ None → link.flow.low.waiting ≡ []
        → (last_world first run).controller.live.stands ≡ true
        → (last_world first run).controller.live.diagnosis ≡ known_at link.flow.low (last_world first run).device.live.rest.diagnoses
    list_so elsewhere follows_law all_law lists_law known apart few link is on none empty up =
        let last = last_world first run in
        let reported = reported_over first run in
        let taken = taken_over low_priority first run in
        let told = (reporting_so elsewhere known).knows.told link is on in
        let leads : LeadsIf Apart told.changes [] (at_places (is_own link.flow.low.places) last.device.live.rest.diagnoses) =
        subst (λ (xs : List LowChange). LeadsIf Apart xs [] (at_places (is_own link.flow.low.places) last.device.live.rest.diagnoses)) (append-nil told.changes)
        (subst (λ (ws : List QueuedAlarm). LeadsIf Apart (told.changes ++ map change_in ws) [] (at_places (is_own link.flow.low.places) last.device.live.rest.diagnoses)) empty told.leads) in
        lists lists_law last reported taken low_so up
        ∙ (ap (λ (xs : List AlarmNotification). after_reports xs nothing_reported) (lacks_none low_priority last reported taken low_so all_law few link is none)
        ∙ all_listed follows_law Apart apart told.changes reported [] (at_places (is_own link.flow.low.places) last.device.live.rest.diagnoses) told.reports leads)
