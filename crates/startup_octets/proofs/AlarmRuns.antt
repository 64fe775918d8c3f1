-- Over any run of worlds, the alarms that are raised and accepted are those at fixed places of the frames in its log.
use Rattle.std.proofs.Common.{◌≡◌, ◌≤◌, ◌+◌, ◌++◌, ℕ, Bool, true, false, List, [], ◌∷◌, length, map, drop, Option, Some, None, refl, sym, ap, subst, ◌∙◌, arith}
use Rattle.std.proofs.lemmas.List.{append-nil, length-map, map-append}
use Rattle.std.specs.Prelude.{slice_get, unwrap_or}
use Rattle.std.specs.List.{AllByRecursion}
use Rattle.flash_model.specs.declared.flash.Flash.{Ghosts as Flash}
use Rattle.pn_values.specs.declared.identity.Identity.{Identity}
use Rattle.wire.specs.Codec.{IsSoundWhole}
use Rattle.frame_codec.specs.Frame.{layers}
use Rattle.record_blocks.specs.declared.alarm_notification.AlarmNotification.{AlarmNotification}
use Rattle.settings_journal.specs.settings_store.Machine.{Outcome}
use Rattle.diagnosis.specs.declared.reports.priority.Priority.TheVariants.{High}
use Rattle.diagnosis.specs.World.{IsPrefixOf}
use Rattle.pn_values.specs.declared.mac.Mac.{Mac}
use Rattle.device_frames.specs.Heard.{Heard as DeviceHeard, Applied}
use Rattle.device_frames.specs.declared.local.Local.TheVariants as local
use Rattle.device_frames.specs.Sent.{bytes_of as device_bytes}
use Rattle.device_core.specs.State.{Live, Station}
use Rattle.device_core.specs.Machine.{handled_step, heard_step}
use Rattle.controller_messages.specs.declared.setup.Setup.{Setup}
use Rattle.controller_messages.specs.Heard as controller
use Rattle.controller_messages.specs.Heard.{heard_of}
use Rattle.controller_messages.specs.Sent.{bytes_of}
use Rattle.controller_core.specs.declared.stored.event.Event.{Event}
use Rattle.controller_core.specs.declared.stored.event.Event.TheVariants as event
use Rattle.controller_core.specs.stored.State.{Controlling, Live as ControllerLive}
use Rattle.controller_core.specs.Machine.{step_of, turn_of, turned}
use Rattle.network_world.specs.declared.moves.End.TheVariants.{Controller}
use Rattle.network_world.specs.declared.moves.Move.{Move}
use Rattle.network_world.specs.declared.moves.Move.TheVariants as move
use Rattle.network_world.specs.World.{AreMade, at_controller, Comes, Delivers, Happens, is_skipped, last_world, World}
use Rattle.end_laws.specs.hearing.Stations.{IsSetup}
use Rattle.end_laws.specs.sending.Sized.{IsLive, IsSized}
use Rattle.end_laws.specs.turns.Alarms.{last_of}
use Rattle.both_ends.specs.startup.Played.{AreMeant, Begins, CanMeet}
use Rattle.both_ends.specs.exchange.Over.{raised_over, raised_with, taken_by, taken_from, taken_in, taken_over, taken_with}
use Rattle.both_ends.specs.exchange.Sized.{AreSizedModules}
use Rattle.both_ends.specs.exchange.Told.{AreSizedMoves}
use Rattle.both_ends.proofs.ExchangeLaw.{DeviceSo, FollowsAt, first_follows, in_at, one_follows}
use Rattle.both_ends.proofs.ExchangeMessages.{HearsSo}
use Rattle.both_ends.proofs.ExchangeRelated.{IsRight, response_right}
use Rattle.both_ends.proofs.ExchangeReported.{IsGood, IsWell}
use Rattle.startup_octets.specs.Alarms.{AreAlarmsTaken, acceptances_in, accepted_by, any_carries, last_in, raise_of, raised_by, raises_in}
use Rattle.startup_octets.specs.Log.{Entry}
use Rattle.startup_octets.specs.Run.{entries_of, entry_by, opening_entry}
use Rattle.startup_octets.specs.Played.{came_by}
use Rattle.startup_octets.proofs.AlarmTurns.{IsKept, accepted_if, controller_keeps, controller_turn, device_turn}
use Rattle.startup_octets.proofs.Points.{dropped}
use Rattle.startup_octets.proofs.SmallSteps.{each_both}

-- ---- what a controller hears of its device has its sizes

module _ (so : DeviceSo) (setup : Setup) (live : ControllerLive) (mac : Mac) (good : IsSetup setup) (lives : IsLive live) where
  right_by : (octets : List ℕ) (heard : controller.Heard) → heard_of setup.plan.controller octets ≡ heard → IsSized heard → IsRight setup (turned setup live heard)
  right_by octets heard e sized =
      subst (λ (h : controller.Heard). IsRight setup (turned setup live h)) e
      (so.goes_sized setup live (event.Frame (record { items = octets })) good lives (subst (λ (h : controller.Heard). IsSized h) (sym e) sized))

  heard_right : (octets : List ℕ) (heard : controller.Heard) → heard_of setup.plan.controller octets ≡ heard → IsGood mac heard → IsWell setup heard → IsRight setup (turned setup live heard)
  heard_right octets (controller.Answers source answer) e is fit = right_by octets (controller.Answers source answer) e is.1
  heard_right octets (controller.Responds response) e is fit = response_right setup good live response lives fit
  heard_right octets (controller.Refuses refusal) e is fit = right_by octets (controller.Refuses refusal) e tt
  heard_right octets (controller.Calls caller call) e is fit = right_by octets (controller.Calls caller call) e (is.1, is.2, is.3)
  heard_right octets (controller.Alarms source under header reported) e is fit = right_by octets (controller.Alarms source under header reported) e is.0
  heard_right octets controller.Nothing e is fit = right_by octets controller.Nothing e tt
  heard_right octets (controller.Cyclic source frame_id body) e is fit = right_by octets (controller.Cyclic source frame_id body) e tt

-- ---- steps

controller_frames : (old : Controlling) (one : Event) → (step_of old one).frames ≡ map (bytes_of old.setup) (turn_of old.setup old.live one).sent
unfolding step_of
controller_frames old one = refl

frames_of_device : (outcomes : List Outcome) (station : Station) (live : Live) (heard : DeviceHeard) → (heard_step outcomes station live heard).frames ≡ map (device_bytes station.identity) (heard_step outcomes station live heard).sent
unfolding heard_step handled_step
frames_of_device outcomes station live heard = refl

-- ---- lists

both_lists : {A : Type 0} (a b c d : List A) → a ≡ b → c ≡ d → a ++ c ≡ b ++ d
both_lists a b c d one other = ap (λ l. l ++ c) one ∙ ap (λ l. b ++ l) other

last_same : (alarms : List AlarmNotification) → AllByRecursion IsKept alarms → last_of alarms ≡ last_in alarms
last_same [] kept = refl
last_same (one ∷ []) kept = ap (λ (alarm : AlarmNotification). Some alarm) kept.0
last_same (one ∷ next ∷ alarms) kept = last_same (next ∷ alarms) kept.1

-- ---- a move

module _ {F : Type 0} where
  abbrev sent_with : World F → World F → List (List ℕ)
  sent_with before after = drop (length before.sent) after.sent

  none_sent : (before after : World F) → after ≡ before → sent_with before after ≡ []
  none_sent before after same =
      ap (λ (w : World F). drop (length before.sent) w.sent) same
      ∙ (ap (drop (length before.sent)) (sym (append-nil before.sent)) ∙ dropped before.sent [])

  -- What is read of a move.
  record IsMoveRead (before : World F) (one : Move) (after : World F) : Type 0 where
    raised : map raise_of (raised_with before one) ≡ raised_by (Some one) (sent_with before after)
    accepted : taken_with High before one ≡ accepted_by (Some one) (came_by before.sent one) (sent_with before after)
    kept : AllByRecursion IsKept (taken_with High before one)

  abbrev accepted_at : World F → World F → List ℕ → List AlarmNotification
  accepted_at before after came = accepted_if (any_carries 0x8001 (sent_with before after)) came

  module _ (sound : IsSoundWhole layers) (so : DeviceSo) (hears : HearsSo) {S : ℕ} (as_flash : Flash F S) (before after : World F) (raised taken : List AlarmNotification) (follows : FollowsAt High before raised taken) where
    -- A frame that comes to the controller.
    abbrev IsWellHeard : List ℕ → Type 0
    IsWellHeard octets = IsGood before.device.station.identity.mac (heard_of before.controller.setup.plan.controller octets) × IsWell before.controller.setup (heard_of before.controller.setup.plan.controller octets)

    frame_accepted : (octets : List ℕ) → IsWellHeard octets → after ≡ at_controller before (event.Frame (record { items = octets }))
        → taken_by High before.controller.live (heard_of before.controller.setup.plan.controller octets) ≡ accepted_at before after octets
    frame_accepted octets fit made =
        let setup = before.controller.setup in
        let live = before.controller.live in
        let heard = heard_of setup.plan.controller octets in
        let one = event.Frame (record { items = octets }) in
        let right = heard_right so setup live before.device.station.identity.mac follows.good follows.lives octets heard refl fit.0 fit.1 in
        let sent_is : sent_with before after ≡ map (bytes_of setup) (turned setup live heard).sent =
        ap (λ (w : World F). drop (length before.sent) w.sent) made ∙ (dropped before.sent (step_of before.controller one).frames ∙ controller_frames before.controller one) in
        controller_turn setup follows.good live octets sound so.kinds right.1 ∙ sym (ap (λ (l : List (List ℕ)). accepted_if (any_carries 0x8001 l) octets) sent_is)

    abbrev IsAccepted : List AlarmNotification → List ℕ → Type 0
    IsAccepted accepted came = (accepted ≡ accepted_at before after came) × AllByRecursion IsKept accepted

    nothing_accepted : (came : List ℕ) → after ≡ before → IsAccepted [] came
    nothing_accepted came same = (sym (ap (λ (l : List (List ℕ)). accepted_if (any_carries 0x8001 l) came) (none_sent before after same)), tt)

    came_accepted : (found : Option (List ℕ)) → ((frame : List ℕ) → found ≡ Some frame → IsWellHeard frame) → Delivers as_flash found before Controller after
        → IsAccepted (taken_from High before found) (unwrap_or found [])
    came_accepted None fit comes = nothing_accepted [] comes
    came_accepted (Some octets) fit comes = by_skip (is_skipped before.device before.controller Controller octets) comes
      where
        by_skip : (b : Bool) → Comes as_flash b before Controller octets after → IsAccepted (taken_in High b before.controller octets) octets
        by_skip true same = nothing_accepted octets same
        by_skip false made = (frame_accepted octets (fit octets refl) made, controller_keeps before.controller.setup follows.good before.controller.live octets sound so.kinds)

    nothing_read : (one : Move) → raised_with before one ≡ [] → taken_with High before one ≡ [] → [] ≡ raised_by (Some one) (sent_with before after)
        → [] ≡ accepted_by (Some one) (came_by before.sent one) (sent_with before after) → IsMoveRead before one after
    nothing_read one raises takes raised accepted = record {
      raised = ap (map raise_of) raises ∙ raised;
      accepted = takes ∙ accepted;
      kept = subst (AllByRecursion IsKept) (sym takes) tt;
    }

    move_read : (one : Move) → Happens as_flash before one after → IsMoveRead before one after
    move_read (move.Deliver Controller number) happens =
        let fit : (frame : List ℕ) → slice_get before.sent number ≡ Some frame → IsWellHeard frame = λ frame there. (
          (in_at High so hears as_flash before after raised taken follows number frame there).good,
          (in_at High so hears as_flash before after raised taken follows number frame there).well,
        ) in
        let it = came_accepted (slice_get before.sent number) fit happens in
        record { raised = refl; accepted = it.0; kept = it.1 }
    move_read (move.Application (local.Alarm slot subslot octets)) happens =
        let steps = happens.hears.steps in
        let station = before.device.station in
        let live = before.device.live in
        let heard = Applied (local.Alarm slot subslot octets) in
        let step = heard_step steps.outcomes station live heard in
        let sent_is : sent_with before after ≡ map (device_bytes station.identity) step.sent =
        ap (drop (length before.sent)) happens.hears.behind ∙ (dropped before.sent happens.hears.frames ∙ (steps.frames ∙ frames_of_device steps.outcomes station live heard)) in
        record {
          raised = device_turn station.identity live.rest.real.modules.items live.rest.link slot subslot octets step.live.rest.link step.sent (so.raises steps.outcomes station live slot subslot octets.items) steps.sendable
              ∙ sym (ap (raised_by (Some (move.Application (local.Alarm slot subslot octets)))) sent_is);
          accepted = refl;
          kept = tt;
        }
    move_read one happens = nothing_read one refl refl refl refl

  -- ---- a run

  -- What is read of a run.
  pub record IsRunRead (first : World F) (run : List (Move × World F)) : Type 0 where
    pub raised : map raise_of (raised_over first run) ≡ raises_in (entries_of first run)
    pub accepted : taken_over High first run ≡ acceptances_in (entries_of first run)
    pub kept : AllByRecursion IsKept (taken_over High first run)

  run_read : (sound : IsSoundWhole layers) (so : DeviceSo) (hears : HearsSo) {S : ℕ} (as_flash : Flash F S) (w : World F) (raised taken : List AlarmNotification) → FollowsAt High w raised taken
      → (run : List (Move × World F)) → AreMade as_flash w run → AreSizedMoves run → AreMeant w run → IsRunRead w run
  run_read sound so hears as_flash w raised taken follows [] made sized meant = record { raised = refl; accepted = refl; kept = tt }
  run_read sound so hears as_flash w raised taken follows (one ∷ run) made sized meant =
      let here = move_read sound so hears as_flash w one.1 raised taken follows one.0 made.0 in
      let later = run_read sound so hears as_flash one.1 _ _ (one_follows High so hears as_flash w one.1 raised taken follows one.0 made.0 meant.0 sized.0) run made.1 sized.1 meant.1 in
      record {
        raised = map-append raise_of (raised_with w one.0) (raised_over one.1 run) ∙ both_lists _ _ _ _ here.raised later.raised;
        accepted = both_lists _ _ _ _ here.accepted later.accepted;
        kept = each_both IsKept (taken_with High w one.0) (taken_over High one.1 run) here.kept later.kept;
      }

  -- The frames of a run from the start are read.
  pub reads : (sound : IsSoundWhole layers) (so : DeviceSo) (hears : HearsSo) (setup : Setup) (identity : Identity) → IsSetup setup → CanMeet setup identity → {S : ℕ} (as_flash : Flash F S) (first : World F)
      → Begins setup identity first → AreSizedModules first.device.live.rest.real.modules.items → (run : List (Move × World F)) → AreMade as_flash first run
      → AreSizedMoves run → AreMeant first run → IsRunRead first run
  reads sound so hears setup identity good can as_flash first begins real run made sized meant =
      run_read sound so hears as_flash first [] [] (first_follows High so hears setup identity good can first begins real) run made sized meant

  -- ---- the law

  module _ {S : ℕ} (as_flash : Flash F S) where
    -- The moves up to an entry.
    record IsUpTo (first : World F) (front : List Entry) (entry : Entry) : Type 0 where
      run : List (Move × World F)
      made : AreMade as_flash first run
      sized : AreSizedMoves run
      same : entries_of first run ≡ front
      alarm : entry.alarm ≡ (last_world first run).controller.live.alarm

    moves_to : (first : World F) (run : List (Move × World F)) (before after : List Entry) (entry : Entry) → AreMade as_flash first run → AreSizedMoves run
        → entries_of first run ≡ before ++ entry ∷ after
        → IsUpTo first (before ++ entry ∷ []) entry
    moves_to first [] [] after entry made sized e = absurd cc
    moves_to first [] (other ∷ before) after entry made sized e = absurd cc
    moves_to first (one ∷ run) [] after entry made sized e =
        let same : entry_by first one.0 one.1 ≡ entry = cc in
        record { run = one ∷ []; made = (made.0, tt); sized = (sized.0, tt); same = ap (λ (x : Entry). x ∷ []) same; alarm = sym (ap (λ (x : Entry). x.alarm) same) }
    moves_to first (one ∷ run) (other ∷ before) after entry made sized e =
        let same : entry_by first one.0 one.1 ≡ other = cc in
        let it = moves_to one.1 run before after entry made.1 sized.1 (let f : entries_of one.1 run ≡ before ++ entry ∷ after = cc in f) in
        record { run = one ∷ it.run; made = (made.0, it.made); sized = (sized.0, it.sized); same = ap (λ (x : Entry). x ∷ entries_of one.1 it.run) same ∙ ap (λ (l : List Entry). other ∷ l) it.same; alarm = it.alarm }

    -- The same with the first entry, which belongs to no move.
    record IsAt (first : World F) (front : List Entry) (entry : Entry) : Type 0 where
      run : List (Move × World F)
      made : AreMade as_flash first run
      sized : AreSizedMoves run
      same : opening_entry first ∷ entries_of first run ≡ front
      alarm : entry.alarm ≡ (last_world first run).controller.live.alarm

    up_to : (first : World F) (run : List (Move × World F)) (before after : List Entry) (entry : Entry) → AreMade as_flash first run → AreSizedMoves run
        → opening_entry first ∷ entries_of first run ≡ before ++ entry ∷ after
        → IsAt first (before ++ entry ∷ []) entry
    up_to first run [] after entry made sized e =
        let same : opening_entry first ≡ entry = cc in
        record { run = []; made = tt; sized = tt; same = ap (λ (x : Entry). x ∷ []) same; alarm = sym (ap (λ (x : Entry). x.alarm) same) }
    up_to first run (other ∷ before) after entry made sized e =
        let same : opening_entry first ≡ other = cc in
        let it = moves_to first run before after entry made sized (let f : entries_of first run ≡ before ++ entry ∷ after = cc in f) in
        record { run = it.run; made = it.made; sized = it.sized; same = ap (λ (x : Entry). x ∷ entries_of first it.run) same ∙ ap (λ (l : List Entry). other ∷ l) it.same; alarm = it.alarm }

    pub alarms_taken : (first : World F) (run : List (Move × World F)) → AreMade as_flash first run → AreSizedMoves run
        → ((some : List (Move × World F)) → AreMade as_flash first some → AreSizedMoves some → IsRunRead first some)
        → (length (raised_over first run) ≤ 32768 → IsPrefixOf (taken_over High first run) (raised_over first run))
        → (length (raised_over first run) ≤ 32768 → length (raised_over first run) ≤ length (taken_over High first run) + 1)
        → ((some : List (Move × World F)) → AreMade as_flash first some → AreSizedMoves some → (last_world first some).controller.live.alarm ≡ last_of (taken_over High first some))
        → AreAlarmsTaken (opening_entry first ∷ entries_of first run)
    alarms_taken first run made sized read front last shows =
        let it = read run made sized in
        let entries = entries_of first run in
        let count : length (raises_in entries) ≡ length (raised_over first run) = ap length (sym it.raised) ∙ length-map (raised_over first run) raise_of in
        record {
          front = λ few.
              let p = front (subst (λ n. n ≤ 32768) count few) in (
                map raise_of p.0,
                ap (λ (l : List AlarmNotification). map raise_of l ++ map raise_of p.0) (sym it.accepted)
                    ∙ (sym (map-append raise_of (taken_over High first run) p.0) ∙ (ap (map raise_of) p.1 ∙ it.raised)),
              );
          last = λ few. omega (arith, count, last (subst (λ n. n ≤ 32768) count few), ap length it.accepted);
          shown = λ before after entry e.
              let some = up_to first run before after entry made sized e in
              let so_far = read some.run some.made some.sized in
              some.alarm ∙ (shows some.run some.made some.sized ∙ (last_same (taken_over High first some.run) so_far.kept ∙ ap (λ (l : List AlarmNotification). last_in l) (so_far.accepted ∙ ap acceptances_in some.same)));
        }

-- Before anything was learned.
pub none_taken : AreAlarmsTaken []
none_taken = record {
  front = λ few. ([], refl);
  last = λ few. omega arith;
  shown = λ before after entry e. absurd (not_none before after entry e);
}
  where
    not_none : (before after : List Entry) (entry : Entry) → [] ≡ before ++ entry ∷ after → ⊥
    not_none [] after entry e = cc
    not_none (other ∷ before) after entry e = cc
