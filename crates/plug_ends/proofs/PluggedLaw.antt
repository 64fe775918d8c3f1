-- The laws of the records of one submodule after a plug, for any run of worlds.
use Rattle.std.proofs.Common.{◌≡◌, ◌⊎◌, inl, inr, ◌≤◌, ◌+◌, ℕ, true, false, List, [], ◌∷◌, length, Option, Some, None, option_map, refl, sym, ap, subst, ◌∙◌, arith}
use Rattle.std.specs.List.{AllByRecursion}
use Rattle.flash_model.specs.declared.flash.Flash.{Ghosts as Flash}
use Rattle.pn_values.specs.declared.identity.Identity.{Identity}
use Rattle.record_blocks.specs.declared.alarm_notification.AlarmNotification.{AlarmNotification}
use Rattle.rpc_core.specs.Cache.{Kept as Answer, kept_of}
use Rattle.diagnosis.specs.declared.reports.priority.Priority.TheVariants.{Low as low_priority}
use Rattle.expected_places.specs.declared.place.Step.TheVariants.{Settled}
use Rattle.plan_places.specs.declared.place.PlaceState.TheVariants.{Ready}
use Rattle.plan_places.specs.Places.{state_at}
use Rattle.asked_records.specs.Asked.{question_in}
use Rattle.asked_records.specs.declared.question.Question.{Question}
use Rattle.relations.specs.RelationState.{RelationState}
use Rattle.device_core.specs.State.{Station}
use Rattle.controller_messages.specs.declared.plug_request.PlugRequest.{PlugRequest}
use Rattle.controller_messages.specs.declared.record_request.RecordRequest.{RecordRequest}
use Rattle.controller_messages.specs.declared.request.Request.TheVariants as asks
use Rattle.controller_messages.specs.declared.setup.Setup.{Setup}
use Rattle.controller_messages.specs.Access.{call_number}
use Rattle.controller_messages.specs.Requests.{write_count}
use Rattle.controller_messages.specs.Sent.{Requests, bytes_of}
use Rattle.controller_core.specs.stored.State.{Controlling, Live as ControllerLive}
use Rattle.network_world.specs.declared.moves.Move.{Move}
use Rattle.network_world.specs.World.{AreMade, World, is_ended, last_world}
use Rattle.end_laws.specs.turns.Alarms.{AreAllTaken, AreTakenInOrder}
use Rattle.end_laws.specs.hearing.Stations.{IsDevice, IsSetup}
use Rattle.end_laws.specs.both.Small as small
use Rattle.end_laws.specs.both.Small.{Ask}
use Rattle.end_laws.specs.device.Small.{kept_in}
use Rattle.both_ends.specs.exchange.Over.{reported_over, taken_over}
use Rattle.both_ends.specs.exchange.Sized.{AreSizedModules, NoneIsAtZero}
use Rattle.both_ends.specs.exchange.Told.{AreSizedMoves}
use Rattle.both_ends.specs.startup.request.Request.{request_for}
use Rattle.both_ends.specs.startup.Played.{AreMeant, ArePlaced, AreUnnamed, Begins, CanMeet}
use Rattle.both_ends.specs.startup.View.{rules_of}
use Rattle.both_ends.proofs.ExchangeLaw.{DeviceSo, lacks_none}
use Rattle.both_ends.proofs.ExchangeMessages.{HearsSo}
use Rattle.both_ends.proofs.StartupPlanned.{count_few}
use Rattle.plug_ends.specs.Places.{step_in, taken_at}
use Rattle.plug_ends.specs.Plugged.{AreUndisturbed, EndsWith, IsReadyAt, IsUndisturbed, records_at}
use Rattle.plug_ends.specs.Told.{LastPlug, concerns_any}
use Rattle.plug_ends.proofs.AskedLists.{last_was, plug_here}
use Rattle.plug_ends.proofs.AskedWorlds.{AskedSo, first_asked}
use Rattle.plug_ends.proofs.CallsFine.{ArePlans, first_both, plans_from}
use Rattle.plug_ends.proofs.CallsFrames.{idle_call}
use Rattle.plug_ends.proofs.CallsRuns.{kept_for}
use Rattle.plug_ends.proofs.CallsTurns.{false_true, none_some}
use Rattle.plug_ends.proofs.CallsWorlds.{opening_is, opening_said}
use Rattle.plug_ends.proofs.PluggedDevice.{PluggedSo}
use Rattle.plug_ends.proofs.PluggedRuns.{Base, run_done, run_joined}
use Rattle.plug_ends.proofs.PluggedState.{Joined, all_of}
use Rattle.plug_ends.proofs.PluggedWorlds.{next_of}
use Rattle.plug_ends.proofs.ToldRuns.{first_telling}

few_all : (count : ℕ) → count ≤ 2048 → count ≤ 32768
few_all count few = omega (arith, few)

-- ---- the start

module _ (so : PluggedSo) (slot subslot : ℕ) (setup : Setup) (identity : Identity) (good : IsSetup setup) {F : Type 0} (first : World F)
    (begins : Begins setup identity first) where
  abbrev c : Controlling
  c = first.controller

  abbrev station : Station
  station = first.device.station

  good_here : IsSetup c.setup
  good_here = subst (λ (s : Setup). IsSetup s) (sym begins.of_setup) good

  none_link : (link : RelationState) → first.device.live.rest.link ≡ Some link → ⊥
  none_link link is = none_some link (sym begins.unrelated ∙ is)

  none_plug : (request : PlugRequest) → c.live.access.plug ≡ Some request → ⊥
  none_plug request is = none_some request (sym (ap (λ (l : ControllerLive). l.access.plug) begins.made) ∙ is)

  none_waits : (request : RecordRequest) → c.live.access.waiting ≡ Some request → ⊥
  none_waits request is = none_some request (sym (ap (λ (l : ControllerLive). l.access.waiting) begins.made) ∙ is)

  none_kept : (answer : small.Kept) → kept_for c.setup first.device.live ≡ Some answer → ⊥
  none_kept answer is =
      none_some answer (sym (ap (λ (k : Option Answer). option_map kept_in k)
      (ap (λ (s : Setup). kept_of s.activity first.device.live.rest.calls) begins.of_setup ∙ begins.uncalled)) ∙ is)

  none_asked : (sequence : ℕ) → option_map (λ (q : Question). q.header.sequence) (question_in first.device.live.rest.asked) ≡ Some sequence → ⊥
  none_asked sequence is =
      none_some sequence (sym (ap (λ (q : Option Question). option_map (λ (x : Question). x.header.sequence) q) begins.unasked) ∙ is)

  going : is_ended c.live.phase ≡ false
  going = ap (λ (l : ControllerLive). is_ended l.phase) begins.made

  -- the opening frame is no call
  opening_idle : (rules_of c.setup station).to_device (bytes_of c.setup (Requests c.live.device asks.Identify)) ≡ small.Idle
  opening_idle = by_said (opening_said so.fine.calls c.setup station c.live.device good_here).1
    where
      by_said : ((rules_of c.setup station).to_device (bytes_of c.setup (Requests c.live.device asks.Identify)) ≡ small.Idle)
          ⊎ ((rules_of c.setup station).to_device (bytes_of c.setup (Requests c.live.device asks.Identify)) ≡ small.Idle)
          → (rules_of c.setup station).to_device (bytes_of c.setup (Requests c.live.device asks.Identify)) ≡ small.Idle
      by_said (inl e) = e
      by_said (inr e) = e

  sent_is : first.sent ≡ bytes_of c.setup (Requests c.live.device asks.Identify) ∷ []
  sent_is = begins.opened ∙ ap (λ (frame : List ℕ). frame ∷ []) (opening_is c)

  start_number : (calls : ℕ) → calls ≡ 0 → write_count c.setup.plan + 2 ≤ call_number c.setup.plan calls
  start_number calls none =
      let count = count_few c.setup.plan good_here.plan.few_records in
      omega (arith, none, count)

  least_first : write_count c.setup.plan + 2 ≤ next_of c
  least_first = start_number c.live.access.calls (ap (λ (l : ControllerLive). l.access.calls) begins.made)

  most_first : next_of c ≤ 4294967296
  most_first = omega arith

  pub first_joined : Joined slot subslot first.controller first.device.station first.device.live first.sent []
  first_joined = record {
    asked = λ link is. absurd (none_link link is);
    told = λ link is. absurd (none_link link is);
    ended = λ link is. absurd (none_link link is);
    settled = λ link is. absurd (none_link link is);
    late = λ over. absurd (false_true (sym going ∙ over));
    own = λ request is. absurd (none_plug request is);
    unnamed = subst (λ (s : Setup). AreUnnamed station.named s.plan.records.items) (sym begins.of_setup) begins.unnamed;
    idle = λ answer is. absurd (none_kept answer is);
    numbered = λ goes alive. record {
      bound = next_of c;
      least = least_first;
      most = most_first;
      frames = subst (λ (fs : List (List ℕ)). AllByRecursion (Rattle.plug_ends.proofs.PluggedWorlds.IsNumberedFrame (rules_of c.setup station) c (next_of c)) fs) (sym sent_is)
          ((λ sequence ask e. absurd (idle_call sequence ask (sym opening_idle ∙ e))), tt);
      kept = λ answer is. absurd (none_kept answer is);
      question = λ sequence is. absurd (none_asked sequence is);
      waiting = λ request is. absurd (none_waits request is);
      plug = λ request is. absurd (none_plug request is);
      next = inl refl;
    };
  }

  pub first_calm : IsUndisturbed slot subslot first
  first_calm = record {
    keeps = λ link is. absurd (none_link link is);
    unwritten = λ request is. absurd (none_waits request is);
    unwrapped = λ request is. absurd (none_plug request is);
  }

-- ---- the laws

module _ (so : PluggedSo) (asking : AskedSo) (device_so : DeviceSo) (hears : HearsSo) (law : AreTakenInOrder) (setup : Setup) (identity : Identity)
    (good : IsSetup setup) (real : IsDevice identity) (can : CanMeet setup identity) (placed : ArePlaced setup.plan.records.items) {F : Type 0} {S : ℕ}
    (as_flash : Flash F S) (first : World F)
    (relation : (run : List (Move × World F)) → AreMade as_flash first run → (link : RelationState)
    → (last_world first run).device.live.rest.link ≡ Some link → link.request ≡ request_for setup.plan setup.ar)
    (run : List (Move × World F)) (begins : Begins setup identity first) (made : AreMade as_flash first run) (meant : AreMeant first run)
    (modules : AreSizedModules first.device.live.rest.real.modules.items) (sized : AreSizedMoves run) (none : NoneIsAtZero first.device.live.rest.real.modules.items)
    (few : length (reported_over first run) ≤ 2048) (slot subslot : ℕ) where
  abbrev BaseAt : World F → List AlarmNotification → List AlarmNotification → Type 0
  BaseAt w raised taken = Base so asking device_so hears law setup good placed can.records as_flash slot subslot w raised taken

  first_base : BaseAt first [] []
  first_base = record {
    both = first_both so.fine setup as_flash first relation identity good real begins;
    telling = first_telling device_so hears setup identity good can first begins modules none slot subslot;
    asked = first_asked asking setup identity good real first begins;
  }

  plans : ArePlans so.fine setup first run
  plans = plans_from so.fine setup as_flash first relation [] run first refl tt made

  pub records_so : setup.plan.continue_on_refused_record ≡ false → AreUndisturbed slot subslot run → (link : RelationState)
      → (last_world first run).device.live.rest.link ≡ Some link → step_in slot subslot link ≡ Some Settled
      → concerns_any slot subslot (reported_over first run) ≡ true
      → EndsWith (taken_at slot subslot link.taken) (records_at slot subslot setup.plan.records.items)
  records_so strict calm link is step some =
      let all = run_joined so asking device_so hears law setup good placed can.records as_flash slot subslot first [] [] first_base
      (first_joined so slot subslot setup identity good first begins) strict (first_calm so slot subslot setup identity good first begins) run made meant sized plans calm few in
      subst (λ (s : Setup). EndsWith (taken_at slot subslot link.taken) (all_of slot subslot s)) of_setup (all.settled link is step some).0
    where
      of_setup : (last_world first run).controller.setup ≡ setup
      of_setup =
          (run_done so asking device_so hears law setup good placed can.records as_flash slot subslot first [] [] first_base
          (record { settled = λ l e. absurd (none_link so slot subslot setup identity good first begins l e) }) run made meant sized plans few).0.both.fine.of_setup

  pub there_so : AreAllTaken → (link : RelationState) → (last_world first run).device.live.rest.link ≡ Some link → step_in slot subslot link ≡ Some Settled
      → concerns_any slot subslot (reported_over first run) ≡ true → link.flow.low.alarms.sender.standing ≡ None
      → (last_world first run).controller.live.stands ≡ true → IsReadyAt slot subslot (last_world first run).controller.live.places
  there_so all_law link is step some unsent up =
      let all = run_done so asking device_so hears law setup good placed can.records as_flash slot subslot first [] [] first_base
      (record { settled = λ l e. absurd (none_link so slot subslot setup identity good first begins l e) }) run made meant sized plans few in
      let it = all.1.settled link is step some in
      let same = lacks_none low_priority (last_world first run) (reported_over first run) (taken_over low_priority first run) all.0.telling.follows all_law
      (few_all (length (reported_over first run)) few) link is unsent in
      let done = all.0.asked.dones it.2.0 it.0 (record { number = it.2.1.0; is = it.2.1.1 }) it.2.2 in
      let last : LastPlug slot subslot it.0 (taken_over low_priority first run) =
      subst (λ (xs : List AlarmNotification). LastPlug slot subslot it.0 xs) (sym same) it.1 in
      let place = plug_here done.0 done.1 slot subslot it.0 (taken_over low_priority first run) done.2.plug
      (last_was slot subslot it.0 (taken_over low_priority first run) last) in (
        it.0,
        subst (λ (s : ℕ). state_at s subslot (last_world first run).controller.live.places ≡ Some (Ready it.0)) place.0
            (subst (λ (s : ℕ). state_at done.0 s (last_world first run).controller.live.places ≡ Some (Ready it.0)) place.1
            (done.2.now up (subst (λ (s : ℕ). LastPlug s done.1 it.0 (taken_over low_priority first run)) (sym place.0)
            (subst (λ (s : ℕ). LastPlug slot s it.0 (taken_over low_priority first run)) (sym place.1) last)))),
      )
