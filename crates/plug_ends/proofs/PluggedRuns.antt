-- The records of one submodule after a plug, over any run of worlds.
use Rattle.std.proofs.Common.{◌≡◌, ◌⊎◌, inl, inr, ◌≤◌, ◌<◌, ◌+◌, ◌++◌, ℕ, Bool, true, false, List, [], ◌∷◌, length, map, Option, Some, None, refl, sym, ap, subst, ◌∙◌, append-nil, append_assoc, arith}
use Rattle.std.specs.Prelude.{if◌then◌else◌}
use Rattle.std.specs.List.{AllByRecursion}
use Rattle.std.proofs.lemmas.Bool.{and_parts, eq-eqb}
use Rattle.std.proofs.lemmas.List.{length-append}
use Rattle.flash_model.specs.declared.flash.Flash.{Ghosts as Flash}
use Rattle.frame_codec.specs.declared.udp.Caller.{Caller}
use Rattle.record_blocks.specs.declared.alarm_notification.AlarmNotification.{AlarmNotification}
use Rattle.diagnosis.specs.World.{IsPrefixOf}
use Rattle.diagnosis.specs.declared.reports.priority.Priority.TheVariants.{Low as low_priority}
use Rattle.expected_places.specs.declared.place.Step.TheVariants.{Told}
use Rattle.device_frames.specs.declared.event.Event.TheVariants.{Frame}
use Rattle.device_frames.specs.Heard.{Heard, Reported, Said, heard_of}
use Rattle.device_core.specs.State.{Live, Station}
use Rattle.device_core.specs.Machine.{heard_step}
use Rattle.plans.specs.declared.parts.Parts.{Parts}
use Rattle.controller_messages.specs.declared.request.Request.{Request as Asking}
use Rattle.controller_messages.specs.declared.plug_request.PlugRequest.{PlugRequest}
use Rattle.controller_messages.specs.declared.plug_request.PlugStep.TheVariants.{PrmEnd}
use Rattle.controller_messages.specs.declared.setup.Setup.{Setup}
use Rattle.controller_messages.specs.Sent.{Sent, Requests, Accesses, Parametrizes, Agrees, Cycles, Confirms, Replies, Ends, bytes_of}
use Rattle.controller_messages.specs.Heard.{heard_of as heard_by}
use Rattle.controller_messages.specs.Requests.{sequence_of, write_count}
use Rattle.controller_core.specs.stored.State.{Controlling, Live as ControllerLive, with_live}
use Rattle.controller_core.specs.Machine.{step_from, step_of, turn_of}
use Rattle.network_world.specs.declared.moves.Move.{Move}
use Rattle.network_world.specs.World.{AreMade, Happens, World, at_controller, is_ended, last_world}
use Rattle.end_laws.specs.turns.Alarms.{AreTakenInOrder}
use Rattle.end_laws.specs.sending.Addressed.{IsAimedAt}
use Rattle.end_laws.specs.hearing.Stations.{IsSetup}
use Rattle.end_laws.specs.both.Small as small
use Rattle.end_laws.specs.both.Small.{Ask, ToController}
use Rattle.end_laws.specs.both.Steps.{SaysToDevice}
use Rattle.end_laws.specs.controller.Small.{said_by, said_in, small_of}
use Rattle.both_ends.specs.exchange.Over.{is_same_number, number_in, reported_over, reported_with, taken_over, taken_with}
use Rattle.both_ends.specs.exchange.Told.{AreSizedMoves, IsSizedMove}
use Rattle.both_ends.specs.startup.Played.{AreMeant, ArePlaced, IsParameter}
use Rattle.both_ends.specs.startup.View.{IsMeant, IsSaidAs, rules_of, says_to_device}
use Rattle.both_ends.proofs.ExchangeLaw.{DeviceSo, in_order}
use Rattle.both_ends.proofs.ExchangeMessages.{HearsSo}
use Rattle.both_ends.proofs.StartupPlanned.{count_few}
use Rattle.plug_ends.specs.Calls.{WasSent}
use Rattle.plug_ends.specs.Plugged.{AreUndisturbed, IsUndisturbed}
use Rattle.plug_ends.specs.Told.{AreNumberedFrom}
use Rattle.plug_ends.proofs.AskedLists.{numbered_front}
use Rattle.plug_ends.proofs.AskedWords.{WasPlug}
use Rattle.plug_ends.proofs.AskedWorlds.{AskedAt, AskedGoes, AskedSo, one_asked}
use Rattle.plug_ends.proofs.CallsFine.{ArePlans, Both, one_both}
use Rattle.plug_ends.proofs.CallsFrames.{Covers}
use Rattle.plug_ends.proofs.CallsHeard.{IsPlans}
use Rattle.plug_ends.proofs.CallsRuns.{Held, all_both, all_map, ended_on, ended_said, heard_said, kept_for, number_said, plain_said, small_ended}
use Rattle.plug_ends.proofs.CallsTurns.{Goes, IsAnswered, IsAsked, IsOver, IsUncounted, event_turns, none_some, present_of, some_same}
use Rattle.plug_ends.proofs.CallsWorlds.{HeldAt}
use Rattle.plug_ends.proofs.PluggedDevice.{PluggedSo}
use Rattle.plug_ends.proofs.PluggedDone.{IsDone, device_done, done_more}
use Rattle.plug_ends.proofs.PluggedNumbers.{event_numbers}
use Rattle.plug_ends.proofs.PluggedState.{IsDead, Joined, PlugTurns, WasIn}
use Rattle.plug_ends.proofs.PluggedTurns.{controller_joined, device_joined}
use Rattle.plug_ends.proofs.PluggedWorlds.{ControllerMoved, DeviceMoved, IsPresentAs, Moved, Numbered, controller_numbered, moved, present_as, step_number}
use Rattle.plug_ends.proofs.PluggedWritten.{Known}
use Rattle.plug_ends.proofs.ToldRuns.{Telling, device_goes, first_few, one_telling}

few_front : {A : Type 0} (xs ys all : List A) → xs ++ ys ≡ all → length all ≤ 2048 → length xs ≤ 2048
few_front xs ys all e few =
    let long = length-append xs ys in
    let same = ap (λ (zs : List _). length zs) e in
    omega (arith, long, same, few)

-- ---- nothing is reported while the device rests

same_number : (number : Option ℕ) → is_same_number number number ≡ true
same_number None = refl
same_number (Some number) = eq-eqb number number refl

rest_none : {F : Type 0} (before after : World F) → after.device ≡ before.device → reported_with before after ≡ []
rest_none before after same =
    ap (λ (b : Bool). if b then [] else Rattle.both_ends.specs.exchange.Over.active_in after.device.live.rest.link)
    (ap (λ (d : _). is_same_number (number_in d.live.rest.link) (number_in before.device.live.rest.link)) same
    ∙ same_number (number_in before.device.live.rest.link))

rest_raised : {F : Type 0} (before after : World F) (raised : List AlarmNotification) → after.device ≡ before.device → raised ++ reported_with before after ≡ raised
rest_raised before after raised same = ap (λ (xs : List AlarmNotification). raised ++ xs) (rest_none before after same) ∙ append-nil raised

true_false : true ≡ false → ⊥
true_false e = absurd cc

few_all : (count : ℕ) → count ≤ 2048 → count ≤ 32768
few_all count few = omega (arith, few)

module _ (so : PluggedSo) (asking : AskedSo) (device_so : DeviceSo) (hears : HearsSo) (law : AreTakenInOrder) (setup : Setup) (good : IsSetup setup)
    (placed : ArePlaced setup.plan.records.items)
    (parameters : AllByRecursion IsParameter setup.plan.records.items) {F : Type 0} {S : ℕ} (as_flash : Flash F S) (slot subslot : ℕ) where
  -- what both ends make of it, for any submodule
  pub record Base (w : World F) (raised taken : List AlarmNotification) : Type 0 where
    pub both : Both so.fine setup w
    pub telling : Telling slot subslot w raised taken
    pub asked : AskedAt taken w

  -- and of its records
  abbrev JoinedAt : World F → List AlarmNotification → Type 0
  JoinedAt w raised = Joined slot subslot w.controller w.device.station w.device.live w.sent raised

  abbrev DoneAt : World F → List AlarmNotification → Type 0
  DoneAt w raised = IsDone slot subslot w.device.station w.device.live w.sent raised

  -- ---- one move

  module _ (before after : World F) (raised taken : List AlarmNotification) (base : Base before raised taken) (one : Move)
      (happens : Happens as_flash before one after) (meant : IsMeant before one) (sized : IsSizedMove one) (plans : IsPlans setup before.device.live.rest.link)
      (few : length (raised ++ reported_with before after) ≤ 2048) where
    abbrev raised_now : List AlarmNotification
    raised_now = raised ++ reported_with before after

    abbrev taken_now : List AlarmNotification
    taken_now = taken ++ taken_with low_priority before one

    abbrev c : Controlling
    c = before.controller

    few_before : length raised ≤ 2048
    few_before =
        first_few [] raised (reported_with before after) few

    telling_now : Telling slot subslot after raised_now taken_now
    telling_now = (one_telling device_so hears as_flash before after raised taken slot subslot base.telling few one happens meant sized).0

    both_now : Both so.fine setup after
    both_now = one_both so.fine setup as_flash before after base.both plans one meant happens

    prefix_before : IsPrefixOf taken raised
    prefix_before = in_order low_priority before raised taken base.telling.follows law (few_all (length raised) few_before)

    prefix_now : IsPrefixOf taken_now raised_now
    prefix_now = in_order low_priority after raised_now taken_now telling_now.follows law (few_all (length raised_now) few)

    numbers_now : AreNumberedFrom 0 taken_now
    numbers_now =
        numbered_front 0 taken_now prefix_now.0
        (subst (λ (xs : List AlarmNotification). AreNumberedFrom 0 xs) (sym prefix_now.1) telling_now.told.numbers)

    asked_all : AskedAt taken_now after × AskedGoes before after
    asked_all = one_asked asking as_flash before after raised taken base.telling.follows base.asked one happens meant numbers_now
        (few_front taken_now prefix_now.0 raised_now prefix_now.1 few)

    pub base_now : Base after raised_now taken_now
    base_now = record { both = both_now; telling = telling_now; asked = asked_all.0 }

    abbrev FromIn : Heard → Type 0
    FromIn heard = ((frame : List ℕ) × WasIn before.sent frame × (heard ≡ heard_of before.device.station.identity (Frame (record { items = frame }))))
        ⊎ ((caller : Caller) (address : List ℕ) (said : Said) → heard ≡ Reported caller address said → ⊥)

    from_in : (heard : Heard) → Rattle.plug_ends.proofs.PluggedWorlds.IsFrom before heard → FromIn heard
    from_in heard (inl it) = inl (it.0, (it.1.number, it.1.is), it.2)
    from_in heard (inr un) = inr un

    -- ---- it is done

    device_done_now : DeviceMoved as_flash before one after → DoneAt before raised → DoneAt after raised_now
    device_done_now it was =
        let hears_it = it.made.hears in
        let goes = device_goes device_so hears as_flash before after raised taken slot subslot base.telling few one it.heard it.by it.made it.meant in
        let now : IsDone slot subslot before.device.station after.device.live (before.sent ++ hears_it.frames) raised_now =
        device_done slot subslot before.device.station before.device.live after.device.live before.sent hears_it.frames it.heard raised (reported_with before after)
        (from_in it.heard it.from) was goes (λ link is step there. (base.telling.told.told link is).told step there) in
        subst (λ (s : Station). IsDone slot subslot s after.device.live after.sent raised_now) (sym hears_it.steps.same)
        (subst (λ (fs : List (List ℕ)). IsDone slot subslot before.device.station after.device.live fs raised_now) (sym hears_it.behind) now)

    controller_done_now : (it : ControllerMoved before after) → DoneAt before raised → DoneAt after raised_now
    unfolding step_of
    controller_done_now it was =
        let same = ap (λ (w : World F). w.device) it.happens in
        subst (λ (xs : List AlarmNotification). DoneAt after xs) (sym (rest_raised before after raised same))
        (subst (λ (w : World F). DoneAt w raised) (sym it.happens)
        (done_more slot subslot before.device.station before.device.live before.sent (step_of c it.event).frames raised was))

    same_done_now : after ≡ before → DoneAt before raised → DoneAt after raised_now
    same_done_now same was =
        subst (λ (xs : List AlarmNotification). DoneAt after xs) (sym (rest_raised before after raised (ap (λ (w : World F). w.device) same)))
        (subst (λ (w : World F). DoneAt w raised) (sym same) was)

    pub done_now : DoneAt before raised → DoneAt after raised_now
    done_now was = by_moved (moved so.fine setup as_flash before after base.both one meant happens)
      where
        by_moved : Moved as_flash before one after → DoneAt after raised_now
        by_moved (inl same) = same_done_now same was
        by_moved (inr (inl it)) = device_done_now it was
        by_moved (inr (inr it)) = controller_done_now it was

    -- ---- its records

    module _ (was : JoinedAt before raised) (strict : setup.plan.continue_on_refused_record ≡ false) (calm : IsUndisturbed slot subslot before)
        (calm_now : IsUndisturbed slot subslot after) where
      known : Known before.controller before.device.station before.sent taken slot subslot
      known = record {
        request = base.asked.request;
        ends = λ frame number there hears_end. base.asked.ends frame number (record { number = there.0; is = there.1 }) hears_end;
        starts = λ begins frame number there hears_end. base.asked.starts begins frame number (record { number = there.0; is = there.1 }) hears_end;
        unwritten = calm.unwritten;
        aimed = base.both.fine.aimed;
      }

      placed_here : ArePlaced before.controller.setup.plan.records.items
      placed_here = subst (λ (s : Setup). ArePlaced s.plan.records.items) (sym base.both.fine.of_setup) placed

      parameters_here : AllByRecursion IsParameter before.controller.setup.plan.records.items
      parameters_here = subst (λ (s : Setup). AllByRecursion IsParameter s.plan.records.items) (sym base.both.fine.of_setup) parameters

      same_joined_now : after ≡ before → JoinedAt after raised_now
      same_joined_now same =
          subst (λ (xs : List AlarmNotification). JoinedAt after xs) (sym (rest_raised before after raised (ap (λ (w : World F). w.device) same)))
          (subst (λ (w : World F). JoinedAt w raised) (sym same) was)

      device_joined_now : DeviceMoved as_flash before one after → JoinedAt after raised_now
      device_joined_now it =
          let hears_it = it.made.hears in
          let outcomes = hears_it.steps.outcomes in
          let station = before.device.station in
          let live = before.device.live in
          let rules = rules_of before.controller.setup station in
          let step = heard_step outcomes station live it.heard in
          let sends = it.meant.sent outcomes hears_it.steps.sendable in
          let steps = so.fine.calls.device_on rules before.controller.setup.activity outcomes station live it.heard base.both.held.orderly base.both.held.own
          it.meant.planned sends in
          let goes = subst (λ (l : Live). Rattle.plug_ends.proofs.ToldGoes.Goes slot subslot live it.heard live.rest.link l.rest.link raised (reported_with before after))
          hears_it.steps.live (device_goes device_so hears as_flash before after raised taken slot subslot base.telling few one it.heard it.by it.made it.meant) in
          let now : Joined slot subslot before.controller station step.live (before.sent ++ step.frames) raised_now =
          device_joined so slot subslot before.controller station live before.sent outcomes it.heard base.both.fine.good base.both.fine.real it.meant.planned sends
          hears_it.steps.sendable steps (from_in it.heard it.from) calm.keeps placed_here parameters_here taken raised (reported_with before after) was base.both.held known
          prefix_before goes (λ link is s there. (base.telling.told.told link is).told s there) in
          subst (λ (k : Controlling). Joined slot subslot k after.device.station after.device.live after.sent raised_now) (sym it.made.controller)
          (subst (λ (s : Station). Joined slot subslot before.controller s after.device.live after.sent raised_now) (sym hears_it.steps.same)
          (subst (λ (l : Live). Joined slot subslot before.controller station l after.sent raised_now) (sym hears_it.steps.live)
          (subst (λ (fs : List (List ℕ)). Joined slot subslot before.controller station step.live fs raised_now)
          (sym (hears_it.behind ∙ ap (λ (fs : List (List ℕ)). before.sent ++ fs) hears_it.steps.frames)) now)))

      module _ (it : ControllerMoved before after) where
        abbrev next : ControllerLive
        next = (turn_of before.controller.setup before.controller.live it.event).live

        abbrev messages : List Sent
        messages = (turn_of before.controller.setup before.controller.live it.event).sent

        abbrev more : List (List ℕ)
        more = map (bytes_of before.controller.setup) messages

        abbrev here : World F
        here = at_controller before it.event

        -- the world after it
        held_now : Held (with_live before.controller next) before.device.station before.device.live (before.sent ++ more)
        unfolding step_of
        held_now = subst (λ (w : World F). HeldAt so.fine.calls w) it.happens both_now.held

        asked_here : AskedAt taken_now here
        asked_here = subst (λ (w : World F). AskedAt taken_now w) it.happens asked_all.0

        known_now : (request : PlugRequest) → next.access.plug ≡ Some request → WasPlug request.slot request.subslot request.number taken_now
        unfolding step_of
        known_now = asked_here.request

        goes_here : AskedGoes before here
        goes_here = subst (λ (w : World F). AskedGoes before w) it.happens asked_all.1

        sent_in : (frame : List ℕ) → WasSent before frame → WasIn before.sent frame
        sent_in frame there = (there.number, there.is)

        goes_now : PlugTurns before.controller next before.device.station before.sent (before.sent ++ more)
        unfolding step_of
        goes_now = by_goes goes_here
          where
            now_sent : (frame : List ℕ) → WasIn (before.sent ++ more) frame → WasSent here frame
            now_sent frame there = record { number = there.0; is = there.1 }

            by_goes : AskedGoes before here → PlugTurns before.controller next before.device.station before.sent (before.sent ++ more)
            by_goes (inl same) = inl (
              same.same,
              λ frame number there hears_end. inl (sent_in frame (same.ended frame number (now_sent frame there) hears_end)),
            )
            by_goes (inr (inl none)) = inr (inl (
              none.none,
              λ frame number there hears_end. inl (sent_in frame (none.ended frame number (now_sent frame there) hears_end)),
            ))
            by_goes (inr (inr (inl begun))) = inr (inr (inl (record {
              request = begun.request;
              is = begun.is;
              step = begun.step;
              sequence = begun.sequence;
              ended = λ frame number there hears_end. by_end (begun.ended frame number (now_sent frame there) hears_end);
            })))
              where
                by_end : {frame : List ℕ} {number : ℕ} → WasSent before frame ⊎ ((begun.request.step ≡ PrmEnd) × (begun.request.number ≡ number))
                    → WasIn before.sent frame ⊎ ((begun.request.step ≡ PrmEnd) × (begun.request.number ≡ number))
                by_end {frame} (inl sent) = inl (sent_in frame sent)
                by_end (inr own) = inr own
            by_goes (inr (inr (inr it_next))) = inr (inr (inr (record {
              last = it_next.request;
              was = it_next.was;
              number = it_next.number;
              record_is = it_next.step;
              frame = it_next.frame;
              there = sent_in it_next.frame it_next.sent;
              grants = record {
                response = it_next.response;
                hears = it_next.hears;
                own = (and_parts _ _ it_next.answers).0;
                number = Rattle.std.proofs.lemmas.Bool.eqb-true it_next.response.header.sequence it_next.request.sequence (and_parts _ _ it_next.answers).1;
                done = by_positive it_next.positive;
              };
              request = it_next.next;
              is = it_next.is;
              slot_is = it_next.slot;
              subslot_is = it_next.subslot;
              number_is = it_next.same;
              step = it_next.from
                  ∙ (ap (λ (s : ℕ). step_from before.controller.setup.plan s it_next.request.subslot (it_next.number + 1)) (sym it_next.slot)
                  ∙ ap (λ (s : ℕ). step_from before.controller.setup.plan it_next.next.slot s (it_next.number + 1)) (sym it_next.subslot));
              sequence = it_next.sequence;
              ended = λ frame number there hears_end. by_end (it_next.ended frame number (now_sent frame there) hears_end);
            })))
              where
                by_positive : (Rattle.rpc_core.specs.Response.is_done it_next.response.status ≡ true) ⊎ (before.controller.setup.plan.continue_on_refused_record ≡ true)
                    → Rattle.rpc_core.specs.Response.is_done it_next.response.status ≡ true
                by_positive (inl done) = done
                by_positive (inr goes_on) =
                    absurd (true_false (sym goes_on ∙ (ap (λ (s : Setup). s.plan.continue_on_refused_record) base.both.fine.of_setup ∙ strict)))

                by_end : {frame : List ℕ} {number : ℕ} → WasSent before frame ⊎ ((it_next.next.step ≡ PrmEnd) × (it_next.next.number ≡ number))
                    → WasIn before.sent frame ⊎ ((it_next.next.step ≡ PrmEnd) × (it_next.next.number ≡ number))
                by_end {frame} (inl sent) = inl (sent_in frame sent)
                by_end (inr own) = inr own

        on : Rattle.end_laws.specs.controller.Small.GoesOn before.controller.setup.plan
            (said_in before.controller.setup (heard_by before.controller.setup.plan.controller) it.event) before.controller.live
            (turn_of before.controller.setup before.controller.live it.event)
        on = so.fine.calls.goes_on before.controller.setup before.controller.live it.event base.both.held.steady

        abbrev Said_as : Sent → Type 0
        Said_as m = IsSaidAs before.controller.setup before.device.station m

        silent : AllByRecursion (λ frame. (rules_of before.controller.setup before.device.station).to_controller frame ≡ small.Nothing) more
        silent =
            all_map Said_as (λ frame. (rules_of before.controller.setup before.device.station).to_controller frame ≡ small.Nothing)
            (bytes_of before.controller.setup) (λ m said. said.0) messages it.meant

        stays_ended : is_ended before.controller.live.phase ≡ true → is_ended next.phase ≡ true
        stays_ended e = ended_on so.fine.calls before.controller it.event base.both.held.reached e

        going_before : is_ended next.phase ≡ false → is_ended before.controller.live.phase ≡ false
        going_before e = by_ended (is_ended before.controller.live.phase) refl
          where
            by_ended : (b : Bool) → is_ended before.controller.live.phase ≡ b → is_ended before.controller.live.phase ≡ false
            by_ended true f = absurd (true_false (sym (stays_ended f) ∙ e))
            by_ended false f = f

        good_here : IsSetup before.controller.setup
        good_here = base.both.fine.good

        abbrev Spoken : ToController
        Spoken = said_in before.controller.setup (heard_by before.controller.setup.plan.controller) it.event

        goes_so : is_ended next.phase ≡ false
            → Goes before.controller.setup.plan Spoken before.controller.live (turn_of before.controller.setup before.controller.live it.event)
        goes_so going =
            by_so (event_turns before.controller.setup Spoken before.controller.live base.both.held.steady base.both.held.alone
            (so.fine.calls.follows before.controller.setup) (so.fine.calls.due_so before.controller.setup) it.event refl it.unrefused on.in_step).so
          where
            by_so : (is_ended next.phase ≡ true)
                ⊎ Goes before.controller.setup.plan Spoken before.controller.live (turn_of before.controller.setup before.controller.live it.event)
                → Goes before.controller.setup.plan Spoken before.controller.live (turn_of before.controller.setup before.controller.live it.event)
            by_so (inl over) = absurd (true_false (sym over ∙ going))
            by_so (inr goes) = goes

        aimed_so : AllByRecursion (IsAimedAt before.device.station.identity.mac) messages
        aimed_so =
            (so.fine.aimed before.device.station.identity.mac before.controller.setup before.controller.live it.event good_here base.both.fine.aimed it.from).1

        abbrev plan : Parts
        plan = before.controller.setup.plan

        few_steps : write_count plan + 65538 < 4294967295
        few_steps =
            let count = count_few plan good_here.plan.few_records in
            omega (arith, count)

        -- the call with the last number stays till it is answered
        last_stays : is_ended next.phase ≡ false → (IsDead (kept_for before.controller.setup before.device.live) → ⊥) → (message : Sent)
            → present_of before.controller.live ≡ Some message → Rattle.plug_ends.proofs.CallsTurns.number_in plan message ≡ 4294967295 → present_of next ≡ Some message
        last_stays going alive message present last = by_goes (goes_so going).0
          where
            not_last : (number : ℕ) → number < 4294967295 → number ≡ 4294967295 → ⊥
            not_last number less same = omega (arith, less, same)

            -- a call of the start-up has a smaller number
            started : (request : Asking) → before.controller.live.asked ≡ Some request → sequence_of plan request ≡ 4294967295 → ⊥
            started request is same =
                let less = step_number plan before.controller.live.phase before.controller.live.access.calls before.controller.live.asked request
                base.both.held.steady.asked base.both.held.steady.calls is (going_before going) in
                not_last (sequence_of plan request) (lower (sequence_of plan request) before.controller.live.access.calls less.0 less.1 few_steps) same
              where
                lower : (number calls : ℕ) → number < write_count plan + 2 + calls → calls < 65536 → write_count plan + 65538 < 4294967295
                    → number < 4294967295
                lower number calls below few most = omega (arith, below, few, most)

            by_uncounted : (m : Sent) → IsPresentAs before.controller.live m → IsUncounted m → Rattle.plug_ends.proofs.CallsTurns.number_in plan m ≡ 4294967295 → ⊥
            by_uncounted (Requests to request) is un same = started request is same
            by_uncounted (Accesses to request octets) is un same = un
            by_uncounted (Parametrizes to request) is un same = not_last request.sequence (calm.unwrapped request is.1 un) same
            by_uncounted (Agrees caller answer) is un same = un
            by_uncounted (Cycles route shown counter) is un same = un
            by_uncounted (Confirms route priority header ack) is un same = un
            by_uncounted (Replies route priority header) is un same = un
            by_uncounted (Ends route header reason) is un same = un

            dead : (answer : Option small.Kept) → Covers 4294967295 answer → IsDead answer
            dead None covers sequence few_numbers is_new = absurd covers
            dead (Some answer) covers sequence few_numbers is_new = omega (arith, covers, few_numbers, is_new)

            by_over : IsUncounted message ⊎ IsAnswered plan Spoken message → ⊥
            by_over (inl un) = by_uncounted message (present_as before.controller.live message present) un last
            by_over (inr answered) =
                alive (dead (kept_for before.controller.setup before.device.live)
                (subst (λ (n : ℕ). Covers n (kept_for before.controller.setup before.device.live)) last
                (it.covers (Rattle.plug_ends.proofs.CallsTurns.number_in plan message) answered.reply answered.is)))

            by_goes : (present_of next ≡ present_of before.controller.live) ⊎ IsOver plan Spoken (present_of before.controller.live) → present_of next ≡ Some message
            by_goes (inl same) = same ∙ present
            by_goes (inr over) = absurd (by_over (subst (λ (m : Option Sent). IsOver plan Spoken m) present over))

        -- the calls that are sent have numbers of four octets
        sizes : is_ended next.phase ≡ false → AllByRecursion (λ frame. (sequence : ℕ) (ask : Ask)
            → (rules_of before.controller.setup before.device.station).to_device frame ≡ small.Call sequence ask → sequence < 4294967296) more
        sizes going =
            all_map (λ m. Said_as m × (IsAsked next m × IsAimedAt before.device.station.identity.mac m))
            (λ frame. (sequence : ℕ) (ask : Ask)
            → (rules_of before.controller.setup before.device.station).to_device frame ≡ small.Call sequence ask → sequence < 4294967296)
            (bytes_of before.controller.setup)
            (λ m all sequence ask e. said_size m all sequence ask (heard_said before.controller.setup before.device.station m all.0 sequence ask e)) messages
            (all_both Said_as (λ m. IsAsked next m × IsAimedAt before.device.station.identity.mac m) messages it.meant
            (all_both (IsAsked next) (IsAimedAt before.device.station.identity.mac) messages (goes_so going).1 aimed_so))
          where
            same_size : (one number : ℕ) → one ≡ number → number < 4294967296 → one < 4294967296
            same_size one number same less = omega (arith, same, less)

            step_size : (number calls : ℕ) → number < write_count plan + 2 + calls → calls < 65536 → write_count plan + 65538 < 4294967295
                → number < 4294967296
            step_size number calls below few most = omega (arith, below, few, most)

            by_message : (m : Sent) → IsPresentAs next m → IsAimedAt before.device.station.identity.mac m
                → Rattle.plug_ends.proofs.CallsTurns.number_in plan m < 4294967296
            by_message (Requests to request) is aims =
                let less = step_number plan next.phase next.access.calls next.asked request on.in_step.asked on.in_step.calls is going in
                step_size (sequence_of plan request) next.access.calls less.0 less.1 few_steps
            by_message (Accesses to request octets) is aims = aims.1.0
            by_message (Parametrizes to request) is aims = aims.1
            by_message (Agrees caller answer) is aims = absurd is
            by_message (Cycles route shown counter) is aims = absurd is
            by_message (Confirms route priority header ack) is aims = absurd is
            by_message (Replies route priority header) is aims = absurd is
            by_message (Ends route header reason) is aims = absurd is

            said_size : (m : Sent) → Said_as m × (IsAsked next m × IsAimedAt before.device.station.identity.mac m) → (sequence : ℕ) (ask : Ask)
                → says_to_device before.controller.setup m ≡ small.Call sequence ask → sequence < 4294967296
            said_size m all sequence ask says = by_asked all.1.0
              where
                by_asked : IsAsked next m → sequence < 4294967296
                by_asked (inl present) =
                    same_size sequence (Rattle.plug_ends.proofs.CallsTurns.number_in plan m) (number_said before.controller.setup m sequence ask says)
                    (by_message m (present_as next m present) all.1.1)
                by_asked (inr plain) = absurd (plain_said before.controller.setup m plain sequence ask says)

        numbered_now : is_ended next.phase ≡ false → (IsDead (kept_for before.controller.setup before.device.live) → ⊥)
            → Numbered (with_live before.controller next) before.device.station before.device.live (before.sent ++ more)
        numbered_now going alive =
            controller_numbered before.controller.setup before.device.station before.device.station.identity.mac before.controller
            (with_live before.controller next) before.device.live before.sent messages refl refl (was.numbered (going_before going) alive)
            on.in_step going
            (event_numbers before.controller.setup (so.fine.calls.follows before.controller.setup) (so.fine.calls.flows before.controller.setup)
            before.controller.live it.event (so.fine.calls.kinds before.controller.setup before.controller.live it.event) going)
            few_steps it.meant (goes_so going).1 aimed_so (last_stays going alive)

        ending : is_ended next.phase ≡ true → AllByRecursion (λ frame. (sequence : ℕ) (ask : Ask)
            → (rules_of before.controller.setup before.device.station).to_device frame ≡ small.Call sequence ask → ask ≡ small.Releases) more
        ending over =
            all_map (λ m. Said_as m × SaysToDevice (write_count before.controller.setup.plan) small.Ended (said_by before.controller.setup.plan m))
            (λ frame. (sequence : ℕ) (ask : Ask) → (rules_of before.controller.setup before.device.station).to_device frame ≡ small.Call sequence ask → ask ≡ small.Releases)
            (bytes_of before.controller.setup)
            (λ m both_of sequence ask e. ended_said before.controller.setup m both_of.1 sequence ask
            (heard_said before.controller.setup before.device.station m both_of.0 sequence ask e)) messages
            (all_both Said_as (λ m. SaysToDevice (write_count before.controller.setup.plan) small.Ended (said_by before.controller.setup.plan m)) messages it.meant
            (subst (λ (now : small.Controller). AllByRecursion (λ m. SaysToDevice (write_count before.controller.setup.plan) now (said_by before.controller.setup.plan m)) messages)
            (small_ended so.fine.calls before.controller.setup.plan next over) on.says))

        rest_now : raised_now ≡ raised
        rest_now = rest_raised before after raised (ap (λ (w : World F). w.device) it.happens)

        joined_here : JoinedAt here raised
        unfolding step_of
        joined_here =
            controller_joined slot subslot before.controller next before.device.station before.device.live before.sent more taken (taken_with low_priority before one) raised
            was known base.both.held held_now goes_now silent known_now prefix_before
            (subst (λ (xs : List AlarmNotification). IsPrefixOf taken_now xs) rest_now prefix_now)
            (λ link is number there. (base.telling.told.told link is).told (Told number) there) stays_ended numbered_now last_stays sizes ending

        controller_joined_now : JoinedAt after raised_now
        controller_joined_now =
            subst (λ (xs : List AlarmNotification). JoinedAt after xs) (sym rest_now) (subst (λ (w : World F). JoinedAt w raised) (sym it.happens) joined_here)

      pub joined_now : JoinedAt after raised_now
      joined_now = by_moved (moved so.fine setup as_flash before after base.both one meant happens)
        where
          by_moved : Moved as_flash before one after → JoinedAt after raised_now
          by_moved (inl same) = same_joined_now same
          by_moved (inr (inl it)) = device_joined_now it
          by_moved (inr (inr it)) = controller_joined_now it

  -- ---- any run

  few_here : (raised now later : List AlarmNotification) → length (raised ++ (now ++ later)) ≤ 2048 → length (raised ++ now) ≤ 2048
  few_here raised now later few = first_few raised now later few

  pub run_done : (w : World F) (raised taken : List AlarmNotification) → Base w raised taken → DoneAt w raised → (run : List (Move × World F))
      → AreMade as_flash w run → AreMeant w run → AreSizedMoves run → ArePlans so.fine setup w run → length (raised ++ reported_over w run) ≤ 2048
      → Base (last_world w run) (raised ++ reported_over w run) (taken ++ taken_over low_priority w run) × DoneAt (last_world w run) (raised ++ reported_over w run)
  run_done w raised taken base was [] made meant sized plans few =
      subst (λ (xs : List AlarmNotification). Base w xs (taken ++ []) × DoneAt w xs) (sym (append-nil raised))
      (subst (λ (xs : List AlarmNotification). Base w raised xs × DoneAt w raised) (sym (append-nil taken)) (base, was))
  run_done w raised taken base was (one ∷ run) made meant sized plans few =
      let now = reported_with w one.1 in
      let more = taken_with low_priority w one.0 in
      let few_one = few_here raised now (reported_over one.1 run) few in
      let few_all_runs : length ((raised ++ now) ++ reported_over one.1 run) ≤ 2048 =
      subst (λ (xs : List AlarmNotification). length xs ≤ 2048) (sym (append_assoc raised now (reported_over one.1 run))) few in
      let all = run_done one.1 (raised ++ now) (taken ++ more) (base_now w one.1 raised taken base one.0 made.0 meant.0 sized.0 plans.0 few_one)
      (done_now w one.1 raised taken base one.0 made.0 meant.0 sized.0 plans.0 few_one was) run made.1 meant.1 sized.1 plans.1 few_all_runs in
      subst (λ (xs : List AlarmNotification). Base (last_world one.1 run) xs (taken ++ (more ++ taken_over low_priority one.1 run)) × DoneAt (last_world one.1 run) xs)
      (append_assoc raised now (reported_over one.1 run))
      (subst (λ (xs : List AlarmNotification). Base (last_world one.1 run) ((raised ++ now) ++ reported_over one.1 run) xs
      × DoneAt (last_world one.1 run) ((raised ++ now) ++ reported_over one.1 run))
      (append_assoc taken more (taken_over low_priority one.1 run)) all)

  pub run_joined : (w : World F) (raised taken : List AlarmNotification) → Base w raised taken → JoinedAt w raised → (setup.plan.continue_on_refused_record ≡ false) → IsUndisturbed slot subslot w
      → (run : List (Move × World F)) → AreMade as_flash w run → AreMeant w run → AreSizedMoves run → ArePlans so.fine setup w run → AreUndisturbed slot subslot run
      → length (raised ++ reported_over w run) ≤ 2048 → JoinedAt (last_world w run) (raised ++ reported_over w run)
  run_joined w raised taken base was strict calm [] made meant sized plans calms few = subst (λ (xs : List AlarmNotification). JoinedAt w xs) (sym (append-nil raised)) was
  run_joined w raised taken base was strict calm (one ∷ run) made meant sized plans calms few =
      let now = reported_with w one.1 in
      let few_one = few_here raised now (reported_over one.1 run) few in
      let few_all_runs : length ((raised ++ now) ++ reported_over one.1 run) ≤ 2048 =
      subst (λ (xs : List AlarmNotification). length xs ≤ 2048) (sym (append_assoc raised now (reported_over one.1 run))) few in
      subst (λ (xs : List AlarmNotification). JoinedAt (last_world one.1 run) xs) (append_assoc raised now (reported_over one.1 run))
      (run_joined one.1 (raised ++ now) (taken ++ taken_with low_priority w one.0)
      (base_now w one.1 raised taken base one.0 made.0 meant.0 sized.0 plans.0 few_one)
      (joined_now w one.1 raised taken base one.0 made.0 meant.0 sized.0 plans.0 few_one was strict calm calms.0) strict calms.0 run made.1 meant.1 sized.1 plans.1 calms.1 few_all_runs)
