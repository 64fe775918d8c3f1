-- A run from its start, turn by turn.
use Rattle.std.proofs.Common.{◌≡◌, ◌⊎◌, inl, inr, ◌≤◌, ℕ, true, false, List, [], ◌∷◌, ◌++◌, length, drop, map, Option, Some, option_map, refl, sym, ap, subst, ◌∙◌, append_assoc}
use Rattle.std.proofs.lemmas.List.{append-nil}
use Rattle.std.specs.Prelude.{slice_get, unwrap_or}
use Rattle.std.specs.List.{AllByRecursion}
use Rattle.std.specs.Option.{option_map as mapped}
use Rattle.lldp.specs.Views.{peer_as}
use Rattle.flash_model.specs.declared.flash.Flash.{Ghosts as Flash}
use Rattle.settings_journal.specs.settings_store.Machine.{Outcome}
use Rattle.pn_values.specs.declared.mac.Mac.{Mac}
use Rattle.frame_codec.specs.declared.udp.Caller.{Caller}
use Rattle.rpc_core.specs.Call.{Asked as Called}
use Rattle.connects.specs.requests.Request.{Request}
use Rattle.records.specs.declared.writes.taken.TakenRecord.{TakenRecord}
use Rattle.relations.specs.RelationState.{RelationState}
use Rattle.plans.specs.declared.parts.PlanRecord.{PlanRecord}
use Rattle.device_frames.specs.declared.event.Event.TheVariants.{Frame}
use Rattle.device_frames.specs.Heard.{Heard, Ticks, Met, Applied, Reported, Calls, heard_of}
use Rattle.device_frames.specs.Sent.{bytes_of}
use Rattle.device_core.specs.State.{Station, Live}
use Rattle.device_core.specs.Machine.{heard_step, handled_step}
use Rattle.controller_messages.specs.declared.setup.Setup.{Setup}
use Rattle.controller_messages.specs.Heard.{heard_of as controller_hears}
use Rattle.controller_messages.specs.Sent as said
use Rattle.controller_core.specs.declared.stored.event.Event.{Event}
use Rattle.controller_core.specs.declared.stored.event.Event.TheVariants as controller
use Rattle.controller_core.specs.declared.stored.state.State.{State}
use Rattle.controller_core.specs.declared.stored.state.State.TheVariants.{Exchanging}
use Rattle.controller_core.specs.stored.State.{Controlling, Live as ControllerLive}
use Rattle.controller_core.specs.Machine.{step_of, turn_of}
use Rattle.network_world.specs.declared.moves.End.TheVariants.{Device, Controller}
use Rattle.network_world.specs.declared.moves.Move.{Move}
use Rattle.network_world.specs.declared.moves.Move.TheVariants as move
use Rattle.network_world.specs.World.{AreMade, at_controller, AtDevice, end_at, Happens, last_world, World}
use Rattle.end_laws.specs.sending.Addressed.{IsEventFrom}
use Rattle.end_laws.specs.turns.Turns.{IsTurn, came_by as controller_came}
use Rattle.end_laws.specs.both.Small as small
use Rattle.end_laws.specs.both.StartUp.{Begins as BeginsSmall, IsRun, last_of}
use Rattle.end_laws.specs.both.Steps.{DeviceSteps, Steps, records_of}
use Rattle.end_laws.specs.controller.Small.{said_in, said_to, small_of, state_of}
use Rattle.end_laws.specs.device.Small.{IsPlanned, heard_as, link_of}
use Rattle.end_laws.specs.device.Small as device
use Rattle.end_laws.specs.device.Turn.{Turn as DeviceTurn}
use Rattle.both_ends.specs.startup.request.Request.{request_for}
use Rattle.both_ends.specs.startup.Played.{IsParameter, IsPlaced, viewed}
use Rattle.both_ends.specs.startup.View.{is_planned, move_of, rules_of, view_of}
use Rattle.both_ends.proofs.StartupEach.{each_at}
use Rattle.both_ends.proofs.StartupGiven.{GoesSo, HeardSo}
use Rattle.both_ends.proofs.StartupHeard.{IsKnown, IsKnownHeard, IsPlans, all_met}
use Rattle.both_ends.proofs.StartupKnown.{CanStart, HoldsAt, all_meant, holds_behind, known_own, meant_at_controller, meant_at_device}
use Rattle.both_ends.proofs.StartupRuns.{InStep, controller_is, delivered, happens_steps, last_viewed, rules_at}
use Rattle.plans.specs.Plan.{AreShort}
use Rattle.startup_octets.specs.StartUp.{Answers, AreStartUps, IsIn, IsPlugReady, IsReadyCall, IsStartUp, Turn, Written, is_granted, sent_by}
use Rattle.startup_octets.specs.Played.{came_by, is_device, seen_of, turn_by, turns_of}
use Rattle.startup_octets.proofs.CallsIn.{IsCallIn, call_in}
use Rattle.startup_octets.proofs.ControllerPoint.{controller_point}
use Rattle.startup_octets.proofs.ControllerTurn.{IsPluggedBy, IsReadiedBy, answered_ready}
use Rattle.startup_octets.proofs.DevicePoint.{device_point}
use Rattle.startup_octets.proofs.Exact.{written_of}
use Rattle.startup_octets.proofs.Frames.{AreCallsRead}
use Rattle.startup_octets.proofs.Hands.{IsHandedBy, handed_there}
use Rattle.startup_octets.proofs.PlugEnds.{IsNoPlugEnd, IsPlugEnd}
use Rattle.startup_octets.proofs.PlugReadies.{call_to, plug_ready_is}
use Rattle.startup_octets.proofs.Points.{IsPoint, IsTraced, SmallWorld, call_heard, dropped, same_point, started_up}
use Rattle.startup_octets.proofs.ReadyFrames.{messages_ready}
use Rattle.startup_octets.proofs.SmallSteps.{IsNoAccess}
use Rattle.startup_octets.proofs.Taking.{AreNotDone}
use Rattle.startup_octets.proofs.Writes.{IsFit}

-- ---- small facts

true_false : true ≡ false → ⊥
true_false e = cc

nothing_ready : small.Nothing ≡ small.Readies → ⊥
nothing_ready e = cc

idle_call : (heard : small.ToDevice) (sequence : ℕ) (ask : small.Ask) → heard ≡ small.Idle → heard ≡ small.Call sequence ask → ⊥
idle_call heard sequence ask idle call = let e = sym idle ∙ call in cc

abbrev items_in : Event → List ℕ → List ℕ
items_in (controller.Frame octets) otherwise = octets.items
items_in event otherwise = otherwise

same_frame : (one other : List ℕ) → controller.Frame (record { items = one }) ≡ controller.Frame (record { items = other }) → one ≡ other
same_frame one other e = ap (λ event. items_in event one) e

granted_none : (asked : List ℕ) → is_granted asked [] ≡ true → ⊥
granted_none asked e = cc

abbrev IsNoReport : Heard → Type 0
IsNoReport (Reported caller address said) = ⊥
IsNoReport heard = Unit {0}

no_report : (heard : Heard) → IsNoReport heard → (caller : Caller) (address : List ℕ) (call : Called) → heard ≡ Reported caller address (Calls call) → ⊥
no_report heard none caller address call e = subst IsNoReport e none

abbrev IsNoFrame : Event → Type 0
IsNoFrame (controller.Frame bytes) = ⊥
IsNoFrame event = Unit {0}

no_frame : (event : Event) → IsNoFrame event → (octets : List ℕ) → event ≡ controller.Frame (record { items = octets }) → ⊥
no_frame event none octets e = subst IsNoFrame e none

-- The laws of the crates below.
pub record Laws : Type 0 where
  pub so : HeardSo
  pub goes : GoesSo
  pub undone : AreNotDone
  pub calls_read : AreCallsRead
  pub turn : (rules : small.Rules TakenRecord Request) (activity : List ℕ) (outcomes : List Outcome) (station : Station) (live : Live) (heard : Heard)
      → IsPlanned rules activity station.named live.rest.real heard → DeviceTurn station live heard (heard_step outcomes station live heard).live.rest (heard_step outcomes station live heard).sent
  pub kinds : (setup : Setup) (live : ControllerLive) (event : Event) → IsTurn setup live (controller_came setup event) (turn_of setup live event)
  pub handed : (rules : small.Rules TakenRecord Request) → IsHandedBy rules

-- Each turn that answers a call follows a start-up.
abbrev pub AreGood : Mac → List ℕ → List Written → List Turn → List Turn → Type 0
AreGood mac relation records earlier [] = Unit {0}
AreGood mac relation records earlier (turn ∷ turns) = (Answers turn → IsReadyCall mac relation records earlier turn.came) × AreGood mac relation records (earlier ++ turn ∷ []) turns

all_good : (mac : Mac) (relation : List ℕ) (records : List Written) (earlier front : List Turn) (turn : Turn) (behind : List Turn) → AreGood mac relation records earlier (front ++ turn ∷ behind)
    → Answers turn → IsReadyCall mac relation records (earlier ++ front) turn.came
all_good mac relation records earlier [] turn behind good answers = subst (λ l. IsReadyCall mac relation records l turn.came) (sym (append-nil earlier)) (good.0 answers)
all_good mac relation records earlier (one ∷ front) turn behind good answers =
    subst (λ l. IsReadyCall mac relation records l turn.came) (append_assoc earlier (one ∷ []) front) (all_good mac relation records (earlier ++ one ∷ []) front turn behind good.1 answers)

pub good_start_ups : (mac : Mac) (relation : List ℕ) (records : List Written) (turns : List Turn) → AreGood mac relation records [] turns → AreStartUps mac relation records turns
good_start_ups mac relation records turns good front turn behind parts answers =
    all_good mac relation records [] front turn behind (subst (AreGood mac relation records []) parts good) answers

fit_each : (entries : List PlanRecord) → AllByRecursion IsParameter entries → AllByRecursion IsPlaced entries → AreShort entries
    → AllByRecursion (λ entry. IsParameter entry × IsPlaced entry × (length entry.data.items ≤ 64)) entries
fit_each [] below placed short = tt
fit_each (entry ∷ entries) below placed short = ((below.0, placed.0, short.0), fit_each entries below.1 placed.1 short.1)

frames_of : (outcomes : List Outcome) (station : Station) (live : Live) (heard : Heard) → (heard_step outcomes station live heard).frames ≡ map (bytes_of station.identity) (heard_step outcomes station live heard).sent
unfolding heard_step handled_step
frames_of outcomes station live heard = refl

module _ (laws : Laws) {F : Type 0} (first : World F) where
  abbrev so : HeardSo
  so = laws.so

  abbrev goes : GoesSo
  goes = laws.goes

  -- The device hears no PrmEnd after a plug in a frame.
  abbrev unended_at : World F → List ℕ → Type 0
  unended_at w = IsNoPlugEnd w.controller.setup w.device.station.identity

  -- The point of a world, after a run and these turns.
  abbrev pub PointAt : List (small.Move × SmallWorld) → List Turn → World F → Type 0
  PointAt run turns w =
      IsPoint (rules_at w) (unended_at w) w.device.station.identity.mac w.controller.setup.ar w.controller.setup.activity run turns (view_of w) w.device.live.rest.link

  module _ (now : World F) (can : CanStart now.controller.setup now.device.station) (holds : HoldsAt now) (in_step : InStep now)
      (plans : IsPlans so now.controller.setup now.device.station can.setup_is can.device_is can.apart now.device.live.rest.link)
      (strict : now.controller.setup.plan.continue_on_refused_record ≡ false) (begins : BeginsSmall (rules_at now) (view_of first))
      (run : List (small.Move × SmallWorld)) (turns : List Turn) (it : PointAt run turns now) where
    abbrev setup : Setup
    setup = now.controller.setup

    abbrev station : Station
    station = now.device.station

    abbrev mac : Mac
    mac = station.identity.mac

    fit : IsFit setup
    fit = record { named = can.good.named; few = can.setup_is.plan.few_records; fit = fit_each setup.plan.records.items can.good.records can.good.placed can.good.short }

    -- ---- the device

    module _ {S : ℕ} (as_flash : Flash F S) (after : World F) (heard : Heard) (known : IsKnownHeard setup heard) (made : AtDevice as_flash now heard after) (way : small.Move) (turn : Turn)
        (at : turn.at_device ≡ true) (sent_is : turn.sent ≡ made.hears.frames)
        (flat : (caller : Caller) (address : List ℕ) (call : Called) → heard ≡ Reported caller address (Calls call) → IsCallIn mac turn.came call)
        (came : (sequence : ℕ) (ask : small.Ask) → heard_as (is_planned setup) heard ≡ small.Call sequence ask → IsIn turn.came (sent_by false turns))
        (access : AllByRecursion (IsNoAccess (rules_at now)) now.sent → (sequence : ℕ) → heard_as (is_planned setup) heard ≡ small.Call sequence small.Accesses → ⊥)
        (ending : AllByRecursion (unended_at now) now.sent → (caller : Caller) (address : List ℕ) (call : Called) → heard ≡ Reported caller address (Calls call) → IsPlugEnd setup call → ⊥)
        (runs : IsRun (rules_at now) (view_of first) (run ++ (way, view_of after) ∷ [])) where
      abbrev outcomes : List Outcome
      outcomes = made.hears.steps.outcomes

      abbrev live : Live
      live = now.device.live

      abbrev later : Live
      later = (heard_step outcomes station live heard).live

      abbrev next : SmallWorld
      next = record { device = device.small_of setup.activity later; controller = small_of setup.plan now.controller.live; sent = now.sent ++ turn.sent }

      next_is : view_of after ≡ next
      next_is =
          ap (λ (c : Controlling). record { device = device.small_of c.setup.activity after.device.live; controller = small_of c.setup.plan c.live; sent = after.sent }) made.controller
          ∙ ap (λ (l : Live). record { device = device.small_of setup.activity l; controller = small_of setup.plan now.controller.live; sent = after.sent }) made.hears.steps.live
          ∙ ap (λ (l : List (List ℕ)). record { device = device.small_of setup.activity later; controller = small_of setup.plan now.controller.live; sent = l })
          (made.hears.behind ∙ ap (λ (l : List (List ℕ)). now.sent ++ l) (sym sent_is))

      frames_are : turn.sent ≡ (heard_step outcomes station live heard).frames
      frames_are = sent_is ∙ made.hears.steps.frames

      messages_are : turn.sent ≡ map (bytes_of station.identity) (heard_step outcomes station live heard).sent
      messages_are = frames_are ∙ frames_of outcomes station live heard

      at_device : PointAt (run ++ (way, view_of after) ∷ []) (turns ++ turn ∷ []) after
      at_device =
          let meant = meant_at_device so goes now can holds in_step plans heard known in
          let sendable = made.hears.steps.sendable in
          let does = (laws.turn (rules_at now) setup.activity outcomes station live heard meant.planned).does in
          let steps = goes.device_on (rules_at now) setup.activity outcomes station live heard holds.orderly (known_own setup live.rest.asked holds.of_known) meant.planned
          (meant.sent outcomes sendable) in
          let owed = goes.owed (rules_at now) setup.activity outcomes station live heard meant.planned in
          let met = all_met so setup station can.setup_is can.device_is can.apart heard live (heard_step outcomes station live heard).sent known holds.of_known plans holds.orderly owed sendable in
          let ready = messages_ready so laws.calls_read setup station can.setup_is can.device_is can.apart heard live known plans (λ answer is. (it.fine answer is).1)
          (heard_step outcomes station live heard).sent owed met sendable in
          let point = device_point laws.undone so.block_read so.block_long setup station fit can.device_is strict (laws.handed (rules_at now)) (view_of first) begins run turns
          (small_of setup.plan now.controller.live) now.sent live heard later.rest later refl (heard_step outcomes station live heard).sent way turn at messages_are sendable it known holds.orderly meant.planned does
          (subst (λ (l : List (List ℕ)). DeviceSteps (rules_at now) (heard_as (is_planned setup) heard) (device.small_of setup.activity live) (device.small_of setup.activity later) l) (sym frames_are) steps)
          flat came access ending (subst (AllByRecursion _) (sym messages_are) ready)
          (subst (λ (w : SmallWorld). IsRun (rules_at now) (view_of first) (run ++ (way, w) ∷ [])) next_is runs) in
          subst (λ (s : Setup). IsPoint (rules_of s after.device.station) (IsNoPlugEnd s after.device.station.identity) after.device.station.identity.mac s.ar s.activity (run ++ (way, view_of after) ∷ []) (turns ++ turn ∷ []) (view_of after)
          after.device.live.rest.link) (ap (λ (c : Controlling). c.setup) (sym made.controller))
          (subst (λ (s : Station). IsPoint (rules_of setup s) (IsNoPlugEnd setup s.identity) s.identity.mac setup.ar setup.activity (run ++ (way, view_of after) ∷ []) (turns ++ turn ∷ []) (view_of after) after.device.live.rest.link)
          (sym made.hears.steps.same)
          (subst (λ (l : Live). IsPoint (rules_at now) (unended_at now) mac setup.ar setup.activity (run ++ (way, view_of after) ∷ []) (turns ++ turn ∷ []) (view_of after) l.rest.link) (sym made.hears.steps.live)
          (subst (λ (w : SmallWorld). IsPoint (rules_at now) (unended_at now) mac setup.ar setup.activity (run ++ (way, w) ∷ []) (turns ++ turn ∷ []) w later.rest.link) (sym next_is) point)))

    -- ---- the controller

    module _ (after : World F) (event : Event) (from : IsEventFrom mac setup event) (made : after ≡ at_controller now event) (way : small.Move) (turn : Turn) (at : turn.at_device ≡ false)
        (sent_is : turn.sent ≡ drop (length now.sent) after.sent)
        (unready : AllByRecursion (λ frame. (rules_at now).to_controller frame ≡ small.Readies → ⊥) now.sent
        → said_in setup (controller_hears setup.plan.controller) event ≡ small.Readies → ⊥) where
      abbrev messages : List said.Sent
      messages = (turn_of setup now.controller.live event).sent

      sent_frames : turn.sent ≡ map (said.bytes_of setup) messages
      sent_frames =
          sent_is ∙ ap (λ (w : World F). drop (length now.sent) w.sent) made ∙ dropped now.sent (step_of now.controller event).frames ∙ goes.frames_are now.controller event

      abbrev passed : SmallWorld
      passed = record { device = (view_of now).device; controller = small_of setup.plan (turn_of setup now.controller.live event).live; sent = now.sent ++ turn.sent }

      passed_is : view_of after ≡ passed
      passed_is =
          ap view_of made
          ∙ ap (λ (c : Controlling). record { device = device.small_of c.setup.activity now.device.live; controller = small_of c.setup.plan c.live; sent = now.sent ++ (step_of now.controller event).frames })
          (controller_is now.controller event)
          ∙ ap (λ (l : List (List ℕ)). record { device = (view_of now).device; controller = small_of setup.plan (turn_of setup now.controller.live event).live; sent = now.sent ++ l })
          (goes.frames_are now.controller event ∙ sym sent_frames)

      at_the_controller : PointAt (run ++ (way, view_of after) ∷ []) (turns ++ turn ∷ []) after
      at_the_controller =
          let meant = meant_at_controller so goes now can holds in_step event from in
          let on = goes.controller_on setup now.controller.live event in_step in
          let aimed = (goes.aimed mac setup now.controller.live event can.setup_is holds.aimed from).1 in
          let point = controller_point setup station mac run turns (view_of now).device now.device.live.rest.link now.sent now.controller.live event way turn at sent_frames it meant
          so can.setup_is aimed on unready in
          let kept : after.controller.setup ≡ setup = ap (λ (w : World F). w.controller.setup) made ∙ ap (λ (c : Controlling). c.setup) (controller_is now.controller event) in
          subst (λ (s : Setup). IsPoint (rules_of s after.device.station) (IsNoPlugEnd s after.device.station.identity) after.device.station.identity.mac s.ar s.activity (run ++ (way, view_of after) ∷ []) (turns ++ turn ∷ []) (view_of after)
          after.device.live.rest.link) (sym kept)
          (subst (λ (w : World F). IsPoint (rules_of setup w.device.station) (IsNoPlugEnd setup w.device.station.identity) w.device.station.identity.mac setup.ar setup.activity (run ++ (way, view_of after) ∷ []) (turns ++ turn ∷ []) (view_of after)
          w.device.live.rest.link) (sym made)
          (subst (λ (w : SmallWorld). IsPoint (rules_at now) (unended_at now) mac setup.ar setup.activity (run ++ (way, w) ∷ []) (turns ++ turn ∷ []) w now.device.live.rest.link) (sym passed_is) point))

      -- It answers an ApplicationReady alone, of its relation or of a plug.
      answers_so : Answers turn → IsReadiedBy setup event ⊎ IsPluggedBy setup now.controller.live event
      answers_so answers =
          answered_ready setup now.controller.live event can.setup_is mac (drop 42 turn.came) (laws.kinds setup now.controller.live event)
          (goes.aimed mac setup now.controller.live event can.setup_is holds.aimed from).1
          (subst (λ (l : List (List ℕ)). is_granted (drop 42 turn.came) l ≡ true) sent_frames answers.granted)

    -- ---- any move

    module _ {S : ℕ} (as_flash : Flash F S) (after : World F) where
      -- The point after a move.
      abbrev IsNext : Move → World F → Type 0
      IsNext one w = PointAt (run ++ (move_of one, view_of w) ∷ []) (turns ++ turn_by now.sent one w.sent ∷ []) w

      abbrev Runs : Move → Type 0
      Runs one = IsRun (rules_at now) (view_of first) (run ++ (move_of one, view_of after) ∷ [])

      all_dropped : (sent : List (List ℕ)) → drop (length sent) sent ≡ []
      all_dropped sent = ap (drop (length sent)) (sym (append-nil sent)) ∙ dropped sent []

      stays : (one : Move) → after ≡ now → IsNext one after
      stays one same =
          subst (IsNext one) (sym same)
          (same_point (rules_at now) (unended_at now) mac setup.ar setup.activity run turns (view_of now) now.device.live.rest.link (move_of one) (turn_by now.sent one now.sent) (all_dropped now.sent) it)

      sent_dropped : (heard : Heard) (made : AtDevice as_flash now heard after) → drop (length now.sent) after.sent ≡ made.hears.frames
      sent_dropped heard made = ap (drop (length now.sent)) made.hears.behind ∙ dropped now.sent made.hears.frames

      -- Something happens at the device that is no call.
      alone : (heard : Heard) → ((caller : Caller) (address : List ℕ) (call : Called) → heard ≡ Reported caller address (Calls call) → ⊥) → IsKnownHeard setup heard → AtDevice as_flash now heard after
          → (one : Move) → is_device (end_at one) ≡ true → Runs one → IsNext one after
      alone heard none known made one at runs =
          at_device as_flash after heard known made (move_of one) (turn_by now.sent one after.sent) at (sent_dropped heard made)
          (λ caller address call is. absurd (none caller address call is))
          (λ sequence ask is. let h = call_heard (is_planned setup) heard sequence ask is in absurd (none h.caller h.address h.call h.is))
          (λ _ sequence is. let h = call_heard (is_planned setup) heard sequence small.Accesses is in none h.caller h.address h.call h.is)
          (λ _ caller address call is ends. none caller address call is)
          runs

      known_at : (number : ℕ) (frame : List ℕ) → slice_get now.sent number ≡ Some frame → IsKnown setup station.identity frame
      known_at number frame there = each_at (IsKnown setup station.identity) now.sent number frame holds.known there

      came_in : (turn_came frame : List ℕ) → turn_came ≡ frame → IsTraced (rules_at now) (unended_at now) mac setup.ar setup.activity turns frame → (sequence : ℕ) (ask : small.Ask)
          → (rules_at now).to_device frame ≡ small.Call sequence ask → IsIn turn_came (sent_by false turns)
      came_in turn_came frame is (inl idle) sequence ask call = absurd (idle_call _ sequence ask idle call)
      came_in turn_came frame is (inr traced) sequence ask call = subst (λ f. IsIn f (sent_by false turns)) (sym is) traced.1

      -- A frame comes to the device.
      comes_to_device : (number : ℕ) (frame : List ℕ) → slice_get now.sent number ≡ Some frame → AtDevice as_flash now (heard_of station.identity (Frame (record { items = frame }))) after
          → Runs (move.Deliver Device number) → IsNext (move.Deliver Device number) after
      comes_to_device number frame there made runs =
          let heard = heard_of station.identity (Frame (record { items = frame })) in
          let came_is : came_by now.sent (move.Deliver Device number) ≡ frame = ap (λ (o : Option (List ℕ)). unwrap_or o []) there in
          at_device as_flash after heard (known_at number frame there).at_device made (small.ComesToDevice number) (turn_by now.sent (move.Deliver Device number) after.sent) refl (sent_dropped heard made)
          (λ caller address call is. subst (λ f. IsCallIn mac f call) (sym came_is) (call_in station.identity frame caller address call is))
          (came_in _ frame came_is (each_at (IsTraced (rules_at now) (unended_at now) mac setup.ar setup.activity turns) now.sent number frame it.traced there))
          (λ none sequence is. each_at (IsNoAccess (rules_at now)) now.sent number frame none there sequence is)
          (λ none caller address call is ends. each_at (unended_at now) now.sent number frame none there caller address call is ends)
          runs

      -- Something happens at the controller that is no frame.
      acts : (event : Event) → IsEventFrom mac setup event → (said_in setup (controller_hears setup.plan.controller) event ≡ small.Readies → ⊥) → after ≡ at_controller now event → (one : Move)
          → is_device (end_at one) ≡ false → IsNext one after
      acts event from unready made one at = at_the_controller after event from made (move_of one) (turn_by now.sent one after.sent) at refl (λ _. unready)

      comes_to_controller : (number : ℕ) (frame : List ℕ) → slice_get now.sent number ≡ Some frame → after ≡ at_controller now (controller.Frame (record { items = frame }))
          → IsNext (move.Deliver Controller number) after
      comes_to_controller number frame there made =
          at_the_controller after (controller.Frame (record { items = frame })) (known_at number frame there).at_controller made (small.ComesToController number)
          (turn_by now.sent (move.Deliver Controller number) after.sent) refl refl
          (λ none readies. each_at (λ f. (rules_at now).to_controller f ≡ small.Readies → ⊥) now.sent number frame none there readies)

      moved : (one : Move) → Happens as_flash now one after → Runs one → IsNext one after
      moved (move.Deliver Device number) happens runs =
          delivered as_flash now after Device _ (slice_get now.sent number) happens (stays (move.Deliver Device number)) (λ frame there comes. comes_to_device number frame there comes runs)
      moved (move.Deliver Controller number) happens runs =
          delivered as_flash now after Controller _ (slice_get now.sent number) happens (stays (move.Deliver Controller number)) (λ frame there comes. comes_to_controller number frame there comes)
      moved (move.Tick Device) happens runs = alone Ticks (no_report Ticks tt) tt happens (move.Tick Device) refl runs
      moved (move.Tick Controller) happens runs = acts controller.Tick tt nothing_ready happens (move.Tick Controller) refl
      moved (move.Application local) happens runs = alone (Applied local) (no_report (Applied local) tt) tt happens (move.Application local) refl runs
      moved (move.Neighbour neighbour) happens runs = alone (Met (mapped peer_as neighbour)) (no_report (Met (mapped peer_as neighbour)) tt) tt happens (move.Neighbour neighbour) refl runs
      moved (move.Give slot subslot value) happens runs = acts (controller.Give slot subslot value) tt nothing_ready happens (move.Give slot subslot value) refl
      moved (move.OutputStatus slot subslot is_good) happens runs = acts (controller.Status slot subslot is_good) tt nothing_ready happens (move.OutputStatus slot subslot is_good) refl
      moved (move.Read slot subslot index) happens runs = acts (controller.Read slot subslot index) tt nothing_ready happens (move.Read slot subslot index) refl
      moved (move.Write slot subslot index octets) happens runs = acts (controller.Write slot subslot index octets) tt nothing_ready happens (move.Write slot subslot index octets) refl
      moved move.Stop happens runs = acts controller.Stop tt nothing_ready happens move.Stop refl

      -- ---- a turn that answers

      module _ (records : List Written) (same : map written_of (records_of (rules_at now)) ≡ records) (steps : IsRun (rules_at now) (view_of first) run)
          (last : last_of (view_of first) run ≡ view_of now) where
        abbrev IsFine : Move → Type 0
        IsFine one = Answers (turn_by now.sent one after.sent) → IsReadyCall mac setup.ar records turns (came_by now.sent one)

        -- While data is exchanged, there was a start-up.
        started_before : now.controller.live.phase ≡ Exchanging → (ready : List ℕ) × IsStartUp mac setup.ar records turns ready
        started_before exchanges =
            let handed = laws.handed (rules_at now) (view_of first) run begins steps
            (ap (λ (w : SmallWorld). w.controller) last ∙ ap (λ (phase : State). state_of setup.plan phase now.controller.live.asked) exchanges) in
            let there : slice_get now.sent handed.number ≡ Some handed.frame =
            ap (λ (w : SmallWorld). slice_get w.sent handed.number) (sym last) ∙ handed_there (rules_at now) (view_of first) run steps handed in (
              handed.frame,
              started_up (rules_at now) (unended_at now) mac setup.ar setup.activity run turns (view_of now) now.device.live.rest.link records handed.frame handed.number it same there handed.heard,
            )

        silent_turn : (one : Move) → after ≡ now → Answers (turn_by now.sent one after.sent) → ⊥
        silent_turn one is answers =
            let none : drop (length now.sent) after.sent ≡ [] = ap (λ (w : World F). drop (length now.sent) w.sent) is ∙ all_dropped now.sent in
            granted_none (drop 42 (came_by now.sent one)) (sym (ap (is_granted (drop 42 (came_by now.sent one))) none) ∙ answers.granted)

        answers_frame : (number : ℕ) (frame : List ℕ) → slice_get now.sent number ≡ Some frame → after ≡ at_controller now (controller.Frame (record { items = frame })) → IsFine (move.Deliver Controller number)
        answers_frame number frame there made answers =
            by_call (answers_so after (controller.Frame (record { items = frame })) (known_at number frame there).at_controller made (small.ComesToController number)
            (turn_by now.sent (move.Deliver Controller number) after.sent) refl refl
            (λ none readies. each_at (λ f. (rules_at now).to_controller f ≡ small.Readies → ⊥) now.sent number frame none there readies) answers)
          where
            came_is : came_by now.sent (move.Deliver Controller number) ≡ frame
            came_is = ap (λ (o : Option (List ℕ)). unwrap_or o []) there

            by_call : IsReadiedBy setup (controller.Frame (record { items = frame })) ⊎ IsPluggedBy setup now.controller.live (controller.Frame (record { items = frame }))
                → IsReadyCall mac setup.ar records turns (came_by now.sent (move.Deliver Controller number))
            by_call (inl by) =
                let readies : (rules_at now).to_controller frame ≡ small.Readies =
                ap (λ f. said_to setup (controller_hears setup.plan.controller f)) (same_frame frame by.octets by.is) ∙ by.says in
                inl (subst (IsStartUp mac setup.ar records turns) (sym came_is)
                (started_up (rules_at now) (unended_at now) mac setup.ar setup.activity run turns (view_of now) now.device.live.rest.link records frame number it same there readies))
            by_call (inr by) =
                let before = started_before by.exchanges in
                let heard = ap (λ f. controller_hears setup.plan.controller f) (same_frame frame by.octets by.is) ∙ by.heard in
                inr (subst (IsPlugReady mac setup.ar records turns) (sym came_is) (record {
                  ready = before.0;
                  started = before.1;
                  is = plug_ready_is setup frame by.call by.block (call_to setup.plan.controller frame by.caller by.call heard) by.read by.right;
                }))

        -- What is no frame is not answered.
        answers_none : (event : Event) → IsEventFrom mac setup event → (said_in setup (controller_hears setup.plan.controller) event ≡ small.Readies → ⊥) → after ≡ at_controller now event → (one : Move)
            → is_device (end_at one) ≡ false → IsNoFrame event → IsFine one
        answers_none event from unready made one at none answers =
            by_call (answers_so after event from made (move_of one) (turn_by now.sent one after.sent) at refl (λ _. unready) answers)
          where
            by_call : IsReadiedBy setup event ⊎ IsPluggedBy setup now.controller.live event → IsReadyCall mac setup.ar records turns (came_by now.sent one)
            by_call (inl by) = absurd (no_frame event none by.octets by.is)
            by_call (inr by) = absurd (no_frame event none by.octets by.is)

        fine : (one : Move) → Happens as_flash now one after → IsFine one
        fine (move.Deliver Controller number) happens answers =
            delivered as_flash now after Controller (IsFine (move.Deliver Controller number)) (slice_get now.sent number) happens
            (λ is answers. absurd (silent_turn (move.Deliver Controller number) is answers)) (λ frame there comes. answers_frame number frame there comes) answers
        fine (move.Tick Controller) happens answers = answers_none controller.Tick tt nothing_ready happens (move.Tick Controller) refl tt answers
        fine (move.Give slot subslot value) happens answers = answers_none (controller.Give slot subslot value) tt nothing_ready happens (move.Give slot subslot value) refl tt answers
        fine (move.OutputStatus slot subslot is_good) happens answers =
            answers_none (controller.Status slot subslot is_good) tt nothing_ready happens (move.OutputStatus slot subslot is_good) refl tt answers
        fine (move.Read slot subslot index) happens answers = answers_none (controller.Read slot subslot index) tt nothing_ready happens (move.Read slot subslot index) refl tt answers
        fine (move.Write slot subslot index octets) happens answers =
            answers_none (controller.Write slot subslot index octets) tt nothing_ready happens (move.Write slot subslot index octets) refl tt answers
        fine move.Stop happens answers = answers_none controller.Stop tt nothing_ready happens move.Stop refl tt answers
        fine one happens answers = absurd (true_false answers.at_controller)

  -- ---- any list of moves

  steps_more : (own : small.Rules TakenRecord Request) (from : SmallWorld) (run : List (small.Move × SmallWorld)) (one : small.Move) (to : SmallWorld)
      → IsRun own from run → Steps own (last_of from run) one to → IsRun own from (run ++ (one, to) ∷ [])
  steps_more own from [] one to steps last = (last, tt)
  steps_more own from (earlier ∷ run) one to steps last = (steps.0, steps_more own earlier.1 run one to steps.1 last)

  viewed_more : (run others : List (Move × World F)) → viewed (run ++ others) ≡ viewed run ++ viewed others
  viewed_more [] others = refl
  viewed_more (one ∷ run) others = ap (λ (xs : List (small.Move × SmallWorld)). (move_of one.0, view_of one.1) ∷ xs) (viewed_more run others)

  last_more : (from : World F) (run : List (Move × World F)) (one : Move × World F) → last_world from (run ++ one ∷ []) ≡ one.1
  last_more from [] one = refl
  last_more from (other ∷ run) one = last_more other.1 run one

  module _ {S : ℕ} (as_flash : Flash F S) (begins : BeginsSmall (rules_at first) (view_of first)) (strict : first.controller.setup.plan.continue_on_refused_record ≡ false) (records : List Written)
      (same : map written_of (records_of (rules_at first)) ≡ records) where
    abbrev Own : small.Rules TakenRecord Request
    Own = rules_at first

    plans_at : (run : List (Move × World F)) (now : World F) → last_world first run ≡ now → rules_at now ≡ Own → IsRun Own (view_of first) (viewed run)
        → (link : RelationState) → now.device.live.rest.link ≡ Some link → link.request ≡ request_for now.controller.setup.plan now.controller.setup.ar
    plans_at run now last rules_are steps link is =
        goes.relation Own (view_of first) (viewed run) begins steps (link_of link)
        (ap (λ (w : SmallWorld). w.device.link) (last_viewed first run ∙ ap (λ (w : World F). view_of w) last) ∙ ap (λ (l : Option RelationState). option_map link_of l) is)
        ∙ sym (ap (λ (r : small.Rules TakenRecord Request). r.request) rules_are)

    pub along : (run : List (Move × World F)) (turns : List Turn) (now : World F) → last_world first run ≡ now → now.controller.setup ≡ first.controller.setup → now.device.station ≡ first.device.station
        → IsRun Own (view_of first) (viewed run) → CanStart now.controller.setup now.device.station → HoldsAt now → InStep now → PointAt (viewed run) turns now
        → (others : List (Move × World F)) → AreMade as_flash now others
        → AreGood first.device.station.identity.mac first.controller.setup.ar records turns (turns_of now.sent (seen_of others))
    along run turns now last setup_is station_is steps can holds in_step point [] made = tt
    along run turns now last setup_is station_is steps can holds in_step point (one ∷ others) made =
        let rules_are : rules_at now ≡ Own = ap (λ (s : Setup). rules_of s now.device.station) setup_is ∙ ap (λ (s : Station). rules_of first.controller.setup s) station_is in
        let plans = plans_at run now last rules_are steps in
        let meant = all_meant so goes now can holds in_step plans one.0 in
        let step = happens_steps as_flash goes.device_on goes.controller_on goes.frames_are now one.1 in_step holds.orderly
        (known_own now.controller.setup now.device.live.rest.asked holds.of_known) one.0 meant made.0 in
        let from : Steps Own (last_of (view_of first) (viewed run)) (move_of one.0) (view_of one.1) =
        subst (λ (w : SmallWorld). Steps Own w (move_of one.0) (view_of one.1)) (sym (last_viewed first run ∙ ap (λ (w : World F). view_of w) last))
        (subst (λ (r : small.Rules TakenRecord Request). Steps r (view_of now) (move_of one.0) (view_of one.1)) rules_are step.is) in
        let runs : IsRun Own (view_of first) (viewed run ++ (move_of one.0, view_of one.1) ∷ []) = steps_more Own (view_of first) (viewed run) (move_of one.0) (view_of one.1) steps from in
        let loose : now.controller.setup.plan.continue_on_refused_record ≡ false = ap (λ (s : Setup). s.plan.continue_on_refused_record) setup_is ∙ strict in
        let begun = subst (λ (r : small.Rules TakenRecord Request). BeginsSmall r (view_of first)) (sym rules_are) begins in
        let next = moved now can holds in_step plans loose begun (viewed run) turns point as_flash one.1 one.0 made.0
        (subst (λ (r : small.Rules TakenRecord Request). IsRun r (view_of first) (viewed run ++ (move_of one.0, view_of one.1) ∷ [])) (sym rules_are) runs) in
        let good = fine now can holds in_step plans loose begun (viewed run) turns point as_flash one.1 records
        (ap (λ (r : small.Rules TakenRecord Request). map written_of (records_of r)) rules_are ∙ same)
        (subst (λ (r : small.Rules TakenRecord Request). IsRun r (view_of first) (viewed run)) (sym rules_are) steps)
        (last_viewed first run ∙ ap (λ (w : World F). view_of w) last) one.0 made.0 in
        let starts : CanStart one.1.controller.setup one.1.device.station =
        subst (λ (s : Setup). CanStart s one.1.device.station) (sym step.setup) (subst (λ (s : Station). CanStart now.controller.setup s) (sym step.station) can) in (
          λ answers. subst (λ (s : Setup). IsReadyCall first.device.station.identity.mac s.ar records turns (came_by now.sent one.0)) setup_is
              (subst (λ (s : Station). IsReadyCall s.identity.mac now.controller.setup.ar records turns (came_by now.sent one.0)) station_is (good answers)),
          along (run ++ one ∷ []) (turns ++ turn_by now.sent one.0 one.1.sent ∷ []) one.1 (last_more first run one) (step.setup ∙ setup_is) (step.station ∙ station_is)
              (subst (IsRun Own (view_of first)) (sym (viewed_more run (one ∷ []))) runs) starts (holds_behind so goes now can holds in_step plans as_flash one.1 one.0 made.0) step.in_step
              (subst (λ (xs : List (small.Move × SmallWorld)). PointAt xs (turns ++ turn_by now.sent one.0 one.1.sent ∷ []) one.1) (sym (viewed_more run (one ∷ []))) next) others made.1,
        )
