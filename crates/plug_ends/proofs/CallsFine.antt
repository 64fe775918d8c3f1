-- Over any run of worlds: in no frame of either end the controller hears a reject or a fault, and the calls come one at a time.
use Rattle.std.proofs.Common.{◌≡◌, inl, inr, ◌++◌, ℕ, Bool, true, false, List, [], ◌∷◌, map, Option, Some, None, option_map, refl, sym, ap, subst, ◌∙◌}
use Rattle.std.specs.Prelude.{slice_get}
use Rattle.std.specs.List.{AllByRecursion}
use Rattle.lldp.specs.Views.{peer_as}
use Rattle.flash_model.specs.declared.flash.Flash.{Ghosts as Flash}
use Rattle.settings_journal.specs.settings_store.Machine.{Outcome}
use Rattle.pn_values.specs.declared.identity.Identity.{Identity}
use Rattle.pn_values.specs.declared.mac.Mac.{Mac}
use Rattle.rpc_core.specs.Cache.{Kept as Answer, kept_of}
use Rattle.connects.specs.requests.Request.{Request}
use Rattle.records.specs.declared.writes.taken.TakenRecord.{TakenRecord}
use Rattle.relations.specs.RelationState.{RelationState}
use Rattle.device_frames.specs.declared.event.Event.TheVariants.{Frame}
use Rattle.device_frames.specs.Heard.{Applied, Heard, Met, Ticks, heard_of}
use Rattle.device_frames.specs.Sendable.{AreSendable}
use Rattle.device_core.specs.State.{Live, Station}
use Rattle.device_core.specs.Machine.{handled_step, heard_step}
use Rattle.controller_messages.specs.declared.request.Request.TheVariants as asks
use Rattle.controller_messages.specs.declared.setup.Setup.{Setup}
use Rattle.controller_messages.specs.Heard.{heard_of as heard_by}
use Rattle.controller_messages.specs.Sent.{Requests, bytes_of}
use Rattle.controller_messages.specs.Sent.{Sent as Said}
use Rattle.controller_core.specs.declared.stored.event.Event.{Event}
use Rattle.controller_core.specs.declared.stored.event.Event.TheVariants as controller
use Rattle.controller_core.specs.stored.State.{Controlling, Live as ControllerLive, with_live}
use Rattle.controller_core.specs.Machine.{first as first_live, step_of, turn_of}
use Rattle.network_world.specs.declared.moves.End.TheVariants.{Device, Controller}
use Rattle.network_world.specs.declared.moves.Move.{Move}
use Rattle.network_world.specs.declared.moves.Move.TheVariants as move
use Rattle.network_world.specs.World.{AreMade, at_controller, AtDevice, Comes, Delivers, Happens, is_skipped, last_world, World}
use Rattle.end_laws.specs.hearing.Stations.{IsDevice, IsSetup}
use Rattle.end_laws.specs.sending.Addressed.{IsAimed, IsAimedAt, IsEventFrom}
use Rattle.end_laws.specs.both.Small as small
use Rattle.end_laws.specs.both.Small.{Rules, ToDevice}
use Rattle.end_laws.specs.both.Steps.{DeviceSteps}
use Rattle.end_laws.specs.device.Owed.{IsOfKept, IsOwed}
use Rattle.end_laws.specs.device.Small.{IsPlanned, IsPlannedCall, heard_as, kept_in}
use Rattle.end_laws.specs.device.Small as device
use Rattle.both_ends.specs.startup.request.Request.{request_for}
use Rattle.both_ends.specs.startup.View.{IsMeant, IsMeantAtDevice, is_planned, rules_of}
use Rattle.both_ends.specs.startup.Played.{AreMeant, Begins}
use Rattle.plug_ends.proofs.CallsHeard.{HeardSo, IsFineAt, IsPlans, fine_from, fine_unrefused, messages_fine, said_fine}
use Rattle.plug_ends.proofs.CallsRuns.{CallsSo, all_at, controller_is, kept_for}
use Rattle.plug_ends.proofs.CallsTurns.{none_some}
use Rattle.plug_ends.proofs.CallsWorlds.{HeldAt, first_held, one_held, opening_is}

-- the laws of the crates below
pub record FineSo : Type 0 where
  pub calls : CallsSo
  pub heard : HeardSo
  pub aimed_first : (setup : Setup) → IsSetup setup → IsAimed (first_live setup.plan)
  pub aimed : (mac : Mac) (setup : Setup) (live : ControllerLive) (one : Event) → IsSetup setup → IsAimed live → IsEventFrom mac setup one
      → IsAimed (turn_of setup live one).live × AllByRecursion (IsAimedAt mac) (turn_of setup live one).sent
  pub owed : (rules : Rules TakenRecord Request) (activity : List ℕ) (outcomes : List Outcome) (station : Station) (live : Live) (heard : Heard)
      → IsPlanned rules activity station.named live.rest.real heard → AllByRecursion (IsOwed heard live) (heard_step outcomes station live heard).sent

-- the response that is stored after a step
pub kept_after : (rules : Rules TakenRecord Request) (P : List ℕ → Type 0) (heard : ToDevice) (before after : small.Device TakenRecord Request)
    (frames : List (List ℕ)) → DeviceSteps rules heard before after frames
    → ((answer : small.Kept) → before.kept ≡ Some answer → P answer.frame) → AllByRecursion P frames → (answer : small.Kept) → after.kept ≡ Some answer
    → P answer.frame
kept_after rules P heard before after frames steps was all = by_steps heard steps
  where
    same : after.kept ≡ before.kept → (answer : small.Kept) → after.kept ≡ Some answer → P answer.frame
    same e answer is = was answer (sym e ∙ is)

    some_kept : (one other : small.Kept) → Some one ≡ Some other → one ≡ other
    some_kept one other e = cc

    each_in : (first : List (List ℕ)) (frame : List ℕ) (others : List (List ℕ)) → AllByRecursion P (first ++ frame ∷ others) → P frame
    each_in [] frame others those = those.0
    each_in (x ∷ first) frame others those = each_in first frame others those.1

    stored : (sequence : ℕ) (frame : List ℕ) (first others : List (List ℕ)) → after.kept ≡ Some (record { sequence = sequence; frame = frame })
        → frames ≡ first ++ frame ∷ others
        → (answer : small.Kept) → after.kept ≡ Some answer → P answer.frame
    stored sequence frame first others keeps sent answer is =
        subst (λ (k : small.Kept). P k.frame) (some_kept (record { sequence = sequence; frame = frame }) answer (sym keeps ∙ is))
        (each_in first frame others (subst (λ (fs : List (List ℕ)). AllByRecursion P fs) sent all))

    by_steps : (what : ToDevice) → DeviceSteps rules what before after frames → (answer : small.Kept) → after.kept ≡ Some answer → P answer.frame
    by_steps (small.Call sequence ask) (inl it) = stored sequence it.frame [] it.others it.keeps it.sent
    by_steps (small.Call sequence ask) (inr (inl it)) = same (ap (λ (d : small.Device TakenRecord Request). d.kept) it.unchanged)
    by_steps (small.Call sequence ask) (inr (inr (inl it))) = same (ap (λ (d : small.Device TakenRecord Request). d.kept) it.0)
    by_steps (small.Call sequence ask) (inr (inr (inr it))) = same (ap (λ (d : small.Device TakenRecord Request). d.kept) it.becomes)
    by_steps small.Confirms (inl it) = same (ap (λ (d : small.Device TakenRecord Request). d.kept) it.becomes)
    by_steps small.Confirms (inr it) = same it.keeps
    by_steps small.Idle (inl it) = same it.keeps
    by_steps small.Idle (inr it) = stored it.sequence it.frame it.others [] it.keeps it.sent

pub all_joined : (P : List ℕ → Type 0) (one other : List (List ℕ)) → AllByRecursion P one → AllByRecursion P other → AllByRecursion P (one ++ other)
all_joined P [] other first second = second
all_joined P (x ∷ one) other first second = (first.0, all_joined P one other first.1 second)

-- What the controller hears in each frame is fine, and it sends to its device.
pub record Fine (setup : Setup) (c : Controlling) (station : Station) (live : Live) (sent : List (List ℕ)) : Type 0 where
  pub of_setup : c.setup ≡ setup
  pub good : IsSetup c.setup
  pub real : IsDevice station.identity
  pub frames : AllByRecursion (IsFineAt c.setup station.identity) sent
  pub again : (answer : small.Kept) → kept_for c.setup live ≡ Some answer → IsFineAt c.setup station.identity answer.frame
  pub aimed : IsAimed c.live

module _ (so : FineSo) (setup : Setup) {F : Type 0} where
  abbrev pub FineAtWorld : World F → Type 0
  FineAtWorld w = Fine setup w.controller w.device.station w.device.live w.sent

  -- both invariants
  pub record Both (w : World F) : Type 0 where
    pub held : HeldAt so.calls w
    pub fine : FineAtWorld w

  module _ {S : ℕ} (as_flash : Flash F S) (before after : World F) (both : Both before) (plans : IsPlans setup before.device.live.rest.link) where
    abbrev c : Controlling
    c = before.controller

    abbrev station : Station
    station = before.device.station

    abbrev live : Live
    live = before.device.live

    plans_own : IsPlans c.setup live.rest.link
    plans_own = subst (λ (s : Setup). IsPlans s live.rest.link) (sym both.fine.of_setup) plans

    same_fine : after ≡ before → FineAtWorld after
    same_fine same = subst (λ (w : World F). FineAtWorld w) (sym same) both.fine

    -- the response that is stored for a call that is heard
    kept_fine : (heard : Heard) → IsPlanned (rules_of c.setup station) c.setup.activity station.named live.rest.real heard → (frame : List ℕ)
        → IsOfKept heard live frame
        → IsFineAt c.setup station.identity frame
    kept_fine heard planned frame owed =
        let call : IsPlannedCall (rules_of c.setup station) c.setup.activity station.named live.rest.real owed.call =
        subst (λ (h : Heard). IsPlanned (rules_of c.setup station) c.setup.activity station.named live.rest.real h) owed.is planned in
        let there : kept_of c.setup.activity live.rest.calls ≡ Some owed.kept = ap (λ (activity : List ℕ). kept_of activity live.rest.calls) (sym call.own)
        ∙ owed.there in
        subst (λ (f : List ℕ). IsFineAt c.setup station.identity f) owed.same
        (both.fine.again (kept_in owed.kept) (ap (λ (k : Option Answer). option_map kept_in k) there))

    step_fine : (outcomes : List Outcome) (heard : Heard) → IsPlanned (rules_of c.setup station) c.setup.activity station.named live.rest.real heard
        → AreSendable station.identity (heard_step outcomes station live heard).sent
        → AllByRecursion (IsFineAt c.setup station.identity) (heard_step outcomes station live heard).frames
    unfolding heard_step handled_step
    step_fine outcomes heard planned sendable =
        messages_fine so.heard c.setup station.identity both.fine.good both.fine.real heard live
        (heard_step outcomes station live heard).sent plans_own both.held.orderly (kept_fine heard planned)
        (so.owed (rules_of c.setup station) c.setup.activity outcomes station live heard planned) sendable

    device_fine : (heard : Heard) → IsMeantAtDevice before heard → AtDevice as_flash before heard after → FineAtWorld after
    device_fine heard meant made =
        let hears = made.hears in
        let rules = rules_of c.setup station in
        let step = heard_step hears.steps.outcomes station live heard in
        let steps = so.calls.device_on rules c.setup.activity hears.steps.outcomes station live heard both.held.orderly both.held.own meant.planned
        (meant.sent hears.steps.outcomes hears.steps.sendable) in
        let those = step_fine hears.steps.outcomes heard meant.planned hears.steps.sendable in
        let now : Fine setup c station step.live (before.sent ++ step.frames) = record {
          of_setup = both.fine.of_setup;
          good = both.fine.good;
          real = both.fine.real;
          frames = all_joined (IsFineAt c.setup station.identity) before.sent step.frames both.fine.frames those;
          again = kept_after rules (IsFineAt c.setup station.identity) (heard_as (is_planned c.setup) heard) (device.small_of c.setup.activity live)
              (device.small_of c.setup.activity step.live) step.frames steps both.fine.again those;
          aimed = both.fine.aimed;
        } in
        subst (λ (old_one : Controlling). Fine setup old_one after.device.station after.device.live after.sent) (sym made.controller)
        (subst (λ (s : Station). Fine setup c s after.device.live after.sent) (sym hears.steps.same)
        (subst (λ (l : Live). Fine setup c station l after.sent) (sym hears.steps.live)
        (subst (λ (fs : List (List ℕ)). Fine setup c station step.live fs)
        (sym (hears.behind ∙ ap (λ (fs : List (List ℕ)). before.sent ++ fs) hears.steps.frames)) now)))

    said_all : (messages : List Said) → AllByRecursion (IsAimedAt station.identity.mac) messages
        → AllByRecursion (IsFineAt c.setup station.identity) (map (bytes_of c.setup) messages)
    said_all [] aimed = tt
    said_all (message ∷ messages) aimed = (said_fine so.heard c.setup station.identity both.fine.good both.fine.real message aimed.0, said_all messages aimed.1)

    steps_fine : (one : Event) → IsEventFrom station.identity.mac c.setup one → after ≡ at_controller before one → FineAtWorld after
    steps_fine one from happens =
        let turn = turn_of c.setup c.live one in
        let aimed = so.aimed station.identity.mac c.setup c.live one both.fine.good both.fine.aimed from in
        let now : Fine setup (with_live c turn.live) station live (before.sent ++ map (bytes_of c.setup) turn.sent) = record {
          of_setup = both.fine.of_setup;
          good = both.fine.good;
          real = both.fine.real;
          frames = all_joined (IsFineAt c.setup station.identity) before.sent (map (bytes_of c.setup) turn.sent) both.fine.frames (said_all turn.sent aimed.1);
          again = both.fine.again;
          aimed = aimed.0;
        } in
        subst (λ (w : World F). FineAtWorld w) (sym happens)
        (subst (λ (next : Controlling). Fine setup next station live (before.sent ++ (step_of c one).frames)) (sym (controller_is c one))
        (subst (λ (fs : List (List ℕ)). Fine setup (with_live c turn.live) station live (before.sent ++ fs)) (sym (so.calls.frames_are c one)) now))

    come_fine : (octets : List ℕ) (skipped : Bool) → IsMeantAtDevice before (heard_of station.identity (Frame (record { items = octets })))
        → Comes as_flash skipped before Device octets after → FineAtWorld after
    come_fine octets true meant happens = same_fine happens
    come_fine octets false meant happens = device_fine (heard_of station.identity (Frame (record { items = octets }))) meant happens

    delivered_fine : (octets : Option (List ℕ)) → ((frame : List ℕ) → octets ≡ Some frame
        → IsMeantAtDevice before (heard_of station.identity (Frame (record { items = frame }))))
        → Delivers as_flash octets before Device after → FineAtWorld after
    delivered_fine None meant happens = same_fine happens
    delivered_fine (Some octets) meant happens = come_fine octets (is_skipped before.device before.controller Device octets) (meant octets refl) happens

    answer_fine : (octets : List ℕ) → IsFineAt c.setup station.identity octets → (skipped : Bool) → Comes as_flash skipped before Controller octets after
        → FineAtWorld after
    answer_fine octets is true happens = same_fine happens
    answer_fine octets is false happens =
        steps_fine (controller.Frame (record { items = octets })) (fine_from station.identity.mac (heard_by c.setup.plan.controller octets) is) happens

    answered_fine : (octets : Option (List ℕ)) → ((frame : List ℕ) → octets ≡ Some frame → IsFineAt c.setup station.identity frame)
        → Delivers as_flash octets before Controller after → FineAtWorld after
    answered_fine None is happens = same_fine happens
    answered_fine (Some octets) is happens = answer_fine octets (is octets refl) (is_skipped before.device before.controller Controller octets) happens

    one_fine : (one : Move) → IsMeant before one → Happens as_flash before one after → FineAtWorld after
    one_fine (move.Deliver Device number) meant happens = delivered_fine (slice_get before.sent number) meant happens
    one_fine (move.Deliver Controller number) meant happens =
        answered_fine (slice_get before.sent number) (λ frame there. all_at
        (IsFineAt c.setup station.identity) before.sent both.fine.frames number frame there) happens
    one_fine (move.Tick Device) meant happens = device_fine Ticks meant happens
    one_fine (move.Tick Controller) meant happens = steps_fine controller.Tick tt happens
    one_fine (move.Application local) meant happens = device_fine (Applied local) meant happens
    one_fine (move.Neighbour neighbour) meant happens = device_fine (Met (option_map peer_as neighbour)) meant happens
    one_fine (move.Give slot subslot value) meant happens = steps_fine (controller.Give slot subslot value) tt happens
    one_fine (move.OutputStatus slot subslot is_good) meant happens = steps_fine (controller.Status slot subslot is_good) tt happens
    one_fine (move.Read slot subslot index) meant happens = steps_fine (controller.Read slot subslot index) tt happens
    one_fine (move.Write slot subslot index octets) meant happens = steps_fine (controller.Write slot subslot index octets) tt happens
    one_fine move.Stop meant happens = steps_fine controller.Stop tt happens

    pub one_both : (one : Move) → IsMeant before one → Happens as_flash before one after → Both after
    one_both one meant happens = record {
      held = one_held so.calls as_flash before after both.held one meant
          (λ frame refusal sent e. fine_unrefused station.identity.mac (heard_by c.setup.plan.controller frame)
          (all_at (IsFineAt c.setup station.identity) before.sent both.fine.frames sent.number frame sent.is) refusal e) happens;
      fine = one_fine one meant happens;
    }

  -- ---- a run

  abbrev pub ArePlans : World F → List (Move × World F) → Type 0
  ArePlans before [] = Unit {0}
  ArePlans before (one ∷ run) = IsPlans setup before.device.live.rest.link × ArePlans one.1 run

  run_both : {S : ℕ} (as_flash : Flash F S) (before : World F) (run : List (Move × World F)) → AreMade as_flash before run → AreMeant before run
      → ArePlans before run → Both before
      → Both (last_world before run)
  run_both as_flash before [] made meant plans both = both
  run_both as_flash before (one ∷ run) made meant plans both =
      run_both as_flash one.1 run made.1 meant.1 plans.1 (one_both as_flash before one.1 both plans.0 one.0 meant.0 made.0)

  -- the moves so far, and one more
  last_more : (first : World F) (front : List (Move × World F)) (one : Move × World F) → last_world first (front ++ one ∷ []) ≡ one.1
  last_more first [] one = refl
  last_more first (two ∷ front) one = last_more two.1 front one

  made_more : {S : ℕ} (as_flash : Flash F S) (first : World F) (front : List (Move × World F)) (one : Move × World F) → AreMade as_flash first front
      → Happens as_flash (last_world first front) one.0 one.1 → AreMade as_flash first (front ++ one ∷ [])
  made_more as_flash first [] one made happens = (happens, tt)
  made_more as_flash first (two ∷ front) one made happens = (made.0, made_more as_flash two.1 front one made.1 happens)

  module _ {S : ℕ} (as_flash : Flash F S) (first : World F)
      (relation : (run : List (Move × World F)) → AreMade as_flash first run → (link : RelationState)
      → (last_world first run).device.live.rest.link ≡ Some link → link.request ≡ request_for setup.plan setup.ar) where
    pub plans_from : (front run : List (Move × World F)) (before : World F) → last_world first front ≡ before → AreMade as_flash first front
        → AreMade as_flash before run → ArePlans before run
    plans_from front [] before is made more = tt
    plans_from front (one ∷ run) before is made more = (
      λ link there. relation front made link (ap (λ (w : World F). w.device.live.rest.link) is ∙ there),
      plans_from (front ++ one ∷ []) run one.1 (last_more first front one)
          (made_more as_flash first front one made (subst (λ (w : World F). Happens as_flash w one.0 one.1) (sym is) more.0)) more.1,
    )

    module _ (identity : Identity) (good : IsSetup setup) (real : IsDevice identity) (begins : Begins setup identity first) where
      good_here : IsSetup first.controller.setup
      good_here = subst (λ (s : Setup). IsSetup s) (sym begins.of_setup) good

      real_here : IsDevice first.device.station.identity
      real_here = subst (λ (i : Identity). IsDevice i) (sym begins.of_device) real

      live_here : first.controller.live ≡ first_live first.controller.setup.plan
      live_here = begins.made ∙ ap (λ (s : Setup). first_live s.plan) (sym begins.of_setup)

      aimed_here : IsAimed first.controller.live
      aimed_here = subst (λ (l : ControllerLive). IsAimed l) (sym live_here) (so.aimed_first first.controller.setup good_here)

      unkept_here : kept_for first.controller.setup first.device.live ≡ None
      unkept_here = ap (λ (answer : Option Answer). option_map kept_in answer)
          (ap (λ (s : Setup). kept_of s.activity first.device.live.rest.calls) begins.of_setup ∙ begins.uncalled)

      pub first_both : Both first
      first_both = record {
        held = first_held so.calls setup identity first good begins;
        fine = record {
          of_setup = begins.of_setup;
          good = good_here;
          real = real_here;
          frames = subst (λ (fs : List (List ℕ)). AllByRecursion (IsFineAt first.controller.setup first.device.station.identity) fs)
              (sym (begins.opened ∙ ap (λ (frame : List ℕ). frame ∷ []) (opening_is first.controller))) (
                said_fine so.heard first.controller.setup first.device.station.identity good_here real_here
                    (Requests first.controller.live.device asks.Identify) (aimed_here.device, tt),
                tt,
              );
          again = λ answer e. absurd (none_some answer (sym unkept_here ∙ e));
          aimed = aimed_here;
        };
      }

      pub last_both : (run : List (Move × World F)) → AreMade as_flash first run → AreMeant first run → Both (last_world first run)
      last_both run made meant = run_both as_flash first run made meant (plans_from [] run first refl tt made) first_both
