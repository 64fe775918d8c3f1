-- Over any run of worlds, a call that is new for the device is the last one of its controller, or ends parameters or the relation.
use Rattle.std.proofs.Common.{◌≡◌, ◌⊎◌, inl, inr, ◌<◌, ◌++◌, ◌==◌, ℕ, Bool, true, false, List, [], ◌∷◌, map, Option, Some, None, option_map, refl}
use Rattle.std.proofs.Common.{sym, ap, subst, ◌∙◌, arith}
use Rattle.std.specs.Cmp.Lexicographic.{pointwise}
use Rattle.std.specs.Prelude.{is_some, nat_eq, nat_lt, slice_get, unwrap_or, if◌then◌else◌}
use Rattle.std.specs.List.{AllByRecursion}
use Rattle.std.proofs.lemmas.Bool.{eq-eqb, lt-ltb}
use Rattle.lldp.specs.Views.{peer_as}
use Rattle.flash_model.specs.declared.flash.Flash.{Ghosts as Flash}
use Rattle.pn_values.specs.declared.identity.Identity.{Identity}
use Rattle.pn_values.specs.declared.mac.Mac.{Mac}
use Rattle.frame_codec.specs.Sendable.{IsMac}
use Rattle.rpc_core.specs.Cache.{Kept as Answer, again, kept_of, looked, new, old, reported_by}
use Rattle.records.specs.declared.status.operation.Operation.{Operation}
use Rattle.records.specs.declared.status.operation.Operation.TheVariants as operation
use Rattle.records.specs.status.Operation.{operation_of}
use Rattle.connects.specs.requests.Request.{Request}
use Rattle.records.specs.declared.writes.taken.TakenRecord.{TakenRecord}
use Rattle.relations.specs.RelationState.{RelationState}
use Rattle.device_frames.specs.declared.event.Event.TheVariants.{Frame}
use Rattle.device_frames.specs.Heard.{Applied, Heard, Met, Reported, Ticks, heard_of}
use Rattle.device_core.specs.State.{Live, Station}
use Rattle.device_core.specs.Machine.{heard_step}
use Rattle.controller_messages.specs.declared.plug_request.PlugRequest.{PlugRequest}
use Rattle.controller_messages.specs.declared.record_request.RecordRequest.{RecordRequest}
use Rattle.controller_messages.specs.declared.request.Request.{Request as Asking}
use Rattle.controller_messages.specs.declared.request.Request.TheVariants as asks
use Rattle.controller_messages.specs.declared.setup.Setup.{Setup}
use Rattle.rpc_core.specs.Response.{Answered as Response}
use Rattle.controller_messages.specs.Heard.{Heard as ControllerHeard}
use Rattle.controller_messages.specs.Heard.{Refuses, Responds, heard_of as heard_by}
use Rattle.controller_messages.specs.Sent.{Sent, Requests, bytes_of, identify_multicast}
use Rattle.controller_core.specs.declared.stored.event.Event.{Event}
use Rattle.controller_core.specs.declared.stored.event.Event.TheVariants as controller
use Rattle.controller_core.specs.stored.State.{Controlling, Live as ControllerLive, with_live}
use Rattle.controller_core.specs.Machine.{accesses_by, accesses_of, first as first_live, opening_of, pending_by, pending_of, plugs_by, step_of, turn_of}
use Rattle.network_world.specs.declared.moves.End.TheVariants.{Device, Controller}
use Rattle.network_world.specs.declared.moves.Move.{Move}
use Rattle.network_world.specs.declared.moves.Move.TheVariants as move
use Rattle.network_world.specs.World.{at_controller, AtDevice, Comes, Delivers, Happens, is_ended, is_skipped, World}
use Rattle.end_laws.specs.hearing.Hearing.{IsUncalled, IsUnreported}
use Rattle.end_laws.specs.hearing.Stations.{IsSetup}
use Rattle.end_laws.specs.both.Small as small
use Rattle.end_laws.specs.both.Small.{Ask, Reply, Rules, ToController, ToDevice, reply_of}
use Rattle.end_laws.specs.both.Steps.{IsNew}
use Rattle.end_laws.specs.controller.Small.{IsSteady, said_in, said_to}
use Rattle.end_laws.specs.device.Orderly.{IsOrderlyIn}
use Rattle.end_laws.specs.device.Small.{IsAskedOwn, IsPlanned, IsPlannedAs, IsPlannedCall, heard_as, kept_in, written_by}
use Rattle.end_laws.specs.device.Small as device
use Rattle.both_ends.specs.startup.View.{IsMeant, IsMeantAtController, IsMeantAtDevice, IsSaidAs, is_planned, rules_of}
use Rattle.both_ends.specs.startup.Played.{Begins}
use Rattle.plug_ends.specs.Calls.{IsUnrefused as IsUnrefusedAt}
use Rattle.plug_ends.specs.Calls.{EndsParameters, EndsRelation, HasAnswered, IsNewCall, IsPresent, WasSent}
use Rattle.plug_ends.proofs.CallsTurns.{IsUnrefused, false_true, none_some, present_by, present_of, some_same}
use Rattle.plug_ends.proofs.CallsFrames.{Covers, IsFrame, device_holds}
use Rattle.plug_ends.proofs.CallsRuns.{CallsSo, Held, IsTied, all_at, controller_held, controller_is, kept_for}

same_octets : (xs : List ℕ) → pointwise nat_eq xs xs ≡ true
same_octets [] = refl
same_octets (x ∷ xs) = rw (eq-eqb x x refl) (same_octets xs)

-- ---- the opening frame

multicast_six : IsMac identify_multicast
unfolding identify_multicast
multicast_six = refl

unreported_idle : (planned : device.Planned) (heard : Heard) → IsUnreported heard → heard_as planned heard ≡ small.Idle
unreported_idle planned (Reported caller address said) un = absurd un
unreported_idle planned heard un = refl

uncalled_nothing : (setup : Setup) (heard : Rattle.controller_messages.specs.Heard.Heard) → IsUncalled heard → said_to setup heard ≡ small.Nothing
uncalled_nothing setup (Rattle.controller_messages.specs.Heard.Responds response) un = absurd un
uncalled_nothing setup (Rattle.controller_messages.specs.Heard.Refuses refusal) un = absurd un
uncalled_nothing setup (Rattle.controller_messages.specs.Heard.Calls caller call) un = absurd un
uncalled_nothing setup heard un = refl

pub opening_said : (so : CallsSo) (setup : Setup) (station : Station) (to : Mac) → IsSetup setup → IsSaidAs setup station (Requests to asks.Identify)
opening_said so setup station to good = (
  uncalled_nothing setup _ (so.uncalled setup.plan.controller identify_multicast setup.plan.controller.mac None _ _ multicast_six good.mac tt),
  inl (unreported_idle (is_planned setup) _ (so.unreported station.identity identify_multicast setup.plan.controller.mac None _ _ multicast_six good.mac tt)),
)

pub opening_is : (c : Controlling) → opening_of c ≡ bytes_of c.setup (Requests c.live.device asks.Identify)
unfolding opening_of
opening_is c = refl

-- ---- calls

-- a call that the cache does not have is later than the last response
pub new_kept : (activity : List ℕ) (sequence : ℕ) (calls : List Answer) → looked activity sequence calls ≡ new
    → IsNew sequence (option_map kept_in (kept_of activity calls))
new_kept activity sequence calls e = by_kept (kept_of activity calls) e
  where
    old_new : old ≡ new → ⊥
    old_new f = absurd cc

    again_new : (frame : List ℕ) → again frame ≡ new → ⊥
    again_new frame f = absurd cc

    by_tests : (answer : Answer) (same less : Bool) → sequence == answer.sequence ≡ same → nat_lt sequence answer.sequence ≡ less
        → (if same then again answer.frame else (if less then old else new)) ≡ new → answer.sequence < sequence
    by_tests answer true less f g is = absurd (again_new answer.frame is)
    by_tests answer false true f g is = absurd (old_new is)
    by_tests answer false false f g is = later (λ e. false_true (sym f ∙ eq-eqb sequence answer.sequence e))
        (λ lt. false_true (sym g ∙ lt-ltb sequence answer.sequence lt))
      where
        later : (sequence ≡ answer.sequence → ⊥) → (sequence < answer.sequence → ⊥) → answer.sequence < sequence
        later apart not_less = omega arith

    by_kept : (kept : Option Answer) → reported_by sequence kept ≡ new → IsNew sequence (option_map kept_in kept)
    by_kept None is = tt
    by_kept (Some answer) is = by_tests answer (sequence == answer.sequence) (nat_lt sequence answer.sequence) refl refl is

-- what a call asks, as the small machine has it, by its operation
record Asks (which : Option Operation) (says : ToDevice) (sequence : ℕ) : Type 0 where
  ask : Ask
  is : says ≡ small.Call sequence ask
  ends_parameters : ask ≡ small.Parameterized → which ≡ Some operation.Control
  ends_relation : ask ≡ small.Releases → which ≡ Some operation.Release

asks_by : (rules : Rules TakenRecord Request) (named : _) (real : _) (sequence : ℕ) (blocks : List ℕ) (which : Option Operation)
    → IsPlannedAs rules named real sequence blocks which
    → (planned : device.Planned) → Asks which (device.asked_by planned sequence blocks which) sequence
asks_by rules named real sequence blocks (Some operation.Connect) plan planned = record
    { ask = small.Connects; is = refl; ends_parameters = λ e. absurd cc; ends_relation = λ e. absurd cc }
asks_by rules named real sequence blocks (Some operation.Write) plan planned = by_test (planned sequence blocks) (device.number_in blocks)
  where
    by_test : (b : Bool) (write : ℕ) → Asks (Some operation.Write) (written_by b sequence write) sequence
    by_test true write = record { ask = small.Writes _; is = refl; ends_parameters = λ e. absurd cc; ends_relation = λ e. absurd cc }
    by_test false write = record { ask = small.Accesses; is = refl; ends_parameters = λ e. absurd cc; ends_relation = λ e. absurd cc }
asks_by rules named real sequence blocks (Some operation.Control) plan planned = record
    { ask = small.Parameterized; is = refl; ends_parameters = λ e. refl; ends_relation = λ e. absurd cc }
asks_by rules named real sequence blocks (Some operation.Release) plan planned = record
    { ask = small.Releases; is = refl; ends_parameters = λ e. absurd cc; ends_relation = λ e. refl }
asks_by rules named real sequence blocks (Some operation.Read) plan planned = record
    { ask = small.Accesses; is = refl; ends_parameters = λ e. absurd cc; ends_relation = λ e. absurd cc }
asks_by rules named real sequence blocks (Some operation.ReadImplicit) plan planned = absurd plan
asks_by rules named real sequence blocks None plan planned = absurd plan

module _ (so : CallsSo) {F : Type 0} where
  abbrev pub HeldAt : World F → Type 0
  HeldAt w = Held w.controller w.device.station w.device.live w.sent

  -- ---- a step of the device

  module _ {S : ℕ} (as_flash : Flash F S) (before after : World F) (held : HeldAt before) where
    same_held : after ≡ before → HeldAt after
    same_held same = subst (λ (w : World F). HeldAt w) (sym same) held

    device_held : (heard : Heard) → IsMeantAtDevice before heard → AtDevice as_flash before heard after → HeldAt after
    device_held heard meant made =
        let c = before.controller in
        let station = before.device.station in
        let live = before.device.live in
        let hears = made.hears in
        let rules = rules_of c.setup station in
        let step = heard_step hears.steps.outcomes station live heard in
        let steps = so.device_on rules c.setup.activity hears.steps.outcomes station live heard held.orderly held.own meant.planned
        (meant.sent hears.steps.outcomes hears.steps.sendable) in
        let now : Held c station step.live (before.sent ++ step.frames) = record {
          last = held.last;
          holds = device_holds rules held.last (is_ended c.live.phase) (device.small_of c.setup.activity live)
              (device.small_of c.setup.activity step.live) before.sent step.frames held.holds
              (heard_as (is_planned c.setup) heard) steps;
          tie = held.tie;
          steady = held.steady;
          alone = held.alone;
          reached = held.reached;
          orderly = so.orderly rules c.setup.activity hears.steps.outcomes station live heard meant.planned held.orderly;
          own = so.own rules c.setup.activity hears.steps.outcomes station live heard meant.planned held.own;
        } in
        subst (λ (old_one : Controlling). Held old_one after.device.station after.device.live after.sent) (sym made.controller)
        (subst (λ (s : Station). Held c s after.device.live after.sent) (sym hears.steps.same)
        (subst (λ (l : Live). Held c station l after.sent) (sym hears.steps.live)
        (subst (λ (fs : List (List ℕ)). Held c station step.live fs) (sym (hears.behind ∙ ap (λ (fs : List (List ℕ)). before.sent ++ fs) hears.steps.frames))
        now)))

    -- ---- a step of the controller

    steps_held : (one : Event) → IsMeantAtController before one
        → ((number : ℕ) (reply : Reply) → said_in before.controller.setup
        (heard_by before.controller.setup.plan.controller) one ≡ small.Answers number reply
        → Covers number (kept_for before.controller.setup before.device.live))
        → IsUnrefused before.controller.setup one → after ≡ at_controller before one → HeldAt after
    steps_held one meant answers unrefused happens =
        let c = before.controller in
        let turn = turn_of c.setup c.live one in
        let station = before.device.station in
        let live = before.device.live in
        let now : Held (with_live c turn.live) station live (before.sent ++ map (bytes_of c.setup) turn.sent) =
        controller_held so c station live before.sent held one meant answers unrefused in
        subst (λ (w : World F). HeldAt w) (sym happens)
        (subst (λ (next : Controlling). Held next station live (before.sent ++ (step_of c one).frames)) (sym (controller_is c one))
        (subst (λ (fs : List (List ℕ)). Held (with_live c turn.live) station live (before.sent ++ fs)) (sym (so.frames_are c one)) now))

    nothing_said : (number : ℕ) (reply : Reply) → small.Nothing ≡ small.Answers number reply
        → Covers number (kept_for before.controller.setup before.device.live)
    nothing_said number reply e = absurd (no_answer e)
      where
        no_answer : small.Nothing ≡ small.Answers number reply → ⊥
        no_answer f = absurd cc

    -- ---- a move

    come_held : (octets : List ℕ) (skipped : Bool) → IsMeantAtDevice before (heard_of before.device.station.identity (Frame (record { items = octets })))
        → Comes as_flash skipped before Device octets after → HeldAt after
    come_held octets true meant happens = same_held happens
    come_held octets false meant happens = device_held _ meant happens

    delivered_held : (octets : Option (List ℕ))
        → ((frame : List ℕ) → octets ≡ Some frame → IsMeantAtDevice before (heard_of before.device.station.identity (Frame (record { items = frame }))))
        → Delivers as_flash octets before Device after → HeldAt after
    delivered_held None meant happens = same_held happens
    delivered_held (Some octets) meant happens = come_held octets (is_skipped before.device before.controller Device octets) (meant octets refl) happens

    answer_held : (octets : List ℕ) (skipped : Bool) → IsMeantAtController before (controller.Frame (record { items = octets }))
        → IsFrame (rules_of before.controller.setup before.device.station) (kept_for before.controller.setup before.device.live) held.last
        (is_ended before.controller.live.phase) octets
        → IsUnrefused before.controller.setup (controller.Frame (record { items = octets })) → Comes as_flash skipped before Controller octets after
        → HeldAt after
    answer_held octets true meant is unrefused happens = same_held happens
    answer_held octets false meant is unrefused happens = steps_held (controller.Frame (record { items = octets })) meant is.answers unrefused happens

    answered_held : (octets : Option (List ℕ))
        → ((frame : List ℕ) → octets ≡ Some frame → IsMeantAtController before (controller.Frame (record { items = frame })))
        → ((frame : List ℕ) → octets ≡ Some frame
        → IsFrame (rules_of before.controller.setup before.device.station) (kept_for before.controller.setup before.device.live) held.last
        (is_ended before.controller.live.phase) frame)
        → ((frame : List ℕ) → octets ≡ Some frame → IsUnrefused before.controller.setup (controller.Frame (record { items = frame })))
        → Delivers as_flash octets before Controller after → HeldAt after
    answered_held None meant is unrefused happens = same_held happens
    answered_held (Some octets) meant is unrefused happens =
        answer_held octets (is_skipped before.device before.controller Controller octets) (meant octets refl) (is octets refl) (unrefused octets refl) happens

    pub one_held : (one : Move) → IsMeant before one → IsUnrefusedAt before → Happens as_flash before one after → HeldAt after
    one_held (move.Deliver Device number) meant unrefused happens = delivered_held (slice_get before.sent number) meant happens
    one_held (move.Deliver Controller number) meant unrefused happens =
        answered_held (slice_get before.sent number) meant
        (λ frame there. all_at _ before.sent held.holds.frames number frame there)
        (λ frame there refusal e. unrefused frame refusal (record { number = number; is = there }) e) happens
    one_held (move.Tick Device) meant unrefused happens = device_held Ticks meant happens
    one_held (move.Tick Controller) meant unrefused happens = steps_held controller.Tick meant nothing_said tt happens
    one_held (move.Application local) meant unrefused happens = device_held (Applied local) meant happens
    one_held (move.Neighbour neighbour) meant unrefused happens = device_held (Met (option_map peer_as neighbour)) meant happens
    one_held (move.Give slot subslot value) meant unrefused happens = steps_held (controller.Give slot subslot value) meant nothing_said tt happens
    one_held (move.OutputStatus slot subslot is_good) meant unrefused happens = steps_held
        (controller.Status slot subslot is_good) meant nothing_said tt happens
    one_held (move.Read slot subslot index) meant unrefused happens = steps_held (controller.Read slot subslot index) meant nothing_said tt happens
    one_held (move.Write slot subslot index octets) meant unrefused happens = steps_held
        (controller.Write slot subslot index octets) meant nothing_said tt happens
    one_held move.Stop meant unrefused happens = steps_held controller.Stop meant nothing_said tt happens

  -- ---- the start

  module _ (setup : Setup) (identity : Identity) (first : World F) (good : IsSetup setup) (begins : Begins setup identity first) where
    abbrev c : Controlling
    c = first.controller

    abbrev station : Station
    station = first.device.station

    good_here : IsSetup c.setup
    good_here = subst (λ (s : Setup). IsSetup s) (sym begins.of_setup) good

    -- it is the controller that was just made from its own set-up
    live_is : c.live ≡ first_live c.setup.plan
    live_is = begins.made ∙ ap (λ (s : Setup). first_live s.plan) (sym begins.of_setup)

    present_is : present_of c.live ≡ Some (Requests c.live.device asks.Identify)
    present_is = subst (λ (l : ControllerLive). present_of l ≡ Some (Requests l.device asks.Identify)) (sym live_is) refl

    abbrev opening_frame : List ℕ
    opening_frame = bytes_of c.setup (Requests c.live.device asks.Identify)

    sent_is : first.sent ≡ opening_frame ∷ []
    sent_is = begins.opened ∙ ap (λ (frame : List ℕ). frame ∷ []) (opening_is c)

    unkept : kept_for c.setup first.device.live ≡ None
    unkept = ap (λ (answer : Option Answer). option_map kept_in answer) (ap (λ (s : Setup). kept_of s.activity first.device.live.rest.calls) begins.of_setup
        ∙ begins.uncalled)

    no_answer : (sequence : ℕ) (reply : Reply) → small.Nothing ≡ small.Answers sequence reply → ⊥
    no_answer sequence reply e = absurd cc

    pub first_held : HeldAt first
    first_held = record {
      last = option_map (bytes_of c.setup) (present_of c.live);
      holds = record {
        frames = subst (λ (fs : List (List ℕ)). AllByRecursion (IsFrame (rules_of c.setup station) (kept_for c.setup first.device.live)
            (option_map (bytes_of c.setup) (present_of c.live)) (is_ended c.live.phase)) fs) (sym sent_is) (
              record {
                calls = λ sequence ask e is_new. inr (inl (ap (λ (m : Option Sent). option_map (bytes_of c.setup) m) present_is));
                answers = λ sequence reply e. absurd (no_answer sequence reply (sym (opening_said so c.setup station c.live.device good_here).0 ∙ e));
              },
              tt,
            );
        again = λ answer e. absurd (none_some answer (sym unkept ∙ e));
      };
      tie = λ e. inr (
        refl,
        λ message waits.
            subst (λ (m : Sent). IsSaidAs c.setup station m) (some_same (Requests c.live.device asks.Identify) message (sym present_is ∙ waits))
            (opening_said so c.setup station c.live.device good_here),
      );
      steady = subst (λ (l : ControllerLive). IsSteady c.setup.plan l) (sym live_is) (so.begins c.setup);
      alone = inl (subst (λ (l : ControllerLive). l.access.plug ≡ None) (sym live_is) refl);
      reached = record {
        plan = c.setup.plan;
        ar = c.setup.ar;
        activity = c.setup.activity;
        options = c.setup.options;
        events = [];
        made = ap (λ (l : ControllerLive). with_live c l) live_is;
      };
      orderly = subst (λ (l : Option RelationState). IsOrderlyIn l) (sym begins.unrelated) tt;
      own = λ question e. absurd (none_some question (sym begins.unasked ∙ e));
    }

  -- ---- what is new at the end of a run

  module _ (w : World F) (held : HeldAt w) (meant : (number : ℕ) → IsMeant w (move.Deliver Device number)) where
    -- the last call of the controller, or one that ends parameters, or one that ends the relation of a controller that has ended
    new_is : (frame : List ℕ) → WasSent w frame → (call : IsNewCall w frame)
        → EndsParameters call.call ⊎ ((held.last ≡ Some frame) ⊎ (EndsRelation call.call × (is_ended w.controller.live.phase ≡ true)))
    new_is frame sent call =
        let setup = w.controller.setup in
        let rules = rules_of setup w.device.station in
        let plan : IsPlannedCall rules setup.activity w.device.station.named w.device.live.rest.real call.call =
        subst (λ (h : Heard). IsPlanned rules setup.activity w.device.station.named w.device.live.rest.real h) call.is
        (meant sent.number frame sent.is).planned in
        let asked = asks_by rules w.device.station.named w.device.live.rest.real call.call.header.sequence plan.blocks
        (operation_of call.call.header.operation) plan.asks (is_planned setup) in
        let heard : rules.to_device frame ≡ small.Call call.call.header.sequence asked.ask =
        ap (heard_as (is_planned setup)) call.is
        ∙ (ap (λ (blocks : Option (List ℕ)). device.asked_by (is_planned setup) call.call.header.sequence (unwrap_or blocks [])
        (operation_of call.call.header.operation)) plan.counted ∙ asked.is) in
        let fresh : IsNew call.call.header.sequence (kept_for setup w.device.live) =
        subst (λ (activity : List ℕ). IsNew call.call.header.sequence (option_map kept_in (kept_of activity w.device.live.rest.calls))) plan.own
        (new_kept call.call.header.activity call.call.header.sequence w.device.live.rest.calls call.new_call) in
        by_calls asked.ask asked.ends_parameters asked.ends_relation ((all_at _ w.sent held.holds.frames sent.number frame sent.is).calls
        call.call.header.sequence asked.ask heard fresh)
      where
        by_calls : (ask : Ask) → (ask ≡ small.Parameterized → EndsParameters call.call) → (ask ≡ small.Releases → EndsRelation call.call)
            → (ask ≡ small.Parameterized) ⊎ ((held.last ≡ Some frame) ⊎ ((ask ≡ small.Releases) × (is_ended w.controller.live.phase ≡ true)))
            → EndsParameters call.call ⊎ ((held.last ≡ Some frame) ⊎ (EndsRelation call.call × (is_ended w.controller.live.phase ≡ true)))
        by_calls ask parameters relation (inl e) = inl (parameters e)
        by_calls ask parameters relation (inr (inl e)) = inr (inl e)
        by_calls ask parameters relation (inr (inr e)) = inr (inr (relation e.0, e.1))

    -- the call that waits is what is pending
    pending_is : (l : ControllerLive) (message : Sent) → present_of l ≡ Some message → pending_of l ≡ message ∷ []
    pending_is l message = by_asked l.asked
      where
        one : (m : Sent) → Some m ≡ Some message → m ∷ [] ≡ message ∷ []
        one m e = ap (λ (x : Sent). x ∷ []) (some_same m message e)

        by_waiting : (waiting : Option RecordRequest) → present_by l.device None None l.access.octets waiting ≡ Some message
            → accesses_by l.device l.access.octets waiting ≡ message ∷ []
        by_waiting None e = absurd (none_some message e)
        by_waiting (Some request) e = one _ e

        by_plug : (plug : Option PlugRequest) → present_by l.device None plug l.access.octets l.access.waiting ≡ Some message
            → (if is_some plug then plugs_by l.device plug else accesses_of l) ≡ message ∷ []
        by_plug None e = by_waiting l.access.waiting e
        by_plug (Some request) e = one _ e

        by_asked : (asked : Option Asking) → present_by l.device asked l.access.plug l.access.octets l.access.waiting ≡ Some message
            → pending_by l asked ≡ message ∷ []
        by_asked (Some request) e = one _ e
        by_asked None e = by_plug_here l.access.plug refl e
          where
            by_plug_here : (plug : Option PlugRequest) → l.access.plug ≡ plug → present_by l.device None plug l.access.octets l.access.waiting ≡ Some message
                → pending_by l None ≡ message ∷ []
            by_plug_here plug f e =
                ap (λ (p : Option PlugRequest). if is_some p then plugs_by l.device p else accesses_of l) f ∙ by_plug plug e

    not_both : (b : Bool) → b ≡ true → b ≡ false → ⊥
    not_both b e f = false_true (sym f ∙ e)

    pub present_so : is_ended w.controller.live.phase ≡ false → (frame : List ℕ) → WasSent w frame → (call : IsNewCall w frame)
        → EndsParameters call.call ⊎ IsPresent w frame
    present_so going frame sent call = by_new (new_is frame sent call)
      where
        by_present : (message : Option Sent) → present_of w.controller.live ≡ message → option_map (bytes_of w.controller.setup) message ≡ Some frame
            → IsPresent w frame
        by_present None e f = absurd (none_some frame f)
        by_present (Some message) e f =
            ap (λ (those : List Sent). map (bytes_of w.controller.setup) those) (pending_is w.controller.live message e)
            ∙ ap (λ (x : List ℕ). x ∷ []) (some_same _ _ f)

        by_new : EndsParameters call.call ⊎ ((held.last ≡ Some frame) ⊎ (EndsRelation call.call × (is_ended w.controller.live.phase ≡ true)))
            → EndsParameters call.call ⊎ IsPresent w frame
        by_new (inl parameters) = inl parameters
        by_new (inr (inl is_last)) = inr (by_tie (held.tie going))
          where
            by_tie : IsTied w.controller w.device.station held.last → IsPresent w frame
            by_tie (inl none) = absurd (none_some frame (sym none ∙ is_last))
            by_tie (inr tied) = by_present (present_of w.controller.live) refl (sym tied.0 ∙ is_last)
        by_new (inr (inr ended)) = absurd (not_both _ ended.1 going)

    pub one_so : (one other : List ℕ) → WasSent w one → WasSent w other → (first_call : IsNewCall w one) (second_call : IsNewCall w other)
        → (EndsParameters first_call.call → ⊥) → (EndsRelation first_call.call → ⊥) → (EndsParameters second_call.call → ⊥)
        → (EndsRelation second_call.call → ⊥) → one ≡ other
    one_so one other one_sent other_sent first_call second_call no_end no_release no_other_end no_other_release =
        some_same one other (sym (last_of one one_sent first_call no_end no_release) ∙ last_of other other_sent second_call no_other_end no_other_release)
      where
        last_of : (frame : List ℕ) → WasSent w frame → (call : IsNewCall w frame) → (EndsParameters call.call → ⊥) → (EndsRelation call.call → ⊥)
            → held.last ≡ Some frame
        last_of frame sent call no_parameters no_relation = by_new (new_is frame sent call)
          where
            by_new : EndsParameters call.call ⊎ ((held.last ≡ Some frame) ⊎ (EndsRelation call.call × (is_ended w.controller.live.phase ≡ true)))
                → held.last ≡ Some frame
            by_new (inl parameters) = absurd (no_parameters parameters)
            by_new (inr (inl is_last)) = is_last
            by_new (inr (inr ended)) = absurd (no_relation ended.0)

    -- a response in a frame is to a call that the device answered
    pub answered_so : (frame : List ℕ) → WasSent w frame → (response : Response) → heard_by w.controller.setup.plan.controller frame ≡ Responds response
        → response.header.activity ≡ w.controller.setup.activity
        → HasAnswered w.controller.setup.activity response.header.sequence w.device.live.rest.calls
    answered_so frame sent response e own =
        by_kept (kept_of w.controller.setup.activity w.device.live.rest.calls) refl
        ((all_at _ w.sent held.holds.frames sent.number frame sent.is).answers response.header.sequence (reply_of response)
        (ap (λ (heard : ControllerHeard). said_to w.controller.setup heard) e
        ∙ ap (λ (b : Bool). if b then small.Answers response.header.sequence (reply_of response) else small.Nothing)
        (subst (λ (activity : List ℕ). pointwise nat_eq response.header.activity activity ≡ true) own (same_octets response.header.activity))))
      where
        by_kept : (kept : Option Answer) → kept_of w.controller.setup.activity w.device.live.rest.calls ≡ kept
            → Covers response.header.sequence (option_map kept_in kept)
            → HasAnswered w.controller.setup.activity response.header.sequence w.device.live.rest.calls
        by_kept None none covers = absurd covers
        by_kept (Some answer) there covers = record { kept = answer; is = there; later = covers }
