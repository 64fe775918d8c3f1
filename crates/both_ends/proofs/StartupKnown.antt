-- The invariant of a world at each point of a run from its start: each frame that was ever sent is known, and so is
-- each message that is sent next.
use Rattle.std.proofs.Common.{◌≡◌, ◌⊎◌, inl, inr, ℕ, false, List, [], ◌∷◌, ◌++◌, map, Option, Some, None, option_map, Ok, refl, sym, ap, subst, ◌∙◌, append-nil, append_assoc}
use Rattle.std.specs.Prelude.{slice_get}
use Rattle.std.specs.List.{AllByRecursion}
use Rattle.lldp.specs.Views.{peer_as}
use Rattle.flash_model.specs.declared.flash.Flash.{Ghosts as Flash}
use Rattle.settings_journal.specs.settings_store.Machine.{Outcome}
use Rattle.pn_values.specs.declared.identity.Identity.{Identity}
use Rattle.pn_values.specs.declared.real.Real.{Real}
use Rattle.rpc_core.specs.declared.header.CallHeader.{CallHeader}
use Rattle.rpc_core.specs.Cache.{Kept as Answer, kept_of}
use Rattle.asked_records.specs.Asked.{AskedState, question_in}
use Rattle.asked_records.specs.Questions.{is_implicit, operation_of as operation_asked}
use Rattle.asked_records.specs.declared.names.RecordName.{RecordName}
use Rattle.asked_records.specs.declared.question.Question.{Question}
use Rattle.asked_records.specs.declared.question.Request.{Request as Wanted}
use Rattle.asked_records.specs.declared.question.Request.TheVariants as wanted
use Rattle.records.specs.declared.status.operation.Operation.{Operation}
use Rattle.connects.specs.requests.Request.{Request}
use Rattle.connects.specs.requests.Handled.{request_of}
use Rattle.plans.specs.Connect.{connect_of}
use Rattle.records.specs.declared.writes.taken.TakenRecord.{TakenRecord}
use Rattle.relations.specs.RelationState.{RelationState}
use Rattle.both_ends.specs.startup.request.Request.{request_for}
use Rattle.device_frames.specs.declared.event.Event.TheVariants.{Frame}
use Rattle.device_frames.specs.Heard.{Heard, Ticks, Applied, Met, heard_of}
use Rattle.device_frames.specs.Sent.{Sent, Again, bytes_of}
use Rattle.device_core.specs.State.{Station, Live}
use Rattle.device_core.specs.Machine.{heard_step, handled_step}
use Rattle.controller_messages.specs.declared.request.Request.TheVariants as asks
use Rattle.controller_messages.specs.declared.setup.Setup.{Setup}
use Rattle.controller_messages.specs.Sent as said
use Rattle.controller_core.specs.declared.stored.event.Event.{Event}
use Rattle.controller_core.specs.declared.stored.event.Event.TheVariants as controller
use Rattle.controller_core.specs.stored.State.{Controlling, Live as ControllerLive, with_live}
use Rattle.controller_core.specs.Machine.{first as first_live, opening_of, step_of, turn_of}
use Rattle.network_world.specs.declared.moves.End.TheVariants.{Device, Controller}
use Rattle.network_world.specs.declared.moves.Move.{Move}
use Rattle.network_world.specs.declared.moves.Move.TheVariants as move
use Rattle.network_world.specs.World.{AreMade, at_controller, AtDevice, Happens, last_world, World}
use Rattle.end_laws.specs.hearing.Stations.{IsDevice, IsSetup}
use Rattle.end_laws.specs.sending.Addressed.{IsAimed, IsEventFrom}
use Rattle.end_laws.specs.both.Small as small
use Rattle.end_laws.specs.both.Small.{Rules, ToDevice}
use Rattle.end_laws.specs.both.StartUp.{Begins as BeginsSmall, IsRun, last_of}
use Rattle.end_laws.specs.both.Steps.{DeviceSteps, IsDull, Steps}
use Rattle.end_laws.specs.controller.Small.{IsSteady, small_of}
use Rattle.end_laws.specs.device.Orderly.{IsOrderlyIn}
use Rattle.end_laws.specs.device.Owed.{IsAsking, IsOfKept, IsOwed}
use Rattle.end_laws.specs.device.Small.{IsAskedOwn, IsPlanned, IsPlannedAs, IsPlannedCall, heard_as, kept_in, link_of}
use Rattle.end_laws.specs.device.Small as device
use Rattle.both_ends.specs.startup.View.{IsMeant, IsMeantAtController, IsMeantAtDevice, move_of, rules_of, says_to_device, view_of}
use Rattle.both_ends.specs.startup.Played.{AreMeant, ArePlaced, AreUnnamed, Begins, CanMeet, viewed}
use Rattle.both_ends.proofs.StartupEach.{each_at, each_behind, each_of, some_is}
use Rattle.both_ends.proofs.StartupAsked.{none_question}
use Rattle.both_ends.proofs.StartupGiven.{GoesSo, HeardSo}
use Rattle.both_ends.proofs.StartupHeard.{IsKnown, IsKnownAsked, IsKnownCall, IsKnownHeard, IsKnownQuestion, IsMetAs, IsPlans, IsReported, all_heard, all_met, all_said, all_reported, known_activity, opening_reported}
use Rattle.both_ends.proofs.StartupPlanned.{IsGood, count_few, heard_planned, number_is}
use Rattle.both_ends.proofs.StartupRuns.{InStep, controller_is, delivered, happens_steps, last_viewed, rules_at}

-- the premises about both ends
pub record CanStart (setup : Setup) (station : Station) : Type 0 where
  pub setup_is : IsSetup setup
  pub good : IsGood setup
  pub device_is : IsDevice station.identity
  pub unnamed : AreUnnamed station.named setup.plan.records.items
  pub apart : station.identity.mac ≡ setup.plan.controller.mac → ⊥

-- the response that is stored is a frame that is known
abbrev pub IsKnownKept : Setup → Identity → Option small.Kept → Type 0
IsKnownKept setup identity kept = (answer : small.Kept) → kept ≡ Some answer → IsKnown setup identity answer.frame

-- the invariant of both ends
pub record Holds (setup : Setup) (station : Station) (live : ControllerLive) (link : Option RelationState) (asked : AskedState)
    (kept : Option small.Kept) (sent : List (List ℕ)) : Type 0 where
  pub known : AllByRecursion (IsKnown setup station.identity) sent
  pub again : IsKnownKept setup station.identity kept
  pub aimed : IsAimed live
  pub orderly : IsOrderlyIn link
  pub of_known : IsKnownAsked setup asked

abbrev pub HoldsAt : {F : Type 0} → World F → Type 0
HoldsAt w =
    Holds w.controller.setup w.device.station w.controller.live w.device.live.rest.link w.device.live.rest.asked
    (device.small_of w.controller.setup.activity w.device.live).kept w.sent

-- the response that is stored after a step
kept_known : (rules : Rules TakenRecord Request) (P : List ℕ → Type 0) (heard : ToDevice) (before after : small.Device TakenRecord Request) (frames : List (List ℕ)) → DeviceSteps rules heard before after frames
    → ((answer : small.Kept) → before.kept ≡ Some answer → P answer.frame) → AllByRecursion P frames → (answer : small.Kept) → after.kept ≡ Some answer → P answer.frame
kept_known rules P (small.Call sequence ask) before after frames (inl answered) was all answer is =
    let now : AllByRecursion P (answered.frame ∷ answered.others) = subst (λ (fs : List (List ℕ)). AllByRecursion P fs) answered.sent all in
    subst (λ (k : small.Kept). P k.frame) (some_is (record { sequence = sequence; frame = answered.frame }) answer (sym answered.keeps ∙ is)) now.0
kept_known rules P (small.Call sequence ask) before after frames (inr (inl again)) was all answer is =
    was answer (ap (λ (d : small.Device TakenRecord Request). d.kept) (sym again.unchanged) ∙ is)
kept_known rules P (small.Call sequence ask) before after frames (inr (inr (inl rests))) was all answer is =
    was answer (ap (λ (d : small.Device TakenRecord Request). d.kept) (sym rests.0) ∙ is)
kept_known rules P (small.Call sequence ask) before after frames (inr (inr (inr asks))) was all answer is =
    was answer (ap (λ (d : small.Device TakenRecord Request). d.kept) (sym asks.becomes) ∙ is)
kept_known rules P small.Confirms before after frames (inl confirms) was all answer is =
    was answer (ap (λ (d : small.Device TakenRecord Request). d.kept) (sym confirms.becomes) ∙ is)
kept_known rules P small.Confirms before after frames (inr goes) was all answer is = was answer (sym goes.keeps ∙ is)
kept_known rules P small.Idle before after frames (inl goes) was all answer is = was answer (sym goes.keeps ∙ is)
kept_known rules P small.Idle before after frames (inr replies) was all answer is =
    let now : AllByRecursion P (replies.others ++ replies.frame ∷ []) = subst (λ (fs : List (List ℕ)). AllByRecursion P fs) replies.sent all in
    subst (λ (k : small.Kept). P k.frame) (some_is (record { sequence = replies.sequence; frame = replies.frame }) answer (sym replies.keeps ∙ is))
    (each_of P replies.others replies.frame [] now)

-- what is asked is a call of the activity of the controller
pub known_own : (setup : Setup) (asked : AskedState) → IsKnownAsked setup asked → IsAskedOwn setup.activity asked
known_own setup asked known question is =
    let own = known question is in
    (ap (λ (h : CallHeader). h.activity) own.header ∙ known_activity setup question.caller own.call own.known, own.plain)

-- no call that is planned is a Read Implicit
planned_plain : (rules : Rules TakenRecord Request) (activity : List ℕ) (named : List RecordName) (real : Real) (heard : Heard) (question : Question)
    → IsPlanned rules activity named real heard → IsAsking heard question → is_implicit question.request ≡ false
planned_plain rules activity named real heard question planned asks =
    let plan : IsPlannedCall rules activity named real asks.call = subst (λ (h : Heard). IsPlanned rules activity named real h) asks.is planned in
    by_request asks.call.header.sequence plan.blocks question.request (subst (λ (o : Option Operation). IsPlannedAs rules named real asks.call.header.sequence plan.blocks o) asks.asks plan.asks)
  where
    by_request : (sequence : ℕ) (blocks : List ℕ) (request : Wanted) → IsPlannedAs rules named real sequence blocks (Some (operation_asked request))
        → is_implicit request ≡ false
    by_request sequence blocks (wanted.Read request) plan = refl
    by_request sequence blocks (wanted.ReadImplicit request) plan = absurd plan
    by_request sequence blocks (wanted.Write request) plan = refl

module _ (so : HeardSo) (goes : GoesSo) where
  -- ---- one move

  module _ {F : Type 0} (before : World F) (can : CanStart before.controller.setup before.device.station) (holds : HoldsAt before)
      (in_step : IsSteady before.controller.setup.plan before.controller.live) where
    abbrev setup : Setup
    setup = before.controller.setup

    abbrev station : Station
    station = before.device.station

    abbrev rules : Rules TakenRecord Request
    rules = rules_of setup station

    -- ---- the device

    module _ (plans : IsPlans so setup station can.setup_is can.device_is can.apart before.device.live.rest.link) (heard : Heard) (known : IsKnownHeard setup heard) where
      all_owed : (outcomes : List Outcome) → AllByRecursion (IsOwed heard before.device.live) (heard_step outcomes station before.device.live heard).sent
      all_owed outcomes = goes.owed rules setup.activity outcomes station before.device.live heard (heard_planned so.block_read so.block_long setup station before.device.live.rest.real can.good can.unnamed heard known)

      pub meant_at_device : IsMeantAtDevice before heard
      meant_at_device = record {
        planned = heard_planned so.block_read so.block_long setup station before.device.live.rest.real can.good can.unnamed heard known;
        sent = λ outcomes sendable. all_heard so setup station can.setup_is can.device_is can.apart (heard_step outcomes station before.device.live heard).sent
            (all_met so setup station can.setup_is can.device_is can.apart heard before.device.live (heard_step outcomes station before.device.live heard).sent known holds.of_known plans holds.orderly (all_owed outcomes) sendable);
      }

      asked_own : IsAskedOwn setup.activity before.device.live.rest.asked
      asked_own = known_own setup before.device.live.rest.asked holds.of_known

      -- what is asked after it was asked before, or is the call that is heard
      asked_known : (question : Question) → (question_in before.device.live.rest.asked ≡ Some question) ⊎ IsAsking heard question
          → IsKnownQuestion setup question
      asked_known question (inl was) = holds.of_known question was
      asked_known question (inr asks) = record {
        call = asks.call;
        known = subst (λ (h : Heard). IsKnownHeard setup h) asks.is known;
        header = asks.header;
        plain = planned_plain rules setup.activity station.named before.device.live.rest.real heard question
            (heard_planned so.block_read so.block_long setup station before.device.live.rest.real can.good can.unnamed heard known) asks;
      }

      -- the frame of a repeated response was known
      again_known : (frame : List ℕ) → IsOfKept heard before.device.live frame → IsKnown setup station.identity frame
      again_known frame owed =
          let own : IsKnownCall setup owed.caller owed.call = subst (λ (h : Heard). IsKnownHeard setup h) owed.is known in
          let activity : owed.call.header.activity ≡ setup.activity = known_activity setup owed.caller owed.call own in
          let kept : kept_of setup.activity before.device.live.rest.calls ≡ Some owed.kept =
          ap (λ (a : List ℕ). kept_of a before.device.live.rest.calls) (sym activity) ∙ owed.there in
          subst (λ (f : List ℕ). IsKnown setup station.identity f) owed.same (holds.again (kept_in owed.kept) (ap (λ (k : Option Answer). option_map kept_in k) kept))

      message_known : (message : Sent) → IsOwed heard before.device.live message → IsMetAs so setup station can.setup_is can.device_is can.apart message
          → IsKnown setup station.identity (bytes_of station.identity message)
      message_known (Again frame) owed met = again_known frame owed
      message_known message owed met = met.known

      messages_known : (messages : List Sent) → AllByRecursion (IsOwed heard before.device.live) messages → AllByRecursion (IsMetAs so setup station can.setup_is can.device_is can.apart) messages
          → AllByRecursion (IsKnown setup station.identity) (map (bytes_of station.identity) messages)
      messages_known [] owed met = tt
      messages_known (message ∷ messages) owed met = (message_known message owed.0 met.0, messages_known messages owed.1 met.1)

      step_frames : (outcomes : List Outcome) → AllByRecursion (IsMetAs so setup station can.setup_is can.device_is can.apart) (heard_step outcomes station before.device.live heard).sent
          → AllByRecursion (IsKnown setup station.identity) (heard_step outcomes station before.device.live heard).frames
      unfolding heard_step handled_step
      step_frames outcomes met = messages_known (heard_step outcomes station before.device.live heard).sent (all_owed outcomes) met

      pub holds_behind_device : {S : ℕ} (as_flash : Flash F S) (after : World F) → AtDevice as_flash before heard after → HoldsAt after
      holds_behind_device as_flash after made =
          let hears = made.hears in
          let live = before.device.live in
          let step = heard_step hears.steps.outcomes station live heard in
          let met = all_met so setup station can.setup_is can.device_is can.apart heard live step.sent known holds.of_known plans holds.orderly (all_owed hears.steps.outcomes) hears.steps.sendable in
          let frames : AllByRecursion (IsKnown setup station.identity) step.frames = step_frames hears.steps.outcomes met in
          let steps = goes.device_on rules setup.activity hears.steps.outcomes station live heard holds.orderly asked_own meant_at_device.planned (meant_at_device.sent hears.steps.outcomes hears.steps.sendable) in
          let kept = kept_known rules (IsKnown setup station.identity) (heard_as rules.is_planned heard) (device.small_of setup.activity live) (device.small_of setup.activity step.live) step.frames steps holds.again frames in
          let all : Holds setup station before.controller.live step.live.rest.link step.live.rest.asked (device.small_of setup.activity step.live).kept (before.sent ++ step.frames) = record {
            known = each_behind (IsKnown setup station.identity) before.sent step.frames holds.known frames;
            again = kept;
            aimed = holds.aimed;
            orderly = goes.orderly rules setup.activity hears.steps.outcomes station live heard meant_at_device.planned holds.orderly;
            of_known = λ question is. asked_known question
                (goes.asked rules setup.activity hears.steps.outcomes station live heard meant_at_device.planned question is);
          } in
          subst (λ (c : Controlling). Holds c.setup after.device.station c.live after.device.live.rest.link after.device.live.rest.asked (device.small_of c.setup.activity after.device.live).kept after.sent) (sym made.controller)
          (subst (λ (s : Station). Holds setup s before.controller.live after.device.live.rest.link after.device.live.rest.asked
          (device.small_of setup.activity after.device.live).kept after.sent) (sym hears.steps.same)
          (subst (λ (l : Live). Holds setup station before.controller.live l.rest.link l.rest.asked (device.small_of setup.activity l).kept after.sent) (sym hears.steps.live)
          (subst (λ (fs : List (List ℕ)). Holds setup station before.controller.live step.live.rest.link step.live.rest.asked (device.small_of setup.activity step.live).kept fs)
          (sym (hears.behind ∙ ap (λ (fs : List (List ℕ)). before.sent ++ fs) hears.steps.frames)) all)))

    -- ---- the controller

    module _ (event : Event) (from : IsEventFrom station.identity.mac setup event) where
      reported : AllByRecursion (λ message. IsReported so setup station can.setup_is can.device_is can.apart (said.bytes_of setup message) (says_to_device setup message))
          (turn_of setup before.controller.live event).sent
      reported =
          let turn = turn_of setup before.controller.live event in
          all_reported so setup station can.setup_is can.device_is can.apart
          (λ number listed. number_is so.block_read so.block_long setup station before.device.live.rest.real can.good can.unnamed number listed) (small_of setup.plan turn.live) turn.sent
          (goes.aimed station.identity.mac setup before.controller.live event can.setup_is holds.aimed from).1
          (goes.controller_on setup before.controller.live event in_step).says

      pub meant_at_controller : IsMeantAtController before event
      meant_at_controller = all_said so setup station can.setup_is can.device_is can.apart (turn_of setup before.controller.live event).sent reported

      reported_known : (messages : List said.Sent)
          → AllByRecursion (λ message. IsReported so setup station can.setup_is can.device_is can.apart (said.bytes_of setup message) (says_to_device setup message)) messages
          → AllByRecursion (IsKnown setup station.identity) (map (said.bytes_of setup) messages)
      reported_known [] all = tt
      reported_known (message ∷ messages) all = (all.0.known, reported_known messages all.1)

      pub holds_behind_controller : (after : World F) → after ≡ at_controller before event → HoldsAt after
      holds_behind_controller after is =
          let turn = turn_of setup before.controller.live event in
          let now : World F = record { device = before.device; controller = with_live before.controller turn.live; sent = before.sent ++ map (said.bytes_of setup) turn.sent } in
          let there : after ≡ now =
          is ∙ (ap (λ (c : Controlling). record { device = before.device; controller = c; sent = before.sent ++ (step_of before.controller event).frames }) (controller_is before.controller event)
          ∙ ap (λ (frames : List (List ℕ)). record { device = before.device; controller = with_live before.controller turn.live; sent = before.sent ++ frames }) (goes.frames_are before.controller event)) in
          let all : HoldsAt now = record {
            known = each_behind (IsKnown setup station.identity) before.sent (map (said.bytes_of setup) turn.sent) holds.known (reported_known turn.sent reported);
            again = holds.again;
            orderly = holds.orderly;
            of_known = holds.of_known;
            aimed = (goes.aimed station.identity.mac setup before.controller.live event can.setup_is holds.aimed from).0;
          } in
          subst (λ (w : World F). HoldsAt w) (sym there) all

    -- ---- any move

    module _ (plans : IsPlans so setup station can.setup_is can.device_is can.apart before.device.live.rest.link) where
      known_at : (number : ℕ) (octets : List ℕ) → slice_get before.sent number ≡ Some octets → IsKnown setup station.identity octets
      known_at number octets there = each_at (IsKnown setup station.identity) before.sent number octets holds.known there

      pub all_meant : (one : Move) → IsMeant before one
      all_meant (move.Deliver Device number) = λ octets there. meant_at_device plans (heard_of station.identity (Frame (record { items = octets }))) (known_at number octets there).at_device
      all_meant (move.Deliver Controller number) = λ octets there. meant_at_controller (controller.Frame (record { items = octets })) (known_at number octets there).at_controller
      all_meant (move.Tick Device) = meant_at_device plans Ticks tt
      all_meant (move.Tick Controller) = meant_at_controller controller.Tick tt
      all_meant (move.Application local) = meant_at_device plans (Applied local) tt
      all_meant (move.Neighbour neighbour) = meant_at_device plans (Met (option_map peer_as neighbour)) tt
      all_meant (move.Give slot subslot value) = meant_at_controller (controller.Give slot subslot value) tt
      all_meant (move.OutputStatus slot subslot is_good) = meant_at_controller (controller.Status slot subslot is_good) tt
      all_meant (move.Read slot subslot index) = meant_at_controller (controller.Read slot subslot index) tt
      all_meant (move.Write slot subslot index octets) = meant_at_controller (controller.Write slot subslot index octets) tt
      all_meant move.Stop = meant_at_controller controller.Stop tt

      module _ {S : ℕ} (as_flash : Flash F S) (after : World F) where
        same_holds : after ≡ before → HoldsAt after
        same_holds same = subst (λ (w : World F). HoldsAt w) (sym same) holds

        pub holds_behind : (one : Move) → Happens as_flash before one after → HoldsAt after
        holds_behind (move.Deliver Device number) happens =
            delivered as_flash before after Device _ (slice_get before.sent number) happens same_holds
            (λ frame there comes. holds_behind_device plans (heard_of station.identity (Frame (record { items = frame }))) (known_at number frame there).at_device as_flash after comes)
        holds_behind (move.Deliver Controller number) happens =
            delivered as_flash before after Controller _ (slice_get before.sent number) happens same_holds
            (λ frame there comes. holds_behind_controller (controller.Frame (record { items = frame })) (known_at number frame there).at_controller after comes)
        holds_behind (move.Tick Device) happens = holds_behind_device plans Ticks tt as_flash after happens
        holds_behind (move.Tick Controller) happens = holds_behind_controller controller.Tick tt after happens
        holds_behind (move.Application local) happens = holds_behind_device plans (Applied local) tt as_flash after happens
        holds_behind (move.Neighbour neighbour) happens = holds_behind_device plans (Met (option_map peer_as neighbour)) tt as_flash after happens
        holds_behind (move.Give slot subslot value) happens = holds_behind_controller (controller.Give slot subslot value) tt after happens
        holds_behind (move.OutputStatus slot subslot is_good) happens = holds_behind_controller (controller.Status slot subslot is_good) tt after happens
        holds_behind (move.Read slot subslot index) happens = holds_behind_controller (controller.Read slot subslot index) tt after happens
        holds_behind (move.Write slot subslot index octets) happens = holds_behind_controller (controller.Write slot subslot index octets) tt after happens
        holds_behind move.Stop happens = holds_behind_controller controller.Stop tt after happens

  -- ---- any list of moves

  steps_more : (own : Rules TakenRecord Request) (from : small.World TakenRecord Request) (run : List (small.Move × small.World TakenRecord Request)) (one : small.Move) (to : small.World TakenRecord Request)
      → IsRun own from run → Steps own (last_of from run) one to → IsRun own from (run ++ (one, to) ∷ [])
  steps_more own from [] one to steps last = (last, tt)
  steps_more own from (first ∷ run) one to steps last = (steps.0, steps_more own first.1 run one to steps.1 last)

  module _ {F : Type 0} {S : ℕ} (as_flash : Flash F S) (first : World F) (rules : Rules TakenRecord Request) (begins : BeginsSmall rules (view_of first)) where
    viewed_more : (run others : List (Move × World F)) → viewed (run ++ others) ≡ viewed run ++ viewed others
    viewed_more [] others = refl
    viewed_more (one ∷ run) others = ap (λ (xs : List (small.Move × small.World TakenRecord Request)). (move_of one.0, view_of one.1) ∷ xs) (viewed_more run others)

    last_more : (from : World F) (run : List (Move × World F)) (one : Move × World F) → last_world from (run ++ one ∷ []) ≡ one.1
    last_more from [] one = refl
    last_more from (other ∷ run) one = last_more other.1 run one

    -- the relation of a world of the run is the plan's
    plans_at : (run : List (Move × World F)) (now : World F) → last_world first run ≡ now → rules_at now ≡ rules → IsRun rules (view_of first) (viewed run)
        → (link : RelationState) → now.device.live.rest.link ≡ Some link → link.request ≡ request_for now.controller.setup.plan now.controller.setup.ar
    plans_at run now last same steps link is =
        goes.relation rules (view_of first) (viewed run) begins steps (link_of link)
        (ap (λ (w : small.World TakenRecord Request). w.device.link) (last_viewed first run ∙ ap (λ (w : World F). view_of w) last) ∙ ap (λ (l : Option RelationState). option_map link_of l) is)
        ∙ sym (ap (λ (r : Rules TakenRecord Request). r.request) same)

    -- what comes next at the end of a run is heard as it is meant
    next_meant : (run : List (Move × World F)) (now : World F) → last_world first run ≡ now → rules_at now ≡ rules → IsRun rules (view_of first) (viewed run)
        → CanStart now.controller.setup now.device.station → HoldsAt now → InStep now → (one : Move) → IsMeant now one
    next_meant run now last same steps can holds in_step one = all_meant now can holds in_step (plans_at run now last same steps) one

    pub on : (run : List (Move × World F)) (now : World F) → last_world first run ≡ now → rules_at now ≡ rules → IsRun rules (view_of first) (viewed run)
        → CanStart now.controller.setup now.device.station → HoldsAt now → InStep now
        → (others : List (Move × World F)) → AreMade as_flash now others
        → IsRun rules (view_of first) (viewed (run ++ others)) × AreMeant now others × ((one : Move) → IsMeant (last_world now others) one)
    on run now last same steps can holds in_step [] made =
        (subst (λ (xs : List (Move × World F)). IsRun rules (view_of first) (viewed xs)) (sym (append-nil run)) steps, tt, next_meant run now last same steps can holds in_step)
    on run now last same steps can holds in_step (one ∷ others) made =
        let plans = plans_at run now last same steps in
        let meant = all_meant now can holds in_step plans one.0 in
        let own = known_own now.controller.setup now.device.live.rest.asked holds.of_known in
        let step = happens_steps as_flash goes.device_on goes.controller_on goes.frames_are now one.1 in_step holds.orderly own one.0 meant made.0 in
        let still : rules_at one.1 ≡ rules_at now =
        ap (λ (s : Setup). rules_of s one.1.device.station) step.setup ∙ ap (λ (s : Station). rules_of now.controller.setup s) step.station in
        let from : Steps rules (last_of (view_of first) (viewed run)) (move_of one.0) (view_of one.1) =
        subst (λ (w : small.World TakenRecord Request). Steps rules w (move_of one.0) (view_of one.1)) (sym (last_viewed first run ∙ ap (λ (w : World F). view_of w) last))
        (subst (λ (r : Rules TakenRecord Request). Steps r (view_of now) (move_of one.0) (view_of one.1)) same step.is) in
        let more : IsRun rules (view_of first) (viewed (run ++ one ∷ [])) =
        subst (λ (xs : List (small.Move × small.World TakenRecord Request)). IsRun rules (view_of first) xs) (sym (viewed_more run (one ∷ [])))
        (steps_more rules (view_of first) (viewed run) (move_of one.0) (view_of one.1) steps from) in
        let starts : CanStart one.1.controller.setup one.1.device.station =
        subst (λ (s : Setup). CanStart s one.1.device.station) (sym step.setup) (subst (λ (s : Station). CanStart now.controller.setup s) (sym step.station) can) in
        let rest = on (run ++ one ∷ []) one.1 (last_more first run one) (still ∙ same) more starts
        (holds_behind now can holds in_step plans as_flash one.1 one.0 made.0) step.in_step others made.1 in
        (subst (λ (xs : List (Move × World F)). IsRun rules (view_of first) (viewed xs)) (append_assoc run (one ∷ []) others) rest.0, (meant, rest.1), rest.2)

  -- ---- the start

  module _ {F : Type 0} (first : World F) (identity : Identity) (begins : Begins first.controller.setup identity first) (can : CanStart first.controller.setup first.device.station) where
    opening_is : (controlling : Controlling) → opening_of controlling ≡ said.bytes_of controlling.setup (said.Requests controlling.live.device asks.Identify)
    unfolding opening_of
    opening_is controlling = refl

    opens : IsReported so first.controller.setup first.device.station can.setup_is can.device_is can.apart (opening_of first.controller) small.Idle
    opens = subst (λ (frame : List ℕ). IsReported so first.controller.setup first.device.station can.setup_is can.device_is can.apart frame small.Idle) (sym (opening_is first.controller))
        (opening_reported so first.controller.setup first.device.station can.setup_is can.device_is can.apart first.controller.live.device)

    is_idle : (heard : ToDevice) → (heard ≡ small.Idle) ⊎ (heard ≡ small.Idle) → heard ≡ small.Idle
    is_idle heard (inl idle) = idle
    is_idle heard (inr idle) = idle

    pub begins_small : BeginsSmall (rules_at first) (view_of first)
    begins_small = record {
      uncalled = ap (λ (kept : Option Answer). option_map kept_in kept) begins.uncalled;
      unrelated = ap (λ (l : Option RelationState). option_map link_of l) begins.unrelated;
      unasked = ap (λ (q : Option Question). option_map (λ question. question.header.sequence) q) begins.unasked;
      seeking = ap (λ (l : ControllerLive). small_of first.controller.setup.plan l) begins.made;
      dull = subst (λ (frames : List (List ℕ)). AllByRecursion (IsDull (rules_at first)) frames) (sym begins.opened)
          ((is_idle ((rules_at first).to_device (opening_of first.controller)) opens.says_or_idle, opens.nothing), tt);
    }

    pub holds_first : HoldsAt first
    holds_first = record {
      known = subst (λ (frames : List (List ℕ)). AllByRecursion (IsKnown first.controller.setup first.device.station.identity) frames) (sym begins.opened) (opens.known, tt);
      again = λ answer is. absurd (none_kept answer (sym begins_small.uncalled ∙ is));
      aimed = subst (λ (l : ControllerLive). IsAimed l) (sym begins.made) (goes.aimed_first first.controller.setup can.setup_is);
      orderly = subst (λ (l : Option RelationState). IsOrderlyIn l) (sym begins.unrelated) tt;
      of_known = λ question is. absurd (none_question question (sym begins.unasked ∙ is));
    }
      where
        none_kept : (answer : small.Kept) → None ≡ Some answer → ⊥
        none_kept answer e = absurd cc

    pub first_in_step : InStep first
    first_in_step = subst (λ (l : ControllerLive). IsSteady first.controller.setup.plan l) (sym begins.made) (goes.begins first.controller.setup.plan).0

    pub runs_so : {S : ℕ} (as_flash : Flash F S) (run : List (Move × World F)) → AreMade as_flash first run
        → IsRun (rules_at first) (view_of first) (viewed run) × AreMeant first run × ((one : Move) → IsMeant (last_world first run) one)
    runs_so as_flash run made =
        on as_flash first (rules_at first) begins_small [] first refl refl tt can holds_first first_in_step run made

  -- from the start of a set-up and a device that can meet
  module _ {F : Type 0} (setup : Setup) (identity : Identity) (good : IsSetup setup) (real : IsDevice identity) (can : CanMeet setup identity)
      (placed : ArePlaced setup.plan.records.items) (connect : request_of None (connect_of setup.plan setup.ar) ≡ Ok (request_for setup.plan setup.ar)) (first : World F) (begins : Begins setup identity first) where
    can_start : CanStart first.controller.setup first.device.station
    can_start = subst (λ (s : Setup). CanStart s first.device.station) (sym begins.of_setup) (record {
      setup_is = good;
      good = record { connect = connect; few = count_few setup.plan good.plan.few_records; short = good.plan.short_records; records = can.records; placed = placed; named = good.ar };
      device_is = subst (λ (i : Identity). IsDevice i) (sym begins.of_device) real;
      unnamed = begins.unnamed;
      apart = subst (λ (i : Identity). i.mac ≡ setup.plan.controller.mac → ⊥) (sym begins.of_device) can.apart;
    })

    own_begins : Begins first.controller.setup identity first
    own_begins = record {
      of_setup = refl;
      of_device = begins.of_device;
      made = begins.made ∙ ap (λ (s : Setup). first_live s.plan) (sym begins.of_setup);
      opened = begins.opened;
      uncalled = subst (λ (s : Setup). kept_of s.activity first.device.live.rest.calls ≡ None) (sym begins.of_setup) begins.uncalled;
      unrelated = begins.unrelated;
      unasked = begins.unasked;
      unnamed = subst (λ (s : Setup). AreUnnamed first.device.station.named s.plan.records.items) (sym begins.of_setup) begins.unnamed;
    }

    pub starts_small : BeginsSmall (rules_at first) (view_of first)
    starts_small = begins_small first identity own_begins can_start

    pub run_is : {S : ℕ} (as_flash : Flash F S) (run : List (Move × World F)) → AreMade as_flash first run
        → IsRun (rules_at first) (view_of first) (viewed run)
    run_is as_flash run made = (runs_so first identity own_begins can_start as_flash run made).0

    pub meant_is : {S : ℕ} (as_flash : Flash F S) (run : List (Move × World F)) → AreMade as_flash first run → AreMeant first run
    meant_is as_flash run made = (runs_so first identity own_begins can_start as_flash run made).1

    pub next_is : {S : ℕ} (as_flash : Flash F S) (run : List (Move × World F)) → AreMade as_flash first run → (one : Move) → IsMeant (last_world first run) one
    next_is as_flash run made = (runs_so first identity own_begins can_start as_flash run made).2
