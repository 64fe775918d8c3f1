-- The rounds of a controller in the middle of its start-up whose device has no relation any more, until it has ended.
use Rattle.std.proofs.Common.{◌≡◌, ◌⊎◌, inl, inr, ◌≤◌, ◌<◌, ◌+◌, ◌-◌, ◌==◌, ℕ, zero, suc, Bool, true, false, List, [], ◌∷◌, ◌++◌, Option, Some, None, refl, sym, ap, subst, ◌∙◌, arith}
use Rattle.std.specs.Prelude.{nat_lt, if◌then◌else◌}
use Rattle.std.specs.List.{AllByRecursion}
use Rattle.std.proofs.lemmas.Bool.{eq-eqb, ne_eqb}
use Rattle.std.proofs.lemmas.Bool.Decides.{nat_tests}
use Rattle.flash_model.specs.declared.flash.Flash.{Ghosts as Flash}
use Rattle.pn_values.specs.declared.identity.Identity.{Identity}
use Rattle.settings_journal.specs.settings_store.Machine.{Outcome}
use Rattle.settings_journal.specs.settings_store.State.{Values}
use Rattle.rpc_core.specs.Cache.{Kept, kept_of, new, reported_by}
use Rattle.rpc_core.specs.Cache as cache
use Rattle.plans.specs.declared.parts.Parts.{Parts}
use Rattle.device_frames.specs.Heard.{Ticks}
use Rattle.device_frames.specs.Sendable.{AreSendable}
use Rattle.device_core.specs.State.{Live, Station}
use Rattle.controller_messages.specs.declared.request.Request.{Request}
use Rattle.controller_messages.specs.declared.request.Request.TheVariants as asks
use Rattle.controller_messages.specs.declared.setup.Setup.{Setup}
use Rattle.controller_messages.specs.Requests.{sequence_of, write_count, writing_from}
use Rattle.controller_core.specs.declared.stored.event.Event.TheVariants.{Tick}
use Rattle.controller_core.specs.declared.stored.state.Cause.{Cause}
use Rattle.controller_core.specs.declared.stored.state.Cause.TheVariants.{NoProgress, Refused}
use Rattle.controller_core.specs.declared.stored.state.State.TheVariants.{Ended}
use Rattle.device_core.specs.Handled.{is_running}
use Rattle.controller_core.specs.stored.State.{Controlling, phase_for}
use Rattle.controller_core.specs.Machine.{step_of}
use Rattle.end_laws.specs.hearing.Stations.{IsCalled, IsNumbered}
use Rattle.network_world.specs.World.{is_ended}
use Rattle.rounds_law.specs.Rounds.{Net, Round, hears_all}
use Rattle.rounds_law.specs.Path.{AsksNothing, IsOutputs, controller_step, device_step, request_to}
use Rattle.rounds_law.specs.Repeating.{completes, counts_on}
use Rattle.rounds_law.specs.Start.{CanStart}
use Rattle.rounds_law.specs.Again.{AreStarts, HasEnded, IsDenial}
use Rattle.rounds_law.specs.Abandoned.{Awaited, Denies, EndsFor, Expects, IsInPlan, IsNewCall, IsOfRelation, IsReleasing, IsRequest, IsUnrepeated}
use Rattle.rounds_law.specs.Abandoned.{LastsFor, Readiness, Releases, Response, StillExpects, WritesNext, denials_left, is_reached, last_call, phase_at, repeated}
use Rattle.rounds_law.proofs.AbandonedController.{IsParameter, parameter_is}
use Rattle.rounds_law.proofs.AgainLaw.{AgainLaws, EndedLaws, IsOver, Stands, Vain, free_aged, in_vain, over_after, stays_on, waits}
use Rattle.rounds_law.proofs.CompositionEnds.{Passed, passed}
use Rattle.rounds_law.proofs.CompositionLaws.{Laws}
use Rattle.rounds_law.proofs.CompositionLists.{arrive_first, arrives_as, hears_one, went_at}
use Rattle.rounds_law.proofs.DeviceCallingSteps.{later_new}
use Rattle.rounds_law.proofs.NeverBusy.{untried}
use Rattle.controller_core.specs.start_up.Answers.{is_busy, is_tried}

-- ---- the laws of each end

pub record DeniedLaws (setup : Setup) (identity : Identity) : Type 0 where
  pub denied : (outcomes : List Outcome) (station : Station) (live : Live) (request : Request)
      → station.identity ≡ identity → live.rest.link ≡ None → AsksNothing live → is_reached setup live ≡ true
      → IsOfRelation request → IsNumbered request → IsNewCall setup (sequence_of setup.plan request) live
      → AreSendable identity (device_step outcomes station live (request_to setup identity request)).sent
      → Denies setup identity request live (device_step outcomes station live (request_to setup identity request))
  pub unreached : (outcomes : List Outcome) (station : Station) (live : Live) (request : Request)
      → station.identity ≡ identity → is_reached setup live ≡ false → IsCalled request → IsNumbered request
      → ((device_step outcomes station live (request_to setup identity request)).frames ≡ [])
      × ((device_step outcomes station live (request_to setup identity request)).live ≡ live)

pub record HalfwayLaws (setup : Setup) (identity : Identity) : Type 0 where
  pub few : write_count setup.plan ≤ 32
  pub denied : (serial : ℕ) (controller : Controlling) (number : ℕ) (octets : List ℕ) → number ≤ write_count setup.plan
      → Expects setup serial identity.mac (Response number) controller
      → (denial : IsDenial setup identity (writing_from setup.plan number) octets) → is_tried setup.plan denial.status 0 ≡ false
      → WritesNext setup serial identity number controller (controller_step controller octets)
      ⊎ EndsFor setup identity Refused (number + 1) (controller_step controller octets)
  pub unit : (serial : ℕ) (controller : Controlling) (awaited : Awaited) → IsInPlan setup.plan awaited → Expects setup serial identity.mac awaited controller
      → ((controller.live.left ≡ 1) × Releases setup identity NoProgress (last_call setup.plan awaited) (step_of controller Tick))
      ⊎ ((controller.live.left ≡ 1 → ⊥) × StillExpects setup serial identity awaited controller (step_of controller Tick))
  pub released : (cause : Cause) (sequence waited : ℕ) (controller : Controlling) (octets : List ℕ)
      → IsReleasing setup identity.mac cause sequence waited controller → IsDenial setup identity (asks.Release sequence) octets
      → ((controller_step controller octets).frames ≡ []) × HasEnded setup cause (controller_step controller octets).controller
  pub releasing : (cause : Cause) (sequence waited : ℕ) (controller : Controlling)
      → IsReleasing setup identity.mac cause sequence waited controller
      → ((step_of controller Tick).frames ≡ (if completes waited then request_to setup identity (asks.Release sequence) ∷ [] else []))
      × IsReleasing setup identity.mac cause sequence (counts_on waited) (step_of controller Tick).controller

-- ---- the requests of the parameters

parameter_sequence : (plan : Parts) (number : ℕ) (request : Request) → number ≤ write_count plan → IsParameter plan number request
    → sequence_of plan request ≡ number + 1
parameter_sequence plan number request few (inl is) = ap (sequence_of plan) is.1
parameter_sequence plan number request few (inr is) = ap (sequence_of plan) is.1 ∙ omega (arith, few, is.0)

pub sequence_is : (plan : Parts) (number : ℕ) → number ≤ write_count plan → sequence_of plan (writing_from plan number) ≡ number + 1
sequence_is plan number few = parameter_sequence plan number (writing_from plan number) few (parameter_is plan number)

of_relation_by : (plan : Parts) (number : ℕ) (request : Request) → IsParameter plan number request → IsOfRelation request
of_relation_by plan number request (inl is) = subst IsOfRelation (sym is.1) tt
of_relation_by plan number request (inr is) = subst IsOfRelation (sym is.1) tt

called_by : (plan : Parts) (number : ℕ) (request : Request) → IsParameter plan number request → IsCalled request
called_by plan number request (inl is) = subst IsCalled (sym is.1) tt
called_by plan number request (inr is) = subst IsCalled (sym is.1) tt

numbered_by : (plan : Parts) (number : ℕ) (request : Request) → write_count plan ≤ 32 → IsParameter plan number request → IsNumbered request
numbered_by plan number request few (inl is) = subst IsNumbered (sym is.1) (omega (arith, few, is.0))
numbered_by plan number request few (inr is) = subst IsNumbered (sym is.1) tt

-- ---- new calls

-- A call after a new call is new too.
below_new : (sequence : ℕ) (kept : Kept) → reported_by sequence (Some kept) ≡ new → kept.sequence < sequence
below_new sequence kept is = by_tests (sequence == kept.sequence) (nat_lt sequence kept.sequence) refl refl is
  where
    greater : (sequence == kept.sequence) ≡ false → nat_lt sequence kept.sequence ≡ false → kept.sequence < sequence
    greater e f = grind (arith, nat_tests)

    by_tests : (same less : Bool) → (sequence == kept.sequence) ≡ same → nat_lt sequence kept.sequence ≡ less
        → (if same then cache.again kept.frame else (if less then cache.old else new)) ≡ new → kept.sequence < sequence
    by_tests true less e f is = absurd cc
    by_tests false true e f is = absurd cc
    by_tests false false e f is = greater e f

pub new_later : (setup : Setup) (live : Live) (sequence later : ℕ) → sequence ≤ later → IsNewCall setup sequence live → IsNewCall setup later live
new_later setup live sequence later more is = by_kept (kept_of setup.activity live.rest.calls) refl is
  where
    by_kept : (kept : Option Kept) → kept_of setup.activity live.rest.calls ≡ kept → reported_by sequence kept ≡ new → IsNewCall setup later live
    by_kept None e is = ap (λ (k : Option Kept). reported_by later k) e
    by_kept (Some kept) e is =
        let below : kept.sequence < sequence = below_new sequence kept is in
        later_new setup.activity later live.rest.calls kept e (omega (arith, below, more))

module _ {F : Type 0} {S : ℕ} (as_flash : Flash F S) (setup next : Setup) (identity : Identity) (laws : Laws setup identity) (again : AgainLaws setup identity)
    (again_next : AgainLaws next identity) (ends : EndedLaws setup identity) (can : CanStart setup identity) (starts : AreStarts setup next)
    (denies : DeniedLaws setup identity) (halfway : HalfwayLaws setup identity) where
  -- ---- the device

  -- What all these nets have: the device has no relation, and nothing is under way to the controller.
  pub record IsBare (net : Net F) : Type 0 where
    pub stands : Stands setup next identity net
    pub silent : net.to_controller ≡ []
    pub unrelated : net.device.live.rest.link ≡ None

  -- The state of the device after a call that it denied.
  record Denied (request : Request) (before live : Live) : Type 0 where
    values : live.values ≡ before.values
    unrelated : live.rest.link ≡ None
    unasked : AsksNothing live
    newer : (later : ℕ) → sequence_of setup.plan request < later → IsNewCall setup later live
    uncalled : kept_of next.activity live.rest.calls ≡ None

  -- After the round in which a call was denied.
  record WasDenied (request : Request) (net after : Net F) : Type 0 where
    bare : IsBare after
    values : after.device.live.values ≡ net.device.live.values
    newer : (later : ℕ) → sequence_of setup.plan request < later → IsNewCall setup later after.device.live
    octets : List ℕ
    denial : IsDenial setup identity request octets
    ready : is_busy denial.status ≡ false
    passed : Passed (controller_step net.controller octets) after

  denied_round : (serial : ℕ) (request : Request) → IsOfRelation request → IsNumbered request → (net after : Net F) → IsBare net
      → is_reached setup net.device.live ≡ true → IsNewCall setup (sequence_of setup.plan request) net.device.live
      → (outputs : List (List ℕ)) → AllByRecursion (IsOutputs setup (Some serial) identity.mac) outputs → net.to_device ≡ request_to setup identity request ∷ outputs
      → Round as_flash net after → WasDenied request net after
  denied_round serial request of numbered net after bare reached unheard outputs are under_way round =
      let station = net.device.station in
      let live = net.device.live in
      let frame = request_to setup identity request in
      let own = bare.stands.of_device in
      let law = λ (sendable : AreSendable station.identity (device_step [] station live frame).sent).
      denies.denied [] station live request own bare.unrelated bare.stands.unasked reached of numbered unheard
      (subst (λ (i : Identity). AreSendable i (device_step [] station live frame).sent) own sendable) in
      let all = arrive_first as_flash station (Denied request live) (IsOutputs setup (Some serial) identity.mac)
      (λ between octets outputs is.
      let vain = again.vain serial [] station between octets own is.unrelated (inl outputs) in
      (vain.0, subst (Denied request live) (sym vain.1) is))
      net.device frame outputs round.answers round.device refl
      (λ sendable. record {
        values = (law sendable).values;
        unrelated = (law sendable).unrelated;
        unasked = (law sendable).unasked;
        newer = (law sendable).newer;
        uncalled = (law sendable).uncalled next.activity starts.calls bare.stands.uncalled_next;
      }) are (arrives_as as_flash net after round (frame ∷ outputs) under_way) in
      let its = law all.1 in
      let unit = free_aged as_flash setup next identity laws again again_next ends can starts round.device station 0 after.to_controller after.device
      all.0.of_station round.unit all.0.is.unrelated all.0.is.unasked in
      let step = controller_step net.controller its.octets in
      record {
        bare = record {
          stands = stays_on as_flash setup next identity laws again again_next ends can starts net after round 0 round.device all.0.is.values all.0.is.uncalled
              bare.stands unit;
          silent = (went_at as_flash round.device station Ticks after.to_controller after.device all.0.of_station round.unit).sent
              ∙ (again.unrelated [] station round.device.live all.0.is.unrelated all.0.is.unasked).0;
          unrelated = unit.lasts;
        };
        values = unit.values ∙ all.0.is.values;
        newer = λ later less. ap (λ calls. cache.looked setup.activity later calls) unit.calls ∙ all.0.is.newer later less;
        octets = its.octets;
        denial = its.denial;
        ready = its.ready;
        passed = passed as_flash net after round (its.octets ∷ []) step (all.0.sent ∙ its.frames)
            (ap (λ (fs : List (List ℕ)). hears_all net.controller (fs ++ its.octets ∷ [])) bare.silent ∙ hears_one net.controller its.octets);
      }

  -- ---- the controller has ended

  -- Its Release is under way to a device that will answer it.
  pub record IsLeaving (net : Net F) : Type 0 where
    pub bare : IsBare net
    pub reached : is_reached setup net.device.live ≡ true
    pub cause : Cause
    pub sequence : ℕ
    pub waited : ℕ
    pub numbered : sequence < 4294967296
    pub releasing : IsReleasing setup identity.mac cause sequence waited net.controller
    pub under_way : net.to_device ≡ request_to setup identity (asks.Release sequence) ∷ []
    pub new_call : IsNewCall setup sequence net.device.live

  -- Its Release is not answered, and may be under way again.
  pub record IsUnheard (net : Net F) : Type 0 where
    pub bare : IsBare net
    pub unreached : is_reached setup net.device.live ≡ false
    pub cause : Cause
    pub sequence : ℕ
    pub waited : ℕ
    pub numbered : sequence < 4294967296
    pub releasing : IsReleasing setup identity.mac cause sequence waited net.controller
    pub under_way : (net.to_device ≡ []) ⊎ (net.to_device ≡ request_to setup identity (asks.Release sequence) ∷ [])

  -- It will not change any more until it is started again.
  abbrev pub IsGone : Net F → Type 0
  IsGone net = IsOver setup next identity 0 net ⊎ IsUnheard net

  abbrev pub IsQuit : Net F → Type 0
  IsQuit net = IsGone net ⊎ IsLeaving net

  pub cause_of : (net : Net F) → IsQuit net → Cause
  cause_of net (inl (inl over)) = over.cause
  cause_of net (inl (inr unheard)) = unheard.cause
  cause_of net (inr leaving) = leaving.cause

  pub ended_for : (net : Net F) → (quit : IsQuit net) → net.controller.live.phase ≡ Ended (cause_of net quit)
  unfolding cause_of
  ended_for net (inl (inl over)) = over.ended.in_phase
  ended_for net (inl (inr unheard)) = unheard.releasing.in_phase
  ended_for net (inr leaving) = leaving.releasing.in_phase

  leaving_on : (net after : Net F) → IsLeaving net → Round as_flash net after → IsOver setup next identity 0 after
  leaving_on net after at round =
      let release = asks.Release at.sequence in
      let denied = denied_round 0 release tt at.numbered net after at.bare at.reached at.new_call [] tt at.under_way round in
      let ended = halfway.released at.cause at.sequence at.waited net.controller denied.octets at.releasing denied.denial in
      let over = over_after as_flash setup next identity laws again again_next ends can starts at.cause
      (controller_step net.controller denied.octets) after ended.0 ended.1 denied.passed in
      record { stands = denied.bare.stands; cause = at.cause; ended = over.0; nothing = over.1; lasts = denied.bare.unrelated }

  -- The device drops what comes, since it does not have the address.
  abbrev pub Vainly : (net after : Net F) → Type 0
  Vainly net after = Vain as_flash setup next identity laws again again_next ends can starts net after

  round_in_vain : (net after : Net F) (Of : List ℕ → Type 0)
      → ((octets : List ℕ) → Of octets → ((device_step [] net.device.station net.device.live octets).frames ≡ [])
      × ((device_step [] net.device.station net.device.live octets).live ≡ net.device.live))
      → IsBare net → AllByRecursion Of net.to_device → Round as_flash net after → Vainly net after
  round_in_vain net after Of keeps bare said round =
      in_vain as_flash setup next identity laws again again_next ends can starts net after Of keeps bare.stands bare.silent bare.unrelated said round

  bare_on : (net after : Net F) → Vainly net after → IsBare after
  bare_on net after vain = record { stands = vain.stands; silent = vain.silent; unrelated = vain.unrelated }

  -- It is reached as before.
  reached_on : (net after : Net F) → after.device.live.values ≡ net.device.live.values → is_reached setup after.device.live ≡ is_reached setup net.device.live
  reached_on net after same = ap (λ (v : Values). is_running_at v) same
    where
      is_running_at : Values → Bool
      is_running_at v = is_running v.running setup.plan.station.suite.address

  repeats_or_not : (frames : List (List ℕ)) (again : Bool) (frame : List ℕ) → frames ≡ (if again then frame ∷ [] else [])
      → (frames ≡ []) ⊎ (frames ≡ frame ∷ [])
  repeats_or_not frames true frame is = inr is
  repeats_or_not frames false frame is = inl is

  unheard_on : (net after : Net F) → IsUnheard net → Round as_flash net after → IsUnheard after
  unheard_on net after at round =
      let release = asks.Release at.sequence in
      let frame = request_to setup identity release in
      let vain = round_in_vain net after (λ (octets : List ℕ). octets ≡ frame)
      (λ octets is. subst (λ (o : List ℕ). ((device_step [] net.device.station net.device.live o).frames ≡ [])
      × ((device_step [] net.device.station net.device.live o).live ≡ net.device.live)) (sym is)
      (denies.unreached [] net.device.station net.device.live release at.bare.stands.of_device at.unreached tt at.numbered))
      at.bare (all_same at.under_way) round in
      let unit = halfway.releasing at.cause at.sequence at.waited net.controller at.releasing in
      record {
        bare = bare_on net after vain;
        unreached = reached_on net after vain.values ∙ at.unreached;
        cause = at.cause;
        sequence = at.sequence;
        waited = counts_on at.waited;
        numbered = at.numbered;
        releasing = subst (λ (c : Controlling). IsReleasing setup identity.mac at.cause at.sequence (counts_on at.waited) c) (sym vain.passed.controller) unit.1;
        under_way = repeats_or_not after.to_device (completes at.waited) frame (vain.passed.to_device ∙ unit.0);
      }
    where
      all_same : (net.to_device ≡ []) ⊎ (net.to_device ≡ request_to setup identity (asks.Release at.sequence) ∷ [])
          → AllByRecursion (λ (octets : List ℕ). octets ≡ request_to setup identity (asks.Release at.sequence)) net.to_device
      all_same (inl none) = subst (AllByRecursion (λ (octets : List ℕ). octets ≡ request_to setup identity (asks.Release at.sequence))) (sym none) tt
      all_same (inr one) = subst (AllByRecursion (λ (octets : List ℕ). octets ≡ request_to setup identity (asks.Release at.sequence))) (sym one) (refl, tt)

  pub gone_on : (net after : Net F) → IsGone net → Round as_flash net after → IsGone after
  gone_on net after (inl over) round = inl (waits as_flash setup next identity laws again again_next ends can starts 0 net after over round)
  gone_on net after (inr unheard) round = inr (unheard_on net after unheard round)

  pub quit_on : (net after : Net F) → IsQuit net → Round as_flash net after → IsGone after
  quit_on net after (inl gone) round = gone_on net after gone round
  quit_on net after (inr leaving) round = inl (leaving_on net after leaving round)

  -- ---- it will have ended

  -- In each run the controller has ended after at most this many rounds.
  abbrev pub EndsSoon : ℕ → Net F → Type 0
  EndsSoon zero net = ⊥
  EndsSoon (suc n) net = (after : Net F) → Round as_flash net after → IsQuit after ⊎ ((is_ended after.controller.live.phase ≡ false) × EndsSoon n after)

  pub soon_more : (n m : ℕ) (net : Net F) → n ≤ m → EndsSoon n net → EndsSoon m net
  soon_more zero m net few soon = absurd soon
  soon_more (suc n) zero net few soon = absurd (omega (arith, few))
  soon_more (suc n) (suc m) net few soon = λ after round.
      more after (λ on. soon_more n m after (omega (arith, few)) on) (soon after round)
    where
      more : (after : Net F) → (EndsSoon n after → EndsSoon m after)
          → IsQuit after ⊎ ((is_ended after.controller.live.phase ≡ false) × EndsSoon n after)
          → IsQuit after ⊎ ((is_ended after.controller.live.phase ≡ false) × EndsSoon m after)
      more after later (inl quit) = inl quit
      more after later (inr on) = inr (on.0, later on.1)

  open_by : (is : Bool) (number : ℕ) → is_ended (phase_for (if is then asks.Write number else asks.PrmEnd)) ≡ false
  open_by true number = refl
  open_by false number = refl

  open_at : (awaited : Awaited) → is_ended (phase_at setup.plan awaited) ≡ false
  open_at (Response number) = open_by (nat_lt number (write_count setup.plan)) number
  open_at Readiness = refl

  -- The patience ended with the unit: its Release is under way.
  quit_at : (awaited : Awaited) (net after : Net F) → Vainly net after
      → (is_reached setup net.device.live ≡ false) ⊎ ((is_reached setup net.device.live ≡ true) × IsNewCall setup (last_call setup.plan awaited + 1) net.device.live)
      → Releases setup identity NoProgress (last_call setup.plan awaited) (step_of net.controller Tick) → IsQuit after
  quit_at awaited net after vain (inl away) released = inl (inr (record {
    bare = bare_on net after vain;
    unreached = reached_on net after vain.values ∙ away;
    cause = NoProgress;
    sequence = released.sequence;
    waited = 0;
    numbered = released.numbered;
    releasing = subst (λ (c : Controlling). IsReleasing setup identity.mac NoProgress released.sequence 0 c) (sym vain.passed.controller) released.releasing;
    under_way = inr (vain.passed.to_device ∙ released.frames);
  }))
  quit_at awaited net after vain (inr there) released = inr (record {
    bare = bare_on net after vain;
    reached = reached_on net after vain.values ∙ there.0;
    cause = NoProgress;
    sequence = released.sequence;
    waited = 0;
    numbered = released.numbered;
    releasing = subst (λ (c : Controlling). IsReleasing setup identity.mac NoProgress released.sequence 0 c) (sym vain.passed.controller) released.releasing;
    under_way = vain.passed.to_device ∙ released.frames;
    new_call = new_later setup after.device.live (last_call setup.plan awaited + 1) released.sequence (omega (arith, released.later))
        (ap (λ calls. cache.looked setup.activity (last_call setup.plan awaited + 1) calls) vain.calls ∙ there.1);
  })

  -- ---- nothing is answered

  -- In a relation of this number at the device.
  module _ (serial : ℕ) where
    pub still_open : (awaited : Awaited) (controller : Controlling) → Expects setup serial identity.mac awaited controller → is_ended controller.live.phase ≡ false
    still_open awaited controller it = ap is_ended it.in_phase ∙ open_at awaited

    -- The device is not reached.
    pub record IsAway (awaited : Awaited) (net : Net F) : Type 0 where
      pub bare : IsBare net
      pub in_plan : IsInPlan setup.plan awaited
      pub expects : Expects setup serial identity.mac awaited net.controller
      pub unreached : is_reached setup net.device.live ≡ false
      pub under_way : AllByRecursion (λ (octets : List ℕ). IsOutputs setup (Some serial) identity.mac octets ⊎ IsRequest setup identity awaited octets) net.to_device

    -- Outputs alone are under way, and no request will be sent.
    pub record IsMute (awaited : Awaited) (net : Net F) : Type 0 where
      pub bare : IsBare net
      pub in_plan : IsInPlan setup.plan awaited
      pub expects : Expects setup serial identity.mac awaited net.controller
      pub outputs : AllByRecursion (IsOutputs setup (Some serial) identity.mac) net.to_device
      pub unrepeated : IsUnrepeated awaited net.controller
      pub new_call : (is_reached setup net.device.live ≡ false)
          ⊎ ((is_reached setup net.device.live ≡ true) × IsNewCall setup (last_call setup.plan awaited + 1) net.device.live)

    outputs_vain : (net : Net F) → IsBare net → (octets : List ℕ) → IsOutputs setup (Some serial) identity.mac octets
        → ((device_step [] net.device.station net.device.live octets).frames ≡ [])
        × ((device_step [] net.device.station net.device.live octets).live ≡ net.device.live)
    outputs_vain net bare octets is = again.vain serial [] net.device.station net.device.live octets bare.stands.of_device bare.unrelated (inl is)

    request_vain : (awaited : Awaited) (net : Net F) → IsAway awaited net → (octets : List ℕ) → IsRequest setup identity awaited octets
        → ((device_step [] net.device.station net.device.live octets).frames ≡ [])
        × ((device_step [] net.device.station net.device.live octets).live ≡ net.device.live)
    request_vain (Response number) net at octets is =
        let request = writing_from setup.plan number in
        let parameter = parameter_is setup.plan number in
        subst (λ (o : List ℕ). ((device_step [] net.device.station net.device.live o).frames ≡ [])
        × ((device_step [] net.device.station net.device.live o).live ≡ net.device.live)) (sym is)
        (denies.unreached [] net.device.station net.device.live request at.bare.stands.of_device at.unreached (called_by setup.plan number request parameter)
        (numbered_by setup.plan number request halfway.few parameter))
    request_vain Readiness net at octets is = absurd is

    away_vain : (awaited : Awaited) (net : Net F) → IsAway awaited net → (octets : List ℕ) → IsOutputs setup (Some serial) identity.mac octets ⊎ IsRequest setup identity awaited octets
        → ((device_step [] net.device.station net.device.live octets).frames ≡ [])
        × ((device_step [] net.device.station net.device.live octets).live ≡ net.device.live)
    away_vain awaited net at octets (inl outputs) = outputs_vain net at.bare octets outputs
    away_vain awaited net at octets (inr request) = request_vain awaited net at octets request

    outputs_either : (awaited : Awaited) (frames : List (List ℕ)) → AllByRecursion (IsOutputs setup (Some serial) identity.mac) frames
        → AllByRecursion (λ (octets : List ℕ). IsOutputs setup (Some serial) identity.mac octets ⊎ IsRequest setup identity awaited octets) frames
    outputs_either awaited [] all = tt
    outputs_either awaited (octets ∷ frames) all = (inl all.0, outputs_either awaited frames all.1)

    repeated_either : (awaited : Awaited) (again : Bool) (frames : List (List ℕ)) → AllByRecursion (IsOutputs setup (Some serial) identity.mac) frames
        → AllByRecursion (λ (octets : List ℕ). IsOutputs setup (Some serial) identity.mac octets ⊎ IsRequest setup identity awaited octets)
        ((if again then repeated setup identity awaited else []) ++ frames)
    repeated_either (Response number) true frames all = (inr refl, outputs_either (Response number) frames all)
    repeated_either Readiness true frames all = outputs_either Readiness frames all
    repeated_either awaited false frames all = outputs_either awaited frames all

    away_on : (awaited : Awaited) (net after : Net F) → IsAway awaited net → Vainly net after → StillExpects setup serial identity awaited net.controller (step_of net.controller Tick)
        → IsAway awaited after
    away_on awaited net after at vain on = record {
      bare = bare_on net after vain;
      in_plan = at.in_plan;
      expects = subst (λ (c : Controlling). Expects setup serial identity.mac awaited c) (sym vain.passed.controller) on.expects;
      unreached = reached_on net after vain.values ∙ at.unreached;
      under_way = subst (AllByRecursion (λ (octets : List ℕ). IsOutputs setup (Some serial) identity.mac octets ⊎ IsRequest setup identity awaited octets))
          (sym (vain.passed.to_device ∙ on.frames)) (repeated_either awaited (completes net.controller.live.waited) on.outputs on.are);
    }

    left_on : (awaited : Awaited) (net after : Net F) (n : ℕ) → Vainly net after → StillExpects setup serial identity awaited net.controller (step_of net.controller Tick)
        → net.controller.live.left ≡ suc n → after.controller.live.left ≡ n
    left_on awaited net after n vain on is = ap (λ (c : Controlling). c.live.left) vain.passed.controller ∙ (on.left ∙ omega (arith, is))

    away_round : (awaited : Awaited) (net after : Net F) → IsAway awaited net → Round as_flash net after → Vainly net after
    away_round awaited net after at round =
        round_in_vain net after (λ (octets : List ℕ). IsOutputs setup (Some serial) identity.mac octets ⊎ IsRequest setup identity awaited octets)
        (away_vain awaited net at) at.bare at.under_way round

    away_step : (n : ℕ) (awaited : Awaited) (net after : Net F) → IsAway awaited net → (vain : Vainly net after) → net.controller.live.left ≡ suc n
        → ((m : ℕ) → n ≡ suc m → after.controller.live.left ≡ n → IsAway awaited after → EndsSoon n after)
        → ((net.controller.live.left ≡ 1) × Releases setup identity NoProgress (last_call setup.plan awaited) (step_of net.controller Tick))
        ⊎ ((net.controller.live.left ≡ 1 → ⊥) × StillExpects setup serial identity awaited net.controller (step_of net.controller Tick))
        → IsQuit after ⊎ ((is_ended after.controller.live.phase ≡ false) × EndsSoon n after)
    away_step n awaited net after at vain is later (inl over) = inl (quit_at awaited net after vain (inl at.unreached) over.1)
    away_step zero awaited net after at vain is later (inr on) = absurd (on.0 is)
    away_step (suc m) awaited net after at vain is later (inr on) =
        let next = away_on awaited net after at vain on.1 in
        inr (still_open awaited after.controller next.expects, later m refl (left_on awaited net after (suc m) vain on.1 is) next)

    pub away_soon : (n : ℕ) (awaited : Awaited) (net : Net F) → net.controller.live.left ≡ suc n → IsAway awaited net → EndsSoon (suc n) net
    away_soon zero awaited net is at = λ after round.
        away_step zero awaited net after at (away_round awaited net after at round) is (λ m e later on. absurd cc)
        (halfway.unit serial net.controller awaited at.in_plan at.expects)
    away_soon (suc n) awaited net is at = λ after round.
        away_step (suc n) awaited net after at (away_round awaited net after at round) is (λ m e later on. away_soon n awaited after later on)
        (halfway.unit serial net.controller awaited at.in_plan at.expects)

    -- No request is sent before the patience ends.
    early : (awaited : Awaited) (controller : Controlling) → IsUnrepeated awaited controller → (n : ℕ) → controller.live.left ≡ suc (suc n)
        → (if completes controller.live.waited then repeated setup identity awaited else []) ≡ []
    early (Response number) controller unrepeated n is =
        ap (λ (b : Bool). if b then repeated setup identity (Response number) else [])
        (ne_eqb (controller.live.waited + 1) 32000 (λ same. omega (arith, same, unrepeated, is)))
    early Readiness controller unrepeated n is = none (completes controller.live.waited)
      where
        none : (again : Bool) → (if again then repeated setup identity Readiness else []) ≡ []
        none true = refl
        none false = refl

    early_on : (awaited : Awaited) (net after : Net F) → IsUnrepeated awaited net.controller → (n : ℕ) → net.controller.live.left ≡ suc (suc n)
        → after.controller.live.left ≡ suc n → after.controller.live.waited ≡ counts_on net.controller.live.waited → IsUnrepeated awaited after.controller
    early_on (Response number) net after unrepeated n is less waits =
        let counts : counts_on net.controller.live.waited ≡ net.controller.live.waited + 1
        = ap (λ (b : Bool). if b then 0 else net.controller.live.waited + 1)
        (ne_eqb (net.controller.live.waited + 1) 32000 (λ same. omega (arith, same, unrepeated, is))) in
        omega (arith, unrepeated, is, less, waits, counts)
    early_on Readiness net after unrepeated n is less waits = tt

    new_on : (awaited : Awaited) (net after : Net F) → Vainly net after
        → (is_reached setup net.device.live ≡ false)
        ⊎ ((is_reached setup net.device.live ≡ true) × IsNewCall setup (last_call setup.plan awaited + 1) net.device.live)
        → (is_reached setup after.device.live ≡ false)
        ⊎ ((is_reached setup after.device.live ≡ true) × IsNewCall setup (last_call setup.plan awaited + 1) after.device.live)
    new_on awaited net after vain (inl away) = inl (reached_on net after vain.values ∙ away)
    new_on awaited net after vain (inr there) = inr (
      reached_on net after vain.values ∙ there.0,
      ap (λ calls. cache.looked setup.activity (last_call setup.plan awaited + 1) calls) vain.calls ∙ there.1,
    )

    mute_on : (awaited : Awaited) (net after : Net F) (n : ℕ) → net.controller.live.left ≡ suc (suc n) → IsMute awaited net → (vain : Vainly net after)
        → StillExpects setup serial identity awaited net.controller (step_of net.controller Tick)
        → IsMute awaited after
    mute_on awaited net after n is at vain on = record {
      bare = bare_on net after vain;
      in_plan = at.in_plan;
      expects = subst (λ (c : Controlling). Expects setup serial identity.mac awaited c) (sym vain.passed.controller) on.expects;
      outputs = subst (AllByRecursion (IsOutputs setup (Some serial) identity.mac))
          (sym (vain.passed.to_device ∙ (on.frames ∙ ap (λ (fs : List (List ℕ)). fs ++ on.outputs) (early awaited net.controller at.unrepeated n is)))) on.are;
      unrepeated = early_on awaited net after at.unrepeated n is (left_on awaited net after (suc n) vain on is)
          (ap (λ (c : Controlling). c.live.waited) vain.passed.controller ∙ on.waits);
      new_call = new_on awaited net after vain at.new_call;
    }

    mute_round : (awaited : Awaited) (net after : Net F) → IsMute awaited net → Round as_flash net after → Vainly net after
    mute_round awaited net after at round =
        round_in_vain net after (IsOutputs setup (Some serial) identity.mac) (outputs_vain net at.bare) at.bare at.outputs round

    mute_step : (n : ℕ) (awaited : Awaited) (net after : Net F) → IsMute awaited net → (vain : Vainly net after) → net.controller.live.left ≡ suc n
        → ((m : ℕ) → n ≡ suc m → after.controller.live.left ≡ n → IsMute awaited after → EndsSoon n after)
        → ((net.controller.live.left ≡ 1) × Releases setup identity NoProgress (last_call setup.plan awaited) (step_of net.controller Tick))
        ⊎ ((net.controller.live.left ≡ 1 → ⊥) × StillExpects setup serial identity awaited net.controller (step_of net.controller Tick))
        → IsQuit after ⊎ ((is_ended after.controller.live.phase ≡ false) × EndsSoon n after)
    mute_step n awaited net after at vain is later (inl over) = inl (quit_at awaited net after vain at.new_call over.1)
    mute_step zero awaited net after at vain is later (inr on) = absurd (on.0 is)
    mute_step (suc m) awaited net after at vain is later (inr on) =
        let next = mute_on awaited net after m is at vain on.1 in
        inr (still_open awaited after.controller next.expects, later m refl (left_on awaited net after (suc m) vain on.1 is) next)

    pub mute_soon : (n : ℕ) (awaited : Awaited) (net : Net F) → net.controller.live.left ≡ suc n → IsMute awaited net → EndsSoon (suc n) net
    mute_soon zero awaited net is at = λ after round.
        mute_step zero awaited net after at (mute_round awaited net after at round) is (λ m e later on. absurd cc)
        (halfway.unit serial net.controller awaited at.in_plan at.expects)
    mute_soon (suc n) awaited net is at = λ after round.
        mute_step (suc n) awaited net after at (mute_round awaited net after at round) is (λ m e later on. mute_soon n awaited after later on)
        (halfway.unit serial net.controller awaited at.in_plan at.expects)

    -- ---- each call is answered negatively

    -- Its request is under way, with outputs after it.
    pub record IsAsked (number : ℕ) (net : Net F) : Type 0 where
      pub bare : IsBare net
      pub few : number ≤ write_count setup.plan
      pub expects : Expects setup serial identity.mac (Response number) net.controller
      pub reached : is_reached setup net.device.live ≡ true
      pub new_call : IsNewCall setup (number + 1) net.device.live
      pub outputs : List (List ℕ)
      pub are : AllByRecursion (IsOutputs setup (Some serial) identity.mac) outputs
      pub under_way : net.to_device ≡ request_to setup identity (writing_from setup.plan number) ∷ outputs

    asked_round : (number : ℕ) (net after : Net F) → IsAsked number net → Round as_flash net after → WasDenied (writing_from setup.plan number) net after
    asked_round number net after at round =
        let request = writing_from setup.plan number in
        let parameter = parameter_is setup.plan number in
        denied_round serial request (of_relation_by setup.plan number request parameter) (numbered_by setup.plan number request halfway.few parameter) net after at.bare
        at.reached (subst (λ (n : ℕ). IsNewCall setup n net.device.live) (sym (sequence_is setup.plan number at.few)) at.new_call)
        at.outputs at.are at.under_way round

    newer_on : (number : ℕ) (net after : Net F) → number ≤ write_count setup.plan → WasDenied (writing_from setup.plan number) net after
        → (later : ℕ) → number + 1 < later → IsNewCall setup later after.device.live
    newer_on number net after few denied later less =
        denied.newer later (subst (λ (n : ℕ). n < later) (sym (sequence_is setup.plan number few)) less)

    -- It ended.
    denied_quit : (number : ℕ) (net after : Net F) → IsAsked number net → (denied : WasDenied (writing_from setup.plan number) net after)
        → EndsFor setup identity Refused (number + 1) (controller_step net.controller denied.octets) → IsQuit after
    denied_quit number net after at denied (inl ended) =
        let over = over_after as_flash setup next identity laws again again_next ends can starts Refused
        (controller_step net.controller denied.octets) after ended.0 ended.1 denied.passed in
        inl (inl (record { stands = denied.bare.stands; cause = Refused; ended = over.0; nothing = over.1; lasts = denied.bare.unrelated }))
    denied_quit number net after at denied (inr released) =
        let heard = controller_step net.controller denied.octets in
        let unit = halfway.releasing Refused released.sequence 0 heard.controller released.releasing in
        inr (record {
          bare = denied.bare;
          reached = reached_on net after denied.values ∙ at.reached;
          cause = Refused;
          sequence = released.sequence;
          waited = 1;
          numbered = released.numbered;
          releasing = subst (λ (c : Controlling). IsReleasing setup identity.mac Refused released.sequence 1 c) (sym denied.passed.controller) unit.1;
          under_way = denied.passed.to_device
              ∙ (ap (λ (fs : List (List ℕ)). fs ++ (step_of heard.controller Tick).frames) released.frames
              ∙ ap (λ (fs : List (List ℕ)). request_to setup identity (asks.Release released.sequence) ∷ fs) unit.0);
          new_call = newer_on number net after at.few denied released.sequence released.later;
        })

    -- The patience does not end before.
    not_spent : (count before after number : ℕ) → (before ≡ 0) ⊎ (suc (suc count) ≤ before) → (after ≡ before) ⊎ (after ≡ setup.options.patience)
        → suc count + number ≡ write_count setup.plan
        → (after ≡ 1 → ⊥) × ((after - 1 ≡ 0) ⊎ (suc count ≤ after - 1))
    not_spent count before after number (inl none) (inl same) is = (λ one. omega (arith, one, same, none), inl (omega (arith, same, none)))
    not_spent count before after number (inr long) (inl same) is = (λ one. omega (arith, one, same, long), inr (omega (arith, same, long)))
    not_spent count before after number patient (inr fresh) is = by_options can.patient
      where
        by_options : (setup.options.patience ≡ 0) ⊎ (write_count setup.plan + 3 ≤ setup.options.patience)
            → (after ≡ 1 → ⊥) × ((after - 1 ≡ 0) ⊎ (suc count ≤ after - 1))
        by_options (inl none) = (λ one. omega (arith, one, fresh, none), inl (omega (arith, fresh, none)))
        by_options (inr long) = (λ one. omega (arith, one, fresh, long), inr (omega (arith, fresh, long, is)))

    -- The next request is under way.
    written_next : (number : ℕ) (net after : Net F) → IsAsked number net → (denied : WasDenied (writing_from setup.plan number) net after)
        → (writes : WritesNext setup serial identity number net.controller (controller_step net.controller denied.octets))
        → StillExpects setup serial identity (Response (number + 1)) (controller_step net.controller denied.octets).controller
        (step_of (controller_step net.controller denied.octets).controller Tick)
        → IsAsked (number + 1) after
    written_next number net after at denied writes on =
        let heard = controller_step net.controller denied.octets in
        record {
          bare = denied.bare;
          few = omega (arith, writes.below);
          expects = subst (λ (c : Controlling). Expects setup serial identity.mac (Response (number + 1)) c) (sym denied.passed.controller) on.expects;
          reached = reached_on net after denied.values ∙ at.reached;
          new_call = newer_on number net after at.few denied (number + 1 + 1) (omega arith);
          outputs = on.outputs;
          are = on.are;
          under_way = denied.passed.to_device
              ∙ (ap (λ (fs : List (List ℕ)). fs ++ (step_of heard.controller Tick).frames) writes.frames
              ∙ ap (λ (fs : List (List ℕ)). request_to setup identity (writing_from setup.plan (number + 1)) ∷ fs)
              (on.frames
              ∙ ap (λ (n : ℕ). (if completes n then repeated setup identity (Response (number + 1)) else []) ++ on.outputs) writes.waits));
        }

    -- If the plan goes on after a refused record.
    asked_each : (count number : ℕ) (net : Net F) → count + number ≡ write_count setup.plan → IsAsked number net
        → (net.controller.live.left ≡ 0) ⊎ (suc count ≤ net.controller.live.left) → EndsSoon (suc count) net
    asked_each zero number net is at patient = λ after round.
        let denied = asked_round number net after at round in
        by_law after denied (halfway.denied serial net.controller number denied.octets at.few at.expects denied.denial (untried setup.plan denied.denial.status 0 denied.ready))
      where
        by_law : (after : Net F) (denied : WasDenied (writing_from setup.plan number) net after)
            → WritesNext setup serial identity number net.controller (controller_step net.controller denied.octets)
            ⊎ EndsFor setup identity Refused (number + 1) (controller_step net.controller denied.octets)
            → IsQuit after ⊎ ((is_ended after.controller.live.phase ≡ false) × ⊥)
        by_law after denied (inl writes) = absurd (omega (arith, is, writes.below))
        by_law after denied (inr ended) = inl (denied_quit number net after at denied ended)
    asked_each (suc count) number net is at patient = λ after round.
        let denied = asked_round number net after at round in
        by_law after denied (λ next few. asked_each count (number + 1) after (omega (arith, is)) next few)
        (halfway.denied serial net.controller number denied.octets at.few at.expects denied.denial (untried setup.plan denied.denial.status 0 denied.ready))
      where
        by_unit : (after : Net F) (denied : WasDenied (writing_from setup.plan number) net after)
            → (IsAsked (number + 1) after → (after.controller.live.left ≡ 0) ⊎ (suc count ≤ after.controller.live.left) → EndsSoon (suc count) after)
            → (writes : WritesNext setup serial identity number net.controller (controller_step net.controller denied.octets))
            → (((controller_step net.controller denied.octets).controller.live.left ≡ 1)
            × Releases setup identity NoProgress (last_call setup.plan (Response (number + 1))) (step_of (controller_step net.controller denied.octets).controller Tick))
            ⊎ (((controller_step net.controller denied.octets).controller.live.left ≡ 1 → ⊥)
            × StillExpects setup serial identity (Response (number + 1)) (controller_step net.controller denied.octets).controller
            (step_of (controller_step net.controller denied.octets).controller Tick))
            → IsQuit after ⊎ ((is_ended after.controller.live.phase ≡ false) × EndsSoon (suc count) after)
        by_unit after denied later writes (inl spent) =
            absurd ((not_spent count net.controller.live.left (controller_step net.controller denied.octets).controller.live.left number patient writes.left is).0 spent.0)
        by_unit after denied later writes (inr on) =
            let next = written_next number net after at denied writes on.1 in
            let rest = not_spent count net.controller.live.left (controller_step net.controller denied.octets).controller.live.left number patient writes.left is in
            inr (
              still_open (Response (number + 1)) after.controller next.expects,
              later next (subst (λ (n : ℕ). (n ≡ 0) ⊎ (suc count ≤ n))
                  (sym (ap (λ (c : Controlling). c.live.left) denied.passed.controller ∙ on.1.left)) rest.1),
            )

        by_law : (after : Net F) (denied : WasDenied (writing_from setup.plan number) net after)
            → (IsAsked (number + 1) after → (after.controller.live.left ≡ 0) ⊎ (suc count ≤ after.controller.live.left) → EndsSoon (suc count) after)
            → WritesNext setup serial identity number net.controller (controller_step net.controller denied.octets)
            ⊎ EndsFor setup identity Refused (number + 1) (controller_step net.controller denied.octets)
            → IsQuit after ⊎ ((is_ended after.controller.live.phase ≡ false) × EndsSoon (suc count) after)
        by_law after denied later (inl writes) =
            by_unit after denied later writes
            (halfway.unit serial (controller_step net.controller denied.octets).controller (Response (number + 1)) (omega (arith, writes.below)) writes.expects)
        by_law after denied later (inr ended) = inl (denied_quit number net after at denied ended)

    -- If it does not.
    asked_once : (number : ℕ) (net : Net F) → setup.plan.continue_on_refused_record ≡ false → IsAsked number net → EndsSoon 1 net
    asked_once number net stops at = λ after round.
        let denied = asked_round number net after at round in
        by_law after denied (halfway.denied serial net.controller number denied.octets at.few at.expects denied.denial (untried setup.plan denied.denial.status 0 denied.ready))
      where
        by_law : (after : Net F) (denied : WasDenied (writing_from setup.plan number) net after)
            → WritesNext setup serial identity number net.controller (controller_step net.controller denied.octets)
            ⊎ EndsFor setup identity Refused (number + 1) (controller_step net.controller denied.octets)
            → IsQuit after ⊎ ((is_ended after.controller.live.phase ≡ false) × ⊥)
        by_law after denied (inl writes) = absurd (not_both (sym writes.goes_on ∙ stops))
          where
            not_both : true ≡ false → ⊥
            not_both bad = absurd cc
        by_law after denied (inr ended) = inl (denied_quit number net after at denied ended)

    pub asked_soon : (number : ℕ) (net : Net F) → IsAsked number net → LastsFor (denials_left setup.plan number) net.controller
        → EndsSoon (denials_left setup.plan number) net
    asked_soon number net at patient = by_plan setup.plan.continue_on_refused_record refl patient
      where
        units : Bool → ℕ
        units goes_on = if goes_on then write_count setup.plan + 1 - number else 1

        by_plan : (goes_on : Bool) → setup.plan.continue_on_refused_record ≡ goes_on
            → (net.controller.live.left ≡ 0) ⊎ ((if goes_on then write_count setup.plan + 1 - number else 1) ≤ net.controller.live.left)
            → EndsSoon (if goes_on then write_count setup.plan + 1 - number else 1) net
        by_plan false e patient = asked_once number net e at
        by_plan true e patient =
            let count = write_count setup.plan - number in
            let is : suc count ≡ write_count setup.plan + 1 - number = omega (arith, at.few) in
            subst (λ (n : ℕ). EndsSoon n net) is
            (asked_each count number net (omega (arith, at.few)) at (subst (λ (n : ℕ). (net.controller.live.left ≡ 0) ⊎ (n ≤ net.controller.live.left)) (sym is) patient))

    -- ---- the request is sent again

    -- Outputs alone are under way, and the request will be sent again.
    pub record IsToAsk (number : ℕ) (net : Net F) : Type 0 where
      pub bare : IsBare net
      pub few : number ≤ write_count setup.plan
      pub expects : Expects setup serial identity.mac (Response number) net.controller
      pub reached : is_reached setup net.device.live ≡ true
      pub new_call : IsNewCall setup (number + 1) net.device.live
      pub outputs : AllByRecursion (IsOutputs setup (Some serial) identity.mac) net.to_device

    denials_some : (number : ℕ) → number ≤ write_count setup.plan → 1 ≤ denials_left setup.plan number
    denials_some number few = by_plan setup.plan.continue_on_refused_record
      where
        by_plan : (goes_on : Bool) → 1 ≤ (if goes_on then write_count setup.plan + 1 - number else 1)
        by_plan true = omega (arith, few)
        by_plan false = omega arith

    -- After a unit: the request is under way, or it is not yet.
    abbrev AskedOr : ℕ → ℕ → Net F → Net F → Type 0
    AskedOr rest number net after =
        ((rest ≡ 0) × IsAsked number after) ⊎ ((fewer : ℕ) × (rest ≡ suc fewer) × (32000 - after.controller.live.waited ≡ suc fewer) × IsToAsk number after)

    asked_or : (rest number : ℕ) (net after : Net F) → 32000 - net.controller.live.waited ≡ suc rest → IsToAsk number net → (vain : Vainly net after)
        → StillExpects setup serial identity (Response number) net.controller (step_of net.controller Tick) → AskedOr rest number net after
    asked_or rest number net after is at vain on = by_second (completes net.controller.live.waited) refl
      where
        expects : Expects setup serial identity.mac (Response number) after.controller
        expects = subst (λ (c : Controlling). Expects setup serial identity.mac (Response number) c) (sym vain.passed.controller) on.expects

        new_call : IsNewCall setup (number + 1) after.device.live
        new_call = ap (λ calls. cache.looked setup.activity (number + 1) calls) vain.calls ∙ at.new_call

        sent : (again : Bool) → completes net.controller.live.waited ≡ again
            → after.to_device ≡ (if again then repeated setup identity (Response number) else []) ++ on.outputs
        sent again e = vain.passed.to_device ∙ (on.frames ∙ ap (λ (b : Bool). (if b then repeated setup identity (Response number) else []) ++ on.outputs) e)

        is_second : completes net.controller.live.waited ≡ true → net.controller.live.waited + 1 ≡ 32000
        is_second e = grind (arith, nat_tests)

        no_second : completes net.controller.live.waited ≡ false → net.controller.live.waited + 1 ≡ 32000 → ⊥
        no_second e same = not_both (sym (eq-eqb (net.controller.live.waited + 1) 32000 same) ∙ e)
          where
            not_both : true ≡ false → ⊥
            not_both bad = absurd cc

        waited : (again : Bool) → completes net.controller.live.waited ≡ again
            → after.controller.live.waited ≡ (if again then 0 else net.controller.live.waited + 1)
        waited again e = ap (λ (c : Controlling). c.live.waited) vain.passed.controller
            ∙ (on.waits ∙ ap (λ (b : Bool). if b then 0 else net.controller.live.waited + 1) e)

        by_second : (again : Bool) → completes net.controller.live.waited ≡ again → AskedOr rest number net after
        by_second true e = inl (
          omega (arith, is, is_second e),
          record {
            bare = bare_on net after vain;
            few = at.few;
            expects = expects;
            reached = reached_on net after vain.values ∙ at.reached;
            new_call = new_call;
            outputs = on.outputs;
            are = on.are;
            under_way = sent true e;
          },
        )
        by_second false e = by_rest rest refl
          where
            more : 32000 - (net.controller.live.waited + 1) ≡ rest
            more = omega (arith, is)

            by_rest : (n : ℕ) → rest ≡ n → AskedOr rest number net after
            by_rest zero f = absurd (no_second e (omega (arith, is, f)))
            by_rest (suc fewer) f = inr (
              fewer,
              f,
              ap (λ (n : ℕ). 32000 - n) (waited false e) ∙ (more ∙ f),
              record {
                bare = bare_on net after vain;
                few = at.few;
                expects = expects;
                reached = reached_on net after vain.values ∙ at.reached;
                new_call = new_call;
                outputs = subst (AllByRecursion (IsOutputs setup (Some serial) identity.mac)) (sym (sent false e)) on.are;
              },
            )

    -- The patience does not end before.
    patient_on : (units left : ℕ) → (left ≡ 0) ⊎ (suc units ≤ left) → (left - 1 ≡ 0) ⊎ (units ≤ left - 1)
    patient_on units left (inl none) = inl (omega (arith, none))
    patient_on units left (inr long) = inr (omega (arith, long))

    not_one : (units left : ℕ) → 1 ≤ units → (left ≡ 0) ⊎ (suc units ≤ left) → left ≡ 1 → ⊥
    not_one units left some (inl none) one = absurd (omega (arith, none, one))
    not_one units left some (inr long) one = absurd (omega (arith, long, one, some))

    to_ask_step : (rest number : ℕ) (net after : Net F) → 32000 - net.controller.live.waited ≡ suc rest → IsToAsk number net
        → LastsFor (suc rest + denials_left setup.plan number) net.controller → Vainly net after
        → ((fewer : ℕ) → rest ≡ suc fewer → 32000 - after.controller.live.waited ≡ suc fewer → IsToAsk number after
        → LastsFor (suc fewer + denials_left setup.plan number) after.controller → EndsSoon (suc fewer + denials_left setup.plan number) after)
        → ((net.controller.live.left ≡ 1) × Releases setup identity NoProgress (last_call setup.plan (Response number)) (step_of net.controller Tick))
        ⊎ ((net.controller.live.left ≡ 1 → ⊥) × StillExpects setup serial identity (Response number) net.controller (step_of net.controller Tick))
        → IsQuit after ⊎ ((is_ended after.controller.live.phase ≡ false) × EndsSoon (rest + denials_left setup.plan number) after)
    to_ask_step rest number net after is at patient vain later (inl spent) =
        absurd (not_one (rest + denials_left setup.plan number) net.controller.live.left (omega (arith, denials_some number at.few)) (plus_one patient) spent.0)
      where
        plus_one : LastsFor (suc rest + denials_left setup.plan number) net.controller
            → (net.controller.live.left ≡ 0) ⊎ (suc (rest + denials_left setup.plan number) ≤ net.controller.live.left)
        plus_one (inl none) = inl none
        plus_one (inr long) = inr (omega (arith, long))
    to_ask_step rest number net after is at patient vain later (inr on) = by_asked (asked_or rest number net after is at vain on.1)
      where
        units : ℕ
        units = denials_left setup.plan number

        plus_one : LastsFor (suc rest + denials_left setup.plan number) net.controller
            → (net.controller.live.left ≡ 0) ⊎ (suc (rest + denials_left setup.plan number) ≤ net.controller.live.left)
        plus_one (inl none) = inl none
        plus_one (inr long) = inr (omega (arith, long))

        lasts : LastsFor (rest + denials_left setup.plan number) after.controller
        lasts = subst (λ (n : ℕ). (n ≡ 0) ⊎ (rest + denials_left setup.plan number ≤ n))
            (sym (ap (λ (c : Controlling). c.live.left) vain.passed.controller ∙ on.1.left))
            (patient_on (rest + denials_left setup.plan number) net.controller.live.left (plus_one patient))

        by_asked : AskedOr rest number net after → IsQuit after ⊎ ((is_ended after.controller.live.phase ≡ false) × EndsSoon (rest + denials_left setup.plan number) after)
        by_asked (inl asked) =
            let same : denials_left setup.plan number ≡ rest + denials_left setup.plan number = omega (arith, asked.0) in
            inr (
              still_open (Response number) after.controller asked.1.expects,
              subst (λ (n : ℕ). EndsSoon n after) same
                  (asked_soon number after asked.1 (subst (λ (n : ℕ). LastsFor n after.controller) (sym same) lasts)),
            )
        by_asked (inr more) =
            let same : suc more.0 + denials_left setup.plan number ≡ rest + denials_left setup.plan number = omega (arith, more.1) in
            inr (
              still_open (Response number) after.controller more.3.expects,
              subst (λ (n : ℕ). EndsSoon n after) same
                  (later more.0 more.1 more.2 more.3 (subst (λ (n : ℕ). LastsFor n after.controller) (sym same) lasts)),
            )

    to_ask_round : (number : ℕ) (net after : Net F) → IsToAsk number net → Round as_flash net after → Vainly net after
    to_ask_round number net after at round = round_in_vain net after (IsOutputs setup (Some serial) identity.mac) (outputs_vain net at.bare) at.bare at.outputs round

    one_more : (rest units : ℕ) → suc (rest + units) ≡ suc rest + units
    one_more rest units = omega arith

    pub to_ask_soon : (rest number : ℕ) (net : Net F) → 32000 - net.controller.live.waited ≡ suc rest → IsToAsk number net
        → LastsFor (suc rest + denials_left setup.plan number) net.controller → EndsSoon (suc rest + denials_left setup.plan number) net
    to_ask_soon zero number net is at patient =
        subst (λ (n : ℕ). EndsSoon n net) (one_more 0 (denials_left setup.plan number)) (λ after round.
        to_ask_step zero number net after is at patient (to_ask_round number net after at round) (λ fewer e waits next lasts. absurd cc)
        (halfway.unit serial net.controller (Response number) at.few at.expects))
    to_ask_soon (suc rest) number net is at patient =
        subst (λ (n : ℕ). EndsSoon n net) (one_more (suc rest) (denials_left setup.plan number)) (λ after round.
        to_ask_step (suc rest) number net after is at patient (to_ask_round number net after at round)
        (λ fewer e waits next lasts.
        let same : fewer ≡ rest = omega (arith, e) in
        subst (λ (n : ℕ). EndsSoon (suc n + denials_left setup.plan number) after) (sym same)
        (to_ask_soon rest number after (waits ∙ ap (λ (n : ℕ). suc n) same) next
        (subst (λ (n : ℕ). LastsFor (suc n + denials_left setup.plan number) after.controller) same lasts)))
        (halfway.unit serial net.controller (Response number) at.few at.expects))
