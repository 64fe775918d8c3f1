-- The second round of a start at a device that still has a relation: it refuses the request, and the controller has ended.
use Rattle.std.proofs.Common.{◌≡◌, ◌⊎◌, inl, inr, ◌≤◌, ◌<◌, ℕ, suc, true, false, List, [], ◌∷◌, ◌++◌, None, Some, refl, sym, ap, subst, ◌∙◌, arith}
use Rattle.std.specs.List.{AllByRecursion}
use Rattle.flash_model.specs.declared.flash.Flash.{Ghosts as Flash}
use Rattle.pn_values.specs.declared.identity.Identity.{Identity}
use Rattle.relations.specs.RelationState.{RelationState, uuid_of}
use Rattle.device_frames.specs.Heard.{Ticks}
use Rattle.device_frames.specs.Sendable.{AreSendable}
use Rattle.device_core.specs.State.{Live, State}
use Rattle.controller_messages.specs.declared.request.Request.{Request}
use Rattle.controller_messages.specs.declared.request.Request.TheVariants as wants
use Rattle.controller_messages.specs.declared.setup.Setup.{Setup}
use Rattle.controller_core.specs.declared.stored.event.Event.TheVariants.{Tick}
use Rattle.controller_core.specs.declared.stored.state.Cause.TheVariants.{Refused}
use Rattle.controller_core.specs.declared.stored.state.State.{State as Phases}
use Rattle.controller_core.specs.declared.stored.state.State.TheVariants.{Addressing, Connecting}
use Rattle.controller_core.specs.stored.State.{Controlling}
use Rattle.controller_core.specs.Machine.{Stepped, step_of}
use Rattle.network_world.specs.World.{is_ended}
use Rattle.end_laws.specs.hearing.Stations.{IsDevice}
use Rattle.rounds_law.specs.Abandoned.{EndsFor}
use Rattle.rounds_law.specs.Again.{unset_frame}
use Rattle.rounds_law.specs.Anywhere.{IsAnyDevice, remains}
use Rattle.rounds_law.specs.AnywhereAgain.{StartLaws}
use Rattle.rounds_law.specs.AnywhereFrames.{AreOwn, IsRelease}
use Rattle.rounds_law.specs.Path.{Asks, IsAddressed, controller_step, device_step, request_to}
use Rattle.rounds_law.specs.Rounds.{Goes, HearsAll, Net, Round}
use Rattle.rounds_law.specs.Start.{CanStart}
use Rattle.rounds_law.proofs.AnywhereBesideEarly.{IsEarly, IsIgnoredEarly, UnitLaws, ignore_early}
use Rattle.rounds_law.proofs.AnywhereBesideLooks.{AsksBeside, IsAskingBeside}
use Rattle.rounds_law.proofs.AnywhereAsked.{none_repeats}
use Rattle.rounds_law.proofs.AnywhereBesideRound.{AnyForAll, Pair, UnderWayForAll, unit_nearer}
use Rattle.rounds_law.proofs.AnywhereBesideUnit.{unit_passed}
use Rattle.rounds_law.proofs.AnywhereControllerSent.{request_said}
use Rattle.rounds_law.proofs.AnywhereRounds.{any_device}
use Rattle.rounds_law.proofs.CompositionEnds.{Passed, passed}
use Rattle.rounds_law.proofs.CompositionLists.{arrive_first, arrives_as, hears_one, never}

-- What holds of a round holds for each of the starts that follow.
pub all_kept : {F : Type 0} {S : ℕ} (as_flash : Flash F S) (identity : Identity) (silence : ℕ) (setup : Setup) (starts : List Setup)
    → AllByRecursion (Pair as_flash identity silence setup) starts → (net after : Net F) → UnderWayForAll as_flash identity silence setup starts net
    → Round as_flash net after → UnderWayForAll as_flash identity silence setup starts after
all_kept as_flash identity silence setup [] pairs net after all round = tt
all_kept as_flash identity silence setup (start ∷ starts) pairs net after all round =
    (pairs.0.keeps pairs.0.long pairs.0.patience net after all.0 round, all_kept as_flash identity silence setup starts pairs.1 net after all.1 round)

-- So does what holds of the device after frames of the controller.
pub all_heard : {F : Type 0} {S : ℕ} (as_flash : Flash F S) (identity : Identity) (silence : ℕ) (setup : Setup) (starts : List Setup)
    → AllByRecursion (Pair as_flash identity silence setup) starts → (net : Net F) (answers : List (List ℕ)) (device : State F)
    → HearsAll as_flash net.device net.to_device answers device → UnderWayForAll as_flash identity silence setup starts net
    → AnyForAll as_flash identity silence setup starts device
all_heard as_flash identity silence setup [] pairs net answers device hears all = tt
all_heard as_flash identity silence setup (start ∷ starts) pairs net answers device hears all = (
  (any_device as_flash setup start identity silence pairs.0.long pairs.0.patience pairs.0.device_frame net.device net.to_device answers device hears
      all.0.device all.0.to_device).0,
  all_heard as_flash identity silence setup starts pairs.1 net answers device hears all.1,
)

-- What the device sends in a unit is ignored by the controller of each of them.
abbrev pub EarlyForAll : List Setup → List (List ℕ) → Type 0
EarlyForAll starts frames = AllByRecursion (λ start. AllByRecursion (IsIgnoredEarly start) frames) starts

pub all_passed : {F : Type 0} {S : ℕ} (as_flash : Flash F S) (identity : Identity) (silence : ℕ) (said : UnitLaws) (setup : Setup) (starts : List Setup)
    → IsDevice identity → (before : State F) (frames : List (List ℕ)) (after : State F) → Goes as_flash before Ticks frames after
    → AnyForAll as_flash identity silence setup starts before → EarlyForAll starts frames
all_passed as_flash identity silence said setup [] real before frames after goes all = tt
all_passed as_flash identity silence said setup (start ∷ starts) real before frames after goes all = (
  (unit_passed said start identity as_flash real setup silence before frames after goes all.0.of_device all.0.lasts all.0.asked).early,
  all_passed as_flash identity silence said setup starts real before frames after goes all.1,
)

module _ {F : Type 0} {S : ℕ} (as_flash : Flash F S) (identity : Identity) (silence : ℕ) (said : UnitLaws) (before setup next : Setup) (rest : List Setup)
    (pairs : AllByRecursion (Pair as_flash identity silence before) (setup ∷ next ∷ rest)) (laws : StartLaws as_flash identity setup)
    (can : CanStart setup identity)
    (later_pairs : AllByRecursion (Pair as_flash identity silence setup) (next ∷ rest)) where
  -- The controller has ended, and its Releases at most are under way. The relation is over, or has at most this many units.
  pub record IsEndedBeside (left : ℕ) (net : Net F) : Type 0 where
    pub nets : UnderWayForAll as_flash identity silence setup (next ∷ rest) net
    pub ended : is_ended net.controller.live.phase ≡ true
    pub releases : AreOwn setup IsRelease net.to_device
    pub early : EarlyForAll (next ∷ rest) net.to_controller
    pub time : (net.device.live.rest.link ≡ None) ⊎ (suc (remains net.device.live.rest.link) ≤ left)

  abbrev Asking : ℕ → Phases → Request → Net F → Type 0
  Asking left phase request net = IsAskingBeside as_flash identity silence said before setup (next ∷ rest) pairs laws can left phase request net

  -- The controller after the unit of the round in which it was refused.
  abbrev HasQuit : Net F → Type 0
  HasQuit net = (is_ended net.controller.live.phase ≡ true) × AreOwn setup IsRelease net.to_device

  release_own : (sequence : ℕ) → sequence < 4294967296 → AreOwn setup IsRelease (request_to setup identity (wants.Release sequence) ∷ [])
  release_own sequence few = (request_said setup IsRelease identity.mac (wants.Release sequence) later_pairs.0.long.of_device few tt, tt)

  ended_after : (heard : Stepped) (after : Net F) → EndsFor setup identity Refused 0 heard → Passed heard after → HasQuit after
  ended_after heard after (inl (none, ended)) u =
      let law = laws.controller_ended heard.controller ended in (
        ap (λ (c : Controlling). is_ended c.live.phase) u.controller ∙ ap is_ended law.1.in_phase,
        subst (AreOwn setup IsRelease)
            (sym (u.to_device ∙ (ap (λ (fs : List (List ℕ)). fs ++ (step_of heard.controller Tick).frames) none ∙ law.0))) tt,
      )
  ended_after heard after (inr released) u =
      let law = laws.controller_releasing released.sequence 0 heard.controller released.releasing in
      let release = request_to setup identity (wants.Release released.sequence) ∷ [] in (
        ap (λ (c : Controlling). is_ended c.live.phase) u.controller ∙ ap is_ended law.1.in_phase,
        subst (AreOwn setup IsRelease)
            (sym (u.to_device ∙ (ap (λ (fs : List (List ℕ)). fs ++ (step_of heard.controller Tick).frames) released.frames
            ∙ ap (λ (fs : List (List ℕ)). release ++ fs) law.0))) (release_own released.sequence released.numbered),
      )

  module _ (fewer : ℕ) (phase : Phases) (request : Request) (net after : Net F) (at : Asking (suc fewer) phase request net)
      (link : RelationState) (has : net.device.live.rest.link ≡ Some link) (round : Round as_flash net after) where
    -- The device before the unit, if its relation is unchanged.
    any_here : IsAnyDevice setup next identity silence round.device.station round.device.live
    any_here = (any_device as_flash setup next identity silence later_pairs.0.long later_pairs.0.patience later_pairs.0.device_frame
        net.device net.to_device round.answers round.device round.arrives at.nets.0.device at.nets.0.to_device).0

    few_here : round.device.live.rest.link ≡ net.device.live.rest.link → remains round.device.live.rest.link ≤ fewer
    few_here same = by_time at.time
      where
        gone : None ≡ Some link → ⊥
        gone bad = absurd cc

        by_time : (net.device.live.rest.link ≡ None) ⊎ (suc (remains net.device.live.rest.link) ≤ suc fewer) → remains round.device.live.rest.link ≤ fewer
        by_time (inl none) = absurd (gone (sym none ∙ has))
        by_time (inr few) = subst (λ (n : ℕ). n ≤ fewer) (sym (ap remains same)) (omega (arith, few))

    ended_with : round.device.live.rest.link ≡ net.device.live.rest.link → HasQuit after → IsEndedBeside fewer after
    ended_with same over = record {
      nets = all_kept as_flash identity silence setup (next ∷ rest) later_pairs net after at.nets round;
      ended = over.0;
      releases = over.1;
      early = all_passed as_flash identity silence said setup (next ∷ rest) later_pairs.0.long.of_device round.device after.to_controller after.device
          round.unit (all_heard as_flash identity silence setup (next ∷ rest) later_pairs net round.answers round.device round.arrives at.nets);
      time = unit_nearer as_flash identity silence setup next later_pairs.0 fewer round.device after.device after.to_controller round.unit any_here
          (few_here same);
    }

    -- What the controller hears first is ignored.
    asks_early : (c : Controlling) → Asks setup identity.mac phase request None at.spare c → IsEarly phase
        → (c.setup ≡ setup) × (c.live.stands ≡ false) × IsEarly c.live.phase
    asks_early c is early = (is.of_setup, is.established, subst IsEarly (sym is.in_phase) early)

    -- It is refused with this answer.
    refused_with : (octets : List ℕ) → IsEarly phase → round.answers ≡ octets ∷ [] → round.device.live.rest.link ≡ net.device.live.rest.link
        → ((controller : Controlling) → Asks setup identity.mac phase request None at.spare controller
        → EndsFor setup identity Refused 0 (controller_step controller octets))
        → IsEndedBeside fewer after
    refused_with octets early answered same ends =
        let kept = ignore_early setup (λ (c : Controlling). Asks setup identity.mac phase request None at.spare c) (λ c is. asks_early c is early)
        net.controller net.to_controller (octets ∷ []) at.early at.asks in
        let step = controller_step kept.between octets in
        let ended = ends kept.between kept.is in
        ended_with same (ended_after step after ended
        (passed as_flash net after round (octets ∷ []) step answered (kept.goes_on ∙ hears_one kept.between octets)))

  connect_refused : (fewer : ℕ) (net after : Net F) (at : Asking (suc fewer) Connecting wants.Connect net) → IsAddressed setup net.device.live
      → (link : RelationState) → net.device.live.rest.link ≡ Some link → Round as_flash net after → IsEndedBeside fewer after
  connect_refused fewer net after at addressed link has round =
      let station = net.device.station in
      let connect = request_to setup identity wants.Connect in
      let law = λ (sendable : AreSendable station.identity (device_step [] station net.device.live connect).sent).
      laws.device_refused can.can_meet can.has_address [] station net.device.live link at.device.of_device addressed has at.device.uncalled_next
      (none_repeats before setup (uuid_of net.device.live.rest.link) net.device.live.rest.asked.standing 0 at.device.asked)
      (subst (λ (i : Identity). AreSendable i (device_step [] station net.device.live connect).sent) at.device.of_device sendable) in
      let all = arrive_first as_flash station (λ (live : Live). live.rest.link ≡ net.device.live.rest.link) (λ (octets : List ℕ). ⊥)
      (never (λ (live : Live). live.rest.link ≡ net.device.live.rest.link) station)
      net.device connect [] round.answers round.device refl (λ sendable. (law sendable).4) tt
      (arrives_as as_flash net after round (connect ∷ []) at.under_way) in
      let its = law all.1 in
      refused_with fewer Connecting wants.Connect net after at link has round its.0 tt (all.0.sent ∙ its.1) all.0.is
      (λ controller asks. laws.controller_refused controller at.spare its.0 asks its.2)

  address_refused : (fewer : ℕ) (net after : Net F) (at : Asking (suc fewer) Addressing wants.Address net)
      → (link : RelationState) → net.device.live.rest.link ≡ Some link → Round as_flash net after → IsEndedBeside fewer after
  address_refused fewer net after at link has round =
      let station = net.device.station in
      let address = request_to setup identity wants.Address in
      let law = laws.device_unset [] station net.device.live link at.device.of_device has in
      let all = arrive_first as_flash station (λ (live : Live). live ≡ net.device.live) (λ (octets : List ℕ). ⊥)
      (never (λ (live : Live). live ≡ net.device.live) station)
      net.device address [] round.answers round.device refl (λ sendable. law.1) tt
      (arrives_as as_flash net after round (address ∷ []) at.under_way) in
      refused_with fewer Addressing wants.Address net after at link has round (unset_frame setup identity) tt (all.0.sent ∙ law.0)
      (ap (λ (live : Live). live.rest.link) all.0.is) (λ controller asks. inl (laws.controller_unset controller at.spare asks))

  -- After the second round the controller has ended.
  pub ends_beside : (fewer : ℕ) (net after : Net F) → AsksBeside as_flash identity silence said before setup (next ∷ rest) pairs laws can (suc fewer) net
      → (link : RelationState) → net.device.live.rest.link ≡ Some link → Round as_flash net after → IsEndedBeside fewer after
  ends_beside fewer net after (inl (addressed, at)) link has round = connect_refused fewer net after at addressed link has round
  ends_beside fewer net after (inr (able, at)) link has round = address_refused fewer net after at link has round
