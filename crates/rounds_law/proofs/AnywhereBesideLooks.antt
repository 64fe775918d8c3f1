-- The first round of a start at a device in any state: it answers the Identify, and the controller asks for its relation, or sets the IP suite.
use Rattle.std.proofs.Common.{◌≡◌, ◌⊎◌, inl, inr, ◌≤◌, ◌+◌, ℕ, suc, true, false, List, [], ◌∷◌, ◌++◌, None, refl, sym, ap, subst, ◌∙◌}
use Rattle.std.specs.List.{AllByRecursion}
use Rattle.std.proofs.lemmas.List.{append_assoc}
use Rattle.flash_model.specs.declared.flash.Flash.{Ghosts as Flash}
use Rattle.pn_values.specs.declared.identity.Identity.{Identity}
use Rattle.settings_journal.specs.settings_store.State.{Values}
use Rattle.device_core.specs.State.{Live, State}
use Rattle.controller_messages.specs.declared.request.Request.{Request}
use Rattle.controller_messages.specs.declared.request.Request.TheVariants as wants
use Rattle.controller_messages.specs.declared.setup.Setup.{Setup}
use Rattle.controller_messages.specs.Requests.{write_count}
use Rattle.controller_messages.specs.Sent.{Requests}
use Rattle.controller_core.specs.declared.stored.event.Event.TheVariants.{Tick}
use Rattle.controller_core.specs.declared.stored.state.State.{State as Phases}
use Rattle.controller_core.specs.declared.stored.state.State.TheVariants.{Addressing, Connecting}
use Rattle.controller_core.specs.stored.State.{Controlling, is_limited}
use Rattle.controller_core.specs.Machine.{Stepped, first as first_live, opening_of, step_of}
use Rattle.end_laws.specs.hearing.Stations.{IsDevice}
use Rattle.end_laws.specs.turns.Runs.{IsReached}
use Rattle.rounds_law.specs.Again.{begun_with, made}
use Rattle.rounds_law.specs.Anywhere.{IsAnyController, IsAnyDevice, remains}
use Rattle.rounds_law.specs.AnywhereAgain.{StartLaws}
use Rattle.rounds_law.specs.AnywhereFrames.{AreOwn, IsAnything, IsOwn, IsRelease}
use Rattle.rounds_law.specs.Path.{Asks, AsksNext, FindsIt, IsAddressed, IsIgnored, IsNamed, controller_step, found_frame, request_to}
use Rattle.rounds_law.specs.Rounds.{HearsAll, Net, Round, hears_all}
use Rattle.rounds_law.specs.Start.{CanBeAddressed, CanStart}
use Rattle.rounds_law.proofs.AnywhereBesideEarly.{IsEarly, IsIgnoredEarly, UnitLaws, all_early, ignore_early}
use Rattle.rounds_law.proofs.AnywhereBesideRound.{AnyForAll, Few, Pair, UnderWayForAll, addressed_next, all_aged, all_next, all_released, all_still}
use Rattle.rounds_law.proofs.AnywhereBesideRound.{few_on, own_release}
use Rattle.rounds_law.proofs.AnywhereBesideRound.{reached_all, reached_by, reached_made, unit_nearer}
use Rattle.rounds_law.proofs.AnywhereBesideUnit.{UnitPassed, unit_passed}
use Rattle.rounds_law.proofs.AnywhereRounds.{all_joined, device_after}
use Rattle.rounds_law.proofs.AnywhereStarts.{InParts, in_parts}
use Rattle.rounds_law.proofs.CompositionEnds.{Passed, can_by, passed, searching_first}
use Rattle.rounds_law.proofs.CompositionLists.{arrive_first, hears_one, never}
use Rattle.rounds_law.proofs.CompositionRounds.{opening_is, two_more}

module _ {F : Type 0} {S : ℕ} (as_flash : Flash F S) (identity : Identity) (silence : ℕ) (said : UnitLaws) (before setup : Setup) (later : List Setup)
    (pairs : AllByRecursion (Pair as_flash identity silence before) (setup ∷ later)) (laws : StartLaws as_flash identity setup)
    (can : CanStart setup identity) where
  real : IsDevice identity
  real = pairs.0.long.of_device

  -- What is known before the start, with its Identify still to be sent: the Releases of the controller before are all that is under way to the
  -- device.
  pub record IsReady (left : ℕ) (net : Net F) : Type 0 where
    pub nets : UnderWayForAll as_flash identity silence before (setup ∷ later) net
    pub releases : AreOwn before IsRelease net.to_device
    pub early : AllByRecursion (IsIgnoredEarly setup) net.to_controller
    pub few : Few as_flash identity silence left net.device

  devices_of : (starts : List Setup) (net : Net F) → UnderWayForAll as_flash identity silence before starts net
      → AnyForAll as_flash identity silence before starts net.device
  devices_of [] net all = tt
  devices_of (start ∷ starts) net all = (all.0.device, devices_of starts net all.1)

  -- ---- the Releases

  -- The device after them.
  record IsReleased (left : ℕ) (net : Net F) (parts : State F) (frames : List (List ℕ)) : Type 0 where
    all : AnyForAll as_flash identity silence before (setup ∷ later) parts
    few : Few as_flash identity silence left parts
    ignored : AllByRecursion (IsIgnored setup) frames

  released : (left : ℕ) (net : Net F) (frames : List (List ℕ)) (after : State F) → IsReady left net → HearsAll as_flash net.device net.to_device frames after
      → IsReleased left net after frames
  released left net frames after ready hears =
      let all = all_released as_flash identity silence before (setup ∷ later) pairs net.device net.to_device frames after hears ready.releases
      (devices_of (setup ∷ later) net ready.nets) in
      let head = device_after as_flash
      (λ (device : State F). IsAnyDevice before setup identity silence device.station device.live × Few as_flash identity silence left device)
      (IsOwn before IsRelease) (IsIgnored setup)
      (λ from to octets answers hear is own. (
        (
          (pairs.0.device_frame pairs.0.long from to octets answers hear is.0 (own_release as_flash identity silence before octets own)).0,
          few_on as_flash identity silence left from to (pairs.0.link_release pairs.0.long from to octets answers hear is.0 own) is.1,
        ),
        pairs.0.ignored from to octets answers hear is.0 own,
      ))
      net.device net.to_device frames after hears (ready.nets.0.device, ready.few) ready.releases in
      record { all = all; few = head.0.1; ignored = head.1 }

  -- ---- the request that follows

  -- The controller asks, and the device may still have a relation. If it has none, the frames that are under way are ignored.
  pub record IsAskingBeside (left : ℕ) (phase : Phases) (request : Request) (net : Net F) : Type 0 where
    pub spare : ℕ
    pub asks : Asks setup identity.mac phase request None spare net.controller
    pub under_way : net.to_device ≡ request_to setup identity request ∷ []
    pub device : IsAnyDevice before setup identity silence net.device.station net.device.live
    pub nets : UnderWayForAll as_flash identity silence setup later net
    pub early : AllByRecursion (IsIgnoredEarly setup) net.to_controller
    pub over : net.device.live.rest.link ≡ None → AllByRecursion (IsIgnored setup) net.to_controller
    pub time : (net.device.live.rest.link ≡ None) ⊎ (suc (remains net.device.live.rest.link) ≤ left)

  -- The Connect to a device with the plan's IP suite, or the Set of the IP suite to a device that can store it.
  abbrev pub AsksBeside : ℕ → Net F → Type 0
  AsksBeside left net = (IsAddressed setup net.device.live × IsAskingBeside left Connecting wants.Connect net)
      ⊎ (CanBeAddressed net.device.live × IsAskingBeside left Addressing wants.Address net)

  wells_of : (starts : List Setup) → AllByRecursion (Pair as_flash identity silence setup) starts → (net after : Net F) (device : State F)
      → IsAnyController setup after.controller → AreOwn setup IsAnything after.to_device
      → (round : Round as_flash net after) → AnyForAll as_flash identity silence setup starts round.device
      → UnderWayForAll as_flash identity silence setup starts after
  wells_of [] all net after device controller own round any = tt
  wells_of (start ∷ starts) all net after device controller own round any =
      let unit = all.0.device_unit all.0.long round.device after.device after.to_controller round.unit any.0 in (
        record { controller = controller; device = unit.0; to_device = own; to_controller = unit.1 },
        wells_of starts all.1 net after device controller own round any.1,
      )

  own_request : (request : Request) → request ≡ wants.Connect ⊎ request ≡ wants.Address → IsOwn setup IsAnything (request_to setup identity request)
  own_request request (inl is) =
      subst (λ (r : Request). IsOwn setup IsAnything (request_to setup identity r)) (sym is)
      (record { message = Requests identity.mac wants.Connect; frame = refl; sendable = (real, tt); way = tt; is = tt })
  own_request request (inr is) =
      subst (λ (r : Request). IsOwn setup IsAnything (request_to setup identity r)) (sym is)
      (record { message = Requests identity.mac wants.Address; frame = refl; sendable = (real, tt); way = tt; is = tt })

  -- The controller after the unit of a round in which it has asked.
  asked_after : (phase : Phases) (request : Request) (spare : ℕ) (heard : Stepped) (after : Net F) → is_limited phase ≡ true → Passed heard after
      → AsksNext setup identity phase request None (suc spare) heard
      → Asks setup identity.mac phase request None spare after.controller × (after.to_device ≡ request_to setup identity request ∷ [])
  asked_after phase request spare heard after limited u next = (
    subst (λ (c : Controlling). Asks setup identity.mac phase request None spare c) (sym u.controller)
        (laws.controller_unit heard.controller phase request spare limited next.asks),
    u.to_device ∙ (ap (λ (fs : List (List ℕ)). fs ++ (step_of heard.controller Tick).frames) next.frames
        ∙ ap (λ (fs : List (List ℕ)). request_to setup identity request ∷ fs)
        (laws.controller_unsent heard.controller phase request spare limited next.asks)),
  )

  module _ (later_pairs : AllByRecursion (Pair as_flash identity silence setup) later) (left : ℕ) (net after : Net F) (ready : IsReady left net)
      (round : Round as_flash (begun_with setup net) after) where
    parts : InParts as_flash net.device net.to_device (opening_of (made setup) ∷ []) round.answers round.device
    parts = in_parts as_flash net.device net.to_device (opening_of (made setup) ∷ []) round.answers round.device round.arrives

    then_released : IsReleased left net parts.between parts.one
    then_released = released left net parts.one parts.between ready parts.arrives

    -- The device at the Identify.
    record IsFound : Type 0 where
      sent : parts.other ≡ found_frame setup identity parts.between.live.values.running ∷ []
      of_station : round.device.station ≡ parts.between.station
      live : round.device.live ≡ parts.between.live

    at_identify : IsAnyDevice before setup identity silence parts.between.station parts.between.live
    at_identify = then_released.all.0

    named_here : IsNamed setup parts.between.live
    named_here = record { name = at_identify.named.name ∙ ap (λ p. p.station.name) (sym pairs.0.long.starts.plan) }

    found : IsFound
    found =
        let station = parts.between.station in
        let identify = request_to setup identity wants.Identify in
        let law = laws.device_found [] station parts.between.live at_identify.of_device named_here in
        let all = arrive_first as_flash station (λ (live : Live). live ≡ parts.between.live) (λ (octets : List ℕ). ⊥)
        (never (λ (live : Live). live ≡ parts.between.live) station)
        parts.between identify [] parts.other round.device refl (λ sendable. law.0) tt
        (subst (λ (f : List ℕ). HearsAll as_flash parts.between (f ∷ []) parts.other round.device) (opening_is setup identity (made setup) refl) parts.later) in
        record { sent = all.0.sent ∙ law.1; of_station = all.0.of_station; live = all.0.is }

    -- The device then, and after the unit.
    devices_found : AnyForAll as_flash identity silence before (setup ∷ later) round.device
    devices_found = all_still as_flash identity silence before (setup ∷ later) parts.between round.device found.of_station found.live then_released.all

    devices_later : AnyForAll as_flash identity silence before (setup ∷ later) after.device
    devices_later = all_aged as_flash identity silence before (setup ∷ later) pairs round.device after.device after.to_controller round.unit devices_found

    unit : UnitPassed said setup identity round.device after.to_controller after.device
    unit = unit_passed said setup identity as_flash real before silence round.device after.to_controller after.device round.unit devices_found.0.of_device
        devices_found.0.lasts devices_found.0.asked

    nearer : (after.device.live.rest.link ≡ None) ⊎ (suc (remains after.device.live.rest.link) ≤ left)
    nearer = unit_nearer as_flash identity silence before setup pairs.0 left round.device after.device after.to_controller round.unit devices_found.0
        (subst (λ (l : Live). remains l.rest.link ≤ left) (sym found.live) then_released.few)

    -- The controller.
    abbrev IsFirst : Controlling → Type 0
    IsFirst c = (c.setup ≡ setup) × (c.live ≡ first_live setup.plan)

    ignored : AllByRecursion (IsIgnoredEarly setup) (net.to_controller ++ parts.one)
    ignored = all_joined (IsIgnoredEarly setup) net.to_controller parts.one ready.early (all_early setup parts.one then_released.ignored)

    values_are : after.device.live.values ≡ parts.between.live.values
    values_are = unit.values ∙ ap (λ (l : Live). l.values) found.live

    any_controller : (phase : Phases) (request : Request) (spare : ℕ) → Asks setup identity.mac phase request None spare after.controller
        → IsAnyController setup after.controller
    any_controller phase request spare asks = record {
      of_setup = asks.of_setup;
      reached = subst IsReached (sym round.controller)
          (reached_by _ Tick (reached_all (made setup) (net.to_controller ++ round.answers) (reached_made setup)));
      routed = λ stands. unestablished (sym asks.established ∙ stands);
      alone = asks.alone.0;
    }
      where
        unestablished : {A : Type 0} → false ≡ true → A
        unestablished bad = absurd cc

    asking : (phase : Phases) (request : Request) (spare : ℕ) → request ≡ wants.Connect ⊎ request ≡ wants.Address
        → Asks setup identity.mac phase request None spare after.controller × (after.to_device ≡ request_to setup identity request ∷ [])
        → IsAskingBeside left phase request after
    asking phase request spare is asked = record {
      spare = spare;
      asks = asked.0;
      under_way = asked.1;
      device = devices_later.0;
      nets = wells_of later later_pairs (begun_with setup net) after after.device (any_controller phase request spare asked.0)
          (subst (AreOwn setup IsAnything) (sym asked.1) (own_request request is, tt)) round
          (all_next as_flash identity silence before setup later round.device pairs.0.long.starts devices_found.0 devices_found.1);
      early = unit.early;
      over = unit.over;
      time = nearer;
    }

    by_found : (step : Stepped) → Passed step after → FindsIt setup identity parts.between.live.values.running (write_count setup.plan + 2) step
        → AsksBeside left after
    by_found step u (inl is) =
        let spare = write_count setup.plan + 1 in
        let asked = asked_after Connecting wants.Connect spare step after refl u
        (subst (λ (n : ℕ). AsksNext setup identity Connecting wants.Connect None n step) (two_more (write_count setup.plan)) is.1) in
        inl (record { suite = ap (λ (v : Values). v.running.suite) values_are ∙ is.0 }, asking Connecting wants.Connect spare (inl refl) asked)
    by_found step u (inr is) =
        let spare = write_count setup.plan + 1 in
        let asked = asked_after Addressing wants.Address spare step after refl u
        (subst (λ (n : ℕ). AsksNext setup identity Addressing wants.Address None n step) (two_more (write_count setup.plan)) is.1) in
        inr (
          room (addressed_next as_flash identity silence before setup parts.between.live pairs.0.long.starts at_identify.addressed),
          asking Addressing wants.Address spare (inr refl) asked,
        )
      where
        room : IsAddressed setup parts.between.live ⊎ CanBeAddressed parts.between.live → CanBeAddressed after.device.live
        room (inl has) = absurd (is.0 has.suite)
        room (inr able) = can_by parts.between.live after.device.live values_are able

    -- After the first round the controller asks.
    pub asks_beside : AsksBeside left after
    asks_beside =
        let settings = parts.between.live.values.running in
        let answer = found_frame setup identity settings in
        let kept = ignore_early setup IsFirst
        (λ c is. (is.0, ap (λ l. l.stands) is.1, subst IsEarly (sym (ap (λ l. l.phase) is.1)) tt))
        (made setup) (net.to_controller ++ parts.one) (answer ∷ []) ignored (refl, refl) in
        let step = controller_step kept.between answer in
        let same : net.to_controller ++ (parts.one ++ answer ∷ []) ≡ (net.to_controller ++ parts.one) ++ answer ∷ []
        = sym (append_assoc net.to_controller parts.one (answer ∷ [])) in
        let u = passed as_flash (begun_with setup net) after round (parts.one ++ answer ∷ []) step
        (parts.all ∙ ap (λ (fs : List (List ℕ)). parts.one ++ fs) found.sent)
        (ap (λ (fs : List (List ℕ)). hears_all (made setup) fs) same ∙ (kept.goes_on ∙ hears_one kept.between answer)) in
        let plan = pairs.0.long.starts.plan in
        let vendor = ap (λ (i : Identity). i.vendor_id) (sym at_identify.of_device) ∙ (at_identify.of_plan.vendor ∙ ap (λ p. p.station.vendor_id) (sym plan)) in
        let device = ap (λ (i : Identity). i.device_id) (sym at_identify.of_device) ∙ (at_identify.of_plan.device ∙ ap (λ p. p.station.device_id) (sym plan)) in
        by_found step u (laws.controller_found can.patient vendor device settings kept.between named_here.name at_identify.sized
        (searching_first setup kept.between kept.is.0 kept.is.1))
