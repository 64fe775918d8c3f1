-- A controller that starts while its device still has an earlier relation, and is started again.
use Rattle.std.proofs.Common.{◌≡◌, ◌⊎◌, inl, inr, ◌≤◌, ◌+◌, ◌-◌, ℕ, zero, suc, Bool, true, false, List, [], ◌∷◌, ◌++◌, None, refl, sym, ap, subst, ◌∙◌, arith, Some}
use Rattle.std.specs.Prelude.{nat_le, if◌then◌else◌}
use Rattle.std.specs.List.{AllByRecursion}
use Rattle.std.proofs.lemmas.Bool.Decides.{nat_tests}
use Rattle.flash_model.specs.declared.flash.Flash.{Ghosts as Flash}
use Rattle.pn_values.specs.declared.identity.Identity.{Identity}
use Rattle.pn_values.specs.declared.real.Real.{Real}
use Rattle.settings_journal.specs.settings_store.Machine.{Outcome}
use Rattle.settings_journal.specs.settings_store.State.{Values}
use Rattle.asked_records.specs.Asked.{AskedState}
use Rattle.rpc_core.specs.Cache.{kept_of}
use Rattle.pn_values.specs.IpSuite.{is_zero}
use Rattle.device_frames.specs.Heard.{Ticks}
use Rattle.device_frames.specs.Sendable.{AreSendable}
use Rattle.device_core.specs.State.{Live, State, Station}
use Rattle.device_core.specs.Machine.{heard_step}
use Rattle.controller_messages.specs.declared.request.Request.{Request}
use Rattle.controller_messages.specs.declared.request.Request.TheVariants as wants
use Rattle.controller_messages.specs.declared.setup.Setup.{Setup}
use Rattle.controller_messages.specs.Requests.{write_count}
use Rattle.controller_core.specs.declared.stored.event.Event.TheVariants.{Tick}
use Rattle.controller_core.specs.declared.stored.state.Cause.{Cause}
use Rattle.controller_core.specs.declared.stored.state.Cause.TheVariants.{DataHold, Refused}
use Rattle.controller_core.specs.declared.stored.state.State.{State as Phases}
use Rattle.controller_core.specs.declared.stored.state.State.TheVariants.{Addressing, Connecting, Ended}
use Rattle.controller_core.specs.stored.State.{Controlling}
use Rattle.controller_core.specs.Machine.{Stepped, first as first_live, opening_of, step_of}
use Rattle.network_world.specs.World.{is_ended}
use Rattle.both_ends.specs.startup.Played.{CanMeet}
use Rattle.both_ends.specs.startup.answer.Answer.{AcceptsInterval}
use Rattle.rounds_law.specs.Rounds.{BothExchange, Net, Round, Goes, hears_all}
use Rattle.rounds_law.specs.Path.{AsksNothing, Asks, AsksNext, FindsIt, IsAddressed, IsFree, IsIgnored, IsNamed, IsOutputs}
use Rattle.rounds_law.specs.Path.{IsSized, controller_step, device_step, found_frame, request_to}
use Rattle.rounds_law.specs.Stages.{IsAddressing, IsConnecting, IsLooking, Leads}
use Rattle.rounds_law.specs.Start.{CanBeAddressed, CanStart, IsOfPlan, start_up_limit}
use Rattle.rounds_law.specs.Again.{AreStarts, HasEarlier, HasEnded, HasLeft, HasWaited, IsAlone, IsDeserted, IsEnd, IsOtherRefusal, IsRestart, LeadsBack, Plant}
use Rattle.rounds_law.specs.Again.{PlantRound, after_round, begun_with, made, started, unset_frame}
use Rattle.rounds_law.proofs.CompositionEnds.{Passed, addressed_by, asked_after, can_by, ignore, named_by, passed, searching_first}
use Rattle.rounds_law.proofs.CompositionLaws.{Laws}
use Rattle.rounds_law.proofs.CompositionLists.{arrive, arrive_first, arrives_as, hears_one, never, went_at}
use Rattle.rounds_law.proofs.CompositionRounds.{opening_is, two_more}
use Rattle.rounds_law.proofs.PlanKept.{round_of_plan}

-- ---- more rounds

pub leads_more : {F : Type 0} {S : ℕ} (as_flash : Flash F S) (pause n m : ℕ) (plant : Plant F) → n ≤ m
    → LeadsBack as_flash pause n plant → LeadsBack as_flash pause m plant
leads_more as_flash pause zero zero plant few both = both
leads_more as_flash pause zero (suc m) plant few both = inl both
leads_more as_flash pause (suc n) zero plant few leads = absurd (omega (arith, few))
leads_more as_flash pause (suc n) (suc m) plant few (inl both) = inl both
leads_more as_flash pause (suc n) (suc m) plant few (inr leads) = inr (λ next round. leads_more as_flash pause n m next (omega (arith, few)) (leads next round))

-- ---- a net that leads to the exchange does so in a plant too

exchanging_on : {F : Type 0} (net : Net F) → BothExchange net → is_ended net.controller.live.phase ≡ false
exchanging_on net both = ap is_ended both.controller

pub leads_on : {F : Type 0} {S : ℕ} (as_flash : Flash F S) (n : ℕ) (net : Net F) → Leads as_flash n net → is_ended net.controller.live.phase ≡ false
leads_on as_flash zero net both = exchanging_on net both
leads_on as_flash (suc n) net (inl both) = exchanging_on net both
leads_on as_flash (suc n) net (inr leads) = leads.0

pub goes_on_with : {F : Type 0} (pause : ℕ) (before : Plant F) (net : Net F) → is_ended net.controller.live.phase ≡ false
    → after_round pause before net ≡ record { net = net; later = before.later; idle = 0 }
goes_on_with pause before net on =
    ap (λ (b : Bool). if b then (if nat_le pause (before.idle + 1) then started before.later net (before.idle + 1)
    else record { net = net; later = before.later; idle = before.idle + 1 })
    else record { net = net; later = before.later; idle = 0 }) on

pub plant_leads : {F : Type 0} {S : ℕ} (as_flash : Flash F S) (pause n : ℕ) (plant : Plant F) → Leads as_flash n plant.net → LeadsBack as_flash pause n plant
plant_leads as_flash pause zero plant both = both
plant_leads as_flash pause (suc n) plant (inl both) = inl both
plant_leads as_flash pause (suc n) plant (inr leads) = inr (λ next round.
    let later = leads.1 round.net round.round in
    subst (LeadsBack as_flash pause n) (sym (round.goes_on ∙ goes_on_with pause plant round.net (leads_on as_flash n round.net later)))
    (plant_leads as_flash pause n (record { net = round.net; later = plant.later; idle = 0 }) later))

-- ---- the laws of an earlier relation

pub record AgainLaws (setup : Setup) (identity : Identity) : Type 0 where
  pub refused : CanMeet setup identity → is_zero setup.plan.station.suite.address ≡ false
      → (outcomes : List Outcome) (station : Station) (live : Live) (left : ℕ) → station.identity ≡ identity → IsAddressed setup live
      → HasEarlier setup left live → kept_of setup.activity live.rest.calls ≡ None
      → AreSendable identity (device_step outcomes station live (request_to setup identity wants.Connect)).sent
      → (octets : List ℕ)
      × ((device_step outcomes station live (request_to setup identity wants.Connect)).frames ≡ octets ∷ [])
      × IsOtherRefusal setup identity octets
      × ((device_step outcomes station live (request_to setup identity wants.Connect)).live.values ≡ live.values)
      × ((device_step outcomes station live (request_to setup identity wants.Connect)).live.rest.link ≡ live.rest.link)
      × ((activity : List ℕ) → (activity ≡ setup.activity → ⊥) → kept_of activity live.rest.calls ≡ None
      → kept_of activity (device_step outcomes station live (request_to setup identity wants.Connect)).live.rest.calls ≡ None)
      × ((device_step outcomes station live (request_to setup identity wants.Connect)).live.rest.asked ≡ live.rest.asked)
  pub unset : CanMeet setup identity → (outcomes : List Outcome) (station : Station) (live : Live) (left : ℕ)
      → station.identity ≡ identity → HasEarlier setup left live
      → ((device_step outcomes station live (request_to setup identity wants.Address)).frames ≡ unset_frame setup identity ∷ [])
      × ((device_step outcomes station live (request_to setup identity wants.Address)).live ≡ live)
  pub unit : (outcomes : List Outcome) (station : Station) (live : Live) (left : ℕ) → station.identity ≡ identity
      → HasEarlier setup (suc left) live → AreSendable identity (heard_step outcomes station live Ticks).sent
      → AllByRecursion (IsIgnored setup) (heard_step outcomes station live Ticks).frames
      × ((heard_step outcomes station live Ticks).live.values ≡ live.values)
      × ((heard_step outcomes station live Ticks).live.rest.calls ≡ live.rest.calls)
      × (((heard_step outcomes station live Ticks).live.rest.link ≡ None) ⊎ HasEarlier setup left (heard_step outcomes station live Ticks).live)
      × AsksNothing (heard_step outcomes station live Ticks).live
  pub last : (outcomes : List Outcome) (station : Station) (live : Live) → station.identity ≡ identity → HasEarlier setup 1 live
      → (heard_step outcomes station live Ticks).live.rest.link ≡ None
  pub unrelated : (outcomes : List Outcome) (station : Station) (live : Live) → live.rest.link ≡ None → AsksNothing live
      → ((heard_step outcomes station live Ticks).frames ≡ []) × ((heard_step outcomes station live Ticks).live.values ≡ live.values)
      × ((heard_step outcomes station live Ticks).live.rest.calls ≡ live.rest.calls) × ((heard_step outcomes station live Ticks).live.rest.link ≡ None)
      × AsksNothing (heard_step outcomes station live Ticks).live
  pub vain : (serial : ℕ) (outcomes : List Outcome) (station : Station) (live : Live) (octets : List ℕ) → station.identity ≡ identity
      → live.rest.link ≡ None → IsOutputs setup (Some serial) identity.mac octets ⊎ IsEnd setup serial identity.mac octets
      → ((device_step outcomes station live octets).frames ≡ []) × ((device_step outcomes station live octets).live ≡ live)

pub record EndedLaws (setup : Setup) (identity : Identity) : Type 0 where
  pub refused : (controller : Controlling) (spare : ℕ) (octets : List ℕ) → Asks setup identity.mac Connecting wants.Connect None spare controller
      → IsOtherRefusal setup identity octets
      → ((controller_step controller octets).frames ≡ []) × HasEnded setup Refused (controller_step controller octets).controller
  pub unset : (controller : Controlling) (spare : ℕ) → Asks setup identity.mac Addressing wants.Address None spare controller
      → ((controller_step controller (unset_frame setup identity)).frames ≡ [])
      × HasEnded setup Refused (controller_step controller (unset_frame setup identity)).controller
  pub unit : (cause : Cause) (controller : Controlling) → HasEnded setup cause controller
      → ((step_of controller Tick).frames ≡ []) × HasEnded setup cause (step_of controller Tick).controller
  pub alone : (serial : ℕ) (controller : Controlling) (left : ℕ) → IsAlone setup serial identity.mac left controller
      → HasLeft setup serial identity.mac (step_of controller Tick) ⊎ HasWaited setup serial identity.mac left (step_of controller Tick)

-- ---- a net whose device still has the earlier relation

-- It has the earlier relation, seen from either start.
pub record Has (setup next : Setup) (left : ℕ) (live : Live) : Type 0 where
  pub here : HasEarlier setup left live
  pub there : HasEarlier next left live

-- It has no relation, or has the earlier one for this many units at most.
abbrev pub Lasts : (setup next : Setup) → ℕ → Live → Type 0
Lasts setup next zero live = live.rest.link ≡ None
Lasts setup next (suc left) live = (live.rest.link ≡ None) ⊎ Has setup next (suc left) live

-- After a unit. What is stored of calls with this activity is as before.
pub record Aged {F : Type 0} (setup next : Setup) (station : Station) (before : Live) (left : ℕ) (frames : List (List ℕ)) (after : State F) : Type 0 where
  pub ignored : AllByRecursion (IsIgnored setup) frames
  pub ignored_next : AllByRecursion (IsIgnored next) frames
  pub of_station : after.station ≡ station
  pub values : after.live.values ≡ before.values
  pub calls : after.live.rest.calls ≡ before.rest.calls
  pub lasts : Lasts setup next left after.live
  pub unasked : AsksNothing after.live

-- What all these nets have. The device asks its application nothing, and has stored no answer of the next start.
pub record Stands {F : Type 0} (setup next : Setup) (identity : Identity) (net : Net F) : Type 0 where
  pub ignored : AllByRecursion (IsIgnored setup) net.to_controller
  pub ignored_next : AllByRecursion (IsIgnored next) net.to_controller
  pub of_device : net.device.station.identity ≡ identity
  pub of_plan : IsOfPlan setup net.device.station net.device.live.rest.real
  pub named : IsNamed setup net.device.live
  pub sized : IsSized net.device.live.values.running.suite
  pub addressed : IsAddressed setup net.device.live ⊎ CanBeAddressed net.device.live
  pub uncalled_next : kept_of next.activity net.device.live.rest.calls ≡ None
  pub unasked : AsksNothing net.device.live

-- A request is under way that the device will refuse.
pub record IsAsking {F : Type 0} (setup next : Setup) (identity : Identity) (left : ℕ) (phase : Phases) (request : Request) (net : Net F) : Type 0 where
  pub stands : Stands setup next identity net
  pub spare : ℕ
  pub asks : Asks setup identity.mac phase request None spare net.controller
  pub under_way : net.to_device ≡ request_to setup identity request ∷ []
  pub has : Has setup next left net.device.live
  pub uncalled : kept_of setup.activity net.device.live.rest.calls ≡ None

-- The controller has ended.
pub record IsOver {F : Type 0} (setup next : Setup) (identity : Identity) (left : ℕ) (net : Net F) : Type 0 where
  pub stands : Stands setup next identity net
  pub cause : Cause
  pub ended : HasEnded setup cause net.controller
  pub nothing : net.to_device ≡ []
  pub lasts : Lasts setup next left net.device.live

two_of : (setup next : Setup) (left : ℕ) (live : Live) → (live.rest.link ≡ None) ⊎ HasEarlier setup left live
    → (live.rest.link ≡ None) ⊎ HasEarlier next left live
    → (live.rest.link ≡ None) ⊎ Has setup next left live
two_of setup next left live (inl none) other = inl none
two_of setup next left live (inr one) (inl none) = inl none
two_of setup next left live (inr one) (inr other) = inr (record { here = one; there = other })

-- the same relation in another state
moved_to : (setup : Setup) (left : ℕ) (before after : Live) → after.rest.link ≡ before.rest.link → after.rest.asked ≡ before.rest.asked
    → HasEarlier setup left before → HasEarlier setup left after
moved_to setup left before after same asked earlier = record {
  link = earlier.link;
  has = same ∙ earlier.has;
  ar = earlier.ar;
  ar_sized = earlier.ar_sized;
  other = earlier.other;
  request = earlier.request;
  partner = earlier.partner;
  serial = earlier.serial;
  few = earlier.few;
  route = earlier.route;
  begun = earlier.begun;
  called = earlier.called;
  time = earlier.time;
  unasked = ap (λ (a : AskedState). a.standing) asked ∙ earlier.unasked;
}

both_moved : (setup next : Setup) (left : ℕ) (before after : Live) → after.rest.link ≡ before.rest.link → after.rest.asked ≡ before.rest.asked
    → Has setup next left before → Has setup next left after
both_moved setup next left before after same asked has =
    record { here = moved_to setup left before after same asked has.here; there = moved_to next left before after same asked has.there }

-- It lasts longer at most.
pub longer : (setup : Setup) (left : ℕ) (live : Live) → HasEarlier setup left live → HasEarlier setup (suc left) live
longer setup left live earlier = record {
  link = earlier.link;
  has = earlier.has;
  ar = earlier.ar;
  ar_sized = earlier.ar_sized;
  other = earlier.other;
  request = earlier.request;
  partner = earlier.partner;
  serial = earlier.serial;
  few = earlier.few;
  route = earlier.route;
  begun = earlier.begun;
  called = earlier.called;
  time = omega (arith, earlier.time);
  unasked = earlier.unasked;
}

-- One less, and one sum that computes by its first number.
abbrev pub less : ℕ → ℕ
less zero = zero
less (suc n) = n

abbrev pub sum : ℕ → ℕ → ℕ
sum zero n = n
sum (suc r) n = suc (sum r n)

pub sum_is : (r n : ℕ) → sum r n ≡ r + n
sum_is zero n = omega arith
sum_is (suc r) n = let later : sum r n ≡ r + n = sum_is r n in omega (arith, later)

less_few : (left r : ℕ) → left ≤ suc r → less left ≤ r
less_few zero r few = omega arith
less_few (suc left) r few = omega (arith, few)

one_back : (pause count : ℕ) → suc (pause + (count + 5) - 1) ≡ pause + (count + 5)
one_back pause count = omega arith

free_lasts : (setup next : Setup) (left : ℕ) (live : Live) → live.rest.link ≡ None → Lasts setup next left live
free_lasts setup next zero live none = none
free_lasts setup next (suc left) live none = inl none

module _ {F : Type 0} {S : ℕ} (as_flash : Flash F S) (setup next : Setup) (identity : Identity) (laws : Laws setup identity) (again : AgainLaws setup identity)
    (again_next : AgainLaws next identity) (ends : EndedLaws setup identity) (can : CanStart setup identity) (starts : AreStarts setup next) where
  -- ---- a unit at the device

  -- The unit of a device without a relation changes nothing that counts.
  pub free_aged : (before : State F) (station : Station) (left : ℕ) (frames : List (List ℕ)) (after : State F) → before.station ≡ station
      → Goes as_flash before Ticks frames after → before.live.rest.link ≡ None → AsksNothing before.live
      → Aged setup next station before.live left frames after
  free_aged before station left frames after same goes none unasked =
      let w = went_at as_flash before station Ticks frames after same goes in
      let law = again.unrelated [] station before.live none unasked in
      let nothing : frames ≡ [] = w.sent ∙ law.0 in
      record {
        ignored = subst (AllByRecursion (IsIgnored setup)) (sym nothing) tt;
        ignored_next = subst (AllByRecursion (IsIgnored next)) (sym nothing) tt;
        of_station = w.of_station;
        values = ap (λ (live : Live). live.values) w.state ∙ law.1;
        calls = ap (λ (live : Live). live.rest.calls) w.state ∙ law.2;
        lasts = free_lasts setup next left after.live (ap (λ (live : Live). live.rest.link) w.state ∙ law.3);
        unasked = subst AsksNothing (sym w.state) law.4;
      }

  has_aged : (before : State F) (station : Station) (left : ℕ) (frames : List (List ℕ)) (after : State F)
      → before.station ≡ station → station.identity ≡ identity
      → Goes as_flash before Ticks frames after → Has setup next (suc left) before.live → Aged setup next station before.live left frames after
  has_aged before station left frames after same own goes has =
      let w = went_at as_flash before station Ticks frames after same goes in
      let step = heard_step [] station before.live Ticks in
      let sendable = subst (λ (i : Identity). AreSendable i step.sent) own w.sendable in
      let law = again.unit [] station before.live left own has.here sendable in
      let law_next = again_next.unit [] station before.live left own has.there sendable in
      record {
        ignored = subst (AllByRecursion (IsIgnored setup)) (sym w.sent) law.0;
        ignored_next = subst (AllByRecursion (IsIgnored next)) (sym w.sent) law_next.0;
        of_station = w.of_station;
        values = ap (λ (live : Live). live.values) w.state ∙ law.1;
        calls = ap (λ (live : Live). live.rest.calls) w.state ∙ law.2;
        lasts = subst (Lasts setup next left) (sym w.state) (lasting left has (two_of setup next left step.live law.3 law_next.3));
        unasked = subst AsksNothing (sym w.state) law.4;
      }
    where
      lasting : (left : ℕ) → Has setup next (suc left) before.live
          → ((heard_step [] station before.live Ticks).live.rest.link ≡ None) ⊎ Has setup next left (heard_step [] station before.live Ticks).live
          → Lasts setup next left (heard_step [] station before.live Ticks).live
      lasting zero has either = again.last [] station before.live own has.here
      lasting (suc left) has either = either

  aged : (before : State F) (station : Station) (left : ℕ) (frames : List (List ℕ)) (after : State F) → before.station ≡ station → station.identity ≡ identity
      → Goes as_flash before Ticks frames after → AsksNothing before.live → Lasts setup next (suc left) before.live
      → Aged setup next station before.live left frames after
  aged before station left frames after same own goes unasked (inl none) = free_aged before station left frames after same goes none unasked
  aged before station left frames after same own goes unasked (inr has) = has_aged before station left frames after same own goes has

  aged_zero : (before : State F) (station : Station) (left : ℕ) (frames : List (List ℕ)) (after : State F)
      → before.station ≡ station → station.identity ≡ identity
      → Goes as_flash before Ticks frames after → AsksNothing before.live → Lasts setup next left before.live → left ≡ 0
      → Aged setup next station before.live 0 frames after
  aged_zero before station zero frames after same own goes unasked none e = free_aged before station 0 frames after same goes none unasked
  aged_zero before station (suc left) frames after same own goes unasked lasts e = absurd cc

  -- ---- what stays

  stays_addressed : (net after : Net F) → after.device.live.values ≡ net.device.live.values → IsAddressed setup net.device.live ⊎ CanBeAddressed net.device.live
      → IsAddressed setup after.device.live ⊎ CanBeAddressed after.device.live
  stays_addressed net after values (inl has) = inl (addressed_by setup net.device.live after.device.live values has)
  stays_addressed net after values (inr can) = inr (can_by net.device.live after.device.live values can)

  pub stays_on : (net after : Net F) → Round as_flash net after → (left : ℕ) (between : State F) → between.live.values ≡ net.device.live.values
      → kept_of next.activity between.live.rest.calls ≡ None → Stands setup next identity net
      → Aged setup next net.device.station between.live left after.to_controller after.device → Stands setup next identity after
  stays_on net after round left between kept uncalled stands unit =
      let values : after.device.live.values ≡ net.device.live.values = unit.values ∙ kept in
      record {
        ignored = unit.ignored;
        ignored_next = unit.ignored_next;
        of_device = ap (λ (s : Station). s.identity) unit.of_station ∙ stands.of_device;
        of_plan = round_of_plan as_flash laws.modules setup net after round stands.of_plan;
        named = named_by setup net.device.live after.device.live values stands.named;
        sized = subst (λ (v : Values). IsSized v.running.suite) (sym values) stands.sized;
        addressed = stays_addressed net after values stands.addressed;
        uncalled_next = ap (kept_of next.activity) unit.calls ∙ uncalled;
        unasked = unit.unasked;
      }

  -- ---- the search

  -- A request that the device will refuse, as long as the earlier relation lasts.
  abbrev pub MayAsk : ℕ → Phases → Request → Net F → Type 0
  MayAsk zero phase request net = ⊥
  MayAsk (suc left) phase request net = IsAsking setup next identity (suc left) phase request net

  -- The next request is under way.
  abbrev pub Next : ℕ → Net F → Type 0
  Next left net = (IsAddressing setup identity net ⊎ MayAsk left Addressing wants.Address net)
      ⊎ (IsConnecting setup identity net ⊎ (IsAddressed setup net.device.live × MayAsk left Connecting wants.Connect net))

  asking_by : (left : ℕ) (net : Net F) (request : Request) (phase : Phases) (spare : ℕ) → Stands setup next identity net
      → Asks setup identity.mac phase request None spare net.controller → net.to_device ≡ request_to setup identity request ∷ []
      → kept_of setup.activity net.device.live.rest.calls ≡ None
      → Lasts setup next left net.device.live → IsFree setup net.device.live ⊎ MayAsk left phase request net
  asking_by zero net request phase spare stood asks under_way uncalled none =
      inl (record { unrelated = none; unasked = stood.unasked; uncalled = uncalled })
  asking_by (suc left) net request phase spare stood asks under_way uncalled (inl none) =
      inl (record { unrelated = none; unasked = stood.unasked; uncalled = uncalled })
  asking_by (suc left) net request phase spare stood asks under_way uncalled (inr has) =
      inr (record { stands = stood; spare = spare; asks = asks; under_way = under_way; has = has; uncalled = uncalled })

  connecting_by : (left : ℕ) (net : Net F) (spare : ℕ) → Stands setup next identity net
      → Asks setup identity.mac Connecting wants.Connect None spare net.controller
      → net.to_device ≡ request_to setup identity wants.Connect ∷ [] → IsAddressed setup net.device.live
      → IsFree setup net.device.live ⊎ MayAsk left Connecting wants.Connect net → Next left net
  connecting_by left net spare stood asks under_way addressed (inl free) = inr (inl (record {
    spare = spare;
    asks = asks;
    under_way = under_way;
    ignored = stood.ignored;
    of_device = stood.of_device;
    of_plan = stood.of_plan;
    addressed = addressed;
    free = free;
  }))
  connecting_by left net spare stood asks under_way addressed (inr asking) = inr (inr (addressed, asking))

  addressing_by : (left : ℕ) (net : Net F) (spare : ℕ) → Stands setup next identity net
      → Asks setup identity.mac Addressing wants.Address None spare net.controller
      → net.to_device ≡ request_to setup identity wants.Address ∷ [] → CanBeAddressed net.device.live
      → IsFree setup net.device.live ⊎ MayAsk left Addressing wants.Address net → Next left net
  addressing_by left net spare stood asks under_way room (inl free) = inl (inl (record {
    spare = spare;
    asks = asks;
    under_way = under_way;
    ignored = stood.ignored;
    of_device = stood.of_device;
    of_plan = stood.of_plan;
    named = stood.named;
    free = free;
    can = room;
  }))
  addressing_by left net spare stood asks under_way room (inr asking) = inl (inr asking)

  room_of : (net after : Net F) → after.device.live.values ≡ net.device.live.values → (net.device.live.values.running.suite ≡ setup.plan.station.suite → ⊥)
      → IsAddressed setup net.device.live ⊎ CanBeAddressed net.device.live → CanBeAddressed after.device.live
  room_of net after values not (inl has) = absurd (not has.suite)
  room_of net after values not (inr can) = can_by net.device.live after.device.live values can

  by_found : (left : ℕ) (net after : Net F) → Stands setup next identity after → after.device.live.values ≡ net.device.live.values
      → kept_of setup.activity after.device.live.rest.calls ≡ None
      → Lasts setup next left after.device.live → (step : Stepped) → Passed step after
      → FindsIt setup identity net.device.live.values.running (write_count setup.plan + 2) step
      → IsAddressed setup net.device.live ⊎ CanBeAddressed net.device.live → Next left after
  by_found left net after stood values uncalled lasts step u (inl found) addressed =
      let spare = write_count setup.plan + 1 in
      let asked = asked_after setup identity laws step after Connecting wants.Connect None spare refl u
      (subst (λ (n : ℕ). AsksNext setup identity Connecting wants.Connect None n step) (two_more (write_count setup.plan)) found.1) in
      let under_way = asked.under_way ∙ ap (λ (fs : List (List ℕ)). request_to setup identity wants.Connect ∷ fs) (asked.unsent refl) in
      connecting_by left after spare stood asked.asks under_way (record { suite = ap (λ (v : Values). v.running.suite) values ∙ found.0 })
      (asking_by left after wants.Connect Connecting spare stood asked.asks under_way uncalled lasts)
  by_found left net after stood values uncalled lasts step u (inr found) addressed =
      let spare = write_count setup.plan + 1 in
      let asked = asked_after setup identity laws step after Addressing wants.Address None spare refl u
      (subst (λ (n : ℕ). AsksNext setup identity Addressing wants.Address None n step) (two_more (write_count setup.plan)) found.1) in
      let under_way = asked.under_way ∙ ap (λ (fs : List (List ℕ)). request_to setup identity wants.Address ∷ fs) (asked.unsent refl) in
      addressing_by left after spare stood asked.asks under_way (room_of net after values found.0 addressed)
      (asking_by left after wants.Address Addressing spare stood asked.asks under_way uncalled lasts)

  looks : (left : ℕ) (net after : Net F) → Stands setup next identity net → net.controller.setup ≡ setup → net.controller.live ≡ first_live setup.plan
      → net.to_device ≡ request_to setup identity wants.Identify ∷ [] → kept_of setup.activity net.device.live.rest.calls ≡ None
      → Has setup next (suc left) net.device.live → Round as_flash net after → Next left after
  looks left net after stands of_setup made opened uncalled has round =
      let station = net.device.station in
      let settings = net.device.live.values.running in
      let found = laws.device_found [] station net.device.live stands.of_device stands.named in
      let all = arrive_first as_flash station (λ (live : Live). live ≡ net.device.live) (λ (octets : List ℕ). ⊥)
      (never (λ (live : Live). live ≡ net.device.live) station)
      net.device (request_to setup identity wants.Identify) [] round.answers round.device refl (λ sendable. found.0) tt
      (arrives_as as_flash net after round (request_to setup identity wants.Identify ∷ []) opened) in
      let unit = has_aged round.device station left after.to_controller after.device all.0.of_station stands.of_device round.unit
      (subst (λ (live : Live). Has setup next (suc left) live) (sym all.0.is) has) in
      let stood = stays_on net after round left round.device (ap (λ (live : Live). live.values) all.0.is)
      (ap (λ (live : Live). kept_of next.activity live.rest.calls) all.0.is ∙ stands.uncalled_next) stands unit in
      let kept = ignore setup (λ (c : Controlling). (c.setup ≡ setup) × (c.live ≡ first_live setup.plan)) (λ c is. (is.0, ap (λ l. l.stands) is.1))
      net.controller net.to_controller (found_frame setup identity settings ∷ []) stands.ignored (of_setup, made) in
      let step = controller_step kept.between (found_frame setup identity settings) in
      let u = passed as_flash net after round (found_frame setup identity settings ∷ []) step (all.0.sent ∙ found.1)
      (kept.goes_on ∙ hears_one kept.between (found_frame setup identity settings)) in
      let vendor = ap (λ (i : Identity). i.vendor_id) (sym stands.of_device) ∙ stands.of_plan.vendor in
      let device = ap (λ (i : Identity). i.device_id) (sym stands.of_device) ∙ stands.of_plan.device in
      let values : after.device.live.values ≡ net.device.live.values = unit.values ∙ ap (λ (live : Live). live.values) all.0.is in
      let calls : after.device.live.rest.calls ≡ net.device.live.rest.calls = unit.calls ∙ ap (λ (live : Live). live.rest.calls) all.0.is in
      by_found left net after stood values (ap (kept_of setup.activity) calls ∙ uncalled) unit.lasts step u
      (laws.controller_found can.patient vendor device settings kept.between stands.named.name stands.sized
      (searching_first setup kept.between kept.is.0 kept.is.1)) stands.addressed

  -- ---- the device refuses

  -- The controller after the unit in which it ended.
  pub over_after : (why : Cause) (heard : Stepped) (after : Net F) → heard.frames ≡ [] → HasEnded setup why heard.controller → Passed heard after
      → HasEnded setup why after.controller × (after.to_device ≡ [])
  over_after why heard after none ended u =
      let law = ends.unit why heard.controller ended in (
        subst (λ (c : Controlling). HasEnded setup why c) (sym u.controller) law.1,
        u.to_device ∙ (ap (λ (fs : List (List ℕ)). fs ++ (step_of heard.controller Tick).frames) none ∙ law.0),
      )

  -- The state after a request that was refused.
  record After (before : Live) (left : ℕ) (live : Live) : Type 0 where
    values : live.values ≡ before.values
    has : Has setup next left live
    uncalled : kept_of next.activity live.rest.calls ≡ None

  connect_refused : (left : ℕ) (net after : Net F) → IsAddressed setup net.device.live → IsAsking setup next identity (suc left) Connecting wants.Connect net
      → Round as_flash net after → IsOver setup next identity left after
  connect_refused left net after addressed asking round =
      let stands = asking.stands in
      let station = net.device.station in
      let connect = request_to setup identity wants.Connect in
      let law = λ (sendable : AreSendable station.identity (device_step [] station net.device.live connect).sent).
      again.refused can.can_meet can.has_address [] station net.device.live (suc left) stands.of_device addressed asking.has.here asking.uncalled
      (subst (λ (i : Identity). AreSendable i (device_step [] station net.device.live connect).sent) stands.of_device sendable) in
      let all = arrive_first as_flash station (After net.device.live (suc left)) (λ (octets : List ℕ). ⊥) (never (After net.device.live (suc left)) station)
      net.device connect [] round.answers round.device refl
      (λ sendable. record {
        values = (law sendable).3;
        has = both_moved setup next (suc left) net.device.live (device_step [] station net.device.live connect).live (law sendable).4
            (law sendable).6 asking.has;
        uncalled = (law sendable).5 next.activity starts.calls stands.uncalled_next;
      }) tt
      (arrives_as as_flash net after round (connect ∷ []) asking.under_way) in
      let its = law all.1 in
      let unit = has_aged round.device station left after.to_controller after.device all.0.of_station stands.of_device round.unit all.0.is.has in
      let kept = ignore setup (λ (c : Controlling). Asks setup identity.mac Connecting wants.Connect None asking.spare c)
      (λ c is. (is.of_setup, is.established))
      net.controller net.to_controller (its.0 ∷ []) stands.ignored asking.asks in
      let step = controller_step kept.between its.0 in
      let ended = ends.refused kept.between asking.spare its.0 kept.is its.2 in
      let over = over_after Refused step after ended.0 ended.1
      (passed as_flash net after round (its.0 ∷ []) step (all.0.sent ∙ its.1) (kept.goes_on ∙ hears_one kept.between its.0)) in
      record {
        stands = stays_on net after round left round.device all.0.is.values all.0.is.uncalled stands unit;
        ended = over.0;
        nothing = over.1;
        cause = Refused;
        lasts = unit.lasts;
      }

  address_refused : (left : ℕ) (net after : Net F) → IsAsking setup next identity (suc left) Addressing wants.Address net
      → Round as_flash net after → IsOver setup next identity left after
  address_refused left net after asking round =
      let stands = asking.stands in
      let station = net.device.station in
      let address = request_to setup identity wants.Address in
      let law = again.unset can.can_meet [] station net.device.live (suc left) stands.of_device asking.has.here in
      let all = arrive_first as_flash station (λ (live : Live). live ≡ net.device.live) (λ (octets : List ℕ). ⊥)
      (never (λ (live : Live). live ≡ net.device.live) station)
      net.device address [] round.answers round.device refl (λ sendable. law.1) tt
      (arrives_as as_flash net after round (address ∷ []) asking.under_way) in
      let unit = has_aged round.device station left after.to_controller after.device all.0.of_station stands.of_device round.unit
      (subst (λ (live : Live). Has setup next (suc left) live) (sym all.0.is) asking.has) in
      let kept = ignore setup (λ (c : Controlling). Asks setup identity.mac Addressing wants.Address None asking.spare c)
      (λ c is. (is.of_setup, is.established))
      net.controller net.to_controller (unset_frame setup identity ∷ []) stands.ignored asking.asks in
      let step = controller_step kept.between (unset_frame setup identity) in
      let ended = ends.unset kept.between asking.spare kept.is in
      let over = over_after Refused step after ended.0 ended.1
      (passed as_flash net after round (unset_frame setup identity ∷ []) step (all.0.sent ∙ law.0)
      (kept.goes_on ∙ hears_one kept.between (unset_frame setup identity))) in
      record {
        stands = stays_on net after round left round.device (ap (λ (live : Live). live.values) all.0.is)
            (ap (λ (live : Live). kept_of next.activity live.rest.calls) all.0.is ∙ stands.uncalled_next) stands unit;
        ended = over.0;
        nothing = over.1;
        cause = Refused;
        lasts = unit.lasts;
      }

  -- ---- the pause

  waits_with : (left later : ℕ) (net after : Net F) → IsOver setup next identity left net → (round : Round as_flash net after)
      → Aged setup next net.device.station round.device.live later after.to_controller after.device → round.device ≡ net.device → round.answers ≡ []
      → IsOver setup next identity later after
  waits_with left later net after over round unit still silent =
      let stands = over.stands in
      let kept = ignore setup (HasEnded setup over.cause) (λ c is. (is.of_setup, is.unestablished)) net.controller net.to_controller [] stands.ignored over.ended in
      let step : Stepped = record { controller = kept.between; frames = [] } in
      let done = over_after over.cause step after refl kept.is (passed as_flash net after round [] step silent kept.goes_on) in
      record {
        stands = stays_on net after round later round.device (ap (λ (d : State F). d.live.values) still)
            (ap (λ (d : State F). kept_of next.activity d.live.rest.calls) still ∙ stands.uncalled_next) stands unit;
        ended = done.0;
        nothing = done.1;
        cause = over.cause;
        lasts = unit.lasts;
      }

  pub waits : (left : ℕ) (net after : Net F) → IsOver setup next identity left net → Round as_flash net after → IsOver setup next identity (less left) after
  waits left net after over round =
      let hears = arrives_as as_flash net after round [] over.nothing in
      let station_is : round.device.station ≡ net.device.station = ap (λ (d : State F). d.station) hears.0 in
      waits_with left (less left) net after over round
      (by_left left station_is over.stands.of_device (subst (λ (d : State F). AsksNothing d.live) (sym hears.0) over.stands.unasked)
      (subst (λ (d : State F). Lasts setup next left d.live) (sym hears.0) over.lasts)) hears.0 hears.1
    where
      by_left : (left : ℕ) → round.device.station ≡ net.device.station → net.device.station.identity ≡ identity → AsksNothing round.device.live
          → Lasts setup next left round.device.live
          → Aged setup next net.device.station round.device.live (less left) after.to_controller after.device
      by_left zero same own unasked none = free_aged round.device net.device.station 0 after.to_controller after.device same round.unit none unasked
      by_left (suc left) same own unasked lasts =
          aged round.device net.device.station left after.to_controller after.device same own round.unit unasked lasts

  -- ---- the device lost its power while data was exchanged

  -- It has no relation, its controller still exchanges data, and only outputs are under way.
  record IsLeft (left : ℕ) (net : Net F) : Type 0 where
    serial : ℕ
    stands : Stands setup next identity net
    alone : IsAlone setup serial identity.mac left net.controller
    outputs : AllByRecursion (IsOutputs setup (Some serial) identity.mac) net.to_device
    silent : net.to_controller ≡ []
    unrelated : net.device.live.rest.link ≡ None

  -- Its controller has ended, and the ERR is under way.
  record IsEnding (net : Net F) : Type 0 where
    serial : ℕ
    stands : Stands setup next identity net
    ended : HasEnded setup DataHold net.controller
    octets : List ℕ
    end : IsEnd setup serial identity.mac octets
    under_way : net.to_device ≡ octets ∷ []
    silent : net.to_controller ≡ []
    unrelated : net.device.live.rest.link ≡ None

  -- What a round does if nothing is under way to the controller, and what is under way to the device changes nothing there.
  pub record Vain (net after : Net F) : Type 0 where
    pub stands : Stands setup next identity after
    pub silent : after.to_controller ≡ []
    pub unrelated : after.device.live.rest.link ≡ None
    pub values : after.device.live.values ≡ net.device.live.values
    pub calls : after.device.live.rest.calls ≡ net.device.live.rest.calls
    pub passed : Passed (record { controller = net.controller; frames = [] }) after

  pub in_vain : (net after : Net F) (Of : List ℕ → Type 0)
      → ((octets : List ℕ) → Of octets → ((device_step [] net.device.station net.device.live octets).frames ≡ [])
      × ((device_step [] net.device.station net.device.live octets).live ≡ net.device.live))
      → Stands setup next identity net → net.to_controller ≡ [] → net.device.live.rest.link ≡ None
      → AllByRecursion Of net.to_device → Round as_flash net after → Vain net after
  in_vain net after Of keeps stands silent none said round =
      let station = net.device.station in
      let all = arrive as_flash station (λ (live : Live). live ≡ net.device.live) Of
      (λ live octets is same.
      subst (λ (l : Live). ((device_step [] station l octets).frames ≡ []) × ((device_step [] station l octets).live ≡ net.device.live)) (sym same)
      (keeps octets is))
      net.device net.to_device round.answers round.device refl said refl round.arrives in
      let still : round.device.live.rest.link ≡ None = ap (λ (live : Live). live.rest.link) all.is ∙ none in
      let unasked = subst AsksNothing (sym all.is) stands.unasked in
      let unit = free_aged round.device station 0 after.to_controller after.device all.of_station round.unit still unasked in
      let step : Stepped = record { controller = net.controller; frames = [] } in
      record {
        stands = stays_on net after round 0 round.device (ap (λ (live : Live). live.values) all.is)
            (ap (λ (live : Live). kept_of next.activity live.rest.calls) all.is ∙ stands.uncalled_next) stands unit;
        silent = (went_at as_flash round.device station Ticks after.to_controller after.device all.of_station round.unit).sent
            ∙ (again.unrelated [] station round.device.live still unasked).0;
        unrelated = unit.lasts;
        values = unit.values ∙ ap (λ (live : Live). live.values) all.is;
        calls = unit.calls ∙ ap (λ (live : Live). live.rest.calls) all.is;
        passed = passed as_flash net after round [] step all.sent (ap (λ (fs : List (List ℕ)). hears_all net.controller (fs ++ [])) silent);
      }

  -- Outputs and an ERR, in a relation of this number, change nothing.
  abbrev pub IsSaid : ℕ → List ℕ → Type 0
  IsSaid serial octets = IsOutputs setup (Some serial) identity.mac octets ⊎ IsEnd setup serial identity.mac octets

  said_vain : (serial : ℕ) (net after : Net F) → Stands setup next identity net → net.to_controller ≡ [] → net.device.live.rest.link ≡ None
      → AllByRecursion (IsSaid serial) net.to_device → Round as_flash net after → Vain net after
  said_vain serial net after stands silent none said round =
      in_vain net after (IsSaid serial) (λ octets is. again.vain serial [] net.device.station net.device.live octets stands.of_device none is) stands silent none
      said round

  outputs_said : (serial : ℕ) (frames : List (List ℕ)) → AllByRecursion (IsOutputs setup (Some serial) identity.mac) frames
      → AllByRecursion (IsSaid serial) frames
  outputs_said serial [] all = tt
  outputs_said serial (octets ∷ frames) all = (inl all.0, outputs_said serial frames all.1)

  -- After a round with such a device: the controller has ended, or its data hold time has a unit less.
  abbrev LeftAfter : ℕ → Net F → Type 0
  LeftAfter left after = IsEnding after ⊎ ((fewer : ℕ) × (left ≡ suc fewer) × IsLeft fewer after)

  left_after : (left : ℕ) (net after : Net F) → IsLeft left net → Round as_flash net after → LeftAfter left after
  left_after left net after at round = by_law (ends.alone at.serial net.controller left at.alone)
    where
      vain : Vain net after
      vain = said_vain at.serial net after at.stands at.silent at.unrelated (outputs_said at.serial net.to_device at.outputs) round

      by_law : HasLeft setup at.serial identity.mac (step_of net.controller Tick) ⊎ HasWaited setup at.serial identity.mac left (step_of net.controller Tick) → LeftAfter left after
      by_law (inl over) = inl (record {
        serial = at.serial;
        stands = vain.stands;
        ended = subst (λ (c : Controlling). HasEnded setup DataHold c) (sym vain.passed.controller) over.ended;
        octets = over.octets;
        end = over.end;
        under_way = vain.passed.to_device ∙ over.frames;
        silent = vain.silent;
        unrelated = vain.unrelated;
      })
      by_law (inr waited) = inr (
        waited.fewer,
        waited.less,
        record {
          serial = at.serial;
          stands = vain.stands;
          alone = subst (λ (c : Controlling). IsAlone setup at.serial identity.mac waited.fewer c) (sym vain.passed.controller) waited.alone;
          outputs = subst (λ (fs : List (List ℕ)). AllByRecursion (IsOutputs setup (Some at.serial) identity.mac) fs) (sym vain.passed.to_device) waited.outputs;
          silent = vain.silent;
          unrelated = vain.unrelated;
        },
      )

  -- After the round in which the ERR arrives.
  over_then : (net after : Net F) → IsEnding net → Round as_flash net after → IsOver setup next identity 0 after
  over_then net after at round =
      let vain = said_vain at.serial net after at.stands at.silent at.unrelated
      (subst (λ (fs : List (List ℕ)). AllByRecursion (IsSaid at.serial) fs)
      (sym at.under_way) (inr at.end, tt)) round in
      let over = over_after DataHold (record { controller = net.controller; frames = [] }) after refl at.ended vain.passed in
      record { stands = vain.stands; cause = DataHold; ended = over.0; nothing = over.1; lasts = vain.unrelated }

  -- ---- the next start

  of_plan_next : (station : Station) (real : Real) → IsOfPlan setup station real → IsOfPlan next station real
  of_plan_next station real plan = record {
    vendor = plan.vendor ∙ ap (λ p. p.station.vendor_id) (sym starts.plan);
    device = plan.device ∙ ap (λ p. p.station.device_id) (sym starts.plan);
    plugged = plan.plugged ∙ ap (λ p. p.real) (sym starts.plan);
    interval = subst (λ p. AcceptsInterval station.options p) (sym starts.plan) plan.interval;
    ready = plan.ready;
    names = plan.names;
  }

  addressed_next : (live : Live) → IsAddressed setup live ⊎ CanBeAddressed live → IsAddressed next live ⊎ CanBeAddressed live
  addressed_next live (inl has) = inl (record { suite = has.suite ∙ ap (λ p. p.station.suite) (sym starts.plan) })
  addressed_next live (inr can) = inr can

  -- With nothing under way to a device without a relation, the next start is one from the beginning.
  pub begins : (net : Net F) → Stands setup next identity net → net.to_device ≡ [] → net.device.live.rest.link ≡ None
      → IsLooking next identity (begun_with next net)
  begins net stands nothing none = record {
    searches = searching_first next (made next) refl refl;
    opened = ap (λ (fs : List (List ℕ)). fs ++ opening_of (made next) ∷ []) nothing;
    ignored = stands.ignored_next;
    of_device = stands.of_device;
    of_plan = of_plan_next net.device.station net.device.live.rest.real stands.of_plan;
    named = record { name = stands.named.name ∙ ap (λ p. p.station.name) (sym starts.plan) };
    free = record { unrelated = none; unasked = stands.unasked; uncalled = stands.uncalled_next };
    sized = stands.sized;
    addressed = addressed_next net.device.live stands.addressed;
  }

  module _ (pause : ℕ) (more : List Setup) (next_starts : (net : Net F) → IsLooking next identity net → Leads as_flash (start_up_limit setup.plan) net) where
    abbrev limit : ℕ
    limit = start_up_limit setup.plan

    -- after a round a controller that has ended is started again, or not yet
    pub ended_round : (plant : Plant F) (net : Net F) → plant.later ≡ next ∷ more → (why : Cause) → net.controller.live.phase ≡ Ended why
        → (now : Bool) → nat_le pause (plant.idle + 1) ≡ now
        → after_round pause plant net
        ≡ (if now then record { net = begun_with next net; later = more; idle = 0 } else record { net = net; later = next ∷ more; idle = plant.idle + 1 })
    ended_round plant net later why ended now is =
        ap (λ (p : Phases). if is_ended p then (if nat_le pause (plant.idle + 1) then started plant.later net (plant.idle + 1)
        else record { net = net; later = plant.later; idle = plant.idle + 1 }) else record { net = net; later = plant.later; idle = 0 }) ended
        ∙ (ap (λ (l : List Setup). if nat_le pause (plant.idle + 1) then started l net (plant.idle + 1)
        else record { net = net; later = l; idle = plant.idle + 1 }) later
        ∙ ap (λ (b : Bool). if b then record { net = begun_with next net; later = more; idle = 0 }
        else record { net = net; later = next ∷ more; idle = plant.idle + 1 }) is)

    starts_now : (plant after : Plant F) (round : PlantRound as_flash pause plant after) → plant.later ≡ next ∷ more → nat_le pause (plant.idle + 1) ≡ true
        → IsOver setup next identity 0 round.net → LeadsBack as_flash pause limit after
    starts_now plant after round later now over =
        subst (LeadsBack as_flash pause limit) (sym (round.goes_on ∙ ended_round plant round.net later over.cause over.ended.in_phase true now))
        (plant_leads as_flash pause limit (record { net = begun_with next round.net; later = more; idle = 0 })
        (next_starts (begun_with next round.net) (begins round.net over.stands over.nothing over.lasts)))

    pub at_most : (n m : ℕ) → n ≤ m → nat_le n m ≡ true
    at_most n m few = grind (arith, nat_tests)

    pub more_than : (n m : ℕ) → m + 1 ≤ n → nat_le n m ≡ false
    more_than n m many = grind (arith, nat_tests)

    pub over_leads : (r : ℕ) (plant : Plant F) (left : ℕ) → plant.later ≡ next ∷ more → pause ≡ plant.idle + suc r
        → left ≤ suc r → IsOver setup next identity left plant.net
        → LeadsBack as_flash pause (suc (sum r limit)) plant
    over_leads zero plant left later is few over = inr (λ after round.
        starts_now plant after round later (at_most pause (plant.idle + 1) (omega (arith, is)))
        (subst (λ (n : ℕ). IsOver setup next identity n round.net) (none_left (less left) (less_few left 0 few))
        (waits left plant.net round.net over round.round)))
      where
        none_left : (n : ℕ) → n ≤ 0 → n ≡ 0
        none_left n few = omega (arith, few)
    over_leads (suc r) plant left later is few over = inr (λ after round.
        let on = waits left plant.net round.net over round.round in
        let goes = round.goes_on ∙ ended_round plant round.net later on.cause on.ended.in_phase false (more_than pause (plant.idle + 1) (omega (arith, is))) in
        subst (LeadsBack as_flash pause (suc (sum r limit))) (sym goes)
        (over_leads r (record { net = round.net; later = next ∷ more; idle = plant.idle + 1 })
        (less left) refl (omega (arith, is)) (less_few left (suc r) few) on))

    -- after the round in which the controller was refused
    refused_leads : (plant after : Plant F) (left : ℕ) (round : PlantRound as_flash pause plant after)
        → plant.later ≡ next ∷ more → plant.idle ≡ 0 → suc left ≤ pause
        → IsOver setup next identity left round.net → LeadsBack as_flash pause (pause + limit - 1) after
    refused_leads plant after left round later idle few over = by_pause pause refl
      where
        sum_few : (r : ℕ) → pause ≡ suc (suc r) → suc (sum r limit) ≤ pause + limit - 1
        sum_few r e = let is : sum r limit ≡ r + limit = sum_is r limit in omega (arith, is, e)

        by_pause : (p : ℕ) → pause ≡ p → LeadsBack as_flash pause (pause + limit - 1) after
        by_pause zero e = absurd (omega (arith, few, e))
        by_pause (suc zero) e =
            leads_more as_flash pause limit (pause + limit - 1) after (omega (arith, e))
            (starts_now plant after round later (at_most pause (plant.idle + 1) (omega (arith, e)))
            (subst (λ (n : ℕ). IsOver setup next identity n round.net) (omega (arith, few, e)) over))
        by_pause (suc (suc r)) e =
            leads_more as_flash pause (suc (sum r limit)) (pause + limit - 1) after (sum_few r e)
            (subst (LeadsBack as_flash pause (suc (sum r limit)))
            (sym (round.goes_on ∙ ended_round plant round.net later over.cause over.ended.in_phase false (more_than pause (plant.idle + 1) (omega (arith, e, idle)))))
            (over_leads r (record { net = round.net; later = next ∷ more; idle = plant.idle + 1 }) left refl
            (omega (arith, e, idle)) (omega (arith, few, e)) over))

    -- after the round in which the ERR of a controller that was left arrived
    ending_leads : (plant : Plant F) → plant.later ≡ next ∷ more → plant.idle ≡ 1 → 2 ≤ pause → IsEnding plant.net
        → LeadsBack as_flash pause (suc (pause + limit - 2)) plant
    ending_leads plant later idle long at = inr (λ after round. by_pause after round (over_then plant.net round.net at round.round) pause refl)
      where
        sum_few : (r : ℕ) → pause ≡ suc (suc (suc r)) → suc (sum r limit) ≤ pause + limit - 2
        sum_few r e = let is : sum r limit ≡ r + limit = sum_is r limit in omega (arith, is, e)

        by_pause : (after : Plant F) (round : PlantRound as_flash pause plant after) → IsOver setup next identity 0 round.net
            → (p : ℕ) → pause ≡ p → LeadsBack as_flash pause (pause + limit - 2) after
        by_pause after round over zero e = absurd (omega (arith, long, e))
        by_pause after round over (suc zero) e = absurd (omega (arith, long, e))
        by_pause after round over (suc (suc zero)) e =
            leads_more as_flash pause limit (pause + limit - 2) after (omega (arith, e))
            (starts_now plant after round later (at_most pause (plant.idle + 1) (omega (arith, e, idle))) over)
        by_pause after round over (suc (suc (suc r))) e =
            leads_more as_flash pause (suc (sum r limit)) (pause + limit - 2) after (sum_few r e)
            (subst (LeadsBack as_flash pause (suc (sum r limit)))
            (sym (round.goes_on ∙ ended_round plant round.net later over.cause over.ended.in_phase false (more_than pause (plant.idle + 1) (omega (arith, e, idle)))))
            (over_leads r (record { net = round.net; later = next ∷ more; idle = plant.idle + 1 }) 0 refl
            (omega (arith, e, idle)) (omega arith) over))

    abbrev end_limit : ℕ
    end_limit = suc (pause + limit - 2)

    enough_to_end : (left : ℕ) → end_limit ≤ sum left end_limit
    enough_to_end left = let is : sum left end_limit ≡ left + end_limit = sum_is left end_limit in omega (arith, is)

    -- after a round with such a device
    left_round : (n left : ℕ) (plant after : Plant F) (round : PlantRound as_flash pause plant after) → plant.later ≡ next ∷ more → plant.idle ≡ 0 → 2 ≤ pause
        → end_limit ≤ n → ((fewer : ℕ) → left ≡ suc fewer → IsLeft fewer round.net → LeadsBack as_flash pause n after)
        → LeftAfter left round.net → LeadsBack as_flash pause n after
    left_round n left plant after round later idle long enough on (inl ending) =
        leads_more as_flash pause end_limit n after enough
        (subst (LeadsBack as_flash pause end_limit)
        (sym (round.goes_on ∙ ended_round plant round.net later DataHold ending.ended.in_phase false (more_than pause (plant.idle + 1) (omega (arith, long, idle)))))
        (ending_leads (record { net = round.net; later = next ∷ more; idle = plant.idle + 1 }) refl (omega (arith, idle)) long ending))
    left_round n left plant after round later idle long enough on (inr still) = on still.0 still.1 still.2

    left_leads : (left : ℕ) (plant : Plant F) → plant.later ≡ next ∷ more → plant.idle ≡ 0 → 2 ≤ pause → IsLeft left plant.net
        → LeadsBack as_flash pause (suc (sum left end_limit)) plant
    left_leads zero plant later idle long at = inr (λ after round.
        left_round end_limit zero plant after round later idle long (enough_to_end zero) (λ fewer same still. absurd cc)
        (left_after zero plant.net round.net at round.round))
    left_leads (suc left) plant later idle long at = inr (λ after round.
        left_round (suc (sum left end_limit)) (suc left) plant after round later idle long (enough_to_end (suc left))
        (λ fewer same still.
        subst (LeadsBack as_flash pause (suc (sum left end_limit)))
        (sym (round.goes_on ∙ goes_on_with pause plant round.net (ap is_ended still.alone.in_phase)))
        (left_leads left (record { net = round.net; later = plant.later; idle = 0 }) later refl long
        (subst (λ (n : ℕ). IsLeft n round.net) (omega (arith, same)) still)))
        (left_after (suc left) plant.net round.net at round.round))

    pub comes_back_alone : (left : ℕ) → 2 ≤ pause → (plant : Plant F) → (at : IsDeserted setup next identity left plant) → at.more ≡ more
        → LeadsBack as_flash pause (left + pause + limit) plant
    comes_back_alone left long plant at same =
        leads_more as_flash pause (suc (sum left end_limit)) (left + pause + limit) plant enough
        (left_leads left plant (at.later ∙ ap (λ (l : List Setup). next ∷ l) same) at.idle long (record {
          serial = at.serial;
          stands = record {
            ignored = subst (λ (fs : List (List ℕ)). AllByRecursion (IsIgnored setup) fs) (sym at.silent) tt;
            ignored_next = subst (λ (fs : List (List ℕ)). AllByRecursion (IsIgnored next) fs) (sym at.silent) tt;
            of_device = at.of_device;
            of_plan = at.of_plan;
            named = at.named;
            sized = at.sized;
            addressed = at.addressed;
            uncalled_next = at.uncalled_next;
            unasked = at.unasked;
          };
          alone = at.alone;
          outputs = at.outputs;
          silent = at.silent;
          unrelated = at.unrelated;
        }))
      where
        enough : suc (sum left end_limit) ≤ left + pause + limit
        enough = let is : sum left end_limit ≡ left + end_limit = sum_is left end_limit in omega (arith, is, long)

    -- ---- the whole

    module _ (looking : (net : Net F) → IsLooking setup identity net → Leads as_flash limit net)
        (addressing : (net : Net F) → IsAddressing setup identity net → Leads as_flash (write_count setup.plan + 4) net)
        (connecting : (net : Net F) → IsConnecting setup identity net → Leads as_flash (write_count setup.plan + 3) net) where
      -- the next request is under way
      pub next_leads : (left : ℕ) (plant : Plant F) → plant.later ≡ next ∷ more → plant.idle ≡ 0 → left ≤ pause → Next left plant.net
          → LeadsBack as_flash pause (pause + limit) plant
      next_leads left plant later idle few (inl (inl at)) =
          leads_more as_flash pause (write_count setup.plan + 4) (pause + limit) plant (omega arith)
          (plant_leads as_flash pause (write_count setup.plan + 4) plant (addressing plant.net at))
      next_leads left plant later idle few (inr (inl at)) =
          leads_more as_flash pause (write_count setup.plan + 3) (pause + limit) plant (omega arith)
          (plant_leads as_flash pause (write_count setup.plan + 3) plant (connecting plant.net at))
      next_leads zero plant later idle few (inl (inr asking)) = absurd asking
      next_leads zero plant later idle few (inr (inr asking)) = absurd asking.1
      next_leads (suc left) plant later idle few (inl (inr asking)) =
          subst (λ (n : ℕ). LeadsBack as_flash pause n plant) (one_back pause (write_count setup.plan))
          (inr (λ after round. refused_leads plant after left round later idle few (address_refused left plant.net round.net asking round.round)))
      next_leads (suc left) plant later idle few (inr (inr asking)) =
          subst (λ (n : ℕ). LeadsBack as_flash pause n plant) (one_back pause (write_count setup.plan))
          (inr (λ after round. refused_leads plant after left round later idle few (connect_refused left plant.net round.net asking.0 asking.1 round.round)))

      -- the controller has not ended then
      next_on : (left : ℕ) (net : Net F) → Next left net → is_ended net.controller.live.phase ≡ false
      next_on left net (inl (inl at)) = ap is_ended at.asks.in_phase
      next_on left net (inr (inl at)) = ap is_ended at.asks.in_phase
      next_on zero net (inl (inr asking)) = absurd asking
      next_on zero net (inr (inr asking)) = absurd asking.1
      next_on (suc left) net (inl (inr asking)) = ap is_ended asking.asks.in_phase
      next_on (suc left) net (inr (inr asking)) = ap is_ended asking.1.asks.in_phase

      pub comes_back : (left : ℕ) → left ≤ pause → (plant : Plant F) → (at : IsRestart setup next identity left plant) → at.more ≡ more
          → LeadsBack as_flash pause (suc (pause + limit)) plant
      comes_back left few plant at same = inr (λ after round.
          let stands : Stands setup next identity plant.net = record {
            ignored = at.ignored;
            ignored_next = at.ignored_next;
            of_device = at.of_device;
            of_plan = at.of_plan;
            named = at.named;
            sized = at.sized;
            addressed = at.addressed;
            uncalled_next = at.uncalled_next;
            unasked = at.earlier.unasked;
          } in
          let opened = at.opened ∙ ap (λ (f : List ℕ). f ∷ []) (opening_is setup identity plant.net.controller at.of_setup) in
          let asks = looks left plant.net round.net stands at.of_setup at.made opened at.uncalled
          (record { here = longer setup left plant.net.device.live at.earlier; there = longer next left plant.net.device.live at.earlier_next }) round.round in
          subst (LeadsBack as_flash pause (pause + limit)) (sym (round.goes_on ∙ goes_on_with pause plant round.net (next_on left round.net asks)))
          (next_leads left (record { net = round.net; later = plant.later; idle = 0 }) (at.later ∙ ap (λ (l : List Setup). next ∷ l) same) refl few asks))
