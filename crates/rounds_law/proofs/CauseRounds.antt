-- The rounds of a start-up that cannot succeed.
use Rattle.std.proofs.Common.{◌≡◌, ◌⊎◌, inl, inr, ◌+◌, ℕ, suc, true, false, List, [], ◌∷◌, ◌++◌, refl, sym, ap, subst, ◌∙◌, arith, Option, None}
use Rattle.std.specs.List.{AllByRecursion}
use Rattle.flash_model.specs.declared.flash.Flash.{Ghosts as Flash}
use Rattle.pn_values.specs.declared.identity.Identity.{Identity}
use Rattle.pn_values.specs.IpSuite.{is_zero}
use Rattle.pn_values.specs.declared.real.Real.{Real}
use Rattle.rpc_core.specs.Response.{answer_to}
use Rattle.rpc_core.specs.Sendable.{CanBeAnswered}
use Rattle.records.specs.status.Status.{done}
use Rattle.pn_values.specs.declared.set_item.BlockError.{BlockError}
use Rattle.pn_values.specs.declared.settings.Settings.{Settings}
use Rattle.settings_journal.specs.settings_store.Machine.{Outcome}
use Rattle.settings_journal.specs.settings_store.State.{Values}
use Rattle.device_frames.specs.Heard.{Ticks}
use Rattle.device_frames.specs.Sendable.{AreSendable}
use Rattle.device_core.specs.Handled.{number_now}
use Rattle.device_core.specs.State.{Live, State, Station}
use Rattle.device_core.specs.Machine.{heard_step}
use Rattle.controller_messages.specs.declared.setup.Setup.{Setup}
use Rattle.controller_messages.specs.declared.request.Request.{Request}
use Rattle.controller_messages.specs.declared.request.Request.TheVariants as wants
use Rattle.controller_messages.specs.Requests.{call_for, write_count}
use Rattle.controller_core.specs.declared.stored.event.Event.TheVariants.{Tick}
use Rattle.controller_core.specs.declared.stored.state.Cause.{Cause}
use Rattle.controller_core.specs.declared.stored.state.Cause.TheVariants as cause
use Rattle.controller_core.specs.declared.stored.state.State.{State as Phases}
use Rattle.controller_core.specs.declared.stored.state.State.TheVariants.{Addressing, Connecting}
use Rattle.controller_core.specs.stored.State.{Controlling, is_limited}
use Rattle.controller_core.specs.Machine.{Stepped, first as first_live, opening_of, step_of}
use Rattle.both_ends.specs.startup.Played.{CanMeet}
use Rattle.both_ends.specs.startup.answer.Answer.{AcceptsInterval}
use Rattle.rounds_law.specs.Path.{Asks, AsksNext, FindsIt, IsAddressed, IsFree, IsNamed, IsOutputs, IsSearching, IsSized}
use Rattle.rounds_law.specs.Path.{controller_step, device_step, found_frame, request_to}
use Rattle.rounds_law.specs.Rounds.{HearsAll, Net, Round, hears_all}
use Rattle.rounds_law.specs.Start.{IsPatient}
use Rattle.rounds_law.specs.Causes.{CannotStore, ConnectsToOther, Differs, EndedWith, EndsWithin, FailingRound, IsOther, IsUnstored}
use Rattle.rounds_law.specs.Causes.{Seeks, SeeksUnaddressed, blocks_with, differing_frame, unstored_frame}
use Rattle.rounds_law.proofs.CompositionEnds.{Passed, ignore, passed, searching_first}
use Rattle.rounds_law.proofs.CompositionLists.{arrive_first, hears_one, went_at}

-- ---- what the laws of both ends say of a set-up and a device

pub record EndLaws (setup : Setup) (identity : Identity) : Type 0 where
  pub device_found : (outcomes : List Outcome) (station : Station) (live : Live) → station.identity ≡ identity → IsNamed setup live
      → ((device_step outcomes station live (request_to setup identity wants.Identify)).live ≡ live)
      × ((device_step outcomes station live (request_to setup identity wants.Identify)).frames ≡ found_frame setup identity live.values.running ∷ [])
  pub other : IsOther setup identity → (settings : Settings) (controller : Controlling) → settings.name ≡ setup.plan.station.name
      → IsSized settings.suite → controller.setup ≡ setup → controller.live ≡ first_live setup.plan
      → EndedWith cause.WrongDevice (controller_step controller (found_frame setup identity settings)).controller
  pub device_free : (outcomes : List Outcome) (station : Station) (live : Live) → IsFree setup live
      → ((heard_step outcomes station live Ticks).frames ≡ []) × ((heard_step outcomes station live Ticks).live.values ≡ live.values)
      × IsFree setup (heard_step outcomes station live Ticks).live
  pub device_unstored : (outcomes : List Outcome) (station : Station) (live : Live) → station.identity ≡ identity → IsFree setup live
      → CannotStore live ⊎ ((device_step outcomes station live (request_to setup identity wants.Address)).live.values.has_failed ≡ true)
      → (error : BlockError) × IsUnstored error
      × ((device_step outcomes station live (request_to setup identity wants.Address)).frames ≡ unstored_frame setup identity error ∷ [])
  pub controller_found : IsPatient setup.plan setup.options → identity.vendor_id ≡ setup.plan.station.vendor_id
      → identity.device_id ≡ setup.plan.station.device_id
      → (settings : Settings) (controller : Controlling) → settings.name ≡ setup.plan.station.name
      → IsSized settings.suite → IsSearching setup controller
      → FindsIt setup identity settings (write_count setup.plan + 2) (controller_step controller (found_frame setup identity settings))
  pub controller_unit : (controller : Controlling) (phase : Phases) (request : Request) (stands : Option ℕ) (spare : ℕ) → is_limited phase ≡ true
      → Asks setup identity.mac phase request stands (suc spare) controller
      → AllByRecursion (IsOutputs setup stands identity.mac) (step_of controller Tick).frames
      × Asks setup identity.mac phase request stands spare (step_of controller Tick).controller
  pub controller_unsent : (controller : Controlling) (phase : Phases) (request : Request) (spare : ℕ) → is_limited phase ≡ true
      → Asks setup identity.mac phase request None (suc spare) controller → (step_of controller Tick).frames ≡ []
  pub unstored : (controller : Controlling) (spare : ℕ) (error : BlockError) → IsUnstored error
      → Asks setup identity.mac Addressing wants.Address None spare controller
      → EndedWith cause.Refused (controller_step controller (unstored_frame setup identity error)).controller
  pub device_differing : CanMeet setup identity → is_zero setup.plan.station.suite.address ≡ false
      → (outcomes : List Outcome) (station : Station) (live : Live) → station.identity ≡ identity
      → AcceptsInterval station.options setup.plan → IsAddressed setup live → IsFree setup live
      → ((device_step outcomes station live (request_to setup identity wants.Connect)).frames ≡ differing_frame setup identity (number_now station live) live.rest.real ∷ [])
      × (AreSendable identity (device_step outcomes station live (request_to setup identity wants.Connect)).sent
      → CanBeAnswered (answer_to (call_for setup wants.Connect) done (blocks_with setup identity (number_now station live) live.rest.real)))
  pub differing : (serial : ℕ) (real : Real) (controller : Controlling) (spare : ℕ) → Asks setup identity.mac Connecting wants.Connect None spare controller
      → Differs setup identity serial real → CanBeAnswered (answer_to (call_for setup wants.Connect) done (blocks_with setup identity serial real))
      → EndedWith cause.ModuleDiff (controller_step controller (differing_frame setup identity serial real)).controller
  pub unit : (why : Cause) (controller : Controlling) → EndedWith why controller → EndedWith why (step_of controller Tick).controller

-- the opening frame is the Identify
opening_is : (setup : Setup) (identity : Identity) (controller : Controlling) → controller.setup ≡ setup
    → opening_of controller ≡ request_to setup identity wants.Identify
unfolding opening_of
opening_is setup identity controller of_setup = ap (λ (s : Setup). request_to s identity wants.Identify) of_setup

-- The Set of the IP suite is under way to a device without a relation.
record Sets {F : Type 0} (setup : Setup) (identity : Identity) (net : Net F) : Type 0 where
  spare : ℕ
  asks : Asks setup identity.mac Addressing wants.Address None spare net.controller
  under_way : net.to_device ≡ request_to setup identity wants.Address ∷ []
  none : net.to_controller ≡ []
  of_device : net.device.station.identity ≡ identity
  free : IsFree setup net.device.live

-- What a round does with the Identify: the device is as it was, and the controller hears its answer.
record Searched {F : Type 0} (setup : Setup) (identity : Identity) (net next : Net F) (device : State F) : Type 0 where
  before : Controlling
  of_setup : before.setup ≡ setup
  made : before.live ≡ first_live setup.plan
  same : device.live ≡ net.device.live
  of_station : device.station ≡ net.device.station
  passes : Passed (controller_step before (found_frame setup identity net.device.live.values.running)) next

first_frame : List (List ℕ) → List ℕ
first_frame [] = []
first_frame (octets ∷ frames) = octets

module _ {F : Type 0} {S : ℕ} (as_flash : Flash F S) (setup : Setup) (identity : Identity) (laws : EndLaws setup identity) where
  arrives_as : (net next : Net F) (round : Round as_flash net next) (frames : List (List ℕ)) → net.to_device ≡ frames
      → HearsAll as_flash net.device frames round.answers round.device
  arrives_as net next round frames is = subst (λ (fs : List (List ℕ)). HearsAll as_flash net.device fs round.answers round.device) is round.arrives

  -- nothing comes after the first frame
  never : (Is : Live → Type 0) (station : Station) (live : Live) (octets : List ℕ) → ⊥ → Is live
      → ((device_step [] station live octets).frames ≡ []) × Is (device_step [] station live octets).live
  never Is station live octets empty is = absurd empty

  -- a controller that a frame has ended is ended after the round
  ended_after : (why : Cause) (heard : Stepped) (next : Net F) → EndedWith why heard.controller → next.controller ≡ (step_of heard.controller Tick).controller
      → EndedWith why next.controller
  ended_after why heard next ended is = subst (λ (c : Controlling). EndedWith why c) (sym is) (laws.unit why heard.controller ended)

  -- ---- the search

  searched : (net next : Net F) → Seeks setup identity net → (round : Round as_flash net next) → Searched setup identity net next round.device
  searched net next at round =
      let station = net.device.station in
      let answer = found_frame setup identity net.device.live.values.running in
      let found = laws.device_found [] station net.device.live at.of_device at.named in
      let all = arrive_first as_flash station (λ (live : Live). live ≡ net.device.live) (λ (octets : List ℕ). ⊥)
      (never (λ (live : Live). live ≡ net.device.live) station)
      net.device (request_to setup identity wants.Identify) [] round.answers round.device refl (λ sendable. found.0) tt
      (arrives_as net next round (request_to setup identity wants.Identify ∷ [])
      (at.opened ∙ ap (λ (f : List ℕ). f ∷ []) (opening_is setup identity net.controller at.of_setup))) in
      let kept = ignore setup (λ (c : Controlling). (c.setup ≡ setup) × (c.live ≡ first_live setup.plan)) (λ c is. (is.0, ap (λ l. l.stands) is.1))
      net.controller net.to_controller (answer ∷ []) at.ignored (at.of_setup, at.made) in
      record {
        before = kept.between;
        of_setup = kept.is.0;
        made = kept.is.1;
        same = all.0.is;
        of_station = all.0.of_station;
        passes = passed as_flash net next round (answer ∷ []) (controller_step kept.between answer) (all.0.sent ∙ found.1)
            (kept.goes_on ∙ hears_one kept.between answer);
      }

  -- ---- the name is in use

  other_round : IsOther setup identity → (net next : Net F) → Seeks setup identity net → Round as_flash net next → EndedWith cause.WrongDevice next.controller
  other_round other net next at round =
      let is = searched net next at round in
      let settings = net.device.live.values.running in
      ended_after cause.WrongDevice (controller_step is.before (found_frame setup identity settings)) next
      (laws.other other settings is.before at.named.name at.sized is.of_setup is.made) is.passes.controller

  pub other_law : IsOther setup identity → (net : Net F) → Seeks setup identity net → EndsWithin as_flash 1 cause.WrongDevice net
  other_law other net at = inr (λ next round. other_round other net next at round)

  -- ---- an IP suite that is not stored

  sets_after : (step : Stepped) (next : Net F) (spare : ℕ) → Passed step next → AsksNext setup identity Addressing wants.Address None (suc spare) step
      → next.to_controller ≡ [] → next.device.station.identity ≡ identity → IsFree setup next.device.live → Sets setup identity next
  sets_after step next spare u asked none own free = record {
    spare = spare;
    asks = subst (λ (c : Controlling). Asks setup identity.mac Addressing wants.Address None spare c) (sym u.controller)
        (laws.controller_unit step.controller Addressing wants.Address None spare refl asked.asks).1;
    under_way = u.to_device
        ∙ (ap (λ (fs : List (List ℕ)). fs ++ (step_of step.controller Tick).frames) asked.frames
        ∙ ap (λ (fs : List (List ℕ)). request_to setup identity wants.Address ∷ fs)
        (laws.controller_unsent step.controller Addressing wants.Address spare refl asked.asks));
    none = none;
    of_device = own;
    free = free;
  }

  two_more : (n : ℕ) → n + 2 ≡ suc (n + 1)
  two_more n = omega arith

  by_found : (settings : Settings) (step : Stepped) → (settings.suite ≡ setup.plan.station.suite → ⊥)
      → FindsIt setup identity settings (write_count setup.plan + 2) step
      → AsksNext setup identity Addressing wants.Address None (suc (write_count setup.plan + 1)) step
  by_found settings step other (inl found) = absurd (other found.0)
  by_found settings step other (inr found) =
      subst (λ (n : ℕ). AsksNext setup identity Addressing wants.Address None n step) (two_more (write_count setup.plan)) found.1

  -- After the search the Set is under way, and the settings of the device are what they were.
  unaddressed_round : IsPatient setup.plan setup.options → (net next : Net F) → SeeksUnaddressed setup identity net → Round as_flash net next
      → Sets setup identity next × (next.device.live.values ≡ net.device.live.values)
  unaddressed_round patient net next at round =
      let is = searched net next at.seeks round in
      let station = net.device.station in
      let settings = net.device.live.values.running in
      let step = controller_step is.before (found_frame setup identity settings) in
      let w = went_at as_flash round.device station Ticks next.to_controller next.device is.of_station round.unit in
      let law = laws.device_free [] station round.device.live (subst (λ (live : Live). IsFree setup live) (sym is.same) at.free) in
      let found = laws.controller_found patient at.right.vendor at.right.device settings is.before at.seeks.named.name at.seeks.sized
      (searching_first setup is.before is.of_setup is.made) in (
        sets_after step next (write_count setup.plan + 1) is.passes (by_found settings step at.other found) (w.sent ∙ law.0)
            (ap (λ (s : Station). s.identity) w.of_station ∙ at.seeks.of_device) (subst (λ (live : Live). IsFree setup live) (sym w.state) law.2),
        ap (λ (live : Live). live.values) w.state ∙ (law.1 ∙ ap (λ (live : Live). live.values) is.same),
      )

  -- the controller hears such an answer, and a unit passes
  unstored_after : (net next : Net F) (answers : List (List ℕ)) (error : BlockError) → Sets setup identity net → IsUnstored error
      → answers ≡ unstored_frame setup identity error ∷ []
      → next.controller ≡ (step_of (hears_all net.controller (net.to_controller ++ answers)).controller Tick).controller
      → EndedWith cause.Refused next.controller
  unstored_after net next answers error at unstored is after =
      let frame = unstored_frame setup identity error in
      let heard : hears_all net.controller (net.to_controller ++ answers) ≡ controller_step net.controller frame =
      ap (λ (fs : List (List ℕ)). hears_all net.controller (fs ++ answers)) at.none
      ∙ (ap (λ (fs : List (List ℕ)). hears_all net.controller fs) is ∙ hears_one net.controller frame) in
      ended_after cause.Refused (controller_step net.controller frame) next (laws.unstored net.controller at.spare error unstored at.asks)
      (after ∙ ap (λ (s : Stepped). (step_of s.controller Tick).controller) heard)

  unstored_round : (net next : Net F) → Sets setup identity net → CannotStore net.device.live → Round as_flash net next
      → EndedWith cause.Refused next.controller
  unstored_round net next at cannot round =
      let station = net.device.station in
      let law = laws.device_unstored [] station net.device.live at.of_device at.free (inl cannot) in
      let all = arrive_first as_flash station (λ (live : Live). Unit {0}) (λ (octets : List ℕ). ⊥) (never (λ (live : Live). Unit {0}) station)
      net.device (request_to setup identity wants.Address) [] round.answers round.device refl (λ sendable. tt) tt
      (arrives_as net next round (request_to setup identity wants.Address ∷ []) at.under_way) in
      unstored_after net next round.answers law.0 at law.1 (all.0.sent ∙ law.2) round.controller

  cannot_by : (before after : Live) → after.values ≡ before.values → CannotStore before → CannotStore after
  cannot_by before after same (inl failed) = inl (ap (λ (v : Values). v.has_failed) same ∙ failed)
  cannot_by before after same (inr empty) = inr (ap (λ (v : Values). v.room) same ∙ empty)

  pub unstored_law : IsPatient setup.plan setup.options → (net : Net F) → SeeksUnaddressed setup identity net → CannotStore net.device.live
      → EndsWithin as_flash 2 cause.Refused net
  unstored_law patient net at cannot =
      inr (λ next round.
      let sets = unaddressed_round patient net next at round in
      inr (λ last later. unstored_round next last sets.0 (cannot_by net.device.live next.device.live sets.1 cannot) later))

  fails_round : (net next : Net F) → Sets setup identity net → FailingRound as_flash net next → EndedWith cause.Refused next.controller
  unfolding first_frame
  fails_round net next at round =
      let station = net.device.station in
      let request = request_to setup identity wants.Address in
      let outcomes = round.steps.outcomes in
      let same : round.octets ≡ request = ap first_frame (sym round.alone ∙ at.under_way) in
      let failed : (device_step outcomes station net.device.live request).live.values.has_failed ≡ true =
      subst (λ (octets : List ℕ). (device_step outcomes station net.device.live octets).live.values.has_failed ≡ true) same
      (ap (λ (live : Live). live.values.has_failed) (sym round.steps.live) ∙ round.failed) in
      let law = laws.device_unstored outcomes station net.device.live at.of_device at.free (inr failed) in
      unstored_after net next round.answers law.0 at law.1
      (round.steps.frames ∙ (ap (λ (octets : List ℕ). (device_step outcomes station net.device.live octets).frames) same ∙ law.2)) round.controller

  pub fails_law : IsPatient setup.plan setup.options → (net next last : Net F) → SeeksUnaddressed setup identity net → Round as_flash net next
      → FailingRound as_flash next last → EndedWith cause.Refused last.controller
  fails_law patient net next last at round fails = fails_round next last (unaddressed_round patient net next at round).0 fails

  -- ---- modules that differ

  modules_round : CanMeet setup identity → is_zero setup.plan.station.suite.address ≡ false → (net next : Net F) → ConnectsToOther setup identity net
      → Round as_flash net next → EndedWith cause.ModuleDiff next.controller
  modules_round meets some net next at round =
      let station = net.device.station in
      let request = request_to setup identity wants.Connect in
      let serial : ℕ = number_now station net.device.live in
      let answer = differing_frame setup identity serial net.device.live.rest.real in
      let law = laws.device_differing meets some [] station net.device.live at.of_device at.interval at.addressed at.free in
      let all = arrive_first as_flash station (λ (live : Live). Unit {0}) (λ (octets : List ℕ). ⊥) (never (λ (live : Live). Unit {0}) station)
      net.device request [] round.answers round.device refl (λ sendable. tt) tt
      (arrives_as net next round (request ∷ []) at.under_way) in
      let can = law.1 (subst (λ (i : Identity). AreSendable i (device_step [] station net.device.live request).sent) at.of_device all.1) in
      let kept = ignore setup (λ (c : Controlling). Asks setup identity.mac Connecting wants.Connect None at.spare c) (λ c is. (is.of_setup, is.established))
      net.controller net.to_controller (answer ∷ []) at.ignored at.asks in
      let step = controller_step kept.between answer in
      let u = passed as_flash net next round (answer ∷ []) step (all.0.sent ∙ law.0) (kept.goes_on ∙ hears_one kept.between answer) in
      ended_after cause.ModuleDiff step next (laws.differing serial net.device.live.rest.real kept.between at.spare kept.is at.differs can) u.controller

  pub modules_law : CanMeet setup identity → is_zero setup.plan.station.suite.address ≡ false → (net : Net F) → ConnectsToOther setup identity net
      → EndsWithin as_flash 1 cause.ModuleDiff net
  modules_law meets some net at = inr (λ next round. modules_round meets some net next at round)
