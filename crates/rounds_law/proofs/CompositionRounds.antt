-- The rounds of a start-up, one lemma each.
use Rattle.std.proofs.Common.{◌≡◌, ◌⊎◌, inl, inr, ◌≤◌, ◌<◌, ◌+◌, ◌*◌, ℕ, zero, suc, Bool, true, false, List, Some, None}
use Rattle.std.proofs.Common.{[], ◌∷◌, ◌++◌, map, take, if◌then◌else◌, refl, sym, ap, subst, ◌∙◌, arith}
use Rattle.std.specs.Prelude.{nat_lt}
use Rattle.std.specs.List.{AllByRecursion}
use Rattle.std.proofs.lemmas.Bool.{lt-ltb, ltb-true}
use Rattle.flash_model.specs.declared.flash.Flash.{Ghosts as Flash}
use Rattle.pn_values.specs.declared.identity.Identity.{Identity}
use Rattle.settings_journal.specs.settings_store.State.{Values}
use Rattle.records.specs.declared.writes.taken.TakenRecord.{TakenRecord}
use Rattle.relations.specs.declared.phase.Phase.TheVariants.{Awaiting, Started}
use Rattle.device_frames.specs.Heard.{Ticks}
use Rattle.device_frames.specs.Sendable.{AreSendable}
use Rattle.device_core.specs.State.{Live, State, Station}
use Rattle.plans.specs.declared.parts.Parts.{Parts}
use Rattle.controller_messages.specs.declared.setup.Setup.{Setup}
use Rattle.controller_messages.specs.declared.request.Request.{Request}
use Rattle.controller_messages.specs.declared.request.Request.TheVariants as wants
use Rattle.controller_messages.specs.Requests.{first_of, write_count, writing_from}
use Rattle.controller_core.specs.declared.stored.event.Event.TheVariants.{Tick}
use Rattle.controller_core.specs.declared.stored.state.State.{State as Phases}
use Rattle.controller_core.specs.declared.stored.state.State.TheVariants.{Addressing, Connecting, Ending, Exchanging, Looking, Writing}
use Rattle.controller_core.specs.stored.State.{Controlling, is_limited, phase_for}
use Rattle.controller_core.specs.Machine.{Stepped, opening_of, step_of}
use Rattle.network_world.specs.World.{is_ended}
use Rattle.both_ends.specs.startup.View.{taken_for}
use Rattle.both_ends.specs.startup.answer.Answer.{answer_frame}
use Rattle.rounds_law.specs.Middle.{IsConfirming, IsEnding, taken_before}
use Rattle.rounds_law.specs.Path.{Asks, AsksNext, Controls, Exchanges, FindsIt, IsAddressed, IsFree, IsIgnored}
use Rattle.rounds_law.specs.Path.{IsInputs, IsOutputs, IsReport, IsSearching, confirmed_frame, controller_step, device_step}
use Rattle.rounds_law.specs.Path.{ended_frame, found_frame, readied_frame, request_to, set_frame}
use Rattle.rounds_law.specs.Rounds.{BothExchange, Net, Round, hears_all}
use Rattle.rounds_law.specs.Stages.{IsAddressing, IsConnecting, IsLooking, Leads}
use Rattle.rounds_law.specs.Start.{CanBeAddressed, CanStart, IsOfPlan}
use Rattle.device_core.specs.Handled.{number_now}
use Rattle.rounds_law.proofs.Numbers.{number_few}
use Rattle.rounds_law.proofs.CompositionLaws.{Laws}
use Rattle.rounds_law.proofs.CompositionLists.{arrive_first, arrives_as, hears_one, keep, keep_state, never, went_at}
use Rattle.rounds_law.proofs.CompositionEnds.{Asked, IsRelated, Passed, addressed_by, asked_after, can_by, free_unit}
use Rattle.rounds_law.proofs.CompositionEnds.{ignore, named_by, passed, related_outputs, related_unit}
use Rattle.rounds_law.proofs.PlanKept.{round_of_plan}

-- ---- small facts

pub two_more : (n : ℕ) → n + 2 ≡ suc (n + 1)
two_more n = omega arith

-- the opening frame is the Identify
pub opening_is : (setup : Setup) (identity : Identity) (controller : Controlling) → controller.setup ≡ setup
    → opening_of controller ≡ request_to setup identity wants.Identify
unfolding opening_of
opening_is setup identity controller of_setup = ap (λ (s : Setup). request_to s identity wants.Identify) of_setup

-- a request of the parameters
chosen_limited : (b : Bool) (number : ℕ) → is_limited (phase_for (if b then wants.Write number else wants.PrmEnd)) ≡ true
chosen_limited true number = refl
chosen_limited false number = refl

pub writing_limited : (plan : Parts) (number : ℕ) → is_limited (phase_for (writing_from plan number)) ≡ true
writing_limited plan number = chosen_limited (nat_lt number (write_count plan)) number

chosen_open : (b : Bool) (number : ℕ) → is_ended (phase_for (if b then wants.Write number else wants.PrmEnd)) ≡ false
chosen_open true number = refl
chosen_open false number = refl

pub writing_open : (plan : Parts) (number : ℕ) → is_ended (phase_for (writing_from plan number)) ≡ false
writing_open plan number = chosen_open (nat_lt number (write_count plan)) number

pub writes : (plan : Parts) (number : ℕ) → number < write_count plan → writing_from plan number ≡ wants.Write number
writes plan number below = ap (λ (b : Bool). if b then wants.Write number else wants.PrmEnd) (lt-ltb number (write_count plan) below)

pub ends : (plan : Parts) (number : ℕ) → number ≡ write_count plan → writing_from plan number ≡ wants.PrmEnd
ends plan number last = by_test (nat_lt number (write_count plan)) refl
  where
    by_test : (b : Bool) → nat_lt number (write_count plan) ≡ b → (if b then wants.Write number else wants.PrmEnd) ≡ wants.PrmEnd
    by_test true e = let below = ltb-true number (write_count plan) e in absurd (omega (arith, below, last))
    by_test false e = refl

first_zero : (plan : Parts) → first_of plan 0 ≡ 0
first_zero plan = by_kind plan.multiple_write
  where
    by_kind : (b : Bool) → (if b then 0 * 10 else 0) ≡ 0
    by_kind true = refl
    by_kind false = refl

before_first : (setup : Setup) → [] ≡ taken_before setup 0
before_first setup = sym (ap (λ (n : ℕ). map taken_for (take n setup.plan.records.items)) (first_zero setup.plan))

-- ---- the stages after the Connect

-- A Write is under way, or PrmEnd after the last one.
pub record IsAtRequest {F : Type 0} (setup : Setup) (identity : Identity) (number spare : ℕ) (net : Net F) : Type 0 where
  pub serial : ℕ
  pub of_device : net.device.station.identity ≡ identity
  pub of_plan : IsOfPlan setup net.device.station net.device.live.rest.real
  pub age : ℕ
  pub is : IsRelated setup serial Started (taken_before setup number) number age net.device.live
  pub asked : Asked setup identity (phase_for (writing_from setup.plan number)) (writing_from setup.plan number) (Some serial) spare net.controller net.to_device
  pub inputs : AllByRecursion (IsInputs setup identity) net.to_controller

module _ {F : Type 0} {S : ℕ} (as_flash : Flash F S) (setup : Setup) (identity : Identity) (laws : Laws setup identity) (can : CanStart setup identity) where
  pub of_device_by : (before after : State F) → after.station ≡ before.station → before.station.identity ≡ identity → after.station.identity ≡ identity
  of_device_by before after same own = ap (λ (s : Station). s.identity) same ∙ own

  -- ---- the search

  pub looking : (net next : Net F) → IsLooking setup identity net → Round as_flash net next
      → IsAddressing setup identity next ⊎ IsConnecting setup identity next
  looking net next at round =
      let station = net.device.station in
      let settings = net.device.live.values.running in
      let found = laws.device_found [] station net.device.live at.of_device at.named in
      let all = arrive_first as_flash station (λ (live : Live). live ≡ net.device.live) (λ (octets : List ℕ). ⊥)
      (never (λ (live : Live). live ≡ net.device.live) station)
      net.device (request_to setup identity wants.Identify) [] round.answers round.device refl (λ sendable. found.0) tt
      (arrives_as as_flash net next round (request_to setup identity wants.Identify ∷ [])
      (at.opened ∙ ap (λ (f : List ℕ). f ∷ []) (opening_is setup identity net.controller at.searches.of_setup))) in
      let unit = free_unit as_flash setup identity laws round.device station next.to_controller next.device all.0.of_station round.unit
      (subst (λ (live : Live). IsFree setup live) (sym all.0.is) at.free) in
      let values : next.device.live.values ≡ net.device.live.values = unit.values ∙ ap (λ (live : Live). live.values) all.0.is in
      let kept = ignore setup (IsSearching setup) (λ c is. (is.of_setup, is.unestablished))
      net.controller net.to_controller (found_frame setup identity settings ∷ []) at.ignored at.searches in
      let step = controller_step kept.between (found_frame setup identity settings) in
      let u = passed as_flash net next round (found_frame setup identity settings ∷ []) step (all.0.sent ∙ found.1)
      (kept.goes_on ∙ hears_one kept.between (found_frame setup identity settings)) in
      let vendor = ap (λ (i : Identity). i.vendor_id) (sym at.of_device) ∙ at.of_plan.vendor in
      let device = ap (λ (i : Identity). i.device_id) (sym at.of_device) ∙ at.of_plan.device in
      by_found net next at round unit.of_station values unit.none unit.free step u
      (laws.controller_found can.patient vendor device settings kept.between at.named.name at.sized kept.is)
    where
      by_found : (net next : Net F) → IsLooking setup identity net → Round as_flash net next → next.device.station ≡ net.device.station
          → next.device.live.values ≡ net.device.live.values
          → next.to_controller ≡ [] → IsFree setup next.device.live → (step : Stepped) → Passed step next
          → FindsIt setup identity net.device.live.values.running (write_count setup.plan + 2) step
          → IsAddressing setup identity next ⊎ IsConnecting setup identity next
      by_found net next at round same values none free step u (inl found) =
          let asked = asked_after setup identity laws step next Connecting wants.Connect None (write_count setup.plan + 1) refl u
          (subst (λ (n : ℕ). AsksNext setup identity Connecting wants.Connect None n step) (two_more (write_count setup.plan)) found.1) in
          inr (record {
            spare = write_count setup.plan + 1;
            asks = asked.asks;
            under_way = asked.under_way ∙ ap (λ (fs : List (List ℕ)). request_to setup identity wants.Connect ∷ fs) (asked.unsent refl);
            ignored = subst (λ (fs : List (List ℕ)). AllByRecursion (IsIgnored setup) fs) (sym none) tt;
            of_device = of_device_by net.device next.device same at.of_device;
            of_plan = round_of_plan as_flash laws.modules setup net next round at.of_plan;
            addressed = record { suite = ap (λ (v : Values). v.running.suite) values ∙ found.0 };
            free = free;
          })
      by_found net next at round same values none free step u (inr found) =
          let asked = asked_after setup identity laws step next Addressing wants.Address None (write_count setup.plan + 1) refl u
          (subst (λ (n : ℕ). AsksNext setup identity Addressing wants.Address None n step) (two_more (write_count setup.plan)) found.1) in
          inl (record {
            spare = write_count setup.plan + 1;
            asks = asked.asks;
            under_way = asked.under_way ∙ ap (λ (fs : List (List ℕ)). request_to setup identity wants.Address ∷ fs) (asked.unsent refl);
            ignored = subst (λ (fs : List (List ℕ)). AllByRecursion (IsIgnored setup) fs) (sym none) tt;
            of_device = of_device_by net.device next.device same at.of_device;
            of_plan = round_of_plan as_flash laws.modules setup net next round at.of_plan;
            named = named_by setup net.device.live next.device.live values at.named;
            free = free;
            can = can_by net.device.live next.device.live values (room at.addressed found.0);
          })
        where
          room : IsAddressed setup net.device.live ⊎ CanBeAddressed net.device.live
              → (net.device.live.values.running.suite ≡ setup.plan.station.suite → ⊥) → CanBeAddressed net.device.live
          room (inl has) not = absurd (not has.suite)
          room (inr can) not = can

  -- The IP suite is set.
  pub addressing : (net next : Net F) → IsAddressing setup identity net → Round as_flash net next → IsConnecting setup identity next
  addressing net next at round =
      let station = net.device.station in
      let law = laws.device_set station net.device.live at.of_device at.named at.free at.can in
      let all = arrive_first as_flash station (λ (live : Live). IsAddressed setup live × IsFree setup live) (λ (octets : List ℕ). ⊥)
      (never (λ (live : Live). IsAddressed setup live × IsFree setup live) station)
      net.device (request_to setup identity wants.Address) [] round.answers round.device refl (λ sendable. (law.2, law.3)) tt
      (arrives_as as_flash net next round (request_to setup identity wants.Address ∷ []) at.under_way) in
      let unit = free_unit as_flash setup identity laws round.device station next.to_controller next.device all.0.of_station round.unit all.0.is.1 in
      let kept = ignore setup (λ (c : Controlling). Asks setup identity.mac Addressing wants.Address None at.spare c) (λ c is. (is.of_setup, is.established))
      net.controller net.to_controller (set_frame setup identity ∷ []) at.ignored at.asks in
      let step = controller_step kept.between (set_frame setup identity) in
      let u = passed as_flash net next round (set_frame setup identity ∷ []) step (all.0.sent ∙ law.0)
      (kept.goes_on ∙ hears_one kept.between (set_frame setup identity)) in
      let asked = asked_after setup identity laws step next Connecting wants.Connect None (write_count setup.plan + 1) refl u
      (subst (λ (n : ℕ). AsksNext setup identity Connecting wants.Connect None n step) (two_more (write_count setup.plan))
      (laws.controller_set can.patient kept.between at.spare kept.is)) in
      record {
        spare = write_count setup.plan + 1;
        asks = asked.asks;
        under_way = asked.under_way ∙ ap (λ (fs : List (List ℕ)). request_to setup identity wants.Connect ∷ fs) (asked.unsent refl);
        ignored = subst (λ (fs : List (List ℕ)). AllByRecursion (IsIgnored setup) fs) (sym unit.none) tt;
        of_device = of_device_by net.device next.device unit.of_station at.of_device;
        of_plan = round_of_plan as_flash laws.modules setup net next round at.of_plan;
        addressed = addressed_by setup round.device.live next.device.live unit.values all.0.is.0;
        free = unit.free;
      }

  -- ---- the calls

  -- The Connect is accepted.
  pub connecting : (net next : Net F) → IsConnecting setup identity net → Round as_flash net next
      → IsAtRequest setup identity 0 (suc (write_count setup.plan)) next
  connecting net next at round =
      let station = net.device.station in
      let serial : ℕ = number_now station net.device.live in
      let answer = answer_frame setup identity station.options serial setup.plan.station.suite.address in
      let law = laws.device_connected can.can_meet can.has_address [] station net.device.live at.of_device at.of_plan at.addressed at.free in
      let connect = request_to setup identity wants.Connect in
      let related : IsRelated setup serial Started [] 0 0 (device_step [] station net.device.live connect).live = record {
        related = law.2;
        addressed = addressed_by setup net.device.live (device_step [] station net.device.live connect).live law.1 at.addressed;
      } in
      let all = arrive_first as_flash station (IsRelated setup serial Started [] 0 0) (λ (octets : List ℕ). ⊥) (never (IsRelated setup serial Started [] 0 0) station)
      net.device connect [] round.answers round.device refl (λ sendable. related) tt
      (arrives_as as_flash net next round (connect ∷ []) at.under_way) in
      let unit = related_unit as_flash setup identity laws serial round.device station next.to_controller next.device all.0.of_station at.of_device round.unit
      Started [] 0 0 refl (omega arith) all.0.is in
      let kept = ignore setup (λ (c : Controlling). Asks setup identity.mac Connecting wants.Connect None at.spare c) (λ c is. (is.of_setup, is.established))
      net.controller net.to_controller (answer ∷ []) at.ignored at.asks in
      let step = controller_step kept.between answer in
      let u = passed as_flash net next round (answer ∷ []) step (all.0.sent ∙ law.0) (kept.goes_on ∙ hears_one kept.between answer) in
      let spared : write_count setup.plan + 2 ≡ suc (suc (write_count setup.plan)) = omega arith in
      record {
        serial = serial;
        of_device = of_device_by net.device next.device unit.of_station at.of_device;
        of_plan = round_of_plan as_flash laws.modules setup net next round at.of_plan;
        age = 1;
        is = subst (λ (taken : List TakenRecord). IsRelated setup serial Started taken 0 1 next.device.live) (before_first setup) unit.is;
        asked = asked_after setup identity laws step next (phase_for (writing_from setup.plan 0))
            (writing_from setup.plan 0) (Some serial) (suc (write_count setup.plan))
            (writing_limited setup.plan 0) u
            (subst (λ (n : ℕ). AsksNext setup identity (phase_for (writing_from setup.plan 0)) (writing_from setup.plan 0) (Some serial) n step) spared
            (laws.controller_connected can.can_meet can.patient station.options at.of_plan.interval serial
            (number_few station.options.numbers_from net.device.live.rest.made) kept.between at.spare kept.is));
        inputs = unit.inputs;
      }

  -- The device and the controller at a request of the parameters, known by name.
  asked_as : (net : Net F) (request : Request) (number spare : ℕ) → writing_from setup.plan number ≡ request → (at : IsAtRequest setup identity number spare net)
      → Asked setup identity (phase_for request) request (Some at.serial) spare net.controller net.to_device
  asked_as net request number spare is at =
      subst (λ (r : Request). Asked setup identity (phase_for r) r (Some at.serial) spare net.controller net.to_device) is at.asked

  -- A Write is accepted.
  pub writing : (number spare : ℕ) → number < write_count setup.plan → spare ≤ write_count setup.plan + 1 → (net next : Net F)
      → IsAtRequest setup identity number (suc spare) net → Round as_flash net next → IsAtRequest setup identity (number + 1) spare next
  writing number spare below few net next at round =
      let serial : ℕ = at.serial in
      let station = net.device.station in
      let request = request_to setup identity (wants.Write number) in
      let law = laws.device_written can.can_meet can.has_address can.records serial [] station net.device.live number
      at.age at.of_device at.of_plan at.is.addressed below at.is.related in
      let asked = asked_as net (wants.Write number) number (suc spare) (writes setup.plan number below) at in
      let taken = taken_before setup (number + 1) in
      let related : IsRelated setup serial Started taken (number + 1) 0 (device_step [] station net.device.live request).live = record {
        related = law.4;
        addressed = addressed_by setup net.device.live (device_step [] station net.device.live request).live law.3 at.is.addressed;
      } in
      let all = arrive_first as_flash station (IsRelated setup serial Started taken (number + 1) 0) (IsOutputs setup (Some serial) identity.mac)
      (λ live octets outputs is. related_outputs as_flash setup identity laws serial station at.of_device Started taken (number + 1) 0 live octets outputs is)
      net.device request asked.outputs round.answers round.device refl (λ sendable. related) asked.are
      (arrives_as as_flash net next round (request ∷ asked.outputs) asked.under_way) in
      let unit = related_unit as_flash setup identity laws serial round.device station next.to_controller next.device all.0.of_station at.of_device round.unit
      Started taken (number + 1) 0 refl (omega arith) all.0.is in
      let kept = keep (λ (c : Controlling). Asks setup identity.mac Writing (wants.Write number) (Some serial) (suc spare) c) (IsInputs setup identity)
      (λ c octets inputs is. laws.controller_inputs c Writing (wants.Write number) (Some serial) (suc spare) octets inputs is)
      net.controller net.to_controller (law.0 ∷ []) at.inputs asked.asks in
      let step = controller_step kept.between law.0 in
      let u = passed as_flash net next round (law.0 ∷ []) step (all.0.sent ∙ law.1) (kept.goes_on ∙ hears_one kept.between law.0) in
      record {
        serial = serial;
        of_device = of_device_by net.device next.device unit.of_station at.of_device;
        of_plan = round_of_plan as_flash laws.modules setup net next round at.of_plan;
        age = 1;
        is = unit.is;
        asked = asked_after setup identity laws step next (phase_for (writing_from setup.plan (number + 1))) (writing_from setup.plan (number + 1)) (Some serial) spare
            (writing_limited setup.plan (number + 1)) u
            (laws.controller_written can.can_meet can.patient serial kept.between number (suc spare) law.0 below (omega (arith, few)) kept.is law.2);
        inputs = unit.inputs;
      }

  -- After the last Write, PrmEnd is under way.
  at_end : (number spare : ℕ) → number ≡ write_count setup.plan → (net : Net F) → IsAtRequest setup identity number spare net → IsEnding setup identity net
  at_end number spare last net at =
      let asked = asked_as net wants.PrmEnd number spare (ends setup.plan number last) at in
      record {
        serial = at.serial;
        device = record { of_device = at.of_device; of_plan = at.of_plan; addressed = at.is.addressed };
        taken = taken_before setup number;
        last = number;
        few = omega (arith, last);
        age = at.age;
        related = at.is.related;
        spare = spare;
        asks = asked.asks;
        under_way = record { outputs = asked.outputs; frames = asked.under_way; are_outputs = asked.are };
        inputs = at.inputs;
      }

  -- PrmEnd is accepted, and ApplicationReady is sent and answered.
  pub ending : (net next : Net F) → IsEnding setup identity net → Round as_flash net next → IsConfirming setup identity next
  ending net next at round =
      let serial : ℕ = at.serial in
      let station = net.device.station in
      let own = at.device.of_device in
      let request = request_to setup identity wants.PrmEnd in
      let law = laws.device_ended can.can_meet can.has_address serial [] station net.device.live at.taken at.last
      at.age own at.device.of_plan at.device.addressed at.few at.related in
      let related : IsRelated setup serial Awaiting at.taken (write_count setup.plan + 1) 0 (device_step [] station net.device.live request).live = record {
        related = law.2;
        addressed = addressed_by setup net.device.live (device_step [] station net.device.live request).live law.1 at.device.addressed;
      } in
      let all = arrive_first as_flash station (IsRelated setup serial Awaiting at.taken (write_count setup.plan + 1) 0) (IsOutputs setup (Some serial) identity.mac)
      (λ live octets outputs is. related_outputs as_flash setup identity laws serial station own Awaiting at.taken
      (write_count setup.plan + 1) 0 live octets outputs is)
      net.device request at.under_way.outputs round.answers round.device refl (λ sendable. related) at.under_way.are_outputs
      (arrives_as as_flash net next round (request ∷ at.under_way.outputs) at.under_way.frames) in
      let unit = related_unit as_flash setup identity laws serial round.device station next.to_controller next.device all.0.of_station own round.unit
      Awaiting at.taken (write_count setup.plan + 1) 0 refl (omega arith) all.0.is in
      let answers = ended_frame setup identity ∷ readied_frame setup identity ∷ [] in
      let kept = keep (λ (c : Controlling). Asks setup identity.mac Ending wants.PrmEnd (Some serial) at.spare c) (IsInputs setup identity)
      (λ c octets inputs is. laws.controller_inputs c Ending wants.PrmEnd (Some serial) at.spare octets inputs is)
      net.controller net.to_controller answers at.inputs at.asks in
      let heard = hears_all kept.between answers in
      let ready = laws.controller_readied can.can_meet serial kept.between at.spare kept.is in
      let u = passed as_flash net next round answers heard (all.0.sent ∙ law.0) kept.goes_on in
      let later = laws.controller_later_unit serial heard.controller 0 (omega (arith, can.holds)) (omega arith) ready.1 in
      record {
        serial = at.serial;
        device = record {
          of_device = of_device_by net.device next.device unit.of_station own;
          of_plan = round_of_plan as_flash laws.modules setup net next round at.device.of_plan;
          addressed = unit.is.addressed;
        };
        taken = at.taken;
        last = write_count setup.plan + 1;
        age = 1;
        related = unit.is.related;
        held = 1;
        controls = subst (λ (c : Controlling). Controls setup serial identity.mac 1 c) (sym u.controller) later.0;
        in_time = omega (arith, can.holds);
        few = omega arith;
        under_way = record {
          outputs = (step_of heard.controller Tick).frames;
          frames = u.to_device ∙ ap (λ (fs : List (List ℕ)). fs ++ (step_of heard.controller Tick).frames) ready.0;
          are_outputs = (later.1 ready.2 ready.3).0;
        };
        inputs = unit.inputs;
      }

  -- ---- data is exchanged

  both_of : (serial age : ℕ) (net : Net F) → Exchanges setup serial 1 net.device.live → Controls setup serial identity.mac age net.controller → BothExchange net
  both_of serial age net device controller = record {
    link = device.link;
    device = device.has;
    exchanges = device.in_phase;
    ar = ap (λ r. r.ar.uuid) device.request ∙ ap (λ (s : Setup). s.ar) (sym controller.of_setup);
    controller = controller.in_phase;
    outputs = ap (λ r. r.sent_id) controller.route ∙ sym (ap (λ r. r.taken_id) device.numbered.route);
    alarms = ap (λ r. r.reference) controller.route ∙ sym device.numbered.endpoint;
  }

  -- what the device does with the answer to ApplicationReady
  confirmed_by : (net : Net F) (at : IsConfirming setup identity net)
      → AreSendable net.device.station.identity (device_step [] net.device.station net.device.live (confirmed_frame setup identity)).sent
      → AllByRecursion (IsReport setup identity) (device_step [] net.device.station net.device.live (confirmed_frame setup identity)).frames
      × ((device_step [] net.device.station net.device.live (confirmed_frame setup identity)).live.values ≡ net.device.live.values)
      × Exchanges setup at.serial 0 (device_step [] net.device.station net.device.live (confirmed_frame setup identity)).live
  confirmed_by net at sendable =
      laws.device_confirmed can.can_meet can.has_address at.serial [] net.device.station net.device.live at.taken
      at.last at.age at.device.of_device at.device.of_plan at.device.addressed at.related
      (subst (λ (i : Identity). AreSendable i (device_step [] net.device.station net.device.live (confirmed_frame setup identity)).sent)
      at.device.of_device sendable)

  pub confirming : (net next : Net F) → IsConfirming setup identity net → Round as_flash net next → BothExchange next
  confirming net next at round =
      let serial : ℕ = at.serial in
      let station = net.device.station in
      let own = at.device.of_device in
      let frame = confirmed_frame setup identity in
      let step = device_step [] station net.device.live frame in
      let all = arrive_first as_flash station (Exchanges setup serial 0) (IsOutputs setup (Some serial) identity.mac)
      (λ live octets outputs is. let law = laws.device_later_outputs serial [] station live 0 octets own outputs is in (law.0, law.2))
      net.device frame at.under_way.outputs round.answers round.device refl
      (λ sendable. (confirmed_by net at sendable).2)
      at.under_way.are_outputs
      (arrives_as as_flash net next round (frame ∷ at.under_way.outputs) at.under_way.frames) in
      let reports = (confirmed_by net at all.1).0 in
      let w = went_at as_flash round.device station Ticks next.to_controller next.device all.0.of_station round.unit in
      let later = laws.device_later_unit serial [] station round.device.live 0 own (omega (arith, can.holds)) (omega arith) all.0.is in
      let kept = keep (λ (c : Controlling). Controls setup serial identity.mac at.held c) (IsInputs setup identity)
      (λ c octets inputs is. laws.controller_later_inputs serial c at.held octets inputs is)
      net.controller net.to_controller step.frames at.inputs at.controls in
      let heard = hears_all kept.between step.frames in
      let controls = keep_state (λ (c : Controlling). Controls setup serial identity.mac at.held c) (IsReport setup identity)
      (λ c octets report is. laws.controller_reported serial c at.held octets report is) kept.between step.frames reports kept.is in
      let u = passed as_flash net next round step.frames heard all.0.sent kept.goes_on in
      let unit = laws.controller_later_unit serial heard.controller at.held at.in_time at.few controls in
      both_of serial (suc at.held) next (subst (λ (live : Live). Exchanges setup serial 1 live) (sym w.state) later.1)
      (subst (λ (c : Controlling). Controls setup serial identity.mac (suc at.held) c) (sym u.controller) unit.0)

  -- ---- what follows each stage

  more_time : (limit : ℕ) (net : Net F) → Leads as_flash limit net → Leads as_flash (suc limit) net
  more_time zero net both = inl both
  more_time (suc limit) net (inl both) = inl both
  more_time (suc limit) net (inr leads) = inr (leads.0, λ next round. more_time limit next (leads.1 next round))

  pub open_at : (net : Net F) (phase : Phases) → net.controller.live.phase ≡ phase → is_ended phase ≡ false → is_ended net.controller.live.phase ≡ false
  open_at net phase in_phase open_phase = ap (λ (p : Phases). is_ended p) in_phase ∙ open_phase

  pub confirming_leads : (net : Net F) → IsConfirming setup identity net → Leads as_flash 1 net
  confirming_leads net at = inr (open_at net Exchanging at.controls.in_phase refl, λ next round. confirming net next at round)

  pub ending_leads : (net : Net F) → IsEnding setup identity net → Leads as_flash 2 net
  ending_leads net at = inr (open_at net Ending at.asks.in_phase refl, λ next round. confirming_leads next (ending net next at round))

  pub writing_leads : (rest number : ℕ) → number + rest ≡ write_count setup.plan → (net : Net F)
      → IsAtRequest setup identity number (suc rest) net → Leads as_flash (suc (suc rest)) net
  writing_leads zero number sum net at = ending_leads net (at_end number 1 (omega (arith, sum)) net at)
  writing_leads (suc rest) number sum net at =
      inr (
        open_at net (phase_for (writing_from setup.plan number)) at.asked.asks.in_phase (writing_open setup.plan number),
        λ next round.
            writing_leads rest (number + 1) (omega (arith, sum)) next (writing number (suc rest) (omega (arith, sum)) (omega (arith, sum)) net next at round),
      )

  connecting_leads : (net : Net F) → IsConnecting setup identity net → Leads as_flash (suc (suc (suc (write_count setup.plan)))) net
  connecting_leads net at =
      inr (
        open_at net Connecting at.asks.in_phase refl,
        λ next round. writing_leads (write_count setup.plan) 0 (omega arith) next (connecting net next at round),
      )

  addressing_leads : (net : Net F) → IsAddressing setup identity net → Leads as_flash (suc (suc (suc (suc (write_count setup.plan))))) net
  addressing_leads net at = inr (open_at net Addressing at.asks.in_phase refl, λ next round. connecting_leads next (addressing net next at round))

  looking_leads : (net : Net F) → IsLooking setup identity net → Leads as_flash (suc (suc (suc (suc (suc (write_count setup.plan)))))) net
  looking_leads net at = inr (open_at net Looking at.searches.in_phase refl, λ next round. by_stage next (looking net next at round))
    where
      by_stage : (next : Net F) → IsAddressing setup identity next ⊎ IsConnecting setup identity next
          → Leads as_flash (suc (suc (suc (suc (write_count setup.plan))))) next
      by_stage next (inl addresses) = addressing_leads next addresses
      by_stage next (inr connects) = more_time (suc (suc (suc (write_count setup.plan)))) next (connecting_leads next connects)

  -- the same, as the clauses say it
  pub connecting_law : (net : Net F) → IsConnecting setup identity net → Leads as_flash (write_count setup.plan + 3) net
  connecting_law net at =
      let same : suc (suc (suc (write_count setup.plan))) ≡ write_count setup.plan + 3 = omega arith in
      subst (λ (n : ℕ). Leads as_flash n net) same (connecting_leads net at)

  pub addressing_law : (net : Net F) → IsAddressing setup identity net → Leads as_flash (write_count setup.plan + 4) net
  addressing_law net at =
      let same : suc (suc (suc (suc (write_count setup.plan)))) ≡ write_count setup.plan + 4 = omega arith in
      subst (λ (n : ℕ). Leads as_flash n net) same (addressing_leads net at)

  pub looking_law : (net : Net F) → IsLooking setup identity net → Leads as_flash (write_count setup.plan + 5) net
  looking_law net at =
      let same : suc (suc (suc (suc (suc (write_count setup.plan))))) ≡ write_count setup.plan + 5 = omega arith in
      subst (λ (n : ℕ). Leads as_flash n net) same (looking_leads net at)
