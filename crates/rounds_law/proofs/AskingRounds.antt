-- The rounds until a controller has sent its request again.
use Rattle.std.proofs.Common.{◌≡◌, ◌⊎◌, inl, inr, ◌<◌, ◌+◌, ◌-◌, ℕ, zero, suc, Bool, true, false, List, [], ◌∷◌, None, refl, sym, ap, subst, ◌∙◌, arith}
use Rattle.std.specs.Prelude.{if◌then◌else◌}
use Rattle.std.specs.List.{AllByRecursion}
use Rattle.std.proofs.lemmas.Bool.{eq-eqb}
use Rattle.std.proofs.lemmas.Bool.Decides.{nat_tests}
use Rattle.flash_model.specs.declared.flash.Flash.{Ghosts as Flash}
use Rattle.pn_values.specs.declared.identity.Identity.{Identity}
use Rattle.pn_values.specs.declared.mac.Mac.{Mac}
use Rattle.settings_journal.specs.settings_store.State.{Values}
use Rattle.device_core.specs.State.{Live, State, Station}
use Rattle.controller_messages.specs.declared.request.Request.{Request}
use Rattle.controller_messages.specs.declared.request.Request.TheVariants as asks
use Rattle.controller_messages.specs.declared.setup.Setup.{Setup}
use Rattle.controller_messages.specs.Sent.{Requests, bytes_of as controller_bytes}
use Rattle.controller_core.specs.declared.stored.event.Event.TheVariants.{Tick}
use Rattle.controller_core.specs.declared.stored.state.State.{State as Phases}
use Rattle.controller_core.specs.stored.State.{Controlling, is_limited}
use Rattle.controller_core.specs.Machine.{step_of}
use Rattle.network_world.specs.World.{is_ended}
use Rattle.rounds_law.specs.Rounds.{Net, Round}
use Rattle.rounds_law.specs.Path.{Asks, HasAsked, IsAddressed, IsFree, IsIgnored, IsSized}
use Rattle.rounds_law.specs.Repeating.{completes, counts_on}
use Rattle.rounds_law.specs.Stages.{IsAddressing, IsConnecting, IsLooking, Leads}
use Rattle.rounds_law.specs.Start.{CanBeAddressed, CanStart, IsOfPlan}
use Rattle.rounds_law.specs.Asking.{Addresses, AsksAgain, Connects, IsAskingAgain, IsReadyFor, Searches, Stage, asked_in, phase_in, request_in, stage_limit}
use Rattle.rounds_law.proofs.AgainLaw.{sum, sum_is}
use Rattle.rounds_law.proofs.CompositionEnds.{Passed, addressed_by, can_by, free_unit, ignore, named_by, passed}
use Rattle.rounds_law.proofs.CompositionLaws.{Laws}
use Rattle.rounds_law.proofs.CompositionLists.{arrives_as}
use Rattle.rounds_law.proofs.CompositionRounds.{addressing_law, connecting_law, looking_law, opening_is}
use Rattle.rounds_law.proofs.PlanKept.{round_of_plan}

-- The law of one end.
pub record AskingLaw (setup : Setup) : Type 0 where
  pub again : (device : Mac) (phase : Phases) (request : Request) (controller : Controlling) → HasAsked setup device phase request controller
      → (is_limited phase ≡ true → controller.live.left ≡ 1 → ⊥)
      → AsksAgain setup device phase request controller (step_of controller Tick)

-- A request that was just sent again.
asks_now : (setup : Setup) (device : Mac) (phase : Phases) (request : Request) (controller : Controlling)
    → HasAsked setup device phase request controller → controller.live.waited ≡ 0 → Asks setup device phase request None 0 controller
asks_now setup device phase request controller it now = record {
  of_setup = it.of_setup;
  in_phase = it.in_phase;
  asked = it.asked;
  of_device = it.of_device;
  unrepeated = omega (arith, now);
  patient = some_or_none controller.live.left;
  established = it.unestablished;
  route = tt;
  high = it.high;
  low = it.low;
  low_limit = it.low_limit;
  alone = it.alone;
  unbegun = it.unbegun;
  limit = it.limit;
}
  where
    some_or_none : (n : ℕ) → (n ≡ 0) ⊎ (0 < n)
    some_or_none zero = inl refl
    some_or_none (suc n) = inr (omega arith)

module _ {F : Type 0} {S : ℕ} (as_flash : Flash F S) (setup : Setup) (identity : Identity) (laws : Laws setup identity) (asking : AskingLaw setup) where
  -- The request of a stage is under way.
  abbrev pub IsAt : Stage → Net F → Type 0
  IsAt Searches net = IsLooking setup identity net
  IsAt Addresses net = IsAddressing setup identity net
  IsAt Connects net = IsConnecting setup identity net

  ready_by : (stage : Stage) (before after : Live) → after.values ≡ before.values → IsReadyFor stage setup before → IsReadyFor stage setup after
  ready_by Searches before after same ready = (
    named_by setup before after same ready.0,
    subst (λ (v : Values). IsSized v.running.suite) (sym same) ready.1,
    either ready.2,
  )
    where
      either : IsAddressed setup before ⊎ CanBeAddressed before → IsAddressed setup after ⊎ CanBeAddressed after
      either (inl has) = inl (addressed_by setup before after same has)
      either (inr can) = inr (can_by before after same can)
  ready_by Addresses before after same ready = (named_by setup before after same ready.0, can_by before after same ready.1)
  ready_by Connects before after same ready = addressed_by setup before after same ready

  -- What a round does: nothing happens at the device, and a unit passes at the controller.
  record Quiet (stage : Stage) (net after : Net F) : Type 0 where
    between : Controlling
    asked : HasAsked setup (asked_in stage identity net.controller) (phase_in stage) (request_in stage) between
    waits : between.live.waited ≡ net.controller.live.waited
    left : between.live.left ≡ net.controller.live.left
    passed : Passed (record { controller = between; frames = [] }) after
    silent : after.to_controller ≡ []
    of_station : after.device.station ≡ net.device.station
    values : after.device.live.values ≡ net.device.live.values
    of_plan : IsOfPlan setup after.device.station after.device.live.rest.real
    free : IsFree setup after.device.live

  quiet_round : (stage : Stage) (net after : Net F) → IsAskingAgain setup identity stage net → Round as_flash net after → Quiet stage net after
  quiet_round stage net after at round =
      let hears = arrives_as as_flash net after round [] at.nothing in
      let same : round.device.station ≡ net.device.station = ap (λ (d : State F). d.station) hears.0 in
      let unit = free_unit as_flash setup identity laws round.device net.device.station after.to_controller after.device same round.unit
      (subst (λ (d : State F). IsFree setup d.live) (sym hears.0) at.free) in
      let kept = ignore setup (λ (c : Controlling). c ≡ net.controller)
      (λ c is. (ap (λ (d : Controlling). d.setup) is ∙ at.asked.of_setup, ap (λ (d : Controlling). d.live.stands) is ∙ at.asked.unestablished))
      net.controller net.to_controller [] at.ignored refl in
      record {
        between = kept.between;
        asked = subst (λ (c : Controlling). HasAsked setup (asked_in stage identity net.controller) (phase_in stage) (request_in stage) c) (sym kept.is) at.asked;
        waits = ap (λ (c : Controlling). c.live.waited) kept.is;
        left = ap (λ (c : Controlling). c.live.left) kept.is;
        passed = passed as_flash net after round [] (record { controller = kept.between; frames = [] }) hears.1 kept.goes_on;
        silent = unit.none;
        of_station = unit.of_station;
        values = unit.values ∙ ap (λ (d : State F). d.live.values) hears.0;
        of_plan = round_of_plan as_flash laws.modules setup net after round at.of_plan;
        free = unit.free;
      }

  -- The station that is asked stays the same.
  asks_same : (stage : Stage) (before : Controlling) (after : Controlling) → HasAsked setup (asked_in stage identity before) (phase_in stage) (request_in stage) after
      → HasAsked setup (asked_in stage identity after) (phase_in stage) (request_in stage) after
  asks_same Searches before after it = record {
    of_setup = it.of_setup;
    in_phase = it.in_phase;
    asked = it.asked;
    of_device = refl;
    unestablished = it.unestablished;
    high = it.high;
    low = it.low;
    low_limit = it.low_limit;
    alone = it.alone;
    unbegun = it.unbegun;
    limit = it.limit;
  }
  asks_same Addresses before after it = it
  asks_same Connects before after it = it

  -- The request is under way.
  sent_again : (stage : Stage) (net after : Net F) → IsAskingAgain setup identity stage net → Quiet stage net after
      → HasAsked setup (asked_in stage identity net.controller) (phase_in stage) (request_in stage) after.controller → after.controller.live.waited ≡ 0
      → after.to_device ≡ controller_bytes setup (Requests (asked_in stage identity net.controller) (request_in stage)) ∷ [] → IsAt stage after
  sent_again Searches net after at quiet asked now sent = record {
    searches = asks_same Searches net.controller after.controller asked;
    opened = sent ∙ ap (λ (f : List ℕ). f ∷ []) (sym (opening_is setup identity after.controller asked.of_setup));
    ignored = subst (AllByRecursion (IsIgnored setup)) (sym quiet.silent) tt;
    of_device = ap (λ (s : Station). s.identity) quiet.of_station ∙ at.of_device;
    of_plan = quiet.of_plan;
    named = (ready_by Searches net.device.live after.device.live quiet.values at.ready).0;
    free = quiet.free;
    sized = (ready_by Searches net.device.live after.device.live quiet.values at.ready).1;
    addressed = (ready_by Searches net.device.live after.device.live quiet.values at.ready).2;
  }
  sent_again Addresses net after at quiet asked now sent = record {
    spare = 0;
    asks = asks_now setup identity.mac (phase_in Addresses) asks.Address after.controller asked now;
    under_way = sent;
    ignored = subst (AllByRecursion (IsIgnored setup)) (sym quiet.silent) tt;
    of_device = ap (λ (s : Station). s.identity) quiet.of_station ∙ at.of_device;
    of_plan = quiet.of_plan;
    named = (ready_by Addresses net.device.live after.device.live quiet.values at.ready).0;
    free = quiet.free;
    can = (ready_by Addresses net.device.live after.device.live quiet.values at.ready).1;
  }
  sent_again Connects net after at quiet asked now sent = record {
    spare = 0;
    asks = asks_now setup identity.mac (phase_in Connects) asks.Connect after.controller asked now;
    under_way = sent;
    ignored = subst (AllByRecursion (IsIgnored setup)) (sym quiet.silent) tt;
    of_device = ap (λ (s : Station). s.identity) quiet.of_station ∙ at.of_device;
    of_plan = quiet.of_plan;
    addressed = ready_by Connects net.device.live after.device.live quiet.values at.ready;
    free = quiet.free;
  }

  -- After a round: the request is under way, or it is not yet.
  abbrev AtOr : Stage → ℕ → Net F → Type 0
  AtOr stage rest after =
      ((rest ≡ 0) × IsAt stage after)
      ⊎ ((fewer : ℕ) × (rest ≡ suc fewer) × (32000 - after.controller.live.waited ≡ suc fewer) × IsAskingAgain setup identity stage after)

  lasts : (left waited rest : ℕ) → (left ≡ 0) ⊎ (32000 - waited < left) → 32000 - waited ≡ suc rest → left ≡ 1 → ⊥
  lasts left waited rest (inl none) is one = absurd (omega (arith, none, one))
  lasts left waited rest (inr long) is one = absurd (omega (arith, long, one, is))

  still_patient : (left rest : ℕ) → (left ≡ 0) ⊎ (suc rest < left) → (left - 1 ≡ 0) ⊎ (rest < left - 1)
  still_patient left rest (inl none) = inl (omega (arith, none))
  still_patient left rest (inr long) = inr (omega (arith, long))

  at_or : (stage : Stage) (rest : ℕ) (net after : Net F) → 32000 - net.controller.live.waited ≡ suc rest → IsAskingAgain setup identity stage net
      → Round as_flash net after → AtOr stage rest after
  at_or stage rest net after is at round = by_second (completes net.controller.live.waited) refl
    where
      quiet : Quiet stage net after
      quiet = quiet_round stage net after at round

      unit : AsksAgain setup (asked_in stage identity net.controller) (phase_in stage) (request_in stage) quiet.between (step_of quiet.between Tick)
      unit = asking.again (asked_in stage identity net.controller) (phase_in stage) (request_in stage) quiet.between quiet.asked
          (λ limited one. lasts net.controller.live.left net.controller.live.waited rest at.patient is (sym quiet.left ∙ one))

      asked : HasAsked setup (asked_in stage identity net.controller) (phase_in stage) (request_in stage) after.controller
      asked = subst (λ (c : Controlling). HasAsked setup (asked_in stage identity net.controller) (phase_in stage) (request_in stage) c)
          (sym quiet.passed.controller) unit.asked

      waited : (again : Bool) → completes net.controller.live.waited ≡ again
          → after.controller.live.waited ≡ (if again then 0 else net.controller.live.waited + 1)
      waited again e = ap (λ (c : Controlling). c.live.waited) quiet.passed.controller
          ∙ (unit.waits ∙ (ap counts_on quiet.waits ∙ ap (λ (b : Bool). if b then 0 else net.controller.live.waited + 1) e))

      sent : (again : Bool) → completes net.controller.live.waited ≡ again
          → after.to_device
          ≡ (if again then controller_bytes setup (Requests (asked_in stage identity net.controller) (request_in stage)) ∷ [] else [])
      sent again e = quiet.passed.to_device
          ∙ (unit.frames
          ∙ (ap (λ (n : ℕ). if completes n then controller_bytes setup (Requests (asked_in stage identity net.controller) (request_in stage)) ∷ [] else [])
          quiet.waits
          ∙ ap (λ (b : Bool). if b then controller_bytes setup (Requests (asked_in stage identity net.controller) (request_in stage)) ∷ [] else []) e))

      is_second : completes net.controller.live.waited ≡ true → net.controller.live.waited + 1 ≡ 32000
      is_second e = grind (arith, nat_tests)

      no_second : completes net.controller.live.waited ≡ false → net.controller.live.waited + 1 ≡ 32000 → ⊥
      no_second e same = not_both (sym (eq-eqb (net.controller.live.waited + 1) 32000 same) ∙ e)
        where
          not_both : true ≡ false → ⊥
          not_both bad = absurd cc

      by_second : (again : Bool) → completes net.controller.live.waited ≡ again → AtOr stage rest after
      by_second true e = inl (omega (arith, is, is_second e), sent_again stage net after at quiet asked (waited true e) (sent true e))
      by_second false e = by_rest rest refl
        where
          fewer_left : 32000 - (net.controller.live.waited + 1) ≡ rest
          fewer_left = omega (arith, is)

          by_rest : (n : ℕ) → rest ≡ n → AtOr stage rest after
          by_rest zero f = absurd (no_second e (omega (arith, is, f)))
          by_rest (suc fewer) f =
              let less : 32000 - after.controller.live.waited ≡ rest = ap (λ (n : ℕ). 32000 - n) (waited false e) ∙ fewer_left in
              let left : after.controller.live.left ≡ net.controller.live.left - 1
              = ap (λ (c : Controlling). c.live.left) quiet.passed.controller ∙ (unit.left ∙ ap (λ (n : ℕ). n - 1) quiet.left) in
              let patient : (net.controller.live.left ≡ 0) ⊎ (suc rest < net.controller.live.left)
              = subst (λ (n : ℕ). (net.controller.live.left ≡ 0) ⊎ (n < net.controller.live.left)) is at.patient in
              inr (
                fewer,
                f,
                less ∙ f,
                record {
                  asked = asks_same stage net.controller after.controller asked;
                  unrepeated = omega (arith, less, f);
                  patient = subst (λ (n : ℕ). (after.controller.live.left ≡ 0) ⊎ (n < after.controller.live.left)) (sym less)
                      (subst (λ (n : ℕ). (n ≡ 0) ⊎ (rest < n)) (sym left) (still_patient net.controller.live.left rest patient));
                  nothing = sent false e;
                  ignored = subst (AllByRecursion (IsIgnored setup)) (sym quiet.silent) tt;
                  of_device = ap (λ (s : Station). s.identity) quiet.of_station ∙ at.of_device;
                  of_plan = quiet.of_plan;
                  free = quiet.free;
                  ready = ready_by stage net.device.live after.device.live quiet.values at.ready;
                },
              )

  -- The controller has not ended.
  open_in : (stage : Stage) → is_ended (phase_in stage) ≡ false
  open_in Searches = refl
  open_in Addresses = refl
  open_in Connects = refl

  -- As soon as the request is under way, the laws of the stages follow.
  module _ (limit : ℕ) (stage : Stage) (leads : (net : Net F) → IsAt stage net → Leads as_flash limit net) where
    goes_on : (rest : ℕ) (net : Net F) → 32000 - net.controller.live.waited ≡ suc rest → IsAskingAgain setup identity stage net
        → Leads as_flash (sum (suc rest) limit) net
    goes_on zero net is at = inr (ap is_ended at.asked.in_phase ∙ open_in stage, λ after round. by_next after (at_or stage 0 net after is at round))
      where
        by_next : (after : Net F) → AtOr stage 0 after → Leads as_flash limit after
        by_next after (inl there) = leads after there.1
        by_next after (inr more) = absurd (omega (arith, more.1))
    goes_on (suc rest) net is at = inr (
      ap is_ended at.asked.in_phase ∙ open_in stage,
      λ after round. by_next after (λ e again. goes_on rest after e again) (at_or stage (suc rest) net after is at round),
    )
      where
        by_next : (after : Net F) → (32000 - after.controller.live.waited ≡ suc rest → IsAskingAgain setup identity stage after → Leads as_flash (sum (suc rest) limit) after)
            → AtOr stage (suc rest) after → Leads as_flash (sum (suc rest) limit) after
        by_next after later (inl there) = absurd (omega (arith, there.0))
        by_next after later (inr more) = later (more.2 ∙ sym more.1) more.3

    pub asking_leads : (net : Net F) → IsAskingAgain setup identity stage net → Leads as_flash (32000 - net.controller.live.waited + limit) net
    asking_leads net at =
        let rest = 31999 - net.controller.live.waited in
        let is : 32000 - net.controller.live.waited ≡ suc rest = omega (arith, at.unrepeated) in
        subst (λ (n : ℕ). Leads as_flash n net) (sum_is (suc rest) limit ∙ ap (λ (n : ℕ). n + limit) (sym is)) (goes_on rest net is at)

-- From each stage both ends exchange data.
pub asking_law : {F : Type 0} {S : ℕ} (as_flash : Flash F S) (setup : Setup) (identity : Identity) → Laws setup identity → AskingLaw setup → CanStart setup identity
    → (stage : Stage) (net : Net F) → IsAskingAgain setup identity stage net
    → Leads as_flash (32000 - net.controller.live.waited + stage_limit setup.plan stage) net
asking_law as_flash setup identity laws asking can Searches net at =
    asking_leads as_flash setup identity laws asking (stage_limit setup.plan Searches) Searches (looking_law as_flash setup identity laws can) net at
asking_law as_flash setup identity laws asking can Addresses net at =
    asking_leads as_flash setup identity laws asking (stage_limit setup.plan Addresses) Addresses (addressing_law as_flash setup identity laws can) net at
asking_law as_flash setup identity laws asking can Connects net at =
    asking_leads as_flash setup identity laws asking (stage_limit setup.plan Connects) Connects (connecting_law as_flash setup identity laws can) net at
