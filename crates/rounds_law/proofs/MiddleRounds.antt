-- A wait for ApplicationReady, round by round, and the bounds of the states in the middle of a start-up.
use Rattle.std.proofs.Common.{◌≡◌, ◌<◌, ◌+◌, ◌-◌, inr, ℕ, zero, suc, Bool, List, Some}
use Rattle.std.proofs.Common.{[], ◌∷◌, ◌++◌, if◌then◌else◌, None, refl, sym, ap, subst, ◌∙◌, append-nil, arith}
use Rattle.std.specs.List.{AllByRecursion}
use Rattle.std.proofs.lemmas.Bool.{ne_eqb}
use Rattle.flash_model.specs.declared.flash.Flash.{Ghosts as Flash}
use Rattle.pn_values.specs.declared.identity.Identity.{Identity}
use Rattle.device_frames.specs.Heard.{Ticks}
use Rattle.device_core.specs.State.{Live}
use Rattle.controller_messages.specs.declared.setup.Setup.{Setup}
use Rattle.controller_messages.specs.declared.request.Request.{Request}
use Rattle.controller_messages.specs.declared.request.Request.TheVariants as wants
use Rattle.controller_messages.specs.Requests.{write_count}
use Rattle.controller_core.specs.declared.stored.event.Event.TheVariants.{Tick}
use Rattle.controller_core.specs.declared.stored.state.State.TheVariants.{Waiting}
use Rattle.controller_core.specs.stored.State.{Controlling, phase_for}
use Rattle.controller_core.specs.Machine.{Stepped, step_of}
use Rattle.rounds_law.specs.Middle.{IsAwaiting, IsConfirming, IsReadied, IsWaiting, IsWriting, WaitsForReady}
use Rattle.rounds_law.specs.Middle.{until_ready, waiting_limit, writing_limit}
use Rattle.rounds_law.specs.Path.{Asks, BeginsNoTurn, Controls, IsAddressed, IsInputs, IsOutputs, confirmed_frame, controller_step, device_step}
use Rattle.rounds_law.specs.Path.{readied_frame, request_to}
use Rattle.rounds_law.specs.Repeating.{completes, counts_on}
use Rattle.rounds_law.specs.Rounds.{Net, Round, hears_all}
use Rattle.rounds_law.specs.Stages.{Leads}
use Rattle.rounds_law.specs.Start.{CanStart}
use Rattle.rounds_law.proofs.CompositionEnds.{addressed_by, passed}
use Rattle.rounds_law.proofs.CompositionLaws.{Laws}
use Rattle.rounds_law.proofs.CompositionLists.{arrive, keep, went_at}
use Rattle.rounds_law.proofs.CompositionRounds.{confirming_leads, of_device_by, open_at, writes, writing_leads}
use Rattle.rounds_law.proofs.MiddleLaws.{WaitLaws}
use Rattle.rounds_law.proofs.PlanKept.{round_of_plan}

-- The device, which waits, with its IP suite.
pub record IsThere (setup : Setup) (serial : ℕ) (waited inactive : ℕ) (live : Live) : Type 0 where
  pub awaits : IsAwaiting setup serial waited inactive live
  pub addressed : IsAddressed setup live

-- The device after a round in which it hears outputs alone.
pub record WaitedOn {F : Type 0} (setup : Setup) (serial : ℕ) (identity : Identity) (waited inactive : ℕ) (before after : Net F) (answers : List (List ℕ)) : Type 0 where
  pub none : answers ≡ []
  pub same : after.device.station ≡ before.device.station
  pub inputs : List (List ℕ)
  pub are_inputs : AllByRecursion (IsInputs setup identity) inputs
  pub frames : after.to_controller ≡ (if completes waited then readied_frame setup identity ∷ [] else []) ++ inputs
  pub is : IsThere setup serial (counts_on waited) (inactive + 1) after.device.live

-- What a controller is after a frame by which it exchanges data, with no AlarmAck that waits for its ACK, and no turn that begins.
abbrev IsQuiet : Setup → ℕ → Identity → ℕ → Controlling → Type 0
IsQuiet setup serial identity age controller =
    Controls setup serial identity.mac age controller × (controller.live.low_alarms.sending.waiting ≡ None) × BeginsNoTurn controller.live

module _ {F : Type 0} {S : ℕ} (as_flash : Flash F S) (setup : Setup) (identity : Identity) (laws : Laws setup identity) (waits : WaitLaws setup identity)
    (can : CanStart setup identity) where
  -- ---- one round

  device_waits : (serial waited inactive : ℕ) (net next : Net F) (round : Round as_flash net next) → net.device.station.identity ≡ identity
      → inactive + 1 < 1920000 → AllByRecursion (IsOutputs setup (Some serial) identity.mac) net.to_device → IsThere setup serial waited inactive net.device.live
      → WaitedOn setup serial identity waited inactive net next round.answers
  device_waits serial waited inactive net next round own lasts outputs is =
      let station = net.device.station in
      let all = arrive as_flash station (IsThere setup serial waited inactive) (IsOutputs setup (Some serial) identity.mac)
      (λ live octets out there.
      let law = waits.device_outputs serial [] station live waited inactive octets own out there.awaits in
      (law.0, record { awaits = law.2; addressed = addressed_by setup live (device_step [] station live octets).live law.1 there.addressed }))
      net.device net.to_device round.answers round.device refl outputs is round.arrives in
      let w = went_at as_flash round.device station Ticks next.to_controller next.device all.of_station round.unit in
      let unit = waits.device_unit serial [] station round.device.live waited inactive own all.is.addressed lasts all.is.awaits in
      record {
        none = all.sent;
        same = w.of_station;
        inputs = unit.inputs;
        are_inputs = unit.are_inputs;
        frames = w.sent ∙ unit.frames;
        is = record {
          awaits = subst (λ (live : Live). IsAwaiting setup serial (counts_on waited) (inactive + 1) live) (sym w.state) unit.awaits;
          addressed = addressed_by setup round.device.live next.device.live (ap (λ (live : Live). live.values) w.state ∙ unit.values) all.is.addressed;
        };
      }

  early_inputs : (waited : ℕ) (frames inputs : List (List ℕ)) → waited + 1 < 32000
      → frames ≡ (if completes waited then readied_frame setup identity ∷ [] else []) ++ inputs → frames ≡ inputs
  early_inputs waited frames inputs early is =
      is ∙ ap (λ (b : Bool). (if b then readied_frame setup identity ∷ [] else []) ++ inputs) (ne_eqb (waited + 1) 32000 (λ e. omega (arith, e, early)))

  -- ApplicationReady arrives, and its response is under way.
  readied : (net next : Net F) → IsReadied setup identity net → Round as_flash net next → IsConfirming setup identity next
  readied net next at round =
      let serial : ℕ = at.serial in
      let device = device_waits serial at.waited at.inactive net next round at.device.of_device at.lasts at.outputs
      (record { awaits = at.awaits; addressed = at.device.addressed }) in
      let ready = readied_frame setup identity in
      let first = keep (λ (c : Controlling). WaitsForReady setup serial identity.mac at.spare c) (IsInputs setup identity)
      (λ c octets inputs is. waits.controller_inputs serial c at.spare octets inputs is)
      net.controller at.before (ready ∷ (at.after ++ [])) at.inputs_before at.waits in
      let step = controller_step first.between ready in
      let law = waits.controller_readied serial first.between at.spare first.is in
      let later = keep (IsQuiet setup serial identity 0) (IsInputs setup identity)
      (λ c octets inputs is. let on = waits.controller_quiet serial c 0 octets inputs is.0 is.1 in (on.0, (on.1, on.2, on.3 is.2)))
      step.controller at.after [] at.inputs_after (law.1, law.2, law.3) in
      let heard : Stepped = record { controller = later.between; frames = confirmed_frame setup identity ∷ [] } in
      let all : net.to_controller ++ [] ≡ at.before ++ (ready ∷ (at.after ++ [])) =
      append-nil net.to_controller ∙ (at.under_way ∙ ap (λ (fs : List (List ℕ)). at.before ++ (ready ∷ fs)) (sym (append-nil at.after))) in
      let goes : hears_all net.controller (net.to_controller ++ []) ≡ heard =
      ap (λ (fs : List (List ℕ)). hears_all net.controller fs) all
      ∙ (first.goes_on
      ∙ (ap (λ (s : Stepped). record { controller = s.controller; frames = step.frames ++ s.frames }) later.goes_on
      ∙ ap (λ (fs : List (List ℕ)). record { controller = later.between; frames = fs ++ [] }) law.0)) in
      let u = passed as_flash net next round [] heard device.none goes in
      let unit = laws.controller_later_unit serial later.between 0 (omega (arith, can.holds)) (omega arith) later.is.0 in
      record {
        serial = serial;
        device = record {
          of_device = of_device_by as_flash setup identity laws can net.device next.device device.same at.device.of_device;
          of_plan = round_of_plan as_flash laws.modules setup net next round at.device.of_plan;
          addressed = device.is.addressed;
        };
        taken = device.is.awaits.taken;
        last = device.is.awaits.last;
        age = device.is.awaits.age;
        related = device.is.awaits.related;
        held = 1;
        controls = subst (λ (c : Controlling). Controls setup serial identity.mac 1 c) (sym u.controller) unit.0;
        in_time = omega (arith, can.holds);
        few = omega arith;
        under_way = record { outputs = (step_of later.between Tick).frames; frames = u.to_device; are_outputs = (unit.1 later.is.1 later.is.2).0 };
        inputs = subst (λ (fs : List (List ℕ)). AllByRecursion (IsInputs setup identity) fs)
            (sym (early_inputs at.waited next.to_controller device.inputs at.early device.frames)) device.are_inputs;
      }

  -- The controller of a wait after a round without ApplicationReady.
  controller_waits : (serial spare : ℕ) (net next : Net F) (round : Round as_flash net next) → round.answers ≡ []
      → AllByRecursion (IsInputs setup identity) net.to_controller → WaitsForReady setup serial identity.mac (suc spare) net.controller
      → AllByRecursion (IsOutputs setup (Some serial) identity.mac) next.to_device × WaitsForReady setup serial identity.mac spare next.controller
  controller_waits serial spare net next round none inputs is =
      let kept = keep (λ (c : Controlling). WaitsForReady setup serial identity.mac (suc spare) c) (IsInputs setup identity)
      (λ c octets input it. waits.controller_inputs serial c (suc spare) octets input it) net.controller net.to_controller [] inputs is in
      let u = passed as_flash net next round [] (record { controller = kept.between; frames = [] }) none kept.goes_on in
      let law = waits.controller_unit serial kept.between spare kept.is in (
        subst (λ (fs : List (List ℕ)). AllByRecursion (IsOutputs setup (Some serial) identity.mac) fs) (sym u.to_device) law.0,
        subst (λ (c : Controlling). WaitsForReady setup serial identity.mac spare c) (sym u.controller) law.1,
      )

  -- ApplicationReady is sent again with this unit.
  sent_again : (net next : Net F) → IsWaiting setup identity 31999 net → Round as_flash net next → IsReadied setup identity next
  sent_again net next at round =
      let serial : ℕ = at.serial in
      let device = device_waits serial 31999 at.inactive net next round at.device.of_device (omega (arith, at.lasts)) at.outputs
      (record { awaits = at.awaits; addressed = at.device.addressed }) in
      let controller = controller_waits serial 0 net next round device.none at.inputs at.waits in
      record {
        serial = serial;
        device = record {
          of_device = of_device_by as_flash setup identity laws can net.device next.device device.same at.device.of_device;
          of_plan = round_of_plan as_flash laws.modules setup net next round at.device.of_plan;
          addressed = device.is.addressed;
        };
        waited = 0;
        inactive = at.inactive + 1;
        awaits = device.is.awaits;
        early = omega arith;
        lasts = omega (arith, at.lasts);
        spare = 0;
        waits = controller.1;
        outputs = controller.0;
        before = [];
        after = device.inputs;
        under_way = device.frames;
        inputs_before = tt;
        inputs_after = device.are_inputs;
      }

  -- It is not sent with this unit.
  waits_longer : (rest waited : ℕ) → waited + suc (suc rest) ≡ 32000 → (net next : Net F) → IsWaiting setup identity waited net → Round as_flash net next
      → IsWaiting setup identity (waited + 1) next
  waits_longer rest waited sum net next at round =
      let serial : ℕ = at.serial in
      let early : waited + 1 < 32000 = omega (arith, sum) in
      let device = device_waits serial waited at.inactive net next round at.device.of_device (omega (arith, at.lasts, sum)) at.outputs
      (record { awaits = at.awaits; addressed = at.device.addressed }) in
      let before : until_ready waited ≡ suc (suc rest) = omega (arith, sum) in
      let after : suc rest ≡ until_ready (waited + 1) = omega (arith, sum) in
      let counts : counts_on waited ≡ waited + 1 =
      ap (λ (b : Bool). if b then 0 else waited + 1) (ne_eqb (waited + 1) 32000 (λ e. omega (arith, e, early))) in
      let controller = controller_waits serial (suc rest) net next round device.none at.inputs
      (subst (λ (n : ℕ). WaitsForReady setup serial identity.mac n net.controller) before at.waits) in
      record {
        serial = serial;
        device = record {
          of_device = of_device_by as_flash setup identity laws can net.device next.device device.same at.device.of_device;
          of_plan = round_of_plan as_flash laws.modules setup net next round at.device.of_plan;
          addressed = device.is.addressed;
        };
        inactive = at.inactive + 1;
        awaits = subst (λ (n : ℕ). IsAwaiting setup serial n (at.inactive + 1) next.device.live) counts device.is.awaits;
        below = early;
        lasts = omega (arith, at.lasts, sum);
        waits = subst (λ (n : ℕ). WaitsForReady setup serial identity.mac n next.controller) after controller.1;
        outputs = controller.0;
        inputs = subst (λ (fs : List (List ℕ)). AllByRecursion (IsInputs setup identity) fs)
            (sym (early_inputs waited next.to_controller device.inputs early device.frames)) device.are_inputs;
      }

  -- ---- what follows each state

  pub readied_leads : (net : Net F) → IsReadied setup identity net → Leads as_flash 2 net
  readied_leads net at =
      inr (
        open_at as_flash setup identity laws can net Waiting at.waits.in_phase refl,
        λ next round. confirming_leads as_flash setup identity laws can next (readied net next at round),
      )

  waiting_leads : (rest waited : ℕ) → waited + suc rest ≡ 32000 → (net : Net F) → IsWaiting setup identity waited net
      → Leads as_flash (suc (suc (suc rest))) net
  waiting_leads zero waited sum net at =
      let last : waited ≡ 31999 = omega (arith, sum) in
      inr (
        open_at as_flash setup identity laws can net Waiting at.waits.in_phase refl,
        λ next round. readied_leads next (sent_again net next (subst (λ (n : ℕ). IsWaiting setup identity n net) last at) round),
      )
  waiting_leads (suc rest) waited sum net at =
      inr (
        open_at as_flash setup identity laws can net Waiting at.waits.in_phase refl,
        λ next round. waiting_leads rest (waited + 1) (omega (arith, sum)) next (waits_longer rest waited sum net next at round),
      )

  pub waiting_law : (waited : ℕ) (net : Net F) → IsWaiting setup identity waited net → Leads as_flash (waiting_limit waited) net
  waiting_law waited net at =
      let same : suc (suc (suc (31999 - waited))) ≡ waiting_limit waited = omega (arith, at.below) in
      subst (λ (n : ℕ). Leads as_flash n net) same (waiting_leads (31999 - waited) waited (omega (arith, at.below)) net at)

  pub writing_law : (number : ℕ) (net : Net F) → IsWriting setup identity number net → Leads as_flash (writing_limit setup.plan number) net
  writing_law number net at =
      let serial : ℕ = at.serial in
      let rest = write_count setup.plan - number in
      let same : suc (suc rest) ≡ writing_limit setup.plan number = omega arith in
      let spare : write_count setup.plan - number + 1 ≡ suc rest = omega arith in
      let asks = subst (λ (r : Request). Asks setup identity.mac (phase_for r) r (Some serial) (suc rest) net.controller)
      (sym (writes setup.plan number at.more))
      (subst (λ (n : ℕ). Asks setup identity.mac (phase_for (wants.Write number)) (wants.Write number) (Some serial) n net.controller) spare at.asks) in
      subst (λ (n : ℕ). Leads as_flash n net) same
      (writing_leads as_flash setup identity laws can rest number (omega (arith, at.more)) net (record {
        serial = serial;
        of_device = at.device.of_device;
        of_plan = at.device.of_plan;
        age = at.age;
        is = record { related = at.related; addressed = at.device.addressed };
        asked = record {
          asks = asks;
          outputs = at.under_way.outputs;
          under_way = subst (λ (r : Request). net.to_device ≡ request_to setup identity r ∷ at.under_way.outputs) (sym (writes setup.plan number at.more))
              at.under_way.frames;
          are = at.under_way.are_outputs;
          unsent = λ no. absurd cc;
        };
        inputs = at.inputs;
      }))
