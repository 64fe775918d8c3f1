-- The next start after a controller has ended in any state: its Identify is under way after Releases of the controller that ended. It takes
-- the parts of the device and of its relation, and the law of a start.
use Rattle.std.proofs.Common.{◌≡◌, ◌⊎◌, inl, inr, ◌+◌, ℕ, zero, suc, List, [], ◌∷◌, ◌++◌, None, refl, sym, ap, subst, ◌∙◌, arith}
use Rattle.std.specs.List.{AllByRecursion}
use Rattle.std.proofs.lemmas.List.{append_assoc}
use Rattle.flash_model.specs.declared.flash.Flash.{Ghosts as Flash}
use Rattle.pn_values.specs.declared.identity.Identity.{Identity}
use Rattle.pn_values.specs.declared.real.Real.{Real}
use Rattle.device_core.specs.State.{Live, State, Station}
use Rattle.controller_messages.specs.declared.setup.Setup.{Setup}
use Rattle.controller_messages.specs.Requests.{write_count}
use Rattle.controller_core.specs.declared.stored.event.Event.TheVariants.{Tick}
use Rattle.controller_core.specs.declared.stored.state.State.TheVariants.{Exchanging, Looking}
use Rattle.controller_core.specs.Machine.{opening_of, step_of}
use Rattle.both_ends.specs.startup.answer.Answer.{AcceptsInterval}
use Rattle.rounds_law.specs.Again.{LeadsBack, Plant, begun_with, made}
use Rattle.rounds_law.specs.Anywhere.{HasPatience, IsAnyDevice, LeadsAnywhereBack}
use Rattle.rounds_law.specs.Path.{IsAddressed, IsIgnored}
use Rattle.rounds_law.specs.Rounds.{BothExchange, HearsAll, Net, Round, hears_all}
use Rattle.rounds_law.specs.Stages.{IsLooking, Leads}
use Rattle.rounds_law.specs.Start.{CanBeAddressed, IsOfPlan, start_up_limit}
use Rattle.rounds_law.proofs.AgainLaw.{plant_leads}
use Rattle.rounds_law.proofs.AnywhereAsked.{unrelated_asked}
use Rattle.rounds_law.proofs.AnywhereParted.{Begins, parted_leads}
use Rattle.rounds_law.proofs.AnywhereParts.{AreOwn, ControllerFrame, DeviceFrame, EndedFrame, EndedUnit, Hears, IsAnything, IsLong, IsOwn, IsRelease}
use Rattle.rounds_law.proofs.AnywhereParts.{LinkRelease, LinkUnit, ReleaseIgnored}
use Rattle.rounds_law.proofs.AnywhereRounds.{all_joined, device_after}
use Rattle.rounds_law.proofs.AnywherePlants.{PartedLeads, RoundKeeps}
use Rattle.rounds_law.proofs.CompositionEnds.{searching_first}

-- ---- a plant that leads back

-- In the same relation, or so that neither sees a difference.
pub back_anywhere : {F : Type 0} {S : ℕ} (as_flash : Flash F S) (identity : Identity) (pause n : ℕ) (plant : Plant F)
    → LeadsBack as_flash pause n plant → LeadsAnywhereBack as_flash identity pause n plant
back_anywhere as_flash identity pause zero plant both = inl both
back_anywhere as_flash identity pause (suc n) plant (inl both) = inl (inl both)
back_anywhere as_flash identity pause (suc n) plant (inr leads) = inr (λ next round. back_anywhere as_flash identity pause n next (leads next round))

-- ---- frames that arrive in two parts

-- Frames that arrive one after another: some of them, and then the others.
pub record InParts {F : Type 0} {S : ℕ} (as_flash : Flash F S) (before : State F) (first second sent : List (List ℕ)) (after : State F) : Type 0 where
  pub between : State F
  pub one : List (List ℕ)
  pub other : List (List ℕ)
  pub arrives : HearsAll as_flash before first one between
  pub later : HearsAll as_flash between second other after
  pub all : sent ≡ one ++ other

pub in_parts : {F : Type 0} {S : ℕ} (as_flash : Flash F S) (before : State F) (first second sent : List (List ℕ)) (after : State F)
    → HearsAll as_flash before (first ++ second) sent after → InParts as_flash before first second sent after
in_parts as_flash before [] second sent after hears =
    record { between = before; one = []; other = sent; arrives = (refl, refl); later = hears; all = refl }
in_parts as_flash before (octets ∷ frames) second sent after hears =
    let more = in_parts as_flash hears.0 frames second hears.2 after hears.4 in
    record {
      between = more.between;
      one = hears.1 ++ more.one;
      other = more.other;
      arrives = (hears.0, hears.1, more.one, hears.3, more.arrives, refl);
      later = more.later;
      all = hears.5 ∙ (ap (λ (fs : List (List ℕ)). hears.1 ++ fs) more.all ∙ sym (append_assoc hears.1 more.one more.other));
    }

module _ {F : Type 0} {S : ℕ} (as_flash : Flash F S) (setup next : Setup) (identity : Identity) (silence : ℕ)
    (controller_frame : ControllerFrame setup) (ended_frame : EndedFrame setup) (ended_unit : EndedUnit setup)
    (device_frame : DeviceFrame as_flash setup next identity silence) (link_unit : LinkUnit as_flash setup next identity silence)
    (link_release : LinkRelease as_flash setup next identity silence) (keeps : RoundKeeps as_flash setup next identity silence)
    (release_ignored : ReleaseIgnored as_flash setup next identity silence)
    (next_starts : (net : Net F) → IsLooking next identity net → Leads as_flash (start_up_limit next.plan) net)
    (long : IsLong as_flash setup next identity silence) (patience : HasPatience setup.options) where
  -- ---- the device of the next start

  pub of_plan_next : (station : Station) (real : Real) → IsOfPlan setup station real → IsOfPlan next station real
  of_plan_next station real plan = record {
    vendor = plan.vendor ∙ ap (λ p. p.station.vendor_id) (sym long.starts.plan);
    device = plan.device ∙ ap (λ p. p.station.device_id) (sym long.starts.plan);
    plugged = plan.plugged ∙ ap (λ p. p.real) (sym long.starts.plan);
    interval = subst (λ p. AcceptsInterval station.options p) (sym long.starts.plan) plan.interval;
    ready = plan.ready;
    names = plan.names;
  }

  pub addressed_next : (live : Live) → IsAddressed setup live ⊎ CanBeAddressed live → IsAddressed next live ⊎ CanBeAddressed live
  addressed_next live (inl has) = inl (record { suite = has.suite ∙ ap (λ p. p.station.suite) (sym long.starts.plan) })
  addressed_next live (inr can) = inr can

  -- In any state, without a relation.
  abbrev pub IsBare : State F → Type 0
  IsBare device = IsAnyDevice setup next identity silence device.station device.live × (device.live.rest.link ≡ None)

  -- A Release leaves it so, and the next start ignores the answers.
  pub bare_on : (before after : State F) (octets : List ℕ) (frames : List (List ℕ)) → Hears as_flash before octets frames after → IsBare before
      → IsOwn setup IsRelease octets → IsBare after × AllByRecursion (IsIgnored next) frames
  bare_on before after octets frames hears is own = (
    (
      (device_frame long before after octets frames hears is.0 (own_release octets own)).0,
      unrelated (link_release long before after octets frames hears is.0 own),
    ),
    release_ignored long.can long.can_next long.starts before after octets frames hears is.0 is.1 own,
  )
    where
      own_release : (octets : List ℕ) → IsOwn setup IsRelease octets → IsOwn setup IsAnything octets
      own_release octets own = record { message = own.message; frame = own.frame; sendable = own.sendable; way = own.way; is = tt }

      unrelated : (after.live.rest.link ≡ None) ⊎ (after.live.rest.link ≡ before.live.rest.link) → after.live.rest.link ≡ None
      unrelated (inl none) = none
      unrelated (inr same) = same ∙ is.1

  -- The Identify is under way, and this device has heard the Releases: the next start looks for its station.
  looks : (device : State F) (frames : List (List ℕ)) → IsBare device → AllByRecursion (IsIgnored next) frames
      → IsLooking next identity (record { device = device; controller = made next; to_device = opening_of (made next) ∷ []; to_controller = frames })
  looks device frames is ignored = record {
    searches = searching_first next (made next) refl refl;
    opened = refl;
    ignored = ignored;
    of_device = is.0.of_device;
    of_plan = of_plan_next device.station device.live.rest.real is.0.of_plan;
    named = record { name = is.0.named.name ∙ ap (λ p. p.station.name) (sym long.starts.plan) };
    free = record {
      unrelated = is.1;
      unasked = unrelated_asked setup next device.live.rest.link device.live.rest.asked.standing is.1 is.0.asked;
      uncalled = is.0.uncalled_next;
    };
    sized = is.0.sized;
    addressed = addressed_next device.live is.0.addressed;
  }

  -- ---- a round with Releases before the Identify

  -- It is a round of the net in which they have arrived, and their answers are under way.
  looking_round : (net after : Net F) → (round : Round as_flash (begun_with next net) after)
      → (parts : InParts as_flash net.device net.to_device (opening_of (made next) ∷ []) round.answers round.device)
      → Round as_flash
      (record { device = parts.between; controller = made next; to_device = opening_of (made next) ∷ []; to_controller = net.to_controller ++ parts.one }) after
  looking_round net after round parts =
      let same : net.to_controller ++ round.answers ≡ (net.to_controller ++ parts.one) ++ parts.other =
      ap (λ (fs : List (List ℕ)). net.to_controller ++ fs) parts.all ∙ sym (append_assoc net.to_controller parts.one parts.other) in
      record {
        device = round.device;
        answers = parts.other;
        arrives = parts.later;
        unit = round.unit;
        controller = round.controller ∙ ap (λ (fs : List (List ℕ)). (step_of (hears_all (made next) fs).controller Tick).controller) same;
        to_device = round.to_device
            ∙ ap (λ (fs : List (List ℕ)). (hears_all (made next) fs).frames ++ (step_of (hears_all (made next) fs).controller Tick).frames) same;
      }

  not_yet : (net : Net F) → net.controller ≡ made next → BothExchange net → ⊥
  not_yet net is both = not_both (sym (ap (λ c. c.live.phase) is) ∙ both.controller)
    where
      not_both : Looking ≡ Exchanging → ⊥
      not_both bad = absurd cc

  five : start_up_limit setup.plan ≡ suc (write_count setup.plan + 4)
  five = omega arith

  pub start_leads : (net : Net F) → IsBare net.device → AreOwn setup IsRelease net.to_device → net.to_controller ≡ []
      → Leads as_flash (start_up_limit setup.plan) (begun_with next net)
  start_leads net is releases silent = subst (λ (n : ℕ). Leads as_flash n (begun_with next net)) (sym five) (inr (
    refl,
    λ after round.
        let parts = in_parts as_flash net.device net.to_device (opening_of (made next) ∷ []) round.answers round.device round.arrives in
        let heard = device_after as_flash IsBare (IsOwn setup IsRelease) (IsIgnored next) bare_on net.device net.to_device parts.one parts.between
        parts.arrives is releases in
        let looked : Net F = record {
          device = parts.between;
          controller = made next;
          to_device = opening_of (made next) ∷ [];
          to_controller = net.to_controller ++ parts.one;
        } in
        let lead = next_starts looked (looks parts.between (net.to_controller ++ parts.one) heard.0
        (all_joined (IsIgnored next) net.to_controller parts.one (subst (AllByRecursion (IsIgnored next)) (sym silent) tt) heard.1)) in
        by_lead looked after refl (looking_round net after round parts)
        (subst (λ (n : ℕ). Leads as_flash n looked) (ap start_up_limit long.starts.plan ∙ five) lead),
  ))
    where
      by_lead : (looked after : Net F) → looked.controller ≡ made next → Round as_flash looked after
          → Leads as_flash (suc (write_count setup.plan + 4)) looked → Leads as_flash (write_count setup.plan + 4) after
      by_lead looked after is round (inl both) = absurd (not_yet looked is both)
      by_lead looked after is round (inr leads) = leads.1 after round

  -- ---- the part

  pub begins : (pause : ℕ)
      → Begins as_flash setup next identity silence controller_frame ended_frame ended_unit device_frame link_unit link_release keeps long patience pause
  begins pause net more under releases silent none =
      back_anywhere as_flash identity pause (start_up_limit setup.plan) (record { net = begun_with next net; later = more; idle = 0 })
      (plant_leads as_flash pause (start_up_limit setup.plan) (record { net = begun_with next net; later = more; idle = 0 })
      (start_leads net (under.device, none) releases silent))

module _ {F : Type 0} {S : ℕ} (as_flash : Flash F S) (setup next : Setup) (identity : Identity) (silence : ℕ)
    (controller_frame : ControllerFrame setup) (ended_frame : EndedFrame setup) (ended_unit : EndedUnit setup)
    (device_frame : DeviceFrame as_flash setup next identity silence) (link_unit : LinkUnit as_flash setup next identity silence)
    (link_release : LinkRelease as_flash setup next identity silence) (keeps : RoundKeeps as_flash setup next identity silence)
    (release_ignored : ReleaseIgnored as_flash setup next identity silence)
    (next_starts : (net : Net F) → IsLooking next identity net → Leads as_flash (start_up_limit next.plan) net) where
  -- From the end of the controller on: the pause, and a start.
  pub parted : PartedLeads as_flash setup next identity silence
  parted long patience pause enough plant at =
      parted_leads as_flash setup next identity silence controller_frame ended_frame ended_unit device_frame link_unit link_release keeps long patience
      (begins as_flash setup next identity silence controller_frame ended_frame ended_unit device_frame link_unit link_release keeps release_ignored next_starts
      long patience) pause enough plant at
