-- The first round of a start at a device that may have a relation: the device answers the Identify, and the controller asks next.
use Rattle.std.proofs.Common.{◌≡◌, ◌⊎◌, inl, inr, ◌≤◌, ℕ, suc, List, [], ◌∷◌, ◌++◌, Option, None, Some, refl, sym, ap, subst, ◌∙◌, arith}
use Rattle.std.specs.List.{AllByRecursion}
use Rattle.flash_model.specs.declared.flash.Flash.{Ghosts as Flash}
use Rattle.pn_values.specs.declared.identity.Identity.{Identity}
use Rattle.pn_values.specs.declared.real.Real.{Real}
use Rattle.rpc_core.specs.Cache.{Kept as Stored, kept_of}
use Rattle.plans.specs.declared.parts.Parts.{Parts}
use Rattle.relations.specs.RelationState.{RelationState, uuid_of}
use Rattle.device_frames.specs.Heard.{Ticks}
use Rattle.device_core.specs.State.{Live, State, Station}
use Rattle.controller_messages.specs.declared.setup.Setup.{Setup}
use Rattle.controller_core.specs.declared.stored.event.Event.TheVariants.{Frame}
use Rattle.controller_core.specs.stored.State.{Controlling}
use Rattle.controller_core.specs.Machine.{step_of}
use Rattle.end_laws.specs.turns.Runs.{IsReached, behind_all}
use Rattle.both_ends.specs.startup.answer.Answer.{AcceptsInterval}
use Rattle.rounds_law.specs.Again.{AreStarts, made}
use Rattle.rounds_law.specs.Anywhere.{AllLast, HasPatience, IsAnyDevice, remains}
use Rattle.rounds_law.specs.AnywhereFrames.{AreOwn, IsAnything, IsOwn, IsRelease}
use Rattle.rounds_law.specs.Path.{IsAddressed, IsIgnored}
use Rattle.rounds_law.specs.Rounds.{Goes, HearsAll, Net, hears_all}
use Rattle.rounds_law.specs.Start.{CanBeAddressed, IsOfPlan}
use Rattle.rounds_law.proofs.AnywhereAsked.{next_asked}
use Rattle.rounds_law.proofs.AnywhereParts.{ControllerFrame, DeviceFrame, DeviceUnit, EndedFrame, EndedUnit, Hears, IsLong}
use Rattle.rounds_law.proofs.AnywhereParts.{LinkGoesOn, LinkRelease, LinkUnit}
use Rattle.rounds_law.proofs.AnywherePlants.{IsUnderWay, RoundKeeps}
use Rattle.rounds_law.proofs.AnywhereParted.{there_or_not}
use Rattle.rounds_law.proofs.AnywhereRounds.{device_after}

-- ---- the controller

-- A controller that was just made, after any frames and a unit, is one that events lead to.
joined : (events more : _) (controller : Controlling) → behind_all (events ++ more) controller ≡ behind_all more (behind_all events controller)
joined [] more controller = refl
joined (event ∷ events) more controller = joined events more (step_of controller event).controller

pub reached_by : (controller : Controlling) (event : _) → IsReached controller → IsReached (step_of controller event).controller
reached_by controller event reached = record {
  plan = reached.plan;
  ar = reached.ar;
  activity = reached.activity;
  options = reached.options;
  events = reached.events ++ event ∷ [];
  made = ap (λ (c : Controlling). (step_of c event).controller) reached.made
      ∙ sym (joined reached.events (event ∷ []) _);
}

pub reached_all : (controller : Controlling) (frames : List (List ℕ)) → IsReached controller → IsReached (hears_all controller frames).controller
reached_all controller [] reached = reached
reached_all controller (octets ∷ frames) reached =
    reached_all (step_of controller (Frame (record { items = octets }))).controller frames (reached_by controller (Frame (record { items = octets })) reached)

pub reached_made : (setup : Setup) → IsReached (made setup)
reached_made setup = record { plan = setup.plan; ar = setup.ar; activity = setup.activity; options = setup.options; events = []; made = refl }

-- ---- all that is known of two starts, the one before the other

module _ {F : Type 0} {S : ℕ} (as_flash : Flash F S) (identity : Identity) (silence : ℕ) where
  -- Without a relation or with one, what the device answers to a Release is ignored by a controller of the next start.
  abbrev pub ReleasesIgnored : Setup → Setup → Type 0
  ReleasesIgnored setup next = (before after : State F) (octets : List ℕ) (frames : List (List ℕ)) → Hears as_flash before octets frames after
      → IsAnyDevice setup next identity silence before.station before.live → IsOwn setup IsRelease octets
      → AllByRecursion (IsIgnored next) frames

  pub record Pair (setup next : Setup) : Type 0 where
    pub long : IsLong as_flash setup next identity silence
    pub patience : HasPatience setup.options
    pub controller_frame : ControllerFrame setup
    pub ended_frame : EndedFrame setup
    pub ended_unit : EndedUnit setup
    pub device_frame : DeviceFrame as_flash setup next identity silence
    pub device_unit : DeviceUnit as_flash setup next identity silence
    pub link_unit : LinkUnit as_flash setup next identity silence
    pub link_release : LinkRelease as_flash setup next identity silence
    pub keeps : RoundKeeps as_flash setup next identity silence
    pub ignored : ReleasesIgnored setup next

  -- In any state, for each of the starts that follow.
  abbrev pub AnyForAll : Setup → List Setup → State F → Type 0
  AnyForAll setup starts device = AllByRecursion (λ start. IsAnyDevice setup start identity silence device.station device.live) starts

  abbrev pub UnderWayForAll : Setup → List Setup → Net F → Type 0
  UnderWayForAll setup starts net = AllByRecursion (λ start. IsUnderWay as_flash setup start identity silence net) starts

  pub own_release : (setup : Setup) (octets : List ℕ) → IsOwn setup IsRelease octets → IsOwn setup IsAnything octets
  own_release setup octets own = record { message = own.message; frame = own.frame; sendable = own.sendable; way = own.way; is = tt }

  -- So it is after Releases, and after a unit.
  pub all_released : (setup : Setup) (starts : List Setup) → AllByRecursion (Pair setup) starts
      → (before : State F) (frames sent : List (List ℕ)) (after : State F)
      → HearsAll as_flash before frames sent after → AreOwn setup IsRelease frames → AnyForAll setup starts before → AnyForAll setup starts after
  all_released setup [] pairs before frames sent after hears own all = tt
  all_released setup (start ∷ starts) pairs before frames sent after hears own all = (
    (device_after as_flash (λ (device : State F). IsAnyDevice setup start identity silence device.station device.live) (IsOwn setup IsRelease)
        (λ (octets : List ℕ). Unit {0})
        (λ from to octets answers hear is release.
        ((pairs.0.device_frame pairs.0.long from to octets answers hear is (own_release setup octets release)).0, all_units answers))
        before frames sent after hears all.0 own).0,
    all_released setup starts pairs.1 before frames sent after hears own all.1,
  )
    where
      all_units : (frames : List (List ℕ)) → AllByRecursion (λ (octets : List ℕ). Unit {0}) frames
      all_units [] = tt
      all_units (octets ∷ frames) = (tt, all_units frames)

  pub all_aged : (setup : Setup) (starts : List Setup) → AllByRecursion (Pair setup) starts → (before after : State F) (frames : List (List ℕ))
      → Goes as_flash before Ticks frames after → AnyForAll setup starts before → AnyForAll setup starts after
  all_aged setup [] pairs before after frames goes all = tt
  all_aged setup (start ∷ starts) pairs before after frames goes all =
      ((pairs.0.device_unit pairs.0.long before after frames goes all.0).0, all_aged setup starts pairs.1 before after frames goes all.1)

  pub all_still : (setup : Setup) (starts : List Setup) (before after : State F) → after.station ≡ before.station → after.live ≡ before.live
      → AnyForAll setup starts before → AnyForAll setup starts after
  all_still setup starts before after station live all =
      subst (λ (s : Station). AllByRecursion (λ start. IsAnyDevice setup start identity silence s after.live) starts) (sym station)
      (subst (λ (l : Live). AllByRecursion (λ start. IsAnyDevice setup start identity silence before.station l) starts) (sym live) all)

  -- ---- the device, seen from the next start

  pub of_plan_next : (setup next : Setup) (station : Station) (real : Real) → AreStarts setup next → IsOfPlan setup station real → IsOfPlan next station real
  of_plan_next setup next station real starts plan = record {
    vendor = plan.vendor ∙ ap (λ p. p.station.vendor_id) (sym starts.plan);
    device = plan.device ∙ ap (λ p. p.station.device_id) (sym starts.plan);
    plugged = plan.plugged ∙ ap (λ p. p.real) (sym starts.plan);
    interval = subst (λ p. AcceptsInterval station.options p) (sym starts.plan) plan.interval;
    ready = plan.ready;
    names = plan.names;
  }

  pub addressed_next : (setup next : Setup) (live : Live) → AreStarts setup next → IsAddressed setup live ⊎ CanBeAddressed live
      → IsAddressed next live ⊎ CanBeAddressed live
  addressed_next setup next live starts (inl has) = inl (record { suite = has.suite ∙ ap (λ p. p.station.suite) (sym starts.plan) })
  addressed_next setup next live starts (inr can) = inr can

  none_stored : {A : Type 0} (activity : List ℕ) (live : Live) (kept : Stored) → kept_of activity live.rest.calls ≡ None
      → kept_of activity live.rest.calls ≡ Some kept → A
  none_stored activity live kept none some = not_both (sym none ∙ some)
    where
      not_both : {A : Type 0} → None ≡ Some kept → A
      not_both bad = absurd cc

  -- A relation lasts as long for the next start: the plan is the same.
  last_next : (setup next : Setup) (link : Option RelationState) → AreStarts setup next → AllLast setup silence link → AllLast next silence link
  last_next setup next None starts lasts = tt
  last_next setup next (Some link) starts lasts = record {
    runs = lasts.runs;
    active = lasts.active;
    holds = lasts.holds;
    named = lasts.named;
    object = lasts.object;
    called = lasts.called;
    inputs = lasts.inputs;
    untold = λ keyed. lasts.untold (ap (λ (p : Parts). p.parameters_after_plug) (sym starts.plan) ∙ keyed);
  }

  -- A device in any state, that has stored no answer of two further starts, is so for the first of them.
  pub any_next : (setup next later : Setup) (station : Station) (live : Live) → AreStarts setup next
      → IsAnyDevice setup next identity silence station live → IsAnyDevice setup later identity silence station live
      → IsAnyDevice next later identity silence station live
  any_next setup next later station live starts one other = record {
    of_device = one.of_device;
    of_plan = of_plan_next setup next station live.rest.real starts one.of_plan;
    named = record { name = one.named.name ∙ ap (λ p. p.station.name) (sym starts.plan) };
    sized = one.sized;
    addressed = addressed_next setup next live starts one.addressed;
    lasts = last_next setup next live.rest.link starts one.lasts;
    stored = λ kept is. none_stored next.activity live kept one.uncalled_next is;
    stored_other = λ kept is. none_stored next.activity live kept one.uncalled_next is;
    answers = λ keyed kept is. none_stored next.activity live kept one.uncalled_next is;
    uncalled_next = other.uncalled_next;
    asked = next_asked setup next later (uuid_of live.rest.link) live.rest.asked.standing one.asked other.asked;
  }

  pub all_next : (setup next : Setup) (starts : List Setup) (device : State F) → AreStarts setup next
      → IsAnyDevice setup next identity silence device.station device.live → AnyForAll setup starts device → AnyForAll next starts device
  all_next setup next [] device starts one all = tt
  all_next setup next (later ∷ more) device starts one all =
      (any_next setup next later device.station device.live starts one all.0, all_next setup next more device starts one all.1)

  -- ---- the relation

  -- At most this many units remain of it.
  abbrev pub Few : ℕ → State F → Type 0
  Few left device = remains device.live.rest.link ≤ left

  pub few_on : (left : ℕ) (before after : State F) → (after.live.rest.link ≡ None) ⊎ (after.live.rest.link ≡ before.live.rest.link) → Few left before
      → Few left after
  few_on left before after (inl none) few = subst (λ (n : ℕ). n ≤ left) (sym (ap remains none)) (omega arith)
  few_on left before after (inr same) few = subst (λ (n : ℕ). n ≤ left) (sym (ap remains same)) few

  -- After a unit it is over, or a unit nearer to its end.
  pub unit_nearer : (setup next : Setup) → Pair setup next → (left : ℕ) (before after : State F) (frames : List (List ℕ))
      → Goes as_flash before Ticks frames after
      → IsAnyDevice setup next identity silence before.station before.live → Few left before
      → (after.live.rest.link ≡ None) ⊎ (suc (remains after.live.rest.link) ≤ left)
  unit_nearer setup next pair left before after frames goes any few = by_link (there_or_not before.live.rest.link)
    where
      by_unit : (link : RelationState) → before.live.rest.link ≡ Some link
          → (after.live.rest.link ≡ None)
          ⊎ ((later : RelationState) × (after.live.rest.link ≡ Some later) × LinkGoesOn setup link later × (later.phase ≡ link.phase)
          × (suc (remains (Some later)) ≤ remains (Some link)))
          → (after.live.rest.link ≡ None) ⊎ (suc (remains after.live.rest.link) ≤ left)
      by_unit link has (inl gone) = inl gone
      by_unit link has (inr on) =
          let before_few : remains (Some link) ≤ left = subst (λ (l : Option RelationState). remains l ≤ left) has few in
          let less = on.4 in
          inr (subst (λ (l : Option RelationState). suc (remains l) ≤ left) (sym on.1) (omega (arith, before_few, less)))

      by_link : (before.live.rest.link ≡ None) ⊎ ((state : RelationState) × (before.live.rest.link ≡ Some state))
          → (after.live.rest.link ≡ None) ⊎ (suc (remains after.live.rest.link) ≤ left)
      by_link (inl none) = inl ((pair.link_unit before after frames goes any).0 none).0
      by_link (inr is) = by_unit is.0 is.1 ((pair.link_unit before after frames goes any).1 is.0 is.1)
