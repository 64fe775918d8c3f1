-- A round leaves no relation of an earlier start in the way.
use Rattle.std.proofs.Common.{◌≡◌, ◌<◌, ◌⊎◌, inl, inr, ℕ, Bool, true, false, List, [], ◌∷◌, ◌++◌, Option, Some, None, refl, sym, subst, ◌∙◌}
use Rattle.std.specs.List.{AllByRecursion}
use Rattle.flash_model.specs.declared.flash.Flash.{Ghosts as Flash}
use Rattle.pn_values.specs.declared.identity.Identity.{Identity}
use Rattle.relations.specs.RelationState.{RelationState}
use Rattle.device_core.specs.State.{State}
use Rattle.controller_messages.specs.declared.setup.Setup.{Setup}
use Rattle.controller_core.specs.declared.stored.event.Event.TheVariants.{Tick}
use Rattle.controller_core.specs.stored.State.{Controlling}
use Rattle.controller_core.specs.Machine.{step_of}
use Rattle.both_ends.specs.startup.answer.Answer.{chosen_with}
use Rattle.rounds_law.specs.Anywhere.{IsAnyDevice}
use Rattle.rounds_law.specs.AnywhereFrames.{AreOwn, IsAnything, IsOwn}
use Rattle.rounds_law.specs.AnywhereSame.{AreOfNumber, ChoosesIn, IsNoneChosen, IsNumberChosen, IsOfStart, IsOfThisStart, IsUnrelated, StoresChosen}
use Rattle.rounds_law.specs.Path.{controller_step}
use Rattle.rounds_law.specs.Rounds.{HearsAll, Net, Round, hears_all}
use Rattle.rounds_law.proofs.AnywhereDeviceLaw.{device_frame}
use Rattle.rounds_law.proofs.AnywhereParts.{Hears, IsLong}
use Rattle.rounds_law.proofs.AnywherePlants.{IsUnderWay}
use Rattle.rounds_law.proofs.AnywhereRounds.{all_joined, controller_after, device_after}
use Rattle.rounds_law.proofs.AnywhereControllerLaws.{TurnsAreOfAKind}
use Rattle.rounds_law.proofs.AnywhereSameController.{IsRelatedIn, OfChosen, frame_keeps, unit_keeps}
use Rattle.rounds_law.proofs.AnywhereSameDevice.{Leaves, SameLaws, frame_leaves, unit_leaves}

-- ---- the controller

-- Frames that choose so, and then a unit, leave a controller whose relation is of this kind.
module _ (kinds : TurnsAreOfAKind) (setup : Setup) (Of : ℕ → ℕ → Type 0) where
  pub related_after : (controller : Controlling) (frames : List (List ℕ)) → IsRelatedIn setup Of controller
      → AllByRecursion (ChoosesIn setup (OfChosen setup Of)) frames → IsRelatedIn setup Of (step_of (hears_all controller frames).controller Tick).controller
  related_after controller frames related chosen =
      unit_keeps setup Of kinds (hears_all controller frames).controller
      (controller_after (IsRelatedIn setup Of) (ChoosesIn setup (OfChosen setup Of)) (λ (octets : List ℕ). Unit {0})
      (λ one octets is fit. (frame_keeps setup Of kinds one octets fit is, all_units (controller_step one octets).frames)) controller frames related chosen).0
    where
      all_units : (frames : List (List ℕ)) → AllByRecursion (λ (octets : List ℕ). Unit {0}) frames
      all_units [] = tt
      all_units (octets ∷ frames) = (tt, all_units frames)

not_established : (stands : Bool) → (stands ≡ true → ⊥) → stands ≡ false
not_established true never = absurd (never refl)
not_established false never = refl

-- ---- both

module _ {F : Type 0} {S : ℕ} (as_flash : Flash F S) (setup next : Setup) (identity : Identity) (silence : ℕ) (laws : SameLaws setup identity)
    (long : IsLong as_flash setup next identity silence) where
  abbrev IsAny : State F → Type 0
  IsAny device = IsAnyDevice setup next identity silence device.station device.live

  any_on : (before after : State F) (octets : List ℕ) (frames : List (List ℕ)) → Hears as_flash before octets frames after → IsAny before
      → IsOwn setup IsAnything octets → IsAny after
  any_on before after octets frames hears any own =
      (device_frame as_flash setup next identity silence laws.device long before after octets frames hears any own).0

  leaves : (before after : State F) (octets : List ℕ) (frames : List (List ℕ)) → Hears as_flash before octets frames after → IsAny before
      → IsOwn setup IsAnything octets → Leaves as_flash setup next identity silence laws long before after frames
  leaves before after octets frames hears any own = frame_leaves as_flash setup next identity silence laws long before after octets frames hears any own

  -- ---- frames at the device

  -- What it stores chooses the numbers of a relation.
  numbers_after : (before : State F) (frames answers : List (List ℕ)) (after : State F) → HearsAll as_flash before frames answers after
      → IsAny before → StoresChosen setup IsNumberChosen before.live → AreOwn setup IsAnything frames
      → (IsAny after × StoresChosen setup IsNumberChosen after.live) × AllByRecursion (ChoosesIn setup IsNumberChosen) answers
  numbers_after before frames answers after hears any stored own =
      device_after as_flash (λ (device : State F). IsAny device × StoresChosen setup IsNumberChosen device.live) (IsOwn setup IsAnything)
      (ChoosesIn setup IsNumberChosen)
      (λ from to octets sent hear is one.
      let on = (leaves from to octets sent hear is.0 one).chosen IsNumberChosen (λ none number few. of_number number few) is.1 in
      ((any_on from to octets sent hear is.0 one, on.0), on.1))
      before frames answers after hears (any, stored) own
    where
      of_number : (number : ℕ) → number < 14336 → IsNumberChosen (chosen_with number)
      of_number number few = record { number = number; few = few; outputs = refl; alarms = refl }

  -- Its relation stays that of this start.
  start_after : (before : State F) (frames answers : List (List ℕ)) (after : State F) → HearsAll as_flash before frames answers after
      → IsAny before → IsOfStart setup before.live.rest.link → AreOwn setup IsAnything frames → IsOfStart setup after.live.rest.link
  start_after before [] answers after hears any start own = subst (λ (device : State F). IsOfStart setup device.live.rest.link) (sym hears.0) start
  start_after before (octets ∷ frames) answers after hears any start own =
      start_after hears.0 frames hears.2 after hears.4 (any_on before hears.0 octets hears.1 hears.3 any own.0)
      ((leaves before hears.0 octets hears.1 hears.3 any own.0).of_start start) own.1

  -- It accepts the Connect of this start, or stores and sends no positive response to it.
  abbrev IsFree : State F → List (List ℕ) → Type 0
  IsFree device sent =
      IsOfStart setup device.live.rest.link ⊎ (StoresChosen setup IsNoneChosen device.live × AllByRecursion (ChoosesIn setup IsNoneChosen) sent)

  -- One step: a device without a relation has none of an earlier start.
  free_step : (before after : State F) (frames : List (List ℕ)) → Leaves as_flash setup next identity silence laws long before after frames
      → StoresChosen setup IsNoneChosen before.live → IsFree after frames
  free_step before after frames leaves stored = by_link before.live.rest.link refl
    where
      none_made : (link : RelationState) → before.live.rest.link ≡ Some link → before.live.rest.link ≡ None → ⊥
      none_made link has none = not_both (sym has ∙ none)
        where
          not_both : Some link ≡ None → ⊥
          not_both bad = absurd cc

      by_link : (link : Option RelationState) → before.live.rest.link ≡ link → IsFree after frames
      by_link None has = inl (leaves.of_start (subst (IsOfStart setup) (sym has) tt))
      by_link (Some link) has = inr (leaves.chosen IsNoneChosen (λ none number few. absurd (none_made link has none)) stored)

  free_after : (before : State F) (frames answers : List (List ℕ)) (after : State F) → HearsAll as_flash before frames answers after
      → IsAny before → StoresChosen setup IsNoneChosen before.live → AreOwn setup IsAnything frames → IsFree after answers
  free_after before [] answers after hears any stored own = inr (
    subst (λ (device : State F). StoresChosen setup IsNoneChosen device.live) (sym hears.0) stored,
    subst (AllByRecursion (ChoosesIn setup IsNoneChosen)) (sym hears.1) tt,
  )
  free_after before (octets ∷ frames) answers after hears any stored own =
      by_first (free_step before hears.0 hears.1 (leaves before hears.0 octets hears.1 hears.3 any own.0) stored)
      (λ free. free_after hears.0 frames hears.2 after hears.4 here free own.1)
    where
      here : IsAny hears.0
      here = any_on before hears.0 octets hears.1 hears.3 any own.0

      by_rest : AllByRecursion (ChoosesIn setup IsNoneChosen) hears.1 → IsFree after hears.2 → IsFree after answers
      by_rest first (inl start) = inl start
      by_rest first (inr free) = inr (
        free.0,
        subst (AllByRecursion (ChoosesIn setup IsNoneChosen)) (sym hears.5) (all_joined (ChoosesIn setup IsNoneChosen) hears.1 hears.2 first free.1),
      )

      by_first : IsFree hears.0 hears.1 → (StoresChosen setup IsNoneChosen hears.0.live → IsFree after hears.2) → IsFree after answers
      by_first (inl start) more = inl (start_after hears.0 frames hears.2 after hears.4 here start own.1)
      by_first (inr free) more = by_rest free.1 (more free.0)

  -- ---- a round

  module _ (before after : Net F) (at : IsUnderWay as_flash setup next identity silence before) (round : Round as_flash before after)
      (is : IsOfThisStart setup before) where
    numbers : (IsAny round.device × StoresChosen setup IsNumberChosen round.device.live) × AllByRecursion (ChoosesIn setup IsNumberChosen) round.answers
    numbers = numbers_after before.device before.to_device round.answers round.device round.arrives at.device is.stored at.to_device

    passes : Leaves as_flash setup next identity silence laws long round.device after.device after.to_controller
    passes = unit_leaves as_flash setup next identity silence laws long round.device after.device after.to_controller round.unit numbers.0.0

    unit_numbers : StoresChosen setup IsNumberChosen after.device.live × AllByRecursion (ChoosesIn setup IsNumberChosen) after.to_controller
    unit_numbers =
        passes.chosen IsNumberChosen (λ none number few. record { number = number; few = few; outputs = refl; alarms = refl }) numbers.0.1

    -- A controller of this kind is one after the round.
    controller_is : (Of : ℕ → ℕ → Type 0) → IsRelatedIn setup Of before.controller
        → AllByRecursion (ChoosesIn setup (OfChosen setup Of)) before.to_controller → AllByRecursion (ChoosesIn setup (OfChosen setup Of)) round.answers
        → IsRelatedIn setup Of after.controller
    controller_is Of related first answers =
        subst (IsRelatedIn setup Of) (sym round.controller)
        (related_after laws.controller.kinds setup Of before.controller (before.to_controller ++ round.answers) related
        (all_joined (ChoosesIn setup (OfChosen setup Of)) before.to_controller round.answers first answers))

    unrelated_by : IsUnrelated setup before → AllByRecursion (ChoosesIn setup IsNoneChosen) round.answers → IsFree after.device after.to_controller
        → IsOfStart setup after.device.live.rest.link ⊎ IsUnrelated setup after
    unrelated_by free answers (inl start) = inl start
    unrelated_by free answers (inr now) = inr (record {
      unestablished = not_established after.controller.live.stands
          (controller_is (λ frame_id reference. ⊥) (at.controller.of_setup, λ up. never (sym free.unestablished ∙ up)) free.under_way answers).1;
      stored = now.0;
      under_way = now.1;
    })
      where
        never : false ≡ true → ⊥
        never bad = absurd cc

    related_by : IsOfStart setup before.device.live.rest.link ⊎ IsUnrelated setup before → IsOfStart setup after.device.live.rest.link ⊎ IsUnrelated setup after
    related_by (inl start) =
        inl (passes.of_start (start_after before.device before.to_device round.answers round.device round.arrives at.device start at.to_device))
    related_by (inr free) = by_frames (free_after before.device before.to_device round.answers round.device round.arrives at.device free.stored at.to_device)
      where
        by_frames : IsFree round.device round.answers → IsOfStart setup after.device.live.rest.link ⊎ IsUnrelated setup after
        by_frames (inl start) = inl (passes.of_start start)
        by_frames (inr now) = unrelated_by free now.1 (free_step round.device after.device after.to_controller passes now.0)

    -- So it is after the round.
    pub round_of_start : IsOfThisStart setup after
    round_of_start = record {
      route = (controller_is AreOfNumber (at.controller.of_setup, is.route) is.under_way numbers.1).1;
      stored = unit_numbers.0;
      under_way = unit_numbers.1;
      relation = related_by is.relation;
    }
