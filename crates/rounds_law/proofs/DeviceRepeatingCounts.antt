-- How often ApplicationReady is sent in any number of units.
use Rattle.std.proofs.Common.{◌≡◌, ◌+◌, ◌/◌, ◌<◌, ◌==◌, ◌++◌, inl, inr, ℕ, zero, suc, nat_eq, Bool, true, false, List, [], ◌∷◌, refl, sym, ap, ap₂}
use Rattle.std.proofs.Common.{subst, ◌∙◌, arith}
use Rattle.std.specs.Prelude.{if◌then◌else◌, replicate}
use Rattle.std.specs.List.{AllByRecursion}
use Rattle.std.specs.Cmp.Lexicographic.{pointwise}
use Rattle.std.proofs.lemmas.Bool.{and_parts, cases_Bool, eqb-false, eqb-true}
use Rattle.std.proofs.lemmas.Cmp.{nat_list_eq_equiv}
use Rattle.pn_values.specs.declared.identity.Identity.{Identity}
use Rattle.wire.specs.Codec.{IsSound, IsSoundWhole}
use Rattle.frame_codec.specs.Frame.{ethernet, layers}
use Rattle.settings_journal.specs.settings_store.Machine.{Outcome}
use Rattle.relations.specs.exchange.Opening.{route_of as inputs_route}
use Rattle.device_frames.specs.declared.event.Event.TheVariants.{Tick}
use Rattle.device_frames.specs.Heard.{Ticks, heard_of}
use Rattle.device_core.specs.State.{Live, Station}
use Rattle.device_core.specs.Machine.{Stepped, first_step, handed, heard_step, later_steps, run_of}
use Rattle.controller_messages.specs.Heard as controller
use Rattle.controller_messages.specs.declared.setup.Setup.{Setup}
use Rattle.end_laws.specs.hearing.Stations.{IsDevice, IsSetup, ready_call}
use Rattle.both_ends.specs.startup.request.Request.{request_for}
use Rattle.rounds_law.specs.Path.{IsAddressed, IsInputs, device_as_caller, readied_frame, ready_for}
use Rattle.rounds_law.specs.Repeating.{AsksInTime, Awaits, completes, count_of, counts_on}
use Rattle.rounds_law.proofs.ControllerPassingFrames.{InputsAreHeard, IsCyclicOrNone, inputs_heard, routed}
use Rattle.rounds_law.proofs.DeviceRepeatingUnits.{awaiting_unit}

-- ---- inputs are not ApplicationReady

pub inputs_differ : InputsAreHeard → IsSound ethernet → IsSoundWhole layers → (setup : Setup) (identity : Identity) → IsSetup setup → IsDevice identity
    → controller.heard_of setup.plan.controller (readied_frame setup identity)
    ≡ controller.Calls (device_as_caller setup identity) (ready_call (ready_for setup))
    → (octets : List ℕ) → IsInputs setup identity octets → octets ≡ readied_frame setup identity → ⊥
inputs_differ hears sound whole setup identity good real ready octets is same =
    subst IsCyclicOrNone ready
    (subst (λ (bytes : List ℕ). IsCyclicOrNone (controller.heard_of setup.plan.controller bytes)) (sym is.frame ∙ same)
    (inputs_heard hears sound whole setup.plan.controller identity (inputs_route is.serial (request_for setup.plan setup.ar)) is.state is.inputs is.counter real
    (routed is.serial setup good)))

-- ---- counts

same_octets : (one other : List ℕ) → pointwise nat_eq one other ≡ true → one ≡ other
same_octets [] [] is = refl
same_octets [] (b ∷ other) is = absurd cc
same_octets (a ∷ one) [] is = absurd cc
same_octets (a ∷ one) (b ∷ other) is =
    let parts = and_parts (nat_eq a b) (pointwise nat_eq one other) is in
    ap (λ n. n ∷ one) (eqb-true a b parts.0) ∙ ap (λ l. b ∷ l) (same_octets one other parts.1)

one_longer : (is : Bool) (all some others : ℕ) → all ≡ some + others → (if is then suc all else all) ≡ (if is then suc some else some) + others
one_longer true all some others e = omega (arith, e)
one_longer false all some others e = e

count_joined : (octets : List ℕ) (some others : List (List ℕ)) → count_of octets (some ++ others) ≡ count_of octets some + count_of octets others
count_joined octets [] others = omega arith
count_joined octets (frame ∷ some) others =
    one_longer (pointwise nat_eq frame octets) (count_of octets (some ++ others)) (count_of octets some) (count_of octets others)
    (count_joined octets some others)

count_one : (octets : List ℕ) → count_of octets (octets ∷ []) ≡ 1
count_one octets = ap (λ (b : Bool). if b then 1 else 0) (nat_list_eq_equiv.refl octets)

count_none : (Is : List ℕ → Type 0) (octets : List ℕ) → ((frame : List ℕ) → Is frame → frame ≡ octets → ⊥) → (frames : List (List ℕ))
    → AllByRecursion Is frames → count_of octets frames ≡ 0
count_none Is octets differ [] all = refl
count_none Is octets differ (frame ∷ frames) all =
    elim (cases_Bool (pointwise nat_eq frame octets)) [
      | inl t ↦ absurd (differ frame all.0 (same_octets frame octets t))
      | inr t ↦ rw t (count_none Is octets differ frames all.1)
    ]

count_ready : (octets : List ℕ) (again : Bool) (inputs : List (List ℕ)) → count_of octets inputs ≡ 0
    → count_of octets ((if again then octets ∷ [] else []) ++ inputs) ≡ (if again then 1 else 0)
count_ready octets true inputs none =
    count_joined octets (octets ∷ []) inputs ∙ omega (arith, count_one octets, none)
count_ready octets false inputs none = none

-- ---- the numbers

summed : (waited units : ℕ) → (if completes waited then 1 else 0) + (counts_on waited + units) / 32000 ≡ (waited + suc units) / 32000
summed waited units = by_test (waited + 1 == 32000) refl
  where
    by_test : (b : Bool) → (waited + 1 == 32000) ≡ b
        → (if b then 1 else 0) + ((if b then 0 else waited + 1) + units) / 32000 ≡ (waited + suc units) / 32000
    by_test true e = omega (arith, eqb-true (waited + 1) 32000 e)
    by_test false e = omega (arith, eqb-false (waited + 1) 32000 e)

counts_below : (waited : ℕ) → waited < 32000 → counts_on waited < 32000
counts_below waited few = by_test (waited + 1 == 32000) refl
  where
    by_test : (b : Bool) → (waited + 1 == 32000) ≡ b → (if b then 0 else waited + 1) < 32000
    by_test true e = omega arith
    by_test false e = omega (arith, few, eqb-false (waited + 1) 32000 e)

none_yet : (waited : ℕ) → waited < 32000 → 0 ≡ (waited + 0) / 32000
none_yet waited few = omega (arith, few)

-- ---- units, one after another

module _ (setup : Setup) (identity : Identity) (station : Station) (same : station.identity ≡ identity)
    (differ : (octets : List ℕ) → IsInputs setup identity octets → octets ≡ readied_frame setup identity → ⊥) where
  abbrev ready : List ℕ
  ready = readied_frame setup identity

  -- a unit, and what is sent after it
  unit_count : (serial : ℕ) (waited inactive : ℕ) (live : Live) (step : Stepped) → live.values.is_lost ≡ false → AsksInTime setup serial identity waited inactive live step
      → count_of ready (handed step) ≡ (if completes waited then 1 else 0)
  unit_count serial waited inactive live step lost asks =
      ap (λ (b : Bool). count_of ready (if b then [] else step.frames)) (ap (λ values. values.is_lost) asks.values ∙ lost)
      ∙ (ap (λ (frames : List (List ℕ)). count_of ready frames) asks.frames
      ∙ count_ready ready (completes waited) asks.inputs (count_none (IsInputs setup identity) ready differ asks.inputs asks.are_inputs))

  then_count : (waited units : ℕ) (first others : List (List ℕ)) → count_of ready first ≡ (if completes waited then 1 else 0)
      → count_of ready others ≡ (counts_on waited + units) / 32000
      → count_of ready (first ++ others) ≡ (waited + suc units) / 32000
  then_count waited units first others one more =
      count_joined ready first others ∙ (ap₂ (λ (a b : ℕ). a + b) one more ∙ summed waited units)

  pub counts : (serial : ℕ) (units : ℕ) (outcomes : List (List Outcome)) (live : Live) (waited inactive : ℕ) → IsAddressed setup live → live.values.is_lost ≡ false
      → Awaits setup serial waited inactive live → waited < 32000 → inactive + units < 1920000
      → count_of ready (run_of outcomes station live (replicate units Tick)).frames ≡ (waited + units) / 32000
  unfolding heard_of
  counts serial zero outcomes live waited inactive addressed lost awaits few short = none_yet waited few
  counts serial (suc units) outcomes live waited inactive addressed lost awaits few short =
      let step = heard_step (first_step outcomes) station live Ticks in
      let asks : AsksInTime setup serial identity waited inactive live step =
      awaiting_unit setup identity (first_step outcomes) station live waited inactive serial awaits same addressed (omega (arith, short)) in
      then_count waited units (handed step) (run_of (later_steps outcomes) station step.live (replicate units Tick)).frames
      (unit_count serial waited inactive live step lost asks)
      (counts serial units (later_steps outcomes) step.live (counts_on waited) (inactive + 1)
      (record { suite = ap (λ values. values.running.suite) asks.values ∙ addressed.suite })
      (ap (λ values. values.is_lost) asks.values ∙ lost) asks.awaits (counts_below waited few) (omega (arith, short)))
