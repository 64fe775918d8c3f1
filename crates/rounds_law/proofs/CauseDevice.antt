-- A device that does not store the IP suite of its controller.
use Rattle.std.proofs.Common.{◌≡◌, ◌⊎◌, inl, inr, ◌==◌, ◌++◌, ℕ, Bool, true, false, List, [], ◌∷◌, map, refl, sym, ap, subst, ◌∙◌}
use Rattle.std.specs.Prelude.{if◌then◌else◌}
use Rattle.pn_values.specs.IpSuite.{is_suite}
use Rattle.pn_values.specs.declared.command.Command.{Command}
use Rattle.pn_values.specs.declared.command.Command.TheVariants.{SetIp}
use Rattle.pn_values.specs.declared.identity.Identity.{Identity}
use Rattle.pn_values.specs.declared.set_item.BlockError.{BlockError}
use Rattle.pn_values.specs.declared.set_item.BlockError.TheVariants as error
use Rattle.pn_values.specs.declared.set_item.SetItem.{SetItem}
use Rattle.pn_values.specs.declared.set_item.SetItem.TheVariants.{Ask}
use Rattle.settings_journal.specs.settings_store.Machine.{Carried, Outcome, Pass, Fault, accepted, answered, carried, committed, first_of}
use Rattle.settings_journal.specs.settings_store.State.{Values}
use Rattle.dcp_core.specs.Set.{plan_of}
use Rattle.controller_messages.specs.declared.setup.Setup.{Setup}
use Rattle.controller_messages.specs.Requests.{address_asked}
use Rattle.device_frames.specs.Heard.{Asks, Heard}
use Rattle.device_frames.specs.Sent.{SetAnswer, bytes_of}
use Rattle.device_core.specs.State.{Live, Station}
use Rattle.device_core.specs.Handled.{Sets}
use Rattle.device_core.specs.Machine.{Stepped, handled_step, heard_step, resets}
use Rattle.end_laws.specs.hearing.Hearing.{own_hears}
use Rattle.rounds_law.specs.Path.{IsFree, IsSized}
use Rattle.rounds_law.specs.Causes.{CannotStore, IsUnstored, unstored_frame}
use Rattle.rounds_law.proofs.SearchingDevice.{none_there, own_so, set_finished}
use Rattle.rounds_law.proofs.SearchingSizes.{asks_suite}

-- ---- one command

-- It is answered by an error.
record IsLeft (settled : Carried) : Type 0 where
  because : BlockError
  unstored : IsUnstored because
  answers : settled.answers ≡ because ∷ []

abbrev judged : Outcome → Values → Command → Bool → Bool → Carried
judged outcome values command failed empty =
    if failed then answered error.Local values else (if empty then answered error.Exhausted values else accepted outcome values command)

left_by : (outcome : Outcome) (values : Values) (command : Command) (failed empty : Bool) → values.has_failed ≡ failed
    → ((failed ≡ true) ⊎ (empty ≡ true)) ⊎ ((judged outcome values command failed empty).values.has_failed ≡ true)
    → IsLeft (judged outcome values command failed empty)
left_by outcome values command true empty is cannot = record { because = error.Local; unstored = inl refl; answers = refl }
left_by outcome values command false true is cannot = record { because = error.Exhausted; unstored = inr refl; answers = refl }
left_by (Fault is_lost) values command false false is cannot = record { because = error.Local; unstored = inl refl; answers = refl }
left_by Pass values command false false is (inl (inl failed)) = absurd cc
left_by Pass values command false false is (inl (inr empty)) = absurd cc
left_by Pass values command false false is (inr fails) = absurd cc

cannot_by : (live : Live) → CannotStore live → (live.values.has_failed ≡ true) ⊎ ((live.values.room == 0) ≡ true)
cannot_by live (inl failed) = inl failed
cannot_by live (inr empty) = inr (ap (λ (n : ℕ). n == 0) empty)

-- ---- the Set

record LeavesIt (setup : Setup) (identity : Identity) (step : Stepped) : Type 0 where
  because : BlockError
  unstored : IsUnstored because
  frames : step.frames ≡ unstored_frame setup identity because ∷ []

-- the items of the Set
abbrev suite_items : Setup → List SetItem
suite_items setup = Ask (SetIp false setup.plan.station.suite) ∷ []

-- the answer to the one item
item_left : (outcomes : List Outcome) (setup : Setup) (live : Live)
    → CannotStore live ⊎ ((carried outcomes live.values (suite_items setup)).values.has_failed ≡ true)
    → IsLeft (carried outcomes live.values (suite_items setup))
item_left outcomes setup live cannot =
    let left = left_by (first_of outcomes) live.values (SetIp false setup.plan.station.suite)
    live.values.has_failed (live.values.room == 0) refl (either cannot) in
    record { because = left.because; unstored = left.unstored; answers = ap (λ (a : List BlockError). a ++ []) left.answers }
  where
    either : CannotStore live ⊎ ((carried outcomes live.values (suite_items setup)).values.has_failed ≡ true)
        → ((live.values.has_failed ≡ true) ⊎ ((live.values.room == 0) ≡ true))
        ⊎ ((committed (first_of outcomes) live.values (SetIp false setup.plan.station.suite)).values.has_failed ≡ true)
    either (inl can) = inl (cannot_by live can)
    either (inr fails) = inr fails

abbrev sets : Setup → Station → List Outcome → Live → Stepped
sets setup station outcomes live = handled_step outcomes station live (Sets setup.plan.controller.mac (address_asked setup.plan) false)

set_left : (setup : Setup) (outcomes : List Outcome) (station : Station) (live : Live)
    → plan_of false (address_asked setup.plan) ≡ suite_items setup
    → CannotStore live ⊎ ((sets setup station outcomes live).live.values.has_failed ≡ true)
    → LeavesIt setup station.identity (sets setup station outcomes live)
unfolding handled_step
set_left setup outcomes station live asks cannot = record {
  because = left.because;
  unstored = left.unstored;
  frames = ap (map (bytes_of station.identity))
      (set_finished station.identity live.rest setup.plan.controller.mac (address_asked setup.plan) settled.answers no_reset).sent
      ∙ ap (λ (a : List BlockError). bytes_of station.identity (SetAnswer setup.plan.controller.mac (address_asked setup.plan) a) ∷ []) left.answers;
}
  where
    settled : Carried
    settled = carried outcomes live.values (plan_of false (address_asked setup.plan))

    either : CannotStore live ⊎ (settled.values.has_failed ≡ true)
        → CannotStore live ⊎ ((carried outcomes live.values (suite_items setup)).values.has_failed ≡ true)
    either (inl can) = inl can
    either (inr fails) = inr (subst (λ (items : List SetItem). (carried outcomes live.values items).values.has_failed ≡ true) asks fails)

    left : IsLeft settled
    left = subst (λ (items : List SetItem). IsLeft (carried outcomes live.values items)) (sym asks) (item_left outcomes setup live (either cannot))

    no_reset : resets (plan_of false (address_asked setup.plan)) settled.answers ≡ false
    no_reset = ap (λ (items : List SetItem). resets items settled.answers) asks
        ∙ ap (λ (a : List BlockError). resets (suite_items setup) a) left.answers

-- a device without a relation that hears the Set does not store the suite
pub unstored_so : (setup : Setup) (identity : Identity) (outcomes : List Outcome) (station : Station) (live : Live) (heard : Heard)
    → heard ≡ own_hears station.identity identity.mac (Asks setup.plan.controller.mac (address_asked setup.plan)) → station.identity ≡ identity
    → IsSized setup.plan.station.suite → is_suite setup.plan.station.suite ≡ true → IsFree setup live
    → CannotStore live ⊎ ((heard_step outcomes station live heard).live.values.has_failed ≡ true)
    → (because : BlockError) × IsUnstored because × ((heard_step outcomes station live heard).frames ≡ unstored_frame setup identity because ∷ [])
unfolding heard_step
unstored_so setup identity outcomes station live heard is same sized valid free cannot =
    (left.because, left.unstored, ap (λ (s : Stepped). s.frames) steps ∙ (left.frames ∙ ap (λ (i : Identity). unstored_frame setup i left.because ∷ []) same))
  where
    asks : Heard
    asks = Asks setup.plan.controller.mac (address_asked setup.plan)

    steps : heard_step outcomes station live heard ≡ sets setup station outcomes live
    steps = ap (λ (h : Heard). heard_step outcomes station live h) (is ∙ own_so station.identity identity.mac asks (ap (λ (i : Identity). i.mac) same))
        ∙ ap (λ (operates : Bool). handled_step outcomes station live (Sets setup.plan.controller.mac (address_asked setup.plan) operates))
        (none_there live.rest.link free.unrelated)

    either : CannotStore live ⊎ ((heard_step outcomes station live heard).live.values.has_failed ≡ true)
        → CannotStore live ⊎ ((sets setup station outcomes live).live.values.has_failed ≡ true)
    either (inl can) = inl can
    either (inr fails) = inr (subst (λ (s : Stepped). s.live.values.has_failed ≡ true) steps fails)

    left : LeavesIt setup station.identity (sets setup station outcomes live)
    left = set_left setup outcomes station live (asks_suite setup.plan.station.suite sized valid) (either cannot)
