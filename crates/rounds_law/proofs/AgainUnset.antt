-- What a device does with a Set of the IP suite while it has a relation.
use Rattle.std.proofs.Common.{◌≡◌, ◌==◌, ℕ, suc, Bool, true, false, List, [], ◌∷◌, length, Some, is_some, refl, sym, ap, subst, ◌∙◌}
use Rattle.std.specs.Prelude.{if◌then◌else◌}
use Rattle.std.proofs.lemmas.Cmp.{nat_list_eq_equiv}
use Rattle.pn_values.specs.IpSuite.{Suite, is_suite}
use Rattle.pn_values.specs.declared.command.Command.TheVariants.{SetIp}
use Rattle.pn_values.specs.declared.identity.Identity.{Identity}
use Rattle.pn_values.specs.declared.set_item.BlockError.TheVariants as error
use Rattle.pn_values.specs.declared.set_item.SetItem.{SetItem}
use Rattle.pn_values.specs.declared.set_item.SetItem.TheVariants.{Answer}
use Rattle.settings_journal.specs.settings_store.Machine.{Outcome}
use Rattle.dcp_core.specs.Identify.{suite_bytes}
use Rattle.dcp_core.specs.Set.{handled, plan_of, suite_in}
use Rattle.relations.specs.RelationState.{RelationState}
use Rattle.device_frames.specs.Heard.{Asks, Elsewhere, Heard}
use Rattle.device_core.specs.State.{Live, Station}
use Rattle.device_core.specs.Handled.{Sets}
use Rattle.device_core.specs.Machine.{Stepped, handled_step, heard_step}
use Rattle.controller_messages.specs.declared.setup.Setup.{Setup}
use Rattle.controller_messages.specs.Requests.{address_asked}
use Rattle.end_laws.specs.hearing.Hearing.{own_hears}
use Rattle.rounds_law.specs.Path.{IsSized}
use Rattle.rounds_law.specs.Again.{unset_frame}
use Rattle.rounds_law.proofs.SearchingSizes.{suite_asked, suite_length, suite_read}
use Rattle.rounds_law.proofs.Choices.{where_both}

-- the one block of a Set of a valid suite is refused while a relation exists
pub asks_unset : (suite : Suite) → IsSized suite → is_suite suite ≡ true → plan_of true (suite_asked suite) ≡ Answer error.InOperation ∷ []
unfolding plan_of
asks_unset suite sized valid =
    ap (λ (item : SetItem). item ∷ [])
    (where_both (length (0 ∷ 0 ∷ suite_bytes suite) == 14) (is_suite (suite_in (suite_bytes suite)))
    (handled true (SetIp false (suite_in (suite_bytes suite)))) (Answer error.Value)
    (ap (λ (n : ℕ). suc (suc n) == 14) (suite_length suite sized)) (ap is_suite (suite_read suite sized) ∙ valid))

-- nothing changes, and this is sent
abbrev Refuses : Setup → Identity → Live → Stepped → Type 0
Refuses setup identity live step = (step.frames ≡ unset_frame setup identity ∷ []) × (step.live ≡ live)

unset_step : (outcomes : List Outcome) (setup : Setup) (station : Station) (live : Live)
    → plan_of true (address_asked setup.plan) ≡ Answer error.InOperation ∷ []
    → Refuses setup station.identity live (handled_step outcomes station live (Sets setup.plan.controller.mac (address_asked setup.plan) true))
unfolding handled_step
unset_step outcomes setup station live asks = rw asks (refl, refl)

-- what it hears of a request to itself
pub own_asked : (identity : Identity) (heard : Heard) → own_hears identity identity.mac heard ≡ heard
own_asked identity heard = ap (λ (b : Bool). if b then heard else Elsewhere) (nat_list_eq_equiv.refl identity.mac.octets)

pub unset_so : (setup : Setup) (identity : Identity) (outcomes : List Outcome) (station : Station) (live : Live) (link : RelationState) (heard : Heard)
    → heard ≡ Asks setup.plan.controller.mac (address_asked setup.plan) → station.identity ≡ identity
    → IsSized setup.plan.station.suite → is_suite setup.plan.station.suite ≡ true
    → live.rest.link ≡ Some link → Refuses setup identity live (heard_step outcomes station live heard)
unfolding heard_step
unset_so setup identity outcomes station live link heard is same sized valid has =
    subst (λ (i : Identity). Refuses setup i live (heard_step outcomes station live heard)) same
    (subst (λ (h : Heard). Refuses setup station.identity live (heard_step outcomes station live h)) (sym is)
    (subst (λ (operates : Bool). Refuses setup station.identity live
    (handled_step outcomes station live (Sets setup.plan.controller.mac (address_asked setup.plan) operates)))
    (sym (ap is_some has)) (unset_step outcomes setup station live (asks_unset setup.plan.station.suite sized valid))))
