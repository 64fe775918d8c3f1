-- The faults of a whole catalogue.
use Rattle.std.proofs.Common.{◌≡◌, ◌∙◌, ◌&&◌, refl, ℕ, List, Result, IfOk, IfErr, inr, ap, sym, subst, Bool, true, false, Ok, Err, if◌then◌else◌, not}
use Rattle.std.specs.List.{list_all}
use Rattle.plans.specs.declared.parts.Parts.{Parts}
use Rattle.plans.specs.declared.plan.TooLong.{TooLong}
use Rattle.plans.specs.declared.plan.TooLong.TheVariants.{Frame, Connect}
use Rattle.plans.specs.Connect.{does_connect_fit}
use Rattle.plans.specs.Plan.{do_frames_fit, plan_of}
use Rattle.catalogue.specs.Catalogues.{Catalogue, Found}
use Rattle.configurator.specs.declared.addresses.Addresses.{Addresses}
use Rattle.configurator.specs.declared.fault.PlanFault.{PlanFault}
use Rattle.configurator.specs.Addresses.{AreAddresses, AreNamed}
use Rattle.configurator.specs.Allowed.{are_allowed}
use Rattle.configurator.specs.Few.{are_few, are_low, are_records_few, are_slots_low, is_small_if}
use Rattle.configurator.specs.Fault.{of_length}
use Rattle.configurator.specs.Standing.{all_slots, stands_in}
use Rattle.configurator.specs.Planned.{ArePartsOf, IsAddressed, IsPlanOf, IsRefused, Handled, parts_of}

abbrev pub addressed_with : (found : Catalogue) (addresses : Addresses) → AreNamed found.project → AreAddresses found.project addresses → IsAddressed found
addressed_with found addresses named addressed = record { named = named; addresses = addresses; addressed = addressed }

pub made_with : (found : Catalogue) (addresses : Addresses) (parts : Parts) → AreNamed found.project → AreAddresses found.project addresses → are_allowed found ≡ true
    → are_few found ≡ true → parts ≡ parts_of found addresses → ArePartsOf found parts
made_with found addresses parts named valid allowed few made = record { addressed = addressed_with found addresses named valid; allowed = allowed; few = few; made = made }

same_of : (frames connect : Bool) (parts plan : Parts) → (if not frames then Err Frame else if not connect then Err Connect else Ok parts) ≡ Ok plan → parts ≡ plan
same_of true true parts plan e = cc
same_of true false parts plan e = absurd cc
same_of false connect parts plan e = absurd cc

-- a plan of these parts
pub handled_plan : (found : Catalogue) (parts plan : Parts) → ArePartsOf found parts → plan_of parts ≡ Ok plan → Handled found (Ok plan)
handled_plan found parts plan made e =
    let same = same_of (do_frames_fit parts) (does_connect_fit parts) parts plan e in
    subst (λ (p : Parts). ArePartsOf found p × (plan_of p ≡ Ok p)) same (made, (e ∙ ap Ok (sym same)))

-- parts that are too long
pub handled_long : (found : Catalogue) (parts : Parts) (fault : TooLong) → ArePartsOf found parts → plan_of parts ≡ Err fault → Handled found (Err (of_length fault))
handled_long found parts Frame made e = (parts, made, e)
handled_long found parts Connect made e = (parts, made, e)

-- what is returned for a text, if the result of its catalogue is known
pub planned : (text : List ℕ) (found : Catalogue) (result : Result Parts PlanFault) → Found text found → Handled found result → IfOk result (IsPlanOf text)
planned text found (Ok parts) is_found handled = (found, is_found, handled)
planned text found (Err fault) is_found handled = tt

pub refused : (text : List ℕ) (found : Catalogue) (result : Result Parts PlanFault) → Found text found → Handled found result → IfErr result (IsRefused text)
refused text found (Ok parts) is_found handled = tt
refused text found (Err fault) is_found handled = inr (found, is_found, handled)

-- ---- the limits

four : (a b c d : Bool) → (a && b && c && d) ≡ true → (a ≡ true) × (b ≡ true) × (c ≡ true) × (d ≡ true)
four true true true true e = (refl, refl, refl, refl)
four true true true false e = absurd cc
four true true false d e = absurd cc
four true false c d e = absurd cc
four false b c d e = absurd cc

few_parts : (found : Catalogue) → are_few found ≡ true
    → (are_slots_low found.project.slots ≡ true) × (list_all (λ entry. are_low entry.fixed_in) found.access_point.references ≡ true)
    × (list_all (λ slot. is_small_if (stands_in found slot)) all_slots ≡ true) × (are_records_few found.project.slots ≡ true)
unfolding are_few
few_parts found e =
    four (are_slots_low found.project.slots) (list_all (λ entry. are_low entry.fixed_in) found.access_point.references)
    (list_all (λ slot. is_small_if (stands_in found slot)) all_slots) (are_records_few found.project.slots) e

pub low_slots : (found : Catalogue) → are_few found ≡ true → are_slots_low found.project.slots ≡ true
low_slots found e = (few_parts found e).0

pub small_slots : (found : Catalogue) → are_few found ≡ true → list_all (λ slot. is_small_if (stands_in found slot)) all_slots ≡ true
small_slots found e = (few_parts found e).2

pub few_records : (found : Catalogue) → are_few found ≡ true → are_records_few found.project.slots ≡ true
few_records found e = (few_parts found e).3
