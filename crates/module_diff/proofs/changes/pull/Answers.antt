-- The module at the index of the slot loses the submodule.
use Rattle.std.proofs.Common.{◌≡◌, ℕ, Bool, true, false, List, Option, Some, None, is_some, unwrap_or, refl, sym, ◌∙◌, ap, subst, arith}
use Rattle.std.specs.Prelude.{slice_get, slice_set}
use Rattle.std.specs.List.{position_or_len}
use Rattle.pn_values.specs.declared.real.RealModule.{RealModule}
use Rattle.module_diff.specs.Changes.{is_in_slot}
use Rattle.module_diff.proofs.ChangedLists.{at_index, past_end}
use Rattle.module_diff.proofs.ChangedModules.{holding, is_pulled, left_plugged, nothing_pulled, place_of}
use Rattle.module_diff.proofs.changes.pull.Goals as goal

pub returns-in-Some-clause-done : goal.returns-in-Some-clause-done
returns-in-Some-clause-done c =
    let place = c.module_place-place.ensures ∙ ap (λ (xs : List RealModule). position_or_len (is_in_slot c.args.slot) xs) c.as_slice.ensures.value in
    let found : slice_get c.args.real.now.modules.items (place_of c.args.slot c.args.real.now.modules.items) ≡ Some c.in-Some.entry.now =
    subst (λ (k : ℕ). slice_get c.args.real.now.modules.items k ≡ Some c.in-Some.entry.now) place
    (at_index c.args.real.now.modules.items c.module_place-place.result c.in-Some.entry.now (c.in-Some.ensures.variant.0 refl) c.in-Some.ensures.value) in
    c.pull_part.ensures.done ∙ is_pulled c.args.slot c.args.subslot c.args.real.now.modules.items c.in-Some.entry.now found

pub returns-in-Some-clause-state : goal.returns-in-Some-clause-state
returns-in-Some-clause-state c =
    let place = c.module_place-place.ensures ∙ ap (λ (xs : List RealModule). position_or_len (is_in_slot c.args.slot) xs) c.as_slice.ensures.value in
    let found : slice_get c.args.real.now.modules.items (place_of c.args.slot c.args.real.now.modules.items) ≡ Some c.in-Some.entry.now =
    subst (λ (k : ℕ). slice_get c.args.real.now.modules.items k ≡ Some c.in-Some.entry.now) place
    (at_index c.args.real.now.modules.items c.module_place-place.result c.in-Some.entry.now (c.in-Some.ensures.variant.0 refl) c.in-Some.ensures.value) in
    ap (λ (k : ℕ). slice_set c.args.real.now.modules.items k (holding c.in-Some.entry.now c.pull_part.new.parts)) place
    ∙ left_plugged c.args.slot c.args.subslot c.args.real.now.modules.items c.in-Some.entry.now found c.pull_part.new.parts c.pull_part.ensures.state

pub returns-in-None-clause-done : goal.returns-in-None-clause-done
returns-in-None-clause-done c =
    let place = c.module_place-place.ensures ∙ ap (λ (xs : List RealModule). position_or_len (is_in_slot c.args.slot) xs) c.as_slice.ensures.value in
    let none : slice_get c.args.real.now.modules.items (place_of c.args.slot c.args.real.now.modules.items) ≡ None =
    subst (λ (k : ℕ). slice_get c.args.real.now.modules.items k ≡ None) place
    (past_end c.args.real.now.modules.items c.module_place-place.result (grind (arith, c.in-None.ensures.variant))) in
    sym (ap (λ (o : Option (List RealModule)). is_some o) (nothing_pulled c.args.slot c.args.subslot c.args.real.now.modules.items none))

pub returns-in-None-clause-state : goal.returns-in-None-clause-state
returns-in-None-clause-state c =
    let place = c.module_place-place.ensures ∙ ap (λ (xs : List RealModule). position_or_len (is_in_slot c.args.slot) xs) c.as_slice.ensures.value in
    let none : slice_get c.args.real.now.modules.items (place_of c.args.slot c.args.real.now.modules.items) ≡ None =
    subst (λ (k : ℕ). slice_get c.args.real.now.modules.items k ≡ None) place
    (past_end c.args.real.now.modules.items c.module_place-place.result (grind (arith, c.in-None.ensures.variant))) in
    sym (ap (λ (o : Option (List RealModule)). unwrap_or o c.args.real.now.modules.items)
    (nothing_pulled c.args.slot c.args.subslot c.args.real.now.modules.items none))
