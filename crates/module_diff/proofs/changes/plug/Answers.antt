-- There is room, since it can be plugged; it goes into the module at the index of the slot, or into one of its own.
use Rattle.std.proofs.Common.{◌≡◌, ℕ, Bool, true, false, List, Option, Some, None, is_some, unwrap_or, refl, sym, ◌∙◌, ap, subst, arith}
use Rattle.std.specs.Prelude.{slice_get, slice_set}
use Rattle.std.specs.List.{position_or_len}
use Rattle.pn_values.specs.declared.real.RealModule.{RealModule}
use Rattle.module_diff.specs.Changes.{is_in_slot}
use Rattle.module_diff.proofs.ChangedLists.{at_index, past_end}
use Rattle.module_diff.proofs.ChangedModules.{holding, module_plugged, part_plugged, place_of, room_for_module, room_for_part}
use Rattle.module_diff.proofs.changes.plug.Goals as goal

pub add_part-requires : goal.add_part-requires
add_part-requires c =
    let can = sym c.can_plug.ensures ∙ c.if-not-can_plug.false in
    let place = c.module_place-place.ensures ∙ ap (λ (xs : List RealModule). position_or_len (is_in_slot c.args.slot) xs) c.as_slice.ensures.value in
    let found : slice_get c.args.real.now.modules.items (place_of c.args.slot c.args.real.now.modules.items) ≡ Some c.in-Some.entry.now =
    subst (λ (k : ℕ). slice_get c.args.real.now.modules.items k ≡ Some c.in-Some.entry.now) place
    (at_index c.args.real.now.modules.items c.module_place-place.result c.in-Some.entry.now (c.in-Some.ensures.variant.0 refl) c.in-Some.ensures.value) in
    room_for_part c.args.slot c.args.module_ident c.args.submodule.now c.args.real.now.modules.items can c.in-Some.entry.now found

pub add_module-requires : goal.add_module-requires
add_module-requires c =
    let can = sym c.can_plug.ensures ∙ c.if-not-can_plug.false in
    let place = c.module_place-place.ensures ∙ ap (λ (xs : List RealModule). position_or_len (is_in_slot c.args.slot) xs) c.as_slice.ensures.value in
    let none : slice_get c.args.real.now.modules.items (place_of c.args.slot c.args.real.now.modules.items) ≡ None =
    subst (λ (k : ℕ). slice_get c.args.real.now.modules.items k ≡ None) place
    (past_end c.args.real.now.modules.items c.module_place-place.result (grind (arith, c.in-None.ensures.variant))) in
    room_for_module c.args.slot c.args.module_ident c.args.submodule.now c.args.real.now.modules.items can none

pub returns-in-Some-clause-state : goal.returns-in-Some-clause-state
returns-in-Some-clause-state c =
    let can = sym c.can_plug.ensures ∙ c.if-not-can_plug.false in
    let place = c.module_place-place.ensures ∙ ap (λ (xs : List RealModule). position_or_len (is_in_slot c.args.slot) xs) c.as_slice.ensures.value in
    let found : slice_get c.args.real.now.modules.items (place_of c.args.slot c.args.real.now.modules.items) ≡ Some c.in-Some.entry.now =
    subst (λ (k : ℕ). slice_get c.args.real.now.modules.items k ≡ Some c.in-Some.entry.now) place
    (at_index c.args.real.now.modules.items c.module_place-place.result c.in-Some.entry.now (c.in-Some.ensures.variant.0 refl) c.in-Some.ensures.value) in
    ap (λ (k : ℕ). slice_set c.args.real.now.modules.items k (holding c.in-Some.entry.now c.add_part.new.parts)) place
    ∙ part_plugged c.args.slot c.args.module_ident c.args.submodule.now c.args.real.now.modules.items can c.in-Some.entry.now found c.add_part.new.parts c.add_part.ensures

pub returns-in-None-clause-state : goal.returns-in-None-clause-state
returns-in-None-clause-state c =
    let can = sym c.can_plug.ensures ∙ c.if-not-can_plug.false in
    let place = c.module_place-place.ensures ∙ ap (λ (xs : List RealModule). position_or_len (is_in_slot c.args.slot) xs) c.as_slice.ensures.value in
    let none : slice_get c.args.real.now.modules.items (place_of c.args.slot c.args.real.now.modules.items) ≡ None =
    subst (λ (k : ℕ). slice_get c.args.real.now.modules.items k ≡ None) place
    (past_end c.args.real.now.modules.items c.module_place-place.result (grind (arith, c.in-None.ensures.variant))) in
    c.add_module.ensures ∙ module_plugged c.args.slot c.args.module_ident c.args.submodule.now c.args.real.now.modules.items can none
