-- One check after the other.
use Rattle.std.proofs.Common.{List, sym, subst}
use Rattle.std.proofs.lemmas.Result.{err_from_is_err_and}
use Rattle.cyclic_data.specs.declared.place.Place.{Place}
use Rattle.cyclic_data.specs.declared.fault.LayoutFault.TheVariants.{Overlap, Unknown, Missing}
use Rattle.cyclic_data.specs.Layout.{AreAllApart, DoMeet, IsTable}
use Rattle.cyclic_data.proofs.Checked.{all, items_are, outside_left, outside_right, inside_both, inside_frame, unknown_of, missing_of, kept_items, first_outside, first_unknown, first_missing, is_layout, is_table, refuted}
use Rattle.cyclic_data.proofs.Overlap.{not_outside}
use Rattle.cyclic_data.proofs.layout.Layout.check.Goals as goal

pub returns-in_err-place_all-clause-fault : goal.returns-in_err-place_all-clause-fault
returns-in_err-place_all-clause-fault c =
    let p = err_from_is_err_and c.from_residual.result c.from_residual.ensures.1 in
    let e = c.in_err-place_all.ensures.err in
    rw (p.1, p.2) (first_outside c.in_err-place_all.field-0.0 c.args.data_length c.args.direction c.args.expected.now
    (all c.args.data_length c.args.direction c.args.expected.now c.requires.few c.args.objects.now c.args.iocs.now) e.0
    (outside_left c.args.data_length c.args.direction c.args.expected.now c.requires.few c.args.objects.now c.args.iocs.now e.1))

pub returns-in_err-place_all-clause-only : goal.returns-in_err-place_all-clause-only
returns-in_err-place_all-clause-only c = λ layout.
    absurd (not_outside c.args.data_length _ layout.inside
    (outside_left c.args.data_length c.args.direction c.args.expected.now c.requires.few c.args.objects.now c.args.iocs.now c.in_err-place_all.ensures.err.1))

pub returns-in_err-place_all-2-clause-fault : goal.returns-in_err-place_all-2-clause-fault
returns-in_err-place_all-2-clause-fault c =
    let p = err_from_is_err_and c.from_residual-in_err-place_all-2.result c.from_residual-in_err-place_all-2.ensures.1 in
    let e = c.in_err-place_all-2.ensures.err in
    rw (p.1, p.2) (first_outside c.in_err-place_all-2.field-0.0 c.args.data_length c.args.direction c.args.expected.now
    (all c.args.data_length c.args.direction c.args.expected.now c.requires.few c.args.objects.now c.args.iocs.now) e.0
    (outside_right c.args.data_length c.args.direction c.args.expected.now c.requires.few c.args.objects.now c.args.iocs.now e.1))

pub returns-in_err-place_all-2-clause-only : goal.returns-in_err-place_all-2-clause-only
returns-in_err-place_all-2-clause-only c = λ layout.
    absurd (not_outside c.args.data_length _ layout.inside
    (outside_right c.args.data_length c.args.direction c.args.expected.now c.requires.few c.args.objects.now c.args.iocs.now c.in_err-place_all-2.ensures.err.1))

pub has_overlap-requires : goal.has_overlap-requires
has_overlap-requires c =
    let is = items_are c.args.data_length c.args.direction c.args.expected.now c.requires.few c.args.objects.now c.args.iocs.now _ _ _ _ c.new-places.ensures c.in_ok-place_all.ensures.items c.in_ok-place_all-2.ensures.items c.as_slice.ensures.value in
    let inside = inside_both c.args.data_length c.args.direction c.args.expected.now c.requires.few c.args.objects.now c.args.iocs.now c.in_ok-place_all.ensures.inside c.in_ok-place_all-2.ensures.inside in
    inside_frame c.args.data_length c.args.direction c.args.expected.now c.requires.few c.args.objects.now c.args.iocs.now _ is c.requires.short inside

pub returns-then-has_overlap-clause-fault : goal.returns-then-has_overlap-clause-fault
returns-then-has_overlap-clause-fault c =
    let is = items_are c.args.data_length c.args.direction c.args.expected.now c.requires.few c.args.objects.now c.args.iocs.now _ _ _ _ c.new-places.ensures c.in_ok-place_all.ensures.items c.in_ok-place_all-2.ensures.items c.as_slice.ensures.value in
    let inside = inside_both c.args.data_length c.args.direction c.args.expected.now c.requires.few c.args.objects.now c.args.iocs.now c.in_ok-place_all.ensures.inside c.in_ok-place_all-2.ensures.inside in
    (inside, subst (λ (ps : List Place). DoMeet ps) is c.if-has_overlap.ensures)

pub returns-then-has_overlap-clause-only : goal.returns-then-has_overlap-clause-only
returns-then-has_overlap-clause-only c = λ layout.
    absurd (refuted Overlap c.args.data_length c.args.direction c.args.expected.now _ (returns-then-has_overlap-clause-fault c) layout)

pub returns-then-has_unknown-clause-fault : goal.returns-then-has_unknown-clause-fault
returns-then-has_unknown-clause-fault c =
    let is = items_are c.args.data_length c.args.direction c.args.expected.now c.requires.few c.args.objects.now c.args.iocs.now _ _ _ _ c.new-places.ensures c.in_ok-place_all.ensures.items c.in_ok-place_all-2.ensures.items c.as_slice.ensures.value in
    let is' = items_are c.args.data_length c.args.direction c.args.expected.now c.requires.few c.args.objects.now c.args.iocs.now _ _ _ _ c.new-places.ensures c.in_ok-place_all.ensures.items c.in_ok-place_all-2.ensures.items c.as_slice-2.ensures.value in
    let inside = inside_both c.args.data_length c.args.direction c.args.expected.now c.requires.few c.args.objects.now c.args.iocs.now c.in_ok-place_all.ensures.inside c.in_ok-place_all-2.ensures.inside in
    let apart = subst (λ (ps : List Place). AreAllApart ps) is c.if-has_overlap.ensures in
    first_unknown c.args.data_length c.args.direction c.args.expected.now c.requires.few c.args.objects.now c.args.iocs.now inside apart
    (unknown_of c.args.data_length c.args.direction c.args.expected.now c.requires.few c.args.objects.now c.args.iocs.now _ _ is' c.if-has_unknown.ensures.value)

pub returns-then-has_unknown-clause-only : goal.returns-then-has_unknown-clause-only
returns-then-has_unknown-clause-only c = λ layout.
    absurd (refuted Unknown c.args.data_length c.args.direction c.args.expected.now _ (returns-then-has_unknown-clause-fault c) layout)

pub returns-then-has_missing-clause-fault : goal.returns-then-has_missing-clause-fault
returns-then-has_missing-clause-fault c =
    let is = items_are c.args.data_length c.args.direction c.args.expected.now c.requires.few c.args.objects.now c.args.iocs.now _ _ _ _ c.new-places.ensures c.in_ok-place_all.ensures.items c.in_ok-place_all-2.ensures.items c.as_slice.ensures.value in
    let is' = items_are c.args.data_length c.args.direction c.args.expected.now c.requires.few c.args.objects.now c.args.iocs.now _ _ _ _ c.new-places.ensures c.in_ok-place_all.ensures.items c.in_ok-place_all-2.ensures.items c.as_slice-2.ensures.value in
    let inside = inside_both c.args.data_length c.args.direction c.args.expected.now c.requires.few c.args.objects.now c.args.iocs.now c.in_ok-place_all.ensures.inside c.in_ok-place_all-2.ensures.inside in
    let apart = subst (λ (ps : List Place). AreAllApart ps) is c.if-has_overlap.ensures in
    first_missing c.args.data_length c.args.direction c.args.expected.now c.requires.few c.args.objects.now c.args.iocs.now inside apart
    (unknown_of c.args.data_length c.args.direction c.args.expected.now c.requires.few c.args.objects.now c.args.iocs.now _ _ is' c.if-has_unknown.ensures.value)
    (missing_of c.args.data_length c.args.direction c.args.expected.now c.requires.few c.args.objects.now c.args.iocs.now _ _ _ is' c.if-has_unknown.ensures.seen c.if-has_missing.ensures)

pub returns-then-has_missing-clause-only : goal.returns-then-has_missing-clause-only
returns-then-has_missing-clause-only c = λ layout.
    absurd (refuted Missing c.args.data_length c.args.direction c.args.expected.now _ (returns-then-has_missing-clause-fault c) layout)

pub returns-clause-valid : goal.returns-clause-valid
returns-clause-valid c =
    let is = items_are c.args.data_length c.args.direction c.args.expected.now c.requires.few c.args.objects.now c.args.iocs.now _ _ _ _ c.new-places.ensures c.in_ok-place_all.ensures.items c.in_ok-place_all-2.ensures.items c.as_slice.ensures.value in
    let is' = items_are c.args.data_length c.args.direction c.args.expected.now c.requires.few c.args.objects.now c.args.iocs.now _ _ _ _ c.new-places.ensures c.in_ok-place_all.ensures.items c.in_ok-place_all-2.ensures.items c.as_slice-2.ensures.value in
    let inside = inside_both c.args.data_length c.args.direction c.args.expected.now c.requires.few c.args.objects.now c.args.iocs.now c.in_ok-place_all.ensures.inside c.in_ok-place_all-2.ensures.inside in
    let apart = subst (λ (ps : List Place). AreAllApart ps) is c.if-has_overlap.ensures in
    is_layout c.args.data_length c.args.direction c.args.expected.now c.requires.few c.args.objects.now c.args.iocs.now inside apart
    (unknown_of c.args.data_length c.args.direction c.args.expected.now c.requires.few c.args.objects.now c.args.iocs.now _ _ is' c.if-has_unknown.ensures.value)
    (missing_of c.args.data_length c.args.direction c.args.expected.now c.requires.few c.args.objects.now c.args.iocs.now _ _ _ is' c.if-has_unknown.ensures.seen c.if-has_missing.ensures)

pub invariant_of-result : goal.invariant_of-result
invariant_of-result c =
    let is = items_are c.args.data_length c.args.direction c.args.expected.now c.requires.few c.args.objects.now c.args.iocs.now _ _ _ _ c.new-places.ensures c.in_ok-place_all.ensures.items c.in_ok-place_all-2.ensures.items c.as_slice.ensures.value in
    let is' = items_are c.args.data_length c.args.direction c.args.expected.now c.requires.few c.args.objects.now c.args.iocs.now _ _ _ _ c.new-places.ensures c.in_ok-place_all.ensures.items c.in_ok-place_all-2.ensures.items c.as_slice-2.ensures.value in
    let is'' = items_are c.args.data_length c.args.direction c.args.expected.now c.requires.few c.args.objects.now c.args.iocs.now _ _ _ _ c.new-places.ensures c.in_ok-place_all.ensures.items c.in_ok-place_all-2.ensures.items c.as_slice-3.ensures.value in
    let inside = inside_both c.args.data_length c.args.direction c.args.expected.now c.requires.few c.args.objects.now c.args.iocs.now c.in_ok-place_all.ensures.inside c.in_ok-place_all-2.ensures.inside in
    let apart = subst (λ (ps : List Place). AreAllApart ps) is c.if-has_overlap.ensures in
    let known = unknown_of c.args.data_length c.args.direction c.args.expected.now c.requires.few c.args.objects.now c.args.iocs.now _ _ is' c.if-has_unknown.ensures.value in
    let kept = kept_items c.args.data_length c.args.direction c.args.expected.now c.requires.few c.args.objects.now c.args.iocs.now c.try_extend_from_slice.result _ _ _ is'' known c.new-kept.ensures c.try_extend_from_slice.ensures.variant.1 c.try_extend_from_slice.ensures.ok in
    subst (λ (ps : List Place). IsTable c.args.data_length ps) (sym kept)
    (is_table c.args.data_length c.args.direction c.args.expected.now c.requires.few c.args.objects.now c.args.iocs.now inside apart c.requires.short known)

pub returns-clause-value : goal.returns-clause-value
returns-clause-value c =
    let is' = items_are c.args.data_length c.args.direction c.args.expected.now c.requires.few c.args.objects.now c.args.iocs.now _ _ _ _ c.new-places.ensures c.in_ok-place_all.ensures.items c.in_ok-place_all-2.ensures.items c.as_slice-2.ensures.value in
    let is'' = items_are c.args.data_length c.args.direction c.args.expected.now c.requires.few c.args.objects.now c.args.iocs.now _ _ _ _ c.new-places.ensures c.in_ok-place_all.ensures.items c.in_ok-place_all-2.ensures.items c.as_slice-3.ensures.value in
    let known = unknown_of c.args.data_length c.args.direction c.args.expected.now c.requires.few c.args.objects.now c.args.iocs.now _ _ is' c.if-has_unknown.ensures.value in
    let kept = kept_items c.args.data_length c.args.direction c.args.expected.now c.requires.few c.args.objects.now c.args.iocs.now c.try_extend_from_slice.result _ _ _ is'' known c.new-kept.ensures c.try_extend_from_slice.ensures.variant.1 c.try_extend_from_slice.ensures.ok in
    cc
