use Rattle.std.proofs.Common.{◌≡◌, ◌∙◌, refl, sym, ap, false, cond, Some, length, ◌==◌}
use Rattle.catalogue.proofs.Places.{subslot_behind}
use Rattle.catalogue.specs.Submodules.{has_subslot, submodule}
use Rattle.catalogue.proofs.submodules.submodule_of.Goals as goal

-- no submodule before has the subslot
pub returns-clause-read : goal.returns-clause-read
unfolding submodule
returns-clause-read c =
    let new : has_subslot c.in_ok-subslot.subslot c.args.before.now ≡ false = sym c.has_subslot-repeats.ensures ∙ c.if-repeats.false in
    rw c.in_ok-subslot.ensures (rw new (rw c.in_ok-ident.ensures (rw c.in_ok-input.ensures (rw c.in_ok-parameters.ensures refl))))

-- and the submodule is at the place after the others
pub returns-clause-places : goal.returns-clause-places
returns-clause-places c = λ subslot.
    let new : has_subslot c.in_ok-subslot.subslot c.args.before.now ≡ false = sym c.has_subslot-repeats.ensures ∙ c.if-repeats.false in
    c.in_ok-put_place.ensures subslot
    ∙ ap (cond (c.in_ok-subslot.subslot == subslot) (Some (length c.args.before.now))) (c.requires subslot)
    ∙ sym (subslot_behind c.args.before.now _ subslot new)
