use Rattle.std.proofs.Common.{◌≡◌, ◌∙◌, refl, sym, ap, false, cond, Some, ◌==◌}
use Rattle.catalogue.proofs.Places.{length_behind}
use Rattle.catalogue.specs.Submodules.{has_index, parameter}
use Rattle.catalogue.proofs.parameters.parameter_of.Goals as goal

-- no record before has the index
pub returns-clause-read : goal.returns-clause-read
unfolding parameter
returns-clause-read c =
    let new : has_index c.in_ok-index.index c.args.before.now ≡ false = sym c.has_index-repeats.ensures ∙ c.if-repeats.false in
    rw c.in_ok-index.ensures (rw new (rw c.in_ok-length.ensures refl))

-- and the map has the length at it
pub returns-clause-lengths : goal.returns-clause-lengths
returns-clause-lengths c = λ index.
    let new : has_index c.in_ok-index.index c.args.before.now ≡ false = sym c.has_index-repeats.ensures ∙ c.if-repeats.false in
    c.in_ok-put_length.ensures index
    ∙ ap (cond (c.in_ok-index.index == index) (Some c.in_ok-length.length)) (c.requires index)
    ∙ sym (length_behind c.args.before.now _ index new)
