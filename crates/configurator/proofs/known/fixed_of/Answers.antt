use Rattle.std.proofs.Common.{◌∙◌, ap, sym, arith}
use Rattle.std.specs.Option.{option_or}
use Rattle.std.specs.Ordering.{nat_cmp}
use Rattle.std.specs.BTreeMap.{get, get_by_text}
use Rattle.std.proofs.lemmas.List.{at_drop_all}
use Rattle.configurator.specs.Known.{fixer}
use Rattle.configurator.proofs.Steps.{option_or_nothing}
use Rattle.configurator.proofs.known.fixed_of.Goals as goal

pub returns : goal.returns
returns c = λ slot.
    let number = get_by_text c.args.numbers.now in
    sym (option_or_nothing (get nat_cmp c.loop-reference.found slot))
    ∙ ap (option_or (get nat_cmp c.loop-reference.found slot)) (sym (at_drop_all (fixer number slot) c.args.references.now c.loop-reference.reference-index (omega arith)))
    ∙ c.loop-reference.invariant slot
