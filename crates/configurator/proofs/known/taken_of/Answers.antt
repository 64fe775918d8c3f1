use Rattle.std.proofs.Common.{◌||◌, ◌∙◌, Bool, ap, sym, arith}
use Rattle.std.specs.List.{list_any}
use Rattle.std.specs.BTreeMap.{get_by_text}
use Rattle.std.specs.BTreeSet.{contains}
use Rattle.std.proofs.lemmas.List.{at_drop_all}
use Rattle.configurator.specs.Known.{place_cmp, takes_by}
use Rattle.configurator.proofs.Steps.{or_nothing}
use Rattle.configurator.proofs.known.taken_of.Goals as goal

pub returns : goal.returns
returns c = λ slot n.
    let takes = takes_by (get_by_text c.args.numbers.now) slot n in
    sym (or_nothing (contains place_cmp c.loop-reference.found (slot, n)))
    ∙ ap (λ (b : Bool). contains place_cmp c.loop-reference.found (slot, n) || b) (sym (at_drop_all (list_any takes) c.args.references.now c.loop-reference.reference-index (omega arith)))
    ∙ c.loop-reference.invariant slot n
