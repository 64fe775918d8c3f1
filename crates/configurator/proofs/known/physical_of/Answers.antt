use Rattle.std.proofs.Common.{◌||◌, ◌∙◌, ◌+◌, Bool, ap, sym, drop, get_or, arith}
use Rattle.std.specs.Ordering.{nat_cmp}
use Rattle.std.specs.BTreeSet.{contains}
use Rattle.std.proofs.lemmas.List.{at_drop_all, at_drop_more}
use Rattle.configurator.specs.Allowed.{is_in}
use Rattle.configurator.proofs.Steps.{or_nothing, slot_more}
use Rattle.configurator.proofs.known.physical_of.Goals as goal

pub loop-slot-preserved : goal.loop-slot-preserved
loop-slot-preserved c = λ other.
    let i = c.loop-slot.slot-index in
    slot_more c.loop-slot.found c.insert.new.self (get_or c.args.slots.now i 0) c.in_ok-insert.ensures.updates (drop (i + 1) c.args.slots.now) other
    ∙ ap (λ (b : Bool). contains nat_cmp c.loop-slot.found other || b) (sym (at_drop_more (is_in other) c.args.slots.now i 0 c.loop-slot-test.true))
    ∙ c.loop-slot.invariant other

pub returns : goal.returns
returns c = λ slot.
    sym (or_nothing (contains nat_cmp c.loop-slot.found slot))
    ∙ ap (λ (b : Bool). contains nat_cmp c.loop-slot.found slot || b) (sym (at_drop_all (is_in slot) c.args.slots.now c.loop-slot.slot-index (omega arith)))
    ∙ c.loop-slot.invariant slot
