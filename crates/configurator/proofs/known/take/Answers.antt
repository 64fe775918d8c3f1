use Rattle.std.proofs.Common.{◌==◌, ◌&&◌, ◌||◌, ◌∙◌, ◌+◌, Bool, ap, sym, drop, get_or, arith}
use Rattle.std.specs.BTreeSet.{contains}
use Rattle.std.proofs.lemmas.List.{at_drop_all, at_drop_more}
use Rattle.configurator.specs.Allowed.{is_in}
use Rattle.configurator.specs.Known.{place_cmp}
use Rattle.configurator.proofs.Steps.{or_none, place_more}
use Rattle.configurator.proofs.known.take.Goals as goal

pub loop-slot-preserved : goal.loop-slot-preserved
loop-slot-preserved c = λ other n.
    let i = c.loop-slot.slot-index in
    place_more c.loop-slot.taken c.insert.new.self (get_or c.args.slots.now i 0) c.args.number c.in_ok-insert.ensures.updates (drop (i + 1) c.args.slots.now) other n
    ∙ ap (λ (b : Bool). contains place_cmp c.loop-slot.taken (other, n) || (c.args.number == n && b)) (sym (at_drop_more (is_in other) c.args.slots.now i 0 c.loop-slot-test.true))
    ∙ c.loop-slot.invariant other n

pub returns : goal.returns
returns c = λ slot n.
    sym (or_none (contains place_cmp c.loop-slot.taken (slot, n)) (c.args.number == n))
    ∙ ap (λ (b : Bool). contains place_cmp c.loop-slot.taken (slot, n) || (c.args.number == n && b)) (sym (at_drop_all (is_in slot) c.args.slots.now c.loop-slot.slot-index (omega arith)))
    ∙ c.loop-slot.invariant slot n
