use Rattle.std.proofs.Common.{if◌then◌else◌, ◌∙◌, ◌+◌, Bool, Some, None, ap, sym, drop, get_or, arith}
use Rattle.std.specs.Option.{option_or}
use Rattle.std.specs.Ordering.{nat_cmp}
use Rattle.std.specs.BTreeMap.{get}
use Rattle.std.proofs.lemmas.List.{at_drop_all, at_drop_more}
use Rattle.configurator.specs.Allowed.{is_in}
use Rattle.configurator.proofs.Steps.{fix_more, option_or_nothing}
use Rattle.configurator.proofs.known.fix.Goals as goal

pub loop-slot-preserved : goal.loop-slot-preserved
loop-slot-preserved c = λ other.
    let i = c.loop-slot.slot-index in
    fix_more (get nat_cmp c.loop-slot.fixed other) (get nat_cmp c.fix_in.new.fixed other) c.args.number (get_or c.args.slots.now i 0) other (drop (i + 1) c.args.slots.now) (c.in_ok-fix_in.ensures other)
    ∙ ap (λ (b : Bool). option_or (get nat_cmp c.loop-slot.fixed other) (if b then Some c.args.number else None)) (sym (at_drop_more (is_in other) c.args.slots.now i 0 c.loop-slot-test.true))
    ∙ c.loop-slot.invariant other

pub returns : goal.returns
returns c = λ slot.
    sym (option_or_nothing (get nat_cmp c.loop-slot.fixed slot))
    ∙ ap (λ (b : Bool). option_or (get nat_cmp c.loop-slot.fixed slot) (if b then Some c.args.number else None)) (sym (at_drop_all (is_in slot) c.args.slots.now c.loop-slot.slot-index (omega arith)))
    ∙ c.loop-slot.invariant slot
