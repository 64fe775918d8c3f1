-- The rest is looked at from its first record.
use Rattle.std.proofs.Common.{◌≡◌, ◌-◌, ◌+◌, Some, sym, ap, ◌∙◌, arith}
use Rattle.records.specs.writes.Entry.{Entry}
use Rattle.records.specs.writes.Several.{entry_of, is_list}
use Rattle.records.proofs.Several.{broken_is, empty_is, full_is, more_is}
use Rattle.records.proofs.writes.entries.is_list.Goals as goal

pub returns-then-is_empty : goal.returns-then-is_empty
returns-then-is_empty c = sym (empty_is (16 - c.loop.counter) c.loop.rest.now (sym c.is_empty.ensures ∙ c.if-is_empty.true)) ∙ c.loop.invariant

pub returns-in-None : goal.returns-in-None
returns-in-None c =
    sym (broken_is (16 - c.loop.counter) c.loop.rest.now (sym c.is_empty.ensures ∙ c.if-is_empty.false) (sym c.in-None.ensures)) ∙ c.loop.invariant

pub loop-preserved : goal.loop-preserved
loop-preserved c =
    let entry : Entry = (c.in-Some._entry.request, c.in-Some._entry.octets.now) in
    let e : entry_of c.loop.rest.now ≡ Some (entry, c.in-Some.behind.now) = rw (c.in-Some._entry-is, c.in-Some.behind-is) (sym c.in-Some.ensures) in
    sym (more_is (16 - c.loop.counter) (16 - (c.loop.counter + 1)) c.loop.rest.now entry c.in-Some.behind.now (omega (arith, c.loop-test.true)) (sym c.is_empty.ensures ∙ c.if-is_empty.false) e) ∙ c.loop.invariant

pub returns : goal.returns
returns c =
    let none : 16 - c.loop.counter ≡ 0 = omega (arith, c.loop-test.false) in
    c.is_empty-2.ensures ∙ (sym (full_is c.loop.rest.now) ∙ (ap (λ n. is_list n c.loop.rest.now) (sym none) ∙ c.loop.invariant))
