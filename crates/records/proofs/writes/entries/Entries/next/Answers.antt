-- The next record of a list.
use Rattle.std.proofs.Common.{◌≡◌, ◌<◌, Some, sym, arith}
use Rattle.records.specs.writes.Several.{entry_of}
use Rattle.records.proofs.Several.{next_read, none_left, none_read}
use Rattle.records.proofs.writes.entries.Entries.next.Goals as goal

pub returns-then-self-eq0-clause-ends : goal.returns-then-self-eq0-clause-ends
returns-then-self-eq0-clause-ends c = rw (← c.self.view_is) (none_left c.self.inside.left c.self.inside.rest.now c.if-self-eq0.true)

pub returns-in-Some-clause-next : goal.returns-in-Some-clause-next
returns-in-Some-clause-next c =
    let more : 0 < c.self.inside.left = omega arith in
    let e : entry_of c.self.inside.rest.now ≡ Some ((c.in-Some.entry.request, c.in-Some.entry.octets.now), c.in-Some.behind.now) = rw (c.in-Some.entry-is, c.in-Some.behind-is) (sym c.in-Some.ensures) in
    rw (← c.self.view_is) (next_read c.self.inside.left c.self.inside.rest.now (c.in-Some.entry.request, c.in-Some.entry.octets.now) c.in-Some.behind.now more e)

pub returns-in-None-clause-ends : goal.returns-in-None-clause-ends
returns-in-None-clause-ends c = rw (← c.self.view_is) (none_read c.self.inside.left c.self.inside.rest.now (sym c.in-None.ensures))
