-- One more record, and the end of the list.
use Rattle.std.proofs.Common.{◌≡◌, [], ◌∷◌, length, ap, arith}
use Rattle.records.specs.writes.Entry.{Entry}
use Rattle.relations.specs.RelationState.{uuid_of}
use Rattle.device_core.proofs.Lists.{texts_end, texts_more}
use Rattle.device_core.proofs.several.fill_texts.Goals as goal

pub loop-entry-preserved : goal.loop-entry-preserved
loop-entry-preserved c =
    let entry : Entry = (c.in-Some.entry.request, c.in-Some.entry.octets.now) in
    let is : c.loop-entry.left ≡ entry ∷ c.next.new.self = c.in-Some.ensures.next in
    let count = ap length is in
    let texts = rw c.judge-judged.ensures at c.put_text.ensures.items in
    record {
      items = rw texts
          (texts_more c.args.named.now (uuid_of c.args.relation.now) c.args.real.now c.loop-entry.plan.items entry c.next.new.self c.loop-entry.left _ is c.loop-entry.invariant.items);
      room = omega (arith, count, c.put_text.ensures.few, c.loop-entry.invariant.room);
    }

pub loop-entry-smaller : goal.loop-entry-smaller
loop-entry-smaller c = omega (arith, ap length c.in-Some.ensures.next)

pub returns-clause-items : goal.returns-clause-items
returns-clause-items c =
    let none : c.loop-entry.left ≡ [] = rw c.in_default.is at c.next.ensures.ends in
    texts_end c.args.named.now (uuid_of c.args.relation.now) c.args.real.now c.loop-entry.plan.items c.loop-entry.left _ none c.loop-entry.invariant.items
