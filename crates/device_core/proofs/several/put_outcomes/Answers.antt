-- One more record, and the end of the list.
use Rattle.std.proofs.Common.{◌≡◌, [], ◌∷◌, ◌∙◌, length, ap, arith}
use Rattle.records.specs.writes.Entry.{Entry}
use Rattle.relations.specs.RelationState.{uuid_of}
use Rattle.device_core.proofs.Lists.{link_end, link_more, outcomes_end, outcomes_more}
use Rattle.device_core.proofs.several.put_outcomes.Goals as goal

pub loop-entry-preserved : goal.loop-entry-preserved
loop-entry-preserved c =
    let entry : Entry = (c.in-Some.entry.request, c.in-Some.entry.octets.now) in
    let others = c.next.new.self in
    let is : c.loop-entry.left ≡ entry ∷ others = c.in-Some.ensures.next in
    let count = ap length is in
    let own = uuid_of c.args.relation.now in
    let blocks = rw c.loop-entry.invariant.uuid at c.put_outcome-unused.ensures.blocks in
    let link = rw c.loop-entry.invariant.uuid at c.put_outcome-unused.ensures.link in
    let answers = rw c.loop-entry.invariant.uuid at c.put_outcome-unused.ensures.answers in
    record {
      uuid = c.put_outcome-unused.ensures.uuid ∙ c.loop-entry.invariant.uuid;
      blocks = rw (blocks, answers, link)
          (outcomes_more c.args.named.now own c.args.real.now c.loop-entry.blocks.items entry others c.loop-entry.left c.loop-entry.unused.now c.loop-entry.relation _ is c.loop-entry.invariant.blocks);
      link = rw link (link_more c.args.named.now own c.args.real.now entry others c.loop-entry.left c.loop-entry.relation _ is c.loop-entry.invariant.link);
      room = omega (arith, count, c.put_outcome-unused.ensures.len, c.loop-entry.invariant.room);
    }

pub loop-entry-smaller : goal.loop-entry-smaller
loop-entry-smaller c = omega (arith, ap length c.in-Some.ensures.next)

pub returns-clause-blocks : goal.returns-clause-blocks
returns-clause-blocks c =
    let none : c.loop-entry.left ≡ [] = rw c.in_default.is at c.next.ensures.ends in
    outcomes_end c.args.named.now (uuid_of c.args.relation.now) c.args.real.now c.loop-entry.blocks.items c.loop-entry.left c.loop-entry.unused.now c.loop-entry.relation _ none
    c.loop-entry.invariant.blocks

pub returns-clause-link : goal.returns-clause-link
returns-clause-link c =
    let none : c.loop-entry.left ≡ [] = rw c.in_default.is at c.next.ensures.ends in
    link_end c.args.named.now (uuid_of c.args.relation.now) c.args.real.now c.loop-entry.left c.loop-entry.relation _ none c.loop-entry.invariant.link
