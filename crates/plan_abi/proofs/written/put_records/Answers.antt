use Rattle.std.proofs.Common.{◌∙◌, ap, rules, arith, add-one}
use Rattle.std.proofs.lemmas.Grind.{common_steps}
use Rattle.controller_abi.specs.Plans.{record_of}
use Rattle.plan_abi.specs.Readings.{written_record}
use Rattle.plan_abi.proofs.Laid.{laid_more, read_back, record_back}
use Rattle.plan_abi.proofs.written.put_records.Goals as goal

-- the item of this iteration is written after those before it
pub loop-index-preserved : goal.loop-index-preserved
loop-index-preserved c = record {
  items = rw (c.loop-index.invariant.items, add-one) (laid_more written_record c.args.given.now c.args.places.now c.loop-index.index c.record_in.result c.index-given-index.result c.loop-index-test.true c.requires.few (c.record_in.ensures ∙ ap written_record c.index-given-index.is));
  len = search rules;
}

pub returns-clause-laid : goal.returns-clause-laid
returns-clause-laid c = grind (arith, common_steps)

pub returns-clause-value : goal.returns-clause-value
returns-clause-value c = rw (returns-clause-laid c) (read_back written_record record_of record_back c.args.places.now c.args.given.now)
