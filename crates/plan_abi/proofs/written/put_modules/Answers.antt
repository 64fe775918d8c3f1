use Rattle.std.proofs.Common.{◌∙◌, ap, rules, arith, add-one}
use Rattle.std.proofs.lemmas.Grind.{common_steps}
use Rattle.c_layout.specs.Modules.{module_of}
use Rattle.plan_abi.specs.Readings.{written_module}
use Rattle.plan_abi.proofs.Laid.{laid_more, read_back, module_back}
use Rattle.plan_abi.proofs.written.put_modules.Goals as goal

-- the item of this iteration is written after those before it
pub loop-index-preserved : goal.loop-index-preserved
loop-index-preserved c = record {
  items = rw (c.loop-index.invariant.items, add-one) (laid_more written_module c.args.given.now c.args.places.now c.loop-index.index c.module_in.result c.index-given-index.result c.loop-index-test.true c.requires (c.module_in.ensures ∙ ap written_module c.index-given-index.is));
  len = search rules;
}

pub returns-clause-laid : goal.returns-clause-laid
returns-clause-laid c = grind (arith, common_steps)

pub returns-clause-value : goal.returns-clause-value
returns-clause-value c = rw (returns-clause-laid c) (read_back written_module module_of module_back c.args.places.now c.args.given.now)
