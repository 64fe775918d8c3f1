use Rattle.std.proofs.Common.{rules}
use Rattle.configurator.proofs.Whole.{few_records, low_slots, small_slots}
use Rattle.configurator.proofs.plan.parts_of.Goals as goal

pub real_of-requires : goal.real_of-requires
real_of-requires c = small_slots c.args.catalogue.now c.requires.few

pub records_of-requires-clause-low : goal.records_of-requires-clause-low
records_of-requires-clause-low c = let low = low_slots c.args.catalogue.now c.requires.few in search rules

pub records_of-requires-clause-few : goal.records_of-requires-clause-few
records_of-requires-clause-few c = let few = few_records c.args.catalogue.now c.requires.few in search rules
