-- Whether a first input may be awaited.
use Rattle.relations.specs.exchange.Marks.{Starting}
use Rattle.relations.proofs.ExchangeNoneAwaited.{begun_await}
use Rattle.relations.proofs.exchange.data_exchange.DataExchange.open.Goals as goal

pub invariant_of-self : goal.invariant_of-self
invariant_of-self c =
    let starting : Starting = record {
      begin_bad = c.args.starting.begin_bad;
      is_running = c.args.starting.is_running;
      statuses = c.args.starting.statuses.now;
      units = c.args.starting.units;
      diagnoses = c.args.starting.diagnoses.now;
      number = c.args.starting.number;
    } in
    begun_await starting c.args.rows.now _ _ c.begin.ensures
