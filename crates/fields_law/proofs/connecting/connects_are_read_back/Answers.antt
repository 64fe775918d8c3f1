-- Each field at its place.
use Rattle.fields_law.proofs.ReadingConnect.{alarm_read, cyclic_read, expected_read, kept_alarm, kept_cyclic, kept_relation, relation_read}
use Rattle.fields_law.proofs.ReadingPlanned.{connect_is}
use Rattle.fields_law.proofs.connecting.connects_are_read_back.Goals as goal

pub returns : goal.returns
returns c =
    let long = c.blocks_are_read.ensures.long in
    record {
      relation = relation_read long;
      cyclic = cyclic_read long;
      alarm = alarm_read long;
      expected = expected_read long;
      kept_relation = kept_relation long;
      kept_cyclic = kept_cyclic long;
      kept_alarm = kept_alarm long;
      plan = connect_is long;
    }
