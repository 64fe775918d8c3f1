use Rattle.pn_alarms.proofs.Short.{without_header, without_length}
use Rattle.pn_alarms.proofs.reading.short_fault.Goals as goal

pub returns-in-Ok : goal.returns-in-Ok
returns-in-Ok c = without_length c.args.bytes.now _ _ c.requires c.in-Ok.ensures

pub returns-in-Err : goal.returns-in-Err
returns-in-Err c = without_header c.args.bytes.now c.in-Err.fault c.in-Err.ensures
