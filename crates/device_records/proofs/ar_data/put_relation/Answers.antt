-- There is room for each part.
use Rattle.std.proofs.Common.{arith}
use Rattle.device_records.proofs.ar_data.put_relation.Goals as goal

pub put_ar-requires : goal.put_ar-requires
put_ar-requires c = omega (arith, c.requires.room, c.requires.few)

pub append_u16-requires : goal.append_u16-requires
append_u16-requires c = omega (arith, c.requires.room, c.requires.few, c.put_ar.ensures.len)

pub put_iocrs-requires : goal.put_iocrs-requires
put_iocrs-requires c = omega (arith, c.requires.room, c.requires.few, c.put_ar.ensures.len, c.append_u16.ensures.len)

pub put_alarm-requires : goal.put_alarm-requires
put_alarm-requires c = omega (arith, c.requires.room, c.requires.few, c.put_ar.ensures.len, c.append_u16.ensures.len, c.put_iocrs.ensures.len)
