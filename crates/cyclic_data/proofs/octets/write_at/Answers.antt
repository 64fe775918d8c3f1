-- The octets after the write.
use Rattle.std.proofs.Common.{arith}
use Rattle.cyclic_data.proofs.Cells.{mid_written}
use Rattle.cyclic_data.proofs.octets.write_at.Goals as goal

pub returns : goal.returns
returns c = mid_written c.args.octets.now c.args.value.now _ c.args.start _ (omega arith) c.copy_from_slice.ensures.after c.requires
