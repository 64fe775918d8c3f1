-- The first places are written.
use Rattle.connect_blocks.proofs.Objects.{IsPut}
use Rattle.connect_blocks.proofs.io_objects.put_io_objects.Given as goal

abbrev pub invariant-loop-index : goal.invariant-loop-index
invariant-loop-index g l = IsPut l.initial.out.items l.out.items l.list l.index
