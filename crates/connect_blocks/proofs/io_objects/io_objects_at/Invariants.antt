-- The places read so far, and those still to be read.
use Rattle.std.proofs.Common.{◌≡◌, ◌-◌, ◌≤◌, List, length, []}
use Rattle.wire.specs.Counted.{read_each}
use Rattle.wire.proofs.Counts.{with_before}
use Rattle.connect_blocks.specs.declared.io_object.IoObject.{IoObject}
use Rattle.connect_blocks.specs.Objects.{next_object}
use Rattle.connect_blocks.proofs.io_objects.io_objects_at.Given as goal

abbrev pub invariant-loop-index : goal.invariant-loop-index
invariant-loop-index l =
    (objects : List IoObject) × (length objects ≡ l.index) × (length objects ≤ 256)
    × (with_before objects (read_each next_object (l.count - length objects) objects l.rest) ≡ read_each next_object l.count [] l.initial.rest)
