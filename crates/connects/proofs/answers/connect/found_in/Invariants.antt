-- The rest of the blocks, added to those so far, gives what all of them give.
use Rattle.std.proofs.Common.{◌≡◌, ◌-◌}
use Rattle.connects.specs.answers.Connect.{found_in, nothing}
use Rattle.connects.proofs.answers.connect.found_in.Given as goal

abbrev pub invariant-loop-index : goal.invariant-loop-index
invariant-loop-index l = found_in (l.most - l._index) l.rest l.found ≡ found_in l.most l.bytes nothing
