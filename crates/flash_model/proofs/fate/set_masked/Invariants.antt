use Rattle.std.proofs.Common.{length}
use Rattle.flash_model.specs.Image.{erased}
use Rattle.flash_model.proofs.TornLoop.{TornSoFar}
use Rattle.flash_model.proofs.fate.set_masked.Given as goal

abbrev pub invariant-loop-place : goal.invariant-loop-place
invariant-loop-place l = TornSoFar l.mask (erased (length l.initial.range)) l.initial.range l.range l.place
