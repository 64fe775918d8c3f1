use Rattle.flash_model.specs.Image.{anded}
use Rattle.flash_model.proofs.TornLoop.{TornSoFar}
use Rattle.flash_model.proofs.fate.and_masked.Given as goal

abbrev pub invariant-loop-place : goal.invariant-loop-place
invariant-loop-place l = TornSoFar l.mask (anded l.initial.range l.bytes) l.initial.range l.range l.place
