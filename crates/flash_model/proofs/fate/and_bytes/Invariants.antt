use Rattle.std.proofs.Common.{◌≡◌}
use Rattle.flash_model.specs.Image.{anded}
use Rattle.flash_model.proofs.Written.{written}
use Rattle.flash_model.proofs.fate.and_bytes.Given as goal

abbrev pub invariant-loop-place : goal.invariant-loop-place
invariant-loop-place l = l.range ≡ written (anded l.initial.range l.bytes) l.initial.range l.place
