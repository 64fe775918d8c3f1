-- the octets that remain after the remaining modules
use Rattle.std.proofs.Common.{◌≡◌, drop}
use Rattle.plans.specs.Connect.{expected_blocks, left_behind}
use Rattle.plans.proofs.blocks.left_behind.Given as goal

abbrev pub invariant-loop-entry : goal.invariant-loop-entry
invariant-loop-entry l = left_behind l.left (expected_blocks (drop l.entry-index l.modules)) ≡ left_behind l.initial.left (expected_blocks l.modules)
