-- the octets so far, and those of the remaining modules
use Rattle.std.proofs.Common.{◌≡◌, ◌+◌, ◌≤◌, ◌++◌, drop, length, take}
use Rattle.std.specs.List.{AllByRecursion}
use Rattle.connect_blocks.specs.Expected.{IsExpectedSubmoduleBlockReq}
use Rattle.plans.specs.Connect.{IsRead, bytes_of, expected_block, expected_blocks, size_of}
use Rattle.plans.proofs.blocks.write_all_expected.Given as goal

abbrev pub invariant-loop-entry : goal.invariant-loop-entry
invariant-loop-entry l = record {
  exact : l.out.items ++ bytes_of (expected_blocks (drop l.entry-index l.modules)) ≡ l.initial.out.items ++ bytes_of (expected_blocks l.modules);
  room : length l.out.items + size_of (expected_blocks (drop l.entry-index l.modules)) ≤ 1372;
  read : AllByRecursion (λ entry. IsExpectedSubmoduleBlockReq (expected_block entry)) l.modules → AllByRecursion IsRead (expected_blocks (take l.entry-index l.modules));
}
