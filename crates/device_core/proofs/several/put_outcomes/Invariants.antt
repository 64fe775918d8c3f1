-- The outcomes so far, and those of the records that are left.
use Rattle.std.proofs.Common.{◌≡◌, ◌+◌, ◌*◌, ◌≤◌, ◌++◌, length}
use Rattle.records.specs.writes.Answer.{outcomes_of}
use Rattle.relations.specs.RelationState.{uuid_of}
use Rattle.device_core.specs.Several.{judged_each}
use Rattle.device_core.specs.Machine.{link_behind, statuses_of}
use Rattle.device_core.proofs.several.put_outcomes.Given as goal

abbrev pub invariant-loop-entry : goal.invariant-loop-entry
invariant-loop-entry l = record {
  uuid : uuid_of l.relation ≡ uuid_of l.initial.relation;
  blocks : l.blocks.items ++ outcomes_of (statuses_of (judged_each l.named (uuid_of l.initial.relation) l.real l.left) l.unused l.relation)
      ≡ l.initial.blocks.items ++ outcomes_of (statuses_of (judged_each l.named (uuid_of l.initial.relation) l.real l.entries) l.answers l.initial.relation);
  link : link_behind (judged_each l.named (uuid_of l.initial.relation) l.real l.left) l.relation
      ≡ link_behind (judged_each l.named (uuid_of l.initial.relation) l.real l.entries) l.initial.relation;
  room : length l.blocks.items + 64 * length l.left ≤ 1372;
}

abbrev pub decreases-loop-entry : goal.decreases-loop-entry
decreases-loop-entry l = length l.left
