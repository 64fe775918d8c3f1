-- The texts so far, and those of the records that are left.
use Rattle.std.proofs.Common.{◌≡◌, ◌+◌, ◌≤◌, ◌++◌, length}
use Rattle.relations.specs.RelationState.{uuid_of}
use Rattle.device_core.specs.Several.{judged_each, texts_in}
use Rattle.device_core.proofs.several.fill_texts.Given as goal

abbrev pub invariant-loop-entry : goal.invariant-loop-entry
invariant-loop-entry l = record {
  items : l.plan.items ++ texts_in (judged_each l.named (uuid_of l.relation) l.real l.left) ≡ texts_in (judged_each l.named (uuid_of l.relation) l.real l.entries);
  room : length l.plan.items + length l.left ≤ 16;
}

abbrev pub decreases-loop-entry : goal.decreases-loop-entry
decreases-loop-entry l = length l.left
