-- the records so far, each of at most 128 octets with its block and its padding
use Rattle.std.proofs.Common.{◌≡◌, ◌≤◌, ◌*◌, ◌++◌, drop}
use Rattle.arrayvec.specs.ArrayVec.{array_vec_len}
use Rattle.controller_messages.specs.Requests.{entries_bytes}
use Rattle.controller_messages.proofs.writes.put_entries.Given as goal

abbrev pub invariant-loop-entry : goal.invariant-loop-entry
invariant-loop-entry l = record {
  items : l.blocks.items ++ entries_bytes l.setup l.number (drop l.entry-index l.group) ≡ entries_bytes l.setup l.number l.group;
  len : array_vec_len l.blocks ≤ 128 * l.entry-index;
}
