use Rattle.std.proofs.Common.{append_assoc}
use Rattle.std.proofs.lemmas.List.{append-nil}
use Rattle.rpc_core.specs.Fields.{ordered}
use Rattle.rpc_core.specs.Body.{counts}
use Rattle.rpc_core.proofs.writing.put_counts.Goals as goal

pub returns-clause-items : goal.returns-clause-items
unfolding counts ordered
returns-clause-items c =
    rw (c.append_u32-4.ensures.items, c.append_u32-3.ensures.items, c.append_u32-2.ensures.items, c.append_u32.ensures.items) (simp (append_assoc, append-nil))
