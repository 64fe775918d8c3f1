use Rattle.std.proofs.Common.{append_assoc}
use Rattle.std.proofs.lemmas.List.{append-nil}
use Rattle.rpc_core.specs.Fields.{ordered}
use Rattle.rpc_core.specs.Header.{turn}
use Rattle.rpc_core.proofs.writing.put_turn.Goals as goal

pub returns-clause-items : goal.returns-clause-items
unfolding turn ordered
returns-clause-items c =
    rw (c.append_u16.ensures.items, c.append_u32.ensures.items, c.append.ensures.items) (simp (append_assoc, append-nil))
