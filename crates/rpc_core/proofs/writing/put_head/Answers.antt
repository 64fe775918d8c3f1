use Rattle.std.proofs.Common.{◌≡◌}
use Rattle.rpc_core.specs.declared.header.Names.{Names}
use Rattle.rpc_core.specs.Header.{head_for}
use Rattle.rpc_core.specs.Body.{body_size}
use Rattle.rpc_core.proofs.Written.{names_same, head_joined, head_fits}
use Rattle.rpc_core.proofs.writing.put_head.Goals as goal

abbrev names_put : goal.After-put_extent → Names
names_put c = record { object = c.into_bytes.result; interface = c.into_bytes-2.result; activity = c.into_bytes-3.result }

same : (c : goal.After-put_extent) → names_put c ≡ (head_for c.args.packet_type c.args.flags c.args.header.now (body_size c.args.carried)).names
same c = names_same (names_put c) c.args.header.now c.into_bytes.ensures c.into_bytes-2.ensures c.into_bytes-3.ensures

pub returns-clause-items : goal.returns-clause-items
returns-clause-items c =
    head_joined c.args.packet_type c.args.flags (body_size c.args.carried) c.args.header.now (names_put c) _ _ _ _ (same c)
    (rw c.requires.empty at c.put_opening.ensures.items) c.put_names.ensures.items c.put_turn.ensures.items c.put_extent.ensures.items

pub returns-clause-fits : goal.returns-clause-fits
returns-clause-fits c =
    head_fits c.args.packet_type c.args.flags (body_size c.args.carried) c.args.header.now (names_put c) (same c)
    c.put_opening.ensures.fits c.put_names.ensures.fits c.put_turn.ensures.fits c.put_extent.ensures.fits
