use Rattle.std.proofs.Common.{◌≡◌, Bool, [], ◌++◌, subst}
use Rattle.rpc_core.specs.call_headers.Call.{opening, names, turn, extent, head}
use Rattle.rpc_core.proofs.CallHeadersCalls.{opening_local, names_local, turn_local, put_on}
use Rattle.rpc_core.proofs.call_headers.call.put_head.Goals as goal

pub returns-clause-items : goal.returns-clause-items
unfolding head
returns-clause-items g c =
    let h = c.args.value.now in
    let old = c.args.out.now.items in
    let all = c.put_extent.new.out.items in
    let low = c.is_little-little.result in
    let written = put_on opening h.opening _ _ _ ((names.write h.names ((turn low).write h.turn ((extent low).write h.extent [])))) opening_local c.put_opening.ensures.items
    (put_on names h.names _ _ _ ((turn low).write h.turn ((extent low).write h.extent [])) names_local c.put_names.ensures.items
    (put_on (turn low) h.turn _ _ _ ((extent low).write h.extent []) (turn_local low) c.put_turn.ensures.items c.put_extent.ensures.items)) in
    subst (λ (is_low : Bool). all ≡ old ++ opening.write h.opening (names.write h.names ((turn is_low).write h.turn ((extent is_low).write h.extent [])))) c.is_little-little.ensures written
