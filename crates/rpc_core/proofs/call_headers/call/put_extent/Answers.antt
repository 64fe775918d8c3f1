use Rattle.std.proofs.Common.{List, ℕ, [], ◌∷◌, ◌++◌, ap, append_assoc, ◌∙◌}
use Rattle.byteorder.specs.Endian.{big_bytes}
use Rattle.rpc_core.specs.call_headers.Call.{in_order, extent}
use Rattle.rpc_core.proofs.CallHeadersCalls.{order_local, put_on}
use Rattle.rpc_core.proofs.call_headers.call.put_extent.Goals as goal

pub returns-clause-items : goal.returns-clause-items
unfolding extent
returns-clause-items g c =
    let e = c.args.value.now in
    let low = c.args.little in
    let tail = big_bytes 1 e.authentication ++ big_bytes 1 0 in
    let hints = 255 ∷ 255 ∷ 255 ∷ 255 ∷ [] in
    let last = c.append_u8-2.ensures.items ∙ ap (λ (xs : List ℕ). xs ++ big_bytes 1 0) c.append_u8.ensures.items ∙ append_assoc _ (big_bytes 1 e.authentication) (big_bytes 1 0) in
    let numbers = put_on (in_order low 2) e.length _ _ _ ((in_order low 2).write e.fragment tail) (order_local low 2) c.put_short.ensures.items
    (put_on (in_order low 2) e.fragment _ _ _ tail (order_local low 2) c.put_short-2.ensures.items last) in
    numbers ∙ ap (λ (xs : List ℕ). xs ++ (in_order low 2).write e.length ((in_order low 2).write e.fragment tail)) c.append.ensures.items ∙ append_assoc _ hints _
