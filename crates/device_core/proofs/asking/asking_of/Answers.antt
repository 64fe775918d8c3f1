-- A station that names no records asks nothing.
use Rattle.std.proofs.Common.{◌≡◌, ◌==◌, true, [], length, option_map, sym, ◌∙◌}
use Rattle.rpc_core.specs.Call.{asked}
use Rattle.device_core.proofs.Unnamed.{no_names, nothing_asked}
use Rattle.device_core.proofs.asking.asking_of.Goals as goal

pub returns-then-is_empty-clause-value : goal.returns-then-is_empty-clause-value
returns-then-is_empty-clause-value c =
    let empty : (length c.as_slice.result.now == 0) ≡ true = sym c.is_empty.ensures ∙ c.if-is_empty.true in
    let none : c.args.named.now ≡ [] = sym c.as_slice.ensures.value ∙ no_names c.as_slice.result.now empty in
    rw none (nothing_asked c.args.real.now (option_map (λ uuid. uuid.now) c.args.standing) c.args.serving.now.caller.now
    (asked c.args.serving.now.call.now) c.args.serving.now.blocks.now c.args.serving.now.operation)
