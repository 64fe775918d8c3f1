use Rattle.std.proofs.Common.{◌≡◌, ℕ, List, [], ◌++◌, Some, ap, ◌∙◌}
use Rattle.rpc_core.specs.declared.fields.Order.TheVariants.{Big}
use Rattle.rpc_core.specs.Fields.{ordered}
use Rattle.rpc_core.specs.Call.{asked}
use Rattle.rpc_core.proofs.Sound.{ordered_sound, call_again, call_behind}
use Rattle.rpc_core.proofs.Written.{body_joined, call_exact, call_fits, call_spelled, word_written, word_fits, blocks_there}
use Rattle.rpc_core.proofs.writing.write_request.Goals as goal

there : (c : goal.After-put_blocks) → (asked c.args.call.now).blocks ≡ Some c.unwrap_or-blocks.result.now
there c = blocks_there c.args.call.now.blocks _ c.unwrap_or-blocks.result c.requires.whole c.unwrap_or-blocks.ensures

pub returns-clause-exact : goal.returns-clause-exact
returns-clause-exact c = λ interface.
    let a = asked c.args.call.now in
    let word : c.append_u32.new.out.items ≡ c.put_head.new.out.items ++ (ordered Big 4).write a.args_maximum [] =
    c.append_u32.ensures.items ∙ ap (λ (xs : List ℕ). c.put_head.new.out.items ++ xs) (word_written a.args_maximum) in
    call_exact interface a c.unwrap_or-blocks.result.now _ _ (there c) c.put_head.ensures.items
    (body_joined (ordered Big 4) a.args_maximum a.args_maximum c.unwrap_or-blocks.result.now _ _ _ (ordered_sound Big 4) word c.put_blocks.ensures.items)

pub returns-clause-spelled : goal.returns-clause-spelled
returns-clause-spelled c = λ interface named.
    let a = asked c.args.call.now in
    call_spelled interface a _
    (call_fits interface a c.unwrap_or-blocks.result.now (there c) named c.put_head.ensures.fits (word_fits a.args_maximum c.append_u32.ensures.fits) c.put_blocks.ensures.fits)
    (returns-clause-exact c interface)

pub returns-clause-behind : goal.returns-clause-behind
returns-clause-behind c = λ interface more named.
    let a = asked c.args.call.now in
    call_again interface _ a (call_behind interface _ more a (returns-clause-spelled c interface named))
