-- One block after another is read.
use Rattle.std.proofs.Common.{◌≡◌, ◌∷◌, ◌++◌, [], map, arith}
use Rattle.std.proofs.lemmas.List.{length-map, map_push}
use Rattle.std.proofs.lemmas.Result.{err_from_is_err_and}
use Rattle.std.proofs.lemmas.Grind.{common_steps}
use Rattle.std.proofs.lemmas.Bool.Decides.{nat_tests}
use Rattle.wire.proofs.Lists.{list_goes_on, list_fails, list_is_full, list_ends}
use Rattle.dcp_core.specs.declared.request.DcpFault.TheVariants as fault
use Rattle.dcp_core.specs.Request.{asked_block}
use Rattle.dcp_core.specs.Format.{block_of, blocks_of}
use Rattle.dcp_core.proofs.reading.read_blocks.Goals as goal

pub returns-then-is_full : goal.returns-then-is_full
unfolding blocks_of
returns-then-is_full c =
    list_is_full fault.Block (block_of c.args.service) (map asked_block c.loop-rest.found.items) 16 c.loop-rest.rest.now _
    (grind (arith, nat_tests, common_steps, length-map)) (grind (arith, nat_tests)) c.loop-rest.invariant

pub returns-in_err-block : goal.returns-in_err-block
unfolding blocks_of
returns-in_err-block c =
    let p = err_from_is_err_and c.from_residual.result c.from_residual.ensures.1 in
    rw (p.1, p.2) (list_fails fault.Block (block_of c.args.service) (map asked_block c.loop-rest.found.items) 16 c.loop-rest.rest.now _ c.in_err-block.field-0.0
    (grind (arith, nat_tests, common_steps, length-map)) (grind (arith, nat_tests)) c.in_err-block.ensures c.loop-rest.invariant)

pub loop-rest-preserved : goal.loop-rest-preserved
loop-rest-preserved c =
    let b = c.in_ok-block.block in
    let e : map asked_block c.push.new.self.items ≡ map asked_block c.loop-rest.found.items ++ asked_block b ∷ [] = rw c.push.ensures.items (map_push _ c.loop-rest.found.items b) in
    rw e (list_goes_on fault.Block (block_of c.args.service) (map asked_block c.loop-rest.found.items) 16 c.loop-rest.rest.now _ (asked_block b) c.in_ok-block.behind.now
    (grind (arith, nat_tests, common_steps, length-map)) (grind (arith, nat_tests)) c.in_ok-block.ensures c.loop-rest.invariant)

pub returns : goal.returns
unfolding blocks_of
returns c = list_ends fault.Block (block_of c.args.service) (map asked_block c.loop-rest.found.items) 16 c.loop-rest.rest.now _ (grind (arith, nat_tests)) c.loop-rest.invariant
