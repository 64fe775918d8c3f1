-- Each service has its format of blocks.
use Rattle.std.proofs.Common.{◌+◌, ◌≤◌, length, arith, subst}
use Rattle.dcp_core.specs.declared.request.Service.{Service}
use Rattle.dcp_core.specs.Format.{block, block_of, kind, pair}
use Rattle.dcp_core.specs.Request.{asked_block}
use Rattle.dcp_core.proofs.writing.put_asked.Goals as goal

pub put_kind-requires : goal.put_kind-requires
unfolding block_of pair kind
put_kind-requires c =
    let few = subst (λ (s : Service). length c.args.data.now.items + (block_of s).size (asked_block c.args.value.now) ≤ 1488) c.in-Get.is c.requires in
    omega (arith, few)

pub put_contents-requires : goal.put_contents-requires
unfolding block_of block kind
put_contents-requires c =
    let few = subst (λ (s : Service). length c.args.data.now.items + (block_of s).size (asked_block c.args.value.now) ≤ 1488) c.in-Set.is c.requires in
    omega (arith, few)

pub put_contents-requires-in-Identify : goal.put_contents-requires-in-Identify
unfolding block_of block kind
put_contents-requires-in-Identify c =
    let few = subst (λ (s : Service). length c.args.data.now.items + (block_of s).size (asked_block c.args.value.now) ≤ 1488) c.in-Identify.is c.requires in
    omega (arith, few)

pub returns-in-Get-clause-items : goal.returns-in-Get-clause-items
unfolding block_of pair
returns-in-Get-clause-items c = rw c.in-Get.is c.put_kind.ensures.items

pub returns-in-Get-clause-len : goal.returns-in-Get-clause-len
unfolding block_of pair kind
returns-in-Get-clause-len c = rw c.in-Get.is c.put_kind.ensures.len

pub returns-in-Set-clause-items : goal.returns-in-Set-clause-items
unfolding block_of block
returns-in-Set-clause-items c = rw c.in-Set.is c.put_contents.ensures.items

pub returns-in-Set-clause-len : goal.returns-in-Set-clause-len
unfolding block_of block kind
returns-in-Set-clause-len c = let len = c.put_contents.ensures.len in rw c.in-Set.is (omega (arith, len))

pub returns-in-Identify-clause-items : goal.returns-in-Identify-clause-items
unfolding block_of block
returns-in-Identify-clause-items c = rw c.in-Identify.is c.put_contents-in-Identify.ensures.items

pub returns-in-Identify-clause-len : goal.returns-in-Identify-clause-len
unfolding block_of block kind
returns-in-Identify-clause-len c = let len = c.put_contents-in-Identify.ensures.len in rw c.in-Identify.is (omega (arith, len))
