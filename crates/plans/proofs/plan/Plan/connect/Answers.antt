-- Reading each block's octets gives the block.
use Rattle.std.proofs.Common.{List, subst}
use Rattle.std.specs.List.{AllByRecursion}
use Rattle.pn_values.specs.declared.real.RealModule.{RealModule}
use Rattle.connect_blocks.specs.Expected.{IsExpectedSubmoduleBlockReq}
use Rattle.plans.specs.declared.parts.Parts.{Parts}
use Rattle.plans.specs.Connect.{IsRead, blocks_of, expected_block, expected_blocks}
use Rattle.plans.proofs.Accepted.{all_read}
use Rattle.plans.proofs.plan.Plan.connect.Goals as goal

pub returns-clause-read : goal.returns-clause-read
returns-clause-read c = λ some.
    subst (λ (p : Parts). AllByRecursion IsRead (blocks_of p c.args.ar.now)) c.self.view_is
    (all_read c.self.inside.parts c.args.ar.now c.self.invariant some c.write_ar.ensures.read (search (c.write_iocr.ensures.read, c.write_iocr-2.ensures.read)) (search (c.write_iocr.ensures.read, c.write_iocr-2.ensures.read)) c.write_alarm.ensures.read
    (subst (λ (modules : List RealModule). AllByRecursion (λ entry. IsExpectedSubmoduleBlockReq (expected_block entry)) modules → AllByRecursion IsRead (expected_blocks modules))
    c.as_slice.ensures.value c.write_all_expected.ensures.read))
