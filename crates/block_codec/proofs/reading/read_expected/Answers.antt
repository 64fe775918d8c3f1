-- The fields of a block that is read are accepted.
use Rattle.block_codec.specs.declared.block.Block.TheVariants.{ExpectedSubmoduleBlockReq as expected_req}
use Rattle.block_codec.specs.Kinds.{type_of}
use Rattle.block_codec.proofs.Accepted.{body_read_accepted}
use Rattle.block_codec.proofs.reading.read_expected.Goals as goal

pub returns-clause-accepted : goal.returns-clause-accepted
returns-clause-accepted c =
    body_read_accepted (type_of c.in_ok-number.number) c.in_ok-inside.inside.now (expected_req c.in_ok-block.block) c.in_ok-block.ensures
