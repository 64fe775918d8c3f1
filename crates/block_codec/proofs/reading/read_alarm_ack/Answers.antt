-- What is read are the octets of the block, and the octets of a block are read.
use Rattle.std.proofs.Common.{ℕ, List}
use Rattle.wire.proofs.Given.{found, only}
use Rattle.block_codec.specs.declared.block.Block.{Block}
use Rattle.block_codec.specs.Block.{IsBlock, block_of}
use Rattle.block_codec.proofs.Sound.{block_takes, block_again}
use Rattle.block_codec.proofs.reading.read_alarm_ack.Goals as goal

pub returns-clause-found : goal.returns-clause-found
returns-clause-found c =
    found _ (λ (x : Block × List ℕ). IsBlock c.args.bytes.now x.0 x.1) c.alarm_ack_in_front.result (block_of c.args.bytes.now)
    (λ x e. block_takes c.args.bytes.now x.0 x.1 e) c.alarm_ack_in_front.ensures

pub returns-clause-only : goal.returns-clause-only
returns-clause-only c = λ value rest s.
    only _ c.alarm_ack_in_front.result (block_of c.args.bytes.now) (value, rest) (block_again c.args.bytes.now value rest s) c.alarm_ack_in_front.ensures
