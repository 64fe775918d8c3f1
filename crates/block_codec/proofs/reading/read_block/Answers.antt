-- What is read are the octets of the block, and the octets of a block are read.
use Rattle.std.proofs.Common.{ℕ, List, [], sym, subst}
use Rattle.wire.proofs.Given.{found, only}
use Rattle.block_codec.specs.declared.block.Block.{Block}
use Rattle.block_codec.specs.Block.{IsAccepted, IsBlock, block_of}
use Rattle.block_codec.proofs.Sound.{block_takes, block_again, block_behind}
use Rattle.block_codec.proofs.Accepted.{block_accepted}
use Rattle.block_codec.proofs.reading.read_block.Goals as goal

pub returns-clause-found : goal.returns-clause-found
returns-clause-found c =
    found _ (λ (x : Block × List ℕ). IsBlock c.args.bytes.now x.0 x.1) c.block_at.result (block_of c.args.bytes.now)
    (λ x e. block_takes c.args.bytes.now x.0 x.1 e) c.block_at.ensures

pub returns-clause-accepted : goal.returns-clause-accepted
returns-clause-accepted c =
    found _ (λ (x : Block × List ℕ). IsAccepted x.0) c.block_at.result (block_of c.args.bytes.now)
    (λ x e. block_accepted c.args.bytes.now x.0 x.1 (block_takes c.args.bytes.now x.0 x.1 e)) c.block_at.ensures

pub returns-clause-only : goal.returns-clause-only
returns-clause-only c = λ value rest s.
    only _ c.block_at.result (block_of c.args.bytes.now) (value, rest) (block_again c.args.bytes.now value rest s) c.block_at.ensures

pub returns-clause-behind : goal.returns-clause-behind
returns-clause-behind c = λ first more value s e.
    only _ c.block_at.result (block_of c.args.bytes.now) (value, more)
    (block_again c.args.bytes.now value more (subst (λ (bytes : List ℕ). IsBlock bytes value more) (sym e) (block_behind first value [] more s)))
    c.block_at.ensures
