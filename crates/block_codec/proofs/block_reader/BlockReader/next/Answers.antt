-- Empty octets are not a block.
use Rattle.std.proofs.Common.{◌≡◌, ℕ, List, [], ◌∷◌, length, None, Err, refl, sym, ◌∙◌, arith}
use Rattle.std.proofs.lemmas.Grind.{common_steps}
use Rattle.std.proofs.lemmas.Bool.Decides.{nat_tests}
use Rattle.std.proofs.lemmas.List.{nil_from_length}
use Rattle.wire.specs.declared.blocks.fault.BlockFault.TheVariants.{Truncated}
use Rattle.block_codec.specs.declared.block.Block.{Block}
use Rattle.block_codec.specs.Block.{block, IsBlock, block_of, front}
use Rattle.block_codec.specs.Reader.{Reader, AreBlocks, GivesNext}
use Rattle.block_codec.proofs.Sound.{block_again}
use Rattle.block_codec.proofs.block_reader.BlockReader.next.Goals as goal
use Rattle.block_codec.proofs.block_reader.BlockReader.next.Goals.{then-is_empty-via-then-is_empty, then-is_empty-via-else-is_empty+then-self}

nothing_read : block_of [] ≡ Err Truncated
unfolding block_of block
nothing_read = refl

no_block : (value : Block) (rest : List ℕ) → IsBlock [] value rest → ⊥
no_block value rest s = let read = block_again [] value rest s in let none = nothing_read in let both : front value rest ≡ Err Truncated = sym read ∙ none in absurd cc

no_blocks : (bytes : List ℕ) (blocks : List Block) (reader : Reader) → bytes ≡ [] → AreBlocks bytes blocks → GivesNext blocks None reader
no_blocks bytes [] reader none s = refl
no_blocks bytes (value ∷ blocks) reader none s = absurd (no_block value s.0 (rw none at s.1))

pub returns-then-is_empty-clause-in_order : goal.returns-then-is_empty-clause-in_order
returns-then-is_empty-clause-in_order c = λ blocks fine are.
    elim c.then-is_empty.branch [
      | then-is_empty-via-then-is_empty w ↦
          let none : length c.args.self.now.rest ≡ 0 = grind (arith, nat_tests, common_steps) in
          no_blocks c.args.self.now.rest blocks _ (nil_from_length _ none) are
      | then-is_empty-via-else-is_empty+then-self w ↦ absurd (grind (arith, common_steps))
    ]
