-- One block of the answer to a Connect after another.
use Rattle.std.proofs.Common.{◌≡◌, ◌||◌, ℕ, suc, Bool, true, false, List, Option, Some, None, refl, ap, ◌∙◌}
use Rattle.block_codec.specs.Block.{block_of}
use Rattle.connects.specs.answers.OtherBlock.{other_block}
use Rattle.plan_places.specs.Listed.{behind_of, is_listed_behind, is_listed_by, is_listed_in}

module _ (bytes : List ℕ) (slot subslot : ℕ) where
  step : (most : ℕ) → is_listed_in (suc most) bytes slot subslot
      ≡ (is_listed_by slot subslot (block_of bytes) || is_listed_behind (behind_of (other_block.read bytes)) (λ rest. is_listed_in most rest slot subslot))
  unfolding is_listed_in
  step most = refl

  one_more : (more most : ℕ) (here : Bool) (read : Option (List ℕ)) → more ≡ suc most → is_listed_by slot subslot (block_of bytes) ≡ here
      → behind_of (other_block.read bytes) ≡ read
      → is_listed_in more bytes slot subslot ≡ (here || is_listed_behind read (λ rest. is_listed_in most rest slot subslot))
  one_more more most here read count is rest =
      ap (λ (n : ℕ). is_listed_in n bytes slot subslot) count
      ∙ (step most
      ∙ (ap (λ (b : Bool). b || is_listed_behind (behind_of (other_block.read bytes)) (λ rest. is_listed_in most rest slot subslot)) is
      ∙ ap (λ (o : Option (List ℕ)). here || is_listed_behind o (λ rest. is_listed_in most rest slot subslot)) rest))

  -- The block lists the submodule.
  pub found : (more most : ℕ) → more ≡ suc most → is_listed_by slot subslot (block_of bytes) ≡ true → is_listed_in more bytes slot subslot ≡ true
  found more most count is = one_more more most true (behind_of (other_block.read bytes)) count is refl

  -- It does not, and another block follows.
  pub goes_on : (more most : ℕ) (rest : List ℕ) → more ≡ suc most → is_listed_by slot subslot (block_of bytes) ≡ false
      → behind_of (other_block.read bytes) ≡ Some rest → is_listed_in more bytes slot subslot ≡ is_listed_in most rest slot subslot
  goes_on more most rest count is read = one_more more most false (Some rest) count is read

  -- It does not, and cannot be skipped.
  pub stops : (more most : ℕ) → more ≡ suc most → is_listed_by slot subslot (block_of bytes) ≡ false
      → behind_of (other_block.read bytes) ≡ None → is_listed_in more bytes slot subslot ≡ false
  stops more most count is read = one_more more most false None count is read

  -- The maximum number of blocks.
  pub out_of : (most : ℕ) → most ≡ 0 → is_listed_in most bytes slot subslot ≡ false
  unfolding is_listed_in
  out_of most none = ap (λ (n : ℕ). is_listed_in n bytes slot subslot) none
