-- The octets of the lists, entry by entry, and their number.
use Rattle.std.proofs.Common.{◌≡◌, ℕ, ◌+◌, ◌*◌, ◌<◌, ◌≤◌, List, [], length, take, drop, get_or, sum_by, ap, arith}
use Rattle.std.proofs.lemmas.List.{drop_more}
use Rattle.wire.specs.Codec.{Codec}
use Rattle.wire.specs.Nested.{FitsNested}
use Rattle.wire.proofs.Nesting.{outer_flat, outer_flat_size, outer_few, outer_bounded}
use Rattle.wire.specs.declared.blocks.fault.BlockFault.{BlockFault}
use Rattle.wire.specs.declared.blocks.fault.BlockFault.TheVariants.{Count}
use Rattle.wire.specs.blocks.Fields.{number_bytes}
use Rattle.wire.specs.blocks.modules.Lists.{Listed, next_entry, module_list, listed_modules, submodules_size, modules_bytes, modules_size, WritesAlike}

-- The size of the first of the remaining submodules.
pub first_inner : {S : Type 0} (item : List S → Codec BlockFault S) (submodules : List S) (i : ℕ) (d : S) → i < length submodules
    → submodules_size item (drop i submodules) ≡ (item []).size (get_or submodules i d) + submodules_size item (drop (i + 1) submodules)
first_inner item submodules i d below = ap (submodules_size item) (drop_more submodules i d below)

module _ {M S : Type 0} (head : List M → Codec BlockFault M) (own : M → ℕ) (item : List S → Codec BlockFault S) where
  -- The size of the first of the remaining modules, with its submodules.
  pub first_outer : (modules : List M) (submodules : List S) (i : ℕ) (d : M) → i < length modules
      → modules_size head own item (drop i modules) submodules
      ≡ (head []).size (get_or modules i d)
      + (submodules_size item (take (own (get_or modules i d)) submodules) + modules_size head own item (drop (i + 1) modules) (drop (own (get_or modules i d)) submodules))
  first_outer modules submodules i d below = ap (λ (left : List M). modules_size head own item left submodules) (drop_more modules i d below)

  module _ (heads : WritesAlike head) (items : WritesAlike item) where
    -- The octets of the lists, if those of an entry do not depend on the entries before it.
    pub modules_written : (modules : List M) (submodules : List S) (rest : List ℕ)
        → (module_list head own item).write (modules, submodules) rest ≡ number_bytes 2 (length modules) (modules_bytes head own item modules submodules rest)
    unfolding module_list next_entry
    modules_written modules submodules rest =
        ap (number_bytes 2 (length modules)) (outer_flat (next_entry head 0) own (next_entry item) (head []).write (head []).size (item []).write (item []).size
        heads.write heads.size (λ start before. items.write (drop start before)) (λ start before. items.size (drop start before)) [] [] modules submodules rest)

    -- The number of octets of the lists.
    pub modules_sized : (modules : List M) (submodules : List S) → (module_list head own item).size (modules, submodules) ≡ 2 + modules_size head own item modules submodules
    unfolding module_list next_entry
    modules_sized modules submodules =
        ap (λ n. 2 + n) (outer_flat_size (next_entry head 0) own (next_entry item) (head []).write (head []).size (item []).write (item []).size
        heads.write heads.size (λ start before. items.write (drop start before)) (λ start before. items.size (drop start before)) [] [] modules submodules)

  -- A bound for the number of octets, if each module takes at most `head_most` and each submodule at most `most`.
  pub modules_few : (head_most most : ℕ) → ((before : List M) (entry : M) → (head before).size entry ≤ head_most) → ((before : List S) (entry : S) → (item before).size entry ≤ most)
      → (value : Listed M S) → (listed_modules head own item).size value ≤ 2 + (length value.modules * head_most + length value.submodules * most)
  unfolding listed_modules module_list next_entry
  modules_few head_most most heads items value =
      omega (arith, outer_few (next_entry head 0) own (next_entry item) head_most most heads (λ start before. items (drop start before)) [] [] value.modules value.submodules)

-- Modules whose counts add up to the number of submodules, and whose fields fit, can be written if no entry depends on
-- those before it.
pub modules_fit : {M S : Type 0} (head : Codec BlockFault M) (own : M → ℕ) (item : Codec BlockFault S) (value : Listed M S)
    → length value.modules ≤ 256 → length value.submodules ≤ 256 → sum_by own value.modules ≡ length value.submodules
    → FitsNested head.Fits own item.Fits value.modules value.submodules → (listed_modules (λ _. head) own (λ _. item)).Fits value
unfolding listed_modules module_list next_entry
modules_fit head own item value few places counted fits = (
  omega (arith, few),
  outer_bounded head own item 256 Count [] [] value.modules value.submodules (omega (arith, few)) (omega (arith, places)) counted fits,
)
