-- Lists of modules with their submodules, read at their places.
use Rattle.std.proofs.Common.{◌≡◌, ◌+◌, ◌*◌, ◌<◌, ◌++◌, ℕ, zero, suc, List, [], ◌∷◌, drop, length, take, refl, sym, ap, ◌∙◌, subst, arith}
use Rattle.std.specs.List.{AllByRecursion}
use Rattle.std.proofs.lemmas.List.{append-nil, length-drop, length-take-le}
use Rattle.byteorder.specs.Endian.{big_bytes}
use Rattle.byteorder.specs.Numbers.{big_number-reads_back}
use Rattle.wire.specs.Codec.{Codec}
use Rattle.wire.specs.Counted.{write_each}
use Rattle.wire.specs.Nested.{flat_bytes, nested_bytes, write_outer}
use Rattle.wire.specs.declared.blocks.fault.BlockFault.{BlockFault}
use Rattle.wire.specs.blocks.Fields.{body, number_bytes, version}
use Rattle.wire.specs.blocks.modules.Lists.{Listed, listed_modules, module_list, next_entry}
use Rattle.connect_blocks.specs.declared.module_diff.DiffModule.{DiffModule}
use Rattle.connect_blocks.specs.declared.module_diff.DiffSubmodule.{DiffSubmodule}
use Rattle.connect_blocks.specs.declared.module_diff.ModuleDiffBlock.{ModuleDiffBlock}
use Rattle.connect_blocks.specs.ModuleDiff as of_diff
use Rattle.connect_blocks.specs.ModuleDiff.{diff_module, diff_modules, diff_submodule, module_diff}
use Rattle.record_blocks.specs.declared.filter_data.FilterModule.{FilterModule}
use Rattle.record_blocks.specs.declared.filter_data.FilterSubmodule.{FilterSubmodule}
use Rattle.record_blocks.specs.declared.filter_data.ImFilterData.{ImFilterData}
use Rattle.record_blocks.specs.FilterData as of_filter
use Rattle.record_blocks.specs.FilterData.{filter_data, filter_module, filter_modules, filter_submodule}
use Rattle.block_codec.specs.declared.block.Block.TheVariants as is
use Rattle.block_codec.specs.Block.{block, block_bytes, block_size, body_of, fields_of}
use Rattle.block_codec.specs.Kinds.{number_of, type_of}
use Rattle.records.specs.reads.Listing.{identification_bytes}
use Rattle.end_laws.specs.log_data.Reading.{number_at}
use Rattle.fields_law.specs.Modules.{AreDiffModules, AreDiffSubmodules, AreListedModules, AreListedSubmodules, IsListing, IsModuleDiff, IsSizedDiff, IsSizedDiffModule, IsSizedDiffSubmodule, IsSizedListed, IsSizedListedPart, IsSizedListing, diff_count, listed_count}
use Rattle.fields_law.proofs.ReadingBlocks.{AreLong, block_is, headed, headed_is, headed_long, size_in, with_size}
use Rattle.fields_law.proofs.ReadingPlaces.{past}

-- ---- what is written, if it does not depend on the entries before

module _ {M S : Type 0} (head : Codec BlockFault M) (own : M → ℕ) (item : Codec BlockFault S) where
  each_is : (start : ℕ) (before parts : List S) (rest : List ℕ)
      → write_each (next_entry (λ _. item) start) before parts rest ≡ flat_bytes item.write parts rest
  unfolding next_entry
  each_is start before [] rest = refl
  each_is start before (part ∷ parts) rest = ap (λ (xs : List ℕ). item.write part xs) (each_is start (before ++ part ∷ []) parts rest)

  pub outer_is : (first : List M) (second : List S) (entries : List M) (parts : List S) (rest : List ℕ)
      → write_outer (next_entry (λ _. head) 0) own (next_entry (λ _. item)) first second entries parts rest
      ≡ nested_bytes head.write own item.write entries parts rest
  unfolding next_entry
  outer_is first second [] parts rest = refl
  outer_is first second (entry ∷ entries) parts rest =
      let others = outer_is (first ++ entry ∷ []) (second ++ take (own entry) parts) entries (drop (own entry) parts) rest in
      ap (λ (xs : List ℕ). head.write entry xs)
      (each_is (length second) second (take (own entry) parts)
      (write_outer (next_entry (λ _. head) 0) own (next_entry (λ _. item)) (first ++ entry ∷ []) (second ++ take (own entry) parts) entries
      (drop (own entry) parts) rest)
      ∙ ap (λ (xs : List ℕ). flat_bytes item.write (take (own entry) parts) xs) others)

-- the submodules of the first module, if they are there
taken_long : {S : Type 0} (own others : ℕ) (parts : List S) → own + others ≡ length parts
    → (length (take own parts) ≡ own) × (length (drop own parts) ≡ others)
taken_long own others parts counted =
    let t = length-take-le own parts (omega (arith, counted)) in
    let d = length-drop own parts in
    (t, omega (arith, d, counted))

all_taken : {S : Type 0} (P : S → Type 0) (count : ℕ) (parts : List S) → AllByRecursion P parts → AllByRecursion P (take count parts)
all_taken P zero parts all = tt
all_taken P (suc count) [] all = tt
all_taken P (suc count) (part ∷ parts) all = (all.0, all_taken P count parts all.1)

all_left : {S : Type 0} (P : S → Type 0) (count : ℕ) (parts : List S) → AllByRecursion P parts → AllByRecursion P (drop count parts)
all_left P zero parts all = all
all_left P (suc count) [] all = tt
all_left P (suc count) (part ∷ parts) all = all_left P count parts all.1

-- no submodule is left where none is counted
none_left : {S : Type 0} (parts : List S) → 0 ≡ length parts → parts ≡ []
none_left [] none = refl
none_left (part ∷ parts) none = absurd (omega (arith, none))

-- ---- ModuleDiffBlock

abbrev diff_head : DiffModule → List ℕ → List ℕ
diff_head entry rest =
    big_bytes 2 entry.slot_number
    ++ (big_bytes 4 entry.module_ident_number ++ (big_bytes 2 entry.module_state ++ (big_bytes 2 entry.number_of_submodules ++ rest)))

abbrev diff_part : DiffSubmodule → List ℕ → List ℕ
diff_part part rest = big_bytes 2 part.subslot_number ++ (big_bytes 4 part.submodule_ident_number ++ (big_bytes 2 part.submodule_state ++ rest))

diff_parts_read : (parts : List DiffSubmodule) (rest : List ℕ) → AllByRecursion IsSizedDiffSubmodule parts
    → AreDiffSubmodules (flat_bytes diff_part parts rest) parts
diff_parts_read [] rest all = tt
diff_parts_read (part ∷ parts) rest all = (
  big_number-reads_back 2 part.subslot_number [] all.0.subslot,
  big_number-reads_back 4 part.submodule_ident_number [] all.0.ident,
  big_number-reads_back 2 part.submodule_state [] all.0.state,
  diff_parts_read parts rest all.1,
)

diff_parts_after : (parts : List DiffSubmodule) (rest : List ℕ) → drop (8 * length parts) (flat_bytes diff_part parts rest) ≡ rest
diff_parts_after [] rest = refl
diff_parts_after (part ∷ parts) rest =
    let more : 8 * length (part ∷ parts) ≡ length (diff_part part []) + 8 * length parts = omega arith in
    ap (λ (n : ℕ). drop n (flat_bytes diff_part (part ∷ parts) rest)) more
    ∙ past (diff_part part []) (flat_bytes diff_part parts rest) (8 * length parts)
    ∙ diff_parts_after parts rest

diff_parts_long : (parts : List DiffSubmodule) (rest : List ℕ) → length (flat_bytes diff_part parts rest) ≡ 8 * length parts + length rest
diff_parts_long [] rest = omega arith
diff_parts_long (part ∷ parts) rest = let others = diff_parts_long parts rest in omega (arith, others)

abbrev diff_bytes : List DiffModule → List DiffSubmodule → List ℕ
diff_bytes entries parts = nested_bytes diff_head (λ entry. entry.number_of_submodules) diff_part entries parts []

diff_after : (entry : DiffModule) (entries : List DiffModule) (parts : List DiffSubmodule) → length (take entry.number_of_submodules parts) ≡ entry.number_of_submodules
    → drop (10 + 8 * entry.number_of_submodules) (diff_bytes (entry ∷ entries) parts) ≡ diff_bytes entries (drop entry.number_of_submodules parts)
diff_after entry entries parts long =
    let own = take entry.number_of_submodules parts in
    let after = diff_bytes entries (drop entry.number_of_submodules parts) in
    let more : 10 + 8 * entry.number_of_submodules ≡ length (diff_head entry []) + 8 * length own = omega (arith, long) in
    ap (λ (n : ℕ). drop n (diff_bytes (entry ∷ entries) parts)) more
    ∙ past (diff_head entry []) (flat_bytes diff_part own after) (8 * length own)
    ∙ diff_parts_after own after

diff_read : (entries : List DiffModule) (parts : List DiffSubmodule) → diff_count entries ≡ length parts
    → AllByRecursion IsSizedDiffModule entries → AllByRecursion IsSizedDiffSubmodule parts → AreDiffModules (diff_bytes entries parts) entries parts
diff_read [] parts counted entries_fit parts_fit = (refl, none_left parts counted)
diff_read (entry ∷ entries) parts counted entries_fit parts_fit =
    let count = entry.number_of_submodules in
    let long = taken_long count (diff_count entries) parts counted in
    let after = diff_bytes entries (drop count parts) in (
      big_number-reads_back 2 entry.slot_number [] entries_fit.0.slot,
      big_number-reads_back 4 entry.module_ident_number [] entries_fit.0.ident,
      big_number-reads_back 2 entry.module_state [] entries_fit.0.state,
      big_number-reads_back 2 entry.number_of_submodules [] entries_fit.0.count,
      diff_parts_read (take count parts) after (all_taken IsSizedDiffSubmodule count parts parts_fit),
      subst (λ (xs : List ℕ). AreDiffModules xs entries (drop count parts)) (sym (diff_after entry entries parts long.0))
          (diff_read entries (drop count parts) (sym long.1) entries_fit.1 (all_left IsSizedDiffSubmodule count parts parts_fit)),
    )

diff_long : (entries : List DiffModule) (parts : List DiffSubmodule) → diff_count entries ≡ length parts
    → length (diff_bytes entries parts) ≡ 10 * length entries + 8 * length parts
diff_long [] parts counted = omega (arith, counted)
diff_long (entry ∷ entries) parts counted =
    let count = entry.number_of_submodules in
    let long = taken_long count (diff_count entries) parts counted in
    let own = diff_parts_long (take count parts) (diff_bytes entries (drop count parts)) in
    let others = diff_long entries (drop count parts) (sym long.1) in
    let taken = long.0 in
    let left = long.1 in
    omega (arith, own, others, taken, left, counted)

module _ (long : AreLong) (rows : Listed DiffModule DiffSubmodule) (sized : IsSizedDiff rows) where
  abbrev diff_block : ModuleDiffBlock
  diff_block = record { api = 0; modules = rows }

  abbrev diff_inside : List ℕ
  diff_inside = big_bytes 2 1 ++ (big_bytes 4 0 ++ (big_bytes 2 (length rows.modules) ++ diff_bytes rows.modules rows.submodules))

  diff_spelled : module_diff.write diff_block [] ≡ diff_inside
  unfolding module_diff diff_modules listed_modules module_list number_bytes diff_module diff_submodule
  diff_spelled =
      ap (λ (xs : List ℕ). big_bytes 2 1 ++ (big_bytes 4 0 ++ (big_bytes 2 (length rows.modules) ++ xs)))
      (outer_is diff_module of_diff.own_of diff_submodule [] [] rows.modules rows.submodules [])

  diff_written : block_bytes (is.ModuleDiffBlock diff_block) ≡ with_size 0x8104 (size_in (is.ModuleDiffBlock diff_block)) (module_diff.write diff_block [])
  unfolding block_bytes block body_of fields_of number_of type_of body version number_bytes
  diff_written =
      ap (λ (xs : List ℕ). big_bytes 2 0x8104 ++ (big_bytes 2 (size_in (is.ModuleDiffBlock diff_block)) ++ xs))
      (append-nil (1 ∷ 0 ∷ module_diff.write diff_block []))

  diff_made : block_bytes (is.ModuleDiffBlock diff_block) ≡ headed 0x8104 diff_inside
  diff_made =
      headed_is long (is.ModuleDiffBlock diff_block) 0x8104 diff_inside
      (diff_written ∙ ap (λ (xs : List ℕ). with_size 0x8104 (size_in (is.ModuleDiffBlock diff_block)) xs) diff_spelled)

  diff_is : IsModuleDiff (headed 0x8104 diff_inside) rows
  diff_is =
      let few_modules = sized.few_modules in
      let few_submodules = sized.few_submodules in
      let all = diff_long rows.modules rows.submodules sized.counted in
      let here = block_is 0x8104 diff_inside (omega arith) (omega (arith, all, few_modules, few_submodules)) in
      record {
        kind = here.kind;
        size = here.size;
        version = here.version;
        apis = refl;
        api = refl;
        count = big_number-reads_back 2 (length rows.modules) [] (omega (arith, few_modules));
        modules = diff_read rows.modules rows.submodules sized.counted sized.modules sized.submodules;
      }

  pub module_diff_read : IsModuleDiff (block_bytes (is.ModuleDiffBlock diff_block)) rows
  module_diff_read = subst (λ (xs : List ℕ). IsModuleDiff xs rows) (sym diff_made) diff_is

-- ---- I&M0FilterData and the identification of modules

abbrev listed_head : FilterModule → List ℕ → List ℕ
listed_head entry rest =
    big_bytes 2 entry.slot_number ++ (big_bytes 4 entry.module_ident_number ++ (big_bytes 2 entry.number_of_submodules ++ rest))

abbrev listed_part : FilterSubmodule → List ℕ → List ℕ
listed_part part rest = big_bytes 2 part.subslot_number ++ (big_bytes 4 part.submodule_ident_number ++ rest)

listed_parts_read : (parts : List FilterSubmodule) (rest : List ℕ) → AllByRecursion IsSizedListedPart parts
    → AreListedSubmodules (flat_bytes listed_part parts rest) parts
listed_parts_read [] rest all = tt
listed_parts_read (part ∷ parts) rest all = (
  big_number-reads_back 2 part.subslot_number [] all.0.subslot,
  big_number-reads_back 4 part.submodule_ident_number [] all.0.ident,
  listed_parts_read parts rest all.1,
)

listed_parts_after : (parts : List FilterSubmodule) (rest : List ℕ) → drop (6 * length parts) (flat_bytes listed_part parts rest) ≡ rest
listed_parts_after [] rest = refl
listed_parts_after (part ∷ parts) rest =
    let more : 6 * length (part ∷ parts) ≡ length (listed_part part []) + 6 * length parts = omega arith in
    ap (λ (n : ℕ). drop n (flat_bytes listed_part (part ∷ parts) rest)) more
    ∙ past (listed_part part []) (flat_bytes listed_part parts rest) (6 * length parts)
    ∙ listed_parts_after parts rest

listed_parts_long : (parts : List FilterSubmodule) (rest : List ℕ) → length (flat_bytes listed_part parts rest) ≡ 6 * length parts + length rest
listed_parts_long [] rest = omega arith
listed_parts_long (part ∷ parts) rest = let others = listed_parts_long parts rest in omega (arith, others)

abbrev listed_bytes : List FilterModule → List FilterSubmodule → List ℕ
listed_bytes entries parts = nested_bytes listed_head (λ entry. entry.number_of_submodules) listed_part entries parts []

listed_after : (entry : FilterModule) (entries : List FilterModule) (parts : List FilterSubmodule) → length (take entry.number_of_submodules parts) ≡ entry.number_of_submodules
    → drop (8 + 6 * entry.number_of_submodules) (listed_bytes (entry ∷ entries) parts) ≡ listed_bytes entries (drop entry.number_of_submodules parts)
listed_after entry entries parts long =
    let own = take entry.number_of_submodules parts in
    let after = listed_bytes entries (drop entry.number_of_submodules parts) in
    let more : 8 + 6 * entry.number_of_submodules ≡ length (listed_head entry []) + 6 * length own = omega (arith, long) in
    ap (λ (n : ℕ). drop n (listed_bytes (entry ∷ entries) parts)) more
    ∙ past (listed_head entry []) (flat_bytes listed_part own after) (6 * length own)
    ∙ listed_parts_after own after

listed_read : (entries : List FilterModule) (parts : List FilterSubmodule) → listed_count entries ≡ length parts
    → AllByRecursion IsSizedListed entries → AllByRecursion IsSizedListedPart parts → AreListedModules (listed_bytes entries parts) entries parts
listed_read [] parts counted entries_fit parts_fit = (refl, none_left parts counted)
listed_read (entry ∷ entries) parts counted entries_fit parts_fit =
    let count = entry.number_of_submodules in
    let long = taken_long count (listed_count entries) parts counted in
    let after = listed_bytes entries (drop count parts) in (
      big_number-reads_back 2 entry.slot_number [] entries_fit.0.slot,
      big_number-reads_back 4 entry.module_ident_number [] entries_fit.0.ident,
      big_number-reads_back 2 entry.number_of_submodules [] entries_fit.0.count,
      listed_parts_read (take count parts) after (all_taken IsSizedListedPart count parts parts_fit),
      subst (λ (xs : List ℕ). AreListedModules xs entries (drop count parts)) (sym (listed_after entry entries parts long.0))
          (listed_read entries (drop count parts) (sym long.1) entries_fit.1 (all_left IsSizedListedPart count parts parts_fit)),
    )

listed_long : (entries : List FilterModule) (parts : List FilterSubmodule) → listed_count entries ≡ length parts
    → length (listed_bytes entries parts) ≡ 8 * length entries + 6 * length parts
listed_long [] parts counted = omega (arith, counted)
listed_long (entry ∷ entries) parts counted =
    let count = entry.number_of_submodules in
    let long = taken_long count (listed_count entries) parts counted in
    let own = listed_parts_long (take count parts) (listed_bytes entries (drop count parts)) in
    let others = listed_long entries (drop count parts) (sym long.1) in
    let taken = long.0 in
    let left = long.1 in
    omega (arith, own, others, taken, left, counted)

module _ (rows : Listed FilterModule FilterSubmodule) (sized : IsSizedListing rows) where
  abbrev listing : ImFilterData
  listing = record { api = 0; modules = rows }

  abbrev listed_inside : List ℕ
  listed_inside = big_bytes 2 1 ++ (big_bytes 4 0 ++ (big_bytes 2 (length rows.modules) ++ listed_bytes rows.modules rows.submodules))

  listed_spelled : filter_data.write listing [] ≡ listed_inside
  unfolding filter_data filter_modules listed_modules module_list number_bytes filter_module filter_submodule
  listed_spelled =
      ap (λ (xs : List ℕ). big_bytes 2 1 ++ (big_bytes 4 0 ++ (big_bytes 2 (length rows.modules) ++ xs)))
      (outer_is filter_module of_filter.own_of filter_submodule [] [] rows.modules rows.submodules [])

  listed_few : length listed_inside < 65000
  listed_few =
      let few_modules = sized.few_modules in
      let few_submodules = sized.few_submodules in
      let all = listed_long rows.modules rows.submodules sized.counted in
      omega (arith, all, few_modules, few_submodules)

  -- with a header of this type and version
  abbrev listed_whole : ℕ → ℕ → List ℕ
  listed_whole type low = big_bytes 2 type ++ (big_bytes 2 (2 + length listed_inside) ++ (1 ∷ low ∷ listed_inside))

  listing_is : (type low : ℕ) → type < 65536 → IsListing (listed_whole type low) type low rows
  listing_is type low fits =
      let few_modules = sized.few_modules in
      let few = listed_few in
      let size : number_at 2 2 (listed_whole type low) ≡ 2 + length listed_inside =
      big_number-reads_back 2 (2 + length listed_inside) [] (omega (arith, few)) in
      record {
        kind = big_number-reads_back 2 type [] fits;
        size = ap (λ (n : ℕ). n + 4) size ∙ omega arith;
        version = refl;
        apis = refl;
        api = refl;
        count = big_number-reads_back 2 (length rows.modules) [] (omega (arith, few_modules));
        modules = listed_read rows.modules rows.submodules sized.counted sized.modules sized.submodules;
      }

  module _ (long : AreLong) where
    submodule_written : block_bytes (is.ImFilterDataSubmodule listing)
        ≡ with_size 0x0030 (size_in (is.ImFilterDataSubmodule listing)) (filter_data.write listing [])
    unfolding block_bytes block body_of fields_of number_of type_of body version number_bytes
    submodule_written =
        ap (λ (xs : List ℕ). big_bytes 2 0x0030 ++ (big_bytes 2 (size_in (is.ImFilterDataSubmodule listing)) ++ xs))
        (append-nil (1 ∷ 0 ∷ filter_data.write listing []))

    pub submodules_made : block_bytes (is.ImFilterDataSubmodule listing) ≡ headed 0x0030 listed_inside
    submodules_made =
        headed_is long (is.ImFilterDataSubmodule listing) 0x0030 listed_inside
        (submodule_written ∙ ap (λ (xs : List ℕ). with_size 0x0030 (size_in (is.ImFilterDataSubmodule listing)) xs) listed_spelled)

    pub filter_submodules_read : IsListing (block_bytes (is.ImFilterDataSubmodule listing)) 0x0030 0 rows
    filter_submodules_read = subst (λ (xs : List ℕ). IsListing xs 0x0030 0 rows) (sym submodules_made) (listing_is 0x0030 0 (omega arith))

    device_written : block_bytes (is.ImFilterDataDevice listing)
        ≡ with_size 0x0032 (size_in (is.ImFilterDataDevice listing)) (filter_data.write listing [])
    unfolding block_bytes block body_of fields_of number_of type_of body version number_bytes
    device_written =
        ap (λ (xs : List ℕ). big_bytes 2 0x0032 ++ (big_bytes 2 (size_in (is.ImFilterDataDevice listing)) ++ xs))
        (append-nil (1 ∷ 0 ∷ filter_data.write listing []))

    device_made : block_bytes (is.ImFilterDataDevice listing) ≡ headed 0x0032 listed_inside
    device_made =
        headed_is long (is.ImFilterDataDevice listing) 0x0032 listed_inside
        (device_written ∙ ap (λ (xs : List ℕ). with_size 0x0032 (size_in (is.ImFilterDataDevice listing)) xs) listed_spelled)

    pub filter_device_read : IsListing (block_bytes (is.ImFilterDataDevice listing)) 0x0032 0 rows
    filter_device_read = subst (λ (xs : List ℕ). IsListing xs 0x0032 0 rows) (sym device_made) (listing_is 0x0032 0 (omega arith))

    -- the identification has no block of the codec: its BlockLength is computed of the fields
    sized_there : filter_data.size listing ≡ length listed_inside
    unfolding block_size fields_of body version
    sized_there =
        let all : length (block_bytes (is.ImFilterDataSubmodule listing)) ≡ 4 + (2 + filter_data.size listing) = long (is.ImFilterDataSubmodule listing) in
        let here : length (block_bytes (is.ImFilterDataSubmodule listing)) ≡ 6 + length listed_inside =
        ap length submodules_made ∙ headed_long 0x0030 listed_inside in
        omega (arith, all, here)

    identification_made : (type : ℕ) → identification_bytes type listing ≡ listed_whole type 1
    unfolding identification_bytes
    identification_made type =
        ap (λ (n : ℕ). big_bytes 2 type ++ (big_bytes 2 (2 + n) ++ (1 ∷ 1 ∷ filter_data.write listing []))) sized_there
        ∙ ap (λ (xs : List ℕ). big_bytes 2 type ++ (big_bytes 2 (2 + length listed_inside) ++ (1 ∷ 1 ∷ xs))) listed_spelled

    pub identification_read : (type : ℕ) → type < 65536 → IsListing (identification_bytes type listing) type 1 rows
    identification_read type fits = subst (λ (xs : List ℕ). IsListing xs type 1 rows) (sym (identification_made type)) (listing_is type 1 fits)
