-- What is plugged after a pull or a plug, by the index of the module.
use Rattle.std.proofs.Common.{◌≡◌, ◌<◌, ◌==◌, ◌&&◌, ℕ, Bool, true, not, nat_le, nat_lt, List, length, Option, Some, None, option_map, is_none, is_some, unwrap_or, if◌then◌else◌, refl, sym, ap, ◌∙◌}
use Rattle.std.specs.Prelude.{slice_get, slice_set}
use Rattle.std.specs.List.{position_or_len}
use Rattle.std.proofs.lemmas.Bool.{and_parts, ltb-true}
use Rattle.arrayvec.specs.ArrayVec.{ArrayVec}
use Rattle.pn_values.specs.declared.real.RealModule.{RealModule}
use Rattle.pn_values.specs.declared.real.RealSubmodule.{RealSubmodule}
use Rattle.module_diff.specs.Plugged.{module_in, part_ident}
use Rattle.module_diff.specs.Changes.{added, has_room_in, is_in_slot, is_in_subslot, is_past_slot, is_past_subslot, is_pluggable, is_sized, module_with, part_added, part_pulled, plugged_with, pulled, with_before, with_first, with_parts, without}
use Rattle.module_diff.proofs.ChangedLists.{found_at_place, none_changed, one_changed, set_by, set_itself}

-- The index of the module in a slot.
abbrev pub place_of : ℕ → List RealModule → ℕ
place_of slot modules = position_or_len (is_in_slot slot) modules

-- A module with these submodules, as they lie.
abbrev pub holding : RealModule → ArrayVec RealSubmodule → RealModule
holding entry parts = record { slot = entry.slot; ident = entry.ident; submodules = parts }

-- ---- a pull

some_set : (modules : List RealModule) (place : ℕ) (entry : RealModule) (got : Option (List RealSubmodule))
    → is_some (set_by modules place (option_map (with_parts entry) got)) ≡ is_some got
some_set modules place entry None = refl
some_set modules place entry (Some parts) = refl

module _ (slot subslot : ℕ) (modules : List RealModule) where
  pub nothing_pulled : slice_get modules (place_of slot modules) ≡ None → pulled slot subslot modules ≡ None
  nothing_pulled none = none_changed (is_in_slot slot) (part_pulled subslot) modules none

  module _ (entry : RealModule) (found : slice_get modules (place_of slot modules) ≡ Some entry) where
    pulled_is : pulled slot subslot modules ≡ set_by modules (place_of slot modules) (part_pulled subslot entry)
    pulled_is = one_changed (is_in_slot slot) (part_pulled subslot) modules entry found

    pub is_pulled : is_some (without (is_in_subslot subslot) entry.submodules.items) ≡ is_some (pulled slot subslot modules)
    is_pulled =
        sym (ap (λ (o : Option (List RealModule)). is_some o) pulled_is
        ∙ some_set modules (place_of slot modules) entry (without (is_in_subslot subslot) entry.submodules.items))

    left_by : (parts : ArrayVec RealSubmodule) (got : Option (List RealSubmodule)) → parts.items ≡ unwrap_or got entry.submodules.items
        → slice_set modules (place_of slot modules) (holding entry parts)
        ≡ unwrap_or (set_by modules (place_of slot modules) (option_map (with_parts entry) got)) modules
    left_by parts None is =
        ap (λ (items : List RealSubmodule). slice_set modules (place_of slot modules) (with_parts entry items)) is
        ∙ set_itself modules (place_of slot modules) entry found
    left_by parts (Some items) is = ap (λ (xs : List RealSubmodule). slice_set modules (place_of slot modules) (with_parts entry xs)) is

    -- What is plugged then.
    pub left_plugged : (parts : ArrayVec RealSubmodule)
        → parts.items ≡ unwrap_or (without (is_in_subslot subslot) entry.submodules.items) entry.submodules.items
        → slice_set modules (place_of slot modules) (holding entry parts) ≡ unwrap_or (pulled slot subslot modules) modules
    left_plugged parts is =
        left_by parts (without (is_in_subslot subslot) entry.submodules.items) is
        ∙ sym (ap (λ (o : Option (List RealModule)). unwrap_or o modules) pulled_is)

-- ---- a plug

module _ (slot ident : ℕ) (part : RealSubmodule) (modules : List RealModule) (can : is_pluggable slot ident part modules ≡ true) where
  room : has_room_in (module_in modules slot) (length modules) ident part.subslot ≡ true
  room =
      let one = and_parts (nat_lt 0 slot) (nat_le slot 15 && (not (ident == 0) && (is_sized part && has_room_in (module_in modules slot) (length modules) ident part.subslot))) can in
      let two = and_parts (nat_le slot 15) (not (ident == 0) && (is_sized part && has_room_in (module_in modules slot) (length modules) ident part.subslot)) one.1 in
      let three = and_parts (not (ident == 0)) (is_sized part && has_room_in (module_in modules slot) (length modules) ident part.subslot) two.1 in
      let four = and_parts (is_sized part) (has_room_in (module_in modules slot) (length modules) ident part.subslot) three.1 in
      four.1

  room_with : (found : Option RealModule) → slice_get modules (place_of slot modules) ≡ found → has_room_in found (length modules) ident part.subslot ≡ true
  room_with found is =
      ap (λ (o : Option RealModule). has_room_in o (length modules) ident part.subslot) (sym is ∙ found_at_place (is_in_slot slot) modules) ∙ room

  plugged_is : plugged_with slot ident part modules ≡ Some (added slot ident part modules)
  plugged_is = ap (λ (b : Bool). if b then Some (added slot ident part modules) else None) can

  pub room_for_module : slice_get modules (place_of slot modules) ≡ None → length modules < 16
  room_for_module none = ltb-true (length modules) 16 (room_with None none)

  pub module_plugged : slice_get modules (place_of slot modules) ≡ None
      → with_before (is_past_slot slot) (module_with slot ident part) modules ≡ unwrap_or (plugged_with slot ident part modules) modules
  module_plugged none =
      sym (ap (λ (o : Option (List RealModule)). unwrap_or o modules) plugged_is
      ∙ ap (λ (o : Option (List RealModule)). unwrap_or o (with_before (is_past_slot slot) (module_with slot ident part) modules))
      (none_changed (is_in_slot slot) (λ entry. Some (part_added part entry)) modules none))

  module _ (entry : RealModule) (found : slice_get modules (place_of slot modules) ≡ Some entry) where
    pub room_for_part : length entry.submodules.items < 4
    room_for_part =
        let both = and_parts (entry.ident == ident) (is_none (part_ident entry.submodules.items part.subslot) && nat_lt (length entry.submodules.items) 4) (room_with (Some entry) found) in
        let last = and_parts (is_none (part_ident entry.submodules.items part.subslot)) (nat_lt (length entry.submodules.items) 4) both.1 in
        ltb-true (length entry.submodules.items) 4 last.1

    pub part_plugged : (parts : ArrayVec RealSubmodule) → parts.items ≡ with_before (is_past_subslot part.subslot) part entry.submodules.items
        → slice_set modules (place_of slot modules) (holding entry parts) ≡ unwrap_or (plugged_with slot ident part modules) modules
    part_plugged parts is =
        ap (λ (items : List RealSubmodule). slice_set modules (place_of slot modules) (with_parts entry items)) is
        ∙ sym (ap (λ (o : Option (List RealModule)). unwrap_or o modules) plugged_is
        ∙ ap (λ (o : Option (List RealModule)). unwrap_or o (with_before (is_past_slot slot) (module_with slot ident part) modules))
        (one_changed (is_in_slot slot) (λ e. Some (part_added part e)) modules entry found))
