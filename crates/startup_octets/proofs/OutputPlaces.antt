-- The outputs of a plan and their places in a frame.
use Rattle.std.proofs.Common.{◌≡◌, ◌+◌, ◌-◌, ◌<◌, ◌≤◌, ◌==◌, ℕ, zero, suc, Bool, true, false, cond, List, [], ◌∷◌, ◌++◌, length, map, take, drop, get_or, replicate, flat_map, Option, Some, None, option_map, if◌then◌else◌, refl, sym, ap, ◌∙◌, append_assoc, arith}
use Rattle.std.specs.Prelude.{unwrap_or}
use Rattle.std.specs.List.{AllByRecursion}
use Rattle.std.proofs.lemmas.List.{get_or-drop, get_or-take, length-drop, length-take-le, take-take}
use Rattle.pn_values.specs.declared.real.RealModule.{RealModule}
use Rattle.pn_values.specs.declared.real.RealSubmodule.{RealSubmodule}
use Rattle.connect_blocks.specs.declared.iocr.IocrType.TheVariants as direction
use Rattle.cyclic_data.specs.declared.place.ExpectedData.{ExpectedData}
use Rattle.cyclic_data.specs.declared.place.Place.{Place}
use Rattle.cyclic_data.specs.declared.place.PlaceKind.TheVariants.{Data}
use Rattle.cyclic_data.specs.Image.{cell_of, good, output_of, status_in, value_in}
use Rattle.cyclic_data.specs.Layout.{IsInside, IsSolid}
use Rattle.plans.specs.Packed.{packed, place_at}
use Rattle.plans.specs.Parts.{data_in_slot, data_of, some_octets}
use Rattle.octets_law.specs.Octets.{part, untagged}
use Rattle.startup_octets.specs.declared.outputs.Output.{Output}
use Rattle.startup_octets.specs.Outputs.{carried, outputs_in, part_outputs}
use Rattle.relations.specs.declared.options.DeviceOptions.{DeviceOptions}
use Rattle.startup_octets.proofs.OutputFrames.{IsCarrier}

-- ---- lists

module _ {A B : Type 0} where
  flat_append : (f : A → List B) (some more : List A) → flat_map f (some ++ more) ≡ flat_map f some ++ flat_map f more
  flat_append f [] more = refl
  flat_append f (one ∷ others) more = ap (λ (l : List B). f one ++ l) (flat_append f others more) ∙ sym (append_assoc (f one) (flat_map f others) (flat_map f more))

  pub map_same : (f g : A → B) (l : List A) → AllByRecursion (λ x. f x ≡ g x) l → map f l ≡ map g l
  map_same f g [] same = refl
  map_same f g (x ∷ l) same = ap (λ (y : B). y ∷ map f l) same.0 ∙ ap (λ (ys : List B). g x ∷ ys) (map_same f g l same.1)

  pub each_same : (f g : A → B) (l : List A) → map f l ≡ map g l → AllByRecursion (λ x. f x ≡ g x) l
  each_same f g [] same = tt
  each_same f g (x ∷ l) same = (head (f x) (g x) (map f l) (map g l) same, each_same f g l (tail (f x) (g x) (map f l) (map g l) same))
    where
      head : (x y : B) (xs ys : List B) → x ∷ xs ≡ y ∷ ys → x ≡ y
      head x y xs ys e = cc

      tail : (x y : B) (xs ys : List B) → x ∷ xs ≡ y ∷ ys → xs ≡ ys
      tail x y xs ys e = cc

module _ {A : Type 0} where
  pub front_all : (P : A → Type 0) (some more : List A) → AllByRecursion P (some ++ more) → AllByRecursion P some
  front_all P [] more all = tt
  front_all P (one ∷ some) more all = (all.0, front_all P some more all.1)

  pub all_so : (P Q : A → Type 0) → ((x : A) → P x → Q x) → (l : List A) → AllByRecursion P l → AllByRecursion Q l
  all_so P Q so [] all = tt
  all_so P Q so (x ∷ l) all = (so x all.0, all_so P Q so l all.1)

  pub all_both : (P Q : A → Type 0) (l : List A) → AllByRecursion P l → AllByRecursion Q l → AllByRecursion (λ x. P x × Q x) l
  all_both P Q [] one other = tt
  all_both P Q (x ∷ l) one other = ((one.0, other.0), all_both P Q l one.1 other.1)

-- ---- the outputs of what a Connect expects

abbrev output_if : ℕ → ℕ → Option ℕ → List Output
output_if slot subslot (Some size) = record { slot = slot; subslot = subslot; size = size } ∷ []
output_if slot subslot None = []

abbrev output_for : ExpectedData → List Output
output_for sub = output_if sub.slot sub.subslot sub.io_data.output

abbrev pub outputs_for : List ExpectedData → List Output
outputs_for subs = flat_map output_for subs

part_is : (slot : ℕ) (part : RealSubmodule) → part_outputs slot part ≡ output_if slot part.subslot (some_octets part.output)
part_is slot part = by_test (part.output == 0)
  where
    by_test : (b : Bool) → cond b [] (record { slot = slot; subslot = part.subslot; size = part.output } ∷ []) ≡ output_if slot part.subslot (cond b None (Some part.output))
    by_test true = refl
    by_test false = refl

parts_are : (slot : ℕ) (parts : List RealSubmodule) → flat_map (part_outputs slot) parts ≡ outputs_for (data_in_slot slot parts)
parts_are slot [] = refl
parts_are slot (part ∷ parts) =
    ap (λ (l : List Output). l ++ flat_map (part_outputs slot) parts) (part_is slot part)
    ∙ ap (λ (l : List Output). output_if slot part.subslot (some_octets part.output) ++ l) (parts_are slot parts)

pub outputs_are : (modules : List RealModule) → outputs_in modules ≡ outputs_for (data_of modules)
outputs_are [] = refl
outputs_are (entry ∷ modules) =
    ap (λ (l : List Output). l ++ outputs_in modules) (parts_are entry.slot entry.submodules.items)
    ∙ ap (λ (l : List Output). outputs_for (data_in_slot entry.slot entry.submodules.items) ++ l) (outputs_are modules)
    ∙ sym (flat_append output_for (data_in_slot entry.slot entry.submodules.items) (data_of modules))

-- ---- their places

abbrev pub places_from : ℕ → List ExpectedData → List Place
places_from offset subs = packed direction.Output Data offset subs

-- The place of an output.
abbrev pub placed_at : ℕ → Output → Place
placed_at offset output = record { kind = Data; slot = output.slot; subslot = output.subslot; offset = offset; size = output.size + 1 }

module _ {X : Type 0} (f : Output → X) (g : Place → X) (same : (offset : ℕ) (output : Output) → f output ≡ g (placed_at offset output)) where
  -- What depends on outputs alone depends on their places alone.
  pub mapped : (offset : ℕ) (subs : List ExpectedData) → map f (outputs_for subs) ≡ map g (places_from offset subs)
  mapped offset [] = refl
  mapped offset (sub ∷ subs) = by_size sub.io_data.output (λ next. mapped next subs)
    where
      by_size : (size : Option ℕ) → ((next : ℕ) → map f (outputs_for subs) ≡ map g (places_from next subs))
          → map f (output_if sub.slot sub.subslot size ++ outputs_for subs)
          ≡ map g (place_at Data offset sub (option_map (λ n. n + 1) size) ++ places_from (offset + unwrap_or (option_map (λ n. n + 1) size) 0) subs)
      by_size None rest = rest (offset + 0)
      by_size (Some size) rest =
          let output : Output = record { slot = sub.slot; subslot = sub.subslot; size = size } in
          ap (λ (x : X). x ∷ map f (outputs_for subs)) (same offset output) ∙ ap (λ (xs : List X). g (placed_at offset output) ∷ xs) (rest (offset + (size + 1)))

module _ (P : ℕ → ℕ → Type 0) where
  -- What holds of the slot and the subslot of each place, holds of those of each output.
  pub all_mapped : (offset : ℕ) (subs : List ExpectedData) → AllByRecursion (λ (place : Place). P place.slot place.subslot) (places_from offset subs)
      → AllByRecursion (λ (output : Output). P output.slot output.subslot) (outputs_for subs)
  all_mapped offset [] all = tt
  all_mapped offset (sub ∷ subs) all = by_size sub.io_data.output (λ next. all_mapped next subs) all
    where
      by_size : (size : Option ℕ)
          → ((next : ℕ) → AllByRecursion (λ (place : Place). P place.slot place.subslot) (places_from next subs)
          → AllByRecursion (λ (output : Output). P output.slot output.subslot) (outputs_for subs))
          → AllByRecursion (λ (place : Place). P place.slot place.subslot)
          (place_at Data offset sub (option_map (λ n. n + 1) size) ++ places_from (offset + unwrap_or (option_map (λ n. n + 1) size) 0) subs)
          → AllByRecursion (λ (output : Output). P output.slot output.subslot) (output_if sub.slot sub.subslot size ++ outputs_for subs)
      by_size None rest all = rest (offset + 0) all
      by_size (Some size) rest all = (all.0, rest (offset + (size + 1)) all.1)

-- What a frame carries at a place.
abbrev pub read_at : List ℕ → ℕ → ℕ → List ℕ
read_at frame place size = if get_or frame (place + size) 0 == 0x80 then part place size frame else replicate size 0

abbrev pub read_in : List ℕ → Place → Option (List ℕ)
read_in frame place = Some (read_at frame (16 + place.offset) (place.size - 1))

pub carried_are : (frame : List ℕ) (offset : ℕ) (subs : List ExpectedData) → carried (16 + offset) (outputs_for subs) frame ≡ map (read_in frame) (places_from offset subs)
carried_are frame offset [] = refl
carried_are frame offset (sub ∷ subs) = by_size sub.io_data.output (λ next. carried_are frame next subs)
  where
    by_size : (size : Option ℕ) → ((next : ℕ) → carried (16 + next) (outputs_for subs) frame ≡ map (read_in frame) (places_from next subs))
        → carried (16 + offset) (output_if sub.slot sub.subslot size ++ outputs_for subs) frame
        ≡ map (read_in frame) (place_at Data offset sub (option_map (λ n. n + 1) size) ++ places_from (offset + unwrap_or (option_map (λ n. n + 1) size) 0) subs)
    by_size None rest =
        let none : offset ≡ offset + 0 = omega arith in
        ap (λ (k : ℕ). carried (16 + k) (outputs_for subs) frame) none ∙ rest (offset + 0)
    by_size (Some size) rest =
        let before : size ≡ (size + 1) - 1 = omega arith in
        let next : 16 + offset + size + 1 ≡ 16 + (offset + (size + 1)) = omega arith in
        ap (λ (n : ℕ). Some (read_at frame (16 + offset) n) ∷ carried (16 + offset + size + 1) (outputs_for subs) frame) before
        ∙ ap (λ (k : ℕ). Some (read_at frame (16 + offset) ((size + 1) - 1)) ∷ carried k (outputs_for subs) frame) next
        ∙ ap (λ (l : List (Option (List ℕ))). Some (read_at frame (16 + offset) ((size + 1) - 1)) ∷ l) (rest (offset + (size + 1)))

-- ---- what the octets of the data have at a place

mid_take : (k m n : ℕ) (l : List ℕ) → k + m ≤ n → take m (drop k (take n l)) ≡ take m (drop k l)
mid_take zero m n l short = take-take m n l (omega (arith, short))
mid_take (suc k) m zero l short = absurd (omega (arith, short))
mid_take (suc k) m (suc n) [] short = refl
mid_take (suc k) m (suc n) (x ∷ l) short = mid_take k m n l (omega (arith, short))

-- A frame carries at a place what the octets of its data have there.
pub place_read : (options : DeviceOptions) (n : ℕ) (frame octets : List ℕ) → IsCarrier options n frame octets → (place : Place) → IsInside n place → IsSolid place
    → read_in (untagged frame) place ≡ Some (output_of (cell_of octets place))
place_read options n frame octets it place inside solid =
    let size = place.size - 1 in
    let offset = place.offset in
    let bare = untagged frame in
    let body = it.body in
    let few : offset + size ≤ n = omega (arith, inside, solid) in
    let less : offset + size < n = omega (arith, inside, solid) in
    let value : part (16 + offset) size bare ≡ value_in octets place =
    ap (take size) (it.behind offset) ∙ sym (mid_take offset size n body few) ∙ ap (λ (l : List ℕ). take size (drop offset l)) it.front.are in
    let left = length-drop offset octets in
    let long : length octets ≡ n = ap length (sym it.front.are) ∙ length-take-le n body it.front.long in
    let many : length (value_in octets place) ≡ size = length-take-le size (drop offset octets) (omega (arith, left, long, few)) in
    let status : get_or bare (16 + offset + size) 0 ≡ status_in octets place =
    ap (λ (k : ℕ). get_or bare k 0) (there offset size)
    ∙ sym (get_or-drop (16 + (offset + size)) bare 0 0)
    ∙ ap (λ (l : List ℕ). get_or l 0 0) (it.behind (offset + size))
    ∙ get_or-drop (offset + size) body 0 0
    ∙ ap (λ (k : ℕ). get_or body k 0) (none (offset + size))
    ∙ sym (get_or-take n body (offset + size) 0 less)
    ∙ ap (λ (l : List ℕ). get_or l (offset + size) 0) it.front.are in
    ap (λ (s : ℕ). Some (if s == 0x80 then part (16 + offset) size bare else replicate size 0)) status
    ∙ ap (λ (v : List ℕ). Some (if status_in octets place == good then v else replicate size 0)) value
    ∙ ap (λ (k : ℕ). Some (if status_in octets place == good then value_in octets place else replicate k 0)) (sym many)
  where
    there : (offset size : ℕ) → 16 + offset + size ≡ 16 + (offset + size) + 0
    there offset size = omega arith

    none : (k : ℕ) → k + 0 ≡ k
    none k = omega arith
