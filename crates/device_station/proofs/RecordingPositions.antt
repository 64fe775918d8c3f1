-- The position of a journal after a commit, from the room and from the heads that its calls leave unchanged.
use Rattle.std.proofs.Common.{◌≡◌, ◌≢◌, ◌⊎◌, ◌==◌, ◌+◌, ◌-◌, ◌<◌, ◌≤◌, ℕ, zero, suc, List, length, refl, sym, ap, subst, ◌∙◌, inl, inr, arith, Option, Some, None}
use Rattle.std.specs.Prelude.{slice_index}
use Rattle.std.specs.Cmp.Lexicographic.{same_text}
use Rattle.std.proofs.lemmas.Bool.{cases_Bool, cases_eq, cond_both, cond-false, cond-true}
use Rattle.pn_values.specs.declared.settings.Settings.{Settings}
use Rattle.flash_model.specs.Image.{Image, erased, sector_of, other, slots_in}
use Rattle.flash_model.specs.declared.flash.Sector.{Sector}
use Rattle.flash_model.specs.declared.flash.Sector.TheVariants.{First, Second}
use Rattle.settings_journal.specs.Head.{Counts, gate_of, generation_at, head_of, version_at}
use Rattle.settings_journal.specs.Image.{IsActive, IsClosed, StartsAt, head_in, left_in, room_of, slots_of, spare}
use Rattle.settings_journal.specs.Slot.{free_in, is_blank, next_slot, slot_at}
use Rattle.device_station.proofs.RecordingBytes.{other_other}

-- both sectors have 4,096 bytes
abbrev pub AreLong : Image → Type 0
AreLong image = (sector : Sector) → length (sector_of image sector) ≡ 4096

-- such a sector has 14 slots
pub slots_are : (sector : List ℕ) → length sector ≡ 4096 → slots_of sector ≡ 14
slots_are sector long = ap slots_in long

pub either_sector : (one two : Sector) → (one ≡ two) ⊎ (one ≡ other two)
either_sector First First = inl refl
either_sector First Second = inr refl
either_sector Second First = inr refl
either_sector Second Second = inl refl

-- ---- the slots that are left

next_le : (sector : List ℕ) (count : ℕ) → next_slot sector count ≤ count
next_le sector zero = omega arith
next_le sector (suc count) =
    let less = next_le sector count in
    cond_both (is_blank (slot_at sector count)) (next_slot sector count) (suc count) (λ n. n ≤ suc count) (λ blank. omega (arith, less)) (λ used. omega arith)

-- from the next slot on each slot is blank
next_blank : (sector : List ℕ) (count number : ℕ) → next_slot sector count ≤ number → number < count → slot_at sector number ≡ erased 256
next_blank sector zero number from less = absurd (omega (arith, less))
next_blank sector (suc count) number from less = elim (cases_Bool (is_blank (slot_at sector count))) [
  | inl blank ↦
      (let is = cond-true (is_blank (slot_at sector count)) (next_slot sector count) (suc count) blank in
      elim (cases_eq number count) [
        | inl last ↦ subst (λ k. slot_at sector k ≡ erased 256) (sym last) (same_text (slot_at sector count) (erased 256) (sym blank))
        | inr sooner ↦ next_blank sector count number (omega (arith, is, from)) (omega (arith, sooner, less))
      ])
  | inr used ↦ absurd (let is = cond-false (is_blank (slot_at sector count)) (next_slot sector count) (suc count) used in omega (arith, is, from, less))
]

-- if slots are left, they are those from the next one on: a sector of version 1 has none left
some_left : (head sector : List ℕ) (count left : ℕ) → suc left ≡ free_in (version_at head) sector count → count - next_slot sector count ≡ suc left
some_left head sector count left is = elim (cases_Bool (slice_index head 3 == 1)) [ inl one ↦ absurd (let none = rw one at is in cc none) | inr two ↦ sym (rw two at is) ]

pub next_is_blank : (sector : List ℕ) (left : ℕ) → length sector ≡ 4096 → suc left ≡ left_in sector → slot_at sector (14 - suc left) ≡ erased 256
next_is_blank sector left long is =
    let slots = slots_are sector long in
    let next = some_left (head_of sector) sector (slots_of sector) left is in
    let most = next_le sector (slots_of sector) in
    next_blank sector (slots_of sector) (14 - suc left) (omega (arith, slots, next, most)) (omega (arith, slots, next, most))

few_left : (sector : List ℕ) (free : ℕ) → length sector ≡ 4096 → free ≡ left_in sector → free ≤ 14
few_left sector zero long is = omega arith
few_left sector (suc left) long is =
    let slots = slots_are sector long in
    let next = some_left (head_of sector) sector (slots_of sector) left is in
    omega (arith, slots, next)

-- at most 14 slots are left
pub few_free : (image : Image) (active : Option Sector) (settings : Settings) (generation free : ℕ) → AreLong image → StartsAt image active settings generation free → free ≤ 14
few_free image (Some sector) settings generation free long starts = few_left (sector_of image sector) free (long sector) starts.3
few_free image None settings generation free long starts = omega (arith, starts.3)

few_generations : (image : Image) (active : Option Sector) (settings : Settings) (generation free : ℕ) → StartsAt image active settings generation free → generation ≤ 65535
few_generations image (Some sector) settings generation free starts = omega (arith, starts.2)
few_generations image None settings generation free starts = omega (arith, starts.2)

-- ---- the room says which slot is next

one_slot_fewer : (generation next left free : ℕ) → left ≤ 13 → free ≤ 14 → room_of 14 next free ≡ room_of 14 generation (suc left) - 1 → free ≡ left
one_slot_fewer generation next left free few most less = omega (arith, few, most, less)

one_generation_more : (generation next free : ℕ) → generation ≤ 65535 → next ≤ 65535 → free ≤ 14 → room_of 14 generation 0 ≢ 0 → room_of 14 next free ≡ room_of 14 generation 0 - 1 → (next ≡ generation + 1) × (free ≡ 14)
one_generation_more generation next free low now most some less = (omega (arith, low, now, most, some, less), omega (arith, low, now, most, some, less))

-- ---- after a commit in a slot

closed_gate : (image : Image) (sector : Sector) → IsClosed image → gate_of (head_in image sector) ≢ 0
closed_gate image First closed = closed.first
closed_gate image Second closed = closed.second

-- with the same heads no other sector is active
not_other : (image new : Image) (sector : Sector) → ((s : Sector) → head_in new s ≡ head_in image s) → IsActive image sector → IsActive new (other sector) → ⊥
not_other image new sector heads is other_is =
    let older = is.newest (subst Counts (heads (other sector)) other_is.counts) in
    let here : Counts (head_in new (other (other sector))) = subst (λ s. Counts (head_in new s)) (sym (other_other sector)) (subst Counts (sym (heads sector)) is.counts) in
    let newer = other_is.newest here in
    let same = ap (λ s. generation_at (head_in new s)) (other_other sector) ∙ ap generation_at (heads sector) in
    let behind = ap generation_at (heads (other sector)) in
    omega (arith, older, newer, same, behind)

still_active : (image new : Image) (sector : Sector) (active : Option Sector) (settings : Settings) (next free : ℕ) → ((s : Sector) → head_in new s ≡ head_in image s) → IsActive image sector
    → StartsAt new active settings next free → active ≡ Some sector
still_active image new sector None settings next free heads is starts = absurd (closed_gate new sector starts.0 (ap gate_of (heads sector) ∙ is.counts.gate))
still_active image new sector (Some s) settings next free heads is starts = elim (either_sector s sector) [
  | inl same ↦ ap (λ t. Some t) same
  | inr apart ↦ absurd (not_other image new sector heads is (subst (IsActive new) apart starts.0))
]

pub slot_next : (image new : Image) (sector : Sector) (settings then : Settings) (generation left : ℕ) (active : Option Sector) (next free : ℕ) → AreLong image → AreLong new
    → ((s : Sector) → head_in new s ≡ head_in image s) → StartsAt image (Some sector) settings generation (suc left) → StartsAt new active then next free
    → room_of 14 next free ≡ room_of 14 generation (suc left) - 1 → (active ≡ Some sector) × (free ≡ left)
slot_next image new sector settings then generation left active next free long long_new heads starts later less =
    let few = few_free image (Some sector) settings generation (suc left) long starts in
    let most = few_free new active then next free long_new later in (
      still_active image new sector active then next free heads starts.0 later,
      one_slot_fewer generation next left free (omega (arith, few)) most less,
    )

-- ---- after a commit with a base

old_active : (image new : Image) (active : Option Sector) (settings then : Settings) (generation next free : ℕ) → head_in new (other (spare active)) ≡ head_in image (other (spare active))
    → StartsAt image active settings generation 0 → StartsAt new (Some (other (spare active))) then next free → next ≡ generation + 1 → ⊥
old_active image new (Some sector) settings then generation next free head starts later more =
    let same : next ≡ generation_at (head_in image sector) = later.2 ∙ ap generation_at head ∙ ap (λ s. generation_at (head_in image s)) (other_other sector) in
    omega (arith, same, starts.2, more)
old_active image new None settings then generation next free head starts later more = closed_gate image Second starts.0 (sym (ap gate_of head) ∙ later.0.counts.gate)

base_active : (image new : Image) (active : Option Sector) (settings then : Settings) (generation : ℕ) (now : Option Sector) (next free : ℕ) → head_in new (other (spare active)) ≡ head_in image (other (spare active))
    → StartsAt image active settings generation 0 → StartsAt new now then next free → next ≡ generation + 1 → now ≡ Some (spare active)
base_active image new active settings then generation None next free head starts later more = absurd (omega (arith, later.2, more))
base_active image new active settings then generation (Some s) next free head starts later more = elim (either_sector s (spare active)) [
  | inl is ↦ ap (λ t. Some t) is
  | inr is ↦ absurd (old_active image new active settings then generation next free head starts (subst (λ t. StartsAt new (Some t) then next free) is later) more)
]

pub base_next : (image new : Image) (active : Option Sector) (settings then : Settings) (generation : ℕ) (now : Option Sector) (next free : ℕ) → AreLong new
    → head_in new (other (spare active)) ≡ head_in image (other (spare active)) → StartsAt image active settings generation 0 → StartsAt new now then next free
    → room_of 14 generation 0 ≢ 0 → room_of 14 next free ≡ room_of 14 generation 0 - 1 → (now ≡ Some (spare active)) × (free ≡ 14)
base_next image new active settings then generation now next free long_new head starts later some less =
    let low = few_generations image active settings generation 0 starts in
    let high = few_generations new now then next free later in
    let most = few_free new now then next free long_new later in
    let more = one_generation_more generation next free low high most some less in
    (base_active image new active settings then generation now next free head starts later more.0, more.1)
