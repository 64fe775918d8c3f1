-- The bytes that a call programs, in the image and after later calls.
use Rattle.std.proofs.Common.{◌≡◌, ◌+◌, ◌-◌, ◌%◌, ◌<◌, ◌≤◌, ℕ, zero, suc, List, [], ◌∷◌, ◌++◌, length, take, drop, drop-cons, get_or, replicate, refl, sym, ap, ◌∙◌, arith}
use Rattle.std.specs.Prelude.{bit_and}
use Rattle.std.proofs.lemmas.List.{take-append-le, take-take, take-replicate, drop-take, drop_at, length-append, length-take, length-drop, length-replicate, get_or-take, get_or-drop}
use Rattle.std.proofs.lemmas.Nat.{and_mask, and_comm}
use Rattle.flash_model.specs.Calls.{Call, Programs, Erases, Arms}
use Rattle.flash_model.specs.Image.{Image, AreBytes, sector_of, with_sector, other, anded, programmed, erased}
use Rattle.flash_model.specs.declared.flash.Sector.{Sector}
use Rattle.flash_model.specs.declared.flash.Sector.TheVariants.{First, Second}
use Rattle.settings_journal.specs.Calls.{base_calls, slot_calls}
use Rattle.settings_journal.specs.Cut.{all_carried_out}
use Rattle.settings_journal.specs.Slot.{place_of, slot_at, slot_gate}

-- the image has the bytes of a call where it programmed them
abbrev pub Has : Image → Call → Type 0
Has image (Programs sector place bytes) = take (length bytes) (drop place (sector_of image sector)) ≡ bytes
Has image (Erases sector) = Unit {0}
Has image (Arms order) = Unit {0}

-- the same of several calls
abbrev pub HasAll : Image → List Call → Type 0
HasAll image [] = Unit {0}
HasAll image (call ∷ calls) = Has image call × HasAll image calls

pub has_both : (image : Image) (front back : List Call) → HasAll image front → HasAll image back → HasAll image (front ++ back)
has_both image [] back f b = b
has_both image (call ∷ front) back f b = (f.0, has_both image front back f.1 b)

-- ---- sectors

sector_with : (image : Image) (sector : Sector) (bytes : List ℕ) → sector_of (with_sector image sector bytes) sector ≡ bytes
sector_with image First bytes = refl
sector_with image Second bytes = refl

other_with : (image : Image) (sector : Sector) (bytes : List ℕ) → sector_of (with_sector image sector bytes) (other sector) ≡ sector_of image (other sector)
other_with image First bytes = refl
other_with image Second bytes = refl

pub other_other : (sector : Sector) → other (other sector) ≡ sector
other_other First = refl
other_other Second = refl

-- ---- parts of lists

-- one byte of a list
take_one : (xs : List ℕ) (place : ℕ) → place < length xs → take 1 (drop place xs) ≡ get_or xs place 0 ∷ []
take_one xs place inside = ap (take 1) (drop-cons xs place 0 inside)

-- equal prefixes have equal parts
pub same_part : (front : ℕ) (xs ys : List ℕ) (place size : ℕ) → place + size ≤ front → take front xs ≡ take front ys → take size (drop place xs) ≡ take size (drop place ys)
same_part front xs ys place size h e =
    let shorter = sym (take-take (place + size) front xs h) ∙ ap (take (place + size)) e ∙ take-take (place + size) front ys h in
    sym (drop-take place size xs) ∙ ap (drop place) shorter ∙ drop-take place size ys

anded_length : (xs ys : List ℕ) → length (anded xs ys) ≡ length xs
anded_length [] ys = refl
anded_length (x ∷ xs) [] = refl
anded_length (x ∷ xs) (y ∷ ys) = ap suc (anded_length xs ys)

pub programmed_length : (sector : List ℕ) (place : ℕ) (bytes : List ℕ) → length (programmed sector place bytes) ≡ length sector
programmed_length sector place bytes =
    let parts = length-append (take place sector) (anded (drop place sector) bytes) in
    let front = length-take place sector in
    let back = anded_length (drop place sector) bytes in
    let left = length-drop place sector in
    parts ∙ omega (arith, front, back, left)

-- each programmed byte is ANDed with the one that was there
anded_at : (xs ys : List ℕ) (k : ℕ) → k < length ys → get_or (anded xs ys) k 0 ≡ bit_and (get_or xs k 0) (get_or ys k 0)
anded_at [] ys k h = refl
anded_at (x ∷ xs) [] k h = absurd (omega (arith, h))
anded_at (x ∷ xs) (y ∷ ys) zero h = refl
anded_at (x ∷ xs) (y ∷ ys) (suc k) h = anded_at xs ys k (omega (arith, h))

from_place : (sector : List ℕ) (place : ℕ) (bytes : List ℕ) → place ≤ length sector → drop place (programmed sector place bytes) ≡ anded (drop place sector) bytes
from_place sector place bytes inside = drop_at (take place sector) (anded (drop place sector) bytes) place (length-take place sector ∙ omega arith)

pub programmed_at : (sector : List ℕ) (place : ℕ) (bytes : List ℕ) (k : ℕ) → place ≤ length sector → k < length bytes
    → get_or (drop place (programmed sector place bytes)) k 0 ≡ bit_and (get_or (drop place sector) k 0) (get_or bytes k 0)
programmed_at sector place bytes k inside h =
    ap (λ l. get_or l k 0) (from_place sector place bytes inside) ∙ anded_at (drop place sector) bytes k h

-- before the programmed bytes nothing changes
programmed_front : (sector : List ℕ) (place : ℕ) (bytes : List ℕ) (k : ℕ) → place ≤ length sector → k ≤ place → take k (programmed sector place bytes) ≡ take k sector
programmed_front sector place bytes k inside h =
    let long = length-take place sector in
    take-append-le k (take place sector) (anded (drop place sector) bytes) (omega (arith, long, inside, h)) ∙ take-take k place sector h

low_byte : (n : ℕ) → n < 256 → n % 256 ≡ n
low_byte n h = omega arith

-- a byte over FF
over_blank : (n : ℕ) → n < 256 → bit_and 255 n ≡ n
over_blank n h = and_comm 255 n ∙ and_mask n 8 ∙ low_byte n h

-- bytes over as many that are FF
anded_blank : (xs bytes : List ℕ) → AreBytes bytes → take (length bytes) xs ≡ replicate (length bytes) 255 → take (length bytes) (anded xs bytes) ≡ bytes
anded_blank xs [] small blank = refl
anded_blank [] (b ∷ bs) small blank = absurd (let e = ap length blank in cc)
anded_blank (x ∷ xs) (b ∷ bs) small blank =
    ap (λ n. n ∷ take (length bs) (anded xs bs)) (ap (λ l. bit_and (get_or l 0 0) b) blank ∙ over_blank b (small 0))
    ∙ ap (λ ns. b ∷ ns) (anded_blank xs bs (λ k. small (suc k)) (ap (drop 1) blank))

-- bytes that are programmed where each byte is FF
programmed_blank : (sector : List ℕ) (place : ℕ) (bytes : List ℕ) → place ≤ length sector → AreBytes bytes → take (length bytes) (drop place sector) ≡ replicate (length bytes) 255
    → take (length bytes) (drop place (programmed sector place bytes)) ≡ bytes
programmed_blank sector place bytes inside small blank = ap (take (length bytes)) (from_place sector place bytes inside) ∙ anded_blank (drop place sector) bytes small blank

-- a zero that is programmed
programmed_zero : (sector : List ℕ) (place : ℕ) → place < length sector → get_or (programmed sector place (0 ∷ [])) place 0 ≡ 0
programmed_zero sector place inside =
    ap (λ n. get_or (programmed sector place (0 ∷ [])) n 0) (omega arith) ∙ sym (get_or-drop place (programmed sector place (0 ∷ [])) 0 0)
    ∙ programmed_at sector place (0 ∷ []) 0 (omega (arith, inside)) (omega arith) ∙ and_comm (get_or (drop place sector) 0 0) 0

-- ---- a slot

module _ (sector : List ℕ) (number : ℕ) (entry : List ℕ) (long : length sector ≡ 4096) (few : number < 14) (blank : slot_at sector number ≡ erased 256) where
  abbrev entered : List ℕ
  entered = programmed sector (place_of number) entry

  abbrev pub slotted : List ℕ
  slotted = programmed entered (place_of number + 255) (0 ∷ [])

  inside : place_of number ≤ length sector
  inside = omega (arith, long, few)

  gate_inside : place_of number + 255 < length entered
  gate_inside = let same = programmed_length sector (place_of number) entry in omega (arith, same, long, few)

  pub slotted_long : length slotted ≡ 4096
  slotted_long = programmed_length entered (place_of number + 255) (0 ∷ []) ∙ programmed_length sector (place_of number) entry ∙ long

  -- before the slot nothing changes
  pub slotted_front : (k : ℕ) → k ≤ place_of number → take k slotted ≡ take k sector
  slotted_front k h = programmed_front entered (place_of number + 255) (0 ∷ []) k (omega (arith, gate_inside)) (omega (arith, h)) ∙ programmed_front sector (place_of number) entry k inside h

  -- the gate of the slot is open
  pub slotted_gate : slot_gate (slot_at slotted number) ≡ 0
  slotted_gate =
      get_or-take 256 (drop (place_of number) slotted) 255 0 (omega arith) ∙ get_or-drop (place_of number) slotted 255 0 ∙ programmed_zero entered (place_of number + 255) gate_inside

  -- the second byte of the slot is that of the entry
  pub slotted_second : AreBytes entry → 2 ≤ length entry → get_or (slot_at slotted number) 1 0 ≡ get_or entry 1 0
  slotted_second small two =
      let same : take 2 (drop (place_of number) slotted) ≡ take 2 (drop (place_of number) entered) =
      same_part (place_of number + 255) slotted entered (place_of number) 2 (omega arith) (programmed_front entered (place_of number + 255) (0 ∷ []) (place_of number + 255) (omega (arith, gate_inside)) (omega arith)) in
      let one : get_or (drop (place_of number) sector) 1 0 ≡ 255 =
      sym (get_or-take 256 (drop (place_of number) sector) 1 0 (omega arith)) ∙ ap (λ l. get_or l 1 0) blank in
      get_or-take 256 (drop (place_of number) slotted) 1 0 (omega arith)
      ∙ sym (get_or-take 2 (drop (place_of number) slotted) 1 0 (omega arith)) ∙ ap (λ l. get_or l 1 0) same ∙ get_or-take 2 (drop (place_of number) entered) 1 0 (omega arith)
      ∙ programmed_at sector (place_of number) entry 1 inside (omega (arith, two)) ∙ ap (λ n. bit_and n (get_or entry 1 0)) one
      ∙ over_blank (get_or entry 1 0) (small 1)

  -- the entry is in its slot
  pub slotted_entry : AreBytes entry → length entry ≤ 242 → take (length entry) (drop (place_of number) slotted) ≡ entry
  slotted_entry small short =
      let ones : take (length entry) (drop (place_of number) sector) ≡ replicate (length entry) 255 =
      sym (take-take (length entry) 256 (drop (place_of number) sector) (omega (arith, short))) ∙ ap (take (length entry)) blank ∙ take-replicate (length entry) 256 255 (omega (arith, short)) in
      same_part (place_of number + 255) slotted entered (place_of number) (length entry) (omega (arith, short))
      (programmed_front entered (place_of number + 255) (0 ∷ []) (place_of number + 255) (omega (arith, gate_inside)) (omega arith))
      ∙ programmed_blank sector (place_of number) entry inside small ones

  -- the gate is a zero after it
  pub slotted_zero : take 1 (drop (place_of number + 255) slotted) ≡ 0 ∷ []
  slotted_zero =
      let same = slotted_long in
      take_one slotted (place_of number + 255) (omega (arith, same, few)) ∙ ap (λ n. n ∷ []) (programmed_zero entered (place_of number + 255) gate_inside)

-- ---- a base

module _ (base : List ℕ) (short : length base ≤ 437) (small : AreBytes base) where
  abbrev filled : List ℕ
  filled = programmed (erased 4096) 0 base

  abbrev pub based : List ℕ
  based = programmed filled 511 (0 ∷ [])

  gate_in : 511 < length filled
  gate_in = let same = programmed_length (erased 4096) 0 base in let long = length-replicate {A = ℕ} 4096 255 in omega (arith, same, long)

  pub based_long : length based ≡ 4096
  based_long = programmed_length filled 511 (0 ∷ []) ∙ programmed_length (erased 4096) 0 base ∙ length-replicate {A = ℕ} 4096 255

  pub based_front : take (length base) (drop 0 based) ≡ base
  based_front =
      same_part 511 based filled 0 (length base) (omega (arith, short)) (programmed_front filled 511 (0 ∷ []) 511 (omega (arith, gate_in)) (omega arith))
      ∙ programmed_blank (erased 4096) 0 base (omega arith) small (take-replicate (length base) 4096 255 (omega (arith, short)))

  pub based_zero : take 1 (drop 511 based) ≡ 0 ∷ []
  based_zero =
      let same = based_long in
      take_one based 511 (omega (arith, same)) ∙ ap (λ n. n ∷ []) (programmed_zero filled 511 gate_in)

-- ---- the sectors after the calls of a commit

pub slot_here : (image : Image) (sector : Sector) (number : ℕ) (entry : List ℕ)
    → sector_of (all_carried_out image (slot_calls sector number entry)) sector ≡ programmed (programmed (sector_of image sector) (place_of number) entry) (place_of number + 255) (0 ∷ [])
slot_here image sector number entry = sector_with _ sector _ ∙ ap (λ l. programmed l (place_of number + 255) (0 ∷ [])) (sector_with image sector _)

pub slot_there : (image : Image) (sector : Sector) (number : ℕ) (entry : List ℕ) → sector_of (all_carried_out image (slot_calls sector number entry)) (other sector) ≡ sector_of image (other sector)
slot_there image sector number entry = other_with _ sector _ ∙ other_with image sector _

pub base_here : (image : Image) (sector : Sector) (base : List ℕ) → length (sector_of image sector) ≡ 4096
    → sector_of (all_carried_out image (base_calls sector base)) sector ≡ programmed (programmed (erased 4096) 0 base) 511 (0 ∷ [])
base_here image sector base long =
    sector_with _ sector _ ∙ ap (λ l. programmed l 511 (0 ∷ [])) (sector_with _ sector _ ∙ ap (λ l. programmed l 0 base) (sector_with image sector _ ∙ ap erased long))

pub base_there : (image : Image) (sector : Sector) (base : List ℕ) → sector_of (all_carried_out image (base_calls sector base)) (other sector) ≡ sector_of image (other sector)
base_there image sector base = other_with _ sector _ ∙ other_with _ sector _ ∙ other_with image sector _
