-- The effect of programming and erasing on a sector, byte by byte.
use Rattle.std.proofs.Common.{◌≡◌, ◌+◌, ◌-◌, ◌<◌, ◌≤◌, ◌∙◌, ◌⊎◌, inl, inr, ℕ, zero, suc, List, [], ◌∷◌, ◌++◌, length, take, drop, get_or, slice_range, bit_and, refl, sym, ap, arith}
use Rattle.std.proofs.lemmas.List.{length-append, length-take, length-drop, length-take-le, length-replicate, get_or-replicate, get_or-take, get_or-drop, get_or_append_left, get_or-append_right, get_or_past, take-append-drop, take_at, drop_at, drop-drop, take-append-le, take-take, append_assoc, ext_get_or}
use Rattle.std.proofs.lemmas.Slice.{drop-append-drop}
use Rattle.std.proofs.lemmas.Grind.{common_steps}
use Rattle.std.proofs.lemmas.Nat.{and_le_l}
use Rattle.std.specs.Int.Bits.{and_zero_l}
use Rattle.std.proofs.lemmas.Bool.{cases_lt}
use Rattle.flash_model.specs.declared.flash.Sector.{Sector}
use Rattle.flash_model.specs.declared.flash.Sector.TheVariants.{First, Second}
use Rattle.flash_model.specs.Image.{Image, IsImage, sector_of, with_sector, other, anded, programmed, erased, AreBytes}

pub length-anded : (old new : List ℕ) → length (anded old new) ≡ length old
length-anded [] new = refl
length-anded (o ∷ os) [] = refl
length-anded (o ∷ os) (n ∷ ns) = ap suc (length-anded os ns)

pub get_or-anded : (old new : List ℕ) (k : ℕ) → k < length new → get_or (anded old new) k 0 ≡ bit_and (get_or old k 0) (get_or new k 0)
get_or-anded [] new k h = sym (and_zero_l (get_or new k 0))
get_or-anded (o ∷ os) [] k h = absurd (omega arith)
get_or-anded (o ∷ os) (n ∷ ns) zero h = refl
get_or-anded (o ∷ os) (n ∷ ns) (suc k) h = get_or-anded os ns k (omega arith)

pub get_or-anded_past : (old new : List ℕ) (k : ℕ) → length new ≤ k → get_or (anded old new) k 0 ≡ get_or old k 0
get_or-anded_past [] new k h = refl
get_or-anded_past (o ∷ os) [] k h = refl
get_or-anded_past (o ∷ os) (n ∷ ns) zero h = absurd (omega arith)
get_or-anded_past (o ∷ os) (n ∷ ns) (suc k) h = get_or-anded_past os ns k (omega arith)

-- a byte over an erased one is that byte
pub and_ones : (byte : ℕ) → byte < 256 → bit_and 255 byte ≡ byte
and_ones byte h = grind (arith, common_steps)

-- only as many bytes change as are programmed
pub anded_split : (old new : List ℕ) → anded old new ≡ anded (take (length new) old) new ++ drop (length new) old
anded_split [] [] = refl
anded_split [] (n ∷ ns) = refl
anded_split (o ∷ os) [] = refl
anded_split (o ∷ os) (n ∷ ns) = ap (λ rest. bit_and o n ∷ rest) (anded_split os ns)

-- a programmed sector is the part before, the range and the part after
pub programmed_split : (sector : List ℕ) (place end : ℕ) (bytes : List ℕ) → end ≡ place + length bytes →
    programmed sector place bytes ≡ take place sector ++ (anded (slice_range sector place end) bytes ++ drop end sector)
programmed_split sector place end bytes e =
    let n : end - place ≡ length bytes = omega arith in
    ap (λ rest. take place sector ++ rest) (anded_split (drop place sector) bytes
    ∙ ap (λ k. anded (take k (drop place sector)) bytes ++ drop (length bytes) (drop place sector)) (sym n)
    ∙ ap (λ rest. anded (slice_range sector place end) bytes ++ rest) (drop-drop (length bytes) place sector ∙ ap (λ k. drop k sector) (sym e)))

pub length-programmed : (sector : List ℕ) (place : ℕ) (bytes : List ℕ) → length (programmed sector place bytes) ≡ length sector
length-programmed sector place bytes =
    length-append (take place sector) (anded (drop place sector) bytes)
    ∙ ap (λ n. length (take place sector) + n) (length-anded (drop place sector) bytes)
    ∙ sym (length-append (take place sector) (drop place sector)) ∙ ap length (take-append-drop place sector)

-- before the range nothing changes
pub take-programmed : (sector : List ℕ) (place : ℕ) (bytes : List ℕ) (n : ℕ) → n ≤ place → place ≤ length sector →
    take n (programmed sector place bytes) ≡ take n sector
take-programmed sector place bytes n h within =
    take-append-le n (take place sector) (anded (drop place sector) bytes) (omega (arith, length-take-le place sector within)) ∙ take-take n place sector h

-- after the range nothing changes
pub drop-programmed : (sector : List ℕ) (place : ℕ) (bytes : List ℕ) (n : ℕ) → place + length bytes ≤ n → n ≤ length sector →
    drop n (programmed sector place bytes) ≡ drop n sector
drop-programmed sector place bytes n h within =
    let end = place + length bytes in
    let range = anded (slice_range sector place end) bytes in
    let front : length (take place sector ++ range) ≡ end =
    omega (arith, length-append (take place sector) range, length-take-le place sector (omega arith), length-anded (slice_range sector place end) bytes, length-take (end - place) (drop place sector), length-drop place sector) in
    ap (drop n) (programmed_split sector place end bytes refl ∙ sym (append_assoc (take place sector) range (drop end sector)))
    ∙ drop-append-drop end sector (take place sector ++ range) n h front

-- the range has the bitwise AND of the old bytes and the new ones
pub slice_range-programmed : (sector : List ℕ) (place end : ℕ) (bytes : List ℕ) → end ≡ place + length bytes → end ≤ length sector →
    slice_range (programmed sector place bytes) place end ≡ anded (slice_range sector place end) bytes
slice_range-programmed sector place end bytes e within =
    let old = drop place sector in
    let size : end - place ≡ length bytes = omega arith in
    let long : length (anded (take (end - place) old) bytes) ≡ end - place =
    length-anded (take (end - place) old) bytes ∙ length-take-le (end - place) old (omega (arith, length-drop place sector)) in
    ap (take (end - place)) (drop_at (take place sector) (anded old bytes) place (length-take-le place sector (omega arith))
    ∙ anded_split old bytes ∙ ap (λ n. anded (take n old) bytes ++ drop n old) (sym size))
    ∙ take_at (anded (take (end - place) old) bytes) (drop (end - place) old) (end - place) long

-- over an erased range the new bytes are stored unchanged
pub anded-erased : (bytes : List ℕ) (size : ℕ) → length bytes ≡ size → AreBytes bytes → anded (erased size) bytes ≡ bytes
anded-erased bytes size long small =
    ext_get_or 0 (anded (erased size) bytes) bytes (length-anded (erased size) bytes ∙ length-replicate size 255 ∙ sym long) (λ k h.
    let here : k < size = omega (arith, length-anded (erased size) bytes, length-replicate {A = ℕ} size 255) in
    get_or-anded (erased size) bytes k (omega arith) ∙ ap (λ ones. bit_and ones (get_or bytes k 0)) (get_or-replicate size k 255 0 here) ∙ and_ones (get_or bytes k 0) (small k))

-- a range that was erased holds the new bytes
pub slice_range-programmed_erased : (sector : List ℕ) (place end : ℕ) (bytes : List ℕ) → end ≡ place + length bytes → end ≤ length sector → AreBytes bytes →
    slice_range sector place end ≡ erased (length bytes) → slice_range (programmed sector place bytes) place end ≡ bytes
slice_range-programmed_erased sector place end bytes e within small blank =
    slice_range-programmed sector place end bytes e within ∙ ap (λ old. anded old bytes) blank ∙ anded-erased bytes (length bytes) refl small

-- one byte inside the range
pub get_or-programmed : (sector : List ℕ) (place : ℕ) (bytes : List ℕ) (k : ℕ) → k < length bytes → place ≤ length sector →
    get_or (programmed sector place bytes) (place + k) 0 ≡ bit_and (get_or sector (place + k) 0) (get_or bytes k 0)
get_or-programmed sector place bytes k h within =
    get_or-append_right (take place sector) (anded (drop place sector) bytes) place (place + k) 0 (length-take-le place sector within) (omega arith)
    ∙ ap (λ n. get_or (anded (drop place sector) bytes) n 0) (omega arith)
    ∙ get_or-anded (drop place sector) bytes k h ∙ ap (λ old. bit_and old (get_or bytes k 0)) (get_or-drop place sector k 0)

-- one byte outside the range
pub get_or-programmed_outside : (sector : List ℕ) (place : ℕ) (bytes : List ℕ) (k : ℕ) → (k < place) ⊎ (place + length bytes ≤ k) → place ≤ length sector →
    get_or (programmed sector place bytes) k 0 ≡ get_or sector k 0
get_or-programmed_outside sector place bytes k (inl before) within =
    get_or_append_left (take place sector) (anded (drop place sector) bytes) 0 k (omega (arith, length-take-le place sector within))
    ∙ get_or-take place sector k 0 before
get_or-programmed_outside sector place bytes k (inr behind) within =
    get_or-append_right (take place sector) (anded (drop place sector) bytes) place k 0 (length-take-le place sector within) (omega arith)
    ∙ get_or-anded_past (drop place sector) bytes (k - place) (omega arith)
    ∙ get_or-drop place sector (k - place) 0 ∙ ap (λ n. get_or sector n 0) (omega arith)

pub AreBytes-anded : (old new : List ℕ) → AreBytes old → AreBytes (anded old new)
AreBytes-anded old new small k = elim (cases_lt k (length new)) [
  | inl within ↦ omega (arith, get_or-anded old new k within, and_le_l (get_or old k 0) (get_or new k 0), small k)
  | inr past ↦ omega (arith, get_or-anded_past old new k past, small k)
]

pub AreBytes-append : (front rest : List ℕ) → AreBytes front → AreBytes rest → AreBytes (front ++ rest)
AreBytes-append front rest f r k = elim (cases_lt k (length front)) [
  | inl within ↦ omega (arith, get_or_append_left front rest 0 k within, f k)
  | inr past ↦ omega (arith, get_or-append_right front rest (length front) k 0 refl past, r (k - length front))
]

pub AreBytes-take : (n : ℕ) (bytes : List ℕ) → AreBytes bytes → AreBytes (take n bytes)
AreBytes-take n bytes small k = elim (cases_lt k n) [
  | inl within ↦ omega (arith, get_or-take n bytes k 0 within, small k)
  | inr past ↦ omega (arith, get_or_past (take n bytes) k 0 (omega (arith, length-take n bytes)))
]

pub AreBytes-drop : (n : ℕ) (bytes : List ℕ) → AreBytes bytes → AreBytes (drop n bytes)
AreBytes-drop n bytes small k = omega (arith, get_or-drop n bytes k 0, small (n + k))

pub AreBytes-programmed : (sector : List ℕ) (place : ℕ) (bytes : List ℕ) → AreBytes sector → AreBytes (programmed sector place bytes)
AreBytes-programmed sector place bytes small =
    AreBytes-append (take place sector) (anded (drop place sector) bytes) (AreBytes-take place sector small)
    (AreBytes-anded (drop place sector) bytes (AreBytes-drop place sector small))

pub AreBytes-erased : (size : ℕ) → AreBytes (erased size)
AreBytes-erased size k = elim (cases_lt k size) [
  | inl within ↦ omega (arith, get_or-replicate {A = ℕ} size k 255 0 within)
  | inr past ↦ omega (arith, get_or_past (erased size) k 0 (omega (arith, length-replicate {A = ℕ} size 255)))
]

pub sector_of-with_sector : (image : Image) (sector : Sector) (bytes : List ℕ) → sector_of (with_sector image sector bytes) sector ≡ bytes
sector_of-with_sector image First bytes = refl
sector_of-with_sector image Second bytes = refl

pub sector_of-with_sector_other : (image : Image) (sector : Sector) (bytes : List ℕ) → sector_of (with_sector image sector bytes) (other sector) ≡ sector_of image (other sector)
sector_of-with_sector_other image First bytes = refl
sector_of-with_sector_other image Second bytes = refl

-- an image keeps its size and its bytes
pub IsImage-with_sector : (size : ℕ) (image : Image) (sector : Sector) (bytes : List ℕ) → IsImage size image → length bytes ≡ size → AreBytes bytes →
    IsImage size (with_sector image sector bytes)
IsImage-with_sector size image First bytes is long small =
    record { first_size = long; second_size = is.second_size; first_bytes = small; second_bytes = is.second_bytes }
IsImage-with_sector size image Second bytes is long small =
    record { first_size = is.first_size; second_size = long; first_bytes = is.first_bytes; second_bytes = small }

-- the size of one sector
pub length-sector_of : (size : ℕ) (image : Image) (sector : Sector) → IsImage size image → length (sector_of image sector) ≡ size
length-sector_of size image First is = is.first_size
length-sector_of size image Second is = is.second_size

pub AreBytes-sector_of : (size : ℕ) (image : Image) (sector : Sector) → IsImage size image → AreBytes (sector_of image sector)
AreBytes-sector_of size image First is = is.first_bytes
AreBytes-sector_of size image Second is = is.second_bytes

pub IsImage-programmed : (size : ℕ) (image : Image) (sector : Sector) (place : ℕ) (bytes : List ℕ) → IsImage size image →
    IsImage size (with_sector image sector (programmed (sector_of image sector) place bytes))
IsImage-programmed size image sector place bytes is =
    IsImage-with_sector size image sector (programmed (sector_of image sector) place bytes) is
    (length-programmed (sector_of image sector) place bytes ∙ length-sector_of size image sector is)
    (AreBytes-programmed (sector_of image sector) place bytes (AreBytes-sector_of size image sector is))

pub IsImage-erased : (size : ℕ) (image : Image) (sector : Sector) → IsImage size image → IsImage size (with_sector image sector (erased size))
IsImage-erased size image sector is = IsImage-with_sector size image sector (erased size) is (length-replicate size 255) (AreBytes-erased size)
