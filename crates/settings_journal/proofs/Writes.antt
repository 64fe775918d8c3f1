-- What the calls of a write leave, whether each succeeded or failed.
use Rattle.std.proofs.Common.{◌≡◌, ◌≢◌, ◌⊎◌, ℕ, suc, ◌+◌, ◌-◌, ◌%◌, ◌<◌, ◌≤◌, List, [], ◌∷◌, length, take, drop, get_or, replicate, refl, sym, ap, subst, ◌∙◌, inl, inr, arith, lit<, lit≤, min, zero}
use Rattle.std.specs.Prelude.{bit_and, false, Result, Ok, Err, OnOk, OnErr}
use Rattle.std.specs.Result.{is_err}
use Rattle.std.specs.Int.{bit_at}
use Rattle.std.proofs.lemmas.Bool.{cases_lt, cases_eq}
use Rattle.std.proofs.lemmas.List.{take-take, take-append-le, take-replicate, drop-replicate, drop-take, drop-drop, drop_at, length-take, get_or-take, get_or-drop, get_or_past, get_or-replicate, get_or-append_right}
use Rattle.std.proofs.lemmas.Nat.{and_mask, and_comm}
use Rattle.std.proofs.lemmas.Nat.Bits.{bit_at_ones, bit_at_ones_above, bit_at_above}
use Rattle.flash_model.specs.Image.{Image, IsImage, IsSectorSize, AreBytes, sector_of, with_sector, other, anded, programmed, erased, slots_in}
use Rattle.flash_model.specs.Torn.{Torn, TornSector}
use Rattle.flash_model.specs.declared.flash.Sector.{Sector}
use Rattle.flash_model.specs.declared.flash.Sector.TheVariants.{First, Second}
use Rattle.settings_journal.specs.Head.{head_of, gate_of, Rises}
use Rattle.settings_journal.specs.Image.{head_in, slots_of}
use Rattle.settings_journal.specs.Slot.{place_of, slot_at, slot_gate, HasEntry}
use Rattle.settings_journal.specs.Writes.{IsBase, MayLeave, KeepsOthers, MayLeaveSlot}

-- ---- one sector of two

pub sector_with : (image : Image) (sector : Sector) (bytes : List ℕ) → sector_of (with_sector image sector bytes) sector ≡ bytes
sector_with image First bytes = refl
sector_with image Second bytes = refl

pub other_with : (image : Image) (sector : Sector) (bytes : List ℕ) → sector_of (with_sector image sector bytes) (other sector) ≡ sector_of image (other sector)
other_with image First bytes = refl
other_with image Second bytes = refl

pub sector_size : (size : ℕ) (image : Image) (sector : Sector) → IsImage size image → length (sector_of image sector) ≡ size
sector_size size image First h = h.first_size
sector_size size image Second h = h.second_size

sector_bytes : (size : ℕ) (image : Image) (sector : Sector) → IsImage size image → AreBytes (sector_of image sector)
sector_bytes size image First h = h.first_bytes
sector_bytes size image Second h = h.second_bytes

-- ---- an erase that was cut short lets bits rise

between_rises : (old new bit : ℕ) → old < 256 → (bit_at new bit ≡ bit_at old bit) ⊎ (bit_at new bit ≡ bit_at 255 bit) → (bit_at new bit ≡ bit_at old bit) ⊎ (bit_at new bit ≡ 1)
between_rises old new bit small (inl e) = inl e
between_rises old new bit small (inr e) =
    elim (cases_lt bit 8) [
      | inl h ↦ inr (e ∙ bit_at_ones 8 bit h)
      | inr h ↦ inl (e ∙ bit_at_ones_above 8 bit h ∙ sym (bit_at_above old 8 bit small h))
    ]

module _ (size : ℕ) (sector : Sector) (old new : Image) (wide : IsSectorSize size) (sized : IsImage size old) (torn : Torn sector 0 size (erased size) old new) where
  inside : (place bit : ℕ) → place < 512 → (bit_at (get_or (head_in new sector) place 0) bit ≡ bit_at (get_or (head_in old sector) place 0) bit) ⊎ (bit_at (get_or (head_in new sector) place 0) bit ≡ 1)
  inside place bit h =
      let within : place < size = omega (arith, wide.at_least, wide.whole) in
      let e = get_or-take 512 (sector_of new sector) place 0 h in
      let f = get_or-take 512 (sector_of old sector) place 0 h in
      let r = get_or-replicate {A = ℕ} size place 255 0 within in
      let between = rw r at (torn.here.inside place (omega arith) within bit) in
      rw (e, f) (between_rises _ _ bit (sector_bytes size old sector sized place) between)

  outside : (place bit : ℕ) → 512 ≤ place → bit_at (get_or (head_in new sector) place 0) bit ≡ bit_at (get_or (head_in old sector) place 0) bit
  outside place bit h =
      let e = get_or_past (head_in new sector) place 0 (omega (arith, length-take 512 (sector_of new sector))) in
      let f = get_or_past (head_in old sector) place 0 (omega (arith, length-take 512 (sector_of old sector))) in
      ap (λ n. bit_at n bit) (e ∙ sym f)

  pub erase_rises : Rises (head_in old sector) (head_in new sector)
  erase_rises = record {
    length = length-take 512 (sector_of new sector) ∙ ap (min 512) torn.here.length ∙ sym (length-take 512 (sector_of old sector));
    each = λ place bit. elim (cases_lt place 512) [ inl h ↦ inside place bit h | inr h ↦ inl (outside place bit h) ];
  }

-- ---- bytes programmed at a place

low_byte : (n : ℕ) → n < 256 → n % 256 ≡ n
low_byte n h = omega arith

masked : (n : ℕ) → n < 256 → bit_and 255 n ≡ n
masked n h = and_comm 255 n ∙ and_mask n 8 ∙ low_byte n h

-- programming over bytes that are FF stores the programmed bytes
anded_entry : (xs bytes : List ℕ) → AreBytes bytes → take (length bytes) xs ≡ replicate (length bytes) 255 → take (length bytes) (anded xs bytes) ≡ bytes
anded_entry xs [] small blank = refl
anded_entry [] (b ∷ bs) small blank = absurd (let e = ap length blank in cc)
anded_entry (x ∷ xs) (b ∷ bs) small blank =
    let here : x ≡ 255 = ap (λ l. get_or l 0 0) blank in
    let rest : take (length bs) xs ≡ replicate (length bs) 255 = ap (drop 1) blank in
    ap (λ n. n ∷ take (length bs) (anded xs bs)) (ap (λ y. bit_and y b) here ∙ masked b (small 0)) ∙ ap (λ ns. b ∷ ns) (anded_entry xs bs (λ k. small (suc k)) rest)

anded_behind : (xs bytes : List ℕ) (k : ℕ) → length bytes ≤ k → drop k (anded xs bytes) ≡ drop k xs
anded_behind [] bytes k h = refl
anded_behind (x ∷ xs) [] k h = refl
anded_behind (x ∷ xs) (b ∷ bs) zero h = absurd (omega arith)
anded_behind (x ∷ xs) (b ∷ bs) (suc k) h = anded_behind xs bs k (omega arith)

module _ (sector : List ℕ) (place : ℕ) (bytes : List ℕ) (inside : place ≤ length sector) where
  long : length (take place sector) ≡ place
  long = length-take place sector ∙ omega arith

  from_place : drop place (programmed sector place bytes) ≡ anded (drop place sector) bytes
  from_place = drop_at (take place sector) (anded (drop place sector) bytes) place long

  -- before the position nothing changes
  pub programmed_front : (k : ℕ) → k ≤ place → take k (programmed sector place bytes) ≡ take k sector
  programmed_front k h = take-append-le k (take place sector) (anded (drop place sector) bytes) (omega (arith, long)) ∙ take-take k place sector h

  -- after the programmed bytes nothing changes
  pub programmed_behind : (k : ℕ) → place + length bytes ≤ k → drop k (programmed sector place bytes) ≡ drop k sector
  programmed_behind k h =
      let e : place + (k - place) ≡ k = omega arith in
      let new = sym (drop-drop (k - place) place (programmed sector place bytes)) ∙ ap (drop (k - place)) from_place ∙ anded_behind (drop place sector) bytes (k - place) (omega arith)
      ∙ drop-drop (k - place) place sector in
      subst (λ j. drop j (programmed sector place bytes) ≡ drop j sector) e new

  -- where the bytes were FF, the programmed bytes are stored
  pub programmed_entry : AreBytes bytes → take (length bytes) (drop place sector) ≡ replicate (length bytes) 255 → take (length bytes) (drop place (programmed sector place bytes)) ≡ bytes
  programmed_entry small blank = ap (take (length bytes)) from_place ∙ anded_entry (drop place sector) bytes small blank

zero_anded : (rest : List ℕ) → get_or (anded rest (0 ∷ [])) 0 0 ≡ 0
zero_anded [] = refl
zero_anded (b ∷ bs) = and_comm b 0

-- a gate that is programmed is open
gate_programmed : (sector : List ℕ) (place : ℕ) → place ≤ length sector → get_or (programmed sector place (0 ∷ [])) place 0 ≡ 0
gate_programmed sector place inside =
    get_or-append_right (take place sector) (anded (drop place sector) (0 ∷ [])) place place 0 (length-take place sector ∙ omega arith) (omega arith) ∙ ap (λ n. get_or (anded (drop place sector) (0 ∷ [])) n 0) (omega arith) ∙ zero_anded (drop place sector)

-- lists that agree from a position on agree at each later one
behind : (end : ℕ) (xs ys : List ℕ) (place : ℕ) → end ≤ place → drop end xs ≡ drop end ys → get_or xs place 0 ≡ get_or ys place 0
behind end xs ys place h e =
    let p : end + (place - end) ≡ place = omega arith in
    let a = rw p at (get_or-drop end xs (place - end) 0) in
    let b = rw p at (get_or-drop end ys (place - end) 0) in
    sym a ∙ ap (λ zs. get_or zs (place - end) 0) e ∙ b

-- equal prefixes have equal parts
front_part : (front : ℕ) (xs ys : List ℕ) (place size : ℕ) → place + size ≤ front → take front xs ≡ take front ys → take size (drop place xs) ≡ take size (drop place ys)
front_part front xs ys place size h e =
    let shorter = sym (take-take (place + size) front xs h) ∙ ap (take (place + size)) e ∙ take-take (place + size) front ys h in
    sym (drop-take place size xs) ∙ ap (drop place) shorter ∙ drop-take place size ys

-- their shorter prefixes are equal too
front_of_front : (front k : ℕ) (xs ys : List ℕ) → k ≤ front → take front xs ≡ take front ys → take k xs ≡ take k ys
front_of_front front k xs ys h e = sym (take-take k front xs h) ∙ ap (take k) e ∙ take-take k front ys h

-- the parts farther on are equal too
behind_part : (end place : ℕ) (xs ys : List ℕ) → end ≤ place → drop end xs ≡ drop end ys → drop place xs ≡ drop place ys
behind_part end place xs ys h e =
    let p : end + (place - end) ≡ place = omega arith in
    subst (λ q. drop q xs ≡ drop q ys) p (sym (drop-drop (place - end) end xs) ∙ ap (drop (place - end)) e ∙ drop-drop (place - end) end ys)

-- ---- a base

zero≢255 : ◌≡◌ {A = ℕ} 0 255 → ⊥
zero≢255 e = cc

-- if the program of the base failed, the gate is as the erase left it
pub program_closed : (size : ℕ) (sector : Sector) (erased_image new : Image) (finished : List ℕ) (end : ℕ) → IsSectorSize size → sector_of erased_image sector ≡ erased size
    → end ≤ 511 → Torn sector 0 end finished erased_image new → gate_of (head_in new sector) ≢ 0
program_closed size sector image new finished end wide blank before torn e =
    let gate = get_or-take 512 (sector_of new sector) 511 0 (lit< tt) in
    let here = behind end (sector_of new sector) (sector_of image sector) 511 before torn.here.behind in
    let one = get_or-replicate {A = ℕ} size 511 255 0 (omega (arith, wide.at_least, wide.whole)) in
    let was = rw blank at here in
    zero≢255 (sym e ∙ gate ∙ was ∙ one)

-- a sector after the erase and the program of the base
pub record IsWritten (size : ℕ) (sector base : List ℕ) : Type 0 where
  pub long : length sector ≡ size
  pub front : take 437 sector ≡ base
  pub behind : drop 512 sector ≡ drop 512 (erased size)

pub written_long : (size : ℕ) (sector : Sector) (blank new : Image) (base : List ℕ) → IsSectorSize size → sector_of blank sector ≡ erased size → AreBytes base → length base ≡ 437
    → length (sector_of new sector) ≡ size → new ≡ with_sector blank sector (programmed (sector_of blank sector) 0 base) → IsWritten size (sector_of new sector) base
written_long size sector blank new base wide empty small l long e =
    let is : sector_of new sector ≡ programmed (erased size) 0 base = ap (λ image. sector_of image sector) e ∙ sector_with blank sector _ ∙ ap (λ bytes. programmed bytes 0 base) empty in
    let ones : take (length base) (erased size) ≡ replicate (length base) 255 = take-replicate (length base) size 255 (omega (arith, l, wide.at_least, wide.whole)) in
    let front : take (length base) (programmed (erased size) 0 base) ≡ base = programmed_entry (erased size) 0 base (omega arith) small ones in
    record {
      long = long;
      front = ap (take 437) is ∙ subst (λ n. take n (programmed (erased size) 0 base) ≡ base) l front;
      behind = ap (drop 512) is ∙ programmed_behind (erased size) 0 base (omega arith) 512 (omega (arith, l));
    }

pub written : (size : ℕ) (sector : Sector) (blank new : Image) (base : List ℕ) → IsSectorSize size → sector_of blank sector ≡ erased size → AreBytes base → length base ≡ 437
    → IsImage size new → new ≡ with_sector blank sector (programmed (sector_of blank sector) 0 base) → IsWritten size (sector_of new sector) base
written size sector blank new base wide empty small l sized e = written_long size sector blank new base wide empty small l (sector_size size new sector sized) e

front_of_head : (sector base : List ℕ) → take 437 sector ≡ base → take 437 (head_of sector) ≡ base
front_of_head sector base e = take-take 437 512 sector (lit≤ tt) ∙ e

-- the slots of a sector that is erased after its head
blank_slot : (size : ℕ) (sector : List ℕ) → IsSectorSize size → length sector ≡ size → drop 512 sector ≡ drop 512 (erased size) → (number : ℕ) → number < slots_of sector → slot_at sector number ≡ erased 256
blank_slot size sector wide long same number inside =
    let few : number < slots_in size = subst (λ n. number < slots_in n) long inside in
    let room : 256 ≤ size - place_of number = omega (arith, wide.whole, few) in
    ap (take 256) (behind_part 512 (place_of number) sector (erased size) (omega arith) same ∙ drop-replicate {X = ℕ} (place_of number) size 255) ∙ take-replicate 256 (size - place_of number) 255 room

-- the gate was opened, and the base counts
pub opened : (size : ℕ) (sector : Sector) (full new : Image) (base : List ℕ) → IsSectorSize size → IsImage size new → IsWritten size (sector_of full sector) base
    → new ≡ with_sector full sector (programmed (sector_of full sector) 511 (0 ∷ [])) → IsBase (sector_of new sector) base
opened size sector full new base wide sized w e =
    let is : sector_of new sector ≡ programmed (sector_of full sector) 511 (0 ∷ []) = ap (λ image. sector_of image sector) e ∙ sector_with full sector _ in
    let inside : 511 ≤ length (sector_of full sector) = omega (arith, w.long, wide.at_least, wide.whole) in
    record {
      holds = front_of_head _ base (ap (take 437) is ∙ programmed_front (sector_of full sector) 511 (0 ∷ []) inside 437 (lit≤ tt) ∙ w.front);
      gate = get_or-take 512 (sector_of new sector) 511 0 (lit< tt) ∙ ap (λ bytes. get_or bytes 511 0) is ∙ gate_programmed (sector_of full sector) 511 inside;
      blank = blank_slot size (sector_of new sector) wide (sector_size size new sector sized) (ap (drop 512) is ∙ programmed_behind (sector_of full sector) 511 (0 ∷ []) inside 512 (lit≤ tt) ∙ w.behind);
    }

-- the call for the gate failed: the gate is open or closed
pub half_opened : (size : ℕ) (sector : Sector) (full new : Image) (finished base old : List ℕ) → IsSectorSize size → IsImage size new → IsWritten size (sector_of full sector) base
    → Torn sector 511 512 finished full new → MayLeave old base (sector_of new sector)
half_opened size sector full new finished base old wide sized w torn =
    let front : take 437 (sector_of new sector) ≡ base = front_of_front 511 437 (sector_of new sector) (sector_of full sector) (lit≤ tt) torn.here.before ∙ w.front in
    elim (cases_eq (gate_of (head_in new sector)) 0) [
      | inl e ↦ inr (inr (record {
        holds = front_of_head _ base front;
        gate = e;
        blank = blank_slot size (sector_of new sector) wide (sector_size size new sector sized) (torn.here.behind ∙ w.behind);
      }))
      | inr ne ↦ inr (inl ne)
    ]

-- ---- a slot

-- the gate of a slot is the byte of the sector 255 after the slot's start
slot_gate_is : (sector : List ℕ) (number : ℕ) → slot_gate (slot_at sector number) ≡ get_or sector (place_of number + 255) 0
slot_gate_is sector number = get_or-take 256 (drop (place_of number) sector) 255 0 (lit< tt) ∙ get_or-drop (place_of number) sector 255 0

-- only the bytes of one slot changed
pub record IsInSlot (number : ℕ) (old new : List ℕ) : Type 0 where
  pub front : take (place_of number) new ≡ take (place_of number) old
  pub behind : drop (place_of number + 256) new ≡ drop (place_of number + 256) old

pub in_slot_then : (number : ℕ) (old between new : List ℕ) → IsInSlot number old between → IsInSlot number between new → IsInSlot number old new
in_slot_then number old between new p q = record { front = q.front ∙ p.front; behind = q.behind ∙ p.behind }

-- a program of bytes in a slot that succeeded
pub in_slot_done : (number place : ℕ) (sector bytes : List ℕ) → place ≤ length sector → place_of number ≤ place → place + length bytes ≤ place_of number + 256 → IsInSlot number sector (programmed sector place bytes)
in_slot_done number place sector bytes inside from upto = record {
  front = programmed_front sector place bytes inside (place_of number) from;
  behind = programmed_behind sector place bytes inside (place_of number + 256) upto;
}

-- a program of bytes in a slot that failed
pub in_slot_torn : (number start end : ℕ) (finished old new : List ℕ) → place_of number ≤ start → end ≤ place_of number + 256 → TornSector start end finished old new → IsInSlot number old new
in_slot_torn number start end finished old new from upto torn = record {
  front = front_of_front start (place_of number) new old from torn.before;
  behind = behind_part end (place_of number + 256) new old upto torn.behind;
}

other_slot : (number k : ℕ) (old new : List ℕ) → IsInSlot number old new → k ≢ number → slot_at new k ≡ slot_at old k
other_slot number k old new kept ne =
    elim (cases_lt k number) [
      | inl before ↦ front_part (place_of number) new old (place_of k) 256 (omega arith) kept.front
      | inr after ↦ ap (take 256) (behind_part (place_of number + 256) (place_of k) new old (omega (arith, ne)) kept.behind)
    ]

pub keeps_others : (number size : ℕ) (old new : List ℕ) → length old ≡ size → length new ≡ size → IsInSlot number old new → KeepsOthers number old new
keeps_others number size old new l m kept = record {
  length = m ∙ sym l;
  head = front_of_front (place_of number) 512 new old (omega arith) kept.front;
  others = λ k ne. other_slot number k old new kept ne;
}

-- if the program of the entry failed, the gate is unchanged
pub entry_closed : (number end : ℕ) (finished old new : List ℕ) → slot_at old number ≡ erased 256 → end ≤ place_of number + 255 → TornSector (place_of number) end finished old new → slot_gate (slot_at new number) ≢ 0
entry_closed number end finished old new blank upto torn e =
    let was : slot_gate (slot_at old number) ≡ 255 = ap (λ slot. get_or slot 255 0) blank ∙ get_or-replicate {A = ℕ} 256 255 255 0 (lit< tt) in
    let here = behind end new old (place_of number + 255) upto torn.behind in
    zero≢255 (sym e ∙ slot_gate_is new number ∙ here ∙ sym (slot_gate_is old number) ∙ was)

-- the entry is at the start of the slot
abbrev pub HasFront : List ℕ → ℕ → List ℕ → Type 0
HasFront sector number entry = take (length entry) (drop (place_of number) sector) ≡ entry

pub entry_there : (number : ℕ) (sector entry : List ℕ) → place_of number ≤ length sector → slot_at sector number ≡ erased 256 → length entry ≤ 242 → AreBytes entry → HasFront (programmed sector (place_of number) entry) number entry
entry_there number sector entry inside blank short small =
    let ones : take (length entry) (drop (place_of number) sector) ≡ replicate (length entry) 255 =
    sym (take-take (length entry) 256 (drop (place_of number) sector) (omega arith)) ∙ ap (take (length entry)) blank ∙ take-replicate (length entry) 256 255 (omega arith) in
    programmed_entry sector (place_of number) entry inside small ones

front_stays : (number : ℕ) (old new entry : List ℕ) → length entry ≤ 242 → take (place_of number + 255) new ≡ take (place_of number + 255) old → HasFront old number entry → take (length entry) (slot_at new number) ≡ entry
front_stays number old new entry short same there =
    take-take (length entry) 256 (drop (place_of number) new) (omega arith)
    ∙ front_part (place_of number + 255) new old (place_of number) (length entry) (omega arith) same ∙ there

-- the gate was opened, and the entry counts
pub slot_opened : (number : ℕ) (sector entry : List ℕ) → place_of number + 255 ≤ length sector → length entry ≤ 242 → HasFront sector number entry → HasEntry (slot_at (programmed sector (place_of number + 255) (0 ∷ [])) number) entry
slot_opened number sector entry inside short there = record {
  front = front_stays number sector (programmed sector (place_of number + 255) (0 ∷ [])) entry short (programmed_front sector (place_of number + 255) (0 ∷ []) inside (place_of number + 255) (omega arith)) there;
  gate = slot_gate_is (programmed sector (place_of number + 255) (0 ∷ [])) number ∙ gate_programmed sector (place_of number + 255) inside;
}

-- the call for the gate failed: the gate is open or closed
pub slot_half : (number end : ℕ) (finished old new entry : List ℕ) → length entry ≤ 242 → HasFront old number entry → TornSector (place_of number + 255) end finished old new → MayLeaveSlot entry (slot_at new number)
slot_half number end finished old new entry short there torn =
    elim (cases_eq (slot_gate (slot_at new number)) 0) [
      | inl e ↦ inr (record { front = front_stays number old new entry short torn.before there; gate = e })
      | inr ne ↦ inl ne
    ]

-- what holds of a call that succeeded and of one that failed holds
pub either : {T E P Q R : Type 0} (result : Result T E) → (P → R) → (Q → R) → OnOk result P → OnErr result Q → R
either (Ok done) f g p q = f p
either (Err fault) f g p q = g q

pub done : {T E P : Type 0} (result : Result T E) → is_err result ≡ false → OnOk result P → P
done (Ok x) e p = p
done (Err fault) e p = cc e
