-- If the calls of a commit are cut off, the chip is in a state that a failed write may leave.
use Rattle.std.proofs.Common.{◌≡◌, ◌≢◌, ◌⊎◌, ℕ, suc, ◌+◌, ◌-◌, ◌<◌, ◌≤◌, List, [], ◌∷◌, length, take, drop, refl, sym, ap, subst, ◌∙◌, inl, inr, arith, lit≤, Some, None}
use Rattle.std.proofs.lemmas.List.{length-append, length-take, length-drop, length-replicate}
use Rattle.pn_values.specs.declared.command.Command.{Command}
use Rattle.pn_values.specs.declared.settings.Settings.{Settings}
use Rattle.flash_model.specs.Calls.{Call}
use Rattle.flash_model.specs.Image.{Image, IsImage, IsSectorSize, AreBytes, sector_of, with_sector, other, anded, programmed, erased, slots_in}
use Rattle.flash_model.specs.Torn.{Torn}
use Rattle.flash_model.specs.declared.flash.Sector.{Sector}
use Rattle.settings_journal.specs.Calls.{base_calls, slot_calls, calls_of}
use Rattle.settings_journal.specs.Cut.{CutOff, AreSafe, AreWrites}
use Rattle.settings_journal.specs.Head.{IsSettings, base_of}
use Rattle.settings_journal.specs.Image.{spare}
use Rattle.settings_journal.specs.Slot.{place_of, slot_at, entry_of, HasEntry, IsEntryOf}
use Rattle.settings_journal.specs.Store.{IsBefore}
use Rattle.settings_journal.specs.Writes.{MayLeave, MayLeaveSlot, KeepsOthers}
use Rattle.settings_journal.specs.declared.start.Position.{Position}
use Rattle.settings_journal.proofs.Asking.{calls_slot, calls_base}
use Rattle.settings_journal.proofs.Storing.{slot_first, in_slot, slot_kept_at, none_free, base_written, base_kept}
use Rattle.settings_journal.proofs.Writes.{IsWritten, HasFront, IsInSlot, sector_with, other_with, sector_size, erase_rises, program_closed, written_long, opened, half_opened, in_slot_then, in_slot_done, in_slot_torn, keeps_others, entry_closed, entry_there, slot_opened, slot_half}

-- the length stays when bytes are programmed over others
anded_length : (xs ys : List ℕ) → length (anded xs ys) ≡ length xs
anded_length [] ys = refl
anded_length (x ∷ xs) [] = refl
anded_length (x ∷ xs) (y ∷ ys) = ap suc (anded_length xs ys)

-- the length of a sector stays when it is programmed
programmed_length : (sector : List ℕ) (place : ℕ) (bytes : List ℕ) → length (programmed sector place bytes) ≡ length sector
programmed_length sector place bytes =
    let parts = length-append (take place sector) (anded (drop place sector) bytes) in
    let front = length-take place sector in
    let back = anded_length (drop place sector) bytes in
    let left = length-drop place sector in
    parts ∙ omega (arith, front, back, left)

-- what writing a base or a slot leaves of one sector, while the other one is unchanged
pub record LeavesBase (image chip : Image) (sector : Sector) (base : List ℕ) : Type 0 where
  pub here : MayLeave (sector_of image sector) base (sector_of chip sector)
  pub behind : sector_of chip (other sector) ≡ sector_of image (other sector)

pub record LeavesSlot (image chip : Image) (sector : Sector) (number : ℕ) (entry : List ℕ) : Type 0 where
  pub here : MayLeaveSlot entry (slot_at (sector_of chip sector) number)
  pub others : KeepsOthers number (sector_of image sector) (sector_of chip sector)
  pub behind : sector_of chip (other sector) ≡ sector_of image (other sector)

module _ (size : ℕ) (sector : Sector) (image chip : Image) (base : List ℕ) (wide : IsSectorSize size) (sized : IsImage size image) (now : IsImage size chip) (small : AreBytes base) (long : length base ≡ 437) where
  abbrev blank : Image
  blank = with_sector image sector (erased (length (sector_of image sector)))

  abbrev full : Image
  full = with_sector blank sector (programmed (sector_of blank sector) 0 base)

  empty : sector_of blank sector ≡ erased size
  empty = sector_with image sector _ ∙ ap erased (sector_size size image sector sized)

  long_full : length (sector_of full sector) ≡ size
  long_full = ap length (sector_with blank sector _) ∙ programmed_length (sector_of blank sector) 0 base ∙ ap length empty ∙ length-replicate size 255

  is_full : IsWritten size (sector_of full sector) base
  is_full = written_long size sector blank full base wide empty small long long_full refl

  behind_blank : sector_of blank (other sector) ≡ sector_of image (other sector)
  behind_blank = other_with image sector _

  behind_full : sector_of full (other sector) ≡ sector_of image (other sector)
  behind_full = other_with blank sector _ ∙ behind_blank

  pub base_cut : CutOff image (base_calls sector base) chip → LeavesBase image chip sector base
  base_cut (inl torn) =
      let same = sector_size size image sector sized in
      let whole : Torn sector 0 size (erased size) image chip = subst (λ n. Torn sector 0 n (erased n) image chip) same torn in
      record { here = inl (erase_rises size sector image chip wide sized whole); behind = torn.other }
  base_cut (inr (inl torn)) =
      record { here = inr (inl (program_closed size sector blank chip _ _ wide empty (omega (arith, long)) torn)); behind = torn.other ∙ behind_blank }
  base_cut (inr (inr (inl torn))) =
      record { here = half_opened size sector full chip _ base (sector_of image sector) wide now is_full torn; behind = torn.other ∙ behind_full }
  base_cut (inr (inr (inr e))) =
      record {
        here = inr (inr (opened size sector full chip base wide now is_full e));
        behind = ap (λ i. sector_of i (other sector)) e ∙ other_with full sector _ ∙ behind_full;
      }

module _ (size : ℕ) (sector : Sector) (number : ℕ) (image chip : Image) (entry : List ℕ) (wide : IsSectorSize size) (sized : IsImage size image) (now : IsImage size chip) (small : AreBytes entry)
    (few : number < slots_in size) (short : length entry ≤ 242) (free : slot_at (sector_of image sector) number ≡ erased 256) where
  abbrev entered : Image
  entered = with_sector image sector (programmed (sector_of image sector) (place_of number) entry)

  room : place_of number + 256 ≤ size
  room = omega (arith, wide.whole, few)

  long_image : length (sector_of image sector) ≡ size
  long_image = sector_size size image sector sized

  long_chip : length (sector_of chip sector) ≡ size
  long_chip = sector_size size chip sector now

  is_entered : sector_of entered sector ≡ programmed (sector_of image sector) (place_of number) entry
  is_entered = sector_with image sector _

  there : HasFront (sector_of entered sector) number entry
  there = subst (λ s. HasFront s number entry) (sym is_entered) (entry_there number _ entry (omega (arith, long_image, room)) free short small)

  in_entered : IsInSlot number (sector_of image sector) (sector_of entered sector)
  in_entered = subst (IsInSlot number (sector_of image sector)) (sym is_entered) (in_slot_done number (place_of number) _ entry (omega (arith, long_image, room)) (omega arith) (omega (arith, short)))

  kept : IsInSlot number (sector_of image sector) (sector_of chip sector) → KeepsOthers number (sector_of image sector) (sector_of chip sector)
  kept inside = keeps_others number size _ _ long_image long_chip inside

  long_entered : place_of number + 255 ≤ length (sector_of entered sector)
  long_entered =
      let e : length (sector_of entered sector) ≡ length (programmed (sector_of image sector) (place_of number) entry) = ap length is_entered in
      let f = programmed_length (sector_of image sector) (place_of number) entry in
      omega (arith, e, f, long_image, room)

  pub slot_cut : CutOff image (slot_calls sector number entry) chip → LeavesSlot image chip sector number entry
  slot_cut (inl torn) =
      record {
        here = inl (entry_closed number _ _ _ _ free (omega (arith, short)) torn.here);
        others = kept (in_slot_torn number _ _ _ _ _ (omega arith) (omega (arith, short)) torn.here);
        behind = torn.other;
      }
  slot_cut (inr (inl torn)) =
      record {
        here = slot_half number _ _ _ _ entry short there torn.here;
        others = kept (in_slot_then number _ _ _ in_entered (in_slot_torn number _ _ _ _ _ (omega arith) (omega arith) torn.here));
        behind = torn.other ∙ other_with image sector _;
      }
  slot_cut (inr (inr e)) =
      let is : sector_of chip sector ≡ programmed (sector_of entered sector) (place_of number + 255) (0 ∷ []) = ap (λ i. sector_of i sector) e ∙ sector_with entered sector _ in
      record {
        here = inr (subst (λ s. HasEntry (slot_at s number) entry) (sym is) (slot_opened number _ entry long_entered short there));
        others = kept (in_slot_then number _ _ _ in_entered (subst (IsInSlot number (sector_of entered sector)) (sym is) (in_slot_done number (place_of number + 255) _ (0 ∷ []) long_entered (omega arith) (omega arith))));
        behind = ap (λ i. sector_of i (other sector)) e ∙ other_with entered sector _ ∙ other_with image sector _;
      }

-- the calls that write a slot, as a commit makes them
pub safe_slot : (image : Image) (position : Position) (sector : Sector) (before next : Settings) (command : Command) (entry : List ℕ) (size spot : ℕ) → position.active ≡ Some sector → position.free ≢ 0
    → IsSectorSize size → IsImage size image → IsBefore image position command before next → IsEntryOf entry command → entry ≡ entry_of command → AreBytes entry → length entry ≤ 242 → spot ≡ slots_in size - position.free
    → AreSafe image (calls_of (slots_in size) position.active position.generation position.free before command) before next
safe_slot image position sector before next command entry size spot is some wide sized b of_command spelled small short n chip now cut left =
    let first = slot_first image position.active sector before position.generation position.free size is some sized b.starts in
    let these = calls_slot (slots_in size) position.active sector position.generation position.free spot before command entry is some n spelled in
    let chip_sized : IsImage size chip = subst (λ k. IsImage k chip) sized.first_size now in
    let few : spot < slots_in size = omega (arith, n, first.inside) in
    let free = first.blank spot (omega (arith, n)) few in
    let l = slot_cut size sector spot image chip entry wide sized chip_sized small few short free (subst (λ calls. CutOff image calls chip) (sym these) cut) in
    let w = in_slot image chip position sector before next command entry size spot is some sized b of_command n l.others l.behind in
    slot_kept_at image chip sector before next command entry position.generation position.free (slots_in size) spot w n l.here left

pub writes_slot : (slots : ℕ) (position : Position) (sector : Sector) (before : Settings) (command : Command) (entry : List ℕ) (spot : ℕ) → position.active ≡ Some sector → position.free ≢ 0
    → entry ≡ entry_of command → length entry ≤ 242 → spot ≡ slots - position.free → AreWrites (calls_of slots position.active position.generation position.free before command)
writes_slot slots position sector before command entry spot is some spelled short n =
    let these = calls_slot slots position.active sector position.generation position.free spot before command entry is some n spelled in
    subst AreWrites these (omega (arith, short), (lit≤ tt, tt))

-- the calls that write a base, as a commit makes them
pub writes_base : (image : Image) (slots : ℕ) (position : Position) (sector : Sector) (before next : Settings) (command : Command) (base : List ℕ) (generation : ℕ) → (position.active ≡ None) ⊎ (position.free ≡ 0)
    → IsBefore image position command before next → sector ≡ spare position.active → generation ≡ position.generation + 1 → base ≡ base_of generation next → length base ≡ 437
    → AreWrites (calls_of slots position.active position.generation position.free before command)
writes_base image slots position sector before next command base generation used b is n spelled long =
    let none = none_free image position.active before position.generation position.free b.starts used in
    let these = calls_base slots position.active sector position.generation position.free generation before next command base none is n b.next_is spelled in
    subst AreWrites these (tt, (omega (arith, long), (lit≤ tt, tt)))

pub safe_base : (image : Image) (position : Position) (sector : Sector) (before next : Settings) (command : Command) (base : List ℕ) (size generation : ℕ) → (position.active ≡ None) ⊎ (position.free ≡ 0)
    → (position.generation ≡ 65535 → position.free ≢ 0) → IsSectorSize size → IsImage size image → IsBefore image position command before next → sector ≡ spare position.active → generation ≡ position.generation + 1
    → base ≡ base_of generation next → IsSettings next → AreBytes base → length base ≡ 437
    → AreSafe image (calls_of (slots_in size) position.active position.generation position.free before command) before next
safe_base image position sector before next command base size generation used few wide sized b is n spelled valid small long chip now cut left =
    let none = none_free image position.active before position.generation position.free b.starts used in
    let these = calls_base (slots_in size) position.active sector position.generation position.free generation before next command base none is n b.next_is spelled in
    let chip_sized : IsImage size chip = subst (λ k. IsImage k chip) sized.first_size now in
    let l = base_cut size sector image chip base wide sized chip_sized small long (subst (λ calls. CutOff image calls chip) (sym these) cut) in
    let w = base_written image chip position sector before next command size generation base used few chip_sized b is n spelled valid l.behind l.here in
    base_kept image chip position.active before next position.generation position.free (slots_in size) w left

-- the same under another name of the settings that the command makes
pub safe_as : (image : Image) (calls : List Call) (before next made : Settings) → next ≡ made → AreSafe image calls before next → AreSafe image calls before made
safe_as image calls before next made e safe = subst (AreSafe image calls before) e safe
