-- After the calls of at most 16 commits the image still has the bytes of each of them: no commit of a step erases a sector that the step
-- programmed, since a sector has 14 slots.
use Rattle.std.proofs.Common.{◌≡◌, ◌≢◌, ◌⊎◌, ◌+◌, ◌-◌, ◌<◌, ◌≤◌, ℕ, zero, suc, List, [], ◌∷◌, ◌++◌, length, map, take, drop, get_or, refl, sym, ap, subst, ◌∙◌, inl, inr, arith, Option, Some, None}
use Rattle.std.proofs.lemmas.List.{append_assoc}
use Rattle.pn_values.specs.Command.{apply}
use Rattle.pn_values.specs.declared.command.Command.{Command}
use Rattle.pn_values.specs.declared.settings.Settings.{Settings}
use Rattle.flash_model.specs.Calls.{Call, Programs, Erases, Arms}
use Rattle.flash_model.specs.Image.{Image, IsImage, AreBytes, erased, sector_of, other}
use Rattle.flash_model.specs.declared.flash.Sector.{Sector}
use Rattle.flash_model.specs.declared.flash.Sector.TheVariants.{First, Second}
use Rattle.settings_journal.specs.Calls.{base_calls, calls_of, slot_calls}
use Rattle.settings_journal.specs.Cut.{AreWrites, all_carried_out, carried_out}
use Rattle.settings_journal.specs.Head.{base_of, head_of}
use Rattle.settings_journal.specs.Image.{StartsAt, StartsWith, head_in, room_of, slots_of, spare}
use Rattle.settings_journal.specs.Slot.{entry_of as entry_with, place_of, slot_at, slot_gate}
use Rattle.settings_journal.specs.settings_store.Machine.{Accepted}
use Rattle.device_station.specs.recorded.Record.{HaveBytes, call_in, entry_of}
use Rattle.device_station.specs.recording.Calls.{CallsOf}
use Rattle.device_station.proofs.RecordingBytes.{Has, HasAll, has_both, other_other, same_part, slotted_long, slotted_front, slotted_gate, slotted_second, slotted_entry, slotted_zero, based_long, based_front, based_zero, slot_here, slot_there, base_here, base_there}
use Rattle.device_station.proofs.RecordingPositions.{AreLong, slots_are, either_sector, few_free, next_is_blank, slot_next, base_next}
use Rattle.device_station.proofs.RecordingReading.{entry_length, open_keeps, short_command}

-- ---- bytes

bytes_front : (front back : List Call) → HaveBytes (front ++ back) → HaveBytes front
bytes_front [] back are = tt
bytes_front (call ∷ front) back are = (are.0, bytes_front front back are.1)

bytes_back : (front back : List Call) → HaveBytes (front ++ back) → HaveBytes back
bytes_back [] back are = are
bytes_back (call ∷ front) back are = bytes_back front back are.1

-- ---- where the calls of a step are

same_some : (one two : Sector) → Some one ≡ Some two → one ≡ two
same_some one two e = cc

-- After this many commits of a step, its calls are in the active sector, before the slot that is next; or in the other one, and then few
-- commits of a step are left.
abbrev pub Lies : ℕ → Option Sector → ℕ → Call → Type 0
Lies number active free (Programs sector place bytes) =
    (1 ≤ number) × (((active ≡ Some sector) × (place + length bytes ≤ place_of (14 - free))) ⊎ ((active ≡ Some (other sector)) × (16 ≤ number + free)))
Lies number active free (Erases sector) = Unit {0}
Lies number active free (Arms order) = Unit {0}

abbrev pub AllLie : ℕ → Option Sector → ℕ → List Call → Type 0
AllLie number active free [] = Unit {0}
AllLie number active free (call ∷ calls) = Lies number active free call × AllLie number active free calls

lie_both : (number : ℕ) (active : Option Sector) (free : ℕ) (front back : List Call) → AllLie number active free front → AllLie number active free back → AllLie number active free (front ++ back)
lie_both number active free [] back f b = b
lie_both number active free (call ∷ front) back f b = (f.0, lie_both number active free front back f.1 b)

lies_slot : (number left : ℕ) (sector : Sector) (call : Call) → left < 14 → Lies number (Some sector) (suc left) call → Lies (suc number) (Some sector) left call
lies_slot number left sector (Programs s place bytes) few (some, inl at) = (omega arith, inl (at.0, omega (arith, few, at.1)))
lies_slot number left sector (Programs s place bytes) few (some, inr at) = (omega arith, inr (at.0, omega (arith, at.1)))
lies_slot number left sector (Erases s) few lies = tt
lies_slot number left sector (Arms order) few lies = tt

all_lie_slot : (number left : ℕ) (sector : Sector) (calls : List Call) → left < 14 → AllLie number (Some sector) (suc left) calls → AllLie (suc number) (Some sector) left calls
all_lie_slot number left sector [] few lie = tt
all_lie_slot number left sector (call ∷ calls) few lie = (lies_slot number left sector call few lie.0, all_lie_slot number left sector calls few lie.1)

lies_base : (number : ℕ) (active : Option Sector) (call : Call) → number < 16 → Lies number active 0 call → Lies (suc number) (Some (spare active)) 14 call
lies_base number (Some sector) (Programs s place bytes) few (some, inl at) = (omega arith, inr (ap (λ t. Some (other t)) (same_some sector s at.0), omega (arith, some)))
lies_base number (Some sector) (Programs s place bytes) few (some, inr at) = absurd (omega (arith, few, at.1))
lies_base number None (Programs s place bytes) few (some, inl at) = cc (at.0)
lies_base number None (Programs s place bytes) few (some, inr at) = cc (at.0)
lies_base number active (Erases s) few lies = tt
lies_base number active (Arms order) few lies = tt

all_lie_base : (number : ℕ) (active : Option Sector) (calls : List Call) → number < 16 → AllLie number active 0 calls → AllLie (suc number) (Some (spare active)) 14 calls
all_lie_base number active [] few lie = tt
all_lie_base number active (call ∷ calls) few lie = (lies_base number active call few lie.0, all_lie_base number active calls few lie.1)

-- ---- they stay

-- the bytes of a call in this sector of an image
abbrev pub IsIn : Image → Sector → ℕ → List ℕ → Type 0
IsIn image sector place bytes = take (length bytes) (drop place (sector_of image sector)) ≡ bytes

stays_there : (image new : Image) (sector s : Sector) (place : ℕ) (bytes : List ℕ) → sector ≡ s → sector_of new sector ≡ sector_of image sector → IsIn image s place bytes → IsIn new s place bytes
stays_there image new sector s place bytes e same has =
    subst (λ t. IsIn new t place bytes) e (ap (λ l. take (length bytes) (drop place l)) same ∙ subst (λ t. IsIn image t place bytes) (sym e) has)

has_slot : (number left : ℕ) (sector : Sector) (image new : Image) (call : Call) → take (place_of (14 - suc left)) (sector_of new sector) ≡ take (place_of (14 - suc left)) (sector_of image sector)
    → sector_of new (other sector) ≡ sector_of image (other sector) → Lies number (Some sector) (suc left) call → Has image call → Has new call
has_slot number left sector image new (Programs s place bytes) front there (some, inl at) has =
    let e = same_some sector s at.0 in
    subst (λ t. IsIn new t place bytes) e
    (same_part (place_of (14 - suc left)) (sector_of new sector) (sector_of image sector) place (length bytes) at.1 front ∙ subst (λ t. IsIn image t place bytes) (sym e) has)
has_slot number left sector image new (Programs s place bytes) front there (some, inr at) has =
    stays_there image new (other sector) s place bytes (ap other (same_some sector (other s) at.0) ∙ other_other s) there has
has_slot number left sector image new (Erases s) front there lies has = tt
has_slot number left sector image new (Arms order) front there lies has = tt

all_have_slot : (number left : ℕ) (sector : Sector) (image new : Image) (calls : List Call) → take (place_of (14 - suc left)) (sector_of new sector) ≡ take (place_of (14 - suc left)) (sector_of image sector)
    → sector_of new (other sector) ≡ sector_of image (other sector) → AllLie number (Some sector) (suc left) calls → HasAll image calls → HasAll new calls
all_have_slot number left sector image new [] front there lie have = tt
all_have_slot number left sector image new (call ∷ calls) front there lie have =
    (has_slot number left sector image new call front there lie.0 have.0, all_have_slot number left sector image new calls front there lie.1 have.1)

has_base : (number : ℕ) (active : Option Sector) (image new : Image) (call : Call) → number < 16 → sector_of new (other (spare active)) ≡ sector_of image (other (spare active)) → Lies number active 0 call
    → Has image call → Has new call
has_base number (Some sector) image new (Programs s place bytes) few there (some, inl at) has =
    stays_there image new (other (other sector)) s place bytes (other_other sector ∙ same_some sector s at.0) there has
has_base number (Some sector) image new (Programs s place bytes) few there (some, inr at) has = absurd (omega (arith, few, at.1))
has_base number None image new (Programs s place bytes) few there (some, inl at) has = cc (at.0)
has_base number None image new (Programs s place bytes) few there (some, inr at) has = cc (at.0)
has_base number active image new (Erases s) few there lies has = tt
has_base number active image new (Arms order) few there lies has = tt

all_have_base : (number : ℕ) (active : Option Sector) (image new : Image) (calls : List Call) → number < 16 → sector_of new (other (spare active)) ≡ sector_of image (other (spare active))
    → AllLie number active 0 calls → HasAll image calls → HasAll new calls
all_have_base number active image new [] few there lie have = tt
all_have_base number active image new (call ∷ calls) few there lie have =
    (has_base number active image new call few there lie.0 have.0, all_have_base number active image new calls few there lie.1 have.1)

-- ---- one commit

-- after this many commits of a step, with these calls: the image has the bytes of each of them, wherever its journal is then
pub record Kept (number : ℕ) (image : Image) (stored : Settings) (room : ℕ) (calls : List Call) : Type 0 where
  pub long : AreLong image
  pub lie : (active : Option Sector) (generation free : ℕ) → StartsAt image active stored generation free → room ≡ room_of 14 generation free → AllLie number active free calls
  pub have : HasAll image calls

lie_at : (number : ℕ) (active now : Option Sector) (free left : ℕ) (calls : List Call) → active ≡ now → free ≡ left → AllLie number now left calls → AllLie number active free calls
lie_at number active now free left calls e f lie = subst (λ a. AllLie number a free calls) (sym e) (subst (λ k. AllLie number now k calls) (sym f) lie)

module _ (number : ℕ) (image : Image) (sector : Sector) (stored then : Settings) (generation left : ℕ) (entry : List ℕ) (earlier : List Call) (long : AreLong image) (starts : StartsAt image (Some sector) stored generation (suc left)) where
  abbrev place : ℕ
  place = 14 - suc left

  abbrev new : Image
  new = all_carried_out image (slot_calls sector place entry)

  few_slots : suc left ≤ 14
  few_slots = few_free image (Some sector) stored generation (suc left) long starts

  blank : slot_at (sector_of image sector) place ≡ erased 256
  blank = next_is_blank (sector_of image sector) left (long sector) starts.3

  long_new : AreLong new
  long_new s = elim (either_sector s sector) [
    | inl is ↦ subst (λ t. length (sector_of new t) ≡ 4096) (sym is) (ap length (slot_here image sector place entry) ∙ slotted_long (sector_of image sector) place entry (long sector) (omega (arith, few_slots)) blank)
    | inr is ↦ subst (λ t. length (sector_of new t) ≡ 4096) (sym is) (ap length (slot_there image sector place entry) ∙ long (other sector))
  ]

  front : (k : ℕ) → k ≤ place_of place → take k (sector_of new sector) ≡ take k (sector_of image sector)
  front k h = ap (take k) (slot_here image sector place entry) ∙ slotted_front (sector_of image sector) place entry (long sector) (omega (arith, few_slots)) blank k h

  heads : (s : Sector) → head_in new s ≡ head_in image s
  heads s = elim (either_sector s sector) [
    | inl is ↦ subst (λ t. head_in new t ≡ head_in image t) (sym is) (front 512 (omega arith))
    | inr is ↦ subst (λ t. head_in new t ≡ head_in image t) (sym is) (ap head_of (slot_there image sector place entry))
  ]

  next_is : (active : Option Sector) (next free : ℕ) → StartsAt new active then next free → room_of 14 generation (suc left) - 1 ≡ room_of 14 next free → (active ≡ Some sector) × (free ≡ left)
  next_is active next free later less = slot_next image new sector stored then generation left active next free long long_new heads starts later (sym less)

  -- the entry ends before its gate, since the slot is read as a command
  short : (command : Command) → entry ≡ entry_with command → AreBytes entry → (active : Option Sector) (next free : ℕ) → StartsAt new active then next free
      → room_of 14 generation (suc left) - 1 ≡ room_of 14 next free → length entry ≤ 242
  short command spelled small active next free later less =
      let at = subst (λ a. StartsAt new a then next free) (next_is active next free later less).0 later in
      let here = slot_here image sector place entry in
      let reads = at.1 in
      let sized : place < slots_of (sector_of new sector) = let n = slots_are (sector_of new sector) (long_new sector) in omega (arith, n, few_slots) in
      let gate = ap (λ l. slot_gate (slot_at l place)) here ∙ slotted_gate (sector_of image sector) place entry (long sector) (omega (arith, few_slots)) blank in
      let keeps = open_keeps (head_of (sector_of new sector)) (sector_of new sector) (slots_of (sector_of new sector)) reads.base then place reads.after sized gate in
      let most = short_command (head_of (sector_of new sector)) (slot_at (sector_of new sector) place) keeps.0 keeps.1.is in
      let size : length entry ≡ get_or entry 1 0 + 2 = ap length spelled ∙ entry_length command ∙ ap (λ l. get_or l 1 0 + 2) (sym spelled) in
      let second = ap (λ l. get_or (slot_at l place) 1 0) here ∙ slotted_second (sector_of image sector) place entry (long sector) (omega (arith, few_slots)) blank small (omega (arith, size)) in
      omega (arith, size, second, most)

  pub slot_kept : (command : Command) → entry ≡ entry_with command → AreBytes entry → StartsWith new then (room_of 14 generation (suc left) - 1) → AllLie number (Some sector) (suc left) earlier → HasAll image earlier
      → Kept (suc number) new then (room_of 14 generation (suc left) - 1) (earlier ++ slot_calls sector place entry)
  slot_kept command spelled small later lie have =
      let same : room_of 14 generation (suc left) - 1 ≡ room_of 14 later.1 later.2 = later.4 ∙ ap (λ n. room_of n later.1 later.2) (slots_are (sector_of new First) (long_new First)) in
      let most = short command spelled small later.0 later.1 later.2 later.3 same in
      let here = slot_here image sector place entry in
      let there = slot_there image sector place entry in
      let one : IsIn new sector (place_of place) entry =
      ap (λ l. take (length entry) (drop (place_of place) l)) here ∙ slotted_entry (sector_of image sector) place entry (long sector) (omega (arith, few_slots)) blank small most in
      let two : IsIn new sector (place_of place + 255) (0 ∷ []) =
      ap (λ l. take 1 (drop (place_of place + 255) l)) here ∙ slotted_zero (sector_of image sector) place entry (long sector) (omega (arith, few_slots)) blank in
      record {
        long = long_new;
        lie = λ active next free starts_new is.
            lie_at (suc number) active (Some sector) free left (earlier ++ slot_calls sector place entry) (next_is active next free starts_new is).0 (next_is active next free starts_new is).1
            (lie_both (suc number) (Some sector) left earlier (slot_calls sector place entry) (all_lie_slot number left sector earlier (omega (arith, few_slots)) lie)
            ((omega arith, inl (refl, omega (arith, few_slots, most))), ((omega arith, inl (refl, omega (arith, few_slots))), tt)));
        have = has_both new earlier (slot_calls sector place entry) (all_have_slot number left sector image new earlier (front (place_of place) (omega arith)) there lie have) (one, (two, tt));
      }

module _ (number : ℕ) (image : Image) (active : Option Sector) (stored then : Settings) (generation : ℕ) (base : List ℕ) (earlier : List Call) (long : AreLong image) (starts : StartsAt image active stored generation 0) (small : AreBytes base) (most : length base ≤ 437) where
  abbrev changed : Image
  changed = all_carried_out image (base_calls (spare active) base)

  long_changed : AreLong changed
  long_changed s = elim (either_sector s (spare active)) [
    | inl is ↦ subst (λ t. length (sector_of changed t) ≡ 4096) (sym is) (ap length (base_here image (spare active) base (long (spare active))) ∙ based_long base most small)
    | inr is ↦ subst (λ t. length (sector_of changed t) ≡ 4096) (sym is) (ap length (base_there image (spare active) base) ∙ long (other (spare active)))
  ]

  pub base_kept : number < 16 → room_of 14 generation 0 ≢ 0 → AllLie number active 0 earlier → HasAll image earlier
      → Kept (suc number) changed then (room_of 14 generation 0 - 1) (earlier ++ base_calls (spare active) base)
  base_kept few some lie have =
      let here = base_here image (spare active) base (long (spare active)) in
      let there = base_there image (spare active) base in
      let one : IsIn changed (spare active) 0 base = ap (λ l. take (length base) (drop 0 l)) here ∙ based_front base most small in
      let two : IsIn changed (spare active) 511 (0 ∷ []) = ap (λ l. take 1 (drop 511 l)) here ∙ based_zero base most small in
      record {
        long = long_changed;
        lie = λ now next free starts_new is.
            (let at = base_next image changed active stored then generation now next free long_changed (ap head_of there) starts starts_new some (sym is) in
            lie_at (suc number) now (Some (spare active)) free 14 (earlier ++ base_calls (spare active) base) at.0 at.1
            (lie_both (suc number) (Some (spare active)) 14 earlier (base_calls (spare active) base) (all_lie_base number active earlier few lie)
            (tt, ((omega arith, inl (refl, omega (arith, most))), ((omega arith, inl (refl, omega arith)), tt)))));
        have = has_both changed earlier (base_calls (spare active) base) (all_have_base number active image changed earlier few there lie have) (tt, (one, (two, tt)));
      }

-- the calls of a commit, by its position
commit_kept : (number : ℕ) (image : Image) (active : Option Sector) (stored : Settings) (generation free room : ℕ) (command : Command) (calls earlier : List Call) → AreLong image → StartsAt image active stored generation free
    → room ≡ room_of 14 generation free → calls ≡ calls_of 14 active generation free stored command → AreWrites calls → HaveBytes calls → number < 16 → room ≢ 0 → StartsWith (all_carried_out image calls) (apply command stored) (room - 1)
    → AllLie number active free earlier → HasAll image earlier → Kept (suc number) (all_carried_out image calls) (apply command stored) (room - 1) (earlier ++ calls)
commit_kept number image (Some sector) stored generation (suc left) room command calls earlier long starts is are writes bytes low some later lie have =
    let small = (subst HaveBytes are bytes).0 in
    let then : StartsWith (all_carried_out image (slot_calls sector (14 - suc left) (entry_with command))) (apply command stored) (room_of 14 generation (suc left) - 1) =
    subst (λ c. StartsWith (all_carried_out image c) (apply command stored) (room_of 14 generation (suc left) - 1)) are (subst (λ n. StartsWith (all_carried_out image calls) (apply command stored) (n - 1)) is later) in
    let kept = slot_kept number image sector stored (apply command stored) generation left (entry_with command) earlier long starts command refl small then lie have in
    subst (λ n. Kept (suc number) (all_carried_out image calls) (apply command stored) (n - 1) (earlier ++ calls)) (sym is)
    (subst (λ c. Kept (suc number) (all_carried_out image c) (apply command stored) (room_of 14 generation (suc left) - 1) (earlier ++ c)) (sym are) kept)
commit_kept number image (Some sector) stored generation zero room command calls earlier long starts is are writes bytes low some later lie have =
    let small = (subst HaveBytes are bytes).1.0 in
    let most = (subst AreWrites are writes).1.0 in
    let kept = base_kept number image (Some sector) stored (apply command stored) generation (base_of (generation + 1) (apply command stored)) earlier long starts small most low (subst (λ n. n ≢ 0) is some) lie have in
    subst (λ n. Kept (suc number) (all_carried_out image calls) (apply command stored) (n - 1) (earlier ++ calls)) (sym is)
    (subst (λ c. Kept (suc number) (all_carried_out image c) (apply command stored) (room_of 14 generation 0 - 1) (earlier ++ c)) (sym are) kept)
commit_kept number image None stored generation free room command calls earlier long starts is are writes bytes low some later lie have =
    let small = (subst HaveBytes are bytes).1.0 in
    let most = (subst AreWrites are writes).1.0 in
    let none : free ≡ 0 = starts.3 in
    let at : room ≡ room_of 14 generation 0 = is ∙ ap (room_of 14 generation) none in
    let kept = base_kept number image None stored (apply command stored) generation (base_of (generation + 1) (apply command stored)) earlier long (subst (StartsAt image None stored generation) none starts) small most low (subst (λ n. n ≢ 0) at some)
    (subst (λ k. AllLie number None k earlier) none lie) have in
    subst (λ n. Kept (suc number) (all_carried_out image calls) (apply command stored) (n - 1) (earlier ++ calls)) (sym at)
    (subst (λ c. Kept (suc number) (all_carried_out image c) (apply command stored) (room_of 14 generation 0 - 1) (earlier ++ c)) (sym are) kept)

-- ---- the commits of a step

starts_of : (image : Image) (stored : Settings) (room : ℕ) (accepted : List Accepted) (calls : List Call) → CallsOf image stored room accepted calls → StartsWith image stored room
starts_of image stored room [] calls of = of.1
starts_of image stored room (one ∷ more) calls of = (of.2.active, of.2.generation, of.2.free, of.2.starts, of.2.room_is)

carried_both : (image : Image) (front back : List Call) → all_carried_out image (front ++ back) ≡ all_carried_out (all_carried_out image front) back
carried_both image [] back = refl
carried_both image (call ∷ front) back = carried_both (carried_out image call) front back

all_kept : (number : ℕ) (image : Image) (stored : Settings) (room : ℕ) (accepted : List Accepted) (calls earlier : List Call) → CallsOf image stored room accepted calls → HaveBytes calls → number + length accepted ≤ 16
    → length accepted ≤ room → Kept number image stored room earlier → HasAll (all_carried_out image calls) (earlier ++ calls)
all_kept number image stored room [] calls earlier of bytes few paid kept =
    subst (λ c. HasAll (all_carried_out image c) (earlier ++ c)) (sym of.0) (has_both image earlier [] kept.have tt)
all_kept number image stored room (one ∷ more) calls earlier of bytes few paid kept =
    let commit = of.0 in
    let cost = of.2 in
    let slots = slots_are image.first (kept.long First) in
    let split : HaveBytes (commit ++ of.1) = subst HaveBytes of.5 bytes in
    let room_is = cost.room_is ∙ ap (λ n. room_of n cost.generation cost.free) slots in
    let are = cost.are ∙ ap (λ n. calls_of n cost.active cost.generation cost.free stored one.command) slots in
    let next = commit_kept number image cost.active stored cost.generation cost.free room one.command commit earlier kept.long cost.starts room_is are cost.writes (bytes_front commit of.1 split) (omega (arith, few)) (λ none. absurd (omega (arith, none, paid)))
    (starts_of (all_carried_out image commit) (apply one.command stored) (room - 1) more of.1 of.4) (kept.lie cost.active cost.generation cost.free cost.starts room_is) kept.have in
    let rest = all_kept (suc number) (all_carried_out image commit) (apply one.command stored) (room - 1) more of.1 (earlier ++ commit) of.4 (bytes_back commit of.1 split) (omega (arith, few)) (omega (arith, paid)) next in
    let whole : HasAll (all_carried_out image (commit ++ of.1)) (earlier ++ (commit ++ of.1)) =
    subst (λ l. HasAll (all_carried_out image (commit ++ of.1)) l) (append_assoc earlier commit of.1) (subst (λ i. HasAll i ((earlier ++ commit) ++ of.1)) (sym (carried_both image commit of.1)) rest) in
    subst (λ c. HasAll (all_carried_out image c) (earlier ++ c)) (sym of.5) whole

-- The bytes of the calls of at most 16 commits are in the image after them.
pub all_held : (image : Image) (stored : Settings) (room : ℕ) (accepted : List Accepted) (calls : List Call) → AreLong image → CallsOf image stored room accepted calls → HaveBytes calls → length accepted ≤ 16 → length accepted ≤ room
    → HasAll (all_carried_out image calls) calls
all_held image stored room accepted calls long of bytes few paid =
    all_kept 0 image stored room accepted calls [] of bytes (omega (arith, few)) paid (record { long = long; lie = λ active generation free starts is. tt; have = tt })

-- ---- reading them back

pub long_of : (image : Image) → IsImage 4096 image → AreLong image
long_of image sized First = sized.first_size
long_of image sized Second = sized.second_size

-- Where the image has the bytes of calls, what is stored of them is read as these calls.
pub read_back : (image : Image) (calls : List Call) → AreWrites calls → HasAll image calls → map (call_in image) (map entry_of calls) ≡ calls
read_back image [] writes have = refl
read_back image (Programs sector place bytes ∷ calls) writes have =
    ap (λ b. Programs sector place b ∷ map (call_in image) (map entry_of calls)) have.0 ∙ ap (λ l. Programs sector place bytes ∷ l) (read_back image calls writes.1 have.1)
read_back image (Erases sector ∷ calls) writes have = ap (λ l. Erases sector ∷ l) (read_back image calls writes.1 have.1)
read_back image (Arms order ∷ calls) writes have = absurd writes.0
