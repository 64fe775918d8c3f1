-- What the store of a command makes of an image, whether its calls succeeded or failed.
use Rattle.std.proofs.Common.{◌≡◌, ◌≢◌, ◌⊎◌, ℕ, suc, ◌+◌, ◌-◌, ◌*◌, ◌<◌, ◌≤◌, List, refl, sym, ap, subst, ◌∙◌, inl, inr, arith, Option, Some, None}
use Rattle.std.proofs.lemmas.Bool.{cases_eq}
use Rattle.pn_values.specs.Command.{apply}
use Rattle.pn_values.specs.declared.command.Command.{Command}
use Rattle.pn_values.specs.declared.settings.Settings.{Settings}
use Rattle.flash_model.specs.Image.{Image, sector_of, other, erased, slots_in, IsImage}
use Rattle.flash_model.specs.declared.flash.Sector.{Sector}
use Rattle.flash_model.specs.declared.flash.Sector.TheVariants.{First, Second}
use Rattle.settings_journal.specs.declared.head.Version.{Version}
use Rattle.settings_journal.specs.declared.head.Version.TheVariants.{One, Two}
use Rattle.settings_journal.specs.Head.{head_of, gate_of, version_at, generation_at, Counts, Spells, IsSettings, base_of, Rises, IsOlder}
use Rattle.settings_journal.specs.Image.{head_in, slots_of, left_in, room_of, IsActive, IsClosed, Reads, StartsAt, IsLeft, LeftByDevice, BootsTo, IsGeneration, spare}
use Rattle.settings_journal.specs.Slot.{slot_at, After, Follows, HasEntry, IsEntryOf, next_slot, free_in}
use Rattle.settings_journal.specs.Writes.{IsBase, MayLeave, KeepsOthers, MayLeaveSlot}
use Rattle.flash_model.specs.Calls.{Call}
use Rattle.settings_journal.specs.Calls.{CommitCalls, calls_of}
use Rattle.settings_journal.specs.Commit.{IsKept}
use Rattle.settings_journal.specs.Cut.{AreSafe, AreWrites}
use Rattle.settings_journal.specs.Store.{IsBefore, Stored}
use Rattle.settings_journal.specs.declared.start.Position.{Position}
use Rattle.flash_model.specs.declared.flash.FlashFault.{FlashFault}
use Rattle.std.specs.Prelude.{Result, Ok, Err, MatchOption}
use Rattle.settings_journal.proofs.Rising.{Rises-refl, Rises-trans, generation_at-risen, gate-risen}
use Rattle.settings_journal.proofs.Parts.{IsRead, read_base}
use Rattle.settings_journal.proofs.Slots.{After-blank, After-slots, After-closed, After-open, blank_closed, open_not, next_le, next_blank, next_none, next_after}
use Rattle.settings_journal.proofs.Active.{active_same, closed_none}
use Rattle.settings_journal.proofs.Writes.{sector_size}

few_more : (generation : ℕ) → generation < 65535 → generation + 1 ≤ 65535
few_more generation few = omega arith

pub other_other : (sector : Sector) → other (other sector) ≡ sector
other_other First = refl
other_other Second = refl

-- whichever of its bits rise, the head does not count or is older
abbrev pub IsStale : ℕ → List ℕ → Type 0
IsStale generation head = (risen : List ℕ) → Rises head risen → IsOlder generation risen

stale_closed : (generation : ℕ) (head : List ℕ) → gate_of head ≢ 0 → IsStale generation head
stale_closed generation head closed risen r counts = absurd (closed (gate-risen head risen r counts.gate))

stale_older : (generation : ℕ) (head : List ℕ) → generation ≡ generation_at head → IsStale (generation + 1) head
stale_older generation head is risen r counts =
    let older = generation_at-risen head risen r in
    omega (arith, is)

module _ (old : Image) (active : Option Sector) (settings : Settings) (generation free : ℕ) (starts : StartsAt old active settings generation free) where
  pub stale_behind : IsStale (generation + 1) (head_in old (other (spare active)))
  stale_behind = elim active as (λ a. StartsAt old a settings generation free → IsStale (generation + 1) (head_in old (other (spare a)))) [
    | None ↦ λ s. stale_closed _ _ s.0.second
    | Some sector ↦ λ s. subst (λ t. IsStale (generation + 1) (head_in old t)) (sym (other_other sector)) (stale_older _ _ s.2)
  ] starts

  generation_of_active : (sector : Sector) (before : ℕ) → IsActive old sector → before ≡ generation_at (head_in old sector) → generation ≤ before
  generation_of_active sector before is e =
      elim active as (λ a. StartsAt old a settings generation free → generation ≤ before) [
        | None ↦ λ s. absurd (closed_none old sector s.0 is.counts)
        | Some one ↦ λ s. (let same = ap (λ t. generation_at (head_in old t)) (active_same old one sector s.0 is) in omega (arith, s.2, same, e))
      ] starts

  generation_of_none : ¬ Counts (head_in old First) → ¬ Counts (head_in old Second) → generation ≤ 0
  generation_of_none first second =
      elim active as (λ a. StartsAt old a settings generation free → generation ≤ 0) [
        | None ↦ λ s. omega (arith, s.2)
        | Some one ↦ λ s. absurd (elim one as (λ t. IsActive old t → ⊥) [ First ↦ λ a. first a.counts | Second ↦ λ a. second a.counts ] s.0)
      ] starts

  pub generation_before : (before : ℕ) → IsGeneration old before → generation ≤ before
  generation_before before (inl (sector, is, e)) = generation_of_active sector before is e
  generation_before before (inr (first, second, e)) = rw e (generation_of_none first second)

-- ---- a base is stored

-- The write of a base with the next settings into the spare sector, and what it left.
pub record Written (old new : Image) (active : Option Sector) (settings next : Settings) (generation free slots : ℕ) : Type 0 where
  pub few : generation < 65535
  pub starts : StartsAt old active settings generation free
  pub behind : sector_of new (other (spare active)) ≡ sector_of old (other (spare active))
  pub valid : IsSettings next
  pub slots_is : slots ≡ slots_of (sector_of new (spare active))
  pub left : MayLeave (sector_of old (spare active)) (base_of (generation + 1) next) (sector_of new (spare active))

-- the facts about the calls of a store, as one record
pub Written-from : (old new : Image) (active : Option Sector) (settings next : Settings) (generation free slots : ℕ) (sector : Sector) (bytes : List ℕ)
    → sector ≡ spare active → bytes ≡ base_of (generation + 1) next → IsSettings next → generation < 65535 → StartsAt old active settings generation free
    → slots ≡ slots_of (sector_of new sector)
    → sector_of new (other sector) ≡ sector_of old (other sector) → MayLeave (sector_of old sector) bytes (sector_of new sector)
    → Written old new active settings next generation free slots
Written-from old new active settings next generation free slots sector bytes is base valid few starts size behind left = record {
  few = few;
  starts = starts;
  behind = subst (λ s. sector_of new (other s) ≡ sector_of old (other s)) is behind;
  valid = valid;
  slots_is = subst (λ s. slots ≡ slots_of (sector_of new s)) is size;
  left = subst (λ s. MayLeave (sector_of old s) (base_of (generation + 1) next) (sector_of new s)) is (subst (λ b. MayLeave (sector_of old sector) b (sector_of new sector)) base left);
}

pub base_at : (new : Image) (sector spared : Sector) (bytes base : List ℕ) → sector ≡ spared → bytes ≡ base → IsBase (sector_of new sector) bytes → IsBase (sector_of new spared) base
base_at new sector spared bytes base e f there = subst (λ s. IsBase (sector_of new s) base) e (subst (IsBase (sector_of new sector)) f there)

-- in a sector of version 2 the slots after the last one in use are left
left_two : (sector : List ℕ) → version_at (head_of sector) ≡ Two → left_in sector ≡ slots_of sector - next_slot sector (slots_of sector)
left_two sector two = ap (λ v. free_in v sector (slots_of sector)) two

more_room : (k slots : ℕ) → k * (slots + 1) + slots + 1 ≡ suc k * (slots + 1)
more_room k slots = omega arith

module _ (old new : Image) (active : Option Sector) (settings next : Settings) (generation free slots : ℕ) (written : Written old new active settings next generation free slots)
    (there : IsBase (sector_of new (spare active)) (base_of (generation + 1) next)) where
  now : IsRead (head_in new (spare active)) (generation + 1) next
  now = read_base _ _ next written.valid (few_more generation written.few) there.holds

  stale : IsStale (generation_at (head_in new (spare active))) (head_in new (other (spare active)))
  stale =
      let here = stale_behind old active settings generation free written.starts in
      subst (λ n. IsStale n (head_in new (other (spare active)))) (sym now.is) (subst (λ bytes. IsStale (generation + 1) (head_of bytes)) (sym written.behind) here)

  counts : Counts (head_in new (spare active))
  counts = record { gate = there.gate; magic = now.magic; generation = (let e = now.is in omega (arith, e)) }

  pub now_active : IsActive new (spare active)
  now_active = record { counts = counts; newest = stale _ (Rises-refl _) }

  reads : Reads (sector_of new (spare active)) next
  reads = record { base = next; spells = now.spells; after = After-blank _ _ _ next there.blank }

  all_left : slots ≡ left_in (sector_of new (spare active))
  all_left =
      let none = next_none (sector_of new (spare active)) (slots_of (sector_of new (spare active))) there.blank in
      omega (arith, written.slots_is, left_two (sector_of new (spare active)) now.version, none)

  pub now_starts : StartsAt new (Some (spare active)) next (generation + 1) slots
  now_starts = (now_active, reads, sym now.is, all_left)

  pub now_left : LeftByDevice new
  now_left = (Some (spare active), record { active = now_active; settings = (next, reads); stale = stale })

  pub now_kept : IsKept new settings next
  now_kept = record { left = now_left; boots = inr (room_of (slots_of new.first) (generation + 1) slots, (Some (spare active), generation + 1, slots, now_starts, refl)) }

  pub now_generation : (before : ℕ) → IsGeneration old before → (n : ℕ) × IsGeneration new n × (n ≤ before + 1)
  now_generation before was =
      let le = generation_before old active settings generation free written.starts before was in
      (generation + 1, inl (spare active, now_active, sym now.is), omega (arith, le))

pub base_room : (slots generation free : ℕ) → generation < 65535 → free ≡ 0 → room_of slots (generation + 1) slots + 1 ≡ room_of slots generation free
base_room slots generation free few none =
    let one : 65535 - generation ≡ suc (65535 - (generation + 1)) = omega arith in
    let e = more_room (65535 - (generation + 1)) slots in
    rw (one, none) (omega (arith, e))

-- ---- it is not, and the image starts as before

left_at : (image : Image) (sector : Sector) → IsActive image sector → LeftByDevice image → IsLeft image sector
left_at image sector is (None, closed) = absurd (closed_none image sector closed is.counts)
left_at image sector is (Some one, left) = subst (IsLeft image) (active_same image one sector left.active is) left

-- the contents of the sector have risen or its gate is closed, and this stays so as more bits rise
abbrev pub IsHarmless : List ℕ → List ℕ → Type 0
IsHarmless old new = (risen : List ℕ) → Rises new risen → Rises old risen ⊎ (gate_of risen ≢ 0)

harmless_risen : (old new : List ℕ) → Rises old new → IsHarmless old new
harmless_risen old new r risen s = inl (Rises-trans old new risen r s)

harmless_closed : (old new : List ℕ) → gate_of new ≢ 0 → IsHarmless old new
harmless_closed old new closed risen s = inr (λ e. closed (gate-risen new risen s e))

harmless_stale : (generation : ℕ) (old new : List ℕ) → IsHarmless old new → IsStale generation old → IsStale generation new
harmless_stale generation old new harmless stale risen r counts =
    elim (harmless risen r) [ inl s ↦ stale risen s counts | inr closed ↦ absurd (closed counts.gate) ]

harmless_gate : (old new : List ℕ) → IsHarmless old new → gate_of old ≢ 0 → gate_of new ≢ 0
harmless_gate old new harmless closed e =
    elim (harmless new (Rises-refl new)) [ inl r ↦ closed (gate-risen old new r e) | inr still ↦ still e ]

-- an active sector that is read as settings, next to a stale one
kept_at : (new : Image) (sector : Sector) (settings before next : Settings) → IsActive new sector → Reads (sector_of new sector) settings → IsStale (generation_at (head_in new sector)) (head_in new (other sector))
    → (settings ≡ before) ⊎ (settings ≡ next) → IsKept new before next
kept_at new sector settings before next active reads stale which =
    let generation = generation_at (head_in new sector) in
    let free = left_in (sector_of new sector) in
    let boots : (s : Settings) → settings ≡ s → BootsTo new s =
    λ s e. (room_of (slots_of new.first) generation free, (Some sector, generation, free, (active, subst (Reads (sector_of new sector)) e reads, refl, refl), refl)) in
    record {
      left = (Some sector, record { active = active; settings = (settings, reads); stale = stale });
      boots = elim which [ inl e ↦ inl (boots before e) | inr e ↦ inr (boots next e) ];
    }

module _ (old new : Image) (settings next : Settings) (generation free : ℕ) (left : LeftByDevice old) where
  as_before_closed : StartsAt old None settings generation free → IsHarmless (head_in old First) (head_in new First) → sector_of new Second ≡ sector_of old Second → IsKept new settings next
  as_before_closed starts harmless behind =
      let closed : IsClosed new = record {
        first = harmless_gate _ _ harmless starts.0.first;
        second = λ e. starts.0.second (ap (λ bytes. gate_of (head_of bytes)) (sym behind) ∙ e);
      } in
      record { left = (None, closed); boots = inl (room_of (slots_of new.first) generation free, (None, generation, free, (closed, starts.1, starts.2, starts.3), refl)) }

  as_before_active : (sector : Sector) → StartsAt old (Some sector) settings generation free → IsHarmless (head_in old (other sector)) (head_in new (other sector)) → sector_of new sector ≡ sector_of old sector → IsKept new settings next
  as_before_active sector starts harmless same =
      let was = left_at old sector starts.0 left in
      let head : head_in new sector ≡ head_in old sector = ap head_of same in
      let stale : IsStale (generation_at (head_in new sector)) (head_in new (other sector)) =
      subst (λ h. IsStale (generation_at h) (head_in new (other sector))) (sym head) (harmless_stale _ _ _ harmless was.stale) in
      let active : IsActive new sector = record { counts = subst Counts (sym head) starts.0.counts; newest = stale _ (Rises-refl _) } in
      kept_at new sector settings settings next active (subst (λ s. Reads s settings) (sym same) starts.1) stale (inl refl)

  pub as_before : (active : Option Sector) → StartsAt old active settings generation free → IsHarmless (head_in old (spare active)) (head_in new (spare active)) → sector_of new (other (spare active)) ≡ sector_of old (other (spare active)) → IsKept new settings next
  as_before None starts harmless behind = as_before_closed starts harmless behind
  as_before (Some sector) starts harmless behind = as_before_active sector starts harmless (subst (λ t. sector_of new t ≡ sector_of old t) (other_other sector) behind)

-- whatever the write of a base left, a start gives the settings from before or the next ones
pub base_kept : (old new : Image) (active : Option Sector) (settings next : Settings) (generation free slots : ℕ) → Written old new active settings next generation free slots → LeftByDevice old → IsKept new settings next
base_kept old new active settings next generation free slots w left =
    elim w.left [
      | inl rises ↦ as_before old new settings next generation free left active w.starts (harmless_risen _ _ rises) w.behind
      | inr rest ↦ elim rest [
        | inl closed ↦ as_before old new settings next generation free left active w.starts (harmless_closed _ _ closed) w.behind
        | inr there ↦ now_kept old new active settings next generation free slots w there
      ]
    ]

-- the same for a journal before any command
pub still_kept : (image : Image) (active : Option Sector) (settings next : Settings) (generation free : ℕ) → StartsAt image active settings generation free → LeftByDevice image → IsKept image settings next
still_kept image active settings next generation free starts left =
    record { left = left; boots = inl (room_of (slots_of image.first) generation free, (active, generation, free, starts, refl)) }

-- ---- an entry in a slot

-- a sector of version 1 has no slot left
two_from : (version : Version) (sector : List ℕ) (count : ℕ) → free_in version sector count ≢ 0 → version ≡ Two
two_from One sector count some = absurd (some refl)
two_from Two sector count some = refl

-- The facts about the first slot that is left: its sector has version 2, it lies in the sector, and from it on all
-- slots are blank.
pub record FirstFree (sector : List ℕ) (slots free : ℕ) : Type 0 where
  pub two : version_at (head_of sector) ≡ Two
  pub few : free ≤ slots
  pub inside : slots - free < slots
  pub blank : (k : ℕ) → slots - free ≤ k → k < slots → slot_at sector k ≡ erased 256

pub first_free : (sector : List ℕ) (slots free : ℕ) → slots ≡ slots_of sector → free ≢ 0 → free ≡ left_in sector → FirstFree sector slots free
first_free sector slots free size some left =
    let two = two_from (version_at (head_of sector)) sector (slots_of sector) (λ e. some (left ∙ e)) in
    let n : ℕ = next_slot sector (slots_of sector) in
    let le : n ≤ slots_of sector = next_le sector (slots_of sector) in
    let is : free ≡ slots_of sector - n = left ∙ left_two sector two in
    record {
      two = two;
      few = omega (arith, is, size);
      inside = omega (arith, is, size, some);
      blank = λ k h l. next_blank sector (slots_of sector) k (omega (arith, is, size, le, h)) (omega (arith, size, l));
    }

-- The write of an entry into the first slot that is left.
pub record InSlot (old new : Image) (sector : Sector) (before next : Settings) (command : Command) (entry : List ℕ) (generation free slots : ℕ) : Type 0 where
  pub starts : StartsAt old (Some sector) before generation free
  pub some : free ≢ 0
  pub slots_is : slots ≡ slots_of (sector_of old sector)
  pub of_command : IsEntryOf entry command
  pub next_is : next ≡ apply command before
  pub others : KeepsOthers (slots - free) (sector_of old sector) (sector_of new sector)
  pub behind : sector_of new (other sector) ≡ sector_of old (other sector)

-- the effect of the slot on the settings before
follows_entry : (version : Version) (slot entry : List ℕ) (command : Command) (before next : Settings) → version ≡ Two → IsEntryOf entry command → next ≡ apply command before → HasEntry slot entry → Follows version slot before next
follows_entry version slot entry command before next two is e there =
    let kept = is slot there in
    subst (λ v. Follows v slot before next) (sym two) (inr (there.gate, (kept.0, kept.1, e ∙ sym (kept.2 before))))

module _ (old new : Image) (sector : Sector) (before next : Settings) (command : Command) (entry : List ℕ) (generation free slots : ℕ) (w : InSlot old new sector before next command entry generation free slots) where
  abbrev pub number : ℕ
  number = slots - free

  abbrev pub version : Version
  version = version_at (head_of (sector_of old sector))

  free_is : FirstFree (sector_of old sector) slots free
  free_is = first_free (sector_of old sector) slots free w.slots_is w.some w.starts.3

  head : head_in new sector ≡ head_in old sector
  head = w.others.head

  size : slots ≡ slots_of (sector_of new sector)
  size = w.slots_is ∙ ap slots_in (sym w.others.length)

  same : (k : ℕ) → k ≢ number → slot_at (sector_of new sector) k ≡ slot_at (sector_of old sector) k
  same = w.others.others

  blank_behind : (k : ℕ) → number < k → k < slots → slot_at (sector_of new sector) k ≡ erased 256
  blank_behind k h l = same k (λ e. absurd (omega (arith, e, h))) ∙ free_is.blank k (omega arith) l

  upto : After version (sector_of new sector) number w.starts.1.base before
  upto =
      After-slots version (sector_of old sector) (sector_of new sector) number w.starts.1.base before (λ k h. same k (λ i. absurd (omega (arith, i, h))))
      (After-open version (sector_of old sector) number (slots_of (sector_of old sector)) w.starts.1.base before (omega (arith, w.slots_is)) (λ k h l. blank_closed _ (free_is.blank k h (omega (arith, w.slots_is, l)))) w.starts.1.after)

  -- the sector is read as the settings that the slot makes
  reads_as : (settings : Settings) → Follows version (slot_at (sector_of new sector) number) before settings → Reads (sector_of new sector) settings
  reads_as settings follows =
      let next_number : After version (sector_of new sector) (suc number) w.starts.1.base settings = (before, upto, follows) in
      let all = After-closed version (sector_of new sector) (suc number) (slots_of (sector_of new sector)) w.starts.1.base settings (omega (arith, size, free_is.inside))
      (λ k h l. blank_closed _ (blank_behind k (omega (arith, h)) (omega (arith, size, l)))) next_number in
      record {
        base = w.starts.1.base;
        spells = subst (λ h. Spells h w.starts.1.base) (sym head) w.starts.1.spells;
        after = subst (λ h. After (version_at h) (sector_of new sector) (slots_of (sector_of new sector)) w.starts.1.base settings) (sym head) all;
      }

  behind_head : head_in new (other sector) ≡ head_in old (other sector)
  behind_head = ap head_of w.behind

  active_now : IsActive new sector
  active_now = record {
    counts = subst Counts (sym head) w.starts.0.counts;
    newest = subst (λ h. IsOlder (generation_at h) (head_in new (other sector))) (sym head) (subst (IsOlder (generation_at (head_in old sector))) (sym behind_head) w.starts.0.newest);
  }

  generation_is : generation ≡ generation_at (head_in new sector)
  generation_is = w.starts.2 ∙ ap generation_at (sym head)

  stale_now : LeftByDevice old → IsStale (generation_at (head_in new sector)) (head_in new (other sector))
  stale_now left =
      let was = left_at old sector w.starts.0 left in
      subst (λ h. IsStale (generation_at h) (head_in new (other sector))) (sym head) (subst (IsStale (generation_at (head_in old sector))) (sym behind_head) was.stale)

  -- the case that the entry is stored
  pub slot_starts : HasEntry (slot_at (sector_of new sector) number) entry → StartsAt new (Some sector) next generation (free - 1)
  slot_starts there =
      let next_number = next_after (sector_of new sector) (slots_of (sector_of new sector)) number (omega (arith, size, free_is.inside))
      (open_not (slot_at (sector_of new sector) number) there.gate) (λ j h l. blank_behind j h (omega (arith, size, l))) in
      let two : version_at (head_in new sector) ≡ Two = ap version_at head ∙ free_is.two in
      let rest : free - 1 ≡ left_in (sector_of new sector) = omega (arith, left_two (sector_of new sector) two, next_number, size, free_is.few, w.some) in
      (active_now, reads_as next (follows_entry version _ entry command before next free_is.two w.of_command w.next_is there), generation_is, rest)

  -- whatever the write left, a start gives the settings from before or the next ones
  pub slot_kept : MayLeaveSlot entry (slot_at (sector_of new sector) number) → LeftByDevice old → IsKept new before next
  slot_kept (inl closed) left = kept_at new sector before before next active_now (reads_as before (inl (closed, refl))) (stale_now left) (inl refl)
  slot_kept (inr there) left =
      kept_at new sector next before next active_now (reads_as next (follows_entry version _ entry command before next free_is.two w.of_command w.next_is there)) (stale_now left) (inr refl)

  pub slot_generation : (was : ℕ) → IsGeneration old was → (n : ℕ) × IsGeneration new n × (n ≤ was + 1)
  slot_generation was is =
      let le = generation_before old (Some sector) before generation free w.starts was is in
      (generation, inl (sector, active_now, generation_is), omega (arith, le))

pub slot_room : (slots generation free : ℕ) → free ≢ 0 → room_of slots generation (free - 1) + 1 ≡ room_of slots generation free
slot_room slots generation free some = omega (arith, some)

-- ---- what the code says, as the records above

-- the facts about the first slot that is left, if there is one
pub slot_first : (image : Image) (active : Option Sector) (sector : Sector) (before : Settings) (generation free size : ℕ) → active ≡ Some sector → free ≢ 0 → IsImage size image → StartsAt image active before generation free
    → FirstFree (sector_of image sector) (slots_in size) free
slot_first image active sector before generation free size is some sized starts =
    let at = subst (λ a. StartsAt image a before generation free) is starts in
    first_free (sector_of image sector) (slots_in size) free (ap slots_in (sym (sector_size size image sector sized))) some at.3

pub in_slot : (old new : Image) (position : Position) (sector : Sector) (before next : Settings) (command : Command) (entry : List ℕ) (size spot : ℕ) → position.active ≡ Some sector → position.free ≢ 0 → IsImage size old
    → IsBefore old position command before next → IsEntryOf entry command → spot ≡ slots_in size - position.free → KeepsOthers spot (sector_of old sector) (sector_of new sector)
    → sector_of new (other sector) ≡ sector_of old (other sector) → InSlot old new sector before next command entry position.generation position.free (slots_in size)
in_slot old new position sector before next command entry size spot is some sized b of_command n others behind = record {
  starts = subst (λ a. StartsAt old a before position.generation position.free) is b.starts;
  some = some;
  slots_is = ap slots_in (sym (sector_size size old sector sized));
  of_command = of_command;
  next_is = b.next_is;
  others = subst (λ k. KeepsOthers k (sector_of old sector) (sector_of new sector)) n others;
  behind = behind;
}

pub stored_failed : (old new : Image) (slots : ℕ) (position : Position) (before next : Settings) (result : Result Position FlashFault) (fault : FlashFault) → result ≡ Err fault → (LeftByDevice old → IsKept new before next) → Stored old new slots position before next result
stored_failed old new slots position before next result fault e kept =
    subst (Stored old new slots position before next) (sym e) (record { starts = tt; room = tt; generation = λ was is. tt; kept = kept })

pub stored_slot : (old new : Image) (position : Position) (sector : Sector) (before next : Settings) (command : Command) (entry : List ℕ) (slots spot : ℕ) → InSlot old new sector before next command entry position.generation position.free slots
    → spot ≡ slots - position.free → HasEntry (slot_at (sector_of new sector) spot) entry
    → Stored old new slots position before next (Ok (record { active = Some sector; generation = position.generation; free = position.free - 1 }))
stored_slot old new position sector before next command entry slots spot w n there =
    let here : HasEntry (slot_at (sector_of new sector) (slots - position.free)) entry = subst (λ k. HasEntry (slot_at (sector_of new sector) k) entry) n there in
    record {
      starts = slot_starts old new sector before next command entry position.generation position.free slots w here;
      room = slot_room slots position.generation position.free w.some;
      generation = slot_generation old new sector before next command entry position.generation position.free slots w;
      kept = slot_kept old new sector before next command entry position.generation position.free slots w (inr here);
    }

pub slot_kept_at : (old new : Image) (sector : Sector) (before next : Settings) (command : Command) (entry : List ℕ) (generation free slots spot : ℕ) → InSlot old new sector before next command entry generation free slots
    → spot ≡ slots - free → MayLeaveSlot entry (slot_at (sector_of new sector) spot) → LeftByDevice old → IsKept new before next
slot_kept_at old new sector before next command entry generation free slots spot w n may =
    slot_kept old new sector before next command entry generation free slots w (subst (λ k. MayLeaveSlot entry (slot_at (sector_of new sector) k)) n may)

-- if no slot is left, or no sector is active, none is counted
pub none_free : (image : Image) (active : Option Sector) (before : Settings) (generation free : ℕ) → StartsAt image active before generation free → (active ≡ None) ⊎ (free ≡ 0) → free ≡ 0
none_free image active before generation free starts (inl e) = (subst (λ a. StartsAt image a before generation free) e starts).3
none_free image active before generation free starts (inr e) = e

generation_le : (image : Image) (active : Option Sector) (before : Settings) (generation free : ℕ) → StartsAt image active before generation free → generation ≤ 65535
generation_le image None before generation free starts = omega (arith, starts.2)
generation_le image (Some sector) before generation free starts = omega (arith, starts.2)

few_here : (generation free : ℕ) → generation ≤ 65535 → (generation ≡ 65535 → free ≢ 0) → free ≡ 0 → generation < 65535
few_here generation free le few none =
    elim (cases_eq generation 65535) [ inl e ↦ absurd (few e none) | inr ne ↦ omega (arith, le, ne) ]

-- the write of a base, since no slot is left
pub base_written : (old new : Image) (position : Position) (sector : Sector) (before next : Settings) (command : Command) (size generation : ℕ) (bytes : List ℕ)
    → (position.active ≡ None) ⊎ (position.free ≡ 0) → (position.generation ≡ 65535 → position.free ≢ 0) → IsImage size new → IsBefore old position command before next
    → sector ≡ spare position.active → generation ≡ position.generation + 1 → bytes ≡ base_of generation next → IsSettings next
    → sector_of new (other sector) ≡ sector_of old (other sector) → MayLeave (sector_of old sector) bytes (sector_of new sector)
    → Written old new position.active before next position.generation position.free (slots_in size)
base_written old new position sector before next command size generation bytes used few sized b is n base valid behind left =
    let none = none_free old position.active before position.generation position.free b.starts used in
    Written-from old new position.active before next position.generation position.free (slots_in size) sector bytes is (base ∙ ap (λ k. base_of k next) n) valid
    (few_here position.generation position.free (generation_le old position.active before position.generation position.free b.starts) few none) b.starts
    (ap slots_in (sym (sector_size size new sector sized))) behind left

pub stored_base : (old new : Image) (position : Position) (sector : Sector) (before next : Settings) (command : Command) (slots generation free : ℕ) (bytes : List ℕ)
    → Written old new position.active before next position.generation position.free slots → IsBefore old position command before next → (position.active ≡ None) ⊎ (position.free ≡ 0)
    → sector ≡ spare position.active → generation ≡ position.generation + 1 → bytes ≡ base_of generation next → free ≡ slots → IsBase (sector_of new sector) bytes
    → Stored old new slots position before next (Ok (record { active = Some sector; generation = generation; free = free }))
stored_base old new position sector before next command slots generation free bytes w b used is n base f there =
    let none = none_free old position.active before position.generation position.free b.starts used in
    let here = base_at new sector (spare position.active) bytes (base_of (position.generation + 1) next) is (base ∙ ap (λ k. base_of k next) n) there in
    let at : Position = record { active = Some (spare position.active); generation = position.generation + 1; free = slots } in
    let is_at : at ≡ record { active = Some sector; generation = generation; free = free } = λ i. record { active = Some (sym is i); generation = sym n i; free = sym f i } in
    subst (λ p. Stored old new slots position before next (Ok p)) is_at (record {
      starts = now_starts old new position.active before next position.generation position.free slots w here;
      room = base_room slots position.generation position.free w.few none;
      generation = now_generation old new position.active before next position.generation position.free slots w here;
      kept = λ left. now_kept old new position.active before next position.generation position.free slots w here;
    })

pub with_slot_is : (active : Option Sector) (free : ℕ) → free ≢ 0 → MatchOption active ((active ≡ None) ⊎ (free ≡ 0)) (λ sector. (active ≡ Some sector) × (free ≢ 0))
with_slot_is None free some = inl refl
with_slot_is (Some sector) free some = (refl, some)

-- a commit that begins at the journal's position
pub before : (image : Image) (position : Position) (command : Command) (settings copy next : Settings) → StartsAt image position.active settings position.generation position.free → next ≡ apply command copy → copy ≡ settings → IsBefore image position command settings next
before image position command settings copy next starts is same = record { starts = starts; next_is = is ∙ ap (apply command) same }

pub commit_calls : (image : Image) (active : Option Sector) (settings : Settings) (command : Command) (generation free size : ℕ) (calls : List Call) → IsImage size image → StartsAt image active settings generation free
    → AreWrites (calls_of (slots_in size) active generation free settings command) → AreSafe image (calls_of (slots_in size) active generation free settings command) settings (apply command settings)
    → calls ≡ calls_of (slots_in size) active generation free settings command → CommitCalls image settings (room_of (slots_in size) generation free) command calls
commit_calls image active settings command generation free size calls sized starts writes safe are =
    let e : slots_in size ≡ slots_of image.first = ap slots_in (sym sized.first_size) in
    record {
      active = active;
      generation = generation;
      free = free;
      starts = starts;
      room_is = ap (λ n. room_of n generation free) e;
      are = are ∙ ap (λ n. calls_of n active generation free settings command) e;
      writes = subst AreWrites (sym are) writes;
      safe = subst (λ these. AreSafe image these settings (apply command settings)) (sym are) safe;
    }
