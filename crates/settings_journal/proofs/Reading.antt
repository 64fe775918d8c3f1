-- From the slots that are read one by one to what a sector is read as.
use Rattle.std.proofs.Common.{◌≡◌, ◌+◌, ◌<◌, ℕ, suc, List, length, refl, sym, ap, subst, ◌∙◌, arith, Option, Some, None}
use Rattle.std.specs.Prelude.{MatchOption}
use Rattle.pn_values.specs.declared.settings.Settings.{Settings}
use Rattle.flash_model.specs.Image.{slots_in}
use Rattle.settings_journal.specs.declared.head.Version.{Version}
use Rattle.settings_journal.specs.Head.{head_of, version_at, Spells}
use Rattle.settings_journal.specs.Slot.{slot_at, After, Follows, left_by, next_behind, next_slot, free_in}
use Rattle.settings_journal.specs.Image.{slots_of, left_in, Reads}
use Rattle.settings_journal.proofs.Parts.{Spells-same}
use Rattle.settings_journal.proofs.Slots.{After-front, After-same}

-- one more slot is read
pub after_more : (version : Version) (sector slot : List ℕ) (number : ℕ) (base x y : Settings) → After version sector number base x → slot ≡ slot_at sector number → Follows version slot x y → After version sector (number + 1) base y
after_more version sector slot number base x y p e f =
    let one : suc number ≡ number + 1 = omega arith in
    subst (λ n. After version sector n base y) one (x, p, subst (λ s. Follows version s x y) e f)

pub next_more : (sector slot : List ℕ) (number next now : ℕ) → next ≡ next_slot sector number → slot ≡ slot_at sector number → now ≡ next_behind slot number next → now ≡ next_slot sector (number + 1)
next_more sector slot number next now p e is =
    let one : suc number ≡ number + 1 = omega arith in
    subst (λ n. now ≡ next_slot sector n) one (is ∙ ap (λ s. next_behind s number next) e ∙ ap (next_behind (slot_at sector number) number) p)

-- if a slot cannot be applied, all slots together cannot be
pub none_after : (version : Version) (sector slot : List ℕ) (number total : ℕ) (base x : Settings) → number < total → After version sector number base x → slot ≡ slot_at sector number
    → ((y : Settings) → ¬ Follows version slot x y) → (z : Settings) → ¬ After version sector total base z
none_after version sector slot number total base x lt p e none =
    λ z q.
    let front = After-front version sector (suc number) total base z (omega arith) q in
    let same : front.1.0 ≡ x = After-same version sector number base base front.1.0 x refl front.1.1 p in
    none front.0 (subst (λ s. Follows version s x front.0) (sym e) (subst (λ b. Follows version (slot_at sector number) b front.0) same front.1.2))

module _ (sector head : List ℕ) (version : Version) (size : ℕ) (is : head ≡ head_of sector) (claims : version ≡ version_at head) (long : length sector ≡ size) where
  claimed : version ≡ version_at (head_of sector)
  claimed = claims ∙ ap version_at is

  slots : slots_in size ≡ slots_of sector
  slots = ap slots_in (sym long)

  pub reads_as : (base settings : Settings) → Spells head base → After version sector (slots_in size) base settings → Reads sector settings
  reads_as base settings spells after = record {
    base = base;
    spells = subst (λ h. Spells h base) is spells;
    after = subst (λ v. After v sector (slots_of sector) base settings) claimed (subst (λ n. After version sector n base settings) slots after);
  }

  pub reads_none : (base : Settings) → Spells head base → ((settings : Settings) → ¬ After version sector (slots_in size) base settings) → (settings : Settings) → ¬ Reads sector settings
  reads_none base spells none = λ settings r.
      let same : r.base ≡ base = Spells-same (head_of sector) r.base base r.spells (subst (λ h. Spells h base) is spells) in
      none settings (subst (λ n. After version sector n base settings) (sym slots) (subst (λ v. After v sector (slots_of sector) base settings) (sym claimed)
      (subst (λ b. After (version_at (head_of sector)) sector (slots_of sector) b settings) same r.after)))

  pub left_as : (next free : ℕ) → next ≡ next_slot sector (slots_in size) → free ≡ left_by version (slots_in size) next → free ≡ left_in sector
  left_as next free n e =
      e ∙ ap (left_by version (slots_in size)) n ∙ ap (λ k. left_by version k (next_slot sector k)) slots ∙ ap (λ v. free_in v sector (slots_of sector)) claimed

-- if the head spells no settings, the sector is not read as any
pub unspelled : (sector head : List ℕ) → head ≡ head_of sector → ((settings : Settings) → ¬ Spells head settings) → (settings : Settings) → ¬ Reads sector settings
unspelled sector head is none = λ settings r. none r.base (subst (λ h. Spells h r.base) (sym is) r.spells)

-- the settings that the slots make of a base
abbrev pub IsFound : Version → List ℕ → ℕ → Settings → Settings → Option ℕ → Type 0
IsFound version sector count base after found =
    MatchOption found ((settings : Settings) → ¬ After version sector count base settings)
    (λ next. After version sector count base after × (next ≡ next_slot sector count))

pub found_some : (version : Version) (sector : List ℕ) (count : ℕ) (base after : Settings) (found : Option ℕ) (next : ℕ) → found ≡ Some next → IsFound version sector count base after found
    → After version sector count base after × (next ≡ next_slot sector count)
found_some version sector count base after found next e said = subst (IsFound version sector count base after) e said

pub found_none : (version : Version) (sector : List ℕ) (count : ℕ) (base after : Settings) (found : Option ℕ) → found ≡ None → IsFound version sector count base after found
    → (settings : Settings) → ¬ After version sector count base settings
found_none version sector count base after found e said = subst (IsFound version sector count base after) e said
