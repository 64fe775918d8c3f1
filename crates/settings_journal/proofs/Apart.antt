-- A commit writes into one slot, or into the sector that is not active.
use Rattle.std.proofs.Common.{◌≡◌, ◌≢◌, ◌⊎◌, ◌-◌, ℕ, zero, suc, refl, sym, ap, subst, ◌∙◌, inl, inr, Option, Some, None}
use Rattle.pn_values.specs.declared.settings.Settings.{Settings}
use Rattle.flash_model.specs.Image.{Image, sector_of, other, slots_in, IsImage}
use Rattle.flash_model.specs.declared.flash.Sector.{Sector}
use Rattle.settings_journal.specs.Apart.{IsApart, StandsApart}
use Rattle.settings_journal.specs.Image.{StartsAt, spare}
use Rattle.settings_journal.specs.Writes.{KeepsOthers}
use Rattle.settings_journal.proofs.Storing.{other_other}

pub apart_slot : (slots free number : ℕ) (active : Option Sector) (sector : Sector) (old new : Image) → active ≡ Some sector → free ≢ 0 → number ≡ slots - free
    → KeepsOthers number (sector_of old sector) (sector_of new sector) → sector_of new (other sector) ≡ sector_of old (other sector) → IsApart slots active free old new
apart_slot slots zero number active sector old new is some at others behind = absurd (some refl)
apart_slot slots (suc left) number active sector old new is some at others behind =
    subst (λ a. IsApart slots a (suc left) old new) (sym is) (subst (λ n. KeepsOthers n (sector_of old sector) (sector_of new sector)) at others, behind)

none_left : (slots : ℕ) (active : Option Sector) (sector : Sector) (old new : Image) → sector ≡ spare active → sector_of new (other sector) ≡ sector_of old (other sector) → IsApart slots active zero old new
none_left slots None sector old new is behind = subst (λ s. sector_of new (other s) ≡ sector_of old (other s)) is behind
none_left slots (Some active) sector old new is behind =
    subst (λ s. sector_of new s ≡ sector_of old s) (other_other active) (subst (λ s. sector_of new (other s) ≡ sector_of old (other s)) is behind)

pub apart_base : (slots free : ℕ) (active : Option Sector) (sector : Sector) (old new : Image) → (active ≡ None) ⊎ (free ≡ 0) → sector ≡ spare active
    → sector_of new (other sector) ≡ sector_of old (other sector) → IsApart slots active free old new
apart_base slots free active sector old new (inl e) is behind =
    subst (λ a. IsApart slots a free old new) (sym e) (subst (λ s. sector_of new (other s) ≡ sector_of old (other s)) (is ∙ ap spare e) behind)
apart_base slots free active sector old new (inr e) is behind = subst (λ f. IsApart slots active f old new) (sym e) (none_left slots active sector old new is behind)

pub apart_same : (slots : ℕ) (active : Option Sector) (free : ℕ) (image : Image) → IsApart slots active free image image
apart_same slots (Some active) (suc left) image = (record { length = refl; head = refl; others = λ k ne. refl }, refl)
apart_same slots (Some active) zero image = refl
apart_same slots None free image = refl

pub apart_at : (old new : Image) (settings : Settings) (active : Option Sector) (generation free size : ℕ) → IsImage size old → StartsAt old active settings generation free
    → IsApart (slots_in size) active free old new → StandsApart old settings new
apart_at old new settings active generation free size sized starts apart =
    (active, generation, free, starts, subst (λ n. IsApart n active free old new) (ap slots_in (sym sized.first_size)) apart)
