-- From what two heads are read as to the start of an image.
use Rattle.std.proofs.Common.{◌≡◌, ◌≢◌, ◌⊎◌, ℕ, List, refl, sym, ap, subst, ◌∙◌, inl, inr, Option, Some, None}
use Rattle.std.specs.Prelude.{MatchOption, IfSome, Result, Ok, Err, IfOk}
use Rattle.flash_model.specs.declared.flash.FlashFault.{FlashFault}
use Rattle.pn_values.specs.Settings.{factory_settings}
use Rattle.pn_values.specs.declared.settings.Settings.{Settings}
use Rattle.flash_model.specs.Image.{Image, other, sector_of}
use Rattle.flash_model.specs.declared.flash.Sector.{Sector}
use Rattle.flash_model.specs.declared.flash.Sector.TheVariants.{First, Second}
use Rattle.settings_journal.specs.declared.start.Start.{Start}
use Rattle.settings_journal.specs.Head.{gate_of}
use Rattle.settings_journal.specs.Image.{head_in, left_in, IsActive, Reads, StartsAt, IsForeign}
use Rattle.settings_journal.specs.Start.{IsNewest, IsNewestOf, HasNoNewest}

-- the result of a start
abbrev pub IsStart : Image → Option Start → Type 0
IsStart image found = MatchOption found (IsForeign image) (λ start. StartsAt image start.position.active start.settings start.position.generation start.position.free)

-- the result of a start from an active sector
abbrev pub IsRead : Image → Sector → ℕ → Option Start → Type 0
IsRead image sector generation found =
    MatchOption found ((settings : Settings) → ¬ Reads (sector_of image sector) settings)
    (λ start. Reads (sector_of image sector) start.settings
    × (start.position ≡ record { active = Some sector; generation = generation; free = left_in (sector_of image sector) }))

module _ (image : Image) (sector : Sector) (head behind : List ℕ) (generation : ℕ) (here : head ≡ head_in image sector) (there : behind ≡ head_in image (other sector)) (newest : IsNewest head behind generation) where
  in_image : IsNewest (head_in image sector) (head_in image (other sector)) generation
  in_image = subst (λ h. IsNewest h (head_in image (other sector)) generation) here (subst (λ b. IsNewest head b generation) there newest)

  active : IsActive image sector
  active = record { counts = in_image.counts; newest = in_image.newest }

  -- a sector is active, and is read as settings or not
  pub started : (found : Option Start) → IsRead image sector generation found → IsStart image found
  started None none = inr (inr (sector, active, none))
  started (Some start) read =
      subst (λ p. StartsAt image p.active start.settings p.generation p.free) (sym read.1) (active, read.0, in_image.is, refl)

module _ (image : Image) (first second : List ℕ) (here : first ≡ head_in image First) (there : second ≡ head_in image Second) where
  no_active : HasNoNewest first second → (gate_of first ≡ 0) ⊎ (gate_of second ≡ 0) → IsForeign image
  no_active (inl tie) closed = rw (← here, ← there) (inl tie)
  no_active (inr none) closed = rw (← here, ← there) (inr (inl (none.0, none.1, closed)))

  -- no sector is active
  pub closed : (found : Option Start) → HasNoNewest first second
      → MatchOption found ((gate_of first ≡ 0) ⊎ (gate_of second ≡ 0)) (λ _. (gate_of first ≢ 0) × (gate_of second ≢ 0))
      → IfSome found (λ start. start ≡ record { position = record { active = None; generation = 0; free = 0 }; settings = factory_settings }) → IsStart image found
  closed None none gates factory = no_active none gates
  closed (Some start) none gates factory =
      subst (λ s. StartsAt image s.position.active s.settings s.position.generation s.position.free) (sym factory)
      (record { first = λ e. gates.0 (ap gate_of here ∙ e); second = λ e. gates.1 (ap gate_of there ∙ e) }, refl, refl, refl)

-- the same for a read that may fail, on an image that the earlier reads left unchanged
pub started_ok : (image between : Image) (sector : Sector) (head behind : List ℕ) (generation : ℕ) (result : Result (Option Start) FlashFault) → between ≡ image
    → head ≡ head_in image sector → behind ≡ head_in image (other sector) → IsNewest head behind generation → IfOk result (IsRead between sector generation) → IfOk result (IsStart image)
started_ok image between sector head behind generation (Ok found) same here there newest read =
    started image sector head behind generation here there newest found (subst (λ i. IsRead i sector generation found) same read)
started_ok image between sector head behind generation (Err fault) same here there newest read = tt

-- the newest head, at a known sector
pub newest_first : (first second : List ℕ) (sector : Sector) (generation : ℕ) → sector ≡ First → IsNewestOf first second sector generation → IsNewest first second generation
newest_first first second sector generation e newest = subst (λ s. IsNewestOf first second s generation) e newest

pub newest_second : (first second : List ℕ) (sector : Sector) (generation : ℕ) → sector ≡ Second → IsNewestOf first second sector generation → IsNewest second first generation
newest_second first second sector generation e newest = subst (λ s. IsNewestOf first second s generation) e newest

-- the same for a known start
pub start_some : (image : Image) (found : Option Start) (x : Start) → found ≡ Some x → IsStart image found → StartsAt image x.position.active x.settings x.position.generation x.position.free
start_some image found x e said = subst (IsStart image) e said

pub start_none : (image : Image) (found : Option Start) → found ≡ None → IsStart image found → IsForeign image
start_none image found e said = subst (IsStart image) e said
