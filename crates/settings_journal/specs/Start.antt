-- What a start makes of two heads, before it reads the settings.
use Rattle.std.specs.Prelude.{◌≡◌, ◌⊎◌, ℕ, List, Option, Some, None}
use Rattle.flash_model.specs.declared.flash.Sector.{Sector}
use Rattle.flash_model.specs.declared.flash.Sector.TheVariants.{First, Second}
use Rattle.settings_journal.specs.Head.{generation_at, Counts, IsOlder}

-- the generation of a head that counts
abbrev pub IsReadAs : List ℕ → Option ℕ → Type 0
IsReadAs head (Some generation) = Counts head × (generation ≡ generation_at head)
IsReadAs head None = ¬ Counts head

-- the head counts, with this generation, and the other one does not, or is older
pub record IsNewest (head behind : List ℕ) (generation : ℕ) : Type 0 where
  pub counts : Counts head
  pub newest : IsOlder (generation_at head) behind
  pub is : generation ≡ generation_at head

-- the head of this sector is the newest of the two
abbrev pub IsNewestOf : List ℕ → List ℕ → Sector → ℕ → Type 0
IsNewestOf first second First generation = IsNewest first second generation
IsNewestOf first second Second generation = IsNewest second first generation

-- neither head is the newest: both count with the same generation, or none counts
abbrev pub HasNoNewest : List ℕ → List ℕ → Type 0
HasNoNewest first second =
    (Counts first × Counts second × (generation_at first ≡ generation_at second)) ⊎ ((¬ Counts first) × (¬ Counts second))
