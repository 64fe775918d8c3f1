-- Data that is given, whose IOPS becomes good.
use Rattle.std.proofs.Common.{◌≡◌, inl, inr, ℕ, Bool, true, List, [], ◌∷◌, map, is_some, refl, ap, ◌∙◌, if◌then◌else◌}
use Rattle.std.proofs.lemmas.Bool.{cases_Bool}
use Rattle.cyclic_data.specs.declared.place.PlaceKind.TheVariants.{Data}
use Rattle.cyclic_data.specs.Image.{Cell, Shown, cell_at, changed, changed_in, good, with_status, with_value}
use Rattle.cyclic_data.specs.Layout.{is_of}
use Rattle.cyclic_data.specs.exchange.Process.{with_good}
use Rattle.cyclic_data.proofs.ExchangeStated.{none_changed}

-- A cell that gets data and then its status gets both.
both : (slot subslot : ℕ) (value : List ℕ) (cells : List Cell)
    → map (changed_in Data slot subslot (with_status good)) (map (changed_in Data slot subslot (with_value value)) cells)
    ≡ map (changed_in Data slot subslot (with_good value)) cells
both slot subslot value [] = refl
both slot subslot value (cell ∷ cells) =
    elim (cases_Bool (is_of Data slot subslot cell.place)) [
      | inl t ↦ rw t (rw t (ap (λ (xs : List Cell). with_good value cell ∷ xs) (both slot subslot value cells)))
      | inr t ↦ rw t (rw t (ap (λ (xs : List Cell). cell ∷ xs) (both slot subslot value cells)))
    ]

abbrev shown_by : Shown → List Cell → Shown
shown_by shown cells = record { data_length = shown.data_length; cells = cells }

-- A status that is set, whether or not the place exists.
pub set_in : (slot subslot status : ℕ) (shown : Shown)
    → (if is_some (cell_at Data slot subslot shown.cells) then changed Data slot subslot (with_status status) shown else shown)
    ≡ changed Data slot subslot (with_status status) shown
set_in slot subslot status shown =
    elim (cases_Bool (is_some (cell_at Data slot subslot shown.cells))) [
      | inl t ↦ rw t refl
      | inr t ↦ rw t (ap (shown_by shown) (none_changed Data slot subslot (with_status status) shown.cells t))
    ]

-- The same by the answer of the call that sets it.
pub stated : (slot subslot status : ℕ) (old new : Shown) (is_there : Bool) → is_there ≡ is_some (cell_at Data slot subslot old.cells)
    → new ≡ (if is_there then changed Data slot subslot (with_status status) old else old) → new ≡ changed Data slot subslot (with_status status) old
stated slot subslot status old new is_there there second =
    second ∙ (ap (λ (b : Bool). if b then changed Data slot subslot (with_status status) old else old) there ∙ set_in slot subslot status old)

pub provided : (slot subslot : ℕ) (value : List ℕ) (old put new : Shown) (done is_there : Bool) → done ≡ true
    → put ≡ (if done then changed Data slot subslot (with_value value) old else old)
    → is_there ≡ is_some (cell_at Data slot subslot put.cells)
    → new ≡ (if is_there then changed Data slot subslot (with_status good) put else put)
    → new ≡ changed Data slot subslot (with_good value) old
provided slot subslot value old put new done is_there is_done first there second =
    let given : put ≡ changed Data slot subslot (with_value value) old =
    first ∙ ap (λ (b : Bool). if b then changed Data slot subslot (with_value value) old else old) is_done in
    second ∙ (ap (λ (b : Bool). if b then changed Data slot subslot (with_status good) put else put) there
    ∙ (set_in slot subslot good put ∙ (ap (changed Data slot subslot (with_status good)) given ∙ ap (shown_by old) (both slot subslot value old.cells))))
