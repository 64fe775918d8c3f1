-- A value that is given, by the calls that the machine makes of it.
use Rattle.std.proofs.Common.{◌≡◌, ◌&&◌, inl, inr, ℕ, Bool, true, false, List, [], ◌∷◌, map, Some, None, is_some, refl, sym, ap, ◌∙◌, if◌then◌else◌}
use Rattle.std.specs.Prelude.{unwrap_or}
use Rattle.std.proofs.lemmas.Bool.{cases_Bool}
use Rattle.cyclic_data.specs.declared.place.PlaceKind.TheVariants.{Data}
use Rattle.cyclic_data.specs.Image.{Cell, changed, changed_in, with_status, with_value}
use Rattle.cyclic_data.specs.Layout.{is_of}
use Rattle.cyclic_data.specs.exchange.Cyclic.{Cyclic}
use Rattle.cyclic_data.specs.exchange.Process.{given_at}
use Rattle.controller_core.specs.Machine.{given, has_output, iops_with, marks_with, remarked, with_output}
use Rattle.controller_core.specs.stored.Outputs.{awaits}
use Rattle.controller_core.specs.stored.State.{Live}

-- A cell that gets a value and then its status gets both.
both : (slot subslot iops : ℕ) (value : List ℕ) (cells : List Cell)
    → map (changed_in Data slot subslot (with_status iops)) (map (changed_in Data slot subslot (with_value value)) cells)
    ≡ map (changed_in Data slot subslot (with_output true iops value)) cells
both slot subslot iops value [] = refl
both slot subslot iops value (cell ∷ cells) =
    elim (cases_Bool (is_of Data slot subslot cell.place)) [
      | inl t ↦ rw t (rw t (ap (λ (xs : List Cell). with_output true iops value cell ∷ xs) (both slot subslot iops value cells)))
      | inr t ↦ rw t (rw t (ap (λ (xs : List Cell). cell ∷ xs) (both slot subslot iops value cells)))
    ]

-- ---- whether the submodule has such an output

is_taken : (is : Bool) (next : Cyclic) → is_some (if is then Some next else None) ≡ is
is_taken true next = refl
is_taken false next = refl

put_by : (is : Bool) (cyclic next : Cyclic) → unwrap_or (if is then Some next else None) cyclic ≡ (if is then next else cyclic)
put_by true cyclic next = refl
put_by false cyclic next = refl

module _ (live : Live) (slot subslot : ℕ) (value : List ℕ) where
  abbrev put_here : Cyclic
  put_here = record live.cyclic { shown = changed Data slot subslot (with_value value) live.cyclic.shown }

  -- The exchange after the value is put, by whether it is.
  put_is : (done : Bool) (put : Cyclic) → done ≡ is_some (given_at live.cyclic slot subslot value) → put ≡ unwrap_or (given_at live.cyclic slot subslot value) live.cyclic
      → put ≡ (if done then put_here else live.cyclic)
  put_is done put fits is =
      is ∙ (put_by (has_output live slot subslot value) live.cyclic put_here
      ∙ ap (λ (b : Bool). if b then put_here else live.cyclic) (sym (fits ∙ is_taken (has_output live slot subslot value) put_here)))

  -- The machine's definition, by whether the value is put and is the first one.
  abbrev given_by : Bool → Bool → Live
  given_by fits is_first = record live {
    cyclic = record live.cyclic {
      shown = record live.cyclic.shown {
        cells = if fits then map (changed_in Data slot subslot (with_output is_first (iops_with live slot subslot None) value)) live.cyclic.shown.cells else live.cyclic.shown.cells;
      };
    };
    outputs = if fits && is_first then marks_with live slot subslot None else live.outputs;
  }

  given_so : (done is_first : Bool) → done ≡ is_some (given_at live.cyclic slot subslot value) → is_first ≡ awaits slot subslot live.outputs → given_by done is_first ≡ given live slot subslot value
  given_so done is_first fits first =
      ap (λ (b : Bool). given_by b is_first) (fits ∙ is_taken (has_output live slot subslot value) put_here) ∙ ap (given_by (has_output live slot subslot value)) first

  abbrev with_exchange : Cyclic → Live
  with_exchange cyclic = record live { cyclic = cyclic }

  pub first_given : (done is_first : Bool) (put : Cyclic) → done ≡ true → is_first ≡ true → done ≡ is_some (given_at live.cyclic slot subslot value)
      → put ≡ unwrap_or (given_at live.cyclic slot subslot value) live.cyclic → is_first ≡ awaits slot subslot live.outputs
      → remarked (with_exchange put) slot subslot None ≡ given live slot subslot value
  first_given done is_first put there also fits is first =
      let here : put ≡ put_here = put_is done put fits is ∙ ap (λ (b : Bool). if b then put_here else live.cyclic) there in
      ap (λ (c : Cyclic). remarked (with_exchange c) slot subslot None) here
      ∙ (ap (λ (cells : List Cell). let l : Live = record live {
        cyclic = record live.cyclic { shown = record live.cyclic.shown { cells = cells } };
        outputs = marks_with live slot subslot None;
      } in l) (both slot subslot (iops_with live slot subslot None) value live.cyclic.shown.cells)
      ∙ (sym (ap (λ (b : Bool). given_by b is_first) there ∙ ap (given_by true) also) ∙ given_so done is_first fits first))

  pub next_given : (done is_first : Bool) (put : Cyclic) → done ≡ true → is_first ≡ false → done ≡ is_some (given_at live.cyclic slot subslot value)
      → put ≡ unwrap_or (given_at live.cyclic slot subslot value) live.cyclic → is_first ≡ awaits slot subslot live.outputs
      → with_exchange put ≡ given live slot subslot value
  next_given done is_first put there also fits is first =
      ap with_exchange (put_is done put fits is ∙ ap (λ (b : Bool). if b then put_here else live.cyclic) there)
      ∙ (sym (ap (λ (b : Bool). given_by b is_first) there ∙ ap (given_by true) also) ∙ given_so done is_first fits first)

  pub none_given : (done : Bool) (put : Cyclic) → done ≡ false → done ≡ is_some (given_at live.cyclic slot subslot value)
      → put ≡ unwrap_or (given_at live.cyclic slot subslot value) live.cyclic → with_exchange put ≡ given live slot subslot value
  none_given done put no_output fits is =
      ap with_exchange (put_is done put fits is ∙ ap (λ (b : Bool). if b then put_here else live.cyclic) no_output)
      ∙ (sym (ap (λ (b : Bool). given_by b (awaits slot subslot live.outputs)) no_output) ∙ given_so done (awaits slot subslot live.outputs) fits refl)
