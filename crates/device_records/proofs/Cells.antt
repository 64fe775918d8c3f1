-- Data and status that are read from one cell.
use Rattle.std.proofs.Common.{◌≡◌, ℕ, List, Option, Some, None, option_map, ap, ◌∙◌}
use Rattle.std.specs.Prelude.{unwrap_or}
use Rattle.cyclic_data.specs.declared.place.PlaceKind.TheVariants.{Data}
use Rattle.cyclic_data.specs.Image.{Cell, cell_at}
use Rattle.cyclic_data.specs.exchange.Cyclic.{Cyclic}
use Rattle.device_records.specs.Elements.{input_element, input_of, iocs_in, output_element, output_of}

-- What is made of the data of a cell and of the status of the same cell is what is made of the cell.
of_one : (element : List ℕ → ℕ → List ℕ) (found : Option Cell) (value : List ℕ) (status : Option ℕ)
    → ◌≡◌ {A = Option (List ℕ)} (Some value) (option_map (λ (cell : Cell). cell.value) found)
    → status ≡ option_map (λ (cell : Cell). cell.status) found
    → ◌≡◌ {A = Option (List ℕ)} (Some (element value (unwrap_or status 0))) (option_map (λ (cell : Cell). element cell.value cell.status) found)
of_one element None value status is same = absurd cc
of_one element (Some cell) value status is same =
    ap (λ (o : Option (List ℕ)). option_map (λ (octets : List ℕ). element octets (unwrap_or status 0)) o) is
    ∙ ap (λ (o : Option ℕ). let made : Option (List ℕ) = Some (element cell.value (unwrap_or o 0)) in made) same

pub input_made : (cyclic : Cyclic) (slot subslot : ℕ) (value : List ℕ) (status : Option ℕ)
    → ◌≡◌ {A = Option (List ℕ)} (Some value) (option_map (λ (cell : Cell). cell.value) (cell_at Data slot subslot cyclic.shown.cells))
    → status ≡ option_map (λ (cell : Cell). cell.status) (cell_at Data slot subslot cyclic.shown.cells)
    → ◌≡◌ {A = Option (List ℕ)} (Some (input_element (iocs_in cyclic.taken slot subslot) value (unwrap_or status 0))) (input_of cyclic slot subslot)
input_made cyclic slot subslot value status is same =
    of_one (λ octets iops. input_element (iocs_in cyclic.taken slot subslot) octets iops) (cell_at Data slot subslot cyclic.shown.cells) value status is same

pub output_made : (cyclic : Cyclic) (slot subslot : ℕ) (value : List ℕ) (status : Option ℕ)
    → ◌≡◌ {A = Option (List ℕ)} (Some value) (option_map (λ (cell : Cell). cell.value) (cell_at Data slot subslot cyclic.taken.cells))
    → status ≡ option_map (λ (cell : Cell). cell.status) (cell_at Data slot subslot cyclic.taken.cells)
    → ◌≡◌ {A = Option (List ℕ)} (Some (output_element (iocs_in cyclic.shown slot subslot) value (unwrap_or status 0))) (output_of cyclic slot subslot)
output_made cyclic slot subslot value status is same =
    of_one (λ octets iops. output_element (iocs_in cyclic.shown slot subslot) octets iops) (cell_at Data slot subslot cyclic.taken.cells) value status is same
