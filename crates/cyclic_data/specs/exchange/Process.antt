-- The values of submodules that are given to one end and read from it.
use Rattle.std.specs.Prelude.{ℕ, List, length, Option, Some, None, is_some, option_map, unwrap_or, if◌then◌else◌}
use Rattle.cyclic_data.specs.declared.place.PlaceKind.TheVariants.{Data}
use Rattle.cyclic_data.specs.declared.tail.CyclicTail.{CyclicTail}
use Rattle.cyclic_data.specs.Image.{Cell, cell_at, changed, good, has_size, output_of, with_status, with_value}
use Rattle.cyclic_data.specs.declared.exchange.exchange.ProviderStatus.{ProviderStatus}
use Rattle.cyclic_data.specs.exchange.Cyclic.{Cyclic}

-- The data of a submodule becomes this, by a change of its cell, if it has data of this length. Otherwise nothing
-- changes.
abbrev pub changed_at : (Cell → Cell) → Cyclic → ℕ → ℕ → List ℕ → Option Cyclic
changed_at change cyclic slot subslot value =
    if has_size (length value) (cell_at Data slot subslot cyclic.shown.cells)
    then Some (record cyclic { shown = changed Data slot subslot change cyclic.shown })
    else None

-- The data of a submodule is this from now on, and its IOPS is unchanged.
abbrev pub given_at : Cyclic → ℕ → ℕ → List ℕ → Option Cyclic
given_at cyclic slot subslot value = changed_at (with_value value) cyclic slot subslot value

-- A cell with this value, whose IOPS is good from now on.
abbrev pub with_good : List ℕ → Cell → Cell
with_good value cell = record { place = cell.place; value = value; status = good }

-- The exchange after a value is given with a good status, if the submodule has a place of that size.
abbrev pub provided_at : Cyclic → ℕ → ℕ → List ℕ → Option Cyclic
provided_at cyclic slot subslot value = changed_at (with_good value) cyclic slot subslot value

-- The IOPS of the data of a submodule is this from now on, and its data is unchanged.
abbrev pub stated_at : Cyclic → ℕ → ℕ → ℕ → Cyclic
stated_at cyclic slot subslot status = record cyclic { shown = changed Data slot subslot (with_status status) cyclic.shown }

-- The data of a submodule in the partner's last accepted frame, if it has a place. All zeros if no frame was accepted
-- yet, or if the IOPS is not good.
abbrev pub value_at : Cyclic → ℕ → ℕ → Option (List ℕ)
value_at cyclic slot subslot = option_map output_of (cell_at Data slot subslot cyclic.taken.cells)

-- The fields after the data of the last accepted frame, whose TransferStatus is 0. Zeros if no frame was accepted yet.
abbrev pub taken_tail : Cyclic → CyclicTail
taken_tail cyclic =
    record { counter = unwrap_or cyclic.hearing.last 0; data_status = record { 0 = cyclic.data_status }; transfer_status = 0 }

-- What the partner says of the data of a submodule: its IOPS and the DataStatus of the last accepted frame. None if the
-- submodule has no data there, or if no frame was accepted yet.
abbrev pub status_with : ℕ → Cell → ProviderStatus
status_with data_status cell = record { iops = cell.status; data_status = record { 0 = data_status } }

-- What the other end says of a value that it sends, if a frame was accepted.
abbrev pub provider_at : Cyclic → ℕ → ℕ → Option ProviderStatus
provider_at cyclic slot subslot =
    if is_some cyclic.hearing.last
    then option_map (status_with cyclic.data_status) (cell_at Data slot subslot cyclic.taken.cells)
    else None
