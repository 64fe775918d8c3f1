-- Calls that a host can carry out.
use Rattle.std.specs.Prelude.{◌+◌, ◌&&◌, ℕ, Bool, true, false, nat_le, length}
use Rattle.flash_model.specs.Calls.{Call, Programs, Erases, Arms}
use Rattle.device_station.specs.declared.recorded.entry.Entry.{Entry}
use Rattle.device_station.specs.declared.recorded.entry.Entry.TheVariants.{Program, Erase}

-- an erase, or a program of at most as many bytes as a base has, inside a sector of this size; not an order
abbrev pub fits_in : ℕ → Call → Bool
fits_in size (Programs sector place bytes) = nat_le (length bytes) 437 && nat_le (place + length bytes) size
fits_in size (Erases sector) = true
fits_in size (Arms order) = false

-- the same of a stored call
abbrev pub entry_fits : ℕ → Entry → Bool
entry_fits size (Program sector place many) = nat_le many 437 && nat_le (place + many) size
entry_fits size (Erase sector) = true
