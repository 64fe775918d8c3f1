-- The calls that change a flash, in the order in which they were made. Reads are not among them.
use Rattle.std.specs.Prelude.{ℕ, List}
use Rattle.flash_model.specs.declared.flash.Sector.{Sector}
use Rattle.flash_model.specs.declared.flash.Order.{Order}

-- bytes programmed from a position in a sector on, a sector erased, or an order given, whether the call passed or
-- failed
pub data Call : Type 0 where
  Programs : (sector : Sector) (place : ℕ) (bytes : List ℕ) → Call
  Erases : (sector : Sector) → Call
  Arms : (order : Order) → Call
