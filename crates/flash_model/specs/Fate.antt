-- The fate of a program or erase call of a flash in memory.
use Rattle.std.specs.Prelude.{◌+◌, ◌-◌, ◌%◌, ◌++◌, ℕ, zero, suc, Bool, true, false, List, length, take, drop, map, min, slice_index, slice_range, Option, Some, None, is_ok, Result, bit_and, bit_or, if◌then◌else◌}
use Rattle.std.specs.List.{range_with_len}
use Rattle.flash_model.specs.declared.flash.Order.{Order}
use Rattle.flash_model.specs.declared.flash.Order.TheVariants.{Cut, Fault, ReadFault}
use Rattle.flash_model.specs.declared.fate.Fate.{Fate}
use Rattle.flash_model.specs.declared.fate.Fate.TheVariants.{Passes, Tears, Fails}

-- The fate of a program or erase call. Without power it fails. An order that lets no further call pass strikes this
-- one. An order for reads strikes no such call.
abbrev pub fate_of : Bool → Option Order → Fate
fate_of true armed = Fails
fate_of false None = Passes
fate_of false (Some (Cut zero mask)) = Tears mask
fate_of false (Some (Cut (suc after) mask)) = Passes
fate_of false (Some (Fault zero mask)) = Tears mask
fate_of false (Some (Fault (suc after) mask)) = Passes
fate_of false (Some (ReadFault after)) = Passes

-- The armed order after a program or erase call: an order that struck is gone, and one that let the call pass lets one
-- fewer pass.
abbrev pub armed_after : Bool → Option Order → Option Order
armed_after true armed = armed
armed_after false None = None
armed_after false (Some (Cut zero mask)) = None
armed_after false (Some (Cut (suc after) mask)) = Some (Cut after mask)
armed_after false (Some (Fault zero mask)) = None
armed_after false (Some (Fault (suc after) mask)) = Some (Fault after mask)
armed_after false (Some (ReadFault after)) = Some (ReadFault after)

-- Whether a read passes: there is power, and no armed order for reads strikes it.
abbrev pub is_readable : Bool → Option Order → Bool
is_readable true armed = false
is_readable false None = true
is_readable false (Some (Cut after mask)) = true
is_readable false (Some (Fault after mask)) = true
is_readable false (Some (ReadFault zero)) = false
is_readable false (Some (ReadFault (suc after))) = true

-- The armed order after a read: an order for reads that struck is gone, and one that let the read pass lets one fewer
-- pass.
abbrev pub armed_after_read : Bool → Option Order → Option Order
armed_after_read true armed = armed
armed_after_read false None = None
armed_after_read false (Some (Cut after mask)) = Some (Cut after mask)
armed_after_read false (Some (Fault after mask)) = Some (Fault after mask)
armed_after_read false (Some (ReadFault zero)) = None
armed_after_read false (Some (ReadFault (suc after))) = Some (ReadFault after)

-- the order that is armed against program and erase calls; an order for reads does not count
abbrev pub against_writes : Option Order → Option Order
against_writes None = None
against_writes (Some (Cut after mask)) = Some (Cut after mask)
against_writes (Some (Fault after mask)) = Some (Fault after mask)
against_writes (Some (ReadFault after)) = None

-- whether power is lost after a program or erase call: it was lost before, or a cut strikes
abbrev pub lost_after : Bool → Option Order → Bool
lost_after true armed = true
lost_after false None = false
lost_after false (Some (Cut zero mask)) = true
lost_after false (Some (Cut (suc after) mask)) = false
lost_after false (Some (Fault after mask)) = false
lost_after false (Some (ReadFault after)) = false

-- the old bit if the mask has a 0, and the new bit if it has a 1
abbrev pub torn_byte : ℕ → ℕ → ℕ → ℕ
torn_byte old new mask = bit_or (bit_and old (255 - mask)) (bit_and new mask)

-- a bit of a torn byte, by that of the mask
abbrev pub chosen_bit : ℕ → ℕ → ℕ → ℕ
chosen_bit zero old new = old
chosen_bit (suc one) old new = new

-- a range that a torn call leaves: the mask's 8 bytes repeat from the start of the range
abbrev pub torn_bytes : List ℕ → List ℕ → List ℕ → List ℕ
torn_bytes mask old finished =
    map (λ k. torn_byte (slice_index old k) (slice_index finished k) (slice_index mask (k % 8))) (range_with_len 0 (length old))

-- a sector after a call on the bytes from start to end; finished, the call would have left these bytes
abbrev pub sector_after : Fate → ℕ → ℕ → List ℕ → List ℕ → List ℕ
sector_after Passes start end finished old = finished
sector_after (Tears mask) start end finished old =
    take start old ++ torn_bytes mask (slice_range old start end) (slice_range finished start end) ++ drop end old
sector_after Fails start end finished old = old

-- the number of failed calls after this result; it saturates at the maximum of 64 bits
abbrev pub failures_after : {T E : Type 0} → ℕ → Result T E → ℕ
failures_after before result = if is_ok result then before else min (before + 1) 18446744073709551615
