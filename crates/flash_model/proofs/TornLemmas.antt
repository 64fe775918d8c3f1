-- The bits of a torn byte, and the bytes of a torn range.
use Rattle.std.proofs.Common.{◌≡◌, ◌-◌, ◌<◌, ◌⊎◌, ◌∙◌, ℕ, zero, suc, List, length, get_or, ◌%◌, min, max, bit_and, ap, arith, inl, inr, w8}
use Rattle.std.proofs.lemmas.Bool.{cases_lt}
use Rattle.std.specs.Int.{bit_at}
use Rattle.std.proofs.lemmas.Nat.Bits.{bit_at_and, bit_at_or, bit_at_not, bit_at-lt, bit_at_above}
use Rattle.std.proofs.lemmas.List.FromFn.{length-map-range_with_len, get_or-map-range_with_len}
use Rattle.flash_model.specs.Fate.{torn_byte, torn_bytes, chosen_bit}
use Rattle.flash_model.specs.Torn.{IsBetween}

-- one bit, from the mask's bit and its complement
chosen : (mask kept old new : ℕ) → mask < 2 → old < 2 → new < 2 → kept ≡ 1 - mask → max (min old kept) (min new mask) ≡ chosen_bit mask old new
chosen zero kept old new m o n e = omega arith
chosen (suc mask) kept old new m o n e = omega arith

-- after the last bit of a byte
chosen_past : (mask kept old new : ℕ) → mask ≡ 0 → old ≡ 0 → new ≡ 0 → max (min old kept) (min new mask) ≡ chosen_bit mask old new
chosen_past zero kept old new m o n = omega arith
chosen_past (suc mask) kept old new m o n = absurd (omega arith)

pub torn_byte-bits : (old new mask : ℕ) → old < 256 → new < 256 → mask < 256 → (k : ℕ) →
    bit_at (torn_byte old new mask) k ≡ chosen_bit (bit_at mask k) (bit_at old k) (bit_at new k)
torn_byte-bits old new mask o n m k =
    bit_at_or (bit_and old (255 - mask)) (bit_and new mask) k
    ∙ ap (λ x. max x (bit_at (bit_and new mask) k)) (bit_at_and old (255 - mask) k)
    ∙ ap (λ x. max (min (bit_at old k) (bit_at (255 - mask) k)) x) (bit_at_and new mask k)
    ∙ elim (cases_lt k 8) [
      | inl h ↦ chosen (bit_at mask k) (bit_at (255 - mask) k) (bit_at old k) (bit_at new k) (bit_at-lt mask k) (bit_at-lt old k) (bit_at-lt new k) (bit_at_not w8 mask k m h)
      | inr h ↦ chosen_past (bit_at mask k) (bit_at (255 - mask) k) (bit_at old k) (bit_at new k) (bit_at_above mask 8 k m h) (bit_at_above old 8 k o h) (bit_at_above new 8 k n h)
    ]

-- the chosen bit is the old or the new one
chosen_between : (mask old new bit : ℕ) → bit ≡ chosen_bit mask old new → (bit ≡ old) ⊎ (bit ≡ new)
chosen_between zero old new bit e = inl e
chosen_between (suc mask) old new bit e = inr e

pub torn_byte-between : (old new mask : ℕ) → old < 256 → new < 256 → mask < 256 → IsBetween old new (torn_byte old new mask)
torn_byte-between old new mask o n m k =
    chosen_between (bit_at mask k) (bit_at old k) (bit_at new k) (bit_at (torn_byte old new mask) k) (torn_byte-bits old new mask o n m k)

pub length-torn_bytes : (mask old finished : List ℕ) → length (torn_bytes mask old finished) ≡ length old
length-torn_bytes mask old finished = length-map-range_with_len (λ (k : ℕ). torn_byte (get_or old k 0) (get_or finished k 0) (get_or mask (k % 8) 0)) 0 (length old)

pub get_or-torn_bytes : (mask old finished : List ℕ) (k : ℕ) → k < length old →
    get_or (torn_bytes mask old finished) k 0 ≡ torn_byte (get_or old k 0) (get_or finished k 0) (get_or mask (k % 8) 0)
get_or-torn_bytes mask old finished k h =
    get_or-map-range_with_len (λ (k : ℕ). torn_byte (get_or old k 0) (get_or finished k 0) (get_or mask (k % 8) 0)) 0 (length old) k k 0 h (omega arith)
