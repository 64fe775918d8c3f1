-- The formats of the fields of blocks are sound.
use Rattle.std.proofs.Common.{◌≡◌, ◌==◌, ◌&&◌, ℕ, length, refl}
use Rattle.std.specs.Prelude.{nat_le}
use Rattle.std.proofs.lemmas.List.{length-replicate}
use Rattle.wire.specs.Codec.{Codec, Whole, IsSound, IsSoundWhole}
use Rattle.wire.proofs.Fields.{raw_sound, number_sound}
use Rattle.wire.proofs.Joined.{then_by_sound, seen_sound}
use Rattle.wire.proofs.Handled.{checked_sound, closed_sound}
use Rattle.wire.proofs.Wholes.{ends_by_sound, seen_whole_sound}
use Rattle.wire.specs.declared.blocks.fault.BlockFault.{BlockFault}
use Rattle.wire.specs.declared.blocks.fault.BlockFault.TheVariants.{Length, Version, Field}
use Rattle.wire.specs.blocks.Fields.{number_bytes, number_at, numeral, one, two, four, ranged, fixed, fixed_one, fixed_four, unchecked_two, octet_bytes, octets_read, octets, zeros, blank, mac, version, body, open_body}

pub numeral_sound : (size : ℕ) → IsSound (numeral size)
unfolding number_bytes number_at
numeral_sound size = let sound = number_sound {F = BlockFault} Length size in record {
  takes = sound.takes;
  again = sound.again;
  written = sound.written;
  local = sound.local;
  sized = sound.sized;
}

pub ranged_sound : (field least greatest : ℕ) → IsSound (ranged field least greatest)
ranged_sound field least greatest = checked_sound (λ value. nat_le least value && nat_le value greatest) (Field field) two (numeral_sound 2)

pub fixed_sound : (field value : ℕ) → IsSound (fixed field value)
fixed_sound field value = seen_sound _ _ _ (λ _. refl) (checked_sound (λ n. n == value) (Field field) two (numeral_sound 2))

pub fixed_one_sound : (field value : ℕ) → IsSound (fixed_one field value)
fixed_one_sound field value = seen_sound _ _ _ (λ _. refl) (checked_sound (λ n. n == value) (Field field) one (numeral_sound 1))

pub fixed_four_sound : (field value : ℕ) → IsSound (fixed_four field value)
fixed_four_sound field value = seen_sound _ _ _ (λ _. refl) (checked_sound (λ n. n == value) (Field field) four (numeral_sound 4))

pub unchecked_two_sound : (value : ℕ) → IsSound (unchecked_two value)
unchecked_two_sound value = seen_sound _ _ _ (λ _. refl) (numeral_sound 2)

pub octets_sound : (size : ℕ) → IsSound (octets size)
unfolding octet_bytes octets_read
octets_sound size = let sound = raw_sound {F = BlockFault} Length size in record {
  takes = sound.takes;
  again = sound.again;
  written = sound.written;
  local = sound.local;
  sized = sound.sized;
}

-- `zeros size` has `size` octets.
zeros_long : (size : ℕ) → length (zeros size) ≡ size
unfolding zeros
zeros_long size = length-replicate size 0

pub blank_sound : (size : ℕ) → IsSound (blank size)
blank_sound size = let sound = seen_sound {F = BlockFault} (λ _. tt {0}) (λ _. zeros size) (octets size) (λ _. refl) (octets_sound size) in record {
  takes = sound.takes;
  again = sound.again;
  written = λ value rest fits. sound.written value rest (zeros_long size);
  local = sound.local;
  sized = λ value rest. rw (sound.sized value rest, zeros_long size) refl;
}

pub mac_sound : IsSound mac
mac_sound = seen_sound _ _ _ (λ _. refl) (octets_sound 6)

pub version_sound : IsSound version
unfolding version
version_sound = seen_sound _ _ _ (λ _. refl) (then_by_sound _ _ (checked_sound (λ n. n == 1) (Version 2) one (numeral_sound 1)) (λ _. checked_sound (λ n. n == 0) (Version 3) one (numeral_sound 1)))

pub body_sound : {A : Type 0} (fields : Codec BlockFault A) → IsSound fields → IsSoundWhole (body fields)
unfolding body
body_sound fields sound = closed_sound Length _ (seen_sound _ _ _ (λ _. refl) (then_by_sound _ _ version_sound (λ _. sound)))

pub open_body_sound : {A : Type 0} (fields : Whole BlockFault A) → IsSoundWhole fields → IsSoundWhole (open_body fields)
unfolding open_body
open_body_sound fields sound = seen_whole_sound _ _ _ (λ _. refl) (ends_by_sound _ _ version_sound (λ _. sound))
