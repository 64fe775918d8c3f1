-- A frame that is shorter than an Ethernet header without a tag is too short.
use Rattle.std.proofs.Common.{◌≡◌, ℕ, ◌+◌, ◌<◌, Bool, true, false, ltb, List, length, drop, Err, refl, arith}
use Rattle.std.proofs.lemmas.Bool.{ltb-false, lt-ltb}
use Rattle.std.proofs.lemmas.List.{length-drop}
use Rattle.wire.specs.Codec.{Codec}
use Rattle.wire.specs.Formats.{◌⨾◌}
use Rattle.frame_codec.specs.declared.fault.FrameFault.{FrameFault}
use Rattle.frame_codec.specs.declared.fault.FrameFault.TheVariants.{TooShort}
use Rattle.frame_codec.specs.Frame.{mac, tag_and_type, ethernet}

-- fewer than two octets hold no EtherType
short_type : (bytes : List ℕ) → length bytes < 2 → tag_and_type.read bytes ≡ Err TooShort
unfolding tag_and_type
short_type bytes few = rw (lt-ltb (length bytes) 2 few) refl

-- if the part after an address is too short, so is the whole
short_behind : {A : Type 0} (codec : Codec FrameFault A) (size : ℕ) → ((bytes : List ℕ) → length bytes < size → codec.read bytes ≡ Err TooShort)
    → (bytes : List ℕ) → length bytes < 6 + size → (mac ⨾ codec).read bytes ≡ Err TooShort
unfolding mac
short_behind codec size behind bytes few = by_length (ltb (length bytes) 6) refl
  where
    by_length : (b : Bool) → ltb (length bytes) 6 ≡ b → (mac ⨾ codec).read bytes ≡ Err TooShort
    by_length true e = rw e refl
    by_length false e = rw (e, behind (drop 6 bytes) (omega (arith, few, ltb-false (length bytes) 6 e, length-drop 6 bytes))) refl

-- fewer than 14 octets hold no Ethernet header
pub short_header : (bytes : List ℕ) → length bytes < 14 → ethernet.read bytes ≡ Err TooShort
unfolding ethernet
short_header bytes few = rw (short_behind (mac ⨾ tag_and_type) 8 (short_behind tag_and_type 2 short_type) bytes few) refl
