-- A message of LLDP (IEEE 802.1AB, 8.2): ChassisID, PortID, the time to live, and then any TLVs but these, up to the one
-- that ends the message or to the end of the octets.
use Rattle.std.specs.Prelude.{◌≡◌, ◌==◌, ◌+◌, ◌⊎◌, ℕ, false, zero, suc, List, [], ◌∷◌, ◌++◌, length, sum_by, Option, Some, None, Result, Ok, Err, nat_le, if◌then◌else◌}
use Rattle.std.specs.List.{AllByRecursion}
use Rattle.wire.specs.Codec.{Whole, ◌>>=◌}
use Rattle.wire.specs.Whole.{ends_by, seen_whole}
use Rattle.lldp.specs.declared.fault.LldpFault.{LldpFault}
use Rattle.lldp.specs.declared.fault.LldpFault.TheVariants.{Repeated}
use Rattle.lldp.specs.Tlv.{Tlv, Id, type_of, tlv, id, lifetime}

-- ---- the TLVs after the first three

-- a type that may follow the first three, and does not end the message
abbrev pub IsOther : Tlv → Type 0
IsOther t = nat_le (type_of t) 3 ≡ false

-- the message ends here: at the end of the octets, or by a TLV of type 0, with anything after it
abbrev pub EndsAt : List ℕ → Type 0
EndsAt bytes = (bytes ≡ []) ⊎ ((t : Tlv) × (rest : List ℕ) × tlv.Spells bytes t rest × (type_of t ≡ 0))

-- these octets are these TLVs, one after the other, up to the end of the message
abbrev pub SpellOthers : List ℕ → List Tlv → Type 0
SpellOthers bytes [] = EndsAt bytes
SpellOthers bytes (t ∷ ts) = (mid : List ℕ) × tlv.Spells bytes t mid × IsOther t × SpellOthers mid ts

-- TLVs as they are written, one after the other
abbrev pub write_tlvs : List Tlv → List ℕ
write_tlvs [] = []
write_tlvs (t ∷ ts) = tlv.write t [] ++ write_tlvs ts

-- a TLV that was read, if the message does not end by it; one of the first three must not come again
abbrev pub judged : Tlv × List ℕ → Result (Option (Tlv × List ℕ)) LldpFault
judged x = if type_of x.0 == 0 then Ok None else if nat_le (type_of x.0) 3 then Err Repeated else Ok (Some x)

-- the next TLV and the octets after it, if the message does not end here
unfoldable pub next_of : List ℕ → Result (Option (Tlv × List ℕ)) LldpFault
next_of bytes = if length bytes == 0 then Ok None else tlv.read bytes >>= judged

-- the TLVs up to the end of the message, if there are at most this many; or the first fault
abbrev pub read_next : {F A B : Type 0} → (A → Result (List B) F) → (A → B) → Option A → Result (List B) F
read_next others first None = Ok []
read_next others first (Some x) = others x >>= λ values. Ok (first x ∷ values)

-- The TLVs after the first three, up to the end.
unfoldable pub read_others : ℕ → List ℕ → Result (List Tlv) LldpFault
read_others zero bytes = Ok []
read_others (suc most) bytes = next_of bytes >>= read_next (λ x. read_others most x.1) (λ x. x.0)

-- The TLVs up to the end of the message, which a TLV of type 0 and length 0 is written for. Each takes an octet at least, so
-- there are no more of them than octets.
abbrev pub others : Whole LldpFault (List Tlv)
others = record {
  Spells = SpellOthers;
  write = λ ts. write_tlvs ts ++ 0 ∷ 0 ∷ [];
  size = λ ts. sum_by tlv.size ts + 2;
  Fits = AllByRecursion (λ t. tlv.Fits t × IsOther t);
  read = λ bytes. read_others (length bytes) bytes;
}

-- ---- a message

-- what a message says
pub record Message : Type 0 where
  pub chassis : Id
  pub port : Id
  pub lifetime : ℕ
  pub more : List Tlv

-- The format of a message: ChassisID, PortID, time to live, and other TLVs (IEEE 802.1AB, 8.2).
unfoldable pub message : Whole LldpFault Message
message = seen_whole (λ x. record { chassis = x.0; port = x.1.0; lifetime = x.1.1.0; more = x.1.1.1 })
    (λ m. (m.chassis, (m.port, (m.lifetime, m.more))))
    (ends_by (id 1) (λ _. ends_by (id 2) (λ _. ends_by lifetime (λ _. others))))
