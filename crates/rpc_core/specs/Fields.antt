-- Fields in either byte order (C706, 14.1).
use Rattle.std.specs.Prelude.{◌≡◌, ◌^◌, ◌<◌, ℕ, List, ◌∷◌, ◌++◌, length, Ok}
use Rattle.byteorder.specs.Endian.{little_number, little_bytes}
use Rattle.wire.specs.Codec.{Codec, ◌>>=◌}
use Rattle.wire.specs.Formats.{raw, number, seen}
use Rattle.rpc_core.specs.declared.fault.RpcFault.{RpcFault}
use Rattle.rpc_core.specs.declared.fault.RpcFault.TheVariants.{Short}
use Rattle.rpc_core.specs.declared.fields.Order.{Order}
use Rattle.rpc_core.specs.declared.fields.Order.TheVariants.{Big, Little}

-- a number in one octet
abbrev pub one : Codec RpcFault ℕ
one = number Short 1

-- a number of this many octets, the lowest first
abbrev pub little : ℕ → Codec RpcFault ℕ
little size = record {
  Spells = λ bytes value rest. (front : List ℕ) × (length front ≡ size) × (bytes ≡ front ++ rest) × (value ≡ little_number size front);
  write = λ value rest. little_bytes size value ++ rest;
  size = λ value. size;
  Fits = λ value. value < 256 ^ size;
  read = λ bytes. (raw Short size).read bytes >>= λ x. Ok (little_number size x.0, x.1);
}

-- a number of this many octets, in this byte order
unfoldable pub ordered : Order → ℕ → Codec RpcFault ℕ
ordered Big size = number Short size
ordered Little size = little size

-- an identifier with its first three fields, of four, two and two octets, byte-swapped
abbrev pub turned : List ℕ → List ℕ
turned (a ∷ b ∷ c ∷ d ∷ e ∷ f ∷ g ∷ h ∷ others) = d ∷ c ∷ b ∷ a ∷ f ∷ e ∷ h ∷ g ∷ others
turned octets = octets

-- an identifier: three numbers and eight octets
unfoldable pub uuid : Order → Codec RpcFault (List ℕ)
uuid Big = raw Short 16
uuid Little = seen turned turned (raw Short 16)

-- this many octets that are read with any value and written as these
abbrev pub any : ℕ → List ℕ → Codec RpcFault (Unit {0})
any size written = seen (λ _. tt) (λ _. written) (raw Short size)
