-- An IP suite, and which ones a station may have.
use Rattle.std.specs.Prelude.{◌≡◌, ◌⊎◌, ◌≤◌, ◌+◌, ◌^◌, ◌==◌, ◌&&◌, ◌||◌, ℕ, Bool, nat_le, nat_eq, List, [], ◌∷◌, replicate, slice_index}
use Rattle.std.specs.List.{list_any, range_with_len}
use Rattle.std.specs.Cmp.Lexicographic.{pointwise}
use Rattle.std.specs.Int.{w32, from_be_bytes}

-- address, subnet mask and gateway, each four octets in network order
pub record Suite : Type 0 where
  pub address : List ℕ
  pub mask : List ℕ
  pub gateway : List ℕ

-- no address
abbrev pub zero_suite : Suite
zero_suite = record { address = replicate 4 0; mask = replicate 4 0; gateway = replicate 4 0 }

-- ones and then zeros: 2 ^ 32 minus a power of two
abbrev pub IsMask : List ℕ → Type 0
IsMask mask = (zeros : ℕ) × (zeros ≤ 32) × (from_be_bytes w32 mask + 2 ^ zeros ≡ 2 ^ 32)

-- a byte that the address of a host may begin with
abbrev pub IsHost : ℕ → Type 0
IsHost byte = ((1 ≤ byte) × (byte ≤ 126)) ⊎ ((128 ≤ byte) × (byte ≤ 223))

-- an IP suite that a station may have
abbrev pub IsSuite : Suite → Type 0
IsSuite suite = IsMask suite.mask × ((suite ≡ zero_suite) ⊎ IsHost (slice_index suite.address 0))

-- ---- the same as tests, for functions of the specs

-- ones and then zeros
abbrev pub is_mask : List ℕ → Bool
is_mask mask = list_any (λ zeros. from_be_bytes w32 mask + 2 ^ zeros == 2 ^ 32) (range_with_len 0 33)

-- four zeros
abbrev pub is_zero : List ℕ → Bool
is_zero octets = pointwise nat_eq octets (0 ∷ 0 ∷ 0 ∷ 0 ∷ [])

-- a byte that the address of a host may begin with
abbrev pub is_host : ℕ → Bool
is_host byte = (nat_le 1 byte && nat_le byte 126) || (nat_le 128 byte && nat_le byte 223)

-- an IP suite that a station may have
unfoldable pub is_suite : Suite → Bool
is_suite suite = is_mask suite.mask
    && ((is_zero suite.address && is_zero suite.mask && is_zero suite.gateway) || is_host (slice_index suite.address 0))
