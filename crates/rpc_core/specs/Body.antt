-- The body: a word of its own, and the NDR array of the blocks (C706, 14.3.3.4; IEC 61158-6-10, 4.10.3.3).
use Rattle.std.specs.Prelude.{◌+◌, ◌==◌, ◌&&◌, ℕ, List, [], length, take, nat_le, Option, Some, None, if◌then◌else◌}
use Rattle.wire.specs.Codec.{Codec, Whole}
use Rattle.wire.specs.Formats.{◌⨾◌, seen}
use Rattle.wire.specs.Whole.{everything, ends_by, seen_whole}
use Rattle.rpc_core.specs.declared.fault.RpcFault.{RpcFault}
use Rattle.rpc_core.specs.declared.fields.Order.{Order}
use Rattle.rpc_core.specs.declared.fields.Order.TheVariants.{Big, Little}
use Rattle.rpc_core.specs.declared.response.Status.{Status}
use Rattle.rpc_core.specs.declared.pdu.Counts.{Counts}
use Rattle.rpc_core.specs.Fields.{one, ordered}

-- ArgsLength, MaximumCount, Offset and ActualCount
unfoldable pub counts : Order → Codec RpcFault Counts
counts order = seen
    (λ x. record { length = x.0; maximum = x.1.0; offset = x.1.1.0; actual = x.1.1.1 })
    (λ c. (c.length, (c.maximum, (c.offset, c.actual))))
    (ordered order 4 ⨾ ordered order 4 ⨾ ordered order 4 ⨾ ordered order 4)

-- PNIOStatus: a word, so the byte order applies to its four octets
unfoldable pub status : Order → Codec RpcFault Status
status Big = seen
    (λ x. record { code = x.0; decode = x.1.0; code1 = x.1.1.0; code2 = x.1.1.1 })
    (λ s. (s.code, (s.decode, (s.code1, s.code2))))
    (one ⨾ one ⨾ one ⨾ one)
status Little = seen
    (λ x. record { code = x.1.1.1; decode = x.1.1.0; code1 = x.1.0; code2 = x.0 })
    (λ s. (s.code2, (s.code1, (s.decode, s.code))))
    (one ⨾ one ⨾ one ⨾ one)

-- MaximumCount, and the blocks if their counts are right
pub record Args : Type 0 where
  pub maximum : ℕ
  pub blocks : Option (List ℕ)

-- the blocks at the front of the octets, if Offset is 0, ArgsLength equals ActualCount, and all blocks are present
abbrev pub blocks_in : Counts → List ℕ → Option (List ℕ)
blocks_in c bytes = if (c.offset == 0) && (c.length == c.actual) && nat_le c.length (length bytes) then Some (take c.length bytes) else None

-- the octets of the blocks; empty if their counts are wrong
abbrev pub octets_of : Option (List ℕ) → List ℕ
octets_of (Some blocks) = blocks
octets_of None = []

-- the Offset of the blocks, which is not 0 if their counts are wrong
abbrev pub offset_of : Option (List ℕ) → ℕ
offset_of (Some blocks) = 0
offset_of None = 1

-- the counts of the blocks
abbrev pub counts_of : Args → Counts
counts_of args = record {
  length = length (octets_of args.blocks);
  maximum = args.maximum;
  offset = offset_of args.blocks;
  actual = length (octets_of args.blocks);
}

-- a word of its own, four counts, the blocks, and anything after them
unfoldable pub body : {A : Type 0} → Codec RpcFault A → Order → Whole RpcFault (A × Args)
body word order = seen_whole
    (λ x. (x.0.0, record { maximum = x.0.1.maximum; blocks = blocks_in x.0.1 x.1 }))
    (λ x. ((x.0, counts_of x.1), octets_of x.1.blocks))
    (ends_by (word ⨾ counts order) (λ _. everything))

-- the length of a body with this many octets of blocks
abbrev pub body_size : ℕ → ℕ
body_size carried = 20 + carried
