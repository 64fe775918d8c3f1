-- the TLVs that are left say what all say, unless one of those before has the MAC address
use Rattle.std.proofs.Common.{◌≡◌, ◌≤◌, ℕ, length, Ok}
use Rattle.wire.specs.Codec.{◌>>=◌}
use Rattle.lldp.specs.Message.{read_others}
use Rattle.lldp.specs.Peer.{mac_behind, mac_in, mac_or}
use Rattle.lldp.proofs.message.mac_at.Given as goal

abbrev pub invariant-loop-tlv : goal.invariant-loop-tlv
invariant-loop-tlv l =
    (most : ℕ) × (length l.rest ≤ most) × ((read_others most l.rest >>= λ ts. Ok (mac_or l.found (mac_in l.fn.source ts))) ≡ mac_behind l.fn.source l.fn.bytes)

abbrev pub decreases-loop-tlv : goal.decreases-loop-tlv
decreases-loop-tlv l = length l.rest
