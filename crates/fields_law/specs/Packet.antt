-- The header of a PDU of connectionless RPC, and the PDUs without a stub that a device answers, as a reader finds them at their places (C706, 12.5).
use Rattle.std.specs.Prelude.{◌≡◌, ◌+◌, ◌/◌, ◌==◌, ◌<◌, ℕ, Bool, List, [], ◌∷◌, length, if◌then◌else◌}
use Rattle.rpc_core.specs.declared.call_headers.call.Head.{Head}
use Rattle.rpc_core.specs.declared.call_headers.unserved.Rejection.{Rejection}
use Rattle.rpc_core.specs.declared.call_headers.unserved.Rejection.TheVariants.{Operation, Interface}
use Rattle.end_laws.specs.log_data.Reading.{number_at, octets_at}
use Rattle.fields_law.specs.Places.{ordered_at}

-- Whether the integers of a PDU are little-endian: the high half of the first octet of its data representation is 1 (C706, 14.1).
abbrev pub is_little_endian : Head → Bool
is_little_endian call = call.opening.representation / 16 == 1

-- The octets are a PDU of this type and with these flags that answers a call: rpc_vers 4, ptype, flags1 and flags2, drep, serial_hi;
-- object, if_id and act_id of the call; server_boot; if_vers, seqnum and opnum of the call; ihint and ahint; len, fragnum, auth_proto
-- and serial_lo. A body of len octets follows.
pub record IsAnswer (octets : List ℕ) (call : Head) (packet_type flag body fragment : ℕ) : Type 0 where
  pub rpc_vers : number_at 0 1 octets ≡ 4
  pub ptype : number_at 1 1 octets ≡ packet_type
  pub flags : octets_at 2 2 octets ≡ flag ∷ 0 ∷ []
  pub drep : octets_at 4 3 octets ≡ (if is_little_endian call then 0x10 else 0x00) ∷ 0 ∷ 0 ∷ []
  pub serial_hi : number_at 7 1 octets ≡ 0
  pub object : octets_at 8 16 octets ≡ call.names.object
  pub if_id : octets_at 24 16 octets ≡ call.names.interface
  pub act_id : octets_at 40 16 octets ≡ call.names.activity
  pub server_boot : number_at 56 4 octets ≡ 0
  pub if_vers : octets_at 60 4 octets ≡ call.turn.version
  pub seqnum : octets_at 64 4 octets ≡ call.turn.sequence
  pub opnum : ordered_at (is_little_endian call) 68 2 octets ≡ call.turn.operation
  pub ihint : number_at 70 2 octets ≡ 0xFFFF
  pub ahint : number_at 72 2 octets ≡ 0xFFFF
  pub len : ordered_at (is_little_endian call) 74 2 octets ≡ body
  pub fragnum : ordered_at (is_little_endian call) 76 2 octets ≡ fragment
  pub auth_proto : number_at 78 1 octets ≡ 0
  pub serial_lo : number_at 79 1 octets ≡ 0
  pub size : length octets ≡ 80 + body

-- The fields of a call have their sizes, and its byte order is one of the two.
pub record IsCall (call : Head) : Type 0 where
  pub representation : call.opening.representation < 32
  pub object : length call.names.object ≡ 16
  pub interface : length call.names.interface ≡ 16
  pub activity : length call.names.activity ≡ 16
  pub version : length call.turn.version ≡ 4
  pub sequence : length call.turn.sequence ≡ 4
  pub operation : call.turn.operation < 65536

-- A nocall PDU, which answers a ping: ptype 5, without a body.
abbrev pub IsNoCall : List ℕ → Head → Type 0
IsNoCall octets call = IsAnswer octets call 5 8 0 0

-- nca_s_op_rng_error and nca_s_unk_if (C706, appendix E).
abbrev pub reject_status : Rejection → ℕ
reject_status Operation = 0x1C010002
reject_status Interface = 0x1C010003

-- A reject PDU, ptype 6: its body is the status.
pub record IsReject (octets : List ℕ) (call : Head) (rejection : Rejection) : Type 0 where
  pub header : IsAnswer octets call 6 8 4 0
  pub status : ordered_at (is_little_endian call) 80 4 octets ≡ reject_status rejection
