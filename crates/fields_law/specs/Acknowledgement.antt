-- A fack PDU, which acknowledges fragments, as a reader finds it (C706, 12.5.3.4).
use Rattle.std.specs.Prelude.{◌≡◌, ℕ, List}
use Rattle.rpc_core.specs.declared.call_headers.call.Head.{Head}
use Rattle.end_laws.specs.log_data.Reading.{number_at}
use Rattle.fields_law.specs.Packet.{IsAnswer, is_little_endian}
use Rattle.fields_law.specs.Places.{ordered_at}

-- Ptype 9; fragnum is the last fragment that was received in order. The body: vers 0, window_size 4, max_tsdu and max_frag_size 1,472, serial_num of the
-- fragment that is acknowledged, and selack_len 0.
pub record IsFack (octets : List ℕ) (call : Head) (fragment serial : ℕ) : Type 0 where
  pub header : IsAnswer octets call 9 8 16 fragment
  pub vers : number_at 80 1 octets ≡ 0
  pub window_size : ordered_at (is_little_endian call) 82 2 octets ≡ 4
  pub max_tsdu : ordered_at (is_little_endian call) 84 4 octets ≡ 1472
  pub max_frag_size : ordered_at (is_little_endian call) 88 4 octets ≡ 1472
  pub serial_num : ordered_at (is_little_endian call) 92 2 octets ≡ serial
  pub selack_len : ordered_at (is_little_endian call) 94 2 octets ≡ 0
