-- The calls of PROFINET go to a UDP port at the station's address. IANA lists the port as profinet-cm.
use Rattle.std.specs.Prelude.{ℕ, List}
use Rattle.frame_codec.specs.declared.udp.Endpoint.{Endpoint}

-- the port of device and controller
abbrev pub call_port : ℕ
call_port = 34964

-- the endpoint with that port at this address
abbrev pub calls_at : List ℕ → Endpoint
calls_at address = record { address = address; port = call_port }
