-- The PDU that ends a relation and carries the reason (IEC 61158-6-10, 5.2.6).
use Rattle.std.specs.Prelude.{ℕ, [], ◌∷◌}
use Rattle.rpc_core.specs.declared.response.Status.{Status}
use Rattle.pn_alarms.specs.declared.abort.Abort.{Abort}
use Rattle.pn_alarms.specs.declared.abort.Abort.TheVariants.{DataHold, Activity, Other}
use Rattle.pn_alarms.specs.declared.pdu.PduType.TheVariants.{Error}
use Rattle.pn_alarms.specs.Format.{Said}

-- The ErrorCode2 of each reason.
abbrev pub code_of : Abort → ℕ
code_of DataHold = 5
code_of Activity = 6
code_of Other = 13

-- PNIOStatus of an ERR.
abbrev pub status_of : Abort → Status
status_of reason = record { code = 0xCF; decode = 0x81; code1 = 0xFD; code2 = code_of reason }

-- An ERR: ErrorCode CF, ErrorDecode 81, ErrorCode1 FD, and ErrorCode2.
abbrev pub abort_of : Abort → ℕ → ℕ → ℕ → ℕ → Said
abort_of why destination source send_number ack_number = record {
  header = record { destination = destination; source = source; kind = Error; send_number = send_number; ack_number = ack_number };
  body = 0xCF ∷ 0x81 ∷ 0xFD ∷ code_of why ∷ [];
}
