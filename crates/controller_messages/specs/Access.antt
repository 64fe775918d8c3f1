-- The requests while data is exchanged, one at a time: the application reads or writes a record, or the records of the plan are
-- written after a plug.
use Rattle.std.specs.Prelude.{◌+◌, ◌%◌, ◌==◌, ◌&&◌, ℕ, Bool, not, nat_eq, List, [], take, is_some, Option, Some, None, Result, Ok, Err}
use Rattle.std.specs.Cmp.Lexicographic.{pointwise}
use Rattle.rpc_core.specs.declared.header.CallHeader.{CallHeader}
use Rattle.rpc_core.specs.declared.response.Status.{Status}
use Rattle.wire.specs.declared.blocks.fault.BlockFault.{BlockFault}
use Rattle.block_codec.specs.declared.block.Block.{Block}
use Rattle.block_codec.specs.Block.{in_iod_read_res}
use Rattle.record_blocks.specs.declared.read_record.IodReadRes.{IodReadRes}
use Rattle.plans.specs.declared.parts.Parts.{Parts}
use Rattle.controller_messages.specs.declared.plug_request.PlugRequest.{PlugRequest}
use Rattle.controller_messages.specs.declared.record_request.RecordRequest.{RecordRequest}
use Rattle.controller_messages.specs.declared.refusal.Refusal.{Refusal}
use Rattle.controller_messages.specs.declared.setup.Setup.{Setup}
use Rattle.controller_messages.specs.RecordRequests.{most_record_octets}
use Rattle.controller_messages.specs.Requests.{write_count}
use Rattle.controller_messages.specs.declared.access.Answer.{Answer}

-- How many requests were made, modulo 2^32; the one that waits for its answer; what the last one was answered with; and the
-- octets of the record: those that a Write that waits carries, or those that an answered Read brought; and the request after a
-- plug that waits for its answer.
pub record Accessing : Type 0 where
  pub calls : ℕ
  pub waiting : Option RecordRequest
  pub answer : Option Answer
  pub octets : List ℕ
  pub plug : Option PlugRequest

-- No request was made.
abbrev pub no_access : Accessing
no_access = record { calls = 0; waiting = None; answer = None; octets = []; plug = None }

-- The number of the next call: those of the start-up are before it, up to PrmEnd.
abbrev pub call_number : Parts → ℕ → ℕ
call_number plan calls = (write_count plan + 2 + calls) % 4294967296

-- A request is made.
abbrev pub made : RecordRequest → List ℕ → Accessing → Accessing
made request octets access = record access { calls = (access.calls + 1) % 4294967296; waiting = Some request; answer = None; octets = octets }

-- A call of the start-up was refused as busy: its next try is a call more.
abbrev pub retried : Accessing → Accessing
retried access = record access { calls = (access.calls + 1) % 4294967296 }

-- A request is answered with this status and these octets of a record.
abbrev pub answered_with : RecordRequest → Status → List ℕ → Accessing → Accessing
answered_with request status octets access =
    record access { waiting = None; answer = Some (record { request = request; status = status }); octets = octets }

-- The relation ends: a request that waits is dropped.
abbrev pub dropped : Accessing → Accessing
dropped access = record access { waiting = None; plug = None }

-- Whether no request waits for its answer.
abbrev pub is_free : Accessing → Bool
is_free access = not (is_some access.waiting) && not (is_some access.plug)

-- A request after a plug is made.
abbrev pub plugged : PlugRequest → Accessing → Accessing
plugged request access = record access { calls = (access.calls + 1) % 4294967296; plug = Some request }

-- It is answered.
abbrev pub unplugged : Accessing → Accessing
unplugged access = record access { plug = None }

-- The record that the answer brought.
abbrev pub record_by : Option Answer → List ℕ → List ℕ
record_by (Some answer) octets = octets
record_by None octets = []

-- The record that the last answer brought; empty if it brought none.
abbrev pub record_of : Accessing → List ℕ
record_of access = record_by access.answer access.octets

-- ---- its answer

-- A response, or a refusal, of the call for a request: with the activity of the controller, and the number of the call.
abbrev pub is_reply : Setup → RecordRequest → CallHeader → Bool
is_reply setup request header = pointwise nat_eq header.activity setup.activity && header.sequence == request.sequence

-- Whether a reject or a fault refuses this request, by activity and sequence number.
abbrev pub is_rejected : Setup → RecordRequest → Refusal → Bool
is_rejected setup request refusal = pointwise nat_eq refusal.activity setup.activity && refusal.sequence == request.sequence

-- The record after an IODReadRes: as many octets as that counts, and no more than a record has.
abbrev pub record_behind : Option IodReadRes → List ℕ → Option (List ℕ)
record_behind (Some block) rest = Some (take most_record_octets (take block.header.record_data_length rest))
record_behind None rest = None

-- The record in the response to a Read.
abbrev pub record_in : Result (Block × List ℕ) BlockFault → Option (List ℕ)
record_in (Ok x) = record_behind (in_iod_read_res x.0) x.1
record_in (Err fault) = None
