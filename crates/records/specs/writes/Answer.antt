-- The response to a Write (IEC 61158-6-10, 5.2.3).
use Rattle.std.specs.Prelude.{◌+◌, ◌*◌, ◌++◌, ℕ, List, [], ◌∷◌}
use Rattle.rpc_core.specs.declared.response.Status.{Status}
use Rattle.block_codec.specs.declared.block.Block.TheVariants as is
use Rattle.block_codec.specs.Block.{block_bytes}
use Rattle.record_blocks.specs.declared.write_record.IodWriteReq.{IodWriteReq}
use Rattle.record_blocks.specs.declared.write_record.IodWriteRes.{IodWriteRes}
use Rattle.records.specs.status.Status.{done}

-- PNIOStatus as a number of four octets.
abbrev pub number_of : Status → ℕ
number_of status = ((status.code * 256 + status.decode) * 256 + status.code1) * 256 + status.code2

-- The IODWriteResHeader of the response to a request with this outcome.
abbrev pub header_of : IodWriteReq → Status → IodWriteRes
header_of request status = record {
  header = request.header;
  additional_value_1 = 0;
  additional_value_2 = 0;
  pnio_status = number_of status;
}

-- The IODWriteRes of a record, with its status.
unfoldable pub outcome_of : IodWriteReq → Status → List ℕ
outcome_of request status = block_bytes (is.IodWriteRes (header_of request status))

-- The response to a request that succeeded: that header alone.
unfoldable pub answer_of : IodWriteReq → List ℕ
answer_of request = outcome_of request done

-- The headers of several records, each with its own outcome, in order.
abbrev pub outcomes_of : List (IodWriteReq × Status) → List ℕ
outcomes_of [] = []
outcomes_of (one ∷ others) = outcome_of one.0 one.1 ++ outcomes_of others
