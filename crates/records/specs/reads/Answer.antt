-- The response to a Read (IEC 61158-6-10, 5.2.3).
use Rattle.std.specs.Prelude.{ℕ, List, ◌++◌, length, take}
use Rattle.block_codec.specs.declared.block.Block.TheVariants as is
use Rattle.block_codec.specs.Block.{block_bytes}
use Rattle.record_blocks.specs.declared.read_record.IodReadReq.{IodReadReq}
use Rattle.record_blocks.specs.declared.read_record.IodReadRes.{IodReadRes}

-- The IODReadResHeader of the response to a request, before `size` octets of the record.
abbrev pub header_of : IodReadReq → ℕ → IodReadRes
header_of request size = record {
  header = record request.header { record_data_length = size };
  additional_value_1 = 0;
  additional_value_2 = 0;
}

-- As much of a record as the request asks for.
abbrev pub cut_to : IodReadReq → List ℕ → List ℕ
cut_to request octets = take request.header.record_data_length octets

-- The response with this record: the header, which counts the octets sent, and these octets.
unfoldable pub answer_of : IodReadReq → List ℕ → List ℕ
answer_of request octets = block_bytes (is.IodReadRes (header_of request (length (cut_to request octets)))) ++ cut_to request octets
