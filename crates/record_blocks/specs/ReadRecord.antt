-- IODReadReqHeader and IODReadResHeader (IEC 61158-6-10, 5.2.3).
use Rattle.wire.specs.Codec.{Codec}
use Rattle.wire.specs.Formats.{◌⨾◌, seen}
use Rattle.wire.specs.declared.blocks.fault.BlockFault.{BlockFault}
use Rattle.wire.specs.blocks.Fields.{two, octets, blank}
use Rattle.record_blocks.specs.RecordHeader.{record_header}
use Rattle.record_blocks.specs.declared.read_record.IodReadReq.{IodReadReq}
use Rattle.record_blocks.specs.declared.read_record.IodReadRes.{IodReadRes}

-- The fields of an IODReadReqHeader.
unfoldable pub iod_read_req : Codec BlockFault IodReadReq
iod_read_req = seen
    (λ x. record {
      header = x.0;
      target_ar_uuid = x.1.0;
    })
    (λ block. (block.header, (block.target_ar_uuid, tt)))
    (record_header ⨾ octets 16 ⨾ blank 8)

-- The fields of an IODReadResHeader.
unfoldable pub iod_read_res : Codec BlockFault IodReadRes
iod_read_res = seen
    (λ x. record {
      header = x.0;
      additional_value_1 = x.1.0;
      additional_value_2 = x.1.1.0;
    })
    (λ block. (block.header, (block.additional_value_1, (block.additional_value_2, tt))))
    (record_header ⨾ two ⨾ two ⨾ blank 20)
