-- IODWriteReqHeader and IODWriteResHeader (IEC 61158-6-10, 5.2.3).
use Rattle.wire.specs.Codec.{Codec}
use Rattle.wire.specs.Formats.{◌⨾◌, seen}
use Rattle.wire.specs.declared.blocks.fault.BlockFault.{BlockFault}
use Rattle.wire.specs.blocks.Fields.{two, four, blank}
use Rattle.record_blocks.specs.RecordHeader.{record_header}
use Rattle.record_blocks.specs.declared.write_record.IodWriteReq.{IodWriteReq}
use Rattle.record_blocks.specs.declared.write_record.IodWriteRes.{IodWriteRes}

-- The fields of an IODWriteReqHeader.
unfoldable pub iod_write_req : Codec BlockFault IodWriteReq
iod_write_req = seen (λ x. record { header = x.0 }) (λ block. (block.header, tt)) (record_header ⨾ blank 24)

-- The fields of an IODWriteResHeader.
unfoldable pub iod_write_res : Codec BlockFault IodWriteRes
iod_write_res = seen
    (λ x. record {
      header = x.0;
      additional_value_1 = x.1.0;
      additional_value_2 = x.1.1.0;
      pnio_status = x.1.1.1.0;
    })
    (λ block. (block.header, (block.additional_value_1, (block.additional_value_2, (block.pnio_status, tt)))))
    (record_header ⨾ two ⨾ two ⨾ four ⨾ blank 16)
