-- The fields at the start of the four headers of a record (IEC 61158-6-10, 5.2.3).
use Rattle.wire.specs.Codec.{Codec}
use Rattle.wire.specs.Formats.{◌⨾◌, seen}
use Rattle.wire.specs.declared.blocks.fault.BlockFault.{BlockFault}
use Rattle.wire.specs.blocks.Fields.{two, four, octets, blank}
use Rattle.record_blocks.specs.declared.record_header.RecordHeader.{RecordHeader}

-- The fields from SeqNumber to RecordDataLength.
unfoldable pub record_header : Codec BlockFault RecordHeader
record_header = seen
    (λ x. record {
      seq_number = x.0;
      ar_uuid = x.1.0;
      api = x.1.1.0;
      slot_number = x.1.1.1.0;
      subslot_number = x.1.1.1.1.0;
      index = x.1.1.1.1.1.1.0;
      record_data_length = x.1.1.1.1.1.1.1;
    })
    (λ header. (
      header.seq_number,
      (header.ar_uuid, (header.api, (header.slot_number, (header.subslot_number, (tt, (header.index, header.record_data_length)))))),
    ))
    (two ⨾ octets 16 ⨾ four ⨾ two ⨾ two ⨾ blank 2 ⨾ two ⨾ four)
