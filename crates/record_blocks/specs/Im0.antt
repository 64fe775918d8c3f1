-- I&M0 (IEC 61158-6-10, 5.2.3.22).
use Rattle.wire.specs.Codec.{Codec}
use Rattle.wire.specs.Formats.{◌⨾◌, seen}
use Rattle.wire.specs.declared.blocks.fault.BlockFault.{BlockFault}
use Rattle.wire.specs.blocks.Fields.{two, fixed, octets}
use Rattle.record_blocks.specs.declared.im0.Im0.{Im0}
use Rattle.record_blocks.specs.declared.im0.Im0Order.{Im0Order}
use Rattle.record_blocks.specs.declared.im0.Im0Revision.{Im0Revision}

-- The fields from VendorIDHigh to IM_Serial_Number.
unfoldable pub im0_order : Codec BlockFault Im0Order
im0_order = seen (λ x. record { vendor_id = x.0; order_id = x.1.0; im_serial_number = x.1.1 })
    (λ order. (order.vendor_id, (order.order_id, order.im_serial_number)))
    (two ⨾ octets 20 ⨾ octets 16)

-- The fields from IM_Hardware_Revision to IM_Supported, with IM_RevisionCounter 0 and IM_Version 1.1.
unfoldable pub im0_revision : Codec BlockFault Im0Revision
im0_revision = seen
    (λ x. record { im_hardware_revision = x.0; im_software_revision = x.1.0; im_profile_id = x.1.1.1.0; im_profile_specific_type = x.1.1.1.1.0 })
    (λ revision. (
      revision.im_hardware_revision,
      (revision.im_software_revision, (tt, (revision.im_profile_id, (revision.im_profile_specific_type, (tt, tt))))),
    ))
    (two ⨾ octets 4 ⨾ fixed 9 0 ⨾ two ⨾ two ⨾ fixed 12 0x0101 ⨾ fixed 13 0x003E)

-- The fields of an I&M0.
unfoldable pub im0 : Codec BlockFault Im0
im0 = seen
    (λ x. record {
      vendor_id = x.0.vendor_id;
      order_id = x.0.order_id;
      im_serial_number = x.0.im_serial_number;
      im_hardware_revision = x.1.im_hardware_revision;
      im_software_revision = x.1.im_software_revision;
      im_profile_id = x.1.im_profile_id;
      im_profile_specific_type = x.1.im_profile_specific_type;
    })
    (λ block. (
      record { vendor_id = block.vendor_id; order_id = block.order_id; im_serial_number = block.im_serial_number },
      record {
        im_hardware_revision = block.im_hardware_revision;
        im_software_revision = block.im_software_revision;
        im_profile_id = block.im_profile_id;
        im_profile_specific_type = block.im_profile_specific_type;
      },
    ))
    (im0_order ⨾ im0_revision)
