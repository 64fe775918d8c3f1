-- I&M1 (IEC 61158-6-10, 5.2.3.22).
use Rattle.wire.specs.Codec.{Codec}
use Rattle.wire.specs.Formats.{◌⨾◌, seen}
use Rattle.wire.specs.declared.blocks.fault.BlockFault.{BlockFault}
use Rattle.wire.specs.blocks.Fields.{octets}
use Rattle.record_blocks.specs.declared.im1.Im1.{Im1}

-- The fields of an I&M1: function and location.
unfoldable pub im1 : Codec BlockFault Im1
im1 = seen (λ x. record { im_tag_function = x.0; im_tag_location = x.1 }) (λ block. (block.im_tag_function, block.im_tag_location))
    (octets 32 ⨾ octets 22)
