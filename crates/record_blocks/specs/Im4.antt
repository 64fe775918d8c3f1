-- I&M4 (IEC 61158-6-10, 5.2.3.22).
use Rattle.wire.specs.Codec.{Codec}
use Rattle.wire.specs.Formats.{seen}
use Rattle.wire.specs.declared.blocks.fault.BlockFault.{BlockFault}
use Rattle.wire.specs.blocks.Fields.{octets}
use Rattle.record_blocks.specs.declared.im4.Im4.{Im4}

-- The fields of an I&M4.
unfoldable pub im4 : Codec BlockFault Im4
im4 = seen
    (λ x. record { im_signature = x })
    (λ block. block.im_signature)
    (octets 54)
