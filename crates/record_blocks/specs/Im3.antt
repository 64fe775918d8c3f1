-- I&M3 (IEC 61158-6-10, 5.2.3.22).
use Rattle.wire.specs.Codec.{Codec}
use Rattle.wire.specs.Formats.{seen}
use Rattle.wire.specs.declared.blocks.fault.BlockFault.{BlockFault}
use Rattle.wire.specs.blocks.Fields.{octets}
use Rattle.record_blocks.specs.declared.im3.Im3.{Im3}

-- The fields of an I&M3.
unfoldable pub im3 : Codec BlockFault Im3
im3 = seen
    (λ x. record { im_descriptor = x })
    (λ block. block.im_descriptor)
    (octets 54)
