-- I&M2 (IEC 61158-6-10, 5.2.3.22).
use Rattle.wire.specs.Codec.{Codec}
use Rattle.wire.specs.Formats.{seen}
use Rattle.wire.specs.declared.blocks.fault.BlockFault.{BlockFault}
use Rattle.wire.specs.blocks.Fields.{octets}
use Rattle.record_blocks.specs.declared.im2.Im2.{Im2}

-- The fields of an I&M2.
unfoldable pub im2 : Codec BlockFault Im2
im2 = seen
    (λ x. record { im_date = x })
    (λ block. block.im_date)
    (octets 16)
