-- The octets that remain after each block.
use Rattle.plans.specs.Connect.{blocks_of, some_uuid}
use Rattle.plans.proofs.Sizes.{left_fits}
use Rattle.plans.proofs.blocks.does_connect_fit.Goals as goal

pub returns : goal.returns
returns c =
    rw (
      c.is_some.ensures,
      c.left_behind.ensures,
      c.as_slice.ensures.value,
      c.less-left-4.ensures,
      c.block_len.ensures,
      c.alarm_block.ensures,
      c.less-left-3.ensures,
      c.iocr_len-2.ensures,
      c.less-left-2.ensures,
      c.iocr_len.ensures,
      c.less-left.ensures,
      c.block_len-ar.ensures,
      c.ar_block.ensures,
      c.nil.ensures,
    )
    (left_fits 1372 (blocks_of c.args.parts.now some_uuid))
