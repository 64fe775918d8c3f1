-- The number that was read is the number at the start.
use Rattle.std.proofs.Common.{sym, ◌∙◌}
use Rattle.wire.proofs.Fields.{number_in_front}
use Rattle.wire.specs.declared.blocks.fault.BlockFault.TheVariants.{Truncated}
use Rattle.block_codec.specs.Kinds.{number_of}
use Rattle.pn_alarms.proofs.reading.read_ack.Goals as goal

pub read_alarm_ack-requires : goal.read_alarm_ack-requires
unfolding number_of
read_alarm_ack-requires c =
    let found = c.in-Ok-eq32769-default in
    sym (number_in_front Truncated 2 c.args.body.now found.field-0-0 found.field-0-1.now found.ensures) ∙ found.field-0-0-test
