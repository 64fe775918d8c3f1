-- The header and the fields, followed by the data, are the octets of the block.
use Rattle.std.proofs.Common.{◌≡◌, ℕ, ◌+◌, List, ◌++◌, ◌∷◌, arith, lit<, refl, sym, ap, ◌∙◌}
use Rattle.wire.specs.Formats.{big_bytes}
use Rattle.wire.specs.blocks.Fields.{number_bytes, open_body, version}
use Rattle.record_blocks.specs.AlarmNotification.{alarm_notification}
use Rattle.block_codec.specs.declared.block.Block.TheVariants.{AlarmNotification}
use Rattle.block_codec.specs.declared.block_type.BlockType.TheVariants as kind
use Rattle.block_codec.specs.Kinds.{number_of}
use Rattle.block_codec.specs.Block.{fields_of, block_bytes}
use Rattle.block_codec.proofs.Sound.{block_again, block_parts, block_written}
use Rattle.block_codec.proofs.writing.notification_front.Goals as goal

pub returns-clause-exact : goal.returns-clause-exact
unfolding fields_of open_body version number_bytes
returns-clause-exact c =
    let alarm = c.args.alarm.now in
    rw c.join.ensures (rw c.to_be_bytes-kind.ensures (rw c.to_be_bytes-size.ensures (rw c.number.ensures (rw c.alarm_notification_len.ensures.size (
    ap (λ (xs : List ℕ). big_bytes 2 (number_of kind.AlarmNotification) ++ (big_bytes 2 (2 + alarm_notification.size alarm) ++ (1 ∷ 0 ∷ xs))) c.alarm_front.ensures.items
    ∙ sym (block_parts (AlarmNotification alarm)))))))

pub returns-clause-behind : goal.returns-clause-behind
unfolding fields_of open_body version
returns-clause-behind c = λ rest.
    block_again (block_bytes (AlarmNotification c.args.alarm.now) ++ rest) (AlarmNotification c.args.alarm.now) rest
    (block_written (AlarmNotification c.args.alarm.now) rest
    (rw (sym c.alarm_notification_len.ensures.size) (omega (arith, c.alarm_notification_len.ensures.few)))
    (((refl, lit< tt), (refl, lit< tt)), c.alarm_front.ensures.fits))
