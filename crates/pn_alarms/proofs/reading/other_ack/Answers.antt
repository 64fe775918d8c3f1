-- A value that is read is encoded by the octets, and octets that encode a value are read as it.
use Rattle.std.proofs.Common.{ℕ, List, sym, ◌∙◌}
use Rattle.block_codec.specs.declared.block.Block.{Block}
use Rattle.block_codec.specs.declared.block.Block.TheVariants as is
use Rattle.block_codec.specs.Block.{IsBlock, block_of, front, in_alarm_ack}
use Rattle.pn_alarms.proofs.Carried.{ack_found, of_ok, same_wanted}
use Rattle.pn_alarms.proofs.reading.other_ack.Goals as goal

pub returns-clause-found : goal.returns-clause-found
returns-clause-found c =
    of_ok _ c.ack_in.result
    (λ value e. ack_found (λ (block : Block) (rest : List ℕ). IsBlock c.args.body.now block rest) c.read_block.result value c.read_block.ensures.found (sym c.ack_in.ensures ∙ e))

pub returns-clause-only : goal.returns-clause-only
returns-clause-only c = λ meaning s.
    c.ack_in.ensures ∙ same_wanted in_alarm_ack c.read_block.result (front (is.AlarmAck meaning) s.0) (c.read_block.ensures.only (is.AlarmAck meaning) s.0 s.1)

pub returns-clause-exact : goal.returns-clause-exact
returns-clause-exact c = c.ack_in.ensures ∙ same_wanted in_alarm_ack c.read_block.result (block_of c.args.body.now) c.read_block.ensures.exact
