-- This is proved turn by turn.
use Rattle.end_laws.proofs.SendingTurns.{first_live, turn_right}
use Rattle.end_laws.proofs.sending.law.messages_can_be_sent.Goals as goal

pub returns-clause-first : goal.returns-clause-first
returns-clause-first c = first_live

pub returns-clause-next : goal.returns-clause-next
returns-clause-next c = λ setup live event good is sized. let right = turn_right c.blocks_are_read.ensures.long setup live event (c.turns_are_of_a_kind.ensures.event setup live event) good is sized in (right.live, right.sent)
