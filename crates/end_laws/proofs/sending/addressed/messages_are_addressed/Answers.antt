use Rattle.end_laws.proofs.SendingAimed.{first_aimed, turn_sent}
use Rattle.end_laws.proofs.sending.addressed.messages_are_addressed.Goals as goal

pub returns-clause-first : goal.returns-clause-first
returns-clause-first c = first_aimed

pub returns-clause-next : goal.returns-clause-next
returns-clause-next c = λ mac setup live event good is from. let all = turn_sent mac c.blocks_are_read.ensures.long setup live event (c.turns_are_of_a_kind.ensures.event setup live event) good is from in (all.live, all.sent)
