-- Each follows from its lemma.
use Rattle.connects.proofs.AnswersReading.{alarm_is, keeps_all, known_is, relation_read}
use Rattle.connects.proofs.answers.law.blocks_are_found.Goals as goal

pub returns-clause-known : goal.returns-clause-known
returns-clause-known c = known_is

pub returns-clause-alarm : goal.returns-clause-alarm
returns-clause-alarm c = alarm_is

pub returns-clause-written : goal.returns-clause-written
returns-clause-written c = relation_read

pub returns-clause-stays : goal.returns-clause-stays
returns-clause-stays c = keeps_all
