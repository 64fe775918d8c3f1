-- It is so for each number so far.
use Rattle.rounds_law.specs.Connects.{AreWhole}
use Rattle.rounds_law.proofs.device.answering.connect_answers_are_whole.Given as goal

abbrev pub invariant-loop-serial : goal.invariant-loop-serial
invariant-loop-serial l = AreWhole l.setup l.identity l.serial
