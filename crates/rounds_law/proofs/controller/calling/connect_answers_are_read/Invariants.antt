-- It is so for each number so far.
use Rattle.rounds_law.specs.Connects.{GoOn}
use Rattle.rounds_law.proofs.controller.calling.connect_answers_are_read.Given as goal

abbrev pub invariant-loop-serial : goal.invariant-loop-serial
invariant-loop-serial l = GoOn l.setup l.identity l.address l.serial
