-- By the two intervals that are read at the end.
use Rattle.connects.proofs.RequestsIntervals.{accepted_within, input_within, output_within, same_within}
use Rattle.connects.proofs.RequestsRead.{standing_within}
use Rattle.connects.proofs.requests.laws.intervals_are_kept.Goals as goal

pub returns-clause-accepted : goal.returns-clause-accepted
returns-clause-accepted c = accepted_within

pub returns-clause-same : goal.returns-clause-same
returns-clause-same c = same_within

pub returns-clause-input : goal.returns-clause-input
returns-clause-input c = input_within

pub returns-clause-output : goal.returns-clause-output
returns-clause-output c = output_within

pub returns-clause-standing : goal.returns-clause-standing
returns-clause-standing c = standing_within
