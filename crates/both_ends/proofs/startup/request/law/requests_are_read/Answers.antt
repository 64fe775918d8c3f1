-- By the laws of the crates below.
use Rattle.both_ends.proofs.StartupRequestAsked.{initiator_is, request_read}
use Rattle.both_ends.proofs.StartupRequestSame.{no_row_differs}
use Rattle.both_ends.proofs.startup.request.law.requests_are_read.Goals as goal

pub returns-clause-read : goal.returns-clause-read
returns-clause-read c = request_read c.layouts_are_taken.ensures.good c.packed_places_are_asked.ensures.asked c.packed_places_are_asked.ensures.good

pub returns-clause-initiator : goal.returns-clause-initiator
returns-clause-initiator c = λ parts ar read. initiator_is parts ar read.0

pub returns-clause-same : goal.returns-clause-same
returns-clause-same c = λ parts ar plan. no_row_differs parts.real.modules.items plan.good.ordered
