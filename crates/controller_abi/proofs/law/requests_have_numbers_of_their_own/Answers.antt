-- By induction over the requests between the two.
use Rattle.controller_abi.proofs.Numbers.{another}
use Rattle.controller_abi.proofs.law.requests_have_numbers_of_their_own.Goals as goal

pub returns : goal.returns
returns c = another
