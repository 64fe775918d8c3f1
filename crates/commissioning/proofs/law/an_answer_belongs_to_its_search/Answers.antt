-- By induction over what the tool did, and then over the frames that it heard.
use Rattle.commissioning.proofs.Belongs.{found_last, late}
use Rattle.commissioning.proofs.law.an_answer_belongs_to_its_search.Goals as goal

pub returns : goal.returns
returns c = record {
  found = λ tool search before xid frames mac name e. found_last tool xid before search frames mac name e;
  late = λ tool other xid place mac frame of differs. late tool xid other place mac frame of differs;
}
