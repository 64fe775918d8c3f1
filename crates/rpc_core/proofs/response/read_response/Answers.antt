-- What is read is spelled, and what is spelled is read.
use Rattle.std.proofs.Common.{ℕ, List, sym, subst}
use Rattle.wire.proofs.Given.{found, only}
use Rattle.rpc_core.specs.Response.{Answered, answered, IsResponse, response_of}
use Rattle.rpc_core.proofs.Sound.{response_takes, response_again, response_behind}
use Rattle.rpc_core.proofs.response.read_response.Goals as goal

pub returns-clause-found : goal.returns-clause-found
returns-clause-found c =
    found answered (λ (meaning : Answered). IsResponse c.args.bytes.now meaning) c.response_in.result (response_of c.args.bytes.now)
    (response_takes c.args.bytes.now) c.response_in.ensures

pub returns-clause-only : goal.returns-clause-only
returns-clause-only c = λ meaning s.
    only answered c.response_in.result (response_of c.args.bytes.now) meaning (response_again c.args.bytes.now meaning s) c.response_in.ensures

pub returns-clause-behind : goal.returns-clause-behind
returns-clause-behind c = λ first more meaning s e.
    only answered c.response_in.result (response_of c.args.bytes.now) meaning
    (response_again c.args.bytes.now meaning
    (subst (λ (bytes : List ℕ). IsResponse bytes meaning) (sym e) (response_behind first more meaning s)))
    c.response_in.ensures
