-- What is read is spelled, and what is spelled is read.
use Rattle.std.proofs.Common.{ℕ, List, sym, subst}
use Rattle.wire.proofs.Given.{found, only}
use Rattle.rpc_core.specs.Call.{Asked, asked, IsCall, call_of}
use Rattle.rpc_core.proofs.Sound.{call_takes, call_again, call_behind}
use Rattle.rpc_core.proofs.call.read_call.Goals as goal

pub returns-clause-found : goal.returns-clause-found
returns-clause-found c =
    found asked (λ (meaning : Asked). IsCall c.args.interface c.args.bytes.now meaning) c.call_in.result (call_of c.args.interface c.args.bytes.now)
    (call_takes c.args.interface c.args.bytes.now) c.call_in.ensures

pub returns-clause-only : goal.returns-clause-only
returns-clause-only c = λ meaning s.
    only asked c.call_in.result (call_of c.args.interface c.args.bytes.now) meaning (call_again c.args.interface c.args.bytes.now meaning s) c.call_in.ensures

pub returns-clause-behind : goal.returns-clause-behind
returns-clause-behind c = λ first more meaning s e.
    only asked c.call_in.result (call_of c.args.interface c.args.bytes.now) meaning
    (call_again c.args.interface c.args.bytes.now meaning
    (subst (λ (bytes : List ℕ). IsCall c.args.interface bytes meaning) (sym e) (call_behind c.args.interface first more meaning s)))
    c.call_in.ensures
