-- What is read is spelled, and what is spelled is read.
use Rattle.std.proofs.Common.{ℕ, List, sym, subst}
use Rattle.wire.proofs.Given.{found, only}
use Rattle.dcp_core.specs.Request.{Asked, asked}
use Rattle.dcp_core.specs.Reading.{IsRequest, request_of}
use Rattle.dcp_core.proofs.Sound.{request_takes, request_again, request_behind}
use Rattle.dcp_core.proofs.reading.read_request.Goals as goal

pub returns-clause-found : goal.returns-clause-found
returns-clause-found c =
    found asked (λ (request : Asked). IsRequest c.args.frame_id c.args.bytes.now request) c.request_at.result (request_of c.args.frame_id c.args.bytes.now)
    (request_takes c.args.frame_id c.args.bytes.now) c.request_at.ensures

pub returns-clause-only : goal.returns-clause-only
returns-clause-only c = λ request s.
    only asked c.request_at.result (request_of c.args.frame_id c.args.bytes.now) request (request_again c.args.frame_id c.args.bytes.now request s) c.request_at.ensures

pub returns-clause-behind : goal.returns-clause-behind
returns-clause-behind c = λ first more request s e.
    only asked c.request_at.result (request_of c.args.frame_id c.args.bytes.now) request
    (request_again c.args.frame_id c.args.bytes.now request
    (subst (λ (bytes : List ℕ). IsRequest c.args.frame_id bytes request) (sym e) (request_behind c.args.frame_id first more request s)))
    c.request_at.ensures
