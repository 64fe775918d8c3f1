-- What is read is spelled, and what is spelled is read.
use Rattle.std.proofs.Common.{ℕ, List, sym, subst}
use Rattle.wire.proofs.Given.{found, only}
use Rattle.dcp_core.specs.Response.{Answered}
use Rattle.dcp_core.specs.Answered.{answered}
use Rattle.dcp_core.specs.Answer.{IsAnswer, answer_of}
use Rattle.dcp_core.specs.Reported.{identify_said, get_said, set_said}
use Rattle.dcp_core.specs.Identify.{identify_bytes}
use Rattle.dcp_core.specs.Get.{get_bytes}
use Rattle.dcp_core.specs.Set.{set_bytes}
use Rattle.dcp_core.proofs.AnswerSound.{answer_takes, answer_again, answer_behind, answer_sent}
use Rattle.dcp_core.proofs.AnswerWritten.{identify_spelled, get_spelled, set_spelled}
use Rattle.dcp_core.proofs.answers.read_answer.Goals as goal

pub returns-clause-found : goal.returns-clause-found
returns-clause-found c =
    found answered (λ (said : Answered). IsAnswer c.args.frame_id c.args.bytes.now said) c.response_at.result (answer_of c.args.frame_id c.args.bytes.now)
    (answer_takes c.args.frame_id c.args.bytes.now) c.response_at.ensures

pub returns-clause-only : goal.returns-clause-only
returns-clause-only c = λ said s.
    only answered c.response_at.result (answer_of c.args.frame_id c.args.bytes.now) said (answer_again c.args.frame_id c.args.bytes.now said s) c.response_at.ensures

pub returns-clause-behind : goal.returns-clause-behind
returns-clause-behind c = λ first more said s e.
    only answered c.response_at.result (answer_of c.args.frame_id c.args.bytes.now) said
    (answer_again c.args.frame_id c.args.bytes.now said
    (subst (λ (bytes : List ℕ). IsAnswer c.args.frame_id bytes said) (sym e) (answer_behind c.args.frame_id first more said s)))
    c.response_at.ensures

pub returns-clause-identify : goal.returns-clause-identify
returns-clause-identify c = λ identity settings xid id sent.
    let said : Answered = identify_said identity settings xid in
    let s = subst (λ (frame_id : ℕ). IsAnswer frame_id (identify_bytes identity settings xid) said) (sym id) (identify_spelled identity settings xid sent.short sent.number) in
    only answered c.response_at.result (answer_of c.args.frame_id c.args.bytes.now) said
    (answer_again c.args.frame_id c.args.bytes.now said (answer_sent c.args.frame_id xid (identify_bytes identity settings xid) c.args.bytes.now said sent s))
    c.response_at.ensures

pub returns-clause-get : goal.returns-clause-get
returns-clause-get c = λ identity settings alias request id sent.
    let said : Answered = get_said identity settings alias request in
    let s = subst (λ (frame_id : ℕ). IsAnswer frame_id (get_bytes identity settings alias request) said) (sym id) (get_spelled identity settings alias request sent.short sent.number) in
    only answered c.response_at.result (answer_of c.args.frame_id c.args.bytes.now) said
    (answer_again c.args.frame_id c.args.bytes.now said (answer_sent c.args.frame_id request.xid (get_bytes identity settings alias request) c.args.bytes.now said sent s))
    c.response_at.ensures

pub returns-clause-set : goal.returns-clause-set
returns-clause-set c = λ request answers id sent.
    let said : Answered = set_said request answers in
    let s = subst (λ (frame_id : ℕ). IsAnswer frame_id (set_bytes request answers) said) (sym id) (set_spelled request answers sent.short sent.number) in
    only answered c.response_at.result (answer_of c.args.frame_id c.args.bytes.now) said
    (answer_again c.args.frame_id c.args.bytes.now said (answer_sent c.args.frame_id request.xid (set_bytes request answers) c.args.bytes.now said sent s))
    c.response_at.ensures
