-- The frame is read back, and so is its body.
use Rattle.std.proofs.Common.{◌≡◌, ℕ, List, [], Ok, append-nil, subst, ◌∙◌}
use Rattle.rpc_core.specs.Response.{answered, response_bytes, response_of}
use Rattle.frame_codec.specs.Frame.{IsReadBack}
use Rattle.both_ends.proofs.StartupAnswerHeard.{answer_heard, meaning_with}
use Rattle.both_ends.proofs.startup.answer.reading.answers_are_read.Goals as goal

pub returns : goal.returns
returns c =
    let answer = answered c.args.response.now in
    let items = c.write_response.new.datagram.items in
    let read : response_of (response_bytes answer) ≡ Ok answer =
    subst (λ (bytes : List ℕ). response_of bytes ≡ Ok answer) (append-nil items ∙ c.write_response.ensures.exact) (c.write_response.ensures.behind []) in
    let back = subst (λ (body : List ℕ). IsReadBack (meaning_with c.args.controller.now c.args.identity.now c.args.address body))
    (c.as_slice.ensures.value ∙ c.write_response.ensures.exact) c.put.ensures.again in
    record { heard = answer_heard c.args.controller.now c.args.identity.now c.args.address answer back read }
