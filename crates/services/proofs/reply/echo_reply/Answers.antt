use Rattle.std.proofs.Common.{ℕ, List, ◌++◌, ap, ◌∙◌}
use Rattle.services.specs.Views.{asked_by}
use Rattle.services.proofs.Replies.{reply_parts, reply_is}
use Rattle.services.proofs.reply.echo_reply.Goals as goal

pub returns : goal.returns
returns c =
    let request = asked_by c.args.request.now in
    let front = c.append.ensures.items ∙ ap (λ (xs : List ℕ). xs ++ c.as_slice.result.now) c.new-frame.ensures ∙ c.as_slice.ensures.value in
    reply_is c.args.mac request _ _ (reply_parts c.args.mac request _ _ (front ∙ c.headers-headers.ensures.items) c.append-2.ensures.items) c.pad.ensures
