-- What becomes of a record, and its outcome.
use Rattle.std.proofs.Common.{refl, sym, ◌∙◌}
use Rattle.device_core.proofs.Lists.{one_names}
use Rattle.device_core.proofs.several.put_outcome.Goals as goal

pub returns-clause-blocks : goal.returns-clause-blocks
returns-clause-blocks c =
    let status = c.carry-status.ensures.status c.args.entry.now.request c.args.answers.now (sym c.first_answer.ensures) in
    rw (c.put_write_outcome.ensures.items, status, c.judge-judged.ensures) refl

pub returns-clause-link : goal.returns-clause-link
returns-clause-link c = rw (c.carry-status.ensures.link, c.judge-judged.ensures) refl

pub returns-clause-uuid : goal.returns-clause-uuid
returns-clause-uuid c = rw c.carry-status.ensures.link (one_names c.judge-judged.result c.args.relation.now)

pub returns-clause-answers : goal.returns-clause-answers
returns-clause-answers c = c.rest_of-left.ensures ∙ (sym (c.is_text.ensures c.args.answers.now) ∙ rw c.judge-judged.ensures refl)
