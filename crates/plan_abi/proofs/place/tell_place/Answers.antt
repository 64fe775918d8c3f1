-- A place without a text has no steps.
use Rattle.std.proofs.Common.{sym, ◌∙◌}
use Rattle.plan_abi.proofs.Spelling.{no_items, nothing_spelled}
use Rattle.plan_abi.proofs.place.tell_place.Goals as goal

pub returns-in-None-clause-answer : goal.returns-in-None-clause-answer
returns-in-None-clause-answer c =
    nothing_spelled c.args.place.now c.args.room.now
    (sym c.spelled-text.ensures ∙ (sym c.as_slice.ensures.value ∙ no_items c.as_slice.result.now c.in-None.ensures.cases))
