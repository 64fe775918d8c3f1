-- Nothing is shown if the fault has no place or the room no octet.
use Rattle.std.proofs.Common.{sym, ◌∙◌}
use Rattle.plan_abi.proofs.Spelling.{has_none}
use Rattle.plan_abi.proofs.place.show.Goals as goal

pub returns-in-Err-clause-nothing : goal.returns-in-Err-clause-nothing
returns-in-Err-clause-nothing c is =
    has_none c.args.text.now c.args.room.now c.in-Err.refusal c.in-Err.ensures.refused (sym c.tell.ensures.answer ∙ is)
