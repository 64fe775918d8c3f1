-- What differs is stated first.
use Rattle.std.proofs.Common.{refl}
use Rattle.relations.proofs.plugging.report_change.Goals as goal

pub returns-then-not-is_own-clause-state : goal.returns-then-not-is_own-clause-state
returns-then-not-is_own-clause-state c = rw (c.if-not-is_own.true, c.restate_modules.ensures, c.expected.ensures) refl

pub returns-clause-state : goal.returns-clause-state
returns-clause-state c =
    rw (c.if-not-is_own.false, c.report_modules.ensures.state, c.reported_as.ensures, c.restate_modules.ensures, c.expected.ensures) refl
