use Rattle.std.proofs.Common.{sym, ap, subst, ◌∙◌}
use Rattle.services.specs.Concern.{IsShort, concern_after, concern_answer, concern_call, concern_disputes, is_other_type}
use Rattle.services.proofs.Concerns.{answer_follows, call_follows, concern_short, dispute_follows, state_follows, type_follows}
use Rattle.services.proofs.machine.Services.concern.Goals as goal

pub returns-clause-answer : goal.returns-clause-answer
returns-clause-answer c = answer_follows c.args.self.now c.args.bytes.now ∙ ap (concern_answer c.args.self.now) (sym c.find.ensures)

pub returns-clause-state : goal.returns-clause-state
returns-clause-state c = state_follows c.args.self.now c.args.bytes.now ∙ ap (concern_after c.args.self.now) (sym c.find.ensures)

pub returns-clause-call : goal.returns-clause-call
returns-clause-call c = call_follows c.args.self.now c.args.bytes.now ∙ ap concern_call (sym c.find.ensures)

pub returns-clause-disputes : goal.returns-clause-disputes
returns-clause-disputes c = dispute_follows c.args.self.now c.args.bytes.now ∙ ap (concern_disputes c.args.self.now) (sym c.find.ensures)

pub returns-clause-other : goal.returns-clause-other
returns-clause-other c = type_follows c.args.self.now c.args.bytes.now ∙ ap is_other_type (sym c.find.ensures)

pub returns-clause-short : goal.returns-clause-short
returns-clause-short c = subst IsShort (sym c.find.ensures) (concern_short c.args.self.now c.args.bytes.now)
