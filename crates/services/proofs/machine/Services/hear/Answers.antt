use Rattle.std.proofs.Common.{◌∙◌}
use Rattle.services.proofs.Facts.{echo_answered, echo_elsewhere, echo_from_group, echo_other_address, echo_from_none, echo_keeps, arp_answered, arp_dropped, arp_disputes, arp_keeps, call_is, call_from_none, call_keeps, other_answer, other_keeps}
use Rattle.services.proofs.machine.Services.hear.Goals as goal

pub returns-clause-echo : goal.returns-clause-echo
returns-clause-echo c = λ request e asked. c.handle.ensures.answer ∙ echo_answered c.args.self.now c.args.bytes.now request e asked

pub returns-clause-elsewhere : goal.returns-clause-elsewhere
returns-clause-elsewhere c = λ request e other. c.handle.ensures.answer ∙ echo_elsewhere c.args.self.now c.args.bytes.now request e other

pub returns-clause-group : goal.returns-clause-group
returns-clause-group c = λ request e group. c.handle.ensures.answer ∙ echo_from_group c.args.self.now c.args.bytes.now request e group

pub returns-clause-address : goal.returns-clause-address
returns-clause-address c = λ request e other. c.handle.ensures.answer ∙ echo_other_address c.args.self.now c.args.bytes.now request e other

pub returns-clause-sender : goal.returns-clause-sender
returns-clause-sender c = λ request e other. c.handle.ensures.answer ∙ echo_from_none c.args.self.now c.args.bytes.now request e other

pub returns-clause-echo_keeps : goal.returns-clause-echo_keeps
returns-clause-echo_keeps c = λ request e. c.handle.ensures.state ∙ echo_keeps c.args.self.now c.args.bytes.now request e

pub returns-clause-conflict : goal.returns-clause-conflict
returns-clause-conflict c = λ meaning packet e f conflict. c.handle.ensures.state ∙ arp_disputes c.args.self.now c.args.bytes.now meaning packet e f conflict

pub returns-clause-no_conflict : goal.returns-clause-no_conflict
returns-clause-no_conflict c = λ meaning packet e f conflict. c.handle.ensures.state ∙ arp_keeps c.args.self.now c.args.bytes.now meaning packet e f conflict

pub returns-clause-arp_answered : goal.returns-clause-arp_answered
returns-clause-arp_answered c = λ meaning packet e f sought. c.handle.ensures.answer ∙ arp_answered c.args.self.now c.args.bytes.now meaning packet e f sought

pub returns-clause-arp_dropped : goal.returns-clause-arp_dropped
returns-clause-arp_dropped c = λ meaning packet e f sought. c.handle.ensures.answer ∙ arp_dropped c.args.self.now c.args.bytes.now meaning packet e f sought

pub returns-clause-dropped : goal.returns-clause-dropped
returns-clause-dropped c = λ fault e apart. c.handle.ensures.answer ∙ other_answer c.args.self.now c.args.bytes.now fault e apart

pub returns-clause-dropped_keeps : goal.returns-clause-dropped_keeps
returns-clause-dropped_keeps c = λ fault e apart. c.handle.ensures.state ∙ other_keeps c.args.self.now c.args.bytes.now fault e apart

pub returns-clause-call : goal.returns-clause-call
returns-clause-call c = λ meaning from to body e f. c.handle.ensures.answer ∙ call_is c.args.self.now c.args.bytes.now meaning from to body e f

pub returns-clause-caller : goal.returns-clause-caller
returns-clause-caller c = λ meaning from to body e f other. c.handle.ensures.answer ∙ call_from_none c.args.self.now c.args.bytes.now meaning from to body e f other

pub returns-clause-call_keeps : goal.returns-clause-call_keeps
returns-clause-call_keeps c = λ meaning from to body e f. c.handle.ensures.state ∙ call_keeps c.args.self.now c.args.bytes.now meaning from to body e f
