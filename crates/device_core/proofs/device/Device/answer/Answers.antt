-- An answer that is accepted goes to the call that is asked.
use Rattle.std.proofs.Common.{◌≡◌, Result, Ok, ap}
use Rattle.asked_records.specs.Answers.{gives, judged}
use Rattle.asked_records.specs.declared.answering.AnswerFault.{AnswerFault}
use Rattle.asked_records.specs.declared.question.Question.{Question}
use Rattle.device_core.specs.Handled.{handled_judged}
use Rattle.device_core.specs.Machine.{end_of}
use Rattle.device_core.proofs.device.Device.answer.Goals as goal

pub returns-clause-frames : goal.returns-clause-frames
returns-clause-frames g c =
    let old = c.args.self.now in
    let given = gives c.args.given.now in
    let one : judged c.args.number given old.live.rest.asked ≡ Ok c.in-Ok.reply.question = rw (← c.self.view_is) c.in-Ok.ensures.question in
    let it = ap (λ (who : Result Question AnswerFault). end_of old.station old.live (handled_judged old.station old.live given who)) one in
    let frames = rw (c.requires.empty, c.in-Ok.ensures.status, c.in-Ok.ensures.blocks, c.address-address.ensures.value, c.running.ensures) at c.reply_later.ensures.frames in
    rw it (rw (← c.self.view_is) frames)

pub returns-clause-sendable : goal.returns-clause-sendable
returns-clause-sendable g c =
    let old = c.args.self.now in
    let given = gives c.args.given.now in
    let one : judged c.args.number given old.live.rest.asked ≡ Ok c.in-Ok.reply.question = rw (← c.self.view_is) c.in-Ok.ensures.question in
    let it = ap (λ (who : Result Question AnswerFault). end_of old.station old.live (handled_judged old.station old.live given who)) one in
    let sendable = rw (c.in-Ok.ensures.status, c.in-Ok.ensures.blocks, c.address-address.ensures.value, c.running.ensures) at c.reply_later.ensures.sendable in
    rw it (rw (← c.self.view_is) sendable)
