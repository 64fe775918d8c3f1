-- A new call by what it asks of the application.
use Rattle.std.proofs.Common.{◌≡◌, None, Some, Ok, Err, refl, sym, ap, ◌∙◌}
use Rattle.rpc_core.specs.Call.{asked}
use Rattle.relations.specs.RelationState.{uuid_of}
use Rattle.asked_records.specs.Asked.{asks, behind_displaced, displaced_by}
use Rattle.device_core.specs.Asking.{asking_of}
use Rattle.device_core.specs.Handled.{handled_asking, handled_question}
use Rattle.device_core.proofs.Handled.{question_asks_nothing, question_done}
use Rattle.device_core.proofs.Steps.{inactive_steps}
use Rattle.device_core.proofs.device.Device.serve_new.Goals as goal

pub returns-in-Ok-None-clause-steps : goal.returns-in-Ok-None-clause-steps
returns-in-Ok-None-clause-steps g c = λ heard is.
    let old = c.args.self.now in
    let serving = c.args.serving.now in
    let call = asked serving.call.now in
    let asks_it : asking_of old.live.rest.real old.station.named (uuid_of old.live.rest.link) serving.caller.now call serving.blocks.now serving.operation ≡ Ok None =
    rw (← c.self.view_is) (rw (← c.uuid.ensures) (rw (c.in-Ok-None.is, c.in-Ok-None.field-0-is) at c.asking_of.ensures.value)) in
    c.serve_own.ensures.steps heard
    (is ∙ ap (handled_asking old.station old.live serving.caller.now call serving.blocks.now serving.operation) asks_it)

pub returns-in-Ok-Some-clause-steps : goal.returns-in-Ok-Some-clause-steps
returns-in-Ok-Some-clause-steps g c = λ heard is.
    let old = c.args.self.now in
    let serving = c.args.serving.now in
    let call = asked serving.call.now in
    let question = c.in-Ok-Some.question in
    let octets = c.in-Ok-Some.octets.now in
    let asks_it : asking_of old.live.rest.real old.station.named (uuid_of old.live.rest.link) serving.caller.now call serving.blocks.now serving.operation ≡ Ok (Some (question, octets)) =
    rw (← c.self.view_is) (rw (← c.uuid.ensures) (rw (c.in-Ok-Some.is, c.in-Ok-Some.field-0-is) at c.asking_of.ensures.value)) in
    let displaced = displaced_by old.station.options.asks_own_first question old.live.rest.asked in
    let asked = asks question octets (behind_displaced displaced old.live.rest.asked) in
    inactive_steps g.F.Flash old _ heard (handled_question old.station old.live question displaced asked) _ _ c.requires.stored
    (is ∙ ap (handled_asking old.station old.live serving.caller.now call serving.blocks.now serving.operation) asks_it)
    (question_asks_nothing old.station old.live question displaced asked) c.ask.ensures.state c.ask.ensures.frames
    (c.ask.ensures.note ∙ sym (question_done old.station old.live question displaced asked)) c.ask.ensures.sendable

pub returns-in-Err-clause-steps : goal.returns-in-Err-clause-steps
returns-in-Err-clause-steps g c = λ heard is.
    let old = c.args.self.now in
    let serving = c.args.serving.now in
    let call = asked serving.call.now in
    let asks_it : asking_of old.live.rest.real old.station.named (uuid_of old.live.rest.link) serving.caller.now call serving.blocks.now serving.operation ≡ Err c.in-Err.fault =
    rw (← c.self.view_is) (rw (← c.uuid.ensures) (rw c.in-Err.is at c.asking_of.ensures.value)) in
    inactive_steps g.F.Flash old _ heard (handled_asking old.station old.live serving.caller.now call serving.blocks.now serving.operation (Err c.in-Err.fault)) _ _ c.requires.stored
    (is ∙ ap (handled_asking old.station old.live serving.caller.now call serving.blocks.now serving.operation) asks_it)
    refl c.refuse.ensures.state c.refuse.ensures.frames c.refuse.ensures.note c.refuse.ensures.sendable
