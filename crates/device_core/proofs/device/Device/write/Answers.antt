-- What a Write asks for is carried out.
use Rattle.std.proofs.Common.{◌≡◌, Ok, Err, refl, sym, ap, ◌∙◌}
use Rattle.rpc_core.specs.Call.{asked}
use Rattle.records.specs.writes.Asked.{writing_of}
use Rattle.records.specs.declared.writes.writing.Writing.TheVariants.{One, Each}
use Rattle.relations.specs.RelationState.{uuid_of}
use Rattle.device_core.specs.Handled.{handled_write}
use Rattle.device_core.proofs.Steps.{inactive_steps}
use Rattle.device_core.proofs.device.Device.write.Goals as goal

pub returns-in-Ok-One-clause-steps : goal.returns-in-Ok-One-clause-steps
returns-in-Ok-One-clause-steps g c = λ heard is.
    let old = c.args.self.now in
    let made : writing_of (uuid_of old.live.rest.link) old.live.rest.real c.args.serving.now.blocks.now ≡ Ok (One c.in-Ok-One.write) =
    rw (← c.self.view_is) (rw (← c.uuid.ensures) (sym c.judge_write.ensures.value ∙ rw c.in-Ok-One.field-0-is at c.in-Ok-One.is)) in
    c.write_one.ensures.steps heard (is ∙ ap (handled_write old.station old.live c.args.serving.now.caller.now (asked c.args.serving.now.call.now)) made)

pub returns-in-Ok-Each-clause-steps : goal.returns-in-Ok-Each-clause-steps
returns-in-Ok-Each-clause-steps g c = λ heard is.
    let old = c.args.self.now in
    let made : writing_of (uuid_of old.live.rest.link) old.live.rest.real c.args.serving.now.blocks.now ≡ Ok (Each c.in-Ok-Each.request c.in-Ok-Each.entries) =
    rw (← c.self.view_is) (rw (← c.uuid.ensures) (sym c.judge_write.ensures.value ∙ rw c.in-Ok-Each.field-0-is at c.in-Ok-Each.is)) in
    c.write_each.ensures.steps heard (is ∙ ap (handled_write old.station old.live c.args.serving.now.caller.now (asked c.args.serving.now.call.now)) made)

pub returns-in-Err-clause-steps : goal.returns-in-Err-clause-steps
returns-in-Err-clause-steps g c = λ heard is.
    let old = c.args.self.now in
    let call = asked c.args.serving.now.call.now in
    let made : writing_of (uuid_of old.live.rest.link) old.live.rest.real c.args.serving.now.blocks.now ≡ Err c.in-Err.fault =
    rw (← c.self.view_is) (rw (← c.uuid.ensures) (sym c.judge_write.ensures.value ∙ c.in-Err.is)) in
    let here = c.requires.operation in
    inactive_steps g.F.Flash old _ heard (handled_write old.station old.live c.args.serving.now.caller.now call (Err c.in-Err.fault)) _ _ c.requires.stored
    (is ∙ ap (handled_write old.station old.live c.args.serving.now.caller.now call) made)
    refl (rw here at c.refuse.ensures.state) (rw here at c.refuse.ensures.frames) c.refuse.ensures.note (rw here at c.refuse.ensures.sendable)
