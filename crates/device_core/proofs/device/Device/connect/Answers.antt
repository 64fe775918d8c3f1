-- A Connect is answered, counted if it was accepted, and logged if it was refused.
use Rattle.std.proofs.Common.{refl, sym, ap, ◌∙◌}
use Rattle.device_core.specs.Log.{connect_log}
use Rattle.device_core.specs.Handled.{count_after}
use Rattle.device_core.proofs.Logged.{connected_count, connected_log}
use Rattle.device_core.proofs.Served.{came_as}
use Rattle.device_core.proofs.device.Device.connect.Goals as goal

pub returns-clause-state : goal.returns-clause-state
returns-clause-state g c =
    let came = c.connect-came.result in
    let blocks = c.connect-came.new.answer.items in
    let asked = c.args.serving.now.blocks.now in
    let out = rw c.source_of-partner.ensures at (came_as came _ blocks c.connect-came.ensures.done c.connect-came.ensures.refused) in
    let calls = rw (c.address-address.ensures.value, c.running.ensures, c.requires.operation, out) at c.give.ensures.kept in
    let link = rw (c.source_of-partner.ensures, c.as_slice.ensures.value) at c.connect-came.ensures.state in
    let log = c.log_connect.ensures ∙ (sym (connected_log asked came blocks c.self.inside.units c.self.inside.log) ∙ ap (λ answer. connect_log asked answer c.self.inside.units c.self.inside.log) out) in
    let made = c.count_after-self-inside.ensures ∙ (sym (connected_count came blocks c.self.inside.made) ∙ ap (λ answer. count_after answer c.self.inside.made) out) in
    rw (← c.self.view_is) (rw (calls, link, log, made) refl)

pub returns-clause-frames : goal.returns-clause-frames
returns-clause-frames g c =
    let out = rw c.source_of-partner.ensures at (came_as c.connect-came.result _ c.connect-came.new.answer.items c.connect-came.ensures.done c.connect-came.ensures.refused) in
    rw (← c.self.view_is) (rw (c.address-address.ensures.value, c.running.ensures, c.requires.operation, out) at c.give.ensures.frames)

pub returns-clause-sendable : goal.returns-clause-sendable
returns-clause-sendable g c =
    let out = rw c.source_of-partner.ensures at (came_as c.connect-came.result _ c.connect-came.new.answer.items c.connect-came.ensures.done c.connect-came.ensures.refused) in
    let sendable = rw (c.address-address.ensures.value, c.running.ensures, c.requires.operation, out) at c.give.ensures.sendable in
    rw (← c.self.view_is) (sendable, tt)
