-- A Read Implicit is answered; one that names the relation shows that the controller is alive.
use Rattle.std.proofs.Common.{refl, sym, ap, ◌∙◌}
use Rattle.relations.specs.Phases.{answered}
use Rattle.device_core.specs.Handled.{implicitly, partner_of}
use Rattle.device_core.proofs.Served.{came_as, same_moving}
use Rattle.device_core.proofs.device.Device.read_implicit.Goals as goal

pub returns-clause-state : goal.returns-clause-state
returns-clause-state g c =
    let came = c.read_implicit-came.result in
    let blocks = c.read_implicit-came.new.answer.items in
    let out = rw c.running-settings.ensures at (came_as came _ blocks c.read_implicit-came.ensures.done c.read_implicit-came.ensures.refused) in
    let calls = rw (c.is_kept-is_stored.ensures, c.address-address.ensures.value, c.running.ensures, c.requires.operation, out) at c.give_if.ensures.kept in
    let moving = implicitly (partner_of c.args.serving.now.caller.now) c.self.inside.relation c.args.serving.now.blocks.now in
    let named = sym (same_moving moving came blocks) ∙ ap (answered moving) out in
    let link = rw (c.source_of.ensures, c.names_relation-is_named.ensures, c.uuid.ensures, named) at c.hear_controller.ensures in
    rw (← c.self.view_is) (rw (calls, link) refl)

pub returns-clause-frames : goal.returns-clause-frames
returns-clause-frames g c =
    let came = c.read_implicit-came.result in
    let out = rw c.running-settings.ensures at (came_as came _ c.read_implicit-came.new.answer.items c.read_implicit-came.ensures.done c.read_implicit-came.ensures.refused) in
    rw (← c.self.view_is) (rw (c.address-address.ensures.value, c.running.ensures, c.requires.operation, out) at c.give_if.ensures.frames)

pub returns-clause-sendable : goal.returns-clause-sendable
returns-clause-sendable g c =
    let came = c.read_implicit-came.result in
    let out = rw c.running-settings.ensures at (came_as came _ c.read_implicit-came.new.answer.items c.read_implicit-came.ensures.done c.read_implicit-came.ensures.refused) in
    let sendable = rw (c.address-address.ensures.value, c.running.ensures, c.requires.operation, out) at c.give_if.ensures.sendable in
    rw (← c.self.view_is) (sendable, tt)
