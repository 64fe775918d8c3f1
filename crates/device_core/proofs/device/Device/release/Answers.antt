-- A Release is answered, and logged if it ended the relation.
use Rattle.std.proofs.Common.{ℕ, List, Option, refl, sym, ap, ◌∙◌}
use Rattle.relations.specs.RelationState.{uuid_of}
use Rattle.device_core.specs.Log.{release_log}
use Rattle.device_core.specs.Asking.{left_asked, released_by}
use Rattle.device_core.proofs.Logged.{released_log, released_uuid}
use Rattle.device_core.proofs.Served.{came_as}
use Rattle.device_core.proofs.device.Device.release.Goals as goal

pub returns-clause-state : goal.returns-clause-state
returns-clause-state g c =
    let came = c.release-came.result in
    let blocks = c.release-came.new.answer.items in
    let uuid = uuid_of c.self.inside.relation in
    let out = came_as came _ blocks c.release-came.ensures.done c.release-came.ensures.refused in
    let calls = rw (c.address-address.ensures.value, c.running.ensures, c.requires.operation, out) at c.give.ensures.kept in
    let logged = rw c.uuid_of-uuid.ensures at c.log_release.ensures in
    let log = logged ∙ (sym (released_log uuid came blocks c.self.inside.units c.self.inside.log) ∙ ap (λ answer. release_log uuid answer c.self.inside.units c.self.inside.log) out) in
    let left = rw c.uuid_of-uuid.ensures at c.leave_released.ensures in
    let gone = left ∙ (ap (λ (u : Option (List ℕ)). left_asked u c.self.inside.asked) (sym (released_uuid came blocks uuid) ∙ ap (λ answer. released_by answer uuid) out)) in
    rw (← c.self.view_is) (rw (calls, c.release-came.ensures.state, log, gone) refl)

pub returns-clause-frames : goal.returns-clause-frames
returns-clause-frames g c =
    let out = came_as c.release-came.result _ c.release-came.new.answer.items c.release-came.ensures.done c.release-came.ensures.refused in
    rw (← c.self.view_is) (rw (c.address-address.ensures.value, c.running.ensures, c.requires.operation, out) at c.give.ensures.frames)

pub returns-clause-sendable : goal.returns-clause-sendable
returns-clause-sendable g c =
    let out = came_as c.release-came.result _ c.release-came.new.answer.items c.release-came.ensures.done c.release-came.ensures.refused in
    let sendable = rw (c.address-address.ensures.value, c.running.ensures, c.requires.operation, out) at c.give.ensures.sendable in
    rw (← c.self.view_is) (sendable, tt)
