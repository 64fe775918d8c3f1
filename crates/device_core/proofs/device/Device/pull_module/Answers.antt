-- It is refused, or the modules change.
use Rattle.std.proofs.Common.{◌≡◌, ◌&&◌, nat_lt, true, false, List, Option, map, is_some, refl, sym, ap, ◌∙◌}
use Rattle.pn_values.specs.declared.real.RealModule.{RealModule}
use Rattle.module_diff.specs.declared.changes.RealChange.{RealChange}
use Rattle.module_diff.specs.Changes.{affected_by, slot_pulled}
use Rattle.module_diff.specs.Plugged.{module_in}
use Rattle.relations.specs.Plugging.{is_crowded}
use Rattle.device_frames.specs.Sent.{bytes_of}
use Rattle.device_core.specs.Modules.{outside, slot_pull_of}
use Rattle.device_core.proofs.Changing.{can_pull_module_is, modules_changed, modules_crowded, modules_refused, outside_is}
use Rattle.device_core.proofs.Sendable.{none_sendable}
use Rattle.device_core.proofs.device.Device.pull_module.Goals as goal

pub returns-then-not-can_pull_module-clause-state : goal.returns-then-not-can_pull_module-clause-state
returns-then-not-can_pull_module-clause-state g c =
    let old = c.args.self.now in
    let real = old.live.rest.real.modules.items in
    let made : Option (List RealModule) = outside c.args.slot (slot_pulled c.args.slot real) in
    let change : RealChange = slot_pull_of real c.args.slot in
    let judged : (nat_lt 0 c.args.slot && is_some (module_in real c.args.slot)) ≡ false = rw (← c.self.view_is) (sym c.can_pull_module.ensures ∙ c.if-not-can_pull_module.true) in
    let none : is_some made ≡ false = can_pull_module_is c.args.slot real ∙ judged in
    let it = modules_refused old.station old.live change made none in
    rw it refl

pub returns-then-not-can_pull_module-clause-frames : goal.returns-then-not-can_pull_module-clause-frames
returns-then-not-can_pull_module-clause-frames g c =
    let old = c.args.self.now in
    let real = old.live.rest.real.modules.items in
    let made : Option (List RealModule) = outside c.args.slot (slot_pulled c.args.slot real) in
    let change : RealChange = slot_pull_of real c.args.slot in
    let judged : (nat_lt 0 c.args.slot && is_some (module_in real c.args.slot)) ≡ false = rw (← c.self.view_is) (sym c.can_pull_module.ensures ∙ c.if-not-can_pull_module.true) in
    let none : is_some made ≡ false = can_pull_module_is c.args.slot real ∙ judged in
    let it = modules_refused old.station old.live change made none in
    ap (map (λ frame. frame.items)) c.requires.empty ∙ sym (ap (λ e. map (bytes_of old.station.identity) e.sent) it)

pub returns-then-not-can_pull_module-clause-sendable : goal.returns-then-not-can_pull_module-clause-sendable
returns-then-not-can_pull_module-clause-sendable g c =
    let old = c.args.self.now in
    let real = old.live.rest.real.modules.items in
    let made : Option (List RealModule) = outside c.args.slot (slot_pulled c.args.slot real) in
    let change : RealChange = slot_pull_of real c.args.slot in
    let judged : (nat_lt 0 c.args.slot && is_some (module_in real c.args.slot)) ≡ false = rw (← c.self.view_is) (sym c.can_pull_module.ensures ∙ c.if-not-can_pull_module.true) in
    let none : is_some made ≡ false = can_pull_module_is c.args.slot real ∙ judged in
    let it = modules_refused old.station old.live change made none in
    none_sendable old.station.identity _ (ap (λ e. e.sent) it)

pub returns-then-not-can_pull_module-clause-note : goal.returns-then-not-can_pull_module-clause-note
returns-then-not-can_pull_module-clause-note g c =
    let old = c.args.self.now in
    let real = old.live.rest.real.modules.items in
    let made : Option (List RealModule) = outside c.args.slot (slot_pulled c.args.slot real) in
    let change : RealChange = slot_pull_of real c.args.slot in
    let judged : (nat_lt 0 c.args.slot && is_some (module_in real c.args.slot)) ≡ false = rw (← c.self.view_is) (sym c.can_pull_module.ensures ∙ c.if-not-can_pull_module.true) in
    let none : is_some made ≡ false = can_pull_module_is c.args.slot real ∙ judged in
    let it = modules_refused old.station old.live change made none in
    sym (ap (λ e. e.note) it)

pub returns-then-is_refused-clause-state : goal.returns-then-is_refused-clause-state
returns-then-is_refused-clause-state g c =
    let old = c.args.self.now in
    let real = old.live.rest.real.modules.items in
    let made : Option (List RealModule) = outside c.args.slot (slot_pulled c.args.slot real) in
    let change : RealChange = slot_pull_of real c.args.slot in
    let crowded : is_crowded (affected_by change) old.live.rest.link ≡ true =
    rw (c.affected.ensures, c.pull_module_of-change.ensures) at (sym c.is_refused.ensures ∙ c.if-is_refused.true) in
    let it = modules_crowded old.station old.live change made crowded in
    rw it refl

pub returns-then-is_refused-clause-frames : goal.returns-then-is_refused-clause-frames
returns-then-is_refused-clause-frames g c =
    let old = c.args.self.now in
    let real = old.live.rest.real.modules.items in
    let made : Option (List RealModule) = outside c.args.slot (slot_pulled c.args.slot real) in
    let change : RealChange = slot_pull_of real c.args.slot in
    let crowded : is_crowded (affected_by change) old.live.rest.link ≡ true =
    rw (c.affected.ensures, c.pull_module_of-change.ensures) at (sym c.is_refused.ensures ∙ c.if-is_refused.true) in
    let it = modules_crowded old.station old.live change made crowded in
    ap (map (λ frame. frame.items)) c.requires.empty ∙ sym (ap (λ e. map (bytes_of old.station.identity) e.sent) it)

pub returns-then-is_refused-clause-sendable : goal.returns-then-is_refused-clause-sendable
returns-then-is_refused-clause-sendable g c =
    let old = c.args.self.now in
    let real = old.live.rest.real.modules.items in
    let made : Option (List RealModule) = outside c.args.slot (slot_pulled c.args.slot real) in
    let change : RealChange = slot_pull_of real c.args.slot in
    let crowded : is_crowded (affected_by change) old.live.rest.link ≡ true =
    rw (c.affected.ensures, c.pull_module_of-change.ensures) at (sym c.is_refused.ensures ∙ c.if-is_refused.true) in
    let it = modules_crowded old.station old.live change made crowded in
    none_sendable old.station.identity _ (ap (λ e. e.sent) it)

pub returns-then-is_refused-clause-note : goal.returns-then-is_refused-clause-note
returns-then-is_refused-clause-note g c =
    let old = c.args.self.now in
    let real = old.live.rest.real.modules.items in
    let made : Option (List RealModule) = outside c.args.slot (slot_pulled c.args.slot real) in
    let change : RealChange = slot_pull_of real c.args.slot in
    let crowded : is_crowded (affected_by change) old.live.rest.link ≡ true =
    rw (c.affected.ensures, c.pull_module_of-change.ensures) at (sym c.is_refused.ensures ∙ c.if-is_refused.true) in
    let it = modules_crowded old.station old.live change made crowded in
    sym (ap (λ e. e.note) it)

pub returns-clause-state : goal.returns-clause-state
returns-clause-state g c =
    let old = c.args.self.now in
    let real = old.live.rest.real.modules.items in
    let made : Option (List RealModule) = outside c.args.slot (slot_pulled c.args.slot real) in
    let change : RealChange = slot_pull_of real c.args.slot in
    let judged : (nat_lt 0 c.args.slot && is_some (module_in real c.args.slot)) ≡ true = rw (← c.self.view_is) (sym c.can_pull_module.ensures ∙ c.if-not-can_pull_module.false) in
    let some : is_some made ≡ true = can_pull_module_is c.args.slot real ∙ judged in
    let fits : is_crowded (affected_by change) old.live.rest.link ≡ false =
    rw (c.affected.ensures, c.pull_module_of-change.ensures) at (sym c.is_refused.ensures ∙ c.if-is_refused.false) in
    let it = modules_changed old.station old.live change made real some fits in
    rw (it, outside_is c.args.slot (slot_pulled c.args.slot real) real some) (rw (← c.self.view_is) (rw (c.change.ensures.state, c.pull_module_of-change.ensures, c.pull_module.ensures.state) refl))

pub returns-clause-frames : goal.returns-clause-frames
returns-clause-frames g c =
    let old = c.args.self.now in
    let real = old.live.rest.real.modules.items in
    let made : Option (List RealModule) = outside c.args.slot (slot_pulled c.args.slot real) in
    let change : RealChange = slot_pull_of real c.args.slot in
    let judged : (nat_lt 0 c.args.slot && is_some (module_in real c.args.slot)) ≡ true = rw (← c.self.view_is) (sym c.can_pull_module.ensures ∙ c.if-not-can_pull_module.false) in
    let some : is_some made ≡ true = can_pull_module_is c.args.slot real ∙ judged in
    let fits : is_crowded (affected_by change) old.live.rest.link ≡ false =
    rw (c.affected.ensures, c.pull_module_of-change.ensures) at (sym c.is_refused.ensures ∙ c.if-is_refused.false) in
    let it = modules_changed old.station old.live change made real some fits in
    rw (it, outside_is c.args.slot (slot_pulled c.args.slot real) real some) (rw (← c.self.view_is) (rw (c.pull_module_of-change.ensures, c.pull_module.ensures.state) at c.change.ensures.frames))

pub returns-clause-sendable : goal.returns-clause-sendable
returns-clause-sendable g c =
    let old = c.args.self.now in
    let real = old.live.rest.real.modules.items in
    let made : Option (List RealModule) = outside c.args.slot (slot_pulled c.args.slot real) in
    let change : RealChange = slot_pull_of real c.args.slot in
    let judged : (nat_lt 0 c.args.slot && is_some (module_in real c.args.slot)) ≡ true = rw (← c.self.view_is) (sym c.can_pull_module.ensures ∙ c.if-not-can_pull_module.false) in
    let some : is_some made ≡ true = can_pull_module_is c.args.slot real ∙ judged in
    let fits : is_crowded (affected_by change) old.live.rest.link ≡ false =
    rw (c.affected.ensures, c.pull_module_of-change.ensures) at (sym c.is_refused.ensures ∙ c.if-is_refused.false) in
    let it = modules_changed old.station old.live change made real some fits in
    rw (it, outside_is c.args.slot (slot_pulled c.args.slot real) real some) (rw (← c.self.view_is) (rw (c.pull_module_of-change.ensures, c.pull_module.ensures.state) at c.change.ensures.sendable))

pub returns-clause-note : goal.returns-clause-note
returns-clause-note g c =
    let old = c.args.self.now in
    let real = old.live.rest.real.modules.items in
    let made : Option (List RealModule) = outside c.args.slot (slot_pulled c.args.slot real) in
    let change : RealChange = slot_pull_of real c.args.slot in
    let judged : (nat_lt 0 c.args.slot && is_some (module_in real c.args.slot)) ≡ true = rw (← c.self.view_is) (sym c.can_pull_module.ensures ∙ c.if-not-can_pull_module.false) in
    let some : is_some made ≡ true = can_pull_module_is c.args.slot real ∙ judged in
    let fits : is_crowded (affected_by change) old.live.rest.link ≡ false =
    rw (c.affected.ensures, c.pull_module_of-change.ensures) at (sym c.is_refused.ensures ∙ c.if-is_refused.false) in
    let it = modules_changed old.station old.live change made real some fits in
    c.change.ensures.note ∙ sym (ap (λ e. e.note) it)
