-- It is refused, or the modules change.
use Rattle.std.proofs.Common.{◌≡◌, ◌&&◌, nat_lt, true, false, List, Option, map, is_some, option_map, refl, sym, ap, ◌∙◌}
use Rattle.lldp.specs.Views.{peer_as}
use Rattle.pn_values.specs.declared.real.RealModule.{RealModule}
use Rattle.module_diff.specs.declared.changes.RealChange.{RealChange}
use Rattle.module_diff.specs.Changes.{affected_by, pulled}
use Rattle.module_diff.specs.Plugged.{submodule_ident}
use Rattle.relations.specs.Plugging.{is_crowded}
use Rattle.device_frames.specs.Sent.{bytes_of}
use Rattle.device_core.specs.Modules.{outside, pull_of}
use Rattle.device_core.proofs.Changing.{can_pull_is, modules_changed, modules_crowded, modules_refused, state_changed, outside_is}
use Rattle.device_core.proofs.Sendable.{none_sendable}
use Rattle.device_core.proofs.device.Device.pull.Goals as goal

pub returns-then-not-can_pull-clause-state : goal.returns-then-not-can_pull-clause-state
returns-then-not-can_pull-clause-state g c =
    let old = c.args.self.now in
    let real = old.live.rest.real.modules.items in
    let made : Option (List RealModule) = outside c.args.slot (pulled c.args.slot c.args.subslot real) in
    let change : RealChange = pull_of real c.args.slot c.args.subslot in
    let judged : (nat_lt 0 c.args.slot && is_some (submodule_ident real c.args.slot c.args.subslot)) ≡ false = rw (← c.self.view_is) (sym c.can_pull.ensures ∙ c.if-not-can_pull.true) in
    let none : is_some made ≡ false = can_pull_is c.args.slot c.args.subslot real ∙ judged in
    let it = modules_refused old.station old.live change made none in
    rw it refl

pub returns-then-not-can_pull-clause-frames : goal.returns-then-not-can_pull-clause-frames
returns-then-not-can_pull-clause-frames g c =
    let old = c.args.self.now in
    let real = old.live.rest.real.modules.items in
    let made : Option (List RealModule) = outside c.args.slot (pulled c.args.slot c.args.subslot real) in
    let change : RealChange = pull_of real c.args.slot c.args.subslot in
    let judged : (nat_lt 0 c.args.slot && is_some (submodule_ident real c.args.slot c.args.subslot)) ≡ false = rw (← c.self.view_is) (sym c.can_pull.ensures ∙ c.if-not-can_pull.true) in
    let none : is_some made ≡ false = can_pull_is c.args.slot c.args.subslot real ∙ judged in
    let it = modules_refused old.station old.live change made none in
    ap (map (λ frame. frame.items)) c.requires.empty ∙ sym (ap (λ e. map (bytes_of old.station.identity) e.sent) it)

pub returns-then-not-can_pull-clause-sendable : goal.returns-then-not-can_pull-clause-sendable
returns-then-not-can_pull-clause-sendable g c =
    let old = c.args.self.now in
    let real = old.live.rest.real.modules.items in
    let made : Option (List RealModule) = outside c.args.slot (pulled c.args.slot c.args.subslot real) in
    let change : RealChange = pull_of real c.args.slot c.args.subslot in
    let judged : (nat_lt 0 c.args.slot && is_some (submodule_ident real c.args.slot c.args.subslot)) ≡ false = rw (← c.self.view_is) (sym c.can_pull.ensures ∙ c.if-not-can_pull.true) in
    let none : is_some made ≡ false = can_pull_is c.args.slot c.args.subslot real ∙ judged in
    let it = modules_refused old.station old.live change made none in
    none_sendable old.station.identity _ (ap (λ e. e.sent) it)

pub returns-then-not-can_pull-clause-note : goal.returns-then-not-can_pull-clause-note
returns-then-not-can_pull-clause-note g c =
    let old = c.args.self.now in
    let real = old.live.rest.real.modules.items in
    let made : Option (List RealModule) = outside c.args.slot (pulled c.args.slot c.args.subslot real) in
    let change : RealChange = pull_of real c.args.slot c.args.subslot in
    let judged : (nat_lt 0 c.args.slot && is_some (submodule_ident real c.args.slot c.args.subslot)) ≡ false = rw (← c.self.view_is) (sym c.can_pull.ensures ∙ c.if-not-can_pull.true) in
    let none : is_some made ≡ false = can_pull_is c.args.slot c.args.subslot real ∙ judged in
    let it = modules_refused old.station old.live change made none in
    sym (ap (λ e. e.note) it)

pub returns-then-is_refused-clause-state : goal.returns-then-is_refused-clause-state
returns-then-is_refused-clause-state g c =
    let old = c.args.self.now in
    let real = old.live.rest.real.modules.items in
    let made : Option (List RealModule) = outside c.args.slot (pulled c.args.slot c.args.subslot real) in
    let change : RealChange = pull_of real c.args.slot c.args.subslot in
    let crowded : is_crowded (affected_by change) old.live.rest.link ≡ true =
    rw (c.affected.ensures, c.pull_of-change.ensures) at (sym c.is_refused.ensures ∙ c.if-is_refused.true) in
    let it = modules_crowded old.station old.live change made crowded in
    rw it refl

pub returns-then-is_refused-clause-frames : goal.returns-then-is_refused-clause-frames
returns-then-is_refused-clause-frames g c =
    let old = c.args.self.now in
    let real = old.live.rest.real.modules.items in
    let made : Option (List RealModule) = outside c.args.slot (pulled c.args.slot c.args.subslot real) in
    let change : RealChange = pull_of real c.args.slot c.args.subslot in
    let crowded : is_crowded (affected_by change) old.live.rest.link ≡ true =
    rw (c.affected.ensures, c.pull_of-change.ensures) at (sym c.is_refused.ensures ∙ c.if-is_refused.true) in
    let it = modules_crowded old.station old.live change made crowded in
    ap (map (λ frame. frame.items)) c.requires.empty ∙ sym (ap (λ e. map (bytes_of old.station.identity) e.sent) it)

pub returns-then-is_refused-clause-sendable : goal.returns-then-is_refused-clause-sendable
returns-then-is_refused-clause-sendable g c =
    let old = c.args.self.now in
    let real = old.live.rest.real.modules.items in
    let made : Option (List RealModule) = outside c.args.slot (pulled c.args.slot c.args.subslot real) in
    let change : RealChange = pull_of real c.args.slot c.args.subslot in
    let crowded : is_crowded (affected_by change) old.live.rest.link ≡ true =
    rw (c.affected.ensures, c.pull_of-change.ensures) at (sym c.is_refused.ensures ∙ c.if-is_refused.true) in
    let it = modules_crowded old.station old.live change made crowded in
    none_sendable old.station.identity _ (ap (λ e. e.sent) it)

pub returns-then-is_refused-clause-note : goal.returns-then-is_refused-clause-note
returns-then-is_refused-clause-note g c =
    let old = c.args.self.now in
    let real = old.live.rest.real.modules.items in
    let made : Option (List RealModule) = outside c.args.slot (pulled c.args.slot c.args.subslot real) in
    let change : RealChange = pull_of real c.args.slot c.args.subslot in
    let crowded : is_crowded (affected_by change) old.live.rest.link ≡ true =
    rw (c.affected.ensures, c.pull_of-change.ensures) at (sym c.is_refused.ensures ∙ c.if-is_refused.true) in
    let it = modules_crowded old.station old.live change made crowded in
    sym (ap (λ e. e.note) it)

pub returns-clause-state : goal.returns-clause-state
returns-clause-state g c =
    let old = c.args.self.now in
    let real = old.live.rest.real.modules.items in
    let made : Option (List RealModule) = outside c.args.slot (pulled c.args.slot c.args.subslot real) in
    let change : RealChange = pull_of real c.args.slot c.args.subslot in
    let judged : (nat_lt 0 c.args.slot && is_some (submodule_ident real c.args.slot c.args.subslot)) ≡ true = rw (← c.self.view_is) (sym c.can_pull.ensures ∙ c.if-not-can_pull.false) in
    let some : is_some made ≡ true = can_pull_is c.args.slot c.args.subslot real ∙ judged in
    let fits : is_crowded (affected_by change) old.live.rest.link ≡ false =
    rw (c.affected.ensures, c.pull_of-change.ensures) at (sym c.is_refused.ensures ∙ c.if-is_refused.false) in
    let it = modules_changed old.station old.live change made real some fits in
    rw (it, outside_is c.args.slot (pulled c.args.slot c.args.subslot real) real some) (rw (← c.self.view_is) (c.change.ensures.state ∙ state_changed c.self.inside.store.flash (record { identity = c.self.inside.identity; real = c.self.inside.given; options = c.self.inside.options; named = c.self.inside.named }) c.self.inside.store.values (record { lamp = c.self.inside.lamp; calls = c.self.inside.answers.kept; link = c.self.inside.relation; units = c.self.inside.units; is_running = c.self.inside.is_running; statuses = c.self.inside.statuses.items; log = c.self.inside.log; peer = option_map peer_as c.self.inside.neighbour; diagnoses = c.self.inside.diagnoses; made = c.self.inside.made; real = c.self.inside.real; asked = c.self.inside.asked }) c.pull_of-change.result _ c.pull.new.real.modules.items _ c.pull_of-change.ensures c.pull.ensures.state))

pub returns-clause-frames : goal.returns-clause-frames
returns-clause-frames g c =
    let old = c.args.self.now in
    let real = old.live.rest.real.modules.items in
    let made : Option (List RealModule) = outside c.args.slot (pulled c.args.slot c.args.subslot real) in
    let change : RealChange = pull_of real c.args.slot c.args.subslot in
    let judged : (nat_lt 0 c.args.slot && is_some (submodule_ident real c.args.slot c.args.subslot)) ≡ true = rw (← c.self.view_is) (sym c.can_pull.ensures ∙ c.if-not-can_pull.false) in
    let some : is_some made ≡ true = can_pull_is c.args.slot c.args.subslot real ∙ judged in
    let fits : is_crowded (affected_by change) old.live.rest.link ≡ false =
    rw (c.affected.ensures, c.pull_of-change.ensures) at (sym c.is_refused.ensures ∙ c.if-is_refused.false) in
    let it = modules_changed old.station old.live change made real some fits in
    rw (it, outside_is c.args.slot (pulled c.args.slot c.args.subslot real) real some) (rw (← c.self.view_is) (rw (c.pull_of-change.ensures, c.pull.ensures.state) at c.change.ensures.frames))

pub returns-clause-sendable : goal.returns-clause-sendable
returns-clause-sendable g c =
    let old = c.args.self.now in
    let real = old.live.rest.real.modules.items in
    let made : Option (List RealModule) = outside c.args.slot (pulled c.args.slot c.args.subslot real) in
    let change : RealChange = pull_of real c.args.slot c.args.subslot in
    let judged : (nat_lt 0 c.args.slot && is_some (submodule_ident real c.args.slot c.args.subslot)) ≡ true = rw (← c.self.view_is) (sym c.can_pull.ensures ∙ c.if-not-can_pull.false) in
    let some : is_some made ≡ true = can_pull_is c.args.slot c.args.subslot real ∙ judged in
    let fits : is_crowded (affected_by change) old.live.rest.link ≡ false =
    rw (c.affected.ensures, c.pull_of-change.ensures) at (sym c.is_refused.ensures ∙ c.if-is_refused.false) in
    let it = modules_changed old.station old.live change made real some fits in
    rw (it, outside_is c.args.slot (pulled c.args.slot c.args.subslot real) real some) (rw (← c.self.view_is) (rw (c.pull_of-change.ensures, c.pull.ensures.state) at c.change.ensures.sendable))

pub returns-clause-note : goal.returns-clause-note
returns-clause-note g c =
    let old = c.args.self.now in
    let real = old.live.rest.real.modules.items in
    let made : Option (List RealModule) = outside c.args.slot (pulled c.args.slot c.args.subslot real) in
    let change : RealChange = pull_of real c.args.slot c.args.subslot in
    let judged : (nat_lt 0 c.args.slot && is_some (submodule_ident real c.args.slot c.args.subslot)) ≡ true = rw (← c.self.view_is) (sym c.can_pull.ensures ∙ c.if-not-can_pull.false) in
    let some : is_some made ≡ true = can_pull_is c.args.slot c.args.subslot real ∙ judged in
    let fits : is_crowded (affected_by change) old.live.rest.link ≡ false =
    rw (c.affected.ensures, c.pull_of-change.ensures) at (sym c.is_refused.ensures ∙ c.if-is_refused.false) in
    let it = modules_changed old.station old.live change made real some fits in
    c.change.ensures.note ∙ sym (ap (λ e. e.note) it)
