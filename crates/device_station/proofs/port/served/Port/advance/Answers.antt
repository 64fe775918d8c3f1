-- A piece of work is fetched.
use Rattle.std.proofs.Common.{◌+◌, ◌∙◌, drop, refl, subst, sym, ap, arith}
use Rattle.std.proofs.lemmas.List.{drop_all}
use Rattle.settings_journal.specs.settings_store.State.{Values}
use Rattle.device_station.specs.port.Pace.{IsPaced}
use Rattle.device_station.specs.port.Served.{advanced_both}
use Rattle.device_station.specs.contracts.port.served.Port.{the_view}
use Rattle.device_station.proofs.PortLeft.{is_left}
use Rattle.device_station.proofs.PortStages.{idle_of}
use Rattle.device_station.proofs.ServedFetching.{after_none, after_own, after_work, same_device, with_port}
use Rattle.device_station.proofs.ServedPacing.{some_paced}
use Rattle.device_station.proofs.port.served.Port.advance.Goals as goal

pub invariant_of-self : goal.invariant_of-self
invariant_of-self c =
    let all = c.self.inside in
    let frames = all.own.frames in
    subst (λ (v : Values). IsPaced all.rest all.limit v all.services (drop all.frames_past frames))
    (sym (ap (λ d. d.live.values) (same_device all.port c.advance.new.self c.advance.ensures))) c.self.invariant

pub invariant_of-self-then-self-len : goal.invariant_of-self-then-self-len
invariant_of-self-then-self-len c =
    let all = c.self.inside in
    let frames = all.own.frames in
    let some = is_left all.frames_past frames (omega (arith, c.if-self-len.true, c.len.ensures)) in
    some_paced all.rest all.limit all.port.device.live.values all.services (drop all.frames_past frames) (drop (all.frames_past + 1) frames) some c.self.invariant

pub returns-then-has_work : goal.returns-then-has_work
returns-then-has_work c =
    let all = c.self.inside in
    ap (with_port (the_view all)) c.advance.ensures ∙ after_work (the_view all) (sym c.has_work.ensures ∙ c.if-has_work.true) ∙ ap advanced_both c.self.view_is

pub returns-then-self-len : goal.returns-then-self-len
returns-then-self-len c =
    let all = c.self.inside in
    let frames = all.own.frames in
    let idle = idle_of all.port.calls all.port.frames (sym c.has_work.ensures ∙ c.if-has_work.false) in
    after_own (the_view all) all.frames_past frames idle.0 idle.1 refl ∙ ap advanced_both c.self.view_is

pub returns-else-self-len : goal.returns-else-self-len
returns-else-self-len c =
    let all = c.self.inside in
    let frames = all.own.frames in
    let idle = idle_of all.port.calls all.port.frames (sym c.has_work.ensures ∙ c.if-has_work.false) in
    let none = drop_all all.frames_past frames (omega (arith, c.if-self-len.false, c.len.ensures)) in
    sym c.self.view_is ∙ after_none (the_view all) idle.0 idle.1 none ∙ ap advanced_both c.self.view_is
