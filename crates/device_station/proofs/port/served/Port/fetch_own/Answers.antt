-- The first frame of the services is the first of all, since the device has none.
use Rattle.std.proofs.Common.{◌≡◌, ◌+◌, ◌∙◌, [], drop, refl, subst, sym, ap, arith}
use Rattle.device_station.specs.port.Served.{Served, advanced_both}
use Rattle.device_station.specs.port.State.{waiting}
use Rattle.device_station.specs.contracts.port.served.Port.{the_view}
use Rattle.device_station.proofs.ServedFetching.{after_own, own_frames, own_waits}
use Rattle.device_station.proofs.PortLeft.{is_left, next_at}
use Rattle.device_station.proofs.ServedPacing.{some_paced}
use Rattle.device_station.proofs.port.served.Port.fetch_own.Goals as goal

pub invariant_of-self-2 : goal.invariant_of-self-2
invariant_of-self-2 c =
    let all = c.self.inside in
    let frames = all.own.frames in
    let some = is_left all.frames_past frames (omega (arith, c.if-past-len.false, c.len.ensures)) in
    some_paced all.rest all.limit all.port.device.live.values all.services (drop all.frames_past frames) (drop (all.frames_past + 1) frames) some c.self.invariant

pub invariant_of-self-3 : goal.invariant_of-self-3
invariant_of-self-3 c =
    let all = c.self.inside in
    let frames = all.own.frames in
    let some = is_left all.frames_past frames (omega (arith, c.if-past-len.false, c.len.ensures)) in
    some_paced all.rest all.limit all.port.device.live.values all.services (drop all.frames_past frames) (drop (all.frames_past + 1) frames) some c.self.invariant

pub returns : goal.returns
returns c =
    let all = c.self.inside in
    let frames = all.own.frames in
    let no_call = subst (λ (s : Served). s.port.calls ≡ []) (sym c.self.view_is) c.requires.calls in
    let no_frame = subst (λ (s : Served). s.port.frames ≡ []) (sym c.self.view_is) c.requires.frames in
    let next = next_at all.frames_past frames c.frame.result.now c.frame.ensures.at in
    let after = after_own (the_view all) all.frames_past frames no_call no_frame refl in (
      (
        refl,
        (λ _. tt),
        (
          rw (← c.self.view_is) (next.0, sym (own_frames (the_view all) no_frame) ∙ next.1),
          after ∙ ap advanced_both c.self.view_is,
          c.waiting_own.ensures ∙ own_waits all.port.calls all.port.frames (waiting [] (drop (all.frames_past + 1) frames)) no_call no_frame,
        ),
      ),
      record { fetches = tt; short = c.frame.ensures.short },
    )
