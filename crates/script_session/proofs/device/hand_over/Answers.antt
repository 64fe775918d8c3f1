use Rattle.std.proofs.Common.{◌∷◌, ◌+◌, ◌≤◌, drop, length, sym, ap, subst, ◌∙◌, ◌++◌, arith}
use Rattle.std.proofs.lemmas.List.{drop_more}
use Rattle.std.proofs.lemmas.Bool.{false≢true}
use Rattle.device_frames.specs.declared.event.Event.TheVariants as event
use Rattle.flash_model.specs.Memory.{is_powerless}
use Rattle.script_session.specs.Ends.{device_run, frames_for_device, octets_of}
use Rattle.script_session.proofs.Ticking.{IsHanding, handing_on, handed_all, no_frames}
use Rattle.script_session.proofs.device.hand_over.Goals as goal

pub returns-then-is_lost-clause-handed : goal.returns-then-is_lost-clause-handed
returns-then-is_lost-clause-handed c station runs =
    let handing = c.loop-frame.invariant.1 station runs in
    let stepped = c.step.ensures.steps handing.0 handing.1.runs in
    absurd (false≢true (sym stepped.runs.reliable.0 ∙ sym (ap is_powerless (c.flash.ensures ∙ ap (λ d. d.flash) c.device.ensures)) ∙ sym c.is_lost.ensures ∙ c.if-is_lost.true))

pub loop-frame-preserved : goal.loop-frame-preserved
loop-frame-preserved c = (
  c.step.ensures.same ∙ c.loop-frame.invariant.0,
  λ station runs.
      let handing = c.loop-frame.invariant.1 station runs in
      let here = drop_more c.args.frames.now c.loop-frame.frame-index c.frame-item.result c.loop-frame-test.true ∙ ap (λ f. f ∷ drop (c.loop-frame.frame-index + 1) c.args.frames.now) (sym c.frame-item.is) in
      let first = subst (λ left. IsHanding (device_run station (frames_for_device (octets_of c.args.frames.now))) (frames_for_device (octets_of left)) handing.0 c.loop-frame.device c.args.to_controller.now.items c.loop-frame.to_controller.items) here handing.1 in
      let most : length c.as_slice.result.now ≤ 1518 = c.as_slice.ensures.most in
      let few : length c.as_slice.result.now ≤ 1519 = omega arith in
      let event_is = ap (λ octets. event.Frame octets) (c.of.ensures.whole few) ∙ ap (λ items. event.Frame (record { items = items })) c.as_slice.ensures.value in
      let stepped = rw event_is at (c.step.ensures.steps handing.0 first.runs) in (
        _,
        handing_on _ (event.Frame (record { items = c.frame-item.result.items })) _ handing.0 _ _ _ _ _ first stepped.runs
            (c.in_ok-append_all.ensures ∙ ap (λ frames. octets_of c.loop-frame.to_controller.items ++ frames) stepped.frames),
      ),
)

pub returns-clause-handed : goal.returns-clause-handed
returns-clause-handed c station runs =
    let handing = c.loop-frame.invariant.1 station runs in
    handed_all _ _ handing.0 _ _ _ (no_frames c.args.frames.now c.loop-frame.frame-index c.loop-frame-test.false) handing.1
