-- A repeat of the call that is asked is dropped, and any other call is new.
use Rattle.std.proofs.Common.{◌≡◌, true, false, [], map, refl, sym, ap, ◌∙◌}
use Rattle.std.proofs.lemmas.Bool.{cond-true, cond-false}
use Rattle.rpc_core.specs.Call.{asked}
use Rattle.asked_records.specs.Asked.{is_repeat}
use Rattle.device_core.proofs.Steps.{moves_steps}
use Rattle.device_core.proofs.device.Device.serve_unanswered.Goals as goal

pub returns-then-is_repeat-clause-steps : goal.returns-then-is_repeat-clause-steps
returns-then-is_repeat-clause-steps g c = λ heard is.
    let old = c.args.self.now in
    let header = (asked c.args.serving.now.call.now).header in
    let again : is_repeat header.activity header.sequence old.live.rest.asked ≡ true =
    rw (← c.self.view_is) (sym c.is_repeat.ensures ∙ c.if-is_repeat.true) in
    moves_steps g.F.Flash old _ heard old.live.rest [] _ _ c.requires.stored (is ∙ cond-true _ _ _ again)
    refl (ap (map (λ frame. frame.items)) c.requires.empty) refl tt

pub returns-clause-steps : goal.returns-clause-steps
returns-clause-steps g c = λ heard is.
    let old = c.args.self.now in
    let header = (asked c.args.serving.now.call.now).header in
    let unlike : is_repeat header.activity header.sequence old.live.rest.asked ≡ false =
    rw (← c.self.view_is) (sym c.is_repeat.ensures ∙ c.if-is_repeat.false) in
    c.serve_new.ensures.steps heard (is ∙ cond-false _ _ _ unlike)
