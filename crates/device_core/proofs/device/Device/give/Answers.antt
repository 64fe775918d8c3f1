-- An input is given, or refused.
use Rattle.std.proofs.Common.{◌≡◌, true, false, is_some, refl, sym, ◌∙◌}
use Rattle.relations.specs.Exchanged.{given_to}
use Rattle.device_core.proofs.Exchanged.{input_done, input_leaves, input_refused}
use Rattle.device_core.proofs.device.Device.give.Goals as goal
use Rattle.device_core.proofs.device.Device.give.Goals.{then-give, else-give}

pub returns-clause-state : goal.returns-clause-state
returns-clause-state g c =
    let old = c.args.self.now in
    let flow = given_to c.args.slot c.args.subslot c.args.value.now old.live.rest.link in
    rw (input_leaves old.station old.live flow) (rw (← c.self.view_is) (rw c.give.ensures.state refl))

pub returns-clause-note : goal.returns-clause-note
returns-clause-note g c =
    let old = c.args.self.now in
    let flow = given_to c.args.slot c.args.subslot c.args.value.now old.live.rest.link in
    elim c.if-give.branch [
      | then-give w ↦
          let some : is_some flow ≡ true = rw (← c.self.view_is) (sym c.give.ensures.done ∙ w.if-give.true) in
          w.result-is ∙ sym (input_done old.station old.live flow some)
      | else-give w ↦
          let none : is_some flow ≡ false = rw (← c.self.view_is) (sym c.give.ensures.done ∙ w.if-give.false) in
          w.result-is ∙ sym (input_refused old.station old.live flow none)
    ]

pub returns-clause-steady : goal.returns-clause-steady
returns-clause-steady g c steady is =
    let old = rw (← c.self.view_is) at is in
    record { relation = c.give.ensures.steady steady old.relation; unasked = old.unasked; dark = old.dark }
