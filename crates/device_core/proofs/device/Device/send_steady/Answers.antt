-- Units up to the next one that brings inputs, while only the timers of an exchange run.
use Rattle.std.proofs.Common.{◌≡◌, ◌-◌, ◌<◌, List, ℕ, length, refl, ap, ◌∙◌}
use Rattle.relations.specs.Leaps.{NothingDueFor}
use Rattle.relations.specs.Runs.{units_over}
use Rattle.relations.specs.Steady.{inputs_alone}
use Rattle.relations.specs.Timers.{due_of}
use Rattle.device_core.proofs.SteadyUnits.{one_frame, only_the_last, rests, sends, steady_due, steady_later}
use Rattle.device_core.proofs.device.Device.send_steady.Goals as goal

pub returns-clause-device : goal.returns-clause-device
returns-clause-device g c =
    let old = c.args.self.now in
    let is = c.requires.steady in
    let inputs = c.args.steady.now.inputs in
    let fits : old.live.rest.units < 18446744073709551616 = rw (← c.self.view_is) c.units_later-self-inside.ensures.fits in
    let none : NothingDueFor (inputs - 1) old.live.rest.link = rw (← c.self.view_is) c.send_steady.ensures.nothing in
    let last : due_of (units_over (inputs - 1) old.live.rest.link) ≡ inputs_alone = rw (← c.self.view_is) c.send_steady.ensures.last in
    rw (sends old.station old.live inputs c.send_steady.ensures.some fits none is.unasked last)
    (rw (steady_later old.live inputs is.dark is.unasked)
    (rw (← c.self.view_is) (rw (c.units_later-self-inside.ensures.value, c.send_steady.ensures.state) refl)))

pub returns-clause-frames : goal.returns-clause-frames
returns-clause-frames g c =
    let old = c.args.self.now in
    let is = c.requires.steady in
    let inputs = c.args.steady.now.inputs in
    let fits : old.live.rest.units < 18446744073709551616 = rw (← c.self.view_is) c.units_later-self-inside.ensures.fits in
    let none : NothingDueFor (inputs - 1) old.live.rest.link = rw (← c.self.view_is) c.send_steady.ensures.nothing in
    let last : due_of (units_over (inputs - 1) old.live.rest.link) ≡ inputs_alone = rw (← c.self.view_is) c.send_steady.ensures.last in
    rw (sends old.station old.live inputs c.send_steady.ensures.some fits none is.unasked last)
    (rw (← c.self.view_is) (rw (← c.units_later-self-inside.ensures.value, ← c.send_steady.ensures.state) c.send_inputs.ensures.frames))

pub returns-clause-last : goal.returns-clause-last
returns-clause-last g c =
    let old = c.args.self.now in
    let inputs = c.args.steady.now.inputs in
    let fits : old.live.rest.units < 18446744073709551616 = rw (← c.self.view_is) c.units_later-self-inside.ensures.fits in
    let none : NothingDueFor (inputs - 1) old.live.rest.link = rw (← c.self.view_is) c.send_steady.ensures.nothing in
    only_the_last old.station old.live inputs c.send_steady.ensures.some fits none c.requires.steady.unasked

pub returns-clause-steady : goal.returns-clause-steady
returns-clause-steady g c some =
    let is = rw (← c.self.view_is) at c.requires.steady in
    record { relation = c.send_steady.ensures.steady some; unasked = is.unasked; dark = is.dark }

pub returns-clause-due : goal.returns-clause-due
returns-clause-due g c some = steady_due _ _ (returns-clause-steady g c some) (c.send_steady.ensures.due some)

pub returns-clause-one : goal.returns-clause-one
returns-clause-one g c = ap (λ (frames : List (List ℕ)). length frames) c.send_inputs.ensures.frames ∙ one_frame _ _ _ c.send_steady.ensures.stands

pub returns-clause-value : goal.returns-clause-value
returns-clause-value g c =
    let is = rw (← c.self.view_is) at c.requires.steady in
    rests c.send_steady.new.steady c.self.inside.lamp c.self.inside.asked.standing c.send_steady.new.self is.dark is.unasked c.send_steady.ensures.value
