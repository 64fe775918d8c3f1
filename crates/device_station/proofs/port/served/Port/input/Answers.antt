-- The device takes the input, in which services that rest have no part.
use Rattle.std.proofs.Common.{◌-◌, List, ℕ, Ok, drop, take, subst, arith}
use Rattle.arrayvec.specs.ArrayVec.{ArrayVec}
use Rattle.device_frames.specs.declared.event.Event.TheVariants.{Application}
use Rattle.device_frames.specs.declared.local.Local.TheVariants.{Input}
use Rattle.device_frames.specs.declared.note.Note.{Note}
use Rattle.device_station.specs.port.Pace.{caught_up}
use Rattle.device_station.specs.port.Steps.{Takes}
use Rattle.device_station.specs.port.ServedSteps.{AnswersBoth}
use Rattle.device_station.proofs.PortStages.{is_free}
use Rattle.device_station.proofs.ServedBarring.{nothing_waits}
use Rattle.device_station.proofs.ServedComposed.{input_calm, input_paced}
use Rattle.device_station.proofs.ServedPacing.{resting_of}
use Rattle.device_station.proofs.ServedTicking.{at}
use Rattle.device_station.proofs.port.served.Port.input.Goals.{in-Done, in_default}
use Rattle.device_station.proofs.port.served.Port.input.Goals as goal

pub invariant_of-self : goal.invariant_of-self
invariant_of-self c =
    let all = c.self.inside in
    input_paced all.rest all.limit all.port c.give.new.self all.services (drop all.frames_past all.own.frames) c.args.slot c.args.subslot (record { items = c.at_most.result.now }) c.give.result c.give.ensures.takes c.self.invariant

pub returns : goal.returns
returns c =
    let all = c.self.inside in
    let laws = c.quiet_units_are_ticks.ensures in
    let frames = drop all.frames_past all.own.frames in
    let value : ArrayVec ℕ = record { items = take 1519 c.args.octets.now } in
    let new = c.give.new.self in
    let free = is_free new c.give.ensures.free in
    let takes = subst (λ (b : List ℕ). Takes all.port (Application (Input c.args.slot c.args.subslot (record { items = b }))) c.give.result new) c.at_most.ensures.value c.give.ensures.takes in
    let fetched = (resting_of all.rest all.limit all.port.device.live.values all.services frames (omega (arith, c.if-self-eq0.false)) c.self.invariant).fetched in
    let before = at all.serves all.port (caught_up (all.limit - all.rest) all.services) frames in
    let after = at all.serves new (caught_up (all.limit - all.rest) all.services) frames in
    let answers = input_calm laws.count laws.news all.rest all.limit all.serves all.port new all.services frames c.args.slot c.args.subslot value c.give.result (omega (arith, c.if-self-eq0.false)) c.self.invariant
    (c.is_steady.ensures.open c.if-not-is_steady.false) takes in
    let none = nothing_waits new.calls new.frames frames free.calls free.frames fetched in
    rw (← c.self.view_is) (elim c.match-give.branch [
      | in-Done w ↦ rw w.result-is (subst (λ (n : Note). AnswersBoth before (Application (Input c.args.slot c.args.subslot value)) (Ok n) after) w.in-Done.is answers, none)
      | in_default w ↦ rw w.result-is answers
    ])
