-- The call is asked, and what it displaces is refused, or it is refused itself while another one is asked.
use Rattle.std.proofs.Common.{◌≡◌, Option, Some, None, refl, sym, ap, ◌∙◌}
use Rattle.asked_records.specs.Asked.{AskedState, asks, behind_displaced, displaced_by}
use Rattle.device_core.specs.Handled.{handled_question}
use Rattle.device_core.specs.Machine.{end_of}
use Rattle.device_core.proofs.Counting.{none_displaced, was_asked, was_not_asked}
use Rattle.device_core.proofs.device.Device.ask.Goals as goal

pub returns-then-is_some-clause-state : goal.returns-then-is_some-clause-state
returns-then-is_some-clause-state g c =
    let old = c.args.self.now in
    let question = c.args.question.now in
    let octets = c.args.octets.now in
    let between = c.displace-displaced.new.self in
    let displaced = displaced_by old.station.options.asks_own_first question old.live.rest.asked in
    let was = was_asked c.ask.result (asks question octets between) between c.ask.ensures.number (sym c.is_some.ensures ∙ c.if-is_some.true) in
    let one : asks question octets (behind_displaced displaced old.live.rest.asked) ≡ Some c.ask.new.self =
    rw (← c.self.view_is) (ap (asks question octets) (sym c.displace-displaced.ensures.state) ∙ was ∙ ap Some (sym c.ask.ensures.state)) in
    let it = ap (λ (made : Option AskedState). end_of old.station old.live (handled_question old.station old.live question displaced made)) one in
    let kept = rw (c.displace-displaced.ensures.question, c.address-address.ensures.value, c.running.ensures) at c.refuse.ensures.kept in
    rw it (rw (← c.self.view_is) (rw kept refl))

pub returns-then-is_some-clause-frames : goal.returns-then-is_some-clause-frames
returns-then-is_some-clause-frames g c =
    let old = c.args.self.now in
    let question = c.args.question.now in
    let octets = c.args.octets.now in
    let between = c.displace-displaced.new.self in
    let displaced = displaced_by old.station.options.asks_own_first question old.live.rest.asked in
    let was = was_asked c.ask.result (asks question octets between) between c.ask.ensures.number (sym c.is_some.ensures ∙ c.if-is_some.true) in
    let one : asks question octets (behind_displaced displaced old.live.rest.asked) ≡ Some c.ask.new.self =
    rw (← c.self.view_is) (ap (asks question octets) (sym c.displace-displaced.ensures.state) ∙ was ∙ ap Some (sym c.ask.ensures.state)) in
    let it = ap (λ (made : Option AskedState). end_of old.station old.live (handled_question old.station old.live question displaced made)) one in
    let frames = rw (c.requires.empty, c.displace-displaced.ensures.question, c.address-address.ensures.value, c.running.ensures) at c.refuse.ensures.frames in
    rw it (rw (← c.self.view_is) frames)

pub returns-then-is_some-clause-sendable : goal.returns-then-is_some-clause-sendable
returns-then-is_some-clause-sendable g c =
    let old = c.args.self.now in
    let question = c.args.question.now in
    let octets = c.args.octets.now in
    let between = c.displace-displaced.new.self in
    let displaced = displaced_by old.station.options.asks_own_first question old.live.rest.asked in
    let was = was_asked c.ask.result (asks question octets between) between c.ask.ensures.number (sym c.is_some.ensures ∙ c.if-is_some.true) in
    let one : asks question octets (behind_displaced displaced old.live.rest.asked) ≡ Some c.ask.new.self =
    rw (← c.self.view_is) (ap (asks question octets) (sym c.displace-displaced.ensures.state) ∙ was ∙ ap Some (sym c.ask.ensures.state)) in
    let it = ap (λ (made : Option AskedState). end_of old.station old.live (handled_question old.station old.live question displaced made)) one in
    let sendable = rw (c.displace-displaced.ensures.question, c.address-address.ensures.value, c.running.ensures) at c.refuse.ensures.sendable in
    rw it (rw (← c.self.view_is) sendable)

pub returns-clause-state : goal.returns-clause-state
returns-clause-state g c =
    let old = c.args.self.now in
    let question = c.args.question.now in
    let octets = c.args.octets.now in
    let between = c.displace-displaced.new.self in
    let displaced = displaced_by old.station.options.asks_own_first question old.live.rest.asked in
    let not = was_not_asked c.ask.result (asks question octets between) c.ask.ensures.number (sym c.is_some.ensures ∙ c.if-is_some.false) in
    let inside : asks question octets (behind_displaced (displaced_by c.self.inside.options.asks_own_first question c.self.inside.asked) c.self.inside.asked) ≡ None =
    ap (asks question octets) (sym c.displace-displaced.ensures.state) ∙ not in
    let none : asks question octets (behind_displaced displaced old.live.rest.asked) ≡ None = rw (← c.self.view_is) inside in
    let it = ap (λ (made : Option AskedState). end_of old.station old.live (handled_question old.station old.live question displaced made)) none in
    let displaced_inside = displaced_by c.self.inside.options.asks_own_first question c.self.inside.asked in
    let left : between ≡ c.self.inside.asked = c.displace-displaced.ensures.state ∙ none_displaced question octets displaced_inside c.self.inside.asked inside in
    let same : c.ask.new.self ≡ c.self.inside.asked = (rw not at c.ask.ensures.state) ∙ left in
    let kept = rw (c.clear.ensures, c.number-status.ensures.value, c.operation.ensures, c.address-address.ensures.value, c.running.ensures) at c.reply.ensures.kept in
    rw it (rw (← c.self.view_is) (rw (same, kept) refl))

pub returns-clause-frames : goal.returns-clause-frames
returns-clause-frames g c =
    let old = c.args.self.now in
    let question = c.args.question.now in
    let octets = c.args.octets.now in
    let between = c.displace-displaced.new.self in
    let displaced = displaced_by old.station.options.asks_own_first question old.live.rest.asked in
    let not = was_not_asked c.ask.result (asks question octets between) c.ask.ensures.number (sym c.is_some.ensures ∙ c.if-is_some.false) in
    let inside : asks question octets (behind_displaced (displaced_by c.self.inside.options.asks_own_first question c.self.inside.asked) c.self.inside.asked) ≡ None =
    ap (asks question octets) (sym c.displace-displaced.ensures.state) ∙ not in
    let none : asks question octets (behind_displaced displaced old.live.rest.asked) ≡ None = rw (← c.self.view_is) inside in
    let it = ap (λ (made : Option AskedState). end_of old.station old.live (handled_question old.station old.live question displaced made)) none in
    let frames = rw (c.requires.empty, c.clear.ensures, c.number-status.ensures.value, c.operation.ensures, c.address-address.ensures.value, c.running.ensures) at c.reply.ensures.frames in
    rw it (rw (← c.self.view_is) frames)

pub returns-clause-sendable : goal.returns-clause-sendable
returns-clause-sendable g c =
    let old = c.args.self.now in
    let question = c.args.question.now in
    let octets = c.args.octets.now in
    let between = c.displace-displaced.new.self in
    let displaced = displaced_by old.station.options.asks_own_first question old.live.rest.asked in
    let not = was_not_asked c.ask.result (asks question octets between) c.ask.ensures.number (sym c.is_some.ensures ∙ c.if-is_some.false) in
    let inside : asks question octets (behind_displaced (displaced_by c.self.inside.options.asks_own_first question c.self.inside.asked) c.self.inside.asked) ≡ None =
    ap (asks question octets) (sym c.displace-displaced.ensures.state) ∙ not in
    let none : asks question octets (behind_displaced displaced old.live.rest.asked) ≡ None = rw (← c.self.view_is) inside in
    let it = ap (λ (made : Option AskedState). end_of old.station old.live (handled_question old.station old.live question displaced made)) none in
    let sendable = rw (c.clear.ensures, c.number-status.ensures.value, c.operation.ensures, c.address-address.ensures.value, c.running.ensures) at c.reply.ensures.sendable in
    rw it (rw (← c.self.view_is) sendable)
