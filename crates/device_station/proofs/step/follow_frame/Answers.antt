use Rattle.std.proofs.Common.{◌≡◌, ◌≤◌, ℕ, List, [], length, map, sym, ap, subst, ◌∙◌, arith}
use Rattle.arrayvec.specs.ArrayVec.{ArrayVec}
use Rattle.frame_codec.specs.Outbox.{boxed}
use Rattle.device_frames.specs.declared.event.Event.{Event}
use Rattle.device_frames.specs.declared.event.Event.TheVariants.{Frame}
use Rattle.device_station.specs.Serving.{observed}
use Rattle.device_station.specs.Beside.{joined_from}
use Rattle.device_station.specs.Views.{joined_in, note_in}
use Rattle.device_station.proofs.Sparing.{heard_few, joined_alone}
use Rattle.device_station.proofs.Stepping.{idle_silent, joined_there, none_lost, observed_beside}
use Rattle.device_station.proofs.step.follow_frame.Goals as goal

pub returns-then-is_lost-clause-beside : goal.returns-then-is_lost-clause-beside
returns-then-is_lost-clause-beside g c =
    let device = c.args.device.now in
    let none : boxed c.clear.new.self ≡ [] = ap (λ (xs : List (ArrayVec ℕ)). map (λ (f : ArrayVec ℕ). f.items) xs) c.clear.ensures in
    idle_silent device.station.identity c.args.services.now device.live.values c.args.note (Frame (record { items = c.args.octets.now })) (boxed c.clear.new.self) none
    (sym c.is_lost.ensures ∙ c.if-is_lost.true)

pub returns-then-is_lost-clause-call : goal.returns-then-is_lost-clause-call
returns-then-is_lost-clause-call g c =
    let device = c.args.device.now in
    none_lost c.args.services.now device.live.values c.args.note (Frame (record { items = c.args.octets.now })) (sym c.is_lost.ensures ∙ c.if-is_lost.true)

pub returns-clause-beside : goal.returns-clause-beside
returns-clause-beside g c =
    let device = c.args.device.now in
    observed_beside device.station.identity c.identity.result.now c.args.services.now c.attend_frame-attended.new.self c.observe.new.self device.live.values c.args.note (note_in c.attend_frame-attended.result)
    (Frame (record { items = c.args.octets.now })) _ c.identity.ensures (sym c.is_lost.ensures ∙ c.if-is_lost.false) c.attend_frame-attended.ensures.state c.attend_frame-attended.ensures.frames
    c.attend_frame-attended.ensures.note (c.observe.ensures ∙ ap (observed c.attend_frame-attended.new.self) c.running.ensures)

pub returns-clause-call : goal.returns-clause-call
returns-clause-call g c =
    let device = c.args.device.now in
    let event : Event = Frame (record { items = c.args.octets.now }) in
    joined_there c.args.services.now device.live.values c.args.note event _ (sym c.is_lost.ensures ∙ c.if-is_lost.false) c.attend_frame-attended.ensures.call

pub returns-then-is_lost-clause-few : goal.returns-then-is_lost-clause-few
returns-then-is_lost-clause-few g c =
    let none : boxed c.clear.new.self ≡ [] = ap (λ (xs : List (ArrayVec ℕ)). map (λ (f : ArrayVec ℕ). f.items) xs) c.clear.ensures in
    subst (λ (f : List (List ℕ)). length f ≤ 1) (sym none) (omega arith)

pub returns-then-is_lost-clause-alone : goal.returns-then-is_lost-clause-alone
returns-then-is_lost-clause-alone g c = λ is. ap (λ (xs : List (ArrayVec ℕ)). map (λ (f : ArrayVec ℕ). f.items) xs) c.clear.ensures

pub returns-clause-few : goal.returns-clause-few
returns-clause-few g c =
    subst (λ (f : List (List ℕ)). length f ≤ 1) (sym c.attend_frame-attended.ensures.frames)
    (heard_few c.identity.result.now c.args.services.now c.args.note c.args.octets.now)

pub returns-clause-alone : goal.returns-clause-alone
returns-clause-alone g c = λ is.
    let call = c.attend_frame-attended.new.call in
    c.attend_frame-attended.ensures.frames
    ∙ joined_alone c.identity.result.now c.args.services.now c.args.note c.args.octets.now call
    (subst (λ a. joined_in a call ≡ joined_from c.args.services.now c.args.note c.args.octets.now) is c.attend_frame-attended.ensures.call)
