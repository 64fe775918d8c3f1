-- No frame, one or two.
use Rattle.std.proofs.Common.{◌≡◌, ◌∙◌, ℕ, List, [], ◌∷◌, length, map, sym, ap, arith}
use Rattle.arrayvec.specs.ArrayVec.{ArrayVec}
use Rattle.device_station.proofs.PortOwn.{no_item, one_item, two_items}
use Rattle.device_station.proofs.port.own.OwnFrames.keep.Goals as goal

pub returns-in-empty-clause-frames : goal.returns-in-empty-clause-frames
returns-in-empty-clause-frames c =
    let none = no_item c.args.frames.now c.in-empty.len_below in
    c.clear.ensures.frames ∙ sym (ap (λ (xs : List (ArrayVec ℕ)). map (λ (f : ArrayVec ℕ). f.items) xs) none)

pub returns-in-empty-clause-call : goal.returns-in-empty-clause-call
returns-in-empty-clause-call c = λ none. c.clear.ensures.call

pub returns-in-len1-clause-frames : goal.returns-in-len1-clause-frames
returns-in-len1-clause-frames c =
    let one = one_item c.args.frames.now c.one-item.result (omega (arith, c.in-len1.len_at_least, c.in-len1.len_below)) c.one-item.is in
    c.keep_one.ensures ∙ sym (ap (λ (xs : List (ArrayVec ℕ)). map (λ (f : ArrayVec ℕ). f.items) xs) one)

pub returns-in-len1-clause-call : goal.returns-in-len1-clause-call
returns-in-len1-clause-call c = λ none. absurd (omega (arith, ap length none, c.in-len1.len_at_least))

pub returns-in-len2-up-clause-frames : goal.returns-in-len2-up-clause-frames
returns-in-len2-up-clause-frames c =
    let two = two_items c.args.frames.now c.one-item-2.result c.two-item.result c.in-len2-up.len_at_least c.requires.few c.one-item-2.is c.two-item.is in
    c.keep_two.ensures ∙ sym (ap (λ (xs : List (ArrayVec ℕ)). map (λ (f : ArrayVec ℕ). f.items) xs) two)

pub returns-in-len2-up-clause-call : goal.returns-in-len2-up-clause-call
returns-in-len2-up-clause-call c = λ none. absurd (omega (arith, ap length none, c.in-len2-up.len_at_least))
