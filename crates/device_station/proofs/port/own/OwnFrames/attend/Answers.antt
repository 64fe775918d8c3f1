-- The frames go through the outbox of the device.
use Rattle.std.proofs.Common.{◌≡◌, ◌∙◌, ℕ, List, map, length, sym, ap, arith}
use Rattle.std.proofs.lemmas.List.{length-map}
use Rattle.arrayvec.specs.ArrayVec.{ArrayVec}
use Rattle.frame_codec.specs.Outbox.{boxed}
use Rattle.device_station.specs.Beside.{Beside}
use Rattle.device_station.specs.Views.{note_in}
use Rattle.device_station.proofs.PortOwn.{joined_kept, map_none}
use Rattle.device_station.proofs.port.own.OwnFrames.attend.Goals as goal

pub follow_frame-attended-requires : goal.follow_frame-attended-requires
follow_frame-attended-requires c = (omega arith, λ kept sent. c.requires kept)

pub keep-requires : goal.keep-requires
keep-requires c =
    let long = length-map c.follow_frame-attended.new.outbox.items (λ (f : ArrayVec ℕ). f.items) in
    omega (arith, ap length c.as_slice.ensures.value, long, c.follow_frame-attended.ensures.few)

pub returns-clause-beside : goal.returns-clause-beside
returns-clause-beside c =
    let sent = c.keep.ensures.frames ∙ ap (λ (xs : List (ArrayVec ℕ)). map (λ (f : ArrayVec ℕ). f.items) xs) c.as_slice.ensures.value in
    ap (λ (f : List (List ℕ)). let b : Beside = record { services = c.follow_frame-attended.new.services; sent = f; note = note_in c.follow_frame-attended.result } in b) sent
    ∙ c.follow_frame-attended.ensures.beside

pub returns-clause-call : goal.returns-clause-call
returns-clause-call c =
    joined_kept c.follow_frame-attended.result c.follow_frame-attended.new.call c.keep.new.self.call (boxed c.follow_frame-attended.new.outbox) c.follow_frame-attended.ensures.alone
    (λ none. c.keep.ensures.call (c.as_slice.ensures.value ∙ map_none (λ (f : ArrayVec ℕ). f.items) c.follow_frame-attended.new.outbox.items none))
    ∙ c.follow_frame-attended.ensures.call
