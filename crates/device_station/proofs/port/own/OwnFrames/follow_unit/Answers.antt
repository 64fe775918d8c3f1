-- The frames go through the outbox of the device.
use Rattle.std.proofs.Common.{◌≡◌, ◌∙◌, ℕ, List, map, length, ap, arith}
use Rattle.std.proofs.lemmas.List.{length-map}
use Rattle.arrayvec.specs.ArrayVec.{ArrayVec}
use Rattle.device_station.proofs.port.own.OwnFrames.follow_unit.Goals as goal

pub keep-requires : goal.keep-requires
keep-requires c =
    let long = length-map c.follow_units.new.outbox.items (λ (f : ArrayVec ℕ). f.items) in
    omega (arith, ap length c.as_slice.ensures.value, long, c.follow_units.ensures.few)

pub returns : goal.returns
returns c =
    let sent = c.keep.ensures.frames ∙ ap (λ (xs : List (ArrayVec ℕ)). map (λ (f : ArrayVec ℕ). f.items) xs) c.as_slice.ensures.value in
    record {
      is = c.follow_units.ensures.state;
      none = c.follow_units.ensures.none;
      quiet = c.follow_units.ensures.quiet;
      frames = sent ∙ c.follow_units.ensures.frames;
    }
