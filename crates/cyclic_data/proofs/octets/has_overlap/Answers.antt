-- One place after the other.
use Rattle.std.proofs.Common.{refl, arith}
use Rattle.cyclic_data.proofs.Overlap.{hit_blank}
use Rattle.cyclic_data.proofs.Checked.{goes_on_hit, goes_on_clear, inside_rest, no_place}
use Rattle.cyclic_data.proofs.octets.has_overlap.Goals as goal

pub loop-place-init : goal.loop-place-init
loop-place-init c = record { size = refl; inside = c.requires; hit = hit_blank 1440 c.args.places.now; clear = λ h. h.1 }

pub loop-place-preserved : goal.loop-place-preserved
loop-place-preserved c =
    let marked = c.if-mark.ensures.marked refl in
    record {
      size = omega arith;
      inside = (inside_rest c.args.places.now c.loop-place.place-index no_place 1440 c.loop-place-test.true c.loop-place.invariant.inside).1;
      hit = goes_on_hit c.loop-place.marked c.mark.new.marked c.args.places.now c.args.places.now c.loop-place.place-index _ c.loop-place-test.true marked c.loop-place.invariant.hit;
      clear = goes_on_clear c.loop-place.marked c.mark.new.marked c.args.places.now c.args.places.now c.loop-place.place-index _ c.loop-place-test.true marked
          c.if-mark.ensures.free c.loop-place.invariant.clear;
    }
