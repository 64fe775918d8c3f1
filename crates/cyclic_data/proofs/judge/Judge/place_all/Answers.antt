-- One object after the other.
use Rattle.std.proofs.Common.{arith}
use Rattle.std.proofs.lemmas.Result.{err_from_is_err_and}
use Rattle.cyclic_data.specs.Places.{place_of}
use Rattle.cyclic_data.proofs.Checked.{items_go_on, inside_goes_on, outside_goes_on, outside_here, never_none}
use Rattle.cyclic_data.proofs.judge.Judge.place_all.Goals as goal
use Rattle.cyclic_data.proofs.judge.Judge.place_all.Goals.{in-Some+in_ok-place_of, in_default}

pub returns-in_err-place_of-clause-err : goal.returns-in_err-place_of-clause-err
returns-in_err-place_of-clause-err c =
    let F = place_of c.args.self.now.direction c.args.self.now.expected.now c.args.kind in
    let p = err_from_is_err_and c.from_residual.result c.from_residual.ensures.1 in
    let e = c.in_err-place_of.ensures.err in
    rw (p.1, p.2) (e.0, outside_here F c.args.self.now.data_length c.args.objects.now c.loop-index.index c.in-Some.object c.in-Some.ensures _ c.loop-index.invariant.outside e.1)

pub loop-index-preserved : goal.loop-index-preserved
loop-index-preserved c =
    let F = place_of c.args.self.now.direction c.args.self.now.expected.now c.args.kind in
    let n = c.args.self.now.data_length in
    let objects = c.args.objects.now in
    let index = c.loop-index.index in
    let was = c.loop-index.invariant in
    elim c.match-get.branch [
      | in-Some+in_ok-place_of w ↦ record {
        items = items_go_on F n objects index w.in-Some.object w.in-Some.ensures c.loop-index.places.items c.match-get.places.items c.args.places.now.items _
            w.in_ok-place_of.ensures.ok (rw w.places-is w.push.ensures.items) was.items;
        room = rw w.places-is (omega (arith, w.push.ensures.len, was.room));
        inside = inside_goes_on F n objects index w.in-Some.object w.in-Some.ensures _ was.inside w.in_ok-place_of.ensures.inside;
        outside = outside_goes_on F n objects index w.in-Some.object w.in-Some.ensures _ was.outside;
      }
      | in_default w ↦ absurd (never_none objects index c.get.result c.get.ensures (omega (arith, c.loop-index-test.true, c.len-index-end.ensures.len)) w.in_default.not-Some)
    ]
