use Rattle.std.proofs.Common.{◌≡◌, inl, inr, length, refl, arith}
use Rattle.std.proofs.lemmas.Bool.Decides.{nat_tests}
use Rattle.std.proofs.lemmas.Result.{err_from_is_err_and}
use Rattle.script_session.specs.Said.{alone}
use Rattle.script_runner.specs.Script.{output_of, end_of}
use Rattle.script_runner.proofs.Known.{so_far_on, so_far_none, lacking_longer}
use Rattle.script_runner.proofs.Playing.{at_line, right_at, plays_on, playing_on, playing_broken, played_all, played_refused, played_failed, played_write, write_plays, fault_plays, front_grows, no_bytes}
use Rattle.script_runner.proofs.play.play.Goals as goal

pub returns-in_err-put : goal.returns-in_err-put
unfolding output_of
returns-in_err-put g c =
    let p = err_from_is_err_and c.from_residual.result c.from_residual.ensures.1 in
    rw (p.1, p.2) (record {
      faults = write_plays _ c.in_err-put.ensures.0;
      played = λ plans are. played_write plans _ _ c.args.input.now _ c.in_err-put.ensures.0 (lacking_longer _ _ _ _ c.in_err-put.ensures.1);
    })

pub loop-rest-init : goal.loop-rest-init
unfolding output_of end_of
loop-rest-init g c = (
  omega arith,
  λ plans are. inl (
    alone,
    record {
      right = are;
      ends = (c.new-session.ensures.runs (c.blank-flash.ensures.lost, c.blank-flash.ensures.armed) c.blank-flash.ensures.image, c.new-session.ensures.other);
      so_far = so_far_on _ _ _ _ _ _ _ (so_far_none _ _) refl c.in_ok-put.ensures;
      ended = refl;
      ordered = refl;
    },
  ),
)

pub returns-in_err-take : goal.returns-in_err-take
returns-in_err-take g c =
    let p = err_from_is_err_and c.from_residual-in_err-take.result c.from_residual-in_err-take.ensures.1 in
    rw (p.1, p.2) (record {
      faults = fault_plays c.in_err-take.field-0.0;
      played = λ plans are. elim (at_line plans _ _ _ _ _ _ c.first_line.result.1.now _ (c.loop-rest.invariant.1 plans are) c.first_line.ensures.lines) [
        | inl playing ↦
            let right = right_at plans c.loop-rest.rest.now c.first_line.result.0.now c.first_line.result.1.now playing.1.right c.first_line.ensures.lines playing.2 in
            played_failed plans playing.0 _ _ _ _ _ _ c.first_line.result.1.now c.args.input.now _ playing.1 c.first_line.ensures.lines playing.2
            (c.in_err-take.ensures.takes plans playing.0 right.0 playing.1.ends playing.2)
        | inr more ↦ inr more
      ];
    })

pub returns-then-not-branch-clause-played : goal.returns-then-not-branch-clause-played
returns-then-not-branch-clause-played g c plans are = elim (at_line plans _ _ _ _ _ _ c.first_line.result.1.now _ (c.loop-rest.invariant.1 plans are) c.first_line.ensures.lines) [
  | inl playing ↦
      let right = right_at plans c.loop-rest.rest.now c.first_line.result.0.now c.first_line.result.1.now playing.1.right c.first_line.ensures.lines playing.2 in
      inl (played_refused plans playing.0 _ _ _ c.take.new.self _ _ _ c.first_line.result.1.now c.args.input.now c.clear.new.self.items c.take.new.text.items _ playing.1 c.first_line.ensures.lines playing.2 c.if-not-branch.true
      (c.in_ok-take.ensures.takes plans playing.0 right.0 playing.1.ends playing.2))
  | inr more ↦ inr more
]

pub returns-in_err-put-2 : goal.returns-in_err-put-2
returns-in_err-put-2 g c =
    let p = err_from_is_err_and c.from_residual-in_err-put-2.result c.from_residual-in_err-put-2.ensures.1 in
    rw (p.1, p.2) (record {
      faults = write_plays _ c.in_err-put-2.ensures.0;
      played = λ plans are. elim (at_line plans _ _ _ _ _ _ c.first_line.result.1.now _ (c.loop-rest.invariant.1 plans are) c.first_line.ensures.lines) [
        | inl playing ↦
            let right = right_at plans c.loop-rest.rest.now c.first_line.result.0.now c.first_line.result.1.now playing.1.right c.first_line.ensures.lines playing.2 in
            played_write plans _ _ c.args.input.now _ c.in_err-put-2.ensures.0
            (playing_broken plans playing.0 _ _ _ _ c.take.new.self _ _ _ c.first_line.result.1.now c.args.input.now c.clear.new.self.items c.take.new.text.items c.as_slice.result.now _ playing.1 c.first_line.ensures.lines playing.2 c.clear.ensures.items c.if-not-branch.false
            (c.in_ok-take.ensures.takes plans playing.0 right.0 playing.1.ends playing.2) c.as_slice.ensures.value c.in_err-put-2.ensures.1)
        | inr more ↦ inr (plays_on plans _ _ _ c.args.input.now more (front_grows _ _ _ c.in_err-put-2.ensures.1.0))
      ];
    })

pub loop-rest-preserved : goal.loop-rest-preserved
loop-rest-preserved g c = (
  omega (arith, c.loop-rest.invariant.0, c.first_line.ensures.shorter),
  λ plans are. elim (at_line plans _ _ _ _ _ _ c.first_line.result.1.now _ (c.loop-rest.invariant.1 plans are) c.first_line.ensures.lines) [
    | inl playing ↦
        let right = right_at plans c.loop-rest.rest.now c.first_line.result.0.now c.first_line.result.1.now playing.1.right c.first_line.ensures.lines playing.2 in
        playing_on plans playing.0 _ _ _ _ c.take.new.self _ _ _ c.first_line.result.1.now c.args.input.now c.clear.new.self.items c.take.new.text.items c.as_slice.result.now _ playing.1 c.first_line.ensures.lines playing.2 c.clear.ensures.items c.if-not-branch.false
        (c.in_ok-take.ensures.takes plans playing.0 right.0 playing.1.ends playing.2) c.as_slice.ensures.value c.in_ok-put-2.ensures
    | inr more ↦ inr (plays_on plans _ _ _ c.args.input.now more (c.as_slice.result.now, c.in_ok-put-2.ensures))
  ],
)

pub returns-clause-played : goal.returns-clause-played
returns-clause-played g c plans are =
    let none : length c.loop-rest.rest.now ≡ 0 = grind (arith, nat_tests) in
    played_all plans _ _ _ _ c.loop-rest.rest.now c.args.input.now (c.loop-rest.invariant.1 plans are) (no_bytes c.loop-rest.rest.now none)
