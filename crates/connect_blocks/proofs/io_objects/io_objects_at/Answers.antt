-- Reads one place after another.
use Rattle.std.proofs.Common.{◌≡◌, ◌+◌, ◌∷◌, ◌++◌, ◌<◌, List, [], length, Ok, sym, ap, ◌∙◌, arith}
use Rattle.std.proofs.lemmas.Result.{err_from_is_err_and}
use Rattle.std.proofs.lemmas.List.{length-append}
use Rattle.wire.specs.Counted.{read_each}
use Rattle.wire.proofs.Counts.{each_goes_on, each_fails, each_ends}
use Rattle.connect_blocks.specs.declared.io_object.IoObject.{IoObject}
use Rattle.connect_blocks.specs.Objects.{next_object, read_or_none, objects_in}
use Rattle.connect_blocks.proofs.Objects.{objects_ok, objects_err}
use Rattle.connect_blocks.proofs.io_objects.io_objects_at.Goals as goal

pub returns-in_err-_object : goal.returns-in_err-_object
returns-in_err-_object c =
    let p = err_from_is_err_and c.from_residual-in_err-_object.result c.from_residual-in_err-_object.ensures.1 in
    let so_far = c.loop-index.invariant in
    let more : length so_far.0 < c.in_ok-count.count = omega (arith, so_far.1, c.loop-index-test.true) in
    rw (p.1, p.2) (objects_err c.args.bytes.now c.in_ok-count.first.now c.in_ok-count.count c.in_err-_object.field-0.0 c.in_ok-count.ensures
    (each_fails next_object c.in_ok-count.count so_far.0 c.loop-index.rest.now _ c.in_err-_object.field-0.0 more (c.in_err-_object.ensures.read so_far.0 so_far.1) so_far.3))

pub loop-index-preserved : goal.loop-index-preserved
loop-index-preserved c =
    let so_far = c.loop-index.invariant in
    let object = c.in_ok-_object._object in
    let more : length so_far.0 < c.in_ok-count.count = omega (arith, so_far.1, c.loop-index-test.true) in
    let long : length (so_far.0 ++ object ∷ []) ≡ length so_far.0 + 1 = length-append so_far.0 (object ∷ []) in (
      so_far.0 ++ object ∷ [],
      omega (arith, long, so_far.1),
      omega (arith, long, so_far.1, c.in_ok-_object.ensures.room),
      each_goes_on next_object c.in_ok-count.count so_far.0 c.loop-index.rest.now _ object c.in_ok-_object.behind.now more (c.in_ok-_object.ensures.read so_far.0 so_far.1) so_far.3,
    )

pub invariant_of-result : goal.invariant_of-result
invariant_of-result c =
    let so_far = c.loop-index.invariant in
    let count = c.in_ok-count.count in
    let first = c.in_ok-count.first.now in
    let all : read_each next_object count [] first ≡ Ok (so_far.0, c.loop-index.rest.now) =
    each_ends next_object count so_far.0 c.loop-index.rest.now _ (omega (arith, so_far.1, c.loop-index-test.false)) so_far.3 in
    let same : objects_in count first ≡ so_far.0 = ap read_or_none all in
    let long : length (objects_in count first) ≡ length so_far.0 = ap (λ (xs : List IoObject). length xs) same in
    record {
      read = (c.loop-index.rest.now, all ∙ ap (λ (xs : List IoObject). Ok (xs, c.loop-index.rest.now)) (sym same), omega (arith, long, so_far.1, c.loop-index-test.false, c.loop-index.auto.index-end));
      few = omega (arith, long, so_far.2);
    }

pub returns : goal.returns
returns c =
    let so_far = c.loop-index.invariant in
    let count = c.in_ok-count.count in
    let first = c.in_ok-count.first.now in
    let all : read_each next_object count [] first ≡ Ok (so_far.0, c.loop-index.rest.now) =
    each_ends next_object count so_far.0 c.loop-index.rest.now _ (omega (arith, so_far.1, c.loop-index-test.false)) so_far.3 in
    let same : objects_in count first ≡ so_far.0 = ap read_or_none all in
    objects_ok c.args.bytes.now first count (objects_in count first) c.loop-index.rest.now c.in_ok-count.ensures
    (all ∙ ap (λ (xs : List IoObject). Ok (xs, c.loop-index.rest.now)) (sym same))
