-- One pair after another is written.
use Rattle.std.proofs.Common.{◌≡◌, ◌+◌, ℕ, List, [], map, sym, ap, ◌∙◌, subst}
use Rattle.std.specs.List.{flat_map}
use Rattle.std.proofs.lemmas.Simd.{map-map}
use Rattle.arrayvec.specs.ArrayVec.{ArrayVec}
use Rattle.dcp_core.specs.declared.kind.Kind.{Kind}
use Rattle.dcp_core.specs.Request.{AskedBlock, asked_block}
use Rattle.dcp_core.specs.Bytes.{answer_bytes}
use Rattle.dcp_core.specs.Get.{firsts_of}
use Rattle.controller_dcp.proofs.Pairs.{IsSoFar, kinds_in, so_far_none, so_far_all, so_far_new, so_far_again, has_room}
use Rattle.controller_dcp.specs.Answers.{got, get_bytes}
use Rattle.controller_dcp.proofs.answers.get_answer.Goals as goal
use Rattle.controller_dcp.proofs.answers.get_answer.Goals.{then-not-is_among, else-not-is_among}

pub loop-index-init : goal.loop-index-init
loop-index-init c =
    record {
      so_far = so_far_none (got c.args.plan.now c.args.own.now) c.new-blocks.result.items c.as_slice-asked_for.result.now c.new-blocks.ensures;
      few = c.as_slice-asked_for.ensures.fits;
    }

pub put_pair-requires : goal.put_pair-requires
put_pair-requires c =
    has_room (got c.args.plan.now c.args.own.now) c.as_slice-asked_for.result.now c.loop-index.index _ c.loop-index-test.true c.loop-index.blocks.items
    (sym c.is_among.ensures ∙ c.if-not-is_among.true) c.loop-index.invariant.few c.loop-index.invariant.so_far

pub loop-index-preserved : goal.loop-index-preserved
loop-index-preserved c =
    let values : Kind → List ℕ = got c.args.plan.now c.args.own.now in
    let P : ArrayVec ℕ → Type 0 = λ blocks. IsSoFar values blocks.items c.as_slice-asked_for.result.now (c.loop-index.index + 1) in
    record {
      so_far = elim c.if-not-is_among.branch [
        | then-not-is_among w ↦ subst P (sym w.blocks-is)
            (so_far_new values c.as_slice-asked_for.result.now c.loop-index.index _ c.loop-index-test.true c.loop-index.blocks.items w.put_pair.new.blocks.items
            (sym c.is_among.ensures ∙ w.if-not-is_among.true) w.put_pair.ensures.items w.put_pair.ensures.most c.loop-index.invariant.so_far)
        | else-not-is_among w ↦ subst P (sym w.blocks-is)
            (so_far_again values c.as_slice-asked_for.result.now c.loop-index.index _ c.loop-index-test.true c.loop-index.blocks.items
            (sym c.is_among.ensures ∙ w.if-not-is_among.false) c.loop-index.invariant.so_far)
      ];
      few = c.loop-index.invariant.few;
    }

pub returns-clause-items : goal.returns-clause-items
unfolding get_bytes
returns-clause-items c =
    let values : Kind → List ℕ = got c.args.plan.now c.args.own.now in
    let all = so_far_all values c.loop-index.blocks.items c.as_slice-asked_for.result.now c.loop-index.index c.loop-index-test.false c.loop-index.invariant.so_far in
    let kinds : kinds_in c.as_slice-asked_for.result.now ≡ map (λ (block : AskedBlock). block.kind) (map asked_block c.args.request.now.blocks.items) =
    ap kinds_in c.as_slice-asked_for.ensures.value ∙ sym (map-map (λ (block : AskedBlock). block.kind) asked_block c.args.request.now.blocks.items) in
    c.put_answer.ensures.items
    ∙ ap (λ (blocks : List ℕ). answer_bytes 3 c.args.request.now.xid blocks) (all ∙ ap (λ (k : List Kind). flat_map values (firsts_of [] k)) kinds)
