use Rattle.std.proofs.Common.{ℕ, length, sym, arith}
use Rattle.std.proofs.lemmas.List.{length-replicate, get_or-replicate}
use Rattle.flash_model.specs.Image.{erased}
use Rattle.flash_model.proofs.TornLoop.{torn_more, torn_all}
use Rattle.flash_model.proofs.fate.set_masked.Goals as goal

pub loop-place-preserved : goal.loop-place-preserved
loop-place-preserved c =
    let start = c.args.range.now in
    torn_more c.args.mask (erased (length start)) start c.loop-place.range c.loop-place.place 255 c.torn_byte.result c.loop-place.invariant
    c.loop-place-test.true (sym (get_or-replicate {A = ℕ} (length start) c.loop-place.place 255 0 c.loop-place-test.true))
    c.torn_byte.ensures.value c.torn_byte.ensures.between

pub returns : goal.returns
returns c =
    let start = c.args.range.now in
    let all = torn_all c.args.mask (erased (length start)) start c.loop-place.range c.loop-place.place c.loop-place.invariant c.loop-place-test.false
    (omega (arith, length-replicate {A = ℕ} (length start) 255)) in
    record { value = all.0; between = all.1 }
