use Rattle.std.proofs.Common.{◌∙◌, get_or, bit_and, ap, sym, arith}
use Rattle.flash_model.specs.Image.{anded}
use Rattle.flash_model.proofs.ImageLemmas.{length-anded, get_or-anded}
use Rattle.flash_model.proofs.TornLoop.{torn_next, torn_more, torn_all}
use Rattle.flash_model.proofs.fate.and_masked.Goals as goal

pub loop-place-preserved : goal.loop-place-preserved
loop-place-preserved c =
    let start = c.args.range.now in
    let bytes = c.args.bytes.now in
    let place = c.loop-place.place in
    let h = c.loop-place-test.true in
    torn_more c.args.mask (anded start bytes) start c.loop-place.range place (bit_and (get_or c.loop-place.range place 0) (get_or bytes place 0))
    c.torn_byte.result c.loop-place.invariant h
    (ap (λ x. bit_and x (get_or bytes place 0)) (torn_next c.args.mask (anded start bytes) start c.loop-place.range place c.loop-place.invariant h)
    ∙ sym (get_or-anded start bytes place (omega arith)))
    c.torn_byte.ensures.value c.torn_byte.ensures.between

pub returns : goal.returns
returns c =
    let start = c.args.range.now in
    let bytes = c.args.bytes.now in
    let all = torn_all c.args.mask (anded start bytes) start c.loop-place.range c.loop-place.place c.loop-place.invariant c.loop-place-test.false
    (omega (arith, length-anded start bytes)) in
    record { value = all.0; between = all.1 }
