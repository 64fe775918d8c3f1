use Rattle.std.proofs.Common.{ℕ, get_or, bit_and, arith}
use Rattle.flash_model.specs.Image.{anded}
use Rattle.flash_model.proofs.ImageLemmas.{length-anded, get_or-anded}
use Rattle.flash_model.proofs.Written.{written_step, written_all}
use Rattle.flash_model.proofs.fate.and_bytes.Goals as goal

pub loop-place-preserved : goal.loop-place-preserved
loop-place-preserved c =
    let start = c.args.range.now in
    let bytes = c.args.bytes.now in
    let place = c.loop-place.place in
    written_step (anded start bytes) start c.loop-place.range place (λ (byte : ℕ). bit_and byte (get_or bytes place 0))
    c.loop-place.invariant (length-anded start bytes) c.loop-place-test.true (get_or-anded start bytes place (omega arith))

pub returns : goal.returns
returns c =
    written_all (anded c.args.range.now c.args.bytes.now) c.args.range.now c.loop-place.range c.loop-place.place
    c.loop-place.invariant (length-anded c.args.range.now c.args.bytes.now) c.loop-place-test.false
