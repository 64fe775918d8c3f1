use Rattle.std.proofs.Common.{◌*◌, ◌/◌, ◌%◌, arith, length, refl, ◌∙◌}
use Rattle.hex.proofs.HexLemmas.{decode_of-even}
use Rattle.hex.proofs.Pairs.{decode_step, decode_done}
use Rattle.script_lines.proofs.Hex.{IsJoined, joined, pair_of}
use Rattle.script_lines.proofs.digits.join.Goals as goal

-- The byte of the pair with the index.
join_step : (c : goal.After-values-both) → IsJoined c.args.digits.now c.loop-place.place ((c.values-both.result * 4097) % 65536 / 256)
join_step c =
    let pair = pair_of c.args.digits.now c.as_chunks.result.0.now (length c.args.digits.now / 2) c.loop-place.place c.from_le_bytes.result _
    c.as_chunks.ensures.front (omega arith) (omega arith) c.from_le_bytes.ensures in
    joined c.args.digits.now c.loop-place.place c.from_le_bytes.result c.values-both.result _ (omega arith) c.requires.digits pair
    c.values-both.ensures refl

pub overflow_cast-bytes : goal.overflow_cast-bytes
overflow_cast-bytes c = let step = join_step c in omega (arith, step.small)

pub loop-place-preserved : goal.loop-place-preserved
loop-place-preserved c =
    decode_step c.args.digits.now c.loop-place.bytes c.loop-place.place _ (omega arith) (omega arith) (join_step c).value c.loop-place.invariant

pub returns : goal.returns
returns c =
    decode_of-even c.args.digits.now (omega arith)
    ∙ decode_done c.args.digits.now c.loop-place.bytes c.loop-place.place (omega arith) (omega arith) c.loop-place.invariant
