use Rattle.std.proofs.Common.{rules, ◌≡◌, length}
use Rattle.frame_codec.specs.Internet.{pseudo}
use Rattle.frame_codec.proofs.Datagrams.{passes_if}
use Rattle.frame_codec.proofs.udp.passes.Goals as goal

pub returns : goal.returns
returns c =
    let front : c.as_slice.result.now ≡ pseudo c.args.internet.now c.args.header.now = search rules in
    let long : length c.as_slice.result.now ≡ 12 = search rules in
    passes_if c.args.internet.now c.args.header.now c.args.octets.now _ _ _ c.if-header-eq0.false front long c.ones_sum.ensures.exact c.sum_on.ensures
