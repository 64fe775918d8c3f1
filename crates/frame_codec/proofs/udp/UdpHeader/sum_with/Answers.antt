use Rattle.std.proofs.Common.{rules, ◌≡◌, [], ◌++◌, length}
use Rattle.frame_codec.specs.Internet.{pseudo, udp_header}
use Rattle.frame_codec.proofs.Datagrams.{datagram_sum}
use Rattle.frame_codec.proofs.udp.UdpHeader.sum_with.Goals as goal

pub returns : goal.returns
returns c =
    let front : c.as_slice.result.now ≡ pseudo c.args.internet.now c.args.self.now ++ udp_header.write c.args.self.now [] = search rules in
    let long : length c.as_slice.result.now ≡ 20 = search rules in
    datagram_sum c.args.internet.now c.args.self.now c.args.body.now _ _ _ front long c.ones_sum.ensures.exact c.sum_on.ensures
