-- Each part has its size.
use Rattle.std.proofs.Common.{arith, rules}
use Rattle.device_frames.proofs.sizes.cyclic_can_be_sent.Goals as goal

pub returns : goal.returns
returns c = λ body few. record {
  destination = c.has_six.ensures;
  source = c.has_six-2.ensures;
  tag = search (rules, arith);
  content = (search (rules, arith), few);
}
