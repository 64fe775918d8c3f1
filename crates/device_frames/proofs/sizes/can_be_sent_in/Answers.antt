-- Each part has its size.
use Rattle.std.proofs.Common.{arith, rules}
use Rattle.device_frames.proofs.sizes.can_be_sent_in.Goals as goal

pub returns : goal.returns
returns c = record {
  destination = c.has_six.ensures;
  source = c.has_six-2.ensures;
  tag = c.has_two.ensures;
  content = search (rules, arith);
}
