-- Each part has its size.
use Rattle.device_frames.proofs.sizes.can_be_sent.Goals as goal

pub returns : goal.returns
returns c = record {
  destination = c.has_six.ensures;
  source = c.has_six-2.ensures;
  tag = c.has_two.ensures;
  content = c.has_content.ensures;
}
