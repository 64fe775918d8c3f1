-- An image with no places.
use Rattle.std.proofs.Common.{[]}
use Rattle.cyclic_data.proofs.Frames.{new_image, no_table}
use Rattle.cyclic_data.proofs.image.Image.new.Goals as goal

pub invariant_of-result : goal.invariant_of-result
invariant_of-result c = rw (c.new.ensures.length, c.new.ensures.places) (new_image 0 [] c.new.result.octets c.new.ensures.octets no_table)
