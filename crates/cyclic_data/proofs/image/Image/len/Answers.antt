-- A cell for each place.
use Rattle.std.proofs.Common.{sym, ◌∙◌}
use Rattle.cyclic_data.proofs.Cells.{count_shown}
use Rattle.cyclic_data.proofs.image.Image.len.Goals as goal

pub returns : goal.returns
returns c =
    c.len.ensures.value ∙ sym (count_shown c.self.inside.laid_out.data_length c.self.inside.laid_out.places.items c.self.inside.laid_out.octets c.args.self.now c.self.view_is)
