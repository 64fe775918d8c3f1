-- The data and the status of the cell.
use Rattle.std.proofs.Common.{◌∙◌, refl}
use Rattle.cyclic_data.specs.declared.place.PlaceKind.TheVariants.{Data}
use Rattle.cyclic_data.proofs.Taken.{status_seen, value_seen}
use Rattle.cyclic_data.proofs.received.ReceivedImage.rated_value.Goals as goal

pub returns-clause-value : goal.returns-clause-value
returns-clause-value c =
    c.rated_value.ensures.value ∙ value_seen c.self.inside.laid_out.octets Data c.args.slot c.args.subslot c.self.inside.laid_out.places.items _ refl c.self.inside.laid_out.data_length c.args.self.now c.self.view_is

pub returns-clause-status : goal.returns-clause-status
returns-clause-status c =
    c.rated_value.ensures.status ∙ status_seen c.self.inside.laid_out.octets Data c.args.slot c.args.subslot c.self.inside.laid_out.places.items _ refl c.self.inside.laid_out.data_length c.args.self.now c.self.view_is
