-- Each field at its place.
use Rattle.fields_law.proofs.ReadingRecords.{im0_read, im1_read, im2_read, im3_read, im4_read}
use Rattle.fields_law.proofs.listing.maintenance_is_read_back.Goals as goal

pub returns : goal.returns
returns c =
    let long = c.blocks_are_read.ensures.long in
    record {
      im0 = λ identity real settings slot subslot sized plugged. im0_read long identity sized real settings slot subslot plugged;
      im1 = im1_read long;
      im2 = im2_read long;
      im3 = im3_read long;
      im4 = im4_read long;
    }
