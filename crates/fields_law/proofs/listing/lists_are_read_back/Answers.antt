-- Each field at its place.
use Rattle.std.proofs.Common.{arith}
use Rattle.device_records.specs.Expected.{expected_at}
use Rattle.device_records.specs.Found.{found_of}
use Rattle.records.specs.reads.Listing.{plugged_of}
use Rattle.fields_law.proofs.ReadingModules.{filter_device_read, filter_submodules_read, identification_read}
use Rattle.fields_law.proofs.ReadingPlugged.{plugged_is}
use Rattle.fields_law.proofs.ReadingRecords.{api_is}
use Rattle.fields_law.proofs.listing.lists_are_read_back.Goals as goal

pub returns : goal.returns
returns c =
    let long = c.blocks_are_read.ensures.long in
    record {
      filter = λ rows sized. filter_submodules_read rows sized long;
      filter_device = λ rows sized. filter_device_read rows sized long;
      expected = λ expected level slot subslot sized.
          identification_read (expected_at expected level slot subslot).modules sized long 0x0012 (omega arith);
      plugged = λ real level slot subslot sized. identification_read (plugged_of real level slot subslot).modules sized long 0x0013 (omega arith);
      found = λ expected real sized. identification_read (found_of expected real).modules sized long 0x0013 (omega arith);
      device = λ real slot subslot all few. plugged_is slot subslot long real all few;
      apis = api_is;
    }
