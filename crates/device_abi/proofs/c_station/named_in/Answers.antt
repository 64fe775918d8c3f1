-- Records without a fault are those that C wrote.
use Rattle.std.proofs.Common.{◌≡◌, true, sym, ap, ◌∙◌}
use Rattle.std.specs.Prelude.{is_ok}
use Rattle.asked_records.specs.Names.{named_of}
use Rattle.device_abi.specs.Stations.{names_of}
use Rattle.device_abi.proofs.Counts.{named_are, never_refused}
use Rattle.device_abi.proofs.c_station.named_in.Goals as goal

pub returns-in-Ok : goal.returns-in-Ok
returns-in-Ok c = named_are (names_of c.args.station.now) _ (ap named_of (sym (c.as_slice.ensures.value ∙ c.names_in.ensures)) ∙ sym c.in-Ok.ensures)

pub returns-in-Err : goal.returns-in-Err
returns-in-Err c = never_refused (names_of c.args.station.now) c.in-Err.field-0 c.requires.named (ap named_of (sym (c.as_slice.ensures.value ∙ c.names_in.ensures)) ∙ sym c.in-Err.ensures)
