-- An erase call is recorded.
use Rattle.std.proofs.Common.{refl, ap, ◌∙◌}
use Rattle.std.specs.List.{list_all}
use Rattle.device_station.specs.recorded.Fits.{entry_fits}
use Rattle.device_station.specs.declared.recorded.entry.Entry.TheVariants.{Erase}
use Rattle.device_station.proofs.RecordedEntries.{all_pushed}
use Rattle.device_station.proofs.recorded.flash.RecordedFlash.record_erase.Goals as goal

pub invariant_of-self : goal.invariant_of-self
invariant_of-self g c = record {
  reliable = c.args.self.now.reliable;
  fits = ap (list_all (entry_fits g.row.S)) c.push.ensures ∙ all_pushed (entry_fits g.row.S) c.args.self.now.entries.items (Erase c.args.sector) c.args.self.now.fits refl;
}
