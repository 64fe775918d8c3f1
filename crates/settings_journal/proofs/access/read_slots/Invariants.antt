-- the slots so far make these settings of the base, and reads change nothing
use Rattle.std.proofs.Common.{◌≡◌, [], false}
use Rattle.flash_model.specs.Image.{sector_of}
use Rattle.settings_journal.specs.Slot.{After, next_slot}
use Rattle.settings_journal.proofs.access.read_slots.Given as goal

abbrev pub invariant-loop-number : goal.invariant-loop-number
invariant-loop-number g l = record {
  after : After l.version (sector_of (g.F.Flash.image l.initial.flash) l.sector) l.number l.initial.settings l.settings;
  next : l.next ≡ next_slot (sector_of (g.F.Flash.image l.initial.flash) l.sector) l.number;
  same : g.F.Flash.image l.flash ≡ g.F.Flash.image l.initial.flash;
  calls : g.F.Flash.asked l.initial.flash [] l.flash;
  failures : g.F.Flash.failures l.flash ≡ g.F.Flash.failures l.initial.flash;
  lost : g.F.Flash.is_lost l.flash ≡ false;
  reliable : g.F.Flash.is_reliable l.initial.flash → g.F.Flash.is_reliable l.flash;
}
