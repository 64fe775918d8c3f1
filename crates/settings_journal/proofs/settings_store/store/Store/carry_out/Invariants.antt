-- the items so far are carried out and answered
use Rattle.std.proofs.Common.{◌≡◌, length, take}
use Rattle.settings_journal.specs.settings_store.Carries.{Carries}
use Rattle.settings_journal.proofs.settings_store.store.Store.carry_out.Given as goal

abbrev pub invariant-loop-item : goal.invariant-loop-item
invariant-loop-item g l = record {
  carries : Carries g.F.Flash l.initial.self (take l.item-index l.items) l.answers.items l.self;
  each : length l.answers.items ≡ l.item-index;
  reliable : g.F.Flash.is_reliable l.initial.self.flash → g.F.Flash.is_reliable l.self.flash × (l.self.values.has_failed ≡ l.initial.self.values.has_failed);
}
