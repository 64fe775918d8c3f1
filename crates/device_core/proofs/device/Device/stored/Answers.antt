use Rattle.std.proofs.Common.{subst}
use Rattle.settings_journal.specs.settings_store.Carries.{Holds}
use Rattle.device_core.proofs.device.Device.stored.Goals as goal

pub returns-clause-holds : goal.returns-clause-holds
returns-clause-holds g c = subst (λ s. Holds (g.F.Flash.image s.flash) s.live.values) c.self.view_is c.self.invariant
