-- By what the start of a device says.
use Rattle.std.proofs.Common.{IsOk, OnOk, subst}
use Rattle.settings_journal.specs.Image.{LeftByDevice}
use Rattle.device_core.specs.Cycle.{IsStartedFrom}
use Rattle.rounds_law.specs.Rounds.{IsReliable, Net}
use Rattle.rounds_law.proofs.RestartNet.{started_from, starts_again}
use Rattle.rounds_law.proofs.rounds.Net.restart_device.Goals as goal

pub returns-clause-started : goal.returns-clause-started
returns-clause-started g c =
    let load = c.load.ensures in
    subst (λ (old : Net g.row.F.Denot). OnOk c.load.result (IsStartedFrom g.F.Flash old.device.station old.device.flash c.load.new.self)) c.self.view_is
    (started_from g.F.Flash c.self.inside.device c.load.new.self c.load.result _ load.starts load.fresh load.station load.known load.same load.calls
    load.cause)

pub returns-clause-reliable : goal.returns-clause-reliable
returns-clause-reliable g c =
    let load = c.load.ensures in
    subst (λ (old : Net g.row.F.Denot). g.F.Flash.is_reliable old.device.flash → LeftByDevice (g.F.Flash.image old.device.flash)
    → IsOk c.load.result × IsReliable g.F.Flash c.load.new.self) c.self.view_is
    (λ reliable left. starts_again g.F.Flash c.self.inside.device c.load.new.self c.load.result load.fresh (load.reliable reliable) (load.left left))
