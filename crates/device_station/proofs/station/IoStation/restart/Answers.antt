-- A start on what the device of a station left.
use Rattle.std.proofs.Common.{sym, ap, subst, ◌∙◌}
use Rattle.settings_journal.specs.Image.{LeftByDevice}
use Rattle.device_core.specs.State.{State}
use Rattle.device_core.specs.Steps.{Runs}
use Rattle.device_station.specs.State.{State as Whole}
use Rattle.device_station.proofs.station.IoStation.restart.Goals as goal

pub returns-in-Ok-clause-headline : goal.returns-in-Ok-clause-headline
returns-in-Ok-clause-headline g c = λ station flash first room begun events before now left starts begins runs.
    let same = ap (λ (s : Whole g.row.F.Denot). s.device) c.self.view_is in
    c.in-Ok.ensures.headline station flash first room begun events before now left starts begins
    (subst (λ (d : State g.row.F.Denot). Runs g.F.Flash begun events before now d) (sym same) runs)

pub returns-in-Ok-clause-fresh : goal.returns-in-Ok-clause-fresh
returns-in-Ok-clause-fresh g c = λ station is.
    let same = ap (λ (s : Whole g.row.F.Denot). s.device) c.self.view_is in
    c.in-Ok.ensures.fresh station (ap (λ (d : State g.row.F.Denot). d.station) same ∙ is)

pub returns-in-Err-clause-refused : goal.returns-in-Err-clause-refused
returns-in-Err-clause-refused g c = λ station flash begun events before now begins runs.
    let same = ap (λ (s : Whole g.row.F.Denot). s.device) c.self.view_is in
    c.in-Err.ensures.refused station flash begun events before now begins
    (subst (λ (d : State g.row.F.Denot). Runs g.F.Flash begun events before now d) (sym same) runs)

pub returns-in-Err-clause-left : goal.returns-in-Err-clause-left
returns-in-Err-clause-left g c = λ left.
    let same = ap (λ (s : Whole g.row.F.Denot). s.device) c.self.view_is in
    c.in-Err.ensures.left (subst (λ (d : State g.row.F.Denot). LeftByDevice (g.F.Flash.image d.flash)) (sym same) left)

pub returns-in-Err-clause-reliable : goal.returns-in-Err-clause-reliable
returns-in-Err-clause-reliable g c = λ reliable powers left.
    let same = ap (λ (s : Whole g.row.F.Denot). s.device) c.self.view_is in
    c.in-Err.ensures.reliable (subst (λ (d : State g.row.F.Denot). g.F.Flash.is_reliable d.flash) (sym same) reliable) powers
    (subst (λ (d : State g.row.F.Denot). LeftByDevice (g.F.Flash.image d.flash)) (sym same) left)
