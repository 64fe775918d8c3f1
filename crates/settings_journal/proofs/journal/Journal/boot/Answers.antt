-- An image has one start.
use Rattle.std.proofs.Common.{sym, ap}
use Rattle.flash_model.specs.Image.{slots_in}
use Rattle.settings_journal.proofs.Active.{starts_with, known, foreign_none, left_starts, blank_starts}
use Rattle.settings_journal.proofs.Starting.{start_some, start_none}
use Rattle.settings_journal.proofs.journal.Journal.boot.Goals as goal

pub returns-clause-starts : goal.returns-clause-starts
returns-clause-starts g c = starts_with _ _ _ _ _ _ (g.met.F.Flash.sized c.args.flash) (start_some (g.F.Flash.image c.args.flash) c.in-Ok.found c.in-Some.start c.in-Some.is c.in-Ok.ensures.found)

pub returns-clause-known : goal.returns-clause-known
returns-clause-known g c = λ settings room s.
    known _ _ _ _ _ _ _ _ (ap slots_in (sym (g.met.F.Flash.sized c.args.flash).first_size)) (start_some (g.F.Flash.image c.args.flash) c.in-Ok.found c.in-Some.start c.in-Some.is c.in-Ok.ensures.found) s

pub returns-clause-strange : goal.returns-clause-strange
returns-clause-strange g c = λ strange. absurd (foreign_none _ _ _ _ _ strange (start_some (g.F.Flash.image c.args.flash) c.in-Ok.found c.in-Some.start c.in-Some.is c.in-Ok.ensures.found))

pub returns-clause-blank : goal.returns-clause-blank
returns-clause-blank g c = λ e. blank_starts _ _ (g.met.F.Flash.sector_size c.args.flash) e

pub returns-in_default-found-clause-known : goal.returns-in_default-found-clause-known
returns-in_default-found-clause-known g c = λ settings room s. absurd (foreign_none _ _ _ _ _ (start_none (g.F.Flash.image c.args.flash) c.in-Ok.found c.in_default-found.is c.in-Ok.ensures.found) s.3)

pub returns-in_default-found-clause-left : goal.returns-in_default-found-clause-left
returns-in_default-found-clause-left g c = λ left. let s = left_starts _ left in absurd (foreign_none _ _ _ _ _ (start_none (g.F.Flash.image c.args.flash) c.in-Ok.found c.in_default-found.is c.in-Ok.ensures.found) s.4)

pub returns-in_default-found-clause-blank : goal.returns-in_default-found-clause-blank
returns-in_default-found-clause-blank g c = λ e. blank_starts _ _ (g.met.F.Flash.sector_size c.args.flash) e

pub returns-in_default-clause-blank : goal.returns-in_default-clause-blank
returns-in_default-clause-blank g c = λ e. blank_starts _ _ (g.met.F.Flash.sector_size c.args.flash) e
