use Rattle.end_laws.proofs.TurnsEnded.{counts_units, drops_what_comes, is_silent, keeps_its_cause, repeats_its_release}
use Rattle.end_laws.proofs.turns.law.ended_is_kept.Goals as goal

pub returns-clause-cause : goal.returns-clause-cause
returns-clause-cause c = keeps_its_cause

pub returns-clause-release : goal.returns-clause-release
returns-clause-release c = repeats_its_release

pub returns-clause-silent : goal.returns-clause-silent
returns-clause-silent c = is_silent

pub returns-clause-dropped : goal.returns-clause-dropped
returns-clause-dropped c = drops_what_comes

pub returns-clause-units : goal.returns-clause-units
returns-clause-units c = counts_units
