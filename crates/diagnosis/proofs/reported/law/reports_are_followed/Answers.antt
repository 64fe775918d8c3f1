-- Each follows from its lemma.
use Rattle.diagnosis.proofs.ReportedFollowing.{elsewhere, follows, pulls}
use Rattle.diagnosis.proofs.reported.law.reports_are_followed.Goals as goal

pub returns-clause-follows : goal.returns-clause-follows
returns-clause-follows c = follows

pub returns-clause-elsewhere : goal.returns-clause-elsewhere
returns-clause-elsewhere c = elsewhere

pub returns-clause-pulls : goal.returns-clause-pulls
returns-clause-pulls c = pulls
