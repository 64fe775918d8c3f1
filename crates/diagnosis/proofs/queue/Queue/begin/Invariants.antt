-- What waits so far and the remaining diagnoses are, as far as there is room, what waits at the end.
use Rattle.std.proofs.Common.{◌≡◌, drop}
use Rattle.diagnosis.specs.alarms.Own.{is_own}
use Rattle.diagnosis.specs.Notices.{first_notices}
use Rattle.diagnosis.specs.Queue.{waiting_with_all}
use Rattle.diagnosis.proofs.queue.Queue.begin.Given as goal

abbrev pub invariant-loop-diagnosis : goal.invariant-loop-diagnosis
invariant-loop-diagnosis l =
    waiting_with_all l.real.modules.items (first_notices (is_own l.own) (drop l.diagnosis-index l.diagnoses)) l.self
    ≡ waiting_with_all l.real.modules.items (first_notices (is_own l.own) l.diagnoses) l.initial.self
