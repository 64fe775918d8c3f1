-- A diagnosis, and then the rest.
use Rattle.std.proofs.Common.{◌≡◌, ◌∙◌, ◌+◌, List, drop, get_or, subst, sym, rules, arith}
use Rattle.std.proofs.lemmas.List.{drop_all, drop_more}
use Rattle.diagnosis.specs.alarms.Own.{is_own}
use Rattle.diagnosis.specs.Notices.{first_notices}
use Rattle.diagnosis.specs.Queue.{waiting_with_all}
use Rattle.diagnosis.specs.declared.diagnosis.Diagnosis.{Diagnosis}
use Rattle.diagnosis.proofs.Room.{all_wait, none_waits, one_waits}
use Rattle.diagnosis.proofs.queue.Queue.begin.Goals.{then-has, else-has}
use Rattle.diagnosis.proofs.queue.Queue.begin.Goals as goal

-- Any diagnosis, for a place that does not exist.
abbrev blank : Diagnosis
blank = record { slot = 0; subslot = 0; channel = 0; error = 0 }

pub loop-diagnosis-preserved : goal.loop-diagnosis-preserved
loop-diagnosis-preserved c =
    let i = c.loop-diagnosis.diagnosis-index in
    let all = c.args.diagnoses.now in
    let real = c.args.real.now.modules.items in
    let own = is_own c.args.own.now in
    let whole = waiting_with_all real (first_notices own all) c.args.self.now in
    let before = subst (λ (left : List Diagnosis). waiting_with_all real (first_notices own left) c.loop-diagnosis.self ≡ whole)
    (drop_more all i blank c.loop-diagnosis-test.true) c.loop-diagnosis.invariant in
    elim c.if-has.branch [
      | then-has w ↦ one_waits real own c.loop-diagnosis.self c.if-has.self (get_or all i blank) (drop (i + 1) all) (search rules) (search rules) ∙ before
      | else-has w ↦ none_waits real own c.loop-diagnosis.self c.if-has.self (get_or all i blank) (drop (i + 1) all) (search rules) (search rules) ∙ before
    ]

pub returns : goal.returns
returns c =
    let all = c.args.diagnoses.now in
    let real = c.args.real.now.modules.items in
    let own = is_own c.args.own.now in
    let whole = waiting_with_all real (first_notices own all) c.args.self.now in
    sym (all_wait real c.loop-diagnosis.self)
    ∙ subst (λ (left : List Diagnosis). waiting_with_all real (first_notices own left) c.loop-diagnosis.self ≡ whole)
    (drop_all c.loop-diagnosis.diagnosis-index all (omega (arith, c.loop-diagnosis-test.false))) c.loop-diagnosis.invariant
