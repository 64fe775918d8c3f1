-- Changes that wait one after another, as far as there is room.
use Rattle.std.proofs.Common.{◌≡◌, ◌++◌, ◌-◌, ℕ, suc, Bool, true, false, List, [], ◌∷◌, length, map, take, nat_lt, unwrap_or}
use Rattle.std.proofs.Common.{refl, sym, ap, ◌∙◌, inl, inr, arith}
use Rattle.std.proofs.lemmas.Bool.{cases_Bool, ltb-false, ltb-true}
use Rattle.std.proofs.lemmas.List.{append-nil, append_assoc, length_push}
use Rattle.std.proofs.Math.Seq.{take-nil}
use Rattle.pn_values.specs.declared.real.RealModule.{RealModule}
use Rattle.diagnosis.specs.declared.diagnosis.Diagnosis.{Diagnosis}
use Rattle.diagnosis.specs.declared.queue.QueuedAlarm.{QueuedAlarm}
use Rattle.diagnosis.specs.Notices.{first_notice, first_notices}
use Rattle.diagnosis.specs.Queue.{diagnosis_queued, waiting_with, waiting_with_all}

-- What waits, and the rest as far as there is room.
abbrev filled : List QueuedAlarm → List QueuedAlarm → List QueuedAlarm
filled queue rest = queue ++ take (64 - length queue) rest

-- After one more, and the rest, is what was there, followed by it and the rest.
one_more : (queue rest : List QueuedAlarm) (alarm : QueuedAlarm)
    → filled (unwrap_or (waiting_with alarm queue) queue) rest ≡ filled queue (alarm ∷ rest)
one_more queue rest alarm =
    elim (cases_Bool (nat_lt (length queue) 64)) [
      | inl t ↦
          let room : 64 - length queue ≡ suc (64 - length (queue ++ alarm ∷ [])) =
          omega (arith, ltb-true (length queue) 64 t, length_push queue alarm) in
          rw t (append_assoc queue (alarm ∷ []) (take (64 - length (queue ++ alarm ∷ [])) rest)
          ∙ sym (ap (λ (n : ℕ). queue ++ take n (alarm ∷ rest)) room))
      | inr t ↦
          let full : 64 - length queue ≡ 0 = omega (arith, ltb-false (length queue) 64 t) in
          rw t (ap (λ (n : ℕ). queue ++ take n rest) full ∙ sym (ap (λ (n : ℕ). queue ++ take n (alarm ∷ rest)) full))
    ]

-- A diagnosis of the relation waits, and then the rest.
pub one_waits : (real : List RealModule) (has : ℕ → ℕ → Bool) (queue next : List QueuedAlarm) (one : Diagnosis) (rest : List Diagnosis)
    → has one.slot one.subslot ≡ true → next ≡ unwrap_or (waiting_with (diagnosis_queued real (first_notice one)) queue) queue
    → waiting_with_all real (first_notices has rest) next ≡ waiting_with_all real (first_notices has (one ∷ rest)) queue
one_waits real has queue next one rest own pushed =
    rw (own, pushed) (one_more queue (map (diagnosis_queued real) (first_notices has rest)) (diagnosis_queued real (first_notice one)))

-- One elsewhere does not.
pub none_waits : (real : List RealModule) (has : ℕ → ℕ → Bool) (queue next : List QueuedAlarm) (one : Diagnosis) (rest : List Diagnosis)
    → has one.slot one.subslot ≡ false → next ≡ queue
    → waiting_with_all real (first_notices has rest) next ≡ waiting_with_all real (first_notices has (one ∷ rest)) queue
none_waits real has queue next one rest other same = rw (other, same) refl

-- No more of them: what waits is what waits.
pub all_wait : (real : List RealModule) (queue : List QueuedAlarm) → waiting_with_all real [] queue ≡ queue
all_wait real queue = ap (λ (xs : List QueuedAlarm). queue ++ xs) (take-nil (64 - length queue)) ∙ append-nil queue
