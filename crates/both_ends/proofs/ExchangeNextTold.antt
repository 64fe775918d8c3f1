-- The next alarm of low priority that a device sends: of a change of diagnosis, a pull or a plug.
use Rattle.std.proofs.Common.{◌≡◌, ◌⊎◌, inl, inr, Bool, true, false, cond, List, [], ◌∷◌, Option, Some, None, refl, sym, ap, ◌∙◌}
use Rattle.std.specs.Prelude.{is_none, is_some, unwrap_or}
use Rattle.record_blocks.specs.declared.alarm_notification.AlarmNotification.{AlarmNotification}
use Rattle.diagnosis.specs.alarms.Alarms.{Low}
use Rattle.diagnosis.specs.declared.queue.QueuedAlarm.{QueuedAlarm}
use Rattle.diagnosis.specs.Queue.{after_next, alarm_of, first_of, first_reported, is_next, next_in, rest_of}
use Rattle.pn_alarms.specs.Device.{end_with}
use Rattle.both_ends.proofs.ExchangeLists.{some_is}

-- the first change that waits becomes the active alarm
pub record IsNextTold (low : Low) : Type 0 where
  pub alarm : QueuedAlarm
  pub rest : List QueuedAlarm
  pub waits : low.waiting ≡ alarm ∷ rest
  pub none : low.alarms.sender.standing ≡ None
  pub is : after_next low ≡ record low {
    alarms = end_with low.alarms (alarm_of low.alarms.sender.specifier alarm);
    waiting = rest;
    sent = Some (record { change = alarm.change; number = low.alarms.sender.specifier });
  }
  pub sends : is_next low ≡ true

-- it does, or nothing happens
abbrev pub NextIs : Low → Type 0
NextIs low = ((after_next low ≡ low) × (is_next low ≡ false)) ⊎ IsNextTold low

first_is : (waiting : List QueuedAlarm) (alarm : QueuedAlarm) → first_of waiting ≡ Some alarm → waiting ≡ alarm ∷ rest_of waiting
first_is [] alarm e = absurd cc
first_is (one ∷ waiting) alarm e = ap (λ (a : QueuedAlarm). a ∷ waiting) (some_is one alarm e)

stands_none : (standing : Option AlarmNotification) → is_none standing ≡ true → standing ≡ None
stands_none None e = refl
stands_none (Some alarm) e = absurd cc

module _ (low : Low) where
  record Tells (alarm : QueuedAlarm) (next : Low) : Type 0 where
    none : low.alarms.sender.standing ≡ None
    is : next ≡ record low {
      alarms = end_with low.alarms (alarm_of low.alarms.sender.specifier alarm);
      waiting = rest_of low.waiting;
      sent = Some (record { change = alarm.change; number = low.alarms.sender.specifier });
    }

  by_standing : (alarm : QueuedAlarm) (next : Low) (b : Bool) → is_none low.alarms.sender.standing ≡ b
      → cond b (Some (record low {
        alarms = end_with low.alarms (alarm_of low.alarms.sender.specifier alarm);
        waiting = rest_of low.waiting;
        sent = Some (record { change = alarm.change; number = low.alarms.sender.specifier });
      })) None ≡ Some next
      → Tells alarm next
  by_standing alarm next true none e = record { none = stands_none low.alarms.sender.standing none; is = sym (some_is _ next e) }
  by_standing alarm next false none e = absurd cc

  by_first : (first : Option QueuedAlarm) (next : Low) → first_reported low first ≡ Some next → (alarm : QueuedAlarm) × (first ≡ Some alarm) × Tells alarm next
  by_first None next e = absurd cc
  by_first (Some alarm) next e = (alarm, refl, by_standing alarm next (is_none low.alarms.sender.standing) refl e)

  by_found : (found : Option Low) → next_in low ≡ found → NextIs low
  by_found None e = inl (ap (λ (o : Option Low). unwrap_or o low) e, ap (λ (o : Option Low). is_some o) e)
  by_found (Some next) e =
      let told = by_first (first_of low.waiting) next e in
      let tells = told.2 in
      inr (record {
        alarm = told.0;
        rest = rest_of low.waiting;
        waits = first_is low.waiting told.0 told.1;
        none = tells.none;
        is = ap (λ (o : Option Low). unwrap_or o low) e ∙ tells.is;
        sends = ap (λ (o : Option Low). is_some o) e;
      })

  pub next_is : NextIs low
  next_is = by_found (next_in low) refl

-- The submodules of the relation stay.
pub after_places : (low : Low) → (after_next low).places ≡ low.places
after_places low = by_next (next_is low)
  where
    by_next : NextIs low → (after_next low).places ≡ low.places
    by_next (inl rests) = ap (λ (l : Low). l.places) rests.0
    by_next (inr told) = ap (λ (l : Low). l.places) told.is
