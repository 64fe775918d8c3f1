-- The frames of an earlier relation are those of strangers to a later one.
use Rattle.std.proofs.Common.{◌≡◌, ◌≢◌, ◌≤◌, ◌<◌, ◌==◌, ◌+◌, ◌%◌, ◌&&◌, ◌||◌, ℕ, suc, Bool, true, false, List, take, drop, refl, sym, ap, subst, ◌∙◌, if◌then◌else◌, arith}
use Rattle.std.proofs.lemmas.Bool.Decides.{nat_tests}
use Rattle.connect_blocks.specs.declared.iocr.RtClass.{RtClass}
use Rattle.connect_blocks.specs.declared.iocr.RtClass.TheVariants.{Class1, Class2}
use Rattle.connects.specs.requests.Request.{chosen_id}
use Rattle.frame_codec.specs.FrameId.{is_alarm, is_cyclic}
use Rattle.relations.specs.Numbers.{number_of, output_id}
use Rattle.relations.specs.RelationState.{RelationState}
use Rattle.device_frames.specs.declared.event.Event.{Event}
use Rattle.device_frames.specs.declared.event.Event.TheVariants.{Frame}
use Rattle.settings_journal.specs.settings_store.Machine.{Outcome}
use Rattle.device_core.specs.State.{Live, Station}
use Rattle.device_core.specs.Machine.{run_of}
use Rattle.octets_law.specs.Octets.{is_dcp, number, part, untagged}
use Rattle.strangers_law.specs.Device.{IsStrange, marks_of}
use Rattle.strangers_law.specs.Strange.{Marks, belongs, is_alarm_of, is_cyclic_of, is_datagram, is_reset, is_said_of, same}
use Rattle.strangers_law.specs.Earlier.{AreApart, Follows, IsNumbered, IsNumberedIn, IsRefused, LateAlarmsAreRefused, LateOutputsAreRefused, NumbersDiffer, made_with}
use Rattle.strangers_law.proofs.Floods.{strange_left}
use Rattle.strangers_law.proofs.FrameIds.{number_few}
use Rattle.strangers_law.proofs.Numbered.{counted, stay_numbered}

-- ---- numbers

-- By fewer than 14,336 later it is another number.
other_number : (first a b k : ℕ) → (suc b % 14336) % 14336 ≡ (suc a % 14336 + k) % 14336 → 1 ≤ k → k < 14336 → (first + b) % 14336 ≡ (first + a) % 14336 → ⊥
other_number first a b k sum some few same = omega arith

-- FrameIDs that the device chooses differ if the numbers do, and are never those of two classes.
other_ids : (one other : RtClass) (n m : ℕ) → n < 14336 → m < 14336 → (n ≡ m → ⊥) → chosen_id one + n ≡ chosen_id other + m → ⊥
other_ids Class1 Class1 n m few less apart same = apart (omega arith)
other_ids Class1 Class2 n m few less apart same = omega arith
other_ids Class2 Class1 n m few less apart same = omega arith
other_ids Class2 Class2 n m few less apart same = apart (omega arith)

module _ (station : Station) (live : Live) (earlier later : RelationState) (outcomes : List (List Outcome)) (events : List Event)
    (follows : Follows outcomes station live events earlier later) where
  was_numbered : IsNumbered station live.rest.made earlier
  was_numbered = subst (IsNumberedIn station live.rest.made) follows.was follows.numbered

  is_numbered : IsNumbered station (run_of outcomes station live events).live.rest.made later
  is_numbered = subst (IsNumberedIn station (run_of outcomes station live events).live.rest.made) follows.is
      (stay_numbered station live outcomes events follows.numbered)

  abbrev number_at : ℕ → ℕ
  number_at before = number_of station.options.numbers_from before

  numbers_apart : number_at is_numbered.before ≡ number_at was_numbered.before → ⊥
  numbers_apart same =
      other_number follows.first was_numbered.before is_numbered.before (made_with outcomes station live events)
      (ap (λ n. n % 14336) (sym is_numbered.counted) ∙ counted station outcomes events live
      ∙ ap (λ n. (n + made_with outcomes station live events) % 14336) was_numbered.counted)
      follows.some follows.few
      (ap (λ f. number_of f is_numbered.before) (sym follows.go_round) ∙ same ∙ ap (λ f. number_of f was_numbered.before) follows.go_round)

  pub apart : AreApart earlier later
  apart = record {
    endpoint = λ same. numbers_apart (less_one _ _ (sym is_numbered.endpoint ∙ same ∙ was_numbered.endpoint));
    frame_id = λ was is same.
        other_ids later.request.output.class earlier.request.output.class (number_at is_numbered.before) (number_at was_numbered.before)
        (number_few station.options.numbers_from is_numbered.before) (number_few station.options.numbers_from was_numbered.before) numbers_apart
        (sym (chosen later (number_at is_numbered.before) is is_numbered.frame_id) ∙ same ∙ chosen earlier (number_at was_numbered.before) was was_numbered.frame_id);
  }
    where
      less_one : (n m : ℕ) → suc n ≡ suc m → n ≡ m
      less_one n m same = omega arith

      chosen : (link : RelationState) (number : ℕ) → link.request.output.device_chooses ≡ true
          → link.flow.cyclic.route.taken_id ≡ output_id number link.request.output
          → link.flow.cyclic.route.taken_id ≡ chosen_id link.request.output.class + number
      chosen link number is assigned = assigned ∙ ap (λ b. if b then chosen_id link.request.output.class + number else link.request.output.frame_id) is

pub numbers_differ : NumbersDiffer
numbers_differ station live earlier later outcomes events follows = apart station live earlier later outcomes events follows

-- ---- the parts of a frame

both : (a b : Bool) → a && b ≡ true → (a ≡ true) × (b ≡ true)
both true b is = (refl, is)
both false b is = absurd cc

first_false : (a b : Bool) → a ≡ false → a && b ≡ false
first_false true b is = absurd cc
first_false false b is = refl

second_false : (a b : Bool) → b ≡ false → a && b ≡ false
second_false true b is = is
second_false false b is = refl

neither_true : (a b : Bool) → a ≡ false → b ≡ false → a || b ≡ false
neither_true false false one two = refl
neither_true false true one two = absurd cc
neither_true true b one two = absurd cc

equal : (n m : ℕ) → (n == m) ≡ true → n ≡ m
equal n m is = grind (arith, nat_tests)

unequal : (n m : ℕ) → (n ≡ m → ⊥) → (n == m) ≡ false
unequal n m not = by_test (n == m) refl
  where
    by_test : (b : Bool) → (n == m) ≡ b → b ≡ false
    by_test true is = absurd (not (equal n m is))
    by_test false is = refl

-- A FrameID is not one of cyclic frames and one of alarms.
never_both : (id : ℕ) → is_cyclic id ≡ true → is_alarm id ≡ true → ⊥
never_both id cyclic alarm = by_high (id == 0xFC01) refl
  where
    by_low : (id == 0xFC01) ≡ false → (b : Bool) → (id == 0xFE01) ≡ b → ⊥
    by_low high true low = absurd (let e : is_cyclic 0xFE01 ≡ true = subst (λ n. is_cyclic n ≡ true) (equal id 0xFE01 low) cyclic in cc)
    by_low high false low = absurd (let e : is_alarm id ≡ false = neither_true (id == 0xFC01) (id == 0xFE01) high low in cc)

    by_high : (b : Bool) → (id == 0xFC01) ≡ b → ⊥
    by_high true high = absurd (let e : is_cyclic 0xFC01 ≡ true = subst (λ n. is_cyclic n ≡ true) (equal id 0xFC01 high) cyclic in cc)
    by_high false high = by_low high (id == 0xFE01) refl

-- A frame of real time, of an alarm or of cyclic data, that is neither of these of a relation, is a stranger's.
strange_frame : (station : List ℕ) (marks : Marks) (frame : List ℕ) → number 12 2 frame ≡ 0x8892 → (number 14 2 frame ≡ 0xFEFD → ⊥)
    → is_cyclic_of marks frame ≡ false → is_alarm_of marks frame ≡ false → belongs station marks frame ≡ false
strange_frame station marks frame timely no_set cyclic alarm =
    second_false (same (take 6 frame) station) _
    (neither_true (is_cyclic_of marks frame || is_alarm_of marks frame || is_reset frame) (is_datagram frame && is_said_of marks (drop 42 frame))
    (neither_true (is_cyclic_of marks frame || is_alarm_of marks frame) (is_reset frame)
    (neither_true (is_cyclic_of marks frame) (is_alarm_of marks frame) cyclic alarm) reset)
    (first_false (is_datagram frame) _ (first_false (number 12 2 frame == 0x0800) _
    (unequal (number 12 2 frame) 0x0800 (λ is. other_type (number 12 2 frame) timely is)))))
  where
    other_type : (n : ℕ) → n ≡ 0x8892 → n ≡ 0x0800 → ⊥
    other_type n one other = omega arith

    reset : is_reset frame ≡ false
    reset = first_false (is_dcp 0xFEFD 4 0 frame) _
        (first_false (number 12 2 frame == 0x8892 && number 14 2 frame == 0xFEFD && number 16 1 frame == 4) (number 17 1 frame == 0)
        (first_false (number 12 2 frame == 0x8892 && number 14 2 frame == 0xFEFD) (number 16 1 frame == 4)
        (second_false (number 12 2 frame == 0x8892) (number 14 2 frame == 0xFEFD) (unequal (number 14 2 frame) 0xFEFD no_set))))

not_set : (id : ℕ) → is_alarm id || is_cyclic id ≡ true → id ≡ 0xFEFD → ⊥
not_set id some is = absurd (let e : is_alarm 0xFEFD || is_cyclic 0xFEFD ≡ true = subst (λ n. is_alarm n || is_cyclic n ≡ true) is some in cc)

-- ---- late frames

module _ (station : Station) (live : Live) (earlier later : RelationState) (outcomes : List (List Outcome)) (events : List Event)
    (follows : Follows outcomes station live events earlier later) where
  refused : (event : Event) → IsStrange station later event → IsRefused station (run_of outcomes station live events).live later event
  refused event strange = record {
    strange = strange;
    left = λ results. strange_left results station (run_of outcomes station live events).live later event follows.is strange;
  }

  late_alarm : (frame : List ℕ) → is_alarm_of (marks_of earlier) frame ≡ true → belongs station.identity.mac.octets (marks_of later) frame ≡ false
  late_alarm frame is =
      strange_frame station.identity.mac.octets (marks_of later) frame (equal _ 0x8892 timely.0) (not_set (number 14 2 frame) (or_first _ (is_cyclic (number 14 2 frame)) timely.1))
      (first_false (number 12 2 frame == 0x8892 && number 14 2 frame == later.flow.cyclic.route.taken_id) (same (part 6 6 frame) later.flow.cyclic.route.partner.octets)
      (second_false (number 12 2 frame == 0x8892) (number 14 2 frame == later.flow.cyclic.route.taken_id) (unequal _ _ other_id)))
      (first_false (number 12 2 frame == 0x8892 && (number 14 2 frame == 0xFC01 || number 14 2 frame == 0xFE01) && same (part 6 6 frame) later.request.ar.initiator.octets
      && number 16 2 frame == later.flow.endpoint) (number 18 2 frame == later.request.alarm.reference)
      (second_false (number 12 2 frame == 0x8892 && (number 14 2 frame == 0xFC01 || number 14 2 frame == 0xFE01) && same (part 6 6 frame) later.request.ar.initiator.octets)
      (number 16 2 frame == later.flow.endpoint) (unequal _ _ other_end)))
    where
      or_first : (a b : Bool) → a ≡ true → a || b ≡ true
      or_first true b is = refl
      or_first false b is = absurd cc

      ends : (number 12 2 frame == 0x8892 && (number 14 2 frame == 0xFC01 || number 14 2 frame == 0xFE01) && same (part 6 6 frame) earlier.request.ar.initiator.octets
          && number 16 2 frame == earlier.flow.endpoint ≡ true) × ((number 18 2 frame == earlier.request.alarm.reference) ≡ true)
      ends = both _ (number 18 2 frame == earlier.request.alarm.reference) is

      own : (number 12 2 frame == 0x8892 && (number 14 2 frame == 0xFC01 || number 14 2 frame == 0xFE01) && same (part 6 6 frame) earlier.request.ar.initiator.octets ≡ true)
          × ((number 16 2 frame == earlier.flow.endpoint) ≡ true)
      own = both _ (number 16 2 frame == earlier.flow.endpoint) ends.0

      from : (number 12 2 frame == 0x8892 && (number 14 2 frame == 0xFC01 || number 14 2 frame == 0xFE01) ≡ true) × (same (part 6 6 frame) earlier.request.ar.initiator.octets ≡ true)
      from = both _ (same (part 6 6 frame) earlier.request.ar.initiator.octets) own.0

      timely : ((number 12 2 frame == 0x8892) ≡ true) × (is_alarm (number 14 2 frame) ≡ true)
      timely = both (number 12 2 frame == 0x8892) _ from.0

      other_id : number 14 2 frame ≡ later.flow.cyclic.route.taken_id → ⊥
      other_id id = never_both (number 14 2 frame)
          (subst (λ n. is_cyclic n ≡ true) (sym id) (is_numbered station live earlier later outcomes events follows).cyclic) timely.1

      other_end : number 16 2 frame ≡ later.flow.endpoint → ⊥
      other_end end = (apart station live earlier later outcomes events follows).endpoint (sym end ∙ equal _ earlier.flow.endpoint own.1)

  late_output : (frame : List ℕ) → later.flow.cyclic.route.taken_id ≢ earlier.flow.cyclic.route.taken_id → is_cyclic_of (marks_of earlier) frame ≡ true
      → belongs station.identity.mac.octets (marks_of later) frame ≡ false
  late_output frame other is =
      strange_frame station.identity.mac.octets (marks_of later) frame (equal _ 0x8892 timely.0) (not_set (number 14 2 frame) (or_second (is_alarm (number 14 2 frame)) _ cyclic))
      (first_false (number 12 2 frame == 0x8892 && number 14 2 frame == later.flow.cyclic.route.taken_id) (same (part 6 6 frame) later.flow.cyclic.route.partner.octets)
      (second_false (number 12 2 frame == 0x8892) (number 14 2 frame == later.flow.cyclic.route.taken_id)
      (unequal _ _ (λ id. other (sym id ∙ equal _ earlier.flow.cyclic.route.taken_id timely.1)))))
      (first_false (number 12 2 frame == 0x8892 && (number 14 2 frame == 0xFC01 || number 14 2 frame == 0xFE01) && same (part 6 6 frame) later.request.ar.initiator.octets
      && number 16 2 frame == later.flow.endpoint) (number 18 2 frame == later.request.alarm.reference)
      (first_false (number 12 2 frame == 0x8892 && (number 14 2 frame == 0xFC01 || number 14 2 frame == 0xFE01) && same (part 6 6 frame) later.request.ar.initiator.octets)
      (number 16 2 frame == later.flow.endpoint)
      (first_false (number 12 2 frame == 0x8892 && (number 14 2 frame == 0xFC01 || number 14 2 frame == 0xFE01)) (same (part 6 6 frame) later.request.ar.initiator.octets)
      (second_false (number 12 2 frame == 0x8892) (is_alarm (number 14 2 frame)) (no_alarm (is_alarm (number 14 2 frame)) refl)))))
    where
      or_second : (a b : Bool) → b ≡ true → a || b ≡ true
      or_second true b is = refl
      or_second false b is = is

      from : (number 12 2 frame == 0x8892 && number 14 2 frame == earlier.flow.cyclic.route.taken_id ≡ true) × (same (part 6 6 frame) earlier.flow.cyclic.route.partner.octets ≡ true)
      from = both _ (same (part 6 6 frame) earlier.flow.cyclic.route.partner.octets) is

      timely : ((number 12 2 frame == 0x8892) ≡ true) × ((number 14 2 frame == earlier.flow.cyclic.route.taken_id) ≡ true)
      timely = both (number 12 2 frame == 0x8892) _ from.0

      cyclic : is_cyclic (number 14 2 frame) ≡ true
      cyclic = subst (λ n. is_cyclic n ≡ true) (sym (equal _ earlier.flow.cyclic.route.taken_id timely.1))
          (was_numbered station live earlier later outcomes events follows).cyclic

      no_alarm : (b : Bool) → is_alarm (number 14 2 frame) ≡ b → b ≡ false
      no_alarm true is = absurd (never_both (number 14 2 frame) cyclic is)
      no_alarm false is = refl

pub late_alarms : LateAlarmsAreRefused
late_alarms station live earlier later outcomes events (Frame frame) follows is =
    refused station live earlier later outcomes events follows (Frame frame) (late_alarm station live earlier later outcomes events follows (untagged frame.items) is)
late_alarms station live earlier later outcomes events event follows is = absurd is

pub late_outputs : LateOutputsAreRefused
late_outputs station live earlier later outcomes events (Frame frame) follows was now is =
    refused station live earlier later outcomes events follows (Frame frame)
    (late_output station live earlier later outcomes events follows (untagged frame.items) ((apart station live earlier later outcomes events follows).frame_id was now) is)
late_outputs station live earlier later outcomes events event follows was now is = absurd is
