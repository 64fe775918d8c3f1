-- Lists of alarms: which of them is the last that reports a pull or a plug of a submodule, and how many are before it.
use Rattle.std.proofs.Common.{◌≡◌, ◌<◌, ◌≤◌, ◌==◌, ◌||◌, ◌++◌, ◌+◌, ◌%◌, ℕ, zero, suc, Bool, true, false, List, [], ◌∷◌, length, drop, Option, Some, None}
use Rattle.std.proofs.Common.{refl, sym, ap, subst, ◌∙◌, append_assoc, arith}
use Rattle.std.specs.Prelude.{slice_get, if◌then◌else◌}
use Rattle.std.proofs.lemmas.Bool.{and_from, eq-eqb, or_parts, true≢false}
use Rattle.std.proofs.lemmas.List.Folds.{list_any-append}
use Rattle.std.proofs.lemmas.Option.{slice_get_within}
use Rattle.std.proofs.Math.Nat.{mod-eq_of_lt}
use Rattle.record_blocks.specs.declared.alarm_notification.AlarmNotification.{AlarmNotification}
use Rattle.plan_places.specs.declared.report.PlaceReport.{PlaceReport}
use Rattle.plan_places.specs.declared.report.PlaceReport.TheVariants as reports
use Rattle.plan_places.specs.declared.report.Plug.{Plug}
use Rattle.plan_places.specs.Reports.{plug_of, pulled_at}
use Rattle.plug_ends.specs.Told.{AreNumberedFrom, IsPlugAt, LastPlug, concerns, concerns_any, is_about_any, report_in}
use Rattle.plug_ends.proofs.AskedWords.{WasPlug}

-- ---- the alarm with a number

some_is : {A : Type 0} (x y : A) → Some x ≡ Some y → x ≡ y
some_is x y e = cc

middle : {A : Type 0} (front : List A) (x : A) (rest : List A) → slice_get (front ++ x ∷ rest) (length front) ≡ Some x
middle [] x rest = refl
middle (y ∷ front) x rest = middle front x rest

rest_after : {A : Type 0} (front : List A) (x : A) (rest : List A) → drop (suc (length front)) (front ++ x ∷ rest) ≡ rest
rest_after [] x rest = refl
rest_after (y ∷ front) x rest = rest_after front x rest

-- of a front, a thing in the middle, and the rest, this many are in front
at_count : {A : Type 0} (all front : List A) (x : A) (rest : List A) (number : ℕ) → all ≡ front ++ x ∷ rest → length front ≡ number
    → slice_get all number ≡ Some x
at_count all front x rest number are count =
    ap (λ (xs : List _). slice_get xs number) are
    ∙ (ap (λ (n : ℕ). slice_get (front ++ x ∷ rest) n) (sym count) ∙ middle front x rest)

rest_count : {A : Type 0} (all front : List A) (x : A) (rest : List A) (number : ℕ) → all ≡ front ++ x ∷ rest → length front ≡ number
    → drop (suc number) all ≡ rest
rest_count all front x rest number are count =
    ap (λ (xs : List _). drop (suc number) xs) are
    ∙ (ap (λ (n : ℕ). drop (suc n) (front ++ x ∷ rest)) (sym count) ∙ rest_after front x rest)

-- ---- what a report says

abbrev slot_in : Option PlaceReport → ℕ
slot_in (Some (reports.Plugged plug)) = plug.slot
slot_in report = 0

abbrev subslot_in : Option PlaceReport → ℕ
subslot_in (Some (reports.Plugged plug)) = plug.subslot
subslot_in report = 0

abbrev number_in : Option PlaceReport → ℕ
number_in (Some (reports.Plugged plug)) = plug.number
number_in report = 0

or_true : (b : Bool) → (b || true) ≡ true
or_true true = refl
or_true false = refl

-- the number of a plug is that of its alarm
pub plug_number : (alarm : AlarmNotification) (plug : Plug) → report_in alarm ≡ Some (reports.Plugged plug) → plug.number ≡ alarm.alarm_specifier % 0x800
plug_number alarm plug e =
    by_tests (alarm.api == 0) (alarm.alarm_type == 0x0003) (alarm.alarm_type == 0x001F) (alarm.alarm_type == 0x000A) (alarm.alarm_type == 0x0004) e
  where
    by_tests : (own pull module_pull wrong right : Bool)
        → (if own then (if pull then Some (reports.Pulled (pulled_at alarm.slot_number alarm.subslot_number))
        else if module_pull then Some (reports.Pulled (pulled_at alarm.slot_number 0))
        else if wrong then Some (reports.PluggedWrong (plug_of alarm))
        else if right then Some (reports.Plugged (plug_of alarm))
        else None) else None) ≡ Some (reports.Plugged plug) → plug.number ≡ alarm.alarm_specifier % 0x800
    by_tests false pull module_pull wrong right f = absurd cc
    by_tests true true module_pull wrong right f = absurd cc
    by_tests true false true wrong right f = absurd cc
    by_tests true false false true right f = absurd cc
    by_tests true false false false true f = sym (ap number_in f)
    by_tests true false false false false f = absurd cc

-- what the alarm of a plug here reports
abbrev plugged : ℕ → ℕ → ℕ → Option PlaceReport
plugged slot subslot number = Some (reports.Plugged (record { slot = slot; subslot = subslot; number = number }))

pub plug_is : (alarm : AlarmNotification) (plug : Plug) (at below : ℕ) → report_in alarm ≡ Some (reports.Plugged plug) → at ≡ plug.slot → below ≡ plug.subslot
    → IsPlugAt at below alarm
plug_is alarm plug at below e one other =
    e
    ∙ (ap (λ (n : ℕ). plugged plug.slot plug.subslot n) (plug_number alarm plug e)
    ∙ (ap (λ (n : ℕ). plugged n plug.subslot (alarm.alarm_specifier % 0x800)) (sym one)
    ∙ ap (λ (n : ℕ). plugged at n (alarm.alarm_specifier % 0x800)) (sym other)))

module _ (slot subslot : ℕ) where
  -- a plug here concerns the submodule
  pub plug_concerns : (alarm : AlarmNotification) → IsPlugAt slot subslot alarm → concerns slot subslot alarm ≡ true
  plug_concerns alarm plug =
      ap (λ (report : Option PlaceReport). is_about_any slot subslot report) plug
      ∙ and_from (slot == slot) (subslot == subslot) (eq-eqb slot slot refl) (eq-eqb subslot subslot refl)

  any_here : (alarms : List AlarmNotification) (number : ℕ) (alarm : AlarmNotification) → slice_get alarms number ≡ Some alarm
      → concerns slot subslot alarm ≡ true → concerns_any slot subslot alarms ≡ true
  any_here [] number alarm e is = absurd cc
  any_here (one ∷ alarms) zero alarm e is =
      ap (λ (a : AlarmNotification). concerns slot subslot a || concerns_any slot subslot alarms) (some_is one alarm e)
      ∙ ap (λ (b : Bool). b || concerns_any slot subslot alarms) is
  any_here (one ∷ alarms) (suc number) alarm e is =
      ap (λ (b : Bool). concerns slot subslot one || b) (any_here alarms number alarm e is) ∙ or_true (concerns slot subslot one)

  none_less : (from : ℕ) → suc from ≤ zero → ⊥
  none_less from le = omega arith

  less_both : (from number : ℕ) → suc from ≤ suc number → from ≤ number
  less_both from number le = omega arith

  any_later : (alarms : List AlarmNotification) (from number : ℕ) (alarm : AlarmNotification) → slice_get alarms number ≡ Some alarm
      → concerns slot subslot alarm ≡ true → from ≤ number → concerns_any slot subslot (drop from alarms) ≡ true
  any_later alarms zero number alarm e is le = any_here alarms number alarm e is
  any_later [] (suc from) number alarm e is le = absurd cc
  any_later (one ∷ alarms) (suc from) zero alarm e is le = absurd (none_less from le)
  any_later (one ∷ alarms) (suc from) (suc number) alarm e is le = any_later alarms from number alarm e is (less_both from number le)

  -- ---- a plug, and the last one

  pub last_was : (number : ℕ) (alarms : List AlarmNotification) → LastPlug slot subslot number alarms → WasPlug slot subslot number alarms
  last_was number alarms last = record { front = last.front; alarm = last.alarm; rest = last.rest; are = last.are; count = last.count; plug = last.plug }

  was_at : (number : ℕ) (alarms : List AlarmNotification) (was : WasPlug slot subslot number alarms) → slice_get alarms number ≡ Some was.alarm
  was_at number alarms was = at_count alarms was.front was.alarm was.rest number was.are was.count

  pub was_few : (number : ℕ) (alarms : List AlarmNotification) → WasPlug slot subslot number alarms → number < length alarms
  was_few number alarms was = slice_get_within alarms number was.alarm (was_at number alarms was)

  pub was_more : (number : ℕ) (alarms more : List AlarmNotification) → WasPlug slot subslot number alarms → WasPlug slot subslot number (alarms ++ more)
  was_more number alarms more was = record {
    front = was.front;
    alarm = was.alarm;
    rest = was.rest ++ more;
    are = ap (λ (xs : List AlarmNotification). xs ++ more) was.are ∙ append_assoc was.front (was.alarm ∷ was.rest) more;
    count = was.count;
    plug = was.plug;
  }

  pub none_was : (number : ℕ) (alarms : List AlarmNotification) → alarms ≡ [] → WasPlug slot subslot number alarms → ⊥
  none_was number alarms e was = less_none (subst (λ (xs : List AlarmNotification). number < length xs) e (was_few number alarms was))
    where
      less_none : number < 0 → ⊥
      less_none lt = omega arith

  -- no plug here is later than the last one
  pub last_upper : (number other : ℕ) (alarms : List AlarmNotification) → LastPlug slot subslot number alarms → WasPlug slot subslot other alarms
      → other ≤ number
  last_upper number other alarms last was = at_most later
    where
      at_most : (number < other → ⊥) → other ≤ number
      at_most not_less = omega arith

      next : number < other → suc number ≤ other
      next lt = omega arith

      later : number < other → ⊥
      later lt =
          true≢false (sym (any_later alarms (suc number) other was.alarm (was_at other alarms was) (plug_concerns was.alarm was.plug) (next lt))
          ∙ (ap (λ (xs : List AlarmNotification). concerns_any slot subslot xs)
          (rest_count alarms last.front last.alarm last.rest number last.are last.count) ∙ last.none))

  -- ---- one alarm more

  pub last_more : (number : ℕ) (alarms : List AlarmNotification) (alarm : AlarmNotification) → concerns slot subslot alarm ≡ false
      → LastPlug slot subslot number alarms → LastPlug slot subslot number (alarms ++ alarm ∷ [])
  last_more number alarms alarm e last = record {
    front = last.front;
    alarm = last.alarm;
    rest = last.rest ++ alarm ∷ [];
    are = ap (λ (xs : List AlarmNotification). xs ++ alarm ∷ []) last.are ∙ append_assoc last.front (last.alarm ∷ last.rest) (alarm ∷ []);
    count = last.count;
    plug = last.plug;
    none = list_any-append (concerns slot subslot) last.rest (alarm ∷ [])
        ∙ (ap (λ (b : Bool). b || (concerns slot subslot alarm || false)) last.none ∙ ap (λ (b : Bool). b || false) e);
  }

  pub last_now : (alarms : List AlarmNotification) (alarm : AlarmNotification) → IsPlugAt slot subslot alarm
      → LastPlug slot subslot (length alarms) (alarms ++ alarm ∷ [])
  last_now alarms alarm plug = record { front = alarms; alarm = alarm; rest = []; are = refl; count = refl; plug = plug; none = refl }

  -- an earlier plug is still the last one: it was before, and the alarm does not concern it
  pub last_back : (number : ℕ) (alarms : List AlarmNotification) (alarm : AlarmNotification) → WasPlug slot subslot number alarms
      → LastPlug slot subslot number (alarms ++ alarm ∷ []) → LastPlug slot subslot number alarms × (concerns slot subslot alarm ≡ false)
  unfolding was_more
  last_back number alarms alarm was last = (
    record { front = was.front; alarm = was.alarm; rest = was.rest; are = was.are; count = was.count; plug = was.plug; none = parts.0 },
    (or_parts (concerns slot subslot alarm) false parts.1).0,
  )
    where
      more : WasPlug slot subslot number (alarms ++ alarm ∷ [])
      more = was_more number alarms (alarm ∷ []) was

      same : was.rest ++ alarm ∷ [] ≡ last.rest
      same =
          sym (rest_count (alarms ++ alarm ∷ []) more.front more.alarm more.rest number more.are more.count)
          ∙ rest_count (alarms ++ alarm ∷ []) last.front last.alarm last.rest number last.are last.count

      parts : (concerns_any slot subslot was.rest ≡ false) × ((concerns slot subslot alarm || false) ≡ false)
      parts =
          or_parts (concerns_any slot subslot was.rest) (concerns slot subslot alarm || false)
          (sym (list_any-append (concerns slot subslot) was.rest (alarm ∷ [])) ∙ (ap (λ (xs : List AlarmNotification). concerns_any slot subslot xs) same ∙ last.none))

-- of one number there is one place
pub plug_here : (slot subslot at below number : ℕ) (alarms : List AlarmNotification) → WasPlug slot subslot number alarms → WasPlug at below number alarms
    → (slot ≡ at) × (subslot ≡ below)
plug_here slot subslot at below number alarms one other = (ap slot_in same, ap subslot_in same)
  where
    alarm : one.alarm ≡ other.alarm
    alarm = some_is one.alarm other.alarm (sym (was_at slot subslot number alarms one) ∙ was_at at below number alarms other)

    same : plugged slot subslot (one.alarm.alarm_specifier % 0x800) ≡ plugged at below (other.alarm.alarm_specifier % 0x800)
    same = sym one.plug ∙ (ap report_in alarm ∙ other.plug)

-- ---- numbers

pub numbered_front : (number : ℕ) (xs ys : List AlarmNotification) → AreNumberedFrom number (xs ++ ys) → AreNumberedFrom number xs
numbered_front number [] ys all = tt
numbered_front number (x ∷ xs) ys all = (all.0, numbered_front (suc number) xs ys all.1)

numbered_last : (number : ℕ) (xs : List AlarmNotification) (alarm : AlarmNotification) → AreNumberedFrom number (xs ++ alarm ∷ [])
    → alarm.alarm_specifier % 0x800 ≡ (number + length xs) % 0x800
numbered_last number [] alarm all = all.0 ∙ ap (λ (n : ℕ). n % 0x800) (none number)
  where
    none : (n : ℕ) → n ≡ n + 0
    none n = omega arith
numbered_last number (x ∷ xs) alarm all = numbered_last (suc number) xs alarm all.1 ∙ ap (λ (n : ℕ). n % 0x800) (more number (length xs))
  where
    more : (n m : ℕ) → suc n + m ≡ n + suc m
    more n m = omega arith

-- The last of at most 2,048 alarms has the number of those before it.
pub last_number : (xs : List AlarmNotification) (alarm : AlarmNotification) → AreNumberedFrom 0 (xs ++ alarm ∷ []) → length xs < 2048
    → alarm.alarm_specifier % 0x800 ≡ length xs
last_number xs alarm all few = numbered_last 0 xs alarm all ∙ (ap (λ (n : ℕ). n % 0x800) (from_none (length xs)) ∙ mod-eq_of_lt few)
  where
    from_none : (n : ℕ) → 0 + n ≡ n
    from_none n = omega arith
