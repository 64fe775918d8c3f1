-- The alarms of low priority that wait: which of them reports a pull or plug of a submodule, and what it reports as it is sent.
use Rattle.std.proofs.Common.{◌≡◌, ◌==◌, ◌&&◌, ◌||◌, ◌++◌, ◌+◌, ◌%◌, ◌<◌, ℕ, suc, Bool, true, false, cond, List, [], ◌∷◌, length, map, take, zero}
use Rattle.std.proofs.Common.{Option, Some, None, refl, sym, ap, subst, ◌∙◌, append_assoc, arith}
use Rattle.std.specs.Prelude.{nat_le, nat_lt, not}
use Rattle.std.specs.List.{list_any}
use Rattle.std.proofs.lemmas.Bool.{and_from, and_parts, eq-eqb, eqb-true, false≢true, ltb-true, ne_eqb, true≢false}
use Rattle.pn_values.specs.declared.real.RealModule.{RealModule}
use Rattle.pn_values.specs.declared.real.RealSubmodule.{RealSubmodule}
use Rattle.record_blocks.specs.declared.alarm_notification.AlarmNotification.{AlarmNotification}
use Rattle.module_diff.specs.declared.changes.ChangeKind.{ChangeKind}
use Rattle.module_diff.specs.declared.changes.ChangeKind.TheVariants as made_is
use Rattle.module_diff.specs.declared.changes.RealChange.{RealChange}
use Rattle.module_diff.specs.Changes.{added, affected_by, covers, is_pluggable, is_sized, plugged_with, pulled, reaches, subslot_by}
use Rattle.diagnosis.specs.declared.diagnosis.Diagnosis.{Diagnosis}
use Rattle.diagnosis.specs.declared.module_change.ModuleChange.{ModuleChange}
use Rattle.diagnosis.specs.declared.module_change.ModuleChangeKind.TheVariants as kind_is
use Rattle.diagnosis.specs.declared.notice.Notice.{Notice}
use Rattle.diagnosis.specs.declared.queue.LowChange.{LowChange}
use Rattle.diagnosis.specs.declared.queue.LowChange.TheVariants as change_is
use Rattle.diagnosis.specs.declared.queue.QueuedAlarm.{QueuedAlarm}
use Rattle.diagnosis.specs.Notices.{flag}
use Rattle.diagnosis.specs.Queue.{alarm_of, alarmed, change_type, diagnosis_queued, kind_by, kind_type, module_queued, plugs_at, slot_of, subslot_of}
use Rattle.diagnosis.specs.Queue.{is_plug, waits_for_plug}
use Rattle.plan_places.specs.declared.report.PlaceReport.{PlaceReport}
use Rattle.plan_places.specs.declared.report.PlaceReport.TheVariants as reports
use Rattle.plan_places.specs.Reports.{plug_of as plug_in, pulled_at, report_by_type}
use Rattle.expected_places.specs.declared.place.Step.{Step}
use Rattle.expected_places.specs.declared.place.Step.TheVariants.{Settled, Pulled, Plugged, Told, Ended, Refused}
use Rattle.device_core.specs.Modules.{outside, plug_of, pull_of, slot_pull_of}
use Rattle.device_frames.specs.declared.local.Local.TheVariants as local
use Rattle.device_frames.specs.Heard.{Applied, Heard}
use Rattle.end_laws.specs.device.Turn.{change_by, modules_after}
use Rattle.both_ends.specs.exchange.Sized.{NoneIsAtZero}
use Rattle.both_ends.specs.exchange.Told.{reaches_at}
use Rattle.both_ends.proofs.ExchangeReal.{pull_past_zero}
use Rattle.plug_ends.specs.Told.{AreNumberedFrom, IsPlugAt, LastPlug, concerns, concerns_any, is_about_any}
use Rattle.plug_ends.proofs.DeviceTurns.{reach_there}

some_is : {A : Type 0} (x y : A) → Some x ≡ Some y → x ≡ y
some_is x y e = cc

-- ---- lists

pub or_parts : (a b : Bool) → (a || b) ≡ false → (a ≡ false) × (b ≡ false)
or_parts true b e = absurd (true≢false e)
or_parts false b e = (refl, e)

pub or_none : (a b : Bool) → a ≡ false → b ≡ false → (a || b) ≡ false
or_none a b one other = ap (λ (x : Bool). x || b) one ∙ other

pub any_more : {A : Type 0} (test : A → Bool) (xs ys : List A) → list_any test xs ≡ false → list_any test ys ≡ false → list_any test (xs ++ ys) ≡ false
any_more test [] ys one other = other
any_more test (x ∷ xs) ys one other =
    let parts = or_parts (test x) (list_any test xs) one in
    or_none (test x) (list_any test (xs ++ ys)) parts.0 (any_more test xs ys parts.1 other)

-- one of the first is it, if none of the others is
pub any_front : {A : Type 0} (test : A → Bool) (xs ys : List A) → list_any test ys ≡ false → list_any test (xs ++ ys) ≡ true → list_any test xs ≡ true
any_front test [] ys none e = absurd (true≢false (sym e ∙ none))
any_front test (x ∷ xs) ys none e = by_test (test x) (λ f. any_front test xs ys none f) e
  where
    by_test : (b : Bool) → (list_any test (xs ++ ys) ≡ true → list_any test xs ≡ true) → (b || list_any test (xs ++ ys)) ≡ true → (b || list_any test xs) ≡ true
    by_test true rest f = refl
    by_test false rest f = rest f

pub any_there : {A : Type 0} (test : A → Bool) (xs : List A) (x : A) (ys : List A) → test x ≡ true → list_any test (xs ++ x ∷ ys) ≡ true
any_there test [] x ys e = ap (λ (b : Bool). b || list_any test ys) e
any_there test (one ∷ xs) x ys e = by_test (test one) (any_there test xs x ys e)
  where
    by_test : (b : Bool) → list_any test (xs ++ x ∷ ys) ≡ true → (b || list_any test (xs ++ x ∷ ys)) ≡ true
    by_test true rest = refl
    by_test false rest = rest

flipped : (a b : ℕ) → (a == b) ≡ (b == a)
flipped a b = by_test (a == b) refl
  where
    by_test : (c : Bool) → (a == b) ≡ c → c ≡ (b == a)
    by_test true e = sym (eq-eqb b a (sym (eqb-true a b e)))
    by_test false e = sym (ne_eqb b a (λ f. true≢false (sym (eq-eqb a b (sym f)) ∙ e)))

-- ---- what waits

-- An alarm that waits reaches a submodule, or reports something of it.
abbrev pub touches : ℕ → ℕ → QueuedAlarm → Bool
touches slot subslot queued = reaches_at slot subslot queued.change || concerns slot subslot (alarm_of 0 queued)

-- What an alarm with this number reports, by the tests on its AlarmType.
abbrev report_with : QueuedAlarm → ℕ → Bool → Bool → Bool → Bool → Option PlaceReport
report_with queued number a b c d =
    cond a (Some (reports.Pulled (pulled_at (slot_of queued.change) (subslot_of queued.change))))
    (cond b (Some (reports.Pulled (pulled_at (slot_of queued.change) 0)))
    (cond c (Some (reports.PluggedWrong (plug_in (alarm_of number queued)))) (cond d (Some (reports.Plugged (plug_in (alarm_of number queued)))) None)))

-- What it reports does not depend on its number.
pub same_concerns : (slot subslot number : ℕ) (queued : QueuedAlarm) → concerns slot subslot (alarm_of number queued) ≡ concerns slot subslot (alarm_of 0 queued)
same_concerns slot subslot number queued =
    by_type (change_type queued.change == 0x0003) (change_type queued.change == 0x001F) (change_type queued.change == 0x000A) (change_type queued.change == 0x0004)
  where
    by_type : (a b c d : Bool) → is_about_any slot subslot (report_with queued number a b c d) ≡ is_about_any slot subslot (report_with queued 0 a b c d)
    by_type true b c d = refl
    by_type false true c d = refl
    by_type false false true d = refl
    by_type false false false true = refl
    by_type false false false false = refl

-- The change is a plug of the expected submodule here.
pub record IsPlugQueued (slot subslot : ℕ) (queued : QueuedAlarm) : Type 0 where
  pub change : ModuleChange
  pub is : queued.change ≡ change_is.Module change
  pub kind : change.kind ≡ kind_is.Plug
  pub slot_is : change.slot ≡ slot
  pub subslot_is : change.subslot ≡ subslot

plug_type : (alarm : AlarmNotification) → alarm.alarm_type ≡ 0x0004 → report_by_type alarm ≡ Some (reports.Plugged (plug_in alarm))
plug_type alarm e = rw e refl

-- Then its alarm reports this.
pub plug_reported : (slot subslot number : ℕ) (queued : QueuedAlarm) → IsPlugQueued slot subslot queued → IsPlugAt slot subslot (alarm_of number queued)
plug_reported slot subslot number queued is =
    let alarm = alarm_of number queued in
    plug_type (alarm_of number queued) (ap (λ (c : LowChange). change_type c) is.is ∙ ap kind_type is.kind)
    ∙ (ap (λ (n : ℕ). Some (reports.Plugged (record { slot = n; subslot = alarm.subslot_number; number = alarm.alarm_specifier % 0x800 })))
    (ap (λ (c : LowChange). slot_of c) is.is ∙ is.slot_is)
    ∙ ap (λ (n : ℕ). Some (reports.Plugged (record { slot = slot; subslot = n; number = alarm.alarm_specifier % 0x800 })))
    (ap (λ (c : LowChange). subslot_of c) is.is ∙ is.subslot_is))

pub plug_waits : (slot subslot : ℕ) (queued : QueuedAlarm) → IsPlugQueued slot subslot queued → plugs_at slot subslot queued.change ≡ true
plug_waits slot subslot queued is =
    ap (λ (c : LowChange). plugs_at slot subslot c) is.is
    ∙ and_from (is_plug is.change.kind) (is.change.slot == slot && is.change.subslot == subslot) (ap is_plug is.kind)
    (and_from (is.change.slot == slot) (is.change.subslot == subslot) (eq-eqb is.change.slot slot is.slot_is) (eq-eqb is.change.subslot subslot is.subslot_is))

plug_reaches : (slot subslot : ℕ) (change : LowChange) → plugs_at slot subslot change ≡ true → reaches_at slot subslot change ≡ true
plug_reaches slot subslot (change_is.Diagnosis made) e = absurd (false≢true e)
plug_reaches slot subslot (change_is.Module made) e =
    let at = and_parts (made.slot == slot) (made.subslot == subslot) (and_parts (is_plug made.kind) (made.slot == slot && made.subslot == subslot) e).1 in
    reach_there made slot subslot (eqb-true made.slot slot at.0) (eqb-true made.subslot subslot at.1)

pub plug_touches : (slot subslot : ℕ) (queued : QueuedAlarm) → plugs_at slot subslot queued.change ≡ true → touches slot subslot queued ≡ true
plug_touches slot subslot queued e = ap (λ (b : Bool). b || concerns slot subslot (alarm_of 0 queued)) (plug_reaches slot subslot queued.change e)

-- Where nothing that waits touches a place, no plug of it waits.
pub untouched_plugs : (slot subslot : ℕ) (waiting : List QueuedAlarm) → list_any (touches slot subslot) waiting ≡ false → waits_for_plug slot subslot waiting ≡ false
untouched_plugs slot subslot [] none = refl
untouched_plugs slot subslot (queued ∷ waiting) none =
    let parts = or_parts (touches slot subslot queued) (list_any (touches slot subslot) waiting) none in
    or_none (plugs_at slot subslot queued.change) (waits_for_plug slot subslot waiting) (by_plug (plugs_at slot subslot queued.change) refl parts.0)
    (untouched_plugs slot subslot waiting parts.1)
  where
    by_plug : (b : Bool) → plugs_at slot subslot queued.change ≡ b → touches slot subslot queued ≡ false → b ≡ false
    by_plug true e untouched = absurd (true≢false (sym (plug_touches slot subslot queued e) ∙ untouched))
    by_plug false e untouched = refl

-- ---- what waits, by the step of a place

-- The last that touches a place is a plug of it.
pub record LastQueued (slot subslot : ℕ) (waiting : List QueuedAlarm) : Type 0 where
  pub front : List QueuedAlarm
  pub queued : QueuedAlarm
  pub rest : List QueuedAlarm
  pub are : waiting ≡ front ++ queued ∷ rest
  pub plug : IsPlugQueued slot subslot queued
  pub none : list_any (touches slot subslot) rest ≡ false

abbrev pub Waits : ℕ → ℕ → Step → List QueuedAlarm → Type 0
Waits slot subslot Settled waiting = list_any (touches slot subslot) waiting ≡ false
Waits slot subslot Pulled waiting = Unit {0}
Waits slot subslot Plugged waiting = LastQueued slot subslot waiting
Waits slot subslot (Told number) waiting = list_any (touches slot subslot) waiting ≡ false
Waits slot subslot (Ended number) waiting = list_any (touches slot subslot) waiting ≡ false
Waits slot subslot Refused waiting = list_any (touches slot subslot) waiting ≡ false

-- More that does not touch it.
pub waits_more : (slot subslot : ℕ) (step : Step) (waiting more : List QueuedAlarm) → list_any (touches slot subslot) more ≡ false
    → Waits slot subslot step waiting → Waits slot subslot step (waiting ++ more)
waits_more slot subslot Settled waiting more none waits = any_more (touches slot subslot) waiting more waits none
waits_more slot subslot Pulled waiting more none waits = tt
waits_more slot subslot Plugged waiting more none waits = record {
  front = waits.front;
  queued = waits.queued;
  rest = waits.rest ++ more;
  are = ap (λ (ws : List QueuedAlarm). ws ++ more) waits.are ∙ append_assoc waits.front (waits.queued ∷ waits.rest) more;
  plug = waits.plug;
  none = any_more (touches slot subslot) waits.rest more waits.none none;
}
waits_more slot subslot (Told number) waiting more none waits = any_more (touches slot subslot) waiting more waits none
waits_more slot subslot (Ended number) waiting more none waits = any_more (touches slot subslot) waiting more waits none
waits_more slot subslot Refused waiting more none waits = any_more (touches slot subslot) waiting more waits none

-- ---- a change of diagnosis touches no place

diagnosed_untouched : (slot subslot : ℕ) (real : List RealModule) (notice : Notice) → touches slot subslot (diagnosis_queued real notice) ≡ false
diagnosed_untouched slot subslot real notice = by_appears notice.change.appears refl
  where
    by_appears : (b : Bool) → notice.change.appears ≡ b → touches slot subslot (diagnosis_queued real notice) ≡ false
    by_appears true e = rw e refl
    by_appears false e = rw e refl

pub one_untouched : (slot subslot : ℕ) (real : List RealModule) (notice : Notice) → list_any (touches slot subslot) (diagnosis_queued real notice ∷ []) ≡ false
one_untouched slot subslot real notice = or_none (touches slot subslot (diagnosis_queued real notice)) false (diagnosed_untouched slot subslot real notice) refl

pub first_untouched : (slot subslot : ℕ) (real : List RealModule) (n : ℕ) (notices : List Notice)
    → list_any (touches slot subslot) (take n (map (diagnosis_queued real) notices)) ≡ false
first_untouched slot subslot real zero notices = refl
first_untouched slot subslot real (suc n) [] = refl
first_untouched slot subslot real (suc n) (one ∷ notices) =
    or_none (touches slot subslot (diagnosis_queued real one)) (list_any (touches slot subslot) (take n (map (diagnosis_queued real) notices)))
    (diagnosed_untouched slot subslot real one) (first_untouched slot subslot real n notices)

-- ---- a pull or a plug touches the places that it affects, and no others

pub record IsReached (made : RealChange) : Type 0 where
  pub apart : (has : ℕ → ℕ → Bool) (asks differs : Bool) (later : List Diagnosis) (slot subslot : ℕ) → covers (affected_by made) slot subslot ≡ false
      → touches slot subslot (module_queued has (alarmed made asks differs) made later) ≡ false

module _ (has : ℕ → ℕ → Bool) (later : List Diagnosis) (at there : ℕ) where
  pulled_outside : (real : List RealModule) (slot subslot : ℕ) (asks differs : Bool) → (subslot == 0) ≡ false → (slot == at && subslot == there) ≡ false
      → touches at there (module_queued has (alarmed (pull_of real slot subslot) asks differs) (pull_of real slot subslot) later) ≡ false
  pulled_outside real slot subslot asks differs past apart =
      or_none (slot == at && reaches (cond (subslot == 0) None (Some subslot)) there) (slot == at && reaches (cond (subslot == 0) None (Some subslot)) there) one one
    where
      one : (slot == at && reaches (cond (subslot == 0) None (Some subslot)) there) ≡ false
      one = ap (λ (b : Bool). slot == at && reaches (cond b None (Some subslot)) there) past ∙ apart

  slot_outside : (real : List RealModule) (slot : ℕ) (asks differs : Bool) → (slot == at && true) ≡ false
      → touches at there (module_queued has (alarmed (slot_pull_of real slot) asks differs) (slot_pull_of real slot) later) ≡ false
  slot_outside real slot true differs apart = or_none (slot == at && true) (slot == at && true) apart apart
  slot_outside real slot false differs apart = or_none (slot == at && true) (slot == at && true) apart apart

  plug_outside : (slot ident : ℕ) (part : RealSubmodule) (asks differs : Bool) → (part.subslot == 0) ≡ false → (slot == at && part.subslot == there) ≡ false
      → touches at there (module_queued has (alarmed (plug_of slot ident part) asks differs) (plug_of slot ident part) later) ≡ false
  plug_outside slot ident part asks differs past apart = by_differs differs
    where
      reached : (slot == at && reaches (cond (part.subslot == 0) None (Some part.subslot)) there) ≡ false
      reached = ap (λ (b : Bool). slot == at && reaches (cond b None (Some part.subslot)) there) past ∙ apart

      concerned : (at == slot && there == part.subslot) ≡ false
      concerned = ap (λ (b : Bool). b && there == part.subslot) (flipped at slot) ∙ (ap (λ (b : Bool). slot == at && b) (flipped there part.subslot) ∙ apart)

      by_differs : (b : Bool) → touches at there (module_queued has (alarmed (plug_of slot ident part) asks b) (plug_of slot ident part) later) ≡ false
      by_differs true = or_none (slot == at && reaches (cond (part.subslot == 0) None (Some part.subslot)) there) (at == slot && there == part.subslot) reached concerned
      by_differs false = or_none (slot == at && reaches (cond (part.subslot == 0) None (Some part.subslot)) there) (at == slot && there == part.subslot) reached concerned

is_outside : (slot : ℕ) (o : Option (List RealModule)) (now : List RealModule) → outside slot o ≡ Some now → o ≡ Some now
is_outside slot o now e = by_test (nat_lt 0 slot) e
  where
    by_test : (b : Bool) → cond b o None ≡ Some now → o ≡ Some now
    by_test true f = f
    by_test false f = absurd cc

past_zero : (subslot : ℕ) → 0 < subslot → (subslot == 0) ≡ false
past_zero subslot more = ne_eqb subslot 0 (λ e. omega (arith, more, e))

-- no module is plugged in subslot 0
plug_past_zero : (slot ident : ℕ) (part : RealSubmodule) (real now : List RealModule) → plugged_with slot ident part real ≡ Some now → (part.subslot == 0) ≡ false
plug_past_zero slot ident part real now e = by_test (is_pluggable slot ident part real) refl e
  where
    by_test : (b : Bool) → is_pluggable slot ident part real ≡ b → cond b (Some (added slot ident part real)) None ≡ Some now → (part.subslot == 0) ≡ false
    by_test true f g =
        let sized = (and_parts (not (ident == 0)) _ (and_parts (nat_le slot 15) _ (and_parts (nat_lt 0 slot) _ f).1).1).1 in
        past_zero part.subslot (ltb-true 0 part.subslot (and_parts (nat_lt 0 part.subslot) _ (and_parts (is_sized part) _ sized).0).0)
    by_test false f g = absurd cc

-- What an event of the application does to the modules reaches only the places that it affects.
pub reached_so : (real now : List RealModule) (heard : Heard) (made : RealChange) → NoneIsAtZero real → change_by real heard ≡ Some made → modules_after real heard ≡ Some now → IsReached made
reached_so real now (Applied (local.Pull slot subslot)) made none is after =
    let past = past_zero subslot (pull_past_zero slot subslot real now none (is_outside slot (pulled slot subslot real) now after)) in
    subst (λ (m : RealChange). IsReached m) (some_is (pull_of real slot subslot) made is)
    (record { apart = λ has asks differs later at there apart. pulled_outside has later at there real slot subslot asks differs past apart })
reached_so real now (Applied (local.PullModule slot)) made none is after =
    subst (λ (m : RealChange). IsReached m) (some_is (slot_pull_of real slot) made is)
    (record { apart = λ has asks differs later at there apart. slot_outside has later at there real slot asks differs apart })
reached_so real now (Applied (local.Plug slot ident part)) made none is after =
    let past = plug_past_zero slot ident part real now after in
    subst (λ (m : RealChange). IsReached m) (some_is (plug_of slot ident part) made is)
    (record { apart = λ has asks differs later at there apart. plug_outside has later at there slot ident part asks differs past apart })
reached_so real now other made none is after = absurd cc

-- A change that plugs the expected submodule of a place is the plug of it.
pub plug_queued : (made : RealChange) (asks : Bool) (has : ℕ → ℕ → Bool) (later : List Diagnosis) (slot subslot : ℕ) → made.kind ≡ made_is.Plug
    → covers (affected_by made) slot subslot ≡ true → IsPlugQueued slot subslot (module_queued has (alarmed made asks false) made later)
plug_queued made asks has later slot subslot kind covered =
    let at = and_parts (made.slot == slot) (made.subslot == subslot) (sym (ap (λ (k : ChangeKind). made.slot == slot && reaches (subslot_by k made.subslot) subslot) kind) ∙ covered) in
    record {
      change = alarmed made asks false;
      is = refl;
      kind = ap (λ (k : ChangeKind). kind_by k asks false) kind;
      slot_is = eqb-true made.slot slot at.0;
      subslot_is = eqb-true made.subslot subslot at.1;
    }

-- ---- numbers

with_both : (number many : ℕ) → number ≡ many % 2048 → (number + 0x2800 + 0x8000) % 0x800 ≡ many % 0x800
with_both number many e = omega (arith, e)

with_first : (number many : ℕ) → number ≡ many % 2048 → (number + 0x2800 + 0) % 0x800 ≡ many % 0x800
with_first number many e = omega (arith, e)

with_second : (number many : ℕ) → number ≡ many % 2048 → (number + 0 + 0x8000) % 0x800 ≡ many % 0x800
with_second number many e = omega (arith, e)

with_none : (number many : ℕ) → number ≡ many % 2048 → (number + 0 + 0) % 0x800 ≡ many % 0x800
with_none number many e = omega (arith, e)

-- The SequenceNumber of an alarm.
pub specifier_is : (number many : ℕ) (queued : QueuedAlarm) → number ≡ many % 2048 → (alarm_of number queued).alarm_specifier % 0x800 ≡ many % 0x800
specifier_is number many queued e = by_flags queued.is_any_at_submodule queued.is_any_in_relation
  where
    by_flags : (one other : Bool) → (number + flag one 0x2800 + flag other 0x8000) % 0x800 ≡ many % 0x800
    by_flags true true = with_both number many e
    by_flags true false = with_first number many e
    by_flags false true = with_second number many e
    by_flags false false = with_none number many e

none_more : (first : ℕ) → first + 0 ≡ first
none_more first = omega arith

one_more : (first many : ℕ) → first + suc many ≡ suc first + many
one_more first many = omega arith

pub numbered_more : (first : ℕ) (alarms : List AlarmNotification) (alarm : AlarmNotification) → AreNumberedFrom first alarms
    → alarm.alarm_specifier % 0x800 ≡ (first + length alarms) % 0x800 → AreNumberedFrom first (alarms ++ alarm ∷ [])
numbered_more first [] alarm all e = (e ∙ ap (λ (n : ℕ). n % 0x800) (none_more first), tt)
numbered_more first (one ∷ alarms) alarm all e = (all.0, numbered_more (suc first) alarms alarm all.1 (e ∙ ap (λ (n : ℕ). n % 0x800) (one_more first (length alarms))))

-- ---- what was reported

-- More that does not concern a place.
pub told_more : (slot subslot number : ℕ) (alarms now : List AlarmNotification) → concerns_any slot subslot now ≡ false → LastPlug slot subslot number alarms
    → LastPlug slot subslot number (alarms ++ now)
told_more slot subslot number alarms now none told = record {
  front = told.front;
  alarm = told.alarm;
  rest = told.rest ++ now;
  are = ap (λ (xs : List AlarmNotification). xs ++ now) told.are ∙ append_assoc told.front (told.alarm ∷ told.rest) now;
  count = told.count;
  plug = told.plug;
  none = any_more (concerns slot subslot) told.rest now told.none none;
}
