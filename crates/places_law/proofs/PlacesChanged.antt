-- What a pull or a plug makes of the submodules that a Connect expects, and what its alarm reports of them.
use Rattle.std.proofs.Common.{◌≡◌, ◌==◌, ◌&&◌, ◌++◌, ℕ, Bool, true, false, cond, not, List, [], ◌∷◌, Option, Some, None, refl, sym, ap, subst, ◌∙◌, arith}
use Rattle.std.specs.Prelude.{nat_lt}
use Rattle.std.proofs.lemmas.Bool.{and_parts, eqb-true, ne_eqb, true≢false}
use Rattle.pn_values.specs.declared.real.RealModule.{RealModule}
use Rattle.pn_values.specs.declared.real.RealSubmodule.{RealSubmodule}
use Rattle.record_blocks.specs.declared.alarm_notification.AlarmNotification.{AlarmNotification}
use Rattle.module_diff.specs.declared.changes.RealChange.{RealChange}
use Rattle.module_diff.specs.declared.expected.Expected.{Expected}
use Rattle.module_diff.specs.Changes.{covers, plugged_with, pulled, slot_pulled}
use Rattle.module_diff.specs.Diff.{diff_of, is_listed}
use Rattle.module_diff.specs.Plugged.{submodule_ident}
use Rattle.diagnosis.specs.declared.diagnosis.Change.{Change}
use Rattle.diagnosis.specs.declared.module_change.ModuleChange.{ModuleChange}
use Rattle.diagnosis.specs.declared.module_change.ModuleChangeKind.{ModuleChangeKind}
use Rattle.diagnosis.specs.declared.module_change.ModuleChangeKind.TheVariants as kind_is
use Rattle.diagnosis.specs.declared.queue.LowChange.{LowChange}
use Rattle.diagnosis.specs.declared.queue.LowChange.TheVariants as change_is
use Rattle.diagnosis.specs.declared.reports.priority.Priority.TheVariants.{Low}
use Rattle.diagnosis.specs.Notices.{type_of}
use Rattle.diagnosis.specs.Queue.{alarmed, kind_type}
use Rattle.plan_places.specs.declared.report.PlaceReport.{PlaceReport}
use Rattle.plan_places.specs.declared.report.PlaceReport.TheVariants as reports
use Rattle.plan_places.specs.Reports.{place_report, plug_of as plug_in, pulled_at, report_by_type}
use Rattle.device_core.specs.Modules.{outside, plug_of, pull_of, slot_pull_of}
use Rattle.device_frames.specs.declared.local.Local.TheVariants as local
use Rattle.device_frames.specs.Heard.{Heard, Applied}
use Rattle.end_laws.specs.device.Turn.{change_by, modules_after}
use Rattle.end_laws.specs.turns.Alarms.{report_as}
use Rattle.both_ends.specs.exchange.Sized.{NoneIsAtZero}
use Rattle.both_ends.specs.exchange.Told.{AreReports, IsReport, ReportsModule}
use Rattle.both_ends.proofs.ExchangeLists.{some_is}
use Rattle.both_ends.proofs.ExchangeOwn.{empty_own, is_expected, own_is, same_listed}
use Rattle.both_ends.proofs.ExchangeReal.{plug_same, pull_past_zero, pull_same, slot_pull_same}
use Rattle.places_law.specs.Agreed.{ArePluggedApart}
use Rattle.places_law.proofs.PlacesApart.{eqb_turned, plug_apart, pull_apart, pull_gone, slot_pull_apart, slot_pull_gone}
use Rattle.places_law.proofs.PlacesSeen.{seen_after, seen_by}

-- ---- changes

-- Whether a submodule is not as expected, after a change of this kind.
abbrev pub kind_after : ModuleChangeKind → ModuleChange → ℕ → ℕ → Bool → Bool
kind_after kind_is.Pull made slot subslot before = cond (covers (pulled_at made.slot made.subslot) slot subslot) true before
kind_after kind_is.PullModule made slot subslot before = cond (covers (pulled_at made.slot 0) slot subslot) true before
kind_after kind_is.Plug made slot subslot before = cond (slot == made.slot && subslot == made.subslot) false before
kind_after kind_is.PlugWrong made slot subslot before = cond (slot == made.slot && subslot == made.subslot) true before

abbrev pub change_after : LowChange → ℕ → ℕ → Bool → Bool
change_after (change_is.Diagnosis change) slot subslot before = before
change_after (change_is.Module made) slot subslot before = kind_after made.kind made slot subslot before

-- After these changes.
abbrev pub changes_after : List LowChange → ℕ → ℕ → Bool → Bool
changes_after [] slot subslot before = before
changes_after (change ∷ changes) slot subslot before = changes_after changes slot subslot (change_after change slot subslot before)

pub changes_more : (changes more : List LowChange) (slot subslot : ℕ) (before : Bool) → changes_after (changes ++ more) slot subslot before ≡ changes_after more slot subslot (changes_after changes slot subslot before)
changes_more [] more slot subslot before = refl
changes_more (change ∷ changes) more slot subslot before = changes_more changes more slot subslot (change_after change slot subslot before)

-- ---- what an alarm reports of it

-- an alarm of a change of diagnosis reports nothing of places
diagnosed_none : (change : Change) (alarm : AlarmNotification) → alarm.alarm_type ≡ type_of change → place_report (report_as Low alarm) ≡ None
diagnosed_none change alarm e = by_api (alarm.api == 0)
  where
    by_type : (n : ℕ) → alarm.alarm_type ≡ n → (n == 0x0003) ≡ false → (n == 0x001F) ≡ false → (n == 0x000A) ≡ false → (n == 0x0004) ≡ false → report_by_type alarm ≡ None
    by_type n f one two three four = rw (f, one, two, three, four) refl

    by_appears : (b : Bool) → alarm.alarm_type ≡ cond b 1 0x000C → report_by_type alarm ≡ None
    by_appears true f = by_type 1 f refl refl refl refl
    by_appears false f = by_type 0x000C f refl refl refl refl

    by_api : (b : Bool) → cond b (report_by_type alarm) None ≡ None
    by_api true = by_appears change.appears e
    by_api false = refl

module _ (made : ModuleChange) (alarm : AlarmNotification) (reported : ReportsModule made alarm) where
  abbrev report_with : ModuleChangeKind → PlaceReport
  report_with kind_is.Pull = reports.Pulled (pulled_at made.slot made.subslot)
  report_with kind_is.PullModule = reports.Pulled (pulled_at made.slot 0)
  report_with kind_is.Plug = reports.Plugged (plug_in alarm)
  report_with kind_is.PlugWrong = reports.PluggedWrong (plug_in alarm)

  report_is : place_report (report_as Low alarm) ≡ Some (report_with made.kind)
  report_is = ap (λ (n : ℕ). cond (n == 0) (report_by_type alarm) None) reported.api ∙ by_kind made.kind reported.type_is
    where
      by_kind : (kind : ModuleChangeKind) → alarm.alarm_type ≡ kind_type kind → report_by_type alarm ≡ Some (report_with kind)
      by_kind kind_is.Pull e = rw (e, reported.slot, reported.subslot) refl
      by_kind kind_is.PullModule e = rw (e, reported.slot) refl
      by_kind kind_is.Plug e = rw e refl
      by_kind kind_is.PlugWrong e = rw e refl

  module_seen : (slot subslot : ℕ) (before : Bool) → seen_after (place_report (report_as Low alarm)) slot subslot before ≡ kind_after made.kind made slot subslot before
  module_seen slot subslot before = ap (λ (o : Option PlaceReport). seen_after o slot subslot before) report_is ∙ by_kind made.kind
    where
      by_kind : (kind : ModuleChangeKind) → seen_after (Some (report_with kind)) slot subslot before ≡ kind_after kind made slot subslot before
      by_kind kind_is.Pull = refl
      by_kind kind_is.PullModule = refl
      by_kind kind_is.Plug = ap (λ (n : ℕ). cond (slot == n && subslot == alarm.subslot_number) false before) reported.slot ∙ ap (λ (n : ℕ). cond (slot == made.slot && subslot == n) false before) reported.subslot
      by_kind kind_is.PlugWrong = ap (λ (n : ℕ). cond (slot == n && subslot == alarm.subslot_number) true before) reported.slot ∙ ap (λ (n : ℕ). cond (slot == made.slot && subslot == n) true before) reported.subslot

one_seen : (change : LowChange) (alarm : AlarmNotification) → IsReport change alarm → (slot subslot : ℕ) (before : Bool)
    → seen_after (place_report (report_as Low alarm)) slot subslot before ≡ change_after change slot subslot before
one_seen (change_is.Diagnosis change) alarm is slot subslot before = ap (λ (o : Option PlaceReport). seen_after o slot subslot before) (diagnosed_none change alarm is.kind)
one_seen (change_is.Module made) alarm is slot subslot before = module_seen made alarm is slot subslot before

-- what alarms report is what the changes do
pub all_seen : (changes : List LowChange) (alarms : List AlarmNotification) → AreReports changes alarms → (slot subslot : ℕ) (before : Bool)
    → seen_by alarms slot subslot before ≡ changes_after changes slot subslot before
all_seen [] [] all slot subslot before = refl
all_seen [] (alarm ∷ alarms) all slot subslot before = absurd all
all_seen (change ∷ changes) [] all slot subslot before = absurd all
all_seen (change ∷ changes) (alarm ∷ alarms) all slot subslot before =
    ap (λ (b : Bool). seen_by alarms slot subslot b) (one_seen change alarm all.0 slot subslot before)
    ∙ all_seen changes alarms all.1 slot subslot (change_after change slot subslot before)

-- ---- a pull or a plug

is_outside : (slot : ℕ) (o : Option (List RealModule)) (now : List RealModule) → outside slot o ≡ Some now → o ≡ Some now
is_outside slot o now e = by_test (nat_lt 0 slot) e
  where
    by_test : (b : Bool) → cond b o None ≡ Some now → o ≡ Some now
    by_test true f = f
    by_test false f = absurd cc

-- where nothing is plugged, what is expected is listed
gone_listed : (expected : Expected) (now : List RealModule) (slot subslot : ℕ) → is_expected expected slot subslot ≡ true → submodule_ident now slot subslot ≡ None
    → is_listed slot subslot (diff_of expected now) ≡ true
gone_listed expected now slot subslot there none =
    by_listed (is_listed slot subslot (diff_of expected now)) (ap (λ (b : Bool). b && not (is_listed slot subslot (diff_of expected now))) (sym there)
    ∙ (sym (own_is expected now slot subslot) ∙ empty_own expected now slot subslot none))
  where
    by_listed : (b : Bool) → not b ≡ false → b ≡ true
    by_listed true e = refl
    by_listed false e = absurd (true≢false e)

-- What a change does to the submodules that are expected: what its alarm says.
pub record IsSeenChange (expected : Expected) (real now : List RealModule) (made : RealChange) : Type 0 where
  pub apart : ArePluggedApart now
  pub seen : (asks : Bool) (slot subslot : ℕ) → is_expected expected slot subslot ≡ true
      → change_after (change_is.Module (alarmed made asks (is_listed made.slot made.subslot (diff_of expected now)))) slot subslot (is_listed slot subslot (diff_of expected real))
      ≡ is_listed slot subslot (diff_of expected now)

module _ (expected : Expected) (real now : List RealModule) (none : NoneIsAtZero real) (apart : ArePluggedApart real) where
  pulled_seen : (slot subslot : ℕ) → pulled slot subslot real ≡ Some now → IsSeenChange expected real now (pull_of real slot subslot)
  pulled_seen slot subslot e = record { apart = pull_apart slot subslot real now apart e; seen = λ asks other there is. by_zero other there is (subslot == 0) past }
    where
      past : (subslot == 0) ≡ false
      past = let more = pull_past_zero slot subslot real now none e in ne_eqb subslot 0 (λ f. omega (arith, more, f))

      by_cover : (other there : ℕ) → is_expected expected other there ≡ true → (b : Bool) → (slot == other && subslot == there) ≡ b
          → cond b true (is_listed other there (diff_of expected real)) ≡ is_listed other there (diff_of expected now)
      by_cover other there is true f =
          let at = and_parts (slot == other) (subslot == there) f in
          sym (gone_listed expected now other there is
          (ap (λ (n : ℕ). submodule_ident now n there) (sym (eqb-true slot other at.0))
          ∙ (ap (λ (n : ℕ). submodule_ident now slot n) (sym (eqb-true subslot there at.1)) ∙ pull_gone slot subslot real now apart e)))
      by_cover other there is false f = sym (same_listed expected real now other there (pull_same slot subslot real now e other there f))

      by_zero : (other there : ℕ) → is_expected expected other there ≡ true → (b : Bool) → b ≡ false
          → cond (covers (record { slot = slot; subslot = cond b None (Some subslot) }) other there) true (is_listed other there (diff_of expected real))
          ≡ is_listed other there (diff_of expected now)
      by_zero other there is true f = absurd (true≢false f)
      by_zero other there is false f = by_cover other there is (slot == other && subslot == there) refl

  slot_pulled_seen : (slot : ℕ) → slot_pulled slot real ≡ Some now → IsSeenChange expected real now (slot_pull_of real slot)
  slot_pulled_seen slot e = record { apart = slot_pull_apart slot real now apart e; seen = λ asks other there is. by_asks asks other there is }
    where
      by_cover : (other there : ℕ) → is_expected expected other there ≡ true → (b : Bool) → (slot == other) ≡ b
          → cond (b && true) true (is_listed other there (diff_of expected real)) ≡ is_listed other there (diff_of expected now)
      by_cover other there is true f =
          sym (gone_listed expected now other there is (ap (λ (n : ℕ). submodule_ident now n there) (sym (eqb-true slot other f)) ∙ slot_pull_gone slot real now apart e there))
      by_cover other there is false f = sym (same_listed expected real now other there (slot_pull_same slot real now e other there f))

      by_asks : (asks : Bool) (other there : ℕ) → is_expected expected other there ≡ true
          → change_after (change_is.Module (alarmed (slot_pull_of real slot) asks (is_listed slot 0 (diff_of expected now)))) other there (is_listed other there (diff_of expected real))
          ≡ is_listed other there (diff_of expected now)
      by_asks true other there is = by_cover other there is (slot == other) refl
      by_asks false other there is = by_cover other there is (slot == other) refl

  plugged_seen : (slot ident : ℕ) (part : RealSubmodule) → plugged_with slot ident part real ≡ Some now → IsSeenChange expected real now (plug_of slot ident part)
  plugged_seen slot ident part e = record {
    apart = plug_apart slot ident part real now apart e;
    seen = λ asks other there is. by_differs other there (is_listed slot part.subslot (diff_of expected now)) refl;
  }
    where
      by_cover : (other there : ℕ) (differs : Bool) → is_listed slot part.subslot (diff_of expected now) ≡ differs → (b : Bool) → (other == slot && there == part.subslot) ≡ b
          → cond b differs (is_listed other there (diff_of expected real)) ≡ is_listed other there (diff_of expected now)
      by_cover other there differs f true g =
          let at = and_parts (other == slot) (there == part.subslot) g in
          sym f ∙ (ap (λ (n : ℕ). is_listed n part.subslot (diff_of expected now)) (sym (eqb-true other slot at.0))
          ∙ ap (λ (n : ℕ). is_listed other n (diff_of expected now)) (sym (eqb-true there part.subslot at.1)))
      by_cover other there differs f false g =
          sym (same_listed expected real now other there (plug_same slot ident part real now e other there
          (ap (λ (b : Bool). b && (part.subslot == there)) (eqb_turned slot other) ∙ (ap (λ (b : Bool). (other == slot) && b) (eqb_turned part.subslot there) ∙ g))))

      by_differs : (other there : ℕ) (differs : Bool) → is_listed slot part.subslot (diff_of expected now) ≡ differs
          → change_after (change_is.Module (alarmed (plug_of slot ident part) false differs)) other there (is_listed other there (diff_of expected real))
          ≡ is_listed other there (diff_of expected now)
      by_differs other there true f = by_cover other there true f (other == slot && there == part.subslot) refl
      by_differs other there false f = by_cover other there false f (other == slot && there == part.subslot) refl

  pub changed_seen : (heard : Heard) (made : RealChange) → change_by real heard ≡ Some made → modules_after real heard ≡ Some now → IsSeenChange expected real now made
  changed_seen (Applied (local.Pull slot subslot)) made is after =
      subst (λ (m : RealChange). IsSeenChange expected real now m) (some_is (pull_of real slot subslot) made is) (pulled_seen slot subslot (is_outside slot (pulled slot subslot real) now after))
  changed_seen (Applied (local.PullModule slot)) made is after =
      subst (λ (m : RealChange). IsSeenChange expected real now m) (some_is (slot_pull_of real slot) made is) (slot_pulled_seen slot (is_outside slot (slot_pulled slot real) now after))
  changed_seen (Applied (local.Plug slot ident part)) made is after =
      subst (λ (m : RealChange). IsSeenChange expected real now m) (some_is (plug_of slot ident part) made is) (plugged_seen slot ident part after)
  changed_seen other made is after = absurd cc

-- the modules are apart after it, whatever is expected
pub changed_apart : (real now : List RealModule) → ArePluggedApart real → (heard : Heard) (made : RealChange) → change_by real heard ≡ Some made → modules_after real heard ≡ Some now → ArePluggedApart now
changed_apart real now apart (Applied (local.Pull slot subslot)) made is after = pull_apart slot subslot real now apart (is_outside slot (pulled slot subslot real) now after)
changed_apart real now apart (Applied (local.PullModule slot)) made is after = slot_pull_apart slot real now apart (is_outside slot (slot_pulled slot real) now after)
changed_apart real now apart (Applied (local.Plug slot ident part)) made is after = plug_apart slot ident part real now apart after
changed_apart real now apart other made is after = absurd cc
