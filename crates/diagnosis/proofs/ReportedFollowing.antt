-- The list of a controller, after the alarm of a change that the device accepted.
use Rattle.std.proofs.Common.{◌≡◌, ◌==◌, ◌&&◌, ◌||◌, ◌++◌, ◌<◌, ◌≤◌, ◌^◌, ℕ, Bool, true, false, not, List, [], ◌∷◌, length, Option, Some, None, Ok, refl, sym, ap, ◌∙◌, inl, inr, arith, if◌then◌else◌}
use Rattle.std.specs.Prelude.{nat_lt}
use Rattle.std.specs.List.{filter}
use Rattle.std.proofs.lemmas.Bool.{and_parts, cases_Bool, eqb-true, lt-ltb, ltb-true, not-true, true≢false}
use Rattle.std.proofs.lemmas.List.{append-nil}
use Rattle.std.proofs.lemmas.List.Elements.{filter-append}
use Rattle.std.proofs.lemmas.List.Filters.{length-filter_both}
use Rattle.std.proofs.lemmas.Map.Views.{any-filter_same}
use Rattle.wire.specs.Codec.{IsSound}
use Rattle.wire.proofs.Joined.{then_by_sound, seen_sound}
use Rattle.wire.specs.blocks.Fields.{number_bytes}
use Rattle.wire.proofs.BlocksSound.{numeral_sound}
use Rattle.diagnosis.specs.Existing.{changed, exists, is_at, is_same, is_valid, others, remaining}
use Rattle.diagnosis.specs.Notices.{channel_bytes, properties_of}
use Rattle.diagnosis.specs.declared.diagnosis.Change.{Change}
use Rattle.diagnosis.specs.declared.diagnosis.Diagnosis.{Diagnosis}
use Rattle.record_blocks.specs.declared.alarm_notification.AlarmNotification.{AlarmNotification}
use Rattle.diagnosis.specs.declared.reports.report.Report.{Report}
use Rattle.diagnosis.specs.declared.reported.channel.Channel.{Channel}
use Rattle.diagnosis.specs.declared.reported.channel.ChannelReport.{ChannelReport}
use Rattle.diagnosis.specs.declared.reported.channel.Specifier.{Specifier}
use Rattle.diagnosis.specs.declared.reported.channel.Specifier.TheVariants.{Appears, Disappears}
use Rattle.module_diff.specs.declared.changes.Affected.{Affected}
use Rattle.module_diff.specs.Changes.{covers}
use Rattle.diagnosis.specs.reported.Channel.{channel, channel_by, channel_report, is_channel_diagnosis, is_channel_structure, report_by, report_of, specifier_in}
use Rattle.diagnosis.specs.reported.Followed.{Reports, at_places}
use Rattle.diagnosis.specs.reported.Pulled.{pulled_by, pulled_by_type}
use Rattle.diagnosis.specs.reported.Reported.{Reported, after_found, after_pull, after_report, after_specifier}

-- ---- lists

taken : {A : Type 0} (b : Bool) (x after : A) → (if b then Some x else None) ≡ Some after → (b ≡ true) × (x ≡ after)
taken true x after e = (refl, cc)
taken false x after e = absurd cc

swap_step : {X : Type 0} (p q : X → Bool) (x : X) (xs : List X) (b c : Bool) → p x ≡ b → q x ≡ c → filter p (filter q xs) ≡ filter q (filter p xs)
    → filter p (if c then x ∷ filter q xs else filter q xs) ≡ filter q (if b then x ∷ filter p xs else filter p xs)
swap_step p q x xs true true one other same = rw (one, other) (ap (λ (ys : List _). x ∷ ys) same)
swap_step p q x xs true false one other same = rw other same
swap_step p q x xs false true one other same = rw one same
swap_step p q x xs false false one other same = same

filter_swap : {X : Type 0} (p q : X → Bool) (xs : List X) → filter p (filter q xs) ≡ filter q (filter p xs)
filter_swap p q [] = refl
filter_swap p q (x ∷ xs) = swap_step p q x xs (p x) (q x) refl refl (filter_swap p q xs)

filter_few : {X : Type 0} (p : X → Bool) (xs : List X) → length (filter p xs) ≤ length xs
filter_few p xs = omega (arith, length-filter_both p (λ x. not (p x)) (λ _. refl) xs)

-- ---- diagnoses at some submodules

same_place : (one other : Diagnosis) → is_same one other ≡ true → (other.slot ≡ one.slot) × (other.subslot ≡ one.subslot)
same_place one other is =
    let place = (and_parts (is_at one.slot one.subslot other) (one.channel == other.channel && one.error == other.error) is).0 in
    let parts = and_parts (other.slot == one.slot) (other.subslot == one.subslot) place in
    (eqb-true other.slot one.slot parts.0, eqb-true other.subslot one.subslot parts.1)

module _ (has : ℕ → ℕ → Bool) (one : Diagnosis) where
  abbrev here : Diagnosis → Bool
  here diagnosis = has diagnosis.slot diagnosis.subslot

  here_same : (other : Diagnosis) → is_same one other ≡ true → here other ≡ here one
  here_same other is = let place = same_place one other is in rw (place.0, place.1) refl

  exists_here : here one ≡ true → (diagnoses : List Diagnosis) → exists one (at_places has diagnoses) ≡ exists one diagnoses
  exists_here there diagnoses = any-filter_same (is_same one) here true (λ other is. here_same other is ∙ there) diagnoses

  others_here : (diagnoses : List Diagnosis) → at_places has (others one diagnoses) ≡ others one (at_places has diagnoses)
  others_here diagnoses = filter_swap here (λ other. not (is_same one other)) diagnoses

  alone_here : here one ≡ true → filter here (one ∷ []) ≡ one ∷ []
  alone_here there = rw there refl

  alone_away : here one ≡ false → filter here (one ∷ []) ≡ []
  alone_away away = rw away refl

  appended : here one ≡ true → (diagnoses : List Diagnosis) → at_places has (diagnoses ++ one ∷ []) ≡ at_places has diagnoses ++ one ∷ []
  appended there diagnoses =
      filter-append here diagnoses (one ∷ []) ∙ ap (λ (more : List Diagnosis). at_places has diagnoses ++ more) (alone_here there)

  not_appended : here one ≡ false → (diagnoses : List Diagnosis) → at_places has (diagnoses ++ one ∷ []) ≡ at_places has diagnoses
  not_appended away diagnoses =
      filter-append here diagnoses (one ∷ [])
      ∙ (ap (λ (more : List Diagnosis). at_places has diagnoses ++ more) (alone_away away) ∙ append-nil (at_places has diagnoses))

  away_step : here one ≡ false → (other : Diagnosis) (diagnoses : List Diagnosis) (b c : Bool) → here other ≡ b → is_same one other ≡ c
      → at_places has (others one diagnoses) ≡ at_places has diagnoses
      → filter here (if not c then other ∷ others one diagnoses else others one diagnoses) ≡ (if b then other ∷ at_places has diagnoses else at_places has diagnoses)
  away_step away other diagnoses true true is same rest = absurd (true≢false (sym is ∙ (here_same other same ∙ away)))
  away_step away other diagnoses true false is same rest = rw is (ap (λ (more : List Diagnosis). other ∷ more) rest)
  away_step away other diagnoses false true is same rest = rest
  away_step away other diagnoses false false is same rest = rw is rest

  others_away : here one ≡ false → (diagnoses : List Diagnosis) → at_places has (others one diagnoses) ≡ at_places has diagnoses
  others_away away [] = refl
  others_away away (other ∷ diagnoses) =
      away_step away other diagnoses (here other) (is_same one other) refl refl (others_away away diagnoses)

  -- ---- a change

  abbrev change_by : Bool → Change
  change_by appears = record { diagnosis = one; appears = appears }

  abbrev said_by : Bool → Specifier
  said_by appears = if appears then Appears else Disappears

  abbrev list_of : ℕ → List Diagnosis → Reported
  list_of left_out diagnoses = record { existing = diagnoses; left_out = left_out }

  follows_by : (appears : Bool) (before after : List Diagnosis) (left_out : ℕ) → here one ≡ true → changed (change_by appears) before ≡ Some after
      → after_specifier (said_by appears) one (list_of left_out (at_places has before)) ≡ list_of left_out (at_places has after)
  follows_by true before after left_out there e =
      let now = taken (is_valid one && (not (exists one before) && nat_lt (length before) 32)) (before ++ one ∷ []) after e in
      let open_room = and_parts (not (exists one before)) (nat_lt (length before) 32) (and_parts (is_valid one) (not (exists one before) && nat_lt (length before) 32) now.0).1 in
      let absent : exists one (at_places has before) ≡ false = exists_here there before ∙ not-true (exists one before) open_room.0 in
      let few : nat_lt (length (at_places has before)) 256 ≡ true =
      lt-ltb (length (at_places has before)) 256 (omega (arith, filter_few here before, ltb-true (length before) 32 open_room.1)) in
      rw (absent, few) (ap (list_of left_out) (sym (appended there before) ∙ ap (at_places has) now.1))
  follows_by false before after left_out there e =
      let now = taken (exists one before) (others one before) after e in
      ap (list_of left_out) (sym (others_here before) ∙ ap (at_places has) now.1)

  elsewhere_by : (appears : Bool) (before after : List Diagnosis) → here one ≡ false → changed (change_by appears) before ≡ Some after
      → at_places has after ≡ at_places has before
  elsewhere_by true before after away e =
      let now = taken (is_valid one && (not (exists one before) && nat_lt (length before) 32)) (before ++ one ∷ []) after e in
      ap (at_places has) (sym now.1) ∙ not_appended away before
  elsewhere_by false before after away e =
      let now = taken (exists one before) (others one before) after e in
      ap (at_places has) (sym now.1) ∙ others_away away before

-- ---- its alarm

channel_sound : IsSound channel
unfolding channel
channel_sound = seen_sound _ _ _ (λ _. refl) (then_by_sound _ _ (numeral_sound 2) (λ _. then_by_sound _ _ (numeral_sound 2) (λ _. numeral_sound 2)))

abbrev written : Change → Channel
written change = record { number = change.diagnosis.channel; properties = properties_of change; error = change.diagnosis.error }

small_properties : (appears : Bool) → (if appears then 0x0800 else 0x1000) < 256 ^ 2
small_properties true = omega arith
small_properties false = omega arith

written_fits : (change : Change) → change.diagnosis.channel < 65536 → change.diagnosis.error < 65536 → channel.Fits (written change)
unfolding channel
written_fits change number error = (omega (arith, number), (small_properties change.appears, omega (arith, error)))

written_so : (change : Change) → channel_bytes change ≡ channel.write (written change) []
unfolding channel number_bytes
written_so change = refl

read_back : (change : Change) → change.diagnosis.channel < 65536 → change.diagnosis.error < 65536 → channel.read (channel_bytes change) ≡ Ok (written change, [])
read_back change number error =
    ap (λ (bytes : List ℕ). channel.read bytes) (written_so change)
    ∙ channel_sound.again (channel.write (written change) []) (written change) [] (channel_sound.written (written change) [] (written_fits change number error))

specifier_is : (appears : Bool) → specifier_in (if appears then 0x0800 else 0x1000) ≡ (if appears then Appears else Disappears)
specifier_is true = refl
specifier_is false = refl

kind_is : (appears : Bool) → (((if appears then 1 else 0x000C) == 1 || (if appears then 1 else 0x000C) == 0x000C) && true) ≡ true
kind_is true = refl
kind_is false = refl

is_diagnosis : (change : Change) (report : Report) → Reports change report → is_channel_diagnosis report ≡ true
is_diagnosis change report reports = rw (reports.kind, reports.structure) (kind_is change.appears)

abbrev said : Change → ChannelReport
said change = record { diagnosis = change.diagnosis; specifier = if change.appears then Appears else Disappears }

report_is : (change : Change) (alarm : AlarmNotification) → alarm.slot_number ≡ change.diagnosis.slot → alarm.subslot_number ≡ change.diagnosis.subslot
    → report_of alarm (written change) ≡ said change
report_is change alarm slot subslot = rw (slot, subslot) (ap (λ (specifier : Specifier). let r : ChannelReport = record { diagnosis = change.diagnosis; specifier = specifier } in r) (specifier_is change.appears))

reads : (change : Change) (report : Report) → Reports change report → change.diagnosis.channel < 65536 → change.diagnosis.error < 65536
    → channel_report report ≡ Some (said change)
reads change report reports number error =
    let octets : channel.read report.notification.alarm_data ≡ Ok (written change, []) =
    ap (λ (bytes : List ℕ). channel.read bytes) reports.octets ∙ read_back change number error in
    let is = is_diagnosis change report reports in
    rw (is, octets) (ap (λ (r : ChannelReport). Some r) (report_is change report.notification reports.slot reports.subslot))

-- It reports no pull.
not_by_type : (appears : Bool) (alarm : AlarmNotification) → alarm.alarm_type ≡ (if appears then 1 else 0x000C) → pulled_by_type alarm ≡ None
not_by_type true alarm is = rw is refl
not_by_type false alarm is = rw is refl

not_in_api : (b : Bool) (gone : Option Affected) → gone ≡ None → (if b then gone else None) ≡ None
not_in_api true gone is = is
not_in_api false gone is = refl

not_pulled : (change : Change) (report : Report) → Reports change report → pulled_by report ≡ None
not_pulled change report reports =
    not_in_api (report.notification.api == 0) (pulled_by_type report.notification) (not_by_type change.appears report.notification reports.kind)

pub follows : (has : ℕ → ℕ → Bool) (change : Change) (report : Report) (before after : List Diagnosis) (left_out : ℕ) → Reports change report
    → change.diagnosis.channel < 65536 → change.diagnosis.error < 65536 → has change.diagnosis.slot change.diagnosis.subslot ≡ true
    → changed change before ≡ Some after
    → after_report report (record { existing = at_places has before; left_out = left_out }) ≡ record { existing = at_places has after; left_out = left_out }
follows has change report before after left_out reports number error there e =
    let old : Reported = record { existing = at_places has before; left_out = left_out } in
    ap (λ (gone : Option Affected). after_pull gone (after_found (channel_report report) old)) (not_pulled change report reports)
    ∙ (ap (λ (found : Option ChannelReport). after_found found old) (reads change report reports number error)
    ∙ follows_by has change.diagnosis change.appears before after left_out there e)

pub elsewhere : (has : ℕ → ℕ → Bool) (change : Change) (before after : List Diagnosis) → has change.diagnosis.slot change.diagnosis.subslot ≡ false
    → changed change before ≡ Some after → at_places has after ≡ at_places has before
elsewhere has change before after away e = elsewhere_by has change.diagnosis change.appears before after away e

-- ---- the alarm of a pull

-- Its type is not that of a diagnosis.
type_apart : (kind : ℕ) (one other : Option Affected) (gone : Affected)
    → (if kind == 0x0003 then one else if kind == 0x001F then other else None) ≡ Some gone → (kind == 1 || kind == 0x000C) ≡ false
type_apart kind one other gone e =
    elim (cases_Bool (kind == 0x0003)) [
      | inl t ↦ ap (λ (k : ℕ). k == 1 || k == 0x000C) (eqb-true kind 0x0003 t)
      | inr f ↦
          let second : (if kind == 0x001F then other else None) ≡ Some gone =
          sym (ap (λ (b : Bool). let o : Option Affected = if b then one else if kind == 0x001F then other else None in o) f) ∙ e in
          elim (cases_Bool (kind == 0x001F)) [
            | inl t ↦ ap (λ (k : ℕ). k == 1 || k == 0x000C) (eqb-true kind 0x001F t)
            | inr g ↦
                let none : ◌≡◌ {A = Option Affected} None (Some gone) =
                sym (ap (λ (b : Bool). let o : Option Affected = if b then other else None in o) g) ∙ second in
                absurd cc
          ]
    ]

in_api : (b : Bool) (found : Option Affected) (gone : Affected) → (if b then found else None) ≡ Some gone → found ≡ Some gone
in_api true found gone e = e
in_api false found gone e = absurd cc

no_channel : (gone : Affected) (report : Report) → pulled_by report ≡ Some gone → channel_report report ≡ None
no_channel gone report e =
    let alarm = report.notification in
    let apart = type_apart alarm.alarm_type _ _ gone (in_api (alarm.api == 0) (pulled_by_type alarm) gone e) in
    ap (λ (b : Bool). let o : Option ChannelReport = if b && is_channel_structure report.user_structure then report_by alarm (channel_by (channel.read alarm.alarm_data)) else None in o) apart

pub pulls : (has : ℕ → ℕ → Bool) (gone : Affected) (report : Report) (before : List Diagnosis) (left_out : ℕ) → pulled_by report ≡ Some gone
    → after_report report (record { existing = at_places has before; left_out = left_out })
    ≡ record { existing = at_places has (remaining gone before); left_out = left_out }
pulls has gone report before left_out e =
    let old : Reported = record { existing = at_places has before; left_out = left_out } in
    ap (λ (found : Option Affected). after_pull found (after_found (channel_report report) old)) e
    ∙ (ap (λ (found : Option ChannelReport). after_pull (Some gone) (after_found found old)) (no_channel gone report e)
    ∙ ap (λ (xs : List Diagnosis). let r : Reported = record { existing = xs; left_out = left_out } in r)
    (filter_swap (λ (one : Diagnosis). not (covers gone one.slot one.subslot)) (λ (one : Diagnosis). has one.slot one.subslot) before))
