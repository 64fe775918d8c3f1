-- One operation of a host: the steps that it makes, and the frame that it fetches.
use Rattle.std.proofs.Common.{◌≡◌, ◌≢◌, ◌+◌, ◌-◌, ◌==◌, ◌++◌, ◌⊎◌, ℕ, zero, suc, Bool, true, false, List, [], ◌∷◌, length, take, drop, Option, Some, None, refl, sym, ap, ◌∙◌, arith, inl, inr}
use Rattle.std.specs.Prelude.{if◌then◌else◌, nat_le, nat_lt, not, option_map, replicate, slice_get, ◌&&◌, flat_map}
use Rattle.std.proofs.lemmas.Bool.{cases_Bool, eqb-true, false≢true}
use Rattle.std.proofs.lemmas.List.{append-nil, replicate_more, take_at}
use Rattle.std.proofs.lemmas.List.Concat.{flat_map-append}
use Rattle.record_blocks.specs.declared.alarm_notification.AlarmNotification.{AlarmNotification}
use Rattle.controller_core.specs.declared.stored.event.Event.{Event}
use Rattle.controller_core.specs.declared.stored.event.Event.TheVariants as event
use Rattle.controller_core.specs.declared.stored.state.RefusedRecord.{RefusedRecord}
use Rattle.controller_core.specs.Machine.{can_request, end_of, provider_of, report_in}
use Rattle.controller_messages.specs.Access.{record_of}
use Rattle.controller_messages.specs.declared.access.Answer.{Answer}
use Rattle.controller_station.specs.Runs.{after, after_event, all_at, sent}
use Rattle.controller_station.specs.Served.{Frames, Served, in_order}
use Rattle.cyclic_data.specs.declared.exchange.exchange.ProviderStatus.{ProviderStatus}
use Rattle.cyclic_data.specs.exchange.Process.{value_at}
use Rattle.diagnosis.specs.declared.diagnosis.Diagnosis.{Diagnosis}
use Rattle.diagnosis.specs.declared.reports.report.Report.{Report}
use Rattle.lldp.specs.Peer.{Peer}
use Rattle.lldp.specs.State.{Known}
use Rattle.rpc_core.specs.declared.response.Status.{Status}
use Rattle.c_layout.specs.declared.op.Op.{Op}
use Rattle.c_layout.specs.Places.{place_in}
use Rattle.controller_abi.specs.declared.operation.Operation.{Operation}
use Rattle.controller_abi.specs.declared.operation.Operation.TheVariants as operation
use Rattle.controller_abi.specs.Host.{Entry, accepted_by, all_sent, both, bytes_in, fetched_by, handed_in, handed_out}
use Rattle.controller_abi.specs.Outputs.{why_not_rated, why_not_read, why_not_set, why_not_written}
use Rattle.plan_places.specs.declared.place.PlaceState.{PlaceState}
use Rattle.plan_places.specs.Places.{state_at}
use Rattle.controller_abi.specs.Serves.{IsAlarm, IsAnswered, IsDiagnosis, IsEvent, IsGift, IsHandOut, IsInput, IsNeighbour, IsPlace, IsPlaceIn, IsProvider, IsProviderAt, IsRead, IsRefusal, IsRefusedRecord, IsReported, IsSet, IsStatus, IsTick, IsValue, IsWrite, Performs, ServesIf, index_in, planned_output, priority_in, why_no_place, with_next}
use Rattle.controller_abi.specs.State.{State, has_frames, is_over}
use Rattle.controller_abi.specs.State.{after as stepped}
use Rattle.controller_abi.specs.Steps.{Ticks}
use Rattle.controller_abi.proofs.Leaps.{idle_of, none_of}

-- ---- runs, one after another

pub after_both : (served : Served) (front back : List Event) → after served (front ++ back) ≡ after (after served front) back
after_both served [] back = refl
after_both served (one ∷ front) back = after_both (after_event served one) front back

sent_both : (served : Served) (front back : List Event) → sent served (front ++ back) ≡ sent served front ++ sent (after served front) back
sent_both served [] back = refl
sent_both served (one ∷ front) back = ap (λ (frames : List Frames). all_at served one ∷ frames) (sent_both (after_event served one) front back)

pub all_sent_both : (served : Served) (front back : List Event) → all_sent served (front ++ back) ≡ all_sent served front ++ all_sent (after served front) back
all_sent_both served front back = ap (flat_map in_order) (sent_both served front back) ∙ flat_map-append in_order (sent served front) (sent (after served front) back)

-- ---- what an operation did

pub record Turned (what : Option Operation) (old : State) (entry : Entry) (new : State) : Type 0 where
  pub steps : both new ≡ after (both old) (accepted_by what entry)
  pub frames : fetched_by what entry ++ new.frames ≡ old.frames ++ all_sent (both old) (accepted_by what entry)
  pub started : new.is_started ≡ old.is_started
  pub refused : entry.answer ≢ 0 → (new ≡ old) × (entry.reported ≡ entry.asked)
  pub waits : entry.answer ≡ 7 → old.frames ≢ []

zero_test : (n : ℕ) → n ≢ 0 → (n == 0) ≡ false
zero_test n some = elim (cases_Bool (n == 0)) [
  | inl is ↦ absurd (some (eqb-true n 0 is))
  | inr other ↦ other
]

some_frames : (frames : List (List ℕ)) → has_frames frames ≡ true → frames ≢ []
some_frames frames has none = false≢true (sym (ap has_frames none) ∙ has)

-- Why an event is refused, if it is: for frames that wait, only if frames wait.
abbrev IsWhy : Bool → Option ℕ → Type 0
IsWhy waits None = waits ≡ false
IsWhy waits (Some why) = (why ≢ 0) × (why ≡ 7 → waits ≡ true)

-- What is read is reported, or the operation is refused for another reason.
abbrev IsTold : Entry → Type 0
IsTold entry = (entry.answer ≡ 0) ⊎ ((entry.answer ≢ 0) × (entry.answer ≢ 7) × (entry.reported ≡ entry.asked))

module _ (what : Option Operation) (old : State) (entry : Entry) (new : State) where
  refuses : entry.answer ≢ 0 → (entry.answer ≡ 7 → old.frames ≢ []) → new ≡ old → entry.reported ≡ entry.asked → Turned what old entry new
  refuses some waits same as_was =
      let test = zero_test entry.answer some in
      let accepted : accepted_by what entry ≡ [] = ap (λ (b : Bool). if b then handed_in what entry else []) test in
      let fetched : fetched_by what entry ≡ [] = ap (λ (b : Bool). if b then handed_out what entry else []) test in
      record {
        steps = ap both same ∙ ap (after (both old)) (sym accepted);
        frames = ap (λ (f : List (List ℕ)). f ++ new.frames) fetched ∙ ap (λ (p : State). p.frames) same ∙ sym (append-nil old.frames)
            ∙ ap (λ (e : List Event). old.frames ++ all_sent (both old) e) (sym accepted);
        started = ap (λ (p : State). p.is_started) same;
        refused = λ is. (same, as_was);
        waits = waits;
      }

  answers : entry.answer ≡ 0 → (events : List Event) (out : List (List ℕ)) → handed_in what entry ≡ events → handed_out what entry ≡ out
      → both new ≡ after (both old) events → out ++ new.frames ≡ old.frames ++ all_sent (both old) events → new.is_started ≡ old.is_started
      → Turned what old entry new
  answers done events out in_is out_is steps frames started =
      let accepted : accepted_by what entry ≡ events = ap (λ (n : ℕ). if n == 0 then handed_in what entry else []) done ∙ in_is in
      let fetched : fetched_by what entry ≡ out = ap (λ (n : ℕ). if n == 0 then handed_out what entry else []) done ∙ out_is in
      record {
        steps = steps ∙ ap (after (both old)) (sym accepted);
        frames = ap (λ (f : List (List ℕ)). f ++ new.frames) fetched ∙ frames ∙ ap (λ (e : List Event). old.frames ++ all_sent (both old) e) (sym accepted);
        started = started;
        refused = λ some. absurd (some done);
        waits = λ seven. absurd (omega (arith, done, seven));
      }

  -- A value is read, or it is not.
  reads : handed_in what entry ≡ [] → handed_out what entry ≡ [] → new ≡ old → IsTold entry → Turned what old entry new
  reads in_is out_is same (inl done) =
      answers done [] [] in_is out_is (ap both same) (ap (λ (p : State). p.frames) same ∙ sym (append-nil old.frames)) (ap (λ (p : State). p.is_started) same)
  reads in_is out_is same (inr told) = refuses told.0 (λ seven. absurd (told.1 seven)) same told.2

  -- An event is one step.
  takes : entry.answer ≡ 0 → has_frames old.frames ≡ false → (one : Event) → handed_in what entry ≡ one ∷ [] → handed_out what entry ≡ []
      → new ≡ stepped old one → Turned what old entry new
  takes done idle one in_is out_is is =
      answers done (one ∷ []) [] in_is out_is (ap both is)
      (ap (λ (p : State). p.frames) is ∙ sym (append-nil (stepped old one).frames) ∙ ap (λ (f : List (List ℕ)). f ++ all_sent (both old) (one ∷ [])) (sym (none_of old.frames idle)))
      (ap (λ (p : State). p.is_started) is)

  offers : (waits : Bool) → has_frames old.frames ≡ waits → (one : Event) → handed_in what entry ≡ one ∷ [] → handed_out what entry ≡ []
      → entry.reported ≡ entry.asked → IsEvent waits old one entry.answer new → Turned what old entry new
  offers true has one in_is out_is as_was is =
      refuses (λ none. absurd (let seven = is.0 in omega (arith, none, seven))) (λ seven. some_frames old.frames has) is.1 as_was
  offers false has one in_is out_is as_was is = takes is.0 has one in_is out_is is.1

  sets : (why : Option ℕ) → IsWhy (has_frames old.frames) why → (one : Event) → handed_in what entry ≡ one ∷ [] → handed_out what entry ≡ []
      → entry.reported ≡ entry.asked → IsSet why old one entry.answer new → Turned what old entry new
  sets (Some why) is one in_is out_is as_was set =
      refuses (λ none. is.0 (sym set.0 ∙ none)) (λ seven. some_frames old.frames (is.1 (sym set.0 ∙ seven))) set.1 as_was
  sets None is one in_is out_is as_was set = takes set.0 is one in_is out_is set.1

  -- There is no such place.
  displaced : (waits : Bool) → has_frames old.frames ≡ waits → entry.answer ≡ why_no_place waits → new ≡ old → entry.reported ≡ entry.asked → Turned what old entry new
  displaced true has is same as_was = refuses (λ none. absurd (omega (arith, none, is))) (λ seven. some_frames old.frames has) same as_was
  displaced false has is same as_was = refuses (λ none. absurd (omega (arith, none, is))) (λ seven. absurd (omega (arith, seven, is))) same as_was

  nowhere : entry.answer ≡ why_no_place (has_frames old.frames) → new ≡ old → entry.reported ≡ entry.asked → Turned what old entry new
  nowhere is same as_was = displaced (has_frames old.frames) refl is same as_was

-- ---- why an event is refused

by_number : (waits : Bool) (why : ℕ) → why ≢ 0 → why ≢ 7 → (why ≢ 0) × (why ≡ 7 → waits ≡ true)
by_number waits why some other = (some, λ seven. absurd (other seven))

fit_by : (is_none is_same : Bool) → IsWhy false (if is_none then Some 9 else (if is_same then None else Some 8))
fit_by true is_same = by_number false 9 (λ e. omega (arith, e)) (λ e. omega (arith, e))
fit_by false true = refl
fit_by false false = by_number false 8 (λ e. omega (arith, e)) (λ e. omega (arith, e))

waiting : (why : ℕ) → why ≡ 7 → IsWhy true (Some why)
waiting why is = (λ none. omega (arith, is, none), λ seven. refl)

why_set : (waits : Bool) (output : Option ℕ) (size : ℕ) → IsWhy waits (why_not_set waits output size)
why_set true output size = waiting 7 refl
why_set false None size = by_number false 9 (λ e. omega (arith, e)) (λ e. omega (arith, e))
why_set false (Some output) size = fit_by (output == 0) (output == size)

rated_by : (is_none : Bool) → IsWhy false (if is_none then Some 9 else None)
rated_by true = by_number false 9 (λ e. omega (arith, e)) (λ e. omega (arith, e))
rated_by false = refl

why_rated : (waits : Bool) (output : Option ℕ) → IsWhy waits (why_not_rated waits output)
why_rated true output = waiting 7 refl
why_rated false None = by_number false 9 (λ e. omega (arith, e)) (λ e. omega (arith, e))
why_rated false (Some output) = rated_by (output == 0)

why_read : (waits can : Bool) → IsWhy waits (why_not_read waits can)
why_read true can = waiting 7 refl
why_read false true = refl
why_read false false = by_number false 26 (λ e. omega (arith, e)) (λ e. omega (arith, e))

written_by : (can fits : Bool) → IsWhy false (if fits then why_not_read false can else Some 8)
written_by can true = why_read false can
written_by can false = by_number false 8 (λ e. omega (arith, e)) (λ e. omega (arith, e))

why_written : (waits can : Bool) (size : ℕ) → IsWhy waits (why_not_written waits can size)
why_written true can size = waiting 7 refl
why_written false can size = written_by can (nat_le size 1308)

-- ---- places

some_is : {T : Type 0} (is : Bool) (one other : T) → (if is then Some one else None) ≡ Some other → one ≡ other
some_is true one other e = cc e
some_is false one other e = absurd (cc e)

placed : (slot subslot : ℕ) (place : ℕ × ℕ) → place_in slot subslot ≡ Some place → (slot, subslot) ≡ place
placed slot subslot place e = some_is (nat_lt slot 65536 && nat_lt subslot 65536) (slot, subslot) place e

indexed : (number index : ℕ) → index_in number ≡ Some index → number ≡ index
indexed number index e = some_is (nat_lt number 65536) number index e

-- ---- events

module _ (old : State) (entry : Entry) (new : State) (as_was : entry.reported ≡ entry.asked) where
  gives : (place : Option (ℕ × ℕ)) → place_in entry.asked.slot entry.asked.subslot ≡ place → IsGift place old entry.given entry.answer new
      → Turned (Some operation.Give) old entry new
  gives (Some place) is gift =
      sets (Some operation.Give) old entry new _ (why_set (has_frames old.frames) (planned_output old place.0 place.1) (length entry.given))
      (event.Give place.0 place.1 (bytes_in entry.given))
      (ap (λ (p : ℕ × ℕ). event.Give p.0 p.1 (bytes_in entry.given) ∷ []) (placed entry.asked.slot entry.asked.subslot place is)) refl as_was gift
  gives None is gift = nowhere (Some operation.Give) old entry new gift.0 gift.1 as_was

  rates : (place : Option (ℕ × ℕ)) → place_in entry.asked.slot entry.asked.subslot ≡ place
      → IsStatus place old (not (entry.asked.is_good == 0)) entry.answer new → Turned (Some operation.Status) old entry new
  rates (Some place) is status =
      sets (Some operation.Status) old entry new _ (why_rated (has_frames old.frames) (planned_output old place.0 place.1))
      (event.Status place.0 place.1 (not (entry.asked.is_good == 0)))
      (ap (λ (p : ℕ × ℕ). event.Status p.0 p.1 (not (entry.asked.is_good == 0)) ∷ []) (placed entry.asked.slot entry.asked.subslot place is)) refl as_was status
  rates None is status = nowhere (Some operation.Status) old entry new status.0 status.1 as_was

  asks : (place : Option (ℕ × ℕ)) (index : Option ℕ) → place_in entry.asked.slot entry.asked.subslot ≡ place → index_in entry.asked.index ≡ index
      → IsRead place index old entry.answer new → Turned (Some operation.ReadRecord) old entry new
  asks (Some place) (Some index) is at read =
      sets (Some operation.ReadRecord) old entry new _ (why_read (has_frames old.frames) (can_request old.controller.live))
      (event.Read place.0 place.1 index)
      (ap (λ (p : ℕ × ℕ). event.Read p.0 p.1 entry.asked.index ∷ []) (placed entry.asked.slot entry.asked.subslot place is)
      ∙ ap (λ (n : ℕ). event.Read place.0 place.1 n ∷ []) (indexed entry.asked.index index at)) refl as_was read
  asks (Some place) None is at read = nowhere (Some operation.ReadRecord) old entry new read.0 read.1 as_was
  asks None index is at read = nowhere (Some operation.ReadRecord) old entry new read.0 read.1 as_was

  writes : (place : Option (ℕ × ℕ)) (index : Option ℕ) → place_in entry.asked.slot entry.asked.subslot ≡ place → index_in entry.asked.index ≡ index
      → IsWrite place index old entry.given entry.answer new → Turned (Some operation.WriteRecord) old entry new
  writes (Some place) (Some index) is at write =
      sets (Some operation.WriteRecord) old entry new _ (why_written (has_frames old.frames) (can_request old.controller.live) (length entry.given))
      (event.Write place.0 place.1 index (bytes_in entry.given))
      (ap (λ (p : ℕ × ℕ). event.Write p.0 p.1 entry.asked.index (bytes_in entry.given) ∷ []) (placed entry.asked.slot entry.asked.subslot place is)
      ∙ ap (λ (n : ℕ). event.Write place.0 place.1 n (bytes_in entry.given) ∷ []) (indexed entry.asked.index index at)) refl as_was write
  writes (Some place) None is at write = nowhere (Some operation.WriteRecord) old entry new write.0 write.1 as_was
  writes None index is at write = nowhere (Some operation.WriteRecord) old entry new write.0 write.1 as_was

-- ---- units of time

-- Units that passed are that many ticks.
pub record Ticked (units : ℕ) (old new : State) : Type 0 where
  pub steps : both new ≡ after (both old) (replicate units event.Tick)
  pub frames : new.frames ≡ all_sent (both old) (replicate units event.Tick)
  pub started : new.is_started ≡ old.is_started

ticked : (was_over : Bool) (units : ℕ) (old new : State) → old.frames ≡ [] → Ticks was_over units old new → Ticked units old new
ticked was_over zero old new none same = record { steps = ap both same; frames = ap (λ (p : State). p.frames) same ∙ none; started = ap (λ (p : State). p.is_started) same }
ticked was_over (suc units) old new none ticks =
    let between : State = ticks.0 in
    let before = ticked was_over units old between none ticks.1 in
    let quiet : between.frames ≡ [] = none_of between.frames (idle_of between was_over ticks.2) in
    let is : new ≡ stepped between event.Tick = ticks.3 in
    let first : List Event = replicate units event.Tick in
    let one_more : suc units ≡ units + 1 = omega arith in
    let all : replicate (suc units) event.Tick ≡ first ++ event.Tick ∷ [] = ap (λ (n : ℕ). replicate n event.Tick) one_more ∙ sym (replicate_more units event.Tick) in
    let step : both new ≡ after (after (both old) first) (event.Tick ∷ []) = ap both is ∙ ap (λ (s : Served). after s (event.Tick ∷ [])) before.steps in
    let sent_last : new.frames ≡ all_sent (after (both old) first) (event.Tick ∷ []) =
    ap (λ (p : State). p.frames) is ∙ sym (append-nil (stepped between event.Tick).frames) ∙ ap (λ (s : Served). all_sent s (event.Tick ∷ [])) before.steps in
    record {
      steps = step ∙ sym (after_both (both old) first (event.Tick ∷ [])) ∙ ap (after (both old)) (sym all);
      frames = sent_last ∙ ap (λ (f : List (List ℕ)). f ++ all_sent (after (both old) first) (event.Tick ∷ [])) (sym quiet ∙ before.frames)
          ∙ sym (all_sent_both (both old) first (event.Tick ∷ [])) ∙ ap (all_sent (both old)) (sym all);
      started = ap (λ (p : State). p.is_started) is ∙ before.started;
    }

passes : (waits : Bool) (old : State) (entry : Entry) (new : State) → has_frames old.frames ≡ waits
    → IsTick waits old entry.asked entry.answer new entry.reported → Turned (Some operation.Tick) old entry new
passes true old entry new has is =
    refuses (Some operation.Tick) old entry new (λ none. absurd (let seven = is.0 in omega (arith, none, seven))) (λ seven. some_frames old.frames has) is.1 is.2
passes false old entry new has is =
    let idle : old.frames ≡ [] = none_of old.frames has in
    let units : ℕ = entry.asked.units - is.left in
    let past = ticked (is_over old.controller.live.phase) units old new idle is.passes.ticks in
    let count : entry.asked.units - entry.reported.units ≡ units = ap (λ (o : Op). entry.asked.units - o.units) is.units in
    answers (Some operation.Tick) old entry new is.answered (replicate units event.Tick) [] (ap (λ (n : ℕ). replicate n event.Tick) count) refl past.steps
    (past.frames ∙ ap (λ (f : List (List ℕ)). f ++ all_sent (both old) (replicate units event.Tick)) (sym idle)) past.started

-- ---- frames

-- What is handed out is the first frame that waits.
handed : (frames : List (List ℕ)) (asked reported : Op) → reported ≡ with_next frames asked
    → (if reported.work == 3 then take reported.length reported.octets ∷ [] else []) ++ drop 1 frames ≡ frames
handed [] asked reported is = ap (λ (o : Op). (if o.work == 3 then take o.length o.octets ∷ [] else []) ++ []) is
handed (frame ∷ frames) asked reported is =
    ap (λ (o : Op). (if o.work == 3 then take o.length o.octets ∷ [] else []) ++ frames) is
    ∙ ap (λ (f : List ℕ). f ∷ frames) (take_at frame (drop (length frame) asked.octets) (length frame) refl)

fetches : (old : State) (entry : Entry) (new : State) → IsHandOut old entry.asked entry.answer new entry.reported → Turned (Some operation.Next) old entry new
fetches old entry new is =
    answers (Some operation.Next) old entry new is.answered [] (handed_out (Some operation.Next) entry) refl refl (ap both is.taken)
    (ap (λ (p : State). handed_out (Some operation.Next) entry ++ p.frames) is.taken ∙ handed old.frames entry.asked entry.reported is.handed ∙ sym (append-nil old.frames))
    (ap (λ (p : State). p.is_started) is.taken)

-- ---- values that are reported

module _ (entry : Entry) where
  other : (why : ℕ) → entry.answer ≡ why → why ≢ 0 → why ≢ 7 → entry.reported ≡ entry.asked → IsTold entry
  other why is some wait as_was = inr (λ e. some (sym is ∙ e), λ e. wait (sym is ∙ e), as_was)

  nine : entry.answer ≡ 9 → entry.reported ≡ entry.asked → IsTold entry
  nine is as_was = other 9 is (λ e. omega (arith, e)) (λ e. omega (arith, e)) as_was

  told_value : (value : Option (List ℕ)) → IsValue value entry.asked entry.answer entry.reported → IsTold entry
  told_value (Some value) is = inl is.0
  told_value None is = nine is.0 is.1

  told_input : (port : State) (place : Option (ℕ × ℕ)) → IsInput place port entry.asked entry.answer entry.reported → IsTold entry
  told_input port (Some place) is = told_value (value_at port.controller.live.cyclic place.0 place.1) is
  told_input port None is = nine is.0 is.1

  told_alarm : (alarm : Option AlarmNotification) → IsAlarm alarm entry.asked entry.answer entry.reported → IsTold entry
  told_alarm (Some alarm) is = inl is.0
  told_alarm None is = nine is.0 is.1

  told_status : (status : Option ProviderStatus) → IsProviderAt status entry.asked entry.answer entry.reported → IsTold entry
  told_status (Some status) is = inl is.0
  told_status None is = other 24 is.0 (λ e. omega (arith, e)) (λ e. omega (arith, e)) is.1

  told_provider : (port : State) (place : Option (ℕ × ℕ)) → IsProvider place port entry.asked entry.answer entry.reported → IsTold entry
  told_provider port (Some place) is = told_status (provider_of port.controller.live place.0 place.1) is
  told_provider port None is = other 24 is.0 (λ e. omega (arith, e)) (λ e. omega (arith, e)) is.1

  told_refusal : (status : Option Status) → IsRefusal status entry.asked entry.answer entry.reported → IsTold entry
  told_refusal (Some status) is = inl is.0
  told_refusal None is = other 25 is.0 (λ e. omega (arith, e)) (λ e. omega (arith, e)) is.1

  told_record : (refused : Option RefusedRecord) → IsRefusedRecord refused entry.asked entry.answer entry.reported → IsTold entry
  told_record (Some refused) is = inl is.0
  told_record None is = other 25 is.0 (λ e. omega (arith, e)) (λ e. omega (arith, e)) is.1

  told_answer : (said : Option Answer) (octets : List ℕ) → IsAnswered said octets entry.asked entry.answer entry.reported → IsTold entry
  told_answer (Some said) octets is = inl is.0
  told_answer None octets is = other 27 is.0 (λ e. omega (arith, e)) (λ e. omega (arith, e)) is.1

  told_report : (report : Option Report) (number : Option ℕ) → IsReported report number entry.asked entry.answer entry.reported → IsTold entry
  told_report (Some report) (Some number) is = inl is.0
  told_report (Some report) None is = nine is.0 is.1
  told_report None number is = nine is.0 is.1

  told_diagnosis : (diagnosis : Option Diagnosis) → IsDiagnosis diagnosis entry.asked entry.answer entry.reported → IsTold entry
  told_diagnosis (Some diagnosis) is = inl is.0
  told_diagnosis None is = nine is.0 is.1

  told_neighbour : (peer : Option Peer) → IsNeighbour peer entry.asked entry.answer entry.reported → IsTold entry
  told_neighbour (Some peer) is = inl is.0
  told_neighbour None is = nine is.0 is.1

  told_state : (state : Option PlaceState) → IsPlaceIn state entry.asked entry.answer entry.reported → IsTold entry
  told_state (Some state) is = inl is.0
  told_state None is = nine is.0 is.1

  told_place : (port : State) (place : Option (ℕ × ℕ)) → IsPlace place port entry.asked entry.answer entry.reported → IsTold entry
  told_place port (Some place) is = told_state (state_at place.0 place.1 port.controller.live.places) is
  told_place port None is = nine is.0 is.1

-- ---- any operation

performed : (what : Option Operation) (old : State) (entry : Entry) (new : State) → Performs what old entry.asked entry.given entry.answer new entry.reported
    → Turned what old entry new
performed (Some operation.Frame) old entry new is = offers _ old entry new (has_frames old.frames) refl (event.Frame (bytes_in entry.given)) refl refl is.0 is.1
performed (Some operation.Tick) old entry new is = passes (has_frames old.frames) old entry new refl is
performed (Some operation.Give) old entry new is = gives old entry new is.0 (place_in entry.asked.slot entry.asked.subslot) refl is.1
performed (Some operation.Next) old entry new is = fetches old entry new is
performed (Some operation.Value) old entry new is = reads _ old entry new refl refl is.0 (told_input entry old (place_in entry.asked.slot entry.asked.subslot) is.1)
performed (Some operation.State) old entry new is = reads _ old entry new refl refl is.0 (inl is.1)
performed (Some operation.Alarm) old entry new is = reads _ old entry new refl refl is.0 (told_alarm entry old.controller.live.alarm is.1)
performed (Some operation.Stop) old entry new is = offers _ old entry new (has_frames old.frames) refl event.Stop refl refl is.0 is.1
performed (Some operation.Due) old entry new is = reads _ old entry new refl refl is.0 (inl is.1)
performed (Some operation.Status) old entry new is = rates old entry new is.0 (place_in entry.asked.slot entry.asked.subslot) refl is.1
performed (Some operation.Provider) old entry new is = reads _ old entry new refl refl is.0 (told_provider entry old (place_in entry.asked.slot entry.asked.subslot) is.1)
performed (Some operation.Conflicts) old entry new is = reads _ old entry new refl refl is.0 (inl is.1)
performed (Some operation.Refusal) old entry new is = reads _ old entry new refl refl is.0 (told_refusal entry old.controller.live.refusal is.1)
performed (Some operation.ReadRecord) old entry new is = asks old entry new is.0 (place_in entry.asked.slot entry.asked.subslot) (index_in entry.asked.index) refl refl is.1
performed (Some operation.WriteRecord) old entry new is = writes old entry new is.0 (place_in entry.asked.slot entry.asked.subslot) (index_in entry.asked.index) refl refl is.1
performed (Some operation.Answer) old entry new is = reads _ old entry new refl refl is.0 (told_answer entry old.controller.live.access.answer (record_of old.controller.live.access) is.1)
performed (Some operation.RefusedRecord) old entry new is = reads _ old entry new refl refl is.0 (told_record entry old.controller.live.refused_record is.1)
performed (Some operation.Report) old entry new is =
    reads _ old entry new refl refl is.0 (told_report entry (report_in old.controller.live (priority_in entry.asked.is_low)) (end_of old.controller.live (priority_in entry.asked.is_low)).seen is.1)
performed (Some operation.Diagnoses) old entry new is = reads _ old entry new refl refl is.0 (inl is.1)
performed (Some operation.Diagnosis) old entry new is = reads _ old entry new refl refl is.0 (told_diagnosis entry (slice_get old.controller.live.diagnosis.existing entry.asked.number) is.1)
performed (Some operation.Neighbour) old entry new is = reads _ old entry new refl refl is.0 (told_neighbour entry (option_map (λ (k : Known). k.peer) old.services.near.known) is.1)
performed (Some operation.Place) old entry new is = reads _ old entry new refl refl is.0 (told_place entry old (place_in entry.asked.slot entry.asked.subslot) is.1)
performed None old entry new is =
    refuses None old entry new (λ none. absurd (let ten = is.0 in omega (arith, none, ten))) (λ seven. absurd (let ten = is.0 in omega (arith, seven, ten))) is.1 is.2

pub turned : (is_started : Bool) (what : Option Operation) (old : State) (entry : Entry) (new : State)
    → ServesIf is_started what old entry.asked entry.given entry.answer new entry.reported → Turned what old entry new
turned true what old entry new is = performed what old entry new is
turned false what old entry new is =
    refuses what old entry new (λ none. absurd (let late = is.0 in omega (arith, none, late))) (λ seven. absurd (let late = is.0 in omega (arith, seven, late))) is.1 is.2
