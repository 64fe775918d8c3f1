-- What alarms of low priority, pulls, plugs and units of time leave of a relation: some of its records, and its order.
use Rattle.std.proofs.Common.{◌≡◌, inl, inr, ◌+◌, ◌<◌, ◌==◌, ◌&&◌, ℕ, Bool, true, false, cond, not, List, [], ◌∷◌, Option, Some, None, option_map, refl, sym, ap, subst, ◌∙◌, arith}
use Rattle.std.specs.Prelude.{is_some, nat_lt, unwrap_or}
use Rattle.std.proofs.lemmas.Bool.{false≢true, eq-eqb, ltb-true, ltb-false}
use Rattle.pn_values.specs.declared.real.RealModule.{RealModule}
use Rattle.wire.specs.blocks.modules.Lists.{Listed}
use Rattle.connect_blocks.specs.declared.module_diff.DiffModule.{DiffModule}
use Rattle.connect_blocks.specs.declared.module_diff.DiffSubmodule.{DiffSubmodule}
use Rattle.connects.specs.requests.Request.{Request}
use Rattle.module_diff.specs.declared.changes.Affected.{Affected}
use Rattle.module_diff.specs.declared.changes.RealChange.{RealChange}
use Rattle.module_diff.specs.Changes.{affected_by, covers}
use Rattle.records.specs.declared.writes.taken.TakenRecord.{TakenRecord}
use Rattle.records.specs.writes.Taken.{forgotten_at}
use Rattle.cyclic_data.specs.Image.{Shown}
use Rattle.cyclic_data.specs.exchange.Cyclic.{Cyclic}
use Rattle.cyclic_data.specs.exchange.Opening.{cleared}
use Rattle.pn_alarms.specs.Ends.{DeviceEnd}
use Rattle.diagnosis.specs.alarms.Alarms.{Low}
use Rattle.diagnosis.specs.Queue.{changed, is_plug, is_sent, reach_of, waits_for_plug}
use Rattle.diagnosis.specs.declared.alarms.alarms.SentAlarm.{SentAlarm}
use Rattle.diagnosis.specs.declared.diagnosis.Change.{Change}
use Rattle.diagnosis.specs.declared.diagnosis.Diagnosis.{Diagnosis}
use Rattle.diagnosis.specs.declared.module_change.ModuleChange.{ModuleChange}
use Rattle.diagnosis.specs.declared.queue.LowChange.{LowChange}
use Rattle.diagnosis.specs.declared.queue.LowChange.TheVariants as low_change
use Rattle.diagnosis.specs.declared.queue.QueuedAlarm.{QueuedAlarm}
use Rattle.expected_places.specs.declared.calls.PlugCall.{PlugCall}
use Rattle.expected_places.specs.declared.calls.WaitingCall.{WaitingCall}
use Rattle.expected_places.specs.declared.place.ExpectedPlace.{ExpectedPlace}
use Rattle.expected_places.specs.Calls.{PlugQueue, counted, counted_with, dropped, kept_call, next_sequence, sent_beside, sent_next, sent_with}
use Rattle.expected_places.specs.declared.place.Step.{Step}
use Rattle.expected_places.specs.declared.place.Step.TheVariants.{Ended, Refused, Settled, Told}
use Rattle.expected_places.specs.Machine.{PlugState, answered_by, ended, ended_at, is_hit, told}
use Rattle.expected_places.specs.Places.{first_told, is_plugged, place_at, places_restated, stepped, touched_places}
use Rattle.relations.specs.declared.exchange.marks.Mark.{Mark}
use Rattle.relations.specs.declared.phase.Partner.{Partner}
use Rattle.relations.specs.declared.phase.Phase.{Phase}
use Rattle.relations.specs.declared.phase.Phase.TheVariants.{Started, Preparing, Awaiting, Exchanging}
use Rattle.relations.specs.declared.plugging.PlugAnswer.{PlugAnswer}
use Rattle.relations.specs.declared.plugging.PlugAnswer.TheVariants as answer
use Rattle.relations.specs.exchange.Diagnosis.{diagnosed, is_diagnosed}
use Rattle.relations.specs.exchange.Flow.{Flow}
use Rattle.relations.specs.exchange.Modules.{all_cleared, cleared_at, renewed_marks}
use Rattle.relations.specs.RelationState.{RelationState, is_exchanging}
use Rattle.relations.specs.Diagnosed.{diagnosing}
use Rattle.relations.specs.Phases.{restarted, updated}
use Rattle.relations.specs.Plugging.{answered_with, calling_next, changed_by, first_sent, flow_reported, flow_then, forgotten_there, is_low_sent, is_sent_then, kept_records, low_changed, modules_changing, places_then, plugs_after, plugs_changed, plugs_then, plugs_told, ready_for, reported_as, rows_now, sent_then, taken_after, taken_told}
use Rattle.relations.specs.Timers.{is_timed, unit_later}
use Rattle.end_laws.specs.both.Steps.{IsPart}
use Rattle.end_laws.specs.device.Does.{IsKeptOr}
use Rattle.end_laws.specs.device.Orderly.{AreNumbered, IsEarly, IsNumberedCall, IsOrderly, IsOrderlyIn, keys_of}
use Rattle.end_laws.specs.device.Owed.{IsOfPlug}
use Rattle.end_laws.specs.device.Small.{link_of}
use Rattle.end_laws.specs.device.Turn.{IsSameOr, Standing, standing_of}
use Rattle.end_laws.proofs.BothEach.{part_all, part_filter, part_past}

-- ---- phases

pub exchanging_is : (phase : Phase) → is_exchanging phase ≡ true → phase ≡ Exchanging
exchanging_is Started e = absurd cc
exchanging_is Preparing e = absurd cc
exchanging_is Awaiting e = absurd cc
exchanging_is Exchanging e = refl

-- while data is exchanged, anything may have been sent
pub late : (exchanges begun sent told : Bool) → exchanges ≡ true → IsEarly exchanges begun sent told
late exchanges begun sent told is = λ e. absurd (false≢true (sym e ∙ is))

-- if something is false before data is exchanged and true, data is exchanged
late_by : (exchanges so : Bool) → (exchanges ≡ false → so ≡ false) → so ≡ true → exchanges ≡ true
late_by true so early is = refl
late_by false so early is = absurd (false≢true (sym (early refl) ∙ is))

module _ (link : RelationState) (orderly : IsOrderly link) where
  -- data is exchanged once the exchange has begun, an alarm of low priority was sent, or that of a plug was
  pub exchanges_begun : link.flow.cyclic.begun ≡ true → is_exchanging link.phase ≡ true
  exchanges_begun is = late_by (is_exchanging link.phase) link.flow.cyclic.begun (λ e. (orderly.0 e).0) is

  pub exchanges_sent : is_some link.flow.low.alarms.sender.sending.last ≡ true → is_exchanging link.phase ≡ true
  exchanges_sent is = late_by (is_exchanging link.phase) (is_some link.flow.low.alarms.sender.sending.last) (λ e. (orderly.0 e).1) is

  pub exchanges_told : link.plugs.has_told ≡ true → is_exchanging link.phase ≡ true
  exchanges_told is = late_by (is_exchanging link.phase) link.plugs.has_told (λ e. (orderly.0 e).2) is

-- ---- an alarm of low priority is first sent

kept_if : (b : Bool) (slot subslot : ℕ) (taken : List TakenRecord) → IsPart (cond b (forgotten_at slot subslot taken) taken) taken
kept_if true slot subslot taken = part_filter _ taken
kept_if false slot subslot taken = part_all taken

part_kept : (affected : Affected) (places : List ExpectedPlace) (taken : List TakenRecord) → IsPart (kept_records affected places taken) taken
part_kept affected [] taken = part_all taken
part_kept affected (place ∷ places) taken =
    part_past (kept_records affected (place ∷ places) taken) (forgotten_there affected taken place) taken (part_kept affected places (forgotten_there affected taken place))
    (kept_if (covers affected place.slot place.subslot) place.slot place.subslot taken)

-- the records after it are some of those before
pub part_told : (sent : Option SentAlarm) (places : List ExpectedPlace) (taken : List TakenRecord) → IsPart (taken_after sent places taken) taken
part_told None places taken = part_all taken
part_told (Some sent) places taken = by_change sent.change
  where
    by_change : (change : LowChange) → IsPart (taken_told change places taken) taken
    by_change (low_change.Diagnosis made) = part_all taken
    by_change (low_change.Module made) = part_kept (reach_of made) places taken

-- the calls of plugs stay
pub calls_told : (sent : Option SentAlarm) (waiting : List QueuedAlarm) (plugs : PlugState) → (plugs_after sent waiting plugs).calls ≡ plugs.calls
calls_told None waiting plugs = refl
calls_told (Some sent) waiting plugs = by_change sent.change
  where
    by_kind : (made : ModuleChange) (b : Bool)
        → (cond b (told made.slot made.subslot sent.number (not (waits_for_plug made.slot made.subslot waiting)) plugs) plugs).calls ≡ plugs.calls
    by_kind made true = refl
    by_kind made false = refl

    by_change : (change : LowChange) → (plugs_told change sent.number waiting plugs).calls ≡ plugs.calls
    by_change (low_change.Diagnosis made) = refl
    by_change (low_change.Module made) = by_kind made (is_plug made.kind)

-- the relation keeps some of its records
pub told_kept : (link : RelationState) (low : Low) (places : List ExpectedPlace) (plugs : PlugState) (flow : Flow) (b : Bool)
    → (b ≡ true → IsOrderly link → is_exchanging link.phase ≡ true)
    → IsKeptOr (Some link) (Some (record link { taken = taken_after (first_sent b low) places link.taken; plugs = plugs; flow = flow }))
told_kept link low places plugs flow false exchanges = inl refl
told_kept link low places plugs flow true exchanges = inr (inr (record {
  link = link;
  was = refl;
  exchanges = λ orderly. exchanging_is link.phase (exchanges refl orderly);
  values = taken_after low.sent places link.taken;
  part = part_told low.sent places link.taken;
  becomes = refl;
}))

-- ---- the numbers of calls

small_next : (sequence : ℕ) → sequence < 4294967296 → next_sequence sequence < 4294967296
small_next sequence few = by_last (sequence == 4294967295) refl
  where
    by_order : (sequence == 4294967295) ≡ false → (b : Bool) → nat_lt sequence 4294967295 ≡ b → sequence + 1 < 4294967296
    by_order other true e = omega (arith, ltb-true sequence 4294967295 e)
    by_order other false e =
        absurd (false≢true (sym other ∙ eq-eqb sequence 4294967295 (omega (arith, few, ltb-false sequence 4294967295 e))))

    by_last : (b : Bool) → (sequence == 4294967295) ≡ b → cond b 0 (sequence + 1) < 4294967296
    by_last true e = omega arith
    by_last false e = by_order e (nat_lt sequence 4294967295) refl

pub numbered_next : (calls : PlugQueue) → AreNumbered calls → AreNumbered (unwrap_or (sent_next calls) calls)
numbered_next calls numbered = by_standing calls.standing
  where
    by_found : (found : Option WaitingCall) → AreNumbered (unwrap_or (option_map (sent_with calls) found) calls)
    by_found None = numbered
    by_found (Some call) = (small_next calls.sequence numbered.0, small_next calls.sequence numbered.0)

    by_standing : (standing : Option PlugCall) → AreNumbered (unwrap_or (sent_beside calls standing) calls)
    by_standing None = by_found _
    by_standing (Some call) = numbered

numbered_kept : (affected : Affected) (standing : Option PlugCall) → IsNumberedCall standing → IsNumberedCall (kept_call affected standing)
numbered_kept affected None numbered = tt
numbered_kept affected (Some call) numbered = by_place (covers affected call.slot call.subslot)
  where
    by_place : (b : Bool) → IsNumberedCall (cond b None (Some call))
    by_place true = tt
    by_place false = numbered

pub numbered_dropped : (affected : Affected) (calls : PlugQueue) → AreNumbered calls → AreNumbered (dropped affected calls)
numbered_dropped affected calls numbered = (numbered.0, numbered_kept affected calls.standing numbered.1)

numbered_counted : (calls : PlugQueue) → AreNumbered calls → AreNumbered (counted calls)
numbered_counted calls numbered = by_standing calls.standing
  where
    by_standing : (standing : Option PlugCall) → AreNumbered (counted_with calls standing)
    by_standing None = numbered
    by_standing (Some call) = numbered

-- ---- the slots and subslots of places

-- they stay, whatever happens there
pub touched_keys : (affected : Affected) (step : Step) (places : List ExpectedPlace) → keys_of (touched_places affected step places) ≡ keys_of places
touched_keys affected step [] = refl
touched_keys affected step (place ∷ places) =
    one (covers affected place.slot place.subslot) (touched_keys affected step places)
  where
    one : (b : Bool) → keys_of (touched_places affected step places) ≡ keys_of places
        → keys_of (cond b (record place { step = step }) place ∷ touched_places affected step places) ≡ keys_of (place ∷ places)
    one true e = ap (λ (keys : List (ℕ × ℕ)). (place.slot, place.subslot) ∷ keys) e
    one false e = ap (λ (keys : List (ℕ × ℕ)). (place.slot, place.subslot) ∷ keys) e

pub stepped_keys : (slot subslot : ℕ) (step : Step) (places : List ExpectedPlace) → keys_of (stepped slot subslot step places) ≡ keys_of places
stepped_keys slot subslot step places = touched_keys (record { slot = slot; subslot = Some subslot }) step places

restated_keys : (rows : Listed DiffModule DiffSubmodule) (places : List ExpectedPlace) → keys_of (places_restated rows places) ≡ keys_of places
restated_keys rows [] = refl
restated_keys rows (place ∷ places) = ap (λ (keys : List (ℕ × ℕ)). (place.slot, place.subslot) ∷ keys) (restated_keys rows places)

pub changed_keys : (rows : Listed DiffModule DiffSubmodule) (made : RealChange) (plugs : PlugState) → keys_of (plugs_changed rows made plugs).places ≡ keys_of plugs.places
changed_keys rows made plugs = touched_keys (affected_by made) _ (places_restated rows plugs.places) ∙ restated_keys rows plugs.places

pub after_keys : (sent : Option SentAlarm) (waiting : List QueuedAlarm) (plugs : PlugState) → keys_of (plugs_after sent waiting plugs).places ≡ keys_of plugs.places
after_keys None waiting plugs = refl
after_keys (Some sent) waiting plugs = by_change sent.change
  where
    by_last : (slot subslot : ℕ) (b : Bool) → keys_of (cond b (stepped slot subslot (Told sent.number) plugs.places) plugs.places) ≡ keys_of plugs.places
    by_last slot subslot true = stepped_keys slot subslot (Told sent.number) plugs.places
    by_last slot subslot false = refl

    by_kind : (slot subslot : ℕ) (is_last b : Bool) → keys_of (cond b (told slot subslot sent.number is_last plugs) plugs).places ≡ keys_of plugs.places
    by_kind slot subslot is_last true = by_last slot subslot (is_last && is_plugged (place_at slot subslot plugs.places))
    by_kind slot subslot is_last false = refl

    by_change : (change : LowChange) → keys_of (plugs_told change sent.number waiting plugs).places ≡ keys_of plugs.places
    by_change (low_change.Diagnosis made) = refl
    by_change (low_change.Module made) = by_kind made.slot made.subslot (not (waits_for_plug made.slot made.subslot waiting)) (is_plug made.kind)

-- ---- what leaves phase, request, records and alarms

-- One relation is another one of which only the places, the calls of plugs and what is shown changed.
pub record IsBeside (old next : RelationState) : Type 0 where
  pub standing : standing_of next ≡ standing_of old
  pub link : link_of next ≡ link_of old
  pub request : next.request ≡ old.request
  pub orderly : IsOrderly old → IsOrderly next
  pub numbered : AreNumbered old.plugs.calls → AreNumbered next.plugs.calls

abbrev pub AreBeside : Option RelationState → Option RelationState → Type 0
AreBeside None None = Unit {0}
AreBeside None (Some next) = ⊥
AreBeside (Some old) None = ⊥
AreBeside (Some old) (Some next) = IsBeside old next

-- for outputs and alarms, for a start-up, and its order
abbrev pub IsKept : Option RelationState → Option RelationState → Type 0
IsKept before after = IsSameOr before after × IsKeptOr before after × (IsOrderlyIn before → IsOrderlyIn after)

pub beside_kept : (old next : Option RelationState) → AreBeside old next → IsKept old next
beside_kept None None beside = (inl refl, inl refl, λ orderly. orderly)
beside_kept None (Some next) beside = absurd beside
beside_kept (Some old) None beside = absurd beside
beside_kept (Some old) (Some next) beside = (
  inl (ap (λ (s : Standing). let o : Option Standing = Some s in o) beside.standing),
  inl (ap (λ l. Some l) beside.link),
  λ orderly. beside.orderly orderly,
)

-- the next call of a plug becomes active
pub next_beside : (old next : Option RelationState) → AreBeside old next → AreBeside old (calling_next next)
next_beside None None beside = tt
next_beside None (Some next) beside = absurd beside
next_beside (Some old) None beside = absurd beside
next_beside (Some old) (Some next) beside = record {
  standing = beside.standing;
  link = beside.link;
  request = beside.request;
  orderly = λ orderly. ((beside.orderly orderly).0, numbered_next next.plugs.calls (beside.orderly orderly).1);
  numbered = λ numbered. numbered_next next.plugs.calls (beside.numbered numbered);
}

pub same_beside : (link : Option RelationState) → AreBeside link link
same_beside None = tt
same_beside (Some link) = record { standing = refl; link = refl; request = refl; orderly = λ orderly. orderly; numbered = λ numbered. numbered }

-- the application is ready for a plug
pub ready_beside : (link : Option RelationState) (change : PlugState → PlugState) → ((plugs : PlugState) → (change plugs).has_told ≡ plugs.has_told)
    → ((plugs : PlugState) → AreNumbered plugs.calls → AreNumbered (change plugs).calls)
    → ((plugs : PlugState) → (change plugs).places ≡ plugs.places)
    → AreBeside link (option_map (λ (l : RelationState). record l { plugs = change l.plugs }) link)
ready_beside None change told_same numbered places = tt
ready_beside (Some link) change told_same numbered places = record {
  standing = ap (λ (places : List ExpectedPlace). record (standing_of link) { keys = keys_of places }) (places link.plugs);
  link = refl;
  request = refl;
  orderly = λ orderly. (
    subst (λ (b : Bool). IsEarly (is_exchanging link.phase) link.flow.cyclic.begun (is_some link.flow.low.alarms.sender.sending.last) b) (sym (told_same link.plugs)) orderly.0,
    numbered link.plugs orderly.1,
  );
  numbered = numbered link.plugs;
}

-- the parameters of a plug are complete
pub ended_told : (number : ℕ) (is_ready : Bool) (plugs : PlugState) → (ended number is_ready plugs).has_told ≡ plugs.has_told
ended_told number is_ready plugs = by_found (first_told number plugs.places)
  where
    by_found : (found : Option ExpectedPlace) → (unwrap_or (option_map (ended_at number is_ready plugs) found) plugs).has_told ≡ plugs.has_told
    by_found None = refl
    by_found (Some place) = refl

pub ended_numbered : (number : ℕ) (is_ready : Bool) (plugs : PlugState) → AreNumbered plugs.calls → AreNumbered (ended number is_ready plugs).calls
ended_numbered number is_ready plugs numbered = by_found (first_told number plugs.places)
  where
    by_found : (found : Option ExpectedPlace) → AreNumbered (unwrap_or (option_map (ended_at number is_ready plugs) found) plugs).calls
    by_found None = numbered
    by_found (Some place) = numbered

pub ended_keys : (number : ℕ) (is_ready : Bool) (plugs : PlugState) → keys_of (ended number is_ready plugs).places ≡ keys_of plugs.places
ended_keys number is_ready plugs = by_found (first_told number plugs.places)
  where
    by_found : (found : Option ExpectedPlace) → keys_of (unwrap_or (option_map (ended_at number is_ready plugs) found) plugs).places ≡ keys_of plugs.places
    by_found None = refl
    by_found (Some place) = stepped_keys place.slot place.subslot (Ended number) plugs.places

pub beside_ended : (link : RelationState) (source : Partner) (number : ℕ) (is_ready : Bool)
    → AreBeside (Some link) (Some (restarted source (record link { plugs = ended number is_ready link.plugs })))
beside_ended link source number is_ready = record {
  standing = ap (λ (keys : List (ℕ × ℕ)). record (standing_of link) { keys = keys }) (ended_keys number is_ready link.plugs);
  link = refl;
  request = refl;
  orderly = λ orderly. (
    subst (λ (b : Bool). IsEarly (is_exchanging link.phase) link.flow.cyclic.begun (is_some link.flow.low.alarms.sender.sending.last) b)
        (sym (ended_told number is_ready link.plugs)) orderly.0,
    ended_numbered number is_ready link.plugs orderly.1,
  );
  numbered = ended_numbered number is_ready link.plugs;
}

-- ApplicationReady of a plug was answered
answered_told : (is_positive : Bool) (plugs : PlugState) (standing : Option PlugCall) → (answered_by is_positive plugs standing).has_told ≡ plugs.has_told
answered_told is_positive plugs None = refl
answered_told is_positive plugs (Some call) = refl

answered_numbered : (is_positive : Bool) (plugs : PlugState) (standing : Option PlugCall) → AreNumbered plugs.calls → AreNumbered (answered_by is_positive plugs standing).calls
answered_numbered is_positive plugs None numbered = numbered
answered_numbered is_positive plugs (Some call) numbered = (numbered.0, tt)

answered_keys : (is_positive : Bool) (plugs : PlugState) (standing : Option PlugCall) → keys_of (answered_by is_positive plugs standing).places ≡ keys_of plugs.places
answered_keys is_positive plugs None = refl
answered_keys is_positive plugs (Some call) = stepped_keys call.slot call.subslot (cond is_positive Settled Refused) plugs.places

module _ (link : RelationState) where
  told_early : (plugs : PlugState) → plugs.has_told ≡ link.plugs.has_told
      → IsEarly (is_exchanging link.phase) link.flow.cyclic.begun (is_some link.flow.low.alarms.sender.sending.last) link.plugs.has_told
      → IsEarly (is_exchanging link.phase) link.flow.cyclic.begun (is_some link.flow.low.alarms.sender.sending.last) plugs.has_told
  told_early plugs same early =
      subst (λ (b : Bool). IsEarly (is_exchanging link.phase) link.flow.cyclic.begun (is_some link.flow.low.alarms.sender.sending.last) b) (sym same) early

  answered_by_beside : (heard : PlugAnswer) → IsBeside link (answered_with heard link)
  answered_by_beside answer.NotWanted = record { standing = refl; link = refl; request = refl; orderly = λ orderly. orderly; numbered = λ numbered. numbered }
  answered_by_beside answer.Garbled = record { standing = refl; link = refl; request = refl; orderly = λ orderly. orderly; numbered = λ numbered. numbered }
  answered_by_beside answer.Confirmed = record {
    standing = ap (λ (keys : List (ℕ × ℕ)). record (standing_of link) { keys = keys }) (answered_keys true link.plugs link.plugs.calls.standing);
    link = refl;
    request = refl;
    orderly = λ orderly. (
      told_early (answered_by true link.plugs link.plugs.calls.standing) (answered_told true link.plugs link.plugs.calls.standing) orderly.0,
      answered_numbered true link.plugs link.plugs.calls.standing orderly.1,
    );
    numbered = answered_numbered true link.plugs link.plugs.calls.standing;
  }
  answered_by_beside answer.Refused = record {
    standing = ap (λ (keys : List (ℕ × ℕ)). record (standing_of link) { keys = keys }) (answered_keys false link.plugs link.plugs.calls.standing);
    link = refl;
    request = refl;
    orderly = λ orderly. (
      told_early (answered_by false link.plugs link.plugs.calls.standing) (answered_told false link.plugs link.plugs.calls.standing) orderly.0,
      answered_numbered false link.plugs link.plugs.calls.standing orderly.1,
    );
    numbered = answered_numbered false link.plugs link.plugs.calls.standing;
  }

pub answered_beside : (heard : PlugAnswer) (link : Option RelationState) → AreBeside link (option_map (answered_with heard) link)
answered_beside heard None = tt
answered_beside heard (Some link) = answered_by_beside link heard

-- ---- the call of a plug

pub plug_of_relation : (relation : Option RelationState) (old next : RelationState) (call : PlugCall) → relation ≡ Some old → next.request ≡ old.request
    → (AreNumbered old.plugs.calls → call.sequence < 4294967296) → IsOfPlug relation (ready_for next call)
plug_of_relation relation old next call is same small = record {
  link = old;
  is = is;
  call = call;
  header = ap (λ (request : Request). (ready_for (record old { request = request }) call).header) same;
  block = ap (λ (request : Request). (ready_for (record old { request = request }) call).block) same;
  sequence = λ orderly. small (subst (λ (l : Option RelationState). IsOrderlyIn l) is orderly).1;
  numbered = small;
}

-- ---- a unit of time

pub unit_numbered : (link : RelationState) → AreNumbered link.plugs.calls → AreNumbered (unit_later link).plugs.calls
unit_numbered link numbered = by_timed (is_timed link.phase)
  where
    by_timed : (b : Bool) → AreNumbered (cond b link.plugs (record link.plugs { calls = counted link.plugs.calls })).calls
    by_timed true = numbered
    by_timed false = numbered_counted link.plugs.calls numbered

pub unit_orderly : (link : RelationState) → IsOrderly link → IsOrderly (unit_later link)
unit_orderly link orderly = (by_told (is_timed link.phase), unit_numbered link orderly.1)
  where
    by_told : (b : Bool) → IsEarly (is_exchanging link.phase) link.flow.cyclic.begun (is_some link.flow.low.alarms.sender.sending.last) (cond b link.plugs (record link.plugs { calls = counted link.plugs.calls })).has_told
    by_told true = orderly.0
    by_told false = orderly.0

-- ---- a change of diagnosis

and_true : (a b : Bool) → (a && b) ≡ true → (a ≡ true) × (b ≡ true)
and_true true b e = (refl, e)
and_true false b e = absurd cc

-- its alarm is sent only while data is exchanged
sent_begun : (real : List RealModule) (begun : Bool) (change : Change) (later : List Diagnosis) (low : Low) → is_sent real begun change later low ≡ true → begun ≡ true
sent_begun real true change later low e = refl
sent_begun real false change later low e = absurd (false≢true e)

quiet_sent : (real : List RealModule) (begun : Bool) (change : Change) (later : List Diagnosis) (low : Low) → begun ≡ false → is_sent real begun change later low ≡ false
quiet_sent real true change later low e = absurd (false≢true (sym e))
quiet_sent real false change later low e = refl

quiet_alarms : (real : List RealModule) (begun : Bool) (change : Change) (later : List Diagnosis) (low : Low) → begun ≡ false
    → (changed real begun change later low).alarms ≡ low.alarms
quiet_alarms real true change later low e = absurd (false≢true (sym e))
quiet_alarms real false change later low e = refl

module _ (real : List RealModule) (change : Change) (later : List Diagnosis) where
  pub diagnosing_kept : (link : Option RelationState) → IsKeptOr link (updated (diagnosing real change later link) link)
  diagnosing_kept None = inl refl
  diagnosing_kept (Some link) =
      let flow = diagnosed real change later link.flow in
      told_kept link flow.low link.plugs.places _ flow (is_diagnosed real change later link.flow)
      (λ is orderly. exchanges_begun link orderly (sent_begun real link.flow.cyclic.begun change later link.flow.low is))

  pub diagnosing_orderly : (link : Option RelationState) → IsOrderlyIn link → IsOrderlyIn (updated (diagnosing real change later link) link)
  diagnosing_orderly None orderly = tt
  diagnosing_orderly (Some link) orderly =
      let flow = diagnosed real change later link.flow in
      let is = is_diagnosed real change later link.flow in (
        λ e.
            let early = orderly.0 e in
            let unsent : is ≡ false = quiet_sent real link.flow.cyclic.begun change later link.flow.low early.0 in (
              early.0,
              ap (λ (alarms : DeviceEnd). is_some alarms.sender.sending.last) (quiet_alarms real link.flow.cyclic.begun change later link.flow.low early.0) ∙ early.1,
              ap (λ (b : Bool). (plugs_after (first_sent b flow.low) flow.low.waiting link.plugs).has_told) unsent ∙ early.2,
            ),
        subst (λ (calls : PlugQueue). AreNumbered calls) (sym (calls_told (first_sent is flow.low) flow.low.waiting link.plugs)) orderly.1,
      )

-- ---- something is pulled or plugged

-- only what is shown changes
pub cleared_same : (affected : Affected) (marks : List Mark) (cyclic : Cyclic)
    → all_cleared affected marks cyclic ≡ record cyclic { shown = (all_cleared affected marks cyclic).shown }
cleared_same affected [] cyclic = refl
cleared_same affected (mark ∷ marks) cyclic =
    cleared_same affected marks (cleared_at affected cyclic mark)
    ∙ by_place (covers affected mark.place.slot mark.place.subslot) (all_cleared affected marks (cleared_at affected cyclic mark)).shown
  where
    by_place : (b : Bool) (shown : Shown) → record (cond b (cleared mark.place.slot mark.place.subslot cyclic) cyclic) { shown = shown } ≡ record cyclic { shown = shown }
    by_place true shown = refl
    by_place false shown = refl

-- its alarm is sent only while data is exchanged
low_begun : (is_own begun : Bool) (told_as : ModuleChange) (made : RealChange) (later : List Diagnosis) (low : Low) → is_low_sent is_own begun told_as made later low ≡ true → begun ≡ true
low_begun is_own true told_as made later low e = refl
low_begun true false told_as made later low e = absurd (false≢true e)
low_begun false false told_as made later low e = absurd (false≢true e)

low_unsent : (is_own begun : Bool) (told_as : ModuleChange) (made : RealChange) (later : List Diagnosis) (low : Low) → begun ≡ false
    → is_low_sent is_own begun told_as made later low ≡ false
low_unsent is_own true told_as made later low e = absurd (false≢true (sym e))
low_unsent true false told_as made later low e = refl
low_unsent false false told_as made later low e = refl

low_quiet : (is_own begun : Bool) (told_as : ModuleChange) (made : RealChange) (later : List Diagnosis) (low : Low) → begun ≡ false
    → (low_changed is_own begun told_as made later low).alarms ≡ low.alarms
low_quiet is_own true told_as made later low e = absurd (false≢true (sym e))
low_quiet true false told_as made later low e = refl
low_quiet false false told_as made later low e = refl

module _ (rows : Listed DiffModule DiffSubmodule) (made : RealChange) (later : List Diagnosis) (link : RelationState) where
  abbrev is_own : Bool
  is_own = is_hit (affected_by made) (places_then rows made link)

  abbrev told_as : ModuleChange
  told_as = reported_as link.request rows made

  abbrev reported : Flow
  reported = flow_reported is_own link.request rows made later link.flow

  abbrev stated : Low
  stated = (flow_reported false link.request rows made later link.flow).low

  -- the exchange after it, but for what is shown and the marks
  pub shown_alone : (flow_then rows made later link).cyclic ≡ record link.flow.cyclic { shown = (flow_then rows made later link).cyclic.shown }
  shown_alone =
      ap (λ (cyclic : Cyclic). record cyclic { shown = (flow_then rows made later link).cyclic.shown })
      (cleared_same (affected_by made) (renewed_marks (affected_by made) link.options.inputs_begin_bad link.flow.marks) link.flow.cyclic)

  keys_then : keys_of (plugs_then rows made later link).places ≡ keys_of link.plugs.places
  keys_then =
      after_keys (sent_then rows made later link) (flow_then rows made later link).low.waiting (places_then rows made link)
      ∙ changed_keys rows made link.plugs

  pub changed_standing : standing_of (changed_by rows made later link) ≡ record (standing_of link) { low = reported.low }
  changed_standing = ap (λ (cyclic : Cyclic). record (standing_of link) {
    begun = cyclic.begun;
    route = cyclic.route;
    last = cyclic.hearing.last;
    outputs = cyclic.taken;
    low = reported.low;
    keys = keys_of (plugs_then rows made later link).places;
  }) shown_alone ∙ ap (λ (keys : List (ℕ × ℕ)). record (standing_of link) { low = reported.low; keys = keys }) keys_then

  changed_kept : IsKeptOr (Some link) (Some (changed_by rows made later link))
  changed_kept =
      told_kept link (flow_then rows made later link).low (places_then rows made link).places _ (flow_then rows made later link) (is_sent_then rows made later link)
      (λ is orderly. exchanges_begun link orderly (low_begun is_own link.flow.cyclic.begun told_as made later stated is))

  pub changed_numbered : AreNumbered link.plugs.calls → AreNumbered (changed_by rows made later link).plugs.calls
  changed_numbered numbered =
      numbered_next (plugs_then rows made later link).calls
      (subst (λ (calls : PlugQueue). AreNumbered calls)
      (sym (calls_told (sent_then rows made later link) (flow_then rows made later link).low.waiting (places_then rows made link)))
      (numbered_dropped (affected_by made) link.plugs.calls numbered))

  changed_orderly : IsOrderly link → IsOrderly (changed_by rows made later link)
  changed_orderly orderly = (
    λ e.
        let early = orderly.0 e in (
          ap (λ (cyclic : Cyclic). cyclic.begun) shown_alone ∙ early.0,
          ap (λ (alarms : DeviceEnd). is_some alarms.sender.sending.last) (low_quiet is_own link.flow.cyclic.begun told_as made later stated early.0) ∙ early.1,
          ap (λ (b : Bool). (plugs_after (first_sent b (flow_then rows made later link).low) (flow_then rows made later link).low.waiting (places_then rows made link)).has_told)
              (low_unsent is_own link.flow.cyclic.begun told_as made later stated early.0)
              ∙ early.2,
        ),
    changed_numbered orderly.1,
  )

module _ (real : List RealModule) (made : RealChange) (later : List Diagnosis) where
  pub changing_kept : (link : Option RelationState) → IsKeptOr link (modules_changing real made later link)
  changing_kept None = inl refl
  changing_kept (Some link) = changed_kept (rows_now real link) made later link

  pub changing_orderly : (link : Option RelationState) → IsOrderlyIn link → IsOrderlyIn (modules_changing real made later link)
  changing_orderly None orderly = tt
  changing_orderly (Some link) orderly = changed_orderly (rows_now real link) made later link orderly
