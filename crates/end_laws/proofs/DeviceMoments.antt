-- What becomes of the places of a relation and of its exchange with any event at its device, as a list of moments.
use Rattle.std.proofs.Common.{◌≡◌, ap, ◌==◌, ◌&&◌, ℕ, Bool, true, false, not, cond, List, [], ◌∷◌, ◌++◌, map, Option, Some, None, option_map, unwrap_or, refl, sym, subst, ◌∙◌}
use Rattle.std.proofs.lemmas.Bool.{and_parts, eqb-true}
use Rattle.pn_values.specs.declared.real.RealModule.{RealModule}
use Rattle.wire.specs.blocks.modules.Lists.{Listed}
use Rattle.connect_blocks.specs.declared.expected.ExpectedSubmodule.{ExpectedSubmodule}
use Rattle.connect_blocks.specs.declared.module_diff.DiffModule.{DiffModule}
use Rattle.connect_blocks.specs.declared.module_diff.DiffSubmodule.{DiffSubmodule}
use Rattle.connects.specs.requests.Request.{Request}
use Rattle.module_diff.specs.declared.changes.Affected.{Affected}
use Rattle.module_diff.specs.declared.changes.RealChange.{RealChange}
use Rattle.module_diff.specs.declared.expected.Expected.{Expected}
use Rattle.module_diff.specs.Changes.{affected_by, covers}
use Rattle.module_diff.specs.Diff.{Wanted, diff_of, is_listed, wanted_in}
use Rattle.diagnosis.specs.alarms.Alarms.{Low}
use Rattle.diagnosis.specs.declared.alarms.alarms.SentAlarm.{SentAlarm}
use Rattle.diagnosis.specs.declared.diagnosis.Diagnosis.{Diagnosis}
use Rattle.diagnosis.specs.declared.queue.LowChange.{LowChange}
use Rattle.diagnosis.specs.declared.queue.LowChange.TheVariants as low_change
use Rattle.diagnosis.specs.declared.queue.QueuedAlarm.{QueuedAlarm}
use Rattle.diagnosis.specs.Queue.{is_plug, waits_for_plug}
use Rattle.records.specs.declared.writes.taken.TakenRecord.{TakenRecord}
use Rattle.expected_places.specs.declared.calls.PlugCall.{PlugCall}
use Rattle.expected_places.specs.declared.place.ExpectedPlace.{ExpectedPlace}
use Rattle.expected_places.specs.declared.place.Step.{Step}
use Rattle.expected_places.specs.declared.place.Step.TheVariants.{Settled, Told, Ended, Refused}
use Rattle.expected_places.specs.Calls.{PlugQueue, counted, sent_next}
use Rattle.expected_places.specs.Machine.{PlugState, answered_by, ended, ended_at, told}
use Rattle.expected_places.specs.Places.{first_place, first_told, is_for, is_plugged, opened_places, place_at, places_of, places_restated, stepped, touched_places}
use Rattle.relations.specs.declared.phase.Phase.{Phase}
use Rattle.relations.specs.declared.plugging.PlugAnswer.{PlugAnswer}
use Rattle.relations.specs.declared.plugging.PlugAnswer.TheVariants as to_plug
use Rattle.relations.specs.exchange.Diagnosis.{with_low}
use Rattle.relations.specs.exchange.Flow.{Flow}
use Rattle.relations.specs.exchange.Opening.{begun_of}
use Rattle.relations.specs.exchange.Runs.{Event, Begins, Lowers, Passes, behind}
use Rattle.relations.specs.exchange.Shut.{Moment, Alone, Changes, Tells, Ends, Calls, Hears, all_past, all_places, flow_past, places_past}
use Rattle.relations.specs.Phases.{with_flow}
use Rattle.relations.specs.Plugging.{answered_with, changed_by, flow_reported, flow_then, places_then, plugs_after, plugs_changed, plugs_told, plugs_then, rows_now, sent_then, step_by, taken_after}
use Rattle.relations.specs.RelationState.{RelationState}
use Rattle.relations.specs.Timers.{is_timed, unit_later}
use Rattle.expected_places.specs.Machine.{is_hit}

-- ---- moments of which no module comes or goes

abbrev pub IsQuietMoment : Moment → Type 0
IsQuietMoment (Alone event) = Unit {0}
IsQuietMoment (Changes rows made begin_bad low) = ⊥
IsQuietMoment (Tells change number waiting) = Unit {0}
IsQuietMoment (Ends number is_ready) = Unit {0}
IsQuietMoment (Calls calls) = Unit {0}
IsQuietMoment (Hears heard) = Unit {0}

abbrev pub AreQuiet : List Moment → Type 0
AreQuiet [] = Unit {0}
AreQuiet (moment ∷ moments) = IsQuietMoment moment × AreQuiet moments

both_quiet : (one more : List Moment) → AreQuiet one → AreQuiet more → AreQuiet (one ++ more)
both_quiet [] more quiet others = others
both_quiet (moment ∷ one) more quiet others = (quiet.0, both_quiet one more quiet.1 others)

places_both : (one more : List Moment) (plugs : PlugState) → all_places (one ++ more) plugs ≡ all_places more (all_places one plugs)
places_both [] more plugs = refl
places_both (moment ∷ one) more plugs = places_both one more (places_past moment plugs)

past_both : (one more : List Moment) (plugs : PlugState) (flow : Flow) → all_past (one ++ more) plugs flow ≡ all_past more (all_places one plugs) (all_past one plugs flow)
past_both [] more plugs flow = refl
past_both (moment ∷ one) more plugs flow = past_both one more (places_past moment plugs) (flow_past moment (places_past moment plugs) flow)

-- ---- places say what differs

-- Each place says whether these rows list it.
abbrev pub AreStated : Listed DiffModule DiffSubmodule → List ExpectedPlace → Type 0
AreStated rows [] = Unit {0}
AreStated rows (place ∷ places) = (place.differs ≡ is_listed place.slot place.subslot rows) × AreStated rows places

some_place : (x y : ExpectedPlace) → Some x ≡ Some y → x ≡ y
some_place x y e = cc

pub stated_at : (rows : Listed DiffModule DiffSubmodule) (slot subslot : ℕ) (places : List ExpectedPlace) (place : ExpectedPlace)
    → AreStated rows places → place_at slot subslot places ≡ Some place → place.differs ≡ is_listed slot subslot rows
stated_at rows slot subslot [] place stated e = absurd cc
stated_at rows slot subslot (first ∷ places) place stated e = by_own (λ f. stated_at rows slot subslot places place stated.1 f) (is_for slot subslot first) refl e
  where
    by_own : (place_at slot subslot places ≡ Some place → place.differs ≡ is_listed slot subslot rows)
        → (b : Bool) → is_for slot subslot first ≡ b → cond b (Some first) (place_at slot subslot places) ≡ Some place → place.differs ≡ is_listed slot subslot rows
    by_own rest true own f =
        let parts = and_parts (first.slot == slot) (first.subslot == subslot) own in
        ap (λ (p : ExpectedPlace). p.differs) (sym (some_place first place f))
        ∙ (stated.0
        ∙ (ap (λ (n : ℕ). is_listed n first.subslot rows) (eqb-true first.slot slot parts.0)
        ∙ ap (λ (n : ℕ). is_listed slot n rows) (eqb-true first.subslot subslot parts.1)))
    by_own rest false own f = rest f

pub restated_stated : (rows : Listed DiffModule DiffSubmodule) (places : List ExpectedPlace) → AreStated rows (places_restated rows places)
restated_stated rows [] = tt
restated_stated rows (place ∷ places) = (refl, restated_stated rows places)

touched_stated : (rows : Listed DiffModule DiffSubmodule) (affected : Affected) (step : Step) (places : List ExpectedPlace)
    → AreStated rows places → AreStated rows (touched_places affected step places)
touched_stated rows affected step [] stated = tt
touched_stated rows affected step (place ∷ places) stated =
    (by_place (covers affected place.slot place.subslot), touched_stated rows affected step places stated.1)
  where
    by_place : (b : Bool) → (cond b (record place { step = step }) place).differs
        ≡ is_listed (cond b (record place { step = step }) place).slot (cond b (record place { step = step }) place).subslot rows
    by_place true = stated.0
    by_place false = stated.0

both_stated : (rows : Listed DiffModule DiffSubmodule) (one more : List ExpectedPlace) → AreStated rows one → AreStated rows more → AreStated rows (one ++ more)
both_stated rows [] more stated others = others
both_stated rows (place ∷ one) more stated others = (stated.0, both_stated rows one more stated.1 others)

parts_stated : (rows : Listed DiffModule DiffSubmodule) (slot : ℕ) (parts : List ExpectedSubmodule) → AreStated rows (map (first_place rows slot) parts)
parts_stated rows slot [] = tt
parts_stated rows slot (part ∷ parts) = (refl, parts_stated rows slot parts)

wanted_stated : (rows : Listed DiffModule DiffSubmodule) (wanteds : List Wanted) → AreStated rows (places_of rows wanteds)
wanted_stated rows [] = tt
wanted_stated rows (wanted ∷ wanteds) =
    both_stated rows (map (first_place rows wanted.entry.slot_number) wanted.submodules) (places_of rows wanteds)
    (parts_stated rows wanted.entry.slot_number wanted.submodules) (wanted_stated rows wanteds)

-- those of the answer to a Connect do
pub opened_stated : (expected : Expected) (rows : Listed DiffModule DiffSubmodule) → AreStated rows (opened_places expected rows)
opened_stated expected rows = wanted_stated rows (wanted_in expected.modules.items expected.submodules.items)

module _ (rows : Listed DiffModule DiffSubmodule) where
  abbrev Stated : PlugState → Type 0
  Stated plugs = AreStated rows plugs.places

  stepped_stated : (slot subslot : ℕ) (step : Step) (places : List ExpectedPlace) → AreStated rows places → AreStated rows (stepped slot subslot step places)
  stepped_stated slot subslot step places stated = touched_stated rows (record { slot = slot; subslot = Some subslot }) step places stated

  told_stated : (change : LowChange) (number : ℕ) (waiting : List QueuedAlarm) (plugs : PlugState) → Stated plugs → Stated (plugs_told change number waiting plugs)
  told_stated (low_change.Diagnosis made) number waiting plugs stated = stated
  told_stated (low_change.Module made) number waiting plugs stated = by_kind (is_plug made.kind)
    where
      by_last : (b : Bool) → AreStated rows (cond b (stepped made.slot made.subslot (Told number) plugs.places) plugs.places)
      by_last true = stepped_stated made.slot made.subslot (Told number) plugs.places stated
      by_last false = stated

      by_kind : (b : Bool) → Stated (cond b (told made.slot made.subslot number (not (waits_for_plug made.slot made.subslot waiting)) plugs) plugs)
      by_kind true = by_last (not (waits_for_plug made.slot made.subslot waiting) && is_plugged (place_at made.slot made.subslot plugs.places))
      by_kind false = stated

  ended_stated : (number : ℕ) (is_ready : Bool) (plugs : PlugState) → Stated plugs → Stated (ended number is_ready plugs)
  ended_stated number is_ready plugs stated = by_found (first_told number plugs.places)
    where
      by_found : (found : Option ExpectedPlace) → Stated (unwrap_or (option_map (ended_at number is_ready plugs) found) plugs)
      by_found None = stated
      by_found (Some place) = stepped_stated place.slot place.subslot (Ended number) plugs.places stated

  answered_stated : (is_positive : Bool) (plugs : PlugState) (standing : Option PlugCall) → Stated plugs → Stated (answered_by is_positive plugs standing)
  answered_stated is_positive plugs None stated = stated
  answered_stated is_positive plugs (Some call) stated = stepped_stated call.slot call.subslot (cond is_positive Settled Refused) plugs.places stated

  past_stated : (moment : Moment) (plugs : PlugState) → IsQuietMoment moment → Stated plugs → Stated (places_past moment plugs)
  past_stated (Alone event) plugs quiet stated = stated
  past_stated (Changes rows made begin_bad low) plugs quiet stated = absurd quiet
  past_stated (Tells change number waiting) plugs quiet stated = told_stated change number waiting plugs stated
  past_stated (Ends number is_ready) plugs quiet stated = ended_stated number is_ready plugs stated
  past_stated (Calls calls) plugs quiet stated = stated
  past_stated (Hears to_plug.NotWanted) plugs quiet stated = stated
  past_stated (Hears to_plug.Garbled) plugs quiet stated = stated
  past_stated (Hears to_plug.Confirmed) plugs quiet stated = answered_stated true plugs plugs.calls.standing stated
  past_stated (Hears to_plug.Refused) plugs quiet stated = answered_stated false plugs plugs.calls.standing stated

  all_stated : (moments : List Moment) (plugs : PlugState) → AreQuiet moments → Stated plugs → Stated (all_places moments plugs)
  all_stated [] plugs quiet stated = stated
  all_stated (moment ∷ moments) plugs quiet stated = all_stated moments (places_past moment plugs) quiet.1 (past_stated moment plugs quiet.0 stated)

  changed_stated : (made : RealChange) (plugs : PlugState) → Stated (plugs_changed rows made plugs)
  changed_stated made plugs =
      touched_stated rows (affected_by made) (step_by made.kind (is_listed made.slot made.subslot rows)) (places_restated rows plugs.places) (restated_stated rows plugs.places)

-- ---- one relation after another

-- One relation comes from another by moments of which no module comes or goes.
pub record Onward (old next : RelationState) : Type 0 where
  pub moments : List Moment
  pub quiet : AreQuiet moments
  pub places : next.plugs ≡ all_places moments old.plugs
  pub flow : next.flow ≡ all_past moments old.plugs old.flow
  pub request : next.request ≡ old.request

pub onward_same : (old next : RelationState) → next.plugs ≡ old.plugs → next.flow ≡ old.flow → next.request ≡ old.request → Onward old next
onward_same old next places flow request = record { moments = []; quiet = tt; places = places; flow = flow; request = request }

pub onward_then : (old between next : RelationState) → Onward old between → Onward between next → Onward old next
onward_then old between next one other = record {
  moments = one.moments ++ other.moments;
  quiet = both_quiet one.moments other.moments one.quiet other.quiet;
  places = other.places ∙ (ap (λ (plugs : PlugState). all_places other.moments plugs) one.places ∙ sym (places_both one.moments other.moments old.plugs));
  flow = other.flow
      ∙ (ap (λ (plugs : PlugState). all_past other.moments plugs between.flow) one.places
      ∙ (ap (λ (flow : Flow). all_past other.moments (all_places one.moments old.plugs) flow) one.flow
      ∙ sym (past_both one.moments other.moments old.plugs old.flow)));
  request = other.request ∙ one.request;
}

-- One relation comes from another, while these modules become those.
pub record Goes (before after : List RealModule) (old next : RelationState) : Type 0 where
  pub moments : List Moment
  pub places : next.plugs ≡ all_places moments old.plugs
  pub flow : next.flow ≡ all_past moments old.plugs old.flow
  pub request : next.request ≡ old.request
  pub stated : AreStated (rows_now before old) old.plugs.places → AreStated (rows_now after next) next.plugs.places

pub onward_goes : (real : List RealModule) (old next : RelationState) → Onward old next → Goes real real old next
onward_goes real old next onward = record {
  moments = onward.moments;
  places = onward.places;
  flow = onward.flow;
  request = onward.request;
  stated = λ stated.
      subst (λ (request : Request). AreStated (diff_of request.expected real) next.plugs.places) (sym onward.request)
      (subst (λ (plugs : PlugState). AreStated (rows_now real old) plugs.places) (sym onward.places)
      (all_stated (rows_now real old) onward.moments old.plugs onward.quiet stated));
}

pub goes_both : (before now after : List RealModule) (old between next : RelationState) → Goes before now old between → Goes now after between next → Goes before after old next
goes_both before now after old between next one other = record {
  moments = one.moments ++ other.moments;
  places = other.places ∙ (ap (λ (plugs : PlugState). all_places other.moments plugs) one.places ∙ sym (places_both one.moments other.moments old.plugs));
  flow = other.flow
      ∙ (ap (λ (plugs : PlugState). all_past other.moments plugs between.flow) one.places
      ∙ (ap (λ (flow : Flow). all_past other.moments (all_places one.moments old.plugs) flow) one.flow
      ∙ sym (past_both one.moments other.moments old.plugs old.flow)));
  request = other.request ∙ one.request;
  stated = λ stated. other.stated (one.stated stated);
}

-- ---- what happens to one relation

pub alone : (link : RelationState) (event : Event) → Onward link (with_flow (behind event link.flow) link)
alone link event = record { moments = Alone event ∷ []; quiet = (tt, tt); places = refl; flow = refl; request = refl }

pub called_on : (link : RelationState) (calls : PlugQueue) → Onward link (record link { plugs = record link.plugs { calls = calls } })
called_on link calls = record { moments = Calls calls ∷ []; quiet = (tt, tt); places = refl; flow = refl; request = refl }

pub ended_on : (link : RelationState) (number : ℕ) (is_ready : Bool) → Onward link (record link { plugs = ended number is_ready link.plugs })
ended_on link number is_ready = record { moments = Ends number is_ready ∷ []; quiet = (tt, tt); places = refl; flow = refl; request = refl }

pub answered_on : (link : RelationState) (heard : PlugAnswer) → Onward link (answered_with heard link)
answered_on link heard = record { moments = Hears heard ∷ []; quiet = (tt, tt); places = refl; flow = refl; request = refl }

-- an alarm of low priority is first sent, or none is
abbrev tells : Option SentAlarm → List QueuedAlarm → List Moment
tells None waiting = []
tells (Some sent) waiting = Tells sent.change sent.number waiting ∷ []

pub told_on : (link : RelationState) (sent : Option SentAlarm) (waiting : List QueuedAlarm) (taken : List TakenRecord)
    → Onward link (record link { plugs = plugs_after sent waiting link.plugs; taken = taken })
told_on link None waiting taken = record { moments = []; quiet = tt; places = refl; flow = refl; request = refl }
told_on link (Some sent) waiting taken = record { moments = Tells sent.change sent.number waiting ∷ []; quiet = (tt, tt); places = refl; flow = refl; request = refl }

pub lowers_on : (link : RelationState) (low : Low) (sent : Option SentAlarm) (waiting : List QueuedAlarm) (taken : List TakenRecord)
    → Onward link (record link { flow = with_low link.flow low; plugs = plugs_after sent waiting link.plugs; taken = taken })
lowers_on link low sent waiting taken =
    onward_then link (with_flow (with_low link.flow low) link) _ (alone link (Lowers low)) (told_on (with_flow (with_low link.flow low) link) sent waiting taken)

pub begins_on : (link : RelationState) (phase : Phase) (low : Low) (sent : Option SentAlarm) (waiting : List QueuedAlarm) (taken : List TakenRecord)
    → Onward link (record link { phase = phase; flow = with_low (begun_of link.flow) low; plugs = plugs_after sent waiting link.plugs; taken = taken })
begins_on link phase low sent waiting taken =
    let begun : RelationState = record link { phase = phase; flow = begun_of link.flow } in
    onward_then link begun _ (record { moments = Alone Begins ∷ []; quiet = (tt, tt); places = refl; flow = refl; request = refl })
    (lowers_on begun low sent waiting taken)

-- a unit
unit_calls : (b : Bool) (plugs : PlugState) (calls : PlugQueue)
    → cond b plugs (record plugs { calls = calls }) ≡ record plugs { calls = (cond b plugs (record plugs { calls = calls })).calls }
unit_calls true plugs calls = refl
unit_calls false plugs calls = refl

pub passes_on : (link : RelationState) → Onward link (unit_later link)
passes_on link = record {
  moments = Alone Passes ∷ Calls (unit_later link).plugs.calls ∷ [];
  quiet = (tt, (tt, tt));
  places = unit_calls (is_timed link.phase) link.plugs (counted link.plugs.calls);
  flow = refl;
  request = refl;
}

-- something is pulled or plugged
pub changes_on : (before now : List RealModule) (made : RealChange) (later : List Diagnosis) (link : RelationState)
    → Goes before now link (changed_by (rows_now now link) made later link)
changes_on before now made later link =
    let rows = rows_now now link in
    let plugs = places_then rows made link in
    let flow = flow_then rows made later link in
    let changed : RelationState = record link { plugs = plugs; flow = flow } in
    let taken = taken_after (sent_then rows made later link) plugs.places link.taken in
    let reported : RelationState = record changed { plugs = plugs_then rows made later link; taken = taken } in
    goes_both before now now link changed _
    (record {
      moments = Changes rows made link.options.inputs_begin_bad (flow_reported (is_hit (affected_by made) plugs) link.request rows made later link.flow).low ∷ [];
      places = refl;
      flow = refl;
      request = refl;
      stated = λ stated. changed_stated rows made link.plugs;
    })
    (onward_goes now changed _
    (onward_then changed reported _ (told_on changed (sent_then rows made later link) flow.low.waiting taken)
    (called_on reported (unwrap_or (sent_next reported.plugs.calls) reported.plugs.calls))))
