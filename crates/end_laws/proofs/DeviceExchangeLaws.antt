-- What a device exchanges over any events: a frame of inputs in each interval, with the values that were given, and the end of a
-- relation that receives nothing.
use Rattle.std.proofs.Common.{◌≡◌, ◌⊎◌, inl, inr, ap, ◌+◌, ◌%◌, ◌==◌, ◌&&◌, ℕ, zero, suc, Bool, true, false, cond, List, [], ◌∷◌, ◌++◌, length, map, Option, Some, None, option_map, refl, sym, subst, ◌∙◌, arith}
use Rattle.std.specs.Prelude.{◌||◌, if◌then◌else◌, is_some, nat_le, unwrap_or}
use Rattle.std.specs.List.{AllByRecursion}
use Rattle.pn_alarms.specs.declared.abort.Abort.{Abort}
use Rattle.pn_alarms.specs.declared.abort.Abort.TheVariants.{DataHold, Activity, Other}
use Rattle.pn_alarms.specs.declared.repeats.Due.{Due as AlarmDue}
use Rattle.pn_alarms.specs.declared.repeats.Due.TheVariants as is_due_of
use Rattle.cyclic_data.specs.Image.{Cell, Shown, cell_at, place_at}
use Rattle.cyclic_data.specs.Layout.{is_of}
use Rattle.cyclic_data.specs.exchange.Opening.{StatusOf, first_cell}
use Rattle.wire.specs.blocks.modules.Lists.{Listed}
use Rattle.connect_blocks.specs.declared.module_diff.DiffModule.{DiffModule}
use Rattle.connect_blocks.specs.declared.module_diff.DiffSubmodule.{DiffSubmodule}
use Rattle.expected_places.specs.declared.calls.PlugCall.{PlugCall}
use Rattle.cyclic_data.specs.Timing.{Hearing, Sending, held_on, is_due, unit_later as sending_later}
use Rattle.cyclic_data.specs.declared.exchange.route.Route.{Route}
use Rattle.cyclic_data.specs.declared.place.Place.{Place}
use Rattle.cyclic_data.specs.declared.place.PlaceKind.TheVariants.{Data}
use Rattle.cyclic_data.specs.exchange.Cyclic.{Cyclic as CyclicEnd}
use Rattle.cyclic_data.specs.exchange.Runs.{later_one}
use Rattle.cyclic_data.specs.exchange.Units.{ending_by, is_silent as is_cyclic_silent, tick_by}
use Rattle.relations.specs.exchange.Flow.{Flow}
use Rattle.relations.specs.exchange.Frames.{Frame, Inputs, Notifies, Replies, Reports, RepliesLow}
use Rattle.relations.specs.declared.exchange.marks.Mark.{Mark}
use Rattle.relations.specs.exchange.Marks.{Starting, first_mark, mark_at}
use Rattle.relations.specs.exchange.Opening.{first_marks, interval_of, opened, statuses_of}
use Rattle.relations.specs.Plugging.{ready_for}
use Rattle.relations.specs.exchange.Runs as runs
use Rattle.relations.specs.exchange.Units.{alarm_due, flow_later, tick_of}
use Rattle.relations.specs.RelationState.{RelationState, flow_of, phase_of}
use Rattle.relations.specs.declared.phase.Phase.{Phase}
use Rattle.relations.specs.declared.phase.Phase.TheVariants.{Started, Preparing, Awaiting, Exchanging}
use Rattle.relations.specs.declared.farewell.Farewell.{Farewell}
use Rattle.relations.specs.Phases.{made_of, passing_by, updated}
use Rattle.relations.specs.Timers.{Due, due_by, due_in, ending_of, is_over, is_timed, unit_later}
use Rattle.device_frames.specs.Heard.{Heard, Ticks, heard_of}
use Rattle.device_frames.specs.Relation.{alarms_of, due_frames, farewells_in, frames_in, inputs_of, low_alarms_of, plug_call_in, plug_calls, ready_calls, where_due}
use Rattle.device_frames.specs.Sent.{Sent, IdentifyAnswer, GetAnswer, SetAnswer, ArpReply, Again, Ends, CallAnswer, Exchanges, PlugReadyCall, ReadyCall}
use Rattle.settings_journal.specs.settings_store.Machine.{Outcome}
use Rattle.asked_records.specs.declared.question.Question.{Question}
use Rattle.asked_records.specs.Questions.{operation_of}
use Rattle.asked_records.specs.declared.status.Unanswered.TheVariants.{Late}
use Rattle.rpc_core.specs.Cache.{Kept}
use Rattle.pn_values.specs.IpSuite.{is_zero}
use Rattle.relations.specs.declared.options.DeviceOptions.{DeviceOptions}
use Rattle.device_core.specs.State.{Live, Station, counter_of, units_after}
use Rattle.device_core.specs.Asking.{is_kept, is_new, late_in, late_sent, looked_if, question_replies, refused_reply}
use Rattle.device_core.specs.Handled.{unit_rest, unit_sent}
use Rattle.device_core.specs.Machine.{handled_step, heard_step}
use Rattle.end_laws.specs.device.Exchange.{AreTheLastGiven, AreUnaccepted, EndsWithoutData, GoesOnFor, Happening, IsUnaccepted, OfInputs, SendsEachInterval, SendsTheLastGiven, StaysExchanging, StaysRelated, affects, after_all, ends_for_data, given_then, given_with, is_end_of_data, is_inputs, is_unit, last_given, made_with, sends_inputs, stepped, units_in, value_of}
use Rattle.end_laws.proofs.DeviceExchange.{Follows, alarms_none, both_none, hearing_of, late_none, low_alarms_none, none_due, plug_calls_none, ready_none, step_does, value_then, waiting_on}
use Rattle.end_laws.proofs.DeviceInputs.{IsPaired, paired_on, value, zeros_if}
use Rattle.relations.proofs.ExchangeInputs.{cell_in, placed}

-- ---- options

pub two : {A : Type 0} (x y : A) → Some x ≡ Some y → x ≡ y
two x y e = cc

pub some_of : {A : Type 0} (o : Option A) → is_some o ≡ true → (x : A) × (o ≡ Some x)
some_of (Some x) e = (x, refl)
some_of None e = absurd (no_bool e)
  where
    no_bool : false ≡ true → ⊥
    no_bool e = cc

-- ---- a relation over several events

-- the provider after several units
abbrev sending_after : ℕ → Sending → Sending
sending_after zero sending = sending
sending_after (suc units) sending = sending_after units (sending_later sending)

-- a place with the value that it was given
abbrev given_at : (ℕ → Option (List ℕ)) → Place → Place × List ℕ
given_at was place = (place, value_of place (was place.size))

record RunFollows (station : Station) (live : Live) (link : RelationState) (happened : List Happening) : Type 0 where
  next : RelationState
  has : (after_all station happened live).rest.link ≡ Some next
  sends : next.flow.cyclic.sending ≡ sending_after (units_in station happened) link.flow.cyclic.sending
  inputs : (slot subslot : ℕ) (places : Option Place) (was : ℕ → Option (List ℕ)) → IsPaired slot subslot link.flow
      → option_map (placed value) (cell_in slot subslot link.flow) ≡ option_map (given_at was) places
      → option_map (placed value) (cell_in slot subslot next.flow)
      ≡ option_map (given_at (λ size. last_given station live slot subslot size happened (was size))) places

-- what was given is the value
then_value : (cleared : Bool) (given was : Option (List ℕ)) (place : Place)
    → zeros_if cleared (unwrap_or given (value_of place was)) place ≡ value_of place (if cleared then None else later_one given was)
then_value true given was place = refl
then_value false None was place = refl
then_value false (Some octets) was place = refl

given_step : (cleared : Bool) (given was : ℕ → Option (List ℕ)) (cell after : Option Cell) (places : Option Place)
    → option_map (placed value) after ≡ option_map (placed (λ (c : Cell). value_then cleared (given c.place.size) c)) cell
    → option_map (placed value) cell ≡ option_map (given_at was) places
    → option_map (placed value) after ≡ option_map (given_at (λ size. if cleared then None else later_one (given size) (was size))) places
given_step cleared given was None after None e f = e
given_step cleared given was None after (Some place) e f = absurd cc
given_step cleared given was (Some cell) after None e f = absurd cc
given_step cleared given was (Some cell) after (Some place) e f =
    e
    ∙ (ap (λ (x : Place × List ℕ). let o : Option (Place × List ℕ) = Some (x.0, zeros_if cleared (unwrap_or (given x.0.size) x.1) x.0) in o)
    (two (cell.place, cell.value) (place, value_of place (was place.size)) f)
    ∙ ap (λ (octets : List ℕ). let o : Option (Place × List ℕ) = Some (place, octets) in o) (then_value cleared (given place.size) (was place.size) place))

sends_more : (is : Bool) (units : ℕ) (sending : Sending) → sending_after units (if is then sending_later sending else sending) ≡ sending_after (if is then suc units else units) sending
sends_more true units sending = refl
sends_more false units sending = refl

module _ (station : Station) (live : Live) (link : RelationState) (one : Happening) (more : List Happening) where
  abbrev heard_now : Heard
  heard_now = heard_of station.identity one.event

  then_follows : (between : RelationState) → Follows live link heard_now between.flow → RunFollows station (stepped station live one).live between more → RunFollows station live link (one ∷ more)
  then_follows between first rest = record {
    next = rest.next;
    has = rest.has;
    sends = rest.sends ∙ (ap (λ (sending : Sending). sending_after (units_in station more) sending) first.sends
        ∙ sends_more (is_unit heard_now) (units_in station more) link.flow.cyclic.sending);
    inputs = λ slot subslot places was paired given.
        let shows = first.inputs slot subslot paired in
        rest.inputs slot subslot places (λ size. given_then live slot subslot size heard_now (was size))
        (paired_on slot subslot _ link.flow between.flow shows paired)
        (given_step (affects (made_with live heard_now) slot subslot) (λ size. given_with slot subslot size heard_now) was
        (cell_in slot subslot link.flow) (cell_in slot subslot between.flow) places shows.is given);
  }

run_follows : (station : Station) (happened : List Happening) (live : Live) (link : RelationState) → live.rest.link ≡ Some link → StaysRelated station happened live
    → RunFollows station live link happened
run_follows station [] live link is related = record { next = link; has = is; sends = refl; inputs = λ slot subslot places was paired given. given }
run_follows station (one ∷ more) live link is related =
    let next = some_of (stepped station live one).live.rest.link related.0 in
    let does = step_does one.outcomes station live link (heard_of station.identity one.event) is in
    then_follows station live link one more next.0 (does.follows next.0 next.1)
    (run_follows station more (stepped station live one).live next.0 next.1 related.1)

related_front : (station : Station) (happened : List Happening) (last : Happening) (live : Live) → StaysRelated station (happened ++ last ∷ []) live
    → StaysRelated station happened live × (is_some (stepped station (after_all station happened live) last).live.rest.link ≡ true)
related_front station [] last live related = (tt, related.0)
related_front station (one ∷ more) last live related =
    let rest = related_front station more last (stepped station live one).live related.1 in
    ((related.0, rest.0), rest.1)

-- ---- what a unit sends

skips : (sent more : List Sent) → sends_inputs sent ≡ false → sends_inputs (sent ++ more) ≡ sends_inputs more
skips [] more none = refl
skips (message ∷ sent) more none =
    let parts = both_none (is_inputs message) (sends_inputs sent) none in
    ap (λ (b : Bool). b || sends_inputs (sent ++ more)) parts.0 ∙ skips sent more parts.1

inputs_due : (is : Bool) (counter : ℕ) (flow : Flow) → sends_inputs (where_due is (inputs_of counter (Some flow))) ≡ is
inputs_due true counter flow = refl
inputs_due false counter flow = refl

due_sends : (address : List ℕ) (counter : ℕ) (is_alarm is_low is_ready is_plug_ready is_cyclic : Bool) (link : RelationState)
    → sends_inputs (due_frames address counter (record { farewell = None; is_alarm = is_alarm; is_low = is_low; is_ready = is_ready; is_plug_ready = is_plug_ready; is_cyclic = is_cyclic }) (Some link)) ≡ is_cyclic
due_sends address counter is_alarm is_low is_ready is_plug_ready is_cyclic link =
    skips (where_due is_alarm (alarms_of (Some link.flow))) _ (none_due is_alarm (alarms_of (Some link.flow)) (alarms_none (Some link.flow)))
    ∙ (skips (where_due is_low (low_alarms_of (Some link.flow))) _ (none_due is_low (low_alarms_of (Some link.flow)) (low_alarms_none (Some link.flow)))
    ∙ (skips (where_due is_ready (ready_calls address (Some link))) _ (none_due is_ready (ready_calls address (Some link)) (ready_none address (Some link)))
    ∙ (skips (where_due is_plug_ready (plug_calls address (Some link))) _ (none_due is_plug_ready (plug_calls address (Some link)) (plug_calls_none address (Some link)))
    ∙ inputs_due is_cyclic counter link.flow)))

-- a frame is due if the exchange does not end
cyclic_due : (cyclic : CyclicEnd) (alarm : AlarmDue) (ending : Option Abort) → (tick_by cyclic alarm ending).ending ≡ None → (tick_by cyclic alarm ending).is_cyclic ≡ is_due cyclic.sending
cyclic_due cyclic alarm None e = refl
cyclic_due cyclic alarm (Some because) e = absurd (no_some e)
  where
    no_some : Some because ≡ None → ⊥
    no_some e = cc

-- before the exchange of data the exchange does not end, or it ends with the relation
timed_by : (phase : Phase) (over : Bool) (ending : Option Abort) → phase ≡ Exchanging → (if is_timed phase then (if over then Some Activity else None) else ending) ≡ ending
timed_by Exchanging over ending e = refl
timed_by Started over ending e = absurd cc
timed_by Preparing over ending e = absurd cc
timed_by Awaiting over ending e = absurd cc

unended : (link : RelationState) → GoesOnFor (Some link) → ending_of link ≡ None → (tick_of link.flow).ending ≡ None
unended link (inr none) e = none
unended link (inl exchanges) e = sym (timed_by link.phase (is_over link) (tick_of link.flow).ending exchanges) ∙ e

-- what is sent after the frames of the relation is no frame of inputs
ends_there : (sent more : List Sent) → sends_inputs more ≡ false → sends_inputs (sent ++ more) ≡ sends_inputs sent
ends_there [] more none = none
ends_there (message ∷ sent) more none = ap (λ (b : Bool). is_inputs message || b) (ends_there sent more none)

-- the refusal of a call that has no answer with this unit, if there is one
abbrev late_after : Station → Live → List Sent
late_after station live = late_sent station.options live.values.running.suite.address (late_in (length (unit_sent live)) (unit_rest live).asked) live.rest.calls

-- one unit of a device with this relation
module _ (station : Station) (before : Live) (link : RelationState) where
  -- a device with this relation
  abbrev with_link : Live
  with_link = record before { rest = record before.rest { link = Some link } }

  abbrev sent_by : Option Abort → List Sent
  sent_by ending = due_frames before.values.running.suite.address (counter_of (units_after 1 before.rest.units)) (due_by link ending) (updated (passing_by ending) (Some link))

  unit_sends : (ending : Option Abort) → ending_of link ≡ ending → GoesOnFor (Some link) → is_some (updated (passing_by ending) (Some link)) ≡ true
      → sends_inputs (sent_by ending) ≡ is_due link.flow.cyclic.sending
  unit_sends (Some because) is goes_on related = absurd (no_bool related)
    where
      no_bool : false ≡ true → ⊥
      no_bool e = cc
  unit_sends None is goes_on related =
      due_sends before.values.running.suite.address (counter_of (units_after 1 before.rest.units)) _ _ _ _ (tick_of link.flow).is_cyclic (unit_later link)
      ∙ cyclic_due link.flow.cyclic (alarm_due link.flow) _ (unended link goes_on is)

  tick_sends : (outcomes : List Outcome) → GoesOnFor (Some link) → is_some (heard_step outcomes station (record before { rest = record before.rest { link = Some link } }) Ticks).live.rest.link ≡ true
      → sends_inputs (heard_step outcomes station (record before { rest = record before.rest { link = Some link } }) Ticks).sent ≡ is_due link.flow.cyclic.sending
  unfolding heard_step handled_step
  tick_sends outcomes goes_on related =
      ends_there (unit_sent with_link) (late_after station with_link) (late_none station.options before.values.running.suite.address _ before.rest.calls)
      ∙ unit_sends (ending_of link) refl goes_on related

-- the unit of any device with a relation
tick_at : (station : Station) (outcomes : List Outcome) (live : Live) (link : RelationState) → live.rest.link ≡ Some link → GoesOnFor live.rest.link
    → is_some (heard_step outcomes station live Ticks).live.rest.link ≡ true → sends_inputs (heard_step outcomes station live Ticks).sent ≡ is_due link.flow.cyclic.sending
tick_at station outcomes live link is goes_on related =
    let same : live ≡ record live { rest = record live.rest { link = Some link } } = ap (λ (l : Option RelationState). record live { rest = record live.rest { link = l } }) is in
    subst (λ (l : Live). GoesOnFor l.rest.link → is_some (heard_step outcomes station l Ticks).live.rest.link ≡ true → sends_inputs (heard_step outcomes station l Ticks).sent ≡ is_due link.flow.cyclic.sending)
    (sym same) (tick_sends station live link outcomes) goes_on related

unit_is : (heard : Heard) → is_unit heard ≡ true → heard ≡ Ticks
unit_is Ticks e = refl
unit_is heard e = absurd cc

-- ---- a frame of inputs in each interval

module _ (station : Station) (live : Live) (last : Happening) (next : RelationState) (has : live.rest.link ≡ Some next) (due : Bool) (is_due_now : is_due next.flow.cyclic.sending ≡ due)
    (goes_on : GoesOnFor live.rest.link) (stands : is_some (stepped station live last).live.rest.link ≡ true) where
  interval_by : (b : Bool) → is_unit (heard_of station.identity last.event) ≡ b
      → sends_inputs (stepped station live last).sent ≡ (is_unit (heard_of station.identity last.event) && due)
  interval_by false e = (step_does last.outcomes station live next (heard_of station.identity last.event) has).silent e ∙ sym (ap (λ (b : Bool). b && due) e)
  interval_by true e =
      let ticks : heard_of station.identity last.event ≡ Ticks = unit_is (heard_of station.identity last.event) e in
      let related : is_some (heard_step last.outcomes station live Ticks).live.rest.link ≡ true =
      subst (λ (h : Heard). is_some (heard_step last.outcomes station live h).live.rest.link ≡ true) ticks stands in
      ap (λ (h : Heard). sends_inputs (heard_step last.outcomes station live h).sent) ticks
      ∙ (tick_at station last.outcomes live next has goes_on related ∙ (is_due_now ∙ sym (ap (λ (b : Bool). b && due) e)))

-- units alone
abbrev passes : ℕ → List runs.Event
passes zero = []
passes (suc units) = runs.Passes ∷ passes units

passes_units : (units : ℕ) → runs.units_in (passes units) ≡ units
passes_units zero = refl
passes_units (suc units) = omega (arith, passes_units units)

passes_send : (units : ℕ) (flow : Flow) → (runs.behind_all (passes units) flow).cyclic.sending ≡ sending_after units flow.cyclic.sending
passes_send zero flow = refl
passes_send (suc units) flow = passes_send units (flow_later flow)

pub sends_each_interval : runs.IsDueEachInterval → SendsEachInterval
sends_each_interval law station live happened last answered long related goes_on =
    let front = related_front station happened last live related in
    let run = run_follows station happened live (made_of answered.request answered.partner answered.rows answered.options answered.starting) answered.link front.0 in
    let units = units_in station happened in
    interval_by station (after_all station happened live) last run.next run.has ((units_in station happened + 1) % interval_of answered.request.input == 0)
    (ap is_due (run.sends ∙ sym (passes_send units (opened answered.request answered.rows answered.starting)))
    ∙ (law answered.request answered.rows answered.starting (passes units) long
    ∙ ap (λ (n : ℕ). (n + 1) % interval_of answered.request.input == 0) (passes_units units)))
    goes_on front.1 (is_unit (heard_of station.identity last.event)) refl

-- ---- its values

module _ (station : Station) (Has : Shown → Type 0) where
  abbrev AllHave : List Sent → Type 0
  AllHave sent = AllByRecursion (OfInputs Has) sent

  frame_has : (route : Route) (frame : Frame) → is_inputs (Exchanges route frame) ≡ false → OfInputs Has (Exchanges route frame)
  frame_has route (Inputs state inputs counter) e = absurd cc
  frame_has route (Notifies header alarm) e = tt
  frame_has route (Replies header) e = tt
  frame_has route (Reports tag header alarm) e = tt
  frame_has route (RepliesLow tag header) e = tt

  message_has : (message : Sent) → is_inputs message ≡ false → OfInputs Has message
  message_has (Exchanges route frame) e = frame_has route frame e
  message_has (IdentifyAnswer asker running xid) e = tt
  message_has (GetAnswer asker running alias asked) e = tt
  message_has (SetAnswer asker asked answers) e = tt
  message_has (ArpReply asker address target) e = tt
  message_has (CallAnswer caller address answer) e = tt
  message_has (Again frame) e = tt
  message_has (ReadyCall address ready) e = tt
  message_has (PlugReadyCall address ready) e = tt
  message_has (Ends farewell) e = tt

  none_has : (sent : List Sent) → sends_inputs sent ≡ false → AllHave sent
  none_has [] none = tt
  none_has (message ∷ sent) none =
      let parts = both_none (is_inputs message) (sends_inputs sent) none in
      (message_has message parts.0, none_has sent parts.1)

  both_have : (sent more : List Sent) → AllHave sent → AllHave more → AllHave (sent ++ more)
  both_have [] more all others = others
  both_have (message ∷ sent) more all others = (all.0, both_have sent more all.1 others)

  due_has : (is : Bool) (sent : List Sent) → AllHave sent → AllHave (where_due is sent)
  due_has true sent all = all
  due_has false sent all = tt

  farewells_have : (farewell : Option Farewell) → AllHave (farewells_in farewell)
  farewells_have None = tt
  farewells_have (Some farewell) = (tt, tt)

  inputs_have : (counter : ℕ) (flow : Option Flow) → ((there : Flow) → flow ≡ Some there → Has there.cyclic.shown) → AllHave (inputs_of counter flow)
  inputs_have counter None given = tt
  inputs_have counter (Some flow) given = (given flow refl, tt)

  frames_have : (address : List ℕ) (counter : ℕ) (due : Due) (link : Option RelationState) → ((there : Flow) → flow_of link ≡ Some there → Has there.cyclic.shown)
      → AllHave (due_frames address counter due link)
  frames_have address counter due link given =
      both_have (farewells_in due.farewell) _ (farewells_have due.farewell)
      (both_have (where_due due.is_alarm (alarms_of (flow_of link))) _ (none_has _ (none_due due.is_alarm (alarms_of (flow_of link)) (alarms_none (flow_of link))))
      (both_have (where_due due.is_low (low_alarms_of (flow_of link))) _ (none_has _ (none_due due.is_low (low_alarms_of (flow_of link)) (low_alarms_none (flow_of link))))
      (both_have (where_due due.is_ready (ready_calls address link)) _ (none_has _ (none_due due.is_ready (ready_calls address link) (ready_none address link)))
      (both_have (where_due due.is_plug_ready (plug_calls address link)) _ (none_has _ (none_due due.is_plug_ready (plug_calls address link) (plug_calls_none address link)))
      (due_has due.is_cyclic (inputs_of counter (flow_of link)) (inputs_have counter (flow_of link) given))))))

  -- with a unit
  module _ (before : Live) (link : RelationState) (given : Has link.flow.cyclic.shown) where
    later_given : (ending : Option Abort) (there : Flow) → flow_of (updated (passing_by ending) (Some link)) ≡ Some there → Has there.cyclic.shown
    later_given (Some because) there e = absurd (none_some e)
      where
        none_some : None ≡ Some there → ⊥
        none_some e = cc
    later_given None there e = subst (λ (flow : Flow). Has flow.cyclic.shown) (two (flow_later link.flow) there e) given

    tick_has : (outcomes : List Outcome) → AllHave (heard_step outcomes station (record before { rest = record before.rest { link = Some link } }) Ticks).sent
    unfolding heard_step handled_step
    tick_has outcomes =
        let live : Live = record before { rest = record before.rest { link = Some link } } in
        let later = updated (passing_by (ending_of link)) (Some link) in
        both_have (unit_sent live) (late_after station live)
        (frames_have before.values.running.suite.address (counter_of (units_after 1 before.rest.units)) (due_in link) later (later_given (ending_of link)))
        (none_has (late_after station live) (late_none station.options before.values.running.suite.address _ before.rest.calls))

  pub any_has : (outcomes : List Outcome) (live : Live) (link : RelationState) (heard : Heard) → live.rest.link ≡ Some link → Has link.flow.cyclic.shown
      → AllHave (heard_step outcomes station live heard).sent
  any_has outcomes live link heard is given = by_unit (is_unit heard) refl
    where
      same : live ≡ record live { rest = record live.rest { link = Some link } }
      same = ap (λ (l : Option RelationState). record live { rest = record live.rest { link = l } }) is

      by_unit : (b : Bool) → is_unit heard ≡ b → AllHave (heard_step outcomes station live heard).sent
      by_unit false e = none_has (heard_step outcomes station live heard).sent ((step_does outcomes station live link heard is).silent e)
      by_unit true e =
          subst (λ (h : Heard). AllHave (heard_step outcomes station live h).sent) (sym (unit_is heard e))
          (subst (λ (l : Live). AllHave (heard_step outcomes station l Ticks).sent) (sym same) (tick_has live link given outcomes))

-- the values alone
values_alone : (was : ℕ → Option (List ℕ)) (cell : Option Cell) (places : Option Place) → option_map (placed value) cell ≡ option_map (given_at was) places
    → option_map (λ (c : Cell). c.value) cell ≡ option_map (λ (place : Place). value_of place (was place.size)) places
values_alone was None None e = refl
values_alone was None (Some place) e = absurd cc
values_alone was (Some cell) None e = absurd cc
values_alone was (Some cell) (Some place) e = ap (λ (o : Option (Place × List ℕ)). option_map (λ (x : Place × List ℕ). x.1) o) e

-- the answer to a Connect: zeros, and a mark for each input
first_given : (slot subslot : ℕ) (statuses : StatusOf) (places : List Place)
    → option_map (placed value) (cell_at Data slot subslot (map (first_cell statuses) places)) ≡ option_map (given_at (λ size. None)) (place_at Data slot subslot places)
first_given slot subslot statuses [] = refl
first_given slot subslot statuses (place ∷ places) = by_own (first_given slot subslot statuses places) (is_of Data slot subslot place)
  where
    by_own : option_map (placed value) (cell_at Data slot subslot (map (first_cell statuses) places)) ≡ option_map (given_at (λ size. None)) (place_at Data slot subslot places)
        → (b : Bool) → option_map (placed value) (if b then Some (first_cell statuses place) else cell_at Data slot subslot (map (first_cell statuses) places))
        ≡ option_map (given_at (λ size. None)) (if b then Some place else place_at Data slot subslot places)
    by_own rest true = refl
    by_own rest false = rest

first_paired : (slot subslot : ℕ) (statuses : StatusOf) (starting : Starting) (rows : Listed DiffModule DiffSubmodule) (places : List Place)
    → option_map (λ (cell : Cell). cell.place) (cell_at Data slot subslot (map (first_cell statuses) places))
    ≡ option_map (λ (mark : Mark). mark.place) (mark_at slot subslot (map (first_mark starting rows) places))
first_paired slot subslot statuses starting rows [] = refl
first_paired slot subslot statuses starting rows (place ∷ places) = by_own (first_paired slot subslot statuses starting rows places) (is_of Data slot subslot place)
  where
    by_own : option_map (λ (cell : Cell). cell.place) (cell_at Data slot subslot (map (first_cell statuses) places))
        ≡ option_map (λ (mark : Mark). mark.place) (mark_at slot subslot (map (first_mark starting rows) places))
        → (b : Bool) → option_map (λ (cell : Cell). cell.place) (if b then Some (first_cell statuses place) else cell_at Data slot subslot (map (first_cell statuses) places))
        ≡ option_map (λ (mark : Mark). mark.place) (if b then Some (first_mark starting rows place) else mark_at slot subslot (map (first_mark starting rows) places))
    by_own rest true = refl
    by_own rest false = rest

pub sends_the_last_given : SendsTheLastGiven
sends_the_last_given station live happened last answered related =
    let made = made_of answered.request answered.partner answered.rows answered.options answered.starting in
    let run = run_follows station happened live made answered.link related in
    let places = answered.request.input.layout.places in
    let statuses = statuses_of answered.rows (first_marks answered.request answered.rows answered.starting) in
    any_has station (AreTheLastGiven station live happened answered.request) last.outcomes (after_all station happened live) run.next (heard_of station.identity last.event) run.has
    (λ slot subslot.
    values_alone (λ size. last_given station live slot subslot size happened None) (cell_in slot subslot run.next.flow) (place_at Data slot subslot places)
    (run.inputs slot subslot (place_at Data slot subslot places) (λ size. None) (first_paired slot subslot statuses answered.starting answered.rows places)
    (first_given slot subslot statuses places)))

-- ---- the end without data

-- The units that a relation waits, one after the other.
abbrev waiting_for : ℕ → Bool × Hearing → Bool × Hearing
waiting_for zero pair = pair
waiting_for (suc units) pair = waiting_for units (waiting_on pair)

abbrev is_silent_pair : Bool × Hearing → Bool
is_silent_pair pair = pair.0 && ((held_on pair.1).held == pair.1.limit)

record RunHears (station : Station) (live : Live) (link : RelationState) (happened : List Happening) : Type 0 where
  next : RelationState
  has : (after_all station happened live).rest.link ≡ Some next
  phase : next.phase ≡ Exchanging
  hears : hearing_of next.flow.cyclic ≡ waiting_for (units_in station happened) (hearing_of link.flow.cyclic)

exchanging_is : (o : Option RelationState) → phase_of o ≡ Some Exchanging → (link : RelationState) × (o ≡ Some link) × (link.phase ≡ Exchanging)
exchanging_is (Some link) e = (link, refl, two link.phase Exchanging e)
exchanging_is None e = absurd (none_some e)
  where
    none_some : None ≡ Some Exchanging → ⊥
    none_some e = cc

waits_more : (is : Bool) (units : ℕ) (pair : Bool × Hearing) → waiting_for units (if is then waiting_on pair else pair) ≡ waiting_for (if is then suc units else units) pair
waits_more true units pair = refl
waits_more false units pair = refl

run_hears : (station : Station) (happened : List Happening) (live : Live) (link : RelationState) → live.rest.link ≡ Some link → link.phase ≡ Exchanging
    → StaysExchanging station happened live → AreUnaccepted station happened live → RunHears station live link happened
run_hears station [] live link is phase stays none = record { next = link; has = is; phase = phase; hears = refl }
run_hears station (one ∷ more) live link is phase stays none =
    let heard = heard_of station.identity one.event in
    let after = exchanging_is (stepped station live one).live.rest.link stays.0 in
    let does = step_does one.outcomes station live link heard is in
    let first = does.follows after.0 after.1 in
    let rest = run_hears station more (stepped station live one).live after.0 after.1 after.2 stays.1 none.1 in
    let unaccepted : IsUnaccepted heard (Some link) = subst (λ (l : Option RelationState). IsUnaccepted heard l) is none.0 in
    record {
      next = rest.next;
      has = rest.has;
      phase = rest.phase;
      hears = rest.hears ∙ (ap (λ (pair : Bool × Hearing). waiting_for (units_in station more) pair) (first.hears phase unaccepted)
          ∙ waits_more (is_unit heard) (units_in station more) (hearing_of link.flow.cyclic));
    }

passes_hear : (units : ℕ) (flow : Flow) → hearing_of (runs.behind_all (passes units) flow).cyclic ≡ waiting_for units (hearing_of flow.cyclic)
passes_hear zero flow = refl
passes_hear (suc units) flow = passes_hear units (flow_later flow)

passes_quiet : (units : ℕ) (flow : Flow) → runs.AreNoRenewals (passes units) flow
passes_quiet zero flow = tt
passes_quiet (suc units) flow = (refl, passes_quiet units (flow_later flow))

-- what a unit says of the end
quiet_both : (sent more : List Sent) → ends_for_data sent ≡ false → ends_for_data more ≡ false → ends_for_data (sent ++ more) ≡ false
quiet_both [] more none others = others
quiet_both (message ∷ sent) more none others =
    let parts = both_none (is_end_of_data message) (ends_for_data sent) none in
    ap (λ (b : Bool). b || ends_for_data (sent ++ more)) parts.0 ∙ quiet_both sent more parts.1 others

quiet_due : (is : Bool) (sent : List Sent) → ends_for_data sent ≡ false → ends_for_data (where_due is sent) ≡ false
quiet_due true sent none = none
quiet_due false sent none = refl

quiet_frames : (route : Route) (frame : Option Frame) → ends_for_data (frames_in route frame) ≡ false
quiet_frames route None = refl
quiet_frames route (Some frame) = refl

quiet_alarms : (flow : Option Flow) → ends_for_data (alarms_of flow) ≡ false
quiet_alarms None = refl
quiet_alarms (Some flow) = quiet_frames flow.cyclic.route _

quiet_low_alarms : (flow : Option Flow) → ends_for_data (low_alarms_of flow) ≡ false
quiet_low_alarms None = refl
quiet_low_alarms (Some flow) = quiet_frames flow.cyclic.route _

quiet_ready : (address : List ℕ) (link : Option RelationState) → ends_for_data (ready_calls address link) ≡ false
quiet_ready address None = refl
quiet_ready address (Some link) = refl

quiet_plugs : (address : List ℕ) (link : Option RelationState) → ends_for_data (plug_calls address link) ≡ false
quiet_plugs address None = refl
quiet_plugs address (Some link) = by_standing link.plugs.calls.standing
  where
    by_standing : (standing : Option PlugCall) → ends_for_data (plug_call_in address (option_map (ready_for link) standing)) ≡ false
    by_standing None = refl
    by_standing (Some call) = refl

quiet_inputs : (counter : ℕ) (flow : Option Flow) → ends_for_data (inputs_of counter flow) ≡ false
quiet_inputs counter None = refl
quiet_inputs counter (Some flow) = refl

unending : (address : List ℕ) (counter : ℕ) (due : Due) (link : Option RelationState) → due.farewell ≡ None → ends_for_data (due_frames address counter due link) ≡ false
unending address counter due link none =
    quiet_both (farewells_in due.farewell) _ (ap (λ (f : Option Farewell). ends_for_data (farewells_in f)) none)
    (quiet_both (where_due due.is_alarm (alarms_of (flow_of link))) _ (quiet_due due.is_alarm (alarms_of (flow_of link)) (quiet_alarms (flow_of link)))
    (quiet_both (where_due due.is_low (low_alarms_of (flow_of link))) _ (quiet_due due.is_low (low_alarms_of (flow_of link)) (quiet_low_alarms (flow_of link)))
    (quiet_both (where_due due.is_ready (ready_calls address link)) _ (quiet_due due.is_ready (ready_calls address link) (quiet_ready address link))
    (quiet_both (where_due due.is_plug_ready (plug_calls address link)) _ (quiet_due due.is_plug_ready (plug_calls address link) (quiet_plugs address link))
    (quiet_due due.is_cyclic (inputs_of counter (flow_of link)) (quiet_inputs counter (flow_of link)))))))

-- a response to what is asked is no ERR
quiet_late : (options : DeviceOptions) (address : List ℕ) (found : Option Question) (calls : List Kept)
    → ends_for_data (late_sent options address found calls) ≡ false
quiet_late options address None calls = refl
quiet_late options address (Some question) calls = by_address (is_zero address)
  where
    kept : Bool
    kept = is_kept options (operation_of question.request)

    by_address : (zero : Bool) → ends_for_data (cond zero [] (question_replies kept question (refused_reply address Late question) calls)) ≡ false
    by_address true = refl
    by_address false =
        quiet_due (is_new (looked_if kept question.header.activity question.header.sequence calls)) (refused_reply address Late question ∷ []) refl

no_more_ends : (sent more : List Sent) → ends_for_data more ≡ false → ends_for_data (sent ++ more) ≡ ends_for_data sent
no_more_ends [] more none = none
no_more_ends (message ∷ sent) more none = ap (λ (b : Bool). is_end_of_data message || b) (no_more_ends sent more none)

-- the end that a unit brings, if data is exchanged
ending_so : (cyclic : CyclicEnd) (alarm : AlarmDue) (ending : Option Abort) → (tick_by cyclic alarm ending).ending ≡ ending
ending_so cyclic alarm None = refl
ending_so cyclic alarm (Some because) = refl

alarm_ending : (alarm : AlarmDue) → (ending_by alarm ≡ None) ⊎ (ending_by alarm ≡ Some Other)
alarm_ending is_due_of.Nothing = inl refl
alarm_ending is_due_of.Again = inl refl
alarm_ending is_due_of.Spent = inr refl

module _ (station : Station) (before : Live) (link : RelationState) where
  abbrev frames_at : Option Abort → List Sent
  frames_at ending = due_frames before.values.running.suite.address (counter_of (units_after 1 before.rest.units)) (due_by link ending) (updated (passing_by ending) (Some link))

  says_by : (silent : Bool) → ends_for_data (frames_at (if silent then Some DataHold else ending_by (alarm_due link.flow))) ≡ silent
  says_by true = refl
  says_by false = by_alarm (alarm_ending (alarm_due link.flow))
    where
      by_alarm : (ending_by (alarm_due link.flow) ≡ None) ⊎ (ending_by (alarm_due link.flow) ≡ Some Other) → ends_for_data (frames_at (ending_by (alarm_due link.flow))) ≡ false
      by_alarm (inl none) =
          ap (λ (o : Option Abort). ends_for_data (frames_at o)) none
          ∙ unending before.values.running.suite.address (counter_of (units_after 1 before.rest.units)) (due_by link None) (Some (unit_later link)) refl
      by_alarm (inr other) = ap (λ (o : Option Abort). ends_for_data (frames_at o)) other

  ends_by : (silent : Bool) → silent ≡ true → updated (passing_by (if silent then Some DataHold else ending_by (alarm_due link.flow))) (Some link) ≡ None
  ends_by true e = refl
  ends_by false e = absurd (no_bool e)
    where
      no_bool : false ≡ true → ⊥
      no_bool e = cc

  ending_now : link.phase ≡ Exchanging → ending_of link ≡ (if is_cyclic_silent link.flow.cyclic then Some DataHold else ending_by (alarm_due link.flow))
  ending_now exchanges = timed_by link.phase (is_over link) (tick_of link.flow).ending exchanges ∙ ending_so link.flow.cyclic (alarm_due link.flow) _

  tick_ends : (outcomes : List Outcome) → link.phase ≡ Exchanging
      → (ends_for_data (heard_step outcomes station (record before { rest = record before.rest { link = Some link } }) Ticks).sent ≡ is_cyclic_silent link.flow.cyclic)
      × (is_cyclic_silent link.flow.cyclic ≡ true → (heard_step outcomes station (record before { rest = record before.rest { link = Some link } }) Ticks).live.rest.link ≡ None)
  unfolding heard_step handled_step
  tick_ends outcomes exchanges = (
    let live : Live = record before { rest = record before.rest { link = Some link } } in
        no_more_ends (unit_sent live) (late_after station live) (quiet_late station.options before.values.running.suite.address _ before.rest.calls)
        ∙ (ap (λ (o : Option Abort). ends_for_data (frames_at o)) (ending_now exchanges) ∙ says_by (is_cyclic_silent link.flow.cyclic)),
    λ silent. ap (λ (o : Option Abort). updated (passing_by o) (Some link)) (ending_now exchanges) ∙ ends_by (is_cyclic_silent link.flow.cyclic) silent,
  )

-- a unit of any device that exchanges data
tick_ends_at : (station : Station) (outcomes : List Outcome) (live : Live) (link : RelationState) (heard : Heard) → live.rest.link ≡ Some link → link.phase ≡ Exchanging → heard ≡ Ticks
    → (ends_for_data (heard_step outcomes station live heard).sent ≡ is_cyclic_silent link.flow.cyclic)
    × (is_cyclic_silent link.flow.cyclic ≡ true → (heard_step outcomes station live heard).live.rest.link ≡ None)
tick_ends_at station outcomes live link heard is exchanges ticks =
    let same : live ≡ record live { rest = record live.rest { link = Some link } } = ap (λ (l : Option RelationState). record live { rest = record live.rest { link = l } }) is in
    subst (λ (h : Heard). (ends_for_data (heard_step outcomes station live h).sent ≡ is_cyclic_silent link.flow.cyclic)
    × (is_cyclic_silent link.flow.cyclic ≡ true → (heard_step outcomes station live h).live.rest.link ≡ None)) (sym ticks)
    (subst (λ (l : Live). (ends_for_data (heard_step outcomes station l Ticks).sent ≡ is_cyclic_silent link.flow.cyclic)
    × (is_cyclic_silent link.flow.cyclic ≡ true → (heard_step outcomes station l Ticks).live.rest.link ≡ None)) (sym same) (tick_ends station live link outcomes exchanges))

pub ends_without_data : runs.IsHeldSoLong → EndsWithoutData
ends_without_data law station live link happened last is exchanges begun fresh stays none ticks =
    let run = run_hears station happened live link is exchanges stays none in
    let units = units_in station happened in
    let tick = tick_ends_at station last.outcomes (after_all station happened live) run.next (heard_of station.identity last.event) run.has run.phase ticks in
    let silent : is_cyclic_silent run.next.flow.cyclic ≡ nat_le link.flow.cyclic.hearing.limit (units + 1) =
    ap (λ (pair : Bool × Hearing). is_silent_pair pair) run.hears
    ∙ (ap (λ (pair : Bool × Hearing). is_silent_pair pair) (sym (passes_hear units link.flow))
    ∙ (law (passes units) link.flow begun fresh (passes_quiet units link.flow)
    ∙ ap (λ (n : ℕ). nat_le link.flow.cyclic.hearing.limit (n + 1)) (passes_units units))) in
    (tick.0 ∙ silent, λ over. tick.1 (silent ∙ over))
