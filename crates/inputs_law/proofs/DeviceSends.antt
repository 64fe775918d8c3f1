-- The inputs that a device sends: those of its relation, with a unit; and those with which a relation begins.
use Rattle.std.proofs.Common.{◌≡◌, ◌⊎◌, inl, inr, ◌||◌, ◌++◌, ℕ, Bool, true, false, List, [], ◌∷◌, length, Option, Some, None, option_map, Result, Ok, Err, refl, sym, ap, subst, ◌∙◌}
use Rattle.std.specs.Prelude.{if◌then◌else◌}
use Rattle.std.proofs.lemmas.Bool.{cond_both}
use Rattle.std.specs.List.{AllByRecursion}
use Rattle.pn_values.specs.declared.real.RealModule.{RealModule}
use Rattle.pn_values.specs.declared.set_item.BlockError.{BlockError}
use Rattle.frame_codec.specs.declared.udp.Caller.{Caller}
use Rattle.rpc_core.specs.Cache.{Kept as Answer, looked, new}
use Rattle.rpc_core.specs.Call.{Asked as Call}
use Rattle.record_blocks.specs.declared.alarm_notification.AlarmNotification.{AlarmNotification}
use Rattle.records.specs.declared.status.call_fault.CallFault.{CallFault}
use Rattle.records.specs.declared.status.operation.Operation.{Operation}
use Rattle.records.specs.declared.status.operation.Operation.TheVariants as operation
use Rattle.records.specs.status.Operation.{operation_of}
use Rattle.pn_alarms.specs.declared.abort.Abort.{Abort}
use Rattle.pn_alarms.specs.declared.pdu.PduType.TheVariants as pdu
use Rattle.diagnosis.specs.declared.diagnosis.Diagnosis.{Diagnosis}
use Rattle.cyclic_data.specs.Image.{Shown as Image}
use Rattle.connects.specs.requests.Request.{Request}
use Rattle.relations.specs.exchange.Diagnosis.{low_header_of}
use Rattle.relations.specs.exchange.Flow.{Flow}
use Rattle.relations.specs.exchange.Frames.{Inputs, Notifies, Reports}
use Rattle.relations.specs.exchange.Notices.{header_of}
use Rattle.relations.specs.exchange.Opening.{opened}
use Rattle.relations.specs.Connect.{connect_within, making, rows_of}
use Rattle.relations.specs.Diagnosed.{diagnose_one}
use Rattle.relations.specs.Phases.{made_of, passing_by, updated}
use Rattle.relations.specs.RelationState.{RelationState, flow_of}
use Rattle.relations.specs.Timers.{due_by, ending_of, unit_later}
use Rattle.expected_places.specs.Machine.{opened as plugs_opened}
use Rattle.relations.specs.declared.plugging.PlugReady.{PlugReady}
use Rattle.relations.specs.Plugging.{is_alarmed_by, plug_ready_of}
use Rattle.device_frames.specs.Heard.{Heard, Ticks}
use Rattle.device_frames.specs.Relation.{alarms_of, due_frames, frames_in, inputs_of, low_alarms_of, plug_call_in, plug_calls, ready_calls, where_due}
use Rattle.device_frames.specs.Sent.{Sent, Exchanges}
use Rattle.device_frames.specs.declared.note.Note.TheVariants as note
use Rattle.settings_journal.specs.settings_store.Machine.{Outcome, carried}
use Rattle.device_core.specs.State.{Station, Live, counter_of, units_after}
use Rattle.device_core.specs.Handled.{counted_sent, handled, Handled, handled_blocks, handled_call, handled_looked, handled_new, handled_unanswered, is_running, Moves, partner_of, Refuses, starting_of, unit_rest, unit_sent}
use Rattle.device_core.specs.Asking.{is_kept, is_new, late_in, late_sent, looked_if, refused_reply}
use Rattle.pn_values.specs.IpSuite.{is_zero}
use Rattle.relations.specs.declared.options.DeviceOptions.{DeviceOptions}
use Rattle.asked_records.specs.Asked.{is_repeat}
use Rattle.asked_records.specs.Questions.{operation_of as operation_asked}
use Rattle.asked_records.specs.declared.status.Unanswered.TheVariants.{Late}
use Rattle.asked_records.specs.declared.question.Question.{Question}
use Rattle.device_core.specs.Machine.{Stepped, finished, handled_step, heard_step, items_in}
use Rattle.end_laws.specs.device.Exchange.{is_inputs, sends_inputs}
use Rattle.end_laws.specs.device.Turn.{AreCalm, Changes, Diagnoses, IsCalm, IsTurn, Makes, Stays, standing_of}
use Rattle.end_laws.proofs.DeviceExchange.{step_does}
use Rattle.inputs_law.proofs.GivenCells.{provided_in}

-- a frame of inputs has this image
abbrev pub IsOfImage : Image → Sent → Type 0
IsOfImage shown (Exchanges route (Inputs state inputs counter)) = inputs ≡ shown
IsOfImage shown message = Unit {0}

abbrev pub AreOfImage : Image → List Sent → Type 0
AreOfImage shown sent = AllByRecursion (IsOfImage shown) sent

-- the image that a device sends: of its relation, or this one if it has none
abbrev pub image_in : Image → Option RelationState → Image
image_in none None = none
image_in none (Some link) = link.flow.cyclic.shown

both : (shown : Image) (sent more : List Sent) → AreOfImage shown sent → AreOfImage shown more → AreOfImage shown (sent ++ more)
both shown [] more all others = others
both shown (message ∷ sent) more all others = (all.0, both shown sent more all.1 others)

if_due : (shown : Image) (b : Bool) (sent : List Sent) → AreOfImage shown sent → AreOfImage shown (where_due b sent)
if_due shown true sent all = all
if_due shown false sent all = tt

-- ---- what is sent without a unit

none_true : true ≡ false → ⊥
none_true e = cc

one_silent : (shown : Image) (message : Sent) → is_inputs message ≡ false → IsOfImage shown message
one_silent shown (Exchanges route (Inputs state inputs counter)) e = absurd (none_true e)
one_silent shown message e = tt

both_false : (b c : Bool) → (b || c) ≡ false → (b ≡ false) × (c ≡ false)
both_false true c e = absurd (none_true e)
both_false false c e = (refl, e)

all_silent : (shown : Image) (sent : List Sent) → sends_inputs sent ≡ false → AreOfImage shown sent
all_silent shown [] e = tt
all_silent shown (message ∷ sent) e =
    let parts = both_false (is_inputs message) (sends_inputs sent) e in
    (one_silent shown message parts.0, all_silent shown sent parts.1)

-- ---- what is sent with a unit

alarms_silent : (shown : Image) (flow : Flow) → AreOfImage shown (alarms_of (Some flow))
alarms_silent shown flow = by_standing flow.alarms.sender.standing
  where
    by_standing : (standing : Option AlarmNotification) → AreOfImage shown (frames_in flow.cyclic.route (option_map (Notifies (header_of flow pdu.Data)) standing))
    by_standing None = tt
    by_standing (Some alarm) = (tt, tt)

lows_silent : (shown : Image) (flow : Flow) → AreOfImage shown (low_alarms_of (Some flow))
lows_silent shown flow = by_standing flow.low.alarms.sender.standing
  where
    by_standing : (standing : Option AlarmNotification) → AreOfImage shown (frames_in flow.cyclic.route (option_map (Reports flow.low.tag (low_header_of flow pdu.Data)) standing))
    by_standing None = tt
    by_standing (Some alarm) = (tt, tt)

module _ (none : Image) (address : List ℕ) (counter : ℕ) (link : RelationState) where
  ready_silent : (shown : Image) (now : RelationState) → AreOfImage shown (ready_calls address (Some now))
  ready_silent shown now = (tt, tt)

  plug_silent : (shown : Image) (now : RelationState) → AreOfImage shown (plug_calls address (Some now))
  plug_silent shown now = by_ready (plug_ready_of (Some now))
    where
      by_ready : (ready : Option PlugReady) → AreOfImage shown (plug_call_in address ready)
      by_ready None = tt
      by_ready (Some one) = (tt, tt)

  inputs_same : (now : Flow) → AreOfImage now.cyclic.shown (inputs_of counter (Some now))
  inputs_same now = (refl, tt)

  unit_by : (ending : Option Abort) → AreOfImage (image_in none (updated (passing_by ending) (Some link))) (due_frames address counter (due_by link ending) (updated (passing_by ending) (Some link)))
  unit_by (Some reason) = (tt, tt)
  unit_by None =
      let shown = link.flow.cyclic.shown in
      let later = unit_later link in
      let due = due_by link None in
      let inputs = where_due due.is_cyclic (inputs_of counter (Some later.flow)) in
      let plugs = where_due due.is_plug_ready (plug_calls address (Some later)) in
      let readies = where_due due.is_ready (ready_calls address (Some later)) in
      let lows = where_due due.is_low (low_alarms_of (Some later.flow)) in
      both shown (where_due due.is_alarm (alarms_of (Some later.flow))) (lows ++ (readies ++ (plugs ++ inputs)))
      (if_due shown due.is_alarm (alarms_of (Some later.flow)) (alarms_silent shown later.flow))
      (both shown lows (readies ++ (plugs ++ inputs))
      (if_due shown due.is_low (low_alarms_of (Some later.flow)) (lows_silent shown later.flow))
      (both shown readies (plugs ++ inputs)
      (if_due shown due.is_ready (ready_calls address (Some later)) (ready_silent shown later))
      (both shown plugs inputs
      (if_due shown due.is_plug_ready (plug_calls address (Some later)) (plug_silent shown later))
      (if_due shown due.is_cyclic (inputs_of counter (Some later.flow)) (inputs_same later.flow)))))

-- ---- a device with a relation

-- a call that has no answer in time is refused: that is no frame of inputs
late_silent : (shown : Image) (options : DeviceOptions) (address : List ℕ) (found : Option Question) (calls : List Answer)
    → AreOfImage shown (late_sent options address found calls)
late_silent shown options address None calls = tt
late_silent shown options address (Some question) calls =
    let kept = is_kept options (operation_asked question.request) in
    cond_both (is_zero address) _ _ (AreOfImage shown) (λ _. tt)
    (λ _. if_due shown (is_new (looked_if kept question.header.activity question.header.sequence calls)) (refused_reply address Late question ∷ []) (tt, tt))

module _ (none : Image) (outcomes : List Outcome) (station : Station) where
  abbrev AreSent : Stepped → Type 0
  AreSent step = AreOfImage (image_in none step.live.rest.link) step.sent

  ticks_of_link : (live : Live) (link : RelationState) → AreSent (heard_step outcomes station (record live { rest = record live.rest { link = Some link } }) Ticks)
  unfolding heard_step handled_step
  ticks_of_link before link =
      let live : Live = record before { rest = record before.rest { link = Some link } } in
      let address = live.values.running.suite.address in
      let shown = image_in none (updated (passing_by (ending_of link)) (Some link)) in
      let later = unit_rest live in
      both shown (unit_sent live) (counted_sent station address (length (unit_sent live)) later)
      (unit_by none address (counter_of (units_after 1 live.rest.units)) link (ending_of link))
      (late_silent shown station.options address (late_in (length (unit_sent live)) later.asked) later.calls)

  ticks_sent : (live : Live) (link : RelationState) → live.rest.link ≡ Some link → AreSent (heard_step outcomes station live Ticks)
  ticks_sent live link is =
      let same : live ≡ record live { rest = record live.rest { link = Some link } } = ap (λ (l : Option RelationState). record live { rest = record live.rest { link = l } }) is in
      subst (λ (l : Live). AreSent (heard_step outcomes station l Ticks)) (sym same) (ticks_of_link live link)

  pub link_sent : (live : Live) (link : RelationState) (heard : Heard) → live.rest.link ≡ Some link → AreSent (heard_step outcomes station live heard)
  link_sent live link Ticks is = ticks_sent live link is
  link_sent live link heard is = all_silent (image_in none (heard_step outcomes station live heard).live.rest.link) (heard_step outcomes station live heard).sent ((step_does outcomes station live link heard is).silent refl)

-- ---- a device without a relation

none_some : {A : Type 0} {P : Type 0} (y : A) → None ≡ Some y → P
none_some y e = absurd (no_some e)
  where
    no_some : None ≡ Some y → ⊥
    no_some e = cc

some_none : {A : Type 0} {P : Type 0} (y : A) → Some y ≡ None → P
some_none y e = absurd (no_some e)
  where
    no_some : Some y ≡ None → ⊥
    no_some e = cc

calm_silent : (shown : Image) (message : Sent) → IsCalm None message → IsOfImage shown message
calm_silent shown (Exchanges route (Inputs state inputs counter)) calm = none_some calm.0 calm.1
calm_silent shown message calm = tt

all_calm : (shown : Image) (sent : List Sent) → AreCalm None sent → AreOfImage shown sent
all_calm shown [] calm = tt
all_calm shown (message ∷ sent) calm = (calm_silent shown message calm.0, all_calm shown sent calm.1)

-- a relation is made, or none exists afterwards; and no inputs are sent
record Alone (calls : List Answer) (heard : Heard) (after : Option RelationState) (sent : List Sent) : Type 0 where
  silent : (shown : Image) → AreOfImage shown sent
  makes : (next : RelationState) → after ≡ Some next → Makes calls None heard after sent

module _ (real now : List RealModule) (calls : List Answer) (diagnoses later : List Diagnosis) (heard : Heard) (after : Option RelationState) (sent : List Sent) where
  stays_alone : Stays None after sent → Alone calls heard after sent
  stays_alone stays = record { silent = λ shown. all_calm shown sent stays.calm; makes = λ next is. by_same stays.link next is }
    where
      by_same : (option_map standing_of after ≡ None) ⊎ (after ≡ None) → (next : RelationState) → after ≡ Some next → Makes calls None heard after sent
      by_same (inl same) next is = some_none (standing_of next) (sym (ap (λ (l : Option RelationState). option_map standing_of l) is) ∙ same)
      by_same (inr none) next is = none_some next (sym none ∙ is)

  diagnoses_alone : Diagnoses real diagnoses later None heard after sent → Alone calls heard after sent
  diagnoses_alone changes = record {
    silent = λ shown. subst (λ (messages : List Sent). AreOfImage shown messages) (sym changes.sends)
        (subst (λ (l : Option RelationState). AreOfImage shown (where_due (diagnose_one real changes.change later None) (low_alarms_of (flow_of l)))) (sym changes.becomes) (if_due shown (diagnose_one real changes.change later None) [] tt));
    makes = λ next is. none_some next (sym changes.becomes ∙ is);
  }

  changes_alone : Changes real now diagnoses later None heard after sent → Alone calls heard after sent
  changes_alone changes = record {
    silent = λ shown. subst (λ (messages : List Sent). AreOfImage shown messages) (sym changes.sends)
        (both shown (where_due (is_alarmed_by now changes.made later None) (low_alarms_of (flow_of after))) changes.others
        (subst (λ (l : Option RelationState). AreOfImage shown (where_due (is_alarmed_by now changes.made later None) (low_alarms_of (flow_of l)))) (sym changes.becomes)
        (if_due shown (is_alarmed_by now changes.made later None) [] tt)) (all_calm shown changes.others changes.calm));
    makes = λ next is. none_some next (sym changes.becomes ∙ is);
  }

  alone : IsTurn real now calls diagnoses later None heard after sent → Alone calls heard after sent
  alone (inl stays) = stays_alone stays
  alone (inr (inl makes)) = record { silent = λ shown. all_calm shown sent makes.calm; makes = λ next is. makes }
  alone (inr (inr (inl raises))) = none_some raises.link raises.was
  alone (inr (inr (inr (inl acked)))) = none_some acked.link acked.was
  alone (inr (inr (inr (inr (inl came))))) = none_some came.link came.was
  alone (inr (inr (inr (inr (inr (inl passes)))))) = none_some passes.link passes.was
  alone (inr (inr (inr (inr (inr (inr (inl takes))))))) = none_some takes.link takes.was
  alone (inr (inr (inr (inr (inr (inr (inr (inl acked)))))))) = none_some acked.link acked.was
  alone (inr (inr (inr (inr (inr (inr (inr (inr (inl came))))))))) = none_some came.link came.was
  alone (inr (inr (inr (inr (inr (inr (inr (inr (inr (inl begins)))))))))) = none_some begins.link begins.was
  alone (inr (inr (inr (inr (inr (inr (inr (inr (inr (inr (inl changes))))))))))) = diagnoses_alone changes
  alone (inr (inr (inr (inr (inr (inr (inr (inr (inr (inr (inr changes))))))))))) = changes_alone changes

pub turn_alone : (real now : List RealModule) (calls : List Answer) (diagnoses later : List Diagnosis) (heard : Heard) (before after : Option RelationState) (sent : List Sent) → before ≡ None
    → IsTurn real now calls diagnoses later before heard after sent → ((shown : Image) → AreOfImage shown sent) × ((next : RelationState) → after ≡ Some next → Makes calls before heard after sent)
turn_alone real now calls diagnoses later heard before after sent is turn =
    let so = alone real now calls diagnoses later heard after sent (subst (λ (l : Option RelationState). IsTurn real now calls diagnoses later l heard after sent) is turn) in
    (so.silent, λ next e. subst (λ (l : Option RelationState). Makes calls l heard after sent) (sym is) (so.makes next e))

-- ---- a Connect

-- What is sent first, how inputs begin, and which places there are.
pub record IsOpened (station : Station) (live : Live) (next : RelationState) : Type 0 where
  pub sends : provided_in next.flow ≡ provided_in (opened next.request (rows_of next.request live.rest.real) (starting_of station live))
  pub options : next.options ≡ station.options
  pub plugs : next.plugs ≡ plugs_opened next.request.expected (rows_of next.request live.rest.real)

module _ (station : Station) (live : Live) (unrelated : live.rest.link ≡ None) (next : RelationState) where
  opens_as : (caller : Caller) (read : Result Request CallFault) → updated (making live.rest.real (partner_of caller) station.options (starting_of station live) read) live.rest.link ≡ Some next → IsOpened station live next
  opens_as caller (Ok request) e =
      let made = made_of request (partner_of caller) (rows_of request live.rest.real) station.options (starting_of station live) in
      subst (λ (l : RelationState). IsOpened station live l) (same made next e) (record { sends = refl; options = refl; plugs = refl })
    where
      same : (x y : RelationState) → Some x ≡ Some y → x ≡ y
      same x y f = cc
  opens_as caller (Err why) e = none_some next (sym unrelated ∙ e)

  module _ (caller : Caller) (call : Call) (blocks : List ℕ) (connects : operation_of call.header.operation ≡ Some operation.Connect) (counted : call.blocks ≡ Some blocks)
      (fresh : looked call.header.activity call.header.sequence live.rest.calls ≡ new) (answers : List BlockError) where
    abbrev linked : Handled → Option RelationState
    linked what = (finished station.identity live.rest what answers).rest.link

    call_is : handled_call station live caller call (operation_of call.header.operation) ≡ handled_unanswered station live caller call blocks operation.Connect
    call_is =
        ap (λ (o : Option Operation). handled_call station live caller call o) connects
        ∙ (ap (λ (b : Option (List ℕ)). handled_blocks station live caller call operation.Connect b) counted
        ∙ ap (λ (f : _). handled_looked station live caller call blocks operation.Connect f) fresh)

    -- a repeat of what is asked makes no relation
    opens_fresh : (b : Bool) → linked (if b then Moves live.rest [] else handled_new station live caller call blocks operation.Connect) ≡ Some next
        → IsOpened station live next
    opens_fresh true e = none_some next (sym unrelated ∙ e)
    opens_fresh false e = opens_as caller (connect_within station.options caller.mac live.rest.link blocks) e

    opens_by : (b : Bool) → linked (if b then handled_call station live caller call (operation_of call.header.operation) else Refuses note.NotMine) ≡ Some next → IsOpened station live next
    opens_by true e =
        opens_fresh (is_repeat call.header.activity call.header.sequence live.rest.asked) (ap linked (sym call_is) ∙ e)
    opens_by false e = none_some next (sym unrelated ∙ e)

  opens_at : (outcomes : List Outcome) (heard : Heard) (after : Option RelationState) (sent : List Sent) → (heard_step outcomes station live heard).live.rest.link ≡ Some next
      → Makes live.rest.calls live.rest.link heard after sent → IsOpened station live next
  unfolding heard_step handled_step
  opens_at outcomes heard after sent e makes =
      opens_by makes.caller makes.call makes.blocks makes.connects makes.counted makes.fresh
      (carried outcomes live.values (items_in (handled station live heard))).answers (is_running live.values.running makes.address)
      (ap (λ (h : Heard). (finished station.identity live.rest (handled station live h) (carried outcomes live.values (items_in (handled station live heard))).answers).rest.link) (sym makes.is) ∙ e)

pub step_opens : (outcomes : List Outcome) (station : Station) (live : Live) (heard : Heard) (next : RelationState) (after : Option RelationState) (sent : List Sent) → live.rest.link ≡ None
    → (heard_step outcomes station live heard).live.rest.link ≡ Some next → Makes live.rest.calls live.rest.link heard after sent → IsOpened station live next
step_opens outcomes station live heard next after sent unrelated e makes = opens_at station live unrelated next outcomes heard after sent e makes
