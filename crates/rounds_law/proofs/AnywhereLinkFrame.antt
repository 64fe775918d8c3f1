-- What a message of a controller that exchanges data does to a relation of a device, and what the device sends then.
use Rattle.std.proofs.Common.{◌≡◌, ◌⊎◌, inl, inr, ◌-◌, ◌≤◌, ◌==◌, ◌&&◌, ℕ, Bool, true, false, nat_eq, List, [], Option, Some, None, refl, sym, ap, subst, ◌∙◌}
use Rattle.std.specs.Prelude.{if◌then◌else◌}
use Rattle.std.specs.Cmp.Lexicographic.{pointwise, same_text}
use Rattle.std.specs.List.{AllByRecursion}
use Rattle.std.proofs.lemmas.Bool.{eqb-true, false≢true}
use Rattle.flash_model.specs.declared.flash.Flash.{Ghosts as Flash}
use Rattle.pn_values.specs.declared.identity.Identity.{Identity}
use Rattle.pn_values.specs.declared.mac.Mac.{Mac}
use Rattle.frame_codec.specs.declared.udp.Caller.{Caller}
use Rattle.rpc_core.specs.Response.{Answered, is_done}
use Rattle.settings_journal.specs.settings_store.Machine.{Outcome}
use Rattle.block_codec.specs.Block.{block_of}
use Rattle.pn_alarms.specs.Device.{heard_as}
use Rattle.pn_alarms.specs.Message.{ToDevice}
use Rattle.pn_alarms.specs.declared.abort.Abort.TheVariants.{Other}
use Rattle.pn_alarms.specs.declared.device.PduFate.{PduFate}
use Rattle.pn_alarms.specs.declared.device.PduFate.TheVariants as fate
use Rattle.pn_alarms.specs.declared.pdu.Header.{Header}
use Rattle.cyclic_data.specs.Tail.{cyclic_of}
use Rattle.cyclic_data.specs.declared.exchange.received.Received.{Received}
use Rattle.cyclic_data.specs.declared.exchange.received.Received.TheVariants.{Foreign, Short, Stale, Taken}
use Rattle.cyclic_data.specs.declared.exchange.route.Route.{Route}
use Rattle.cyclic_data.specs.exchange.Received.{is_of_partner, received_in}
use Rattle.diagnosis.specs.Queue.{is_next}
use Rattle.expected_places.specs.Machine.{PlugState, next_called}
use Rattle.relations.specs.Diagnosed.{begin_one, has_sent_low, report_one}
use Rattle.relations.specs.Exchanged.{hearing_as, receiving_as}
use Rattle.relations.specs.Phases.{exchanging_from, updated, with_flow, with_reported}
use Rattle.relations.specs.Plugging.{calling_next, first_sent, flow_answered, is_calling, plug_answer_in, plug_answering, plug_ready_of}
use Rattle.relations.specs.Plugging.{plugs_after, plugs_answered, taken_after}
use Rattle.relations.specs.Ready.{answer_of, confirmed_block, confirmed_by, is_answer_to}
use Rattle.relations.specs.Farewells.{farewell_of}
use Rattle.relations.specs.RelationState.{RelationState, is_alarm_of, is_awaiting, is_in_exchange}
use Rattle.relations.specs.Timers.{is_timed, limit_of}
use Rattle.relations.specs.declared.hearing.ReadyAnswer.{ReadyAnswer}
use Rattle.relations.specs.declared.hearing.ReadyAnswer.TheVariants as to_ready
use Rattle.relations.specs.declared.plugging.PlugAnswer.{PlugAnswer}
use Rattle.relations.specs.declared.plugging.PlugAnswer.TheVariants as to_plug
use Rattle.relations.specs.exchange.Diagnosis.{begins_with_one, behind_low, diagnoses_begun, next_reported}
use Rattle.relations.specs.exchange.Flow.{Flow}
use Rattle.relations.specs.exchange.Modules.{restated_flow}
use Rattle.relations.specs.exchange.Notices.{behind_message}
use Rattle.relations.specs.exchange.Received.{behind_frame, received_as}
use Rattle.device_frames.specs.Heard.{Said, Calls, Garbled, Responds, heard_of}
use Rattle.device_frames.specs.Heard.{Heard, Elsewhere, Reported, Cyclic, Alarms, LowReplies, LowConfirms}
use Rattle.device_frames.specs.Relation.{low_alarms_of, plug_calls}
use Rattle.device_frames.specs.declared.note.Note.{Note}
use Rattle.device_frames.specs.declared.note.Note.TheVariants as note
use Rattle.device_core.specs.State.{Live, State, Station}
use Rattle.device_core.specs.Handled.{Refuses, handled_alarm, handled_answer, handled_low, handled_low_message, handled_low_pdu, handled_message, handled_pdu}
use Rattle.device_core.specs.Handled.{handled_next_call, handled_plug_answer, handled_received, handled_said, is_running}
use Rattle.device_core.specs.Machine.{handled_step, heard_step}
use Rattle.controller_messages.specs.declared.setup.Setup.{Setup}
use Rattle.end_laws.specs.hearing.Hearing.{comes}
use Rattle.controller_core.specs.stored.State.{Controlling}
use Rattle.rounds_law.specs.Again.{units_left}
use Rattle.rounds_law.specs.Anywhere.{AllLast, IsAnyDevice, IsUntold}
use Rattle.rounds_law.proofs.AgainVain.{Keeps, in_vain}
use Rattle.rounds_law.proofs.AnywhereDeviceLaw.{DeviceLaws}
use Rattle.rounds_law.proofs.AnywhereLinkHears.{IsNoCall, IsNoPlug, IsOfData, own_is_of_data}
use Rattle.rounds_law.proofs.AnywhereLinkLaws.{ExchangeLaws, ReadLaws}
use Rattle.rounds_law.proofs.AnywhereLinkPlugs.{IsPlugOwn, data_or_plug, plug_none, plug_refused, plug_some}
use Rattle.rounds_law.proofs.AnywhereLinkMoved.{IsNow, Went, as_before, calls_of_link, due_of_link, no_more, report_of_link, timed_in, timed_units}
use Rattle.rounds_law.proofs.AnywhereParts.{Accepts, AcceptsOutputs, Hears, IsLong, IsMoved, IsOwn, LinkFrame, room_of}
use Rattle.rounds_law.proofs.DevicePassingLeft.{frame_left}
use Rattle.rounds_law.proofs.DevicePassingTaken.{with_link}

-- ---- the answer to ApplicationReady

confirming : (awaiting answers : Bool) (answer : ReadyAnswer) → (if awaiting && answers then answer else to_ready.NotWanted) ≡ to_ready.Confirmed
    → awaiting ≡ true
confirming true answers answer e = refl
confirming false answers answer e = absurd cc

confirmed_timed : (response : Answered) (link : RelationState) → answer_of response (Some link) ≡ to_ready.Confirmed → is_timed link.phase ≡ true
unfolding answer_of
confirmed_timed response link e =
    timed_in link.phase (confirming (is_awaiting link.phase) (is_answer_to link.request.ar.uuid response.header)
    (if is_done response.status then confirmed_by link.request.ar.uuid (confirmed_block (block_of response.blocks))
    else to_ready.Refused (farewell_of Other link)) e)

-- The relation after an exchange with which an alarm of low priority was first sent, or not.
abbrev reported_as : Bool → Flow → RelationState → RelationState
reported_as is_sent flow link =
    let sent = first_sent is_sent flow.low in
    with_reported flow (taken_after sent link.plugs.places link.taken) (plugs_after sent flow.low.waiting link.plugs) link

module _ (setup : Setup) (route : Route) (outcomes : List Outcome) (station : Station) (live : Live) (link : RelationState)
    (untold : setup.plan.parameters_after_plug ≡ true → IsUntold link) where
  -- The device with this relation.
  abbrev now : Live
  now = with_link live link

  refused_went : (why : Note) → Went setup route link (handled_step outcomes station now (Refuses why))
  unfolding handled_step
  refused_went why = (as_before setup route link link refl refl refl (no_more (units_left link)) (λ keyed timed. no_more (room_of link)), tt)

  answer_went : (answer : ReadyAnswer) → (answer ≡ to_ready.Confirmed → is_timed link.phase ≡ true)
      → Went setup route link (handled_step outcomes station now (handled_answer station now answer))
  unfolding handled_step
  answer_went to_ready.NotWanted timed = refused_went note.NoRelation
  answer_went to_ready.Garbled timed = refused_went note.Fault
  answer_went to_ready.Confirmed timed =
      let begun = exchanging_from link in
      let real = live.rest.real.modules.items in
      let flow = diagnoses_begun real live.rest.diagnoses begun.flow in (
        inr (
          reported_as (begins_with_one real live.rest.diagnoses begun.flow) flow begun,
          refl,
          record { route = refl; limit = refl; room = λ keyed later. absurd (false≢true later) },
          inr (inr (inl (timed refl, refl))),
        ),
        due_of_link link.flow.cyclic.route (begin_one real live.rest.diagnoses (Some begun)) (low_alarms_of (Some flow))
            (report_of_link link.flow.cyclic.route flow flow.low.alarms.sender.standing),
      )
  answer_went (to_ready.Refused farewell) timed = (inl refl, (tt, tt))

  -- ---- the answer to ApplicationReady of a plug

  answered_now : (heard : PlugAnswer) (plugs : PlugState)
      → IsNow setup route link (Some (record link { flow = flow_answered heard plugs link.flow; plugs = next_called plugs }))
  answered_now to_plug.NotWanted plugs = as_before setup route link (record link { plugs = next_called plugs }) refl refl refl (no_more (units_left link)) (λ keyed timed. no_more (room_of link))
  answered_now to_plug.Garbled plugs = as_before setup route link (record link { plugs = next_called plugs }) refl refl refl (no_more (units_left link)) (λ keyed timed. no_more (room_of link))
  answered_now to_plug.Confirmed plugs =
      as_before setup route link (record link { flow = restated_flow plugs link.flow; plugs = next_called plugs }) refl refl refl (no_more (units_left link)) (λ keyed timed. no_more (room_of link))
  answered_now to_plug.Refused plugs =
      as_before setup route link (record link { flow = restated_flow plugs link.flow; plugs = next_called plugs }) refl refl refl (no_more (units_left link)) (λ keyed timed. no_more (room_of link))

  next_went : (response : Answered)
      → Went setup route link (handled_step outcomes station now (handled_next_call now (plug_answering response (Some link))))
  unfolding handled_step
  next_went response =
      let heard = plug_answer_in response (Some link) in
      let answered = plug_answering response (Some link) in
      let address = live.values.running.suite.address in (
        answered_now heard (plugs_answered heard link.plugs),
        due_of_link link.flow.cyclic.route (is_calling answered) (plug_calls address (calling_next answered))
            (calls_of_link link.flow.cyclic.route address (plug_ready_of (calling_next answered))),
      )

  plug_answer_went : (response : Answered) (heard : PlugAnswer)
      → Went setup route link (handled_step outcomes station now (handled_plug_answer now response heard))
  plug_answer_went response to_plug.NotWanted = refused_went note.NoRelation
  plug_answer_went response to_plug.Garbled = refused_went note.Fault
  plug_answer_went response to_plug.Confirmed = next_went response
  plug_answer_went response to_plug.Refused = next_went response

  response_went : (response : Answered) (exchanges : Bool)
      → Went setup route link (handled_step outcomes station now
      (if exchanges then handled_plug_answer now response (plug_answer_in response (Some link))
      else handled_answer station now (answer_of response (Some link))))
  response_went response true = plug_answer_went response (plug_answer_in response (Some link))
  response_went response false = answer_went (answer_of response (Some link)) (λ e. confirmed_timed response link e)

  said_went : (caller : Caller) (said : Said) → IsNoCall said → Went setup route link (handled_step outcomes station now (handled_said station now caller said))
  said_went caller (Calls call) is = absurd is
  said_went caller (Responds response) is = response_went response (is_in_exchange (Some link))
  said_went caller Garbled is = refused_went note.Fault

  datagram_went : (caller : Caller) (said : Said) → IsNoCall said → (runs : Bool)
      → Went setup route link (handled_step outcomes station now (if runs then handled_said station now caller said else Refuses note.NotMine))
  datagram_went caller said is true = said_went caller said is
  datagram_went caller said is false = refused_went note.NotMine

  -- ---- a cyclic frame

  with_units : (flow : Flow) → is_timed link.phase ≡ true → units_left (with_flow flow link) ≤ units_left link
  with_units flow timed =
      timed_units (is_timed link.phase) (limit_of link) link.inactive (flow.cyclic.hearing.limit - flow.cyclic.hearing.held)
      (link.flow.cyclic.hearing.limit - link.flow.cyclic.hearing.held) timed

  taken_moved : (flow : Flow) → AcceptsOutputs setup route link → (timed : Bool) → is_timed link.phase ≡ timed → IsMoved setup route link (with_flow flow link)
  taken_moved flow accepts true is = inl (refl, with_units flow is)
  taken_moved flow accepts false is = inr (inl (is, refl, accepts))

  received_went : (flow : Flow) → flow.cyclic.route ≡ link.flow.cyclic.route → (received : Received) → (received ≡ Taken → AcceptsOutputs setup route link)
      → Went setup route link (handled_step outcomes station now (handled_received now received (updated (receiving_as received flow) (Some link))))
  unfolding handled_step
  received_went flow way Foreign accepts = refused_went note.NoRelation
  received_went flow way Short accepts = refused_went note.Fault
  received_went flow way Stale accepts = refused_went note.StaleCycle
  received_went flow way Taken accepts =
      (inr (with_flow flow link, refl, record { route = way; limit = refl; room = λ keyed timed. no_more (room_of link) }, taken_moved flow (accepts refl) (is_timed link.phase) refl), tt)

  -- A frame that is accepted is one of the partner, under the FrameID of the relation.
  taken_of_partner : (partner : Bool) (received : Received) → (if partner then received else Foreign) ≡ Taken → partner ≡ true
  taken_of_partner true received e = refl
  taken_of_partner false received e = absurd cc

  and_true : (one other : Bool) → (one && other) ≡ true → (one ≡ true) × (other ≡ true)
  and_true true true e = (refl, refl)
  and_true true false e = absurd cc
  and_true false other e = absurd cc

  accepts_by : (source : Mac) (frame_id : ℕ) (body : List ℕ) → source ≡ setup.plan.controller.mac → frame_id ≡ route.sent_id
      → received_as link.flow source frame_id body ≡ Taken → AcceptsOutputs setup route link
  accepts_by source frame_id body from under taken =
      let way = link.flow.cyclic.route in
      let parts = and_true (pointwise nat_eq source.octets way.partner.octets) (frame_id == way.taken_id)
      (taken_of_partner (is_of_partner way source frame_id) (received_in link.flow.cyclic (cyclic_of link.flow.cyclic.taken.data_length body)) taken) in
      let same : way.partner ≡ source = ap (λ (octets : List ℕ). record { octets = octets }) (sym (same_text source.octets way.partner.octets (sym parts.0))) in
      record { outputs = sym under ∙ eqb-true frame_id way.taken_id parts.1; sender = same ∙ from }

  -- ---- alarms

  pdu_went : (message : ToDevice) (what : PduFate)
      → Went setup route link (handled_step outcomes station now (handled_pdu now what
      (updated (hearing_as what (behind_message link.flow message)) (Some link))))
  unfolding handled_step
  pdu_went message (fate.Data taken) =
      (as_before setup route link (with_flow (behind_message link.flow message) link) refl refl refl (no_more (units_left link)) (λ keyed timed. no_more (room_of link)), (tt, tt))
  pdu_went message fate.Done =
      (as_before setup route link (with_flow (behind_message link.flow message) link) refl refl refl (no_more (units_left link)) (λ keyed timed. no_more (room_of link)), tt)
  pdu_went message fate.Ignored = refused_went note.Filter
  pdu_went message (fate.Aborted status) = (inl refl, tt)

  alarm_went : (message : ToDevice) (belongs : Bool)
      → Went setup route link (handled_step outcomes station now (if belongs then handled_message now message else Refuses note.NoRelation))
  alarm_went message true = pdu_went message (heard_as link.flow.alarms message)
  alarm_went message false = refused_went note.NoRelation

  -- An alarm of low priority was sent: so data is exchanged, if the plan writes parameters after a plug.
  abbrev HasSent : Type 0
  HasSent = has_sent_low (Some link) ≡ true

  untimed : HasSent → setup.plan.parameters_after_plug ≡ true → is_timed link.phase ≡ true → ⊥
  untimed sent keyed timed = false≢true (sym (untold keyed timed).0 ∙ sent)

  low_pdu_went : HasSent → (message : ToDevice) (what : PduFate)
      → Went setup route link (handled_step outcomes station now (handled_low_pdu station now what (Some (with_flow (behind_low link.flow message) link))))
  unfolding handled_step
  low_pdu_went has_sent message (fate.Data taken) =
      let later = with_flow (behind_low link.flow message) link in
      let flow = next_reported later.flow in (
        as_before setup route link (reported_as (is_next later.flow.low) flow later) refl refl refl (no_more (units_left link))
            (λ keyed timed. absurd (untimed has_sent keyed timed)),
        (
          tt,
          due_of_link link.flow.cyclic.route (report_one (Some later)) (low_alarms_of (Some flow))
              (report_of_link link.flow.cyclic.route flow flow.low.alarms.sender.standing),
        ),
      )
  low_pdu_went has_sent message fate.Done =
      (as_before setup route link (with_flow (behind_low link.flow message) link) refl refl refl (no_more (units_left link)) (λ keyed timed. no_more (room_of link)), tt)
  low_pdu_went has_sent message fate.Ignored = refused_went note.Filter
  low_pdu_went has_sent message (fate.Aborted status) = refused_went note.Filter

  low_went : HasSent → (source : Mac) (header : Header) (message : ToDevice)
      → Went setup route link (handled_step outcomes station now (handled_low station now source header message))
  low_went has_sent source header message = by_belongs (is_alarm_of source header.destination header.source (Some link))
    where
      by_belongs : (belongs : Bool)
          → Went setup route link (handled_step outcomes station now (if belongs then handled_low_message station now message else Refuses note.NoRelation))
      by_belongs true = low_pdu_went has_sent message (heard_as link.flow.low.alarms message)
      by_belongs false = refused_went note.NoRelation

  low_reply_went : (source : Mac) (header : Header) (message : ToDevice) (low : Bool) → has_sent_low (Some link) ≡ low
      → Went setup route link (handled_step outcomes station now
      (if low then handled_low station now source header message else handled_alarm now source header message))
  low_reply_went source header message true sent = low_went sent source header message
  low_reply_went source header message false sent = alarm_went message (is_alarm_of source header.destination header.source (Some link))

  low_confirm_went : (source : Mac) (header : Header) (message : ToDevice) (low : Bool) → has_sent_low (Some link) ≡ low
      → Went setup route link (handled_step outcomes station now (if low then handled_low station now source header message else Refuses note.Fault))
  low_confirm_went source header message true sent = low_went sent source header message
  low_confirm_went source header message false sent = refused_went note.Fault

  -- ---- all that belongs to an exchange

  now_went : (heard : Heard) → IsOfData setup route heard → Went setup route link (heard_step outcomes station now heard)
  unfolding heard_step
  now_went Elsewhere is = refused_went note.NotMine
  now_went (Reported caller address said) is = datagram_went caller said is (is_running live.values.running address)
  now_went (Cyclic source frame_id body) is =
      received_went (behind_frame link.flow source frame_id body) (frame_left link.flow.cyclic source frame_id body).route
      (received_as link.flow source frame_id body) (accepts_by source frame_id body is.0 is.1)
  now_went (Alarms source header message) is = alarm_went message (is_alarm_of source header.destination header.source (Some link))
  now_went (LowReplies source header message) is = low_reply_went source header message (has_sent_low (Some link)) refl
  now_went (LowConfirms source header message) is = low_confirm_went source header message (has_sent_low (Some link)) refl
  now_went heard is = absurd is

  pub data_went : (heard : Heard) → IsOfData setup route heard → live.rest.link ≡ Some link → Went setup route link (heard_step outcomes station live heard)
  data_went heard is has =
      let same : with_link live link ≡ live = ap (λ (l : Option RelationState). record live { rest = record live.rest { link = l } }) (sym has) in
      subst (λ (l : Live). Went setup route link (heard_step outcomes station l heard)) same (now_went heard is)

-- ---- without a relation

said_in_vain : (outcomes : List Outcome) (station : Station) (live : Live) (caller : Caller) (said : Said) → IsNoCall said → live.rest.link ≡ None
    → Keeps live (handled_step outcomes station live (handled_said station live caller said))
unfolding handled_step answer_of
said_in_vain outcomes station live caller (Calls call) is none = absurd is
said_in_vain outcomes station live caller (Responds response) is none =
    subst (λ (l : Option RelationState). Keeps live (handled_step outcomes station live
    (if is_in_exchange l then handled_plug_answer live response (plug_answer_in response l) else handled_answer station live (answer_of response l)))) (sym none)
    (refl, refl)
said_in_vain outcomes station live caller Garbled is none = (refl, refl)

datagram_in_vain : (outcomes : List Outcome) (station : Station) (live : Live) (caller : Caller) (said : Said) → IsNoCall said → live.rest.link ≡ None
    → (runs : Bool)
    → Keeps live (handled_step outcomes station live (if runs then handled_said station live caller said else Refuses note.NotMine))
unfolding handled_step
datagram_in_vain outcomes station live caller said is none true = said_in_vain outcomes station live caller said is none
datagram_in_vain outcomes station live caller said is none false = (refl, refl)

data_in_vain : (setup : Setup) (route : Route) (outcomes : List Outcome) (station : Station) (live : Live) (heard : Heard) → IsOfData setup route heard
    → live.rest.link ≡ None → Keeps live (heard_step outcomes station live heard)
unfolding heard_step
data_in_vain setup route outcomes station live Elsewhere is none = in_vain outcomes station live Elsewhere none tt
data_in_vain setup route outcomes station live (Reported caller address said) is none =
    datagram_in_vain outcomes station live caller said is none (is_running live.values.running address)
data_in_vain setup route outcomes station live (Cyclic source frame_id body) is none = in_vain outcomes station live (Cyclic source frame_id body) none tt
data_in_vain setup route outcomes station live (Alarms source header message) is none = in_vain outcomes station live (Alarms source header message) none tt
data_in_vain setup route outcomes station live (LowReplies source header message) is none =
    in_vain outcomes station live (LowReplies source header message) none tt
data_in_vain setup route outcomes station live (LowConfirms source header message) is none =
    in_vain outcomes station live (LowConfirms source header message) none tt
data_in_vain setup route outcomes station live heard is none = absurd is

-- ---- the part

module _ {F : Type 0} {S : ℕ} (as_flash : Flash F S) (setup next : Setup) (identity : Identity) (silence : ℕ) where
  module _ (laws : ExchangeLaws setup) (long : IsLong as_flash setup next identity silence) (route : Route) (before after : State F) (octets : List ℕ)
      (frames : List (List ℕ)) (goes : Hears as_flash before octets frames after)
      (device : IsAnyDevice setup next identity silence before.station before.live) (own : IsOwn setup (IsNoPlug route) octets) where
    is_data : IsOfData setup route (heard_of before.station.identity (comes octets))
    is_data = own_is_of_data setup laws long.real before.station.identity route octets own

    -- Without a relation nothing is sent.
    data_none : before.live.rest.link ≡ None → (after.live.rest.link ≡ None) × (frames ≡ [])
    data_none none =
        let kept = data_in_vain setup route goes.steps.outcomes before.station before.live (heard_of before.station.identity (comes octets)) is_data none in
        (ap (λ (l : Live). l.rest.link) (goes.steps.live ∙ kept.1) ∙ none, goes.steps.frames ∙ kept.0)

    data_some : (link : RelationState) → before.live.rest.link ≡ Some link → IsNow setup route link after.live.rest.link
    data_some link has =
        subst (IsNow setup route link) (sym (ap (λ (l : Live). l.rest.link) goes.steps.live))
        (data_went setup route goes.steps.outcomes before.station before.live link (subst (AllLast setup silence) has device.lasts).untold
        (heard_of before.station.identity (comes octets)) is_data has).0

  pub link_frame : DeviceLaws setup identity → ReadLaws → ExchangeLaws setup → LinkFrame as_flash setup next identity silence
  link_frame parts reads laws long route before after octets frames goes device own = by_kind (data_or_plug setup route octets own)
    where
      nothing_accepted : frames ≡ [] → (controller : Controlling) → controller.setup ≡ setup
          → AllByRecursion (λ frame. Accepts controller frame → ⊥) frames
      nothing_accepted none controller same = subst (AllByRecursion (λ frame. Accepts controller frame → ⊥)) (sym none) tt

      by_kind : IsOwn setup (IsNoPlug route) octets ⊎ IsPlugOwn setup octets
          → (before.live.rest.link ≡ None
          → (after.live.rest.link ≡ None)
          × ((controller : Controlling) → controller.setup ≡ setup → AllByRecursion (λ frame. Accepts controller frame → ⊥) frames))
          × ((link : RelationState) → before.live.rest.link ≡ Some link → IsNow setup route link after.live.rest.link)
      by_kind (inl its) = (
        λ none.
            let silent = data_none laws long route before after octets frames goes device its none in
            (silent.0, nothing_accepted silent.1),
        λ link has. data_some laws long route before after octets frames goes device its link has,
      )
      by_kind (inr plug) = (
        λ none. (
          plug_none as_flash setup next identity silence parts long before after octets frames goes device plug none,
          λ controller same. plug_refused as_flash setup next identity silence parts long before after octets frames goes device plug reads controller same,
        ),
        λ link has. plug_some as_flash setup next identity silence parts long before after octets frames goes device plug route link has,
      )
