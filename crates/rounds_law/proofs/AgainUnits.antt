-- What a unit does at a device with an earlier relation.
use Rattle.std.proofs.Common.{◌≡◌, ◌⊎◌, inl, inr, ◌+◌, ◌-◌, ◌≤◌, ◌==◌, ◌&&◌, ◌++◌, ℕ, suc, Bool, true, false, nat_le}
use Rattle.std.proofs.Common.{List, [], ◌∷◌, map, Option, Some, None, refl, sym, ap, subst, ◌∙◌, arith}
use Rattle.std.specs.Prelude.{◌<◌, min, option_map, if◌then◌else◌}
use Rattle.std.specs.List.{AllByRecursion}
use Rattle.std.proofs.lemmas.Bool.Decides.{nat_tests}
use Rattle.pn_values.specs.declared.identity.Identity.{Identity}
use Rattle.frame_codec.specs.FrameId.{is_cyclic}
use Rattle.rpc_core.specs.declared.interface.Interface.TheVariants.{Controller as controllers}
use Rattle.rpc_core.specs.Interface.{interface_uuid}
use Rattle.rpc_core.specs.Sendable.{IsUuid}
use Rattle.settings_journal.specs.settings_store.Machine.{Outcome}
use Rattle.connects.specs.requests.Request.{Request}
use Rattle.pn_alarms.specs.declared.pdu.PduType.TheVariants.{Data}
use Rattle.pn_alarms.specs.declared.abort.Abort.{Abort}
use Rattle.pn_alarms.specs.declared.abort.Abort.TheVariants.{Activity, DataHold}
use Rattle.pn_alarms.specs.declared.repeats.Due.{Due as AlarmDue}
use Rattle.cyclic_data.specs.Timing.{Hearing, held_on}
use Rattle.cyclic_data.specs.declared.exchange.route.Route.{Route}
use Rattle.cyclic_data.specs.exchange.Cyclic.{Cyclic}
use Rattle.cyclic_data.specs.exchange.Units.{ending_by, ending_of as cyclic_ending, tick_by}
use Rattle.record_blocks.specs.declared.alarm_notification.AlarmNotification.{AlarmNotification}
use Rattle.expected_places.specs.declared.calls.PlugCall.{PlugCall}
use Rattle.relations.specs.declared.farewell.Farewell.{Farewell}
use Rattle.relations.specs.declared.phase.Partner.{Partner}
use Rattle.relations.specs.declared.plugging.PlugReady.{PlugReady}
use Rattle.relations.specs.declared.ready.Ready.{Ready}
use Rattle.relations.specs.exchange.Flow.{Flow}
use Rattle.relations.specs.exchange.Frames.{Notifies, Reports}
use Rattle.relations.specs.exchange.Notices.{header_of}
use Rattle.relations.specs.exchange.Diagnosis.{low_header_of}
use Rattle.relations.specs.exchange.Opening.{route_of as inputs_route}
use Rattle.relations.specs.exchange.Units.{alarm_due}
use Rattle.relations.specs.Plugging.{ready_for}
use Rattle.relations.specs.RelationState.{RelationState}
use Rattle.relations.specs.Timers.{Due, due_by, ending_of, is_timed, limit_of, unit_later}
use Rattle.device_frames.specs.Heard.{Ticks}
use Rattle.device_frames.specs.Relation.{alarms_of, due_frames, farewells_in, frames_in, inputs_of, low_alarms_of, plug_call_in, plug_calls, ready_calls}
use Rattle.device_frames.specs.Relation.{where_due}
use Rattle.device_frames.specs.Sendable.{AreSendable}
use Rattle.device_frames.specs.Sent.{Sent, bytes_of}
use Rattle.device_core.specs.State.{Live, Station, counter_of, units_after}
use Rattle.device_core.specs.Handled.{Handled, partner_of}
use Rattle.device_core.specs.Machine.{Stepped, handled_step, heard_step}
use Rattle.controller_messages.specs.declared.setup.Setup.{Setup}
use Rattle.end_laws.specs.device.Orderly.{AreNumbered, IsNumberedCall}
use Rattle.end_laws.specs.hearing.Stations.{IsDevice, IsSetup}
use Rattle.both_ends.specs.startup.request.Request.{request_for}
use Rattle.both_ends.specs.startup.answer.Answer.{caller_of}
use Rattle.rounds_law.specs.Path.{AsksNothing, IsIgnored}
use Rattle.rounds_law.specs.Again.{HasEarlier, units_left}
use Rattle.rounds_law.proofs.AgainIgnored.{HeardLaws, IsOfUnit, IsPlugCall, IsReadyOfOther, unit_ignored}
use Rattle.rounds_law.proofs.AnywherePlugs.{later_numbered}
use Rattle.rounds_law.proofs.AskedUnits.{quiet_unit, ticked_at, ticked_by}
use Rattle.rounds_law.proofs.DevicePassingTimers.{tick_ending}

-- ---- what is sent

all_both : {A : Type 0} (P : A → Type 0) (one other : List A) → AllByRecursion P one → AllByRecursion P other → AllByRecursion P (one ++ other)
all_both P [] other ones others = others
all_both P (x ∷ one) other ones others = (ones.0, all_both P one other ones.1 others)

all_due : (P : Sent → Type 0) (is_due : Bool) (sent : List Sent) → AllByRecursion P sent → AllByRecursion P (where_due is_due sent)
all_due P true sent all = all
all_due P false sent all = tt

farewell_all : (setup : Setup) (farewell : Option Farewell) → AllByRecursion (IsOfUnit setup) (farewells_in farewell)
farewell_all setup None = tt
farewell_all setup (Some farewell) = (tt, tt)

alarm_all : (setup : Setup) (flow : Flow) (standing : Option AlarmNotification)
    → AllByRecursion (IsOfUnit setup) (frames_in flow.cyclic.route (option_map (Notifies (header_of flow Data)) standing))
alarm_all setup flow None = tt
alarm_all setup flow (Some alarm) = (tt, tt)

low_all : (setup : Setup) (flow : Flow) (standing : Option AlarmNotification)
    → AllByRecursion (IsOfUnit setup) (frames_in flow.cyclic.route (option_map (Reports flow.low.tag (low_header_of flow Data)) standing))
low_all setup flow None = tt
low_all setup flow (Some alarm) = (tt, tt)

-- ApplicationReady of a relation with this ARUUID
abbrev ready_made : Partner → Request → Ready
ready_made partner request = record {
  partner = partner;
  header = record { object = request.ar.object; interface = interface_uuid controllers; activity = request.ar.uuid; sequence = 0; operation = 4 };
  block = record { ar_uuid = request.ar.uuid; session_key = request.ar.session_key; control_command = 2; control_block_properties = 0 };
}

ready_other : (setup : Setup) (ar : List ℕ) → IsSetup setup → IsUuid ar → (ar ≡ setup.ar → ⊥)
    → IsReadyOfOther setup (ready_made (partner_of (caller_of setup.plan.controller)) (request_for setup.plan ar))
ready_other setup ar good sized other = record {
  mac = good.mac;
  address = good.address;
  header = record { object = refl; interface = refl; activity = sized; sequence = omega arith; operation = omega arith };
  interface = refl;
  operation = refl;
  block = (record { ar_uuid = sized; session_key = omega arith; control_command = omega arith; control_block_properties = omega arith }, refl);
  uuid = sized;
  other = other;
}

-- ApplicationReady of a plug in a relation with this ARUUID, for this call
abbrev plug_made : Partner → Request → PlugCall → PlugReady
plug_made partner request call = record {
  partner = partner;
  header = record {
    object = request.ar.object;
    interface = interface_uuid controllers;
    activity = request.ar.uuid;
    sequence = call.sequence;
    operation = 4;
  };
  block = record {
    ar_uuid = request.ar.uuid;
    session_key = request.ar.session_key;
    alarm_sequence_number = call.number;
    control_command = 2;
    control_block_properties = 0;
  };
}

plug_known : (setup : Setup) (ar : List ℕ) (call : PlugCall) → IsSetup setup → IsUuid ar → (ar ≡ setup.ar → ⊥) → call.sequence < 4294967296
    → IsPlugCall setup (plug_made (partner_of (caller_of setup.plan.controller)) (request_for setup.plan ar) call)
plug_known setup ar call good sized other few = record {
  mac = good.mac;
  address = good.address;
  header = record { object = refl; interface = refl; activity = sized; sequence = few; operation = omega arith };
  interface = refl;
  operation = refl;
  uuid = sized;
  key = omega arith;
  command = omega arith;
  properties = omega arith;
  other = other;
}

module _ (setup : Setup) (good : IsSetup setup) where
  plugs_all : (address : List ℕ) (link : RelationState) (ar : List ℕ) → IsUuid ar → (ar ≡ setup.ar → ⊥)
      → link.request ≡ request_for setup.plan ar → link.partner ≡ partner_of (caller_of setup.plan.controller)
      → (standing : Option PlugCall) → IsNumberedCall standing
      → AllByRecursion (IsOfUnit setup) (plug_call_in address (option_map (ready_for link) standing))
  plugs_all address link ar sized other request partner None few = tt
  plugs_all address link ar sized other request partner (Some call) few = (
    subst (IsPlugCall setup)
        (sym (ap (λ (p : Partner). plug_made p link.request call) partner
        ∙ ap (λ (r : Request). plug_made (partner_of (caller_of setup.plan.controller)) r call) request))
        (plug_known setup ar call good sized other few),
    tt,
  )

  sent_all : (serial : ℕ) (address : List ℕ) (counter : ℕ) (due : Due) (link : RelationState) (ar : List ℕ) → IsUuid ar → (ar ≡ setup.ar → ⊥)
      → link.request ≡ request_for setup.plan ar → link.partner ≡ partner_of (caller_of setup.plan.controller)
      → link.flow.cyclic.route ≡ inputs_route serial (request_for setup.plan ar) → AreNumbered link.plugs.calls
      → AllByRecursion (IsOfUnit setup) (due_frames address counter due (Some link))
  sent_all serial address counter due link ar sized other request partner route called =
      let P = IsOfUnit setup in
      let calls = subst (IsReadyOfOther setup)
      (sym (ap (λ (p : Partner). ready_made p link.request) partner
      ∙ ap (λ (r : Request). ready_made (partner_of (caller_of setup.plan.controller)) r) request))
      (ready_other setup ar good sized other) in
      all_both P (farewells_in due.farewell) _ (farewell_all setup due.farewell)
      (all_both P (where_due due.is_alarm (alarms_of (Some link.flow))) _
      (all_due P due.is_alarm _ (alarm_all setup link.flow link.flow.alarms.sender.standing))
      (all_both P (where_due due.is_low (low_alarms_of (Some link.flow))) _
      (all_due P due.is_low _ (low_all setup link.flow link.flow.low.alarms.sender.standing))
      (all_both P (where_due due.is_ready (ready_calls address (Some link))) _ (all_due P due.is_ready _ (calls, tt))
      (all_both P (where_due due.is_plug_ready (plug_calls address (Some link))) _
      (all_due P due.is_plug_ready _ (plugs_all address link ar sized other request partner link.plugs.calls.standing called.1))
      (all_due P due.is_cyclic (inputs_of counter (Some link.flow)) (ap (λ (r : Route). is_cyclic r.sent_id) route, tt))))))

  all_ignored : HeardLaws → (identity : Identity) → IsDevice identity → (sent : List Sent) → AllByRecursion (IsOfUnit setup) sent → AreSendable identity sent
      → AllByRecursion (IsIgnored setup) (map (bytes_of identity) sent)
  all_ignored laws identity device [] of can = tt
  all_ignored laws identity device (message ∷ sent) of can =
      (unit_ignored laws setup identity message device of.0 can.0, all_ignored laws identity device sent of.1 can.1)

-- ---- the units until the relation ends

timed_left : (limit inactive n : ℕ) → limit - inactive ≤ suc n → limit - (inactive + 1) ≤ n
timed_left limit inactive n h = omega (arith, h)

held_left : (limit held n : ℕ) → limit - held ≤ suc n → limit - min limit (held + 1) ≤ n
held_left limit held n h = omega (arith, h)

left_by : (timed begun : Bool) (limit inactive n : ℕ) (hearing : Hearing) → begun ≡ (if timed then false else true)
    → (if timed then limit - inactive else hearing.limit - hearing.held) ≤ suc n
    → (if timed then limit - (if timed then inactive + 1 else inactive)
    else (if begun then held_on hearing else hearing).limit - (if begun then held_on hearing else hearing).held) ≤ n
left_by true begun limit inactive n hearing is h = timed_left limit inactive n h
left_by false true limit inactive n hearing is h = held_left hearing.limit hearing.held n h
left_by false false limit inactive n hearing is h = absurd cc

left_later : (link : RelationState) (n : ℕ) → link.flow.cyclic.begun ≡ (if is_timed link.phase then false else true) → units_left link ≤ suc n
    → units_left (unit_later link) ≤ n
left_later link n begun h = left_by (is_timed link.phase) link.flow.cyclic.begun (limit_of link) link.inactive n link.flow.cyclic.hearing begun h

-- a relation whose time ends with the next unit is over after it
reached : (limit inactive : ℕ) → limit - inactive ≤ 1 → nat_le limit (inactive + 1) ≡ true
reached limit inactive h = grind (arith, nat_tests)

reached_hold : (limit held : ℕ) → limit - held ≤ 1 → (min limit (held + 1) == limit) ≡ true
reached_hold limit held h = grind (arith, nat_tests)

-- It ends, for some reason.
abbrev Ends : Option Abort → Type 0
Ends ending = (reason : Abort) × (ending ≡ Some reason)

ends_by : (timed begun : Bool) (limit inactive : ℕ) (cyclic : Cyclic) (alarm : AlarmDue) → begun ≡ (if timed then false else true) → cyclic.begun ≡ begun
    → (if timed then limit - inactive else cyclic.hearing.limit - cyclic.hearing.held) ≤ 1
    → Ends (if timed then (if nat_le limit (inactive + 1) then Some Activity else None) else (tick_by cyclic alarm (cyclic_ending cyclic alarm)).ending)
ends_by true begun limit inactive cyclic alarm is same h = (Activity, ap (λ (b : Bool). if b then Some Activity else None) (reached limit inactive h))
ends_by false true limit inactive cyclic alarm is same h = (
  DataHold,
  tick_ending cyclic alarm (cyclic_ending cyclic alarm)
      ∙ (ap (λ (b : Bool). if b && (min cyclic.hearing.limit (cyclic.hearing.held + 1) == cyclic.hearing.limit) then Some DataHold else ending_by alarm) same
      ∙ ap (λ (b : Bool). if b then Some DataHold else ending_by alarm) (reached_hold cyclic.hearing.limit cyclic.hearing.held h)),
)
ends_by false false limit inactive cyclic alarm is same h = absurd cc

ends_now : (link : RelationState) → link.flow.cyclic.begun ≡ (if is_timed link.phase then false else true) → units_left link ≤ 1 → Ends (ending_of link)
ends_now link begun h = ends_by (is_timed link.phase) link.flow.cyclic.begun (limit_of link) link.inactive link.flow.cyclic (alarm_due link.flow) begun refl h

-- ---- the step

unit_is : (outcomes : List Outcome) (station : Station) (live : Live) (link : RelationState) (ending : Option Abort)
    → AsksNothing live → live.rest.link ≡ Some link → ending_of link ≡ ending
    → heard_step outcomes station live Ticks ≡ handled_step outcomes station live (ticked_by live link ending)
unfolding heard_step
unit_is outcomes station live link ending nothing has is =
    ap (λ (what : Handled). handled_step outcomes station live what) (quiet_unit station live nothing)
    ∙ (ap (λ (l : Option RelationState). handled_step outcomes station live (ticked_at live l)) has
    ∙ ap (λ (e : Option Abort). handled_step outcomes station live (ticked_by live link e)) is)

-- what the law says of it
abbrev Goes : Setup → Live → ℕ → Stepped → Type 0
Goes setup live left step =
    AllByRecursion (IsOfUnit setup) step.sent × (step.live.values ≡ live.values) × (step.live.rest.calls ≡ live.rest.calls)
    × ((step.live.rest.link ≡ None) ⊎ HasEarlier setup left step.live) × AsksNothing step.live

module _ (setup : Setup) (good : IsSetup setup) (outcomes : List Outcome) (station : Station) (live : Live) where
  goes_by : (left : ℕ) (earlier : HasEarlier setup (suc left) live) (ending : Option Abort)
      → Goes setup live left (handled_step outcomes station live (ticked_by live earlier.link ending))
  unfolding handled_step
  goes_by left earlier (Some reason) = ((tt, tt), refl, refl, inl refl, earlier.unasked)
  goes_by left earlier None =
      let link = earlier.link in
      let later = unit_later link in
      let called = later_numbered (is_timed link.phase) link.plugs earlier.called in (
        sent_all setup good earlier.serial live.values.running.suite.address (counter_of (units_after 1 live.rest.units))
            (due_by link None) later earlier.ar earlier.ar_sized earlier.other
            earlier.request earlier.partner earlier.route called,
        refl,
        refl,
        inr (record {
          link = later;
          has = refl;
          ar = earlier.ar;
          ar_sized = earlier.ar_sized;
          other = earlier.other;
          request = earlier.request;
          partner = earlier.partner;
          serial = earlier.serial;
          few = earlier.few;
          route = earlier.route;
          begun = earlier.begun;
          called = called;
          time = left_later link left earlier.begun earlier.time;
          unasked = earlier.unasked;
        }),
        earlier.unasked,
      )

  goes : (left : ℕ) → HasEarlier setup (suc left) live → Goes setup live left (heard_step outcomes station live Ticks)
  goes left earlier =
      subst (Goes setup live left) (sym (unit_is outcomes station live earlier.link (ending_of earlier.link) earlier.unasked earlier.has refl))
      (goes_by left earlier (ending_of earlier.link))

  frames_are : (heard_step outcomes station live Ticks).frames ≡ map (bytes_of station.identity) (heard_step outcomes station live Ticks).sent
  unfolding heard_step handled_step
  frames_are = refl

  pub earlier_unit : HeardLaws → (identity : Identity) (left : ℕ) → IsDevice identity → station.identity ≡ identity → HasEarlier setup (suc left) live
      → AreSendable identity (heard_step outcomes station live Ticks).sent
      → AllByRecursion (IsIgnored setup) (heard_step outcomes station live Ticks).frames
      × ((heard_step outcomes station live Ticks).live.values ≡ live.values)
      × ((heard_step outcomes station live Ticks).live.rest.calls ≡ live.rest.calls)
      × (((heard_step outcomes station live Ticks).live.rest.link ≡ None) ⊎ HasEarlier setup left (heard_step outcomes station live Ticks).live)
      × AsksNothing (heard_step outcomes station live Ticks).live
  earlier_unit laws identity left device same earlier can =
      let all = goes left earlier in (
        subst (AllByRecursion (IsIgnored setup)) (sym (frames_are ∙ ap (λ (i : Identity). map (bytes_of i) (heard_step outcomes station live Ticks).sent) same))
            (all_ignored setup good laws identity device (heard_step outcomes station live Ticks).sent all.0 can),
        all.1,
        all.2,
        all.3,
        all.4,
      )

  pub earlier_last : HasEarlier setup 1 live → (heard_step outcomes station live Ticks).live.rest.link ≡ None
  unfolding handled_step
  earlier_last earlier =
      let over = ends_now earlier.link earlier.begun earlier.time in
      ap (λ (step : Stepped). step.live.rest.link) (unit_is outcomes station live earlier.link (Some over.0) earlier.unasked earlier.has over.1)

pub no_relation_unit : (outcomes : List Outcome) (station : Station) (live : Live) → live.rest.link ≡ None → AsksNothing live
    → ((heard_step outcomes station live Ticks).frames ≡ []) × ((heard_step outcomes station live Ticks).live.values ≡ live.values)
    × ((heard_step outcomes station live Ticks).live.rest.calls ≡ live.rest.calls) × ((heard_step outcomes station live Ticks).live.rest.link ≡ None)
    × AsksNothing (heard_step outcomes station live Ticks).live
unfolding heard_step handled_step
no_relation_unit outcomes station live none nothing =
    subst (λ (what : Handled). ((handled_step outcomes station live what).frames ≡ []) × ((handled_step outcomes station live what).live.values ≡ live.values)
    × ((handled_step outcomes station live what).live.rest.calls ≡ live.rest.calls) × ((handled_step outcomes station live what).live.rest.link ≡ None)
    × AsksNothing (handled_step outcomes station live what).live) (sym (quiet_unit station live nothing))
    (subst (λ (l : Option RelationState). ((handled_step outcomes station live (ticked_at live l)).frames ≡ [])
    × ((handled_step outcomes station live (ticked_at live l)).live.values ≡ live.values)
    × ((handled_step outcomes station live (ticked_at live l)).live.rest.calls ≡ live.rest.calls)
    × ((handled_step outcomes station live (ticked_at live l)).live.rest.link ≡ None)
    × AsksNothing (handled_step outcomes station live (ticked_at live l)).live) (sym none) (refl, refl, refl, refl, nothing))
