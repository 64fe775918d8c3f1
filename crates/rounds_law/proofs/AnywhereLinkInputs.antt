-- Which frames of a device a controller accepts as cyclic frames: the inputs of a relation with its route.
use Rattle.std.proofs.Common.{◌≡◌, ◌⊎◌, inl, inr, ◌==◌, ◌++◌, ℕ, false, nat_eq, List, [], ◌∷◌, map, Option, Some, None, refl, sym, ap, subst, ◌∙◌}
use Rattle.std.specs.Prelude.{option_map}
use Rattle.std.specs.Cmp.Lexicographic.{pointwise}
use Rattle.std.specs.List.{AllByRecursion}
use Rattle.std.proofs.lemmas.Bool.{eqb-true}
use Rattle.flash_model.specs.declared.flash.Flash.{Ghosts as Flash}
use Rattle.pn_values.specs.declared.identity.Identity.{Identity}
use Rattle.frame_codec.specs.FrameId.{is_cyclic}
use Rattle.frame_codec.specs.Frame.{frame_bytes, padding_of}
use Rattle.frame_codec.specs.Meaning.{RealTime}
use Rattle.frame_codec.specs.Sendable.{CanBeSent, carrying}
use Rattle.record_blocks.specs.declared.alarm_notification.AlarmNotification.{AlarmNotification}
use Rattle.settings_journal.specs.settings_store.Machine.{Outcome}
use Rattle.pn_alarms.specs.declared.abort.Abort.{Abort}
use Rattle.pn_alarms.specs.declared.pdu.PduType.{PduType}
use Rattle.pn_alarms.specs.declared.pdu.PduType.TheVariants as pdu
use Rattle.pn_alarms.specs.Format.{frame_id_of}
use Rattle.cyclic_data.specs.declared.exchange.route.Route.{Route}
use Rattle.plans.specs.declared.parts.Controller.{Controller}
use Rattle.relations.specs.exchange.Flow.{Flow}
use Rattle.relations.specs.exchange.Frames.{Inputs, Notifies, Replies, RepliesLow, Reports}
use Rattle.relations.specs.exchange.Notices.{header_of}
use Rattle.relations.specs.Plugging.{plug_ready_of}
use Rattle.relations.specs.RelationState.{RelationState}
use Rattle.relations.specs.Phases.{passing_by, updated}
use Rattle.relations.specs.Timers.{due_by, ending_of, unit_later}
use Rattle.device_frames.specs.Heard as device
use Rattle.device_frames.specs.Heard.{Ticks, heard_of as device_hears}
use Rattle.device_frames.specs.Relation.{alarms_of, due_frames, frames_in, inputs_of, low_alarms_of, plug_calls, ready_calls, where_due}
use Rattle.device_frames.specs.Sendable.{AreSendable, IsSendable}
use Rattle.device_frames.specs.Sent.{Sent, CallAnswer, ReadyCall, PlugReadyCall, Ends, Exchanges, bytes_of}
use Rattle.device_core.specs.State.{Live, Station, counter_of, units_after}
use Rattle.rpc_core.specs.Cache.{Kept}
use Rattle.device_core.specs.Machine.{handled_step, heard_step}
use Rattle.controller_messages.specs.declared.setup.Setup.{Setup}
use Rattle.controller_messages.specs.Heard.{heard_of}
use Rattle.controller_core.specs.stored.State.{Controlling}
use Rattle.end_laws.specs.hearing.Hearing.{comes}
use Rattle.rounds_law.proofs.AnywhereLinkCyclic.{IsNoData, and_true, here_from, is_read, not_data, same_mac, tagged_no_data, udp_no_data}
use Rattle.rounds_law.proofs.AnywhereLinkFrame.{data_went}
use Rattle.rounds_law.specs.Anywhere.{AllLast}
use Rattle.rounds_law.proofs.AnywhereDeviceLaw.{DeviceLaws}
use Rattle.rounds_law.proofs.AnywhereLinkHears.{IsNoPlug, own_is_of_data}
use Rattle.rounds_law.proofs.AnywhereLinkLaws.{ExchangeLaws, ReadLaws}
use Rattle.rounds_law.proofs.AnywhereLinkMoved.{AreOfLink, IsOfLink, calls_of_link, due_of_link, report_of_link}
use Rattle.rounds_law.proofs.AnywhereLinkPlugs.{IsPlugOwn, data_or_plug, plug_refused}
use Rattle.rounds_law.proofs.AnywhereParts.{Accepts, AcceptsInputs, InputsOfFrame, InputsOfUnit, IsOwn}
use Rattle.rounds_law.proofs.AnywhereRounds.{all_as}
use Rattle.rounds_law.proofs.AskedUnits.{IsLate, late_at, late_of, unit_sends}

-- ---- the messages of a relation

alarm_id : (kind : PduType) → is_cyclic (frame_id_of kind) ≡ false
alarm_id pdu.Data = refl
alarm_id pdu.Nack = refl
alarm_id pdu.Ack = refl
alarm_id pdu.Error = refl

module _ (laws : ReadLaws) (identity : Identity) (controller : Controlling) (link : RelationState) where
  -- The MAC address and the IP address of the controller.
  abbrev mine : Controller
  mine = controller.setup.plan.controller

  -- A frame that is accepted is one of a relation whose inputs are accepted.
  abbrev IsWell : List ℕ → Type 0
  IsWell octets = Accepts controller octets → AcceptsInputs identity controller link

  never : (octets : List ℕ) → IsNoData (heard_of mine octets) → IsWell octets
  never octets none = λ accepts. absurd (not_data (heard_of mine octets) accepts.source accepts.frame_id accepts.body none accepts.heard)

  inputs_well : (route : Route) (body : List ℕ) → route ≡ link.flow.cyclic.route
      → CanBeSent (carrying route.partner identity.mac (Some route.sent_tag) (RealTime route.sent_id body))
      → IsWell (frame_bytes (carrying route.partner identity.mac (Some route.sent_tag) (RealTime route.sent_id body)))
  inputs_well route body same can = λ accepts.
      let way = controller.live.cyclic.route in
      let padded = body ++ padding_of (carrying route.partner identity.mac (Some route.sent_tag) (RealTime route.sent_id body)) in
      let meaning = carrying route.partner identity.mac (Some route.sent_tag) (RealTime route.sent_id padded) in
      let heard = sym (is_read mine _ meaning (laws.real_time route.partner identity.mac (Some route.sent_tag) route.sent_id body can)) ∙ accepts.heard in
      let from = here_from mine route.partner identity.mac accepts.source route.sent_id accepts.frame_id padded accepts.body
      (pointwise nat_eq route.partner.octets mine.mac.octets) refl heard in
      let parts = and_true (pointwise nat_eq accepts.source.octets way.partner.octets) (accepts.frame_id == way.taken_id) accepts.of_partner in
      record {
        inputs = ap (λ (r : Route). r.sent_id) (sym same) ∙ (from.id ∙ eqb-true accepts.frame_id way.taken_id parts.1);
        addressed = ap (λ (r : Route). r.partner) (sym same) ∙ from.to;
        sender = sym (from.sender ∙ same_mac accepts.source way.partner parts.0);
      }

  message_well : (message : Sent) → IsOfLink link.flow.cyclic.route message → IsSendable identity message → IsWell (bytes_of identity message)
  message_well (Ends farewell) of can =
      never (bytes_of identity (Ends farewell)) (tagged_no_data laws mine farewell.initiator identity.mac farewell.tag _ _ refl can)
  message_well (Exchanges route (Inputs state inputs counter)) of can = inputs_well route _ of can
  message_well (Exchanges route (Notifies header alarm)) of can =
      never (bytes_of identity (Exchanges route (Notifies header alarm))) (tagged_no_data laws mine route.partner identity.mac route.alarm_tag _ _ refl can)
  message_well (Exchanges route (Replies header)) of can =
      never (bytes_of identity (Exchanges route (Replies header)))
      (tagged_no_data laws mine route.partner identity.mac route.alarm_tag (frame_id_of header.kind) _ (alarm_id header.kind) can)
  message_well (Exchanges route (Reports tag header alarm)) of can =
      never (bytes_of identity (Exchanges route (Reports tag header alarm))) (tagged_no_data laws mine route.partner identity.mac tag _ _ refl can)
  message_well (Exchanges route (RepliesLow tag header)) of can =
      never (bytes_of identity (Exchanges route (RepliesLow tag header))) (tagged_no_data laws mine route.partner identity.mac tag _ _ refl can)
  message_well (ReadyCall address ready) of can =
      never (bytes_of identity (ReadyCall address ready)) (udp_no_data laws mine ready.partner.mac identity.mac _ _ _ can)
  message_well (PlugReadyCall address ready) of can =
      never (bytes_of identity (PlugReadyCall address ready)) (udp_no_data laws mine ready.partner.mac identity.mac _ _ _ can)
  message_well (CallAnswer caller address answer) of can =
      never (bytes_of identity (CallAnswer caller address answer)) (udp_no_data laws mine caller.mac identity.mac _ _ _ can.0)
  message_well message of can = absurd of

  all_well : (sent : List Sent) → AreOfLink link.flow.cyclic.route sent → AreSendable identity sent → AllByRecursion IsWell (map (bytes_of identity) sent)
  all_well [] of can = tt
  all_well (message ∷ sent) of can = (message_well message of.0 can.0, all_well sent of.1 can.1)

  pub step_well : (outcomes : List Outcome) (station : Station) (live : Live) (heard : device.Heard) → station.identity ≡ identity
      → AreOfLink link.flow.cyclic.route (heard_step outcomes station live heard).sent
      → AreSendable station.identity (heard_step outcomes station live heard).sent
      → AllByRecursion IsWell (heard_step outcomes station live heard).frames
  unfolding heard_step handled_step
  step_well outcomes station live heard same of can =
      let sent = (heard_step outcomes station live heard).sent in
      subst (λ (i : Identity). AllByRecursion IsWell (map (bytes_of i) sent)) (sym same)
      (all_well sent of (subst (λ (i : Identity). AreSendable i sent) same can))

-- ---- what is sent with a unit

all_both : (route : Route) (one other : List Sent) → AreOfLink route one → AreOfLink route other → AreOfLink route (one ++ other)
all_both route [] other ones others = others
all_both route (x ∷ one) other ones others = (ones.0, all_both route one other ones.1 others)

alarm_of_link : (route : Route) (flow : Flow) (standing : Option AlarmNotification)
    → AreOfLink route (frames_in flow.cyclic.route (option_map (Notifies (header_of flow pdu.Data)) standing))
alarm_of_link route flow None = tt
alarm_of_link route flow (Some alarm) = (tt, tt)

module _ (outcomes : List Outcome) (station : Station) (live : Live) (link : RelationState) where
  unit_by : (ending : Option Abort)
      → AreOfLink link.flow.cyclic.route (due_frames live.values.running.suite.address (counter_of (units_after 1 live.rest.units)) (due_by link ending)
      (updated (passing_by ending) (Some link)))
  unit_by (Some reason) = (tt, tt)
  unit_by None =
      let route = link.flow.cyclic.route in
      let later = unit_later link in
      let due = due_by link None in
      let address = live.values.running.suite.address in
      let counter = counter_of (units_after 1 live.rest.units) in
      all_both route (where_due due.is_alarm (alarms_of (Some later.flow))) _
      (due_of_link route due.is_alarm _ (alarm_of_link route later.flow later.flow.alarms.sender.standing))
      (all_both route (where_due due.is_low (low_alarms_of (Some later.flow))) _
      (due_of_link route due.is_low _ (report_of_link route later.flow later.flow.low.alarms.sender.standing))
      (all_both route (where_due due.is_ready (ready_calls address (Some later))) _ (due_of_link route due.is_ready _ (tt, tt))
      (all_both route (where_due due.is_plug_ready (plug_calls address (Some later))) _
      (due_of_link route due.is_plug_ready _ (calls_of_link route address (plug_ready_of (Some later))))
      (due_of_link route due.is_cyclic (inputs_of counter (Some later.flow)) (refl, tt)))))

  late_of_link : (sent : List Sent) (stored : List Kept)
      → IsLate station.identity live.values.running.suite.address live.rest.asked.standing live.rest.calls sent stored → AreOfLink link.flow.cyclic.route sent
  late_of_link sent stored (inl (none, same)) = subst (AreOfLink link.flow.cyclic.route) (sym none) tt
  late_of_link sent stored (inr (one, asked, is, kept)) = subst (AreOfLink link.flow.cyclic.route) (sym is) (tt, tt)

  pub unit_of_link : live.rest.link ≡ Some link → AreOfLink link.flow.cyclic.route (heard_step outcomes station live Ticks).sent
  unit_of_link has =
      subst (AreOfLink link.flow.cyclic.route) (sym (unit_sends outcomes station live link (ending_of link) has refl))
      (all_both link.flow.cyclic.route _ (late_at station live) (unit_by (ending_of link)) (late_of_link (late_at station live) _ (late_of station live)))

-- ---- the parts

module _ {F : Type 0} {S : ℕ} (as_flash : Flash F S) (setup next : Setup) (identity : Identity) (silence : ℕ) where
  pub inputs_of_frame : DeviceLaws setup identity → ReadLaws → ExchangeLaws setup → InputsOfFrame as_flash setup next identity silence
  inputs_of_frame parts reads laws long controller of exchanges route before after octets frames goes device own link has =
      by_kind (data_or_plug setup route octets own)
    where
      by_kind : IsOwn setup (IsNoPlug route) octets ⊎ IsPlugOwn setup octets
          → AllByRecursion (λ frame. Accepts controller frame → AcceptsInputs identity controller link) frames
      by_kind (inl its) =
          let outcomes = goes.steps.outcomes in
          let heard = device_hears before.station.identity (comes octets) in
          let is = own_is_of_data setup laws long.real before.station.identity route octets its in
          subst (AllByRecursion (λ frame. Accepts controller frame → AcceptsInputs identity controller link)) (sym goes.steps.frames)
          (step_well reads identity controller link outcomes before.station before.live heard device.of_device
          (data_went setup route outcomes before.station before.live link (subst (AllLast setup silence) has device.lasts).untold heard is has).1
          goes.steps.sendable)
      by_kind (inr plug) =
          all_as (λ frame. Accepts controller frame → AcceptsInputs identity controller link) (λ frame. Accepts controller frame → ⊥)
          (λ frame refuses accepts. absurd (refuses accepts)) frames
          (plug_refused as_flash setup next identity silence parts long before after octets frames goes device plug reads controller of.of_setup)

  pub inputs_of_unit : ReadLaws → InputsOfUnit as_flash setup next identity silence
  inputs_of_unit reads = λ long controller of exchanges before after frames goes device link has.
      let outcomes = goes.steps.outcomes in
      subst (AllByRecursion (λ frame. Accepts controller frame → AcceptsInputs identity controller link)) (sym goes.steps.frames)
      (step_well reads identity controller link outcomes before.station before.live Ticks device.of_device
      (unit_of_link outcomes before.station before.live link has) goes.steps.sendable)
