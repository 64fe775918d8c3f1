-- The frames of inputs that a device sends with a unit of time are those of the independent words.
use Rattle.std.proofs.Common.{◌≡◌, ap, ◌+◌, ◌%◌, ◌++◌, ℕ, Bool, true, false, List, [], ◌∷◌, length, map, Option, Some, None, option_map, refl, sym, subst, ◌∙◌, arith}
use Rattle.std.specs.Prelude.{if◌then◌else◌}
use Rattle.std.specs.List.{AllByRecursion}
use Rattle.std.proofs.Math.Pow.{mod-mod-pow}
use Rattle.std.proofs.Math.Nat.{mod-lt}
use Rattle.pn_values.specs.IpSuite.{is_zero}
use Rattle.pn_values.specs.declared.identity.Identity.{Identity}
use Rattle.flash_model.specs.declared.flash.Flash.{Ghosts as Flash}
use Rattle.record_blocks.specs.declared.alarm_notification.AlarmNotification.{AlarmNotification}
use Rattle.frame_codec.specs.FrameId.{is_cyclic}
use Rattle.rpc_core.specs.Cache.{Kept}
use Rattle.pn_alarms.specs.declared.abort.Abort.{Abort}
use Rattle.pn_alarms.specs.declared.pdu.PduType.{PduType}
use Rattle.pn_alarms.specs.declared.pdu.PduType.TheVariants as pdu
use Rattle.pn_alarms.specs.Format.{frame_id_of}
use Rattle.asked_records.specs.declared.question.Question.{Question}
use Rattle.asked_records.specs.declared.status.Unanswered.TheVariants.{Late}
use Rattle.asked_records.specs.Questions.{operation_of}
use Rattle.expected_places.specs.declared.calls.PlugCall.{PlugCall}
use Rattle.relations.specs.declared.options.DeviceOptions.{DeviceOptions}
use Rattle.relations.specs.exchange.Flow.{Flow, state_of}
use Rattle.relations.specs.exchange.Frames.{Inputs, Notifies, Reports}
use Rattle.relations.specs.exchange.Diagnosis.{low_header_of}
use Rattle.relations.specs.exchange.Notices.{header_of}
use Rattle.relations.specs.exchange.Units.{flow_later}
use Rattle.relations.specs.Phases.{passing_by, updated}
use Rattle.relations.specs.Plugging.{ready_for}
use Rattle.relations.specs.RelationState.{RelationState, flow_of}
use Rattle.relations.specs.Timers.{due_by, ending_of, unit_later}
use Rattle.device_frames.specs.declared.event.Event.{Event}
use Rattle.device_frames.specs.declared.event.Event.TheVariants.{Tick}
use Rattle.device_frames.specs.declared.note.Note.{Note}
use Rattle.device_frames.specs.Heard.{Heard, Ticks, heard_of}
use Rattle.device_frames.specs.Relation.{alarms_of, due_frames, frames_in, inputs_of, low_alarms_of, plug_call_in, plug_calls, ready_calls, where_due}
use Rattle.device_frames.specs.Sendable.{AreSendable, IsSendable}
use Rattle.device_frames.specs.Sent.{Sent, Exchanges, bytes_of}
use Rattle.settings_journal.specs.settings_store.Machine.{Outcome}
use Rattle.device_core.specs.State.{Live, State, Station, counter_of, units_after}
use Rattle.device_core.specs.Asking.{is_kept, is_new, late_in, late_sent, looked_if, question_replies, refused_reply}
use Rattle.device_core.specs.Handled.{unit_rest, unit_sent}
use Rattle.device_core.specs.Machine.{Stepped, handled_step, heard_step}
use Rattle.device_core.specs.Steps.{Steps}
use Rattle.field_words.specs.Cyclic.{IsCyclic, IsProvided}
use Rattle.end_laws.specs.cyclic.Device.{cycle_at, linked, provider_at}
use Rattle.end_laws.specs.cyclic.Ends.{AreProvided}
use Rattle.end_laws.proofs.HearingGiven.{DataIsRead}
use Rattle.end_laws.proofs.CyclicDevice.{linked_is}
use Rattle.end_laws.proofs.CyclicSending.{all_both, datagram_alone, provided, tagged_alone}

-- CycleCounter is the number of units, modulo 65,536.
counter_is : (units : ℕ) → counter_of (units_after 1 units) ≡ (units + 1) % 65536
counter_is units = mod-mod-pow (units + 1) 48 16

alarm_apart : (kind : PduType) → is_cyclic (frame_id_of kind) ≡ false
alarm_apart pdu.Data = refl
alarm_apart pdu.Nack = refl
alarm_apart pdu.Ack = refl
alarm_apart pdu.Error = refl

module _ (data_read : DataIsRead) (station : Station) (before : Live) (link : RelationState) where
  abbrev identity : Identity
  identity = station.identity

  -- What is shown of a message: if it is a cyclic frame, it is one of the inputs.
  abbrev IsFine : Sent → Type 0
  IsFine message = IsSendable identity message → IsCyclic (bytes_of identity message) → IsProvided (provider_at station link) (cycle_at before) (bytes_of identity message)

  abbrev AreFine : List Sent → Type 0
  AreFine messages = AllByRecursion IsFine messages

  fine_both : (one more : List Sent) → AreFine one → AreFine more → AreFine (one ++ more)
  fine_both one more first others = all_both IsFine one more first others

  fine_due : (b : Bool) (messages : List Sent) → AreFine messages → AreFine (where_due b messages)
  fine_due true messages fine = fine
  fine_due false messages fine = tt

  -- ---- messages that are no cyclic frames

  ready_fine : (address : List ℕ) (after : Option RelationState) → AreFine (ready_calls address after)
  ready_fine address None = tt
  ready_fine address (Some after) = (
    λ can cyclic.
        absurd (datagram_alone _ identity.mac can.destination can.source _ _ _ cyclic),
    tt,
  )

  plug_fine : (address : List ℕ) (after : Option RelationState) → AreFine (plug_calls address after)
  plug_fine address None = tt
  plug_fine address (Some after) = by_standing after.plugs.calls.standing
    where
      by_standing : (standing : Option PlugCall) → AreFine (plug_call_in address (option_map (ready_for after) standing))
      by_standing None = tt
      by_standing (Some call) = (
        λ can cyclic.
            absurd (datagram_alone _ identity.mac can.destination can.source _ _ _ cyclic),
        tt,
      )

  alarms_fine : (flow : Option Flow) → AreFine (alarms_of flow)
  alarms_fine None = tt
  alarms_fine (Some flow) = by_standing flow.alarms.sender.standing
    where
      by_standing : (standing : Option AlarmNotification) → AreFine (frames_in flow.cyclic.route (option_map (Notifies (header_of flow pdu.Data)) standing))
      by_standing None = tt
      by_standing (Some alarm) = (
        λ can cyclic.
            absurd (tagged_alone _ identity.mac can.destination can.source _ (frame_id_of pdu.Data) _ can.content.0 (alarm_apart pdu.Data) cyclic),
        tt,
      )

  low_alarms_fine : (flow : Option Flow) → AreFine (low_alarms_of flow)
  low_alarms_fine None = tt
  low_alarms_fine (Some flow) = by_standing flow.low.alarms.sender.standing
    where
      by_standing : (standing : Option AlarmNotification)
          → AreFine (frames_in flow.cyclic.route (option_map (Reports flow.low.tag (low_header_of flow pdu.Data)) standing))
      by_standing None = tt
      by_standing (Some alarm) = (
        λ can cyclic.
            absurd (tagged_alone _ identity.mac can.destination can.source _ _ _ can.content.0 refl cyclic),
        tt,
      )

  late_fine : (options : DeviceOptions) (address : List ℕ) (found : Option Question) (calls : List Kept) → AreFine (late_sent options address found calls)
  late_fine options address None calls = tt
  late_fine options address (Some question) calls = by_address (is_zero address)
    where
      answer : Sent
      answer = refused_reply address Late question

      by_address : (zero : Bool) → AreFine (if zero then [] else question_replies (is_kept options (operation_of question.request)) question answer calls)
      by_address true = tt
      by_address false =
          fine_due (is_new (looked_if (is_kept options (operation_of question.request)) question.header.activity question.header.sequence calls)) (answer ∷ []) (
            λ can cyclic.
                absurd (datagram_alone _ identity.mac can.0.destination can.0.source _ _ _ cyclic),
            tt,
          )

  -- ---- the unit

  inputs_fine : AreFine (inputs_of (counter_of (units_after 1 before.rest.units)) (Some (flow_later link.flow)))
  inputs_fine = (
    λ can cyclic.
        subst (λ (n : ℕ). IsProvided (provider_at station link) n
        (bytes_of identity (Exchanges link.flow.cyclic.route (Inputs (state_of (flow_later link.flow)) link.flow.cyclic.shown (counter_of (units_after 1 before.rest.units))))))
        (counter_is before.rest.units)
        (provided data_read identity.mac link.flow.cyclic.route (state_of (flow_later link.flow)) link.flow.cyclic.shown (counter_of (units_after 1 before.rest.units)) can
        (mod-lt (units_after 1 before.rest.units) {m = 65536} (omega arith))),
    tt,
  )

  abbrev sent_by : Option Abort → List Sent
  sent_by ending = due_frames before.values.running.suite.address (counter_of (units_after 1 before.rest.units)) (due_by link ending) (updated (passing_by ending) (Some link))

  unit_fine : (ending : Option Abort) → AreFine (sent_by ending)
  unit_fine (Some because) = (
    λ can cyclic.
        absurd (tagged_alone _ identity.mac can.destination can.source _ (frame_id_of pdu.Error) _ can.content.0 (alarm_apart pdu.Error) cyclic),
    tt,
  )
  unit_fine None =
      let address = before.values.running.suite.address in
      let after : Option RelationState = Some (unit_later link) in
      let due = due_by link None in
      let cyclic = where_due due.is_cyclic (inputs_of (counter_of (units_after 1 before.rest.units)) (Some (flow_later link.flow))) in
      let plugs = where_due due.is_plug_ready (plug_calls address after) in
      let readies = where_due due.is_ready (ready_calls address after) in
      let lows = where_due due.is_low (low_alarms_of (flow_of after)) in
      fine_both (where_due due.is_alarm (alarms_of (flow_of after))) (lows ++ (readies ++ (plugs ++ cyclic)))
      (fine_due due.is_alarm (alarms_of (flow_of after)) (alarms_fine (flow_of after)))
      (fine_both lows (readies ++ (plugs ++ cyclic)) (fine_due due.is_low (low_alarms_of (flow_of after)) (low_alarms_fine (flow_of after)))
      (fine_both readies (plugs ++ cyclic) (fine_due due.is_ready (ready_calls address after) (ready_fine address after))
      (fine_both plugs cyclic (fine_due due.is_plug_ready (plug_calls address after) (plug_fine address after))
      (fine_due due.is_cyclic (inputs_of (counter_of (units_after 1 before.rest.units)) (Some (flow_later link.flow))) inputs_fine))))

  frames_provided : (messages : List Sent) → AreFine messages → AreSendable identity messages → AreProvided (provider_at station link) (cycle_at before) (map (bytes_of identity) messages)
  frames_provided [] fine can = tt
  frames_provided (message ∷ messages) fine can = (fine.0 can.0, frames_provided messages fine.1 can.1)

  tick_fine : (outcomes : List Outcome) → AreFine (heard_step outcomes station (linked link before) Ticks).sent
  unfolding heard_step handled_step
  tick_fine outcomes =
      fine_both (unit_sent (linked link before)) _ (unit_fine (ending_of link))
      (late_fine station.options before.values.running.suite.address (late_in (length (unit_sent (linked link before))) (unit_rest (linked link before)).asked) before.rest.calls)

  step_frames : (outcomes : List Outcome) → (heard_step outcomes station (linked link before) Ticks).frames ≡ map (bytes_of identity) (heard_step outcomes station (linked link before) Ticks).sent
  unfolding heard_step handled_step
  step_frames outcomes = refl

-- The frames of a unit.
pub sends_at : DataIsRead → {F : Type 0} {S : ℕ} (as_flash : Flash F S) (old new : State F) (event : Event) (sent : List (List ℕ)) (said : Note)
    → Steps as_flash old (heard_of old.station.identity event) sent said new → (link : RelationState) → old.live.rest.link ≡ Some link → event ≡ Tick
    → AreProvided (provider_at old.station link) (cycle_at old.live) sent
unfolding heard_of
sends_at data_read as_flash old new event sent said steps link exists is =
    let heard : heard_of old.station.identity event ≡ Ticks = ap (λ (e : Event). heard_of old.station.identity e) is in
    let step : heard_step steps.outcomes old.station old.live (heard_of old.station.identity event) ≡ heard_step steps.outcomes old.station (linked link old.live) Ticks =
    ap (λ (h : Heard). heard_step steps.outcomes old.station old.live h) heard
    ∙ ap (λ (l : Live). heard_step steps.outcomes old.station l Ticks) (linked_is link old.live exists) in
    subst (λ (frames : List (List ℕ)). AreProvided (provider_at old.station link) (cycle_at old.live) frames)
    (sym (steps.frames ∙ (ap (λ (s : Stepped). s.frames) step ∙ step_frames data_read old.station old.live link steps.outcomes)))
    (frames_provided data_read old.station old.live link _ (tick_fine data_read old.station old.live link steps.outcomes)
    (subst (λ (s : Stepped). AreSendable old.station.identity s.sent) step steps.sendable))
