-- The frames of outputs that a controller sends with a unit of time are those of the independent words.
use Rattle.std.proofs.Common.{◌≡◌, ◌+◌, ◌%◌, ◌<◌, ◌++◌, ℕ, Bool, true, false, List, [], ◌∷◌, length, map, Option, Some, None, refl, sym, subst, arith}
use Rattle.std.specs.Prelude.{if◌then◌else◌, is_some}
use Rattle.std.specs.List.{AllByRecursion}
use Rattle.std.proofs.Math.Nat.{mod-lt}
use Rattle.frame_codec.specs.FrameId.{is_cyclic}
use Rattle.record_blocks.specs.declared.alarm_ack.AlarmAck.{AlarmAck}
use Rattle.pn_alarms.specs.declared.abort.Abort.{Abort}
use Rattle.pn_alarms.specs.declared.pdu.PduType.{PduType}
use Rattle.pn_alarms.specs.declared.pdu.PduType.TheVariants as pdu
use Rattle.pn_alarms.specs.Format.{frame_id_of}
use Rattle.pn_alarms.specs.Sending.{due}
use Rattle.diagnosis.specs.declared.reports.priority.Priority.{Priority}
use Rattle.diagnosis.specs.declared.reports.priority.Priority.TheVariants.{High, Low}
use Rattle.diagnosis.specs.reports.Priority.{frame_id_at}
use Rattle.cyclic_data.specs.Status.{in_order}
use Rattle.plan_places.specs.Places.{Told}
use Rattle.controller_messages.specs.declared.plug_request.PlugRequest.{PlugRequest}
use Rattle.controller_messages.specs.declared.record_request.RecordRequest.{RecordRequest}
use Rattle.controller_messages.specs.declared.request.Request.{Request}
use Rattle.controller_messages.specs.declared.request.Request.TheVariants as asks
use Rattle.controller_messages.specs.declared.setup.Setup.{Setup}
use Rattle.controller_messages.specs.Access.{Accessing}
use Rattle.controller_messages.specs.Sent.{Sent, Requests, bytes_of, identify_multicast}
use Rattle.controller_core.specs.declared.stored.event.Event.TheVariants.{Tick}
use Rattle.controller_core.specs.declared.stored.state.Cause.{Cause}
use Rattle.controller_core.specs.declared.stored.state.Cause.TheVariants.{NoProgress}
use Rattle.controller_core.specs.declared.stored.state.State.{State}
use Rattle.controller_core.specs.declared.stored.state.State.TheVariants.{Looking, Addressing, Connecting, Writing, Ending, Waiting, Exchanging, Ended}
use Rattle.controller_core.specs.start_up.Requests.{next_sequence}
use Rattle.controller_core.specs.stored.State.{Controlling, Live}
use Rattle.controller_core.specs.Machine.{Turn, acks_in, accesses_by, brought, due_frames, end_of, flow_later, flowed, gone_on, is_again, is_spent, later, outputs_of, pending_by, plugs_by, quit, requests_of, step_of, ticked, where_due}
use Rattle.field_words.specs.Cyclic.{IsCyclic, IsProvided}
use Rattle.end_laws.specs.turns.Beside.{flow_begun}
use Rattle.end_laws.specs.cyclic.Controller.{IsSized, cycle_in, provider_in}
use Rattle.end_laws.specs.cyclic.Ends.{AreProvided}
use Rattle.end_laws.proofs.HearingGiven.{DataIsRead}
use Rattle.end_laws.proofs.SendingSizes.{body_few}
use Rattle.end_laws.proofs.TurnsBeside.{begun_beside, flows, gone_is, unit_begun}
use Rattle.end_laws.proofs.CyclicSending.{all_both, datagram_alone, plain_alone, provided, tagged_alone}

multicast_six : length identify_multicast.octets ≡ 6
unfolding identify_multicast
multicast_six = refl

alarm_apart : (priority : Priority) (kind : PduType) → is_cyclic (frame_id_at priority kind) ≡ false
alarm_apart Low kind = refl
alarm_apart High pdu.Data = refl
alarm_apart High pdu.Nack = refl
alarm_apart High pdu.Ack = refl
alarm_apart High pdu.Error = refl

alarm_small : (priority : Priority) (kind : PduType) → frame_id_at priority kind < 65536
alarm_small Low kind = omega arith
alarm_small High pdu.Data = omega arith
alarm_small High pdu.Nack = omega arith
alarm_small High pdu.Ack = omega arith
alarm_small High pdu.Error = omega arith

module _ (data_read : DataIsRead) (old : Controlling) (sized : IsSized old) where
  abbrev setup : Setup
  setup = old.setup

  abbrev live : Live
  live = old.live

  -- What is shown of a message: if it is a cyclic frame, it is one of the outputs.
  abbrev IsFine : Sent → Type 0
  IsFine message = IsCyclic (bytes_of setup message) → IsProvided (provider_in old) (cycle_in old) (bytes_of setup message)

  abbrev AreFine : List Sent → Type 0
  AreFine messages = AllByRecursion IsFine messages

  fine_both : (one more : List Sent) → AreFine one → AreFine more → AreFine (one ++ more)
  fine_both one more first others = all_both IsFine one more first others

  fine_due : (b : Bool) (messages : List Sent) → AreFine messages → AreFine (where_due b messages)
  fine_due true messages fine = fine
  fine_due false messages fine = tt

  fine_if : (b : Bool) (one other : List Sent) → AreFine one → AreFine other → AreFine (if b then one else other)
  fine_if true one other first second = first
  fine_if false one other first second = second

  request_fine : (request : Request) → IsFine (Requests live.device request)
  request_fine asks.Identify cyclic =
      absurd (plain_alone identify_multicast setup.plan.controller.mac multicast_six sized.own 0xFEFE _ (omega arith) refl cyclic)
  request_fine asks.Address cyclic = absurd (plain_alone live.device setup.plan.controller.mac sized.device sized.own 0xFEFD _ (omega arith) refl cyclic)
  request_fine asks.Connect cyclic = absurd (datagram_alone live.device setup.plan.controller.mac sized.device sized.own _ _ _ cyclic)
  request_fine (asks.Write number) cyclic = absurd (datagram_alone live.device setup.plan.controller.mac sized.device sized.own _ _ _ cyclic)
  request_fine (asks.WriteAfter number tries) cyclic = absurd (datagram_alone live.device setup.plan.controller.mac sized.device sized.own _ _ _ cyclic)
  request_fine asks.PrmEnd cyclic = absurd (datagram_alone live.device setup.plan.controller.mac sized.device sized.own _ _ _ cyclic)
  request_fine (asks.PrmEndAfter tries) cyclic = absurd (datagram_alone live.device setup.plan.controller.mac sized.device sized.own _ _ _ cyclic)
  request_fine (asks.Release sequence) cyclic = absurd (datagram_alone live.device setup.plan.controller.mac sized.device sized.own _ _ _ cyclic)

  requests_fine : (asked : Option Request) → AreFine (requests_of live.device asked)
  requests_fine None = tt
  requests_fine (Some request) = (request_fine request, tt)

  -- ---- a relation that is established: its exchange, and a turn of a place that may have begun, after a unit

  module _ (waited : ℕ) (places : Told) (access : Accessing) where
    abbrev after : Live
    after = record (flow_later live) { waited = waited; places = places; access = access }

    acks_fine : (priority : Priority) (ack : Option AlarmAck) → AreFine (acks_in after priority ack)
    acks_fine priority None = tt
    acks_fine priority (Some ack) = (
      λ cyclic.
          absurd (tagged_alone live.cyclic.route.partner setup.plan.controller.mac sized.partner sized.own _ (frame_id_at priority pdu.Data) _ (alarm_small priority pdu.Data)
          (alarm_apart priority pdu.Data) cyclic),
      tt,
    )

    plugs_fine : (request : Option PlugRequest) → AreFine (plugs_by live.device request)
    plugs_fine None = tt
    plugs_fine (Some request) = (λ cyclic. absurd (datagram_alone live.device setup.plan.controller.mac sized.device sized.own _ _ _ cyclic), tt)

    accesses_fine : (octets : List ℕ) (request : Option RecordRequest) → AreFine (accesses_by live.device octets request)
    accesses_fine octets None = tt
    accesses_fine octets (Some request) = (λ cyclic. absurd (datagram_alone live.device setup.plan.controller.mac sized.device sized.own _ _ _ cyclic), tt)

    pending_fine : (asked : Option Request) → AreFine (pending_by after asked)
    pending_fine (Some request) = (request_fine request, tt)
    pending_fine None = fine_if (is_some access.plug) _ _ (plugs_fine access.plug) (accesses_fine access.octets access.waiting)

    outputs_fine : AreFine (outputs_of after)
    outputs_fine = (
      λ cyclic.
          provided data_read setup.plan.controller.mac live.cyclic.route in_order live.cyclic.shown ((live.units + 1) % 65536)
          (record {
            destination = sized.partner;
            source = sized.own;
            tag = sized.sent_tag;
            content = (sized.sent_id, body_few live.cyclic.shown ((live.units + 1) % 65536) sized.few);
          }) (mod-lt (live.units + 1) {m = 65536} (omega arith)),
      tt,
    )

    due_fine : (high low request cyclic : Bool) → AreFine (due_frames after high low request cyclic)
    due_fine high low request cyclic =
        fine_both _ _ (fine_due high _ (acks_fine High (end_of after High).confirming))
        (fine_both _ _ (fine_due low _ (acks_fine Low (end_of after Low).confirming))
        (fine_both _ _ (fine_due request _ (pending_fine live.asked)) (fine_due cyclic _ outputs_fine)))

    flowed_fine : (ending : Option Abort)
        → AreFine (flowed after (due live.alarms.sending) (due live.low_alarms.sending) (is_again live) (brought live) ending).sent
    flowed_fine (Some reason) = (
      λ cyclic.
          absurd (tagged_alone live.cyclic.route.partner setup.plan.controller.mac sized.partner sized.own _ (frame_id_of pdu.Error) _ (alarm_small High pdu.Error)
          (alarm_apart High pdu.Error) cyclic),
      tt,
    )
    flowed_fine None = due_fine _ _ _ _

  -- ---- the unit

  relation_fine : AreFine (flowed (flow_begun setup live) (due live.alarms.sending) (due live.low_alarms.sending) (is_again live) (brought live) (brought live).ending).sent
  relation_fine =
      let over = flow_begun setup live in
      subst (λ (l : Live). AreFine (flowed l (due live.alarms.sending) (due live.low_alarms.sending) (is_again live) (brought live) (brought live).ending).sent)
      (sym (begun_beside setup (flow_later live) over (flows setup live))) (flowed_fine over.waited over.places over.access (brought live).ending)

  gone_fine : AreFine (gone_on (unit_begun setup live) (is_again live)).sent
  gone_fine = subst (λ (t : Turn). AreFine t.sent) (sym (gone_is setup live)) (by_relation live.stands)
    where
      by_relation : (b : Bool)
          → AreFine (if b then flowed (flow_begun setup live) (due live.alarms.sending) (due live.low_alarms.sending) (is_again live) (brought live) (brought live).ending
          else record { live = unit_begun setup live; sent = where_due (is_again live) (requests_of live.device live.asked) }).sent
      by_relation true = relation_fine
      by_relation false = fine_due (is_again live) _ (requests_fine live.asked)

  released_fine : IsFine (Requests live.device (asks.Release (next_sequence setup.plan live.access.calls live.asked)))
  released_fine = request_fine (asks.Release (next_sequence setup.plan live.access.calls live.asked))

  quit_fine : (cause : Cause) (phase : State) → AreFine (quit setup cause (later live) phase).sent
  quit_fine cause Looking = tt
  quit_fine cause Addressing = tt
  quit_fine cause (Ended before) = tt
  quit_fine cause Connecting = (released_fine, tt)
  quit_fine cause Writing = (released_fine, tt)
  quit_fine cause Ending = (released_fine, tt)
  quit_fine cause Waiting = (released_fine, tt)
  quit_fine cause Exchanging = (released_fine, tt)

  unit_fine : AreFine (ticked setup live).sent
  unit_fine = by_patience (is_spent live)
    where
      by_patience : (b : Bool) → AreFine (if b then quit setup NoProgress (later live) live.phase else gone_on (unit_begun setup live) (is_again live)).sent
      by_patience true = quit_fine NoProgress live.phase
      by_patience false = gone_fine

  frames_provided : (messages : List Sent) → AreFine messages → AreProvided (provider_in old) (cycle_in old) (map (bytes_of setup) messages)
  frames_provided [] fine = tt
  frames_provided (message ∷ messages) fine = (fine.0, frames_provided messages fine.1)

  pub sends_in : AreProvided (provider_in old) (cycle_in old) (step_of old Tick).frames
  unfolding step_of
  sends_in = frames_provided (ticked setup live).sent unit_fine
