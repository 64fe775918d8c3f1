-- What a cyclic frame, an alarm that is raised, and a PDU do, if something changes and if nothing does.
use Rattle.std.proofs.Common.{◌≡◌, ◌≢◌, ℕ, Bool, cond, true, false, List, [], Option, Some, None, is_some, refl, sym, ap, ◌∙◌}
use Rattle.pn_values.specs.declared.mac.Mac.{Mac}
use Rattle.pn_alarms.specs.declared.device.PduFate.TheVariants as fate
use Rattle.pn_alarms.specs.Message.{ToDevice}
use Rattle.cyclic_data.specs.declared.exchange.received.Received.{Received}
use Rattle.cyclic_data.specs.declared.exchange.received.Received.TheVariants.{Foreign, Short, Stale, Taken}
use Rattle.relations.specs.exchange.Flow.{Flow}
use Rattle.relations.specs.exchange.Received.{behind_frame, received_as}
use Rattle.relations.specs.RelationState.{RelationState, flow_of, is_preparing, phase_of}
use Rattle.relations.specs.Phases.{Prepared, updated}
use Rattle.relations.specs.Exchanged.{becoming, heard_by, hearing, received_by, receiving, receiving_as}
use Rattle.device_frames.specs.declared.note.Note.TheVariants.{Done, Refused}
use Rattle.device_core.specs.State.{Station, Live}
use Rattle.device_core.specs.Handled.{Refuses, goes_on_with, handled_cyclic, handled_input, handled_notice, handled_ready, handled_received}
use Rattle.device_frames.specs.Relation.{alarms_of, ready_calls}
use Rattle.device_core.specs.Machine.{end_of}

-- A cyclic frame that is not accepted changes nothing.
left_by : (one : Received) (flow : Flow) (link : Option RelationState) → one ≢ Taken → updated (receiving_as one flow) link ≡ link
left_by Foreign flow link untaken = refl
left_by Short flow link untaken = refl
left_by Stale flow link untaken = refl
left_by Taken flow link untaken = absurd (untaken refl)

stays_untaken : (source : Mac) (frame_id : ℕ) (body : List ℕ) (link : Option RelationState) → received_by source frame_id body link ≢ Taken → updated (receiving source frame_id body link) link ≡ link
stays_untaken source frame_id body None untaken = refl
stays_untaken source frame_id body (Some link) untaken =
    left_by (received_as link.flow source frame_id body) (behind_frame link.flow source frame_id body) (Some link) untaken

-- The rest after it, for any outcome.
received_leaves : (station : Station) (live : Live) (one : Received) (now : Option RelationState) → (one ≢ Taken → now ≡ live.rest.link)
    → (end_of station live (handled_received live one now)).rest ≡ record live.rest { link = now }
received_leaves station live Foreign now stays = ap (λ l. record live.rest { link = l }) (sym (stays (λ e. cc)))
received_leaves station live Short now stays = ap (λ l. record live.rest { link = l }) (sym (stays (λ e. cc)))
received_leaves station live Stale now stays = ap (λ l. record live.rest { link = l }) (sym (stays (λ e. cc)))
received_leaves station live Taken now stays = refl

pub cyclic_leaves : (station : Station) (live : Live) (source : Mac) (frame_id : ℕ) (body : List ℕ)
    → (end_of station live (handled_cyclic live source frame_id body)).rest ≡ record live.rest { link = updated (receiving source frame_id body live.rest.link) live.rest.link }
cyclic_leaves station live source frame_id body =
    received_leaves station live (received_by source frame_id body live.rest.link) (updated (receiving source frame_id body live.rest.link) live.rest.link)
    (stays_untaken source frame_id body live.rest.link)

-- One that is not done changes nothing.
undone_by : (station : Station) (live : Live) (one : Received) (now : Option RelationState) → (one ≢ Taken → now ≡ live.rest.link)
    → (end_of station live (handled_received live one now)).note ≢ Done → record live.rest { link = now } ≡ live.rest
undone_by station live Foreign now stays undone = ap (λ l. record live.rest { link = l }) (stays (λ e. cc))
undone_by station live Short now stays undone = ap (λ l. record live.rest { link = l }) (stays (λ e. cc))
undone_by station live Stale now stays undone = ap (λ l. record live.rest { link = l }) (stays (λ e. cc))
undone_by station live Taken now stays undone = absurd (undone refl)

pub cyclic_undone : (station : Station) (live : Live) (source : Mac) (frame_id : ℕ) (body : List ℕ)
    → (end_of station live (handled_cyclic live source frame_id body)).note ≢ Done → (end_of station live (handled_cyclic live source frame_id body)).rest ≡ live.rest
cyclic_undone station live source frame_id body undone =
    cyclic_leaves station live source frame_id body
    ∙ undone_by station live (received_by source frame_id body live.rest.link) (updated (receiving source frame_id body live.rest.link) live.rest.link)
    (stays_untaken source frame_id body live.rest.link) undone

-- An alarm that is refused changes nothing, and one that is raised is sent.
pub notice_refused : (station : Station) (live : Live) (flow : Option Flow) → is_some flow ≡ false
    → end_of station live (handled_notice live flow) ≡ record { rest = live.rest; sent = []; note = Refused }
notice_refused station live (Some flow) none = cc
notice_refused station live None none = refl

pub notice_raised : (station : Station) (live : Live) (flow : Option Flow) → is_some flow ≡ true
    → end_of station live (handled_notice live flow)
    ≡ record { rest = record live.rest { link = updated (becoming flow) live.rest.link }; sent = alarms_of (flow_of (updated (becoming flow) live.rest.link)); note = Done }
notice_raised station live (Some flow) some = refl
notice_raised station live None some = cc

pub notice_leaves : (station : Station) (live : Live) (flow : Option Flow) → is_some flow ≡ false
    → (end_of station live (handled_notice live flow)).rest ≡ record live.rest { link = updated (becoming flow) live.rest.link }
notice_leaves station live (Some flow) none = cc
notice_leaves station live None none = refl

-- The rest after an input is given, or refused.
pub input_leaves : (station : Station) (live : Live) (flow : Option Flow)
    → (end_of station live (handled_input live flow)).rest ≡ record live.rest { link = updated (becoming flow) live.rest.link }
input_leaves station live (Some flow) = refl
input_leaves station live None = refl

-- Its note.
pub input_done : (station : Station) (live : Live) (flow : Option Flow) → is_some flow ≡ true → (end_of station live (handled_input live flow)).note ≡ Done
input_done station live (Some flow) some = refl
input_done station live None some = cc

pub input_refused : (station : Station) (live : Live) (flow : Option Flow) → is_some flow ≡ false → (end_of station live (handled_input live flow)).note ≡ Refused
input_refused station live (Some flow) none = cc
input_refused station live None none = refl

-- The application is ready: it is refused if the relation does not wait for that, else ApplicationReady is sent.
ready_by : (station : Station) (live : Live) (b : Bool) → is_preparing (phase_of live.rest.link) ≡ b
    → end_of station live (handled_ready live)
    ≡ end_of station live (cond b (goes_on_with live (updated Prepared live.rest.link) (ready_calls live.values.running.suite.address (updated Prepared live.rest.link))) (Refuses Refused))
ready_by station live b is =
    ap (λ (c : Bool). end_of station live (cond c (goes_on_with live (updated Prepared live.rest.link) (ready_calls live.values.running.suite.address (updated Prepared live.rest.link))) (Refuses Refused))) is

pub ready_refused : (station : Station) (live : Live) → is_preparing (phase_of live.rest.link) ≡ false
    → end_of station live (handled_ready live) ≡ record { rest = live.rest; sent = []; note = Refused }
ready_refused station live none = ready_by station live false none

pub ready_counts : (station : Station) (live : Live) → is_preparing (phase_of live.rest.link) ≡ true
    → end_of station live (handled_ready live)
    ≡ record {
      rest = record live.rest { link = updated Prepared live.rest.link };
      sent = ready_calls live.values.running.suite.address (updated Prepared live.rest.link);
      note = Done;
    }
ready_counts station live waits = ready_by station live true waits

-- A PDU that is ignored changes nothing.
pub stays_ignored : (message : ToDevice) (link : Option RelationState) → heard_by message link ≡ fate.Ignored → updated (hearing message link) link ≡ link
stays_ignored message None ignored = refl
stays_ignored message (Some link) ignored = rw ignored refl
