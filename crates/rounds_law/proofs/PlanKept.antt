-- What is plugged at a device stays while its application says nothing: no frame and no unit of time changes it.
use Rattle.std.proofs.lemmas.Bool.{cond_both}
use Rattle.std.proofs.Common.{◌≡◌, ◌&&◌, ◌||◌, ◌==◌, ℕ, List, [], ◌∷◌, Result, Ok, Err, sym, ap, subst, ◌∙◌}
use Rattle.std.specs.Prelude.{nat_eq}
use Rattle.std.specs.Cmp.Lexicographic.{pointwise}
use Rattle.pn_values.specs.declared.identity.Identity.{Identity}
use Rattle.pn_values.specs.declared.mac.Mac.{Mac}
use Rattle.pn_values.specs.declared.real.Real.{Real}
use Rattle.frame_codec.specs.declared.fault.FrameFault.{FrameFault}
use Rattle.frame_codec.specs.Calls.{call_port}
use Rattle.frame_codec.specs.FrameId.{is_alarm, is_cyclic}
use Rattle.frame_codec.specs.Frame.{frame_of}
use Rattle.frame_codec.specs.Meaning.{Meaning, Content, RealTime, ArpPacket, UdpDatagram}
use Rattle.dcp_core.specs.declared.request.DcpFault.{DcpFault}
use Rattle.dcp_core.specs.Request.{Asked}
use Rattle.dcp_core.specs.Reading.{request_of}
use Rattle.settings_journal.specs.settings_store.Machine.{Outcome, carried}
use Rattle.pn_alarms.specs.declared.fault.AlarmFault.{AlarmFault}
use Rattle.pn_alarms.specs.declared.message.Notice.TheVariants as message
use Rattle.pn_alarms.specs.declared.pdu.Header.{Header}
use Rattle.diagnosis.specs.declared.reports.priority.Priority.{Priority}
use Rattle.diagnosis.specs.declared.reports.priority.Priority.TheVariants.{High, Low}
use Rattle.diagnosis.specs.reports.Message.{low_message_of}
use Rattle.diagnosis.specs.reports.Priority.{priority_of}
use Rattle.pn_alarms.specs.Message.{ToDevice, message_of}
use Rattle.flash_model.specs.declared.flash.Flash.{Ghosts as Flash}
use Rattle.device_frames.specs.Heard.{Heard, Ticks, Unreadable, Elsewhere, Asks, Resolves, Reported, Cyclic, Alarms, LowReplies, LowConfirms, Met, Applied}
use Rattle.device_frames.specs.Heard.{broadcast, heard_alarm, heard_content, heard_frame, heard_low, heard_of, heard_reply, heard_request, is_own, is_taken}
use Rattle.device_core.specs.State.{Live, State, Station}
use Rattle.device_core.specs.Handled.{handled}
use Rattle.device_core.specs.Machine.{finished, handled_step, heard_step, items_in}
use Rattle.device_core.specs.Local.{IsRealBehind, OnlyPullsAndPlugsChangeModules}
use Rattle.controller_messages.specs.declared.setup.Setup.{Setup}
use Rattle.end_laws.specs.hearing.Hearing.{comes}
use Rattle.rounds_law.specs.Rounds.{Goes, HearsAll, Net, Round}
use Rattle.rounds_law.specs.Start.{IsOfPlan}

-- ---- what is heard without an application

-- Nothing that an application says.
abbrev pub IsUnsaid : Heard → Type 0
IsUnsaid (Applied said) = ⊥
IsUnsaid heard = Unit {0}

kept_by : (heard : Heard) (before after : Real) → IsUnsaid heard → IsRealBehind heard before after → after ≡ before
kept_by (Asks asker request) before after unsaid same = same
kept_by (Resolves asker packet) before after unsaid same = same
kept_by (Reported caller address said) before after unsaid same = same
kept_by (Alarms source header message) before after unsaid same = same
kept_by (LowReplies source header message) before after unsaid same = same
kept_by (LowConfirms source header message) before after unsaid same = same
kept_by (Cyclic source frame_id body) before after unsaid same = same
kept_by (Met peer) before after unsaid same = same
kept_by (Applied said) before after unsaid same = absurd unsaid
kept_by Ticks before after unsaid same = same
kept_by Unreadable before after unsaid same = same
kept_by Elsewhere before after unsaid same = same

request_unsaid : (source : Mac) (read : Result Asked DcpFault) → IsUnsaid (heard_request source read)
request_unsaid source (Ok request) = tt
request_unsaid source (Err fault) = tt

reply_unsaid : (source : Mac) (priority : Priority) (header : Header) (told : ToDevice) → IsUnsaid (heard_reply source priority header told)
reply_unsaid source Low header (message.Ack number) = tt
reply_unsaid source Low header (message.Data number ack) = tt
reply_unsaid source Low header message.Nack = tt
reply_unsaid source Low header (message.Abort status) = tt
reply_unsaid source High header told = tt

low_unsaid : (source : Mac) (read : Result (Header × ToDevice) AlarmFault) → IsUnsaid (heard_low source read)
low_unsaid source (Ok x) = tt
low_unsaid source (Err fault) = tt

alarm_unsaid : (source : Mac) (frame_id : ℕ) (body : List ℕ) (read : Result (Header × ToDevice) AlarmFault) → IsUnsaid (heard_alarm source frame_id body read)
alarm_unsaid source frame_id body (Ok x) = reply_unsaid source (priority_of frame_id) x.0 x.1
alarm_unsaid source frame_id body (Err fault) = low_unsaid source (low_message_of body)

content_unsaid : (identity : Identity) (destination source : Mac) (content : Content) → IsUnsaid (heard_content identity destination source content)
content_unsaid identity destination source (RealTime frame_id body) =
    cond_both (is_taken identity destination frame_id) _ _ IsUnsaid (λ _. request_unsaid source (request_of frame_id body))
    (λ _. cond_both (is_own identity destination && is_alarm frame_id) _ _ IsUnsaid (λ _. alarm_unsaid source frame_id body (message_of body))
    (λ _. cond_both (is_own identity destination && is_cyclic frame_id) _ _ IsUnsaid (λ _. tt) (λ _. tt)))
content_unsaid identity destination source (ArpPacket arp) =
    cond_both (is_own identity destination || pointwise nat_eq destination.octets broadcast) _ _ IsUnsaid (λ _. tt) (λ _. tt)
content_unsaid identity destination source (UdpDatagram from to body) =
    cond_both (is_own identity destination && to.port == call_port) _ _ IsUnsaid (λ _. tt) (λ _. tt)

read_unsaid : (identity : Identity) (read : Result Meaning FrameFault) → IsUnsaid (heard_frame identity read)
read_unsaid identity (Ok meaning) = content_unsaid identity meaning.destination meaning.source meaning.content
read_unsaid identity (Err fault) = tt

-- No frame is.
pub frame_unsaid : (identity : Identity) (octets : List ℕ) → IsUnsaid (heard_of identity (comes octets))
unfolding heard_of
frame_unsaid identity octets = read_unsaid identity (frame_of octets)

-- ---- a step, and a round

pub handled_stays : OnlyPullsAndPlugsChangeModules → (outcomes : List Outcome) (station : Station) (live : Live) (heard : Heard) → IsUnsaid heard
    → (handled_step outcomes station live (handled station live heard)).live.rest.real ≡ live.rest.real
unfolding handled_step
handled_stays modules outcomes station live heard unsaid =
    let answers = (carried outcomes live.values (items_in (handled station live heard))).answers in
    kept_by heard live.rest.real (finished station.identity live.rest (handled station live heard) answers).rest.real unsaid (modules station live answers heard)

step_stays : OnlyPullsAndPlugsChangeModules → (outcomes : List Outcome) (station : Station) (live : Live) (heard : Heard) → IsUnsaid heard
    → (heard_step outcomes station live heard).live.rest.real ≡ live.rest.real
unfolding heard_step
step_stays modules outcomes station live heard unsaid = handled_stays modules outcomes station live heard unsaid

module _ {F : Type 0} {S : ℕ} (as_flash : Flash F S) (modules : OnlyPullsAndPlugsChangeModules) where
  -- What is plugged after a step.
  pub real_stays : (before : State F) (heard : Heard) (frames : List (List ℕ)) (after : State F) → IsUnsaid heard → Goes as_flash before heard frames after
      → after.live.rest.real ≡ before.live.rest.real
  real_stays before heard frames after unsaid goes =
      ap (λ (live : Live). live.rest.real) goes.steps.live ∙ step_stays modules goes.steps.outcomes before.station before.live heard unsaid

  all_stay : (before : State F) (frames sent : List (List ℕ)) (after : State F) → HearsAll as_flash before frames sent after
      → after.live.rest.real ≡ before.live.rest.real
  all_stay before [] sent after hears = ap (λ (device : State F). device.live.rest.real) hears.0
  all_stay before (octets ∷ frames) sent after hears =
      all_stay hears.0 frames hears.2 after hears.4
      ∙ real_stays before (heard_of before.station.identity (comes octets)) hears.1 hears.0 (frame_unsaid before.station.identity octets) hears.3

  stations_stay : (before : State F) (frames sent : List (List ℕ)) (after : State F) → HearsAll as_flash before frames sent after
      → after.station ≡ before.station
  stations_stay before [] sent after hears = ap (λ (device : State F). device.station) hears.0
  stations_stay before (octets ∷ frames) sent after hears = stations_stay hears.0 frames hears.2 after hears.4 ∙ hears.3.steps.same

  module _ (setup : Setup) where
    -- A device that is the plan's, and another state of it.
    pub plan_moved : (before after : State F) → after.station ≡ before.station → after.live.rest.real ≡ before.live.rest.real
        → IsOfPlan setup before.station before.live.rest.real → IsOfPlan setup after.station after.live.rest.real
    plan_moved before after station real plan =
        subst (λ (s : Station). IsOfPlan setup s after.live.rest.real) (sym station) (subst (λ (r : Real). IsOfPlan setup before.station r) (sym real) plan)

    -- The device of a plan is that after a step.
    pub step_of_plan : (before : State F) (heard : Heard) (frames : List (List ℕ)) (after : State F) → IsUnsaid heard → Goes as_flash before heard frames after
        → IsOfPlan setup before.station before.live.rest.real → IsOfPlan setup after.station after.live.rest.real
    step_of_plan before heard frames after unsaid goes plan =
        plan_moved before after goes.steps.same (real_stays before heard frames after unsaid goes) plan

    -- And after a round.
    pub round_of_plan : (net next : Net F) → Round as_flash net next → IsOfPlan setup net.device.station net.device.live.rest.real
        → IsOfPlan setup next.device.station next.device.live.rest.real
    round_of_plan net next round plan =
        step_of_plan round.device Ticks next.to_controller next.device tt round.unit
        (plan_moved net.device round.device (stations_stay net.device net.to_device round.answers round.device round.arrives)
        (all_stay net.device net.to_device round.answers round.device round.arrives) plan)
