-- Beside the exchange of a controller at most one request waits: after a plug, or of the application.
use Rattle.std.proofs.Common.{◌≡◌, ◌⊎◌, inl, inr, ℕ, Bool, true, false, [], ◌∷◌, Option, Some, None, refl, sym, ap, subst, ◌∙◌}
use Rattle.std.specs.Prelude.{if◌then◌else◌}
use Rattle.pn_alarms.specs.declared.receiver.Taken.{Taken}
use Rattle.pn_alarms.specs.declared.receiver.Taken.TheVariants.{New, Again, Refused}
use Rattle.pn_alarms.specs.Ends.{ControllerEnd}
use Rattle.pn_alarms.specs.Receiver.{taken_as}
use Rattle.record_blocks.specs.declared.alarm_notification.AlarmNotification.{AlarmNotification}
use Rattle.diagnosis.specs.declared.reports.priority.Priority.{Priority}
use Rattle.diagnosis.specs.declared.reports.priority.Priority.TheVariants.{High, Low}
use Rattle.diagnosis.specs.declared.reports.report.Report.{Report}
use Rattle.controller_messages.specs.declared.plug_request.PlugRequest.{PlugRequest}
use Rattle.controller_messages.specs.declared.setup.Setup.{Setup}
use Rattle.controller_messages.specs.Access.{Accessing, unplugged}
use Rattle.controller_messages.specs.PlugRequests.{plug_answer}
use Rattle.controller_messages.specs.Sent.{Agrees}
use Rattle.controller_core.specs.declared.stored.event.Event.{Event}
use Rattle.controller_core.specs.stored.Alarms.{ack_of, kept_alarm}
use Rattle.controller_core.specs.stored.State.{Live}
use Rattle.controller_core.specs.Machine.{Turn, acking, after_turn, asks_next, behind_ack, behind_data, can_begin, end_of, flow_later, is_end_of}
use Rattle.controller_core.specs.Machine.{keeping, plug_readied, stays, taken, turn_of, with_end}
use Rattle.end_laws.specs.turns.Beside.{IsBegun, MayBegin, MayFollow, flow_begun}
use Rattle.end_laws.specs.turns.Turns as kinds
use Rattle.end_laws.specs.turns.Turns.{Came, IsKind, IsTurn, Kind, came_by, turn_by}
use Rattle.plug_ends.proofs.CallsTurns.{IsAlone, none_some}

same_alone : (before after : Live) → after.access ≡ before.access → IsAlone before → IsAlone after
same_alone before after same (inl none) = inl (ap (λ (a : Accessing). a.plug) same ∙ none)
same_alone before after same (inr none) = inr (ap (λ (a : Accessing). a.waiting) same ∙ none)

pub end_access : (before : Live) (priority : Priority) (end : ControllerEnd) → (with_end before priority end).access ≡ before.access
end_access before High end = refl
end_access before Low end = refl

kept_access : (before : Live) (priority : Priority) (alarm : AlarmNotification) (structure : Option ℕ)
    → (keeping before priority alarm structure).access ≡ before.access
kept_access before High alarm structure = refl
kept_access before Low alarm structure = refl

pub taken_access : (before : Live) (report : Report) (as_what : Taken) → (taken before report as_what).live.access ≡ before.access
taken_access before report New =
    kept_access (acking before report.priority (ack_of report.notification)) report.priority (kept_alarm report.notification) report.user_structure
    ∙ end_access before report.priority _
taken_access before report Again = refl
taken_access before report Refused = refl

waiting_free : (live : Live) (request : PlugRequest) → live.access.plug ≡ Some request → IsAlone live → live.access.waiting ≡ None
waiting_free live request e (inl none) = absurd (none_some request (sym none ∙ e))
waiting_free live request e (inr none) = none

begun_alone : (setup : Setup) (before after : Live) → IsBegun setup before after → IsAlone after
begun_alone setup before after begun = inr (ap (λ (a : Accessing). a.waiting) begun.access ∙ begun.waiting)

module _ (setup : Setup) (follows : (could : Bool) (turn : Turn) → MayFollow setup turn (after_turn setup could turn))
    (flows : (live : Live) → MayBegin setup (flow_later live) (flow_begun setup live)) where
  followed_alone : (could : Bool) (turn : Turn) → IsAlone turn.live → IsAlone (after_turn setup could turn).live
  followed_alone could turn alone = by_follow (follows could turn)
    where
      by_follow : MayFollow setup turn (after_turn setup could turn) → IsAlone (after_turn setup could turn).live
      by_follow (inl same) = subst (λ (t : Turn). IsAlone t.live) (sym same) alone
      by_follow (inr more) = begun_alone setup turn.live (after_turn setup could turn).live more.begun

  flow_alone : (live : Live) → IsAlone live → IsAlone (flow_begun setup live)
  flow_alone live alone = by_begin (flows live)
    where
      by_begin : MayBegin setup (flow_later live) (flow_begun setup live) → IsAlone (flow_begun setup live)
      by_begin (inl same) = subst (λ (l : Live). IsAlone l) (sym same) alone
      by_begin (inr begun) = begun_alone setup (flow_later live) (flow_begun setup live) begun

  unplug_if : (b : Bool) (access : Accessing) → (access.plug ≡ None) ⊎ (access.waiting ≡ None)
      → ((if b then unplugged access else access).plug ≡ None) ⊎ ((if b then unplugged access else access).waiting ≡ None)
  unplug_if true access alone = inl refl
  unplug_if false access alone = alone

  kind_alone : (live : Live) (came : Came) (kind : Kind) → IsKind setup live came kind → IsAlone live → IsAlone (turn_by setup live kind).live
  kind_alone live came kinds.Rests holds alone = alone
  kind_alone live came (kinds.Connects source) holds alone = alone
  kind_alone live came (kinds.Addresses source) holds alone = alone
  kind_alone live came (kinds.Ends cause refusal refused units) holds alone = inl refl
  kind_alone live came (kinds.Releases cause refusal refused units) holds alone = inl refl
  kind_alone live came (kinds.Relates places chosen) holds alone = alone
  kind_alone live came (kinds.Writes number tries) holds alone = alone
  kind_alone live came (kinds.Skips number tries refused status) holds alone = alone
  kind_alone live came (kinds.Tries next status) holds alone = alone
  kind_alone live came (kinds.Waits tries) holds alone = alone
  kind_alone live came kinds.Forgets holds alone = alone
  kind_alone live came (kinds.Begins caller call block) holds alone = alone
  kind_alone live came (kinds.Repeats caller call block) holds alone = alone
  kind_alone live came (kinds.Follows source frame_id body) holds alone = alone
  kind_alone live came (kinds.Takes number report) holds alone =
      followed_alone (can_begin live) (taken (behind_data live report.priority number) report (taken_as (end_of live report.priority).seen number))
      (same_alone live (taken (behind_data live report.priority number) report (taken_as (end_of live report.priority).seen number)).live
      (taken_access (behind_data live report.priority number) report (taken_as (end_of live report.priority).seen number)
      ∙ end_access live report.priority _) alone)
  kind_alone live came (kinds.IsAcked priority number) holds alone = same_alone live (behind_ack live priority number) (end_access live priority _) alone
  kind_alone live came (kinds.Gives slot subslot value) holds alone = alone
  kind_alone live came (kinds.GivesStatus slot subslot is_good) holds alone = alone
  kind_alone live came (kinds.Asks request octets) holds alone = inl holds.4
  kind_alone live came (kinds.IsReplied refusal access) holds alone = followed_alone (can_begin live)
      (stays (record live { refusal = refusal; access = access })) (inr holds.1)
  kind_alone live came (kinds.IsPlugAnswered refusal refused waited places access) holds alone =
      followed_alone (can_begin live)
      (asks_next (record live { refusal = refusal; refused_record = refused; waited = waited; places = places; access = access }))
      (inr (holds.1 ∙ waiting_free live holds.4 holds.5 alone))
  kind_alone live came (kinds.IsPlugReadied caller call block) holds alone = followed_alone (can_begin live) (record {
    live = plug_readied live block.alarm_sequence_number;
    sent = Agrees caller (plug_answer call block) ∷ [];
  }) (unplug_if (is_end_of block.alarm_sequence_number live.access.plug) live.access alone)
  kind_alone live came kinds.Flows holds alone = flow_alone live alone
  kind_alone live came (kinds.Breaks reason) holds alone = inl refl
  kind_alone live came kinds.Idles holds alone = alone

  pub event_alone : (live : Live) (one : Event) → IsTurn setup live (came_by setup one) (turn_of setup live one) → IsAlone live
      → IsAlone (turn_of setup live one).live
  event_alone live one turn alone = subst (λ (t : Turn). IsAlone t.live) (sym turn.is) (kind_alone live (came_by setup one) turn.kind turn.holds alone)
