-- The end of a controller is complete, however it was reached: its relation is over, and no request is active except
-- its Release.
use Rattle.std.proofs.Common.{◌≡◌, ◌⊎◌, inl, inr, ◌+◌, ◌++◌, ℕ, false, true, List, [], ◌∷◌, Option, Some, None, refl, sym, ap, subst, ◌∙◌}
use Rattle.record_blocks.specs.declared.alarm_notification.AlarmNotification.{AlarmNotification}
use Rattle.pn_alarms.specs.declared.receiver.Taken.{Taken}
use Rattle.pn_alarms.specs.declared.receiver.Taken.TheVariants.{New, Again, Refused}
use Rattle.diagnosis.specs.declared.reports.priority.Priority.{Priority}
use Rattle.diagnosis.specs.declared.reports.priority.Priority.TheVariants.{High, Low}
use Rattle.diagnosis.specs.declared.reports.report.Report.{Report}
use Rattle.pn_alarms.specs.Controller.{confirmed, with_ack, with_data}
use Rattle.pn_alarms.specs.Ends.{ControllerEnd}
use Rattle.pn_alarms.specs.Receiver.{taken_as}
use Rattle.plans.specs.declared.parts.Parts.{Parts}
use Rattle.controller_messages.specs.declared.setup.ControllerOptions.{ControllerOptions}
use Rattle.controller_messages.specs.declared.setup.Setup.{Setup}
use Rattle.controller_messages.specs.declared.plug_request.PlugRequest.{PlugRequest}
use Rattle.controller_messages.specs.declared.request.Request.{Request}
use Rattle.controller_messages.specs.declared.request.Request.TheVariants as asks
use Rattle.controller_messages.specs.Requests.{writing_from}
use Rattle.controller_messages.specs.PlugRequests.{plug_answer}
use Rattle.controller_messages.specs.Sent.{Sent, Agrees}
use Rattle.controller_core.specs.declared.stored.event.Event.{Event}
use Rattle.controller_core.specs.declared.stored.state.Cause.{Cause}
use Rattle.controller_core.specs.declared.stored.state.State.TheVariants.{Ended}
use Rattle.controller_core.specs.stored.State.{Controlling, Live}
use Rattle.controller_core.specs.stored.Alarms.{ack_of, kept_alarm}
use Rattle.controller_core.specs.Machine.{Turn, acking, after_turn, asks_next, behind_ack, behind_data, can_begin, confirming, diagnosing, end_of, first, flow_later, fresh_with, keeping, noted, over, plug_readied, released, standing, stays, step_of, taken, turn_of, with_end, writing}
use Rattle.controller_core.specs.stored.Cause.{cause_of}
use Rattle.controller_core.specs.stored.State.{phase_for}
use Rattle.controller_core.specs.start_up.Requests.{behind_write}
use Rattle.end_laws.specs.turns.Beside.{IsBegun, MayBegin, MayFollow, flow_begun}
use Rattle.end_laws.specs.turns.Ended.{HasEnded, may_release}
use Rattle.end_laws.specs.turns.Runs.{IsReached, behind_all}
use Rattle.end_laws.specs.turns.Turns.{Came, IsEnd, IsKind, IsReported, Kind, Rests, Connects, Addresses, Ends, Releases, Relates, Writes, Skips, Tries, Waits, Forgets, Begins, Repeats, Follows, Takes, IsAcked, Gives, GivesStatus, Asks, IsReplied, IsPlugAnswered, IsPlugReadied, Flows, Breaks, Idles, came_by, turn_by}
use Rattle.end_laws.proofs.TurnsBeside.{flows, follows}
use Rattle.end_laws.proofs.TurnsOneTurn.{event_is, is_over, not_over, unreported, tried_going}

-- After a turn the controller has not ended, or its end is complete.
pub record Kept (plan : Parts) (turn : Turn) : Type 0 where
  pub whole : (cause : Cause) → turn.live.phase ≡ Ended cause → IsEnd plan cause turn.live

same_cause : (mine cause : Cause) → Ended mine ≡ Ended cause → mine ≡ cause
same_cause mine cause e = cc

-- ---- the parts of a turn

-- What waits, waits as before, or no longer.
none_still : {A : Type 0} (before after : Option A) → (after ≡ before) ⊎ (after ≡ None) → before ≡ None → after ≡ None
none_still before after (inl as_before) none = as_before ∙ none
none_still before after (inr none) was = none

-- A turn that changes neither the phase, nor whether the relation is established, nor the active request, and makes no
-- request beside the exchange.
same : (plan : Parts) (live next : Live) (sent : List Sent) → next.phase ≡ live.phase → next.stands ≡ live.stands → next.asked ≡ live.asked
    → (next.access.waiting ≡ live.access.waiting) ⊎ (next.access.waiting ≡ None) → (next.access.plug ≡ live.access.plug) ⊎ (next.access.plug ≡ None)
    → Kept plan (stays live) → Kept plan (record { live = next; sent = sent })
same plan live next sent phase stands asked waits plugs k = record {
  whole = λ cause e. let i = k.whole cause (sym phase ∙ e) in
      record {
        phase = e;
        down = stands ∙ i.down;
        asked = subst (λ (o : Option Request). IsReported plan cause o) (sym asked) i.asked;
        idle = none_still live.access.waiting next.access.waiting waits i.idle;
        plug = none_still live.access.plug next.access.plug plugs i.plug;
      };
}

-- The turn of a place begins only while data is exchanged.
begun_kept : (setup : Setup) (before after : Live) (sent : List Sent) → IsBegun setup before after → Kept setup.plan (record { live = after; sent = sent })
begun_kept setup before after sent begun = record {
  whole = λ cause e. absurd (not_over after.phase cause (ap is_over (ap (λ (l : Live). l.phase) begun.beside ∙ begun.phase)) e);
}

follows_kept : (setup : Setup) (turn after : Turn) → MayFollow setup turn after → Kept setup.plan turn → Kept setup.plan after
follows_kept setup turn after (inl e) k = subst (λ (t : Turn). Kept setup.plan t) (sym e) k
follows_kept setup turn after (inr followed) k = record { whole = (begun_kept setup turn.live after.live after.sent followed.begun).whole }

after_kept : (setup : Setup) (live : Live) (turn : Turn) → Kept setup.plan turn → Kept setup.plan (after_turn setup (can_begin live) turn)
after_kept setup live turn k = follows_kept setup turn (after_turn setup (can_begin live) turn) (follows setup (can_begin live) turn) k

flows_kept : (setup : Setup) (before after : Live) (sent : List Sent) → MayBegin setup before after → Kept setup.plan (stays before)
    → Kept setup.plan (record { live = after; sent = sent })
flows_kept setup before after sent (inl e) k = record { whole = λ cause. subst (λ (l : Live). l.phase ≡ Ended cause → IsEnd setup.plan cause l) (sym e) (k.whole cause) }
flows_kept setup before after sent (inr begun) k = begun_kept setup before after sent begun

none_some : (request : PlugRequest) → None ≡ Some request → ⊥
none_some request e = cc

goes_on : (plan : Parts) (live : Live) (sent : List Sent) → is_over live.phase ≡ false → Kept plan (record { live = live; sent = sent })
goes_on plan live sent stands = record { whole = λ cause e. absurd (not_over live.phase cause stands e) }

-- No request is active any more.
unasked : (plan : Parts) (live : Live) → Kept plan (stays live) → Kept plan (stays (record live { asked = None }))
unasked plan live k = record { whole = λ cause e. let i = k.whole cause e in record { phase = e; down = i.down; asked = tt; idle = i.idle; plug = i.plug } }

ends : (plan : Parts) (mine : Cause) (live : Live) (sent : List Sent) → Kept plan (record { live = over mine live; sent = sent })
ends plan mine live sent = record { whole = λ cause e. record { phase = e; down = refl; asked = tt; idle = refl; plug = refl } }

releases : (setup : Setup) (mine : Cause) (live : Live) → may_release setup.plan mine ≡ true → Kept setup.plan (released setup mine live)
releases setup mine live reported = record {
  whole = λ cause e. record {
    phase = e;
    down = refl;
    asked = subst (λ (c : Cause). may_release setup.plan c ≡ true) (same_cause mine cause e) reported;
    idle = refl;
    plug = refl;
  };
}

-- ---- each kind

goes_by : (request : Request) → is_over (phase_for request) ≡ false
goes_by (asks.Write number) = refl
goes_by (asks.WriteAfter number tries) = refl
goes_by request = refl

writing_kept : (setup : Setup) (request : Request) (live : Live) → Kept setup.plan (writing setup request live)
writing_kept setup request live = goes_on setup.plan (writing setup request live).live (writing setup request live).sent (goes_by request)

-- An end of alarms, and an alarm that is stored, change none of these.
record IsAlike (live next : Live) : Type 0 where
  phase : next.phase ≡ live.phase
  stands : next.stands ≡ live.stands
  asked : next.asked ≡ live.asked
  waits : next.access.waiting ≡ live.access.waiting
  plugs : next.access.plug ≡ live.access.plug

alike : (live : Live) → IsAlike live live
alike live = record { phase = refl; stands = refl; asked = refl; waits = refl; plugs = refl }

end_alike : (live : Live) (priority : Priority) (end : ControllerEnd) → IsAlike live (with_end live priority end)
end_alike live High end = record { phase = refl; stands = refl; asked = refl; waits = refl; plugs = refl }
end_alike live Low end = record { phase = refl; stands = refl; asked = refl; waits = refl; plugs = refl }

keeping_alike : (live : Live) (priority : Priority) (alarm : AlarmNotification) (user_structure : Option ℕ) → IsAlike live (keeping live priority alarm user_structure)
keeping_alike live High alarm user_structure = record { phase = refl; stands = refl; asked = refl; waits = refl; plugs = refl }
keeping_alike live Low alarm user_structure = record { phase = refl; stands = refl; asked = refl; waits = refl; plugs = refl }

alike_on : (live next after : Live) → IsAlike live next → IsAlike next after → IsAlike live after
alike_on live next after one other = record {
  phase = other.phase ∙ one.phase;
  stands = other.stands ∙ one.stands;
  asked = other.asked ∙ one.asked;
  waits = other.waits ∙ one.waits;
  plugs = other.plugs ∙ one.plugs;
}

diagnosing_alike : (live after : Live) (report : Report) → IsAlike live after → IsAlike live (diagnosing report after)
diagnosing_alike live after report is = record { phase = is.phase; stands = is.stands; asked = is.asked; waits = is.waits; plugs = is.plugs }

confirming_alike : (live : Live) (report : Report) → IsAlike live (confirming live report)
confirming_alike live report =
    let acked = acking live report.priority (ack_of report.notification) in
    let kept = keeping acked report.priority (kept_alarm report.notification) report.user_structure in
    diagnosing_alike live kept report (alike_on live acked kept
    (end_alike live report.priority (confirmed (end_of live report.priority) (ack_of report.notification)))
    (keeping_alike acked report.priority (kept_alarm report.notification) report.user_structure))

alike_kept : (plan : Parts) (live next : Live) (sent : List Sent) → IsAlike live next → Kept plan (stays live) → Kept plan (record { live = next; sent = sent })
alike_kept plan live next sent is k = same plan live next sent is.phase is.stands is.asked (inl is.waits) (inl is.plugs) k

taken_kept : (plan : Parts) (live : Live) (report : Report) (as_what : Taken) → Kept plan (stays live) → Kept plan (taken live report as_what)
taken_kept plan live report New k = alike_kept plan live (confirming live report) (taken live report New).sent (confirming_alike live report) k
taken_kept plan live report Again k = alike_kept plan live live (taken live report Again).sent (alike live) k
taken_kept plan live report Refused k = alike_kept plan live live (taken live report Refused).sent (alike live) k

kept_by : (setup : Setup) (live : Live) (came : Came) (kind : Kind) → IsKind setup live came kind → Kept setup.plan (stays live) → Kept setup.plan (turn_by setup live kind)
kept_by setup live came Rests holds k = k
kept_by setup live came (Connects source) holds k = goes_on setup.plan _ _ refl
kept_by setup live came (Addresses source) holds k = goes_on setup.plan _ _ refl
kept_by setup live came (Ends cause refusal refused units) holds k = ends setup.plan cause (record live { refusal = refusal; refused_record = refused; units = units }) []
kept_by setup live came (Releases cause refusal refused units) holds k = releases setup cause (record live { refusal = refusal; refused_record = refused; units = units }) holds.1
kept_by setup live came (Relates places chosen) holds k = writing_kept setup (writing_from setup.plan 0) (standing setup (record live { places = places }) chosen)
kept_by setup live came (Writes number tries) holds k = writing_kept setup (behind_write setup.plan number tries) live
kept_by setup live came (Skips number tries refused status) holds k = writing_kept setup (behind_write setup.plan number tries) (noted status refused live)
kept_by setup live came (Tries next status) holds k = record {
  whole = λ cause e. absurd (unreported setup.plan holds.request cause (tried_going holds.request next holds.tries)
      (subst (λ (o : Option Request). IsReported setup.plan cause o) holds.stood (k.whole cause e).asked));
}
kept_by setup live came (Waits tries) holds k = goes_on setup.plan _ _ refl
kept_by setup live came Forgets holds k = unasked setup.plan live k
kept_by setup live came (Begins caller call block) holds k = goes_on setup.plan _ _ refl
kept_by setup live came (Repeats caller call block) holds k = same setup.plan live live _ refl refl refl (inl refl) (inl refl) k
kept_by setup live came (Follows source frame_id body) holds k = same setup.plan live _ _ refl refl refl (inl refl) (inl refl) k
kept_by setup live came (Takes number report) holds k =
    after_kept setup live (taken (behind_data live report.priority number) report (taken_as (end_of live report.priority).seen number))
    (taken_kept setup.plan (behind_data live report.priority number) report (taken_as (end_of live report.priority).seen number)
    (alike_kept setup.plan live (behind_data live report.priority number) [] (end_alike live report.priority (with_data (end_of live report.priority) number)) k))
kept_by setup live came (IsAcked priority number) holds k = alike_kept setup.plan live (behind_ack live priority number) [] (end_alike live priority (with_ack (end_of live priority) number)) k
kept_by setup live came (Asks request octets) holds k = goes_on setup.plan _ _ (ap is_over holds.0)
kept_by setup live came (IsReplied refusal access) holds k =
    let next : Live = record live { refusal = refusal; access = access } in
    after_kept setup live (stays next) (same setup.plan live next [] refl refl refl (inr holds.1) (inr holds.6) k)
kept_by setup live came (IsPlugAnswered refusal refused waited places access) holds k =
    let next : Live = record live { refusal = refusal; refused_record = refused; waited = waited; places = places; access = access } in
    after_kept setup live (asks_next next) (record { whole = λ cause e. absurd (none_some holds.4 (sym (k.whole cause e).plug ∙ holds.5)) })
kept_by setup live came (IsPlugReadied caller call block) holds k =
    after_kept setup live (record { live = plug_readied live block.alarm_sequence_number; sent = Agrees caller (plug_answer call block) ∷ [] })
    (goes_on setup.plan (plug_readied live block.alarm_sequence_number) _ (ap is_over holds.0))
kept_by setup live came (Gives slot subslot value) holds k = same setup.plan live _ _ refl refl refl (inl refl) (inl refl) k
kept_by setup live came (GivesStatus slot subslot is_good) holds k = same setup.plan live _ _ refl refl refl (inl refl) (inl refl) k
kept_by setup live came Flows holds k =
    flows_kept setup (flow_later live) (flow_begun setup live) _ (flows setup live) (same setup.plan live (flow_later live) [] refl refl refl (inl refl) (inl refl) k)
kept_by setup live came (Breaks reason) holds k = ends setup.plan (cause_of reason) (flow_begun setup live) _
kept_by setup live came Idles holds k = same setup.plan live _ _ refl refl refl (inl refl) (inl refl) k

turn_kept : (setup : Setup) (live : Live) (event : Event) → Kept setup.plan (stays live) → Kept setup.plan (turn_of setup live event)
turn_kept setup live event k =
    let turn = event_is setup live event in
    subst (λ (t : Turn). Kept setup.plan t) (sym turn.is) (kept_by setup live (came_by setup event) turn.kind turn.holds k)

-- ---- any events

step_kept : (controller : Controlling) (event : Event) → Kept controller.setup.plan (stays controller.live) → Kept (step_of controller event).controller.setup.plan (stays (step_of controller event).controller.live)
unfolding step_of
step_kept controller event k = record { whole = (turn_kept controller.setup controller.live event k).whole }

all_kept : (events : List Event) (controller : Controlling) → Kept controller.setup.plan (stays controller.live) → Kept (behind_all events controller).setup.plan (stays (behind_all events controller).live)
all_kept [] controller k = k
all_kept (event ∷ events) controller k = all_kept events (step_of controller event).controller (step_kept controller event k)

first_kept : (plan : Parts) (ar activity : List ℕ) (options : ControllerOptions) → Kept plan (stays (fresh_with plan ar activity options).live)
first_kept plan ar activity options = goes_on plan (first plan) [] refl

reached_kept : (controller : Controlling) → IsReached controller → Kept controller.setup.plan (stays controller.live)
reached_kept controller r =
    subst (λ (c : Controlling). Kept c.setup.plan (stays c.live)) (sym r.made) (all_kept r.events (fresh_with r.plan r.ar r.activity r.options) (first_kept r.plan r.ar r.activity r.options))

-- A controller that ended has a complete end.
pub whole_end : (cause : Cause) (controller : Controlling) → HasEnded cause controller → IsEnd controller.setup.plan cause controller.live
whole_end cause controller h = (reached_kept controller h.reached).whole cause h.phase

-- ---- a run goes on

runs_on : (events more : List Event) (controller : Controlling) → behind_all (events ++ more) controller ≡ behind_all more (behind_all events controller)
runs_on [] more controller = refl
runs_on (event ∷ events) more controller = runs_on events more (step_of controller event).controller

pub reached_on : (controller : Controlling) (event : Event) → IsReached controller → IsReached (step_of controller event).controller
reached_on controller event r = record {
  plan = r.plan;
  ar = r.ar;
  activity = r.activity;
  options = r.options;
  events = r.events ++ event ∷ [];
  made = ap (λ (c : Controlling). (step_of c event).controller) r.made ∙ sym (runs_on r.events (event ∷ []) (fresh_with r.plan r.ar r.activity r.options));
}
