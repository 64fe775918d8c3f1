-- What a frame does to a controller in any state, except while it exchanges data.
use Rattle.std.proofs.Common.{◌≡◌, ◌⊎◌, inl, inr, ◌≤◌, ◌+◌, ℕ, true, false, List, [], ◌∷◌, Option, Some, None, refl, sym, ap, subst, ◌∙◌, arith}
use Rattle.std.proofs.lemmas.Bool.{false≢true}
use Rattle.std.proofs.lemmas.Option.{none-some}
use Rattle.pn_values.specs.declared.mac.Mac.{Mac}
use Rattle.frame_codec.specs.Sendable.{IsMac}
use Rattle.dcp_core.specs.Response.{Answered}
use Rattle.record_blocks.specs.declared.alarm_notification.AlarmNotification.{AlarmNotification}
use Rattle.pn_alarms.specs.declared.receiver.Taken.{Taken}
use Rattle.pn_alarms.specs.declared.receiver.Taken.TheVariants.{New, Again, Refused}
use Rattle.pn_alarms.specs.Controller.{confirmed, with_ack, with_data}
use Rattle.pn_alarms.specs.Ends.{ControllerEnd}
use Rattle.pn_alarms.specs.Receiver.{taken_as}
use Rattle.diagnosis.specs.declared.reports.priority.Priority.{Priority}
use Rattle.diagnosis.specs.declared.reports.priority.Priority.TheVariants.{High, Low}
use Rattle.diagnosis.specs.declared.reports.report.Report.{Report}
use Rattle.cyclic_data.specs.declared.exchange.route.Route.{Route}
use Rattle.cyclic_data.specs.exchange.Cyclic.{Cyclic}
use Rattle.controller_messages.specs.declared.request.Request.{Request}
use Rattle.controller_messages.specs.declared.request.Request.TheVariants as asks
use Rattle.controller_messages.specs.declared.setup.ControllerOptions.{ControllerOptions}
use Rattle.controller_messages.specs.declared.setup.Setup.{Setup}
use Rattle.controller_messages.specs.Access.{Accessing}
use Rattle.controller_messages.specs.Heard.{Answers, Heard, Responds}
use Rattle.controller_messages.specs.Requests.{writing_from}
use Rattle.controller_messages.specs.Sent.{Requests, Sent}
use Rattle.controller_core.specs.declared.stored.state.State.{State}
use Rattle.controller_core.specs.declared.stored.state.State.TheVariants.{Looking, Addressing, Connecting, Writing, Ending, Exchanging}
use Rattle.controller_core.specs.start_up.Requests.{next_sequence, behind_write, end_after, write_after}
use Rattle.controller_core.specs.stored.Alarms.{ack_of, kept_alarm}
use Rattle.controller_core.specs.stored.State.{Live, left_in, phase_for}
use Rattle.controller_core.specs.Machine.{Turn, acking, after_turn, behind_ack, behind_data, can_begin, confirming, end_of, is_exchanging, keeping, stays, taken, with_end}
use Rattle.end_laws.specs.hearing.Stations.{IsSetup}
use Rattle.end_laws.specs.controller.Small.{IsSteady}
use Rattle.end_laws.specs.turns.Turns.{Hears, IsKind, Kind, Rests, Connects, Addresses, Ends, Releases, Relates, Writes, Skips, Waits, Forgets, Tries}
use Rattle.end_laws.specs.turns.Turns.{Begins, Repeats, Follows, Takes, IsAcked, Gives, GivesStatus, Asks, IsReplied, IsPlugAnswered, IsPlugReadied}
use Rattle.end_laws.specs.turns.Turns.{Flows, Breaks, Idles, turn_by}
use Rattle.end_laws.specs.sending.Sized.{IsFew}
use Rattle.rounds_law.specs.Anywhere.{IsFit}
use Rattle.rounds_law.proofs.AnywhereControllerKept.{IsKept, PhaseOf, asked_in, data_kept, written_in, ended_in}
use Rattle.rounds_law.proofs.AnywhereControllerLaws.{ControllerLaws}
use Rattle.rounds_law.proofs.AnywhereControllerReached.{heard_in, station_six}
use Rattle.rounds_law.proofs.AnywhereControllerSent.{Allows, AreSaid, IsChosenIn, agreed, request_said, taken_said}
use Rattle.rounds_law.proofs.AnywhereControllerSizes.{sequence_few, writing_few, behind_few, few_so}
use Rattle.rounds_law.proofs.AnywhereParts.{IsAnything, ahead_in}
use Rattle.rounds_law.proofs.ControllerPassingParts.{frame_on}
use Rattle.rounds_law.proofs.PlaceTurns.{elsewhere, unfollowed}

-- Any message may be sent.
pub all_allowed : (route : Route) → Allows IsAnything route
all_allowed route = record {
  agrees = λ caller answer. tt;
  cycles = λ shown counter. tt;
  confirms = λ priority header ack. tt;
  replies = λ priority header. tt;
  ends = λ header reason. tt;
}

-- In another state data is not exchanged.
pub not_exchanging : (phase : State) → (phase ≡ Exchanging → ⊥) → is_exchanging phase ≡ false
not_exchanging Exchanging other = absurd (other refl)
not_exchanging phase other = refl

-- ---- alarms

-- The same, except for the alarms.
pub record IsAlike (live after : Live) : Type 0 where
  pub phase : after.phase ≡ live.phase
  pub left : after.left ≡ live.left
  pub stands : after.stands ≡ live.stands
  pub cyclic : after.cyclic ≡ live.cyclic
  pub access : after.access ≡ live.access
  pub device : after.device ≡ live.device

alike : (live : Live) → IsAlike live live
alike live = record { phase = refl; left = refl; stands = refl; cyclic = refl; access = refl; device = refl }

alike_on : (live next after : Live) → IsAlike live next → IsAlike next after → IsAlike live after
alike_on live next after one other = record {
  phase = other.phase ∙ one.phase;
  left = other.left ∙ one.left;
  stands = other.stands ∙ one.stands;
  cyclic = other.cyclic ∙ one.cyclic;
  access = other.access ∙ one.access;
  device = other.device ∙ one.device;
}

end_alike : (live : Live) (priority : Priority) (end : ControllerEnd) → IsAlike live (with_end live priority end)
end_alike live High end = record { phase = refl; left = refl; stands = refl; cyclic = refl; access = refl; device = refl }
end_alike live Low end = record { phase = refl; left = refl; stands = refl; cyclic = refl; access = refl; device = refl }

keeping_alike : (live : Live) (priority : Priority) (alarm : AlarmNotification) (structure : Option ℕ) → IsAlike live (keeping live priority alarm structure)
keeping_alike live High alarm structure = record { phase = refl; left = refl; stands = refl; cyclic = refl; access = refl; device = refl }
keeping_alike live Low alarm structure = record { phase = refl; left = refl; stands = refl; cyclic = refl; access = refl; device = refl }

confirming_alike : (live : Live) (report : Report) → IsAlike live (confirming live report)
confirming_alike live report =
    let acked = acking live report.priority (ack_of report.notification) in
    let stored = keeping acked report.priority (kept_alarm report.notification) report.user_structure in
    let both = alike_on live acked stored (end_alike live report.priority (confirmed (end_of live report.priority) (ack_of report.notification)))
    (keeping_alike acked report.priority (kept_alarm report.notification) report.user_structure) in
    record { phase = both.phase; left = both.left; stands = both.stands; cyclic = both.cyclic; access = both.access; device = both.device }

taken_alike : (live : Live) (report : Report) (as_what : Taken) → IsAlike live (taken live report as_what).live
taken_alike live report New = confirming_alike live report
taken_alike live report Again = alike live
taken_alike live report Refused = alike live

pub data_alike : (live : Live) (report : Report) (number : ℕ) (as_what : Taken)
    → IsAlike live (taken (behind_data live report.priority number) report as_what).live
data_alike live report number as_what =
    let behind = behind_data live report.priority number in
    alike_on live behind (taken behind report as_what).live (end_alike live report.priority (with_data (end_of live report.priority) number))
    (taken_alike behind report as_what)

pub behind_alike : (live : Live) (priority : Priority) (number : ℕ) → IsAlike live (behind_data live priority number)
behind_alike live priority number = end_alike live priority (with_data (end_of live priority) number)

pub ack_alike : (live : Live) (priority : Priority) (number : ℕ) → IsAlike live (behind_ack live priority number)
ack_alike live priority number = end_alike live priority (with_ack (end_of live priority) number)

-- ---- the units until the exchange or the end

connects_ahead : (options : ControllerOptions) (left : ℕ) (phase : State) → (phase ≡ Looking) ⊎ (phase ≡ Addressing)
    → ahead_in options (left_in options left phase Connecting) Connecting ≤ ahead_in options left phase
connects_ahead options left Looking which = omega arith
connects_ahead options left Addressing which = omega arith
connects_ahead options left phase (inl e) = absurd cc
connects_ahead options left phase (inr e) = absurd cc

addresses_ahead : (options : ControllerOptions) (left : ℕ) (phase : State) → phase ≡ Looking
    → ahead_in options (left_in options left phase Addressing) Addressing ≤ ahead_in options left phase
addresses_ahead options left Looking e = omega arith
addresses_ahead options left phase e = absurd cc

relates_ahead : (options : ControllerOptions) (left : ℕ) (phase : State) (next : Request) → phase ≡ Connecting
    → ahead_in options (left_in options left phase (phase_for next)) (phase_for next) ≤ ahead_in options left phase
relates_ahead options left Connecting (asks.Write number) e = omega arith
relates_ahead options left Connecting (asks.WriteAfter number tries) e = omega arith
relates_ahead options left Connecting next e = omega arith
relates_ahead options left phase next e = absurd cc

writes_ahead : (options : ControllerOptions) (left : ℕ) (phase : State) (next : Request) → phase ≡ Writing
    → ahead_in options (left_in options left phase (phase_for next)) (phase_for next) ≤ ahead_in options left phase
writes_ahead options left Writing (asks.Write number) e = omega arith
writes_ahead options left Writing (asks.WriteAfter number tries) e = omega arith
writes_ahead options left Writing next e = omega arith
writes_ahead options left phase next e = absurd cc

waits_ahead : (options : ControllerOptions) (left : ℕ) (phase : State) → phase ≡ Ending → options.waiting_patience ≤ ahead_in options left phase
waits_ahead options left Ending e = omega arith
waits_ahead options left phase e = absurd cc

same_ahead : (options : ControllerOptions) (live after : Live) → IsAlike live after
    → ahead_in options after.left after.phase ≤ ahead_in options live.left live.phase
same_ahead options live after is =
    let same : ahead_in options after.left after.phase ≡ ahead_in options live.left live.phase =
    ap (λ (n : ℕ). ahead_in options n after.phase) is.left ∙ ap (λ (p : State). ahead_in options live.left p) is.phase in
    omega (arith, same)

-- ---- a turn

-- After the turn of a frame no request of the application waits, and the units until the exchange or the end are no more than before.
pub record IsWell (setup : Setup) (live : Live) (turn : Turn) : Type 0 where
  pub said : AreSaid setup IsAnything turn.sent
  pub routed : turn.live.stands ≡ true → IsChosenIn turn.live.cyclic.route
  pub alone : turn.live.access.waiting ≡ None
  pub ahead : ahead_in setup.options turn.live.left turn.live.phase ≤ ahead_in setup.options live.left live.phase

pub over_routed : (route : Route) → false ≡ true → IsChosenIn route
over_routed route e = absurd (false≢true e)

module _ (laws : ControllerLaws) (setup : Setup) (good : IsSetup setup) (live : Live) (heard : Heard) (kept : IsKept setup live)
    (steady : IsSteady setup.plan live) (answers : (source : Mac) (answer : Answered) → Hears heard ≡ Hears (Answers source answer) → IsMac source)
    (unplugged : live.access.plug ≡ None) (routed : live.stands ≡ true → IsChosenIn live.cyclic.route) (alone : live.access.waiting ≡ None)
    (fit : IsFit setup heard) (other : live.phase ≡ Exchanging → ⊥) where
  in_phase_of : (request : Request) → live.asked ≡ Some request → PhaseOf request live.phase
  in_phase_of request stood = asked_in setup.plan live.phase live.asked request steady.asked stood

  -- Nothing is sent, and only the alarms may change.
  rests_well : (after : Live) (sent : List Sent) → IsAlike live after → AreSaid setup IsAnything sent → IsWell setup live (record { live = after; sent = sent })
  rests_well after sent is said = record {
    said = said;
    routed = λ up. subst (λ (c : Cyclic). IsChosenIn c.route) (sym is.cyclic) (routed (sym is.stands ∙ up));
    alone = ap (λ (a : Accessing). a.waiting) is.access ∙ alone;
    ahead = same_ahead setup.options live after is;
  }

  station : (source : Mac) → (source ≡ live.device) ⊎ ((answer : Answered) × (Hears heard ≡ Hears (Answers source answer))) → IsMac source
  station source known = station_six setup good live (Hears heard) kept steady answers source known

  next_said : (next : Request) → IsFew next → AreSaid setup IsAnything (Requests live.device next ∷ [])
  next_said next few = (request_said setup IsAnything live.device next kept.device few tt, tt)

  behind_said : (number : ℕ) (tries : Option ℕ) → live.asked ≡ Some (write_after number tries)
      → AreSaid setup IsAnything (Requests live.device (behind_write setup.plan number tries) ∷ [])
  behind_said number tries stood =
      next_said (behind_write setup.plan number tries) (behind_few setup.plan number tries good.plan (few_so live.asked (write_after number tries) stood kept.asked))

  release_said : AreSaid setup IsAnything (Requests live.device (asks.Release (next_sequence setup.plan live.access.calls live.asked)) ∷ [])
  release_said = (
    request_said setup IsAnything live.device (asks.Release (next_sequence setup.plan live.access.calls live.asked)) kept.device
        (sequence_few setup.plan live.access.calls live.asked kept.asked) tt,
    tt,
  )

  -- No turn follows.
  followed_well : (turn : Turn) → (turn.live.phase ≡ Exchanging → ⊥) → IsWell setup live turn → IsWell setup live (after_turn setup (can_begin live) turn)
  followed_well turn off is =
      subst (IsWell setup live) (sym (unfollowed setup (can_begin live) turn (elsewhere turn.live (not_exchanging turn.live.phase off)))) is

  pub kind_well : (kind : Kind) → IsKind setup live (Hears heard) kind → IsWell setup live (turn_by setup live kind)
  kind_well Rests holds = rests_well live [] (alike live) tt
  kind_well (Connects source) holds = record {
    said = (request_said setup IsAnything source asks.Connect (station source holds.known) tt tt, tt);
    routed = routed;
    alone = alone;
    ahead = connects_ahead setup.options live.left live.phase holds.seeking;
  }
  kind_well (Addresses source) holds = record {
    said = (request_said setup IsAnything source asks.Address (station source holds.0.known) tt tt, tt);
    routed = routed;
    alone = alone;
    ahead = addresses_ahead setup.options live.left live.phase holds.1;
  }
  kind_well (Ends cause refusal refused units) holds = record { said = tt; routed = over_routed live.cyclic.route; alone = refl; ahead = omega arith }
  kind_well (Releases cause refusal refused units) holds =
      record { said = release_said; routed = over_routed live.cyclic.route; alone = refl; ahead = omega arith }
  kind_well (Relates places chosen) holds =
      let fits : IsFit setup (Responds holds.0.response) = subst (λ (h : Heard). IsFit setup h) (ap heard_in holds.0.comes) fit in
      record {
        said = next_said (writing_from setup.plan 0) (writing_few setup.plan 0 good.plan);
        routed = λ up. fits holds.0.right holds.0.granted chosen holds.1;
        alone = alone;
        ahead = relates_ahead setup.options live.left live.phase (writing_from setup.plan 0) (in_phase_of asks.Connect holds.0.stood);
      }
  kind_well (Writes number tries) holds = record {
    said = behind_said number tries holds.0.stood;
    routed = routed;
    alone = alone;
    ahead = writes_ahead setup.options live.left live.phase (behind_write setup.plan number tries)
        (written_in number tries live.phase (in_phase_of (write_after number tries) holds.0.stood));
  }
  kind_well (Skips number tries refused status) holds = record {
    said = behind_said number tries holds.stood;
    routed = routed;
    alone = alone;
    ahead = writes_ahead setup.options live.left live.phase (behind_write setup.plan number tries)
        (written_in number tries live.phase (in_phase_of (write_after number tries) holds.stood));
  }
  kind_well (Tries next status) holds = record { said = tt; routed = routed; alone = alone; ahead = omega arith }
  kind_well (Waits tries) holds = record {
    said = tt;
    routed = routed;
    alone = alone;
    ahead = waits_ahead setup.options live.left live.phase (ended_in tries live.phase (in_phase_of (end_after tries) holds.stood));
  }
  kind_well Forgets holds = record { said = tt; routed = routed; alone = alone; ahead = omega arith }
  kind_well (Begins caller call block) holds = record {
    said = (agreed setup IsAnything laws.can_answer good heard caller call block fit holds.1 tt, tt);
    routed = routed;
    alone = alone;
    ahead = omega arith;
  }
  kind_well (Repeats caller call block) holds = absurd (other holds.0)
  kind_well (Follows source frame_id body) holds = record {
    said = tt;
    routed = λ up. subst IsChosenIn (sym (frame_on live.cyclic source frame_id body).route) (routed up);
    alone = alone;
    ahead = omega arith;
  }
  kind_well (Takes number report) holds =
      let as_what = taken_as (end_of live report.priority).seen number in
      let behind = behind_data live report.priority number in
      let at : IsAlike live behind = behind_alike live report.priority number in
      let chosen : IsChosenIn behind.cyclic.route = subst (λ (c : Cyclic). IsChosenIn c.route) (sym at.cyclic) (routed holds.0) in
      followed_well (taken behind report as_what) (λ e. other (sym (data_alike live report number as_what).phase ∙ e))
      (rests_well (taken behind report as_what).live (taken behind report as_what).sent (data_alike live report number as_what)
      (taken_said setup IsAnything behind (data_kept setup live report.priority number kept) chosen (all_allowed behind.cyclic.route) report as_what))
  kind_well (IsAcked priority number) holds = rests_well (behind_ack live priority number) [] (ack_alike live priority number) tt
  kind_well (Gives slot subslot value) holds = absurd cc
  kind_well (GivesStatus slot subslot is_good) holds = absurd cc
  kind_well (Asks request octets) holds = absurd (other holds.0)
  kind_well (IsReplied refusal access) holds =
      followed_well (stays (record live { refusal = refusal; access = access })) other
      (record { said = tt; routed = routed; alone = holds.1; ahead = omega arith })
  kind_well (IsPlugAnswered refusal refused waited places access) holds = absurd (none-some holds.4 (sym unplugged ∙ holds.5))
  kind_well (IsPlugReadied caller call block) holds = absurd (other holds.0)
  kind_well Flows holds = let bad = holds.0 in absurd cc
  kind_well (Breaks reason) holds = let bad = holds.0 in absurd cc
  kind_well Idles holds = let bad = holds.0 in absurd cc
