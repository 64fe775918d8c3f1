-- The phases of a controller over its turns, whether its relation is established, and the numbers of its requests after plugs.
use Rattle.std.proofs.Common.{◌≡◌, ◌⊎◌, inl, inr, ◌+◌, ℕ, Bool, true, false, cond, [], ◌∷◌, Option, Some, None, refl, sym, ap, subst, ◌∙◌}
use Rattle.std.specs.Prelude.{if◌then◌else◌, nat_lt}
use Rattle.pn_alarms.specs.declared.receiver.Taken.{Taken}
use Rattle.pn_alarms.specs.declared.receiver.Taken.TheVariants.{New, Again, Refused}
use Rattle.pn_alarms.specs.Ends.{ControllerEnd}
use Rattle.pn_alarms.specs.Receiver.{taken_as}
use Rattle.record_blocks.specs.declared.alarm_notification.AlarmNotification.{AlarmNotification}
use Rattle.diagnosis.specs.declared.reports.priority.Priority.{Priority}
use Rattle.diagnosis.specs.declared.reports.priority.Priority.TheVariants.{High, Low}
use Rattle.diagnosis.specs.declared.reports.report.Report.{Report}
use Rattle.plans.specs.declared.parts.Parts.{Parts}
use Rattle.controller_messages.specs.declared.plug_request.PlugRequest.{PlugRequest}
use Rattle.controller_messages.specs.declared.request.Request.{Request}
use Rattle.controller_messages.specs.declared.request.Request.TheVariants as asks
use Rattle.controller_messages.specs.declared.setup.Setup.{Setup}
use Rattle.controller_messages.specs.Access.{Accessing, call_number, unplugged}
use Rattle.controller_messages.specs.PlugRequests.{plug_answer}
use Rattle.controller_messages.specs.Requests.{write_count}
use Rattle.controller_messages.specs.Sent.{Agrees}
use Rattle.controller_core.specs.declared.stored.event.Event.{Event}
use Rattle.controller_core.specs.declared.stored.state.Cause.{Cause}
use Rattle.controller_core.specs.declared.stored.state.State.{State}
use Rattle.controller_core.specs.declared.stored.state.State.TheVariants.{Looking, Addressing, Connecting, Writing, Ending, Waiting, Exchanging, Ended}
use Rattle.controller_core.specs.stored.Alarms.{ack_of, kept_alarm}
use Rattle.controller_core.specs.stored.State.{Live, phase_for}
use Rattle.controller_core.specs.Machine.{Turn, acking, after_turn, asks_next, behind_ack, behind_data, can_begin, end_of, flow_later, is_end_of}
use Rattle.controller_core.specs.Machine.{keeping, plug_readied, stays, taken, turn_of, with_end}
use Rattle.controller_core.specs.start_up.Requests.{behind_write, end_after, write_after}
use Rattle.end_laws.specs.controller.Small.{IsInStep, IsSteady, MayWait}
use Rattle.end_laws.specs.turns.Beside.{IsBegun, MayBegin, MayFollow, flow_begun}
use Rattle.end_laws.specs.turns.Turns as kinds
use Rattle.end_laws.specs.turns.Turns.{Came, IsKind, IsStepped, IsTurn, Kind, came_by, turn_by}

-- ---- phases

-- no relation was established yet
abbrev pub IsBefore : State → Type 0
IsBefore Looking = Unit {0}
IsBefore Addressing = Unit {0}
IsBefore Connecting = Unit {0}
IsBefore Writing = ⊥
IsBefore Ending = ⊥
IsBefore Waiting = ⊥
IsBefore Exchanging = ⊥
IsBefore (Ended cause) = ⊥

-- no data was exchanged yet
abbrev pub IsStarting : State → Type 0
IsStarting Looking = Unit {0}
IsStarting Addressing = Unit {0}
IsStarting Connecting = Unit {0}
IsStarting Writing = Unit {0}
IsStarting Ending = Unit {0}
IsStarting Waiting = Unit {0}
IsStarting Exchanging = ⊥
IsStarting (Ended cause) = ⊥

before_starts : (phase : State) → IsBefore phase → IsStarting phase
before_starts Looking b = tt
before_starts Addressing b = tt
before_starts Connecting b = tt
before_starts Writing b = absurd b
before_starts Ending b = absurd b
before_starts Waiting b = absurd b
before_starts Exchanging b = absurd b
before_starts (Ended cause) b = absurd b

-- how a phase goes on: not at all, to the end, or from one of the start-up, and to no earlier one
pub record GoesFrom (before after : State) : Type 0 where
  pub starting : IsStarting after → IsStarting before
  pub before_too : IsBefore after → IsBefore before

goes_same : (before after : State) → after ≡ before → GoesFrom before after
goes_same before after e = record {
  starting = λ s. subst IsStarting e s;
  before_too = λ b. subst IsBefore e b;
}

-- a request of the start-up other than a Release waits only then
abbrev IsRelease : Request → Type 0
IsRelease (asks.Release sequence) = Unit {0}
IsRelease request = ⊥

request_is : (one other : Request) → Some one ≡ Some other → one ≡ other
request_is one other e = cc

none_request : (request : Request) → ◌≡◌ {A = Option Request} (Some request) None → ⊥
none_request request e = absurd cc

start_in : (plan : Parts) (phase : State) (request : Request) → IsInStep plan phase (Some request) → (IsRelease request → ⊥) → IsStarting phase
start_in plan Looking request is apart = tt
start_in plan Addressing request is apart = tt
start_in plan Connecting request is apart = tt
start_in plan Writing request is apart = tt
start_in plan Ending request is apart = tt
start_in plan Waiting request is apart = tt
start_in plan Exchanging request is apart = absurd (none_request request is)
start_in plan (Ended cause) request (inl none) apart = absurd (none_request request none)
start_in plan (Ended cause) request (inr release) apart = absurd (apart (subst IsRelease (sym (request_is request (asks.Release release.0) release.1)) tt))

identify_connect : asks.Connect ≡ asks.Identify → ⊥
identify_connect e = absurd cc

address_connect : asks.Connect ≡ asks.Address → ⊥
address_connect e = absurd cc

write_connect : (number : ℕ) (tries : Option ℕ) → asks.Connect ≡ write_after number tries → ⊥
write_connect number None e = absurd cc
write_connect number (Some tries) e = absurd cc

end_connect : (tries : Option ℕ) → asks.Connect ≡ end_after tries → ⊥
end_connect None e = absurd cc
end_connect (Some tries) e = absurd cc

-- neither a Write nor PrmEnd nor one that is tried again is a Release
write_going : (number : ℕ) (tries : Option ℕ) → IsRelease (write_after number tries) → ⊥
write_going number None release = release
write_going number (Some tries) release = release

end_going : (tries : Option ℕ) → IsRelease (end_after tries) → ⊥
end_going None release = release
end_going (Some tries) release = release

connect_in : (plan : Parts) (phase : State) → IsInStep plan phase (Some asks.Connect) → IsBefore phase
connect_in plan Looking is = tt
connect_in plan Addressing is = tt
connect_in plan Connecting is = tt
connect_in plan Writing is = absurd (write_connect is.0 is.1 (request_is asks.Connect (write_after is.0 is.1) is.3))
connect_in plan Ending is = absurd (end_connect is.0 (request_is asks.Connect (end_after is.0) is.1))
connect_in plan Waiting is = absurd (none_request asks.Connect is)
connect_in plan Exchanging is = absurd (none_request asks.Connect is)
connect_in plan (Ended cause) (inl none) = absurd (none_request asks.Connect none)
connect_in plan (Ended cause) (inr release) = absurd (connects release.0 (request_is asks.Connect (asks.Release release.0) release.1))
  where
    connects : (sequence : ℕ) → asks.Connect ≡ asks.Release sequence → ⊥
    connects sequence e = absurd cc

-- a request of the start-up that is asked, in a controller whose requests belong to its phases
pub asked_starts : (plan : Parts) (live : Live) (request : Request) → IsSteady plan live → live.asked ≡ Some request → (IsRelease request → ⊥)
    → IsStarting live.phase
asked_starts plan live request steady e apart =
    start_in plan live.phase request (subst (λ (asked : Option Request). IsInStep plan live.phase asked) e steady.asked) apart

pub asked_connects : (plan : Parts) (live : Live) → IsSteady plan live → live.asked ≡ Some asks.Connect → IsBefore live.phase
asked_connects plan live steady e =
    connect_in plan live.phase (subst (λ (asked : Option Request). IsInStep plan live.phase asked) e steady.asked)

-- no request after a plug waits then
none_starting : (phase : State) (plug : Option PlugRequest) → IsStarting phase → MayWait phase plug → plug ≡ None
none_starting Looking plug s may = may
none_starting Addressing plug s may = may
none_starting Connecting plug s may = may
none_starting Writing plug s may = may
none_starting Ending plug s may = may
none_starting Waiting plug s may = may
none_starting Exchanging plug s may = absurd s
none_starting (Ended cause) plug s may = absurd s

pub unplugged_starting : (plan : Parts) (live : Live) → IsSteady plan live → IsStarting live.phase → live.access.plug ≡ None
unplugged_starting plan live steady s = none_starting live.phase live.access.plug s steady.plug

some_none : (r : PlugRequest) → ◌≡◌ {A = Option PlugRequest} (Some r) None → ⊥
some_none r e = absurd cc

-- ---- a turn

-- What a turn does to the phase, to the relation, and to the number of the request after a plug.
pub record PhaseGoes (plan : Parts) (before after : Live) : Type 0 where
  pub phase : GoesFrom before.phase after.phase
  pub stands : IsBefore after.phase → (after.stands ≡ before.stands) ⊎ (after.stands ≡ false)
  pub numbers : (after.access.plug ≡ before.access.plug)
      ⊎ ((r : PlugRequest) → after.access.plug ≡ Some r → r.sequence ≡ call_number plan before.access.calls)

module _ (setup : Setup) (live : Live) where
  -- the same phase, a relation as before, and the same request
  keeps : (after : Live) → after.phase ≡ live.phase → after.stands ≡ live.stands → after.access.plug ≡ live.access.plug → PhaseGoes setup.plan live after
  keeps after phase stands plug = record { phase = goes_same live.phase after.phase phase; stands = λ b. inl stands; numbers = inl plug }

  -- and then a turn may begin
  record Middle (middle : Live) : Type 0 where
    phase : middle.phase ≡ live.phase
    stands : middle.stands ≡ live.stands
    numbers : (middle.access.plug ≡ live.access.plug)
        ⊎ ((r : PlugRequest) → middle.access.plug ≡ Some r → r.sequence ≡ call_number setup.plan live.access.calls)
    counts : middle.access.plug ≡ None → middle.access.calls ≡ live.access.calls

  begun_goes : (middle after : Live) → Middle middle → IsBegun setup middle after → PhaseGoes setup.plan live after
  begun_goes middle after is begun = record {
    phase = goes_same live.phase after.phase (ap (λ (l : Live). l.phase) begun.beside ∙ is.phase);
    stands = λ b. inl (ap (λ (l : Live). l.stands) begun.beside ∙ is.stands);
    numbers = inr (λ r e. subst (λ (q : PlugRequest). q.sequence ≡ call_number setup.plan live.access.calls)
        (plug_is begun.request r (sym (ap (λ (access : Accessing). access.plug) begun.access) ∙ e))
        (begun.numbered ∙ ap (λ (n : ℕ). call_number setup.plan n) (is.counts begun.plug)));
  }
    where
      plug_is : (one other : PlugRequest) → Some one ≡ Some other → one ≡ other
      plug_is one other e = cc

  same_goes : (middle : Live) → Middle middle → PhaseGoes setup.plan live middle
  same_goes middle is = record { phase = goes_same live.phase middle.phase is.phase; stands = λ b. inl is.stands; numbers = is.numbers }

  followed_goes : ((could : Bool) (turn : Turn) → MayFollow setup turn (after_turn setup could turn)) → (could : Bool) (turn : Turn) → Middle turn.live
      → PhaseGoes setup.plan live (after_turn setup could turn).live
  followed_goes follows could turn is = by_follow (follows could turn)
    where
      by_follow : MayFollow setup turn (after_turn setup could turn) → PhaseGoes setup.plan live (after_turn setup could turn).live
      by_follow (inl same) = subst (λ (t : Turn). PhaseGoes setup.plan live t.live) (sym same) (same_goes turn.live is)
      by_follow (inr more) = begun_goes turn.live (after_turn setup could turn).live is more.begun

  -- the relation is over
  ended_goes : (after : Live) (cause : Cause) → after.phase ≡ Ended cause → after.stands ≡ false → after.access.plug ≡ None
      → PhaseGoes setup.plan live after
  ended_goes after cause phase stands none = record {
    phase = record {
      starting = λ s. absurd (subst IsStarting phase s);
      before_too = λ b. absurd (subst IsBefore phase b);
    };
    stands = λ b. inr stands;
    numbers = inr (λ r e. absurd (some_none r (sym e ∙ none)));
  }

  -- a step of the start-up
  starts_goes : (after : Live) → IsStarting live.phase → (IsBefore after.phase → IsBefore live.phase)
      → (IsBefore after.phase → (after.stands ≡ live.stands) ⊎ (after.stands ≡ false)) → after.access.plug ≡ live.access.plug
      → PhaseGoes setup.plan live after
  starts_goes after s before_so stands_so plug = record {
    phase = record { starting = λ started. s; before_too = before_so };
    stands = stands_so;
    numbers = inl plug;
  }

  -- a Write or PrmEnd is no request of an earlier phase
  next_phase : (b : Bool) (number : ℕ) → IsBefore (phase_for (cond b (asks.Write number) asks.PrmEnd)) → ⊥
  next_phase true number b = b
  next_phase false number b = b

  after_phase : (b : Bool) (number tries : ℕ) → IsBefore (phase_for (cond b (asks.WriteAfter number tries) (asks.PrmEndAfter tries))) → ⊥
  after_phase true number tries b = b
  after_phase false number tries b = b

  behind_phase : (plan : Parts) (number : ℕ) (tries : Option ℕ) → IsBefore (phase_for (behind_write plan number tries)) → ⊥
  behind_phase plan number None b = next_phase (nat_lt (number + 1) (write_count plan)) (number + 1) b
  behind_phase plan number (Some tries) b = after_phase (nat_lt (number + 1) (write_count plan)) (number + 1) tries b

  end_same : (before : Live) (priority : Priority) (end : ControllerEnd)
      → ((with_end before priority end).phase ≡ before.phase) × ((with_end before priority end).stands ≡ before.stands)
      × ((with_end before priority end).access ≡ before.access)
  end_same before High end = (refl, refl, refl)
  end_same before Low end = (refl, refl, refl)

  kept_same : (before : Live) (priority : Priority) (alarm : AlarmNotification) (structure : Option ℕ)
      → ((keeping before priority alarm structure).phase ≡ before.phase) × ((keeping before priority alarm structure).stands ≡ before.stands)
      × ((keeping before priority alarm structure).access ≡ before.access)
  kept_same before High alarm structure = (refl, refl, refl)
  kept_same before Low alarm structure = (refl, refl, refl)

  taken_same : (before : Live) (report : Report) (as_what : Taken)
      → ((taken before report as_what).live.phase ≡ before.phase) × ((taken before report as_what).live.stands ≡ before.stands)
      × ((taken before report as_what).live.access ≡ before.access)
  taken_same before report New =
      let kept = kept_same (acking before report.priority (ack_of report.notification)) report.priority (kept_alarm report.notification) report.user_structure in
      let acked = end_same before report.priority _ in
      (kept.0 ∙ acked.0, kept.1 ∙ acked.1, kept.2 ∙ acked.2)
  taken_same before report Again = (refl, refl, refl)
  taken_same before report Refused = (refl, refl, refl)

  unplug_numbers : (b : Bool) → ((if b then unplugged live.access else live.access).plug ≡ live.access.plug)
      ⊎ ((r : PlugRequest) → (if b then unplugged live.access else live.access).plug ≡ Some r → r.sequence ≡ call_number setup.plan live.access.calls)
  unplug_numbers true = inr (λ r e. absurd (some_none r (sym e)))
  unplug_numbers false = inl refl

  unplug_counts : (b : Bool) → (if b then unplugged live.access else live.access).calls ≡ live.access.calls
  unplug_counts true = refl
  unplug_counts false = refl

  stepped_numbers : (access : Accessing) → IsStepped setup live access
      → (((r : PlugRequest) → access.plug ≡ Some r → r.sequence ≡ call_number setup.plan live.access.calls)
      × (access.plug ≡ None → access.calls ≡ live.access.calls))
  stepped_numbers access (inl done) = (
    λ r e. absurd (some_none r (sym e ∙ ap (λ (a : Accessing). a.plug) done)),
    λ e. ap (λ (a : Accessing). a.calls) done,
  )
  stepped_numbers access (inr next) = (
    λ r e. subst (λ (q : PlugRequest). q.sequence ≡ call_number setup.plan live.access.calls)
        (plug_is next.0 r (sym (ap (λ (a : Accessing). a.plug) next.2) ∙ e)) next.1,
    λ e. absurd (some_none next.0 (sym (ap (λ (a : Accessing). a.plug) next.2) ∙ e)),
  )
    where
      plug_is : (one other : PlugRequest) → Some one ≡ Some other → one ≡ other
      plug_is one other e = cc

  sought_before : (live.phase ≡ Looking) ⊎ (live.phase ≡ Addressing) → IsBefore live.phase
  sought_before (inl e) = subst IsBefore (sym e) tt
  sought_before (inr e) = subst IsBefore (sym e) tt

  sought_starts : (live.phase ≡ Looking) ⊎ (live.phase ≡ Addressing) → IsStarting live.phase
  sought_starts e = before_starts live.phase (sought_before e)

  readied_starts : (live.phase ≡ Ending) ⊎ (live.phase ≡ Waiting) → IsStarting live.phase
  readied_starts (inl e) = subst IsStarting (sym e) tt
  readied_starts (inr e) = subst IsStarting (sym e) tt

  module _ (steady : IsSteady setup.plan live) (follows : (could : Bool) (turn : Turn) → MayFollow setup turn (after_turn setup could turn))
      (flows : MayBegin setup (flow_later live) (flow_begun setup live)) where
    kind_goes : (came : Came) (kind : Kind) → IsKind setup live came kind → PhaseGoes setup.plan live (turn_by setup live kind).live
    kind_goes came kinds.Rests holds = keeps live refl refl refl
    kind_goes came (kinds.Connects source) holds =
        starts_goes _ (sought_starts holds.seeking) (λ b. sought_before holds.seeking) (λ b. inl refl) refl
    kind_goes came (kinds.Addresses source) holds =
        starts_goes _ (sought_starts holds.0.seeking) (λ b. sought_before holds.0.seeking) (λ b. inl refl) refl
    kind_goes came (kinds.Ends cause refusal refused units) holds = ended_goes _ cause refl refl refl
    kind_goes came (kinds.Releases cause refusal refused units) holds = ended_goes _ cause refl refl refl
    kind_goes came (kinds.Relates places chosen) holds =
        starts_goes _ (asked_starts setup.plan live asks.Connect steady holds.0.stood (λ release. release))
        (λ b. absurd (next_phase (nat_lt 0 (write_count setup.plan)) 0 b)) (λ b. absurd (next_phase (nat_lt 0 (write_count setup.plan)) 0 b)) refl
    kind_goes came (kinds.Writes number tries) holds =
        starts_goes _ (asked_starts setup.plan live (write_after number tries) steady holds.0.stood (write_going number tries))
        (λ b. absurd (behind_phase setup.plan number tries b)) (λ b. inl refl) refl
    kind_goes came (kinds.Skips number tries refused status) holds =
        starts_goes _ (asked_starts setup.plan live (write_after number tries) steady holds.stood (write_going number tries))
        (λ b. absurd (behind_phase setup.plan number tries b)) (λ b. inl refl) refl
    kind_goes came (kinds.Tries next status) holds = keeps _ refl refl refl
    kind_goes came (kinds.Waits tries) holds =
        starts_goes _ (asked_starts setup.plan live (end_after tries) steady holds.stood (end_going tries)) (λ b. absurd b) (λ b. inl refl) refl
    kind_goes came kinds.Forgets holds = keeps _ refl refl refl
    kind_goes came (kinds.Begins caller call block) holds = starts_goes _ (readied_starts holds.0) (λ b. absurd b) (λ b. inl refl) refl
    kind_goes came (kinds.Repeats caller call block) holds = keeps live refl refl refl
    kind_goes came (kinds.Follows source frame_id body) holds = keeps _ refl refl refl
    kind_goes came (kinds.Takes number report) holds =
        let ended = end_same live report.priority _ in
        let same = taken_same (behind_data live report.priority number) report (taken_as (end_of live report.priority).seen number) in
        let access : (taken (behind_data live report.priority number) report (taken_as (end_of live report.priority).seen number)).live.access ≡ live.access =
        same.2 ∙ ended.2 in
        followed_goes follows (can_begin live) (taken (behind_data live report.priority number) report (taken_as (end_of live report.priority).seen number)) (record {
          phase = same.0 ∙ ended.0;
          stands = same.1 ∙ ended.1;
          numbers = inl (ap (λ (a : Accessing). a.plug) access);
          counts = λ e. ap (λ (a : Accessing). a.calls) access;
        })
    kind_goes came (kinds.IsAcked priority number) holds =
        let ended = end_same live priority _ in
        keeps (behind_ack live priority number) ended.0 ended.1 (ap (λ (a : Accessing). a.plug) ended.2)
    kind_goes came (kinds.Gives slot subslot value) holds = keeps _ refl refl refl
    kind_goes came (kinds.GivesStatus slot subslot is_good) holds = keeps _ refl refl refl
    kind_goes came (kinds.Asks request octets) holds = keeps _ refl refl refl
    kind_goes came (kinds.IsReplied refusal access) holds =
        followed_goes follows (can_begin live) (stays (record live { refusal = refusal; access = access })) (record {
          phase = refl;
          stands = refl;
          numbers = inl (holds.6 ∙ sym holds.5);
          counts = λ e. holds.2;
        })
    kind_goes came (kinds.IsPlugAnswered refusal refused waited places access) holds =
        let numbers = stepped_numbers access holds.3 in
        followed_goes follows (can_begin live)
        (asks_next (record live { refusal = refusal; refused_record = refused; waited = waited; places = places; access = access })) (record {
          phase = refl;
          stands = refl;
          numbers = inr numbers.0;
          counts = numbers.1;
        })
    kind_goes came (kinds.IsPlugReadied caller call block) holds =
        followed_goes follows (can_begin live) (record {
          live = plug_readied live block.alarm_sequence_number;
          sent = Agrees caller (plug_answer call block) ∷ [];
        }) (record {
          phase = refl;
          stands = refl;
          numbers = unplug_numbers (is_end_of block.alarm_sequence_number live.access.plug);
          counts = λ e. unplug_counts (is_end_of block.alarm_sequence_number live.access.plug);
        })
    kind_goes came kinds.Flows holds = by_flow flows
      where
        by_flow : MayBegin setup (flow_later live) (flow_begun setup live) → PhaseGoes setup.plan live (flow_begun setup live)
        by_flow (inl same) = subst (λ (l : Live). PhaseGoes setup.plan live l) (sym same) (keeps _ refl refl refl)
        by_flow (inr begun) =
            begun_goes (flow_later live) (flow_begun setup live) (record { phase = refl; stands = refl; numbers = inl refl; counts = λ e. refl }) begun
    kind_goes came (kinds.Breaks reason) holds = ended_goes _ _ refl refl refl
    kind_goes came kinds.Idles holds = keeps _ refl refl refl

    pub event_phase : (one : Event) → IsTurn setup live (came_by setup one) (turn_of setup live one) → PhaseGoes setup.plan live (turn_of setup live one).live
    event_phase one turn = subst (λ (t : Turn). PhaseGoes setup.plan live t.live) (sym turn.is) (kind_goes (came_by setup one) turn.kind turn.holds)
