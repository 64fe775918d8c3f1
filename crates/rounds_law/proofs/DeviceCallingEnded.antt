-- A device that has the plan's relation accepts PrmEnd, and sends ApplicationReady.
use Rattle.std.proofs.Common.{◌≡◌, ◌≤◌, ◌<◌, ◌+◌, ℕ, Bool, true, false, List, [], ◌∷◌, map, Option, Some, Result, Ok, refl, sym, ap, subst, ◌∙◌, arith}
use Rattle.std.proofs.lemmas.Cmp.{nat_list_eq_equiv}
use Rattle.pn_values.specs.declared.identity.Identity.{Identity}
use Rattle.wire.specs.Codec.{◌>>=◌}
use Rattle.frame_codec.specs.declared.udp.Caller.{Caller}
use Rattle.rpc_core.specs.Call.{Asked as Call}
use Rattle.rpc_core.specs.Cache.{Reported as Looked}
use Rattle.connect_blocks.specs.declared.control.ControlBlock.{ControlBlock}
use Rattle.block_codec.specs.declared.block.Block.TheVariants as is
use Rattle.block_codec.specs.Block.{block_bytes}
use Rattle.connects.specs.requests.Request.{Request}
use Rattle.records.specs.declared.status.call_fault.CallFault.{CallFault}
use Rattle.records.specs.declared.status.operation.Operation.{Operation}
use Rattle.records.specs.declared.status.operation.Operation.TheVariants.{Control}
use Rattle.records.specs.declared.writes.taken.TakenRecord.{TakenRecord}
use Rattle.records.specs.status.Operation.{operation_of}
use Rattle.settings_journal.specs.settings_store.Machine.{Outcome}
use Rattle.relations.specs.declared.phase.Partner.{Partner}
use Rattle.relations.specs.declared.phase.Phase.{Phase}
use Rattle.relations.specs.declared.phase.Phase.TheVariants.{Awaiting, Started}
use Rattle.relations.specs.Calls.{done_of, prm_end_of}
use Rattle.relations.specs.Plugging.{is_plug_control}
use Rattle.relations.specs.Phases.{Named, Parameterized, answered, parameterized_from, restarted, updated}
use Rattle.relations.specs.RelationState.{RelationState, is_alive}
use Rattle.device_frames.specs.Heard.{Calls, Reported, heard_of}
use Rattle.device_frames.specs.Sent.{Sent, bytes_of}
use Rattle.device_core.specs.State.{Live, Rest, Station}
use Rattle.device_core.specs.Handled.{Moves, answer_from, handled_call, handled_looked, handled_said, is_running, kept_behind, kept_for}
use Rattle.device_core.specs.Handled.{handled_plug_end, partner_of, ready_behind}
use Rattle.device_core.specs.Machine.{Stepped}
use Rattle.controller_messages.specs.declared.setup.Setup.{Setup}
use Rattle.controller_messages.specs.declared.request.Request.TheVariants as asks
use Rattle.controller_messages.specs.Requests.{blocks_of, call_for, control_of, write_count}
use Rattle.end_laws.specs.hearing.Hearing.{comes}
use Rattle.both_ends.specs.startup.request.Request.{request_for}
use Rattle.both_ends.specs.startup.answer.Answer.{caller_of}
use Rattle.rounds_law.specs.Path.{HasRelation, IsAddressed, device_step, ended_frame, readied_frame, request_to}
use Rattle.rounds_law.specs.Start.{IsOfPlan}
use Rattle.rounds_law.proofs.AskedUnits.{unasked_new}
use Rattle.rounds_law.proofs.DeviceCallingBlocks.{HasSize, IsReadAlone, not_of_plug, prm_ended}
use Rattle.rounds_law.proofs.DeviceCallingSteps.{kept_first, later_new, partner_alive, step_is}
use Rattle.rounds_law.proofs.Choices.{where_not, where_so}

is_control : operation_of 4 ≡ Some Control
unfolding operation_of
is_control = refl

-- the relation with its phase, its request and its partner put in
abbrev pub stated : Setup → Phase → RelationState → RelationState
stated setup phase link = record link { phase = phase; request = request_for setup.plan setup.ar; partner = partner_of (caller_of setup.plan.controller) }

pub is_stated : (serial : ℕ) (setup : Setup) (phase : Phase) (taken : List TakenRecord) (last age : ℕ) (live : Live) (relation : HasRelation setup serial phase taken last age live)
    → live.rest.link ≡ Some (stated setup phase relation.link)
is_stated serial setup phase taken last age live relation =
    let link = relation.link in
    let request = request_for setup.plan setup.ar in
    relation.has
    ∙ (ap (λ (p : Phase). Some (record link { phase = p })) relation.in_phase
    ∙ (ap (λ (r : Request). Some (record link { phase = phase; request = r })) relation.request
    ∙ ap (λ (p : Partner). Some (record link { phase = phase; request = request; partner = p })) relation.partner))

-- what the device does then
abbrev pub IsEnded : ℕ → Setup → Identity → Live → List TakenRecord → Stepped → Type 0
IsEnded serial setup identity live taken step =
    (step.frames ≡ ended_frame setup identity ∷ readied_frame setup identity ∷ [])
    × (step.live.values ≡ live.values)
    × HasRelation setup serial Awaiting taken (write_count setup.plan + 1) 0 step.live

module _ (setup : Setup) (identity : Identity) (station : Station) (live : Live) (taken : List TakenRecord) (last age : ℕ)
    (serial : ℕ) (relation : HasRelation setup serial Started taken last age live) where
  abbrev caller : Caller
  caller = caller_of setup.plan.controller

  abbrev call : Call
  call = call_for setup asks.PrmEnd

  abbrev control : ControlBlock
  control = control_of setup 1

  abbrev blocks : List ℕ
  blocks = blocks_of setup asks.PrmEnd

  abbrev base : RelationState
  base = stated setup Started relation.link

  -- the relation after it, what is sent, and the state after it
  abbrev link_by : Bool → Result ControlBlock CallFault → Option RelationState → Option RelationState
  link_by by_application ended link = updated (answered (Named (partner_of caller)) ended) (updated (answered (Parameterized by_application) ended) link)

  abbrev ended_now : Result ControlBlock CallFault
  ended_now = prm_end_of live.rest.link blocks

  abbrev link_now : Option RelationState
  link_now = link_by station.options.ready_by_application ended_now live.rest.link

  abbrev message : List ℕ → Result ControlBlock CallFault → Sent
  message address ended = answer_from address caller call Control (ended >>= λ block. Ok (block_bytes (is.PrmEndRes (done_of block))))

  abbrev messages : Bool → List ℕ → Result ControlBlock CallFault → Option RelationState → List Sent
  messages by_application address ended link = message address ended ∷ ready_behind by_application address link ended

  abbrev answer_now : Sent
  answer_now = message live.values.running.suite.address ended_now

  abbrev sent : List Sent
  sent = messages station.options.ready_by_application live.values.running.suite.address ended_now link_now

  abbrev rest : Rest
  rest = kept_behind station.identity live.rest call answer_now link_now

  abbrev made : RelationState
  made = restarted (partner_of caller) (parameterized_from false base)

  is_ended : HasSize → IsReadAlone (is.PrmEnd control) → ended_now ≡ Ok control
  is_ended long read =
      ap (λ (link : Option RelationState). prm_end_of link blocks) (is_stated serial setup Started taken last age live relation)
      ∙ prm_ended long base control read (nat_list_eq_equiv.refl setup.ar) refl refl refl

  is_made : ended_now ≡ Ok control → station.options.ready_by_application ≡ false → link_now ≡ Some made
  is_made ended ready =
      ap (λ (e : Result ControlBlock CallFault). link_by station.options.ready_by_application e live.rest.link) ended
      ∙ (ap (λ (b : Bool). link_by b (Ok control) live.rest.link) ready
      ∙ ap (λ (link : Option RelationState). link_by false (Ok control) link) (is_stated serial setup Started taken last age live relation))

  is_handled : last ≤ write_count setup.plan → handled_said station live caller (Calls call) ≡ Moves rest sent
  is_handled few =
      let later : ◌<◌ relation.kept.sequence (write_count setup.plan + 1) = omega (arith, few, relation.number) in
      ap (λ (o : Option Operation). handled_call station live caller call o) is_control
      ∙ (ap (λ (l : Looked). handled_looked station live caller call blocks Control l)
      (later_new setup.activity (write_count setup.plan + 1) live.rest.calls relation.kept relation.answered later)
      ∙ (unasked_new station live caller call blocks Control relation.unasked
      ∙ where_not (is_plug_control blocks live.rest.link) (handled_plug_end station live caller call blocks) (Moves rest sent)
      (not_of_plug live.rest.link control)))

  frames_are : station.identity ≡ identity → IsAddressed setup live → station.options.ready_by_application ≡ false → ended_now ≡ Ok control
      → link_now ≡ Some made → map (bytes_of station.identity) sent ≡ ended_frame setup identity ∷ readied_frame setup identity ∷ []
  frames_are same addressed ready ended made_so =
      let address = setup.plan.station.suite.address in
      ap (λ (i : Identity). map (bytes_of i) sent) same
      ∙ (ap (λ suite. map (bytes_of identity) (messages station.options.ready_by_application suite.address ended_now link_now)) addressed.suite
      ∙ (ap (λ (link : Option RelationState). map (bytes_of identity) (messages station.options.ready_by_application address ended_now link)) made_so
      ∙ (ap (λ (e : Result ControlBlock CallFault). map (bytes_of identity) (messages station.options.ready_by_application address e (Some made)))
      ended
      ∙ ap (λ (b : Bool). map (bytes_of identity) (messages b address (Ok control) (Some made))) ready)))

  inactive_none : made.inactive ≡ 0
  inactive_none =
      let link = parameterized_from false base in
      where_so (is_alive (partner_of caller) link) 0 link.inactive (partner_alive link)

  after_it : link_now ≡ Some made → HasRelation setup serial Awaiting taken (write_count setup.plan + 1) 0 (record { values = live.values; rest = rest })
  after_it made_so = record {
    link = made;
    has = made_so;
    in_phase = refl;
    request = refl;
    partner = refl;
    taken_all = relation.taken_all;
    active = subst (λ (n : ℕ). n ≤ 0) (sym inactive_none) (omega arith);
    waited = omega arith;
    calm = relation.calm;
    numbered = relation.numbered;
    unbegun = relation.unbegun;
    limit = relation.limit;
    low_limit = relation.low_limit;
    low_new = relation.low_new;
    kept = kept_for station.identity call answer_now;
    answered = kept_first (kept_for station.identity call answer_now) live.rest.calls;
    number = refl;
    unasked = relation.unasked;
  }

  pub ends : (outcomes : List Outcome) → station.identity ≡ identity → IsOfPlan setup station live.rest.real → IsAddressed setup live → last ≤ write_count setup.plan
      → HasSize → IsReadAlone (is.PrmEnd control)
      → heard_of station.identity (comes (request_to setup identity asks.PrmEnd)) ≡ Reported caller setup.plan.station.suite.address (Calls call)
      → is_running live.values.running setup.plan.station.suite.address ≡ true
      → IsEnded serial setup identity live taken (device_step outcomes station live (request_to setup identity asks.PrmEnd))
  ends outcomes same of_plan addressed few long read hears running =
      let ended = is_ended long read in
      let made_so = is_made ended of_plan.ready in
      let stepped = step_is outcomes station live (request_to setup identity asks.PrmEnd) caller setup.plan.station.suite.address (Calls call)
      rest sent hears running (is_handled few) in
      subst (λ (step : Stepped). IsEnded serial setup identity live taken step) (sym stepped)
      (frames_are same addressed of_plan.ready ended made_so, refl, after_it made_so)
