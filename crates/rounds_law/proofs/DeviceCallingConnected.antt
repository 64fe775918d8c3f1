-- A device without a relation accepts the plan's Connect.
use Rattle.std.proofs.Common.{◌≡◌, ℕ, true, List, [], ◌∷◌, map, Option, Some, None, Result, Ok, refl, sym, ap, subst, ◌∙◌, arith}
use Rattle.pn_values.specs.declared.identity.Identity.{Identity}
use Rattle.pn_values.specs.declared.real.Real.{Real}
use Rattle.frame_codec.specs.declared.udp.Caller.{Caller}
use Rattle.rpc_core.specs.Call.{Asked as Call}
use Rattle.rpc_core.specs.Cache.{Reported as Looked}
use Rattle.connects.specs.requests.Request.{Request}
use Rattle.records.specs.declared.status.call_fault.CallFault.{CallFault}
use Rattle.records.specs.declared.status.operation.Operation.{Operation}
use Rattle.records.specs.declared.status.operation.Operation.TheVariants.{Connect}
use Rattle.records.specs.status.Operation.{operation_of}
use Rattle.settings_journal.specs.settings_store.Machine.{Outcome}
use Rattle.relations.specs.declared.phase.Phase.TheVariants.{Started}
use Rattle.relations.specs.Connect.{connect_answer, connect_within, making, rows_of}
use Rattle.relations.specs.Phases.{made_of, updated}
use Rattle.relations.specs.RelationState.{RelationState}
use Rattle.device_frames.specs.Heard.{Calls, Reported, heard_of}
use Rattle.device_frames.specs.Sent.{Sent, bytes_of}
use Rattle.device_core.specs.State.{Live, Rest, Station}
use Rattle.device_core.specs.Log.{connect_log, with_log}
use Rattle.device_core.specs.Handled.{counted_by, number_now, Moves, answer_from, handled_call, handled_looked, handled_said, is_running, kept_behind, kept_for}
use Rattle.device_core.specs.Handled.{partner_of, starting_of}
use Rattle.device_core.specs.Machine.{Stepped}
use Rattle.controller_messages.specs.declared.setup.Setup.{Setup}
use Rattle.controller_messages.specs.declared.request.Request.TheVariants as asks
use Rattle.controller_messages.specs.Requests.{blocks_of, call_for}
use Rattle.end_laws.specs.hearing.Hearing.{comes}
use Rattle.both_ends.specs.startup.request.Request.{request_for}
use Rattle.both_ends.specs.startup.answer.Answer.{answer_frame, caller_of}
use Rattle.rounds_law.proofs.Numbers.{number_few}
use Rattle.rounds_law.specs.Path.{AsksNothing, HasRelation, IsAddressed, IsFree, device_step, request_to}
use Rattle.rounds_law.specs.Start.{IsOfPlan}
use Rattle.rounds_law.proofs.AskedUnits.{unasked_new}
use Rattle.rounds_law.proofs.DeviceCallingSteps.{first_new, kept_first, step_is}

pub is_connect : operation_of 0 ≡ Some Connect
unfolding operation_of
is_connect = refl

-- what the device does then
abbrev pub IsConnected : Setup → Identity → Station → Live → Stepped → Type 0
IsConnected setup identity station live step =
    (step.frames ≡ answer_frame setup identity station.options (number_now station live) setup.plan.station.suite.address ∷ [])
    × (step.live.values ≡ live.values)
    × HasRelation setup (number_now station live) Started [] 0 0 step.live

module _ (setup : Setup) (identity : Identity) (station : Station) (live : Live) where
  abbrev caller : Caller
  caller = caller_of setup.plan.controller

  abbrev call : Call
  call = call_for setup asks.Connect

  abbrev blocks : List ℕ
  blocks = blocks_of setup asks.Connect

  -- the answer, its octets, the relation, and the state after it
  abbrev outcome : Identity → Real → Option RelationState → Result (List ℕ) CallFault
  outcome i real link = connect_answer i real station.options (number_now station live) caller.mac link blocks

  abbrev message : Identity → Real → List ℕ → Option RelationState → Sent
  message i real address link = answer_from address caller call Connect (outcome i real link)

  abbrev sent : Sent
  sent = message station.identity live.rest.real live.values.running.suite.address live.rest.link

  abbrev link_by : Result Request CallFault → Option RelationState → Option RelationState
  link_by asked link = updated (making live.rest.real (partner_of caller) station.options (starting_of station live) asked) link

  abbrev link_after : Option RelationState → Option RelationState
  link_after link = link_by (connect_within station.options caller.mac link blocks) link

  abbrev rest : Rest
  rest =
      let answer = outcome station.identity live.rest.real live.rest.link in
      let logged = counted_by answer (with_log (connect_log blocks answer) live.rest) in
      kept_behind station.identity logged call sent (link_after live.rest.link)

  abbrev made : RelationState
  made =
      let request = request_for setup.plan setup.ar in
      made_of request (partner_of caller) (rows_of request live.rest.real) station.options (starting_of station live)

  is_made : live.rest.link ≡ None → connect_within station.options setup.plan.controller.mac None blocks ≡ Ok (request_for setup.plan setup.ar)
      → rest.link ≡ Some made
  is_made unrelated accepted = ap link_after unrelated ∙ ap (λ (asked : Result Request CallFault). link_by asked None) accepted

  is_handled : IsFree setup live → handled_said station live caller (Calls call) ≡ Moves rest (sent ∷ [])
  is_handled free =
      ap (λ (o : Option Operation). handled_call station live caller call o) is_connect
      ∙ (ap (λ (l : Looked). handled_looked station live caller call blocks Connect l) (first_new setup.activity 0 live.rest.calls free.uncalled)
      ∙ unasked_new station live caller call blocks Connect free.unasked)

  frames_are : station.identity ≡ identity → live.rest.real ≡ setup.plan.real → IsAddressed setup live → live.rest.link ≡ None
      → map (bytes_of station.identity) (sent ∷ []) ≡ answer_frame setup identity station.options (number_now station live) setup.plan.station.suite.address ∷ []
  frames_are same plugged addressed unrelated =
      ap (λ (i : Identity). bytes_of i (message i live.rest.real live.values.running.suite.address live.rest.link) ∷ []) same
      ∙ (ap (λ (real : Real). bytes_of identity (message identity real live.values.running.suite.address live.rest.link) ∷ []) plugged
      ∙ (ap (λ suite. bytes_of identity (message identity setup.plan.real suite.address live.rest.link) ∷ []) addressed.suite
      ∙ ap (λ (link : Option RelationState). bytes_of identity (message identity setup.plan.real setup.plan.station.suite.address link) ∷ []) unrelated))

  relation : AsksNothing live → rest.link ≡ Some made
      → HasRelation setup (number_now station live) Started [] 0 0 (record { values = live.values; rest = rest })
  relation nothing has = record {
    link = made;
    has = has;
    in_phase = refl;
    request = refl;
    partner = refl;
    taken_all = refl;
    active = omega arith;
    waited = tt;
    calm = record { high = refl; low = refl };
    numbered = record { few = number_few station.options.numbers_from live.rest.made; route = refl; endpoint = refl };
    unbegun = refl;
    limit = refl;
    low_limit = omega arith;
    low_new = refl;
    kept = kept_for station.identity call sent;
    answered = kept_first (kept_for station.identity call sent) live.rest.calls;
    number = refl;
    unasked = nothing;
  }

  pub connects : (outcomes : List Outcome) → station.identity ≡ identity → IsOfPlan setup station live.rest.real → IsAddressed setup live → IsFree setup live
      → connect_within station.options setup.plan.controller.mac None blocks ≡ Ok (request_for setup.plan setup.ar)
      → heard_of station.identity (comes (request_to setup identity asks.Connect)) ≡ Reported caller setup.plan.station.suite.address (Calls call)
      → is_running live.values.running setup.plan.station.suite.address ≡ true
      → IsConnected setup identity station live (device_step outcomes station live (request_to setup identity asks.Connect))
  connects outcomes same of_plan addressed free accepted hears running =
      let stepped = step_is outcomes station live (request_to setup identity asks.Connect) caller setup.plan.station.suite.address (Calls call)
      rest (sent ∷ []) hears running (is_handled free) in
      subst (λ (step : Stepped). IsConnected setup identity station live step) (sym stepped)
      (frames_are same of_plan.plugged addressed free.unrelated, refl, relation free.unasked (is_made free.unrelated accepted))
