-- The relation of a device after a turn: it is over, it has the request, the route and the endpoint that it had, or it is one of this start.
use Rattle.std.proofs.Common.{◌≡◌, ◌⊎◌, inl, inr, ℕ, Bool, List, Option, Some, None, Result, Ok, Err, refl, sym, ap, subst, ◌∙◌}
use Rattle.std.proofs.lemmas.Option.{none-some, same_Some}
use Rattle.frame_codec.specs.declared.udp.Caller.{Caller}
use Rattle.rpc_core.specs.Cache.{Kept}
use Rattle.rpc_core.specs.Call.{Asked as Call}
use Rattle.pn_values.specs.declared.real.RealModule.{RealModule}
use Rattle.module_diff.specs.declared.changes.RealChange.{RealChange}
use Rattle.records.specs.declared.status.call_fault.CallFault.{CallFault}
use Rattle.records.specs.declared.status.operation.Operation.TheVariants.{Connect}
use Rattle.records.specs.status.Operation.{operation_of}
use Rattle.connects.specs.requests.Handled.{any_short, request_of, request_within}
use Rattle.connects.specs.requests.Request.{Request as Asked}
use Rattle.cyclic_data.specs.declared.exchange.route.Route.{Route}
use Rattle.diagnosis.specs.declared.diagnosis.Diagnosis.{Diagnosis}
use Rattle.diagnosis.specs.Queue.{is_next}
use Rattle.pn_alarms.specs.declared.message.Notice.TheVariants as notice
use Rattle.plans.specs.Connect.{connect_of as plan_connect}
use Rattle.relations.specs.Connect.{connect_of}
use Rattle.relations.specs.Diagnosed.{sent_as}
use Rattle.relations.specs.Phases.{exchanging_from, made_of, updated, with_reported}
use Rattle.relations.specs.Plugging.{first_sent, plugs_after, taken_after}
use Rattle.relations.specs.RelationState.{RelationState}
use Rattle.relations.specs.exchange.Diagnosis.{begins_with_one, diagnoses_begun, next_reported}
use Rattle.relations.specs.exchange.Flow.{Flow}
use Rattle.device_frames.specs.Heard.{Applied, Heard}
use Rattle.device_frames.specs.Sent.{Sent}
use Rattle.controller_messages.specs.declared.plug_request.PlugStep.{PlugStep}
use Rattle.controller_messages.specs.declared.plug_request.PlugStep.TheVariants.{PrmEnd, Record}
use Rattle.controller_messages.specs.declared.request.Request.{Request}
use Rattle.controller_messages.specs.declared.request.Request.TheVariants as asks
use Rattle.controller_messages.specs.declared.setup.Setup.{Setup}
use Rattle.controller_messages.specs.Requests.{blocks_of}
use Rattle.end_laws.specs.device.Turn.{IsSameOr, IsTurn, Makes, Standing, change_by, heard_low_in, standing_of}
use Rattle.end_laws.specs.hearing.Stations.{IsCalled}
use Rattle.both_ends.specs.startup.request.Request.{request_for}
use Rattle.rounds_law.specs.AnywhereSame.{AreOfNumber, IsOfStart}
use Rattle.rounds_law.proofs.AgainKept.{refused_within}
use Rattle.rounds_law.proofs.AnywhereSameHears.{IsOwnCall, IsOwnHeard, IsPlugCall, plug_asks, plug_which, which_is, which_of}
use Rattle.rounds_law.proofs.DevicePassingLeft.{frame_left}

-- ---- the Connect of this start

-- What is read, or why it is not.
abbrev Reads : Type 0
Reads = Result Asked CallFault

not_both : (request : Asked) (refusal : CallFault) (r : Reads) → r ≡ Ok request → r ≡ Err refusal → ⊥
not_both request refusal r one other = absurd cc

same_ok : (one other : Asked) (r : Reads) → r ≡ Ok one → r ≡ Ok other → one ≡ other
same_ok one other r first second = cc

within_is : (standing blocks : List ℕ) → request_within 0 (Some standing) blocks ≡ request_of (Some standing) blocks
unfolding request_within any_short
within_is standing blocks = refl

-- A device that has a relation does not accept a Connect.
pub none_before : (before : Option RelationState) (blocks : List ℕ) (request : Asked) → connect_of before blocks ≡ Ok request → before ≡ None
none_before None blocks request read = refl
none_before (Some link) blocks request read =
    let because = refused_within 0 link.request.ar.uuid blocks in
    absurd (not_both request because.0 (request_of (Some link.request.ar.uuid) blocks) read (sym (within_is link.request.ar.uuid blocks) ∙ because.1))

module _ (setup : Setup) (read : request_of None (plan_connect setup.plan setup.ar) ≡ Ok (request_for setup.plan setup.ar)) where
  -- What it accepts of this controller is the request of this start.
  pub request_is : (before : Option RelationState) (blocks : List ℕ) (request : Asked) → blocks ≡ blocks_of setup asks.Connect
      → connect_of before blocks ≡ Ok request → request ≡ request_for setup.plan setup.ar
  request_is before blocks request same accepts =
      same_ok request (request_for setup.plan setup.ar) (request_of None (plan_connect setup.plan setup.ar))
      (subst (λ (b : List ℕ). request_of None b ≡ Ok request) same
      (subst (λ (l : Option RelationState). connect_of l blocks ≡ Ok request) (none_before before blocks request accepts) accepts)) read

  -- ---- a relation that stays

  -- What counts of it is the same.
  pub record AreAlike (link after : RelationState) : Type 0 where
    pub request : after.request ≡ link.request
    pub route : after.flow.cyclic.route ≡ link.flow.cyclic.route
    pub endpoint : after.flow.endpoint ≡ link.flow.endpoint

  -- What is said of its request, its route and its endpoint.
  abbrev OfStart : Asked → Route → ℕ → Type 0
  OfStart request route endpoint = route.partner ≡ setup.plan.controller.mac → (request.ar.uuid ≡ setup.ar) × AreOfNumber route.taken_id endpoint

  alike_on : (link after : RelationState) → AreAlike link after → IsOfStart setup (Some link) → IsOfStart setup (Some after)
  alike_on link after is before =
      subst (λ (r : Asked). OfStart r after.flow.cyclic.route after.flow.endpoint) (sym is.request)
      (subst (λ (r : Route). OfStart link.request r after.flow.endpoint) (sym is.route)
      (subst (λ (n : ℕ). OfStart link.request link.flow.cyclic.route n) (sym is.endpoint) before))

  standing_alike : (link after : RelationState) → standing_of after ≡ standing_of link → AreAlike link after
  standing_alike link after same = record {
    request = ap (λ (s : Standing). s.request) same;
    route = ap (λ (s : Standing). s.route) same;
    endpoint = ap (λ (s : Standing). s.endpoint) same;
  }

  same_on : (before after : Option RelationState) → IsSameOr before after → IsOfStart setup before → IsOfStart setup after
  same_on before None is was = tt
  same_on None (Some after) (inl same) was = absurd (none-some (standing_of after) (sym same))
  same_on (Some link) (Some after) (inl same) was =
      alike_on link after (standing_alike link after (same_Some (standing_of after) (standing_of link) same)) was
  same_on before (Some after) (inr none) was = absurd cc

  -- It had a relation, which goes on so.
  goes_on : (before after : Option RelationState) (link later : RelationState) → before ≡ Some link → after ≡ Some later → AreAlike link later
      → IsOfStart setup before → IsOfStart setup after
  goes_on before after link later was becomes is start =
      subst (IsOfStart setup) (sym becomes) (alike_on link later is (subst (IsOfStart setup) was start))

  -- ---- a relation that is made

  connect_asked : (request : Request) → IsCalled request → Some (which_of request) ≡ Some Connect → request ≡ asks.Connect
  connect_asked asks.Identify called is = absurd called
  connect_asked asks.Address called is = absurd called
  connect_asked asks.Connect called is = refl
  connect_asked (asks.Write number) called is = absurd cc
  connect_asked (asks.WriteAfter number tries) called is = absurd cc
  connect_asked asks.PrmEnd called is = absurd cc
  connect_asked (asks.PrmEndAfter tries) called is = absurd cc
  connect_asked (asks.Release sequence) called is = absurd cc

  -- The blocks of a call that is a Connect are those of the Connect.
  connect_blocks_are : (caller : Caller) (call : Call) (blocks : List ℕ) → IsOwnCall setup caller call
      → operation_of call.header.operation ≡ Some Connect → call.blocks ≡ Some blocks → blocks ≡ blocks_of setup asks.Connect
  connect_blocks_are caller call blocks own connects counted =
      let asked = connect_asked own.request own.called
      (sym (which_is setup own.request own.called) ∙ (sym (ap (λ (c : Call). operation_of c.header.operation) own.is) ∙ connects)) in
      same_Some blocks (blocks_of setup asks.Connect)
      (sym counted ∙ (ap (λ (c : Call). c.blocks) own.is ∙ ap (λ (r : Request). Some (blocks_of setup r)) asked))

  -- A call after a plug is no Connect.
  plug_step : (step : PlugStep) → Some (plug_which step) ≡ Some Connect → ⊥
  plug_step (Record number) e = absurd cc
  plug_step PrmEnd e = absurd cc

  said_blocks_are : (caller : Caller) (call : Call) (blocks : List ℕ) → IsOwnCall setup caller call ⊎ IsPlugCall setup caller call
      → operation_of call.header.operation ≡ Some Connect → call.blocks ≡ Some blocks → blocks ≡ blocks_of setup asks.Connect
  said_blocks_are caller call blocks (inl own) connects counted = connect_blocks_are caller call blocks own connects counted
  said_blocks_are caller call blocks (inr plug) connects counted =
      absurd (plug_step plug.request.step (sym (plug_asks setup caller call plug) ∙ connects))

  made_on : (calls : List Kept) (before : Option RelationState) (heard : Heard) (after : Option RelationState) (sent : List Sent)
      → Makes calls before heard after sent → IsOwnHeard setup heard → IsOfStart setup after
  made_on calls before heard after sent it own =
      let by = subst (IsOwnHeard setup) it.is own in
      let same = request_is before it.blocks it.request (said_blocks_are it.caller it.call it.blocks by it.connects it.counted) it.read in
      subst (IsOfStart setup) (sym it.made)
      (subst (λ (request : Asked). IsOfStart setup (Some (made_of request it.partner it.rows it.options it.starting))) (sym same)
      (λ partner. (refl, record { number = it.starting.number; few = it.few; outputs = refl; alarms = refl })))

  -- ---- each turn

  -- A pull or a plug is said by an application.
  no_change : (real : List RealModule) (heard : Heard) (made : RealChange) → IsOwnHeard setup heard → change_by real heard ≡ Some made → ⊥
  no_change real (Applied said) made own is = own
  no_change real heard made own is = absurd cc

  -- An alarm of low priority is sent, or not.
  sent_alike : (is_sent : Bool) (flow : Flow) (link : RelationState) → flow.cyclic.route ≡ link.flow.cyclic.route → flow.endpoint ≡ link.flow.endpoint
      → IsOfStart setup (Some link) → IsOfStart setup (updated (sent_as is_sent flow link) (Some link))
  sent_alike is_sent flow link route endpoint start =
      let sent = first_sent is_sent flow.low in
      alike_on link (with_reported flow (taken_after sent link.plugs.places link.taken) (plugs_after sent flow.low.waiting link.plugs) link)
      (record { request = refl; route = route; endpoint = endpoint }) start

  pub link_on : (real now : List RealModule) (calls : List Kept) (diagnoses later : List Diagnosis) (before : Option RelationState) (heard : Heard)
      (after : Option RelationState) (sent : List Sent) → IsTurn real now calls diagnoses later before heard after sent → IsOwnHeard setup heard
      → IsOfStart setup before → IsOfStart setup after
  link_on real now calls diagnoses later before heard after sent (inl it) own start = same_on before after it.link start
  link_on real now calls diagnoses later before heard after sent (inr (inl it)) own start = made_on calls before heard after sent it own
  link_on real now calls diagnoses later before heard after sent (inr (inr (inl it))) own start = absurd (subst (IsOwnHeard setup) it.is own)
  link_on real now calls diagnoses later before heard after sent (inr (inr (inr (inl it)))) own start =
      goes_on before after it.link _ it.was it.becomes (record { request = refl; route = refl; endpoint = refl }) start
  link_on real now calls diagnoses later before heard after sent (inr (inr (inr (inr (inl it))))) own start =
      goes_on before after it.link _ it.was it.becomes (record { request = refl; route = refl; endpoint = refl }) start
  link_on real now calls diagnoses later before heard after sent (inr (inr (inr (inr (inr (inl it)))))) own start =
      goes_on before after it.link _ it.was it.becomes (record { request = refl; route = refl; endpoint = refl }) start
  link_on real now calls diagnoses later before heard after sent (inr (inr (inr (inr (inr (inr (inl it))))))) own start =
      goes_on before after it.link _ it.was it.becomes
      (record { request = refl; route = (frame_left it.link.flow.cyclic it.source it.frame_id it.body).route; endpoint = refl }) start
  link_on real now calls diagnoses later before heard after sent (inr (inr (inr (inr (inr (inr (inr (inl it)))))))) own start =
      goes_on before after it.link _ it.was it.becomes (record { request = refl; route = refl; endpoint = refl }) start
  link_on real now calls diagnoses later before heard after sent (inr (inr (inr (inr (inr (inr (inr (inr (inl it))))))))) own start =
      let link = heard_low_in it.link (notice.Data it.number it.ack) in
      subst (IsOfStart setup) (sym it.becomes)
      (sent_alike (is_next link.flow.low) (next_reported link.flow) link refl refl
      (alike_on it.link link (record { request = refl; route = refl; endpoint = refl }) (subst (IsOfStart setup) it.was start)))
  link_on real now calls diagnoses later before heard after sent (inr (inr (inr (inr (inr (inr (inr (inr (inr (inl it)))))))))) own start =
      let link = exchanging_from it.link in
      subst (IsOfStart setup) (sym it.becomes)
      (sent_alike (begins_with_one real diagnoses link.flow) (diagnoses_begun real diagnoses link.flow) link refl refl
      (alike_on it.link link (record { request = refl; route = refl; endpoint = refl }) (subst (IsOfStart setup) it.was start)))
  link_on real now calls diagnoses later before heard after sent (inr (inr (inr (inr (inr (inr (inr (inr (inr (inr (inl it))))))))))) own start =
      absurd (subst (IsOwnHeard setup) it.is own)
  link_on real now calls diagnoses later before heard after sent (inr (inr (inr (inr (inr (inr (inr (inr (inr (inr (inr it))))))))))) own start =
      absurd (no_change real heard it.made own it.is)
