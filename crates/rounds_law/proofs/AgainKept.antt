-- What a device does with the Connect of a controller while it has a relation.
use Rattle.std.proofs.Common.{◌≡◌, ℕ, zero, suc, Bool, true, false, List, [], ◌∷◌, Option, Some, None, Result, Ok, Err, refl, sym, ap, subst, ◌∙◌}
use Rattle.std.specs.Prelude.{if◌then◌else◌, nat_eq, not, take}
use Rattle.std.specs.Cmp.Lexicographic.{pointwise, same_text}
use Rattle.pn_values.specs.declared.identity.Identity.{Identity}
use Rattle.frame_codec.specs.declared.udp.Caller.{Caller}
use Rattle.wire.specs.Codec.{◌>>=◌}
use Rattle.wire.specs.Checks.{or_fault}
use Rattle.wire.proofs.Fields.{bind_ok, ok_is}
use Rattle.rpc_core.specs.Call.{Asked as Call}
use Rattle.asked_records.specs.Asked.{is_repeat}
use Rattle.rpc_core.specs.Cache.{Kept, Reported as Looked, is_of, kept_more, kept_of, without}
use Rattle.rpc_core.specs.Response.{is_done}
use Rattle.rpc_core.specs.declared.response.Status.{Status}
use Rattle.connects.specs.declared.requests.parts.Ar.{Ar}
use Rattle.connects.specs.requests.Request.{Request}
use Rattle.connects.specs.requests.Pieces.{Piece, pieces_of}
use Rattle.connects.specs.requests.Handled.{Sofar, admitted, any_short, ar_in, conflict, nothing, request_behind, request_in, request_of, request_with, request_within, with_pieces}
use Rattle.connects.specs.requests.Layouts.{data_of, in_order, layout_of}
use Rattle.records.specs.declared.status.call_fault.CallFault.{CallFault}
use Rattle.records.specs.declared.status.call_fault.CallFault.TheVariants as fault
use Rattle.records.specs.declared.status.operation.Operation.{Operation}
use Rattle.records.specs.declared.status.operation.Operation.TheVariants.{Connect}
use Rattle.records.specs.calls.Handled.{handled}
use Rattle.records.specs.status.Status.{status_of}
use Rattle.settings_journal.specs.settings_store.Machine.{Outcome}
use Rattle.relations.specs.Connect.{connect_answer, connect_blocks, connect_within, differing_of, making}
use Rattle.relations.specs.Phases.{updated}
use Rattle.relations.specs.RelationState.{RelationState}
use Rattle.device_frames.specs.Heard.{Calls, Reported, heard_of}
use Rattle.device_frames.specs.Sendable.{AreSendable}
use Rattle.device_frames.specs.Sent.{Sent, bytes_of}
use Rattle.device_core.specs.State.{Live, Rest, Station}
use Rattle.device_core.specs.Log.{connect_log, with_log}
use Rattle.device_core.specs.Handled.{counted_by, number_now, Moves, answer_from, handled_call, handled_looked, handled_said}
use Rattle.device_core.specs.Handled.{is_running, kept_behind, kept_for, partner_of, starting_of}
use Rattle.device_core.specs.Machine.{Stepped}
use Rattle.controller_messages.specs.declared.setup.Setup.{Setup}
use Rattle.controller_messages.specs.declared.request.Request.TheVariants as asks
use Rattle.controller_messages.specs.Requests.{blocks_of, call_for}
use Rattle.controller_core.specs.start_up.Answers.{is_state_conflict}
use Rattle.end_laws.specs.hearing.Hearing.{comes}
use Rattle.both_ends.specs.startup.answer.Answer.{caller_of}
use Rattle.rounds_law.specs.Path.{IsAddressed, device_step, request_to}
use Rattle.rounds_law.specs.Again.{IsRefusal}
use Rattle.rounds_law.proofs.DeviceCallingSteps.{first_new, step_is}
use Rattle.rounds_law.proofs.AskedUnits.{unrepeated}
use Rattle.rounds_law.proofs.DeviceCallingConnected.{is_connect}

-- ---- no relation is established while one exists

refused_ar : (standing : List ℕ) (pieces : List Piece) (read : Result Ar CallFault)
    → (refusal : CallFault) × ((read >>= λ ar. admitted (Some standing) ar >>= λ _. request_behind ar pieces) ≡ Err refusal)
refused_ar standing pieces (Ok ar) = (conflict standing ar.uuid, refl)
refused_ar standing pieces (Err refusal) = (refusal, refl)

refused_pieces : (standing : List ℕ) (pieces : List Piece) → (refusal : CallFault) × (request_in (Some standing) pieces ≡ Err refusal)
unfolding request_in
refused_pieces standing [] = (fault.BlockMissing, refl)
refused_pieces standing (piece ∷ pieces) = refused_ar standing pieces (ar_in piece)

pub refused_within : (smallest : ℕ) (standing blocks : List ℕ) → (refusal : CallFault) × (request_within smallest (Some standing) blocks ≡ Err refusal)
unfolding request_within request_of any_short
refused_within smallest standing blocks = refused_pieces standing (pieces_of blocks)

-- ---- the relation that exists is another one

ar_behind : (ar : Ar) (sofar : Sofar) (request : Request) → request_with ar sofar ≡ Ok request → request.ar ≡ ar
unfolding request_with
ar_behind ar sofar request e =
    let first = bind_ok (handled ((not sofar.has_expected, fault.BlockMissing) ∷ []) (or_fault fault.IocrMissing sofar.input)) _ request e in
    let second = bind_ok (or_fault fault.IocrMissing sofar.output) _ request first.2 in
    let third = bind_ok (or_fault fault.AlarmCrMissing sofar.alarm) _ request second.2 in
    let fourth = bind_ok (in_order sofar.input_first (layout_of (data_of sofar.expected) first.0) (layout_of (data_of sofar.expected) second.0)) _ request third.2 in
    ap (λ (r : Request). r.ar) (sym (ok_is {F = CallFault} _ request fourth.2))

conflicts : (pieces : List Piece) (request : Request) (standing : List ℕ) → request_in None pieces ≡ Ok request
    → request_in (Some standing) pieces ≡ Err (conflict standing request.ar.uuid)
unfolding request_in request_behind
conflicts [] request standing e = absurd cc
conflicts (piece ∷ pieces) request standing e =
    let first = bind_ok (ar_in piece) _ request e in
    let rest = bind_ok (with_pieces nothing pieces) (λ (sofar : Sofar). request_with first.0 sofar) request first.2 in
    ap (λ (read : Result Ar CallFault). read >>= λ ar. admitted (Some standing) ar >>= λ _. request_behind ar pieces) first.1
    ∙ ap (λ (ar : Ar). let answer : Result Request CallFault = Err (conflict standing ar.uuid) in answer) (sym (ar_behind first.0 rest.0 request rest.2))

-- A Connect that a device without a relation accepts is refused for the relation that exists.
pub conflicts_within : (smallest : ℕ) (standing blocks : List ℕ) (request : Request) → request_of None blocks ≡ Ok request
    → request_within smallest (Some standing) blocks ≡ Err (conflict standing request.ar.uuid)
unfolding request_within request_of any_short
conflicts_within smallest standing blocks request e = conflicts (pieces_of blocks) request standing e

-- If that is another one, the status is not State conflict.
pub other_status : (standing asked : List ℕ) → (asked ≡ standing → ⊥) → is_state_conflict (status_of Connect (conflict standing asked)) ≡ false
unfolding status_of
other_status standing asked other = by_test (pointwise nat_eq asked standing) refl
  where
    by_test : (is : Bool) → pointwise nat_eq asked standing ≡ is
        → is_state_conflict (status_of Connect (if is then fault.RelationExists else fault.OtherRelationExists)) ≡ false
    by_test true e = absurd (other (same_text asked standing (sym e)))
    by_test false e = refl

-- what the device does then, with such a status
abbrev pub IsRefused : (Status → Type 0) → Setup → Identity → Live → Stepped → Type 0
IsRefused Is setup identity live step =
    (octets : List ℕ) × (step.frames ≡ octets ∷ []) × ((refusal : IsRefusal setup identity octets) × Is refusal.status)
    × (step.live.values ≡ live.values) × (step.live.rest.link ≡ live.rest.link)
    × ((activity : List ℕ) → (activity ≡ setup.activity → ⊥) → kept_of activity live.rest.calls ≡ None → kept_of activity step.live.rest.calls ≡ None)
    × (step.live.rest.asked ≡ live.rest.asked)

-- ---- the answers to other calls

other_kept : (activity : List ℕ) (kept : Kept) (others : List Kept) → (activity ≡ kept.activity → ⊥)
    → kept_of activity (kept ∷ others) ≡ kept_of activity others
other_kept activity kept others other = by_test (is_of activity kept) refl
  where
    by_test : (is : Bool) → is_of activity kept ≡ is → (if is then Some kept else kept_of activity others) ≡ kept_of activity others
    by_test true e = absurd (other (sym (same_text kept.activity activity (sym e))))
    by_test false e = refl

none_first : (is : Bool) (kept : Kept) (rest : Option Kept) → (if is then Some kept else rest) ≡ None → (is ≡ false) × (rest ≡ None)
none_first true kept rest e = absurd cc
none_first false kept rest e = (refl, e)

none_taken : (activity : List ℕ) (n : ℕ) (calls : List Kept) → kept_of activity calls ≡ None → kept_of activity (take n calls) ≡ None
none_taken activity zero calls none = refl
none_taken activity (suc n) [] none = refl
none_taken activity (suc n) (kept ∷ calls) none =
    let both = none_first (is_of activity kept) kept (kept_of activity calls) none in
    ap (λ (is : Bool). if is then Some kept else kept_of activity (take n calls)) both.0 ∙ none_taken activity n calls both.1

none_without : (activity other : List ℕ) (calls : List Kept) → kept_of activity calls ≡ None → kept_of activity (without other calls) ≡ None
none_without activity other [] none = refl
none_without activity other (kept ∷ calls) none =
    let both = none_first (is_of activity kept) kept (kept_of activity calls) none in
    either (is_of other kept) both (none_without activity other calls both.1)
  where
    either : (is : Bool) → (is_of activity kept ≡ false) × (kept_of activity calls ≡ None) → kept_of activity (without other calls) ≡ None
        → kept_of activity (if is then calls else kept ∷ without other calls) ≡ None
    either true both later = both.1
    either false both later = ap (λ (b : Bool). if b then Some kept else kept_of activity (without other calls)) both.0 ∙ later

pub none_more : (activity : List ℕ) (kept : Kept) (calls : List Kept) → (activity ≡ kept.activity → ⊥)
    → kept_of activity calls ≡ None → kept_of activity (kept_more 4 kept calls) ≡ None
none_more activity kept calls other none =
    other_kept activity kept (take 3 (without kept.activity calls)) other
    ∙ none_taken activity 3 (without kept.activity calls) (none_without activity kept.activity calls none)

module _ (setup : Setup) (identity : Identity) (station : Station) (live : Live) where
  abbrev caller : Caller
  caller = caller_of setup.plan.controller

  abbrev call : Call
  call = call_for setup asks.Connect

  abbrev blocks : List ℕ
  blocks = blocks_of setup asks.Connect

  abbrev outcome : Option RelationState → Result (List ℕ) CallFault
  outcome link = connect_answer station.identity live.rest.real station.options (number_now station live) caller.mac link blocks

  abbrev sent : Sent
  sent = answer_from live.values.running.suite.address caller call Connect (outcome live.rest.link)

  abbrev link_by : Result Request CallFault → Option RelationState
  link_by asked = updated (making live.rest.real (partner_of caller) station.options (starting_of station live) asked) live.rest.link

  abbrev rest : Rest
  rest = kept_behind station.identity (counted_by (outcome live.rest.link) (with_log (connect_log blocks (outcome live.rest.link)) live.rest)) call sent
      (link_by (connect_within station.options caller.mac live.rest.link blocks))

  is_handled : kept_of setup.activity live.rest.calls ≡ None → is_repeat setup.activity 0 live.rest.asked ≡ false
      → handled_said station live caller (Calls call) ≡ Moves rest (sent ∷ [])
  is_handled free unasked =
      ap (λ (o : Option Operation). handled_call station live caller call o) is_connect
      ∙ (ap (λ (l : Looked). handled_looked station live caller call blocks Connect l) (first_new setup.activity 0 live.rest.calls free)
      ∙ unrepeated station live caller call blocks Connect unasked)

  pub refused_by : (link : RelationState) → live.rest.link ≡ Some link → (refusal : CallFault)
      × (connect_within station.options caller.mac live.rest.link blocks ≡ Err refusal)
  refused_by link has =
      let because = refused_within station.options.smallest_interval link.request.ar.uuid blocks in
      (because.0, ap (λ (l : Option RelationState). connect_within station.options caller.mac l blocks) has ∙ because.1)

  -- The Connect of this start is accepted without a relation, and the relation is not of this start.
  pub refused_other : (link : RelationState) → live.rest.link ≡ Some link → (request : Request) → request_of None blocks ≡ Ok request
      → connect_within station.options caller.mac live.rest.link blocks ≡ Err (conflict link.request.ar.uuid request.ar.uuid)
  refused_other link has request reads =
      ap (λ (l : Option RelationState). connect_within station.options caller.mac l blocks) has
      ∙ conflicts_within station.options.smallest_interval link.request.ar.uuid blocks request reads

  pub refuses : (Is : Status → Type 0) (because : CallFault) → Is (status_of Connect because)
      → connect_within station.options caller.mac live.rest.link blocks ≡ Err because
      → (outcomes : List Outcome) → station.identity ≡ identity → IsAddressed setup live
      → kept_of setup.activity live.rest.calls ≡ None → is_repeat setup.activity 0 live.rest.asked ≡ false
      → ((operation : Operation) (refusal : CallFault) → is_done (status_of operation refusal) ≡ false)
      → heard_of station.identity (comes (request_to setup identity asks.Connect)) ≡ Reported caller setup.plan.station.suite.address (Calls call)
      → is_running live.values.running setup.plan.station.suite.address ≡ true
      → AreSendable identity (device_step outcomes station live (request_to setup identity asks.Connect)).sent
      → IsRefused Is setup identity live (device_step outcomes station live (request_to setup identity asks.Connect))
  refuses Is because is refused outcomes same addressed uncalled unasked negative hears running sendable =
      let stepped = step_is outcomes station live (request_to setup identity asks.Connect) caller setup.plan.station.suite.address
      (Calls call) rest (sent ∷ []) hears running
      (is_handled uncalled unasked) in
      let message = ap (λ (asked : Result Request CallFault). answer_from live.values.running.suite.address caller call Connect
      (asked >>= λ request. Ok (connect_blocks station.identity (number_now station live) request (differing_of request live.rest.real)))) refused
      ∙ ap (λ suite. answer_from suite.address caller call Connect (Err because)) addressed.suite in
      subst (λ (step : Stepped). IsRefused Is setup identity live step) (sym stepped) (
        bytes_of station.identity sent,
        refl,
        (
          record {
            status = status_of Connect because;
            negative = negative Connect because;
            fits = (subst (λ (messages : List Sent). AreSendable identity messages)
                (ap (λ (step : Stepped). step.sent) stepped ∙ ap (λ (s : Sent). s ∷ []) message) sendable).0.1;
            frame = ap (λ (s : Sent). bytes_of station.identity s) message
                ∙ ap (λ (i : Identity). bytes_of i (answer_from setup.plan.station.suite.address caller call Connect (Err because))) same;
          },
          is,
        ),
        refl,
        ap link_by refused,
        λ activity other none. none_more activity (kept_for station.identity call sent) live.rest.calls other none,
        refl,
      )
