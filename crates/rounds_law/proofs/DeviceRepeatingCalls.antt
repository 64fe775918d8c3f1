-- A call that comes again at a device.
use Rattle.std.proofs.Common.{◌≡◌, ◌<◌, ◌==◌, ℕ, Bool, true, List, [], ◌∷◌, Option, Some, refl, sym, ap, subst, ◌∙◌, arith}
use Rattle.std.specs.Prelude.{nat_lt, if◌then◌else◌}
use Rattle.std.proofs.lemmas.Bool.{eq-eqb, ne_eqb}
use Rattle.std.proofs.lemmas.Bool.Decides.{nat_tests}
use Rattle.pn_values.specs.declared.identity.Identity.{Identity}
use Rattle.frame_codec.specs.declared.udp.Caller.{Caller}
use Rattle.rpc_core.specs.Call.{Asked as Call}
use Rattle.rpc_core.specs.Cache.{Kept, Reported as Looked, kept_of, looked, new, old, reported_by}
use Rattle.rpc_core.specs.Cache as cache
use Rattle.records.specs.declared.status.operation.Operation.{Operation}
use Rattle.records.specs.declared.status.operation.Operation.TheVariants.{Connect, Control, Release, Write}
use Rattle.records.specs.status.Operation.{operation_of}
use Rattle.settings_journal.specs.settings_store.Machine.{Outcome}
use Rattle.device_frames.specs.declared.note.Note.{Note}
use Rattle.device_frames.specs.declared.note.Note.TheVariants as note
use Rattle.device_frames.specs.Heard.{Calls, Heard, Reported, heard_of}
use Rattle.device_frames.specs.Sent.{Again}
use Rattle.device_core.specs.State.{Live, Station}
use Rattle.device_core.specs.Asking.{is_kept, looked_if}
use Rattle.relations.specs.declared.options.DeviceOptions.{DeviceOptions}
use Rattle.device_core.specs.Handled.{Handled, Refuses, handled_call, handled_looked, handled_said, is_running}
use Rattle.device_core.specs.Machine.{Stepped, handled_step, heard_step}
use Rattle.controller_messages.specs.declared.setup.Setup.{Setup}
use Rattle.controller_messages.specs.declared.request.Request.{Request}
use Rattle.controller_messages.specs.declared.request.Request.TheVariants as asks
use Rattle.controller_messages.specs.Requests.{blocks_of, call_for, sequence_of}
use Rattle.controller_messages.specs.Requests.{operation_of as operation_in}
use Rattle.controller_messages.specs.Sent.{call_frame}
use Rattle.end_laws.specs.hearing.Hearing.{comes}
use Rattle.end_laws.specs.hearing.Stations.{IsCalled}
use Rattle.both_ends.specs.startup.answer.Answer.{caller_of}
use Rattle.rounds_law.specs.Path.{device_step, request_to}
use Rattle.rounds_law.proofs.Choices.{where_so}
use Rattle.rounds_law.proofs.DeviceCallingSteps.{step_is}

-- These frames are sent, and nothing changes.
abbrev pub Leaves : Live → List (List ℕ) → Stepped → Type 0
Leaves live frames step = (step.frames ≡ frames) × (step.live ≡ live)

-- ---- what the stored answers say

looked_again : (activity : List ℕ) (sequence : ℕ) (calls : List Kept) (kept : Kept) → kept_of activity calls ≡ Some kept → sequence ≡ kept.sequence
    → looked activity sequence calls ≡ cache.again kept.frame
looked_again activity sequence calls kept answered same =
    ap (λ (o : Option Kept). reported_by sequence o) answered
    ∙ where_so (sequence == kept.sequence) (cache.again kept.frame) (if nat_lt sequence kept.sequence then old else new)
    (eq-eqb sequence kept.sequence same)

is_less : (a b : ℕ) → a < b → nat_lt a b ≡ true
is_less a b less = grind (arith, nat_tests)

looked_old : (activity : List ℕ) (sequence : ℕ) (calls : List Kept) (kept : Kept) → kept_of activity calls ≡ Some kept → sequence < kept.sequence
    → looked activity sequence calls ≡ old
looked_old activity sequence calls kept answered less =
    ap (λ (o : Option Kept). reported_by sequence o) answered
    ∙ (ap (λ (b : Bool). if b then cache.again kept.frame else (if nat_lt sequence kept.sequence then old else new))
    (ne_eqb sequence kept.sequence (λ e. omega (arith, e, less)))
    ∙ where_so (nat_lt sequence kept.sequence) old new (is_less sequence kept.sequence less))

-- ---- the calls of the plan's controller

-- each call has an operation, and its octets are those of a call; it is answered again when it is repeated
operates : (request : Request) → IsCalled request
    → (operation : Operation) × (operation_of (operation_in request) ≡ Some operation) × ((options : DeviceOptions) → is_kept options operation ≡ true)
unfolding operation_of
operates asks.Identify called = absurd called
operates asks.Address called = absurd called
operates asks.Connect called = (Connect, refl, λ options. refl)
operates (asks.Write number) called = (Write, refl, λ options. refl)
operates asks.PrmEnd called = (Control, refl, λ options. refl)
operates (asks.WriteAfter number tries) called = (Write, refl, λ options. refl)
operates (asks.PrmEndAfter tries) called = (Control, refl, λ options. refl)
operates (asks.Release sequence) called = (Release, refl, λ options. refl)

pub is_call : (setup : Setup) (identity : Identity) (request : Request) → IsCalled request
    → request_to setup identity request ≡ call_frame setup identity.mac (call_for setup request)
is_call setup identity asks.Identify called = absurd called
is_call setup identity asks.Address called = absurd called
is_call setup identity asks.Connect called = refl
is_call setup identity (asks.Write number) called = refl
is_call setup identity asks.PrmEnd called = refl
is_call setup identity (asks.WriteAfter number tries) called = refl
is_call setup identity (asks.PrmEndAfter tries) called = refl
is_call setup identity (asks.Release sequence) called = refl

module _ (setup : Setup) (identity : Identity) (outcomes : List Outcome) (station : Station) (live : Live) (request : Request) (kept : Kept)
    (called : IsCalled request) (answered : kept_of setup.activity live.rest.calls ≡ Some kept)
    (hears : heard_of station.identity (comes (request_to setup identity request))
    ≡ Reported (caller_of setup.plan.controller) setup.plan.station.suite.address (Calls (call_for setup request)))
    (running : is_running live.values.running setup.plan.station.suite.address ≡ true) where
  abbrev caller : Caller
  caller = caller_of setup.plan.controller

  abbrev call : Call
  call = call_for setup request

  by_looked : (what : Looked) → looked setup.activity (sequence_of setup.plan request) live.rest.calls ≡ what
      → handled_said station live caller (Calls call) ≡ handled_looked station live caller call (blocks_of setup request) (operates request called).0 what
  by_looked what is =
      ap (λ (o : Option Operation). handled_call station live caller call o) (operates request called).1
      ∙ (ap (λ (kept : Bool). handled_looked station live caller call (blocks_of setup request) (operates request called).0
      (looked_if kept setup.activity (sequence_of setup.plan request) live.rest.calls)) ((operates request called).2 station.options)
      ∙ ap (λ (l : Looked). handled_looked station live caller call (blocks_of setup request) (operates request called).0 l) is)

  pub again_answered : sequence_of setup.plan request ≡ kept.sequence
      → Leaves live (kept.frame ∷ []) (device_step outcomes station live (request_to setup identity request))
  again_answered same =
      subst (λ (step : Stepped). Leaves live (kept.frame ∷ []) step)
      (sym (step_is outcomes station live (request_to setup identity request) caller setup.plan.station.suite.address (Calls call) live.rest
      (Again kept.frame ∷ []) hears running
      (by_looked (cache.again kept.frame) (looked_again setup.activity (sequence_of setup.plan request) live.rest.calls kept answered same))))
      (refl, refl)

  refused : (why : Note) → handled_said station live caller (Calls call) ≡ Refuses why
      → device_step outcomes station live (request_to setup identity request) ≡ handled_step outcomes station live (Refuses why)
  unfolding heard_step
  refused why handles =
      ap (λ (h : Heard). heard_step outcomes station live h) hears
      ∙ ap (λ (what : Handled). handled_step outcomes station live what)
      (where_so (is_running live.values.running setup.plan.station.suite.address) (handled_said station live caller (Calls call)) (Refuses note.NotMine) running
      ∙ handles)

  pub old_unanswered : sequence_of setup.plan request < kept.sequence
      → Leaves live [] (device_step outcomes station live (request_to setup identity request))
  unfolding handled_step
  old_unanswered less =
      subst (λ (step : Stepped). Leaves live [] step)
      (sym (refused note.OldCall
      (by_looked old (looked_old setup.activity (sequence_of setup.plan request) live.rest.calls kept answered less))))
      (refl, refl)
