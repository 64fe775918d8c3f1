-- The call that ends the parameters of a place after its plug is no call of a start-up.
use Rattle.std.proofs.Common.{◌≡◌, ◌⊎◌, inl, inr, ◌==◌, ◌<◌, ◌&&◌, ℕ, Bool, true, false, cond, List, [], ◌∷◌, map, Some, refl, sym, ap, subst, ◌∙◌, arith}
use Rattle.std.specs.List.{AllByRecursion}
use Rattle.pn_values.specs.declared.identity.Identity.{Identity}
use Rattle.pn_values.specs.declared.mac.Mac.{Mac}
use Rattle.frame_codec.specs.declared.udp.Caller.{Caller}
use Rattle.frame_codec.specs.Calls.{calls_at}
use Rattle.frame_codec.specs.Sendable.{IsMac}
use Rattle.wire.specs.blocks.Fields.{number_bytes, octet_bytes, zeros}
use Rattle.rpc_core.specs.Call.{Asked as Called}
use Rattle.connect_blocks.specs.declared.plug_control.PlugControlBlock.{PlugControlBlock}
use Rattle.connect_blocks.specs.PlugControl.{plug_control}
use Rattle.block_codec.specs.declared.block.Block.TheVariants as variant
use Rattle.block_codec.specs.Block.{block_bytes}
use Rattle.records.specs.status.Operation.{operation_of}
use Rattle.device_frames.specs.declared.event.Event.TheVariants.{Frame}
use Rattle.device_frames.specs.Heard.{Calls, Elsewhere, Reported, heard_of, is_own}
use Rattle.device_core.specs.State.{Station}
use Rattle.controller_messages.specs.declared.plug_request.PlugRequest.{PlugRequest}
use Rattle.controller_messages.specs.declared.plug_request.PlugStep.{PlugStep}
use Rattle.controller_messages.specs.declared.plug_request.PlugStep.TheVariants.{Record, PrmEnd}
use Rattle.controller_messages.specs.declared.request.Request.{Request}
use Rattle.controller_messages.specs.declared.request.Request.TheVariants as asks
use Rattle.controller_messages.specs.declared.setup.Setup.{Setup}
use Rattle.controller_messages.specs.PlugRequests.{plug_blocks, plug_call, plug_end, plug_operation}
use Rattle.controller_messages.specs.Requests.{blocks_of, call_for, control_of, write_count}
use Rattle.controller_messages.specs.Sent.{Sent, Requests, Accesses, Parametrizes, Agrees, Cycles, Confirms, Replies, Ends, bytes_of}
use Rattle.end_laws.specs.both.Small as small
use Rattle.end_laws.specs.both.Steps.{SaysToDevice}
use Rattle.end_laws.specs.controller.Small.{said_by}
use Rattle.end_laws.specs.device.Small.{Planned, heard_as, said_to}
use Rattle.end_laws.specs.device.Small as device
use Rattle.end_laws.specs.hearing.Stations.{IsSetup}
use Rattle.end_laws.specs.sending.Addressed.{IsAimedAt}
use Rattle.both_ends.specs.startup.View.{IsSaidAs, is_planned, rules_of, says_to_device}
use Rattle.both_ends.proofs.StartupGiven.{HeardSo}
use Rattle.octets_law.specs.Octets.{number}
use Rattle.startup_octets.proofs.Blocks.{prm_end_read}
use Rattle.startup_octets.proofs.SmallSteps.{calls_no_access}

-- It is PrmEnd after a plug.
pub record IsPlugEnd (setup : Setup) (call : Called) : Type 0 where
  pub request : PlugRequest
  pub ends : request.step ≡ PrmEnd
  pub is : call ≡ plug_call setup request

-- The device hears no such call in a frame.
abbrev pub IsNoPlugEnd : Setup → Identity → List ℕ → Type 0
IsNoPlugEnd setup identity frame =
    (caller : Caller) (address : List ℕ) (call : Called) → heard_of identity (Frame (record { items = frame })) ≡ Reported caller address (Calls call) → IsPlugEnd setup call → ⊥

-- ---- its block

end_block : (value : PlugControlBlock) → number 0 2 ((plug_control 0x0111).write value []) ≡ 0x0111
unfolding plug_control number_bytes octet_bytes zeros
end_block value = refl

some_list : (one other : List ℕ) → Some one ≡ Some other → one ≡ other
some_list one other e = cc

other_type : (one other : ℕ) → one ≡ 0x0110 → other ≡ 0x0111 → one ≡ other → ⊥
other_type one other first second same = omega (arith, first, second, same)

-- PrmEnd of the start-up has a block of another type.
start_up_end : (setup : Setup) → IsSetup setup → (step : PlugStep) (request : PlugRequest) → step ≡ PrmEnd
    → block_bytes (variant.PrmEnd (control_of setup 1)) ≡ plug_blocks setup request step → ⊥
start_up_end setup good PrmEnd request ends same =
    other_type (number 0 2 (block_bytes (variant.PrmEnd (control_of setup 1)))) (number 0 2 (plug_blocks setup request PrmEnd))
    (prm_end_read (control_of setup 1) good.ar).type_is (end_block (plug_end setup request.number)) (ap (number 0 2) same)
start_up_end setup good (Record which) request ends same = absurd cc

-- ---- what a device hears

ends_as : (planned : Planned) (sequence : ℕ) (blocks : List ℕ) (step : PlugStep) → step ≡ PrmEnd
    → device.asked_by planned sequence blocks (operation_of (plug_operation step)) ≡ small.Call sequence small.Parameterized
unfolding operation_of
ends_as planned sequence blocks PrmEnd ends = refl
ends_as planned sequence blocks (Record which) ends = absurd cc

pub end_heard : (setup : Setup) (planned : Planned) (call : Called) → IsPlugEnd setup call → said_to planned (Calls call) ≡ small.Call call.header.sequence small.Parameterized
end_heard setup planned call it =
    subst (λ (c : Called). said_to planned (Calls c) ≡ small.Call c.header.sequence small.Parameterized) (sym it.is)
    (ends_as planned it.request.sequence (plug_blocks setup it.request it.request.step) it.request.step it.ends)

-- What says nothing to the device is no such call.
pub idle_no_end : (setup : Setup) (identity : Identity) (planned : Planned) (frame : List ℕ) → heard_as planned (heard_of identity (Frame (record { items = frame }))) ≡ small.Idle
    → IsNoPlugEnd setup identity frame
idle_no_end setup identity planned frame idle caller address call is it = no_call call.header.sequence (sym idle ∙ (ap (heard_as planned) is ∙ end_heard setup planned call it))
  where
    no_call : (sequence : ℕ) → small.Idle ≡ small.Call sequence small.Parameterized → ⊥
    no_call sequence e = absurd cc

-- ---- what a controller sends before data is exchanged

same_call : (caller other : Caller) (address to : List ℕ) (one more : Called) → Reported caller address (Calls one) ≡ Reported other to (Calls more) → one ≡ more
same_call caller other address to one more e = cc

module _ (so : HeardSo) (setup : Setup) (station : Station) (good : IsSetup setup) where
  -- a call of the start-up with the block of PrmEnd
  heard_no_end : (request : Request) → blocks_of setup request ≡ block_bytes (variant.PrmEnd (control_of setup 1)) → (caller other : Caller) (address to : List ℕ)
      (call : Called) → IsPlugEnd setup call → (b : Bool)
      → cond b (Reported other to (Calls (call_for setup request))) Elsewhere ≡ Reported caller address (Calls call) → ⊥
  heard_no_end request blocks caller other address to call it true e =
      let same : call_for setup request ≡ plug_call setup it.request = same_call other caller to address (call_for setup request) call e ∙ it.is in
      start_up_end setup good it.request.step it.request it.ends (sym blocks ∙ some_list _ _ (ap (λ (c : Called). c.blocks) same))
  heard_no_end request blocks caller other address to call it false e = absurd cc

  own_end : (to : Mac) → IsMac to → IsNoPlugEnd setup station.identity (bytes_of setup (Requests to asks.PrmEnd))
  own_end to six caller address call is it =
      heard_no_end asks.PrmEnd refl caller _ address _ call it (is_own station.identity to && (calls_at setup.plan.station.suite.address).port == 34964)
      (sym (so.call_at_device station.identity setup to (call_for setup asks.PrmEnd) good six (so.call_can setup asks.PrmEnd good tt tt)) ∙ is)

  own_end_after : (tries : ℕ) → tries < 65536 → (to : Mac) → IsMac to
      → IsNoPlugEnd setup station.identity (bytes_of setup (Requests to (asks.PrmEndAfter tries)))
  own_end_after tries few to six caller address call is it =
      heard_no_end (asks.PrmEndAfter tries) refl caller _ address _ call it
      (is_own station.identity to && (calls_at setup.plan.station.suite.address).port == 34964)
      (sym (so.call_at_device station.identity setup to (call_for setup (asks.PrmEndAfter tries)) good six (so.call_can setup (asks.PrmEndAfter tries) good tt few)) ∙ is)

  says_no_end : (now : small.Controller) → (now ≡ small.Exchanges → ⊥) → (message : Sent) → IsAimedAt station.identity.mac message → SaysToDevice (write_count setup.plan) now (said_by setup.plan message)
      → (sequence : ℕ) → says_to_device setup message ≡ small.Call sequence small.Parameterized → IsNoPlugEnd setup station.identity (bytes_of setup message)
  says_no_end now not (Requests to asks.PrmEnd) aimed says sequence e = own_end to aimed.0
  says_no_end now not (Requests to (asks.PrmEndAfter tries)) aimed says sequence e = own_end_after tries aimed.1 to aimed.0
  says_no_end now not (Requests to (asks.WriteAfter which tries)) aimed says sequence e = absurd cc
  says_no_end now not (Requests to asks.Identify) aimed says sequence e = absurd cc
  says_no_end now not (Requests to asks.Address) aimed says sequence e = absurd cc
  says_no_end now not (Requests to asks.Connect) aimed says sequence e = absurd cc
  says_no_end now not (Requests to (asks.Write which)) aimed says sequence e = absurd cc
  says_no_end now not (Requests to (asks.Release which)) aimed says sequence e = absurd cc
  says_no_end now not (Accesses to request octets) aimed says sequence e = absurd (calls_no_access (rules_of setup station) now not request.sequence says)
  says_no_end now not (Parametrizes to request) aimed says sequence e = absurd (calls_no_access (rules_of setup station) now not request.sequence says)
  says_no_end now not (Agrees caller answer) aimed says sequence e = absurd cc
  says_no_end now not (Cycles route shown counter) aimed says sequence e = absurd cc
  says_no_end now not (Confirms route priority header ack) aimed says sequence e = absurd cc
  says_no_end now not (Replies route priority header) aimed says sequence e = absurd cc
  says_no_end now not (Ends route header reason) aimed says sequence e = absurd cc

  message_no_end : (now : small.Controller) → (now ≡ small.Exchanges → ⊥) → (message : Sent) → IsAimedAt station.identity.mac message → IsSaidAs setup station message
      → SaysToDevice (write_count setup.plan) now (said_by setup.plan message) → IsNoPlugEnd setup station.identity (bytes_of setup message)
  message_no_end now not message aimed said says = by_said said.1
    where
      by_said : ((rules_of setup station).to_device (bytes_of setup message) ≡ says_to_device setup message) ⊎ ((rules_of setup station).to_device (bytes_of setup message) ≡ small.Idle)
          → IsNoPlugEnd setup station.identity (bytes_of setup message)
      by_said (inl same) = λ caller address call is it.
          says_no_end now not message aimed says call.header.sequence
          (sym same ∙ (ap (heard_as (is_planned setup)) is ∙ end_heard setup (is_planned setup) call it)) caller address call is it
      by_said (inr idle) = idle_no_end setup station.identity (is_planned setup) (bytes_of setup message) idle

  pub all_no_end : (now : small.Controller) → (now ≡ small.Exchanges → ⊥) → (messages : List Sent) → AllByRecursion (IsAimedAt station.identity.mac) messages
      → AllByRecursion (IsSaidAs setup station) messages → AllByRecursion (λ message. SaysToDevice (write_count setup.plan) now (said_by setup.plan message)) messages
      → AllByRecursion (IsNoPlugEnd setup station.identity) (map (bytes_of setup) messages)
  all_no_end now not [] aimed said says = tt
  all_no_end now not (message ∷ messages) aimed said says =
      (message_no_end now not message aimed.0 said.0 says.0, all_no_end now not messages aimed.1 said.1 says.1)
