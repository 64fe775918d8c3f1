-- The services send nothing at a whole call to the interface of the device.
use Rattle.std.proofs.Common.{◌≡◌, ◌==◌, ◌<◌, ℕ, Bool, true, false, List, [], take, ◌&&◌, Option, None, Some, if◌then◌else◌, refl, sym, ap, subst, ◌∙◌, arith}
use Rattle.std.specs.Prelude.{nat_lt}
use Rattle.std.proofs.lemmas.Bool.{and_parts, cond_both, ltb-true}
use Rattle.std.specs.Option.{option_map}
use Rattle.flash_model.specs.declared.flash.Flash.{Ghosts as Flash}
use Rattle.pn_values.specs.declared.identity.Identity.{Identity}
use Rattle.settings_journal.specs.settings_store.State.{Values}
use Rattle.frame_codec.specs.Meaning.{UdpDatagram}
use Rattle.rpc_core.specs.declared.interface.Interface.TheVariants.{Device}
use Rattle.rpc_core.specs.Interface.{interface_uuid}
use Rattle.rpc_core.specs.call_headers.Call.{is_little}
use Rattle.rpc_core.specs.call_headers.Unserved.{answer_by as refused_by, answer_bytes, is_read, mapper_uuid, names_interface, refusal_of, sent_uuid, unserved_answer}
use Rattle.services.specs.State as ip
use Rattle.services.specs.Answer.{Call, answer_to, call_by, call_in, call_of, content_answer, is_called, layers_answer}
use Rattle.rpc_services.specs.pieces.Piece.{Piece, is_fragment, is_piece, piece_by, piece_of}
use Rattle.rpc_services.specs.pieces.State as calls
use Rattle.rpc_services.specs.endpoint_mapper.Mapper.{mapped, mapped_by, mapped_call, operation_answer}
use Rattle.device_frames.specs.declared.event.Event.{Event}
use Rattle.device_frames.specs.declared.event.Event.TheVariants.{Frame}
use Rattle.device_frames.specs.declared.note.Note.{Note}
use Rattle.device_station.specs.Beside.{Beside, beside, is_dropped}
use Rattle.device_station.specs.Serving.{Serving, answer_by, answered, or_else, piece_by as piece_for, piece_of as piece_from}
use Rattle.octets_law.proofs.Repeats.{same_octets}
use Rattle.strangers_law.specs.Beside.{CallsWhole, IsWholeCall, ServicesLeaveCalls}

last_fails : (a b c : Bool) → c ≡ false → (a && b && c) ≡ false
last_fails true true c is = is
last_fails true false c is = refl
last_fails false b c is = refl

two_interfaces : (low : Bool) → sent_uuid low (interface_uuid Device) ≡ sent_uuid low mapper_uuid → ⊥
two_interfaces true e = absurd cc
two_interfaces false e = absurd cc

not_true : (b : Bool) → (b ≡ true → ⊥) → b ≡ false
not_true true none = absurd (none refl)
not_true false none = refl

never_both : (b : Bool) → b ≡ true → b ≡ false → ⊥
never_both true e f = cc
never_both false e f = cc

module _ (frame : List ℕ) (it : IsWholeCall frame) where
  no_refusal : refusal_of it.header ≡ None
  no_refusal = let few = has (nat_lt 5 it.header.turn.operation) refl in rw (it.request, it.interface, few) refl
    where
      has : (b : Bool) → nat_lt 5 it.header.turn.operation ≡ b → b ≡ false
      has true e = let more : 5 < it.header.turn.operation = ltb-true _ _ e in absurd (omega (arith, more, it.operation))
      has false e = refl

  no_answer : unserved_answer it.body ≡ None
  unfolding unserved_answer
  no_answer =
      ap refused_by it.headed
      ∙ cond_both (is_read it.header it.rest) _ _ (λ (o : Option (List ℕ)). o ≡ None) (λ _. ap (option_map (answer_bytes it.header)) no_refusal) (λ _. refl)

  no_mapper : names_interface it.header mapper_uuid ≡ false
  no_mapper = not_true _ (λ e. two_interfaces (is_little it.header.opening.representation) (sym (same_octets _ _ it.interface) ∙ same_octets _ _ e))

  unmapped : (identity : Identity) (address : List ℕ) → mapped identity address it.body ≡ None
  unfolding mapped
  unmapped identity address =
      ap (mapped_by identity address) it.headed
      ∙ ap (λ (b : Bool). if b then operation_answer identity address it.header (take it.header.extent.length it.rest) else None) (last_fails (is_read it.header it.rest) (it.header.opening.packet_type == 0) _ no_mapper)

  no_piece : (state : calls.State) → calls.heard_as state it.body ≡ calls.Nothing
  unfolding calls.heard_as piece_of
  no_piece state =
      let none : piece_of state.kind it.body ≡ None = ap (piece_by state.kind it.body) it.headed
      ∙ cond_both (is_piece state.kind it.header it.rest) _ _ (λ (o : Option Piece). o ≡ None)
      (λ e. absurd (never_both (is_fragment it.header.opening.flags) (and_parts _ _ (and_parts _ _ (and_parts _ _ (and_parts _ _ e).0).0).0).1 it.whole)) (λ _. refl) in
      ap (calls.outcome_of state) none

  module _ (identity : Identity) (services : Serving) where
    no_ip : answer_to services.ip frame ≡ None
    unfolding answer_to
    no_ip =
        ap (layers_answer services.ip frame) it.read ∙ ap (content_answer services.ip it.meaning.destination it.meaning.source) it.datagram
        ∙ cond_both (is_called services.ip it.meaning.destination it.from it.to) _ _ (λ (o : Option (List ℕ)). o ≡ None) (λ _. ap (option_map _) no_answer) (λ _. refl)

    abbrev IsUnanswered : Option Call → Type 0
    IsUnanswered call = answer_by (piece_from services call) (or_else (answer_to services.ip frame) (mapped_call services.ip identity call)) ≡ None

    called : Call
    called = record { source = it.meaning.source; caller = it.from; body = it.body }

    unanswered : answered identity services frame ≡ None
    unfolding call_in called
    unanswered =
        let call : call_in services.ip frame ≡ call_by services.ip it.meaning.destination it.meaning.source (UdpDatagram it.from it.to it.body) =
        ap (call_of services.ip) it.read ∙ ap (call_by services.ip it.meaning.destination it.meaning.source) it.datagram in
        subst IsUnanswered (sym call)
        (cond_both (is_called services.ip it.meaning.destination it.from it.to) _ _ IsUnanswered
        (λ _. ap (λ o. answer_by (piece_for services called o) (or_else (answer_to services.ip frame) (mapped_call services.ip identity (Some called)))) (no_piece services.pieces)
        ∙ ap (λ a. or_else a (mapped_call services.ip identity (Some called))) no_ip ∙ ap (option_map _) (unmapped identity services.ip.address))
        (λ _. ap (λ a. or_else a None) no_ip))

beside_silent : (identity : Identity) (services : Serving) (values : Values) (note : Note) (event : Event) → CallsWhole event → (beside identity services values note event).sent ≡ []
beside_silent identity services values note (Frame bytes) it =
    cond_both values.is_lost _ _ (λ (b : Beside). b.sent ≡ []) (λ _. refl)
    (λ _. cond_both (is_dropped note) _ _ (λ (o : Option (List ℕ)). ip.frames_in o ≡ []) (λ _. ap ip.frames_in (unanswered bytes.items it identity services)) (λ _. refl))
beside_silent identity services values note event it = absurd it

pub services_leave_calls : {F : Type 0} {S : ℕ} (as_flash : Flash F S) → ServicesLeaveCalls as_flash
services_leave_calls as_flash old new event frames said takes it =
    takes.steps.sends ∙ beside_silent takes.between.device.station.identity takes.between.services takes.steps.middle.live.values takes.steps.note event it
