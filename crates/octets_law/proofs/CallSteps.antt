-- A step of a call.
use Rattle.std.proofs.Common.{◌≡◌, ◌==◌, ℕ, Bool, true, false, List, [], Option, Some, None, refl, sym, ap, subst, ◌∙◌, arith, if◌then◌else◌}
use Rattle.std.proofs.lemmas.Bool.{cond-false, cond-true, false_from_ne_true}
use Rattle.std.proofs.lemmas.Bool.Decides.{nat_tests}
use Rattle.frame_codec.specs.declared.udp.Caller.{Caller}
use Rattle.rpc_core.specs.Cache.{Reported as Looked, again, looked, new, old}
use Rattle.rpc_core.specs.Call.{Asked as Called}
use Rattle.records.specs.declared.status.operation.Operation.{Operation}
use Rattle.records.specs.declared.status.operation.Operation.TheVariants.{Connect, Control, Read, ReadImplicit, Release, Write}
use Rattle.records.specs.status.Operation.{operation_of}
use Rattle.settings_journal.specs.settings_store.Machine.{Outcome}
use Rattle.device_frames.specs.declared.event.Event.{Event}
use Rattle.device_frames.specs.declared.note.Note.TheVariants as note
use Rattle.device_frames.specs.Heard.{Calls, Reported, heard_of}
use Rattle.device_frames.specs.Sendable.{AreSendable}
use Rattle.device_core.specs.Asking.{is_kept, looked_if}
use Rattle.device_core.specs.State.{Live, Station}
use Rattle.device_core.specs.Handled.{Handled, Refuses, handled, handled_blocks, handled_call, handled_looked, handled_own, handled_unanswered, is_running}
use Rattle.device_core.specs.Machine.{handled_step, heard_step, step_of}
use Rattle.octets_law.specs.Bridge.{Bridges, repeats}
use Rattle.octets_law.specs.Headline.{is_stored}
use Rattle.octets_law.specs.Octets.{Call, asking_of, calling, commands_in, in_order, number}
use Rattle.octets_law.proofs.CallPlaces.{IsCallRead}
use Rattle.octets_law.proofs.CallReads.{tested}
use Rattle.octets_law.proofs.CallCounts.{IsCallCounted}
use Rattle.octets_law.proofs.FrameSteps.{CanStep, IsSaid, silent_said, still_bridged}
use Rattle.octets_law.proofs.Items.{IsStill, control_still, unanswered_still}
use Rattle.octets_law.proofs.Quiet.{again_bridged, asks_nothing}
use Rattle.octets_law.proofs.Tracks.{Tracks, again_tracked, new_tracked, stored_is, uncounted_tracked}

pub holds : (n m : ℕ) → n ≡ m → (n == m) ≡ true
holds n m is = grind (arith, nat_tests)

module _ (names : List (List ℕ)) (outcomes : List Outcome) (station : Station) (live : Live) (event : Event) (octets : List ℕ)
    (asks : asking_of station.identity.mac event ≡ calling octets) (caller : Caller) (address : List ℕ) (call : Called) (read : IsCallRead octets call)
    (heard : heard_of station.identity event ≡ Reported caller address (Calls call)) where
  -- A Write that is not answered again, or that has no blocks, is bridged.
  abbrev pub WritesAreBridged : Type 0
  WritesAreBridged = operation_of call.header.operation ≡ Some Write
      → (call.blocks ≡ None → handled station live (heard_of station.identity event) ≡ handled_blocks station live caller call Write None
      → Bridges station.identity.mac names event live.values (step_of outcomes station live event))
      × ((blocks : List ℕ) → call.blocks ≡ Some blocks → looked call.header.activity call.header.sequence live.rest.calls ≡ new
      → handled station live (heard_of station.identity event) ≡ handled_unanswered station live caller call blocks Write
      → Bridges station.identity.mac names event live.values (step_of outcomes station live event))

module _ (names : List (List ℕ)) (outcomes : List Outcome) (station : Station) (live : Live) (event : Event) (octets : List ℕ)
    (asks : asking_of station.identity.mac event ≡ calling octets) (caller : Caller) (address : List ℕ) (call : Called) (read : IsCallRead octets call)
    (heard : heard_of station.identity event ≡ Reported caller address (Calls call)) (counted : IsCallCounted octets call)
    (can : CanStep outcomes station live event)
    (named : (frame : List ℕ) → looked_if (is_stored station.options octets) call.header.activity call.header.sequence live.rest.calls ≡ again frame
    → repeats (Call octets) names ≡ true) where
  abbrev IsBridged : Type 0
  IsBridged = Bridges station.identity.mac names event live.values (step_of outcomes station live event)

  abbrev IsTracked : Type 0
  IsTracked = Tracks station.options station.identity.mac event live (step_of outcomes station live event)

  asked : asking_of station.identity.mac event ≡ Call octets
  asked = asks ∙ cond-true (number 0 2 octets == 0x0400) _ _ (holds _ 0x0400 read.kind)

  -- A call that is no Write asks for nothing.
  nothing : (operation : Operation) → operation_of call.header.operation ≡ Some operation → (Some Write ≡ Some operation → ⊥) → commands_in (asking_of station.identity.mac event) ≡ []
  unfolding operation_of
  nothing operation is other =
      ap commands_in asked ∙ cond-false (in_order 68 2 octets == 3) _ _ (false_from_ne_true (in_order 68 2 octets == 3) (λ three.
      let n : call.header.operation ≡ 3 = sym read.operation ∙ tested _ 3 three in
      other (sym (ap operation_of n) ∙ is)))

  still : (what : Handled) → handled station live (heard_of station.identity event) ≡ what → IsStill what → commands_in (asking_of station.identity.mac event) ≡ [] → IsBridged
  still what is stays none = still_bridged station.identity.mac names outcomes station live event (subst IsStill (sym is) stays) none

  -- The step tracks the stored answers, if its outcome does.
  tracked : (what : Handled) → handled station live (heard_of station.identity event) ≡ what
      → Tracks station.options station.identity.mac event live (handled_step outcomes station live what) → IsTracked
  unfolding heard_step
  tracked what is it = subst (λ what. Tracks station.options station.identity.mac event live (handled_step outcomes station live what)) (sym is) it

  -- What is sent at it can be sent.
  sendable : (what : Handled) → handled station live (heard_of station.identity event) ≡ what
      → AreSendable station.identity (handled_step outcomes station live what).sent
  unfolding heard_step
  sendable what is = subst (λ what. AreSendable station.identity (handled_step outcomes station live what).sent) is can.0

  -- A call of any operation.
  module _ (operation : Operation) (is : operation_of call.header.operation ≡ Some operation) where
    repeated : (what : Handled) → handled station live (heard_of station.identity event) ≡ what → IsStill what → (frame : List ℕ)
        → looked_if (is_kept station.options operation) call.header.activity call.header.sequence live.rest.calls ≡ again frame → IsBridged
    unfolding heard_step
    repeated what it stays frame found =
        again_bridged station.identity.mac names event live (step_of outcomes station live event)
        (asks_nothing outcomes station live (handled station live (heard_of station.identity event)) (subst IsStill (sym it) stays))
        (subst (λ a. repeats a names ≡ true) (sym asked) (named frame
        (ap (λ b. looked_if b call.header.activity call.header.sequence live.rest.calls)
        (stored_is station.identity.mac event outcomes station live octets caller call asked counted operation is read.operation) ∙ found)))

    -- By what the kept answers say of it.
    by_looked : (blocks : List ℕ) (reported : Looked) → call.blocks ≡ Some blocks
        → looked_if (is_kept station.options operation) call.header.activity call.header.sequence live.rest.calls ≡ reported
        → handled station live (heard_of station.identity event) ≡ handled_looked station live caller call blocks operation reported
        → (looked_if (is_kept station.options operation) call.header.activity call.header.sequence live.rest.calls ≡ new
        → handled station live (heard_of station.identity event) ≡ handled_unanswered station live caller call blocks operation → IsBridged)
        → IsSaid names outcomes station live event
    by_looked blocks new some found what fresh = (
      fresh found what,
      tracked _ what (new_tracked station.identity.mac event outcomes station live octets caller call asked counted operation is read.operation blocks can.1 some
          found (sendable (handled_unanswered station live caller call blocks operation) what)),
    )
    by_looked blocks (again frame) some found what fresh = (
      repeated (handled_looked station live caller call blocks operation (again frame)) what refl frame found,
      tracked _ what (again_tracked station.identity.mac event outcomes station live octets caller call asked counted operation is read.operation blocks frame found),
    )
    by_looked blocks old some found what fresh = silent_said names outcomes station live event _ what

    pub uncounted : call.blocks ≡ None
        → handled station live (heard_of station.identity event) ≡ handled_blocks station live caller call operation None → IsTracked
    uncounted none what =
        tracked _ what (uncounted_tracked station.identity.mac event outcomes station live octets caller call asked counted operation is read.operation none)

  no_write : (operation : Operation) → operation_of call.header.operation ≡ Some operation → (Some Write ≡ Some operation → ⊥)
      → ((blocks : List ℕ) → IsStill (handled_own station live caller call blocks operation)) → (blocks : Option (List ℕ)) → call.blocks ≡ blocks
      → handled station live (heard_of station.identity event) ≡ handled_blocks station live caller call operation blocks → IsSaid names outcomes station live event
  no_write operation is other stays None none what = (
    still (handled_blocks station live caller call operation None) what refl (nothing operation is other),
    uncounted operation is none what,
  )
  no_write operation is other stays (Some blocks) some what =
      by_looked operation is blocks (looked_if (is_kept station.options operation) call.header.activity call.header.sequence live.rest.calls) some refl what
      (λ _ fresh. still (handled_unanswered station live caller call blocks operation) fresh
      (unanswered_still station live caller call blocks operation (stays blocks))
      (nothing operation is other))

  write : WritesAreBridged names outcomes station live event octets asks caller address call read heard → operation_of call.header.operation ≡ Some Write → (blocks : Option (List ℕ)) → call.blocks ≡ blocks
      → handled station live (heard_of station.identity event) ≡ handled_blocks station live caller call Write blocks → IsSaid names outcomes station live event
  write writes is None there what =
      ((writes is).0 there what, uncounted Write is there what)
  write writes is (Some blocks) there what =
      by_looked Write is blocks (looked call.header.activity call.header.sequence live.rest.calls) there refl what (λ found fresh. (writes is).1 blocks there found fresh)

  by_operation : WritesAreBridged names outcomes station live event octets asks caller address call read heard → (operation : Option Operation) → operation_of call.header.operation ≡ operation
      → handled station live (heard_of station.identity event) ≡ handled_call station live caller call operation → IsSaid names outcomes station live event
  by_operation writes None is what = silent_said names outcomes station live event _ what
  by_operation writes (Some Connect) is what = no_write Connect is (λ e. absurd cc) (λ blocks. refl) call.blocks refl what
  by_operation writes (Some Release) is what = no_write Release is (λ e. absurd cc) (λ blocks. refl) call.blocks refl what
  by_operation writes (Some Read) is what = no_write Read is (λ e. absurd cc) (λ blocks. refl) call.blocks refl what
  by_operation writes (Some Write) is what = write writes is call.blocks refl what
  by_operation writes (Some Control) is what = no_write Control is (λ e. absurd cc) (control_still station live caller call) call.blocks refl what
  by_operation writes (Some ReadImplicit) is what = no_write ReadImplicit is (λ e. absurd cc) (λ blocks. refl) call.blocks refl what

  by_running : WritesAreBridged names outcomes station live event octets asks caller address call read heard → (b : Bool)
      → handled station live (heard_of station.identity event) ≡ (if b then handled_call station live caller call (operation_of call.header.operation) else Refuses note.NotMine) → IsSaid names outcomes station live event
  by_running writes true what = by_operation writes (operation_of call.header.operation) refl what
  by_running writes false what = silent_said names outcomes station live event note.NotMine what

  pub call_step : WritesAreBridged names outcomes station live event octets asks caller address call read heard → IsSaid names outcomes station live event
  call_step writes = by_running writes (is_running live.values.running address) (ap (handled station live) heard)
