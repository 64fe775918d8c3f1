-- A Release: its response chooses nothing.
use Rattle.std.proofs.Common.{◌≡◌, ◌⊎◌, inl, inr, ℕ, Bool, true, false, List, [], ◌∷◌, Option, None, Result, Ok, Err, sym, subst}
use Rattle.std.specs.Prelude.{if◌then◌else◌}
use Rattle.std.specs.List.{AllByRecursion}
use Rattle.wire.specs.Codec.{◌>>=◌}
use Rattle.connect_blocks.specs.declared.control.ControlBlock.{ControlBlock}
use Rattle.block_codec.specs.declared.block.Block.TheVariants as is
use Rattle.block_codec.specs.Block.{block_bytes}
use Rattle.frame_codec.specs.declared.udp.Caller.{Caller}
use Rattle.asked_records.specs.Asked.{is_repeat}
use Rattle.rpc_core.specs.Cache.{Reported as Looked, again, looked, new, old}
use Rattle.rpc_core.specs.Response.{Answered, answer_to, is_done}
use Rattle.records.specs.declared.status.call_fault.CallFault.{CallFault}
use Rattle.records.specs.declared.status.operation.Operation.{Operation}
use Rattle.records.specs.declared.status.operation.Operation.TheVariants.{Release}
use Rattle.records.specs.status.Status.{done, status_of}
use Rattle.settings_journal.specs.settings_store.Machine.{Outcome}
use Rattle.relations.specs.Calls.{done_of, release_of}
use Rattle.relations.specs.Phases.{Ended, answered, updated}
use Rattle.relations.specs.RelationState.{RelationState, uuid_of}
use Rattle.device_frames.specs.declared.note.Note.{Note}
use Rattle.device_frames.specs.declared.note.Note.TheVariants as note
use Rattle.device_frames.specs.Heard.{Calls, Reported}
use Rattle.device_frames.specs.Sent.{Again, CallAnswer, Sent}
use Rattle.device_core.specs.State.{Live, Station}
use Rattle.device_core.specs.Log.{but_rest, release_log, with_log}
use Rattle.device_core.specs.Asking.{left_asked, released_by}
use Rattle.device_core.specs.Handled.{Handled, Moves, Refuses, handled_call, handled_looked, handled_new, handled_said, is_running, served}
use Rattle.device_core.specs.Machine.{handled_step, heard_step}
use Rattle.controller_messages.specs.declared.request.Request.TheVariants as asks
use Rattle.controller_messages.specs.declared.setup.Setup.{Setup}
use Rattle.controller_messages.specs.Heard.{Responds}
use Rattle.controller_messages.specs.Requests.{blocks_of, call_for, control_of}
use Rattle.end_laws.specs.turns.Turns.{chosen_in}
use Rattle.rounds_law.specs.AnywhereSame.{Chooses, IsNoneChosen}
use Rattle.rounds_law.proofs.AnywhereSameHears.{is_release}

-- If it is the response to a call, it chooses nothing.
abbrev pub IsUnchosen : Setup → Sent → Type 0
IsUnchosen setup (CallAnswer caller address answer) = Chooses setup IsNoneChosen (Responds answer)
IsUnchosen setup message = Unit {0}

module _ (setup : Setup) (outcomes : List Outcome) (station : Station) (live : Live) (caller : Caller)
    (negative : (operation : Operation) (refusal : CallFault) → is_done (status_of operation refusal) ≡ false)
    (released : (link : Option RelationState) → (release_of link (blocks_of setup (asks.Release 0)) ≡ Ok (control_of setup 4))
    ⊎ ((refusal : CallFault) × (release_of link (blocks_of setup (asks.Release 0)) ≡ Err refusal)))
    (unchosen : chosen_in (block_bytes (is.ReleaseRes (done_of (control_of setup 4)))) ≡ None) (sequence : ℕ) where
  -- All that is sent with such an outcome.
  abbrev Unchosen : Handled → Type 0
  Unchosen what = AllByRecursion (IsUnchosen setup) (handled_step outcomes station live what).sent

  refused : (why : Note) → Unchosen (Refuses why)
  unfolding handled_step
  refused why = tt

  silent : Unchosen (Moves live.rest [])
  unfolding handled_step
  silent = tt

  repeated : (frame : List ℕ) → Unchosen (Moves live.rest (Again frame ∷ []))
  unfolding handled_step
  repeated frame = (tt, tt)

  none_of : (response : Answered) → (is_done response.status ≡ false) ⊎ (chosen_in response.blocks ≡ None) → Chooses setup IsNoneChosen (Responds response)
  none_of response (inl refused) = λ right positive chosen is. absurd cc
  none_of response (inr none) = λ right positive chosen is. absurd cc

  abbrev release_by : Result ControlBlock CallFault → Handled
  release_by ended =
      let answer = ended >>= λ block. Ok (block_bytes (is.ReleaseRes (done_of block))) in
      let asked = left_asked (released_by answer (uuid_of live.rest.link)) live.rest.asked in
      served station (but_rest live (record (with_log (release_log (uuid_of live.rest.link) answer) live.rest) { asked = asked })) caller
      (call_for setup (asks.Release sequence)) Release answer (updated (answered Ended ended) live.rest.link) []

  taken : Unchosen (release_by (Ok (control_of setup 4)))
  unfolding handled_step
  taken = (
    none_of (answer_to (call_for setup (asks.Release sequence)) done (block_bytes (is.ReleaseRes (done_of (control_of setup 4))))) (inr unchosen),
    tt,
  )

  denied : (refusal : CallFault) → Unchosen (release_by (Err refusal))
  unfolding handled_step
  denied refusal = (none_of (answer_to (call_for setup (asks.Release sequence)) (status_of Release refusal) []) (inl (negative Release refusal)), tt)

  fresh : Unchosen (handled_new station live caller (call_for setup (asks.Release sequence)) (blocks_of setup (asks.Release sequence)) Release)
  fresh = by_outcome (released live.rest.link)
    where
      by_outcome : (release_of live.rest.link (blocks_of setup (asks.Release 0)) ≡ Ok (control_of setup 4))
          ⊎ ((refusal : CallFault) × (release_of live.rest.link (blocks_of setup (asks.Release 0)) ≡ Err refusal))
          → Unchosen (release_by (release_of live.rest.link (blocks_of setup (asks.Release 0))))
      by_outcome (inl e) = subst (λ (r : Result ControlBlock CallFault). Unchosen (release_by r)) (sym e) taken
      by_outcome (inr e) = subst (λ (r : Result ControlBlock CallFault). Unchosen (release_by r)) (sym e.1) (denied e.0)

  by_cache : (found : Looked)
      → Unchosen (handled_looked station live caller (call_for setup (asks.Release sequence)) (blocks_of setup (asks.Release sequence)) Release found)
  by_cache new = by_repeat (is_repeat setup.activity sequence live.rest.asked)
    where
      by_repeat : (repeats : Bool) → Unchosen (if repeats then Moves live.rest []
          else handled_new station live caller (call_for setup (asks.Release sequence)) (blocks_of setup (asks.Release sequence)) Release)
      by_repeat true = silent
      by_repeat false = fresh
  by_cache (again frame) = repeated frame
  by_cache old = refused note.OldCall

  said : Unchosen (handled_said station live caller (Calls (call_for setup (asks.Release sequence))))
  said = subst (λ (o : Option Operation). Unchosen (handled_call station live caller (call_for setup (asks.Release sequence)) o)) (sym is_release)
      (by_cache (looked setup.activity sequence live.rest.calls))

  -- With a Release, no response is sent that chooses anything.
  pub release_unchosen : (address : List ℕ)
      → AllByRecursion (IsUnchosen setup) (heard_step outcomes station live (Reported caller address (Calls (call_for setup (asks.Release sequence))))).sent
  unfolding heard_step
  release_unchosen address = by_test (is_running live.values.running address)
    where
      by_test : (runs : Bool)
          → Unchosen (if runs then handled_said station live caller (Calls (call_for setup (asks.Release sequence))) else Refuses note.NotMine)
      by_test true = said
      by_test false = refused note.NotMine
