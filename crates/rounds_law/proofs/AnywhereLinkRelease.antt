-- What a device does with the Release of a controller that has ended.
use Rattle.std.proofs.Common.{◌≡◌, ◌⊎◌, inl, inr, ◌&&◌, ◌==◌, ◌<◌, ℕ, Bool, true, false, List, [], Option, Some, None}
use Rattle.std.proofs.Common.{Result, Ok, Err, refl, sym, ap, subst, ◌∙◌}
use Rattle.std.specs.Prelude.{nat_lt, if◌then◌else◌}
use Rattle.std.specs.List.{AllByRecursion}
use Rattle.flash_model.specs.declared.flash.Flash.{Ghosts as Flash}
use Rattle.pn_values.specs.declared.identity.Identity.{Identity}
use Rattle.pn_values.specs.declared.mac.Mac.{Mac}
use Rattle.frame_codec.specs.declared.udp.Caller.{Caller}
use Rattle.frame_codec.specs.Sendable.{IsMac}
use Rattle.asked_records.specs.Asked.{is_repeat}
use Rattle.rpc_core.specs.Cache.{Kept, Reported as Looked, again, kept_of, looked, new, old, reported_by}
use Rattle.rpc_core.specs.Call.{Asked as Call}
use Rattle.settings_journal.specs.settings_store.Machine.{Outcome}
use Rattle.connect_blocks.specs.declared.control.ControlBlock.{ControlBlock}
use Rattle.records.specs.declared.status.call_fault.CallFault.{CallFault}
use Rattle.records.specs.declared.status.operation.Operation.TheVariants.{Release}
use Rattle.records.specs.status.Operation.{operation_of}
use Rattle.relations.specs.Calls.{release_of}
use Rattle.relations.specs.Phases.{Ended, answered, updated}
use Rattle.relations.specs.RelationState.{RelationState}
use Rattle.device_frames.specs.Heard.{Calls, Elsewhere, Heard, Reported, heard_of, is_own}
use Rattle.device_frames.specs.Sendable.{AreSendable}
use Rattle.device_frames.specs.declared.note.Note.TheVariants as note
use Rattle.device_core.specs.State.{Live, State, Station}
use Rattle.device_core.specs.Handled.{Handled, Moves, Refuses, handled_call, handled_looked, handled_new, is_running}
use Rattle.device_core.specs.Machine.{Stepped, handled_step, heard_step}
use Rattle.controller_messages.specs.declared.request.Request.TheVariants as asks
use Rattle.controller_messages.specs.declared.setup.Setup.{Setup}
use Rattle.controller_messages.specs.Requests.{blocks_of, call_for}
use Rattle.controller_messages.specs.Sent.{Sent, Requests, bytes_of as controller_bytes, call_frame}
use Rattle.end_laws.specs.hearing.Hearing.{comes}
use Rattle.end_laws.specs.hearing.Stations.{IsDevice}
use Rattle.end_laws.specs.sending.Messages.{CanBeSent}
use Rattle.both_ends.specs.startup.answer.Answer.{caller_of}
use Rattle.rounds_law.specs.Again.{AreStarts}
use Rattle.rounds_law.specs.Anywhere.{IsAnyDevice}
use Rattle.rounds_law.specs.Path.{IsIgnored}
use Rattle.rounds_law.proofs.AnywhereLinkIgnored.{answer_ignored}
use Rattle.rounds_law.proofs.AnywhereLinkLaws.{AnswerLaws, CallLaws}
use Rattle.rounds_law.proofs.AnywhereParts.{Hears, IsOwn, IsRelease, LinkRelease, ReleaseIgnored}

-- ---- what it is

-- The call of a Release.
abbrev release_call : Setup → ℕ → Call
release_call setup sequence = call_for setup (asks.Release sequence)

-- A frame with that call, to some station.
pub record IsReleaseFrame (setup : Setup) (octets : List ℕ) : Type 0 where
  pub to : Mac
  pub sequence : ℕ
  pub is_mac : IsMac to
  pub numbered : sequence < 4294967296
  pub frame : octets ≡ call_frame setup to (release_call setup sequence)

pub release_in : (setup : Setup) (octets : List ℕ) (message : Sent) → octets ≡ controller_bytes setup message → CanBeSent setup message → IsRelease message
    → IsReleaseFrame setup octets
release_in setup octets (Requests device (asks.Release sequence)) e can is =
    record { to = device; sequence = sequence; is_mac = can.0; numbered = can.1; frame = e }
release_in setup octets message e can is = absurd is

-- ---- the step

module _ (P : Stepped → Type 0) (setup : Setup) (identity : Identity) (outcomes : List Outcome) (station : Station) (live : Live)
    (to : Mac) (sequence : ℕ) where
  -- What the device does with the call, by what it has stored of this controller.
  abbrev pub answers_to : Caller → Handled
  answers_to caller =
      handled_looked station live caller (release_call setup sequence) (blocks_of setup (asks.Release sequence)) Release
      (looked setup.activity sequence live.rest.calls)

  -- What holds of a step that refuses, and of the answer to the call, holds of the step of a Release.
  call_goes : (caller : Caller) → P (handled_step outcomes station live (Refuses note.NotMine))
      → P (handled_step outcomes station live (answers_to caller))
      → (runs : Bool)
      → P (handled_step outcomes station live
      (if runs then handled_call station live caller (release_call setup sequence) (operation_of 1) else Refuses note.NotMine))
  unfolding operation_of
  call_goes caller refused goes true = goes
  call_goes caller refused goes false = refused

  own_goes : (caller : Caller) (address : List ℕ) → P (handled_step outcomes station live (Refuses note.NotMine))
      → P (handled_step outcomes station live (answers_to caller))
      → (own : Bool) → P (heard_step outcomes station live (if own && true then Reported caller address (Calls (release_call setup sequence)) else Elsewhere))
  unfolding heard_step
  own_goes caller address refused goes true = call_goes caller refused goes (is_running live.values.running address)
  own_goes caller address refused goes false = refused

  pub release_goes : CallLaws setup → (octets : List ℕ) → station.identity ≡ identity → octets ≡ call_frame setup to (release_call setup sequence)
      → IsMac to → sequence < 4294967296
      → P (handled_step outcomes station live (Refuses note.NotMine))
      → P (handled_step outcomes station live (answers_to (caller_of setup.plan.controller)))
      → P (heard_step outcomes station live (heard_of station.identity (comes octets)))
  release_goes laws octets same frame is_mac numbered refused goes =
      let hears = ap (λ (xs : List ℕ). heard_of identity (comes xs)) frame
      ∙ laws.heard identity to (release_call setup sequence) is_mac (laws.can (asks.Release sequence) tt numbered) in
      subst (λ (h : Heard). P (heard_step outcomes station live h)) (sym (ap (λ (i : Identity). heard_of i (comes octets)) same ∙ hears))
      (own_goes (caller_of setup.plan.controller) setup.plan.station.suite.address refused goes (is_own identity to))

-- ---- the relation

-- It is over, or it is the same.
abbrev IsLeftBy : Live → Stepped → Type 0
IsLeftBy live step = (step.live.rest.link ≡ None) ⊎ (step.live.rest.link ≡ live.rest.link)

ended_by : (link : Option RelationState) (release : Result ControlBlock CallFault)
    → (updated (answered Ended release) link ≡ None) ⊎ (updated (answered Ended release) link ≡ link)
ended_by link (Ok block) = inl refl
ended_by link (Err fault) = inr refl

repeated_left : (outcomes : List Outcome) (station : Station) (live : Live) → IsLeftBy live (handled_step outcomes station live (Moves live.rest []))
unfolding handled_step
repeated_left outcomes station live = inr refl

new_left : (outcomes : List Outcome) (station : Station) (live : Live) (caller : Caller) (call : Call) (blocks : List ℕ)
    → IsLeftBy live (handled_step outcomes station live (handled_new station live caller call blocks Release))
unfolding handled_step
new_left outcomes station live caller call blocks = ended_by live.rest.link (release_of live.rest.link blocks)

looked_left : (outcomes : List Outcome) (station : Station) (live : Live) (caller : Caller) (call : Call) (blocks : List ℕ) (looks : Looked)
    → IsLeftBy live (handled_step outcomes station live (handled_looked station live caller call blocks Release looks))
unfolding handled_step
looked_left outcomes station live caller call blocks new = by_repeat (is_repeat call.header.activity call.header.sequence live.rest.asked)
  where
    -- a repeat of the call that is asked is dropped
    by_repeat : (repeats : Bool)
        → IsLeftBy live (handled_step outcomes station live (if repeats then Moves live.rest [] else handled_new station live caller call blocks Release))
    by_repeat true = repeated_left outcomes station live
    by_repeat false = new_left outcomes station live caller call blocks
looked_left outcomes station live caller call blocks (again frame) = inr refl
looked_left outcomes station live caller call blocks old = inr refl

refused_left : (outcomes : List Outcome) (station : Station) (live : Live) → IsLeftBy live (handled_step outcomes station live (Refuses note.NotMine))
unfolding handled_step
refused_left outcomes station live = inr refl

module _ {F : Type 0} {S : ℕ} (as_flash : Flash F S) (setup next : Setup) (identity : Identity) (silence : ℕ) where
  pub link_release : CallLaws setup → LinkRelease as_flash setup next identity silence
  link_release laws = λ long before after octets frames goes device own.
      let is = release_in setup octets own.message own.frame own.sendable own.is in
      let outcomes = goes.steps.outcomes in
      subst (λ (l : Live). (l.rest.link ≡ None) ⊎ (l.rest.link ≡ before.live.rest.link)) (sym goes.steps.live)
      (release_goes (IsLeftBy before.live) setup identity outcomes before.station before.live is.to is.sequence laws octets device.of_device
      is.frame is.is_mac is.numbered
      (refused_left outcomes before.station before.live)
      (looked_left outcomes before.station before.live (caller_of setup.plan.controller) (release_call setup is.sequence)
      (blocks_of setup (asks.Release is.sequence)) (looked setup.activity is.sequence before.live.rest.calls)))

-- ---- the answer

-- If its messages can be sent, a controller of the next start ignores its frames.
abbrev IsIgnoredBy : Setup → Identity → Stepped → Type 0
IsIgnoredBy next identity step = AreSendable identity step.sent → AllByRecursion (IsIgnored next) step.frames

-- The stored answer, if it is sent again, is ignored.
abbrev IsAgainFor : Setup → Looked → Type 0
IsAgainFor next new = Unit {0}
IsAgainFor next (again frame) = IsIgnored next frame
IsAgainFor next old = Unit {0}

again_for : (next : Setup) (sequence : ℕ) (kept : Option Kept) → ((one : Kept) → kept ≡ Some one → IsIgnored next one.frame)
    → IsAgainFor next (reported_by sequence kept)
again_for next sequence None stored = tt
again_for next sequence (Some kept) stored = either (sequence == kept.sequence) (nat_lt sequence kept.sequence)
  where
    either : (same less : Bool) → IsAgainFor next (if same then again kept.frame else (if less then old else new))
    either true less = stored kept refl
    either false true = tt
    either false false = tt

repeated_ignored : (next : Setup) (outcomes : List Outcome) (station : Station) (live : Live)
    → IsIgnoredBy next station.identity (handled_step outcomes station live (Moves live.rest []))
unfolding handled_step
repeated_ignored next outcomes station live = λ can. tt

new_ignored : AnswerLaws → (next : Setup) (outcomes : List Outcome) (station : Station) (live : Live) (caller : Caller) (call : Call) (blocks : List ℕ)
    → IsDevice station.identity → (call.header.activity ≡ next.activity → ⊥)
    → IsIgnoredBy next station.identity (handled_step outcomes station live (handled_new station live caller call blocks Release))
unfolding handled_step
new_ignored laws next outcomes station live caller call blocks real other = λ can.
    (answer_ignored laws next station.identity caller live.values.running.suite.address _ real can.0 other, tt)

looked_ignored : AnswerLaws → (next : Setup) (outcomes : List Outcome) (station : Station) (live : Live) (caller : Caller) (call : Call) (blocks : List ℕ)
    (looks : Looked) → IsDevice station.identity → (call.header.activity ≡ next.activity → ⊥) → IsAgainFor next looks
    → IsIgnoredBy next station.identity (handled_step outcomes station live (handled_looked station live caller call blocks Release looks))
unfolding handled_step
looked_ignored laws next outcomes station live caller call blocks new real other for =
    by_repeat (is_repeat call.header.activity call.header.sequence live.rest.asked)
  where
    by_repeat : (repeats : Bool)
        → IsIgnoredBy next station.identity
        (handled_step outcomes station live (if repeats then Moves live.rest [] else handled_new station live caller call blocks Release))
    by_repeat true = repeated_ignored next outcomes station live
    by_repeat false = new_ignored laws next outcomes station live caller call blocks real other
looked_ignored laws next outcomes station live caller call blocks (again frame) real other for = λ can. (for, tt)
looked_ignored laws next outcomes station live caller call blocks old real other for = λ can. tt

refused_ignored : (next : Setup) (outcomes : List Outcome) (station : Station) (live : Live)
    → IsIgnoredBy next station.identity (handled_step outcomes station live (Refuses note.NotMine))
unfolding handled_step
refused_ignored next outcomes station live = λ can. tt

module _ {F : Type 0} {S : ℕ} (as_flash : Flash F S) (setup next : Setup) (identity : Identity) (silence : ℕ) where
  -- With a relation or without one.
  pub releases_ignored : CallLaws setup → AnswerLaws → IsDevice identity → AreStarts setup next
      → (before after : State F) (octets : List ℕ) (frames : List (List ℕ)) → Hears as_flash before octets frames after
      → IsAnyDevice setup next identity silence before.station before.live → IsOwn setup IsRelease octets → AllByRecursion (IsIgnored next) frames
  releases_ignored laws answers real starts before after octets frames goes device own =
      let is = release_in setup octets own.message own.frame own.sendable own.is in
      let outcomes = goes.steps.outcomes in
      subst (AllByRecursion (IsIgnored next)) (sym goes.steps.frames)
      (release_goes (IsIgnoredBy next before.station.identity) setup identity outcomes before.station before.live is.to is.sequence laws octets
      device.of_device is.frame is.is_mac is.numbered
      (refused_ignored next outcomes before.station before.live)
      (looked_ignored answers next outcomes before.station before.live (caller_of setup.plan.controller) (release_call setup is.sequence)
      (blocks_of setup (asks.Release is.sequence)) (looked setup.activity is.sequence before.live.rest.calls)
      (subst IsDevice (sym device.of_device) real) (λ e. starts.calls (sym e))
      (again_for next is.sequence (kept_of setup.activity before.live.rest.calls) device.stored_other))
      goes.steps.sendable)

  pub release_ignored : CallLaws setup → AnswerLaws → IsDevice identity → ReleaseIgnored as_flash setup next identity silence
  release_ignored laws answers real = λ can can_next starts before after octets frames goes device none own.
      releases_ignored laws answers real starts before after octets frames goes device own
