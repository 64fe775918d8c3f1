-- What a step leaves of the stored answers, and what is sent again.
use Rattle.std.proofs.Common.{◌≡◌, ◌⊎◌, ◌==◌, ◌&&◌, ℕ, Bool, true, false, not, nat_lt, length, List, [], ◌∷◌, Some, None, is_some, refl, sym, ap, subst, ◌∙◌, inl, inr}
use Rattle.pn_values.specs.declared.mac.Mac.{Mac}
use Rattle.frame_codec.specs.declared.udp.Caller.{Caller}
use Rattle.rpc_core.specs.Cache.{Reported as Looked, again, new}
use Rattle.rpc_core.specs.Call.{Asked as Called}
use Rattle.records.specs.declared.status.operation.Operation.{Operation}
use Rattle.records.specs.status.Operation.{operation_of}
use Rattle.relations.specs.declared.options.DeviceOptions.{DeviceOptions}
use Rattle.settings_journal.specs.settings_store.Machine.{Outcome}
use Rattle.device_frames.specs.declared.event.Event.{Event}
use Rattle.device_frames.specs.declared.note.Note.{Note}
use Rattle.device_frames.specs.Heard.{heard_of}
use Rattle.device_frames.specs.Sendable.{AreSendable}
use Rattle.device_core.specs.Asking.{is_kept, looked_if}
use Rattle.device_core.specs.Handled.{Refuses, handled_blocks, handled_looked, handled_unanswered}
use Rattle.device_core.specs.Machine.{Stepped, handled_step, step_of}
use Rattle.device_core.specs.State.{Live, Station}
use Rattle.octets_law.specs.Octets.{Asking, Call, Nothing, Set, asking_of, in_order, is_counted}
use Rattle.octets_law.specs.Headline.{Stored, again_for, is_again, is_stored, stored_after, stored_later}
use Rattle.octets_law.proofs.Asked.{IsSuch}
use Rattle.octets_law.proofs.CallCounts.{IsCallCounted}
use Rattle.octets_law.proofs.Operations.{IsOfKind, kept_is}
use Rattle.octets_law.proofs.Later.{NoCall, call_later, step_later}
use Rattle.octets_law.proofs.Repeats.{again_is, frames_by, stored_new, stored_none, stored_same, view}

-- The stored answers after a step are those that its octets say; nothing is accepted of a call that is answered again, and it
-- gets the stored frame or nothing.
pub record Tracks (options : DeviceOptions) (mac : Mac) (event : Event) (live : Live) (step : Stepped) : Type 0 where
  pub stored : stored_after options (asking_of mac event) step.frames (view live.rest.calls) ≡ view step.live.rest.calls
  pub still : is_again options (asking_of mac event) (view live.rest.calls) ≡ true → step.accepted ≡ []
  pub repeated : (call : List ℕ) → asking_of mac event ≡ Call call → is_again options (Call call) (view live.rest.calls) ≡ true → is_counted call ≡ true
      → (step.frames ≡ []) ⊎ (step.frames ≡ again_for options (Call call) (view live.rest.calls))

-- An event that is refused.
pub refused_tracked : (mac : Mac) (event : Event) (outcomes : List Outcome) (station : Station) (live : Live) (why : Note)
    → Tracks station.options mac event live (handled_step outcomes station live (Refuses why))
unfolding handled_step
refused_tracked mac event outcomes station live why = record {
  stored = stored_none station.options (asking_of mac event) (view live.rest.calls);
  still = λ _. refl;
  repeated = λ call asks is counted. inl refl;
}

and_false : (b : Bool) → b && false ≡ false
and_false true = refl
and_false false = refl

-- What is no call.
abbrev pub IsUncalled : Asking → Type 0
IsUncalled (Set set) = Unit {0}
IsUncalled (Call call) = ⊥
IsUncalled Nothing = Unit {0}

uncalled_again : (options : DeviceOptions) (asking : Asking) (stored : List Stored) → IsUncalled asking → is_again options asking stored ≡ false
uncalled_again options (Set set) stored is = refl
uncalled_again options (Call call) stored is = absurd is
uncalled_again options Nothing stored is = refl

uncalled_stored : (options : DeviceOptions) (asking : Asking) (sent : List (List ℕ)) (stored : List Stored) → IsUncalled asking
    → stored_after options asking sent stored ≡ stored_later options sent stored
uncalled_stored options (Set set) sent stored is = refl
uncalled_stored options (Call call) sent stored is = absurd is
uncalled_stored options Nothing sent stored is = refl

-- What is no call, and is heard as none.
pub uncalled_tracked : (mac : Mac) (outcomes : List Outcome) (station : Station) (live : Live) (event : Event) → IsSuch IsOfKind live.rest.asked
    → NoCall (heard_of station.identity event) → IsUncalled (asking_of mac event)
    → AreSendable station.identity (step_of outcomes station live event).sent → Tracks station.options mac event live (step_of outcomes station live event)
uncalled_tracked mac outcomes station live event kinds none is can = record {
  stored = uncalled_stored station.options (asking_of mac event) (step_of outcomes station live event).frames (view live.rest.calls) is
      ∙ step_later outcomes station live (heard_of station.identity event) kinds none can;
  still = λ again. absurd
      (let e : false ≡ true = sym (uncalled_again station.options (asking_of mac event) (view live.rest.calls) is) ∙ again in cc);
  repeated = λ call asks again counted. absurd (subst IsUncalled asks is);
}

-- ---- calls

module _ (mac : Mac) (event : Event) (outcomes : List Outcome) (station : Station) (live : Live) (octets : List ℕ) (caller : Caller) (call : Called)
    (asked : asking_of mac event ≡ Call octets) (counted : IsCallCounted octets call) (which : Operation) (is : operation_of call.header.operation ≡ Some which)
    (operation_is : in_order 68 2 octets ≡ call.header.operation) where
  -- The answer to it is stored by its octets as it is by its operation.
  pub stored_is : is_stored station.options octets ≡ is_kept station.options which
  stored_is =
      ap (λ n. not (station.options.reads_not_kept && n == 5)) operation_is ∙ kept_is station.options call.header.operation which is

  again_by : (reported : Looked) → looked_if (is_kept station.options which) call.header.activity call.header.sequence live.rest.calls ≡ reported
      → again_for station.options (Call octets) (view live.rest.calls) ≡ frames_by reported
  again_by reported found =
      again_is station.options octets call.header.activity call.header.sequence live.rest.calls (is_kept station.options which) stored_is counted.activity
      counted.sequence ∙ ap frames_by found

  -- A call that is new: its answer is stored, or it has none yet.
  pub new_tracked : (blocks : List ℕ) → IsSuch IsOfKind live.rest.asked → call.blocks ≡ Some blocks
      → looked_if (is_kept station.options which) call.header.activity call.header.sequence live.rest.calls ≡ new
      → AreSendable station.identity (handled_step outcomes station live (handled_unanswered station live caller call blocks which)).sent
      → Tracks station.options mac event live (handled_step outcomes station live (handled_unanswered station live caller call blocks which))
  new_tracked blocks kinds some found can =
      let step = handled_step outcomes station live (handled_unanswered station live caller call blocks which) in
      let fresh : is_again station.options (Call octets) (view live.rest.calls) ≡ false =
      ap (λ (l : List (List ℕ)). nat_lt 0 (length l)) (again_by new found) in
      let none : is_again station.options (asking_of mac event) (view live.rest.calls) ≡ false =
      ap (λ a. is_again station.options a (view live.rest.calls)) asked ∙ fresh in
      record {
        stored = ap (λ a. stored_after station.options a step.frames (view live.rest.calls)) asked
            ∙ stored_new station.options octets step.frames (view live.rest.calls) (counted.counted ∙ ap is_some some) fresh
            ∙ call_later outcomes station live caller call blocks which kinds is can;
        still = λ again. absurd (let e : false ≡ true = sym none ∙ again in cc);
        repeated = λ other asks again right. absurd (let e : false ≡ true = sym none ∙ ap (λ a. is_again station.options a (view live.rest.calls)) asks ∙ again in cc);
      }

  same_call : (other : List ℕ) → asking_of mac event ≡ Call other → octets ≡ other
  same_call other asks = let e : Call octets ≡ Call other = sym asked ∙ asks in cc

  -- A call that is answered again.
  pub again_tracked : (blocks frame : List ℕ)
      → looked_if (is_kept station.options which) call.header.activity call.header.sequence live.rest.calls ≡ again frame
      → Tracks station.options mac event live (handled_step outcomes station live (handled_looked station live caller call blocks which (again frame)))
  unfolding handled_step
  again_tracked blocks frame found =
      let sent = again_by (again frame) found in
      let is_repeated : is_again station.options (Call octets) (view live.rest.calls) ≡ true = ap (λ (l : List (List ℕ)). nat_lt 0 (length l)) sent in
      record {
        stored = ap (λ a. stored_after station.options a (frame ∷ []) (view live.rest.calls)) asked
            ∙ stored_same station.options octets (frame ∷ []) (view live.rest.calls)
            (ap (λ b. is_counted octets && b) (ap not is_repeated) ∙ and_false (is_counted octets));
        still = λ _. refl;
        repeated = λ other asks _ right. inr (sym sent ∙ ap (λ o. again_for station.options (Call o) (view live.rest.calls)) (same_call other asks));
      }

  -- A call with wrong counts.
  pub uncounted_tracked : call.blocks ≡ None
      → Tracks station.options mac event live (handled_step outcomes station live (handled_blocks station live caller call which None))
  unfolding handled_step
  uncounted_tracked none =
      let wrong : is_counted octets ≡ false = counted.counted ∙ ap is_some none in
      let step = handled_step outcomes station live (handled_blocks station live caller call which None) in
      record {
        stored = ap (λ a. stored_after station.options a step.frames (view live.rest.calls)) asked
            ∙ stored_same station.options octets step.frames (view live.rest.calls)
            (ap (λ b. b && not (is_again station.options (Call octets) (view live.rest.calls))) wrong);
        still = λ _. refl;
        repeated = λ other asks _ right. absurd (let e : false ≡ true = sym wrong ∙ ap is_counted (same_call other asks) ∙ right in cc);
      }
