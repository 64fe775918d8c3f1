-- The steps of a run, said of octets.
use Rattle.std.proofs.Common.{◌≡◌, ◌<◌, ◌==◌, ◌^◌, ℕ, Bool, true, false, not, nat_lt, length, List, [], ◌∷◌, ◌++◌, take, drop, flat_map, is_some, refl, sym, ap, subst, ◌∙◌, inl, inr}
use Rattle.std.proofs.lemmas.Bool.{cond-true, cond-false, cond_both}
use Rattle.settings_journal.specs.settings_store.State.{Values}
use Rattle.settings_journal.specs.settings_store.Machine.{Accepted, Outcome}
use Rattle.pn_values.specs.declared.mac.Mac.{Mac}
use Rattle.relations.specs.RelationState.{uuid_of}
use Rattle.device_frames.specs.declared.event.Event.{Event}
use Rattle.device_frames.specs.declared.event.Event.TheVariants.{Frame, Call as Joined, Tick, Neighbour, Application}
use Rattle.device_frames.specs.Heard.{heard_of}
use Rattle.device_core.specs.Handled.{Sets, handled, handled_request}
use Rattle.device_frames.specs.Sendable.{AreSendable}
use Rattle.device_core.specs.State.{Live, Station}
use Rattle.device_core.specs.Machine.{Stepped, first_step, handed, handled_step, heard_step, later_steps, step_of}
use Rattle.octets_law.specs.Octets.{Asking, Call, Nothing, Set, asking_in, asking_of, block_errors, calling, confirmed, dcp_blocks, faulted, is_dcp, is_whole, number, untagged}
use Rattle.octets_law.specs.Bridge.{Bridges, done_in, repeats}
use Rattle.octets_law.specs.Headline.{IsAnswered, Stored, is_again, is_stored, stored_after}
use Rattle.octets_law.specs.Turns.{AreSent, IsSmall}
use Rattle.octets_law.proofs.Asked.{IsSuch, step_such}
use Rattle.octets_law.proofs.EventSteps.{IsNamed, any_step}
use Rattle.octets_law.proofs.FrameSteps.{is_to}
use Rattle.octets_law.proofs.Operations.{IsOfKind, asking_kind}
use Rattle.octets_law.proofs.SetSteps.{set_owed}
use Rattle.octets_law.proofs.WholeSet.{whole_heard}
use Rattle.octets_law.proofs.Marks.{not_empty}
use Rattle.octets_law.proofs.Repeats.{again_is, again_names, again_repeats, frames_by, repeats_again, view}
use Rattle.octets_law.proofs.Split.{AreExact, Exact, fresh, lost_failed, still}
use Rattle.octets_law.proofs.Tracks.{Tracks}

module _ (station : Station) (event : Event) (live : Live) (step : Stepped) (b : Bridges station.identity.mac (again_names station.options (asking_of station.identity.mac event) (view live.rest.calls)) event live.values step)
    (t : Tracks station.options station.identity.mac event live step)
    (owed : (set : List ℕ) → asking_of station.identity.mac event ≡ Set set → is_whole set ≡ true → length (flat_map (block_errors set) step.frames) ≡ length (dcp_blocks set)) where
  abbrev asking : Asking
  asking = asking_of station.identity.mac event

  abbrev stored : List Stored
  stored = view live.rest.calls

  same_true : (x : Bool) → x ≡ true → x ≡ false → ⊥
  same_true x is not = let e : true ≡ false = sym is ∙ not in cc

  confirms_by : (x : Bool) → is_again station.options asking stored ≡ x → done_in step.accepted ≡ fresh station.options confirmed asking stored step.frames
  confirms_by true is = ap done_in (t.still is) ∙ sym (cond-true _ _ _ is)
  confirms_by false not = elim b.confirms [
    | inl now ↦ now ∙ sym (cond-false _ _ _ not)
    | inr repeated ↦ absurd (same_true _ (repeats_again station.options asking stored repeated.0) not)
  ]

  no_fault_by : (x : Bool) → is_again station.options asking stored ≡ x → step.live.values.has_failed ≡ false → fresh station.options faulted asking stored step.frames ≡ []
  no_fault_by true is fine = cond-true _ _ _ is
  no_fault_by false not fine = elim (b.no_fault fine) [
    | inl none ↦ cond-false _ _ _ not ∙ none
    | inr repeated ↦ absurd (same_true _ (repeats_again station.options asking stored repeated) not)
  ]

  fault_by : (x : Bool) → is_again station.options asking stored ≡ x → (front : List Accepted) (last : Accepted) → step.accepted ≡ front ++ last ∷ [] → last.is_done ≡ false
      → take 1 (fresh station.options faulted asking stored step.frames) ≡ last.command ∷ []
  fault_by true is front last parts undone = absurd (not_empty front last (sym (t.still is) ∙ parts))
  fault_by false not front last parts undone = ap (take 1) (cond-false _ _ _ not) ∙ b.fault front last parts undone

  answered_by : (a : Asking) → asking ≡ a → IsAnswered station.options a stored step.frames
  answered_by (Set set) is = owed set is
  answered_by (Call call) is = t.repeated call is
  answered_by Nothing is = tt

  -- A step is exact, if it is bridged and tracks what is stored.
  pub to_exact : Exact station.options station.identity.mac stored event step
  to_exact = record {
    confirms = confirms_by (is_again station.options asking stored) refl;
    no_fault = no_fault_by (is_again station.options asking stored) refl;
    fault = fault_by (is_again station.options asking stored) refl;
    among = b.among;
    answered = answered_by asking refl;
  }

own_of : (b : Bool) → not b ≡ false → b ≡ true
own_of true e = refl
own_of false e = absurd cc

same_set : (one other : List ℕ) → Set one ≡ Set other → one ≡ other
same_set one other e = cc

no_call : (call set : List ℕ) → calling call ≡ Set set → ⊥
no_call call set = cond_both (number 0 2 call == 0x0400) _ _ (λ a. a ≡ Set set → ⊥) (λ _ is. absurd cc) (λ _ is. absurd cc)

-- A frame to this station that asks for a Set.
own_set : (mac : Mac) (frame set : List ℕ) → asking_in mac frame ≡ Set set → (is_to mac frame ≡ true) × (is_dcp 0xFEFD 4 0 frame ≡ true) × (frame ≡ set)
own_set mac frame set =
    cond_both (not (is_to mac frame)) _ _ (λ a. a ≡ Set set → (is_to mac frame ≡ true) × (is_dcp 0xFEFD 4 0 frame ≡ true) × (frame ≡ set)) (λ _ is. absurd cc)
    (λ own. cond_both (is_dcp 0xFEFD 4 0 frame) _ _ (λ a. a ≡ Set set → (is_to mac frame ≡ true) × (is_dcp 0xFEFD 4 0 frame ≡ true) × (frame ≡ set))
    (λ dcp is. (own_of (is_to mac frame) own, dcp, same_set frame set is))
    (λ _. cond_both (number 12 2 frame == 0x0800) _ _ (λ a. a ≡ Set set → (is_to mac frame ≡ true) × (is_dcp 0xFEFD 4 0 frame ≡ true) × (frame ≡ set))
    (λ _ is. absurd (no_call (drop 42 frame) set is)) (λ _ is. absurd cc)))

step_owed : (outcomes : List Outcome) (station : Station) (live : Live) (event : Event) → AreSendable station.identity (step_of outcomes station live event).sent → IsSmall event
    → (set : List ℕ) → asking_of station.identity.mac event ≡ Set set → is_whole set ≡ true
    → length (flat_map (block_errors set) (step_of outcomes station live event).frames) ≡ length (dcp_blocks set)
unfolding heard_step
step_owed outcomes station live (Frame frame) can small set is whole =
    let parts = own_set station.identity.mac (untagged frame.items) set is in
    let heard = whole_heard station.identity frame.items parts.0 parts.1 (subst (λ l. is_whole l ≡ true) (sym parts.2) whole) in
    let what : handled station live (heard_of station.identity (Frame frame)) ≡ Sets heard.source heard.request (is_some live.rest.link) =
    ap (handled station live) heard.is ∙ ap (λ s. handled_request station live heard.source s heard.request) heard.sets in
    subst (λ l. length (flat_map (block_errors l) (step_of outcomes station live (Frame frame)).frames) ≡ length (dcp_blocks l)) parts.2
    (set_owed outcomes station live (Frame frame) heard.source heard.request (is_some live.rest.link) (untagged frame.items) what heard.read
    (subst (λ n. n < 2 ^ 32) heard.read.xid small) (subst (λ what. AreSendable station.identity (handled_step outcomes station live what).sent) what can))
step_owed outcomes station live (Joined caller address octets) can small set is whole = absurd (no_call octets.items set is)
step_owed outcomes station live Tick can small set is whole = absurd cc
step_owed outcomes station live (Application local) can small set is whole = absurd cc
step_owed outcomes station live (Neighbour neighbour) can small set is whole = absurd cc

-- A call that is answered again is named.
is_named : (outcomes : List Outcome) (station : Station) (live : Live) (event : Event)
    → IsNamed (again_names station.options (asking_of station.identity.mac event) (view live.rest.calls)) outcomes station live event
is_named outcomes station live event = λ octets call frame asks counted found.
    let is : is_again station.options (Call octets) (view live.rest.calls) ≡ true = ap (λ (l : List (List ℕ)). nat_lt 0 (length l))
    (again_is station.options octets call.header.activity call.header.sequence live.rest.calls (is_stored station.options octets) refl counted.activity
    counted.sequence ∙ ap frames_by found) in
    subst (λ a. repeats (Call octets) (again_names station.options a (view live.rest.calls)) ≡ true) (sym asks)
    (again_repeats station.options octets (view live.rest.calls) is)

still_failed : (outcomes : List Outcome) (station : Station) (live : Live) (event : Event) → (live.values.is_lost ≡ true → live.values.has_failed ≡ true)
    → (step_of outcomes station live event).live.values.is_lost ≡ true → (step_of outcomes station live event).live.values.has_failed ≡ true
still_failed outcomes station live event failed lost = by_lost live.values.is_lost refl
  where
    by_lost : (b : Bool) → live.values.is_lost ≡ b → (step_of outcomes station live event).live.values.has_failed ≡ true
    by_lost true was = ap (λ (v : Values). v.has_failed) (still outcomes station live event (failed was)) ∙ failed was
    by_lost false power = lost_failed outcomes station live event power lost

kept_power : (outcomes : List Outcome) (station : Station) (live : Live) (event : Event) → (live.values.is_lost ≡ true → live.values.has_failed ≡ true)
    → (step_of outcomes station live event).live.values.is_lost ≡ false → live.values.is_lost ≡ false
kept_power outcomes station live event failed power = by_lost live.values.is_lost refl
  where
    by_lost : (b : Bool) → live.values.is_lost ≡ b → live.values.is_lost ≡ false
    by_lost true was = absurd (let e : true ≡ false = sym was ∙ sym (ap (λ (v : Values). v.is_lost) (still outcomes station live event (failed was))) ∙ power in cc)
    by_lost false was = was

step_exact : (outcomes : List Outcome) (station : Station) (live : Live) (event : Event) → IsSuch IsOfKind live.rest.asked
    → AreSendable station.identity (step_of outcomes station live event).sent → IsSmall event
    → Exact station.options station.identity.mac (view live.rest.calls) event (step_of outcomes station live event)
    × (stored_after station.options (asking_of station.identity.mac event) (step_of outcomes station live event).frames (view live.rest.calls)
    ≡ view (step_of outcomes station live event).live.rest.calls)
step_exact outcomes station live event kinds can small =
    let names : List (List ℕ) = again_names station.options (asking_of station.identity.mac event) (view live.rest.calls) in
    let said = any_step names outcomes station live event (can, kinds) small (is_named outcomes station live event) in
    (to_exact station event live (step_of outcomes station live event) said.0 said.1 (step_owed outcomes station live event can small), said.1.stored)

-- What the application is asked after a step has the operation of its request.
step_kinds : (outcomes : List Outcome) (station : Station) (live : Live) (event : Event) → IsSuch IsOfKind live.rest.asked
    → IsSuch IsOfKind (step_of outcomes station live event).live.rest.asked
step_kinds outcomes station live event kinds =
    step_such IsOfKind outcomes station live (heard_of station.identity event)
    (λ caller address call blocks operation asking heard there which asks.
    asking_kind live.rest.real station.named (uuid_of live.rest.link) caller call blocks operation asking which asks) kinds

-- Each step of a run is exact, from stored answers that are those of the device until power is lost.
pub all_exact : (stored : List Stored) (outcomes : List (List Outcome)) (station : Station) (live : Live) (events : List Event)
    → (live.values.is_lost ≡ false → stored ≡ view live.rest.calls) → (live.values.is_lost ≡ true → live.values.has_failed ≡ true)
    → IsSuch IsOfKind live.rest.asked → AreSent outcomes station live events
    → AreExact station.options station.identity.mac stored outcomes station live events
all_exact answers outcomes station live [] same failed kinds sent = tt
all_exact answers outcomes station live (event ∷ events) same failed kinds sent =
    let step : Stepped = step_of (first_step outcomes) station live event in
    let one = step_exact (first_step outcomes) station live event kinds sent.0 sent.1 in (
      λ power. subst (λ s. Exact station.options station.identity.mac s event step) (sym (same power)) one.0,
      all_exact (stored_after station.options (asking_of station.identity.mac event) (handed step) answers) (later_steps outcomes) station step.live events
          (λ power.
          ap (λ f. stored_after station.options (asking_of station.identity.mac event) f answers) (cond-false _ _ _ power)
          ∙ ap (stored_after station.options (asking_of station.identity.mac event) step.frames) (same (kept_power (first_step outcomes) station live event failed power)) ∙ one.1)
          (still_failed (first_step outcomes) station live event failed) (step_kinds (first_step outcomes) station live event kinds) sent.2,
    )
