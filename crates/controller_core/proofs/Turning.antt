-- The turn of a place that begins after an event, and the frames of both.
use Rattle.std.proofs.Common.{◌≡◌, ◌||◌, ◌++◌, Bool, true, false, not, List, ℕ, map, refl, sym, ap, ◌∙◌, if◌then◌else◌}
use Rattle.std.proofs.lemmas.List.{append-nil, map-append}
use Rattle.controller_messages.specs.declared.setup.Setup.{Setup}
use Rattle.controller_messages.specs.Sent.{Sent, bytes_of}
use Rattle.controller_core.specs.Machine.{Turn, after_turn, begun_turn, can_begin, plugs_of, stays, then_turn}
use Rattle.controller_core.specs.stored.State.{Controlling, Live, with_live}

abbrev turn_with : Live → List Sent → Turn
turn_with live sent = record { live = live; sent = sent }

live_by : (turn : Turn) (live : Live) (more all : List Sent) (b : Bool)
    → (if b then turn else turn_with live all).live ≡ (if b then stays turn.live else turn_with live more).live
live_by turn live more all true = refl
live_by turn live more all false = refl

sent_by : (turn : Turn) (live : Live) (more : List Sent) (b : Bool)
    → (if b then turn else turn_with live (turn.sent ++ more)).sent ≡ turn.sent ++ (if b then stays turn.live else turn_with live more).sent
sent_by turn live more true = sym (append-nil turn.sent)
sent_by turn live more false = refl

module _ (setup : Setup) (could : Bool) (turn : Turn) where
  after_live : (after_turn setup could turn).live ≡ (then_turn setup could turn.live).live
  after_live = live_by turn (begun_turn setup turn.live) _ _ (could || not (can_begin turn.live))

  after_sent : (after_turn setup could turn).sent ≡ turn.sent ++ (then_turn setup could turn.live).sent
  after_sent = sent_by turn (begun_turn setup turn.live) (plugs_of (begun_turn setup turn.live)) (could || not (can_begin turn.live))

  -- The frames of both, one after the other.
  frames_of : (mid new : List (List ℕ)) → mid ≡ map (bytes_of setup) turn.sent → new ≡ mid ++ map (bytes_of setup) (then_turn setup could turn.live).sent
      → new ≡ map (bytes_of setup) (after_turn setup could turn).sent
  frames_of mid new first next =
      next
      ∙ (ap (λ (f : List (List ℕ)). f ++ map (bytes_of setup) (then_turn setup could turn.live).sent) first
      ∙ (sym (map-append (bytes_of setup) turn.sent (then_turn setup could turn.live).sent)
      ∙ ap (λ (s : List Sent). map (bytes_of setup) s) (sym after_sent)))

-- The state after both. `could` says whether a turn could begin before.
pub state_is : (old mid new : Controlling) (could : Bool) (turn : Turn) → could ≡ can_begin old.live → mid ≡ with_live old turn.live
    → new ≡ with_live mid (then_turn mid.setup could mid.live).live → new ≡ with_live old (after_turn old.setup (can_begin old.live) turn).live
state_is old mid new could turn before first next =
    next
    ∙ (ap (λ (m : Controlling). with_live m (then_turn m.setup could m.live).live) first
    ∙ (ap (with_live old) (sym (after_live old.setup could turn))
    ∙ ap (λ (b : Bool). with_live old (after_turn old.setup b turn).live) before))

-- The frames of both.
pub frames_are : (old mid : Controlling) (could : Bool) (turn : Turn) (between new : List (List ℕ)) → could ≡ can_begin old.live
    → mid ≡ with_live old turn.live → between ≡ map (bytes_of old.setup) turn.sent
    → new ≡ between ++ map (bytes_of mid.setup) (then_turn mid.setup could mid.live).sent
    → new ≡ map (bytes_of old.setup) (after_turn old.setup (can_begin old.live) turn).sent
frames_are old mid could turn between new before state first next =
    frames_of old.setup could turn between new first
    (next ∙ ap (λ (m : Controlling). between ++ map (bytes_of m.setup) (then_turn m.setup could m.live).sent) state)
    ∙ ap (λ (b : Bool). map (bytes_of old.setup) (after_turn old.setup b turn).sent) before
