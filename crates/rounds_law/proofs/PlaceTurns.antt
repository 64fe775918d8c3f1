-- Whether the turn of a place begins after an event or with a unit: when none does, and what one leaves as it is.
use Rattle.std.proofs.Common.{◌≡◌, ◌⊎◌, inl, inr, ◌+◌, ◌&&◌, ◌||◌, ◌++◌, ◌≤◌, ◌<◌, not, ℕ, Bool, true, false, [], ◌∷◌, Option, Some, None, is_some}
use Rattle.std.proofs.Common.{if◌then◌else◌, refl, ap, ◌∙◌, arith}
use Rattle.std.proofs.lemmas.Bool.{ne_eqb}
use Rattle.frame_codec.specs.declared.udp.Caller.{Caller}
use Rattle.rpc_core.specs.Call.{Asked as Call}
use Rattle.connect_blocks.specs.declared.plug_control.PlugControlBlock.{PlugControlBlock}
use Rattle.plan_places.specs.declared.report.Plug.{Plug}
use Rattle.plan_places.specs.Places.{Told, first_waiting, is_awaited, next_waiting}
use Rattle.controller_messages.specs.declared.setup.Setup.{Setup}
use Rattle.controller_messages.specs.Access.{Accessing, is_free}
use Rattle.controller_messages.specs.PlugRequests.{is_plug_ready, plug_answer}
use Rattle.controller_messages.specs.Sent.{Agrees}
use Rattle.controller_core.specs.stored.State.{Live}
use Rattle.controller_core.specs.Machine.{Turn, after_turn, begun_by, begun_turn, can_begin, is_again, is_exchanging, is_plug_awaited, later, plug_called}
use Rattle.controller_core.specs.Machine.{plug_readied, plugs_of, stays, turn_due}
use Rattle.rounds_law.specs.Path.{BeginsNoTurn}
use Rattle.rounds_law.proofs.Choices.{and_false}

-- ---- none begins

-- Data is not exchanged.
pub elsewhere : (live : Live) → is_exchanging live.phase ≡ false → can_begin live ≡ false
elsewhere live other =
    ap (λ (b : Bool). live.stands && (b && (is_free live.access && is_some (next_waiting live.places)))) other ∙ and_false live.stands

-- No relation is established.
pub without_relation : (live : Live) → live.stands ≡ false → can_begin live ≡ false
without_relation live down = ap (λ (b : Bool). b && (is_exchanging live.phase && (is_free live.access && is_some (next_waiting live.places)))) down

-- No place waits for its turn.
pub none_waits : (live : Live) → next_waiting live.places ≡ None → can_begin live ≡ false
none_waits live none =
    ap (λ (o : Option Plug). live.stands && (is_exchanging live.phase && (is_free live.access && is_some o))) none
    ∙ (ap (λ (b : Bool). live.stands && (is_exchanging live.phase && b)) (and_false (is_free live.access))
    ∙ (ap (λ (b : Bool). live.stands && b) (and_false (is_exchanging live.phase))
    ∙ and_false live.stands))

-- The parameters of places have no turns.
pub turns_off : (live : Live) → live.places.has_turns ≡ false → next_waiting live.places ≡ None
turns_off live off = ap (λ (b : Bool). if b then first_waiting live.places.places else None) off

-- ---- after an event

first_of_two : (could can : Bool) (one other : Turn) → can ≡ false → (if could || not can then one else other) ≡ one
first_of_two true can one other e = refl
first_of_two false true one other e = absurd cc
first_of_two false false one other e = refl

-- After it no turn can begin.
pub unfollowed : (setup : Setup) (could : Bool) (turn : Turn) → can_begin turn.live ≡ false → after_turn setup could turn ≡ turn
unfollowed setup could turn none =
    first_of_two could (can_begin turn.live) turn
    (record { live = begun_turn setup turn.live; sent = turn.sent ++ plugs_of (begun_turn setup turn.live) }) none

same_of_two : (can : Bool) (one other : Turn) → (if can || not can then one else other) ≡ one
same_of_two true one other = refl
same_of_two false one other = refl

-- It changed nothing.
pub unchanged : (setup : Setup) (live : Live) → after_turn setup (can_begin live) (stays live) ≡ stays live
unchanged setup live =
    same_of_two (can_begin live) (stays live) (record { live = begun_turn setup live; sent = plugs_of (begun_turn setup live) })

-- ---- with a unit

-- None can begin.
pub undue : (setup : Setup) (is_due : Bool) (live : Live) → can_begin live ≡ false → turn_due setup is_due live ≡ live
undue setup true live none = ap (λ (b : Bool). if b then begun_by setup (next_waiting live.places) live else live) none
undue setup false live none = refl

-- The unit completes no second.
pub early : (setup : Setup) (live : Live) → is_again live ≡ false → turn_due setup (is_again live) (later live) ≡ later live
early setup live e = ap (λ (b : Bool). turn_due setup b (later live)) e

pub no_second : (live : Live) → live.waited < 31999 → is_again live ≡ false
no_second live few = ne_eqb (live.waited + 1) 32000 (λ same. omega (arith, few, same))

-- Nothing begins with this unit.
pub none_due : (setup : Setup) (live : Live) → BeginsNoTurn live → turn_due setup (is_again live) (later live) ≡ later live
none_due setup live none = by_reason none.1
  where
    by_reason : (next_waiting live.places ≡ None) ⊎ (live.waited < 31999) → turn_due setup (is_again live) (later live) ≡ later live
    by_reason (inl turnless) = undue setup (is_again live) (later live) (none_waits (later live) turnless)
    by_reason (inr few) = early setup live (no_second live few)

-- ---- what one leaves

-- The state with another turn: the timer of requests, the places, and the request after a plug.
abbrev pub with_turn : Live → ℕ → Told → Accessing → Live
with_turn live waited places access = record live { waited = waited; places = places; access = access }

-- This holds of a state, whatever its turn is, as long as the request of the application is the same. The timer is the same, or starts again.
abbrev pub HoldsBeside : (Live → Type 0) → Live → Type 0
HoldsBeside Holds live = (waited : ℕ) (places : Told) (access : Accessing) → waited ≤ live.waited → access.waiting ≡ live.access.waiting
    → Holds (with_turn live waited places access)

pub begun_beside : (Holds : Live → Type 0) (setup : Setup) (live : Live) → HoldsBeside Holds live → Holds (begun_turn setup live)
begun_beside Holds setup live is = by_test (can_begin live) (next_waiting live.places)
  where
    by_test : (can : Bool) (next : Option Plug) → Holds (if can then begun_by setup next live else live)
    by_test true (Some plug) = is 0 _ _ (omega arith) refl
    by_test true None = is live.waited live.places live.access (omega arith) refl
    by_test false next = is live.waited live.places live.access (omega arith) refl

-- After a turn that began with a unit.
pub due_beside : (Holds : Live → Type 0) (setup : Setup) (is_due : Bool) (live : Live) → HoldsBeside Holds live → Holds (turn_due setup is_due live)
due_beside Holds setup true live is = begun_beside Holds setup live is
due_beside Holds setup false live is = is live.waited live.places live.access (omega arith) refl

-- After a turn that began after an event.
pub followed_beside : (Holds : Live → Type 0) (setup : Setup) (could : Bool) (turn : Turn) → HoldsBeside Holds turn.live
    → Holds (after_turn setup could turn).live
followed_beside Holds setup could turn is = by_test (could || not (can_begin turn.live))
  where
    by_test : (test : Bool) → Holds (if test then turn
        else record { live = begun_turn setup turn.live; sent = turn.sent ++ plugs_of (begun_turn setup turn.live) }).live
    by_test true = is turn.live.waited turn.live.places turn.live.access (omega arith) refl
    by_test false = begun_beside Holds setup turn.live is

-- ---- ApplicationReady of a plug

-- It counts while data is exchanged alone.
pub uncalled : (setup : Setup) (live : Live) (caller : Caller) (call : Call) (block : Option PlugControlBlock) → is_exchanging live.phase ≡ false
    → plug_called setup live caller call block ≡ stays live
uncalled setup live caller call None other = refl
uncalled setup live caller call (Some block) other =
    let number = block.alarm_sequence_number in
    let turn : Turn = record { live = plug_readied live number; sent = Agrees caller (plug_answer call block) ∷ [] } in
    ap (λ (b : Bool). if is_plug_ready setup block && (b && is_awaited number live.places) then turn else stays live) other
    ∙ ap (λ (b : Bool). if b then turn else stays live) (and_false (is_plug_ready setup block))

-- That of another relation does not count.
pub uncalled_by : (setup : Setup) (live : Live) (caller : Caller) (call : Call) (block : PlugControlBlock) → is_plug_ready setup block ≡ false
    → plug_called setup live caller call (Some block) ≡ stays live
uncalled_by setup live caller call block other =
    let number = block.alarm_sequence_number in
    ap (λ (b : Bool). if b && is_plug_awaited live number
    then record { live = plug_readied live number; sent = Agrees caller (plug_answer call block) ∷ [] } else stays live) other
