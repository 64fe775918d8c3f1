-- The law of a start-up, over any list of moves.
use Rattle.std.specs.Prelude.{◌≡◌, ℕ, false, List, ◌∷◌, ◌++◌, slice_get, Some, None}
use Rattle.std.specs.List.{AllByRecursion}
use Rattle.end_laws.specs.both.Small.{Readies, Rules, Awaiting, RelationState, Seeking, Exchanges, World, Move, ComesToController, ComesToDevice, IsByController, IsByDevice}
use Rattle.end_laws.specs.both.Runs.{AreSteps, end_of}
use Rattle.end_laws.specs.both.Steps.{IsDull, IsPart, Steps, records_of}

module _ {T Q : Type 0} where
  -- a run, with the world after each move: each move is a step from the world after the move before it
  abbrev pub IsRun : Rules T Q → World T Q → List (Move × World T Q) → Type 0
  IsRun rules first run = AreSteps (Steps rules) first run

  -- the world after a run
  abbrev pub last_of : World T Q → List (Move × World T Q) → World T Q
  last_of first run = end_of first run

  -- The start: the device has answered no call since its start, has no relation and asks nothing of its application, the controller
  -- looks for it, and the frames so far say nothing of a start-up.
  pub record Begins (rules : Rules T Q) (first : World T Q) : Type 0 where
    pub uncalled : first.device.kept ≡ None
    pub unrelated : first.device.link ≡ None
    pub unasked : first.device.asked ≡ None
    pub seeking : first.controller ≡ Seeking
    pub dull : AllByRecursion (IsDull rules) first.sent

  -- The device sent this ApplicationReady with one of its moves. At that point it had accepted the request of the
  -- Connect. If the controller does not go on after a record that was refused, the device had accepted the records in
  -- order, each once. In any case the records that it had accepted are a part of these, in order, each once.
  pub record WasSent (rules : Rules T Q) (first : World T Q) (run : List (Move × World T Q)) (frame : List ℕ) : Type 0 where
    pub before : List (Move × World T Q)
    pub move : Move
    pub point : World T Q
    pub later : List (Move × World T Q)
    pub all : run ≡ before ++ (move, point) ∷ later
    pub by_device : IsByDevice move
    -- the frame is one of those sent by that move
    pub frames : List (List ℕ)
    pub behind : point.sent ≡ (last_of first before).sent ++ frames
    pub number : ℕ
    pub sent : slice_get frames number ≡ Some frame
    pub still : point.controller ≡ (last_of first before).controller
    -- this is the relation of the device
    pub link : RelationState T Q
    pub has : point.device.link ≡ Some link
    pub awaits : link.phase ≡ Awaiting
    pub accepted : link.request ≡ rules.request
    pub taken : rules.skips ≡ false → link.taken ≡ records_of rules
    pub part : IsPart link.taken (records_of rules)

  -- The controller received an ApplicationReady, after which it exchanges data. It received it at an earlier point, and
  -- the device had sent it before that.
  pub record WasHanded (rules : Rules T Q) (first : World T Q) (run : List (Move × World T Q)) : Type 0 where
    pub before : List (Move × World T Q)
    pub number : ℕ
    pub point : World T Q
    pub later : List (Move × World T Q)
    pub all : run ≡ before ++ (ComesToController number, point) ∷ later
    pub frame : List ℕ
    pub there : slice_get (last_of first before).sent number ≡ Some frame
    pub heard : rules.to_controller frame ≡ Readies
    pub exchanges : point.controller ≡ Exchanges
    pub sent : WasSent rules first before frame

  -- The controller was exchanging data after one of its own moves, and after that a frame was delivered to the device.
  pub record WasExchanging (run : List (Move × World T Q)) : Type 0 where
    pub before : List (Move × World T Q)
    pub move : Move
    pub point : World T Q
    pub by_controller : IsByController move
    pub exchanges : point.controller ≡ Exchanges
    pub between : List (Move × World T Q)
    pub number : ℕ
    pub next : World T Q
    pub later : List (Move × World T Q)
    pub all : run ≡ before ++ (move, point) ∷ (between ++ (ComesToDevice number, next) ∷ later)
