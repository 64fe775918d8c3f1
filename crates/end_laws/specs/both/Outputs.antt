-- The outputs of a device, and the values that its controller sends, over any list of moves.
use Rattle.std.specs.Prelude.{◌≡◌, ◌⊎◌, ℕ, Bool, true, false, List, ◌∷◌, ◌++◌, slice_get, Option, Some, None}
use Rattle.std.specs.List.{AllByRecursion}
use Rattle.end_laws.specs.both.Small.{Move, ComesToDevice, ComesToController, AtDevice, AtController, IsByController}
use Rattle.end_laws.specs.both.Runs.{AreSteps, end_of}

-- The functions for outputs: what is shown if no frame was accepted, and for the octets of a frame; which octets the
-- controller sends for the values that were set; and which output octets of this relation a frame brings to the device,
-- if any.
pub record Outputs (O V : Type 0) : Type 0 where
  pub zeros : O
  pub shown_by : List ℕ → O
  pub octets_of : V → List ℕ
  pub brought_by : List ℕ → Option (List ℕ)

-- A device: whether it accepted a frame in this relation, and what it shows. The values that were set at its
-- controller, and the octets of each frame that either end ever sent.
pub record Shown (O V : Type 0) : Type 0 where
  pub accepted : Bool
  pub outputs : O
  pub given : V
  pub sent : List (List ℕ)

module _ {O V : Type 0} where
  -- a frame that brings no outputs
  abbrev pub BringsNone : Outputs O V → List ℕ → Type 0
  BringsNone rules frame = rules.brought_by frame ≡ None

  -- a frame that brings these octets is accepted
  pub record Accepts (rules : Outputs O V) (brought : Option (List ℕ)) (after : Shown O V) : Type 0 where
    pub octets : List ℕ
    pub brings : brought ≡ Some octets
    pub accepted : after.accepted ≡ true
    pub shown : after.outputs ≡ rules.shown_by octets

  -- what is shown stays the same; or no frame counts as accepted and zeros are shown; or it comes from a frame that is
  -- accepted now
  abbrev pub Shows : Outputs O V → Option (List ℕ) → Shown O V → Shown O V → Type 0
  Shows rules brought before after =
      ((after.accepted ≡ before.accepted) × (after.outputs ≡ before.outputs)) ⊎ (((after.accepted ≡ false) × (after.outputs ≡ rules.zeros)) ⊎ Accepts rules brought after)

  -- A step of the device to which these octets are brought, if any. The frames that it sends bring no outputs.
  pub record ShowsAtDevice (rules : Outputs O V) (brought : Option (List ℕ)) (before after : Shown O V) : Type 0 where
    pub shows : Shows rules brought before after
    pub given : after.given ≡ before.given
    pub frames : List (List ℕ)
    pub none : AllByRecursion (BringsNone rules) frames
    pub behind : after.sent ≡ before.sent ++ frames

  -- A step of the controller: each frame that it sends brings no outputs, or the values set last.
  pub record GivesAtController (rules : Outputs O V) (before after : Shown O V) : Type 0 where
    pub accepted : after.accepted ≡ before.accepted
    pub outputs : after.outputs ≡ before.outputs
    pub frames : List (List ℕ)
    pub brings : AllByRecursion (λ frame. BringsNone rules frame ⊎ (rules.brought_by frame ≡ Some (rules.octets_of after.given))) frames
    pub behind : after.sent ≡ before.sent ++ frames

  -- a frame is delivered to the device, if there is one with this number
  pub record BringsTo (rules : Outputs O V) (number : ℕ) (before after : Shown O V) : Type 0 where
    pub frame : List ℕ
    pub there : slice_get before.sent number ≡ Some frame
    pub steps : ShowsAtDevice rules (rules.brought_by frame) before after

  -- a move, which may be skipped
  abbrev pub ShowsBehind : Outputs O V → Shown O V → Move → Shown O V → Type 0
  ShowsBehind rules before (ComesToDevice number) after = (after ≡ before) ⊎ BringsTo rules number before after
  ShowsBehind rules before (ComesToController number) after = (after ≡ before) ⊎ GivesAtController rules before after
  ShowsBehind rules before AtDevice after = (after ≡ before) ⊎ ShowsAtDevice rules None before after
  ShowsBehind rules before AtController after = (after ≡ before) ⊎ GivesAtController rules before after

  -- a run: moves, and what is shown after each of them
  abbrev pub IsShownRun : Outputs O V → Shown O V → List (Move × Shown O V) → Type 0
  IsShownRun rules first run = AreSteps (ShowsBehind rules) first run

  -- what is shown after a run
  abbrev pub shown_last : Shown O V → List (Move × Shown O V) → Shown O V
  shown_last first run = end_of first run

  -- the start: no frame was accepted, and no frame that was sent brings outputs
  pub record ShowsNone (rules : Outputs O V) (first : Shown O V) : Type 0 where
    pub unaccepted : first.accepted ≡ false
    pub zeros : first.outputs ≡ rules.zeros
    pub none : AllByRecursion (BringsNone rules) first.sent

  -- All outputs that are shown come from one frame. The controller sent it with one of its moves, it brings the values
  -- set last at that point, and it was delivered to the device by a later move.
  pub record ComesFromOne (rules : Outputs O V) (first : Shown O V) (run : List (Move × Shown O V)) (outputs : O) : Type 0 where
    pub before : List (Move × Shown O V)
    pub move : Move
    pub point : Shown O V
    pub later : List (Move × Shown O V)
    pub all : run ≡ before ++ (move, point) ∷ later
    pub by_controller : IsByController move
    -- the frame is one of those sent by that move
    pub frame : List ℕ
    pub frames : List (List ℕ)
    pub behind : point.sent ≡ (shown_last first before).sent ++ frames
    pub number : ℕ
    pub sent : slice_get frames number ≡ Some frame
    pub brings : rules.brought_by frame ≡ Some (rules.octets_of point.given)
    -- the frame was delivered to the device later
    pub between : List (Move × Shown O V)
    pub came : ℕ
    pub next : Shown O V
    pub others : List (Move × Shown O V)
    pub since : later ≡ between ++ (ComesToDevice came, next) ∷ others
    pub there : slice_get (shown_last point between).sent came ≡ Some frame
    -- what is shown comes from the frame
    pub shown : outputs ≡ rules.shown_by (rules.octets_of point.given)

  -- zeros as long as no frame is accepted, then what one frame brings
  abbrev pub AreAsGiven : Outputs O V → Shown O V → List (Move × Shown O V) → Bool → O → Type 0
  AreAsGiven rules first run false outputs = outputs ≡ rules.zeros
  AreAsGiven rules first run true outputs = ComesFromOne rules first run outputs
