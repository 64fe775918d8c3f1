-- Operations of a host, carried out one after another.
use Rattle.std.specs.Prelude.{◌≡◌, ◌++◌, ℕ, Bool, true, List, [], ◌∷◌}
use Rattle.c_layout.specs.declared.op.Op.{Op}
use Rattle.controller_abi.specs.Host.{Entry, asked_in, operation_in}
use Rattle.controller_abi.specs.Serves.{Serves}
use Rattle.controller_abi.specs.State.{State}

-- The port of this operation before and after it.
abbrev pub IsTurn : State → Entry → State → Type 0
IsTurn old entry new = Serves (operation_in entry) old entry.asked entry.given entry.answer new entry.reported

-- These operations lead from one state of the port to another, one after the other.
abbrev pub Plays : State → List Entry → State → Type 0
Plays old [] new = new ≡ old
Plays old (entry ∷ more) new = (between : State) × IsTurn old entry between × Plays between more new

-- The first of these operations were carried out, and a host learned of each.
pub record IsPlayed (operations : List (Op × List ℕ)) (before now : List Entry) (are_all : Bool) (old new : State) : Type 0 where
  pub entries : List Entry
  pub rest : List (Op × List ℕ)
  pub told : now ≡ before ++ entries
  pub are : operations ≡ asked_in entries ++ rest
  pub plays : Plays old entries new
  pub all : are_all ≡ true → rest ≡ []
