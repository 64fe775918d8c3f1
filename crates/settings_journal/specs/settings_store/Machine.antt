-- The effect of commands, given the outcome of each call that stores one.
use Rattle.std.specs.Prelude.{◌-◌, ◌==◌, Bool, true, false, List, [], ◌∷◌, ◌++◌, map, if◌then◌else◌}
use Rattle.pn_values.specs.Command.{apply, show}
use Rattle.pn_values.specs.declared.command.Command.{Command}
use Rattle.pn_values.specs.declared.set_item.SetItem.{SetItem}
use Rattle.pn_values.specs.declared.set_item.SetItem.TheVariants.{Ask, Signal, Answer}
use Rattle.pn_values.specs.declared.set_item.BlockError.{BlockError}
use Rattle.pn_values.specs.declared.set_item.BlockError.TheVariants.{Done, Exhausted, Local}
use Rattle.settings_journal.specs.settings_store.State.{Values}

-- the outcome of a call that stores a command: it is stored, or a flash call fails, with power lost or not
pub data Outcome : Type 0 where
  Pass : Outcome
  Fault : (is_lost : Bool) → Outcome

-- a command that was accepted, and whether it is answered 'done'
pub record Accepted : Type 0 where
  pub command : Command
  pub is_done : Bool

-- the values after some items, the answer to each, and the commands among them that were accepted
pub record Carried : Type 0 where
  pub values : Values
  pub answers : List BlockError
  pub accepted : List Accepted

-- an item that stores nothing
abbrev pub answered : BlockError → Values → Carried
answered answer values = record { values = values; answers = answer ∷ []; accepted = [] }

-- A command that is accepted. If it is stored, it is shown. If a flash call failed, the running settings do not change,
-- and no further command is carried out until the next start.
abbrev pub accepted : Outcome → Values → Command → Carried
accepted Pass values command = record {
  values = record values {
    running = show command values.running;
    stored = apply command values.stored;
    room = values.room - 1;
    is_lost = false;
  };
  answers = Done ∷ [];
  accepted = record { command = command; is_done = true } ∷ [];
}
accepted (Fault is_lost) values command = record {
  values = record values { has_failed = true; is_lost = is_lost };
  answers = Local ∷ [];
  accepted = record { command = command; is_done = false } ∷ [];
}

-- A command: refused after a commit that failed, and if there is no room, else accepted.
abbrev pub committed : Outcome → Values → Command → Carried
committed outcome values command =
    if values.has_failed then answered Local values else (if values.room == 0 then answered Exhausted values else accepted outcome values command)

-- one item, for an outcome of its call: a command is judged, and a signal and an answer change nothing
abbrev pub carried_one : Outcome → Values → SetItem → Carried
carried_one outcome values (Ask command) = committed outcome values command
carried_one outcome values Signal = answered Done values
carried_one outcome values (Answer answer) = answered answer values

-- the outcome of the first call; a call without an outcome passes
abbrev pub first_of : List Outcome → Outcome
first_of [] = Pass
first_of (outcome ∷ outcomes) = outcome

-- the outcomes after the first one
abbrev pub rest_of : List Outcome → List Outcome
rest_of [] = []
rest_of (outcome ∷ outcomes) = outcomes

-- the result so far, followed by more
abbrev pub followed_by : Carried → Carried → Carried
followed_by front back =
    record { values = back.values; answers = front.answers ++ back.answers; accepted = front.accepted ++ back.accepted }

-- the items in order, each by itself, with one outcome for each item
abbrev pub carried : List Outcome → Values → List SetItem → Carried
carried outcomes values [] = record { values = values; answers = []; accepted = [] }
carried outcomes values (item ∷ items) =
    let one = carried_one (first_of outcomes) values item in followed_by one (carried (rest_of outcomes) one.values items)

-- the commands that were accepted
abbrev pub commands_of : List Accepted → List Command
commands_of accepted = map (λ a. a.command) accepted
