-- The effect of the machine on more than one item.
use Rattle.std.proofs.Common.{◌≡◌, ◌==◌, ℕ, Bool, true, false, List, [], ◌∷◌, ◌++◌, map, refl, ap, ◌∙◌, append_assoc, length, suc, ◌+◌, ◌-◌, arith}
use Rattle.std.proofs.lemmas.Bool.{cond_both, cond-true, cond-false}
use Rattle.std.proofs.lemmas.Bool.Decides.{nat_tests}
use Rattle.pn_values.specs.declared.settings.Settings.{Settings}
use Rattle.pn_values.specs.declared.command.Command.{Command}
use Rattle.pn_values.specs.declared.set_item.SetItem.{SetItem}
use Rattle.pn_values.specs.declared.set_item.SetItem.TheVariants.{Ask, Signal, Answer}
use Rattle.pn_values.specs.declared.set_item.BlockError.{BlockError}
use Rattle.pn_values.specs.declared.set_item.BlockError.TheVariants.{Done, Exhausted, Local}
use Rattle.settings_journal.specs.settings_store.State.{Values}
use Rattle.settings_journal.specs.settings_store.Machine.{Outcome, Pass, Fault, Accepted, Carried, answered, accepted, committed, carried_one, first_of, rest_of, followed_by, carried}
use Rattle.settings_journal.specs.settings_store.Legal.{made_of}
use Rattle.settings_journal.specs.settings_store.Faults.{answer_after_fault}

-- a command that is accepted passes or has its fault
accepted_is : (P : Carried → Type 0) (outcome : Outcome) (values : Values) (command : Command)
    → P (accepted Pass values command) → ((is_lost : Bool) → P (accepted (Fault is_lost) values command)) → P (accepted outcome values command)
accepted_is P Pass values command passed fault = passed
accepted_is P (Fault is_lost) values command passed fault = fault is_lost

-- An item is answered and changes nothing, or no commit failed before it and it passes or has its fault.
pub item_is : (P : Carried → Type 0) (outcome : Outcome) (values : Values) (item : SetItem)
    → ((answer : BlockError) → P (answered answer values))
    → ((command : Command) → values.has_failed ≡ false → (values.room == 0) ≡ false → P (accepted Pass values command))
    → ((is_lost : Bool) (command : Command) → values.has_failed ≡ false → (values.room == 0) ≡ false → P (accepted (Fault is_lost) values command))
    → P (carried_one outcome values item)
item_is P outcome values (Answer answer) alone passed fault = alone answer
item_is P outcome values Signal alone passed fault = alone Done
item_is P outcome values (Ask command) alone passed fault =
    cond_both values.has_failed _ _ P (λ _. alone Local)
    (λ fine. cond_both (values.room == 0) _ _ P (λ _. alone Exhausted)
    (λ room. accepted_is P outcome values command (passed command fine room) (λ is_lost. fault is_lost command fine room)))

pub committed_full : (outcome : Outcome) (values : Values) (command : Command) → values.has_failed ≡ false → values.room ≡ 0
    → committed outcome values command ≡ answered Exhausted values
committed_full outcome values command fine full = cond-false _ _ _ fine ∙ cond-true _ _ _ (ap (λ n. n == 0) full)

pub committed_taken : (outcome : Outcome) (values : Values) (command : Command) → values.has_failed ≡ false → (values.room == 0) ≡ false
    → committed outcome values command ≡ accepted outcome values command
committed_taken outcome values command fine room = cond-false _ _ _ fine ∙ cond-false _ _ _ room

pub failed_one : (outcome : Outcome) (values : Values) (item : SetItem) → values.has_failed ≡ true → carried_one outcome values item ≡ answered (answer_after_fault item) values
failed_one outcome values (Ask command) failed = cond-true _ _ _ failed
failed_one outcome values Signal failed = refl
failed_one outcome values (Answer answer) failed = refl

-- after a commit that failed each command is refused, and nothing changes
pub failed_all : (outcomes : List Outcome) (values : Values) (items : List SetItem) → values.has_failed ≡ true
    → carried outcomes values items ≡ record { values = values; answers = map answer_after_fault items; accepted = [] }
failed_all outcomes values [] failed = refl
failed_all outcomes values (item ∷ items) failed =
    ap (λ one. followed_by one (carried (rest_of outcomes) one.values items)) (failed_one (first_of outcomes) values item failed)
    ∙ ap (followed_by (answered (answer_after_fault item) values)) (failed_all (rest_of outcomes) values items failed)

pub stays_failed : (outcomes : List Outcome) (values : Values) (items : List SetItem) → values.has_failed ≡ true → (carried outcomes values items).values.has_failed ≡ true
stays_failed outcomes values items failed = ap (λ r. r.values.has_failed) (failed_all outcomes values items failed) ∙ failed

-- the settings that two lists of commands make of the first settings
pub made_append : (front back : List Accepted) (first : Settings) → made_of (front ++ back) first ≡ made_of back (made_of front first)
made_append [] back first = refl
made_append (one ∷ front) back first = made_append front back _

-- As long as no commit failed, the stored settings are those that the accepted commands make of the earlier ones.
pub stored_made : (outcomes : List Outcome) (values : Values) (items : List SetItem) → (carried outcomes values items).values.has_failed ≡ false
    → (carried outcomes values items).values.stored ≡ made_of (carried outcomes values items).accepted values.stored
stored_made outcomes values [] fine = refl
stored_made outcomes values (item ∷ items) fine =
    item_is (λ one. (carried (rest_of outcomes) one.values items).values.has_failed ≡ false
    → (carried (rest_of outcomes) one.values items).values.stored ≡ made_of (one.accepted ++ (carried (rest_of outcomes) one.values items).accepted) values.stored)
    (first_of outcomes) values item
    (λ _. stored_made (rest_of outcomes) values items)
    (λ command _ _. stored_made (rest_of outcomes) (accepted Pass values command).values items)
    (λ is_lost command _ _ fine. let failed = stays_failed (rest_of outcomes) (accepted (Fault is_lost) values command).values items refl in cc)
    fine

one_taken : (room left count : ℕ) → (room == 0) ≡ false → left + count ≡ room - 1 → left + suc count ≡ room
one_taken room left count some rest = grind (arith, nat_tests)

-- An accepted item that passes takes one from the room, and nothing else does.
pub room_left : (outcomes : List Outcome) (values : Values) (items : List SetItem) → (carried outcomes values items).values.has_failed ≡ false
    → (carried outcomes values items).values.room + length (carried outcomes values items).accepted ≡ values.room
room_left outcomes values [] fine = omega arith
room_left outcomes values (item ∷ items) fine =
    item_is (λ one. (carried (rest_of outcomes) one.values items).values.has_failed ≡ false
    → (carried (rest_of outcomes) one.values items).values.room + length (one.accepted ++ (carried (rest_of outcomes) one.values items).accepted) ≡ values.room)
    (first_of outcomes) values item
    (λ _. room_left (rest_of outcomes) values items)
    (λ command _ room fine. let on = room_left (rest_of outcomes) (accepted Pass values command).values items fine in one_taken _ _ _ room on)
    (λ is_lost command _ _ fine. let failed = stays_failed (rest_of outcomes) (accepted (Fault is_lost) values command).values items refl in cc)
    fine

-- the outcomes after those of some items
after : List Outcome → List SetItem → List Outcome
after outcomes [] = outcomes
after outcomes (item ∷ items) = after (rest_of outcomes) items

-- one outcome for each item, made explicit
unfoldable pub padded : List Outcome → List SetItem → List Outcome
padded outcomes [] = []
padded outcomes (item ∷ items) = first_of outcomes ∷ padded (rest_of outcomes) items

followed_assoc : (first second third : Carried) → followed_by first (followed_by second third) ≡ followed_by (followed_by first second) third
followed_assoc first second third = simp append_assoc

carried_append : (outcomes : List Outcome) (values : Values) (items more : List SetItem) →
    carried outcomes values (items ++ more) ≡ followed_by (carried outcomes values items) (carried (after outcomes items) (carried outcomes values items).values more)
unfolding after
carried_append outcomes values [] more = refl
carried_append outcomes values (item ∷ items) more =
    let one : Carried = carried_one (first_of outcomes) values item in
    let front : Carried = carried (rest_of outcomes) one.values items in
    ap (followed_by one) (carried_append (rest_of outcomes) one.values items more)
    ∙ followed_assoc one front (carried (after (rest_of outcomes) items) front.values more)

carried_padded : (outcomes back : List Outcome) (values : Values) (items : List SetItem) → carried (padded outcomes items ++ back) values items ≡ carried outcomes values items
unfolding padded
carried_padded outcomes back values [] = refl
carried_padded outcomes back values (item ∷ items) =
    ap (followed_by (carried_one (first_of outcomes) values item)) (carried_padded (rest_of outcomes) back (carried_one (first_of outcomes) values item).values items)

after_padded : (outcomes back : List Outcome) (items : List SetItem) → after (padded outcomes items ++ back) items ≡ back
unfolding after padded
after_padded outcomes back [] = refl
after_padded outcomes back (item ∷ items) = after_padded (rest_of outcomes) back items

after_inactive : (items : List SetItem) → after [] items ≡ []
unfolding after
after_inactive [] = refl
after_inactive (item ∷ items) = after_inactive items

-- the outcomes for some items and then more; empty if both are
unfoldable pub joined : List Outcome → List Outcome → List SetItem → List Outcome
joined [] [] items = []
joined [] (outcome ∷ outcomes) items = padded [] items ++ outcome ∷ outcomes
joined (outcome ∷ outcomes) back items = padded (outcome ∷ outcomes) items ++ back

pub joined_inactive : (front back : List Outcome) (items : List SetItem) → front ≡ [] → back ≡ [] → joined front back items ≡ []
unfolding joined
joined_inactive [] [] items _ _ = refl
joined_inactive [] (outcome ∷ outcomes) items _ none = cc
joined_inactive (outcome ∷ outcomes) back items none _ = cc

padded_then : (front back : List Outcome) (values : Values) (items more : List SetItem) →
    carried (padded front items ++ back) values (items ++ more) ≡ followed_by (carried front values items) (carried back (carried front values items).values more)
padded_then front back values items more =
    carried_append (padded front items ++ back) values items more ∙ simp (carried_padded, after_padded)

pub joined_then : (front back : List Outcome) (values : Values) (items more : List SetItem) →
    carried (joined front back items) values (items ++ more) ≡ followed_by (carried front values items) (carried back (carried front values items).values more)
unfolding joined
joined_then [] [] values items more = carried_append [] values items more ∙ simp after_inactive
joined_then [] (outcome ∷ outcomes) values items more = padded_then [] (outcome ∷ outcomes) values items more
joined_then (outcome ∷ outcomes) back values items more = padded_then (outcome ∷ outcomes) back values items more
