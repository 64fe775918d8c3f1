-- Items carried out one by one, followed by more of them.
use Rattle.std.proofs.Common.{◌≡◌, ℕ, List, [], ◌∷◌, ◌++◌, refl, subst}
use Rattle.pn_values.specs.declared.set_item.SetItem.{SetItem}
use Rattle.flash_model.specs.declared.flash.Flash.{Ghosts as Flash}
use Rattle.settings_journal.specs.settings_store.State.{State}
use Rattle.settings_journal.specs.settings_store.Machine.{Outcome, rest_of}
use Rattle.settings_journal.specs.settings_store.Carries.{OneByOne}
use Rattle.settings_journal.proofs.SettingsStoreMachine.{padded, joined}

-- the case without outcomes for either list
placed_quietly : {F : Type 0} {S : ℕ} (as_flash : Flash F S) (old mid new : State F) (items more : List SetItem)
    → OneByOne as_flash [] old items mid → OneByOne as_flash [] mid more new → OneByOne as_flash [] old (items ++ more) new
placed_quietly as_flash old mid new [] more one two = subst (λ s. OneByOne as_flash [] s more new) one two
placed_quietly as_flash old mid new (item ∷ items) more one two = (one.0, one.1, placed_quietly as_flash one.0 mid new items more one.2 two)

-- the case with an outcome for each of the first items
placed_padded : {F : Type 0} {S : ℕ} (as_flash : Flash F S) (front back : List Outcome) (old mid new : State F) (items more : List SetItem)
    → OneByOne as_flash front old items mid → OneByOne as_flash back mid more new → OneByOne as_flash (padded front items ++ back) old (items ++ more) new
unfolding padded
placed_padded as_flash front back old mid new [] more one two = subst (λ s. OneByOne as_flash back s more new) one two
placed_padded as_flash front back old mid new (item ∷ items) more one two =
    (one.0, one.1, placed_padded as_flash (rest_of front) back one.0 mid new items more one.2 two)

pub placed_then : {F : Type 0} {S : ℕ} (as_flash : Flash F S) (front back : List Outcome) (old mid new : State F) (items more : List SetItem)
    → OneByOne as_flash front old items mid → OneByOne as_flash back mid more new → OneByOne as_flash (joined front back items) old (items ++ more) new
unfolding joined
placed_then as_flash [] [] old mid new items more one two = placed_quietly as_flash old mid new items more one two
placed_then as_flash [] (outcome ∷ outcomes) old mid new items more one two = placed_padded as_flash [] (outcome ∷ outcomes) old mid new items more one two
placed_then as_flash (outcome ∷ outcomes) back old mid new items more one two = placed_padded as_flash (outcome ∷ outcomes) back old mid new items more one two

-- two lists are empty if they are empty together
pub both_empty : {A : Type 0} (front back : List A) → front ++ back ≡ [] → (front ≡ []) × (back ≡ [])
both_empty [] back none = (refl, none)
both_empty (one ∷ front) back none = cc
