-- The effect of carrying out items, whatever the flash does.
use Rattle.std.specs.Prelude.{◌≡◌, ◌+◌, ◌⊎◌, ℕ, Bool, true, false, List, [], ◌∷◌, ◌++◌, length}
use Rattle.pn_values.specs.declared.set_item.SetItem.{SetItem}
use Rattle.pn_values.specs.declared.set_item.BlockError.{BlockError}
use Rattle.flash_model.specs.Calls.{Call}
use Rattle.flash_model.specs.Image.{Image}
use Rattle.flash_model.specs.declared.flash.Flash.{Ghosts as Flash}
use Rattle.flash_model.specs.Torn.{HasRisen}
use Rattle.settings_journal.specs.Calls.{CommitCalls, IsFront}
use Rattle.settings_journal.specs.Image.{StartsWith}
use Rattle.settings_journal.specs.settings_store.State.{State, Values}
use Rattle.settings_journal.specs.settings_store.Machine.{Outcome, Pass, Fault, Accepted, first_of, rest_of, carried_one, carried}
use Rattle.settings_journal.specs.settings_store.Legal.{made_of, CrashSafe}
use Rattle.settings_journal.specs.settings_store.Faults.{GoesOn}

-- No call of the flash and no commit failed; or a call failed, and with it a commit, the first since the start.
abbrev pub IsCaused : ℕ → ℕ → Values → Values → Type 0
IsCaused before now old new =
    ((now ≡ before) × (new.has_failed ≡ old.has_failed)) ⊎ (HasRisen before now × (old.has_failed ≡ false) × (new.has_failed ≡ true))

-- if no commit failed since the start, a start on the image gives the stored settings and the same room
abbrev pub Holds : Image → Values → Type 0
Holds image values = values.has_failed ≡ false → StartsWith image values.stored values.room

-- A stretch of a cycle, from its first state to the present one, in which these commands were accepted. A call of the
-- flash failed if and only if a commit did. The image is safe and holds what is stored, and if no command was accepted
-- the flash is unchanged. Once a commit has failed, this stays so and nothing is accepted. As long as none has failed,
-- the stored settings are those that the accepted commands make of the earlier ones, and each command took one from the
-- room. Power that is lost stays lost.
pub record Stretch {F : Type 0} {S : ℕ} (as_flash : Flash F S) (first : State F) (accepted : List Accepted) (now : State F) : Type 0 where
  pub caused : IsCaused (as_flash.failures first.flash) (as_flash.failures now.flash) first.values now.values
  pub safe : CrashSafe first.values.has_failed first.values.stored accepted (as_flash.image first.flash) (as_flash.image now.flash)
  pub holds : Holds (as_flash.image now.flash) now.values
  pub untouched : accepted ≡ [] → now.flash ≡ first.flash
  pub stays_failed : first.values.has_failed ≡ true → (now.values.has_failed ≡ true) × (accepted ≡ [])
  pub made : now.values.has_failed ≡ false → now.values.stored ≡ made_of accepted first.values.stored
  pub room : now.values.has_failed ≡ false → now.values.room + length accepted ≡ first.values.room
  pub stays_lost : first.values.is_lost ≡ true → now.values.is_lost ≡ true

-- After any earlier stretch, these commands make a longer one.
abbrev pub Continues : {F : Type 0} {S : ℕ} → Flash F S → State F → List Accepted → State F → Type 0
Continues {F} as_flash old accepted new =
    (first : State F) (front : List Accepted) → Stretch as_flash first front old → Stretch as_flash first (front ++ accepted) new

-- The cause of a fault in one item, by its outcome. If the item passes, no call of the flash and no commit failed. A
-- fault is that of its own commit, the first since the start, in which a call failed.
abbrev pub IsCausedAlone : Outcome → ℕ → ℕ → Values → Values → Type 0
IsCausedAlone Pass before now old new = (now ≡ before) × (new.has_failed ≡ old.has_failed)
IsCausedAlone (Fault is_lost) before now old new = HasRisen before now × (old.has_failed ≡ false) × (new.has_failed ≡ true)

-- all calls of a commit were made if it is done, else a prefix of them, up to the one that failed
abbrev pub IsAskedBy : Bool → Image → List Call → List Call → Image → Type 0
IsAskedBy true old commit calls new = calls ≡ commit
IsAskedBy false old commit calls new = IsFront old calls commit new

-- The calls that an accepted command made to the flash: those of its commit, in order, and no others.
pub record Asks {F : Type 0} {S : ℕ} (as_flash : Flash F S) (one : Accepted) (old new : State F) : Type 0 where
  pub commit : List Call
  pub calls : List Call
  pub of_commit : CommitCalls (as_flash.image old.flash) old.values.stored old.values.room one.command commit
  pub part : IsAskedBy one.is_done (as_flash.image old.flash) commit calls (as_flash.image new.flash)
  pub were : as_flash.asked old.flash calls new.flash

-- One item, for an outcome of its call. It makes these values, the outcome has its cause in this item, and the image is
-- safe and holds what is stored. If a command is accepted, the calls of its commit were made; if not, the flash is
-- unchanged.
pub record CarriesOne {F : Type 0} {S : ℕ} (as_flash : Flash F S) (outcome : Outcome) (old : State F) (item : SetItem) (new : State F) : Type 0 where
  pub values : new.values ≡ (carried_one outcome old.values item).values
  pub caused : IsCausedAlone outcome (as_flash.failures old.flash) (as_flash.failures new.flash) old.values new.values
  pub safe : CrashSafe old.values.has_failed old.values.stored (carried_one outcome old.values item).accepted (as_flash.image old.flash) (as_flash.image new.flash)
  pub holds : Holds (as_flash.image new.flash) new.values
  pub asks : (one : Accepted) → (carried_one outcome old.values item).accepted ≡ one ∷ [] → Asks as_flash one old new
  pub untouched : (carried_one outcome old.values item).accepted ≡ [] → new.flash ≡ old.flash

-- One item and its answer, for some outcome of its call, which the flash determines. Power that is lost stays lost.
pub record CarriesItem {F : Type 0} {S : ℕ} (as_flash : Flash F S) (old : State F) (item : SetItem) (answer : BlockError) (new : State F) : Type 0 where
  pub outcome : Outcome
  pub carries : CarriesOne as_flash outcome old item new
  pub answer_is : (carried_one outcome old.values item).answers ≡ answer ∷ []
  pub stays_lost : old.values.is_lost ≡ true → new.values.is_lost ≡ true

-- The items one by one: each begins with the flash and the values that the one before it left.
abbrev pub OneByOne : {F : Type 0} {S : ℕ} → Flash F S → List Outcome → State F → List SetItem → State F → Type 0
OneByOne as_flash outcomes old [] new = new ≡ old
OneByOne {F} as_flash outcomes old (item ∷ items) new =
    (between : State F) × CarriesOne as_flash (first_of outcomes) old item between × OneByOne as_flash (rest_of outcomes) between items new

-- For some outcomes of the calls, which the flash determines: the values and the answers are those of the items in
-- order; there are no outcomes if no commit failed; each has its cause in its own item; what happened is a stretch of a
-- cycle and continues any other; and the settings go on, whatever the flash does.
pub record Carries {F : Type 0} {S : ℕ} (as_flash : Flash F S) (old : State F) (items : List SetItem) (answers : List BlockError) (new : State F) : Type 0 where
  pub outcomes : List Outcome
  pub values : new.values ≡ (carried outcomes old.values items).values
  pub answers_are : answers ≡ (carried outcomes old.values items).answers
  pub inactive : new.values.has_failed ≡ old.values.has_failed → outcomes ≡ []
  pub placed : OneByOne as_flash outcomes old items new
  pub stretch : Stretch as_flash old (carried outcomes old.values items).accepted new
  pub continues : Continues as_flash old (carried outcomes old.values items).accepted new
  pub goes_on : GoesOn old.values items answers new.values
