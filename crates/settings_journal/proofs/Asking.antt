-- The calls that a commit makes to the flash.
use Rattle.std.proofs.Common.{ℕ, zero, suc, None, subst, ◌≡◌, ◌≢◌, ◌+◌, ◌-◌, ◌∙◌, List, [], ◌∷◌, ◌++◌, Option, Some, refl, sym, ap}
use Rattle.std.specs.Prelude.{Result, Ok, Err, OnErr}
use Rattle.std.proofs.lemmas.List.{append-nil}
use Rattle.pn_values.specs.Command.{apply}
use Rattle.pn_values.specs.declared.command.Command.{Command}
use Rattle.pn_values.specs.declared.settings.Settings.{Settings}
use Rattle.flash_model.specs.Calls.{Call, Erases}
use Rattle.flash_model.specs.Image.{Image, IsImage, with_sector, erased}
use Rattle.flash_model.specs.Torn.{Torn}
use Rattle.flash_model.specs.declared.flash.Sector.{Sector}
use Rattle.settings_journal.specs.Calls.{base_calls, slot_calls, calls_of, IsFront, IsAskedFor}
use Rattle.settings_journal.specs.Cut.{IsCutShort, carried_out, all_carried_out}
use Rattle.settings_journal.specs.Head.{base_of}
use Rattle.settings_journal.specs.Image.{spare}
use Rattle.settings_journal.specs.Slot.{entry_of}
use Rattle.settings_journal.proofs.Writes.{sector_size}

-- calls that passed, one that failed, and the rest
pub front : (old new : Image) (passed rest : List Call) (failed : Call) → IsCutShort (all_carried_out old passed) failed new
    → IsFront old (passed ++ failed ∷ []) ((passed ++ failed ∷ []) ++ rest) new
front old new passed rest failed left = record { passed = passed; failed = failed; are = refl; rest = rest; whole = refl; left = left }

-- all of the calls were made, and the last one passed or failed
pub asked_all : {T E : Type 0} (result : Result T E) (old new : Image) (passed : List Call) (last : Call) → OnErr result (IsCutShort (all_carried_out old passed) last new)
    → IsAskedFor result old (passed ++ last ∷ []) (passed ++ last ∷ []) new
asked_all (Ok done) old new passed last left = refl
asked_all (Err fault) old new passed last left =
    record { passed = passed; failed = last; are = refl; rest = []; whole = sym (append-nil (passed ++ last ∷ [])); left = left }

-- an erase of sectors of this size, cut short and carried out
pub erase_short : (size : ℕ) (old new : Image) (sector : Sector) → IsImage size old → Torn sector 0 size (erased size) old new → IsCutShort old (Erases sector) new
erase_short size old new sector sized torn = subst (λ n. Torn sector 0 n (erased n) old new) (sym (sector_size size old sector sized)) torn

pub erase_done : (size : ℕ) (old new : Image) (sector : Sector) → IsImage size old → new ≡ with_sector old sector (erased size) → new ≡ carried_out old (Erases sector)
erase_done size old new sector sized is = is ∙ ap (λ n. with_sector old sector (erased n)) (sym (sector_size size old sector sized))

-- the calls of a commit if a slot is left
pub calls_slot : (slots : ℕ) (active : Option Sector) (sector : Sector) (generation free number : ℕ) (before : Settings) (command : Command) (entry : List ℕ)
    → active ≡ Some sector → free ≢ 0 → number ≡ slots - free → entry ≡ entry_of command → slot_calls sector number entry ≡ calls_of slots active generation free before command
calls_slot slots active sector generation zero number before command entry is some n e = absurd (some refl)
calls_slot slots active sector generation (suc left) number before command entry is some n e =
    ap (λ k. slot_calls sector k entry) n ∙ ap (slot_calls sector (slots - suc left)) e ∙ ap (λ a. calls_of slots a generation (suc left) before command) (sym is)

none_calls : (slots : ℕ) (active : Option Sector) (generation free : ℕ) (before : Settings) (command : Command) → free ≡ 0
    → base_calls (spare active) (base_of (generation + 1) (apply command before)) ≡ calls_of slots active generation free before command
none_calls slots None generation free before command e = refl
none_calls slots (Some sector) generation free before command e =
    sym (ap (λ f. calls_of slots (Some sector) generation f before command) e)

-- the calls of a commit if no slot is left
pub calls_base : (slots : ℕ) (active : Option Sector) (sector : Sector) (generation free number : ℕ) (before next : Settings) (command : Command) (base : List ℕ)
    → free ≡ 0 → sector ≡ spare active → number ≡ generation + 1 → next ≡ apply command before → base ≡ base_of number next → base_calls sector base ≡ calls_of slots active generation free before command
calls_base slots active sector generation free number before next command base none s n x b =
    ap (λ t. base_calls t base) s ∙ ap (base_calls (spare active)) (b ∙ ap (λ k. base_of k next) n ∙ ap (base_of (generation + 1)) x) ∙ none_calls slots active generation free before command none

-- the same calls under other names
pub asked_as : {T E : Type 0} (result : Result T E) (old new : Image) (all these calls : List Call) → all ≡ these → IsAskedFor result old all calls new → IsAskedFor result old these calls new
asked_as result old new all these calls e part = subst (λ a. IsAskedFor result old a calls new) e part

pub failed_as : {T E : Type 0} (result : Result T E) (fault : E) (old new : Image) (all these calls : List Call) → result ≡ Err fault → all ≡ these → IsFront old calls all new
    → IsAskedFor result old these calls new
failed_as result fault old new all these calls is e part =
    subst (λ r. IsAskedFor r old these calls new) (sym is) (subst (λ a. IsFront old calls a new) e part)
