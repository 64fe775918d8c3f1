-- The entry of a slot that is read as a command ends before the gate of the slot.
use Rattle.std.proofs.Common.{◌≡◌, ◌+◌, ◌<◌, ◌≤◌, ℕ, zero, suc, true, false, List, get_or, length, refl, sym, subst, ◌∙◌, inl, inr, arith, Some}
use Rattle.std.specs.Prelude.{nat_le}
use Rattle.std.proofs.lemmas.Bool.{cases_eq, cases_Bool, cond-false, leb-true}
use Rattle.pn_values.specs.declared.command.Command.{Command}
use Rattle.pn_values.specs.declared.command.Command.TheVariants.{SetName, SetIp, SetIm, ResetApplication, ResetCommunication, ResetAll}
use Rattle.pn_values.specs.declared.im_value.ImValue.TheVariants.{Im1, Im2, Im3, Im4}
use Rattle.pn_values.specs.declared.settings.Settings.{Settings}
use Rattle.settings_journal.specs.Head.{version_at}
use Rattle.settings_journal.specs.Slot.{After, Follows, Keeps, command_in, entry_of, slot_at, slot_gate}

-- the second byte of an entry says how many bytes follow it
pub entry_length : (command : Command) → length (entry_of command) ≡ get_or (entry_of command) 1 0 + 2
entry_length (SetName true name) = omega arith
entry_length (SetName false name) = refl
entry_length (SetIp true suite) = omega arith
entry_length (SetIp false suite) = refl
entry_length (SetIm (Im1 text)) = omega arith
entry_length (SetIm (Im2 text)) = omega arith
entry_length (SetIm (Im3 text)) = omega arith
entry_length (SetIm (Im4 text)) = omega arith
entry_length ResetApplication = refl
entry_length ResetCommunication = refl
entry_length ResetAll = refl

-- an open slot that changes settings holds a command
kept_by : (head : List ℕ) (slot : List ℕ) (old new : Settings) → slot_gate slot ≡ 0 → Follows (version_at head) slot old new → (command : Command) × Keeps (version_at head) slot command
kept_by head slot old new gate (inl closed) = absurd (closed.0 gate)
kept_by head slot old new gate (inr open_one) = (open_one.1.0, open_one.1.1)

-- an open slot among those that are read holds a command
pub open_keeps : (head : List ℕ) (sector : List ℕ) (count : ℕ) (base settings : Settings) (number : ℕ) → After (version_at head) sector count base settings → number < count → slot_gate (slot_at sector number) ≡ 0
    → (command : Command) × Keeps (version_at head) (slot_at sector number) command
open_keeps head sector zero base settings number after few gate = absurd (omega (arith, few))
open_keeps head sector (suc count) base settings number after few gate = elim (cases_eq number count) [
  | inl is ↦ kept_by head (slot_at sector number) after.0 settings gate (subst (λ k. Follows (version_at head) (slot_at sector k) after.0 settings) (sym is) after.2)
  | inr less ↦ open_keeps head sector count base after.0 number after.1 (omega (arith, few, less)) gate
]

-- a command that a slot holds has at most 240 bytes
pub short_command : (head : List ℕ) (slot : List ℕ) (command : Command) → command_in (version_at head) slot ≡ Some command → get_or slot 1 0 ≤ 240
short_command head slot command is = elim (cases_Bool (nat_le (get_or slot 1 0) 240)) [
  | inl short ↦ leb-true (get_or slot 1 0) 240 short
  | inr long ↦ absurd (let none = sym (cond-false (nat_le (get_or slot 1 0) 240) _ _ long) ∙ is in cc)
]
