-- No step makes more than 48 calls: it asks for at most 16 commits, and a commit makes at most three calls. It programs at most
-- 438 octets, those of a base and of its gate.
use Rattle.std.proofs.Common.{◌≡◌, ◌==◌, ◌+◌, ◌*◌, ◌-◌, ◌≤◌, ℕ, Bool, true, false, zero, suc, List, [], ◌∷◌, ◌++◌, length, sym, subst, Option, Some, None, arith}
use Rattle.std.specs.Prelude.{if◌then◌else◌}
use Rattle.std.proofs.lemmas.List.{length-append}
use Rattle.pn_values.specs.Command.{apply}
use Rattle.pn_values.specs.declared.command.Command.{Command}
use Rattle.pn_values.specs.declared.set_item.SetItem.{SetItem}
use Rattle.pn_values.specs.declared.set_item.SetItem.TheVariants.{Ask, Signal, Answer}
use Rattle.pn_values.specs.declared.settings.Settings.{Settings}
use Rattle.flash_model.specs.Calls.{Call}
use Rattle.flash_model.specs.Image.{Image}
use Rattle.flash_model.specs.declared.flash.Sector.{Sector}
use Rattle.settings_journal.specs.Calls.{CommitCalls, calls_of}
use Rattle.settings_journal.specs.Cut.{AreWrites, all_carried_out}
use Rattle.settings_journal.specs.settings_store.Machine.{Accepted, Carried, Pass, carried_one, carried}
use Rattle.settings_journal.specs.settings_store.State.{Values}
use Rattle.device_station.specs.recording.Calls.{CallsOf, sum_of}

-- ---- the calls of commands

few_calls_of : (slots : ℕ) (active : Option Sector) (generation free : ℕ) (settings : Settings) (command : Command) → length (calls_of slots active generation free settings command) ≤ 3
few_calls_of slots (Some sector) generation (suc left) settings command = omega arith
few_calls_of slots (Some sector) generation zero settings command = omega arith
few_calls_of slots None generation free settings command = omega arith

few_commit : (image : Image) (settings : Settings) (room : ℕ) (command : Command) (calls : List Call) → CommitCalls image settings room command calls → length calls ≤ 3
few_commit image settings room command calls of = subst (λ c. length c ≤ 3) (sym of.are) (few_calls_of _ of.active of.generation of.free settings command)

pub few_of_commands : (image : Image) (stored : Settings) (room : ℕ) (accepted : List Accepted) (calls : List Call) → CallsOf image stored room accepted calls → length calls ≤ 3 * length accepted
few_of_commands image stored room [] calls of = subst (λ c. length c ≤ 0) (sym of.0) (omega arith)
few_of_commands image stored room (one ∷ more) calls of =
    let here = few_commit image stored room one.command of.0 of.2 in
    let later = few_of_commands (all_carried_out image of.0) (apply one.command stored) (room - 1) more of.1 of.4 in
    let both = length-append of.0 of.1 in
    subst (λ c. length c ≤ 3 * length (one ∷ more)) (sym of.5) (omega (arith, here, later, both))

-- ---- their octets

sum_append : (front back : List Call) → sum_of (front ++ back) ≡ sum_of front + sum_of back
sum_append [] back = omega arith
sum_append (call ∷ front) back = let later = sum_append front back in omega (arith, later)

short_calls_of : (slots : ℕ) (active : Option Sector) (generation free : ℕ) (settings : Settings) (command : Command) → AreWrites (calls_of slots active generation free settings command)
    → sum_of (calls_of slots active generation free settings command) ≤ 438
short_calls_of slots (Some sector) generation (suc left) settings command writes = omega (arith, writes.0)
short_calls_of slots (Some sector) generation zero settings command writes = omega (arith, writes.1.0)
short_calls_of slots None generation free settings command writes = omega (arith, writes.1.0)

short_commit : (image : Image) (settings : Settings) (room : ℕ) (command : Command) (calls : List Call) → CommitCalls image settings room command calls → sum_of calls ≤ 438
short_commit image settings room command calls of =
    subst (λ c. sum_of c ≤ 438) (sym of.are) (short_calls_of _ of.active of.generation of.free settings command (subst AreWrites of.are of.writes))

pub short_of_commands : (image : Image) (stored : Settings) (room : ℕ) (accepted : List Accepted) (calls : List Call) → CallsOf image stored room accepted calls → sum_of calls ≤ 438 * length accepted
short_of_commands image stored room [] calls of = subst (λ c. sum_of c ≤ 0) (sym of.0) (omega arith)
short_of_commands image stored room (one ∷ more) calls of =
    let here = short_commit image stored room one.command of.0 of.2 in
    let later = short_of_commands (all_carried_out image of.0) (apply one.command stored) (room - 1) more of.1 of.4 in
    let both = sum_append of.0 of.1 in
    subst (λ c. sum_of c ≤ 438 * length (one ∷ more)) (sym of.5) (omega (arith, here, later, both))

-- ---- the commands of items

few_if : (b : Bool) (x y : Carried) → length x.accepted ≤ 1 → length y.accepted ≤ 1 → length (if b then x else y).accepted ≤ 1
few_if true x y few_x few_y = few_x
few_if false x y few_x few_y = few_y

few_one : (values : Values) (item : SetItem) → length (carried_one Pass values item).accepted ≤ 1
few_one values (Ask command) = few_if values.has_failed _ _ (omega arith) (few_if (values.room == 0) _ _ (omega arith) (omega arith))
few_one values Signal = omega arith
few_one values (Answer answer) = omega arith

pub few_of_items : (values : Values) (items : List SetItem) → length (carried [] values items).accepted ≤ length items
few_of_items values [] = omega arith
few_of_items values (item ∷ items) =
    let one = carried_one Pass values item in
    let here = few_one values item in
    let later = few_of_items one.values items in
    let both = length-append one.accepted (carried [] one.values items).accepted in
    omega (arith, here, later, both)
