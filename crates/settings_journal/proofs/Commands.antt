-- The entry that is written for a command is read as a command of the same effect.
use Rattle.std.proofs.Common.{◌≡◌, ◌+◌, ◌≤◌, ℕ, suc, List, [], ◌++◌, length, take, drop, get_or, refl, sym, ap, subst, ◌∙◌, arith, Option, Some, None, true, lit≤}
use Rattle.std.specs.Prelude.{nat_le, slice_range, Bool, false, ◌==◌}
use Rattle.std.proofs.lemmas.Bool.{cond-true}
use Rattle.std.proofs.lemmas.List.{get_or-take, drop-take, take_at, drop_at, drop-drop, take_all, append_assoc}
use Rattle.pn_values.specs.Command.{apply}
use Rattle.pn_values.specs.IpSuite.{Suite, IsSuite, zero_suite}
use Rattle.pn_values.specs.StationName.{IsNameOrNone}
use Rattle.pn_values.specs.declared.im_value.ImValue.{ImValue}
use Rattle.pn_values.specs.declared.command.Command.{Command}
use Rattle.pn_values.specs.declared.command.Command.TheVariants.{SetName, SetIp, SetIm}
use Rattle.pn_values.specs.declared.settings.Settings.{Settings}
use Rattle.settings_journal.specs.declared.head.Version.{Version}
use Rattle.settings_journal.specs.declared.head.Version.TheVariants.{Two}
use Rattle.settings_journal.proofs.Parts.{range_at, suite_same}
use Rattle.settings_journal.specs.Slot.{command_in, command_of, entry, sized, suite_in, IsCommand, IsEntryOf, IsHandled}

same_true : (a b : ℕ) → a ≡ b → (a == b) ≡ true
same_true a b e = grind (arith, e)

few_true : (n : ℕ) → n ≤ 240 → nat_le n 240 ≡ true
few_true n h = grind arith

-- a slot whose payload is not too long holds the command that its kind and its payload say
command_is : (version : Version) (slot : List ℕ) → get_or slot 1 0 ≤ 240 → command_in version slot ≡ command_of version (get_or slot 0 0) (take (get_or slot 1 0) (drop 2 slot))
command_is version slot short = cond-true (nat_le (get_or slot 1 0) 240) (command_of version (get_or slot 0 0) (take (get_or slot 1 0) (drop 2 slot))) None (few_true (get_or slot 1 0) short)

pub handled_in : (version : Version) (slot : List ℕ) (size : ℕ) (found : Option Command) → size ≡ get_or slot 1 0 → size ≤ 240
    → IsHandled (command_of version (get_or slot 0 0) (slice_range slot 2 (2 + size))) found → IsHandled (command_in version slot) found
handled_in version slot size found is short handled =
    let e : slice_range slot 2 (2 + size) ≡ take (get_or slot 1 0) (drop 2 slot) = range_at slot 2 (2 + size) (get_or slot 1 0) (omega (arith, is)) in
    subst (λ m. IsHandled m found) (sym (command_is version slot (omega (arith, is, short)))) (subst (λ p. IsHandled (command_of version (get_or slot 0 0) p) found) e handled)

entry_read : (slot : List ℕ) (kind : ℕ) (payload : List ℕ) → length payload ≤ 240 → take (length (entry kind payload)) slot ≡ entry kind payload → command_in Two slot ≡ command_of Two kind payload
entry_read slot kind payload short e =
    let a : get_or slot 0 0 ≡ kind = sym (get_or-take (suc (suc (length payload))) slot 0 0 (omega arith)) ∙ ap (λ l. get_or l 0 0) e in
    let b : get_or slot 1 0 ≡ length payload = sym (get_or-take (suc (suc (length payload))) slot 1 0 (omega arith)) ∙ ap (λ l. get_or l 1 0) e in
    let two : suc (suc (length payload)) ≡ 2 + length payload = omega arith in
    let f : take (2 + length payload) slot ≡ entry kind payload = subst (λ n. take n slot ≡ entry kind payload) two e in
    let p : take (length payload) (drop 2 slot) ≡ payload = sym (drop-take 2 (length payload) slot) ∙ ap (drop 2) f in
    command_is Two slot (omega (arith, b, short)) ∙ ap (λ k. command_of Two k (take (get_or slot 1 0) (drop 2 slot))) a ∙ ap (λ n. command_of Two kind (take n (drop 2 slot))) b ∙ ap (command_of Two kind) p

pub kept_entry : (kind : ℕ) (payload : List ℕ) (command kept : Command) → length payload ≤ 240 → command_of Two kind payload ≡ Some kept → IsCommand kept → ((settings : Settings) → apply kept settings ≡ apply command settings) → IsEntryOf (entry kind payload) command
kept_entry kind payload command kept short e valid same =
    λ slot has. (kept, record { is = entry_read slot kind payload short has.front ∙ e; valid = valid }, same)

-- a payload of the required length
pub sized_is : (size : ℕ) (payload : List ℕ) (command : Command) → length payload ≡ size → sized size payload command ≡ Some command
sized_is size payload command e = cond-true (length payload == size) (Some command) None (same_true (length payload) size e)

-- the parts of a suite, one after the other
pub suite_parts : (suite : Suite) → length suite.address ≡ 4 → length suite.mask ≡ 4 → length suite.gateway ≡ 4
    → suite_in (suite.address ++ suite.mask ++ suite.gateway) ≡ suite
suite_parts suite a m g =
    let all : List ℕ = suite.address ++ suite.mask ++ suite.gateway in
    let e : all ≡ suite.address ++ (suite.mask ++ suite.gateway) = append_assoc suite.address suite.mask suite.gateway in
    let one : drop 4 all ≡ suite.mask ++ suite.gateway = ap (drop 4) e ∙ drop_at suite.address (suite.mask ++ suite.gateway) 4 a in
    let two : drop 8 all ≡ suite.gateway = sym (drop-drop 4 4 all) ∙ ap (drop 4) one ∙ drop_at suite.mask suite.gateway 4 m in
    suite_same (suite_in all) suite (ap (take 4) e ∙ take_at suite.address (suite.mask ++ suite.gateway) 4 a) (ap (take 4) one ∙ take_at suite.mask suite.gateway 4 m)
    (ap (take 4) two ∙ take_all 4 suite.gateway (omega (arith, g)))

-- ---- each kind of command

pub name_entry : (items payload name : List ℕ) (permanent : Bool) (command : Command) → items ≡ entry 1 payload → payload ≡ name → IsNameOrNone name → length name ≤ 240 → permanent ≡ true → command ≡ SetName permanent name → IsEntryOf items command
name_entry items payload name permanent command e f valid short p is =
    let c : SetName true name ≡ command = ap (λ b. SetName b name) (sym p) ∙ sym is in
    let i : entry 1 name ≡ items = ap (entry 1) (sym f) ∙ sym e in
    subst (IsEntryOf items) c (subst (λ x. IsEntryOf x (SetName true name)) i (kept_entry 1 name (SetName true name) (SetName true name) short refl valid (λ s. refl)))

pub no_name_entry : (items name : List ℕ) (permanent : Bool) (command : Command) → items ≡ entry 2 [] → permanent ≡ false → command ≡ SetName permanent name → IsEntryOf items command
no_name_entry items name permanent command e p is =
    let c : SetName false name ≡ command = ap (λ b. SetName b name) (sym p) ∙ sym is in
    subst (IsEntryOf items) c (subst (λ x. IsEntryOf x (SetName false name)) (sym e) (kept_entry 2 [] (SetName false name) (SetName false []) (lit≤ tt) refl tt (λ s. refl)))

pub suite_entry : (items payload : List ℕ) (suite : Suite) (permanent : Bool) (command : Command) → items ≡ entry 3 payload → length payload ≡ 12 → suite_in payload ≡ suite → IsSuite suite → permanent ≡ true → command ≡ SetIp permanent suite → IsEntryOf items command
suite_entry items payload suite permanent command e long parts valid p is =
    let c : SetIp true suite ≡ command = ap (λ b. SetIp b suite) (sym p) ∙ sym is in
    let meant : command_of Two 3 payload ≡ Some (SetIp true suite) = sized_is 12 payload (SetIp true (suite_in payload)) long ∙ ap (λ x. Some (SetIp true x)) parts in
    subst (IsEntryOf items) c (subst (λ x. IsEntryOf x (SetIp true suite)) (sym e) (kept_entry 3 payload (SetIp true suite) (SetIp true suite) (omega (arith, long)) meant valid (λ s. refl)))

pub no_suite_entry : (items : List ℕ) (suite : Suite) (permanent : Bool) (command : Command) → items ≡ entry 4 [] → permanent ≡ false → command ≡ SetIp permanent suite → IsEntryOf items command
no_suite_entry items suite permanent command e p is =
    let c : SetIp false suite ≡ command = ap (λ b. SetIp b suite) (sym p) ∙ sym is in
    subst (IsEntryOf items) c (subst (λ x. IsEntryOf x (SetIp false suite)) (sym e) (kept_entry 4 [] (SetIp false suite) (SetIp false zero_suite) (lit≤ tt) refl tt (λ s. refl)))

pub text_entry : (kind size : ℕ) (im : List ℕ → ImValue) (items payload text : List ℕ) (command : Command) → items ≡ entry kind payload → payload ≡ text → length text ≡ size → size ≤ 240
    → command_of Two kind text ≡ sized size text (SetIm (im text)) → command ≡ SetIm (im text) → IsEntryOf items command
text_entry kind size im items payload text command e f long short meant is =
    let i : entry kind text ≡ items = ap (entry kind) (sym f) ∙ sym e in
    subst (IsEntryOf items) (sym is) (subst (λ x. IsEntryOf x (SetIm (im text))) i
    (kept_entry kind text (SetIm (im text)) (SetIm (im text)) (omega (arith, long, short)) (meant ∙ sized_is size text (SetIm (im text)) long) tt (λ s. refl)))
