-- What written records ask of the settings, as the statuses of the answer say.
use Rattle.std.proofs.Common.{◌≡◌, ◌≢◌, ◌≤◌, ◌==◌, ◌||◌, ◌⊎◌, ◌+◌, ◌*◌, ℕ, Bool, true, false, List, [], ◌∷◌, ◌++◌, map, zip, filter_map, Option, Some, None, Result, Ok, Err, if◌then◌else◌, refl, sym, ap, subst, ◌∙◌, inl, inr, arith}
use Rattle.std.proofs.lemmas.Bool.{cond_both}
use Rattle.pn_values.specs.declared.command.Command.{Command}
use Rattle.pn_values.specs.declared.command.Command.TheVariants.{SetIm}
use Rattle.pn_values.specs.declared.im_value.ImValue.{ImValue}
use Rattle.pn_values.specs.declared.set_item.SetItem.{SetItem}
use Rattle.pn_values.specs.declared.set_item.SetItem.TheVariants.{Ask, Signal, Answer}
use Rattle.pn_values.specs.declared.set_item.BlockError.{BlockError}
use Rattle.pn_values.specs.declared.set_item.BlockError.TheVariants as error
use Rattle.rpc_core.specs.declared.response.Status.{Status}
use Rattle.record_blocks.specs.declared.write_record.IodWriteReq.{IodWriteReq}
use Rattle.records.specs.declared.status.call_fault.CallFault.{CallFault}
use Rattle.records.specs.declared.status.call_fault.CallFault.TheVariants as fault
use Rattle.records.specs.declared.status.operation.Operation.TheVariants.{Write as Writing}
use Rattle.records.specs.declared.writes.write.Effect.{Effect}
use Rattle.records.specs.declared.writes.write.Effect.TheVariants.{Stores, Keeps}
use Rattle.records.specs.declared.writes.write.Write.{Write}
use Rattle.records.specs.status.Status.{status_of}
use Rattle.records.specs.writes.Answer.{number_of}
use Rattle.relations.specs.RelationState.{RelationState}
use Rattle.settings_journal.specs.settings_store.State.{Values}
use Rattle.settings_journal.specs.settings_store.Machine.{Outcome, Pass, Fault, Carried, accepted, carried, first_of, rest_of}
use Rattle.device_core.specs.Several.{Judged, text_of, texts_by, texts_in}
use Rattle.device_core.specs.Handled.{outcome_of}
use Rattle.device_core.specs.Machine.{effect_answers, effect_link, effect_outcome, one_answers, one_link, one_status, statuses_of}
use Rattle.octets_law.specs.Headline.{AreAmong}
use Rattle.octets_law.proofs.CallReads.{tested}
use Rattle.octets_law.proofs.Marks.{AreMatched, fives, marks, zeros}
use Rattle.octets_law.proofs.Quiet.{none_among}

-- ---- the statuses of faults

-- A status that says neither that a record is done nor that the flash failed.
pub record IsOther (number : ℕ) : Type 0 where
  pub no_zero : (number == 0) ≡ false
  pub no_five : (number == 5 || number == 0xDF80B505) ≡ false

different : (n m : ℕ) → (n ≡ m → ⊥) → (n == m) ≡ false
different n m not = by_test (n == m) refl
  where
    by_test : (b : Bool) → (n == m) ≡ b → (n == m) ≡ false
    by_test true is = absurd (not (tested n m is))
    by_test false is = is

neither : (one other : Bool) → one ≡ false → other ≡ false → one || other ≡ false
neither one other a b = cc

above : (n : ℕ) → 0xDF80B506 ≤ n → IsOther n
above n high = record {
  no_zero = different n 0 (λ is. omega arith);
  no_five = neither (n == 5) (n == 0xDF80B505) (different n 5 (λ is. omega arith)) (different n 0xDF80B505 (λ is. omega arith));
}

in_field : (kind field : ℕ) → IsOther (((0xDF * 256 + 0x81) * 256 + kind) * 256 + field)
in_field kind field = above (((0xDF * 256 + 0x81) * 256 + kind) * 256 + field) (omega arith)

-- No fault of a Write but that of the flash has the status of one.
pub other_fault : (why : CallFault) → why ≢ fault.FlashFault → IsOther (number_of (status_of Writing why))
unfolding status_of
other_fault fault.Arguments not = record { no_zero = refl; no_five = refl }
other_fault fault.BlockHeader not = record { no_zero = refl; no_five = refl }
other_fault fault.BlockForm not = record { no_zero = refl; no_five = refl }
other_fault fault.BlockType not = record { no_zero = refl; no_five = refl }
other_fault fault.BlockMissing not = record { no_zero = refl; no_five = refl }
other_fault fault.IocrMissing not = record { no_zero = refl; no_five = refl }
other_fault fault.AlarmCrMissing not = record { no_zero = refl; no_five = refl }
other_fault fault.AlarmCrRepeated not = record { no_zero = refl; no_five = refl }
other_fault fault.OtherRelationExists not = record { no_zero = refl; no_five = refl }
other_fault fault.TooManyModules not = record { no_zero = refl; no_five = refl }
other_fault fault.TooManySubmodules not = record { no_zero = refl; no_five = refl }
other_fault fault.UnknownRelation not = record { no_zero = refl; no_five = refl }
other_fault fault.UnknownSession not = record { no_zero = refl; no_five = refl }
other_fault fault.RelationExists not = record { no_zero = refl; no_five = refl }
other_fault fault.ControlCommand not = record { no_zero = refl; no_five = refl }
other_fault fault.Phase not = record { no_zero = refl; no_five = refl }
other_fault (fault.ArField field) not = in_field 1 field
other_fault (fault.IocrField field) not = in_field 2 field
other_fault (fault.ExpectedField field) not = in_field 3 field
other_fault (fault.AlarmCrField field) not = in_field 4 field
other_fault fault.LayoutOutside not = record { no_zero = refl; no_five = refl }
other_fault fault.LayoutOverlap not = record { no_zero = refl; no_five = refl }
other_fault fault.LayoutUnknown not = record { no_zero = refl; no_five = refl }
other_fault fault.LayoutMissing not = record { no_zero = refl; no_five = refl }
other_fault fault.Index not = record { no_zero = refl; no_five = refl }
other_fault fault.WriteLength not = record { no_zero = refl; no_five = refl }
other_fault fault.Place not = record { no_zero = refl; no_five = refl }
other_fault fault.Api not = record { no_zero = refl; no_five = refl }
other_fault fault.JournalExhausted not = record { no_zero = refl; no_five = refl }
other_fault fault.FlashFault not = absurd (not refl)
other_fault fault.TooManyRecords not = record { no_zero = refl; no_five = refl }
other_fault fault.Access not = record { no_zero = refl; no_five = refl }

-- ---- commands and numbers that say nothing of the settings

skipped : (f : Option Command × ℕ → Option Command) (one : Option Command × ℕ) (others : List (Option Command × ℕ)) → f one ≡ None → filter_map f (one ∷ others) ≡ filter_map f others
skipped f one others none = rw none refl

-- a number that is neither
pub other_zeros : (read : Option Command) (number : ℕ) (behind : List (Option Command × ℕ)) → IsOther number → zeros ((read, number) ∷ behind) ≡ zeros behind
other_zeros read number behind other = skipped (λ one. if one.1 == 0 then one.0 else None) (read, number) behind (ap (λ b. if b then read else None) other.no_zero)

pub other_fives : (read : Option Command) (number : ℕ) (behind : List (Option Command × ℕ)) → IsOther number → fives ((read, number) ∷ behind) ≡ fives behind
other_fives read number behind other =
    skipped (λ one. if one.1 == 5 || one.1 == 0xDF80B505 then one.0 else None) (read, number) behind (ap (λ b. if b then read else None) other.no_five)

-- no command, with any number
pub none_zeros : (number : ℕ) (behind : List (Option Command × ℕ)) → zeros ((None, number) ∷ behind) ≡ zeros behind
none_zeros number behind = skipped (λ one. if one.1 == 0 then one.0 else None) (None, number) behind (cond_both (number == 0) None None (λ (r : Option Command). r ≡ None) (λ _. refl) (λ _. refl))

pub none_fives : (number : ℕ) (behind : List (Option Command × ℕ)) → fives ((None, number) ∷ behind) ≡ fives behind
none_fives number behind =
    skipped (λ one. if one.1 == 5 || one.1 == 0xDF80B505 then one.0 else None) (None, number) behind
    (cond_both (number == 5 || number == 0xDF80B505) None None (λ (r : Option Command). r ≡ None) (λ _. refl) (λ _. refl))

-- ---- records, and what is read of them

-- A record that is read as this: an I&M text as its command, and a parameter as none. A record that is refused has the status of another
-- fault than one of the flash.
abbrev pub IsTaken : Effect → Option Command → Type 0
IsTaken (Stores value) read = read ≡ Some (SetIm value)
IsTaken (Keeps parameter) read = read ≡ None

abbrev pub IsWritten : Result Write Status → Option Command → Type 0
IsWritten (Ok write) read = IsTaken write.effect read
IsWritten (Err status) read = IsOther (number_of status)

abbrev pub AreWritten : List Judged → List (Option Command) → Type 0
AreWritten [] reads = Unit {0}
AreWritten (one ∷ others) [] = ⊥
AreWritten (one ∷ others) (read ∷ reads) = IsWritten one.1 read × AreWritten others reads

-- The commands of items.
abbrev pub asked : SetItem → Option Command
asked (Ask command) = Some command
asked Signal = None
asked (Answer answer) = None

abbrev pub asked_in : List SetItem → List (Option Command)
asked_in items = map asked items

-- The answers that a command has.
abbrev pub IsStored : BlockError → Type 0
IsStored error.Done = Unit {0}
IsStored error.Exhausted = Unit {0}
IsStored error.Local = Unit {0}
IsStored error.Option = ⊥
IsStored error.Suboption = ⊥
IsStored error.Value = ⊥
IsStored error.InOperation = ⊥

abbrev pub AreStored : List SetItem → List BlockError → Type 0
AreStored [] answers = Unit {0}
AreStored (item ∷ items) [] = ⊥
AreStored (item ∷ items) (answer ∷ answers) = IsStored answer × AreStored items answers

-- The statuses of an answer, as numbers.
abbrev pub numbers : List (IodWriteReq × Status) → List ℕ
numbers statuses = map (λ one. number_of one.1) statuses

-- ---- the answers of the settings to the texts of a list

abbrev StoredBehind : List Judged → List Outcome → Type 0
StoredBehind others outcomes = (values : Values) → AreStored (texts_in others) (carried outcomes values (texts_in others)).answers

text_stored : (outcomes : List Outcome) (values : Values) (others : List Judged) (value : ImValue) → StoredBehind others (rest_of outcomes)
    → AreStored (Ask (SetIm value) ∷ texts_in others) (carried outcomes values (Ask (SetIm value) ∷ texts_in others)).answers
text_stored outcomes values others value again =
    cond_both values.has_failed _ _ Q (λ _. (tt, again values)) (λ _. cond_both (values.room == 0) _ _ Q (λ _. (tt, again values)) (λ _. by_outcome again (first_of outcomes)))
  where
    Q : Carried → Type 0
    Q one = AreStored (Ask (SetIm value) ∷ texts_in others) (one.answers ++ (carried (rest_of outcomes) one.values (texts_in others)).answers)

    by_outcome : StoredBehind others (rest_of outcomes) → (outcome : Outcome) → Q (accepted outcome values (SetIm value))
    by_outcome again Pass = (tt, again (accepted Pass values (SetIm value)).values)
    by_outcome again (Fault is_lost) = (tt, again (accepted (Fault is_lost) values (SetIm value)).values)

pub texts_stored : (outcomes : List Outcome) (values : Values) (judged : List Judged) → AreStored (texts_in judged) (carried outcomes values (texts_in judged)).answers
texts_stored outcomes values [] = tt
texts_stored outcomes values (one ∷ others) = by_one (λ o v. texts_stored o v others) one.1
  where
    P : List SetItem → Type 0
    P items = AreStored items (carried outcomes values items).answers

    by_text : ((o : List Outcome) → StoredBehind others o) → (effect : Effect) → P (text_of effect ++ texts_in others)
    by_text again (Keeps parameter) = again outcomes values
    by_text again (Stores value) = text_stored outcomes values others value (again (rest_of outcomes))

    by_one : ((o : List Outcome) → StoredBehind others o) → (came : Result Write Status) → P (texts_by came ++ texts_in others)
    by_one again (Ok write) = by_text again write.effect
    by_one again (Err status) = again outcomes values

-- The texts are matched by their commands.
pub texts_matched : (judged : List Judged) → AreMatched (texts_in judged) (asked_in (texts_in judged))
texts_matched [] = tt
texts_matched (one ∷ others) = by_one (texts_matched others) one.1
  where
    by_text : AreMatched (texts_in others) (asked_in (texts_in others)) → (effect : Effect) → AreMatched (text_of effect ++ texts_in others) (asked_in (text_of effect ++ texts_in others))
    by_text again (Keeps parameter) = again
    by_text again (Stores value) = (refl, again)

    by_one : AreMatched (texts_in others) (asked_in (texts_in others)) → (came : Result Write Status)
        → AreMatched (texts_by came ++ texts_in others) (asked_in (texts_by came ++ texts_in others))
    by_one again (Ok write) = by_text again write.effect
    by_one again (Err status) = again

-- ---- the numbers of the records and of the texts among them

abbrev pub fates_of : List (Option Command) → List Judged → List BlockError → Option RelationState → List (Option Command × ℕ)
fates_of reads judged answers link = zip reads (numbers (statuses_of judged answers link))

-- What counts the fates of the records, and of the texts alone: the done ones, or those that a fault stopped.
record Counts (count : List (Option Command × ℕ) → List Command) : Type 0 where
  none : count [] ≡ []
  silent : (number : ℕ) (behind : List (Option Command × ℕ)) → count ((None, number) ∷ behind) ≡ count behind
  other : (read : Option Command) (number : ℕ) (behind : List (Option Command × ℕ)) → IsOther number → count ((read, number) ∷ behind) ≡ count behind
  done : (read : Option Command) (one other : List (Option Command × ℕ)) → count one ≡ count other → count ((read, 0) ∷ one) ≡ count ((read, 0) ∷ other)
  full : (read : Option Command) (one other : List (Option Command × ℕ)) → count one ≡ count other → count ((read, 0xDF80B504) ∷ one) ≡ count ((read, 4) ∷ other)
  fault : (read : Option Command) (one other : List (Option Command × ℕ)) → count one ≡ count other → count ((read, 0xDF80B505) ∷ one) ≡ count ((read, 5) ∷ other)

abbrev CountedBehind : (List (Option Command × ℕ) → List Command) → List Judged → List (Option Command) → Type 0
CountedBehind count others reads = (answers : List BlockError) (link : Option RelationState) → AreStored (texts_in others) answers
    → count (fates_of reads others answers link) ≡ count (marks (asked_in (texts_in others)) answers)

counted_text : (count : List (Option Command × ℕ) → List Command) → Counts count → (header : IodWriteReq) (others : List Judged) (reads : List (Option Command)) → CountedBehind count others reads
    → (value : ImValue) (answers : List BlockError) (link : Option RelationState) → AreStored (Ask (SetIm value) ∷ texts_in others) answers
    → count ((Some (SetIm value), number_of (outcome_of Writing (effect_outcome header (Stores value) answers link)).0) ∷ fates_of reads others (effect_answers (Stores value) answers) link)
    ≡ count (marks (Some (SetIm value) ∷ asked_in (texts_in others)) answers)
unfolding status_of
counted_text count it header others reads again value [] link stored = absurd stored
counted_text count it header others reads again value (error.Done ∷ answers) link stored = it.done (Some (SetIm value)) _ _ (again answers link stored.1)
counted_text count it header others reads again value (error.Exhausted ∷ answers) link stored = it.full (Some (SetIm value)) _ _ (again answers link stored.1)
counted_text count it header others reads again value (error.Local ∷ answers) link stored = it.fault (Some (SetIm value)) _ _ (again answers link stored.1)
counted_text count it header others reads again value (error.Option ∷ answers) link stored = absurd stored.0
counted_text count it header others reads again value (error.Suboption ∷ answers) link stored = absurd stored.0
counted_text count it header others reads again value (error.Value ∷ answers) link stored = absurd stored.0
counted_text count it header others reads again value (error.InOperation ∷ answers) link stored = absurd stored.0

counted : (count : List (Option Command × ℕ) → List Command) → Counts count → (judged : List Judged) (reads : List (Option Command)) (answers : List BlockError) (link : Option RelationState)
    → AreWritten judged reads → AreStored (texts_in judged) answers → count (fates_of reads judged answers link) ≡ count (marks (asked_in (texts_in judged)) answers)
counted count it [] [] answers link written stored = refl
counted count it [] (read ∷ reads) answers link written stored = refl
counted count it (one ∷ others) [] answers link written stored = absurd written
counted count it (one ∷ others) (read ∷ reads) answers link written stored = by_one (λ a l s. counted count it others reads a l written.1 s) one.1 written.0 stored
  where
    by_effect : CountedBehind count others reads → (effect : Effect) → IsTaken effect read → AreStored (text_of effect ++ texts_in others) answers
        → count ((read, number_of (outcome_of Writing (effect_outcome one.0 effect answers link)).0) ∷ fates_of reads others (effect_answers effect answers) (effect_link effect link))
        ≡ count (marks (asked_in (text_of effect ++ texts_in others)) answers)
    by_effect again (Stores value) is stored =
        ap (λ r. count ((r, number_of (outcome_of Writing (effect_outcome one.0 (Stores value) answers link)).0) ∷ fates_of reads others (effect_answers (Stores value) answers) link)) is
        ∙ counted_text count it one.0 others reads again value answers link stored
    by_effect again (Keeps parameter) is stored =
        ap (λ r. count ((r, number_of (outcome_of Writing (effect_outcome one.0 (Keeps parameter) answers link)).0)
        ∷ fates_of reads others answers (effect_link (Keeps parameter) link))) is
        ∙ it.silent _ _ ∙ again answers (effect_link (Keeps parameter) link) stored

    by_one : CountedBehind count others reads → (came : Result Write Status) → IsWritten came read → AreStored (texts_by came ++ texts_in others) answers
        → count ((read, number_of (one_status one.0 came answers link)) ∷ fates_of reads others (one_answers came answers) (one_link came link))
        ≡ count (marks (asked_in (texts_by came ++ texts_in others)) answers)
    by_one again (Ok write) is stored = by_effect again write.effect is stored
    by_one again (Err status) is stored = it.other read _ _ is ∙ again answers link stored

kept_zeros : (read : Option Command) (one other : List (Option Command × ℕ)) → zeros one ≡ zeros other → zeros ((read, 0) ∷ one) ≡ zeros ((read, 0) ∷ other)
kept_zeros None one other same = same
kept_zeros (Some command) one other same = ap (λ l. command ∷ l) same

kept_fives : (read : Option Command) (one other : List (Option Command × ℕ)) → fives one ≡ fives other → fives ((read, 0xDF80B505) ∷ one) ≡ fives ((read, 5) ∷ other)
kept_fives None one other same = same
kept_fives (Some command) one other same = ap (λ l. command ∷ l) same

-- The texts that are done are the commands whose status is 0.
pub zeros_written : (judged : List Judged) (reads : List (Option Command)) (answers : List BlockError) (link : Option RelationState)
    → AreWritten judged reads → AreStored (texts_in judged) answers → zeros (fates_of reads judged answers link) ≡ zeros (marks (asked_in (texts_in judged)) answers)
zeros_written = counted zeros (record {
  none = refl;
  silent = none_zeros;
  other = other_zeros;
  done = kept_zeros;
  full = λ read one other same. same;
  fault = λ read one other same. same;
})

-- The texts that a fault stopped are the commands with its status.
pub fives_written : (judged : List Judged) (reads : List (Option Command)) (answers : List BlockError) (link : Option RelationState)
    → AreWritten judged reads → AreStored (texts_in judged) answers → fives (fates_of reads judged answers link) ≡ fives (marks (asked_in (texts_in judged)) answers)
fives_written = counted fives (record {
  none = refl;
  silent = none_fives;
  other = other_fives;
  done = λ read one other same. same;
  full = λ read one other same. same;
  fault = kept_fives;
})

-- ---- what is among the texts is among what is read

among_more : (some : List Command) (read : Option Command) (reads : List (Option Command)) → AreAmong some (filter_map (λ read. read) reads) → AreAmong some (filter_map (λ read. read) (read ∷ reads))
among_more some None reads among = among
among_more some (Some command) reads among = inl among

abbrev AmongBehind : List Judged → List (Option Command) → Type 0
AmongBehind others reads = (some : List Command) → AreAmong some (filter_map (λ read. read) (asked_in (texts_in others))) → AreAmong some (filter_map (λ read. read) reads)

pub among_written : (judged : List Judged) (reads : List (Option Command)) → AreWritten judged reads → AmongBehind judged reads
among_written [] reads written some among = subst (λ l. AreAmong l (filter_map (λ read. read) reads)) (sym among) (none_among (filter_map (λ read. read) reads))
among_written (one ∷ others) [] written some among = absurd written
among_written (one ∷ others) (read ∷ reads) written some among = by_one (among_written others reads written.1) one.1 written.0 among
  where
    by_command : AmongBehind others reads → (command : Command)
        → AreAmong some (filter_map (λ read. read) (asked_in (texts_in others))) ⊎ ((more : List Command) × (some ≡ command ∷ more) × AreAmong more (filter_map (λ read. read) (asked_in (texts_in others))))
        → AreAmong some (command ∷ filter_map (λ read. read) reads)
    by_command again command (inl without) = inl (again some without)
    by_command again command (inr here) = inr (here.0, here.1, again here.0 here.2)

    by_effect : AmongBehind others reads → (effect : Effect) → IsTaken effect read → AreAmong some (filter_map (λ read. read) (asked_in (text_of effect ++ texts_in others)))
        → AreAmong some (filter_map (λ read. read) (read ∷ reads))
    by_effect again (Stores value) is among = subst (λ r. AreAmong some (filter_map (λ read. read) (r ∷ reads))) (sym is) (by_command again (SetIm value) among)
    by_effect again (Keeps parameter) is among = among_more some read reads (again some among)

    by_one : AmongBehind others reads → (came : Result Write Status) → IsWritten came read
        → AreAmong some (filter_map (λ read. read) (asked_in (texts_by came ++ texts_in others)))
        → AreAmong some (filter_map (λ read. read) (read ∷ reads))
    by_one again (Ok write) is among = by_effect again write.effect is among
    by_one again (Err status) is among = among_more some read reads (again some among)
