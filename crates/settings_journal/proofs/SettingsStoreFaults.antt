-- The settings go on whatever the flash does.
use Rattle.std.proofs.Common.{◌≡◌, ◌==◌, Bool, true, false, List, [], ◌∷◌, ◌++◌, map, refl, sym, ap, subst, ◌∙◌, append_assoc}
use Rattle.std.proofs.lemmas.Bool.{cond-true, cond-false}
use Rattle.pn_values.specs.declared.command.Command.{Command}
use Rattle.pn_values.specs.declared.set_item.SetItem.{SetItem}
use Rattle.pn_values.specs.declared.set_item.SetItem.TheVariants.{Ask, Signal, Answer}
use Rattle.pn_values.specs.declared.set_item.BlockError.{BlockError}
use Rattle.pn_values.specs.declared.set_item.BlockError.TheVariants.{Done, Exhausted}
use Rattle.settings_journal.specs.settings_store.State.{Values}
use Rattle.settings_journal.specs.settings_store.Machine.{Outcome, Pass, Fault, Carried, answered, accepted, carried_one, first_of, rest_of, followed_by, carried}
use Rattle.settings_journal.specs.settings_store.Faults.{answer_after_fault, GoesOn}
use Rattle.settings_journal.proofs.SettingsStoreMachine.{committed_taken, failed_all}

abbrev Goes : List Outcome → Values → List SetItem → Type 0
Goes outcomes values items = GoesOn values items (carried outcomes values items).answers (carried outcomes values items).values

-- the case that a commit failed earlier
goes_failed : (outcomes : List Outcome) (values : Values) (items : List SetItem) → values.has_failed ≡ true → Goes outcomes values items
goes_failed outcomes values items failed =
    let all = failed_all outcomes values items failed in
    let still : (carried outcomes values items).values.has_failed ≡ true = ap (λ r. r.values.has_failed) all ∙ failed in
    record {
      done = [];
      refused = items;
      parts = refl;
      failed_before = λ _. refl;
      none_failed = λ fine. cc;
      running = ap (λ r. r.values.running) all;
      stored = ap (λ r. r.values.stored) all;
      answered = ap (λ r. r.answers) all;
    }

-- an item with the same result as if its call passed
goes_with : (outcomes : List Outcome) (values : Values) (item : SetItem) (items : List SetItem) (one : Carried)
    → carried_one (first_of outcomes) values item ≡ one → carried_one Pass values item ≡ one → values.has_failed ≡ false → Goes (rest_of outcomes) one.values items → Goes outcomes values (item ∷ items)
goes_with outcomes values item items one is passes fine on =
    let all : carried outcomes values (item ∷ items) ≡ followed_by one (carried (rest_of outcomes) one.values items) =
    ap (λ c. followed_by c (carried (rest_of outcomes) c.values items)) is in
    let so : carried [] values (item ∷ on.done) ≡ followed_by one (carried [] one.values on.done) = ap (λ c. followed_by c (carried [] c.values on.done)) passes in
    record {
      done = item ∷ on.done;
      refused = on.refused;
      parts = ap (λ l. item ∷ l) on.parts;
      failed_before = λ failed. cc;
      none_failed = λ still. on.none_failed (sym (ap (λ r. r.values.has_failed) all) ∙ still);
      running = ap (λ r. r.values.running) all ∙ on.running ∙ sym (ap (λ r. r.values.running) so);
      stored = ap (λ r. r.values.stored) all ∙ on.stored ∙ sym (ap (λ r. r.values.stored) so);
      answered = ap (λ r. r.answers) all ∙ ap (λ a. one.answers ++ a) on.answered
          ∙ sym (append_assoc one.answers (carried [] one.values on.done).answers (map answer_after_fault on.refused))
          ∙ ap (λ a. a ++ map answer_after_fault on.refused) (sym (ap (λ r. r.answers) so));
    }

-- the commit in which the flash fails
goes_struck : (outcomes : List Outcome) (values : Values) (command : Command) (items : List SetItem) (is_lost : Bool)
    → carried_one (first_of outcomes) values (Ask command) ≡ accepted (Fault is_lost) values command → Goes outcomes values (Ask command ∷ items)
goes_struck outcomes values command items is_lost is =
    let struck = accepted (Fault is_lost) values command in
    let all : carried outcomes values (Ask command ∷ items) ≡ followed_by struck (record { values = struck.values; answers = map answer_after_fault items; accepted = [] }) =
    ap (λ c. followed_by c (carried (rest_of outcomes) c.values items)) is ∙ ap (followed_by struck) (failed_all (rest_of outcomes) struck.values items refl) in
    let failed : (carried outcomes values (Ask command ∷ items)).values.has_failed ≡ true = ap (λ r. r.values.has_failed) all in
    record {
      done = [];
      refused = Ask command ∷ items;
      parts = refl;
      failed_before = λ _. refl;
      none_failed = λ fine. cc;
      running = ap (λ r. r.values.running) all;
      stored = ap (λ r. r.values.stored) all;
      answered = ap (λ r. r.answers) all;
    }

-- a command, by whether there is room and by the outcome of its call
goes_ask : (outcomes : List Outcome) (outcome : Outcome) (is_full : Bool) (values : Values) (command : Command) (items : List SetItem)
    → first_of outcomes ≡ outcome → (values.room == 0) ≡ is_full → values.has_failed ≡ false
    → ((next : Values) → next.has_failed ≡ false → Goes (rest_of outcomes) next items) → Goes outcomes values (Ask command ∷ items)
goes_ask outcomes outcome true values command items is full fine on =
    goes_with outcomes values (Ask command) items (answered Exhausted values) (cond-false _ _ _ fine ∙ cond-true _ _ _ full) (cond-false _ _ _ fine ∙ cond-true _ _ _ full) fine (on values fine)
goes_ask outcomes Pass false values command items is room fine on =
    let passes = committed_taken Pass values command fine room in
    goes_with outcomes values (Ask command) items (accepted Pass values command) (ap (λ o. carried_one o values (Ask command)) is ∙ passes) passes fine (on (accepted Pass values command).values fine)
goes_ask outcomes (Fault is_lost) false values command items is room fine on =
    goes_struck outcomes values command items is_lost (ap (λ o. carried_one o values (Ask command)) is ∙ committed_taken (Fault is_lost) values command fine room)

-- the case that no commit has failed so far
goes_fine : (outcomes : List Outcome) (values : Values) (items : List SetItem) → values.has_failed ≡ false → Goes outcomes values items
goes_fine outcomes values [] fine = record { done = []; refused = []; parts = refl; failed_before = λ _. refl; none_failed = λ _. refl; running = refl; stored = refl; answered = refl }
goes_fine outcomes values (Ask command ∷ items) fine =
    goes_ask outcomes (first_of outcomes) (values.room == 0) values command items refl refl fine (λ next still. goes_fine (rest_of outcomes) next items still)
goes_fine outcomes values (Signal ∷ items) fine =
    goes_with outcomes values Signal items (answered Done values) refl refl fine (goes_fine (rest_of outcomes) values items fine)
goes_fine outcomes values (Answer answer ∷ items) fine =
    goes_with outcomes values (Answer answer) items (answered answer values) refl refl fine (goes_fine (rest_of outcomes) values items fine)

goes_by : (outcomes : List Outcome) (values : Values) (items : List SetItem) (has_failed : Bool) → values.has_failed ≡ has_failed → Goes outcomes values items
goes_by outcomes values items true failed = goes_failed outcomes values items failed
goes_by outcomes values items false fine = goes_fine outcomes values items fine

-- whatever the flash does, the settings go on
pub goes_as : (outcomes : List Outcome) (old new : Values) (items : List SetItem) (answers : List BlockError)
    → new ≡ (carried outcomes old items).values → answers ≡ (carried outcomes old items).answers → GoesOn old items answers new
goes_as outcomes old new items answers values answers_are =
    subst (λ v. GoesOn old items answers v) (sym values)
    (subst (λ a. GoesOn old items a (carried outcomes old items).values) (sym answers_are) (goes_by outcomes old items old.has_failed refl))
