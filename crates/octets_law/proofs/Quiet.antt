-- Steps at which nothing is asked of the settings.
use Rattle.std.proofs.Common.{◌≡◌, ◌==◌, ◌||◌, ℕ, true, List, [], ◌∷◌, zip, flat_map, filter_map, map, Option, None, refl, sym, ap, subst, ◌∙◌, inl, inr, if◌then◌else◌}
use Rattle.pn_values.specs.declared.mac.Mac.{Mac}
use Rattle.pn_values.specs.declared.command.Command.{Command}
use Rattle.settings_journal.specs.settings_store.Machine.{Outcome, carried, commands_of}
use Rattle.device_frames.specs.declared.event.Event.{Event}
use Rattle.device_frames.specs.declared.note.Note.{Note}
use Rattle.device_frames.specs.Sent.{Sent, bytes_of}
use Rattle.device_core.specs.State.{Live, Rest, Station}
use Rattle.device_core.specs.Handled.{Handled, Moves, Refuses}
use Rattle.device_core.specs.Machine.{Stepped, handled_step, items_in}
use Rattle.octets_law.specs.Octets.{Asking, answers_in, asking_of, commands_in, confirmed, faulted}
use Rattle.octets_law.specs.Bridge.{Bridges, done_in, repeats}
use Rattle.octets_law.specs.Headline.{AreAmong}
use Rattle.octets_law.proofs.Marks.{not_empty}

pub none_among : (commands : List Command) → AreAmong [] commands
none_among [] = refl
none_among (one ∷ others) = inl (none_among others)

-- Nothing was accepted, and nothing that was sent confirms a command or says a fault.
pub quiet_bridged : (mac : Mac) (names : List (List ℕ)) (event : Event) (live : Live) (step : Stepped) → step.accepted ≡ []
    → confirmed (asking_of mac event) step.frames ≡ [] → faulted (asking_of mac event) step.frames ≡ [] → Bridges mac names event live.values step
quiet_bridged mac names event live step none no_command no_fault = record {
  confirms = inl (ap done_in none ∙ sym no_command);
  no_fault = λ _. inl no_fault;
  fault = λ front last parts _. absurd (not_empty front last (sym none ∙ parts));
  among = subst (λ l. AreAmong (commands_of l) (filter_map (λ command. command) (commands_in (asking_of mac event)))) (sym none) (none_among _);
}

-- Nothing was accepted of a call that was named before.
pub again_bridged : (mac : Mac) (names : List (List ℕ)) (event : Event) (live : Live) (step : Stepped) → step.accepted ≡ []
    → repeats (asking_of mac event) names ≡ true → Bridges mac names event live.values step
again_bridged mac names event live step none again = record {
  confirms = inr (again, none);
  no_fault = λ _. inr again;
  fault = λ front last parts _. absurd (not_empty front last (sym none ∙ parts));
  among = subst (λ l. AreAmong (commands_of l) (filter_map (λ command. command) (commands_in (asking_of mac event)))) (sym none) (none_among _);
}

zip_none : (commands : List (Option Command)) (answers : List ℕ) → answers ≡ [] → zip commands answers ≡ []
zip_none [] answers none = refl
zip_none (one ∷ others) [] none = refl
zip_none (one ∷ others) (answer ∷ answers) none = absurd cc

-- Nothing is confirmed where nothing is asked, and where no frame answers.
pub nothing_confirmed : (asking : Asking) (sent : List (List ℕ)) → commands_in asking ≡ [] → confirmed asking sent ≡ []
nothing_confirmed asking sent none = ap (λ commands. filter_map (λ (one : Option Command × ℕ). if one.1 == 0 then one.0 else None) (zip commands (flat_map (answers_in asking) sent))) none

pub nothing_faulted : (asking : Asking) (sent : List (List ℕ)) → commands_in asking ≡ [] → faulted asking sent ≡ []
nothing_faulted asking sent none =
    ap (λ commands. filter_map (λ (one : Option Command × ℕ). if one.1 == 5 || one.1 == 0xDF80B505 then one.0 else None) (zip commands (flat_map (answers_in asking) sent))) none

pub unanswered_confirmed : (asking : Asking) (sent : List (List ℕ)) → flat_map (answers_in asking) sent ≡ [] → confirmed asking sent ≡ []
unanswered_confirmed asking sent none =
    ap (filter_map (λ (one : Option Command × ℕ). if one.1 == 0 then one.0 else None)) (zip_none (commands_in asking) (flat_map (answers_in asking) sent) none)

pub unanswered_faulted : (asking : Asking) (sent : List (List ℕ)) → flat_map (answers_in asking) sent ≡ [] → faulted asking sent ≡ []
unanswered_faulted asking sent none =
    ap (filter_map (λ (one : Option Command × ℕ). if one.1 == 5 || one.1 == 0xDF80B505 then one.0 else None)) (zip_none (commands_in asking) (flat_map (answers_in asking) sent) none)

-- A step that asks nothing of the settings accepts nothing.
pub asks_nothing : (outcomes : List Outcome) (station : Station) (live : Live) (what : Handled) → items_in what ≡ [] → (handled_step outcomes station live what).accepted ≡ []
unfolding handled_step
asks_nothing outcomes station live what none = ap (λ items. (carried outcomes live.values items).accepted) none

-- An event that is refused sends nothing.
pub refused_bridged : (mac : Mac) (names : List (List ℕ)) (event : Event) (outcomes : List Outcome) (station : Station) (live : Live) (why : Note)
    → Bridges mac names event live.values (handled_step outcomes station live (Refuses why))
unfolding handled_step
refused_bridged mac names event outcomes station live why =
    quiet_bridged mac names event live (handled_step outcomes station live (Refuses why)) refl
    (unanswered_confirmed (asking_of mac event) [] refl) (unanswered_faulted (asking_of mac event) [] refl)

-- An event at which no frame that is sent answers what is asked, and nothing is asked of the settings.
pub unanswered_bridged : (mac : Mac) (names : List (List ℕ)) (event : Event) (outcomes : List Outcome) (station : Station) (live : Live) (rest : Rest)
    (sent : List Sent) → flat_map (answers_in (asking_of mac event)) (map (bytes_of station.identity) sent) ≡ []
    → Bridges mac names event live.values (handled_step outcomes station live (Moves rest sent))
unfolding handled_step
unanswered_bridged mac names event outcomes station live rest sent none =
    quiet_bridged mac names event live (handled_step outcomes station live (Moves rest sent)) refl
    (unanswered_confirmed (asking_of mac event) _ none) (unanswered_faulted (asking_of mac event) _ none)

-- One at which nothing is sent.
pub dropped_bridged : (mac : Mac) (names : List (List ℕ)) (event : Event) (outcomes : List Outcome) (station : Station) (live : Live) (rest : Rest)
    → Bridges mac names event live.values (handled_step outcomes station live (Moves rest []))
dropped_bridged mac names event outcomes station live rest = unanswered_bridged mac names event outcomes station live rest [] refl

-- An event that asks for nothing, and whose outcome is a move.
pub moved_bridged : (mac : Mac) (names : List (List ℕ)) (event : Event) (outcomes : List Outcome) (station : Station) (live : Live) (what : Handled)
    → items_in what ≡ [] → commands_in (asking_of mac event) ≡ [] → Bridges mac names event live.values (handled_step outcomes station live what)
moved_bridged mac names event outcomes station live what none silent =
    quiet_bridged mac names event live (handled_step outcomes station live what) (asks_nothing outcomes station live what none)
    (nothing_confirmed (asking_of mac event) _ silent) (nothing_faulted (asking_of mac event) _ silent)
