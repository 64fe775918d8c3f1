-- The entries of a run, and what the laws of the run say of them.
use Rattle.std.proofs.Common.{arith, ◌≡◌, ◌+◌, inl, inr, ℕ, zero, suc, List, [], ◌∷◌, ◌++◌, Bool, length, drop, take, map, Option, Some, None, refl, sym, ap, subst, ◌∙◌, append_assoc, length-append}
use Rattle.std.proofs.lemmas.List.{append-nil, take-append-drop}
use Rattle.std.specs.Prelude.{slice_get}
use Rattle.std.specs.List.{AllByRecursion}
use Rattle.flash_model.specs.declared.flash.Flash.{Ghosts as Flash}
use Rattle.pn_values.specs.declared.mac.Mac.{Mac}
use Rattle.record_blocks.specs.declared.alarm_notification.AlarmNotification.{AlarmNotification}
use Rattle.network_world.specs.declared.moves.End.{End}
use Rattle.network_world.specs.declared.moves.Move.{Move}
use Rattle.network_world.specs.declared.moves.Move.TheVariants as move
use Rattle.network_world.specs.World.{AreMade, end_at, Happens, last_world, Played, World}
use Rattle.both_ends.specs.startup.Played.{moves_of}
use Rattle.both_ends.specs.exchange.Told.{AreSizedMoves, IsSizedMove}
use Rattle.settings_journal.specs.declared.journal.BootFault.{BootFault}
use Rattle.startup_octets.specs.declared.playing.PlayFault.TheVariants.{NoStart}
use Rattle.startup_octets.specs.StartUp.{AreDelivered, AreStartUps, Written}
use Rattle.startup_octets.specs.Played.{came_by, is_device, seen_of, turn_by, turns_of}
use Rattle.startup_octets.specs.Log.{AreOfMoves, Entry, moves_in, sent_in, turns_in}
use Rattle.startup_octets.specs.OutputWorlds.{outputs_shown, places_shown}
use Rattle.expected_places.specs.declared.place.ExpectedPlace.{ExpectedPlace}
use Rattle.startup_octets.specs.Run.{IsCut, IsRun, entries_of, entry_by, opening_entry}
use Rattle.startup_octets.proofs.Points.{dropped}
use Rattle.startup_octets.proofs.Start.{all_delivered, more, more_dropped}

-- ---- lists

pub snoc_at : {A : Type 0} (list : List A) (place : ℕ) (item : A) → slice_get list place ≡ Some item → take (suc place) list ≡ take place list ++ item ∷ []
snoc_at [] place item there = absurd cc
snoc_at (one ∷ list) zero item there = ap (λ i. i ∷ []) (let e : one ≡ item = cc in e)
snoc_at (one ∷ list) (suc place) item there = ap (λ l. one ∷ l) (snoc_at list place item there)

pub more_at : {A : Type 0} (list : List A) (place : ℕ) (item : A) → slice_get list place ≡ Some item → take (place + 1) list ≡ take place list ++ item ∷ []
more_at list place item there = let e : place + 1 ≡ suc place = omega arith in ap (λ n. take n list) e ∙ snoc_at list place item there

pub whole_at : {A : Type 0} (list : List A) (place : ℕ) → slice_get list place ≡ None → take place list ≡ list
whole_at [] zero none = refl
whole_at [] (suc place) none = refl
whole_at (one ∷ list) zero none = absurd cc
whole_at (one ∷ list) (suc place) none = ap (λ l. one ∷ l) (whole_at list place none)

pub first_are : {A : Type 0} (some more : List A) → take (length some) (some ++ more) ≡ some
first_are [] more = refl
first_are (one ∷ some) more = ap (λ l. one ∷ l) (first_are some more)

pub map_more : {A B : Type 0} (f : A → B) (list : List A) (item : A) → map f (list ++ item ∷ []) ≡ map f list ++ f item ∷ []
map_more f [] item = refl
map_more f (one ∷ list) item = ap (λ l. f one ∷ l) (map_more f list item)

pub mapped_length : {A B : Type 0} (f : A → B) (list : List A) → length (map f list) ≡ length list
mapped_length f [] = refl
mapped_length f (one ∷ list) = ap suc (mapped_length f list)

-- What was added to a log is one list.
pub added_is : {A : Type 0} (old new one other : List A) → new ≡ old ++ one → new ≡ old ++ other → one ≡ other
added_is old new one other is is_too = sym (dropped old one) ∙ ap (drop (length old)) (sym is ∙ is_too) ∙ dropped old other

pub same_cause : (one other : BootFault) → NoStart one ≡ NoStart other → one ≡ other
same_cause one other e = cc

-- ---- moves

-- A move that delivers nothing brings no octets.
pub came_none : (one : Move) (sent : List (List ℕ)) → ((end : End) (number : ℕ) → one ≡ move.Deliver end number → ⊥) → [] ≡ came_by sent one
came_none (move.Deliver end number) sent none = absurd (none end number refl)
came_none one sent none = refl

-- Without turns there is nothing to say.
pub no_start_ups : (mac : Mac) (relation : List ℕ) (records : List Written) → AreStartUps mac relation records []
no_start_ups mac relation records [] turn behind parts answers = absurd cc
no_start_ups mac relation records (one ∷ front) turn behind parts answers = absurd cc

-- Nothing was added.
pub none_added : {A : Type 0} (old new some : List A) → new ≡ old → new ≡ old ++ some → [] ≡ some
none_added old new some same is = added_is old new [] some (same ∙ sym (append-nil old)) is

-- What follows the first ones.
pub since : {A : Type 0} (all some : List A) (count place : ℕ) → take place all ≡ take count all ++ some → slice_get all place ≡ None → some ≡ drop count all
since all some count place so none =
    added_is (take count all) all some (drop count all) (sym (whole_at all place none) ∙ so) (sym (take-append-drop count all))

module _ {F : Type 0} {S : ℕ} (as_flash : Flash F S) where
  -- ---- one more move

  -- One move was made.
  pub one_made : (before after : World F) (one : Move) (moves : List Move) → moves ≡ one ∷ [] → Played as_flash before moves after → Happens as_flash before one after
  one_made before after one moves is played =
      let it = subst (λ ms. Played as_flash before ms after) is played in
      subst (λ (w : World F). Happens as_flash before one w) (sym it.2) it.1

  pub entry_same : (before after : World F) (one : Move) (at : Bool) (came : List ℕ) (sent : List (List ℕ)) (alarm : Option AlarmNotification) (outputs : List (Option (List ℕ)))
      (places : Option (List ExpectedPlace)) → at ≡ is_device (end_at one)
      → came ≡ came_by before.sent one → sent ≡ drop (length before.sent) after.sent → alarm ≡ after.controller.live.alarm → outputs ≡ outputs_shown after → places ≡ places_shown after
      → record { turn = record { at_device = at; came = came; sent = sent }; said = Some one; alarm = alarm; outputs = outputs; places = places } ≡ entry_by before one after
  entry_same before after one at came sent alarm outputs places at_is came_is sent_is alarm_is outputs_are places_are =
      let by_at : Bool → Entry = λ a. record { turn = record { at_device = a; came = came; sent = sent }; said = Some one; alarm = alarm; outputs = outputs; places = places } in
      let by_came : List ℕ → Entry = λ c. record { turn = record { at_device = is_device (end_at one); came = c; sent = sent }; said = Some one; alarm = alarm; outputs = outputs; places = places } in
      let by_sent : List (List ℕ) → Entry = λ l. record {
        turn = record { at_device = is_device (end_at one); came = came_by before.sent one; sent = l };
        said = Some one;
        alarm = alarm;
        outputs = outputs;
        places = places;
      } in
      let by_alarm : Option AlarmNotification → Entry = λ a. record { turn = turn_by before.sent one after.sent; said = Some one; alarm = a; outputs = outputs; places = places } in
      let by_outputs : List (Option (List ℕ)) → Entry = λ o. record { turn = turn_by before.sent one after.sent; said = Some one; alarm = after.controller.live.alarm; outputs = o; places = places } in
      let by_places : Option (List ExpectedPlace) → Entry = λ p. record {
        turn = turn_by before.sent one after.sent;
        said = Some one;
        alarm = after.controller.live.alarm;
        outputs = outputs_shown after;
        places = p;
      } in
      ap by_at at_is ∙ ap by_came came_is ∙ ap by_sent sent_is ∙ ap by_alarm alarm_is ∙ ap by_outputs outputs_are ∙ ap by_places places_are

  -- The frames that were sent before are the first ones of those that were sent after a move.
  pub front_is : (before after : World F) (one : Move) (count : ℕ) → length before.sent ≡ count → Happens as_flash before one after → take count after.sent ≡ before.sent
  front_is before after one count counted happens =
      let it = more as_flash before after one happens in
      ap (take count) it.1 ∙ ap (λ n. take n (before.sent ++ it.0)) (sym counted) ∙ first_are before.sent it.0

  pub count_is : (before after : World F) (one : Move) (count : ℕ) → length before.sent ≡ count → Happens as_flash before one after → length after.sent ≡ count + length (drop count after.sent)
  count_is before after one count counted happens =
      ap length (more_dropped as_flash before after (more as_flash before after one happens)) ∙ length-append before.sent (drop (length before.sent) after.sent)
      ∙ ap (λ n. n + length (drop n after.sent)) counted

  made_more : (first : World F) (run : List (Move × World F)) (one : Move) (after : World F) → AreMade as_flash first run
      → Happens as_flash (last_world first run) one after → AreMade as_flash first (run ++ (one, after) ∷ [])
  made_more first [] one after made happens = (happens, tt)
  made_more first (step ∷ run) one after made happens = (made.0, made_more step.1 run one after made.1 happens)

  last_more : (first : World F) (run : List (Move × World F)) (one : Move) (after : World F) → last_world first (run ++ (one, after) ∷ []) ≡ after
  last_more first [] one after = refl
  last_more first (step ∷ run) one after = last_more step.1 run one after

  moves_more : (run : List (Move × World F)) (one : Move) (after : World F) → moves_of (run ++ (one, after) ∷ []) ≡ moves_of run ++ one ∷ []
  moves_more [] one after = refl
  moves_more (step ∷ run) one after = ap (λ l. step.0 ∷ l) (moves_more run one after)

  entries_more : (first : World F) (run : List (Move × World F)) (one : Move) (after : World F)
      → entries_of first (run ++ (one, after) ∷ []) ≡ entries_of first run ++ entry_by (last_world first run) one after ∷ []
  entries_more first [] one after = refl
  entries_more first (step ∷ run) one after = ap (λ l. entry_by first step.0 step.1 ∷ l) (entries_more step.1 run one after)

  pub no_run : (first : World F) (old new : List Entry) → new ≡ old ++ opening_entry first ∷ [] → IsRun as_flash first [] old new first
  no_run first old new logged = record { run = []; are = refl; made = tt; ends = refl; logged = logged }

  pub run_more : (first between after : World F) (moves : List Move) (one : Move) (old now new : List Entry) → IsRun as_flash first moves old now between
      → Happens as_flash between one after → new ≡ now ++ entry_by between one after ∷ [] → IsRun as_flash first (moves ++ one ∷ []) old new after
  run_more first between after moves one old now new it happens logged = record {
    run = it.run ++ (one, after) ∷ [];
    are = moves_more it.run one after ∙ ap (λ l. l ++ one ∷ []) it.are;
    made = made_more first it.run one after it.made (subst (λ (w : World F). Happens as_flash w one after) (sym it.ends) happens);
    ends = last_more first it.run one after;
    logged = logged ∙ ap (λ (w : World F). now ++ entry_by w one after ∷ []) (sym it.ends)
        ∙ ap (λ l. l ++ entry_by (last_world first it.run) one after ∷ []) it.logged
        ∙ append_assoc old (opening_entry first ∷ entries_of first it.run) (entry_by (last_world first it.run) one after ∷ [])
        ∙ ap (λ l. old ++ opening_entry first ∷ l) (sym (entries_more first it.run one after));
  }

  -- ---- what they say

  turns_are : (first : World F) (run : List (Move × World F)) → turns_in (entries_of first run) ≡ turns_of first.sent (seen_of run)
  turns_are first [] = refl
  turns_are first (step ∷ run) = ap (λ l. (entry_by first step.0 step.1).turn ∷ l) (turns_are step.1 run)

  moves_are : (first : World F) (run : List (Move × World F)) → moves_in (entries_of first run) ≡ moves_of run
  moves_are first [] = refl
  moves_are first (step ∷ run) = ap (λ l. step.0 ∷ l) (moves_are step.1 run)

  of_moves : (first : World F) (run : List (Move × World F)) → AreMade as_flash first run → AreOfMoves first.sent (entries_of first run)
  of_moves first [] made = tt
  of_moves first (step ∷ run) made = (
    (refl, refl),
    subst (λ l. AreOfMoves l (entries_of step.1 run)) (more_dropped as_flash first step.1 (more as_flash first step.1 step.0 made.0)) (of_moves step.1 run made.1),
  )

  pub entries_are : (first : World F) (run : List (Move × World F)) → AreMade as_flash first run → AreOfMoves [] (opening_entry first ∷ entries_of first run)
  entries_are first run made = ((refl, refl, refl), of_moves first run made)

  pub entries_delivered : (first : World F) (run : List (Move × World F)) → AreMade as_flash first run
      → AreDelivered [] (turns_in (opening_entry first ∷ entries_of first run))
  entries_delivered first run made = (inl refl, subst (AreDelivered first.sent) (sym (turns_are first run)) (all_delivered as_flash first run made))

  pub entries_said : (first : World F) (run : List (Move × World F)) (mac : Mac) (relation : List ℕ) (records : List Written)
      → AreStartUps mac relation records (turns_of first.sent (seen_of run)) → AreStartUps mac relation records (drop 1 (turns_in (opening_entry first ∷ entries_of first run)))
  entries_said first run mac relation records are = subst (AreStartUps mac relation records) (sym (turns_are first run)) are

  sent_are : (first : World F) (run : List (Move × World F)) → AreMade as_flash first run → first.sent ++ sent_in (entries_of first run) ≡ (last_world first run).sent
  sent_are first [] made = append-nil first.sent
  sent_are first (step ∷ run) made =
      sym (append_assoc first.sent (entry_by first step.0 step.1).turn.sent (sent_in (entries_of step.1 run)))
      ∙ ap (λ l. l ++ sent_in (entries_of step.1 run)) (sym (more_dropped as_flash first step.1 (more as_flash first step.1 step.0 made.0))) ∙ sent_are step.1 run made.1

  pub entries_moves : (first : World F) (run : List (Move × World F)) → moves_in (opening_entry first ∷ entries_of first run) ≡ moves_of run
  entries_moves first run = moves_are first run

  pub entries_sent : (first : World F) (run : List (Move × World F)) → AreMade as_flash first run → sent_in (opening_entry first ∷ entries_of first run) ≡ (last_world first run).sent
  entries_sent first run made = sent_are first run made

  -- ---- a law of what is added to a log, if it holds of the entries of each run

  module _ (first : World F) (law : List Entry → Type 0) (of_run : (run : List (Move × World F)) → AreMade as_flash first run → law (opening_entry first ∷ entries_of first run)) where
    pub run_so : (moves : List Move) (old new : List Entry) (last : World F) → IsRun as_flash first moves old new last → (entries : List Entry) → new ≡ old ++ entries → law entries
    run_so moves old new last it entries is = subst law (added_is old new (opening_entry first ∷ entries_of first it.run) entries it.logged is) (of_run it.run it.made)

    pub cut_so : law [] → (moves : List Move) (old new : List Entry) → IsCut as_flash first moves old new → (entries : List Entry) → new ≡ old ++ entries → law entries
    cut_so none moves old new (inl same) entries is = subst law (none_added old new entries same is) none
    cut_so none moves old new (inr it) entries is = run_so (take it.0 moves) old new it.1 it.2 entries is

  -- ---- the same, of each run whose moves have their sizes

  sized_run : (run : List (Move × World F)) → AllByRecursion IsSizedMove (moves_of run) → AreSizedMoves run
  sized_run [] all = tt
  sized_run (one ∷ run) all = (all.0, sized_run run all.1)

  sized_first : (count : ℕ) (moves : List Move) → AllByRecursion IsSizedMove moves → AllByRecursion IsSizedMove (take count moves)
  sized_first zero moves all = tt
  sized_first (suc count) [] all = tt
  sized_first (suc count) (one ∷ moves) all = (all.0, sized_first count moves all.1)

  module _ (first : World F) (law : List Entry → Type 0)
      (of_run : (run : List (Move × World F)) → AreMade as_flash first run → AreSizedMoves run → law (opening_entry first ∷ entries_of first run)) where
    pub sized_so : (moves : List Move) → AllByRecursion IsSizedMove moves → (old new : List Entry) (last : World F) → IsRun as_flash first moves old new last
        → (entries : List Entry) → new ≡ old ++ entries → law entries
    sized_so moves sized old new last it entries is =
        subst law (added_is old new (opening_entry first ∷ entries_of first it.run) entries it.logged is)
        (of_run it.run it.made (sized_run it.run (subst (AllByRecursion IsSizedMove) (sym it.are) sized)))

    pub sized_cut : law [] → (moves : List Move) → AllByRecursion IsSizedMove moves → (old new : List Entry) → IsCut as_flash first moves old new
        → (entries : List Entry) → new ≡ old ++ entries → law entries
    sized_cut none moves sized old new (inl same) entries is = subst law (none_added old new entries same is) none
    sized_cut none moves sized old new (inr it) entries is = sized_so (take it.0 moves) (sized_first it.0 moves sized) old new it.1 it.2 entries is

  -- The entries that were added, and the moves that are left.
  abbrev pub AreTurns : List Move → List Move → List Entry → List Entry → List Entry → Type 0
  AreTurns moves rest old new entries = (new ≡ old ++ entries) × AreOfMoves [] entries × (moves ≡ moves_in entries ++ rest)

  pub no_turns : (moves : List Move) (old new : List Entry) → new ≡ old → AreTurns moves moves old new []
  no_turns moves old new same = (same ∙ sym (append-nil old), tt, refl)

  pub run_turns : (first : World F) (moves some rest : List Move) (old new : List Entry) (last : World F) (it : IsRun as_flash first some old new last) → some ++ rest ≡ moves
      → AreTurns moves rest old new (opening_entry first ∷ entries_of first it.run)
  run_turns first moves some rest old new last it parts =
      (it.logged, entries_are first it.run it.made, sym parts ∙ ap (λ l. l ++ rest) (sym it.are ∙ sym (entries_moves first it.run)))

  pub cut_turns : (first : World F) (moves : List Move) (old new : List Entry) → IsCut as_flash first moves old new
      → (entries : List Entry) × (rest : List Move) × (new ≡ old ++ entries) × AreOfMoves [] entries × (moves ≡ moves_in entries ++ rest)
  cut_turns first moves old new (inl same) = ([], moves, same ∙ sym (append-nil old), tt, refl)
  cut_turns first moves old new (inr it) =
      let are = run_turns first moves (take it.0 moves) (drop it.0 moves) old new it.1 it.2 (take-append-drop it.0 moves) in
      (opening_entry first ∷ entries_of first it.2.run, drop it.0 moves, are.0, are.1, are.2)
