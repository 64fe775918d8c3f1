-- The steps of two devices that are the same but for the answers stored for others.
use Rattle.std.proofs.Common.{◌≡◌, ◌≤◌, ℕ, true, List, [], ◌∷◌, length, map, refl, sym, ap, subst, ◌∙◌}
use Rattle.flash_model.specs.declared.flash.Flash.{Ghosts as Flash}
use Rattle.pn_values.specs.declared.set_item.SetItem.{SetItem}
use Rattle.pn_values.specs.declared.set_item.SetItem.TheVariants.{Ask, Signal, Answer}
use Rattle.pn_values.specs.declared.set_item.BlockError.{BlockError}
use Rattle.pn_values.specs.declared.set_item.BlockError.TheVariants.{Done}
use Rattle.settings_journal.specs.settings_store.State.{Values}
use Rattle.settings_journal.specs.settings_store.Carries.{Continues, OneByOne, Stretch}
use Rattle.settings_journal.specs.settings_store.Faults.{GoesOn, answer_after_fault}
use Rattle.settings_journal.specs.settings_store.Machine.{Outcome, carried, rest_of}
use Rattle.rpc_core.specs.Cache.{Kept, kept_more, kept_of}
use Rattle.device_frames.specs.Heard.{Heard}
use Rattle.device_frames.specs.Sendable.{AreSendable}
use Rattle.device_frames.specs.Sent.{bytes_of}
use Rattle.device_frames.specs.declared.note.Note.{Note}
use Rattle.device_core.specs.Faults.{IsAsIn, StepGoesOn, asks_nothing}
use Rattle.device_core.specs.Handled.{Handled, Refuses, Sets, Writes, WritesEach, Moves, handled}
use Rattle.dcp_core.specs.Set.{plan_of}
use Rattle.device_core.specs.Asking.{ended_by}
use Rattle.device_core.specs.Machine.{Finished, Stepped, farewell_at, finished, handled_step, heard_step, items_in, items_of, resets}
use Rattle.device_core.specs.State.{Live, Rest, State, Station, store_of}
use Rattle.device_core.specs.Steps.{Steps}
use Rattle.octets_law.proofs.Asked.{left_such}
use Rattle.strangers_law.specs.Calling.{GoesOnAlike, IsAskedOwn, IsLike, IsOwn, IsRecent, with_calls}
use Rattle.strangers_law.proofs.CallingAlike.{Same, handled_same, swapped}
use Rattle.strangers_law.proofs.CallingStore.{own_first, own_recent}

-- ---- a step that stores nothing

-- Items that ask for nothing to be stored are answered in the same way, for any settings.
plain_answers : (outcomes : List Outcome) (values : Values) (items : List SetItem) → asks_nothing items ≡ true
    → (carried outcomes values items).answers ≡ map answer_after_fault items
plain_answers outcomes values [] nothing = refl
plain_answers outcomes values (Ask command ∷ items) nothing = absurd cc
plain_answers outcomes values (Signal ∷ items) nothing = ap (λ a. Done ∷ a) (plain_answers (rest_of outcomes) values items nothing)
plain_answers outcomes values (Answer answer ∷ items) nothing = ap (λ a. answer ∷ a) (plain_answers (rest_of outcomes) values items nothing)

-- A step has this outcome, except for the settings.
abbrev IsThat : Stepped → Stepped → Type 0
IsThat step other = IsAsIn step other.frames other.note other.live

as_ever_by : (outcomes : List Outcome) (station : Station) (one other : Live) (what : Handled) → asks_nothing (items_in what) ≡ true
    → other.rest ≡ one.rest → IsThat (handled_step [] station other what) (handled_step outcomes station one what)
unfolding handled_step
as_ever_by outcomes station one other what nothing rest =
    let first : List BlockError = (carried outcomes one.values (items_in what)).answers in
    let second : List BlockError = (carried [] other.values (items_in what)).answers in
    let answers : first ≡ second =
    plain_answers outcomes one.values (items_in what) nothing ∙ sym (plain_answers [] other.values (items_in what) nothing) in
    let end : finished station.identity one.rest what first ≡ finished station.identity other.rest what second =
    ap (finished station.identity one.rest what) answers ∙ ap (λ r. finished station.identity r what second) (sym rest) in
    record { rest = ap (λ e. e.rest) end; frames = ap (λ e. map (bytes_of station.identity) e.sent) end; note = ap (λ e. e.note) end }

-- It is the same at any device with the same running settings and the same rest.
as_ever : (outcomes : List Outcome) (station : Station) (one other : Live) (heard : Heard) → asks_nothing (items_of station one heard) ≡ true
    → other.values.running ≡ one.values.running → other.rest ≡ one.rest → IsThat (heard_step [] station other heard) (heard_step outcomes station one heard)
unfolding heard_step
as_ever outcomes station one other heard nothing running rest =
    subst (λ what. IsThat (handled_step [] station other what) (heard_step outcomes station one heard)) (sym same)
    (as_ever_by outcomes station one other (handled station one heard) nothing rest)
  where
    same : handled station other heard ≡ handled station one heard
    same = ap (λ r. handled station (record { values = record other.values { running = r }; rest = other.rest }) heard) running
        ∙ ap (λ r. handled station (record { values = record other.values { running = one.values.running }; rest = r }) heard) rest

-- ---- two devices

-- The second step is the first one with other stored answers, of which that of this activity is the same.
record AreAlike (own : List ℕ) (others : List (List ℕ)) (one two : Stepped) : Type 0 where
  calls : List Kept
  live : two.live ≡ swapped calls one.live
  sent : two.sent ≡ one.sent
  frames : two.frames ≡ one.frames
  note : two.note ≡ one.note
  accepted : two.accepted ≡ one.accepted
  kept : kept_of own calls ≡ kept_of own one.live.rest.calls
  recent : IsRecent own others one.live.rest.calls
  asked : IsAskedOwn own one.live.rest.asked

-- What an event leaves, whatever the settings answer.
record AreEnds (one two : Finished) : Type 0 where
  sent : two.sent ≡ one.sent
  note : two.note ≡ one.note

module _ (own : List ℕ) (others : List (List ℕ)) (station : Station) (live : Live) (calls : List Kept) (kept : kept_of own calls ≡ kept_of own live.rest.calls)
    (recent : IsRecent own others live.rest.calls) (asked : IsAskedOwn own live.rest.asked) where
  abbrev there : Live
  there = swapped calls live

  stored : (one : Kept) → one.activity ≡ own → kept_of own (kept_more 4 one calls) ≡ kept_of own (kept_more 4 one live.rest.calls)
  stored one is = own_first own one calls is ∙ sym (own_first own one live.rest.calls is)

  items_same : (what other : Handled) → Same own others what other → items_in other ≡ items_in what
  items_same (Refuses note) other same = ap items_in same
  items_same (Sets asker request in_operation) other same = ap items_in same
  items_same (Writes caller address call header value) other same = ap items_in same.0
  items_same (WritesEach caller address call header judged) other same = ap items_in same.0
  items_same (Moves rest sent) other same = ap items_in same.1

  abbrev AreSteps : List Outcome → Handled → Handled → Type 0
  AreSteps outcomes what other = AreAlike own others (handled_step outcomes station live what) (handled_step outcomes station there other)

  step_alike : (outcomes : List Outcome) (what other : Handled) → Same own others what other
      → AreAlike own others (handled_step outcomes station live what) (handled_step outcomes station (swapped calls live) other)
  unfolding handled_step
  step_alike outcomes (Refuses note) other same =
      subst (AreSteps outcomes (Refuses note)) (sym same)
      (record { calls = calls; live = refl; sent = refl; frames = refl; note = refl; accepted = refl; kept = kept; recent = recent; asked = asked })
  step_alike outcomes (Sets asker request in_operation) other same =
      subst (AreSteps outcomes (Sets asker request in_operation)) (sym same) (record {
        calls = calls;
        live = refl;
        sent = refl;
        frames = refl;
        note = refl;
        accepted = refl;
        kept = kept;
        recent = recent;
        asked = left_such (λ question. question.header.activity ≡ own) (ended_by (farewell_at (resets (plan_of in_operation request)
            (carried outcomes live.values (plan_of in_operation request)).answers) live.rest.link)) live.rest.asked asked;
      })
  step_alike outcomes (Writes caller address call header value) other same =
      subst (AreSteps outcomes (Writes caller address call header value)) (sym same.0) (record {
        calls = _;
        live = refl;
        sent = refl;
        frames = refl;
        note = refl;
        accepted = refl;
        kept = stored _ same.1;
        recent = own_recent own others _ live.rest.calls same.1;
        asked = asked;
      })
  step_alike outcomes (WritesEach caller address call header judged) other same =
      subst (AreSteps outcomes (WritesEach caller address call header judged)) (sym same.0) (record {
        calls = _;
        live = refl;
        sent = refl;
        frames = refl;
        note = refl;
        accepted = refl;
        kept = stored _ same.1;
        recent = own_recent own others _ live.rest.calls same.1;
        asked = asked;
      })
  step_alike outcomes (Moves rest sent) other same =
      subst (AreSteps outcomes (Moves rest sent)) (sym same.1)
      (record { calls = same.0; live = refl; sent = refl; frames = refl; note = refl; accepted = refl; kept = same.2; recent = same.3; asked = same.4 })

  -- What is sent, and the note, are the same for any answers of the settings.
  abbrev AreEndsOf : List BlockError → Handled → Handled → Type 0
  AreEndsOf answers what other = AreEnds (finished station.identity live.rest what answers) (finished station.identity there.rest other answers)

  ends_alike : (what other : Handled) → Same own others what other → (answers : List BlockError)
      → AreEnds (finished station.identity live.rest what answers) (finished station.identity (swapped calls live).rest other answers)
  ends_alike (Refuses note) other same answers = subst (AreEndsOf answers (Refuses note)) (sym same) (record { sent = refl; note = refl })
  ends_alike (Sets asker request in_operation) other same answers =
      subst (AreEndsOf answers (Sets asker request in_operation)) (sym same) (record { sent = refl; note = refl })
  ends_alike (Writes caller address call header value) other same answers =
      subst (AreEndsOf answers (Writes caller address call header value)) (sym same.0) (record { sent = refl; note = refl })
  ends_alike (WritesEach caller address call header judged) other same answers =
      subst (AreEndsOf answers (WritesEach caller address call header judged)) (sym same.0) (record { sent = refl; note = refl })
  ends_alike (Moves rest sent) other same answers = subst (AreEndsOf answers (Moves rest sent)) (sym same.1) (record { sent = refl; note = refl })

  -- The newest stored answer.
  abbrev newest : Kept → List Kept → Kept
  newest other [] = other
  newest other (one ∷ calls) = one

  abbrev holding : List Kept → Rest → Rest
  holding stored rest = record rest { calls = stored }

  -- If two lists of answers of the settings leave the same at one device, they do at the other.
  abbrev Agree : List BlockError → List BlockError → Handled → Type 0
  Agree answers more other = (finished station.identity there.rest other answers).rest ≡ (finished station.identity there.rest other more).rest

  rests_alike : (what other : Handled) → Same own others what other → (answers more : List BlockError)
      → (finished station.identity live.rest what answers).rest ≡ (finished station.identity live.rest what more).rest
      → (finished station.identity (swapped calls live).rest other answers).rest ≡ (finished station.identity (swapped calls live).rest other more).rest
  rests_alike (Refuses note) other same answers more leaves = subst (Agree answers more) (sym same) refl
  rests_alike (Sets asker request in_operation) other same answers more leaves =
      subst (Agree answers more) (sym same) (ap (λ r. holding calls r) leaves)
  rests_alike (Writes caller address call header value) other same answers more leaves =
      let some : Kept = record { activity = []; sequence = 0; frame = [] } in
      subst (Agree answers more) (sym same.0) (ap (λ r. holding (kept_more 4 (newest some r.calls) calls) r) leaves)
  rests_alike (WritesEach caller address call header judged) other same answers more leaves =
      let some : Kept = record { activity = []; sequence = 0; frame = [] } in
      subst (Agree answers more) (sym same.0) (ap (λ r. holding (kept_more 4 (newest some r.calls) calls) r) leaves)
  rests_alike (Moves rest sent) other same answers more leaves = subst (Agree answers more) (sym same.1) refl

-- ---- a step of a device

module _ {F : Type 0} {S : ℕ} (as_flash : Flash F S) (own : List ℕ) (others : List (List ℕ)) (old new : State F) (heard : Heard)
    (sent : List (List ℕ)) (said : Note) (is_own : IsOwn own heard) (steps : Steps as_flash old heard sent said new) (calls : List Kept)
    (kept : kept_of own calls ≡ kept_of own old.live.rest.calls) (recent : IsRecent own others old.live.rest.calls)
    (asked : IsAskedOwn own old.live.rest.asked) where
  -- The other state, and what is done in either.
  abbrev other : Live
  other = swapped calls old.live

  abbrev one_does : Handled
  one_does = handled old.station old.live heard

  abbrev other_does : Handled
  other_does = handled old.station other heard

  same : Same own others one_does other_does
  same = handled_same own others old.station old.live calls kept recent asked heard is_own

  items : items_of old.station other heard ≡ items_of old.station old.live heard
  items = items_same own others old.station old.live calls kept recent asked one_does other_does same

  alike : AreAlike own others (heard_step steps.outcomes old.station old.live heard) (heard_step steps.outcomes old.station other heard)
  unfolding heard_step
  alike = step_alike own others old.station old.live calls kept recent asked steps.outcomes one_does other_does same

  next_live : swapped alike.calls new.live ≡ (heard_step steps.outcomes old.station other heard).live
  next_live = ap (swapped alike.calls) steps.live ∙ sym alike.live

  next_rest : (swapped alike.calls new.live).rest
      ≡ (finished old.station.identity other.rest other_does steps.goes_on.answers).rest
  unfolding heard_step handled_step
  next_rest =
      let settled : List BlockError = (carried steps.outcomes old.live.values (items_of old.station old.live heard)).answers in
      let first : (finished old.station.identity old.live.rest one_does settled).rest
      ≡ (finished old.station.identity old.live.rest one_does steps.goes_on.answers).rest =
      sym (ap (λ l. l.rest) steps.live) ∙ steps.goes_on.rest in
      ap (λ l. l.rest) next_live
      ∙ ap (λ i. (finished old.station.identity other.rest other_does (carried steps.outcomes old.live.values i).answers).rest) items
      ∙ rests_alike own others old.station old.live calls kept recent asked one_does other_does same settled steps.goes_on.answers first

  goes_on : StepGoesOn old.station other heard sent said (swapped alike.calls new.live)
  goes_on =
      let ends = ends_alike own others old.station old.live calls kept recent asked one_does other_does same steps.goes_on.answers in
      record {
        answers = steps.goes_on.answers;
        settings = subst (λ i. GoesOn old.live.values i steps.goes_on.answers new.live.values) (sym items) steps.goes_on.settings;
        rest = next_rest;
        frames = steps.goes_on.frames ∙ ap (map (bytes_of old.station.identity)) (sym ends.sent);
        note = steps.goes_on.note ∙ sym ends.note;
        as_ever = λ nothing one running rest.
            let it = as_ever steps.outcomes old.station other one heard nothing running rest in
            record {
              rest = ap (λ l. l.rest) next_live ∙ it.rest;
              frames = steps.frames ∙ sym alike.frames ∙ it.frames;
              note = steps.note ∙ sym alike.note ∙ it.note;
            };
      }

  pub goes : GoesOnAlike as_flash own others (with_calls calls old) new heard sent said
  goes = record {
    next = with_calls alike.calls new;
    steps = record {
      outcomes = steps.outcomes;
      same = steps.same;
      live = next_live;
      frames = steps.frames ∙ sym alike.frames;
      sendable = subst (AreSendable old.station.identity) (sym alike.sent) steps.sendable;
      note = steps.note ∙ sym alike.note;
      inactive = steps.inactive;
      few = subst (λ i. length i ≤ 16) (sym items) steps.few;
      placed = subst (λ i. OneByOne as_flash steps.outcomes (store_of old) i (store_of new)) (sym items) steps.placed;
      stretch = subst (λ a. Stretch as_flash (store_of old) a (store_of new)) (sym alike.accepted) steps.stretch;
      continues = subst (λ a. Continues as_flash (store_of old) a (store_of new)) (sym alike.accepted) steps.continues;
      goes_on = goes_on;
    };
    like = record {
      is = refl;
      kept = alike.kept ∙ ap (λ l. kept_of own l.rest.calls) (sym steps.live);
      recent = subst (λ l. IsRecent own others l.rest.calls) (sym steps.live) alike.recent;
      asked = subst (λ l. IsAskedOwn own l.rest.asked) (sym steps.live) alike.asked;
    };
  }

pub goes_alike : {F : Type 0} {S : ℕ} (as_flash : Flash F S) (own : List ℕ) (others : List (List ℕ)) (old new alone : State F) (heard : Heard)
    (sent : List (List ℕ)) (said : Note) → IsLike own others old alone → IsOwn own heard → Steps as_flash old heard sent said new
    → GoesOnAlike as_flash own others alone new heard sent said
goes_alike as_flash own others old new alone heard sent said like is steps =
    subst (λ a. GoesOnAlike as_flash own others a new heard sent said) (sym like.is)
    (goes as_flash own others old new heard sent said is steps alone.live.rest.calls like.kept like.recent like.asked)
