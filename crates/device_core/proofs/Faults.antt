-- What goes on for any flash faults.
use Rattle.std.proofs.Common.{◌≡◌, Bool, true, false, List, [], ◌∷◌, ◌++◌, map, refl, sym, ap, subst, ◌∙◌, append_assoc, ℕ}
use Rattle.std.proofs.lemmas.List.{append-nil}
use Rattle.std.proofs.lemmas.Bool.{cond-false}
use Rattle.flash_model.specs.declared.flash.Flash.{Ghosts as Flash}
use Rattle.pn_values.specs.declared.set_item.SetItem.{SetItem}
use Rattle.pn_values.specs.declared.set_item.SetItem.TheVariants.{Ask, Signal, Answer}
use Rattle.pn_values.specs.declared.set_item.BlockError.{BlockError}
use Rattle.pn_values.specs.declared.set_item.BlockError.TheVariants.{Done}
use Rattle.settings_journal.specs.settings_store.State.{Values}
use Rattle.settings_journal.specs.settings_store.Machine.{Outcome, rest_of, carried}
use Rattle.settings_journal.specs.settings_store.Faults.{answer_after_fault, GoesOn}
use Rattle.device_frames.specs.declared.event.Event.{Event}
use Rattle.device_frames.specs.declared.note.Note.{Note}
use Rattle.device_core.specs.State.{Station, State, Live}
use Rattle.device_frames.specs.Sent.{bytes_of}
use Rattle.device_frames.specs.Heard.{Heard, heard_of}
use Rattle.device_core.specs.Handled.{Handled, handled}
use Rattle.device_core.specs.Machine.{items_in, items_of, finished, handled_step, heard_step}
use Rattle.device_core.specs.Faults.{asks_nothing, IsAsIn, StepGoesOn, EachGoesOn, RunGoesOn}
use Rattle.device_core.specs.Steps.{HandsOn}

-- Items that ask for nothing to be stored are answered in the same way, for any settings.
plain_answers : (outcomes : List Outcome) (values : Values) (items : List SetItem) → asks_nothing items ≡ true → (carried outcomes values items).answers ≡ map answer_after_fault items
plain_answers outcomes values [] nothing = refl
plain_answers outcomes values (Ask command ∷ items) nothing = cc
plain_answers outcomes values (Signal ∷ items) nothing = ap (λ a. Done ∷ a) (plain_answers (rest_of outcomes) values items nothing)
plain_answers outcomes values (Answer answer ∷ items) nothing = ap (λ a. answer ∷ a) (plain_answers (rest_of outcomes) values items nothing)

-- The outcome depends only on the running settings and the rest.
handled_same : (station : Station) (one other : Live) (heard : Heard) → other.values.running ≡ one.values.running → other.rest ≡ one.rest → handled station other heard ≡ handled station one heard
handled_same station one other heard running rest =
    ap (λ r. handled station (record { values = record other.values { running = r }; rest = other.rest }) heard) running
    ∙ ap (λ r. handled station (record { values = record other.values { running = one.values.running }; rest = r }) heard) rest

-- An outcome that asks for nothing to be stored, at two devices.
handled_alike : (outcomes : List Outcome) (station : Station) (one other : Live) (what : Handled) → asks_nothing (items_in what) ≡ true → other.rest ≡ one.rest
    → IsAsIn (handled_step [] station other what) (handled_step outcomes station one what).frames (handled_step outcomes station one what).note (handled_step outcomes station one what).live
unfolding handled_step
handled_alike outcomes station one other what nothing same =
    let items = items_in what in
    let answers : (carried outcomes one.values items).answers ≡ (carried [] other.values items).answers =
    plain_answers outcomes one.values items nothing ∙ sym (plain_answers [] other.values items nothing) in
    let end : finished station.identity one.rest what (carried outcomes one.values items).answers ≡ finished station.identity other.rest what (carried [] other.values items).answers =
    ap (finished station.identity one.rest what) answers ∙ ap (λ r. finished station.identity r what (carried [] other.values items).answers) (sym same) in
    record {
      rest = ap (λ e. e.rest) end;
      frames = ap (λ e. map (bytes_of station.identity) e.sent) end;
      note = ap (λ e. e.note) end;
    }

heard_alike : (outcomes : List Outcome) (station : Station) (one other : Live) (heard : Heard) → asks_nothing (items_of station one heard) ≡ true
    → other.values.running ≡ one.values.running → other.rest ≡ one.rest
    → IsAsIn (heard_step [] station other heard) (heard_step outcomes station one heard).frames (heard_step outcomes station one heard).note (heard_step outcomes station one heard).live
unfolding heard_step
heard_alike outcomes station one other heard nothing running rest =
    subst (λ what. IsAsIn (handled_step [] station other what) (heard_step outcomes station one heard).frames (heard_step outcomes station one heard).note (heard_step outcomes station one heard).live)
    (sym (handled_same station one other heard running rest)) (handled_alike outcomes station one other (handled station one heard) nothing rest)

-- A step goes on if its settings do.
pub step_goes_on : (outcomes : List Outcome) (station : Station) (live next : Live) (heard : Heard) (sent : List (List ℕ)) (said : Note) (answers : List BlockError)
    → next ≡ (heard_step outcomes station live heard).live → sent ≡ (heard_step outcomes station live heard).frames → said ≡ (heard_step outcomes station live heard).note
    → answers ≡ (carried outcomes live.values (items_of station live heard)).answers → GoesOn live.values (items_of station live heard) answers next.values
    → StepGoesOn station live heard sent said next
unfolding heard_step handled_step
step_goes_on outcomes station live next heard sent said answers live_is frames_are note_is answers_are settings =
    let what = handled station live heard in
    let end : finished station.identity live.rest what (carried outcomes live.values (items_in what)).answers ≡ finished station.identity live.rest what answers = ap (finished station.identity live.rest what) (sym answers_are) in
    record {
      answers = answers;
      settings = settings;
      rest = ap (λ l. l.rest) live_is ∙ ap (λ e. e.rest) end;
      frames = frames_are ∙ ap (λ e. map (bytes_of station.identity) e.sent) end;
      note = note_is ∙ ap (λ e. e.note) end;
      as_ever = λ nothing other running rest.
          let alike = heard_alike outcomes station live other heard nothing running rest in
          record { rest = ap (λ l. l.rest) live_is ∙ alike.rest; frames = frames_are ∙ alike.frames; note = note_is ∙ alike.note };
    }

-- The same for an event under another name.
pub heard_goes_on : (station : Station) (live : Live) (heard other : Heard) (sent : List (List ℕ)) (said : Note) (next : Live) → heard ≡ other
    → StepGoesOn station live heard sent said next → StepGoesOn station live other sent said next
heard_goes_on station live heard other sent said next same goes = subst (λ h. StepGoesOn station live h sent said next) same goes

-- One more event.
each_more : (station : Station) (live : Live) (events : List Event) (event : Event) (frames sent : List (List ℕ)) (said : Note) (mid new : Live)
    → EachGoesOn station live events frames mid → StepGoesOn station mid (heard_of station.identity event) sent said new → EachGoesOn station live (events ++ event ∷ []) (frames ++ sent) new
each_more station live [] event frames sent said mid new so_far last =
    (new, sent, said, [], subst (λ l. StepGoesOn station l (heard_of station.identity event) sent said new) so_far.1 last, ap (λ f. f ++ sent) so_far.0 ∙ sym (append-nil sent), (refl, refl))
each_more station live (first ∷ events) event frames sent said mid new so_far last = (
  so_far.0,
  so_far.1,
  so_far.2,
  so_far.3 ++ sent,
  so_far.4,
  ap (λ f. f ++ sent) so_far.5 ∙ append_assoc so_far.1 so_far.3 sent,
  each_more station so_far.0 events event so_far.3 sent said mid new so_far.6 last,
)

still_there : (before now : Bool) → (before ≡ true → now ≡ true) → now ≡ false → before ≡ false
still_there true now stays there = let lost : now ≡ true = stays refl in cc
still_there false now stays there = refl

pub no_event : {F : Type 0} (state : State F) (taken : List (List ℕ)) → RunGoesOn state [] taken taken state
no_event state taken = record { frames = []; handed_on = sym (append-nil taken); each = (refl, refl) }

pub event_more : {F : Type 0} {S : ℕ} (as_flash : Flash F S) (old mid new : State F) (events : List Event) (event : Event) (before between now : List (List ℕ))
    → mid.station ≡ old.station → (mid.live.values.is_lost ≡ false → RunGoesOn old events before between mid)
    → HandsOn as_flash mid (heard_of mid.station.identity event) between now new → new.live.values.is_lost ≡ false → RunGoesOn old (events ++ event ∷ []) before now new
event_more as_flash old mid new events event before between now same so_far on there =
    let was = so_far (still_there _ _ on.steps.stretch.stays_lost there) in
    record {
      frames = was.frames ++ on.sent;
      handed_on = on.handed_on ∙ ap (λ f. between ++ f) (cond-false _ _ _ there) ∙ ap (λ b. b ++ on.sent) was.handed_on ∙ append_assoc before was.frames on.sent;
      each = each_more old.station old.live events event was.frames on.sent on.said mid.live new.live was.each
          (subst (λ i. StepGoesOn i mid.live (heard_of i.identity event) on.sent on.said new.live) same on.steps.goes_on);
    }
