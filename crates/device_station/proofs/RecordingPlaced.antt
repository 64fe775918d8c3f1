-- The calls that items make to a recorded flash are those of the accepted commands.
use Rattle.std.proofs.Common.{◌≡◌, ◌≢◌, ◌⊎◌, ◌==◌, ◌+◌, ◌-◌, ◌≤◌, ℕ, Bool, true, false, List, [], ◌∷◌, ◌++◌, drop, length, map, refl, sym, ap, subst, ◌∙◌, inl, inr, arith}
use Rattle.std.specs.Prelude.{if◌then◌else◌}
use Rattle.std.proofs.lemmas.Bool.{eqb-false}
use Rattle.std.proofs.lemmas.List.{append-nil, append_assoc, drop-append-le, length-append}
use Rattle.pn_values.specs.Command.{apply}
use Rattle.pn_values.specs.declared.command.Command.{Command}
use Rattle.pn_values.specs.declared.set_item.SetItem.{SetItem}
use Rattle.pn_values.specs.declared.set_item.SetItem.TheVariants.{Ask, Signal, Answer}
use Rattle.flash_model.specs.Calls.{Call}
use Rattle.flash_model.specs.declared.flash.Flash.{Ghosts as Flash}
use Rattle.settings_journal.specs.Cut.{AreWrites, all_carried_out}
use Rattle.settings_journal.specs.Image.{LeftByDevice}
use Rattle.settings_journal.specs.settings_store.State.{State, Values}
use Rattle.settings_journal.specs.settings_store.Machine.{Outcome, Pass, Accepted, Carried, accepted, carried_one, carried}
use Rattle.settings_journal.specs.settings_store.Carries.{OneByOne, CarriesOne, Holds}
use Rattle.device_station.specs.recorded.Pushed.{pushed}
use Rattle.device_station.specs.recorded.Record.{Record, image_of, record_of, after_one, after_all, entry_of, IsAsked}
use Rattle.device_station.specs.declared.recorded.entry.Entry.{Entry}
use Rattle.device_station.specs.recorded.Laws.{failures_of, has_power, IsAlways, after_all-append, have_both}
use Rattle.device_station.specs.declared.recorded.flash.RecordedFlash.{RecordedFlash}
use Rattle.device_station.specs.recording.Calls.{CallsOf}

-- a recorded flash as a flash
abbrev pub as_recorded : {S : ℕ} → Flash (RecordedFlash S) S
as_recorded = record { image = image_of; failures = failures_of; is_lost = has_power; is_reliable = IsAlways; asked = IsAsked }

-- ---- one item, with no call failing

-- nothing is accepted and nothing changes, or there is room, and a command is accepted and stored
abbrev Case : Values → Carried → Type 0
Case values one =
    ((one.accepted ≡ []) × (one.values ≡ values))
    ⊎ ((command : Command) × (values.room ≢ 0) × (one.accepted ≡ record { command = command; is_done = true } ∷ []) × (one.values ≡ (accepted Pass values command).values))

ask_case : (failed full : Bool) (refused exhausted : Carried) (values : Values) (command : Command) → failed ≡ false → (exhausted.accepted ≡ []) × (exhausted.values ≡ values) → (full ≡ false → values.room ≢ 0)
    → Case values (if failed then refused else (if full then exhausted else accepted Pass values command))
ask_case true full refused exhausted values command e is some = cc e
ask_case false true refused exhausted values command e is some = inl is
ask_case false false refused exhausted values command e is some = inr (command, some refl, refl, refl)

one_case : (values : Values) (item : SetItem) → values.has_failed ≡ false → Case values (carried_one Pass values item)
one_case values (Ask command) going = ask_case values.has_failed (values.room == 0) _ _ values command going (refl, refl) (λ full. eqb-false values.room 0 full)
one_case values Signal going = inl (refl, refl)
one_case values (Answer answer) going = inl (refl, refl)

-- ---- the record

pub after_image : (before : Record) (calls : List Call) → (after_all before calls).image ≡ all_carried_out before.image calls
after_image before [] = refl
after_image before (call ∷ calls) = after_image (after_one before call) calls

-- more calls after those that are stored: they stay, if there is room for all of them
kept_behind : (front back : List Entry) (calls : List Call) → length back + length calls ≤ 48 → (before : Record) → before.recent ≡ front ++ back
    → (old : List Entry) × ((after_all before calls).recent ≡ old ++ (back ++ map entry_of calls))
kept_behind front back [] few before is = (front, is ∙ ap (λ l. front ++ l) (sym (append-nil back)))
kept_behind front back (call ∷ calls) few before is =
    let one = entry_of call in
    let dropped = length (front ++ back) - 47 in
    let long = length-append front back in
    let longer = length-append back (one ∷ []) in
    let now = ap (λ l. pushed l one) is ∙ ap (λ l. l ++ one ∷ []) (drop-append-le dropped front back (omega (arith, long, few))) ∙ append_assoc (drop dropped front) back (one ∷ []) in
    let rest = kept_behind (drop dropped front) (back ++ one ∷ []) calls (omega (arith, few, longer)) (after_one before call) now in
    (rest.0, rest.1 ∙ ap (λ l. rest.0 ++ l) (append_assoc back (one ∷ []) (map entry_of calls)))

pub last_calls : (before : Record) (calls : List Call) → length calls ≤ 48 → (old : List Entry) × ((after_all before calls).recent ≡ old ++ map entry_of calls)
last_calls before calls few = kept_behind before.recent [] calls (omega (arith, few)) before (sym (append-nil before.recent))

-- ---- the items

pub record ItemsCalls {S : ℕ} (old : State (RecordedFlash S)) (accepted : List Accepted) (new : State (RecordedFlash S)) : Type 0 where
  pub calls : List Call
  pub of_commands : CallsOf (image_of old.flash) old.values.stored old.values.room accepted calls
  pub writes : AreWrites calls
  pub asked : IsAsked old.flash calls new.flash
  pub paid : length accepted ≤ old.values.room

writes_append : (front back : List Call) → AreWrites front → AreWrites back → AreWrites (front ++ back)
writes_append [] back f b = b
writes_append (call ∷ front) back f b = (f.0, writes_append front back f.1 b)

module _ {S : ℕ} where
  -- the first item accepted nothing
  behind_none : (old between new : State (RecordedFlash S)) (item : SetItem) (items : List SetItem) → between ≡ old → (carried_one Pass old.values item).accepted ≡ [] → (carried_one Pass old.values item).values ≡ old.values
      → ItemsCalls between (carried [] between.values items).accepted new → ItemsCalls old (carried [] old.values (item ∷ items)).accepted new
  behind_none old between new item items is none same rest =
      let here : ItemsCalls old (carried [] old.values items).accepted new = subst (λ s. ItemsCalls s (carried [] s.values items).accepted new) is rest in
      let by_values : ItemsCalls old ([] ++ (carried [] (carried_one Pass old.values item).values items).accepted) new = subst (λ v. ItemsCalls old (carried [] v items).accepted new) (sym same) here in
      subst (λ l. ItemsCalls old (l ++ (carried [] (carried_one Pass old.values item).values items).accepted) new) (sym none) by_values

  -- the first item accepted a command
  behind_command : (old between new : State (RecordedFlash S)) (command : Command) (items : List SetItem) (outcome : Outcome) (item : SetItem) → CarriesOne as_recorded outcome old item between
      → (carried_one outcome old.values item).accepted ≡ record { command = command; is_done = true } ∷ [] → between.values ≡ (accepted Pass old.values command).values → old.values.room ≢ 0
      → ItemsCalls between (carried [] between.values items).accepted new → ItemsCalls old (record { command = command; is_done = true } ∷ (carried [] between.values items).accepted) new
  behind_command old between new command items outcome item one is values some rest =
      let asks = one.asks (record { command = command; is_done = true }) is in
      let commit : List Call = asks.commit in
      let were : IsAsked old.flash commit between.flash = subst (λ c. IsAsked old.flash c between.flash) asks.part asks.were in
      let writes = asks.of_commit.writes in
      let after = were.1 writes in
      let image : image_of between.flash ≡ all_carried_out (image_of old.flash) commit = ap (λ r. r.image) after ∙ after_image (record_of old.flash) commit in
      let stored = ap (λ v. v.stored) values in
      let room = ap (λ v. v.room) values in
      let later : CallsOf (all_carried_out (image_of old.flash) commit) (apply command old.values.stored) (old.values.room - 1) (carried [] between.values items).accepted rest.calls =
      subst (λ i. CallsOf i (apply command old.values.stored) (old.values.room - 1) (carried [] between.values items).accepted rest.calls) image
      (subst (λ s. CallsOf (image_of between.flash) s (old.values.room - 1) (carried [] between.values items).accepted rest.calls) stored
      (subst (λ n. CallsOf (image_of between.flash) between.values.stored n (carried [] between.values items).accepted rest.calls) room rest.of_commands)) in
      record {
        calls = commit ++ rest.calls;
        of_commands = (commit, rest.calls, asks.of_commit, (λ left. subst LeftByDevice image (one.safe.left left)), later, refl);
        writes = writes_append commit rest.calls writes rest.writes;
        asked = (have_both commit rest.calls were.0 rest.asked.0, λ are. rest.asked.1 rest.writes ∙ ap (λ r. after_all r rest.calls) after ∙ sym (after_all-append (record_of old.flash) commit rest.calls));
        paid = omega (arith, rest.paid, room, some);
      }

  pub items_calls : (old new : State (RecordedFlash S)) (items : List SetItem) → OneByOne as_recorded [] old items new → old.values.has_failed ≡ false → Holds (image_of old.flash) old.values
      → ItemsCalls old (carried [] old.values items).accepted new
  items_calls old new [] placed going holds =
      record { calls = []; of_commands = (refl, holds going); writes = tt; asked = (tt, λ are. ap (λ s. record_of s.flash) placed); paid = omega arith }
  items_calls old new (item ∷ items) placed going holds =
      let between = placed.0 in
      let one = placed.1 in
      elim (one_case old.values item going) [
        | inl none ↦
            let is : between ≡ old = λ i. record { flash = one.untouched none.0 i; values = (one.values ∙ none.1) i } in
            behind_none old between new item items is none.0 none.1 (items_calls between new items placed.2 (ap (λ v. v.has_failed) (one.values ∙ none.1) ∙ going) one.holds)
        | inr took ↦
            let values = one.values ∙ took.3 in
            let rest = behind_command old between new took.0 items Pass item one took.2 values took.1 (items_calls between new items placed.2 (ap (λ v. v.has_failed) values ∙ going) one.holds) in
            let by_values = subst (λ v. ItemsCalls old (record { command = took.0; is_done = true } ∷ (carried [] v items).accepted) new) one.values rest in
            subst (λ l. ItemsCalls old (l ++ (carried [] (carried_one Pass old.values item).values items).accepted) new) (sym took.2) by_values
      ]
