-- Facts about two stretches, one after the other.
use Rattle.std.proofs.Common.{◌≡◌, ◌+◌, ℕ, Bool, true, false, List, [], ◌∷◌, ◌++◌, length, length-append, refl, sym, ap, subst, ◌∙◌, inl, inr, append_assoc, arith}
use Rattle.std.proofs.lemmas.List.{append-nil}
use Rattle.pn_values.specs.declared.settings.Settings.{Settings}
use Rattle.pn_values.specs.declared.set_item.SetItem.{SetItem}
use Rattle.pn_values.specs.declared.set_item.BlockError.{BlockError}
use Rattle.flash_model.specs.Image.{Image}
use Rattle.flash_model.specs.declared.flash.Flash.{Ghosts as Flash}
use Rattle.flash_model.specs.Torn.{HasRisen}
use Rattle.settings_journal.specs.Image.{LeftByDevice}
use Rattle.settings_journal.specs.settings_store.State.{State, Values}
use Rattle.settings_journal.specs.settings_store.Machine.{Accepted, followed_by, carried}
use Rattle.settings_journal.specs.settings_store.Legal.{made_of, LegalEnd, CrashSafe}
use Rattle.settings_journal.specs.settings_store.Carries.{IsCaused, Stretch, Continues, Carries}
use Rattle.settings_journal.proofs.SettingsStorePlaced.{placed_then, both_empty}
use Rattle.settings_journal.proofs.SettingsStoreMachine.{made_append, joined, joined_inactive, joined_then}
use Rattle.settings_journal.proofs.SettingsStoreFaults.{goes_as}

-- a legal end of the later commands is a legal end of all
legal_after : (image : Image) (front back : List Accepted) (first : Settings) → LegalEnd image back (made_of front first) → LegalEnd image (front ++ back) first
legal_after image front back first (inl boots) = inl (rw (made_append front back first) boots)
legal_after image front back first (inr less) = inr (record {
  front = front ++ less.front;
  last = less.last;
  parts = ap (λ l. front ++ l) less.parts ∙ sym (append_assoc front less.front (less.last ∷ []));
  not_done = less.not_done;
  boots = rw (made_append front less.front first) less.boots;
})

legal_then : (between : Bool) (first middle : Settings) (front back : List Accepted) (mid new : Image)
    → (between ≡ true → back ≡ []) → (between ≡ false → middle ≡ made_of front first)
    → LeftByDevice mid → LegalEnd mid front first → CrashSafe between middle back mid new → LegalEnd new (front ++ back) first
legal_then true first middle front back mid new none made left legal two =
    let all : front ++ back ≡ front = ap (λ l. front ++ l) (none refl) ∙ append-nil front in
    rw (two.untouched refl, all) legal
legal_then false first middle front back mid new none made left legal two =
    legal_after new front back first (subst (LegalEnd new back) (made refl) (two.legal refl left))

-- the crash clauses of two stretches give that of both together
safe_then : (before between : Bool) (first middle : Settings) (front back : List Accepted) (old mid new : Image)
    → (before ≡ true → between ≡ true) → (between ≡ true → back ≡ []) → (between ≡ false → middle ≡ made_of front first)
    → CrashSafe before first front old mid → CrashSafe between middle back mid new → CrashSafe before first (front ++ back) old new
safe_then before between first middle front back old mid new stays none made one two = record {
  left = λ left. two.left (one.left left);
  legal = λ fine left. legal_then between first middle front back mid new none made (one.left left) (one.legal fine left) two;
  untouched = λ failed. two.untouched (stays failed) ∙ one.untouched failed;
}

fault_inactive : (a b c : ℕ) → HasRisen a b → c ≡ b → HasRisen a c
fault_inactive a b c one same = rw same one

-- in two stretches no call failed, or one failed with its commit
caused_then : (before mid now : ℕ) (old between new : Values) → IsCaused before mid old between → IsCaused mid now between new → IsCaused before now old new
caused_then before mid now old between new (inl one) (inl two) = inl (two.0 ∙ one.0, two.1 ∙ one.1)
caused_then before mid now old between new (inl one) (inr two) = inr (subst (λ n. HasRisen n now) one.0 two.0, sym one.1 ∙ two.1, two.2)
caused_then before mid now old between new (inr one) (inl two) = inr (fault_inactive before mid now one.0 two.0, one.1, two.1 ∙ one.2)
caused_then before mid now old between new (inr one) (inr two) = cc

still_fine : (before now : Bool) → (before ≡ true → now ≡ true) → now ≡ false → before ≡ false
still_fine true now stays fine = let failed : now ≡ true = stays refl in cc
still_fine false now stays fine = refl

room_then : (before between now : ℕ) (front back : List Accepted) → between + length front ≡ before → now + length back ≡ between → now + length (front ++ back) ≡ before
room_then before between now front back one two = let e = length-append front back in omega (arith, one, two, e)

-- two stretches, one after the other, are one stretch
stretch_then : {F : Type 0} {S : ℕ} (as_flash : Flash F S) (first mid new : State F) (front back : List Accepted)
    → Stretch as_flash first front mid → Stretch as_flash mid back new → Stretch as_flash first (front ++ back) new
stretch_then as_flash first mid new front back one two =
    let still : new.values.has_failed ≡ false → mid.values.has_failed ≡ false = λ fine. still_fine _ _ (λ failed. (two.stays_failed failed).0) fine in
    record {
      caused = caused_then _ _ _ first.values mid.values new.values one.caused two.caused;
      safe = safe_then first.values.has_failed mid.values.has_failed first.values.stored mid.values.stored front back (as_flash.image first.flash) (as_flash.image mid.flash) (as_flash.image new.flash)
          (λ failed. (one.stays_failed failed).0) (λ failed. (two.stays_failed failed).1) one.made one.safe two.safe;
      holds = two.holds;
      untouched = λ none. let neither = both_empty front back none in two.untouched neither.1 ∙ one.untouched neither.0;
      stays_failed = λ failed.
          let so = one.stays_failed failed in
          let on = two.stays_failed so.0 in
          (on.0, ap (λ f. f ++ back) so.1 ∙ on.1);
      made = λ fine. two.made fine ∙ ap (made_of back) (one.made (still fine)) ∙ sym (made_append front back first.values.stored);
      room = λ fine. room_then _ _ _ front back (one.room (still fine)) (two.room fine);
      stays_lost = λ lost. two.stays_lost (one.stays_lost lost);
    }

-- so a stretch continues any other
pub stretch_continues : {F : Type 0} {S : ℕ} (as_flash : Flash F S) (old new : State F) (accepted : List Accepted)
    → Stretch as_flash old accepted new → Continues as_flash old accepted new
stretch_continues as_flash old new accepted stretch first front so_far = stretch_then as_flash first old new front accepted so_far stretch

-- if no commit failed in both parts together, none failed in either
none_in_both : (a b c : Bool) → (a ≡ true → b ≡ true) → (b ≡ true → c ≡ true) → c ≡ a → (b ≡ a) × (c ≡ b)
none_in_both true b c one two same = (one refl, same ∙ sym (one refl))
none_in_both false true c one two same = let failed : c ≡ true = two refl in cc
none_in_both false false c one two same = (refl, same)

-- carrying out some items, and then more, carries out all of them
pub carries_then : {F : Type 0} {S : ℕ} (as_flash : Flash F S) (old mid new : State F) (items more : List SetItem) (front back : List BlockError)
    → Carries as_flash old items front mid → Carries as_flash mid more back new → Carries as_flash old (items ++ more) (front ++ back) new
carries_then as_flash old mid new items more front back one two =
    let all_outcomes = joined one.outcomes two.outcomes items in
    let all : carried all_outcomes old.values (items ++ more)
    ≡ followed_by (carried one.outcomes old.values items) (carried two.outcomes mid.values more) =
    joined_then one.outcomes two.outcomes old.values items more ∙ ap (λ v. followed_by (carried one.outcomes old.values items) (carried two.outcomes v more)) (sym one.values) in
    let answers : (carried all_outcomes old.values (items ++ more)).answers
    ≡ (carried one.outcomes old.values items).answers ++ (carried two.outcomes mid.values more).answers = ap (λ r. r.answers) all in
    let values : new.values ≡ (carried all_outcomes old.values (items ++ more)).values = two.values ∙ sym (ap (λ r. r.values) all) in
    let answers_are : front ++ back ≡ (carried all_outcomes old.values (items ++ more)).answers =
    ap (λ f. f ++ back) one.answers_are ∙ ap (λ b. (carried one.outcomes old.values items).answers ++ b) two.answers_are ∙ sym answers in
    let stretch : Stretch as_flash old (carried all_outcomes old.values (items ++ more)).accepted new =
    subst (λ l. Stretch as_flash old l new) (sym (ap (λ r. r.accepted) all)) (stretch_then as_flash old mid new _ _ one.stretch two.stretch) in
    record {
      outcomes = all_outcomes;
      values = values;
      answers_are = answers_are;
      inactive = λ same.
          let neither = none_in_both _ _ _ (λ failed. (one.stretch.stays_failed failed).0) (λ failed. (two.stretch.stays_failed failed).0) same in
          joined_inactive one.outcomes two.outcomes items (one.inactive neither.0) (two.inactive neither.1);
      placed = placed_then as_flash one.outcomes two.outcomes old mid new items more one.placed two.placed;
      stretch = stretch;
      continues = stretch_continues as_flash old new _ stretch;
      goes_on = goes_as all_outcomes old.values new.values (items ++ more) (front ++ back) values answers_are;
    }
