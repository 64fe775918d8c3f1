-- The step of a device at a call of others.
use Rattle.std.proofs.Common.{◌≡◌, ◌==◌, ◌&&◌, ◌||◌, inl, inr, ℕ, Bool, true, false, not, List, [], drop, take, Option, Some, None, refl, sym, ap, subst, ◌∙◌}
use Rattle.std.proofs.lemmas.Bool.{and_parts}
use Rattle.flash_model.specs.declared.flash.Flash.{Ghosts as Flash}
use Rattle.rpc_core.specs.Cache.{Kept, kept_more}
use Rattle.relations.specs.RelationState.{RelationState}
use Rattle.device_frames.specs.declared.event.Event.TheVariants.{Frame}
use Rattle.device_frames.specs.declared.note.Note.{Note}
use Rattle.settings_journal.specs.settings_store.Carries.{OneByOne}
use Rattle.settings_journal.specs.settings_store.Machine.{Outcome}
use Rattle.asked_records.specs.Asked.{AskedState}
use Rattle.asked_records.specs.declared.names.RecordName.{RecordName}
use Rattle.device_core.specs.State.{Live, Rest, State, Station, store_of}
use Rattle.device_core.specs.Handled.{Handled, Refuses, Sets, Writes, WritesEach, Moves, handled}
use Rattle.device_core.specs.Machine.{handled_step, heard_step, items_in}
use Rattle.device_core.specs.Steps.{Steps}
use Rattle.octets_law.specs.Headline.{is_stored}
use Rattle.octets_law.specs.Octets.{activity_of, untagged}
use Rattle.strangers_law.specs.Calling.{AreOthers, IsAskedOwn, IsCallOf, IsCalled, IsLike, IsRecent, is_among, operation_in, with_asked, with_calls}
use Rattle.strangers_law.specs.Quiet.{belongs_in, heard_in, is_call}
use Rattle.strangers_law.specs.Strange.{same}
use Rattle.strangers_law.proofs.CallingHeard.{call_heard}
use Rattle.strangers_law.proofs.CallingStore.{Remains, other_stored}
use Rattle.strangers_law.proofs.Hearing.{strange_harmless}
use Rattle.strangers_law.proofs.CallingDevice.{IsForeign, IsStoredOrAsked, Leaves, left}

nothing_asked : (named : List RecordName) (others : List (List ℕ)) (live : Live) (what : Handled) → Leaves named others live what → items_in what ≡ []
nothing_asked named others live (Refuses note) leaves = refl
nothing_asked named others live (Sets asker request in_operation) leaves = absurd leaves
nothing_asked named others live (Writes caller address call header value) leaves = absurd leaves
nothing_asked named others live (WritesEach caller address call header judged) leaves = absurd leaves
nothing_asked named others live (Moves rest sent) leaves = refl

rest_stored : (others : List (List ℕ)) (outcomes : List Outcome) (station : Station) (live : Live) (what : Handled) → Leaves station.named others live what
    → IsStoredOrAsked station.named others live.rest (handled_step outcomes station live what).live.rest
unfolding handled_step
rest_stored others outcomes station live (Refuses note) leaves = inl (inl refl)
rest_stored others outcomes station live (Sets asker request in_operation) leaves = absurd leaves
rest_stored others outcomes station live (Writes caller address call header value) leaves = absurd leaves
rest_stored others outcomes station live (WritesEach caller address call header judged) leaves = absurd leaves
rest_stored others outcomes station live (Moves rest sent) leaves = leaves

-- A rest with these stored answers, of whose application this is asked.
abbrev with_both : Rest → List Kept → AskedState → Rest
with_both rest calls asked = record rest { calls = calls; asked = asked }

but_both : (old new : Rest) (calls : List Kept) (asked : AskedState) → new ≡ with_both old calls asked → new ≡ with_both old new.calls new.asked
but_both old new calls asked is =
    is ∙ ap (λ c. with_both old c asked) (sym (ap (λ (r : Rest). r.calls) is)) ∙ ap (with_both old new.calls) (sym (ap (λ (r : Rest). r.asked) is))

-- Nothing else changes.
but_stored : (named : List RecordName) (others : List (List ℕ)) (old new : Rest) → IsStoredOrAsked named others old new
    → new ≡ with_both old new.calls new.asked
but_stored named others old new (inl (inl is)) = but_both old new old.calls old.asked is
but_stored named others old new (inl (inr stored)) = but_both old new (kept_more 4 stored.0 old.calls) old.asked stored.2
but_stored named others old new (inr asked) = but_both old new old.calls asked.1 asked.2

-- At a station that names no records nothing more is asked.
unnamed_asked : (named : List RecordName) (others : List (List ℕ)) (old new : Rest) → IsStoredOrAsked named others old new → named ≡ [] → new.asked ≡ old.asked
unnamed_asked named others old new (inl (inl is)) none = ap (λ (r : Rest). r.asked) is
unnamed_asked named others old new (inl (inr stored)) none = ap (λ (r : Rest). r.asked) stored.2
unnamed_asked named others old new (inr asked) none = absurd (asked.0 none)

remains_stored : (named : List RecordName) (own : List ℕ) (others : List (List ℕ)) (old new : Rest) → AreOthers own others → IsRecent own others old.calls
    → IsStoredOrAsked named others old new → Remains own others old.calls new.calls
remains_stored named own others old new are recent (inl (inl is)) =
    subst (Remains own others old.calls) (sym (ap (λ (r : Rest). r.calls) is)) (record { kept = refl; recent = recent })
remains_stored named own others old new are recent (inl (inr stored)) =
    subst (Remains own others old.calls) (sym (ap (λ (r : Rest). r.calls) stored.2))
    (other_stored own others stored.0 old.calls are.few are.apart stored.1 recent)
remains_stored named own others old new are recent (inr asked) =
    subst (Remains own others old.calls) (sym (ap (λ (r : Rest). r.calls) asked.2)) (record { kept = refl; recent = recent })

same_state : {F : Type 0} (old new : State F) → new.flash ≡ old.flash → new.station ≡ old.station → new.live.values ≡ old.live.values
    → new.live.rest ≡ with_both old.live.rest new.live.rest.calls new.live.rest.asked → new ≡ with_asked new.live.rest.calls new.live.rest.asked old
same_state old new flash station values rest =
    ap (λ f. record { flash = f; station = new.station; live = new.live }) flash ∙ ap (λ s. record { flash = old.flash; station = s; live = new.live }) station
    ∙ ap (λ v. record { flash = old.flash; station = old.station; live = record { values = v; rest = new.live.rest } }) values
    ∙ ap (λ r. record { flash = old.flash; station = old.station; live = record { values = old.live.values; rest = r } }) rest

module _ {F : Type 0} {S : ℕ} (as_flash : Flash F S) (own : List ℕ) (others : List (List ℕ)) (old new : State F) (octets : List ℕ)
    (sent : List (List ℕ)) (said : Note) (is : IsCallOf others old octets)
    (steps : Steps as_flash old (heard_in old.station.identity octets) sent said new) where
  heard_left : Leaves old.station.named others old.live (handled old.station old.live (heard_in old.station.identity octets))
  heard_left =
      let frame : List ℕ = untagged octets in
      let to : Bool = same (take 6 frame) old.station.identity.mac.octets in
      let among : Bool = is_among (activity_of (drop 42 frame)) others || not (is_stored old.station.options (drop 42 frame)) in
      let third = and_parts (to && is_call frame && among) (not (operation_in (drop 42 frame) == 0)) is.call in
      let second = and_parts (to && is_call frame) among third.0 in
      let first = and_parts to (is_call frame) second.0 in
      left others old.station old.live frame second.1 (denied (operation_in (drop 42 frame) == 0) third.1) (heard_in old.station.identity octets)
      (call_heard old.station.identity octets first.1) (foreign old.live.rest.link is.strange)
    where
      denied : (b : Bool) → not b ≡ true → b ≡ false
      denied true e = absurd cc
      denied false e = refl

      foreign : (link : Option RelationState) → belongs_in old.station.identity.mac.octets link (untagged octets) ≡ false
          → IsForeign link (heard_in old.station.identity octets)
      foreign None other = tt
      foreign (Some link) other = strange_harmless old.station.identity link (Frame (record { items = octets })) other

  stored_now : IsStoredOrAsked old.station.named others old.live.rest new.live.rest
  unfolding heard_step
  stored_now = subst (λ (l : Live). IsStoredOrAsked old.station.named others old.live.rest l.rest) (sym steps.live)
      (rest_stored others steps.outcomes old.station old.live (handled old.station old.live (heard_in old.station.identity octets)) heard_left)

  store_same : store_of new ≡ store_of old
  store_same =
      let none : items_in (handled old.station old.live (heard_in old.station.identity octets)) ≡ [] =
      nothing_asked old.station.named others old.live (handled old.station old.live (heard_in old.station.identity octets)) heard_left in
      subst (λ items. OneByOne as_flash steps.outcomes (store_of old) items (store_of new)) none steps.placed

  pub new_is : new ≡ with_asked new.live.rest.calls new.live.rest.asked old
  new_is =
      same_state old new (ap (λ s. s.flash) store_same) steps.same (ap (λ s. s.values) store_same)
      (but_stored old.station.named others old.live.rest new.live.rest stored_now)

  pub unasked : old.station.named ≡ [] → new.live.rest.asked ≡ old.live.rest.asked
  unasked none = unnamed_asked old.station.named others old.live.rest new.live.rest stored_now none

  pub stays_like : AreOthers own others → new.live.rest.asked ≡ old.live.rest.asked → (alone : State F) → IsLike own others old alone
      → IsLike own others new alone
  stays_like are still alone like =
      let remains : Remains own others old.live.rest.calls new.live.rest.calls =
      remains_stored old.station.named own others old.live.rest new.live.rest are like.recent stored_now in
      record {
        is = like.is ∙ sym (ap (with_calls alone.live.rest.calls) (new_is ∙ ap (λ a. with_asked new.live.rest.calls a old) still));
        kept = like.kept ∙ sym remains.kept;
        recent = remains.recent;
        asked = subst (IsAskedOwn own) (sym still) like.asked;
      }

pub calls_leave : {F : Type 0} {S : ℕ} (as_flash : Flash F S) (own : List ℕ) (others : List (List ℕ)) (old new : State F) (octets : List ℕ)
    (sent : List (List ℕ)) (said : Note) → AreOthers own others → IsCallOf others old octets
    → Steps as_flash old (heard_in old.station.identity octets) sent said new → IsCalled own others old new
calls_leave as_flash own others old new octets sent said are is steps = record {
  is = new_is as_flash own others old new octets sent said is steps;
  unasked = unasked as_flash own others old new octets sent said is steps;
  like = λ same alone like. stays_like as_flash own others old new octets sent said is steps are same alone like;
}
