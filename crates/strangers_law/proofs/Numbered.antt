-- The number of a relation after any events, and the count of the relations.
use Rattle.std.proofs.Common.{◌≡◌, ◌+◌, ◌%◌, inl, inr, ℕ, suc, Bool, true, false, List, [], ◌∷◌, Option, Some, None}
use Rattle.std.proofs.Common.{refl, sym, ap, subst, ◌∙◌, if◌then◌else◌, arith}
use Rattle.std.proofs.Math.Nat.{mod-add-mod}
use Rattle.frame_codec.specs.FrameId.{is_cyclic}
use Rattle.relations.specs.Numbers.{made_after, number_of, output_id}
use Rattle.device_frames.specs.declared.event.Event.{Event as DeviceEvent}
use Rattle.device_core.specs.State.{Rest, Live, Station}
use Rattle.device_core.specs.Machine.{run_of, first_step, later_steps, step_of}
use Rattle.relations.specs.RelationState.{RelationState}
use Rattle.device_frames.specs.Heard.{heard_of}
use Rattle.settings_journal.specs.settings_store.Machine.{Outcome}
use Rattle.strangers_law.specs.Earlier.{AreNumbered, IsNumberedIn, StayNumbered, is_made, made_with}
use Rattle.strangers_law.proofs.Changes.{Stays}
use Rattle.strangers_law.proofs.Moving.{Moves, step_moves}

-- ---- any events

stays_numbered : (station : Station) (made later : ℕ) (link next : Option RelationState) → later ≡ made → Stays link next → IsNumberedIn station made link
    → IsNumberedIn station later next
stays_numbered station made later link None same stay numbered = tt
stays_numbered station made later None (Some next) same stay numbered = absurd stay
stays_numbered station made later (Some link) (Some next) same stay numbered = record {
  before = numbered.before;
  counted = same ∙ numbered.counted;
  endpoint = stay.endpoint ∙ numbered.endpoint;
  frame_id = ap (λ r. r.taken_id) stay.route ∙ numbered.frame_id
      ∙ ap (λ r. output_id (number_of station.options.numbers_from numbered.before) r.output) (sym stay.request);
  cyclic = ap (λ r. is_cyclic r.taken_id) stay.route ∙ numbered.cyclic;
}

moves_numbered : (station : Station) (was now : Rest) → Moves station was now → AreNumbered station was → AreNumbered station now
moves_numbered station was now (inl kept) numbered = stays_numbered station was.made now.made was.link now.link kept.0 kept.1 numbered
moves_numbered station was now (inr made) numbered = subst (IsNumberedIn station now.made) (sym made.1.is) (record {
  before = was.made;
  counted = made.0;
  endpoint = made.1.endpoint;
  frame_id = made.1.frame_id;
  cyclic = made.1.cyclic;
})

pub stay_numbered : StayNumbered
stay_numbered station live outcomes [] numbered = numbered
stay_numbered station live outcomes (event ∷ events) numbered =
    let next : Live = (step_of (first_step outcomes) station live event).live in
    stay_numbered station next (later_steps outcomes) events
    (moves_numbered station live.rest next.rest (step_moves station live (first_step outcomes) (heard_of station.identity event)) numbered)

-- ---- the count

none_made : (was now : Option RelationState) → Stays was now → is_made was now ≡ false
none_made None None stay = refl
none_made None (Some next) stay = absurd stay
none_made (Some link) now stay = refl

-- With a step the count is one more if a relation is made, modulo 14,336, and the same if not.
abbrev IsCounted : Rest → Rest → Type 0
IsCounted was now = now.made ≡ (if is_made was.link now.link then made_after was.made else was.made)

moves_counted : (station : Station) (was now : Rest) → Moves station was now → IsCounted was now
moves_counted station was now (inl kept) =
    subst (λ (b : Bool). now.made ≡ (if b then made_after was.made else was.made)) (sym (none_made was.link now.link kept.1)) kept.0
moves_counted station was now (inr made) =
    subst (λ (b : Bool). now.made ≡ (if b then made_after was.made else was.made)) (sym (fresh_made was.link now.link made.1.next made.1.none made.1.is)) made.0
  where
    fresh_made : (one other : Option RelationState) (next : RelationState) → one ≡ None → other ≡ Some next → is_made one other ≡ true
    fresh_made one other next none is = ap (λ l. is_made l other) none ∙ ap (λ l. is_made None l) is

one_counted : (made others later : ℕ) (b : Bool) → later % 14336 ≡ ((if b then made_after made else made) + others) % 14336
    → later % 14336 ≡ (made + (if b then suc others else others)) % 14336
one_counted made others later true is = is ∙ mod-add-mod (suc made) 14336 others ∙ ap (λ n. n % 14336) (more made others)
  where
    more : (n m : ℕ) → suc n + m ≡ n + suc m
    more n m = omega arith
one_counted made others later false is = is

-- After some events the count is more by as many relations as were made with them.
pub counted : (station : Station) (outcomes : List (List Outcome)) (events : List DeviceEvent) (live : Live)
    → (run_of outcomes station live events).live.rest.made % 14336 ≡ (live.rest.made + made_with outcomes station live events) % 14336
counted station outcomes [] live = ap (λ n. n % 14336) (sym (none_more live.rest.made))
  where
    none_more : (n : ℕ) → n + 0 ≡ n
    none_more n = omega arith
counted station outcomes (event ∷ events) live =
    let next : Live = (step_of (first_step outcomes) station live event).live in
    let others : ℕ = made_with (later_steps outcomes) station next events in
    let step : IsCounted live.rest next.rest =
    moves_counted station live.rest next.rest (step_moves station live (first_step outcomes) (heard_of station.identity event)) in
    one_counted live.rest.made others (run_of (later_steps outcomes) station next events).live.rest.made (is_made live.rest.link next.rest.link)
    (counted station (later_steps outcomes) events next ∙ ap (λ n. (n + others) % 14336) step)
