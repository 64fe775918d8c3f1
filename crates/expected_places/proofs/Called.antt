-- Each call is for a place of its own, whose parameters have ended: what keeps this, and that a further one has room.
use Rattle.std.proofs.Common.{◌≡◌, ◌==◌, ◌&&◌, ◌||◌, ◌++◌, ◌+◌, ◌<◌, ◌≤◌, ℕ, Bool, true, false, not, cond, List, [], ◌∷◌, map, length}
use Rattle.std.proofs.Common.{Option, Some, None, refl, sym, ap, subst, ◌∙◌, inl, inr, arith, IfSome, if◌then◌else◌, is_some, option_map, unwrap_or}
use Rattle.std.specs.List.{AllByRecursion, IsDistinct, list_any}
use Rattle.std.specs.Cmp.{IsEquivalence}
use Rattle.std.specs.Set.{is_member}
use Rattle.std.proofs.lemmas.Bool.{and_from, and_left, and_parts, and_right, cases_Bool, eq-eqb, eqb-true, ne_eqb, not_from_false, not_from_true}
use Rattle.std.proofs.lemmas.Bool.{or_cases, or_from, or_left, or_parts, or_right, true_from_ne_false, true≢false}
use Rattle.std.proofs.lemmas.List.{length-append, length-map, map-append}
use Rattle.std.proofs.lemmas.Map.Keys.{IsDistinct-cons}
use Rattle.std.proofs.lemmas.Map.Made.{length-le_from_is_member}
use Rattle.std.proofs.lemmas.Map.Steps.{list_any_congr}
use Rattle.arrayvec.specs.ArrayVec.{ArrayVec, with_items}
use Rattle.arrayvec.proofs.ArrayVecLemmas.{items-with_items}
use Rattle.module_diff.specs.declared.changes.Affected.{Affected}
use Rattle.module_diff.specs.Changes.{covers}
use Rattle.expected_places.specs.declared.calls.PlugCall.{PlugCall}
use Rattle.expected_places.specs.declared.calls.WaitingCall.{WaitingCall}
use Rattle.expected_places.specs.declared.place.ExpectedPlace.{ExpectedPlace}
use Rattle.expected_places.specs.declared.place.Step.{Step}
use Rattle.expected_places.specs.declared.place.Step.TheVariants.{Settled, Pulled, Plugged, Told, Ended, Refused}
use Rattle.wire.specs.blocks.modules.Lists.{Listed}
use Rattle.connect_blocks.specs.declared.module_diff.DiffModule.{DiffModule}
use Rattle.connect_blocks.specs.declared.module_diff.DiffSubmodule.{DiffSubmodule}
use Rattle.expected_places.specs.Called.{HaveOwn, IsEndedAt, called_keys, ends_with, is_ended_with, is_same, is_unended, standing_keys, waiting_key}
use Rattle.expected_places.specs.Calls.{PlugQueue, dropped, first_ready, is_affected, is_unready, kept_call, kept_calls, pushed}
use Rattle.expected_places.specs.Calls.{readied_call, sent_beside, sent_next, sent_with}
use Rattle.expected_places.specs.Places.{first_told, is_for, is_plugged, is_plugged_step, is_told_with, place_at, places_restated}
use Rattle.expected_places.specs.Places.{stepped, touched_place, touched_places}

-- ---- slots and subslots

same_parts : (one other : ℕ × ℕ × ℕ) → is_same one other ≡ true → (one.0 ≡ other.0) × (one.1 ≡ other.1)
same_parts one other same =
    let both = and_parts (one.0 == other.0) (one.1 == other.1) same in
    (eqb-true one.0 other.0 both.0, eqb-true one.1 other.1 both.1)

same_from : (one other : ℕ × ℕ × ℕ) → one.0 ≡ other.0 → one.1 ≡ other.1 → is_same one other ≡ true
same_from one other slots subslots =
    and_from (one.0 == other.0) (one.1 == other.1) (eq-eqb one.0 other.0 slots) (eq-eqb one.1 other.1 subslots)

eqb_flips : (a b : ℕ) → (a == b) ≡ (b == a)
eqb_flips a b =
    elim (cases_Bool (a == b)) [
      | inl t ↦ t ∙ sym (eq-eqb b a (sym (eqb-true a b t)))
      | inr f ↦ f ∙ sym (ne_eqb b a (λ e. true≢false (sym (eq-eqb a b (sym e)) ∙ f)))
    ]

same_flips : (one other : ℕ × ℕ × ℕ) → is_same one other ≡ is_same other one
same_flips one other =
    ap (λ (b : Bool). b && one.1 == other.1) (eqb_flips one.0 other.0) ∙ ap (λ (b : Bool). other.0 == one.0 && b) (eqb_flips one.1 other.1)

same_laws : IsEquivalence is_same
same_laws = record {
  refl = λ one. same_from one one refl refl;
  symm = same_flips;
  congr = λ one other third same.
      let is = same_parts one other same in
      ap (λ (n : ℕ). n == third.0 && one.1 == third.1) is.0 ∙ ap (λ (n : ℕ). other.0 == third.0 && n == third.1) is.1;
}

-- The slot and subslot of a place.
abbrev place_key : ExpectedPlace → ℕ × ℕ × ℕ
place_key place = (place.slot, place.subslot, 0)

key_is : (key : ℕ × ℕ × ℕ) (place : ExpectedPlace) → is_for key.0 key.1 place ≡ is_same key (place_key place)
key_is key place = same_flips (place_key place) key

-- ---- no more calls than places

distinct_keys : (places : List ExpectedPlace) (keys : List (ℕ × ℕ × ℕ)) → HaveOwn places keys → IsDistinct is_same keys
unfolding IsDistinct
distinct_keys places [] own = tt
distinct_keys places (key ∷ keys) own = IsDistinct-cons is_same key keys own.1 (distinct_keys places keys own.2)

place_there : (key : ℕ × ℕ × ℕ) (places : List ExpectedPlace) → list_any (is_for key.0 key.1) places ≡ is_member is_same (map place_key places) key
place_there key [] = refl
place_there key (place ∷ places) =
    ap (λ (b : Bool). b || list_any (is_for key.0 key.1) places) (key_is key place)
    ∙ ap (λ (b : Bool). is_same key (place_key place) || b) (place_there key places)

key_there : (places : List ExpectedPlace) (keys : List (ℕ × ℕ × ℕ)) → HaveOwn places keys → (q : ℕ × ℕ × ℕ) → is_member is_same keys q ≡ true
    → is_member is_same (map place_key places) q ≡ true
key_there places [] own q member = absurd (true≢false (sym member))
key_there places (key ∷ keys) own q member =
    elim (or_cases (is_same q key) (is_member is_same keys q) member) [
      | inl t ↦ list_any_congr same_laws q key (map place_key places) t ∙ (sym (place_there key places) ∙ own.0.0)
      | inr t ↦ key_there places keys own.2 q t
    ]

pub no_more : (places : List ExpectedPlace) (keys : List (ℕ × ℕ × ℕ)) → HaveOwn places keys → length keys ≤ length places
no_more places keys own =
    subst (λ (n : ℕ). length keys ≤ n) (length-map places place_key)
    (length-le_from_is_member same_laws keys (map place_key places) (distinct_keys places keys own) (key_there places keys own))

-- ---- places that change

-- A place that is this far, if this is true.
abbrev pub stepped_if : Bool → Step → ExpectedPlace → ExpectedPlace
stepped_if b step place = if b then record place { step = step } else place

pub for_stepped : (slot subslot : ℕ) (b : Bool) (step : Step) (place : ExpectedPlace)
    → is_for slot subslot (stepped_if b step place) ≡ is_for slot subslot place
for_stepped slot subslot true step place = refl
for_stepped slot subslot false step place = refl

any_for : (slot subslot : ℕ) (affected : Affected) (step : Step) (places : List ExpectedPlace)
    → list_any (is_for slot subslot) (touched_places affected step places) ≡ list_any (is_for slot subslot) places
any_for slot subslot affected step [] = refl
any_for slot subslot affected step (place ∷ places) =
    ap (λ (b : Bool). b || list_any (is_for slot subslot) (touched_places affected step places))
    (for_stepped slot subslot (covers affected place.slot place.subslot) step place)
    ∙ ap (λ (b : Bool). is_for slot subslot place || b) (any_for slot subslot affected step places)

module _ (slot subslot number : ℕ) (affected : Affected) (step : Step) where
  -- What is not affected stays as it is.
  unended_beside : covers affected slot subslot ≡ false → (place : ExpectedPlace) → is_unended slot subslot number place ≡ false
      → is_unended slot subslot number (touched_place affected step place) ≡ false
  unended_beside beside place none =
      elim (cases_Bool (is_for slot subslot place)) [
        | inl t ↦
            let both = and_parts (place.slot == slot) (place.subslot == subslot) t in
            let at : covers affected place.slot place.subslot ≡ false =
            ap (λ (n : ℕ). covers affected n place.subslot) (eqb-true place.slot slot both.0)
            ∙ (ap (λ (n : ℕ). covers affected slot n) (eqb-true place.subslot subslot both.1) ∙ beside) in
            ap (λ (b : Bool). is_unended slot subslot number (stepped_if b step place)) at ∙ none
        | inr t ↦
            and_left (is_for slot subslot (touched_place affected step place)) (not (is_ended_with number (touched_place affected step place).step))
            (for_stepped slot subslot (covers affected place.slot place.subslot) step place ∙ t)
      ]

  none_beside : covers affected slot subslot ≡ false → (places : List ExpectedPlace) → list_any (is_unended slot subslot number) places ≡ false
      → list_any (is_unended slot subslot number) (touched_places affected step places) ≡ false
  none_beside beside [] none = refl
  none_beside beside (place ∷ places) none =
      let both = or_parts (is_unended slot subslot number place) (list_any (is_unended slot subslot number) places) none in
      or_from (is_unended slot subslot number (touched_place affected step place))
      (list_any (is_unended slot subslot number) (touched_places affected step places))
      (unended_beside beside place both.0) (none_beside beside places both.1)

  ended_beside : covers affected slot subslot ≡ false → (places : List ExpectedPlace) → IsEndedAt places (slot, subslot, number)
      → IsEndedAt (touched_places affected step places) (slot, subslot, number)
  ended_beside beside places ended = (any_for slot subslot affected step places ∙ ended.0, none_beside beside places ended.1)

-- None of these is affected.
abbrev pub AreBeside : Affected → List (ℕ × ℕ × ℕ) → Type 0
AreBeside affected keys = AllByRecursion (λ key. covers affected key.0 key.1 ≡ false) keys

pub own_beside : (affected : Affected) (step : Step) (places : List ExpectedPlace) (keys : List (ℕ × ℕ × ℕ)) → HaveOwn places keys → AreBeside affected keys
    → HaveOwn (touched_places affected step places) keys
own_beside affected step places [] own beside = tt
own_beside affected step places (key ∷ keys) own beside =
    (ended_beside key.0 key.1 key.2 affected step beside.0 places own.0, own.1, own_beside affected step places keys own.2 beside.1)

-- ---- a place whose parameters end

-- The place in a slot and subslot.
abbrev pub there : ℕ → ℕ → Affected
there slot subslot = record { slot = slot; subslot = Some subslot }

module _ (slot subslot number : ℕ) where
  ended_there : (place : ExpectedPlace) → is_unended slot subslot number (touched_place (there slot subslot) (Ended number) place) ≡ false
  ended_there place =
      elim (cases_Bool (covers (there slot subslot) place.slot place.subslot)) [
        | inl t ↦ ap (λ (b : Bool). is_unended slot subslot number (stepped_if b (Ended number) place)) t
            ∙ and_right (is_for slot subslot place) (not (number == number)) (not_from_true (number == number) (eq-eqb number number refl))
        | inr f ↦
            ap (λ (b : Bool). is_unended slot subslot number (stepped_if b (Ended number) place)) f
            ∙ and_left (is_for slot subslot place) (not (is_ended_with number place.step)) (key_is (slot, subslot, 0) place ∙ f)
      ]

  none_there : (places : List ExpectedPlace) → list_any (is_unended slot subslot number) (touched_places (there slot subslot) (Ended number) places) ≡ false
  none_there [] = refl
  none_there (place ∷ places) =
      or_from (is_unended slot subslot number (touched_place (there slot subslot) (Ended number) place))
      (list_any (is_unended slot subslot number) (touched_places (there slot subslot) (Ended number) places)) (ended_there place) (none_there places)

-- ---- a place that is not ended has no call

unended_apart : (places : List ExpectedPlace) (slot subslot : ℕ) → ((number : ℕ) → list_any (is_unended slot subslot number) places ≡ true)
    → (keys : List (ℕ × ℕ × ℕ)) → HaveOwn places keys → AreBeside (there slot subslot) keys
unended_apart places slot subslot some [] own = tt
unended_apart places slot subslot some (key ∷ keys) own =
    let one : is_same (slot, subslot, 0) key ≡ false =
    elim (cases_Bool (is_same (slot, subslot, 0) key)) [
      | inl t ↦
          let is = same_parts (slot, subslot, 0) key t in
          absurd (true≢false (sym (some key.2)
          ∙ (ap (λ (n : ℕ). list_any (is_unended n subslot key.2) places) is.0
          ∙ (ap (λ (n : ℕ). list_any (is_unended key.0 n key.2) places) is.1 ∙ own.0.1))))
      | inr f ↦ f
    ] in
    (one, unended_apart places slot subslot some keys own.2)

-- ---- places that are changed one by one in their list

pub mapped_items : (f : ExpectedPlace → ExpectedPlace) (places : ArrayVec ExpectedPlace) (changed : List ExpectedPlace) → changed ≡ map f places.items
    → (with_items places changed).items ≡ map f places.items
mapped_items f places changed is = items-with_items places changed (ap (λ (xs : List ExpectedPlace). length xs) is ∙ length-map places.items f) ∙ is

pub inside : (f : ExpectedPlace → ExpectedPlace) (places : ArrayVec ExpectedPlace) (changed : List ExpectedPlace) (keys : List (ℕ × ℕ × ℕ))
    → changed ≡ map f places.items → HaveOwn (map f places.items) keys → HaveOwn (with_items places changed).items keys
inside f places changed keys is own = subst (λ (xs : List ExpectedPlace). HaveOwn xs keys) (sym (mapped_items f places changed is)) own

-- ---- calls that are dropped

-- Calls before which this one is, unless this is true.
abbrev kept_if : Bool → WaitingCall → List WaitingCall → List WaitingCall
kept_if b call calls = cond (not b) (call ∷ calls) calls

abbrev AreApart : ℕ × ℕ × ℕ → List (ℕ × ℕ × ℕ) → Type 0
AreApart key keys = AllByRecursion (λ other. is_same key other ≡ false) keys

beside_if : (affected : Affected) (b : Bool) (call : WaitingCall) (calls : List WaitingCall) → is_affected affected call ≡ b
    → AreBeside affected (map waiting_key calls) → AreBeside affected (map waiting_key (kept_if b call calls))
beside_if affected true call calls is rest = rest
beside_if affected false call calls is rest = (is, rest)

kept_beside : (affected : Affected) (calls : List WaitingCall) → AreBeside affected (map waiting_key (kept_calls affected calls))
kept_beside affected [] = tt
kept_beside affected (call ∷ calls) =
    beside_if affected (is_affected affected call) call (kept_calls affected calls) refl (kept_beside affected calls)

apart_if : (key : ℕ × ℕ × ℕ) (b : Bool) (call : WaitingCall) (calls : List WaitingCall) → is_same key (waiting_key call) ≡ false
    → AreApart key (map waiting_key calls) → AreApart key (map waiting_key (kept_if b call calls))
apart_if key true call calls is rest = rest
apart_if key false call calls is rest = (is, rest)

apart_kept : (key : ℕ × ℕ × ℕ) (affected : Affected) (calls : List WaitingCall) → AreApart key (map waiting_key calls)
    → AreApart key (map waiting_key (kept_calls affected calls))
apart_kept key affected [] apart = tt
apart_kept key affected (call ∷ calls) apart =
    apart_if key (is_affected affected call) call (kept_calls affected calls) apart.0 (apart_kept key affected calls apart.1)

own_if : (places : List ExpectedPlace) (b : Bool) (call : WaitingCall) (calls : List WaitingCall) → IsEndedAt places (waiting_key call)
    → AreApart (waiting_key call) (map waiting_key calls) → HaveOwn places (map waiting_key calls) → HaveOwn places (map waiting_key (kept_if b call calls))
own_if places true call calls ended apart rest = rest
own_if places false call calls ended apart rest = (ended, apart, rest)

own_kept : (places : List ExpectedPlace) (affected : Affected) (calls : List WaitingCall) → HaveOwn places (map waiting_key calls)
    → HaveOwn places (map waiting_key (kept_calls affected calls))
own_kept places affected [] own = tt
own_kept places affected (call ∷ calls) own =
    own_if places (is_affected affected call) call (kept_calls affected calls) own.0 (apart_kept (waiting_key call) affected calls own.1)
    (own_kept places affected calls own.2)

-- The active call, unless this is true.
abbrev standing_if : Bool → PlugCall → Option PlugCall
standing_if b call = if b then None else Some call

own_standing : (places : List ExpectedPlace) (b : Bool) (call : PlugCall) (keys : List (ℕ × ℕ × ℕ)) → IsEndedAt places (call.slot, call.subslot, call.number)
    → AreApart (call.slot, call.subslot, call.number) keys → HaveOwn places keys → HaveOwn places (standing_keys (standing_if b call) ++ keys)
own_standing places true call keys ended apart rest = rest
own_standing places false call keys ended apart rest = (ended, apart, rest)

beside_standing : (affected : Affected) (b : Bool) (call : PlugCall) (keys : List (ℕ × ℕ × ℕ)) → covers affected call.slot call.subslot ≡ b
    → AreBeside affected keys → AreBeside affected (standing_keys (standing_if b call) ++ keys)
beside_standing affected true call keys is rest = rest
beside_standing affected false call keys is rest = (is, rest)

own_dropped : (places : List ExpectedPlace) (affected : Affected) (standing : Option PlugCall) (calls : List WaitingCall)
    → HaveOwn places (standing_keys standing ++ map waiting_key calls)
    → HaveOwn places (standing_keys (kept_call affected standing) ++ map waiting_key (kept_calls affected calls))
own_dropped places affected None calls own = own_kept places affected calls own
own_dropped places affected (Some call) calls own =
    own_standing places (covers affected call.slot call.subslot) call (map waiting_key (kept_calls affected calls)) own.0
    (apart_kept (call.slot, call.subslot, call.number) affected calls own.1) (own_kept places affected calls own.2)

beside_dropped : (affected : Affected) (standing : Option PlugCall) (calls : List WaitingCall)
    → AreBeside affected (standing_keys (kept_call affected standing) ++ map waiting_key (kept_calls affected calls))
beside_dropped affected None calls = kept_beside affected calls
beside_dropped affected (Some call) calls =
    beside_standing affected (covers affected call.slot call.subslot) call (map waiting_key (kept_calls affected calls)) refl (kept_beside affected calls)

-- Something was pulled or plugged.
pub own_touched : (affected : Affected) (step : Step) (places : List ExpectedPlace) (queue : PlugQueue) → HaveOwn places (called_keys queue)
    → HaveOwn (touched_places affected step places) (called_keys (dropped affected queue))
own_touched affected step places queue own =
    own_beside affected step places (called_keys (dropped affected queue)) (own_dropped places affected queue.standing queue.waiting own)
    (beside_dropped affected queue.standing queue.waiting)

-- ---- the next call is sent

ready_ended : (places : List ExpectedPlace) (calls : List WaitingCall) (call : WaitingCall) → HaveOwn places (map waiting_key calls)
    → first_ready calls ≡ Some call → IsEndedAt places (waiting_key call)
ready_ended places [] call own found = absurd (true≢false (sym (ap (λ (o : Option WaitingCall). is_some o) found)))
ready_ended places (first ∷ calls) call own found =
    elim (cases_Bool first.is_ready) [
      | inl t ↦
          let is : first ≡ call =
          ap (λ (o : Option WaitingCall). unwrap_or o first)
          (sym (ap (λ (b : Bool). let o : Option WaitingCall = cond b (Some first) (first_ready calls) in o) t) ∙ found) in
          subst (λ (one : WaitingCall). IsEndedAt places (waiting_key one)) is own.0
      | inr f ↦
          ready_ended places calls call own.2
          (sym (ap (λ (b : Bool). let o : Option WaitingCall = cond b (Some first) (first_ready calls) in o) f) ∙ found)
    ]

sent_own : (places : List ExpectedPlace) (queue : PlugQueue) (ready : Option WaitingCall) → first_ready queue.waiting ≡ ready
    → HaveOwn places (map waiting_key queue.waiting) → HaveOwn places (called_keys queue)
    → HaveOwn places (called_keys (unwrap_or (option_map (sent_with queue) ready) queue))
sent_own places queue None found waiting own = own
sent_own places queue (Some call) found waiting own = (
  ready_ended places queue.waiting call waiting found,
  kept_beside (there call.slot call.subslot) queue.waiting,
  own_kept places (there call.slot call.subslot) queue.waiting waiting,
)

next_own : (places : List ExpectedPlace) (queue : PlugQueue) (standing : Option PlugCall) → HaveOwn places (called_keys queue)
    → HaveOwn places (standing_keys standing ++ map waiting_key queue.waiting) → HaveOwn places (called_keys (unwrap_or (sent_beside queue standing) queue))
next_own places queue None own waiting = sent_own places queue (first_ready queue.waiting) refl waiting own
next_own places queue (Some call) own waiting = own

pub own_next : (places : List ExpectedPlace) (queue : PlugQueue) → HaveOwn places (called_keys queue)
    → HaveOwn places (called_keys (unwrap_or (sent_next queue) queue))
own_next places queue own = next_own places queue queue.standing own own

-- ---- the answer

own_answered_by : (places : List ExpectedPlace) (standing : Option PlugCall) (call : PlugCall) (keys : List (ℕ × ℕ × ℕ)) (step : Step) → standing ≡ Some call
    → HaveOwn places (standing_keys standing ++ keys) → HaveOwn (stepped call.slot call.subslot step places) keys
own_answered_by places standing call keys step is own =
    let both : HaveOwn places (standing_keys (Some call) ++ keys) = subst (λ (o : Option PlugCall). HaveOwn places (standing_keys o ++ keys)) is own in
    own_beside (there call.slot call.subslot) step places keys both.2 both.1

pub own_answered : (places : List ExpectedPlace) (queue : PlugQueue) (call : PlugCall) (step : Step) → queue.standing ≡ Some call
    → HaveOwn places (called_keys queue) → HaveOwn (stepped call.slot call.subslot step places) (map waiting_key queue.waiting)
own_answered places queue call step is own = own_answered_by places queue.standing call (map waiting_key queue.waiting) step is own

-- ---- the application is ready

readied_key : (slot subslot : ℕ) (b : Bool) (call : WaitingCall)
    → waiting_key (let one : WaitingCall = if b then record call { is_ready = true } else call in one) ≡ waiting_key call
readied_key slot subslot true call = refl
readied_key slot subslot false call = refl

readied_keys : (slot subslot : ℕ) (calls : List WaitingCall) → map waiting_key (map (readied_call slot subslot) calls) ≡ map waiting_key calls
readied_keys slot subslot [] = refl
readied_keys slot subslot (call ∷ calls) =
    ap (λ (key : ℕ × ℕ × ℕ). key ∷ map waiting_key (map (readied_call slot subslot) calls)) (readied_key slot subslot (is_unready slot subslot call) call)
    ∙ ap (λ (keys : List (ℕ × ℕ × ℕ)). waiting_key call ∷ keys) (readied_keys slot subslot calls)

pub own_readied : (slot subslot : ℕ) (places : List ExpectedPlace) (queue : PlugQueue) → HaveOwn places (called_keys queue)
    → HaveOwn places (standing_keys queue.standing ++ map waiting_key (map (readied_call slot subslot) queue.waiting))
own_readied slot subslot places queue own =
    subst (λ (keys : List (ℕ × ℕ × ℕ)). HaveOwn places (standing_keys queue.standing ++ keys)) (sym (readied_keys slot subslot queue.waiting)) own

-- ---- what differs

for_restated : (slot subslot : ℕ) (rows : Listed DiffModule DiffSubmodule) (places : List ExpectedPlace)
    → list_any (is_for slot subslot) (places_restated rows places) ≡ list_any (is_for slot subslot) places
for_restated slot subslot rows [] = refl
for_restated slot subslot rows (place ∷ places) = ap (λ (b : Bool). is_for slot subslot place || b) (for_restated slot subslot rows places)

unended_restated : (slot subslot number : ℕ) (rows : Listed DiffModule DiffSubmodule) (places : List ExpectedPlace)
    → list_any (is_unended slot subslot number) (places_restated rows places) ≡ list_any (is_unended slot subslot number) places
unended_restated slot subslot number rows [] = refl
unended_restated slot subslot number rows (place ∷ places) =
    ap (λ (b : Bool). is_unended slot subslot number place || b) (unended_restated slot subslot number rows places)

pub own_restated : (rows : Listed DiffModule DiffSubmodule) (places : List ExpectedPlace) (keys : List (ℕ × ℕ × ℕ)) → HaveOwn places keys
    → HaveOwn (places_restated rows places) keys
own_restated rows places [] own = tt
own_restated rows places (key ∷ keys) own =
    ((for_restated key.0 key.1 rows places ∙ own.0.0, unended_restated key.0 key.1 key.2 rows places ∙ own.0.1), own.1, own_restated rows places keys own.2)

-- ---- a plugged place

plugged_unended : (number : ℕ) (step : Step) → is_plugged_step step ≡ true → is_ended_with number step ≡ false
plugged_unended number Settled is = refl
plugged_unended number Pulled is = refl
plugged_unended number Plugged is = refl
plugged_unended number (Told other) is = refl
plugged_unended number (Ended other) is = absurd (true≢false (sym is))
plugged_unended number Refused is = refl

plugged_some : (slot subslot number : ℕ) (places : List ExpectedPlace) → is_plugged (place_at slot subslot places) ≡ true
    → list_any (is_unended slot subslot number) places ≡ true
plugged_some slot subslot number [] is = is
plugged_some slot subslot number (place ∷ places) is =
    elim (cases_Bool (is_for slot subslot place)) [
      | inl t ↦
          let step = sym (ap (λ (b : Bool). is_plugged (cond b (Some place) (place_at slot subslot places))) t) ∙ is in
          let one : is_unended slot subslot number place ≡ true =
          and_from (is_for slot subslot place) (not (is_ended_with number place.step)) t
          (not_from_false (is_ended_with number place.step) (plugged_unended number place.step step)) in
          or_left (is_unended slot subslot number place) (list_any (is_unended slot subslot number) places) one
      | inr f ↦
          or_right (is_unended slot subslot number place) (list_any (is_unended slot subslot number) places)
          (plugged_some slot subslot number places (sym (ap (λ (b : Bool). is_plugged (cond b (Some place) (place_at slot subslot places))) f) ∙ is))
    ]

-- Its alarm was sent.
pub own_told : (slot subslot number : ℕ) (places : List ExpectedPlace) (keys : List (ℕ × ℕ × ℕ)) → is_plugged (place_at slot subslot places) ≡ true
    → HaveOwn places keys → HaveOwn (stepped slot subslot (Told number) places) keys
own_told slot subslot number places keys is own =
    own_beside (there slot subslot) (Told number) places keys own
    (unended_apart places slot subslot (λ other. plugged_some slot subslot other places is) keys own)

-- ---- the parameters of a place end

told_unended : (number other : ℕ) (step : Step) → is_told_with number step ≡ true → is_ended_with other step ≡ false
told_unended number other Settled is = refl
told_unended number other Pulled is = refl
told_unended number other Plugged is = refl
told_unended number other (Told told) is = refl
told_unended number other (Ended ended) is = absurd (true≢false (sym is))
told_unended number other Refused is = refl

-- A place is there, and one whose parameters have not ended, with any number.
record IsToldIn (places : List ExpectedPlace) (place : ExpectedPlace) : Type 0 where
  some : list_any (is_for place.slot place.subslot) places ≡ true
  unended : (number : ℕ) → list_any (is_unended place.slot place.subslot number) places ≡ true

told_some : (number : ℕ) (places : List ExpectedPlace) (place : ExpectedPlace) → first_told number places ≡ Some place → IsToldIn places place
told_some number [] place found = absurd (true≢false (sym (ap (λ (o : Option ExpectedPlace). is_some o) found)))
told_some number (first ∷ places) place found =
    elim (cases_Bool (is_told_with number first.step)) [
      | inl t ↦
          let is : first ≡ place =
          ap (λ (o : Option ExpectedPlace). unwrap_or o first)
          (sym (ap (λ (b : Bool). let o : Option ExpectedPlace = cond b (Some first) (first_told number places) in o) t) ∙ found) in
          let at : is_for first.slot first.subslot first ≡ true = same_from (place_key first) (place_key first) refl refl in
          let one : (other : ℕ) → is_unended first.slot first.subslot other first ≡ true =
          λ other. and_from (is_for first.slot first.subslot first) (not (is_ended_with other first.step)) at
          (not_from_false (is_ended_with other first.step) (told_unended number other first.step t)) in
          let own : IsToldIn (first ∷ places) first = record {
            some = or_left (is_for first.slot first.subslot first) (list_any (is_for first.slot first.subslot) places) at;
            unended = λ other.
                or_left (is_unended first.slot first.subslot other first) (list_any (is_unended first.slot first.subslot other) places) (one other);
          } in
          subst (λ (p : ExpectedPlace). IsToldIn (first ∷ places) p) is own
      | inr f ↦
          let rest = told_some number places place
          (sym (ap (λ (b : Bool). let o : Option ExpectedPlace = cond b (Some first) (first_told number places) in o) f) ∙ found) in
          record {
            some = or_right (is_for place.slot place.subslot first) (list_any (is_for place.slot place.subslot) places) rest.some;
            unended = λ other.
                or_right (is_unended place.slot place.subslot other first) (list_any (is_unended place.slot place.subslot other) places) (rest.unended other);
          }
    ]

-- One more, after the others.
apart_more : (key other : ℕ × ℕ × ℕ) (keys : List (ℕ × ℕ × ℕ)) → AreApart key keys → is_same key other ≡ false → AreApart key (keys ++ other ∷ [])
apart_more key other [] apart is = (is, tt)
apart_more key other (first ∷ keys) apart is = (apart.0, apart_more key other keys apart.1 is)

own_more : (places : List ExpectedPlace) (key : ℕ × ℕ × ℕ) (keys : List (ℕ × ℕ × ℕ)) → HaveOwn places keys → IsEndedAt places key → AreApart key keys
    → HaveOwn places (keys ++ key ∷ [])
own_more places key [] own ended apart = (ended, tt, tt)
own_more places key (first ∷ keys) own ended apart =
    (own.0, apart_more first key keys own.1 (same_flips first key ∙ apart.0), own_more places key keys own.2 ended apart.1)

pushed_keys : (standing : Option PlugCall) (calls : List WaitingCall) (call : WaitingCall)
    → (standing_keys standing ++ map waiting_key calls) ++ waiting_key call ∷ [] ≡ standing_keys standing ++ map waiting_key (calls ++ call ∷ [])
pushed_keys None calls call = sym (map-append waiting_key calls (call ∷ []))
pushed_keys (Some one) calls call =
    ap (λ (keys : List (ℕ × ℕ × ℕ)). (one.slot, one.subslot, one.number) ∷ keys) (sym (map-append waiting_key calls (call ∷ [])))

-- The call of the place that is reported with this number.
abbrev pub call_of : ℕ → Bool → ExpectedPlace → WaitingCall
call_of number is_ready place = record { slot = place.slot; subslot = place.subslot; number = number; is_ready = is_ready }

pub own_ended : (number : ℕ) (is_ready : Bool) (place : ExpectedPlace) (places : List ExpectedPlace) (queue : PlugQueue)
    → first_told number places ≡ Some place → HaveOwn places (called_keys queue)
    → HaveOwn (stepped place.slot place.subslot (Ended number) places) (called_keys (pushed (call_of number is_ready place) queue))
own_ended number is_ready place places queue found own =
    let some = told_some number places place found in
    let now = stepped place.slot place.subslot (Ended number) places in
    let key : ℕ × ℕ × ℕ = (place.slot, place.subslot, number) in
    let apart : AreApart key (called_keys queue) = unended_apart places place.slot place.subslot some.unended (called_keys queue) own in
    let ended : IsEndedAt now key =
    (any_for place.slot place.subslot (there place.slot place.subslot) (Ended number) places ∙ some.some, none_there place.slot place.subslot number places) in
    let more : HaveOwn now (called_keys queue ++ key ∷ []) =
    own_more now key (called_keys queue) (own_beside (there place.slot place.subslot) (Ended number) places (called_keys queue) own apart) ended apart in
    subst (λ (keys : List (ℕ × ℕ × ℕ)). HaveOwn now keys) (pushed_keys queue.standing queue.waiting (call_of number is_ready place)) more

waiting_counted : (standing : Option PlugCall) (calls : List WaitingCall) → length calls ≤ length (standing_keys standing ++ map waiting_key calls)
waiting_counted None calls = let same = length-map calls waiting_key in omega (arith, same)
waiting_counted (Some call) calls = let same = length-map calls waiting_key in omega (arith, same)

-- There is room for its call.
pub room : (number : ℕ) (place : ExpectedPlace) (places : List ExpectedPlace) (queue : PlugQueue) → first_told number places ≡ Some place
    → length places ≤ 64 → HaveOwn places (called_keys queue) → length queue.waiting < 64
room number place places queue found few own =
    let call = call_of number true place in
    let now = stepped place.slot place.subslot (Ended number) places in
    let keys = called_keys (pushed call queue) in
    let most : length keys ≤ length now = no_more now keys (own_ended number true place places queue found own) in
    let counted : length (queue.waiting ++ call ∷ []) ≤ length keys = waiting_counted queue.standing (queue.waiting ++ call ∷ []) in
    let more : length (queue.waiting ++ call ∷ []) ≡ length queue.waiting + 1 = length-append queue.waiting (call ∷ []) in
    let same : length now ≡ length places = length-map places (touched_place (there place.slot place.subslot) (Ended number)) in
    omega (arith, most, counted, more, same, few)

-- ---- the active call

found_ended : (slot subslot number : ℕ) (places : List ExpectedPlace) → IsEndedAt places (slot, subslot, number)
    → ends_with number (place_at slot subslot places) ≡ true
found_ended slot subslot number [] ended = absurd (true≢false (sym ended.0))
found_ended slot subslot number (place ∷ places) ended =
    let both = or_parts (is_unended slot subslot number place) (list_any (is_unended slot subslot number) places) ended.1 in
    elim (cases_Bool (is_for slot subslot place)) [
      | inl t ↦
          let is : not (is_ended_with number place.step) ≡ false =
          sym (ap (λ (b : Bool). b && not (is_ended_with number place.step)) t) ∙ both.0 in
          ap (λ (b : Bool). ends_with number (cond b (Some place) (place_at slot subslot places))) t
          ∙ true_from_ne_false (is_ended_with number place.step) (λ f. true≢false (sym (not_from_false (is_ended_with number place.step) f) ∙ is))
      | inr f ↦
          ap (λ (b : Bool). ends_with number (cond b (Some place) (place_at slot subslot places))) f
          ∙ found_ended slot subslot number places (sym (ap (λ (b : Bool). b || list_any (is_for slot subslot) places) f) ∙ ended.0, both.1)
    ]

active_by : (places : List ExpectedPlace) (standing : Option PlugCall) (keys : List (ℕ × ℕ × ℕ)) → HaveOwn places (standing_keys standing ++ keys)
    → IfSome standing (λ call. ends_with call.number (place_at call.slot call.subslot places) ≡ true)
active_by places None keys own = tt
active_by places (Some call) keys own = found_ended call.slot call.subslot call.number places own.0

-- The parameters of its place have ended with its number.
pub active_ended : (places : List ExpectedPlace) (queue : PlugQueue) → HaveOwn places (called_keys queue)
    → IfSome queue.standing (λ call. ends_with call.number (place_at call.slot call.subslot places) ≡ true)
active_ended places queue own = active_by places queue.standing (map waiting_key queue.waiting) own
