-- The frames of the services, one after the other in one room.
use Rattle.std.proofs.Common.{◌≡◌, ◌+◌, ◌-◌, ◌<◌, ◌≤◌, ◌∷◌, ◌++◌, ℕ, Bool, true, false, zero, suc, List, [], None, Some, length, map, take, drop, get_or, refl, sym, ap, subst, ◌∙◌, arith, append-nil, drop_at}
use Rattle.std.proofs.lemmas.List.{length-append, take_at}
use Rattle.std.specs.Prelude.{◌≢◌, slice_get}
use Rattle.device_frames.specs.declared.event.Event.{Event}
use Rattle.device_station.specs.declared.device_services.Attended.{Attended}
use Rattle.device_station.specs.declared.device_services.Attended.TheVariants.{Noted, Joined}
use Rattle.device_station.specs.Views.{joined_in}
use Rattle.pn_values.specs.declared.identity.Identity.{Identity}
use Rattle.settings_journal.specs.settings_store.State.{Values}
use Rattle.device_station.specs.Leaps.{NoNewsBeside, NoneSendsBeside, beside_ticks}
use Rattle.device_station.specs.Serving.{Serving}
use Rattle.device_station.specs.port.Own.{AreFrames, kept_in}
use Rattle.device_station.specs.port.Pace.{TicksBeside}
use Rattle.device_station.specs.port.State.{State, barred, has_some}
use Rattle.device_station.proofs.PortStages.{is_free}

-- ---- a frame at a position

pub only_at : (index : ℕ) (one : List ℕ) → index < 1 → slice_get (one ∷ []) index ≡ Some one
only_at zero one few = refl
only_at (suc index) one few = absurd (omega (arith, few))

pub first_at : (index : ℕ) (one other : List ℕ) → index ≡ 0 → slice_get (one ∷ other ∷ []) index ≡ Some one
first_at zero one other is = refl
first_at (suc index) one other is = absurd (omega (arith, is))

pub second_at : (index : ℕ) (one other : List ℕ) → index ≢ 0 → index < 2 → slice_get (one ∷ other ∷ []) index ≡ Some other
second_at zero one other some few = absurd (some refl)
second_at (suc zero) one other some few = refl
second_at (suc (suc index)) one other some few = absurd (omega (arith, few))

-- ---- frames that are kept

pub kept_length : (count first : ℕ) (octets : List ℕ) → AreFrames count first octets → count ≡ length (kept_in count first octets)
kept_length zero first octets fit = refl
kept_length (suc zero) first octets fit = refl
kept_length (suc (suc zero)) first octets fit = refl
kept_length (suc (suc (suc more))) first octets fit = absurd fit

pub none_kept : (count first : ℕ) (octets : List ℕ) → count ≡ 0 → [] ≡ kept_in count first octets
none_kept zero first octets is = refl
none_kept (suc count) first octets is = absurd (omega (arith, is))

-- one frame, which is at this position
pub one_at : (count first index : ℕ) (octets : List ℕ) → count ≡ 1 → index < length (kept_in count first octets) → AreFrames count first octets
    → (slice_get (kept_in count first octets) index ≡ Some octets) × (length octets ≤ 1518)
one_at zero first index octets is there fit = absurd (omega (arith, is))
one_at (suc zero) first index octets is there fit = (only_at index octets there, fit)
one_at (suc (suc count)) first index octets is there fit = absurd (omega (arith, is))

-- two frames
pub two_at : (count first index : ℕ) (octets : List ℕ) → count ≢ 1 → index < length (kept_in count first octets) → AreFrames count first octets
    → (kept_in count first octets ≡ take first octets ∷ drop first octets ∷ []) × (index < 2)
    × ((first ≤ 1518) × (first ≤ length octets) × (length octets ≤ first + 1518))
two_at zero first index octets other there fit = absurd (omega (arith, there))
two_at (suc zero) first index octets other there fit = absurd (other refl)
two_at (suc (suc zero)) first index octets other there fit = (refl, there, fit)
two_at (suc (suc (suc more))) first index octets other there fit = absurd fit

pub one_is : (octets one none : List ℕ) → octets ≡ one ++ none → none ≡ [] → octets ≡ one
one_is octets one none is empty = is ∙ ap (λ (n : List ℕ). one ++ n) empty ∙ append-nil one

pub two_fit : (first : ℕ) (octets one two : List ℕ) → octets ≡ one ++ two → first ≡ length one → length one ≤ 1518 → length two ≤ 1518
    → (first ≤ 1518) × (first ≤ length octets) × (length octets ≤ first + 1518)
two_fit first octets one two is at short other =
    let long = ap length is ∙ length-append one two in
    (omega (arith, at, short), omega (arith, at, long), omega (arith, at, long, other))

pub two_are : (first : ℕ) (octets one two : List ℕ) → octets ≡ one ++ two → first ≡ length one → take first octets ∷ drop first octets ∷ [] ≡ one ∷ two ∷ []
two_are first octets one two is at =
    ap (λ (o : List ℕ). take first o ∷ drop first o ∷ []) is
    ∙ ap (λ (o : List ℕ). o ∷ drop first (one ++ two) ∷ []) (take_at one two first (sym at))
    ∙ ap (λ (o : List ℕ). one ∷ o ∷ []) (drop_at one two first (sym at))

-- no item, one or two of a list of that length
pub no_item : {T : Type 0} (all : List T) → length all < 1 → all ≡ []
no_item [] few = refl
no_item (first ∷ others) few = absurd (omega (arith, few))

pub one_item : {T : Type 0} (all : List T) (one : T) → length all ≡ 1 → one ≡ get_or all 0 one → all ≡ one ∷ []
one_item [] one long at = absurd (omega (arith, long))
one_item (first ∷ []) one long at = ap (λ item. item ∷ []) (sym at)
one_item (first ∷ second ∷ others) one long at = absurd (omega (arith, long))

pub two_items : {T : Type 0} (all : List T) (one two : T) → 2 ≤ length all → length all ≤ 2 → one ≡ get_or all 0 one → two ≡ get_or all 1 two → all ≡ one ∷ two ∷ []
two_items [] one two some few at next = absurd (omega (arith, some))
two_items (first ∷ []) one two some few at next = absurd (omega (arith, some))
two_items (first ∷ second ∷ []) one two some few at next = ap (λ item. item ∷ second ∷ []) (sym at) ∙ ap (λ item. one ∷ item ∷ []) (sym next)
two_items (first ∷ second ∷ third ∷ others) one two some few at next = absurd (omega (arith, few))

-- A call stays as long as no frame is kept.
pub joined_kept : (attended : Attended) (before after : Event) (frames : List (List ℕ)) → (attended ≡ Joined → frames ≡ []) → (frames ≡ [] → after ≡ before)
    → joined_in attended after ≡ joined_in attended before
joined_kept (Noted note) before after frames none same = refl
joined_kept Joined before after frames none same = ap (λ (e : Event). Some e) (same (none refl))

-- ---- units of time

-- Units in which the services send nothing.
pub quiet_beside : (units : ℕ) (identity : Identity) (values : Values) (old new : Serving) (sent : List (List ℕ)) → 0 < units → sent ≡ []
    → new ≡ beside_ticks identity values units old → NoneSendsBeside units identity values old → NoNewsBeside units identity values old
    → TicksBeside units identity values old new sent
quiet_beside units identity values old new sent some silent is none quiet = record {
  is = is;
  none = λ before sooner. none before (omega (arith, sooner));
  quiet = quiet;
  frames = silent ∙ sym (none (units - 1) (omega (arith, some)));
}

-- ---- a device without frames

pub no_some : {T : Type 0} (all : List T) → has_some all ≡ false → all ≡ []
no_some [] none = refl
no_some (one ∷ others) none = cc none

pub map_none : {A B : Type 0} (f : A → B) (all : List A) → map f all ≡ [] → all ≡ []
map_none f [] none = refl
map_none f (one ∷ others) none = cc (ap has_some none)

-- A frame that left frames was not dropped.
pub undropped : (dropped : Bool) (port : State) → (dropped ≡ true → barred port ≡ None) → has_some port.frames ≡ true → dropped ≡ false
undropped false port free some = refl
undropped true port free some = let none = ap has_some (is_free port (free refl)).frames in cc (sym none ∙ some)
