-- The work that remains after a position in the calls and a position in the frames.
use Rattle.std.proofs.Common.{◌≡◌, ◌+◌, ◌<◌, ◌≤◌, ℕ, Bool, true, false, zero, suc, refl, List, [], ◌∷◌, length, map, drop, get_or, sym, ap, ◌∙◌, inl, inr, arith, Option, Some, None}
use Rattle.std.specs.Prelude.{nat_lt, slice_get, unwrap_or}
use Rattle.std.proofs.lemmas.Bool.{cases_Bool, ltb-true, ltb-false}
use Rattle.std.proofs.Math.ListN.{get_or-map}
use Rattle.std.proofs.lemmas.List.{drop_more, drop_all, drop-drop, length-drop, length-map}
use Rattle.flash_model.specs.Calls.{Call, Erases}
use Rattle.flash_model.specs.declared.flash.Sector.TheVariants.{First}
use Rattle.device_station.specs.declared.port.stage.Stage.{Stage}
use Rattle.device_station.specs.declared.port.stage.Stage.TheVariants.{Made, Booted, Lost}
use Rattle.device_core.specs.State.{Live}
use Rattle.relations.specs.declared.steady.Steady.{Steady}
use Rattle.device_station.specs.port.State.{State, IsKnown, IsSteady, has_some, has_work, advanced_by}

-- Whether any item remains after a position.
pub is_left : {T : Type 0} (n : ℕ) (all : List T) → n < length all → has_some (drop n all) ≡ true
is_left n [] some = absurd (omega (arith, some))
is_left zero (one ∷ others) some = refl
is_left (suc n) (one ∷ others) some = is_left n others (omega (arith, some))

pub some_left : {T : Type 0} (n : ℕ) (all : List T) → has_some (drop n all) ≡ nat_lt n (length all)
some_left n all = elim (cases_Bool (nat_lt n (length all))) [
  | inl there ↦ is_left n all (ltb-true n (length all) there) ∙ sym there
  | inr gone ↦ ap has_some (drop_all n all (ltb-false n (length all) gone)) ∙ sym gone
]

pub calls_left : (calls : List Call) (frames : List (List ℕ)) → has_some calls ≡ true → true ≡ has_work calls frames
calls_left [] frames some = cc some
calls_left (call ∷ calls) frames some = refl

pub only_frames : (calls : List Call) (frames : List (List ℕ)) → has_some calls ≡ false → has_some frames ≡ has_work calls frames
only_frames [] [] none = refl
only_frames [] (frame ∷ frames) none = refl
only_frames (call ∷ calls) frames none = cc none

-- ---- a piece of work is fetched

pub call_taken : (port : State) (n : ℕ) (calls : List Call) → n < length calls → advanced_by port (drop n calls) ≡ record port { calls = drop (n + 1) calls }
call_taken port n calls some = ap (advanced_by port) (drop_more calls n (Erases First) some)

pub frame_taken : (port : State) (n m : ℕ) (calls : List Call) (frames : List (List ℕ)) → length calls ≤ n → port.frames ≡ drop m frames
    → advanced_by port (drop n calls) ≡ record port { frames = drop (m + 1) frames }
frame_taken port n m calls frames none is =
    ap (advanced_by port) (drop_all n calls none) ∙ ap (λ f. record port { frames = f }) (ap (drop 1) is ∙ drop-drop 1 m frames)

pub frame_drawn : (port : State) (m : ℕ) (frames : List (List ℕ)) → port.calls ≡ [] → port.frames ≡ drop m frames
    → advanced_by port port.calls ≡ record port { frames = drop (m + 1) frames }
frame_drawn port m frames none is =
    ap (advanced_by port) none ∙ ap (λ f. record port { frames = f }) (ap (drop 1) is ∙ drop-drop 1 m frames)

-- ---- the next one

-- The item at a position of a mapped list is the first item after dropping the items before it.
pub next_of : {A B : Type 0} (f : A → B) (known : List A) (all : List B) (n : ℕ) (one : A) → map f known ≡ all → n < length known → one ≡ get_or known n one → (rest : List B) × (drop n all ≡ f one ∷ rest)
next_of f known all n one is some at =
    let long = length-map known f in
    let here = drop_more (map f known) n (f one) (omega (arith, some, long)) in
    (drop (n + 1) (map f known), ap (drop n) (sym is) ∙ here ∙ ap (λ x. x ∷ drop (n + 1) (map f known)) (get_or-map f known n one ∙ ap f (sym at)))

-- ---- a port that did not start, or lost its power, has none

none_there : {A : Type 0} (n : ℕ) (all : List A) → n < length all → drop n all ≡ [] → ⊥
none_there n all some none =
    let long = length-drop n all in
    let short = ap length none in
    omega (arith, some, long, short)

pub steady_call : (stage : Stage) (has_failed : Bool) (n : ℕ) (calls : List Call) (frames : List (List ℕ)) → n < length calls
    → IsSteady stage has_failed (drop n calls) frames → IsSteady stage has_failed (drop (n + 1) calls) frames
steady_call Made has_failed n calls frames some steady = absurd (none_there n calls some steady.1)
steady_call Booted has_failed n calls frames some steady = steady
steady_call Lost has_failed n calls frames some steady = absurd (none_there n calls some steady.0)

pub steady_frame : (stage : Stage) (has_failed : Bool) (m : ℕ) (calls : List Call) (frames : List (List ℕ)) → m < length frames
    → IsSteady stage has_failed calls (drop m frames) → IsSteady stage has_failed calls (drop (m + 1) frames)
steady_frame Made has_failed m calls frames some steady = absurd (none_there m frames some steady.2)
steady_frame Booted has_failed m calls frames some steady = steady
steady_frame Lost has_failed m calls frames some steady = absurd (none_there m frames some steady.1)

-- ---- what is due is known only if no call remains

pub known_call : (steady : Steady) (live : Live) (stage : Stage) (n : ℕ) (calls : List Call) → n < length calls
    → IsKnown steady live stage (drop n calls) → IsKnown steady live stage (drop (n + 1) calls)
known_call steady live stage n calls some known is = absurd (none_there n calls some (known is).2)

pub no_calls : (calls : List Call) → has_some calls ≡ false → calls ≡ []
no_calls [] none = refl
no_calls (call ∷ calls) none = cc none

-- A call remains at this position.
pub some_there : {T : Type 0} (n : ℕ) (all : List T) → has_some (drop n all) ≡ true → n < length all
some_there n all some = ltb-true n (length all) (sym (some_left n all) ∙ some)

-- The call at this position is the first of those that remain.
pub next_at : {T : Type 0} (n : ℕ) (all : List T) (one : T) → slice_get all n ≡ Some one → (rest : List T) × (drop n all ≡ one ∷ rest)
next_at n [] one at = cc at
next_at zero (first ∷ others) one at = (others, ap (λ (o : Option _). unwrap_or o first ∷ others) at)
next_at (suc n) (first ∷ others) one at = next_at n others one at
