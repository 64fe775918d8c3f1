-- One thing more that happens, and several units at once.
use Rattle.std.proofs.Common.{◌≡◌, ◌-◌, ◌<◌, ◌≤◌, ℕ, zero, suc, List, [], ◌∷◌, ◌++◌, replicate, refl, sym, ap, ◌∙◌, append_assoc, arith}
use Rattle.std.proofs.lemmas.List.{append-nil}
use Rattle.controller_core.specs.declared.stored.event.Event.{Event}
use Rattle.controller_core.specs.declared.stored.event.Event.TheVariants.{Tick}
use Rattle.controller_core.specs.declared.stored.state.State.{State}
use Rattle.controller_core.specs.stored.State.{Controlling}
use Rattle.controller_core.specs.Leaps.{OnlyTheLastEnds, OnlyTheLastSends, ticks_of}
use Rattle.controller_core.specs.Machine.{step_of}
use Rattle.end_laws.specs.turns.Runs.{behind_all}
use Rattle.exchange_law.specs.declared.controller.Happening.{Happening}
use Rattle.exchange_law.specs.declared.controller.Happening.TheVariants.{Comes, Leaps}
use Rattle.exchange_law.specs.Told.{AreOf, IsOf, Told, quiet}
use Rattle.exchange_law.specs.Run.{Happens, Runs, Turns, told_by, told_of}

-- ---- lists

told_both : (some more : List Event) (old : Controlling) → told_of (some ++ more) old ≡ told_of some old ++ told_of more (behind_all some old)
told_both [] more old = refl
told_both (one ∷ some) more old = ap (λ (l : List Told). told_by old one ∷ l) (told_both some more (step_of old one).controller)

behind_both : (some more : List Event) (old : Controlling) → behind_all (some ++ more) old ≡ behind_all more (behind_all some old)
behind_both [] more old = refl
behind_both (one ∷ some) more old = behind_both some more (step_of old one).controller

are_more : (happenings : List Happening) (one : Happening) (events more : List Event) → AreOf happenings events → IsOf one more → AreOf (happenings ++ one ∷ []) (events ++ more)
are_more [] one events more none is = (more, [], ap (λ (l : List Event). l ++ more) none ∙ sym (append-nil more), is, refl)
are_more (other ∷ happenings) one events more are is =
    (are.0, are.1 ++ more, ap (λ (l : List Event). l ++ more) are.2 ∙ append_assoc are.0 are.1 more, are.3, are_more happenings one are.1 more are.4 is)

pub nothing_happens : (old : Controlling) (before : List Told) → Runs old [] before before old
nothing_happens old before = record { events = []; are = refl; told = sym (append-nil before); becomes = refl }

module _ (old : Controlling) (happenings : List Happening) (one : Happening) (before now next : List Told) (mid new : Controlling) where
  pub one_more : Runs old happenings before now mid → Happens mid one now next new → Runs old (happenings ++ one ∷ []) before next new
  one_more runs happens = record {
    events = runs.events ++ happens.events;
    are = are_more happenings one runs.events happens.events runs.are happens.are;
    told = happens.told
        ∙ (ap (λ (l : List Told). l ++ told_of happens.events mid) runs.told
        ∙ (append_assoc before (told_of runs.events old) (told_of happens.events mid)
        ∙ (ap (λ (c : Controlling). before ++ (told_of runs.events old ++ told_of happens.events c)) runs.becomes
        ∙ ap (λ (l : List Told). before ++ l) (sym (told_both runs.events happens.events old)))));
    becomes = happens.becomes ∙ (ap (λ (c : Controlling). behind_all happens.events c) runs.becomes ∙ sym (behind_both runs.events happens.events old));
  }

-- ---- one event

pub comes_so : (old : Controlling) (event : Event) (before now : List Told) (new : Controlling) → Turns old event before now new → Happens old (Comes event) before now new
comes_so old event before now new turns = record { events = event ∷ []; are = refl; told = turns.told; becomes = turns.becomes }

-- ---- several units

same_again : {A : Type 0} (n : ℕ) (x : A) → replicate (suc n) x ≡ replicate n x ++ x ∷ []
same_again zero x = refl
same_again {A = A} (suc n) x = ap (λ (l : List A). x ∷ l) (same_again n x)

module _ (old : Controlling) where
  abbrev ticks : ℕ → List Event
  ticks units = replicate units Tick

  behind_ticks : (units : ℕ) → behind_all (ticks units) old ≡ (ticks_of units old).controller
  behind_ticks zero = refl
  behind_ticks (suc units) =
      ap (λ (l : List Event). behind_all l old) (same_again units Tick)
      ∙ (behind_both (ticks units) (Tick ∷ []) old ∙ ap (λ (c : Controlling). (step_of c Tick).controller) (behind_ticks units))

  -- What a witness learns of the unit after some.
  abbrev last_told : ℕ → Told
  last_told units = told_by (ticks_of units old).controller Tick

  told_ticks : (units : ℕ) → told_of (ticks (suc units)) old ≡ told_of (ticks units) old ++ last_told units ∷ []
  told_ticks units =
      ap (λ (l : List Event). told_of l old) (same_again units Tick)
      ∙ (told_both (ticks units) (Tick ∷ []) old ∙ ap (λ (c : Controlling). told_of (ticks units) old ++ told_by c Tick ∷ []) (behind_ticks units))

  empty_rest : (front rest : List (List ℕ)) → front ≡ [] → front ++ rest ≡ [] → rest ≡ []
  empty_rest front rest none all = sym (ap (λ (l : List (List ℕ)). l ++ rest) none) ∙ all

  -- With these units nothing is sent, and the state stays.
  abbrev AreQuiet : ℕ → Type 0
  AreQuiet units = (before : ℕ) → before ≤ units → ((ticks_of before old).frames ≡ []) × ((ticks_of before old).controller.live.phase ≡ old.live.phase)

  quiet_told : (units : ℕ) → AreQuiet units → told_of (ticks units) old ≡ quiet units old.live.phase
  quiet_told zero are = refl
  quiet_told (suc units) are =
      let now = are (suc units) (omega arith) in
      let before = are units (omega arith) in
      let silent = empty_rest (ticks_of units old).frames (step_of (ticks_of units old).controller Tick).frames before.0 now.0 in
      let shown : State → List (List ℕ) → Told = λ state sent. record { event = Tick; sent = sent; state = state } in
      told_ticks units
      ∙ (ap (λ (l : List Told). l ++ last_told units ∷ []) (quiet_told units (λ earlier most. are earlier (omega (arith, most))))
      ∙ (ap (λ (sent : List (List ℕ)). quiet units old.live.phase ++ shown (step_of (ticks_of units old).controller Tick).controller.live.phase sent ∷ []) silent
      ∙ (ap (λ (state : State). quiet units old.live.phase ++ shown state [] ∷ []) now.1 ∙ sym (same_again units (shown old.live.phase [])))))

  -- Of these units only the last one sends.
  leap_told : (units : ℕ) → OnlyTheLastSends (suc units) old → OnlyTheLastEnds (suc units) old
      → told_of (ticks (suc units)) old
      ≡ quiet units old.live.phase ++ record { event = Tick; sent = (ticks_of (suc units) old).frames; state = (ticks_of (suc units) old).controller.live.phase } ∷ []
  leap_told units sends ends =
      let are : AreQuiet units = λ before most. (sends before (omega (arith, most)), ends before (omega (arith, most))) in
      let state = (ticks_of (suc units) old).controller.live.phase in
      let sent = (step_of (ticks_of units old).controller Tick).frames in
      told_ticks units
      ∙ (ap (λ (l : List Told). l ++ last_told units ∷ []) (quiet_told units are)
      ∙ ap (λ (front : List (List ℕ)). quiet units old.live.phase ++ record { event = Tick; sent = front ++ sent; state = state } ∷ []) (sym (are units (omega arith)).0))

  -- A leap of this many units, which the controller lets pass.
  pub leaps_so : (asked units : ℕ) (before now : List Told) (new : Controlling) → units ≤ asked → 0 < units → OnlyTheLastSends units old → OnlyTheLastEnds units old
      → now ≡ before ++ (quiet (units - 1) old.live.phase ++ record { event = Tick; sent = (ticks_of units old).frames; state = (ticks_of units old).controller.live.phase } ∷ [])
      → new ≡ (ticks_of units old).controller → Happens old (Leaps asked) before now new
  leaps_so asked zero before now new few some sends ends told becomes = absurd (omega (arith, some))
  leaps_so asked (suc units) before now new few some sends ends told becomes =
      let none : suc units - 1 ≡ units = omega arith in
      record {
        events = ticks (suc units);
        are = (suc units, few, refl);
        told = told
            ∙ (ap (λ (n : ℕ). before ++ (quiet n old.live.phase ++ record { event = Tick; sent = (ticks_of (suc units) old).frames; state = (ticks_of (suc units) old).controller.live.phase } ∷ [])) none
            ∙ ap (λ (l : List Told). before ++ l) (sym (leap_told units sends ends)));
        becomes = becomes ∙ sym (behind_ticks (suc units));
      }

  pub no_leap : (asked : ℕ) (before : List Told) → Happens old (Leaps asked) before before old
  no_leap asked before = record { events = []; are = (0, omega arith, refl); told = sym (append-nil before); becomes = refl }

-- What a witness learned of a leap, by what it learned of its units.
pub leap_learned : (before passed now : List Told) (n : ℕ) (state shown later last : State) (frames sent : List (List ℕ)) → now ≡ passed ++ record { event = Tick; sent = sent; state = last } ∷ []
    → passed ≡ before ++ quiet n shown → shown ≡ state → sent ≡ frames → last ≡ later
    → now ≡ before ++ (quiet n state ++ record { event = Tick; sent = frames; state = later } ∷ [])
leap_learned before passed now n state shown later last frames sent one two three four five =
    one
    ∙ (ap (λ (l : List Told). l ++ record { event = Tick; sent = sent; state = last } ∷ []) two
    ∙ (append_assoc before (quiet n shown) (record { event = Tick; sent = sent; state = last } ∷ [])
    ∙ (ap (λ (s : State). before ++ (quiet n s ++ record { event = Tick; sent = sent; state = last } ∷ [])) three
    ∙ (ap (λ (f : List (List ℕ)). before ++ (quiet n state ++ record { event = Tick; sent = f; state = last } ∷ [])) four
    ∙ ap (λ (s : State). before ++ (quiet n state ++ record { event = Tick; sent = frames; state = s } ∷ [])) five))))
