-- Steps one after another, and what is reported of them.
use Rattle.std.proofs.Common.{◌≡◌, ◌==◌, ◌+◌, ◌-◌, ◌<◌, ◌^◌, ℕ, suc, Bool, length, List, [], ◌∷◌, ◌++◌, map, take, drop, get_or, inl, inr, refl, sym, ap, subst, ◌∙◌, arith, append_assoc, if◌then◌else◌}
use Rattle.std.proofs.lemmas.Bool.{cases_lt, cond_both}
use Rattle.std.proofs.lemmas.List.{append-nil, get_or-drop, get_or-take, get_or_append_left, get_or-append_right, get_or_past, length-take}
use Rattle.pn_values.specs.declared.mac.Mac.{Mac}
use Rattle.pn_values.specs.declared.settings.Settings.{Settings}
use Rattle.flash_model.specs.declared.flash.Flash.{Ghosts as Flash}
use Rattle.settings_journal.specs.settings_store.Carries.{Holds, Stretch}
use Rattle.settings_journal.specs.settings_store.Machine.{Outcome}
use Rattle.relations.specs.declared.options.DeviceOptions.{DeviceOptions}
use Rattle.device_frames.specs.declared.event.Event.{Event}
use Rattle.device_core.specs.State.{Live, State, Station, store_of}
use Rattle.device_core.specs.Machine.{Ran, Stepped, handed, run_of, step_of}
use Rattle.octets_law.specs.Octets.{number, untagged}
use Rattle.octets_law.specs.Headline.{AreCycles, IsCycle, Told}
use Rattle.octets_law.specs.Turns.{AreSent, IsSmall, Turns, TurnsAll, told_of}
use Rattle.device_frames.specs.Sendable.{AreSendable}

-- ---- octets

abbrev AreOctets : List ℕ → Type 0
AreOctets octets = (k : ℕ) → get_or octets k 0 < 256

octets_behind : (n : ℕ) (octets : List ℕ) → AreOctets octets → AreOctets (drop n octets)
octets_behind n octets small k = omega (arith, get_or-drop n octets k 0, small (n + k))

octets_first : (n : ℕ) (octets : List ℕ) → AreOctets octets → AreOctets (take n octets)
octets_first n octets small k = elim (cases_lt k n) [
  | inl within ↦ omega (arith, get_or-take n octets k 0 within, small k)
  | inr past ↦ omega (arith, get_or_past (take n octets) k 0 (omega (arith, length-take n octets)))
]

octets_both : (front rest : List ℕ) → AreOctets front → AreOctets rest → AreOctets (front ++ rest)
octets_both front rest f r k = elim (cases_lt k (length front)) [
  | inl within ↦ omega (arith, get_or_append_left front rest 0 k within, f k)
  | inr past ↦ omega (arith, get_or-append_right front rest (length front) k 0 refl past, r (k - length front))
]

four_small : (octets : List ℕ) → AreOctets octets → number 0 4 octets < 2 ^ 32
four_small octets small = omega (arith, small 0, small 1, small 2, small 3)

-- A Xid fits 32 bits.
pub small_of : (octets : List ℕ) → AreOctets octets → number 18 4 (untagged octets) < 2 ^ 32
small_of octets small =
    four_small (drop 18 (untagged octets)) (octets_behind 18 (untagged octets)
    (cond_both (number 12 2 octets == 0x8100) _ _ AreOctets (λ _. octets_both (take 12 octets) (drop 16 octets) (octets_first 12 octets small) (octets_behind 16 octets small)) (λ _. small)))

-- What is reported of a step is what is handed on of it.
pub handed_is : (lost : Bool) (frames sent : List (List ℕ)) (step : Stepped) → sent ≡ (if lost then [] else frames) → lost ≡ step.live.values.is_lost → frames ≡ step.frames → sent ≡ handed step
handed_is lost frames sent step is gone are =
    is ∙ ap (λ b. if b then [] else frames) gone ∙ ap (λ f. if step.live.values.is_lost then [] else f) are

-- ---- one event more

module _ (last : List Outcome) (station : Station) (event : Event) where
  -- The step after a run.
  abbrev after : Ran → Stepped
  after ran = step_of last station ran.live event

  abbrev snoc : List (List Outcome) → List (List Outcome)
  snoc front = front ++ last ∷ []

  live_more : (front : List (List Outcome)) (live : Live) (events : List Event) → length front ≡ length events
      → (run_of (snoc front) station live (events ++ event ∷ [])).live ≡ (after (run_of front station live events)).live
  live_more [] live [] many = refl
  live_more [] live (one ∷ events) many = absurd (omega arith)
  live_more (one ∷ front) live [] many = absurd (omega arith)
  live_more (outcomes ∷ front) live (one ∷ events) many = live_more front (step_of outcomes station live one).live events (omega arith)

  accepted_more : (front : List (List Outcome)) (live : Live) (events : List Event) → length front ≡ length events
      → (run_of (snoc front) station live (events ++ event ∷ [])).accepted ≡ (run_of front station live events).accepted ++ (after (run_of front station live events)).accepted
  accepted_more [] live [] many = append-nil _
  accepted_more [] live (one ∷ events) many = absurd (omega arith)
  accepted_more (one ∷ front) live [] many = absurd (omega arith)
  accepted_more (outcomes ∷ front) live (one ∷ events) many =
      let step : Stepped = step_of outcomes station live one in
      ap (λ l. step.accepted ++ l) (accepted_more front step.live events (omega arith)) ∙ sym (append_assoc step.accepted (run_of front station step.live events).accepted _)

  told_more : (front : List (List Outcome)) (live : Live) (events : List Event) → length front ≡ length events
      → told_of (snoc front) station live (events ++ event ∷ []) ≡ told_of front station live events ++ (event, handed (after (run_of front station live events))) ∷ []
  told_more [] live [] many = refl
  told_more [] live (one ∷ events) many = absurd (omega arith)
  told_more (one ∷ front) live [] many = absurd (omega arith)
  told_more (outcomes ∷ front) live (one ∷ events) many =
      let step : Stepped = step_of outcomes station live one in
      ap (λ l. (one, handed step) ∷ l) (told_more front step.live events (omega arith))

  sent_more : (front : List (List Outcome)) (live : Live) (events : List Event) → length front ≡ length events → AreSent front station live events
      → AreSendable station.identity (after (run_of front station live events)).sent → IsSmall event → AreSent (snoc front) station live (events ++ event ∷ [])
  sent_more [] live [] many sent can small = (can, small, tt)
  sent_more [] live (one ∷ events) many sent can small = absurd (omega arith)
  sent_more (one ∷ front) live [] many sent can small = absurd (omega arith)
  sent_more (outcomes ∷ front) live (one ∷ events) many sent can small =
      (sent.0, sent.1, sent_more front (step_of outcomes station live one).live events (omega arith) sent.2 can small)

many_more : {A B : Type 0} (front : List A) (events : List B) (last : A) (event : B) → length front ≡ length events → length (front ++ last ∷ []) ≡ length (events ++ event ∷ [])
many_more [] [] last event many = refl
many_more [] (one ∷ events) last event many = absurd (omega arith)
many_more (one ∷ front) [] last event many = absurd (omega arith)
many_more (one ∷ front) (other ∷ events) last event many = ap suc (many_more front events last event (omega arith))

pub no_turns : {F : Type 0} {S : ℕ} (as_flash : Flash F S) (state : State F) (taken : List Told) → Holds (as_flash.image state.flash) state.live.values → TurnsAll as_flash state [] taken taken state
no_turns as_flash state taken holds = record {
  outcomes = [];
  many = refl;
  same = refl;
  live = refl;
  told = sym (append-nil taken);
  sent = tt;
  stretch = record {
    caused = inl (refl, refl);
    safe = record { left = λ left. left; legal = λ fine left. inl (state.live.values.room, holds fine); untouched = λ failed. refl };
    holds = holds;
    untouched = λ _. refl;
    stays_failed = λ failed. (failed, refl);
    made = λ _. refl;
    room = λ _. omega arith;
    stays_lost = λ lost. lost;
  };
}

-- One event more.
pub turn_more : {F : Type 0} {S : ℕ} (as_flash : Flash F S) (old mid new : State F) (events : List Event) (event : Event) (before between now : List Told)
    → TurnsAll as_flash old events before between mid → Turns as_flash mid event between now new → TurnsAll as_flash old (events ++ event ∷ []) before now new
turn_more as_flash old mid new events event before between now all one =
    let ran : Ran = run_of all.outcomes old.station old.live events in
    let step : Stepped = step_of one.outcomes old.station ran.live event in
    let is : step_of one.outcomes mid.station mid.live event ≡ step =
    ap (λ s. step_of one.outcomes s mid.live event) all.same ∙ ap (λ l. step_of one.outcomes old.station l event) all.live in
    record {
      outcomes = all.outcomes ++ one.outcomes ∷ [];
      many = many_more all.outcomes events one.outcomes event all.many;
      same = one.same ∙ all.same;
      live = one.live ∙ ap (λ s. s.live) is ∙ sym (live_more one.outcomes old.station event all.outcomes old.live events all.many);
      told = one.told ∙ ap (λ s. between ++ (event, handed s) ∷ []) is ∙ ap (λ l. l ++ (event, handed step) ∷ []) all.told
          ∙ append_assoc before (told_of all.outcomes old.station old.live events) _ ∙ ap (λ l. before ++ l) (sym (told_more one.outcomes old.station event all.outcomes old.live events all.many));
      sent = sent_more one.outcomes old.station event all.outcomes old.live events all.many all.sent
          (subst (λ (s : Stepped). AreSendable old.station.identity s.sent) is
          (subst (λ (s : Station). AreSendable s.identity (step_of one.outcomes mid.station mid.live event).sent) all.same one.sendable)) one.small;
      stretch = subst (λ a. Stretch as_flash (store_of old) a (store_of new))
          (ap (λ (s : Stepped). ran.accepted ++ s.accepted) is ∙ sym (accepted_more one.outcomes old.station event all.outcomes old.live events all.many))
          (one.continues (store_of old) ran.accepted all.stretch);
    }

-- ---- one cycle more

pub no_cycles : (options : DeviceOptions) (mac : Mac) (first : Settings) → AreCycles options mac [] [] first first
no_cycles options mac first = (refl, refl)

pub cycle_more : (options : DeviceOptions) (mac : Mac) (cycles : List (List Event)) (events : List Event) (front now : List Told) (first between settings : Settings) → AreCycles options mac cycles front first between
    → map (λ (told : Told). told.0) now ≡ events → IsCycle options mac between now settings → AreCycles options mac (cycles ++ events ∷ []) (front ++ now) first settings
cycle_more options mac [] events front now first between settings so_far are is =
    (now, [], settings, ap (λ l. l ++ now) so_far.0 ∙ sym (append-nil now), are, subst (λ s. IsCycle options mac s now settings) so_far.1 is, (refl, refl))
cycle_more options mac (one ∷ cycles) events front now first between settings so_far are is = (
  so_far.0,
  so_far.1 ++ now,
  so_far.2,
  ap (λ l. l ++ now) so_far.3 ∙ append_assoc so_far.0 so_far.1 now,
  so_far.4,
  so_far.5,
  cycle_more options mac cycles events so_far.1 now so_far.2 between settings so_far.6 are is,
)
