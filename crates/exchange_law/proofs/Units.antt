-- The units of a relation, and the interval: what is counted of the entries is what the clock of the controller has.
use Rattle.std.proofs.Common.{◌≡◌, inl, inr, ◌+◌, ◌%◌, ◌==◌, ◌<◌, ◌++◌, ℕ, Bool, true, false, List, [], ◌∷◌, Option, Some, None, refl, sym, ap, ◌∙◌, arith}
use Rattle.std.specs.Prelude.{if◌then◌else◌}
use Rattle.std.proofs.lemmas.Bool.{cases_lt, eq-eqb, ne_eqb}
use Rattle.std.proofs.lemmas.List.Sums.{fold-append}
use Rattle.std.proofs.Math.Nat.{mod-add-mod, mod-eq_of_lt, mod_self}
use Rattle.cyclic_data.specs.Timing.{Sending, is_due, unit_later}
use Rattle.plans.specs.declared.parts.Times.{Times}
use Rattle.controller_core.specs.declared.stored.event.Event.{Event}
use Rattle.controller_core.specs.declared.stored.event.Event.TheVariants.{Tick}
use Rattle.controller_core.specs.stored.Opening.{sending_of}
use Rattle.field_words.specs.Cyclic.{is_cyclic_id}
use Rattle.exchange_law.specs.Told.{Told}
use Rattle.exchange_law.specs.Interval.{completes, interval_in, is_related, related_for, related_then, units_then}
use Rattle.exchange_law.specs.Outputs.{tick_with, units_in}

-- ---- an interval

-- This many units of an interval were counted.
abbrev pub HasCounted : ℕ → ℕ → Sending → Type 0
HasCounted interval units sending = (sending.interval ≡ interval) × (sending.elapsed ≡ units % interval) × (sending.elapsed < interval)

pub counted_more : (interval units : ℕ) (sending : Sending) → HasCounted interval units sending → HasCounted interval (units + 1) (unit_later sending)
counted_more interval units sending h =
    let next : (sending.elapsed + 1) % interval ≡ (units + 1) % interval = ap (λ (x : ℕ). (x + 1) % interval) h.1 ∙ mod-add-mod units interval 1 in
    elim (cases_lt (sending.elapsed + 1) sending.interval) [
      | inl below ↦ rw (ne_eqb (sending.elapsed + 1) sending.interval (λ e. omega (arith, e, below)))
          (h.0, sym (mod-eq_of_lt (omega (arith, below, h.0))) ∙ next, omega (arith, below, h.0))
      | inr above ↦
          let whole : sending.elapsed + 1 ≡ interval = omega (arith, above, h.0, h.2) in
          rw (eq-eqb (sending.elapsed + 1) sending.interval (omega (arith, whole, h.0)))
          (h.0, sym (ap (λ (x : ℕ). x % interval) whole ∙ mod_self interval) ∙ next, omega (arith, h.2))
    ]

pub due_where : (interval units : ℕ) (sending : Sending) → HasCounted interval units sending → is_due sending ≡ ((units + 1) % interval == 0)
due_where interval units sending h =
    let next : (sending.elapsed + 1) % interval ≡ (units + 1) % interval = ap (λ (x : ℕ). (x + 1) % interval) h.1 ∙ mod-add-mod units interval 1 in
    elim (cases_lt (sending.elapsed + 1) sending.interval) [
      | inl below ↦
          let here : sending.elapsed + 1 ≡ (units + 1) % interval = sym (mod-eq_of_lt (omega (arith, below, h.0))) ∙ next in
          ne_eqb (sending.elapsed + 1) sending.interval (λ e. omega (arith, e, below)) ∙ sym (ne_eqb ((units + 1) % interval) 0 (λ e. omega (arith, e, here)))
      | inr above ↦
          let whole : sending.elapsed + 1 ≡ interval = omega (arith, above, h.0, h.2) in
          let none : (units + 1) % interval ≡ 0 = sym next ∙ (ap (λ (x : ℕ). x % interval) whole ∙ mod_self interval) in
          eq-eqb (sending.elapsed + 1) sending.interval (omega (arith, whole, h.0)) ∙ sym (eq-eqb ((units + 1) % interval) 0 none)
    ]

pub counted_none : (times : Times) → 0 < interval_in times → HasCounted (interval_in times) 0 (sending_of times)
counted_none times some = (refl, sym (mod-eq_of_lt some), some)

-- ---- one entry more

pub related_more : (told : List Told) (one : Told) → related_for (told ++ one ∷ []) ≡ related_then (related_for told) one
related_more told one = fold-append related_then None told (one ∷ [])

pub units_more : (told : List Told) (one : Told) → units_in (told ++ one ∷ []) ≡ tick_with (units_in told) one.event
units_more told one = fold-append (λ (units : ℕ) (one : Told). tick_with units one.event) 0 told (one ∷ [])

pub no_tick : (event : Event) → (event ≡ Tick → ⊥) → (units : ℕ) → tick_with units event ≡ units
no_tick Tick none units = absurd (none refl)
no_tick other none units = refl

pub no_unit : (event : Event) → (event ≡ Tick → ⊥) → (units : ℕ) → units_then (Some units) event ≡ units
no_unit Tick none units = absurd (none refl)
no_unit other none units = refl

pub not_complete : (interval : ℕ) (units : Option ℕ) (event : Event) → (event ≡ Tick → ⊥) → completes interval units event ≡ false
not_complete interval None event none = refl
not_complete interval (Some units) Tick none = absurd (none refl)
not_complete interval (Some units) other none = refl

pub units_after : (units n : ℕ) → units ≡ n % 65536 → (units + 1) % 65536 ≡ (n + 1) % 65536
units_after units n is = ap (λ (x : ℕ). (x + 1) % 65536) is ∙ mod-add-mod n 65536 1

-- ---- the clock of a controller

-- The relation, if there is one, has run for this many units, under a FrameID of cyclic data.
abbrev pub HasRun : ℕ → Option ℕ → Bool → Sending → ℕ → Type 0
HasRun interval None stands sending id = stands ≡ false
HasRun interval (Some units) stands sending id = (stands ≡ true) × HasCounted interval units sending × (is_cyclic_id id ≡ true)

not_both : {A : Type 0} (b : Bool) → b ≡ true → b ≡ false → A
not_both b is other = absurd (never b is other)
  where
    never : (b : Bool) → b ≡ true → b ≡ false → ⊥
    never b is other = cc

pub none_run : (interval : ℕ) (units : Option ℕ) (stands : Bool) (sending : Sending) (id : ℕ) → HasRun interval units stands sending id → stands ≡ false → units ≡ None
none_run interval None stands sending id has down = refl
none_run interval (Some units) stands sending id has down = not_both stands has.0 down

pub some_run : (interval : ℕ) (units : Option ℕ) (stands : Bool) (sending : Sending) (id : ℕ) → HasRun interval units stands sending id → stands ≡ true
    → (n : ℕ) × (units ≡ Some n) × HasCounted interval n sending × (is_cyclic_id id ≡ true)
some_run interval None stands sending id has up = not_both stands up has
some_run interval (Some n) stands sending id has up = (n, refl, has.1, has.2)

module _ (units : Option ℕ) (one : Told) where
  -- After an entry with which there is no relation, and after one with which there is one.
  pub then_none : is_related one.state ≡ false → related_then units one ≡ None
  then_none is = ap (λ (b : Bool). if b then Some (units_then units one.event) else None) is

  pub then_some : is_related one.state ≡ true → related_then units one ≡ Some (units_then units one.event)
  then_some is = ap (λ (b : Bool). if b then Some (units_then units one.event) else None) is
