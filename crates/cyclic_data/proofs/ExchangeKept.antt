-- Events, one by one.
use Rattle.std.proofs.Common.{◌≡◌, inl, inr, ◌+◌, ◌%◌, ◌==◌, ◌<◌, ℕ, true, false, nat_le, List, [], ◌∷◌, length, map, Option, Some, None, is_some, unwrap_or, Result, Ok, Err, refl, sym, ap, subst, ◌∙◌, arith}
use Rattle.std.specs.Prelude.{min}
use Rattle.std.proofs.lemmas.Bool.{cases_Bool, cases_lt, ne_eqb, eq-eqb, true≢false}
use Rattle.std.proofs.lemmas.Bool.Decides.{nat_tests}
use Rattle.std.proofs.Math.Nat.{mod-add-mod, mod-eq_of_lt, mod_self}
use Rattle.pn_values.specs.declared.mac.Mac.{Mac}
use Rattle.cyclic_data.specs.declared.place.PlaceKind.TheVariants.{Data}
use Rattle.cyclic_data.specs.declared.tail.CyclicTail.{CyclicTail}
use Rattle.cyclic_data.specs.declared.tail.ShortFrame.{ShortFrame}
use Rattle.cyclic_data.specs.Image.{Cell, Shown, cell_at, cell_of, has_size, with_value}
use Rattle.cyclic_data.specs.Tail.{cyclic_of}
use Rattle.cyclic_data.specs.Timing.{Hearing, Sending, is_due, unit_later}
use Rattle.cyclic_data.specs.exchange.Cyclic.{Cyclic}
use Rattle.cyclic_data.specs.exchange.Units.{cyclic_later, is_silent}
use Rattle.cyclic_data.specs.exchange.Received.{behind_frame, behind_read, is_new, is_of_partner}
use Rattle.cyclic_data.specs.exchange.Process.{changed_at, with_good}
use Rattle.cyclic_data.specs.exchange.Runs.{Event, Begins, Ends, Passes, Comes, Gives, Provides, States, Rests, behind, behind_all, units_of, units_in, taken_in, taken_with, later_one, last_taken, held_in, is_renewal, AreNoRenewals, IsDueEachInterval, AreOfTheLast, IsHeldSoLong}

-- ---- data that is given

-- Everything but the data that is sent is unchanged.
record IsBeside (old new : Cyclic) : Type 0 where
  begun : new.begun ≡ old.begun
  sending : new.sending ≡ old.sending
  hearing : new.hearing ≡ old.hearing
  taken : new.taken ≡ old.taken

beside_changed : (change : Cell → Cell) (cyclic : Cyclic) (slot subslot : ℕ) (value : List ℕ)
    → IsBeside cyclic (unwrap_or (changed_at change cyclic slot subslot value) cyclic)
beside_changed change cyclic slot subslot value =
    elim (cases_Bool (has_size (length value) (cell_at Data slot subslot cyclic.shown.cells))) [
      | inl t ↦ rw t (record { begun = refl; sending = refl; hearing = refl; taken = refl })
      | inr t ↦ rw t (record { begun = refl; sending = refl; hearing = refl; taken = refl })
    ]

-- ---- frames that are received

-- A received frame does not change when frames are due, or whether data is exchanged. Its data is accepted, or nothing
-- is.
pub record IsComing (cyclic new : Cyclic) (taken : Option (List ℕ)) : Type 0 where
  pub begun : new.begun ≡ cyclic.begun
  pub sending : new.sending ≡ cyclic.sending
  pub held : new.taken ≡ held_in cyclic.taken taken
  pub hearing : is_some taken ≡ false → new.hearing ≡ cyclic.hearing

coming_read : (cyclic : Cyclic) (r : Result (List ℕ × CyclicTail) ShortFrame) → IsComing cyclic (behind_read cyclic r) (taken_in cyclic r)
coming_read cyclic (Ok x) =
    elim (cases_Bool (is_new cyclic x.1)) [
      | inl t ↦ rw t (record { begun = refl; sending = refl; held = refl; hearing = λ h. absurd (true≢false h) })
      | inr t ↦ rw t (record { begun = refl; sending = refl; held = refl; hearing = λ h. refl })
    ]
coming_read cyclic (Err short) = record { begun = refl; sending = refl; held = refl; hearing = λ h. refl }

pub coming : (cyclic : Cyclic) (source : Mac) (frame_id : ℕ) (body : List ℕ)
    → IsComing cyclic (behind_frame cyclic source frame_id body) (taken_with (Comes source frame_id body) cyclic)
coming cyclic source frame_id body =
    elim (cases_Bool (is_of_partner cyclic.route source frame_id)) [
      | inl t ↦ rw t (coming_read cyclic (cyclic_of cyclic.taken.data_length body))
      | inr t ↦ rw t (record { begun = refl; sending = refl; held = refl; hearing = λ h. refl })
    ]

-- ---- when frames are due

-- This many units of an interval were counted.
abbrev HasCounted : ℕ → ℕ → Sending → Type 0
HasCounted interval units sending = (sending.interval ≡ interval) × (sending.elapsed ≡ units % interval) × (sending.elapsed < interval)

counted_same : (interval units : ℕ) (old new : Sending) → new ≡ old → HasCounted interval units old → HasCounted interval (0 + units) new
counted_same interval units old new same h =
    let none : units ≡ 0 + units = omega arith in
    subst (λ (n : ℕ). HasCounted interval n new) none (subst (λ (s : Sending). HasCounted interval units s) (sym same) h)

counted_later : (interval units : ℕ) (sending : Sending) → HasCounted interval units sending → HasCounted interval (1 + units) (unit_later sending)
counted_later interval units sending h =
    let next : (sending.elapsed + 1) % interval ≡ (1 + units) % interval =
    ap (λ (x : ℕ). (x + 1) % interval) h.1 ∙ (mod-add-mod units interval 1 ∙ ap (λ (x : ℕ). x % interval) (omega arith)) in
    elim (cases_lt (sending.elapsed + 1) sending.interval) [
      | inl below ↦ rw (ne_eqb (sending.elapsed + 1) sending.interval (λ e. omega (arith, e, below)))
          (h.0, sym (mod-eq_of_lt (omega (arith, below, h.0))) ∙ next, omega (arith, below, h.0))
      | inr above ↦
          let whole : sending.elapsed + 1 ≡ interval = omega (arith, above, h.0, h.2) in
          rw (eq-eqb (sending.elapsed + 1) sending.interval (omega (arith, whole, h.0)))
          (h.0, sym (ap (λ (x : ℕ). x % interval) whole ∙ mod_self interval) ∙ next, omega (arith, h.2))
    ]

counted_with : (event : Event) (interval units : ℕ) (cyclic : Cyclic) → HasCounted interval units cyclic.sending
    → HasCounted interval (units_of event + units) (behind event cyclic).sending
counted_with Begins interval units cyclic h = counted_same interval units cyclic.sending cyclic.sending refl h
counted_with Ends interval units cyclic h = counted_same interval units cyclic.sending cyclic.sending refl h
counted_with Passes interval units cyclic h = counted_later interval units cyclic.sending h
counted_with (Comes source frame_id body) interval units cyclic h =
    counted_same interval units cyclic.sending (behind_frame cyclic source frame_id body).sending (coming cyclic source frame_id body).sending h
counted_with (Gives slot subslot value) interval units cyclic h =
    counted_same interval units cyclic.sending (behind (Gives slot subslot value) cyclic).sending (beside_changed (with_value value) cyclic slot subslot value).sending h
counted_with (Provides slot subslot value) interval units cyclic h =
    counted_same interval units cyclic.sending (behind (Provides slot subslot value) cyclic).sending (beside_changed (with_good value) cyclic slot subslot value).sending h
counted_with (States slot subslot status) interval units cyclic h = counted_same interval units cyclic.sending cyclic.sending refl h
counted_with Rests interval units cyclic h = counted_same interval units cyclic.sending cyclic.sending refl h

counted_all : (events : List Event) (interval units : ℕ) (cyclic : Cyclic) → HasCounted interval units cyclic.sending
    → HasCounted interval (units_in events + units) (behind_all events cyclic).sending
counted_all [] interval units cyclic h = counted_same interval units cyclic.sending cyclic.sending refl h
counted_all (event ∷ events) interval units cyclic h =
    subst (λ (n : ℕ). HasCounted interval n (behind_all (event ∷ events) cyclic).sending) (omega arith)
    (counted_all events interval (units_of event + units) (behind event cyclic) (counted_with event interval units cyclic h))

due_where : (interval units : ℕ) (sending : Sending) → HasCounted interval units sending → is_due sending ≡ ((units + 1) % interval == 0)
due_where interval units sending h =
    let next : (sending.elapsed + 1) % interval ≡ (units + 1) % interval = ap (λ (x : ℕ). (x + 1) % interval) h.1 ∙ mod-add-mod units interval 1 in
    elim (cases_lt (sending.elapsed + 1) sending.interval) [
      | inl below ↦
          let here : sending.elapsed + 1 ≡ (units + 1) % interval = sym (mod-eq_of_lt (omega (arith, below, h.0))) ∙ next in
          ne_eqb (sending.elapsed + 1) sending.interval (λ e. omega (arith, e, below)) ∙ sym (ne_eqb ((units + 1) % interval) 0 (λ e. omega (arith, e, here)))
      | inr above ↦
          let whole : sending.elapsed + 1 ≡ interval = omega (arith, above, h.0, h.2) in
          let none : (units + 1) % interval ≡ 0 = sym next ∙ (ap (λ (x : ℕ). x % interval) whole ∙ mod_self interval) in
          eq-eqb (sending.elapsed + 1) sending.interval (omega (arith, whole, h.0)) ∙ sym (eq-eqb ((units + 1) % interval) 0 none)
    ]

pub is_due_each_interval : IsDueEachInterval
is_due_each_interval cyclic events fresh long =
    let n : ℕ = cyclic.sending.interval in
    let counted = counted_all events n 0 cyclic (refl, fresh ∙ sym (mod-eq_of_lt long), omega (arith, fresh, long)) in
    let none : units_in events + 0 ≡ units_in events = omega arith in
    due_where n (units_in events) (behind_all events cyclic).sending
    (subst (λ (u : ℕ). HasCounted n u (behind_all events cyclic).sending) none counted)

-- ---- accepted data

cells_twice : (one other : List ℕ) (cells : List Cell)
    → map (λ (cell : Cell). cell_of other cell.place) (map (λ (cell : Cell). cell_of one cell.place) cells) ≡ map (λ (cell : Cell). cell_of other cell.place) cells
cells_twice one other [] = refl
cells_twice one other (cell ∷ cells) = ap (λ (xs : List Cell). cell_of other cell.place ∷ xs) (cells_twice one other cells)

held_behind : (shown : Shown) (later earlier : Option (List ℕ)) → held_in (held_in shown earlier) later ≡ held_in shown (later_one later earlier)
held_behind shown (Some later) (Some earlier) =
    ap (λ (cells : List Cell). let s : Shown = record { data_length = shown.data_length; cells = cells } in s) (cells_twice earlier later shown.cells)
held_behind shown (Some later) None = refl
held_behind shown None earlier = refl

taken_by : (event : Event) (cyclic : Cyclic) → (behind event cyclic).taken ≡ held_in cyclic.taken (taken_with event cyclic)
taken_by Begins cyclic = refl
taken_by Ends cyclic = refl
taken_by Passes cyclic = refl
taken_by (Comes source frame_id body) cyclic = (coming cyclic source frame_id body).held
taken_by (Gives slot subslot value) cyclic = (beside_changed (with_value value) cyclic slot subslot value).taken
taken_by (Provides slot subslot value) cyclic = (beside_changed (with_good value) cyclic slot subslot value).taken
taken_by (States slot subslot status) cyclic = refl
taken_by Rests cyclic = refl

pub are_of_the_last : AreOfTheLast
are_of_the_last [] cyclic = refl
are_of_the_last (event ∷ events) cyclic =
    are_of_the_last events (behind event cyclic)
    ∙ (ap (λ (shown : Shown). held_in shown (last_taken events (behind event cyclic))) (taken_by event cyclic)
    ∙ held_behind cyclic.taken (last_taken events (behind event cyclic)) (taken_with event cyclic))

-- ---- the data hold time

-- This many units of the data hold time are over.
record IsHeld (limit units : ℕ) (cyclic : Cyclic) : Type 0 where
  begun : cyclic.begun ≡ true
  limit_is : cyclic.hearing.limit ≡ limit
  held : cyclic.hearing.held ≡ min limit units

held_later : (limit units : ℕ) (cyclic : Cyclic) → IsHeld limit units cyclic → IsHeld limit (1 + units) (cyclic_later cyclic)
held_later limit units cyclic h = rw h.begun (record { begun = refl; limit_is = h.limit_is; held = omega (arith, h.limit_is, h.held) })

held_same : (limit units : ℕ) (old new : Cyclic) → new.begun ≡ old.begun → new.hearing ≡ old.hearing → IsHeld limit units old → IsHeld limit (0 + units) new
held_same limit units old new begun hearing h = record {
  begun = begun ∙ h.begun;
  limit_is = ap (λ (x : Hearing). x.limit) hearing ∙ h.limit_is;
  held = omega (arith, ap (λ (x : Hearing). x.held) hearing, h.held);
}

held_with : (event : Event) (limit units : ℕ) (cyclic : Cyclic) → is_renewal event cyclic ≡ false → IsHeld limit units cyclic
    → IsHeld limit (units_of event + units) (behind event cyclic)
held_with Begins limit units cyclic none h = absurd (true≢false none)
held_with Ends limit units cyclic none h = absurd (true≢false none)
held_with Passes limit units cyclic none h = held_later limit units cyclic h
held_with (Comes source frame_id body) limit units cyclic none h =
    let come = coming cyclic source frame_id body in held_same limit units cyclic (behind_frame cyclic source frame_id body) come.begun (come.hearing none) h
held_with (Gives slot subslot value) limit units cyclic none h =
    let given = beside_changed (with_value value) cyclic slot subslot value in
    held_same limit units cyclic (behind (Gives slot subslot value) cyclic) given.begun given.hearing h
held_with (Provides slot subslot value) limit units cyclic none h =
    let given = beside_changed (with_good value) cyclic slot subslot value in
    held_same limit units cyclic (behind (Provides slot subslot value) cyclic) given.begun given.hearing h
held_with (States slot subslot status) limit units cyclic none h = held_same limit units cyclic (behind (States slot subslot status) cyclic) refl refl h
held_with Rests limit units cyclic none h = held_same limit units cyclic cyclic refl refl h

held_all : (events : List Event) (limit units : ℕ) (cyclic : Cyclic) → AreNoRenewals events cyclic → IsHeld limit units cyclic
    → IsHeld limit (units_in events + units) (behind_all events cyclic)
held_all [] limit units cyclic none h = held_same limit units cyclic cyclic refl refl h
held_all (event ∷ events) limit units cyclic none h =
    subst (λ (n : ℕ). IsHeld limit n (behind_all (event ∷ events) cyclic)) (omega arith)
    (held_all events limit (units_of event + units) (behind event cyclic) none.1 (held_with event limit units cyclic none.0 h))

over_with : (limit units held : ℕ) → held ≡ min limit units → (min limit (held + 1) == limit) ≡ nat_le limit (units + 1)
over_with limit units held h = grind (arith, nat_tests)

silent_where : (limit units : ℕ) (cyclic : Cyclic) → IsHeld limit units cyclic → is_silent cyclic ≡ nat_le limit (units + 1)
silent_where limit units cyclic h =
    rw h.begun (ap (λ (n : ℕ). min n (cyclic.hearing.held + 1) == n) h.limit_is ∙ over_with limit units cyclic.hearing.held h.held)

pub is_held_so_long : IsHeldSoLong
is_held_so_long events cyclic begun fresh none =
    let all = held_all events cyclic.hearing.limit 0 cyclic none (record { begun = begun; limit_is = refl; held = omega (arith, fresh) }) in
    silent_where cyclic.hearing.limit (units_in events) (behind_all events cyclic)
    (subst (λ (n : ℕ). IsHeld cyclic.hearing.limit n (behind_all events cyclic)) (omega arith) all)
