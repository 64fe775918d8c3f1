-- Several ticks at once, and as many ticks one by one.
use Rattle.std.proofs.Common.{◌≡◌, ◌+◌, ◌-◌, ◌≤◌, ◌<◌, ◌&&◌, ◌||◌, inl, inr, ℕ, zero, suc, Bool, true, false, None, refl, sym, ap, subst, ◌∙◌, arith}
use Rattle.std.specs.Prelude.{max, not, nat_eq, nat_le, if◌then◌else◌}
use Rattle.std.proofs.lemmas.Bool.Decides.{nat_tests}
use Rattle.services.specs.declared.announcement.Announcement.{Announcement}
use Rattle.services.specs.declared.announcement.Announcement.TheVariants.{Nothing, First, Second}
use Rattle.services.specs.State.{State, announcement_after, announces, is_defended, is_due, sent_by_tick, ticked}
use Rattle.services.specs.Leaps.{IsNextToSend, NoneSends, announcement_due_in, announcement_later, due_in, ticks_of}

-- ---- the closed form

abbrev with_counts : State → Announcement → Bool → ℕ → State
with_counts state announcement defends guard = record state { announcement = announcement; defends = defends; guard = guard }

abbrev pub later : ℕ → State → State
later ticks state = with_counts state (announcement_later ticks state.announcement) (state.defends && nat_eq ticks 0) (state.guard - ticks)

same_later : (announcement : Announcement) → announcement_later 0 announcement ≡ announcement
same_later Nothing = refl
same_later First = refl
same_later (Second left) = let same : left - 0 ≡ left = omega arith in ap (λ (n : ℕ). Second n) same

and_true : (b : Bool) → (b && true) ≡ b
and_true true = refl
and_true false = refl

and_false : (b : Bool) → (b && false) ≡ false
and_false true = refl
and_false false = refl

no_more : (b : Bool) (ticks : ℕ) → (b && nat_eq (suc ticks) 0) ≡ false
no_more b ticks = let some : nat_eq (suc ticks) 0 ≡ false = grind (arith, nat_tests) in ap (λ (c : Bool). b && c) some ∙ and_false b

pub later_none : (state : State) → later 0 state ≡ state
later_none state =
    let guard : state.guard - 0 ≡ state.guard = omega arith in
    ap (λ (a : Announcement). with_counts state a (state.defends && true) (state.guard - 0)) (same_later state.announcement)
    ∙ (ap (λ (b : Bool). with_counts state state.announcement b (state.guard - 0)) (and_true state.defends)
    ∙ ap (with_counts state state.announcement state.defends) guard)

-- ---- before the tick that is due

not_due : (ticks : ℕ) (announcement : Announcement) → ticks + 1 < announcement_due_in announcement → is_due (announcement_later ticks announcement) ≡ false
not_due ticks Nothing few = refl
not_due ticks First few = absurd (omega (arith, few))
not_due ticks (Second left) few = let more : 1 < left - ticks = omega (arith, few) in grind (arith, nat_tests)

after_later : (ticks : ℕ) (announcement : Announcement) → ticks + 1 < announcement_due_in announcement
    → announcement_after (announcement_later ticks announcement) ≡ announcement_later (suc ticks) announcement
after_later ticks Nothing few = refl
after_later ticks First few = absurd (omega (arith, few))
after_later ticks (Second left) few =
    let more : nat_le (left - ticks) 1 ≡ false = not_due ticks (Second left) few in
    let one : left - ticks - 1 ≡ left - suc ticks = omega arith in
    ap (λ (b : Bool). if b then Nothing else Second (left - ticks - 1)) more ∙ ap (λ (n : ℕ). Second n) one

-- whether a conflict is defended, from its parts
abbrev defended : Bool → ℕ → Announcement → Bool
defended defends guard announcement = defends && nat_le guard 1 && not (is_due announcement)

not_defended : (ticks : ℕ) (state : State) → is_defended state ≡ false → is_defended (later ticks state) ≡ false
not_defended zero state none = ap is_defended (later_none state) ∙ none
not_defended (suc ticks) state none =
    ap (λ (b : Bool). defended b (state.guard - suc ticks) (announcement_later (suc ticks) state.announcement)) (no_more state.defends ticks)

quiet_by : (b : Bool) (ticks : ℕ) (announcement : Announcement) → ticks + 1 < (if b then 1 else announcement_due_in announcement) → (b ≡ false) × (ticks + 1 < announcement_due_in announcement)
quiet_by true ticks announcement few = absurd (omega (arith, few))
quiet_by false ticks announcement few = (refl, few)

none_or : (one other : Bool) → one ≡ false → other ≡ false → (one || other) ≡ false
none_or one other e f = rw (e, f) refl

silent : (ticks : ℕ) (state : State) → ticks + 1 < due_in state → announces (later ticks state) ≡ false
silent ticks state few =
    let quiet = quiet_by (is_defended state) ticks state.announcement few in
    none_or (is_due (announcement_later ticks state.announcement)) (is_defended (later ticks state)) (not_due ticks state.announcement quiet.1) (not_defended ticks state quiet.0)

later_next : (ticks : ℕ) (state : State) → ticks + 1 < due_in state → ticked (later ticks state) ≡ later (suc ticks) state
later_next ticks state few =
    let quiet = quiet_by (is_defended state) ticks state.announcement few in
    let guard : state.guard - ticks - 1 ≡ state.guard - suc ticks = omega arith in
    ap (λ (b : Bool). with_counts state (announcement_after (announcement_later ticks state.announcement)) false (if b then 320000 else state.guard - ticks - 1)) (not_defended ticks state quiet.0)
    ∙ (ap (λ (a : Announcement). with_counts state a false (state.guard - ticks - 1)) (after_later ticks state.announcement quiet.1)
    ∙ (ap (λ (b : Bool). with_counts state (announcement_later (suc ticks) state.announcement) b (state.guard - ticks - 1)) (sym (no_more state.defends ticks))
    ∙ ap (with_counts state (announcement_later (suc ticks) state.announcement) (state.defends && nat_eq (suc ticks) 0)) guard))

pub ticks_later : (ticks : ℕ) (state : State) → ticks < due_in state → ticks_of ticks state ≡ later ticks state
ticks_later zero state few = sym (later_none state)
ticks_later (suc ticks) state few =
    ap ticked (ticks_later ticks state (omega (arith, few))) ∙ later_next ticks state (omega (arith, few))

sent_none : (state : State) → announces state ≡ false → sent_by_tick state ≡ None
sent_none state none = rw none refl

-- no tick before the one that is due sends a frame
pub none_sends : (ticks : ℕ) (state : State) → ticks < due_in state → NoneSends ticks state
none_sends ticks state few before earlier =
    ap sent_by_tick (ticks_later before state (omega (arith, few, earlier)))
    ∙ sent_none (later before state) (silent before state (omega (arith, few, earlier)))

-- ---- the tick that is due

announced : (state : State) → is_due state.announcement ≡ true → announces state ≡ true
announced state due = ap (λ (b : Bool). b || is_defended state) due

either : (one other : Bool) → other ≡ true → (one || other) ≡ true
either true other e = refl
either false other e = e

-- the second announcement is the next one
last_of_second : (left : ℕ) → is_due (Second (left - (max 1 left - 1))) ≡ true
last_of_second left = let few : left - (max 1 left - 1) ≤ 1 = omega arith in grind (arith, nat_tests)

second_due : (left : ℕ) (state : State) → is_defended state ≡ false → state.announcement ≡ Second left → announces (ticks_of (max 1 left - 1) state) ≡ true
second_due left state d e =
    let ticks = max 1 left - 1 in
    let due : due_in state ≡ max 1 left = ap (λ (b : Bool). if b then 1 else announcement_due_in state.announcement) d ∙ ap announcement_due_in e in
    let few : ticks < due_in state = subst (λ (n : ℕ). ticks < n) (sym due) (omega arith) in
    let is = ap (λ (a : Announcement). is_due (announcement_later ticks a)) e ∙ last_of_second left in
    ap announces (ticks_later ticks state few) ∙ announced (later ticks state) is

pub next_by : (b : Bool) (announcement : Announcement) (state : State) → is_defended state ≡ b → state.announcement ≡ announcement
    → IsNextToSend (if b then 1 else announcement_due_in announcement) state
next_by true announcement state d e = inr (either (is_due state.announcement) (is_defended state) d)
next_by false Nothing state d e = inl refl
next_by false First state d e = inr (announced state (ap is_due e))
next_by false (Second left) state d e = inr (second_due left state d e)
