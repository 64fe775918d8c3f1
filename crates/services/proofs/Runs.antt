-- The services over any list of events.
use Rattle.std.proofs.Common.{◌≡◌, ℕ, ◌+◌, ◌-◌, ◌≤◌, ◌<◌, ◌==◌, ◌||◌, ◌&&◌, Bool, true, false, List, [], ◌∷◌, Result, Ok, Err, refl, sym, ap, subst, ◌∙◌, arith}
use Rattle.std.specs.Prelude.{not, nat_eq, nat_le, if◌then◌else◌}
use Rattle.std.specs.Cmp.Lexicographic.{pointwise}
use Rattle.std.proofs.lemmas.Bool.{eq-eqb, leb-true}
use Rattle.std.proofs.lemmas.Bool.Decides.{nat_tests}
use Rattle.pn_values.specs.IpSuite.{is_zero}
use Rattle.frame_codec.specs.declared.fault.FrameFault.{FrameFault}
use Rattle.frame_codec.specs.Meaning.{Meaning, Content, RealTime, ArpPacket, UdpDatagram}
use Rattle.frame_codec.specs.Frame.{frame_of}
use Rattle.services.specs.declared.announcement.Announcement.{Announcement}
use Rattle.services.specs.declared.announcement.Announcement.TheVariants.{Nothing, First, Second}
use Rattle.services.specs.State.{State, announcement_after, announcement_for, disputed, is_defended, is_due, observed, ticked}
use Rattle.services.specs.Answer.{heard, after_layers, after_content, is_conflict}
use Rattle.services.specs.Run.{Event, Hears, Ticks, Observes, after, ticks_in, KeepsAddress}

-- ---- what a frame leaves as it is

-- the states agree on the address, on what must be announced, and on the guard
pub record Agrees (one other : State) : Type 0 where
  pub address : one.address ≡ other.address
  pub announcement : one.announcement ≡ other.announcement
  pub guard : one.guard ≡ other.guard

agrees_if : (b : Bool) (state : State) → Agrees (if b then disputed state else state) state
agrees_if true state = record { address = refl; announcement = refl; guard = refl }
agrees_if false state = record { address = refl; announcement = refl; guard = refl }

agrees_content : (state : State) (content : Content) → Agrees (after_content state content) state
agrees_content state (RealTime frame_id body) = record { address = refl; announcement = refl; guard = refl }
agrees_content state (ArpPacket packet) = agrees_if (is_conflict state packet.sender) state
agrees_content state (UdpDatagram from to body) = record { address = refl; announcement = refl; guard = refl }

agrees_layers : (state : State) (layers : Result Meaning FrameFault) → Agrees (after_layers state layers) state
agrees_layers state (Ok meaning) = agrees_content state meaning.content
agrees_layers state (Err fault) = record { address = refl; announcement = refl; guard = refl }

pub agrees : (state : State) (bytes : List ℕ) → Agrees (heard state bytes) state
unfolding heard
agrees state bytes = agrees_layers state (frame_of bytes)

-- ---- announcements

same_list : (xs : List ℕ) → pointwise nat_eq xs xs ≡ true
same_list [] = refl
same_list (x ∷ xs) = rw (eq-eqb x x refl) (same_list xs)

-- the same address is no change
same_address : (state : State) (address : List ℕ) → address ≡ state.address → observed state address ≡ state
same_address state address e = rw (e, same_list state.address) refl

-- what may be still to be announced this many ticks after a change
abbrev IsPlanned : ℕ → Announcement → Type 0
IsPlanned passed Nothing = 64000 < passed
IsPlanned passed First = passed ≡ 0
IsPlanned passed (Second ticks) = (0 < passed) × (0 < ticks) × (ticks + passed ≡ 64001)

planned_second : (b : Bool) (passed ticks : ℕ) → nat_le ticks 1 ≡ b → IsPlanned passed (Second ticks) → IsPlanned (passed + 1) (if b then Nothing else Second (ticks - 1))
planned_second true passed ticks e h = let few : ticks ≤ 1 = leb-true ticks 1 e in omega (arith, h.1, h.2)
planned_second false passed ticks e h = let more : 1 < ticks = grind (arith, nat_tests) in (omega arith, omega arith, omega (arith, h.2))

planned_next : (passed : ℕ) (announcement : Announcement) → IsPlanned passed announcement → IsPlanned (passed + 1) (announcement_after announcement)
planned_next passed Nothing h = omega (arith, h)
planned_next passed First h = (omega arith, omega arith, omega (arith, h))
planned_next passed (Second ticks) h = planned_second (nat_le ticks 1) passed ticks refl h

due_second : (passed ticks : ℕ) → 0 < passed → 0 < ticks → ticks + passed ≡ 64001 → nat_le ticks 1 ≡ (passed == 0 || passed == 64000)
due_second passed ticks some left total = grind (arith, nat_tests)

due_nothing : (passed : ℕ) → 64000 < passed → false ≡ (passed == 0 || passed == 64000)
due_nothing passed late = grind (arith, nat_tests)

due_first : (passed : ℕ) → passed ≡ 0 → true ≡ (passed == 0 || passed == 64000)
due_first passed e = rw e refl

planned_due : (passed : ℕ) (announcement : Announcement) → IsPlanned passed announcement → is_due announcement ≡ (passed == 0 || passed == 64000)
planned_due passed Nothing h = due_nothing passed h
planned_due passed First h = due_first passed h
planned_due passed (Second ticks) h = due_second passed ticks h.0 h.1 h.2

-- the plan goes on while the address stays
planned_after : (state : State) (address : List ℕ) (passed : ℕ) (events : List Event) → state.address ≡ address → IsPlanned passed state.announcement
    → KeepsAddress address events → IsPlanned (passed + ticks_in events) (after state events).announcement
planned_after state address passed [] e h keeps =
    let sum : passed ≡ passed + 0 = omega arith in
    subst (λ (n : ℕ). IsPlanned n state.announcement) sum h
planned_after state address passed (Hears bytes ∷ events) e h keeps =
    let a = agrees state bytes in
    planned_after (heard state bytes) address passed events (a.address ∙ e) (subst (λ (x : Announcement). IsPlanned passed x) (sym a.announcement) h) keeps
planned_after state address passed (Ticks ∷ events) e h keeps =
    let on = planned_after (ticked state) address (passed + 1) events e (planned_next passed state.announcement h) keeps in
    let sum : passed + 1 + ticks_in events ≡ passed + (1 + ticks_in events) = omega arith in
    subst (λ (n : ℕ). IsPlanned n (after (ticked state) events).announcement) sum on
planned_after state address passed (Observes seen ∷ events) e h keeps =
    subst (λ (s : State). IsPlanned (passed + ticks_in events) (after s events).announcement) (sym (same_address state seen (keeps.0 ∙ sym e))) (planned_after state address passed events e h keeps.1)

-- a change to another address
changed : (state : State) (address : List ℕ) → pointwise nat_eq address state.address ≡ false → observed state address ≡ record state { address = address; announcement = announcement_for address; defends = false }
changed state address other = rw other refl

pub announced_twice : (state : State) (address : List ℕ) (events : List Event) → pointwise nat_eq address state.address ≡ false → is_zero address ≡ false
    → KeepsAddress address events → is_due (after (observed state address) events).announcement ≡ (ticks_in events == 0 || ticks_in events == 64000)
announced_twice state address events other some keeps =
    let new : State = record state { address = address; announcement = announcement_for address; defends = false } in
    let first : IsPlanned 0 (announcement_for address) = rw some refl in
    let sum : 0 + ticks_in events ≡ ticks_in events = omega arith in
    let on = subst (λ (n : ℕ). IsPlanned n (after new events).announcement) sum (planned_after new address 0 events refl first keeps) in
    rw changed (planned_due (ticks_in events) (after new events).announcement on)

-- nothing is announced while nothing is planned
silent_after : (state : State) (address : List ℕ) (events : List Event) → state.address ≡ address → state.announcement ≡ Nothing → KeepsAddress address events
    → (after state events).announcement ≡ Nothing
silent_after state address [] e h keeps = h
silent_after state address (Hears bytes ∷ events) e h keeps =
    let a = agrees state bytes in
    silent_after (heard state bytes) address events (a.address ∙ e) (a.announcement ∙ h) keeps
silent_after state address (Ticks ∷ events) e h keeps = silent_after (ticked state) address events e (ap announcement_after h) keeps
silent_after state address (Observes seen ∷ events) e h keeps =
    subst (λ (s : State). (after s events).announcement ≡ Nothing) (sym (same_address state seen (keeps.0 ∙ sym e))) (silent_after state address events e h keeps.1)

pub silent : (state : State) (address : List ℕ) (events : List Event) → pointwise nat_eq address state.address ≡ false → is_zero address ≡ true
    → KeepsAddress address events → is_due (after (observed state address) events).announcement ≡ false
silent state address events other none keeps =
    let new : State = record state { address = address; announcement = announcement_for address; defends = false } in
    let nothing : announcement_for address ≡ Nothing = rw none refl in
    rw changed (ap is_due (silent_after new address events refl nothing keeps))

-- ---- defences

guard_if : (b : Bool) (n guard : ℕ) → n ≤ 320000 → n ≤ guard → n ≤ (if b then 320000 else guard - 1) + 1
guard_if true n guard most least = omega arith
guard_if false n guard most least = omega arith

guard_observed : (b : Bool) (state : State) (address : List ℕ) → (if b then state else record state { address = address; announcement = announcement_for address; defends = false }).guard ≡ state.guard
guard_observed true state address = refl
guard_observed false state address = refl

-- the guard falls by at most one in each tick
guarded : (state : State) (n passed : ℕ) (events : List Event) → n ≤ 320000 → n ≤ state.guard + passed → n ≤ (after state events).guard + (passed + ticks_in events)
guarded state n passed [] most least = omega (arith, least)
guarded state n passed (Hears bytes ∷ events) most least =
    let same = (agrees state bytes).guard in
    guarded (heard state bytes) n passed events most (omega (arith, least, same))
guarded state n passed (Ticks ∷ events) most least =
    let fall = guard_if (is_defended state) (n - passed) state.guard (omega arith) (omega (arith, least)) in
    let on = guarded (ticked state) n (passed + 1) events most (omega (arith, fall)) in
    omega (arith, on)
guarded state n passed (Observes seen ∷ events) most least =
    let same = guard_observed (pointwise nat_eq seen state.address) state seen in
    guarded (observed state seen) n passed events most (omega (arith, least, same))

late : (waits due : Bool) (guard : ℕ) → 2 ≤ guard → (waits && nat_le guard 1 && not due) ≡ false
late waits due guard h = grind (arith, nat_tests)

guard_set : (b : Bool) (guard : ℕ) → b ≡ true → (if b then 320000 else guard - 1) ≡ 320000
guard_set b guard e = rw e refl

pub rare : (state : State) (events : List Event) → is_defended state ≡ true → ticks_in events + 1 < 320000 → is_defended (after (ticked state) events) ≡ false
rare state events defended soon =
    let set = guard_set (is_defended state) state.guard defended in
    let least = guarded (ticked state) 320000 0 events (omega arith) (omega (arith, set)) in
    let last = after (ticked state) events in
    late last.defends (is_due last.announcement) last.guard (omega (arith, least, soon))
