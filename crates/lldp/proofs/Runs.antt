-- Neighbours over any list of events.
use Rattle.std.proofs.Common.{◌≡◌, ℕ, ◌+◌, ◌-◌, ◌*◌, ◌≤◌, ◌<◌, ◌==◌, Bool, true, false, List, [], ◌∷◌, Option, Some, None, refl, sym, ap, subst, ◌∙◌, arith}
use Rattle.std.specs.Prelude.{nat_le, nat_lt, if◌then◌else◌}
use Rattle.std.proofs.lemmas.Bool.{leb-true}
use Rattle.std.proofs.lemmas.Bool.Decides.{nat_tests}
use Rattle.pn_values.specs.declared.mac.Mac.{Mac}
use Rattle.lldp.specs.Peer.{Peer, Told}
use Rattle.lldp.specs.Frame.{told_in}
use Rattle.lldp.specs.State.{State, Known, after_told, heard, is_sending, older, ticked}
use Rattle.lldp.specs.Run.{Event, Hears, Ticks, TellsNothing, after, ticks_in}
use Rattle.lldp.proofs.Hearing.{dropped, learnt}

-- ---- announcements

same_next : (state : State) (told : Option Told) → (after_told state told).next ≡ state.next
same_next state None = refl
same_next state (Some told) = refl

heard_next : (state : State) (bytes : List ℕ) → (heard state bytes).next ≡ state.next
unfolding heard
heard_next state bytes = same_next state (told_in state.mac bytes)

ticked_next : (next : ℕ) → 1 < next → (if nat_le next 1 then 160000 else next - 1) ≡ next - 1
ticked_next next more = let not : nat_le next 1 ≡ false = grind (arith, nat_tests) in rw not refl

-- the time to the next announcement runs down
next_after : (state : State) (events : List Event) (left : ℕ) → state.next ≡ left → ticks_in events < left → (after state events).next ≡ left - ticks_in events
next_after state [] left e few = e ∙ omega arith
next_after state (Hears bytes ∷ events) left e few = next_after (heard state bytes) events left (heard_next state bytes ∙ e) few
next_after state (Ticks ∷ events) left e few =
    let more : 1 < left = omega (arith, few) in
    let one : (ticked state).next ≡ left - 1 = ap (λ (n : ℕ). if nat_le n 1 then 160000 else n - 1) e ∙ ticked_next left more in
    let on = next_after (ticked state) events (left - 1) one (omega (arith, few)) in
    let sum : left - 1 - ticks_in events ≡ left - (1 + ticks_in events) = omega arith in
    on ∙ sum

sent_next : (state : State) → is_sending state ≡ true → (ticked state).next ≡ 160000
sent_next state due = rw due refl

due_last : (passed : ℕ) → passed < 160000 → nat_le (160000 - passed) 1 ≡ (passed + 1 == 160000)
due_last passed few = grind (arith, nat_tests)

pub each_interval : (state : State) (events : List Event) → is_sending state ≡ true → ticks_in events < 160000
    → is_sending (after (ticked state) events) ≡ (ticks_in events + 1 == 160000)
each_interval state events due few =
    ap (λ (n : ℕ). nat_le n 1) (next_after (ticked state) events 160000 (sent_next state due) few) ∙ due_last (ticks_in events) few

-- ---- the neighbour

heard_nothing : (state : State) (bytes : List ℕ) (own : Mac) → state.mac ≡ own → told_in own bytes ≡ None → heard state bytes ≡ state
heard_nothing state bytes own is none = dropped state bytes (ap (λ (m : Mac). told_in m bytes) is ∙ none)

none_after : (state : State) (events : List Event) (own : Mac) → state.mac ≡ own → state.known ≡ None → TellsNothing own events → (after state events).known ≡ None
none_after state [] own is none nothing = none
none_after state (Hears bytes ∷ events) own is none nothing =
    subst (λ (s : State). (after s events).known ≡ None) (sym (heard_nothing state bytes own is nothing.0)) (none_after state events own is none nothing.1)
none_after state (Ticks ∷ events) own is none nothing = none_after (ticked state) events own is (ap older none) nothing

-- the neighbour with these ticks left, after these ticks
abbrev left_of : Peer → ℕ → ℕ → Option Known
left_of peer left passed = if nat_lt passed left then Some (record { peer = peer; left = left - passed }) else None

at_start : (peer : Peer) (left : ℕ) → 0 < left → Some (record { peer = peer; left = left }) ≡ left_of peer left 0
at_start peer left some =
    let is : nat_lt 0 left ≡ true = grind (arith, nat_tests) in
    let same : left - 0 ≡ left = omega arith in
    rw (is, same) refl

over : (peer : Peer) (left passed : ℕ) → left ≤ passed → None ≡ left_of peer left passed
over peer left passed late = let is : nat_lt passed left ≡ false = grind (arith, nat_tests) in rw is refl

one_later : (peer : Peer) (left passed : ℕ) → 1 < left → left_of peer (left - 1) passed ≡ left_of peer left (1 + passed)
one_later peer left passed more =
    let same : nat_lt passed (left - 1) ≡ nat_lt (1 + passed) left = grind (arith, nat_tests) in
    let sum : left - 1 - passed ≡ left - (1 + passed) = omega arith in
    rw (same, sum) refl

ticked_known : (state : State) (events : List Event) (own : Mac) (peer : Peer) (left : ℕ) → state.mac ≡ own → state.known ≡ Some (record { peer = peer; left = left }) → TellsNothing own events
    → ((ticked state).known ≡ Some (record { peer = peer; left = left - 1 }) → 0 < left - 1 → (after (ticked state) events).known ≡ left_of peer (left - 1) (ticks_in events))
    → (last : Bool) → nat_le left 1 ≡ last → (after (ticked state) events).known ≡ left_of peer left (1 + ticks_in events)
ticked_known state events own peer left is known nothing on true e =
    let few : left ≤ 1 = leb-true left 1 e in
    none_after (ticked state) events own is (ap older known ∙ rw e refl) nothing ∙ over peer left (1 + ticks_in events) (omega (arith, few))
ticked_known state events own peer left is known nothing on false e =
    let more : 1 < left = grind (arith, nat_tests) in
    on (ap older known ∙ rw e refl) (omega (arith, more)) ∙ one_later peer left (ticks_in events) more

known_after : (state : State) (events : List Event) (own : Mac) (peer : Peer) (left : ℕ) → state.mac ≡ own → state.known ≡ Some (record { peer = peer; left = left }) → 0 < left
    → TellsNothing own events → (after state events).known ≡ left_of peer left (ticks_in events)
known_after state [] own peer left is known some nothing = known ∙ at_start peer left some
known_after state (Hears bytes ∷ events) own peer left is known some nothing =
    subst (λ (s : State). (after s events).known ≡ left_of peer left (ticks_in events)) (sym (heard_nothing state bytes own is nothing.0)) (known_after state events own peer left is known some nothing.1)
known_after state (Ticks ∷ events) own peer left is known some nothing =
    ticked_known state events own peer left is known nothing (λ on more. known_after (ticked state) events own peer (left - 1) is on more nothing) (nat_le left 1) refl

kept_mac : (state : State) (told : Option Told) → (after_told state told).mac ≡ state.mac
kept_mac state None = refl
kept_mac state (Some told) = refl

heard_mac : (state : State) (bytes : List ℕ) → (heard state bytes).mac ≡ state.mac
unfolding heard
heard_mac state bytes = kept_mac state (told_in state.mac bytes)

pub lives : (state : State) (bytes : List ℕ) (told : Told) (seconds : ℕ) (events : List Event) → told_in state.mac bytes ≡ Some told → told.lifetime ≡ seconds + 1 → TellsNothing state.mac events
    → (after (heard state bytes) events).known ≡ left_of told.peer (told.lifetime * 32000) (ticks_in events)
lives state bytes told seconds events e f nothing =
    known_after (heard state bytes) events state.mac told.peer (told.lifetime * 32000) (heard_mac state bytes) (learnt state bytes told seconds e f) (omega (arith, f)) nothing
