-- Ticks at all that is beside a device.
use Rattle.std.proofs.Common.{◌≡◌, ◌+◌, ◌≤◌, ◌<◌, ◌||◌, ◌&&◌, ◌++◌, ◌⊎◌, ℕ, zero, suc, Bool, true, false, List, [], ◌∷◌, Option, Some, None, refl, ap, subst, ◌∙◌, arith, inl, inr}
use Rattle.std.specs.Prelude.{◌-◌, max, min, nat_le, if◌then◌else◌}
use Rattle.std.proofs.lemmas.Bool.{cases_lt}
use Rattle.std.proofs.lemmas.Bool.Decides.{nat_tests}
use Rattle.services.specs.declared.announcement.Announcement.{Announcement}
use Rattle.services.specs.declared.announcement.Announcement.TheVariants.{Nothing, First, Second}
use Rattle.services.specs.State as ip
use Rattle.services.specs.Leaps as ip_leaps
use Rattle.lldp.specs.Announcement.{announcement}
use Rattle.lldp.specs.State as near
use Rattle.lldp.specs.Leaps as near_leaps
use Rattle.rpc_services.specs.pieces.State as calls
use Rattle.rpc_services.specs.pieces.Leaps as call_leaps
use Rattle.device_station.specs.Serving.{NoNews, NoneSends, Serving, announces, due_in, said_of, sent_by_tick, serving_ticks, ticked}

abbrev with_all : Serving → ip.State → near.State → calls.State → Serving
with_all serving state neighbour pieces = record serving { ip = state; near = neighbour; pieces = pieces }

-- the state after ticks of which none is news
abbrev after_ticks : ℕ → Serving → Serving
after_ticks ticks serving =
    with_all serving (ip_leaps.ticks_of ticks serving.ip) (near_leaps.ticks_of ticks serving.near) (call_leaps.ticks_of ticks serving.pieces)

-- nothing that happens now is news
pub no_more : (before now : Bool) → now ≡ false → (now || before) ≡ before
no_more before now none = ap (λ (b : Bool). b || before) none

over_of : (now : near.State) → near_leaps.acts now ≡ false → near.is_over now.known ≡ false
over_of now none = by (near.is_sending now) (near.is_over now.known) none
  where
    by : (sends over : Bool) → (sends || over) ≡ false → over ≡ false
    by true over none = absurd cc
    by false over none = none

sends_of : (now : near.State) → near_leaps.acts now ≡ false → near.is_sending now ≡ false
sends_of now none = by (near.is_sending now) (near.is_over now.known) none
  where
    by : (sends over : Bool) → (sends || over) ≡ false → sends ≡ false
    by true over none = absurd cc
    by false over none = refl

-- ticks that neither send nor forget
pub ticks_of_all : (ticks : ℕ) (serving : Serving) → near_leaps.NoneActs ticks serving.near
    → serving_ticks ticks serving ≡ with_all serving (ip_leaps.ticks_of ticks serving.ip) (near_leaps.ticks_of ticks serving.near) (call_leaps.ticks_of ticks serving.pieces)
ticks_of_all zero serving none = refl
ticks_of_all (suc ticks) serving none =
    let now = near_leaps.ticks_of ticks serving.near in
    ap ticked (ticks_of_all ticks serving (λ before sooner. none before (omega (arith, sooner))))
    ∙ ap (λ (b : Bool). let after : Serving = record (after_ticks (suc ticks) serving) { has_news = b } in after)
    (no_more serving.has_news (near.is_over now.known) (over_of now (none ticks (omega arith))))

-- nothing is sent of the IP address, and no LLDP
silent : (serving : Serving) → ip.sent_by_tick serving.ip ≡ None → near.is_sending serving.near ≡ false → sent_by_tick serving ≡ []
silent serving none still =
    ap (λ (f : Option (List ℕ)). ip.frames_in f ++ (if announces serving then announcement (said_of serving) ∷ [] else [])) none
    ∙ by serving.is_up (near.is_sending serving.near) still
  where
    by : (up sends : Bool) → sends ≡ false → (if up && sends then announcement (said_of serving) ∷ [] else []) ≡ []
    by true sends still = rw still refl
    by false sends still = refl

pub none_sends : (ticks : ℕ) (serving : Serving) → ip_leaps.NoneSends ticks serving.ip → near_leaps.NoneActs ticks serving.near → NoneSends ticks serving
none_sends ticks serving none still before sooner =
    let earlier : near_leaps.NoneActs before serving.near = λ first less. still first (omega (arith, less, sooner)) in
    ap sent_by_tick (ticks_of_all before serving earlier)
    ∙ silent (after_ticks before serving) (none before sooner)
    (sends_of (near_leaps.ticks_of before serving.near) (still before sooner))

pub no_news : (ticks : ℕ) (serving : Serving) → near_leaps.NoneActs ticks serving.near → NoNews ticks serving
no_news ticks serving still before sooner =
    let earlier : near_leaps.NoneActs before serving.near = λ first less. still first (omega (arith, less, sooner)) in
    ap (λ (s : Serving). near.is_over s.near.known) (ticks_of_all before serving earlier)
    ∙ over_of (near_leaps.ticks_of before serving.near) (still before sooner)

-- ---- before something is due: one tick

abbrev due_by : Bool → Announcement → ℕ
due_by defended announcement = if defended then 1 else ip_leaps.announcement_due_in announcement

-- before the tick that is due no announcement is, and it comes one nearer
announced_later : (announcement : Announcement) → 1 < ip_leaps.announcement_due_in announcement
    → (ip.is_due announcement ≡ false) × (ip_leaps.announcement_due_in announcement ≤ 1 + ip_leaps.announcement_due_in (ip.announcement_after announcement))
announced_later Nothing few = (refl, omega arith)
announced_later First few = absurd (omega (arith, few))
announced_later (Second left) few =
    let later : nat_le left 1 ≡ false = grind (arith, nat_tests) in
    let next : ip_leaps.announcement_due_in (ip.announcement_after (Second left)) ≡ max 1 (left - 1) =
    ap (λ (b : Bool). ip_leaps.announcement_due_in (if b then Nothing else Second (left - 1))) later in
    (later, omega (arith, few, next))

undefended : (defended : Bool) (announcement : Announcement) → 1 < due_by defended announcement → (defended ≡ false) × (1 < ip_leaps.announcement_due_in announcement)
undefended true announcement few = absurd (omega (arith, few))
undefended false announcement few = (refl, few)

none_or : (one other : Bool) → one ≡ false → other ≡ false → (one || other) ≡ false
none_or one other e f = rw (e, f) refl

sent_none : (state : ip.State) → ip.announces state ≡ false → ip.sent_by_tick state ≡ None
sent_none state none = rw none refl

tick_before : (state : ip.State) → 1 < ip_leaps.due_in state → (ip.sent_by_tick state ≡ None) × (ip_leaps.due_in state ≤ 1 + ip_leaps.due_in (ip.ticked state))
tick_before state few =
    let quiet = undefended (ip.is_defended state) state.announcement few in
    let one = announced_later state.announcement quiet.1 in
    let was : ip_leaps.due_in state ≡ ip_leaps.announcement_due_in state.announcement = ap (λ (b : Bool). due_by b state.announcement) quiet.0 in (
      sent_none state (none_or (ip.is_due state.announcement) (ip.is_defended state) one.0 quiet.0),
      omega (arith, was, one.1),
    )

-- the same of the neighbour
few_most : (known : Option near.Known) (most : ℕ) → 1 < near_leaps.sooner known most → 1 < most
few_most None most few = few
few_most (Some known) most few = omega (arith, few)

known_before : (known : Option near.Known) (most later : ℕ) → 1 < near_leaps.sooner known most → most ≤ 1 + later
    → (near.is_over known ≡ false) × (near_leaps.sooner known most ≤ 1 + near_leaps.sooner (near.older known) later)
known_before None most later few counts = (refl, counts)
known_before (Some known) most later few counts =
    let some : 1 < known.left = omega (arith, few) in
    let there : nat_le known.left 1 ≡ false = grind (arith, nat_tests) in
    let next : near_leaps.sooner (near.older (Some known)) later ≡ min (max 1 (known.left - 1)) later =
    ap (λ (b : Bool). near_leaps.sooner (if b then None else Some (record known { left = known.left - 1 })) later) there in
    (there, omega (arith, few, counts, next))

near_before : (state : near.State) → 1 < near_leaps.due_in state
    → (near.is_sending state ≡ false) × (near.is_over state.known ≡ false) × (near_leaps.due_in state ≤ 1 + near_leaps.due_in (near.ticked state))
near_before state few =
    let some : 1 < max state.next 1 = few_most state.known (max state.next 1) few in
    let still : nat_le state.next 1 ≡ false = grind (arith, nat_tests) in
    let next : (near.ticked state).next ≡ state.next - 1 = ap (λ (b : Bool). if b then 160000 else state.next - 1) still in
    let counts : max state.next 1 ≤ 1 + max (near.ticked state).next 1 = omega (arith, some, next) in
    let known = known_before state.known (max state.next 1) (max (near.ticked state).next 1) few counts in
    (still, known.0, known.1)

-- ---- one tick takes one off what is due

announced_nearer : (announcement : Announcement) → 1 < ip_leaps.announcement_due_in announcement
    → (ip_leaps.announcement_due_in announcement ≡ ip_leaps.never) ⊎ (1 + ip_leaps.announcement_due_in (ip.announcement_after announcement) ≤ ip_leaps.announcement_due_in announcement)
announced_nearer Nothing few = inl refl
announced_nearer First few = absurd (omega (arith, few))
announced_nearer (Second left) few =
    let later : nat_le left 1 ≡ false = grind (arith, nat_tests) in
    let next : ip_leaps.announcement_due_in (ip.announcement_after (Second left)) ≡ max 1 (left - 1) =
    ap (λ (b : Bool). ip_leaps.announcement_due_in (if b then Nothing else Second (left - 1))) later in
    inr (omega (arith, few, next))

known_nearer : (known : Option near.Known) (most later : ℕ) → 1 < near_leaps.sooner known most → 1 + later ≤ most
    → 1 + near_leaps.sooner (near.older known) later ≤ near_leaps.sooner known most
known_nearer None most later few counts = counts
known_nearer (Some known) most later few counts =
    let some : 1 < known.left = omega (arith, few) in
    let there : nat_le known.left 1 ≡ false = grind (arith, nat_tests) in
    let next : near_leaps.sooner (near.older (Some known)) later ≡ min (max 1 (known.left - 1)) later =
    ap (λ (b : Bool). near_leaps.sooner (if b then None else Some (record known { left = known.left - 1 })) later) there in
    omega (arith, some, counts, next)

near_nearer : (state : near.State) → 1 < near_leaps.due_in state → 1 + near_leaps.due_in (near.ticked state) ≤ near_leaps.due_in state
near_nearer state few =
    let some : 1 < max state.next 1 = few_most state.known (max state.next 1) few in
    let still : nat_le state.next 1 ≡ false = grind (arith, nat_tests) in
    let next : (near.ticked state).next ≡ state.next - 1 = ap (λ (b : Bool). if b then 160000 else state.next - 1) still in
    let counts : 1 + max (near.ticked state).next 1 ≤ max state.next 1 = omega (arith, some, next) in
    known_nearer state.known (max state.next 1) (max (near.ticked state).next 1) few counts

nearer_by : (never own later neighbour after : ℕ) → (own ≡ never) ⊎ (1 + later ≤ own) → 1 + after ≤ neighbour → min own neighbour < never
    → 1 + min later after ≤ min own neighbour
nearer_by never own later neighbour after (inl none) counts few = omega (arith, none, counts, few)
nearer_by never own later neighbour after (inr one) counts few = omega (arith, one, counts)

tick_nearer : (serving : Serving) → 1 < due_in serving → due_in serving < ip_leaps.never → 1 + due_in (ticked serving) ≤ due_in serving
tick_nearer serving few some =
    let state = serving.ip in
    let quiet = undefended (ip.is_defended state) state.announcement (omega (arith, few)) in
    let was : ip_leaps.due_in state ≡ ip_leaps.announcement_due_in state.announcement = ap (λ (b : Bool). due_by b state.announcement) quiet.0 in
    let one : (ip_leaps.due_in state ≡ ip_leaps.never) ⊎ (1 + ip_leaps.due_in (ip.ticked state) ≤ ip_leaps.due_in state) =
    rw was (announced_nearer state.announcement quiet.1) in
    nearer_by ip_leaps.never (ip_leaps.due_in state) (ip_leaps.due_in (ip.ticked state)) (near_leaps.due_in serving.near) (near_leaps.due_in (near.ticked serving.near)) one
    (near_nearer serving.near (omega (arith, few))) some

-- ---- all ticks before something is due

one_more : (before ticks : ℕ) (serving : Serving) → before < suc ticks → NoneSends ticks serving → sent_by_tick (serving_ticks ticks serving) ≡ []
    → sent_by_tick (serving_ticks before serving) ≡ []
one_more before ticks serving sooner none last = elim (cases_lt before ticks) [
  | inl below ↦ none before below
  | inr above ↦
      let same : ticks ≡ before = omega (arith, sooner, above) in
      subst (λ (n : ℕ). sent_by_tick (serving_ticks n serving) ≡ []) same last
]

pub before_due : (ticks : ℕ) (serving : Serving) → ticks < due_in serving → NoneSends ticks serving × (due_in serving ≤ ticks + due_in (serving_ticks ticks serving))
before_due zero serving few = (λ before sooner. absurd (omega (arith, sooner)), omega arith)
before_due (suc ticks) serving few =
    let fewer : ticks < due_in serving = omega (arith, few) in
    let all = before_due ticks serving fewer in
    let now = serving_ticks ticks serving in
    let soon : 1 < due_in now = omega (arith, few, all.1) in
    let last = tick_before now.ip (omega (arith, soon)) in
    let met = near_before now.near (omega (arith, soon)) in
    let nearer : due_in now ≤ 1 + due_in (ticked now) = omega (arith, last.1, met.2) in (
      λ before sooner. one_more before ticks serving sooner all.0 (silent now last.0 met.0),
      omega (arith, all.1, nearer),
    )

-- each takes one off what is due
pub counts_down : (ticks : ℕ) (serving : Serving) → ticks < due_in serving → due_in serving < ip_leaps.never → ticks + due_in (serving_ticks ticks serving) ≤ due_in serving
counts_down zero serving few some = omega arith
counts_down (suc ticks) serving few some =
    let fewer : ticks < due_in serving = omega (arith, few) in
    let more = (before_due ticks serving fewer).1 in
    let less = counts_down ticks serving fewer some in
    let now = serving_ticks ticks serving in
    let one = tick_nearer now (omega (arith, few, more)) (omega (arith, less, some)) in
    omega (arith, less, one)

-- no tick before something is due changes the neighbour
pub quiet_news : (ticks : ℕ) (serving : Serving) → ticks < due_in serving → NoNews ticks serving
quiet_news ticks serving few before sooner =
    let all = before_due before serving (omega (arith, few, sooner)) in
    let soon : 1 < due_in (serving_ticks before serving) = omega (arith, few, sooner, all.1) in
    (near_before (serving_ticks before serving).near (omega (arith, soon))).1
