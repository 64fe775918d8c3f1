-- Ticks at all that is beside a controller.
use Rattle.std.proofs.Common.{◌≡◌, ◌≤◌, ◌||◌, ◌++◌, ℕ, zero, suc, Bool, true, false, List, [], ◌∷◌, Option, Some, None, length, refl, ap, ◌∙◌, arith}
use Rattle.std.specs.Prelude.{if◌then◌else◌}
use Rattle.std.proofs.lemmas.List.{length-append}
use Rattle.services.specs.State as ip
use Rattle.services.specs.Leaps as ip_leaps
use Rattle.lldp.specs.Announcement.{announcement}
use Rattle.lldp.specs.State as near
use Rattle.lldp.specs.Leaps as near_leaps
use Rattle.controller_station.specs.Beside.{Beside, NoneSends, said_of, sent_by_tick, ticked, ticks_of}

abbrev with_both : Beside → ip.State → near.State → Beside
with_both beside state neighbour = record beside { ip = state; near = neighbour }

-- ticks pass at both
pub ticks_of_both : (ticks : ℕ) (beside : Beside) → ticks_of ticks beside ≡ with_both beside (ip_leaps.ticks_of ticks beside.ip) (near_leaps.ticks_of ticks beside.near)
ticks_of_both zero beside = refl
ticks_of_both (suc ticks) beside = ap ticked (ticks_of_both ticks beside)

sends_of : (now : near.State) → near_leaps.acts now ≡ false → near.is_sending now ≡ false
sends_of now none = by (near.is_sending now) (near.is_over now.known) none
  where
    by : (sends over : Bool) → (sends || over) ≡ false → sends ≡ false
    by true over none = absurd cc
    by false over none = refl

-- nothing is sent of the IP address, and no LLDP
silent : (beside : Beside) → ip.sent_by_tick beside.ip ≡ None → near.is_sending beside.near ≡ false → sent_by_tick beside ≡ []
silent beside none still =
    ap (λ (f : Option (List ℕ)). ip.frames_in f ++ near.sent_by_tick beside.near (said_of beside)) none
    ∙ ap (λ (b : Bool). if b then announcement (said_of beside) ∷ [] else []) still

pub none_sends : (ticks : ℕ) (beside : Beside) → ip_leaps.NoneSends ticks beside.ip → near_leaps.NoneActs ticks beside.near → NoneSends ticks beside
none_sends ticks beside none still before sooner =
    ap sent_by_tick (ticks_of_both before beside)
    ∙ silent (with_both beside (ip_leaps.ticks_of before beside.ip) (near_leaps.ticks_of before beside.near)) (none before sooner)
    (sends_of (near_leaps.ticks_of before beside.near) (still before sooner))

-- ---- how many frames

pub few_in : (frame : Option (List ℕ)) → length (ip.frames_in frame) ≤ 1
few_in None = omega arith
few_in (Some frame) = omega arith

few_near : (state : near.State) (beside : Beside) → length (near.sent_by_tick state (said_of beside)) ≤ 1
few_near state beside = by (near.is_sending state)
  where
    by : (b : Bool) → length (if b then announcement (said_of beside) ∷ [] else []) ≤ 1
    by true = omega arith
    by false = omega arith

pub few_by_tick : (beside : Beside) → length (sent_by_tick beside) ≤ 2
few_by_tick beside =
    let one = few_in (ip.sent_by_tick beside.ip) in
    let other = few_near beside.near beside in
    let both = length-append (ip.frames_in (ip.sent_by_tick beside.ip)) (near.sent_by_tick beside.near (said_of beside)) in
    omega (arith, one, other, both)
