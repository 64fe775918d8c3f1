-- What is due beside a controller comes nearer by at most one with each tick.
use Rattle.std.proofs.Common.{◌≡◌, ◌+◌, ◌-◌, ◌≤◌, ℕ, zero, suc, Bool, true, false, Option, Some, None, if◌then◌else◌, refl, arith}
use Rattle.std.specs.Prelude.{max, min, nat_le}
use Rattle.std.proofs.lemmas.Bool.{leb-true}
use Rattle.services.specs.declared.announcement.Announcement.{Announcement}
use Rattle.services.specs.declared.announcement.Announcement.TheVariants.{Nothing, First, Second}
use Rattle.services.specs.State as ip
use Rattle.services.specs.Leaps as ip_leaps
use Rattle.lldp.specs.State as near
use Rattle.lldp.specs.Leaps as near_leaps
use Rattle.controller_station.specs.Beside.{Beside, due_in, ticked, ticks_of}

-- ---- the services of the IP address

second_by : (left : ℕ) (over : Bool) → nat_le left 1 ≡ over → max 1 left ≤ 1 + ip_leaps.announcement_due_in (if over then Nothing else Second (left - 1))
second_by left true is = let few : left ≤ 1 = leb-true left 1 is in omega (arith, few)
second_by left false is = omega arith

announced_nearer : (announcement : Announcement) → ip_leaps.announcement_due_in announcement ≤ 1 + ip_leaps.announcement_due_in (ip.announcement_after announcement)
announced_nearer Nothing = omega arith
announced_nearer First = omega arith
announced_nearer (Second left) = second_by left (nat_le left 1) refl

defended_by : (defended : Bool) (due later : ℕ) → due ≤ 1 + later → (if defended then 1 else due) ≤ 1 + later
defended_by true due later nearer = omega arith
defended_by false due later nearer = nearer

ip_nearer : (state : ip.State) → ip_leaps.due_in state ≤ 1 + ip_leaps.due_in (ip.ticked state)
ip_nearer state =
    defended_by (ip.is_defended state) (ip_leaps.announcement_due_in state.announcement) (ip_leaps.announcement_due_in (ip.announcement_after state.announcement)) (announced_nearer state.announcement)

-- ---- the neighbour

next_by : (next : ℕ) (sends : Bool) → nat_le next 1 ≡ sends → max next 1 ≤ 1 + max (if sends then 160000 else next - 1) 1
next_by next true is = let few : next ≤ 1 = leb-true next 1 is in omega (arith, few)
next_by next false is = omega arith

known_by : (known : near.Known) (over : Bool) (most later : ℕ) → nat_le known.left 1 ≡ over → most ≤ 1 + later
    → min (max 1 known.left) most ≤ 1 + near_leaps.sooner (if over then None else Some (record known { left = known.left - 1 })) later
known_by known true most later is nearer = omega (arith, nearer)
known_by known false most later is nearer = omega (arith, nearer)

known_nearer : (known : Option near.Known) (most later : ℕ) → most ≤ 1 + later → near_leaps.sooner known most ≤ 1 + near_leaps.sooner (near.older known) later
known_nearer None most later nearer = nearer
known_nearer (Some known) most later nearer = known_by known (nat_le known.left 1) most later refl nearer

near_nearer : (state : near.State) → near_leaps.due_in state ≤ 1 + near_leaps.due_in (near.ticked state)
near_nearer state = known_nearer state.known (max state.next 1) (max (near.ticked state).next 1) (next_by state.next (near.is_sending state) refl)

-- ---- both

one_nearer : (beside : Beside) → due_in beside ≤ 1 + due_in (ticked beside)
one_nearer beside = omega (arith, ip_nearer beside.ip, near_nearer beside.near)

pub ticks_nearer : (ticks : ℕ) (beside : Beside) → due_in beside ≤ ticks + due_in (ticks_of ticks beside)
ticks_nearer zero beside = omega arith
ticks_nearer (suc ticks) beside = omega (arith, ticks_nearer ticks beside, one_nearer (ticks_of ticks beside))
