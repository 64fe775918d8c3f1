-- The machine of neighbours: the neighbour that was heard last, and when the next announcement is sent. A tick is 31.25
-- microseconds.
use Rattle.std.specs.Prelude.{◌-◌, ◌*◌, ◌==◌, ◌&&◌, not, ℕ, Bool, false, List, [], ◌∷◌, Option, Some, None, nat_le, nat_eq, if◌then◌else◌}
use Rattle.std.specs.Option.{option_map_or}
use Rattle.std.specs.Cmp.Lexicographic.{pointwise}
use Rattle.pn_values.specs.declared.mac.Mac.{Mac}
use Rattle.lldp.specs.declared.machine.Heard.{Heard}
use Rattle.lldp.specs.declared.machine.Heard.TheVariants.{Nothing, Same, Changed}
use Rattle.lldp.specs.Peer.{Peer, Told, is_same, alias_of}
use Rattle.lldp.specs.Frame.{told_in}
use Rattle.lldp.specs.Announcement.{Station, announcement}

-- The neighbour that is known, and in how many ticks it is forgotten; 0 or 1: in the next tick.
pub record Known : Type 0 where
  pub peer : Peer
  pub left : ℕ

-- The LLDP of a station: its announcements and its neighbour.
pub record State : Type 0 where
  -- the MAC address of this station
  pub mac : Mac
  -- in how many ticks the next announcement is sent; 0 or 1: in the next tick
  pub next : ℕ
  -- the neighbour, if one is known
  pub known : Option Known

-- at the start: the first announcement is sent in the first tick, and no neighbour is known
abbrev pub started : Mac → State
started mac = record { mac = mac; next = 1; known = None }

-- ---- frames

-- whether this neighbour is the known one
abbrev pub is_known : Option Known → Peer → Bool
is_known None peer = false
is_known (Some known) peer = is_same known.peer peer

-- The neighbour after a message: the last one that was heard. A lifetime of 0 seconds forgets this neighbour and no
-- other. A second has 32,000 ticks.
abbrev pub known_after : Option Known → Told → Option Known
known_after known told =
    if told.lifetime == 0 then (if is_known known told.peer then None else known)
    else Some (record { peer = told.peer; left = told.lifetime * 32000 })

-- The state after a message of a neighbour.
abbrev pub after_told : State → Option Told → State
after_told state None = state
after_told state (Some told) = record state { known = known_after state.known told }

-- the state after a frame
unfoldable pub heard : State → List ℕ → State
heard state bytes = after_told state (told_in state.mac bytes)

-- whether the known neighbour is exactly this one, its MAC address included
abbrev pub is_exactly : Option Known → Peer → Bool
is_exactly None peer = false
is_exactly (Some known) peer = is_same known.peer peer && pointwise nat_eq known.peer.mac.octets peer.mac.octets

-- whether a message changes the neighbour that is known
abbrev pub changes : Option Known → Told → Bool
changes known told = if told.lifetime == 0 then is_known known told.peer else not (is_exactly known told.peer)

-- what a frame did: nothing if it carries no message of a neighbour
abbrev pub effect_of : Option Known → Option Told → Heard
effect_of known None = Nothing
effect_of known (Some told) = if changes known told then Changed else Same

-- ---- ticks

-- whether the tick sends an announcement
abbrev pub is_sending : State → Bool
is_sending state = nat_le state.next 1

-- whether the tick forgets the neighbour: its lifetime is over
abbrev pub is_over : Option Known → Bool
is_over None = false
is_over (Some known) = nat_le known.left 1

-- the neighbour after a tick
abbrev pub older : Option Known → Option Known
older None = None
older (Some known) = if nat_le known.left 1 then None else Some (record known { left = known.left - 1 })

-- The state after a tick. An announcement is sent each 160,000 ticks, which is 5 seconds.
abbrev pub ticked : State → State
ticked state = record state { next = if is_sending state then 160000 else state.next - 1; known = older state.known }

-- the frame that a tick sends, if it sends one
abbrev pub sent_by_tick : State → Station → List (List ℕ)
sent_by_tick state station = if is_sending state then announcement station ∷ [] else []

-- ---- the name by the place

-- whether this is the station's name by its place: none is while no neighbour is known
abbrev pub is_alias : State → List ℕ → Bool
is_alias state bytes = option_map_or (λ known. pointwise nat_eq bytes (alias_of known.peer)) state.known false
