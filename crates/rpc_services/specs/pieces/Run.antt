-- The joiner over any list of events.
use Rattle.std.specs.Prelude.{◌≡◌, ◌+◌, ◌==◌, ◌&&◌, ◌<◌, ◌≤◌, not, ℕ, zero, suc, Bool, true, false, List, [], ◌∷◌, ◌++◌, ◌⊎◌, length, Option, Some, None, if◌then◌else◌}
use Rattle.std.specs.List.{list_any}
use Rattle.rpc_core.specs.declared.call_headers.call.Head.{Head}
use Rattle.rpc_services.specs.declared.pieces.piece.Kind.{Kind}
use Rattle.rpc_services.specs.pieces.Piece.{Piece, is_activity, is_last, is_same, number_of, piece_of}
use Rattle.rpc_services.specs.pieces.State.{State, at_place, heard, holds, started, starts, ticked, whole_bytes}
use Rattle.rpc_services.specs.pieces.Split.{IsSendable, piece_bytes, pieces_in}

-- What happens: the body of a datagram, or a tick.
pub data Event : Type 0 where
  Hears : (bytes : List ℕ) → Event
  Ticks : Event

-- the state after an event
abbrev pub after_event : State → Event → State
after_event state (Hears bytes) = heard state bytes
after_event state Ticks = ticked state

-- the state after events, the first one first
abbrev pub after : State → List Event → State
after state [] = state
after state (event ∷ events) = after (after_event state event) events

-- how many ticks are among the events
abbrev pub ticks_in : List Event → ℕ
ticks_in [] = 0
ticks_in (Ticks ∷ events) = 1 + ticks_in events
ticks_in (Hears bytes ∷ events) = ticks_in events

-- ---- what is joined

-- the state after events since the start, the last one first
abbrev pub since : Kind → List Event → State
since kind [] = started kind
since kind (event ∷ past) = after_event (since kind past) event

-- this event is among these
abbrev pub IsAmong : Event → List Event → Type 0
IsAmong event [] = ⊥
IsAmong event (other ∷ others) = (other ≡ event) ⊎ IsAmong event others

-- a fragment with this number and these octets, of the activity and sequence of this header, is among these events
pub record WasHeard (kind : Kind) (past : List Event) (h : Head) (nth : ℕ) (brought : List ℕ) : Type 0 where
  pub bytes : List ℕ
  pub piece : Piece
  pub came : IsAmong (Hears bytes) past
  pub read : piece_of kind bytes ≡ Some piece
  pub same : is_same piece.head h ≡ true
  pub number : number_of piece ≡ nth
  pub octets : piece.octets ≡ brought

-- these octets are those of the first fragments of a call, as many as this, in the order of their numbers
abbrev pub IsJoined : Kind → List Event → Head → ℕ → List ℕ → Type 0
IsJoined kind past h zero octets = octets ≡ []
IsJoined kind past h (suc number) octets =
    (front : List ℕ) × (last : List ℕ) × (octets ≡ front ++ last) × IsJoined kind past h number front × WasHeard kind past h number last

-- a first fragment with this header is among these events
pub record Began (kind : Kind) (past : List Event) (h : Head) : Type 0 where
  pub bytes : List ℕ
  pub piece : Piece
  pub came : IsAmong (Hears bytes) past
  pub read : piece_of kind bytes ≡ Some piece
  pub number : number_of piece ≡ 0
  pub head : piece.head ≡ h

-- The whole is that of a call of which these are the fragments, up to the last one, which is the body of a datagram that comes
-- after these events. Object, interface, operation and all else of its header but flags and length are those of a first fragment
-- of this call.
pub record IsCompleted (kind : Kind) (past : List Event) (bytes written : List ℕ) : Type 0 where
  pub piece : Piece
  pub h : Head
  pub octets : List ℕ
  pub read : piece_of kind bytes ≡ Some piece
  pub last : is_last piece.head.opening.flags ≡ true
  pub same : is_same piece.head h ≡ true
  pub began : Began kind (Hears bytes ∷ past) h
  pub joined : IsJoined kind (Hears bytes ∷ past) h (number_of piece + 1) octets
  pub whole : written ≡ whole_bytes h octets

-- ---- how long

-- whether the body of a datagram is a first fragment of this call
abbrev pub begins : Head → Option Piece → Bool
begins h None = false
begins h (Some p) = (number_of p == 0) && is_same h p.head

-- no event is a first fragment of this call
abbrev pub BeginsNone : Kind → Head → List Event → Type 0
BeginsNone kind h [] = Unit {0}
BeginsNone kind h (Hears bytes ∷ events) = (begins h (piece_of kind bytes) ≡ false) × BeginsNone kind h events
BeginsNone kind h (Ticks ∷ events) = BeginsNone kind h events

-- whether the body of a datagram begins this call: a first fragment of it, unless the call is in the place that it goes to
abbrev pub starts_it : State → Head → Option Piece → Bool
starts_it state h None = false
starts_it state h (Some p) = is_same h p.head && starts (at_place state p) p

-- no event begins this call; its first fragment may be repeated while the call is there
abbrev pub StartsNone : State → Head → List Event → Type 0
StartsNone state h [] = Unit {0}
StartsNone state h (Hears bytes ∷ events) = (starts_it state h (piece_of state.kind bytes) ≡ false) × StartsNone (heard state bytes) h events
StartsNone state h (Ticks ∷ events) = StartsNone (ticked state) h events

-- ---- a call that was split

-- What comes of a call that was split: one of its fragments, the body of another datagram, or a tick.
pub data Arrival : Type 0 where
  Comes : (number : ℕ) → Arrival
  Brings : (bytes : List ℕ) → Arrival
  Passes : Arrival

-- each fragment that comes is one of this many
abbrev pub AreOf : ℕ → List Arrival → Type 0
AreOf most [] = Unit {0}
AreOf most (Comes number ∷ arrivals) = (number < most) × AreOf most arrivals
AreOf most (Brings bytes ∷ arrivals) = AreOf most arrivals
AreOf most (Passes ∷ arrivals) = AreOf most arrivals

-- the events that they are
abbrev pub events_of : Head → Bool → List ℕ → List Arrival → List Event
events_of h wanted body [] = []
events_of h wanted body (Comes number ∷ arrivals) = Hears (piece_bytes h wanted number body) ∷ events_of h wanted body arrivals
events_of h wanted body (Brings bytes ∷ arrivals) = Hears bytes ∷ events_of h wanted body arrivals
events_of h wanted body (Passes ∷ arrivals) = Ticks ∷ events_of h wanted body arrivals

-- how many ticks are among them
abbrev pub passed_in : List Arrival → ℕ
passed_in [] = 0
passed_in (Passes ∷ arrivals) = 1 + passed_in arrivals
passed_in (Comes number ∷ arrivals) = passed_in arrivals
passed_in (Brings bytes ∷ arrivals) = passed_in arrivals

-- the number of the fragment that comes next, after one of this many fragments: the last one always comes next
abbrev pub next_after : ℕ → ℕ → ℕ → ℕ
next_after most next number = if (number == next) && not (number + 1 == most) then next + 1 else next

-- the number of the fragment that comes next, after these arrivals
abbrev pub next_of : ℕ → ℕ → List Arrival → ℕ
next_of most next [] = next
next_of most next (Comes number ∷ arrivals) = next_of most (next_after most next number) arrivals
next_of most next (Brings bytes ∷ arrivals) = next_of most next arrivals
next_of most next (Passes ∷ arrivals) = next_of most next arrivals

-- the body of a datagram is no fragment of this activity, and does not take the place of this call
abbrev pub IsBeside : State → Head → Option Piece → Type 0
IsBeside state h None = Unit {0}
IsBeside state h (Some p) = (is_activity h p.head ≡ false) × (holds h (at_place state p) ≡ false)

-- each of the other datagrams is of another activity, or no fragment, and leaves this call in its place
abbrev pub AreBeside : State → Head → Bool → List ℕ → List Arrival → Type 0
AreBeside state h wanted body [] = Unit {0}
AreBeside state h wanted body (Comes number ∷ arrivals) = AreBeside (heard state (piece_bytes h wanted number body)) h wanted body arrivals
AreBeside state h wanted body (Brings bytes ∷ arrivals) = IsBeside state h (piece_of state.kind bytes) × AreBeside (heard state bytes) h wanted body arrivals
AreBeside state h wanted body (Passes ∷ arrivals) = AreBeside (ticked state) h wanted body arrivals

-- The fragments of this call can be joined: its header can be sent, its body is not too long, the call is not unfinished, and
-- these arrivals are of its fragments and take fewer than 64,000 ticks. Other activities may come between; none of them takes the place of
-- this call.
pub record CanJoin (state : State) (h : Head) (wanted : Bool) (body : List ℕ) (arrivals : List Arrival) : Type 0 where
  pub head : IsSendable state.kind h
  pub few : length body ≤ 4152
  pub places : length state.calls ≡ 4
  pub fresh : list_any (holds h) state.calls ≡ false
  pub fragments : AreOf (pieces_in (length body)) arrivals
  pub soon : passed_in arrivals < 64000
  pub others : AreBeside state h wanted body arrivals
