-- The responses that are stored, and what they say of a call.
use Rattle.std.specs.Prelude.{◌≡◌, ◌-◌, ◌==◌, ℕ, Bool, List, [], ◌∷◌, take, nat_eq, nat_lt, Option, Some, None, IsSome, if◌then◌else◌}
use Rattle.std.specs.Cmp.Lexicographic.{pointwise}

-- a stored response: the call that it answers, and its frame
pub record Kept : Type 0 where
  pub activity : List ℕ
  pub sequence : ℕ
  pub frame : List ℕ

-- what the cache says of a call: it is new, it was answered by this frame, or a later call of its activity was answered
pub data Reported : Type 0 where
  new : Reported
  again : List ℕ → Reported
  old : Reported

-- whether a response is one of this activity
abbrev pub is_of : List ℕ → Kept → Bool
is_of activity kept = pointwise nat_eq kept.activity activity

-- the stored response of an activity
abbrev pub kept_of : List ℕ → List Kept → Option Kept
kept_of activity [] = None
kept_of activity (kept ∷ others) = if is_of activity kept then Some kept else kept_of activity others

-- what a response says of a call of its activity
abbrev pub reported_by : ℕ → Option Kept → Reported
reported_by sequence None = new
reported_by sequence (Some kept) = if sequence == kept.sequence then again kept.frame else (if nat_lt sequence kept.sequence then old else new)

-- what a cache says of a call
abbrev pub looked : List ℕ → ℕ → List Kept → Reported
looked activity sequence cache = reported_by sequence (kept_of activity cache)

-- a cache without the response of an activity
abbrev pub without : List ℕ → List Kept → List Kept
without activity [] = []
without activity (kept ∷ others) = if is_of activity kept then others else kept ∷ without activity others

-- A cache of at most this many activities, the newest first, with one more response. It replaces the response of its
-- activity, or else the one that was stored longest ago.
abbrev pub kept_more : ℕ → Kept → List Kept → List Kept
kept_more most kept cache = kept ∷ take (most - 1) (without kept.activity cache)

-- ---- calls one after another

-- the cache after a call, given its response: only a new call changes the cache
abbrev pub behind_reported : ℕ → Kept → List Kept → Reported → List Kept
behind_reported most call cache new = kept_more most call cache
behind_reported most call cache (again frame) = cache
behind_reported most call cache old = cache

-- the cache after a call: only a new call changes it
abbrev pub behind_call : ℕ → Kept → List Kept → List Kept
behind_call most call cache = behind_reported most call cache (looked call.activity call.sequence cache)

-- the frame that answers a call, if it is answered
abbrev pub reported_frame : Kept → Reported → Option (List ℕ)
reported_frame call new = Some call.frame
reported_frame call (again frame) = Some frame
reported_frame call old = None

-- the frame that answers a call at a cache, if it is answered
abbrev pub answer_of : Kept → List Kept → Option (List ℕ)
answer_of call cache = reported_frame call (looked call.activity call.sequence cache)

-- the cache after calls
abbrev pub behind_calls : ℕ → List Kept → List Kept → List Kept
behind_calls most [] cache = cache
behind_calls most (call ∷ calls) cache = behind_calls most calls (behind_call most call cache)

-- the cache holds an activity before, between and after these calls
abbrev pub HoldsThrough : ℕ → List ℕ → List Kept → List Kept → Type 0
HoldsThrough most activity [] cache = IsSome (kept_of activity cache)
HoldsThrough most activity (call ∷ calls) cache = IsSome (kept_of activity cache) × HoldsThrough most activity calls (behind_call most call cache)

-- a call that was answered by this frame and comes again is answered by the same frame or not at all
abbrev pub IsFaithful : List ℕ → Reported → Type 0
IsFaithful frame new = ⊥
IsFaithful frame (again same) = same ≡ frame
IsFaithful frame old = Unit {0}
