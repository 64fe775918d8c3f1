-- Data that is sent again until it is acknowledged, or until the repeats are used up (IEC 61158-6-10, 4.8).
use Rattle.std.specs.Prelude.{◌+◌, ◌*◌, ◌%◌, ◌==◌, ◌&&◌, ℕ, Bool, true, false, not, Option, Some, None, if◌then◌else◌}
use Rattle.pn_alarms.specs.declared.repeats.Due.{Due}
use Rattle.pn_alarms.specs.declared.repeats.Due.TheVariants.{Nothing, Again, Spent}
use Rattle.pn_alarms.specs.Numbers.{next_number, is_last}

-- The sender of data: after how many units data is sent again, after how many it is given up, the number of the last
-- data, and, while that is not acknowledged, the units since it was first sent.
pub record Sending : Type 0 where
  pub interval : ℕ
  pub limit : ℕ
  pub last : Option ℕ
  pub waiting : Option ℕ

-- RTATimeoutFactor is in 3,200 units, which are 100 milliseconds. RTARetries is the maximum number of repeats.
abbrev pub interval_of : ℕ → ℕ
interval_of factor = factor * 3200

-- Nothing was sent yet. Data is given up at the time of the first repeat that is not allowed.
abbrev pub silent : ℕ → ℕ → Sending
silent factor retries = record { interval = interval_of factor; limit = (retries + 1) * interval_of factor; last = None; waiting = None }

-- The next data is sent.
abbrev pub sent : Sending → Sending
sent s = record { interval = s.interval; limit = s.limit; last = Some (next_number s.last); waiting = Some 0 }

-- What is due this many units after the first sending.
abbrev pub due_at : Sending → ℕ → Due
due_at s units = if units == s.limit then Spent else (if units % s.interval == 0 then Again else Nothing)

-- What is due with the next unit.
abbrev pub due_behind : Sending → Option ℕ → Due
due_behind s None = Nothing
due_behind s (Some units) = due_at s (units + 1)

-- What is due with the next unit: nothing, a repeat, or the end after the last one.
abbrev pub due : Sending → Due
due s = due_behind s s.waiting

-- What is due of either of two senders: that the relation ends comes before that data is sent again.
abbrev pub either_due : Due → Due → Due
either_due one Nothing = one
either_due Spent Again = Spent
either_due Again Again = Again
either_due Nothing Again = Again
either_due one Spent = Spent

-- Whether data is sent again.
abbrev pub is_again : Due → Bool
is_again Nothing = false
is_again Again = true
is_again Spent = false

-- The state after a unit of time.
abbrev pub waiting_behind : Sending → Option ℕ → Option ℕ
waiting_behind s None = None
waiting_behind s (Some units) = if units + 1 == s.limit then None else Some (units + 1)

-- The sender after a unit of time.
abbrev pub ticked : Sending → Sending
ticked s = record { interval = s.interval; limit = s.limit; last = s.last; waiting = waiting_behind s s.waiting }

-- Whether data is sent again after the unit that passed last: a whole number of intervals has passed since it was first sent.
abbrev pub is_repeated_at : Sending → Option ℕ → Bool
is_repeated_at s None = false
is_repeated_at s (Some units) = not (units == 0) && (units % s.interval == 0)

-- Whether data is sent again with the next unit.
abbrev pub is_repeated : Sending → Bool
is_repeated s = is_repeated_at s s.waiting

-- The sender no longer waits for an ACK.
abbrev pub rested : Sending → Sending
rested s = record { interval = s.interval; limit = s.limit; last = s.last; waiting = None }

-- The state after an ACK, which counts if it acknowledges the last data.
abbrev pub acked : Sending → ℕ → Sending
acked s number = if is_last s.last number then rested s else s
