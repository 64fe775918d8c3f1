-- One direction of a relation's alarms: what was sent, each PDU of it, and what was accepted.
use Rattle.std.specs.Prelude.{ℕ, List, [], ◌∷◌, ◌++◌, Option}
use Rattle.pn_alarms.specs.declared.receiver.Taken.{Taken}
use Rattle.pn_alarms.specs.declared.receiver.Taken.TheVariants.{New, Again, Refused}
use Rattle.pn_alarms.specs.Receiver.{taken_as}

-- the data that was sent, in order; each data PDU ever sent, with its number; and the data that was accepted, in order
pub record Line (A : Type 0) : Type 0 where
  pub sent : List A
  pub pdus : List (ℕ × A)
  pub taken : List A

-- nothing was sent
abbrev pub empty : {A : Type 0} → Line A
empty = record { sent = []; pdus = []; taken = [] }

-- new data is sent, under this number
abbrev pub with_sent : {A : Type 0} → Line A → ℕ → A → Line A
with_sent line number value = record { sent = line.sent ++ value ∷ []; pdus = line.pdus ++ (number, value) ∷ []; taken = line.taken }

-- data is sent again
abbrev pub with_again : {A : Type 0} → Line A → ℕ → A → Line A
with_again line number value = record { sent = line.sent; pdus = line.pdus ++ (number, value) ∷ []; taken = line.taken }

-- what is accepted, after data arrives
abbrev pub more_taken : {A : Type 0} → List A → A → Taken → List A
more_taken taken value New = taken ++ value ∷ []
more_taken taken value Again = taken
more_taken taken value Refused = taken

-- data arrives; the option is the number of the last data accepted
abbrev pub with_come : {A : Type 0} → Line A → Option ℕ → ℕ × A → Line A
with_come line seen pdu = record { sent = line.sent; pdus = line.pdus; taken = more_taken line.taken pdu.1 (taken_as seen pdu.0) }
