-- The records that the application answers, as the station names them.
use Rattle.std.specs.Prelude.{◌≡◌, ◌≤◌, ◌<◌, ◌==◌, ◌&&◌, ◌||◌, ◌++◌, ℕ, Bool, true, not, nat_lt, List, [], ◌∷◌, length, Option, Some, None, Result, Ok, Err, if◌then◌else◌}
use Rattle.std.specs.List.{find, list_any}
use Rattle.std.specs.Option.{option_or}
use Rattle.asked_records.specs.declared.names.NameFault.{NameFault}
use Rattle.asked_records.specs.declared.names.NameFault.TheVariants as fault
use Rattle.asked_records.specs.declared.names.RecordName.{RecordName}

-- The most records.
abbrev pub most_names : ℕ
most_names = 16

-- The greatest index of a record of the application.
abbrev pub last_index : ℕ
last_index = 0x7FFF

-- The most octets of a record: what a response of 1,372 octets has room for after its header of 64.
abbrev pub most_octets : ℕ
most_octets = 1308

-- Whether a record has this index in this slot and subslot.
abbrev pub is_named : ℕ → ℕ → ℕ → RecordName → Bool
is_named slot subslot index name = name.slot == slot && (name.subslot == subslot && name.index == index)

-- The record with this index in this slot and subslot, if there is one.
abbrev pub named_at : ℕ → ℕ → ℕ → List RecordName → Option RecordName
named_at slot subslot index names = find (is_named slot subslot index) names

-- ---- which lists are valid

-- A record may have this index, this length, and can be read or written.
pub record IsName (name : RecordName) : Type 0 where
  pub index : name.index ≤ last_index
  pub some : 0 < name.greatest_length
  pub few : name.greatest_length ≤ most_octets
  pub access : (name.is_readable || name.is_writable) ≡ true

-- The first fault of a record by itself.
abbrev pub own_fault : RecordName → Option NameFault
own_fault name =
    if nat_lt last_index name.index then Some fault.Index
    else if name.greatest_length == 0 || nat_lt most_octets name.greatest_length then Some fault.Length
    else if not name.is_readable && not name.is_writable then Some fault.Access
    else None

-- The fault of a record whose place and index an earlier one has.
abbrev pub twice_fault : List RecordName → RecordName → Option NameFault
twice_fault earlier name = if list_any (is_named name.slot name.subslot name.index) earlier then Some fault.Twice else None

-- The first fault of a record that comes after others.
abbrev pub fault_beside : List RecordName → RecordName → Option NameFault
fault_beside earlier name = option_or (own_fault name) (twice_fault earlier name)

-- The first fault of records that come after others.
abbrev pub first_fault : List RecordName → List RecordName → Option NameFault
first_fault earlier [] = None
first_fault earlier (name ∷ names) = option_or (fault_beside earlier name) (first_fault (earlier ++ name ∷ []) names)

-- The records, or their fault.
abbrev pub named_unless : List RecordName → Option NameFault → Result (List RecordName) NameFault
named_unless names (Some fault) = Err fault
named_unless names None = Ok names

-- The records of a station, or the first fault: at most 16 records, and none of them has a fault.
abbrev pub named_of : List RecordName → Result (List RecordName) NameFault
named_of names = if nat_lt most_names (length names) then Err fault.TooMany else named_unless names (first_fault [] names)

-- The number of a fault.
abbrev pub name_number : NameFault → ℕ
name_number fault.TooMany = 1
name_number fault.Index = 2
name_number fault.Length = 3
name_number fault.Access = 4
name_number fault.Twice = 5
