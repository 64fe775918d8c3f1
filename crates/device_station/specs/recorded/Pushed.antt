-- The calls that are stored: the last 48.
use Rattle.std.specs.Prelude.{◌-◌, List, [], ◌∷◌, ◌++◌, drop, length}
use Rattle.device_station.specs.declared.recorded.entry.Entry.{Entry}

-- an entry after others; the oldest one is dropped if there are 48
abbrev pub pushed : List Entry → Entry → List Entry
pushed recent entry = drop (length recent - 47) recent ++ entry ∷ []
