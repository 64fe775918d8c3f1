-- The modules that a project puts into slots, and the records that are written to them.
use Rattle.std.specs.Prelude.{◌==◌, ℕ, List, [], ◌∷◌, length, Option, Some, None, ok_or, Result, Ok, Err, if◌then◌else◌}
use Rattle.hex.specs.Hex.{decode_of}
use Rattle.hex.specs.declared.error.FromHexError.{FromHexError}
use Rattle.catalogue.specs.declared.keys.fault.CatalogueFault.{CatalogueFault}
use Rattle.catalogue.specs.declared.keys.fault.PlacedFault.{PlacedFault}
use Rattle.catalogue.specs.declared.keys.fault.CatalogueFault.TheVariants.{WrongKind, Number}
use Rattle.catalogue.specs.declared.submodule.ParameterItem.{ParameterItem}
use Rattle.catalogue.specs.declared.keys.key.Key.{Key}
use Rattle.catalogue.specs.declared.keys.key.Key.TheVariants as key
use Rattle.catalogue.specs.keys.Placed.{at_key, placed}
use Rattle.catalogue.specs.keys.Reader.{◌>>=◌, Reader, whole_at, number_at, text_at, list_at}
use Rattle.catalogue.specs.Submodules.{Submodule}
use Rattle.catalogue.specs.Modules.{Module, submodules_of}

-- A parameter record and the octets that are written to it.
pub record Record : Type 0 where
  pub subslot : ℕ
  pub index : ℕ
  pub octets : List ℕ

-- A slot, the module in it, and the records that are written to that.
pub record Slot : Type 0 where
  pub slot : ℕ
  -- the ID of the module
  pub target : List ℕ
  pub records : List Record

-- octets, or the fault of a text that is not hex
abbrev pub hex_or_fault : Result (List ℕ) FromHexError → Result (List ℕ) CatalogueFault
hex_or_fault (Ok octets) = Ok octets
hex_or_fault (Err _) = Err WrongKind

-- the octets of the text in hex at a key
unfoldable pub octets_at : Key → Reader (List ℕ)
octets_at key tree = text_at key tree >>= λ text. placed key (hex_or_fault (decode_of text))

-- the parameter records of the first submodule with this subslot
abbrev pub parameters_of : ℕ → List Submodule → Option (List ParameterItem)
parameters_of subslot [] = None
parameters_of subslot (entry ∷ entries) = if entry.subslot == subslot then Some entry.parameters else parameters_of subslot entries

-- the length of the first parameter record with this index
abbrev pub length_of : ℕ → List ParameterItem → Option ℕ
length_of index [] = None
length_of index (entry ∷ entries) = if entry.index == index then Some entry.length else length_of index entries

-- octets, if they have this length
abbrev pub of_length : ℕ → List ℕ → Result (List ℕ) PlacedFault
of_length size octets = if length octets == size then Ok octets else Err (at_key key.Data Number)

-- a record: a submodule of its module has it, with its length
unfoldable pub record_item : List Submodule → Reader Record
record_item submodules tree =
    number_at key.Subslot 1 36863 tree >>= λ subslot.
    ok_or (parameters_of subslot submodules) (at_key key.Subslot Number) >>= λ parameters.
    number_at key.Index 0 32767 tree >>= λ index.
    ok_or (length_of index parameters) (at_key key.Index Number) >>= λ size.
    octets_at key.Data tree >>= of_length size >>= λ octets.
    Ok (record { subslot = subslot; index = index; octets = octets })

-- the records of a slot in which this module is
abbrev pub records_of : List Module → List ℕ → Reader (List Record)
records_of modules target tree = list_at key.Records (λ _ entry. record_item (submodules_of target modules) entry) tree

-- a slot, the module in it and its records
unfoldable pub slot_item : List Module → Reader Slot
slot_item modules tree =
    whole_at key.Slot tree >>= λ slot.
    text_at key.ModuleItemTarget tree >>= λ target.
    records_of modules target tree >>= λ records.
    Ok (record { slot = slot; target = target; records = records })
