-- The submodules of a catalogue, with their cyclic data and their parameter records.
use Rattle.std.specs.Prelude.{◌+◌, ◌||◌, ◌==◌, ℕ, suc, min, codes, List, [], ◌∷◌, Bool, Option, Some, None, option_map, ok_or, Result, Ok, Err, if◌then◌else◌}
use Rattle.std.specs.List.{list_any}
use Rattle.std.specs.Str.{bytes_eq}
use Rattle.serde_json.specs.Data.{Data, Items, no_items, item}
use Rattle.serde_json.specs.Find.{get}
use Rattle.catalogue.specs.declared.keys.fault.PlacedFault.{PlacedFault}
use Rattle.catalogue.specs.declared.keys.fault.CatalogueFault.TheVariants.{WrongKind, Number}
use Rattle.catalogue.specs.declared.submodule.ParameterItem.{ParameterItem}
use Rattle.catalogue.specs.declared.keys.fault.Step.TheVariants.{At, Entry}
use Rattle.catalogue.specs.declared.keys.key.Key.{Key}
use Rattle.catalogue.specs.declared.keys.key.Key.TheVariants as key
use Rattle.catalogue.specs.keys.Keys.{name_of}
use Rattle.catalogue.specs.keys.Placed.{at_key, behind}
use Rattle.catalogue.specs.keys.Reader.{◌>>=◌, Reader, number_at, text_at, items_of, list_at}

-- A submodule. A parameter record is an index with its length in octets.
pub record Submodule : Type 0 where
  pub subslot : ℕ
  pub ident : ℕ
  -- octets of input data
  pub input : ℕ
  -- octets of output data
  pub output : ℕ
  pub parameters : List ParameterItem

-- the data types of one octet
unfoldable pub is_octet_type : List ℕ → Bool
is_octet_type name = bytes_eq name (codes "Unsigned8") || bytes_eq name (codes "Integer8")

-- the data types of two octets
unfoldable pub is_word_type : List ℕ → Bool
is_word_type name = bytes_eq name (codes "Unsigned16") || bytes_eq name (codes "Integer16")

-- the data types of four octets
unfoldable pub is_long_type : List ℕ → Bool
is_long_type name = bytes_eq name (codes "Unsigned32") || bytes_eq name (codes "Integer32") || bytes_eq name (codes "Float32")

-- the octets of a data type that has a fixed length
abbrev pub size_of_type : List ℕ → Option ℕ
size_of_type name =
    if is_octet_type name then Some 1
    else (if is_word_type name then Some 2
    else (if is_long_type name then Some 4 else None))

-- the octets of a data item of this type: an OctetString has its own Length
abbrev pub item_of_type : Data → List ℕ → Result ℕ PlacedFault
item_of_type tree name =
    if bytes_eq name (codes "OctetString") then number_at key.Length 1 1440 tree
    else ok_or (size_of_type name) (at_key key.DataType WrongKind)

-- the octets of one data item
unfoldable pub data_item : Reader ℕ
data_item tree = text_at key.DataType tree >>= item_of_type tree

-- the sum of the octets of data items and of those before them, from an entry on: 65,535 if it is greater
abbrev pub octets_in : ℕ → ℕ → Items → Result ℕ PlacedFault
octets_in index before no_items = Ok before
octets_in index before (item tree trees) =
    behind (Entry index) (data_item tree) >>= λ octets. octets_in (suc index) (min (before + octets) 65535) trees

-- the sum of the octets of the data items at a key
unfoldable pub octets_at : Key → Reader ℕ
octets_at key tree = items_of key tree >>= λ trees. behind (At key) (octets_in 0 0 trees)

-- the octets of input and output
unfoldable pub io_in : Reader (ℕ × ℕ)
io_in tree = octets_at key.Input tree >>= λ input. octets_at key.Output tree >>= λ output. Ok (input, output)

-- The octets of input and output of IOData; none without it.
abbrev pub io_within : Option Data → Result (ℕ × ℕ) PlacedFault
io_within None = Ok (0, 0)
io_within (Some io) = behind (At key.IoData) (io_in io)

-- the octets of input and output of a submodule: 0 and 0 if it has no IOData
unfoldable pub io_of : Reader (ℕ × ℕ)
io_of tree = io_within (get (name_of key.IoData) tree)

-- one of the parameter records has this index
abbrev pub has_index : ℕ → List ParameterItem → Bool
has_index index items = list_any (λ other. other.index == index) items

-- one of the submodules has this subslot
abbrev pub has_subslot : ℕ → List Submodule → Bool
has_subslot subslot submodules = list_any (λ other. other.subslot == subslot) submodules

-- the place of the first entry that passes a test, counted from 0
abbrev pub place_where : {A : Type 0} → (A → Bool) → List A → Option ℕ
place_where test [] = None
place_where test (entry ∷ entries) = if test entry then Some 0 else option_map suc (place_where test entries)

-- the place of the first submodule with this subslot
abbrev pub place_of : ℕ → List Submodule → Option ℕ
place_of subslot submodules = place_where (λ other. other.subslot == subslot) submodules

-- what is read if nothing repeats, and else a fault of the number at its key
abbrev pub unless : {A : Type 0} → Key → Bool → Result A PlacedFault → Result A PlacedFault
unless key repeats read = if repeats then Err (at_key key Number) else read

-- a parameter record, whose index no record before it has
unfoldable pub parameter : List ParameterItem → Reader ParameterItem
parameter before tree =
    number_at key.Index 0 32767 tree >>= λ index.
    unless key.Index (has_index index before) (
    number_at key.Length 1 64 tree >>= λ length.
    Ok (record { index = index; length = length }))

-- a submodule, whose subslot no submodule before it has
unfoldable pub submodule : List Submodule → Reader Submodule
submodule before tree =
    number_at key.Subslot 1 36863 tree >>= λ subslot.
    unless key.Subslot (has_subslot subslot before) (
    number_at key.SubmoduleIdentNumber 0 4294967295 tree >>= λ ident.
    io_of tree >>= λ io.
    list_at key.ParameterRecordDataItem parameter tree >>= λ parameters.
    Ok (record { subslot = subslot; ident = ident; input = io.0; output = io.1; parameters = parameters }))
